-- Grammars as data, and the language of each.
use Rattle.std.specs.Prelude.{ℕ, zero, suc, List, ◌⊎◌}
use Rattle.psm_grammar.specs.Language.{Lang, Test, Token, Nothing, Seq, Many, Image, Any}

-- A part of a grammar over tokens whose kinds are numbered. Its words have values in the last type.
-- V n are the values of the words of nonterminal n, which stands after a token that opens its level
-- (level), or at the same level (next).
pub data Grammar {T N : Type 0} (kind : T → ℕ) (V : N → Type 0) : Type 0 → Type 1 where
  token : {A : Type 0} → Test T A → Grammar kind V A
  level : {A Z : Type 0} → (n : N) → Test T A → (A → V n → Z) → Grammar kind V Z
  next : {A Z : Type 0} → (n : N) → Test T A → (A → V n → Z) → Grammar kind V Z
  nothing : {X : Type 0} → X → Grammar kind V X
  seq : {X Y Z : Type 0} → (X → Y → Z) → Grammar kind V X → Grammar kind V Y → Grammar kind V Z
  or : {X : Type 0} → Grammar kind V X → Grammar kind V X → Grammar kind V X
  ahead : {X : Type 0} → List ℕ → List ℕ → Grammar kind V X → Grammar kind V X → Grammar kind V X
  many : {X : Type 0} → Grammar kind V X → Grammar kind V (List X)
  image : {X Y : Type 0} → (X → Y) → Grammar kind V X → Grammar kind V Y

-- the language of a part at level d, where the nonterminals have these languages one level deeper, and those at the same level
abbrev pub lang : {T N : Type 0} {kind : T → ℕ} {V : N → Type 0} {X : Type 0} → (inner same : (n : N) → Lang T (V n)) → ℕ → Grammar kind V X → Lang T X
lang {kind} inner same d (token test) w x = Token kind test d w x
lang {kind} inner same d (level n test f) w x = Seq f (Token kind test (suc d)) (inner n) w x
lang {kind} inner same d (next n test f) w x = Seq f (Token kind test d) (same n) w x
lang inner same d (nothing y) w x = Nothing y w x
lang inner same d (seq f p q) w x = Seq f (lang inner same d p) (lang inner same d q) w x
lang inner same d (or p q) w x = lang inner same d p w x ⊎ lang inner same d q w x
lang inner same d (ahead ones twos p q) w x = lang inner same d p w x ⊎ lang inner same d q w x
lang inner same d (many p) w x = Many (lang inner same d p) w x
lang inner same d (image f p) w x = Image f (lang inner same d p) w x

-- what each nonterminal stands for
abbrev pub Productions : {T N : Type 0} → (T → ℕ) → (N → Type 0) → Type 1
Productions {N} kind V = (n : N) → Grammar kind V (V n)

-- the words of a nonterminal at level d that use less than h productions one within another
abbrev pub nested : {T N : Type 0} {kind : T → ℕ} {V : N → Type 0} → Productions kind V → ℕ → ℕ → (n : N) → Lang T (V n)
nested prods zero d n w x = ⊥
nested prods (suc h) d n w x = lang (nested prods h (suc d)) (nested prods h d) d (prods n) w x

-- the words of a nonterminal at level d
abbrev pub words : {T N : Type 0} {kind : T → ℕ} {V : N → Type 0} → Productions kind V → ℕ → (n : N) → Lang T (V n)
words prods d n = Any (λ h. nested prods h d n)

-- the words of a part at level d, with no limit on nesting
abbrev pub Spells : {T N : Type 0} {kind : T → ℕ} {V : N → Type 0} {X : Type 0} → Productions kind V → ℕ → Grammar kind V X → Lang T X
Spells prods d g = lang (words prods (suc d)) (words prods d) d g
