-- Parts that grammars have often, and how to write what they do not have.
--   p | q by the first token: or p q. By the first two: ahead. {p}: many p. f of p: image f p.
--   [p]: optional p. [q] p: seq f (optional q) p. p [q]: seq f p (optional q). p {q}: seq f p (many q).
--   p {"," p}: listed comma p. {p ";"}: many (before_token p semicolon).
--   "(" p ")" that opens a level: level with a nonterminal for p ")".
-- What one or two tokens do not decide is written with the shared tokens first:
--   name | name "." name: seq f name (optional (after_token dot name)).
--   {CREATE TABLE t ";"} CREATE MODULE m: CREATE {TABLE t ";" CREATE} MODULE m.
--   {DECLARE a ";"} {DECLARE b ";"} e, where a and b differ after DECLARE, and e does not begin with it:
--     nonterminals at the same level, A = [DECLARE A'], A' = a ";" A | b ";" B, B = [DECLARE B'], B' = b ";" B,
--     where A' and B' stand after DECLARE by next.
-- Two tokens decide between parts of which none is empty, so what may be left out takes in what follows it:
--   CHAR [VARYING "(" n ")"] e, where e can begin with the name VARYING: ahead over VARYING "(" n ")" e and e.
use Rattle.std.specs.Prelude.{ℕ, List, ◌∷◌, Option, Some, None}
use Rattle.psm_grammar.specs.Language.{Test}
use Rattle.psm_grammar.specs.Grammar.{Grammar, token, nothing, seq, or, many, image}

abbrev pub earlier : {A B : Type 0} → A → B → A
earlier a b = a

abbrev pub later : {A B : Type 0} → A → B → B
later a b = b

-- one of some kinds of tokens
abbrev pub kinds_of : {T A : Type 0} → List ℕ → (T → A) → T → Test T A
kinds_of kinds value example = record { kinds = kinds; value = value; example = example }

-- [p]
abbrev pub optional : {T N : Type 0} {kind : T → ℕ} {V : N → Type 0} {X : Type 0} → Grammar kind V X → Grammar kind V (Option X)
optional p = or (image Some p) (nothing None)

-- a token that has no value, and then p
abbrev pub after_token : {T N : Type 0} {kind : T → ℕ} {V : N → Type 0} {A X : Type 0} → Test T A → Grammar kind V X → Grammar kind V X
after_token test p = seq later (token test) p

-- p, and then a token that has no value
abbrev pub before_token : {T N : Type 0} {kind : T → ℕ} {V : N → Type 0} {A X : Type 0} → Grammar kind V X → Test T A → Grammar kind V X
before_token p test = seq earlier p (token test)

-- p {"," p}
abbrev pub listed : {T N : Type 0} {kind : T → ℕ} {V : N → Type 0} {A X : Type 0} → Test T A → Grammar kind V X → Grammar kind V (List X)
listed comma p = seq (λ x xs. x ∷ xs) p (many (after_token comma p))
