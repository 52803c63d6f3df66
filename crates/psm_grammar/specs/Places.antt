-- Maps on tokens that a grammar does not notice, as one that forgets where each token stands.
use Rattle.std.specs.Prelude.{◌≡◌, ℕ, true, List, map}
use Rattle.psm_grammar.specs.Language.{Words, has, Test}
use Rattle.psm_grammar.specs.Grammar.{Grammar, token, level, next, nothing, seq, or, ahead, many, image, Productions}

-- a word of mapped tokens
abbrev pub moved : {T : Type 0} → (T → T) → Words T → Words T
moved e w = map (λ x. (e x.0, x.1)) w

-- the value of each mapped token is the mapped value
abbrev pub CarriesToken : {T A : Type 0} → (T → ℕ) → (T → T) → (A → A) → Test T A → Type 0
CarriesToken {T} kind e h test = (t : T) → has (kind t) test.kinds ≡ true → test.value (e t) ≡ h (test.value t)

-- the value of each mapped word of a part is mapped by h, where the values of the nonterminals are mapped by v
abbrev pub Carries : {T N : Type 0} {kind : T → ℕ} {V : N → Type 0} {X : Type 0} → (T → T) → ((n : N) → V n → V n) → (X → X) → Grammar kind V X → Type 0
Carries {kind} e v h (token test) = CarriesToken kind e h test
Carries {kind} {V} e v h (level {A} {Z} n test f) = (a : A → A) × CarriesToken kind e a test × ((x : A) (y : V n) → f (a x) (v n y) ≡ h (f x y))
Carries {kind} {V} e v h (next {A} {Z} n test f) = (a : A → A) × CarriesToken kind e a test × ((x : A) (y : V n) → f (a x) (v n y) ≡ h (f x y))
Carries e v h (nothing x) = x ≡ h x
Carries e v h (seq {X} {Y} {Z} f p q) = (a : X → X) × (b : Y → Y) × Carries e v a p × Carries e v b q × ((x : X) (y : Y) → f (a x) (b y) ≡ h (f x y))
Carries e v h (or p q) = Carries e v h p × Carries e v h q
Carries e v h (ahead ones twos p q) = Carries e v h p × Carries e v h q
Carries e v h (many {X} p) = (a : X → X) × Carries e v a p × ((xs : List X) → map a xs ≡ h xs)
Carries e v h (image {X} {Y} f p) = (a : X → X) × Carries e v a p × ((x : X) → f (a x) ≡ h (f x))

-- a grammar does not notice the map on tokens, but for the values
pub record Unnoticed {T N : Type 0} {kind : T → ℕ} {V : N → Type 0} (prods : Productions kind V) (e : T → T) (v : (n : N) → V n → V n) : Type 0 where
  pub kinds : (t : T) → kind (e t) ≡ kind t
  pub values : (n : N) → Carries e v (v n) (prods n)
