-- Languages whose words have values, and the ways to make them of one another.
use Rattle.std.specs.Prelude.{◌≡◌, ℕ, Bool, true, false, nat_eq, List, [], ◌∷◌, ◌++◌, map, if◌then◌else◌}

-- tokens, each with the number of levels of nesting that are open where it is read
abbrev pub Words : Type 0 → Type 0
Words T = List (T × ℕ)

-- the tokens alone
abbrev pub toks : {T : Type 0} → Words T → List T
toks w = map (λ x. x.0) w

-- which words have which values
abbrev pub Lang : Type 0 → Type 0 → Type 1
Lang T X = Words T → X → Type 0

-- n is one of the numbers
abbrev pub has : ℕ → List ℕ → Bool
has n [] = false
has n (k ∷ ks) = if nat_eq n k then true else has n ks

-- the tokens of some kinds, what each of them says, and one of them
pub record Test (T A : Type 0) : Type 0 where
  pub kinds : List ℕ
  pub value : T → A
  pub example : T

-- one token, read at level d
pub record Token {T A : Type 0} (kind : T → ℕ) (test : Test T A) (d : ℕ) (w : Words T) (a : A) : Type 0 where
  pub at : T
  pub whole : w ≡ (at, d) ∷ []
  pub known : has (kind at) test.kinds ≡ true
  pub made : a ≡ test.value at

-- no token
pub record Nothing {T X : Type 0} (x : X) (w : Words T) (z : X) : Type 0 where
  pub whole : w ≡ []
  pub made : z ≡ x

-- a word of L, and then one of K
pub record Seq {T X Y Z : Type 0} (f : X → Y → Z) (L : Lang T X) (K : Lang T Y) (w : Words T) (z : Z) : Type 0 where
  pub front : Words T
  pub back : Words T
  pub one : X
  pub two : Y
  pub whole : w ≡ front ++ back
  pub left : L front one
  pub right : K back two
  pub made : z ≡ f one two

-- words of L one after another, none or more
abbrev pub Many : {T X : Type 0} → Lang T X → Lang T (List X)
Many L w [] = w ≡ []
Many {T} L w (x ∷ xs) = (u : Words T) × (v : Words T) × (w ≡ u ++ v) × L u x × Many L v xs

-- a word of L, with another value
pub record Image {T X Y : Type 0} (f : X → Y) (L : Lang T X) (w : Words T) (z : Y) : Type 0 where
  pub one : X
  pub left : L w one
  pub made : z ≡ f one

-- a word of one of many languages
pub record Any {T X : Type 0} (L : ℕ → Lang T X) (w : Words T) (x : X) : Type 0 where
  pub height : ℕ
  pub word : L height w x
