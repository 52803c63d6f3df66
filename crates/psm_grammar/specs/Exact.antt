-- What an exact reader answers: where the run of a language ends, and what it spells.
use Rattle.std.specs.Prelude.{◌≡◌, ℕ, suc, ◌≤◌, true, List, [], ◌∷◌, ◌++◌, Option, Some, None, Ok, Err}
use Rattle.psm_grammar.specs.Language.{Words, toks, Lang, has}
use Rattle.psm_grammar.specs.Readers.{Wrong, TooDeep, Out}

-- the first item, if there is one
abbrev pub head : {T : Type 0} → List T → Option T
head [] = None
head (t ∷ ts) = Some t

-- no token is read above the limit
abbrev pub Low : {T : Type 0} → ℕ → Words T → Type 0
Low limit [] = Unit {0}
Low limit (x ∷ w) = (x.1 ≤ limit) × Low limit w

-- nothing follows
abbrev pub AtEnd : {T : Type 0} → List T → Type 0
AtEnd k = k ≡ []

-- nothing follows, or a token of one of these kinds
abbrev pub Next : {T : Type 0} → (T → ℕ) → List ℕ → List T → Type 0
Next kind follow [] = Unit {0}
Next kind follow (t ∷ ts) = has (kind t) follow ≡ true

-- w, and k after it, begins with the tokens of front, and goes on with the token that rest begins with
pub record Tracks {T : Type 0} (front w : Words T) (k rest : List T) : Type 0 where
  pub more : List T
  pub split : toks w ++ k ≡ toks front ++ more
  pub same : head more ≡ head rest

-- as long as w, and k after it, has the tokens of front, it has them at the same levels, and w has not ended
abbrev pub Levels : {T : Type 0} → Words T → Words T → List T → Type 0
Levels [] w k = Unit {0}
Levels (f ∷ front) [] k = head k ≡ Some f.0 → ⊥
Levels (f ∷ front) (x ∷ w) k = x.0 ≡ f.0 → (x.1 ≡ f.1) × Levels front w k

-- ts begins with a word of L that has this value alone, and no other word of L goes on as ts does
pub record Good {T X : Type 0} (L : Lang T X) (F : List T → Type 0) (limit : ℕ) (ts : List T) (value : X) (rest : List T) : Type 0 where
  pub front : Words T
  pub parts : ts ≡ toks front ++ rest
  pub spelled : L front value
  pub alone : (x : X) → L front x → x ≡ value
  pub low : Low limit front
  pub only : (w : Words T) (x : X) (k : List T) → L w x → F k → Tracks front w k rest → (w ≡ front) × (x ≡ value)
  pub levels : (w : Words T) (x : X) (k : List T) → L w x → F k → Levels front w k

-- ts is begun as a word of L up to rest, where it is not yet one, and no word of L goes on as ts does there
pub record Bad {T X : Type 0} (L : Lang T X) (F : List T → Type 0) (limit : ℕ) (ts : List T) (rest : List T) : Type 0 where
  pub front : Words T
  pub more : Words T
  pub value : X
  pub parts : ts ≡ toks front ++ rest
  pub begins : L (front ++ more) value
  pub unfinished : (x : X) → L front x → ⊥
  pub low : Low limit front
  pub none : (w : Words T) (x : X) (k : List T) → L w x → F k → Tracks front w k rest → ⊥
  pub levels : (w : Words T) (x : X) (k : List T) → L w x → F k → Levels front w k

-- ts is begun as a word of L up to a token that opens the level above the limit, and each word of L that goes on so opens it there
pub record Deep {T X : Type 0} (L : Lang T X) (F : List T → Type 0) (limit : ℕ) (ts : List T) (rest : List T) : Type 0 where
  pub front : Words T
  pub opening : T
  pub after : List T
  pub more : Words T
  pub value : X
  pub parts : ts ≡ toks front ++ rest
  pub reached : rest ≡ opening ∷ after
  pub begins : L (front ++ (opening, suc limit) ∷ more) value
  pub low : Low limit front
  pub opens : (w : Words T) (x : X) (k : List T) → L w x → F k → Tracks front w k rest → (v : Words T) × (w ≡ front ++ (opening, suc limit) ∷ v)
  pub levels : (w : Words T) (x : X) (k : List T) → L w x → F k → Levels front w k

-- an answer is exact for L, where F may follow and levels up to the limit may be opened
abbrev pub Holds : {T X : Type 0} → Lang T X → (List T → Type 0) → ℕ → List T → Out T X → Type 0
Holds L F limit ts (Ok r) = Good L F limit ts r.0 r.1
Holds L F limit ts (Err (Wrong rest)) = Bad L F limit ts rest
Holds L F limit ts (Err (TooDeep rest)) = Deep L F limit ts rest
