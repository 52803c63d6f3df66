-- Readers of tokens, and the reader of each part of a grammar.
use Rattle.std.specs.Prelude.{ℕ, zero, suc, Bool, true, false, ◌&&◌, List, [], ◌∷◌, ◌++◌, length, Option, Some, None, Result, Ok, Err, if◌then◌else◌}
use Rattle.psm_grammar.specs.Language.{has, Test}
use Rattle.psm_grammar.specs.Grammar.{Grammar, token, level, next, nothing, seq, or, ahead, many, image, Productions}

-- why a reader stops, and the tokens from there on
pub data Stop (T : Type 0) : Type 0 where
  Wrong : List T → Stop T
  TooDeep : List T → Stop T

-- a value and the tokens after its word, or why there is none
abbrev pub Out : Type 0 → Type 0 → Type 0
Out T X = Result (X × List T) (Stop T)

abbrev pub Reader : Type 0 → Type 0 → Type 0
Reader T X = List T → Out T X

-- what follows a value that was read
abbrev pub and_then : {T X Y : Type 0} → Out T X → (X → List T → Out T Y) → Out T Y
and_then (Ok r) k = k r.0 r.1
and_then (Err e) k = Err e

-- the first token is of one of these kinds
abbrev pub starts : {T : Type 0} → (T → ℕ) → List ℕ → List T → Bool
starts kind first [] = false
starts kind first (t ∷ ts) = has (kind t) first

-- the first token is of one of these kinds, and the second of one of those
abbrev pub starts_two : {T : Type 0} → (T → ℕ) → List ℕ → List ℕ → List T → Bool
starts_two kind ones twos [] = false
starts_two kind ones twos (t ∷ ts) = has (kind t) ones && starts kind twos ts

-- one token
abbrev pub one : {T A : Type 0} → (T → ℕ) → Test T A → Reader T A
one kind test [] = Err (Wrong [])
one kind test (t ∷ ts) = if has (kind t) test.kinds then Ok (test.value t, ts) else Err (Wrong (t ∷ ts))

-- one part and then another
abbrev pub both : {T X Y Z : Type 0} → (X → Y → Z) → Reader T X → Reader T Y → Reader T Z
both f p q ts = and_then (p ts) (λ x rest. and_then (q rest) (λ y end. Ok (f x y, end)))

-- a part with another value
abbrev pub made : {T X Y : Type 0} → (X → Y) → Reader T X → Reader T Y
made f p ts = and_then (p ts) (λ x rest. Ok (f x, rest))

-- one of two parts, by the first token
abbrev pub pick : {T X : Type 0} → (T → ℕ) → List ℕ → Reader T X → Reader T X → Reader T X
pick kind first p q ts = if starts kind first ts then p ts else q ts

-- one of two parts, by the first two tokens
abbrev pub pick_two : {T X : Type 0} → (T → ℕ) → List ℕ → List ℕ → Reader T X → Reader T X → Reader T X
pick_two kind ones twos p q ts = if starts_two kind ones twos ts then p ts else q ts

-- a part again and again while it starts, at most n times
abbrev pub repeat : {T X : Type 0} → (T → ℕ) → List ℕ → Reader T X → ℕ → Reader T (List X)
repeat kind first p zero ts = Ok ([], ts)
repeat kind first p (suc n) ts = if starts kind first ts
    then and_then (p ts) (λ x rest. and_then (repeat kind first p n rest) (λ xs end. Ok (x ∷ xs, end)))
    else Ok ([], ts)

-- what is one level deeper, if a level is left
abbrev pub Deeper : {N : Type 0} → Type 0 → (N → Type 0) → Type 0
Deeper {N} T V = Option ((n : N) → Reader T (V n))

-- a nonterminal after the token that opens its level
abbrev pub enter : {T N : Type 0} {V : N → Type 0} → Deeper T V → (n : N) → List T → List T → Out T (V n)
enter None n opening ts = Err (TooDeep opening)
enter (Some inner) n opening ts = inner n ts

-- a token that opens a level, and then a nonterminal
abbrev pub opened : {T N A Z : Type 0} {V : N → Type 0} → (T → ℕ) → Test T A → (n : N) → (A → V n → Z) → Deeper T V → Reader T Z
opened kind test n f deeper [] = Err (Wrong [])
opened kind test n f deeper (t ∷ ts) = if has (kind t) test.kinds
    then and_then (enter deeper n (t ∷ ts) ts) (λ y end. Ok (f (test.value t) y, end))
    else Err (Wrong (t ∷ ts))

-- a token that opens a level, read as any token is, and then a nonterminal: the same as opened
abbrev pub entered : {T N A Z : Type 0} {V : N → Type 0} → Reader T A → (n : N) → (A → V n → Z) → Deeper T V → Reader T Z
entered p n f deeper ts = and_then (p ts) (λ a rest. and_then (enter deeper n ts rest) (λ y end. Ok (f a y, end)))

-- a token, and then a nonterminal at the same level
abbrev pub followed : {T A Y Z : Type 0} → (T → ℕ) → Test T A → (A → Y → Z) → Reader T Y → Reader T Z
followed kind test f same [] = Err (Wrong [])
followed kind test f same (t ∷ ts) = if has (kind t) test.kinds
    then and_then (same ts) (λ y end. Ok (f (test.value t) y, end))
    else Err (Wrong (t ∷ ts))

-- a part has a word of no token
abbrev pub empty : {T N : Type 0} {kind : T → ℕ} {V : N → Type 0} {X : Type 0} → Grammar kind V X → Bool
empty (token test) = false
empty (level n test f) = false
empty (next n test f) = false
empty (nothing x) = true
empty (seq f p q) = empty p && empty q
empty (or p q) = if empty p then true else empty q
empty (ahead ones twos p q) = if empty p then true else empty q
empty (many p) = true
empty (image f p) = empty p

-- the kinds of tokens with which the words of a part begin
abbrev pub first : {T N : Type 0} {kind : T → ℕ} {V : N → Type 0} {X : Type 0} → Grammar kind V X → List ℕ
first (token test) = test.kinds
first (level n test f) = test.kinds
first (next n test f) = test.kinds
first (nothing x) = []
first (seq f p q) = first p ++ (if empty p then first q else [])
first (or p q) = first p ++ first q
first (ahead ones twos p q) = first p ++ first q
first (many p) = first p
first (image f p) = first p

-- the reader of a part, with those of the nonterminals one level deeper, and of those at the same level
abbrev pub read : {T N : Type 0} {kind : T → ℕ} {V : N → Type 0} {X : Type 0} → Deeper T V → ((n : N) → Reader T (V n)) → Grammar kind V X → Reader T X
read {kind} deeper same (token test) ts = one kind test ts
read {kind} deeper same (level n test f) ts = opened kind test n f deeper ts
read {kind} deeper same (next n test f) ts = followed kind test f (same n) ts
read deeper same (nothing x) ts = Ok (x, ts)
read deeper same (seq f p q) ts = both f (read deeper same p) (read deeper same q) ts
read {kind} deeper same (or p q) ts = pick kind (first p) (read deeper same p) (read deeper same q) ts
read {kind} deeper same (ahead ones twos p q) ts = pick_two kind ones twos (read deeper same p) (read deeper same q) ts
read {kind} deeper same (many p) ts = repeat kind (first p) (read deeper same p) (length ts) ts
read deeper same (image f p) ts = made f (read deeper same p) ts

-- the readers of the nonterminals at one level, which use less than m productions one after another
abbrev pub again : {T N : Type 0} {kind : T → ℕ} {V : N → Type 0} → Productions kind V → Deeper T V → ℕ → (n : N) → Reader T (V n)
again prods deeper zero n ts = Err (Wrong ts)
again prods deeper (suc m) n ts = read deeper (again prods deeper m) (prods n) ts

-- the readers of the nonterminals, where n more levels may be opened
abbrev pub deeper : {T N : Type 0} {kind : T → ℕ} {V : N → Type 0} → Productions kind V → ℕ → Deeper T V
deeper prods zero = None
deeper prods (suc n) = Some (λ k ts. again prods (deeper prods n) (suc (length ts)) k ts)

-- the reader of a part, where n more levels may be opened
abbrev pub reads : {T N : Type 0} {kind : T → ℕ} {V : N → Type 0} {X : Type 0} → Productions kind V → ℕ → Grammar kind V X → Reader T X
reads prods n g ts = read (deeper prods n) (again prods (deeper prods n) (length ts)) g ts
