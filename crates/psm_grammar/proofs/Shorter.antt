-- A reader takes tokens off the front alone; so a part asks for a nonterminal at its own level on no more tokens than
-- it was given, and it is enough to know the nonterminals on these.
use Rattle.std.proofs.Common.{◌≡◌, ℕ, zero, suc, Option, Bool, cond, true, false, ◌≤◌, ◌<◌, List, [], ◌∷◌, length, Some, None, Ok, Err, refl, sym, ap, ◌∙◌, arith}
use Rattle.psm_grammar.specs.Grammar.{Grammar, Productions, token, level, next, nothing, seq, or, ahead, many, image}
use Rattle.psm_grammar.specs.Language.{Test, has}
use Rattle.psm_grammar.specs.Follow.{IsReadable}
use Rattle.psm_grammar.specs.Readers.{Out, Wrong, TooDeep, Reader, Deeper, and_then, starts, starts_two, one, enter, repeat, first, read, again, deeper, reads}
use Rattle.psm_grammar.proofs.Whole.{again_enough}

-- what is left after a value is no longer than this
abbrev pub Short : {T X : Type 0} → ℕ → Out T X → Type 0
Short n (Ok r) = length r.1 ≤ n
Short n (Err e) = Unit {0}

abbrev pub Shortens : {T X : Type 0} → Reader T X → Type 0
Shortens {T} p = (ts : List T) → Short (length ts) (p ts)

abbrev pub DeeperShortens : {T N : Type 0} {V : N → Type 0} → Deeper T V → Type 0
DeeperShortens None = Unit {0}
DeeperShortens {N} (Some inner) = (n : N) → Shortens (inner n)

short_then : {T X Y : Type 0} (n : ℕ) (o : Out T X) (k : X → List T → Out T Y) → Short n o → ((x : X) (rest : List T) → length rest ≤ n → Short n (k x rest)) → Short n (and_then o k)
short_then n (Ok r) k h g = g r.0 r.1 h
short_then n (Err e) k h g = tt

short_less : {T X : Type 0} (m n : ℕ) (o : Out T X) → m ≤ n → Short m o → Short n o
short_less m n (Ok r) h g = omega (arith, h, g)
short_less m n (Err e) h g = tt

short_made : {T X Y : Type 0} (n : ℕ) (f : X → Y) (o : Out T X) → Short n o → Short n (and_then o (λ x rest. Ok (f x, rest)))
short_made n f (Ok r) h = h
short_made n f (Err e) h = tt

short_either : {T X : Type 0} (n : ℕ) (b : Bool) (o u : Out T X) → Short n o → Short n u → Short n (cond b o u)
short_either n true o u h g = h
short_either n false o u h g = g

module _ {T : Type 0} (kind : T → ℕ) where
  pub one_shortens : {A : Type 0} (test : Test T A) → Shortens (one kind test)
  one_shortens test [] = tt
  one_shortens test (t ∷ ts) = short_either (length (t ∷ ts)) (has (kind t) test.kinds) (Ok (test.value t, ts)) (Err (Wrong (t ∷ ts))) (omega arith) tt

  repeat_shortens : {X : Type 0} (firsts : List ℕ) (p : Reader T X) → Shortens p → (n : ℕ) → Shortens (repeat kind firsts p n)
  repeat_shortens firsts p h zero ts = omega arith
  repeat_shortens firsts p h (suc n) ts = short_either (length ts) (starts kind firsts ts)
      (and_then (p ts) (λ x rest. and_then (repeat kind firsts p n rest) (λ xs end. Ok (x ∷ xs, end)))) (Ok ([], ts))
      (short_then (length ts) (p ts) (λ x rest. and_then (repeat kind firsts p n rest) (λ xs end. Ok (x ∷ xs, end))) (h ts)
      (λ x rest short. short_made (length ts) (λ xs. x ∷ xs) (repeat kind firsts p n rest) (short_less (length rest) (length ts) (repeat kind firsts p n rest) short (repeat_shortens firsts p h n rest))))
      (omega arith)

entered_short : {T N : Type 0} {V : N → Type 0} (d : Deeper T V) → DeeperShortens d → (n : N) (opening ts : List T) → Short (length ts) (enter d n opening ts)
entered_short None h n opening ts = tt
entered_short (Some inner) h n opening ts = h n ts

module _ {T N : Type 0} {kind : T → ℕ} {V : N → Type 0} where
  module _ (d : Deeper T V) (below : DeeperShortens d) (s : (n : N) → Reader T (V n)) (beside : (n : N) → Shortens (s n)) where
    pub read_shortens : {X : Type 0} (g : Grammar kind V X) → Shortens (read d s g)
    read_shortens (token test) ts = one_shortens kind test ts
    read_shortens (level n test f) [] = tt
    read_shortens (level n test f) (t ∷ ts) = short_either (length (t ∷ ts)) (has (kind t) test.kinds) (and_then (enter d n (t ∷ ts) ts) (λ y end. Ok (f (test.value t) y, end))) (Err (Wrong (t ∷ ts)))
        (short_made (length (t ∷ ts)) (f (test.value t)) (enter d n (t ∷ ts) ts) (short_less (length ts) (length (t ∷ ts)) (enter d n (t ∷ ts) ts) (omega arith) (entered_short d below n (t ∷ ts) ts))) tt
    read_shortens (next n test f) [] = tt
    read_shortens (next n test f) (t ∷ ts) = short_either (length (t ∷ ts)) (has (kind t) test.kinds) (and_then (s n ts) (λ y end. Ok (f (test.value t) y, end))) (Err (Wrong (t ∷ ts)))
        (short_made (length (t ∷ ts)) (f (test.value t)) (s n ts) (short_less (length ts) (length (t ∷ ts)) (s n ts) (omega arith) (beside n ts))) tt
    read_shortens (nothing x) ts = omega arith
    read_shortens (seq f p q) ts = short_then (length ts) (read d s p ts) (λ x rest. and_then (read d s q rest) (λ y end. Ok (f x y, end))) (read_shortens p ts)
        (λ x rest short. short_made (length ts) (f x) (read d s q rest) (short_less (length rest) (length ts) (read d s q rest) short (read_shortens q rest)))
    read_shortens (or p q) ts = short_either (length ts) (starts kind (first p) ts) (read d s p ts) (read d s q ts) (read_shortens p ts) (read_shortens q ts)
    read_shortens (ahead ones twos p q) ts = short_either (length ts) (starts_two kind ones twos ts) (read d s p ts) (read d s q ts) (read_shortens p ts) (read_shortens q ts)
    read_shortens (many p) ts = repeat_shortens kind (first p) (read d s p) (read_shortens p) (length ts) ts
    read_shortens (image f p) ts = short_made (length ts) f (read d s p ts) (read_shortens p ts)

-- ---- the same on fewer tokens

then_within : {T X Y : Type 0} (n : ℕ) (o u : Out T X) → o ≡ u → Short n o → (k l : X → List T → Out T Y) → ((x : X) (rest : List T) → length rest ≤ n → k x rest ≡ l x rest) → and_then o k ≡ and_then u l
then_within n (Ok r) u e h k l g = g r.0 r.1 h ∙ ap (λ o. and_then o l) e
then_within n (Err x) u e h k l g = ap (λ o. and_then o l) e

module _ {T : Type 0} (kind : T → ℕ) (most : ℕ) where
  repeat_within : {X : Type 0} (firsts : List ℕ) (p q : Reader T X) → Shortens p → ((ts : List T) → length ts ≤ most → p ts ≡ q ts) → (n : ℕ) (ts : List T) → length ts ≤ most
      → repeat kind firsts p n ts ≡ repeat kind firsts q n ts
  repeat_within firsts p q h g zero ts short = refl
  repeat_within firsts p q h g (suc n) ts short = ap (λ o. cond (starts kind firsts ts) o (Ok ([], ts)))
      (then_within most (p ts) (q ts) (g ts short) (short_less (length ts) most (p ts) short (h ts)) (λ x rest. and_then (repeat kind firsts p n rest) (λ xs end. Ok (x ∷ xs, end))) (λ x rest. and_then (repeat kind firsts q n rest) (λ xs end. Ok (x ∷ xs, end)))
      (λ x rest less. ap (λ o. and_then o (λ xs end. Ok (x ∷ xs, end))) (repeat_within firsts p q h g n rest less)))

module _ {T N : Type 0} {kind : T → ℕ} {V : N → Type 0} (d : Deeper T V) (below : DeeperShortens d) (s u : (n : N) → Reader T (V n)) (beside : (n : N) → Shortens (s n)) (most : ℕ)
    (same : (n : N) (ts : List T) → length ts < most → s n ts ≡ u n ts) where
  pub read_within : {X : Type 0} (g : Grammar kind V X) (ts : List T) → length ts ≤ most → read d s g ts ≡ read d u g ts
  read_within (token test) ts short = refl
  read_within (level n test f) ts short = refl
  read_within (next n test f) [] short = refl
  read_within (next n test f) (t ∷ ts) short = ap (λ o. cond (has (kind t) test.kinds) (and_then o (λ y end. Ok (f (test.value t) y, end))) (Err (Wrong (t ∷ ts)))) (same n ts (omega (arith, short)))
  read_within (nothing x) ts short = refl
  read_within (seq f p q) ts short = then_within most (read d s p ts) (read d u p ts) (read_within p ts short) (short_less (length ts) most (read d s p ts) short (read_shortens d below s beside p ts))
      (λ x rest. and_then (read d s q rest) (λ y end. Ok (f x y, end))) (λ x rest. and_then (read d u q rest) (λ y end. Ok (f x y, end)))
      (λ x rest less. ap (λ o. and_then o (λ y end. Ok (f x y, end))) (read_within q rest less))
  read_within (or p q) ts short = λ i. cond (starts kind (first p) ts) (read_within p ts short i) (read_within q ts short i)
  read_within (ahead ones twos p q) ts short = λ i. cond (starts_two kind ones twos ts) (read_within p ts short i) (read_within q ts short i)
  read_within (many p) ts short = repeat_within kind most (first p) (read d s p) (read d u p) (read_shortens d below s beside p) (λ ts less. read_within p ts less) (length ts) ts short
  read_within (image f p) ts short = ap (λ o. and_then o (λ x rest. Ok (f x, rest))) (read_within p ts short)

-- ---- all levels

module _ {T N : Type 0} {kind : T → ℕ} {V : N → Type 0} (prods : Productions kind V) where
  again_shortens : (d : Deeper T V) → DeeperShortens d → (m : ℕ) (k : N) → Shortens (again prods d m k)
  again_shortens d h zero k ts = tt
  again_shortens d h (suc m) k ts = read_shortens d h (again prods d m) (again_shortens d h m) (prods k) ts

  deeper_shortens : (n : ℕ) → DeeperShortens (deeper prods n)
  deeper_shortens zero = tt
  deeper_shortens (suc n) = λ k ts. again_shortens (deeper prods n) (deeper_shortens n) (suc (length ts)) k ts

  -- a part reads the nonterminals at its own level as they are read by themselves
  pub reads_apart : (after : N → Option (List ℕ)) (height : ℕ) → IsReadable prods after height → (n : ℕ) {X : Type 0} (g : Grammar kind V X) (ts : List T)
      → reads prods n g ts ≡ read (deeper prods n) (λ k us. reads prods n (prods k) us) g ts
  reads_apart after height readable n g ts = read_within (deeper prods n) (deeper_shortens n) (again prods (deeper prods n) (length ts)) (λ k us. reads prods n (prods k) us)
      (again_shortens (deeper prods n) (deeper_shortens n) (length ts)) (length ts) (λ k us short. again_enough prods after height readable n (length ts) k us short) g ts (omega arith)
