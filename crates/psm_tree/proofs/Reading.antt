-- What the reader of a part is, by the way the part is made; and that it is the reader of the grammar.
use Rattle.std.proofs.Common.{◌≡◌, ◌≢◌, ◌-◌, ap, arith, ℕ, zero, suc, Bool, cond, true, false, List, [], ◌∷◌, length, Ok, Err, refl, sym, ◌∙◌}
use Rattle.psm_token.specs.Kinds.{kind}
use Rattle.psm_token.specs.declared.token.Placed.{Placed}
use Rattle.psm_grammar.specs.Language.{has, Test}
use Rattle.psm_grammar.specs.Grammar.{token, level, next, nothing, seq, or, ahead, many, image}
use Rattle.psm_grammar.specs.Readers.{Out, Wrong, TooDeep, and_then, one, both, made, pick, pick_two, repeat, entered, first, deeper, reads}
use Rattle.psm_grammar.proofs.Loops.{entered_same}
use Rattle.psm_grammar.proofs.Shorter.{reads_apart}
use Rattle.psm_tree.specs.Parts.{Part, V}
use Rattle.psm_tree.specs.ExprGrammar.{Gram}
use Rattle.psm_tree.specs.Productions.{productions}
use Rattle.psm_tree.specs.Readers.{part, reading, opening}
use Rattle.psm_tree.proofs.ExprFits.{after}
use Rattle.psm_tree.proofs.Readable.{height, readable}

-- the reader of the grammar
pub reading_reads : {X : Type 0} (levels : ℕ) (g : Gram X) (ts : List Placed) → reading levels g ts ≡ reads productions levels g ts
unfolding reading part
reading_reads levels g ts = sym (reads_apart productions after height readable levels g ts)

pub reading_token : {A : Type 0} (levels : ℕ) (test : Test Placed A) (ts : List Placed) → reading levels (token test) ts ≡ one kind test ts
unfolding reading
reading_token levels test ts = refl

pub reading_nothing : {X : Type 0} (levels : ℕ) (x : X) (ts : List Placed) → reading levels (nothing x) ts ≡ Ok (x, ts)
unfolding reading
reading_nothing levels x ts = refl

pub reading_seq : {X Y Z : Type 0} (levels : ℕ) (f : X → Y → Z) (p : Gram X) (q : Gram Y) (ts : List Placed) → reading levels (seq f p q) ts ≡ both f (reading levels p) (reading levels q) ts
unfolding reading
reading_seq levels f p q ts = refl

pub reading_image : {X Y : Type 0} (levels : ℕ) (f : X → Y) (p : Gram X) (ts : List Placed) → reading levels (image f p) ts ≡ made f (reading levels p) ts
unfolding reading
reading_image levels f p ts = refl

pub reading_or : {X : Type 0} (levels : ℕ) (p q : Gram X) (ts : List Placed) → reading levels (or p q) ts ≡ pick kind (first p) (reading levels p) (reading levels q) ts
unfolding reading
reading_or levels p q ts = refl

pub reading_ahead : {X : Type 0} (levels : ℕ) (ones twos : List ℕ) (p q : Gram X) (ts : List Placed) → reading levels (ahead ones twos p q) ts ≡ pick_two kind ones twos (reading levels p) (reading levels q) ts
unfolding reading
reading_ahead levels ones twos p q ts = refl

-- for a loop, which has a proof of its own
pub reading_many : {X : Type 0} (levels : ℕ) (p : Gram X) (ts : List Placed) → reading levels (many p) ts ≡ repeat kind (first p) (reading levels p) (length ts) ts
unfolding reading
reading_many levels p ts = refl

pub reading_part : (levels : ℕ) (n : Part) (ts : List Placed) → part levels n ts ≡ reading levels (productions n) ts
unfolding part
reading_part levels n ts = sym (reading_reads levels (productions n) ts)

pub reading_next : {A Z : Type 0} (levels : ℕ) (n : Part) (test : Test Placed A) (f : A → V n → Z) (ts : List Placed) → reading levels (next n test f) ts ≡ both f (one kind test) (part levels n) ts
unfolding reading
reading_next levels n test f [] = refl
reading_next levels n test f (t ∷ ts) = by (has (kind t) test.kinds)
  where
    by : (b : Bool) → cond b (and_then (part levels n ts) (λ y end. Ok (f (test.value t) y, end))) (Err (Wrong (t ∷ ts)))
        ≡ and_then (cond b (Ok (test.value t, ts)) (Err (Wrong (t ∷ ts)))) (λ x rest. and_then (part levels n rest) (λ y end. Ok (f x y, end)))
    by true = refl
    by false = refl

pub reading_level : {A Z : Type 0} (levels : ℕ) (n : Part) (test : Test Placed A) (f : A → V n → Z) (ts : List Placed)
    → reading levels (level n test f) ts ≡ and_then (opening levels test ts) (λ (o : A × ℕ) rest. and_then (part o.1 n rest) (λ y end. Ok (f o.0 y, end)))
unfolding reading opening part
reading_level {A} {Z} zero n test f ts = sym (entered_same kind test n f (deeper productions zero) ts) ∙ by (one kind test ts)
  where
    by : (o : Out Placed A) → and_then o (λ a rest. Err (TooDeep ts)) ≡ and_then (and_then o (λ a rest. Err (TooDeep ts))) (λ (o : A × ℕ) rest. and_then (part o.1 n rest) (λ y end. Ok (f o.0 y, end)))
    by (Ok r) = refl
    by (Err e) = refl
reading_level {A} {Z} (suc levels) n test f ts = sym (entered_same kind test n f (deeper productions (suc levels)) ts) ∙ by (one kind test ts)
  where
    by : (o : Out Placed A) → and_then o (λ a rest. and_then (part levels n rest) (λ y end. Ok (f a y, end)))
        ≡ and_then (and_then o (λ a rest. Ok ((a, levels), rest))) (λ (o : A × ℕ) rest. and_then (part o.1 n rest) (λ y end. Ok (f o.0 y, end)))
    by (Ok r) = refl
    by (Err e) = refl

-- no level is left
pub opening_none : {A : Type 0} (levels : ℕ) (test : Test Placed A) (ts : List Placed) → levels ≡ 0 → opening levels test ts ≡ and_then (one kind test ts) (λ a rest. Err (TooDeep ts))
unfolding opening
opening_none zero test ts e = refl
opening_none (suc n) test ts e = absurd (cc e)

-- a level is left
pub opening_some : {A : Type 0} (levels : ℕ) (test : Test Placed A) (ts : List Placed) → levels ≢ 0 → opening levels test ts ≡ and_then (one kind test ts) (λ a rest. Ok ((a, levels - 1), rest))
unfolding opening
opening_some zero test ts h = absurd (h refl)
opening_some (suc n) test ts h = let e : n ≡ suc n - 1 = omega arith in ap (λ m. and_then (one kind test ts) (λ a rest. Ok ((a, m), rest))) e

pub ruleset steps = (reading_token, reading_nothing, reading_seq, reading_image, reading_or, reading_ahead, reading_next, reading_level, reading_part)
