-- A part that stands before two tokens is read as the part, and then both.
use Rattle.std.proofs.Common.{◌≡◌, ℕ, List, Ok, Err, refl}
use Rattle.psm_token.specs.Kinds.{kind}
use Rattle.psm_token.specs.declared.token.Placed.{Placed}
use Rattle.psm_grammar.specs.Forms.{before_token}
use Rattle.psm_grammar.specs.Language.{Test}
use Rattle.psm_grammar.specs.Readers.{Out, and_then, one}
use Rattle.psm_tree.specs.ExprGrammar.{Gram}
use Rattle.psm_tree.specs.Readers.{reading}
use Rattle.psm_parse_token.specs.Ended.{two}

pub reading_two : {X A B : Type 0} (levels : ℕ) (p : Gram X) (test : Test Placed A) (next : Test Placed B) (ts : List Placed)
    → reading levels (before_token (before_token p test) next) ts ≡ and_then (reading levels p ts) (λ x rest. and_then (two test next rest) (λ u end. Ok (x, end)))
unfolding reading two
reading_two {X} {A} {B} levels p test next ts = whole (reading levels p ts)
  where
    second : (x : X) (o : Out Placed B) → and_then o (λ b end. Ok (x, end)) ≡ and_then (and_then o (λ b end. Ok (tt {0}, end))) (λ u end. Ok (x, end))
    second x (Ok r) = refl
    second x (Err e) = refl

    both_of : (x : X) (o : Out Placed A)
        → and_then (and_then o (λ a end. Ok (x, end))) (λ y rest. and_then (one kind next rest) (λ b end. Ok (y, end)))
        ≡ and_then (and_then o (λ a rest. and_then (one kind next rest) (λ b end. Ok (tt {0}, end)))) (λ u end. Ok (x, end))
    both_of x (Ok r) = second x (one kind next r.1)
    both_of x (Err e) = refl

    whole : (o : Out Placed X)
        → and_then (and_then o (λ x rest. and_then (one kind test rest) (λ a end. Ok (x, end)))) (λ y rest. and_then (one kind next rest) (λ b end. Ok (y, end)))
        ≡ and_then o (λ x rest. and_then (and_then (one kind test rest) (λ a rest. and_then (one kind next rest) (λ b end. Ok (tt {0}, end)))) (λ u end. Ok (x, end)))
    whole (Ok r) = both_of r.0 (one kind test r.1)
    whole (Err e) = refl
