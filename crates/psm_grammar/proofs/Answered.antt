-- The answer of a whole parser, from that of its reader.
use Rattle.std.proofs.Common.{◌≡◌, ℕ, ◌+◌, List, length, Ok, Err, subst}
use Rattle.psm_grammar.specs.Language.{Lang}
use Rattle.psm_grammar.specs.Readers.{Out}
use Rattle.psm_grammar.specs.Exact.{AtEnd, Holds}
use Rattle.psm_grammar.specs.declared.halt.Halt.{Halt}
use Rattle.psm_grammar.specs.declared.halt.Halt.TheVariants as halt
use Rattle.psm_grammar.specs.Gives.{Halts, Answers}

module _ {T X Y : Type 0} (L : Lang T Y) (limit : ℕ) (ts : List T) (view : X → Y) (o : Out T Y) (exact : Holds L AtEnd limit ts o) where
  pub answer_ok : (x : X) (n : ℕ) (rest : List T) → o ≡ Ok (view x, rest) → n + length rest ≡ length ts → Answers L limit ts view (Ok (x, n))
  answer_ok x n rest e count = (rest, subst (Holds L AtEnd limit ts) e exact, count)

  pub answer_err : (e : Halt) → Halts e o → Answers L limit ts view (Err e)
  answer_err (halt.Syntax n) h = (h.0, subst (Holds L AtEnd limit ts) h.1 exact, h.2)
  answer_err (halt.Deep n) h = (h.0, subst (Holds L AtEnd limit ts) h.1 exact, h.2)
  answer_err halt.Memory h = tt
