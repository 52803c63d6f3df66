-- The number of the line that follows, after one step more.
use Rattle.std.proofs.Common.{arith, ◌≡◌, ℕ, suc, ◌++◌, List, [], ◌∷◌, Option, Some, None, length-append}
use Rattle.std.specs.Prelude.{drop, reverse}
use Rattle.psm_exprcode.specs.declared.op.Letter.{Letter}
use Rattle.psm_exprcode.specs.declared.op.Op.{Op}
use Rattle.psm_code.specs.declared.instruction.Instruction.{Instruction}
use Rattle.psm_code.specs.declared.instruction.Instruction.TheVariants as instruction
use Rattle.psm_exprgen.specs.Written.{Written, applied, here, plain, puts, taken, takes, with_line}

pub here-line : (context : ℕ) (resume : Option ℕ) (i : Instruction) (after : List Letter) (w : Written) → here (with_line context resume i after w) ≡ suc (here w)
here-line context resume i after w = omega (arith, length-append w.lines (record { context = context; resume = resume; stack = reverse w.stack; instruction = i } ∷ []))

pub here-puts : (context resume : ℕ) (i : Instruction) (count : ℕ) (letters : List Letter) (w : Written) → here (puts context resume i count letters w) ≡ suc (here w)
here-puts context resume i count letters w = here-line context (Some resume) i (letters ++ drop count w.stack) w

pub here-takes : (context resume : ℕ) (i : Instruction) (count : ℕ) (w : Written) → here (takes context resume i count w) ≡ suc (here w)
here-takes context resume i count w = here-puts context resume i count [] w

pub here-plain : (context : ℕ) (i : Instruction) (w : Written) → here (plain context i w) ≡ suc (here w)
here-plain context i w = here-line context None i w.stack w

pub here-applied : (context resume : ℕ) (o : Op) (count : ℕ) (k : Letter) (w : Written) → here (applied context resume o count k w) ≡ suc (here w)
here-applied context resume o count k w = here-puts context resume (instruction.Operation o) count (k ∷ []) w

pub here-taken : (context resume : ℕ) (o : Op) (w : Written) → here (taken context resume o w) ≡ suc (here w)
here-taken context resume o w = here-takes context resume (instruction.Operation o) 1 w
