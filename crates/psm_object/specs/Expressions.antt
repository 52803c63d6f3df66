-- The lines of an expression:
--
--     EXPR m
--     stack operation        m times
--
-- The stack is a word of the letters N, T and B of the operands before the operation, the top last, or `-` for none. An operation
-- is its mnemonic and what stands after it:
--
--     CONST N|T datum        VAR i        COL i        SCALE s        TRIM L|T|B        IN n        CAST type
--     JMP p        JNOT p        JSET p
--
-- and the mnemonic alone otherwise. So `x + 1 > y` over column 0 and variable 2 is
--
--     EXPR 5
--     - COL 0
--     N CONST N 1
--     NN ADD
--     N VAR 2
--     NN GT
use Rattle.std.specs.Prelude.{ℕ, List, [], ◌∷◌, codes, map, Option, Some, None}
use Rattle.psm_text.specs.declared.parts.Side.{Side}
use Rattle.psm_text.specs.declared.parts.Side.TheVariants.{Leading, Trailing, Both}
use Rattle.psm_exprcode.specs.declared.op.Letter.TheVariants.{N}
use Rattle.psm_exprcode.specs.declared.op.Line.{Line}
use Rattle.psm_exprcode.specs.declared.op.Op.{Op}
use Rattle.psm_exprcode.specs.declared.op.Op.TheVariants as op
use Rattle.psm_exprcode.specs.Operations.{effect}
use Rattle.psm_words.specs.Words.{datum_word, number, stack_word, type_word}
use Rattle.psm_object.specs.Words.{count, spaced}

abbrev pub side_word : Side → List ℕ
side_word Leading = codes "L"
side_word Trailing = codes "T"
side_word Both = codes "B"

-- what stands after the mnemonic
abbrev pub operation_details : Op → List (List ℕ)
operation_details (op.Constant letter d) = stack_word (letter ∷ []) ∷ datum_word d ∷ []
operation_details (op.Variable i) = number i ∷ []
operation_details (op.Column i) = number i ∷ []
operation_details (op.Rescale s) = number s ∷ []
operation_details (op.Trim side) = side_word side ∷ []
operation_details (op.In n) = number n ∷ []
operation_details (op.Cast to) = type_word to ∷ []
operation_details (op.Jump p) = number p ∷ []
operation_details (op.JumpUnlessTrue p) = number p ∷ []
operation_details (op.JumpUnlessNull p) = number p ∷ []
operation_details o = []

-- the mnemonic is that of the table of operations, where it hangs on no letter
abbrev pub operation_mnemonic : Op → List ℕ
operation_mnemonic o = (effect o N N).mnemonic

abbrev pub operation_line : Line → List ℕ
operation_line l = spaced (stack_word l.stack ∷ operation_mnemonic l.op ∷ operation_details l.op)

abbrev pub expression_lines : List Line → List (List ℕ)
expression_lines lines = spaced (codes "EXPR" ∷ count lines ∷ []) ∷ map operation_line lines

-- those of a test, if there is one
abbrev pub test_lines : Option (List Line) → List (List ℕ)
test_lines None = []
test_lines (Some lines) = expression_lines lines
