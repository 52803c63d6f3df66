-- The lines of a routine, with their operands apart.
use Rattle.std.specs.Prelude.{ℕ, Bool, ◌&&◌, ◌||◌, not, nat_eq, List, [], ◌∷◌, Option, Some, None, slice_get}
use Rattle.psm_exprcode.specs.declared.op.Letter.{Letter}
use Rattle.psm_code.specs.declared.code.RawCode.{RawCode}
use Rattle.psm_code.specs.declared.code.RawRoutine.{RawRoutine}
use Rattle.psm_code.specs.declared.instruction.Instruction.{Instruction}
use Rattle.psm_code.specs.declared.lines.CodeLine.{CodeLine}
use Rattle.psm_code.specs.declared.rule.CodeRule.{CodeRule}
use Rattle.psm_code.specs.declared.rule.CodeRule.TheVariants.{Range, Target, Stack, Context, Resume, Turn, Place}
use Rattle.psm_code.specs.Rules.{first_of, is_some, unless, where_there}
use Rattle.psm_code.specs.RoutineRules.{are_targets, context_there, contexts_follow, jump_of, line_fault, may_stand, names_there, resumes_well_formed, stands_alone, stands_well_formed, uses_turn}
use Rattle.psm_verify.specs.declared.stating.StatedLine.{StatedLine}
use Rattle.psm_verify.specs.Moves.{follows_split}

-- a line as if it stated no operand
abbrev pub bare : StatedLine → CodeLine
bare l = record { context = l.context; resume = l.resume; stack = []; instruction = l.instruction.now }

abbrev pub bare_of : CodeLine → CodeLine
bare_of l = record { context = l.context; resume = l.resume; stack = []; instruction = l.instruction }

abbrev pub first_right : ℕ → ℕ → List Letter → Bool
first_right at context operands = not (nat_eq at 0) || (nat_eq context 0 && not (is_some operands))

-- no operand stands before an instruction that stands alone
abbrev pub bare_before : Instruction → List Letter → Bool
bare_before i operands = not (stands_alone i) || not (is_some operands)

-- the rule that a line breaks, where its operands stand apart, the last one first
abbrev pub line_fault_with : RawCode → RawRoutine → ℕ → CodeLine → List Letter → Option CodeRule
line_fault_with code r at l operands = first_of (
    unless (context_there r l.context && names_there code r l.instruction) Range
    ∷ unless (are_targets r at l) Target
    ∷ unless (bare_before l.instruction operands && follows_split code r at operands l.instruction) Stack
    ∷ unless (first_right at l.context operands && (stands_well_formed r l l.instruction && contexts_follow r at l)) Context
    ∷ unless (resumes_well_formed r at l) Resume
    ∷ unless (where_there (jump_of l.instruction) (uses_turn r at)) Turn
    ∷ unless (may_stand code r l.instruction) Place ∷ [])

abbrev pub code_line_fault : RawCode → RawRoutine → ℕ → Option CodeLine → Option CodeRule
code_line_fault code r at None = None
code_line_fault code r at (Some l) = line_fault code r at l

abbrev pub code_line_fault_at : RawCode → RawRoutine → ℕ → Option CodeRule
code_line_fault_at code r at = code_line_fault code r at (slice_get r.lines at)
