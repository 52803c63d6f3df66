use Rattle.std.proofs.Common.{List, ℕ, ◌∷◌, ◌++◌, map}
use Rattle.psm_code.specs.declared.code.RawRoutine.{RawRoutine}
use Rattle.psm_object.specs.Instructions.{code_line}
use Rattle.psm_object.specs.Routines.{access_lines, handling_lines, routine_line, variable_lines}
use Rattle.psm_object.proofs.Pieces.{text_after, text_last, text_more}
use Rattle.psm_object.proofs.routines.put_routine.Goals as goal

pub returns : goal.returns
returns c =
    let r : RawRoutine = c.args.routine.now in
    let o : List ℕ = c.args.out.now.items in
    let o1 : List ℕ = c.put_routine_line.new.out.items in
    let o2 : List ℕ = c.put_variables.new.out.items in
    let o3 : List ℕ = c.put_access.new.out.items in
    let o4 : List ℕ = c.put_handling.new.out.items in
    text_last c.put_code_lines.result o o4 c.put_code_lines.new.out.items (routine_line r ∷ variable_lines r ++ access_lines r ++ handling_lines r) (map code_line r.lines)
    (text_more o o3 o4 (routine_line r ∷ variable_lines r ++ access_lines r) (handling_lines r)
    (text_more o o2 o3 (routine_line r ∷ variable_lines r) (access_lines r)
    (text_after o o1 o2 (routine_line r) (variable_lines r) c.in_ok-put_routine_line.ensures c.in_ok-put_variables.ensures)
    c.in_ok-put_access.ensures) c.in_ok-put_handling.ensures) c.put_code_lines.ensures
