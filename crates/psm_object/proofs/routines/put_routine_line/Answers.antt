use Rattle.std.proofs.Common.{List, ℕ, [], ◌∷◌, ◌++◌, codes}
use Rattle.psm_code.specs.declared.code.RawRoutine.{RawRoutine}
use Rattle.psm_words.specs.Words.{quoted}
use Rattle.psm_object.specs.Routines.{control_counts, data_counts, result_word, routine_kind_word}
use Rattle.psm_object.proofs.Pieces.{line_start, line_word, line_words}
use Rattle.psm_object.proofs.routines.put_routine_line.Goals as goal

pub returns : goal.returns
returns c =
    let r : RawRoutine = c.args.routine.now in
    let o : List ℕ = c.args.out.now.items in
    let last : List ℕ = c.end_line.new.out.items in
    let o1 : List ℕ = c.put_routine_name.new.out.items in
    let o2 : List ℕ = c.put_data_counts.new.out.items in
    let o3 : List ℕ = c.put_control_counts.new.out.items in
    let o4 : List ℕ = c.put_result.new.out.items in
    line_start c.end_line.result o o1 last (codes "ROUTINE") (routine_kind_word r.is_function ∷ quoted r.name ∷ []) (data_counts r ++ control_counts r ++ result_word r.returns ∷ []) c.in_ok-put_routine_name.ensures
    (line_words c.end_line.result o1 o2 last (data_counts r) (control_counts r ++ result_word r.returns ∷ []) c.in_ok-put_data_counts.ensures
    (line_words c.end_line.result o2 o3 last (control_counts r) (result_word r.returns ∷ []) c.in_ok-put_control_counts.ensures
    (line_word c.end_line.result o3 o4 last (result_word r.returns) [] c.in_ok-put_result.ensures c.end_line.ensures)))
