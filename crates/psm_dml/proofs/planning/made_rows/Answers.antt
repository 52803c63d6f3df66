use Rattle.std.proofs.Common.{◌≡◌, ◌≤◌, List, length, Some, None, false, Ok, Err, ap, sym, ◌∙◌, arith}
use Rattle.std.specs.Prelude.{slice_get}
use Rattle.std.specs.Option.{option_copied}
use Rattle.std.proofs.lemmas.Option.{slice_get_past}
use Rattle.std.proofs.lemmas.Result.{err_from_is_err_and}
use Rattle.psm_value.specs.declared.datum.Datum.{Datum}
use Rattle.psm_table.specs.Definition.{IsRow}
use Rattle.psm_table.specs.Evaluator.{test_of}
use Rattle.psm_tablecode.specs.Asked.{rows_of}
use Rattle.psm_tablecode.specs.Codes.{over}
use Rattle.psm_tablecode.specs.RemainingRows.{rows_coming}
use Rattle.psm_tablecode.specs.TypeChecks.{letters_of}
use Rattle.psm_tablecode.proofs.RemainingRowsLaws.{coming_here, coming_none, coming_rest, get_all}
use Rattle.psm_tablecode.proofs.KeyWalks.{rows_few, walked_by}
use Rattle.psm_tablecode.proofs.Results.{gives_by}
use Rattle.psm_tablecode.proofs.Fitting.{row_letters, test_runs}
use Rattle.psm_dml.specs.Changes.{row_set}
use Rattle.psm_dml.proofs.Assigning.{assign}
use Rattle.psm_dml.proofs.Walked.{walks_end, walks_fault, walks_next}
use Rattle.psm_dml.proofs.planning.made_rows.Goals as goal
use Rattle.psm_dml.proofs.planning.made_rows.Goals.{else-loop-at-test, then-loop-at-test+in_default}

pub made_of-requires-clause-row : goal.made_of-requires-clause-row
made_of-requires-clause-row c =
    get_all (IsRow c.args.table.now.contents.def) (rows_of c.args.table.now.contents c.in_ok-walk.walk) c.loop-at.at c.in-Some.row.now c.of-coming.ensures.fit
    (coming_here (rows_of c.args.table.now.contents c.in_ok-walk.walk) c.loop-at.at c.in-Some.row.now (rows_coming c.next.new.self) (c.loop-at.invariant.left ∙ c.in-Some.ensures))

pub made_of-requires-clause-runs : goal.made_of-requires-clause-runs
made_of-requires-clause-runs c =
    let fits : IsRow c.args.table.now.contents.def c.in-Some.row.now = get_all (IsRow c.args.table.now.contents.def) (rows_of c.args.table.now.contents c.in_ok-walk.walk) c.loop-at.at c.in-Some.row.now c.of-coming.ensures.fit
    (coming_here (rows_of c.args.table.now.contents c.in_ok-walk.walk) c.loop-at.at c.in-Some.row.now (rows_coming c.next.new.self) (c.loop-at.invariant.left ∙ c.in-Some.ensures)) in
    test_runs (letters_of c.args.table.now.contents.def) c.requires.test.variables c.in-Some.row.now c.args.vars.now (row_letters c.args.table.now.contents.def c.in-Some.row.now fits) c.requires.test.kinds
    (option_copied c.args.test) c.requires.test.fits

pub made_of-requires-clause-sets : goal.made_of-requires-clause-sets
made_of-requires-clause-sets c =
    let fits : IsRow c.args.table.now.contents.def c.in-Some.row.now = get_all (IsRow c.args.table.now.contents.def) (rows_of c.args.table.now.contents c.in_ok-walk.walk) c.loop-at.at c.in-Some.row.now c.of-coming.ensures.fit
    (coming_here (rows_of c.args.table.now.contents c.in_ok-walk.walk) c.loop-at.at c.in-Some.row.now (rows_coming c.next.new.self) (c.loop-at.invariant.left ∙ c.in-Some.ensures)) in
    assign c.args.sets.now c.args.vars.now c.args.table.now.contents.def c.in-Some.row.now c.requires.sets fits

pub returns-in_err-made-clause-rows : goal.returns-in_err-made-clause-rows
returns-in_err-made-clause-rows c =
    let rows : List (List Datum) = rows_of c.args.table.now.contents c.in_ok-walk.walk in
    let here : slice_get rows c.loop-at.at ≡ Some c.in-Some.row.now = coming_here rows c.loop-at.at c.in-Some.row.now (rows_coming c.next.new.self) (c.loop-at.invariant.left ∙ c.in-Some.ensures) in
    let p = err_from_is_err_and c.from_residual-in_err-made.result c.from_residual-in_err-made.ensures.1 in
    let all = walked_by c.args.table.now.contents c.args.vars.now (option_copied c.args.test) (row_set c.args.vars.now c.args.table.now.contents.def c.args.sets.now) c.in_ok-walk.ensures.table.ascend false c.in_ok-walk.walk c.in_ok-walk.ensures.walk in
    rw (p.1, p.2) (gives_by (_) (_) (Err c.in_err-made.field-0.0) (sym all) (walks_fault (test_of (over c.args.vars.now) (option_copied c.args.test)) (row_set c.args.vars.now c.args.table.now.contents.def c.args.sets.now) rows
    c.loop-at.at c.in-Some.row.now c.in_err-made.field-0.0 c.loop-at.rows.items here c.in_err-made.ensures c.loop-at.invariant.so_far))

pub loop-at-preserved : goal.loop-at-preserved
loop-at-preserved c =
    let rows : List (List Datum) = rows_of c.args.table.now.contents c.in_ok-walk.walk in
    let here : slice_get rows c.loop-at.at ≡ Some c.in-Some.row.now = coming_here rows c.loop-at.at c.in-Some.row.now (rows_coming c.next.new.self) (c.loop-at.invariant.left ∙ c.in-Some.ensures) in
    record {
      left = coming_rest rows c.loop-at.at c.in-Some.row.now (rows_coming c.next.new.self) (c.loop-at.invariant.left ∙ c.in-Some.ensures);
      so_far = walks_next (test_of (over c.args.vars.now) (option_copied c.args.test)) (row_set c.args.vars.now c.args.table.now.contents.def c.args.sets.now) rows
          c.loop-at.at c.in-Some.row.now c.in_ok-made.made c.loop-at.rows.items c.add_row.new.rows.items here c.in_ok-made.ensures c.in_ok-add_row.ensures c.loop-at.invariant.so_far;
    }

pub returns-clause-rows : goal.returns-clause-rows
returns-clause-rows c =
    let rows : List (List Datum) = rows_of c.args.table.now.contents c.in_ok-walk.walk in
    let none : slice_get rows c.loop-at.at ≡ None = elim c.loop-at-test.branch [
      | else-loop-at-test w ↦ let past : length rows ≤ c.loop-at.at = omega (arith, rows_few c.args.table.now.contents c.in_ok-walk.walk, w.loop-at-test.false, c.len-at-end.ensures.value) in slice_get_past rows c.loop-at.at past
      | then-loop-at-test+in_default w ↦ coming_none rows c.loop-at.at (c.loop-at.invariant.left ∙ w.in_default.ensures)
    ] in
    let all = walked_by c.args.table.now.contents c.args.vars.now (option_copied c.args.test) (row_set c.args.vars.now c.args.table.now.contents.def c.args.sets.now) c.in_ok-walk.ensures.table.ascend false c.in_ok-walk.walk c.in_ok-walk.ensures.walk in
    sym all
    ∙ walks_end (test_of (over c.args.vars.now) (option_copied c.args.test)) (row_set c.args.vars.now c.args.table.now.contents.def c.args.sets.now) rows
    c.loop-at.at c.loop-at.rows.items none c.loop-at.invariant.so_far ∙ ap Ok (sym c.of.ensures)
