use Rattle.std.proofs.Common.{◌≡◌, ◌≤◌, ◌++◌, List, length, refl, Some, None, Err, ap, sym, ◌∙◌, arith}
use Rattle.std.specs.Prelude.{slice_get}
use Rattle.std.proofs.lemmas.Option.{slice_get_past}
use Rattle.std.proofs.lemmas.Result.{err_from_is_err_and}
use Rattle.psm_value.specs.declared.datum.Datum.{Datum}
use Rattle.psm_table.specs.Definition.{IsRow}
use Rattle.psm_table.specs.Evaluator.{mapped, test_of}
use Rattle.psm_tablecode.specs.Asked.{rows_of, walk_for}
use Rattle.psm_tablecode.specs.Codes.{over}
use Rattle.psm_tablecode.specs.RemainingRows.{rows_coming}
use Rattle.psm_tablecode.specs.Rows.{values_for}
use Rattle.psm_tablecode.proofs.RemainingRowsLaws.{coming_here, coming_none, coming_rest, get_all}
use Rattle.psm_tablecode.proofs.Results.{gives_by}
use Rattle.psm_tablecode.proofs.KeyWalks.{rows_few, walked_by}
use Rattle.psm_tablecode.proofs.Fitting.{type_checks_row}
use Rattle.psm_meaning.specs.Lines.{row_lines}
use Rattle.psm_session.proofs.WrittenRows.{goes_end, goes_fault, goes_next}
use Rattle.psm_session.proofs.selecting.put_selected.Goals as goal
use Rattle.psm_session.proofs.selecting.put_selected.Goals.{else-loop-at-test, then-loop-at-test+in_default}

pub loop-at-init : goal.loop-at-init
loop-at-init c = record { left = sym c.of-coming.ensures.rows; so_far = refl }

pub taken-requires : goal.taken-requires
taken-requires c =
    type_checks_row c.args.query.now c.args.vars.now c.args.table.now.contents.def c.in-Some.row.now c.requires
    (get_all (IsRow c.args.table.now.contents.def) (rows_of c.args.table.now.contents c.in_ok-walk.walk) c.loop-at.at c.in-Some.row.now c.of-coming.ensures.fit
    (coming_here (rows_of c.args.table.now.contents c.in_ok-walk.walk) c.loop-at.at c.in-Some.row.now (rows_coming c.next.new.self) (c.loop-at.invariant.left ∙ c.in-Some.ensures)))

pub returns-in_err-values : goal.returns-in_err-values
returns-in_err-values c =
    let order : List (List Datum) = rows_of c.args.table.now.contents c.in_ok-walk.walk in
    let here : slice_get order c.loop-at.at ≡ Some c.in-Some.row.now = coming_here order c.loop-at.at c.in-Some.row.now (rows_coming c.next.new.self) (c.loop-at.invariant.left ∙ c.in-Some.ensures) in
    let p = err_from_is_err_and c.from_residual-in_err-values.result c.from_residual-in_err-values.ensures.1 in
    let same : c.in_ok-walk.walk ≡ walk_for c.args.table.now.contents c.args.query.now.downward c.args.vars.now c.args.query.now.test = c.in_ok-walk.ensures.walk ∙ ap (walk_for c.args.table.now.contents c.args.query.now.downward c.args.vars.now) c.as_ref.ensures.value in
    let all = walked_by c.args.table.now.contents c.args.vars.now c.args.query.now.test (values_for c.args.vars.now c.args.query.now.items) c.in_ok-walk.ensures.table.ascend c.args.query.now.downward c.in_ok-walk.walk same in
    let expected = ap (mapped (λ rows. c.args.out.now.items ++ row_lines rows)) (sym all) in
    rw (p.1, p.2) (gives_by (_) (_) (Err c.in_err-values.field-0.0) expected (goes_fault c.args.out.now.items (test_of (over c.args.vars.now) c.args.query.now.test) (values_for c.args.vars.now c.args.query.now.items) order
    c.loop-at.at c.in-Some.row.now c.in_err-values.field-0.0 c.loop-at.out.items here c.in_err-values.ensures c.loop-at.invariant.so_far))

pub loop-at-preserved : goal.loop-at-preserved
loop-at-preserved c =
    let order : List (List Datum) = rows_of c.args.table.now.contents c.in_ok-walk.walk in
    let here : slice_get order c.loop-at.at ≡ Some c.in-Some.row.now = coming_here order c.loop-at.at c.in-Some.row.now (rows_coming c.next.new.self) (c.loop-at.invariant.left ∙ c.in-Some.ensures) in
    record {
      left = coming_rest order c.loop-at.at c.in-Some.row.now (rows_coming c.next.new.self) (c.loop-at.invariant.left ∙ c.in-Some.ensures);
      so_far = goes_next c.args.out.now.items (test_of (over c.args.vars.now) c.args.query.now.test) (values_for c.args.vars.now c.args.query.now.items) order
          c.loop-at.at c.in-Some.row.now c.in_ok-values.values c.loop-at.out.items c.put_taken.new.out.items here c.in_ok-values.ensures c.in_ok-put_taken.ensures c.loop-at.invariant.so_far;
    }

pub returns : goal.returns
returns c =
    let order : List (List Datum) = rows_of c.args.table.now.contents c.in_ok-walk.walk in
    let few : length order ≤ length c.args.table.now.contents.rows = rows_few c.args.table.now.contents c.in_ok-walk.walk in
    let none : slice_get order c.loop-at.at ≡ None = elim c.loop-at-test.branch [
      | else-loop-at-test w ↦ let past : length order ≤ c.loop-at.at = omega (arith, few, w.loop-at-test.false, c.len-at-end.ensures.value) in slice_get_past order c.loop-at.at past
      | then-loop-at-test+in_default w ↦ coming_none order c.loop-at.at (c.loop-at.invariant.left ∙ w.in_default.ensures)
    ] in
    let same : c.in_ok-walk.walk ≡ walk_for c.args.table.now.contents c.args.query.now.downward c.args.vars.now c.args.query.now.test = c.in_ok-walk.ensures.walk ∙ ap (walk_for c.args.table.now.contents c.args.query.now.downward c.args.vars.now) c.as_ref.ensures.value in
    let all = walked_by c.args.table.now.contents c.args.vars.now c.args.query.now.test (values_for c.args.vars.now c.args.query.now.items) c.in_ok-walk.ensures.table.ascend c.args.query.now.downward c.in_ok-walk.walk same in
    ap (mapped (λ rows. c.args.out.now.items ++ row_lines rows)) (sym all)
    ∙ goes_end c.args.out.now.items (test_of (over c.args.vars.now) c.args.query.now.test) (values_for c.args.vars.now c.args.query.now.items) order c.loop-at.at c.loop-at.out.items none c.loop-at.invariant.so_far
