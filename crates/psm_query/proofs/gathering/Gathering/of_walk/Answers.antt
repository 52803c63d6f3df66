use Rattle.std.proofs.Common.{◌≡◌, ◌+◌, ◌≤◌, List, length, Some, None, Err, ap, sym, subst, ◌∙◌, arith}
use Rattle.std.specs.Prelude.{slice_get}
use Rattle.std.proofs.lemmas.Option.{slice_get_past}
use Rattle.std.proofs.lemmas.Result.{err_from_is_err_and}
use Rattle.psm_value.specs.declared.datum.Datum.{Datum}
use Rattle.psm_table.specs.Definition.{IsRow}
use Rattle.psm_table.specs.Evaluator.{mapped, test_of}
use Rattle.psm_table.specs.Queries.{walked}
use Rattle.psm_tablecode.specs.Asked.{rows_of, walk_for}
use Rattle.psm_tablecode.specs.Codes.{over}
use Rattle.psm_tablecode.specs.RemainingRows.{rows_coming}
use Rattle.psm_query.specs.Gathered.{Gathered, nothing, with_rows, AreUpTo}
use Rattle.psm_tablecode.specs.Rows.{values_for}
use Rattle.psm_tablecode.proofs.RemainingRowsLaws.{coming_here, coming_none, coming_rest, get_all}
use Rattle.psm_tablecode.proofs.Results.{gives_by}
use Rattle.psm_tablecode.proofs.KeyWalks.{rows_few, walked_by}
use Rattle.psm_tablecode.proofs.Fitting.{type_checks_row}
use Rattle.psm_query.proofs.WalkLaws.{goes_end, goes_fault, goes_next, up_to_nothing, up_to_taken}
use Rattle.psm_query.proofs.gathering.Gathering.of_walk.Goals as goal
use Rattle.psm_query.proofs.gathering.Gathering.of_walk.Goals.{else-loop-at-test, then-loop-at-test+in_default}

pub loop-at-init : goal.loop-at-init
loop-at-init c =
    let order : List (List Datum) = rows_of c.args.table.now.contents c.in_ok-walk.walk in
    record {
      left = sym c.of-coming.ensures.rows;
      so_far = ap (λ (g : Gathered). mapped (with_rows c.args.query.now.items g) (walked (test_of (over c.args.vars.now) c.args.query.now.test) (values_for c.args.vars.now c.args.query.now.items) order)) c.in_ok-gathering.ensures;
      counts = subst (λ (g : Gathered). AreUpTo 0 g.tallies) (sym c.in_ok-gathering.ensures) (up_to_nothing c.args.query.now.items);
    }

pub taken-requires : goal.taken-requires
taken-requires c =
    type_checks_row c.args.query.now c.args.vars.now c.args.table.now.contents.def c.in-Some.row.now c.requires
    (get_all (IsRow c.args.table.now.contents.def) (rows_of c.args.table.now.contents c.in_ok-walk.walk) c.loop-at.at c.in-Some.row.now c.of-coming.ensures.fit
    (coming_here (rows_of c.args.table.now.contents c.in_ok-walk.walk) c.loop-at.at c.in-Some.row.now (rows_coming c.next.new.self) (c.loop-at.invariant.left ∙ c.in-Some.ensures)))

pub returns-in_err-values : goal.returns-in_err-values
returns-in_err-values c =
    let order : List (List Datum) = rows_of c.args.table.now.contents c.in_ok-walk.walk in
    let here : slice_get order c.loop-at.at ≡ Some c.in-Some.row.now = coming_here order c.loop-at.at c.in-Some.row.now (rows_coming c.next.new.self) (c.loop-at.invariant.left ∙ c.in-Some.ensures) in
    let p = err_from_is_err_and c.from_residual-in_err-values.result c.from_residual-in_err-values.ensures.1 in
    let same : c.in_ok-walk.walk ≡ walk_for c.args.table.now.contents c.args.query.now.downward c.args.vars.now c.args.query.now.test = c.in_ok-walk.ensures.walk ∙ ap (walk_for c.args.table.now.contents c.args.query.now.downward c.args.vars.now) c.as_ref.ensures.value in
    let all = walked_by c.args.table.now.contents c.args.vars.now c.args.query.now.test (values_for c.args.vars.now c.args.query.now.items) c.in_ok-walk.ensures.table.ascend c.args.query.now.downward c.in_ok-walk.walk same in
    let expected = ap (mapped (with_rows c.args.query.now.items (nothing c.args.query.now.items))) (sym all) in
    rw (p.1, p.2) (gives_by (_) (_) (Err c.in_err-values.field-0.0) expected (goes_fault c.args.query.now.items (nothing c.args.query.now.items) (test_of (over c.args.vars.now) c.args.query.now.test) (values_for c.args.vars.now c.args.query.now.items) order
    c.loop-at.at c.in-Some.row.now c.in_err-values.field-0.0 c.loop-at.gathering here c.in_err-values.ensures c.loop-at.invariant.so_far))

pub loop-at-preserved : goal.loop-at-preserved
loop-at-preserved c =
    let order : List (List Datum) = rows_of c.args.table.now.contents c.in_ok-walk.walk in
    let here : slice_get order c.loop-at.at ≡ Some c.in-Some.row.now = coming_here order c.loop-at.at c.in-Some.row.now (rows_coming c.next.new.self) (c.loop-at.invariant.left ∙ c.in-Some.ensures) in
    record {
      left = coming_rest order c.loop-at.at c.in-Some.row.now (rows_coming c.next.new.self) (c.loop-at.invariant.left ∙ c.in-Some.ensures);
      so_far = goes_next c.args.query.now.items (nothing c.args.query.now.items) (test_of (over c.args.vars.now) c.args.query.now.test) (values_for c.args.vars.now c.args.query.now.items) order
          c.loop-at.at c.in-Some.row.now c.in_ok-values.values c.loop-at.gathering c.take.new.self here c.in_ok-values.ensures c.in_ok-take.ensures c.loop-at.invariant.so_far;
      counts = subst (λ (g : Gathered). AreUpTo (c.loop-at.at + 1) g.tallies) (sym c.in_ok-take.ensures)
          (up_to_taken c.args.query.now.items c.loop-at.at c.loop-at.gathering c.in_ok-values.values c.loop-at.invariant.counts);
    }

pub returns : goal.returns
returns c =
    let order : List (List Datum) = rows_of c.args.table.now.contents c.in_ok-walk.walk in
    let few : length order ≤ length c.args.table.now.contents.rows = rows_few c.args.table.now.contents c.in_ok-walk.walk in
    let none : slice_get order c.loop-at.at ≡ None = elim c.loop-at-test.branch [
      | else-loop-at-test w ↦ let past : length order ≤ c.loop-at.at = omega (arith, few, w.loop-at-test.false, c.len-at-end.ensures.value) in slice_get_past order c.loop-at.at past
      | then-loop-at-test+in_default w ↦ coming_none order c.loop-at.at (c.loop-at.invariant.left ∙ w.in_default.ensures)
    ] in
    let same : c.in_ok-walk.walk ≡ walk_for c.args.table.now.contents c.args.query.now.downward c.args.vars.now c.args.query.now.test = c.in_ok-walk.ensures.walk ∙ ap (walk_for c.args.table.now.contents c.args.query.now.downward c.args.vars.now) c.as_ref.ensures.value in
    let all = walked_by c.args.table.now.contents c.args.vars.now c.args.query.now.test (values_for c.args.vars.now c.args.query.now.items) c.in_ok-walk.ensures.table.ascend c.args.query.now.downward c.in_ok-walk.walk same in
    ap (mapped (with_rows c.args.query.now.items (nothing c.args.query.now.items))) (sym all)
    ∙ goes_end c.args.query.now.items (nothing c.args.query.now.items) (test_of (over c.args.vars.now) c.args.query.now.test) (values_for c.args.vars.now c.args.query.now.items) order
    c.loop-at.at c.loop-at.gathering none c.loop-at.invariant.so_far
