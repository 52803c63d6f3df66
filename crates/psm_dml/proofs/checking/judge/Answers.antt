use Rattle.std.proofs.Common.{◌≡◌, [], List, length, take, get_or, ◌+◌, ap, sym, subst, ◌∙◌}
use Rattle.std.specs.Prelude.{All}
use Rattle.std.proofs.lemmas.List.{get_or_default, take_all}
use Rattle.psm_value.specs.declared.datum.Datum.{Datum}
use Rattle.psm_tablecode.specs.Codes.{over}
use Rattle.psm_tablecode.specs.TypeChecks.{Runs}
use Rattle.psm_table.specs.Changing.{in_order, row_passes, rows_pass}
use Rattle.psm_dml.specs.Judged.{result_of, verdict_with, IsWithin}
use Rattle.psm_dml.proofs.Judging.{first_counts, seen_next, stands_next, within_next, Stands}
use Rattle.psm_dml.proofs.checking.judge.Goals as goal

pub row_of-requires : goal.row_of-requires
row_of-requires c =
    subst (λ (r : List Datum). All (Runs r []) c.args.checks.now) (sym (c.values.ensures ∙ c.index-rows-at.is)) (c.requires.runs c.loop-at.at c.index-rows-at.result c.loop-at-test.true)

pub loop-at-preserved : goal.loop-at-preserved
loop-at-preserved c =
    let row : List Datum = c.index-rows-at.result in
    let at_row : get_or c.args.rows.now c.loop-at.at [] ≡ row = get_or_default c.args.rows.now c.loop-at.at [] row c.loop-at-test.true ∙ sym c.index-rows-at.is in
    let passed : row_passes (over []) c.args.checks.now row ≡ result_of c.in_ok-passed.passed = ap (row_passes (over []) c.args.checks.now) (sym c.values.ensures) ∙ sym c.in_ok-passed.ensures in
    record {
      stands = subst (λ v. Stands (over []) c.args.checks.now c.args.key.now c.args.rows.now (take (c.loop-at.at + 1) c.args.rows.now) v) (sym c.next-verdict.ensures)
          (subst (λ s. Stands (over []) c.args.checks.now c.args.key.now c.args.rows.now s (verdict_with c.args.key.now c.args.rows.now c.loop-at.verdict c.loop-at.at (result_of c.in_ok-passed.passed)))
          (sym (seen_next c.args.rows.now c.loop-at.at row c.loop-at-test.true c.index-rows-at.is))
          (stands_next (over []) c.args.checks.now c.args.key.now c.args.rows.now (take c.loop-at.at c.args.rows.now) c.loop-at.verdict c.loop-at.at row (result_of c.in_ok-passed.passed)
          c.loop-at-test.true at_row passed c.loop-at.invariant.stands));
      within = subst (IsWithin (length c.args.rows.now)) (sym c.next-verdict.ensures)
          (within_next (length c.args.rows.now) c.args.key.now c.args.rows.now c.loop-at.verdict c.loop-at.at (result_of c.in_ok-passed.passed) c.loop-at-test.true c.loop-at.invariant.within);
    }

pub returns : goal.returns
returns c =
    let v = subst (λ v. Stands (over []) c.args.checks.now c.args.key.now c.args.rows.now (take c.loop-at.at c.args.rows.now) v) c.in-Raised.is c.loop-at.invariant.stands in
    ap (λ (l : List (List Datum)). rows_pass (over []) c.args.checks.now (in_order c.args.key.now l)) (sym (take_all c.loop-at.at c.args.rows.now c.loop-at-test.false))
    ∙ first_counts (over []) c.args.checks.now c.args.key.now (get_or c.args.rows.now c.in-Raised.field-0 []) c.in-Raised.state (in_order c.args.key.now (take c.loop-at.at c.args.rows.now)) v.1
