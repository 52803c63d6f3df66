use Rattle.std.proofs.Common.{ap, sym, ◌∙◌}
use Rattle.psm_table.specs.Key.{values_at}
use Rattle.psm_table.specs.Unique.{equal_values}
use Rattle.psm_table.proofs.Referring.{passed_over}
use Rattle.psm_table.proofs.referred.has_row_with.Goals as goal

pub rows-preserved : goal.rows-preserved
rows-preserved c =
    c.rows.invariant
    ∙ passed_over c.args.columns.now c.args.values.now c.rows.rows c.in-Some.row.now c.next.new.self c.in-Some.ensures
    (ap (λ r. equal_values c.args.values.now (values_at c.args.columns.now r)) (sym c.values.ensures) ∙ sym c.has_in.ensures ∙ c.if-has_in.false)
