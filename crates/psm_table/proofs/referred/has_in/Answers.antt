use Rattle.std.proofs.Common.{ap, sym, ◌∙◌}
use Rattle.std.specs.Ordering.{is_eq}
use Rattle.psm_table.specs.Key.{values_at}
use Rattle.psm_table.proofs.Referring.{equal_null, equal_order}
use Rattle.psm_table.proofs.MatchingEntries.{own_columns}
use Rattle.psm_table.proofs.referred.has_in.Goals as goal

pub returns-then-is_null_in : goal.returns-then-is_null_in
returns-then-is_null_in c = equal_null c.args.values.now (values_at c.args.columns.now c.args.row.now) c.requires.filled (sym c.is_null_in.ensures ∙ c.if-is_null_in.true)

pub returns : goal.returns
returns c = c.is_eq.ensures ∙ ap is_eq c.order.ensures ∙ equal_order c.args.values.now (values_at c.args.columns.now c.args.row.now) c.requires.filled (sym c.is_null_in.ensures ∙ c.if-is_null_in.false)

pub order-requires-clause-other : goal.order-requires-clause-other
order-requires-clause-other c = own_columns c.args.columns.now c.args.row.now (sym c.is_null_in.ensures ∙ c.if-is_null_in.false)
