use Rattle.std.proofs.Common.{List, ap, subst, ◌∙◌}
use Rattle.std.specs.Prelude.{IfSome}
use Rattle.psm_value.specs.declared.datum.Datum.{Datum}
use Rattle.psm_table.specs.Definition.{IsRow}
use Rattle.psm_table.specs.Held.{row_of}
use Rattle.psm_table.specs.Key.{values_at}
use Rattle.psm_table.specs.State.{State}
use Rattle.psm_table.specs.Table.{namesake}
use Rattle.psm_table.proofs.Holds.{found_fits}
use Rattle.psm_table.proofs.Tables.{held-find}
use Rattle.psm_table.proofs.table.Table.namesake.Goals as goal

pub returns-clause-row : goal.returns-clause-row
returns-clause-row c =
    c.row_at.ensures
    ∙ ap (λ k. row_of (values_at k c.values.result.now) c.self.inside.rows.pairs) c.items.ensures ∙ ap (λ (r : List Datum). row_of (values_at c.self.inside.def.key r) c.self.inside.rows.pairs) c.values.ensures
    ∙ held-find c.self.inside.def c.self.inside.lists.items c.self.inside.rows c.self.inside.live c.self.inside.indexes.items c.self.invariant.0 (values_at c.self.inside.def.key c.args.row.now) ∙ ap (λ (s : State). namesake s.contents c.args.row.now) c.self.view_is

pub returns-clause-fits : goal.returns-clause-fits
returns-clause-fits c =
    subst (λ d. IfSome c.row_at.result (λ x. IsRow d x.now)) (ap (λ (s : State). s.contents.def) c.self.view_is)
    (found_fits c.self.inside.def c.self.inside.lists.items c.self.inside.rows c.self.inside.live c.self.inside.indexes.items c.self.invariant.0 (values_at c.self.inside.def.key c.args.row.now) c.row_at.result
    (c.row_at.ensures
    ∙ ap (λ k. row_of (values_at k c.values.result.now) c.self.inside.rows.pairs) c.items.ensures ∙ ap (λ (r : List Datum). row_of (values_at c.self.inside.def.key r) c.self.inside.rows.pairs) c.values.ensures))
