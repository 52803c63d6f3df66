use Rattle.std.proofs.Common.{ap, ◌∙◌}
use Rattle.std.specs.Prelude.{is_some}
use Rattle.psm_table.specs.Keyed.{has_values}
use Rattle.psm_table.specs.State.{State}
use Rattle.psm_table.proofs.Filters.{copied_some}
use Rattle.psm_table.proofs.Referring.{key_found}
use Rattle.psm_table.proofs.Tables.{held-find}
use Rattle.psm_table.proofs.table.Table.has_key_of.Goals as goal

pub returns : goal.returns
returns c =
    c.is_some.ensures ∙ copied_some c.row_at.result
    ∙ ap is_some (c.row_at.ensures ∙ held-find c.self.inside.def c.self.inside.lists.items c.self.inside.rows c.self.inside.live c.self.inside.indexes.items c.self.invariant.0 c.args.values.now)
    ∙ key_found c.self.inside.def c.args.values.now c.requires _ c.self.invariant.0.table.fit
    ∙ ap (λ (s : State). has_values s.contents.def.key c.args.values.now s.contents.rows) c.self.view_is
