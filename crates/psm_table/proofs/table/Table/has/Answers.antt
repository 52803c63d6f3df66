use Rattle.std.proofs.Common.{List, ℕ, ap, sym, ◌∙◌}
use Rattle.std.specs.Prelude.{slice_get}
use Rattle.psm_table.specs.Held.{live_rows}
use Rattle.psm_table.proofs.Referring.{entered_in}
use Rattle.psm_table.proofs.table.Table.has.Goals as goal

pub has_entry_with-requires-clause-entered : goal.has_entry_with-requires-clause-entered
has_entry_with-requires-clause-entered c =
    entered_in c.self.inside.def c.self.inside.lists.items c.self.inside.indexes.items (live_rows c.self.inside.rows.pairs) c.in-Some.i c.args.columns.now c.index.result.now (ap (λ (ls : List (List ℕ)). slice_get ls c.in-Some.i) (sym c.as_slice.ensures.value) ∙ c.in-Some.ensures) c.index.ensures
    c.self.invariant.0.sets c.self.invariant.0.entered
