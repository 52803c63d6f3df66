use Rattle.std.proofs.Common.{◌≡◌, ap, ◌∙◌}
use Rattle.psm_table.specs.Held.{entries_of, state_of}
use Rattle.psm_table.proofs.Holds.{counted-same, held-copy, state-copy}
use Rattle.psm_table.proofs.table.Table.copy.Goals as goal

pub invariant_of-result : goal.invariant_of-result
invariant_of-result c =
    let lists : c.into_vec.result.items ≡ c.self.inside.lists.items = c.into_vec.ensures ∙ c.in_ok-copied_lists.ensures ∙ c.as_slice.ensures.value in
    let sets : entries_of c.in_ok-copied_indexes.field-0.items ≡ entries_of c.self.inside.indexes.items = c.in_ok-copied_indexes.ensures ∙ ap entries_of c.as_slice-2.ensures.value in (
      held-copy c.self.inside.def c.in_ok-copy.field-0 c.self.inside.lists.items c.into_vec.result.items c.self.inside.rows c.in_ok-copy-2.field-0 c.self.inside.live c.self.inside.indexes.items
          c.in_ok-copied_indexes.field-0.items c.in_ok-copy.ensures lists c.in_ok-copy-2.ensures sets c.self.invariant.0,
      counted-same (state_of c.self.inside.def c.self.inside.lists.items c.self.inside.rows c.self.inside.indexes.items)
          (state_of c.in_ok-copy.field-0 c.into_vec.result.items c.in_ok-copy-2.field-0 c.in_ok-copied_indexes.field-0.items) c.self.inside.left
          (state-copy c.self.inside.def c.in_ok-copy.field-0 c.self.inside.lists.items c.into_vec.result.items c.self.inside.rows c.in_ok-copy-2.field-0 c.self.inside.indexes.items
          c.in_ok-copied_indexes.field-0.items c.in_ok-copy.ensures lists c.in_ok-copy-2.ensures sets) c.self.invariant.1,
    )
