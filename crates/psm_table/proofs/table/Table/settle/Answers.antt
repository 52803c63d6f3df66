use Rattle.std.proofs.Common.{List, ℕ, length, ap, subst, ◌∙◌, ◌+◌, ◌*◌, arith}
use Rattle.psm_table.specs.Held.{entries_of, live_rows, state_of}
use Rattle.psm_table.specs.Index.{AreEntered}
use Rattle.psm_table.specs.State.{few_left, IsTidy, State}
use Rattle.psm_table.proofs.Counts.{tidy-few}
use Rattle.psm_table.proofs.Holds.{contents-settled, counted-settled, held-settled}
use Rattle.psm_table.proofs.table.Table.settle.Goals as goal

pub invariant_of-self : goal.invariant_of-self
invariant_of-self c = (
  held-settled c.self.inside.def c.self.inside.lists.items c.self.inside.rows c.retain.new.self c.self.inside.live c.self.inside.indexes.items c.settle_entries.new.indexes.items c.self.invariant.0 c.retain.ensures.pairs c.settle_entries.ensures.lists (subst (λ (ls : List (List ℕ)). AreEntered c.self.inside.def ls (live_rows c.self.inside.rows.pairs) (entries_of c.settle_entries.new.indexes.items)) c.as_slice.ensures.value c.settle_entries.ensures.entered) c.retain.ensures.ordered,
  λ l. counted-settled c.self.inside.def c.self.inside.lists.items c.self.inside.rows c.retain.new.self c.settle_entries.new.indexes.items c.retain.ensures.pairs c.settle_entries.ensures.few (length (live_rows c.retain.new.self.pairs) + 0) (omega arith),
)

pub returns-then-self-from-clause-rows : goal.returns-then-self-from-clause-rows
returns-then-self-from-clause-rows c =
    contents-settled c.self.inside.def c.self.inside.rows c.retain.new.self c.retain.ensures.pairs ∙ ap (λ (s : State). s.contents) c.self.view_is

pub returns-then-self-from-clause-tidy : goal.returns-then-self-from-clause-tidy
returns-then-self-from-clause-tidy c =
    counted-settled c.self.inside.def c.self.inside.lists.items c.self.inside.rows c.retain.new.self c.settle_entries.new.indexes.items c.retain.ensures.pairs c.settle_entries.ensures.few
    (2 * length (live_rows c.retain.new.self.pairs) + few_left) (omega arith)

pub returns-else-self-from-clause-tidy : goal.returns-else-self-from-clause-tidy
returns-else-self-from-clause-tidy c =
    subst IsTidy c.self.view_is
    (tidy-few (state_of c.self.inside.def c.self.inside.lists.items c.self.inside.rows c.self.inside.indexes.items) c.self.inside.left (omega (arith, c.if-self-from.false, c.self.invariant.0.count, c.self.invariant.0.table.bound))
    (omega (arith, c.if-self-from.false, c.self.invariant.0.count)) c.self.invariant.1)
