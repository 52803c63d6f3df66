use Rattle.std.proofs.Common.{List, ℕ, get_or, length, sym, subst, take}
use Rattle.psm_table.specs.Held.{entries_of, live_rows, IsEntered}
use Rattle.psm_table.proofs.Entered.{entered-first, Sets}
use Rattle.psm_table.proofs.table.Table.clash.Goals as goal

pub has_rival-requires-clause-entered : goal.has_rival-requires-clause-entered
has_rival-requires-clause-entered c = λ k d l.
    subst (λ (us : List (List ℕ)). IsEntered c.self.inside.def c.self.inside.def.unique (entries_of (take (length us) c.deref.result.now)) (get_or (live_rows c.self.inside.rows.pairs) k d)) (sym c.items.ensures)
    (subst (λ (s : Sets). IsEntered c.self.inside.def c.self.inside.def.unique (entries_of (take (length c.self.inside.def.unique) s)) (get_or (live_rows c.self.inside.rows.pairs) k d)) (sym c.deref.ensures.value)
    (entered-first c.self.inside.def c.self.inside.lists.items c.self.inside.def.unique c.self.inside.indexes.items (get_or (live_rows c.self.inside.rows.pairs) k d) c.self.invariant.0.unique
    (c.self.invariant.0.entered k d l)))
