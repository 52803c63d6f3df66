use Rattle.std.proofs.Common.{◌≡◌, List, [], ◌∷◌, ◌++◌, ℕ, sym, subst, ◌∙◌}
use Rattle.psm_table.specs.Held.{state_of}
use Rattle.psm_table.specs.State.{IsTidy}
use Rattle.psm_table.proofs.Entered.{Sets}
use Rattle.psm_table.proofs.Holds.{inserted-last, tidy-indexed}
use Rattle.psm_table.proofs.table.Table.index.Goals as goal

pub returns-clause-tidy : goal.returns-clause-tidy
returns-clause-tidy c tidy =
    let sets : c.insert_reserved.new.items.items ≡ c.self.inside.indexes.items ++ c.new.result ∷ [] =
    c.insert_reserved.ensures.items ∙ inserted-last c.reserve.new.self.items c.self.inside.indexes.items c.len-last.result c.new.result c.reserve.ensures.items (c.len-last.ensures ∙ c.reserve.new.self.ok.0) in
    subst (λ (ls : List (List ℕ)). IsTidy (state_of c.self.inside.def ls c.self.inside.rows c.insert_reserved.new.items.items)) (sym c.in_ok-push.ensures.items)
    (subst (λ (s : Sets). IsTidy (state_of c.self.inside.def (c.self.inside.lists.items ++ c.of-list.result ∷ []) c.self.inside.rows s)) (sym sets)
    (tidy-indexed c.self.inside.def c.self.inside.lists.items c.self.inside.rows c.self.inside.live c.self.inside.indexes.items c.self.invariant.0 c.of-list.result c.new.result c.new.ensures.pairs
    (subst IsTidy (sym c.self.view_is) tidy)))
