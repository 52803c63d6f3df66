use Rattle.std.proofs.Common.{◌≡◌, sym, subst, ◌∙◌}
use Rattle.std.specs.Prelude.{All}
use Rattle.psm_table.specs.Map.{AreAscending}
use Rattle.psm_table.specs.Runs.{joined, IsRun}
use Rattle.psm_table.proofs.Joined.{take-all}
use Rattle.psm_table.proofs.map.OrderedMap.copy.Goals as goal

pub invariant_of-result : goal.invariant_of-result
invariant_of-result g c =
    let all : c.loop-run.runs.items ≡ c.self.inside.runs.items =
    c.loop-run.invariant ∙ take-all c.deref-run-items.result.now c.loop-run.run-index c.loop-run-test.false ∙ c.deref-run-items.ensures.value in
    (subst (λ l. AreAscending (joined l)) (sym all) c.self.invariant.0, subst (All IsRun) (sym all) c.self.invariant.1, tt, λ e. cc)
