use Rattle.std.proofs.Common.{◌≡◌, ◌<◌, length, sym, subst}
use Rattle.std.proofs.lemmas.List.Elements.{All-set}
use Rattle.psm_table.specs.Runs.{IsRun}
use Rattle.psm_table.proofs.Joined.{run_kept, written}
use Rattle.psm_table.proofs.runs.retain_at.Goals as goal

pub returns-else-is_empty-clause-runs : goal.returns-else-is_empty-clause-runs
returns-else-is_empty-clause-runs g c =
    let x : c.index.result.now ≡ c.retain.new.self = written c.args.runs.now.items c.args.at c.retain.new.self c.index.result.now c.requires.inside c.index.ensures in
    let some : 0 < length c.retain.new.self = subst (λ r. 0 < length r) x c.if-is_empty.ensures.some in
    let was : IsRun c.index_mut.result.now = subst IsRun (sym c.index_mut.ensures.value) (c.requires.runs c.args.at c.index_mut.result.now c.requires.inside) in
    All-set IsRun c.args.runs.now.items c.args.at c.retain.new.self
    (run_kept (g.T.Test.passes c.args.test.now) c.retain.new.self c.index_mut.result.now was c.retain.ensures some) c.requires.runs
