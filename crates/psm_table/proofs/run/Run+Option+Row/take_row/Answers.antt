use Rattle.std.proofs.Common.{◌≡◌, ap, sym, subst, ◌∙◌, None}
use Rattle.psm_table.specs.Map.{with_value}
use Rattle.psm_table.specs.PairPosition.{probe_key, IsAt}
use Rattle.psm_table.proofs.Pairs.{replaced, with_value-absent}
use Rattle.psm_table.proofs.run.Run+Option+Row.take_row.Goals as goal

pub returns-in-Ok-clause-pairs : goal.returns-in-Ok-clause-pairs
returns-in-Ok-clause-pairs c =
    let same : c.self.inside.pairs.items ≡ c.args.self.now = c.self.view_is in
    let found = subst (λ l. IsAt (probe_key c.args.probe) l c.in-Ok.at) (sym same) c.in-Ok.ensures.found in
    rw c.replace.ensures.after
    (replaced (probe_key c.args.probe) None c.self.inside.pairs.items c.in-Ok.at c.index_mut.result.now c.self.invariant.0 found c.index_mut.ensures.value
    ∙ ap (with_value (probe_key c.args.probe) None) same)

pub returns-in-Err-clause-pairs : goal.returns-in-Err-clause-pairs
returns-in-Err-clause-pairs c = sym (with_value-absent (probe_key c.args.probe) None c.args.self.now c.in-Err.ensures.absent.has)
