use Rattle.std.proofs.Common.{◌++◌, ◌<◌, ap, sym, replicate, length, ◌∙◌, arith}
use Rattle.psm_store.proofs.Runs.{refilled}
use Rattle.psm_store.proofs.copies.Copies.restore.Goals as goal

pub loop-self-preserved-in-Some : goal.loop-self-preserved-in-Some
loop-self-preserved-in-Some c =
    let inside : c.args.depth < length c.loop-self.self = omega (arith, c.loop-self-test.true, c.len.ensures) in
    refilled c.args.depth c.in-Some.group.marks c.loop-self.self c.pop.new.self c.into_tables.result c.loop-self.tables
    (c.in-Some.ensures.some ∙ ap (λ t. c.pop.new.self ++ replicate c.in-Some.group.marks t) (sym c.into_tables.ensures)) inside
    ∙ c.loop-self.invariant
