use Rattle.std.proofs.Common.{ap, sym, ◌∙◌, arith, ◌+◌, ◌-◌, ◌/◌}
use Rattle.psm_table.specs.Cuts.{is_past}
use Rattle.psm_table.specs.declared.map.Pair.{Pair}
use Rattle.psm_table.specs.PairPosition.{probe_key}
use Rattle.psm_table.proofs.Halves.{parted_fail, parted_pass, parted_drop, parted_inside, parted_take}
use Rattle.psm_table.proofs.Walks.{up-past}
use Rattle.psm_table.proofs.run.turn_at.Goals as goal

pub loop-low-preserved-then-is_past : goal.loop-low-preserved-then-is_past
loop-low-preserved-then-is_past g c =
    parted_pass (λ p. is_past (probe_key c.args.probe) c.args.is_after p.key) c.args.pairs.now (up-past (probe_key c.args.probe) c.args.is_after) c.requires.order
    c.loop-low.low c.loop-low.high (c.loop-low.low + (c.loop-low.high - c.loop-low.low) / 2) c.index-pairs-middle.result c.loop-low.invariant (omega arith) (omega arith) c.index-pairs-middle.is
    (ap (λ (p : Pair g.row.V.Denot). is_past (probe_key c.args.probe) c.args.is_after p.key) c.index-pairs-middle.is
    ∙ sym c.is_past.ensures ∙ c.if-is_past.true)

pub loop-low-preserved : goal.loop-low-preserved
loop-low-preserved g c =
    parted_fail (λ p. is_past (probe_key c.args.probe) c.args.is_after p.key) c.args.pairs.now (up-past (probe_key c.args.probe) c.args.is_after) c.requires.order
    c.loop-low.low c.loop-low.high (c.loop-low.low + (c.loop-low.high - c.loop-low.low) / 2) c.index-pairs-middle.result c.loop-low.invariant (omega arith) (omega arith) c.index-pairs-middle.is
    (ap (λ (p : Pair g.row.V.Denot). is_past (probe_key c.args.probe) c.args.is_after p.key) c.index-pairs-middle.is
    ∙ sym c.is_past.ensures ∙ c.if-is_past.false)

pub returns-clause-inside : goal.returns-clause-inside
returns-clause-inside g c = parted_inside (λ p. is_past (probe_key c.args.probe) c.args.is_after p.key) c.args.pairs.now c.loop-low.low c.loop-low.high c.loop-low.invariant c.loop-low-test.false

pub returns-clause-past : goal.returns-clause-past
returns-clause-past g c = parted_drop (λ p. is_past (probe_key c.args.probe) c.args.is_after p.key) c.args.pairs.now c.loop-low.low c.loop-low.high c.loop-low.invariant c.loop-low-test.false

pub returns-clause-others : goal.returns-clause-others
returns-clause-others g c = parted_take (λ p. is_past (probe_key c.args.probe) c.args.is_after p.key) c.args.pairs.now c.loop-low.low c.loop-low.high c.loop-low.invariant c.loop-low-test.false
