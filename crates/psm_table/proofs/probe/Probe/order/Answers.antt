use Rattle.std.proofs.Common.{sym, ◌∙◌, ◌≡◌, length, arith}
use Rattle.std.specs.Prelude.{min}
use Rattle.psm_table.specs.PairPosition.{probe_key}
use Rattle.psm_table.proofs.Orders.{key_order-end}
use Rattle.psm_table.proofs.probe.Probe.order.Goals as goal

pub returns : goal.returns
returns c =
    let long : c.loop-i.i ≡ min (length (probe_key c.args.self)) (length (probe_key c.args.other)) = grind (arith, c.len.ensures, c.len-2.ensures, c.min-i-end.ensures) in
    rw c.len-3.ensures at (rw c.len-4.ensures at c.cmp.ensures) ∙ sym (c.loop-i.invariant ∙ key_order-end (probe_key c.args.self) (probe_key c.args.other) c.loop-i.i long)
