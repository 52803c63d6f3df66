use Rattle.psm_text.proofs.Orders.{order_itself, order_swapped, order_chained, order_exchanged, same_from_equal, equal_from_same}
use Rattle.psm_text.proofs.order.padded_order_laws.Goals as goal

pub returns : goal.returns
returns c = record {
  itself = order_itself c.args.a.now;
  swapped = order_swapped c.args.a.now c.args.b.now;
  chained = order_chained c.args.a.now c.args.b.now c.args.c.now;
  same = (same_from_equal c.args.a.now c.args.b.now, equal_from_same c.args.a.now c.args.b.now);
  exchanged = order_exchanged c.args.a.now c.args.b.now c.args.c.now;
}
