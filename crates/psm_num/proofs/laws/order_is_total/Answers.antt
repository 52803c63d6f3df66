use Rattle.psm_num.proofs.OrderLaws.{order_total, order-same, order-chained}
use Rattle.psm_num.proofs.laws.order_is_total.Goals as goal

pub returns : goal.returns
returns c = record {
  reflexive = order-same;
  turned = order_total.antisymm;
  transitive = order-chained;
  total = order_total;
}
