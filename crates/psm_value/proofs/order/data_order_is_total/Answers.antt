use Rattle.psm_value.proofs.DataOrder.{data_order-same, data_order-turned, data_order-chained, data_order-total}
use Rattle.psm_value.proofs.order.data_order_is_total.Goals as goal

pub returns : goal.returns
returns c = record {
  reflexive = data_order-same;
  turned = data_order-turned;
  transitive = data_order-chained;
  total = data_order-total;
}
