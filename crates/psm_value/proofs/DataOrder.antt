-- The order of all values is a total one.
use Rattle.std.proofs.Common.{◌≡◌, refl, ap, ◌∙◌}
use Rattle.std.specs.Cmp.{IsTotalOrder}
use Rattle.std.specs.Ordering.{ordering_reverse}
use Rattle.std.specs.declared.cmp.Ordering.{Ordering}
use Rattle.std.specs.declared.cmp.Ordering.TheVariants.{Less, Equal, Greater}
use Rattle.psm_num.proofs.OrderLaws.{order_total, order-same}
use Rattle.psm_text.proofs.Orders.{order_itself, order_swapped, order_chained, order_exchanged}
use Rattle.psm_value.specs.declared.datum.Datum.{Datum}
use Rattle.psm_value.specs.declared.datum.Datum.TheVariants.{Null, Num, Text}
use Rattle.psm_value.specs.Order.{data_order}

pub data_order-same : (a : Datum) → data_order a a ≡ Equal
data_order-same Null = refl
data_order-same (Num a) = order-same a
data_order-same (Text a) = order_itself a

pub data_order-turned : (a b : Datum) → data_order a b ≡ ordering_reverse (data_order b a)
data_order-turned Null Null = refl
data_order-turned Null (Num b) = refl
data_order-turned Null (Text b) = refl
data_order-turned (Num a) Null = refl
data_order-turned (Num a) (Num b) = order_total.antisymm a b
data_order-turned (Num a) (Text b) = refl
data_order-turned (Text a) Null = refl
data_order-turned (Text a) (Num b) = refl
data_order-turned (Text a) (Text b) = order_swapped a b

less-chained : (a b c : Datum) → data_order a b ≡ Less → data_order b c ≡ Less → data_order a c ≡ Less
less-chained Null Null Null f g = cc
less-chained Null Null (Num c) f g = refl
less-chained Null Null (Text c) f g = refl
less-chained Null (Num b) Null f g = cc
less-chained Null (Num b) (Num c) f g = refl
less-chained Null (Num b) (Text c) f g = refl
less-chained Null (Text b) Null f g = cc
less-chained Null (Text b) (Num c) f g = refl
less-chained Null (Text b) (Text c) f g = refl
less-chained (Num a) Null Null f g = cc
less-chained (Num a) Null (Num c) f g = cc
less-chained (Num a) Null (Text c) f g = refl
less-chained (Num a) (Num b) Null f g = cc
less-chained (Num a) (Num b) (Num c) f g = order_total.trans a b c f g
less-chained (Num a) (Num b) (Text c) f g = refl
less-chained (Num a) (Text b) Null f g = cc
less-chained (Num a) (Text b) (Num c) f g = cc
less-chained (Num a) (Text b) (Text c) f g = refl
less-chained (Text a) Null Null f g = cc
less-chained (Text a) Null (Num c) f g = cc
less-chained (Text a) Null (Text c) f g = cc
less-chained (Text a) (Num b) Null f g = cc
less-chained (Text a) (Num b) (Num c) f g = cc
less-chained (Text a) (Num b) (Text c) f g = cc
less-chained (Text a) (Text b) Null f g = cc
less-chained (Text a) (Text b) (Num c) f g = cc
less-chained (Text a) (Text b) (Text c) f g = order_chained a b c f g

equal-exchanged : (a b c : Datum) → data_order a b ≡ Equal → data_order a c ≡ data_order b c
equal-exchanged Null Null c f = refl
equal-exchanged Null (Num b) c f = cc
equal-exchanged Null (Text b) c f = cc
equal-exchanged (Num a) Null c f = cc
equal-exchanged (Num a) (Num b) Null f = refl
equal-exchanged (Num a) (Num b) (Num c) f = order_total.congr a b c f
equal-exchanged (Num a) (Num b) (Text c) f = refl
equal-exchanged (Num a) (Text b) c f = cc
equal-exchanged (Text a) Null c f = cc
equal-exchanged (Text a) (Num b) c f = cc
equal-exchanged (Text a) (Text b) Null f = refl
equal-exchanged (Text a) (Text b) (Num c) f = refl
equal-exchanged (Text a) (Text b) (Text c) f = order_exchanged a b c f

pub data_order-total : IsTotalOrder data_order
data_order-total = record { antisymm = data_order-turned; trans = less-chained; congr = equal-exchanged }

pub data_order-chained : (a b c : Datum) (r : Ordering) → data_order a b ≡ r → data_order b c ≡ r → data_order a c ≡ r
data_order-chained a b c Less f g = less-chained a b c f g
data_order-chained a b c Equal f g = equal-exchanged a b c f ∙ g
data_order-chained a b c Greater f g =
    let below : data_order c b ≡ Less = data_order-turned c b ∙ ap ordering_reverse g in
    let above : data_order b a ≡ Less = data_order-turned b a ∙ ap ordering_reverse f in
    data_order-turned a c ∙ ap ordering_reverse (less-chained c b a below above)
