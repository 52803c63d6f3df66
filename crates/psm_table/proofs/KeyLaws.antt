-- The order of keys is total.
use Rattle.std.proofs.Common.{◌≡◌, refl, List}
use Rattle.std.specs.Cmp.{IsTotalOrder}
use Rattle.std.specs.Cmp.Lexicographic.{lists_total}
use Rattle.std.specs.declared.cmp.Ordering.{Ordering}
use Rattle.std.specs.declared.cmp.Ordering.TheVariants.{Less, Equal, Greater}
use Rattle.std.specs.Ordering.{ordering_reverse}
use Rattle.psm_value.specs.declared.datum.Datum.{Datum}
use Rattle.psm_value.proofs.DataOrder.{data_order-total}
use Rattle.psm_table.specs.Key.{key_order}

pub key_order-total : IsTotalOrder key_order
key_order-total = lists_total data_order-total

self_equal : (o : Ordering) → o ≡ ordering_reverse o → o ≡ Equal
self_equal Less e = cc
self_equal Equal e = refl
self_equal Greater e = cc

pub key_order-refl : (a : List Datum) → key_order a a ≡ Equal
key_order-refl a = self_equal (key_order a a) (key_order-total.antisymm a a)
