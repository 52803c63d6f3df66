-- The order of the beginnings of keys goes with that of the keys.
use Rattle.std.proofs.Common.{◌≡◌, List, [], ◌∷◌, refl, ap, sym, ◌∙◌}
use Rattle.std.specs.declared.cmp.Ordering.{Ordering}
use Rattle.std.specs.declared.cmp.Ordering.TheVariants.{Less, Equal, Greater}
use Rattle.std.specs.Ordering.{ordering_then, ordering_reverse}
use Rattle.std.specs.Cmp.{alike_right}
use Rattle.psm_value.specs.declared.datum.Datum.{Datum}
use Rattle.psm_value.specs.Order.{data_order}
use Rattle.psm_value.proofs.DataOrder.{data_order-total}
use Rattle.psm_table.specs.Key.{key_order}
use Rattle.psm_table.specs.Map.{prefix_order}

-- o is the order of x and y, p of y and v, and q of x and v; r, s, t are those of what follows
less_step : (x y v : Datum) (r s t : Ordering) (o p : Ordering) → data_order x y ≡ o → data_order y v ≡ p
    → ordering_then o r ≡ Less → ordering_then p s ≡ Less → (r ≡ Less → s ≡ Less → t ≡ Less) → ordering_then (data_order x v) t ≡ Less
less_step x y v r s t Less Less e f a b h = rw (data_order-total.trans x y v e f) refl
less_step x y v r s t Less Equal e f a b h = rw (sym (alike_right data_order-total y v x f) ∙ e) refl
less_step x y v r s t Less Greater e f a b h = cc
less_step x y v r s t Equal Less e f a b h = rw (data_order-total.congr x y v e ∙ f) refl
less_step x y v r s t Equal Equal e f a b h = rw (data_order-total.congr x y v e ∙ f) (h a b)
less_step x y v r s t Equal Greater e f a b h = cc
less_step x y v r s t Greater p e f a b h = cc

-- a beginning is less where that of a greater key is
pub prefix-less : (k a b : List Datum) → key_order a b ≡ Less → prefix_order k b ≡ Less → prefix_order k a ≡ Less
prefix-less [] a b l e = cc
prefix-less (v ∷ k) [] b l e = refl
prefix-less (v ∷ k) (x ∷ a) [] l e = cc
prefix-less (v ∷ k) (x ∷ a) (y ∷ b) l e =
    less_step x y v (key_order a b) (prefix_order k b) (prefix_order k a) (data_order x y) (data_order y v) refl refl l e (prefix-less k a b)

more_step : (x y v : Datum) (r s t : Ordering) (o p : Ordering) → data_order x y ≡ o → data_order x v ≡ p
    → ordering_then o r ≡ Less → ordering_then p s ≡ Greater → (r ≡ Less → s ≡ Greater → t ≡ Greater) → ordering_then (data_order y v) t ≡ Greater
more_step x y v r s t Less Greater e f a b h =
    let turned : data_order v x ≡ Less = data_order-total.antisymm v x ∙ ap ordering_reverse f in
    rw (data_order-total.antisymm y v ∙ ap ordering_reverse (data_order-total.trans v x y turned e)) refl
more_step x y v r s t Less Equal e f a b h =
    let turned : data_order v y ≡ Less = sym (data_order-total.congr x v y f) ∙ e in
    rw (data_order-total.antisymm y v ∙ ap ordering_reverse turned) refl
more_step x y v r s t Less Less e f a b h = cc
more_step x y v r s t Equal Greater e f a b h = rw (sym (data_order-total.congr x y v e) ∙ f) refl
more_step x y v r s t Equal Equal e f a b h = rw (sym (data_order-total.congr x y v e) ∙ f) (h a b)
more_step x y v r s t Equal Less e f a b h = cc
more_step x y v r s t Greater p e f a b h = cc

-- a beginning is greater where that of a smaller key is
pub prefix-greater : (k a b : List Datum) → key_order a b ≡ Less → prefix_order k a ≡ Greater → prefix_order k b ≡ Greater
prefix-greater [] a b l e = cc
prefix-greater (v ∷ k) [] b l e = cc
prefix-greater (v ∷ k) (x ∷ a) [] l e = cc
prefix-greater (v ∷ k) (x ∷ a) (y ∷ b) l e =
    more_step x y v (key_order a b) (prefix_order k a) (prefix_order k b) (data_order x y) (data_order x v) refl refl l e (prefix-greater k a b)

equal_step : (x y v : Datum) (r s t : Ordering) (o : Ordering) → data_order x y ≡ o → ordering_then o r ≡ Equal → (r ≡ Equal → s ≡ t)
    → ordering_then (data_order x v) s ≡ ordering_then (data_order y v) t
equal_step x y v r s t Less e a h = cc
equal_step x y v r s t Equal e a h = ap (λ o. ordering_then o s) (data_order-total.congr x y v e) ∙ ap (ordering_then (data_order y v)) (h a)
equal_step x y v r s t Greater e a h = cc

-- equal keys begin alike
pub prefix-equal : (k a b : List Datum) → key_order a b ≡ Equal → prefix_order k a ≡ prefix_order k b
prefix-equal [] a b e = refl
prefix-equal (v ∷ k) [] [] e = refl
prefix-equal (v ∷ k) [] (y ∷ b) e = cc
prefix-equal (v ∷ k) (x ∷ a) [] e = cc
prefix-equal (v ∷ k) (x ∷ a) (y ∷ b) e =
    equal_step x y v (key_order a b) (prefix_order k a) (prefix_order k b) (data_order x y) refl e (prefix-equal k a b)
