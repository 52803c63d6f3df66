-- Steps of a walk along a list.
use Rattle.std.proofs.Common.{◌≡◌, ◌<◌, ◌+◌, ℕ, suc, length, drop, get_or, List, ◌∷◌, map, sym, ap, ◌∙◌, arith}
use Rattle.std.specs.Prelude.{Option}
use Rattle.std.proofs.Math.Seq.{drop-cons}
use Rattle.psm_rules.specs.declared.fault.Fault.{Fault}
use Rattle.psm_rules.specs.Faults.{earlier, first_from}

pub drop_next : {A : Type 0} (xs : List A) (i : ℕ) (x : A) → i < length xs → x ≡ get_or xs i x → drop i xs ≡ x ∷ drop (i + 1) xs
drop_next xs i x lt e =
    let n : suc i ≡ i + 1 = omega arith in
    drop-cons xs i x lt ∙ ap (λ y. y ∷ drop (suc i) xs) (sym e) ∙ ap (λ j. x ∷ drop j xs) n

-- the first fault so far with that of one more
pub first_next : {A : Type 0} (g : A → Option Fault) (xs : List A) (i : ℕ) (x : A) (fault own next all : Option Fault) → i < length xs → x ≡ get_or xs i x → own ≡ g x
    → next ≡ earlier fault own → first_from fault (map g (drop i xs)) ≡ all → first_from next (map g (drop (i + 1) xs)) ≡ all
first_next g xs i x fault own next all lt is o n h =
    ap (λ f. first_from f (map g (drop (i + 1) xs))) (n ∙ ap (earlier fault) o)
    ∙ ap (λ ys. first_from fault (map g ys)) (sym (drop_next xs i x lt is))
    ∙ h
