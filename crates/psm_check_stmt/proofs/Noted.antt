-- The characteristics so far, by their numbers.
use Rattle.std.proofs.Common.{◌≡◌, ◌<◌, ◌≢◌, ℕ, Bool, true, false, ◌||◌, nat_eq, length, List, [], ◌∷◌, get_or, set, refl, sym, ap, ◌∙◌, arith, get_or-set_other, get_or-set_same, length-set}
use Rattle.std.specs.Prelude.{Option}
use Rattle.std.specs.List.{list_any}
use Rattle.std.proofs.lemmas.Bool.Decides.{nat_tests}
use Rattle.psm_tree.specs.declared.file.Characteristic.{Characteristic}
use Rattle.psm_rules.specs.declared.fault.Fault.{Fault}
use Rattle.psm_rules.specs.declared.rule.Rule.TheVariants as rule
use Rattle.psm_rules.specs.Faults.{breaks_if, earlier, first_from, first_of}
use Rattle.psm_rules.specs.FileFaults.{characteristic_number, characteristics_fault}

-- the numbers that are seen are those so far, and the first fault so far with those of the rest is the first of all
pub record Noted (seen : List Bool) (fault : Option Fault) (rest characteristics : List Characteristic) : Type 0 where
  pub before : List ℕ
  pub wide : length seen ≡ 5
  pub marked : (k : ℕ) → k < 5 → get_or seen k false ≡ list_any (nat_eq k) before
  pub checked : first_from fault (characteristics_fault before rest) ≡ first_of (characteristics_fault [] characteristics)

marked_more : (seen : List Bool) (before : List ℕ) (n : ℕ) → length seen ≡ 5 → ((k : ℕ) → k < 5 → get_or seen k false ≡ list_any (nat_eq k) before) → (k : ℕ) → k < 5
    → get_or (set seen n true) k false ≡ (nat_eq k n || list_any (nat_eq k) before)
marked_more seen before n wide marked k lt = by (nat_eq k n) refl
  where
    by : (b : Bool) → nat_eq k n ≡ b → get_or (set seen n true) k false ≡ (b || list_any (nat_eq k) before)
    by true e =
        let s : k ≡ n = grind (arith, nat_tests, e) in
        let within : k < length seen = omega (arith, wide, lt) in
        ap (λ i. get_or (set seen i true) k false) (sym s) ∙ get_or-set_same seen k true false within
    by false e =
        let ne : k ≢ n = grind (arith, nat_tests, e) in
        rw get_or-set_other (marked k lt)

pub noted_next : (seen : List Bool) (fault next : Option Fault) (n : Characteristic) (rest characteristics : List Characteristic) (number : ℕ) (repeated : Bool)
    → number ≡ characteristic_number n.form → number < 5 → repeated ≡ get_or seen number false → next ≡ earlier fault (breaks_if repeated rule.CharacteristicRepeated n.place)
    → Noted seen fault (n ∷ rest) characteristics → Noted (set seen number true) next rest characteristics
noted_next seen fault next n rest characteristics number repeated e lt r f h = record {
  before = characteristic_number n.form ∷ h.before;
  wide = length-set seen number true ∙ h.wide;
  marked = λ k within. marked_more seen h.before number h.wide h.marked k within ∙ ap (λ m. nat_eq k m || list_any (nat_eq k) h.before) e;
  checked =
      ap (λ g. first_from g (characteristics_fault (characteristic_number n.form ∷ h.before) rest))
      (f ∙ ap (λ b. earlier fault (breaks_if b rule.CharacteristicRepeated n.place)) (r ∙ h.marked number lt ∙ ap (λ m. list_any (nat_eq m) h.before) e))
      ∙ h.checked;
}
