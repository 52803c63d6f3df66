-- A run that is over stays as it is, so it has one end.
use Rattle.std.proofs.Common.{◌≡◌, ℕ, zero, suc, ◌+◌, List, refl, ap, sym, ◌∙◌, arith}
use Rattle.psm_value.specs.declared.datum.Datum.{Datum}
use Rattle.psm_table.specs.Table.{Contents}
use Rattle.psm_code.specs.declared.code.RawCode.{RawCode}
use Rattle.psm_code.specs.Run.{Ran, steps, step_on}
use Rattle.psm_code.specs.State.{End, Machine, Stepped, More, Over}
use Rattle.psm_code.specs.Calling.{started}

pub over_stays : (code : RawCode) (n : ℕ) (e : End) (m : Machine) → steps code n (Over e m) ≡ Over e m
over_stays code zero e m = refl
over_stays code (suc n) e m = over_stays code n e m

-- first n rows, and then others
pub rows-more : (code : RawCode) (n k : ℕ) (t : Stepped) → steps code (n + k) t ≡ steps code k (steps code n t)
rows-more code zero k t = let none : 0 + k ≡ k = omega arith in ap (λ j. steps code j t) none
rows-more code (suc n) k t = let one : suc n + k ≡ suc (n + k) = omega arith in ap (λ j. steps code j t) one ∙ rows-more code n k (step_on code t)

-- a run that is over after n rows is over after more
pub over_later : (code : RawCode) (n k : ℕ) (t : Stepped) (e : End) (m : Machine) → steps code n t ≡ Over e m → steps code (n + k) t ≡ Over e m
over_later code n k t e m h = rows-more code n k t ∙ ap (steps code k) h ∙ over_stays code k e m

abbrev end_of : Stepped → End → End
end_of (More m) e = e
end_of (Over f m) e = f

abbrev machine_of : Stepped → Machine
machine_of (More m) = m
machine_of (Over e m) = m

pub one_end : (code : RawCode) (routine : ℕ) (args : List Datum) (tables : List Contents) (turns : ℕ) (e f : End) (m n : Machine) → Ran code routine args tables turns e m → Ran code routine args tables turns f n → (e ≡ f) × (m ≡ n)
one_end code routine args tables turns e f m n r s =
    let t = started code routine args tables turns in
    let sum : r.count + s.count ≡ s.count + r.count = omega arith in
    let same : Over e m ≡ Over f n = sym (over_later code r.count s.count t e m r.leads) ∙ ap (λ k. steps code k t) sum ∙ over_later code s.count r.count t f n s.leads in
    (ap (λ t. end_of t e) same, ap machine_of same)
