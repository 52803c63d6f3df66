-- A text is the listing of one well-formed code, or has one first line with one fault.
use Rattle.std.proofs.Common.{◌≡◌, ◌⊎◌, inl, inr, ℕ, List, Option, Some, None, Result, Ok, Err, refl, sym, ap, ◌∙◌}
use Rattle.psm_code.specs.declared.code.RawCode.{RawCode}
use Rattle.psm_code.specs.declared.rule.CodeRule.{CodeRule}
use Rattle.psm_code.specs.RoutineRules.{first_fault}
use Rattle.psm_load.specs.declared.fault.ObjectFault.{ObjectFault}
use Rattle.psm_load.specs.declared.fault.ObjectFault.TheVariants.{NotObject, IllFormed}
use Rattle.psm_load.specs.Due.{first_misfit}
use Rattle.psm_load.specs.Loading.{IsObject, IsObjectFault, fault_of, fault_with}
use Rattle.psm_load.specs.Stated.{Stated, stated}
use Rattle.psm_load.proofs.Misfits.{first_misfit_is, misfit_of}
use Rattle.psm_load.proofs.Objects.{answered, same_stated, stated_again, stated_takes}

abbrev plain : RawCode → Stated
plain c = record { code = c; odd = None }

object_stated : (text : List ℕ) (c : RawCode) → IsObject text c → stated text ≡ answered (plain c)
object_stated text c o = ap stated o.text_is ∙ stated_again c o.listed

pub one_code : (text : List ℕ) (c d : RawCode) → IsObject text c → IsObject text d → c ≡ d
one_code text c d o p = ap (λ (s : Stated). s.code) (same_stated (plain c) (plain d) (sym (object_stated text c o) ∙ object_stated text d p))

-- what stands for something has no line that doesn't fit
fits_all : (text : List ℕ) (s : Stated) (n : ℕ) → stated text ≡ answered s → first_misfit text ≡ Some n → ⊥
fits_all text s n e f = let none : first_misfit text ≡ None = first_misfit_is text ∙ ap misfit_of e in absurd (cc)

pub no_fault : (text : List ℕ) (c : RawCode) → IsObject text c → (line : ℕ) (fault : ObjectFault) → IsObjectFault text line fault → ⊥
no_fault text c o line NotObject e = fits_all text (plain c) line (object_stated text c o) e
no_fault text c o line (IllFormed rule) b =
    let same : b.stands_for ≡ plain c = same_stated b.stands_for (plain c) (sym b.stated_is ∙ object_stated text c o) in
    let none : first_fault c ≡ Some (line, rule) = sym (ap fault_of same) ∙ b.fault_is in
    let sound : first_fault c ≡ None = o.well_formed in
    absurd (cc)

abbrev found : ℕ × CodeRule → Option (ℕ × CodeRule)
found x = Some x

found_is : (x y : ℕ × CodeRule) → found x ≡ found y → x ≡ y
found_is x y e = cc

number_is : (k l : ℕ) → ◌≡◌ {A = Option ℕ} (Some k) (Some l) → k ≡ l
number_is k l e = cc

pub one_fault : (text : List ℕ) (k l : ℕ) (e f : ObjectFault) → IsObjectFault text k e → IsObjectFault text l f → (k ≡ l) × (e ≡ f)
one_fault text k l NotObject NotObject a b = (number_is k l (sym a ∙ b), refl)
one_fault text k l NotObject (IllFormed q) a b = absurd (fits_all text b.stands_for k b.stated_is a)
one_fault text k l (IllFormed p) NotObject a b = absurd (fits_all text a.stands_for l a.stated_is b)
one_fault text k l (IllFormed p) (IllFormed q) a b =
    let same : a.stands_for ≡ b.stands_for = same_stated a.stands_for b.stands_for (sym a.stated_is ∙ b.stated_is) in
    let one = found_is (k, p) (l, q) (sym a.fault_is ∙ ap fault_of same ∙ b.fault_is) in
    (ap (λ (x : ℕ × CodeRule). x.0) one, ap (λ (x : ℕ × CodeRule). IllFormed x.1) one)

no_faults : (odd fault : Option (ℕ × CodeRule)) → fault_with odd fault ≡ None → (odd ≡ None) × (fault ≡ None)
no_faults None fault e = (refl, e)
no_faults (Some o) fault e = absurd (cc)

abbrev OneThing : List ℕ → Type 0
OneThing text = ((c : RawCode) × IsObject text c) ⊎ ((line : ℕ) × (fault : ObjectFault) × IsObjectFault text line fault)

pub one_thing : (text : List ℕ) → OneThing text
one_thing text = by (stated text) refl where
  judged : (s : Stated) (o : Option (ℕ × CodeRule)) → stated text ≡ Ok s → fault_of s ≡ o → OneThing text
  judged s None e f = let k = no_faults s.odd (first_fault s.code) f in inl (s.code, stated_takes text s e k.0 k.1)
  judged s (Some x) e f = inr (x.0, IllFormed x.1, record { stands_for = s; stated_is = e; fault_is = f })

  by : (r : Result Stated ℕ) → stated text ≡ r → OneThing text
  by (Err n) e = inr (n, NotObject, first_misfit_is text ∙ ap misfit_of e)
  by (Ok s) e = judged s (fault_of s) e refl
