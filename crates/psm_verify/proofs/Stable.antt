-- Values that a type takes as they are.
use Rattle.std.proofs.Common.{◌≡◌, ℕ, Bool, true, false, List, refl, ap, sym, ◌∙◌, arith, Result, Ok, Err}
use Rattle.std.specs.Prelude.{◌↔◌, IsTrue, nat_eq}
use Rattle.std.specs.Ordering.{int_eq}
use Rattle.std.specs.Cmp.Lexicographic.{same_text, other_text}
use Rattle.psm_num.proofs.Literals.{and_first, and_second}
use Rattle.psm_num.specs.Num.{Num}
use Rattle.psm_sqlstate.specs.declared.state.SqlState.{SqlState}
use Rattle.psm_value.specs.declared.datum.Datum.{Datum}
use Rattle.psm_value.specs.declared.datum.Datum.TheVariants as data_of
use Rattle.psm_value.specs.declared.sqltype.SqlType.{SqlType}
use Rattle.psm_value.specs.Stored.{is_stored, stored}
use Rattle.psm_code.specs.Rules.{is_same}
use Rattle.psm_code.specs.TableRules.{is_as_stored, same_datum, same_number}

same_text_self : (t : List ℕ) → is_same t t ≡ true
same_text_self t = by (is_same t t) refl where
  by : (b : Bool) → is_same t t ≡ b → b ≡ true
  by true e = refl
  by false e = absurd (other_text t t (sym e) refl)

same_number_self : (n : Num) → same_number n n ≡ true
same_number_self n = grind arith

same_number_is : (a b : Num) → same_number a b ≡ true → a ≡ b
same_number_is a b h =
    let c : int_eq a.coef b.coef ≡ true = and_first (int_eq a.coef b.coef) (nat_eq a.scale b.scale) h in
    let s : nat_eq a.scale b.scale ≡ true = and_second (int_eq a.coef b.coef) (nat_eq a.scale b.scale) h in
    grind (arith, c, s)

same_self : (d : Datum) → same_datum d d ≡ true
same_self data_of.Null = refl
same_self (data_of.Num n) = same_number_self n
same_self (data_of.Text t) = same_text_self t

same_is : (d e : Datum) → same_datum d e ≡ true → d ≡ e
same_is data_of.Null data_of.Null h = refl
same_is data_of.Null (data_of.Num n) h = absurd (cc)
same_is data_of.Null (data_of.Text t) h = absurd (cc)
same_is (data_of.Num n) data_of.Null h = absurd (cc)
same_is (data_of.Num n) (data_of.Num k) h = ap data_of.Num (same_number_is n k h)
same_is (data_of.Num n) (data_of.Text t) h = absurd (cc)
same_is (data_of.Text t) data_of.Null h = absurd (cc)
same_is (data_of.Text t) (data_of.Num n) h = absurd (cc)
same_is (data_of.Text t) (data_of.Text u) h = ap data_of.Text (same_text t u (sym h))

by_result : (r : Result Datum SqlState) (d : Datum) (b : Bool) → IsTrue b ↔ (r ≡ Ok d) → b ≡ is_as_stored r d
by_result (Err s) d true h = let f : Err s ≡ Ok d = h.0 refl in absurd (cc)
by_result (Err s) d false h = refl
by_result (Ok e) d true h = let f : Ok e ≡ Ok d = h.0 refl in let g : e ≡ d = cc in sym (ap (λ x. same_datum x d) g ∙ same_self d)
by_result (Ok e) d false h = by (same_datum e d) refl where
  by : (t : Bool) → same_datum e d ≡ t → false ≡ t
  by true p = let f : false ≡ true = h.1 (ap Ok (same_is e d p)) in absurd (cc)
  by false p = refl

pub stored_is : (to : SqlType) (d : Datum) → IsTrue (is_stored to d) ↔ (stored to d ≡ Ok d) → is_stored to d ≡ is_as_stored (stored to d) d
stored_is to d h = by_result (stored to d) d (is_stored to d) h
