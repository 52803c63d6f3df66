-- What is stored is as its type stores it, and is stored there again unchanged.
use Rattle.std.proofs.Common.{◌≡◌, ℕ, ℤ, suc, pos, negsuc, neg_ℤ, ◌+◌, ◌-◌, ◌*ℤ◌, ◌^◌, ◌≤◌, Bool, true, false, ◌&&◌, nat_eq, nat_le, nat_lt, List, ◌++◌, length, take, drop, Result, Ok, Err, refl, ap, sym, ◌∙◌, arith, eq-eqb, eqb-true, le-leb, leb-true, length-append}
use Rattle.std.specs.Prelude.{◌↔◌, IsTrue, codes, replicate, int_div, if◌then◌else◌}
use Rattle.std.proofs.Math.Nat.{mul-one}
use Rattle.std.proofs.Math.IntN.{pos-*ℤ-pos, negsuc-*ℤ-pos}
use Rattle.std.proofs.Math.ListN.{drop_of_length-le}
use Rattle.std.proofs.lemmas.List.{append-nil, length-take, length-replicate, take_all}
use Rattle.psm_num.specs.Num as num
use Rattle.psm_num.specs.Arithmetic.{at_scale}
use Rattle.psm_num.specs.Printed.{printed}
use Rattle.psm_num.specs.Split.{number_of}
use Rattle.psm_num.proofs.Literals.{and_first, and_second}
use Rattle.psm_text.specs.declared.fault.TextFault.TheVariants.{Lost}
use Rattle.psm_text.specs.Order.{blank, padded}
use Rattle.psm_text.specs.Storing.{is_blank, filled}
use Rattle.psm_value.specs.declared.datum.Datum.{Datum}
use Rattle.psm_value.specs.declared.datum.Datum.TheVariants.{Null, Num, Text}
use Rattle.psm_value.specs.declared.sqltype.SqlType.{SqlType}
use Rattle.psm_value.specs.declared.sqltype.SqlType.TheVariants.{SmallInt, Integer, Numeric, Char, VarChar}
use Rattle.psm_value.specs.Arithmetic.{as_datum}
use Rattle.psm_value.specs.Cast.{cast_of, then_stored, trimmed}
use Rattle.psm_value.specs.Fetched.{fetched, unlost}
use Rattle.psm_value.specs.SqlType.{IsOfFamily}
use Rattle.psm_value.specs.TextFaults.{as_text}
use Rattle.psm_value.specs.Stored.{scale_of, is_in_range, stored_number, stored_text, stored, is_stored}

-- ---- numbers

times_one : (z : ℤ) → z *ℤ pos 1 ≡ z
times_one (pos m) = pos-*ℤ-pos m 1 ∙ ap pos (mul-one m)
times_one (negsuc m) = negsuc-*ℤ-pos m 1 ∙ ap (λ k. neg_ℤ (pos k)) (mul-one (suc m))

-- a number at its own scale is the number
at_own_scale : (n : num.Num) (s : ℕ) → n.scale ≡ s → at_scale n s ≡ n
at_own_scale n s e =
    let below : nat_le n.scale s ≡ true = le-leb n.scale s (omega (arith, e)) in
    let gap : s - n.scale ≡ 0 = omega (arith, e) in
    let chosen : Bool → num.Num = λ b. record { coef = if b then n.coef *ℤ pos (10 ^ (s - n.scale)) else int_div n.coef (pos (10 ^ (n.scale - s))); scale = s } in
    let shifted : ℕ → num.Num = λ k. record { coef = n.coef *ℤ pos (10 ^ k); scale = s } in
    let whole : ℤ → num.Num = λ z. record { coef = z; scale = s } in
    let scaled : ℕ → num.Num = λ k. record { coef = n.coef; scale = k } in
    ap chosen below ∙ ap shifted gap ∙ ap whole (times_one n.coef) ∙ ap scaled (sym e)

number_by : (to : SqlType) (cut : num.Num) (e : Datum) (b : Bool) → cut.scale ≡ scale_of to → is_in_range to cut.coef ≡ b
    → (if b then Ok (Num cut) else Err (codes "22003")) ≡ Ok e → is_stored to e ≡ true
number_by to cut e true s r h =
    let same : Num cut ≡ e = cc in
    ap (is_stored to) (sym same) ∙ ap (λ b. b && is_in_range to cut.coef) (eq-eqb cut.scale (scale_of to) s) ∙ r
number_by to cut e false s r h = absurd (cc)

number-as_stored : (to : SqlType) (n : num.Num) (e : Datum) → stored_number to n ≡ Ok e → is_stored to e ≡ true
number-as_stored to n e h = number_by to (at_scale n (scale_of to)) e (is_in_range to (at_scale n (scale_of to)).coef) refl refl h

number-again : (to : SqlType) (n : num.Num) → is_stored to (Num n) ≡ true → stored_number to n ≡ Ok (Num n)
number-again to n h =
    let scale : n.scale ≡ scale_of to = eqb-true n.scale (scale_of to) (and_first (nat_eq n.scale (scale_of to)) (is_in_range to n.coef) h) in
    let range : is_in_range to n.coef ≡ true = and_second (nat_eq n.scale (scale_of to)) (is_in_range to n.coef) h in
    ap (λ (cut : num.Num). if is_in_range to cut.coef then Ok (Num cut) else Err (codes "22003")) (at_own_scale n (scale_of to) scale)
    ∙ ap (λ b. if b then Ok (Num n) else Err (codes "22003")) range

-- ---- texts

length-padded : (n : ℕ) (u : List ℕ) → length u ≤ n → length (padded n u) ≡ n
length-padded n u h =
    let both : length (u ++ replicate (n - length u) blank) ≡ length u + length (replicate (n - length u) blank) = length-append u (replicate (n - length u) blank) in
    let blanks : length (replicate (n - length u) blank) ≡ n - length u = length-replicate {A = ℕ} (n - length u) blank in
    omega (arith, both, blanks)

length-cut : (n : ℕ) (t : List ℕ) → length (take n t) ≤ n
length-cut n t = omega (arith, length-take n t)

char-length : (n : ℕ) (t : List ℕ) → nat_eq (length (padded n (take n t))) n ≡ true
char-length n t = eq-eqb (length (padded n (take n t))) n (length-padded n (take n t) (length-cut n t))

varchar-length : (n : ℕ) (t : List ℕ) → nat_le (length (take n t)) n ≡ true
varchar-length n t = le-leb (length (take n t)) n (length-cut n t)

text_by : (to : SqlType) (u : List ℕ) (e : Datum) (b : Bool) → is_stored to (Text u) ≡ true → as_text (if b then Ok u else Err Lost) ≡ Ok e → is_stored to e ≡ true
text_by to u e true s h = let same : Text u ≡ e = cc in ap (is_stored to) (sym same) ∙ s
text_by to u e false s h = absurd (cc)

text-as_stored : (to : SqlType) (t : List ℕ) (e : Datum) → stored_text to t ≡ Ok e → is_stored to e ≡ true
text-as_stored (Char n) t e h = text_by (Char n) (padded n (take n t)) e (is_blank (drop n t)) (char-length n t) h
text-as_stored (VarChar n) t e h = text_by (VarChar n) (take n t) e (is_blank (drop n t)) (varchar-length n t) h
text-as_stored SmallInt t e h = absurd (cc)
text-as_stored Integer t e h = absurd (cc)
text-as_stored (Numeric p s) t e h = absurd (cc)

none_lost : (n : ℕ) (pad : Bool) (t : List ℕ) → length t ≤ n → as_text (if is_blank (drop n t) then Ok (filled n pad (take n t)) else Err Lost) ≡ Ok (Text (filled n pad t))
none_lost n pad t h =
    ap (λ u. as_text (if is_blank u then Ok (filled n pad (take n t)) else Err Lost)) (drop_of_length-le t h)
    ∙ ap (λ u. Ok (Text (filled n pad u))) (take_all n t h)

padded-full : (n : ℕ) (t : List ℕ) → length t ≡ n → padded n t ≡ t
padded-full n t e =
    let none : n - length t ≡ 0 = omega (arith, e) in
    ap (λ k. t ++ replicate k blank) none ∙ append-nil t

text-again : (to : SqlType) (t : List ℕ) → is_stored to (Text t) ≡ true → stored_text to t ≡ Ok (Text t)
text-again (Char n) t h =
    let full : length t ≡ n = eqb-true (length t) n h in
    none_lost n true t (omega (arith, full)) ∙ ap (λ u. Ok (Text u)) (padded-full n t full)
text-again (VarChar n) t h = none_lost n false t (leb-true (length t) n h)
text-again SmallInt t h = absurd (cc)
text-again Integer t h = absurd (cc)
text-again (Numeric p s) t h = absurd (cc)

-- ---- values

pub stored-as_stored : (to : SqlType) (d e : Datum) → stored to d ≡ Ok e → is_stored to e ≡ true
stored-as_stored to Null e h = let same : Null ≡ e = cc in ap (is_stored to) (sym same)
stored-as_stored to (Num n) e h = number-as_stored to n e h
stored-as_stored to (Text t) e h = text-as_stored to t e h

pub stored-unchanged : (to : SqlType) (d : Datum) → is_stored to d ≡ true → stored to d ≡ Ok d
stored-unchanged to Null h = refl
stored-unchanged to (Num n) h = number-again to n h
stored-unchanged to (Text t) h = text-again to t h

pub stored-again : (to : SqlType) (d e : Datum) → stored to d ≡ Ok e → stored to e ≡ Ok e
stored-again to d e h = stored-unchanged to e (stored-as_stored to d e h)

pub stored-exactly : (to : SqlType) (d : Datum) → IsTrue (is_stored to d) ↔ (stored to d ≡ Ok d)
stored-exactly to d = (stored-unchanged to d, stored-as_stored to d d)

of_family : (to : SqlType) (e : Datum) → is_stored to e ≡ true → IsOfFamily to e
of_family to Null h = tt
of_family SmallInt (Num n) h = refl
of_family Integer (Num n) h = refl
of_family (Numeric p s) (Num n) h = refl
of_family (Char m) (Num n) h = let no : false ≡ true = and_second (nat_eq n.scale 0) false h in absurd (cc)
of_family (VarChar m) (Num n) h = let no : false ≡ true = and_second (nat_eq n.scale 0) false h in absurd (cc)
of_family SmallInt (Text t) h = absurd (cc)
of_family Integer (Text t) h = absurd (cc)
of_family (Numeric p s) (Text t) h = absurd (cc)
of_family (Char m) (Text t) h = refl
of_family (VarChar m) (Text t) h = refl

pub stored-of_family : (to : SqlType) (d e : Datum) → stored to d ≡ Ok e → IsOfFamily to e
stored-of_family to d e h = of_family to e (stored-as_stored to d e h)

-- ---- what is fetched or cast

value_in : Result (Datum × Bool) (List ℕ) → Datum
value_in (Ok r) = r.0
value_in (Err state) = Null

cut_by : (to : SqlType) (r s : Datum × Bool) → is_stored to r.0 ≡ true → (let expected : Result (Datum × Bool) (List ℕ) = Ok r in expected ≡ Ok s) → is_stored to s.0 ≡ true
cut_by to r s k h = let same : r.0 ≡ s.0 = unfold value_in in ap value_in h in ap (is_stored to) (sym same) ∙ k

fetched_by : (to : SqlType) (n : num.Num) (e : Datum) (lost : Bool) (r : Result Datum (List ℕ)) → stored_number to n ≡ r → unlost r ≡ Ok (e, lost) → is_stored to e ≡ true
fetched_by to n e lost (Ok d) q h =
    let same : d ≡ e = unfold value_in in ap value_in h in
    number-as_stored to n e (q ∙ ap (λ x. Ok x) same)
fetched_by to n e lost (Err state) q h = absurd (cc)

pub fetched-as_stored : (to : SqlType) (d e : Datum) (lost : Bool) → fetched to d ≡ Ok (e, lost) → is_stored to e ≡ true
fetched-as_stored to Null e lost h = let same : Null ≡ e = unfold value_in in ap value_in h in ap (is_stored to) (sym same)
fetched-as_stored to (Num n) e lost h = fetched_by to n e lost (stored_number to n) refl h
fetched-as_stored (Char n) (Text t) e lost h = let cut : Datum × Bool = (Text (padded n (take n t)), nat_lt n (length t)) in let expected : Datum × Bool = (e, lost) in cut_by (Char n) cut expected (char-length n t) h
fetched-as_stored (VarChar n) (Text t) e lost h = let cut : Datum × Bool = (Text (take n t), nat_lt n (length t)) in let expected : Datum × Bool = (e, lost) in cut_by (VarChar n) cut expected (varchar-length n t) h
fetched-as_stored SmallInt (Text t) e lost h = absurd (cc)
fetched-as_stored Integer (Text t) e lost h = absurd (cc)
fetched-as_stored (Numeric p s) (Text t) e lost h = absurd (cc)

then_by : (to : SqlType) (e : Datum) (r : Result Datum (List ℕ)) → then_stored to r ≡ Ok e → is_stored to e ≡ true
then_by to e (Ok d) h = stored-as_stored to d e h
then_by to e (Err state) h = absurd (cc)

pub cast-as_stored : (to : SqlType) (d e : Datum) → cast_of to d ≡ Ok e → is_stored to e ≡ true
cast-as_stored to Null e h = let same : Null ≡ e = cc in ap (is_stored to) (sym same)
cast-as_stored SmallInt (Num n) e h = number-as_stored SmallInt n e h
cast-as_stored Integer (Num n) e h = number-as_stored Integer n e h
cast-as_stored (Numeric p s) (Num n) e h = number-as_stored (Numeric p s) n e h
cast-as_stored (Char n) (Num m) e h = text-as_stored (Char n) (printed m) e h
cast-as_stored (VarChar n) (Num m) e h = text-as_stored (VarChar n) (printed m) e h
cast-as_stored SmallInt (Text t) e h = then_by SmallInt e (as_datum (number_of (trimmed t))) h
cast-as_stored Integer (Text t) e h = then_by Integer e (as_datum (number_of (trimmed t))) h
cast-as_stored (Numeric p s) (Text t) e h = then_by (Numeric p s) e (as_datum (number_of (trimmed t))) h
cast-as_stored (Char n) (Text t) e h = text-as_stored (Char n) t e h
cast-as_stored (VarChar n) (Text t) e h = text-as_stored (VarChar n) t e h
