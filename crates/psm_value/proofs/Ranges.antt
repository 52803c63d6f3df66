-- What a type of numbers holds has at most 18 digits.
use Rattle.std.proofs.Common.{◌≡◌, ℕ, ℤ, suc, pos, negsuc, ◌^◌, ◌<◌, ◌≤◌, Bool, true, false, ◌&&◌, nat_le, nat_lt, int_le, unsigned_abs, Ok, Err, arith, lt-ltb, le-leb, ltb-true, leb-true, ap, sym, ◌∙◌, refl}
use Rattle.std.specs.Prelude.{codes, if◌then◌else◌}
use Rattle.std.proofs.Math.Nat.{pow-le-pow_right}
use Rattle.psm_num.specs.declared.fault.NumFault.{NumFault}
use Rattle.psm_num.specs.Num as num
use Rattle.psm_num.specs.Num.{is_within, checked}
use Rattle.psm_num.specs.Arithmetic.{at_scale}
use Rattle.psm_num.proofs.Literals.{and_first, and_second}
use Rattle.psm_value.specs.declared.datum.Datum.TheVariants.{Num}
use Rattle.psm_value.specs.declared.sqltype.SqlType.{SqlType}
use Rattle.psm_value.specs.declared.sqltype.SqlType.TheVariants.{SmallInt, Integer, Numeric, Char, VarChar}
use Rattle.psm_value.specs.SqlType.{IsType}
use Rattle.psm_value.specs.Stored.{is_in_range, scale_of, stored_number}

pub power_bound : (p : ℕ) → p ≤ 18 → 10 ^ p ≤ 10 ^ 18
power_bound p h = let ten : 0 < 10 = omega arith in pow-le-pow_right ten h

between : (low high : ℕ) (c : ℤ) → suc low < 10 ^ 18 → high < 10 ^ 18 → (int_le (negsuc low) c && int_le c (pos high)) ≡ true → unsigned_abs c < 10 ^ 18
between low high (pos n) f g h = let e : n ≤ high = leb-true n high (and_second (int_le (negsuc low) (pos n)) (int_le (pos n) (pos high)) h) in omega (arith, e)
between low high (negsuc n) f g h = let e : n ≤ low = leb-true n low (and_first (int_le (negsuc low) (negsuc n)) (int_le (negsuc n) (pos high)) h) in omega (arith, e)

in_range-small : (to : SqlType) (c : ℤ) → IsType to → is_in_range to c ≡ true → unsigned_abs c < 10 ^ 18
in_range-small SmallInt c h e = between 32767 32767 c (omega arith) (omega arith) e
in_range-small Integer c h e = between 2147483647 2147483647 c (omega arith) (omega arith) e
in_range-small (Numeric p s) c h e =
    let b : unsigned_abs c < 10 ^ p = ltb-true (unsigned_abs c) (10 ^ p) e in
    omega (arith, power_bound p h.1)
in_range-small (Char n) c h e = cc
in_range-small (VarChar n) c h e = cc

scale-small : (to : SqlType) → IsType to → scale_of to ≤ 18
scale-small SmallInt h = omega arith
scale-small Integer h = omega arith
scale-small (Numeric p s) h = omega (arith, h.1, h.2)
scale-small (Char n) h = omega arith
scale-small (VarChar n) h = omega arith

in_range-within : (to : SqlType) (c : ℤ) → IsType to → is_in_range to c ≡ true → is_within (record { coef = c; scale = scale_of to }) ≡ true
in_range-within to c h e =
    let s : nat_le (scale_of to) 18 ≡ true = le-leb (scale_of to) 18 (scale-small to h) in
    let d : nat_lt (unsigned_abs c) 1000000000000000000 ≡ true = lt-ltb (unsigned_abs c) 1000000000000000000 (omega (arith, in_range-small to c h e)) in
    rw (s, d)

out_by : (to : SqlType) (n : num.Num) (fault : NumFault) (b : Bool) → IsType to → is_in_range to (at_scale n (scale_of to)).coef ≡ b → checked (at_scale n (scale_of to)) ≡ Err fault
    → b ≡ false
out_by to n fault true h e f =
    let w : is_within (at_scale n (scale_of to)) ≡ true = in_range-within to (at_scale n (scale_of to)).coef h e in
    let k = rw w at f in
    absurd (cc)
out_by to n fault false h e f = refl

-- a number of more than 18 digits at the type's scale is in no type's range
pub out_of_range : (to : SqlType) (n : num.Num) (s : ℕ) (fault : NumFault) → IsType to → s ≡ scale_of to → Err fault ≡ checked (at_scale n s)
    → Err (codes "22003") ≡ stored_number to n
out_of_range to n s fault h e f =
    let expected : checked (at_scale n (scale_of to)) ≡ Err fault = sym (f ∙ ap (λ s. checked (at_scale n s)) e) in
    let out : is_in_range to (at_scale n (scale_of to)).coef ≡ false = out_by to n fault (is_in_range to (at_scale n (scale_of to)).coef) h refl expected in
    sym (ap (λ b. if b then Ok (Num (at_scale n (scale_of to))) else Err (codes "22003")) out)
