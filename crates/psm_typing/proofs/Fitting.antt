-- What keeps a state fitting: values that are stored, cursors that move, and rows of tables.
use Rattle.std.proofs.Common.{◌≡◌, ℕ, zero, suc, Bool, true, false, List, [], ◌∷◌, length, replicate, Some, Result, Ok, Err, refl, ap, sym, subst, slice_get, slice_set, true≢false, if◌then◌else◌}
use Rattle.std.specs.Prelude.{codes}
use Rattle.psm_num.specs.Num as num
use Rattle.psm_num.specs.Arithmetic.{at_scale}
use Rattle.psm_num.proofs.Literals.{and_first, and_second}
use Rattle.psm_text.specs.declared.fault.TextFault.{TextFault}
use Rattle.psm_text.specs.Storing as text
use Rattle.psm_sqlstate.specs.declared.state.SqlState.{SqlState}
use Rattle.psm_value.specs.declared.datum.Datum.{Datum}
use Rattle.psm_value.specs.declared.datum.Datum.TheVariants.{Null, Num, Text}
use Rattle.psm_value.specs.declared.sqltype.SqlType.{SqlType}
use Rattle.psm_value.specs.declared.sqltype.SqlType.TheVariants.{SmallInt, Integer, Numeric, Char, VarChar}
use Rattle.psm_value.specs.Fetched.{fetched, unlost}
use Rattle.psm_value.specs.Stored.{is_in_range, stored, stored_number}
use Rattle.psm_value.specs.TextFaults.{as_text}
use Rattle.psm_exprcode.specs.declared.op.Letter.{Letter}
use Rattle.psm_exprcode.specs.declared.op.Letter.TheVariants.{N, T}
use Rattle.psm_exprcode.specs.Kinds.{are_of, has_letter, letter_of}
use Rattle.psm_exprcode.proofs.Results.{letter_of-value, null-letter}
use Rattle.psm_exprcode.proofs.Standing.{both_true}
use Rattle.psm_table.specs.Cursors.{Cursor, Closed}
use Rattle.psm_table.specs.Table.{Contents}
use Rattle.psm_resolved.specs.declared.file.ResolvedTable.{ResolvedTable}
use Rattle.psm_typing.specs.TypingContext.{Shape, IsThere, letters_of}
use Rattle.psm_typing.specs.States.{AreFilled, AreShaped, IsFilled, IsShaped}
use Rattle.psm_typing.proofs.Answers.{Right, Row}
use Rattle.psm_typing.proofs.Evaluating.{some_same}
use Rattle.psm_typing.proofs.Holding.{HasLetter}

-- ---- values that are stored and fetched

number-stored : (n : num.Num) (b : Bool) → Right (HasLetter N) (if b then Ok (Num n) else Err (codes "22003"))
number-stored n true = refl
number-stored n false = tt

text-stored : (r : Result (List ℕ) TextFault) → Right (HasLetter T) (as_text r)
text-stored (Ok t) = refl
text-stored (Err fault) = tt

pub stored-right : (t : SqlType) (d : Datum) → Right (HasLetter (letter_of t)) (stored t d)
stored-right t Null = null-letter (letter_of t) (letter_of-value t)
stored-right SmallInt (Num n) = number-stored (at_scale n 0) (is_in_range SmallInt (at_scale n 0).coef)
stored-right Integer (Num n) = number-stored (at_scale n 0) (is_in_range Integer (at_scale n 0).coef)
stored-right (Numeric p s) (Num n) = number-stored (at_scale n s) (is_in_range (Numeric p s) (at_scale n s).coef)
stored-right (Char m) (Num n) = tt
stored-right (VarChar m) (Num n) = tt
stored-right SmallInt (Text t) = tt
stored-right Integer (Text t) = tt
stored-right (Numeric p s) (Text t) = tt
stored-right (Char m) (Text t) = text-stored (text.stored m true t)
stored-right (VarChar m) (Text t) = text-stored (text.stored m false t)

unlost-right : (k : Letter) (r : Result Datum SqlState) → Right (HasLetter k) r → Right (λ v. HasLetter k v.0) (unlost r)
unlost-right k (Ok d) h = h
unlost-right k (Err s) h = tt

pub fetched-right : (t : SqlType) (d : Datum) → Right (λ v. HasLetter (letter_of t) v.0) (fetched t d)
fetched-right t Null = null-letter (letter_of t) (letter_of-value t)
fetched-right t (Num n) = unlost-right (letter_of t) (stored_number t n) (stored-right t (Num n))
fetched-right SmallInt (Text t) = tt
fetched-right Integer (Text t) = tt
fetched-right (Numeric p s) (Text t) = tt
fetched-right (Char m) (Text t) = refl
fetched-right (VarChar m) (Text t) = refl

-- ---- values one for one

pub row-length : (ks : List Letter) (ds : List Datum) → Row ks ds → length ds ≡ length ks
row-length [] [] h = refl
row-length [] (d ∷ ds) h = absurd (cc)
row-length (k ∷ ks) [] h = absurd (cc)
row-length (k ∷ ks) (d ∷ ds) h = ap (λ n. suc n) (row-length ks ds (and_second (has_letter k d) (are_of ks ds) h))

-- the value of the letter at its place
pub row-set : (ks : List Letter) (ds : List Datum) (i : ℕ) (k : Letter) (v : Datum) → Row ks ds → slice_get ks i ≡ Some k → HasLetter k v → Row ks (slice_set ds i v)
row-set [] ds i k v h g p = absurd (cc)
row-set (j ∷ ks) [] i k v h g p = absurd (cc)
row-set (j ∷ ks) (d ∷ ds) zero k v h g p = both_true (has_letter j v) (are_of ks ds) (subst (λ l. has_letter l v ≡ true) (sym (some_same g)) p) (and_second (has_letter j d) (are_of ks ds) h)
row-set (j ∷ ks) (d ∷ ds) (suc i) k v h g p = both_true (has_letter j d) (are_of ks (slice_set ds i v)) (and_first (has_letter j d) (are_of ks ds) h) (row-set ks ds i k v (and_second (has_letter j d) (are_of ks ds) h) g p)

pub row-there : (ks : List Letter) (ds : List Datum) (i : ℕ) → Row ks ds → IsThere (slice_get ks i) → IsThere (slice_get ds i)
row-there [] ds i h g = absurd g
row-there (k ∷ ks) [] i h g = absurd (true≢false (sym h))
row-there (k ∷ ks) (d ∷ ds) zero h g = tt
row-there (k ∷ ks) (d ∷ ds) (suc i) h g = row-there ks ds i (and_second (has_letter k d) (are_of ks ds) h) g

pub letter-at : (ts : List SqlType) (i : ℕ) (t : SqlType) → slice_get ts i ≡ Some t → slice_get (letters_of ts) i ≡ Some (letter_of t)
letter-at [] i t h = absurd (cc)
letter-at (s ∷ ts) zero t h = ap (λ x. Some (letter_of x)) (some_same h)
letter-at (s ∷ ts) (suc i) t h = letter-at ts i t h

pub letter-there : (ts : List SqlType) (i : ℕ) → IsThere (slice_get ts i) → IsThere (slice_get (letters_of ts) i)
letter-there [] i h = h
letter-there (s ∷ ts) zero h = tt
letter-there (s ∷ ts) (suc i) h = letter-there ts i h

-- ---- cursors one for one

pub shaped-at : (ws : List Shape) (cs : List Cursor) (n : ℕ) (w : Shape) → AreShaped ws cs → slice_get ws n ≡ Some w → (c : Cursor) × (slice_get cs n ≡ Some c) × IsShaped w c
shaped-at [] cs n w f h = absurd (cc)
shaped-at (u ∷ ws) [] n w f h = absurd f
shaped-at (u ∷ ws) (c ∷ cs) zero w f h = (c, refl, subst (λ x. IsShaped x c) (some_same h) f.0)
shaped-at (u ∷ ws) (c ∷ cs) (suc n) w f h = shaped-at ws cs n w f.1 h

pub shaped-set : (ws : List Shape) (cs : List Cursor) (n : ℕ) (w : Shape) (c : Cursor) → AreShaped ws cs → slice_get ws n ≡ Some w → IsShaped w c → AreShaped ws (slice_set cs n c)
shaped-set [] cs n w c f h g = absurd (cc)
shaped-set (u ∷ ws) [] n w c f h g = absurd f
shaped-set (u ∷ ws) (d ∷ cs) zero w c f h g = (subst (λ x. IsShaped x c) (sym (some_same h)) g, f.1)
shaped-set (u ∷ ws) (d ∷ cs) (suc n) w c f h g = (f.0, shaped-set ws cs n w c f.1 h g)

pub shaped-closed : (ws : List Shape) (cs : List Cursor) (n : ℕ) → AreShaped ws cs → AreShaped ws (slice_set cs n Closed)
shaped-closed [] [] n f = tt
shaped-closed [] (c ∷ cs) n f = absurd f
shaped-closed (u ∷ ws) [] n f = absurd f
shaped-closed (u ∷ ws) (c ∷ cs) zero f = (tt, f.1)
shaped-closed (u ∷ ws) (c ∷ cs) (suc n) f = (f.0, shaped-closed ws cs n f.1)

pub shaped-new : (ws : List Shape) → AreShaped ws (replicate (length ws) Closed)
shaped-new [] = tt
shaped-new (w ∷ ws) = (tt, shaped-new ws)

-- ---- tables one for one

pub filled-set : (ts : List ResolvedTable) (cs : List Contents) (n : ℕ) (t : ResolvedTable) (c : Contents) → AreFilled ts cs → slice_get ts n ≡ Some t → IsFilled t c → AreFilled ts (slice_set cs n c)
filled-set [] cs n t c f h g = absurd (cc)
filled-set (u ∷ ts) [] n t c f h g = absurd f
filled-set (u ∷ ts) (d ∷ cs) zero t c f h g = (subst (λ x. IsFilled x c) (sym (some_same h)) g, f.1)
filled-set (u ∷ ts) (d ∷ cs) (suc n) t c f h g = (f.0, filled-set ts cs n t c f.1 h g)
