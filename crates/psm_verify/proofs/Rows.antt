-- Rows of operands, and the letters of columns.
use Rattle.std.proofs.Common.{◌≡◌, ℕ, zero, suc, ◌-◌, ◌<◌, List, [], ◌∷◌, ◌++◌, append_assoc, refl, ap, sym, ◌∙◌, arith, Option, Some, None}
use Rattle.std.specs.Prelude.{map, option_map, replicate, reverse, slice_get}
use Rattle.std.specs.List.{flat_map}
use Rattle.std.proofs.lemmas.List.{append-nil, reverse-append}
use Rattle.psm_exprcode.specs.declared.op.Letter.{Letter}
use Rattle.psm_exprcode.specs.WellFormed.{left_of}
use Rattle.psm_exprcode.proofs.Stripping.{left_below_none, left_below_some}
use Rattle.psm_code.specs.declared.code.RawCode.{RawCode}
use Rattle.psm_code.specs.declared.code.Plan.TheVariants.{Insert}
use Rattle.psm_code.specs.Instructions.{column_letters, letters_at, letters_in, plan_letters, table_letters, values_letters, with_letter}
use Rattle.psm_verify.specs.Moves.{given_rows, prepend}
use Rattle.psm_verify.specs.VerifyContext.{row_with}
use Rattle.psm_verify.proofs.Each.{known_at}

-- ---- letters of columns one after another

pub prepend_next : (xs : List Letter) (l : Letter) (o : Option (List Letter)) → prepend xs (with_letter (Some l) o) ≡ prepend (xs ++ l ∷ []) o
prepend_next xs l None = refl
prepend_next xs l (Some ys) = ap Some (sym (append_assoc xs (l ∷ []) ys))

pub column_next : (letters : List Letter) (c : ℕ) (cs rest : List ℕ) (l : Letter) (row more : List Letter) (due : Option (List Letter))
    → rest ≡ c ∷ cs → slice_get letters c ≡ Some l → more ≡ row ++ l ∷ [] → prepend row (letters_at letters rest) ≡ due → prepend more (letters_at letters cs) ≡ due
column_next letters c cs rest l row more due r e m h =
    ap (λ xs. prepend xs (letters_at letters cs)) m ∙ sym (prepend_next row l (letters_at letters cs)) ∙ sym (ap (λ o. prepend row (with_letter o (letters_at letters cs))) e)
    ∙ sym (ap (λ xs. prepend row (letters_at letters xs)) r) ∙ h

pub prepend_nil : (o : Option (List Letter)) → prepend [] o ≡ o
prepend_nil None = refl
prepend_nil (Some ys) = refl

-- ---- rows that are taken

over : (n : ℕ) (row : List Letter) → given_rows n row ++ row ≡ row ++ given_rows n row
over zero row = sym (append-nil row)
over (suc n) row = append_assoc row (given_rows n row) row ∙ ap (λ r. row ++ r) (over n row)

reversed : (n : ℕ) (ls : List Letter) → reverse (given_rows n ls) ≡ given_rows n (reverse ls)
reversed zero ls = refl
reversed (suc n) ls = reverse-append ls (given_rows n ls) ∙ ap (λ r. r ++ reverse ls) (reversed n ls) ∙ over n (reverse ls)

pub rows_reversed : (n : ℕ) (ls row : List Letter) → row ≡ reverse ls → reverse (flat_map (λ xs. xs) (replicate n ls)) ≡ given_rows n row
rows_reversed n ls row h = reversed n ls ∙ sym (ap (given_rows n) h)

-- what a plan that inserts rows of values takes, by the letters of one row
pub rows_taken : (code : RawCode) (columns : List (List Letter)) (table : ℕ) (listed : List ℕ) (n : ℕ) (row : Option (List Letter))
    → columns ≡ map column_letters code.tables → row ≡ row_with columns (Insert table listed n) → option_map (given_rows n) row ≡ plan_letters code (Insert table listed n)
rows_taken code columns table listed n row k h =
    ap (option_map (given_rows n)) (h ∙ ap (λ o. option_map reverse (letters_in listed o)) (known_at column_letters code.tables columns table k)) ∙ by (letters_in listed (table_letters code table)) where
      by : (o : Option (List Letter)) → option_map (given_rows n) (option_map reverse o) ≡ values_letters n o
      by None = refl
      by (Some ls) = ap Some (sym (rows_reversed n ls (reverse ls) refl))

pub rows_some : (n : ℕ) (row s t : List Letter) → 0 < n → left_of row s ≡ Some t → left_of (given_rows n row) s ≡ left_of (given_rows (n - 1) row) t
rows_some zero row s t l h = absurd (omega (arith, l))
rows_some (suc n) row s t l h =
    let e : n ≡ suc n - 1 = omega arith in
    left_below_some row (given_rows n row) s t h ∙ ap (λ k. left_of (given_rows k row) t) e

pub rows_none : (n : ℕ) (row s : List Letter) → 0 < n → left_of row s ≡ None → left_of (given_rows n row) s ≡ None
rows_none zero row s l h = absurd (omega (arith, l))
rows_none (suc n) row s l h = left_below_none row (given_rows n row) s h
