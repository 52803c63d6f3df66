-- Rows that agree in a UNIQUE list, value by value.
use Rattle.std.proofs.Common.{◌≡◌, ℕ, ◌<◌, ◌≤◌, List, [], ◌∷◌, length, get_or, take, Bool, true, false, not, refl, ap, sym, subst, ◌∙◌}
use Rattle.std.proofs.lemmas.List.Folds.{list_all_at}
use Rattle.std.proofs.lemmas.List.{take_all}
use Rattle.std.specs.Prelude.{◌&&◌, ◌||◌}
use Rattle.std.specs.List.{list_all}
use Rattle.std.specs.declared.cmp.Ordering.{Ordering}
use Rattle.std.specs.declared.cmp.Ordering.TheVariants.{Less, Equal, Greater}
use Rattle.std.specs.Ordering.{is_eq, ordering_then}
use Rattle.psm_value.specs.declared.datum.Datum.{Datum}
use Rattle.psm_value.specs.declared.datum.Datum.TheVariants.{Null}
use Rattle.psm_value.specs.Order.{data_order}
use Rattle.psm_table.specs.Key.{values_at, key_order}
use Rattle.psm_table.specs.Unique.{agree, equal_value, is_null, has_null}

-- the tests of the first values and of the others: m, n whether the firsts are null, and p, q whether there is a null later
apart : (m n p q : Bool) (o r : Ordering)
    → (not (m || p) && (not (n || q) && is_eq (ordering_then o r))) ≡ ((not m && (not n && is_eq o)) && (not p && (not q && is_eq r)))
apart true n p q o r = refl
apart false true true q o r = refl
apart false true false q o r = refl
apart false false true q Less r = refl
apart false false false true Less r = refl
apart false false false false Less r = refl
apart false false p q Equal r = refl
apart false false true q Greater r = refl
apart false false false true Greater r = refl
apart false false false false Greater r = refl

pub agree_each : (a b : List Datum) (columns : List ℕ) → agree a b columns ≡ list_all (λ c. equal_value (get_or a c Null) (get_or b c Null)) columns
agree_each a b [] = refl
agree_each a b (c ∷ columns) =
    apart (is_null (get_or a c Null)) (is_null (get_or b c Null)) (has_null (values_at columns a)) (has_null (values_at columns b))
    (data_order (get_or a c Null) (get_or b c Null)) (key_order (values_at columns a) (values_at columns b))
    ∙ ap (λ rest. equal_value (get_or a c Null) (get_or b c Null) && rest) (agree_each a b columns)

-- values at an index of the columns that aren't equal, or one of which is null
pub agree_false : (a b : List Datum) (columns : List ℕ) (i : ℕ) → i < length columns
    → equal_value (get_or a (get_or columns i 0) Null) (get_or b (get_or columns i 0) Null) ≡ false → false ≡ agree a b columns
agree_false a b columns i l e =
    sym (agree_each a b columns ∙ list_all_at (λ c. equal_value (get_or a c Null) (get_or b c Null)) columns i 0 l e)

-- equal values at each index of the columns
pub agree_true : (a b : List Datum) (columns : List ℕ) (i : ℕ) → length columns ≤ i
    → list_all (λ c. equal_value (get_or a c Null) (get_or b c Null)) (take i columns) ≡ true → true ≡ agree a b columns
agree_true a b columns i l e =
    let whole : take i columns ≡ columns = take_all i columns l in
    sym (agree_each a b columns ∙ subst (λ cs. list_all (λ c. equal_value (get_or a c Null) (get_or b c Null)) cs ≡ true) whole e)
