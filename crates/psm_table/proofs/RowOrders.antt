-- The values of a row in some columns.
use Rattle.std.proofs.Common.{◌≡◌, ℕ, ◌<◌, List, length, get_or, sym, ◌∙◌}
use Rattle.std.proofs.lemmas.List.{get_or-map, length-map, get_or_default}
use Rattle.psm_value.specs.declared.datum.Datum.{Datum}
use Rattle.psm_value.specs.declared.datum.Datum.TheVariants.{Null}
use Rattle.psm_table.specs.Key.{values_at, AreColumnsOf}

pub length-values_at : (columns : List ℕ) (row : List Datum) → length (values_at columns row) ≡ length columns
length-values_at columns row = length-map columns (λ c. get_or row c Null)

-- the row's value in the column at index i of the key
pub get_or-values_at : (columns : List ℕ) (row : List Datum) (i : ℕ) (x : Datum) → i < length columns → AreColumnsOf row columns
    → x ≡ get_or row (get_or columns i 0) x → get_or (values_at columns row) i Null ≡ x
get_or-values_at columns row i x l exist e =
    get_or-map (λ c. get_or row c Null) columns i 0 Null l ∙ get_or_default row (get_or columns i 0) Null x (exist i 0 l) ∙ sym e
