-- Rows between two cuts of the keys in their order (ISO/IEC 9075:1992, 8.2).
use Rattle.std.specs.Prelude.{Bool, true, ◌&&◌, ℕ, not, List, filter, Option, Some, None, if◌then◌else◌}
use Rattle.std.specs.Ordering.{is_lt, is_gt}
use Rattle.psm_value.specs.declared.datum.Datum.{Datum}
use Rattle.psm_table.specs.declared.cut.Cut.{Cut}
use Rattle.psm_table.specs.Key.{values_at}
use Rattle.psm_table.specs.Map.{prefix_order}

-- whether a key is past the keys that begin with these values, or, if these keys count too, from them on
abbrev pub is_past : List Datum → Bool → List Datum → Bool
is_past values is_after key = if is_after then is_gt (prefix_order values key) else not (is_lt (prefix_order values key))

-- whether a key lies after a cut
abbrev pub lies_after : Cut → List Datum → Bool
lies_after c key = is_past c.values.now c.is_after key

-- whether a key lies after the cut where keys begin; without one each does
abbrev pub is_from : Option Cut → List Datum → Bool
is_from None key = true
is_from (Some c) key = lies_after c key

-- whether a key doesn't lie after the cut where keys end; without one none does
abbrev pub is_up_to : Option Cut → List Datum → Bool
is_up_to None key = true
is_up_to (Some c) key = not (lies_after c key)

-- whether a key lies between two cuts
abbrev pub between : Option Cut → Option Cut → List Datum → Bool
between low high key = is_from low key && is_up_to high key

-- the rows whose keys lie between two cuts
abbrev pub rows_between : List ℕ → Option Cut → Option Cut → List (List Datum) → List (List Datum)
rows_between columns low high rows = filter (λ row. between low high (values_at columns row)) rows
