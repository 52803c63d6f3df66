-- Edges of a walk: the cuts of a key's order that stand for the bounds between which a test asks for keys.
use Rattle.std.specs.Prelude.{Bool, true, false, ◌&&◌, ℕ, not, List, [], ◌∷◌, ◌++◌, filter, Option, Some, None}
use Rattle.psm_value.specs.declared.datum.Datum.{Datum}
use Rattle.psm_table.specs.Cuts.{is_past}
use Rattle.psm_table.specs.Key.{values_at}
use Rattle.psm_tablecode.specs.declared.walking.Edge.{Edge}
use Rattle.psm_tablecode.specs.Bounds.{End}

-- ---- the edges of bounds

abbrev pub edge : List Datum → Bool → Edge
edge values is_after = record { values = values; is_after = is_after }

-- the values at the edge, with those of an end
abbrev pub end_values : List Datum → Option End → List Datum
end_values firsts None = firsts
end_values firsts (Some e) = firsts ++ e.value ∷ []

-- whether keys begin after those with these values
abbrev pub begins_after : Option End → Bool
begins_after None = false
begins_after (Some e) = not e.is_in

-- whether keys end after those with these values
abbrev pub ends_after : Option End → Bool
ends_after None = true
ends_after (Some e) = e.is_in

-- an edge at these values; without values there is none
abbrev pub edge_at : List Datum → Bool → Option Edge
edge_at [] is_after = None
edge_at (v ∷ vs) is_after = Some (edge (v ∷ vs) is_after)

-- the edge where the keys begin that have these first values, and a value after them from an end on
abbrev pub low_edge : List Datum → Option End → Option Edge
low_edge firsts low = edge_at (end_values firsts low) (begins_after low)

-- the edge where the keys end that have these first values, and a value after them up to an end
abbrev pub high_edge : List Datum → Option End → Option Edge
high_edge firsts high = edge_at (end_values firsts high) (ends_after high)

-- ---- rows between edges

abbrev pub is_begun : Option Edge → List Datum → Bool
is_begun None key = true
is_begun (Some e) key = is_past e.values e.is_after key

abbrev pub is_not_ended : Option Edge → List Datum → Bool
is_not_ended None key = true
is_not_ended (Some e) key = not (is_past e.values e.is_after key)

-- whether a key lies between two edges
abbrev pub lies_within : Option Edge → Option Edge → List Datum → Bool
lies_within low high key = is_begun low key && is_not_ended high key

-- the rows whose keys do
abbrev pub rows_between : List ℕ → Option Edge → Option Edge → List (List Datum) → List (List Datum)
rows_between columns low high rows = filter (λ row. lies_within low high (values_at columns row)) rows
