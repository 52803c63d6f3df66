-- The rows that a plain cursor still has before it.
use Rattle.std.specs.Prelude.{Bool, true, false, List, Option, Some, None, if◌then◌else◌}
use Rattle.std.specs.Ordering.{is_gt, is_lt}
use Rattle.psm_value.specs.declared.datum.Datum.{Datum}
use Rattle.psm_table.specs.Key.{key_order}
use Rattle.psm_tablecode.specs.declared.walking.Edge.{Edge}
use Rattle.psm_tablecode.specs.declared.walking.Walk.{Walk}
use Rattle.psm_tablecode.specs.Edges.{edge}

-- whether a key lies past another in the order of a walk; without the other each does
abbrev pub is_past : Bool → Option (List Datum) → List Datum → Bool
is_past downward None key = true
is_past downward (Some bound) key = if downward then is_gt (key_order bound key) else is_lt (key_order bound key)

-- where the keys begin that lie past a key in a walk: after that key, or downward at the edge of the walk
abbrev pub low_edge_past : Bool → Option Edge → Option (List Datum) → Option Edge
low_edge_past downward low None = low
low_edge_past downward low (Some bound) = if downward then low else Some (edge bound true)

-- where they end: at the edge of the walk, or downward before that key
abbrev pub high_edge_past : Bool → Option Edge → Option (List Datum) → Option Edge
high_edge_past downward high None = high
high_edge_past downward high (Some bound) = if downward then Some (edge bound false) else high

-- a walk between edges from a key on: the key stands for the edge with which the walk begins, as no row between the two is left
abbrev pub walk_past : Walk → Option (List Datum) → Walk
walk_past walk bound = record { downward = walk.downward; key = None; unique = None; low = low_edge_past walk.downward walk.low bound; high = high_edge_past walk.downward walk.high bound }
