-- The rows of a walk that are past a key.
use Rattle.std.proofs.Common.{◌≡◌, List, sym, subst, Option, Some, None, refl, Bor}
use Rattle.std.specs.Prelude.{All, IfSome, option_map}
use Rattle.std.specs.Option.{option_copied, ForSome}
use Rattle.psm_value.specs.declared.datum.Datum.{Datum}
use Rattle.psm_table.specs.Cuts.{rows_between}
use Rattle.psm_table.specs.Definition.{IsKey, IsRow}
use Rattle.psm_table.specs.declared.cut.Cut.{Cut}
use Rattle.psm_table.specs.declared.definition.TableDef.{TableDef}
use Rattle.psm_table.specs.Queries.{in_walk}
use Rattle.psm_table.specs.Table.{Contents, IsTable}
use Rattle.psm_tablecode.specs.Asked.{rows_of}
use Rattle.psm_tablecode.specs.RemainingRows.{cut_edge}
use Rattle.psm_tablecode.specs.declared.walking.Walk.{Walk}
use Rattle.psm_tablecode.proofs.RemainingRowsLaws.{coming_fit, of_all}
use Rattle.psm_cursor.specs.Walking.{high_edge_past, low_edge_past, walk_past}

module _ (t : Contents) (walk : Walk) (bound : Option (List Datum)) where
  -- rows between the cuts are those of the walk
  pub past_rows : (low high : Option Cut) (rows : List (List Datum)) → option_map cut_edge low ≡ low_edge_past walk.downward walk.low bound → option_map cut_edge high ≡ high_edge_past walk.downward walk.high bound
      → rows ≡ in_walk walk.downward (rows_between t.def.key low high t.rows) → rows ≡ rows_of t (walk_past walk bound)
  past_rows low high rows l h e = of_all t (walk_past walk bound) low high rows refl refl l h e

  pub past_fit : (rows : List (List Datum)) → rows ≡ rows_of t (walk_past walk bound) → IsTable t → All (IsRow t.def) rows
  past_fit rows e is = subst (All (IsRow t.def)) (sym e) (coming_fit t (walk_past walk bound) is)

-- the key that a cursor reached, if any, is one of the table
pub reached_fits : (def : TableDef) (o : Option (Bor (List Datum))) → ForSome o (λ k. IsKey def k.now) → IfSome (option_copied o) (IsKey def)
reached_fits def None h = tt
reached_fits def (Some k) h = h k refl
