-- The row of the key on which a cursor stands.
use Rattle.std.proofs.Common.{◌≡◌, ℕ, Bool, true, false, List, [], ◌∷◌, refl, ap, sym, ◌∙◌, Option, Some, None}
use Rattle.std.specs.Prelude.{cond, if◌then◌else◌}
use Rattle.std.specs.Ordering.{is_eq, ordering_reverse}
use Rattle.std.specs.declared.cmp.Ordering.{Ordering}
use Rattle.std.specs.declared.cmp.Ordering.TheVariants.{Less, Equal, Greater}
use Rattle.psm_exprcode.specs.declared.query.Query.{Query}
use Rattle.psm_value.specs.declared.datum.Datum.{Datum}
use Rattle.psm_table.specs.Cursors.{Cursor, Closed, Plain, Insensitive, row_at, row_of_key}
use Rattle.psm_table.specs.Key.{key_order, values_at}
use Rattle.psm_table.specs.Rows.{row_with}
use Rattle.psm_table.specs.Table.{keyed, Contents}
use Rattle.psm_table.specs.declared.definition.TableDef.{TableDef}
use Rattle.psm_table.proofs.KeyLaws.{key_order-total}
use Rattle.psm_cursor.specs.Current.{current_key, current_row, off_row}
use Rattle.psm_cursor.specs.TypeChecks.{StandsIn, TypeChecksCursor}

equal-turned : (o : Ordering) → is_eq (ordering_reverse o) ≡ is_eq o
equal-turned Less = refl
equal-turned Equal = refl
equal-turned Greater = refl

found_by_key : (columns : List ℕ) (key : List Datum) (rows : List (List Datum)) → row_with columns key rows ≡ row_of_key columns key rows
found_by_key columns key [] = refl
found_by_key columns key (row ∷ rows) =
    ap (λ b. cond b (Some row) (row_with columns key rows)) (ap is_eq (key_order-total.antisymm (values_at columns row) key) ∙ equal-turned (key_order key (values_at columns row)))
    ∙ ap (λ (o : Option (List Datum)). if is_eq (key_order key (values_at columns row)) then Some row else o) (found_by_key columns key rows)

found_there : (t : Contents) (key : List Datum) (b : Bool) (bound : Option (List Datum)) → (if b then bound else None) ≡ Some key → keyed t key ≡ (if b then row_at t.def.key t.rows bound else None)
found_there t key true bound e = found_by_key t.def.key key t.rows ∙ sym (ap (row_at t.def.key t.rows) e)
found_there t key false bound e = absurd cc

-- the row on which a cursor stands is the one of its key
pub current_found : (t : Contents) (c : Cursor) (key : List Datum) → current_key c ≡ Some key → keyed t key ≡ current_row t c
current_found t Closed key e = absurd cc
current_found t (Plain p vars) key e = found_there t key p.is_on_row p.bound e
current_found t (Insensitive rows) key e = absurd cc

-- a cursor that may be moved over a table stands in it, and so does one that leaves its row
pub type_checks_stands : (query : Query) (def : TableDef) (c : Cursor) → TypeChecksCursor query def c → StandsIn def c
type_checks_stands query def Closed s = tt
type_checks_stands query def (Plain p vars) s = s.1
type_checks_stands query def (Insensitive rows) s = tt

pub type_checks_off_row : (query : Query) (def : TableDef) (c : Cursor) → TypeChecksCursor query def c → TypeChecksCursor query def (off_row c)
type_checks_off_row query def Closed s = tt
type_checks_off_row query def (Plain p vars) s = s
type_checks_off_row query def (Insensitive rows) s = tt
