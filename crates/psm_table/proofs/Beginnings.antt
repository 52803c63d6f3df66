-- Rows whose keys begin with given values, which stand between two cuts.
use Rattle.std.proofs.Common.{◌≡◌, Bor, ℕ, List, [], ◌∷◌, Bool, true, false, not, ◌&&◌, ◌||◌, length, take, refl, ap, sym, ◌∙◌}
use Rattle.std.specs.Prelude.{All, cond, filter, is_some, slice_get, slice_index_or, MatchOption, Option, Some, None}
use Rattle.std.specs.Ordering.{is_eq, is_gt, is_lt}
use Rattle.std.specs.declared.cmp.Ordering.{Ordering}
use Rattle.std.specs.declared.cmp.Ordering.TheVariants.{Less, Equal, Greater}
use Rattle.std.proofs.lemmas.List.{take-map}
use Rattle.std.proofs.lemmas.List.Elements.{All-head, All-tail, All-take}
use Rattle.psm_value.specs.declared.datum.Datum.{Datum}
use Rattle.psm_value.specs.declared.datum.Datum.TheVariants.{Null}
use Rattle.psm_table.specs.Cuts.{is_past}
use Rattle.psm_table.specs.declared.definition.TableDef.{TableDef}
use Rattle.psm_table.specs.Definition.{IsRow}
use Rattle.psm_table.specs.Key.{key_order, values_at}
use Rattle.psm_table.specs.Keyed.{has_values}
use Rattle.psm_table.specs.Map.{prefix_order}
use Rattle.psm_table.specs.Unique.{equal_values, has_null}
use Rattle.psm_table.proofs.KeyLaws.{key_order-total}
use Rattle.psm_table.proofs.Lives.{Row}
use Rattle.psm_table.proofs.Referring.{equal_order, filled_none, turned_equal}

-- a walk has a next row where it has one
pub next_some : (r : Option (Bor Row)) (rows left : List Row) → MatchOption r (rows ≡ []) (λ row. rows ≡ row.now ∷ left) → is_some r ≡ is_some (slice_get rows 0)
next_some None rows left e = sym (ap (λ l. is_some (slice_get l 0)) e)
next_some (Some row) rows left e = sym (ap (λ l. is_some (slice_get l 0)) e)

one_left : (row : Row) (rows : List Row) (b : Bool) → is_some (slice_get (cond b (row ∷ rows) rows) 0) ≡ (b || is_some (slice_get rows 0))
one_left row rows true = refl
one_left row rows false = refl

neither : (o : Ordering) → (not (is_lt o) && not (is_gt o)) ≡ is_eq o
neither Less = refl
neither Equal = refl
neither Greater = refl

module _ (def : TableDef) (columns : List ℕ) (values : List Datum) (begin : take (length columns) def.key ≡ columns) (long : length values ≡ length columns) (filled : has_null values ≡ false) where
  -- a key stands between the cuts before and after the values
  abbrev pub Begins : List Datum → Bool
  Begins key = is_past values false key && not (is_past values true key)

  beginning : (row : Row) → take (length values) (values_at def.key row) ≡ values_at columns row
  beginning row =
      ap (λ n. take n (values_at def.key row)) long ∙ take-map (λ c. slice_index_or row c Null) (length columns) def.key ∙ ap (λ cs. values_at cs row) begin

  one_begins : (row : Row) → IsRow def row → Begins (values_at def.key row) ≡ equal_values values (values_at columns row)
  one_begins row h =
      neither (prefix_order values (values_at def.key row))
      ∙ ap (λ l. is_eq (key_order l values)) (beginning row)
      ∙ ap is_eq (key_order-total.antisymm (values_at columns row) values) ∙ turned_equal (key_order values (values_at columns row))
      ∙ equal_order values (values_at columns row) filled
      (ap has_null (sym (beginning row)) ∙ filled_none (take (length values) (values_at def.key row)) (All-take (λ (d : Datum). d ≡ Null → ⊥) (length values) (values_at def.key row) h.filled))

  pub beginning_found : (rows : List Row) → All (IsRow def) rows → is_some (slice_get (filter (λ row. Begins (values_at def.key row)) rows) 0) ≡ has_values columns values rows
  beginning_found [] h = refl
  beginning_found (row ∷ rows) h =
      one_left row (filter (λ r. Begins (values_at def.key r)) rows) (Begins (values_at def.key row))
      ∙ ap (λ b. b || is_some (slice_get (filter (λ r. Begins (values_at def.key r)) rows) 0)) (one_begins row (All-head (IsRow def) row rows h))
      ∙ ap (λ b. equal_values values (values_at columns row) || b) (beginning_found rows (All-tail (IsRow def) row rows h))
