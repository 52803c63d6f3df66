-- Rows that have given values, looked up by the key or by the entries of a UNIQUE list, or found in a walk.
use Rattle.std.proofs.Common.{◌≡◌, ◌<◌, ℕ, List, [], ◌∷◌, Bool, true, false, not, ◌&&◌, ◌||◌, length, get_or, refl, ap, sym, subst, ◌∙◌, arith}
use Rattle.std.specs.Prelude.{All, is_some, Option, Some, cond, slice_get}
use Rattle.std.proofs.lemmas.Option.{get_or_from_slice_get, slice_get_within}
use Rattle.std.specs.Ordering.{is_eq, ordering_reverse}
use Rattle.std.specs.declared.cmp.Ordering.{Ordering}
use Rattle.std.specs.declared.cmp.Ordering.TheVariants.{Less, Equal, Greater}
use Rattle.std.proofs.lemmas.List.Elements.{All-head, All-tail}
use Rattle.psm_value.specs.declared.datum.Datum.{Datum}
use Rattle.psm_value.specs.declared.datum.Datum.TheVariants.{Null, Num, Text}
use Rattle.psm_table.specs.declared.definition.TableDef.{TableDef}
use Rattle.psm_table.specs.Definition.{IsRow}
use Rattle.psm_table.specs.Held.{entries_of, IsEntered}
use Rattle.psm_table.specs.Key.{key_order, row_order, values_at}
use Rattle.psm_table.specs.Keyed.{has_values}
use Rattle.psm_table.specs.Map.{keys_of}
use Rattle.psm_table.specs.Mapped.{Mapped}
use Rattle.psm_table.specs.Rows.{row_with}
use Rattle.psm_table.specs.State.{HasEntry}
use Rattle.psm_table.specs.Unique.{equal_values, has_null, is_null}
use Rattle.psm_table.proofs.Entered.{all_zip-at, get-entries, length-entries}
use Rattle.psm_table.proofs.KeyLaws.{key_order-total}

abbrev Row : Type 0
Row = List Datum

-- values that are not null
not_null : (d : Datum) → (d ≡ Null → ⊥) → is_null d ≡ false
not_null Null h = absurd (h refl)
not_null (Num n) h = refl
not_null (Text t) h = refl

or_false : (a b : Bool) → a ≡ false → b ≡ false → (a || b) ≡ false
or_false false b e f = f
or_false true b e f = cc

pub filled_none : (values : List Datum) → All (λ (d : Datum). d ≡ Null → ⊥) values → has_null values ≡ false
filled_none [] h = refl
filled_none (d ∷ ds) h = or_false (is_null d) (has_null ds) (not_null d (All-head (λ (d : Datum). d ≡ Null → ⊥) d ds h)) (filled_none ds (All-tail (λ (d : Datum). d ≡ Null → ⊥) d ds h))

pub turned_equal : (o : Ordering) → is_eq (ordering_reverse o) ≡ is_eq o
turned_equal Less = refl
turned_equal Equal = refl
turned_equal Greater = refl

equal_filled : (a b : List Datum) → has_null a ≡ false → has_null b ≡ false → equal_values a b ≡ is_eq (key_order a b)
equal_filled a b e f = ap (λ x. not x && (not (has_null b) && is_eq (key_order a b))) e ∙ ap (λ x. not x && is_eq (key_order a b)) f

-- a null among the values of a row: they equal no others
pub equal_null : (a b : List Datum) → has_null a ≡ false → has_null b ≡ true → false ≡ equal_values a b
equal_null a b e f = sym (ap (λ x. not x && (not (has_null b) && is_eq (key_order a b))) e ∙ ap (λ x. not x && is_eq (key_order a b)) f)

pub equal_order : (a b : List Datum) → has_null a ≡ false → has_null b ≡ false → is_eq (key_order a b) ≡ equal_values a b
equal_order a b e f = sym (equal_filled a b e f)

-- ---- by the key

module _ (def : TableDef) (values : List Datum) (filled : has_null values ≡ false) where
  one_found : (row : Row) → IsRow def row → is_eq (row_order def.key values row) ≡ equal_values values (values_at def.key row)
  one_found row h =
      sym (equal_filled values (values_at def.key row) filled (filled_none (values_at def.key row) h.filled)
      ∙ ap is_eq (key_order-total.antisymm values (values_at def.key row)) ∙ turned_equal (key_order (values_at def.key row) values))

  found_step : (row : Row) (o : Option Row) (b : Bool) → is_some (cond b (Some row) o) ≡ (b || is_some o)
  found_step row o true = refl
  found_step row o false = refl

  pub key_found : (rows : List Row) → All (IsRow def) rows → is_some (row_with def.key values rows) ≡ has_values def.key values rows
  key_found [] h = refl
  key_found (row ∷ rows) h =
      found_step row (row_with def.key values rows) (is_eq (row_order def.key values row))
      ∙ ap (λ b. b || is_some (row_with def.key values rows)) (one_found row (All-head (IsRow def) row rows h))
      ∙ ap (λ b. equal_values values (values_at def.key row) || b) (key_found rows (All-tail (IsRow def) row rows h))

-- ---- in a walk

-- a row that doesn't have the values is passed over
pub passed_over : (columns : List ℕ) (values : List Datum) (rows : List Row) (row : Row) (left : List Row) → rows ≡ row ∷ left → equal_values values (values_at columns row) ≡ false → has_values columns values rows ≡ has_values columns values left
passed_over columns values rows row left is e = ap (has_values columns values) is ∙ ap (λ b. b || has_values columns values left) e

-- ---- by the entries of a list

-- each row has its entry in the set of the list
pub entered_in : (def : TableDef) (lists : List (List ℕ)) (sets : List (Mapped (Unit {0}))) (rows : List Row) (k : ℕ) (columns : List ℕ) (m : Mapped (Unit {0})) → slice_get lists k ≡ Some columns → m ≡ get_or sets k m → length sets ≡ length lists
    → All (IsEntered def lists (entries_of sets)) rows → All (λ row. HasEntry def row columns (keys_of m.pairs)) rows
entered_in def lists sets rows k columns m is at long h i d l =
    let inside : k < length sets = omega (arith, slice_get_within lists k columns is, long) in
    subst (λ es. HasEntry def (get_or rows i d) columns es) (get-entries sets k m [] inside ∙ ap (λ (n : Mapped (Unit {0})). keys_of n.pairs) (sym at))
    (subst (λ cs. HasEntry def (get_or rows i d) cs (get_or (entries_of sets) k [])) (get_or_from_slice_get lists k columns columns is)
    (all_zip-at (HasEntry def (get_or rows i d)) lists (entries_of sets) k columns [] (h i d l) (omega (arith, inside, length-entries sets))))
