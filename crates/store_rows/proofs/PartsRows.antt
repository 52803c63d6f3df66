-- Rows and keys of a name, a size and a code fit the tables of these.
use Rattle.std.proofs.Common.{◌≡◌, ℕ, zero, suc, List, [], ◌∷◌, length, ap, sym, subst, ◌∙◌}
use Rattle.std.specs.Prelude.{◌≢◌, All, IfSome, Option, Some, unwrap_or, slice_get}
use Rattle.std.proofs.lemmas.List.{length-map}
use Rattle.std.proofs.lemmas.List.Elements.{All-head, All-tail}
use Rattle.psm_value.specs.declared.datum.Datum.{Datum}
use Rattle.psm_value.specs.declared.datum.Datum.TheVariants.{Null}
use Rattle.psm_value.specs.declared.sqltype.SqlType.{SqlType}
use Rattle.psm_table.specs.declared.definition.TableDef.{TableDef}
use Rattle.psm_table.specs.Definition.{AreOfFamilies, HasColumns, IsKey, IsRow}
use Rattle.psm_table.specs.Key.{values_at}
use Rattle.psm_table.specs.Table.{Contents}
use Rattle.psm_store.specs.Marks.{defs_of}
use Rattle.store_rows.specs.Parts.{IsPartsKey, IsPartsRow, IsPartsTable}

pub row_fits : (def : TableDef) (row : List Datum) → IsPartsTable def → IsPartsRow row → IsRow def row
row_fits def row table parts = record {
  long = parts.long ∙ sym (ap length table.kinds) ∙ length-map def.columns (λ c. c.kind);
  families = subst (λ (kinds : List SqlType). AreOfFamilies kinds row) (sym table.kinds) parts.families;
  filled = subst (λ (key : List ℕ). All (λ d. d ≢ Null) (values_at key row)) (sym table.key) parts.filled;
}

pub key_fits : (def : TableDef) (key : List Datum) → IsPartsTable def → IsPartsKey key → IsKey def key
key_fits def key table parts = parts ∙ sym (ap length table.key)

-- each of the tables is one of parts
pub table_of : (tables : List Contents) (t : ℕ) (c : Contents) → All IsPartsTable (defs_of tables) → slice_get tables t ≡ Some c → IsPartsTable c.def
table_of [] t c h e = cc
table_of (x ∷ xs) zero c h e = subst (λ (o : Contents). IsPartsTable o.def) (ap (λ (o : Option Contents). unwrap_or o x) e) (All-head IsPartsTable x.def (defs_of xs) h)
table_of (x ∷ xs) (suc t) c h e = table_of xs t c (All-tail IsPartsTable x.def (defs_of xs) h) e

pub row_has_columns : (def : TableDef) (row : List Datum) → IsPartsTable def → IsPartsRow row → HasColumns def row
row_has_columns def row table parts = (row_fits def row table parts).long

pub row_fits_at : (tables : List Contents) (t : ℕ) (row : List Datum) → All IsPartsTable (defs_of tables) → IsPartsRow row → IfSome (slice_get tables t) (λ c. IsRow c.def row)
row_fits_at [] t row h parts = tt
row_fits_at (x ∷ xs) zero row h parts = row_fits x.def row (All-head IsPartsTable x.def (defs_of xs) h) parts
row_fits_at (x ∷ xs) (suc t) row h parts = row_fits_at xs t row (All-tail IsPartsTable x.def (defs_of xs) h) parts

pub key_fits_at : (tables : List Contents) (t : ℕ) (key : List Datum) → All IsPartsTable (defs_of tables) → IsPartsKey key → IfSome (slice_get tables t) (λ c. IsKey c.def key)
key_fits_at [] t key h parts = tt
key_fits_at (x ∷ xs) zero key h parts = key_fits x.def key (All-head IsPartsTable x.def (defs_of xs) h) parts
key_fits_at (x ∷ xs) (suc t) key h parts = key_fits_at xs t key (All-tail IsPartsTable x.def (defs_of xs) h) parts
