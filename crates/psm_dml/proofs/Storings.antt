-- Rows as columns store them.
use Rattle.std.proofs.Common.{◌≡◌, ℕ, zero, suc, ◌<◌, List, [], ◌∷◌, length, get_or, refl, ap, sym, subst, ◌∙◌, arith, Result, Ok, Err}
use Rattle.std.specs.Prelude.{All}
use Rattle.std.specs.List.{zip}
use Rattle.std.proofs.lemmas.List.{length-map}
use Rattle.std.proofs.lemmas.List.Elements.{All-cons, All-head, All-nil, All-tail}
use Rattle.psm_sqlstate.specs.declared.state.SqlState.{SqlState}
use Rattle.psm_value.specs.declared.datum.Datum.{Datum}
use Rattle.psm_value.specs.declared.sqltype.SqlType.{SqlType}
use Rattle.psm_value.specs.SqlType.{IsOfFamily, IsType}
use Rattle.psm_value.specs.Stored.{stored}
use Rattle.psm_value.proofs.Stable.{stored-of_family}
use Rattle.psm_table.specs.declared.definition.Column.{Column}
use Rattle.psm_table.specs.declared.definition.TableDef.{TableDef}
use Rattle.psm_table.specs.Changing.{stored_row, stored_rows}
use Rattle.psm_table.specs.Definition.{kinds_of, AreOfFamilies, HasColumns}
use Rattle.psm_table.specs.Evaluator.{and_then, collected, mapped}
use Rattle.psm_row_changes.specs.Rows.{IsWhole}

abbrev Row : Type 0
Row = List Datum

-- ---- what is stored is whole

abbrev Fits : List SqlType → Row → Type 0
Fits ts r = (length r ≡ length ts) × AreOfFamilies ts r

stored_step : (t : SqlType) (ts : List SqlType) (v : Datum) (r : Row) (d : Result Datum SqlState) (rest : Result Row SqlState) → stored t v ≡ d → ((ds : Row) → rest ≡ Ok ds → Fits ts ds)
    → and_then d (λ e. mapped (λ ds. e ∷ ds) rest) ≡ Ok r → Fits (t ∷ ts) r
stored_step t ts v r (Ok e) (Ok ds) s h f =
    let same : e ∷ ds ≡ r = cc in
    let k = h ds refl in
    let long : length (e ∷ ds) ≡ length (t ∷ ts) = omega (arith, k.0) in
    subst (Fits (t ∷ ts)) same (long, All-cons (λ (p : SqlType × Datum). IsOfFamily p.0 p.1) (t, e) (zip ts ds) (stored-of_family t v e s) k.1)
stored_step t ts v r (Ok e) (Err u) s h f = cc
stored_step t ts v r (Err u) rest s h f = cc

pub stored_fits : (ts : List SqlType) (vs r : Row) → length vs ≡ length ts → stored_row ts vs ≡ Ok r → Fits ts r
stored_fits [] [] r l e = let same : [] ≡ r = cc in subst (Fits []) same (refl, All-nil (λ (p : SqlType × Datum). IsOfFamily p.0 p.1))
stored_fits [] (v ∷ vs) r l e = absurd (omega (arith, l))
stored_fits (t ∷ ts) [] r l e = absurd (omega (arith, l))
stored_fits (t ∷ ts) (v ∷ vs) r l e = stored_step t ts v r (stored t v) (stored_row ts vs) refl (λ ds h. stored_fits ts vs ds (omega (arith, l)) h) e

whole : (def : TableDef) (vs r : Row) → length vs ≡ length def.columns → stored_row (kinds_of def.columns) vs ≡ Ok r → IsWhole def r
whole def vs r l e =
    let kinds : length (kinds_of def.columns) ≡ length def.columns = length-map def.columns (λ c. c.kind) in
    let h = stored_fits (kinds_of def.columns) vs r (l ∙ sym kinds) e in
    record { long = h.0 ∙ kinds; families = h.1 }

pub record AreStored (def : TableDef) (rows rs : List Row) : Type 0 where
  pub long : length rs ≡ length rows
  pub whole : All (IsWhole def) rs

all_step : (def : TableDef) (row : Row) (rows rs : List Row) (d : Result Row SqlState) (rest : Result (List Row) SqlState) → length row ≡ length def.columns → stored_row (kinds_of def.columns) row ≡ d
    → ((more : List Row) → rest ≡ Ok more → AreStored def rows more)
    → and_then d (λ r. mapped (λ more. r ∷ more) rest) ≡ Ok rs → AreStored def (row ∷ rows) rs
all_step def row rows rs (Ok r) (Ok more) l s h f =
    let same : r ∷ more ≡ rs = cc in
    let k = h more refl in
    let longer : length (r ∷ more) ≡ length (row ∷ rows) = omega (arith, k.long) in
    subst (AreStored def (row ∷ rows)) same (record { long = longer; whole = All-cons (IsWhole def) r more (whole def row r l s) k.whole })
all_step def row rows rs (Ok r) (Err u) l s h f = cc
all_step def row rows rs (Err u) rest l s h f = cc

-- the rows that are stored are whole, and as many
pub are_stored : (def : TableDef) (rows rs : List Row) → All (HasColumns def) rows → stored_rows (kinds_of def.columns) rows ≡ Ok rs → AreStored def rows rs
are_stored def [] rs h e = let same : [] ≡ rs = cc in subst (AreStored def []) same (record { long = refl; whole = All-nil (IsWhole def) })
are_stored def (row ∷ rows) rs h e =
    let first : HasColumns def row = All-head (HasColumns def) row rows h in
    all_step def row rows rs (stored_row (kinds_of def.columns) row) (stored_rows (kinds_of def.columns) rows) first refl
    (λ more f. are_stored def rows more (All-tail (HasColumns def) row rows h) f) e

-- the type of a column
pub type_at : (columns : List Column) (i : ℕ) (c : Column) → All IsType (kinds_of columns) → i < length columns → c ≡ get_or columns i c → IsType c.kind
type_at [] i c h l e = absurd (omega arith)
type_at (x ∷ cs) zero c h l e = subst (λ (k : Column). IsType k.kind) (sym e) (All-head IsType x.kind (kinds_of cs) h)
type_at (x ∷ cs) (suc i) c h l e = type_at cs i c (All-tail IsType x.kind (kinds_of cs) h) (omega arith) e

-- ---- row by row

pub rows_collected : (ts : List SqlType) (rows : List Row) → stored_rows ts rows ≡ collected (stored_row ts) rows
rows_collected ts [] = refl
rows_collected ts (row ∷ rows) = ap (λ r. and_then (stored_row ts row) (λ a. mapped (λ more. a ∷ more) r)) (rows_collected ts rows)

-- the values of a row beside the columns
abbrev pub paired : List Column → Row → List (Column × Datum)
paired columns vs = zip columns vs

abbrev pub storing : Column × Datum → Result Datum SqlState
storing p = stored p.0.kind p.1

pub row_collected : (columns : List Column) (vs : Row) → stored_row (kinds_of columns) vs ≡ collected storing (zip columns vs)
row_collected [] vs = refl
row_collected (c ∷ cs) [] = refl
row_collected (c ∷ cs) (v ∷ vs) = ap (λ r. and_then (stored c.kind v) (λ d. mapped (λ ds. d ∷ ds) r)) (row_collected cs vs)

pub length-paired : (columns : List Column) (vs : Row) → length vs ≡ length columns → length (zip columns vs) ≡ length columns
length-paired [] vs l = refl
length-paired (c ∷ cs) [] l = absurd (omega (arith, l))
length-paired (c ∷ cs) (v ∷ vs) l = let rest : length vs ≡ length cs = omega (arith, l) in ap suc (length-paired cs vs rest)

pub pair_at : (columns : List Column) (vs : Row) (i : ℕ) (c : Column) (v : Datum) (d : Column × Datum) → i < length columns → length vs ≡ length columns → c ≡ get_or columns i c → v ≡ get_or vs i v → get_or (zip columns vs) i d ≡ (c, v)
pair_at [] vs i c v d l k e f = absurd (omega arith)
pair_at (x ∷ cs) [] i c v d l k e f = absurd (omega (arith, k))
pair_at (x ∷ cs) (y ∷ vs) zero c v d l k e f = ap (λ z. (z, y)) (sym e) ∙ ap (λ z. (c, z)) (sym f)
pair_at (x ∷ cs) (y ∷ vs) (suc i) c v d l k e f = pair_at cs vs i c v d (omega arith) (omega (arith, k)) e f
