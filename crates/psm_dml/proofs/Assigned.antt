-- The row that assignments make of an old one.
use Rattle.std.proofs.Common.{◌≡◌, ℕ, zero, suc, ◌+◌, ◌<◌, List, [], ◌∷◌, length, get_or, drop, refl, ap, sym, subst, ◌∙◌, arith, Result, Ok, Err}
use Rattle.std.specs.Prelude.{map, slice_index_or, slice_set}
use Rattle.std.specs.List.{zip}
use Rattle.std.proofs.lemmas.List.{length-set}
use Rattle.std.proofs.lemmas.List.Elements.{All-cons, All-head, All-nil, All-tail}
use Rattle.psm_sqlstate.specs.declared.state.SqlState.{SqlState}
use Rattle.psm_value.specs.Answer.{Gives}
use Rattle.psm_value.specs.SqlType.{IsOfFamily}
use Rattle.psm_value.specs.Stored.{stored}
use Rattle.psm_value.specs.declared.datum.Datum.{Datum}
use Rattle.psm_value.specs.declared.fault.ValueFault.{ValueFault}
use Rattle.psm_value.specs.declared.fault.ValueFault.TheVariants.{Condition, Memory}
use Rattle.psm_value.specs.declared.sqltype.SqlType.{SqlType}
use Rattle.psm_value.specs.declared.sqltype.SqlType.TheVariants.{SmallInt}
use Rattle.psm_value.proofs.Stable.{stored-of_family}
use Rattle.psm_table.specs.declared.definition.Column.{Column}
use Rattle.psm_table.specs.declared.definition.TableDef.{TableDef}
use Rattle.psm_table.specs.Changing.{kind_of, new_values, set_row, with_values, SetItem}
use Rattle.psm_table.specs.Definition.{kinds_of, AreOfFamilies}
use Rattle.psm_table.specs.Evaluator.{and_then, collected, mapped, Evaluator}
use Rattle.psm_exprcode.specs.declared.op.Line.{Line}
use Rattle.psm_exprcode.specs.declared.set_item.SetItem as set_code
use Rattle.psm_exprcode.specs.Evaluated.{evaluated}
use Rattle.psm_tablecode.specs.Codes.{value_in}
use Rattle.psm_tablecode.proofs.Collecting.{collected-map, first_of}
use Rattle.psm_dml.specs.Changes.{row_set, set_of}
use Rattle.psm_row_changes.specs.Rows.{IsWhole}

abbrev Row : Type 0
Row = List Datum

-- ---- the row stays whole

-- a value of its family, in its column
families_set : (kinds : List SqlType) (row : Row) (i : ℕ) (d : Datum) → AreOfFamilies kinds row → IsOfFamily (slice_index_or kinds i SmallInt) d → AreOfFamilies kinds (slice_set row i d)
families_set [] row i d h k = All-nil (λ (p : SqlType × Datum). IsOfFamily p.0 p.1)
families_set (t ∷ ts) [] zero d h k = h
families_set (t ∷ ts) [] (suc i) d h k = h
families_set (t ∷ ts) (v ∷ vs) zero d h k = All-cons (λ (p : SqlType × Datum). IsOfFamily p.0 p.1) (t, d) (zip ts vs) k (All-tail (λ (p : SqlType × Datum). IsOfFamily p.0 p.1) (t, v) (zip ts vs) h)
families_set (t ∷ ts) (v ∷ vs) (suc i) d h k =
    All-cons (λ (p : SqlType × Datum). IsOfFamily p.0 p.1) (t, v) (zip ts (slice_set vs i d)) (All-head (λ (p : SqlType × Datum). IsOfFamily p.0 p.1) (t, v) (zip ts vs) h)
    (families_set ts vs i d (All-tail (λ (p : SqlType × Datum). IsOfFamily p.0 p.1) (t, v) (zip ts vs) h) k)

whole_set : (def : TableDef) (row : Row) (i : ℕ) (d : Datum) → IsWhole def row → IsOfFamily (kind_of def i) d → IsWhole def (slice_set row i d)
whole_set def row i d h k = record { long = length-set row i d ∙ h.long; families = families_set (kinds_of def.columns) row i d h.families k }

module _ {E : Type 0} (def : TableDef) where
  values_step : (s : SetItem E) (sets : List (SetItem E)) (v : Datum) (vs row r : Row) (d : Result Datum SqlState) → stored (kind_of def s.column) v ≡ d → IsWhole def row
      → ((q : Row) → IsWhole def q → with_values def sets vs q ≡ Ok r → IsWhole def r) → and_then d (λ e. with_values def sets vs (slice_set row s.column e)) ≡ Ok r → IsWhole def r
  values_step s sets v vs row r (Ok e) f h go g = go (slice_set row s.column e) (whole_set def row s.column e h (stored-of_family (kind_of def s.column) v e f)) g
  values_step s sets v vs row r (Err u) f h go g = cc

  values_whole : (sets : List (SetItem E)) (vs row r : Row) → IsWhole def row → with_values def sets vs row ≡ Ok r → IsWhole def r
  values_whole [] vs row r h e = let same : row ≡ r = cc in subst (IsWhole def) same h
  values_whole (s ∷ sets) [] row r h e = let same : row ≡ r = cc in subst (IsWhole def) same h
  values_whole (s ∷ sets) (v ∷ vs) row r h e = values_step s sets v vs row r (stored (kind_of def s.column) v) refl h (λ q k g. values_whole sets vs q r k g) e

  set_step : (sets : List (SetItem E)) (row r : Row) (n : Result Row SqlState) → IsWhole def row → and_then n (λ vs. with_values def sets vs row) ≡ Ok r → IsWhole def r
  set_step sets row r (Ok vs) h e = values_whole sets vs row r h e
  set_step sets row r (Err s) h e = cc

  pub set_whole : (ev : Evaluator E) (sets : List (SetItem E)) (row r : Row) → IsWhole def row → set_row ev def sets row ≡ Ok r → IsWhole def r
  set_whole ev sets row r h e = set_step sets row r (new_values ev sets row) h e

-- ---- one value after another

-- as many are taken as there are
taken_step : {A B : Type 0} (take : A → Result B SqlState) (a : A) (xs : List A) (ys : List B) (b : Result B SqlState) (r : Result (List B) SqlState) → ((zs : List B) → r ≡ Ok zs → length zs ≡ length xs)
    → and_then b (λ y. mapped (λ zs. y ∷ zs) r) ≡ Ok ys → length ys ≡ length (a ∷ xs)
taken_step take a xs ys (Ok y) (Ok zs) h e = let same : y ∷ zs ≡ ys = cc in ap length (sym same) ∙ ap suc (h zs refl)
taken_step take a xs ys (Ok y) (Err s) h e = cc
taken_step take a xs ys (Err s) r h e = cc

pub length-collected : {A B : Type 0} (take : A → Result B SqlState) (xs : List A) (ys : List B) → collected take xs ≡ Ok ys → length ys ≡ length xs
length-collected take [] ys e = let same : [] ≡ ys = cc in ap length (sym same)
length-collected take (a ∷ xs) ys e = taken_step take a xs ys (take a) (collected take xs) (λ zs f. length-collected take xs zs f) e

-- the type of a column that there is
pub kind_is : (def : TableDef) (i : ℕ) (c : Column) → i < length def.columns → c ≡ get_or def.columns i c → kind_of def i ≡ c.kind
kind_is def i c l e = kind_in def.columns i c l e where
  kind_in : (columns : List Column) (i : ℕ) (c : Column) → i < length columns → c ≡ get_or columns i c → slice_index_or (kinds_of columns) i SmallInt ≡ c.kind
  kind_in [] i c l e = absurd (omega arith)
  kind_in (x ∷ xs) zero c l e = ap (λ (k : Column). k.kind) (sym e)
  kind_in (x ∷ xs) (suc i) c l e = kind_in xs i c (omega arith) e

module _ {E S : Type 0} (item : S → SetItem E) (def : TableDef) (sets : List S) (values row : Row) where
  -- with the row so far, the other assignments make what all make
  abbrev pub Sets : ℕ → Row → Type 0
  Sets at made = with_values def (map item (drop at sets)) (drop at values) made ≡ with_values def (map item sets) values row

  module _ (at : ℕ) (s : S) (v : Datum) (made : Row) (l : at < length sets) (m : at < length values) (e : s ≡ get_or sets at s) (f : v ≡ get_or values at v) where
    rest_is : with_values def (map item (drop at sets)) (drop at values) made
        ≡ and_then (stored (kind_of def (item s).column) v) (λ d. with_values def (map item (drop (at + 1) sets)) (drop (at + 1) values) (slice_set made (item s).column d))
    rest_is = ap (λ l. with_values def (map item l) (drop at values) made) (first_of sets at s l e) ∙ ap (λ l. with_values def (map item (s ∷ drop (at + 1) sets)) l made) (first_of values at v m f)

    pub sets_next : (d : Datum) → stored (kind_of def (item s).column) v ≡ Ok d → Sets at made → Sets (at + 1) (slice_set made (item s).column d)
    sets_next d g h = sym (rest_is ∙ ap (λ r. and_then r (λ d. with_values def (map item (drop (at + 1) sets)) (drop (at + 1) values) (slice_set made (item s).column d))) g) ∙ h

    pub sets_fault : (fault : ValueFault) → Gives (stored (kind_of def (item s).column) v) (Err fault) → Sets at made → Gives (with_values def (map item sets) values row) (Err fault)
    sets_fault (Condition state) g h = sym h ∙ rest_is ∙ ap (λ r. and_then r (λ d. with_values def (map item (drop (at + 1) sets)) (drop (at + 1) values) (slice_set made (item s).column d))) g
    sets_fault Memory g h = tt

-- a condition of what comes first is that of both
pub fault_first : {A B : Type 0} (r : Result A SqlState) (go : A → Result B SqlState) (fault : ValueFault) → Gives r (Err fault) → (let both : Result B SqlState = and_then r go in Gives both (Err fault))
fault_first r go (Condition s) g = ap (λ x. and_then x go) g
fault_first r go Memory g = tt

-- the row that assignments make, by the values of their sources
pub row_set_by : (vars : List Datum) (def : TableDef) (sets : List set_code.SetItem) (row values : Row) → values ≡ row
    → row_set vars def sets row ≡ and_then (collected (λ (s : set_code.SetItem). value_in (evaluated s.source values vars)) sets) (λ vs. with_values def (map set_of sets) vs row)
row_set_by vars def sets row values e =
    ap (λ r. and_then r (λ vs. with_values def (map set_of sets) vs row))
    (collected-map (λ (s : SetItem (List Line)). value_in (evaluated s.source row vars)) set_of sets ∙ ap (λ (v : Row). collected (λ (s : set_code.SetItem). value_in (evaluated s.source v vars)) sets) (sym e))
