-- UPDATE by the changes of the rows that meet its test.
use Rattle.std.proofs.Common.{◌≡◌, ℕ, ◌+◌, ◌≤◌, Bool, List, [], ◌++◌, length, get_or, refl, ap, sym, subst, ◌∙◌, arith, Option, Some, Result, Ok, Err}
use Rattle.std.specs.Prelude.{All, IfSome, map, slice_get}
use Rattle.std.proofs.lemmas.List.{length-map}
use Rattle.std.proofs.lemmas.List.Elements.{All-map}
use Rattle.psm_sqlstate.specs.declared.state.SqlState.{SqlState}
use Rattle.psm_cond.specs.declared.fault.DataFault.{DataFault}
use Rattle.psm_exprcode.specs.declared.op.Line.{Line}
use Rattle.psm_exprcode.specs.declared.set_item.SetItem as set_code
use Rattle.psm_value.specs.declared.datum.Datum.{Datum}
use Rattle.psm_value.specs.declared.datum.Datum.TheVariants.{Null}
use Rattle.psm_table.specs.declared.definition.TableDef.{TableDef}
use Rattle.psm_table.specs.Changing.{counting, divided, ended, then_of, updated, Changed, Division, Failure, IsLegal, Raised}
use Rattle.psm_table.specs.Definition.{IsKey, IsRow}
use Rattle.psm_table.specs.Evaluator.{mapped, test_of, Evaluator}
use Rattle.psm_table.specs.Key.{values_at}
use Rattle.psm_table.specs.Queries.{walked}
use Rattle.psm_table.specs.Rows.{IsAscending}
use Rattle.psm_table.specs.Table.{most_rows, Contents}
use Rattle.psm_table.proofs.Legal.{by_division, legal_left}
use Rattle.psm_tablecode.specs.Codes.{over}
use Rattle.psm_dml.specs.Changes.{changing, row_set, set_of}
use Rattle.psm_dml.specs.declared.planning.Change.{Change}
use Rattle.psm_dml.specs.Ends.{schema_of, schema_with, Ends}
use Rattle.psm_row_changes.specs.Rows.{without_keys, IsWhole}
use Rattle.psm_dml.proofs.Assigned.{set_whole}
use Rattle.psm_row_changes.proofs.Effects.{said, there}
use Rattle.psm_dml.proofs.Planned.{as_division, divided_by}
use Rattle.psm_dml.proofs.Walked.{walked-all}

abbrev Row : Type 0
Row = List Datum

abbrev pub keys_of_changes : List Change → List (List Datum)
keys_of_changes cs = map (λ (c : Change). c.key) cs

abbrev pub rows_of_changes : List Change → List Row
rows_of_changes cs = map (λ (c : Change). c.made) cs

-- each row is either left or made anew
pub divided_count : {E : Type 0} (ev : Evaluator E) (test : Option E) (make : Row → Result Row SqlState) (rows : List Row) (p : Division) → divided ev test make rows ≡ Ok p → length p.left + length p.made ≡ length rows
divided_count ev test make = by_division ev test make (λ rows p. length p.left + length p.made ≡ length rows) refl
    (λ row rows p q. omega (arith, q)) (λ row new rows p e q. omega (arith, q))

-- what the changes of some rows of a table leave
module _ (checks : List (List Line)) (c : Contents) (ev : Evaluator (List Line)) (test : Option (List Line)) (make : Row → Result Row SqlState) (up : IsAscending c.def.key c.rows)
    (cs : List Change) (w : walked (test_of ev test) (changing c.def.key make) c.rows ≡ Ok cs) where
  abbrev division : Division
  division = as_division c.def.key ev test make c.rows cs

  pub division_is : divided ev test make c.rows ≡ Ok division
  division_is = divided_by c.def.key ev test make c.rows up ∙ ap (mapped (as_division c.def.key ev test make c.rows)) w

  pub changed_few : length c.rows ≤ most_rows → length (without_keys (keys_of_changes cs) c).rows + length (rows_of_changes cs) ≤ most_rows
  changed_few l = omega (arith, l, divided_count ev test make c.rows division division_is)

  pub changed_legal : IsLegal (over []) (schema_of c.def checks) c.rows → IsLegal (over []) (schema_of c.def checks) (without_keys (keys_of_changes cs) c).rows
  changed_legal h = legal_left ev (over []) (schema_of c.def checks) test make c.rows division division_is h

  key_step : (row : Row) (m : Result Row SqlState) (a : Change) → mapped (λ new. record { key = values_at c.def.key row; made = new }) m ≡ Ok a → IsKey c.def a.key
  key_step row (Ok new) a e =
      let one : Change = record { key = values_at c.def.key row; made = new } in
      let same : one ≡ a = cc in
      subst (λ (d : Change). IsKey c.def d.key) same (length-map c.def.key (λ i. get_or row i Null))
  key_step row (Err s) a e = cc

  pub changed_keys : All (IsRow c.def) c.rows → All (IsKey c.def) (keys_of_changes cs)
  changed_keys fit =
      All-map (IsKey c.def) (λ (d : Change). d.key) cs
      (walked-all (test_of ev test) (changing c.def.key make) (IsRow c.def) (λ (d : Change). IsKey c.def d.key) (λ row a e p. key_step row (make row) a e) c.rows cs w fit)

  module _ (whole : (row new : Row) → IsRow c.def row → make row ≡ Ok new → IsWhole c.def new) where
    made_step : (row : Row) (m : Result Row SqlState) (a : Change) → make row ≡ m → IsRow c.def row → mapped (λ new. record { key = values_at c.def.key row; made = new }) m ≡ Ok a → IsWhole c.def a.made
    made_step row (Ok new) a f p e =
        let one : Change = record { key = values_at c.def.key row; made = new } in
        let same : one ≡ a = cc in
        subst (λ (d : Change). IsWhole c.def d.made) same (whole row new p f)
    made_step row (Err s) a f p e = cc

    pub changed_whole : All (IsRow c.def) c.rows → All (IsWhole c.def) (rows_of_changes cs)
    changed_whole fit =
        All-map (IsWhole c.def) (λ (d : Change). d.made) cs
        (walked-all (test_of ev test) (changing c.def.key make) (IsRow c.def) (λ (d : Change). IsWhole c.def d.made) (λ row a e p. made_step row (make row) a refl p e) c.rows cs w fit)

-- a row that assignments make of one of the table
pub row_set_whole : (def : TableDef) (vars : List Datum) (sets : List set_code.SetItem) (row new : Row) → IsRow def row → row_set vars def sets row ≡ Ok new → IsWhole def new
row_set_whole def vars sets row new fit e = set_whole def (over vars) (map set_of sets) row new (record { long = fit.long; families = fit.families }) e

module _ (checks : List (List Line)) (keyed : List Row → Bool) (sets : List set_code.SetItem) (test : Option (List Line)) (vars : List Datum) where
  abbrev pub update_of : Contents → Result Changed Failure
  update_of x = updated (over vars) (over []) (schema_with keyed x.def checks) (map set_of sets) test x.rows

  module _ (c : Contents) (up : IsAscending c.def.key c.rows) where
    abbrev make : Row → Result Row SqlState
    make = row_set vars c.def sets

    abbrev walk : Result (List Change) SqlState
    walk = walked (test_of (over vars) test) (changing c.def.key make) c.rows

    abbrev go : Division → Result Changed Failure
    go p = counting (length p.made) (ended (over []) (schema_with keyed c.def checks) (p.left ++ p.made))

    pub update_raises : (s : SqlState) → walk ≡ Err s → update_of c ≡ Err (Raised s)
    update_raises s e =
        ap (λ r. then_of r go) (divided_by c.def.key (over vars) test make c.rows up)
        ∙ ap (λ r. then_of (mapped (as_division c.def.key (over vars) test make c.rows) r) go) e

    module _ (cs : List Change) (w : walk ≡ Ok cs) where
      update_as : update_of c ≡ counting (length (rows_of_changes cs)) (ended (over []) (schema_with keyed c.def checks) ((without_keys (keys_of_changes cs) c).rows ++ rows_of_changes cs))
      update_as = ap (λ r. then_of r go) (division_is checks c (over vars) test make up cs w)

      pub update_ends : (old new : List Contents) (t : ℕ) (keys : List (List Datum)) (rows : List Row) (result : Result ℕ DataFault) → slice_get old t ≡ Some c → keys ≡ keys_of_changes cs → rows ≡ rows_of_changes cs
          → IfSome (slice_get old t) (λ x. Ends x (counting (length rows) (ended (over []) (schema_with keyed x.def checks) ((without_keys keys x).rows ++ rows))) old t new result)
          → IfSome (slice_get old t) (λ x. Ends x (update_of x) old t new result)
      update_ends old new t keys rows result here k r h =
          let ended_so = there (λ x. Ends x (counting (length rows) (ended (over []) (schema_with keyed x.def checks) ((without_keys keys x).rows ++ rows))) old t new result) (slice_get old t) c here h in
          let expected : counting (length rows) (ended (over []) (schema_with keyed c.def checks) ((without_keys keys c).rows ++ rows)) ≡ update_of c =
          ap (λ l. counting (length l) (ended (over []) (schema_with keyed c.def checks) ((without_keys keys c).rows ++ l))) r
          ∙ ap (λ l. counting (length (rows_of_changes cs)) (ended (over []) (schema_with keyed c.def checks) ((without_keys l c).rows ++ rows_of_changes cs))) k
          ∙ sym update_as in
          said (λ x. Ends x (update_of x) old t new result) (slice_get old t) c here (subst (λ d. Ends c d old t new result) expected ended_so)
