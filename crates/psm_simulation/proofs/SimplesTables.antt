-- INSERT, UPDATE and DELETE over their tables: the plan of a line changes a table as the statement does.
use Rattle.std.proofs.Common.{◌≡◌, Bool, ℕ, zero, suc, List, [], map, slice_get, refl, ap, sym, subst, Option, Some, None, option_map, Result, Ok, Err}
use Rattle.std.proofs.lemmas.Option.{slice_get-map}
use Rattle.psm_value.specs.declared.datum.Datum.{Datum}
use Rattle.psm_exprcode.specs.declared.op.Line.{Line}
use Rattle.psm_exprcode.specs.declared.operand.Operand.{Operand}
use Rattle.psm_exprcode.specs.declared.set_item.SetItem.{SetItem}
use Rattle.psm_table.specs.Changing.{Changed, Failure, Raised, OfTable, Schema, deleted, inserted, updated}
use Rattle.psm_table.specs.declared.definition.ForeignKey.{ForeignKey}
use Rattle.psm_table.specs.Keyed.{are_keyed_with, rows_in}
use Rattle.psm_table.specs.Table.{Contents}
use Rattle.psm_table.specs.declared.definition.TableDef.{TableDef}
use Rattle.psm_tablecode.specs.Codes as codes
use Rattle.psm_tablecode.specs.NewRows.{new_row}
use Rattle.psm_resolved.specs.declared.expr.ResolvedExpr.{ResolvedExpr}
use Rattle.psm_resolved.specs.declared.file.ResolvedFile.{ResolvedFile}
use Rattle.psm_resolved.specs.declared.file.ResolvedTable.{ResolvedTable}
use Rattle.psm_resolved.specs.declared.statement.ResolvedSet.{ResolvedSet}
use Rattle.psm_meaning.specs.Acts as acts
use Rattle.psm_meaning.specs.Acts.{Act, Meaning}
use Rattle.psm_meaning.specs.Data as meaning
use Rattle.psm_meaning.specs.Rows as trees
use Rattle.psm_meaning.specs.State.{State}
use Rattle.psm_code.specs.declared.code.CodeTable.{CodeTable}
use Rattle.psm_code.specs.declared.code.Plan.{Plan}
use Rattle.psm_code.specs.declared.code.RawCode.{RawCode}
use Rattle.psm_code.specs.declared.code.RawRoutine.{RawRoutine}
use Rattle.psm_code.specs.declared.instruction.Instruction.{Instruction}
use Rattle.psm_code.specs.declared.instruction.Instruction.TheVariants as instruction
use Rattle.psm_code.specs.Parts.{routine_at}
use Rattle.psm_code.specs.Plans as plans
use Rattle.psm_code.specs.Steps as steps
use Rattle.psm_simulation.specs.Agreement.{Evaluates, IsReady, Leads, Spot, machine}
use Rattle.psm_simulation.specs.Changes.{IsDelete, IsUpdate, SameAt, SameTable, TableStands}
use Rattle.psm_simulation.specs.Env.{Raising}
use Rattle.psm_simulation.proofs.Doing.{at_line}
use Rattle.psm_simulation.proofs.Runs.{after_line, leads-here, leads-line, leads-same}

-- ---- the plan of a line

abbrev planned : RawCode → RawRoutine → Option Plan → steps.Act (Unit {0})
planned code r x = steps.◌>>=◌ (steps.present x) (plans.done code r)

pub leads-plan : {code : RawCode} {r : RawRoutine} (spot : Spot) {k following pc n : ℕ} → routine_at code spot.number ≡ Some r → Raising r k following pc (instruction.Data n) → (p : Plan) → slice_get r.plans n ≡ Some p → (os : List Operand) (st : State)
    → Leads code (at_line spot pc os st) (after_line code (plans.done code r p) (machine spot pc os st))
leads-plan {code = code} {r = r} spot {pc = pc} at l p there os st = leads-same (leads-line at l.there) (ap (λ x. after_line code (planned code r x) (machine spot pc os st)) there)

-- ---- what the plan and the statement do with a table

abbrev Coded : Type 0
Coded = Schema (List Line) → Contents → steps.Act (Unit {0})

abbrev Meant : Type 0
Meant = Schema ResolvedExpr → Contents → Act (Unit {0})

abbrev coded_over : ℕ → Coded → Option (Schema (List Line)) → steps.Act (Unit {0})
coded_over table go s = steps.◌>>=◌ (steps.present s) (λ s. steps.◌>>=◌ (steps.table_now table) (go s))

abbrev meant_over : ℕ → Meant → Option (Schema ResolvedExpr) → Act (Unit {0})
meant_over table go s = acts.◌>>=◌ (acts.present s) (λ s. acts.◌>>=◌ (trees.table_now table) (go s))

abbrev pub insert_coded : ℕ → List ℕ → List (List Datum) → Coded
insert_coded table columns rows s t = steps.◌>>=◌ (plans.unless_failed s.def (inserted plans.plain s (map (new_row s.def columns) rows) t.rows)) (λ c. plans.leaves table t c.rows c.count)

abbrev pub insert_meant : ℕ → List ℕ → List (List Datum) → Meant
insert_meant table columns rows s t = acts.◌>>=◌ (meaning.unless_failed s.def (inserted meaning.plain s (map (new_row s.def columns) rows) t.rows)) (λ c. meaning.leaves table t c.rows c.count)

-- whether the FOREIGN KEY constraints hold among the tables of now with other rows in one
abbrev pub keyed_in : List ForeignKey → ℕ → State → List (List Datum) → Bool
keyed_in keys table st = are_keyed_with keys (rows_in st.tables) table

module _ (code : RawCode) (r : RawRoutine) (k following : ℕ) (spot : Spot) (m : Meaning) (pc : ℕ) (i : Instruction) (l : Raising r k following pc i) where
  abbrev Agrees : steps.Act (Unit {0}) → Act (Unit {0}) → State → Type 0
  Agrees coded act st = Evaluates code r k following spot (after_line code coded (machine spot pc [] st)) (λ u. at_line spot (suc pc) []) (act m st).given (act m st).state

  -- ---- the changed rows, or why nothing is changed

  failed-evaluates : {A : Type 0} (thens : A → steps.Act (Unit {0})) (means : A → Act (Unit {0})) → ((st : State) → IsReady code spot st → (a : A) → Agrees (thens a) (means a) st)
      → (st : State) → IsReady code spot st → (def : TableDef) (x : Result A Failure) → Agrees (steps.◌>>=◌ (plans.unless_failed def x) thens) (acts.◌>>=◌ (meaning.unless_failed def x) means) st
  failed-evaluates thens means h st d def (Ok a) = h st d a
  failed-evaluates thens means h st d def (Err (Raised s)) = (record { pc = pc; operands = []; pending = None; line = _; there = l.there; context = refl; resume = refl; leads = leads-here }, d)
  failed-evaluates thens means h st d def (Err (OfTable s)) = (record { pc = pc; operands = []; pending = None; line = _; there = l.there; context = refl; resume = refl; leads = leads-here }, d)

  -- the same result, under a definition that is the same
  pub same-evaluates : {A : Type 0} (thens : A → steps.Act (Unit {0})) (means : A → Act (Unit {0})) → ((st : State) → IsReady code spot st → (a : A) → Agrees (thens a) (means a) st)
      → (st : State) → IsReady code spot st → (own def : TableDef) → own ≡ def → (coded meant : Result A Failure) → coded ≡ meant → Agrees (steps.◌>>=◌ (plans.unless_failed own coded) thens) (acts.◌>>=◌ (meaning.unless_failed def meant) means) st
  same-evaluates thens means h st d own def e coded meant same =
      subst (λ q. Agrees (steps.◌>>=◌ (plans.unless_failed q coded) thens) (acts.◌>>=◌ (meaning.unless_failed def meant) means) st) (sym e)
      (subst (λ q. Agrees (steps.◌>>=◌ (plans.unless_failed def q) thens) (acts.◌>>=◌ (meaning.unless_failed def meant) means) st) (sym same)
      (failed-evaluates thens means h st d def meant))

  counted-evaluates : (table : ℕ) (t : Contents) (rows : List (List Datum)) (st : State) → IsReady code spot st → (count : ℕ)
      → Agrees (steps.◌>>◌ (plans.leaves table t rows count) (plans.some_row count)) (acts.◌>>◌ (meaning.leaves table t rows count) (meaning.some_row count)) st
  counted-evaluates table t rows st d zero = (record { pc = pc; operands = []; pending = None; line = _; there = l.there; context = refl; resume = refl; leads = leads-here }, d)
  counted-evaluates table t rows st d (suc count) = (leads-here, d)

  -- ---- the table

  pub found-evaluates : (coded : Contents → steps.Act (Unit {0})) (meant : Contents → Act (Unit {0})) → (st : State) → IsReady code spot st → ((c : Contents) → Agrees (coded c) (meant c) st) → (x : Option Contents)
      → Agrees (steps.◌>>=◌ (steps.present x) coded) (acts.◌>>=◌ (acts.present x) meant) st
  found-evaluates coded meant st d h None = tt
  found-evaluates coded meant st d h (Some c) = h c

  schema-evaluates : (table : ℕ) (keyed : List (List Datum) → Bool) (coded : Coded) (meant : Meant) (st : State) → IsReady code spot st → (t : Option ResolvedTable) (u : Option CodeTable) → SameTable t u
      → ((x : ResolvedTable) (y : CodeTable) → t ≡ Some x → u ≡ Some y → TableStands x y → (c : Contents) → Agrees (coded (plans.schema_of keyed y) c) (meant (meaning.schema_of keyed x) c) st)
      → Agrees (coded_over table coded (option_map (plans.schema_of keyed) u)) (meant_over table meant (option_map (meaning.schema_of keyed) t)) st
  schema-evaluates table keyed coded meant st d None None s h = tt
  schema-evaluates table keyed coded meant st d None (Some y) s h = absurd s
  schema-evaluates table keyed coded meant st d (Some x) None s h = absurd s
  schema-evaluates table keyed coded meant st d (Some x) (Some y) s h = found-evaluates (coded (plans.schema_of keyed y)) (meant (meaning.schema_of keyed x)) st d (h x y refl refl s) (slice_get st.tables table)

  at-evaluates : (file : ResolvedFile) (table : ℕ) (keyed : List (List Datum) → Bool) (coded : Coded) (meant : Meant) (st : State) → IsReady code spot st → SameTable (slice_get file.tables table) (slice_get code.tables table)
      → ((x : ResolvedTable) (y : CodeTable) → slice_get file.tables table ≡ Some x → slice_get code.tables table ≡ Some y → TableStands x y → (c : Contents) → Agrees (coded (plans.schema_of keyed y) c) (meant (meaning.schema_of keyed x) c) st)
      → Agrees (coded_over table coded (slice_get (map (plans.schema_of keyed) code.tables) table)) (meant_over table meant (slice_get (map (meaning.schema_of keyed) file.tables) table)) st
  at-evaluates file table keyed coded meant st d s h =
      subst (λ x. Agrees (coded_over table coded x) (meant_over table meant (slice_get (map (meaning.schema_of keyed) file.tables) table)) st) (sym (slice_get-map (plans.schema_of keyed) code.tables table))
      (subst (λ x. Agrees (coded_over table coded (option_map (plans.schema_of keyed) (slice_get code.tables table))) (meant_over table meant x) st) (sym (slice_get-map (meaning.schema_of keyed) file.tables table))
      (schema-evaluates table keyed coded meant st d (slice_get file.tables table) (slice_get code.tables table) s h))

  pub table-evaluates : (file : ResolvedFile) (table : ℕ) (coded : Coded) (meant : Meant) (st : State) → IsReady code spot st → SameAt file code table
      → ((x : ResolvedTable) (y : CodeTable) → slice_get file.tables table ≡ Some x → slice_get code.tables table ≡ Some y → TableStands x y → (c : Contents)
      → Agrees (coded (plans.schema_of (keyed_in file.keys table st) y) c) (meant (meaning.schema_of (keyed_in file.keys table st) x) c) st)
      → Agrees (coded_over table coded (slice_get (map (plans.schema_of (keyed_in code.keys table st)) code.tables) table)) (meant_over table meant (slice_get (map (meaning.schema_of (keyed_in file.keys table st)) file.tables) table)) st
  table-evaluates file table coded meant st d s h =
      subst (λ keys. Agrees (coded_over table coded (slice_get (map (plans.schema_of (keyed_in keys table st)) code.tables) table)) (meant_over table meant (slice_get (map (meaning.schema_of (keyed_in file.keys table st)) file.tables) table)) st) (sym s.0)
      (at-evaluates file table (keyed_in file.keys table st) coded meant st d s.1 h)

  -- ---- INSERT

  insert-evaluates : (table : ℕ) (columns : List ℕ) (rows : List (List Datum)) (st : State) → IsReady code spot st → (keyed : List (List Datum) → Bool) (x : ResolvedTable) (y : CodeTable) → TableStands x y → (c : Contents)
      → Agrees (insert_coded table columns rows (plans.schema_of keyed y) c) (insert_meant table columns rows (meaning.schema_of keyed x) c) st
  insert-evaluates table columns rows st d keyed x y s c =
      let act = insert_meant table columns rows (meaning.schema_of keyed x) c in
      let thens : Changed → steps.Act (Unit {0}) = λ q. plans.leaves table c q.rows q.count in
      let means : Changed → Act (Unit {0}) = λ q. meaning.leaves table c q.rows q.count in
      let new : TableDef → List (List Datum) = λ def. map (new_row def columns) rows in
      subst (λ def. Agrees (steps.◌>>=◌ (plans.unless_failed def (inserted plans.plain (plans.schema_of keyed y) (new def) c.rows)) thens) act st) (sym s.definition)
      (subst (λ q. Agrees (steps.◌>>=◌ (plans.unless_failed x.definition q) thens) act st) (sym (s.inserts keyed (new x.definition) c.rows))
      (failed-evaluates thens means (λ st d q. (leads-here, d)) st d x.definition (inserted meaning.plain (meaning.schema_of keyed x) (new x.definition) c.rows)))

  pub put-evaluates : (file : ResolvedFile) (table : ℕ) → SameAt file code table → (columns : List ℕ) (rows : List (List Datum)) (st : State) → IsReady code spot st
      → Agrees (plans.put_in code table columns rows) (meaning.put_in file table columns rows) st
  put-evaluates file table s columns rows st d =
      table-evaluates file table (insert_coded table columns rows) (insert_meant table columns rows) st d s (λ x y p q s c. insert-evaluates table columns rows st d (keyed_in file.keys table st) x y s c)

  -- ---- UPDATE and DELETE

  abbrev update_coded : ℕ → List SetItem → Option (List Line) → Coded
  update_coded table sets test s t = steps.◌>>=◌ (steps.read (λ m. m.running.variables)) (λ vars.
      steps.◌>>=◌ (plans.unless_failed s.def (updated (codes.over vars) plans.plain s (map plans.set_item sets) test t.rows)) (λ c. steps.◌>>◌ (plans.leaves table t c.rows c.count) (plans.some_row c.count)))

  abbrev update_meant : ℕ → List ResolvedSet → Option ResolvedExpr → Meant
  update_meant table sets test s t = acts.◌>>=◌ (acts.read (λ st. st.variables)) (λ vars.
      acts.◌>>=◌ (meaning.unless_failed s.def (updated (trees.over vars) meaning.plain s (map meaning.set_item sets) test t.rows)) (λ c. acts.◌>>◌ (meaning.leaves table t c.rows c.count) (meaning.some_row c.count)))

  abbrev delete_coded : ℕ → Option (List Line) → Coded
  delete_coded table test s t = steps.◌>>=◌ (steps.read (λ m. m.running.variables)) (λ vars.
      steps.◌>>=◌ (plans.unless_failed s.def (deleted (codes.over vars) plans.plain s test t.rows)) (λ c. steps.◌>>◌ (plans.leaves table t c.rows c.count) (plans.some_row c.count)))

  abbrev delete_meant : ℕ → Option ResolvedExpr → Meant
  delete_meant table test s t = acts.◌>>=◌ (acts.read (λ st. st.variables)) (λ vars.
      acts.◌>>=◌ (meaning.unless_failed s.def (deleted (trees.over vars) meaning.plain s test t.rows)) (λ c. acts.◌>>◌ (meaning.leaves table t c.rows c.count) (meaning.some_row c.count)))

  -- rows that are changed as the statement changes them, under a definition that is the same
  changed-evaluates : (table : ℕ) (t : Contents) (st : State) → IsReady code spot st → (own def : TableDef) → own ≡ def → (coded meant : Result Changed Failure) → coded ≡ meant
      → Agrees (steps.◌>>=◌ (plans.unless_failed own coded) (λ c. steps.◌>>◌ (plans.leaves table t c.rows c.count) (plans.some_row c.count)))
      (acts.◌>>=◌ (meaning.unless_failed def meant) (λ c. acts.◌>>◌ (meaning.leaves table t c.rows c.count) (meaning.some_row c.count))) st
  changed-evaluates table t st d own def e coded meant same =
      let thens : Changed → steps.Act (Unit {0}) = λ c. steps.◌>>◌ (plans.leaves table t c.rows c.count) (plans.some_row c.count) in
      let means : Changed → Act (Unit {0}) = λ c. acts.◌>>◌ (meaning.leaves table t c.rows c.count) (meaning.some_row c.count) in
      same-evaluates thens means (λ st d c. counted-evaluates table t c.rows st d c.count) st d own def e coded meant same

  pub update-evaluates : (file : ResolvedFile) (table : ℕ) → SameAt file code table → (sets : List ResolvedSet) (test : Option ResolvedExpr) (coded : List SetItem) (coded_test : Option (List Line))
      → IsUpdate file code table sets test coded coded_test → (st : State) → IsReady code spot st → Agrees (plans.update_rows code table coded coded_test) (meaning.update_rows file table sets test) st
  update-evaluates file table s sets test coded coded_test u st d =
      table-evaluates file table (update_coded table coded coded_test) (update_meant table sets test) st d s (λ x y p q e c.
      changed-evaluates table c st d y.definition x.definition e.definition (updated (codes.over st.variables) plans.plain (plans.schema_of (keyed_in file.keys table st) y) (map plans.set_item coded) coded_test c.rows)
      (updated (trees.over st.variables) meaning.plain (meaning.schema_of (keyed_in file.keys table st) x) (map meaning.set_item sets) test c.rows) (u.same x y p q (keyed_in file.keys table st) st.variables c.rows))

  pub delete-evaluates : (file : ResolvedFile) (table : ℕ) → SameAt file code table → (test : Option ResolvedExpr) (coded_test : Option (List Line))
      → IsDelete file code table test coded_test → (st : State) → IsReady code spot st → Agrees (plans.delete_rows code table coded_test) (meaning.delete_rows file table test) st
  delete-evaluates file table s test coded_test u st d =
      table-evaluates file table (delete_coded table coded_test) (delete_meant table test) st d s (λ x y p q e c.
      changed-evaluates table c st d y.definition x.definition e.definition (deleted (codes.over st.variables) plans.plain (plans.schema_of (keyed_in file.keys table st) y) coded_test c.rows)
      (deleted (trees.over st.variables) meaning.plain (meaning.schema_of (keyed_in file.keys table st) x) test c.rows) (u.same x y p q (keyed_in file.keys table st) st.variables c.rows))
