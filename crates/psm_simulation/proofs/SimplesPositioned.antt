-- UPDATE and DELETE of the row on which a cursor stands.
use Rattle.std.proofs.Common.{◌≡◌, ℕ, suc, Bool, true, false, List, [], map, slice_get, find, nat_eq, refl, sym, ◌∙◌, subst, Option, Some, None}
use Rattle.std.specs.Prelude.{codes}
use Rattle.psm_text.specs.declared.name.Name.{Name}
use Rattle.psm_value.specs.declared.datum.Datum.{Datum}
use Rattle.psm_cond.specs.Condition.{alone}
use Rattle.psm_cond.specs.Entry.{entry_of, name_text}
use Rattle.psm_exprcode.specs.declared.op.Line.{Line}
use Rattle.psm_exprcode.specs.declared.query.Query.{Query}
use Rattle.psm_exprcode.specs.declared.set_item.SetItem.{SetItem}
use Rattle.psm_table.specs.Changing.{Moved, Schema, deleted_at, updated_at}
use Rattle.psm_table.specs.Cursors.{Cursor, Closed, Plain, Insensitive, current}
use Rattle.psm_table.specs.Table.{Contents}
use Rattle.psm_tablecode.specs.Codes as row_codes
use Rattle.psm_resolved.specs.declared.expr.ResolvedExpr.{ResolvedExpr}
use Rattle.psm_resolved.specs.declared.file.ResolvedFile.{ResolvedFile}
use Rattle.psm_resolved.specs.declared.file.ResolvedTable.{ResolvedTable}
use Rattle.psm_resolved.specs.declared.statement.ResolvedCursor.{ResolvedCursor}
use Rattle.psm_resolved.specs.declared.statement.ResolvedSet.{ResolvedSet}
use Rattle.psm_meaning.specs.Acts as acts
use Rattle.psm_meaning.specs.Acts.{Meaning}
use Rattle.psm_meaning.specs.Cursors as cursors
use Rattle.psm_meaning.specs.Data as meaning
use Rattle.psm_meaning.specs.Rows as trees
use Rattle.psm_meaning.specs.State.{EvalContext, State}
use Rattle.psm_code.specs.declared.code.CodeCursor.{CodeCursor}
use Rattle.psm_code.specs.declared.code.CodeTable.{CodeTable}
use Rattle.psm_code.specs.declared.code.Plan.TheVariants as plan_of
use Rattle.psm_code.specs.declared.code.RawCode.{RawCode}
use Rattle.psm_code.specs.declared.code.RawRoutine.{RawRoutine}
use Rattle.psm_code.specs.declared.instruction.Instruction.{Instruction}
use Rattle.psm_code.specs.declared.instruction.Instruction.TheVariants as instruction
use Rattle.psm_code.specs.Parts.{routine_at}
use Rattle.psm_code.specs.Plans as plans
use Rattle.psm_code.specs.Querying as coded
use Rattle.psm_code.specs.Steps as steps
use Rattle.psm_simulation.specs.Agreement.{Evaluates, IsReady, Spot, machine, owns}
use Rattle.psm_simulation.specs.Changes.{IsDeleteAt, IsOver, IsUpdateAt, SameAt, TableStands}
use Rattle.psm_simulation.specs.Cursors.{IsCursor}
use Rattle.psm_simulation.specs.Env.{Raising}
use Rattle.psm_simulation.specs.Simulation.{Evals}
use Rattle.psm_simulation.proofs.Doing.{at_line}
use Rattle.psm_simulation.proofs.Evaluating.{evaluates-from}
use Rattle.psm_simulation.proofs.Moving.{deep-set}
use Rattle.psm_simulation.proofs.Runs.{after_line, leads-here}
use Rattle.psm_simulation.proofs.SimplesTables.{keyed_in, leads-plan, same-evaluates, table-evaluates}

module _ (code : RawCode) (r : RawRoutine) (k following : ℕ) (spot : Spot) (m : Meaning) (pc : ℕ) (i : Instruction) (l : Raising r k following pc i) (x : ResolvedCursor) (is : IsCursor r x) (owned : owns spot.standing x.number ≡ true) where
  abbrev Agrees : steps.Act (Unit {0}) → acts.Act (Unit {0}) → State → Type 0
  Agrees act means st = Evaluates code r k following spot (after_line code act (machine spot pc [] st)) (λ u. at_line spot (suc pc) []) (means m st).given (means m st).state

  -- ---- the row on which the cursor stands

  abbrev Going : Type 0
  Going = List Datum → steps.Act (Unit {0})

  abbrev Meant : Type 0
  Meant = List Datum → acts.Act (Unit {0})

  abbrev wrong_named : Name → steps.Act (List Datum)
  wrong_named name = steps.raises (alone (record (entry_of (codes "24000")) { cursor = name_text name }))

  wrong-evaluates : (go : Going) (means : Meant) (st : State) → IsReady code spot st → Agrees (steps.◌>>=◌ (coded.wrong_state is.code) go) (acts.◌>>=◌ (cursors.wrong_state x) means) st
  wrong-evaluates go means st d =
      subst (λ name. Agrees (steps.◌>>=◌ (wrong_named name) go) (acts.◌>>=◌ (cursors.wrong_state x) means) st) (sym is.name) (record { pc = pc; operands = []; pending = None; line = _; there = l.there; context = refl; resume = refl; leads = leads-here }, d)

  standing-evaluates : (go : Going) (means : Meant) (st : State) → IsReady code spot st → ((row : List Datum) → Agrees (go row) (means row) st) → (row : Option (List Datum))
      → Agrees (steps.◌>>=◌ (plans.standing_on is.code row) go) (acts.◌>>=◌ (meaning.standing_on x row) means) st
  standing-evaluates go means st d h None = wrong-evaluates go means st d
  standing-evaluates go means st d h (Some row) = h row

  row-evaluates : (t : Contents) (go : Cursor → Going) (means : Cursor → Meant) (st : State) → IsReady code spot st → ((c : Cursor) (row : List Datum) → Agrees (go c row) (means c row) st) → (c : Option Cursor)
      → Agrees (steps.◌>>=◌ (steps.present c) (λ c. steps.◌>>=◌ (plans.row_of_cursor is.code t c) (go c))) (acts.◌>>=◌ (acts.present c) (λ c. acts.◌>>=◌ (meaning.row_of_cursor x t c) (means c))) st
  row-evaluates t go means st d h None = tt
  row-evaluates t go means st d h (Some Closed) = wrong-evaluates (go Closed) (means Closed) st d
  row-evaluates t go means st d h (Some (Insensitive rows)) = wrong-evaluates (go (Insensitive rows)) (means (Insensitive rows)) st d
  row-evaluates t go means st d h (Some (Plain p vars)) = standing-evaluates (go (Plain p vars)) (means (Plain p vars)) st d (h (Plain p vars)) (current t.def.key t.rows p)

  -- the row is gone, or has another key
  left-evaluates : (b : Bool) (c : Cursor) (st : State) → IsReady code spot st → Agrees (plans.leave_row b x.number c) (meaning.leave_row b x c) st
  left-evaluates false c st d = (leads-here, d)
  left-evaluates true Closed st d = (leads-here, deep-set code r k following spot m pc i l x is owned Closed st d)
  left-evaluates true (Insensitive rows) st d = (leads-here, deep-set code r k following spot m pc i l x is owned (Insensitive rows) st d)
  left-evaluates true (Plain p vars) st d = (leads-here, deep-set code r k following spot m pc i l x is owned (meaning.left_by (Plain p vars)) st d)

  -- ---- the cursor of the code and its query, where they are known, and the cursor that the statement sees

  abbrev by_query : (ℕ → CodeCursor → steps.Act (Unit {0})) → CodeCursor → Option Query → steps.Act (Unit {0})
  by_query go y q = steps.◌>>=◌ (steps.present q) (λ query. go query.table y)

  abbrev by_cursor : (ℕ → CodeCursor → steps.Act (Unit {0})) → Option CodeCursor → steps.Act (Unit {0})
  by_cursor go c = steps.◌>>=◌ (steps.present c) (λ y. by_query go y (slice_get r.queries y.query))

  over-evaluates : (table : ℕ) → IsOver x table → (go : ℕ → CodeCursor → steps.Act (Unit {0})) (means : acts.Act (Unit {0})) (st : State) → Agrees (go table is.code) means st → Agrees (by_cursor go (slice_get r.cursors x.number)) means st
  over-evaluates table over go means st h =
      subst (λ c. Agrees (by_cursor go c) means st) (sym is.there)
      (subst (λ q. Agrees (by_query go is.code q) means st) (sym is.query.there)
      (subst (λ n. Agrees (go n is.code) means st) (sym (is.query.table ∙ over)) h))

  abbrev seen_in : List ResolvedCursor → (ResolvedCursor → acts.Act (Unit {0})) → acts.Act (Unit {0})
  seen_in xs means = acts.◌>>=◌ (acts.present (find (λ y. nat_eq y.number x.number) xs)) means

  seen-evaluates : (xs : List ResolvedCursor) → find (λ y. nat_eq y.number x.number) xs ≡ Some x → (go : steps.Act (Unit {0})) (means : ResolvedCursor → acts.Act (Unit {0})) (st : State) → Agrees go (means x) st → Agrees go (seen_in xs means) st
  seen-evaluates xs e go means st h = subst (λ q. Agrees go (acts.◌>>=◌ (acts.present q) means) st) (sym e) h

  -- ---- UPDATE

  abbrev update_row : ℕ → List SetItem → Schema (List Line) → Contents → Cursor → Going
  update_row table sets s t c row = steps.◌>>=◌ (steps.read (λ m. m.running.variables)) (λ vars.
      steps.◌>>=◌ (plans.unless_failed s.def (updated_at (row_codes.over vars) plans.plain s (map plans.set_item sets) row t.rows)) (λ moved. steps.◌>>◌ (plans.leaves table t moved.rows 1) (plans.leave_row moved.moved x.number c)))

  abbrev update_coded : List SetItem → ℕ → CodeCursor → Schema (List Line) → Contents → steps.Act (Unit {0})
  update_coded sets table y s t = steps.◌>>=◌ (coded.cursor_now x.number) (λ c. steps.◌>>=◌ (plans.row_of_cursor y t c) (update_row table sets s t c))

  abbrev update_row_meant : ℕ → List ResolvedSet → Schema ResolvedExpr → Contents → ResolvedCursor → Cursor → Meant
  update_row_meant table sets s t y c row = acts.◌>>=◌ (acts.read (λ st. st.variables)) (λ vars.
      acts.◌>>=◌ (meaning.unless_failed s.def (updated_at (trees.over vars) meaning.plain s (map meaning.set_item sets) row t.rows)) (λ moved. acts.◌>>◌ (meaning.leaves table t moved.rows 1) (meaning.leave_row moved.moved y c)))

  abbrev update_meant : ℕ → List ResolvedSet → Schema ResolvedExpr → Contents → ResolvedCursor → acts.Act (Unit {0})
  update_meant table sets s t y = acts.◌>>=◌ (cursors.cursor_now x.number) (λ c. acts.◌>>=◌ (meaning.row_of_cursor y t c) (update_row_meant table sets s t y c))

  update-row-evaluates : (file : ResolvedFile) (table : ℕ) (sets : List ResolvedSet) (items : List SetItem) → IsUpdateAt file code table sets items → (a : ResolvedTable) (b : CodeTable) → slice_get file.tables table ≡ Some a → slice_get code.tables table ≡ Some b → TableStands a b
      → (keyed : List (List Datum) → Bool) (t : Contents) (st : State) → IsReady code spot st → (c : Cursor) (row : List Datum) → Agrees (update_row table items (plans.schema_of keyed b) t c row) (update_row_meant table sets (meaning.schema_of keyed a) t x c row) st
  update-row-evaluates file table sets items u a b p q e keyed t st d c row =
      let thens : Moved → steps.Act (Unit {0}) = λ moved. steps.◌>>◌ (plans.leaves table t moved.rows 1) (plans.leave_row moved.moved x.number c) in
      let means : Moved → acts.Act (Unit {0}) = λ moved. acts.◌>>◌ (meaning.leaves table t moved.rows 1) (meaning.leave_row moved.moved x c) in
      same-evaluates code r k following spot m pc i l thens means (λ st d moved. left-evaluates moved.moved c (meaning.leaves table t moved.rows 1 m st).state d) st d b.definition a.definition e.definition
      (updated_at (row_codes.over st.variables) plans.plain (plans.schema_of keyed b) (map plans.set_item items) row t.rows) (updated_at (trees.over st.variables) meaning.plain (meaning.schema_of keyed a) (map meaning.set_item sets) row t.rows) (u.same a b p q keyed st.variables row t.rows)

  update-evaluates : (file : ResolvedFile) (eval_context : EvalContext) (table : ℕ) (sets : List ResolvedSet) (items : List SetItem) → SameAt file code table → find (λ y. nat_eq y.number x.number) eval_context.cursors ≡ Some x → IsOver x table
      → IsUpdateAt file code table sets items → (st : State) → IsReady code spot st → Agrees (plans.update_at code r x.number items) (meaning.update_at file eval_context table sets x.number) st
  update-evaluates file eval_context table sets items s first over u st d =
      let go : ℕ → CodeCursor → steps.Act (Unit {0}) = λ n y. steps.◌>>=◌ (plans.schema_at code n) (λ s. steps.◌>>=◌ (steps.table_now n) (update_coded items n y s)) in
      over-evaluates table over go (meaning.update_at file eval_context table sets x.number) st
      (table-evaluates code r k following spot m pc i l file table (update_coded items table is.code) (λ s t. seen_in eval_context.cursors (update_meant table sets s t)) st d s (λ a b p q e t.
      seen-evaluates eval_context.cursors first (update_coded items table is.code (plans.schema_of (keyed_in file.keys table st) b) t) (update_meant table sets (meaning.schema_of (keyed_in file.keys table st) a) t) st
      (row-evaluates t (update_row table items (plans.schema_of (keyed_in file.keys table st) b) t) (update_row_meant table sets (meaning.schema_of (keyed_in file.keys table st) a) t x) st d (update-row-evaluates file table sets items u a b p q e (keyed_in file.keys table st) t st d) (slice_get st.cursors x.number))))

  -- ---- DELETE

  abbrev delete_row : ℕ → Schema (List Line) → Contents → Cursor → Going
  delete_row table s t c row = steps.◌>>=◌ (plans.unless_failed s.def (deleted_at plans.plain s row t.rows)) (λ rows. steps.◌>>◌ (plans.leaves table t rows 1) (plans.leave_row true x.number c))

  abbrev delete_coded : ℕ → CodeCursor → Schema (List Line) → Contents → steps.Act (Unit {0})
  delete_coded table y s t = steps.◌>>=◌ (coded.cursor_now x.number) (λ c. steps.◌>>=◌ (plans.row_of_cursor y t c) (delete_row table s t c))

  abbrev delete_row_meant : ℕ → Schema ResolvedExpr → Contents → ResolvedCursor → Cursor → Meant
  delete_row_meant table s t y c row = acts.◌>>=◌ (meaning.unless_failed s.def (deleted_at meaning.plain s row t.rows)) (λ rows. acts.◌>>◌ (meaning.leaves table t rows 1) (meaning.leave_row true y c))

  abbrev delete_meant : ℕ → Schema ResolvedExpr → Contents → ResolvedCursor → acts.Act (Unit {0})
  delete_meant table s t y = acts.◌>>=◌ (cursors.cursor_now x.number) (λ c. acts.◌>>=◌ (meaning.row_of_cursor y t c) (delete_row_meant table s t y c))

  delete-row-evaluates : (file : ResolvedFile) (table : ℕ) → IsDeleteAt file code table → (a : ResolvedTable) (b : CodeTable) → slice_get file.tables table ≡ Some a → slice_get code.tables table ≡ Some b → TableStands a b
      → (keyed : List (List Datum) → Bool) (t : Contents) (st : State) → IsReady code spot st → (c : Cursor) (row : List Datum) → Agrees (delete_row table (plans.schema_of keyed b) t c row) (delete_row_meant table (meaning.schema_of keyed a) t x c row) st
  delete-row-evaluates file table u a b p q e keyed t st d c row =
      let thens : List (List Datum) → steps.Act (Unit {0}) = λ rows. steps.◌>>◌ (plans.leaves table t rows 1) (plans.leave_row true x.number c) in
      let means : List (List Datum) → acts.Act (Unit {0}) = λ rows. acts.◌>>◌ (meaning.leaves table t rows 1) (meaning.leave_row true x c) in
      same-evaluates code r k following spot m pc i l thens means (λ st d rows. left-evaluates true c (meaning.leaves table t rows 1 m st).state d) st d b.definition a.definition e.definition
      (deleted_at plans.plain (plans.schema_of keyed b) row t.rows) (deleted_at meaning.plain (meaning.schema_of keyed a) row t.rows) (u.same a b p q keyed row t.rows)

  delete-evaluates : (file : ResolvedFile) (eval_context : EvalContext) (table : ℕ) → SameAt file code table → find (λ y. nat_eq y.number x.number) eval_context.cursors ≡ Some x → IsOver x table
      → IsDeleteAt file code table → (st : State) → IsReady code spot st → Agrees (plans.delete_at code r x.number) (meaning.delete_at file eval_context table x.number) st
  delete-evaluates file eval_context table s first over u st d =
      let go : ℕ → CodeCursor → steps.Act (Unit {0}) = λ n y. steps.◌>>=◌ (plans.schema_at code n) (λ s. steps.◌>>=◌ (steps.table_now n) (delete_coded n y s)) in
      over-evaluates table over go (meaning.delete_at file eval_context table x.number) st
      (table-evaluates code r k following spot m pc i l file table (delete_coded table is.code) (λ s t. seen_in eval_context.cursors (delete_meant table s t)) st d s (λ a b p q e t.
      seen-evaluates eval_context.cursors first (delete_coded table is.code (plans.schema_of (keyed_in file.keys table st) b) t) (delete_meant table (meaning.schema_of (keyed_in file.keys table st) a) t) st
      (row-evaluates t (delete_row table (plans.schema_of (keyed_in file.keys table st) b) t) (delete_row_meant table (meaning.schema_of (keyed_in file.keys table st) a) t x) st d (delete-row-evaluates file table u a b p q e (keyed_in file.keys table st) t st d) (slice_get st.cursors x.number))))

-- ---- the line of a positioned statement

module _ (file : ResolvedFile) {code : RawCode} {r : RawRoutine} {k following : ℕ} {spot : Spot} {m : Meaning} (eval_context : EvalContext) (at : routine_at code spot.number ≡ Some r) where
  pub evals-update_at : (table : ℕ) (sets : List ResolvedSet) (items : List SetItem) (number : ℕ) (x : ResolvedCursor) → IsCursor r x → x.number ≡ number → owns spot.standing x.number ≡ true → find (λ y. nat_eq y.number number) eval_context.cursors ≡ Some x → IsOver x table
      → SameAt file code table → IsUpdateAt file code table sets items → {pc n : ℕ} → Raising r k following pc (instruction.Data n) → slice_get r.plans n ≡ Some (plan_of.UpdateAt number items)
      → Evals code r k following spot m (meaning.update_at file eval_context table sets number) (at_line spot pc []) (λ u. at_line spot (suc pc) [])
  evals-update_at table sets items number x is e owned first over s u {pc = pc} {n = n} l there =
      let by_number : find (λ y. nat_eq y.number x.number) eval_context.cursors ≡ Some x → slice_get r.plans n ≡ Some (plan_of.UpdateAt x.number items) → Evals code r k following spot m (meaning.update_at file eval_context table sets x.number) (at_line spot pc []) (λ u. at_line spot (suc pc) [])
      = λ first there. record {
        by = λ st d. let act = meaning.update_at file eval_context table sets x.number in
            evaluates-from code r k following spot (λ u. at_line spot (suc pc) []) (leads-plan spot at l (plan_of.UpdateAt x.number items) there [] st) (act m st).given (act m st).state
            (update-evaluates code r k following spot m pc (instruction.Data n) l x is owned file eval_context table sets items s first over u st d);
      } in
      subst (λ q. find (λ y. nat_eq y.number q) eval_context.cursors ≡ Some x → slice_get r.plans n ≡ Some (plan_of.UpdateAt q items) → Evals code r k following spot m (meaning.update_at file eval_context table sets q) (at_line spot pc []) (λ u. at_line spot (suc pc) [])) e by_number first there

  pub evals-delete_at : (table number : ℕ) (x : ResolvedCursor) → IsCursor r x → x.number ≡ number → owns spot.standing x.number ≡ true → find (λ y. nat_eq y.number number) eval_context.cursors ≡ Some x → IsOver x table
      → SameAt file code table → IsDeleteAt file code table
      → {pc n : ℕ} → Raising r k following pc (instruction.Data n) → slice_get r.plans n ≡ Some (plan_of.DeleteAt number) → Evals code r k following spot m (meaning.delete_at file eval_context table number) (at_line spot pc []) (λ u. at_line spot (suc pc) [])
  evals-delete_at table number x is e owned first over s u {pc = pc} {n = n} l there =
      let by_number : find (λ y. nat_eq y.number x.number) eval_context.cursors ≡ Some x → slice_get r.plans n ≡ Some (plan_of.DeleteAt x.number) → Evals code r k following spot m (meaning.delete_at file eval_context table x.number) (at_line spot pc []) (λ u. at_line spot (suc pc) [])
      = λ first there. record {
        by = λ st d. let act = meaning.delete_at file eval_context table x.number in
            evaluates-from code r k following spot (λ u. at_line spot (suc pc) []) (leads-plan spot at l (plan_of.DeleteAt x.number) there [] st) (act m st).given (act m st).state
            (delete-evaluates code r k following spot m pc (instruction.Data n) l x is owned file eval_context table s first over u st d);
      } in
      subst (λ q. find (λ y. nat_eq y.number q) eval_context.cursors ≡ Some x → slice_get r.plans n ≡ Some (plan_of.DeleteAt q) → Evals code r k following spot m (meaning.delete_at file eval_context table q) (at_line spot pc []) (λ u. at_line spot (suc pc) [])) e by_number first there
