-- Cursors that are opened, moved to their next row, and closed.
use Rattle.std.proofs.Common.{◌≡◌, ℕ, suc, Bool, true, false, List, [], ◌∷◌, slice_get, refl, sym, subst, Option, Some, None, Result, Ok, Err}
use Rattle.std.specs.Prelude.{codes}
use Rattle.psm_sqlstate.specs.declared.state.SqlState.{SqlState}
use Rattle.psm_text.specs.declared.name.Name.{Name}
use Rattle.psm_value.specs.declared.datum.Datum.{Datum}
use Rattle.psm_cond.specs.Condition.{alone}
use Rattle.psm_cond.specs.Entry.{entry_of, name_text}
use Rattle.psm_table.specs.Cursors.{Cursor, Closed, Plain, Insensitive, Position, advanced, before_first}
use Rattle.psm_table.specs.Evaluator.{values_of}
use Rattle.psm_table.specs.Queries as trees_of
use Rattle.psm_table.specs.Table.{Contents}
use Rattle.psm_exprcode.specs.declared.items.Items.{Items}
use Rattle.psm_exprcode.specs.declared.items.Items.TheVariants as items_of
use Rattle.psm_exprcode.specs.declared.query.Query.{Query}
use Rattle.psm_resolved.specs.declared.expr.ResolvedExpr.{ResolvedExpr}
use Rattle.psm_resolved.specs.declared.statement.ResolvedCursor.{ResolvedCursor}
use Rattle.psm_meaning.specs.Acts as acts
use Rattle.psm_meaning.specs.Acts.{Meaning}
use Rattle.psm_meaning.specs.Cursors as meaning
use Rattle.psm_meaning.specs.Rows as trees
use Rattle.psm_meaning.specs.State.{State, with_cursor}
use Rattle.psm_code.specs.declared.code.CodeCursor.{CodeCursor}
use Rattle.psm_code.specs.declared.code.RawCode.{RawCode}
use Rattle.psm_code.specs.declared.code.RawRoutine.{RawRoutine}
use Rattle.psm_code.specs.declared.instruction.Instruction.{Instruction}
use Rattle.psm_code.specs.Parts.{routine_at}
use Rattle.psm_code.specs.Querying as coded
use Rattle.psm_code.specs.Run.{Successor, settled}
use Rattle.psm_code.specs.State as code_state
use Rattle.psm_code.specs.State.{Stepped}
use Rattle.psm_code.specs.Steps as steps
use Rattle.psm_tablecode.specs.Codes as row_codes
use Rattle.psm_simulation.specs.Agreement.{Evaluates, IsReady, Spot, machine, owns}
use Rattle.psm_simulation.specs.Cursors.{IsCursor, SameItems}
use Rattle.psm_simulation.specs.Env.{Raising}
use Rattle.psm_simulation.proofs.Answering.{evaluates-asked}
use Rattle.psm_simulation.proofs.Closing.{all-set, others-set}
use Rattle.psm_simulation.proofs.Doing.{at_line}
use Rattle.psm_simulation.proofs.Runs.{after_line, leads-here}

module _ (code : RawCode) (r : RawRoutine) (k following : ℕ) (spot : Spot) (m : Meaning) (pc : ℕ) (i : Instruction) (l : Raising r k following pc i) (x : ResolvedCursor) (is : IsCursor r x) (owned : owns spot.standing x.number ≡ true) where
  -- the cursor is set, where the block that declares it is entered
  pub deep-set : (c : Cursor) (st : State) → IsReady code spot st → IsReady code spot (with_cursor x.number c st)
  deep-set c st d = (d.0, others-set (owns spot.standing) st.cursors x.number c owned d.1, all-set (routine_at code spot.number) st.cursors x.number c d.2)

  abbrev EvaluatesAs : steps.Act (Unit {0}) → acts.Act (Unit {0}) → State → Type 0
  EvaluatesAs act means st = Evaluates code r k following spot (after_line code act (machine spot pc [] st)) (λ u. at_line spot (suc pc) []) (means m st).given (means m st).state

  abbrev wrong_named : Name → steps.Act (Unit {0})
  wrong_named name = steps.raises (alone (record (entry_of (codes "24000")) { cursor = name_text name }))

  wrong-evaluates : (st : State) → IsReady code spot st → EvaluatesAs (coded.wrong_state is.code) (meaning.wrong_state x) st
  wrong-evaluates st d =
      subst (λ name. EvaluatesAs (wrong_named name) (meaning.wrong_state x) st) (sym is.name) (record { pc = pc; operands = []; pending = None; line = _; there = l.there; context = refl; resume = refl; leads = leads-here }, d)

  -- ---- OPEN

  open-as-evaluates : (b : Bool) (st : State) → IsReady code spot st → EvaluatesAs (steps.◌>>=◌ (coded.query_at r is.code.query) (λ query. coded.open_as b x.number query)) (meaning.open_as b x) st
  open-as-evaluates false st d =
      subst (λ q. EvaluatesAs (steps.◌>>=◌ (steps.present q) (λ query. coded.open_as false x.number query)) (meaning.open_as false x) st) (sym is.query.there) (leads-here, deep-set (Plain before_first st.variables) st d)
  open-as-evaluates true st d =
      evaluates-asked code r k following spot m pc i l [] (Unit {0}) (λ u. at_line spot (suc pc) []) (λ a. steps.change (code_state.with_cursor x.number (Insensitive a.rows))) (λ a. acts.change (with_cursor x.number (Insensitive a.rows)))
      (λ st d a. (leads-here, deep-set (Insensitive a.rows) st d)) is.code.query x.query is.query st d

  pub open-evaluates : (st : State) → IsReady code spot st → EvaluatesAs (steps.◌>>=◌ (coded.query_at r is.code.query) (λ query. coded.open_as is.code.insensitive x.number query)) (meaning.open_cursor x) st
  open-evaluates st d = subst (λ b. EvaluatesAs (steps.◌>>=◌ (coded.query_at r is.code.query) (λ query. coded.open_as b x.number query)) (meaning.open_cursor x) st) (sym is.insensitive) (open-as-evaluates x.insensitive st d)

  pub opened-evaluates : (st : State) → IsReady code spot st → (c : Option Cursor) → EvaluatesAs (steps.◌>>=◌ (steps.present c) (coded.opened r x.number is.code)) (acts.◌>>=◌ (acts.present c) (meaning.opened x)) st
  opened-evaluates st d None = tt
  opened-evaluates st d (Some Closed) = open-evaluates st d
  opened-evaluates st d (Some (Plain p vars)) = wrong-evaluates st d
  opened-evaluates st d (Some (Insensitive rows)) = wrong-evaluates st d

  -- ---- CLOSE

  pub closed-evaluates : (st : State) → IsReady code spot st → (c : Option Cursor) → EvaluatesAs (steps.◌>>=◌ (steps.present c) (coded.let_go x.number is.code)) (acts.◌>>=◌ (acts.present c) (meaning.let_go x)) st
  closed-evaluates st d None = tt
  closed-evaluates st d (Some Closed) = wrong-evaluates st d
  closed-evaluates st d (Some (Plain p vars)) = (leads-here, deep-set Closed st d)
  closed-evaluates st d (Some (Insensitive rows)) = (leads-here, deep-set Closed st d)

  -- ---- the next row, with which the machine goes on

  abbrev Row : Type 0
  Row = Option (List Datum)

  module _ (B : Type 0) (mid : Row → steps.Act B) (out : B → steps.Act Successor) where
    abbrev goes : steps.Act Row → State → Stepped
    goes act st = let c = steps.◌>>=◌ (steps.◌>>=◌ act mid) out (machine spot pc [] st) in settled code c.given c.machine

    abbrev RowEvaluates : steps.Act Row → acts.Act Row → State → Type 0
    RowEvaluates act means st = Evaluates code r k following spot (goes act st) (λ row. goes (steps.got row)) (means m st).given (means m st).state

    abbrev wrong_row : Name → steps.Act Row
    wrong_row name = steps.raises (alone (record (entry_of (codes "24000")) { cursor = name_text name }))

    values-evaluates : (st : State) → IsReady code spot st → (ds : Result (List Datum) SqlState) → RowEvaluates (steps.◌>>=◌ (steps.tried ds) (λ es. steps.got (Some es))) (acts.◌>>=◌ (acts.tried ds) (λ es. acts.got (Some es))) st
    values-evaluates st d (Ok ds) = (leads-here, d)
    values-evaluates st d (Err s) = (record { pc = pc; operands = []; pending = None; line = _; there = l.there; context = refl; resume = refl; leads = leads-here }, d)

    items-evaluates : (vars row : List Datum) (st : State) → IsReady code spot st → (a : Items) (b : trees_of.Items ResolvedExpr) → SameItems a b
        → RowEvaluates (steps.◌>>=◌ (coded.items_on a vars row) (λ es. steps.got (Some es))) (acts.◌>>=◌ (meaning.items_on b vars row) (λ es. acts.got (Some es))) st
    items-evaluates vars row st d (items_of.Rows es) (trees_of.Rows fs) same =
        subst (λ v. RowEvaluates (steps.◌>>=◌ (steps.tried v) (λ es. steps.got (Some es))) (acts.◌>>=◌ (acts.tried (values_of (trees.over vars) fs row)) (λ es. acts.got (Some es))) st) (sym (same vars row)) (values-evaluates st d (values_of (trees.over vars) fs row))
    items-evaluates vars row st d (items_of.Rows es) (trees_of.Sets sets) same = absurd same
    items-evaluates vars row st d (items_of.Sets sets) (trees_of.Rows fs) same = absurd same
    items-evaluates vars row st d (items_of.Sets sets) (trees_of.Sets others) same = tt

    found-evaluates : (vars : List Datum) (st : State) → IsReady code spot st → (row : Option (List Datum)) → RowEvaluates (coded.items_of_found is.query.code vars row) (meaning.items_of_found x.query vars row) st
    found-evaluates vars st d None = (leads-here, d)
    found-evaluates vars st d (Some row) = items-evaluates vars row st d is.query.code.items (trees.query_of x.query).items is.items

    abbrev moved : List Datum → Result (Row × Position) SqlState → steps.Act Row
    moved vars found = steps.◌>>=◌ (steps.tried found) (λ f. steps.◌>>◌ (steps.change (code_state.with_cursor x.number (Plain f.1 vars))) (coded.items_of_found is.query.code vars f.0))

    abbrev moved_as : List Datum → Result (Row × Position) SqlState → acts.Act Row
    moved_as vars found = acts.◌>>=◌ (acts.tried found) (λ f. acts.◌>>◌ (acts.change (with_cursor x.number (Plain f.1 vars))) (meaning.items_of_found x.query vars f.0))

    moved-evaluates : (vars : List Datum) (st : State) → IsReady code spot st → (found : Result (Row × Position) SqlState) → RowEvaluates (moved vars found) (moved_as vars found) st
    moved-evaluates vars st d (Ok f) = found-evaluates vars (with_cursor x.number (Plain f.1 vars) st) (deep-set (Plain f.1 vars) st d) f.0
    moved-evaluates vars st d (Err s) = (record { pc = pc; operands = []; pending = None; line = _; there = l.there; context = refl; resume = refl; leads = leads-here }, d)

    abbrev moving : Position → List Datum → Option Contents → steps.Act Row
    moving p vars t = steps.◌>>=◌ (steps.present t) (λ t. moved vars (advanced (row_codes.over vars) (row_codes.query_of is.query.code) t.def.key t.rows p))

    abbrev moving_as : Position → List Datum → Option Contents → acts.Act Row
    moving_as p vars t = acts.◌>>=◌ (acts.present t) (λ t. moved_as vars (advanced (trees.over vars) (trees.query_of x.query) t.def.key t.rows p))

    moving-evaluates : (p : Position) (vars : List Datum) (st : State) → IsReady code spot st → (t : Option Contents) → RowEvaluates (moving p vars t) (moving_as p vars t) st
    moving-evaluates p vars st d None = tt
    moving-evaluates p vars st d (Some t) =
        subst (λ f. RowEvaluates (moved vars f) (moving_as p vars (Some t)) st) (sym (is.moves vars t.def.key t.rows p)) (moved-evaluates vars st d (advanced (trees.over vars) (trees.query_of x.query) t.def.key t.rows p))

    -- the query of the cursor, where it is known
    abbrev of_query : Position → List Datum → Option Query → steps.Act Row
    of_query p vars q = steps.◌>>=◌ (steps.present q) (λ query. steps.◌>>=◌ (steps.table_now query.table) (λ t. steps.◌>>=◌ (steps.tried (advanced (row_codes.over vars) (row_codes.query_of query) t.def.key t.rows p))
        (λ f. steps.◌>>◌ (steps.change (code_state.with_cursor x.number (Plain f.1 vars))) (coded.items_of_found query vars f.0))))

    plain-evaluates : (p : Position) (vars : List Datum) (st : State) → IsReady code spot st → RowEvaluates (of_query p vars (slice_get r.queries is.code.query)) (meaning.next_of x (Plain p vars)) st
    plain-evaluates p vars st d =
        let table = (trees.query_of x.query).table in
        subst (λ q. RowEvaluates (of_query p vars q) (meaning.next_of x (Plain p vars)) st) (sym is.query.there)
        (subst (λ n. RowEvaluates (moving p vars (slice_get st.tables n)) (meaning.next_of x (Plain p vars)) st) (sym is.query.table) (moving-evaluates p vars st d (slice_get st.tables table)))

    next-of-evaluates : (st : State) → IsReady code spot st → (c : Option Cursor) → RowEvaluates (steps.◌>>=◌ (steps.present c) (coded.next_of r x.number is.code)) (acts.◌>>=◌ (acts.present c) (meaning.next_of x)) st
    next-of-evaluates st d None = tt
    next-of-evaluates st d (Some Closed) =
        subst (λ name. RowEvaluates (wrong_row name) (meaning.wrong_state x) st) (sym is.name) (record { pc = pc; operands = []; pending = None; line = _; there = l.there; context = refl; resume = refl; leads = leads-here }, d)
    next-of-evaluates st d (Some (Plain p vars)) = plain-evaluates p vars st d
    next-of-evaluates st d (Some (Insensitive [])) = (leads-here, d)
    next-of-evaluates st d (Some (Insensitive (row ∷ rows))) = (leads-here, deep-set (Insensitive rows) st d)

    -- the cursor of the code, where it is known
    abbrev next_by : Option CodeCursor → steps.Act Row
    next_by c = steps.◌>>=◌ (steps.present c) (λ y. steps.◌>>=◌ (coded.cursor_now x.number) (λ c. coded.next_of r x.number y c))

    pub next-evaluates : (st : State) → IsReady code spot st → RowEvaluates (coded.next r x.number) (meaning.next x) st
    next-evaluates st d = subst (λ c. RowEvaluates (next_by c) (meaning.next x) st) (sym is.there) (next-of-evaluates st d (slice_get st.cursors x.number))
