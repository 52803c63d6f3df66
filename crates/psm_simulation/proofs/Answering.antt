-- Lines that take the answer of a query.
use Rattle.std.proofs.Common.{◌≡◌, ℕ, List, slice_get, refl, sym, subst, Option, Some, None, Result, Ok, Err}
use Rattle.psm_sqlstate.specs.declared.state.SqlState.{SqlState}
use Rattle.psm_value.specs.declared.datum.Datum.{Datum}
use Rattle.psm_exprcode.specs.declared.operand.Operand.{Operand}
use Rattle.psm_exprcode.specs.declared.query.Query.{Query}
use Rattle.psm_table.specs.Queries.{Answer, answer}
use Rattle.psm_table.specs.Table.{Contents}
use Rattle.psm_tablecode.specs.Codes as codes
use Rattle.psm_resolved.specs.declared.expr.ResolvedQuery.{ResolvedQuery}
use Rattle.psm_meaning.specs.Acts as acts
use Rattle.psm_meaning.specs.Acts.{Meaning}
use Rattle.psm_meaning.specs.Rows as trees
use Rattle.psm_meaning.specs.State.{State}
use Rattle.psm_code.specs.declared.code.RawCode.{RawCode}
use Rattle.psm_code.specs.declared.code.RawRoutine.{RawRoutine}
use Rattle.psm_code.specs.declared.instruction.Instruction.{Instruction}
use Rattle.psm_code.specs.Querying.{answer_of}
use Rattle.psm_code.specs.State.{Stepped}
use Rattle.psm_code.specs.Steps as steps
use Rattle.psm_simulation.specs.Agreement.{Evaluates, IsReady, Spot, machine}
use Rattle.psm_simulation.specs.Env.{Raising}
use Rattle.psm_simulation.specs.Expressions.{IsQuery}
use Rattle.psm_simulation.proofs.Runs.{after_line, leads-here}

abbrev pub Takes : Type 0
Takes = Answer → steps.Act (Unit {0})

abbrev pub Means : Type 0 → Type 0
Means A = Answer → acts.Act A

abbrev Answers : Type 0
Answers = List Datum → List (List Datum) → Result Answer SqlState

-- a query's answer over a table, and what is made of it: of the line, and of the tree
abbrev answered : Takes → Answers → Option Contents → steps.Act (Unit {0})
answered takes answers t = steps.◌>>=◌ (steps.◌>>=◌ (steps.present t) (λ c. steps.◌>>=◌ (steps.read (λ m. m.running.variables)) (λ vars. steps.tried (answers vars c.rows)))) takes

abbrev pub asking : Takes → Option Query → steps.Act (Unit {0})
asking takes q = steps.◌>>=◌ (steps.present q) (λ query. steps.◌>>=◌ (answer_of query) takes)

abbrev meant : {A : Type 0} → Means A → Answers → Option Contents → acts.Act A
meant means answers t = acts.◌>>=◌ (acts.◌>>=◌ (acts.present t) (λ c. acts.◌>>=◌ (acts.read (λ st. st.variables)) (λ vars. acts.tried (answers vars c.rows)))) means

abbrev code_answers : Query → Answers
code_answers query vars rows = answer (codes.over vars) (codes.query_of query) rows

abbrev tree_answers : ResolvedQuery → Answers
tree_answers query vars rows = answer (trees.over vars) (trees.query_of query) rows

module _ (code : RawCode) (r : RawRoutine) (k following : ℕ) (spot : Spot) (m : Meaning) (pc : ℕ) (i : Instruction) (l : Raising r k following pc i) (below : List Operand) (A : Type 0) (to : A → State → Stepped) where
  -- what the line does with the answer agrees with what is meant
  abbrev pub TakesAs : Takes → Means A → Type 0
  TakesAs takes means = (st : State) → IsReady code spot st → (a : Answer) → Evaluates code r k following spot (after_line code (takes a) (machine spot pc below st)) to (means a m st).given (means a m st).state

  evaluates-tried : (takes : Takes) (means : Means A) → TakesAs takes means → (st : State) → IsReady code spot st → (a : Result Answer SqlState)
      → Evaluates code r k following spot (after_line code (steps.◌>>=◌ (steps.tried a) takes) (machine spot pc below st)) to (acts.◌>>=◌ (acts.tried a) means m st).given (acts.◌>>=◌ (acts.tried a) means m st).state
  evaluates-tried takes means h st d (Ok a) = h st d a
  evaluates-tried takes means h st d (Err s) = (record { pc = pc; operands = below; pending = None; line = _; there = l.there; context = refl; resume = refl; leads = leads-here }, d)

  evaluates-answered : (takes : Takes) (means : Means A) → TakesAs takes means → (answers meanings : Answers) → ((vars : List Datum) (rows : List (List Datum)) → answers vars rows ≡ meanings vars rows) → (st : State) → IsReady code spot st → (t : Option Contents)
      → Evaluates code r k following spot (after_line code (answered takes answers t) (machine spot pc below st)) to (meant means meanings t m st).given (meant means meanings t m st).state
  evaluates-answered takes means h answers meanings e st d None = tt
  evaluates-answered takes means h answers meanings e st d (Some c) =
      subst (λ a. Evaluates code r k following spot (after_line code (steps.◌>>=◌ (steps.tried a) takes) (machine spot pc below st)) to (meant means meanings (Some c) m st).given (meant means meanings (Some c) m st).state)
      (sym (e st.variables c.rows)) (evaluates-tried takes means h st d (meanings st.variables c.rows))

  pub evaluates-asked : (takes : Takes) (means : Means A) → TakesAs takes means → (n : ℕ) (query : ResolvedQuery) → IsQuery r n query → (st : State) → IsReady code spot st
      → Evaluates code r k following spot (after_line code (asking takes (slice_get r.queries n)) (machine spot pc below st)) to (acts.◌>>=◌ (trees.answer_of query) means m st).given (acts.◌>>=◌ (trees.answer_of query) means m st).state
  evaluates-asked takes means h n query q st d =
      let given = (acts.◌>>=◌ (trees.answer_of query) means m st).given in
      let left = (acts.◌>>=◌ (trees.answer_of query) means m st).state in
      subst (λ s. Evaluates code r k following spot (after_line code (asking takes s) (machine spot pc below st)) to given left) (sym q.there)
      (subst (λ table. Evaluates code r k following spot (after_line code (answered takes (code_answers q.code) (slice_get st.tables table)) (machine spot pc below st)) to given left) (sym q.table)
      (evaluates-answered takes means h (code_answers q.code) (tree_answers query) q.same st d (slice_get st.tables (trees.query_of query).table)))
