-- SELECT INTO: while values are retrieved, a warning may be pending.
use Rattle.std.proofs.Common.{◌≡◌, ℕ, suc, Bool, true, false, ◌||◌, List, [], ◌∷◌, slice_get, refl, ap, sym, subst, Option, Some, None, Result, Ok, Err}
use Rattle.std.specs.Prelude.{codes}
use Rattle.psm_sqlstate.specs.declared.state.SqlState.{SqlState}
use Rattle.psm_value.specs.declared.datum.Datum.{Datum}
use Rattle.psm_value.specs.declared.sqltype.SqlType.{SqlType}
use Rattle.psm_value.specs.Fetched.{fetched}
use Rattle.psm_exprcode.specs.declared.operand.Operand.{Operand}
use Rattle.psm_exprcode.specs.declared.operand.Operand.TheVariants.{Value}
use Rattle.psm_resolved.specs.declared.expr.ResolvedQuery.{ResolvedQuery}
use Rattle.psm_resolved.specs.declared.file.ResolvedFile.{ResolvedFile}
use Rattle.psm_resolved.specs.declared.file.ResolvedRoutine.{ResolvedRoutine}
use Rattle.psm_resolved.specs.declared.statement.ResolvedSimple.TheVariants as simples
use Rattle.psm_meaning.specs.Acts as acts
use Rattle.psm_meaning.specs.Acts.{Meaning}
use Rattle.psm_meaning.specs.Assigning.{retrieve, retrieve_all}
use Rattle.psm_meaning.specs.Cursors as meaning
use Rattle.psm_meaning.specs.Rows as trees
use Rattle.psm_meaning.specs.State.{EvalContext, State, with_variable}
use Rattle.psm_meaning.specs.Statements.{simple}
use Rattle.psm_code.specs.declared.code.RawCode.{RawCode}
use Rattle.psm_code.specs.declared.code.RawRoutine.{RawRoutine}
use Rattle.psm_code.specs.declared.instruction.Instruction.{Instruction}
use Rattle.psm_code.specs.declared.instruction.Instruction.TheVariants as instruction
use Rattle.psm_code.specs.Calling.{on_top}
use Rattle.psm_code.specs.Parts.{routine_at, slots_of}
use Rattle.psm_code.specs.Querying.{only_row, skipping}
use Rattle.psm_code.specs.Run.{losing, settled}
use Rattle.psm_code.specs.Run as code_rows
use Rattle.psm_code.specs.State as code_state
use Rattle.psm_code.specs.State.{Machine, Stepped, More, first_warning}
use Rattle.psm_code.specs.Steps as steps
use Rattle.psm_simulation.specs.Agreement.{Evaluates, IsReady, Spot, areas, machine}
use Rattle.psm_simulation.specs.Env.{Env, Raising, eval_context_of}
use Rattle.psm_simulation.specs.Expressions.{IsQuery}
use Rattle.psm_simulation.specs.Scheme.{Simple, Stores}
use Rattle.psm_simulation.specs.Simulation.{Evals}
use Rattle.psm_simulation.proofs.Answering.{Means, Takes, evaluates-asked}
use Rattle.psm_simulation.proofs.Doing.{Does, Site, at_line}
use Rattle.psm_simulation.proofs.Evaluating.{evaluates-from, evals-bind, evals-got}
use Rattle.psm_simulation.proofs.Runs.{after_line, leads-here, leads-line, leads-same}
use Rattle.psm_simulation.proofs.Simples.{does-stated, evals-cleared, evals-end}

-- ---- the machine at a line, with a warning that is pending

abbrev pub pending_at : Spot → ℕ → List Operand → Option SqlState → State → Stepped
pending_at spot pc os w st = More (record (machine spot pc os st) { pending = w })

-- the warning that is pending where a character was lost, after one that was pending before
abbrev pub losing_too : Bool → Option SqlState → Option SqlState
losing_too false w = w
losing_too true w = first_warning (codes "01004") w

first-stays : (s : SqlState) (w : Option SqlState) → first_warning s (first_warning s w) ≡ first_warning s w
first-stays s None = refl
first-stays s (Some t) = refl

losing-either : (lost more : Bool) (w : Option SqlState) → losing_too more (losing_too lost w) ≡ losing_too (lost || more) w
losing-either false more w = refl
losing-either true false w = refl
losing-either true true w = first-stays (codes "01004") w

-- ---- RETRIEVE

abbrev retrieving : ℕ → Option SqlType → steps.Act (Unit {0})
retrieving slot x =
    steps.◌>>=◌ (steps.present x) (λ t. steps.◌>>=◌ steps.pop (λ d. steps.◌>>=◌ (steps.tried (fetched t d)) (λ v. steps.◌>>◌ (steps.change (code_state.with_variable slot v.0)) (losing v.1))))

abbrev keeping : ℕ → Result (Datum × Bool) SqlState → steps.Act (Unit {0})
keeping slot v = steps.◌>>=◌ (steps.tried v) (λ w. steps.◌>>◌ (steps.change (code_state.with_variable slot w.0)) (losing w.1))

abbrev meant : ℕ → Datum → Option SqlType → acts.Act Bool
meant slot d x = acts.◌>>=◌ (acts.present x) (λ t. acts.◌>>=◌ (acts.tried (fetched t d)) (λ v. acts.◌>>◌ (acts.change (with_variable slot v.0)) (acts.got v.1)))

abbrev kept : ℕ → Result (Datum × Bool) SqlState → acts.Act Bool
kept slot v = acts.◌>>=◌ (acts.tried v) (λ w. acts.◌>>◌ (acts.change (with_variable slot w.0)) (acts.got w.1))

abbrev waiting : Spot → ℕ → List Operand → Option SqlState → State → Machine
waiting spot pc os w st = record (machine spot pc os st) { pending = w }

kept-evaluates : (code : RawCode) (r : RawRoutine) (k following : ℕ) (spot : Spot) (m : Meaning) (pc slot : ℕ) → Raising r k following pc (instruction.FetchStore slot) → (below : List Operand) (w : Option SqlState) (st : State) → IsReady code spot st → (v : Result (Datum × Bool) SqlState)
    → Evaluates code r k following spot (after_line code (keeping slot v) (waiting spot pc below w st)) (λ lost. pending_at spot (suc pc) below (losing_too lost w)) (kept slot v m st).given (kept slot v m st).state
kept-evaluates code r k following spot m pc slot l below w st d (Ok (v, false)) = (leads-here, d)
kept-evaluates code r k following spot m pc slot l below w st d (Ok (v, true)) = (leads-here, d)
kept-evaluates code r k following spot m pc slot l below w st d (Err s) = (record { pc = pc; operands = below; pending = w; line = _; there = l.there; context = refl; resume = refl; leads = leads-here }, d)

typed-evaluates : (code : RawCode) (r : RawRoutine) (k following : ℕ) (spot : Spot) (m : Meaning) (pc slot : ℕ) → Raising r k following pc (instruction.FetchStore slot) → (d : Datum) (below : List Operand) (w : Option SqlState) (st : State) → IsReady code spot st → (x : Option SqlType)
    → Evaluates code r k following spot (after_line code (retrieving slot x) (waiting spot pc (Value d ∷ below) w st)) (λ lost. pending_at spot (suc pc) below (losing_too lost w)) (meant slot d x m st).given (meant slot d x m st).state
typed-evaluates code r k following spot m pc slot l d below w st deep None = tt
typed-evaluates code r k following spot m pc slot l d below w st deep (Some t) = kept-evaluates code r k following spot m pc slot l below w st deep (fetched t d)

pub evals-retrieve : {code : RawCode} {r : RawRoutine} {k following : ℕ} {spot : Spot} {m : Meaning} (eval_context : EvalContext) → routine_at code spot.number ≡ Some r → slots_of r ≡ eval_context.routine.slots → {pc slot : ℕ} → Raising r k following pc (instruction.FetchStore slot) → (d : Datum) (below : List Operand)
    → (w : Option SqlState) → Evals code r k following spot m (retrieve eval_context slot d) (pending_at spot pc (Value d ∷ below) w) (λ lost. pending_at spot (suc pc) below (losing_too lost w))
evals-retrieve {code = code} {r = r} {k = k} {following = following} {spot = spot} {m = m} eval_context p same {pc = pc} {slot = slot} l d below w = record {
  by = λ st deep. let n = waiting spot pc (Value d ∷ below) w st in
      let one = ap (λ s. after_line code (retrieving slot (slice_get s slot)) n) same in
      evaluates-from code r k following spot (λ lost. pending_at spot (suc pc) below (losing_too lost w)) (leads-same (leads-line p l.there) one) (retrieve eval_context slot d m st).given (retrieve eval_context slot d m st).state
      (typed-evaluates code r k following spot m pc slot l d below w st deep (slice_get eval_context.routine.slots slot));
}

pub evals-retrieve_all : {code : RawCode} {r : RawRoutine} {k following : ℕ} {spot : Spot} {m : Meaning} (eval_context : EvalContext) → routine_at code spot.number ≡ Some r → slots_of r ≡ eval_context.routine.slots → (slots : List ℕ) (ds : List Datum) {pc end : ℕ}
    → Stores r k following (λ slot. instruction.FetchStore slot) slots pc end → (w : Option SqlState)
    → Evals code r k following spot m (retrieve_all eval_context slots ds) (pending_at spot pc (on_top ds []) w) (λ lost. pending_at spot end [] (losing_too lost w))
evals-retrieve_all {code = code} {r = r} {k = k} {following = following} {spot = spot} {m = m} eval_context p same [] [] {pc = pc} e w =
    subst (λ n. Evals code r k following spot m (retrieve_all eval_context [] []) (pending_at spot pc [] w) (λ lost. pending_at spot n [] (losing_too lost w))) e (evals-got {to = λ lost. pending_at spot pc [] (losing_too lost w)})
evals-retrieve_all eval_context p same [] (d ∷ ds) x w = record { by = λ st deep. tt }
evals-retrieve_all eval_context p same (slot ∷ slots) [] x w = record { by = λ st deep. tt }
evals-retrieve_all {code = code} {r = r} {k = k} {following = following} {spot = spot} {m = m} eval_context p same (slot ∷ slots) (d ∷ ds) {end = end} (l, others) w =
    evals-bind (evals-retrieve eval_context p same l d (on_top ds []) w) (λ lost.
    evals-bind (evals-retrieve_all eval_context p same slots ds others (losing_too lost w)) (λ more.
    subst (λ v. Evals code r k following spot m (acts.got (lost || more)) (pending_at spot end [] v) (λ lost. pending_at spot end [] (losing_too lost w))) (sym (losing-either lost more w))
    (evals-got {to = λ lost. pending_at spot end [] (losing_too lost w)})))

-- ---- WARN

-- the warning that is pending where nulls were skipped
abbrev pub skipping_as : Bool → Option SqlState
skipping_as false = None
skipping_as true = Some (codes "01003")

pub evals-warned : {code : RawCode} {r : RawRoutine} {k following : ℕ} {spot : Spot} {m : Meaning} → routine_at code spot.number ≡ Some r → {pc : ℕ} → Raising r k following pc instruction.Warn → (skipped lost : Bool)
    → Evals code r k following spot m (meaning.warned skipped lost) (pending_at spot pc [] (losing_too lost (skipping_as skipped))) (λ u. at_line spot (suc pc) [])
evals-warned p {pc = pc} l true true = record { by = λ st d. (record { pc = pc; operands = []; pending = Some (codes "01003"); line = _; there = l.there; context = refl; resume = refl; leads = leads-line p l.there }, d) }
evals-warned p {pc = pc} l true false = record { by = λ st d. (record { pc = pc; operands = []; pending = Some (codes "01003"); line = _; there = l.there; context = refl; resume = refl; leads = leads-line p l.there }, d) }
evals-warned p {pc = pc} l false true = record { by = λ st d. (record { pc = pc; operands = []; pending = Some (codes "01004"); line = _; there = l.there; context = refl; resume = refl; leads = leads-line p l.there }, d) }
evals-warned p l false false = record { by = λ st d. (leads-line p l.there, d) }

-- ---- SELECT INTO

pub put-values : (ds : List Datum) (n : Machine) → steps.put_values ds n ≡ record { given = steps.Got tt; machine = code_state.with_running (λ a. record a { operands = on_top ds a.operands }) n }
put-values [] n = refl
put-values (d ∷ ds) n = ap (λ came. steps.go_on came.given (λ u. steps.put_value d) came.machine) (put-values ds n)

-- what the line does with the answer, and what is meant to be done with it
abbrev selecting : List (List Datum) → Bool → steps.Act (Unit {0})
selecting rows skipped = steps.◌>>=◌ (only_row rows) (λ row. steps.◌>>◌ (skipping skipped) (steps.put_values row))

abbrev selected : EvalContext → List ℕ → List (List Datum) → Bool → acts.Act (Unit {0})
selected eval_context slots rows skipped = acts.◌>>=◌ (meaning.only_row rows) (λ row. acts.◌>>=◌ (retrieve_all eval_context slots row) (λ lost. meaning.warned skipped lost))

row-put : (code : RawCode) (spot : Spot) (pc : ℕ) (st : State) (row : List Datum) (skipped : Bool) → after_line code (selecting (row ∷ []) skipped) (machine spot pc [] st) ≡ pending_at spot (suc pc) (on_top row []) (skipping_as skipped) st
row-put code spot pc st row true =
    ap (λ came. let c = steps.go_on came.given (λ u. steps.got code_rows.fall_through) came.machine in settled code c.given c.machine) (put-values row (record (machine spot pc [] st) { pending = Some (codes "01003") }))
row-put code spot pc st row false = ap (λ came. let c = steps.go_on came.given (λ u. steps.got code_rows.fall_through) came.machine in settled code c.given c.machine) (put-values row (machine spot pc [] st))

select-evaluates : (code : RawCode) (r : RawRoutine) (k following : ℕ) (spot : Spot) (m : Meaning) (eval_context : EvalContext) → routine_at code spot.number ≡ Some r → slots_of r ≡ eval_context.routine.slots → (slots : List ℕ) (pc mid : ℕ) (i : Instruction) → Raising r k following pc i
    → Stores r k following (λ slot. instruction.FetchStore slot) slots (suc pc) mid → Raising r k following mid instruction.Warn → (st : State) → IsReady code spot st → (skipped : Bool) (rows : List (List Datum))
    → Evaluates code r k following spot (after_line code (selecting rows skipped) (machine spot pc [] st)) (λ u. at_line spot (suc mid) []) (selected eval_context slots rows skipped m st).given (selected eval_context slots rows skipped m st).state
select-evaluates code r k following spot m eval_context p same slots pc mid i l s w st d skipped [] = (record { pc = pc; operands = []; pending = None; line = _; there = l.there; context = refl; resume = refl; leads = leads-here }, d)
select-evaluates code r k following spot m eval_context p same slots pc mid i l s w st d skipped (row ∷ []) =
    let act : acts.Act (Unit {0}) = acts.◌>>=◌ (retrieve_all eval_context slots row) (λ lost. meaning.warned skipped lost) in
    evaluates-from code r k following spot (λ u. at_line spot (suc mid) []) (leads-same leads-here (row-put code spot pc st row skipped)) (act m st).given (act m st).state
    ((evals-bind (evals-retrieve_all eval_context p same slots row s (skipping_as skipped)) (λ lost. evals-warned p w skipped lost)).by st d)
select-evaluates code r k following spot m eval_context p same slots pc mid i l s w st d skipped (row ∷ other ∷ rows) = (record { pc = pc; operands = []; pending = None; line = _; there = l.there; context = refl; resume = refl; leads = leads-here }, d)

evals-select : {code : RawCode} {r : RawRoutine} {k following : ℕ} {spot : Spot} {m : Meaning} (eval_context : EvalContext) → routine_at code spot.number ≡ Some r → slots_of r ≡ eval_context.routine.slots → (query : ResolvedQuery) (n : ℕ) → IsQuery r n query → (slots : List ℕ) {pc mid : ℕ}
    → Raising r k following pc (instruction.Row n) → Stores r k following (λ slot. instruction.FetchStore slot) slots (suc pc) mid → Raising r k following mid instruction.Warn
    → Evals code r k following spot m (acts.◌>>=◌ (trees.answer_of query) (λ a. selected eval_context slots a.rows a.skipped)) (at_line spot pc []) (λ u. at_line spot (suc mid) [])
evals-select {code = code} {r = r} {k = k} {following = following} {spot = spot} {m = m} eval_context p same query n q slots {pc = pc} {mid = mid} l s w = record {
  by = λ st d.
      let to : Unit {0} → State → Stepped = λ u. at_line spot (suc mid) [] in
      let takes : Takes = λ a. selecting a.rows a.skipped in
      let means : Means (Unit {0}) = λ a. selected eval_context slots a.rows a.skipped in
      let act = acts.◌>>=◌ (trees.answer_of query) means in
      evaluates-from code r k following spot to (leads-line p l.there) (act m st).given (act m st).state
      (evaluates-asked code r k following spot m pc (instruction.Row n) l [] (Unit {0}) to takes means
      (λ st d a. select-evaluates code r k following spot m eval_context p same slots pc mid (instruction.Row n) l s w st d a.skipped a.rows) n query q st d);
}

pub does-select_into : {file : ResolvedFile} {code : RawCode} {routine : ResolvedRoutine} {r : RawRoutine} {m : Meaning} {env : Env} {spot : Spot} → Site file code routine r m env spot → (query : ResolvedQuery) (slots : List ℕ) {pc end : ℕ}
    → Simple file code routine r env end (simples.SelectInto query slots) pc → Does file code routine r m env spot end (simple file (eval_context_of routine env (areas spot.standing)) (simples.SelectInto query slots)) (at_line spot pc [])
does-select_into {routine = routine} {env = env} {spot = spot} site query slots (n, mid, clear, q, l, s, w, last) =
    let eval_context = eval_context_of routine env (areas spot.standing) in
    does-stated site (evals-bind (evals-cleared site.there clear []) (λ u. evals-end last (evals-select eval_context site.there site.stands.slots query n q slots l s w)))
