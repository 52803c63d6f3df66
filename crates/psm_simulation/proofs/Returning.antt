-- How a routine ends, and what comes of it where it was called.
use Rattle.std.proofs.Common.{◌≡◌, ℕ, suc, List, [], ◌∷◌, refl, ap, sym, ◌∙◌, Some, None}
use Rattle.std.specs.Prelude.{codes}
use Rattle.psm_sqlstate.specs.declared.state.SqlState.{SqlState}
use Rattle.psm_value.specs.declared.datum.Datum.{Datum}
use Rattle.psm_value.specs.declared.sqltype.SqlType.{SqlType}
use Rattle.psm_cond.specs.Area.{Diagnostics, clear}
use Rattle.psm_cond.specs.Condition.{Entries, by_state}
use Rattle.psm_exprcode.specs.declared.operand.Operand.{Operand}
use Rattle.psm_exprcode.specs.declared.operand.Operand.TheVariants.{Value}
use Rattle.psm_table.specs.Table.{Contents}
use Rattle.psm_resolved.specs.declared.file.ResolvedFile.{ResolvedFile}
use Rattle.psm_resolved.specs.declared.file.ResolvedRoutine.{ResolvedRoutine}
use Rattle.psm_meaning.specs.Acts as meaning
use Rattle.psm_meaning.specs.Acts.{Act, Do, Meaning, Outcome, Normal, Leave, Iterate, Return, Raised, Away, Stopped, of_state}
use Rattle.psm_meaning.specs.Calls.{Ended, apart, begun, body_eval_context, ending, result_of, run_body}
use Rattle.psm_meaning.specs.State.{State, cleared, returned_to}
use Rattle.psm_code.specs.Calling as coded
use Rattle.psm_code.specs.declared.code.RawCode.{RawCode}
use Rattle.psm_code.specs.declared.code.RawRoutine.{RawRoutine}
use Rattle.psm_code.specs.declared.lines.CodeLine.{CodeLine}
use Rattle.psm_code.specs.Parts.{line_at, routine_at}
use Rattle.psm_code.specs.Raising.{asked, asked_at, raised, raised_in}
use Rattle.psm_code.specs.Run.{done, settled}
use Rattle.psm_code.specs.State as code_state
use Rattle.psm_code.specs.State.{Activation, Machine, Stepped, More}
use Rattle.psm_simulation.proofs.Closing.{all-begin, all-closed}
use Rattle.psm_simulation.specs.Agreement.{Evaluates, Fits, IsReady, Leads, LeavesBy, Meets, RaisedAt, Returns, Spot, machine, raised_outside}
use Rattle.psm_simulation.specs.Env.{outermost}
use Rattle.psm_simulation.specs.Simulation.{RoutineStands, Simulates, last_instruction}
use Rattle.psm_simulation.proofs.Calling.{caller, within}
use Rattle.psm_simulation.proofs.Doing.{at_line}
use Rattle.psm_simulation.proofs.Landing.{raised-asked}
use Rattle.psm_simulation.proofs.Runs.{leads-line, leads-same, leads-to}

-- ---- machines that differ in nothing

same-rest : (last : Machine) (a : Activation) (callers : List Activation) (area : Diagnostics) (turns : ℕ) (tables : List Contents) → last.area ≡ area → last.pending ≡ None → last.turns ≡ turns → last.tables ≡ tables
    → record last { running = a; callers = callers } ≡ record { running = a; callers = callers; area = area; pending = None; turns = turns; tables = tables }
same-rest last a callers area turns tables e p t x =
    ap (λ y. record last { running = a; callers = callers; area = y }) e
    ∙ ap (λ y. record last { running = a; callers = callers; area = area; pending = y }) p
    ∙ ap (λ y. record last { running = a; callers = callers; area = area; pending = None; turns = y }) t
    ∙ ap (λ y. record { running = a; callers = callers; area = area; pending = None; turns = turns; tables = y }) x

-- the area loses its entries where a condition is raised
raised-over : (code : RawCode) (c : Entries) (m : Machine) (e : Entries) (r : RawRoutine) (l : CodeLine) → routine_at code m.running.routine ≡ Some r → line_at r m.running.line ≡ Some l
    → raised code c (record m { area = record m.area { entries = e } }) ≡ raised code c m
raised-over code c m e r l p q =
    let n : Machine = record m { area = record m.area { entries = e } } in
    let outside = raised_outside code c m.callers in
    raised-asked code c m.callers n ∙ ap (λ x. asked x c outside n) p ∙ ap (λ x. asked_at r x c outside n) q
    ∙ sym (raised-asked code c m.callers m ∙ ap (λ x. asked x c outside m) p ∙ ap (λ x. asked_at r x c outside m) q)

-- ---- the body of a routine

module _ (file : ResolvedFile) (code : RawCode) (r : RawRoutine) (k following : ℕ) (spot : Spot) (m : Meaning) (there : routine_at code spot.number ≡ Some r) (pc : ℕ) (line : CodeLine) (here : line_at r pc ≡ Some line) (context : line.context ≡ k) (resume : line.resume ≡ Some following) (below : List Operand) where
  -- an exception that leaves is raised at the call
  left-raised : (n : ℕ) (now : State) (from : Stepped) (c : Entries) (st : State) → LeavesBy code (within spot n pc below now) from c st → RaisedAt code r k following spot from (by_state c) (returned_to now st)
  left-raised n now from c st x = record {
    pc = pc;
    operands = below;
    pending = None;
    line = line;
    there = here;
    context = context;
    resume = resume;
    leads = leads-same x.leads (ap (raised_in code (by_state c) spot.callers) (same-rest x.last (caller spot pc below now) spot.callers st.area st.turns st.tables x.area x.pending x.turns x.tables));
  }

  -- the body, with what comes after it
  pub body-evaluates : (n : ℕ) (callee : RawRoutine) (routine : ResolvedRoutine) (last : ℕ) (now : State) → IsReady code spot now → {B : Type 0} (to : B → State → Stepped) (out : Ended → Act B) (from : Stepped)
      → ((st : State) → Leads code from (at_line (within spot n pc below now) last [] st) → Evaluates code r k following spot from to (out (record { returned = None; variables = st.variables }) m (returned_to now st)).given (out (record { returned = None; variables = st.variables }) m (returned_to now st)).state)
      → ((d : Datum) (st : State) → Returns code (within spot n pc below now) from d st → Evaluates code r k following spot from to (out (record { returned = Some d; variables = st.variables }) m (returned_to now st)).given (out (record { returned = Some d; variables = st.variables }) m (returned_to now st)).state)
      → (o : Outcome) (st : State) → Meets file code routine callee outermost (within spot n pc below now) from last o st
      → Evaluates code r k following spot from to (meaning.go_on (ending o m st).given out m (returned_to now (ending o m st).state)).given (meaning.go_on (ending o m st).given out m (returned_to now (ending o m st).state)).state
  body-evaluates n callee routine last now d to out from normal return Normal st x = normal st x.0
  body-evaluates n callee routine last now d to out from normal return (Leave level) st x = absurd x.0
  body-evaluates n callee routine last now d to out from normal return (Iterate level) st x = absurd x.0
  body-evaluates n callee routine last now d to out from normal return (Return e) st x = return e st x
  body-evaluates n callee routine last now d to out from normal return (Raised c) st x = (left-raised n now from c st x, d)
  body-evaluates n callee routine last now d to out from normal return (Away level h c) st x = absurd x.0
  body-evaluates n callee routine last now d to out from normal return (Stopped stop) st x = x

  -- ---- functions

  ends-without : SqlState
  ends-without = codes "2F005"

  -- the end of a function, which comes without RETURN
  without-return : (n : ℕ) (callee : RawRoutine) (routine : ResolvedRoutine) (stands : RoutineStands file code routine callee) → routine_at code n ≡ Some callee → (t : SqlType) → routine.returns ≡ Some t → (now st : State) (from : Stepped)
      → Leads code from (at_line (within spot n pc below now) stands.last [] st) → RaisedAt code r k following spot from (of_state (codes "2F005")) (returned_to now st)
  without-return n callee routine stands at t e now st from x =
      let inner = within spot n pc below now in
      let c = of_state (codes "2F005") in
      let inside : Machine = machine inner stands.last [] st in
      let one : settled code (done code callee (last_instruction routine.returns) inside).given (done code callee (last_instruction routine.returns) inside).machine ≡ raised code c inside =
      ap (λ y. settled code (done code callee (last_instruction y) inside).given (done code callee (last_instruction y) inside).machine) e in
      let two : raised code c inside ≡ raised_in code (by_state c) spot.callers (record (code_state.holding c inside) { running = caller spot pc below now; callers = spot.callers }) =
      ap (λ y. asked y c (raised_outside code c inner.callers) inside) at ∙ ap (λ y. asked_at callee y c (raised_outside code c inner.callers) inside) stands.ends in
      let three = raised-over code c (machine spot pc below (returned_to now st)) c r line there here in
      record { pc = pc; operands = below; pending = None; line = line; there = here; context = context; resume = resume; leads = leads-to x (leads-same (leads-line at stands.ends) (one ∙ two ∙ three)) }

  -- a function returns its value to the operands of the caller
  returns-value : (n : ℕ) (now st : State) (from : Stepped) (d : Datum) → Returns code (within spot n pc below now) from d st → Leads code from (at_line spot (suc pc) (Value d ∷ below) (cleared (returned_to now st)))
  returns-value n now st from d x =
      let a : Activation = record (coded.with_values (d ∷ []) (caller spot pc below now)) { line = suc pc } in
      leads-same x.leads (ap More (same-rest x.last a spot.callers clear st.turns st.tables x.area x.pending x.turns x.tables))

  -- what is done in the function, and then its value
  pub function-evaluates : (sim : Simulates file code m) (n : ℕ) (callee : RawRoutine) (routine : ResolvedRoutine) → RoutineStands file code routine callee → routine_at code n ≡ Some callee → (t : SqlType) → routine.returns ≡ Some t → (ps : List Datum) (now : State) → IsReady code spot now
      → Evaluates code r k following spot (More (machine (within spot n pc below now) 0 [] (begun routine ps now))) (λ x. at_line spot (suc pc) (x ∷ below)) (meaning.◌>>=◌ (apart (run_body routine ps)) (λ e. result_of e.returned) m now).given (meaning.◌>>=◌ (apart (run_body routine ps)) (λ e. result_of e.returned) m now).state
  function-evaluates sim n callee routine stands at t e ps now d =
      let inner = within spot n pc below now in
      let start = begun routine ps now in
      let from = at_line inner 0 [] start in
      let fits : Fits file code routine callee outermost inner = record { search = refl; handle = tt; reached = tt; entered = tt; entries = tt; cursors = record { free = λ i e. refl; split = tt; sees = tt }; kept = tt } in
      let ended = m.done (Do routine.body) (body_eval_context routine) start in
      body-evaluates n callee routine stands.last now d (λ x. at_line spot (suc pc) (x ∷ below)) (λ e. result_of e.returned) from
      (λ st l. (without-return n callee routine stands at t e now st from l, d))
      (λ v st x. (returns-value n now st from v x, d))
      ended.outcome ended.state (sim.done routine callee outermost inner at stands fits routine.body 0 stands.last stands.body start (ap suc d.0, λ i e. all-closed routine.cursors i, all-begin (routine_at code n) callee routine.cursors at stands.cursors))
