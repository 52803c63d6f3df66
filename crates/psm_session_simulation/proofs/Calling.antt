-- CALL over code runs what it means.
use Rattle.std.proofs.Common.{arith, ◌≡◌, ◌≤◌, ◌++◌, ◌⊎◌, inl, inr, ℕ, List, not, map, IfSome, Option, Some, None, refl, ap, sym, subst, ◌∙◌}
use Rattle.std.proofs.lemmas.List.{append_assoc}
use Rattle.psm_value.specs.declared.datum.Datum.{Datum}
use Rattle.psm_table.specs.Table.{Contents}
use Rattle.psm_resolved.specs.declared.file.ResolvedFile.{ResolvedFile}
use Rattle.psm_resolved.specs.declared.file.ResolvedParameter.{ResolvedParameter}
use Rattle.psm_resolved.specs.declared.file.ResolvedRoutine.{ResolvedRoutine}
use Rattle.psm_meaning.specs.Acts.{Act, Evaluated, Given, Got, Raises, Ends, NoTurns, OutOfFuel, Stuck, Meaning, go_on, present, ◌>>=◌}
use Rattle.psm_meaning.specs.Calls.{Ended, activated, entered, returns}
use Rattle.psm_meaning.specs.Fuel.{file_size, fuel_for}
use Rattle.psm_meaning.specs.Lines.{condition_lines, ok_line}
use Rattle.psm_meaning.specs.Meaning.{meaning}
use Rattle.psm_meaning.specs.Session.{Call, Standing, Went, at_command, call_lines, ended, command_result, run}
use Rattle.psm_meaning.specs.Session as session
use Rattle.psm_meaning.specs.State.{State}
use Rattle.psm_meaning.proofs.Enough.{Well}
use Rattle.psm_meaning.proofs.EnoughFlow.{later-fuel_for}
use Rattle.psm_meaning.proofs.EnoughValues.{keeps-activated}
use Rattle.psm_meaning.proofs.Pure.{High}
use Rattle.psm_meaning.proofs.Sizes.{BodyWithin, body_of-le}
use Rattle.psm_code.specs.Calling as coded
use Rattle.psm_code.specs.Calling.{before_start}
use Rattle.psm_code.specs.declared.code.RawCode.{RawCode}
use Rattle.psm_code.specs.declared.code.RawRoutine.{RawRoutine}
use Rattle.psm_code.specs.Parts.{given_back, giving, routine_at}
use Rattle.psm_code.specs.Run.{Ran}
use Rattle.psm_code.specs.State as code_ends
use Rattle.psm_code.specs.State.{Activation, End, Machine, Stepped}
use Rattle.psm_code.specs.Steps as steps
use Rattle.psm_code.proofs.Ending.{one_end}
use Rattle.psm_simulation.specs.Running.{RunEnds, RunsAs, values_of}
use Rattle.psm_simulation.specs.Simulation.{FileStands, parameter_of}
use Rattle.psm_simulation.proofs.Entering.{entered-same, given_as}
use Rattle.psm_simulation.proofs.Running.{runs-as}
use Rattle.psm_typing.specs.Ends.{IsOver, IsReturned}
use Rattle.psm_typing.specs.Files.{IsWellTyped}
use Rattle.psm_typing.specs.States.{AreFilled}
use Rattle.psm_typing.proofs.Assigning.{no_type}
use Rattle.psm_typing.proofs.Evaluating.{among-filter}
use Rattle.psm_session.specs.CommandSteps.{after_run, called, given_lines}
use Rattle.psm_session_simulation.specs.Standing.{CallStands}
use Rattle.psm_session_simulation.proofs.Entering.{IsWell, activated-well, after_arguments}
use Rattle.psm_session_simulation.proofs.Keeping.{Does, IsCommandResult, run-kept}
use Rattle.psm_session_simulation.proofs.Lines.{given-lines}

-- ---- a run of the code ends as the procedure does

module _ (code : RawCode) (n : ℕ) (args : List Datum) (s : Standing) (routine : ResolvedRoutine) (r : RawRoutine) (same : r.parameters ≡ map parameter_of routine.parameters) (first : List ℕ) (m : Meaning) (end : End) (last : Machine) (ran : Ran code n args s.tables s.turns end last) where
  -- with the lines of what it gives back
  abbrev lines : Ended → Act (List ℕ)
  lines e = call_lines routine e.returned e.variables

  -- where it is known how a run ends
  ends-as : (e : End) (other : Machine) → Ran code n args s.tables s.turns e other → called first s r e other ≡ called first s r end last
  ends-as e other k = let one = one_end code n args s.tables s.turns e end other last k ran in ap (λ x. called first s r x other) one.0 ∙ ap (λ x. called first s r end x) one.1

  left-as : (piece : List ℕ) (other : Machine) (st : State) → other.tables ≡ st.tables → other.turns ≡ st.turns → Went piece (session.standing_after s st) ≡ Went piece (after_run s other)
  left-as piece other st t u = ap (λ x. Went piece (record s { tables = x; turns = st.turns })) (sym t) ∙ ap (λ x. Went piece (record s { tables = other.tables; turns = x })) (sym u)

  ended-called : (d : Option Datum) (vars : List Datum) (st : State) → routine.returns ≡ None → IsReturned routine.returns d → RunEnds code n args s.tables s.turns (code_ends.Ended (values_of routine.parameters d vars)) st
      → ended first s (call_lines routine d vars m st).given (call_lines routine d vars m st).state ≡ called first s r end last
  ended-called (Some d) vars st none h k = absurd (subst (λ t. IsReturned t (Some d)) none h)
  ended-called None vars st none h k =
      let ds = given_back (map parameter_of routine.parameters) vars in
      let shown = sym (given-lines routine.parameters vars) ∙ ap (λ ps. given_lines (giving ps) ds) (sym same) in
      ap (λ text. Went (first ++ (text ++ ok_line)) (session.standing_after s st)) shown
      ∙ ap (λ text. Went text (session.standing_after s st)) (sym (append_assoc first (given_lines (giving r.parameters) ds) ok_line))
      ∙ left-as (first ++ given_lines (giving r.parameters) ds ++ ok_line) k.last st k.tables k.left
      ∙ ends-as (code_ends.Ended ds) k.last k.ran

  given-called : (g : Given Ended) (st : State) → routine.returns ≡ None → IsOver routine g → High g → RunsAs code n args s.tables s.turns routine.parameters g st
      → ended first s (go_on g lines m st).given (go_on g lines m st).state ≡ called first s r end last
  given-called (Got e) st none h high k = ended-called e.returned e.variables st none h.returned k
  given-called (Raises c) st none h high k = left-as (first ++ condition_lines c) k.last st k.tables k.left ∙ ends-as (code_ends.Raised c) k.last k.ran
  given-called (Ends NoTurns) st none h high k = ends-as code_ends.NoTurns k.0 k.1
  given-called (Ends OutOfFuel) st none h high k = absurd high
  given-called (Ends Stuck) st none h high k = absurd h

-- ---- without as many arguments both are stuck

stuck-runs : (code : RawCode) (n : ℕ) (args : List Datum) (tables : List Contents) (turns : ℕ) (r : RawRoutine) (ps : List ResolvedParameter) → routine_at code n ≡ Some r → r.parameters ≡ map parameter_of ps → (m : Meaning) (st : State)
    → (entered ps args m st).given ≡ Ends Stuck → Ran code n args tables turns code_ends.Stuck (before_start turns tables)
stuck-runs code n args tables turns r ps at same m st q =
    let before = before_start turns tables in
    let rest : RawRoutine → List Datum → steps.Act Activation = λ r ps. steps.◌>>=◌ steps.turn (λ u. steps.got (coded.activation n r ps)) in
    let start : steps.Came Activation → Stepped = λ c. coded.begun c.given c.machine in
    let one = ap (λ x. start (steps.◌>>=◌ (steps.present x) (λ r. steps.◌>>=◌ (coded.entered r.parameters args) (rest r)) before)) at in
    let two = ap (λ ps. start (steps.◌>>=◌ (coded.entered ps args) (rest r) before)) same in
    let three = ap (λ c. start (steps.go_on c.given (rest r) c.machine)) (entered-same ps args m st before).same in
    let four = ap (λ g. start (steps.go_on (given_as g) (rest r) before)) q in
    record { count = 0; leads = one ∙ two ∙ three ∙ four }

-- ---- CALL

-- what is done in CALL, where the procedure is known
abbrev calling : ResolvedRoutine → List Datum → Act (List ℕ)
calling routine args = ◌>>=◌ (activated routine args) (λ e. call_lines routine e.returned e.variables)

lines-stay : (routine : ResolvedRoutine) (d : Option Datum) (vars : List Datum) (m : Meaning) (st : State) → (call_lines routine d vars m st).state ≡ st
lines-stay routine None vars m st = refl
lines-stay routine (Some d) vars m st = refl

calling-stays : (routine : ResolvedRoutine) (g : Given Ended) (m : Meaning) (st : State) → (go_on g (λ e. call_lines routine e.returned e.variables) m st).state ≡ st
calling-stays routine (Got e) m st = lines-stay routine e.returned e.variables m st
calling-stays routine (Raises c) m st = refl
calling-stays routine (Ends stop) m st = refl

module _ (file : ResolvedFile) (code : RawCode) (stands : FileStands file code) (well_typed : IsWellTyped file) (h turns : ℕ) (enough : fuel_for file turns ≤ h) (s : Standing) (tables : AreFilled file.tables s.tables) (left : s.turns ≤ turns) (first : List ℕ) (procedure n : ℕ) (args : List Datum)
    (q : CallStands file code procedure n) (end : End) (last : Machine) (ran : Ran code n args s.tables s.turns end last) where
  abbrev m : Meaning
  m = meaning file h

  abbrev act : Evaluated Ended
  act = activated q.routine args m (at_command s)

  is_procedure : q.routine.returns ≡ None
  is_procedure = let found = among-filter (λ r. not (returns r.returns)) file.routines procedure q.routine q.named in no_type q.routine.returns found.1

  well : Well s.turns act
  well =
      let body = subst (λ x. IfSome x (BodyWithin (file_size file))) q.named (body_of-le file (λ r. not (returns r.returns)) procedure) in
      (keeps-activated (later-fuel_for file h turns enough) q.routine body args).well (at_command s) left

  named : command_result file m first s (Call procedure args) ≡ run first s (calling q.routine args) m
  named = ap (λ x. run first s (◌>>=◌ (present x) (λ r. calling r args)) m) q.named

  does-no_value : (entered q.routine.parameters args m (at_command s)).given ≡ Ends Stuck → Does file h turns first s (Call procedure args) (called first s q.coded end last)
  does-no_value no_value =
      let before = before_start s.turns s.tables in
      let over = ends-as code n args s q.routine q.coded q.parameters first m end last ran code_ends.Stuck before (stuck-runs code n args s.tables s.turns q.coded q.routine.parameters q.at q.parameters m (at_command s) no_value) in
      let is_stuck = ap (λ g. run first s (◌>>=◌ (λ n st. go_on g (after_arguments q.routine) n (entered q.routine.parameters args n st).state) (λ e. call_lines q.routine e.returned e.variables)) m) no_value in
      record { same = named ∙ is_stuck ∙ over; kept = λ c. subst (IsCommandResult file turns) over tt }

  does-end : IsWell file q.routine act → Does file h turns first s (Call procedure args) (called first s q.coded end last)
  does-end w =
      let ends = given-called code n args s q.routine q.coded q.parameters first m end last ran act.given act.state is_procedure w.over well.high (runs-as file code stands n q.routine q.there is_procedure args s.tables s.turns h) in
      let stays = sym (calling-stays q.routine act.given m act.state) in
      record {
        same = named ∙ ends;
        kept = λ c. subst (IsCommandResult file turns) ends (run-kept file turns m first s (calling q.routine args) c (subst (λ x. AreFilled file.tables x.tables) stays w.filled) (subst (λ x. x.turns ≤ turns) stays (omega (arith, well.left, left))));
      }

  does-either : ((entered q.routine.parameters args m (at_command s)).given ≡ Ends Stuck) ⊎ IsWell file q.routine act → Does file h turns first s (Call procedure args) (called first s q.coded end last)
  does-either (inl no_value) = does-no_value no_value
  does-either (inr w) = does-end w

  pub does-call : Does file h turns first s (Call procedure args) (called first s q.coded end last)
  does-call = does-either (activated-well file well_typed h n q.routine q.there args (at_command s) (record { tables = tables; variables = refl; cursors = tt }))
