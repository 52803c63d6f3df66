-- Well-formed code, and leaves blocks and ends actions without operands, is never stuck.
use Rattle.std.proofs.Common.{◌≡◌, ℕ, zero, suc, ◌<◌, true, List, [], length, map, refl, ap, sym, subst, arith, Option, Some, None}
use Rattle.std.specs.Prelude.{reverse}
use Rattle.psm_value.specs.declared.datum.Datum.{Datum}
use Rattle.psm_exprcode.specs.declared.op.Letter.{Letter}
use Rattle.psm_exprcode.specs.Kinds.{have}
use Rattle.psm_table.specs.Table.{Contents}
use Rattle.psm_code.specs.declared.code.RawCode.{RawCode}
use Rattle.psm_code.specs.declared.code.RawRoutine.{RawRoutine}
use Rattle.psm_code.specs.declared.instruction.Instruction.{Instruction}
use Rattle.psm_code.specs.declared.instruction.Instruction.TheVariants as instruction
use Rattle.psm_code.specs.Calling.{activation, before_start, begun, entered, most_depth, started}
use Rattle.psm_code.specs.Parts.{routine_at, taking}
use Rattle.psm_code.specs.RoutineRules.{first_fault}
use Rattle.psm_code.specs.Run.{line_done, routine_done, step, step_on, steps, Ran}
use Rattle.psm_code.specs.MachineInvariant.{are_stored, is_due, AllWait, AreLawful, MachineInvariant, StaysWellFormed}
use Rattle.psm_code.specs.State.{Activation, End, Machine, More, Over, Stepped}
use Rattle.psm_code.specs.Steps.{Act, Given, Got, Raises, Ends, got, go_on, present, spent, turn, ◌>>=◌, ◌>>◌}
use Rattle.psm_code.proofs.Acts.{Has}
use Rattle.psm_code.proofs.Blocks.{end_action_kept, enter_kept, exit_kept}
use Rattle.psm_code.proofs.Calls.{call_function_kept, call_kept, end_kept, return_kept}
use Rattle.psm_code.proofs.Changes.{change_kept}
use Rattle.psm_code.proofs.Cursors.{close_kept, fetch_kept, next_kept, open_kept}
use Rattle.psm_code.proofs.Entering.{activation_stands, enters, first_line, AreGiven}
use Rattle.psm_code.proofs.Faults.{routine_well_formed, WellFormedRoutineCode}
use Rattle.psm_code.proofs.Operating.{operation_kept}
use Rattle.psm_code.proofs.Queried.{exists_kept, scalar_kept, select_kept}
use Rattle.psm_code.proofs.Simple.{clear_kept, condition_kept, no_case_kept, no_return_kept, resignal_condition_kept, resignal_kept, resignal_message_kept, retrieve_kept, signal_kept, signal_message_kept, statement_kept, store_kept, turn_kept, warn_kept, Kept}

-- ---- one row

module _ (code : RawCode) (well_formed_code : first_fault code ≡ None) where
  kept : (r : RawRoutine) (g : WellFormedRoutineCode code r) (c : ℕ) (resume : Option ℕ) (s : List Letter) (i : Instruction) → Kept code well_formed_code r g c resume s i
  kept r g c resume s (instruction.Operation o) = operation_kept code well_formed_code r g c resume s o
  kept r g c resume s instruction.Clear = clear_kept code well_formed_code r g c resume s
  kept r g c resume s (instruction.Store slot) = store_kept code well_formed_code r g c resume s slot
  kept r g c resume s (instruction.FetchStore slot) = retrieve_kept code well_formed_code r g c resume s slot
  kept r g c resume s instruction.Warn = warn_kept code well_formed_code r g c resume s
  kept r g c resume s instruction.Turn = turn_kept code well_formed_code r g c resume s
  kept r g c resume s (instruction.Enter k) = enter_kept code well_formed_code r g c resume s k
  kept r g c resume s (instruction.Exit k) = exit_kept code well_formed_code r g c resume s k
  kept r g c resume s (instruction.EndAction n) = end_action_kept code well_formed_code r g c resume s n
  kept r g c resume s (instruction.Call n) = call_kept code well_formed_code r g c resume s n
  kept r g c resume s (instruction.FunctionCall n) = call_function_kept code well_formed_code r g c resume s n
  kept r g c resume s instruction.ReturnValue = return_kept code well_formed_code r g c resume s
  kept r g c resume s instruction.End = end_kept code well_formed_code r g c resume s
  kept r g c resume s instruction.NoReturn = no_return_kept code well_formed_code r g c resume s
  kept r g c resume s (instruction.Exists n) = exists_kept code well_formed_code r g c resume s n
  kept r g c resume s (instruction.Scalar n) = scalar_kept code well_formed_code r g c resume s n
  kept r g c resume s (instruction.Row n) = select_kept code well_formed_code r g c resume s n
  kept r g c resume s (instruction.Data n) = change_kept code well_formed_code r g c resume s n
  kept r g c resume s (instruction.Open n) = open_kept code well_formed_code r g c resume s n
  kept r g c resume s (instruction.Close n) = close_kept code well_formed_code r g c resume s n
  kept r g c resume s (instruction.Fetch n) = fetch_kept code well_formed_code r g c resume s n
  kept r g c resume s (instruction.Next n p) = next_kept code well_formed_code r g c resume s n p
  kept r g c resume s (instruction.Signal n) = signal_kept code well_formed_code r g c resume s n
  kept r g c resume s (instruction.SignalMessage n) = signal_message_kept code well_formed_code r g c resume s n
  kept r g c resume s instruction.Resignal = resignal_kept code well_formed_code r g c resume s
  kept r g c resume s (instruction.ResignalCondition n) = resignal_condition_kept code well_formed_code r g c resume s n
  kept r g c resume s (instruction.ResignalMessage n) = resignal_message_kept code well_formed_code r g c resume s n
  kept r g c resume s instruction.NoCase = no_case_kept code well_formed_code r g c resume s
  kept r g c resume s (instruction.StatementItem area i) = statement_kept code well_formed_code r g c resume s area i
  kept r g c resume s (instruction.ConditionItem area i) = condition_kept code well_formed_code r g c resume s area i

  -- a machine that meets the invariant has what holds at its line
  has_all : (m : Machine) (h : MachineInvariant code m) → Has code h.running.routine h.running.line (reverse h.running.line.stack) m
  has_all m h = record {
    body = record {
      routine = h.running.routine_there;
      line = h.running.line_there;
      variables = h.running.variables;
      cursors = h.running.cursors;
      frames = h.running.frames;
      callers = h.callers;
      depth = h.depth;
      tables = h.tables;
    };
    operands = h.operands;
  }

  pub step_well_formed : (m : Machine) → MachineInvariant code m → StaysWellFormed code (step code m)
  step_well_formed m h =
      let r = h.running.routine in
      let l = h.running.line in
      let g = routine_well_formed code m.running.routine r well_formed_code h.running.routine_there in
      subst (λ o. StaysWellFormed code (routine_done code o m)) (sym h.running.routine_there)
      (subst (λ o. StaysWellFormed code (line_done code r o m)) (sym h.running.line_there) (kept r g l.context l.resume l.stack l.instruction m (has_all m h)))

  -- ---- runs

  step_on_well_formed : (t : Stepped) → StaysWellFormed code t → StaysWellFormed code (step_on code t)
  step_on_well_formed (More m) h = step_well_formed m h
  step_on_well_formed (Over e m) h = h

  pub rows_well_formed : (n : ℕ) (t : Stepped) → StaysWellFormed code t → StaysWellFormed code (steps code n t)
  rows_well_formed zero t h = h
  rows_well_formed (suc n) t h = rows_well_formed n (step_on code t) (step_on_well_formed t h)

-- ---- the start

module _ (code : RawCode) (well_formed_code : first_fault code ≡ None) (n : ℕ) (r : RawRoutine) (there : routine_at code n ≡ Some r) where
  machine_invariant_first : (ds : List Datum) (m : Machine) → m.callers ≡ [] → are_stored (map (λ p. p.kind) r.parameters) ds ≡ true → AreLawful code m.tables → MachineInvariant code (record m { running = activation n r ds })
  machine_invariant_first ds m e v k =
      let first = first_line code r (routine_well_formed code n r well_formed_code there) in
      let few : 0 < most_depth = omega arith in
      record {
        running = activation_stands code n r ds first there v;
        operands = ap (λ s. have (reverse s) []) first.bare;
        callers = subst (AllWait code n) (sym e) tt;
        depth = subst (λ cs. length cs < most_depth) (sym e) few;
        tables = k;
      }

  abbrev turned : List Datum → Act Activation
  turned ds = do
    turn
    got (activation n r ds)

  turn_first : (left : ℕ) (ds : List Datum) (m : Machine) → m.callers ≡ [] → are_stored (map (λ p. p.kind) r.parameters) ds ≡ true → AreLawful code m.tables
      → (let c = go_on (spent left m).given (λ u. got (activation n r ds)) (spent left m).machine in StaysWellFormed code (begun c.given c.machine))
  turn_first zero ds m e v k = (refl, k)
  turn_first (suc left) ds m e v k = machine_invariant_first ds (record m { turns = left }) e v k

  given_first : (a : Given (List Datum)) (m k : Machine) → k ≡ m → m.callers ≡ [] → AreGiven (map (λ p. p.kind) r.parameters) a → AreLawful code m.tables
      → (let c = go_on a turned k in StaysWellFormed code (begun c.given c.machine))
  given_first (Got ds) m k q e v t = subst (λ k. let c = turned ds k in StaysWellFormed code (begun c.given c.machine)) (sym q) (turn_first m.turns ds m e v t)
  given_first (Raises c) m k q e v t = (refl, subst (λ (k : Machine). AreLawful code k.tables) (sym q) t)
  given_first (Ends x) m k q e v t = absurd v

  abbrev entering : List Datum → RawRoutine → Act Activation
  entering args r = do
    parameters ← entered r.parameters args
    turn
    got (activation n r parameters)

  -- a run begins with one argument for each IN and INOUT parameter
  pub starts : (args : List Datum) (tables : List Contents) (turns : ℕ) → length args ≡ length (taking r.parameters) → AreLawful code tables → StaysWellFormed code (started code n args tables turns)
  starts args tables turns e k =
      let m = before_start turns tables in
      let h = enters r.parameters args m e in
      subst (λ o. let c = ◌>>=◌ (present o) (entering args) m in StaysWellFormed code (begun c.given c.machine)) (sym there)
      (given_first (entered r.parameters args m).given m (entered r.parameters args m).machine h.machine refl h.given k)

-- the end of a run is due, and the tables are legal then
over_well_formed : (code : RawCode) (t : Stepped) (e : End) (m : Machine) → StaysWellFormed code t → t ≡ Over e m → (is_due e ≡ true) × AreLawful code m.tables
over_well_formed code t e m h q = subst (StaysWellFormed code) q h

pub run_well_formed : (code : RawCode) → first_fault code ≡ None → (n : ℕ) (r : RawRoutine) → routine_at code n ≡ Some r → (args : List Datum) (tables : List Contents) (turns : ℕ) → length args ≡ length (taking r.parameters)
    → AreLawful code tables → (e : End) (m : Machine) → Ran code n args tables turns e m → (is_due e ≡ true) × AreLawful code m.tables
run_well_formed code well_formed_code n r there args tables turns long k e m ran =
    over_well_formed code (steps code ran.count (started code n args tables turns)) e m (rows_well_formed code well_formed_code ran.count (started code n args tables turns) (starts code well_formed_code n r there args tables turns long k)) ran.leads
