-- What comes of a condition that a line raises.
use Rattle.std.proofs.Common.{◌≡◌, ℕ, List, [], ◌∷◌, map, refl, ap, ◌∙◌, Option, Some, None, if◌then◌else◌}
use Rattle.psm_cond.specs.declared.handlers.Handler.{Handler}
use Rattle.psm_table.specs.Cursors.{Cursor}
use Rattle.psm_resolved.specs.declared.file.ResolvedFile.{ResolvedFile}
use Rattle.psm_resolved.specs.declared.file.ResolvedRoutine.{ResolvedRoutine}
use Rattle.psm_resolved.specs.declared.statement.ResolvedHandler.{ResolvedHandler, out-ResolvedHandler}
use Rattle.psm_meaning.specs.Acts.{Do, Meaning, Outcome, Normal, Leave, Iterate, Return, Raised, Away, Stopped}
use Rattle.psm_meaning.specs.Raising as meaning
use Rattle.psm_meaning.specs.Raising.{after_action}
use Rattle.psm_meaning.specs.State.{State, put_back}
use Rattle.psm_cond.specs.Area.{Diagnostics}
use Rattle.psm_code.specs.declared.code.RawCode.{RawCode}
use Rattle.psm_code.specs.declared.code.RawRoutine.{RawRoutine}
use Rattle.psm_code.specs.declared.instruction.Instruction.TheVariants as instruction
use Rattle.psm_code.specs.Parts.{handler_at, routine_at}
use Rattle.psm_code.specs.Run.{act_ended, at, line_after, with_frames}
use Rattle.psm_code.specs.State as code_state
use Rattle.psm_code.specs.State.{Machine, Stepped, More}
use Rattle.psm_code.specs.Steps.{Act, change, ends, go_on, got, present, ◌>>=◌, ◌>>◌}
use Rattle.psm_simulation.specs.Env.{Env, Plain, Visible, in_action, eval_context_of, scope_of}
use Rattle.psm_simulation.specs.Agreement.{Acting, Acts, AllHandle, AllKept, AreStanding, Arrived, BeginsAt, Entered, Fits, IsReady, IsVisible, Leads, Meets, ReachAll, Spot, Standing, Spotted, EvaluatesTo, areas, arriving, frame_of, is_raised, iterating, leaving, machine, owns, undone, with_standing}
use Rattle.psm_simulation.specs.Simulation.{RoutineStands, Simulates}
use Rattle.psm_simulation.proofs.Runs.{leads-same, leads-to, leads-successor}
use Rattle.psm_simulation.proofs.Evaluating.{stops-from}
use Rattle.psm_simulation.proofs.Runs.{nat_eq-same}

-- ---- the end of an action

abbrev acting_spot : ℕ → Option ℕ → Diagnostics → Spot → Spot
acting_spot n resume area spot = with_standing (Acting n resume area ∷ spot.standing) spot

end-action : (code : RawCode) (r : RawRoutine) (spot : Spot) → routine_at code spot.number ≡ Some r → (n : ℕ) (coded : Handler) → handler_at r n ≡ Some coded → (resume : Option ℕ) (area : Diagnostics) (target last : ℕ) → Plain r last (instruction.EndAction n)
    → ((m : Machine) → line_after r coded coded.kind resume m ≡ got target m) → (st : State) → Leads code (More (machine (acting_spot n resume area spot) last [] st)) (More (machine spot target [] (put_back area st)))
end-action code r spot p n coded there resume area target last l following st =
    let m = machine (acting_spot n resume area spot) last [] st in
    let frames = map frame_of spot.standing in
    let rest : ℕ → Act (Machine → Stepped) = λ line. ◌>>◌ (change (λ m. code_state.put_back area (with_frames frames m))) (got (at line)) in
    let one = ap (λ b. (if b then act_ended r n resume area frames else ends code_state.Stuck) m) (nat_eq-same n) in
    let two = ap (λ x. ◌>>=◌ (present x) (λ h. ◌>>=◌ (line_after r h h.kind resume) rest) m) there in
    let three = ap (λ came. go_on came.given rest came.machine) (following m) in
    leads-successor code m (machine spot last [] (put_back area st)) r _ (at target) p l.there (one ∙ two ∙ three)

-- ---- what comes of a run comes of one that leads to it

begins-from : (file : ResolvedFile) (code : RawCode) (routine : ResolvedRoutine) (r : RawRoutine) (spot : Spot) {a b : Stepped} (h : ResolvedHandler) (st : State) → Leads code a b → (x : Option Arrived) → BeginsAt file code routine r spot b h x st → BeginsAt file code routine r spot a h x st
begins-from file code routine r spot h st p None x = x
begins-from file code routine r spot h st p (Some a) x = record { number = x.number; coded = x.coded; acts = x.acts; exits = x.exits; leads = leads-to p x.leads }

pub evaluates-to-from : (code : RawCode) (spot : Spot) {a b : Stepped} (st : State) → Leads code a b → (x : Option Spotted) → EvaluatesTo code spot b x st → EvaluatesTo code spot a x st
evaluates-to-from code spot st p None x = x
evaluates-to-from code spot st p (Some s) x = leads-to p x

-- the cursors in the state don't matter
pub evaluates-closed : (code : RawCode) (spot : Spot) (from : Stepped) (st : State) (cs : List Cursor) (x : Option Spotted) → EvaluatesTo code spot from x (record st { cursors = cs }) → EvaluatesTo code spot from x st
evaluates-closed code spot from st cs None x = x
evaluates-closed code spot from st cs (Some s) x = x

pub meets-from : (file : ResolvedFile) (code : RawCode) (routine : ResolvedRoutine) (r : RawRoutine) (env : Env) (spot : Spot) {a b : Stepped} (end : ℕ) → Leads code a b
    → (o : Outcome) (st : State) → Meets file code routine r env spot b end o st → Meets file code routine r env spot a end o st
meets-from file code routine r env spot end p Normal st h = (leads-to p h.0, h.1)
meets-from file code routine r env spot end p (Leave level) st h = (evaluates-to-from code spot st p (leaving env.enclosing level spot.standing st.cursors) h.0, h.1)
meets-from file code routine r env spot end p (Iterate level) st h = (evaluates-to-from code spot st p (iterating env.enclosing level spot.standing st.cursors) h.0, h.1)
meets-from file code routine r env spot end p (Return d) st h = record { last = h.last; tables = h.tables; turns = h.turns; area = h.area; pending = h.pending; leads = leads-to p h.leads }
meets-from file code routine r env spot end p (Raised c) st h = record { last = h.last; tables = h.tables; turns = h.turns; area = h.area; pending = h.pending; leads = leads-to p h.leads }
meets-from file code routine r env spot end p (Away level x c) st h = (begins-from file code routine r spot x st p (arriving (is_raised c) level spot.standing st.tables st.cursors) h.0, h.1, h.2)
meets-from file code routine r env spot end p (Stopped stop) st h = stops-from p stop h

-- ---- the outcome of an action

begins-in : (file : ResolvedFile) (code : RawCode) (routine : ResolvedRoutine) (r : RawRoutine) (inner spot : Spot) (from : Stepped) (h : ResolvedHandler) (st : State) → ((standing : List Standing) (line : ℕ) (st : State) → machine (with_standing standing inner) line [] st ≡ machine (with_standing standing spot) line [] st)
    → (x : Option Arrived) → BeginsAt file code routine r inner from h x st → BeginsAt file code routine r spot from h x st
begins-in file code routine r inner spot from h st e None b = b
begins-in file code routine r inner spot from h st e (Some a) b = record {
  number = b.number;
  coded = b.coded;
  acts = b.acts;
  exits = b.exits;
  leads = leads-same b.leads (ap More (e (Acting b.number None st.area ∷ Entered a.block a.outer a.found ∷ a.standing) b.coded.pc (record st { tables = undone (out-ResolvedHandler h).kind a.found a.tables; cursors = a.cursors })));
}

action-meets : (file : ResolvedFile) (code : RawCode) (routine : ResolvedRoutine) (r : RawRoutine) (env : Env) (spot : Spot) (v : Visible) (outer : List Visible) (k n : ℕ) (resume : Option ℕ) (area : Diagnostics) (from : Stepped) (last target : ℕ) (m : Meaning) → ((l : ℕ) → IsVisible l outer → IsVisible l env.visible)
    → ((st : State) → Leads code (More (machine (acting_spot n resume area spot) last [] st)) (More (machine spot target [] (put_back area st))))
    → (o : Outcome) (st : State) → Meets file code routine r (in_action v k outer) (acting_spot n resume area spot) from last o st → Meets file code routine r env spot from target (after_action area o m st).outcome (after_action area o m st).state
action-meets file code routine r env spot v outer k n resume area from last target m sub e Normal st h = (leads-to h.0 (e st), h.1)
action-meets file code routine r env spot v outer k n resume area from last target m sub e (Leave level) st h = absurd h.0
action-meets file code routine r env spot v outer k n resume area from last target m sub e (Iterate level) st h = absurd h.0
action-meets file code routine r env spot v outer k n resume area from last target m sub e (Return d) st h = record { last = h.last; tables = h.tables; turns = h.turns; area = h.area; pending = h.pending; leads = h.leads }
action-meets file code routine r env spot v outer k n resume area from last target m sub e (Raised c) st h = record { last = h.last; tables = h.tables; turns = h.turns; area = h.area; pending = h.pending; leads = h.leads }
action-meets file code routine r env spot v outer k n resume area from last target m sub e (Away level x c) st h =
    (begins-in file code routine r (acting_spot n resume area spot) spot from x st (λ standing line st. refl) (arriving (is_raised c) level spot.standing st.tables st.cursors) h.0, sub level h.1, h.2)
action-meets file code routine r env spot v outer k n resume area from last target m sub e (Stopped stop) st h = h

-- ---- the action of a handler

reach-acting : (visible : List Visible) (n : ℕ) (resume : Option ℕ) (area : Diagnostics) (standing : List Standing) → ReachAll visible standing → ReachAll visible (Acting n resume area ∷ standing)
reach-acting [] n resume area standing h = tt
reach-acting (v ∷ visible) n resume area standing h = (h.0, reach-acting visible n resume area standing h.1)

-- the action begins, with the block of its handler among what is entered, and the run goes on at the line target after it
pub acted : (file : ResolvedFile) (code : RawCode) (routine : ResolvedRoutine) (r : RawRoutine) (env : Env) (spot : Spot) (m : Meaning) → Simulates file code m → RoutineStands file code routine r → routine_at code spot.number ≡ Some r
    → AreStanding file code routine r spot.standing → (v : Visible) (outer : List Visible) (h : ResolvedHandler) (n : ℕ) (coded : Handler) → Acts file code routine r outer v h n coded → AllHandle file code routine r outer → ReachAll outer spot.standing → AllKept (v ∷ outer) (owns spot.standing)
    → ((l : ℕ) → IsVisible l outer → IsVisible l env.visible) → (resume : Option ℕ) (target : ℕ) → ((k : Machine) → line_after r coded coded.kind resume k ≡ got target k) → (from : Stepped) (st : State) → IsReady code spot st
    → Leads code from (More (machine (acting_spot n resume st.area spot) coded.pc [] st))
    → Meets file code routine r env spot from target (meaning.action (record { routine = routine; cursors = v.cursors; scopes = map scope_of outer; acting = areas spot.standing }) h m st).outcome
    (meaning.action (record { routine = routine; cursors = v.cursors; scopes = map scope_of outer; acting = areas spot.standing }) h m st).state
acted file code routine r env spot m sim rs p standing v outer h n coded a handle reached kept sub resume target following from st d l =
    let inner = acting_spot n resume st.area spot in
    let fits : Fits file code routine r (in_action v a.context outer) inner = record { search = a.handler.search; handle = handle; reached = reach-acting outer n resume st.area spot.standing reached; entered = tt; entries = standing; cursors = kept.0; kept = kept.1 } in
    let done = sim.done routine r (in_action v a.context outer) inner p rs fits (out-ResolvedHandler h).action coded.pc a.last a.action st d in
    let eval_context = eval_context_of routine (in_action v a.context outer) (areas inner.standing) in
    let ended = m.done (Do (out-ResolvedHandler h).action) eval_context st in
    action-meets file code routine r env spot v outer a.context n resume st.area from a.last target m sub (end-action code r spot p n coded a.handler.there resume st.area target a.last a.ends following) ended.outcome ended.state
    (meets-from file code routine r (in_action v a.context outer) inner a.last l ended.outcome ended.state done)
