-- A block is left at its end, or where LEAVE or ITERATE goes on outside it.
use Rattle.std.proofs.Common.{◌≡◌, ℕ, suc, Bool, false, List, [], ◌∷◌, map, ap, ◌∙◌, Option, Some, if◌then◌else◌}
use Rattle.psm_cond.specs.declared.handlers.Block.{Block as CodeBlock}
use Rattle.psm_table.specs.Table.{Contents}
use Rattle.psm_meaning.specs.State.{State}
use Rattle.psm_code.specs.declared.code.RawCode.{RawCode}
use Rattle.psm_code.specs.declared.code.RawRoutine.{RawRoutine}
use Rattle.psm_code.specs.declared.instruction.Instruction.TheVariants as instruction
use Rattle.psm_code.specs.Parts.{block_at, routine_at}
use Rattle.psm_code.specs.Raising.{cursors_of, put_back}
use Rattle.psm_code.specs.Run.{settled, then_fall_through, with_frames}
use Rattle.psm_code.specs.State.{Frame}
use Rattle.psm_code.specs.State as code_state
use Rattle.psm_code.specs.Steps as steps
use Rattle.psm_simulation.specs.Agreement.{Entered, Leads, Spot, Standing, frame_of, machine, with_standing}
use Rattle.psm_simulation.specs.Env.{Plain, Visible}
use Rattle.psm_simulation.proofs.Doing.{at_line}
use Rattle.psm_simulation.proofs.Runs.{nat_eq-same}
use Rattle.psm_simulation.proofs.Runs.{leads-line, leads-same}

abbrev exiting : List Frame → Option (List Contents) → Option CodeBlock → steps.Act (Unit {0})
exiting frames found x = steps.change (λ m. with_frames frames (record (code_state.with_running (λ a. record a { cursors = code_state.closed_cursors (cursors_of x) a.cursors }) m) { tables = put_back false found m.tables }))

-- the block is left, and its cursors are closed
pub leads-exit : {code : RawCode} {r : RawRoutine} (spot : Spot) (v : Visible) (outer : List Visible) (found : Option (List Contents)) (standing : List Standing) {atomic : Bool} {exit pc : ℕ} → routine_at code spot.number ≡ Some r
    → block_at r v.context ≡ Some (record { atomic = atomic; exit = exit; cursors = v.own }) → Plain r pc (instruction.Exit v.context) → (st : State)
    → Leads code (at_line (with_standing (Entered v outer found ∷ standing) spot) pc [] st) (at_line (with_standing standing spot) (suc pc) [] (record st { cursors = code_state.closed_cursors v.own st.cursors }))
leads-exit {code = code} {r = r} spot v outer found standing {pc = pc} p b l st =
    let m = machine (with_standing (Entered v outer found ∷ standing) spot) pc [] st in
    let frames = map frame_of standing in
    let left : steps.Act (Unit {0}) = exiting frames found (block_at r v.context) in
    let one = ap (λ t. settled code (then_fall_through (if t then left else steps.ends code_state.Stuck) m).given (then_fall_through (if t then left else steps.ends code_state.Stuck) m).machine) (nat_eq-same v.context) in
    let two = ap (λ x. settled code (then_fall_through (exiting frames found x) m).given (then_fall_through (exiting frames found x) m).machine) b in
    leads-same (leads-line p l.there) (one ∙ two)
