-- Statements one after another, and what they are made of.
use Rattle.std.proofs.Common.{◌≡◌, ℕ, zero, suc, Bool, true, false, List, [], ◌∷◌, refl, Some, if◌then◌else◌}
use Rattle.psm_value.specs.declared.truth.Truth as truth
use Rattle.psm_value.specs.Truth.{is_certain}
use Rattle.psm_exprcode.specs.declared.op.Op.TheVariants as op
use Rattle.psm_exprcode.specs.declared.operand.Operand.{Operand}
use Rattle.psm_exprcode.specs.declared.operand.Operand.TheVariants.{Truth}
use Rattle.psm_resolved.specs.declared.file.ResolvedFile.{ResolvedFile}
use Rattle.psm_resolved.specs.declared.file.ResolvedRoutine.{ResolvedRoutine}
use Rattle.psm_resolved.specs.declared.statement.ResolvedStatement.{ResolvedStatement}
use Rattle.psm_meaning.specs.Acts.{Act, Given, Got, Raises, Ends, Deed, Meaning, Outcome, Normal, Leave, Iterate, Return, Raised, Away, Stopped, all, at_turn, ends_as, if_normal, part, spending}
use Rattle.psm_meaning.specs.Raising.{after, settled}
use Rattle.psm_meaning.specs.State.{State}
use Rattle.psm_code.specs.declared.code.RawCode.{RawCode}
use Rattle.psm_code.specs.declared.code.RawRoutine.{RawRoutine}
use Rattle.psm_code.specs.declared.instruction.Instruction.TheVariants as instruction
use Rattle.psm_code.specs.Parts.{routine_at}
use Rattle.psm_code.specs.Run as code_rows
use Rattle.psm_code.specs.Run.{fall_through, applied_as}
use Rattle.psm_exprcode.specs.Applied.{Went}
use Rattle.psm_exprcode.specs.declared.operand.Next.TheVariants.{FallThrough, Jump}
use Rattle.psm_code.specs.State.{Stepped, More}
use Rattle.psm_code.specs.Steps as steps
use Rattle.psm_simulation.specs.Agreement.{Evaluates, Fits, IsReady, Leads, Meets, Spot, areas, machine}
use Rattle.psm_simulation.specs.Env.{Env, Plain, Raising, eval_context_of}
use Rattle.psm_simulation.specs.Scheme.{StandAll, Stands, more, none}
use Rattle.psm_simulation.specs.Simulation.{Evals, RoutineStands, Simulates}
use Rattle.psm_simulation.proofs.Landing.{meets-raised}
use Rattle.psm_simulation.proofs.Raising.{meets-from}
use Rattle.psm_simulation.proofs.Runs.{leads-here, leads-line, leads-same, leads-to}

-- where a statement stands, under a meaning of its parts that the code does
pub record Site (file : ResolvedFile) (code : RawCode) (routine : ResolvedRoutine) (r : RawRoutine) (m : Meaning) (env : Env) (spot : Spot) : Type 0 where
  pub simulates : Simulates file code m
  pub stands : RoutineStands file code routine r
  pub there : routine_at code spot.number ≡ Some r
  pub fits : Fits file code routine r env spot

-- what is done comes out as a run from each state does
pub record Does (file : ResolvedFile) (code : RawCode) (routine : ResolvedRoutine) (r : RawRoutine) (m : Meaning) (env : Env) (spot : Spot) (end : ℕ) (deed : Deed) (from : State → Stepped) : Type 0 where
  pub by : (st : State) → IsReady code spot st → Meets file code routine r env spot (from st) end (deed m st).outcome (deed m st).state

-- the machine at a line with these operands
abbrev pub at_line : Spot → ℕ → List Operand → State → Stepped
at_line spot pc os st = More (machine spot pc os st)

pub does-from : {file : ResolvedFile} {code : RawCode} {routine : ResolvedRoutine} {r : RawRoutine} {m : Meaning} {env : Env} {spot : Spot} {end : ℕ} {deed : Deed} {from mid : State → Stepped} → ((st : State) → Leads code (from st) (mid st))
    → Does file code routine r m env spot end deed mid → Does file code routine r m env spot end deed from
does-from {file = file} {code = code} {routine = routine} {r = r} {m = m} {env = env} {spot = spot} {end = end} {deed = deed} l h = record { by = λ st d. meets-from file code routine r env spot end (l st) (deed m st).outcome (deed m st).state (h.by st d) }

pub does-normal : {file : ResolvedFile} {code : RawCode} {routine : ResolvedRoutine} {r : RawRoutine} {m : Meaning} {env : Env} {spot : Spot} {end : ℕ} → Does file code routine r m env spot end (ends_as Normal) (at_line spot end [])
does-normal = record { by = λ st d. (leads-here, d) }

-- ---- after an evaluation

settled-meets : (file : ResolvedFile) (code : RawCode) (routine : ResolvedRoutine) (r : RawRoutine) (m : Meaning) (env : Env) (spot : Spot) → Site file code routine r m env spot → (end : ℕ) {A : Type 0} (from : Stepped) (mid : A → State → Stepped) (go : A → Deed)
    → ((a : A) → Does file code routine r m env spot end (go a) (mid a)) → (g : Given A) (st : State) → Evaluates code r env.context end spot from mid g st
    → Meets file code routine r env spot from end (settled (eval_context_of routine env (areas spot.standing)) g go m st).outcome (settled (eval_context_of routine env (areas spot.standing)) g go m st).state
settled-meets file code routine r m env spot site end from mid go h (Got a) st c = meets-from file code routine r env spot end c.0 (go a m st).outcome (go a m st).state ((h a).by st c.1)
settled-meets file code routine r m env spot site end from mid go h (Raises c) st x = meets-raised file code routine r env spot m site.simulates site.stands site.there site.fits end from c st x.1 x.0
settled-meets file code routine r m env spot site end from mid go h (Ends stop) st c = c

pub does-after : {file : ResolvedFile} {code : RawCode} {routine : ResolvedRoutine} {r : RawRoutine} {m : Meaning} {env : Env} {spot : Spot} → Site file code routine r m env spot → {end : ℕ} {A : Type 0} {act : Act A} {go : A → Deed} {from : State → Stepped} {mid : A → State → Stepped}
    → Evals code r env.context end spot m act from mid → ((a : A) → Does file code routine r m env spot end (go a) (mid a)) → Does file code routine r m env spot end (after (eval_context_of routine env (areas spot.standing)) act go) from
does-after {file = file} {code = code} {routine = routine} {r = r} {m = m} {env = env} {spot = spot} site {end = end} {act = act} {go = go} {from = from} {mid = mid} e h =
    record { by = λ st d. settled-meets file code routine r m env spot site end (from st) mid go h (act m st).given (act m st).state (e.by st d) }

-- ---- lists of statements

meets-then : (file : ResolvedFile) (code : RawCode) (routine : ResolvedRoutine) (r : RawRoutine) (m : Meaning) (env : Env) (spot : Spot) (mid end : ℕ) (from : Stepped) (next : Deed) → Does file code routine r m env spot end next (at_line spot mid [])
    → (o : Outcome) (st : State) → Meets file code routine r env spot from mid o st → Meets file code routine r env spot from end (if_normal o next m st).outcome (if_normal o next m st).state
meets-then file code routine r m env spot mid end from next h Normal st x = meets-from file code routine r env spot end x.0 (next m st).outcome (next m st).state (h.by st x.1)
meets-then file code routine r m env spot mid end from next h (Leave level) st x = x
meets-then file code routine r m env spot mid end from next h (Iterate level) st x = x
meets-then file code routine r m env spot mid end from next h (Return d) st x = x
meets-then file code routine r m env spot mid end from next h (Raised c) st x = x
meets-then file code routine r m env spot mid end from next h (Away level k c) st x = x
meets-then file code routine r m env spot mid end from next h (Stopped stop) st x = x

-- a statement that stands there
pub does-part : {file : ResolvedFile} {code : RawCode} {routine : ResolvedRoutine} {r : RawRoutine} {m : Meaning} {env : Env} {spot : Spot} → Site file code routine r m env spot → {s : ResolvedStatement} {pc end : ℕ} → Stands file code routine r env s pc end
    → Does file code routine r m env spot end (part (eval_context_of routine env (areas spot.standing)) s) (at_line spot pc [])
does-part {routine = routine} {r = r} {env = env} {spot = spot} site {s = s} {pc = pc} {end = end} x = record { by = λ st d. site.simulates.done routine r env spot site.there site.stands site.fits s pc end x st d }

pub does-all : {file : ResolvedFile} {code : RawCode} {routine : ResolvedRoutine} {r : RawRoutine} {m : Meaning} {spot : Spot} {env : Env} {ss : List ResolvedStatement} {pc end : ℕ} → Site file code routine r m env spot → StandAll file code routine r env ss pc end
    → Does file code routine r m env spot end (all (eval_context_of routine env (areas spot.standing)) ss) (at_line spot pc [])
does-all site none = does-normal
does-all {file = file} {code = code} {routine = routine} {r = r} {m = m} {spot = spot} site (more {env = env} {s = s} {ss = ss} {pc = pc} {mid = mid} {end = end} x xs) =
    let eval_context = eval_context_of routine env (areas spot.standing) in
    let first = does-part site x in
    let rest = does-all site xs in
    record { by = λ st d. meets-then file code routine r m env spot mid end (at_line spot pc [] st) (all eval_context ss) rest (part eval_context s m st).outcome (part eval_context s m st).state (first.by st d) }

-- ---- where a run goes on from the line at which something ends

meets-on : (file : ResolvedFile) (code : RawCode) (routine : ResolvedRoutine) (r : RawRoutine) (env : Env) (spot : Spot) (last end : ℕ) (from : Stepped) → ((st : State) → Leads code (at_line spot last [] st) (at_line spot end [] st))
    → (o : Outcome) (st : State) → Meets file code routine r env spot from last o st → Meets file code routine r env spot from end o st
meets-on file code routine r env spot last end from h Normal st x = (leads-to x.0 (h st), x.1)
meets-on file code routine r env spot last end from h (Leave level) st x = x
meets-on file code routine r env spot last end from h (Iterate level) st x = x
meets-on file code routine r env spot last end from h (Return d) st x = x
meets-on file code routine r env spot last end from h (Raised c) st x = x
meets-on file code routine r env spot last end from h (Away level k c) st x = x
meets-on file code routine r env spot last end from h (Stopped stop) st x = x

pub does-on : {file : ResolvedFile} {code : RawCode} {routine : ResolvedRoutine} {r : RawRoutine} {m : Meaning} {env : Env} {spot : Spot} {last end : ℕ} {deed : Deed} {from : State → Stepped} → ((st : State) → Leads code (at_line spot last [] st) (at_line spot end [] st))
    → Does file code routine r m env spot last deed from → Does file code routine r m env spot end deed from
does-on {file = file} {code = code} {routine = routine} {r = r} {m = m} {env = env} {spot = spot} {last = last} {end = end} {deed = deed} {from = from} l h =
    record { by = λ st d. meets-on file code routine r env spot last end (from st) l (deed m st).outcome (deed m st).state (h.by st d) }

pub leads-plain-jump : {code : RawCode} {r : RawRoutine} (spot : Spot) {pc target : ℕ} → routine_at code spot.number ≡ Some r → Plain r pc (instruction.Operation (op.Jump target)) → (os : List Operand) (st : State) → Leads code (at_line spot pc os st) (at_line spot target os st)
leads-plain-jump spot p l os st = leads-line p l.there

-- ---- turns

spent-meets : (file : ResolvedFile) (code : RawCode) (routine : ResolvedRoutine) (r : RawRoutine) (m : Meaning) (env : Env) (spot : Spot) (pc end : ℕ) (from : Stepped) (deed : Deed) → Does file code routine r m env spot end deed (at_line spot (suc pc) []) → (st : State) → IsReady code spot st
    → (t : ℕ) → Leads code from (code_rows.settled code (steps.go_on (steps.spent t (machine spot pc [] st)).given (λ u. steps.got fall_through) (steps.spent t (machine spot pc [] st)).machine).given (steps.go_on (steps.spent t (machine spot pc [] st)).given (λ u. steps.got fall_through) (steps.spent t (machine spot pc [] st)).machine).machine)
    → Meets file code routine r env spot from end (spending t deed m st).outcome (spending t deed m st).state
spent-meets file code routine r m env spot pc end from deed h st d zero l = record { last = machine spot pc [] st; leads = l }
spent-meets file code routine r m env spot pc end from deed h st d (suc left) l =
    let now = record st { turns = left } in meets-from file code routine r env spot end l (deed m now).outcome (deed m now).state (h.by now d)

pub does-turn : {file : ResolvedFile} {code : RawCode} {routine : ResolvedRoutine} {r : RawRoutine} {m : Meaning} {env : Env} {spot : Spot} → routine_at code spot.number ≡ Some r → {pc end : ℕ} {deed : Deed} → Plain r pc instruction.Turn
    → Does file code routine r m env spot end deed (at_line spot (suc pc) []) → Does file code routine r m env spot end (at_turn deed) (at_line spot pc [])
does-turn {file = file} {code = code} {routine = routine} {r = r} {m = m} {env = env} {spot = spot} p {pc = pc} {end = end} {deed = deed} l h =
    record { by = λ st d. spent-meets file code routine r m env spot pc end (at_line spot pc [] st) deed h st d st.turns (leads-line p l.there) }

-- ---- tests

tested : (file : ResolvedFile) (code : RawCode) (routine : ResolvedRoutine) (r : RawRoutine) (m : Meaning) (env : Env) (spot : Spot) (end next target : ℕ) (below : List Operand) (holds fails : Deed) → Does file code routine r m env spot end holds (at_line spot next below) → Does file code routine r m env spot end fails (at_line spot target below)
    → (st : State) → IsReady code spot st → (b : Bool) (from : Stepped) → Leads code from (if b then at_line spot next below st else at_line spot target below st)
    → Meets file code routine r env spot from end ((if b then holds else fails) m st).outcome ((if b then holds else fails) m st).state
tested file code routine r m env spot end next target below holds fails h k st d true from l = meets-from file code routine r env spot end l (holds m st).outcome (holds m st).state (h.by st d)
tested file code routine r m env spot end next target below holds fails h k st d false from l = meets-from file code routine r env spot end l (fails m st).outcome (fails m st).state (k.by st d)

applied-test : (code : RawCode) (spot : Spot) (pc target : ℕ) (below os : List Operand) (st : State) (b : Bool)
    → code_rows.settled code (applied_as (if b then Went FallThrough below else Went (Jump target) below) (machine spot pc os st)).given (applied_as (if b then Went FallThrough below else Went (Jump target) below) (machine spot pc os st)).machine ≡ (if b then at_line spot (suc pc) below st else at_line spot target below st)
applied-test code spot pc target below os st true = refl
applied-test code spot pc target below os st false = refl

-- a truth value on the operands decides where the run goes on
pub does-test : {file : ResolvedFile} {code : RawCode} {routine : ResolvedRoutine} {r : RawRoutine} {m : Meaning} {env : Env} {spot : Spot} → routine_at code spot.number ≡ Some r → {pc target end k following : ℕ} {holds fails : Deed} (below : List Operand) → Raising r k following pc (instruction.Operation (op.JumpUnlessTrue target))
    → Does file code routine r m env spot end holds (at_line spot (suc pc) below) → Does file code routine r m env spot end fails (at_line spot target below)
    → (t : truth.Truth) → Does file code routine r m env spot end (if is_certain t then holds else fails) (at_line spot pc (Truth t ∷ below))
does-test {file = file} {code = code} {routine = routine} {r = r} {m = m} {env = env} {spot = spot} p {pc = pc} {target = target} {end = end} {holds = holds} {fails = fails} below l h k t = record {
  by = λ st d. tested file code routine r m env spot end (suc pc) target below holds fails h k st d (is_certain t) (at_line spot pc (Truth t ∷ below) st)
      (leads-same (leads-line p l.there) (applied-test code spot pc target below (Truth t ∷ below) st (is_certain t)));
}
