-- Loops, IF and CASE.
use Rattle.std.proofs.Common.{ℕ, suc, Bool, true, false, List, [], nat_eq, Some, if◌then◌else◌}
use Rattle.psm_exprcode.specs.declared.op.Op.TheVariants as op
use Rattle.psm_resolved.specs.declared.expr.ResolvedExpr.{ResolvedExpr}
use Rattle.psm_resolved.specs.declared.file.ResolvedFile.{ResolvedFile}
use Rattle.psm_resolved.specs.declared.file.ResolvedRoutine.{ResolvedRoutine}
use Rattle.psm_resolved.specs.declared.statement.ResolvedBranch.{ResolvedBranch}
use Rattle.psm_resolved.specs.declared.statement.ResolvedStatement.{ResolvedStatement}
use Rattle.psm_meaning.specs.Acts.{Deed, Meaning, Outcome, Normal, Leave, Iterate, Return, Raised, Away, Stopped, all, following, ends_as, truth_of}
use Rattle.psm_meaning.specs.Flow.{branched, looped, repeated, until_true, while_true}
use Rattle.psm_meaning.specs.State.{State}
use Rattle.psm_code.specs.declared.code.RawCode.{RawCode}
use Rattle.psm_code.specs.declared.code.RawRoutine.{RawRoutine}
use Rattle.psm_code.specs.declared.instruction.Instruction.TheVariants as instruction
use Rattle.psm_code.specs.State.{Stepped}
use Rattle.psm_simulation.specs.Agreement.{EvaluatesTo, IsReady, Leads, Meets, Spot, areas, iterating, leaving}
use Rattle.psm_simulation.specs.Env.{Env, Plain, Raising, inside_loop, eval_context_of}
use Rattle.psm_simulation.specs.Expressions.{Puts}
use Rattle.psm_simulation.specs.Scheme.{Branches, StandAll, branch, no_branch}
use Rattle.psm_simulation.proofs.Doing.{Does, Site, at_line, does-after, does-all, does-normal, does-on, does-test, does-turn, leads-plain-jump}
use Rattle.psm_simulation.proofs.Parts.{evals-truth_of}
use Rattle.psm_simulation.proofs.Raising.{meets-from}
use Rattle.psm_simulation.proofs.Runs.{leads-here, leads-to}

-- ---- the list of a loop

pub site-loop : {file : ResolvedFile} {code : RawCode} {routine : ResolvedRoutine} {r : RawRoutine} {m : Meaning} {env : Env} {spot : Spot} (level out again : ℕ) → Site file code routine r m env spot → Site file code routine r m (inside_loop level out again env) spot
site-loop level out again site = record {
  simulates = site.simulates;
  stands = site.stands;
  there = site.there;
  fits = record { search = site.fits.search; handle = site.fits.handle; reached = site.fits.reached; entered = site.fits.entered; entries = site.fits.entries; cursors = site.fits.cursors; kept = site.fits.kept };
}

left-own : (file : ResolvedFile) (code : RawCode) (routine : ResolvedRoutine) (r : RawRoutine) (env : Env) (spot : Spot) (out level : ℕ) (from : Stepped) (st : State) → IsReady code spot st → (b : Bool)
    → EvaluatesTo code spot from (if b then Some (record { line = out; standing = spot.standing; cursors = st.cursors }) else leaving env.enclosing level spot.standing st.cursors) st → Meets file code routine r env spot from out (if b then Normal else Leave level) st
left-own file code routine r env spot out level from st d true l = (l, d)
left-own file code routine r env spot out level from st d false l = (l, d)

again-own : (file : ResolvedFile) (code : RawCode) (routine : ResolvedRoutine) (r : RawRoutine) (m : Meaning) (env : Env) (spot : Spot) (out start level : ℕ) (from : Stepped) (again : Deed) → Does file code routine r m env spot out again (at_line spot start []) → (st : State) → IsReady code spot st → (b : Bool)
    → EvaluatesTo code spot from (if b then Some (record { line = start; standing = spot.standing; cursors = st.cursors }) else iterating env.enclosing level spot.standing st.cursors) st
    → Meets file code routine r env spot from out ((if b then again else ends_as (Iterate level)) m st).outcome ((if b then again else ends_as (Iterate level)) m st).state
again-own file code routine r m env spot out start level from again h st d true l = meets-from file code routine r env spot out l (again m st).outcome (again m st).state (h.by st d)
again-own file code routine r m env spot out start level from again h st d false l = (l, d)

meets-repeated : (file : ResolvedFile) (code : RawCode) (routine : ResolvedRoutine) (r : RawRoutine) (m : Meaning) (env : Env) (spot : Spot) (level last out start : ℕ) (from : Stepped) (again : Deed) → Does file code routine r m env spot out again (at_line spot start [])
    → ((st : State) → Leads code (at_line spot last [] st) (at_line spot start [] st)) → (o : Outcome) (st : State) → Meets file code routine r (inside_loop level out start env) spot from last o st
    → Meets file code routine r env spot from out (repeated level again o m st).outcome (repeated level again o m st).state
meets-repeated file code routine r m env spot level last out start from again h l Normal st x = meets-from file code routine r env spot out (leads-to x.0 (l st)) (again m st).outcome (again m st).state (h.by st x.1)
meets-repeated file code routine r m env spot level last out start from again h l (Leave n) st x = left-own file code routine r env spot out n from st x.1 (nat_eq n level) x.0
meets-repeated file code routine r m env spot level last out start from again h l (Iterate n) st x = again-own file code routine r m env spot out start n from again h st x.1 (nat_eq n level) x.0
meets-repeated file code routine r m env spot level last out start from again h l (Return d) st x = x
meets-repeated file code routine r m env spot level last out start from again h l (Raised c) st x = x
meets-repeated file code routine r m env spot level last out start from again h l (Away n k c) st x = x
meets-repeated file code routine r m env spot level last out start from again h l (Stopped stop) st x = x

-- the list, and then again from the line start
pub does-list : {file : ResolvedFile} {code : RawCode} {routine : ResolvedRoutine} {r : RawRoutine} {m : Meaning} {env : Env} {spot : Spot} → Site file code routine r m env spot → (level : ℕ) {out start pc last : ℕ} {ss : List ResolvedStatement} {again : Deed}
    → StandAll file code routine r (inside_loop level out start env) ss pc last → ((st : State) → Leads code (at_line spot last [] st) (at_line spot start [] st)) → Does file code routine r m env spot out again (at_line spot start [])
    → Does file code routine r m env spot out (following (all (eval_context_of routine env (areas spot.standing)) ss) (repeated level again)) (at_line spot pc [])
does-list {file = file} {code = code} {routine = routine} {r = r} {m = m} {env = env} {spot = spot} site level {out = out} {start = start} {pc = pc} {last = last} {ss = ss} {again = again} x l h =
    let list = all (eval_context_of routine env (areas spot.standing)) ss in
    let inner = does-all (site-loop level out start site) x in
    record { by = λ st d. meets-repeated file code routine r m env spot level last out start (at_line spot pc [] st) again h l (list m st).outcome (list m st).state (inner.by st d) }

-- ---- loops

pub does-loop : {file : ResolvedFile} {code : RawCode} {routine : ResolvedRoutine} {r : RawRoutine} {m : Meaning} {env : Env} {spot : Spot} → Site file code routine r m env spot → (level : ℕ) {pc last : ℕ} {ss : List ResolvedStatement} {again : Deed}
    → Plain r pc instruction.Turn → StandAll file code routine r (inside_loop level (suc last) pc env) ss (suc pc) last → Plain r last (instruction.Operation (op.Jump pc)) → Does file code routine r m env spot (suc last) again (at_line spot pc [])
    → Does file code routine r m env spot (suc last) (looped level (eval_context_of routine env (areas spot.standing)) ss again) (at_line spot pc [])
does-loop {spot = spot} site level t x j h = does-turn site.there t (does-list site level x (leads-plain-jump spot site.there j []) h)

pub does-while : {file : ResolvedFile} {code : RawCode} {routine : ResolvedRoutine} {r : RawRoutine} {m : Meaning} {env : Env} {spot : Spot} → Site file code routine r m env spot → (level : ℕ) {pc tested last : ℕ} {test : ResolvedExpr} {ss : List ResolvedStatement} {again : Deed}
    → Plain r pc instruction.Turn → Puts file code r env.context (suc last) test (suc pc) tested → Raising r env.context (suc last) tested (instruction.Operation (op.JumpUnlessTrue (suc last)))
    → StandAll file code routine r (inside_loop level (suc last) pc env) ss (suc tested) last → Plain r last (instruction.Operation (op.Jump pc)) → Does file code routine r m env spot (suc last) again (at_line spot pc [])
    → Does file code routine r m env spot (suc last) (while_true level (eval_context_of routine env (areas spot.standing)) test ss again) (at_line spot pc [])
does-while {spot = spot} site level t e u x j h =
    does-turn site.there t (does-after site (evals-truth_of site.simulates site.there e [])
    (does-test site.there [] u (does-list site level x (leads-plain-jump spot site.there j []) h) does-normal))

pub does-repeat : {file : ResolvedFile} {code : RawCode} {routine : ResolvedRoutine} {r : RawRoutine} {m : Meaning} {env : Env} {spot : Spot} → Site file code routine r m env spot → (level : ℕ) {pc test last : ℕ} {until : ResolvedExpr} {ss : List ResolvedStatement} {again : Deed}
    → Plain r pc instruction.Turn → StandAll file code routine r (inside_loop level (suc last) test env) ss (suc pc) test → Puts file code r env.context (suc last) until test last
    → Raising r env.context (suc last) last (instruction.Operation (op.JumpUnlessTrue pc)) → Does file code routine r m env spot (suc last) again (at_line spot pc [])
    → Does file code routine r m env spot (suc last) (until_true level (eval_context_of routine env (areas spot.standing)) ss until again) (at_line spot pc [])
does-repeat site level t x e u h = does-turn site.there t (does-list site level x (λ st. leads-here) (does-after site (evals-truth_of site.simulates site.there e []) (does-test site.there [] u does-normal h)))

-- ---- IF, and CASE without an operand

pub does-branches : {file : ResolvedFile} {code : RawCode} {routine : ResolvedRoutine} {r : RawRoutine} {m : Meaning} {spot : Spot} {env : Env} {out : ℕ} {bs : List ResolvedBranch} {pc end : ℕ} → Site file code routine r m env spot → Branches file code routine r env out bs pc end → {otherwise : Deed}
    → Does file code routine r m env spot out otherwise (at_line spot end []) → Does file code routine r m env spot out (branched (eval_context_of routine env (areas spot.standing)) truth_of bs otherwise) (at_line spot pc [])
does-branches site no_branch h = h
does-branches {spot = spot} site (branch e u x j more) h =
    does-after site (evals-truth_of site.simulates site.there e []) (does-test site.there [] u (does-on (leads-plain-jump spot site.there j []) (does-all site x)) (does-branches site more h))
