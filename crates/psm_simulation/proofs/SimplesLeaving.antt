-- LEAVE and ITERATE: the blocks in between are left one after another.
use Rattle.std.proofs.Common.{◌≡◌, ℕ, suc, Bool, true, false, List, [], ◌∷◌, nat_eq, subst, Option, Some, if◌then◌else◌}
use Rattle.psm_exprcode.specs.declared.op.Op.TheVariants as op
use Rattle.psm_resolved.specs.declared.file.ResolvedFile.{ResolvedFile}
use Rattle.psm_resolved.specs.declared.file.ResolvedRoutine.{ResolvedRoutine}
use Rattle.psm_resolved.specs.declared.statement.ResolvedSimple.TheVariants as simples
use Rattle.psm_meaning.specs.Acts.{Meaning}
use Rattle.psm_meaning.specs.State.{State}
use Rattle.psm_meaning.specs.Statements.{simple}
use Rattle.psm_code.specs.declared.code.RawCode.{RawCode}
use Rattle.psm_code.specs.declared.code.RawRoutine.{RawRoutine}
use Rattle.psm_code.specs.declared.instruction.Instruction.TheVariants as instruction
use Rattle.psm_code.specs.Parts.{routine_at}
use Rattle.psm_code.specs.State.{closed_cursors}
use Rattle.psm_simulation.specs.Agreement.{Acting, AreEntered, AreStanding, EvaluatesTo, Entered, Spot, Spotted, Standing, areas, iterating, leaving, with_standing}
use Rattle.psm_simulation.specs.Env.{EnclosingBlock, Env, IfElse, InBlock, InLoop, Iterates, Leaves, OverRows, Plain, eval_context_of}
use Rattle.psm_simulation.specs.Scheme.{Simple}
use Rattle.psm_simulation.proofs.Doing.{Does, Site, at_line, leads-plain-jump}
use Rattle.psm_simulation.proofs.Exiting.{leads-exit}
use Rattle.psm_simulation.proofs.Raising.{evaluates-closed, evaluates-to-from}

-- ---- the loop or the block that is named, or one outside

leave-loop : (code : RawCode) (r : RawRoutine) (spot : Spot) (standing : List Standing) (pc out : ℕ) → routine_at code spot.number ≡ Some r → (others : Type 0) (other : Option Spotted) (st : State)
    → (others → EvaluatesTo code spot (at_line (with_standing standing spot) pc [] st) other st) → (b : Bool) → IfElse b (Plain r pc (instruction.Operation (op.Jump out))) others
    → EvaluatesTo code spot (at_line (with_standing standing spot) pc [] st) (if b then Some (record { line = out; standing = standing; cursors = st.cursors }) else other) st
leave-loop code r spot standing pc out p others other st h true l = leads-plain-jump (with_standing standing spot) p l [] st
leave-loop code r spot standing pc out p others other st h false x = h x

leaves-evaluates : (file : ResolvedFile) (code : RawCode) (routine : ResolvedRoutine) (r : RawRoutine) (spot : Spot) → routine_at code spot.number ≡ Some r → (level : ℕ) (st : State) (enclosing : List EnclosingBlock) (standing : List Standing) (pc : ℕ)
    → AreEntered enclosing standing → AreStanding file code routine r standing → Leaves r enclosing level pc → EvaluatesTo code spot (at_line (with_standing standing spot) pc [] st) (leaving enclosing level standing st.cursors) st
leaves-evaluates file code routine r spot p level st [] standing pc e s x = absurd x
leaves-evaluates file code routine r spot p level st (InLoop l out again ∷ enclosing) standing pc e s x =
    leave-loop code r spot standing pc out p (Leaves r enclosing level pc) (leaving enclosing level standing st.cursors) st (λ y. leaves-evaluates file code routine r spot p level st enclosing standing pc e s y) (nat_eq level l) x
leaves-evaluates file code routine r spot p level st (InBlock l context exit ∷ enclosing) [] pc e s x = absurd e
leaves-evaluates file code routine r spot p level st (InBlock l context exit ∷ enclosing) (Entered v outer found ∷ standing) pc e s x =
    leave-loop code r spot (Entered v outer found ∷ standing) pc exit p (Plain r pc (instruction.Exit context) × Leaves r enclosing level (suc pc)) (leaving enclosing level standing (closed_cursors v.own st.cursors)) st
    (λ y. evaluates-to-from code spot st (leads-exit spot v outer found standing p s.0.block (subst (λ k. Plain r pc (instruction.Exit k)) e.1 y.0) st) (leaving enclosing level standing (closed_cursors v.own st.cursors))
    (evaluates-closed code spot (at_line (with_standing standing spot) (suc pc) [] (record st { cursors = closed_cursors v.own st.cursors })) st (closed_cursors v.own st.cursors) (leaving enclosing level standing (closed_cursors v.own st.cursors)) (leaves-evaluates file code routine r spot p level (record st { cursors = closed_cursors v.own st.cursors }) enclosing standing (suc pc) e.2 s.1 y.1))) (nat_eq level l) x
leaves-evaluates file code routine r spot p level st (InBlock l context exit ∷ enclosing) (Acting n resume area ∷ standing) pc e s x = absurd e
leaves-evaluates file code routine r spot p level st (OverRows context ∷ enclosing) [] pc e s x = absurd e
leaves-evaluates file code routine r spot p level st (OverRows context ∷ enclosing) (Entered v outer found ∷ standing) pc e s x =
    let cs = closed_cursors v.own st.cursors in
    evaluates-to-from code spot st (leads-exit spot v outer found standing p s.0.block (subst (λ k. Plain r pc (instruction.Exit k)) e.0 x.0) st) (leaving enclosing level standing cs)
    (evaluates-closed code spot (at_line (with_standing standing spot) (suc pc) [] (record st { cursors = cs })) st cs (leaving enclosing level standing cs) (leaves-evaluates file code routine r spot p level (record st { cursors = cs }) enclosing standing (suc pc) e.1 s.1 x.1))
leaves-evaluates file code routine r spot p level st (OverRows context ∷ enclosing) (Acting n resume area ∷ standing) pc e s x = absurd e

iterates-evaluates : (file : ResolvedFile) (code : RawCode) (routine : ResolvedRoutine) (r : RawRoutine) (spot : Spot) → routine_at code spot.number ≡ Some r → (level : ℕ) (st : State) (enclosing : List EnclosingBlock) (standing : List Standing) (pc : ℕ)
    → AreEntered enclosing standing → AreStanding file code routine r standing → Iterates r enclosing level pc → EvaluatesTo code spot (at_line (with_standing standing spot) pc [] st) (iterating enclosing level standing st.cursors) st
iterates-evaluates file code routine r spot p level st [] standing pc e s x = absurd x
iterates-evaluates file code routine r spot p level st (InLoop l out again ∷ enclosing) standing pc e s x =
    leave-loop code r spot standing pc again p (Iterates r enclosing level pc) (iterating enclosing level standing st.cursors) st (λ y. iterates-evaluates file code routine r spot p level st enclosing standing pc e s y) (nat_eq level l) x
iterates-evaluates file code routine r spot p level st (InBlock l context exit ∷ enclosing) [] pc e s x = absurd e
iterates-evaluates file code routine r spot p level st (InBlock l context exit ∷ enclosing) (Entered v outer found ∷ standing) pc e s x =
    evaluates-to-from code spot st (leads-exit spot v outer found standing p s.0.block (subst (λ k. Plain r pc (instruction.Exit k)) e.1 x.0) st) (iterating enclosing level standing (closed_cursors v.own st.cursors))
    (evaluates-closed code spot (at_line (with_standing standing spot) (suc pc) [] (record st { cursors = closed_cursors v.own st.cursors })) st (closed_cursors v.own st.cursors) (iterating enclosing level standing (closed_cursors v.own st.cursors)) (iterates-evaluates file code routine r spot p level (record st { cursors = closed_cursors v.own st.cursors }) enclosing standing (suc pc) e.2 s.1 x.1))
iterates-evaluates file code routine r spot p level st (InBlock l context exit ∷ enclosing) (Acting n resume area ∷ standing) pc e s x = absurd e
iterates-evaluates file code routine r spot p level st (OverRows context ∷ enclosing) [] pc e s x = absurd e
iterates-evaluates file code routine r spot p level st (OverRows context ∷ enclosing) (Entered v outer found ∷ standing) pc e s x =
    let cs = closed_cursors v.own st.cursors in
    evaluates-to-from code spot st (leads-exit spot v outer found standing p s.0.block (subst (λ k. Plain r pc (instruction.Exit k)) e.0 x.0) st) (iterating enclosing level standing cs)
    (evaluates-closed code spot (at_line (with_standing standing spot) (suc pc) [] (record st { cursors = cs })) st cs (iterating enclosing level standing cs) (iterates-evaluates file code routine r spot p level (record st { cursors = cs }) enclosing standing (suc pc) e.1 s.1 x.1))
iterates-evaluates file code routine r spot p level st (OverRows context ∷ enclosing) (Acting n resume area ∷ standing) pc e s x = absurd e

-- ---- the statements

pub does-leave : {file : ResolvedFile} {code : RawCode} {routine : ResolvedRoutine} {r : RawRoutine} {m : Meaning} {env : Env} {spot : Spot} → Site file code routine r m env spot → (level : ℕ) {pc end : ℕ} → Simple file code routine r env end (simples.Leave level) pc
    → Does file code routine r m env spot end (simple file (eval_context_of routine env (areas spot.standing)) (simples.Leave level)) (at_line spot pc [])
does-leave {file = file} {code = code} {routine = routine} {r = r} {env = env} {spot = spot} site level {pc = pc} x =
    record { by = λ st d. (leaves-evaluates file code routine r spot site.there level st env.enclosing spot.standing pc site.fits.entered site.fits.entries x, d) }

pub does-iterate : {file : ResolvedFile} {code : RawCode} {routine : ResolvedRoutine} {r : RawRoutine} {m : Meaning} {env : Env} {spot : Spot} → Site file code routine r m env spot → (level : ℕ) {pc end : ℕ} → Simple file code routine r env end (simples.Iterate level) pc
    → Does file code routine r m env spot end (simple file (eval_context_of routine env (areas spot.standing)) (simples.Iterate level)) (at_line spot pc [])
does-iterate {file = file} {code = code} {routine = routine} {r = r} {env = env} {spot = spot} site level {pc = pc} x =
    record { by = λ st d. (iterates-evaluates file code routine r spot site.there level st env.enclosing spot.standing pc site.fits.entered site.fits.entries x, d) }
