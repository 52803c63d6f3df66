-- One step of the meaning, and all steps.
use Rattle.std.proofs.Common.{ℕ, zero, suc, sym, subst, List, []}
use Rattle.psm_resolved.specs.declared.file.ResolvedFile.{ResolvedFile}
use Rattle.psm_resolved.specs.declared.file.ResolvedRoutine.{ResolvedRoutine}
use Rattle.psm_resolved.specs.declared.statement.ResolvedArgument.{ResolvedArgument}
use Rattle.psm_resolved.specs.declared.statement.ResolvedBlock.{ResolvedBlock}
use Rattle.psm_resolved.specs.declared.statement.ResolvedBranch.{ResolvedBranch}
use Rattle.psm_resolved.specs.declared.statement.ResolvedHandler.{ResolvedHandler}
use Rattle.psm_resolved.specs.declared.statement.ResolvedSimple.TheVariants as simples
use Rattle.psm_resolved.specs.declared.statement.ResolvedStatement.{ResolvedStatement, out-ResolvedStatement}
use Rattle.psm_resolved.specs.declared.statement.ResolvedStatement.TheOpen.{ResolvedStatement-F}
use Rattle.psm_meaning.specs.Acts.{Meaning, part}
use Rattle.psm_meaning.specs.Meaning.{meaning, statement, step}
use Rattle.psm_meaning.specs.Statements.{simple as simple_deed}
use Rattle.psm_code.specs.declared.code.RawCode.{RawCode}
use Rattle.psm_code.specs.declared.code.RawRoutine.{RawRoutine}
use Rattle.psm_simulation.specs.Agreement.{Spot, areas}
use Rattle.psm_simulation.specs.Env.{Env, eval_context_of}
use Rattle.psm_simulation.specs.Scheme.{Simple, Stands, case, compared, compound, for_, if_, loop, repeat, simple, while}
use Rattle.psm_simulation.specs.Simulation.{FileStands, Simulates}
use Rattle.psm_simulation.proofs.Choices.{does-compares, does-drop, does-otherwise}
use Rattle.psm_simulation.proofs.Compounds.{does-compound}
use Rattle.psm_simulation.proofs.Doing.{Does, Site, at_line, does-after, does-all, does-normal, does-part}
use Rattle.psm_simulation.proofs.Procedures.{evals-call}
use Rattle.psm_simulation.proofs.SimplesAll.{does-simple}
use Rattle.psm_simulation.proofs.Functions.{called-evals}
use Rattle.psm_simulation.proofs.Looping.{does-branches, does-loop, does-repeat, does-while}
use Rattle.psm_simulation.proofs.Rounds.{does-for, does-round, does-rounds}
use Rattle.psm_simulation.proofs.Parts.{evals-value_of}
use Rattle.psm_simulation.proofs.Valued.{value-stepped}

module _ (file : ResolvedFile) (code : RawCode) (stands : FileStands file code) where
  -- CALL
  calls-do : {routine : ResolvedRoutine} {r : RawRoutine} {m : Meaning} {env : Env} {spot : Spot} {pc end : ℕ} → Site file code routine r m env spot → (procedure : ℕ) (args : List ResolvedArgument) → Simple file code routine r env end (simples.Call procedure args) pc
      → Does file code routine r m env spot end (simple_deed file (eval_context_of routine env (areas spot.standing)) (simples.Call procedure args)) (at_line spot pc [])
  calls-do {pc = pc} {end = end} site procedure args x = does-after site (evals-call stands site procedure x.1 x.0 end pc args x.2 x.3 x.4 x.5 x.6) (λ u. does-normal)

  -- what the lines of a statement of this layer do
  abbrev DoesAs : ResolvedRoutine → RawRoutine → Meaning → Spot → Env → ResolvedStatement → ℕ → ℕ → ResolvedStatement-F ResolvedStatement ResolvedBlock ResolvedBranch ResolvedHandler → Type 0
  DoesAs routine r m spot env s pc end layer = Does file code routine r m env spot end (statement file (eval_context_of routine env (areas spot.standing)) (part (eval_context_of routine env (areas spot.standing)) s) layer) (at_line spot pc [])

  -- a statement, whose parts are as they mean
  does-statement : {routine : ResolvedRoutine} {r : RawRoutine} {m : Meaning} {spot : Spot} {env : Env} {s : ResolvedStatement} {pc end : ℕ} → Site file code routine r m env spot → Stands file code routine r env s pc end → DoesAs routine r m spot env s pc end (out-ResolvedStatement s)
  does-statement {routine = routine} {r = r} {m = m} {spot = spot} site (compound {env = env} {s = s} {pc = pc} {exit = exit} level block v e declares enter b handles go list leave) = subst (DoesAs routine r m spot env s pc (suc exit)) (sym e) (does-compound site level block v declares enter b handles go list leave)
  does-statement {routine = routine} {r = r} {m = m} {spot = spot} site (loop {env = env} {s = s} {pc = pc} {last = last} level statements e t x j) = subst (DoesAs routine r m spot env s pc (suc last)) (sym e) (does-loop site level t x j (does-part site (loop level statements e t x j)))
  does-statement {routine = routine} {r = r} {m = m} {spot = spot} site (while {env = env} {s = s} {pc = pc} {last = last} level test statements e t p u x j) = subst (DoesAs routine r m spot env s pc (suc last)) (sym e) (does-while site level t p u x j (does-part site (while level test statements e t p u x j)))
  does-statement {routine = routine} {r = r} {m = m} {spot = spot} site (repeat {env = env} {s = s} {pc = pc} {last = last} level statements until e t x p u) = subst (DoesAs routine r m spot env s pc (suc last)) (sym e) (does-repeat site level t x p u (does-part site (repeat level statements until e t x p u)))
  does-statement {routine = routine} {r = r} {m = m} {spot = spot} site (if_ {env = env} {s = s} {pc = pc} {end = end} branches otherwise e b x) = subst (DoesAs routine r m spot env s pc end) (sym e) (does-branches site b (does-all site x))
  does-statement {routine = routine} {r = r} {m = m} {spot = spot} site (case {env = env} {s = s} {pc = pc} {end = end} branches otherwise e b x) = subst (DoesAs routine r m spot env s pc end) (sym e) (does-branches site b (does-otherwise site x))
  does-statement {routine = routine} {r = r} {m = m} {spot = spot} site (compared {env = env} {s = s} {pc = pc} {end = end} operand branches otherwise e p b drop x) =
      subst (DoesAs routine r m spot env s pc end) (sym e) (does-after site (evals-value_of site.simulates site.there p []) (λ d. does-compares site b d (does-drop site.there drop d (does-otherwise site x))))
  does-statement {routine = routine} {r = r} {m = m} {spot = spot} site (for_ {env = env} {s = s} {pc = pc} {last = last} level context head statements inside e b o n t x k ss j q) = subst (DoesAs routine r m spot env s pc (suc (suc last))) (sym e) (does-for site level context head statements inside b o n t x k ss j q)
  does-statement {routine = routine} {r = r} {m = m} {spot = spot} site (simple {env = env} {s = s} {pc = pc} {end = end} simply e x) = subst (DoesAs routine r m spot env s pc end) (sym e) (does-simple site stands.tables simply (calls-do site) x)

  -- one step
  stepped : (m : Meaning) → Simulates file code m → Simulates file code (step file m)
  stepped m sim = record {
    value = value-stepped file code m stands sim (λ r spot there context resume. called-evals file code m stands sim r spot there context resume);
    done = λ routine r env spot there rs fits s pc end x st d. (does-statement (record { simulates = sim; stands = rs; there = there; fits = fits }) x).by st d;
    rounds = λ routine r env spot there rs fits level exit start head statements x owned st d. (does-round (record { simulates = sim; stands = rs; there = there; fits = fits }) level head statements x owned (does-rounds (record { simulates = sim; stands = rs; there = there; fits = fits }) level head statements x owned)).by st d;
  }

  -- the meaning with any fuel
  pub simulates : (h : ℕ) → Simulates file code (meaning file h)
  simulates zero = record { value = λ r spot there context resume e pc end p below. record { by = λ st d. tt }; done = λ routine r env spot there rs fits s pc end x st d. tt; rounds = λ routine r env spot there rs fits level exit start head statements x owned st d. tt }
  simulates (suc h) = stepped (meaning file h) (simulates h)
