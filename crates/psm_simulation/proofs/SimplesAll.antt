-- Simple statements.
use Rattle.std.proofs.Common.{ℕ, List, []}
use Rattle.psm_resolved.specs.declared.file.ResolvedFile.{ResolvedFile}
use Rattle.psm_resolved.specs.declared.file.ResolvedRoutine.{ResolvedRoutine}
use Rattle.psm_resolved.specs.declared.statement.ResolvedArgument.{ResolvedArgument}
use Rattle.psm_resolved.specs.declared.statement.ResolvedSimple.{ResolvedSimple}
use Rattle.psm_resolved.specs.declared.statement.ResolvedSimple.TheVariants as simples
use Rattle.psm_meaning.specs.Acts.{Meaning}
use Rattle.psm_meaning.specs.Statements.{simple}
use Rattle.psm_code.specs.declared.code.RawCode.{RawCode}
use Rattle.psm_code.specs.declared.code.RawRoutine.{RawRoutine}
use Rattle.psm_simulation.specs.Agreement.{Spot, areas}
use Rattle.psm_simulation.specs.Changes.{TablesStand}
use Rattle.psm_simulation.specs.Env.{Env, eval_context_of}
use Rattle.psm_simulation.specs.Scheme.{Simple}
use Rattle.psm_simulation.proofs.Doing.{Does, Site, at_line}
use Rattle.psm_simulation.proofs.Simples.{does-return, does-set}
use Rattle.psm_simulation.proofs.SimplesChanging.{does-delete, does-insert, does-update}
use Rattle.psm_simulation.proofs.SimplesCursors.{does-close, does-fetch, does-open}
use Rattle.psm_simulation.proofs.SimplesDiagnostics.{does-diagnostics}
use Rattle.psm_simulation.proofs.SimplesInto.{does-select_into}
use Rattle.psm_simulation.proofs.SimplesLeaving.{does-iterate, does-leave}
use Rattle.psm_simulation.proofs.SimplesSignal.{does-resignal, does-signal}

-- what the lines of a simple statement do
abbrev pub DoesSimple : ResolvedFile → RawCode → ResolvedRoutine → RawRoutine → Meaning → Env → Spot → ℕ → ℕ → ResolvedSimple → Type 0
DoesSimple file code routine r m env spot pc end statement = Does file code routine r m env spot end (simple file (eval_context_of routine env (areas spot.standing)) statement) (at_line spot pc [])

pub does-simple : {file : ResolvedFile} {code : RawCode} {routine : ResolvedRoutine} {r : RawRoutine} {m : Meaning} {env : Env} {spot : Spot} → Site file code routine r m env spot → TablesStand file code → {pc end : ℕ} (statement : ResolvedSimple)
    → ((procedure : ℕ) (args : List ResolvedArgument) → Simple file code routine r env end (simples.Call procedure args) pc → DoesSimple file code routine r m env spot pc end (simples.Call procedure args))
    → Simple file code routine r env end statement pc → DoesSimple file code routine r m env spot pc end statement
does-simple site tables (simples.Set slot e) call x = does-set site slot e x
does-simple site tables (simples.Call procedure args) call x = call procedure args x
does-simple site tables (simples.Return e) call x = does-return site e x
does-simple site tables (simples.Leave level) call x = does-leave site level x
does-simple site tables (simples.Iterate level) call x = does-iterate site level x
does-simple site tables (simples.Signal s) call x = does-signal site s x
does-simple site tables (simples.Resignal s) call x = does-resignal site s x
does-simple site tables (simples.GetDiagnostics d) call x = does-diagnostics site d x
does-simple site tables (simples.SelectInto query slots) call x = does-select_into site query slots x
does-simple site tables (simples.Insert table columns rows) call x = does-insert site tables table columns rows x
does-simple site tables (simples.Update table sets which) call x = does-update site tables table sets which x
does-simple site tables (simples.Delete table which) call x = does-delete site tables table which x
does-simple site tables (simples.Open cursor) call x = does-open site cursor x
does-simple site tables (simples.Fetch cursor slots) call x = does-fetch site cursor slots x
does-simple site tables (simples.Close cursor) call x = does-close site cursor x
