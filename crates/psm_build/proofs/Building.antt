-- What is answered for a file, from the answers of its steps.
use Rattle.std.proofs.Common.{◌≡◌, ℕ, List, Result, Ok, Err, refl, sym, subst, inl, inr}
use Rattle.std.specs.Prelude.{All, IfOk, IsOkUnless}
use Rattle.std.proofs.lemmas.List.Elements.{All-from_recursion}
use Rattle.psm_tree.specs.declared.file.FileTree.{FileTree}
use Rattle.psm_tree.specs.declared.script.ScriptTree.{ScriptTree}
use Rattle.psm_meaning.specs.Session.{Command}
use Rattle.psm_check_script.proofs.Named.{commands_there}
use Rattle.psm_check_script.specs.Checked.{Checks, script_of}
use Rattle.psm_check_script.specs.Known.{known_of}
use Rattle.psm_check_script.specs.There.{IsThere}
use Rattle.psm_check_script.specs.declared.check.CheckFault.{CheckFault}
use Rattle.psm_check_script.specs.declared.check.CheckFault.TheVariants as checks
use Rattle.psm_code.specs.declared.code.RawCode.{RawCode}
use Rattle.psm_session.specs.declared.command.ScriptCode.{ScriptCode}
use Rattle.psm_faults.specs.Source.{module_files, scripts, Accepts, IsTreeOf, IsAccepted, IsAcceptedScript}
use Rattle.psm_faults.specs.Reported.{reported_of_script}
use Rattle.psm_faults.specs.declared.fault.BuildFault.{BuildFault}
use Rattle.psm_faults.specs.declared.fault.Fault.{Fault}
use Rattle.psm_faults.specs.declared.fault.BuildFault.TheVariants.{Refused, Memory}
use Rattle.psm_build.specs.Program.{IsModuleFault, IsModuleFile, IsScriptFault, IsScriptFile, StandsFor}
use Rattle.psm_build.specs.Building.{ReadsTree, Compiles, Builds, BuildsScript, BuildsOver, GivesRefusal}
use Rattle.psm_build.specs.Outcome.{RunsOver}
use Rattle.psm_build.proofs.Compiled.{compiled_stands, fault_over, script_file_over}
use Rattle.psm_build.proofs.Files.{module_exclusive, script_exclusive}
use Rattle.psm_build.proofs.Scripts.{runs_over}

-- a file without a tree
pub module_without_tree : (bytes : List ℕ) (e : BuildFault) → ReadsTree module_files bytes (Err e) → Builds bytes (Err e)
module_without_tree bytes (Refused line column fault) h = inl h
module_without_tree bytes Memory h = tt

-- a file whose tree has a fault
pub module_with_fault : (bytes : List ℕ) (tree : FileTree) (e : BuildFault) → IsTreeOf module_files bytes tree → Accepts tree (Err e) → Builds bytes (Err e)
module_with_fault bytes tree (Refused line column fault) is h = inr (record { tree = tree; tree_is = is; breaks = h })
module_with_fault bytes tree Memory is h = tt

-- a file whose tree has no fault
pub module_compiled : (bytes : List ℕ) (tree : FileTree) (answer : Result RawCode BuildFault) → IsTreeOf module_files bytes tree → IsAccepted tree → Compiles tree answer → Builds bytes answer
module_compiled bytes tree (Ok code) is accepted h = compiled_stands bytes tree code is accepted h
module_compiled bytes tree (Err (Refused line column fault)) is accepted h = absurd h
module_compiled bytes tree (Err Memory) is accepted h = tt

pub script_without_tree : (code : RawCode) (bytes : List ℕ) (e : BuildFault) → ReadsTree scripts bytes (Err e) → BuildsScript code bytes (Err e)
script_without_tree code bytes (Refused line column fault) h = inl h
script_without_tree code bytes Memory h = tt

-- what the commands of an accepted script name is there in the code
pub script_there : (code : RawCode) (tree : ScriptTree) (commands : List Command) → IsAcceptedScript (known_of code) tree → commands ≡ script_of (known_of code) tree → All (IsThere code) commands
script_there code tree commands accepted e =
    subst (All (IsThere code)) (sym e) (All-from_recursion (IsThere code) (script_of (known_of code) tree) (commands_there code tree.commands accepted))

-- a script that isn't accepted
pub script_refused : (code : RawCode) (bytes : List ℕ) (tree : ScriptTree) (fault : CheckFault) → IsTreeOf scripts bytes tree → Checks (known_of code) tree (Err fault) → BuildsScript code bytes (Err (reported_of_script fault))
script_refused code bytes tree (checks.Rule place rule) is first =
    inr (record { tree = tree; tree_is = is; breaks = record { fault = record { place = place; rule = rule }; first = first; reported_is = refl } })
script_refused code bytes tree checks.Memory is h = tt

-- the answer for a module file
pub module_given : (bytes : List ℕ) (answer : Result RawCode BuildFault) → Builds bytes answer → IsModuleFile bytes → IsOkUnless answer Memory
module_given bytes (Ok code) h is = tt
module_given bytes (Err (Refused line column fault)) h is = absurd ((module_exclusive bytes).file_or_fault line column fault is h)
module_given bytes (Err Memory) h is = refl

-- and its refusal, where the bytes are none
pub module_refused : (bytes : List ℕ) (answer : Result RawCode BuildFault) → Builds bytes answer → (l c : ℕ) (f : Fault) → IsModuleFault bytes l c f → GivesRefusal l c f answer
module_refused bytes (Ok code) h l c f k = (module_exclusive bytes).file_or_fault l c f h.file k
module_refused bytes (Err (Refused line column fault)) h l c f k = inl ((module_exclusive bytes).one_fault line column l c fault f h k)
module_refused bytes (Err Memory) h l c f k = inr refl

-- the answer over the module file for which the code stands
pub built_over : (code : RawCode) (ss : List ℕ) (answer : Result ScriptCode BuildFault) → BuildsScript code ss answer → (ms : List ℕ) → StandsFor ms code → BuildsOver ms ss answer
built_over code ss (Ok s) h ms stands = script_file_over ms ss code s.commands stands h
built_over code ss (Err (Refused line column fault)) h ms stands = fault_over ms ss code line column fault stands h
built_over code ss (Err Memory) h ms stands = tt

-- what is given over code that stands for a module file can be run, and shows the session that the two files end in
pub given_runs : (code : RawCode) (ss : List ℕ) (answer : Result ScriptCode BuildFault) → BuildsScript code ss answer → (ms : List ℕ) → StandsFor ms code → IfOk answer (λ s. RunsOver ms ss code s.commands)
given_runs code ss (Ok s) h ms stands = runs_over ms ss code s.commands stands h
given_runs code ss (Err e) h ms stands = tt

-- the answer for a script over that file
pub script_given : (code : RawCode) (ss : List ℕ) (answer : Result ScriptCode BuildFault) → BuildsScript code ss answer → (ms : List ℕ) → StandsFor ms code → IsScriptFile ms ss → IsOkUnless answer Memory
script_given code ss (Ok s) h ms stands is = tt
script_given code ss (Err (Refused line column fault)) h ms stands is = absurd ((script_exclusive ms ss).file_or_fault line column fault is (fault_over ms ss code line column fault stands h))
script_given code ss (Err Memory) h ms stands is = refl

-- and its refusal, where the bytes are none
pub script_refused_over : (code : RawCode) (ss : List ℕ) (answer : Result ScriptCode BuildFault) → BuildsScript code ss answer → (ms : List ℕ) → StandsFor ms code → (l c : ℕ) (f : Fault) → IsScriptFault ms ss l c f
    → GivesRefusal l c f answer
script_refused_over code ss (Ok s) h ms stands l c f k = (script_exclusive ms ss).file_or_fault l c f (script_file_over ms ss code s.commands stands h) k
script_refused_over code ss (Err (Refused line column fault)) h ms stands l c f k =
    inl ((script_exclusive ms ss).one_fault line column l c fault f (fault_over ms ss code line column fault stands h) k)
script_refused_over code ss (Err Memory) h ms stands l c f k = inr refl
