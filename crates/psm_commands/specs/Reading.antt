-- What is read of the files of a command, step by step.
use Rattle.std.specs.Prelude.{◌≡◌, ℕ, ◌⊎◌, List, Option, Some, None, IfSome, Result, Ok, Err}
use Rattle.std.specs.Global.{Vec}
use Rattle.psm_faults.specs.declared.fault.Fault.{Fault}
use Rattle.psm_faults.specs.declared.fault.BuildFault.{BuildFault}
use Rattle.psm_faults.specs.declared.fault.BuildFault.TheVariants as builds
use Rattle.psm_build.specs.ModuleCode.{IsScriptFaultOver}
use Rattle.psm_build.specs.Program.{IsModuleFault, IsScriptFault, IsScriptOf, StandsFor}
use Rattle.psm_code.specs.declared.code.RawCode.{RawCode}
use Rattle.psm_files.specs.Expected.{Expected, with_line}
use Rattle.psm_files.specs.Fetches.{Fetches, IsRead, IsTooLong, IsUnread}
use Rattle.psm_files.specs.Given.{ForFile, as_fetched}
use Rattle.psm_files.specs.Message.{cannot_read, too_long}
use Rattle.psm_files.specs.declared.status.Status.TheVariants.{ReadFault, TooLong}
use Rattle.psm_load.specs.Loading.{IsObject, IsObjectFault}
use Rattle.psm_load.specs.declared.fault.LoadFault.{LoadFault}
use Rattle.psm_load.specs.declared.fault.LoadFault.TheVariants as loads
use Rattle.psm_session.specs.declared.command.ScriptCode.{ScriptCode}
use Rattle.psm_session.specs.declared.silent.SilentEnd.{SilentEnd}
use Rattle.psm_commands.specs.Generate.{IsFound}
use Rattle.psm_commands.specs.Generated.{generated_module, generated_script}
use Rattle.psm_commands.specs.Sources.{IsObjectRefused, IsRefused, with_object_refusal, with_refusal}
use Rattle.psm_commands.specs.declared.source.Which.{Which}
use Rattle.psm_commands.specs.declared.source.Which.TheVariants.{Module, Script}
use Rattle.psm_commands.specs.declared.source.Refusal.{Refusal}
use Rattle.psm_commands.specs.declared.source.Refusal.TheVariants as refusal

-- what is expected for a file of that name which gives nothing for that reason
abbrev pub expected_of : List ℕ → Refusal → Option Expected
expected_of name refusal.Unread = Some (with_line ReadFault (cannot_read name))
expected_of name refusal.TooLong = Some (with_line TooLong (too_long name))
expected_of name (refusal.Refused w line column fault) = Some (with_refusal w line column fault)
expected_of name (refusal.NoObject line fault) = Some (with_object_refusal line fault)
expected_of name refusal.Memory = None

-- the bytes that a fetch of a name gave, or why there are none
abbrev pub GivesBytes : Fetches → List ℕ → Result (Vec ℕ) Refusal → Type 0
GivesBytes fetches name (Ok bytes) = IsRead fetches name bytes.items
GivesBytes fetches name (Err refusal.Unread) = IsUnread fetches name
GivesBytes fetches name (Err refusal.TooLong) = IsTooLong fetches name
GivesBytes fetches name (Err (refusal.Refused w line column fault)) = ⊥
GivesBytes fetches name (Err (refusal.NoObject line fault)) = ⊥
GivesBytes fetches name (Err refusal.Memory) = Unit {0}

-- ---- what is made of bytes

-- that holds of what is made of bytes; or nothing is made, for a reason of which that holds
abbrev pub Makes : {A : Type 0} → (A → Type 0) → (Refusal → Type 0) → Result A Refusal → Type 0
Makes Is IsReason (Ok a) = Is a
Makes Is IsReason (Err e) = IsReason e

-- memory ran out, or the bytes have that fault
abbrev pub IsFaultOf : Which → (ℕ → ℕ → Fault → Type 0) → Refusal → Type 0
IsFaultOf v IsFault refusal.Unread = ⊥
IsFaultOf v IsFault refusal.TooLong = ⊥
IsFaultOf v IsFault (refusal.Refused w line column fault) = (w ≡ v) × IsFault line column fault
IsFaultOf v IsFault (refusal.NoObject line fault) = ⊥
IsFaultOf v IsFault refusal.Memory = Unit {0}

abbrev pub IsFaultOfObject : List ℕ → Refusal → Type 0
IsFaultOfObject os refusal.Unread = ⊥
IsFaultOfObject os refusal.TooLong = ⊥
IsFaultOfObject os (refusal.Refused w line column fault) = ⊥
IsFaultOfObject os (refusal.NoObject line fault) = IsObjectFault os line fault
IsFaultOfObject os refusal.Memory = Unit {0}

-- why there is no code or no script, where the build refuses the file or memory runs out
abbrev pub refusal_of : Which → BuildFault → Refusal
refusal_of w (builds.Refused line column fault) = refusal.Refused w line column fault
refusal_of w builds.Memory = refusal.Memory

-- the same where the bytes are no object
abbrev pub refusal_of_load : LoadFault → Refusal
refusal_of_load (loads.Refused line fault) = refusal.NoObject line fault
refusal_of_load loads.Memory = refusal.Memory

-- ---- what is made of a generated module file and a generated script

abbrev pub IsFaultOfGenerated : ℕ → Refusal → Type 0
IsFaultOfGenerated calls e = IsFaultOf Module (IsModuleFault generated_module) e ⊎ IsFaultOf Script (IsScriptFault generated_module (generated_script calls)) e

abbrev pub Generates : ℕ → Result SilentEnd Refusal → Type 0
Generates calls (Ok end) = IsFound calls end.last.goes_on end.last.piece.items end.turns
Generates calls (Err e) = IsFaultOfGenerated calls e

-- ---- what is made of files

-- the file was read, and that holds of its bytes and of what was made of them
pub record IsMade {A : Type 0} (fetches : Fetches) (name : List ℕ) (Is : List ℕ → A → Type 0) (made : A) : Type 0 where
  pub bytes : List ℕ
  pub read : IsRead fetches name bytes
  pub is : Is bytes made

-- what is made of the file of that name; or why nothing is, for which that is expected
abbrev pub Gives : {A : Type 0} → Fetches → List ℕ → (List ℕ → A → Type 0) → (List ℕ → Expected → Type 0) → Result A Refusal → Type 0
Gives fetches name Is IsDue (Ok made) = IsMade fetches name Is made
Gives fetches name Is IsDue (Err e) = IfSome (expected_of name e) (ForFile (as_fetched fetches) name IsDue)

abbrev pub GivesModule : Fetches → List ℕ → Result RawCode Refusal → Type 0
GivesModule fetches name = Gives fetches name StandsFor (λ ms. IsRefused (as_fetched fetches) Module (IsModuleFault ms))

abbrev pub GivesObject : Fetches → List ℕ → Result RawCode Refusal → Type 0
GivesObject fetches name = Gives fetches name IsObject (IsObjectRefused (as_fetched fetches))

-- the commands of the script over the code
abbrev pub IsScriptBy : RawCode → List ℕ → ScriptCode → Type 0
IsScriptBy code ss script = IsScriptOf code ss script.commands

abbrev pub GivesScript : Fetches → RawCode → List ℕ → Result ScriptCode Refusal → Type 0
GivesScript fetches code name = Gives fetches name (IsScriptBy code) (λ ss. IsRefused (as_fetched fetches) Script (IsScriptFaultOver code ss))
