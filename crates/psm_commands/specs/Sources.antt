-- What is expected for a file that gives code, and for a script over that.
use Rattle.std.specs.Prelude.{◌≡◌, ℕ, ◌⊎◌, List}
use Rattle.psm_faults.specs.declared.fault.Fault.{Fault}
use Rattle.psm_build.specs.Program.{IsModuleFault}
use Rattle.psm_files.specs.Expected.{Expected, with_line}
use Rattle.psm_files.specs.Given.{ForFile, Given}
use Rattle.psm_files.specs.declared.status.Status.{Status}
use Rattle.psm_files.specs.declared.status.Status.TheVariants.{ModuleRefused, ObjectRefused, ScriptRefused}
use Rattle.psm_load.specs.Loading.{IsObjectFault}
use Rattle.psm_load.specs.declared.fault.ObjectFault.{ObjectFault}
use Rattle.psm_commands.specs.Message.{object_refusal_line, refusal_line}
use Rattle.psm_commands.specs.declared.source.Which.{Which}
use Rattle.psm_commands.specs.declared.source.Which.TheVariants.{Module, Script}

-- ---- module files and scripts

abbrev pub status_of_refused : Which → Status
status_of_refused Module = ModuleRefused
status_of_refused Script = ScriptRefused

-- for a file with a fault, at that line and column
abbrev pub with_refusal : Which → ℕ → ℕ → Fault → Expected
with_refusal w line column fault = with_line (status_of_refused w) (refusal_line w line column fault)

-- the file has a fault, for which this is expected
pub record IsRefused (given : Given) (w : Which) (IsFault : ℕ → ℕ → Fault → Type 0) (expected : Expected) : Type 0 where
  pub line : ℕ
  pub column : ℕ
  pub fault : Fault
  pub is_fault : IsFault line column fault
  pub none_fails : given.NoneFails
  pub expected_is : expected ≡ with_refusal w line column fault

-- what is expected for a module file of that name, by what is expected for its bytes where they have no fault
abbrev pub ForModule : Given → List ℕ → (List ℕ → Expected → Type 0) → Expected → Type 0
ForModule given name For = ForFile given name (λ ms expected. IsRefused given Module (IsModuleFault ms) expected ⊎ For ms expected)

-- and for a script of that name, whose faults are these
abbrev pub ForScript : Given → (List ℕ → ℕ → ℕ → Fault → Type 0) → List ℕ → (List ℕ → Expected → Type 0) → Expected → Type 0
ForScript given IsFault name For = ForFile given name (λ ss expected. IsRefused given Script (IsFault ss) expected ⊎ For ss expected)

-- ---- objects

-- for an object with a fault, at that line
abbrev pub with_object_refusal : ℕ → ObjectFault → Expected
with_object_refusal line fault = with_line ObjectRefused (object_refusal_line line fault)

-- the bytes are no object, for which this is expected
pub record IsObjectRefused (given : Given) (os : List ℕ) (expected : Expected) : Type 0 where
  pub line : ℕ
  pub fault : ObjectFault
  pub is_fault : IsObjectFault os line fault
  pub none_fails : given.NoneFails
  pub expected_is : expected ≡ with_object_refusal line fault

-- what is expected for an object of that name, by what is expected for its bytes where they are one
abbrev pub ForObject : Given → List ℕ → (List ℕ → Expected → Type 0) → Expected → Type 0
ForObject given name For = ForFile given name (λ os expected. IsObjectRefused given os expected ⊎ For os expected)
