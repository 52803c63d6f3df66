-- What is expected of the command that writes the listing of a module file.
use Rattle.std.specs.Prelude.{◌≡◌, ℕ, List}
use Rattle.psm_build.specs.ModuleCode.{MeansModule}
use Rattle.psm_build.specs.Program.{IsModuleFile, StandsFor}
use Rattle.psm_code.specs.declared.code.RawCode.{RawCode}
use Rattle.psm_files.specs.Expected.{Expected, with_line}
use Rattle.psm_files.specs.Given.{Given}
use Rattle.psm_files.specs.declared.status.Status.TheVariants.{Done}
use Rattle.psm_object.specs.Listing.{listing}
use Rattle.psm_commands.specs.Sources.{ForModule}

-- the text is the listing of a code that stands for the module file: scripts have the same faults over both, and the same sessions
pub record CompilesTo (ms text : List ℕ) : Type 0 where
  pub code : RawCode
  pub stands : StandsFor ms code
  pub means : MeansModule ms code
  pub text_is : text ≡ listing code

-- one piece, which is such a text
pub record IsListed (given : Given) (ms : List ℕ) (expected : Expected) : Type 0 where
  pub text : List ℕ
  pub compiles : CompilesTo ms text
  pub none_fails : given.NoneFails
  pub expected_is : expected ≡ with_line Done text

abbrev pub ForCompile : Given → List ℕ → Expected → Type 0
ForCompile given name = ForModule given name (IsListed given)

-- the status alone, whichever of the codes that stand for a module file is listed
abbrev pub StatusForCompile : Given → List ℕ → Expected → Type 0
StatusForCompile given name = ForModule given name (λ ms expected. IsModuleFile ms × (expected.status ≡ Done))
