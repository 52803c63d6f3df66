-- The commands of the program, with what each is called with.
use Rattle.std.specs.Prelude.{ℕ, ◌≤◌, List, [], ◌∷◌}
use Rattle.psm_commands.specs.Generated.{most_calls}
use Rattle.psm_commands.specs.declared.command.Command.{Command as Spoken}
use Rattle.psm_commands.specs.declared.command.Command.TheVariants as spoken

-- the names of two files, of which the first gives code (a module file or an object) and the second is a script, and the turns of the session
pub record Files : Type 0 where
  pub for_code : List ℕ
  pub for_script : List ℕ
  pub turns : ℕ

abbrev pub named : List ℕ → List ℕ → ℕ → Files
named c s n = record { for_code = c; for_script = s; turns = n }

pub data Command : Type 0 where
  -- a script is run over a module file
  Run : Files → Command
  -- the listing of a module file is written
  Compile : List ℕ → Command
  -- a script is run over an object
  Exec : Files → Command
  -- a generated script of that many calls is run over a generated module file
  Generate : ℕ → Command

-- the command of a call
abbrev pub command_of : Spoken → Command
command_of (spoken.Run f) = Run (named f.for_code.now f.for_script.now f.turns)
command_of (spoken.Compile name) = Compile name.now
command_of (spoken.Exec f) = Exec (named f.for_code.now f.for_script.now f.turns)
command_of (spoken.Generate calls) = Generate calls

-- the names of the files that it reads, in their order
abbrev pub files_of : Command → List (List ℕ)
files_of (Run f) = f.for_code ∷ f.for_script ∷ []
files_of (Compile name) = name ∷ []
files_of (Exec f) = f.for_code ∷ f.for_script ∷ []
files_of (Generate calls) = []

-- a script is generated of a bounded number of calls
abbrev pub CanBeDone : Spoken → Type 0
CanBeDone (spoken.Run f) = Unit {0}
CanBeDone (spoken.Compile name) = Unit {0}
CanBeDone (spoken.Exec f) = Unit {0}
CanBeDone (spoken.Generate calls) = calls ≤ most_calls
