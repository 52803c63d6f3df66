-- The contract of a command: what is expected of it.
use Rattle.std.specs.Prelude.{ℕ, List, All}
use Rattle.psm_files.specs.Answer.{Completes, Says, Stayed}
use Rattle.psm_files.specs.Expected.{Expected}
use Rattle.psm_files.specs.Fetches.{Fetches}
use Rattle.psm_files.specs.Given.{Given, as_fetched, as_held}
use Rattle.psm_files.specs.declared.status.Status.{Status}
use Rattle.psm_session.specs.Put.{Sunk}
use Rattle.psm_commands.specs.Command.{Command, Run, Compile, Exec, Generate, files_of}
use Rattle.psm_commands.specs.Run.{ForRun}
use Rattle.psm_commands.specs.Compile.{ForCompile, StatusForCompile}
use Rattle.psm_commands.specs.Exec.{ForExec}
use Rattle.psm_commands.specs.Generate.{ForGenerate}

-- this is expected of the command: a status and what is written with it
abbrev pub ForCommand : Given → Command → Expected → Type 0
ForCommand given (Run f) = ForRun given f
ForCommand given (Compile name) = ForCompile given name
ForCommand given (Exec f) = ForExec given f
ForCommand given (Generate calls) = ForGenerate given calls

-- the status that is expected of it
abbrev pub StatusFor : Given → Command → Expected → Type 0
StatusFor given (Run f) = ForRun given f
StatusFor given (Compile name) = StatusForCompile given name
StatusFor given (Exec f) = ForExec given f
StatusFor given (Generate calls) = ForGenerate given calls

-- no fetch of a file that the command reads failed
abbrev pub AreFetched : Fetches → Command → Type 0
AreFetched fetches command = All (λ name. Stayed (fetches.before name) (fetches.after name)) (files_of command)

-- each status comes for its cause, and with it stands what is written
abbrev pub CommandSays : Fetches → Command → Sunk → Status → Type 0
CommandSays fetches command = Says (ForCommand (as_fetched fetches) command)

-- Where no fetch of its files failed, and no put, the status that is expected for what the shelf holds of them is answered, unless
-- memory ran out.
abbrev pub CommandCompletes : Fetches → Command → Sunk → Status → Type 0
CommandCompletes fetches command sunk answer = AreFetched fetches command → Completes (StatusFor (as_held fetches.held) command) sunk answer
