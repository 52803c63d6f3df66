-- The contract of the program's one call: which status comes for which cause, and what is written.
use Rattle.std.specs.Prelude.{◌≡◌, ℕ, ◌⊎◌, String, List, map, Some, None, string_bytes}
use Rattle.std.specs.Global.{Global}
use Rattle.psm_session.specs.Put.{Sunk}
use Rattle.psm_files.specs.Answer.{Answers, Says, Stayed}
use Rattle.psm_files.specs.Expected.{Expected, with_line}
use Rattle.psm_files.specs.Fetches.{Fetches, NoneFailed}
use Rattle.psm_files.specs.Given.{as_fetched}
use Rattle.psm_files.specs.declared.status.Status.{Status}
use Rattle.psm_files.specs.declared.status.Status.TheVariants as status
use Rattle.psm_commands.specs.Command.{Command}
use Rattle.psm_commands.specs.Contract.{CommandCompletes, ForCommand}
use Rattle.psm.specs.Message.{usage}
use Rattle.psm.specs.Words.{command_in}

-- ---- what is expected

-- the words, and the fetches
pub record Asked : Type 0 where
  pub words : List (List ℕ)
  pub fetches : Fetches

abbrev pub asked_of : List (String Global) → Fetches → Asked
asked_of words fetches = record { words = map string_bytes words; fetches = fetches }

-- the words have no form
pub record IsMisused (asked : Asked) (expected : Expected) : Type 0 where
  pub unnamed : command_in asked.words ≡ None
  pub none_failed : NoneFailed asked.fetches
  pub expected_is : expected ≡ with_line status.Usage usage

-- the words state a command, of which this is expected
pub record IsCommanded (asked : Asked) (expected : Expected) : Type 0 where
  pub command : Command
  pub form : command_in asked.words ≡ Some command
  pub expected_of : ForCommand (as_fetched asked.fetches) command expected

abbrev pub IsExpected : Asked → Expected → Type 0
IsExpected asked expected = IsMisused asked expected ⊎ IsCommanded asked expected

-- ---- the answer

-- each status comes for its cause, and with it stands what is written
abbrev pub PsmSays : Asked → Sunk → Status → Type 0
PsmSays asked = Says (IsExpected asked)

-- ---- completeness

-- Words without a form are answered Usage, where no put failed. Where they state a command, the status that is expected for what the
-- shelf holds of its files is answered, where no put and no fetch of its files failed. Memory may run out in place of both.
pub record PsmCompletes (asked : Asked) (sunk : Sunk) (answer : Status) : Type 0 where
  pub misused : Stayed sunk.faults_before sunk.faults_after → command_in asked.words ≡ None → Answers status.Usage answer
  pub commanded : (command : Command) → command_in asked.words ≡ Some command → CommandCompletes asked.fetches command sunk answer
