-- What is put for a refusal, and for a session.
use Rattle.std.specs.Prelude.{◌≡◌, ℕ, List}
use Rattle.psm_meaning.specs.Acts.{NoTurns}
use Rattle.psm_meaning.specs.Session.{Session, Cut, Done}
use Rattle.psm_session.specs.Put.{Sunk, PutAll, PutSome, PutFirst}
use Rattle.psm_session.specs.declared.script.ScriptEnd.{ScriptEnd}
use Rattle.psm_session.specs.declared.script.ScriptEnd.TheVariants as ends
use Rattle.psm_files.specs.Answer.{PutsLine, RunsOut}
use Rattle.psm_files.specs.Expected.{with_line}
use Rattle.psm_files.specs.Message.{cannot_read, too_long}
use Rattle.psm_files.specs.declared.status.Status.{Status}
use Rattle.psm_files.specs.declared.status.Status.TheVariants as status
use Rattle.psm_commands.specs.Sources.{with_object_refusal, with_refusal}
use Rattle.psm_commands.specs.declared.source.Refusal.{Refusal}
use Rattle.psm_commands.specs.declared.source.Refusal.TheVariants.{Unread, TooLong, Refused, NoObject, Memory}

-- the line that says why the file of that name gives no code and no script
abbrev pub Reports : Refusal → List ℕ → Sunk → Status → Type 0
Reports Unread name sunk answer = PutsLine (with_line status.ReadFault (cannot_read name)) sunk answer
Reports TooLong name sunk answer = PutsLine (with_line status.TooLong (too_long name)) sunk answer
Reports (Refused w line column fault) name sunk answer = PutsLine (with_refusal w line column fault) sunk answer
Reports (NoObject line fault) name sunk answer = PutsLine (with_object_refusal line fault) sunk answer
Reports Memory name sunk answer = RunsOut sunk answer

-- the status of a run that ended so
abbrev pub status_of_end : ScriptEnd → Status
status_of_end ends.Done = status.Done
status_of_end ends.TurnsUsed = status.TurnsUsed
status_of_end ends.WriteFault = status.WriteFault
status_of_end ends.Memory = status.Memory

-- the status of a session's end, with what is written
abbrev pub Runs : Session → Sunk → Status → Type 0
Runs s sunk status.Done = (s.end ≡ Done) × PutAll sunk s.pieces
Runs s sunk status.TurnsUsed = (s.end ≡ Cut NoTurns) × PutAll sunk s.pieces
Runs s sunk status.WriteFault = PutSome sunk s.pieces
Runs s sunk status.Memory = PutFirst sunk s.pieces
Runs s sunk status.Usage = ⊥
Runs s sunk status.ReadFault = ⊥
Runs s sunk status.ModuleRefused = ⊥
Runs s sunk status.ScriptRefused = ⊥
Runs s sunk status.ObjectRefused = ⊥
Runs s sunk status.TooLong = ⊥
