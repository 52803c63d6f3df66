-- The commands that are made of those of an accepted script stand for them, over code that stands for a well-formed file.
use Rattle.std.proofs.Common.{◌≡◌, ℕ, List, [], ◌∷◌, Option, Some, None, refl, sym, ◌∙◌}
use Rattle.std.specs.Prelude.{All, slice_get}
use Rattle.std.proofs.lemmas.List.Elements.{All-head, All-tail}
use Rattle.psm_code.specs.declared.code.CodeTable.{CodeTable}
use Rattle.psm_code.specs.declared.code.RawCode.{RawCode}
use Rattle.psm_resolved.specs.declared.file.ResolvedFile.{ResolvedFile}
use Rattle.psm_resolved.specs.declared.file.ResolvedTable.{ResolvedTable}
use Rattle.psm_meaning.specs.Session.{Command, Call, Insert, Select, Commit, Rollback}
use Rattle.psm_simulation.specs.Changes as changes
use Rattle.psm_simulation.specs.Simulation.{FileStands}
use Rattle.psm_codegen.specs.Files.{FileWritten}
use Rattle.psm_typing.specs.TypingContext.{Each, IsThere}
use Rattle.psm_typing.specs.Scripts.{IsCommand}
use Rattle.psm_wellformed.specs.Files.{WellFormedFile}
use Rattle.psm_session.specs.Ends.{FitsCommand}
use Rattle.psm_session.specs.declared.command.ScriptCommand.{ScriptCommand}
use Rattle.psm_session.specs.declared.command.ScriptCommand.TheVariants as made
use Rattle.psm_script_code.specs.Made.{CommandMade, CommandsMade, known_of_tables}
use Rattle.psm_script_code.specs.WellFormed.{WellFormedCommand}
use Rattle.psm_script_code.proofs.Fits.{well_formed_over_tables}
use Rattle.psm_script_code.proofs.Heads.{written_heads}
use Rattle.psm_session_simulation.specs.Standing.{CommandStands, CommandsStand, InsertStands}
use Rattle.psm_build.proofs.Procedures.{procedure_stands}

-- ---- tables

table_stands : (file : ResolvedFile) (code : RawCode) (n : ℕ) → FileStands file code → IsThere (slice_get file.tables n) → InsertStands file code n
table_stands file code n stands there = by (slice_get file.tables n) (slice_get code.tables n) refl refl there (stands.tables n).1
  where
    by : (t : Option ResolvedTable) (u : Option CodeTable) → slice_get file.tables n ≡ t → slice_get code.tables n ≡ u → IsThere t → changes.SameTable t u → InsertStands file code n
    by None u e f there same = absurd there
    by (Some t) None e f there same = absurd same
    by (Some t) (Some u) e f there same = record { named = t; coded = u; there = e; at = f; stands = same; keys = (stands.tables n).0 }

-- ---- commands

module _ (file : ResolvedFile) (code : RawCode) (written : FileWritten file code) (stands : FileStands file code) (well_formed : WellFormedFile file) where
  command_stands : (c : Command) (d : ScriptCommand) → CommandMade code c d → IsCommand file c → WellFormedCommand file c → FitsCommand code d → CommandStands file code c d
  command_stands (Call procedure values) (made.Call n args) h is well_formed_code fits =
      (sym h.1, procedure_stands file code written well_formed procedure n fits.routine fits.there (sym h.0 ∙ fits.there))
  command_stands (Insert table columns rows) (made.Insert at places lists) h is well_formed_code fits = (sym h.0, sym h.1, sym h.2, table_stands file code table stands is)
  command_stands (Select query) (made.Select lines) h is well_formed_code fits = record { known = known_of_tables code; none = refl; is = (well_formed_over_tables file code (written_heads file code written) query well_formed_code).is; made = h }
  command_stands Commit made.Commit h is well_formed_code fits = tt
  command_stands Rollback made.Rollback h is well_formed_code fits = tt
  command_stands (Call procedure values) (made.Insert at places lists) h is well_formed_code fits = absurd h
  command_stands (Call procedure values) (made.Select lines) h is well_formed_code fits = absurd h
  command_stands (Call procedure values) made.Commit h is well_formed_code fits = absurd h
  command_stands (Call procedure values) made.Rollback h is well_formed_code fits = absurd h
  command_stands (Insert table columns rows) (made.Call n args) h is well_formed_code fits = absurd h
  command_stands (Insert table columns rows) (made.Select lines) h is well_formed_code fits = absurd h
  command_stands (Insert table columns rows) made.Commit h is well_formed_code fits = absurd h
  command_stands (Insert table columns rows) made.Rollback h is well_formed_code fits = absurd h
  command_stands (Select query) (made.Call n args) h is well_formed_code fits = absurd h
  command_stands (Select query) (made.Insert at places lists) h is well_formed_code fits = absurd h
  command_stands (Select query) made.Commit h is well_formed_code fits = absurd h
  command_stands (Select query) made.Rollback h is well_formed_code fits = absurd h
  command_stands Commit (made.Call n args) h is well_formed_code fits = absurd h
  command_stands Commit (made.Insert at places lists) h is well_formed_code fits = absurd h
  command_stands Commit (made.Select lines) h is well_formed_code fits = absurd h
  command_stands Commit made.Rollback h is well_formed_code fits = absurd h
  command_stands Rollback (made.Call n args) h is well_formed_code fits = absurd h
  command_stands Rollback (made.Insert at places lists) h is well_formed_code fits = absurd h
  command_stands Rollback (made.Select lines) h is well_formed_code fits = absurd h
  command_stands Rollback made.Commit h is well_formed_code fits = absurd h

  pub commands_stand : (cs : List Command) (ds : List ScriptCommand) → CommandsMade code cs ds → Each (IsCommand file) cs → Each (WellFormedCommand file) cs → All (FitsCommand code) ds → CommandsStand file code cs ds
  commands_stand [] [] h is well_formed_code fits = tt
  commands_stand [] (d ∷ ds) h is well_formed_code fits = absurd h
  commands_stand (c ∷ cs) [] h is well_formed_code fits = absurd h
  commands_stand (c ∷ cs) (d ∷ ds) h is well_formed_code fits =
      (command_stands c d h.0 is.0 well_formed_code.0 (All-head (FitsCommand code) d ds fits), commands_stand cs ds h.1 is.1 well_formed_code.1 (All-tail (FitsCommand code) d ds fits))
