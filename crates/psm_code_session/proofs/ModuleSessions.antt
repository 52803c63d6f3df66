-- Over code that stands for a module file a script ends in the sessions that it ends in over the file.
use Rattle.std.proofs.Common.{◌≡◌, ℕ, List, sym, subst, inl, inr}
use Rattle.psm_table.specs.Table.{Contents}
use Rattle.psm_meaning.specs.Session.{Session, Standing}
use Rattle.psm_code.specs.declared.code.RawCode.{RawCode}
use Rattle.psm_session.specs.Ends.{beginning}
use Rattle.psm_session.specs.declared.command.ScriptCommand.{ScriptCommand}
use Rattle.psm_build.specs.ModuleCode.{IsScriptFaultOver}
use Rattle.psm_build.specs.Once.{Total}
use Rattle.psm_build.specs.Outcome.{empty_tables}
use Rattle.psm_build.specs.Program.{EndsIn, StandsFor, session_of, tables_after}
use Rattle.psm_build.proofs.Compiled.{fault_over, script_file_over}
use Rattle.psm_build.proofs.Files.{ends_in_once, script_exclusive}
use Rattle.psm_build.proofs.Scripts.{ends_in}
use Rattle.psm_build.proofs.Shown.{EndsInRuns}
use Rattle.psm_code_session.specs.CodeSession.{CodeEndsIn, HasSession, IsScriptOver, done, cut}
use Rattle.psm_code_session.proofs.Scripts.{script_session, script_total}

-- a session that ends in what runs end in is that session
is_session : (code : RawCode) (commands : List ScriptCommand) (s : Standing) (u v : Session) (following : ℕ → List Contents) → EndsInRuns code commands s v following → HasSession code commands s u → u ≡ v
is_session code commands s u v following is (done {pieces = pieces} {t = t} ran) = sym (is.done pieces t ran)
is_session code commands s u v following is (cut {pieces = pieces} {t = t} {piece = piece} r) = sym (is.cut pieces t piece r).0

module _ (ms ss : List ℕ) (code : RawCode) (stands : StandsFor ms code) (turns : ℕ) where
  pub over_file : (u : Session) → CodeEndsIn code ss turns u → EndsIn ms ss turns u
  over_file u c =
      let script = script_file_over ms ss code c.commands stands c.script in
      record {
        script = script;
        session_is = is_session code c.commands (beginning (empty_tables code) turns) u (session_of script turns) (tables_after script turns) (ends_in ms ss code c.commands stands c.script turns) c.session;
      }

  pub over_code : (u : Session) → EndsIn ms ss turns u → CodeEndsIn code ss turns u
  over_code u e = by (script_total code ss)
    where
      by : Total (IsScriptOver code ss) (IsScriptFaultOver code ss) → CodeEndsIn code ss turns u
      by (inl p) =
          let v = script_session code stands.well_formed_code ss p.commands p.script turns in
          let c : CodeEndsIn code ss turns v.0 = record { commands = p.commands; script = p.script; session = v.1 } in
          subst (CodeEndsIn code ss turns) (ends_in_once ms ss turns v.0 u (over_file v.0 c) e) c
      by (inr f) = absurd ((script_exclusive ms ss).file_or_fault f.0 f.1 f.2 e.script (fault_over ms ss code f.0 f.1 f.2 stands f.3))
