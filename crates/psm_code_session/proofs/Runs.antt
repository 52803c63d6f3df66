-- A run of the commands of a script over well-formed code shows their session.
use Rattle.std.proofs.Common.{◌≡◌, ℕ, ◌+◌, List, [], ◌∷◌, ◌++◌, length, take, None, refl, ap, sym, subst, ◌∙◌, append_assoc}
use Rattle.std.specs.Prelude.{All}
use Rattle.std.proofs.lemmas.List.{length-append}
use Rattle.std.proofs.lemmas.List.Elements.{All-take}
use Rattle.std.proofs.Math.Seq.{take-append_seam}
use Rattle.psm_table.specs.Table.{Contents}
use Rattle.psm_meaning.specs.Session.{Session, Standing}
use Rattle.psm_code.specs.declared.code.RawCode.{RawCode}
use Rattle.psm_code.specs.RoutineRules.{first_fault}
use Rattle.psm_session.specs.Ends.{FitsCommand, HasRun, RunsOut, beginning}
use Rattle.psm_session.specs.declared.command.ScriptCommand.{ScriptCommand}
use Rattle.psm_build.specs.Outcome.{empty_tables}
use Rattle.psm_build.specs.Program.{IsScriptOf}
use Rattle.psm_build.proofs.Runs.{as_many}
use Rattle.psm_build.proofs.Shown.{EndsInRuns, shown}
use Rattle.psm_code_session.specs.CodeSession.{AreShown, EndIn, HasSession, done, cut}
use Rattle.psm_code_session.proofs.Scripts.{script_fits, start_kept}
use Rattle.psm_code_session.proofs.Sessions.{session_begun, session_exists, session_unique}

-- the first of the commands fit too
first_fit : (code : RawCode) (n : ℕ) (commands : List ScriptCommand) → All (FitsCommand code) commands → All (FitsCommand code) (take n commands)
first_fit code n commands fits = All-take (FitsCommand code) n commands fits

module _ (code : RawCode) (well_formed_code : first_fault code ≡ None) (commands : List ScriptCommand) (fits : All (FitsCommand code) commands) (turns : ℕ) where
  abbrev start : Standing
  start = beginning (empty_tables code) turns

  -- the session of the first n commands
  first_session : (n : ℕ) → (u : Session) × EndIn code (take n commands) turns u
  first_session n = session_exists code well_formed_code (take n commands) (first_fit code n commands fits) start (start_kept code turns)

  following : ℕ → List Contents
  following n = (first_session n).0.tables

  -- whichever it is, its tables are those
  left_by : (n : ℕ) (first later : List ScriptCommand) (u : Session) → commands ≡ first ++ later → n ≡ length first → HasSession code first start u → following n ≡ u.tables
  unfolding following
  left_by n first later u are many h =
      let same : take n commands ≡ first = ap (λ i. take i commands) many ∙ ap (take (length first)) are ∙ take-append_seam first later in
      ap (λ (x : Session). x.tables) (session_unique code first start (first_session n).0 u (subst (λ cs. HasSession code cs start (first_session n).0) same (first_session n).1) h)

  after_first : (pieces : List (List ℕ)) (t : Standing) → HasRun code commands start pieces t → following (length pieces) ≡ t.tables
  after_first pieces t p = left_by (length pieces) p.first p.later _ p.are (as_many code 1 start t p.first pieces p.ran) (done p.ran)

  after_cut : (pieces : List (List ℕ)) (t : Standing) (piece : List ℕ) → RunsOut code commands start pieces t piece → following (length pieces + 1) ≡ t.tables
  after_cut pieces t piece r =
      let through : List ScriptCommand = r.first ++ r.command ∷ [] in
      left_by (length pieces + 1) through r.later _ (r.are ∙ sym (append_assoc r.first (r.command ∷ []) r.later))
      (ap (λ n. n + 1) (as_many code 1 start t r.first pieces r.ran) ∙ sym (length-append r.first (r.command ∷ [])))
      (cut (record { first = r.first; command = r.command; later = []; are = refl; ran = r.ran; stops = r.stops }))

  ends_in_runs : (u : Session) → HasSession code commands start u → EndsInRuns code commands start u following
  ends_in_runs u h = record {
    done = λ pieces t ran. session_unique code commands start u _ h (done ran);
    cut = λ pieces t piece r. (session_unique code commands start u _ h (cut r), after_cut pieces t piece r);
    begun = λ pieces t p. let more = session_begun code commands start t u pieces h p in (more.0, more.1, after_first pieces t p);
  }

  commands_shown : (u : Session) → EndIn code commands turns u → AreShown code commands turns u
  unfolding following
  commands_shown u h = record {
    following = following;
    following_are = λ n. record { session = (first_session n).0; is = (first_session n).1; tables_are = refl };
    runs_as = λ sunk tables left end e. shown code commands start u following (ends_in_runs u h) sunk tables left end e;
  }

pub script_shown : (code : RawCode) → first_fault code ≡ None → (ss : List ℕ) (commands : List ScriptCommand) → IsScriptOf code ss commands → (turns : ℕ) (u : Session) → EndIn code commands turns u → AreShown code commands turns u
script_shown code well_formed_code ss commands is turns u h = commands_shown code well_formed_code commands (script_fits code well_formed_code ss commands is) turns u h
