-- A session over a well-typed module file ends in what a run of commands of its code ends in.
use Rattle.std.proofs.Common.{◌≡◌, ℕ, suc, ◌+◌, List, [], ◌∷◌, ◌++◌, length, take, refl, ap, sym, subst, ◌∙◌, append_assoc}
use Rattle.std.proofs.lemmas.List.{length-append}
use Rattle.psm_table.specs.Table.{Contents}
use Rattle.psm_resolved.specs.declared.file.ResolvedFile.{ResolvedFile}
use Rattle.psm_meaning.specs.Acts.{NoTurns}
use Rattle.psm_meaning.specs.Fuel.{session}
use Rattle.psm_meaning.specs.Session.{Command, Session, Standing, Cut, Done, at_start}
use Rattle.psm_code.specs.declared.code.RawCode.{RawCode}
use Rattle.psm_simulation.specs.Simulation.{FileStands}
use Rattle.psm_typing.specs.Files.{IsWellTyped}
use Rattle.psm_session.specs.Ends.{HasRun, RunsOut}
use Rattle.psm_session.specs.CommandSteps.{Runs, none, next}
use Rattle.psm_session.specs.declared.command.ScriptCommand.{ScriptCommand}
use Rattle.psm_session_simulation.specs.Standing.{CommandsStand}
use Rattle.psm_session_simulation.proofs.Scripts.{script-begun, script-cut, script-done}
use Rattle.psm_build.proofs.Shown.{EndsInRuns}

-- the first commands of a script stand for the first commands of the code
first_stand : (file : ResolvedFile) (code : RawCode) (cs : List Command) (first later : List ScriptCommand) → CommandsStand file code cs (first ++ later) → CommandsStand file code (take (length first) cs) first
first_stand file code cs [] later q = tt
first_stand file code [] (d ∷ first) later q = absurd q
first_stand file code (c ∷ cs) (d ∷ first) later q = (q.0, first_stand file code cs first later q.1)

-- each command that was run has its piece
pub as_many : (code : RawCode) (k : ℕ) (s t : Standing) (ds : List ScriptCommand) (pieces : List (List ℕ)) → Runs code k s ds pieces t → length pieces ≡ length ds
as_many code k s t [] [] none = refl
as_many code k s t (d ∷ ds) (piece ∷ pieces) (next goes more) = ap suc (as_many code (suc k) _ t ds pieces more)
as_many code k s t [] (piece ∷ pieces) runs_as = elim runs_as [ ]
as_many code k s t (d ∷ ds) [] runs_as = elim runs_as [ ]

module _ (file : ResolvedFile) (code : RawCode) (stands : FileStands file code) (well_typed : IsWellTyped file) (cs : List Command) (ds : List ScriptCommand) (all : CommandsStand file code cs ds) (turns : ℕ) where
  -- the tables after the first n commands
  abbrev following : ℕ → List Contents
  following n = (session file (take n cs) turns).tables

  after_first : (pieces : List (List ℕ)) (t : Standing) → HasRun code ds (at_start file turns) pieces t → following (length pieces) ≡ t.tables
  after_first pieces t p =
      let q = first_stand file code cs p.first p.later (subst (CommandsStand file code cs) p.are all) in
      ap following (as_many code 1 (at_start file turns) t p.first pieces p.ran)
      ∙ ap (λ (s : Session). s.tables) (script-done file code stands well_typed (take (length p.first) cs) p.first q turns pieces t p.ran)

  after_cut : (pieces : List (List ℕ)) (t : Standing) (piece : List ℕ) → RunsOut code ds (at_start file turns) pieces t piece → following (length pieces + 1) ≡ t.tables
  after_cut pieces t piece r =
      let through : List ScriptCommand = r.first ++ r.command ∷ [] in
      let are : ds ≡ through ++ r.later = r.are ∙ sym (append_assoc r.first (r.command ∷ []) r.later) in
      let q = first_stand file code cs through r.later (subst (CommandsStand file code cs) are all) in
      let many : length pieces + 1 ≡ length through = ap (λ n. n + 1) (as_many code 1 (at_start file turns) t r.first pieces r.ran) ∙ sym (length-append r.first (r.command ∷ [])) in
      ap following many
      ∙ ap (λ (s : Session). s.tables) (script-cut file code stands well_typed (take (length through) cs) through q turns r.first r.command [] refl pieces t piece r.ran r.stops)

  pub ends_in_runs : EndsInRuns code ds (at_start file turns) (session file cs turns) following
  ends_in_runs = record {
    done = λ pieces t p. script-done file code stands well_typed cs ds all turns pieces t p;
    cut = λ pieces t piece r. (script-cut file code stands well_typed cs ds all turns r.first r.command r.later r.are pieces t piece r.ran r.stops, after_cut pieces t piece r);
    begun = λ pieces t p.
        let more = script-begun file code stands well_typed cs ds all turns p.first p.later p.are pieces t p.ran in
        (more.0, more.1, after_first pieces t p);
  }
