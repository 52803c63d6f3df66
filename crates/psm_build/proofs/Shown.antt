-- A run shows a session, where the session ends in what a run of the commands ends in.
use Rattle.std.proofs.Common.{◌≡◌, ℕ, ◌+◌, List, [], ◌∷◌, ◌++◌, length, sym, ap, ◌∙◌, subst, append_assoc, inl, inr}
use Rattle.std.proofs.lemmas.List.{length-append}
use Rattle.psm_meaning.specs.Acts.{NoTurns}
use Rattle.psm_meaning.specs.Session.{Session, Standing, Cut, Done}
use Rattle.psm_table.specs.Table.{Contents}
use Rattle.psm_code.specs.declared.code.RawCode.{RawCode}
use Rattle.psm_session.specs.Ends.{Ends, HasRun, RunsOut}
use Rattle.psm_session.specs.CommandSteps.{Runs}
use Rattle.psm_session.specs.Put.{Sunk, PutAll}
use Rattle.psm_session.specs.declared.command.ScriptCommand.{ScriptCommand}
use Rattle.psm_session.specs.declared.script.ScriptEnd.{ScriptEnd}
use Rattle.psm_session.specs.declared.script.ScriptEnd.TheVariants as ends
use Rattle.psm_build.specs.Outcome.{Shows}

-- the session ends in what a run of the commands ends in, as far as that goes; `following n` are the tables after its first n commands
pub record EndsInRuns (code : RawCode) (commands : List ScriptCommand) (start : Standing) (s : Session) (following : ℕ → List Contents) : Type 0 where
  pub done : (pieces : List (List ℕ)) (t : Standing) → Runs code 1 start commands pieces t → s ≡ record { pieces = pieces; tables = t.tables; turns = t.turns; end = Done }
  pub cut : (pieces : List (List ℕ)) (t : Standing) (piece : List ℕ) → RunsOut code commands start pieces t piece
      → (s ≡ record { pieces = pieces ++ piece ∷ []; tables = t.tables; turns = 0; end = Cut NoTurns }) × (following (length pieces + 1) ≡ t.tables)
  pub begun : (pieces : List (List ℕ)) (t : Standing) → HasRun code commands start pieces t → (more : List (List ℕ)) × (s.pieces ≡ pieces ++ more) × (following (length pieces) ≡ t.tables)

pub shown : (code : RawCode) (commands : List ScriptCommand) (start : Standing) (s : Session) (following : ℕ → List Contents) → EndsInRuns code commands start s following
    → (sunk : Sunk) (tables : List Contents) (left : ℕ) (end : ScriptEnd) → Ends code commands start sunk tables left end → Shows s following sunk tables left end
shown code commands start s following is sunk tables left ends.Done h =
    let so = is.done h.pieces h.end h.ran in
    record {
      end_is = ap (λ (x : Session). x.end) so;
      put = subst (PutAll sunk) (sym (ap (λ (x : Session). x.pieces) so)) h.put;
      tables_are = h.tables_are ∙ sym (ap (λ (x : Session). x.tables) so);
      left_are = h.left ∙ sym (ap (λ (x : Session). x.turns) so);
    }
shown code commands start s following is sunk tables left ends.TurnsUsed h =
    let so = (is.cut h.pieces h.before h.piece h.runs_out).0 in
    record {
      end_is = ap (λ (x : Session). x.end) so;
      put = subst (PutAll sunk) (sym (ap (λ (x : Session). x.pieces) so)) h.put;
      tables_are = h.tables_are ∙ sym (ap (λ (x : Session). x.tables) so);
      left_are = h.left ∙ sym (ap (λ (x : Session). x.turns) so);
    }
shown code commands start s following is sunk tables left ends.WriteFault (inl h) =
    let so = is.begun (h.pieces ++ h.failed ∷ []) h.end h.ran in
    record {
      pieces = h.pieces;
      failed = h.failed;
      later = so.0;
      are = so.1 ∙ append_assoc h.pieces (h.failed ∷ []) so.0;
      put = h.put;
      tables_are = h.tables_are ∙ sym so.2 ∙ ap following (length-append h.pieces (h.failed ∷ []));
    }
shown code commands start s following is sunk tables left ends.WriteFault (inr h) =
    let so = is.cut h.pieces h.before h.piece h.runs_out in
    record {
      pieces = h.pieces;
      failed = h.piece;
      later = [];
      are = ap (λ (x : Session). x.pieces) so.0;
      put = h.put;
      tables_are = h.tables_are ∙ sym so.1;
    }
shown code commands start s following is sunk tables left ends.Memory h =
    let so = is.begun h.pieces h.end h.ran in
    record {
      pieces = h.pieces;
      later = so.0;
      are = so.1;
      put = h.put;
      tables_are = h.tables_are ∙ sym so.2;
    }
