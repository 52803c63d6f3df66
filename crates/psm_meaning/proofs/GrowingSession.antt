-- The same of scripts.
use Rattle.std.proofs.Common.{◌≡◌, ◌⊎◌, inl, inr, ℕ, suc, ◌≤◌, List, [], ◌∷◌, refl, ap, subst}
use Rattle.psm_value.specs.declared.datum.Datum.{Datum}
use Rattle.psm_resolved.specs.declared.file.ResolvedFile.{ResolvedFile}
use Rattle.psm_meaning.specs.Acts.{OutOfFuel, Evaluated, Meaning, Act}
use Rattle.psm_meaning.specs.Calls.{procedure_at}
use Rattle.psm_meaning.specs.Lines.{first_line}
use Rattle.psm_meaning.specs.Session.{Command, Call, Insert, Select, Commit, Rollback, Standing, at_command, called, inserted, selected, CommandResult, Went, Stopped, ended, run, command_result, Session, going_on, commands_from, command_name, session_to, at_start}
use Rattle.psm_meaning.specs.Fits.{Same, Fits, SameSession}
use Rattle.psm_meaning.proofs.Pure.{pure-present}
use Rattle.psm_meaning.proofs.PureActs as pures
use Rattle.psm_meaning.proofs.Growing.{Grows, grows-bind, grows-pure}
use Rattle.psm_meaning.proofs.GrowingValues.{grows-activated}
use Rattle.psm_meaning.proofs.GrowingStatements.{fits-above}

-- ---- commands

grows-called : {m n : Meaning} → Fits m n → (file : ResolvedFile) (procedure : ℕ) (args : List Datum) → Grows m n (called file procedure args)
grows-called fits file procedure args = grows-bind (grows-pure (pure-present (procedure_at file procedure))) (λ r. grows-bind (grows-activated fits r args) (λ e. grows-pure (pures.pure-call_lines r e.returned e.variables)))

SameResult : CommandResult → CommandResult → Type 0
SameResult r s = (r ≡ Stopped OutOfFuel []) ⊎ (r ≡ s)

same-ended : (first : List ℕ) (s : Standing) (r q : Evaluated (List ℕ)) → Same r q → SameResult (ended first s r.given r.state) (ended first s q.given q.state)
unfolding SameResult
same-ended first s r q (inl e) = inl (ap (λ g. ended first s g r.state) e)
same-ended first s r q (inr p) = inr (ap (λ x. ended first s x.given x.state) p)

same-run : {m n : Meaning} (first : List ℕ) (s : Standing) (act : Act (List ℕ)) → Grows m n act → SameResult (run first s act m) (run first s act n)
same-run {m = m} {n = n} first s act h = same-ended first s (act m (at_command s)) (act n (at_command s)) (h.same (at_command s))

same-command_result : {m n : Meaning} → Fits m n → (file : ResolvedFile) (first : List ℕ) (s : Standing) (c : Command) → SameResult (command_result file m first s c) (command_result file n first s c)
unfolding SameResult
same-command_result fits file first s (Call procedure args) = same-run first s (called file procedure args) (grows-called fits file procedure args)
same-command_result fits file first s (Insert table columns rows) = same-run first s (inserted file table columns rows) (grows-pure (pures.pure-inserted file table columns rows))
same-command_result fits file first s (Select query) = same-run first s (selected query) (grows-pure (pures.pure-selected query))
same-command_result fits file first s Commit = inr refl
same-command_result fits file first s Rollback = inr refl

-- ---- sessions

with_piece : List ℕ → Session → Session
with_piece piece a = record a { pieces = piece ∷ a.pieces }

same-piece : (piece : List ℕ) (a b : Session) → SameSession a b → SameSession (record a { pieces = piece ∷ a.pieces }) (record b { pieces = piece ∷ b.pieces })
unfolding with_piece
same-piece piece a b (inl e) = inl e
same-piece piece a b (inr e) = inr (ap (with_piece piece) e)

same-going : (s : Standing) (p : CommandResult) (later more : Standing → Session) → ((next : Standing) → SameSession (later next) (more next)) → SameSession (going_on s p later) (going_on s p more)
same-going s (Went piece next) later more h = same-piece piece (later next) (more next) (h next)
same-going s (Stopped stop pieces) later more h = inr refl

same-following : (s : Standing) (p q : CommandResult) (later more : Standing → Session) → SameResult p q → ((next : Standing) → SameSession (later next) (more next)) → SameSession (going_on s p later) (going_on s q more)
unfolding SameResult
same-following s p q later more (inl e) h = inl (ap (λ x. (going_on s x later).end) e)
same-following s p q later more (inr e) h = subst (λ x. SameSession (going_on s p later) (going_on s x more)) e (same-going s p later more h)

same-commands : {m n : Meaning} → Fits m n → (file : ResolvedFile) (k : ℕ) (cs : List Command) (s : Standing) → SameSession (commands_from file m k cs s) (commands_from file n k cs s)
same-commands fits file k [] s = inr refl
same-commands {m = m} {n = n} fits file k (c ∷ cs) s = same-following s (command_result file m (first_line k (command_name file c)) s c) (command_result file n (first_line k (command_name file c)) s c) (commands_from file m (suc k) cs) (commands_from file n (suc k) cs)
    (same-command_result fits file _ s c) (same-commands fits file (suc k) cs)

pub same-session : (file : ResolvedFile) (h k : ℕ) → h ≤ k → (cs : List Command) (turns : ℕ) → SameSession (session_to file h cs turns) (session_to file k cs turns)
same-session file h k p cs turns = same-commands (fits-above file h k p) file 1 cs (at_start file turns)
