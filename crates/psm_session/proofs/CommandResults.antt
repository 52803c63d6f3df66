-- What a command ends in, from its piece and where that is put.
use Rattle.std.proofs.Common.{◌≡◌, ◌<◌, ℕ, zero, suc, Bool, true, false, List, [], ◌∷◌, ◌++◌, inl, inr, length, slice_get, Option, Some, None, IfSome, IfOk, Result, Ok, Err, refl, ap, sym, subst, ◌∙◌, arith}
use Rattle.std.specs.Prelude.{IsSome, codes}
use Rattle.std.specs.Global.{Vec}
use Rattle.std.specs.declared.alloc.AllocError.{AllocError}
use Rattle.psm_sqlstate.specs.declared.state.SqlState.{SqlState}
use Rattle.psm_exprcode.specs.declared.query.Query.{Query}
use Rattle.psm_table.specs.Queries.{Answer, answer}
use Rattle.psm_tablecode.specs.Codes.{over, query_of}
use Rattle.psm_table.specs.Table.{Contents}
use Rattle.psm_code.specs.declared.code.RawCode.{RawCode}
use Rattle.psm_meaning.specs.Lines.{first_line, ok_line}
use Rattle.psm_meaning.specs.Session.{Standing, Went}
use Rattle.psm_session.specs.CommandSteps.{Executes, commit, rollback, select, selected}
use Rattle.psm_session.specs.Pieces.{selected_lines}
use Rattle.psm_session.specs.Put.{Sunk}
use Rattle.psm_session.specs.Steps.{Closes, ResultsIn, Does, EndsIn, GoesOn, IsPut, IsTorn, Makes, Puts, Settled, Settles, settled, standing, step_after, tables_after}
use Rattle.psm_session.specs.declared.command.ScriptCommand.{ScriptCommand}
use Rattle.psm_session.specs.declared.command.ScriptCommand.TheVariants as commands
use Rattle.psm_session.specs.declared.step.CommandEnd.{CommandEnd}
use Rattle.psm_session.specs.declared.step.Step.{Step}
use Rattle.psm_session.specs.declared.step.Step.TheVariants as steps

-- what stands at a place inside a list
pub there : {A : Type 0} (xs : List A) (i : ℕ) → i < length xs → IsSome (slice_get xs i)
there [] i h = absurd (omega (arith, h))
there (x ∷ xs) zero h = refl
there (x ∷ xs) (suc i) h = there xs i (omega (arith, h))

-- ---- the piece of a command

-- where a piece goes on, what holds of it holds of the end of its command
pub went_on : (P : Bool → List ℕ → Type 0) (piece : Result (Vec ℕ) AllocError) (end : Result CommandEnd AllocError) → GoesOn piece end → IfOk piece (λ p. P true p.items) → IfOk end (λ e. P e.goes_on e.piece.items)
went_on P (Ok piece) (Ok end) same h = subst (λ goes. P goes end.piece.items) (sym same.1) (subst (λ (p : Vec ℕ). P true p.items) (sym same.0) h)
went_on P (Ok piece) (Err e) same h = tt
went_on P (Err e) (Ok end) same h = absurd same
went_on P (Err e) (Err f) same h = tt

-- the same command
pub made_as : (code : RawCode) (k : ℕ) (s : Standing) (c d : ScriptCommand) (t : Standing) → d ≡ c → (goes : Bool) (piece : List ℕ) → Makes code k s c goes piece (settled c t) → Makes code k s d goes piece (settled d t)
made_as code k s c d t e goes piece h = subst (λ x. Makes code k s x goes piece (settled x t)) (sym e) h

pub commit_made : (code : RawCode) (k : ℕ) (s : Standing) (piece : List ℕ) → piece ≡ first_line k (codes "COMMIT") ++ ok_line → Makes code k s commands.Commit true piece (settled commands.Commit s)
commit_made code k s piece e = subst (λ x. Makes code k s commands.Commit true x (settled commands.Commit s)) (sym e) commit

pub rollback_made : (code : RawCode) (k : ℕ) (s : Standing) (piece : List ℕ) → piece ≡ first_line k (codes "ROLLBACK") ++ ok_line → Makes code k s commands.Rollback true piece (settled commands.Rollback s)
rollback_made code k s piece e = subst (λ x. Makes code k s commands.Rollback true x (settled commands.Rollback s)) (sym e) rollback

-- ---- its piece is put, and its mark is closed

pub does : (code : RawCode) (k : ℕ) (s : Standing) (c : ScriptCommand) (sunk : Sunk) (piece : List ℕ) (goes : Bool) (t : Standing) (step : Step) → Puts goes piece sunk step → Makes code k s c goes piece (settled c t) → Does code k s c sunk t step
does code k s c sunk piece goes t steps.Next p h = record { piece = piece; makes = subst (λ b. Makes code k s c b piece (settled c t)) p.0 h; put = p.1 }
does code k s c sunk piece goes t steps.TurnsUsed p h = record { piece = piece; makes = subst (λ b. Makes code k s c b piece (settled c t)) p.0 h; put = p.1 }
does code k s c sunk piece goes t steps.WriteFault p h = record { goes = goes; piece = piece; expected = settled c t; makes = h; put = p; same = refl }
does code k s c sunk piece goes t steps.Memory p h = p

closed : (code : RawCode) (k : ℕ) (s : Standing) (c : ScriptCommand) (sunk : Sunk) (made now : List Contents) (turns : ℕ) (committed : List Contents) (step : Step)
    → Does code k s c sunk (standing made turns committed) step → now ≡ tables_after step made s.tables → Closes code k s c sunk (standing now turns committed) step
closed code k s c sunk made now turns committed steps.Next h e = subst (λ tables. IsPut code k s c sunk true (settled c (standing tables turns committed))) (sym e) h
closed code k s c sunk made now turns committed steps.TurnsUsed h e = subst (λ tables. IsPut code k s c sunk false (settled c (standing tables turns committed))) (sym e) h
closed code k s c sunk made now turns committed steps.WriteFault h e = subst (λ tables. IsTorn code k s c sunk (settled c (standing tables turns committed))) (sym e) h
closed code k s c sunk made now turns committed steps.Memory h e = record { put = h; same = e }

-- the mark that was taken for the command stands for what the command found
pub closed_at : (code : RawCode) (k : ℕ) (c : ScriptCommand) (sunk : Sunk) (old found at_found at_made made now : List Contents) (turns left : ℕ) (committed : List Contents) (step : Step)
    → found ≡ old → at_found ≡ old → at_made ≡ at_found → Does code k (standing found turns committed) c sunk (standing made left committed) step → now ≡ tables_after step made at_made
    → Closes code k (standing old turns committed) c sunk (standing now left committed) step
closed_at code k c sunk old found at_found at_made made now turns left committed step e f g h n =
    closed code k (standing old turns committed) c sunk made now left committed step
    (subst (λ tables. Does code k (standing tables turns committed) c sunk (standing made left committed) step) e h) (n ∙ ap (tables_after step made) (g ∙ f))

-- ---- the transaction is settled

pub settled_turns : (c : ScriptCommand) (t : Standing) → (settled c t).turns ≡ t.turns
settled_turns (commands.Call n values) t = refl
settled_turns (commands.Insert table columns rows) t = refl
settled_turns (commands.Select query) t = refl
settled_turns commands.Commit t = refl
settled_turns commands.Rollback t = refl

pub commit_settles : (tables now committed new : List Contents) (turns : ℕ) → now ≡ tables → new ≡ tables → standing now turns new ≡ settled commands.Commit (standing tables turns committed)
commit_settles tables now committed new turns e h = ap (λ x. standing x turns new) e ∙ ap (standing tables turns) h

pub rollback_settles : (step : Step) (tables now committed new : List Contents) (turns : ℕ) → now ≡ tables_after step committed tables → new ≡ committed
    → Settles step commands.Rollback (standing tables turns committed) (standing now turns new) (Ok step)
rollback_settles steps.Next tables now committed new turns e h = (refl, ap (λ x. standing x turns new) e ∙ ap (standing committed turns) h, inl h)
rollback_settles steps.TurnsUsed tables now committed new turns e h = (refl, e, inl h)
rollback_settles steps.WriteFault tables now committed new turns e h = (refl, e, inl h)
rollback_settles steps.Memory tables now committed new turns e h = (refl, e, inl h)

-- a command that is none of the two
pub nothing_settles : (step : Step) (c : ScriptCommand) (t : Standing) → settled c t ≡ t → Settles step c t t (Ok step)
nothing_settles steps.Next c t e = (refl, sym e, inl refl)
nothing_settles steps.TurnsUsed c t e = (refl, sym (ap (λ (x : Standing). x.tables) e), inl refl)
nothing_settles steps.WriteFault c t e = (refl, sym (ap (λ (x : Standing). x.tables) e), inl refl)
nothing_settles steps.Memory c t e = (refl, refl, inl refl)

-- what holds of the tables, and of those to which ROLLBACK goes, holds of them once it is settled
settled_holds : (P : List Contents → Type 0) (c : ScriptCommand) (t : Standing) → P t.tables → P t.committed → P (settled c t).tables × P (settled c t).committed
settled_holds P (commands.Call n values) t h k = (h, k)
settled_holds P (commands.Insert table columns rows) t h k = (h, k)
settled_holds P (commands.Select query) t h k = (h, k)
settled_holds P commands.Commit t h k = (h, h)
settled_holds P commands.Rollback t h k = (k, k)

settled_tables : (P : List Contents → Type 0) (step : Step) (c : ScriptCommand) (t u : Standing) → Settled step c t u → P t.tables → P (settled c t).tables → P u.tables
settled_tables P steps.Next c t u e h k = subst (λ (x : Standing). P x.tables) (sym e) k
settled_tables P steps.TurnsUsed c t u e h k = subst P (sym e) k
settled_tables P steps.WriteFault c t u e h k = subst P (sym e) k
settled_tables P steps.Memory c t u e h k = subst P (sym e) h

pub settles_tables : (P : List Contents → Type 0) (step : Step) (c : ScriptCommand) (t u : Standing) (result : Result Step AllocError) → Settles step c t u result → P t.tables → P t.committed → P u.tables
settles_tables P step c t u (Ok s) e h k = settled_tables P step c t u e.1 h (settled_holds P c t h k).0
settles_tables P step c t u (Err x) e h k = subst P (sym e.1) (settled_holds P c t h k).0

pub settles_committed : (P : List Contents → Type 0) (step : Step) (c : ScriptCommand) (t u : Standing) (result : Result Step AllocError) → Settles step c t u result → P t.tables → P t.committed → IfOk result (λ s. P u.committed)
settles_committed P step c t u (Ok s) (a, b, inl e) h k = subst P (sym e) k
settles_committed P step c t u (Ok s) (a, b, inr e) h k = subst P (sym e) (settled_holds P c t h k).1
settles_committed P step c t u (Err x) e h k = tt

module _ (code : RawCode) (k : ℕ) (s : Standing) (c : ScriptCommand) (t u : Standing) where
  cut_as : (piece : List ℕ) → u.tables ≡ (settled c t).tables → u.turns ≡ t.turns → Makes code k s c false piece (settled c t) → Makes code k s c false piece u
  cut_as piece same turns h = (h.0, same ∙ h.1, turns ∙ sym (settled_turns c t) ∙ h.2)

  -- the end of a command, where its step goes on or turns ran out
  pub settled_makes : (goes : Bool) (piece : List ℕ) → u.turns ≡ t.turns → Makes code k s c goes piece (settled c t) → Settled (step_after goes) c t u → Makes code k s c goes piece u
  settled_makes true piece turns h e = subst (Makes code k s c true piece) (sym e) h
  settled_makes false piece turns h e = cut_as piece e turns h

  module _ (sunk : Sunk) where
    ends : (step : Step) → u.turns ≡ t.turns → Closes code k s c sunk t step → Settled step c t u → EndsIn code k s c sunk u step
    ends steps.Next turns h e = subst (IsPut code k s c sunk true) (sym e) h
    ends steps.TurnsUsed turns h e = record { piece = h.piece; makes = cut_as h.piece e turns h.makes; put = h.put }
    ends steps.WriteFault turns h e = record { goes = h.goes; piece = h.piece; expected = h.expected; makes = h.makes; put = h.put; same = e ∙ h.same }
    ends steps.Memory turns h e = record { put = h.put; same = e ∙ h.same }

    pub settles_comes : (step : Step) (result : Result Step AllocError) → u.turns ≡ t.turns → Closes code k s c sunk t step → Settles step c t u result → ResultsIn code k s c sunk u result
    settles_comes step (Ok x) turns h e = subst (EndsIn code k s c sunk u) (sym e.0) (ends step turns h e.1)
    settles_comes step (Err x) turns h e = record { expected = settled c t; is_put = subst (Closes code k s c sunk t) e.0 h; same = e.1 }

-- ---- SELECT

selected_is : (first : List ℕ) (s : Standing) (expected : Result Answer SqlState) → selected first s expected ≡ Went (first ++ selected_lines expected) s
selected_is first s (Ok a) = refl
selected_is first s (Err state) = refl

module _ (code : RawCode) (k : ℕ) (tables : List Contents) (turns : ℕ) (committed : List Contents) (q : Query) (piece : List ℕ) where
  abbrev Due : Contents → Type 0
  Due c = piece ≡ first_line k (codes "SELECT") ++ selected_lines (answer (over []) (query_of q) c.rows)

  select_makes : (o : Option Contents) → slice_get tables q.table ≡ o → IsSome o → IfSome o Due → Makes code k (standing tables turns committed) (commands.Select q) true piece (standing tables turns committed)
  select_makes None e i h = absurd (cc)
  select_makes (Some c) e i h =
      let s = standing tables turns committed in
      let first = first_line k (codes "SELECT") in
      subst (Executes code first s (commands.Select q)) (selected_is first s (answer (over []) (query_of q) c.rows) ∙ ap (λ p. Went p s) (sym h)) (select e)

  pub select_made : q.table < length tables → IfSome (slice_get tables q.table) Due → Makes code k (standing tables turns committed) (commands.Select q) true piece (standing tables turns committed)
  select_made lt h = select_makes (slice_get tables q.table) refl (there tables q.table lt) h
