-- The same of scripts, and the laws.
use Rattle.std.proofs.Common.{arith, ◌≡◌, ◌≤◌, inl, inr, ℕ, suc, List, [], ◌∷◌, Contains, not, sym, subst}
use Rattle.psm_value.specs.declared.datum.Datum.{Datum}
use Rattle.psm_resolved.specs.declared.expr.ResolvedExpr.{ResolvedExpr}
use Rattle.psm_resolved.specs.declared.file.ResolvedFile.{ResolvedFile}
use Rattle.psm_resolved.specs.declared.file.ResolvedRoutine.{ResolvedRoutine}
use Rattle.psm_resolved.specs.declared.statement.ResolvedStatement.{ResolvedStatement}
use Rattle.psm_meaning.specs.State.{State, EvalContext}
use Rattle.psm_meaning.specs.Acts.{NoTurns, OutOfFuel, Stuck, Given, Got, Raises, Ends, Outcome, Do, Meaning, Act}
use Rattle.psm_meaning.specs.Acts as acts
use Rattle.psm_meaning.specs.Calls.{returns, activated, procedure_at}
use Rattle.psm_meaning.specs.Lines.{first_line}
use Rattle.psm_meaning.specs.Meaning.{meaning}
use Rattle.psm_meaning.specs.Session.{Command, Call, Insert, Select, Commit, Rollback, Standing, at_command, called, inserted, selected, CommandResult, Went, Stopped, ended, run, command_result, End, Done, Cut, Session, going_on, commands_from, command_name, session_to, at_start}
use Rattle.psm_meaning.specs.Fuel.{expr_size, statement_size, file_size, fuel_for, session}
use Rattle.psm_meaning.specs.Enough.{AreWithin}
use Rattle.psm_meaning.specs.Fits.{SameSession}
use Rattle.psm_meaning.proofs.Pure.{IsHigh, High}
use Rattle.psm_meaning.proofs.PureActs as pures
use Rattle.psm_meaning.proofs.Sizes.{BodyWithin, body_of-le, body-le}
use Rattle.psm_meaning.proofs.Enough.{Keeps, keeps-pure, keeps-bind, keeps-present, Paid, Later}
use Rattle.psm_meaning.proofs.EnoughValues.{keeps-activated}
use Rattle.psm_meaning.proofs.EnoughFlow.{parts-fuel_for, later-fuel_for}
use Rattle.psm_meaning.proofs.GrowingSession.{same-session}

-- ---- commands

keeps-called : {file : ResolvedFile} {m : Meaning} {turns : ℕ} → Later file m turns → (procedure : ℕ) (args : List Datum) → Keeps m turns (called file procedure args)
keeps-called {file = file} later procedure args = keeps-present (BodyWithin (file_size file)) (procedure_at file procedure) (body_of-le file (λ r. not (returns r.returns)) procedure) (λ r p.
    keeps-bind (keeps-activated later r p args) (λ e. keeps-pure (pures.pure-call_lines r e.returned e.variables)))

-- a command that went on with no more turns, or stopped for another reason than fuel
abbrev Fine : ℕ → CommandResult → Type 0
Fine turns (Went piece next) = next.turns ≤ turns
Fine turns (Stopped stop pieces) = IsHigh stop

fine-ended : (turns : ℕ) (first : List ℕ) (s : Standing) (g : Given (List ℕ)) (st : State) → High g → st.turns ≤ turns → Fine turns (ended first s g st)
fine-ended turns first s (Got lines) st h p = p
fine-ended turns first s (Raises c) st h p = p
fine-ended turns first s (Ends NoTurns) st h p = h
fine-ended turns first s (Ends OutOfFuel) st h p = h
fine-ended turns first s (Ends Stuck) st h p = h

fine-run : {m : Meaning} {turns : ℕ} (first : List ℕ) (s : Standing) (act : Act (List ℕ)) → s.turns ≤ turns → Keeps m turns act → Fine s.turns (run first s act m)
fine-run {m = m} first s act p k = let r = act m (at_command s) in let w = k.well (at_command s) p in fine-ended s.turns first s r.given r.state w.high w.left

fine-command_result : {file : ResolvedFile} {m : Meaning} {turns : ℕ} → Later file m turns → (first : List ℕ) (s : Standing) (c : Command) → s.turns ≤ turns → Fine s.turns (command_result file m first s c)
fine-command_result {file = file} later first s (Call procedure args) p = fine-run first s (called file procedure args) p (keeps-called later procedure args)
fine-command_result {file = file} later first s (Insert table columns rows) p = fine-run first s (inserted file table columns rows) p (keeps-pure (pures.pure-inserted file table columns rows))
fine-command_result later first s (Select query) p = fine-run first s (selected query) p (keeps-pure (pures.pure-selected query))
fine-command_result later first s Commit p = omega arith
fine-command_result later first s Rollback p = omega arith

-- ---- sessions

abbrev HighEnd : End → Type 0
HighEnd Done = Unit {0}
HighEnd (Cut stop) = IsHigh stop

high-going : (s : Standing) (p : CommandResult) (later : Standing → Session) → Fine s.turns p → ((next : Standing) → next.turns ≤ s.turns → HighEnd (later next).end) → HighEnd (going_on s p later).end
high-going s (Went piece next) later h k = k next h
high-going s (Stopped stop pieces) later h k = h

high-commands : {file : ResolvedFile} {m : Meaning} {turns : ℕ} → Later file m turns → (k : ℕ) (cs : List Command) (s : Standing) → s.turns ≤ turns → HighEnd (commands_from file m k cs s).end
high-commands later k [] s p = tt
high-commands {file = file} {m = m} later k (c ∷ cs) s p = high-going s (command_result file m (first_line k (command_name file c)) s c) (commands_from file m (suc k) cs)
    (fine-command_result later (first_line k (command_name file c)) s c p) (λ next q. high-commands later (suc k) cs next (omega (arith, p, q)))

-- ---- the laws

pub session-enough : (file : ResolvedFile) (h : ℕ) (commands : List Command) (turns : ℕ) → fuel_for file turns ≤ h → (session_to file h commands turns).end ≡ Cut OutOfFuel → ⊥
session-enough file h commands turns p e = subst HighEnd e (high-commands (later-fuel_for file h turns p) 1 commands (at_start file turns) (omega arith))

by_fuel : (file : ResolvedFile) (h : ℕ) (commands : List Command) (turns : ℕ) → SameSession (session file commands turns) (session_to file h commands turns) → session_to file h commands turns ≡ session file commands turns
by_fuel file h commands turns (inl e) = absurd (session-enough file (fuel_for file turns) commands turns (omega arith) e)
by_fuel file h commands turns (inr e) = sym e

pub one-session : (file : ResolvedFile) (h : ℕ) (commands : List Command) (turns : ℕ) → fuel_for file turns ≤ h → session_to file h commands turns ≡ session file commands turns
one-session file h commands turns p = by_fuel file h commands turns (same-session file (fuel_for file turns) h p commands turns)

high-given : {A : Type 0} (g : Given A) → High g → g ≡ Ends OutOfFuel → ⊥
high-given g h e = subst High e h

paid-high : (file : ResolvedFile) (turns left : ℕ) (o : Outcome) → Paid file turns left o → o ≡ acts.Stopped OutOfFuel → ⊥
paid-high file turns left o p e = (subst (Paid file turns left) e p).1

pub value-enough : (file : ResolvedFile) (h : ℕ) (e : ResolvedExpr) (st : State) → expr_size e ≤ file_size file → fuel_for file st.turns ≤ h → ((meaning file h).value e st).given ≡ Ends OutOfFuel → ⊥
value-enough file h e st p q = high-given _ (((parts-fuel_for file h st.turns q).value e p).well st (omega arith)).high

pub statement-enough : (file : ResolvedFile) (h : ℕ) (s : ResolvedStatement) (eval_context : EvalContext) (st : State) → statement_size s ≤ file_size file → AreWithin file eval_context.scopes → fuel_for file st.turns ≤ h → ((meaning file h).done (Do s) eval_context st).outcome ≡ acts.Stopped OutOfFuel → ⊥
statement-enough file h s eval_context st p w q = paid-high file _ _ _ (((parts-fuel_for file h st.turns q).done (Do s) eval_context w p).paid st (omega arith))

pub activation-enough : (file : ResolvedFile) (h : ℕ) (r : ResolvedRoutine) (args : List Datum) (st : State) → Contains file.routines r → fuel_for file st.turns ≤ h → (activated r args (meaning file h) st).given ≡ Ends OutOfFuel → ⊥
activation-enough file h r args st c q = high-given _ ((keeps-activated (later-fuel_for file h st.turns q) r (body-le file r c) args).well st (omega arith)).high
