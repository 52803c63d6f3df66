-- How well-typed statements, expressions and routines end: not by getting stuck, and in no way that their places don't allow.
use Rattle.std.specs.Prelude.{◌≡◌, ◌⊎◌, ℕ, List, [], ◌∷◌, IsTrue, Option, Some, None}
use Rattle.psm_value.specs.declared.datum.Datum.{Datum}
use Rattle.psm_value.specs.declared.sqltype.SqlType.{SqlType}
use Rattle.psm_exprcode.specs.declared.op.Letter.{Letter}
use Rattle.psm_exprcode.specs.declared.operand.Operand.{Operand}
use Rattle.psm_exprcode.specs.Kinds.{are_of, has_letter, is_of, letter_of}
use Rattle.psm_resolved.specs.declared.file.ResolvedRoutine.{ResolvedRoutine}
use Rattle.psm_resolved.specs.declared.statement.ResolvedHandler.{ResolvedHandler, out-ResolvedHandler}
use Rattle.psm_meaning.specs.State.{Scope}
use Rattle.psm_meaning.specs.Acts.{Stop, NoTurns, OutOfFuel, Stuck, Given, Got, Raises, Ends, Outcome, Normal, Leave, Iterate, Return, Raised, Away, Stopped}
use Rattle.psm_meaning.specs.Calls.{Ended}
use Rattle.psm_typing.specs.TypingContext.{Among, TypingContext, letters_of}
use Rattle.psm_typing.specs.Statements.{IsStatement, StatementScope, in_action}

-- ---- statements

-- any end but that by getting stuck
abbrev pub IsDue : Stop → Type 0
IsDue NoTurns = Unit {0}
IsDue OutOfFuel = Unit {0}
IsDue Stuck = ⊥

-- a routine without a type returns nothing, and another one a value of the letter of its type
abbrev pub IsReturned : Option SqlType → Option Datum → Type 0
IsReturned t None = Unit {0}
IsReturned None (Some d) = ⊥
IsReturned (Some t) (Some d) = IsTrue (has_letter (letter_of t) d)

-- a handler of one of the scopes, which has that level
abbrev pub IsAway : TypingContext → ℕ → ResolvedHandler → List Scope → Type 0
IsAway e level h [] = ⊥
IsAway e level h (s ∷ outer) = ((level ≡ s.level) × IsStatement e (in_action s.level s.cursors) (out-ResolvedHandler h).action) ⊎ IsAway e level h outer

-- where these scopes are around a statement
abbrev pub IsEnd : TypingContext → StatementScope → List Scope → Outcome → Type 0
IsEnd e s scopes Normal = Unit {0}
IsEnd e s scopes (Leave level) = Among level s.leaves
IsEnd e s scopes (Iterate level) = Among level s.iterates
IsEnd e s scopes (Return d) = IsReturned e.routine.returns (Some d)
IsEnd e s scopes (Raised c) = Unit {0}
IsEnd e s scopes (Away level h c) = IsAway e level h scopes
IsEnd e s scopes (Stopped stop) = IsDue stop

-- ---- evaluations

-- an operand of the letter, or a condition
abbrev pub IsGiven : Letter → Given Operand → Type 0
IsGiven k (Got x) = IsTrue (is_of k x)
IsGiven k (Raises c) = Unit {0}
IsGiven k (Ends stop) = IsDue stop

-- a routine ended with a value of its letter or with none, and its variables are of the letters of its slots
pub record IsEnded (r : ResolvedRoutine) (d : Ended) : Type 0 where
  pub returned : IsReturned r.returns d.returned
  pub variables : IsTrue (are_of (letters_of r.slots) d.variables)

abbrev pub IsOver : ResolvedRoutine → Given Ended → Type 0
IsOver r (Got d) = IsEnded r d
IsOver r (Raises c) = Unit {0}
IsOver r (Ends stop) = IsDue stop
