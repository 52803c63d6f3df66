-- Assignments to variables (ISO/IEC 9075-4:1996, and 9075:1992, 9.1 and 9.2), SET and CALL.
use Rattle.std.specs.Prelude.{ℕ, Bool, false, ◌||◌, List, [], ◌∷◌, slice_get, Option, Some, None}
use Rattle.psm_value.specs.declared.datum.Datum.{Datum}
use Rattle.psm_value.specs.Fetched.{fetched}
use Rattle.psm_value.specs.Stored.{stored}
use Rattle.psm_resolved.specs.declared.expr.ResolvedExpr.{ResolvedExpr}
use Rattle.psm_resolved.specs.declared.file.ResolvedFile.{ResolvedFile}
use Rattle.psm_resolved.specs.declared.statement.ResolvedArgument.{ResolvedArgument}
use Rattle.psm_resolved.specs.declared.statement.ResolvedArgument.TheVariants.{In, Out, InOut}
use Rattle.psm_meaning.specs.State.{EvalContext, cleared, with_variable}
use Rattle.psm_meaning.specs.Acts.{Stuck, Act, got, ends, change, present, tried, value_of, variable, ◌>>=◌, ◌>>◌}
use Rattle.psm_meaning.specs.Calls.{activated, procedure_at}

-- a value is stored in a variable of its type
abbrev pub assign : EvalContext → ℕ → Datum → Act (Unit {0})
assign eval_context slot d = do
  t ← present (slice_get eval_context.routine.slots slot)
  v ← tried (stored t d)
  change (with_variable slot v)

-- one value in several variables, in order
abbrev pub assign_each : EvalContext → List ℕ → Datum → Act (Unit {0})
assign_each eval_context [] d = got tt
assign_each eval_context (slot ∷ slots) d = do
  assign eval_context slot d
  assign_each eval_context slots d

-- values in variables one for one, in order
abbrev pub assign_all : EvalContext → List ℕ → List Datum → Act (Unit {0})
assign_all eval_context [] [] = got tt
assign_all eval_context [] (d ∷ ds) = ends Stuck
assign_all eval_context (slot ∷ slots) [] = ends Stuck
assign_all eval_context (slot ∷ slots) (d ∷ ds) = do
  assign eval_context slot d
  assign_all eval_context slots ds

-- a value is retrieved into a variable: a text may be cut, and the answer says whether a character was lost
abbrev pub retrieve : EvalContext → ℕ → Datum → Act Bool
retrieve eval_context slot d = do
  t ← present (slice_get eval_context.routine.slots slot)
  v ← tried (fetched t d)
  change (with_variable slot v.0)
  got v.1

-- values are retrieved into variables one for one, in order: whether a character of one was lost
abbrev pub retrieve_all : EvalContext → List ℕ → List Datum → Act Bool
retrieve_all eval_context [] [] = got false
retrieve_all eval_context [] (d ∷ ds) = ends Stuck
retrieve_all eval_context (slot ∷ slots) [] = ends Stuck
retrieve_all eval_context (slot ∷ slots) (d ∷ ds) = do
  lost ← retrieve eval_context slot d
  more ← retrieve_all eval_context slots ds
  got (lost || more)

-- ---- SET: the area becomes success before its first expression is evaluated, as at all statements that are evaluations

abbrev pub set : EvalContext → ℕ → ResolvedExpr → Act (Unit {0})
set eval_context slot source = do
  change cleared
  d ← value_of source
  assign eval_context slot d

-- ---- CALL

-- the values of the arguments for IN and INOUT parameters, from the left
abbrev pub arguments_given : List ResolvedArgument → Act (List Datum)
arguments_given [] = got []
arguments_given (In e ∷ others) = do
  d ← value_of e
  ds ← arguments_given others
  got (d ∷ ds)
arguments_given (Out slot ∷ others) = arguments_given others
arguments_given (InOut slot ∷ others) = do
  d ← variable slot
  ds ← arguments_given others
  got (d ∷ ds)

-- the values of OUT and INOUT parameters, which have the first slots of the procedure, go back in order; those before a condition stay
abbrev pub given_back : EvalContext → List ResolvedArgument → List Datum → Act (Unit {0})
given_back eval_context [] ds = got tt
given_back eval_context (a ∷ others) [] = ends Stuck
given_back eval_context (In e ∷ others) (d ∷ ds) = given_back eval_context others ds
given_back eval_context (Out slot ∷ others) (d ∷ ds) = do
  assign eval_context slot d
  given_back eval_context others ds
given_back eval_context (InOut slot ∷ others) (d ∷ ds) = do
  assign eval_context slot d
  given_back eval_context others ds

-- a procedure has no RETURN statement; one that ends leaves success in the area
abbrev pub ended_well : Option Datum → Act (Unit {0})
ended_well None = change cleared
ended_well (Some d) = ends Stuck

abbrev pub call : ResolvedFile → EvalContext → ℕ → List ResolvedArgument → Act (Unit {0})
call file eval_context procedure arguments = do
  change cleared
  r ← present (procedure_at file procedure)
  args ← arguments_given arguments
  e ← activated r args
  ended_well e.returned
  given_back eval_context arguments e.variables
