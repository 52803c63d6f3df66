-- What a run of a procedure's code ends with, where the meaning of the procedure is known.
use Rattle.std.specs.Prelude.{◌≡◌, ℕ, List, [], ◌∷◌, map, Option, Some, None}
use Rattle.psm_value.specs.declared.datum.Datum.{Datum}
use Rattle.psm_cond.specs.Area.{clear}
use Rattle.psm_table.specs.Table.{Contents}
use Rattle.psm_resolved.specs.declared.file.ResolvedParameter.{ResolvedParameter}
use Rattle.psm_meaning.specs.Acts.{Given, Got, Raises, Ends, NoTurns, OutOfFuel, Stuck}
use Rattle.psm_meaning.specs.Calls.{Ended}
use Rattle.psm_meaning.specs.State.{State}
use Rattle.psm_code.specs.declared.code.RawCode.{RawCode}
use Rattle.psm_code.specs.Parts.{given_back}
use Rattle.psm_code.specs.Run.{Ran}
use Rattle.psm_code.specs.State.{End, Machine}
use Rattle.psm_code.specs.State as code_ends
use Rattle.psm_simulation.specs.Simulation.{parameter_of}

-- before anything runs
abbrev pub first : List Contents → ℕ → State
first tables turns = record { tables = tables; area = clear; turns = turns; depth = 0; variables = []; cursors = [] }

-- a run reaches that end with these tables and turns left
pub record RunEnds (code : RawCode) (n : ℕ) (args : List Datum) (now : List Contents) (turns : ℕ) (end : End) (st : State) : Type 0 where
  pub last : Machine
  pub ran : Ran code n args now turns end last
  pub tables : last.tables ≡ st.tables
  pub left : last.turns ≡ st.turns

-- the values of the OUT and INOUT parameters; that of RETURN, which no procedure has
abbrev pub values_of : List ResolvedParameter → Option Datum → List Datum → List Datum
values_of parameters None variables = given_back (map parameter_of parameters) variables
values_of parameters (Some d) variables = d ∷ []

-- Nothing is said where the fuel was not enough, or where a tree names what isn't there, which no accepted file does. Where a turn
-- is due and none is left, the tables are those that the caller puts back.
abbrev pub RunsAs : RawCode → ℕ → List Datum → List Contents → ℕ → List ResolvedParameter → Given Ended → State → Type 0
RunsAs code n args now turns parameters (Got e) st = RunEnds code n args now turns (code_ends.Ended (values_of parameters e.returned e.variables)) st
RunsAs code n args now turns parameters (Raises c) st = RunEnds code n args now turns (code_ends.Raised c) st
RunsAs code n args now turns parameters (Ends NoTurns) st = (last : Machine) × Ran code n args now turns code_ends.NoTurns last
RunsAs code n args now turns parameters (Ends OutOfFuel) st = Unit {0}
RunsAs code n args now turns parameters (Ends Stuck) st = Unit {0}
