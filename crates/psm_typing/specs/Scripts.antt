-- Well-typed commands of a script: procedures and tables that are there, with as many arguments as a procedure takes, and well-typed queries.
use Rattle.std.specs.Prelude.{◌≡◌, List, [], length, slice_get, Some, None}
use Rattle.psm_exprcode.specs.declared.op.Letter.{Letter}
use Rattle.psm_resolved.specs.declared.file.ResolvedFile.{ResolvedFile}
use Rattle.psm_resolved.specs.declared.file.ResolvedRoutine.{ResolvedRoutine}
use Rattle.psm_resolved.specs.declared.statement.ResolvedStatement.TheVariants as statements
use Rattle.psm_meaning.specs.Calls.{procedure_at}
use Rattle.psm_meaning.specs.Session.{Command, Call, Insert, Select, Commit, Rollback}
use Rattle.psm_typing.specs.TypingContext.{IsThere, TypingContext, taken_by}
use Rattle.psm_typing.specs.Queries.{IsQuery}

-- a routine without slots, cursors and conditions
abbrev pub no_routine : ResolvedRoutine
no_routine = record { name = []; parameters = []; returns = None; slots = []; cursors = 0; conditions = []; body = statements.Loop 0 [] }

-- what a script sees of a file, where no routine runs
abbrev pub outside : ResolvedFile → TypingContext
outside file = record { file = file; routine = no_routine; shapes = [] }

abbrev pub IsCommand : ResolvedFile → Command → Type 0
IsCommand file (Call procedure args) = (r : ResolvedRoutine) × (procedure_at file procedure ≡ Some r) × (length args ≡ length (taken_by r.parameters))
IsCommand file (Insert table columns rows) = IsThere (slice_get file.tables table)
IsCommand file (Select query) = (ks : List Letter) × IsQuery (outside file) query ks
IsCommand file Commit = Unit {0}
IsCommand file Rollback = Unit {0}
