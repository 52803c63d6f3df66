-- Commands of a script as they are checked: the query of a SELECT is well-formed where no routine runs, and of letters over the columns of
-- the tables of code.
use Rattle.std.specs.Prelude.{◌≡◌, true}
use Rattle.psm_code.specs.declared.code.RawCode.{RawCode}
use Rattle.psm_resolved.specs.declared.file.ResolvedFile.{ResolvedFile}
use Rattle.psm_meaning.specs.Session.{Command, Call, Insert, Select, Commit, Rollback}
use Rattle.psm_exprgen.specs.Queries.{is_query}
use Rattle.psm_codegen.specs.Files.{known_of}
use Rattle.psm_typing.specs.Scripts.{no_routine}
use Rattle.psm_wellformed.specs.Queries.{WellFormedQuery}
use Rattle.psm_script_code.specs.Made.{known_of_tables}

abbrev pub WellFormedCommand : ResolvedFile → Command → Type 0
WellFormedCommand file (Call procedure values) = Unit {0}
WellFormedCommand file (Insert table columns rows) = Unit {0}
WellFormedCommand file (Select query) = WellFormedQuery (known_of file no_routine) query
WellFormedCommand file Commit = Unit {0}
WellFormedCommand file Rollback = Unit {0}

abbrev pub AsksTables : RawCode → Command → Type 0
AsksTables code (Call procedure values) = Unit {0}
AsksTables code (Insert table columns rows) = Unit {0}
AsksTables code (Select query) = is_query (known_of_tables code) query ≡ true
AsksTables code Commit = Unit {0}
AsksTables code Rollback = Unit {0}
