-- Where a statement stands, as it is kept.
use Rattle.std.specs.Prelude.{None}
use Rattle.psm_rules.specs.StatementFaults.{Context, Within}
use Rattle.psm_rules.specs.StatementFaults as within
use Rattle.psm_rules.specs.CheckerScope.{Scopes}
use Rattle.psm_check_stmt.specs.declared.statements.Within.{Within as KeptWithin}
use Rattle.psm_check_stmt.specs.declared.statements.Within.TheVariants as kept
use Rattle.psm_check_stmt.specs.declared.statements.Context.{Context as KeptContext}

abbrev pub within_of : KeptWithin → Within
within_of kept.Procedure = within.InProcedure
within_of (kept.Function result) = within.InFunction result

-- a control expression there, in some scopes
abbrev pub context : KeptContext → Scopes → Context
context c scopes = record { checker_scope = record { symbols = c.symbols.now; scopes = scopes; row = None }; within = within_of c.within }
