-- How faults of the tokens, of the tree and of its parts are reported of a file.
use Rattle.psm_token.specs.declared.fault.LexFault.{LexFault}
use Rattle.psm_token.specs.declared.fault.LexFault.TheVariants as lex
use Rattle.psm_token.specs.declared.place.Place.{Place}
use Rattle.psm_tree.specs.declared.fault.ParseFault.{ParseFault}
use Rattle.psm_tree.specs.declared.fault.ParseFault.TheVariants as parse
use Rattle.psm_rules.specs.declared.fault.Fault.{Fault as RuleFault}
use Rattle.psm_check_script.specs.declared.check.CheckFault.{CheckFault}
use Rattle.psm_check_script.specs.declared.check.CheckFault.TheVariants as checks
use Rattle.psm_faults.specs.declared.fault.Fault.{Fault}
use Rattle.psm_faults.specs.declared.fault.Fault.TheVariants as faults
use Rattle.psm_faults.specs.declared.fault.BuildFault.{BuildFault}
use Rattle.psm_faults.specs.declared.fault.BuildFault.TheVariants.{Refused, Memory}

-- a fault at a place
abbrev pub reported_at : Place → Fault → BuildFault
reported_at place fault = Refused place.line place.column fault

abbrev pub reported_of_tokens : LexFault → BuildFault
reported_of_tokens (lex.BadUtf8 p) = reported_at p faults.BadUtf8
reported_of_tokens (lex.BadChar p) = reported_at p faults.BadChar
reported_of_tokens (lex.OpenText p) = reported_at p faults.OpenText
reported_of_tokens (lex.OpenName p) = reported_at p faults.OpenName
reported_of_tokens (lex.LongText p) = reported_at p faults.LongText
reported_of_tokens (lex.LongNumber p) = reported_at p faults.LongNumber
reported_of_tokens (lex.LongName p) = reported_at p faults.LongName
reported_of_tokens (lex.ManyTokens p) = reported_at p faults.ManyTokens
reported_of_tokens lex.Memory = Memory

abbrev pub reported_of_tree : ParseFault → BuildFault
reported_of_tree (parse.Syntax p) = reported_at p faults.Syntax
reported_of_tree (parse.Deep p) = reported_at p faults.Deep
reported_of_tree parse.Memory = Memory

abbrev pub reported_of_rule : RuleFault → BuildFault
reported_of_rule fault = reported_at fault.place (faults.Broken fault.rule)

abbrev pub reported_of_script : CheckFault → BuildFault
reported_of_script (checks.Rule place rule) = reported_at place (faults.Broken rule)
reported_of_script checks.Memory = Memory
