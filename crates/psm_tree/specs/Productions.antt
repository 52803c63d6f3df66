-- What each part of the grammar that stands after a token of its own is.
use Rattle.psm_grammar.specs.Grammar.{Productions}
use Rattle.psm_token.specs.Kinds.{kind}
use Rattle.psm_tree.specs.Parts.{Enclosed, Arguments, ExistsRest, CaseRest, CastRest, CoalesceRest, NullIfRest, FunctionRest, PositionRest, SubstringRest, TrimRest, BeginRest, LoopRest, WhileRest, RepeatRest, ForRest, IfRest, CaseStatementRest, HandlerRest, BodyRest, DeclareRest, V}
use Rattle.psm_tree.specs.ExprGrammar.{enclosed, arguments, exists_rest, case_rest, cast_rest, coalesce_rest, nullif_rest, function_rest, position_rest, substring_rest, trim_rest}
use Rattle.psm_tree.specs.StatementGrammar.{begin_rest, loop_rest, while_rest, repeat_rest, for_rest, if_rest, case_statement_rest, handler_rest, body_rest, declare_rest}

abbrev pub productions : Productions kind V
productions Enclosed = enclosed
productions Arguments = arguments
productions ExistsRest = exists_rest
productions CaseRest = case_rest
productions CastRest = cast_rest
productions CoalesceRest = coalesce_rest
productions NullIfRest = nullif_rest
productions FunctionRest = function_rest
productions PositionRest = position_rest
productions SubstringRest = substring_rest
productions TrimRest = trim_rest
productions BeginRest = begin_rest
productions LoopRest = loop_rest
productions WhileRest = while_rest
productions RepeatRest = repeat_rest
productions ForRest = for_rest
productions IfRest = if_rest
productions CaseStatementRest = case_statement_rest
productions HandlerRest = handler_rest
productions (BodyRest phase) = body_rest phase
productions (DeclareRest phase) = declare_rest phase
