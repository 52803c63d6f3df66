-- The tokens that are printed for the parts of the grammar that stand after a token of their own.
use Rattle.std.proofs.Common.{◌≡◌, List, [], ◌++◌, map, option_map}
use Rattle.psm_list.specs.Several.{several_map}
use Rattle.psm_token.specs.declared.word.Word.TheVariants as w
use Rattle.psm_token.specs.declared.sign.Sign.TheVariants as s
use Rattle.psm_tree.specs.Parts.{Part, Enclosed, Arguments, ExistsRest, CaseRest, CastRest, CoalesceRest, NullIfRest, FunctionRest, PositionRest, SubstringRest, TrimRest, BeginRest, LoopRest, WhileRest, RepeatRest, ForRest, IfRest, CaseStatementRest, HandlerRest, BodyRest, DeclareRest, Phase, Declarations, Cursors, Handlers, Inside, Value, Query, Cases, Statements, Branches, ForParts, HandlerParts, NamedRest, Variables, Condition, Cursor, Declared, Named, Handled, Body, V}
use Rattle.psm_print.specs.Spelling.{Spelling, word, sign, perhaps, each, separated, listed, ended, all_of, in_parens}
use Rattle.psm_print.specs.ExprTokens.{name_tokens, type_tokens, side_tokens, expr_tokens, when_tokens, select_tokens}
use Rattle.psm_print.specs.StatementTokens.{state_tokens, ordered_query_tokens, declaration_tokens, insensitive_tokens, updatability_tokens, cursor_tokens, handler_kind_tokens, handled_tokens, atomic_tokens, for_head_tokens, else_tokens, statement_tokens, branch_tokens, handler_tokens}

-- ---- expressions

abbrev pub inside_tokens : Inside → Spelling
inside_tokens (Value expr) = expr_tokens expr
inside_tokens (Query query) = select_tokens query

abbrev pub cases_tokens : Cases → Spelling
cases_tokens c = perhaps [] (option_map expr_tokens c.operand) ++ separated [] (several_map when_tokens c.whens) ++ perhaps (word w.Else) (option_map expr_tokens c.otherwise) ++ word w.End

-- ---- statements

-- one statement or more, each with a semicolon after it
abbrev pub statements_tokens : Statements → Spelling
statements_tokens statements = ended (all_of (several_map statement_tokens statements))

abbrev pub for_tokens : ForParts → Spelling
for_tokens p = for_head_tokens p.head ++ word w.Do ++ statements_tokens p.statements ++ word w.End ++ word w.For

abbrev pub if_tokens : Branches → Spelling
if_tokens b = separated (word w.ElseIf) (several_map branch_tokens b.branches) ++ else_tokens (map statement_tokens b.otherwise) ++ word w.End ++ word w.If

abbrev pub case_tokens : Branches → Spelling
case_tokens b = each (word w.When) (all_of (several_map branch_tokens b.branches)) ++ else_tokens (map statement_tokens b.otherwise) ++ word w.End ++ word w.Case

abbrev pub handler_parts_tokens : HandlerParts → Spelling
handler_parts_tokens p = word w.Handler ++ word w.For ++ handled_tokens p.values ++ statement_tokens p.action

-- ---- blocks

abbrev pub body_tokens : Body → Spelling
body_tokens b = ended (map declaration_tokens b.declarations) ++ ended (map cursor_tokens b.cursors) ++ ended (map handler_tokens b.handlers) ++ ended (map statement_tokens b.statements) ++ word w.End

abbrev pub named_rest_tokens : NamedRest → Spelling
named_rest_tokens (Variables others kind default) = each (sign s.Comma) (map name_tokens others) ++ type_tokens kind ++ perhaps (word w.Default) (option_map expr_tokens default)
named_rest_tokens (Condition state) = word w.Condition ++ perhaps (word w.For) (option_map state_tokens state)
named_rest_tokens (Cursor insensitive query updatability) = insensitive_tokens insensitive ++ word w.Cursor ++ word w.For ++ ordered_query_tokens query ++ perhaps (word w.For) (option_map updatability_tokens updatability)

abbrev pub declared_tokens : Declared → Spelling
declared_tokens (Named name rest) = name_tokens name ++ named_rest_tokens rest
declared_tokens (Handled kind p) = handler_kind_tokens kind.value ++ handler_parts_tokens p

-- ---- every part

abbrev pub part_tokens : (n : Part) → V n → Spelling
part_tokens Enclosed x = inside_tokens x ++ sign s.RightParen
part_tokens Arguments es = listed (map expr_tokens es) ++ sign s.RightParen
part_tokens ExistsRest query = in_parens (select_tokens query)
part_tokens CaseRest c = cases_tokens c
part_tokens CastRest p = in_parens (expr_tokens p.0 ++ word w.As ++ type_tokens p.1)
part_tokens CoalesceRest values = in_parens (separated (sign s.Comma) (several_map expr_tokens values))
part_tokens NullIfRest p = in_parens (expr_tokens p.0 ++ sign s.Comma ++ expr_tokens p.1)
part_tokens FunctionRest e = in_parens (expr_tokens e)
part_tokens PositionRest p = in_parens (expr_tokens p.0 ++ word w.In ++ expr_tokens p.1)
part_tokens SubstringRest p = in_parens (expr_tokens p.0 ++ word w.From ++ expr_tokens p.1 ++ perhaps (word w.For) (option_map expr_tokens p.2))
part_tokens TrimRest p = in_parens (side_tokens p.0 ++ expr_tokens p.1)
part_tokens BeginRest p = atomic_tokens p.0 ++ body_tokens p.1
part_tokens LoopRest b = statements_tokens b ++ word w.End ++ word w.Loop
part_tokens WhileRest p = expr_tokens p.0 ++ word w.Do ++ statements_tokens p.1 ++ word w.End ++ word w.While
part_tokens RepeatRest p = statements_tokens p.0 ++ word w.Until ++ expr_tokens p.1 ++ word w.End ++ word w.Repeat
part_tokens ForRest p = for_tokens p
part_tokens IfRest b = if_tokens b
part_tokens CaseStatementRest p = perhaps [] (option_map expr_tokens p.0) ++ case_tokens p.1
part_tokens HandlerRest p = handler_parts_tokens p
part_tokens (BodyRest phase) b = body_tokens b
part_tokens (DeclareRest phase) p = declared_tokens p.0 ++ sign s.Semicolon ++ body_tokens p.1

-- ---- what the rest of a block may declare

abbrev pub NoneOf : {A : Type 0} → List A → Type 0
NoneOf xs = xs ≡ []

-- neither variables and conditions nor cursors where their phase is over
abbrev pub Late : Phase → Body → Type 0
Late Declarations b = Unit {0}
Late Cursors b = NoneOf b.declarations
Late Handlers b = NoneOf b.declarations × NoneOf b.cursors

-- where all may still come, a cursor ends the variables; where cursors may, nothing else with a name comes
abbrev pub MayPrecede : NamedRest → Body → Type 0
MayPrecede (Cursor insensitive query updatability) b = Late Cursors b
MayPrecede rest b = Unit {0}

abbrev pub OnlyCursor : NamedRest → Body → Type 0
OnlyCursor (Cursor insensitive query updatability) b = Late Cursors b
OnlyCursor rest b = ⊥

-- what is declared is of its phase, and what follows it comes no earlier
abbrev pub Ordered : Phase → Declared → Body → Type 0
Ordered phase (Handled kind p) b = Late Handlers b
Ordered Declarations (Named name rest) b = MayPrecede rest b
Ordered Cursors (Named name rest) b = OnlyCursor rest b
Ordered Handlers (Named name rest) b = ⊥

abbrev pub Shaped : (n : Part) → V n → Type 0
Shaped (BodyRest phase) b = Late phase b
Shaped (DeclareRest phase) p = Ordered phase p.0 p.1
Shaped n x = Unit {0}
