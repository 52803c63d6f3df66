-- NULL stands in each expression, in each query and in each statement that tokens spell where it may stand: an induction over how
-- many productions stand one within another.
use Rattle.std.proofs.Common.{ℕ, zero, suc}
use Rattle.std.specs.Prelude.{IsTrue}
use Rattle.psm_token.specs.declared.token.Placed.{Placed}
use Rattle.psm_grammar.specs.Language.{Words}
use Rattle.psm_grammar.specs.Grammar.{Spells, nested, words}
use Rattle.psm_tree.specs.Productions.{productions}
use Rattle.psm_tree.specs.ExprGrammar
use Rattle.psm_tree.specs.declared.expr.Expr.{Expr}
use Rattle.psm_tree.specs.declared.expr.Select.{Select}
use Rattle.psm_checker_sound.specs.Stands.{are_small, as_operand, as_source, select_stands, stands}
use Rattle.psm_tree.specs.Parts.{Part, Enclosed, Arguments, ExistsRest, CaseRest, CastRest, CoalesceRest, NullIfRest, FunctionRest, PositionRest, SubstringRest, TrimRest, BeginRest, LoopRest, WhileRest, RepeatRest, ForRest, IfRest, CaseStatementRest, HandlerRest, BodyRest, DeclareRest}
use Rattle.psm_tree.specs.ExprGrammar.{Gram}
use Rattle.psm_tree.specs.StatementGrammar
use Rattle.psm_checker_sound.proofs.Saying.{PartStands, Says, Stand}
use Rattle.psm_checker_sound.proofs.Spelled.{arguments-says, cases-says, cast-says, coalesced-says, exists-says, expr-says, function-says, inside-says, null_if-says, position-says, select-says, source-says, substring-says, trim-says}
use Rattle.psm_checker_sound.proofs.SpelledStatements.{begin_rest-says, body-says, case_rest-says, declare-says, for_rest-says, handler_rest-says, if_rest-says, loop_rest-says, repeat_rest-says, statement-says, while_rest-says}
use Rattle.psm_checker_sound.specs.StatementsStand.{StatementStands}
use Rattle.psm_tree.specs.declared.statement.Statement.{Statement}

-- ---- what stands after a token of its own

part-says : (n : Part) → Says (PartStands n) (productions n)
part-says Enclosed = inside-says
part-says Arguments = arguments-says
part-says ExistsRest = exists-says
part-says CaseRest = cases-says
part-says CastRest = cast-says
part-says CoalesceRest = coalesced-says
part-says NullIfRest = null_if-says
part-says FunctionRest = function-says
part-says PositionRest = position-says
part-says SubstringRest = substring-says
part-says TrimRest = trim-says
part-says BeginRest = begin_rest-says
part-says LoopRest = loop_rest-says
part-says WhileRest = while_rest-says
part-says RepeatRest = repeat_rest-says
part-says ForRest = for_rest-says
part-says IfRest = if_rest-says
part-says CaseStatementRest = case_rest-says
part-says HandlerRest = handler_rest-says
part-says (BodyRest phase) = body-says phase
part-says (DeclareRest phase) = declare-says phase

nested-stand : (h : ℕ) (d : ℕ) → Stand (nested productions h d)
nested-stand zero d = record { by = λ n w x small l. absurd l }
nested-stand (suc h) d = record { by = λ n w x small l. (part-says n).says (nested productions h (suc d)) (nested productions h d) (nested-stand h (suc d)) (nested-stand h d) d w x small l }

words-stand : (d : ℕ) → Stand (words productions d)
words-stand d = record { by = λ n w x small l. (nested-stand l.height d).by n w x small l.word }

-- ---- what tokens spell

-- all that tokens spell of a part of the grammar is so
pub spelled_so : {X : Type 0} {g : Gram X} {Q : X → Type 0} → Says Q g → (depth : ℕ) (w : Words Placed) (x : X) → IsTrue (are_small w) → Spells productions depth g w x → Q x
spelled_so a depth w x small l = a.says (words productions (suc depth)) (words productions depth) (words-stand (suc depth)) (words-stand depth) depth w x small l

pub spelled-expr : (depth : ℕ) (w : Words Placed) (e : Expr) → IsTrue (are_small w) → Spells productions depth ExprGrammar.expr w e → IsTrue (as_operand (stands e))
spelled-expr = spelled_so expr-says

pub spelled-source : (depth : ℕ) (w : Words Placed) (e : Expr) → IsTrue (are_small w) → Spells productions depth ExprGrammar.source w e → IsTrue (as_source (stands e))
spelled-source = spelled_so source-says

pub spelled-select : (depth : ℕ) (w : Words Placed) (q : Select) → IsTrue (are_small w) → Spells productions depth ExprGrammar.select w q → IsTrue (select_stands q)
spelled-select = spelled_so select-says

pub statements-stand : (depth : ℕ) (w : Words Placed) (x : Statement) → IsTrue (are_small w) → Spells productions depth StatementGrammar.statement w x → StatementStands x
statements-stand = spelled_so statement-says
