-- Words of each part of the grammar go over into printed ones, however deep they nest.
use Rattle.std.proofs.Common.{ℕ, zero, suc}
use Rattle.psm_token.specs.declared.token.Token.{Token}
use Rattle.psm_grammar.specs.Grammar.{nested, words}
use Rattle.psm_tree.specs.Parts.{Part, Enclosed, Arguments, ExistsRest, CaseRest, CastRest, CoalesceRest, NullIfRest, FunctionRest, PositionRest, SubstringRest, TrimRest, BeginRest, LoopRest, WhileRest, RepeatRest, ForRest, IfRest, CaseStatementRest, HandlerRest, BodyRest, DeclareRest}
use Rattle.psm_tree.specs.Productions.{productions}
use Rattle.psm_print.proofs.Printed.{Kept}
use Rattle.psm_print.proofs.PartTokens.{part_tokens}
use Rattle.psm_print.proofs.Into.{PrintContext, Claim, Into, reread}
use Rattle.psm_print.proofs.QueryInto.{enclosed_into, arguments_into, exists_into, case_into, cast_into, coalesce_into, nullif_into, function_into, position_into, substring_into, trim_into}
use Rattle.psm_print.proofs.StatementInto.{loop_into, while_into, repeat_into, for_into, if_into, case_statement_into, handler_into}
use Rattle.psm_print.proofs.Phases.{shaped}
use Rattle.psm_print.proofs.BodyInto.{begin_into, body_into, declare_into}

part_into : (z : PrintContext) (n : Part) → Into z (productions n) (productions n) (part_tokens n)
part_into z Enclosed = enclosed_into
part_into z Arguments = arguments_into
part_into z ExistsRest = exists_into
part_into z CaseRest = case_into
part_into z CastRest = cast_into
part_into z CoalesceRest = coalesce_into
part_into z NullIfRest = nullif_into
part_into z FunctionRest = function_into
part_into z PositionRest = position_into
part_into z SubstringRest = substring_into
part_into z TrimRest = trim_into
part_into z BeginRest = begin_into
part_into z LoopRest = loop_into
part_into z WhileRest = while_into
part_into z RepeatRest = repeat_into
part_into z ForRest = for_into
part_into z IfRest = if_into
part_into z CaseStatementRest = case_statement_into
part_into z HandlerRest = handler_into
part_into z (BodyRest phase) = body_into phase
part_into z (DeclareRest phase) = declare_into phase

module _ (good : Token → Type 0) (kept : Kept good) where
  -- by the height of a derivation
  nested_printed : (h d : ℕ) → Claim good (nested productions h d)
  nested_printed zero d n w x l a = absurd l
  nested_printed (suc h) d n w x l a = (part_into (record {
    good = good;
    kept = kept;
    inner = nested productions h (suc d);
    same = nested productions h d;
    depth = d;
    inner_printed = nested_printed h (suc d);
    same_printed = nested_printed h d;
    shaped = shaped h d;
  }) n).into w x l a

  pub words_printed : (d : ℕ) → Claim good (words productions d)
  words_printed d n w x l a = reread (λ u m. record { height = l.height; word = m }) (nested_printed l.height d n w x l.word a)

  -- where the grammar's words are read at a level
  abbrev pub at_level : ℕ → PrintContext
  at_level d = record {
    good = good;
    kept = kept;
    inner = words productions (suc d);
    same = words productions d;
    depth = d;
    inner_printed = words_printed (suc d);
    same_printed = words_printed d;
    shaped = λ n w x l. shaped l.height d n w x l.word;
  }
