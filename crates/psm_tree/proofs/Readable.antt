-- The grammar is readable, so that what its reader answers is exact and two derivations of the same tokens are one.
use Rattle.std.proofs.Common.{◌≡◌, ℕ, ◌+◌, true, List, refl}
use Rattle.psm_token.specs.declared.token.Placed.{Placed}
use Rattle.psm_grammar.specs.Language.{Words, toks}
use Rattle.psm_grammar.specs.Grammar.{Spells}
use Rattle.psm_grammar.specs.Readers.{reads}
use Rattle.psm_grammar.specs.Exact.{AtEnd, Holds}
use Rattle.psm_grammar.specs.Follow.{lives_in, IsReadable}
use Rattle.psm_grammar.proofs.Fitting.{Fit, FitsAt, readable_of}
use Rattle.psm_grammar.proofs.Whole.{reads_run}
use Rattle.psm_grammar.proofs.Unique.{one_tree}
use Rattle.psm_tree.specs.Parts.{Part, Enclosed, Arguments, ExistsRest, CaseRest, CastRest, CoalesceRest, NullIfRest, FunctionRest, PositionRest, SubstringRest, TrimRest, BeginRest, LoopRest, WhileRest, RepeatRest, ForRest, IfRest, CaseStatementRest, HandlerRest, BodyRest, DeclareRest, Declarations, Cursors, Handlers}
use Rattle.psm_tree.specs.ExprGrammar.{Gram}
use Rattle.psm_tree.specs.Productions.{productions}
use Rattle.psm_tree.specs.StatementGrammar
use Rattle.psm_tree.proofs.ExprFits.{after, enclosed_fit, arguments_fit, exists_fit, case_fit, cast_fit, coalesce_fit, nullif_fit, function_fit, position_fit, substring_fit, trim_fit}
use Rattle.psm_tree.proofs.StatementFits.{begin_fit, loop_fit, while_fit, repeat_fit, for_fit, if_fit, case_fit as case_statement_fit, handler_fit, body_fit, declare_fit}

part_fit : (n : Part) → FitsAt after (after n) (productions n)
unfolding StatementGrammar.all_statements
part_fit Enclosed = enclosed_fit
part_fit Arguments = arguments_fit
part_fit ExistsRest = exists_fit
part_fit CaseRest = case_fit
part_fit CastRest = cast_fit
part_fit CoalesceRest = coalesce_fit
part_fit NullIfRest = nullif_fit
part_fit FunctionRest = function_fit
part_fit PositionRest = position_fit
part_fit SubstringRest = substring_fit
part_fit TrimRest = trim_fit
part_fit BeginRest = begin_fit
part_fit LoopRest = loop_fit
part_fit WhileRest = while_fit
part_fit RepeatRest = repeat_fit
part_fit ForRest = for_fit
part_fit IfRest = if_fit
part_fit CaseStatementRest = case_statement_fit
part_fit HandlerRest = handler_fit
part_fit (BodyRest phase) = body_fit phase
part_fit (DeclareRest phase) = declare_fit phase

-- how many parts one within another some word of each part has
abbrev pub height : ℕ
height = 3

alive : (n : Part) → lives_in productions height n ≡ true
unfolding StatementGrammar.all_statements
alive Enclosed = refl
alive Arguments = refl
alive ExistsRest = refl
alive CaseRest = refl
alive CastRest = refl
alive CoalesceRest = refl
alive NullIfRest = refl
alive FunctionRest = refl
alive PositionRest = refl
alive SubstringRest = refl
alive TrimRest = refl
alive BeginRest = refl
alive LoopRest = refl
alive WhileRest = refl
alive RepeatRest = refl
alive ForRest = refl
alive IfRest = refl
alive CaseStatementRest = refl
alive HandlerRest = refl
alive (BodyRest Declarations) = refl
alive (BodyRest Cursors) = refl
alive (BodyRest Handlers) = refl
alive (DeclareRest Declarations) = refl
alive (DeclareRest Cursors) = refl
alive (DeclareRest Handlers) = refl

pub readable : IsReadable productions after height
readable = readable_of productions after height part_fit alive

module _ {X : Type 0} {g : Gram X} {follow : List ℕ} (fit : Fit after follow g) where
  -- what the reader with n levels left answers is exact
  pub exact_run : (levels depth limit : ℕ) → depth + levels ≡ limit → (ts : List Placed) → Holds (Spells productions depth g) AtEnd limit ts (reads productions levels g ts)
  exact_run levels depth limit e ts = reads_run productions after height readable levels depth limit e g follow fit.holds ts

  -- two derivations of the same tokens are one
  pub spelled_once : (depth : ℕ) (w v : Words Placed) (x y : X) → Spells productions depth g w x → Spells productions depth g v y → toks w ≡ toks v → (w ≡ v) × (x ≡ y)
  spelled_once depth = one_tree productions after height readable depth g follow fit.holds
