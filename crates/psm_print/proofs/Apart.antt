-- The grammar does not notice where tokens stand, so that tokens that are the same up to positions spell one tree up to positions.
use Rattle.std.proofs.Common.{◌≡◌, ℕ, List, map, refl}
use Rattle.psm_token.specs.declared.token.Placed.{Placed}
use Rattle.psm_grammar.specs.Language.{Words, toks}
use Rattle.psm_grammar.specs.Grammar.{Spells}
use Rattle.psm_grammar.specs.Places.{moved, Unnoticed}
use Rattle.psm_grammar.proofs.Fitting.{Fit}
use Rattle.psm_grammar.proofs.Moved.{spells_moved, one_apart}
use Rattle.psm_grammar.proofs.Respelled.{word_of, spells_respelled}
use Rattle.psm_tree.specs.Parts.{Part, Enclosed, Arguments, ExistsRest, CaseRest, CastRest, CoalesceRest, NullIfRest, FunctionRest, PositionRest, SubstringRest, TrimRest, BeginRest, LoopRest, WhileRest, RepeatRest, ForRest, IfRest, CaseStatementRest, HandlerRest, BodyRest, DeclareRest}
use Rattle.psm_tree.specs.ExprGrammar.{Gram}
use Rattle.psm_tree.specs.Productions.{productions}
use Rattle.psm_tree.proofs.ExprFits.{after}
use Rattle.psm_tree.proofs.Readable.{height, readable}
use Rattle.psm_print.specs.WithoutPositions.{without_positions}
use Rattle.psm_print.specs.Elsewhere.{SpellsUpToPositions}
use Rattle.psm_print.proofs.ValuesWithoutPositions.{part_without_positions}
use Rattle.psm_print.proofs.Carried.{Carried}
use Rattle.psm_print.proofs.ExprCarried.{enclosed_carried, arguments_carried, exists_carried, case_carried, cast_carried, coalesce_carried, nullif_carried, function_carried, position_carried, substring_carried, trim_carried}
use Rattle.psm_print.proofs.StatementCarried.{if_carried, case_carried as case_statement_carried}
use Rattle.psm_print.proofs.BlockCarried.{loop_carried, while_carried, repeat_carried, for_carried, handler_carried, body_carried, declare_carried, begin_carried}

part_carried : (n : Part) → Carried (part_without_positions n) (productions n)
part_carried Enclosed = enclosed_carried
part_carried Arguments = arguments_carried
part_carried ExistsRest = exists_carried
part_carried CaseRest = case_carried
part_carried CastRest = cast_carried
part_carried CoalesceRest = coalesce_carried
part_carried NullIfRest = nullif_carried
part_carried FunctionRest = function_carried
part_carried PositionRest = position_carried
part_carried SubstringRest = substring_carried
part_carried TrimRest = trim_carried
part_carried BeginRest = begin_carried
part_carried LoopRest = loop_carried
part_carried WhileRest = while_carried
part_carried RepeatRest = repeat_carried
part_carried ForRest = for_carried
part_carried IfRest = if_carried
part_carried CaseStatementRest = case_statement_carried
part_carried HandlerRest = handler_carried
part_carried (BodyRest phase) = body_carried phase
part_carried (DeclareRest phase) = declare_carried phase

unnoticed : Unnoticed productions without_positions part_without_positions
unnoticed = record { kinds = λ t. refl; values = λ n. (part_carried n).holds }

-- tokens that are the same up to positions spell values that are the same where their places are forgotten
pub spelled_apart : {X : Type 0} {g : Gram X} {h : X → X} {follow : List ℕ} → Fit after follow g → Carried h g → (depth : ℕ) (w v : Words Placed) (x y : X) → Spells productions depth g w x → Spells productions depth g v y → map without_positions (toks w) ≡ map without_positions (toks v) → h x ≡ h y
spelled_apart {g} {h} {follow} fit carried depth = one_apart productions without_positions part_without_positions unnoticed after height readable depth g follow fit.holds h carried.holds

-- tokens without places spell the value without places
pub spelled_without_positions : {X : Type 0} {g : Gram X} {h : X → X} → Carried h g → (depth : ℕ) (w : Words Placed) (x : X) → Spells productions depth g w x → Spells productions depth g (moved without_positions w) (h x)
spelled_without_positions {g} {h} carried depth = spells_moved productions without_positions part_without_positions unnoticed depth g h carried.holds

-- tokens that are those of a word, up to positions, spell a value that is the word's, up to positions
pub spelled_elsewhere : {X : Type 0} {g : Gram X} {h : X → X} → Carried h g → (depth : ℕ) (w : Words Placed) (x : X) (ts : List Placed) → Spells productions depth g w x → map without_positions ts ≡ map without_positions (toks w) → SpellsUpToPositions g h depth ts x
spelled_elsewhere {g} {h} carried depth w x ts l m =
    let u = word_of without_positions ts w m in
    let r = spells_respelled productions without_positions part_without_positions unnoticed depth g h carried.holds w x l u.0 u.2 in
    record { word = u.0; whole = u.1; own = r.value; spells = r.spells; same = r.same }
