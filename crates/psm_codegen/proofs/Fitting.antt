-- What an accepted file has, form by form.
use Rattle.std.proofs.Common.{◌≡◌, Bool, true, not, ◌||◌, List, [], ◌∷◌, Option, subst, refl}
use Rattle.psm_cond.specs.declared.handlers.ConditionValue.{ConditionValue}
use Rattle.psm_resolved.specs.declared.expr.ResolvedExpr.{ResolvedExpr}
use Rattle.psm_resolved.specs.declared.file.ResolvedFile.{ResolvedFile}
use Rattle.psm_resolved.specs.declared.file.ResolvedRoutine.{ResolvedRoutine}
use Rattle.psm_resolved.specs.declared.statement.ResolvedBlock.{ResolvedBlock, out-ResolvedBlock}
use Rattle.psm_resolved.specs.declared.statement.ResolvedBranch.{ResolvedBranch, out-ResolvedBranch}
use Rattle.psm_resolved.specs.declared.statement.ResolvedFor.{ResolvedFor}
use Rattle.psm_resolved.specs.declared.statement.ResolvedHandler.{ResolvedHandler, out-ResolvedHandler}
use Rattle.psm_resolved.specs.declared.statement.ResolvedSimple.{ResolvedSimple}
use Rattle.psm_resolved.specs.declared.statement.ResolvedStatement.{ResolvedStatement, out-ResolvedStatement}
use Rattle.psm_resolved.specs.declared.statement.ResolvedStatement.TheOpen as layers
use Rattle.psm_resolved.specs.RowValue.{listed}
use Rattle.psm_code.specs.RoutineRules.{is_undo}
use Rattle.psm_codegen.specs.Files.{known_of}
use Rattle.psm_codegen.specs.Outside.{DefaultsOutside}
use Rattle.psm_codegen.specs.FunctionBuilder.{several_values}
use Rattle.psm_codegen.specs.Standing.{AllFit, BranchesFit, CursorsFit, Fits, HandlersFit, HasSome, IsNewLevel, Layer, LayerFits, QueryFits, BlockScope, SimpleFits, StandsOutside, StandsPerhaps, in_action, in_block, in_for, in_loop}
use Rattle.psm_codegen.specs.Standing as standing

pub fits-as : {file : ResolvedFile} {routine : ResolvedRoutine} {block_scope : BlockScope} {s : ResolvedStatement} {layer : Layer} → Fits file routine block_scope s → out-ResolvedStatement s ≡ layer → LayerFits file routine block_scope layer
fits-as {file = file} {routine = routine} {block_scope = block_scope} (standing.fits f) e = subst (LayerFits file routine block_scope) e f

pub record BlockFits (file : ResolvedFile) (routine : ResolvedRoutine) (block_scope : BlockScope) (level : _) (block : ResolvedBlock) : Type 0 where
  pub new : IsNewLevel level block_scope
  pub defaults : DefaultsOutside file (known_of file routine) (out-ResolvedBlock block).declarations
  pub cursors : CursorsFit file routine (out-ResolvedBlock block).cursors
  pub handlers : HandlersFit file routine (in_action (out-ResolvedBlock block).cursors block_scope) (out-ResolvedBlock block).atomic (out-ResolvedBlock block).handlers
  pub statements : AllFit file routine (in_block level (out-ResolvedBlock block).cursors block_scope) (out-ResolvedBlock block).statements

pub of_compound : {file : ResolvedFile} {routine : ResolvedRoutine} {block_scope : BlockScope} {level : _} {block : ResolvedBlock} → LayerFits file routine block_scope (layers.Compound level block) → BlockFits file routine block_scope level block
of_compound (standing.compound a b c d e) = record { new = a; defaults = b; cursors = c; handlers = d; statements = e }

pub of_loop : {file : ResolvedFile} {routine : ResolvedRoutine} {block_scope : BlockScope} {level : _} {ss : List ResolvedStatement} → LayerFits file routine block_scope (layers.Loop level ss) → AllFit file routine (in_loop level block_scope) ss
of_loop (standing.loop a) = a

pub of_while : {file : ResolvedFile} {routine : ResolvedRoutine} {block_scope : BlockScope} {level : _} {test : ResolvedExpr} {ss : List ResolvedStatement} → LayerFits file routine block_scope (layers.While level test ss) → StandsOutside file routine test × AllFit file routine (in_loop level block_scope) ss
of_while (standing.while a b) = (a, b)

pub of_repeat : {file : ResolvedFile} {routine : ResolvedRoutine} {block_scope : BlockScope} {level : _} {ss : List ResolvedStatement} {until : ResolvedExpr} → LayerFits file routine block_scope (layers.Repeat level ss until) → AllFit file routine (in_loop level block_scope) ss × StandsOutside file routine until
of_repeat (standing.repeat a b) = (a, b)

pub of_for : {file : ResolvedFile} {routine : ResolvedRoutine} {block_scope : BlockScope} {level : _} {head : ResolvedFor} {ss : List ResolvedStatement} → LayerFits file routine block_scope (layers.For level head ss)
    → IsNewLevel level block_scope × QueryFits file routine head.cursor.query × AllFit file routine (in_for level head.cursor block_scope) ss
of_for (standing.for_ a b c) = (a, b, c)

pub of_if : {file : ResolvedFile} {routine : ResolvedRoutine} {block_scope : BlockScope} {bs : List ResolvedBranch} {ss : List ResolvedStatement} → LayerFits file routine block_scope (layers.If bs ss) → BranchesFit file routine block_scope bs × AllFit file routine block_scope ss
of_if (standing.if_ a b) = (a, b)

pub of_case : {file : ResolvedFile} {routine : ResolvedRoutine} {block_scope : BlockScope} {operand : Option ResolvedExpr} {bs : List ResolvedBranch} {ss : List ResolvedStatement} → LayerFits file routine block_scope (layers.Case operand bs ss)
    → StandsPerhaps file routine operand × BranchesFit file routine block_scope bs × AllFit file routine block_scope ss
of_case (standing.case a b c) = (a, b, c)

pub of_simple : {file : ResolvedFile} {routine : ResolvedRoutine} {block_scope : BlockScope} {s : ResolvedSimple} → LayerFits file routine block_scope (layers.Simple s) → SimpleFits file routine block_scope s
of_simple (standing.simple a) = a

pub of_more : {file : ResolvedFile} {routine : ResolvedRoutine} {block_scope : BlockScope} {s : ResolvedStatement} {ss : List ResolvedStatement} → AllFit file routine block_scope (s ∷ ss) → Fits file routine block_scope s × AllFit file routine block_scope ss
of_more (standing.more a b) = (a, b)

pub of_branch : {file : ResolvedFile} {routine : ResolvedRoutine} {block_scope : BlockScope} {x : ResolvedBranch} {xs : List ResolvedBranch} → BranchesFit file routine block_scope (x ∷ xs)
    → StandsOutside file routine (out-ResolvedBranch x).test × AllFit file routine block_scope (out-ResolvedBranch x).statements × BranchesFit file routine block_scope xs
of_branch (standing.branch a b c) = (a, b, c)

pub of_handler : {file : ResolvedFile} {routine : ResolvedRoutine} {block_scope : BlockScope} {atomic : Bool} {h : ResolvedHandler} {hs : List ResolvedHandler} → HandlersFit file routine block_scope atomic (h ∷ hs)
    → HasSome (out-ResolvedHandler h).values × (not (is_undo (out-ResolvedHandler h).kind) || atomic ≡ true) × Fits file routine block_scope (out-ResolvedHandler h).action × HandlersFit file routine block_scope atomic hs
of_handler (standing.handler a b c d) = (a, b, c, d)

-- a handler has a value
pub listed-values : (values : List ConditionValue) → HasSome values → listed (several_values values) ≡ values
listed-values [] h = absurd h
listed-values (v ∷ vs) h = refl
