-- The operands of a well-typed expression whose parts are evaluated one after another are well-typed.
use Rattle.std.proofs.Common.{◌≡◌, true, List, Some, None}
use Rattle.std.proofs.lemmas.Bool.{false≢true}
use Rattle.psm_exprcode.specs.declared.op.Letter.{Letter}
use Rattle.psm_resolved.specs.declared.expr.ResolvedExpr.{ResolvedExpr}
use Rattle.psm_resolved.specs.declared.expr.ResolvedExpr.TheOpen as layers
use Rattle.psm_simulation.specs.Expressions.{Layer, is_straight, operands_of}
use Rattle.psm_typing.specs.Expressions.{AreAll, AreExprs, IsExpr}
use Rattle.psm_typing.specs.Expressions as well_typed
use Rattle.psm_typing.specs.TypingContext.{Each, TypingContext}
use Rattle.psm_wellformed.proofs.Typing.{IsLayer}

-- an expression of some letter
abbrev pub IsWellTyped : TypingContext → ResolvedExpr → Type 0
IsWellTyped e x = (k : Letter) × IsExpr e x k

pub all-well_typed : {e : TypingContext} {xs : List ResolvedExpr} {k : Letter} → AreAll e xs k → Each (IsWellTyped e) xs
all-well_typed well_typed.no_more = tt
all-well_typed {k = k} (well_typed.and_all a rest) = ((k, a), all-well_typed rest)

pub exprs-well_typed : {e : TypingContext} {xs : List ResolvedExpr} {ks : List Letter} → AreExprs e xs ks → Each (IsWellTyped e) xs
exprs-well_typed well_typed.none = tt
exprs-well_typed (well_typed.more {k = k} a rest) = ((k, a), exprs-well_typed rest)

pub operands-well_typed : (e : TypingContext) (k : Letter) (layer : Layer) → is_straight layer ≡ true → IsLayer e layer k → Each (IsWellTyped e) (operands_of layer)
operands-well_typed e k layers.Null g h = absurd (false≢true g)
operands-well_typed e k (layers.Number n) g h = tt
operands-well_typed e k (layers.Text t) g h = tt
operands-well_typed e k (layers.Column i) g h = absurd h
operands-well_typed e k (layers.Variable slot) g h = tt
operands-well_typed e k (layers.LogicalOperator j operands) g h = absurd (false≢true g)
operands-well_typed e k (layers.Not condition) g h = ((_, h.1), tt)
operands-well_typed e k (layers.Compare operator left right) g h = ((_, h.3), ((_, h.4), tt))
operands-well_typed e k (layers.IsNull negated value) g h = ((_, h.3), tt)
operands-well_typed e k (layers.Between negated value low high) g h = ((_, h.3), ((_, h.4), ((_, h.5), tt)))
operands-well_typed e k (layers.In negated value list) g h = ((_, h.3), all-well_typed h.4)
operands-well_typed e k (layers.Like negated value pattern None) g h = ((_, h.1), ((_, h.2), tt))
operands-well_typed e k (layers.Like negated value pattern (Some escape)) g h = ((_, h.1), ((_, h.2), ((_, h.3), tt)))
operands-well_typed e k (layers.OperatorChain first chain_links) g h = absurd (false≢true g)
operands-well_typed e k (layers.Negated operand) g h = ((_, h.1), tt)
operands-well_typed e k (layers.Call function arguments) g h = absurd (false≢true g)
operands-well_typed e k (layers.Scalar query) g h = absurd (false≢true g)
operands-well_typed e k (layers.Exists query) g h = absurd (false≢true g)
operands-well_typed e k (layers.Case operand whens otherwise scale) g h = absurd (false≢true g)
operands-well_typed e k (layers.Coalesce values scale) g h = absurd (false≢true g)
operands-well_typed e k (layers.Cast source to) g h = ((_, h.3), tt)
operands-well_typed e k (layers.NullIf left right) g h = ((_, h.1), ((_, h.2), tt))
operands-well_typed e k (layers.Function function argument) g h = ((_, h.1), tt)
operands-well_typed e k (layers.Position part whole) g h = ((_, h.1), ((_, h.2), tt))
operands-well_typed e k (layers.Substring text from None) g h = ((_, h.1), ((_, h.2), tt))
operands-well_typed e k (layers.Substring text from (Some length)) g h = ((_, h.1), ((_, h.2), ((_, h.3), tt)))
operands-well_typed e k (layers.Trim side text) g h = ((_, h.1), tt)
