-- Of what letters the parts of a well-typed expression are, form by form.
use Rattle.std.proofs.Common.{◌≡◌, List, [], ◌∷◌, Some, None, refl, sym, subst, replicate, length}
use Rattle.std.specs.Prelude.{IsTrue, slice_get}
use Rattle.psm_value.specs.declared.sqltype.SqlType.{SqlType}
use Rattle.psm_exprcode.specs.declared.op.Letter.{Letter}
use Rattle.psm_exprcode.specs.declared.op.Letter.TheVariants.{N, T, B}
use Rattle.psm_exprcode.specs.Kinds.{is_value, letter_of}
use Rattle.psm_resolved.specs.declared.expr.ResolvedExpr.{ResolvedExpr, out-ResolvedExpr}
use Rattle.psm_resolved.specs.declared.expr.ResolvedExpr.TheOpen as layers
use Rattle.psm_resolved.specs.declared.file.ResolvedRoutine.{ResolvedRoutine}
use Rattle.psm_resolved.specs.RowValue.{listed}
use Rattle.psm_resolved.specs.RowType.{function_of, letter_at}
use Rattle.psm_meaning.specs.Calls.{function_at}
use Rattle.psm_simulation.specs.Expressions.{Layer}
use Rattle.psm_typing.specs.Expressions.{AreAll, AreExprs, AreChainLinks, AreWhens, IsElse, IsExpr}
use Rattle.psm_typing.specs.Expressions as well_typed
use Rattle.psm_typing.specs.Queries.{IsQuery}
use Rattle.psm_typing.specs.TypingContext.{TypingContext, letters_of, taken_by, variables_of}

abbrev pub IsLayer : TypingContext → Layer → Letter → Type 0
IsLayer e layers.Null k = IsTrue (is_value k)
IsLayer e (layers.Number n) k = k ≡ N
IsLayer e (layers.Text t) k = k ≡ T
IsLayer e (layers.Column i) k = ⊥
IsLayer e (layers.Variable slot) k = slice_get (variables_of e) slot ≡ Some k
IsLayer e (layers.LogicalOperator j operands) k = (k ≡ B) × AreAll e (listed operands) B
IsLayer e (layers.Not condition) k = (k ≡ B) × IsExpr e condition B
IsLayer e (layers.Compare operator left right) k = (j : Letter) × (k ≡ B) × IsTrue (is_value j) × IsExpr e left j × IsExpr e right j
IsLayer e (layers.IsNull negated value) k = (j : Letter) × (k ≡ B) × IsTrue (is_value j) × IsExpr e value j
IsLayer e (layers.Between negated value low high) k = (j : Letter) × (k ≡ B) × IsTrue (is_value j) × IsExpr e value j × IsExpr e low j × IsExpr e high j
IsLayer e (layers.In negated value list) k = (j : Letter) × (k ≡ B) × IsTrue (is_value j) × IsExpr e value j × AreAll e (listed list) j
IsLayer e (layers.Like negated value pattern None) k = (k ≡ B) × IsExpr e value T × IsExpr e pattern T
IsLayer e (layers.Like negated value pattern (Some escape)) k = (k ≡ B) × IsExpr e value T × IsExpr e pattern T × IsExpr e escape T
IsLayer e (layers.OperatorChain first chain_links) k = IsExpr e first k × AreChainLinks e chain_links k
IsLayer e (layers.Negated operand) k = (k ≡ N) × IsExpr e operand N
IsLayer e (layers.Call function arguments) k = (r : ResolvedRoutine) × (t : SqlType) × (k ≡ letter_of t) × (function_at e.file function ≡ Some r) × (r.returns ≡ Some t) × AreExprs e arguments (letters_of (taken_by r.parameters))
IsLayer e (layers.Scalar query) k = IsQuery e query (k ∷ [])
IsLayer e (layers.Exists query) k = (ks : List Letter) × (k ≡ B) × IsQuery e query ks
IsLayer e (layers.Case None whens otherwise scale) k = (k ≡ letter_at scale) × AreWhens e (listed whens) B (letter_at scale) × IsElse e otherwise (letter_at scale)
IsLayer e (layers.Case (Some operand) whens otherwise scale) k =
    (j : Letter) × (k ≡ letter_at scale) × IsTrue (is_value j) × IsExpr e operand j × AreWhens e (listed whens) j (letter_at scale) × IsElse e otherwise (letter_at scale)
IsLayer e (layers.Coalesce values scale) k = (k ≡ letter_at scale) × AreAll e (listed values) (letter_at scale)
IsLayer e (layers.Cast source to) k = (j : Letter) × (k ≡ letter_of to) × IsTrue (is_value j) × IsExpr e source j
IsLayer e (layers.NullIf left right) k = IsTrue (is_value k) × IsExpr e left k × IsExpr e right k
IsLayer e (layers.Function function argument) k = (k ≡ function_of function) × IsExpr e argument T
IsLayer e (layers.Position part whole) k = (k ≡ N) × IsExpr e part T × IsExpr e whole T
IsLayer e (layers.Substring text from None) k = (k ≡ T) × IsExpr e text T × IsExpr e from N
IsLayer e (layers.Substring text from (Some length)) k = (k ≡ T) × IsExpr e text T × IsExpr e from N × IsExpr e length N
IsLayer e (layers.Trim side text) k = (k ≡ T) × IsExpr e text T

opened-by : (e : TypingContext) (x : ResolvedExpr) (k : Letter) (layer : Layer) → out-ResolvedExpr x ≡ layer → IsLayer e layer k → IsLayer e (out-ResolvedExpr x) k
opened-by e x k layer q h = subst (λ l. IsLayer e l k) (sym q) h

pub opens : {e : TypingContext} {x : ResolvedExpr} {k : Letter} → IsExpr e x k → IsLayer e (out-ResolvedExpr x) k
opens {e = e} {x = x} {k = k} (well_typed.null q v) = opened-by e x k layers.Null q v
opens {e = e} {x = x} {k = k} (well_typed.number n q) = opened-by e x k (layers.Number n) q refl
opens {e = e} {x = x} {k = k} (well_typed.text t q) = opened-by e x k (layers.Text t) q refl
opens {e = e} {x = x} {k = k} (well_typed.variable slot q h) = opened-by e x k (layers.Variable slot) q h
opens {e = e} {x = x} {k = k} (well_typed.logical_operator j operands q h) = opened-by e x k (layers.LogicalOperator j operands) q (refl, h)
opens {e = e} {x = x} {k = k} (well_typed.not condition q h) = opened-by e x k (layers.Not condition) q (refl, h)
opens {e = e} {x = x} {k = k} (well_typed.compare {k = j} operator left right q v a b) = opened-by e x k (layers.Compare operator left right) q (j, refl, v, a, b)
opens {e = e} {x = x} {k = k} (well_typed.is_null {k = j} negated value q v a) = opened-by e x k (layers.IsNull negated value) q (j, refl, v, a)
opens {e = e} {x = x} {k = k} (well_typed.between {k = j} negated value low high q v a b c) = opened-by e x k (layers.Between negated value low high) q (j, refl, v, a, b, c)
opens {e = e} {x = x} {k = k} (well_typed.among {k = j} negated value list q v a b) = opened-by e x k (layers.In negated value list) q (j, refl, v, a, b)
opens {e = e} {x = x} {k = k} (well_typed.like negated value pattern q a b) = opened-by e x k (layers.Like negated value pattern None) q (refl, a, b)
opens {e = e} {x = x} {k = k} (well_typed.like_escaped negated value pattern escape q a b c) = opened-by e x k (layers.Like negated value pattern (Some escape)) q (refl, a, b, c)
opens {e = e} {x = x} {k = k} (well_typed.operator_chain first chain_links q a b) = opened-by e x k (layers.OperatorChain first chain_links) q (a, b)
opens {e = e} {x = x} {k = k} (well_typed.negated operand q a) = opened-by e x k (layers.Negated operand) q (refl, a)
opens {e = e} {x = x} {k = k} (well_typed.call function arguments r t q f h a) = opened-by e x k (layers.Call function arguments) q (r, t, refl, f, h, a)
opens {e = e} {x = x} {k = k} (well_typed.scalar query q h) = opened-by e x k (layers.Scalar query) q h
opens {e = e} {x = x} {k = k} (well_typed.exists query ks q h) = opened-by e x k (layers.Exists query) q (ks, refl, h)
opens {e = e} {x = x} {k = k} (well_typed.searched whens otherwise scale q a b) = opened-by e x k (layers.Case None whens otherwise scale) q (refl, a, b)
opens {e = e} {x = x} {k = k} (well_typed.compared {j = j} operand whens otherwise scale q v a b c) = opened-by e x k (layers.Case (Some operand) whens otherwise scale) q (j, refl, v, a, b, c)
opens {e = e} {x = x} {k = k} (well_typed.coalesce values scale q a) = opened-by e x k (layers.Coalesce values scale) q (refl, a)
opens {e = e} {x = x} {k = k} (well_typed.cast {k = j} source to q v a) = opened-by e x k (layers.Cast source to) q (j, refl, v, a)
opens {e = e} {x = x} {k = k} (well_typed.null_if left right q v a b) = opened-by e x k (layers.NullIf left right) q (v, a, b)
opens {e = e} {x = x} {k = k} (well_typed.function f argument q a) = opened-by e x k (layers.Function f argument) q (refl, a)
opens {e = e} {x = x} {k = k} (well_typed.position part whole q a b) = opened-by e x k (layers.Position part whole) q (refl, a, b)
opens {e = e} {x = x} {k = k} (well_typed.substring text from q a b) = opened-by e x k (layers.Substring text from None) q (refl, a, b)
opens {e = e} {x = x} {k = k} (well_typed.substring_for text from length q a b c) = opened-by e x k (layers.Substring text from (Some length)) q (refl, a, b, c)
opens {e = e} {x = x} {k = k} (well_typed.trim side text q a) = opened-by e x k (layers.Trim side text) q (refl, a)

-- an expression of a form has parts of these letters
pub well_typed-layer : {e : TypingContext} {x : ResolvedExpr} {k : Letter} {layer : Layer} → IsExpr e x k → out-ResolvedExpr x ≡ layer → IsLayer e layer k
well_typed-layer {e} {x} {k} h q = subst (λ l. IsLayer e l k) q (opens h)

-- expressions of one letter
pub are-same : {e : TypingContext} {xs : List ResolvedExpr} {k : Letter} → AreAll e xs k → AreExprs e xs (replicate (length xs) k)
are-same well_typed.no_more = well_typed.none
are-same (well_typed.and_all a b) = well_typed.more a (are-same b)
