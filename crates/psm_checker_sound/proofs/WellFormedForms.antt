-- Accepted expressions outside of rows are well-formed, where each table has a column.
use Rattle.std.proofs.Common.{◌≡◌, true, false, Option, Some, None, option_map, sym, subst}
use Rattle.std.specs.Prelude.{IsTrue}
use Rattle.psm_value.specs.declared.sqltype.SqlType.{SqlType}
use Rattle.psm_exprcode.specs.declared.op.Letter.{Letter}
use Rattle.psm_exprcode.specs.declared.op.Letter.TheVariants.{B}
use Rattle.psm_exprcode.specs.Kinds.{is_value}
use Rattle.psm_rules.specs.declared.checked.Checked.{Checked}
use Rattle.psm_rules.specs.declared.shape.Shape.{Shape}
use Rattle.psm_rules.specs.declared.shape.Shape.TheVariants.{Value, Untyped, Condition}
use Rattle.psm_rules.specs.Checked.{as_value, shown}
use Rattle.psm_rules.specs.Shapes.{family_of}
use Rattle.psm_rules.specs.BlockFaults.{default_fault, test_part}
use Rattle.psm_rules.specs.ExprFaults.{check_expr, simple_test}
use Rattle.psm_rules.specs.StatementFaults.{family_due, mixed_at, source_fault}
use Rattle.psm_rules.specs.CheckerScope.{CheckerScope}
use Rattle.psm_tree.specs.declared.expr.Expr.{Expr}
use Rattle.psm_resolve_expr.specs.declared.resolved.Resolved.{Resolved}
use Rattle.psm_resolve_expr.specs.Exprs.{resolve_expr}
use Rattle.psm_resolve_expr.specs.ResolverScope.{ResolverScope}
use Rattle.psm_exprgen.specs.declared.known.Known.{Known}
use Rattle.psm_typing.specs.TypingContext.{TypingContext}
use Rattle.psm_wellformed.specs.Expressions as well_formed
use Rattle.psm_wellformed.specs.Expressions.{PerhapsWellFormed, WellFormed}
use Rattle.psm_wellformed.specs.Statements.{IsTest}
use Rattle.psm_checker_sound.specs.Agreement.{Agree, letter_in}
use Rattle.psm_checker_sound.specs.Simples.{Sourced}
use Rattle.psm_checker_sound.specs.Stands.{Standing, as_operand, as_source, stands}
use Rattle.psm_checker_sound.specs.StatementsStand.{DefaultStands, Tested}
use Rattle.psm_checker_sound.proofs.WellFormedParts.{Fit, HaveColumns, known_in, null_fit, widened_fit}
use Rattle.psm_checker_sound.proofs.Judging.{Judged, Control}
use Rattle.psm_checker_sound.proofs.Parts.{IsResolved, IsNullAlone, IsOperand, IsResult, Part, as_condition-clean, as_value-clean, neither, not_null, operand, operand_source, result, tested, value_of_family}
use Rattle.psm_checker_sound.proofs.Forms.{shape_some}
use Rattle.psm_checker_sound.proofs.Choices.{source_fit, test_clean, test_judged}
use Rattle.psm_checker_sound.proofs.Accepted.{Fits}
use Rattle.psm_checker_sound.proofs.Whole.{expr_accepted}
use Rattle.psm_declare.specs.Seen.{expr_at}

-- ---- expressions without a fault

resolved_fit : (e : TypingContext) (m : Resolved) (s : Shape) → IsResolved e Control m s → Fit e true m.expr
resolved_fit e m (Value t) h = widened_fit e m.expr h.judged.1
resolved_fit e m Untyped h = subst (Fit e true) (sym h.1) (null_fit e)
resolved_fit e m Condition h = widened_fit e m.expr h.1.1

resolved_operand : (e : TypingContext) (standing : Standing) (m : Resolved) (s : Shape) → IsTrue (as_operand standing) → IsResolved e Control m s × IsNullAlone standing s → Fit e false m.expr
resolved_operand e standing m (Value t) well h = h.0.judged.1
resolved_operand e standing m Untyped well h = absurd (not_null standing well h.1)
resolved_operand e standing m Condition well h = h.0.1.1

-- what is made of an expression outside of rows
pub part_at : (e : TypingContext) (checker_scope : CheckerScope) (resolver_scope : ResolverScope) → Agree e checker_scope resolver_scope → resolver_scope.row ≡ None → (x : Expr) → Part e Control (stands x) (check_expr x checker_scope) (resolve_expr x resolver_scope)
part_at e checker_scope resolver_scope a r x = expr_accepted x e checker_scope resolver_scope Control a (subst (Fits Control) (sym r) tt)

resolve_shape : (e : TypingContext) (standing : Standing) (f : Checked) (m : Resolved) → Part e Control standing f m → IsTrue (as_source standing) → f.fault ≡ None → IsResolved e Control m (shown f.shape) × IsNullAlone standing (shown f.shape)
resolve_shape e standing f m part well none = let g = part well in g.resolved (shown f.shape) (shape_some f.shape (g.clean none))

pub well_formed-sources : (e : TypingContext) → HaveColumns e → (checker_scope : CheckerScope) (resolver_scope : ResolverScope) → Agree e checker_scope resolver_scope → resolver_scope.row ≡ None → (x : Expr) → IsTrue (as_source (stands x)) → (check_expr x checker_scope).fault ≡ None → WellFormed (known_in e) true (resolve_expr x resolver_scope).expr
well_formed-sources e c checker_scope resolver_scope a r x well none =
    resolved_fit e (resolve_expr x resolver_scope) (shown (check_expr x checker_scope).shape) (resolve_shape e (stands x) (check_expr x checker_scope) (resolve_expr x resolver_scope) (part_at e checker_scope resolver_scope a r x) well none).0 c

pub well_formed-operands : (e : TypingContext) → HaveColumns e → (checker_scope : CheckerScope) (resolver_scope : ResolverScope) → Agree e checker_scope resolver_scope → resolver_scope.row ≡ None → (x : Expr) → IsTrue (as_operand (stands x)) → (check_expr x checker_scope).fault ≡ None → WellFormed (known_in e) false (resolve_expr x resolver_scope).expr
well_formed-operands e c checker_scope resolver_scope a r x well none = resolved_operand e (stands x) (resolve_expr x resolver_scope) (shown (check_expr x checker_scope).shape) well
    (resolve_shape e (stands x) (check_expr x checker_scope) (resolve_expr x resolver_scope) (part_at e checker_scope resolver_scope a r x) (operand_source (stands x) well) none) c

-- ---- tests, values and defaults

pub judged_test : (e : TypingContext) (known : Known) → HaveColumns e → known ≡ known_in e → (m : Resolved) (k : Letter) → Judged e Control m.expr k → IsTest e known m.expr k
judged_test e known c is m k j = (j.0, subst (λ known. WellFormed known false m.expr) (sym is) (j.1 c))

pub well_formed-tests : (e : TypingContext) (known : Known) → HaveColumns e → known ≡ known_in e → (checker_scope : CheckerScope) (resolver_scope : ResolverScope) → Agree e checker_scope resolver_scope → resolver_scope.row ≡ None → (x : Expr) → Tested x → test_part checker_scope x ≡ None → IsTest e known (expr_at resolver_scope x) B
well_formed-tests e known c is checker_scope resolver_scope a r x well none =
    let f : Checked = check_expr x checker_scope in
    let part : Part e Control (stands x) f (resolve_expr x resolver_scope) = part_at e checker_scope resolver_scope a r x in
    let shaped = as_condition-clean f (part (operand_source (stands x) well)).clean none in
    judged_test e known c is (resolve_expr x resolver_scope) B (tested e Control (stands x) f (resolve_expr x resolver_scope) part well shaped)

value_fit : (e : TypingContext) (checker_scope : CheckerScope) (resolver_scope : ResolverScope) → Agree e checker_scope resolver_scope → resolver_scope.row ≡ None → (x : Expr) → Sourced x → (as_value (check_expr x checker_scope)).fault ≡ None → Fit e true (expr_at resolver_scope x)
value_fit e checker_scope resolver_scope a r x well none =
    let f : Checked = check_expr x checker_scope in
    let part : Part e Control (stands x) f (resolve_expr x resolver_scope) = part_at e checker_scope resolver_scope a r x in
    let i : IsResult e Control f (resolve_expr x resolver_scope) = result e Control (stands x) f (resolve_expr x resolver_scope) part well (as_value-clean f (part well).clean none) in
    source_fit e (resolve_expr x resolver_scope) i.shape i.source

-- a source for what has a type, if that is known
pub well_formed-values : (e : TypingContext) (known : Known) → HaveColumns e → known ≡ known_in e → (checker_scope : CheckerScope) (resolver_scope : ResolverScope) → Agree e checker_scope resolver_scope → resolver_scope.row ≡ None → (x : Expr) → Sourced x → (o : Option SqlType) → source_fault o (check_expr x checker_scope) ≡ None
    → WellFormed known true (expr_at resolver_scope x)
well_formed-values e known c is checker_scope resolver_scope a r x well o none =
    let value : Checked = as_value (check_expr x checker_scope) in
    let parts = neither value.fault (mixed_at value.place (family_due o) value.shape) none in
    subst (λ known. WellFormed known true (expr_at resolver_scope x)) (sym is) (value_fit e checker_scope resolver_scope a r x well parts.0 c)

pub well_formed-defaults : (e : TypingContext) (known : Known) → HaveColumns e → known ≡ known_in e → (checker_scope : CheckerScope) (resolver_scope : ResolverScope) → Agree e checker_scope resolver_scope → resolver_scope.row ≡ None → (x : Option Expr) → DefaultStands x → (o : Option SqlType) → default_fault checker_scope o x ≡ None
    → PerhapsWellFormed known true (option_map (expr_at resolver_scope) x)
well_formed-defaults e known c is checker_scope resolver_scope a r None well o none = well_formed.nothing
well_formed-defaults e known c is checker_scope resolver_scope a r (Some x) well o none = well_formed.just (well_formed-values e known c is checker_scope resolver_scope a r x well o none)

-- ---- an operand, and what is compared with it

-- the operand of CASE has a letter, and each WHEN that has no fault beside it has the same one
pub record IsCompared (e : TypingContext) (known : Known) (checker_scope : CheckerScope) (resolver_scope : ResolverScope) (x : Expr) : Type 0 where
  pub letter : Letter
  pub value : IsTrue (is_value letter)
  pub operand : IsTest e known (expr_at resolver_scope x) letter
  pub tests : (y : Expr) → Tested y → (simple_test (as_value (check_expr x checker_scope)) (check_expr y checker_scope)).fault ≡ None → IsTest e known (expr_at resolver_scope y) letter

pub well_formed-compared : (e : TypingContext) (known : Known) → HaveColumns e → known ≡ known_in e → (checker_scope : CheckerScope) (resolver_scope : ResolverScope) → Agree e checker_scope resolver_scope → resolver_scope.row ≡ None → (x : Expr) → Tested x → (as_value (check_expr x checker_scope)).fault ≡ None → IsCompared e known checker_scope resolver_scope x
well_formed-compared e known c is checker_scope resolver_scope a r x well none =
    let f : Checked = check_expr x checker_scope in
    let part : Part e Control (stands x) f (resolve_expr x resolver_scope) = part_at e checker_scope resolver_scope a r x in
    let o : IsOperand e Control f (resolve_expr x resolver_scope) = operand e Control (stands x) f (resolve_expr x resolver_scope) part well (as_value-clean f (part (operand_source (stands x) well)).clean none) in
    let k : Letter = letter_in (family_of o.type.kind) in record {
      letter = k;
      value = value_of_family (family_of o.type.kind);
      operand = judged_test e known c is (resolve_expr x resolver_scope) k o.value.judged;
      tests = λ y tested none.
          let other : Part e Control (stands y) (check_expr y checker_scope) (resolve_expr y resolver_scope) = part_at e checker_scope resolver_scope a r y in
          let shaped = test_clean e Control (stands x) (stands y) f (check_expr y checker_scope) (resolve_expr x resolver_scope) (resolve_expr y resolver_scope) part well other tested none in
          judged_test e known c is (resolve_expr y resolver_scope) k (test_judged e Control (stands x) (stands y) f (check_expr y checker_scope) (resolve_expr x resolver_scope) (resolve_expr y resolver_scope) o.type part well o.checked other tested shaped);
    }
