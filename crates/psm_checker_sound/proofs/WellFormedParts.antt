-- What is well-formed outside of rows, form by form, where each table has a column.
use Rattle.std.proofs.Common.{◌≡◌, Bool, true, false, List, [], ◌∷◌, refl, ap, sym, ◌∙◌, subst}
use Rattle.psm_resolved.specs.declared.expr.ResolvedExpr.{ResolvedExpr, out-ResolvedExpr}
use Rattle.psm_resolved.specs.declared.expr.ResolvedExpr.TheOpen as layers
use Rattle.psm_resolved.specs.declared.expr.ResolvedExpr.TheVariants as exprs
use Rattle.psm_code.specs.Rules.{is_some}
use Rattle.psm_simulation.specs.Expressions.{Layer, is_straight, operands_of}
use Rattle.psm_exprgen.specs.declared.known.Known.{Known}
use Rattle.psm_codegen.specs.Files.{known_of}
use Rattle.psm_wellformed.specs.Expressions as well_formed
use Rattle.psm_wellformed.specs.Expressions.{AllWellFormed, LayerWellFormed, WellFormed, allows, is_within, takes_null}
use Rattle.psm_typing.specs.TypingContext.{Each, TypingContext}

-- each table has a column, so that all columns of a table are some
abbrev pub HaveColumns : TypingContext → Type 0
HaveColumns e = Each (λ t. is_some t.definition.columns ≡ true) e.file.tables

abbrev pub known_in : TypingContext → Known
known_in e = known_of e.file e.routine

-- it is well-formed, where NULL may stand or where it may not
abbrev pub Fit : TypingContext → Bool → ResolvedExpr → Type 0
Fit e null x = HaveColumns e → WellFormed (known_in e) null x

abbrev pub AllFit : TypingContext → Bool → List ResolvedExpr → Type 0
AllFit e null xs = HaveColumns e → AllWellFormed (known_in e) null xs

-- ---- in general

pub well_formed_as : {known : Known} {null : Bool} (x : ResolvedExpr) (layer : Layer) → out-ResolvedExpr x ≡ layer → allows null layer ≡ true → is_within layer ≡ true → LayerWellFormed known layer → WellFormed known null x
well_formed_as {known} {null} x layer is a w p = well_formed.well_formed (ap (allows null) is ∙ a) (ap is_within is ∙ w) (subst (LayerWellFormed known) (sym is) p)

allowed : (layer : Layer) → allows false layer ≡ true → allows true layer ≡ true
allowed layers.Null h = refl
allowed layer h = refl

-- what is well-formed where NULL may not stand is well-formed where it may
pub widened : {known : Known} {x : ResolvedExpr} → WellFormed known false x → WellFormed known true x
widened {known} {x} (well_formed.well_formed a w p) = well_formed.well_formed (allowed (out-ResolvedExpr x) a) w p

pub widened_fit : (e : TypingContext) (x : ResolvedExpr) → Fit e false x → Fit e true x
widened_fit e x h c = widened (h c)

pub null_fit : (e : TypingContext) → Fit e true exprs.Null
null_fit e c = well_formed_as exprs.Null layers.Null exprs.outs-Null refl refl well_formed.null

-- one of which the operands are evaluated one after another
pub straight_fit : (e : TypingContext) (x : ResolvedExpr) (layer : Layer) → out-ResolvedExpr x ≡ layer → is_straight layer ≡ true → allows false layer ≡ true → is_within layer ≡ true → AllFit e (takes_null layer) (operands_of layer) → Fit e false x
straight_fit e x layer is s a w all c = well_formed_as x layer is a w (well_formed.straight s (all c))

pub none_fit : (e : TypingContext) (null : Bool) → AllFit e null []
none_fit e null c = well_formed.no_expr

pub more_fit : (e : TypingContext) (null : Bool) (x : ResolvedExpr) (xs : List ResolvedExpr) → Fit e null x → AllFit e null xs → AllFit e null (x ∷ xs)
more_fit e null x xs h hs c = well_formed.expr (h c) (hs c)
