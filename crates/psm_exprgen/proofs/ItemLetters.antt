-- The letters of the items of a query that takes the values of expressions.
use Rattle.std.proofs.Common.{◌≡◌, List, ap, sym, ◌∙◌}
use Rattle.std.specs.Prelude.{map}
use Rattle.psm_exprcode.specs.declared.op.Letter.{Letter}
use Rattle.psm_resolved.specs.declared.expr.ResolvedExpr.{ResolvedExpr}
use Rattle.psm_resolved.specs.declared.expr.ResolvedExpr.TheOpen as layers
use denote.Hole.Carrier
use Rattle.psm_resolved.specs.declared.expr.ResolvedItems.{out-ResolvedItems, roll-ResolvedItems, out-roll-ResolvedItems}
use Rattle.psm_resolved.specs.declared.expr.ResolvedItems as items
use Rattle.psm_resolved.specs.declared.expr.ResolvedQuery.{ResolvedQuery, out-ResolvedQuery}
use Rattle.psm_resolved.specs.RowType.{row_type_of}
use Rattle.psm_exprgen.specs.declared.known.Known.{Known}
use Rattle.psm_exprgen.specs.Queries.{item_letters, letter_of_row_type, letters_of_layer}
use Rattle.psm_exprgen.specs.Written.{letters_at}

rows_opened : (es : List ResolvedExpr) → out-ResolvedItems (items.Rows es) ≡ layers.Rows es
unfolding roll-ResolvedItems Carrier.roll
rows_opened es = out-roll-ResolvedItems (layers.Rows es)

pub letters_of_rows : (known : Known) (query : ResolvedQuery) (columns variables : List Letter) (es : List ResolvedExpr)
    → columns ≡ letters_at known.columns (out-ResolvedQuery query).table → variables ≡ known.variables → (out-ResolvedQuery query).items ≡ items.Rows es
    → map (λ e. letter_of_row_type (row_type_of columns variables e)) es ≡ item_letters known query
letters_of_rows known query columns variables es c v i =
    ap (λ ks. letters_of_layer ks variables (layers.Rows es)) c ∙ ap (λ ks. letters_of_layer (letters_at known.columns (out-ResolvedQuery query).table) ks (layers.Rows es)) v
    ∙ ap (letters_of_layer (letters_at known.columns (out-ResolvedQuery query).table) known.variables) (sym (ap out-ResolvedItems i ∙ rows_opened es))
