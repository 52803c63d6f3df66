-- What an UPDATE or a DELETE is made of, from the code of its expressions.
use Rattle.std.proofs.Common.{◌≡◌, ℕ, true, List, Some, subst}
use Rattle.std.specs.Prelude.{Result, Ok, Err, IfOk}
use Rattle.std.specs.List.{list_all}
use Rattle.std.specs.declared.alloc.AllocError.{AllocError}
use Rattle.psm_exprcode.specs.declared.op.Letter.{Letter}
use Rattle.psm_exprcode.specs.declared.op.Letter.TheVariants.{B}
use Rattle.psm_exprcode.specs.declared.op.Line.{Line}
use Rattle.psm_exprcode.specs.declared.set_item.SetItem.{SetItem}
use Rattle.psm_resolved.specs.declared.expr.ResolvedExpr.{ResolvedExpr}
use Rattle.psm_resolved.specs.declared.statement.ResolvedSet.{ResolvedSet}
use Rattle.psm_exprgen.specs.declared.known.Known.{Known}
use Rattle.psm_exprgen.specs.Queries.{ExprIs, FitsAs, SetsAre, SetsMade, SourcesFit, TestMade, is_set, is_test}
use Rattle.psm_exprgen.specs.Written.{letters_at}

pub test_made : (known : Known) (table : ℕ) (e : ResolvedExpr) (columns variables : List Letter) (res : Result (List Line) AllocError) → columns ≡ letters_at known.columns table → variables ≡ known.variables
    → IfOk res (λ code. is_test columns variables e ≡ true → ExprIs e code) → IfOk res (λ code. FitsAs columns variables B code) → IfOk res (λ code. TestMade known table (Some e) (Some code))
test_made known table e columns variables (Ok code) c v is fits = record {
  is = subst (λ ks. is_test ks known.variables e ≡ true → ExprIs e code) c (subst (λ vs. is_test columns vs e ≡ true → ExprIs e code) v is);
  fits = subst (λ ks. FitsAs ks known.variables B code) c (subst (λ vs. FitsAs columns vs B code) v fits);
}
test_made known table e columns variables (Err x) c v is fits = is

pub sets_made : (known : Known) (table : ℕ) (sets : List ResolvedSet) (columns variables : List Letter) (res : Result (List SetItem) AllocError) → columns ≡ letters_at known.columns table → variables ≡ known.variables
    → IfOk res (λ codes. list_all (is_set columns variables) sets ≡ true → SetsAre sets codes) → IfOk res (λ codes. SourcesFit columns variables sets codes) → IfOk res (λ codes. SetsMade known table sets codes)
sets_made known table sets columns variables (Ok codes) c v are fit = record {
  are = subst (λ ks. list_all (is_set ks known.variables) sets ≡ true → SetsAre sets codes) c (subst (λ vs. list_all (is_set columns vs) sets ≡ true → SetsAre sets codes) v are);
  fit = subst (λ ks. SourcesFit ks known.variables sets codes) c (subst (λ vs. SourcesFit columns vs sets codes) v fit);
}
sets_made known table sets columns variables (Err x) c v are fit = are
