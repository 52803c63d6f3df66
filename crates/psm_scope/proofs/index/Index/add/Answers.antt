use Rattle.std.proofs.Common.{ap, ◌∙◌, cond}
use Rattle.std.specs.Prelude.{Some}
use Rattle.std.specs.Map.{lookup}
use Rattle.psm_scope.specs.declared.index.Exact.{Exact}
use Rattle.psm_scope.specs.Exact.{one_more}
use Rattle.psm_scope.specs.Keys.{same_function}
use Rattle.psm_scope.proofs.index.Index.add.Goals as goal

pub returns-clause-exact : goal.returns-clause-exact
returns-clause-exact c = λ q.
    let same = same_function c.args.function in
    c.in_ok-insert.ensures.updates.0 q
    ∙ ap (λ es. cond (same q) (Some c.one_more-functions.result) (lookup (same_function q) es)) c.in_ok-reserve.ensures.entries
    ∙ ap (λ (x : Exact). cond (same q) (Some x) (lookup (same_function q) c.args.self.now.exact.entries))
    (c.one_more-functions.ensures ∙ ap (one_more c.args.number) (c.get.ensures.value ∙ ap (lookup same) c.in_ok-reserve.ensures.entries))
