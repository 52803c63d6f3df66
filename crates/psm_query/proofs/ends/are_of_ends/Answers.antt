use Rattle.std.proofs.Common.{◌≡◌, ◌∙◌, ℕ, ap, sym, false}
use Rattle.std.specs.List.{list_all}
use Rattle.std.proofs.lemmas.Bool.{OnFalse_from}
use Rattle.psm_exprcode.specs.declared.aggregate.Aggregate.{Aggregate}
use Rattle.psm_query.specs.Ends.{is_of_ends, sets_are_from_ends}
use Rattle.psm_query.proofs.EndLaws.{of_ends}
use Rattle.psm_query.proofs.ends.are_of_ends.Goals as goal

pub returns-in-Sets : goal.returns-in-Sets
returns-in-Sets c =
    OnFalse_from c.is_each_of_ends.result ((column : ℕ) → sets_are_from_ends c.args.all column c.args.items.now ≡ false)
    (λ e column. ap (sets_are_from_ends c.args.all column) c.in-Sets.is
    ∙ of_ends c.args.all c.in-Sets.sets (sym (c.is_each_of_ends.ensures ∙ ap (list_all (λ (a : Aggregate). is_of_ends c.args.all a.function)) c.items.ensures) ∙ e) column)
