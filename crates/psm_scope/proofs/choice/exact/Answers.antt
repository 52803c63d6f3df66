use Rattle.std.proofs.Common.{◌≡◌, true, ◌∙◌, arith}
use Rattle.std.specs.List.{list_all}
use Rattle.psm_scope.specs.Exact.{is_typed}
use Rattle.psm_scope.proofs.Found.{chosen_found}
use Rattle.psm_scope.proofs.choice.exact.Goals as goal

pub returns-in-Some : goal.returns-in-Some
returns-in-Some c =
    let typed : true ≡ list_all is_typed c.args.kinds.now = grind (arith, c.if-not-are_typed.false, c.if-not-are_typed.ensures) in
    c.choice.ensures ∙ chosen_found c.args.routines.now c.args.name.now c.args.kinds.now c.in-Some.functions typed c.in-Some.ensures
