use Rattle.std.proofs.Common.{ap, drop, ◌∙◌}
use Rattle.std.specs.Option.{option_copied}
use Rattle.psm_rules.specs.BlockFaults.{declared_by, with_cursors}
use Rattle.psm_check_stmt.specs.InRoutine.{context}
use Rattle.psm_check_stmt.proofs.Outside.{popped}
use Rattle.psm_check_stmt.proofs.declarations.declared_fault.Goals as goal

pub returns-clause-outer : goal.returns-clause-outer
returns-clause-outer c =
    let cursors = c.args.cursors.now in
    let xs = c.args.declarations.now in
    let declared = c.in_ok-fault.ensures.scopes ∙ ap (λ scopes. declared_by scopes xs) c.in_ok-push.ensures.ok in
    ap (drop 1) (c.in_ok-cursors_fault.ensures.scopes ∙ ap (λ scopes. with_cursors (context c.args.c scopes).checker_scope cursors) declared)
    ∙ popped (option_copied c.args.label) (context c.args.c c.args.scopes.now).checker_scope xs cursors
