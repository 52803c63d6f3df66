use Rattle.std.proofs.Common.{ap, sym, subst, ◌∙◌}
use Rattle.psm_rules.specs.FileFaults.{distinct}
use Rattle.psm_check_stmt.specs.SeenRoutines.{AreSeen}
use Rattle.psm_check_stmt.proofs.Apart.{function_added, function_apart}
use Rattle.psm_check_stmt.proofs.seen_routines.SeenRoutines.function_fault.Goals as goal

pub returns-clause-fault : goal.returns-clause-fault
returns-clause-fault c =
    let seen_routines = c.self.inside in
    function_apart seen_routines.functions.keys seen_routines.procedures.keys seen_routines.log.routines c.self.invariant c.args.r.now c.requires c.in_ok-key.key c.in_ok-key.ensures.0 c.in_ok-key.ensures.1
    c.in_ok-added.added c.in_ok-added.ensures.added c.breaks_if.result c.breaks_if.ensures
    ∙ ap (distinct c.args.r.now) c.self.view_is

pub invariant_of-self-2 : goal.invariant_of-self-2
invariant_of-self-2 c =
    let seen_routines = c.self.inside in
    subst (λ rs. AreSeen c.insert.new.self.keys seen_routines.procedures.keys rs) (sym c.and-self-inside.ensures)
    (function_added seen_routines.functions.keys seen_routines.procedures.keys seen_routines.log.routines c.self.invariant c.args.r.now c.requires c.in_ok-key.key c.in_ok-key.ensures.0 c.in_ok-key.ensures.1
    c.insert.new.self.keys c.in_ok-added.ensures.keys)
