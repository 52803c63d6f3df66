use Rattle.std.proofs.Common.{◌∙◌, ap, subst, sym}
use Rattle.psm_rules.specs.StatementFaults.{repeated}
use Rattle.psm_check_stmt.specs.Listed.{AreSeen}
use Rattle.psm_check_stmt.proofs.NamesSoFar.{added_to, repeated_with}
use Rattle.psm_check_stmt.proofs.repeated.Repeats.add.Goals as goal

pub invariant_of-self-2 : goal.invariant_of-self-2
invariant_of-self-2 c =
    let list = c.self.inside in
    let name = c.args.name.now in
    let added = added_to c.in_ok-added.added list.seen c.add.new.self _ list.log.names name c.self.invariant.1 c.in_ok-added.ensures in
    let names = c.and-self-inside.ensures in (
      repeated_with list.rule name c.in_ok-added.added list.seen list.log.names list.fault c.breaks_if.result c.earlier-self-inside.result
          c.self.invariant.1 added.0 c.self.invariant.0 c.breaks_if.ensures c.earlier-self-inside.ensures ∙ ap (repeated list.rule) (sym names),
      subst (λ ns. AreSeen c.add.new.self ns) (sym names) added.1,
    )
