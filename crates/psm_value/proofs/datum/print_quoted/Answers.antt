use Rattle.psm_value.proofs.Quoting.{quoted_on}
use Rattle.psm_value.proofs.datum.print_quoted.Goals as goal

pub loop-c-preserved : goal.loop-c-preserved
loop-c-preserved c = quoted_on c.args.characters.now c.push.new.self.items c.loop-c.out.items c.print_character.new.out.items c.loop-c.c-index c.c-item.result
    c.loop-c-test.true c.c-item.is c.loop-c.invariant c.in_ok-print_character.ensures.ok
