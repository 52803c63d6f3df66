use Rattle.std.proofs.Common.{sym, subst}
use Rattle.psm_code.specs.Steps.{Came}
use Rattle.psm_unwind.specs.View.{machine_of}
use Rattle.psm_machine.specs.ActResults.{Evaluates}
use Rattle.psm_machine.proofs.Doing.{other_plain}
use Rattle.psm_machine.proofs.Standing.{still_same}
use Rattle.psm_machine.proofs.performing.plain.Goals as goal

pub returns-in_default : goal.returns-in_default
returns-in_default g c =
    let tables = g.S.Store.tables c.args.store.now in
    let at = g.S.Store.at c.args.store.now in
    record {
      expected =
          subst (λ (x : Came (Unit {0})). Evaluates x c.within.result (machine_of tables at c.within.new.run))
          (sym (other_plain c.args.routine.now c.args.instruction.now (machine_of tables at c.args.run.now) c.in_default.not-Enter c.in_default.not-Exit)) (c.within.ensures.expected tables at);
      still = still_same (g.S.Store.holds c.args.store.now) at (g.S.Store.marks c.args.store.now) c.args.run.now c.within.new.run c.within.ensures.same;
    }
