use Rattle.std.proofs.Common.{ap, suc, ◌≡◌, ◌∙◌, sym, arith, reverse}
use Rattle.psm_code.specs.State.{cleared}
use Rattle.psm_code.specs.Steps.{Came}
use Rattle.psm_unwind.specs.View.{callers_of, machine_of}
use Rattle.psm_machine.proofs.ends.resume.Goals as goal

pub returns-clause-expected : goal.returns-clause-expected
returns-clause-expected c = λ tables at.
    let m = machine_of tables at c.args.run.now in
    let next : suc c.args.run.now.running.line ≡ c.in-Some.line = omega (arith, c.in-Some.ensures.1) in
    ap (λ os. cleared (record m { running = record m.running { operands = os; line = suc m.running.line } })) c.in_ok-put_on_top.ensures.own
    ∙ ap (λ l. cleared (record m { running = record m.running { operands = c.put_on_top.new.operands.own; line = l } })) next
    ∙ ap (λ stacks. cleared (record m { running = record m.running { operands = c.put_on_top.new.operands.own; line = c.in-Some.line }; callers = callers_of at stacks (reverse c.args.run.now.callers.items) })) (sym c.put_on_top.ensures.callers)
    ∙ ap (λ (came : Came (Unit {0})). came.machine) (c.clear.ensures.expected tables at)
