use Rattle.std.proofs.Common.{rules, ◌≡◌, suc, reverse, subst, sym, ◌∙◌, Err, if◌then◌else◌}
use Rattle.std.specs.Prelude.{codes, nat_lt}
use Rattle.std.proofs.lemmas.List.{length-reverse}
use Rattle.psm_code.specs.Calling.{most_depth}
use Rattle.psm_code.specs.Steps.{Got, got, of_state, raises}
use Rattle.psm_unwind.specs.View.{machine_of}
use Rattle.psm_machine.specs.ActResults.{Evaluates}
use Rattle.psm_machine.proofs.Callings.{callers_many}
use Rattle.psm_machine.proofs.calls.bounded.Goals as goal

pub returns-then-len : goal.returns-then-len
returns-then-len c = λ tables at.
    subst (λ n. (if nat_lt (suc n) most_depth then got tt else raises (of_state (codes "X0001"))) (machine_of tables at c.args.run.now) ≡ record { given = Got tt; machine = machine_of tables at c.args.run.now })
    (sym (callers_many at c.args.run.now.operands.callers (reverse c.args.run.now.callers.items) ∙ length-reverse c.args.run.now.callers.items)) (search rules)

pub returns-else-len : goal.returns-else-len
returns-else-len c = λ tables at.
    subst (λ n. Evaluates ((if nat_lt (suc n) most_depth then got tt else raises (of_state (codes "X0001"))) (machine_of tables at c.args.run.now)) (Err c.stop_at.result) (machine_of tables at c.args.run.now))
    (sym (callers_many at c.args.run.now.operands.callers (reverse c.args.run.now.callers.items) ∙ length-reverse c.args.run.now.callers.items)) (search rules)
