use Rattle.std.proofs.Common.{sym, subst}
use Rattle.psm_code.specs.declared.instruction.Instruction.{Instruction}
use Rattle.psm_code.specs.Run.{fall_through, done, operation, store}
use Rattle.psm_code.specs.State.{cleared}
use Rattle.psm_code.specs.Steps.{change, got, turn}
use Rattle.psm_unwind.specs.View.{machine_of}
use Rattle.psm_machine.specs.Successors.{StepsTo, goes_more}
use Rattle.psm_machine.proofs.Doing.{goes_after, goes_to, stopped_successor}
use Rattle.psm_machine.proofs.Leavings.{stopped_turns}
use Rattle.psm_machine.proofs.Onward.{errs_alike}
use Rattle.psm_machine.proofs.advancing.follow.Goals as goal

pub returns-in_err-next-in-Operation-clause-expected : goal.returns-in_err-next-in-Operation-clause-expected
returns-in_err-next-in-Operation-clause-expected c = λ code tables at.
    let m = machine_of tables at c.args.run.now in
    let now = machine_of tables at c.operation.new.run in
    subst (λ (i : Instruction). StepsTo (done code c.args.routine.now i m) (goes_more c.from_residual.result) now) (sym c.in-Operation.is)
    (stopped_successor (operation c.in-Operation.op m) c.in_err-next-in-Operation.field-0.0 now (goes_more c.from_residual.result) (errs_alike c.from_residual.result c.in_err-next-in-Operation.field-0.0 c.from_residual.ensures.1) (c.in_err-next-in-Operation.ensures.expected tables at))

pub returns-in_err-store-in-Store-clause-expected : goal.returns-in_err-store-in-Store-clause-expected
returns-in_err-store-in-Store-clause-expected c = λ code tables at.
    let m = machine_of tables at c.args.run.now in
    let now = machine_of tables at c.store.new.run in
    let r = c.from_residual-in_err-store-in-Store.result in
    subst (λ (i : Instruction). StepsTo (done code c.args.routine.now i m) (goes_more r) now) (sym c.in-Store.is)
    (stopped_turns (store c.args.routine.now c.in-Store.slot m) (λ _. got fall_through) now c.in_err-store-in-Store.field-0.0 (goes_more r) (errs_alike r c.in_err-store-in-Store.field-0.0 c.from_residual-in_err-store-in-Store.ensures.1) (c.in_err-store-in-Store.ensures.expected tables at))

pub returns-in_err-turn-in-Turn-clause-expected : goal.returns-in_err-turn-in-Turn-clause-expected
returns-in_err-turn-in-Turn-clause-expected c = λ code tables at.
    let m = machine_of tables at c.args.run.now in
    let now = machine_of tables at c.turn.new.run in
    let r = c.from_residual-in_err-turn-in-Turn.result in
    subst (λ (i : Instruction). StepsTo (done code c.args.routine.now i m) (goes_more r) now) (sym c.in-Turn.is)
    (stopped_turns (turn m) (λ _. got fall_through) now c.in_err-turn-in-Turn.field-0.0 (goes_more r) (errs_alike r c.in_err-turn-in-Turn.field-0.0 c.from_residual-in_err-turn-in-Turn.ensures.1) (c.in_err-turn-in-Turn.ensures.expected tables at))

pub returns-in_ok-next-in-Operation-clause-expected : goal.returns-in_ok-next-in-Operation-clause-expected
returns-in_ok-next-in-Operation-clause-expected c = λ code tables at.
    let m = machine_of tables at c.args.run.now in
    let now = machine_of tables at c.go_to.new.run in
    subst (λ (i : Instruction). StepsTo (done code c.args.routine.now i m) (goes_more c.go_to.result) now) (sym c.in-Operation.is)
    (goes_to (operation c.in-Operation.op m) c.in_ok-next-in-Operation.next (machine_of tables at c.operation.new.run) now (goes_more c.go_to.result) (c.in_ok-next-in-Operation.ensures.expected tables at) (c.go_to.ensures.expected tables at))

pub returns-in-Clear-clause-expected : goal.returns-in-Clear-clause-expected
returns-in-Clear-clause-expected c = λ code tables at.
    let m = machine_of tables at c.args.run.now in
    let now = machine_of tables at c.go_to-in-Clear.new.run in
    subst (λ (i : Instruction). StepsTo (done code c.args.routine.now i m) (goes_more c.go_to-in-Clear.result) now) (sym c.in-Clear.is)
    (goes_after (change cleared m) _ (machine_of tables at c.clear.new.run) now (goes_more c.go_to-in-Clear.result) (c.clear.ensures.expected tables at) (c.go_to-in-Clear.ensures.expected tables at))

pub returns-in_ok-store-in-Store-clause-expected : goal.returns-in_ok-store-in-Store-clause-expected
returns-in_ok-store-in-Store-clause-expected c = λ code tables at.
    let m = machine_of tables at c.args.run.now in
    let now = machine_of tables at c.go_to-in-Store.new.run in
    subst (λ (i : Instruction). StepsTo (done code c.args.routine.now i m) (goes_more c.go_to-in-Store.result) now) (sym c.in-Store.is)
    (goes_after (store c.args.routine.now c.in-Store.slot m) _ (machine_of tables at c.store.new.run) now (goes_more c.go_to-in-Store.result) (c.in_ok-store-in-Store.ensures.expected tables at) (c.go_to-in-Store.ensures.expected tables at))

pub returns-in_ok-turn-in-Turn-clause-expected : goal.returns-in_ok-turn-in-Turn-clause-expected
returns-in_ok-turn-in-Turn-clause-expected c = λ code tables at.
    let m = machine_of tables at c.args.run.now in
    let now = machine_of tables at c.go_to-in-Turn.new.run in
    subst (λ (i : Instruction). StepsTo (done code c.args.routine.now i m) (goes_more c.go_to-in-Turn.result) now) (sym c.in-Turn.is)
    (goes_after (turn m) _ (machine_of tables at c.turn.new.run) now (goes_more c.go_to-in-Turn.result) (c.in_ok-turn-in-Turn.ensures.expected tables at) (c.go_to-in-Turn.ensures.expected tables at))
