use Rattle.std.proofs.Common.{Ok, refl, sym, subst}
use Rattle.psm_code.specs.declared.instruction.Instruction.{Instruction}
use Rattle.psm_code.specs.Calling.{«end»}
use Rattle.psm_code.specs.Run.{Successor, done}
use Rattle.psm_code.specs.Steps.{Came}
use Rattle.psm_unwind.specs.View.{machine_of}
use Rattle.psm_machine.specs.Successors.{StepsTo, plain_act}
use Rattle.psm_machine.proofs.Doing.{other_done}
use Rattle.psm_machine.proofs.Standing.{still_same, still_then}
use Rattle.psm_machine.proofs.performing.perform.Goals as goal

pub returns-in-EndAction-clause-expected : goal.returns-in-EndAction-clause-expected
returns-in-EndAction-clause-expected g c =
    let tables = g.S.Store.tables c.args.store.now in
    let at = g.S.Store.at c.args.store.now in
    subst (λ (i : Instruction). StepsTo (done c.args.code.now c.args.routine.now i (machine_of tables at c.args.run.now)) c.finish_action.result (machine_of tables at c.finish_action.new.run)) (sym c.in-EndAction.is) (c.finish_action.ensures.expected tables at)

pub returns-in-Call-clause-expected : goal.returns-in-Call-clause-expected
returns-in-Call-clause-expected g c =
    let tables = g.S.Store.tables c.args.store.now in
    let at = g.S.Store.at c.args.store.now in
    subst (λ (i : Instruction). StepsTo (done c.args.code.now c.args.routine.now i (machine_of tables at c.args.run.now)) c.call_on.result (machine_of tables at c.call_on.new.run)) (sym c.in-Call.is) (c.call_on.ensures.expected tables at)

pub returns-in-FunctionCall-clause-expected : goal.returns-in-FunctionCall-clause-expected
returns-in-FunctionCall-clause-expected g c =
    let tables = g.S.Store.tables c.args.store.now in
    let at = g.S.Store.at c.args.store.now in
    subst (λ (i : Instruction). StepsTo (done c.args.code.now c.args.routine.now i (machine_of tables at c.args.run.now)) c.call_on-in-FunctionCall.result (machine_of tables at c.call_on-in-FunctionCall.new.run)) (sym c.in-FunctionCall.is) (c.call_on-in-FunctionCall.ensures.expected tables at)

pub returns-in_ok-end_procedure-in-End-clause-expected : goal.returns-in_ok-end_procedure-in-End-clause-expected
returns-in_ok-end_procedure-in-End-clause-expected g c =
    subst (λ (i : Instruction). StepsTo (done c.args.code.now c.args.routine.now i (machine_of (g.S.Store.tables c.args.store.now) (g.S.Store.at c.args.store.now) c.args.run.now)) (Ok c.in_ok-end_procedure-in-End.field-0)
    (machine_of (g.S.Store.tables c.end_procedure.new.store) (g.S.Store.at c.end_procedure.new.store) c.end_procedure.new.run)) (sym c.in-End.is) («end» c.args.code.now, refl, c.in_ok-end_procedure-in-End.ensures.expected)

pub returns-in_default : goal.returns-in_default
returns-in_default g c =
    let h0 = g.S.Store.holds c.args.store.now in
    let at0 = g.S.Store.at c.args.store.now in
    let count0 = g.S.Store.marks c.args.store.now in
    let h1 = g.S.Store.holds c.plain-done.new.store in
    let at1 = g.S.Store.at c.plain-done.new.store in
    let count1 = g.S.Store.marks c.plain-done.new.store in
    let tables1 = g.S.Store.tables c.plain-done.new.store in
    let m = machine_of (g.S.Store.tables c.args.store.now) at0 c.args.run.now in
    record {
      expected =
          subst (λ (x : Came Successor). StepsTo x c.following.result (machine_of tables1 at1 c.following.new.run))
          (sym (other_done c.args.code.now c.args.routine.now c.args.instruction.now m c.requires.kind c.requires.other c.in_default.not-EndAction c.in_default.not-Call c.in_default.not-FunctionCall c.in_default.not-ReturnValue c.in_default.not-End))
          (c.following.ensures.expected tables1 at1 (plain_act c.args.routine.now c.args.instruction.now m) c.plain-done.ensures.expected);
      still = still_then h0 at0 count0 c.args.run.now h1 at1 count1 c.plain-done.new.run h1 at1 count1 c.following.new.run c.plain-done.ensures.still (still_same h1 at1 count1 c.plain-done.new.run c.following.new.run c.following.ensures.same);
    }
