use Rattle.std.proofs.Common.{◌+◌, List, sym, subst, ◌∙◌, arith}
use Rattle.psm_cond.specs.declared.handlers.ConditionValue.{ConditionValue}
use Rattle.psm_load_line.specs.Forms.{value_at}
use Rattle.psm_load_line.specs.Readers.{word}
use Rattle.psm_load_line.specs.Said.{value_of}
use Rattle.psm_load_line.proofs.Many.{comes_to_end, goes_on_made, meets_another, meets_too_many, Going}
use Rattle.psm_load_line.proofs.lists.add_values.Goals as goal

pub returns-then-is_empty : goal.returns-then-is_empty
returns-then-is_empty c =
    let l = c.loop-done in
    comes_to_end value_of (word value_at) c.args.list.now.items l.list.items c.args.rest.now l._done l.left.now (sym c.is_empty.ensures ∙ c.if-is_empty.true) l.invariant

pub loop-done-preserved : goal.loop-done-preserved
loop-done-preserved c =
    let l = c.loop-done in
    subst (λ (now : List ConditionValue). Going value_of (word value_at) c.args.list.now.items now c.args.rest.now (l._done + 1) c.in-Some.after.now) (sym c.in_ok-push.ensures.items)
    (goes_on_made value_of (word value_at) c.args.list.now.items l.list.items c.args.rest.now l._done l.left.now c.in-Some.after.now c.in-Some.value c.loop-done-test.true (sym c.is_empty.ensures ∙ c.if-is_empty.false) (sym c.in-Some.ensures) l.invariant)

pub returns-in_default : goal.returns-in_default
returns-in_default c =
    let l = c.loop-done in
    meets_another value_of (word value_at) c.args.list.now.items l.list.items c.args.rest.now l._done l.left.now c.loop-done-test.true (sym c.is_empty.ensures ∙ c.if-is_empty.false) (sym c.in_default.ensures) l.invariant

pub returns-else-is_empty-2 : goal.returns-else-is_empty-2
returns-else-is_empty-2 c =
    let l = c.loop-done in
    meets_too_many value_of (word value_at) c.args.list.now.items l.list.items c.args.rest.now l._done l.left.now (omega arith) (sym c.is_empty-2.ensures ∙ c.if-is_empty-2.false) l.invariant

pub returns-then-is_empty-2 : goal.returns-then-is_empty-2
returns-then-is_empty-2 c =
    let l = c.loop-done in
    comes_to_end value_of (word value_at) c.args.list.now.items l.list.items c.args.rest.now l._done l.left.now (sym c.is_empty-2.ensures ∙ c.if-is_empty-2.true) l.invariant
