use Rattle.std.proofs.Common.{◌≡◌, ℕ, ◌+◌, List, Some, rules, sym, subst, ◌∙◌}
use Rattle.psm_load_line.specs.Forms.{index}
use Rattle.psm_load_line.proofs.Many.{comes_to_last, goes_on, Going}
use Rattle.psm_load_line.proofs.lists.add_indexes.Goals as goal

pub returns-then-is_empty : goal.returns-then-is_empty
returns-then-is_empty c =
    let l = c.loop-done in
    comes_to_last index c.args.list.now.items l.list.items c.args.rest.now l._done l.left.now (sym c.is_empty.ensures ∙ c.if-is_empty.true) l.invariant

pub loop-done-preserved : goal.loop-done-preserved
loop-done-preserved c =
    let l = c.loop-done in
    let e : index l.left.now ≡ Some (c.in_ok-n.n, c.in_ok-n.after.now) = search rules in
    subst (λ (now : List ℕ). Going (λ (n : ℕ). n) index c.args.list.now.items now c.args.rest.now (l._done + 1) c.in_ok-n.after.now) (sym c.in_ok-push.ensures.items)
    (goes_on (λ (n : ℕ). n) index c.args.list.now.items l.list.items c.args.rest.now l._done l.left.now c.in_ok-n.after.now c.in_ok-n.n c.loop-done-test.true (sym c.is_empty.ensures ∙ c.if-is_empty.false) e l.invariant)

pub returns-then-is_empty-2 : goal.returns-then-is_empty-2
returns-then-is_empty-2 c =
    let l = c.loop-done in
    comes_to_last index c.args.list.now.items l.list.items c.args.rest.now l._done l.left.now (sym c.is_empty-2.ensures ∙ c.if-is_empty-2.true) l.invariant
