use Rattle.std.proofs.Common.{◌≡◌, ◌∙◌, ◌≤◌, ℕ, suc, List, ap, drop, length, refl, subst, sym, take}
use Rattle.psm_table.specs.declared.definition.ForeignKey.{ForeignKey}
use Rattle.psm_code.specs.TableRules.{keys_from}
use Rattle.psm_object.specs.OwnKeys.{ascend, count_at_front}
use Rattle.psm_object.proofs.OwnKeys.{count_within, others_are, others_ascend, own_is}
use Rattle.psm_object.proofs.references.parted.Goals as goal

pub split_at-requires : goal.split_at-requires
split_at-requires c = subst (λ n. n ≤ length c.args.keys.now) (sym c.count_at_front.ensures) (count_within c.args.table c.args.keys.now)

pub returns-then-in_order-clause-own : goal.returns-then-in_order-clause-own
returns-then-in_order-clause-own c =
    let keys : List ForeignKey = c.args.keys.now in
    let n = c.args.table in
    ap (λ ks. keys_from ks n) (c.split_at.ensures.front ∙ ap (λ k. take k keys) c.count_at_front.ensures) ∙ own_is n keys (c.requires c.if-in_order.true)

pub returns-then-in_order-clause-others : goal.returns-then-in_order-clause-others
returns-then-in_order-clause-others c =
    let keys : List ForeignKey = c.args.keys.now in
    let n = c.args.table in
    λ m l. ap (λ ks. keys_from ks m) (c.split_at.ensures.back ∙ ap (λ k. drop k keys) c.count_at_front.ensures) ∙ others_are n keys m l

pub returns-then-in_order-clause-order : goal.returns-then-in_order-clause-order
returns-then-in_order-clause-order c =
    let keys : List ForeignKey = c.args.keys.now in
    let n = c.args.table in
    λ h. ap (ascend (suc n)) (c.split_at.ensures.back ∙ ap (λ k. drop k keys) c.count_at_front.ensures) ∙ others_ascend n keys (c.requires c.if-in_order.true)

pub returns-else-in_order-clause-order : goal.returns-else-in_order-clause-order
returns-else-in_order-clause-order c = λ h. let f = c.if-in_order.false in absurd (cc)
