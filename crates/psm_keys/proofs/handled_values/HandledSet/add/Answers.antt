use Rattle.std.proofs.Common.{◌&&◌, ap, sym, ◌∙◌}
use Rattle.std.specs.Prelude.{nat_eq}
use Rattle.psm_cond.specs.Keys.{is_value}
use Rattle.psm_code.specs.RoutineRules.{is_same_value}
use Rattle.psm_keys.specs.declared.handled_values.HandledKey.{HandledKey}
use Rattle.psm_keys.specs.Handled.{is_same_handled}
use Rattle.psm_keys.proofs.Added.{after_is, answer_is}
use Rattle.psm_keys.proofs.Turned.{numbers_turned}
use Rattle.psm_keys.proofs.Values.{same_value}
use Rattle.psm_keys.proofs.handled_values.HandledSet.add.Goals as goal

pub returns-clause-answer : goal.returns-clause-answer
returns-clause-answer c =
    let key : HandledKey = record { block = c.args.block; value = c.args.value } in
    answer_is (λ (a : HandledKey) (b : HandledKey). nat_eq a.block b.block && is_value a.value b.value) (λ k. (k.block, k.value)) is_same_handled key
    (λ l. ap (λ b. b && is_same_value key.value l.value) (numbers_turned l.block key.block) ∙ ap (λ b. nat_eq key.block l.block && b) (sym (same_value key.value l.value)))
    c.self.inside.keys.keys c.args.self.now c.in_ok-added.added c.self.view_is c.in_ok-added.ensures.added

pub returns-clause-after : goal.returns-clause-after
returns-clause-after c =
    let key : HandledKey = record { block = c.args.block; value = c.args.value } in
    after_is (λ (a : HandledKey) (b : HandledKey). nat_eq a.block b.block && is_value a.value b.value) (λ k. (k.block, k.value)) is_same_handled key
    (λ l. ap (λ b. b && is_same_value key.value l.value) (numbers_turned l.block key.block) ∙ ap (λ b. nat_eq key.block l.block && b) (sym (same_value key.value l.value)))
    c.self.inside.keys.keys c.args.self.now c.insert.new.self.keys c.in_ok-added.added c.self.view_is c.in_ok-added.ensures.added c.in_ok-added.ensures.keys
