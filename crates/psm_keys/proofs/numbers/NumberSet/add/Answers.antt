use Rattle.std.proofs.Common.{map-id, sym, ◌∙◌}
use Rattle.std.specs.Prelude.{nat_eq}
use Rattle.psm_keys.proofs.Added.{after_is, answer_is}
use Rattle.psm_keys.proofs.Turned.{numbers_turned}
use Rattle.psm_keys.proofs.numbers.NumberSet.add.Goals as goal

pub returns-clause-answer : goal.returns-clause-answer
returns-clause-answer c =
    answer_is nat_eq (λ k. k) nat_eq c.args.number (λ l. numbers_turned l c.args.number)
    c.self.inside.keys.keys c.args.self.now c.in_ok-added.added (map-id c.self.inside.keys.keys ∙ c.self.view_is) c.in_ok-added.ensures.added

pub returns-clause-after : goal.returns-clause-after
returns-clause-after c =
    sym (map-id c.insert.new.self.keys)
    ∙ after_is nat_eq (λ k. k) nat_eq c.args.number (λ l. numbers_turned l c.args.number)
    c.self.inside.keys.keys c.args.self.now c.insert.new.self.keys c.in_ok-added.added (map-id c.self.inside.keys.keys ∙ c.self.view_is) c.in_ok-added.ensures.added c.in_ok-added.ensures.keys
