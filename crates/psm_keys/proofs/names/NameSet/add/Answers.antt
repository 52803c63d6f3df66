use Rattle.psm_code.specs.Rules.{is_same}
use Rattle.psm_keys.specs.declared.names.NameKey.{NameKey}
use Rattle.psm_keys.proofs.Added.{after_is, answer_is}
use Rattle.psm_keys.proofs.Turned.{texts_turned}
use Rattle.psm_keys.proofs.names.NameSet.add.Goals as goal

pub returns-clause-answer : goal.returns-clause-answer
returns-clause-answer c =
    let key : NameKey = record { name = c.args.name } in
    answer_is (λ (a : NameKey) (b : NameKey). is_same a.name.now b.name.now) (λ k. k.name.now) is_same key (λ l. texts_turned l.name.now c.args.name.now)
    c.self.inside.keys.keys c.args.self.now c.in_ok-added.added c.self.view_is c.in_ok-added.ensures.added

pub returns-clause-after : goal.returns-clause-after
returns-clause-after c =
    let key : NameKey = record { name = c.args.name } in
    after_is (λ (a : NameKey) (b : NameKey). is_same a.name.now b.name.now) (λ k. k.name.now) is_same key (λ l. texts_turned l.name.now c.args.name.now)
    c.self.inside.keys.keys c.args.self.now c.insert.new.self.keys c.in_ok-added.added c.self.view_is c.in_ok-added.ensures.added c.in_ok-added.ensures.keys
