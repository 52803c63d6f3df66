use Rattle.std.proofs.Common.{refl}
use Rattle.psm_cond.specs.declared.key.HandlerKey.{HandlerKey}
use Rattle.psm_cond.proofs.Indexes.{notes_new, notes_there}
use Rattle.psm_cond.proofs.index.Index.add.Goals as goal

pub returns-then-contains_key : goal.returns-then-contains_key
returns-then-contains_key c =
    let key : HandlerKey = record { context = c.args.context; value = c.args.value } in
    notes_there c.args.self.now c.args.self.now key c.args.number c.if-contains_key.ensures refl

pub returns : goal.returns
returns c =
    let key : HandlerKey = record { context = c.args.context; value = c.args.value } in
    notes_new c.args.self.now (record { first = c.insert.new.self }) key c.args.number c.if-contains_key.ensures (λ other. c.in_ok-insert.ensures.updates.0 other)
