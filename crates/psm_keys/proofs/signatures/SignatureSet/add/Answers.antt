use Rattle.std.proofs.Common.{◌≡◌, ap, subst, ◌∙◌}
use Rattle.psm_keys.specs.Fresh.{is_new, with_new}
use Rattle.psm_keys.specs.Signature.{Signature, is_same_signature}
use Rattle.psm_keys.specs.KeySignature.{key_signature}
use Rattle.psm_keys.proofs.Added.{after_is, answer_is}
use Rattle.psm_keys.proofs.KeySignature.{is_same_key, key_signature_same}
use Rattle.psm_keys.proofs.signatures.SignatureSet.add.Goals as goal

pub returns-clause-answer : goal.returns-clause-answer
returns-clause-answer c =
    let key = c.in_ok-key.key in
    subst (λ (s : Signature). c.in_ok-added.added ≡ is_new is_same_signature s c.args.self.now) c.in_ok-key.ensures
    (answer_is is_same_key key_signature is_same_signature key (key_signature_same key) c.self.inside.keys.keys c.args.self.now c.in_ok-added.added c.self.view_is c.in_ok-added.ensures.added)

pub returns-clause-after : goal.returns-clause-after
returns-clause-after c =
    let key = c.in_ok-key.key in
    after_is is_same_key key_signature is_same_signature key (key_signature_same key) c.self.inside.keys.keys c.args.self.now c.insert.new.self.keys c.in_ok-added.added c.self.view_is c.in_ok-added.ensures.added c.in_ok-added.ensures.keys
    ∙ ap (λ (s : Signature). with_new c.in_ok-added.added s c.args.self.now) c.in_ok-key.ensures
