-- The signature that a key stands for.
use Rattle.psm_keys.specs.declared.signatures.SignatureKey.{SignatureKey}
use Rattle.psm_keys.specs.Signature.{Signature}

abbrev pub key_signature : SignatureKey → Signature
key_signature k = record { name = k.name.name.now; is_function = k.is_function; count = k.count; kinds = k.kinds.items }
