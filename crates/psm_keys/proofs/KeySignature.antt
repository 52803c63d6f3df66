-- Keys of routines are compared as their signatures are.
use Rattle.std.proofs.Common.{◌≡◌, Bool, true, false, ◌&&◌, refl, ap, ◌∙◌}
use Rattle.std.specs.Prelude.{nat_eq}
use Rattle.std.specs.Bool.{beq}
use Rattle.std.specs.Cmp.Lexicographic.{pointwise}
use Rattle.psm_code.specs.Rules.{is_same}
use Rattle.psm_code.specs.RoutineRules.{same_truth}
use Rattle.psm_keys.specs.declared.signatures.SignatureKey.{SignatureKey}
use Rattle.psm_keys.specs.Signature.{is_same_signature}
use Rattle.psm_keys.specs.KeySignature.{key_signature}
use Rattle.psm_keys.proofs.Turned.{signatures_turned}

truths : (a b : Bool) → same_truth a b ≡ beq a b
truths true true = refl
truths true false = refl
truths false true = refl
truths false false = refl

abbrev pub is_same_key : SignatureKey → SignatureKey → Bool
is_same_key a b = is_same a.name.name.now b.name.name.now && (beq a.is_function b.is_function && (nat_eq a.count b.count && pointwise nat_eq a.kinds.items b.kinds.items))

pub key_signature_same : (k l : SignatureKey) → is_same_signature (key_signature l) (key_signature k) ≡ is_same_key k l
key_signature_same k l =
    signatures_turned (key_signature l) (key_signature k)
    ∙ ap (λ b. is_same k.name.name.now l.name.name.now && (b && (nat_eq k.count l.count && pointwise nat_eq k.kinds.items l.kinds.items))) (truths k.is_function l.is_function)
