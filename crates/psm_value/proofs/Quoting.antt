-- What is written character by character, in UTF-8.
use Rattle.std.proofs.Common.{◌≡◌, ℕ, ◌+◌, ◌<◌, List, [], ◌∷◌, ◌++◌, length, take, get_or, ap, sym, ◌∙◌}
use Rattle.std.specs.Prelude.{encode_utf8_all}
use Rattle.std.specs.Char.{encode_utf8}
use Rattle.std.specs.List.{flat_map}
use Rattle.std.proofs.lemmas.List.{take_more, append-nil, append_assoc}
use Rattle.std.proofs.lemmas.Grind.{flat_map-append}
use Rattle.std.proofs.lemmas.Str.{encodes-append}
use Rattle.psm_value.specs.Printed.{doubled}

one_more : (t : List ℕ) (i c : ℕ) → i < length t → c ≡ get_or t i c → take (i + 1) t ≡ take i t ++ c ∷ []
one_more t i c h e = take_more t i c h ∙ ap (λ d. take i t ++ d ∷ []) (sym e)

pub one_more_written : (t : List ℕ) (i c : ℕ) → i < length t → c ≡ get_or t i c
    → encode_utf8_all (take (i + 1) t) ≡ encode_utf8_all (take i t) ++ encode_utf8 c
one_more_written t i c h e =
    ap encode_utf8_all (one_more t i c h e) ∙ encodes-append (take i t) (c ∷ []) ∙ ap (λ u. encode_utf8_all (take i t) ++ u) (append-nil (encode_utf8 c))

one_more_quoted : (t : List ℕ) (i c : ℕ) → i < length t → c ≡ get_or t i c
    → encode_utf8_all (flat_map doubled (take (i + 1) t)) ≡ encode_utf8_all (flat_map doubled (take i t)) ++ encode_utf8_all (doubled c)
one_more_quoted t i c h e =
    ap (λ u. encode_utf8_all (flat_map doubled u)) (one_more t i c h e)
    ∙ ap encode_utf8_all (flat_map-append doubled (take i t) (c ∷ []) ∙ ap (λ u. flat_map doubled (take i t) ++ u) (append-nil (doubled c)))
    ∙ encodes-append (flat_map doubled (take i t)) (doubled c)

pub quoted_on : (t start before after : List ℕ) (i c : ℕ) → i < length t → c ≡ get_or t i c
    → before ≡ start ++ encode_utf8_all (flat_map doubled (take i t)) → after ≡ before ++ encode_utf8_all (doubled c)
    → after ≡ start ++ encode_utf8_all (flat_map doubled (take (i + 1) t))
quoted_on t start before after i c h e f g =
    g ∙ ap (λ u. u ++ encode_utf8_all (doubled c)) f ∙ append_assoc start (encode_utf8_all (flat_map doubled (take i t))) (encode_utf8_all (doubled c))
    ∙ ap (λ u. start ++ u) (sym (one_more_quoted t i c h e))
