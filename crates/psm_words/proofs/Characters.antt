-- Characters of texts in UTF-8.
use Rattle.std.proofs.Common.{◌≡◌, ℕ, List, [], ◌∷◌, ◌++◌, sym, ap, ◌∙◌}
use Rattle.std.specs.Prelude.{Result, Ok, Err, OnOk, is_ok, if◌then◌else◌}
use Rattle.std.specs.Char.{IsScalar, encode_utf8}
use Rattle.std.specs.Str.{IsUtf8, chars}
use Rattle.std.proofs.lemmas.List.{append-nil}
use Rattle.std.proofs.lemmas.Str.{chars-append, chars_past_char, chars-nil, IsUtf8-encode}

-- a text with a character more
pushed : (bs : List ℕ) (c : ℕ) → IsUtf8 bs → IsScalar c → chars (bs ++ encode_utf8 c) ≡ chars bs ++ c ∷ []
pushed bs c u s =
    let one : chars (encode_utf8 c) ≡ c ∷ [] =
    chars_past_char (encode_utf8 c) [] c (IsUtf8-encode c s) (sym (append-nil (encode_utf8 c))) ∙ ap (λ (r : List ℕ). c ∷ r) chars-nil in
    chars-append bs (encode_utf8 c) u ∙ ap (λ (r : List ℕ). chars bs ++ r) one

pub pushed_ok : {E : Type 0} (r : Result (Unit {0}) E) (bs ds : List ℕ) (c : ℕ) → ds ≡ (if is_ok r then bs ++ encode_utf8 c else bs) → IsUtf8 bs → IsScalar c
    → OnOk r (chars ds ≡ chars bs ++ c ∷ [])
pushed_ok (Ok x) bs ds c e u s = ap chars e ∙ pushed bs c u s
pushed_ok (Err x) bs ds c e u s = tt

pub chars_none : (bs : List ℕ) → bs ≡ [] → chars bs ≡ []
chars_none bs e = ap chars e ∙ chars-nil
