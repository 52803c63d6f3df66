-- Bytes and the characters that they spell.
use Rattle.std.proofs.Common.{◌≡◌, ℕ, List, Bool, nat_eq, encode_utf8_all, ap, sym, ◌∙◌}
use Rattle.std.specs.Prelude.{◌↔◌, IsTrue}
use Rattle.std.specs.Str.{chars, IsUtf8}
use Rattle.std.specs.Cmp.Lexicographic.{pointwise, bytes_decides}
use Rattle.std.proofs.lemmas.Str.{encodes-chars}

-- bytes that the code reads from a string spell the string's characters
pub spelled_by : (bytes held t : List ℕ) → IsUtf8 bytes → bytes ≡ held → chars held ≡ t → bytes ≡ encode_utf8_all t
spelled_by bytes held t u e f = sym (encodes-chars bytes u) ∙ ap (λ b. encode_utf8_all (chars b)) e ∙ ap encode_utf8_all f

-- texts with the same bytes have the same characters, and the other way round
pub same_names : (a b held kept x y : List ℕ) (r : Bool) → IsUtf8 a → IsUtf8 b → a ≡ held → b ≡ kept → chars held ≡ x → chars kept ≡ y
    → r ≡ pointwise nat_eq a b → IsTrue r ↔ (x ≡ y)
same_names a b held kept x y r u v e f p q s = (
  (λ h. sym p ∙ ap chars (sym e ∙ (bytes_decides a b).0 (sym s ∙ h) ∙ f) ∙ q),
  (λ h. s ∙ (bytes_decides a b).1 (spelled_by a held x u e p ∙ ap encode_utf8_all h ∙ sym (spelled_by b kept y v f q))),
)
