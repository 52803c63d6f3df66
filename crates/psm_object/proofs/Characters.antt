-- The characters of a name.
use Rattle.std.proofs.Common.{◌≡◌, ℕ, List, ◌∙◌}
use Rattle.std.specs.Prelude.{encode_utf8_all}
use Rattle.std.specs.Str.{IsUtf8, chars}
use Rattle.std.proofs.lemmas.Str.{encodes_same, encodes-chars}

pub named_chars : (n bs : List ℕ) → bs ≡ encode_utf8_all n → IsUtf8 bs → chars bs ≡ n
named_chars n bs e u = encodes_same (chars bs) n (encodes-chars bs u ∙ e)
