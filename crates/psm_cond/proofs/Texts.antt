-- What the texts of strings are.
use Rattle.std.proofs.Common.{◌≡◌, ℕ, List, Ok, arith}
use Rattle.std.specs.Str.{IsAscii, chars}
use Rattle.std.proofs.lemmas.Str.{chars-IsAscii}
use Rattle.psm_text.specs.Text.{made}

pub ascii_chars : (s : List ℕ) → IsAscii s → chars s ≡ s
ascii_chars s h = chars-IsAscii s h

pub made_chars : (s t : List ℕ) → made s ≡ Ok t → t ≡ chars s
made_chars s t h = grind arith
