-- The messages of SQLSTATEs are texts of ASCII characters.
use Rattle.std.proofs.Common.{◌≡◌, ℕ, zero, suc, true, List, [], ◌∷◌, lit<, ltb-true, arith}
use Rattle.std.specs.Char.{is_ascii}
use Rattle.std.specs.List.{list_all}
use Rattle.std.specs.Str.{IsAscii}
use Rattle.psm_num.proofs.Literals.{and_first, and_second}
use Rattle.psm_sqlstate.specs.Message.{message_of}

pub ascii_from : (t : List ℕ) → list_all is_ascii t ≡ true → IsAscii t
ascii_from [] h i = lit< tt
ascii_from (c ∷ t) h zero = ltb-true c 128 (and_first (is_ascii c) (list_all is_ascii t) h)
ascii_from (c ∷ t) h (suc i) = ascii_from t (and_second (is_ascii c) (list_all is_ascii t) h) i

pub message_ascii : (s : List ℕ) → IsAscii (message_of s)
message_ascii s = ascii_from (message_of s) (grind arith)
