-- Texts as lists of code points, and what an operation on them answers.
use Rattle.std.specs.Prelude.{◌≡◌, ℕ, List, length, ⊤, nat_le, Result, Ok, Err, if◌then◌else◌}
use Rattle.std.specs.Str.{chars}
use Rattle.psm_text.specs.declared.fault.TextFault.{TextFault}
use Rattle.psm_text.specs.declared.fault.TextFault.TheVariants.{TooLong, Substring, EscapeChar, EscapePair, Lost, Memory}

-- the most characters that a text has
abbrev pub most : ℕ
most = 4000

-- the answer is the one that is due, unless memory runs out
abbrev pub Gives : Result (List ℕ) TextFault → Result (List ℕ) TextFault → Type 0
Gives due (Ok t) = due ≡ Ok t
Gives due (Err Memory) = ⊤
Gives due (Err TooLong) = due ≡ Err TooLong
Gives due (Err Substring) = due ≡ Err Substring
Gives due (Err EscapeChar) = due ≡ Err EscapeChar
Gives due (Err EscapePair) = due ≡ Err EscapePair
Gives due (Err Lost) = due ≡ Err Lost

-- the characters as a text, where they aren't too many
abbrev pub within_most : List ℕ → Result (List ℕ) TextFault
within_most t = if nat_le (length t) most then Ok t else Err TooLong

-- the text of the characters that the UTF-8 bytes spell
abbrev pub made : List ℕ → Result (List ℕ) TextFault
made bytes = within_most (chars bytes)
