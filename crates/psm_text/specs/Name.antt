-- Names as lists of code points (ISO/IEC 9075:1992, 5.4).
use Rattle.std.specs.Prelude.{◌≡◌, ℕ, List, length, ⊤, nat_eq, nat_le, Result, Ok, Err, if◌then◌else◌}
use Rattle.std.specs.Str.{chars}
use Rattle.psm_text.specs.declared.fault.NameFault.{NameFault}
use Rattle.psm_text.specs.declared.fault.NameFault.TheVariants.{Empty, TooLong, Memory}

-- the characters as a name, where there are 1 to 128 of them
abbrev pub name_of : List ℕ → Result (List ℕ) NameFault
name_of t = if nat_eq (length t) 0 then Err Empty else if nat_le (length t) 128 then Ok t else Err TooLong

-- the name of the characters that the UTF-8 bytes spell
abbrev pub named : List ℕ → Result (List ℕ) NameFault
named bytes = name_of (chars bytes)

-- the answer is the one that is due, unless memory runs out
abbrev pub GivesName : Result (List ℕ) NameFault → Result (List ℕ) NameFault → Type 0
GivesName due (Ok t) = due ≡ Ok t
GivesName due (Err Memory) = ⊤
GivesName due (Err Empty) = due ≡ Err Empty
GivesName due (Err TooLong) = due ≡ Err TooLong
