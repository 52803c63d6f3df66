-- Texts that are stored and fetched (ISO/IEC 9075:1992, 9.1 and 9.2).
use Rattle.std.specs.Prelude.{ℕ, Bool, List, length, take, drop, nat_eq, nat_lt, Result, Ok, Err, if◌then◌else◌}
use Rattle.std.specs.List.{list_all}
use Rattle.psm_text.specs.declared.fault.TextFault.{TextFault}
use Rattle.psm_text.specs.declared.fault.TextFault.TheVariants.{Lost}
use Rattle.psm_text.specs.Order.{blank, padded}

-- the text, filled with blanks up to n characters where pad says so
abbrev pub filled : ℕ → Bool → List ℕ → List ℕ
filled n pad t = if pad then padded n t else t

-- whether each character is a blank
abbrev pub is_blank : List ℕ → Bool
is_blank t = list_all (λ c. nat_eq c blank) t

-- the text that is stored: only blanks may be lost
abbrev pub stored : ℕ → Bool → List ℕ → Result (List ℕ) TextFault
stored n pad t = if is_blank (drop n t) then Ok (filled n pad (take n t)) else Err Lost

-- the text that is fetched, and whether a character was lost
abbrev pub fetched : ℕ → Bool → List ℕ → List ℕ × Bool
fetched n pad t = (filled n pad (take n t), nat_lt n (length t))
