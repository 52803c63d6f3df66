-- How a script prints values.
use Rattle.std.specs.Prelude.{ℕ, List, [], ◌∷◌, ◌++◌, codes, nat_eq, encode_utf8_all, if◌then◌else◌}
use Rattle.std.specs.List.{flat_map}
use Rattle.psm_num.specs.Printed as num
use Rattle.psm_value.specs.declared.datum.Datum.{Datum}
use Rattle.psm_value.specs.declared.datum.Datum.TheVariants.{Null, Num, Text}

-- a single quote twice, and every other character once
abbrev pub doubled : ℕ → List ℕ
doubled c = if nat_eq c 39 then 39 ∷ 39 ∷ [] else c ∷ []

-- a text between single quotes, in UTF-8
abbrev pub quoted : List ℕ → List ℕ
quoted t = codes "'" ++ encode_utf8_all (flat_map doubled t) ++ codes "'"

-- NULL, the digits of a number, or a quoted text
abbrev pub printed : Datum → List ℕ
printed Null = codes "NULL"
printed (Num n) = num.printed n
printed (Text t) = quoted t
