-- The three-valued tables of AND, OR and NOT (ISO/IEC 9075:1992, 8.12).
use Rattle.std.specs.Prelude.{Bool, true, false}
use Rattle.psm_value.specs.declared.truth.Truth.{Truth}
use Rattle.psm_value.specs.declared.truth.Truth.TheVariants.{True, False, Unknown}

-- AND
abbrev pub both : Truth → Truth → Truth
both True b = b
both False b = False
both Unknown True = Unknown
both Unknown False = False
both Unknown Unknown = Unknown

-- OR
abbrev pub either : Truth → Truth → Truth
either True b = True
either False b = b
either Unknown True = True
either Unknown False = Unknown
either Unknown Unknown = Unknown

-- NOT
abbrev pub opposite : Truth → Truth
opposite True = False
opposite False = True
opposite Unknown = Unknown

-- IS TRUE
abbrev pub is_certain : Truth → Bool
is_certain True = true
is_certain False = false
is_certain Unknown = false
