-- What is known of the value of an expression before it is evaluated: its family, kind and scale (ISO/IEC 9075:1992, 6.1, 6.11
-- to 6.13 and 9.3).
use Rattle.std.specs.Prelude.{◌+◌, unsigned_abs, nat_le, nat_eq, max, Bool, true, false, ◌&&◌, ◌||◌, not, Option, Some, None, ◌∷◌, if◌then◌else◌}
use Rattle.psm_num.specs.Num.{Num}
use Rattle.psm_value.specs.declared.sqltype.SqlType.{SqlType}
use Rattle.psm_value.specs.declared.sqltype.SqlType.TheVariants as types
use Rattle.psm_scope.specs.Choice.{rank}
use Rattle.psm_scope.specs.declared.kinds.ArgKind.{ArgKind}
use Rattle.psm_rules.specs.declared.shape.Typed.{Typed}
use Rattle.psm_rules.specs.declared.shape.Shape.{Shape}
use Rattle.psm_rules.specs.declared.shape.Shape.TheVariants.{Value, Untyped, Condition}
use Rattle.psm_rules.specs.declared.shape.Family.{Family}
use Rattle.psm_rules.specs.declared.shape.Family.TheVariants.{Numbers, Texts}
use Rattle.psm_scope.specs.declared.kinds.ArgKind.TheVariants.{SmallInt, Integer, Numeric, Char, VarChar, Null}

-- ---- families

abbrev pub family_of : ArgKind → Family
family_of SmallInt = Numbers
family_of Integer = Numbers
family_of Numeric = Numbers
family_of Char = Texts
family_of VarChar = Texts
family_of Null = Texts

abbrev pub is_family : Family → Family → Bool
is_family Numbers Numbers = true
is_family Numbers Texts = false
is_family Texts Numbers = false
is_family Texts Texts = true

-- whether a value is of a family; NULL is of both
abbrev pub is_of : Family → Shape → Bool
is_of family (Value t) = is_family family (family_of t.kind)
is_of family Untyped = true
is_of family Condition = false

-- the family of a value, which NULL doesn't have
abbrev pub family_in : Shape → Option Family
family_in (Value t) = Some (family_of t.kind)
family_in Untyped = None
family_in Condition = None

-- two families that aren't one
abbrev pub clashes : Option Family → Option Family → Bool
clashes None other = false
clashes (Some a) None = false
clashes (Some a) (Some b) = not (is_family a b)

-- the type of a number; NULL isn't one
abbrev pub number_of : Typed → Family → Option Typed
number_of t Numbers = Some t
number_of t Texts = None

abbrev pub number_in : Shape → Option Typed
number_in (Value t) = number_of t (family_of t.kind)
number_in Untyped = None
number_in Condition = None

-- ---- types

abbrev pub typed : SqlType → Typed
typed types.SmallInt = record { kind = SmallInt; scale = 0 }
typed types.Integer = record { kind = Integer; scale = 0 }
typed (types.Numeric p s) = record { kind = Numeric; scale = s }
typed (types.Char n) = record { kind = Char; scale = 0 }
typed (types.VarChar n) = record { kind = VarChar; scale = 0 }

abbrev pub integer : Typed
integer = record { kind = Integer; scale = 0 }

abbrev pub character : Typed
character = record { kind = Char; scale = 0 }

abbrev pub varying : Typed
varying = record { kind = VarChar; scale = 0 }

-- a literal without decimals is INTEGER where it fits in 32 bits
abbrev pub of_literal : Num → Typed
of_literal n = record { kind = if nat_eq n.scale 0 && nat_le (unsigned_abs n.coef) 2147483647 then Integer else Numeric; scale = n.scale }

-- the kind by which a function is chosen for it; a condition is no argument
abbrev pub kind_of : Shape → ArgKind
kind_of (Value t) = t.kind
kind_of Untyped = Null
kind_of Condition = Null

-- ---- operators

-- the higher of two kinds of one family
abbrev pub higher : ArgKind → ArgKind → ArgKind
higher a b = if nat_le (rank b) (rank a) then a else b

-- a sum, a difference or a quotient
abbrev pub at_larger_scale : Typed → Typed → Typed
at_larger_scale a b = record { kind = higher a.kind b.kind; scale = max a.scale b.scale }

-- a product
abbrev pub at_sum_of_scales : Typed → Typed → Typed
at_sum_of_scales a b = record { kind = higher a.kind b.kind; scale = a.scale + b.scale }

-- ---- the results of CASE and COALESCE: the highest kind and the largest scale among those that aren't NULL

abbrev pub joined : Option Typed → Shape → Option Typed
joined None (Value t) = Some t
joined (Some u) (Value t) = Some (at_larger_scale u t)
joined u Untyped = u
joined u Condition = u
