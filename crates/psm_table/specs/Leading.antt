-- The numbers with which keys begin, and what they decide of the order of keys.
use Rattle.std.specs.Prelude.{ℕ, List, Bool, ◌&&◌, is_some, slice_index_or, Option, Some, None}
use Rattle.std.specs.declared.cmp.Ordering.{Ordering}
use Rattle.std.specs.declared.cmp.Ordering.TheVariants.{Equal}
use Rattle.std.specs.Ordering.{ordering_then}
use Rattle.psm_num.specs.Num.{Num as Number}
use Rattle.psm_num.specs.Order.{order}
use Rattle.psm_value.specs.declared.datum.Datum.{Datum}
use Rattle.psm_value.specs.declared.datum.Datum.TheVariants.{Null, Num, Text}
use Rattle.psm_table.specs.declared.leading.Leading.{Leading}

-- the number that a value is, if it is one
abbrev pub number_of : Datum → Option Number
number_of Null = None
number_of (Num n) = Some n
number_of (Text t) = None

-- the number at an index of a key, if there is one
abbrev pub number_at : List Datum → ℕ → Option Number
number_at key i = number_of (slice_index_or key i Null)

-- the first two of a key
abbrev pub leading_of : List Datum → Leading
leading_of key = record { first = number_at key 0; second = number_at key 1 }

-- the order of two numbers where both are there
abbrev pub known_order : Option Number → Option Number → Ordering
known_order None b = Equal
known_order (Some a) None = Equal
known_order (Some a) (Some b) = order a b

-- the order of two numbers where both are there, and where they are equal that of what follows
abbrev pub decided : Option Number → Option Number → Ordering → Ordering
decided None b rest = Equal
decided (Some a) None rest = Equal
decided (Some a) (Some b) rest = ordering_then (order a b) rest

-- the order that the first numbers decide, and where they are equal the second ones
abbrev pub leading_order : Leading → Leading → Ordering
leading_order a b = decided a.first b.first (known_order a.second b.second)

-- whether both keys begin with a number
abbrev pub both_lead : Leading → Leading → Bool
both_lead a b = is_some a.first && is_some b.first
