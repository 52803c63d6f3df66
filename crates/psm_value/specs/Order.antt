-- The comparison of values (ISO/IEC 9075:1992, 8.2), and the order of all of them.
use Rattle.std.specs.Prelude.{Option, Some, None}
use Rattle.std.specs.declared.cmp.Ordering.{Ordering}
use Rattle.std.specs.declared.cmp.Ordering.TheVariants.{Less, Equal, Greater}
use Rattle.psm_num.specs.Order.{order}
use Rattle.psm_text.specs.Order.{padded_order}
use Rattle.psm_value.specs.declared.datum.Datum.{Datum}
use Rattle.psm_value.specs.declared.datum.Datum.TheVariants.{Null, Num, Text}

-- null before numbers before texts, numbers by value, and texts padded
abbrev pub data_order : Datum → Datum → Ordering
data_order Null Null = Equal
data_order Null (Num b) = Less
data_order Null (Text b) = Less
data_order (Num a) Null = Greater
data_order (Num a) (Num b) = order a b
data_order (Num a) (Text b) = Less
data_order (Text a) Null = Greater
data_order (Text a) (Num b) = Greater
data_order (Text a) (Text b) = padded_order a b

-- unknown where a side is null, and else the order
abbrev pub compared : Datum → Datum → Option Ordering
compared Null b = None
compared (Num a) Null = None
compared (Num a) (Num b) = Some (data_order (Num a) (Num b))
compared (Num a) (Text b) = Some (data_order (Num a) (Text b))
compared (Text a) Null = None
compared (Text a) (Num b) = Some (data_order (Text a) (Num b))
compared (Text a) (Text b) = Some (data_order (Text a) (Text b))
