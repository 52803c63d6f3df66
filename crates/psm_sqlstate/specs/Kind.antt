-- What the class of an SQLSTATE, its first two characters, says (ISO/IEC 9075:1992, 22.1).
use Rattle.std.specs.Prelude.{ℕ, nat_eq, List, take, codes, if◌then◌else◌}
use Rattle.std.specs.Cmp.Lexicographic.{pointwise}
use Rattle.psm_sqlstate.specs.declared.kind.Kind.{Kind}
use Rattle.psm_sqlstate.specs.declared.kind.Kind.TheVariants.{Success, Warning, NotFound, Exception}

abbrev pub class_kind : List ℕ → Kind
class_kind class = if pointwise nat_eq class (codes "00") then Success
    else if pointwise nat_eq class (codes "01") then Warning
    else if pointwise nat_eq class (codes "02") then NotFound
    else Exception

abbrev pub kind_of : List ℕ → Kind
kind_of state = class_kind (take 2 state)
