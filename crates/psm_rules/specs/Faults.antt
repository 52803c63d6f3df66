-- Which fault comes first: that of the earlier place, and at one place that of the lower code.
use Rattle.std.specs.Prelude.{Bool, ◌&&◌, ◌||◌, nat_lt, nat_eq, Option, Some, None, List, [], ◌∷◌, if◌then◌else◌}
use Rattle.psm_token.specs.declared.place.Place.{Place}
use Rattle.psm_rules.specs.declared.fault.Fault.{Fault}
use Rattle.psm_rules.specs.declared.rule.Rule.{Rule}
use Rattle.psm_rules.specs.Texts.{number_of}

abbrev pub precedes : Fault → Fault → Bool
precedes a b = nat_lt a.place.line b.place.line ||
    (nat_eq a.place.line b.place.line && (nat_lt a.place.column b.place.column ||
    (nat_eq a.place.column b.place.column && nat_lt (number_of a.rule) (number_of b.rule))))

-- the first of two, where there is one
abbrev pub earlier : Option Fault → Option Fault → Option Fault
earlier None b = b
earlier (Some a) None = Some a
earlier (Some a) (Some b) = Some (if precedes b a then b else a)

-- the first of some, and of one before them
abbrev pub first_from : Option Fault → List (Option Fault) → Option Fault
first_from f [] = f
first_from f (g ∷ gs) = first_from (earlier f g) gs

abbrev pub first_of : List (Option Fault) → Option Fault
first_of fs = first_from None fs

-- the fault of a rule at a place
abbrev pub breaks : Rule → Place → Option Fault
breaks rule place = Some (record { place = place; rule = rule })

-- it, if the rule is broken
abbrev pub breaks_if : Bool → Rule → Place → Option Fault
breaks_if broken rule place = if broken then breaks rule place else None
