-- What a fault of the tokens says, and where.
use Rattle.std.specs.Prelude.{ℕ, List, [], codes, Option, Some, None}
use Rattle.psm_token.specs.declared.place.Place.{Place}
use Rattle.psm_tree.specs.declared.fault.ParseFault.{ParseFault}
use Rattle.psm_tree.specs.declared.fault.ParseFault.TheVariants.{Syntax, Deep, Memory}

-- what is wrong, in words
abbrev pub fault_text : ParseFault → List ℕ
fault_text (Syntax p) = codes "syntax fault"
fault_text (Deep p) = codes "nested too deep"
fault_text Memory = []

-- where it is wrong
abbrev pub fault_place : ParseFault → Option Place
fault_place (Syntax p) = Some p
fault_place (Deep p) = Some p
fault_place Memory = None
