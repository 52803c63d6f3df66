-- The fault of a file where its parser halts.
use Rattle.std.specs.Prelude.{ℕ, ◌-◌, length, drop}
use Rattle.psm_token.specs.Listed.{Tokens}
use Rattle.psm_token.specs.declared.place.Place.{Place}
use Rattle.psm_grammar.specs.declared.halt.Halt.{Halt}
use Rattle.psm_grammar.specs.declared.halt.Halt.TheVariants as halt
use Rattle.psm_tree.specs.declared.fault.ParseFault.{ParseFault}
use Rattle.psm_tree.specs.declared.fault.ParseFault.TheVariants as faults
use Rattle.psm_tree.specs.Reading.{place_of_rest}

-- the place of the token that n tokens are left from, itself among them, or the end of the file
abbrev pub place_left : Tokens → ℕ → Place
place_left tokens n = place_of_rest tokens.end (drop (length tokens.tokens - n) tokens.tokens)

abbrev pub fault_at : Tokens → Halt → ParseFault
fault_at tokens (halt.Syntax n) = faults.Syntax (place_left tokens n)
fault_at tokens (halt.Deep n) = faults.Deep (place_left tokens n)
fault_at tokens halt.Memory = faults.Memory
