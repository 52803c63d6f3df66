-- What was read, with the number of the token after it.
use Rattle.std.specs.Prelude.{◌≡◌, ℕ, ◌-◌, length, Result, Ok, Err}
use Rattle.psm_token.specs.Listed.{Tokens}
use Rattle.psm_grammar.specs.declared.halt.Halt.{Halt}
use Rattle.psm_tree.specs.declared.fault.ParseFault.{ParseFault}
use Rattle.psm_parse_token.specs.Fault.{fault_at}

-- the value and the number of the token after it, where n tokens are left; else the fault
abbrev pub numbered : {X : Type 0} → Tokens → ℕ → Result X Halt → Result (X × ℕ) ParseFault
numbered tokens left (Ok x) = Ok (x, length tokens.tokens - left)
numbered tokens left (Err e) = Err (fault_at tokens e)
