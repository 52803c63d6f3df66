-- The tree of a whole file, from what a parser takes off its front.
use Rattle.std.specs.Prelude.{List, [], ◌∷◌, length, Result, Ok, Err}
use Rattle.psm_token.specs.declared.token.Placed.{Placed}
use Rattle.psm_token.specs.Listed.{Tokens}
use Rattle.psm_grammar.specs.declared.halt.Halt.{Halt}
use Rattle.psm_grammar.specs.declared.halt.Halt.TheVariants as halt
use Rattle.psm_tree.specs.declared.fault.ParseFault.{ParseFault}
use Rattle.psm_parse_token.specs.Fault.{fault_at}

-- the tree that was read, if no token is left after it
abbrev pub whole : {X : Type 0} → Tokens → Result X Halt → List Placed → Result X ParseFault
whole tokens (Ok x) [] = Ok x
whole tokens (Ok x) (t ∷ ts) = Err (fault_at tokens (halt.Syntax (length (t ∷ ts))))
whole tokens (Err e) rest = Err (fault_at tokens e)
