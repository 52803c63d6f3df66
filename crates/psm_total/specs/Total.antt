-- What bytes and tokens are: read, or with a fault.
use Rattle.std.specs.Prelude.{◌≢◌, ℕ, ◌⊎◌, List, Ok, Err}
use Rattle.psm_token.specs.declared.fault.LexFault.{LexFault}
use Rattle.psm_token.specs.declared.token.Placed.{Placed}
use Rattle.psm_token.specs.Listed.{Tokens}
use Rattle.psm_token.specs.Spells.{Spells, IsFirstFault}
use Rattle.psm_grammar.specs.Language.{Lang}
use Rattle.psm_tree.specs.Reading.{ReadsAll}
use Rattle.psm_tree.specs.declared.fault.ParseFault.{ParseFault}
use Rattle.psm_tree.specs.declared.fault.ParseFault.TheVariants.{Memory}

-- the bytes spell tokens, or have a first fault
abbrev pub TokensOrFault : List ℕ → Type 0
TokensOrFault bytes = ((tokens : Tokens) × Spells bytes tokens) ⊎ ((fault : LexFault) × IsFirstFault bytes fault)

-- the tokens spell a tree, or have a fault, which is not out of memory
abbrev pub TreeOrFault : {Y : Type 0} → Lang Placed Y → Tokens → Type 0
TreeOrFault {Y} L tokens = ((tree : Y) × ReadsAll L (λ y. y) tokens (Ok tree)) ⊎ ((fault : ParseFault) × (fault ≢ Memory) × ReadsAll {X = Y} L (λ y. y) tokens (Err fault))
