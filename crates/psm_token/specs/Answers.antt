-- The answer that is due, or out of memory.
use Rattle.std.specs.Prelude.{◌≡◌, ◌⊎◌, Result, Ok, Err}
use Rattle.psm_token.specs.declared.fault.LexFault.{LexFault}
use Rattle.psm_token.specs.declared.fault.LexFault.TheVariants.{Memory}
use Rattle.psm_token.specs.Listed.{Tokens}

-- a fact about a fault, unless memory ran out
abbrev pub OrMemory : LexFault → Type 0 → Type 0
OrMemory Memory P = Unit {0}
OrMemory _ P = P

-- the answer is that list, unless memory runs out
abbrev pub GivesTokens : Tokens → Result Tokens LexFault → Type 0
GivesTokens due (Ok ts) = ts ≡ due
GivesTokens due (Err f) = f ≡ Memory

-- the answer is that fault, unless memory runs out
abbrev pub GivesFault : LexFault → Result Tokens LexFault → Type 0
GivesFault due (Ok ts) = ⊥
GivesFault due (Err f) = (f ≡ due) ⊎ (f ≡ Memory)
