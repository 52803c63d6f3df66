-- The answer that is due for all the tokens, or out of memory.
use Rattle.std.specs.Prelude.{◌≡◌, ◌≢◌, ◌⊎◌, Result, Ok, Err}
use Rattle.psm_token.specs.declared.token.Placed.{Placed}
use Rattle.psm_token.specs.Listed.{Tokens}
use Rattle.psm_grammar.specs.Language.{Lang}
use Rattle.psm_tree.specs.Reading.{ReadsAll}
use Rattle.psm_tree.specs.declared.fault.ParseFault.{ParseFault}
use Rattle.psm_tree.specs.declared.fault.ParseFault.TheVariants.{Memory}

-- the answer is that tree, unless memory runs out
abbrev pub IsTree : {Y : Type 0} → Y → Result Y ParseFault → Type 0
IsTree tree (Ok y) = y ≡ tree
IsTree tree (Err f) = f ≡ Memory

-- the answer is that fault, unless memory runs out
abbrev pub IsFault : {Y : Type 0} → ParseFault → Result Y ParseFault → Type 0
IsFault fault (Ok y) = ⊥
IsFault fault (Err f) = (f ≡ fault) ⊎ (f ≡ Memory)

-- a tree that all the tokens spell is given
abbrev pub GivesTree : {Y : Type 0} → Lang Placed Y → Tokens → Result Y ParseFault → Type 0
GivesTree {Y} L tokens answer = (tree : Y) → ReadsAll L (λ y. y) tokens (Ok tree) → IsTree tree answer

-- a fault of the tokens is given
abbrev pub GivesFault : {Y : Type 0} → Lang Placed Y → Tokens → Result Y ParseFault → Type 0
GivesFault {Y} L tokens answer = (fault : ParseFault) → fault ≢ Memory → ReadsAll {X = Y} L (λ y. y) tokens (Err fault) → IsFault fault answer
