-- The reader of each part of the grammar, and what a parser takes off the tokens that are left.
use Rattle.std.specs.Prelude.{◌≡◌, ℕ, zero, suc, List, ◌∷◌, Result, Ok, Err}
use Rattle.psm_token.specs.Kinds.{kind}
use Rattle.psm_token.specs.declared.token.Placed.{Placed}
use Rattle.psm_grammar.specs.Gives.{Halts}
use Rattle.psm_grammar.specs.Language.{Test}
use Rattle.psm_grammar.specs.Grammar.{many}
use Rattle.psm_grammar.specs.Loop.{following}
use Rattle.psm_grammar.specs.Readers.{Out, Reader, TooDeep, and_then, one, first, repeat, read, deeper, reads}
use Rattle.psm_grammar.specs.declared.halt.Halt.{Halt}
use Rattle.psm_tree.specs.Parts.{Part, V}
use Rattle.psm_tree.specs.ExprGrammar.{Gram}
use Rattle.psm_tree.specs.Productions.{productions}

-- the reader of a part that stands after a token of its own, where n more levels may be opened
unfoldable pub part : ℕ → (n : Part) → Reader Placed (V n)
part levels n ts = reads productions levels (productions n) ts

-- the reader of any part of the grammar, where n more levels may be opened: the same as `reads productions`
unfoldable pub reading : {X : Type 0} → ℕ → Gram X → Reader Placed X
reading levels g ts = read (deeper productions levels) (part levels) g ts

-- a token that opens a level, and how many more may be opened after it
unfoldable pub opening : {A : Type 0} → ℕ → Test Placed A → Reader Placed (A × ℕ)
opening zero test ts = and_then (one kind test ts) (λ a rest. Err (TooDeep ts))
opening (suc n) test ts = and_then (one kind test ts) (λ a rest. Ok ((a, n), rest))

-- the value that a reader gives, seen by view, and the tokens that it leaves, or why it stops, unless memory runs out
abbrev pub TakesAs : {T X Y : Type 0} → (Y → X) → Out T X → Result Y Halt → List T → Type 0
TakesAs view o (Ok y) rest = o ≡ Ok (view y, rest)
TakesAs view o (Err e) rest = Halts e o

-- the same of the value itself
abbrev pub Takes : {T X : Type 0} → Out T X → Result X Halt → List T → Type 0
Takes o (Ok x) rest = o ≡ Ok (x, rest)
Takes o (Err e) rest = Halts e o

-- With what is left to read in n turns, a part that was read again and again up to `rest` is what it is from
-- the start on.
pub record Repeating {X : Type 0} (levels : ℕ) (p : Gram X) (start : List Placed) (items : List X) (turns : ℕ) (rest : List Placed) : Type 0 where
  pub same : following items (repeat kind (first p) (reading levels p) turns rest) ≡ reading levels (many p) start
