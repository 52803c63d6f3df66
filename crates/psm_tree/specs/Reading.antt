-- What a parser answers: where the run of a language ends, the longest row of tokens that begins one of its
-- words, and the tree that the run spells.
use Rattle.std.specs.Prelude.{◌≡◌, ◌≢◌, ℕ, ◌+◌, ◌⊎◌, List, [], ◌∷◌, length, drop, Result, Ok, Err}
use Rattle.psm_token.specs.declared.place.Place.{Place}
use Rattle.psm_token.specs.declared.token.Placed.{Placed}
use Rattle.psm_token.specs.Listed.{Tokens}
use Rattle.psm_grammar.specs.Language.{Lang}
use Rattle.psm_grammar.specs.Exact.{AtEnd, Good, Bad, Deep}
use Rattle.psm_tree.specs.declared.fault.ParseFault.{ParseFault}
use Rattle.psm_tree.specs.declared.fault.ParseFault.TheVariants as faults

-- the most levels of nesting
abbrev pub most_levels : ℕ
most_levels = 100

-- the place of the first of the tokens that are left, or the end of the file
abbrev pub place_of_rest : Place → List Placed → Place
place_of_rest end [] = end
place_of_rest end (t ∷ ts) = t.place

-- The tree of the run from token `at` on and the number of the token after it, where the run spells one;
-- else the place of the token after the run, or of the token in reach of the run that opens a level too many.
abbrev pub ReadsRun : {X Y : Type 0} → Lang Placed Y → (X → Y) → Tokens → ℕ → Result (X × ℕ) ParseFault → Type 0
ReadsRun L view tokens at (Ok r) = (rest : List Placed) × Good L AtEnd most_levels (drop at tokens.tokens) (view r.0) rest × (r.1 + length rest ≡ length tokens.tokens)
ReadsRun L view tokens at (Err (faults.Syntax p)) = (rest : List Placed) × Bad L AtEnd most_levels (drop at tokens.tokens) rest × (p ≡ place_of_rest tokens.end rest)
ReadsRun L view tokens at (Err (faults.Deep p)) = (rest : List Placed) × Deep L AtEnd most_levels (drop at tokens.tokens) rest × (p ≡ place_of_rest tokens.end rest)
ReadsRun L view tokens at (Err faults.Memory) = Unit {0}

-- the run ends before rest, and is not all the tokens, or spells no tree
pub record StopsBefore {Y : Type 0} (L : Lang Placed Y) (ts rest : List Placed) : Type 0 where
  pub stop : ((y : Y) × Good L AtEnd most_levels ts y rest × (rest ≢ [])) ⊎ Bad L AtEnd most_levels ts rest

-- The tree that all the tokens spell; else the place of the token after the run, or of the token in reach
-- of the run that opens a level too many.
abbrev pub ReadsAll : {X Y : Type 0} → Lang Placed Y → (X → Y) → Tokens → Result X ParseFault → Type 0
ReadsAll L view tokens (Ok x) = Good L AtEnd most_levels tokens.tokens (view x) []
ReadsAll L view tokens (Err (faults.Syntax p)) = (rest : List Placed) × StopsBefore L tokens.tokens rest × (p ≡ place_of_rest tokens.end rest)
ReadsAll L view tokens (Err (faults.Deep p)) = (rest : List Placed) × Deep L AtEnd most_levels tokens.tokens rest × (p ≡ place_of_rest tokens.end rest)
ReadsAll L view tokens (Err faults.Memory) = Unit {0}
