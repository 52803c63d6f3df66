-- The innermost frame of an activation.
use Rattle.std.specs.Prelude.{ℕ, Bool, false, List, [], ◌∷◌}
use Rattle.psm_code.specs.Raising.{is_block}
use Rattle.psm_code.specs.State.{Frame}

-- whether there is one, and it is that of the block of a context
abbrev pub is_innermost : ℕ → List Frame → Bool
is_innermost k [] = false
is_innermost k (f ∷ frames) = is_block k f
