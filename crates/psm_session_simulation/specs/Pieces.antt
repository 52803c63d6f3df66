-- What a session ends in after commands that were run.
use Rattle.std.specs.Prelude.{◌++◌, ℕ, List}
use Rattle.psm_meaning.specs.Session.{Session}

-- their pieces stand before its own
abbrev pub following : List (List ℕ) → Session → Session
following pieces rest = record rest { pieces = pieces ++ rest.pieces }
