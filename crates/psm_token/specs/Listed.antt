-- What contracts see of a list of tokens.
use Rattle.std.specs.Prelude.{List}
use Rattle.psm_token.specs.declared.place.Place.{Place}
use Rattle.psm_token.specs.declared.token.Placed.{Placed}

-- the tokens with their places, and the place just after the last character of the file
pub record Tokens : Type 0 where
  pub tokens : List Placed
  pub end : Place
