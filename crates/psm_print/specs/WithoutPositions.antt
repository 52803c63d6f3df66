-- Tokens whose places are forgotten.
use Rattle.psm_token.specs.declared.place.Place.{Place}
use Rattle.psm_token.specs.declared.token.Placed.{Placed}

-- the place that stands for every place: line 1, column 1
abbrev pub origin : Place
origin = record { line = 1; column = 1 }

-- the token alone, at that place
abbrev pub without_positions : Placed → Placed
without_positions t = record { token = t.token; place = origin }
