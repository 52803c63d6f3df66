-- The line that shows the forms of the words.
use Rattle.std.specs.Prelude.{ℕ, List, codes}

abbrev pub usage : List ℕ
usage = codes "usage: psm run M S [--turns N] | psm compile M | psm exec O S [--turns N] | psm gen N\n"
