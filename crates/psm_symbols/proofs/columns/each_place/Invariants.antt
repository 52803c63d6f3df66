use Rattle.std.proofs.Common.{◌≡◌, ◌++◌, drop}
use Rattle.psm_symbols.specs.Columns.{all_places}
use Rattle.psm_symbols.proofs.columns.each_place.Given as goal

abbrev pub invariant-loop-place : goal.invariant-loop-place
invariant-loop-place l = l.places.items ++ all_places l.place (drop l.place l.columns) ≡ all_places 0 l.columns
