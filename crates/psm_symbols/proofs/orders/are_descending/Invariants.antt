use Rattle.std.proofs.Common.{◌≡◌, drop}
use Rattle.std.specs.List.{list_all}
use Rattle.psm_symbols.proofs.orders.are_descending.Given as goal

abbrev pub invariant-loop-c : goal.invariant-loop-c
invariant-loop-c l = list_all (λ c. c.descending) (drop l.c-index l.columns) ≡ list_all (λ c. c.descending) l.columns
