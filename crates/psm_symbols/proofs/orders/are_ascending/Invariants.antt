use Rattle.std.proofs.Common.{◌≡◌, drop, not}
use Rattle.std.specs.List.{list_all}
use Rattle.psm_symbols.proofs.orders.are_ascending.Given as goal

abbrev pub invariant-loop-c : goal.invariant-loop-c
invariant-loop-c l = list_all (λ c. not c.descending) (drop l.c-index l.columns) ≡ list_all (λ c. not c.descending) l.columns
