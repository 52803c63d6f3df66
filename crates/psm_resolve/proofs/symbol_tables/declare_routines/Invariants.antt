use Rattle.std.proofs.Common.{◌≡◌, drop}
use Rattle.psm_resolve.specs.SymbolTables.{with_known_routines}
use Rattle.psm_resolve.proofs.symbol_tables.declare_routines.Given as goal

abbrev pub invariant-loop-routine : goal.invariant-loop-routine
invariant-loop-routine l = with_known_routines l.symbols l.procedures (drop l.routine-index l.routines) ≡ with_known_routines l.fn.symbols 0 l.routines
