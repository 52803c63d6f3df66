use Rattle.std.proofs.Common.{◌≡◌, ◌++◌, drop, map}
use Rattle.psm_resolve.specs.Files.{resolve_routine}
use Rattle.psm_resolve.proofs.routines.resolve_routines.Given as goal

abbrev pub invariant-loop-routine : goal.invariant-loop-routine
invariant-loop-routine l = l.resolved.items ++ map (resolve_routine l.resolver.symbols.now) (drop l.routine-index l.routines) ≡ map (resolve_routine l.resolver.symbols.now) l.routines
