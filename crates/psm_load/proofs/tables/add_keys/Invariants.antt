use Rattle.std.proofs.Common.{◌≡◌, ◌++◌, map}
use Rattle.psm_load_line.specs.Said.{key_from}
use Rattle.psm_load.proofs.tables.add_keys.Given as goal

abbrev pub invariant-loop-reference : goal.invariant-loop-reference
invariant-loop-reference l = l.keys.items ≡ l.fn.keys.items ++ map (key_from l.from) l.yielded
