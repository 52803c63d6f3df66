use Rattle.std.proofs.Common.{◌≡◌, ◌++◌, drop, map}
use Rattle.psm_code.specs.TableRules.{keys_from}
use Rattle.psm_object.specs.Tables.{reference_line}
use Rattle.psm_object.specs.Words.{text}
use Rattle.psm_object.proofs.references.put_references.Given as goal

abbrev pub invariant-loop-key : goal.invariant-loop-key
invariant-loop-key l = l.out.items ++ text (map reference_line (keys_from (drop l.key-index l.keys) l.table)) ≡ l.fn.out.items ++ text (map reference_line (keys_from l.keys l.table))
