use Rattle.std.proofs.Common.{◌≡◌, drop, map}
use Rattle.psm_code.specs.TableRules.{unique_fault}
use Rattle.psm_verify.specs.Checked.{checked}
use Rattle.psm_verify.proofs.tables.uniques.Given as goal

abbrev pub invariant-loop-indexes : goal.invariant-loop-indexes
invariant-loop-indexes l = checked l.fn.line (map (unique_fault l.def) l.def.unique) ≡ checked l.line (map (unique_fault l.def) (drop l.indexes-index l.def.unique))
