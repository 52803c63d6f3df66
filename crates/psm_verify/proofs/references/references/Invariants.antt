use Rattle.std.proofs.Common.{◌≡◌, drop, map}
use Rattle.psm_code.specs.TableRules.{foreign_key_fault}
use Rattle.psm_verify.specs.Checked.{checked}
use Rattle.psm_verify.proofs.references.references.Given as goal

abbrev pub invariant-loop-key : goal.invariant-loop-key
invariant-loop-key l = checked l.fn.line (map (foreign_key_fault l.before l.table) l.own) ≡ checked l.line (map (foreign_key_fault l.before l.table) (drop l.key-index l.own))
