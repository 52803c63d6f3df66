use Rattle.std.proofs.Common.{◌≡◌, ◌++◌, drop, map}
use Rattle.psm_object.specs.Routines.{slot_line}
use Rattle.psm_object.specs.Words.{text}
use Rattle.psm_object.proofs.routines.put_slots.Given as goal

abbrev pub invariant-loop-kind : goal.invariant-loop-kind
invariant-loop-kind l = l.out.items ++ text (map slot_line (drop l.kind-index l.kinds)) ≡ l.fn.out.items ++ text (map slot_line l.kinds)
