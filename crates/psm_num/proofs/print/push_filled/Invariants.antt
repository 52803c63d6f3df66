use Rattle.std.proofs.Common.{◌≡◌, ◌++◌, replicate}
use Rattle.std.specs.String.{string_bytes}
use Rattle.psm_num.proofs.print.push_filled.Given as goal

abbrev pub invariant-loop-zero : goal.invariant-loop-zero
invariant-loop-zero l = string_bytes l.text ≡ string_bytes l.initial.text ++ replicate l._zero 48
