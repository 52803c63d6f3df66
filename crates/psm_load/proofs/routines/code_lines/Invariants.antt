use Rattle.std.proofs.Common.{◌-◌, []}
use Rattle.psm_load_line.specs.InstructionForms.{code_line_at}
use Rattle.psm_load.specs.Left.{Repeated}
use Rattle.psm_load.specs.Parts.{one}
use Rattle.psm_load.proofs.routines.code_lines.Given as goal

abbrev pub invariant-loop-turn : goal.invariant-loop-turn
invariant-loop-turn l = Repeated (one code_line_at) l.n l.initial.lines [] l.code (l.n - l._turn) l.lines
