use Rattle.std.proofs.Common.{refl}
use Rattle.psm_load_line.specs.RoutineForms.{routine_at}
use Rattle.psm_load_line.specs.Said.{routine_head_of}
use Rattle.psm_load.specs.Read.{routine_words}
use Rattle.psm_load.proofs.Said.{line_seen}
use Rattle.psm_load.proofs.routines.head.Goals as goal

pub returns : goal.returns
returns c = line_seen routine_head_of routine_words routine_at c.args.lines.now c.next.new.self c.in_ok-line.line c.routine_head.result c.says.result (λ h. refl) c.in_ok-line.ensures c.routine_head.ensures c.says.ensures
