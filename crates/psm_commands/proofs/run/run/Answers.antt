use Rattle.psm_commands.proofs.Answering.{run_refuses, run_runs, says_module}
use Rattle.psm_commands.proofs.run.run.Goals as goal

pub returns-in-Err : goal.returns-in-Err
returns-in-Err g c = says_module _ _ _ c.in-Err.refusal _ _ c.in-Err.ensures.gives c.report.ensures

pub run_session-requires : goal.run_session-requires
run_session-requires g c =
    let first = c.in-Ok.ensures.gives in
    let second = c.in-Ok-script_over.ensures in
    ((c.code_means_its_module.ensures first.bytes c.in-Ok.code first.is).runs second.bytes c.in-Ok-script_over.script.commands second.is).can

pub returns-in-Ok-script_over : goal.returns-in-Ok-script_over
returns-in-Ok-script_over g c =
    let first = c.in-Ok.ensures.gives in
    let second = c.in-Ok-script_over.ensures in
    let means = c.code_means_its_module.ensures first.bytes c.in-Ok.code first.is in
    run_runs (g.F.Shelf.held c.args.shelf.now) (g.F.Shelf.held c.module_code.new.shelf) (g.F.Shelf.faults c.args.shelf.now) (g.F.Shelf.faults c.module_code.new.shelf) (g.F.Shelf.faults c.script_over.new.shelf) _
    c.in-Ok.code _ _ c.in-Ok.ensures.held first means c.in-Ok-script_over.script second c.files_are_one_thing.ensures.ends
    (c.run_session.ensures _ _ ((means.runs second.bytes c.in-Ok-script_over.script.commands second.is).runs_as c.args.files.turns))

pub returns : goal.returns
returns g c =
    let first = c.in-Ok.ensures.gives in
    run_refuses (g.F.Shelf.held c.args.shelf.now) (g.F.Shelf.held c.module_code.new.shelf) (g.F.Shelf.faults c.args.shelf.now) (g.F.Shelf.faults c.module_code.new.shelf) (g.F.Shelf.faults c.script_over.new.shelf) _
    c.in-Ok.code _ _ c.in-Ok.ensures.held first (c.code_means_its_module.ensures first.bytes c.in-Ok.code first.is) c.in-Err-script_over.refusal c.in-Err-script_over.ensures c.report-in-Err-script_over.ensures
