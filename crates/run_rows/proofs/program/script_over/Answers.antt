use Rattle.run_rows.proofs.program.script_over.Goals as goal

pub returns-in-Ok : goal.returns-in-Ok
returns-in-Ok c = (c.in-Ok.ensures.runs c.requires.0 c.requires.1).can
