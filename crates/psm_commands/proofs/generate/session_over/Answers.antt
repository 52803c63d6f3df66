use Rattle.psm_commands.specs.Generated.{generated_module, generated_script, generated_turns}
use Rattle.psm_commands.proofs.Generating.{generated_ends, script_fault}
use Rattle.psm_commands.proofs.generate.session_over.Goals as goal

pub run-requires : goal.run-requires
run-requires c =
    let means = c.code_means_its_module.ensures generated_module c.args.code.now c.requires.stands in
    (means.runs (generated_script c.args.calls) c.in-Ok.script.commands c.in-Ok.ensures).can

pub returns-in-Ok-run : goal.returns-in-Ok-run
returns-in-Ok-run c =
    generated_ends c.args.code.now c.in-Ok.script.commands c.args.calls c.in-Ok.ensures
    (λ u h. c.code_has_the_sessions_of_its_module.ensures.of_file generated_module (generated_script c.args.calls) c.args.code.now c.requires.stands generated_turns u h)
    c.in-Ok-run.end.last.goes_on c.in-Ok-run.end.last.piece.items c.in-Ok-run.end.turns c.in-Ok-run.ensures

pub returns : goal.returns
returns c =
    script_fault c.args.code.now (c.code_means_its_module.ensures generated_module c.args.code.now c.requires.stands) c.args.calls c.in-Err.refusal c.in-Err.ensures
