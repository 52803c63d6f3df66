use Rattle.std.proofs.Common.{refl}
use Rattle.psm_commands.specs.Command.{Run, Compile, Exec, Generate, named}
use Rattle.psm_commands.proofs.Completeness.{AreOneThing, command_completes}
use Rattle.psm_commands.proofs.command.perform.Goals as goal

pub returns-in-Run-clause-completes : goal.returns-in-Run-clause-completes
returns-in-Run-clause-completes g c =
    let files = c.files_are_one_thing.ensures in
    let texts = c.texts_are_one_thing.ensures in
    let one : AreOneThing = record {
      modules = files.modules;
      scripts = files.scripts;
      sessions = files.sessions;
      codes = texts.code;
      objects = texts.exclusive;
      scripts_over = c.scripts_over_code_are_one_thing.ensures.exclusive;
      sessions_over = c.scripts_over_well_formed_code_have_one_session.ensures.unique;
    } in
    rw c.in-Run.is (command_completes one _ (Run (named c.in-Run.files.for_code.now c.in-Run.files.for_script.now c.in-Run.files.turns)) _ _ c.run.ensures)

pub returns-in-Compile-clause-completes : goal.returns-in-Compile-clause-completes
returns-in-Compile-clause-completes g c =
    let files = c.files_are_one_thing.ensures in
    let texts = c.texts_are_one_thing.ensures in
    let one : AreOneThing = record {
      modules = files.modules;
      scripts = files.scripts;
      sessions = files.sessions;
      codes = texts.code;
      objects = texts.exclusive;
      scripts_over = c.scripts_over_code_are_one_thing.ensures.exclusive;
      sessions_over = c.scripts_over_well_formed_code_have_one_session.ensures.unique;
    } in
    rw c.in-Compile.is (command_completes one _ (Compile c.in-Compile.name.now) _ _ c.compile.ensures)

pub returns-in-Exec-clause-completes : goal.returns-in-Exec-clause-completes
returns-in-Exec-clause-completes g c =
    let files = c.files_are_one_thing.ensures in
    let texts = c.texts_are_one_thing.ensures in
    let one : AreOneThing = record {
      modules = files.modules;
      scripts = files.scripts;
      sessions = files.sessions;
      codes = texts.code;
      objects = texts.exclusive;
      scripts_over = c.scripts_over_code_are_one_thing.ensures.exclusive;
      sessions_over = c.scripts_over_well_formed_code_have_one_session.ensures.unique;
    } in
    rw c.in-Exec.is (command_completes one _ (Exec (named c.in-Exec.files.for_code.now c.in-Exec.files.for_script.now c.in-Exec.files.turns)) _ _ c.exec.ensures)

pub returns-in-Generate-clause-completes : goal.returns-in-Generate-clause-completes
returns-in-Generate-clause-completes g c =
    let files = c.files_are_one_thing.ensures in
    let texts = c.texts_are_one_thing.ensures in
    let one : AreOneThing = record {
      modules = files.modules;
      scripts = files.scripts;
      sessions = files.sessions;
      codes = texts.code;
      objects = texts.exclusive;
      scripts_over = c.scripts_over_code_are_one_thing.ensures.exclusive;
      sessions_over = c.scripts_over_well_formed_code_have_one_session.ensures.unique;
    } in
    rw c.in-Generate.is (command_completes one _ (Generate c.in-Generate.calls) _ _ (c.generate.ensures _ (λ name. refl)))
