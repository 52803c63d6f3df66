use Rattle.psm_commands.proofs.Existence.{AreSomething, for_command}
use Rattle.psm_commands.proofs.laws.something_is_expected.Goals as goal

pub returns : goal.returns
returns c =
    let files = c.files_are_something.ensures in
    let law = c.scripts_over_well_formed_code_have_one_session.ensures in
    λ held command all_held.
    let all : AreSomething held = record {
      modules = files.modules;
      scripts = files.scripts;
      sessions = files.sessions;
      ends = c.files_are_one_thing.ensures.ends;
      objects = c.texts_are_one_thing.ensures.total;
      scripts_over = c.scripts_over_code_are_one_thing.ensures.total;
      sessions_over = law.exists;
      ends_over = law.ends;
    } in
    for_command held all command all_held
