use Rattle.std.proofs.Common.{inl}
use Rattle.psm_commands.proofs.generate.session.Goals as goal

pub returns-in-Err : goal.returns-in-Err
returns-in-Err c = inl c.in-Err.ensures
