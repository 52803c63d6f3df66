use Rattle.psm_verify.proofs.KnownLetters.{variables_are}
use Rattle.psm_verify.proofs.verify_context.letters_of_variables.Goals as goal

pub returns : goal.returns
returns c = variables_are c.args.routine.now c.items.result.now c.items-2.result.now c.in_ok-letters.letters.items c.push_all.new.letters.items c.items.ensures c.items-2.ensures c.in_ok-letters.ensures c.in_ok-push_all.ensures
