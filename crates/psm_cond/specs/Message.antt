-- The text of a message: that of an SQLSTATE, or one of its own.
use Rattle.std.specs.Prelude.{ℕ, List}
use Rattle.psm_sqlstate.specs.Message.{message_of}
use Rattle.psm_cond.specs.declared.message.Source.{Source}
use Rattle.psm_cond.specs.declared.message.Source.TheVariants.{State, Own}

abbrev pub text_in : Source → List ℕ
text_in (State s) = message_of s
text_in (Own text) = text
