use Rattle.std.proofs.Common.{◌∙◌, ap, sym}
use Rattle.psm.specs.Words.{is_number}
use Rattle.psm.proofs.Numbers.{number_read, number_refused}
use Rattle.psm.proofs.words.number_in.Goals as goal

pub returns-in-Ok : goal.returns-in-Ok
returns-in-Ok c = number_read (Unit {0}) c.args.word.now c.in-Ok.number c.in-Ok.ensures.value.0 (ap is_number (sym c.as_bytes.ensures.value) ∙ sym c.is_number.ensures ∙ c.if-is_number.true)

pub returns-in-Err : goal.returns-in-Err
returns-in-Err c = number_refused _ c.args.word.now c.in-Err.field-0 c.in-Err.ensures.value.0 (ap is_number (sym c.as_bytes.ensures.value) ∙ sym c.is_number.ensures ∙ c.if-is_number.true)
