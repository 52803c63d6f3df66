use Rattle.std.proofs.Common.{◌∙◌, rules, sym}
use Rattle.psm_code.specs.Instructions.{letters_at}
use Rattle.psm_verify.proofs.Rows.{column_next}
use Rattle.psm_verify.proofs.inserts.row_letters.Goals as goal

pub loop-column-preserved : goal.loop-column-preserved
loop-column-preserved c =
    column_next c.args.letters.now c.in-Some.column.now c.in-Some.others.now c.loop-column.rest.now c.in-Some-letter_at.letter c.loop-column.row.items c.push.new.self.items (letters_at c.args.letters.now c.args.columns.now)
    (search rules) (sym c.letter_at.ensures ∙ c.in-Some-letter_at.is) (search rules) c.loop-column.invariant
