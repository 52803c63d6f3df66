use Rattle.std.proofs.Common.{List, ap, ◌∙◌}
use Rattle.psm_exprcode.specs.declared.op.Letter.{Letter}
use Rattle.psm_exprgen.specs.Written.{letter_at}
use Rattle.psm_exprgen.proofs.ItemLetters.{letters_of_rows}
use Rattle.psm_exprgen.proofs.letters.first_letter.Goals as goal

pub returns-in-Rows : goal.returns-in-Rows
returns-in-Rows c =
    c.first_row.ensures ∙ ap (λ (ks : List Letter). letter_at ks 0)
    (letters_of_rows c.args.known.now c.args.query.now c.columns_at-columns.result.now c.items-variables.result.now c.in-Rows.es c.columns_at-columns.ensures c.items-variables.ensures c.in-Rows.is)
