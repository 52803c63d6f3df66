use Rattle.std.proofs.Common.{◌≡◌, List, subst}
use Rattle.std.specs.Prelude.{IfOk}
use Rattle.psm_exprcode.specs.declared.op.Letter.{Letter}
use Rattle.psm_exprgen.proofs.ItemLetters.{letters_of_rows}
use Rattle.psm_exprgen.proofs.letters.item_letters.Goals as goal

pub returns-in-Rows : goal.returns-in-Rows
returns-in-Rows c =
    subst (λ (ks : List Letter). IfOk c.row_letters.result (λ letters. letters.items ≡ ks))
    (letters_of_rows c.args.known.now c.args.query.now c.columns_at-columns.result.now c.items-variables.result.now c.in-Rows.es c.columns_at-columns.ensures c.items-variables.ensures c.in-Rows.is)
    c.row_letters.ensures
