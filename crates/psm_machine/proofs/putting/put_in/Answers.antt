use Rattle.std.proofs.Common.{List, slice_get, ap, sym, subst, ◌∙◌}
use Rattle.std.specs.Option.{option_copied}
use Rattle.psm_table.specs.Table.{Contents}
use Rattle.psm_code.specs.Plans.{put_in}
use Rattle.psm_unwind.specs.View.{machine_of}
use Rattle.psm_machine.specs.Allowed.{HasTable}
use Rattle.psm_machine.specs.ActResults.{Evaluates}
use Rattle.psm_machine.proofs.Asking.{of_some}
use Rattle.psm_machine.proofs.Counting.{as_err, nothing_more, put_counted, Counted}
use Rattle.psm_machine.proofs.putting.put_in.Goals as goal

pub put_into-requires-clause-has : goal.put_into-requires-clause-has
put_into-requires-clause-has g c =
    let here = sym c.table_at.ensures ∙ ap option_copied c.in-Some.is in
    of_some (λ t. HasTable c.args.code.now.keys t (g.S.Store.tables c.args.store.now) c.args.table) (slice_get c.args.code.now.tables c.args.table) c.in-Some.declared.now here c.requires.may

pub returns-in_err-count-clause-expected : goal.returns-in_err-count-clause-expected
returns-in_err-count-clause-expected g c = λ at.
    let old : List Contents = g.S.Store.tables c.args.store.now in
    let new : List Contents = g.S.Store.tables c.put_into.new.store in
    let t = c.in-Some.declared.now in
    let n = c.args.table in
    let columns = c.args.columns.now in
    let rows = c.args.rows.now in
    let here = sym c.table_at.ensures ∙ ap option_copied c.in-Some.is in
    let h = of_some (λ t. HasTable c.args.code.now.keys t old n) (slice_get c.args.code.now.tables n) t here c.requires.may in
    let counted = subst (λ p. Counted (put_in c.args.code.now n columns rows) nothing_more old at c.args.run.now new p) (sym c.in_err-count.ensures) (put_counted c.args.code.now n t here old at c.args.run.now new columns rows c.put_into.result h c.put_into.ensures.puts) in
    subst (λ r. Evaluates (put_in c.args.code.now n columns rows (machine_of old at c.args.run.now)) r (machine_of new at c.args.run.now)) (as_err c.from_residual.result c.in_err-count.field-0.0 c.from_residual.ensures.1) counted

pub returns-clause-expected : goal.returns-clause-expected
returns-clause-expected g c = λ at.
    let old : List Contents = g.S.Store.tables c.args.store.now in
    let new : List Contents = g.S.Store.tables c.put_into.new.store in
    let t = c.in-Some.declared.now in
    let n = c.args.table in
    let columns = c.args.columns.now in
    let rows = c.args.rows.now in
    let run = c.args.run.now in
    let here = sym c.table_at.ensures ∙ ap option_copied c.in-Some.is in
    let h = of_some (λ t. HasTable c.args.code.now.keys t old n) (slice_get c.args.code.now.tables n) t here c.requires.may in
    let counted = subst (λ p. Counted (put_in c.args.code.now n columns rows) nothing_more old at run new p) (sym c.in_ok-count.ensures) (put_counted c.args.code.now n t here old at run new columns rows c.put_into.result h c.put_into.ensures.puts) in
    counted ∙ ap (λ a. nothing_more c.in_ok-count.count (machine_of new at (record run { area = a }))) (sym c.set_rows.ensures)
