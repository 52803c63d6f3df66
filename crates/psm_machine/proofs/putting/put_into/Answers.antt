use Rattle.std.proofs.Common.{List, All, IfSome, slice_get, sym, subst}
use Rattle.psm_value.specs.declared.datum.Datum.{Datum}
use Rattle.psm_exprcode.specs.declared.op.Line.{Line}
use Rattle.psm_table.specs.Changing.{inserted}
use Rattle.psm_table.specs.Definition.{HasColumns}
use Rattle.psm_table.specs.Table.{Contents}
use Rattle.psm_table.specs.declared.definition.TableDef.{TableDef}
use Rattle.psm_dml.specs.Ends.{keyed_schema, Ends}
use Rattle.psm_code.specs.Plans.{plain}
use Rattle.psm_machine.proofs.Asking.{some_of}
use Rattle.psm_machine.proofs.Counting.{puts_into}
use Rattle.psm_machine.proofs.Filled.{rows_fit}
use Rattle.psm_machine.proofs.putting.put_into.Goals as goal

pub insert-requires-clause-rows : goal.insert-requires-clause-rows
insert-requires-clause-rows g c =
    let old : List Contents = g.S.Store.tables c.args.store.now in
    let t = c.args.declared.now in
    let h = c.requires.has in
    let fit = subst (λ (rs : List (List Datum)). All (HasColumns t.definition) rs) (sym c.in_ok-new.ensures) (rows_fit t.definition c.args.columns.now c.args.rows.now) in
    some_of (λ (x : Contents). All (HasColumns x.def) c.in_ok-new.new.items) (slice_get old c.args.table) h.contents h.there (subst (λ (d : TableDef). All (HasColumns d) c.in_ok-new.new.items) (sym h.kept.same) fit)

pub returns-clause-puts : goal.returns-clause-puts
returns-clause-puts g c =
    let old : List Contents = g.S.Store.tables c.args.store.now in
    let new : List Contents = g.S.Store.tables c.insert.new.store in
    let t = c.args.declared.now in
    let n = c.args.table in
    let ruled = subst (λ (checks : List (List Line)). IfSome (slice_get old n) (λ d. Ends d (inserted plain (keyed_schema c.args.keys.now old n d.def checks) c.in_ok-new.new.items d.rows) old n new c.insert.result)) c.items.ensures c.insert.ensures.answer in
    let filled = subst (λ (rs : List (List Datum)). IfSome (slice_get old n) (λ d. Ends d (inserted plain (keyed_schema c.args.keys.now old n d.def t.checks) rs d.rows) old n new c.insert.result)) c.in_ok-new.ensures ruled in
    puts_into c.args.keys.now t n c.args.columns.now c.args.rows.now old new c.insert.result c.requires.has filled
