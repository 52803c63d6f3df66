use Rattle.std.proofs.Common.{◌≡◌, ◌∙◌, ap, sym, subst, Some, Ok}
use Rattle.psm_exprcode.specs.declared.items.Items.{Items}
use Rattle.psm_exprcode.specs.declared.items.Items.TheVariants.{Sets}
use Rattle.psm_table.specs.declared.definition.TableDef.{TableDef}
use Rattle.psm_query.specs.Ends.{gathered_from_ends, beginning_for_ends}
use Rattle.psm_query.proofs.EndLaws.{gathers_from_ends, is_from_ends_of, table_columns, table_filled, Gathers, IsFromEnds}
use Rattle.psm_query.proofs.gathering.Gathering.of_rows.Goals as goal

pub returns-in_ok-from_ends-in-Some : goal.returns-in_ok-from_ends-in-Some
returns-in_ok-from_ends-in-Some c =
    let t = c.args.table.now.contents in
    let query = c.args.query.now in
    let same : c.items.result.now ≡ t.def.key = c.items.ensures ∙ ap (λ (d : TableDef). d.key) c.def.ensures.value in
    let made : beginning_for_ends t.def.key c.args.vars.now query.downward query.test query.items ≡ Some c.in-Some.beginning =
    ap (λ key. beginning_for_ends key c.args.vars.now query.downward query.test query.items) (sym same) ∙ sym c.in_ok-beginning.ensures ∙ c.in-Some.is in
    let from_ends : IsFromEnds t.def.key c.args.vars.now query.downward query.test (Sets c.in-Sets.sets) c.in-Some.beginning =
    is_from_ends_of t.def.key c.args.vars.now query.downward query.test (Sets c.in-Sets.sets) c.in-Some.beginning
    (subst (λ (items : Items). beginning_for_ends t.def.key c.args.vars.now query.downward query.test items ≡ Some c.in-Some.beginning) c.in-Sets.is made) in
    ap (Gathers c.args.vars.now t.rows query.downward query.test) c.in-Sets.is
    ∙ gathers_from_ends c.args.vars.now t.rows t.def.key c.in-Some.beginning query.downward query.test c.in-Sets.sets from_ends
    (table_columns t c.def.ensures.table) (table_filled t c.def.ensures.table) c.def.ensures.table.ascend
    ∙ sym (ap Ok (c.in_ok-from_ends-in-Some.ensures ∙ ap (gathered_from_ends t.def.key c.in-Some.beginning t.rows) c.items-in-Some.ensures))
