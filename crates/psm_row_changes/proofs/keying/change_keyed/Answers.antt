use Rattle.std.proofs.Common.{◌≡◌, List, true, ap, sym, subst, ◌∙◌}
use Rattle.std.specs.Prelude.{All, slice_get}
use Rattle.std.proofs.lemmas.List.Elements.{All-filter}
use Rattle.psm_table.specs.declared.definition.ForeignKey.{ForeignKey}
use Rattle.psm_table.specs.Constraints.{names_table}
use Rattle.psm_table.specs.Keyed.{are_keyed, defs_in, rows_in, IsKeyOf}
use Rattle.psm_table.specs.Table.{Contents}
use Rattle.psm_row_changes.specs.KeyTests.{changes_all}
use Rattle.psm_row_changes.proofs.NamedConstraints.{changes_named, for_tests, named_held}
use Rattle.psm_row_changes.proofs.keying.change_keyed.Goals as goal

pub change_under-requires-clause-constraints : goal.change_under-requires-clause-constraints
change_under-requires-clause-constraints g c =
    let old : List Contents = g.S.Store.tables c.args.store.now in
    subst (All (IsKeyOf (defs_in old))) (sym c.of.ensures) (All-filter (names_table c.args.t) (IsKeyOf (defs_in old)) c.args.constraints.now c.requires.constraints)

pub change_under-requires-clause-lawful : goal.change_under-requires-clause-lawful
change_under-requires-clause-lawful g c =
    let old : List Contents = g.S.Store.tables c.args.store.now in
    subst (λ (keys : List ForeignKey). are_keyed keys (rows_in old) ≡ true) (sym c.of.ensures) (named_held c.args.constraints.now old c.args.t c.requires.lawful)

pub returns-clause-answer : goal.returns-clause-answer
returns-clause-answer g c =
    let old : List Contents = g.S.Store.tables c.args.store.now in
    for_tests (changes_all c.of.result.now old c.args.t c.args.rows.items) (changes_all c.args.constraints.now old c.args.t c.args.rows.items)
    (λ x. ap (λ (keys : List ForeignKey). changes_all keys old c.args.t c.args.rows.items x) c.of.ensures ∙ changes_named c.args.constraints.now old c.args.t c.requires.lawful c.args.rows.items x)
    c.change_under.result (slice_get old c.args.t) c.change_under.ensures.answer
