use Rattle.std.proofs.Common.{◌≡◌, List, true, ap, sym, subst, ◌∙◌}
use Rattle.std.specs.Prelude.{All, slice_get}
use Rattle.std.proofs.lemmas.List.Elements.{All-filter}
use Rattle.psm_table.specs.declared.definition.ForeignKey.{ForeignKey}
use Rattle.psm_table.specs.Constraints.{names_table}
use Rattle.psm_table.specs.Keyed.{are_keyed, are_keyed_with, defs_in, rows_in, IsKeyOf}
use Rattle.psm_table.specs.Table.{Contents}
use Rattle.psm_row_changes.specs.Rows.{without_keys}
use Rattle.psm_row_changes.proofs.NamedConstraints.{erases_named, for_tests, named_held}
use Rattle.psm_row_changes.proofs.keying.erase_keyed.Goals as goal

pub erase_under-requires-clause-constraints : goal.erase_under-requires-clause-constraints
erase_under-requires-clause-constraints g c =
    let old : List Contents = g.S.Store.tables c.args.store.now in
    subst (All (IsKeyOf (defs_in old))) (sym c.of.ensures) (All-filter (names_table c.args.t) (IsKeyOf (defs_in old)) c.args.constraints.now c.requires.constraints)

pub erase_under-requires-clause-lawful : goal.erase_under-requires-clause-lawful
erase_under-requires-clause-lawful g c =
    let old : List Contents = g.S.Store.tables c.args.store.now in
    subst (λ (keys : List ForeignKey). are_keyed keys (rows_in old) ≡ true) (sym c.of.ensures) (named_held c.args.constraints.now old c.args.t c.requires.lawful)

pub returns-clause-answer : goal.returns-clause-answer
returns-clause-answer g c =
    let old : List Contents = g.S.Store.tables c.args.store.now in
    for_tests (λ x. are_keyed_with c.of.result.now (rows_in old) c.args.t (without_keys c.args.keys.now x).rows) (λ x. are_keyed_with c.args.constraints.now (rows_in old) c.args.t (without_keys c.args.keys.now x).rows)
    (λ x. ap (λ (keys : List ForeignKey). are_keyed_with keys (rows_in old) c.args.t (without_keys c.args.keys.now x).rows) c.of.ensures ∙ erases_named c.args.constraints.now old c.args.t c.requires.lawful (without_keys c.args.keys.now x).rows)
    c.erase_under.result (slice_get old c.args.t) c.erase_under.ensures.answer
