use Rattle.std.proofs.Common.{◌≡◌, ◌+◌, ◌≤◌, List, [], None, length, true, false, arith, ap, sym, subst, ◌∙◌}
use Rattle.std.specs.Prelude.{All, slice_get}
use Rattle.std.specs.List.{list_any}
use Rattle.std.proofs.lemmas.List.Elements.{All-nil}
use Rattle.psm_value.specs.declared.datum.Datum.{Datum}
use Rattle.psm_table.specs.Keyed.{are_keyed_with, rows_in}
use Rattle.psm_table.specs.Table.{most_rows, Contents}
use Rattle.psm_row_changes.specs.KeyTests.{adds_only, is_late, replaces_late}
use Rattle.psm_row_changes.specs.Rows.{without_keys, IsWhole}
use Rattle.psm_row_changes.proofs.Effects.{said}
use Rattle.psm_row_changes.proofs.KeyTesting.{for_test, none_early, replaced_early, replaced_late}
use Rattle.psm_row_changes.proofs.Leftover.{without_all-bound}
use Rattle.psm_row_changes.proofs.keying.erase_under.Goals as goal

pub replace_tested-requires-clause-takes : goal.replace_tested-requires-clause-takes
replace_tested-requires-clause-takes g c =
    let old : List Contents = g.S.Store.tables c.args.store.now in
    let t : Contents = c.table.result.now.contents in
    record {
      exists = c.requires.exists;
      fit = c.requires.fit;
      whole = said (λ x. All (IsWhole x.def) c.new.result.items) (slice_get old c.args.t) t c.table.ensures (subst (λ (l : List (List Datum)). All (IsWhole t.def) l) (sym c.new.ensures.items) (All-nil (IsWhole t.def)));
      few = said (λ x. length (without_keys c.args.keys.now x).rows + length c.new.result.items ≤ most_rows) (slice_get old c.args.t) t c.table.ensures
          (omega (arith, ap length c.new.ensures.items, without_all-bound t.def.key c.args.keys.now t.rows, c.ascends.ensures.bound));
    }

pub returns-then-is_any_late-clause-answer : goal.returns-then-is_any_late-clause-answer
returns-then-is_any_late-clause-answer g c =
    let old : List Contents = g.S.Store.tables c.args.store.now in
    let t : Contents = c.table.result.now.contents in
    for_test (replaces_late c.args.constraints.now old c.args.t c.args.keys.now c.new.result.items) (λ x. are_keyed_with c.args.constraints.now (rows_in old) c.args.t (without_keys c.args.keys.now x).rows) c.replace_tested.result
    old c.args.t t c.table.ensures
    (ap (λ (rows : List (List Datum)). replaces_late c.args.constraints.now old c.args.t c.args.keys.now rows t) c.new.ensures.items
    ∙ replaced_late c.args.constraints.now old c.args.t t c.table.ensures c.ascends.ensures c.requires.lawful c.args.keys.now [] (none_early (rows_in old) c.args.t None c.args.constraints.now))
    c.replace_tested.ensures.answer

pub returns-clause-answer : goal.returns-clause-answer
returns-clause-answer g c =
    let old : List Contents = g.S.Store.tables c.args.store.now in
    let t : Contents = c.table.result.now.contents in
    let none : list_any (is_late c.args.t None (adds_only c.args.keys.now)) c.args.constraints.now ≡ false =
    ap (λ adds. list_any (is_late c.args.t None adds) c.args.constraints.now) (sym c.is_empty.ensures) ∙ sym c.is_any_late.ensures ∙ c.if-is_any_late.false in
    said (λ x. true ≡ are_keyed_with c.args.constraints.now (rows_in old) c.args.t (without_keys c.args.keys.now x).rows) (slice_get old c.args.t) t c.table.ensures
    (replaced_early c.args.constraints.now old c.args.t t c.table.ensures c.ascends.ensures c.requires.lawful c.args.keys.now [] (none_early (rows_in old) c.args.t None c.args.constraints.now) none)
