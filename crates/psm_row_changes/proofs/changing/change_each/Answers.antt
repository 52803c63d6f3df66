use Rattle.std.proofs.Common.{◌≡◌, length, take, sym, ◌∙◌, refl, true, rules}
use Rattle.std.specs.Prelude.{slice_get}
use Rattle.std.proofs.lemmas.Iterator.Consumers.{YieldsList-so_far, YieldsList-turn}
use Rattle.std.proofs.lemmas.Iterator.Adapters.{YieldsList-from_vec}
use Rattle.psm_table.specs.Definition.{IsRow}
use Rattle.psm_store.specs.Marks.{AnyMark}
use Rattle.psm_row_changes.proofs.Effects.{keeps_on, map_same, one_of, rows_more, rows_none, still}
use Rattle.psm_row_changes.proofs.Places.{fit_of, named_at}
use Rattle.psm_row_changes.proofs.changing.change_each.Goals as goal

pub loop-row-init : goal.loop-row-init
loop-row-init g c = record {
  tables = rows_none (g.S.Store.tables c.args.store.now) c.args.t;
  defs = refl;
  marks = refl;
  keeps = λ m h t. (h, refl);
}

pub change_row-requires-clause-fits : goal.change_row-requires-clause-fits
change_row-requires-clause-fits g c =
    let turn = YieldsList-turn (YieldsList-from_vec {s = c.into_iter-row-iterator.result} c.args.rows.items (search rules) (search rules))
    c.loop-row.yielded c.loop-row.row-iterator c.loop-row.yielded_by c.next.result c.next.new.self c.in-Some.row c.in-Some.is c.next.ensures.steps in
    still (λ def. IsRow def c.in-Some.row) (g.S.Store.tables c.args.store.now) (g.S.Store.tables c.loop-row.store) c.args.t c.loop-row.invariant.defs
    (one_of IsRow (slice_get (g.S.Store.tables c.args.store.now) c.args.t) c.args.rows.items (length c.loop-row.yielded) c.in-Some.row turn.0 turn.1
    (fit_of (slice_get (g.S.Store.tables c.args.store.now) c.args.t) c.args.rows.items c.requires.places))

pub change_row-requires-clause-named : goal.change_row-requires-clause-named
change_row-requires-clause-named g c =
    let from = YieldsList-from_vec {s = c.into_iter-row-iterator.result} c.args.rows.items (search rules) (search rules) in
    let turn = YieldsList-turn from c.loop-row.yielded c.loop-row.row-iterator c.loop-row.yielded_by c.next.result c.next.new.self c.in-Some.row c.in-Some.is c.next.ensures.steps in
    let so_far : c.loop-row.yielded ≡ take (length c.loop-row.yielded) c.args.rows.items =
    sym (map_same c.loop-row.yielded) ∙ YieldsList-so_far from c.loop-row.yielded c.loop-row.row-iterator c.loop-row.yielded_by in
    named_at (g.S.Store.tables c.args.store.now) (g.S.Store.tables c.loop-row.store) c.args.t c.loop-row.yielded c.args.rows.items c.in-Some.row c.loop-row.invariant.tables
    so_far turn.0 turn.1 c.requires.places

pub loop-row-preserved : goal.loop-row-preserved
loop-row-preserved g c = record {
  tables = rows_more (g.S.Store.tables c.args.store.now) (g.S.Store.tables c.loop-row.store) c.args.t c.loop-row.yielded c.loop-row.invariant.tables c.in-Some.row true (g.S.Store.tables c.change_row.new.store)
      refl c.in_ok-change_row.ensures.ok;
  defs = c.change_row.ensures.defs ∙ c.loop-row.invariant.defs;
  marks = c.change_row.ensures.marks ∙ c.loop-row.invariant.marks;
  keeps = keeps_on (g.S.Store.holds c.args.store.now) (g.S.Store.holds c.loop-row.store) (g.S.Store.holds c.change_row.new.store) (g.S.Store.at c.args.store.now) (g.S.Store.at c.loop-row.store) (g.S.Store.at c.change_row.new.store)
      AnyMark c.loop-row.invariant.keeps c.change_row.ensures.keeps;
}
