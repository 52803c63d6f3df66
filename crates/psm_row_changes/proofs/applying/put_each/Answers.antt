use Rattle.std.proofs.Common.{◌≡◌, length, take, sym, ◌∙◌, refl, rules}
use Rattle.std.specs.Prelude.{slice_get}
use Rattle.std.proofs.lemmas.Iterator.Consumers.{YieldsList-so_far, YieldsList-turn}
use Rattle.std.proofs.lemmas.Iterator.Adapters.{YieldsList-from_vec}
use Rattle.psm_store.specs.Marks.{AnyMark}
use Rattle.psm_row_changes.specs.Rows.{IsWhole}
use Rattle.psm_row_changes.proofs.Effects.{always, few_left, fits_more, keeps_on, map_same, one_of, rows_more, rows_none, still, stops}
use Rattle.psm_row_changes.proofs.applying.put_each.Goals as goal

pub loop-row-init : goal.loop-row-init
loop-row-init g c = record {
  tables = rows_none (g.S.Store.tables c.args.store.now) c.args.t;
  fit = always (slice_get (g.S.Store.tables c.args.store.now) c.args.t);
  defs = refl;
  marks = refl;
  keeps = λ m h t. (h, refl);
}

pub put_row-requires-clause-row : goal.put_row-requires-clause-row
put_row-requires-clause-row g c =
    let turn = YieldsList-turn (YieldsList-from_vec {s = c.into_iter-row-iterator.result} c.args.rows.items (search rules) (search rules))
    c.loop-row.yielded c.loop-row.row-iterator c.loop-row.yielded_by c.next.result c.next.new.self c.in-Some.row c.in-Some.is c.next.ensures.steps in
    still (λ def. IsWhole def c.in-Some.row) (g.S.Store.tables c.args.store.now) (g.S.Store.tables c.loop-row.store) c.args.t c.loop-row.invariant.defs
    (one_of IsWhole (slice_get (g.S.Store.tables c.args.store.now) c.args.t) c.args.rows.items (length c.loop-row.yielded) c.in-Some.row turn.0 turn.1 c.requires.rows)

pub put_row-requires-clause-few : goal.put_row-requires-clause-few
put_row-requires-clause-few g c =
    let turn = YieldsList-turn (YieldsList-from_vec {s = c.into_iter-row-iterator.result} c.args.rows.items (search rules) (search rules))
    c.loop-row.yielded c.loop-row.row-iterator c.loop-row.yielded_by c.next.result c.next.new.self c.in-Some.row c.in-Some.is c.next.ensures.steps in
    few_left (g.S.Store.tables c.args.store.now) (g.S.Store.tables c.loop-row.store) c.args.t c.loop-row.yielded c.loop-row.invariant.tables (length c.args.rows.items) turn.0 c.requires.few

pub returns-then-not-branch-clause-answer : goal.returns-then-not-branch-clause-answer
returns-then-not-branch-clause-answer g c =
    let from = YieldsList-from_vec {s = c.into_iter-row-iterator.result} c.args.rows.items (search rules) (search rules) in
    let turn = YieldsList-turn from c.loop-row.yielded c.loop-row.row-iterator c.loop-row.yielded_by c.next.result c.next.new.self c.in-Some.row c.in-Some.is c.next.ensures.steps in
    let so_far : c.loop-row.yielded ≡ take (length c.loop-row.yielded) c.args.rows.items =
    sym (map_same c.loop-row.yielded) ∙ YieldsList-so_far from c.loop-row.yielded c.loop-row.row-iterator c.loop-row.yielded_by in
    stops (g.S.Store.tables c.args.store.now) (g.S.Store.tables c.loop-row.store) c.args.t c.loop-row.yielded c.loop-row.invariant.tables c.args.rows.items c.in-Some.row c.in_ok-put_row.field-0
    so_far turn.0 turn.1 c.if-not-branch.true c.loop-row.invariant.fit c.in_ok-put_row.ensures.answer

pub loop-row-preserved : goal.loop-row-preserved
loop-row-preserved g c = record {
  tables = rows_more (g.S.Store.tables c.args.store.now) (g.S.Store.tables c.loop-row.store) c.args.t c.loop-row.yielded c.loop-row.invariant.tables c.in-Some.row c.in_ok-put_row.field-0 (g.S.Store.tables c.put_row.new.store)
      c.if-not-branch.false c.in_ok-put_row.ensures.tables;
  fit = fits_more (g.S.Store.tables c.args.store.now) (g.S.Store.tables c.loop-row.store) c.args.t c.loop-row.yielded c.loop-row.invariant.tables c.in-Some.row c.in_ok-put_row.field-0 c.if-not-branch.false
      c.loop-row.invariant.fit c.in_ok-put_row.ensures.answer;
  defs = c.put_row.ensures.defs ∙ c.loop-row.invariant.defs;
  marks = c.put_row.ensures.marks ∙ c.loop-row.invariant.marks;
  keeps = keeps_on (g.S.Store.holds c.args.store.now) (g.S.Store.holds c.loop-row.store) (g.S.Store.holds c.put_row.new.store) (g.S.Store.at c.args.store.now) (g.S.Store.at c.loop-row.store) (g.S.Store.at c.put_row.new.store)
      AnyMark c.loop-row.invariant.keeps c.put_row.ensures.keeps;
}
