use Rattle.std.proofs.Common.{◌∙◌, refl}
use Rattle.std.specs.Prelude.{slice_get}
use Rattle.psm_table.specs.Definition.{IsKey}
use Rattle.psm_store.specs.Marks.{AnyMark}
use Rattle.psm_row_changes.proofs.Effects.{keeps_on, keys_next, keys_none, one_of, still}
use Rattle.psm_row_changes.proofs.applying.erase_each.Goals as goal

pub loop-key-init : goal.loop-key-init
loop-key-init g c = record {
  tables = keys_none (g.S.Store.tables c.args.store.now) c.args.t;
  defs = refl;
  marks = refl;
  keeps = λ m h t. (h, refl);
}

pub erase_row-requires-clause-fits : goal.erase_row-requires-clause-fits
erase_row-requires-clause-fits g c =
    still (λ def. IsKey def c.key-item.result) (g.S.Store.tables c.args.store.now) (g.S.Store.tables c.loop-key.store) c.args.t c.loop-key.invariant.defs
    (one_of IsKey (slice_get (g.S.Store.tables c.args.store.now) c.args.t) c.args.keys.now c.loop-key.key-index c.key-item.result c.loop-key-test.true c.key-item.is c.requires.fit)

pub loop-key-preserved : goal.loop-key-preserved
loop-key-preserved g c = record {
  tables = keys_next c.args.keys.now c.loop-key.key-index c.key-item.result (g.S.Store.tables c.args.store.now) (g.S.Store.tables c.loop-key.store) (g.S.Store.tables c.erase_row.new.store) c.args.t
      c.loop-key-test.true c.key-item.is c.loop-key.invariant.tables c.in_ok-erase_row.ensures.ok;
  defs = c.erase_row.ensures.defs ∙ c.loop-key.invariant.defs;
  marks = c.erase_row.ensures.marks ∙ c.loop-key.invariant.marks;
  keeps = keeps_on (g.S.Store.holds c.args.store.now) (g.S.Store.holds c.loop-key.store) (g.S.Store.holds c.erase_row.new.store) (g.S.Store.at c.args.store.now) (g.S.Store.at c.loop-key.store) (g.S.Store.at c.erase_row.new.store)
      AnyMark c.loop-key.invariant.keeps c.erase_row.ensures.keeps;
}
