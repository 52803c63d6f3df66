use Rattle.std.proofs.Common.{◌≡◌, ℕ, ◌+◌, ◌<◌, ◌∷◌, [], List, length, length-append, get_or, set, sym, subst, ap, ◌∙◌, arith}
use Rattle.std.specs.Prelude.{Option}
use Rattle.std.proofs.lemmas.List.{length-set}
use Rattle.psm_value.specs.declared.datum.Datum.{Datum}
use Rattle.psm_table.specs.Index.{IsPrepared}
use Rattle.psm_table.specs.Mapped.{Mapped}
use Rattle.psm_table.proofs.Entered.{At, at_pushed, entries-set}
use Rattle.psm_table.proofs.index.prepare_all.Goals as goal

pub returns-in_err-entry-clause-same : goal.returns-in_err-entry-clause-same
returns-in_err-entry-clause-same c =
    let inside : c.loop-i.i < length c.loop-i.indexes.items = omega (arith, c.loop-i-test.true, c.len-i-end.ensures, c.loop-i.invariant.lists) in
    let pairs : c.prepare.new.index.pairs ≡ (get_or c.loop-i.indexes.items c.loop-i.i c.index_mut.result.now).pairs =
    c.prepare.ensures.pairs ∙ ap (λ (m : Mapped (Unit {0})). m.pairs) c.index_mut.ensures.value in
    entries-set c.loop-i.indexes.items c.loop-i.i c.prepare.new.index c.index_mut.result.now inside pairs ∙ c.loop-i.invariant.same

pub returns-in_err-push-clause-same : goal.returns-in_err-push-clause-same
returns-in_err-push-clause-same c =
    let inside : c.loop-i.i < length c.loop-i.indexes.items = omega (arith, c.loop-i-test.true, c.len-i-end.ensures, c.loop-i.invariant.lists) in
    let pairs : c.prepare.new.index.pairs ≡ (get_or c.loop-i.indexes.items c.loop-i.i c.index_mut.result.now).pairs =
    c.prepare.ensures.pairs ∙ ap (λ (m : Mapped (Unit {0})). m.pairs) c.index_mut.ensures.value in
    entries-set c.loop-i.indexes.items c.loop-i.i c.prepare.new.index c.index_mut.result.now inside pairs ∙ c.loop-i.invariant.same

pub loop-i-preserved : goal.loop-i-preserved
loop-i-preserved c =
    let inside : c.loop-i.i < length c.loop-i.indexes.items = omega (arith, c.loop-i-test.true, c.len-i-end.ensures, c.loop-i.invariant.lists) in
    let pairs : c.prepare.new.index.pairs ≡ (get_or c.loop-i.indexes.items c.loop-i.i c.index_mut.result.now).pairs =
    c.prepare.ensures.pairs ∙ ap (λ (m : Mapped (Unit {0})). m.pairs) c.index_mut.ensures.value in
    let list : c.items-columns.result.now ≡ get_or c.args.lists.now c.loop-i.i c.items-columns.result.now =
    subst (λ (l : List ℕ). l ≡ get_or c.args.lists.now c.loop-i.i l) (sym c.items-columns.ensures) c.index-lists-i.is in
    let R : List ℕ → Mapped (Unit {0}) → Option (List Datum) → Type 0 = λ columns m o. IsPrepared columns c.args.def.now.key c.args.row.now m o in
    let prepared : R c.items-columns.result.now c.prepare.new.index c.in_ok-entry.entry =
    subst (λ (key : List ℕ). IsPrepared c.items-columns.result.now key c.args.row.now c.prepare.new.index c.in_ok-entry.entry) c.items.ensures c.in_ok-entry.ensures.entry in record {
      lists = length-set c.loop-i.indexes.items c.loop-i.i c.prepare.new.index ∙ c.loop-i.invariant.lists;
      same = entries-set c.loop-i.indexes.items c.loop-i.i c.prepare.new.index c.index_mut.result.now inside pairs ∙ c.loop-i.invariant.same;
      count = omega (arith, ap length c.in_ok-push.ensures.items, length-append c.loop-i.entries.items (c.in_ok-entry.entry ∷ []), c.loop-i.invariant.count);
      each =
          subst (λ (zs : List (Option (List Datum))). (k : ℕ) → k < c.loop-i.i + 1 → At R c.args.lists.now (set c.loop-i.indexes.items c.loop-i.i c.prepare.new.index) zs k) (sym c.in_ok-push.ensures.items)
          (at_pushed R c.args.lists.now c.loop-i.indexes.items c.loop-i.entries.items c.loop-i.i c.items-columns.result.now c.prepare.new.index c.in_ok-entry.entry
          (omega (arith, inside, c.loop-i.invariant.lists, c.requires.lists)) inside c.loop-i.invariant.count list prepared c.loop-i.invariant.each);
    }

pub returns-clause-entries : goal.returns-clause-entries
returns-clause-entries c = record {
  lists = omega (arith, c.loop-i.invariant.count, c.loop-i.invariant.lists, c.loop-i-test.false, c.len-i-end.ensures, c.loop-i.auto.i-end);
  each = λ k columns m o l. c.loop-i.invariant.each k (omega (arith, l, c.loop-i.invariant.lists, c.loop-i-test.false, c.len-i-end.ensures)) columns m o;
}
