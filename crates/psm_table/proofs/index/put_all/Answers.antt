use Rattle.std.proofs.Common.{◌≡◌, ◌<◌, length, get_or, ◌∙◌, arith}
use Rattle.std.proofs.lemmas.List.{get_or_default, length-set}
use Rattle.psm_table.specs.Index.{IsPut}
use Rattle.psm_table.proofs.Entered.{at_set, get-set_other}
use Rattle.psm_table.proofs.index.put_all.Goals as goal

pub loop-i-preserved : goal.loop-i-preserved
loop-i-preserved c =
    let inside : c.loop-i.i < length c.loop-i.indexes.items = omega (arith, c.loop-i-test.true, c.len-i-end.ensures, c.loop-i.invariant.lists) in
    let within : c.loop-i.i < length c.args.indexes.now.items = omega (arith, inside, c.loop-i.invariant.lists) in
    let among : c.loop-i.i < length c.args.entries.items = omega (arith, within, c.requires.lists) in
    let index : c.index_mut.result.now ≡ get_or c.args.indexes.now.items c.loop-i.i c.index_mut.result.now =
    c.index_mut.ensures.value ∙ c.loop-i.invariant.later c.loop-i.i c.index_mut.result.now (omega arith) in
    let entry : c.take.result ≡ get_or c.args.entries.items c.loop-i.i c.take.result =
    c.take.ensures.value ∙ c.index_mut-in-loop-i.ensures.value ∙ c.loop-i.invariant.left c.loop-i.i c.index_mut-in-loop-i.result.now (omega arith)
    ∙ get_or_default c.args.entries.items c.loop-i.i c.index_mut-in-loop-i.result.now c.take.result among in record {
      lists = length-set c.loop-i.indexes.items c.loop-i.i c.put.new.index ∙ c.loop-i.invariant.lists;
      count = length-set c.loop-i.entries.items c.loop-i.i c.take.new.self ∙ c.loop-i.invariant.count;
      put =
          at_set IsPut c.args.indexes.now.items c.loop-i.indexes.items c.args.entries.items c.loop-i.i c.index_mut.result.now c.put.new.index c.take.result within inside among index entry
          c.put.ensures c.loop-i.invariant.put;
      later = λ k m from.
          get-set_other c.loop-i.indexes.items c.loop-i.i k c.put.new.index m (λ (f : c.loop-i.i ≡ k). absurd (omega (arith, f, from))) ∙ c.loop-i.invariant.later k m (omega (arith, from));
      left = λ k o from.
          get-set_other c.loop-i.entries.items c.loop-i.i k c.take.new.self o (λ (f : c.loop-i.i ≡ k). absurd (omega (arith, f, from))) ∙ c.loop-i.invariant.left k o (omega (arith, from));
    }

pub returns-clause-put : goal.returns-clause-put
returns-clause-put c = λ k m o l. c.loop-i.invariant.put k (omega (arith, l, c.loop-i-test.false, c.len-i-end.ensures)) m m o
