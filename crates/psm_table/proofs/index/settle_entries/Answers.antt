use Rattle.std.proofs.Common.{◌≡◌, get_or, [], sym, subst, length, ◌∙◌, arith, ℕ, List}
use Rattle.std.proofs.lemmas.List.{length-set}
use Rattle.psm_table.specs.Held.{live_rows}
use Rattle.psm_table.proofs.Counts.{current-within, few-set}
use Rattle.psm_table.proofs.Entered.{length-entries}
use Rattle.psm_table.proofs.Rivals.{survives-set}
use Rattle.psm_table.proofs.index.settle_entries.Goals as goal

pub loop-i-preserved : goal.loop-i-preserved
loop-i-preserved c =
    let list : c.items-columns.result.now ≡ get_or c.args.lists.now c.loop-i.i c.items-columns.result.now =
    subst (λ (l : List ℕ). l ≡ get_or c.args.lists.now c.loop-i.i l) (sym c.items-columns.ensures) c.index-lists-i.is in (
      length-set c.loop-i.indexes.items c.loop-i.i c.retain.new.self ∙ c.loop-i.invariant.0,
      λ n d l. survives-set c.args.def.now [] c.args.rows.now.pairs c.requires.order c.requires.at_keys c.requires.ascend n d l c.args.lists.now c.loop-i.indexes.items c.loop-i.i c.items-columns.result.now
          c.index_mut.result.now c.retain.new.self (omega (arith, c.loop-i-test.true, c.loop-i.invariant.0)) c.index_mut.ensures.value list c.retain.ensures.pairs (c.loop-i.invariant.1 n d l),
      few-set (length (live_rows c.args.rows.now.pairs)) c.loop-i.indexes.items c.loop-i.i c.retain.new.self (omega (arith, c.loop-i-test.true, c.loop-i.invariant.0))
          (current-within c.args.def.now c.items-columns.result.now c.args.rows.now.pairs c.requires.order c.requires.at_keys c.retain.new.self.pairs c.index_mut.result.now.pairs c.retain.ensures.pairs c.retain.ensures.ordered)
          c.loop-i.invariant.2,
    )

pub returns-clause-few : goal.returns-clause-few
returns-clause-few c k d l =
    c.loop-i.invariant.2 k d (omega (arith, l, length-entries c.loop-i.indexes.items, c.loop-i-test.false, c.loop-i.invariant.0))
