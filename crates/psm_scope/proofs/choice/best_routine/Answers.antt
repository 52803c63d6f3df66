use Rattle.std.proofs.Common.{◌≡◌, ◌+◌, suc, length, drop, List, [], ◌∷◌, refl, ap, sym, ◌∙◌, subst, arith, drop-cons}
use Rattle.std.specs.Prelude.{Option, Some, None}
use Rattle.psm_scope.specs.declared.blocks.Block.{Block}
use Rattle.psm_scope.specs.declared.choice.Best.{Best}
use Rattle.psm_scope.specs.Blocks.{AreBlocks}
use Rattle.psm_scope.specs.Signatures.{called}
use Rattle.psm_scope.proofs.Grouped.{Walk, none_called, walk_ends, walk_long, walk_passes, walk_starts, walk_takes, walk_within}
use Rattle.psm_scope.proofs.Indexes.{dropped_all}
use Rattle.psm_scope.proofs.choice.best_routine.Goals.{in-Some-best, in_default}
use Rattle.psm_scope.proofs.choice.best_routine.Goals as goal

pub returns-in-None : goal.returns-in-None
returns-in-None c = none_called c.args.routines.now c.args.name.now c.args.kinds.now c.in-None.ensures

pub loop-block-init : goal.loop-block-init
loop-block-init c =
    walk_starts c.args.routines.now c.args.name.now c.args.kinds.now c.blocks-block-items.result.now
    (subst (λ (l : List Block). AreBlocks (length c.args.kinds.now) (called 0 c.args.name.now (length c.args.kinds.now) c.args.routines.now) l) (sym c.blocks-block-items.ensures) c.in-Some.ensures)

pub kinds-parameters-requires : goal.kinds-parameters-requires
kinds-parameters-requires c =
    let blocks : List Block = c.blocks-block-items.result.now in
    let at = c.loop-block.block-index in
    let left : List Block = drop (suc at) blocks in
    let here : drop at blocks ≡ c.block-item.result ∷ left = drop-cons blocks at c.block-item.result c.loop-block-test.true ∙ ap (λ b. b ∷ left) (sym c.block-item.is) in
    walk_within c.args.routines.now c.args.name.now c.args.kinds.now c.block-item.result left c.loop-block.best
    (subst (λ l. Walk c.args.routines.now c.args.name.now c.args.kinds.now l c.loop-block.best) here c.loop-block.invariant)
    c.best.result c.best.ensures c.in-Some-best.found c.in-Some-best.is

pub better-requires-clause-kinds : goal.better-requires-clause-kinds
better-requires-clause-kinds c =
    let blocks : List Block = c.blocks-block-items.result.now in
    let at = c.loop-block.block-index in
    let left : List Block = drop (suc at) blocks in
    let here : drop at blocks ≡ c.block-item.result ∷ left = drop-cons blocks at c.block-item.result c.loop-block-test.true ∙ ap (λ b. b ∷ left) (sym c.block-item.is) in
    walk_long c.args.routines.now c.args.name.now c.args.kinds.now c.block-item.result left c.loop-block.best
    (subst (λ l. Walk c.args.routines.now c.args.name.now c.args.kinds.now l c.loop-block.best) here c.loop-block.invariant)
    c.best.result c.best.ensures c.in-Some-best.found c.in-Some-best.is c.kinds-parameters.result.now c.kinds-parameters.ensures

pub loop-block-preserved : goal.loop-block-preserved
loop-block-preserved c =
    let blocks : List Block = c.blocks-block-items.result.now in
    let at = c.loop-block.block-index in
    let left : List Block = drop (suc at) blocks in
    let here : drop at blocks ≡ c.block-item.result ∷ left = drop-cons blocks at c.block-item.result c.loop-block-test.true ∙ ap (λ b. b ∷ left) (sym c.block-item.is) in
    let walk : Walk c.args.routines.now c.args.name.now c.args.kinds.now (c.block-item.result ∷ left) c.loop-block.best =
    subst (λ l. Walk c.args.routines.now c.args.name.now c.args.kinds.now l c.loop-block.best) here c.loop-block.invariant in
    let next : suc at ≡ at + 1 = omega arith in
    subst (λ n. Walk c.args.routines.now c.args.name.now c.args.kinds.now (drop n blocks) c.match-best.best) next
    (elim c.match-best.branch as (λ _. Walk c.args.routines.now c.args.name.now c.args.kinds.now left c.match-best.best) [
      | in-Some-best w ↦
          let found = w.in-Some-best.found in
          let alone : Best = record { number = found.number; kinds = w.kinds-parameters.result; tied = found.tied } in
          subst (λ best. Walk c.args.routines.now c.args.name.now c.args.kinds.now left best) (sym w.best-is)
          (walk_takes c.args.routines.now c.args.name.now c.args.kinds.now c.block-item.result left c.loop-block.best walk c.best.result c.best.ensures found w.in-Some-best.is
          w.kinds-parameters.result.now w.kinds-parameters.ensures alone w.better.result refl refl refl w.better.ensures.seen w.better.ensures.long)
      | in_default w ↦
          subst (λ best. Walk c.args.routines.now c.args.name.now c.args.kinds.now left best) (sym w.best-is)
          (walk_passes c.args.routines.now c.args.name.now c.args.kinds.now c.block-item.result left c.loop-block.best walk c.best.result c.best.ensures w.in_default.is)
    ])

pub returns : goal.returns
returns c =
    walk_ends c.args.routines.now c.args.name.now c.args.kinds.now c.loop-block.best c.only.result
    (subst (λ (l : List Block). Walk c.args.routines.now c.args.name.now c.args.kinds.now l c.loop-block.best)
    (dropped_all c.blocks-block-items.result.now c.loop-block.block-index c.loop-block-test.false) c.loop-block.invariant)
    c.only.ensures
