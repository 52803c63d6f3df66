use Rattle.std.proofs.Common.{◌≡◌, ◌<◌, ◌-◌, suc, length, List, [], ◌∷◌, ◌++◌, ap, sym, ◌∙◌, subst, arith}
use Rattle.std.specs.Prelude.{slice_index_or}
use Rattle.psm_scope.specs.declared.blocks.Block.{Block}
use Rattle.psm_scope.specs.Choice.{Candidate}
use Rattle.psm_scope.specs.Blocks.{AreBlocks, IsBlock}
use Rattle.psm_scope.proofs.Indexes.{err_then, last_more, last_same, ok_then, one_after, sets_at}
use Rattle.psm_scope.proofs.blocks.Group.push.Goals as goal

pub push-requires-clause-count : goal.push-requires-clause-count
push-requires-clause-count c =
    let blocks : List Block = c.args.self.now.blocks.items in
    let block : Block = c.index_mut.result.now in
    let last = c.len-count.result - 1 in
    let len : c.len-count.result ≡ length blocks = grind (arith, c.len-count.ensures) in
    let got : block ≡ slice_index_or blocks last block = grind (arith, c.index_mut.ensures.value) in
    let within : last < length blocks = omega (arith, len, c.if-count-gt0.true) in
    sym (ap (λ (b : Block). length b.parameter_sets.items) got ∙ sets_at (length c.args.kinds.now) c.requires.0 blocks last block c.requires.1 within)

pub returns-then-not-is_full-clause-ok : goal.returns-then-not-is_full-clause-ok
returns-then-not-is_full-clause-ok c =
    let blocks : List Block = c.args.self.now.blocks.items in
    let block : Block = c.index_mut.result.now in
    let new : Block = c.push.new.self in
    let count = length c.args.kinds.now in
    let one : Candidate = (c.args.number, c.args.kinds.now) in
    let last = c.len-count.result - 1 in
    let len : c.len-count.result ≡ length blocks = grind (arith, c.len-count.ensures) in
    let got : block ≡ slice_index_or blocks last block = grind (arith, c.index_mut.ensures.value) in
    let within : last < length blocks = omega (arith, len, c.if-count-gt0.true) in
    let at : suc last ≡ length blocks = omega (arith, len, c.if-count-gt0.true) in
    let parameter_sets : length new.parameter_sets.items ≡ count =
    c.push.ensures.parameter_sets ∙ ap (λ (b : Block). length b.parameter_sets.items) got ∙ sets_at count c.requires.0 blocks last block c.requires.1 within in
    ok_then c.push.result
    (λ (grows : (ds : List Candidate) → IsBlock ds block → IsBlock (ds ++ one ∷ []) new). λ (cs : List Candidate) (are : AreBlocks count cs blocks).
    last_more count cs (one ∷ []) blocks last new block are at (λ ds is. grows ds (subst (λ (b : Block). IsBlock ds b) (sym got) is)) parameter_sets)
    c.push.ensures.ok

pub returns-then-not-is_full-clause-err : goal.returns-then-not-is_full-clause-err
returns-then-not-is_full-clause-err c =
    let blocks : List Block = c.args.self.now.blocks.items in
    let block : Block = c.index_mut.result.now in
    let new : Block = c.push.new.self in
    let count = length c.args.kinds.now in
    let last = c.len-count.result - 1 in
    let len : c.len-count.result ≡ length blocks = grind (arith, c.len-count.ensures) in
    let got : block ≡ slice_index_or blocks last block = grind (arith, c.index_mut.ensures.value) in
    let within : last < length blocks = omega (arith, len, c.if-count-gt0.true) in
    let at : suc last ≡ length blocks = omega (arith, len, c.if-count-gt0.true) in
    let parameter_sets : length new.parameter_sets.items ≡ count =
    c.push.ensures.parameter_sets ∙ ap (λ (b : Block). length b.parameter_sets.items) got ∙ sets_at count c.requires.0 blocks last block c.requires.1 within in
    err_then c.push.result
    (λ (keeps : (ds : List Candidate) → IsBlock ds block → IsBlock ds new). λ (cs : List Candidate) (are : AreBlocks count cs blocks).
    last_same count cs blocks last new block are at (λ ds is. keeps ds (subst (λ (b : Block). IsBlock ds b) (sym got) is)) parameter_sets)
    c.push.ensures.err

pub returns-clause-ok : goal.returns-clause-ok
returns-clause-ok c = λ cs are.
    let blocks : List Block = c.args.self.now.blocks.items in
    let new : Block = c.push-2.new.self in
    let one : Candidate = (c.args.number, c.args.kinds.now) in
    let pushed : c.push-3.new.self.items ≡ blocks ++ new ∷ [] = grind (arith, c.in_ok-push-2.ensures.items) in
    subst (λ (l : List Block). AreBlocks (length c.args.kinds.now) (cs ++ one ∷ []) l) (sym pushed)
    (one_after (length c.args.kinds.now) cs (one ∷ []) blocks new are (c.in_ok-push.ensures.ok [] c.in_ok-block.ensures.block) (c.in_ok-push.ensures.parameter_sets ∙ c.in_ok-block.ensures.parameter_sets))
