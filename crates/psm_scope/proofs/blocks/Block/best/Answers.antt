use Rattle.std.proofs.Common.{◌≡◌, ◌<◌, ◌≤◌, ◌^◌, ℕ, length, List, ap, sym, ◌∙◌, refl, subst, arith}
use Rattle.std.specs.Prelude.{true, slice_index_or}
use Rattle.std.specs.Int.{trailing_zeros, w64}
use Rattle.std.specs.List.{filter}
use Rattle.psm_scope.specs.Choice.{Candidate, all_go, narrowed}
use Rattle.psm_scope.specs.Blocks.{members}
use Rattle.psm_scope.proofs.Indexes.{best_is, best_within, none_best}
use Rattle.psm_scope.proofs.blocks.Block.best.Goals as goal

pub returns-then-set-eq0 : goal.returns-then-set-eq0
returns-then-set-eq0 c = λ cs is have.
    let reached : c.reached.result ≤ c.args.self.now.all = c.reached.ensures.within in
    let less : c.narrowed-set.result ≤ c.reached.result = c.narrowed-set.ensures.within in
    none_best cs c.args.self.now is c.narrowed-set.result (narrowed 0 c.args.args.now (filter (λ (d : Candidate). all_go c.args.args.now d.1) cs)) (omega (arith, less, reached))
    (c.narrowed-set.ensures.members cs is (subst (λ n. c.reached.result ≤ n) is.all reached) ∙ ap (narrowed 0 c.args.args.now) (c.reached.ensures.members cs is have))
    c.if-set-eq0.true

pub index-requires : goal.index-requires
index-requires c =
    let reached : c.reached.result ≤ c.args.self.now.all = c.reached.ensures.within in
    let less : c.narrowed-set.result ≤ c.reached.result = c.narrowed-set.ensures.within in
    let some : 0 < c.narrowed-set.result = omega (arith, c.if-set-eq0.false) in
    let fits : c.narrowed-set.result < 2 ^ 64 = grind arith in
    let within : trailing_zeros w64 c.narrowed-set.result < length c.args.self.now.numbers.items =
    best_within c.requires.block.0 c.args.self.now c.requires.block.1 c.narrowed-set.result (members c.narrowed-set.result c.requires.block.0) (omega (arith, less, reached)) refl some fits in
    grind (arith, within)

pub returns : goal.returns
returns c = λ cs is have.
    let reached : c.reached.result ≤ c.args.self.now.all = c.reached.ensures.within in
    let less : c.narrowed-set.result ≤ c.reached.result = c.narrowed-set.ensures.within in
    let some : 0 < c.narrowed-set.result = omega (arith, c.if-set-eq0.false) in
    let fits : c.narrowed-set.result < 2 ^ 64 = grind arith in
    let number : ℕ = c.index.result.now in
    let got : number ≡ slice_index_or c.args.self.now.numbers.items (trailing_zeros w64 c.narrowed-set.result) number = grind (arith, c.index.ensures) in
    best_is cs c.args.self.now is c.narrowed-set.result (narrowed 0 c.args.args.now (filter (λ (d : Candidate). all_go c.args.args.now d.1) cs)) (omega (arith, less, reached))
    (c.narrowed-set.ensures.members cs is (subst (λ n. c.reached.result ≤ n) is.all reached) ∙ ap (narrowed 0 c.args.args.now) (c.reached.ensures.members cs is have))
    some fits number _ got refl
