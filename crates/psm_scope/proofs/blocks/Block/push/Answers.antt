use Rattle.std.proofs.Common.{◌≡◌, ◌<◌, ◌≤◌, ◌+◌, ℕ, length, List, ◌∷◌, [], ◌++◌, ap, sym, ◌∙◌, subst, arith}
use Rattle.std.specs.Prelude.{slice_index_or}
use Rattle.std.specs.Int.RustNames.{bit_or}
use Rattle.std.proofs.lemmas.List.{length-set}
use Rattle.psm_scope.specs.declared.blocks.ParameterSets.{ParameterSets}
use Rattle.psm_scope.specs.declared.kinds.ArgKind.TheVariants.{Null}
use Rattle.psm_scope.specs.Choice.{Candidate}
use Rattle.psm_scope.specs.Blocks.{HasSets}
use Rattle.psm_scope.proofs.Indexes.{as_many, left_set, more_block, next_set, one_bit, same_default}
use Rattle.psm_scope.proofs.blocks.Block.push.Goals as goal

pub loop-index-preserved : goal.loop-index-preserved
loop-index-preserved c =
    let index = c.loop-index.index in
    let items = c.loop-index.self.parameter_sets.items in
    let here : ParameterSets = c.index.result.now in
    let one : Candidate = (c.args.number, c.args.kinds.now) in
    let long : length items ≡ length c.args.kinds.now = c.loop-index.invariant.parameter_sets ∙ sym c.requires.count in
    let test : index < length c.args.kinds.now = c.loop-index-test.true in
    let within : index < length items = omega (arith, long, test) in
    let old_within : index < length c.args.self.now.parameter_sets.items = let p : length items ≡ length c.args.self.now.parameter_sets.items = c.loop-index.invariant.parameter_sets in omega (arith, within, p) in
    let got : here ≡ slice_index_or items index here = grind (arith, c.index.ensures) in
    record {
      parameter_sets = length-set items index c.with.result ∙ c.loop-index.invariant.parameter_sets;
      numbers = c.loop-index.invariant.numbers;
      all = c.loop-index.invariant.all;
      done = λ cs is p d lt.
          let many : length c.args.self.now.numbers.items ≡ length cs = as_many cs c.args.self.now is in
          let room : length c.args.self.now.numbers.items < 64 = c.requires.room in
          let few : length cs < 64 = omega (arith, many, room) in
          let len : c.len.result ≡ length cs = grind (arith, c.len.ensures, many) in
          let has : HasSets index cs here = subst (λ s. HasSets index cs s) (sym (got ∙ c.loop-index.invariant.left index here (omega arith))) (is.sets index here old_within) in
          next_set (λ q s. HasSets q (cs ++ one ∷ []) s) items index p c.with.result d within (λ less. c.loop-index.invariant.done cs is p d less)
          (c.with.ensures index cs one few (one_bit c.len.result (length cs) len few) (same_default c.args.kinds.now index _ Null test) has) lt;
      left = λ p d le. left_set items index p c.with.result d le ∙ c.loop-index.invariant.left p d (omega (arith, le));
    }

pub returns-clause-ok : goal.returns-clause-ok
returns-clause-ok c = λ cs is.
    let one : Candidate = (c.args.number, c.args.kinds.now) in
    let many : length c.args.self.now.numbers.items ≡ length cs = as_many cs c.args.self.now is in
    let room : length c.args.self.now.numbers.items < 64 = c.requires.room in
    let few : length cs < 64 = omega (arith, many, room) in
    let len : c.len.result ≡ length cs = grind (arith, c.len.ensures, many) in
    let pushed : c.push.new.self.items ≡ c.args.self.now.numbers.items ++ c.args.number ∷ [] = grind (arith, c.in_ok-push.ensures.items) in
    let parameter_sets : length c.loop-index.self.parameter_sets.items ≡ length c.args.self.now.parameter_sets.items = c.loop-index.invariant.parameter_sets in
    let count : length c.args.kinds.now ≡ length c.args.self.now.parameter_sets.items = c.requires.count in
    let end : length c.args.kinds.now ≤ c.loop-index.index = c.loop-index-test.false in
    more_block cs c.args.self.now is c.loop-index.self one room (ap (λ v. v.items) c.loop-index.invariant.numbers ∙ pushed)
    (c.loop-index.invariant.all ∙ ap (bit_or c.args.self.now.all) (one_bit c.len.result (length cs) len few))
    (λ index d lt. c.loop-index.invariant.done cs is index d (omega (arith, lt, parameter_sets, count, end)))
