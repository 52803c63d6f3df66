use Rattle.std.proofs.Common.{◌≡◌, ◌<◌, ◌≤◌, length, List, sym, subst, arith}
use Rattle.std.specs.Prelude.{true, slice_index_or}
use Rattle.psm_scope.specs.declared.blocks.ParameterSets.{ParameterSets}
use Rattle.psm_scope.specs.Choice.{Candidate, narrowed}
use Rattle.psm_scope.specs.Blocks.{HasSets, members, set_of}
use Rattle.psm_scope.proofs.Indexes.{next_narrowed}
use Rattle.psm_scope.proofs.blocks.Block.narrowed.Goals as goal

pub loop-index-preserved : goal.loop-index-preserved
loop-index-preserved c =
    let index = c.loop-index.index in
    let here : ParameterSets = c.index.result.now in
    let items = c.args.self.now.parameter_sets.items in
    let test : index < length c.args.args.now = c.loop-index-test.true in
    let long : length c.args.args.now ≡ length items = c.requires in
    let got : here ≡ slice_index_or items index here = grind (arith, c.index.ensures) in
    let less : c.narrowed-stay.result ≤ c.loop-index.stay = c.narrowed-stay.ensures.within in
    let within : c.loop-index.stay ≤ c.args.set = c.loop-index.invariant.within in
    record {
      members = λ cs is all.
          let has : HasSets index cs here = subst (λ s. HasSets index cs s) (sym got) (is.sets index here (omega (arith, test, long))) in
          next_narrowed c.args.args.now index _ (members c.loop-index.stay cs) (members c.narrowed-stay.result cs) (narrowed 0 c.args.args.now (members c.args.set cs)) test
          (c.narrowed-stay.ensures.members index cs has (omega (arith, within, all))) (c.loop-index.invariant.members cs is all);
      within = omega (arith, less, within);
    }
