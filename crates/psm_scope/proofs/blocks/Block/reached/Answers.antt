use Rattle.std.proofs.Common.{◌≡◌, ◌<◌, ◌≤◌, length, List, ap, sym, ◌∙◌, subst, arith}
use Rattle.std.specs.Prelude.{slice_index_or}
use Rattle.psm_scope.specs.declared.blocks.ParameterSets.{ParameterSets}
use Rattle.psm_scope.specs.Choice.{Candidate}
use Rattle.psm_scope.specs.Blocks.{HasSets, members}
use Rattle.psm_scope.proofs.Narrowed.{going, going_all}
use Rattle.psm_scope.proofs.Indexes.{last_going, next_going}
use Rattle.psm_scope.proofs.Sets.{all_members}
use Rattle.psm_scope.proofs.blocks.Block.reached.Goals as goal

pub loop-index-init : goal.loop-index-init
loop-index-init c = record {
  members = λ cs is. ap (going 0 c.args.args.now) (ap (λ n. members n cs) is.all ∙ all_members cs);
  within = omega arith;
}

pub loop-index-preserved : goal.loop-index-preserved
loop-index-preserved c =
    let index = c.loop-index.index in
    let here : ParameterSets = c.index.result.now in
    let items = c.args.self.now.parameter_sets.items in
    let test : index < length c.args.args.now = c.loop-index-test.true in
    let long : length c.args.args.now ≡ length items = c.requires in
    let got : here ≡ slice_index_or items index here = grind (arith, c.index.ensures) in
    let less : c.reached-set.result ≤ c.loop-index.set = c.reached-set.ensures.within in
    let within : c.loop-index.set ≤ c.args.self.now.all = c.loop-index.invariant.within in
    record {
      members = λ cs is.
          let has : HasSets index cs here = subst (λ s. HasSets index cs s) (sym got) (is.sets index here (omega (arith, test, long))) in
          next_going c.args.args.now index _ (members c.loop-index.set cs) (members c.reached-set.result cs) (going 0 c.args.args.now cs) test
          (c.reached-set.ensures.members index cs has) (c.loop-index.invariant.members cs is);
      within = omega (arith, less, within);
    }

pub returns-clause-members : goal.returns-clause-members
returns-clause-members c = λ cs is have.
    last_going c.args.args.now c.loop-index.index (members c.loop-index.set cs) (going 0 c.args.args.now cs) c.loop-index-test.false (c.loop-index.invariant.members cs is)
    ∙ going_all c.args.args.now cs have
