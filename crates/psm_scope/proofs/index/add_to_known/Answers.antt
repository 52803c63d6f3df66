use Rattle.std.proofs.Common.{length, List, [], ◌∷◌, ◌++◌, sym, subst}
use Rattle.std.specs.Prelude.{Option}
use Rattle.psm_scope.specs.declared.blocks.Group.{Group}
use Rattle.psm_scope.specs.Choice.{Candidate}
use Rattle.psm_scope.specs.Blocks.{AreBlocks, IsGroup}
use Rattle.psm_scope.proofs.Indexes.{err_then, ok_then}
use Rattle.psm_scope.proofs.index.add_to_known.Goals as goal

pub push-requires : goal.push-requires
push-requires c = (
  c.requires.group.0,
  subst (λ (o : Option Group). IsGroup (length c.args.kinds.now) c.requires.group.0 o) (sym c.in-Some.ensures.value) c.requires.group.1,
)

pub returns-clause-others : goal.returns-clause-others
returns-clause-others c = λ q e. ((c.get_mut.follows.holds c.push.new.self).3 c.requires.known).2 q e

pub returns-clause-ok : goal.returns-clause-ok
returns-clause-ok c =
    let count = length c.args.kinds.now in
    let one : Candidate = (c.args.number, c.args.kinds.now) in
    let now = ((c.get_mut.follows.holds c.push.new.self).3 c.requires.known).1 in
    ok_then c.push.result
    (λ (grows : (cs : List Candidate) → AreBlocks count cs c.in-Some.group.now.blocks.items → AreBlocks count (cs ++ one ∷ []) c.push.new.self.blocks.items).
    λ cs has. subst (λ (o : Option Group). IsGroup count (cs ++ one ∷ []) o) (sym now) (grows cs (subst (λ (o : Option Group). IsGroup count cs o) (sym c.in-Some.ensures.value) has)))
    c.push.ensures.ok

pub returns-clause-err : goal.returns-clause-err
returns-clause-err c =
    let count = length c.args.kinds.now in
    let now = ((c.get_mut.follows.holds c.push.new.self).3 c.requires.known).1 in
    err_then c.push.result
    (λ (keeps : (cs : List Candidate) → AreBlocks count cs c.in-Some.group.now.blocks.items → AreBlocks count cs c.push.new.self.blocks.items).
    λ cs has. subst (λ (o : Option Group). IsGroup count cs o) (sym now) (keeps cs (subst (λ (o : Option Group). IsGroup count cs o) (sym c.in-Some.ensures.value) has)))
    c.push.ensures.err
