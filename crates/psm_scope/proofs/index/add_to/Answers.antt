use Rattle.std.proofs.Common.{length, List, [], ◌∷◌, ◌++◌, refl, sym, subst}
use Rattle.std.specs.Prelude.{Option}
use Rattle.std.specs.Map.{lookup}
use Rattle.psm_scope.specs.declared.blocks.Block.{Block}
use Rattle.psm_scope.specs.declared.blocks.Group.{Group}
use Rattle.psm_scope.specs.Choice.{Candidate}
use Rattle.psm_scope.specs.Blocks.{AreBlocks, IsGroup}
use Rattle.psm_scope.specs.Keys.{same_call}
use Rattle.psm_scope.proofs.Named.{is_none}
use Rattle.psm_scope.proofs.index.add_to.Goals as goal

pub push-requires : goal.push-requires
push-requires c = ([], subst (λ (l : List Block). AreBlocks (length c.args.kinds.now) [] l) (sym c.in_ok-group.ensures) refl)

pub returns-clause-ok : goal.returns-clause-ok
returns-clause-ok c = λ cs has.
    let count = length c.args.kinds.now in
    let one : Candidate = (c.args.number, c.args.kinds.now) in
    let absent = is_none (lookup (same_call c.args.call) c.args.groups.now.entries) (sym c.if-contains_key.ensures) in
    let none = subst (λ (o : Option Group). IsGroup count cs o) absent has in
    subst (λ (o : Option Group). IsGroup count (cs ++ one ∷ []) o) (sym c.in_ok-insert.ensures.updates.1)
    (c.in_ok-push.ensures.ok cs (subst (λ (l : List Block). AreBlocks count cs l) (sym c.in_ok-group.ensures) none))
