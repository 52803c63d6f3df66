use Rattle.std.proofs.Common.{refl, ◌∙◌}
use Rattle.std.specs.Prelude.{Bool}
use Rattle.indexmap.proofs.CallerLemmas.{insert_entry-new}
use Rattle.psm_scope.specs.declared.key.NameKey.{NameKey}
use Rattle.psm_scope.specs.Scopes.{is_spelled}
use Rattle.psm_scope.proofs.Named.{is_new, is_there, last_named, looked_none}
use Rattle.psm_scope.proofs.names.Names.add.Goals as goal

same_key : NameKey → NameKey → Bool
same_key a b = is_spelled a.name.now b.name.now

pub returns-then-contains_key : goal.returns-then-contains_key
returns-then-contains_key g c =
    (is_there c.args.name.now c.self.inside.known.entries c.args.self.now c.self.view_is c.if-contains_key.ensures, refl)

pub returns : goal.returns
unfolding same_key
returns g c =
    let name = c.args.name.now in
    let es = c.self.inside.known.entries in
    let key : NameKey = record { name = c.args.name } in
    let absent = looked_none name es c.args.self.now c.self.view_is c.if-contains_key.ensures in (
      is_new name es c.args.self.now c.self.view_is absent,
      last_named es c.insert.new.self.entries c.args.self.now key c.args.known c.self.view_is
          (c.in_ok-insert.ensures.entries ∙ insert_entry-new same_key c.self.inside.known key c.args.known absent),
    )
