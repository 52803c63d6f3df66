use Rattle.std.proofs.Common.{◌≡◌, ◌∷◌, [], ◌++◌, length, true, is_some, refl, sym, ap, ◌∙◌, subst}
use Rattle.indexmap.proofs.CallerLemmas.{insert_entry-new}
use Rattle.psm_scope.specs.declared.key.CallKey.{CallKey}
use Rattle.psm_scope.specs.Keys.{same_call}
use Rattle.psm_scope.proofs.Headed.{is_there, last_headed, new_headed}
use Rattle.std.specs.Prelude.{None}
use Rattle.psm_scope.specs.Routines.{procedure}
use Rattle.psm_scope.proofs.procedures.Procedures.add.Goals as goal

pub returns-then-contains_key : goal.returns-then-contains_key
returns-then-contains_key c =
    let there = is_there c.args.name.now (length c.items.result.now) c.self.inside.known.entries c.args.self.now c.self.view_is (sym c.if-contains_key.ensures) in
    (subst (λ ks. is_some (procedure c.args.name.now (length ks) c.args.self.now) ≡ true) c.items.ensures there, refl)

pub returns : goal.returns
returns c =
    let name = c.args.name.now in
    let es = c.self.inside.known.entries in
    let key : CallKey = record { name = record { name = c.args.name }; count = length c.items.result.now } in
    let absent = new_headed name (length c.items.result.now) es c.args.self.now c.self.view_is c.if-contains_key.ensures in
    let entries : c.insert.new.self.entries ≡ es ++ (key, c.args.known) ∷ [] =
    c.in_ok-insert.ensures.entries ∙ insert_entry-new same_call c.self.inside.known key c.args.known absent.0 in (
      subst (λ ks. procedure name (length ks) c.args.self.now ≡ None) c.items.ensures absent.1,
      last_headed es c.insert.new.self.entries c.args.self.now key c.args.known c.self.view_is entries
          ∙ ap (λ ks. c.args.self.now ++ ((name, length ks), c.args.known) ∷ []) c.items.ensures,
    )
