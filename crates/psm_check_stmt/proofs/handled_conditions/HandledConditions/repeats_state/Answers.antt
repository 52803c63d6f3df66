use Rattle.std.proofs.Common.{not, refl, ap, ◌∙◌, ◌++◌, ◌∷◌, []}
use Rattle.std.specs.Prelude.{if◌then◌else◌}
use Rattle.std.specs.List.{list_any}
use Rattle.psm_scope.specs.Scopes.{is_spelled}
use Rattle.psm_check_stmt.proofs.Handling.{records_state}
use Rattle.psm_check_stmt.proofs.handled_conditions.HandledConditions.repeats_state.Goals as goal

pub returns : goal.returns
returns c =
    let ks = c.args.self.now.states.keys in
    records_state c.args.self.now (record c.args.self.now { states = c.insert.new.self }) c.args.state.now c.in_ok-added.added (not c.in_ok-added.added)
    refl refl refl refl
    (c.in_ok-added.ensures.keys ∙ ap (λ s. if list_any (is_spelled s) ks then ks else ks ++ s ∷ []) c.characters.ensures)
    (c.in_ok-added.ensures.added ∙ ap (λ s. not (list_any (is_spelled s) ks)) c.characters.ensures) refl
