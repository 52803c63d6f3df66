-- Loops, declarations and blocks forget their places where their tokens do, part by part.
use Rattle.std.proofs.Common.{◌≡◌, ◌∷◌, Option, Some, None, map, option_map, refl, sym, ap}
use Rattle.psm_terms.specs.declared.routines.HandlerKind.{HandlerKind}
use Rattle.psm_token.specs.declared.place.Place.{Place}
use Rattle.psm_tree.specs.Tests.{At, handler_kind_of}
use Rattle.psm_tree.specs.Parts.{Phase, Declarations, Cursors, Handlers, HandlerParts, Variables, Condition, Cursor, Declared, Named, Handled, Body}
use Rattle.psm_tree.specs.StatementValues.{with_declared}
use Rattle.psm_tree.specs.StatementGrammar
use Rattle.psm_print.specs.WithoutPositions.{origin}
use Rattle.psm_print.specs.ExprWithoutPositions.{type_without_positions, expr_without_positions, name_without_positions}
use Rattle.psm_print.specs.StatementWithoutPositions.{ordered_query_without_positions, for_cursor_without_positions, handler_value_without_positions, handler_without_positions}
use Rattle.psm_print.proofs.ValuesWithoutPositions.{same, both, at_without_positions, statements_without_positions, for_parts_without_positions, handler_parts_without_positions, named_rest_without_positions, declared_without_positions, body_without_positions}
use Rattle.psm_print.proofs.PlacelessEquations.{handler_rolled}
use Rattle.psm_print.proofs.Carried.{Carried, carried_place, carried_name, carried_level_at, carried_next, carried_nothing, carried_seq, carried_or, carried_image, carried_pair, carried_triple, carried_several, carried_cons, carried_optional, carried_after, carried_before}
use Rattle.psm_print.proofs.ExprCarried.{next_names_carried, data_type_carried, expr_carried, source_carried}
use Rattle.psm_print.proofs.StatementCarried.{state_carried, ordered_select_carried, statement_carried, ended_statements_carried, statements_carried}

-- ---- loops

pub loop_carried : Carried statements_without_positions StatementGrammar.loop_rest
unfolding StatementGrammar.all_statements
loop_carried = carried_before (carried_before statements_carried)

pub while_carried : Carried (both expr_without_positions statements_without_positions) StatementGrammar.while_rest
unfolding StatementGrammar.all_statements
while_carried = carried_pair expr_carried (carried_after (carried_before (carried_before statements_carried)))

pub repeat_carried : Carried (both statements_without_positions expr_without_positions) StatementGrammar.repeat_rest
unfolding StatementGrammar.all_statements
repeat_carried = carried_pair statements_carried (carried_after (carried_before (carried_before expr_carried)))

insensitive_carried : Carried same StatementGrammar.insensitive
unfolding StatementGrammar.all_statements
insensitive_carried = carried_or (carried_image carried_place (λ x. refl)) (carried_nothing refl)

for_cursor_carried : Carried for_cursor_without_positions StatementGrammar.for_cursor_part
unfolding StatementGrammar.all_statements
for_cursor_carried = carried_seq carried_name (carried_before (carried_before insensitive_carried)) (λ x y. refl)

for_body_carried : Carried statements_without_positions StatementGrammar.for_body
unfolding StatementGrammar.all_statements
for_body_carried = carried_after (carried_before (carried_before statements_carried))

pub for_carried : Carried for_parts_without_positions StatementGrammar.for_rest
unfolding StatementGrammar.all_statements
for_carried = carried_seq carried_name (carried_after (carried_triple (carried_optional for_cursor_carried) (carried_pair ordered_select_carried for_body_carried))) (λ x y. refl)

-- ---- declarations

typed_carried : Carried (both type_without_positions (option_map expr_without_positions)) StatementGrammar.typed
unfolding StatementGrammar.all_statements
typed_carried = carried_pair data_type_carried (carried_optional (carried_after source_carried))

other_variables_carried : Carried (map name_without_positions) StatementGrammar.other_variables
unfolding StatementGrammar.all_statements
other_variables_carried = carried_after (carried_cons carried_name next_names_carried)

declaration_carried : Carried named_rest_without_positions StatementGrammar.declaration_rest
unfolding StatementGrammar.all_statements
declaration_carried = carried_or (carried_seq carried_place (carried_optional (carried_after state_carried)) (λ x y. refl))
    (carried_or (carried_seq other_variables_carried typed_carried (λ x y. refl))
    (carried_seq data_type_carried (carried_optional (carried_after source_carried)) (λ x y. refl)))

updatability_carried : Carried same StatementGrammar.updatability
unfolding StatementGrammar.all_statements
updatability_carried = carried_after (carried_or (carried_after (carried_image carried_place (λ x. refl))) (carried_image carried_place (λ x. refl)))

unchanged : {A : Type 0} (x : Option A) → option_map same x ≡ x
unchanged None = refl
unchanged (Some x) = refl

cursor_carried : Carried named_rest_without_positions StatementGrammar.cursor_rest
unfolding StatementGrammar.all_statements
cursor_carried = carried_seq (carried_before insensitive_carried) (carried_after (carried_pair ordered_select_carried (carried_optional updatability_carried)))
    (λ x y. ap (Cursor x (ordered_query_without_positions y.0)) (unchanged y.1))

handler_value_carried : Carried handler_value_without_positions StatementGrammar.handler_value
unfolding StatementGrammar.all_statements
handler_value_carried = carried_or (carried_image state_carried (λ x. refl))
    (carried_or (carried_image carried_place (λ x. refl))
    (carried_or (carried_image carried_place (λ x. refl))
    (carried_or (carried_seq carried_place carried_place (λ x y. refl))
    (carried_image carried_name (λ x. refl)))))

pub handler_carried : Carried handler_parts_without_positions StatementGrammar.handler_rest
unfolding StatementGrammar.all_statements
handler_carried = carried_after (carried_after (carried_seq (carried_several handler_value_carried (carried_after handler_value_carried)) statement_carried (λ x y. refl)))

-- ---- blocks

handler_made : (place : Place) (kind : At HandlerKind) (p : HandlerParts) (body : Body) → with_declared origin (Handled (at_without_positions kind) (handler_parts_without_positions p)) (body_without_positions body) ≡ body_without_positions (with_declared place (Handled kind p) body)
handler_made place kind p body = ap (λ h. record { declarations = (body_without_positions body).declarations; cursors = (body_without_positions body).cursors; handlers = h ∷ map handler_without_positions body.handlers; statements = (body_without_positions body).statements })
    (sym (handler_rolled (record { place = place; «at» = kind.place; kind = kind.value; values = p.values; action = p.action })))

declared_made : (place : Place) (d : Declared) (body : Body) → with_declared origin (declared_without_positions d) (body_without_positions body) ≡ body_without_positions (with_declared place d body)
declared_made place (Named name (Variables others kind default)) body = refl
declared_made place (Named name (Condition state)) body = refl
declared_made place (Named name (Cursor insensitive query updatability)) body = refl
declared_made place (Handled kind p) body = handler_made place kind p body

pub body_carried : (phase : Phase) → Carried body_without_positions (StatementGrammar.body_rest phase)
unfolding StatementGrammar.all_statements
body_carried phase = carried_or (carried_next (λ x y. declared_made x y.0 y.1)) (carried_image (carried_before ended_statements_carried) (λ x. refl))

declared_handler_carried : Carried (both declared_without_positions body_without_positions) StatementGrammar.declared_handler
unfolding StatementGrammar.all_statements
declared_handler_carried = carried_pair (carried_level_at handler_kind_of (λ x y. refl)) (carried_next (λ x y. refl))

declared_cursor_carried : Carried (both named_rest_without_positions body_without_positions) StatementGrammar.declared_cursor
unfolding StatementGrammar.all_statements
declared_cursor_carried = carried_pair cursor_carried (carried_next (λ x y. refl))

declared_variables_carried : Carried (both named_rest_without_positions body_without_positions) StatementGrammar.declared_variables
unfolding StatementGrammar.all_statements
declared_variables_carried = carried_pair declaration_carried (carried_next (λ x y. refl))

pub declare_carried : (phase : Phase) → Carried (both declared_without_positions body_without_positions) (StatementGrammar.declare_rest phase)
unfolding StatementGrammar.all_statements
declare_carried Declarations = carried_or declared_handler_carried (carried_seq carried_name (carried_or declared_cursor_carried declared_variables_carried) (λ x y. refl))
declare_carried Cursors = carried_or declared_handler_carried (carried_seq carried_name declared_cursor_carried (λ x y. refl))
declare_carried Handlers = declared_handler_carried

atomic_carried : Carried same StatementGrammar.atomic
unfolding StatementGrammar.all_statements
atomic_carried = carried_or (carried_image carried_place (λ x. refl))
    (carried_or (carried_after (carried_image carried_place (λ x. refl)))
    (carried_nothing refl))

pub begin_carried : Carried (both same body_without_positions) StatementGrammar.begin_rest
unfolding StatementGrammar.all_statements
begin_carried = carried_pair atomic_carried (body_carried Declarations)
