-- The declarations of a block go over into printed ones.
use Rattle.std.proofs.Common.{◌≡◌, Bool, List, [], ◌∷◌, ◌++◌, map, option_map, refl, sym, ap, subst, ◌∙◌}
use Rattle.std.proofs.lemmas.List.{append_assoc}
use native.Mathlib.Omega.{arith}
use Rattle.psm_terms.specs.declared.routines.HandlerKind.{HandlerKind}
use Rattle.psm_token.specs.declared.place.Place.{Place}
use Rattle.psm_token.specs.declared.word.Word.TheVariants as w
use Rattle.psm_token.specs.declared.sign.Sign.TheVariants as s
use Rattle.psm_tree.specs.Tests.{At}
use Rattle.psm_tree.specs.Parts.{Phase, Declarations, Cursors, Handlers, BeginRest, NamedRest, Variables, Condition, Cursor, Declared, Named, Handled, HandlerParts, Body}
use Rattle.psm_tree.specs.StatementValues.{with_declared, with_named}
use Rattle.psm_tree.specs.StatementGrammar
use Rattle.psm_tree.specs.StatementGrammar.{typed, other_variables, declaration_rest, cursor_query, cursor_rest, body_rest, declared_handler, declared_cursor, declared_variables, declare_rest, begin_rest}
use Rattle.psm_tree.specs.declared.name.Identifier.{Identifier}
use Rattle.psm_print.specs.Spelling.{Spelling, word, sign, perhaps, each, ended}
use Rattle.psm_print.specs.ExprTokens.{name_tokens, type_tokens, expr_tokens}
use Rattle.psm_print.specs.StatementTokens.{state_tokens, ordered_query_tokens, declaration_tokens, insensitive_tokens, updatability_tokens, cursor_tokens, handler_kind_tokens, handled_tokens, statement_tokens, handler_tokens}
use Rattle.psm_print.proofs.PartTokens.{handler_parts_tokens, body_tokens, named_rest_tokens, declared_tokens, part_tokens, Late, MayPrecede, Ordered}
use Rattle.psm_print.proofs.Regrouped.{before2, before3}
use Rattle.psm_print.proofs.Equations.{handler_rolled}
use Rattle.psm_print.proofs.Into.{PrintContext, Into, into_equal_if, into_seq, into_or, into_image, into_perhaps}
use Rattle.psm_print.proofs.Tokens.{says_word, says_sign, into_level, into_next, into_word, after_word, after_sign, before_word}
use Rattle.psm_print.proofs.Chosen.{into_name, says_handler, handler_equal}
use Rattle.psm_print.proofs.TypesInto.{next_names_into, data_type_into}
use Rattle.psm_print.proofs.ExprInto.{source_into}
use Rattle.psm_print.proofs.PartsInto.{ordered_into, for_state_into, insensitive_into, updatability_into, atomic_into}
use Rattle.psm_print.proofs.StatementInto.{ended_statements_into}
use Rattle.psm_print.proofs.Phases.{only_precedes}

-- ---- after the name

default_into : {z : PrintContext} → Into z typed typed (λ p. type_tokens p.0 ++ perhaps (word w.Default) (option_map expr_tokens p.1))
unfolding StatementGrammar.all_statements
default_into = into_seq (λ p. type_tokens p.0 ++ perhaps (word w.Default) (option_map expr_tokens p.1)) data_type_into (into_perhaps (word w.Default) expr_tokens (after_word w.Default source_into) (λ x. refl)) (λ x y. refl)

-- names with a comma between two of them
abbrev apart : List Identifier → Spelling
apart [] = []
apart (name ∷ names) = name_tokens name ++ each (sign s.Comma) (map name_tokens names)

abbrev Begins : List Identifier → Type 0
Begins names = sign s.Comma ++ apart names ≡ each (sign s.Comma) (map name_tokens names)

others_into : {z : PrintContext} → Into z other_variables other_variables (λ xs. each (sign s.Comma) (map name_tokens xs))
unfolding StatementGrammar.all_statements
others_into = into_equal_if (λ xs. each (sign s.Comma) (map name_tokens xs)) (λ u x l. subst Begins (sym (l.made ∙ l.right.made)) refl) (after_sign s.Comma (into_seq apart into_name next_names_into (λ x y. refl)))

declaration_into : {z : PrintContext} → Into z declaration_rest declaration_rest named_rest_tokens
unfolding StatementGrammar.all_statements
declaration_into = into_or (into_seq named_rest_tokens (into_word w.Condition) (into_perhaps (word w.For) state_tokens for_state_into (λ x. refl)) (λ x y. refl))
    (into_or (into_seq named_rest_tokens others_into default_into (λ x y. before2 (each (sign s.Comma) (map name_tokens x)) (type_tokens y.0) (perhaps (word w.Default) (option_map expr_tokens y.1))))
    (into_seq named_rest_tokens data_type_into (into_perhaps (word w.Default) expr_tokens (after_word w.Default source_into) (λ x. refl)) (λ x y. refl)))

cursor_query_into : {z : PrintContext} → Into z cursor_query cursor_query (λ p. word w.For ++ (ordered_query_tokens p.0 ++ perhaps (word w.For) (option_map updatability_tokens p.1)))
unfolding StatementGrammar.all_statements
cursor_query_into = after_word w.For (into_seq (λ p. ordered_query_tokens p.0 ++ perhaps (word w.For) (option_map updatability_tokens p.1)) ordered_into (into_perhaps (word w.For) updatability_tokens updatability_into (λ x. refl)) (λ x y. refl))

cursor_into : {z : PrintContext} → Into z cursor_rest cursor_rest named_rest_tokens
unfolding StatementGrammar.all_statements
cursor_into = into_seq named_rest_tokens (before_word w.Cursor insensitive_into) cursor_query_into (λ x y. before3 (insensitive_tokens x ++ word w.Cursor) (word w.For) (ordered_query_tokens y.0) (perhaps (word w.For) (option_map updatability_tokens y.1)))

-- ---- after DECLARE

abbrev named_tokens : NamedRest × Body → Spelling
named_tokens p = named_rest_tokens p.0 ++ (sign s.Semicolon ++ body_tokens p.1)

declared_cursor_into : {z : PrintContext} → Into z declared_cursor declared_cursor named_tokens
unfolding StatementGrammar.all_statements
declared_cursor_into = into_seq named_tokens cursor_into (into_next (λ b. sign s.Semicolon ++ body_tokens b) (says_sign s.Semicolon) (λ a y h. refl)) (λ x y. refl)

declared_variables_into : {z : PrintContext} → Into z declared_variables declared_variables named_tokens
unfolding StatementGrammar.all_statements
declared_variables_into = into_seq named_tokens declaration_into (into_next (λ b. sign s.Semicolon ++ body_tokens b) (says_sign s.Semicolon) (λ a y h. refl)) (λ x y. refl)

abbrev declare_tokens : Declared × Body → Spelling
declare_tokens p = declared_tokens p.0 ++ sign s.Semicolon ++ body_tokens p.1

declared_handler_into : {z : PrintContext} → Into z declared_handler declared_handler declare_tokens
unfolding StatementGrammar.all_statements
declared_handler_into = into_seq declare_tokens (into_level declared_tokens says_handler (λ a y. ap (λ ts. ts ++ handler_parts_tokens y) (handler_equal a.value)))
    (into_next (λ b. sign s.Semicolon ++ body_tokens b) (says_sign s.Semicolon) (λ a y h. refl)) (λ x y. before2 (declared_tokens x) (sign s.Semicolon) (body_tokens y))

named_equal : (name : Identifier) (p : NamedRest × Body) → name_tokens name ++ named_tokens p ≡ declare_tokens (Named name p.0, p.1)
named_equal name p = before2 (name_tokens name ++ named_rest_tokens p.0) (sign s.Semicolon) (body_tokens p.1)

pub declare_into : {z : PrintContext} (phase : Phase) → Into z (declare_rest phase) (declare_rest phase) declare_tokens
unfolding StatementGrammar.all_statements
declare_into Declarations = into_or declared_handler_into (into_seq declare_tokens into_name (into_or declared_cursor_into declared_variables_into) named_equal)
declare_into Cursors = into_or declared_handler_into (into_seq declare_tokens into_name declared_cursor_into named_equal)
declare_into Handlers = declared_handler_into

-- ---- blocks

variables_left : (n o k e d c h b : Spelling) → word w.Declare ++ ((n ++ (o ++ k ++ e)) ++ sign s.Semicolon ++ (d ++ c ++ h ++ b ++ word w.End)) ≡ ((word w.Declare ++ (n ++ o) ++ k ++ e ++ sign s.Semicolon) ++ d) ++ c ++ h ++ b ++ word w.End
variables_left n o k e d c h b = grind (arith, append_assoc)

condition_left : (n f d c h b : Spelling) → word w.Declare ++ ((n ++ (word w.Condition ++ f)) ++ sign s.Semicolon ++ (d ++ c ++ h ++ b ++ word w.End)) ≡ ((word w.Declare ++ n ++ word w.Condition ++ f ++ sign s.Semicolon) ++ d) ++ c ++ h ++ b ++ word w.End
condition_left n f d c h b = grind (arith, append_assoc)

cursor_left : (n i q u c h b : Spelling) → word w.Declare ++ ((n ++ (i ++ word w.Cursor ++ word w.For ++ q ++ u)) ++ sign s.Semicolon ++ (c ++ h ++ b ++ word w.End))
    ≡ ((word w.Declare ++ n ++ i ++ word w.Cursor ++ word w.For ++ q ++ u ++ sign s.Semicolon) ++ c) ++ h ++ b ++ word w.End
cursor_left n i q u c h b = grind (arith, append_assoc)

handler_left : (x k v a h b : Spelling) → x ≡ word w.Declare ++ k ++ word w.Handler ++ word w.For ++ v ++ a → word w.Declare ++ ((k ++ (word w.Handler ++ word w.For ++ v ++ a)) ++ sign s.Semicolon ++ (h ++ b ++ word w.End))
    ≡ ((x ++ sign s.Semicolon) ++ h) ++ b ++ word w.End
handler_left x k v a h b e = grind (arith, append_assoc, e)

-- a cursor before a block that has no variables, and a handler before one that has no cursors either
cursor_equal : (place : Place) (name : Identifier) (insensitive : Bool) (query : _) (updatability : _) (b : Body) → Late Cursors b
    → word w.Declare ++ declare_tokens (Named name (Cursor insensitive query updatability), b) ≡ body_tokens (with_named place name (Cursor insensitive query updatability) b)
cursor_equal place name insensitive query updatability b h =
    subst (λ ds. word w.Declare ++ declare_tokens (Named name (Cursor insensitive query updatability), record b { declarations = ds }) ≡ body_tokens (with_named place name (Cursor insensitive query updatability) (record b { declarations = ds }))) (sym h)
    (cursor_left (name_tokens name) (insensitive_tokens insensitive) (ordered_query_tokens query) (perhaps (word w.For) (option_map updatability_tokens updatability)) (ended (map cursor_tokens b.cursors)) (ended (map handler_tokens b.handlers)) (ended (map statement_tokens b.statements)))

handler_first : (place : Place) (kind : At HandlerKind) (p : HandlerParts) (b : Body) → Late Handlers b → word w.Declare ++ declare_tokens (Handled kind p, b) ≡ body_tokens (with_declared place (Handled kind p) b)
handler_first place kind p b h =
    subst (λ ds. word w.Declare ++ declare_tokens (Handled kind p, record b { declarations = ds }) ≡ body_tokens (with_declared place (Handled kind p) (record b { declarations = ds }))) (sym h.0)
    (subst (λ cs. word w.Declare ++ declare_tokens (Handled kind p, record b { declarations = []; cursors = cs }) ≡ body_tokens (with_declared place (Handled kind p) (record b { declarations = []; cursors = cs }))) (sym h.1)
    (handler_left _ (handler_kind_tokens kind.value) (handled_tokens p.values) (statement_tokens p.action) (ended (map handler_tokens b.handlers)) (ended (map statement_tokens b.statements))
    (handler_rolled (record { place = place; «at» = kind.place; kind = kind.value; values = p.values; action = p.action }))))

named_first : (place : Place) (name : Identifier) (x : NamedRest) (b : Body) → MayPrecede x b → word w.Declare ++ declare_tokens (Named name x, b) ≡ body_tokens (with_named place name x b)
named_first place name (Variables others kind default) b h = variables_left (name_tokens name) (each (sign s.Comma) (map name_tokens others)) (type_tokens kind) (perhaps (word w.Default) (option_map expr_tokens default))
    (ended (map declaration_tokens b.declarations)) (ended (map cursor_tokens b.cursors)) (ended (map handler_tokens b.handlers)) (ended (map statement_tokens b.statements))
named_first place name (Condition state) b h = condition_left (name_tokens name) (perhaps (word w.For) (option_map state_tokens state)) (ended (map declaration_tokens b.declarations)) (ended (map cursor_tokens b.cursors)) (ended (map handler_tokens b.handlers)) (ended (map statement_tokens b.statements))
named_first place name (Cursor insensitive query updatability) b h = cursor_equal place name insensitive query updatability b h

declared_equal : (phase : Phase) (place : Place) (x : Declared) (b : Body) → Ordered phase x b → word w.Declare ++ declare_tokens (x, b) ≡ body_tokens (with_declared place x b)
declared_equal Declarations place (Handled kind p) b h = handler_first place kind p b h
declared_equal Cursors place (Handled kind p) b h = handler_first place kind p b h
declared_equal Handlers place (Handled kind p) b h = handler_first place kind p b h
declared_equal Declarations place (Named name x) b h = named_first place name x b h
declared_equal Cursors place (Named name x) b h = named_first place name x b (only_precedes x b h)
declared_equal Handlers place (Named name x) b h = absurd h

pub body_into : {z : PrintContext} (phase : Phase) → Into z (body_rest phase) (body_rest phase) body_tokens
unfolding StatementGrammar.all_statements
body_into phase = into_or (into_next body_tokens (says_word w.Declare) (λ a y h. declared_equal phase a y.0 y.1 h)) (into_image body_tokens (before_word w.End ended_statements_into) (λ x. refl))

pub begin_into : {z : PrintContext} → Into z begin_rest begin_rest (part_tokens BeginRest)
unfolding StatementGrammar.all_statements
begin_into = into_seq (part_tokens BeginRest) atomic_into (body_into Declarations) (λ x y. refl)
