-- The rest of a block declares what its phase lets it declare, and nothing else.
use Rattle.std.proofs.Common.{inl, inr, ℕ, zero, suc, List, refl, sym, subst}
use Rattle.psm_terms.specs.declared.routines.HandlerKind.{HandlerKind}
use Rattle.psm_token.specs.declared.place.Place.{Place}
use Rattle.psm_token.specs.declared.token.Placed.{Placed}
use Rattle.psm_grammar.specs.Language.{Words, Lang}
use Rattle.psm_grammar.specs.Grammar.{lang, nested}
use Rattle.psm_token.specs.Kinds.{kind}
use Rattle.psm_tree.specs.Tests.{At}
use Rattle.psm_tree.specs.Parts.{Phase, Declarations, Cursors, Handlers, BodyRest, DeclareRest, NamedRest, Variables, Condition, Cursor, Declared, Named, Handled, HandlerParts, Body, Part, V}
use Rattle.psm_tree.specs.Productions.{productions}
use Rattle.psm_tree.specs.StatementValues.{undeclared, with_declared}
use Rattle.psm_tree.specs.StatementGrammar
use Rattle.psm_tree.specs.StatementGrammar.{declaration_rest, body_rest, declared_handler, declared_cursor, declared_variables, declare_rest}
use Rattle.psm_tree.specs.declared.name.Identifier.{Identifier}
use Rattle.psm_tree.specs.declared.statement.Statement.{Statement}
use Rattle.psm_print.proofs.PartTokens.{Late, MayPrecede, OnlyCursor, Ordered, Shaped}

late_undeclared : (phase : Phase) (xs : List Statement) → Late phase (undeclared xs)
late_undeclared Declarations xs = tt
late_undeclared Cursors xs = refl
late_undeclared Handlers xs = (refl, refl)

cursor_late : (place : Place) (name : Identifier) (x : NamedRest) (b : Body) → OnlyCursor x b → Late Cursors (with_declared place (Named name x) b)
cursor_late place name (Cursor insensitive query updatability) b h = h
cursor_late place name (Variables others kind default) b h = absurd h
cursor_late place name (Condition state) b h = absurd h

late_declared : (phase : Phase) (place : Place) (x : Declared) (b : Body) → Ordered phase x b → Late phase (with_declared place x b)
late_declared Declarations place x b h = tt
late_declared Cursors place (Handled kind p) b h = h.0
late_declared Cursors place (Named name x) b h = cursor_late place name x b h
late_declared Handlers place (Handled kind p) b h = h
late_declared Handlers place (Named name x) b h = absurd h

handled_ordered : (phase : Phase) (k : At HandlerKind) (p : HandlerParts) (b : Body) → Late Handlers b → Ordered phase (Handled k p) b
handled_ordered Declarations k p b h = h
handled_ordered Cursors k p b h = h
handled_ordered Handlers k p b h = h

pub only_precedes : (x : NamedRest) (b : Body) → OnlyCursor x b → MayPrecede x b
only_precedes (Cursor insensitive query updatability) b h = h
only_precedes (Variables others kind default) b h = tt
only_precedes (Condition state) b h = tt

module _ (inner same : (n : Part) → Lang Placed (V n)) (d : ℕ) (known : (n : Part) (w : Words Placed) (x : V n) → same n w x → Shaped n x) where
  body_shaped : (phase : Phase) (w : Words Placed) (x : Body) → lang inner same d (body_rest phase) w x → Late phase x
  unfolding StatementGrammar.all_statements
  body_shaped phase w x (inl l) = subst (Late phase) (sym l.made) (late_declared phase l.one l.two.0 l.two.1 (known (DeclareRest phase) l.back l.two l.right))
  body_shaped phase w x (inr l) = subst (Late phase) (sym l.made) (late_undeclared phase l.one)

  handler_shaped : (phase : Phase) (w : Words Placed) (x : Declared × Body) → lang inner same d declared_handler w x → Ordered phase x.0 x.1
  unfolding StatementGrammar.all_statements
  handler_shaped phase w x l =
      let h : Late Handlers l.two = subst (Late Handlers) (sym l.right.made) (known (BodyRest Handlers) l.right.back l.right.two l.right.right) in
      let o : Ordered phase l.one l.two = subst (λ y. Ordered phase y l.two) (sym l.left.made) (handled_ordered phase l.left.one l.left.two l.two h) in
      subst (λ p. Ordered phase p.0 p.1) (sym l.made) o

  cursor_shaped : (w : Words Placed) (x : NamedRest × Body) → lang inner same d declared_cursor w x → OnlyCursor x.0 x.1
  unfolding StatementGrammar.all_statements
  cursor_shaped w x l =
      let h : Late Cursors l.two = subst (Late Cursors) (sym l.right.made) (known (BodyRest Cursors) l.right.back l.right.two l.right.right) in
      let o : OnlyCursor l.one l.two = subst (λ y. OnlyCursor y l.two) (sym l.left.made) h in
      subst (λ (p : NamedRest × Body). OnlyCursor p.0 p.1) (sym l.made) o

  variables_come : (w : Words Placed) (x : NamedRest) (b : Body) → lang inner same d declaration_rest w x → MayPrecede x b
  unfolding StatementGrammar.all_statements
  variables_come w x b (inl l) = subst (λ y. MayPrecede y b) (sym l.made) tt
  variables_come w x b (inr (inl l)) = subst (λ y. MayPrecede y b) (sym l.made) tt
  variables_come w x b (inr (inr l)) = subst (λ y. MayPrecede y b) (sym l.made) tt

  variables_shaped : (w : Words Placed) (x : NamedRest × Body) → lang inner same d declared_variables w x → MayPrecede x.0 x.1
  unfolding StatementGrammar.all_statements
  variables_shaped w x l = subst (λ (p : NamedRest × Body). MayPrecede p.0 p.1) (sym l.made) (variables_come l.front l.one l.two l.left)

  declare_shaped : (phase : Phase) (w : Words Placed) (x : Declared × Body) → lang inner same d (declare_rest phase) w x → Ordered phase x.0 x.1
  unfolding StatementGrammar.all_statements
  declare_shaped Declarations w x (inl l) = handler_shaped Declarations w x l
  declare_shaped Declarations w x (inr l) = subst (λ (p : Declared × Body). Ordered Declarations p.0 p.1) (sym l.made)
      (elim l.right [ inl m ↦ only_precedes l.two.0 l.two.1 (cursor_shaped l.back l.two m) | inr m ↦ variables_shaped l.back l.two m ])
  declare_shaped Cursors w x (inl l) = handler_shaped Cursors w x l
  declare_shaped Cursors w x (inr l) = subst (λ (p : Declared × Body). Ordered Cursors p.0 p.1) (sym l.made) (cursor_shaped l.back l.two l.right)
  declare_shaped Handlers w x l = handler_shaped Handlers w x l

  part_shaped : (n : Part) (w : Words Placed) (x : V n) → lang inner same d (productions n) w x → Shaped n x
  unfolding StatementGrammar.all_statements
  part_shaped (BodyRest phase) w x l = body_shaped phase w x l
  part_shaped (DeclareRest phase) w x l = declare_shaped phase w x l
  part_shaped _ w x l = tt

pub shaped : (h d : ℕ) (n : Part) (w : Words Placed) (x : V n) → nested productions h d n w x → Shaped n x
shaped zero d n w x l = absurd l
shaped (suc h) d n w x l = part_shaped (nested productions h (suc d)) (nested productions h d) d (shaped h d) n w x l
