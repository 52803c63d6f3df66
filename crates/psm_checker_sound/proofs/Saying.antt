-- What is claimed of what stands after a token of its own, and how what is claimed of a part of the grammar follows from what is
-- claimed of its parts.
use Rattle.std.proofs.Common.{◌≡◌, ℕ, List, [], ◌∷◌, ◌++◌, Option, Some, None, sym, ap, ◌∙◌, subst, inl, inr}
use Rattle.std.specs.Prelude.{IsTrue}
use Rattle.std.proofs.lemmas.List.Folds.{list_all-append}
use Rattle.psm_token.specs.declared.token.Placed.{Placed}
use Rattle.psm_grammar.specs.Language.{Words, Lang, Test, Many}
use Rattle.psm_grammar.specs.Grammar.{lang, level, next, nothing, seq, or, ahead, many, image}
use Rattle.psm_grammar.specs.Forms.{optional, after_token, before_token}
use Rattle.psm_scope.proofs.Lists.{both}
use Rattle.psm_tree.specs.Parts.{Part, Enclosed, Arguments, ExistsRest, CaseRest, CastRest, CoalesceRest, NullIfRest, FunctionRest, PositionRest, SubstringRest, TrimRest, BeginRest, LoopRest, WhileRest, RepeatRest, ForRest, IfRest, CaseStatementRest, HandlerRest, BodyRest, DeclareRest, Body, Branches, NamedRest, Variables, Condition, Cursor, Declared, Named, Handled, V}
use Rattle.psm_tree.specs.ExprGrammar.{Gram, within_parens}
use Rattle.psm_tree.specs.ExprValues as values
use Rattle.psm_checker_sound.specs.Stands.{are_small, is_small, select_stands}
use Rattle.psm_checker_sound.proofs.StandingForms.{AllSourced, CasesStood, InsideStood, OptionStood, Stood, ThreeStood}
use Rattle.psm_checker_sound.specs.Simples.{Sourced}
use Rattle.psm_typing.specs.TypingContext.{Each}
use Rattle.psm_rules.specs.StatementFaults.{several}
use Rattle.psm_checker_sound.specs.StatementsStand.{AllStand, BranchesStand, CursorStands, DeclarationStands, DefaultStands, HandlersStand, HeadStands, StatementStands}

-- ---- what is claimed

-- the declarations and the statements of a block
pub record BodyStands (b : Body) : Type 0 where
  pub declarations : Each DeclarationStands b.declarations
  pub cursors : Each CursorStands b.cursors
  pub handlers : HandlersStand b.handlers
  pub statements : AllStand b.statements

abbrev pub ChoiceStands : Branches → Type 0
ChoiceStands b = BranchesStand (several b.branches) × AllStand b.otherwise

-- a declaration after its first name
abbrev pub NamedStands : NamedRest → Type 0
NamedStands (Variables others kind default) = DefaultStands default
NamedStands (Condition state) = Unit {0}
NamedStands (Cursor insensitive query updatability) = IsTrue (select_stands query.query)

abbrev pub DeclaredStands : Declared → Type 0
DeclaredStands (Named name rest) = NamedStands rest
DeclaredStands (Handled kind p) = StatementStands p.action

-- what stands after a token of its own
abbrev pub PartStands : (n : Part) → V n → Type 0
PartStands Enclosed x = InsideStood x
PartStands Arguments xs = AllSourced xs
PartStands ExistsRest query = IsTrue (select_stands query)
PartStands CaseRest cases = CasesStood cases
PartStands CastRest p = Sourced p.0
PartStands CoalesceRest xs = AllSourced (several xs)
PartStands NullIfRest p = Stood p.0 × Stood p.1
PartStands FunctionRest x = Stood x
PartStands PositionRest p = Stood p.0 × Stood p.1
PartStands SubstringRest p = ThreeStood p
PartStands TrimRest p = Stood p.1
PartStands BeginRest p = BodyStands p.1
PartStands LoopRest xs = AllStand (several xs)
PartStands WhileRest p = Stood p.0 × AllStand (several p.1)
PartStands RepeatRest p = AllStand (several p.0) × Stood p.1
PartStands ForRest p = HeadStands p.head × AllStand (several p.statements)
PartStands IfRest b = ChoiceStands b
PartStands CaseStatementRest p = OptionStood p.0 × ChoiceStands p.1
PartStands HandlerRest p = StatementStands p.action
PartStands (BodyRest phase) b = BodyStands b
PartStands (DeclareRest phase) p = DeclaredStands p.0 × BodyStands p.1

-- ---- what the words of a part say, where each number among them is small

-- all that is said after a token of its own is as claimed
pub record Stand (L : (n : Part) → Lang Placed (V n)) : Type 0 where
  pub by : (n : Part) (w : Words Placed) (x : V n) → IsTrue (are_small w) → L n w x → PartStands n x

-- all that the words of a part say is so, where the parts one level deeper and those at the same level stand
pub record Says {X : Type 0} (Q : X → Type 0) (g : Gram X) : Type 1 where
  pub says : (inner same : (n : Part) → Lang Placed (V n)) → Stand inner → Stand same → (d : ℕ) (w : Words Placed) (x : X) → IsTrue (are_small w) → lang inner same d g w x → Q x

split_small : (w u v : Words Placed) → w ≡ u ++ v → IsTrue (are_small w) → IsTrue (are_small u) × IsTrue (are_small v)
split_small w u v is h = both (are_small u) (are_small v) (sym (list_all-append (λ t. is_small t.0.token) u v) ∙ sym (ap are_small is) ∙ h)

pub any : {X : Type 0} {Q : X → Type 0} {g : Gram X} → ((x : X) → Q x) → Says Q g
any k = record { says = λ inner same i s d w x small l. k x }

-- where nothing is claimed
pub anything : {X : Type 0} {g : Gram X} → Says (λ x. Unit {0}) g
anything = any (λ x. tt)

pub says_seq : {X Y Z : Type 0} {f : X → Y → Z} {p : Gram X} {q : Gram Y} {A : X → Type 0} {B : Y → Type 0} {Q : Z → Type 0} → Says A p → Says B q → ((x : X) (y : Y) → A x → B y → Q (f x y)) → Says Q (seq f p q)
says_seq {Q} a b k = record {
  says = λ inner same i s d w x small l. let parts = split_small w l.front l.back l.whole small in
      subst Q (sym l.made) (k l.one l.two (a.says inner same i s d l.front l.one parts.0 l.left) (b.says inner same i s d l.back l.two parts.1 l.right));
}

pub says_or : {X : Type 0} {p q : Gram X} {Q : X → Type 0} → Says Q p → Says Q q → Says Q (or p q)
says_or {p} {q} {Q} a b = record { says = λ inner same i s d w x small l. elim l as (λ _. Q x) [ inl l ↦ a.says inner same i s d w x small l | inr l ↦ b.says inner same i s d w x small l ] }

pub says_image : {X Y : Type 0} {f : X → Y} {p : Gram X} {A : X → Type 0} {Q : Y → Type 0} → Says A p → ((x : X) → A x → Q (f x)) → Says Q (image f p)
says_image {Q} a k = record { says = λ inner same i s d w x small l. subst Q (sym l.made) (k l.one (a.says inner same i s d w l.one small l.left)) }

pub says_nothing : {X : Type 0} {y : X} {Q : X → Type 0} → Q y → Says Q (nothing y)
says_nothing {Q} h = record { says = λ inner same i s d w x small l. subst Q (sym l.made) h }

-- each of many
each : {X : Type 0} {Q : X → Type 0} (L : Lang Placed X) → ((w : Words Placed) (x : X) → IsTrue (are_small w) → L w x → Q x) → (w : Words Placed) (xs : List X) → IsTrue (are_small w) → Many L w xs → Each Q xs
each L k w [] small l = tt
each L k w (x ∷ xs) small l = let parts = split_small w l.0 l.1 l.2 small in (k l.0 x parts.0 l.3, each L k l.1 xs parts.1 l.4)

pub says_each : {X : Type 0} {p : Gram X} {Q : X → Type 0} → Says Q p → Says (Each Q) (many p)
says_each {p} a = record { says = λ inner same i s d w xs small l. each (lang inner same d p) (λ v x. a.says inner same i s d v x) w xs small l }

pub says_weaker : {X : Type 0} {g : Gram X} {A B : X → Type 0} → Says A g → ((x : X) → A x → B x) → Says B g
says_weaker a k = record { says = λ inner same i s d w x small l. k x (a.says inner same i s d w x small l) }

pub says_after : {A X : Type 0} {test : Test Placed A} {p : Gram X} {Q : X → Type 0} → Says Q p → Says Q (after_token test p)
says_after a = says_seq anything a (λ x y h k. k)

pub says_before : {A X : Type 0} {test : Test Placed A} {p : Gram X} {Q : X → Type 0} → Says Q p → Says Q (before_token p test)
says_before a = says_seq a anything (λ x y h k. h)

pub says_within : {X : Type 0} {p : Gram X} {Q : X → Type 0} → Says Q p → Says Q (within_parens p)
says_within a = says_after (says_before a)

pub says_ahead : {X : Type 0} {ones twos : List ℕ} {p q : Gram X} {Q : X → Type 0} → Says Q p → Says Q q → Says Q (ahead ones twos p q)
says_ahead {p} {q} {Q} a b = record { says = λ inner same i s d w x small l. elim l as (λ _. Q x) [ inl l ↦ a.says inner same i s d w x small l | inr l ↦ b.says inner same i s d w x small l ] }

-- what stands after a token that opens a level, and after one that doesn't
pub says_level : {A Z : Type 0} {n : Part} {test : Test Placed A} {f : A → V n → Z} {Q : Z → Type 0} → ((a : A) (y : V n) → PartStands n y → Q (f a y)) → Says Q (level n test f)
says_level {n} {Q} k = record {
  says = λ inner same i s d w x small l. let parts = split_small w l.front l.back l.whole small in subst Q (sym l.made) (k l.one l.two (i.by n l.back l.two parts.1 l.right));
}

pub says_next : {A Z : Type 0} {n : Part} {test : Test Placed A} {f : A → V n → Z} {Q : Z → Type 0} → ((a : A) (y : V n) → PartStands n y → Q (f a y)) → Says Q (next n test f)
says_next {n} {Q} k = record {
  says = λ inner same i s d w x small l. let parts = split_small w l.front l.back l.whole small in subst Q (sym l.made) (k l.one l.two (s.by n l.back l.two parts.1 l.right));
}

pub says_optional : {X : Type 0} {p : Gram X} {Q : Option X → Type 0} → Says (λ x. Q (Some x)) p → Q None → Says Q (optional p)
says_optional a h = says_or (says_image a (λ x k. k)) (says_nothing h)

pub says_several : {X : Type 0} {p q : Gram X} {Q : X → Type 0} → Says Q p → Says Q q → Says (λ s. Each Q (several s)) (seq values.several p (many q))
says_several a b = says_seq a (says_each b) (λ first rest h k. (h, k))
