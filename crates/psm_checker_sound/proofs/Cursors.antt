-- The cursors of a resolved statement are numbered in their order, however they are gathered.
use Rattle.std.proofs.Common.{◌≡◌, ℕ, suc, ◌+◌, List, [], ◌∷◌, ◌++◌, length, map, Some, refl, ap, sym, ◌∙◌, subst, arith, append_assoc, length-append}
use Rattle.std.specs.Prelude.{slice_get}
use Rattle.std.specs.List.{concat}
use Rattle.psm_resolved.specs.declared.statement.ResolvedBlock.{ResolvedBlock, roll-ResolvedBlock}
use Rattle.psm_resolved.specs.declared.statement.ResolvedBranch.{ResolvedBranch, roll-ResolvedBranch}
use Rattle.psm_resolved.specs.declared.statement.ResolvedCursor.{ResolvedCursor}
use Rattle.psm_resolved.specs.declared.statement.ResolvedDeclaration.{ResolvedDeclaration}
use Rattle.psm_resolved.specs.declared.statement.ResolvedFor.{ResolvedFor}
use Rattle.psm_resolved.specs.declared.statement.ResolvedHandler.{ResolvedHandler, roll-ResolvedHandler}
use Rattle.psm_resolved.specs.declared.statement.ResolvedStatement.{ResolvedStatement, roll-ResolvedStatement}
use Rattle.psm_resolved.specs.declared.statement.ResolvedStatement.TheOpen.{ResolvedStatement-F, ResolvedBlock-F, ResolvedBranch-F, ResolvedHandler-F}
use Rattle.psm_resolved.specs.declared.statement.ResolvedStatement.TheOpen as layers
use Rattle.psm_resolved.specs.declared.statement.ResolvedStatement.TheFolds.{ind-ResolvedStatement, map-ResolvedStatement, map-ResolvedBlock, map-ResolvedBranch, map-ResolvedHandler, fold-roll-ResolvedStatement, fold-roll-ResolvedBlock, fold-roll-ResolvedBranch, fold-roll-ResolvedHandler}
use Rattle.psm_resolve.specs.OwnNumbers as own
use Rattle.psm_resolve.specs.OwnNumbers.{Numbers, numbers_of, numbers_of_block, numbers_of_branch, numbers_of_handler}
use Rattle.psm_codegen.specs.Standing as standing
use Rattle.psm_codegen.specs.Standing.{CountsUp, cursors_of}
use Rattle.psm_codegen.proofs.Numbering.{cursors_of_block, cursors_of_branch, cursors_of_handler, in_layer}
use Rattle.psm_typing.specs.TypingContext.{Each}
use Rattle.psm_checker_sound.specs.Numbered as all
use Rattle.psm_checker_sound.specs.Numbered.{Cursors, cursors_in, cursors_in_block, cursors_in_branch, cursors_in_handler}
use Rattle.psm_checker_sound.proofs.Flags.{at-end}

abbrev pub numbers : Cursors → List ℕ
numbers xs = map (λ x. x.number) xs

numbers-append : (xs ys : Cursors) → numbers xs ++ numbers ys ≡ numbers (xs ++ ys)
numbers-append [] ys = refl
numbers-append (x ∷ xs) ys = ap (λ ns. x.number ∷ ns) (numbers-append xs ys)

-- ---- what is claimed: a part's cursors are numbered alike by those that number declarations, and by those for whom code stands

record Alike (a : Numbers) (ns : List ℕ) (xs : Cursors) : Type 0 where
  declared : a.cursors ≡ numbers xs
  stood : ns ≡ numbers xs

abbrev OfStatement : ResolvedStatement → Type 0
OfStatement s = Alike (numbers_of s) (cursors_of s) (cursors_in s)

abbrev OfBlock : ResolvedBlock → Type 0
OfBlock b = Alike (numbers_of_block b) (cursors_of_block b) (cursors_in_block b)

abbrev OfBranch : ResolvedBranch → Type 0
OfBranch b = Alike (numbers_of_branch b) (cursors_of_branch b) (cursors_in_branch b)

abbrev OfHandler : ResolvedHandler → Type 0
OfHandler h = Alike (numbers_of_handler h) (cursors_of_handler h) (cursors_in_handler h)

-- parts with what they prove
abbrev S : Type 0
S = (s : ResolvedStatement) × OfStatement s

abbrev B : Type 0
B = (b : ResolvedBlock) × OfBlock b

abbrev R : Type 0
R = (b : ResolvedBranch) × OfBranch b

abbrev H : Type 0
H = (h : ResolvedHandler) × OfHandler h

-- ---- parts together

alike-none : Alike own.no_numbers [] []
alike-none = record { declared = refl; stood = refl }

alike-beside : {a b : Numbers} {ns ms : List ℕ} {xs ys : Cursors} → Alike a ns xs → Alike b ms ys → Alike (own.beside a b) (ns ++ ms) (xs ++ ys)
alike-beside {a = a} {b = b} {ns = ns} {ms = ms} {xs = xs} {ys = ys} h k = record {
  declared = ap (λ l. l ++ b.cursors) h.declared ∙ ap (λ l. numbers xs ++ l) k.declared ∙ numbers-append xs ys;
  stood = ap (λ l. l ++ ms) h.stood ∙ ap (λ l. numbers xs ++ l) k.stood ∙ numbers-append xs ys;
}

all-alike : {X : Type 0} (f : X → Numbers) (g : X → List ℕ) (h : X → Cursors) (ys : List ((x : X) × Alike (f x) (g x) (h x)))
    → Alike (own.together (map f (map (λ y. y.0) ys))) (concat (map g (map (λ y. y.0) ys))) (all.together (map h (map (λ y. y.0) ys)))
all-alike f g h [] = alike-none
all-alike f g h (y ∷ ys) = alike-beside y.1 (all-alike f g h ys)

variables-none : (xs : List ResolvedDeclaration) {a : Numbers} {ns : List ℕ} {cs : Cursors} → Alike a ns cs → Alike (own.beside (own.variables_in xs) a) ns cs
variables-none xs h = record { declared = h.declared; stood = h.stood }

own-alike : (xs : Cursors) → Alike (own.cursors_in xs) (standing.numbers_of xs) xs
own-alike xs = record { declared = refl; stood = refl }

-- ---- the layers

abbrev bare : ResolvedStatement-F S B R H → ResolvedStatement-F ResolvedStatement ResolvedBlock ResolvedBranch ResolvedHandler
bare y = map-ResolvedStatement S B R H ResolvedStatement ResolvedBlock ResolvedBranch ResolvedHandler (λ e. e.0) (λ e. e.0) (λ e. e.0) (λ e. e.0) y

abbrev Layer : Type 0
Layer = ResolvedStatement-F ResolvedStatement ResolvedBlock ResolvedBranch ResolvedHandler

abbrev declared_in : Layer → Numbers
declared_in l = own.numbers_layer (map-ResolvedStatement ResolvedStatement ResolvedBlock ResolvedBranch ResolvedHandler Numbers Numbers Numbers Numbers numbers_of numbers_of_block numbers_of_branch numbers_of_handler l)

abbrev gathered_in : Layer → Cursors
gathered_in l = all.cursors_layer (map-ResolvedStatement ResolvedStatement ResolvedBlock ResolvedBranch ResolvedHandler Cursors Cursors Cursors Cursors cursors_in cursors_in_block cursors_in_branch cursors_in_handler l)

statements-alike : (ys : List S) → Alike (own.together (map numbers_of (map (λ y. y.0) ys))) (concat (map cursors_of (map (λ y. y.0) ys))) (all.together (map cursors_in (map (λ y. y.0) ys)))
statements-alike ys = all-alike numbers_of cursors_of cursors_in ys

branches-alike : (ys : List R) → Alike (own.together (map numbers_of_branch (map (λ y. y.0) ys))) (concat (map cursors_of_branch (map (λ y. y.0) ys))) (all.together (map cursors_in_branch (map (λ y. y.0) ys)))
branches-alike ys = all-alike numbers_of_branch cursors_of_branch cursors_in_branch ys

head-alike : (head : ResolvedFor) {a : Numbers} {ns : List ℕ} {xs : Cursors} → Alike a ns xs → Alike (own.beside (own.numbers_of_head head) a) (head.cursor.number ∷ ns) (head.cursor ∷ xs)
head-alike head h = record { declared = ap (λ l. head.cursor.number ∷ l) h.declared; stood = ap (λ l. head.cursor.number ∷ l) h.stood }

layer-alike : (y : ResolvedStatement-F S B R H) → Alike (declared_in (bare y)) (in_layer (bare y)) (gathered_in (bare y))
layer-alike (layers.Compound level block) = block.1
layer-alike (layers.Loop level statements) = statements-alike statements
layer-alike (layers.While level test statements) = statements-alike statements
layer-alike (layers.Repeat level statements until) = statements-alike statements
layer-alike (layers.For level head statements) = head-alike head (statements-alike statements)
layer-alike (layers.If branches otherwise) = alike-beside (branches-alike branches) (statements-alike otherwise)
layer-alike (layers.Case operand branches otherwise) = alike-beside (branches-alike branches) (statements-alike otherwise)
layer-alike (layers.Simple simple) = alike-none

as-equal : {a b : Numbers} {ns ms : List ℕ} {xs ys : Cursors} → b ≡ a → ms ≡ ns → ys ≡ xs → Alike a ns xs → Alike b ms ys
as-equal p q r h = record { declared = ap (λ a. a.cursors) p ∙ h.declared ∙ ap numbers (sym r); stood = q ∙ h.stood ∙ ap numbers (sym r) }

statement-step : (x : Layer) (y : ResolvedStatement-F S B R H) → bare y ≡ x → OfStatement (roll-ResolvedStatement x)
statement-step x y is = subst (λ z. OfStatement (roll-ResolvedStatement z)) is (as-equal
    (fold-roll-ResolvedStatement Numbers Numbers Numbers Numbers own.numbers_layer own.block_numbers_layer own.branch_numbers_layer own.handler_numbers_layer (bare y))
    (fold-roll-ResolvedStatement (List ℕ) (List ℕ) (List ℕ) (List ℕ) standing.cursors_layer standing.block_cursors_layer standing.branch_cursors_layer standing.handler_cursors_layer (bare y))
    (fold-roll-ResolvedStatement Cursors Cursors Cursors Cursors all.cursors_layer all.block_cursors_layer all.branch_cursors_layer all.handler_cursors_layer (bare y))
    (layer-alike y))

abbrev bare_block : ResolvedBlock-F S B R H → ResolvedBlock-F ResolvedStatement ResolvedBlock ResolvedBranch ResolvedHandler
bare_block y = map-ResolvedBlock S B R H ResolvedStatement ResolvedBlock ResolvedBranch ResolvedHandler (λ e. e.0) (λ e. e.0) (λ e. e.0) (λ e. e.0) y

block-step : (x : ResolvedBlock-F ResolvedStatement ResolvedBlock ResolvedBranch ResolvedHandler) (y : ResolvedBlock-F S B R H) → bare_block y ≡ x → OfBlock (roll-ResolvedBlock x)
block-step x y is = subst (λ z. OfBlock (roll-ResolvedBlock z)) is (as-equal
    (fold-roll-ResolvedBlock Numbers Numbers Numbers Numbers own.numbers_layer own.block_numbers_layer own.branch_numbers_layer own.handler_numbers_layer (bare_block y))
    (fold-roll-ResolvedBlock (List ℕ) (List ℕ) (List ℕ) (List ℕ) standing.cursors_layer standing.block_cursors_layer standing.branch_cursors_layer standing.handler_cursors_layer (bare_block y))
    (fold-roll-ResolvedBlock Cursors Cursors Cursors Cursors all.cursors_layer all.block_cursors_layer all.branch_cursors_layer all.handler_cursors_layer (bare_block y))
    (variables-none y.declarations (alike-beside (own-alike y.cursors) (alike-beside (all-alike numbers_of_handler cursors_of_handler cursors_in_handler y.handlers) (statements-alike y.statements)))))

abbrev bare_branch : ResolvedBranch-F S B R H → ResolvedBranch-F ResolvedStatement ResolvedBlock ResolvedBranch ResolvedHandler
bare_branch y = map-ResolvedBranch S B R H ResolvedStatement ResolvedBlock ResolvedBranch ResolvedHandler (λ e. e.0) (λ e. e.0) (λ e. e.0) (λ e. e.0) y

branch-step : (x : ResolvedBranch-F ResolvedStatement ResolvedBlock ResolvedBranch ResolvedHandler) (y : ResolvedBranch-F S B R H) → bare_branch y ≡ x → OfBranch (roll-ResolvedBranch x)
branch-step x y is = subst (λ z. OfBranch (roll-ResolvedBranch z)) is (as-equal
    (fold-roll-ResolvedBranch Numbers Numbers Numbers Numbers own.numbers_layer own.block_numbers_layer own.branch_numbers_layer own.handler_numbers_layer (bare_branch y))
    (fold-roll-ResolvedBranch (List ℕ) (List ℕ) (List ℕ) (List ℕ) standing.cursors_layer standing.block_cursors_layer standing.branch_cursors_layer standing.handler_cursors_layer (bare_branch y))
    (fold-roll-ResolvedBranch Cursors Cursors Cursors Cursors all.cursors_layer all.block_cursors_layer all.branch_cursors_layer all.handler_cursors_layer (bare_branch y))
    (statements-alike y.statements))

abbrev bare_handler : ResolvedHandler-F S B R H → ResolvedHandler-F ResolvedStatement ResolvedBlock ResolvedBranch ResolvedHandler
bare_handler y = map-ResolvedHandler S B R H ResolvedStatement ResolvedBlock ResolvedBranch ResolvedHandler (λ e. e.0) (λ e. e.0) (λ e. e.0) (λ e. e.0) y

handler-step : (x : ResolvedHandler-F ResolvedStatement ResolvedBlock ResolvedBranch ResolvedHandler) (y : ResolvedHandler-F S B R H) → bare_handler y ≡ x → OfHandler (roll-ResolvedHandler x)
handler-step x y is = subst (λ z. OfHandler (roll-ResolvedHandler z)) is (as-equal
    (fold-roll-ResolvedHandler Numbers Numbers Numbers Numbers own.numbers_layer own.block_numbers_layer own.branch_numbers_layer own.handler_numbers_layer (bare_handler y))
    (fold-roll-ResolvedHandler (List ℕ) (List ℕ) (List ℕ) (List ℕ) standing.cursors_layer standing.block_cursors_layer standing.branch_cursors_layer standing.handler_cursors_layer (bare_handler y))
    (fold-roll-ResolvedHandler Cursors Cursors Cursors Cursors all.cursors_layer all.block_cursors_layer all.branch_cursors_layer all.handler_cursors_layer (bare_handler y))
    y.action.1)

alike : (s : ResolvedStatement) → OfStatement s
alike = ind-ResolvedStatement OfStatement OfBlock OfBranch OfHandler statement-step block-step branch-step handler-step

-- ---- cursors that count up

counts-up : (from : ℕ) (ns : List ℕ) (to : ℕ) → own.CountsUp from ns to → CountsUp from ns to
counts-up from [] to h = h
counts-up from (n ∷ ns) to h = (h.0, counts-up (suc from) ns to h.1)

-- the cursors of a body that its declarations number are numbered for the code too
pub cursors-count : (s : ResolvedStatement) (to : ℕ) → own.CountsUp 0 (numbers_of s).cursors to → CountsUp 0 (cursors_of s) to
cursors-count s to h = subst (λ ns. CountsUp 0 ns to) ((alike s).declared ∙ sym (alike s).stood) (counts-up 0 (numbers_of s).cursors to h)

pub cursors-numbered : (s : ResolvedStatement) (to : ℕ) → own.CountsUp 0 (numbers_of s).cursors to → CountsUp 0 (numbers (cursors_in s)) to
cursors-numbered s to h = subst (λ ns. CountsUp 0 ns to) (alike s).declared (counts-up 0 (numbers_of s).cursors to h)

-- one thing for each cursor stands at its number
pub each-numbered : {A : Type 0} (f : ResolvedCursor → A) (before : List A) (xs : Cursors) (from to : ℕ) → from ≡ length before → CountsUp from (numbers xs) to
    → Each (λ x. slice_get (before ++ map f xs) x.number ≡ Some (f x)) xs
each-numbered f before [] from to long h = tt
each-numbered f before (x ∷ xs) from to long h = (
  at-end before (map f xs) (f x) x.number (h.0 ∙ long),
  subst (λ l. Each (λ y. slice_get l y.number ≡ Some (f y)) xs) (append_assoc before (f x ∷ []) (map f xs))
      (each-numbered f (before ++ f x ∷ []) xs (suc from) to (longer (length before) from long ∙ sym (length-append before (f x ∷ []))) h.1),
)
  where
    longer : (n k : ℕ) → k ≡ n → suc k ≡ n + 1
    longer n k h = omega (arith, h)

-- as many things as cursors
pub as-many : {A : Type 0} (f : ResolvedCursor → A) (xs : Cursors) (from to : ℕ) → CountsUp from (numbers xs) to → to ≡ from + length (map f xs)
as-many f [] from to h = omega (arith, h)
as-many f (x ∷ xs) from to h = omega (arith, as-many f xs (suc from) to h.1)
