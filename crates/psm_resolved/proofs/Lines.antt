-- Blocks of lines: one line, and one block after another.
use Rattle.std.proofs.Common.{◌≡◌, ℕ, suc, ◌+◌, Bool, true, false, ◌&&◌, ◌||◌, List, [], ◌∷◌, ◌++◌, refl, ap, sym, subst, ◌∙◌, arith, Option, Some, None, Ok, Err, append_assoc, length-append, eq-eqb}
use Rattle.std.specs.Prelude.{reverse, if◌then◌else◌}
use Rattle.psm_value.specs.declared.datum.Datum.{Datum}
use Rattle.psm_exprcode.specs.declared.op.Letter.{Letter}
use Rattle.psm_exprcode.specs.declared.op.Letter.TheVariants.{N, T, B}
use Rattle.psm_exprcode.specs.declared.op.Line.{Line}
use Rattle.psm_exprcode.specs.declared.op.Op.{Op}
use Rattle.psm_exprcode.specs.declared.operand.Operand.{Operand}
use Rattle.psm_exprcode.specs.declared.operand.Next.{Next}
use Rattle.psm_exprcode.specs.declared.operand.Next.TheVariants.{FallThrough}
use Rattle.psm_exprcode.specs.Applied.{Applied, Went, Raised, Stuck, applied}
use Rattle.psm_exprcode.specs.Evaluated.{Outcome, line_after, goes_on, ran}
use Rattle.psm_exprcode.specs.Kinds.{is_letter, is_value, some_value, some_letter}
use Rattle.psm_exprcode.specs.Operations.{Effect, effect}
use Rattle.psm_exprcode.specs.WellFormed.{same_stack, left_of, is_bounded, lands, falls_through, branches, goes_on_with, leads, is_line, are_lines}
use Rattle.psm_exprcode.proofs.Standing.{both_true}
use Rattle.psm_exprcode.proofs.Stripping.{is_letter-self}
use Rattle.psm_resolved.specs.Blocks.{Moved, Move, after, Block}
use Rattle.psm_resolved.specs.Open.{then_move}

-- ---- what becomes of operands

-- an operation that goes on at the line that follows
abbrev pub fall_through : Moved → Applied
fall_through None = Stuck
fall_through (Some (Err state)) = Raised state
fall_through (Some (Ok os)) = Went FallThrough os

pub after_same : (m : Moved) (p q : List Operand → Outcome) → ((os : List Operand) → p os ≡ q os) → after m p ≡ after m q
after_same None p q h = refl
after_same (Some (Err state)) p q h = refl
after_same (Some (Ok os)) p q h = h os

pub after_then : (m : Moved) (g : List Operand → Moved) (q : List Operand → Outcome) → after m (λ os. after (g os) q) ≡ after (then_move m g) q
after_then None g q = refl
after_then (Some (Err state)) g q = refl
after_then (Some (Ok os)) g q = refl

goes_fall_through_after : (m : Moved) (go : Next → List Operand → Outcome) → goes_on (fall_through m) go ≡ after m (go FallThrough)
goes_fall_through_after None go = refl
goes_fall_through_after (Some (Err state)) go = refl
goes_fall_through_after (Some (Ok os)) go = refl

-- ---- tests of letters

or_first : (a b : Bool) → a ≡ true → (a || b) ≡ true
or_first a b h = ap (λ c. c || b) h

or_second : (a b : Bool) → b ≡ true → (a || b) ≡ true
or_second true b h = refl
or_second false b h = h

pub value_some : (test : Letter → Bool) (k : Letter) → is_value k ≡ true → test k ≡ true → some_value test ≡ true
value_some test N v h = or_first (test N) (test T) h
value_some test T v h = or_second (test N) (test T) h
value_some test B v h = absurd (cc)

pub letter_some : (test : Letter → Bool) (k : Letter) → test k ≡ true → some_letter test ≡ true
letter_some test N h = or_first (test N) (test T || test B) h
letter_some test T h = or_second (test N) (test T || test B) (or_first (test T) (test B) h)
letter_some test B h = or_second (test N) (test T || test B) (or_second (test T) (test B) h)

pub same_stack-self : (s : List Letter) → same_stack s s ≡ true
same_stack-self [] = refl
same_stack-self (k ∷ s) = both_true (is_letter k k) (same_stack s s) (is_letter-self k) (same_stack-self s)

left_of-all : (a rest : List Letter) → left_of a (a ++ rest) ≡ Some rest
left_of-all [] rest = refl
left_of-all (k ∷ a) rest = ap (λ b. if b then left_of a (a ++ rest) else None) (is_letter-self k) ∙ left_of-all a rest

-- ---- one line

pub stated_here : (end : Letter) (l : Line) (more : List Line) (s : List Letter) → reverse l.stack ≡ s → lands end (l ∷ more) 0 s ≡ true
stated_here end l more s e = ap (same_stack s) e ∙ same_stack-self s

-- what the table says of an operation, for some letters in place of k and x
pub record Rule (may : Op → Letter → Bool) (o : Op) (takes : List Letter) (puts : Option (List Letter)) (branching : Option (ℕ × List Letter)) : Type 0 where
  pub kind : Letter
  pub other : Letter
  pub bounded : is_bounded o ≡ true
  pub is_kind : is_value kind ≡ true
  pub allowed : may o kind ≡ true
  pub takes_is : (effect o kind other).takes ≡ takes
  pub puts_is : (effect o kind other).fall_through ≡ puts
  pub branch_is : (effect o kind other).branching ≡ branching

pub line_right : (may : Op → Letter → Bool) (end : Letter) (pc : ℕ) (l : Line) (more : List Line) (takes rest : List Letter) (puts : Option (List Letter)) (branching : Option (ℕ × List Letter)) → Rule may l.op takes puts branching
    → reverse l.stack ≡ takes ++ rest → falls_through end puts rest more ≡ true → branches end pc branching rest more ≡ true → is_line may end pc l more ≡ true
line_right may end pc l more takes rest puts branching r e h g =
    let ef : Effect = effect l.op r.kind r.other in
    let taken : left_of ef.takes (reverse l.stack) ≡ Some rest = ap (λ t. left_of t (reverse l.stack)) r.takes_is ∙ ap (left_of takes) e ∙ left_of-all takes rest in
    let on : goes_on_with end pc ef (Some rest) more ≡ true =
    both_true (falls_through end ef.fall_through rest more) (branches end pc ef.branching rest more) (ap (λ p. falls_through end p rest more) r.puts_is ∙ h) (ap (λ p. branches end pc p rest more) r.branch_is ∙ g) in
    let ways : Letter → Letter → Bool = λ k x. leads end pc (effect l.op k x) (reverse l.stack) more in
    let way : ways r.kind r.other ≡ true = ap (λ u. goes_on_with end pc ef u more) taken ∙ on in
    let for_kind : Letter → Bool = λ k. may l.op k && some_letter (ways k) in
    both_true (is_bounded l.op) (some_value for_kind) r.bounded
    (value_some for_kind r.kind r.is_kind (both_true (may l.op r.kind) (some_letter (ways r.kind)) r.allowed (letter_some (ways r.kind) r.other way)))

pub ran_here : (row vars : List Datum) (pc : ℕ) (l : Line) (more : List Line) (os : List Operand)
    → ran row vars pc pc (l ∷ more) os ≡ goes_on (applied l.op os row vars) (λ next. ran row vars (suc pc) (line_after pc next) more)
ran_here row vars pc l more os =
    ap (λ b. if b then goes_on (applied l.op os row vars) (λ next. ran row vars (suc pc) (line_after pc next) more) else ran row vars (suc pc) pc more os) (eq-eqb pc pc refl)

-- an operation that never jumps
pub line_block : (may : Op → Letter → Bool) (s takes puts rest : List Letter) (pc next : ℕ) (l : Line) (move : Move) → Rule may l.op takes (Some puts) None → reverse l.stack ≡ s → s ≡ takes ++ rest → next ≡ suc pc
    → ((row vars : List Datum) (os : List Operand) → applied l.op os row vars ≡ fall_through (move row vars os)) → Block may s (puts ++ rest) pc next (l ∷ []) move
line_block may s takes puts rest pc next l move r e f n h =
    subst (λ i. Block may s (puts ++ rest) pc i (l ∷ []) move) (sym n) (record {
      size = omega arith;
      begins = λ end more g. stated_here end l more s e;
      right = λ end more g k. both_true (is_line may end pc l more) (are_lines may end (suc pc) more) (line_right may end pc l more takes rest (Some puts) None r (e ∙ f) g refl) k;
      runs = λ row vars more os. ran_here row vars pc l more os ∙ ap (λ a. goes_on a (λ i. ran row vars (suc pc) (line_after pc i) more)) (h row vars os)
          ∙ goes_fall_through_after (move row vars os) (λ i. ran row vars (suc pc) (line_after pc i) more);
    })

-- ---- blocks

pub follows : (may : Op → Letter → Bool) (s t u : List Letter) (a b c : ℕ) (ls ms : List Line) (f g : Move) → Block may s t a b ls f → Block may t u b c ms g
    → Block may s u a c (ls ++ ms) (λ row vars os. then_move (f row vars os) (g row vars))
follows may s t u a b c ls ms f g x y = record {
  size = omega (arith, x.size, y.size, length-append ls ms);
  begins = λ end more h. ap (λ k. lands end k 0 s) (append_assoc ls ms more) ∙ x.begins end (ms ++ more) (y.begins end more h);
  right = λ end more h k. ap (are_lines may end a) (append_assoc ls ms more) ∙ x.right end (ms ++ more) (y.begins end more h) (y.right end more h k);
  runs = λ row vars more os. ap (λ k. ran row vars a a k os) (append_assoc ls ms more) ∙ x.runs row vars (ms ++ more) os
      ∙ after_same (f row vars os) (ran row vars b b (ms ++ more)) (λ us. after (g row vars us) (ran row vars c c more)) (λ us. y.runs row vars more us)
      ∙ after_then (f row vars os) (g row vars) (ran row vars c c more);
}

-- a block whose operands become the same by another definition
pub same_move : (may : Op → Letter → Bool) (s t : List Letter) (a b : ℕ) (ls : List Line) (f g : Move) → ((row vars : List Datum) (os : List Operand) → f row vars os ≡ g row vars os) → Block may s t a b ls f
    → Block may s t a b ls g
same_move may s t a b ls f g h x = record {
  size = x.size;
  begins = x.begins;
  right = x.right;
  runs = λ row vars more os. x.runs row vars more os ∙ ap (λ m. after m (ran row vars b b more)) (h row vars os);
}
