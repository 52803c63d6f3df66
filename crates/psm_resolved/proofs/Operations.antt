-- What operations make of the operands that they take, and lines that are written for them.
use Rattle.std.proofs.Common.{◌≡◌, ℕ, ◌+◌, Bool, List, [], ◌∷◌, ◌++◌, length, drop, refl, ap, sym, subst, ◌∙◌, arith, Some, None, Result, Ok, Err, append_assoc, length-append}
use Rattle.std.specs.Prelude.{reverse}
use Rattle.std.proofs.lemmas.List.{reverse-reverse}
use Rattle.std.proofs.Math.Seq.{drop-append_seam}
use Rattle.psm_value.specs.declared.datum.Datum.{Datum}
use Rattle.psm_value.specs.declared.truth.Truth.{Truth as Answer}
use Rattle.psm_exprcode.specs.declared.op.Letter.{Letter}
use Rattle.psm_exprcode.specs.declared.op.Line.{Line}
use Rattle.psm_exprcode.specs.declared.op.Op.{Op}
use Rattle.psm_exprcode.specs.declared.operand.Operand.{Operand}
use Rattle.psm_exprcode.specs.declared.operand.Operand.TheVariants.{Value, Truth}
use Rattle.psm_exprcode.specs.Applied.{Applied, with_value, with_truth, applied}
use Rattle.psm_exprcode.specs.Applied as taking
use Rattle.psm_exprcode.specs.Evaluated.{Outcome}
use Rattle.psm_resolved.specs.Blocks.{Moved, Move, put, Block}
use Rattle.psm_resolved.specs.Open.{then_move}
use Rattle.psm_resolved.specs.Outcomes.{valued, decided, on_value, on_truth, of_one, of_two, of_three, of_truth, of_truths}
use Rattle.psm_resolved.specs.Written.{Written, with_op, Adds}
use Rattle.psm_resolved.proofs.Lines.{fall_through, Rule, line_block, follows, same_move}

-- ---- what operations make of operands, the last one first

abbrev pub move_one : (Datum → Outcome) → List Operand → Moved
move_one f [] = None
move_one f (x ∷ os) = put (on_value f x) os

abbrev pub move_two : (Datum → Datum → Outcome) → List Operand → Moved
move_two f [] = None
move_two f (y ∷ []) = None
move_two f (y ∷ x ∷ os) = put (on_value (λ a. on_value (f a) y) x) os

abbrev pub move_three : (Datum → Datum → Datum → Outcome) → List Operand → Moved
move_three f [] = None
move_three f (z ∷ []) = None
move_three f (z ∷ y ∷ []) = None
move_three f (z ∷ y ∷ x ∷ os) = put (on_value (λ a. on_value (λ b. on_value (f a b) z) y) x) os

abbrev pub move_truth : (Answer → Answer) → List Operand → Moved
move_truth f [] = None
move_truth f (x ∷ os) = put (on_truth (λ t. decided (Ok (f t))) x) os

abbrev pub move_truths : (Answer → Answer → Answer) → List Operand → Moved
move_truths f [] = None
move_truths f (y ∷ []) = None
move_truths f (y ∷ x ∷ os) = put (on_truth (λ t. on_truth (λ u. decided (Ok (f t u))) y) x) os

pub value_fall_through : (os : List Operand) (r : Result Datum (List ℕ)) → with_value os r ≡ fall_through (put (valued r) os)
value_fall_through os (Ok d) = refl
value_fall_through os (Err state) = refl

pub truth_fall_through : (os : List Operand) (r : Result Answer (List ℕ)) → with_truth os r ≡ fall_through (put (decided r) os)
truth_fall_through os (Ok t) = refl
truth_fall_through os (Err state) = refl

pub one_fall_through : (g : Datum → List Operand → Applied) (f : Datum → Outcome) → ((a : Datum) (os : List Operand) → g a os ≡ fall_through (put (f a) os)) → (os : List Operand) → taking.on_value g os ≡ fall_through (move_one f os)
one_fall_through g f h [] = refl
one_fall_through g f h (Value a ∷ os) = h a os
one_fall_through g f h (Truth t ∷ os) = refl

pub two_fall_through : (g : Datum → Datum → List Operand → Applied) (f : Datum → Datum → Outcome) → ((a b : Datum) (os : List Operand) → g a b os ≡ fall_through (put (f a b) os)) → (os : List Operand)
    → taking.on_two g os ≡ fall_through (move_two f os)
two_fall_through g f h [] = refl
two_fall_through g f h (Value b ∷ []) = refl
two_fall_through g f h (Truth u ∷ []) = refl
two_fall_through g f h (Value b ∷ Value a ∷ os) = h a b os
two_fall_through g f h (Value b ∷ Truth t ∷ os) = refl
two_fall_through g f h (Truth u ∷ Value a ∷ os) = refl
two_fall_through g f h (Truth u ∷ Truth t ∷ os) = refl

pub three_fall_through : (g : Datum → Datum → Datum → List Operand → Applied) (f : Datum → Datum → Datum → Outcome) → ((a b c : Datum) (os : List Operand) → g a b c os ≡ fall_through (put (f a b c) os)) → (os : List Operand)
    → taking.on_three g os ≡ fall_through (move_three f os)
three_fall_through g f h [] = refl
three_fall_through g f h (Value c ∷ []) = refl
three_fall_through g f h (Truth v ∷ []) = refl
three_fall_through g f h (Value c ∷ Value b ∷ []) = refl
three_fall_through g f h (Value c ∷ Truth u ∷ []) = refl
three_fall_through g f h (Truth v ∷ Value b ∷ []) = refl
three_fall_through g f h (Truth v ∷ Truth u ∷ []) = refl
three_fall_through g f h (Value c ∷ Value b ∷ Value a ∷ os) = h a b c os
three_fall_through g f h (Value c ∷ Value b ∷ Truth t ∷ os) = refl
three_fall_through g f h (Value c ∷ Truth u ∷ Value a ∷ os) = refl
three_fall_through g f h (Value c ∷ Truth u ∷ Truth t ∷ os) = refl
three_fall_through g f h (Truth v ∷ Value b ∷ Value a ∷ os) = refl
three_fall_through g f h (Truth v ∷ Value b ∷ Truth t ∷ os) = refl
three_fall_through g f h (Truth v ∷ Truth u ∷ Value a ∷ os) = refl
three_fall_through g f h (Truth v ∷ Truth u ∷ Truth t ∷ os) = refl

pub one_truth_fall_through : (f : Answer → Answer) (os : List Operand) → taking.on_truth (λ t below. with_truth below (Ok (f t))) os ≡ fall_through (move_truth f os)
one_truth_fall_through f [] = refl
one_truth_fall_through f (Value a ∷ os) = refl
one_truth_fall_through f (Truth t ∷ os) = refl

pub two_truths_fall_through : (f : Answer → Answer → Answer) (os : List Operand) → taking.combines f os ≡ fall_through (move_truths f os)
two_truths_fall_through f [] = refl
two_truths_fall_through f (Value b ∷ []) = refl
two_truths_fall_through f (Truth u ∷ []) = refl
two_truths_fall_through f (Value b ∷ Value a ∷ os) = refl
two_truths_fall_through f (Value b ∷ Truth t ∷ os) = refl
two_truths_fall_through f (Truth u ∷ Value a ∷ os) = refl
two_truths_fall_through f (Truth u ∷ Truth t ∷ os) = refl

-- ---- operands that are put, and then an operation on them

pub one_moved : (f : Datum → Outcome) (a : Outcome) (os : List Operand) → then_move (put a os) (move_one f) ≡ put (of_one f a) os
one_moved f None os = refl
one_moved f (Some (Err state)) os = refl
one_moved f (Some (Ok x)) os = refl

pub truth_moved : (f : Answer → Answer) (a : Outcome) (os : List Operand) → then_move (put a os) (move_truth f) ≡ put (of_truth f a) os
truth_moved f None os = refl
truth_moved f (Some (Err state)) os = refl
truth_moved f (Some (Ok x)) os = refl

pub two_moved : (f : Datum → Datum → Outcome) (a b : Outcome) (os : List Operand) → then_move (then_move (put a os) (put b)) (move_two f) ≡ put (of_two f a b) os
two_moved f None b os = refl
two_moved f (Some (Err state)) b os = refl
two_moved f (Some (Ok x)) None os = refl
two_moved f (Some (Ok x)) (Some (Err state)) os = refl
two_moved f (Some (Ok x)) (Some (Ok y)) os = refl

pub truths_moved : (f : Answer → Answer → Answer) (a b : Outcome) (os : List Operand) → then_move (then_move (put a os) (put b)) (move_truths f) ≡ put (of_truths f a b) os
truths_moved f None b os = refl
truths_moved f (Some (Err state)) b os = refl
truths_moved f (Some (Ok x)) None os = refl
truths_moved f (Some (Ok x)) (Some (Err state)) os = refl
truths_moved f (Some (Ok x)) (Some (Ok y)) os = refl

pub three_moved : (f : Datum → Datum → Datum → Outcome) (a b c : Outcome) (os : List Operand) → then_move (then_move (then_move (put a os) (put b)) (put c)) (move_three f) ≡ put (of_three f a b c) os
three_moved f None b c os = refl
three_moved f (Some (Err state)) b c os = refl
three_moved f (Some (Ok x)) None c os = refl
three_moved f (Some (Ok x)) (Some (Err state)) c os = refl
three_moved f (Some (Ok x)) (Some (Ok y)) None os = refl
three_moved f (Some (Ok x)) (Some (Ok y)) (Some (Err state)) os = refl
three_moved f (Some (Ok x)) (Some (Ok y)) (Some (Ok z)) os = refl

-- ---- lines that are written

pub adds_same : (may : Op → Letter → Bool) (ks : List Letter) (f g : Move) (old new : Written) → ((row vars : List Datum) (os : List Operand) → f row vars os ≡ g row vars os) → Adds may ks f old new
    → Adds may ks g old new
adds_same may ks f g old new h a = record {
  lines = a.lines;
  added = a.added;
  letters = a.letters;
  block = same_move may old.stack (ks ++ old.stack) (length old.lines) (length new.lines) a.lines f g h a.block;
}

pub adds_more : (may : Op → Letter → Bool) (ks ls : List Letter) (f g : Move) (old between new : Written) → Adds may ks f old between → Adds may ls g between new
    → Adds may (ls ++ ks) (λ row vars os. then_move (f row vars os) (g row vars)) old new
adds_more may ks ls f g old between new a b =
    let S : List Letter → Type 0 = λ s. Block may s (ls ++ s) (length between.lines) (length new.lines) b.lines g in
    let T : List Letter → Type 0 = λ t. Block may (ks ++ old.stack) t (length between.lines) (length new.lines) b.lines g in
    let second : Block may (ks ++ old.stack) ((ls ++ ks) ++ old.stack) (length between.lines) (length new.lines) b.lines g =
    subst T (sym (append_assoc ls ks old.stack)) (subst S a.letters b.block) in
    record {
      lines = a.lines ++ b.lines;
      added = b.added ∙ ap (λ k. k ++ b.lines) a.added ∙ append_assoc old.lines a.lines b.lines;
      letters = b.letters ∙ ap (λ s. ls ++ s) a.letters ∙ sym (append_assoc ls ks old.stack);
      block = follows may old.stack (ks ++ old.stack) ((ls ++ ks) ++ old.stack) (length old.lines) (length between.lines) (length new.lines) a.lines b.lines f g a.block second;
    }

-- an operation that finds its operands among those that are there
pub op_adds : (may : Op → Letter → Bool) (takes rest : List Letter) (n : ℕ) (k : Letter) (o : Op) (move : Move) (w : Written) → Rule may o takes (Some (k ∷ [])) None → w.stack ≡ takes ++ rest → n ≡ length takes
    → ((row vars : List Datum) (os : List Operand) → applied o os row vars ≡ fall_through (move row vars os))
    → Block may w.stack (k ∷ rest) (length w.lines) (length (with_op w o n k).lines) (record { stack = reverse w.stack; op = o } ∷ []) move
op_adds may takes rest n k o move w r e m h =
    let l : Line = record { stack = reverse w.stack; op = o } in
    line_block may w.stack takes (k ∷ []) rest (length w.lines) (length (w.lines ++ l ∷ [])) l move r (reverse-reverse w.stack) e (omega (arith, length-append w.lines (l ∷ []))) h

dropped : (takes rest s : List Letter) (n : ℕ) → s ≡ takes ++ rest → n ≡ length takes → drop n s ≡ rest
dropped takes rest s n e m = ap (λ i. drop i s) m ∙ ap (drop (length takes)) e ∙ drop-append_seam takes rest

-- operands are put, and then an operation takes all of them
pub adds_op : (may : Op → Letter → Bool) (takes : List Letter) (n : ℕ) (k : Letter) (o : Op) (f g : Move) (old between : Written) → Rule may o takes (Some (k ∷ [])) None → n ≡ length takes
    → ((row vars : List Datum) (os : List Operand) → applied o os row vars ≡ fall_through (g row vars os)) → Adds may takes f old between
    → Adds may (k ∷ []) (λ row vars os. then_move (f row vars os) (g row vars)) old (with_op between o n k)
adds_op may takes n k o f g old between r m h a =
    let l : Line = record { stack = reverse between.stack; op = o } in
    let last : Block may between.stack (k ∷ old.stack) (length between.lines) (length (between.lines ++ l ∷ [])) (l ∷ []) g = op_adds may takes old.stack n k o g between r a.letters m h in
    let S : List Letter → Type 0 = λ s. Block may s (k ∷ old.stack) (length between.lines) (length (between.lines ++ l ∷ [])) (l ∷ []) g in
    record {
      lines = a.lines ++ l ∷ [];
      added = ap (λ x. x ++ l ∷ []) a.added ∙ append_assoc old.lines a.lines (l ∷ []);
      letters = ap (λ s. k ∷ s) (dropped takes old.stack between.stack n a.letters m);
      block = follows may old.stack (takes ++ old.stack) (k ∷ old.stack) (length old.lines) (length between.lines) (length (between.lines ++ l ∷ [])) a.lines (l ∷ []) f g a.block (subst S a.letters last);
    }

-- an operation that takes none
pub adds_leaf : (may : Op → Letter → Bool) (k : Letter) (o : Op) (g : Move) (old : Written) → Rule may o [] (Some (k ∷ [])) None
    → ((row vars : List Datum) (os : List Operand) → applied o os row vars ≡ fall_through (g row vars os)) → Adds may (k ∷ []) g old (with_op old o 0 k)
adds_leaf may k o g old r h = record {
  lines = record { stack = reverse old.stack; op = o } ∷ [];
  added = refl;
  letters = refl;
  block = op_adds may [] old.stack 0 k o g old r refl refl h;
}
