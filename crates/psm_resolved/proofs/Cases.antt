-- The lines of CASE and COALESCE.
use Rattle.std.proofs.Common.{◌≡◌, ℕ, suc, ◌+◌, ◌<◌, Bool, true, false, ◌&&◌, List, [], ◌∷◌, ◌++◌, length, drop, get_or, refl, ap, sym, subst, ◌∙◌, arith, Option, Some, None, Result, Ok, Err, map, append_assoc, length-append}
use Rattle.std.specs.Prelude.{reverse, IfOk, if◌then◌else◌}
use Rattle.std.specs.List.{list_all}
use Rattle.std.specs.declared.alloc.AllocError.{AllocError}
use Rattle.std.proofs.lemmas.List.{reverse-reverse}
use Rattle.std.proofs.Math.Seq.{drop-cons}
use Rattle.psm_list.specs.Several.{Several}
use Rattle.psm_num.proofs.Literals.{and_first, and_second}
use Rattle.psm_value.specs.declared.datum.Datum.{Datum}
use Rattle.psm_value.specs.Truth.{is_certain}
use Rattle.psm_exprcode.specs.declared.op.Letter.{Letter}
use Rattle.psm_exprcode.specs.declared.op.Letter.TheVariants.{N, T, B}
use Rattle.psm_exprcode.specs.declared.op.Line.{Line}
use Rattle.psm_exprcode.specs.declared.op.Op.{Op}
use Rattle.psm_exprcode.specs.declared.op.Op.TheVariants as op
use Rattle.psm_exprcode.specs.declared.operand.Operand.{Operand}
use Rattle.psm_exprcode.specs.declared.operand.Operand.TheVariants.{Value, Truth}
use Rattle.psm_exprcode.specs.Applied.{with_value}
use Rattle.psm_exprcode.specs.Comparison.{is_null}
use Rattle.psm_exprcode.specs.Evaluated.{Outcome}
use Rattle.psm_exprcode.specs.Kinds.{is_value}
use Rattle.psm_exprcode.specs.Numbered.{with_op_at}
use Rattle.psm_exprcode.specs.Values.{rescaled}
use Rattle.psm_exprcode.specs.WellFormed.{is_of_kind}
use Rattle.psm_resolved.specs.declared.expr.ResolvedExpr.{ResolvedExpr}
use Rattle.psm_resolved.specs.declared.expr.ResolvedExpr.TheVariants as exprs
use Rattle.psm_resolved.specs.Blocks.{Moved, Move, put, Block}
use Rattle.psm_resolved.specs.Open.{Open, Pends, branch_move, then_move}
use Rattle.psm_resolved.specs.Outcomes.{valued, with_operand, on_truth, of_one, first_set, at_scale}
use Rattle.psm_resolved.specs.RowValue.{listed, row_value}
use Rattle.psm_resolved.specs.RowType.{RowType, goes_as, letter_at, is_scale, row_type_of}
use Rattle.psm_resolved.specs.Written.{Written, with_line, patched, Jumps, Adds, puts_value, puts_first, with_scale, Writes, WritesSource, WritesFirst, WritesOthers}
use Rattle.psm_resolved.proofs.Equations.{value-Coalesce, row_type-Coalesce}
use Rattle.psm_resolved.proofs.Forms.{Meaning, puts, where_true_inverted, relabel, one_adds, written_ok}
use Rattle.psm_resolved.proofs.Jumps.{set_move, open_branch, open_value}
use Rattle.psm_resolved.proofs.Operations.{value_fall_through, one_fall_through, adds_same}
use Rattle.psm_resolved.proofs.Pending.{pends_none, pends_more, pends_closed, replaced_here}

-- ---- moves that are the same everywhere

pub same_everywhere : (f g : Move) → ((row vars : List Datum) (os : List Operand) → f row vars os ≡ g row vars os) → f ≡ g
same_everywhere f g h = λ i row vars os. h row vars os i

-- ---- a value of a COALESCE, and the jump after it

set_moved : (a b : Outcome) (os : List Operand) → then_move (put a os) (set_move (put b)) ≡ put (of_one (λ d. if is_null d then b else valued (Ok d)) a) os
set_moved None b os = refl
set_moved (Some (Err state)) b os = refl
set_moved (Some (Ok (Truth t))) b os = refl
set_moved (Some (Ok (Value d))) b os = by (is_null d) where
  by : (c : Bool) → (if c then put b os else Some (Ok (Value d ∷ os))) ≡ put (if c then b else valued (Ok d)) os
  by true = refl
  by false = refl

pub letter_value : (scale : Option ℕ) → is_value (letter_at scale) ≡ true
letter_value None = refl
letter_value (Some s) = refl

-- the index of the jump, and the operands that there are after it
pub value_pends : (columns variables : List Letter) (k : Letter) (v : Meaning) (index : ℕ) (old between new : Written) → is_value k ≡ true → Adds (is_of_kind columns variables) (k ∷ []) (puts v) old between
    → Jumps (op.JumpUnlessNull 0) 1 index between new
    → Pends (is_of_kind columns variables) (k ∷ old.stack) op.JumpUnlessNull (λ h row vars os. then_move (put (v row vars) os) (set_move (h row vars))) (index ∷ []) old new
value_pends columns variables k v index old between new n a j =
    let M : Op → Letter → Bool = is_of_kind columns variables in
    let st : List Letter = reverse between.stack in
    let l : ℕ → Line = λ e. record { stack = st; op = op.JumpUnlessNull e } in
    let stated : reverse st ≡ k ∷ old.stack = reverse-reverse between.stack ∙ a.letters in
    let w : Written = with_line between (op.JumpUnlessNull 0) (drop 1 between.stack) in
    let base : Pends M (k ∷ old.stack) op.JumpUnlessNull (λ h row vars os. then_move (put (v row vars) os) (set_move (h row vars))) (index ∷ []) old w = record {
      lines = a.lines ++ l 0 ∷ [];
      filled = λ e. a.lines ++ l e ∷ [];
      added = ap (λ x. x ++ l 0 ∷ []) a.added ∙ append_assoc old.lines a.lines (l 0 ∷ []);
      letters = ap (drop 1) a.letters;
      as_many = λ e. length-append a.lines (l e ∷ []) ∙ sym (length-append a.lines (l 0 ∷ []));
      fills = λ e before more h.
          let counted : index ≡ length (before ++ a.lines) =
          j.0 ∙ ap length a.added ∙ length-append old.lines a.lines ∙ ap (λ i. i + length a.lines) (sym h) ∙ sym (length-append before a.lines) in
          ap (λ x. with_op_at (before ++ x) index (op.JumpUnlessNull e)) (append_assoc a.lines (l 0 ∷ []) more)
          ∙ ap (λ x. with_op_at x index (op.JumpUnlessNull e)) (sym (append_assoc before a.lines (l 0 ∷ more)))
          ∙ replaced_here (before ++ a.lines) more (l 0) index (op.JumpUnlessNull e) counted
          ∙ append_assoc before a.lines (l e ∷ more)
          ∙ ap (λ x. before ++ x) (sym (append_assoc a.lines (l e ∷ []) more));
      opens = open_value M k old.stack (length old.lines) (length between.lines) (length w.lines) a.lines l (puts v) n (λ q. refl) a.block
          (omega (arith, length-append between.lines (l 0 ∷ []))) (λ e. stated) (λ e. refl);
    } in
    subst (λ x. Pends M (k ∷ old.stack) op.JumpUnlessNull (λ h row vars os. then_move (put (v row vars) os) (set_move (h row vars))) (index ∷ []) old x) (sym j.1) base

-- the values of a COALESCE so far, the last of them without a jump after it, where some are left
pub record Awaits (columns variables : List Letter) (k : Letter) (a : ResolvedExpr) (all left : List ResolvedExpr) (indexes : List ℕ) (old new : Written) : Type 0 where
  pub last : ResolvedExpr
  pub move : Move → Move
  pub between : Written
  pub before : Pends (is_of_kind columns variables) (k ∷ old.stack) op.JumpUnlessNull move indexes old between
  pub here : Adds (is_of_kind columns variables) (k ∷ []) (puts_value last) between new
  pub same : (row vars : List Datum) (os : List Operand) → move (λ r v us. put (first_set (row_value r v last) (map (row_value r v) left)) us) row vars os ≡ put (first_set (row_value row vars a) (map (row_value row vars) all)) os

-- as long as all are of the letter
abbrev pub AwaitsAll : List Letter → List Letter → Letter → Several ResolvedExpr → List ResolvedExpr → List ℕ → Written → Written → Type 0
AwaitsAll columns variables k values left indexes old new =
    is_value k ≡ true → list_all (goes_as k) (map (row_type_of columns variables) (listed values)) ≡ true → Awaits columns variables k values.first values.rest left indexes old new × (list_all (goes_as k) (map (row_type_of columns variables) left) ≡ true)

-- the values after a first one so far, whichever it is
abbrev pub AwaitsOthers : List Letter → List Letter → Letter → List ResolvedExpr → List ResolvedExpr → List ℕ → Written → Written → Type 0
AwaitsOthers columns variables k rest left indexes old new =
    (first : ResolvedExpr) (begin : Written) → WritesSource columns variables k first begin old → AwaitsAll columns variables k (record { first = first; rest = rest }) left indexes begin new

pub awaits_first : (columns variables : List Letter) (k : Letter) (rest left : List ResolvedExpr) (indexes : List ℕ) (w : Written) → left ≡ rest → indexes ≡ [] → AwaitsOthers columns variables k rest left indexes w w
awaits_first columns variables k rest left indexes w p n first begin x =
    subst (λ ps. AwaitsAll columns variables k (record { first = first; rest = rest }) left ps begin w) (sym n) (subst (λ l. AwaitsAll columns variables k (record { first = first; rest = rest }) l [] begin w) (sym p) (λ v h.
    let f : RowType → Bool = goes_as k in (
      record {
        last = first;
        move = λ m. m;
        between = begin;
        before = pends_none (is_of_kind columns variables) (k ∷ begin.stack) op.JumpUnlessNull begin;
        here = x k (and_first (f (row_type_of columns variables first)) (list_all f (map (row_type_of columns variables) rest)) h);
        same = λ row vars os. refl;
      },
      and_second (f (row_type_of columns variables first)) (list_all f (map (row_type_of columns variables) rest)) h,
    )))

awaits_next : (columns variables : List Letter) (k : Letter) (values : Several ResolvedExpr) (b : ResolvedExpr) (left more : List ResolvedExpr) (indexes next : List ℕ) (index : ℕ) (w0 w1 w2 w3 : Written) → left ≡ b ∷ more
    → next ≡ indexes ++ index ∷ [] → AwaitsAll columns variables k values left indexes w0 w1 → Jumps (op.JumpUnlessNull 0) 1 index w1 w2 → WritesSource columns variables k b w2 w3
    → AwaitsAll columns variables k values more next w0 w3
awaits_next columns variables k values b left more indexes next index w0 w1 w2 w3 q n x j z =
    subst (λ ps. AwaitsAll columns variables k values more ps w0 w3) (sym n) (λ v h.
    let f : RowType → Bool = goes_as k in
    let s = subst (λ l. AwaitsAll columns variables k values l indexes w0 w1) q x v h in
    let r = s.0 in
    let tests : (f (row_type_of columns variables b) && list_all f (map (row_type_of columns variables) more)) ≡ true = s.1 in
    let one : Pends (is_of_kind columns variables) (k ∷ r.between.stack) op.JumpUnlessNull (λ m row vars os. then_move (put (row_value row vars r.last) os) (set_move (m row vars))) (index ∷ []) r.between w2 =
    value_pends columns variables k (λ row vars. row_value row vars r.last) index r.between w1 w2 v r.here j in
    let here : Pends (is_of_kind columns variables) (k ∷ w0.stack) op.JumpUnlessNull (λ m row vars os. then_move (put (row_value row vars r.last) os) (set_move (m row vars))) (index ∷ []) r.between w2 =
    subst (λ t. Pends (is_of_kind columns variables) (k ∷ t) op.JumpUnlessNull (λ m row vars os. then_move (put (row_value row vars r.last) os) (set_move (m row vars))) (index ∷ []) r.between w2) r.before.letters one in (
      record {
        last = b;
        move = λ m. r.move (λ row vars os. then_move (put (row_value row vars r.last) os) (set_move (m row vars)));
        between = w2;
        before = pends_more (is_of_kind columns variables) (k ∷ w0.stack) op.JumpUnlessNull r.move (λ m row vars os. then_move (put (row_value row vars r.last) os) (set_move (m row vars))) indexes (index ∷ []) w0 r.between w2 r.before here;
        here = z k (and_first (f (row_type_of columns variables b)) (list_all f (map (row_type_of columns variables) more)) tests);
        same = λ row vars os.
            ap (λ m. r.move m row vars os) (same_everywhere
            (λ rr vv us. then_move (put (row_value rr vv r.last) us) (set_move (put (first_set (row_value rr vv b) (map (row_value rr vv) more)))))
            (λ rr vv us. put (first_set (row_value rr vv r.last) (map (row_value rr vv) (b ∷ more))) us)
            (λ rr vv us. set_moved (row_value rr vv r.last) (first_set (row_value rr vv b) (map (row_value rr vv) more)) us)) ∙ r.same row vars os;
      },
      and_second (f (row_type_of columns variables b)) (list_all f (map (row_type_of columns variables) more)) tests,
    ))

pub others_next : (columns variables : List Letter) (k : Letter) (rest : List ResolvedExpr) (b : ResolvedExpr) (left more : List ResolvedExpr) (indexes next : List ℕ) (index : ℕ) (w0 w1 w2 w3 : Written) → left ≡ b ∷ more → next ≡ indexes ++ index ∷ []
    → AwaitsOthers columns variables k rest left indexes w0 w1 → Jumps (op.JumpUnlessNull 0) 1 index w1 w2 → WritesSource columns variables k b w2 w3 → AwaitsOthers columns variables k rest more next w0 w3
others_next columns variables k rest b left more indexes next index w0 w1 w2 w3 q n x j z first begin y =
    awaits_next columns variables k (record { first = first; rest = rest }) b left more indexes next index begin w1 w2 w3 q n (x first begin y) j z

awaits_none : (columns variables : List Letter) (k : Letter) (values : Several ResolvedExpr) (left : List ResolvedExpr) (jumps indexes : List ℕ) (w0 w1 w2 : Written) (r : Result (Unit {0}) AllocError) → left ≡ [] → jumps ≡ indexes
    → AwaitsAll columns variables k values left jumps w0 w1 → IfOk r (λ _. w2 ≡ record { lines = patched (op.JumpUnlessNull (length w1.lines)) indexes w1.lines; stack = w1.stack })
    → IfOk r (λ _. WritesFirst columns variables k values w0 w2)
awaits_none columns variables k values left jumps indexes w0 w1 w2 (Ok y) q n x c = λ v h.
    let s = subst (λ l. AwaitsAll columns variables k values l indexes w0 w1) q (subst (λ ps. AwaitsAll columns variables k values left ps w0 w1) n x) v h in
    let r = s.0 in
    adds_same (is_of_kind columns variables) (k ∷ []) (r.move (puts_value r.last)) (puts_first values) w0 w2 (λ row vars os. r.same row vars os)
    (pends_closed (is_of_kind columns variables) (k ∷ []) op.JumpUnlessNull r.move (puts_value r.last) indexes w0 r.between w1 w2 r.before r.here c)
awaits_none columns variables k values left jumps indexes w0 w1 w2 (Err y) q n x c = tt

pub others_end : (columns variables : List Letter) (k : Letter) (rest left : List ResolvedExpr) (jumps indexes : List ℕ) (w0 w1 w2 : Written) (r : Result (Unit {0}) AllocError) → left ≡ [] → jumps ≡ indexes
    → AwaitsOthers columns variables k rest left jumps w0 w1 → IfOk r (λ _. w2 ≡ record { lines = patched (op.JumpUnlessNull (length w1.lines)) indexes w1.lines; stack = w1.stack })
    → IfOk r (λ _. WritesOthers columns variables k rest w0 w2)
others_end columns variables k rest left jumps indexes w0 w1 w2 (Ok y) q n x c = λ first begin z.
    awaits_none columns variables k (record { first = first; rest = rest }) left jumps indexes begin w1 w2 (Ok y) q n (x first begin z) c
others_end columns variables k rest left jumps indexes w0 w1 w2 (Err y) q n x c = tt

-- ---- scales

pub scale_adds : (columns variables : List Letter) (scale : Option ℕ) (u v : Meaning) (w0 w1 : Written) → is_scale scale ≡ true → ((row vars : List Datum) → v row vars ≡ at_scale scale (u row vars))
    → Adds (is_of_kind columns variables) (letter_at scale ∷ []) (puts u) w0 w1 → Adds (is_of_kind columns variables) (letter_at scale ∷ []) (puts v) w0 (with_scale scale w1)
scale_adds columns variables None u v w0 w1 b e a = adds_same (is_of_kind columns variables) (T ∷ []) (puts u) (puts v) w0 w1 (λ row vars os. ap (λ x. put x os) (sym (e row vars))) a
scale_adds columns variables (Some s) u v w0 w1 b e a =
    one_adds (is_of_kind columns variables) N N (op.Rescale s) (λ d. valued (rescaled s d)) u v w0 w1
    (record { kind = N; other = N; bounded = b; is_kind = refl; allowed = refl; takes_is = refl; puts_is = refl; branch_is = refl })
    (λ row vars os. one_fall_through (λ d below. with_value below (rescaled s d)) (λ d. valued (rescaled s d)) (λ d below. value_fall_through below (rescaled s d)) os) e a

coalesce_first : (columns variables : List Letter) (e : ResolvedExpr) (values : Several ResolvedExpr) (scale : Option ℕ) (k : Letter) (w0 w1 w2 : Written) (r : Result (Unit {0}) AllocError) → e ≡ exprs.Coalesce values scale
    → k ≡ letter_at scale → WritesFirst columns variables k values w0 w1 → IfOk r (λ _. w2 ≡ with_scale scale w1) → IfOk r (λ _. Writes columns variables e w0 w2)
coalesce_first columns variables e values scale l w0 w1 w2 r q m x y = written_ok columns variables e w0 w2 (with_scale scale w1) r y (λ k h.
    let tests : Bool = list_all (goes_as (letter_at scale)) (map (row_type_of columns variables) (listed values)) in
    let s = where_true_inverted (row_type_of columns variables e) (tests && is_scale scale) (letter_at scale) k (ap (row_type_of columns variables) q ∙ row_type-Coalesce columns variables values scale) h in
    relabel (is_of_kind columns variables) (letter_at scale) k (puts_value e) w0 (with_scale scale w1) s.1
    (scale_adds columns variables scale (λ row vars. first_set (row_value row vars values.first) (map (row_value row vars) values.rest)) (λ row vars. row_value row vars e) w0 w1 (and_second tests (is_scale scale) s.0)
    (λ row vars. ap (row_value row vars) q ∙ value-Coalesce row vars values scale)
    (subst (λ i. WritesFirst columns variables i values w0 w1) m x (letter_value scale) (and_first tests (is_scale scale) s.0))))

pub coalesce_written : (columns variables : List Letter) (e a : ResolvedExpr) (rest : List ResolvedExpr) (values : Several ResolvedExpr) (scale : Option ℕ) (k : Letter) (w0 w1 w2 w3 : Written) (r : Result (Unit {0}) AllocError)
    → e ≡ exprs.Coalesce values scale → a ≡ values.first → rest ≡ values.rest → k ≡ letter_at scale → WritesSource columns variables k a w0 w1 → WritesOthers columns variables k rest w1 w2 → IfOk r (λ _. w3 ≡ with_scale scale w2)
    → IfOk r (λ _. Writes columns variables e w0 w3)
coalesce_written columns variables e a rest values scale k w0 w1 w2 w3 r q n p m x z y =
    coalesce_first columns variables e values scale k w0 w2 w3 r q m (subst (λ xs. WritesOthers columns variables k xs w1 w2) p z values.first w0 (subst (λ i. WritesSource columns variables k i w0 w1) n x)) y

pub left_item : {A : Type 0} (xs : List A) (i : ℕ) (b : A) → i < length xs → b ≡ get_or xs i b → drop i xs ≡ b ∷ drop (i + 1) xs
left_item xs i b h e =
    let more : suc i ≡ i + 1 = omega arith in
    drop-cons xs i b h ∙ ap (λ y. y ∷ drop (suc i) xs) (sym e) ∙ ap (λ k. b ∷ drop k xs) more

-- ---- branches of a CASE

-- what follows where no test is true need be known for those operands alone
pub branch_moved : (a v b : Outcome) (h : List Operand → Moved) (os : List Operand) → h os ≡ put b os → then_move (put a os) (branch_move (put v) h) ≡ put (with_operand a (on_truth (λ t. if is_certain t then v else b))) os
branch_moved None v b h os e = refl
branch_moved (Some (Err state)) v b h os e = refl
branch_moved (Some (Ok (Value d))) v b h os e = refl
branch_moved (Some (Ok (Truth t))) v b h os e = by (is_certain t) where
  by : (c : Bool) → (if c then put v os else h os) ≡ put (if c then v else b) os
  by true = refl
  by false = e

-- a test, a jump unless it is true, a result, and a jump to the end
pub branch_pends : (columns variables : List Letter) (k : Letter) (u v : Move) (p q : ℕ) (w0 w1 w2 w3 w4 w5 : Written) → Adds (is_of_kind columns variables) (B ∷ []) u w0 w1 → Jumps (op.JumpUnlessTrue 0) 1 p w1 w2
    → (res : Adds (is_of_kind columns variables) (k ∷ []) v w2 w3) → Jumps (op.Jump 0) 1 q w3 w4 → w5 ≡ record { lines = with_op_at w4.lines p (op.JumpUnlessTrue (length w4.lines)); stack = w4.stack }
    → Pends (is_of_kind columns variables) (k ∷ w0.stack) op.Jump (λ h row vars os. then_move (u row vars os) (branch_move (v row vars) (h row vars))) (q ∷ []) w0 w5
branch_pends columns variables k u v p q w0 w1 w2 w3 w4 w5 a i res j n =
    let M : Op → Letter → Bool = is_of_kind columns variables in
    let p4 : ℕ = length w4.lines in
    let test : List Line = a.lines in
    let no0 : Line = record { stack = reverse w1.stack; op = op.JumpUnlessTrue 0 } in
    let skip : Line = record { stack = reverse w1.stack; op = op.JumpUnlessTrue p4 } in
    let branching : ℕ → Line = λ e. record { stack = reverse w3.stack; op = op.Jump e } in
    let following : List Line = res.lines ++ branching 0 ∷ [] in
    let s1 : w2.stack ≡ w0.stack = ap (λ w. w.stack) i.1 ∙ ap (drop 1) a.letters in
    let s2 : w4.stack ≡ w0.stack = ap (λ w. w.stack) j.1 ∙ ap (drop 1) res.letters ∙ s1 in
    let l2 : w2.lines ≡ w1.lines ++ no0 ∷ [] = ap (λ w. w.lines) i.1 in
    let l4 : w4.lines ≡ w3.lines ++ branching 0 ∷ [] = ap (λ w. w.lines) j.1 in
    let l3 : w3.lines ≡ w1.lines ++ (no0 ∷ res.lines) = res.added ∙ ap (λ x. x ++ res.lines) l2 ∙ append_assoc w1.lines (no0 ∷ []) res.lines in
    let whole : w4.lines ≡ w1.lines ++ (no0 ∷ following) = l4 ∙ ap (λ x. x ++ branching 0 ∷ []) l3 ∙ append_assoc w1.lines (no0 ∷ res.lines) (branching 0 ∷ []) in
    let set : with_op_at w4.lines p (op.JumpUnlessTrue p4) ≡ w1.lines ++ (skip ∷ following) =
    ap (λ x. with_op_at x p (op.JumpUnlessTrue p4)) whole ∙ replaced_here w1.lines following no0 p (op.JumpUnlessTrue p4) i.0 in
    let n1 : length w1.lines ≡ length w0.lines + length test = ap length a.added ∙ length-append w0.lines test in
    let n2 : length w2.lines ≡ suc (length w1.lines) = ap length l2 ∙ omega (arith, length-append w1.lines (no0 ∷ [])) in
    let n3 : length w3.lines ≡ length w2.lines + length res.lines = ap length res.added ∙ length-append w2.lines res.lines in
    let n4 : length w4.lines ≡ suc (length w3.lines) = ap length l4 ∙ omega (arith, length-append w3.lines (branching 0 ∷ [])) in
    let n5 : length (with_op_at w4.lines p (op.JumpUnlessTrue p4)) ≡ p4 = ap length set ∙ length-append w1.lines (skip ∷ following) ∙ sym (length-append w1.lines (no0 ∷ following)) ∙ sym (ap length whole) in
    let stated : reverse (reverse w1.stack) ≡ B ∷ w0.stack = reverse-reverse w1.stack ∙ a.letters in
    let under : reverse (reverse w3.stack) ≡ k ∷ w0.stack = reverse-reverse w3.stack ∙ res.letters ∙ ap (λ s. k ∷ s) s1 in
    let S : List Letter → Type 0 = λ s. Block M s (k ∷ s) (length w2.lines) (length w3.lines) res.lines v in
    let L : ℕ → Type 0 = λ e. Open M w0.stack (k ∷ w0.stack) (length w0.lines) e (λ e. test ++ skip ∷ (res.lines ++ branching e ∷ [])) (λ h row vars os. then_move (u row vars os) (branch_move (v row vars) (h row vars))) in
    let base : Pends M (k ∷ w0.stack) op.Jump (λ h row vars os. then_move (u row vars os) (branch_move (v row vars) (h row vars))) (q ∷ []) w0 (record { lines = with_op_at w4.lines p (op.JumpUnlessTrue p4); stack = w4.stack }) = record {
      lines = test ++ (skip ∷ following);
      filled = λ e. test ++ skip ∷ (res.lines ++ branching e ∷ []);
      added = set ∙ ap (λ x. x ++ (skip ∷ following)) a.added ∙ append_assoc w0.lines test (skip ∷ following);
      letters = s2;
      as_many = λ e. length-append test (skip ∷ (res.lines ++ branching e ∷ [])) ∙ ap (λ m. length test + suc m) (length-append res.lines (branching e ∷ []) ∙ sym (length-append res.lines (branching 0 ∷ []))) ∙ sym (length-append test (skip ∷ following));
      fills = λ e before more h.
          let split : (f : ℕ) → before ++ ((test ++ skip ∷ (res.lines ++ branching f ∷ [])) ++ more) ≡ (before ++ (test ++ skip ∷ res.lines)) ++ (branching f ∷ more) =
          λ f. ap (λ x. before ++ x) (ap (λ x. x ++ more) (sym (append_assoc test (skip ∷ res.lines) (branching f ∷ []))) ∙ append_assoc (test ++ skip ∷ res.lines) (branching f ∷ []) more) ∙ sym (append_assoc before (test ++ skip ∷ res.lines) (branching f ∷ more)) in
          let counted : q ≡ length (before ++ (test ++ skip ∷ res.lines)) = omega (arith, j.0, n3, n2, n1, h, length-append before (test ++ skip ∷ res.lines), length-append test (skip ∷ res.lines)) in
          ap (λ x. with_op_at x q (op.Jump e)) (split 0) ∙ replaced_here (before ++ (test ++ skip ∷ res.lines)) more (branching 0) q (op.Jump e) counted ∙ sym (split e);
      opens = subst L (sym n5) (open_branch M w0.stack (k ∷ w0.stack) (length w0.lines) (length w1.lines) (length w2.lines) (length w3.lines) p4 test res.lines skip branching u v (λ x y. refl) (λ x y. refl) a.block n2 (subst S s1 res.block) n4 stated refl (λ e. under) (λ e. refl));
    } in
    subst (λ w. Pends M (k ∷ w0.stack) op.Jump (λ h row vars os. then_move (u row vars os) (branch_move (v row vars) (h row vars))) (q ∷ []) w0 w) (sym n) base
