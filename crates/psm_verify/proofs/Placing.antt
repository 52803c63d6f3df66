-- The lines of an expression by their indexes.
use Rattle.std.proofs.Common.{◌≡◌, ℕ, zero, suc, ◌+◌, ◌<◌, Bool, true, false, ◌&&◌, ◌||◌, List, [], ◌∷◌, length, drop, refl, ap, sym, ◌∙◌, arith, Option, Some, None, Ok}
use Rattle.std.specs.Prelude.{if◌then◌else◌, reverse, slice_get}
use Rattle.std.proofs.Math.Seq.{drop-cons}
use Rattle.std.proofs.lemmas.Option.{slice_get_within, get_or_from_slice_get}
use Rattle.psm_exprcode.specs.declared.op.Letter.{Letter}
use Rattle.psm_exprcode.specs.declared.op.Letter.TheVariants.{N, T, B}
use Rattle.psm_exprcode.specs.declared.op.Line.{Line}
use Rattle.psm_exprcode.specs.Kinds.{some_letter, some_value}
use Rattle.psm_exprcode.specs.WellFormed.{does_fit}
use Rattle.psm_code.specs.declared.rule.CodeRule.{CodeRule}
use Rattle.psm_code.specs.Instructions.{known_end, letter_that}
use Rattle.psm_code.specs.Rules.{where_there}
use Rattle.psm_code.specs.TableRules.{at_ends, expr_faults, expr_line_faults, op_fault}
use Rattle.psm_code.proofs.ExprRules.{fits_clean}
use Rattle.psm_code.proofs.Faults.{Clean}
use Rattle.psm_verify.specs.declared.placed.EndTest.{EndTest}
use Rattle.psm_verify.specs.Checked.{checked}
use Rattle.psm_verify.specs.Placed.{is_due_end, end_at, end_over, fault_at, fault_of_line, test_of}

-- ---- lists from an index on

pub rest_at : {A : Type 0} (xs : List A) (at : ℕ) (x : A) → slice_get xs at ≡ Some x → drop at xs ≡ x ∷ drop (at + 1) xs
rest_at xs at x h =
    let n : suc at ≡ at + 1 = omega arith in
    drop-cons xs at x (slice_get_within xs at x h) ∙ ap (λ y. y ∷ drop (suc at) xs) (get_or_from_slice_get xs at x x h) ∙ ap (λ k. x ∷ drop k xs) n

pub is_at : {A : Type 0} (xs : List A) (at : ℕ) → at < length xs → (x : A) × (slice_get xs at ≡ Some x)
is_at [] at h = absurd (omega (arith, h))
is_at (x ∷ xs) zero h = (x, refl)
is_at (x ∷ xs) (suc at) h = is_at xs at (omega (arith, h))

-- ---- lines

pub some_letter_is : (f g : Letter → Bool) → ((x : Letter) → f x ≡ g x) → some_letter f ≡ some_letter g
some_letter_is f g h = ap (λ b. b || (f T || f B)) (h N) ∙ ap (λ b. g N || (b || f B)) (h T) ∙ ap (λ b. g N || (g T || b)) (h B)

pub some_value_is : (f g : Letter → Bool) → ((x : Letter) → f x ≡ g x) → some_value f ≡ some_value g
some_value_is f g h = ap (λ b. b || f T) (h N) ∙ ap (λ b. g N || b) (h T)

-- the first of the lines from an index on, and those after it
pub end_next : (columns variables : List Letter) (test : EndTest) (lines : List Line) (at : ℕ) → at < length lines
    → at_ends (test_of columns variables lines test) (length lines) at (drop at lines) ≡ (end_at columns variables lines test at && at_ends (test_of columns variables lines test) (length lines) (at + 1) (drop (at + 1) lines))
end_next columns variables test lines at g =
    let l : Line = (is_at lines at g).0 in
    let e : slice_get lines at ≡ Some l = (is_at lines at g).1 in
    let n : suc at ≡ at + 1 = omega arith in
    let holds = test_of columns variables lines test in
    ap (at_ends holds (length lines) at) (rest_at lines at l e)
    ∙ ap (λ k. end_over columns variables lines test at l.op (reverse l.stack) && at_ends holds (length lines) k (drop (at + 1) lines)) n
    ∙ sym (ap (λ o. where_there o (λ m. end_over columns variables lines test at m.op (reverse m.stack)) && at_ends holds (length lines) (at + 1) (drop (at + 1) lines)) e)

pub fault_next : (columns variables : List Letter) (lines : List Line) (at : ℕ) → at < length lines
    → expr_line_faults columns variables lines at (drop at lines) ≡ fault_at columns variables lines at ∷ expr_line_faults columns variables lines (at + 1) (drop (at + 1) lines)
fault_next columns variables lines at g =
    let l : Line = (is_at lines at g).0 in
    let e : slice_get lines at ≡ Some l = (is_at lines at g).1 in
    let n : suc at ≡ at + 1 = omega arith in
    ap (expr_line_faults columns variables lines at) (rest_at lines at l e)
    ∙ ap (λ k. op_fault columns variables lines at l.op (reverse l.stack) ∷ expr_line_faults columns variables lines k (drop (at + 1) lines)) n
    ∙ sym (ap (λ o. fault_of_line columns variables lines at o ∷ expr_line_faults columns variables lines (at + 1) (drop (at + 1) lines)) e)

-- ---- an expression that fits has no line that breaks a rule

that_passes : (test : Letter → Bool) (e : Letter) → letter_that test ≡ Some e → test e ≡ true
that_passes test e h = by (test N) (test T) (test B) refl refl refl h where
  by : (a b c : Bool) → test N ≡ a → test T ≡ b → test B ≡ c → (if a then Some N else (if b then Some T else (if c then Some B else None))) ≡ Some e → test e ≡ true
  by true b c p q r h = let k : N ≡ e = cc in sym (ap test k) ∙ p
  by false true c p q r h = let k : T ≡ e = cc in sym (ap test k) ∙ q
  by false false true p q r h = let k : B ≡ e = cc in sym (ap test k) ∙ r
  by false false false p q r h = absurd (cc)

clean_passes : (rs : List (Option CodeRule)) (n : ℕ) → Clean rs → checked n rs ≡ Ok (n + length rs)
clean_passes [] n h = let e : n ≡ n + 0 = omega arith in ap Ok e
clean_passes (None ∷ rs) n h = let e : suc n + length rs ≡ n + suc (length rs) = omega arith in clean_passes rs (suc n) h ∙ ap Ok e
clean_passes (Some r ∷ rs) n h = absurd h

line_count : (columns variables : List Letter) (all : List Line) (at : ℕ) (lines : List Line) → length (expr_line_faults columns variables all at lines) ≡ length lines
line_count columns variables all at [] = refl
line_count columns variables all at (l ∷ lines) = ap suc (line_count columns variables all (suc at) lines)

passing_by : (c v : List Letter) (due : Letter → Bool) (lines : List Line) (o : Option Letter) (n : ℕ) → known_end c v lines ≡ o → is_due_end due o ≡ true → checked n (expr_faults c v due lines) ≡ Ok (suc n + length lines)
passing_by c v due lines None n h d = absurd (cc)
passing_by c v due lines (Some e) n h d =
    let s : n + suc (length lines) ≡ suc n + length lines = omega arith in
    clean_passes (expr_faults c v due lines) n (fits_clean c v due lines e d (that_passes (does_fit c v lines) e h))
    ∙ ap (λ k. Ok (n + suc k)) (line_count c v lines 0 lines) ∙ ap Ok s

pub passing_is : (c v : List Letter) (due : Letter → Bool) (lines : List Line) (n : ℕ) → is_due_end due (known_end c v lines) ≡ true → checked n (expr_faults c v due lines) ≡ Ok (suc n + length lines)
passing_is c v due lines n d = passing_by c v due lines (known_end c v lines) n refl d
