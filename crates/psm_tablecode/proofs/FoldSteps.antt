-- The steps of folding: operations that are put on others or taken off, and the values of the last of them.
use Rattle.std.proofs.Common.{◌≡◌, ℕ, zero, suc, ◌+◌, ◌-◌, ◌≤◌, ◌<◌, Bool, true, false, ◌&&◌, List, [], ◌∷◌, ◌++◌, length, take, drop, map, refl, ap, sym, ◌∙◌, arith, Option, Some, None, append_assoc, append-nil, length-drop}
use Rattle.std.specs.Prelude.{reverse, option_and_then, option_map, slice_get}
use Rattle.std.proofs.lemmas.List.{length-reverse, reverse-append, reverse-reverse, take-append-drop}
use Rattle.std.proofs.Math.Seq.{drop-append_seam, drop-length}
use Rattle.psm_num.proofs.Literals.{and_second}
use Rattle.psm_value.specs.declared.datum.Datum.{Datum}
use Rattle.psm_exprcode.specs.declared.op.Line.{Line}
use Rattle.psm_exprcode.specs.declared.op.Op.{Op}
use Rattle.psm_exprcode.specs.declared.operand.Operand.{Operand}
use Rattle.psm_exprcode.specs.declared.operand.Operand.TheVariants.{Value}
use Rattle.psm_exprcode.specs.Applied.{applied}
use Rattle.psm_exprcode.specs.Fits.{are_values, Fits}
use Rattle.psm_tablecode.specs.Folding.{all_quiet, bare, constant, done_with, fold_op, fold_ops, folded, folds, last_values, ops_of, value_alone, value_on, value_put, IsDone}
use Rattle.psm_tablecode.specs.Tests.{are_quiet, fixed, is_quiet, with_first}
use Rattle.psm_tablecode.proofs.FoldLaws.{fold_says, folds_quiet, quiet_bare, quiet_onto}
use Rattle.psm_tablecode.proofs.LookUps.{first_rest}
use Rattle.psm_tablecode.proofs.Windows.{line_is, line_none, line_of, op_at, past_is}

and_true : (a b : Bool) → b ≡ true → (a && b) ≡ a
and_true true b h = h
and_true false b h = refl

-- the last n are taken off
pub cut_back : (n : ℕ) (items : List Op) → n ≤ length items → reverse (take (length items - n) items) ≡ drop n (reverse items)
cut_back n items h =
    let p : ℕ = length items - n in
    let turned : reverse items ≡ reverse (drop p items) ++ reverse (take p items) = ap reverse (sym (take-append-drop p items)) ∙ reverse-append (take p items) (drop p items) in
    let many : n ≡ length (reverse (drop p items)) = omega (arith, h, length-reverse (drop p items), length-drop p items) in
    sym (ap (λ k. drop k (reverse items)) many ∙ ap (λ u. drop (length (reverse (drop p items))) u) turned ∙ drop-append_seam (reverse (drop p items)) (reverse (take p items)))

module _ (vars : List Datum) where
  pub values_zero : (n : ℕ) (done : List Op) → n ≡ 0 → last_values vars n done ≡ Some []
  values_zero n done e = ap (λ k. last_values vars k done) e

  pub values_none : (n : ℕ) → 0 < n → last_values vars n [] ≡ None
  values_none zero h = absurd (omega (arith, h))
  values_none (suc n) h = refl

  values_next : (n : ℕ) (o : Op) (done : List Op) → 0 < n → last_values vars n (o ∷ done) ≡ with_first (fixed vars o) (last_values vars (n - 1) done)
  values_next zero o done h = absurd (omega (arith, h))
  values_next (suc n) o done h = let e : n ≡ suc n - 1 = omega arith in ap (λ k. with_first (fixed vars o) (last_values vars k done)) e

  pub values_last : (n : ℕ) (o : Op) (done all : List Op) (v : Datum) → 0 < n → all ≡ o ∷ done → Some v ≡ fixed vars o → last_values vars n all ≡ with_first (Some v) (last_values vars (n - 1) done)
  values_last n o done all v h e f = ap (λ (l : List Op). last_values vars n l) e ∙ values_next n o done h ∙ sym (ap (λ (d : Option Datum). with_first d (last_values vars (n - 1) done)) f)

-- one value more on the operands
pub one_more : (v : Datum) (rest : Option (List Datum)) (os new : List Operand) → Some (reverse os) ≡ option_map (λ ds. map Value ds) rest → new ≡ os ++ Value v ∷ []
    → Some (reverse new) ≡ option_map (λ ds. map Value ds) (with_first (Some v) rest)
one_more v None os new e n = absurd cc
one_more v (Some ds) os new e n =
    let same : reverse os ≡ map Value ds = cc in
    ap (λ (l : List Operand). Some (reverse l)) n ∙ ap (λ (l : List Operand). Some l) (reverse-append os (Value v ∷ [])) ∙ ap (λ (l : List Operand). Some (Value v ∷ l)) same

-- ---- lines

-- one more of the operations becomes a line
pub bare_next : (lines new all : List Line) (o : Op) (old rest : List Op) → old ≡ o ∷ rest → new ≡ lines ++ bare o ∷ [] → lines ++ map bare old ≡ all → new ++ map bare rest ≡ all
bare_next lines new all o old rest e n h =
    ap (λ (l : List Line). l ++ map bare rest) n ∙ append_assoc lines (bare o ∷ []) (map bare rest) ∙ sym (ap (λ (l : List Op). lines ++ map bare l) e) ∙ h

pub bare_end : (lines all : List Line) (old : List Op) → length old ≡ 0 → lines ++ map bare old ≡ all → lines ≡ all
bare_end lines all [] e h = sym (append-nil lines) ∙ h
bare_end lines all (o ∷ old) e h = absurd (omega (arith, e))

-- ---- the value of one operation

abbrev none : List Datum
none = []

given : (os : List Operand) (found : Option (List Datum)) → Some os ≡ option_map (λ ds. map Value ds) found → (ds : List Datum) × (found ≡ Some ds) × (os ≡ map Value ds)
given os None e = absurd cc
given os (Some ds) e = (ds, refl, (let same : os ≡ map Value ds = cc in same))

module _ (vars : List Datum) where
  -- the operands of an operation are as many as it folds
  values_long : (n : ℕ) (done : List Op) (ds : List Datum) → last_values vars n done ≡ Some ds → are_values n (map Value ds) ≡ true
  values_long zero done ds e = refl
  values_long (suc n) [] ds e = absurd cc
  values_long (suc n) (o ∷ done) ds e =
      let p = first_rest (fixed vars o) (last_values vars n done) ds e in
      sym (ap (λ (l : List Datum). are_values (suc n) (map Value l)) p.4) ∙ values_long n done p.1 p.3

  pub values_there : (n : ℕ) (done : List Op) (ds : List Datum) → last_values vars n done ≡ Some ds → n ≤ length done
  values_there zero done ds e = omega arith
  values_there (suc n) [] ds e = absurd cc
  values_there (suc n) (o ∷ done) ds e =
      let p = first_rest (fixed vars o) (last_values vars n done) ds e in
      let h : n ≤ length done = values_there n done p.1 p.3 in
      omega (arith, h)

  module _ (done : List Op) (o : Op) (os : List Operand) where
    pub fits_on : (n : ℕ) → n ≡ folds o → 0 < n → Some os ≡ option_map (λ ds. map Value ds) (last_values vars n done) → Fits o os [] []
    fits_on zero e h g = absurd (omega (arith, h))
    fits_on (suc n) e h g =
        let p = given os (last_values vars (suc n) done) g in
        (fold_says none none n o (sym e)).fits os (ap (are_values (suc n)) p.2 ∙ values_long (suc n) done p.0 p.1)

    pub put_on : (n : ℕ) → n ≡ folds o → 0 < n → Some os ≡ option_map (λ ds. map Value ds) (last_values vars n done) → value_alone (applied o os [] []) ≡ value_on vars (folds o) done o
    put_on zero e h g = absurd (omega (arith, h))
    put_on (suc n) e h g =
        let p = given os (last_values vars (suc n) done) g in
        ap (λ (l : List Operand). value_alone (applied o l [] [])) p.2 ∙ sym (ap (option_and_then (value_put o)) p.1) ∙ ap (λ k. value_on vars k done o) e

  -- ---- one operation folded

  on_there : (n : ℕ) (done : List Op) (o : Op) (d : Datum) (found : Option (List Datum)) → last_values vars (suc n) done ≡ found → option_and_then (value_put o) found ≡ Some d → suc n ≤ length done
  on_there n done o d None l e = absurd cc
  on_there n done o d (Some ds) l e = values_there (suc n) done ds l

  pub there_on : (n : ℕ) (done : List Op) (o : Op) (d : Datum) → value_on vars n done o ≡ Some d → n ≤ length done
  there_on zero done o d e = omega arith
  there_on (suc n) done o d e = on_there n done o d (last_values vars (suc n) done) refl e

  quiet_dropped : (n : ℕ) (done : List Op) → all_quiet done ≡ true → all_quiet (drop n done) ≡ true
  quiet_dropped zero done h = h
  quiet_dropped (suc n) [] h = refl
  quiet_dropped (suc n) (o ∷ done) h = quiet_dropped n done (and_second (is_quiet o) (all_quiet done) h)

  module _ (done : List Op) (o : Op) where
    pub fold_put : (d : Datum) → Some d ≡ value_on vars (folds o) done o → fold_op vars done o ≡ constant d ∷ drop (folds o) done
    fold_put d e = sym (ap (done_with (folds o) done o) e)

    pub fold_kept : None ≡ value_on vars (folds o) done o → fold_op vars done o ≡ o ∷ done
    fold_kept e = sym (ap (done_with (folds o) done o) e)

    pub quiet_put : (d : Datum) → Some d ≡ value_on vars (folds o) done o → all_quiet done ≡ true → all_quiet (fold_op vars done o) ≡ true
    quiet_put d e h = ap all_quiet (fold_put d e) ∙ quiet_dropped (folds o) done h

    pub quiet_kept : None ≡ value_on vars (folds o) done o → all_quiet done ≡ true → all_quiet (fold_op vars done o) ≡ is_quiet o
    quiet_kept e h = ap all_quiet (fold_kept e) ∙ and_true (is_quiet o) (all_quiet done) h

-- ---- one line after another

module _ (vars : List Datum) (lines : List Line) where
  module _ (at : ℕ) (done : List Op) (is : IsDone vars lines at done) where
    abbrev rest : List Line
    rest = drop (at + 1) lines

    next_is : (o : Op) → Some o ≡ op_at lines at → fold_ops vars (fold_op vars done o) (ops_of rest) ≡ fold_ops vars [] (ops_of lines)
    next_is o e =
        let l = line_of (slice_get lines at) o e in
        sym (ap (λ (ls : List Line). fold_ops vars done (ops_of ls)) (line_is lines at l.0 l.1) ∙ ap (λ (p : Op). fold_ops vars (fold_op vars done p) (ops_of rest)) l.2) ∙ is.so_far

    pub done_next : (o : Op) (new : List Op) → Some o ≡ op_at lines at → new ≡ fold_op vars done o → true ≡ all_quiet (fold_op vars done o) → IsDone vars lines (at + 1) new
    done_next o new e n q = record { so_far = ap (λ (l : List Op). fold_ops vars l (ops_of rest)) n ∙ next_is o e; quiet = ap all_quiet n ∙ sym q }

    pub done_past : None ≡ op_at lines at → IsDone vars lines (at + 1) done
    done_past e =
        let p = past_is lines at (line_none (slice_get lines at) e) in
        record { so_far = ap (λ (ls : List Line). fold_ops vars done (ops_of ls)) (p.1 ∙ sym p.0) ∙ is.so_far; quiet = is.quiet }

    loud_by : (b : Bool) (o : Op) → Some o ≡ op_at lines at → false ≡ all_quiet (fold_op vars done o) → all_quiet (fold_ops vars [] (ops_of lines)) ≡ b → b ≡ false
    loud_by false o e q h = refl
    loud_by true o e q h =
        let kept = folds_quiet none vars (ops_of rest) (fold_op vars done o) (ap all_quiet (next_is o e) ∙ h) in
        let no : false ≡ true = q ∙ kept.0 in
        cc

    pub loud_next : (o : Op) → Some o ≡ op_at lines at → false ≡ all_quiet (fold_op vars done o) → are_quiet (folded vars lines) ≡ false
    loud_next o e q = quiet_bare none vars (fold_ops vars [] (ops_of lines)) ∙ loud_by (all_quiet (fold_ops vars [] (ops_of lines))) o e q refl

  pub done_first : IsDone vars lines 0 []
  done_first = record { so_far = refl; quiet = refl }

  -- all lines are folded
  module _ (items : List Op) (is : IsDone vars lines (length lines) (reverse items)) where
    all_done : items ≡ fold_ops vars [] (ops_of lines)
    all_done = sym (reverse-reverse items) ∙ sym (ap (λ (ls : List Line). fold_ops vars (reverse items) (ops_of ls)) (drop-length lines)) ∙ is.so_far

    pub done_all : map bare items ≡ folded vars lines
    done_all = ap (map bare) all_done

    pub quiet_end : are_quiet (map bare items) ≡ true
    quiet_end = quiet_bare none vars items ∙ (quiet_onto none vars items [] is.quiet).0
