-- What predicates make holds of a row on which a test that raises nothing is true.
use Rattle.std.proofs.Common.{◌≡◌, ℕ, suc, Bool, true, false, List, [], ◌∷◌, drop, refl, ap, sym, ◌∙◌, eqb-true, Option, Some, None}
use Rattle.std.specs.Prelude.{nat_eq, if◌then◌else◌}
use Rattle.std.specs.Option.{option_or}
use Rattle.psm_num.proofs.Literals.{and_second}
use Rattle.psm_value.specs.declared.datum.Datum.{Datum}
use Rattle.psm_exprcode.specs.declared.op.Line.{Line}
use Rattle.psm_exprcode.specs.declared.op.Op.{Op}
use Rattle.psm_exprcode.specs.declared.operand.Operand.{Operand}
use Rattle.psm_exprcode.specs.declared.operand.Next.TheVariants.{FallThrough}
use Rattle.psm_exprcode.specs.Applied.{applied, Went}
use Rattle.psm_tablecode.specs.Tests.{are_quiet, first_four, first_three, free, is_quiet, made}
use Rattle.psm_tablecode.proofs.Conjunctions.{all_true, meets_next, trues, Meets}

rest_of : (l : Line) (lines : List Line) → are_quiet (l ∷ lines) ≡ true → are_quiet lines ≡ true
rest_of l lines h = and_second (is_quiet l.op) (are_quiet lines) h

-- ---- lines of whichever number

module _ (row vars : List Datum) {X : Type 0} (width : ℕ) (make : List Line → Option X) (P : X → Type 0)
    (sound : (x : X) (n : ℕ) (lines : List Line) (os : List Operand) → are_quiet lines ≡ true → Meets row vars n lines os → free (drop width lines) ≡ 0 → make lines ≡ Some x → P x) where
  abbrev Here : List Line → Option X
  Here lines = if nat_eq (free (drop width lines)) 0 then make lines else None

  here_by : (b : Bool) (o : Option X) (x : X) → (if b then o else None) ≡ Some x → (b ≡ true) × (o ≡ Some x)
  here_by true o x e = (refl, e)
  here_by false o x e = absurd (cc)

  first_holds : (x : X) (n : ℕ) (lines : List Line) (os : List Operand) → are_quiet lines ≡ true → Meets row vars n lines os → Here lines ≡ Some x → P x
  first_holds x n lines os h m s =
      let k = here_by (nat_eq (free (drop width lines)) 0) (make lines) x s in
      sound x n lines os h m (eqb-true (free (drop width lines)) 0 k.0) k.1

  made_by : (x : X) (n : ℕ) (l : Line) (lines : List Line) (os : List Operand) → are_quiet (l ∷ lines) ≡ true → Meets row vars n (l ∷ lines) os
      → ((new : List Operand) → Meets row vars (suc n) lines new → made width make lines ≡ Some x → P x)
      → (o : Option X) → Here (l ∷ lines) ≡ o → option_or o (made width make lines) ≡ Some x → P x
  made_by x n l lines os h m rest (Some y) f s = first_holds x n (l ∷ lines) os h m (f ∙ s)
  made_by x n l lines os h m rest None f s = let next = meets_next row vars n l lines os h m in rest next.0 next.2 s

  pub made_holds : (x : X) (n : ℕ) (lines : List Line) (os : List Operand) → are_quiet lines ≡ true → Meets row vars n lines os → made width make lines ≡ Some x → P x
  made_holds x n [] os h m s = absurd (cc)
  made_holds x n (l ∷ lines) os h m s = made_by x n l lines os h m (λ new k r. made_holds x (suc n) lines new (rest_of l lines h) k r) (Here (l ∷ lines)) refl s

-- ---- three lines

module _ (row vars : List Datum) {X : Type 0} (make : Op → Op → Op → Option X) (P : X → Type 0)
    (sound : (a b e : Op) (os first second third : List Operand) → applied a os row vars ≡ Went FallThrough first → applied b first row vars ≡ Went FallThrough second
    → applied e second row vars ≡ Went FallThrough third → all_true third ≡ true → (x : X) → make a b e ≡ Some x → P x) where
  three_sound : (x : X) (n : ℕ) (lines : List Line) (os : List Operand) → are_quiet lines ≡ true → Meets row vars n lines os → free (drop 3 lines) ≡ 0 → first_three make lines ≡ Some x → P x
  three_sound x n [] os h m f s = absurd (cc)
  three_sound x n (a ∷ []) os h m f s = absurd (cc)
  three_sound x n (a ∷ b ∷ []) os h m f s = absurd (cc)
  three_sound x n (a ∷ b ∷ e ∷ lines) os h m f s =
      let h1 : are_quiet (b ∷ e ∷ lines) ≡ true = rest_of a (b ∷ e ∷ lines) h in
      let h2 : are_quiet (e ∷ lines) ≡ true = rest_of b (e ∷ lines) h1 in
      let u = meets_next row vars n a (b ∷ e ∷ lines) os h m in
      let v = meets_next row vars (suc n) b (e ∷ lines) u.0 h1 u.2 in
      let w = meets_next row vars (suc (suc n)) e lines v.0 h2 v.2 in
      let t : all_true w.0 ≡ true = ap (λ j. all_true (drop j w.0)) (sym f) ∙ trues row vars (suc (suc (suc n))) lines w.0 (rest_of e lines h2) w.2 in
      sound a.op b.op e.op os u.0 v.0 w.0 u.1 v.1 w.1 t x s

  pub three_hold : (x : X) (lines : List Line) → are_quiet lines ≡ true → Meets row vars 0 lines [] → made 3 (first_three make) lines ≡ Some x → P x
  three_hold x lines h m s = made_holds row vars 3 (first_three make) P three_sound x 0 lines [] h m s

-- ---- four lines

module _ (row vars : List Datum) {X : Type 0} (make : Op → Op → Op → Op → Option X) (P : X → Type 0)
    (sound : (o a b e : Op) (os first second third fourth : List Operand) → applied o os row vars ≡ Went FallThrough first → applied a first row vars ≡ Went FallThrough second
    → applied b second row vars ≡ Went FallThrough third → applied e third row vars ≡ Went FallThrough fourth → all_true fourth ≡ true → (x : X) → make o a b e ≡ Some x → P x) where
  four_sound : (x : X) (n : ℕ) (lines : List Line) (os : List Operand) → are_quiet lines ≡ true → Meets row vars n lines os → free (drop 4 lines) ≡ 0 → first_four make lines ≡ Some x → P x
  four_sound x n [] os h m f s = absurd (cc)
  four_sound x n (o ∷ []) os h m f s = absurd (cc)
  four_sound x n (o ∷ a ∷ []) os h m f s = absurd (cc)
  four_sound x n (o ∷ a ∷ b ∷ []) os h m f s = absurd (cc)
  four_sound x n (o ∷ a ∷ b ∷ e ∷ lines) os h m f s =
      let h1 : are_quiet (a ∷ b ∷ e ∷ lines) ≡ true = rest_of o (a ∷ b ∷ e ∷ lines) h in
      let h2 : are_quiet (b ∷ e ∷ lines) ≡ true = rest_of a (b ∷ e ∷ lines) h1 in
      let h3 : are_quiet (e ∷ lines) ≡ true = rest_of b (e ∷ lines) h2 in
      let u = meets_next row vars n o (a ∷ b ∷ e ∷ lines) os h m in
      let v = meets_next row vars (suc n) a (b ∷ e ∷ lines) u.0 h1 u.2 in
      let w = meets_next row vars (suc (suc n)) b (e ∷ lines) v.0 h2 v.2 in
      let z = meets_next row vars (suc (suc (suc n))) e lines w.0 h3 w.2 in
      let t : all_true z.0 ≡ true = ap (λ j. all_true (drop j z.0)) (sym f) ∙ trues row vars (suc (suc (suc (suc n)))) lines z.0 (rest_of e lines h3) z.2 in
      sound o.op a.op b.op e.op os u.0 v.0 w.0 z.0 u.1 v.1 w.1 z.1 t x s

  pub four_hold : (x : X) (lines : List Line) → are_quiet lines ≡ true → Meets row vars 0 lines [] → made 4 (first_four make) lines ≡ Some x → P x
  four_hold x lines h m s = made_holds row vars 4 (first_four make) P four_sound x 0 lines [] h m s
