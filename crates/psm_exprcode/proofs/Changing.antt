-- A stack that changes.
use Rattle.std.proofs.Common.{◌≡◌, ℕ, zero, suc, ◌-◌, ◌<◌, List, [], ◌∷◌, ◌++◌, length, drop, get_or, ap, sym, ◌∙◌, arith, refl, Some, None, drop-cons}
use Rattle.std.specs.Prelude.{slice_get}
use Rattle.std.proofs.lemmas.List.{drop_all}
use Rattle.psm_exprcode.specs.declared.op.Letter.{Letter}
use Rattle.psm_exprcode.specs.declared.op.Line.{Line}
use Rattle.psm_exprcode.specs.declared.raw.NumberedLine.{NumberedLine}
use Rattle.psm_exprcode.specs.Numbered.{lines_of, AreStatedIn}
use Rattle.psm_exprcode.specs.Stacks.{Extends}
use Rattle.psm_exprcode.specs.Writing.{Writing}
use Rattle.psm_exprcode.proofs.Sharing.{lines_kept}

-- a letter less
pub dropped_step : (s below rest : List Letter) (l : Letter) (more : ℕ) → 0 < more → s ≡ l ∷ below → drop more s ≡ rest → drop (more - 1) below ≡ rest
dropped_step s below rest l zero h e k = absurd (omega (arith, h))
dropped_step s below rest l (suc more) h e k =
    let less : suc more - 1 ≡ more = omega arith in
    ap (λ n. drop n below) less ∙ sym (ap (drop (suc more)) e) ∙ k

-- no letter is left
pub dropped_all : (s rest : List Letter) (more : ℕ) → s ≡ [] → drop more s ≡ rest → s ≡ rest
dropped_all s rest more e k =
    let none : length s ≡ 0 = ap length e in
    e ∙ sym (drop_all more s (omega (arith, none))) ∙ k

pub extends_self : (stacks : List (List Letter)) → Extends stacks stacks
extends_self stacks = record { longer = omega arith; same = λ n h. refl }

pub extends_more : (old mid new : List (List Letter)) → Extends old mid → Extends mid new → Extends old new
extends_more old mid new h k =
    record {
      longer = omega (arith, h.longer, k.longer);
      same = λ n i. k.same n (omega (arith, i, h.longer)) ∙ h.same n i;
    }

-- one more letter is put on those that are already there
pub put_step : (letters s more old : List Letter) (n : ℕ) (x : Letter) → n < length letters → x ≡ get_or letters n x → s ≡ drop (suc n) letters ++ old → more ≡ x ∷ s → more ≡ drop n letters ++ old
put_step letters s more old n x h e b g =
    g ∙ ap (λ k. x ∷ k) b ∙ ap (λ k. k ++ old) (ap (λ y. y ∷ drop (suc n) letters) e ∙ sym (drop-cons letters n x h))

-- the letter after those that are taken off
next_of : (s rest : List Letter) (l : Letter) (n : ℕ) → drop n s ≡ l ∷ rest → Some l ≡ slice_get s n
next_of [] rest l zero e = absurd (cc)
next_of [] rest l (suc n) e = absurd (cc)
next_of (k ∷ s) rest l zero e = let h : k ≡ l = cc in ap (λ x. Some x) (sym h)
next_of (k ∷ s) rest l (suc n) e = next_of s rest l n e

none_of : (s : List Letter) (n : ℕ) → drop n s ≡ [] → None ≡ slice_get s n
none_of [] zero e = refl
none_of [] (suc n) e = refl
none_of (k ∷ s) zero e = absurd (cc)
none_of (k ∷ s) (suc n) e = none_of s n e

pub next_some : (s left rest : List Letter) (l : Letter) (n : ℕ) → left ≡ drop n s → left ≡ l ∷ rest → Some l ≡ slice_get s n
next_some s left rest l n e g = next_of s rest l n (sym e ∙ g)

pub next_none : (s left : List Letter) (n : ℕ) → left ≡ drop n s → left ≡ [] → None ≡ slice_get s n
next_none s left n e g = none_of s n (sym e ∙ g)

-- ---- lines that stay

abbrev written : List Line → List Letter → Writing
written lines stack = record { lines = lines; stack = stack }

-- letters are put after the lines
pub written_put : (old new : List (List Letter)) (lines : List NumberedLine) (s more letters : List Letter) (w : Writing) → written (lines_of old lines) s ≡ w → Extends old new → AreStatedIn old lines → more ≡ letters ++ s
    → written (lines_of new lines) more ≡ written w.lines (letters ++ w.stack)
written_put old new lines s more letters w e h k g =
    let kept : lines_of new lines ≡ w.lines = lines_kept old new lines h k ∙ ap (λ x. x.lines) e in
    ap (λ x. written x more) kept ∙ ap (written w.lines) (g ∙ ap (λ x. letters ++ x.stack) e)
