-- Lines that are written with jumps whose target is filled in later.
use Rattle.std.proofs.Common.{◌≡◌, ℕ, ◌+◌, ◌<◌, ◌≤◌, Bool, List, [], ◌∷◌, ◌++◌, length, refl, ap, sym, subst, ◌∙◌, append_assoc, length-append}
use Rattle.std.proofs.lemmas.List.{append-nil}
use Rattle.psm_exprcode.specs.declared.op.Letter.{Letter}
use Rattle.psm_exprcode.specs.declared.op.Line.{Line}
use Rattle.psm_exprcode.specs.declared.op.Op.{Op}
use Rattle.psm_exprcode.specs.Numbered.{with_op_at}
use Rattle.psm_resolved.specs.Blocks.{Move, Block}
use Rattle.psm_resolved.specs.Open.{Open, Pends}
use Rattle.psm_resolved.specs.Written.{Written, patched, Adds}
use Rattle.psm_resolved.proofs.Jumps.{open_none, open_more}

-- the line after some others
pub replaced_here : (before more : List Line) (l : Line) (p : ℕ) (o : Op) → p ≡ length before → with_op_at (before ++ (l ∷ more)) p o ≡ before ++ (record { stack = l.stack; op = o } ∷ more)
replaced_here before more l p o e = ap (λ i. with_op_at (before ++ (l ∷ more)) i o) e ∙ by before where
  by : (xs : List Line) → with_op_at (xs ++ (l ∷ more)) (length xs) o ≡ xs ++ (record { stack = l.stack; op = o } ∷ more)
  by [] = refl
  by (x ∷ xs) = ap (λ ls. x ∷ ls) (by xs)

patched_both : (o : Op) (ps qs : List ℕ) (lines : List Line) → patched o (ps ++ qs) lines ≡ patched o qs (patched o ps lines)
patched_both o [] qs lines = refl
patched_both o (p ∷ ps) qs lines = patched_both o ps qs (with_op_at lines p o)

pub pends_none : (may : Op → Letter → Bool) (t : List Letter) (jump : ℕ → Op) (w : Written) → Pends may t jump (λ h. h) [] w w
pends_none may t jump w = record {
  lines = [];
  filled = λ e. [];
  added = sym (append-nil w.lines);
  letters = refl;
  as_many = λ e. refl;
  fills = λ e before more h. refl;
  opens = open_none may w.stack t (length w.lines);
}

pub pends_more : (may : Op → Letter → Bool) (t : List Letter) (jump : ℕ → Op) (f g : Move → Move) (ps qs : List ℕ) (old between new : Written) → Pends may t jump f ps old between → Pends may t jump g qs between new
    → Pends may t jump (λ h. f (g h)) (ps ++ qs) old new
pends_more may t jump f g ps qs old between new a b =
    let S : List Letter → Type 0 = λ s. Open may s t (length between.lines) (length new.lines) b.filled g in
    record {
      lines = a.lines ++ b.lines;
      filled = λ e. a.filled e ++ b.filled e;
      added = b.added ∙ ap (λ k. k ++ b.lines) a.added ∙ append_assoc old.lines a.lines b.lines;
      letters = b.letters ∙ a.letters;
      as_many = λ e. length-append (a.filled e) (b.filled e) ∙ ap (λ n. n + length (b.filled e)) (a.as_many e) ∙ ap (λ n. length a.lines + n) (b.as_many e) ∙ sym (length-append a.lines b.lines);
      fills = λ e before more h.
          let counted : length (before ++ a.filled e) ≡ length between.lines =
          length-append before (a.filled e) ∙ ap (λ n. n + length (a.filled e)) h ∙ ap (λ n. length old.lines + n) (a.as_many e) ∙ sym (length-append old.lines a.lines) ∙ sym (ap length a.added) in
          patched_both (jump e) ps qs (before ++ ((a.lines ++ b.lines) ++ more))
          ∙ ap (λ k. patched (jump e) qs (patched (jump e) ps (before ++ k))) (append_assoc a.lines b.lines more)
          ∙ ap (patched (jump e) qs) (a.fills e before (b.lines ++ more) h)
          ∙ ap (patched (jump e) qs) (sym (append_assoc before (a.filled e) (b.lines ++ more)))
          ∙ b.fills e (before ++ a.filled e) more counted
          ∙ append_assoc before (a.filled e) (b.filled e ++ more)
          ∙ ap (λ k. before ++ k) (sym (append_assoc (a.filled e) (b.filled e) more));
      opens = open_more may old.stack t (length old.lines) (length between.lines) (length new.lines) a.filled b.filled f g a.opens (subst S a.letters b.opens);
    }

-- a block after them closes them
pub pends_closed : (may : Op → Letter → Bool) (ks : List Letter) (jump : ℕ → Op) (g : Move → Move) (h : Move) (indexes : List ℕ) (old between new last : Written) → Pends may (ks ++ old.stack) jump g indexes old between
    → Adds may ks h between new → last ≡ record { lines = patched (jump (length new.lines)) indexes new.lines; stack = new.stack } → Adds may ks (g h) old last
pends_closed may ks jump g h indexes old between new last a b q =
    let e : ℕ = length new.lines in
    let whole : new.lines ≡ old.lines ++ (a.lines ++ b.lines) = b.added ∙ ap (λ k. k ++ b.lines) a.added ∙ append_assoc old.lines a.lines b.lines in
    let filled : patched (jump e) indexes new.lines ≡ old.lines ++ (a.filled e ++ b.lines) = ap (patched (jump e) indexes) whole ∙ a.fills e old.lines b.lines refl in
    let counted : length (patched (jump e) indexes new.lines) ≡ e =
    ap length filled ∙ length-append old.lines (a.filled e ++ b.lines) ∙ ap (λ n. length old.lines + n) (length-append (a.filled e) b.lines ∙ ap (λ n. n + length b.lines) (a.as_many e) ∙ sym (length-append a.lines b.lines))
    ∙ sym (length-append old.lines (a.lines ++ b.lines)) ∙ sym (ap length whole) in
    let S : List Letter → Type 0 = λ s. Block may s (ks ++ s) (length between.lines) e b.lines h in
    let L : ℕ → Type 0 = λ n. Block may old.stack (ks ++ old.stack) (length old.lines) n (a.filled e ++ b.lines) (g h) in
    subst (λ w. Adds may ks (g h) old w) (sym q) (record {
      lines = a.filled e ++ b.lines;
      added = filled;
      letters = b.letters ∙ ap (λ s. ks ++ s) a.letters;
      block = subst L (sym counted) (a.opens.closes e b.lines h (subst S a.letters b.block));
    })
