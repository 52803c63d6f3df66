-- The lines of a list from a place on.
use Rattle.std.proofs.Common.{◌≡◌, ℕ, suc, ◌+◌, List, [], ◌∷◌, ◌++◌, drop, map, inl, inr, refl, sym, ap, ◌∙◌, append_assoc, arith}
use Rattle.std.specs.Prelude.{Option, Some, None, option_map, slice_get}
use Rattle.std.proofs.Math.Seq.{drop-cons}
use Rattle.std.proofs.lemmas.List.{append-nil, drop_all}
use Rattle.std.proofs.lemmas.Option.{slice_get_within, slice_get_cases, get_or_from_slice_get}
use Rattle.psm_exprcode.specs.declared.op.Letter.{Letter}
use Rattle.psm_exprcode.specs.declared.op.Line.{Line}
use Rattle.psm_exprcode.specs.declared.op.Op.{Op}
use Rattle.psm_code.specs.declared.lines.CodeLine.{CodeLine}
use Rattle.psm_object.specs.declared.instructions.StatedLine.{StatedLine}
use Rattle.psm_object.specs.Expressions.{operation_line}
use Rattle.psm_object.specs.Instructions.{code_line}
use Rattle.psm_object.specs.StatedLines.{with_stack, without_stack}
use Rattle.psm_object.specs.Words.{ended, text}

rest_at : {A : Type 0} (xs : List A) (at : ℕ) (x : A) → slice_get xs at ≡ Some x → drop at xs ≡ x ∷ drop (at + 1) xs
rest_at xs at x h =
    let n : suc at ≡ at + 1 = omega arith in
    drop-cons xs at x (slice_get_within xs at x h) ∙ ap (λ y. y ∷ drop (suc at) xs) (get_or_from_slice_get xs at x x h) ∙ ap (λ k. x ∷ drop k xs) n

-- a line more
one_more : {A : Type 0} (line : A → List ℕ) (xs : List A) (at : ℕ) (x : A) (before after all : List ℕ) → slice_get xs at ≡ Some x → after ≡ before ++ ended (line x)
    → before ++ text (map line (drop at xs)) ≡ all → after ++ text (map line (drop (at + 1) xs)) ≡ all
one_more line xs at x before after all e f h =
    let rest : List ℕ = text (map line (drop (at + 1) xs)) in
    ap (λ t. t ++ rest) f ∙ append_assoc before (ended (line x)) rest ∙ ap (λ ys. before ++ text (map line ys)) (sym (rest_at xs at x e)) ∙ h

not_there : {A B : Type 0} (f : A → B) (x : A) → None ≡ Some (f x) → ⊥
not_there f x g = cc

-- none is left
pub no_more : {A B : Type 0} (line : A → List ℕ) (f : A → B) (xs : List A) (at : ℕ) (before all : List ℕ) → None ≡ option_map f (slice_get xs at)
    → before ++ text (map line (drop at xs)) ≡ all → before ≡ all
no_more line f xs at before all e h = elim (slice_get_cases xs at).1 as (λ _. before ≡ all) [
  | inl p ↦ absurd (not_there f p.0 (e ∙ ap (option_map f) p.2))
  | inr p ↦ sym (append-nil before) ∙ ap (λ ys. before ++ text (map line ys)) (sym (drop_all at xs p.0)) ∙ h
]

-- ---- lines of expressions

operation_by : (lines : List Line) (at : ℕ) (o : Op) (s : List Letter) (before after all : List ℕ) (l : Option Line) → slice_get lines at ≡ l
    → Some o ≡ option_map (λ (l : Line). l.op) l → Some s ≡ option_map (λ (l : Line). l.stack) l
    → after ≡ before ++ ended (operation_line (record { stack = s; op = o })) → before ++ text (map operation_line (drop at lines)) ≡ all
    → after ++ text (map operation_line (drop (at + 1) lines)) ≡ all
operation_by lines at o s before after all None e f g w h = absurd cc
operation_by lines at o s before after all (Some l) e f g w h =
    let op : o ≡ l.op = cc in
    let stack : s ≡ l.stack = cc in
    let same : record { stack = s; op = o } ≡ l = ap (λ (p : Op). record { stack = s; op = p }) op ∙ ap (λ (t : List Letter). record { stack = t; op = l.op }) stack in
    one_more operation_line lines at l before after all e (w ∙ ap (λ (k : Line). before ++ ended (operation_line k)) same) h

pub operation_next : (lines : List Line) (at : ℕ) (o : Op) (s : List Letter) (before after all : List ℕ)
    → Some o ≡ option_map (λ (l : Line). l.op) (slice_get lines at) → Some s ≡ option_map (λ (l : Line). l.stack) (slice_get lines at)
    → after ≡ before ++ ended (operation_line (record { stack = s; op = o })) → before ++ text (map operation_line (drop at lines)) ≡ all
    → after ++ text (map operation_line (drop (at + 1) lines)) ≡ all
operation_next lines at o s before after all f g w h = operation_by lines at o s before after all (slice_get lines at) refl f g w h

-- ---- lines of routines

abbrev put_on : List Letter → CodeLine → CodeLine
put_on s l = record { context = l.context; resume = l.resume; stack = s; instruction = l.instruction }

code_line_by : (lines : List CodeLine) (at : ℕ) (k : StatedLine) (s : List Letter) (before after all : List ℕ) (l : Option CodeLine) → slice_get lines at ≡ l
    → Some (with_stack [] k) ≡ option_map without_stack l → Some s ≡ option_map (λ (l : CodeLine). l.stack) l
    → after ≡ before ++ ended (code_line (with_stack s k)) → before ++ text (map code_line (drop at lines)) ≡ all
    → after ++ text (map code_line (drop (at + 1) lines)) ≡ all
code_line_by lines at k s before after all None e f g w h = absurd cc
code_line_by lines at k s before after all (Some l) e f g w h =
    let bare : with_stack [] k ≡ without_stack l = cc in
    let stack : s ≡ l.stack = cc in
    let same : with_stack s k ≡ l = ap (put_on s) bare ∙ ap (λ (t : List Letter). put_on t l) stack in
    one_more code_line lines at l before after all e (w ∙ ap (λ (x : CodeLine). before ++ ended (code_line x)) same) h

pub code_line_next : (lines : List CodeLine) (at : ℕ) (k : StatedLine) (s : List Letter) (before after all : List ℕ)
    → Some (with_stack [] k) ≡ option_map without_stack (slice_get lines at) → Some s ≡ option_map (λ (l : CodeLine). l.stack) (slice_get lines at)
    → after ≡ before ++ ended (code_line (with_stack s k)) → before ++ text (map code_line (drop at lines)) ≡ all
    → after ++ text (map code_line (drop (at + 1) lines)) ≡ all
code_line_next lines at k s before after all f g w h = code_line_by lines at k s before after all (slice_get lines at) refl f g w h
