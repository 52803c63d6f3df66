-- The lines of a routine one after another.
use Rattle.std.proofs.Common.{◌≡◌, ℕ, suc, ◌+◌, ◌<◌, Bool, true, ◌&&◌, ◌||◌, not, nat_eq, List, [], ◌∷◌, ◌++◌, length, drop, refl, ap, sym, ◌∙◌, arith, Option, Some, None}
use Rattle.std.specs.Prelude.{option_map, reverse, slice_get}
use Rattle.std.proofs.lemmas.List.{reverse-append}
use Rattle.psm_exprcode.specs.declared.op.Letter.{Letter}
use Rattle.psm_code.specs.declared.code.RawCode.{RawCode}
use Rattle.psm_code.specs.declared.code.RawRoutine.{RawRoutine}
use Rattle.psm_code.specs.declared.lines.CodeLine.{CodeLine}
use Rattle.psm_code.specs.declared.rule.CodeRule.TheVariants.{Range, Target, Stack, Context, Resume, Turn, Place}
use Rattle.psm_code.specs.Rules.{first_of, is_some, unless, where_there}
use Rattle.psm_code.specs.RoutineRules.{are_targets, context_there, contexts_follow, jump_of, line_fault, line_faults, may_stand, names_there, resumes_well_formed, stack_follows, stands_alone, stands_well_formed, uses_turn}
use Rattle.psm_verify.specs.Stated.{bare_of, code_line_fault, code_line_fault_at, first_right, line_fault_with}
use Rattle.psm_verify.proofs.Placing.{is_at, rest_at}
use Rattle.psm_verify.proofs.Splits.{follows_is_split}

pub lines_next : (code : RawCode) (r : RawRoutine) (at : ℕ) → at < length r.lines
    → line_faults code r at (drop at r.lines) ≡ code_line_fault_at code r at ∷ line_faults code r (at + 1) (drop (at + 1) r.lines)
lines_next code r at g =
    let l : CodeLine = (is_at r.lines at g).0 in
    let e : slice_get r.lines at ≡ Some l = (is_at r.lines at g).1 in
    let n : suc at ≡ at + 1 = omega arith in
    ap (line_faults code r at) (rest_at r.lines at l e)
    ∙ ap (λ k. line_fault code r at l ∷ line_faults code r k (drop (at + 1) r.lines)) n
    ∙ sym (ap (λ o. code_line_fault code r at o ∷ line_faults code r (at + 1) (drop (at + 1) r.lines)) e)

some_last : (s t : List Letter) (k : Letter) → is_some (s ++ k ∷ t) ≡ true
some_last [] t k = refl
some_last (j ∷ s) t k = refl

some_reversed : (s : List Letter) → is_some (reverse s) ≡ is_some s
some_reversed [] = refl
some_reversed (k ∷ s) = ap is_some (reverse-append (k ∷ []) s) ∙ some_last (reverse s) [] k

apart : (code : RawCode) (r : RawRoutine) (at : ℕ) (l : CodeLine) → line_fault_with code r at (bare_of l) (reverse l.stack) ≡ line_fault code r at l
apart code r at l =
    let follow : Bool = stack_follows code r at l in
    ap (λ b. first_of (
    unless (context_there r l.context && names_there code r l.instruction) Range
    ∷ unless (are_targets r at l) Target
    ∷ unless ((not (stands_alone l.instruction) || not (is_some (reverse l.stack))) && b) Stack
    ∷ unless (first_right at l.context (reverse l.stack) && (stands_well_formed r l l.instruction && contexts_follow r at l)) Context
    ∷ unless (resumes_well_formed r at l) Resume
    ∷ unless (where_there (jump_of l.instruction) (uses_turn r at)) Turn
    ∷ unless (may_stand code r l.instruction) Place ∷ [])) (sym (follows_is_split code r at (reverse l.stack) l.instruction))
    ∙ ap (λ b. first_of (
    unless (context_there r l.context && names_there code r l.instruction) Range
    ∷ unless (are_targets r at l) Target
    ∷ unless ((not (stands_alone l.instruction) || not b) && follow) Stack
    ∷ unless ((not (nat_eq at 0) || (nat_eq l.context 0 && not b)) && (stands_well_formed r l l.instruction && contexts_follow r at l)) Context
    ∷ unless (resumes_well_formed r at l) Resume
    ∷ unless (where_there (jump_of l.instruction) (uses_turn r at)) Turn
    ∷ unless (may_stand code r l.instruction) Place ∷ [])) (some_reversed l.stack)

pub fault_is : (code : RawCode) (r : RawRoutine) (at : ℕ) (l : CodeLine) (s : List Letter)
    → Some l ≡ option_map bare_of (slice_get r.lines at) → Some s ≡ option_map (λ m. reverse m.stack) (slice_get r.lines at)
    → line_fault_with code r at l s ≡ code_line_fault_at code r at
fault_is code r at l s h g = by (slice_get r.lines at) h g where
  by : (o : Option CodeLine) → Some l ≡ option_map bare_of o → Some s ≡ option_map (λ m. reverse m.stack) o → line_fault_with code r at l s ≡ code_line_fault code r at o
  by None h g = absurd (cc)
  by (Some m) h g =
      let p : l ≡ bare_of m = cc in
      let q : s ≡ reverse m.stack = cc in
      ap (λ x. line_fault_with code r at x s) p ∙ ap (λ x. line_fault_with code r at (bare_of m) x) q ∙ apart code r at m
