-- Lines that raise no condition are well-formed, where no operand stands.
use Rattle.std.proofs.Common.{arith, ◌≡◌, ◌≤◌, ◌<◌, ◌++◌, ◌||◌, ℕ, suc, Bool, true, false, not, nat_lt, List, [], ◌∷◌, Some, None, ap, refl, ◌∙◌}
use Rattle.std.specs.Prelude.{codes, reverse}
use Rattle.std.proofs.lemmas.Bool.{eq-eqb, lt-ltb}
use Rattle.std.proofs.lemmas.List.{reverse-reverse}
use Rattle.psm_exprcode.specs.declared.op.Letter.{Letter}
use Rattle.psm_exprcode.specs.declared.op.Letter.TheVariants.{N, B}
use Rattle.psm_exprcode.specs.declared.op.Op.TheVariants as op
use Rattle.psm_exprcode.specs.Operations.{Effect, effect, plain}
use Rattle.psm_cond.specs.Handlers.{context_at}
use Rattle.psm_code.specs.declared.code.RawCode.{RawCode}
use Rattle.psm_code.specs.declared.code.RawRoutine.{RawRoutine}
use Rattle.psm_code.specs.declared.instruction.Instruction.{Instruction}
use Rattle.psm_code.specs.declared.instruction.Instruction.TheVariants as instruction
use Rattle.psm_code.specs.declared.lines.CodeLine.{CodeLine}
use Rattle.psm_code.specs.Instructions.{last}
use Rattle.psm_code.specs.Parts.{block_at, line_at}
use Rattle.psm_code.specs.Rules.{is_some, is_there, there, where_there}
use Rattle.psm_code.specs.RoutineRules.{context_after, context_there, is_action_context, is_in, is_turn, jump_of, parent_of_context, stands_alone, stands_well_formed, uses_turn, wants_resume}
use Rattle.psm_exprgen.specs.Written.{Written, here}
use Rattle.psm_exprgen.specs.Writing.{BeginsWith}
use Rattle.psm_codegen.proofs.There.{line_of, there_at}
use Rattle.psm_codegen_wellformed.specs.Frame.{Follows, Free}
use Rattle.psm_codegen_wellformed.proofs.Lines.{FallsThrough, Branches, Does, both, follows-inside, follows-stated, follows-there, free-one, goes-fall_through, line-well_formed, never-fall_through, no-jump, or_first, or_second, resumes-never}
use Rattle.psm_codegen_wellformed.proofs.Putting.{follows-as, line-starts}

-- a line to which a run may go from each line before another one
pub record Reaches (r : RawRoutine) (bound context p : ℕ) : Type 0 where
  pub follows : Follows r p context []
  pub turn : (n : ℕ) → n < bound → uses_turn r n p ≡ true

pub reaches-fall_through : {r : RawRoutine} {bound context p : ℕ} → bound ≤ p → Follows r p context [] → Reaches r bound context p
reaches-fall_through {r} {bound} {context} {p} h f = record { follows = f; turn = λ n l. or_first (nat_lt n p) (where_there (line_at r p) (λ x. is_turn x.instruction)) (lt-ltb n p (omega (arith, h, l))) }

pub reaches-lower : {r : RawRoutine} {bound low context p : ℕ} → low ≤ bound → Reaches r bound context p → Reaches r low context p
reaches-lower h a = record { follows = a.follows; turn = λ n l. a.turn n (omega (arith, h, l)) }

-- a line that uses a turn
pub reaches-turn : {r : RawRoutine} {bound : ℕ} (context : ℕ) (w : Written) → BeginsWith (w.lines ++ line_of context None instruction.Turn w ∷ []) r.lines → w.stack ≡ [] → Reaches r bound context (here w)
reaches-turn {r} context w b q = record {
  follows = follows-as (line-starts context None instruction.Turn w b) refl q;
  turn = λ n l. or_second (nat_lt n (here w)) (where_there (line_at r (here w)) (λ x. is_turn x.instruction)) (ap (λ o. where_there o (λ x. is_turn x.instruction)) (there_at w.lines b));
}

-- a block that stands in a context
pub record IsBlockIn (r : RawRoutine) (inner outer : ℕ) : Type 0 where
  pub named : there (context_at r.handlers inner) ≡ true
  pub block : there (block_at r inner) ≡ true
  pub parent : parent_of_context (context_at r.handlers inner) ≡ outer
  pub known : context_there r inner ≡ true
  pub outside : context_there r outer ≡ true

pub no_operand : (b : Bool) (s : List Letter) → s ≡ [] → (not b || not (is_some (reverse s))) ≡ true
no_operand b s q = or_second (not b) (not (is_some (reverse s))) (ap (λ t. not (is_some (reverse t))) q)

pub jumps-to : {r : RawRoutine} {at context bound p : ℕ} (i : Instruction) → jump_of i ≡ Some p → at < bound → Reaches r bound context p → Branches r at context i (Some (p, [])) []
jumps-to {r} {at} {context} {bound} {p} i h following a = record {
  target = ap (λ o. where_there o (is_there r.lines)) h ∙ follows-there a.follows;
  inside = ap (λ o. where_there o (λ p. is_in context (line_at r p))) h ∙ follows-inside a.follows;
  turn = ap (λ o. where_there o (uses_turn r at)) h ∙ a.turn at following;
  stated = follows-stated a.follows;
}

module _ {code : RawCode} {r : RawRoutine} {context : ℕ} (first : Follows r 0 0 []) (known : context_there r context ≡ true) where
  pub plain-free : (i : Instruction) (e : Effect) (following : ℕ) (w : Written) → BeginsWith (w.lines ++ line_of context None i w ∷ []) r.lines → Does code r i e → w.stack ≡ [] → [] ≡ e.takes ++ [] → wants_resume i ≡ false
      → stands_well_formed r (line_of context None i w) i ≡ true → context_after r (line_of context None i w) i ≡ following → FallsThrough r (here w) following i e.fall_through [] → Branches r (here w) context i e.branching [] → Free code r (here w) (suc (here w))
  plain-free i e following w b d q t n s g fall_through branching =
      let l : CodeLine = line_of context None i w in
      free-one l (there_at w.lines b) (line-well_formed l e [] (there_at w.lines b) first known d (no_operand (stands_alone i) w.stack q) s g (reverse-reverse w.stack ∙ q ∙ t) (resumes-never l refl n) fall_through branching)

  pub turn-free : (w : Written) → BeginsWith (w.lines ++ line_of context None instruction.Turn w ∷ []) r.lines → w.stack ≡ [] → Follows r (suc (here w)) context [] → Free code r (here w) (suc (here w))
  turn-free w b q f = plain-free instruction.Turn (plain (codes "TURN") [] []) context w b (record { names = refl; place = refl; fits = refl; value = N; other = B; is_value = refl; effect = refl }) q refl refl refl refl
      (goes-fall_through instruction.Turn f) (no-jump instruction.Turn refl)

  pub goes-free : {bound : ℕ} (p : ℕ) (w : Written) → BeginsWith (w.lines ++ line_of context None (instruction.Operation (op.Jump p)) w ∷ []) r.lines → w.stack ≡ [] → here w < bound → Reaches r bound context p → Free code r (here w) (suc (here w))
  goes-free p w b q h a = plain-free (instruction.Operation (op.Jump p)) (effect (op.Jump p) B B) context w b (record { names = refl; place = refl; fits = refl; value = N; other = B; is_value = refl; effect = refl }) q refl refl refl refl
      (never-fall_through (instruction.Operation (op.Jump p)) refl) (jumps-to (instruction.Operation (op.Jump p)) refl h a)

  -- a block is entered from the context in which it stands
  pub enter-free : (inner : ℕ) (w : Written) → BeginsWith (w.lines ++ line_of context None (instruction.Enter inner) w ∷ []) r.lines → w.stack ≡ [] → IsBlockIn r inner context → Follows r (suc (here w)) inner [] → Free code r (here w) (suc (here w))
  enter-free inner w b q is f = plain-free (instruction.Enter inner) (plain (codes "ENTER") [] []) inner w b (record { names = is.named; place = refl; fits = refl; value = N; other = B; is_value = refl; effect = refl }) q refl refl
      (both is.block (eq-eqb (parent_of_context (context_at r.handlers inner)) context is.parent)) refl (goes-fall_through (instruction.Enter inner) f) (no-jump (instruction.Enter inner) refl)

  -- and left into it
  pub exit-free : (inner outer : ℕ) (w : Written) → BeginsWith (w.lines ++ line_of context None (instruction.Exit inner) w ∷ []) r.lines → w.stack ≡ [] → context ≡ inner → IsBlockIn r inner outer → Follows r (suc (here w)) outer [] → Free code r (here w) (suc (here w))
  exit-free inner outer w b q same is f = plain-free (instruction.Exit inner) (plain (codes "EXIT") [] []) outer w b (record { names = is.named; place = refl; fits = refl; value = N; other = B; is_value = refl; effect = refl }) q refl refl
      (both is.block (eq-eqb context inner same)) is.parent (goes-fall_through (instruction.Exit inner) f) (no-jump (instruction.Exit inner) refl)

-- the action of a handler ends in its context
pub end_action-free : {code : RawCode} {r : RawRoutine} (context : ℕ) → Follows r 0 0 [] → context_there r context ≡ true → (n : ℕ) (w : Written) → BeginsWith (w.lines ++ line_of context None (instruction.EndAction n) w ∷ []) r.lines → w.stack ≡ []
    → is_there r.handlers.handlers n ≡ true → is_action_context n (context_at r.handlers context) ≡ true → Free code r (here w) (suc (here w))
end_action-free context first known n w b q h is = plain-free first known (instruction.EndAction n) (last (codes "ENDACT") []) context w b (record { names = h; place = refl; fits = refl; value = N; other = B; is_value = refl; effect = refl }) q refl refl
    is refl (never-fall_through (instruction.EndAction n) refl) (no-jump (instruction.EndAction n) refl)

-- ---- the line after the body, which is the routine's own

module _ {code : RawCode} {r : RawRoutine} (first : Follows r 0 0 []) (known : context_there r 0 ≡ true) where
  pub end-free : (w : Written) → BeginsWith (w.lines ++ line_of 0 None instruction.End w ∷ []) r.lines → r.is_function ≡ false → w.stack ≡ [] → Free code r (here w) (suc (here w))
  end-free w b procedure q = plain-free first known instruction.End (last (codes "END") []) 0 w b (record { names = refl; place = ap not procedure; fits = refl; value = N; other = B; is_value = refl; effect = refl }) q refl refl refl refl
      (never-fall_through instruction.End refl) (no-jump instruction.End refl)

  pub no_return-free : (w : Written) → BeginsWith (w.lines ++ line_of 0 None instruction.NoReturn w ∷ []) r.lines → r.is_function ≡ true → w.stack ≡ [] → Free code r (here w) (suc (here w))
  no_return-free w b function q = plain-free first known instruction.NoReturn (last (codes "NORET") []) 0 w b (record { names = refl; place = function; fits = refl; value = N; other = B; is_value = refl; effect = refl }) q refl refl refl refl
      (never-fall_through instruction.NoReturn refl) (no-jump instruction.NoReturn refl)
