-- The lines of LEAVE and ITERATE are well-formed where the enclosing blocks are as they are given.
use Rattle.std.proofs.Common.{arith, ◌≡◌, ◌≤◌, ◌||◌, ℕ, Bool, true, false, nat_eq, List, [], ◌∷◌, None, if◌then◌else◌, refl, sym}
use Rattle.std.proofs.lemmas.Bool.{false≢true}
use Rattle.psm_exprcode.specs.declared.op.Op.TheVariants as op
use Rattle.psm_code.specs.declared.code.RawCode.{RawCode}
use Rattle.psm_code.specs.declared.code.RawRoutine.{RawRoutine}
use Rattle.psm_code.specs.declared.instruction.Instruction.TheVariants as instruction
use Rattle.psm_code.specs.RoutineRules.{context_there}
use Rattle.psm_exprgen.specs.Written.{Written, here, plain}
use Rattle.psm_exprgen.specs.Writing.{Begins, Grows}
use Rattle.psm_exprgen.proofs.Counts.{here-plain}
use Rattle.psm_exprgen.proofs.Growth.{begins-earlier, grows-on, grows-plain}
use Rattle.psm_codegen.specs.declared.enclosing.EnclosingBlock.{EnclosingBlock}
use Rattle.psm_codegen.specs.declared.enclosing.EnclosingBlock.TheVariants.{Loop, Block, Rows}
use Rattle.psm_codegen.specs.FunctionBuilder.{iterates, leaves}
use Rattle.psm_codegen.specs.Standing.{is_among}
use Rattle.psm_codegen.proofs.Scoping.{labels_of, loops_of}
use Rattle.psm_codegen_wellformed.specs.Frame.{Follows, Free}
use Rattle.psm_codegen_wellformed.proofs.Frees.{free-as}
use Rattle.psm_codegen_wellformed.proofs.Lines.{free-join}
use Rattle.psm_codegen_wellformed.proofs.Plains.{IsBlockIn, Reaches, exit-free, goes-free, reaches-lower}
use Rattle.psm_codegen_wellformed.proofs.Putting.{follows-as, line-starts}

-- from each line before the bound LEAVE and ITERATE reach what is around, innermost first
abbrev pub EnclosingBlockWellFormed : RawRoutine → ℕ → ℕ → List EnclosingBlock → Type 0
EnclosingBlockWellFormed r bound context [] = Unit {0}
EnclosingBlockWellFormed r bound context (Loop level out again ∷ enclosing) = Reaches r bound context out × Reaches r bound context again × EnclosingBlockWellFormed r bound context enclosing
EnclosingBlockWellFormed r bound context (Block level inner outer exit ∷ enclosing) = (context ≡ inner) × IsBlockIn r inner outer × Reaches r bound context exit × EnclosingBlockWellFormed r bound outer enclosing
EnclosingBlockWellFormed r bound context (Rows inner outer ∷ enclosing) = (context ≡ inner) × IsBlockIn r inner outer × EnclosingBlockWellFormed r bound outer enclosing

pub enclosing-lower : (r : RawRoutine) (bound low context : ℕ) (enclosing : List EnclosingBlock) → low ≤ bound → EnclosingBlockWellFormed r bound context enclosing → EnclosingBlockWellFormed r low context enclosing
enclosing-lower r bound low context [] h a = tt
enclosing-lower r bound low context (Loop level out again ∷ enclosing) h a = (reaches-lower h a.0, reaches-lower h a.1, enclosing-lower r bound low context enclosing h a.2)
enclosing-lower r bound low context (Block level inner outer exit ∷ enclosing) h a = (a.0, a.1, reaches-lower h a.2, enclosing-lower r bound low outer enclosing h a.3)
enclosing-lower r bound low context (Rows inner outer ∷ enclosing) h a = (a.0, a.1, enclosing-lower r bound low outer enclosing h a.2)

-- lines that go away, where no operand stands; A is asked of what is around
pub record Goes (code : RawCode) (r : RawRoutine) (bound : ℕ) (A : Type 0) (context : ℕ) (w v : Written) : Type 0 where
  pub grows : Grows w v
  pub stack : w.stack ≡ [] → v.stack ≡ []
  pub starts : w.stack ≡ [] → Begins v r → Follows r (here w) context []
  pub free : A → Follows r 0 0 [] → context_there r context ≡ true → w.stack ≡ [] → Begins v r → here v ≤ bound → Free code r (here w) (here v)

or-rest : (a b : Bool) → a ≡ false → (a || b) ≡ true → b ≡ true
or-rest true b h k = absurd (false≢true (sym h))
or-rest false b h k = k

module _ {code : RawCode} {r : RawRoutine} {bound : ℕ} where
  goes-jump : {A : Type 0} (context p : ℕ) (w : Written) → (A → Reaches r bound context p) → Goes code r bound A context w (plain context (instruction.Operation (op.Jump p)) w)
  goes-jump context p w reach =
      let next = here-plain context (instruction.Operation (op.Jump p)) w in
      record {
        grows = grows-plain context (instruction.Operation (op.Jump p)) {w = w};
        stack = λ q. q;
        starts = λ q b. follows-as (line-starts context None (instruction.Operation (op.Jump p)) w b.lines) refl q;
        free = λ a first there q b h. free-as (goes-free first there p w b.lines q (omega (arith, h, next)) (reach a)) refl (sym next);
      }

  goes-exit : {A C : Type 0} (context inner outer : ℕ) (w v : Written) → (A → context ≡ inner) → (A → IsBlockIn r inner outer) → (A → C) → Goes code r bound C outer (plain context (instruction.Exit inner) w) v → Goes code r bound A context w v
  goes-exit context inner outer w v same is rest g =
      let next = here-plain context (instruction.Exit inner) w in
      record {
        grows = grows-on (grows-plain context (instruction.Exit inner) {w = w}) g.grows;
        stack = λ q. g.stack q;
        starts = λ q b. follows-as (line-starts context None (instruction.Exit inner) w (begins-earlier g.grows b).lines) refl q;
        free = λ a first there q b h. free-join (exit-free first there inner outer w (begins-earlier g.grows b).lines q (same a) (is a) (follows-as (g.starts q b) next refl)) (free-as (g.free (rest a) first (is a).outside q b h) next refl);
      }

  goes-part : {A C : Type 0} {context : ℕ} {w v : Written} → (A → C) → Goes code r bound C context w v → Goes code r bound A context w v
  goes-part rest g = record { grows = g.grows; stack = g.stack; starts = g.starts; free = λ a. g.free (rest a) }

  goes-either : {A : Type 0} (b : Bool) {context : ℕ} {w u v : Written} → Goes code r bound A context w u → (b ≡ false → Goes code r bound A context w v) → Goes code r bound A context w (if b then u else v)
  goes-either true g h = g
  goes-either false g h = h refl

  pub leaves-well_formed : (enclosing : List EnclosingBlock) (level context : ℕ) (w : Written) → is_among level (labels_of enclosing) ≡ true → Goes code r bound (EnclosingBlockWellFormed r bound context enclosing) context w (leaves enclosing level context w)
  leaves-well_formed [] level context w h = absurd (false≢true h)
  leaves-well_formed (Loop l out again ∷ enclosing) level context w h =
      goes-either (nat_eq level l) (goes-jump context out w (λ a. a.0)) (λ n. goes-part (λ a. a.2) (leaves-well_formed enclosing level context w (or-rest (nat_eq level l) (is_among level (labels_of enclosing)) n h)))
  leaves-well_formed (Block l inner outer exit ∷ enclosing) level context w h =
      let next = plain context (instruction.Exit inner) w in
      goes-either (nat_eq level l) (goes-jump context exit w (λ a. a.2))
      (λ n. goes-exit context inner outer w (leaves enclosing level outer next) (λ a. a.0) (λ a. a.1) (λ a. a.3) (leaves-well_formed enclosing level outer next (or-rest (nat_eq level l) (is_among level (labels_of enclosing)) n h)))
  leaves-well_formed (Rows inner outer ∷ enclosing) level context w h =
      let next = plain context (instruction.Exit inner) w in
      goes-exit context inner outer w (leaves enclosing level outer next) (λ a. a.0) (λ a. a.1) (λ a. a.2) (leaves-well_formed enclosing level outer next h)

  pub iterates-well_formed : (enclosing : List EnclosingBlock) (level context : ℕ) (w : Written) → is_among level (loops_of enclosing) ≡ true → Goes code r bound (EnclosingBlockWellFormed r bound context enclosing) context w (iterates enclosing level context w)
  iterates-well_formed [] level context w h = absurd (false≢true h)
  iterates-well_formed (Loop l out again ∷ enclosing) level context w h =
      goes-either (nat_eq level l) (goes-jump context again w (λ a. a.1)) (λ n. goes-part (λ a. a.2) (iterates-well_formed enclosing level context w (or-rest (nat_eq level l) (is_among level (loops_of enclosing)) n h)))
  iterates-well_formed (Block l inner outer exit ∷ enclosing) level context w h =
      let next = plain context (instruction.Exit inner) w in
      goes-exit context inner outer w (iterates enclosing level outer next) (λ a. a.0) (λ a. a.1) (λ a. a.3) (iterates-well_formed enclosing level outer next h)
  iterates-well_formed (Rows inner outer ∷ enclosing) level context w h =
      let next = plain context (instruction.Exit inner) w in
      goes-exit context inner outer w (iterates enclosing level outer next) (λ a. a.0) (λ a. a.1) (λ a. a.2) (iterates-well_formed enclosing level outer next h)
