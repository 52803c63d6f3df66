-- Operations of expressions among the instructions.
use Rattle.std.proofs.Common.{◌≡◌, ℕ, zero, suc, true, false, List, [], ◌∷◌, ◌++◌, map, refl, ap, sym, subst, ◌∙◌, Option, Some, None}
use Rattle.std.specs.Prelude.{codes, option_map, reverse, slice_get, nat_eq}
use Rattle.psm_num.proofs.Literals.{and_first, and_second}
use Rattle.psm_value.specs.declared.datum.Datum.{Datum}
use Rattle.psm_value.specs.declared.datum.Datum.TheVariants as data_of
use Rattle.psm_value.specs.declared.sqltype.SqlType.{SqlType}
use Rattle.psm_value.specs.declared.sqltype.SqlType.TheVariants.{SmallInt, Integer, Numeric, Char, VarChar}
use Rattle.psm_value.specs.Stored.{is_stored}
use Rattle.psm_exprcode.specs.declared.op.Letter.{Letter}
use Rattle.psm_exprcode.specs.declared.op.Op.{Op}
use Rattle.psm_exprcode.specs.declared.op.Op.TheVariants as op
use Rattle.psm_exprcode.specs.declared.operand.Operand.{Operand}
use Rattle.psm_exprcode.specs.declared.operand.Next.TheVariants.{FallThrough, Jump}
use Rattle.psm_exprcode.specs.Applied.{Applied, Went, Raised, Stuck, applied}
use Rattle.psm_exprcode.specs.Fits.{Fits}
use Rattle.psm_exprcode.specs.Kinds.{are_of, has_letter, have, is_value, letter_of}
use Rattle.psm_exprcode.specs.Operations.{Effect, effect, plain}
use Rattle.psm_exprcode.specs.WellFormed.{is_bounded}
use Rattle.psm_exprcode.proofs.Results.{letter_of-value}
use Rattle.psm_exprcode.proofs.Standing.{both_true, is_in, IsAhead, IsAway, Leads}
use Rattle.psm_exprcode.proofs.Stepping.{names, op_fits, op_leads}
use Rattle.psm_exprcode.proofs.Stripping.{left_of-some}
use Rattle.psm_code.specs.declared.code.RawCode.{RawCode}
use Rattle.psm_code.specs.declared.code.RawRoutine.{RawRoutine}
use Rattle.psm_code.specs.declared.instruction.Instruction.TheVariants as instruction
use Rattle.psm_code.specs.declared.lines.CodeLine.{CodeLine}
use Rattle.psm_code.specs.Instructions.{operation_effect, operation_raises}
use Rattle.psm_code.specs.Parts.{slots_of}
use Rattle.psm_code.specs.RoutineRules as rules
use Rattle.psm_code.specs.RoutineRules.{first_fault}
use Rattle.psm_code.specs.Run.{applied_as, settled}
use Rattle.psm_code.specs.MachineInvariant.{are_stored, StaysWellFormed}
use Rattle.psm_code.specs.State.{Machine}
use Rattle.psm_code.specs.Steps.{of_state}
use Rattle.psm_code.proofs.Acts.{Body, Has}
use Rattle.psm_code.proofs.Faults.{WellFormedRoutineCode}
use Rattle.psm_code.proofs.NextLines.{choose, known_with, next_fall_through, next_branch, machine_invariant_at, bears, Next}
use Rattle.psm_code.proofs.Handling.{raises}
use Rattle.psm_code.proofs.Quiet.{raised_marked}
use Rattle.psm_code.proofs.Raises.{there_some}
use Rattle.psm_code.proofs.Simple.{well_formed_here, with, Kept}

-- ---- stored values have the letters of their types

pub stored_letter : (t : SqlType) (d : Datum) → is_stored t d ≡ true → has_letter (letter_of t) d ≡ true
stored_letter SmallInt data_of.Null h = refl
stored_letter Integer data_of.Null h = refl
stored_letter (Numeric p s) data_of.Null h = refl
stored_letter (Char n) data_of.Null h = refl
stored_letter (VarChar n) data_of.Null h = refl
stored_letter SmallInt (data_of.Num n) h = refl
stored_letter Integer (data_of.Num n) h = refl
stored_letter (Numeric p s) (data_of.Num n) h = refl
stored_letter (Char k) (data_of.Num n) h = and_second (nat_eq n.scale 0) false h
stored_letter (VarChar k) (data_of.Num n) h = and_second (nat_eq n.scale 0) false h
stored_letter SmallInt (data_of.Text t) h = h
stored_letter Integer (data_of.Text t) h = h
stored_letter (Numeric p s) (data_of.Text t) h = h
stored_letter (Char n) (data_of.Text t) h = refl
stored_letter (VarChar n) (data_of.Text t) h = refl

pub stored_letters : (ts : List SqlType) (vs : List Datum) → are_stored ts vs ≡ true → are_of (map letter_of ts) vs ≡ true
stored_letters [] [] h = refl
stored_letters [] (v ∷ vs) h = absurd (cc)
stored_letters (t ∷ ts) [] h = absurd (cc)
stored_letters (t ∷ ts) (v ∷ vs) h = both_true (has_letter (letter_of t) v) (are_of (map letter_of ts) vs) (stored_letter t v (and_first (is_stored t v) (are_stored ts vs) h)) (stored_letters ts vs (and_second (is_stored t v) (are_stored ts vs) h))

stored_in : (ts : List SqlType) (vs : List Datum) (i : ℕ) (t : SqlType) → are_stored ts vs ≡ true → slice_get ts i ≡ Some t → is_in (letter_of t) (slice_get vs i) ≡ true
stored_in [] vs i t h e = absurd (cc)
stored_in (u ∷ ts) [] i t h e = absurd (cc)
stored_in (u ∷ ts) (v ∷ vs) zero t h e = let same : u ≡ t = cc in ap (λ x. has_letter (letter_of x) v) (sym same) ∙ stored_letter u v (and_first (is_stored u v) (are_stored ts vs) h)
stored_in (u ∷ ts) (v ∷ vs) (suc i) t h e = stored_in ts vs i t (and_second (is_stored u v) (are_stored ts vs) h) e

-- ---- what the rules say of an operation

op_bounded : (code : RawCode) (r : RawRoutine) (o : Op) → rules.constant_fits (instruction.Operation o) ≡ true → rules.names_there code r (instruction.Operation o) ≡ true → is_bounded o ≡ true
op_bounded code r (op.Constant k d) h n = h
op_bounded code r (op.Variable i) h n = refl
op_bounded code r (op.Rescale s) h n = n
op_bounded code r (op.Cast to) h n = n
op_bounded code r o h n = refl

-- the letters with which the table of expressions has its effect
record Table (r : RawRoutine) (o : Op) (vars : List Datum) (k x : Letter) : Type 0 where
  kind : Letter
  is_kind : is_value kind ≡ true
  is : operation_effect r o k x ≡ Some (effect o kind x)
  named : names [] vars o kind ≡ true
  goes : (puts : List Letter) → (effect o kind x).fall_through ≡ Some puts → rules.falls_through (instruction.Operation o) ≡ true

op_table : (code : RawCode) (r : RawRoutine) (o : Op) (vars : List Datum) (k x : Letter) → is_value k ≡ true → are_stored (slots_of r) vars ≡ true → rules.names_there code r (instruction.Operation o) ≡ true
    → rules.may_stand code r (instruction.Operation o) ≡ true → Table r o vars k x
op_table code r (op.Variable i) vars k x v h n p =
    let t = there_some (slice_get (slots_of r) i) n in
    let put : Option SqlType → Option Effect = λ o. option_map (λ l. plain (codes "VAR") [] (l ∷ [])) (option_map letter_of o) in
    record { kind = letter_of t.0; is_kind = letter_of-value t.0; is = ap put t.1; named = stored_in (slots_of r) vars i t.0 h t.1; goes = λ puts e. refl }
op_table code r (op.Column i) vars k x v h n p = absurd (cc)
op_table code r (op.Jump q) vars k x v h n p = record { kind = k; is_kind = v; is = refl; named = refl; goes = λ puts e. absurd (cc) }
op_table code r o vars k x v h n p = record { kind = k; is_kind = v; is = refl; named = refl; goes = λ puts e. refl }

op_jump : (o : Op) (k x : Letter) (j : ℕ × List Letter) → (effect o k x).branching ≡ Some j → rules.jump_of (instruction.Operation o) ≡ Some j.0
op_jump (op.Jump p) k x j e = ap (λ (o : Option (ℕ × List Letter)). option_map (λ (j : ℕ × List Letter). j.0) o) e
op_jump (op.JumpUnlessTrue p) k x j e = ap (λ (o : Option (ℕ × List Letter)). option_map (λ (j : ℕ × List Letter). j.0) o) e
op_jump (op.JumpUnlessNull p) k x j e = ap (λ (o : Option (ℕ × List Letter)). option_map (λ (j : ℕ × List Letter). j.0) o) e
op_jump o k x j e = absurd (cc)

-- ---- operations

module _ (code : RawCode) (well_formed_code : first_fault code ≡ None) (r : RawRoutine) (g : WellFormedRoutineCode code r) (c : ℕ) (resume : Option ℕ) (s : List Letter) (o : Op) where
  abbrev Line : CodeLine
  Line = with code well_formed_code r g c resume s (instruction.Operation o)

  -- where the operation may go on
  record Places (at : ℕ) (fall_through : Option (List Letter)) (branching : Option (ℕ × List Letter)) (rest : List Letter) : Type 0 where
    next : (puts : List Letter) → fall_through ≡ Some puts → Next r (suc at) (puts ++ rest) c
    jump : (j : ℕ × List Letter) → branching ≡ Some j → Next r j.0 (j.1 ++ rest) c

  went_fall_through : (m : Machine) (fall_through : Option (List Letter)) (branching : Option (ℕ × List Letter)) (rest : List Letter) (os : List Operand) → Places m.running.line fall_through branching rest → IsAhead fall_through rest os → Body code r Line m
      → StaysWellFormed code (settled code (applied_as (Went FallThrough os) m).given (applied_as (Went FallThrough os) m).machine)
  went_fall_through m None branching rest os p f h = absurd f
  went_fall_through m (Some puts) branching rest os p f h =
      let n = record m { running = record m.running { operands = os } } in
      let has : Has code r Line (puts ++ rest) n = record { body = h; operands = f } in
      machine_invariant_at code well_formed_code r g Line (suc m.running.line) (puts ++ rest) c m.running.frames n has h.frames (p.next puts refl)

  went_branch : (m : Machine) (fall_through : Option (List Letter)) (branching : Option (ℕ × List Letter)) (rest : List Letter) (os : List Operand) (q : ℕ) → Places m.running.line fall_through branching rest → IsAway branching q rest os → Body code r Line m
      → StaysWellFormed code (settled code (applied_as (Went (Jump q) os) m).given (applied_as (Went (Jump q) os) m).machine)
  went_branch m fall_through None rest os q p f h = absurd f
  went_branch m fall_through (Some jump) rest os q p f h =
      let n = record m { running = record m.running { operands = os } } in
      let has : Has code r Line (jump.1 ++ rest) n = record { body = h; operands = f.1 } in
      let next : Next r q (jump.1 ++ rest) c = subst (λ i. Next r i (jump.1 ++ rest) c) (sym f.0) (p.jump jump refl) in
      machine_invariant_at code well_formed_code r g Line q (jump.1 ++ rest) c m.running.frames n has h.frames next

  evaluates_to : (a : Applied) (m : Machine) (fall_through : Option (List Letter)) (branching : Option (ℕ × List Letter)) (rest : List Letter) → Places m.running.line fall_through branching rest → Leads fall_through branching rest a → Body code r Line m
      → ((state : List ℕ) → a ≡ Raised state → operation_raises o ≡ true) → StaysWellFormed code (settled code (applied_as a m).given (applied_as a m).machine)
  evaluates_to (Went FallThrough os) m fall_through branching rest p f h q = went_fall_through m fall_through branching rest os p f h
  evaluates_to (Went (Jump i) os) m fall_through branching rest p f h q = went_branch m fall_through branching rest os i p f h
  evaluates_to (Raised state) m fall_through branching rest p f h q = raises code well_formed_code (of_state state) m r Line g h (bears code well_formed_code r g Line m h (λ e. e) (of_state state) (q state refl))
  evaluates_to Stuck m fall_through branching rest p f h q = absurd f

  pub operation_kept : Kept code well_formed_code r g c resume s (instruction.Operation o)
  operation_kept m h =
      let line = well_formed_here code well_formed_code r g c resume s (instruction.Operation o) m h in
      let ch = choose code r m.running.line Line line in
      let t = op_table code r o m.running.variables ch.kind ch.other ch.is_kind h.body.variables line.named line.place in
      let e = effect o t.kind ch.other in
      let k = known_with code r m.running.line Line line e ch t.is in
      let constant = and_first (rules.constant_fits (instruction.Operation o)) _ line.stack in
      let below : reverse s ≡ e.takes ++ k.rest = left_of-some e.takes (reverse s) k.rest k.left in
      let p : Places m.running.line e.fall_through e.branching k.rest = record {
        next = λ puts q. next_fall_through code r m.running.line Line line puts k.rest (t.goes puts q) (ap (λ a. rules.stated_fall_through r m.running.line a k.rest) (sym q) ∙ k.fall_through);
        jump = λ j q. next_branch code r m.running.line Line line j.0 j.1 k.rest (op_jump o t.kind ch.other j q) (ap (λ a. rules.stated_branch r a k.rest) (sym q) ∙ k.branching);
      } in
      evaluates_to (applied o m.running.operands [] m.running.variables) m e.fall_through e.branching k.rest p
      (op_leads o t.kind ch.other k.rest m.running.operands [] m.running.variables t.is_kind (op_bounded code r o constant line.named) t.named (ap (λ s. have s m.running.operands) (sym below) ∙ h.operands))
      h.body (λ state q. raised_marked o m.running.operands [] m.running.variables state q)

  -- and it finds what it needs
  pub operation_fits : (m : Machine) → Has code r Line (reverse s) m → Fits o m.running.operands [] m.running.variables
  operation_fits m h =
      let line = well_formed_here code well_formed_code r g c resume s (instruction.Operation o) m h in
      let ch = choose code r m.running.line Line line in
      let t = op_table code r o m.running.variables ch.kind ch.other ch.is_kind h.body.variables line.named line.place in
      let e = effect o t.kind ch.other in
      let k = known_with code r m.running.line Line line e ch t.is in
      let constant = and_first (rules.constant_fits (instruction.Operation o)) _ line.stack in
      let below : reverse s ≡ e.takes ++ k.rest = left_of-some e.takes (reverse s) k.rest k.left in
      op_fits o t.kind ch.other k.rest m.running.operands [] m.running.variables t.is_kind (op_bounded code r o constant line.named) t.named (ap (λ s. have s m.running.operands) (sym below) ∙ h.operands)
