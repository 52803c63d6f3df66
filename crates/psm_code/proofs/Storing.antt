-- Variables that are stored into, and pending warnings.
use Rattle.std.proofs.Common.{◌≡◌, ℕ, zero, suc, Bool, true, false, List, [], ◌∷◌, refl, ap, sym, ◌∙◌, Option, Some, None}
use Rattle.std.specs.Prelude.{slice_get, slice_set}
use Rattle.psm_num.proofs.Literals.{and_first, and_second}
use Rattle.psm_sqlstate.specs.declared.state.SqlState.{SqlState}
use Rattle.psm_value.specs.declared.datum.Datum.{Datum}
use Rattle.psm_value.specs.declared.sqltype.SqlType.{SqlType}
use Rattle.psm_value.specs.Fetched.{fetched}
use Rattle.psm_value.specs.Stored.{is_stored, stored}
use Rattle.psm_value.proofs.Stable.{fetched-as_stored, stored-as_stored}
use Rattle.psm_exprcode.specs.declared.op.Letter.{Letter}
use Rattle.psm_exprcode.specs.Kinds.{letter_of}
use Rattle.psm_exprcode.proofs.Results.{letter_of-value}
use Rattle.psm_exprcode.proofs.Standing.{both_true}
use Rattle.psm_code.specs.declared.code.RawCode.{RawCode}
use Rattle.psm_code.specs.declared.code.RawRoutine.{RawRoutine}
use Rattle.psm_code.specs.declared.lines.CodeLine.{CodeLine}
use Rattle.psm_code.specs.Instructions.{may_raise}
use Rattle.psm_code.specs.Parts.{slots_of}
use Rattle.psm_code.specs.Run.{losing, retrieve, store, warn, warned}
use Rattle.psm_code.specs.MachineInvariant.{are_stored}
use Rattle.psm_code.specs.State.{Machine, with_variable}
use Rattle.psm_code.specs.Steps.{change}
use Rattle.psm_code.proofs.Acts.{Has, Does, and_then, pop_does, present_does, tried_does}

-- a value of the type in a slot
set_stored : (ts : List SqlType) (vs : List Datum) (slot : ℕ) (t : SqlType) (d : Datum) → are_stored ts vs ≡ true → slice_get ts slot ≡ Some t → is_stored t d ≡ true → are_stored ts (slice_set vs slot d) ≡ true
set_stored [] vs slot t d h e g = absurd (cc)
set_stored (u ∷ ts) [] slot t d h e g = absurd (cc)
set_stored (u ∷ ts) (v ∷ vs) zero t d h e g = let same : u ≡ t = cc in both_true (is_stored u d) (are_stored ts vs) (ap (λ x. is_stored x d) same ∙ g) (and_second (is_stored u v) (are_stored ts vs) h)
set_stored (u ∷ ts) (v ∷ vs) (suc slot) t d h e g = both_true (is_stored u v) (are_stored ts (slice_set vs slot d)) (and_first (is_stored u v) (are_stored ts vs) h) (set_stored ts vs slot t d (and_second (is_stored u v) (are_stored ts vs) h) e g)

module _ (code : RawCode) (r : RawRoutine) (l : CodeLine) (may : may_raise l.instruction ≡ true) where
  with_stored : (slot : ℕ) (t : SqlType) (s : List Letter) (d : Datum) (m : Machine) → slice_get (slots_of r) slot ≡ Some t → is_stored t d ≡ true → Has code r l s m → Has code r l s (with_variable slot d m)
  with_stored slot t s d m e g h = record {
    body = record {
      routine = h.body.routine;
      line = h.body.line;
      variables = set_stored (slots_of r) m.running.variables slot t d h.body.variables e g;
      cursors = h.body.cursors;
      frames = h.body.frames;
      callers = h.body.callers;
      depth = h.body.depth;
      tables = h.body.tables;
    };
    operands = h.operands;
  }

  pub store_does : (slot : ℕ) (t : SqlType) (s : List Letter) (m : Machine) → slice_get (slots_of r) slot ≡ Some t → Has code r l (letter_of t ∷ s) m
      → Does code r l (λ u n. Has code r l s n) (store r slot) m
  store_does slot t s m e h =
      and_then code r l (λ u n. (u ≡ t) × Has code r l (letter_of t ∷ s) n) _ _ _ _ (present_does code r l _ _ t m e (refl, h)) (λ u n g.
      and_then code r l _ _ _ _ _ (pop_does code r l (letter_of t) s n (letter_of-value t) g.1) (λ d k f.
      and_then code r l _ _ _ _ _ (tried_does code r l (λ v. is_stored t v ≡ true) (Has code r l s) (stored u d) k may f.1.body f.1 (λ v q. stored-as_stored t d v (ap (λ x. stored x d) (sym g.0) ∙ q))) (λ v j i.
      record { evaluates = with_stored slot t s v j e i.0 i.1 })))

  losing_does : (s : List Letter) (lost : Bool) (m : Machine) → Has code r l s m → Does code r l (λ u n. Has code r l s n) (losing lost) m
  losing_does s true m h = record { evaluates = record { body = h.body; operands = h.operands } }
  losing_does s false m h = record { evaluates = h }

  pub retrieve_does : (slot : ℕ) (t : SqlType) (s : List Letter) (m : Machine) → slice_get (slots_of r) slot ≡ Some t → Has code r l (letter_of t ∷ s) m
      → Does code r l (λ u n. Has code r l s n) (retrieve r slot) m
  retrieve_does slot t s m e h =
      and_then code r l (λ u n. (u ≡ t) × Has code r l (letter_of t ∷ s) n) _ _ _ _ (present_does code r l _ _ t m e (refl, h)) (λ u n g.
      and_then code r l _ _ _ _ _ (pop_does code r l (letter_of t) s n (letter_of-value t) g.1) (λ d k f.
      and_then code r l _ _ _ _ _ (tried_does code r l (λ v. is_stored t v.0 ≡ true) (Has code r l s) (fetched u d) k may f.1.body f.1 (λ v q. fetched-as_stored t d v.0 v.1 (ap (λ x. fetched x d) (sym g.0) ∙ q))) (λ v j i.
      and_then code r l (λ u n. Has code r l s n) _ (change (with_variable slot v.0)) _ _ (record { evaluates = with_stored slot t s v.0 j e i.0 i.1 }) (λ u n x.
      losing_does s v.1 n x))))

  warned_does : (s : List Letter) (w : Option SqlState) (m : Machine) → Has code r l s m → Does code r l (λ u n. Has code r l s n) (warned w) m
  warned_does s None m h = record { evaluates = h }
  warned_does s (Some w) m h = record { evaluates = (may, h.body) }

  pub warn_does : (s : List Letter) (m : Machine) → Has code r l s m → Does code r l (λ u n. Has code r l s n) warn m
  warn_does s m h = record { evaluates = (warned_does s m.pending m h).evaluates }
