-- The CHECKs on one row, one after another, and the keys of two rows value by value.
use Rattle.std.proofs.Common.{◌≡◌, ℕ, ◌+◌, ◌<◌, List, length, get_or, drop, Bool, true, ◌&&◌, refl, ap, sym, ◌∙◌, Result, Ok, Err}
use Rattle.std.specs.Ordering.{ordering_then}
use Rattle.std.proofs.Math.Seq.{drop-length}
use Rattle.std.proofs.lemmas.List.{get_or_default}
use Rattle.psm_sqlstate.specs.declared.state.SqlState.{SqlState}
use Rattle.psm_value.specs.Answer.{Gives}
use Rattle.psm_value.specs.Order.{data_order}
use Rattle.psm_value.specs.declared.datum.Datum.{Datum}
use Rattle.psm_value.specs.declared.datum.Datum.TheVariants.{Null}
use Rattle.psm_value.specs.declared.fault.ValueFault.{ValueFault}
use Rattle.psm_value.specs.declared.fault.ValueFault.TheVariants.{Condition, Memory}
use Rattle.psm_value.specs.declared.truth.Truth.{Truth}
use Rattle.psm_table.specs.Changing.{is_kept, row_passes}
use Rattle.psm_table.specs.Evaluator.{Evaluator, and_then, mapped}
use Rattle.psm_table.specs.Key.{key_order, values_at}
use Rattle.psm_tablecode.proofs.Collecting.{first_of}
use Rattle.psm_dml.proofs.Judging.{and_moved, and_true}

pub mapped_true : (r : Result Bool SqlState) → mapped (λ more. true && more) r ≡ r
mapped_true (Ok b) = refl
mapped_true (Err s) = refl

module _ {E : Type 0} (ev : Evaluator E) (checks : List E) (row : List Datum) where
  -- with what is known, the rest of the CHECKs evaluate to what all evaluate to
  abbrev pub Holds : ℕ → Bool → Type 0
  Holds at kept = mapped (λ more. kept && more) (row_passes ev (drop at checks) row) ≡ row_passes ev checks row

  joined : (kept b : Bool) (r : Result Bool SqlState) → mapped (λ m. kept && m) (mapped (λ m. b && m) r) ≡ mapped (λ m. (kept && b) && m) r
  joined kept b (Ok m) = ap Ok (and_moved kept b m)
  joined kept b (Err s) = refl

  abbrev further : Result Truth SqlState → ℕ → Result Bool SqlState
  further r at = and_then r (λ t. mapped (λ more. is_kept t && more) (row_passes ev (drop at checks) row))

  rest_is : (at : ℕ) (check : E) → at < length checks → check ≡ get_or checks at check → row_passes ev (drop at checks) row ≡ further (ev.truth check row) (at + 1)
  rest_is at check l e = ap (λ cs. row_passes ev cs row) (first_of checks at check l e)

  pub holds_next : (at : ℕ) (check : E) (t : Truth) (kept more : Bool) → at < length checks → check ≡ get_or checks at check → ev.truth check row ≡ Ok t → more ≡ (kept && is_kept t) → Holds at kept → Holds (at + 1) more
  holds_next at check t kept more l e f m h =
      ap (λ b. mapped (λ x. b && x) (row_passes ev (drop (at + 1) checks) row)) m
      ∙ sym (joined kept (is_kept t) (row_passes ev (drop (at + 1) checks) row))
      ∙ sym (ap (λ r. mapped (λ x. kept && x) (further r (at + 1))) f)
      ∙ sym (ap (mapped (λ x. kept && x)) (rest_is at check l e)) ∙ h

  pub holds_fault : (at : ℕ) (check : E) (fault : ValueFault) (kept : Bool) → at < length checks → check ≡ get_or checks at check → Gives (ev.truth check row) (Err fault) → Holds at kept → Gives (row_passes ev checks row) (Err fault)
  holds_fault at check (Condition s) kept l e f h = sym h ∙ ap (mapped (λ x. kept && x)) (rest_is at check l e) ∙ ap (λ r. mapped (λ x. kept && x) (further r (at + 1))) f
  holds_fault at check Memory kept l e f h = tt

  pub holds_end : (kept : Bool) → Holds (length checks) kept → row_passes ev checks row ≡ Ok kept
  holds_end kept h = sym h ∙ ap (λ cs. mapped (λ x. kept && x) (row_passes ev cs row)) (drop-length checks) ∙ ap Ok (and_true kept)

-- the values in a column of the key, and else those in the columns that follow
pub order_next : (key : List ℕ) (a b : List Datum) (i : ℕ) (x y : Datum) → i < length key → get_or key i 0 < length a → get_or key i 0 < length b
    → x ≡ get_or a (get_or key i 0) x → y ≡ get_or b (get_or key i 0) y
    → key_order (values_at (drop i key) a) (values_at (drop i key) b) ≡ ordering_then (data_order x y) (key_order (values_at (drop (i + 1) key) a) (values_at (drop (i + 1) key) b))
order_next key a b i x y l m n e f =
    ap (λ ks. key_order (values_at ks a) (values_at ks b)) (first_of key i (get_or key i 0) l (get_or_default key i 0 (get_or key i 0) l))
    ∙ ap (λ z. ordering_then (data_order z (get_or b (get_or key i 0) Null)) (key_order (values_at (drop (i + 1) key) a) (values_at (drop (i + 1) key) b))) (get_or_default a (get_or key i 0) Null x m ∙ sym e)
    ∙ ap (λ z. ordering_then (data_order x z) (key_order (values_at (drop (i + 1) key) a) (values_at (drop (i + 1) key) b))) (get_or_default b (get_or key i 0) Null y n ∙ sym f)
