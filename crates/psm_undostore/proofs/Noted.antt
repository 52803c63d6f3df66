-- Tables of a store that undoes changes: each is tidy or touched.
use Rattle.std.proofs.Common.{◌≡◌, ℕ, ◌+◌, ◌<◌, Bool, true, false, List, ◌++◌, length, drop, get_or, set, take, refl, ap, sym, subst, ◌∙◌, inl, inr, arith, true≢false}
use Rattle.std.specs.Prelude.{◌≢◌, All}
use Rattle.std.proofs.lemmas.Bool.{cases_eq}
use Rattle.std.proofs.lemmas.List.{get_or-set_other, length-set, take-append-drop}
use Rattle.std.proofs.lemmas.List.Elements.{All-append, All-drop, All-take, All-weaker}
use Rattle.psm_table.specs.State.{IsTidy, State}
use Rattle.psm_undostore.specs.declared.entry.Entry.{Entry}
use Rattle.psm_undostore.specs.Journal.{AreUndoable, Extends, OthersStay}
use Rattle.psm_undostore.specs.Touched.{IsNoted, is_touched}
use Rattle.psm_undostore.specs.Undo.{IsUndo}
use Rattle.psm_undostore.proofs.Calls.{written}
use Rattle.psm_undostore.proofs.Held.{called_undo, undo_of}
use Rattle.psm_undostore.proofs.Settled.{touched_here, touched_still}

module _ (flags : List Bool) (states : List State) (entries : List Entry) (marks : ℕ) (h : IsNoted flags (undo_of states entries marks)) where
  -- another number of marks
  pub noted_marks : (count : ℕ) → 0 < count → IsNoted flags (undo_of states entries count)
  noted_marks count l = record {
    size = h.size;
    tidy = h.tidy;
    changes = h.changes;
    idle = λ e. let never : ⊥ = omega (arith, e, l) in absurd never;
  }

  -- a row call on table t with a mark
  pub noted_call : (t : ℕ) (new : List State) (more : List Entry) (count : ℕ) → 0 < marks → t < length states → length new ≡ length states → Extends t states new entries more count →
      IsNoted (set flags t true) (undo_of new more marks)
  noted_call t new more count some inside long call =
      let room : t < length flags = omega (arith, inside, h.size) in
      let first : All (λ (e : Entry). is_touched (set flags t true) e.table ≡ true) entries =
      All-weaker (λ (e : Entry). is_touched flags e.table ≡ true) (λ (e : Entry). is_touched (set flags t true) e.table ≡ true) (λ e q. touched_still flags t room e.table q) entries h.changes in
      let last : All (λ (e : Entry). is_touched (set flags t true) e.table ≡ true) (drop (length entries) more) =
      All-weaker (λ (e : Entry). e.table ≡ t) (λ (e : Entry). is_touched (set flags t true) e.table ≡ true) (λ e q. touched_here flags t room e.table q) (drop (length entries) more) call.about in record {
        size = omega (arith, length-set flags t true, h.size, long);
        tidy = λ u d l untouched.
            elim (cases_eq u t) as (λ _. IsTidy (get_or new u d)) [
              | inl p ↦ absurd (true≢false (sym (touched_here flags t room u p) ∙ untouched))
              | inr n ↦ subst IsTidy (sym (call.others u d n)) (h.tidy u d (omega (arith, l, long)) (sym (get_or-set_other flags t u true false n) ∙ untouched))
            ];
        changes =
            subst (All (λ (e : Entry). is_touched (set flags t true) e.table ≡ true)) (take-append-drop (length entries) more)
            (All-append (λ (e : Entry). is_touched (set flags t true) e.table ≡ true) (take (length entries) more) (drop (length entries) more)
            (subst (All (λ (e : Entry). is_touched (set flags t true) e.table ≡ true)) (sym call.first) first) last);
        idle = λ e. let never : ⊥ = omega (arith, e, some) in absurd never;
      }

  -- a rollback
  pub noted_back : (position count : ℕ) (new : List State) (left : List Entry) → 0 < count → length new ≡ length states → left ≡ take position entries → OthersStay (drop position entries) states new →
      IsNoted flags (undo_of new left count)
  noted_back position count new left some long first stay = record {
    size = omega (arith, h.size, long);
    tidy = λ u d l untouched.
        subst IsTidy
        (sym (stay u
        (All-drop (λ (e : Entry). e.table ≢ u) position entries
        (All-weaker (λ (e : Entry). is_touched flags e.table ≡ true) (λ (e : Entry). e.table ≢ u) (λ e q p. true≢false (sym q ∙ ap (is_touched flags) p ∙ untouched)) entries h.changes)) d))
        (h.tidy u d (omega (arith, l, long)) untouched);
    changes = subst (All (λ (e : Entry). is_touched flags e.table ≡ true)) (sym first) (All-take (λ (e : Entry). is_touched flags e.table ≡ true) position entries h.changes);
    idle = λ e. let never : ⊥ = omega (arith, e, some) in absurd never;
  }

  -- the same of the store, whose tables were lent and written over
  module _ (is : IsUndo (undo_of states entries marks)) (len : ℕ) (sized : len ≡ length states) (lent new : List State) (whole : lent ≡ states) (long : length new ≡ length lent) where
    pub kept_call : (t : ℕ) (next : List Bool) (more : List Entry) (count : ℕ) → 0 < marks → next ≡ set flags t true → t < length lent → AreUndoable new more → Extends t lent new entries more count →
        IsUndo (undo_of (take len (new ++ drop (length new) states)) more marks) × IsNoted next (undo_of (take len (new ++ drop (length new) states)) more marks)
    kept_call t next more count some listed inside undoable call =
        let wide : length new ≡ length states = long ∙ ap length whole in
        let there : Extends t states new entries more count = subst (λ (s : List State). Extends t s new entries more count) whole call in
        subst (λ (s : List State). IsUndo (undo_of s more marks) × IsNoted next (undo_of s more marks)) (sym (written states new len sized wide)) (
          called_undo states entries marks (undo_of states entries marks) refl new more is some undoable,
          subst (λ (l : List Bool). IsNoted l (undo_of new more marks)) (sym listed) (noted_call t new more count some (omega (arith, inside, ap length whole)) wide there),
        )
