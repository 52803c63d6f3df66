-- Entries that can be undone, where one is added at the end or taken from there.
use Rattle.std.proofs.Common.{◌≡◌, ℕ, zero, suc, ◌+◌, ◌<◌, ◌≤◌, List, [], ◌∷◌, ◌++◌, length, drop, get_or, set, refl, ap, sym, subst, ◌∙◌, inl, inr, arith}
use Rattle.std.specs.Prelude.{◌≢◌, All}
use Rattle.std.proofs.lemmas.Bool.{cases_eq}
use Rattle.std.proofs.lemmas.List.{drop-append-le, drop_all, get_or_append_left, get_or_push, get_or_default, get_or-set_same, get_or-set_other, length-append, length-set, set-set, set-get_or, take-append-le, take_all}
use Rattle.std.proofs.lemmas.List.Elements.{All-append}
use Rattle.psm_table.specs.Definition.{IsRow, IsKey}
use Rattle.psm_table.specs.State.{State, StillKeeps}
use Rattle.psm_table.specs.Table.{Contents, IsTable}
use Rattle.psm_undostore.specs.declared.entry.Change.{Change}
use Rattle.psm_undostore.specs.declared.entry.Entry.{Entry}
use Rattle.psm_undostore.specs.Journal.{AreUndoable, CanUndo, Extends, IsReady, Leads}
use Rattle.psm_undostore.specs.Undone.{before, undone, undone_in}
use Rattle.psm_undostore.proofs.UndoneLaws.{before-last, def-undone, undone_at-other, undone_at-same, undone_in-append}

-- what a table can undo, it can after each change that lets no kept row go
pub still_can : (old new : State) (c : Change) → new.contents.def ≡ old.contents.def → StillKeeps old new → CanUndo old c → CanUndo new c
still_can old new c e k h = record {
  key = λ key is. subst (λ d. IsKey d key) (sym e) (h.key key is);
  fits = λ row is. subst (λ d. IsRow d row) (sym e) (h.fits row is);
  kept = λ row is. k row (h.kept row is);
}

module _ (states : List State) (t : ℕ) (a b : State) (inside : t < length states) (read : (d : State) → a ≡ get_or states t d) where
  -- table u of the states in which table t is another
  other_state : (u : ℕ) (d : State) → u ≢ t → get_or (set states t b) u d ≡ get_or states u d
  other_state u d n = get_or-set_other states t u b d n

  same_state : (u : ℕ) (d : State) → u ≡ t → get_or (set states t b) u d ≡ b
  same_state u d p = ap (λ i. get_or (set states t b) i d) p ∙ get_or-set_same states t b d inside

  -- an entry that was ready is, where table t has the same definition and lets no kept row go
  pub still_ready : (e : Entry) → b.contents.def ≡ a.contents.def → StillKeeps a b → IsReady states e → IsReady (set states t b) e
  still_ready e f k h = record {
    inside = omega (arith, h.inside, length-set states t b);
    can = λ d.
        elim (cases_eq e.table t) [
          | inl p ↦
              subst (λ (s : State). CanUndo s e.change) (sym (same_state e.table d p))
              (still_can a b e.change f k (subst (λ (s : State). CanUndo s e.change) (ap (λ i. get_or states i d) p ∙ sym (read d)) (h.can d)))
          | inr n ↦ subst (λ (s : State). CanUndo s e.change) (sym (other_state e.table d n)) (h.can d)
        ];
  }

  pub still_all_ready : (es : List Entry) → b.contents.def ≡ a.contents.def → StillKeeps a b → All (IsReady states) es → All (IsReady (set states t b)) es
  still_all_ready es f k h i d l = still_ready (get_or es i d) f k (h i d l)

  -- where undoing the last entry, which is about table t, leads it from a to b: the entries before it lead each table
  -- on as all of them did
  pub last_first : (e : Entry) → e.table ≡ t → b.contents ≡ undone e.change a.contents → (es : List Entry) (position u : ℕ) (d : State) → position ≤ length es →
      undone_in u (drop position (es ++ e ∷ [])) (get_or states u d).contents ≡ undone_in u (drop position es) (get_or (set states t b) u d).contents
  last_first e is back es position u d h =
      ap (λ l. undone_in u l (get_or states u d).contents) (drop-append-le position es (e ∷ []) h)
      ∙ undone_in-append u (drop position es) (e ∷ []) (get_or states u d).contents
      ∙ ap (undone_in u (drop position es)) (
      elim (cases_eq u t) as (λ _. undone_in u (e ∷ []) (get_or states u d).contents ≡ (get_or (set states t b) u d).contents) [
        | inl p ↦
            undone_at-same u e (get_or states u d).contents (is ∙ sym p)
            ∙ ap (λ (s : State). undone e.change s.contents) (ap (λ i. get_or states i d) p ∙ sym (read d))
            ∙ sym back
            ∙ ap (λ (s : State). s.contents) (sym (same_state u d p))
        | inr n ↦
            undone_at-other u e (get_or states u d).contents (λ q. n (sym q ∙ is))
            ∙ ap (λ (s : State). s.contents) (sym (other_state u d n))
      ]
      )

-- an entry is added
module _ (states : List State) (es : List Entry) (t : ℕ) (c : Change) (old new : State) (h : AreUndoable states es) (inside : t < length states)
    (read : (d : State) → old ≡ get_or states t d) (leads : Leads c old new) where
  added : Entry
  added = record { table = t; change = c }

  again : set (set states t new) t old ≡ states
  again = set-set states t new old ∙ ap (set states t) (read old) ∙ set-get_or states t old

  inside_new : t < length (set states t new)
  inside_new = omega (arith, inside, length-set states t new)

  read_new : (d : State) → new ≡ get_or (set states t new) t d
  read_new d = sym (get_or-set_same states t new d inside)

  lead_back : (position u : ℕ) (d : State) → position ≤ length es →
      undone_in u (drop position (es ++ added ∷ [])) (get_or (set states t new) u d).contents ≡ undone_in u (drop position es) (get_or states u d).contents
  unfolding added
  lead_back position u d l =
      last_first (set states t new) t new old inside_new read_new added refl (sym leads.back) es position u d l
      ∙ ap (λ (s : List State). undone_in u (drop position es) (get_or s u d).contents) again

  last_ready : IsReady (set states t new) added
  unfolding added
  last_ready = record {
    inside = inside_new;
    can = λ d. subst (λ (s : State). CanUndo s c) (read_new d) leads.can;
  }

  one_ready : All (IsReady (set states t new)) (added ∷ [])
  one_ready zero d l = last_ready
  one_ready (suc k) d l = let never : ⊥ = omega (arith, l) in absurd never

  one_about : All (λ (x : Entry). x.table ≡ t) (added ∷ [])
  unfolding added
  one_about zero d l = refl
  one_about (suc k) d l = let never : ⊥ = omega (arith, l) in absurd never

  good_at : (k u : ℕ) (d : State) → k ≤ length es → IsTable (undone_in u (drop k es) (get_or states u d).contents) → IsTable (undone_in u (drop k (es ++ added ∷ [])) (get_or (set states t new) u d).contents)
  good_at k u d l g = subst IsTable (sym (lead_back k u d l)) g

  pub added_undoable : AreUndoable (set states t new) (es ++ (record { table = t; change = c }) ∷ [])
  unfolding added
  added_undoable = record {
    ready = All-append (IsReady (set states t new)) es (added ∷ []) (still_all_ready states t old new inside read es leads.def leads.keeps h.ready) one_ready;
    tables = λ k e d l.
        elim (cases_eq k (length es)) [
          | inl p ↦
              let at_end : get_or (es ++ added ∷ []) k e ≡ added = get_or_push es added e k (sym p) in
              let none : drop k es ≡ [] = drop_all k es (omega (arith, p)) in
              let first : IsTable (undone_in t (drop k es) (get_or states t d).contents) =
              subst IsTable (ap (λ (s : State). s.contents) (read d) ∙ sym (ap (λ l. undone_in t l (get_or states t d).contents) none)) leads.table in
              subst (λ (x : Entry). IsTable (undone_in x.table (drop k (es ++ added ∷ [])) (get_or (set states t new) x.table d).contents)) (sym at_end)
              (good_at k t d (omega (arith, p)) first)
          | inr n ↦
              let here : k < length es = omega (arith, n, l, length-append es (added ∷ [])) in
              subst (λ (x : Entry). IsTable (undone_in x.table (drop k (es ++ added ∷ [])) (get_or (set states t new) x.table d).contents)) (sym (get_or_append_left es (added ∷ []) e k here))
              (good_at k (get_or es k e).table d (omega (arith, here)) (h.tables k e d here))
        ];
  }

  pub added_extends : Extends t states (set states t new) es (es ++ (record { table = t; change = c }) ∷ []) 1
  unfolding added
  added_extends = record {
    longer = length-append es (added ∷ []);
    first = take-append-le (length es) es (added ∷ []) (omega arith) ∙ take_all (length es) es (omega arith);
    about =
        subst (All (λ (x : Entry). x.table ≡ t)) (sym (drop-append-le (length es) es (added ∷ []) (omega arith) ∙ ap (λ l. l ++ added ∷ []) (drop_all (length es) es (omega arith))))
        one_about;
    same = λ position l.
        before-last (set states t new) added old new inside_new (sym leads.back ∙ ap (λ (s : State). undone c s.contents) (read_new new)) es position l
        ∙ ap (before position es) again;
    others = λ k d n. other_state states t old new inside read k d n;
  }

-- the last of some entries
module _ (states : List State) (es : List Entry) (e : Entry) (h : AreUndoable states (es ++ e ∷ [])) where
  at_end : (d : Entry) → get_or (es ++ e ∷ []) (length es) d ≡ e
  at_end d = get_or_push es e d (length es) refl

  longer : length (es ++ e ∷ []) ≡ length es + 1
  longer = length-append es (e ∷ [])

  pub last_is_ready : IsReady states e
  last_is_ready = subst (IsReady states) (at_end e) (h.ready (length es) e (omega (arith, longer)))

  pub good_last : (d : State) → IsTable (undone e.change (get_or states e.table d).contents)
  good_last d =
      let whole : IsTable (undone_in e.table (drop (length es) (es ++ e ∷ [])) (get_or states e.table d).contents) =
      subst (λ (x : Entry). IsTable (undone_in x.table (drop (length es) (es ++ e ∷ [])) (get_or states x.table d).contents)) (at_end e) (h.tables (length es) e d (omega (arith, longer))) in
      let only : drop (length es) (es ++ e ∷ []) ≡ e ∷ [] = drop-append-le (length es) es (e ∷ []) (omega arith) ∙ ap (λ l. l ++ e ∷ []) (drop_all (length es) es (omega arith)) in
      subst IsTable (ap (λ l. undone_in e.table l (get_or states e.table d).contents) only ∙ undone_at-same e.table e (get_or states e.table d).contents refl) whole

  -- it is undone
  module _ (w : State) (back : (d : State) → w.contents ≡ undone e.change (get_or states e.table d).contents) (keeps : (d : State) → StillKeeps (get_or states e.table d) w) where
    read_last : (d : State) → get_or states e.table w ≡ get_or states e.table d
    read_last d = get_or_default states e.table w d last_is_ready.inside

    pub taken_undoable : AreUndoable (set states e.table w) es
    taken_undoable = record {
      ready =
          let first : All (IsReady states) es = λ i d l. subst (IsReady states) (get_or_append_left es (e ∷ []) d i l) (h.ready i d (omega (arith, l, longer))) in
          let same_def : w.contents.def ≡ (get_or states e.table w).contents.def = ap (λ (t : Contents). t.def) (back w) ∙ def-undone e.change (get_or states e.table w).contents in
          still_all_ready states e.table (get_or states e.table w) w last_is_ready.inside read_last es same_def (keeps w) first;
      tables = λ k x d l.
          let was : IsTable (undone_in (get_or es k x).table (drop k (es ++ e ∷ [])) (get_or states (get_or es k x).table d).contents) =
          subst (λ (y : Entry). IsTable (undone_in y.table (drop k (es ++ e ∷ [])) (get_or states y.table d).contents)) (get_or_append_left es (e ∷ []) x k l) (h.tables k x d (omega (arith, l, longer))) in
          subst IsTable
          (last_first states e.table (get_or states e.table w) w last_is_ready.inside read_last e refl (back w) es k (get_or es k x).table d (omega (arith, l))) was;
    }

    pub taken_before : (position : ℕ) → position ≤ length es → before position (es ++ e ∷ []) states ≡ before position es (set states e.table w)
    taken_before position l = before-last states e w w last_is_ready.inside (back w) es position l
