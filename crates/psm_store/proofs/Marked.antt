-- What calls of a store of copies leave of its marks.
use Rattle.std.proofs.Common.{◌≡◌, ℕ, ◌+◌, ◌-◌, ◌<◌, ◌≤◌, List, ◌++◌, length, get_or, take, replicate, ap, sym, subst, ◌∙◌, arith}
use Rattle.std.proofs.lemmas.List.{length-take, get_or-take, get_or_default, take_all, append-nil}
use Rattle.psm_table.specs.Table.{Contents}
use Rattle.psm_store.specs.declared.store.Mark.{Mark}
use Rattle.psm_store.specs.Marks.{defs_of}
use Rattle.psm_store.specs.Kept.{IsKept, IsOpen, Kept, kept_of, stands_for}
use Rattle.psm_store.proofs.Runs.{rolled, rolled-last}

-- some of the outermost marks, with tables of the same definitions
pub kept_cut : (s new : Kept) (n : ℕ) → IsKept s → new.marks ≡ take n s.marks → defs_of new.tables ≡ defs_of s.tables → IsKept new
kept_cut s new n h e f =
    let cut : IsKept (record { tables = new.tables; marks = take n s.marks }) = record {
      bound = omega (arith, h.bound, length-take n s.marks);
      defined = λ k d l.
          let inside : k < length s.marks = omega (arith, l, length-take n s.marks) in
          let below : k < n = omega (arith, l, length-take n s.marks) in
          ap defs_of (get_or-take n s.marks k d below) ∙ h.defined k d inside ∙ sym f;
    } in
    subst (λ (m : List (List Contents)). IsKept (record { tables = new.tables; marks = m })) (sym e) cut

-- each of those stays open, and stands for the same tables
pub keeps_cut : (s new : Kept) (n : ℕ) → new.marks ≡ take n s.marks → (m : Mark) → IsOpen s m → m.depth < n → IsOpen new m × (stands_for new m ≡ stands_for s m)
keeps_cut s new n e m o h =
    let depth : m.depth < length new.marks = omega (arith, h, o.depth, ap length e, length-take n s.marks) in (
      record { depth = depth; position = o.position },
      ap (λ l. get_or l m.depth new.tables) e ∙ get_or-take n s.marks m.depth new.tables h ∙ get_or_default s.marks m.depth new.tables s.tables o.depth,
    )

-- the same marks, with tables of the same definitions
pub kept_same : (s new : Kept) → IsKept s → new.marks ≡ s.marks → defs_of new.tables ≡ defs_of s.tables → IsKept new
kept_same s new h e f = kept_cut s new (length s.marks) h (e ∙ sym (take_all (length s.marks) s.marks (omega arith))) f

-- a row call: the copies have all marks, and the tables are others of the same definitions
pub rows_kept : (tables new : List Contents) (copies all : List (List Contents)) (n m : ℕ) → IsKept (kept_of tables copies n) →
    defs_of new ≡ defs_of tables → m ≡ 0 → all ≡ copies ++ replicate n tables → IsKept (kept_of new all m)
rows_kept tables new copies all n m h e none f =
    let marks : all ++ replicate m new ≡ copies ++ replicate n tables = ap (λ k. all ++ replicate k new) none ∙ append-nil all ∙ f in
    kept_same (kept_of tables copies n) (kept_of new all m) h marks e

-- a rollback, after which the rest of the copies stand
module _ (s : Kept) (mark : Mark) (tables new : List Contents) (copies rest : List (List Contents)) (n len : ℕ)
    (seen : kept_of tables copies n ≡ s) (inside : mark.depth < length s.marks) (outside : length rest ≤ mark.depth) (long : len ≡ length rest)
    (restored : take (mark.depth + 1) (rest ++ replicate (mark.depth + 1) new) ≡ take (mark.depth + 1) (copies ++ replicate (mark.depth + 1) tables)) where
  deep : mark.depth < length (copies ++ replicate n tables)
  deep = omega (arith, inside, ap (λ (k : Kept). length k.marks) seen)

  pub rolled_marks : (kept_of new rest (mark.depth + 1 - len)).marks ≡ take (mark.depth + 1) s.marks
  rolled_marks =
      ap (λ k. rest ++ replicate (mark.depth + 1 - k) new) long
      ∙ rolled mark.depth n copies rest new tables deep outside restored
      ∙ ap (λ (k : Kept). take (mark.depth + 1) k.marks) seen

  pub rolled_tables : new ≡ stands_for s mark
  rolled_tables =
      rolled-last mark.depth n copies rest new tables deep outside restored s.tables
      ∙ ap (λ (k : Kept). get_or k.marks mark.depth s.tables) seen

  pub rolled_defs : IsKept (kept_of tables copies n) → defs_of new ≡ defs_of s.tables
  rolled_defs h =
      let kept : IsKept s = subst IsKept seen h in
      ap defs_of rolled_tables ∙ kept.defined mark.depth s.tables inside

  pub rolled_kept : IsKept (kept_of tables copies n) → IsKept (kept_of new rest (mark.depth + 1 - len))
  rolled_kept h = kept_cut s (kept_of new rest (mark.depth + 1 - len)) (mark.depth + 1) (subst IsKept seen h) rolled_marks (rolled_defs h)

  pub rolled_keeps : (m : Mark) → IsOpen s m → m.depth < mark.depth + 1 →
      IsOpen (kept_of new rest (mark.depth + 1 - len)) m × (stands_for (kept_of new rest (mark.depth + 1 - len)) m ≡ stands_for s m)
  rolled_keeps m o h = keeps_cut s (kept_of new rest (mark.depth + 1 - len)) (mark.depth + 1) rolled_marks m o h
