-- A store and its marks, after each call of it.
use Rattle.std.proofs.Common.{◌≡◌, ℕ, zero, suc, ◌+◌, ◌<◌, ◌≤◌, ◌⊎◌, inl, inr, List, [], ◌∷◌, ◌++◌, length, take, refl, ap, sym, subst, ◌∙◌, arith}
use Rattle.std.specs.Prelude.{All, Some, slice_get}
use Rattle.std.proofs.lemmas.List.{length-append, length-map, length-take-le}
use Rattle.std.proofs.lemmas.Option.{slice_get_within}
use Rattle.psm_table.specs.declared.definition.TableDef.{TableDef}
use Rattle.psm_table.specs.Table.{Contents, empty_table}
use Rattle.psm_store.specs.declared.store.Mark.{Mark}
use Rattle.psm_store.specs.Marks.{AnyMark, IsNewMark, IsOutside, Keeps, defs_of}
use Rattle.store_rows.specs.Bench.{AreHeld, IsBench}
use Rattle.store_rows.specs.Parts.{IsPartsTable}

-- an item of a list with one more after it is one of the list, or that one
get-following : {X : Type 0} (xs : List X) (x : X) (k : ℕ) (y : X) → slice_get (xs ++ x ∷ []) k ≡ Some y → (slice_get xs k ≡ Some y) ⊎ ((k ≡ length xs) × (x ≡ y))
get-following [] x zero y e = inr (refl, cc)
get-following [] x (suc k) y e = cc
get-following (z ∷ zs) x zero y e = inl e
get-following (z ∷ zs) x (suc k) y e = elim (get-following zs x k y e) [ inl p ↦ inl p | inr p ↦ inr (ap suc p.0, p.1) ]

-- an item of the beginning of a list is one of the list
get-take : {X : Type 0} (n : ℕ) (xs : List X) (k : ℕ) (y : X) → slice_get (take n xs) k ≡ Some y → (slice_get xs k ≡ Some y) × (k < n)
get-take zero xs k y e = cc
get-take (suc n) [] k y e = cc
get-take (suc n) (x ∷ xs) zero y e = (e, omega arith)
get-take (suc n) (x ∷ xs) (suc k) y e = let r = get-take n xs k y e in (r.0, omega (arith, r.1))

-- a number below the next is below, or is it
below-or-at : (k d : ℕ) → k < d + 1 → (k < d) ⊎ (k ≡ d)
below-or-at zero zero h = inr refl
below-or-at zero (suc d) h = inl (omega arith)
below-or-at (suc k) zero h = absurd (omega (arith, h))
below-or-at (suc k) (suc d) h = elim (below-or-at k d (omega (arith, h))) [ inl p ↦ inl (omega (arith, p)) | inr p ↦ inr (ap suc p) ]

-- two tables of parts, where there are as many of the same definitions
two_tables : (ts us : List Contents) → length ts ≡ 2 → defs_of us ≡ defs_of ts → length us ≡ 2
two_tables ts us two e = sym (length-map us (λ t. t.def)) ∙ ap length e ∙ length-map ts (λ t. t.def) ∙ two

-- no marks are held
no-marks : (H : Mark → Type 0) → AreHeld H []
no-marks H = record { held = λ k m e. cc; deep = λ k m e. cc; rising = λ j k m n below e f. cc }

two_parts : (d e : TableDef) → IsPartsTable d → IsPartsTable e → All IsPartsTable (d ∷ e ∷ [])
two_parts d e p q zero o l = p
two_parts d e p q (suc zero) o l = q
two_parts d e p q (suc (suc k)) o l = let never : ⊥ = omega (arith, l) in absurd never

-- a new store of two tables of parts
pub new_bench : (d e : TableDef) (ts : List Contents) (m : ℕ) (H : Mark → Type 0) → IsPartsTable d → IsPartsTable e
    → ts ≡ empty_table d ∷ empty_table e ∷ [] → m ≡ 0 → IsBench ts m H []
new_bench d e ts m H p q same none = record {
  two = ap length same;
  parts = subst (λ (xs : List Contents). All IsPartsTable (defs_of xs)) (sym same) (two_parts d e p q);
  counted = none;
  held = no-marks H;
}

-- after a call that keeps the marks and the definitions
pub kept : (ts us : List Contents) (m n : ℕ) (H K : Mark → Type 0) (old new : Mark → List Contents) (marks : List Mark)
    → IsBench ts m H marks → defs_of us ≡ defs_of ts → n ≡ m → Keeps AnyMark H old K new → IsBench us n K marks
kept ts us m n H K old new marks b e same keeps = record {
  two = two_tables ts us b.two e;
  parts = subst (λ (ds : List TableDef). All IsPartsTable ds) (sym e) b.parts;
  counted = same ∙ b.counted;
  held = record { held = λ k x g. (keeps x (b.held.held k x g) tt).0; deep = b.held.deep; rising = b.held.rising };
}

-- after a mark was opened
pub opened : (ts us : List Contents) (m n : ℕ) (H K : Mark → Type 0) (old new : Mark → List Contents) (marks : List Mark) (mark : Mark)
    → IsBench ts m H marks → us ≡ ts → n ≡ m + 1 → IsNewMark m ts H K new mark → Keeps AnyMark H old K new → IsBench us n K (marks ++ mark ∷ [])
opened ts us m n H K old new marks mark b e more made keeps = record {
  two = subst (λ (xs : List Contents). length xs ≡ 2) (sym e) b.two;
  parts = subst (λ (xs : List Contents). All IsPartsTable (defs_of xs)) (sym e) b.parts;
  counted = more ∙ ap (λ k. k + 1) b.counted ∙ sym (length-append marks (mark ∷ []));
  held = record {
    held = λ k x g. elim (get-following marks mark k x g) [ inl p ↦ (keeps x (b.held.held k x p) tt).0 | inr p ↦ subst K p.1 made.held ];
    deep = λ k x g. elim (get-following marks mark k x g) [ inl p ↦ b.held.deep k x p | inr p ↦ ap (λ y. y.depth) (sym p.1) ∙ made.deepest ∙ b.counted ∙ sym p.0 ];
    rising = λ j k x y below g h. elim (get-following marks mark k y h) [
      | inl p ↦ elim (get-following marks mark j x g) [
        | inl q ↦ b.held.rising j k x y below q p
        | inr q ↦ absurd (omega (arith, below, q.0, slice_get_within marks k y p))
      ]
      | inr p ↦ elim (get-following marks mark j x g) [
        | inl q ↦ subst (λ (z : Mark). x.position ≤ z.position) p.1 (made.last x (b.held.held j x q))
        | inr q ↦ absurd (omega (arith, below, q.0, p.0))
      ]
    ];
  };
}

-- the marks before one that is closed, or put back to
outer : (ts : List Contents) (m : ℕ) (H : Mark → Type 0) (marks : List Mark) (d : ℕ) (mark : Mark) → IsBench ts m H marks → slice_get marks d ≡ Some mark
    → (k : ℕ) (x : Mark) → k < d → slice_get marks k ≡ Some x → H x × IsOutside mark x
outer ts m H marks d mark b at k x below g =
    (b.held.held k x g, (omega (arith, below, b.held.deep k x g, b.held.deep d mark at), b.held.rising k d x mark below g at))

-- after a rollback to the mark of that depth
pub rolled : (ts us : List Contents) (m n : ℕ) (H K : Mark → Type 0) (old new : Mark → List Contents) (marks : List Mark) (d : ℕ) (mark : Mark)
    → IsBench ts m H marks → slice_get marks d ≡ Some mark → defs_of us ≡ defs_of ts → n ≡ mark.depth + 1 → K mark → Keeps (IsOutside mark) H old K new
    → IsBench us n K (take (d + 1) marks)
rolled ts us m n H K old new marks d mark b at e count held keeps = record {
  two = two_tables ts us b.two e;
  parts = subst (λ (ds : List TableDef). All IsPartsTable ds) (sym e) b.parts;
  counted = count ∙ ap (λ k. k + 1) (b.held.deep d mark at) ∙ sym (length-take-le (d + 1) marks (omega (arith, slice_get_within marks d mark at)));
  held = record {
    held = λ k x g. let r = get-take (d + 1) marks k x g in elim (below-or-at k d r.1) [
      | inl p ↦ let o = outer ts m H marks d mark b at k x p r.0 in (keeps x o.0 o.1).0
      | inr p ↦ subst K (cc (at, r.0, p)) held
    ];
    deep = λ k x g. b.held.deep k x (get-take (d + 1) marks k x g).0;
    rising = λ j k x y below g h. b.held.rising j k x y below (get-take (d + 1) marks j x g).0 (get-take (d + 1) marks k y h).0;
  };
}

-- after the mark of that depth was closed
pub closed : (ts us : List Contents) (m n : ℕ) (H K : Mark → Type 0) (old new : Mark → List Contents) (marks : List Mark) (d : ℕ) (mark : Mark)
    → IsBench ts m H marks → slice_get marks d ≡ Some mark → us ≡ ts → n ≡ mark.depth → Keeps (IsOutside mark) H old K new
    → IsBench us n K (take d marks)
closed ts us m n H K old new marks d mark b at e count keeps = record {
  two = subst (λ (xs : List Contents). length xs ≡ 2) (sym e) b.two;
  parts = subst (λ (xs : List Contents). All IsPartsTable (defs_of xs)) (sym e) b.parts;
  counted = count ∙ b.held.deep d mark at ∙ sym (length-take-le d marks (omega (arith, slice_get_within marks d mark at)));
  held = record {
    held = λ k x g. let r = get-take d marks k x g in let o = outer ts m H marks d mark b at k x r.1 r.0 in (keeps x o.0 o.1).0;
    deep = λ k x g. b.held.deep k x (get-take d marks k x g).0;
    rising = λ j k x y below g h. b.held.rising j k x y below (get-take d marks j x g).0 (get-take d marks k y h).0;
  };
}
