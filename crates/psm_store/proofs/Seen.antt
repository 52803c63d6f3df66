-- Tables seen as what is in them, one of which a row call leaves.
use Rattle.std.proofs.Common.{◌≡◌, ℕ, zero, suc, ◌+◌, ◌<◌, List, [], ◌∷◌, ◌++◌, length, get_or, set, take, refl, ap, sym, ◌∙◌, add-one, arith}
use Rattle.std.specs.Prelude.{Result}
use Rattle.std.proofs.lemmas.List.{get_or-map, length-map, map-append}
use Rattle.psm_table.specs.declared.fault.RowFault.{RowFault}
use Rattle.psm_table.specs.State.{State}
use Rattle.psm_table.specs.Table.{Contents}
use Rattle.psm_store.specs.Kept.{contents_of}
use Rattle.psm_store.specs.Marks.{defs_of}
use Rattle.psm_store.specs.RowCalls.{after, row_after}
use Rattle.psm_store.proofs.Changes.{defs-after, set-after}

contents-set : (states : List State) (t : ℕ) (s : State) → contents_of (set states t s) ≡ set (contents_of states) t s.contents
contents-set [] t s = refl
contents-set (x ∷ xs) zero s = refl
contents-set (x ∷ xs) (suc t) s = ap (λ l. x.contents ∷ l) (contents-set xs t s)

module _ (change : Contents → Contents) (r : Result (Unit {0}) RowFault) (states : List State) (seen : List Contents) (t : ℕ) (x s : State)
    (view : contents_of states ≡ seen) (inside : t < length seen) (at : x ≡ get_or states t x) (left : s.contents ≡ row_after r change x.contents) where
  read : x.contents ≡ get_or seen t x.contents
  read =
      ap (λ (y : State). y.contents) at
      ∙ sym (get_or-map (λ (y : State). y.contents) states t x x.contents (omega (arith, inside, ap length view, length-map states (λ (y : State). y.contents))))
      ∙ ap (λ l. get_or l t x.contents) view

  pub seen-after : contents_of (set states t s) ≡ after r change seen t
  seen-after =
      contents-set states t s ∙ ap (λ l. set l t s.contents) view
      ∙ set-after change r seen t x.contents s.contents inside read (left ∙ ap (row_after r change) read)

  pub defs-seen : ((c : Contents) → (change c).def ≡ c.def) → defs_of (contents_of (set states t s)) ≡ defs_of seen
  defs-seen h = ap defs_of seen-after ∙ defs-after change h r seen t

-- what is in some first tables, and in one more
take-seen : (states : List State) (i : ℕ) (x : State) → i < length states → take (suc i) (contents_of states) ≡ take i (contents_of states) ++ (get_or states i x).contents ∷ []
take-seen [] i x l = absurd (omega arith)
take-seen (s ∷ ss) zero x l = refl
take-seen (s ∷ ss) (suc i) x l = ap (λ r. s.contents ∷ r) (take-seen ss i x (omega arith))

pub seen-more : (copies states : List State) (seen : List Contents) (i : ℕ) (copy x : State) → contents_of states ≡ seen → contents_of copies ≡ take i seen
    → i < length states → x ≡ get_or states i x → copy ≡ x → contents_of (copies ++ copy ∷ []) ≡ take (i + 1) seen
seen-more copies states seen i copy x view e l at same =
    map-append (λ (y : State). y.contents) copies (copy ∷ [])
    ∙ ap (λ cs. cs ++ copy.contents ∷ []) (e ∙ ap (take i) (sym view))
    ∙ ap (λ (y : State). take i (contents_of states) ++ y.contents ∷ []) (same ∙ at)
    ∙ rw add-one (sym (take-seen states i x l) ∙ ap (take (suc i)) view)
