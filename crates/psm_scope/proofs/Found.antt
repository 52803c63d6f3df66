-- Functions found by their name and kinds.
use Rattle.std.proofs.Common.{◌≡◌, ◌<◌, ℕ, ◌+◌, suc, Bool, true, false, ◌&&◌, nat_eq, cond, length, map, List, [], ◌∷◌, ◌++◌, refl, ap, sym, ◌∙◌, subst, arith}
use Rattle.std.specs.Prelude.{Option, Some, if◌then◌else◌}
use Rattle.std.specs.Cow.{cow_slice_items}
use Rattle.std.specs.Cmp.Lexicographic.{pointwise}
use Rattle.std.specs.List.{list_all}
use Rattle.std.specs.Map.{lookup}
use Rattle.std.proofs.lemmas.Bool.Decides.{same_from_decides}
use Rattle.std.proofs.lemmas.Slice.Eq.{bytes_eq-Decides}
use Rattle.psm_scope.specs.declared.index.Exact.{Exact}
use Rattle.psm_scope.specs.declared.key.FunctionKey.{FunctionKey}
use Rattle.psm_scope.specs.declared.kinds.ArgKind.{ArgKind}
use Rattle.psm_scope.specs.declared.signatures.Function.{Function}
use Rattle.psm_scope.specs.Choice.{Candidate, Signature, chosen, only}
use Rattle.psm_scope.specs.Exact.{choice_of, exact, exact_of, is_exact, is_typed, one_more}
use Rattle.psm_scope.specs.KindNumbers.{is_kind}
use Rattle.psm_scope.specs.Keys.{same_function}
use Rattle.psm_scope.specs.Signatures.{IsFound, signature_of}
use Rattle.psm_scope.proofs.Exactly.{are_kinds-Decides, chosen_exactly}
use Rattle.psm_scope.proofs.Lists.{both}

-- ---- a list with one item more

pub map_last : {A B : Type 0} (f : A → B) (xs : List A) (x : A) → map f (xs ++ x ∷ []) ≡ map f xs ++ f x ∷ []
map_last f [] x = refl
map_last f (y ∷ ys) x = ap (λ l. f y ∷ l) (map_last f ys x)

pub length_last : {A : Type 0} (xs : List A) (x : A) → length (xs ++ x ∷ []) ≡ suc (length xs)
length_last [] x = refl
length_last (y ∷ ys) x = ap suc (length_last ys x)

pub length_map : {A B : Type 0} (f : A → B) (xs : List A) → length (map f xs) ≡ length xs
length_map f [] = refl
length_map f (x ∷ xs) = ap suc (length_map f xs)

pub spelled_back : (a b : List ℕ) → pointwise nat_eq a b ≡ pointwise nat_eq b a
spelled_back a b = same_from_decides (pointwise nat_eq a b) (pointwise nat_eq b a) (bytes_eq-Decides a b) (
  λ e. sym ((bytes_eq-Decides b a).0 e),
  λ e. (bytes_eq-Decides b a).1 (sym e),
)

-- ---- one function more

-- a candidate, or none
abbrev pub one_if : Bool → Candidate → List Candidate
one_if true c = c ∷ []
one_if false c = []

exact_last : (n m : ℕ) (name : List ℕ) (args : List ArgKind) (xs : List Signature) (s : Signature) → m ≡ n + length xs
    → exact n name args (xs ++ s ∷ []) ≡ exact n name args xs ++ one_if (is_exact name args s) (m, s.kinds)
exact_last n m name args [] s at = by (is_exact name args s)
  where
    alone : ℕ → List Candidate
    alone k = (k, s.kinds) ∷ []

    same : n ≡ m
    same = omega (arith, at)

    by : (b : Bool) → (if b then alone n else []) ≡ one_if b (m, s.kinds)
    by true = ap alone same
    by false = refl
exact_last n m name args (x ∷ xs) s at = by (is_exact name args x) (exact_last (suc n) m name args xs s (omega (arith, at)))
  where
    by : (b : Bool) → exact (suc n) name args (xs ++ s ∷ []) ≡ exact (suc n) name args xs ++ one_if (is_exact name args s) (m, s.kinds)
        → (if b then (n, x.kinds) ∷ exact (suc n) name args (xs ++ s ∷ []) else exact (suc n) name args (xs ++ s ∷ []))
        ≡ (if b then (n, x.kinds) ∷ exact (suc n) name args xs else exact (suc n) name args xs) ++ one_if (is_exact name args s) (m, s.kinds)
    by true rec = ap (λ l. (n, x.kinds) ∷ l) rec
    by false rec = rec

of_last : (cs : List Candidate) (c : Candidate) → exact_of (cs ++ c ∷ []) ≡ Some (one_more c.0 (exact_of cs))
of_last [] c = refl
of_last (d ∷ []) c = refl
of_last (d ∷ e ∷ cs) c = refl

pub none_last : (cs : List Candidate) → cs ++ [] ≡ cs
none_last [] = refl
none_last (c ∷ cs) = ap (λ l. c ∷ l) (none_last cs)

found_last : (cs : List Candidate) (c : Candidate) (b : Bool) → exact_of (cs ++ one_if b c) ≡ cond b (Some (one_more c.0 (exact_of cs))) (exact_of cs)
found_last cs c true = of_last cs c
found_last cs c false = ap exact_of (none_last cs)

kinds_back : (as_are bs : List ArgKind) → pointwise is_kind as_are bs ≡ pointwise is_kind bs as_are
kinds_back as_are bs = same_from_decides (pointwise is_kind as_are bs) (pointwise is_kind bs as_are) (are_kinds-Decides as_are bs) (
  λ e. sym ((are_kinds-Decides bs as_are).0 e),
  λ e. (are_kinds-Decides bs as_are).1 (sym e),
)

module _ (fs : List Function) (index after : List (FunctionKey × Exact)) (key : FunctionKey) (f : Function) (found : IsFound fs index) (named : key.name.name.now ≡ f.name.now)
    (kinds : cow_slice_items key.kinds ≡ f.kinds) where
  abbrev sigs : List Signature
  sigs = map signature_of fs

  same_is : (q : FunctionKey) → same_function key q ≡ is_exact q.name.name.now (cow_slice_items q.kinds) (signature_of f)
  same_is q =
      ap (λ b. b && pointwise is_kind (cow_slice_items key.kinds) (cow_slice_items q.kinds)) (spelled_back key.name.name.now q.name.name.now)
      ∙ ap (λ b. pointwise nat_eq q.name.name.now key.name.name.now && b) (kinds_back (cow_slice_items key.kinds) (cow_slice_items q.kinds))
      ∙ ap (λ n. pointwise nat_eq q.name.name.now n && pointwise is_kind (cow_slice_items q.kinds) (cow_slice_items key.kinds)) named
      ∙ ap (λ ks. pointwise nat_eq q.name.name.now f.name.now && pointwise is_kind (cow_slice_items q.kinds) ks) kinds

  -- what the index had for the function, it had for a key that is the same
  found_same : (q : FunctionKey) (b : Bool) → is_exact q.name.name.now (cow_slice_items q.kinds) (signature_of f) ≡ b
      → cond b (Some (one_more (length fs) (lookup (same_function key) index))) (lookup (same_function q) index)
      ≡ cond b (Some (one_more (length sigs) (exact_of (exact 0 q.name.name.now (cow_slice_items q.kinds) sigs)))) (exact_of (exact 0 q.name.name.now (cow_slice_items q.kinds) sigs))
  found_same q true e =
      let p = both (pointwise nat_eq q.name.name.now f.name.now) (pointwise is_kind (cow_slice_items q.kinds) f.kinds) e in
      let n : key.name.name.now ≡ q.name.name.now = named ∙ sym ((bytes_eq-Decides q.name.name.now f.name.now).0 p.0) in
      let k : cow_slice_items key.kinds ≡ cow_slice_items q.kinds = kinds ∙ sym ((are_kinds-Decides (cow_slice_items q.kinds) f.kinds).0 p.1) in
      ap (λ o. Some (one_more (length fs) o))
      (found key ∙ ap (λ n. exact_of (exact 0 n (cow_slice_items key.kinds) sigs)) n ∙ ap (λ ks. exact_of (exact 0 q.name.name.now ks sigs)) k)
      ∙ ap (λ m. Some (one_more m (exact_of (exact 0 q.name.name.now (cow_slice_items q.kinds) sigs)))) (sym (length_map signature_of fs))
  found_same q false e = found q

  pub found_more : ((q : FunctionKey) → lookup (same_function q) after ≡ cond (same_function key q) (Some (one_more (length fs) (lookup (same_function key) index))) (lookup (same_function q) index))
      → IsFound (fs ++ f ∷ []) after
  found_more updated = λ q.
      let name = q.name.name.now in
      let args = cow_slice_items q.kinds in
      updated q
      ∙ ap (λ b. cond b (Some (one_more (length fs) (lookup (same_function key) index))) (lookup (same_function q) index)) (same_is q)
      ∙ found_same q (is_exact name args (signature_of f)) refl
      ∙ sym (found_last (exact 0 name args sigs) (length sigs, f.kinds) (is_exact name args (signature_of f)))
      ∙ ap exact_of (sym (exact_last 0 (length sigs) name args sigs (signature_of f) (omega arith)))
      ∙ ap (λ l. exact_of (exact 0 name args l)) (sym (map_last signature_of fs f))

-- what the index finds
pub found_exact : (fs : List Function) (index : List (FunctionKey × Exact)) (routines : List Signature) (key : FunctionKey) (r : Option Exact) → IsFound fs index
    → map signature_of fs ≡ routines → r ≡ lookup (same_function key) index → r ≡ exact_of (exact 0 key.name.name.now (cow_slice_items key.kinds) routines)
found_exact fs index routines key r found view e = e ∙ found key ∙ ap (λ l. exact_of (exact 0 key.name.name.now (cow_slice_items key.kinds) l)) view

-- ---- the choice

choice_is : (c : Candidate) (cs : List Candidate) (e : Exact) → Some e ≡ exact_of (c ∷ cs) → choice_of e ≡ only (c ∷ cs)
choice_is c [] e is = let h : e ≡ record { number = c.0; tied = false } = cc in ap choice_of h
choice_is c (d ∷ more) e is = let h : e ≡ record { number = c.0; tied = true } = cc in ap choice_of h

pub chosen_found : (routines : List Signature) (name : List ℕ) (args : List ArgKind) (e : Exact) → true ≡ list_all is_typed args → Some e ≡ exact_of (exact 0 name args routines)
    → choice_of e ≡ chosen routines name args
chosen_found routines name args e typed is = by (exact 0 name args routines) refl is
  where
    by : (cs : List Candidate) → exact 0 name args routines ≡ cs → Some e ≡ exact_of cs → choice_of e ≡ chosen routines name args
    by [] at is = cc
    by (c ∷ cs) at is =
        choice_is c cs e is ∙ ap only (sym at)
        ∙ sym (chosen_exactly name args (sym typed) routines (subst (λ l. 0 < length l) (sym at) (omega arith)))
