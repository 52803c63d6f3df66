-- Scopes with the innermost last in memory.
use Rattle.std.proofs.Common.{◌≡◌, ◌<◌, ◌+◌, ◌-◌, ℕ, suc, Bool, true, false, true≢false, length, drop, get_or, set, List, [], ◌∷◌, ◌++◌, reverse, refl, ap, sym, subst, ◌∙◌, length-drop, arith}
use Rattle.std.specs.Prelude.{Some, None, slice_get, Result, Ok, Err, if◌then◌else◌}
use Rattle.std.specs.declared.alloc.AllocError.{AllocError}
use Rattle.std.proofs.lemmas.List.{reverse-append, length-reverse, get_or-reverse}
use Rattle.std.proofs.Math.Seq.{set-append_seam}
use Rattle.std.proofs.lemmas.Option.{slice_get_read}
use Rattle.psm_scope.specs.Scopes.{Spelling, Scope, Routine, Compound, Loop, For, Action, declared_in, is_spelled}
use Rattle.psm_scope.specs.Lookup.{condition, cursor, is_called, labels, named, or_else, sees_past, variable, variables_called}
use Rattle.std.specs.Option.{option_map}
use Rattle.psm_scope.specs.KeptScopes.{Declares, Part, can_declare_here, is_action, labelled, level}
use Rattle.psm_scope.proofs.Lists.{dropped}

-- the scope at a depth
pub inside : {A : Type 0} (xs view : List A) (k : ℕ) (x : A) → reverse xs ≡ view → k < length view → x ≡ get_or xs (length xs - 1 - k) x → slice_get view k ≡ Some x
inside xs view k x v lt e =
    let n : length xs ≡ length view = sym (length-reverse xs) ∙ ap length v in
    slice_get_read view (length xs) k x n (omega (arith, lt, n))
    (e ∙ sym (get_or-reverse xs k x (omega (arith, lt, n))) ∙ ap (λ l. get_or l k x) v)

-- ---- the innermost scope

split : {A : Type 0} (x : A) (xs : List A) → (ys : List A) × (y : A) × (x ∷ xs ≡ ys ++ y ∷ [])
split x [] = ([], x, refl)
split x (y ∷ ys) = let s = split y ys in (x ∷ s.0, s.1, ap (λ l. x ∷ l) s.2)

length_last : {A : Type 0} (ys : List A) (y : A) → length (ys ++ y ∷ []) ≡ suc (length ys)
length_last [] y = refl
length_last (x ∷ xs) y = ap suc (length_last xs y)

got_last : {A : Type 0} (ys : List A) (y d : A) → get_or (ys ++ y ∷ []) (length ys) d ≡ y
got_last [] y d = refl
got_last (x ∷ xs) y d = got_last xs y d

-- a list with the innermost last, what it is once that one is another, and the others
pub record Innermost {A : Type 0} (xs view : List A) (x y : A) : Type 0 where
  pub outer : List A
  pub before : view ≡ x ∷ outer
  pub after : reverse (set xs (length xs - 1) y) ≡ y ∷ outer

pub innermost : {A : Type 0} (xs view : List A) (x y : A) → reverse xs ≡ view → 0 < length xs → x ≡ get_or xs (length xs - 1) x → Innermost xs view x y
innermost [] view x y v lt e = absurd (omega (arith, lt))
innermost (a ∷ more) view x y v lt e =
    let s = split a more in
    let xs = a ∷ more in
    let n : length xs - 1 ≡ length s.0 = let m : length xs ≡ suc (length s.0) = ap length s.2 ∙ length_last s.0 s.1 in omega (arith, m) in
    let is : x ≡ s.1 = e ∙ ap (λ k. get_or xs k x) n ∙ ap (λ l. get_or l (length s.0) x) s.2 ∙ got_last s.0 s.1 x in
    record {
      outer = reverse s.0;
      before = sym v ∙ ap reverse s.2 ∙ reverse-append s.0 (s.1 ∷ []) ∙ ap (λ b. b ∷ reverse s.0) (sym is);
      after =
          ap (λ k. reverse (set xs k y)) n
          ∙ ap (λ l. reverse (set l (length s.0) y)) s.2
          ∙ ap reverse (set-append_seam s.0 s.1 [] y)
          ∙ reverse-append s.0 (y ∷ []);
    }

module _ {V C K A : Type 0} (part : Part V C K A) (n : Spelling) (x : A) (f g : Scope V C K) (outer : List (Scope V C K)) where
  declares_there : (r : Result Bool AllocError) → Declares part n x (f ∷ []) (g ∷ []) r → Declares part n x (f ∷ outer) (g ∷ outer) r
  declares_there (Ok true) d = (d.0, ap (λ l. l ++ outer) d.1)
  declares_there (Ok false) d = (d.0, ap (λ l. l ++ outer) d.1)
  declares_there (Err e) d = ap (λ l. l ++ outer) d

pub declares_inside : {V C K A : Type 0} (part : Part V C K A) (n : Spelling) (x : A) (fs old : List (Scope V C K)) (k : ℕ) (f g : Scope V C K) (r : Result Bool AllocError)
    → reverse fs ≡ old → can_declare_here old ≡ true → k ≡ length fs → f ≡ get_or fs (k - 1) f → Declares part n x (f ∷ []) (g ∷ []) r
    → Declares part n x old (reverse (set fs (k - 1) g)) r
declares_inside {V} {C} {K} part n x fs old k f g r v can kn e d =
    let i = innermost fs old f g v (some fs v) (e ∙ ap (λ k. get_or fs (k - 1) f) kn) in
    subst (λ old. Declares part n x old (reverse (set fs (k - 1) g)) r) (sym i.before)
    (subst (λ new. Declares part n x (f ∷ i.outer) new r) (sym i.after ∙ ap (λ k. reverse (set fs (k - 1) g)) (sym kn)) (declares_there part n x f g i.outer r d))
  where
    some : (fs : List (Scope V C K)) → reverse fs ≡ old → 0 < length fs
    some [] v = absurd (true≢false (sym can ∙ ap can_declare_here (sym v)))
    some (f ∷ more) v = omega arith

-- ---- one scope further out

next : {A : Type 0} (fs : List A) (k : ℕ) (f : A) → slice_get fs k ≡ Some f → f ∷ drop (k + 1) fs ≡ drop k fs
next fs k f e = let n : k + 1 ≡ suc k = omega arith in ap (λ j. f ∷ drop j fs) n ∙ sym (dropped fs f k e)

module _ {V C K : Type 0} (fs : List (Scope V C K)) (k : ℕ) (f : Scope V C K) (e : slice_get fs k ≡ Some f) where
  pub variable_found : (n : Spelling) (v : V) → Some v ≡ named n (declared_in f).variables → Some v ≡ variable n (drop k fs)
  variable_found n v g = ap (λ o. or_else o (variable n (drop (k + 1) fs))) g ∙ ap (variable n) (next fs k f e)

  pub variable_outer : (n : Spelling) → None ≡ named n (declared_in f).variables → variable n (drop (k + 1) fs) ≡ variable n (drop k fs)
  variable_outer n g = ap (λ o. or_else o (variable n (drop (k + 1) fs))) g ∙ ap (variable n) (next fs k f e)

  pub condition_found : (n : Spelling) (c : C) → Some c ≡ named n (declared_in f).conditions → Some c ≡ condition n (drop k fs)
  condition_found n c g = ap (λ o. or_else o (condition n (drop (k + 1) fs))) g ∙ ap (condition n) (next fs k f e)

  pub condition_outer : (n : Spelling) → None ≡ named n (declared_in f).conditions → condition n (drop (k + 1) fs) ≡ condition n (drop k fs)
  condition_outer n g = ap (λ o. or_else o (condition n (drop (k + 1) fs))) g ∙ ap (condition n) (next fs k f e)

  pub cursor_found : (n : Spelling) (c : K) → Some c ≡ named n (declared_in f).cursors → Some c ≡ cursor n (drop k fs)
  cursor_found n c g = ap (λ o. or_else o (cursor n (drop (k + 1) fs))) g ∙ ap (cursor n) (next fs k f e)

  pub cursor_outer : (n : Spelling) → None ≡ named n (declared_in f).cursors → cursor n (drop (k + 1) fs) ≡ cursor n (drop k fs)
  cursor_outer n g = ap (λ o. or_else o (cursor n (drop (k + 1) fs))) g ∙ ap (cursor n) (next fs k f e)

  pub called_here : (sees : Bool) (q : Spelling) → true ≡ is_called sees q f → Some (declared_in f).variables ≡ variables_called sees q (drop k fs)
  called_here sees q g =
      ap (λ b. if b then Some (declared_in f).variables else variables_called (sees_past sees f) q (drop (k + 1) fs)) g
      ∙ ap (variables_called sees q) (next fs k f e)

  pub called_outer : (sees : Bool) (q : Spelling) → false ≡ is_called sees q f → variables_called (sees_past sees f) q (drop (k + 1) fs) ≡ variables_called sees q (drop k fs)
  called_outer sees q g =
      ap (λ b. if b then Some (declared_in f).variables else variables_called (sees_past sees f) q (drop (k + 1) fs)) g
      ∙ ap (variables_called sees q) (next fs k f e)

-- ---- labels

labels_more : {V C K : Type 0} (l : Spelling) (f : Scope V C K) (outer : List (Scope V C K))
    → named l (labels (f ∷ outer)) ≡ (if is_action f then None else or_else (labelled l f) (named l (labels outer)))
labels_more l (Routine name d) outer = refl
labels_more l (Compound None d) outer = refl
labels_more l (Compound (Some label) d) outer = by (is_spelled l label)
  where
    by : (b : Bool) → (if b then Some false else named l (labels outer)) ≡ or_else (if b then Some false else None) (named l (labels outer))
    by true = refl
    by false = refl
labels_more l (Loop None) outer = refl
labels_more l (Loop (Some label)) outer = by (is_spelled l label)
  where
    by : (b : Bool) → (if b then Some true else named l (labels outer)) ≡ or_else (if b then Some true else None) (named l (labels outer))
    by true = refl
    by false = refl
labels_more l (For None name d) outer = refl
labels_more l (For (Some label) name d) outer = by (is_spelled l label)
  where
    by : (b : Bool) → (if b then Some true else named l (labels outer)) ≡ or_else (if b then Some true else None) (named l (labels outer))
    by true = refl
    by false = refl
labels_more l Action outer = refl

module _ {V C K : Type 0} (fs : List (Scope V C K)) (k : ℕ) (f : Scope V C K) (e : slice_get fs k ≡ Some f) (l : Spelling) where
  here : named l (labels (drop k fs)) ≡ (if is_action f then None else or_else (labelled l f) (named l (labels (drop (k + 1) fs))))
  here = ap (λ fs. named l (labels fs)) (sym (next fs k f e)) ∙ labels_more l f (drop (k + 1) fs)

  pub label_hidden : true ≡ is_action f → None ≡ named l (labels (drop k fs))
  label_hidden g = ap (λ b. if b then None else or_else (labelled l f) (named l (labels (drop (k + 1) fs)))) g ∙ sym here

  pub label_found : (loops : Bool) → false ≡ is_action f → Some loops ≡ labelled l f → Some loops ≡ named l (labels (drop k fs))
  label_found loops g h =
      ap (λ o. or_else o (named l (labels (drop (k + 1) fs)))) h
      ∙ ap (λ b. if b then None else or_else (labelled l f) (named l (labels (drop (k + 1) fs)))) g
      ∙ sym here

  pub label_outer : false ≡ is_action f → None ≡ labelled l f → named l (labels (drop (k + 1) fs)) ≡ named l (labels (drop k fs))
  label_outer g h =
      ap (λ o. or_else o (named l (labels (drop (k + 1) fs)))) h
      ∙ ap (λ b. if b then None else or_else (labelled l f) (named l (labels (drop (k + 1) fs)))) g
      ∙ sym here

-- ---- levels

-- how many are further out
pub counted : {A : Type 0} (xs : List A) (n k : ℕ) → n ≡ length xs → n - 1 - k ≡ length (drop (k + 1) xs)
counted xs n k e = let d : length (drop (k + 1) xs) ≡ length xs - (k + 1) = length-drop (k + 1) xs in omega (arith, e, d)

module _ {V C K : Type 0} (fs : List (Scope V C K)) (k : ℕ) (f : Scope V C K) (e : slice_get fs k ≡ Some f) (l : Spelling) where
  level_here : level l (drop k fs) ≡ (if is_action f then None else or_else (option_map (λ loops. length (drop (k + 1) fs)) (labelled l f)) (level l (drop (k + 1) fs)))
  level_here = ap (level l) (sym (next fs k f e))

  pub level_hidden : true ≡ is_action f → None ≡ level l (drop k fs)
  level_hidden g = ap (λ b. if b then None else or_else (option_map (λ loops. length (drop (k + 1) fs)) (labelled l f)) (level l (drop (k + 1) fs))) g ∙ sym level_here

  pub level_found : (loops : Bool) → false ≡ is_action f → Some loops ≡ labelled l f → Some (length (drop (k + 1) fs)) ≡ level l (drop k fs)
  level_found loops g h =
      ap (λ o. or_else (option_map (λ loops. length (drop (k + 1) fs)) o) (level l (drop (k + 1) fs))) h
      ∙ ap (λ b. if b then None else or_else (option_map (λ loops. length (drop (k + 1) fs)) (labelled l f)) (level l (drop (k + 1) fs))) g
      ∙ sym level_here

  pub level_outer : false ≡ is_action f → None ≡ labelled l f → level l (drop (k + 1) fs) ≡ level l (drop k fs)
  level_outer g h =
      ap (λ o. or_else (option_map (λ loops. length (drop (k + 1) fs)) o) (level l (drop (k + 1) fs))) h
      ∙ ap (λ b. if b then None else or_else (option_map (λ loops. length (drop (k + 1) fs)) (labelled l f)) (level l (drop (k + 1) fs))) g
      ∙ sym level_here
