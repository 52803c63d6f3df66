-- Numbers of routines and letters of parameters, one after another.
use Rattle.std.proofs.Common.{◌≡◌, ℕ, ◌+◌, ◌<◌, Bool, List, [], ◌∷◌, ◌++◌, length, get_or, drop, append_assoc, ap, sym, ◌∙◌}
use Rattle.std.specs.Prelude.{filter, map}
use Rattle.std.proofs.Math.Seq.{drop-length}
use Rattle.std.proofs.lemmas.List.{append-nil, map-append}
use Rattle.std.proofs.lemmas.List.Elements.{filter-append}
use Rattle.psm_resolved.specs.declared.file.ResolvedRoutine.{ResolvedRoutine}
use Rattle.psm_tablecode.proofs.Collecting.{first_of}
use Rattle.psm_codegen.specs.Files.{numbers_of}

-- with those that are there, the numbers from an index on are all
abbrev pub Numbers : (ResolvedRoutine → Bool) → List ResolvedRoutine → ℕ → List ℕ → Type 0
Numbers test rs at done = done ++ numbers_of test at (drop at rs) ≡ numbers_of test 0 rs

-- the same of what is made of those that pass a test
abbrev pub Picks : {A B : Type 0} → (A → Bool) → (A → B) → List A → ℕ → List B → Type 0
Picks test make xs at done = done ++ map make (filter test (drop at xs)) ≡ map make (filter test xs)

pub picks_next : {A B : Type 0} (test : A → Bool) (make : A → B) (xs : List A) (at : ℕ) (a : A) (done next : List B)
    → at < length xs → a ≡ get_or xs at a → next ≡ done ++ map make (filter test (a ∷ [])) → Picks test make xs at done → Picks test make xs (at + 1) next
picks_next test make xs at a done next l e n h =
    ap (λ ys. ys ++ map make (filter test (drop (at + 1) xs))) n ∙ append_assoc done (map make (filter test (a ∷ []))) (map make (filter test (drop (at + 1) xs)))
    ∙ ap (λ ys. done ++ ys) (sym (map-append make (filter test (a ∷ [])) (filter test (drop (at + 1) xs))) ∙ ap (map make) (sym (filter-append test (a ∷ []) (drop (at + 1) xs))))
    ∙ sym (ap (λ ys. done ++ map make (filter test ys)) (first_of xs at a l e)) ∙ h

pub picks_all : {A B : Type 0} (test : A → Bool) (make : A → B) (xs all : List A) (at : ℕ) (done result : List B)
    → all ≡ xs → at ≡ length xs → result ≡ done → Picks test make xs at done → result ≡ map make (filter test all)
picks_all test make xs all at done result e n r h =
    r ∙ sym (append-nil done) ∙ ap (λ ys. done ++ map make (filter test ys)) (sym (ap (λ k. drop k xs) n ∙ drop-length xs)) ∙ h ∙ ap (λ ys. map make (filter test ys)) (sym e)
