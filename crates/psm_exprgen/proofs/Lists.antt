-- What is made of each of some things, one after another.
use Rattle.std.proofs.Common.{◌≡◌, ℕ, ◌+◌, ◌<◌, Bool, true, List, [], ◌∷◌, ◌++◌, length, get_or, drop, append_assoc, ap, sym, subst, ◌∙◌}
use Rattle.std.proofs.Math.Seq.{drop-length}
use Rattle.std.proofs.lemmas.List.{append-nil}
use Rattle.std.specs.List.{list_all}
use Rattle.psm_num.proofs.Literals.{and_first, and_second}
use Rattle.psm_tablecode.proofs.Collecting.{first_of}

-- with what is done, what is made of the rest is what is made of all
abbrev pub Makes : {A B : Type 0} → (List A → List B → Type 0) → List A → ℕ → List B → Type 0
Makes Made xs at done = (more : List _) → Made (drop at xs) more → Made xs (done ++ more)

pub makes_first : {A B : Type 0} (Made : List A → List B → Type 0) (xs : List A) (done : List B) → done ≡ [] → Makes Made xs 0 done
makes_first Made xs done e = subst (λ d. Makes Made xs 0 d) (sym e) (λ more h. h)

pub makes_next : {A B : Type 0} (Made : List A → List B → Type 0) (xs : List A) (at : ℕ) (a : A) (done : List B) (b : B) (next : List B)
    → ((others : List A) (more : List B) → Made others more → Made (a ∷ others) (b ∷ more))
    → at < length xs → a ≡ get_or xs at a → next ≡ done ++ b ∷ [] → Makes Made xs at done → Makes Made xs (at + 1) next
makes_next Made xs at a done b next one l e n h =
    subst (λ d. Makes Made xs (at + 1) d) (sym n)
    (λ more m. subst (Made xs) (sym (append_assoc done (b ∷ []) more)) (h (b ∷ more) (subst (λ ys. Made ys (b ∷ more)) (sym (first_of xs at a l e)) (one (drop (at + 1) xs) more m))))

pub makes_all : {A B : Type 0} (Made : List A → List B → Type 0) (xs zs : List A) (at : ℕ) (done result : List B)
    → zs ≡ xs → at ≡ length xs → result ≡ done → Made [] [] → Makes Made xs at done → Made zs result
makes_all Made xs zs at done result e n r none h =
    let left : drop at xs ≡ [] = ap (λ k. drop k xs) n ∙ drop-length xs in
    subst (λ ys. Made ys result) (sym e) (subst (Made xs) (append-nil done ∙ sym r) (h [] (subst (λ ys. Made ys []) (sym left) none)))

-- what is made where a test holds of each
abbrev pub Where : {A B : Type 0} → (A → Bool) → (List A → List B → Type 0) → List A → List B → Type 0
Where test Are xs ys = list_all test xs ≡ true → Are xs ys

pub where_next : {A B : Type 0} (test : A → Bool) (Is : A → B → Type 0) (Are : List A → List B → Type 0) (a : A) (b : B)
    → ((others : List A) (more : List B) → Is a b → Are others more → Are (a ∷ others) (b ∷ more))
    → (test a ≡ true → Is a b) → (others : List A) (more : List B) → Where test Are others more → Where test Are (a ∷ others) (b ∷ more)
where_next test Is Are a b one i others more h t = one others more (i (and_first (test a) (list_all test others) t)) (h (and_second (test a) (list_all test others) t))
