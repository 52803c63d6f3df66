-- The keys of a table as they are kept.
use Rattle.std.proofs.Common.{◌≡◌, ◌<◌, ◌≤◌, ◌+◌, ℕ, suc, drop, get_or, nat_eq, false, length, List, [], ◌∷◌, ◌++◌, refl, ap, sym, ◌∙◌, arith}
use Rattle.std.proofs.Math.ListN.{drop_of_length-le}
use Rattle.std.proofs.lemmas.Bool.Decides.{nat_tests}
use Rattle.psm_scope.specs.Scopes.{Spelling}
use Rattle.psm_tree.specs.declared.file.Element.{Element}
use Rattle.psm_rules.specs.FileFaults.{element_keys, first_key, keys_of}
use Rattle.psm_check_stmt.proofs.WalkSteps.{drop_next}
use Rattle.psm_check_stmt.specs.Keys.{Kept, NoKey, MoreKeys, and_key, and_keys, first_kept, is_one}

pub and_keys_append : (k : Kept) (ls ms : List (List Spelling)) → and_keys k (ls ++ ms) ≡ and_keys (and_keys k ls) ms
and_keys_append k [] ms = refl
and_keys_append k (l ∷ ls) ms = and_keys_append (and_key k l) ls ms

more_stay : (first : List Spelling) (ls : List (List Spelling)) → and_keys (MoreKeys first) ls ≡ MoreKeys first
more_stay first [] = refl
more_stay first (l ∷ ls) = more_stay first ls

not_one : (n : ℕ) → nat_eq (suc (suc n)) 1 ≡ false
not_one n = grind (arith, nat_tests)

pub one_kept : (ls : List (List Spelling)) → is_one (and_keys NoKey ls) ≡ nat_eq (length ls) 1
one_kept [] = refl
one_kept (l ∷ []) = refl
one_kept (l ∷ m ∷ more) = ap is_one (more_stay l more) ∙ sym (not_one (length more))

pub first_is_kept : (ls : List (List Spelling)) → first_kept (and_keys NoKey ls) ≡ first_key ls
first_is_kept [] = refl
first_is_kept (l ∷ []) = refl
first_is_kept (l ∷ m ∷ more) = ap first_kept (more_stay l more)

pub ruleset kept_keys = (and_keys_append, one_kept, first_is_kept)

-- an element more, and the last
pub keys_next : (elements : List Element) (i : ℕ) (e : Element) (k next all : Kept) → i < length elements → e ≡ get_or elements i e → next ≡ and_keys k (element_keys e)
    → and_keys k (keys_of (drop i elements)) ≡ all → and_keys next (keys_of (drop (i + 1) elements)) ≡ all
keys_next elements i e k next all lt is n h =
    ap (λ m. and_keys m (keys_of (drop (i + 1) elements))) n
    ∙ sym (and_keys_append k (element_keys e) (keys_of (drop (i + 1) elements)))
    ∙ ap (λ es. and_keys k (keys_of es)) (sym (drop_next elements i e lt is))
    ∙ h

pub keys_end : (elements : List Element) (i : ℕ) (k : Kept) (ls : List (List Spelling)) → length elements ≤ i → and_keys k (keys_of (drop i elements)) ≡ and_keys NoKey ls
    → k ≡ and_keys NoKey ls
keys_end elements i k ls le h = ap (λ es. and_keys k (keys_of es)) (sym (drop_of_length-le elements le)) ∙ h
