-- Names of which none stands twice: each is declared where it stands.
use Rattle.std.proofs.Common.{◌≡◌, Bool, true, false, ◌&&◌, ◌||◌, not, List, [], ◌∷◌, ◌++◌, map, Option, Some, None, refl, ap, sym, ◌∙◌}
use Rattle.std.specs.Prelude.{if◌then◌else◌, is_some}
use Rattle.std.specs.List.{list_any}
use Rattle.std.proofs.lemmas.List.{append_assoc, append-nil}
use Rattle.psm_scope.proofs.Found.{spelled_back}
use Rattle.psm_scope.specs.Scopes.{Spelling, is_spelled}
use Rattle.psm_scope.specs.Lookup.{named}
use Rattle.psm_rules.specs.declared.rule.Rule.{Rule}
use Rattle.psm_rules.specs.BlockFaults.{declared_once}
use Rattle.psm_rules.specs.Faults.{breaks_if, first_of}
use Rattle.psm_rules.specs.StatementFaults.{repeated_from}
use Rattle.psm_tree.specs.declared.name.Identifier.{Identifier}
use Rattle.psm_wellformed.specs.Files.{are_new_names, is_name_among}
use Rattle.psm_checker_sound.proofs.Faultless.{none-first, unbroken}

abbrev pub AreNew : List Spelling → List Spelling → Type 0
AreNew before [] = Unit {0}
AreNew before (n ∷ ns) = (list_any (is_spelled n) before ≡ false) × AreNew (n ∷ before) ns

pub names-new : (rule : Rule) (before : List Spelling) (ns : List Identifier) → first_of (repeated_from rule before ns) ≡ None → AreNew before (map (λ n. n.name) ns)
names-new rule before [] none = tt
names-new rule before (n ∷ ns) none =
    let parts = none-first (breaks_if (list_any (is_spelled n.name) before) rule n.place) (repeated_from rule (n.name ∷ before) ns) none in
    (unbroken (list_any (is_spelled n.name) before) rule n.place parts.0, names-new rule (n.name ∷ before) ns parts.1)

-- ---- as a file is checked

among-any : (n : Spelling) (ms : List Spelling) → is_name_among n ms ≡ list_any (is_spelled n) ms
among-any n [] = refl
among-any n (m ∷ ms) = ap (λ b. b || is_name_among n ms) (spelled_back m n) ∙ ap (λ b. is_spelled n m || b) (among-any n ms)

new-flag : (a b : Bool) → a ≡ false → b ≡ true → (not a && b) ≡ true
new-flag true b h k = absurd cc
new-flag false b h k = k

pub new-names : (before ns : List Spelling) → AreNew before ns → are_new_names before ns ≡ true
new-names before [] h = refl
new-names before (n ∷ ns) h = new-flag (is_name_among n before) (are_new_names (n ∷ before) ns) (among-any n before ∙ h.0) (new-names (n ∷ before) ns h.1)

-- ---- declared one after another

abbrev pub declared_all : {A : Type 0} → List (Spelling × A) → List (Spelling × A) → List (Spelling × A)
declared_all xs [] = xs
declared_all xs (p ∷ ps) = declared_all (declared_once xs p.0 p.1) ps

abbrev pub first_in : {A : Type 0} → Spelling × A → Spelling
first_in p = p.0

-- the names before are those that are declared
abbrev pub Knows : {A : Type 0} → List Spelling → List (Spelling × A) → Type 0
Knows before xs = (n : Spelling) → list_any (is_spelled n) before ≡ is_some (named n xs)

last-named : {A : Type 0} (n m : Spelling) (x : A) (xs : List (Spelling × A)) → is_some (named n (xs ++ (m, x) ∷ [])) ≡ is_spelled n m || is_some (named n xs)
last-named {A = A} n m x [] = by (is_spelled n m)
  where
    by : (b : Bool) → is_some (if b then Some x else None) ≡ b || false
    by true = refl
    by false = refl
last-named {A = A} n m x (p ∷ xs) = by (is_spelled n p.0) (is_spelled n m) (named n (xs ++ (m, x) ∷ [])) (named n xs) (last-named n m x xs)
  where
    by : (b c : Bool) (o q : Option A) → is_some o ≡ c || is_some q → is_some (if b then Some p.1 else o) ≡ c || is_some (if b then Some p.1 else q)
    by true true o q h = refl
    by true false o q h = refl
    by false c o q h = h

pub knows-more : {A : Type 0} (before : List Spelling) (m : Spelling) (x : A) (xs : List (Spelling × A)) → Knows before xs → Knows (m ∷ before) (xs ++ (m, x) ∷ [])
knows-more before m x xs h n = ap (λ b. is_spelled n m || b) (h n) ∙ sym (last-named n m x xs)

pub declared-new : {A : Type 0} (before : List Spelling) (n : Spelling) (x : A) (xs : List (Spelling × A)) → Knows before xs → list_any (is_spelled n) before ≡ false → declared_once xs n x ≡ xs ++ (n, x) ∷ []
declared-new before n x xs h new = ap (λ b. if b then xs else xs ++ (n, x) ∷ []) (sym (h n) ∙ new)

pub declared-all : {A : Type 0} (before : List Spelling) (xs ps : List (Spelling × A)) → Knows before xs → AreNew before (map first_in ps) → declared_all xs ps ≡ xs ++ ps
declared-all before xs [] k h = sym (append-nil xs)
declared-all before xs (p ∷ ps) k h =
    ap (λ ys. declared_all ys ps) (declared-new before p.0 p.1 xs k h.0)
    ∙ declared-all (p.0 ∷ before) (xs ++ p ∷ []) ps (knows-more before p.0 p.1 xs k) h.1
    ∙ append_assoc xs (p ∷ []) ps
