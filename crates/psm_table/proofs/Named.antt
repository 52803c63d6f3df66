-- The constraints that name a table.
use Rattle.std.specs.Prelude.{◌≡◌, ◌<◌, ◌≤◌, ◌+◌, ℕ, Bool, true, false, ◌&&◌, ◌||◌, List, [], ◌∷◌, ◌++◌, filter, length, if◌then◌else◌}
use Rattle.std.specs.List.{list_all, list_any}
use Rattle.std.proofs.Common.{take, get_or, refl, ap, sym, ◌∙◌}
use Rattle.std.proofs.lemmas.List.{take_all, take_more}
use Rattle.std.proofs.lemmas.List.Elements.{filter-append}
use Rattle.psm_table.specs.declared.constraints.ByTable.{ByTable}
use Rattle.psm_table.specs.declared.definition.ForeignKey.{ForeignKey}
use Rattle.psm_table.specs.Constraints.{names_table, AreFound, KeepsAlso}

-- ---- those that are kept

filter_one : (b : Bool) (test : ForeignKey → Bool) (key : ForeignKey) → test key ≡ b → (if b then key ∷ [] else []) ≡ filter test (key ∷ [])
filter_one true test key e = ap (λ c. if c then key ∷ [] else []) (sym e)
filter_one false test key e = ap (λ c. if c then key ∷ [] else []) (sym e)

pub found_next : (old new : ByTable) (keys : List ForeignKey) (n : ℕ) (key : ForeignKey) → n < length keys → key ≡ get_or keys n key
    → AreFound old (take n keys) → KeepsAlso (λ t. names_table t key) key old new → AreFound new (take (n + 1) keys)
found_next old new keys n key lt at before kept t =
    let more : take (n + 1) keys ≡ take n keys ++ key ∷ [] = take_more keys n key lt ∙ ap (λ k. take n keys ++ k ∷ []) (sym at) in
    kept t
    ∙ ap (λ own. own ++ (if names_table t key then key ∷ [] else [])) (before t)
    ∙ ap (λ own. filter (names_table t) (take n keys) ++ own) (filter_one (names_table t key) (names_table t) key refl)
    ∙ sym (filter-append (names_table t) (take n keys) (key ∷ []))
    ∙ ap (filter (names_table t)) (sym more)

pub found_all : (kept : ByTable) (keys : List ForeignKey) (n : ℕ) → length keys ≤ n → AreFound kept (take n keys) → AreFound kept keys
found_all kept keys n le found t = found t ∙ ap (filter (names_table t)) (take_all n keys le)

-- ---- tests whose result depends on constraints that name the table alone

-- a test that all others pass
pub all_named : (t : ℕ) (test : ForeignKey → Bool) → ((key : ForeignKey) → names_table t key ≡ false → test key ≡ true) → (keys : List ForeignKey)
    → list_all test (filter (names_table t) keys) ≡ list_all test keys
all_named t test others [] = refl
all_named t test others (key ∷ keys) = by (names_table t key) refl (all_named t test others keys)
  where
    by : (b : Bool) → names_table t key ≡ b → list_all test (filter (names_table t) keys) ≡ list_all test keys → list_all test (filter (names_table t) (key ∷ keys)) ≡ list_all test (key ∷ keys)
    by true e rec = ap (λ b. list_all test (if b then key ∷ filter (names_table t) keys else filter (names_table t) keys)) e ∙ ap (λ b. test key && b) rec
    by false e rec =
        ap (λ b. list_all test (if b then key ∷ filter (names_table t) keys else filter (names_table t) keys)) e
        ∙ rec
        ∙ ap (λ b. b && list_all test keys) (sym (others key e))

-- a test that none of the others passes
pub any_named : (t : ℕ) (test : ForeignKey → Bool) → ((key : ForeignKey) → names_table t key ≡ false → test key ≡ false) → (keys : List ForeignKey)
    → list_any test (filter (names_table t) keys) ≡ list_any test keys
any_named t test others [] = refl
any_named t test others (key ∷ keys) = by (names_table t key) refl (any_named t test others keys)
  where
    by : (b : Bool) → names_table t key ≡ b → list_any test (filter (names_table t) keys) ≡ list_any test keys → list_any test (filter (names_table t) (key ∷ keys)) ≡ list_any test (key ∷ keys)
    by true e rec = ap (λ b. list_any test (if b then key ∷ filter (names_table t) keys else filter (names_table t) keys)) e ∙ ap (λ b. test key || b) rec
    by false e rec =
        ap (λ b. list_any test (if b then key ∷ filter (names_table t) keys else filter (names_table t) keys)) e
        ∙ rec
        ∙ ap (λ b. b || list_any test keys) (sym (others key e))
