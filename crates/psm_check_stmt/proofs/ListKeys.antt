-- Lists of columns as they are kept in a set.
use Rattle.std.proofs.Common.{◌≡◌, Bool, true, false, ◌&&◌, ◌||◌, nat_eq, List, [], ◌∷◌, ◌++◌, map, refl, ap, sym, ◌∙◌}
use Rattle.std.specs.Prelude.{if◌then◌else◌}
use Rattle.std.specs.List.{list_any}
use Rattle.std.specs.Cmp.Lexicographic.{pointwise}
use Rattle.indexmap.specs.IndexSet.{insert_key}
use Rattle.psm_scope.specs.Scopes.{Spelling, is_spelled}
use Rattle.psm_scope.specs.declared.key.NameKey.{NameKey}
use Rattle.psm_rules.specs.BlockFaults.{same_names}
use Rattle.psm_rules.specs.FileFaults.{with_list}
use Rattle.psm_check_stmt.specs.declared.key_lists.ListKey.{ListKey}
use Rattle.psm_check_stmt.specs.KeyLists.{listed, spelled}

abbrev same_name : NameKey → NameKey → Bool
same_name a b = pointwise nat_eq a.name.now b.name.now

abbrev pub same_list : ListKey → ListKey → Bool
same_list a b = pointwise same_name a.names.items b.names.items

names-same : (xs ys : List NameKey) → pointwise same_name xs ys ≡ same_names (spelled xs) (spelled ys)
names-same [] [] = refl
names-same [] (y ∷ ys) = refl
names-same (x ∷ xs) [] = refl
names-same (x ∷ xs) (y ∷ ys) = ap (λ b. is_spelled x.name.now y.name.now && b) (names-same xs ys)

-- whether a list is among those that are kept
pub is-among : (l : ListKey) (ls : List ListKey) → list_any (same_list l) ls ≡ list_any (same_names (listed l)) (map listed ls)
is-among l [] = refl
is-among l (m ∷ ms) = λ i. names-same l.names.items m.names.items i || is-among l ms i

last-listed : (ls : List ListKey) (l : ListKey) → map listed (ls ++ l ∷ []) ≡ map listed ls ++ listed l ∷ []
last-listed [] l = refl
last-listed (m ∷ ms) l = ap (λ ns. listed m ∷ ns) (last-listed ms l)

-- one list more
pub with-list : (ls : List ListKey) (l : ListKey) → map listed (insert_key same_list ls l) ≡ with_list (map listed ls) (listed l)
with-list ls l = by (list_any (same_list l) ls) ∙ ap (λ b. if b then map listed ls else map listed ls ++ listed l ∷ []) (is-among l ls)
  where
    by : (b : Bool) → map listed (if b then ls else ls ++ l ∷ []) ≡ (if b then map listed ls else map listed ls ++ listed l ∷ [])
    by true = refl
    by false = last-listed ls l

-- what the set holds after it
pub list-added : (ls new : List ListKey) (l : ListKey) (old : List (List Spelling)) (n : List Spelling) → map listed ls ≡ old → listed l ≡ n → new ≡ insert_key same_list ls l → map listed new ≡ with_list old n
list-added ls new l old n view name keys = ap (map listed) keys ∙ with-list ls l ∙ λ i. with_list (view i) (name i)
