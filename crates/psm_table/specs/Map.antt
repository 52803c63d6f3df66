-- Pairs of a key and a value in the order of their keys.
use Rattle.std.specs.Prelude.{◌≡◌, not, List, ◌∷◌, ◌++◌, length, map, take, AllPairs, filter, find, Option, option_map, if◌then◌else◌}
use Rattle.std.specs.Ordering.{is_lt, is_gt, is_eq}
use Rattle.std.specs.declared.cmp.Ordering.{Ordering}
use Rattle.std.specs.declared.cmp.Ordering.TheVariants.{Less}
use Rattle.psm_value.specs.declared.datum.Datum.{Datum}
use Rattle.psm_table.specs.declared.map.Pair.{Pair}
use Rattle.psm_table.specs.Key.{key_order}

-- the order of the beginning of a key, as long as values are that it is compared with, and those values
abbrev pub prefix_order : List Datum → List Datum → Ordering
prefix_order values key = key_order (take (length values) key) values

module _ {V : Type 0} where
  -- each key is less than every later one
  abbrev pub AreAscending : List (Pair V) → Type 0
  AreAscending pairs = AllPairs (λ a b. key_order a.key b.key ≡ Less) pairs

  -- the keys
  abbrev pub keys_of : List (Pair V) → List (List Datum)
  keys_of pairs = map (λ p. p.key) pairs

  -- the pairs with smaller keys
  abbrev pub pairs_below : List Datum → List (Pair V) → List (Pair V)
  pairs_below key pairs = filter (λ p. is_lt (key_order p.key key)) pairs

  -- the pairs with greater keys
  abbrev pub pairs_above : List Datum → List (Pair V) → List (Pair V)
  pairs_above key pairs = filter (λ p. is_gt (key_order p.key key)) pairs

  -- the pair that has the key
  abbrev pub pair_with : List Datum → List (Pair V) → Option (Pair V)
  pair_with key pairs = find (λ p. is_eq (key_order p.key key)) pairs

  -- the value of the key
  abbrev pub value_of : List Datum → List (Pair V) → Option V
  value_of key pairs = option_map (λ p. p.value) (pair_with key pairs)

  -- the pairs whose keys begin with these values, or with greater ones
  abbrev pub pairs_from : List Datum → List (Pair V) → List (Pair V)
  pairs_from values pairs = filter (λ p. not (is_lt (prefix_order values p.key))) pairs

  -- a pair, with another value if it has the key
  abbrev pub exchanged : List Datum → V → Pair V → Pair V
  exchanged key value p = if is_eq (key_order p.key key) then record { key = p.key; value = value } else p

  -- the pairs with another value of the key
  abbrev pub with_value : List Datum → V → List (Pair V) → List (Pair V)
  with_value key value pairs = map (exchanged key value) pairs

  -- the pairs with one more, in the place of that of its key if there is one
  abbrev pub with_pair : Pair V → List (Pair V) → List (Pair V)
  with_pair p pairs = pairs_below p.key pairs ++ p ∷ pairs_above p.key pairs
