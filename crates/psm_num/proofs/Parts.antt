-- What the code finds in a text, in the words of the definitions.
use Rattle.std.proofs.Common.{◌≡◌, ℕ, ◌≤◌, Bool, true, false, cond, not, nat_lt, List, length, Some, None, refl, arith, ltb-false}
use Rattle.std.specs.Prelude.{position}
use Rattle.std.specs.List.{position_or_len}
use Rattle.std.proofs.lemmas.List.Sums.{prefix_len-le-length}
use Rattle.psm_num.specs.Split.{is_point}

position_found_by : (t : Bool) (n i : ℕ) → cond t (Some n) None ≡ Some i → n ≡ i
position_found_by true n i e = cc
position_found_by false n i e = cc

pub position_found : (xs : List ℕ) (i : ℕ) → position is_point xs ≡ Some i → position_or_len is_point xs ≡ i
position_found xs i e = position_found_by (nat_lt (position_or_len is_point xs) (length xs)) (position_or_len is_point xs) i e

position_absent_by : (t : Bool) (n m : ℕ) → nat_lt n m ≡ t → n ≤ m → cond t (Some n) None ≡ None → n ≡ m
position_absent_by true n m f h e = cc
position_absent_by false n m f h e = let g : m ≤ n = ltb-false n m f in omega arith

pub position_absent : (xs : List ℕ) → position is_point xs ≡ None → position_or_len is_point xs ≡ length xs
position_absent xs e = position_absent_by (nat_lt (position_or_len is_point xs) (length xs)) (position_or_len is_point xs) (length xs) refl (prefix_len-le-length (λ c. not (is_point c)) xs) e

pub ruleset around = (position_found, position_absent)
