-- Comparison of texts, the shorter padded with blanks on the right (ISO/IEC 9075:1992, 8.2).
use Rattle.std.specs.Prelude.{◌≡◌, ℕ, ◌-◌, max, List, ◌++◌, length, replicate}
use Rattle.std.specs.declared.cmp.Ordering.{Ordering}
use Rattle.std.specs.Ordering.{nat_cmp}
use Rattle.std.specs.Cmp.Lexicographic.{slice_cmp}

-- the one blank, U+0020
abbrev pub blank : ℕ
blank = 32

-- the text filled with blanks on the right up to n characters
abbrev pub padded : ℕ → List ℕ → List ℕ
padded n t = t ++ replicate (n - length t) blank

-- the order by code points of two texts that are padded to the length of the longer
abbrev pub padded_order : List ℕ → List ℕ → Ordering
padded_order a b = let n = max (length a) (length b) in slice_cmp nat_cmp (padded n a) (padded n b)

-- the two are one text once they are padded
abbrev pub SamePadded : List ℕ → List ℕ → Type 0
SamePadded a b = let n = max (length a) (length b) in padded n a ≡ padded n b
