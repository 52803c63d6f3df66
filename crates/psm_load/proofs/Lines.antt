-- How a text is split into lines.
use Rattle.std.proofs.Common.{◌≡◌, ℕ, suc, ◌+◌, ◌<◌, ◌≤◌, Bool, true, false, not, cond, if◌then◌else◌, List, [], ◌∷◌, length, take, drop, Some, None, refl, sym, ap, ◌∙◌, ◌-◌, subst, arith, nat_eq, nat_lt}
use Rattle.std.specs.List.{position, position_or_len}
use Rattle.std.proofs.lemmas.List.{length-drop, take_all}
use Rattle.std.proofs.lemmas.List.Quantifiers.{position-Some}
use borrow.Author.Tests.{ltb-false}
use Rattle.psm_load.specs.Due.{lines_in, on_line, new_line}
use Rattle.psm_load.specs.Stated.{all_lines}
use Rattle.psm_load.specs.Left.{lines_of, next_of}

-- the number of characters before the first line feed, or of all
abbrev size : List ℕ → ℕ
size text = position_or_len (λ b. nat_eq b 10) text

abbrev Split : List ℕ → ℕ → Type 0
Split text n = lines_in text ≡ (take n text ∷ (lines_in (drop (n + 1) text)).0, (lines_in (drop (n + 1) text)).1)

on_first : (c : ℕ) (s : List ℕ) (b : Bool) → (size s < length s → Split s (size s)) → cond (not b) (1 + size s) 0 < length (c ∷ s)
    → (if b then new_line (lines_in s) else on_line c (lines_in s))
    ≡ (take (cond (not b) (1 + size s) 0) (c ∷ s) ∷ (lines_in (drop (cond (not b) (1 + size s) 0 + 1) (c ∷ s))).0, (lines_in (drop (cond (not b) (1 + size s) 0 + 1) (c ∷ s))).1)
on_first c s true others h = refl
on_first c s false others h = let e : 1 + size s ≡ suc (size s) = omega arith in let d : suc (size s) + 1 ≡ suc (size s + 1) = omega arith in
    rw (e, d) (ap (on_line c) (others (omega arith)))

split : (text : List ℕ) → size text < length text → Split text (size text)
split [] h = absurd (omega (arith, h))
split (c ∷ s) h = on_first c s (nat_eq c 10) (split s) h

whole_first : (c : ℕ) (s : List ℕ) (b : Bool) → (length s ≤ size s → lines_in s ≡ ([], s)) → length (c ∷ s) ≤ cond (not b) (1 + size s) 0
    → (if b then new_line (lines_in s) else on_line c (lines_in s)) ≡ ([], c ∷ s)
whole_first c s true others h = absurd (omega arith)
whole_first c s false others h = ap (on_line c) (others (omega arith))

whole : (text : List ℕ) → length text ≤ size text → lines_in text ≡ ([], text)
whole [] h = refl
whole (c ∷ s) h = whole_first c s (nat_eq c 10) (whole s) h

after_first : (l : List ℕ) (ls : List (List ℕ)) (rest : List ℕ) → all_lines (l ∷ ls) rest ≡ l ∷ all_lines ls rest
after_first l ls [] = refl
after_first l ls (c ∷ rest) = refl

found : (b : Bool) (n m : ℕ) → cond b (Some n) None ≡ Some m → n ≡ m
found true n m e = cc
found false n m e = cc

-- the line up to the first line feed, and the others
pub lines_at_feed : (text : List ℕ) (end : ℕ) → position (λ b. nat_eq b 10) text ≡ Some end
    → lines_of text ≡ take end text ∷ lines_of (take (length text - (end + 1)) (drop (end + 1) text))
lines_at_feed text end e = let n : size text ≡ end = found (nat_lt (size text) (length text)) (size text) end e in
    let within : size text < length text = omega (arith, n, (position-Some (λ b. nat_eq b 10) text end 0 e).0) in
    let s : Split text end = subst (Split text) n (split text within) in
    let all : take (length text - (end + 1)) (drop (end + 1) text) ≡ drop (end + 1) text = take_all (length text - (end + 1)) (drop (end + 1) text) (omega (arith, length-drop (end + 1) text)) in
    ap (λ x. all_lines x.0 x.1) s ∙ after_first (take end text) (lines_in (drop (end + 1) text)).0 (lines_in (drop (end + 1) text)).1
    ∙ ap (λ rest. take end text ∷ lines_of rest) (sym all)

unfound : (b : Bool) (n : ℕ) → cond b (Some n) None ≡ None → b ≡ false
unfound true n e = cc
unfound false n e = refl

-- a last line that is not finished
pub lines_at_end : (text : List ℕ) → 0 < length text → position (λ b. nat_eq b 10) text ≡ None → lines_of text ≡ [] ∷ []
lines_at_end [] h e = absurd (omega (arith, h))
lines_at_end (c ∷ s) h e = let b : nat_lt (size (c ∷ s)) (length (c ∷ s)) ≡ false = unfound (nat_lt (size (c ∷ s)) (length (c ∷ s))) (size (c ∷ s)) e in
    ap (λ x. all_lines x.0 x.1) (whole (c ∷ s) (ltb-false (size (c ∷ s)) (length (c ∷ s)) b))

pub ruleset splits = (lines_at_feed, lines_at_end)

on_some : (n c : ℕ) (x : List (List ℕ) × List ℕ) → next_of n (all_lines (on_line c x).0 (on_line c x).1) ≡ Some n
on_some n c ([], rest) = refl
on_some n c (l ∷ ls, []) = refl
on_some n c (l ∷ ls, d ∷ rest) = refl

new_some : (n : ℕ) (ls : List (List ℕ)) (rest : List ℕ) → next_of n (all_lines ([] ∷ ls) rest) ≡ Some n
new_some n ls [] = refl
new_some n ls (d ∷ rest) = refl

first_some : (n c : ℕ) (b : Bool) (x : List (List ℕ) × List ℕ)
    → next_of n (all_lines (if b then new_line x else on_line c x).0 (if b then new_line x else on_line c x).1) ≡ Some n
first_some n c true x = new_some n x.0 x.1
first_some n c false x = on_some n c x

-- a line is left exactly where a character is
pub line_left : (n : ℕ) (text : List ℕ) → 0 < length text → next_of n (lines_of text) ≡ Some n
line_left n [] h = absurd (omega (arith, h))
line_left n (c ∷ s) h = first_some n c (nat_eq c 10) (lines_in s)

pub no_line_left : (n : ℕ) (text : List ℕ) → length text ≡ 0 → next_of n (lines_of text) ≡ None
no_line_left n [] h = refl
no_line_left n (c ∷ s) h = absurd (omega (arith, h))

pub ruleset is_left = (line_left, no_line_left)
