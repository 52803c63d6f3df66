-- A line is parted at the first place of a word: before ` TO` stand numbers, none of which has a T.
use Rattle.std.proofs.Common.{◌≡◌, ℕ, suc, ◌+◌, ◌-◌, ◌<◌, Bool, true, false, ◌&&◌, not, List, [], ◌∷◌, ◌++◌, drop, get_or, length, map, take, Option, Some, None, refl, sym, ap, ◌∙◌, append_assoc, arith}
use Rattle.std.specs.Prelude.{codes, nat_eq, if◌then◌else◌}
use Rattle.std.specs.Char.{is_ascii_digit}
use Rattle.std.specs.Cmp.Lexicographic.{pointwise}
use Rattle.std.specs.List.{list_all, starts_with}
use Rattle.std.proofs.Math.Seq.{drop-cons}
use Rattle.std.proofs.lemmas.Grind.{take_at_read}
use Rattle.std.proofs.lemmas.List.{append-nil, length-drop}
use Rattle.std.proofs.lemmas.Fmt.{digits_decimal}
use Rattle.std.proofs.lemmas.List.Folds.{list_all-append}
use Rattle.psm_num.proofs.Digits.{own}
use Rattle.psm_num.proofs.Literals.{and_first, and_second}
use Rattle.psm_words.specs.Words.{number}
use Rattle.psm_words.specs.Reading.{◌>>=◌, after}
use Rattle.psm_words.proofs.Several.{bind_some, some_is}
use Rattle.psm_object.specs.Words.{further}
use Rattle.psm_load_line.specs.Heads.{EachIs, IsIndex}
use Rattle.psm_load_line.specs.Forms.{index, referred_at}
use Rattle.psm_load_line.specs.Readers.{on, parted, prefixed, some}

abbrev pub toless : ℕ → Bool
toless c = not (nat_eq 84 c)

digit_toless : (c : ℕ) → is_ascii_digit c ≡ true → toless c ≡ true
digit_toless c h = grind (arith, h)

digits_toless : (s : List ℕ) → list_all is_ascii_digit s ≡ true → list_all toless s ≡ true
digits_toless [] h = refl
digits_toless (c ∷ s) h =
    ap (λ b. b && list_all toless s) (digit_toless c (and_first (is_ascii_digit c) (list_all is_ascii_digit s) h)) ∙ digits_toless s (and_second (is_ascii_digit c) (list_all is_ascii_digit s) h)

number_toless : (n : ℕ) → IsIndex n → list_all toless (number n) ≡ true
number_toless n v = digits_toless (number n) (digits_decimal own n (omega (arith, v)))

pub numbers_toless : (ns : List ℕ) → EachIs IsIndex ns → list_all toless (further (map number ns)) ≡ true
numbers_toless [] v = refl
numbers_toless (n ∷ ns) v =
    list_all-append toless (number n) (further (map number ns)) ∙ ap (λ b. b && list_all toless (further (map number ns))) (number_toless n v.0) ∙ numbers_toless ns v.1

abbrev to : List ℕ
to = codes " TO"

not_both : (a b c : Bool) → not b ≡ true → (a && (b && c)) ≡ false
not_both true true c h = absurd (cc)
not_both true false c h = refl
not_both false b c h = refl

-- a place where it doesn't stand
goes_on : (c : ℕ) (s before following : List ℕ) → starts_with nat_eq (c ∷ s) to ≡ false → parted to s ≡ Some (before, following) → parted to (c ∷ s) ≡ Some (c ∷ before, following)
goes_on c s before following f e = ap (λ b. if b then Some ([], c ∷ s) else (parted to s >>= prefixed c)) f ∙ ap (λ (o : Option (List ℕ × List ℕ)). o >>= prefixed c) e

pub parted_again : (s following : List ℕ) → list_all toless s ≡ true → parted to (s ++ (to ++ following)) ≡ Some (s, to ++ following)
parted_again [] following h = refl
parted_again (c ∷ []) following h = goes_on c (to ++ following) [] (to ++ following) (not_both (nat_eq 32 c) (nat_eq 84 32) false refl) refl
parted_again (c ∷ d ∷ s) following h =
    let rest = and_second (toless c) (toless d && list_all toless s) h in
    goes_on c (d ∷ (s ++ (to ++ following))) (d ∷ s) (to ++ following) (not_both (nat_eq 32 c) (nat_eq 84 d) (pointwise nat_eq (79 ∷ []) (take 1 (s ++ (to ++ following)))) (and_first (toless d) (list_all toless s) rest)) (parted_again (d ∷ s) following rest)

pub parted_takes : (w s before following : List ℕ) → parted w s ≡ Some (before, following) → s ≡ before ++ following
parted_takes w [] before following e = absurd cc
parted_takes w (c ∷ s) before following e = by (starts_with nat_eq (c ∷ s) w) (parted_takes w s) e where
  by : (b : Bool) → ((a r : List ℕ) → parted w s ≡ Some (a, r) → s ≡ a ++ r) → (if b then Some ([], c ∷ s) else (parted w s >>= prefixed c)) ≡ Some (before, following) → c ∷ s ≡ before ++ following
  by true ih q =
      let same = some_is {A = List ℕ × List ℕ} ([], c ∷ s) (before, following) q in
      ap (λ (x : List ℕ × List ℕ). x.0 ++ x.1) same
  by false ih q =
      let f = bind_some (parted w s) (prefixed c) (before, following) q in
      let same = some_is {A = List ℕ × List ℕ} (c ∷ f.0.0, f.0.1) (before, following) f.2 in
      ap (λ t. c ∷ t) (ih f.0.0 f.0.1 f.1) ∙ ap (λ (x : List ℕ × List ℕ). x.0 ++ x.1) same

-- ---- place by place

-- what stands before a place, put before what was found after it
abbrev pub onto : List ℕ → List ℕ × List ℕ → Option (List ℕ × List ℕ)
onto before x = Some (before ++ x.0, x.1)

-- the first place is not before that one
abbrev pub Onward : List ℕ → List ℕ → ℕ → Type 0
Onward w text at = parted w text ≡ (parted w (drop at text) >>= onto (take at text))

here : (w s : List ℕ) → 0 < length s → starts_with nat_eq s w ≡ true → parted w s ≡ Some ([], s)
here w [] l e = absurd (omega (arith, l))
here w (c ∷ s) l e = ap (λ b. if b then Some ([], c ∷ s) else (parted w s >>= prefixed c)) e

pub parted_here : (w text : List ℕ) (at : ℕ) → at < length text → starts_with nat_eq (drop at text) w ≡ true → Onward w text at → parted w text ≡ Some (take at text, drop at text)
parted_here w text at l e h =
    let long : length (drop at text) ≡ length text - at = length-drop at text in
    let some : 0 < length (drop at text) = omega (arith, l, long) in
    h ∙ ap (λ (o : Option (List ℕ × List ℕ)). o >>= onto (take at text)) (here w (drop at text) some e) ∙ ap (λ t. Some (t, drop at text)) (append-nil (take at text))

moved : (c : ℕ) (before next : List ℕ) (o : Option (List ℕ × List ℕ)) → next ≡ before ++ c ∷ [] → ((o >>= prefixed c) >>= onto before) ≡ (o >>= onto next)
moved c before next None e = refl
moved c before next (Some x) e = ap (λ t. Some (t, x.1)) (sym (append_assoc before (c ∷ []) x.0)) ∙ ap (λ t. Some (t ++ x.0, x.1)) (sym e)

pub parted_next : (w text : List ℕ) (at : ℕ) → at < length text → starts_with nat_eq (drop at text) w ≡ false → Onward w text at → Onward w text (at + 1)
parted_next w text at l e h =
    let c = get_or text at 0 in
    let k : suc at ≡ at + 1 = omega arith in
    let rest = drop (at + 1) text in
    let split : drop at text ≡ c ∷ rest = drop-cons text at 0 l ∙ ap (λ m. c ∷ drop m text) k in
    let other : starts_with nat_eq (c ∷ rest) w ≡ false = ap (λ s. starts_with nat_eq s w) (sym split) ∙ e in
    let one : parted w (drop at text) ≡ (parted w rest >>= prefixed c) = ap (parted w) split ∙ ap (λ b. if b then Some ([], c ∷ rest) else (parted w rest >>= prefixed c)) other in
    h ∙ ap (λ (o : Option (List ℕ × List ℕ)). o >>= onto (take at text)) one ∙ moved c (take at text) (take (at + 1) text) (parted w rest) (take_at_read text at 0 l).1

-- ---- after it

abbrev joined : ℕ → ℕ × List ℕ → Option (ℕ × (ℕ × List ℕ))
joined to x = Some (to, x)

pub referred_read : (s rest following : List ℕ) (to : ℕ) (x : ℕ × List ℕ) → after (codes " TO") s ≡ Some rest → index rest ≡ Some (to, following) → some index following ≡ Some x → referred_at s ≡ Some (to, x)
referred_read s rest following to x k e m =
    ap (λ (o : Option (List ℕ)). o >>= on index (some index)) k
    ∙ ap (λ (o : Option (ℕ × List ℕ)). o >>= λ a. some index a.1 >>= joined a.0) e
    ∙ ap (λ (o : Option (ℕ × List ℕ)). o >>= joined to) m
