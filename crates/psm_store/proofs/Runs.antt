-- Runs of the same element at the end of a list, and copies that are made of such runs.
use Rattle.std.proofs.Common.{◌≡◌, ℕ, zero, suc, ◌+◌, ◌-◌, ◌<◌, ◌≤◌, List, [], ◌∷◌, ◌++◌, length, get_or, set, take, replicate, refl, ap, sym, ◌∙◌, arith, append_assoc, append-nil}
use Rattle.std.proofs.lemmas.List.{take-replicate, take-append-le, take_at, take_all, replicate-append-replicate, length-append, length-replicate, get_or-take, get_or-replicate, get_or-append_right, get_or_default, take_more, take_more_set, length-set}
use Rattle.psm_store.specs.Groups.{Shared, copies_of}

-- the length of a list with a run after it
pub length-run : {A : Type 0} (xs : List A) (n : ℕ) (x : A) → length (xs ++ replicate n x) ≡ length xs + n
length-run xs n x = length-append xs (replicate n x) ∙ ap (λ k. length xs + k) (length-replicate n x)

-- n elements of a list with a run after it don't depend on how much longer the run is
pub filled : {A : Type 0} (d : ℕ) (xs : List A) (m n : ℕ) (x : A) → d ≤ length xs + m → d ≤ length xs + n → take d (xs ++ replicate m x) ≡ take d (xs ++ replicate n x)
filled zero xs m n x h k = refl
filled (suc d) [] m n x h k = take-replicate (suc d) m x (omega (arith, h)) ∙ sym (take-replicate (suc d) n x (omega (arith, k)))
filled (suc d) (y ∷ xs) m n x h k = ap (λ l. y ∷ l) (filled d xs m n x (omega (arith, h)) (omega (arith, k)))

-- a list whose end is a run, against what is left when the run is taken off and put on again
pub refilled : {A : Type 0} (d n : ℕ) (xs rest : List A) (x y : A) → xs ≡ rest ++ replicate n x → d < length xs →
    take (d + 1) (rest ++ replicate (d + 1) x) ≡ take (d + 1) (xs ++ replicate (d + 1) y)
refilled d n xs rest x y e h =
    let long : length xs ≡ length rest + n = ap length e ∙ length-run rest n x in
    filled (d + 1) rest (d + 1) n x (omega arith) (omega (arith, long, h))
    ∙ ap (take (d + 1)) (sym e)
    ∙ sym (take-append-le (d + 1) xs (replicate (d + 1) y) (omega (arith, h)))

-- a shorter run
pub shorter : {A : Type 0} (xs : List A) (m n : ℕ) (x : A) → m ≤ n → xs ++ replicate m x ≡ take (length (xs ++ replicate m x)) (xs ++ replicate n x)
shorter xs m n x h =
    let k : m + (n - m) ≡ n = omega (arith, h) in
    let e : xs ++ replicate n x ≡ (xs ++ replicate m x) ++ replicate (n - m) x =
    ap (λ i. xs ++ replicate i x) (sym k) ∙ ap (λ l. xs ++ l) (sym (replicate-append-replicate m (n - m) x)) ∙ sym (append_assoc xs (replicate m x) (replicate (n - m) x)) in
    sym (ap (take (length (xs ++ replicate m x))) e ∙ take_at (xs ++ replicate m x) (replicate (n - m) x) (length (xs ++ replicate m x)) refl)

-- a list with a run after it that is put back to its element d, as one with another run
module _ {A : Type 0} (d n : ℕ) (xs rest : List A) (x y : A) (inside : d < length (xs ++ replicate n y)) (outside : length rest ≤ d)
    (e : take (d + 1) (rest ++ replicate (d + 1) x) ≡ take (d + 1) (xs ++ replicate (d + 1) y)) where
  rolled-long : d < length xs + n
  rolled-long = omega (arith, inside, length-run xs n y)

  pub rolled : rest ++ replicate (d + 1 - length rest) x ≡ take (d + 1) (xs ++ replicate n y)
  rolled =
      let long : length (rest ++ replicate (d + 1 - length rest) x) ≤ d + 1 = omega (arith, outside, length-run rest (d + 1 - length rest) x) in
      sym (take_all (d + 1) (rest ++ replicate (d + 1 - length rest) x) long)
      ∙ filled (d + 1) rest (d + 1 - length rest) (d + 1) x (omega (arith, outside)) (omega arith)
      ∙ e
      ∙ filled (d + 1) xs (d + 1) n y (omega arith) (omega (arith, rolled-long))

  pub rolled-last : (z : A) → x ≡ get_or (xs ++ replicate n y) d z
  rolled-last z =
      sym (get_or-replicate (d + 1 - length rest) (d - length rest) x z (omega (arith, outside)))
      ∙ sym (get_or-append_right rest (replicate (d + 1 - length rest) x) (length rest) d z refl outside)
      ∙ ap (λ l. get_or l d z) rolled
      ∙ get_or-take (d + 1) (xs ++ replicate n y) d z (omega arith)

-- the copies where the last group is changed
pub copies_of-append : (gs hs : List Shared) → copies_of (gs ++ hs) ≡ copies_of gs ++ copies_of hs
copies_of-append [] hs = refl
copies_of-append (g ∷ gs) hs =
    ap (λ l. replicate g.marks g.tables ++ l) (copies_of-append gs hs) ∙ sym (append_assoc (replicate g.marks g.tables) (copies_of gs) (copies_of hs))

pub copies_of-last : (gs : List Shared) (g : Shared) → copies_of (gs ++ g ∷ []) ≡ copies_of gs ++ replicate g.marks g.tables
copies_of-last gs g = copies_of-append gs (g ∷ []) ∙ ap (λ l. copies_of gs ++ l) (append-nil (replicate g.marks g.tables))

some_group : (groups : List Shared) → 0 < length (copies_of groups) → 0 < length groups
some_group [] h = h
some_group (g ∷ gs) h = omega arith

-- the last group, read as g0 and as g, of which some marks are taken
module _ (groups : List Shared) (count marks most : ℕ) (g0 g w : Shared) (counted : count ≡ length groups) (some : 0 < length (copies_of groups))
    (read0 : g0 ≡ get_or groups (count - 1) g0) (had : marks ≡ g0.marks) (less : most < marks)
    (read : g ≡ get_or groups (count - 1) g) (is : w ≡ record g { marks = g.marks - most }) where
  last : count - 1 + 1 ≡ length groups
  last = omega (arith, counted, some_group groups some)

  last_in : count - 1 < length groups
  last_in = omega (arith, last)

  fewer : most < g.marks
  fewer =
      let same : g0 ≡ g = read0 ∙ get_or_default groups (count - 1) g0 g last_in ∙ sym read in
      omega (arith, less, had, ap (λ (x : Shared). x.marks) same)

  whole : copies_of groups ≡ copies_of (take (count - 1) groups) ++ replicate g.marks g.tables
  whole =
      let cut : groups ≡ take (count - 1) groups ++ g ∷ [] =
      sym (take_all (count - 1 + 1) groups (omega (arith, last))) ∙ take_more groups (count - 1) g last_in
      ∙ ap (λ x. take (count - 1) groups ++ x ∷ []) (sym read) in
      ap copies_of cut ∙ copies_of-last (take (count - 1) groups) g

  less-whole : copies_of (set groups (count - 1) w) ≡ copies_of (take (count - 1) groups) ++ replicate (g.marks - most) g.tables
  less-whole =
      let long : length (set groups (count - 1) w) ≤ count - 1 + 1 = omega (arith, last, length-set groups (count - 1) w) in
      let cut : set groups (count - 1) w ≡ take (count - 1) groups ++ w ∷ [] =
      sym (take_all (count - 1 + 1) (set groups (count - 1) w) long) ∙ take_more_set groups (count - 1) w last_in in
      ap copies_of cut ∙ copies_of-last (take (count - 1) groups) w
      ∙ ap (λ (x : Shared). copies_of (take (count - 1) groups) ++ replicate x.marks x.tables) is

  pub shortened-length : length (copies_of (set groups (count - 1) w)) + most ≡ length (copies_of groups)
  shortened-length =
      omega (
        arith,
        fewer,
        ap length whole,
        ap length less-whole,
        length-run (copies_of (take (count - 1) groups)) g.marks g.tables,
        length-run (copies_of (take (count - 1) groups)) (g.marks - most) g.tables,
      )

  pub shortened : copies_of (set groups (count - 1) w) ≡ take (length (copies_of (set groups (count - 1) w))) (copies_of groups)
  shortened =
      less-whole
      ∙ shorter (copies_of (take (count - 1) groups)) (g.marks - most) g.marks g.tables (omega arith)
      ∙ ap (λ l. take (length l) (copies_of (take (count - 1) groups) ++ replicate g.marks g.tables)) (sym less-whole)
      ∙ ap (take (length (copies_of (set groups (count - 1) w)))) (sym whole)
