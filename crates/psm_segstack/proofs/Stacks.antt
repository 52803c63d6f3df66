-- A stack in segments, where an item is put on top or taken off.
use Rattle.std.proofs.Common.{◌≡◌, ℕ, ◌+◌, ◌-◌, ◌*◌, ◌/◌, ◌%◌, ◌<◌, ◌≤◌, List, [], ◌∷◌, ◌++◌, length, get_or, set, refl, ap, sym, subst, ◌∙◌, arith, None, take}
use Rattle.std.specs.Prelude.{slice_get, Option, Some, IfNone}
use Rattle.std.specs.Option.{option_to_list}
use Rattle.std.proofs.Math.Nat.{div-add-mod, mod-lt}
use Rattle.std.proofs.lemmas.List.{length-append, length-set, get_or_default, get_or-set_same, set-set, set-get_or, take-append-le}
use Rattle.std.proofs.lemmas.Option.{slice_get_past}
use Rattle.psm_segstack.specs.Segments.{AreFilled, joined}
use Rattle.psm_segstack.specs.Stack.{Stack, stack_of}
use Rattle.psm_segstack.proofs.Filled.{length-joined, filled_within, joined_pushed, filled_set, get-joined, no_items}

-- an index is in a segment, and there at an index below its room
pub in_segment : (n : ℕ) → n % 1024 < 1024
in_segment n = mod-lt n (omega arith)

pub placed : (n : ℕ) → 1024 * (n / 1024) + n % 1024 ≡ n
placed n = div-add-mod n 1024

pub segment_within : (n m : ℕ) → n < 1024 * m → n / 1024 < m
segment_within n m h = omega (arith, h, placed n)

module _ {A : Type 0} where
  -- the same items and the same room
  pub same_stack : (a b : Stack A) → a.items ≡ b.items → a.spare ≡ b.spare → a ≡ b
  same_stack a b e f = ap (λ (i : List A). let s : Stack A = record { items = i; spare = a.spare } in s) e ∙ ap (λ (k : ℕ). let s : Stack A = record { items = b.items; spare = k } in s) f

  -- as many items as the segment of the next one has
  pub length-next : (segments : List (List A)) (n : ℕ) (s : List A) → AreFilled segments n → n / 1024 < length segments → s ≡ get_or segments (n / 1024) s → length s ≡ n % 1024
  length-next segments n s f l e =
      ap length (e ∙ get_or_default segments (n / 1024) s [] l) ∙ f (n / 1024) ∙ omega (arith, placed n, in_segment n)

  pub pushed_filled : (segments : List (List A)) (n : ℕ) (s w : List A) (x : A) → AreFilled segments n → n / 1024 < length segments → s ≡ get_or segments (n / 1024) s → w ≡ s ++ x ∷ [] →
      AreFilled (set segments (n / 1024) w) (n + 1)
  pushed_filled segments n s w x f l e g =
      let long : length w ≡ n % 1024 + 1 = ap length g ∙ length-append s (x ∷ []) ∙ ap (λ k. k + 1) (length-next segments n s f l e) in
      subst (AreFilled (set segments (n / 1024) w)) (omega (arith, placed n))
      (filled_set segments (n / 1024) (n % 1024) (n % 1024 + 1) w (omega (arith, in_segment n)) (omega (arith, in_segment n)) l (subst (AreFilled segments) (sym (placed n)) f) long)

  pub pushed : (segments : List (List A)) (n : ℕ) (v : Stack A) (s w : List A) (x : A) → AreFilled segments n → n / 1024 < length segments → stack_of segments n ≡ v →
      s ≡ get_or segments (n / 1024) s → w ≡ s ++ x ∷ [] → stack_of (set segments (n / 1024) w) (n + 1) ≡ record { items = v.items ++ x ∷ []; spare = v.spare - 1 }
  pushed segments n v s w x f l is e g =
      let items : joined (set segments (n / 1024) w) ≡ joined segments ++ x ∷ [] =
      ap (λ t. joined (set segments (n / 1024) t)) g
      ∙ joined_pushed segments (n / 1024) (n % 1024) s x (in_segment n) l (subst (AreFilled segments) (sym (placed n)) f) e in
      let all : joined (set segments (n / 1024) w) ≡ v.items ++ x ∷ [] = items ∙ ap (λ (t : Stack A). t.items ++ x ∷ []) is in
      let room : 1024 * length (set segments (n / 1024) w) - (n + 1) ≡ v.spare - 1 =
      omega (arith, length-set segments (n / 1024) w, ap (λ (t : Stack A). t.spare) is) in
      same_stack (stack_of (set segments (n / 1024) w) (n + 1)) (record { items = v.items ++ x ∷ []; spare = v.spare - 1 }) all room

  -- the segment of the next item, where there is room for it
  pub next_within : (segments : List (List A)) (n : ℕ) (v : Stack A) → stack_of segments n ≡ v → 1 ≤ v.spare → n / 1024 < length segments
  next_within segments n v is h = segment_within n (length segments) (omega (arith, h, ap (λ (t : Stack A). t.spare) is))

  -- the segment of an item
  pub item_within : (segments : List (List A)) (n at : ℕ) → AreFilled segments n → at < n → at / 1024 < length segments
  item_within segments n at f h = segment_within at (length segments) (omega (arith, h, filled_within segments n f))

  -- the item at an index
  pub got : (segments : List (List A)) (n at : ℕ) (v : Stack A) (s : List A) → AreFilled segments n → stack_of segments n ≡ v → at < n → s ≡ get_or segments (at / 1024) s →
      slice_get s (at % 1024) ≡ slice_get v.items at
  got segments n at v s f is h e =
      ap (λ l. slice_get l (at % 1024)) (e ∙ get_or_default segments (at / 1024) s [] (item_within segments n at f h))
      ∙ sym (get-joined segments n (at / 1024) (at % 1024) f (in_segment at) (omega (arith, h, placed at)))
      ∙ ap (slice_get (joined segments)) (placed at)
      ∙ ap (λ (t : Stack A). slice_get t.items at) is

  -- no item at the number of items or above
  pub got_none : (segments : List (List A)) (n at : ℕ) (v : Stack A) → AreFilled segments n → stack_of segments n ≡ v → n ≤ at → slice_get v.items at ≡ None
  got_none segments n at v f is h =
      slice_get_past v.items at (omega (arith, h, length-joined segments n f, ap (λ (t : Stack A). length t.items) is))

  -- the last item's segment, from which it is taken
  module _ (segments : List (List A)) (n last : ℕ) (v : Stack A) (s w rest : List A) (f : AreFilled segments n) (is : stack_of segments n ≡ v)
      (e : n ≡ last + 1) (read : s ≡ get_or segments (last / 1024) s) (taken : s ≡ w ++ rest) where
    inside : last / 1024 < length segments
    inside = item_within segments n last f (omega (arith, e))

    pub length-last : length s ≡ last % 1024 + 1
    length-last = ap length (read ∙ get_or_default segments (last / 1024) s [] inside) ∙ f (last / 1024) ∙ omega (arith, e, placed last, in_segment last)

    popped_filled : (x : A) → rest ≡ x ∷ [] → AreFilled (set segments (last / 1024) w) last
    popped_filled x one =
        let long : length w ≡ last % 1024 = omega (arith, length-last, ap length taken, length-append w rest, ap length one) in
        subst (AreFilled (set segments (last / 1024) w)) (placed last)
        (filled_set segments (last / 1024) (last % 1024 + 1) (last % 1024) w (omega (arith, in_segment last)) (omega (arith, in_segment last)) inside
        (subst (AreFilled segments) (omega (arith, e, placed last)) f) long)

    popped_items : (x : A) → rest ≡ x ∷ [] → v.items ≡ joined (set segments (last / 1024) w) ++ x ∷ []
    popped_items x one =
        let again : set (set segments (last / 1024) w) (last / 1024) (w ++ x ∷ []) ≡ segments =
        set-set segments (last / 1024) w (w ++ x ∷ [])
        ∙ ap (set segments (last / 1024)) (sym (taken ∙ ap (λ l. w ++ l) one) ∙ read)
        ∙ set-get_or segments (last / 1024) s in
        let there : w ≡ get_or (set segments (last / 1024) w) (last / 1024) w = sym (get_or-set_same segments (last / 1024) w w inside) in
        sym (ap (λ (t : Stack A). t.items) is)
        ∙ ap joined (sym again)
        ∙ joined_pushed (set segments (last / 1024) w) (last / 1024) (last % 1024) w x (in_segment last)
        (omega (arith, inside, length-set segments (last / 1024) w))
        (subst (AreFilled (set segments (last / 1024) w)) (sym (placed last)) (popped_filled x one)) there

  -- the last item is taken out of its segment
  pub record Popped (segments : List (List A)) (last : ℕ) (v : Stack A) (w : List A) (r : Option A) : Type 0 where
    pub filled : AreFilled (set segments (last / 1024) w) last
    pub items : v.items ≡ joined (set segments (last / 1024) w) ++ option_to_list r
    pub spare : 1024 * length (set segments (last / 1024) w) - last ≡ v.spare + length (option_to_list r)

  pub popped : (segments : List (List A)) (n last : ℕ) (v : Stack A) (s w : List A) (r : Option A) → AreFilled segments n → stack_of segments n ≡ v →
      n ≡ last + 1 → s ≡ get_or segments (last / 1024) s → s ≡ w ++ option_to_list r → IfNone r (s ≡ []) → Popped segments last v w r
  popped segments n last v s w None f is e read taken none =
      let never : ⊥ = omega (arith, ap length none, length-last segments n last v s w [] f is e read taken) in absurd never
  popped segments n last v s w (Some x) f is e read taken none = record {
    filled = popped_filled segments n last v s w (x ∷ []) f is e read taken x refl;
    items = popped_items segments n last v s w (x ∷ []) f is e read taken x refl;
    spare = omega (arith, e, filled_within segments n f, length-set segments (last / 1024) w, ap (λ (t : Stack A). t.spare) is);
  }

  -- a stack without items
  pub nothing : (segments : List (List A)) (n : ℕ) (v : Stack A) → AreFilled segments n → stack_of segments n ≡ v → n ≡ 0 → v.items ≡ []
  nothing segments n v f is h = no_items v.items (omega (arith, h, length-joined segments n f, ap (λ (t : Stack A). length t.items) is))

  -- the number of items
  pub counted : (segments : List (List A)) (n : ℕ) (v : Stack A) → AreFilled segments n → stack_of segments n ≡ v → n ≡ length v.items
  counted segments n v f is = sym (length-joined segments n f) ∙ ap (λ (t : Stack A). length t.items) is

  -- an item is taken from a stack that has more than n
  pub record Shortened (len : ℕ) (old new : Stack A) : Type 0 where
    pub kept : take len new.items ≡ take len old.items
    pub room : length new.items + new.spare ≡ length old.items + old.spare
    pub shorter : length new.items < length old.items

  pub shortened : (len : ℕ) (old new : Stack A) (r : Option A) → old.items ≡ new.items ++ option_to_list r → new.spare ≡ old.spare + length (option_to_list r) → IfNone r (old.items ≡ []) →
      len < length old.items → Shortened len old new
  shortened len old new None e f none h = let never : ⊥ = omega (arith, h, ap length none) in absurd never
  shortened len old new (Some x) e f none h =
      let long : length old.items ≡ length new.items + 1 = ap length e ∙ length-append new.items (x ∷ []) in record {
        kept = sym (ap (take len) e ∙ take-append-le len new.items (x ∷ []) (omega (arith, long, h)));
        room = omega (arith, long, f);
        shorter = omega (arith, long);
      }

  -- a segment more
  pub grown_room : (segments more : List (List A)) (n : ℕ) (s : List A) → AreFilled segments n → more ≡ segments ++ s ∷ [] → 1 ≤ 1024 * length more - n
  grown_room segments more n s f e = omega (arith, filled_within segments n f, ap length e, length-append segments (s ∷ []))
