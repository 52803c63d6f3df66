-- The entries of a row in the sets of UNIQUE lists.
use Rattle.std.proofs.Common.{◌≡◌, ℕ, zero, suc, ◌+◌, ◌<◌, ◌≤◌, List, [], ◌∷◌, ◌++◌, length, length-append, below_more, get_or, set, take, true, false, refl, ap, sym, subst, ◌∙◌, add-one, arith, Some, None}
use Rattle.std.specs.Prelude.{is_some, Option}
use Rattle.std.specs.List.{AllZip}
use Rattle.std.proofs.lemmas.List.{map-append, length-map, get_or_append_left, get_or-map, get_or_default, get_or-take}
use Rattle.std.proofs.Math.Seq.{get_or-append_seam}
use Rattle.psm_value.specs.declared.datum.Datum.{Datum}
use Rattle.psm_table.specs.declared.definition.TableDef.{TableDef}
use Rattle.psm_table.specs.declared.map.Pair.{Pair}
use Rattle.psm_table.specs.Held.{entries_of, IsEntered}
use Rattle.psm_table.specs.Index.{ArePrepared, ArePut, Grow, GrowByOne, HasRoom, HaveRoom, IsPrepared, IsPut}
use Rattle.psm_table.specs.Map.{keys_of, value_of, with_pair}
use Rattle.psm_table.specs.Mapped.{Mapped}
use Rattle.psm_table.specs.State.{entry_of, has_key, HasEntry}
use Rattle.psm_table.proofs.Keys.{has-grown, has-new, has_value, keys-longer}

abbrev pub Sets : Type 0
Sets = List (Mapped (Unit {0}))

abbrev no_set : Mapped (Unit {0})
no_set = record { runs = []; pairs = []; ready = false }

-- the entries of the set at index k
pub get-entries : (sets : Sets) (k : ℕ) (d : Mapped (Unit {0})) (e : List (List Datum)) → k < length sets → get_or (entries_of sets) k e ≡ keys_of (get_or sets k d).pairs
get-entries sets k d e l = get_or-map (λ (m : Mapped (Unit {0})). keys_of m.pairs) sets k d e l

pub length-entries : (sets : Sets) → length (entries_of sets) ≡ length sets
length-entries sets = length-map sets (λ (m : Mapped (Unit {0})). keys_of m.pairs)

pub grow-same : (old : List (List (List Datum))) (new : List (List (List Datum))) → new ≡ old → Grow old new
grow-same old new same k d e key l h =
    ap (λ (x : List (List Datum)). has_key x key) (ap (λ (s : List (List (List Datum))). get_or s k e) same ∙ get_or_default old k e d l) ∙ h

pub one-same : (old new : List (List (List Datum))) → new ≡ old → GrowByOne old new
one-same old new same k d l = omega (arith, ap (λ (s : List (List (List Datum))). length (get_or s k d)) same)

-- a set in the place of one with the same pairs
pub entries-set : (sets : Sets) (i : ℕ) (m d : Mapped (Unit {0})) → i < length sets → m.pairs ≡ (get_or sets i d).pairs → entries_of (set sets i m) ≡ entries_of sets
entries-set [] i m d l e = absurd (omega arith)
entries-set (x ∷ xs) zero m d l e = ap (λ (ps : List (Pair (Unit {0}))). keys_of ps ∷ entries_of xs) e
entries-set (x ∷ xs) (suc i) m d l e = ap (λ rest. keys_of x.pairs ∷ rest) (entries-set xs i m d (omega arith) e)

pub get-set : {X : Type 0} (xs : List X) (i : ℕ) (y d : X) → i < length xs → get_or (set xs i y) i d ≡ y
get-set [] i y d l = absurd (omega arith)
get-set (x ∷ xs) zero y d l = refl
get-set (x ∷ xs) (suc i) y d l = get-set xs i y d (omega arith)

pub get-set_other : {X : Type 0} (xs : List X) (i k : ℕ) (y d : X) → (i ≡ k → ⊥) → get_or (set xs i y) k d ≡ get_or xs k d
get-set_other [] i k y d n = refl
get-set_other (x ∷ xs) zero zero y d n = absurd (n refl)
get-set_other (x ∷ xs) zero (suc k) y d n = refl
get-set_other (x ∷ xs) (suc i) zero y d n = refl
get-set_other (x ∷ xs) (suc i) (suc k) y d n = get-set_other xs i k y d (λ e. n (ap suc e))

pub take-less : {X : Type 0} (xs ys : List X) (i : ℕ) → take (suc i) xs ≡ take (suc i) ys → take i xs ≡ take i ys
take-less xs ys zero e = refl
take-less [] [] (suc i) e = refl
take-less [] (y ∷ ys) (suc i) e = cc
take-less (x ∷ xs) [] (suc i) e = cc
take-less (x ∷ xs) (y ∷ ys) (suc i) e =
    let first : x ≡ y = cc in
    let rest : take (suc i) xs ≡ take (suc i) ys = cc in
    ap (λ z. z ∷ take i xs) first ∙ ap (λ l. y ∷ l) (take-less xs ys i rest)

pub take-get : {X : Type 0} (xs ys : List X) (i : ℕ) (d : X) → take (suc i) xs ≡ take (suc i) ys → get_or xs i d ≡ get_or ys i d
take-get xs ys i d e = sym (get_or-take (suc i) xs i d (omega arith)) ∙ ap (λ l. get_or l i d) e ∙ get_or-take (suc i) ys i d (omega arith)

-- what holds at each index of two lists
pub all_zip-from : {A B : Type 0} (R : A → B → Type 0) (xs : List A) (ys : List B) → length xs ≡ length ys → ((k : ℕ) (d : A) (e : B) → k < length ys → R (get_or xs k d) (get_or ys k e)) → AllZip R xs ys
all_zip-from R [] [] l h = tt
all_zip-from R [] (y ∷ ys) l h = absurd (omega (arith, l))
all_zip-from R (x ∷ xs) [] l h = absurd (omega (arith, l))
all_zip-from R (x ∷ xs) (y ∷ ys) l h = (h 0 x y (omega arith), all_zip-from R xs ys (omega (arith, l)) (λ k d e m. h (suc k) d e (omega arith)))

pub length_all_zip : {A B : Type 0} (R : A → B → Type 0) (xs : List A) (ys : List B) → AllZip R xs ys → length xs ≡ length ys
length_all_zip R [] [] h = refl
length_all_zip R [] (y ∷ ys) h = absurd h
length_all_zip R (x ∷ xs) [] h = absurd h
length_all_zip R (x ∷ xs) (y ∷ ys) h = ap suc (length_all_zip R xs ys h.1)

pub all_zip-at : {A B : Type 0} (R : A → B → Type 0) (xs : List A) (ys : List B) (k : ℕ) (d : A) (e : B) → AllZip R xs ys → k < length ys → R (get_or xs k d) (get_or ys k e)
all_zip-at R [] [] k d e h l = absurd (omega arith)
all_zip-at R [] (y ∷ ys) k d e h l = absurd h
all_zip-at R (x ∷ xs) [] k d e h l = absurd h
all_zip-at R (x ∷ xs) (y ∷ ys) zero d e h l = h.0
all_zip-at R (x ∷ xs) (y ∷ ys) (suc k) d e h l = all_zip-at R xs ys k d e h.1 (omega arith)

-- the first of two lists
all_zip-take : {A B : Type 0} (R : A → B → Type 0) (n : ℕ) (xs : List A) (ys : List B) → AllZip R xs ys → AllZip R (take n xs) (take n ys)
all_zip-take R zero xs ys h = tt
all_zip-take R (suc n) [] [] h = tt
all_zip-take R (suc n) [] (y ∷ ys) h = absurd h
all_zip-take R (suc n) (x ∷ xs) [] h = absurd h
all_zip-take R (suc n) (x ∷ xs) (y ∷ ys) h = (h.0, all_zip-take R n xs ys h.1)

entries-take : (n : ℕ) (sets : Sets) → entries_of (take n sets) ≡ take n (entries_of sets)
entries-take zero sets = refl
entries-take (suc n) [] = refl
entries-take (suc n) (m ∷ ms) = ap (λ (es : List (List (List Datum))). keys_of m.pairs ∷ es) (entries-take n ms)

-- a list is no longer than one of which it is the first part
pub take-within : {X : Type 0} (n : ℕ) (xs ys : List X) → take n xs ≡ ys → length ys ≤ length xs
take-within zero xs ys e = omega (arith, ap length e)
take-within (suc n) [] ys e = omega (arith, ap length e)
take-within (suc n) (x ∷ xs) ys e = omega (arith, ap length e, take-within n xs (take n xs) refl)

-- what follows doesn't count
pub take-longer : {X : Type 0} (n : ℕ) (xs ys : List X) → n ≤ length xs → take n (xs ++ ys) ≡ take n xs
take-longer zero xs ys l = refl
take-longer (suc n) [] ys l = absurd (omega (arith, l))
take-longer (suc n) (x ∷ xs) ys l = ap (λ zs. x ∷ zs) (take-longer n xs ys (omega (arith, l)))

-- a row that is entered in all lists is in the first
pub entered-first : (def : TableDef) (lists first : List (List ℕ)) (sets : Sets) (row : List Datum) → take (length first) lists ≡ first → IsEntered def lists (entries_of sets) row → IsEntered def first (entries_of (take (length first) sets)) row
entered-first def lists first sets row e h =
    subst (λ (ls : List (List ℕ)). AllZip (HasEntry def row) ls (entries_of (take (length first) sets))) e
    (subst (λ (es : List (List (List Datum))). AllZip (HasEntry def row) (take (length first) lists) es) (sym (entries-take (length first) sets))
    (all_zip-take (HasEntry def row) (length first) lists (entries_of sets) h))

-- no entry of a row is lost where the sets grow
pub entered-grow : (def : TableDef) (lists : List (List ℕ)) (row : List Datum) (old new : List (List (List Datum))) → length new ≡ length old → Grow old new → IsEntered def lists old row → IsEntered def lists new row
entered-grow def lists row old new long g h =
    let count : length lists ≡ length old = length_all_zip (HasEntry def row) lists old h in
    all_zip-from (HasEntry def row) lists new (omega (arith, count, long))
    (λ k d e l n. g k e e (entry_of def (get_or lists k d) row) (omega (arith, l, long)) (all_zip-at (HasEntry def row) lists old k d e h (omega (arith, l, long)) n))

-- what holds at an index of three lists
module _ {A B C : Type 0} (R : A → B → C → Type 0) where
  abbrev pub At : List A → List B → List C → ℕ → Type 0
  At xs ys zs k = (a : A) (b : B) (c : C) → R (get_or xs k a) (get_or ys k b) (get_or zs k c)

  -- the first n indexes and one more, at which another element is set in the second list
  pub at_set : (xs : List A) (ys : List B) (zs : List C) (i : ℕ) (a : A) (b : B) (c : C) → i < length xs → i < length ys → i < length zs → a ≡ get_or xs i a → c ≡ get_or zs i c → R a b c
      → ((k : ℕ) → k < i → At xs ys zs k) → (k : ℕ) → k < i + 1 → At xs (set ys i b) zs k
  at_set xs ys zs i a b c l m n ea ec r h = below_more (At xs (set ys i b) zs) i
      (λ k below x y z. subst (λ w. R (get_or xs k x) w (get_or zs k z)) (sym (get-set_other ys i k b y (λ (f : i ≡ k). absurd (omega (arith, f, below))))) (h k below x y z))
      (λ x y z.
      let first : get_or xs i x ≡ a = get_or_default xs i x a l ∙ sym ea in
      let third : get_or zs i z ≡ c = get_or_default zs i z c n ∙ sym ec in
      subst (λ w. R w (get_or (set ys i b) i y) (get_or zs i z)) (sym first)
      (subst (λ w. R a w (get_or zs i z)) (sym (get-set ys i b y m)) (subst (λ w. R a b w) (sym third) r)))

  -- the same, where an element is put after the third list
  pub at_pushed : (xs : List A) (ys : List B) (zs : List C) (i : ℕ) (a : A) (b : B) (c : C) → i < length xs → i < length ys → length zs ≡ i → a ≡ get_or xs i a → R a b c
      → ((k : ℕ) → k < i → At xs ys zs k) → (k : ℕ) → k < i + 1 → At xs (set ys i b) (zs ++ c ∷ []) k
  at_pushed xs ys zs i a b c l m n ea r h =
      at_set xs ys (zs ++ c ∷ []) i a b c l m (omega (arith, n, length-append zs (c ∷ []))) ea
      (sym (subst (λ j. get_or (zs ++ c ∷ []) j c ≡ c) n (get_or-append_seam zs c [] c))) r
      (λ k below x y z. subst (λ w. R (get_or xs k x) (get_or ys k y) w) (sym (get_or_append_left zs (c ∷ []) z k (omega (arith, below, n)))) (h k below x y z))

-- a set into which an entry was put
pub put-some : (old new : Mapped (Unit {0})) (e : List Datum) → new.pairs ≡ with_pair (record { key = e; value = tt }) old.pairs → IsPut old new (Some e)
put-some old new e put =
    let pair : Pair (Unit {0}) = record { key = e; value = tt } in record {
      grown = λ key h. ap (λ (ps : List (Pair (Unit {0}))). has_key (keys_of ps) key) put ∙ has-grown pair key old.pairs h;
      one = omega (arith, ap (λ (ps : List (Pair (Unit {0}))). length (keys_of ps)) put, keys-longer pair old.pairs);
      there = ap (λ (ps : List (Pair (Unit {0}))). has_key (keys_of ps) e) put ∙ has-new pair old.pairs;
    }

-- a set that was prepared for an entry
pub prepared-room : (columns key : List ℕ) (row : List Datum) (m : Mapped (Unit {0})) (o : Option (List Datum)) → IsPrepared columns key row m o → HasRoom m o
prepared-room columns key row m None h = tt
prepared-room columns key row m (Some e) h = h.1

has-put : (def : TableDef) (row : List Datum) (columns : List ℕ) (m new : Mapped (Unit {0})) (o : Option (List Datum)) → IsPrepared columns def.key row m o → IsPut m new o
    → HasEntry def row columns (keys_of new.pairs)
has-put def row columns m new None p h null = absurd (let f : true ≡ false = sym p ∙ null in cc)
has-put def row columns m new (Some e) p h null = ap (λ (k : List Datum). has_key (keys_of new.pairs) k) (sym p.0) ∙ h.there

-- sets that were prepared for a row, and then have its entries
module _ (def : TableDef) (lists : List (List ℕ)) (row : List Datum) (sets : Sets) (entries : List (Option (List Datum))) (prepared : ArePrepared def lists row sets entries) where
  pub room-for : HaveRoom sets entries
  room-for k m o l = prepared-room (get_or lists k []) def.key row (get_or sets k m) (get_or entries k o) (prepared.each k [] m o l)

  pub entered-put : (new : Sets) → length sets ≡ length lists → length new ≡ length sets → ArePut sets new entries → IsEntered def lists (entries_of new) row
  entered-put new count long put =
      all_zip-from (HasEntry def row) lists (entries_of new) (omega (arith, count, long, length-entries new)) (λ k d e l.
      let inside : k < length new = omega (arith, l, length-entries new) in
      let within : k < length sets = omega (arith, inside, long) in
      subst (λ (s : List (List Datum)). HasEntry def row (get_or lists k d) s) (sym (get-entries new k no_set e inside))
      (has-put def row (get_or lists k d) (get_or sets k no_set) (get_or new k no_set) (get_or entries k None) (prepared.each k d no_set None within) (put k no_set None within)))

module _ (old sets new : Sets) (entries : List (Option (List Datum))) (same : entries_of sets ≡ entries_of old) (long : length new ≡ length sets) (put : ArePut sets new entries) where
  was : (k : ℕ) (d : List (List Datum)) → k < length sets → keys_of (get_or sets k no_set).pairs ≡ get_or (entries_of old) k d
  was k d l = sym (get-entries sets k no_set d l) ∙ ap (λ (s : List (List (List Datum))). get_or s k d) same

  inside-sets : (k : ℕ) → k < length (entries_of old) → k < length sets
  inside-sets k l = omega (arith, l, ap length same, length-entries sets)

  pub grow-put : Grow (entries_of old) (entries_of new)
  grow-put k d e key l h =
      let within : k < length sets = inside-sets k l in
      ap (λ (s : List (List Datum)). has_key s key) (get-entries new k no_set e (omega (arith, within, long)))
      ∙ (put k no_set None within).grown key (ap (λ (s : List (List Datum)). has_key s key) (was k d within) ∙ h)

  pub one-put : GrowByOne (entries_of old) (entries_of new)
  one-put k d l =
      let within : k < length sets = inside-sets k l in
      omega (arith, ap length (get-entries new k no_set d (omega (arith, within, long))), ap length (was k d within), (put k no_set None within).one)

pub no_value : {V : Type 0} (o : Option V) → is_some o ≡ false → o ≡ None
no_value None e = refl
no_value (Some u) e = cc

pub none_there : {V : Type 0} (key : List Datum) (pairs : List (Pair V)) → has_key (keys_of pairs) key ≡ false → value_of key pairs ≡ None
none_there key pairs e = no_value (value_of key pairs) (has_value key pairs ∙ e)

-- copies of some first sets, and of one more
take-more : {X : Type 0} (xs : List X) (i : ℕ) (d : X) → i < length xs → take (suc i) xs ≡ take i xs ++ get_or xs i d ∷ []
take-more [] i d l = absurd (omega arith)
take-more (x ∷ xs) zero d l = refl
take-more (x ∷ xs) (suc i) d l = ap (λ r. x ∷ r) (take-more xs i d (omega arith))

pub entries-more : (copies sets : Sets) (i : ℕ) (m x : Mapped (Unit {0})) → entries_of copies ≡ take i (entries_of sets) → i < length sets → x ≡ get_or sets i x → m.pairs ≡ x.pairs
    → entries_of (copies ++ m ∷ []) ≡ take (i + 1) (entries_of sets)
entries-more copies sets i m x e l at same =
    map-append (λ (y : Mapped (Unit {0})). keys_of y.pairs) copies (m ∷ [])
    ∙ ap (λ es. es ++ keys_of m.pairs ∷ []) e
    ∙ ap (λ ks. take i (entries_of sets) ++ ks ∷ []) (ap (λ (ps : List (Pair (Unit {0}))). keys_of ps) (same ∙ ap (λ (y : Mapped (Unit {0})). y.pairs) at) ∙ sym (get-entries sets i x [] l))
    ∙ rw add-one (sym (take-more (entries_of sets) i [] (omega (arith, l, length-entries sets))))
