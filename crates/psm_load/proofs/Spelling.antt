-- What a part reads, as the values that its lines say one after another: lines that are read were written for such values, and those that are
-- written for them are read again.
use Rattle.std.proofs.Common.{◌≡◌, ℕ, zero, suc, ◌+◌, List, [], ◌∷◌, ◌++◌, length, map, Option, Some, None, Ok, Err, refl, sym, ap, subst, ◌∙◌, append_assoc, length-append, arith}
use Rattle.std.specs.List.{flat_map}
use Rattle.psm_code.specs.declared.rule.CodeRule.{CodeRule}
use Rattle.psm_load_line.specs.Heads.{EachIs}
use Rattle.psm_load_line.specs.Readers.{LineReader}
use Rattle.psm_load_line.proofs.Spelled.{Written}
use Rattle.psm_load.specs.Parts.{At, Part, after_line, and_then, first_odd, given, noting, one, taken, times, ◌>>◌}
use Rattle.psm_load.proofs.Following.{Answer, Lines}

abbrev pub moved : At → ℕ → At
moved at n = record { number = at.number + n; odd = at.odd }

-- what the lines at the front say, where no line is odd
abbrev pub Said : {A : Type 0} (T : Type 0) → (T → A) → (T → Lines) → At → Lines → A → Lines → Type 0
Said T value lines at ls a rest = (at.odd ≡ None) × (t : T) × (a ≡ value t) × (ls ≡ lines t ++ rest)

pub record Spells {A : Type 0} (T : Type 0) (value : T → A) (lines : T → Lines) (p : Part A) : Type 0 where
  pub takes : (at : At) (ls : Lines) (a : A) (to : At) (rest : Lines) → p at ls ≡ Ok (a, (to, rest)) → to.odd ≡ None → Said T value lines at ls a rest
  pub again : (at : At) (t : T) (rest : Lines) → p at (lines t ++ rest) ≡ Ok (value t, (moved at (length (lines t)), rest))

abbrev answered : {A : Type 0} → A × (At × Lines) → Answer A
answered x = Ok x

answer_is : {A : Type 0} (x y : A × (At × Lines)) → answered x ≡ answered y → x ≡ y
answer_is x y e = cc

moved_none : (at : At) → at ≡ moved at 0
moved_none at = let e : at.number ≡ at.number + 0 = omega arith in ap (λ n. record at { number = n }) e

-- ---- what is given, and several parts

pub spells_given : {A : Type 0} (a : A) → Spells (Unit {0}) (λ t. a) (λ t. []) (given a)
spells_given {A} a = record { takes = takes; again = again } where
  takes : (at : At) (ls : Lines) (b : A) (to : At) (rest : Lines) → given a at ls ≡ Ok (b, (to, rest)) → to.odd ≡ None → Said (Unit {0}) (λ t. a) (λ t. []) at ls b rest
  takes at ls b to rest e odd =
      let q = answer_is (a, (at, ls)) (b, (to, rest)) e in
      (ap (λ (x : A × (At × Lines)). x.1.0.odd) q ∙ odd, tt, sym (ap (λ (x : A × (At × Lines)). x.0) q), ap (λ (x : A × (At × Lines)). x.1.1) q)

  again : (at : At) (t : Unit {0}) (rest : Lines) → given a at rest ≡ Ok (a, (moved at 0, rest))
  again at t rest = ap (λ (i : At). answered (a, (i, rest))) (moved_none at)

and_then_ok : {A B : Type 0} (r : Answer A) (next : A → Part B) (y : B × (At × Lines)) → and_then r next ≡ Ok y → (x : A × (At × Lines)) × (r ≡ Ok x) × (next x.0 x.1.0 x.1.1 ≡ Ok y)
and_then_ok (Ok x) next y e = (x, refl, e)
and_then_ok (Err n) next y e = absurd cc

pub spells_then : {A B : Type 0} {T : Type 0} {value : T → A} {lines : T → Lines} {p : Part A} {U : A → Type 0} {worth : (a : A) → U a → B} {others : (a : A) → U a → Lines} {next : A → Part B}
    → Spells T value lines p → ((a : A) → Spells (U a) (worth a) (others a) (next a))
    → Spells ((t : T) × U (value t)) (λ t. worth (value t.0) t.1) (λ t. lines t.0 ++ others (value t.0) t.1) (p >> next)
spells_then {A} {B} {T} {value} {lines} {p} {U} {worth} {others} {next} s n = record { takes = takes; again = again } where
  join : (ls : Lines) (b : B) (rest : Lines) (a : A) (others_after : Lines) (t : T) → a ≡ value t → ls ≡ lines t ++ others_after → (u : U a) → b ≡ worth a u → others_after ≡ others a u ++ rest
      → (x : (t : T) × U (value t)) × (b ≡ worth (value x.0) x.1) × (ls ≡ (lines x.0 ++ others (value x.0) x.1) ++ rest)
  join ls b rest a others_after t e f u g h = by (subst (λ (a : A). (u : U a) × (b ≡ worth a u) × (others_after ≡ others a u ++ rest)) e (u, g, h)) where
    by : ((u : U (value t)) × (b ≡ worth (value t) u) × (others_after ≡ others (value t) u ++ rest)) → (x : (t : T) × U (value t)) × (b ≡ worth (value x.0) x.1) × (ls ≡ (lines x.0 ++ others (value x.0) x.1) ++ rest)
    by v = ((t, v.0), v.1, f ∙ ap (λ r. lines t ++ r) v.2 ∙ sym (append_assoc (lines t) (others (value t) v.0) rest))

  takes : (at : At) (ls : Lines) (b : B) (to : At) (rest : Lines) → (p >> next) at ls ≡ Ok (b, (to, rest)) → to.odd ≡ None
      → Said ((t : T) × U (value t)) (λ t. worth (value t.0) t.1) (λ t. lines t.0 ++ others (value t.0) t.1) at ls b rest
  takes at ls b to rest e odd =
      let f = and_then_ok (p at ls) next (b, (to, rest)) e in
      let later = (n f.0.0).takes f.0.1.0 f.0.1.1 b to rest f.2 odd in
      let first = s.takes at ls f.0.0 f.0.1.0 f.0.1.1 f.1 later.0 in
      let both = join ls b rest f.0.0 f.0.1.1 first.1 first.2 first.3 later.1 later.2 later.3 in
      (first.0, both.0, both.1, both.2)

  further : (at : At) (a b : Lines) → moved (moved at (length a)) (length b) ≡ moved at (length (a ++ b))
  further at a b =
      let long : length (a ++ b) ≡ length a + length b = length-append a b in
      let e : at.number + length a + length b ≡ at.number + length (a ++ b) = omega (arith, long) in
      ap (λ n. record at { number = n }) e

  again : (at : At) (t : (t : T) × U (value t)) (rest : Lines) → (p >> next) at ((lines t.0 ++ others (value t.0) t.1) ++ rest) ≡ Ok (worth (value t.0) t.1, (moved at (length (lines t.0 ++ others (value t.0) t.1)), rest))
  again at t rest =
      ap (λ ls. and_then (p at ls) next) (append_assoc (lines t.0) (others (value t.0) t.1) rest)
      ∙ ap (λ (r : Answer A). and_then r next) (s.again at t.0 (others (value t.0) t.1 ++ rest))
      ∙ (n (value t.0)).again (moved at (length (lines t.0))) t.1 rest
      ∙ ap (λ (i : At). answered (worth (value t.0) t.1, (i, rest))) (further at (lines t.0) (others (value t.0) t.1))

pub spells_made : {A B : Type 0} {T : Type 0} {value : T → A} {lines : T → Lines} {p : Part A} (f : A → B) → Spells T value lines p → Spells T (λ t. f (value t)) lines (p >> λ a. given (f a))
spells_made {A} {B} {T} {value} {lines} {p} f s = record { takes = takes; again = again } where
  takes : (at : At) (ls : Lines) (b : B) (to : At) (rest : Lines) → (p >> λ a. given (f a)) at ls ≡ Ok (b, (to, rest)) → to.odd ≡ None → Said T (λ t. f (value t)) lines at ls b rest
  takes at ls b to rest e odd =
      let g = and_then_ok (p at ls) (λ a. given (f a)) (b, (to, rest)) e in
      let q = answer_is (f g.0.0, (g.0.1.0, g.0.1.1)) (b, (to, rest)) g.2 in
      let k = s.takes at ls g.0.0 g.0.1.0 g.0.1.1 g.1 (ap (λ (x : B × (At × Lines)). x.1.0.odd) q ∙ odd) in
      (k.0, k.1, sym (ap (λ (x : B × (At × Lines)). x.0) q) ∙ ap f k.2, k.3 ∙ ap (λ (x : B × (At × Lines)). lines k.1 ++ x.1.1) q)

  again : (at : At) (t : T) (rest : Lines) → (p >> λ a. given (f a)) at (lines t ++ rest) ≡ Ok (f (value t), (moved at (length (lines t)), rest))
  again at t rest = ap (λ (r : Answer A). and_then r (λ a. given (f a))) (s.again at t rest)

-- the same said by other values
pub spells_as : {A : Type 0} {T U : Type 0} {value : T → A} {lines : T → Lines} {worth : U → A} {others : U → Lines} {p : Part A}
    → ((t : T) → (u : U) × (value t ≡ worth u) × (lines t ≡ others u)) → ((u : U) → (t : T) × (worth u ≡ value t) × (others u ≡ lines t)) → Spells T value lines p → Spells U worth others p
spells_as {A} {T} {U} {value} {lines} {worth} {others} {p} there back s = record { takes = takes; again = again } where
  takes : (at : At) (ls : Lines) (a : A) (to : At) (rest : Lines) → p at ls ≡ Ok (a, (to, rest)) → to.odd ≡ None → Said U worth others at ls a rest
  takes at ls a to rest e odd =
      let k = s.takes at ls a to rest e odd in
      let u = there k.1 in
      (k.0, u.0, k.2 ∙ u.1, k.3 ∙ ap (λ ms. ms ++ rest) u.2)

  again : (at : At) (u : U) (rest : Lines) → p at (others u ++ rest) ≡ Ok (worth u, (moved at (length (others u)), rest))
  again at u rest =
      let t = back u in
      ap (λ ms. p at (ms ++ rest)) t.2 ∙ s.again at t.0 rest
      ∙ ap (λ (a : A). answered (a, (moved at (length (lines t.0)), rest))) (sym t.1) ∙ ap (λ ms. answered (worth u, (moved at (length ms), rest))) (sym t.2)

-- ---- lines

-- where no line is odd yet, none was, and this one isn't
odd_none : (o : Option (ℕ × CodeRule)) (n : ℕ) (rule : Option CodeRule) → first_odd o n rule ≡ None → (o ≡ None) × (rule ≡ None)
odd_none (Some x) n rule e = absurd (cc)
odd_none None n None e = (refl, refl)
odd_none None n (Some r) e = absurd (cc)

odd_kept : (o : Option (ℕ × CodeRule)) (n : ℕ) → first_odd o n None ≡ o
odd_kept (Some x) n = refl
odd_kept None n = refl

after_one : (at : At) (rule : Option CodeRule) → rule ≡ None → after_line at rule ≡ moved at 1
after_one at rule e =
    let k : suc at.number ≡ at.number + 1 = omega arith in
    ap (after_line at) e ∙ ap (λ o. record { number = suc at.number; odd = o }) (odd_kept at.odd at.number) ∙ ap (λ n. record at { number = n }) k

-- what a line says that stands for something
abbrev pub Noted : {A : Type 0} → (A → Type 0) → (A → Option CodeRule) → Type 0
Noted {A} V breaks = (a : A) × V a × (breaks a ≡ None)

pub spells_line : {A : Type 0} {write : A → List ℕ} {V : A → Type 0} {read : LineReader A} (breaks : A → Option CodeRule) → Written write V read → Spells (Noted V breaks) (λ t. t.0) (λ t. write t.0 ∷ []) (noting breaks read)
spells_line {A} {write} {V} {read} breaks w = record { takes = takes; again = again } where
  by : (at : At) (l : List ℕ) (ls : Lines) (o : Option A) (a : A) (to : At) (rest : Lines) → read l ≡ o → taken at breaks ls o ≡ Ok (a, (to, rest)) → to.odd ≡ None
      → Said (Noted V breaks) (λ t. t.0) (λ t. write t.0 ∷ []) at (l ∷ ls) a rest
  by at l ls None a to rest r e odd = absurd cc
  by at l ls (Some b) a to rest r e odd =
      let q = answer_is (b, (after_line at (breaks b), ls)) (a, (to, rest)) e in
      let k = odd_none at.odd at.number (breaks b) (ap (λ (x : A × (At × Lines)). x.1.0.odd) q ∙ odd) in
      let v = w.takes l b r in
      (k.0, (b, v.1, k.1), sym (ap (λ (x : A × (At × Lines)). x.0) q), ap (λ m. m ∷ ls) v.0 ∙ ap (λ (x : A × (At × Lines)). write b ∷ x.1.1) q)

  takes : (at : At) (ls : Lines) (a : A) (to : At) (rest : Lines) → noting breaks read at ls ≡ Ok (a, (to, rest)) → to.odd ≡ None → Said (Noted V breaks) (λ t. t.0) (λ t. write t.0 ∷ []) at ls a rest
  takes at [] a to rest e odd = absurd cc
  takes at (l ∷ ls) a to rest e odd = by at l ls (read l) a to rest refl e odd

  again : (at : At) (t : Noted V breaks) (rest : Lines) → noting breaks read at (write t.0 ∷ rest) ≡ Ok (t.0, (moved at 1, rest))
  again at t rest = ap (taken at breaks rest) (w.again t.0 t.1) ∙ ap (λ (i : At). answered (t.0, (i, rest))) (after_one at (breaks t.0) t.2)

pub spells_one : {A : Type 0} {write : A → List ℕ} {V : A → Type 0} {read : LineReader A} → Written write V read → Spells ((a : A) × V a) (λ t. t.0) (λ t. write t.0 ∷ []) (one read)
spells_one w = spells_as (λ t. ((t.0, t.1), refl, refl)) (λ u. ((u.0, u.1, refl), refl, refl)) (spells_line (λ a. None) w)

-- ---- several of one kind

-- n of them
abbrev pub Several : Type 0 → ℕ → Type 0
Several T n = (ts : List T) × (length ts ≡ n)

abbrev pub Valid : {A : Type 0} → (A → Type 0) → ℕ → Type 0
Valid {A} V n = (xs : List A) × (length xs ≡ n) × EachIs V xs

shorter : (n k : ℕ) → suc n ≡ suc k → n ≡ k
shorter n k e = omega (arith, e)

none_long : (n : ℕ) → suc n ≡ 0 → ⊥
none_long n e = omega (arith, e)

pub spells_times : {A : Type 0} {T : Type 0} {p : Part A} (value : T → A) (lines : T → Lines) (n : ℕ) → Spells T value lines p → Spells (Several T n) (λ t. map value t.0) (λ t. flat_map lines t.0) (times n p)
spells_times {A} {T} value lines zero s = spells_as (λ t. (([], refl), refl, refl)) back (spells_given []) where
  back : (u : Several T 0) → (t : Unit {0}) × (map value u.0 ≡ []) × (flat_map lines u.0 ≡ [])
  back u = by u.0 u.1 where
    by : (ts : List T) → length ts ≡ 0 → (t : Unit {0}) × (map value ts ≡ []) × (flat_map lines ts ≡ [])
    by [] e = (tt, refl, refl)
    by (t ∷ ts) e = absurd (none_long (length ts) e)
spells_times {A} {T} {p} value lines (suc n) s = spells_as (λ t. ((t.0 ∷ t.1.0, ap suc t.1.1), refl, refl)) back (spells_then s (λ a. spells_made (λ others. a ∷ others) (spells_times value lines n s))) where
  back : (u : Several T (suc n)) → (t : T × Several T n) × (map value u.0 ≡ value t.0 ∷ map value t.1.0) × (flat_map lines u.0 ≡ lines t.0 ++ flat_map lines t.1.0)
  back u = by u.0 u.1 where
    by : (ts : List T) → length ts ≡ suc n → (t : T × Several T n) × (map value ts ≡ value t.0 ∷ map value t.1.0) × (flat_map lines ts ≡ lines t.0 ++ flat_map lines t.1.0)
    by [] e = absurd (none_long n (sym e))
    by (t ∷ ts) e = ((t, (ts, shorter (length ts) n e)), refl, refl)

-- values that are valid one by one
unzipped : {A : Type 0} {V : A → Type 0} (lines : A → Lines) (ts : List ((a : A) × V a))
    → (xs : List A) × (length xs ≡ length ts) × EachIs V xs × (map (λ (t : (a : A) × V a). t.0) ts ≡ xs) × (flat_map (λ (t : (a : A) × V a). lines t.0) ts ≡ flat_map lines xs)
unzipped lines [] = ([], refl, tt, refl, refl)
unzipped lines (t ∷ ts) = let k = unzipped lines ts in (t.0 ∷ k.0, ap suc k.1, (t.1, k.2), ap (λ xs. t.0 ∷ xs) k.3, ap (λ ls. lines t.0 ++ ls) k.4)

zipped : {A : Type 0} {V : A → Type 0} (lines : A → Lines) (xs : List A) → EachIs V xs
    → (ts : List ((a : A) × V a)) × (length ts ≡ length xs) × (xs ≡ map (λ (t : (a : A) × V a). t.0) ts) × (flat_map lines xs ≡ flat_map (λ (t : (a : A) × V a). lines t.0) ts)
zipped lines [] v = ([], refl, refl, refl)
zipped lines (x ∷ xs) v = let k = zipped lines xs v.1 in ((x, v.0) ∷ k.0, ap suc k.1, ap (λ ys. x ∷ ys) k.2, ap (λ ls. lines x ++ ls) k.3)

pub spells_flat : {A : Type 0} {V : A → Type 0} {p : Part A} (lines : A → Lines) (n : ℕ) → Spells ((a : A) × V a) (λ t. t.0) (λ t. lines t.0) p → Spells (Valid V n) (λ t. t.0) (λ t. flat_map lines t.0) (times n p)
spells_flat {A} {V} lines n s = spells_as there back (spells_times (λ t. t.0) (λ t. lines t.0) n s) where
  there : (t : Several ((a : A) × V a) n) → (u : Valid V n) × (map (λ (t : (a : A) × V a). t.0) t.0 ≡ u.0) × (flat_map (λ (t : (a : A) × V a). lines t.0) t.0 ≡ flat_map lines u.0)
  there t = let k = unzipped lines t.0 in ((k.0, k.1 ∙ t.1, k.2), k.3, k.4)

  back : (u : Valid V n) → (t : Several ((a : A) × V a) n) × (u.0 ≡ map (λ (t : (a : A) × V a). t.0) t.0) × (flat_map lines u.0 ≡ flat_map (λ (t : (a : A) × V a). lines t.0) t.0)
  back u = let k = zipped {V = V} lines u.0 u.2 in ((k.0, k.1 ∙ u.1), k.2, k.3)

flat_one : {A : Type 0} (write : A → List ℕ) (xs : List A) → flat_map (λ x. write x ∷ []) xs ≡ map write xs
flat_one write [] = refl
flat_one write (x ∷ xs) = ap (λ ls. write x ∷ ls) (flat_one write xs)

pub spells_map : {A : Type 0} {V : A → Type 0} {p : Part A} (write : A → List ℕ) (n : ℕ) → Spells ((a : A) × V a) (λ t. t.0) (λ t. write t.0 ∷ []) p → Spells (Valid V n) (λ t. t.0) (λ t. map write t.0) (times n p)
spells_map write n s = spells_as (λ t. (t, refl, flat_one write t.0)) (λ u. (u, refl, sym (flat_one write u.0))) (spells_flat (λ x. write x ∷ []) n s)
