-- Marks that stand one inside another, some of which are let go.
use Rattle.std.proofs.Common.{◌≡◌, Option, None, Some, List, [], ◌∷◌, ◌++◌, refl, ap, sym, subst, ◌∙◌, append_assoc}
use Rattle.psm_table.specs.Table.{Contents}
use Rattle.psm_store.specs.declared.store.Mark.{Mark}
use Rattle.psm_store.specs.Marks.{IsOutside, Keeps}
use Rattle.psm_unwind.specs.Marks.{Encloses, Each, Leaves, Nested, Stays, with_mark}

-- ---- each of some things

pub each_map : {A : Type 0} (P Q : A → Type 0) (xs : List A) → ((x : A) → P x → Q x) → Each P xs → Each Q xs
each_map P Q [] f e = tt
each_map P Q (x ∷ xs) f e = (f x e.0, each_map P Q xs f e.1)

pub each_zip : {A : Type 0} (P Q R : A → Type 0) (xs : List A) → ((x : A) → P x → Q x → R x) → Each P xs → Each Q xs → Each R xs
each_zip P Q R [] f d e = tt
each_zip P Q R (x ∷ xs) f d e = (f x d.0 e.0, each_zip P Q R xs f d.1 e.1)

pub each_all : {A : Type 0} (P : A → Type 0) (xs : List A) → ((x : A) → P x) → Each P xs
each_all P [] f = tt
each_all P (x ∷ xs) f = (f x, each_all P xs f)

pub each_left : {A : Type 0} (P : A → Type 0) (xs ys : List A) → Each P (xs ++ ys) → Each P xs
each_left P [] ys e = tt
each_left P (x ∷ xs) ys e = (e.0, each_left P xs ys e.1)

pub each_right : {A : Type 0} (P : A → Type 0) (xs ys : List A) → Each P (xs ++ ys) → Each P ys
each_right P [] ys e = e
each_right P (x ∷ xs) ys e = each_right P xs ys e.1

pub each_both : {A : Type 0} (P : A → Type 0) (xs ys : List A) → Each P xs → Each P ys → Each P (xs ++ ys)
each_both P [] ys d e = e
each_both P (x ∷ xs) ys d e = (d.0, each_both P xs ys d.1 e)

-- ---- nested marks

pub nested_each : (holds : Mark → Type 0) (ms : List Mark) → Nested holds ms → Each holds ms
nested_each holds [] n = tt
nested_each holds (m ∷ ms) n = (n.0, nested_each holds ms n.2)

pub nested_left : (holds : Mark → Type 0) (ms ns : List Mark) → Nested holds (ms ++ ns) → Nested holds ms
nested_left holds [] ns n = tt
nested_left holds (m ∷ ms) ns n = (n.0, each_left (IsOutside m) ms ns n.1, nested_left holds ms ns n.2)

pub nested_right : (holds : Mark → Type 0) (ms ns : List Mark) → Nested holds (ms ++ ns) → Nested holds ns
nested_right holds [] ns n = n
nested_right holds (m ∷ ms) ns n = nested_right holds ms ns n.2

pub nested_enclosing : (holds : Mark → Type 0) (ms ns : List Mark) → Nested holds (ms ++ ns) → Each (Encloses ms) ns
nested_enclosing holds [] ns n = each_all (λ o. Unit {0}) ns (λ o. tt)
nested_enclosing holds (m ∷ ms) ns n = each_zip (IsOutside m) (Encloses ms) (Encloses (m ∷ ms)) ns (λ o p q. (p, q)) (each_right (IsOutside m) ms ns n.1) (nested_enclosing holds ms ns n.2)

pub nested_by : (holds new : Mark → Type 0) (ms : List Mark) → Each new ms → Nested holds ms → Nested new ms
nested_by holds new [] e n = tt
nested_by holds new (m ∷ ms) e n = (e.0, n.1, nested_by holds new ms e.1 n.2)

-- ---- marks that are let go

pub nested_after : (holds : Mark → Type 0) (at : Mark → List Contents) (ms : List Mark) (new : Mark → Type 0) (at_new : Mark → List Contents) (left : List Mark) →
    Nested holds ms → Leaves holds at ms new at_new left → Nested new left
nested_after holds at ms new at_new left n l =
    let whole : Nested holds (l.gone ++ left) = subst (λ (x : List Mark). Nested holds x) l.split n in
    nested_by holds new left (each_map (Stays at new at_new) new left (λ m s. s.0) l.stay) (nested_right holds l.gone left whole)

-- marks outside those stay
pub leaves_in : (holds : Mark → Type 0) (at : Mark → List Contents) (ms : List Mark) (new : Mark → Type 0) (at_new : Mark → List Contents) (left outer : List Mark) →
    Nested holds (ms ++ outer) → Leaves holds at ms new at_new left → Leaves holds at (ms ++ outer) new at_new (left ++ outer)
leaves_in holds at ms new at_new left outer n l = record {
  gone = l.gone;
  split = ap (λ x. x ++ outer) l.split ∙ append_assoc l.gone left outer;
  stay = each_both (Stays at new at_new) left outer l.stay
      (each_zip holds (Encloses ms) (Stays at new at_new) outer l.keeps (nested_each holds outer (nested_right holds ms outer n)) (nested_enclosing holds ms outer n));
  keeps = λ m h a. l.keeps m h (each_left (λ x. IsOutside x m) ms outer a);
}

pub leaves_then : (h0 : Mark → Type 0) (at0 : Mark → List Contents) (m0 : List Mark) (h1 : Mark → Type 0) (at1 : Mark → List Contents) (m1 : List Mark)
    (h2 : Mark → Type 0) (at2 : Mark → List Contents) (m2 : List Mark) → Leaves h0 at0 m0 h1 at1 m1 → Leaves h1 at1 m1 h2 at2 m2 → Leaves h0 at0 m0 h2 at2 m2
leaves_then h0 at0 m0 h1 at1 m1 h2 at2 m2 k l = record {
  gone = k.gone ++ l.gone;
  split = k.split ∙ ap (λ x. k.gone ++ x) l.split ∙ sym (append_assoc k.gone l.gone m2);
  stay =
      let before : Each (Stays at0 h1 at1) (l.gone ++ m2) = subst (λ (x : List Mark). Each (Stays at0 h1 at1) x) l.split k.stay in
      each_zip (Stays at0 h1 at1) (Stays at1 h2 at2) (Stays at0 h2 at2) m2 (λ m p q. (q.0, q.1 ∙ p.1)) (each_right (Stays at0 h1 at1) l.gone m2 before) l.stay;
  keeps = λ m h a.
      let p : Stays at0 h1 at1 m = k.keeps m h a in
      let b : Encloses (k.gone ++ m1) m = subst (λ (x : List Mark). Encloses x m) k.split a in
      let q : Stays at1 h2 at2 m = l.keeps m p.0 (each_right (λ x. IsOutside x m) k.gone m1 b) in
      (q.0, q.1 ∙ p.1);
}

pub leaves_none : (holds : Mark → Type 0) (at : Mark → List Contents) (ms : List Mark) → Nested holds ms → Leaves holds at ms holds at ms
leaves_none holds at ms n = record {
  gone = [];
  split = refl;
  stay = each_map holds (Stays at holds at) ms (λ m h. (h, refl)) (nested_each holds ms n);
  keeps = λ m h a. (h, refl);
}

abbrev pub mark_or : Option Mark → Mark → Mark
mark_or None m = m
mark_or (Some n) m = n

-- a mark that is closed alone
pub leaves_mark : (holds : Mark → Type 0) (at : Mark → List Contents) (new : Mark → Type 0) (at_new : Mark → List Contents) (o : Option Mark) (m : Mark) →
    o ≡ Some m → Keeps (IsOutside m) holds at new at_new → Leaves holds at (with_mark o []) new at_new []
leaves_mark holds at new at_new None m e k = cc
leaves_mark holds at new at_new (Some n) m e k = record {
  gone = n ∷ [];
  split = refl;
  stay = tt;
  keeps = λ o h a. k o h (subst (λ x. IsOutside (mark_or x m) o) e a.0);
}

pub leaves_no_mark : (holds : Mark → Type 0) (at : Mark → List Contents) (o : Option Mark) → o ≡ None → Leaves holds at (with_mark o []) holds at []
leaves_no_mark holds at None e = record { gone = []; split = refl; stay = tt; keeps = λ o h a. (h, refl) }
leaves_no_mark holds at (Some n) e = cc

-- the tables are put back to the innermost mark
pub leaves_back : (holds : Mark → Type 0) (at : Mark → List Contents) (new : Mark → Type 0) (at_new : Mark → List Contents) (marks : List Mark) (m : Mark) (outer : List Mark) →
    marks ≡ m ∷ outer → Nested holds marks → new m → at_new m ≡ at m → Keeps (IsOutside m) holds at new at_new → Leaves holds at marks new at_new marks
leaves_back holds at new at_new marks m outer e n h s k =
    let whole : Nested holds (m ∷ outer) = subst (λ (x : List Mark). Nested holds x) e n in
    subst (λ (x : List Mark). Leaves holds at x new at_new x) (sym e) (record {
      gone = [];
      split = refl;
      stay = ((h, s), each_zip holds (IsOutside m) (Stays at new at_new) outer (λ o p q. k o p q) (nested_each holds outer whole.2) whole.1);
      keeps = λ o p a. k o p a.0;
    })
