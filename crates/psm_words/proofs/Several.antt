-- Several words, one after another.
use Rattle.std.proofs.Common.{◌≡◌, ℕ, Bool, true, false, List, ◌++◌, length, take, drop, Option, Some, None, refl, sym, ap, ◌∙◌}
use Rattle.std.specs.Prelude.{nat_eq, if◌then◌else◌}
use Rattle.std.specs.List.{starts_with}
use Rattle.std.specs.Cmp.Lexicographic.{same_text}
use Rattle.std.proofs.lemmas.List.{take-append-drop}
use Rattle.psm_words.specs.Reading.{◌>>=◌, after}

-- the value of what is read before
pub bind_some : {A B : Type 0} (o : Option A) (f : A → Option B) (y : B) → (o >>= f) ≡ Some y → (x : A) × (o ≡ Some x) × (f x ≡ Some y)
bind_some (Some x) f y e = (x, refl, e)
bind_some None f y e = absurd cc

abbrev some_of : {A : Type 0} → A → Option A
some_of x = Some x

pub some_is : {A : Type 0} (x y : A) → some_of x ≡ some_of y → x ≡ y
some_is x y e = cc

pub after_takes : (word s rest : List ℕ) → after word s ≡ Some rest → s ≡ word ++ rest
after_takes word s rest e = by (starts_with nat_eq s word) refl e
  where
    by : (a : Bool) → starts_with nat_eq s word ≡ a → (if a then Some (drop (length word) s) else None) ≡ Some rest → s ≡ word ++ rest
    by false f e = absurd cc
    by true f e =
        let front : word ≡ take (length word) s = same_text word (take (length word) s) (sym f) in
        let back : drop (length word) s ≡ rest = some_is (drop (length word) s) rest e in
        sym (take-append-drop (length word) s) ∙ ap (λ u. u ++ drop (length word) s) (sym front) ∙ ap (λ u. word ++ u) back
