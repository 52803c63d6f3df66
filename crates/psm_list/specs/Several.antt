-- What contracts see of a list that has an item.
use Rattle.std.specs.Prelude.{List, map}
use mathlib.Core.Path.{refl}
use Rattle.std.specs.Coded.{Coded, code_by, coded×, coded_list}

-- an item, and those after it
pub record Several (A : Type 0) : Type 0 where
  pub first : A
  pub rest : List A

abbrev pub several_code : {A : Type 0} → Coded A → Coded (Several A)
several_code {A} c = code_by (A × List A) (coded× c (coded_list c)) (λ s. (s.first, s.rest)) (λ p. record { first = p.0; rest = p.1 }) (λ _. refl)

-- what is made of each item
abbrev pub several_map : {A B : Type 0} → (A → B) → Several A → Several B
several_map f s = record { first = f s.first; rest = map f s.rest }
