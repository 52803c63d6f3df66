-- Columns one by one.
use Rattle.std.proofs.Common.{◌≡◌, ◌<◌, ℕ, zero, suc, ◌+◌, List, [], ◌∷◌, ◌++◌, Option, Some, length, map, drop, refl, ap, sym, ◌∙◌, add-one, arith}
use Rattle.std.specs.Prelude.{option_map, slice_get}
use Rattle.std.proofs.lemmas.List.{append_assoc}
use Rattle.psm_value.specs.declared.sqltype.SqlType.{SqlType}
use Rattle.psm_scope.specs.Scopes.{Spelling}
use Rattle.psm_rules.specs.CheckerScope.{Columns}
use Rattle.psm_symbols.specs.Columns.{all_places}

type_there : (columns : Columns) (n : ℕ) (kind : Option SqlType) → option_map {T = Spelling × Option SqlType} {U = Option SqlType} (λ p. p.1) (slice_get columns n) ≡ Some kind
    → map (λ p. p.1) (drop n columns) ≡ kind ∷ map (λ p. p.1) (drop (suc n) columns)
type_there [] n kind e = cc
type_there (c ∷ cs) zero kind e = let h : c.1 ≡ kind = cc in ap (λ k. k ∷ map (λ p. p.1) cs) h
type_there (c ∷ cs) (suc n) kind e = type_there cs n kind e

pub types_step : (old new : List (Option SqlType)) (columns : Columns) (n : ℕ) (kind : Option SqlType)
    → new ≡ old ++ kind ∷ [] → option_map {T = Spelling × Option SqlType} {U = Option SqlType} (λ p. p.1) (slice_get columns n) ≡ Some kind
    → new ++ map (λ p. p.1) (drop (n + 1) columns) ≡ old ++ map (λ p. p.1) (drop n columns)
types_step old new columns n kind e h =
    ap (λ ys. ys ++ map (λ p. p.1) (drop (n + 1) columns)) e
    ∙ append_assoc old (kind ∷ []) (map (λ p. p.1) (drop (n + 1) columns))
    ∙ ap (λ k. old ++ kind ∷ map (λ p. p.1) (drop k columns)) (add-one n)
    ∙ ap (λ ys. old ++ ys) (sym (type_there columns n kind h))

place_there : (columns : Columns) (i n : ℕ) → n < length columns → all_places i (drop n columns) ≡ i ∷ all_places (suc i) (drop (suc n) columns)
place_there [] i n lt = absurd (omega (arith, lt))
place_there (c ∷ cs) i zero lt = refl
place_there (c ∷ cs) i (suc n) lt = place_there cs i n (omega (arith, lt))

pub places_step : (old new : List ℕ) (columns : Columns) (n : ℕ) → n < length columns → new ≡ old ++ n ∷ []
    → new ++ all_places (n + 1) (drop (n + 1) columns) ≡ old ++ all_places n (drop n columns)
places_step old new columns n lt e =
    ap (λ l. l ++ all_places (n + 1) (drop (n + 1) columns)) e
    ∙ append_assoc old (n ∷ []) (all_places (n + 1) (drop (n + 1) columns))
    ∙ ap (λ k. old ++ n ∷ all_places k (drop k columns)) (add-one n)
    ∙ ap (λ l. old ++ l) (sym (place_there columns n n lt))
