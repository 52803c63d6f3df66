-- Columns that are paired are as many on both sides.
use Rattle.std.proofs.Common.{suc, ◌≡◌, ◌≢◌, Bool, true, false, ◌&&◌, not, List, [], ◌∷◌, length, refl, ap, sym}
use Rattle.psm_scope.specs.Scopes.{Spelling}
use Rattle.psm_rules.specs.CheckerScope.{Columns}
use Rattle.psm_rules.specs.Shapes.{clashes}
use Rattle.psm_rules.specs.FileFaults.{Referred, are_paired, does_match, family_named}

and-false : (a b : Bool) → b ≡ false → false ≡ (a && b)
and-false true b e = sym e
and-false false b e = refl

paired-as_long : (own others : Columns) (from target : List Spelling) → length from ≢ length target → false ≡ are_paired own from others target
paired-as_long own others [] [] h = absurd (h refl)
paired-as_long own others [] (n ∷ ns) h = refl
paired-as_long own others (m ∷ ms) [] h = refl
paired-as_long own others (m ∷ ms) (n ∷ ns) h = and-false (not (clashes (family_named own m) (family_named others n))) (are_paired own ms others ns) (sym (paired-as_long own others ms ns (λ e. h (ap suc e))))

pub counts_differ : (own : Columns) (from : List Spelling) (to : Referred) (target : List Spelling) → length from ≢ length target → false ≡ does_match own from to target
counts_differ own from to target h = first-false (are_paired own from to.columns target) _ (sym (paired-as_long own to.columns from target h))
  where
    first-false : (a b : Bool) → a ≡ false → false ≡ (a && b)
    first-false true b e = absurd cc
    first-false false b e = refl
