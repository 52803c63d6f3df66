-- A token at the front that is of none of some kinds.
use Rattle.std.proofs.Common.{◌≡◌, ℕ, Bool, true, false, cond, eqb, List, [], ◌∷◌, ◌++◌, refl}
use Rattle.psm_grammar.specs.Language.{has}
use Rattle.psm_grammar.specs.Readers.{starts}

neither : (a b c d : Bool) → cond a true b ≡ false → (b ≡ false → c ≡ d) → cond a true c ≡ d
neither true b c d h k = absurd cc
neither false b c d h k = k h

has_after : (n : ℕ) (ms ns : List ℕ) → has n ms ≡ false → has n (ms ++ ns) ≡ has n ns
has_after n [] ns h = refl
has_after n (m ∷ ms) ns h = neither (eqb n m) (has n ms) (has n (ms ++ ns)) (has n ns) h (has_after n ms ns)

-- it begins what begins with those or with others where it is of one of the others
pub starts_after : {T : Type 0} (kind : T → ℕ) (ms ns : List ℕ) (ts : List T) → starts kind ms ts ≡ false → starts kind (ms ++ ns) ts ≡ starts kind ns ts
starts_after kind ms ns [] h = refl
starts_after kind ms ns (t ∷ ts) h = has_after (kind t) ms ns h
