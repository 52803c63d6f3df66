-- What a fetch says of all names, and of a file that is too long.
use Rattle.std.proofs.Common.{◌≡◌, ◌≢◌, ℕ, ◌<◌, ◌≤◌, Bool, true, false, List, length, Option, Some, None, refl, sym, ap, ◌∙◌, arith}
use Rattle.std.specs.Prelude.{IfSome, MatchBool, nat_eq, replicate}
use Rattle.std.specs.Cmp.Lexicographic.{pointwise, told_text}
use Rattle.std.proofs.lemmas.List.{length-replicate}
use Rattle.psm_files.specs.Fetches.{AreHeld}

-- a count that stays at a name and at all others stays at each
pub stay_all : (before after : List ℕ → ℕ) (name : List ℕ) → after name ≡ before name → ((n : List ℕ) → n ≢ name → after n ≡ before n) → (n : List ℕ) → after n ≡ before n
stay_all before after name at others n = here (pointwise nat_eq n name) (told_text n name (pointwise nat_eq n name) refl)
  where
    here : (same : Bool) → MatchBool same (n ≡ name) (n ≢ name) → after n ≡ before n
    here true e = ap after e ∙ at ∙ ap before (sym e)
    here false ne = others n ne

-- a file of which more than n bytes were counted
pub long_file : (contents : Option (List ℕ)) (counted most : ℕ) → IfSome contents (λ held. counted ≤ length held) → most < counted → (bytes : List ℕ) × AreHeld contents bytes × (most < length bytes)
long_file None counted most h lt =
    let zeros : List ℕ = replicate counted 0 in
    let e : length zeros ≡ counted = length-replicate counted 0 in
    (zeros, tt, omega (arith, e))
long_file (Some held) counted most h lt = (held, refl, omega arith)
