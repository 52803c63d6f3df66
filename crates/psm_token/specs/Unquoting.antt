-- Reading between quotes, step by step.
use Rattle.std.specs.Prelude.{◌≡◌, ℕ, ◌+◌, ◌<◌, ◌≤◌, List, [], ◌∷◌, ◌++◌, length, take, nat_eq, Option, Some, None, String, string_bytes, if◌then◌else◌}
use Rattle.std.specs.Global.{Global}
use Rattle.std.specs.Str.{chars}
use Rattle.psm_token.specs.declared.quoted.Inside.{Inside}
use Rattle.psm_token.specs.declared.quoted.Inside.TheVariants.{Nothing, Close, Kept}

-- reading on inside of quotes, with what is kept and how many characters are read: what is kept at the closing quote
abbrev mutual
  pub read_inside : ℕ → List ℕ → ℕ → List ℕ → Option (List ℕ × ℕ)
  read_inside quote kept n [] = None
  read_inside quote kept n (c ∷ cs) = if nat_eq c quote then read_quote quote kept n cs else read_inside quote (kept ++ c ∷ []) (n + 1) cs

  pub read_quote : ℕ → List ℕ → ℕ → List ℕ → Option (List ℕ × ℕ)
  read_quote quote kept n [] = Some (kept, n + 1)
  read_quote quote kept n (c ∷ cs) = if nat_eq c quote then read_inside quote (kept ++ c ∷ []) (n + 2) cs else Some (kept, n + 1)

-- the first kept ones up to a limit, and how many characters are read
abbrev pub Unquoted : ℕ → Option (List ℕ × ℕ) → Option (String Global × ℕ) → Type 0
Unquoted limit read None = read ≡ None
Unquoted limit read (Some p) = (all : List ℕ) × (read ≡ Some (all, p.1)) × (chars (string_bytes p.0) ≡ take limit all)

-- what a step inside of quotes shows
abbrev pub Shows : ℕ → List ℕ → Inside → Type 0
Shows quote cs Nothing = cs ≡ []
Shows quote cs Close = (kept : List ℕ) (n : ℕ) → read_inside quote kept n cs ≡ Some (kept, n + 1)
Shows quote cs (Kept c k rest) = (kept : List ℕ) (n : ℕ) → read_inside quote kept n cs ≡ read_inside quote (kept ++ c ∷ []) (n + k) (chars rest.now)

-- what a step after a quote shows
abbrev pub ShowsAfter : ℕ → List ℕ → Inside → Type 0
ShowsAfter quote cs Nothing = ⊥
ShowsAfter quote cs Close = (kept : List ℕ) (n : ℕ) → read_quote quote kept n cs ≡ Some (kept, n + 1)
ShowsAfter quote cs (Kept c k rest) = (c ≡ quote) × ((kept : List ℕ) (n : ℕ) → read_quote quote kept n cs ≡ read_inside quote (kept ++ c ∷ []) (n + k) (chars rest.now))

-- a step takes some characters, and what follows is shorter by as many at least
abbrev pub IsShorter : ℕ → Inside → Type 0
IsShorter n Nothing = Unit {0}
IsShorter n Close = Unit {0}
IsShorter n (Kept c k rest) = (0 < k) × (k + length rest.now ≤ n)
