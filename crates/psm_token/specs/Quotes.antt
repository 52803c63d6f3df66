-- Characters between quotes, where a quote among them is doubled (ISO/IEC 9075:1992, 5.2 and 5.3).
use Rattle.std.specs.Prelude.{◌≡◌, ℕ, ◌+◌, Bool, false, List, [], ◌∷◌, ◌++◌, length, nat_eq, if◌then◌else◌}
use Rattle.std.specs.List.{flat_map}
use Rattle.psm_token.specs.Characters.{begins}

-- whether a character is the quote
abbrev pub is_quote : ℕ → ℕ → Bool
is_quote quote c = nat_eq c quote

-- a character as it is written between quotes
abbrev pub doubled_one : ℕ → ℕ → List ℕ
doubled_one quote c = if is_quote quote c then quote ∷ quote ∷ [] else c ∷ []

-- characters as they are written between quotes
abbrev pub doubled : ℕ → List ℕ → List ℕ
doubled quote kept = flat_map (doubled_one quote) kept

-- the first n of the characters are a quote, the kept ones, and a quote after which there is no other
pub record Quoted (quote : ℕ) (cs : List ℕ) (n : ℕ) (kept : List ℕ) : Type 0 where
  pub rest : List ℕ
  pub spelled : cs ≡ quote ∷ (doubled quote kept ++ quote ∷ rest)
  pub size : n ≡ length (doubled quote kept) + 2
  pub ends : begins (is_quote quote) rest ≡ false
