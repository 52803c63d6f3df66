-- What follows what follows.
use Rattle.std.proofs.Common.{◌≡◌, ℕ, ◌+◌, List, drop}
use Rattle.std.proofs.lemmas.List.{drop-drop}

pub further : (m n : ℕ) (s : List ℕ) → drop m (drop n s) ≡ drop (n + m) s
further m n s = drop-drop m n s
