-- What is read up to the end of a line, after what was read before.
use Rattle.std.proofs.Common.{◌≡◌, ℕ, List, [], ◌∷◌, Option, None, Some, refl}
use Rattle.psm_words.specs.Reading.{◌>>=◌}
use Rattle.std.specs.Prelude.{option_map}
use Rattle.psm_load_line.specs.Readers.{at_end, paired}

pub last_of : {A B : Type 0} (a : A) (o : Option (B × List ℕ)) → ((o >>= paired a) >>= at_end) ≡ option_map (λ b. (a, b)) (o >>= at_end)
last_of a None = refl
last_of a (Some (b, [])) = refl
last_of a (Some (b, c ∷ s)) = refl
