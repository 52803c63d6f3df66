-- The characters of an SQLSTATE are ASCII.
use Rattle.std.proofs.Common.{◌≡◌, refl, ℕ, zero, suc, ◌<◌, Bool, true, false, ◌&&◌, List, [], ◌∷◌, lit<, arith}
use Rattle.std.specs.List.{list_all}
use Rattle.std.specs.Str.{IsAscii}
use Rattle.psm_sqlstate.specs.State.{is_state_character}

character_small : (c : ℕ) → is_state_character c ≡ true → c < 128
character_small c h = grind arith

both : (a b : Bool) → (a && b) ≡ true → (a ≡ true) × (b ≡ true)
both true b h = (refl, h)
both false b h = cc

pub state_ascii : (text : List ℕ) → list_all is_state_character text ≡ true → IsAscii text
state_ascii [] h i = lit< tt
state_ascii (c ∷ text) h zero = character_small c (both (is_state_character c) (list_all is_state_character text) h).0
state_ascii (c ∷ text) h (suc i) = state_ascii text (both (is_state_character c) (list_all is_state_character text) h).1 i
