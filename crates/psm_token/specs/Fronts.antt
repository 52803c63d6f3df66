-- What stands at the front of the characters that are left of a file (ISO/IEC 9075:1992, 5.2).
use Rattle.std.specs.Prelude.{ℕ, Bool, ◌&&◌, not, List, [], ◌∷◌, nat_eq, if◌then◌else◌}
use Rattle.std.specs.Char.{is_ascii_digit, is_ascii_alphabetic}
use Rattle.psm_token.specs.declared.front.Front.{Front}
use Rattle.psm_token.specs.declared.front.Front.TheVariants.{End, Separator, Comment, Letter, Digit, Quote, Apostrophe, Other}
use Rattle.psm_token.specs.Characters.{is_separator, begins}

-- known by the first character and the next; a point before a digit begins a number unless a name stands before it
abbrev pub front_of : Bool → List ℕ → Front
front_of after_name [] = End
front_of after_name (c ∷ cs) =
    if is_separator c then Separator else
    if is_ascii_alphabetic c then Letter else
    if is_ascii_digit c then Digit else
    if nat_eq c 34 then Quote else
    if nat_eq c 39 then Apostrophe else
    if nat_eq c 45 && begins (nat_eq 45) cs then Comment else
    if nat_eq c 46 && not after_name && begins is_ascii_digit cs then Digit else
    Other
