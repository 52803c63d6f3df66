-- The LIKE predicate (ISO/IEC 9075:1992, 8.5).
use Rattle.std.specs.Prelude.{◌≡◌, ◌↔◌, ℕ, Bool, true, false, not, ◌&&◌, ◌||◌, List, [], ◌∷◌, drop, nat_eq, Option, Some, None, IsTrue, Result, Ok, Err, if◌then◌else◌}
use Rattle.psm_text.specs.declared.fault.TextFault.{TextFault}
use Rattle.psm_text.specs.declared.fault.TextFault.TheVariants.{EscapeChar, EscapePair}
use Rattle.psm_text.specs.declared.like.Step.{Step}
use Rattle.psm_text.specs.declared.like.Step.TheVariants.{Skip, Take, Stop}

-- what an item of a pattern stands for: that character, one character, any characters
pub data Item : Type 0 where
  Literal : ℕ → Item
  One : Item
  Any : Item

-- the text can be cut into pieces that the items stand for, in order
abbrev pub Matches : List Item → List ℕ → Type 0
Matches [] [] = Unit {0}
Matches [] (c ∷ t) = ⊥
Matches (Any ∷ p) t = (taken : ℕ) × Matches p (drop taken t)
Matches (One ∷ p) [] = ⊥
Matches (One ∷ p) (c ∷ t) = Matches p t
Matches (Literal d ∷ p) [] = ⊥
Matches (Literal d ∷ p) (c ∷ t) = (c ≡ d) × Matches p t

-- whether a test passes at a text without some of its first characters
abbrev pub some_end : (List ℕ → Bool) → List ℕ → Bool
some_end test [] = test []
some_end test (c ∷ t) = test (c ∷ t) || some_end test t

-- `Matches` as a test
abbrev pub is_like : List Item → List ℕ → Bool
is_like [] [] = true
is_like [] (c ∷ t) = false
is_like (Any ∷ p) t = some_end (is_like p) t
is_like (One ∷ p) [] = false
is_like (One ∷ p) (c ∷ t) = is_like p t
is_like (Literal d ∷ p) [] = false
is_like (Literal d ∷ p) (c ∷ t) = nat_eq c d && is_like p t

-- an unescaped character of a pattern: a percent sign, an underscore, or itself
abbrev pub item_of : ℕ → Item
item_of c = if nat_eq c 37 then Any else if nat_eq c 95 then One else Literal c

-- whether a character is the escape character
abbrev pub escapes : Option ℕ → ℕ → Bool
escapes None c = false
escapes (Some e) c = nat_eq c e

-- whether an escape character may stand before a character: a percent sign, an underscore or itself
abbrev pub escapable : Option ℕ → ℕ → Bool
escapable e c = nat_eq c 37 || nat_eq c 95 || escapes e c

-- whether each escape character of a pattern stands before a character that it may stand before
abbrev pub well_formed : Option ℕ → List ℕ → Bool
well_formed e [] = true
well_formed e (c ∷ []) = not (escapes e c)
well_formed e (c ∷ d ∷ p) = if escapes e c then (if escapable e d then well_formed e p else false) else well_formed e (d ∷ p)

-- the items of a pattern; an escaped character is itself
abbrev pub items_of : Option ℕ → List ℕ → List Item
items_of e [] = []
items_of e (c ∷ []) = item_of c ∷ []
items_of e (c ∷ d ∷ p) = if escapes e c then Literal d ∷ items_of e p else item_of c ∷ items_of e (d ∷ p)

-- the escape character, if there is an escape text; that text has to be one character
abbrev pub escape_of : Option (List ℕ) → Result (Option ℕ) TextFault
escape_of None = Ok None
escape_of (Some []) = Err EscapeChar
escape_of (Some (c ∷ [])) = Ok (Some c)
escape_of (Some (c ∷ d ∷ t)) = Err EscapeChar

-- the answer to LIKE: a fault of the escape text, then one of the pattern, then whether the text matches
abbrev pub Liked : Result (Option ℕ) TextFault → List ℕ → List ℕ → Result Bool TextFault → Type 0
Liked (Err fault) pattern text r = r ≡ Err fault
Liked (Ok e) pattern text (Err fault) = (fault ≡ EscapePair) × (well_formed e pattern ≡ false)
Liked (Ok e) pattern text (Ok b) = (well_formed e pattern ≡ true) × (IsTrue b ↔ Matches (items_of e pattern) text)

-- the one answer of which `Liked` holds
abbrev pub like_answer : Result (Option ℕ) TextFault → List ℕ → List ℕ → Result Bool TextFault
like_answer (Err fault) pattern text = Err fault
like_answer (Ok e) pattern text = if well_formed e pattern then Ok (is_like (items_of e pattern) text) else Err EscapePair

-- what the matcher does with a character at the first item
abbrev pub step_at : List Item → ℕ → Step
step_at [] c = Stop
step_at (Any ∷ p) c = Skip
step_at (One ∷ p) c = Take
step_at (Literal d ∷ p) c = if nat_eq c d then Take else Stop

-- whether the first item stands for any characters
abbrev pub begins_any : List Item → Bool
begins_any [] = false
begins_any (Any ∷ p) = true
begins_any (One ∷ p) = false
begins_any (Literal d ∷ p) = false
