-- Where no blank is written, a token ends all the same.
use Rattle.std.proofs.Common.{◌≡◌, ℕ, Bool, true, false, not, ◌&&◌, cond, List, [], ◌∷◌, ◌++◌, refl, sym, ap, ◌∙◌, append_assoc}
use Rattle.std.proofs.lemmas.List.{append-nil}
use Rattle.psm_token.specs.declared.sign.Sign.TheVariants.{LeftParen, RightParen, Comma, Semicolon}
use Rattle.psm_token.specs.declared.token.Token.{Token}
use Rattle.psm_token.specs.declared.token.Token.TheVariants.{Word, Name, Number, Text, Sign}
use Rattle.psm_spell.specs.declared.gaps.Gaps.{Gaps}
use Rattle.psm_spell.specs.declared.gaps.Gaps.TheVariants.{After, Between}
use Rattle.psm_spell.specs.Gaps.{has_blank, gap_after, is_open, is_closing, listed, blank_if, spaced, written_after, are_open}
use Rattle.psm_spell.specs.Written.{token_text, separated, written}
use Rattle.psm_spell.proofs.Stops.{stops}

-- a token that is not `(` ends before what is written after it

stops_next : (ts : List Token) → stops (written_after Between false ts) ≡ true
stops_next [] = refl
stops_next (Word w ∷ ts) = refl
stops_next (Name n ∷ ts) = refl
stops_next (Number d ∷ ts) = refl
stops_next (Text u ∷ ts) = refl
stops_next (Sign Comma ∷ ts) = refl
stops_next (Sign s ∷ ts) = refl

pub stops_after : (g : Gaps) (t : Token) (ts : List Token) → is_open t ≡ false → stops (listed (gap_after g t) ++ written_after g (is_open t) ts) ≡ true
stops_after After (Word w) ts h = refl
stops_after After (Name n) ts h = refl
stops_after After (Number d) ts h = refl
stops_after After (Text u) ts h = refl
stops_after After (Sign Semicolon) ts h = refl
stops_after After (Sign s) ts h = refl
stops_after Between (Word w) ts h = stops_next ts
stops_after Between (Name n) ts h = stops_next ts
stops_after Between (Number d) ts h = stops_next ts
stops_after Between (Text u) ts h = stops_next ts
stops_after Between (Sign LeftParen) ts h = absurd cc
stops_after Between (Sign Semicolon) ts h = refl
stops_after Between (Sign s) ts h = stops_next ts

-- Whether a name stands directly before what is written next: never where each token has a gap after it, and
-- else not where the tokens before want no blank.
abbrev pub Ready : Gaps → Bool → Bool → Type 0
Ready After a tight = a ≡ false
Ready Between a tight = tight ≡ true → a ≡ false

between_clear : (tight k a flag : Bool) → (tight ≡ true → a ≡ false) → flag ≡ cond (not tight && not k) false a → k ≡ false → flag ≡ false
between_clear true k a flag r e c = e ∙ r refl
between_clear false true a flag r e c = absurd cc
between_clear false false a flag r e c = e

pub clear : (g : Gaps) (a tight flag : Bool) (t : Token) → Ready g a tight → flag ≡ cond (has_blank g tight t) false a → is_closing t ≡ false → flag ≡ false
clear After a tight flag t r e c = e ∙ r
clear Between a tight flag t r e c = between_clear tight (is_closing t) a flag r e c

-- ---- one token more

pub spaced_first : (g : Gaps) (tight : Bool) (t : Token) (ts : List Token)
    → written_after g tight (t ∷ ts) ≡ blank_if (has_blank g tight t) ++ (token_text t ++ (listed (gap_after g t) ++ written_after g (is_open t) ts))
spaced_first g tight t ts =
    append_assoc (blank_if (has_blank g tight t)) (token_text t ++ listed (gap_after g t)) (written_after g (is_open t) ts)
    ∙ ap (λ (cs : List ℕ). blank_if (has_blank g tight t) ++ cs) (append_assoc (token_text t) (listed (gap_after g t)) (written_after g (is_open t) ts))

pub spaced_push : (g : Gaps) (tight : Bool) (ts : List Token) (t : Token) → written_after g tight (ts ++ t ∷ []) ≡ written_after g tight ts ++ spaced g (are_open tight ts) t
spaced_push g tight [] t = append-nil (spaced g tight t)
spaced_push g tight (u ∷ ts) t =
    ap (λ (cs : List ℕ). spaced g tight u ++ cs) (spaced_push g (is_open u) ts t)
    ∙ sym (append_assoc (spaced g tight u) (written_after g (is_open u) ts) (spaced g (are_open (is_open u) ts) t))

pub open_push : (tight : Bool) (ts : List Token) (t : Token) → are_open tight (ts ++ t ∷ []) ≡ is_open t
open_push tight [] t = refl
open_push tight (u ∷ ts) t = open_push (is_open u) ts t

-- with a gap after each token, tokens are written as `written` says
pub after_written : (tight : Bool) (ts : List Token) → written_after After tight ts ≡ written ts
after_written tight [] = refl
after_written tight (t ∷ ts) = ap (λ (cs : List ℕ). separated t ++ cs) (after_written (is_open t) ts)
