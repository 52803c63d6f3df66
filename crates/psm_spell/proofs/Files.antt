-- What is written of tokens is a file of these tokens.
use Rattle.std.proofs.Common.{◌≡◌, ℕ, ◌+◌, ◌≤◌, Bool, true, false, cond, List, [], ◌∷◌, ◌++◌, length, take, refl, sym, ap, subst, ◌∙◌, append_assoc, arith}
use Rattle.std.specs.Str.{IsUtf8, chars}
use Rattle.std.proofs.Math.Seq.{drop-append_seam}
use Rattle.std.proofs.lemmas.List.{append-nil, length_push, map-append}
use Rattle.psm_token.specs.declared.place.Place.{Place}
use Rattle.psm_token.specs.declared.sign.Sign.{Sign as SignOf}
use Rattle.psm_token.specs.declared.sign.Sign.TheVariants.{Semicolon}
use Rattle.psm_token.specs.declared.token.Placed.{Placed}
use Rattle.psm_token.specs.declared.token.Token.{Token}
use Rattle.psm_token.specs.declared.token.Token.TheVariants.{Word, Name, Number, Text, Sign}
use Rattle.psm_token.specs.Forms.{IsToken, IsGap}
use Rattle.psm_token.specs.Fronts.{front_of}
use Rattle.psm_token.specs.Places.{start, place_after}
use Rattle.psm_token.specs.Spells.{Reaches}
use Rattle.psm_token.specs.Tokens.{is_name}
use Rattle.psm_token.proofs.Reaching.{at, placed, reaches_start, reaches_gap, reaches_one}
use Rattle.psm_spell.specs.declared.gaps.Gaps.{Gaps}
use Rattle.psm_spell.specs.declared.gaps.Gaps.TheVariants.{After, Between}
use Rattle.psm_spell.specs.Gaps.{has_blank, gap_after, is_open, is_closing, listed, blank_if, written_after, written_with}
use Rattle.psm_spell.specs.Written.{token_text, gap_of, sign_gap, IsSpellable, AreSpellable, bare, IsFileOf}
use Rattle.psm_spell.proofs.Delimited.{name_stands, text_stands}
use Rattle.psm_spell.proofs.NumberTexts.{number_stands}
use Rattle.psm_spell.proofs.Plain.{word_stands, sign_stands}
use Rattle.psm_spell.proofs.Spacing.{stops_after, Ready, clear, spaced_first}
use Rattle.psm_spell.proofs.Stops.{stops}

abbrev Stands : Token → Bool → List ℕ → Type 0
Stands t a rest = IsToken (front_of a (token_text t ++ rest)) (token_text t ++ rest) (length (token_text t)) t

-- a token stands where it is written
token_stands : (t : Token) (a : Bool) (rest : List ℕ) → IsSpellable t → (is_closing t ≡ false → a ≡ false) → (is_open t ≡ false → stops rest ≡ true) → Stands t a rest
token_stands (Word w) a rest h c f = subst (λ (b : Bool). Stands (Word w) b rest) (sym (c refl)) (word_stands w rest (f refl))
token_stands (Name n) a rest h c f = subst (λ (b : Bool). Stands (Name n) b rest) (sym (c refl)) (name_stands n rest h (f refl))
token_stands (Number d) a rest h c f = subst (λ (b : Bool). Stands (Number d) b rest) (sym (c refl)) (number_stands d rest h (f refl))
token_stands (Text u) a rest h c f = subst (λ (b : Bool). Stands (Text u) b rest) (sym (c refl)) (text_stands u rest h (f refl))
token_stands (Sign s) a rest h c f = sign_stands s a rest f

sign_gap_stands : (s : SignOf) (a : Bool) (rest : List ℕ) → IsGap (front_of a (sign_gap s ∷ rest)) (sign_gap s ∷ rest) 1
sign_gap_stands Semicolon a rest = refl
sign_gap_stands s a rest = refl

-- and what separates it from the next one, after it
gap_stands : (t : Token) (a : Bool) (rest : List ℕ) → IsGap (front_of a (gap_of t ∷ rest)) (gap_of t ∷ rest) 1
gap_stands (Sign s) a rest = sign_gap_stands s a rest
gap_stands (Word w) a rest = refl
gap_stands (Name n) a rest = refl
gap_stands (Number d) a rest = refl
gap_stands (Text t) a rest = refl

-- the file is the tokens before and these ones
record IsRead (bytes : List ℕ) (before : List Placed) (ts : List Token) : Type 0 where
  tokens : List Placed
  end : Place
  after_name : Bool
  reaches : Reaches bytes tokens (at after_name end [])
  same : bare tokens ≡ bare before ++ ts

bare_push : (ps : List Placed) (t : Token) (p : Place) → bare (ps ++ placed t p ∷ []) ≡ bare ps ++ t ∷ []
bare_push ps t p = map-append (λ (x : Placed). x.token) ps (placed t p ∷ [])

-- ---- past a blank, if there is one

record Blank (bytes : List ℕ) (ts : List Placed) (rest : List ℕ) (a b : Bool) : Type 0 where
  flag : Bool
  place : Place
  reaches : Reaches bytes ts (at flag place rest)
  is : flag ≡ cond b false a

past_blank : (bytes : List ℕ) (ts : List Placed) (rest : List ℕ) (p : Place) (a b : Bool) → Reaches bytes ts (at a p (blank_if b ++ rest)) → Blank bytes ts rest a b
past_blank bytes ts rest p a true r = record {
  flag = false;
  place = place_after (32 ∷ []) p;
  reaches = reaches_gap bytes ts a p (place_after (32 ∷ []) p) (32 ∷ rest) rest 1 r refl refl refl;
  is = refl;
}
past_blank bytes ts rest p a false r = record { flag = a; place = p; reaches = r; is = refl }

-- ---- past the gap after a token, if there is one

record Gap (g : Gaps) (bytes : List ℕ) (ts : List Placed) (rest : List ℕ) (tight : Bool) : Type 0 where
  flag : Bool
  place : Place
  reaches : Reaches bytes ts (at flag place rest)
  ready : Ready g flag tight

past_gap : (g : Gaps) (t : Token) (bytes : List ℕ) (ts : List Placed) (rest : List ℕ) (p : Place) → Reaches bytes ts (at (is_name t) p (listed (gap_after g t) ++ rest)) → Gap g bytes ts rest (is_open t)
past_gap After t bytes ts rest p r = record {
  flag = false;
  place = place_after (gap_of t ∷ []) p;
  reaches = reaches_gap bytes ts (is_name t) p (place_after (gap_of t ∷ []) p) (gap_of t ∷ rest) rest 1 r (gap_stands t (is_name t) rest) refl refl;
  ready = refl;
}
past_gap Between (Word w) bytes ts rest p r = record { flag = is_name (Word w); place = p; reaches = r; ready = λ e. absurd cc }
past_gap Between (Name n) bytes ts rest p r = record { flag = true; place = p; reaches = r; ready = λ e. absurd cc }
past_gap Between (Number d) bytes ts rest p r = record { flag = false; place = p; reaches = r; ready = λ e. refl }
past_gap Between (Text u) bytes ts rest p r = record { flag = false; place = p; reaches = r; ready = λ e. refl }
past_gap Between (Sign Semicolon) bytes ts rest p r = record {
  flag = false;
  place = place_after (10 ∷ []) p;
  reaches = reaches_gap bytes ts false p (place_after (10 ∷ []) p) (10 ∷ rest) rest 1 r refl refl refl;
  ready = λ e. refl;
}
past_gap Between (Sign s) bytes ts rest p r = record { flag = false; place = p; reaches = r; ready = λ e. refl }

-- ---- all tokens

read_on : (g : Gaps) (bytes : List ℕ) (before : List Placed) (ts : List Token) (p : Place) (a tight : Bool) → AreSpellable ts → length before + length ts ≤ 2000000 → Ready g a tight
    → Reaches bytes before (at a p (written_after g tight ts)) → IsRead bytes before ts
read_on g bytes before [] p a tight h few ready r = record { tokens = before; end = p; after_name = a; reaches = r; same = sym (append-nil (bare before)) }
read_on g bytes before (t ∷ ts) p a tight h few ready r =
    let text : List ℕ = token_text t in
    let more : List ℕ = written_after g (is_open t) ts in
    let rest : List ℕ = listed (gap_after g t) ++ more in
    let front : Reaches bytes before (at a p (blank_if (has_blank g tight t) ++ (text ++ rest))) = subst (λ (cs : List ℕ). Reaches bytes before (at a p cs)) (spaced_first g tight t ts) r in
    let past : Blank bytes before (text ++ rest) a (has_blank g tight t) = past_blank bytes before (text ++ rest) p a (has_blank g tight t) front in
    let stand : Stands t past.flag rest = token_stands t past.flag rest h.0 (clear g a tight past.flag t ready past.is) (stops_after g t ts) in
    let with : List Placed = before ++ placed t past.place ∷ [] in
    let q : Place = place_after (take (length text) (text ++ rest)) past.place in
    let one : Reaches bytes with (at (is_name t) q rest) =
    reaches_one bytes before with past.flag (is_name t) past.place q (text ++ rest) rest (length text) t past.reaches stand
    (omega (arith, few)) refl refl refl (sym (drop-append_seam text rest)) in
    let next : Gap g bytes with more (is_open t) = past_gap g t bytes with more q one in
    let last : IsRead bytes with ts = read_on g bytes with ts next.place next.flag (is_open t) h.1 (omega (arith, few, length_push before (placed t past.place))) next.ready next.reaches in
    record {
      tokens = last.tokens;
      end = last.end;
      after_name = last.after_name;
      reaches = last.reaches;
      same = last.same ∙ ap (λ (l : List Token). l ++ ts) (bare_push before t past.place) ∙ append_assoc (bare before) (t ∷ []) ts;
    }

ready_first : (g : Gaps) → Ready g false true
ready_first After = refl
ready_first Between = λ e. refl

-- a file in which tokens are written is these tokens
pub written_file : (g : Gaps) (bytes : List ℕ) (ts : List Token) → IsUtf8 bytes → chars bytes ≡ written_with g ts → AreSpellable ts → length ts ≤ 2000000 → IsFileOf bytes ts
written_file g bytes ts utf8 e h few =
    let from : Reaches bytes [] (at false start (written_with g ts)) = subst (λ (cs : List ℕ). Reaches bytes [] (at false start cs)) e (reaches_start bytes [] utf8 refl) in
    let all : IsRead bytes [] ts = read_on g bytes [] ts start false true h (omega (arith, few)) (ready_first g) from in
    (record { tokens = all.tokens; end = all.end }, record { last = at all.after_name all.end []; reaches = all.reaches; whole = refl; ends = refl }, all.same)
