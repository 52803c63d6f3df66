-- Bytes spell tokens, or have a first fault.
use Rattle.std.proofs.Common.{◌≡◌, ◌≢◌, ℕ, zero, suc, ◌≤◌, Bool, true, false, eqb, List, [], ◌∷◌, ◌++◌, length, take, drop, inl, inr, refl, sym, subst, ◌∙◌, arith}
use Rattle.std.specs.Str.{is_utf8, chars}
use Rattle.std.specs.Str.Lossy.{utf8_valid_len}
use Rattle.std.proofs.lemmas.Bool.Decides.{nat_tests}
use Rattle.std.proofs.lemmas.List.{length-drop, nil_from_length}
use Rattle.std.proofs.lemmas.Str.{IsUtf8-from_is_utf8, is_utf8-from_IsUtf8}
use Rattle.psm_token.specs.declared.fault.LexFault.{LexFault}
use Rattle.psm_token.specs.declared.fault.LexFault.TheVariants.{BadUtf8, BadChar, OpenText, OpenName, LongText, LongNumber, LongName, ManyTokens, Memory}
use Rattle.psm_token.specs.declared.place.Place.{Place}
use Rattle.psm_token.specs.declared.token.Placed.{Placed}
use Rattle.psm_token.specs.Faults.{IsFaulty}
use Rattle.psm_token.specs.Fronts.{front_of}
use Rattle.psm_token.specs.Places.{start, place_after}
use Rattle.psm_token.specs.Spells.{Reaches, IsFirstFault, most_tokens}
use Rattle.psm_token.specs.Tokens.{is_name}
use Rattle.psm_token.proofs.Reaching.{at, placed, reaches_start, reaches_gap, reaches_one, token_moves}
use Rattle.psm_total.specs.Total.{TokensOrFault}
use Rattle.psm_total.proofs.Fronts.{IsOfToken, Front, Ended, Apart, One, Faulty, seen, never_memory}

module _ (bytes : List ℕ) where
  -- a faulty token is the first fault
  faulty_first : (ts : List Placed) (a : Bool) (p : Place) (cs : List ℕ) (f : LexFault) → Reaches bytes ts (at a p cs) → IsOfToken f → IsFaulty (front_of a cs) cs p f → IsFirstFault bytes f
  faulty_first ts a p cs (BadUtf8 q) r o h = absurd o
  faulty_first ts a p cs (BadChar q) r o h = record { before = ts; at = at a p cs; reaches = r; stops = h }
  faulty_first ts a p cs (OpenText q) r o h = record { before = ts; at = at a p cs; reaches = r; stops = h }
  faulty_first ts a p cs (OpenName q) r o h = record { before = ts; at = at a p cs; reaches = r; stops = h }
  faulty_first ts a p cs (LongText q) r o h = record { before = ts; at = at a p cs; reaches = r; stops = h }
  faulty_first ts a p cs (LongNumber q) r o h = record { before = ts; at = at a p cs; reaches = r; stops = h }
  faulty_first ts a p cs (LongName q) r o h = record { before = ts; at = at a p cs; reaches = r; stops = h }
  faulty_first ts a p cs (ManyTokens q) r o h = absurd o
  faulty_first ts a p cs Memory r o h = absurd o

  -- what is left has n characters at most
  read_on : (n : ℕ) (ts : List Placed) (a : Bool) (p : Place) (cs : List ℕ) → length cs ≤ n → Reaches bytes ts (at a p cs) → TokensOrFault bytes
  read_on zero ts a p cs l r = inl (record { tokens = ts; end = p }, record { last = at a p cs; reaches = r; whole = nil_from_length cs (omega arith); ends = refl })
  read_on (suc n) ts a p cs l r = by (seen a cs p) (eqb (length ts) most_tokens) refl (read_on n)
    where
      by : Front a cs p → (b : Bool) → eqb (length ts) most_tokens ≡ b
          → ((us : List Placed) (b : Bool) (q : Place) (ds : List ℕ) → length ds ≤ n → Reaches bytes us (at b q ds) → TokensOrFault bytes) → TokensOrFault bytes
      by (Ended e) b f again = inl (record { tokens = ts; end = p }, record { last = at a p cs; reaches = r; whole = e; ends = refl })
      by (Apart m some more g) b f again =
          again ts false (place_after (take m cs) p) (drop m cs) (omega (arith, length-drop m cs)) (reaches_gap bytes ts a p _ cs _ m r g refl refl)
      by (One m t h) true f again =
          let many : length ts ≡ most_tokens = grind (arith, nat_tests, f) in
          inr (ManyTokens p, record { before = ts; at = at a p cs; reaches = r; stops = (many, (m, t, h), refl) })
      by (One m t h) false f again =
          let moves = token_moves a cs m t h in
          let few : length ts ≢ most_tokens = λ e. grind (arith, nat_tests, f, e) in
          again (ts ++ placed t p ∷ []) (is_name t) (place_after (take m cs) p) (drop m cs) (omega (arith, length-drop m cs, moves.0, moves.1))
          (reaches_one bytes ts _ a _ p _ cs _ m t r h few refl refl refl refl)
      by (Faulty x o h) b f again = inr (x, faulty_first ts a p cs x r o h)

-- bytes spell tokens, or have a first fault
pub bytes_read : (bytes : List ℕ) → TokensOrFault bytes
bytes_read bytes = by (is_utf8 bytes) refl
  where
    true_false : true ≡ false → ⊥
    true_false e = cc

    by : (b : Bool) → is_utf8 bytes ≡ b → TokensOrFault bytes
    by true e = read_on bytes (length (chars bytes)) [] false start (chars bytes) (omega arith) (reaches_start bytes [] (IsUtf8-from_is_utf8 bytes e) refl)
    by false e = inr (BadUtf8 (place_after (chars (take (utf8_valid_len bytes) bytes)) start), (λ u. true_false (sym (is_utf8-from_IsUtf8 bytes u) ∙ e), refl))

-- no first fault is out of memory
pub first_fault_known : (bytes : List ℕ) (f : LexFault) → IsFirstFault bytes f → f ≢ Memory
first_fault_known bytes f h e =
    let m : IsFirstFault bytes Memory = subst (IsFirstFault bytes) e h in
    never_memory m.at.after_name m.at.rest m.at.place m.stops
