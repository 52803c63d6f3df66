-- Names and texts stand where they are written.
use Rattle.std.proofs.Common.{◌≡◌, ℕ, ◌≤◌, true, false, List, [], ◌∷◌, ◌++◌, length, refl, ap, append_assoc, arith}
use Rattle.std.proofs.lemmas.List.{length_push}
use Rattle.psm_token.specs.declared.token.Token.TheVariants.{Name, Text}
use Rattle.psm_token.specs.Characters.{begins}
use Rattle.psm_token.specs.Forms.{IsToken}
use Rattle.psm_token.specs.Fronts.{front_of}
use Rattle.psm_token.specs.Quotes.{Quoted, doubled, is_quote}
use Rattle.psm_spell.specs.Written.{quoted, IsSpellableName}
use Rattle.psm_spell.proofs.Stops.{stops, no_name_quote, no_text_quote}

quoted_stands : (quote : ℕ) (kept rest : List ℕ) → begins (is_quote quote) rest ≡ false → Quoted quote (quoted quote kept ++ rest) (length (quoted quote kept)) kept
quoted_stands quote kept rest e = record {
  rest = rest;
  spelled = ap (λ (t : List ℕ). quote ∷ t) (append_assoc (doubled quote kept) (quote ∷ []) rest);
  size = omega (arith, length_push (doubled quote kept) quote);
  ends = e;
}

pub name_stands : (n rest : List ℕ) → IsSpellableName n → stops rest ≡ true → IsToken (front_of false (quoted 34 n ++ rest)) (quoted 34 n ++ rest) (length (quoted 34 n)) (Name n)
name_stands n rest h e = (n, quoted_stands 34 n rest (no_name_quote rest e), record { some = h.some; limit = h.limit; value = refl })

pub text_stands : (t rest : List ℕ) → length t ≤ 4000 → stops rest ≡ true → IsToken (front_of false (quoted 39 t ++ rest)) (quoted 39 t ++ rest) (length (quoted 39 t)) (Text t)
text_stands t rest h e = (t, quoted_stands 39 t rest (no_text_quote rest e), record { limit = h; value = refl })
