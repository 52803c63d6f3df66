-- Tokens are read as a tree, or have a fault, where first tokens decide.
use Rattle.std.proofs.Common.{◌≢◌, ℕ, List, [], ◌∷◌, Ok, Err, refl, inl, inr}
use Rattle.psm_token.specs.declared.place.Place.{Place}
use Rattle.psm_token.specs.declared.token.Placed.{Placed}
use Rattle.psm_token.specs.Listed.{Tokens}
use Rattle.psm_grammar.specs.Language.{Lang}
use Rattle.psm_grammar.specs.Grammar.{Spells}
use Rattle.psm_grammar.specs.Readers.{Out, Wrong, TooDeep, reads}
use Rattle.psm_grammar.specs.Exact.{AtEnd, Good, Holds}
use Rattle.psm_grammar.proofs.Fitting.{Fit}
use Rattle.psm_tree.specs.ExprGrammar.{Gram}
use Rattle.psm_tree.specs.Productions.{productions}
use Rattle.psm_tree.specs.Reading.{most_levels, place_of_rest}
use Rattle.psm_tree.specs.declared.fault.ParseFault.TheVariants.{Syntax, Deep, Memory}
use Rattle.psm_tree.proofs.ExprFits.{after}
use Rattle.psm_tree.proofs.Readable.{exact_run}
use Rattle.psm_total.specs.Total.{TreeOrFault}

some_left : (t : Placed) (ts : List Placed) → (t ∷ ts) ≢ []
some_left t ts e = cc

syntax_known : (p : Place) → Syntax p ≢ Memory
syntax_known p e = cc

deep_known : (p : Place) → Deep p ≢ Memory
deep_known p e = cc

module _ {Y : Type 0} (L : Lang Placed Y) (tokens : Tokens) where
  -- a word that all tokens are, or that others stand after
  word_read : (y : Y) (rest : List Placed) → Good L AtEnd most_levels tokens.tokens y rest → TreeOrFault L tokens
  word_read y [] h = inl (y, h)
  word_read y (t ∷ ts) h = inr (Syntax t.place, syntax_known t.place, (t ∷ ts, record { stop = inl (y, h, some_left t ts) }, refl))

  answer_read : (o : Out Placed Y) → Holds L AtEnd most_levels tokens.tokens o → TreeOrFault L tokens
  answer_read (Ok r) h = word_read r.0 r.1 h
  answer_read (Err (Wrong rest)) h =
      let p : Place = place_of_rest tokens.end rest in
      inr (Syntax p, syntax_known p, (rest, record { stop = inr h }, refl))
  answer_read (Err (TooDeep rest)) h =
      let p : Place = place_of_rest tokens.end rest in
      inr (Deep p, deep_known p, (rest, h, refl))

-- tokens are read as a tree, or have a fault
pub tree_read : {Y : Type 0} {g : Gram Y} {follow : List ℕ} → Fit after follow g → (tokens : Tokens) → TreeOrFault (Spells productions 0 g) tokens
tree_read {Y} {g} fit tokens =
    answer_read (Spells productions 0 g) tokens (reads productions most_levels g tokens.tokens) (exact_run fit most_levels 0 most_levels refl tokens.tokens)
