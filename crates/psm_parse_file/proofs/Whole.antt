-- The tree of a whole file is read as its grammar says.
use Rattle.std.proofs.Common.{◌≡◌, ℕ, List, [], ◌∷◌, Result, Ok, Err, refl, sym, subst}
use Rattle.psm_token.specs.declared.token.Placed.{Placed}
use Rattle.psm_token.specs.Listed.{Tokens}
use Rattle.psm_grammar.specs.Grammar.{Spells}
use Rattle.psm_grammar.specs.Exact.{AtEnd, Holds}
use Rattle.psm_grammar.specs.declared.halt.Halt.{Halt}
use Rattle.psm_grammar.proofs.Fitting.{Fit}
use Rattle.psm_tree.specs.ExprGrammar.{Gram}
use Rattle.psm_tree.specs.declared.fault.ParseFault.{ParseFault}
use Rattle.psm_tree.specs.Productions.{productions}
use Rattle.psm_tree.specs.Reading.{most_levels, ReadsAll}
use Rattle.psm_tree.specs.Readers.{reading, Takes}
use Rattle.psm_tree.proofs.ExprFits.{after}
use Rattle.psm_tree.proofs.Readable.{exact_run}
use Rattle.psm_tree.proofs.Reading.{reading_reads}
use Rattle.psm_parse_token.proofs.Answering.{all_read, more_left, all_halted}
use Rattle.psm_parse_file.specs.Whole.{whole}

module _ {X : Type 0} (g : Gram X) {follow : List ℕ} (fit : Fit after follow g) (tokens : Tokens) where
  -- what the reader answers is exact
  exact : Holds (Spells productions 0 g) AtEnd most_levels tokens.tokens (reading most_levels g tokens.tokens)
  exact = subst (Holds (Spells productions 0 g) AtEnd most_levels tokens.tokens) (sym (reading_reads most_levels g tokens.tokens)) (exact_run fit most_levels 0 most_levels refl tokens.tokens)

  answered : (read : Result X Halt) (rest : List Placed) → Takes (reading most_levels g tokens.tokens) read rest → ReadsAll (Spells productions 0 g) (λ t. t) tokens (whole tokens read rest)
  answered (Ok x) [] e = all_read (Spells productions 0 g) (λ t. t) tokens (reading most_levels g tokens.tokens) exact x e
  answered (Ok x) (t ∷ ts) e = more_left (Spells productions 0 g) (λ t. t) tokens (reading most_levels g tokens.tokens) exact x (t ∷ ts) e (λ h. absurd cc)
  answered (Err e) rest h = all_halted (Spells productions 0 g) (λ t. t) tokens (reading most_levels g tokens.tokens) exact e h

  pub whole_reads : (ts : List Placed) → ts ≡ tokens.tokens → (read : Result X Halt) (rest : List Placed) → Takes (reading most_levels g ts) read rest
      → (result : Result X ParseFault) → result ≡ whole tokens read rest → ReadsAll (Spells productions 0 g) (λ t. t) tokens result
  whole_reads ts e read rest takes result made = subst (ReadsAll (Spells productions 0 g) (λ t. t) tokens) (sym made)
      (answered read rest (subst (λ (all : List Placed). Takes (reading most_levels g all) read rest) e takes))
