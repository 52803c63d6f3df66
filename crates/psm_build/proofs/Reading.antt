-- What is reported of a file whose tokens, or whose tree, are refused.
use Rattle.std.proofs.Common.{ℕ, List, Err, refl, inl, inr}
use Rattle.psm_token.specs.declared.fault.LexFault.{LexFault}
use Rattle.psm_token.specs.declared.fault.LexFault.TheVariants as lex
use Rattle.psm_token.specs.declared.token.Placed.{Placed}
use Rattle.psm_token.specs.Answers.{OrMemory}
use Rattle.psm_token.specs.Listed.{Tokens}
use Rattle.psm_token.specs.Spells.{Spells, IsFirstFault}
use Rattle.psm_grammar.specs.Language.{Lang}
use Rattle.psm_tree.specs.Reading.{ReadsAll}
use Rattle.psm_tree.specs.declared.fault.ParseFault.{ParseFault}
use Rattle.psm_tree.specs.declared.fault.ParseFault.TheVariants as parse
use Rattle.psm_faults.specs.Reported.{reported_of_tokens, reported_of_tree}
use Rattle.psm_faults.specs.declared.fault.BuildFault.{BuildFault}
use Rattle.psm_faults.specs.declared.fault.BuildFault.TheVariants.{Refused, Memory}
use Rattle.psm_build.specs.Building.{ReadsTokens, ReadsTree}

pub tokens_refused : (bytes : List ℕ) (fault : LexFault) → OrMemory fault (IsFirstFault bytes fault) → ReadsTokens bytes (Err (reported_of_tokens fault))
tokens_refused bytes (lex.BadUtf8 p) h = record { fault = lex.BadUtf8 p; first = h; reported_is = refl }
tokens_refused bytes (lex.BadChar p) h = record { fault = lex.BadChar p; first = h; reported_is = refl }
tokens_refused bytes (lex.OpenText p) h = record { fault = lex.OpenText p; first = h; reported_is = refl }
tokens_refused bytes (lex.OpenName p) h = record { fault = lex.OpenName p; first = h; reported_is = refl }
tokens_refused bytes (lex.LongText p) h = record { fault = lex.LongText p; first = h; reported_is = refl }
tokens_refused bytes (lex.LongNumber p) h = record { fault = lex.LongNumber p; first = h; reported_is = refl }
tokens_refused bytes (lex.LongName p) h = record { fault = lex.LongName p; first = h; reported_is = refl }
tokens_refused bytes (lex.ManyTokens p) h = record { fault = lex.ManyTokens p; first = h; reported_is = refl }
tokens_refused bytes lex.Memory h = tt

module _ {Y : Type 0} (L : Lang Placed Y) (bytes : List ℕ) where
  pub tree_refused : (tokens : Tokens) (fault : ParseFault) → Spells bytes tokens → ReadsAll {X = Y} L (λ y. y) tokens (Err fault) → ReadsTree L bytes (Err (reported_of_tree fault))
  tree_refused tokens (parse.Syntax p) s h = inr (record { tokens = tokens; spelled = s; fault = parse.Syntax p; fault_is = h; reported_is = refl })
  tree_refused tokens (parse.Deep p) s h = inr (record { tokens = tokens; spelled = s; fault = parse.Deep p; fault_is = h; reported_is = refl })
  tree_refused tokens parse.Memory s h = tt

  -- a file without tokens has no tree
  pub tree_without_tokens : (e : BuildFault) → ReadsTokens bytes (Err e) → ReadsTree L bytes (Err e)
  tree_without_tokens (Refused line column fault) h = inl h
  tree_without_tokens Memory h = tt
