-- What the parsers answer of the tokens from one on, by what the reader of their production gives.
use Rattle.std.proofs.Common.{◌≡◌, ℕ, ◌+◌, ◌-◌, List, [], length, drop, take, Result, Ok, Err, refl, sym, ap, subst, ◌∙◌, arith}
use Rattle.std.proofs.lemmas.List.{take_all, length-drop, length-append}
use Rattle.psm_token.specs.declared.token.Placed.{Placed}
use Rattle.psm_token.specs.Listed.{Tokens}
use Rattle.psm_grammar.specs.Language.{toks}
use Rattle.psm_grammar.specs.Grammar.{Spells}
use Rattle.psm_grammar.specs.Exact.{AtEnd, Holds, Good}
use Rattle.psm_grammar.specs.declared.halt.Halt.{Halt}
use Rattle.psm_grammar.proofs.Fitting.{Fit}
use Rattle.psm_tree.specs.ExprGrammar.{Gram, target, data_type, all_expressions}
use Rattle.psm_tree.specs.Productions.{productions}
use Rattle.psm_tree.specs.Reading.{most_levels, ReadsRun}
use Rattle.psm_tree.specs.Readers.{reading, Takes}
use Rattle.psm_tree.specs.declared.fault.ParseFault.{ParseFault}
use Rattle.psm_tree.proofs.ExprFits.{after}
use Rattle.psm_tree.proofs.Readable.{exact_run}
use Rattle.psm_tree.proofs.Reading.{reading_reads}
use Rattle.psm_parse_token.proofs.Answering.{run_read, run_halted}
use Rattle.psm_parse_expr.specs.Numbered.{numbered}

pub target_fit : Fit after [] target
unfolding all_expressions
target_fit = record { holds = refl }

pub type_fit : Fit after [] data_type
unfolding all_expressions
type_fit = record { holds = refl }

module _ {X : Type 0} {g : Gram X} {follow : List ℕ} (fit : Fit after follow g) (levels depth : ℕ) (open_now : depth + levels ≡ most_levels) (tokens : Tokens) (at : ℕ) where
  exact : (ts : List Placed) → Holds (Spells productions depth g) AtEnd most_levels ts (reading levels g ts)
  exact ts = subst (Holds (Spells productions depth g) AtEnd most_levels ts) (sym (reading_reads levels g ts)) (exact_run fit levels depth most_levels open_now ts)

  from_token : (read : Result X Halt) (rest : List Placed) → Takes (reading levels g (drop at tokens.tokens)) read rest → ReadsRun (Spells productions depth g) (λ x. x) tokens at (numbered tokens (length rest) read)
  from_token (Ok x) rest takes =
      let good : Good (Spells productions depth g) AtEnd most_levels (drop at tokens.tokens) x rest = subst (Holds (Spells productions depth g) AtEnd most_levels (drop at tokens.tokens)) takes (exact (drop at tokens.tokens)) in
      let following : length (drop at tokens.tokens) ≡ length (toks good.front) + length rest = ap length good.parts ∙ length-append (toks good.front) rest in
      run_read (Spells productions depth g) (λ x. x) tokens at (reading levels g (drop at tokens.tokens)) (exact (drop at tokens.tokens)) x (length tokens.tokens - length rest) rest takes (omega (arith, following, length-drop at tokens.tokens))
  from_token (Err e) rest takes = run_halted (Spells productions depth g) (λ x. x) tokens at (reading levels g (drop at tokens.tokens)) (exact (drop at tokens.tokens)) e takes

  -- a slice from a token on
  slice : (items : List Placed) → items ≡ tokens.tokens → take (length items - at) (drop at items) ≡ drop at tokens.tokens
  slice items same = take_all (length items - at) (drop at items) (omega (arith, length-drop at items)) ∙ ap (drop at) same

  -- what is answered of the tokens from `at` on
  pub run_answered : (items start : List Placed) → items ≡ tokens.tokens → start ≡ take (length items - at) (drop at items) → (read : Result X Halt) (rest : List Placed) → Takes (reading levels g start) read rest
      → (result : Result (X × ℕ) ParseFault) → result ≡ numbered tokens (length rest) read → ReadsRun (Spells productions depth g) (λ x. x) tokens at result
  run_answered items start same from read rest takes result answered =
      subst (ReadsRun (Spells productions depth g) (λ x. x) tokens at) (sym answered)
      (from_token read rest (subst (λ ts. Takes (reading levels g ts) read rest) (from ∙ slice items same) takes))
