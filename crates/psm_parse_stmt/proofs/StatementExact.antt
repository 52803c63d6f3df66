-- What the reader of statements answers is exact.
use Rattle.std.proofs.Common.{◌≡◌, ℕ, ◌+◌, ◌-◌, ◌≤◌, List, length, drop, take, Ok, Err, sym, ap, subst, ◌∙◌, arith}
use Rattle.std.proofs.lemmas.List.{take_all, length-drop, length-append}
use Rattle.psm_token.specs.Listed.{Tokens}
use Rattle.psm_token.specs.declared.token.Placed.{Placed}
use Rattle.psm_grammar.specs.Grammar.{Spells}
use Rattle.psm_grammar.specs.Exact.{AtEnd, Good, Holds}
use Rattle.psm_grammar.specs.Gives.{Halts}
use Rattle.psm_grammar.specs.Language.{toks}
use Rattle.psm_grammar.specs.declared.halt.Halt.{Halt}
use Rattle.psm_tree.specs.Productions.{productions}
use Rattle.psm_tree.specs.Readers.{reading}
use Rattle.psm_tree.specs.Reading.{most_levels, ReadsRun}
use Rattle.psm_tree.specs.StatementGrammar.{statement}
use Rattle.psm_tree.specs.declared.fault.ParseFault.{ParseFault}
use Rattle.psm_tree.specs.declared.statement.Statement.{Statement}
use Rattle.psm_tree.proofs.Reading.{reading_reads}
use Rattle.psm_tree.proofs.StatementFits.{statement_fit}
use Rattle.psm_tree.proofs.Readable.{exact_run}
use Rattle.psm_parse_token.specs.Fault.{fault_at}
use Rattle.psm_parse_token.proofs.Answering.{run_read, run_halted}

statement_exact : (levels depth : ℕ) → depth + levels ≡ most_levels → (ts : List Placed) → Holds (Spells productions depth statement) AtEnd most_levels ts (reading levels statement ts)
statement_exact levels depth e ts = subst (Holds (Spells productions depth statement) AtEnd most_levels ts) (sym (reading_reads levels statement ts)) (exact_run statement_fit levels depth most_levels e ts)

-- the tokens that the reader is given are those from `at` on
module _ (tokens : Tokens) (at depth : ℕ) (nested : depth ≤ 100) (items given : List Placed) (same : items ≡ tokens.tokens) (begun : given ≡ take (length items - at) (drop at items)) where
  from_here : given ≡ drop at tokens.tokens
  from_here = begun ∙ take_all (length items - at) (drop at items) (omega (arith, length-drop at items)) ∙ ap (drop at) same

  exact_here : Holds (Spells productions depth statement) AtEnd most_levels (drop at tokens.tokens) (reading (100 - depth) statement (drop at tokens.tokens))
  exact_here = statement_exact (100 - depth) depth (omega (arith, nested)) (drop at tokens.tokens)

  read_here : (x : Statement) (rest : List Placed) → reading (100 - depth) statement given ≡ Ok (x, rest) → reading (100 - depth) statement (drop at tokens.tokens) ≡ Ok (x, rest)
  read_here x rest e = ap (reading (100 - depth) statement) (sym from_here) ∙ e

  -- the tokens after a statement are some of all
  pub statement_left : (x : Statement) (rest : List Placed) → reading (100 - depth) statement given ≡ Ok (x, rest) → length rest ≤ length items
  statement_left x rest e =
      let good : Good (Spells productions depth statement) AtEnd most_levels (drop at tokens.tokens) x rest = subst (Holds (Spells productions depth statement) AtEnd most_levels (drop at tokens.tokens)) (read_here x rest e) exact_here in
      omega (arith, ap length good.parts, length-append (toks good.front) rest, ap length same, length-drop at tokens.tokens)

  -- a statement, and the number of the token after it
  pub statement_run : (x : Statement) (rest : List Placed) → reading (100 - depth) statement given ≡ Ok (x, rest) → ReadsRun (Spells productions depth statement) (λ t. t) tokens at (Ok (x, length items - length rest))
  statement_run x rest e = run_read (Spells productions depth statement) (λ t. t) tokens at (reading (100 - depth) statement (drop at tokens.tokens)) exact_here x (length items - length rest) rest
      (read_here x rest e) (omega (arith, statement_left x rest e, ap length same))

  -- the place where no statement goes on
  pub statement_halts : (e : Halt) (fault : ParseFault) → fault ≡ fault_at tokens e → Halts e (reading (100 - depth) statement given) → ReadsRun (Spells productions depth statement) (λ t. t) tokens at (Err fault)
  statement_halts e fault reported h =
      let halts : Halts e (reading (100 - depth) statement (drop at tokens.tokens)) = subst (λ (ts : List Placed). Halts e (reading (100 - depth) statement ts)) from_here h in
      subst (λ (f : ParseFault). ReadsRun (Spells productions depth statement) (λ t. t) tokens at (Err f)) (sym reported)
      (run_halted (Spells productions depth statement) (λ t. t) tokens at (reading (100 - depth) statement (drop at tokens.tokens)) exact_here e halts)
