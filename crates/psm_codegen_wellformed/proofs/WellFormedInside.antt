-- What is asked of the statements, branches and handlers inside a well-formed statement, by its form.
use Rattle.std.proofs.Common.{◌≡◌, ℕ, List, ◌∷◌, sym, subst}
use Rattle.psm_exprcode.specs.declared.op.Letter.{Letter}
use Rattle.psm_resolved.specs.declared.statement.ResolvedBlock.{ResolvedBlock, out-ResolvedBlock}
use Rattle.psm_resolved.specs.declared.statement.ResolvedBranch.{ResolvedBranch, out-ResolvedBranch}
use Rattle.psm_resolved.specs.declared.statement.ResolvedCursor.{ResolvedCursor}
use Rattle.psm_resolved.specs.declared.statement.ResolvedHandler.{ResolvedHandler, out-ResolvedHandler}
use Rattle.psm_resolved.specs.declared.statement.ResolvedStatement.{ResolvedStatement, out-ResolvedStatement}
use Rattle.psm_resolved.specs.declared.statement.ResolvedStatement.TheOpen as layers
use Rattle.psm_exprgen.specs.declared.known.Known.{Known}
use Rattle.psm_codegen.specs.Standing.{Layer}
use Rattle.psm_typing.specs.TypingContext.{Each, TypingContext}
use Rattle.psm_typing.specs.Statements.{StatementScope}
use Rattle.psm_wellformed.specs.Simples.{WellFormedSimple}
use Rattle.psm_wellformed.specs.Statements.{AreActions, AreApart, AreBranches, AreWellFormed, IsWellFormed, Letters, MayHandle}
use Rattle.psm_wellformed.specs.Statements as well_formed

-- statements, branches and actions that are well-formed somewhere
abbrev pub WellFormedOne : TypingContext → Known → Letters → ResolvedStatement → Type 0
WellFormedOne e known letters x = (s : StatementScope) × IsWellFormed e known letters s x

abbrev pub WellFormedList : TypingContext → Known → Letters → List ResolvedStatement → Type 0
WellFormedList e known letters xs = (s : StatementScope) × AreWellFormed e known letters s xs

abbrev pub WellFormedBranches : TypingContext → Known → Letters → List ResolvedBranch → Type 0
WellFormedBranches e known letters bs = (s : StatementScope) × (k : Letter) × AreBranches e known letters s bs k

abbrev pub WellFormedActions : TypingContext → Known → Letters → List ResolvedHandler → Type 0
WellFormedActions e known letters hs = (level : ℕ) × (cursors : List ResolvedCursor) × AreActions e known letters level cursors hs

pub record WellFormedBlock (e : TypingContext) (known : Known) (letters : Letters) (block : ResolvedBlock) : Type 0 where
  pub apart : AreApart (out-ResolvedBlock block).handlers
  pub handlers : Each (MayHandle e (out-ResolvedBlock block).atomic) (out-ResolvedBlock block).handlers
  pub actions : WellFormedActions e known letters (out-ResolvedBlock block).handlers
  pub statements : WellFormedList e known letters (out-ResolvedBlock block).statements

abbrev pub Inside : TypingContext → Known → Letters → Layer → Type 0
Inside e known letters (layers.Compound level block) = WellFormedBlock e known letters block
Inside e known letters (layers.Loop level statements) = WellFormedList e known letters statements
Inside e known letters (layers.While level test statements) = WellFormedList e known letters statements
Inside e known letters (layers.Repeat level statements until) = WellFormedList e known letters statements
Inside e known letters (layers.For level head statements) = WellFormedList e known letters statements
Inside e known letters (layers.If branches otherwise) = WellFormedBranches e known letters branches × WellFormedList e known letters otherwise
Inside e known letters (layers.Case operand branches otherwise) = WellFormedBranches e known letters branches × WellFormedList e known letters otherwise
Inside e known letters (layers.Simple simple) = (s : StatementScope) × WellFormedSimple e known letters s simple

inside-here : {e : TypingContext} {known : Known} {letters : Letters} {s : StatementScope} {x : ResolvedStatement} → IsWellFormed e known letters s x → Inside e known letters (out-ResolvedStatement x)
inside-here {e} {known} {letters} {s} (well_formed.simple y m well_typed t) = subst (Inside e known letters) (sym m) (s, t)
inside-here {e} {known} {letters} {s} (well_formed.compound level block m low declarations declared cursors asked apart handlers actions all) =
    subst (Inside e known letters) (sym m) (record { apart = apart; handlers = handlers; actions = (_, _, actions); statements = (_, all) })
inside-here {e} {known} {letters} {s} (well_formed.loop level xs m all) = subst (Inside e known letters) (sym m) (_, all)
inside-here {e} {known} {letters} {s} (well_formed.while level test xs m t all) = subst (Inside e known letters) (sym m) (_, all)
inside-here {e} {known} {letters} {s} (well_formed.repeat level xs until m all t) = subst (Inside e known letters) (sym m) (_, all)
inside-here {e} {known} {letters} {s} (well_formed.for_each level head xs m low cursor asked items slots all) = subst (Inside e known letters) (sym m) (_, all)
inside-here {e} {known} {letters} {s} (well_formed.if branches otherwise m bs all) = subst (Inside e known letters) (sym m) ((_, _, bs), (_, all))
inside-here {e} {known} {letters} {s} (well_formed.searched branches otherwise m bs all) = subst (Inside e known letters) (sym m) ((_, _, bs), (_, all))
inside-here {e} {known} {letters} {s} (well_formed.compared operand branches otherwise m value t bs all) = subst (Inside e known letters) (sym m) ((_, _, bs), (_, all))

pub inside-of : {e : TypingContext} {known : Known} {letters : Letters} {x : ResolvedStatement} {layer : Layer} → WellFormedOne e known letters x → out-ResolvedStatement x ≡ layer → Inside e known letters layer
inside-of {e} {known} {letters} t m = subst (Inside e known letters) m (inside-here t.1)

-- ---- lists

module _ {e : TypingContext} {known : Known} {letters : Letters} where
  first-here : {s : StatementScope} {x : ResolvedStatement} {xs : List ResolvedStatement} → AreWellFormed e known letters s (x ∷ xs) → WellFormedOne e known letters x × WellFormedList e known letters xs
  first-here {s} (well_formed.more t rest) = ((s, t), (s, rest))

  pub first-of : {x : ResolvedStatement} {xs : List ResolvedStatement} → WellFormedList e known letters (x ∷ xs) → WellFormedOne e known letters x × WellFormedList e known letters xs
  first-of t = first-here t.1

  branch-here : {s : StatementScope} {k : Letter} {b : ResolvedBranch} {bs : List ResolvedBranch} → AreBranches e known letters s (b ∷ bs) k → WellFormedList e known letters (out-ResolvedBranch b).statements × WellFormedBranches e known letters bs
  branch-here {s} {k} (well_formed.and_branch t all rest) = ((s, all), (s, k, rest))

  pub branch-of : {b : ResolvedBranch} {bs : List ResolvedBranch} → WellFormedBranches e known letters (b ∷ bs) → WellFormedList e known letters (out-ResolvedBranch b).statements × WellFormedBranches e known letters bs
  branch-of t = branch-here t.2

  action-here : {level : ℕ} {cursors : List ResolvedCursor} {h : ResolvedHandler} {hs : List ResolvedHandler} → AreActions e known letters level cursors (h ∷ hs) → WellFormedOne e known letters (out-ResolvedHandler h).action × WellFormedActions e known letters hs
  action-here {level} {cursors} (well_formed.and_handler t rest) = ((_, t), (level, cursors, rest))

  pub action-of : {h : ResolvedHandler} {hs : List ResolvedHandler} → WellFormedActions e known letters (h ∷ hs) → WellFormedOne e known letters (out-ResolvedHandler h).action × WellFormedActions e known letters hs
  action-of t = action-here t.2
