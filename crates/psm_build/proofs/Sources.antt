-- The bytes of a file have at most one tree, or one fault, and not both.
use Rattle.std.proofs.Common.{◌≡◌, ◌≢◌, ℕ, List, Result, Ok, Err, sym, ap, ◌∙◌, subst, inl, inr}
use Rattle.psm_token.specs.Listed.{Tokens}
use Rattle.psm_token.specs.Spells.{Spells}
use Rattle.psm_token.proofs.Once.{spells_once, first_fault_once, fault_excludes}
use Rattle.psm_grammar.specs.Grammar.{Spells as Derives}
use Rattle.psm_grammar.proofs.Fitting.{Fit}
use Rattle.psm_tree.specs.ExprGrammar.{Gram}
use Rattle.psm_tree.specs.Productions.{productions}
use Rattle.psm_tree.specs.Reading.{ReadsAll}
use Rattle.psm_tree.specs.declared.fault.ParseFault.{ParseFault}
use Rattle.psm_tree.specs.declared.fault.ParseFault.TheVariants as parse
use Rattle.psm_tree.proofs.ExprFits.{after}
use Rattle.psm_parse_file.proofs.Once as once
use Rattle.psm_faults.specs.Reported.{reported_of_tokens, reported_of_tree}
use Rattle.psm_faults.specs.Source.{IsTreeOf, IsTreeFault, IsFaultAt}
use Rattle.psm_faults.specs.declared.fault.Fault.{Fault}
use Rattle.psm_faults.specs.declared.fault.BuildFault.TheVariants.{Refused, Memory}

refused_not_memory : (line column : ℕ) (fault : Fault) → Memory ≡ Refused line column fault → ⊥
refused_not_memory line column fault e = cc

module _ {Y : Type 0} {g : Gram Y} {follow : List ℕ} (fit : Fit after follow g) (bytes : List ℕ) where
  -- what is read of the tokens of the bytes is read of all tokens that they spell
  read_as : (ts us : Tokens) → Spells bytes ts → Spells bytes us → (answer : Result Y ParseFault) → ReadsAll (Derives productions 0 g) (λ y. y) ts answer → ReadsAll (Derives productions 0 g) (λ y. y) us answer
  read_as ts us s s' answer h = subst (λ (x : Tokens). ReadsAll (Derives productions 0 g) (λ y. y) x answer) (spells_once bytes ts us s s') h

  -- two trees are one
  pub tree_once : (y z : Y) → IsTreeOf (Derives productions 0 g) bytes y → IsTreeOf (Derives productions 0 g) bytes z → y ≡ z
  tree_once y z p q = once.tree_once fit p.tokens y z p.tree_is (read_as q.tokens p.tokens q.spelled p.spelled (Ok z) q.tree_is)

  -- ---- faults of the tree

  reported_not_memory : (fault : ParseFault) (line column : ℕ) (f : Fault) → reported_of_tree fault ≡ Refused line column f → fault ≢ parse.Memory
  reported_not_memory fault line column f e m = refused_not_memory line column f (sym (ap reported_of_tree m) ∙ e)

  -- two faults of the tree are one
  tree_faults_once : (l c l' c' : ℕ) (f f' : Fault) → IsTreeFault (Derives productions 0 g) bytes (Refused l c f) → IsTreeFault (Derives productions 0 g) bytes (Refused l' c' f') → Refused l c f ≡ Refused l' c' f'
  tree_faults_once l c l' c' f f' h k =
      let faults : h.fault ≡ k.fault =
      once.fault_once fit h.tokens h.fault k.fault (reported_not_memory h.fault l c f h.reported_is) (reported_not_memory k.fault l' c' f' k.reported_is) h.fault_is
      (read_as k.tokens h.tokens k.spelled h.spelled (Err k.fault) k.fault_is) in
      sym h.reported_is ∙ ap reported_of_tree faults ∙ k.reported_is

  -- ---- faults of the file

  -- a file with a tree has no fault
  pub tree_excludes : (l c : ℕ) (f : Fault) (y : Y) → IsTreeOf (Derives productions 0 g) bytes y → IsFaultAt (Derives productions 0 g) bytes l c f → ⊥
  tree_excludes l c f y p (inl h) = fault_excludes bytes h.fault p.tokens h.first p.spelled
  tree_excludes l c f y p (inr h) =
      once.tree_or_fault fit h.tokens y h.fault (reported_not_memory h.fault l c f h.reported_is) (read_as p.tokens h.tokens p.spelled h.spelled (Ok y) p.tree_is) h.fault_is

  -- two faults are one
  pub fault_once : (l c l' c' : ℕ) (f f' : Fault) → IsFaultAt (Derives productions 0 g) bytes l c f → IsFaultAt (Derives productions 0 g) bytes l' c' f' → Refused l c f ≡ Refused l' c' f'
  fault_once l c l' c' f f' (inl h) (inl k) = sym h.reported_is ∙ ap reported_of_tokens (first_fault_once bytes h.fault k.fault h.first k.first) ∙ k.reported_is
  fault_once l c l' c' f f' (inl h) (inr k) = absurd (fault_excludes bytes h.fault k.tokens h.first k.spelled)
  fault_once l c l' c' f f' (inr h) (inl k) = absurd (fault_excludes bytes k.fault h.tokens k.first h.spelled)
  fault_once l c l' c' f f' (inr h) (inr k) = tree_faults_once l c l' c' f f' h k
