-- Tokens have one tree or one fault, and not both.
use Rattle.std.proofs.Common.{◌≡◌, ◌≢◌, ℕ, List, [], Result, Ok, Err, refl, sym, ap, ◌∙◌, inl, inr}
use Rattle.psm_token.specs.declared.place.Place.{Place}
use Rattle.psm_token.specs.declared.token.Placed.{Placed}
use Rattle.psm_token.specs.Listed.{Tokens}
use Rattle.psm_grammar.specs.Language.{Lang}
use Rattle.psm_grammar.specs.Grammar.{Spells as Derives}
use Rattle.psm_grammar.specs.Readers.{Out, Wrong, TooDeep, reads}
use Rattle.psm_grammar.specs.Exact.{AtEnd, Holds}
use Rattle.psm_grammar.proofs.Fitting.{Fit}
use Rattle.psm_grammar.proofs.Whole.{only_answer}
use Rattle.psm_tree.specs.ExprGrammar.{Gram}
use Rattle.psm_tree.specs.Productions.{productions}
use Rattle.psm_tree.specs.Reading.{most_levels, place_of_rest, ReadsAll}
use Rattle.psm_tree.specs.declared.fault.ParseFault.{ParseFault}
use Rattle.psm_tree.specs.declared.fault.ParseFault.TheVariants as parse
use Rattle.psm_tree.proofs.ExprFits.{after}
use Rattle.psm_tree.proofs.Readable.{height, readable}
use Rattle.psm_parse_file.specs.Only.{GivesFault, GivesTree}

value_or : {T Y : Type 0} → Y → Out T Y → Y
value_or y (Ok r) = r.0
value_or y (Err e) = y

rest_or : {T Y : Type 0} → List T → Out T Y → List T
rest_or ts (Ok r) = r.1
rest_or ts (Err e) = ts

-- the fault of an answer for tokens with that end
abbrev fault_from : {Y : Type 0} → Place → Out Placed Y → ParseFault
fault_from end (Ok r) = parse.Syntax (place_of_rest end r.1)
fault_from end (Err (Wrong rest)) = parse.Syntax (place_of_rest end rest)
fault_from end (Err (TooDeep rest)) = parse.Deep (place_of_rest end rest)

module _ {Y : Type 0} {g : Gram Y} {follow : List ℕ} (fit : Fit after follow g) (ts : Tokens) where
  abbrev L : Lang Placed Y
  L = Derives productions 0 g

  -- an exact answer is the reader's
  read_so : (o : Out Placed Y) → Holds L AtEnd most_levels ts.tokens o → o ≡ reads productions most_levels g ts.tokens
  read_so = only_answer productions after height readable most_levels 0 most_levels refl g follow fit.holds ts.tokens

  -- two exact answers are one
  same_answer : (o p : Out Placed Y) → Holds L AtEnd most_levels ts.tokens o → Holds L AtEnd most_levels ts.tokens p → o ≡ p
  same_answer o p h k = read_so o h ∙ sym (read_so p k)

  -- two trees are one
  pub tree_once : (y z : Y) → ReadsAll L (λ y. y) ts (Ok y) → ReadsAll L (λ y. y) ts (Ok z) → y ≡ z
  unfolding value_or
  tree_once y z h k = ap (value_or y) (same_answer (Ok (y, [])) (Ok (z, [])) h k)

  -- ---- faults

  -- the exact answer that a fault comes from
  record Answered (fault : ParseFault) : Type 0 where
    answer : Out Placed Y
    holds : Holds L AtEnd most_levels ts.tokens answer
    fault_is : fault ≡ fault_from ts.end answer

  answered : (fault : ParseFault) → fault ≢ parse.Memory → ReadsAll {X = Y} L (λ y. y) ts (Err fault) → Answered fault
  answered parse.Memory n h = absurd (n refl)
  answered (parse.Syntax place) n h = elim h.1.stop [
    | inl s ↦ record { answer = Ok (s.0, h.0); holds = s.1; fault_is = ap parse.Syntax h.2 }
    | inr b ↦ record { answer = Err (Wrong h.0); holds = b; fault_is = ap parse.Syntax h.2 }
  ]
  answered (parse.Deep place) n h = record { answer = Err (TooDeep h.0); holds = h.1; fault_is = ap parse.Deep h.2 }

  -- two faults are one
  pub fault_once : (f f' : ParseFault) → f ≢ parse.Memory → f' ≢ parse.Memory → ReadsAll {X = Y} L (λ y. y) ts (Err f) → ReadsAll {X = Y} L (λ y. y) ts (Err f') → f ≡ f'
  fault_once f f' n n' h k =
      let a = answered f n h in
      let b = answered f' n' k in
      a.fault_is ∙ ap (λ (o : Out Placed Y). fault_from ts.end o) (same_answer a.answer b.answer a.holds b.holds) ∙ sym b.fault_is

  ok_wrong : (y : Y) (rest : List Placed) → ◌≡◌ {A = Out Placed Y} (Ok (y, [])) (Err (Wrong rest)) → ⊥
  ok_wrong y rest e = cc

  ok_deep : (y : Y) (rest : List Placed) → ◌≡◌ {A = Out Placed Y} (Ok (y, [])) (Err (TooDeep rest)) → ⊥
  ok_deep y rest e = cc

  -- a tree excludes a fault
  pub tree_or_fault : (y : Y) (f : ParseFault) → f ≢ parse.Memory → ReadsAll L (λ y. y) ts (Ok y) → ReadsAll {X = Y} L (λ y. y) ts (Err f) → ⊥
  unfolding rest_or
  tree_or_fault y parse.Memory n p h = n refl
  tree_or_fault y (parse.Syntax place) n p h = elim h.1.stop [
    | inl r ↦ r.2 (sym (ap (rest_or []) (same_answer (Ok (y, [])) (Ok (r.0, h.0)) p r.1)))
    | inr b ↦ ok_wrong y h.0 (same_answer (Ok (y, [])) (Err (Wrong h.0)) p b)
  ]
  tree_or_fault y (parse.Deep place) n p h = ok_deep y h.0 (same_answer (Ok (y, [])) (Err (TooDeep h.0)) p h.1)

  -- ---- an answer that is exact is the one that is due

  syntax_known : (place : Place) → parse.Syntax place ≢ parse.Memory
  syntax_known place e = cc

  deep_known : (place : Place) → parse.Deep place ≢ parse.Memory
  deep_known place e = cc

  pub gives_tree : (answer : Result Y ParseFault) → ReadsAll L (λ y. y) ts answer → GivesTree L ts answer
  gives_tree (Ok y) h tree k = tree_once y tree h k
  gives_tree (Err parse.Memory) h tree k = refl
  gives_tree (Err (parse.Syntax place)) h tree k = absurd (tree_or_fault tree (parse.Syntax place) (syntax_known place) k h)
  gives_tree (Err (parse.Deep place)) h tree k = absurd (tree_or_fault tree (parse.Deep place) (deep_known place) k h)

  pub gives_fault : (answer : Result Y ParseFault) → ReadsAll L (λ y. y) ts answer → GivesFault L ts answer
  gives_fault (Ok y) h fault n k = tree_or_fault y fault n h k
  gives_fault (Err parse.Memory) h fault n k = inr refl
  gives_fault (Err (parse.Syntax place)) h fault n k = inl (fault_once (parse.Syntax place) fault (syntax_known place) n h k)
  gives_fault (Err (parse.Deep place)) h fault n k = inl (fault_once (parse.Deep place) fault (deep_known place) n h k)
