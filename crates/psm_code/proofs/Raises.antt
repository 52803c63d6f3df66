-- A condition that is raised at a line of well-formed code finds a handler, a line at which the run goes on, or a caller.
use Rattle.std.proofs.Common.{◌≡◌, ℕ, zero, suc, ◌-◌, Bool, true, ◌&&◌, nat_eq, List, [], ◌∷◌, length, refl, ap, sym, ◌∙◌, arith, eqb-true, Option, Some, None}
use Rattle.std.specs.Prelude.{slice_get, not, nat_lt}
use Rattle.std.specs.List.{list_all}
use Rattle.psm_num.proofs.Literals.{and_first, and_second}
use Rattle.psm_cond.specs.declared.handlers.Block.{Block}
use Rattle.psm_cond.specs.declared.handlers.Context.{Context}
use Rattle.psm_cond.specs.declared.handlers.ContextKind.{ContextKind}
use Rattle.psm_cond.specs.declared.handlers.ContextKind.TheVariants as kinds
use Rattle.psm_cond.specs.declared.handlers.Handler.{Handler}
use Rattle.psm_cond.specs.Handlers.{context_at}
use Rattle.psm_code.specs.declared.code.RawCode.{RawCode}
use Rattle.psm_code.specs.declared.code.RawRoutine.{RawRoutine}
use Rattle.psm_code.specs.declared.instruction.Instruction.{Instruction}
use Rattle.psm_code.specs.declared.instruction.Instruction.TheVariants as instruction
use Rattle.psm_code.specs.declared.lines.CodeLine.{CodeLine}
use Rattle.psm_code.specs.declared.rule.CodeRule.TheVariants as rule
use Rattle.psm_code.specs.Parts.{block_at, block_of_context, block_of_kind, handler_at, line_at}
use Rattle.psm_code.specs.RoutineRules as rules
use Rattle.psm_code.specs.Rules.{is_some, is_there, there, where_there}
use Rattle.psm_code.specs.TableRules.{are_there}
use Rattle.psm_code.proofs.Faults.{context_well_formed, four_hold, handler_well_formed, clean_head, line_well_formed, two_hold, three_hold, WellFormedRoutineCode}

-- ---- what is there

pub there_some : {A : Type 0} (o : Option A) → there o ≡ true → (a : A) × (o ≡ Some a)
there_some None h = absurd (cc)
there_some (Some a) h = (a, refl)

pub where_some : {A : Type 0} (o : Option A) (test : A → Bool) (a : A) → where_there o test ≡ true → o ≡ Some a → test a ≡ true
where_some o test a h e = ap (λ x. where_there x test) (sym e) ∙ h

pub not_some : {A : Type 0} (xs : List A) → not (is_some xs) ≡ true → xs ≡ []
not_some [] h = refl
not_some (x ∷ xs) h = absurd (cc)

-- ---- contexts and handlers

action_is : (n : ℕ) (kind : ContextKind) → rules.is_action_kind n kind ≡ true → kind ≡ kinds.Action n
action_is n (kinds.Block b) h = absurd (cc)
action_is n (kinds.Action i) h = ap (λ j. kinds.Action j) (sym (eqb-true n i h))

action_context : (n : ℕ) (o : Option Context) → rules.is_action_context n o ≡ true → (c : Context) × (o ≡ Some c) × (c.kind ≡ kinds.Action n)
action_context n None h = absurd (cc)
action_context n (Some c) h = (c, refl, action_is n c.kind h)

block_kind : (kind : ContextKind) (b : Block) → block_of_kind kind ≡ Some b → kind ≡ kinds.Block b
block_kind (kinds.Block c) b h = let same : c ≡ b = cc in ap (λ x. kinds.Block x) same
block_kind (kinds.Action i) b h = absurd (cc)

block_context : (o : Option Context) (b : Block) → block_of_context o ≡ Some b → (c : Context) × (o ≡ Some c) × (c.kind ≡ kinds.Block b)
block_context None b h = absurd (cc)
block_context (Some c) b h = (c, refl, block_kind c.kind b h)

-- a context that is there has its index
place_of : (r : RawRoutine) (k : ℕ) (c : Context) → context_at r.handlers k ≡ Some c → (i : ℕ) × (k ≡ suc i) × (slice_get r.handlers.contexts i ≡ Some c)
place_of r zero c e = absurd (cc)
place_of r (suc i) c e =
    let s : suc i - 1 ≡ i = omega arith in
    let there : slice_get r.handlers.contexts (suc i - 1) ≡ Some c = grind (arith, e) in
    (i, refl, ap (slice_get r.handlers.contexts) (sym s) ∙ there)

exit_is : (k : ℕ) (i : Instruction) → rules.exits k i ≡ true → i ≡ instruction.Exit k
exit_is k (instruction.Exit c) h = ap (λ j. instruction.Exit j) (sym (eqb-true k c h))
exit_is k i h = absurd (cc)

module _ (code : RawCode) (r : RawRoutine) (well_formed_code : WellFormedRoutineCode code r) where
  context_fault_none : (k : ℕ) (c : Context) → context_at r.handlers k ≡ Some c → rules.context_fault r k c.parent c.kind ≡ None
  context_fault_none k c e = let p = place_of r k c e in ap (λ j. rules.context_fault r j c.parent c.kind) p.1 ∙ context_well_formed code r p.0 c well_formed_code p.2

  -- the line at which the action of a handler begins
  pub record Begins (n : ℕ) (h : Handler) : Type 0 where
    pub line : CodeLine
    pub there : line_at r h.pc ≡ Some line
    pub acts : rules.is_action_context n (context_at r.handlers line.context) ≡ true
    pub bare : line.stack ≡ []

  pub begins : (n : ℕ) (h : Handler) → handler_at r n ≡ Some h → Begins n h
  begins n h e =
      let f = handler_well_formed code r n h well_formed_code e in
      let values = rules.values_of h in
      let t = four_hold (rules.context_there r h.context && list_all (rules.value_there r) values) (is_there r.lines h.pc) (where_there (line_at r h.pc) (rules.is_action_line r (length f.before)))
      (rules.may_undo r h && (list_all (rules.is_value_well_formed r) values && rules.are_new (rules.values_in h.context f.before) values)) rule.Range rule.Target rule.Context rule.Definition
      (clean_head _ [] f.clean) in
      let line = there_some (line_at r h.pc) t.1 in
      let is : rules.is_action_line r n line.0 ≡ true = ap (λ i. rules.is_action_line r i line.0) (sym f.long) ∙ where_some (line_at r h.pc) (rules.is_action_line r (length f.before)) line.0 t.2 line.1 in
      record {
        line = line.0;
        there = line.1;
        acts = and_first (rules.is_action_context n (context_at r.handlers line.0.context)) (not (is_some line.0.stack)) is;
        bare = not_some line.0.stack (and_second (rules.is_action_context n (context_at r.handlers line.0.context)) (not (is_some line.0.stack)) is);
      }

  -- the block that declares a handler
  pub blocks : (n : ℕ) (h : Handler) → handler_at r n ≡ Some h → (b : Block) × (block_at r h.context ≡ Some b)
  blocks n h e =
      let g = begins n h e in
      let c = action_context n (context_at r.handlers g.line.context) g.acts in
      let none : rules.context_fault r g.line.context c.0.parent (kinds.Action n) ≡ None = ap (rules.context_fault r g.line.context c.0.parent) (sym c.2) ∙ context_fault_none g.line.context c.0 c.1 in
      let t = two_hold (nat_lt c.0.parent g.line.context && is_there r.handlers.handlers n) (where_there (handler_at r n) (rules.is_parent r c.0.parent)) rule.Range rule.Context none in
      let is = where_some (handler_at r n) (rules.is_parent r c.0.parent) h t.1 e in
      let same : h.context ≡ c.0.parent = eqb-true h.context c.0.parent (and_first (nat_eq h.context c.0.parent) (there (block_at r c.0.parent)) is) in
      let b = there_some (block_at r c.0.parent) (and_second (nat_eq h.context c.0.parent) (there (block_at r c.0.parent)) is) in
      (b.0, ap (block_at r) same ∙ b.1)

  -- the line at which a block is left
  pub record Left (k : ℕ) (b : Block) : Type 0 where
    pub line : CodeLine
    pub there : line_at r b.exit ≡ Some line
    pub is : line.instruction ≡ instruction.Exit k
    pub same : line.context ≡ k

  pub left : (k : ℕ) (b : Block) → block_at r k ≡ Some b → Left k b
  left k b e =
      let c = block_context (context_at r.handlers k) b e in
      let none : rules.context_fault r k c.0.parent (kinds.Block b) ≡ None = ap (rules.context_fault r k c.0.parent) (sym c.2) ∙ context_fault_none k c.0 c.1 in
      let t = three_hold (nat_lt c.0.parent k && are_there r.cursors b.cursors) (is_there r.lines b.exit) (rules.is_exit_of k (line_at r b.exit)) rule.Range rule.Target rule.Context none in
      let line = there_some (line_at r b.exit) t.1 in
      let is = exit_is k line.0.instruction (ap (rules.is_exit_of k) (sym line.1) ∙ t.2) in
      let stands : rules.stands_well_formed r line.0 (instruction.Exit k) ≡ true = ap (rules.stands_well_formed r line.0) (sym is) ∙ (line_well_formed code r b.exit line.0 well_formed_code line.1).stands in
      record { line = line.0; there = line.1; is = is; same = eqb-true line.0.context k (and_second (there (block_at r k)) (nat_eq line.0.context k) stands) }
