-- The contexts and handlers of well-formed code fit together, as the choice of a handler asks.
use Rattle.std.proofs.Common.{◌≡◌, ℕ, suc, true, ◌&&◌, nat_eq, nat_le, nat_lt, List, [], ◌∷◌, ◌++◌, length, refl, ap, ◌∙◌, Option, Some, None}
use Rattle.std.specs.Prelude.{slice_get}
use Rattle.std.specs.List.{list_all}
use Rattle.psm_num.proofs.Literals.{and_first, and_second}
use Rattle.psm_cond.specs.declared.handlers.ConditionValue.{ConditionValue}
use Rattle.psm_cond.specs.declared.handlers.ConditionValue.TheVariants.{Named, State, SqlException, SqlWarning, NotFound}
use Rattle.psm_cond.specs.declared.handlers.Context.{Context}
use Rattle.psm_cond.specs.declared.handlers.ContextKind.{ContextKind}
use Rattle.psm_cond.specs.declared.handlers.ContextKind.TheVariants as kinds
use Rattle.psm_cond.specs.declared.handlers.Handler.{Handler}
use Rattle.psm_cond.specs.Handlers.{context_at}
use Rattle.psm_cond.specs.WellFormed.{are_declared, are_well_formed_contexts, can_stand, is_block, is_block_kind, is_declared, is_numbered, is_of, is_well_formed_table, is_well_formed_context, is_well_formed_handler}
use Rattle.psm_exprcode.proofs.Standing.{both_true}
use Rattle.psm_code.specs.declared.code.RawCode.{RawCode}
use Rattle.psm_code.specs.declared.code.RawRoutine.{RawRoutine}
use Rattle.psm_code.specs.declared.rule.CodeRule.TheVariants as rule
use Rattle.psm_code.specs.Parts.{block_at, block_of_context, block_of_kind, handler_at, line_at}
use Rattle.psm_code.specs.RoutineRules as rules
use Rattle.psm_code.specs.RoutineRules.{context_fault, context_faults, handler_fault}
use Rattle.psm_code.specs.Rules.{each_after, is_there, there, where_there}
use Rattle.psm_code.specs.TableRules.{are_there}
use Rattle.psm_code.proofs.Faults.{clean_first, clean_head, clean_second, clean_tail, four_hold, three_hold, two_hold, Clean, WellFormedRoutineCode}
use Rattle.psm_code.proofs.Raises.{there_some, where_some}
use Rattle.psm_code.proofs.Guarantees.{there_below}

block_there : (o : Option Context) → there (block_of_context o) ≡ true → is_block o ≡ true
block_there None h = absurd (cc)
block_there (Some c) h = by c.kind h where
  by : (k : ContextKind) → there (block_of_kind k) ≡ true → is_block_kind k ≡ true
  by (kinds.Block b) h = refl
  by (kinds.Action n) h = absurd (cc)

of_parent : (o : Option Handler) (k : ℕ) (h : Handler) → o ≡ Some h → nat_eq h.context k ≡ true → is_of o k ≡ true
of_parent o k h e q = ap (λ o. is_of o k) e ∙ q

module _ (r : RawRoutine) where
  context_stands : (k parent : ℕ) (kind : ContextKind) → context_fault r k parent kind ≡ None → (nat_lt parent k && can_stand r.handlers parent kind) ≡ true
  context_stands k parent (kinds.Block b) e =
      let t = three_hold (nat_lt parent k && are_there r.cursors b.cursors) (is_there r.lines b.exit) (rules.is_exit_of k (line_at r b.exit)) rule.Range rule.Target rule.Context e in
      both_true (nat_lt parent k) true (and_first (nat_lt parent k) (are_there r.cursors b.cursors) t.0) refl
  context_stands k parent (kinds.Action n) e =
      let t = two_hold (nat_lt parent k && is_there r.handlers.handlers n) (where_there (handler_at r n) (rules.is_parent r parent)) rule.Range rule.Context e in
      let h = there_some (handler_at r n) (and_second (nat_lt parent k) (is_there r.handlers.handlers n) t.0) in
      let is = where_some (handler_at r n) (rules.is_parent r parent) h.0 t.1 h.1 in
      let of = of_parent (slice_get r.handlers.handlers n) parent h.0 h.1 (and_first (nat_eq h.0.context parent) (there (block_at r parent)) is) in
      let block = block_there (context_at r.handlers parent) (and_second (nat_eq h.0.context parent) (there (block_at r parent)) is) in
      both_true (nat_lt parent k) (can_stand r.handlers parent (kinds.Action n)) (and_first (nat_lt parent k) (is_there r.handlers.handlers n) t.0)
      (both_true (is_of (slice_get r.handlers.handlers n) parent) (is_block (context_at r.handlers parent)) of block)

  contexts_stand : (k : ℕ) (cs : List Context) → Clean (context_faults r k cs) → are_well_formed_contexts r.handlers k cs ≡ true
  contexts_stand k [] h = refl
  contexts_stand k (c ∷ cs) h =
      both_true (is_well_formed_context r.handlers k c) (are_well_formed_contexts r.handlers (suc k) cs) (context_stands k c.parent c.kind (clean_head (context_fault r k c.parent c.kind) (context_faults r (suc k) cs) h))
      (contexts_stand (suc k) cs (clean_tail (context_fault r k c.parent c.kind) (context_faults r (suc k) cs) h))

  value_declared : (v : ConditionValue) → rules.value_there r v ≡ true → is_declared r.handlers v ≡ true
  value_declared (Named n) h = there_below r.handlers.declared n h
  value_declared (State s) h = refl
  value_declared SqlException h = refl
  value_declared SqlWarning h = refl
  value_declared NotFound h = refl

  values_declared : (vs : List ConditionValue) → list_all (rules.value_there r) vs ≡ true → list_all (is_declared r.handlers) vs ≡ true
  values_declared [] h = refl
  values_declared (v ∷ vs) h =
      both_true (is_declared r.handlers v) (list_all (is_declared r.handlers) vs) (value_declared v (and_first (rules.value_there r v) (list_all (rules.value_there r) vs) h)) (values_declared vs (and_second (rules.value_there r v) (list_all (rules.value_there r) vs) h))

  handler_stands : (before : List Handler) (h : Handler) → Clean (handler_fault r before h) → is_well_formed_handler r.handlers h ≡ true
  handler_stands before h c =
      let values = rules.values_of h in
      let t = four_hold (rules.context_there r h.context && list_all (rules.value_there r) values) (is_there r.lines h.pc) (where_there (line_at r h.pc) (rules.is_action_line r (length before)))
      (rules.may_undo r h && (list_all (rules.is_value_well_formed r) values && rules.are_new (rules.values_in h.context before) values)) rule.Range rule.Target rule.Context rule.Definition (clean_head _ [] c) in
      both_true (nat_le h.context (length r.handlers.contexts)) (are_declared r.handlers h.values) (and_first (rules.context_there r h.context) (list_all (rules.value_there r) values) t.0)
      (values_declared values (and_second (rules.context_there r h.context) (list_all (rules.value_there r) values) t.0))

  handlers_stand : (before hs : List Handler) → Clean (each_after (handler_fault r) before hs) → list_all (is_well_formed_handler r.handlers) hs ≡ true
  handlers_stand before [] h = refl
  handlers_stand before (x ∷ hs) h =
      let rest = each_after (handler_fault r) (before ++ x ∷ []) hs in
      both_true (is_well_formed_handler r.handlers x) (list_all (is_well_formed_handler r.handlers) hs) (handler_stands before x (clean_first (handler_fault r before x) rest h)) (handlers_stand (before ++ x ∷ []) hs (clean_second (handler_fault r before x) rest h))

-- the contexts and handlers of a routine of well-formed code fit together, where 32 bits are enough to number them
pub table_stands : (code : RawCode) (r : RawRoutine) → WellFormedRoutineCode code r → is_numbered r.handlers ≡ true → is_well_formed_table r.handlers ≡ true
table_stands code r g n =
    let contexts = contexts_stand r 1 r.handlers.contexts g.contexts in
    both_true (is_numbered r.handlers && are_well_formed_contexts r.handlers 1 r.handlers.contexts) (list_all (is_well_formed_handler r.handlers) r.handlers.handlers)
    (both_true (is_numbered r.handlers) (are_well_formed_contexts r.handlers 1 r.handlers.contexts) n contexts) (handlers_stand r [] r.handlers.handlers g.handlers)
