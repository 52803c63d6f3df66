use Rattle.std.proofs.Common.{◌≡◌, ◌<◌, ◌^◌, suc, [], ◌∷◌, ◌++◌, List, length, map, cond, sym, ap, ◌∙◌, subst, arith}
use Rattle.std.specs.Prelude.{Some}
use Rattle.std.specs.Map.{lookup}
use Rattle.psm_scope.specs.declared.signatures.Function.{Function}
use Rattle.psm_scope.specs.Blocks.{IsGroup}
use Rattle.psm_scope.specs.Choice.{Candidate}
use Rattle.psm_scope.specs.Exact.{one_more}
use Rattle.psm_scope.specs.Keys.{same_call, same_function}
use Rattle.psm_scope.specs.Signatures.{IsFound, IsGrouped, called, signature_of}
use Rattle.psm_scope.proofs.Found.{found_more, length_last, length_map}
use Rattle.psm_scope.proofs.Grouped.{grouped_more, grouped_same}
use Rattle.psm_scope.proofs.signatures.Signatures.push.Goals as goal

pub add-requires : goal.add-requires
add-requires c =
    let fs : List Function = c.self.inside.functions.items in
    let key = c.call_key-call.result in
    let cs : List Candidate = called 0 key.name.name.now key.count (map signature_of fs) in
    let count : key.count ≡ length c.items-3.result.now = c.call_key-call.ensures.count ∙ ap length (c.items.ensures ∙ sym c.items-3.ensures) in
    (cs, subst (λ n. IsGroup n cs (lookup (same_call key) c.self.inside.index.groups.entries)) count (c.self.invariant.1 key))

pub invariant_of-self-in_err-add : goal.invariant_of-self-in_err-add
invariant_of-self-in_err-add c =
    let fs : List Function = c.self.inside.functions.items in
    let key = c.call_key-call.result in
    let count : key.count ≡ length c.items-3.result.now = c.call_key-call.ensures.count ∙ ap length (c.items.ensures ∙ sym c.items-3.ensures) in
    let before = c.self.inside.index.groups.entries in
    let after = c.add.new.self.groups.entries in
    let kept : c.reserve.new.self.items ≡ fs = grind arith in (
      subst (λ (l : List Function). length l < 2 ^ 32) (sym kept) c.self.invariant.0,
      subst (λ (l : List Function). IsGrouped l after) (sym kept)
          (grouped_same fs before after key c.self.invariant.1 c.in_err-add.ensures.others
          (λ cs has. subst (λ n. IsGroup n cs (lookup (same_call key) after)) (sym count)
          (c.in_err-add.ensures.group_stays cs (subst (λ n. IsGroup n cs (lookup (same_call key) before)) count has)))),
      subst (λ (l : List Function). IsFound l c.add.new.self.exact.entries) (sym kept) (subst (λ es. IsFound fs es) (sym c.in_err-add.ensures.exact_stays) c.self.invariant.2),
    )

pub invariant_of-self-2 : goal.invariant_of-self-2
invariant_of-self-2 c =
    let fs : List Function = c.self.inside.functions.items in
    let f : Function = record { name = c.args.name; kinds = c.args.kinds } in
    let key = c.call_key-call.result in
    let function = c.in_ok-function.function in
    let before = c.self.inside.index.groups.entries in
    let after = c.add.new.self.groups.entries in
    let items : c.push.new.self.items ≡ fs ++ f ∷ [] = grind arith in
    let number : c.len-number.result ≡ length fs = c.len-number.ensures ∙ ap length (sym c.self.view_is) ∙ length_map signature_of fs in
    let few : suc (length fs) < 2 ^ 32 = grind (arith, number) in
    let longer : length (fs ++ f ∷ []) ≡ suc (length fs) = length_last fs f in
    let count : key.count ≡ length c.items-3.result.now = c.call_key-call.ensures.count ∙ ap length (c.items.ensures ∙ sym c.items-3.ensures) in (
      subst (λ (l : List Function). length l < 2 ^ 32) (sym items) (omega (arith, few, longer)),
      subst (λ (l : List Function). IsGrouped l after) (sym items)
          (grouped_more fs before after key c.self.invariant.1 c.in_ok-add.ensures.others f (ap (λ n. n.now) c.call_key-call.ensures.name)
          (c.call_key-call.ensures.count ∙ ap length c.items.ensures)
          (λ cs has. subst (λ n. IsGroup n (cs ++ (length fs, f.kinds) ∷ []) (lookup (same_call key) after)) (sym count)
          (subst (λ (one : Candidate). IsGroup (length c.items-3.result.now) (cs ++ one ∷ []) (lookup (same_call key) after)) (λ i. (number i, c.items-3.ensures i))
          (c.in_ok-add.ensures.group cs (subst (λ n. IsGroup n cs (lookup (same_call key) before)) count has))))),
      subst (λ (l : List Function). IsFound l c.add.new.self.exact.entries) (sym items)
          (found_more fs c.self.inside.index.exact.entries c.add.new.self.exact.entries function f c.self.invariant.2 c.in_ok-function.ensures.name
          (c.in_ok-function.ensures.kinds ∙ c.items-2.ensures)
          (λ q. c.in_ok-add.ensures.exact q
          ∙ ap (λ n. cond (same_function function q) (Some (one_more n (lookup (same_function function) c.self.inside.index.exact.entries))) (lookup (same_function q) c.self.inside.index.exact.entries)) number)),
    )
