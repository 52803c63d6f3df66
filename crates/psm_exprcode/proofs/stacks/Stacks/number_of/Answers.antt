use Rattle.std.proofs.Common.{◌≡◌, ◌<◌, ◌++◌, ◌-◌, ℕ, length, take, drop}
use Rattle.std.specs.Prelude.{reverse}
use Rattle.std.proofs.lemmas.List.{take_rest}
use Rattle.std.proofs.lemmas.Result.{IfOk-weaker}
use Rattle.psm_exprcode.specs.Stacks.{stack_at}
use Rattle.psm_exprcode.proofs.Sharing.{shared_put}
use Rattle.psm_exprcode.proofs.stacks.Stacks.number_of.Goals as goal

pub returns-clause-number : goal.returns-clause-number
returns-clause-number c =
    let put = take (length c.args.letters.now - c.shared-shared.result.1) (drop c.shared-shared.result.1 c.args.letters.now) in
    let P : ℕ → Type 0 = λ n. (n < length c.put_all.new.self) × (stack_at c.put_all.new.self n ≡ reverse put ++ stack_at c.args.self.now c.shared-shared.result.0) in
    let Q : ℕ → Type 0 = λ n. (n < length c.put_all.new.self) × (stack_at c.put_all.new.self n ≡ reverse c.args.letters.now) in
    IfOk-weaker c.put_all.result P Q (λ n h. (
      h.0,
      shared_put c.args.self.now c.put_all.new.self c.args.letters.now put c.shared-shared.result.0 c.shared-shared.result.1 n c.shared-shared.ensures.same (take_rest c.args.letters.now c.shared-shared.result.1) h.1,
    )) c.put_all.ensures.number
