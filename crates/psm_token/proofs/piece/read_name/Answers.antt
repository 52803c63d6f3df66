use Rattle.std.proofs.Common.{◌≡◌, ◌∙◌, sym, ap, subst, take, arith, List, ℕ}
use Rattle.std.specs.Str.{chars}
use Rattle.psm_token.specs.Forms.{folded, IsWord}
use Rattle.psm_token.proofs.Runs.{name_text, name_size}
use Rattle.psm_token.proofs.piece.read_name.Goals as goal
use Rattle.psm_token.proofs.piece.read_name.Goals.{After-as_str}

spelled : (c : After-as_str) → c.as_str.result.now ≡ folded (take c.run-size.result.0 (chars c.args.rest.now))
spelled c = name_text c.as_str.result.now (chars c.args.rest.now) c.run-size.result.0 c.as_str.utf8 c.run-size.ensures.count (ap chars c.as_str.ensures.value ∙ c.in_ok-text.ensures)

pub word_or_name-requires-clause-ascii : goal.word_or_name-requires-clause-ascii
word_or_name-requires-clause-ascii c = ap chars c.as_str.ensures.value ∙ c.in_ok-text.ensures ∙ sym (spelled c)

pub word_or_name-requires-clause-some : goal.word_or_name-requires-clause-some
word_or_name-requires-clause-some c = omega (arith, name_size c.as_str.result.now (chars c.args.rest.now) c.run-size.result.0 c.run-size.ensures.count (spelled c), c.run-size.ensures.count, c.requires)

pub word_or_name-requires-clause-limit : goal.word_or_name-requires-clause-limit
word_or_name-requires-clause-limit c = omega (arith, name_size c.as_str.result.now (chars c.args.rest.now) c.run-size.result.0 c.run-size.ensures.count (spelled c), c.if-size-gt-MOST_IN_NAME.false)

pub returns : goal.returns
returns c = record {
  size = c.run-size.ensures.count;
  limit = omega (arith, c.if-size-gt-MOST_IN_NAME.false);
  value = subst (λ (w : List ℕ). IsWord w c.in_ok-token.token)
      (name_text c.as_str.result.now (chars c.args.rest.now) c.run-size.result.0 c.as_str.utf8 c.run-size.ensures.count (ap chars c.as_str.ensures.value ∙ c.in_ok-text.ensures))
      c.in_ok-token.ensures;
}
