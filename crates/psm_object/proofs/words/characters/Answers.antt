use Rattle.std.proofs.Common.{◌≡◌, ℕ, List, IfOk, subst, rules}
use Rattle.std.proofs.lemmas.Str.{chars_from_encodes}
use Rattle.psm_object.proofs.Characters.{named_chars}
use Rattle.psm_object.proofs.words.characters.Goals as goal

pub returns : goal.returns
returns c = subst (λ (cs : List ℕ). IfOk c.collect.result (λ v. v.items ≡ cs)) (named_chars c.args.name.now c.as_str.result.now c.as_str.ensures.spelled c.as_str.utf8) (search (rules, chars_from_encodes))
