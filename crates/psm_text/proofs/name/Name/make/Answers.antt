use Rattle.std.proofs.Common.{encode_utf8_all, ap, ◌∙◌}
use Rattle.std.specs.Str.{chars}
use Rattle.std.proofs.lemmas.Str.{encodes-chars}
use Rattle.psm_text.proofs.name.Name.make.Goals as goal

pub returns-in_ok-from_str-in-1-to-128-clause-spelled :
    goal.returns-in_ok-from_str-in-1-to-128-clause-spelled
returns-in_ok-from_str-in-1-to-128-clause-spelled c =
    ap (λ bytes. encode_utf8_all (chars bytes)) c.in_ok-from_str-in-1-to-128.ensures.ok ∙ encodes-chars c.args.s.now c.utf8.s
