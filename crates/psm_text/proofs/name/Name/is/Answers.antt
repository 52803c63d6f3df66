use Rattle.std.specs.String.{string_bytes}
use Rattle.psm_text.proofs.Spellings.{same_names}
use Rattle.psm_text.proofs.name.Name.is.Goals as goal

pub returns : goal.returns
returns c =
    same_names c.as_str.result.now c.as_str-2.result.now (string_bytes c.self.inside.spelled) (string_bytes c.other.inside.spelled)
    c.args.self.now c.args.other.now c.eq.result c.as_str.utf8 c.as_str-2.utf8 c.as_str.ensures.value c.as_str-2.ensures.value
    c.self.view_is c.other.view_is c.eq.ensures
