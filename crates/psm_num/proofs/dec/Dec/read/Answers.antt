use Rattle.std.proofs.Common.{◌≡◌, ◌∙◌, sym, ap}
use Rattle.psm_num.specs.Split.{number_of}
use Rattle.psm_num.proofs.Literals.{number_of-ok, number_of-range, number_of-none, number_of-spelled}
use Rattle.psm_num.proofs.dec.Dec.read.Goals as goal

pub returns-clause-ok : goal.returns-clause-ok
returns-clause-ok c =
    let is : c.read_bytes.result ≡ number_of c.args.text.now = c.read_bytes.ensures ∙ ap number_of c.as_bytes.ensures.value in
    rw is (number_of-ok c.args.text.now)

pub returns-clause-range : goal.returns-clause-range
returns-clause-range c e =
    let is : c.read_bytes.result ≡ number_of c.args.text.now = c.read_bytes.ensures ∙ ap number_of c.as_bytes.ensures.value in
    number_of-range c.args.text.now (sym is ∙ e)

pub returns-clause-not_number : goal.returns-clause-not_number
returns-clause-not_number c e =
    let is : c.read_bytes.result ≡ number_of c.args.text.now = c.read_bytes.ensures ∙ ap number_of c.as_bytes.ensures.value in
    number_of-none c.args.text.now (sym is ∙ e)

pub returns-clause-exact : goal.returns-clause-exact
returns-clause-exact c l s =
    let is : c.read_bytes.result ≡ number_of c.args.text.now = c.read_bytes.ensures ∙ ap number_of c.as_bytes.ensures.value in
    is ∙ number_of-spelled c.args.text.now l s
