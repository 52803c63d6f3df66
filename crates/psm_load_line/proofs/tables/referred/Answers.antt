use Rattle.std.proofs.Common.{◌≡◌, ℕ, List, Some, ap, codes, rules}
use Rattle.psm_words.specs.Reading.{after}
use Rattle.psm_load_line.specs.Forms.{index}
use Rattle.psm_load_line.specs.Readers.{some}
use Rattle.psm_load_line.specs.Said.{columns_of}
use Rattle.psm_load_line.proofs.Parted.{referred_read}
use Rattle.psm_load_line.proofs.tables.referred.Goals as goal

pub returns : goal.returns
returns c =
    let rest = c.in_ok-rest.rest.now in
    let following = c.in_ok-to.rest.now in
    let to = c.in_ok-to.to in
    let k : after (codes " TO") c.args.rest.now ≡ Some rest = search rules in
    let e : index rest ≡ Some (to, following) = search rules in
    let m : (x : ℕ × List ℕ) × (some index following ≡ Some x) × (c.in_ok-columns.field-0 ≡ columns_of x) = c.in_ok-columns.ensures in
    ((to, m.0), referred_read c.args.rest.now rest following to m.0 k e m.1, ap (λ cs. (to, cs)) m.2)
