use Rattle.std.proofs.Common.{◌++◌, ◌∙◌, List, ℕ, ap, append_assoc, codes}
use Rattle.psm_object.specs.Tables.{referred_words}
use Rattle.psm_object.specs.Words.{further, numbers}
use Rattle.psm_object.proofs.Pieces.{line_start}
use Rattle.psm_object.proofs.references.put_reference.Goals as goal

pub returns : goal.returns
returns c =
    let key = c.args.key.now in
    let o : List ℕ = c.args.out.now.items in
    let columns : List ℕ = further (numbers key.columns) in
    line_start c.put_referred.result o c.put_indices.new.out.items c.put_referred.new.out.items (codes "REF") (numbers key.columns) (referred_words key)
    (c.in_ok-put_indices.ensures ∙ ap (λ ns. c.extend_from_slice.new.self.items ++ further (numbers ns)) c.items.ensures ∙ ap (λ t. t ++ columns) c.in_ok-extend_from_slice.ensures.items ∙ append_assoc o (codes "REF") columns)
    c.put_referred.ensures
