use Rattle.std.proofs.Common.{◌∙◌, ap}
use Rattle.psm_store.specs.Kept.{Kept}
use Rattle.psm_store.specs.Marks.{defs_of}
use Rattle.psm_store.proofs.Marked.{rows_kept}
use Rattle.psm_store.proofs.copy_store.CopyStoreStore.erase.Goals as goal

pub invariant_of-self-2 : goal.invariant_of-self-2
invariant_of-self-2 c =
    rows_kept c.self.inside.tables c.erase.new.self c.self.inside.copies c.keep.new.copies c.self.inside.uncopied c.keep.new.uncopied
    c.self.invariant c.erase.ensures.defs c.in_ok-keep.ensures.all_copied c.in_ok-keep.ensures.copies

pub returns-clause-defs : goal.returns-clause-defs
returns-clause-defs c = c.erase.ensures.defs ∙ ap (λ (s : Kept). defs_of s.tables) c.self.view_is
