use Rattle.std.proofs.Common.{rules, ◌≡◌, ◌∙◌, sym, ap, inl, inr, None, Some, Err}
use Rattle.psm_io.specs.Failures.{times}
use Rattle.psm_io.specs.MemShelf.{at_most_of, found_next}
use Rattle.psm_io.proofs.Held.{held_other}
use Rattle.psm_io.proofs.mem_shelf.MemShelfShelf.fetch.Goals as goal

pub returns-in-None-clause-others : goal.returns-in-None-clause-others
returns-in-None-clause-others c = λ n other. c.keep.ensures.others n other ∙ ap (λ s. times n s.failed) c.self.view_is

pub returns-in-None-clause-expected : goal.returns-in-None-clause-expected
returns-in-None-clause-expected c =
    let nothing : found_next c.args.self.now c.args.name.now ≡ None = search rules in
    elim c.keep.ensures.fault [ inl failed ↦ inl (ap Err failed ∙ sym (ap (at_most_of c.args.most) nothing)) | inr memory ↦ inr (ap Err memory) ]

pub returns-in-None-clause-no_rise : goal.returns-in-None-clause-no_rise
returns-in-None-clause-no_rise c = λ none n held.
    let nothing : found_next c.args.self.now c.args.name.now ≡ None = search rules in
    returns-in-None-clause-others c n (held_other c.args.self.now c.args.name.now n nothing none held)

pub returns-in-Some-clause-expected : goal.returns-in-Some-clause-expected
returns-in-Some-clause-expected c =
    let found : found_next c.args.self.now c.args.name.now ≡ Some c.in-Some.bytes.now = search rules in
    elim c.copy_at_most.ensures [ inl copied ↦ inl (copied ∙ sym (ap (at_most_of c.args.most) found)) | inr memory ↦ inr memory ]
