use Rattle.std.proofs.Common.{◌≡◌, ◌∙◌, sym, ap, refl, ℕ, List, nat_eq, Bool, Some, option_map, true, false}
use Rattle.std.specs.Cmp.Lexicographic.{pointwise}
use Rattle.psm_io.specs.MemShelf.{file_of}
use Rattle.psm_io.proofs.Found.{found_from-hit, found_from-miss, found_from-end}
use Rattle.psm_io.proofs.mem_shelf.find.Goals as goal

abbrev is_named : List ℕ → List ℕ × List ℕ → Bool
is_named name file = pointwise nat_eq file.0 name

pub loop-file-init : goal.loop-file-init
loop-file-init c = refl

pub loop-file-preserved : goal.loop-file-preserved
loop-file-preserved c =
    let other : is_named c.args.name.now (file_of c.file-item.result) ≡ false =
    ap (λ b. pointwise nat_eq b c.args.name.now) (sym c.as_str.ensures.value) ∙ sym c.eq.ensures ∙ c.if-eq.false in
    sym (found_from-miss file_of (is_named c.args.name.now) c.args.files.now c.loop-file.file-index c.file-item.result c.loop-file-test.true c.file-item.is other)
    ∙ c.loop-file.invariant

pub returns-then-eq : goal.returns-then-eq
returns-then-eq c =
    let same : is_named c.args.name.now (file_of c.file-item.result) ≡ true =
    ap (λ b. pointwise nat_eq b c.args.name.now) (sym c.as_str.ensures.value) ∙ sym c.eq.ensures ∙ c.if-eq.true in
    ap Some c.as_slice.ensures.value ∙ ap (option_map (λ f. f.1))
    (sym (found_from-hit file_of (is_named c.args.name.now) c.args.files.now c.loop-file.file-index c.file-item.result c.loop-file-test.true c.file-item.is same)
    ∙ c.loop-file.invariant)

pub returns : goal.returns
returns c = ap (option_map (λ f. f.1))
    (sym (found_from-end file_of (is_named c.args.name.now) c.args.files.now c.loop-file.file-index c.loop-file-test.false) ∙ c.loop-file.invariant)
