use Rattle.std.proofs.Common.{◌≡◌, ◌<◌, List, length, get_or, ◌∙◌, ap, arith}
use Rattle.psm_table.specs.State.{State}
use Rattle.psm_store.specs.Kept.{contents_of}
use Rattle.psm_store.proofs.Seen.{seen-more}
use Rattle.psm_store.proofs.tables.Tables.copy.Goals as goal

pub loop-table-preserved : goal.loop-table-preserved
loop-table-preserved c =
    let inside : c.loop-table.table-index < length c.self.inside.tables.items = omega (arith, c.loop-table-test.true, ap length c.deref-table-items.ensures.value) in
    let at : c.table-item.result ≡ get_or c.self.inside.tables.items c.loop-table.table-index c.table-item.result =
    c.table-item.is ∙ ap (λ (l : List State). get_or l c.loop-table.table-index c.table-item.result) c.deref-table-items.ensures.value in
    ap contents_of c.in_ok-push.ensures.items
    ∙ seen-more c.loop-table.tables.items c.self.inside.tables.items c.args.self.now c.loop-table.table-index c.in_ok-copy.field-0 c.table-item.result
    c.self.view_is c.loop-table.invariant inside at c.in_ok-copy.ensures
