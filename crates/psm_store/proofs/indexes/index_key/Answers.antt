use Rattle.std.proofs.Common.{◌<◌, length, arith}
use Rattle.psm_store.proofs.Indexed.{contents-kept, no-rows}
use Rattle.psm_store.proofs.indexes.index_key.Goals as goal

pub index-requires : goal.index-requires
index-requires c =
    let inside : c.args.key.now.from < length c.args.tables.now.items = omega (arith, c.if-from-len.true, c.len.ensures, c.args.tables.now.ok.0) in record {
      empty = no-rows c.args.tables.now.items c.args.key.now.from c.index_mut.result.now inside c.index_mut.ensures.value c.requires.empty;
    }

pub returns-in_err-index-clause-contents : goal.returns-in_err-index-clause-contents
returns-in_err-index-clause-contents c =
    let inside : c.args.key.now.from < length c.args.tables.now.items = omega (arith, c.if-from-len.true, c.len.ensures, c.args.tables.now.ok.0) in
    contents-kept c.args.tables.now.items c.args.key.now.from c.index_mut.result.now c.index.new.self inside c.index_mut.ensures.value c.index.ensures.contents

pub returns-in_ok-index-clause-contents : goal.returns-in_ok-index-clause-contents
returns-in_ok-index-clause-contents c =
    let inside : c.args.key.now.from < length c.args.tables.now.items = omega (arith, c.if-from-len.true, c.len.ensures, c.args.tables.now.ok.0) in
    contents-kept c.args.tables.now.items c.args.key.now.from c.index_mut.result.now c.index.new.self inside c.index_mut.ensures.value c.index.ensures.contents
