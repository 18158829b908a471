use Rattle.protocol.specs.Common.{row_at, with_word}
use Rattle.registry_values.specs.Common.{kind_word}
use Rattle.passive_list.proofs.Preparing.{row_next}
use Rattle.passive_list.proofs.publishing.store_row.Goals as goal

pub returns-clause-row : goal.returns-clause-row
returns-clause-row c =
    let k = c.args.seat.now.view in
    let e = c.args.entry.now in
    let t = e.slot in
    let r1 = with_word (row_at k.rows t) 0 e.number in
    let r2 = with_word r1 1 (kind_word e.rec.kind) in
    let r3 = with_word r2 2 e.rec.name.high in
    let r4 = with_word r3 3 e.rec.name.low in
    let l1 = c.store_record.new.keeper.view in
    let l2 = c.store_record-2.new.keeper.view in
    let l3 = c.store_record-3.new.keeper.view in
    let l4 = c.store_record-4.new.keeper.view in
    let s2 = row_next k l1 l2 t 1 (kind_word e.rec.kind) r1 c.store_record.ensures.change (rw (← c.kind_word.ensures) c.store_record-2.ensures.change) in
    let s3 = row_next k l2 l3 t 2 e.rec.name.high r2 s2 (rw (← c.words-high.ensures.high) c.store_record-3.ensures.change) in
    let s4 = row_next k l3 l4 t 3 e.rec.name.low r3 s3 (rw (← c.words-high.ensures.low) c.store_record-4.ensures.change) in
    row_next k l4 c.store_record-5.new.keeper.view t 4 e.rec.value r4 s4 c.store_record-5.ensures.change
