use Rattle.std.proofs.Common.{[], ◌∷◌}
use Rattle.protocol.specs.Common.{row_at, with_word}
use Rattle.registry_values.specs.Common.{kind_word}
use Rattle.passive_core.specs.Types.{StoreSlot}
use Rattle.passive_core.proofs.Attaching.{row_first, row_next}
use Rattle.passive_core.proofs.Making.{makes_more}
use Rattle.passive_core.proofs.machine.Core.store_record_words.Goals as goal

pub returns-clause-after : goal.returns-clause-after
returns-clause-after c =
    let s = c.args.self.now in
    let e = c.args.entry.now in
    let r0 = row_at s.rows e.slot in
    let r1 = with_word r0 0 e.number in
    let r2 = with_word r1 1 (kind_word e.rec.kind) in
    let r3 = with_word r2 2 e.rec.name.high in
    let r4 = with_word r3 3 e.rec.name.low in
    let s1 = row_next s s c.store_word.new.self e.slot 0 e.number r0 (row_first s e.slot) c.store_word.ensures.after in
    let s2 = row_next s c.store_word.new.self c.store_word-2.new.self e.slot 1 (kind_word e.rec.kind) r1 s1 (rw (← c.kind_word.ensures) c.store_word-2.ensures.after) in
    let s3 = row_next s c.store_word-2.new.self c.store_word-3.new.self e.slot 2 e.rec.name.high r2 s2 (rw (← c.words-high.ensures.high) c.store_word-3.ensures.after) in
    let s4 = row_next s c.store_word-3.new.self c.store_word-4.new.self e.slot 3 e.rec.name.low r3 s3 (rw (← c.words-high.ensures.low) c.store_word-4.ensures.after) in
    row_next s c.store_word-4.new.self c.store_word-5.new.self e.slot 4 e.rec.value r4 s4 c.store_word-5.ensures.after

pub returns-clause-made : goal.returns-clause-made
returns-clause-made c =
    let s0 = c.args.self.now in
    let e = c.args.entry.now in
    let s1 = c.store_word.new.self in
    let s2 = c.store_word-2.new.self in
    let s3 = c.store_word-3.new.self in
    let s4 = c.store_word-4.new.self in
    let s5 = c.store_word-5.new.self in
    let number = StoreSlot e.slot 0 e.number in
    let kind = StoreSlot e.slot 1 (kind_word e.rec.kind) in
    let high = StoreSlot e.slot 2 e.rec.name.high in
    let low = StoreSlot e.slot 3 e.rec.name.low in
    let value = StoreSlot e.slot 4 e.rec.value in
    makes_more s0 s1 s5 (number ∷ []) (kind ∷ high ∷ low ∷ value ∷ []) c.store_word.ensures.made
    (makes_more s1 s2 s5 (kind ∷ []) (high ∷ low ∷ value ∷ []) (rw (← c.kind_word.ensures) c.store_word-2.ensures.made)
    (makes_more s2 s3 s5 (high ∷ []) (low ∷ value ∷ []) (rw (← c.words-high.ensures.high) c.store_word-3.ensures.made)
    (makes_more s3 s4 s5 (low ∷ []) (value ∷ []) (rw (← c.words-high.ensures.low) c.store_word-4.ensures.made) c.store_word-5.ensures.made)))
