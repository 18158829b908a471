-- Four loads give the record of the entry that the CPU refers to.
use Rattle.std.proofs.Common.{◌∙◌, ap, refl}
use Rattle.passive_list.specs.Common.{OnPlainCpu}
use Rattle.passive_ref.proofs.Changing.{after_word, all_loaded, word_is}
use Rattle.passive_ref.proofs.reading.load_record.Goals as goal

pub returns-clause-record : goal.returns-clause-record
returns-clause-record c =
    let a = c.args.cpu.now.cpu in
    let b0 = c.load_word-kind.new.cpu.cpu in
    let b1 = c.load_word-high.new.cpu.cpu in
    let b2 = c.load_word-low.new.cpu.cpu in
    let held = c.requires.held in
    let e = held.entry in
    let t = c.args.slot in
    let n = c.args.number in
    let first = ap (λ (o : OnPlainCpu). o.cpu.view) c.load_word-kind.ensures.log in
    let second = ap (λ (o : OnPlainCpu). o.cpu.view) c.load_word-high.ensures.log ∙ first in
    let third = ap (λ (o : OnPlainCpu). o.cpu.view) c.load_word-low.ensures.log ∙ second in
    let kind = word_is a.view a.view t n 1 c.load_word-kind.result held refl c.load_word-kind.ensures.word in
    let high = word_is a.view b0.view t n 2 c.load_word-high.result held first c.load_word-high.ensures.word in
    let low = word_is a.view b1.view t n 3 c.load_word-low.result held second c.load_word-low.ensures.word in
    let value = word_is a.view b2.view t n 4 c.load_word-value.result held third c.load_word-value.ensures.word in
    let loaded = all_loaded a b0 b1 b2 c.load_word-value.new.cpu.cpu e
    (after_word a b0 e n 1 _ (ap (λ (o : OnPlainCpu). o.cpu) c.load_word-kind.ensures.log) held.at.number kind)
    (after_word b0 b1 e n 2 _ (ap (λ (o : OnPlainCpu). o.cpu) c.load_word-high.ensures.log) held.at.number high)
    (after_word b1 b2 e n 3 _ (ap (λ (o : OnPlainCpu). o.cpu) c.load_word-low.ensures.log) held.at.number low)
    (after_word b2 c.load_word-value.new.cpu.cpu e n 4 _ (ap (λ (o : OnPlainCpu). o.cpu) c.load_word-value.ensures.log) held.at.number value) in
    (e, (record { held = held.held; attached = held.attached; number = held.at.number }, loaded), c.record_from.ensures e.rec kind high low value)
