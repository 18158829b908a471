-- Where the name's last miss is of the newest live entry, it is a miss still.
use Rattle.std.proofs.Common.{arith, sym, ◌∙◌}
use Rattle.std.proofs.lemmas.Bool.{false≢true}
use Rattle.cpu_words.specs.Common.{key_with}
use Rattle.passive_list.proofs.ByMemory.{absent_anew, section_anew}
use Rattle.passive_list.proofs.remembering.find_anew.Goals as goal

pub returns-then-is_of-clause-found : goal.returns-then-is_of-clause-found
returns-then-is_of-clause-found c =
    let few = c.recall_head_on-head.ensures.few in
    absent_anew (key_with c.args.kind c.args.name) _ _ _ _ _ _ _ c.recall_head_on-head.ensures.recalled (omega (arith, c.if-head-eq0.false, few.0)) c.recall_word-number.ensures.recalled
    c.last_miss-miss.ensures.is c.last_miss-miss.ensures.so (c.is_of.ensures.0 c.if-is_of.true)

pub returns-clause-found : goal.returns-clause-found
returns-clause-found c =
    let few = c.recall_head_on-head.ensures.few in
    section_anew (key_with c.args.kind c.args.name) _ _ _ _ _ _ _ _ _ c.recall_head_on-head.ensures.recalled (omega (arith, c.if-head-eq0.false, few.0)) c.recall_word-number.ensures.recalled
    c.last_miss-miss.ensures.is (λ miss. absurd (false≢true (sym c.if-is_of.false ∙ c.is_of.ensures.1 miss))) c.find_in_section.ensures.found
