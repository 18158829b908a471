-- What the section found is an entry of the pass, and is remembered. So is a miss.
use Rattle.std.proofs.Common.{Option, ap, not, subst, sym, ◌∙◌}
use Rattle.cpu_words.specs.Common.{key_with}
use Rattle.passive_list.specs.Common.{HasFoundFromOutside, OnCpu, WasAbsent, entry_seen, Seen}
use Rattle.passive_list.proofs.ByMemory.{found_seen, nothing, section_absent, section_missed, section_unmissed, something}
use Rattle.passive_list.proofs.remembering.find_in_section.Goals.{else-number-ne0-via-then-number-ne0+else-is_none, else-number-ne0-via-else-number-ne0}
use Rattle.passive_list.proofs.remembering.find_in_section.Goals as goal

pub remember_on-requires : goal.remember_on-requires
remember_on-requires c =
    found_seen (key_with c.args.kind c.args.name) c.args.cpu.now _ _ c.find_from_outside-answer.ensures.found c.requires.outside c.find_from_outside-answer.ensures.words c.find_from_outside-answer.ensures.slot

pub miss_on-requires : goal.miss_on-requires
miss_on-requires c =
    let key = key_with c.args.kind c.args.name in
    let a = c.args.cpu.now.cpu in
    let left = c.find_from_outside-answer.new.cpu.cpu in
    let none = nothing _ (c.is_none.ensures ∙ ap not c.if-is_none.true) in
    let missed = subst (λ (o : Option Seen). HasFoundFromOutside key a left (entry_seen key o)) none c.find_from_outside-answer.ensures.found in
    subst (λ (x : OnCpu). WasAbsent x.view.pass key c.args.number) (sym c.remember_on.ensures.cpu)
    (section_absent key c.args.number a left missed c.requires.outside (c.requires.newest c.if-number-ne0.true))

pub returns-then-is_none-clause-found : goal.returns-then-is_none-clause-found
returns-then-is_none-clause-found c =
    section_missed (key_with c.args.kind c.args.name) c.args.number c.args.cpu.now.cpu _ _ _ _ c.find_from_outside-answer.ensures.found c.remember_on.ensures.cpu c.remember_on.ensures.remembers
    c.remember_on.ensures.missed (nothing _ (c.is_none.ensures ∙ ap not c.if-is_none.true)) c.if-number-ne0.true c.miss_on.ensures.cpu

pub returns-else-number-ne0-clause-found : goal.returns-else-number-ne0-clause-found
returns-else-number-ne0-clause-found c =
    section_unmissed (key_with c.args.kind c.args.name) c.args.number c.args.cpu.now.cpu _ _ _ c.find_from_outside-answer.ensures.found c.remember_on.ensures.cpu c.remember_on.ensures.remembers
    c.remember_on.ensures.missed (elim c.else-number-ne0.branch [
      | else-number-ne0-via-then-number-ne0+else-is_none w ↦ λ none. absurd (something c.find_from_outside-answer.result (w.is_none.ensures ∙ ap not w.if-is_none.false) none)
      | else-number-ne0-via-else-number-ne0 w ↦ λ none. w.if-number-ne0.false
    ])
