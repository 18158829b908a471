use Rattle.std.proofs.Common.{◌∙◌, ℕ, refl, subst}
use Rattle.protocol.specs.Common.{State, load_passive, Holds}
use Rattle.passive_core.proofs.Passives.{ShowsRecord, load_ok, passive_shows, word_is}
use Rattle.std.proofs.Common.{[], ◌∷◌}
use Rattle.passive_core.specs.Types.{LoadRecord}
use Rattle.protocol.specs.declared.event.RecordOf.TheVariants.{Passive as OfPassive}
use Rattle.passive_core.proofs.Making.{makes_load}
use Rattle.passive_core.proofs.machine.Core.record_by_passive.Goals.{After-self}
use Rattle.passive_core.proofs.machine.Core.record_by_passive.Goals as goal

-- the words of the reference's entry
shown : (c : After-self) → ShowsRecord c.args.self.now c.args.number (load_passive c.args.self.now c.args.c c.args.number)
shown c = passive_shows c.args.self.now c.args.c c.args.number (subst Holds c.self.view_is c.self.invariant) c.requires.idle c.requires.held

pub load_word-kind-requires : goal.load_word-kind-requires
load_word-kind-requires c =
    load_ok c.args.self.now c.args.self.now c.args.number 1 (λ (x : State) (k : ℕ). load_passive x c.args.c c.args.number k) (shown (goal.at.load_word-kind-requires c).After-self) refl refl

pub load_word-high-requires : goal.load_word-high-requires
load_word-high-requires c = load_ok c.args.self.now c.load_word-kind.new.self c.args.number 2 (λ (x : State) (k : ℕ). load_passive x c.args.c c.args.number k)
    (shown (goal.at.load_word-high-requires c).After-self) c.load_word-kind.ensures.same refl

pub load_word-low-requires : goal.load_word-low-requires
load_word-low-requires c = load_ok c.args.self.now c.load_word-high.new.self c.args.number 3 (λ (x : State) (k : ℕ). load_passive x c.args.c c.args.number k)
    (shown (goal.at.load_word-low-requires c).After-self) (c.load_word-high.ensures.same ∙ c.load_word-kind.ensures.same) refl

pub load_word-value-requires : goal.load_word-value-requires
load_word-value-requires c = load_ok c.args.self.now c.load_word-low.new.self c.args.number 4 (λ (x : State) (k : ℕ). load_passive x c.args.c c.args.number k)
    (shown (goal.at.load_word-value-requires c).After-self) (c.load_word-low.ensures.same ∙ (c.load_word-high.ensures.same ∙ c.load_word-kind.ensures.same)) refl

pub returns-clause-record : goal.returns-clause-record
returns-clause-record c =
    let s = c.args.self.now in
    let load = λ (x : State) (k : ℕ). load_passive x c.args.c c.args.number k in
    let shows = shown (goal.at.returns-clause-record c).After-self in
    let first = c.load_word-kind.ensures.same in
    let second = c.load_word-high.ensures.same ∙ first in
    let third = c.load_word-low.ensures.same ∙ second in (
      shows.entry,
      shows.attached,
      shows.numbered,
      c.record_from.ensures shows.entry.rec
          (word_is s s c.args.number 1 c.load_word-kind.result load shows refl refl c.load_word-kind.ensures.word)
          (word_is s c.load_word-kind.new.self c.args.number 2 c.load_word-high.result load shows first refl c.load_word-high.ensures.word)
          (word_is s c.load_word-high.new.self c.args.number 3 c.load_word-low.result load shows second refl c.load_word-low.ensures.word)
          (word_is s c.load_word-low.new.self c.args.number 4 c.load_word-value.result load shows third refl c.load_word-value.ensures.word),
    )

pub returns-clause-made : goal.returns-clause-made
returns-clause-made c =
    makes_load c.args.self.now c.load_word-kind.new.self (OfPassive c.args.c c.args.number 1) c.load_word-kind.result
    (LoadRecord (OfPassive c.args.c c.args.number 2) ∷ LoadRecord (OfPassive c.args.c c.args.number 3) ∷ LoadRecord (OfPassive c.args.c c.args.number 4) ∷ []) c.load_word-value.new.self
    c.load_word-kind.ensures.word c.load_word-kind.ensures.same
    (makes_load c.load_word-kind.new.self c.load_word-high.new.self (OfPassive c.args.c c.args.number 2) c.load_word-high.result
    (LoadRecord (OfPassive c.args.c c.args.number 3) ∷ LoadRecord (OfPassive c.args.c c.args.number 4) ∷ []) c.load_word-value.new.self c.load_word-high.ensures.word c.load_word-high.ensures.same
    (makes_load c.load_word-high.new.self c.load_word-low.new.self (OfPassive c.args.c c.args.number 3) c.load_word-low.result
    (LoadRecord (OfPassive c.args.c c.args.number 4) ∷ []) c.load_word-value.new.self c.load_word-low.ensures.word c.load_word-low.ensures.same
    (makes_load c.load_word-low.new.self c.load_word-value.new.self (OfPassive c.args.c c.args.number 4) c.load_word-value.result
    ([]) c.load_word-value.new.self c.load_word-value.ensures.word c.load_word-value.ensures.same refl)))
