use Rattle.std.proofs.Common.{◌≡◌, ◌∙◌, ℕ, Option, Some, refl, subst, sym}
use Rattle.protocol.specs.Common.{State, load_local, Holds}
use Rattle.passive_core.proofs.Locals.{local_shows}
use Rattle.passive_core.proofs.Passives.{ShowsRecord, load_ok, word_is}
use Rattle.std.proofs.Common.{[], ◌∷◌}
use Rattle.passive_core.specs.Types.{LoadRecord}
use Rattle.protocol.specs.declared.event.RecordOf.TheVariants.{Local as OfLocal}
use Rattle.passive_core.proofs.Making.{makes_load}
use Rattle.passive_core.proofs.machine.Core.record_by_local.Goals.{After-number-number}
use Rattle.passive_core.proofs.machine.Core.record_by_local.Goals as goal

-- the words of the reference's entry
shown : (c : After-number-number) → ShowsRecord c.args.self.now c.number-number.result (load_local c.args.self.now c.args.id)
shown c = local_shows c.args.self.now c.args.id c.number-number.result (subst Holds c.self.view_is c.self.invariant) c.number-number.ensures

pub load_word-kind-requires : goal.load_word-kind-requires
load_word-kind-requires c =
    load_ok c.args.self.now c.args.self.now c.number-number.result 1 (λ (x : State) (k : ℕ). load_local x c.args.id k) (shown (goal.at.load_word-kind-requires c).After-number-number) refl refl

pub load_word-high-requires : goal.load_word-high-requires
load_word-high-requires c = load_ok c.args.self.now c.load_word-kind.new.self c.number-number.result 2 (λ (x : State) (k : ℕ). load_local x c.args.id k)
    (shown (goal.at.load_word-high-requires c).After-number-number) c.load_word-kind.ensures.same refl

pub load_word-low-requires : goal.load_word-low-requires
load_word-low-requires c = load_ok c.args.self.now c.load_word-high.new.self c.number-number.result 3 (λ (x : State) (k : ℕ). load_local x c.args.id k)
    (shown (goal.at.load_word-low-requires c).After-number-number) (c.load_word-high.ensures.same ∙ c.load_word-kind.ensures.same) refl

pub load_word-value-requires : goal.load_word-value-requires
load_word-value-requires c = load_ok c.args.self.now c.load_word-low.new.self c.number-number.result 4 (λ (x : State) (k : ℕ). load_local x c.args.id k)
    (shown (goal.at.load_word-value-requires c).After-number-number) (c.load_word-low.ensures.same ∙ (c.load_word-high.ensures.same ∙ c.load_word-kind.ensures.same)) refl

pub returns-clause-record : goal.returns-clause-record
returns-clause-record c = λ n live.
    let same : c.number-number.result ≡ n = let q : ◌≡◌ {A = Option ℕ} (Some c.number-number.result) (Some n) = sym c.number-number.ensures ∙ live in cc in
    let s = c.args.self.now in
    let load = λ (x : State) (k : ℕ). load_local x c.args.id k in
    let shows = shown (goal.at.returns-clause-record c).After-number-number in
    let first = c.load_word-kind.ensures.same in
    let second = c.load_word-high.ensures.same ∙ first in
    let third = c.load_word-low.ensures.same ∙ second in (
      shows.entry,
      shows.attached,
      shows.numbered ∙ same,
      c.record_from.ensures shows.entry.rec
          (word_is s s c.number-number.result 1 c.load_word-kind.result load shows refl refl c.load_word-kind.ensures.word)
          (word_is s c.load_word-kind.new.self c.number-number.result 2 c.load_word-high.result load shows first refl c.load_word-high.ensures.word)
          (word_is s c.load_word-high.new.self c.number-number.result 3 c.load_word-low.result load shows second refl c.load_word-low.ensures.word)
          (word_is s c.load_word-low.new.self c.number-number.result 4 c.load_word-value.result load shows third refl c.load_word-value.ensures.word),
    )

pub returns-clause-made : goal.returns-clause-made
returns-clause-made c =
    makes_load c.args.self.now c.load_word-kind.new.self (OfLocal c.args.id 1) c.load_word-kind.result
    (LoadRecord (OfLocal c.args.id 2) ∷ LoadRecord (OfLocal c.args.id 3) ∷ LoadRecord (OfLocal c.args.id 4) ∷ []) c.load_word-value.new.self c.load_word-kind.ensures.word
    c.load_word-kind.ensures.same
    (makes_load c.load_word-kind.new.self c.load_word-high.new.self (OfLocal c.args.id 2) c.load_word-high.result
    (LoadRecord (OfLocal c.args.id 3) ∷ LoadRecord (OfLocal c.args.id 4) ∷ []) c.load_word-value.new.self c.load_word-high.ensures.word c.load_word-high.ensures.same
    (makes_load c.load_word-high.new.self c.load_word-low.new.self (OfLocal c.args.id 3) c.load_word-low.result
    (LoadRecord (OfLocal c.args.id 4) ∷ []) c.load_word-value.new.self c.load_word-low.ensures.word c.load_word-low.ensures.same
    (makes_load c.load_word-low.new.self c.load_word-value.new.self (OfLocal c.args.id 4) c.load_word-value.result
    ([]) c.load_word-value.new.self c.load_word-value.ensures.word c.load_word-value.ensures.same refl)))
