-- The words of a slot, one after the other.
use Rattle.std.proofs.Common.{ℕ, refl, sym, ap, ◌∙◌}
use Rattle.passive_list.specs.Types.{AtNext, AtNumber, CpuView, Name}
use Rattle.cpu_words.specs.Common.{PassTells}
use Rattle.passive_list.specs.Common.{IsUnderWay, nobody}
use Rattle.passive_list.proofs.GoingOver.{compared, gone_by, one_kind}
use Rattle.passive_list.proofs.Walking.{HasPassed, at_kind, at_high, at_low, may_follow, may_load}
use Rattle.passive_list.proofs.walks.go_by.Goals as goal

pub load_searched-kind-requires-clause-may : goal.load_searched-kind-requires-clause-may
load_searched-kind-requires-clause-may c = may_load _ nobody _ _ 1 _ (at_kind _ _ nobody _ _ _ c.requires.may.under_way c.load_searched-number.ensures.change) (refl, refl)

pub load_searched-high-requires-clause-may : goal.load_searched-high-requires-clause-may
load_searched-high-requires-clause-may c =
    may_load _ nobody _ _ 2 _ (at_high _ _ _ nobody _ _ _ _ c.requires.may.under_way c.load_searched-number.ensures.change c.load_searched-kind.ensures.change) (refl, refl)

pub load_searched-low-requires-clause-may : goal.load_searched-low-requires-clause-may
load_searched-low-requires-clause-may c =
    may_load _ nobody _ _ 3 _ (at_low _ _ _ _ nobody _ _ _ _ _ c.requires.may.under_way
    c.load_searched-number.ensures.change c.load_searched-kind.ensures.change c.load_searched-high.ensures.change) (refl, refl)

pub load_compared-value-requires-clause-may : goal.load_compared-value-requires-clause-may
load_compared-value-requires-clause-may c =
    may_follow _ nobody _ _ (ap (λ (v : CpuView). v.search) (compared _ _ _ _ _ _ c.args.slot _ _ _ _
    c.load_searched-number.ensures.change c.load_searched-kind.ensures.change c.load_searched-high.ensures.change c.load_searched-low.ensures.change c.requires.may.under_way c.requires.may.tells).is)

-- the entry there has these words, and the search has gone by it wherever it began
pub returns-clause-change : goal.returns-clause-change
returns-clause-change c =
    let x = c.args.seat.now.view in
    let gone : (from : ℕ) → IsUnderWay x nobody from (AtNumber c.args.slot) → PassTells x.begin from x.pass
    → HasPassed x nobody from c.args.slot c.load_searched-number.result c.load_searched-kind.result c.load_searched-high.result c.load_searched-low.result (AtNext c.args.slot) c.load_searched-low.new.seat.view =
    λ from at tells. compared x c.load_searched-number.new.seat.view c.load_searched-kind.new.seat.view c.load_searched-high.new.seat.view c.load_searched-low.new.seat.view from
    c.args.slot c.load_searched-number.result c.load_searched-kind.result c.load_searched-high.result c.load_searched-low.result
    c.load_searched-number.ensures.change c.load_searched-kind.ensures.change c.load_searched-high.ensures.change c.load_searched-low.ensures.change at tells in
    let one = gone c.requires.may.from c.requires.may.under_way c.requires.may.tells in
    let kind = one.entry.rec.kind in
    let name : Name = record { high = c.load_searched-high.result; low = c.load_searched-low.result } in (
      record { number = c.load_searched-number.result; slot = c.args.slot; rec = record { kind = kind; name = name; value = c.load_compared-value.result } },
      refl,
      (λ i. record {
        number = c.load_searched-number.result;
        kind = sym one.kind i;
        high = c.load_searched-high.result;
        low = c.load_searched-low.result;
        value = c.load_compared-value.result;
      }),
      (λ from at tells. gone_by _ _ _ from c.args.slot _ _ _ _ _ kind name (gone from at tells) c.load_compared-value.ensures.value c.load_compared-value.ensures.same
          (λ other is. one_kind kind other (one.kind ∙ is)) refl),
    )
