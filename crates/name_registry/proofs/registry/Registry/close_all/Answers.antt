-- `Registry::close_all`: the last words are those of a run that has all that the keeper and these CPUs did.
use Rattle.std.proofs.Common.{◌≡◌, ◌∙◌, ap, subst, sym}
use Rattle.name_registry.specs.Types.{KeeperView, Settings}
use Rattle.cpu_words.specs.Common.{HaveClosed, Seated}
use Rattle.name_registry.specs.Common.{weigh}
use Rattle.name_registry.proofs.Closed.{closes_run_of}
use Rattle.name_registry.proofs.registry.Registry.close_all.Goals as goal

pub returns-clause-run : goal.returns-clause-run
returns-clause-run g c =
    let seat = c.take_over_all.new.keeper in
    let last = c.close_all.result.words in
    let view : seat.view ≡ c.into_inner-keeper.result.keeper.keeper.view =
    ap (λ (s : Seated KeeperView). s.view) c.take_over_all.ensures.keeper ∙ c.into_seat-seat.ensures.seat.0 in
    let counted : weigh seat.view.history ≡ c.into_inner-keeper.result.book.total = ap (λ (v : KeeperView). weigh v.history) view ∙ sym c.into_inner-keeper.result.counted in
    closes_run_of g.D.Domain.settings g.D.Ledger.parts seat.view seat.log seat.ends c.args.cpus.items last c.take_over_all.ensures.taken
    (subst (λ (z : Settings). HaveClosed z seat.view seat.log seat.ends last) c.args.self.settings c.close_all.ensures.ended)
    (λ some_one count. counted ∙ c.take_over_all.ensures.made some_one count)
