use Rattle.std.proofs.Common.{◌≡◌, ℕ, [], ◌∷◌, ◌++◌, Some, ap, subst, ◌∙◌}
use Rattle.protocol.specs.Common.{State, narrow_step}
use Rattle.passive_core.specs.Types.{StoreNext}
use Rattle.passive_core.specs.Common.{Makes, count_stores_from, record_stores}
use Rattle.passive_core.proofs.Making.{makes_more, makes_one}
use Rattle.passive_core.proofs.machine.Core.prepare.Goals as goal

pub returns-clause-made : goal.returns-clause-made
returns-clause-made c =
    let s = c.args.self.now in
    let e = c.args.entry.now in
    let m = c.store_record_words.new.self in
    let v = c.store_counts.new.self in
    let n = c.make.new.self in
    let counts : Makes m (count_stores_from e.slot 0 s.settings.cpus) v =
    subst (λ (x : State). Makes m (count_stores_from e.slot 0 x.settings.cpus) v) c.store_record_words.ensures.after c.store_counts.ensures.made in
    let head : c.self.inside.head ≡ s.head = ap (λ (x : State). x.head) (c.self.view_is ∙ c.store_counts.ensures.after) ∙ ap (λ (x : State). x.head) c.store_record_words.ensures.after in
    let links = subst (λ (w : ℕ). narrow_step v (StoreNext e.slot w) ≡ Some (record { state = n; reply = c.make.result })) head c.make.ensures in
    makes_more s m n (record_stores e) (count_stores_from e.slot 0 s.settings.cpus ++ StoreNext e.slot s.head ∷ []) c.store_record_words.ensures.made
    (makes_more m v n (count_stores_from e.slot 0 s.settings.cpus) (StoreNext e.slot s.head ∷ []) counts
    (makes_one v n (StoreNext e.slot s.head) c.make.result links))
