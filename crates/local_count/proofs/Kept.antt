-- A slot keeps a reference to its driver: the keeper's rows say so, and an interface may be published there, or take another's place.
use Rattle.std.proofs.Common.{◌≡◌, ℕ, ◌+◌, ◌<◌, ◌≤◌, false, List, length, set, Some, None, IsTrue, refl, sym, ap, ◌∙◌, subst, arith, get_or-set_same, get_or-set_other, length-set}
use Rattle.std.proofs.Math.Seq.{map-set_same}
use Rattle.atomic_table.specs.Seated.{TableId}
use Rattle.passive_list.specs.Types.{Entry, Iface, Record, Settings, Slot, Vacant, Live, KeeperView, LogItem, ReferenceView}
use Rattle.registry_values.specs.Common.{key_of_record, is_taken, live_count, slot_at, is_key}
use Rattle.protocol.specs.Common.{kept_at}
use Rattle.cpu_words.specs.Common.{keeper_after_keep}
use Rattle.passive_list.specs.declared.keeper.KeptSlot.{KeptSlot}
use Rattle.passive_list.specs.Common.{OnPlainKeeper, on_keeper, no_row, row_at, state_of, states_of, IsAtRest, RowsAgree, IsOurKeeper, MayAttach, MayReplace}
use Rattle.passive_list.proofs.Replaced.{ask_replace, live_shown}
use Rattle.passive_list.proofs.Rows.{row_stays, rows_set, settings_are, state_at}

abbrev pub row_keeping : KeptSlot → ℕ → KeptSlot
row_keeping r n = record { state = r.state; total = r.total; keeps = Some n; rank = r.rank }

abbrev pub rows_keeping : List KeptSlot → ℕ → ℕ → List KeptSlot
rows_keeping rows t n = set rows t (row_keeping (row_at rows t) n)

pub keeping_rows : (a : Settings) (k : KeeperView) (rows : List KeptSlot) (t n : ℕ) (v : ReferenceView) → IsAtRest a k → RowsAgree a k rows → t < a.slots → v.entry.number ≡ n
    → RowsAgree a (keeper_after_keep k t v) (rows_keeping rows t n)
keeping_rows a k rows t n v at agree lt number =
    let l = keeper_after_keep k t v in
    let had = agree.each t lt in
    rows_set a k l rows t (row_keeping (row_at rows t) n) lt agree
    (assumption (sym (get_or-set_same k.keeps t (Some v.entry.number) None (omega (arith, lt, at.sized.keeps)) ∙ ap Some number), had))
    (λ u off was. row_stays k l u (row_at rows u) refl refl (get_or-set_other k.keeps t u (Some v.entry.number) None off) (λ e is. refl) was)

-- the slots stay
pub states_keeping : (rows : List KeptSlot) (t n : ℕ) → states_of (rows_keeping rows t n) ≡ states_of rows
states_keeping rows t n = map-set_same state_of rows t (row_keeping (row_at rows t) n) no_row refl

-- what publishing asks of the keeper once the slot keeps the reference, from what is asked of a caller
pub may_attach : {table : TableId} {log : List LogItem} (a : Settings) (k l : KeeperView) (rows : List KeptSlot) (c t n : ℕ) (rec : Record) (v : ReferenceView) (x : OnPlainKeeper)
    → IsOurKeeper a k rows c → on_keeper table a k rows log ≡ x
    → l ≡ keeper_after_keep k t v → v.entry.number ≡ n → (t < x.words.settings.slots) × (slot_at x.keeper.slots t ≡ Vacant) → rec.kind ≡ Iface → IsTrue (is_key rec.name)
    → is_taken (key_of_record rec) x.keeper.slots ≡ false → length x.keeper.view.history + live_count x.keeper.slots + 2 ≤ x.words.settings.change_limit
    → MayAttach a l (rows_keeping rows t n) (record { number = c + 1; slot = t; rec = rec })
may_attach a k l rows c t n rec v x our is at number vacant kind name free room =
    let rest = our.view in
    let same = states_keeping rows t n in
    let lt = subst (λ (y : OnPlainKeeper). t < y.words.settings.slots) (sym is) vacant.0 in
    let kept : kept_at (keeper_after_keep k t v).keeps t ≡ Some v.entry.number = get_or-set_same k.keeps t (Some v.entry.number) None (omega (arith, lt, rest.sized.keeps)) in
    let history : (keeper_after_keep k t v).history ≡ x.keeper.view.history = ap (λ (y : OnPlainKeeper). y.keeper.view.history) is in
    let states : states_of (rows_keeping rows t n) ≡ x.keeper.slots = same ∙ ap (λ (y : OnPlainKeeper). y.keeper.slots) is in
    subst (λ (y : KeeperView). MayAttach a y (rows_keeping rows t n) (record { number = c + 1; slot = t; rec = rec })) (sym at) record {
      at = assumption (rest, length-set k.keeps t (Some v.entry.number) ∙ rest.sized.keeps);
      agree = keeping_rows a k rows t n v rest our.rows lt number;
      slot = lt;
      vacant = ap (λ (xs : List Slot). slot_at xs t) states ∙ vacant.1;
      keeps = rw (kept, kind) refl;
      name = name;
      free = ap (is_taken (key_of_record rec)) states ∙ free;
      room = rw (history, states) (subst (λ (z : Settings). length x.keeper.view.history + live_count x.keeper.slots + 2 ≤ z.change_limit) (sym (settings_are is)) room);
      number = omega (arith, our.changes);
    }

-- and what replacing asks
pub ask_keeping : {table : TableId} {log : List LogItem} (a : Settings) (k l : KeeperView) (rows : List KeptSlot) (n u t m value : ℕ) (f : Entry) (v : ReferenceView) (x : OnPlainKeeper) → IsOurKeeper a k rows n
    → on_keeper table a k rows log ≡ x → l ≡ keeper_after_keep k t v → v.entry.number ≡ m → (t < x.words.settings.slots) × (slot_at x.keeper.slots t ≡ Vacant) → (row_at rows u).state ≡ Live f
    → f.rec.kind ≡ Iface → length x.keeper.view.history + live_count x.keeper.slots + 2 ≤ x.words.settings.change_limit
    → MayReplace a l (rows_keeping rows t m) u (record { number = n + 1; slot = t; rec = record f.rec { value = value } })
ask_keeping a k l rows n u t m value f v x our is at number vacant live kind room =
    let rest = our.view in
    let j = keeper_after_keep k t v in
    let e : Entry = record { number = n + 1; slot = t; rec = record f.rec { value = value } } in
    let lt = subst (λ (y : OnPlainKeeper). t < y.words.settings.slots) (sym is) vacant.0 in
    let states : states_of (rows_keeping rows t m) ≡ states_of rows = states_keeping rows t m in
    let kept : kept_at j.keeps t ≡ Some v.entry.number = get_or-set_same k.keeps t (Some v.entry.number) None (omega (arith, lt, rest.sized.keeps)) in
    let known = live_shown k our.is_shown in
    let was : slot_at (states_of rows) t ≡ Vacant = ap (λ (y : OnPlainKeeper). slot_at y.keeper.slots t) is ∙ vacant.1 in
    let all : length k.history + live_count (states_of rows) + 2 ≤ a.change_limit =
    subst (λ (y : OnPlainKeeper). length y.keeper.view.history + live_count y.keeper.slots + 2 ≤ y.words.settings.change_limit) (sym is) room in
    let still : (row_at (rows_keeping rows t m) u).state ≡ Live f = sym (state_at (rows_keeping rows t m) u) ∙ (ap (λ (xs : List Slot). slot_at xs u) states ∙ (state_at rows u ∙ live)) in
    subst (λ (y : KeeperView). MayReplace a y (rows_keeping rows t m) u e) (sym at)
    (ask_replace a j (rows_keeping rows t m) n u t value f (assumption (rest, length-set k.keeps t (Some v.entry.number) ∙ rest.sized.keeps))
    record { begun = known.begun; named = known.named }
    (keeping_rows a k rows t m v rest our.rows lt number) our.changes lt (ap (λ (xs : List Slot). slot_at xs t) states ∙ was) still (rw (kept, kind) refl)
    (subst (λ (xs : List Slot). length k.history + live_count xs + 2 ≤ a.change_limit) (sym states) all))
