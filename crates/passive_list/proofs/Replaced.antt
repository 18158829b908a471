-- An entry takes the place of a live one: the keeper may do so, and what it has agrees with what its seat knows then.
use Rattle.std.proofs.Common.{◌≡◌, ℕ, zero, suc, ◌+◌, ◌*◌, ◌<◌, ◌≤◌, List, [], ◌++◌, length, take, drop, set, replicate, Option, Some, IsTrue, refl, sym, ap, ◌∙◌, subst, arith, length-set, inl, ◌≢◌}
use Rattle.std.proofs.lemmas.List.{append-nil, append_assoc, map-set}
use Rattle.std.proofs.lemmas.Option.{same_Some}
use mathlib.Core.List.{IsPrefix}
use Rattle.passive_list.specs.Types.{Replace, Entry, Change, Settings, Mark, Slot, Vacant, Live, Retired, MOST_CPUS, KeeperView, Hide, Republish, Show, Snapshot, Done, Word, LogItem, Keeper}
use Rattle.registry_values.specs.Common.{live_count, slot_at, no_mark, is_key}
use Rattle.protocol.specs.Common.{keeps_rightly, kept_at, after_change, entry_of}
use Rattle.protocol.specs.History.{rank_at}
use Rattle.protocol.specs.State.{row_at as words_at}
use Rattle.protocol.proofs.Cells.{slot_here, slot_other}
use Rattle.protocol.proofs.History.{at_new, length-after_change, rank_is, rank_old}
use Rattle.protocol.proofs.keeps.ListKeeps.{live_count_put, rows_put}
use Rattle.cpu_words.specs.Common.{LeadsBelow, IsBefore, IsShown, MayHide, MayRepublish, MayShow, HasRepublished, IsAttachedKeeping, Makes, did, keeper_after_live, keeper_after_republish}
use Rattle.cpu_words.proofs.by_keeper.KeeperSteps.{seen_by_keeper}
use Rattle.passive_list.specs.Common.{AreSnapshots, KeptSlot, row_at, state_of, states_of, IsAtRest, MarksAgree, RowsAgree, IsOurKeeper, with_snapshots, keeper_after_stores, AreWritten, HasReplaced, LogsReplace, LogsSnapshots, MayReplace, keeper_after_hide, keeper_after_place, keeper_after_snapshots, rows_replaced, rows_taken}
use Rattle.passive_list.specs.Publishing.{logged_stores}
use Rattle.passive_list.proofs.Attached.{HasWords, keeping_more, has_words, count_on, live_rows, stored_sized}
use Rattle.passive_list.proofs.Marks.{written_back}
use Rattle.passive_list.proofs.Ranks.{live_now}
use Rattle.passive_list.proofs.Retired.{LeadsFrom, StandsBefore, before_row, leads_row, links_size, taken_marks, zero_stored}
use Rattle.passive_list.proofs.Rows.{RanksStay, keeper_on, live_in, ranks_of, slots_agree, state_at, state_set}

-- The old entry

-- its slot isn't the new one's
apart : (slots : List Slot) (t u : ℕ) (f : Entry) → slot_at slots t ≡ Vacant → slot_at slots u ≡ Live f → u ≢ t
apart slots t u f vacant live same = let q : Vacant ≡ Live f = sym vacant ∙ (ap (slot_at slots) (sym same) ∙ live) in cc

-- a live entry's name isn't two words of 0
live_named : (k : KeeperView) (t : ℕ) (f : Entry) → IsShown k → slot_at k.slots t ≡ Live f → IsTrue (is_key f.rec.name)
live_named k t f is_shown live =
    let seen = seen_by_keeper is_shown.g k is_shown.good is_shown.shown in
    (is_shown.good.holds.rows t f (inl (ap (λ (xs : List Slot). slot_at xs t) (sym seen.slots) ∙ live))).1

-- as the caller's rows show it
pub there : (a : Settings) (k : KeeperView) (rows : List KeptSlot) (u : ℕ) (e : Entry) (asked : MayReplace a k rows u e) → (u < a.slots) × (slot_at k.slots u ≡ Live asked.f)
there a k rows u e asked = live_in a k rows u asked.f asked.agree asked.live

shown : (a : Settings) (k : KeeperView) (rows : List KeptSlot) (u : ℕ) (e : Entry) (asked : MayReplace a k rows u e) → (row_at rows u).state ≡ Live asked.f
shown a k rows u e asked = sym (state_at rows u) ∙ asked.live

vacant : (a : Settings) (k : KeeperView) (rows : List KeptSlot) (u : ℕ) (e : Entry) → MayReplace a k rows u e → slot_at k.slots e.slot ≡ Vacant
vacant a k rows u e asked = slots_agree a k rows e.slot asked.at asked.agree ∙ asked.vacant

stored : (a : Settings) (k : KeeperView) (rows : List KeptSlot) (u : ℕ) (e : Entry) (v : ℕ) → MayReplace a k rows u e → HasWords (keeper_after_stores k e v) e v
stored a k rows u e v asked = has_words a k rows e v asked.at asked.agree asked.slot asked.vacant asked.name

-- The steps

pub may_hide : (a : Settings) (k s : KeeperView) (rows : List KeptSlot) (u : ℕ) (e : Entry) (v : ℕ) → MayReplace a k rows u e → s ≡ keeper_after_stores k e v → MayHide s u
may_hide a k s rows u e v asked is = subst (λ (x : KeeperView). MayHide x u) (sym is)
    record { rest = asked.at.rest; slot = subst (λ (z : Settings). u < z.slots) (sym asked.at.settings) (there a k rows u e asked).0 }

before_old : (a : Settings) (k : KeeperView) (rows : List KeptSlot) (u : ℕ) (e : Entry) (p : Option ℕ) (asked : MayReplace a k rows u e) → StandsBefore rows u p
    → IsBefore (rank_at k.history) k.slots (rank_at k.history asked.f.number) p
before_old a k rows u e p asked before = before_row a k rows u asked.f p asked.at asked.agree (shown a k rows u e asked) before

pub below_old : (a : Settings) (k : KeeperView) (rows : List KeptSlot) (u : ℕ) (e : Entry) (v : ℕ) (asked : MayReplace a k rows u e) → LeadsFrom rows u v
    → LeadsBelow (rank_at k.history) k.slots (rank_at k.history asked.f.number) v
below_old a k rows u e v asked leads = leads_row a k rows u asked.f v asked.at asked.agree (shown a k rows u e asked) leads

may_place : (a : Settings) (k : KeeperView) (rows : List KeptSlot) (u : ℕ) (e : Entry) (v : ℕ) (p : Option ℕ) → MayReplace a k rows u e → StandsBefore rows u p → LeadsFrom rows u v
    → MayRepublish (keeper_after_hide k u e v) e.slot u p
may_place a k rows u e v p asked before leads =
    let at = asked.at in
    let has = stored a k rows u e v asked in
    record {
      rest = at.rest;
      slot = subst (λ (z : Settings). e.slot < z.slots) (sym at.settings) asked.slot;
      vacant = vacant a k rows u e asked;
      e = e;
      entry = has.entry;
      number = asked.number;
      f = asked.f;
      live = (there a k rows u e asked).1;
      alike = asked.alike;
      room = omega (arith, count_on k.slots (states_of rows) (live_rows a k rows at asked.agree), asked.room, ap (λ (z : Settings). z.change_limit) at.settings);
      before = before_old a k rows u e p asked before;
      link = subst (LeadsBelow (rank_at k.history) k.slots (rank_at k.history asked.f.number)) (sym has.link) (below_old a k rows u e v asked leads);
      hidden = zero_stored k.lives u;
      counts = has.counts;
      total = has.total;
      keeps = asked.keeps;
    }

hidden_as : (k s h : KeeperView) (u : ℕ) (e : Entry) (v : ℕ) → s ≡ keeper_after_stores k e v → h ≡ keeper_after_live s u 0 → h ≡ keeper_after_hide k u e v
hidden_as k s h u e v stores hide = hide ∙ ap (λ (x : KeeperView). keeper_after_live x u 0) stores

pub may_republish : (a : Settings) (k s h : KeeperView) (rows : List KeptSlot) (u : ℕ) (e : Entry) (v : ℕ) (p : Option ℕ) → MayReplace a k rows u e → StandsBefore rows u p → LeadsFrom rows u v
    → s ≡ keeper_after_stores k e v → h ≡ keeper_after_live s u 0 → MayRepublish h e.slot u p
may_republish a k s h rows u e v p asked before leads stores hide =
    subst (λ (x : KeeperView). MayRepublish x e.slot u p) (sym (hidden_as k s h u e v stores hide)) (may_place a k rows u e v p asked before leads)

-- what the step tells, in one view
pub placed_as : (a : Settings) (k s h r : KeeperView) (rows : List KeptSlot) (u : ℕ) (e : Entry) (v : ℕ) (p : Option ℕ) (asked : MayReplace a k rows u e)
    → s ≡ keeper_after_stores k e v → h ≡ keeper_after_live s u 0 → HasRepublished h e.slot u p r → r ≡ keeper_after_place k u asked.f e v p
placed_as a k s h r rows u e v p asked stores hide told =
    let is = hidden_as k s h u e v stores hide in
    let new : told.0 ≡ e = same_Some told.0 e (sym told.2 ∙ (ap (λ (x : KeeperView). entry_of e.slot (words_at x.rows e.slot)) is ∙ (stored a k rows u e v asked).entry)) in
    let old : told.1 ≡ asked.f = let q : Live told.1 ≡ Live asked.f = sym told.3 ∙ (ap (λ (x : KeeperView). slot_at x.slots u) is ∙ (there a k rows u e asked).1) in cc in
    told.4 ∙ (λ i. keeper_after_republish (is i) e.slot u (new i) (old i) p)

pub may_show : (a : Settings) (k r n : KeeperView) (rows : List KeptSlot) (u : ℕ) (e : Entry) (v : ℕ) (p : Option ℕ) (marks : List Mark) (asked : MayReplace a k rows u e)
    → r ≡ keeper_after_place k u asked.f e v p → n ≡ with_snapshots r u marks → MayShow n e.slot e.number
may_show a k r n rows u e v p marks asked placed taken =
    subst (λ (x : KeeperView). MayShow x e.slot e.number) (sym (taken ∙ ap (λ (x : KeeperView). with_snapshots x u marks) placed))
    record { rest = refl; entry = e; live = live_then a k rows u e asked; number = refl }
  where
    live_then : (a : Settings) (k : KeeperView) (rows : List KeptSlot) (u : ℕ) (e : Entry) (asked : MayReplace a k rows u e)
        → slot_at (set (set k.slots e.slot (Live e)) u (Retired asked.f)) e.slot ≡ Live e
    live_then a k rows u e asked =
        slot_other (set k.slots e.slot (Live e)) u (Retired asked.f) e.slot (λ (same : e.slot ≡ u). apart k.slots e.slot u asked.f (vacant a k rows u e asked) (there a k rows u e asked).1 (sym same))
        ∙ slot_here k.slots e.slot (Live e) (omega (arith, asked.slot, asked.at.sized.slots))

-- what was made, in all, and the marks that were written
pub replaced_as : (a : Settings) (k s h r n l : KeeperView) (rows : List KeptSlot) (u : ℕ) (e : Entry) (v : ℕ) (p : Option ℕ) (marks ms ns : List Mark) (asked : MayReplace a k rows u e) → StandsBefore rows u p
    → LeadsFrom rows u v → s ≡ keeper_after_stores k e v → h ≡ keeper_after_live s u 0 → r ≡ keeper_after_place k u asked.f e v p → AreSnapshots a.cpus marks → n ≡ with_snapshots r u marks
    → l ≡ keeper_after_live n e.slot e.number
    → Makes (Hide u) Done (Keeper s) (Keeper h) → Makes (Republish e.slot u) Done (Keeper h) (Keeper r) → Makes (Show e.slot) Done (Keeper n) (Keeper l)
    → AreWritten (u * a.cpus) a.cpus marks ms ns → (has : HasReplaced k u asked.f e l) × AreWritten (u * a.cpus) a.cpus has.marks ms ns
replaced_as a k s h r n l rows u e v p marks ms ns asked before leads stores hide placed snapped taken show hides places shows written =
    let is_hidden = hidden_as k s h u e v stores hide in
    let is_taken = taken ∙ ap (λ (x : KeeperView). with_snapshots x u marks) placed in (
      record {
        before = p;
        is_before = before_old a k rows u e p asked before;
        link = v;
        leads = below_old a k rows u e v asked leads;
        hidden = subst (λ (x : KeeperView). Makes (Hide u) Done (Keeper x) (Keeper (keeper_after_hide k u e v))) stores
            (subst (λ (x : KeeperView). Makes (Hide u) Done (Keeper s) (Keeper x)) is_hidden hides);
        made = subst (λ (x : KeeperView). Makes (Republish e.slot u) Done (Keeper x) (Keeper (keeper_after_place k u asked.f e v p))) is_hidden
            (subst (λ (x : KeeperView). Makes (Republish e.slot u) Done (Keeper h) (Keeper x)) placed places);
        marks = marks;
        snapshots = subst (λ (z : Settings). AreSnapshots z.cpus marks) (sym asked.at.settings) snapped;
        shown = subst (λ (x : KeeperView). Makes (Show e.slot) Done (Keeper x) (Keeper l)) is_taken shows;
        view = show ∙ ap (λ (x : KeeperView). keeper_after_live x e.slot e.number) is_taken;
      },
      written,
    )

-- The log

snapshots_longer : (t c : ℕ) (old new : List LogItem) → LogsSnapshots t c old new → IsPrefix old new
snapshots_longer t zero old new is = ([], append-nil old ∙ sym is)
snapshots_longer t (suc c) old new had =
    let item = did (Snapshot (Some t) c) (Word had.1) in
    let before = snapshots_longer t c old had.0 had.2 in
    (before.0 ++ item, sym (append_assoc old before.0 item) ∙ (ap (λ (l : List LogItem). l ++ item) before.1 ∙ sym had.3))

-- what is so of the new entry's driver once it was placed is so still
pub keeping_shown : (u t n d cpus : ℕ) (placed taken shown : List LogItem) → LogsSnapshots u cpus placed taken → shown ≡ taken ++ did (Show t) Done → IsAttachedKeeping t n d placed
    → IsAttachedKeeping t n d shown
keeping_shown u t n d cpus placed taken shown snaps is kept =
    keeping_more t n d taken shown (did (Show t) Done, sym is) (keeping_more t n d placed taken (snapshots_longer u cpus placed taken snaps) kept)

pub logged_as : (k : KeeperView) (u cpus : ℕ) (f e : Entry) (v : ℕ) (old stored hidden placed taken new : List LogItem) → slot_at k.slots u ≡ Live f
    → LeadsBelow (rank_at k.history) k.slots (rank_at k.history f.number) v → cpus ≡ k.settings.cpus → stored ≡ logged_stores cpus e v old → hidden ≡ stored ++ did (Hide u) Done
    → placed ≡ hidden ++ did (Republish e.slot u) Done → LogsSnapshots u cpus placed taken → new ≡ taken ++ did (Show e.slot) Done → LogsReplace k u e old new
logged_as k u cpus f e v old stored hidden placed taken new live leads size stores hides places snaps shows =
    let stored_is = stores ∙ ap (λ (n : ℕ). logged_stores n e v old) size in
    let hidden_is = hides ∙ ap (λ (l : List LogItem). l ++ did (Hide u) Done) stored_is in
    let placed_is = places ∙ ap (λ (l : List LogItem). l ++ did (Republish e.slot u) Done) hidden_is in
    record {
      f = f;
      live = live;
      link = v;
      leads = leads;
      taken = taken;
      snapshots = subst (λ (l : List LogItem). LogsSnapshots u k.settings.cpus l taken) placed_is (subst (λ (n : ℕ). LogsSnapshots u n placed taken) size snaps);
      log = shows;
    }

-- The keeper's data agree with the view then

replaced_at_rest : (a : Settings) (k : KeeperView) (rows : List KeptSlot) (u : ℕ) (e : Entry) (v : ℕ) (p : Option ℕ) (marks : List Mark) (asked : MayReplace a k rows u e) → length marks ≡ MOST_CPUS
    → IsAtRest a (keeper_after_live (keeper_after_snapshots k u asked.f e v p marks) e.slot e.number)
replaced_at_rest a k rows u e v p marks asked size =
    let at = asked.at in
    let f = asked.f in
    let t = e.slot in
    let old = there a k rows u e asked in
    let fresh = replicate MOST_CPUS no_mark in
    let first = set k.slots t (Live e) in
    let off : u ≢ t = apart k.slots t u f (vacant a k rows u e asked) old.1 in
    let more : live_count first + 0 ≡ live_count k.slots + 1 = live_count_put k.slots t Vacant (Live e) (omega (arith, asked.slot, at.sized.slots)) (vacant a k rows u e asked) in
    let less : live_count (set first u (Retired f)) + 1 ≡ live_count first + 0 =
    live_count_put first u (Live f) (Retired f) (omega (arith, old.0, at.sized.slots, length-set k.slots t (Live e))) (slot_other k.slots t (Live e) u off ∙ old.1) in
    let change : Change = Replace f.number (rank_at k.history f.number) e in
    let count = count_on k.slots (states_of rows) (live_rows a k rows at asked.agree) in
    let stored = stored_sized a k e v at asked.slot in
    let room : length (after_change k.history change) + live_count (set first u (Retired f)) ≤ a.change_limit = omega (arith, more, less, count, length-after_change k.history change, asked.room) in
    assumption (
      room,
      length-set first u (Retired f) ∙ (length-set k.slots t (Live e) ∙ at.sized.slots),
      length-set (set k.marks u fresh) u marks ∙ (length-set k.marks u fresh ∙ at.sized.marks),
      rows_put (set k.marks u fresh) u marks size (rows_put k.marks u fresh refl at.sized.mark_rows),
      links_size (set k.next t v) p (t + 1) ∙ stored.next,
      stored,
      at,
    )

-- the rank of what takes a place is the place's
taken_rank : (h : List Change) (n r : ℕ) (e f : Entry) → e.number ≡ suc (length h) → Live e ≡ Live f → r ≡ rank_at (after_change h (Replace n r e)) f.number
taken_rank h n r e f number is =
    let c : Change = Replace n r e in
    let one : e ≡ f = cc in
    sym (ap (rank_at (after_change h c)) (ap (λ (i : Entry). i.number) (sym one) ∙ number) ∙ rank_is (after_change h c) (suc (length h)) (Some c) (at_new h c))

replaced_rows : (a : Settings) (k l : KeeperView) (rows : List KeptSlot) (u : ℕ) (e : Entry) (asked : MayReplace a k rows u e)
    → l.slots ≡ set (set k.slots e.slot (Live e)) u (Retired asked.f) → l.totals ≡ k.totals → l.keeps ≡ k.keeps
    → l.history ≡ after_change k.history (Replace asked.f.number (rank_at k.history asked.f.number) e) → RowsAgree a l (rows_replaced rows u asked.f e)
replaced_rows a k l rows u e asked slots totals keeps history =
    let f = asked.f in
    let t = e.slot in
    let old = there a k rows u e asked in
    let rank = rank_at k.history f.number in
    let change : Change = Replace f.number rank e in
    let m : KeeperView = record k { slots = set k.slots t (Live e); history = after_change k.history change } in
    let r = (row_at rows u).rank in
    let own : r ≡ rank = ranks_of a k rows asked.agree u f (shown a k rows u e asked) in
    let stay : RanksStay k m = λ w g is. rank_old k.history change g.number (asked.begun w g is) in
    let first = rows_taken rows e r in
    let agree : RowsAgree a m first = state_set a k m rows t (Live e) r asked.at.sized.slots asked.agree asked.slot refl refl refl (λ vacant. cc)
    (λ g is. own ∙ taken_rank k.history f.number rank e g asked.number is) stay in
    state_set a m l first u (Retired f) (row_at first u).rank (length-set k.slots t (Live e) ∙ asked.at.sized.slots) agree old.0 slots totals keeps (λ vacant. cc) (λ g is. cc)
    (λ w g is. ap (λ (h : List Change). rank_at h g.number) history)

pub replaced_keeper : (a : Settings) (k l : KeeperView) (rows : List KeptSlot) (n u : ℕ) (e : Entry) (asked : MayReplace a k rows u e) → n ≡ length k.history → (has : HasReplaced k u asked.f e l)
    → IsShown l → IsOurKeeper a l (rows_replaced rows u asked.f e) (n + 1)
replaced_keeper a k l rows n u e asked was has is_shown =
    let f = asked.f in
    let m = keeper_after_live (keeper_after_snapshots k u f e has.link has.before has.marks) e.slot e.number in
    keeper_on a l m (rows_replaced rows u f e) (n + 1) has.view is_shown (replaced_at_rest a k rows u e has.link has.before has.marks asked has.snapshots.size)
    (omega (arith, was, length-after_change k.history (Replace f.number (rank_at k.history f.number) e))) (replaced_rows a k m rows u e asked refl refl refl refl)

-- and its marks with those that were taken
pub replaced_marks : (a : Settings) (k l : KeeperView) (ms ns : List Mark) (u : ℕ) (f e : Entry) → IsAtRest a k → MarksAgree a k ms → u < a.slots → (has : HasReplaced k u f e l)
    → AreWritten (u * a.cpus) a.cpus has.marks ms ns → MarksAgree a l ns
replaced_marks a k l ms ns u f e at had lt has written = taken_marks a k l ms ns u has.marks at had lt written (ap (λ (x : KeeperView). x.marks) has.view)

-- What is asked of a caller, of the keeper's own view and rows

-- of each live entry: it came by a change of the history, and its name isn't two words of 0
pub record LiveShown (k : KeeperView) : Type 0 where
  pub begun : (t : ℕ) (g : Entry) → slot_at k.slots t ≡ Live g → g.number ≤ length k.history
  pub named : (t : ℕ) (g : Entry) → slot_at k.slots t ≡ Live g → IsTrue (is_key g.rec.name)

pub live_shown : (k : KeeperView) → IsShown k → LiveShown k
live_shown k is_shown = record { begun = λ t g live. (live_now k t g is_shown live).begun; named = λ t g live. live_named k t g is_shown live }

-- f is the live entry of the slot u, and its key is the new one's
pub ask_replace : (a : Settings) (k : KeeperView) (rows : List KeptSlot) (n u t value : ℕ) (f : Entry) → IsAtRest a k → LiveShown k → RowsAgree a k rows → n ≡ length k.history → t < a.slots
    → slot_at (states_of rows) t ≡ Vacant → (row_at rows u).state ≡ Live f → IsTrue (keeps_rightly (kept_at k.keeps t) f.rec.kind) → length k.history + live_count (states_of rows) + 2 ≤ a.change_limit
    → MayReplace a k rows u (record { number = n + 1; slot = t; rec = record f.rec { value = value } })
ask_replace a k rows n u t value f at known agree changes lt vacant live keeps room = record {
  at = at;
  begun = known.begun;
  agree = agree;
  slot = lt;
  vacant = vacant;
  f = f;
  live = state_at rows u ∙ live;
  alike = refl;
  name = known.named u f (live_in a k rows u f agree (state_at rows u ∙ live)).1;
  keeps = keeps;
  room = room;
  number = omega (arith, changes);
}

-- What was written

pub same_live : (x : Slot) (f g : Entry) → x ≡ Live f → x ≡ Live g → f ≡ g
same_live x f g is also = let q : Live f ≡ Live g = sym is ∙ also in cc

-- of the entry f that is live there
pub of_live : (k l : KeeperView) (u p cpus : ℕ) (f e : Entry) (ms ns : List Mark) → slot_at k.slots u ≡ Live f
    → (g : Entry) × (slot_at k.slots u ≡ Live g) × (has : HasReplaced k u g e l) × AreWritten p cpus has.marks ms ns → (has : HasReplaced k u f e l) × AreWritten p cpus has.marks ms ns
of_live k l u p cpus f e ms ns live made =
    let one : made.0 ≡ f = same_live (slot_at k.slots u) made.0 f made.1 live in
    subst (λ (g : Entry). (has : HasReplaced k u g e l) × AreWritten p cpus has.marks ms ns) one (made.2, made.3)

pub rows_back : (rows xs ys : List KeptSlot) (u n : ℕ) (f e : Entry) → xs ≡ rows → ys ≡ rows_replaced xs u f e → length xs ≡ n → take n (ys ++ drop (length ys) rows) ≡ rows_replaced rows u f e
rows_back rows xs ys u n f e same is size =
    let first = rows_taken xs e (row_at xs u).rank in
    let long : length ys ≡ n = ap (λ (zs : List KeptSlot). length zs) is ∙ (length-set first u (record (row_at first u) { state = Retired f })
    ∙ (length-set xs e.slot (record (row_at xs e.slot) { state = Live e; rank = (row_at xs u).rank }) ∙ size)) in
    written_back n rows ys long ∙ (is ∙ ap (λ (zs : List KeptSlot). rows_replaced zs u f e) same)

pub states_replaced : (rows : List KeptSlot) (u : ℕ) (f e : Entry) → states_of (rows_replaced rows u f e) ≡ set (set (states_of rows) e.slot (Live e)) u (Retired f)
states_replaced rows u f e =
    let first = rows_taken rows e (row_at rows u).rank in
    map-set state_of first u (record (row_at first u) { state = Retired f })
    ∙ ap (λ (xs : List Slot). set xs u (Retired f)) (map-set state_of rows e.slot (record (row_at rows e.slot) { state = Live e; rank = (row_at rows u).rank }))
