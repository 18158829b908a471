-- What each event is that is made: where it was allowed, and the state and the reply that it led to, without a test left.
-- One line of a proof by these cases serves all events that it is true of by what they leave alone.
use Rattle.std.proofs.Common.{◌≡◌, ℕ, List, zero, suc, ◌+◌, ◌-◌, ◌==◌, ◌&&◌, nat_lt, Bool, true, if◌then◌else◌, Option, Some, None, refl, ap, ◌∙◌, subst, eqb-true, arith}
use Rattle.protocol.specs.Types.{Kind, Entry, Name, Slot, Live}
use Rattle.protocol.specs.Common.{Event, Seat, Enter, Exit, Seek, LoadLink, LoadRecord, StoreSlot, StoreNext, Publish, Unpublish, Republish, Tell, Hear, Snapshot, Look, PassiveAdd, PassiveSub, PassiveLook}
use Rattle.protocol.specs.Common.{CountAdd, SplitRef, JoinRef, CountDown, SplitBack, Collect, TotalAdd, JoinKeeper, TotalSub, Keep, KeptSub, Vacate, Show, Hide, Recall, RecallHead, Refind, Try, Confirm, TakeBack, RecordOf, Reply, Done, Word, Found, Missed, Ref, Collected}
use Rattle.protocol.specs.Common.{Due, Adding, Subtracting, Loaded, On, Over, SearchPlace, AtNumber, Search, Hand, Empty, Taking, Giving, Back, Trying, Lifted, Standing, State, section_at, search_at, found_at, hand_at}
use Rattle.protocol.specs.Common.{row_at, passive_at, count_at, total_at, live_at, kept_at, local_at, at_rest, loaded_at, row_of_place, Outcome, guard, some_outcome, with_some, step}
use Rattle.protocol.specs.declared.event.RecordOf.TheVariants.{Search as OfSearch, Passive as OfPassive, Local as OfLocal, Compared as OfCompared}
use Rattle.registry_values.specs.Common.{bias, slot_at, slot_of, slot_before}
use Rattle.protocol.specs.Events

pub data Made (s : State) : Event → State → Reply → Type 0 where
  Seats : (c : ℕ) → Events.may_seat s c ≡ true → Made s (Seat c) (Events.after_seat s c) Done
  Enters : (c : ℕ) → Events.may_enter s c ≡ true → Made s (Enter c) (Events.after_enter s c) Done
  Exits : (c : ℕ) → Events.may_exit s c ≡ true → Made s (Exit c) (Events.after_exit s c) Done
  Seeks : (c : ℕ) (kind : Kind) (name : Name) → Events.may_seek s c ≡ true → Made s (Seek c kind name) (Events.after_seek s c (record { kind = kind; name = name })) Done
  LoadsEnd : (c : ℕ) (q : Search) → search_at s c ≡ Some q → Events.load_link s c q q.place ≡ some_outcome (Events.search_over (Events.after_seeing s c) c None) Missed
      → Made s (LoadLink c) (Events.search_over (Events.after_seeing s c) c None) Missed
  LoadsSlot : (c t : ℕ) (q : Search) → search_at s c ≡ Some q
      → Events.load_link s c q q.place ≡ some_outcome (Events.with_search_at (Events.after_seeing s c) c q (AtNumber t)) (Word (suc t))
      → Made s (LoadLink c) (Events.with_search_at (Events.after_seeing s c) c q (AtNumber t)) (Word (suc t))
  LoadsWord : (c w : ℕ) (q : Search) (p : SearchPlace) → search_at s c ≡ Some q → Events.load_searched s c q q.place ≡ some_outcome (Events.with_search_at s c q p) (Word w)
      → Made s (LoadRecord (OfSearch c)) (Events.with_search_at s c q p) (Word w)
  LoadsLast : (c : ℕ) (q : Search) (e : Entry) → search_at s c ≡ Some q → Events.load_searched s c q q.place ≡ some_outcome (Events.search_over s c (Some e)) (Found e)
      → Made s (LoadRecord (OfSearch c)) (Events.search_over s c (Some e)) (Found e)
  LoadsPassive : (c n k t : ℕ) → Made s (LoadRecord (OfPassive c n k)) s (Word (Events.word (row_at s.rows t) k))
  LoadsLocal : (id k t : ℕ) → Made s (LoadRecord (OfLocal id k)) s (Word (Events.word (row_at s.rows t) k))
  LoadsCompared : (c t : ℕ) → Made s (LoadRecord (OfCompared c)) s (Word (row_at s.rows t).value)
  StoresRow : (t k v : ℕ) → Events.may_write s t ≡ true → Made s (StoreSlot t k v) (Events.after_row_store s t k v) Done
  StoresCount : (t k v : ℕ) → (Events.may_write s t && nat_lt (k - 5) s.settings.cpus) ≡ true → Made s (StoreSlot t k v) (Events.after_count_store s t (k - 5) v) Done
  StoresLink : (t v : ℕ) → Events.may_write s t ≡ true → Made s (StoreNext t v) (Events.after_link_store s t v) Done
  Publishes : (t : ℕ) (e : Entry) → Events.entry_of t (row_at s.rows t) ≡ Some e → Events.may_publish s t e ≡ true → Made s (Publish t) (Events.after_publish s t e) Done
  -- what leads to it is the head, or the link of a slot
  Unpublishes : (t head : ℕ) (next : List ℕ) (e : Entry) → slot_at s.slots t ≡ Live e → at_rest s.due ≡ true
      → Events.with_link_past s t (slot_before s.slots s.next t) ≡ record s { head = head; next = next }
      → Made s (Unpublish t) (Events.with_retired (record s { head = head; next = next }) t e) Done
  Republishes : (t u head : ℕ) (next : List ℕ) (e f : Entry) → Events.entry_of t (row_at s.rows t) ≡ Some e → slot_at s.slots u ≡ Live f → Events.may_republish s t u e f ≡ true
      → Events.with_link_to s t (slot_before s.slots s.next u) ≡ record s { head = head; next = next }
      → Made s (Republish t u) (Events.with_replaced (record s { head = head; next = next }) t u e f) Done
  Tells : (to : Option ℕ) → Made s (Tell to) s Done
  HearsCpu : Made s (Hear None) s Done
  Hears : (c : ℕ) → Events.is_idle s c ≡ true → Made s (Hear (Some c)) (Events.after_seeing s c) Done
  Glances : (c : ℕ) → Made s (Snapshot None c) s (Word (section_at s c))
  Snaps : (t c : ℕ) → Events.is_snapshot_due s.due t c ≡ true → Made s (Snapshot (Some t) c) (Events.after_snapshot s t c) (Word (section_at s c))
  LooksAgain : (c : ℕ) → Made s (Look None c) s (Word (section_at s c))
  Looks : (t c : ℕ) → Events.may_examine s t c ≡ true → Made s (Look (Some t) c) (Events.after_look s t c) (Word (section_at s c))
  AddsPassive : (c n t : ℕ) → slot_of s.slots n ≡ Some t → Events.may_add s c n t ≡ true → Made s (PassiveAdd c n) (Events.after_add s c t) (Word (passive_at s.passive c t))
  SubsPassive : (c n t : ℕ) → slot_of s.slots n ≡ Some t → Events.may_sub s c t ≡ true → Made s (PassiveSub c n) (Events.after_sub s c t) (Word (passive_at s.passive c t))
  LooksPassive : (t c : ℕ) → Events.may_look_passive s t c ≡ true → Made s (PassiveLook t c) (Events.after_look_passive s t c) (Word (passive_at s.passive c t))
  Counts : (c t : ℕ) (e : Entry) → found_at s c ≡ Some e → slot_of s.slots e.number ≡ Some t → Events.may_count s c t ≡ true
      → Made s (CountAdd c) (Events.after_count_add s c e.number t) (Word (count_at s.counts c t))
  Splits : (c n : ℕ) → hand_at s c ≡ Taking n → Made s (SplitRef c) (Events.after_split s c n) (Ref (Events.least_id s.locals))
  Joins : (c n id : ℕ) → Events.number_standing (local_at s.locals id) ≡ Some n → Events.is_idle s c ≡ true → Made s (JoinRef c id) (Events.after_hand s c (Giving n id) id (Lifted c)) Done
  CountsDown : (c n id t : ℕ) → hand_at s c ≡ Giving n id → slot_of s.slots n ≡ Some t → (count_at s.counts c t == count_at s.nets c t) ≡ true
      → Made s (CountDown c) (Events.after_count_down s c t id) (Word (count_at s.counts c t))
  FindsCollected : (c n id : ℕ) → hand_at s c ≡ Giving n id → Made s (CountDown c) (Events.after_collected s c n id) Collected
  SplitsBack : (c n id : ℕ) → hand_at s c ≡ Back n id → Made s (SplitBack c) (Events.after_hand s c Empty id (Standing n)) (Ref id)
  Collects : (t c : ℕ) → Events.may_collect s t c ≡ true → Made s (Collect t c) (Events.after_collect s t c) (Word (count_at s.counts c t))
  AddsTotal : (t old : ℕ) → s.due ≡ Adding t old → Made s (TotalAdd t) (Events.after_total s t (total_at s.totals t + old - bias)) Done
  JoinsKeeper : (id n t : ℕ) → Events.number_standing (local_at s.locals id) ≡ Some n → slot_of s.slots n ≡ Some t → Events.may_join_keeper s t ≡ true
      → Made s (JoinKeeper id) (Events.after_join_keeper s id t) Done
  SubsTotal : (t : ℕ) → s.due ≡ Subtracting t → Made s (TotalSub t) (Events.after_total s t (total_at s.totals t - 1)) Done
  KeepsDriver : (t id n u : ℕ) → Events.number_standing (local_at s.locals id) ≡ Some n → slot_of s.slots n ≡ Some u → Events.may_keep s t u ≡ true → Made s (Keep t id) (Events.after_keep s t id n) Done
  SubsKept : (t d u : ℕ) → kept_at s.keeps t ≡ Some d → slot_of s.slots d ≡ Some u → (Events.is_iface_slot (slot_at s.slots t) && Events.is_drained s t) ≡ true
      → Made s (KeptSub t) (Events.after_kept_sub s t u) Done
  Vacates : (t : ℕ) → Events.may_vacate s t ≡ true → Made s (Vacate t) (Events.after_vacate s t) Done
  Shows : (t v : ℕ) → Made s (Show t) (Events.after_live_store s t v) Done
  Hides : (t : ℕ) → Made s (Hide t) (Events.after_live_store s t 0) Done
  Recalls : (c t : ℕ) → Events.may_recall s c t ≡ true → Made s (Recall c t) (Events.after_seeing s c) (Word (live_at s.lives t))
  RecallsHead : (c : ℕ) → Events.may_recall_head s c ≡ true → Made s (RecallHead c) (Events.after_seeing s c) (Word s.head)
  Refinds : (c t n : ℕ) (e : Entry) → slot_at s.slots t ≡ Live e → Events.may_refind s c t n e ≡ true → Made s (Refind c t n) (Events.after_refind s c e) (Word (live_at s.lives t))
  Tries : (c t n : ℕ) → Events.may_try s c t n ≡ true → Made s (Try c t n) (Events.after_try s c t n) (Word (passive_at s.passive c t))
  ConfirmsTry : (c t n : ℕ) → hand_at s c ≡ Trying t n → Events.may_confirm s c n (slot_at s.slots t) ≡ true → Made s (Confirm c) (Events.after_confirm s c) (Word (live_at s.lives t))
  TakesBack : (c t n : ℕ) → hand_at s c ≡ Trying t n → Made s (TakeBack c) (Events.after_take_back s c t) (Word (passive_at s.passive c t))

-- so is the outcome, if there is one
abbrev Makes : State → Event → Option Outcome → Type 0
Makes s e None = Unit {0}
Makes s e (Some o) = Made s e o.state o.reply

on_test : (s : State) (e : Event) (b : Bool) (t : State) (r : Reply) → (b ≡ true → Made s e t r) → Makes s e (guard b (some_outcome t r))
on_test s e b t r made = grind arith

on_value : {X : Type 0} (s : State) (e : Event) (x : Option X) (f : X → Option Outcome) → ((y : X) → x ≡ Some y → Makes s e (f y)) → Makes s e (with_some x f)
on_value s e x f made = grind arith

on_either : (s : State) (e : Event) (b : Bool) (o p : Option Outcome) → (b ≡ true → Makes s e o) → Makes s e p → Makes s e (if b then o else p)
on_either s e b o p first second = grind arith

makes_link : (s : State) (c : ℕ) (q : Search) (x : Option ℕ) → search_at s c ≡ Some q → Events.link_at s q.place ≡ x → Makes s (LoadLink c) (with_some x (Events.link_loaded s c q))
makes_link s c q None at of = tt
makes_link s c q (Some zero) at of = LoadsEnd c q at (ap (λ (y : Option ℕ). with_some y (Events.link_loaded s c q)) of)
makes_link s c q (Some (suc t)) at of = LoadsSlot c t q at (ap (λ (y : Option ℕ). with_some y (Events.link_loaded s c q)) of)

makes_searched : (s : State) (c : ℕ) (q : Search) (x : Option Loaded) → search_at s c ≡ Some q → loaded_at q q.place (row_of_place s.rows q.place) ≡ x
    → Makes s (LoadRecord (OfSearch c)) (Events.outcome_of s c q x)
makes_searched s c q None at of = tt
makes_searched s c q (Some (On p w)) at of = LoadsWord c w q p at (ap (Events.outcome_of s c q) of)
makes_searched s c q (Some (Over e)) at of = LoadsLast c q e at (ap (Events.outcome_of s c q) of)

makes_record : (s : State) (of : RecordOf) → Makes s (LoadRecord of) (Events.load_record s of)
makes_record s (OfSearch c) = on_value s (LoadRecord (OfSearch c)) (search_at s c) _ (λ q at. makes_searched s c q (loaded_at q q.place (row_of_place s.rows q.place)) at refl)
makes_record s (OfPassive c n k) = on_value s (LoadRecord (OfPassive c n k)) (slot_of s.slots n) _ (λ t of. on_test s (LoadRecord (OfPassive c n k)) _ _ _ (λ may. LoadsPassive c n k t))
makes_record s (OfLocal id k) = on_value s (LoadRecord (OfLocal id k)) (Events.number_standing (local_at s.locals id)) _
    (λ n at. on_value s (LoadRecord (OfLocal id k)) (slot_of s.slots n) _ (λ t of. on_test s (LoadRecord (OfLocal id k)) _ _ _ (λ may. LoadsLocal id k t)))
makes_record s (OfCompared c) = on_value s (LoadRecord (OfCompared c)) (search_at s c) _
    (λ q at. on_value s (LoadRecord (OfCompared c)) (Events.compared_slot q.place) _ (λ t of. LoadsCompared c t))

makes_unlinked : (s : State) (t : ℕ) (e : Entry) (p : Option ℕ) → slot_at s.slots t ≡ Live e → at_rest s.due ≡ true → slot_before s.slots s.next t ≡ p
    → Made s (Unpublish t) (Events.with_retired (Events.with_link_past s t p) t e) Done
makes_unlinked s t e None at rest is = Unpublishes t _ s.next e at rest (ap (Events.with_link_past s t) is)
makes_unlinked s t e (Some p) at rest is = Unpublishes t s.head _ e at rest (ap (Events.with_link_past s t) is)

makes_swapped : (s : State) (t u : ℕ) (e f : Entry) (p : Option ℕ) → Events.entry_of t (row_at s.rows t) ≡ Some e → slot_at s.slots u ≡ Live f → Events.may_republish s t u e f ≡ true → slot_before s.slots s.next u ≡ p
    → Made s (Republish t u) (Events.with_replaced (Events.with_link_to s t p) t u e f) Done
makes_swapped s t u e f None of at may is = Republishes t u _ s.next e f of at may (ap (Events.with_link_to s t) is)
makes_swapped s t u e f (Some p) of at may is = Republishes t u s.head _ e f of at may (ap (Events.with_link_to s t) is)

makes_republished : (s : State) (t u : ℕ) (e : Entry) (x : Slot) → Events.entry_of t (row_at s.rows t) ≡ Some e → slot_at s.slots u ≡ x → Makes s (Republish t u) (Events.republish s t u e x)
makes_republished s t u e (Live f) of at = on_test s (Republish t u) _ _ _ (λ may. makes_swapped s t u e f (slot_before s.slots s.next u) of at may refl)
makes_republished s t u e _ of at = tt

-- by what the slot t has
makes_slot : (s : State) (t : ℕ) (x : Slot) → slot_at s.slots t ≡ x
    → Makes s (Unpublish t) (Events.unpublish s t x) × Makes s (Show t) (Events.show s t x) × ((c n : ℕ) → Makes s (Refind c t n) (Events.refind s c t n x))
makes_slot s t (Live e) at = (
  on_test s (Unpublish t) _ _ _ (λ rest. makes_unlinked s t e (slot_before s.slots s.next t) at rest refl),
  on_test s (Show t) _ _ _ (λ rest. Shows t e.number),
  λ c n. on_test s (Refind c t n) _ _ _ (λ may. Refinds c t n e at may),
)
makes_slot s t _ at = (tt, tt, λ c n. tt)

-- by what is in the hand of c
makes_hand : (s : State) (c : ℕ) (h : Hand) → hand_at s c ≡ h
    → Makes s (SplitRef c) (Events.split_ref s c h) × Makes s (CountDown c) (Events.count_down s c h) × Makes s (SplitBack c) (Events.split_back s c h)
    × Makes s (Confirm c) (Events.confirm s c h) × Makes s (TakeBack c) (Events.take_back s c h)
makes_hand s c Empty at = (tt, tt, tt, tt, tt)
makes_hand s c (Taking n) at = (Splits c n at, tt, tt, tt, tt)
makes_hand s c (Giving n id) at = (
  tt,
  on_value s (CountDown c) (slot_of s.slots n) _ (λ t of.
      on_either s (CountDown c) (count_at s.counts c t == count_at s.nets c t) _ _ (λ same. CountsDown c n id t at of same) (FindsCollected c n id at)),
  tt,
  tt,
  tt,
)
makes_hand s c (Back n id) at = (tt, tt, SplitsBack c n id at, tt, tt)
makes_hand s c (Trying t n) at = (tt, tt, tt, on_test s (Confirm c) _ _ _ (λ may. ConfirmsTry c t n at may), TakesBack c t n at)

-- by what the keeper must do next
makes_due : (s : State) (t : ℕ) (due : Due) → s.due ≡ due → Makes s (TotalAdd t) (Events.total_add s t due) × Makes s (TotalSub t) (Events.total_sub s t due)
makes_due s t (Adding u old) at = (on_test s (TotalAdd t) _ _ _ (λ same. AddsTotal t old (at ∙ ap (λ (v : ℕ). Adding v old) (eqb-true u t same))), tt)
makes_due s t (Subtracting u) at = (tt, on_test s (TotalSub t) _ _ _ (λ same. SubsTotal t (at ∙ ap Subtracting (eqb-true u t same))))
makes_due s t _ at = (tt, tt)

makes : (s : State) (e : Event) → Makes s e (step s e)
makes s (Seat c) = on_test s (Seat c) _ _ _ (λ may. Seats c may)
makes s (Enter c) = on_test s (Enter c) _ _ _ (λ may. Enters c may)
makes s (Exit c) = on_test s (Exit c) _ _ _ (λ may. Exits c may)
makes s (Seek c kind name) = on_test s (Seek c kind name) _ _ _ (λ may. Seeks c kind name may)
makes s (LoadLink c) = on_value s (LoadLink c) (search_at s c) _ (λ q at. makes_link s c q (Events.link_at s q.place) at refl)
makes s (LoadRecord of) = makes_record s of
makes s (StoreSlot t k v) = on_either s (StoreSlot t k v) (nat_lt k 5) _ _
    (λ low. on_test s (StoreSlot t k v) _ _ _ (λ may. StoresRow t k v may)) (on_test s (StoreSlot t k v) _ _ _ (λ may. StoresCount t k v may))
makes s (StoreNext t v) = on_test s (StoreNext t v) _ _ _ (λ may. StoresLink t v may)
makes s (Publish t) = on_value s (Publish t) (Events.entry_of t (row_at s.rows t)) _ (λ e of. on_test s (Publish t) _ _ _ (λ may. Publishes t e of may))
makes s (Unpublish t) = (makes_slot s t (slot_at s.slots t) refl).0
makes s (Republish t u) = on_value s (Republish t u) (Events.entry_of t (row_at s.rows t)) _ (λ e of. makes_republished s t u e (slot_at s.slots u) of refl)
makes s (Tell None) = on_test s (Tell None) _ _ _ (λ may. Tells None)
makes s (Tell (Some c)) = on_test s (Tell (Some c)) _ _ _ (λ may. Tells (Some c))
makes s (Hear None) = on_test s (Hear None) _ _ _ (λ may. HearsCpu)
makes s (Hear (Some c)) = on_test s (Hear (Some c)) _ _ _ (λ may. Hears c may)
makes s (Snapshot None c) = on_test s (Snapshot None c) _ _ _ (λ may. Glances c)
makes s (Snapshot (Some t) c) = on_test s (Snapshot (Some t) c) _ _ _ (λ may. Snaps t c may)
makes s (Look None c) = on_test s (Look None c) _ _ _ (λ may. LooksAgain c)
makes s (Look (Some t) c) = on_test s (Look (Some t) c) _ _ _ (λ may. Looks t c may)
makes s (PassiveAdd c n) = on_value s (PassiveAdd c n) (slot_of s.slots n) _ (λ t of. on_test s (PassiveAdd c n) _ _ _ (λ may. AddsPassive c n t of may))
makes s (PassiveSub c n) = on_value s (PassiveSub c n) (slot_of s.slots n) _ (λ t of. on_test s (PassiveSub c n) _ _ _ (λ may. SubsPassive c n t of may))
makes s (PassiveLook t c) = on_test s (PassiveLook t c) _ _ _ (λ may. LooksPassive t c may)
makes s (CountAdd c) = on_value s (CountAdd c) (found_at s c) _ (λ e at. on_value s (CountAdd c) (slot_of s.slots e.number) _ (λ t of. on_test s (CountAdd c) _ _ _ (λ may. Counts c t e at of may)))
makes s (SplitRef c) = (makes_hand s c (hand_at s c) refl).0
makes s (JoinRef c id) = on_value s (JoinRef c id) (Events.number_standing (local_at s.locals id)) _ (λ n at. on_test s (JoinRef c id) _ _ _ (λ idle. Joins c n id at idle))
makes s (CountDown c) = (makes_hand s c (hand_at s c) refl).1
makes s (SplitBack c) = (makes_hand s c (hand_at s c) refl).2
makes s (Collect t c) = on_test s (Collect t c) _ _ _ (λ may. Collects t c may)
makes s (TotalAdd t) = (makes_due s t s.due refl).0
makes s (JoinKeeper id) = on_value s (JoinKeeper id) (Events.number_standing (local_at s.locals id)) _
    (λ n at. on_value s (JoinKeeper id) (slot_of s.slots n) _ (λ t of. on_test s (JoinKeeper id) _ _ _ (λ may. JoinsKeeper id n t at of may)))
makes s (TotalSub t) = (makes_due s t s.due refl).1
makes s (Keep t id) = on_value s (Keep t id) (Events.number_standing (local_at s.locals id)) _
    (λ n at. on_value s (Keep t id) (slot_of s.slots n) _ (λ u of. on_test s (Keep t id) _ _ _ (λ may. KeepsDriver t id n u at of may)))
makes s (KeptSub t) = on_value s (KeptSub t) (kept_at s.keeps t) _ (λ d at. on_value s (KeptSub t) (slot_of s.slots d) _ (λ u of. on_test s (KeptSub t) _ _ _ (λ may. SubsKept t d u at of may)))
makes s (Vacate t) = on_test s (Vacate t) _ _ _ (λ may. Vacates t may)
makes s (Show t) = (makes_slot s t (slot_at s.slots t) refl).1
makes s (Hide t) = on_test s (Hide t) _ _ _ (λ may. Hides t)
makes s (Recall c t) = on_test s (Recall c t) _ _ _ (λ may. Recalls c t may)
makes s (RecallHead c) = on_test s (RecallHead c) _ _ _ (λ may. RecallsHead c may)
makes s (Refind c t n) = (makes_slot s t (slot_at s.slots t) refl).2 c n
makes s (Try c t n) = on_test s (Try c t n) _ _ _ (λ may. Tries c t n may)
makes s (Confirm c) = (makes_hand s c (hand_at s c) refl).3
makes s (TakeBack c) = (makes_hand s c (hand_at s c) refl).4

pub made : (s : State) (e : Event) (o : Outcome) → step s e ≡ Some o → Made s e o.state o.reply
made s e o is = subst (Makes s e) is (makes s e)

-- what is so of no outcome, and of each that the event may be made with, is so of its outcome
pub each_event : (P : Option Outcome → Type 0) (s : State) (e : Event) → P None → ((n : State) (r : Reply) → Made s e n r → P (some_outcome n r)) → P (step s e)
each_event P s e none some = by (step s e) refl
  where
    by : (o : Option Outcome) → step s e ≡ o → P o
    by None is = none
    by (Some o) is = some o.state o.reply (made s e o is)
