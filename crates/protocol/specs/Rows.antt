-- Worked rows, event by event: a search along the frozen link of an unlinked entry; a reference given
-- back while its count is collected; references without a section, while their entry is detached and
-- their slot is reused; a search beside a replacement, and one that is at an entry while it and the
-- next one are replaced; a driver that is detached before its interface.
use Rattle.std.specs.Prelude.{◌≡◌, ℕ, ◌+◌, ◌-◌, List, ◌∷◌, [], ◌++◌, replicate, Option, Some, None}
use Rattle.protocol.specs.Types.{Driver, Iface, Entry, Name, Settings, MOST_CPUS, Attach, Detach, Replace, Vacant, Live, Retired, Mark}
use Rattle.protocol.specs.declared.event.Event.{Event}
use Rattle.protocol.specs.declared.event.Event.TheVariants.{Seat, Enter, Exit, Seek, LoadLink, LoadRecord, Tell, Hear, PassiveAdd, PassiveSub, CountAdd, SplitRef, JoinRef, CountDown, SplitBack, Recall, RecallHead, Refind, Try, Confirm, TakeBack}
use Rattle.protocol.specs.declared.event.Event.TheVariants.{StoreSlot, StoreNext, Publish, Unpublish, Republish, Snapshot, Look, PassiveLook, Collect, TotalAdd, JoinKeeper, TotalSub, Keep, KeptSub, Vacate, Show, Hide}
use Rattle.protocol.specs.declared.event.RecordOf.TheVariants.{Search as OfSearch}
use Rattle.protocol.specs.declared.event.Reply.{Reply}
use Rattle.protocol.specs.declared.event.Reply.TheVariants.{Done, Word, Found, Ref, Collected}
use Rattle.protocol.specs.declared.state.SearchPlace.TheVariants.{AtHigh, AtNext}
use Rattle.protocol.specs.declared.state.LocalPlace.TheVariants.{Free}
use Rattle.registry_values.specs.Common.{key_of, kind_word, bias, no_mark}
use Rattle.protocol.specs.State.{State, no_words, opening}
use Rattle.protocol.specs.Events.{Outcome, step, state_after, words_of, snapshot_mark}
use Rattle.protocol.specs.Model.{run_of_events, empty_run, picture}
use Rattle.protocol.specs.Laws.{after}

abbrev pub reply_of : Option Outcome → Option Reply
reply_of None = None
reply_of (Some o) = Some o.reply

-- the replies of all events in order; None where one isn't allowed
abbrev pub replies : State → List Event → List (Option Reply)
replies s [] = []
replies s (e ∷ es) = reply_of (step s e) ∷ replies (state_after s (step s e)) es

-- so many times Done
abbrev pub done_replies : ℕ → List (Option Reply)
done_replies n = replicate n (Some Done)

-- one reply
abbrev pub loads : ℕ → List (Option Reply)
loads w = Some (Word w) ∷ []

-- an attach of the entry e by c: its words, the count words of all CPUs, its link and the link to it, and a note
abbrev pub attach_events : ℕ → Entry → ℕ → List Event → List Event
attach_events c e link counts =
    StoreSlot e.slot 0 e.number ∷ StoreSlot e.slot 1 (kind_word e.rec.kind) ∷ StoreSlot e.slot 2 e.rec.name.high ∷ StoreSlot e.slot 3 e.rec.name.low ∷ StoreSlot e.slot 4 e.rec.value
    ∷ (counts ++ StoreNext e.slot link ∷ Publish e.slot ∷ Tell None ∷ Hear (Some c) ∷ [])

-- the events lead from one state to the other, and these are their replies
abbrev pub Gives : State → List Event → List (Option Reply) → State → Type 0
Gives s events answers t = (replies s events ≡ answers) × (after s events ≡ t)

-- Frozen link

abbrev pub two_cpus : Settings
two_cpus = record { cpus = 2; slots = 3; change_limit = 1000; section_limit = 1000; passive_limit = 100; count_limit = 100 }

abbrev pub wm0 : Name
wm0 = record { high = 8605587239533019136; low = 0 }

abbrev pub wm1 : Name
wm1 = record { high = 8605588339044646912; low = 0 }

abbrev pub wm2 : Name
wm2 = record { high = 8605589438556274688; low = 0 }

-- the three drivers
abbrev pub driver : ℕ → ℕ → Name → ℕ → Entry
driver n t name value = record { number = n; slot = t; rec = record { kind = Driver; name = name; value = value } }

abbrev pub first : Entry
first = driver 1 0 wm0 10

abbrev pub second : Entry
second = driver 2 1 wm1 11

abbrev pub third : Entry
third = driver 3 2 wm2 12

-- the detach of the slot t by CPU 1
abbrev pub detach_events : ℕ → List Event
detach_events t = Unpublish t ∷ Snapshot (Some t) 0 ∷ Snapshot (Some t) 1 ∷ Tell None ∷ Hear (Some 1) ∷ []

-- what advance tries for the slot t: CPU 0 hasn't passed
abbrev pub try_events : ℕ → List Event
try_events t = Look (Some t) 0 ∷ PassiveLook t 0 ∷ Collect t 0 ∷ Vacate t ∷ []

abbrev pub try_replies : List (Option Reply)
try_replies = Some (Word 1) ∷ None ∷ None ∷ None ∷ []

-- the freeing of the slot t
abbrev pub free_events : ℕ → List Event
free_events t = Look (Some t) 0 ∷ Look (Some t) 1 ∷ PassiveLook t 0 ∷ PassiveLook t 1 ∷ Collect t 0 ∷ TotalAdd t ∷ Collect t 1 ∷ TotalAdd t ∷ Vacate t ∷ []

abbrev pub free_replies : List (Option Reply)
free_replies = Some (Word 2) ∷ Some (Word 0) ∷ Some (Word 0) ∷ Some (Word 0) ∷ Some (Word bias) ∷ Some Done ∷ Some (Word bias) ∷ Some Done ∷ Some Done ∷ []

-- wm0, wm1 and wm2 are attached in the slots 0, 1 and 2
abbrev pub attaches : List Event
attaches = Seat 0 ∷ Seat 1
    ∷ (attach_events 1 first 0 (StoreSlot 0 5 bias ∷ StoreSlot 0 6 bias ∷ [])
    ++ attach_events 1 second 1 (StoreSlot 1 5 bias ∷ StoreSlot 1 6 bias ∷ [])
    ++ attach_events 1 third 2 (StoreSlot 2 5 bias ∷ StoreSlot 2 6 bias ∷ []))

abbrev pub all_three : State
all_three = record (opening two_cpus) {
  head = 3;
  next = 0 ∷ 1 ∷ 2 ∷ [];
  rows = words_of first ∷ words_of second ∷ words_of third ∷ [];
  counts = replicate 3 (bias ∷ bias ∷ replicate (MOST_CPUS - 2) 0);
  history = Attach first ∷ Attach second ∷ Attach third ∷ [];
  seated = 2;
  seen = 0 ∷ 3 ∷ [];
  nets = replicate 3 (replicate MOST_CPUS bias);
  slots = Live first ∷ Live second ∷ Live third ∷ [];
}

-- CPU 0 seeks wm0, goes past wm2 and has loaded two words of wm1
abbrev pub search_begins : List Event
search_begins = Enter 0 ∷ Seek 0 Driver wm0 ∷ LoadLink 0 ∷ LoadRecord (OfSearch 0) ∷ LoadRecord (OfSearch 0) ∷ LoadRecord (OfSearch 0) ∷ LoadRecord (OfSearch 0) ∷ LoadLink 0 ∷ LoadRecord (OfSearch 0)
    ∷ LoadRecord (OfSearch 0) ∷ []

abbrev pub search_case : State
search_case = record all_three {
  section = 1 ∷ 0 ∷ [];
  begins = Some 3 ∷ None ∷ [];
  depths = 1 ∷ 0 ∷ [];
  seen = 3 ∷ 3 ∷ [];
  searches = Some (record { key = key_of first; start = 3; place = AtHigh 1 2 2 }) ∷ None ∷ [];
}

-- wm1 and then wm0 are detached, and neither slot is freed: CPU 0 hasn't passed
abbrev pub detaches : List Event
detaches = detach_events 1 ++ detach_events 0 ++ try_events 1 ++ try_events 0

abbrev pub marks_taken : List Mark
marks_taken = snapshot_mark 1 ∷ snapshot_mark 0 ∷ replicate (MOST_CPUS - 2) no_mark

-- the link of wm1 is frozen
abbrev pub unlinked_case : State
unlinked_case = record search_case {
  next = 0 ∷ 1 ∷ 0 ∷ [];
  history = Attach first ∷ Attach second ∷ Attach third ∷ Detach 2 ∷ Detach 1 ∷ [];
  seen = 3 ∷ 5 ∷ [];
  slots = Retired first ∷ Retired second ∷ Live third ∷ [];
  marks = marks_taken ∷ marks_taken ∷ replicate MOST_CPUS no_mark ∷ [];
}

-- the search goes on along it and finds wm0
abbrev pub search_goes_on : List Event
search_goes_on = LoadRecord (OfSearch 0) ∷ LoadRecord (OfSearch 0) ∷ LoadLink 0 ∷ LoadRecord (OfSearch 0) ∷ LoadRecord (OfSearch 0) ∷ LoadRecord (OfSearch 0) ∷ LoadRecord (OfSearch 0)
    ∷ LoadRecord (OfSearch 0) ∷ []

abbrev pub has_found : State
has_found = record unlinked_case { seen = 5 ∷ 5 ∷ []; searches = None ∷ None ∷ []; found = Some first ∷ None ∷ [] }

-- after its exit both slots are freed
abbrev pub frees : List Event
frees = Exit 0 ∷ (free_events 1 ++ free_events 0)

-- the row frozen-link
pub record FrozenLink : Type 0 where
  pub attached : Gives (opening two_cpus) attaches (done_replies 35) all_three
  pub begun : Gives all_three search_begins (done_replies 2 ++ loads 3 ++ loads 3 ++ loads 2 ++ loads wm2.high ++ loads 0 ++ loads 2 ++ loads 2 ++ loads 2) search_case
  pub detached : Gives search_case detaches (done_replies 1 ++ loads 1 ++ loads 0 ++ done_replies 3 ++ loads 1 ++ loads 0 ++ done_replies 2 ++ try_replies ++ try_replies) unlinked_case
  pub gone_on : Gives unlinked_case search_goes_on (loads wm1.high ++ loads 0 ++ loads 1 ++ loads 1 ++ loads 2 ++ loads wm0.high ++ loads 0 ++ Some (Found first) ∷ []) has_found
  pub is_freed : replies has_found frees ≡ Some Done ∷ (free_replies ++ free_replies)
  pub are_vacant : (after has_found frees).slots ≡ Vacant ∷ Vacant ∷ Live third ∷ []

-- Collect race

abbrev pub one_cpu : Settings
one_cpu = record { cpus = 1; slots = 1; change_limit = 1000; section_limit = 1000; passive_limit = 100; count_limit = 100 }

abbrev pub wm : Name
wm = record { high = 8605534462974885888; low = 0 }

abbrev pub wm_entry : Entry
wm_entry = driver 1 0 wm 7

-- wm is attached with the value 7, found, counted, and detached after the exit
abbrev pub count_and_detach_events : List Event
count_and_detach_events = Seat 0 ∷ (attach_events 0 wm_entry 0 (StoreSlot 0 5 bias ∷ [])
    ++ Enter 0 ∷ Seek 0 Driver wm ∷ LoadLink 0 ∷ LoadRecord (OfSearch 0) ∷ LoadRecord (OfSearch 0) ∷ LoadRecord (OfSearch 0) ∷ LoadRecord (OfSearch 0) ∷ LoadRecord (OfSearch 0)
    ∷ CountAdd 0 ∷ SplitRef 0 ∷ Exit 0 ∷ Unpublish 0 ∷ Snapshot (Some 0) 0 ∷ [])

abbrev pub before_race : State
before_race = after (opening one_cpu) count_and_detach_events

-- the CPU has the reference in its hand when its word is collected
abbrev pub race_events : List Event
race_events = Look (Some 0) 0 ∷ PassiveLook 0 0 ∷ JoinRef 0 0 ∷ Collect 0 0 ∷ CountDown 0 ∷ TotalAdd 0 ∷ Vacate 0 ∷ SplitBack 0 ∷ JoinKeeper 0 ∷ TotalSub 0 ∷ Vacate 0 ∷ []

-- the row collect-race
pub record CollectRace : Type 0 where
  pub detached : replies (opening one_cpu) count_and_detach_events
      ≡ done_replies 13 ++ loads 1 ++ loads 1 ++ loads 2 ++ loads wm.high ++ loads 0 ++ Some (Found wm_entry) ∷ loads bias ++ Some (Ref 0) ∷ Some Done ∷ Some Done ∷ loads 2
  pub race : replies before_race race_events ≡ Some (Word 2) ∷ Some (Word 0) ∷ Some Done ∷ Some (Word 281474976710657) ∷ Some Collected ∷ Some Done ∷ None ∷ Some (Ref 0) ∷ Some Done ∷ Some Done
      ∷ Some Done ∷ []
  pub counted : (run_of_events (empty_run before_race) race_events).counted ≡ record { taken = 10; refused = 1; last = Some Done }

-- Try race

-- no reply: the event isn't allowed
abbrev pub refused : List (Option Reply)
refused = None ∷ []

-- the next occupant of the slot of wm2
abbrev pub fourth : Entry
fourth = driver 5 2 wm2 13

-- wm2 is shown, and CPU 0 tries it once it has seen it: it is busy until it confirms, and then has a reference
abbrev pub take_events : List Event
take_events = Show 2 ∷ Try 0 2 3 ∷ Recall 0 2 ∷ Try 0 2 3 ∷ PassiveAdd 0 3 ∷ Confirm 0 ∷ PassiveSub 0 3 ∷ []

-- wm2 is hidden and detached between: CPU 0 comes too late
abbrev pub detach_between : List Event
detach_between = Try 0 2 3 ∷ Hide 2 ∷ Unpublish 2 ∷ Snapshot (Some 2) 0 ∷ Snapshot (Some 2) 1 ∷ Confirm 0 ∷ Recall 0 2 ∷ TakeBack 0 ∷ []

-- wm2 is detached and wasn't hidden: its live word isn't honest, and can't be recalled
abbrev pub detach_unhidden : List Event
detach_unhidden = Unpublish 2 ∷ Snapshot (Some 2) 0 ∷ Snapshot (Some 2) 1 ∷ Recall 0 2 ∷ []

-- wm2 is the newest live entry, until it is detached
abbrev pub head_events : List Event
head_events = RecallHead 0 ∷ Unpublish 2 ∷ Snapshot (Some 2) 0 ∷ Snapshot (Some 2) 1 ∷ RecallHead 0 ∷ []

-- wm2 is shown, and CPU 0 finds it again, in a section alone, and by its number
abbrev pub refind_events : List Event
refind_events = Show 2 ∷ Refind 0 2 3 ∷ Enter 0 ∷ Refind 0 2 2 ∷ PassiveAdd 0 3 ∷ Refind 0 2 3 ∷ PassiveAdd 0 3 ∷ PassiveSub 0 3 ∷ Exit 0 ∷ []

-- CPU 0 is clear for a slot and tries it, and the slot is freed
abbrev pub free_between : List Event
free_between = Look (Some 2) 0 ∷ Look (Some 2) 1 ∷ PassiveLook 2 0 ∷ PassiveLook 2 1 ∷ Try 0 2 3 ∷ Confirm 0 ∷ Collect 2 0 ∷ TotalAdd 2 ∷ Collect 2 1 ∷ TotalAdd 2 ∷ Vacate 2 ∷ Confirm 0 ∷ []

-- the slot is reused, and no reference to the next occupant is got; its look finds what is tried
abbrev pub give_between : List Event
give_between = attach_events 1 fourth 2 (StoreSlot 2 5 bias ∷ StoreSlot 2 6 bias ∷ [])
    ++ Show 2 ∷ Confirm 0 ∷ Recall 0 2 ∷ Hide 2 ∷ Unpublish 2 ∷ Snapshot (Some 2) 0 ∷ Snapshot (Some 2) 1 ∷ Look (Some 2) 0 ∷ Look (Some 2) 1 ∷ PassiveLook 2 0 ∷ PassiveLook 2 1 ∷ Collect 2 0 ∷ TakeBack 0 ∷ PassiveLook 2 0
    ∷ Collect 2 0 ∷ []

-- the row try-race
pub record TryRace : Type 0 where
  pub tries : replies all_three take_events ≡ done_replies 1 ++ refused ++ loads 3 ++ loads 0 ++ refused ++ loads 3 ++ loads 1
  -- what is tried is no reference, and what is confirmed is one
  pub tried : (picture (after all_three (Recall 0 2 ∷ Try 0 2 3 ∷ []))).passive 0 3 ≡ 0
  pub confirmed : (picture (after all_three (Recall 0 2 ∷ Try 0 2 3 ∷ Confirm 0 ∷ []))).passive 0 3 ≡ 1
  pub detached : replies (after all_three take_events) detach_between ≡ loads 0 ++ done_replies 2 ++ loads 0 ++ loads 0 ++ refused ++ loads 0 ++ loads 1
  pub headed : replies all_three head_events ≡ loads 3 ++ done_replies 1 ++ loads 0 ++ loads 0 ++ loads 2
  pub refound : replies all_three refind_events ≡ done_replies 1 ++ refused ++ done_replies 1 ++ refused ++ refused ++ loads 3 ++ loads 0 ++ loads 1 ++ done_replies 1
  pub unhidden : replies (after all_three take_events) detach_unhidden ≡ done_replies 1 ++ loads 0 ++ loads 0 ++ refused
  pub freed : replies (after all_three (take_events ++ detach_between)) free_between
      ≡ loads 0 ++ loads 0 ++ loads 0 ++ loads 0 ++ loads 0 ++ refused ++ loads bias ++ done_replies 1 ++ loads bias ++ done_replies 2 ++ refused
  pub given : replies (after all_three (take_events ++ (detach_between ++ free_between))) give_between
      ≡ done_replies 12 ++ refused ++ loads 5 ++ done_replies 2 ++ loads 0 ++ loads 0 ++ loads 0 ++ loads 0 ++ loads 1 ++ loads 0 ++ refused ++ loads 1 ++ loads 0 ++ loads bias

-- Replace race

-- wm0 and wm1 are attached in the slots 0 and 1
abbrev pub attaches_two : List Event
attaches_two = Seat 0 ∷ Seat 1
    ∷ (attach_events 1 first 0 (StoreSlot 0 5 bias ∷ StoreSlot 0 6 bias ∷ []) ++ attach_events 1 second 1 (StoreSlot 1 5 bias ∷ StoreSlot 1 6 bias ∷ []))

abbrev pub only_two : State
only_two = record (opening two_cpus) {
  head = 2;
  next = 0 ∷ 1 ∷ 0 ∷ [];
  rows = words_of first ∷ words_of second ∷ no_words ∷ [];
  counts = (bias ∷ bias ∷ replicate (MOST_CPUS - 2) 0) ∷ (bias ∷ bias ∷ replicate (MOST_CPUS - 2) 0) ∷ replicate MOST_CPUS 0 ∷ [];
  history = Attach first ∷ Attach second ∷ [];
  seated = 2;
  seen = 0 ∷ 2 ∷ [];
  nets = replicate MOST_CPUS bias ∷ replicate MOST_CPUS bias ∷ replicate MOST_CPUS 0 ∷ [];
  slots = Live first ∷ Live second ∷ Vacant ∷ [];
}

-- what takes the place of wm0, in the slot 2
abbrev pub newer : Entry
newer = driver 3 2 wm0 20

-- its words are stored; CPU 0 seeks wm0, and has compared wm1
abbrev pub replace_begins : List Event
replace_begins = StoreSlot 2 0 3 ∷ StoreSlot 2 1 2 ∷ StoreSlot 2 2 wm0.high ∷ StoreSlot 2 3 wm0.low ∷ StoreSlot 2 4 20 ∷ StoreSlot 2 5 bias ∷ StoreSlot 2 6 bias ∷ StoreNext 2 0
    ∷ Enter 0 ∷ Seek 0 Driver wm0 ∷ LoadLink 0 ∷ LoadRecord (OfSearch 0) ∷ LoadRecord (OfSearch 0) ∷ LoadRecord (OfSearch 0) ∷ LoadRecord (OfSearch 0) ∷ []

abbrev pub replace_case : State
replace_case = record only_two {
  rows = words_of first ∷ words_of second ∷ words_of newer ∷ [];
  counts = replicate 3 (bias ∷ bias ∷ replicate (MOST_CPUS - 2) 0);
  section = 1 ∷ 0 ∷ [];
  begins = Some 2 ∷ None ∷ [];
  depths = 1 ∷ 0 ∷ [];
  seen = 2 ∷ 2 ∷ [];
  searches = Some (record { key = key_of first; start = 2; place = AtNext 1 }) ∷ None ∷ [];
}

-- it can't take the place of wm1, and takes that of wm0
abbrev pub replaces_one : List Event
replaces_one = Republish 2 1 ∷ Republish 2 0 ∷ Snapshot (Some 0) 0 ∷ Snapshot (Some 0) 1 ∷ []

abbrev pub loads_five : List Event
loads_five = LoadRecord (OfSearch 0) ∷ LoadRecord (OfSearch 0) ∷ LoadRecord (OfSearch 0) ∷ LoadRecord (OfSearch 0) ∷ LoadRecord (OfSearch 0) ∷ []

abbrev pub replace_replies : List (Option Reply)
replace_replies = refused ++ done_replies 1 ++ loads 1 ++ loads 0

-- the row replace-race
pub record ReplaceRace : Type 0 where
  pub attached : Gives (opening two_cpus) attaches_two (done_replies 24) only_two
  pub begun : Gives only_two replace_begins (done_replies 10 ++ loads 2 ++ loads 2 ++ loads 2 ++ loads wm1.high ++ loads 0) replace_case
  -- a search that comes to the link later finds the new entry
  pub later : replies replace_case (replaces_one ++ LoadLink 0 ∷ loads_five)
      ≡ replace_replies ++ loads 3 ++ loads 3 ++ loads 2 ++ loads wm0.high ++ loads 0 ++ Some (Found newer) ∷ []
  -- one that was there before finds the old one
  pub earlier : replies replace_case (LoadLink 0 ∷ (replaces_one ++ loads_five))
      ≡ loads 1 ++ replace_replies ++ loads 1 ++ loads 2 ++ loads wm0.high ++ loads 0 ++ Some (Found first) ∷ []
  -- and the old one's slot isn't freed before that section's exit
  pub kept : replies (after replace_case replaces_one) (try_events 0) ≡ try_replies

-- Replaced under a search

abbrev pub four_slots : Settings
four_slots = record { cpus = 2; slots = 4; change_limit = 1000; section_limit = 1000; passive_limit = 100; count_limit = 100 }

-- what takes the place of wm1, and then of wm0
abbrev pub newer_one : Entry
newer_one = driver 3 2 wm1 21

abbrev pub newer_two : Entry
newer_two = driver 4 3 wm0 20

-- the entry e takes the place of the one in the slot u, whose link it has
abbrev pub replace_events : Entry → ℕ → ℕ → List Event
replace_events e u link =
    StoreSlot e.slot 0 e.number ∷ StoreSlot e.slot 1 (kind_word e.rec.kind) ∷ StoreSlot e.slot 2 e.rec.name.high ∷ StoreSlot e.slot 3 e.rec.name.low ∷ StoreSlot e.slot 4 e.rec.value
    ∷ StoreSlot e.slot 5 bias ∷ StoreSlot e.slot 6 bias ∷ StoreNext e.slot link ∷ Republish e.slot u ∷ Snapshot (Some u) 0 ∷ Snapshot (Some u) 1 ∷ []

-- CPU 0 seeks wm0, has compared wm1 and is at it
abbrev pub stands_events : List Event
stands_events = Enter 0 ∷ Seek 0 Driver wm0 ∷ LoadLink 0 ∷ LoadRecord (OfSearch 0) ∷ LoadRecord (OfSearch 0) ∷ LoadRecord (OfSearch 0) ∷ LoadRecord (OfSearch 0) ∷ []

-- the same words of a slot that was never used, and of one that was given
abbrev pub unused_counts : List ℕ
unused_counts = replicate MOST_CPUS 0

abbrev pub given_counts : List ℕ
given_counts = bias ∷ bias ∷ replicate (MOST_CPUS - 2) 0

abbrev pub stands_case : State
stands_case = record (opening four_slots) {
  head = 2;
  next = 0 ∷ 1 ∷ 0 ∷ 0 ∷ [];
  rows = words_of first ∷ words_of second ∷ no_words ∷ no_words ∷ [];
  counts = given_counts ∷ given_counts ∷ unused_counts ∷ unused_counts ∷ [];
  history = Attach first ∷ Attach second ∷ [];
  seated = 2;
  section = 1 ∷ 0 ∷ [];
  begins = Some 2 ∷ None ∷ [];
  depths = 1 ∷ 0 ∷ [];
  seen = 2 ∷ 2 ∷ [];
  searches = Some (record { key = key_of first; start = 2; place = AtNext 1 }) ∷ None ∷ [];
  nets = replicate MOST_CPUS bias ∷ replicate MOST_CPUS bias ∷ unused_counts ∷ unused_counts ∷ [];
  slots = Live first ∷ Live second ∷ Vacant ∷ Vacant ∷ [];
}

-- both are replaced, wm1 first
abbrev pub both_replaced : List Event
both_replaced = replace_events newer_one 1 1 ++ replace_events newer_two 0 0

abbrev pub replaced_replies : List (Option Reply)
replaced_replies = done_replies 9 ++ loads 1 ++ loads 0

-- the link of the old wm1 is frozen
abbrev pub replaced_case : State
replaced_case = record stands_case {
  head = 3;
  next = 0 ∷ 1 ∷ 4 ∷ 0 ∷ [];
  rows = words_of first ∷ words_of second ∷ words_of newer_one ∷ words_of newer_two ∷ [];
  counts = replicate 4 given_counts;
  history = Attach first ∷ Attach second ∷ Replace 2 2 newer_one ∷ Replace 1 1 newer_two ∷ [];
  nets = replicate 4 (replicate MOST_CPUS bias);
  slots = Retired first ∷ Retired second ∷ Live newer_one ∷ Live newer_two ∷ [];
  marks = marks_taken ∷ marks_taken ∷ replicate MOST_CPUS no_mark ∷ replicate MOST_CPUS no_mark ∷ [];
}

-- CPU 1 seeks wm0 from the head on
abbrev pub seeks_anew : List Event
seeks_anew = Enter 1 ∷ Seek 1 Driver wm0 ∷ LoadLink 1 ∷ LoadRecord (OfSearch 1) ∷ LoadRecord (OfSearch 1) ∷ LoadRecord (OfSearch 1) ∷ LoadRecord (OfSearch 1) ∷ LoadLink 1 ∷ LoadRecord (OfSearch 1)
    ∷ LoadRecord (OfSearch 1) ∷ LoadRecord (OfSearch 1) ∷ LoadRecord (OfSearch 1) ∷ LoadRecord (OfSearch 1) ∷ []

-- the row replaced-under
pub record ReplacedUnder : Type 0 where
  pub begun : Gives (opening four_slots) (attaches_two ++ stands_events) (done_replies 26 ++ loads 2 ++ loads 2 ++ loads 2 ++ loads wm1.high ++ loads 0) stands_case
  pub replaced : Gives stands_case both_replaced (replaced_replies ++ replaced_replies) replaced_case
  -- the search goes on along the frozen link, and finds the old wm0, which was live as it began
  pub goes_on : replies replaced_case (LoadLink 0 ∷ loads_five) ≡ loads 1 ++ loads 1 ++ loads 2 ++ loads wm0.high ++ loads 0 ++ Some (Found first) ∷ []
  -- one that begins now meets the new wm1, and finds the new wm0
  pub anew : replies replaced_case seeks_anew
      ≡ done_replies 2 ++ loads 3 ++ loads 3 ++ loads 2 ++ loads wm1.high ++ loads 0 ++ loads 4 ++ loads 4 ++ loads 2 ++ loads wm0.high ++ loads 0 ++ Some (Found newer_two) ∷ []
  -- neither old slot is freed before the exit of CPU 0
  pub kept : replies replaced_case (try_events 1 ++ try_events 0) ≡ try_replies ++ try_replies

-- Kept driver

abbrev pub two_slots : Settings
two_slots = record { cpus = 1; slots = 2; change_limit = 1000; section_limit = 1000; passive_limit = 100; count_limit = 100 }

-- an interface on the driver wm
abbrev pub iface : Entry
iface = record { number = 2; slot = 1; rec = record { kind = Iface; name = wm0; value = 10 } }

-- wm is attached, found and counted, and the interface is attached with the reference
abbrev pub keep_events : List Event
keep_events = Seat 0 ∷ (attach_events 0 wm_entry 0 (StoreSlot 0 5 bias ∷ [])
    ++ Enter 0 ∷ Seek 0 Driver wm ∷ LoadLink 0 ∷ LoadRecord (OfSearch 0) ∷ LoadRecord (OfSearch 0) ∷ LoadRecord (OfSearch 0) ∷ LoadRecord (OfSearch 0) ∷ LoadRecord (OfSearch 0)
    ∷ CountAdd 0 ∷ SplitRef 0 ∷ Exit 0
    ∷ (attach_events 0 iface 1 (StoreSlot 1 5 bias ∷ Keep 1 0 ∷ [])))

abbrev pub keep_case : State
keep_case = record (opening two_slots) {
  section = 2 ∷ [];
  head = 2;
  next = 0 ∷ 1 ∷ [];
  rows = words_of wm_entry ∷ words_of iface ∷ [];
  counts = ((1 + bias) ∷ replicate (MOST_CPUS - 1) 0) ∷ (bias ∷ replicate (MOST_CPUS - 1) 0) ∷ [];
  history = Attach wm_entry ∷ Attach iface ∷ [];
  seated = 1;
  seen = 2 ∷ [];
  nets = ((1 + bias) ∷ replicate (MOST_CPUS - 1) bias) ∷ replicate MOST_CPUS bias ∷ [];
  slots = Live wm_entry ∷ Live iface ∷ [];
  keeps = None ∷ Some 1 ∷ [];
  locals = Free ∷ [];
}

-- the entry in the slot t is detached, and all of it is collected
abbrev pub collect_events : ℕ → List Event
collect_events t = Unpublish t ∷ Snapshot (Some t) 0 ∷ Look (Some t) 0 ∷ PassiveLook t 0 ∷ Collect t 0 ∷ TotalAdd t ∷ Vacate t ∷ []

-- the reply to the last one says that the slot isn't freed
abbrev pub collect_replies : ℕ → List (Option Reply)
collect_replies count = done_replies 1 ++ loads 2 ++ loads 2 ++ loads 0 ++ loads count ++ done_replies 1 ++ refused

-- the row kept-driver
pub record KeptDriver : Type 0 where
  pub attached : Gives (opening two_slots) keep_events
      (done_replies 13 ++ loads 1 ++ loads 1 ++ loads 2 ++ loads wm.high ++ loads 0 ++ Some (Found wm_entry) ∷ loads bias ++ Some (Ref 0) ∷ done_replies 12) keep_case
  -- the driver is detached, and stays: the interface keeps it
  pub detached : replies keep_case (collect_events 0) ≡ collect_replies (1 + bias)
  -- the interface goes by the event that gives its driver back, and only then the driver does
  pub goes : replies (after keep_case (collect_events 0)) (collect_events 1 ++ KeptSub 1 ∷ Vacate 0 ∷ []) ≡ collect_replies bias ++ done_replies 2
  pub are_vacant : (after keep_case (collect_events 0 ++ (collect_events 1 ++ KeptSub 1 ∷ Vacate 0 ∷ []))).slots ≡ Vacant ∷ Vacant ∷ []
