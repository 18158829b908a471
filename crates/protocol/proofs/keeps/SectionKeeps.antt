-- Seats, sections and notes keep the invariant.
use Rattle.std.proofs.Common.{◌≡◌, ◌≢◌, ℕ, suc, ◌+◌, ◌*◌, ◌<◌, ◌≤◌, List, length, get_or, set, Option, Some, None, true, sym, ◌∙◌, arith, get_or-set_same, get_or-set_other, ◌&&◌, is_none, is_some, nat_eq, nat_lt, length-set, ltb-true, eqb-true}
use Rattle.std.proofs.lemmas.Option.{none-some, same_Some}
use Rattle.std.proofs.lemmas.Bool.{cases_lt, cases_eq, and_parts}
use Rattle.protocol.specs.Types.{Entry, Change, Settings, Slot, Retired, Mark, Key, Live}
use Rattle.protocol.specs.History.{rank_at}
use Rattle.registry_values.specs.Common.{slot_at}
use Rattle.protocol.specs.Common.{SearchPlace, AtHead, AtNext, AtNumber, AtKind, AtHigh, AtLow, AtValue, IsLegal, Search, Hand, Empty, EndsAt, MayHold, SlotsShow, HeldStay, Leads, LinksStay, MarksHold, SectionsShow, SeatsShow, StandsOn, PlaceHolds, SearchHolds, SearchesHold, FoundHold, IsSeenInHand, TriesSeen, State, Holds}
use Rattle.protocol.specs.Common.{mark_at, section_at, begin_at, depth_at, search_at, hand_at, is_empty, live_at}
use Rattle.protocol.specs.Events
use Rattle.protocol.proofs.Cells.{place_in, place_put}
use Rattle.protocol.proofs.History.{attached_within, ended_within, all_below_later}
use Rattle.protocol.proofs.Either.{either}
use Rattle.protocol.proofs.keeps.Searching.{found_some}

-- What seats and sections keep.

-- the next CPU takes its seat
pub seats_seat : (cpus seated : ℕ) (begins : List (Option ℕ)) (searches : List (Option Search)) (hands : List Hand) → seated < cpus
    → SeatsShow cpus seated begins searches hands → SeatsShow cpus (seated + 1) begins searches hands
seats_seat cpus seated begins searches hands lt s = grind arith

-- a seated CPU's section begins or ends
pub seats_begin : (cpus seated : ℕ) (begins : List (Option ℕ)) (searches : List (Option Search)) (hands : List Hand) (c : ℕ) (x : Option ℕ) → c < seated
    → SeatsShow cpus seated begins searches hands → SeatsShow cpus seated (set begins c x) searches hands
seats_begin cpus seated begins searches hands c x lt s = grind (arith, get_or-set_other)

-- a seated CPU's search begins, goes on or ends
pub seats_search : (cpus seated : ℕ) (begins : List (Option ℕ)) (searches : List (Option Search)) (hands : List Hand) (c : ℕ) (x : Option Search) → c < seated
    → SeatsShow cpus seated begins searches hands → SeatsShow cpus seated begins (set searches c x) hands
seats_search cpus seated begins searches hands c x lt s = grind (arith, get_or-set_other)

-- a CPU that does something has its seat
pub seated_search : (cpus seated : ℕ) (begins : List (Option ℕ)) (searches : List (Option Search)) (hands : List Hand) (c : ℕ) (q : Search)
    → SeatsShow cpus seated begins searches hands → get_or searches c None ≡ Some q → c < seated
seated_search cpus seated begins searches hands c q s is = either (cases_lt c seated) (λ lt. lt) (λ ge. absurd (none-some q (sym (s.unsearching c ge) ∙ is)))

-- Enter: the section begins at the length of the history.
pub sections_enter : (z : Settings) (h : List Change) (section : List ℕ) (begins : List (Option ℕ)) (depths seen : List ℕ) (c : ℕ)
    → c < length section → c < length begins → c < length depths → c < length seen → get_or begins c None ≡ None → get_or section c 0 < 2 * z.section_limit
    → SectionsShow z h section begins depths seen
    → SectionsShow z h (set section c (get_or section c 0 + 1)) (set begins c (Some (length h))) (set depths c 1) (set seen c (length h))
sections_enter z h section begins depths seen c cs cb cd cw out room s = grind (arith, place_in, get_or-set_other, get_or-set_same)

pub held_enter : (h : List Change) (slots : List Slot) (begins : List (Option ℕ)) (c : ℕ) → c < length begins → SlotsShow h slots → HeldStay h slots begins
    → HeldStay h slots (set begins c (Some (length h)))
held_enter h slots begins c cb show held j b e =
    grind (arith, cases_eq j c, get_or-set_same begins c (Some (length h)) None, get_or-set_other begins c j (Some (length h)) None, show.placed e, held j b e, attached_within h e, ended_within h e.number)

-- no entry ends after a section that begins now
none_ends : (h : List Change) (b p n : ℕ) → ◌≡◌ {A = Option ℕ} (Some (length h)) (Some b) → EndsAt h n p → p ≤ b
none_ends h b p n is ends = omega (arith, same_Some (length h) b is, (ended_within h n p ends).1)

pub links_enter : (h : List Change) (slots : List Slot) (next : List ℕ) (begins : List (Option ℕ)) (c : ℕ) → c < length begins → LinksStay h slots next begins
    → LinksStay h slots next (set begins c (Some (length h)))
links_enter h slots next begins c cb links t p j b e gone ends = place_put None begins c (Some (length h)) (λ i x. x ≡ Some b → b < p → Leads h p (rank_at h e.number) (get_or next t 0)) j
    (λ is lt. absurd (omega (arith, lt, none_ends h b p e.number is ends))) (links t p j b e gone ends)

-- a word that grows is above what it was at each snapshot
pub older_grown : (h : List Change) (slots : List Slot) (marks : List (List Mark)) (section : List ℕ) (begins : List (Option ℕ)) (c w : ℕ) → c < length section → get_or section c 0 < w
    → MarksHold h slots marks section begins
    → (t j x : ℕ) (e : Entry) → slot_at slots t ≡ Retired e → (mark_at marks t j).snapshot ≡ Some x → x ≤ get_or (set section c w) j 0
older_grown h slots marks section begins c w cs up m t j x e gone = place_put 0 section c w (λ i y. (mark_at marks t i).snapshot ≡ Some x → x ≤ y) j
    (λ snap. omega (arith, m.older t c x e gone snap, up)) (m.older t j x e gone)

pub marks_enter : (h : List Change) (slots : List Slot) (marks : List (List Mark)) (section : List ℕ) (begins : List (Option ℕ)) (c w : ℕ) → c < length section → c < length begins
    → get_or section c 0 < w
    → MarksHold h slots marks section begins → MarksHold h slots marks (set section c w) (set begins c (Some (length h)))
marks_enter h slots marks section begins c w cs cb up m = grind (arith, place_put, none_ends, place_in, get_or-set_other, older_grown, get_or-set_same)

pub searches_enter : (h : List Change) (begins : List (Option ℕ)) (seen : List ℕ) (searches : List (Option Search)) (c : ℕ) (x : Option ℕ) (w : ℕ)
    → get_or searches c None ≡ None → SearchesHold h begins seen searches → SearchesHold h (set begins c x) (set seen c w) searches
searches_enter h begins seen searches c x w idle hold j q is = grind (arith, none-some, get_or-set_other, cases_eq j c)

pub found_enter : (h : List Change) (begins : List (Option ℕ)) (found : List (Option Entry)) (c : ℕ) (x : Option ℕ) → get_or begins c None ≡ None → FoundHold h begins found
    → FoundHold h (set begins c x) found
found_enter h begins found c x out hold j e = place_put None begins c x (λ i y. get_or found i None ≡ Some e → (b : ℕ) × (y ≡ Some b) × MayHold h b e) j
    (λ is. absurd (none-some (hold c e is).0 (sym out ∙ (hold c e is).1))) (hold j e)

-- Exit: the section ends.
-- what is open after c's section ended was open before, and isn't c's
pub open_before : (begins : List (Option ℕ)) (c j b : ℕ) → c < length begins → get_or (set begins c None) j None ≡ Some b → (j ≢ c) × (get_or begins j None ≡ Some b)
open_before begins c j b cb is = place_in None begins c None (λ i y. y ≡ Some b → (i ≢ c) × (get_or begins i None ≡ Some b)) j cb (λ none. absurd (none-some b none)) (λ off was. (off, was)) is

pub sections_exit : (z : Settings) (h : List Change) (section : List ℕ) (begins : List (Option ℕ)) (depths seen : List ℕ) (c b : ℕ)
    → c < length section → c < length begins → c < length depths → get_or begins c None ≡ Some b → SectionsShow z h section begins depths seen
    → SectionsShow z h (set section c (get_or section c 0 + 1)) (set begins c None) (set depths c 0) seen
sections_exit z h section begins depths seen c b cs cb cd in_ s = grind (arith, get_or-set_same, get_or-set_other, open_before, place_put)

pub marks_exit : (h : List Change) (slots : List Slot) (marks : List (List Mark)) (section : List ℕ) (begins : List (Option ℕ)) (c w : ℕ) → c < length section → c < length begins
    → get_or section c 0 < w
    → MarksHold h slots marks section begins → MarksHold h slots marks (set section c w) (set begins c None)
marks_exit h slots marks section begins c w cs cb up m = grind (arith, open_before, get_or-set_other, older_grown)

pub searches_exit : (h : List Change) (begins : List (Option ℕ)) (seen : List ℕ) (searches : List (Option Search)) (c : ℕ) (x : Option ℕ)
    → get_or searches c None ≡ None → SearchesHold h begins seen searches → SearchesHold h (set begins c x) seen searches
searches_exit h begins seen searches c x idle hold j q is = grind (arith, none-some, get_or-set_other, cases_eq j c)

pub found_exit : (h : List Change) (begins : List (Option ℕ)) (found : List (Option Entry)) (c : ℕ) (x : Option ℕ) → c < length found → FoundHold h begins found
    → FoundHold h (set begins c x) (set found c None)
found_exit h begins found c x cf hold j e = place_in None found c None (λ i y. y ≡ Some e → (b : ℕ) × (get_or (set begins c x) i None ≡ Some b) × MayHold h b e) j cf
    (λ is. absurd (none-some e is)) (λ off is. simp get_or-set_other (hold j e is))

-- Hear: the pass is the whole history.
pub sections_see : (z : Settings) (h : List Change) (section : List ℕ) (begins : List (Option ℕ)) (depths seen : List ℕ) (c : ℕ) → c < length seen
    → SectionsShow z h section begins depths seen → SectionsShow z h section begins depths (set seen c (length h))
sections_see z h section begins depths seen c cs s = assumption (
  λ (j b : ℕ). place_put 0 seen c (length h) (λ i y. get_or begins i None ≡ Some b → b ≤ y) j (λ is. omega (arith, s.begun c b is, s.prefix c)) (s.begun j b),
  λ (j : ℕ). place_put 0 seen c (length h) (λ _ y. y ≤ length h) j (omega arith) (s.prefix j),
)

pub stands_later : (h : List Change) (from to later t : ℕ) (e : Entry) → to ≤ later → StandsOn h from to t e → StandsOn h from later t e
stands_later h from to later t e le on = record { attached = on.attached; at = on.at; begun = omega (arith, on.begun); unended = on.unended }

pub place_later : (h : List Change) → IsLegal h → (from to later : ℕ) (key : Key) (place : SearchPlace) → from ≤ to → to ≤ later → PlaceHolds h from to key place → PlaceHolds h from later key place
place_later h legal from to later key AtHead lo le p = tt
place_later h legal from to later key (AtNext t) lo le p = (p.0, stands_later h from to later t p.0 le p.1, all_below_later h legal from to later key (rank_at h p.0.number) lo le p.2)
place_later h legal from to later key (AtNumber t) lo le p = (p.0, stands_later h from to later t p.0 le p.1, all_below_later h legal from to later key (suc (rank_at h p.0.number)) lo le p.2)
place_later h legal from to later key (AtKind t n) lo le p = (p.0, stands_later h from to later t p.0 le p.1, all_below_later h legal from to later key (suc (rank_at h p.0.number)) lo le p.2, p.3)
place_later h legal from to later key (AtHigh t n k) lo le p = (p.0, stands_later h from to later t p.0 le p.1, all_below_later h legal from to later key (suc (rank_at h p.0.number)) lo le p.2, p.3, p.4)
place_later h legal from to later key (AtLow t n k x) lo le p = (p.0, stands_later h from to later t p.0 le p.1, all_below_later h legal from to later key (suc (rank_at h p.0.number)) lo le p.2, p.3, p.4, p.5)
place_later h legal from to later key (AtValue t n) lo le p = (p.0, stands_later h from to later t p.0 le p.1, p.2, p.3)

-- a number that is tried stays seen
seen_later : (from to : ℕ) (h : Hand) → from ≤ to → IsSeenInHand from h → IsSeenInHand to h
seen_later from to h le is = grind arith

pub tries_see : (h : List Change) (seen : List ℕ) (hands : List Hand) (c : ℕ) → ((d : ℕ) → get_or seen d 0 ≤ length h) → TriesSeen seen hands → TriesSeen (set seen c (length h)) hands
tries_see h seen hands c prefix hold d =
    place_put 0 seen c (length h) (λ i y. IsSeenInHand y (get_or hands i Empty)) d (seen_later (get_or seen c 0) (length h) (get_or hands c Empty) (prefix c) (hold c)) (hold d)

-- a hand is written that tries nothing, or what its CPU has seen
pub tries_hand : (seen : List ℕ) (hands : List Hand) (c : ℕ) (h : Hand) → IsSeenInHand (get_or seen c 0) h → TriesSeen seen hands → TriesSeen seen (set hands c h)
tries_hand seen hands c h now hold d = place_put Empty hands c h (λ i x. IsSeenInHand (get_or seen i 0) x) d now (hold d)

pub searches_see : (z : Settings) (h : List Change) → IsLegal h → (section : List ℕ) (begins : List (Option ℕ)) (depths seen : List ℕ) (searches : List (Option Search)) (c : ℕ) → c < length seen
    → SectionsShow z h section begins depths seen → SearchesHold h begins seen searches → SearchesHold h begins (set seen c (length h)) searches
searches_see z h legal section begins depths seen searches c cw s hold j q = place_put 0 seen c (length h) (λ i y. get_or searches i None ≡ Some q → SearchHolds h (get_or begins i None) y q) j
    (λ is.
    let was = hold c q is in
    record { begun = was.begun; started = omega (arith, was.started, s.prefix c); stands = place_later h legal q.start (get_or seen c 0) (length h) q.key q.place was.started (s.prefix c) was.stands })
    (hold j q)

-- Seats, sections and notes keep the invariant.

-- What the tests tell.
pub none_from : {X : Type 0} (o : Option X) → is_none o ≡ true → o ≡ None
none_from o is = grind arith

pub some_from : {X : Type 0} (o : Option X) → is_some o ≡ true → (x : X) × (o ≡ Some x)
some_from o is = grind arith

-- an idle CPU is seated and has no search
pub idle_parts : (s : State) (c : ℕ) → Events.is_idle s c ≡ true → (c < s.seated) × (search_at s c ≡ None) × (is_empty (hand_at s c) ≡ true)
idle_parts s c ok = grind (arith, and_parts, ltb-true, none_from)

pub empty_from : (h : Hand) → is_empty h ≡ true → h ≡ Empty
empty_from h is = grind arith

-- and in range with nothing in its hand
pub idle_tells : (s : State) (c : ℕ) → Holds s → Events.is_idle s c ≡ true → (c < s.settings.cpus) × (hand_at s c ≡ Empty)
idle_tells s c on idle = let p = idle_parts s c idle in (omega (arith, p.0, on.seats.within), empty_from (hand_at s c) p.2)

pub seat_keeps : (s : State) (c : ℕ) → Holds s → Events.may_seat s c ≡ true → Holds (Events.after_seat s c)
seat_keeps s c on ok = grind (arith, and_parts, eqb-true, ltb-true, seats_seat)

pub enter_keeps : (s : State) (c : ℕ) → Holds s → Events.may_enter s c ≡ true → Holds (Events.after_enter s c)
enter_keeps s c on ok =
    let p = and_parts (Events.is_idle s c) (Events.is_outside s c && nat_lt (section_at s c) (2 * s.settings.section_limit)) ok in
    let p1 = and_parts (Events.is_outside s c) (nat_lt (section_at s c) (2 * s.settings.section_limit)) p.1 in
    let idle = idle_parts s c p.0 in
    let out : begin_at s c ≡ None = none_from (begin_at s c) p1.0 in
    let lt : c < s.settings.cpus = omega (arith, idle.0, on.seats.within) in
    let cs : c < length s.section = omega (arith, on.shape.sections) in
    let cb : c < length s.begins = omega (arith, on.shape.begins) in
    assumption (
      length-set s.section c (section_at s c + 1) ∙ on.shape.sections,
      length-set s.begins c (Some (length s.history)) ∙ on.shape.begins,
      length-set s.depths c 1 ∙ on.shape.depths,
      length-set s.seen c (length s.history) ∙ on.shape.seen,
      held_enter s.history s.slots s.begins c cb on.slots on.held,
      links_enter s.history s.slots s.next s.begins c cb on.frozen_links,
      marks_enter s.history s.slots s.marks s.section s.begins c (section_at s c + 1) cs cb (omega arith) on.grace,
      seats_begin s.settings.cpus s.seated s.begins s.searches s.hands c (Some (length s.history)) idle.0 on.seats,
      sections_enter s.settings s.history s.section s.begins s.depths s.seen c cs cb (omega (arith, lt, on.shape.depths)) (omega (arith, lt, on.shape.seen)) out (ltb-true (section_at s c) _ p1.1) on.sections,
      searches_enter s.history s.begins s.seen s.searches c (Some (length s.history)) (length s.history) idle.1 on.searches,
      tries_see s.history s.seen s.hands c on.sections.prefix on.tries,
      found_enter s.history s.begins s.found c (Some (length s.history)) out on.last_found,
    )

pub exit_keeps : (s : State) (c : ℕ) → Holds s → Events.may_exit s c ≡ true → Holds (Events.after_exit s c)
exit_keeps s c on ok =
    let p = and_parts (Events.is_idle s c) (Events.is_inside s c && nat_eq (depth_at s c) 1) ok in
    let p1 = and_parts (Events.is_inside s c) (nat_eq (depth_at s c) 1) p.1 in
    let idle = idle_parts s c p.0 in
    let in_ : (b : ℕ) × (begin_at s c ≡ Some b) = some_from (begin_at s c) p1.0 in
    let lt : c < s.settings.cpus = omega (arith, idle.0, on.seats.within) in
    let cs : c < length s.section = omega (arith, on.shape.sections) in
    let cb : c < length s.begins = omega (arith, on.shape.begins) in
    assumption (
      length-set s.section c (section_at s c + 1) ∙ on.shape.sections,
      length-set s.begins c None ∙ on.shape.begins,
      length-set s.depths c 0 ∙ on.shape.depths,
      length-set s.found c None ∙ on.shape.found,
      λ (j b : ℕ) (e : Entry) (is : get_or (set s.begins c None) j None ≡ Some b). on.held j b e (open_before s.begins c j b cb is).1,
      λ (t p j b : ℕ) (e : Entry) (gone : slot_at s.slots t ≡ Retired e) (ends : EndsAt s.history e.number p) (is : get_or (set s.begins c None) j None ≡ Some b).
          on.frozen_links t p j b e gone ends (open_before s.begins c j b cb is).1,
      marks_exit s.history s.slots s.marks s.section s.begins c (section_at s c + 1) cs cb (omega arith) on.grace,
      seats_begin s.settings.cpus s.seated s.begins s.searches s.hands c None idle.0 on.seats,
      sections_exit s.settings s.history s.section s.begins s.depths s.seen c in_.0 cs cb (omega (arith, lt, on.shape.depths)) in_.1 on.sections,
      searches_exit s.history s.begins s.seen s.searches c None idle.1 on.searches,
      found_exit s.history s.begins s.found c None (omega (arith, lt, on.shape.found)) on.last_found,
    )

-- the pass of a CPU grows to the whole history
pub see_keeps : (s : State) (c : ℕ) → Holds s → c < s.settings.cpus → Holds (Events.after_seeing s c)
see_keeps s c on lt =
    let cw : c < length s.seen = omega (arith, on.shape.seen) in
    assumption (
      length-set s.seen c (length s.history) ∙ on.shape.seen,
      sections_see s.settings s.history s.section s.begins s.depths s.seen c cw on.sections,
      searches_see s.settings s.history on.legal s.section s.begins s.depths s.seen s.searches c cw on.sections on.searches,
      tries_see s.history s.seen s.hands c on.sections.prefix on.tries,
    )

-- the CPU is seated and has no search, the slot is in range, and its live word is honest
pub recall_tells : (s : State) (c t : ℕ) → Events.may_recall s c t ≡ true → (c < s.seated) × (search_at s c ≡ None) × (t < s.settings.slots) × (Events.is_honest (live_at s.lives t) (slot_at s.slots t) ≡ true)
recall_tells s c t ok = grind (arith, and_parts, ltb-true, none_from)

pub recall_keeps : (s : State) (c t : ℕ) → Holds s → Events.may_recall s c t ≡ true → Holds (Events.after_seeing s c)
recall_keeps s c t on ok = let seated = (recall_tells s c t ok).0 in see_keeps s c on (omega (arith, seated, on.seats.within))

-- and so of a recall of the head
pub recall_head_tells : (s : State) (c : ℕ) → Events.may_recall_head s c ≡ true → (c < s.seated) × (search_at s c ≡ None)
recall_head_tells s c ok = let p = and_parts (nat_lt c s.seated) (is_none (search_at s c)) ok in (ltb-true c s.seated p.0, none_from (search_at s c) p.1)

pub recall_head_keeps : (s : State) (c : ℕ) → Holds s → Events.may_recall_head s c ≡ true → Holds (Events.after_seeing s c)
recall_head_keeps s c on ok = let seated = (recall_head_tells s c ok).0 in see_keeps s c on (omega (arith, seated, on.seats.within))

-- the CPU is inside too, and the slot's live entry has the number
pub refind_tells : (s : State) (c t n : ℕ) (e : Entry) → Events.may_refind s c t n e ≡ true
    → (c < s.seated) × (search_at s c ≡ None) × ((b : ℕ) × (begin_at s c ≡ Some b)) × (e.number ≡ n) × (live_at s.lives t ≡ n)
refind_tells s c t n e ok = grind (arith, and_parts, ltb-true, none_from, some_from, eqb-true)

-- a live entry hasn't ended, so the open section may hold it
pub refind_keeps : (s : State) (c t n : ℕ) (e : Entry) → Holds s → slot_at s.slots t ≡ Live e → Events.may_refind s c t n e ≡ true → Holds (Events.after_refind s c e)
refind_keeps s c t n e on at ok =
    let told = refind_tells s c t n e ok in
    let lt : c < s.settings.cpus = omega (arith, told.0, on.seats.within) in
    let seen : Holds (Events.after_seeing s c) = see_keeps s c on lt in
    let live = (on.slots.live t e at).0 in
    let begun : told.2.0 ≤ length s.history = omega (arith, on.sections.begun c told.2.0 told.2.1, on.sections.prefix c) in
    let may : MayHold s.history told.2.0 e = record { attached = live.attached; unended = λ p x. omega (arith, live.unended p x, begun) } in
    let on = seen in
    assumption (
      length-set s.found c (Some e) ∙ seen.shape.found,
      found_some s.history s.begins s.found c told.2.0 e (omega (arith, lt, seen.shape.found)) told.2.1 may seen.last_found,
    )

pub hear_keeps : (s : State) (c : ℕ) → Holds s → Events.is_idle s c ≡ true → Holds (Events.after_seeing s c)
hear_keeps s c on ok = see_keeps s c on (idle_tells s c on ok).0
