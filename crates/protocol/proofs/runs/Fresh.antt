-- Fresh lookups: a search goes on from the history as it was at its Seek, whichever events come
-- between.
use Rattle.std.proofs.Common.{◌≡◌, ℕ, zero, suc, ◌<◌, ◌≤◌, ◌⊎◌, inl, inr, List, [], ◌∷◌, ◌++◌, length, get_or, set, Option, Some, None, Bool, true, refl, sym, ap, subst, ◌∙◌, arith, get_or-set_other, get_or-set_same, IsSome, append_assoc}
use Rattle.std.proofs.lemmas.Bool.{and_parts, cases_eq}
use Rattle.std.proofs.lemmas.List.{append-nil}
use Rattle.std.proofs.lemmas.Option.{none-some, same_Some}
use Rattle.protocol.specs.Types.{Entry, Change, Attach, Detach, Replace, Key, Slot, Live}
use Rattle.protocol.specs.Common.{Leads, IsNewestAt, RecallsNewest, NewestRecalls, Refind, Event, Reply, Done, Word, Search, SearchPlace, AtHead, AtNumber, EndsAt, IsLiveAt, IsLawful, IsLegal, IsLookup, State, Outcome, Hand, Trying, IsAttached, Holds, PlaceHolds, IsAllowed, IsLoadOf, IsNoSeek, SeeksNone, AnswersFreshly, SeesAll, RecallsLive, FreshAnswers, WholePasses, LiveRecalls}
use Rattle.protocol.specs.Common.{found_at, opening, seen_at, search_at, begin_at, live_at, hand_at}
use Rattle.protocol.specs.Events
use Rattle.protocol.specs.Laws
use Rattle.protocol.specs.History
use Rattle.protocol.specs.History.{rank_at}
use Rattle.registry_values.specs.Common.{key_of, slot_at}
use Rattle.protocol.specs.Common.{To_end, To_entry}
use Rattle.protocol.proofs.History.{rank_low, attached_within, ended_within, one_entry, one_live, length-after_change, place_old}
use Rattle.protocol.proofs.keeps.Keeping.{step_keeps, after_keeps}
use Rattle.protocol.proofs.keeps.SectionKeeps.{idle_parts, recall_head_tells, recall_tells, refind_tells, some_from}
use Rattle.protocol.proofs.keeps.CountKeeps.{confirm_tells, live_tells, tried_seen, trying_tells}
use Rattle.protocol.proofs.keeps.Searching.{Walks, Steps, IsStep, load_link_steps, load_searched_steps, weight, placed, within_some, seen_now, searching_within}
use Rattle.protocol.proofs.runs.Answers.{history_grows}
use Rattle.protocol.proofs.runs.Points.{attached_grown, ends_grown, live_then}
use Rattle.protocol.proofs.runs.Replacing.{never_missed}
use Rattle.protocol.proofs.Made.{Made, Enters, Exits, Seeks, LoadsEnd, LoadsSlot, LoadsWord, LoadsLast, Publishes, Unpublishes, Republishes, Hears, Recalls, RecallsHead, Refinds, ConfirmsTry, each_event}
use Rattle.protocol.proofs.Cells.{by_place}
use Rattle.protocol.proofs.runs.Steps.{after_more}
use Rattle.protocol.proofs.runs.Reuse.{every_run_keeps}
use Rattle.protocol.proofs.Either.{either}

-- A search that goes

-- the search q of c, where the history was `from` long as it began
pub record Goes (s : State) (c from : ℕ) (key : Key) (q : Search) : Type 0 where
  pub sought : q.key ≡ key
  pub walk : Walks s c from
  pub stands : PlaceHolds s.history from (seen_at s c) q.key q.place
  pub seen : (q.place ≡ AtHead) ⊎ (from ≤ seen_at s c)

-- whichever search of c is under way is that one
abbrev pub Going : State → ℕ → ℕ → Key → Type 0
Going s c from key = (q : Search) → search_at s c ≡ Some q → Goes s c from key q

place_with : (h k : List Change) (from v w : ℕ) (key : Key) (p : SearchPlace) → h ≡ k → v ≡ w → PlaceHolds h from v key p → PlaceHolds k from w key p
place_with h k from v w key p same seen holds = subst (λ (x : ℕ). PlaceHolds k from x key p) seen (subst (λ (x : List Change). PlaceHolds x from v key p) same holds)

-- what leaves the history, the section and the pass of c leaves its search
goes_same : (s n : State) (c from : ℕ) (key : Key) (q : Search) → n.history ≡ s.history → begin_at n c ≡ begin_at s c → seen_at n c ≡ seen_at s c → Goes s c from key q → Goes n c from key q
goes_same s n c from key q history begin seen is = grind (arith, place_with)

going_same : (s n : State) (c from : ℕ) (key : Key) → n.history ≡ s.history → begin_at n c ≡ begin_at s c → seen_at n c ≡ seen_at s c → search_at n c ≡ search_at s c → Going s c from key → Going n c from key
going_same s n c from key history begin seen search going q is = goes_same s n c from key q history begin seen (going q (sym search ∙ is))

-- one change more
going_changed : (s n : State) (x : Change) (c from : ℕ) (key : Key) → n.history ≡ History.after_change s.history x → begin_at n c ≡ begin_at s c → seen_at n c ≡ seen_at s c → search_at n c ≡ search_at s c
    → seen_at s c ≤ length s.history → Going s c from key → Going n c from key
going_changed s n x c from key history begin seen search low going q is =
    let was : Goes s c from key q = going q (sym search ∙ is) in
    let size : length n.history ≡ suc (length s.history) = ap (λ (l : List Change). length l) history ∙ length-after_change s.history x in
    record {
      sought = was.sought;
      walk = record { begin = was.walk.begin; open_since = begin ∙ was.walk.open_since; since = was.walk.since; by_now = omega (arith, was.walk.by_now, size) };
      stands = place_with (History.after_change s.history x) n.history from (seen_at s c) (seen_at n c) q.key q.place (sym history) (sym seen)
          (place_old s.history x from (seen_at s c) q.key q.place was.walk.by_now low was.stands);
      seen = either was.seen (λ head. inl head) (λ lo. inr (omega (arith, lo, seen)));
    }

-- no search is under way
going_none : (s : State) (c from : ℕ) (key : Key) → search_at s c ≡ None → Going s c from key
going_none s c from key none q is = absurd (none-some q (sym none ∙ is))

-- Its own loads

over_none : (s : State) (c : ℕ) (q : Search) → search_at s c ≡ Some q → get_or (set s.searches c None) c None ≡ None
over_none s c q is = get_or-set_same s.searches c None None (within_some s.searches c q is)

placed_goes : (s n : State) (c from left : ℕ) (key : Key) (q : Search) (place : SearchPlace) (w : ℕ) → Goes s c from key q → n.history ≡ s.history → begin_at n c ≡ begin_at s c → from ≤ seen_at n c
    → IsStep n c from q left (Word w) → Going n c from key
placed_goes s n c from left key q place w was history begin le steps r is = grind (arith, placed, same_Some)

-- what a load of the search leaves is a step of the walk

link_steps : (s : State) (c from : ℕ) (key : Key) (q : Search) → Holds s → search_at s c ≡ Some q → Goes s c from key q → Steps c from q (weight s q.place) (Events.load_link s c q q.place)
link_steps s c from key q on is was = load_link_steps s c from q q.place on was.walk was.seen is was.stands

record_steps : (s : State) (c from : ℕ) (key : Key) (q : Search) → Holds s → search_at s c ≡ Some q → Goes s c from key q → Steps c from q (weight s q.place) (Events.load_searched s c q q.place)
record_steps s c from key q on is was = either was.seen
    (λ head. subst (Steps c from q (weight s q.place)) (ap (Events.load_searched s c q) (sym head)) tt)
    (λ le. load_searched_steps s c from q q.place on was.walk le is was.stands)

own_steps : (s : State) (c from : ℕ) (key : Key) (q : Search) (e : Event) → Holds s → search_at s c ≡ Some q → Goes s c from key q → IsLoadOf c e → Steps c from q (weight s q.place) (Events.step s e)
own_steps s c from key q e on is was of = either of
    (λ link. subst (Steps c from q (weight s q.place)) (ap (λ (o : Option Search). Events.with_some o (λ (r : Search). Events.load_link s c r r.place)) (sym is) ∙ ap (Events.step s) (sym link)) (link_steps s c from key q on is was))
    (λ rec. subst (Steps c from q (weight s q.place)) (ap (λ (o : Option Search). Events.with_some o (λ (r : Search). Events.load_searched s c r r.place)) (sym is) ∙ ap (Events.step s) (sym rec)) (record_steps s c from key q on is was))

-- Every event

-- the CPU j, which has no search, sees all of the history
seen_going : (s n : State) (c j from : ℕ) (key : Key) → search_at s j ≡ None → n.history ≡ s.history → n.begins ≡ s.begins → n.seen ≡ set s.seen j (length s.history) → n.searches ≡ s.searches
    → Going s c from key → Going n c from key
seen_going s n c j from key none history begins seen searches going = grind (arith, going_none, going_same, get_or-set_other, cases_eq c j)

made_going : (s n : State) (c from : ℕ) (key : Key) (e : Event) (r : Reply) → Holds s → IsNoSeek c e → Going s c from key → Made s e n r → Going n c from key
made_going s n c from key _ _ on off_seek going (Enters j may) = grind (arith, going_none, idle_parts, and_parts, going_same, get_or-set_other, cases_eq c j)
made_going s n c from key _ _ on off_seek going (Exits j may) = grind (arith, going_none, idle_parts, and_parts, going_same, get_or-set_other, cases_eq c j)
made_going s n c from key _ _ on off_seek going (Seeks j kind name may) = grind (arith, cases_eq c j, off_seek (record { kind = kind; name = name }), going_same s n c from key, get_or-set_other)
made_going s n c from key _ _ on off_seek going (LoadsEnd j q at is) = by_place (λ k. Going s k from key → Going n k from key) j c
    (λ was. going_none n j from key (over_none s j q at)) (λ off. grind (arith, going_same s n c from key, get_or-set_other, off)) going
made_going s n c from key _ _ on off_seek going (LoadsSlot j t q at is) = by_place (λ k. Going s k from key → Going n k from key) j c
    (λ was.
    let goes = was q at in
    placed_goes s n j from (weight s q.place) key q (AtNumber t) (suc t) goes refl refl (omega (arith, goes.walk.by_now, seen_now s j on (searching_within s j q on at)))
    (subst (Steps j from q (weight s q.place)) is (link_steps s j from key q on at goes)))
    (λ off was. going_same s n c from key refl refl (get_or-set_other s.seen j c _ 0 off) (get_or-set_other s.searches j c _ None off) was)
    going
made_going s n c from key _ _ on off_seek going (LoadsWord j w q p at is) = by_place (λ k. Going s k from key → Going n k from key) j c
    (λ was. either (was q at).seen
    (λ head. absurd (none-some _ (ap (Events.load_searched s j q) (sym head) ∙ is)))
    (λ le. placed_goes s n j from (weight s q.place) key q p w (was q at) refl refl le (subst (Steps j from q (weight s q.place)) is (record_steps s j from key q on at (was q at)))))
    (λ off was. going_same s n c from key refl refl refl (get_or-set_other s.searches j c _ None off) was)
    going
made_going s n c from key _ _ on off_seek going (LoadsLast j q e at is) = by_place (λ k. Going s k from key → Going n k from key) j c
    (λ was. going_none n j from key (over_none s j q at)) (λ off. grind (arith, going_same s n c from key, get_or-set_other, off)) going
made_going s n c from key _ _ on off_seek going (Hears j may) = seen_going s n c j from key (idle_parts s j may).1 refl refl refl refl going
made_going s n c from key _ _ on off_seek going (Recalls j t may) = seen_going s n c j from key (recall_tells s j t may).1 refl refl refl refl going
made_going s n c from key _ _ on off_seek going (RecallsHead j may) = seen_going s n c j from key (recall_head_tells s j may).1 refl refl refl refl going
made_going s n c from key _ _ on off_seek going (Refinds j t i e at may) = seen_going s n c j from key (refind_tells s j t i e may).1 refl refl refl refl going
made_going s n c from key _ _ on off_seek going (ConfirmsTry j t i at may) = seen_going s n c j from key (confirm_tells s j i (slot_at s.slots t) may).0 refl refl refl refl going
made_going s n c from key _ _ on off_seek going (Publishes t e of may) = going_changed s n (Attach e) c from key refl refl refl refl (on.sections.prefix c) going
made_going s n c from key _ _ on off_seek going (Unpublishes t head next e at rest is) = going_changed s n (Detach e.number) c from key refl refl refl refl (on.sections.prefix c) going
made_going s n c from key _ _ on off_seek going (Republishes t u head next e f of at may is) =
    going_changed s n (Replace f.number (rank_at s.history f.number) e) c from key refl refl refl refl (on.sections.prefix c) going
made_going s n c from key _ _ on off_seek going _ = going_same s n c from key refl refl refl refl going

-- Over the events since

record Since (h : List Change) (s : State) (c : ℕ) (key : Key) : Type 0 where
  holds : Holds s
  going : Going s c (length h) key
  grown : (more : List Change) × (s.history ≡ h ++ more)

since_event : (h : List Change) (s : State) (c : ℕ) (key : Key) (e : Event) → IsNoSeek c e → Since h s c key → Since h (Laws.after_event s e) c key
since_event h s c key e other is =
    let grows = history_grows s e in
    let more : List Change = is.grown.0 in record {
      holds = after_keeps s (Events.step s e) is.holds (step_keeps s e is.holds);
      going = each_event (λ o. Going (Events.state_after s o) c (length h) key) s e is.going (λ n r made. made_going s n c (length h) key e r is.holds other is.going made);
      grown = (more ++ grows.0, grows.1 ∙ (ap (λ (l : List Change). l ++ grows.0) is.grown.1 ∙ append_assoc h more grows.0));
    }

since_events : (h : List Change) (s : State) (c : ℕ) (key : Key) (es : List Event) → SeeksNone c es → Since h s c key → Since h (Laws.after s es) c key
since_events h s c key [] none is = is
since_events h s c key (e ∷ es) none is =
    subst (λ (n : State). Since h n c key) (sym (after_more s e es)) (since_events h (Laws.after_event s e) c key es none.1 (since_event h s c key e none.0 is))

-- The begin

allowed_guard : (b : Bool) (o : Option Outcome) → IsSome (Events.guard b o) → b ≡ true
allowed_guard b o is = grind arith

guarded : (s n : State) (b : Bool) (r : Reply) → b ≡ true → Events.state_after s (Events.guard b (Events.some_outcome n r)) ≡ n
guarded s n b r is = grind arith

since_seek : (s : State) (c : ℕ) (key : Key) → Holds s → IsAllowed s (Laws.seek_for c key) → Since s.history (Laws.after_event s (Laws.seek_for c key)) c key
since_seek s c key on allowed =
    let may : Events.may_seek s c ≡ true = allowed_guard (Events.may_seek s c) _ allowed in
    let p = and_parts (Events.is_idle s c) (Events.is_inside s c) may in
    let in_ : (b : ℕ) × (begin_at s c ≡ Some b) = some_from (begin_at s c) p.1 in
    let start : Search = record { key = key; start = seen_at s c; place = AtHead } in
    let lt : c < length s.searches = let a = (idle_parts s c p.0).0 in omega (arith, a, on.shape.searches, on.seats.within) in
    let now : search_at (Events.after_seek s c key) c ≡ Some start = get_or-set_same s.searches c (Some start) None lt in
    let begun : Since s.history (Events.after_seek s c key) c key = record {
      holds = subst Holds (guarded s (Events.after_seek s c key) (Events.may_seek s c) Done may) (after_keeps s (Events.step s (Laws.seek_for c key)) on (step_keeps s (Laws.seek_for c key) on));
      going = λ q is. let same : start ≡ q = same_Some start q (sym now ∙ is) in subst (λ (r : Search). Goes (Events.after_seek s c key) c (length s.history) key r) same (record {
        sought = refl;
        walk = record { begin = in_.0; open_since = in_.1; since = omega (arith, on.sections.begun c in_.0 in_.1, on.sections.prefix c); by_now = omega arith };
        stands = tt;
        seen = inl refl;
      });
      grown = ([], sym (append-nil s.history));
    } in
    subst (λ (n : State). Since s.history n c key) (sym (guarded s (Events.after_seek s c key) (Events.may_seek s c) Done may)) begun

-- The answer

answered_by : (n : State) (c from left : ℕ) (q : Search) (r : Reply) (answer : Option Entry) → IsStep n c from q left r → Laws.answer_of r ≡ Some answer → IsLawful n.history from (seen_at n c) q.key answer
answered_by n c from left q r answer is same = grind (arith, same_Some, none-some)

-- an allowed load has a search
load_searches : (s : State) (c : ℕ) (e : Event) (o : Outcome) (found : Option Search) → IsLoadOf c e → search_at s c ≡ found → Events.step s e ≡ Some o → (q : Search) × (search_at s c ≡ Some q)
load_searches s c e o found of is made = grind (arith, none-some)

load_lawful : (h : List Change) (s : State) (c : ℕ) (key : Key) (e : Event) (o : Outcome) (answer : Option Entry) → Since h s c key → IsLoadOf c e → Events.step s e ≡ Some o → Laws.answer_of o.reply ≡ Some answer
    → IsLawful o.state.history (length h) (seen_at o.state c) key answer
load_lawful h s c key e o answer is of made reply =
    let search = load_searches s c e o (search_at s c) of refl made in
    let was : Goes s c (length h) key search.0 = is.going search.0 search.1 in
    let steps : Steps c (length h) search.0 (weight s search.0.place) (Some o) =
    subst (Steps c (length h) search.0 (weight s search.0.place)) made (own_steps s c (length h) key search.0 e is.holds search.1 was of) in
    grind (arith, answered_by, weight)

live_grown : (old new more : List Change) (e : Entry) → new ≡ old ++ more → IsLiveAt old (length old) e → IsLiveAt new (length old) e
live_grown old new more e grown live = subst (λ (h : List Change). IsLiveAt h (length old) e) (sym grown) (live_then old more e live)

met_as : (old new more : List Change) (seen : ℕ) (key : Key) (answer : Option Entry) (e : Entry) → IsLegal new → new ≡ old ++ more → (lawful : IsLawful new (length old) seen key answer)
    → IsLookup new lawful.point key answer → IsLiveAt old (length old) e → key_of e ≡ key → ((p : ℕ) → EndsAt new e.number p → ⊥) → answer ≡ Some e
met_as old new more seen key None e legal grown lawful at live same stays =
    absurd (at e (record { attached = attached_grown old new more e grown live.attached; begun = omega (arith, live.begun, lawful.from_on); unended = λ p x. absurd (stays p x) }) same)
met_as old new more seen key (Some f) e legal grown lawful at live same stays =
    ap Some (one_live new legal lawful.point f e at.0 (record {
      attached = attached_grown old new more e grown live.attached;
      begun = omega (arith, live.begun, lawful.from_on);
      unended = λ p x. absurd (stays p x);
    }) (at.1 ∙ sym same))

left_as : (old new more : List Change) (seen : ℕ) (key : Key) (answer : Option Entry) (e : Entry) (p : ℕ) → new ≡ old ++ more → (lawful : IsLawful new (length old) seen key answer)
    → IsLookup new lawful.point key answer → EndsAt old e.number p → answer ≡ Some e → ⊥
left_as old new more seen key None e p grown lawful at end is = none-some e is
left_as old new more seen key (Some f) e p grown lawful at end is =
    let one : f ≡ e = same_Some f e is in
    let ends : EndsAt new f.number p = subst (λ (g : Entry). EndsAt new g.number p) (sym one) (ends_grown old new more e.number p grown end) in
    omega (arith, at.0.unended p ends, (ended_within old e.number p end).1, lawful.from_on)

pub answers_freshly : (s : State) → Holds s → AnswersFreshly s
answers_freshly s on c key since event o answer allowed none of made reply =
    let n : State = Laws.after (Laws.after_event s (Laws.seek_for c key)) since in
    let is : Since s.history n c key = since_events s.history (Laws.after_event s (Laws.seek_for c key)) c key since none (since_seek s c key on allowed) in
    let lawful = load_lawful s.history n c key event o answer is of made reply in
    let last = history_grows n event in
    let more : List Change = is.grown.0 ++ last.0 in
    let grown : o.state.history ≡ s.history ++ more =
    ap (λ (x : Option Outcome). (Events.state_after n x).history) (sym made) ∙ (last.1 ∙ (ap (λ (l : List Change). l ++ last.0) is.grown.1 ∙ append_assoc s.history is.grown.0 last.0)) in
    let holds : Holds o.state = subst (λ (x : Option Outcome). Holds (Events.state_after n x)) made (after_keeps n (Events.step n event) is.holds (step_keeps n event is.holds)) in
    record {
      lawful = lawful;
      met = λ e live same stays. met_as s.history o.state.history more (seen_at o.state c) key answer e holds.legal grown lawful lawful.answered live same stays;
      kept = λ e live same stays missed. never_missed o.state.history holds.legal key (length s.history) (seen_at o.state c) e (live_grown s.history o.state.history more e grown live) same stays
          (subst (λ (a : Option Entry). IsLawful o.state.history (length s.history) (seen_at o.state c) key a) missed lawful);
      left = λ e p end found. left_as s.history o.state.history more (seen_at o.state c) key answer e p grown lawful lawful.answered end found;
    }

-- an allowed Confirm: the hand is trying an entry that is live
record Confirms (s : State) (c : ℕ) (h : Hand) : Type 0 where
  slot : ℕ
  number : ℕ
  hand : h ≡ Trying slot number
  may : Events.may_confirm s c number (slot_at s.slots slot) ≡ true
  state : Events.state_after s (Events.confirm s c h) ≡ Events.after_confirm s c

confirms : (s : State) (c : ℕ) (h : Hand) → IsSome (Events.confirm s c h) → Confirms s c h
confirms s c h allowed = grind (arith, allowed_guard, guarded)

-- an allowed Refind: the slot has a live entry
record AllowsRefind (s : State) (c t n : ℕ) (x : Slot) : Type 0 where
  entry : Entry
  live : x ≡ Live entry
  may : Events.may_refind s c t n entry ≡ true
  state : Events.state_after s (Events.refind s c t n x) ≡ Events.after_refind s c entry

refinds : (s : State) (c t n : ℕ) (x : Slot) → IsSome (Events.refind s c t n x) → AllowsRefind s c t n x
refinds s c t n x allowed = grind (arith, allowed_guard, guarded)

pub sees_all : (s : State) → Holds s → SeesAll s
sees_all s on = grind (arith, allowed_guard, idle_parts, and_parts, guarded, get_or-set_same, recall_tells, recall_head_tells, refinds, refind_tells, confirms, trying_tells)

-- the entry of the history with the number of the slot's live entry is that one
pub live_is : (s : State) (t n : ℕ) (e : Entry) → Holds s → Events.has_live n (slot_at s.slots t) ≡ true → IsAttached s.history e → e.number ≡ n → IsLiveAt s.history (length s.history) e × (e.slot ≡ t)
live_is s t n e on test attached number = grind (arith, live_tells, one_entry)

pub honest_tells : (n : ℕ) (x : Slot) → 0 < n → Events.is_honest n x ≡ true → Events.has_live n x ≡ true
honest_tells n x some test = grind arith

pub recalls_live : (s : State) → Holds s → RecallsLive s
recalls_live s on = record {
  recalled = λ c t e allowed attached number.
      let may : Events.may_recall s c t ≡ true = allowed_guard (Events.may_recall s c t) _ allowed in
      let some : 0 < live_at s.lives t = let within = attached_within s.history e attached in omega (arith, within.0, number) in
      live_is s t (live_at s.lives t) e on (honest_tells (live_at s.lives t) (slot_at s.slots t) some (recall_tells s c t may).3) attached number;
  confirmed = λ c t e hand allowed attached.
      let made = confirms s c (hand_at s c) allowed in
      let q : Trying made.slot made.number ≡ Trying t e.number = sym made.hand ∙ hand in
      let slot : made.slot ≡ t = cc in
      let number : made.number ≡ e.number = cc in
      let found = live_is s made.slot made.number e on (confirm_tells s c made.number (slot_at s.slots made.slot) made.may).1 attached (sym number) in
      (found.0, found.1 ∙ slot, tried_seen s c t e.number on hand);
  refound = λ c t e allowed attached.
      let made = refinds s c t e.number (slot_at s.slots t) allowed in
      let told = refind_tells s c t e.number made.entry made.may in
      let shown = on.slots.live t made.entry made.live in
      let same : made.entry ≡ e = one_entry s.history made.entry e shown.0.attached attached told.3 in
      let lt = told.0 in
      let found : found_at (Events.after_refind s c made.entry) c ≡ Some made.entry =
      get_or-set_same s.found c (Some made.entry) None (omega (arith, lt, on.shape.found, on.seats.within)) in
      let now : found_at (Laws.after_event s (Refind c t e.number)) c ≡ Some made.entry = ap (λ (n : State). found_at n c) made.state ∙ found in
      subst (λ (f : Entry). IsLiveAt s.history (length s.history) f × (f.slot ≡ t) × (found_at (Laws.after_event s (Refind c t e.number)) c ≡ Some f)) same (shown.0, shown.1, now);
}

-- the head leads to the newest live entry
pub head_newest : (h : List Change) (w : ℕ) → IsLegal h → Leads h (length h) (suc (length h)) w → IsNewestAt h w
head_newest h zero legal (To_end none) = record {
  none = λ is e live. none e live (omega (arith, rank_low h legal e.number, live.begun));
  newest = λ t is. absurd (omega (arith, is));
}
head_newest h _ legal (To_entry e live lt most) = record {
  none = λ is. absurd (omega (arith, is));
  newest = λ t is. (e, live, omega (arith, is), λ f lf. most f lf (omega (arith, rank_low h legal f.number, lf.begun)));
}

-- only one word is replied
pub one_word : (b : Bool) (s n : State) (m w : ℕ) → Events.guard b (Events.some_outcome s (Word m)) ≡ Some (record { state = n; reply = Word w }) → m ≡ w
one_word b s n m w is = grind (arith, same_Some, none-some)

pub recalls_newest : (s : State) → Holds s → RecallsNewest s
recalls_newest s on c w n made = subst (IsNewestAt s.history) (one_word (Events.may_recall_head s c) (Events.after_seeing s c) n s.head w made) (head_newest s.history s.head on.legal on.list.first)

pub fresh_answers : FreshAnswers
fresh_answers z events fit = answers_freshly (Laws.after (opening z) events) (every_run_keeps z events fit)

pub whole_passes : WholePasses
whole_passes z events fit = sees_all (Laws.after (opening z) events) (every_run_keeps z events fit)

pub live_recalls : LiveRecalls
live_recalls z events fit = recalls_live (Laws.after (opening z) events) (every_run_keeps z events fit)

pub newest_recalls : NewestRecalls
newest_recalls z events fit = recalls_newest (Laws.after (opening z) events) (every_run_keeps z events fit)
