-- Fresh lookups: a CPU's search is in the list where its log has it, and the protocol's law holds of it there.
use Rattle.std.proofs.Common.{◌≡◌, ◌≢◌, inl, inr, ⊎_elim, ℕ, ◌+◌, ◌-◌, ◌≤◌, IsTrue, IsSome, List, [], ◌∷◌, ◌++◌, length, take, Option, Some, true, false, Bool, refl, sym, ap, ◌∙◌, subst, length-append, append_assoc, arith}
use Rattle.std.specs.List.{AllByRecursion}
use Rattle.std.proofs.lemmas.Bool.{cases_eq}
use Rattle.std.proofs.lemmas.List.{append-nil, take_at}
use Rattle.std.proofs.Math.Seq.{take-append-add}
use mathlib.Core.Option.{some}
use lib.ListN.{get_elem?}
use Rattle.atomic_table.specs.Table.{State as Table}
use Rattle.atomic_table.proofs.Lists.{at_map}
use Rattle.cpu_words.specs.Types.{Key, Entry, Change, Settings, Event, Enter, Hear, Recall, RecallHead, Refind, Confirm, Word, LoadLink, LoadRecord, RecordOf, Reply, Ref}
use Rattle.registry_values.specs.Common.{are_fit}
use Rattle.protocol.specs.declared.event.RecordOf.TheVariants.{Search as OfSearch}
use Rattle.protocol.specs.Common.{State, opening, Outcome, step, state_after, Holds, live_at, seen_at, may_recall, after_seeing, after, after_event, IsAllowed, IsLoadOf, answer_of, IsNoSeek, SeeksNone, IsFreshAnswer, seek_for, SeesAll}
use Rattle.protocol.proofs.keeps.Keeping.{opening_holds, step_keeps, after_keeps}
use Rattle.protocol.proofs.runs.Answers.{history_grows}
use Rattle.protocol.proofs.runs.Fresh.{answers_freshly, one_word, recalls_live, recalls_newest, sees_all}
use Rattle.protocol.proofs.runs.Steps.{after_more}
use Rattle.cpu_words.specs.Common.{Cpu, CpuView, LogItem, Logged, by_number, reply_without_id, maker, IsSeatOf, AreByOwn, part, has_heard_from, IsStanding, RunsAsLogged, Sits, has_sought, until_reply, with_reply, HeadsAreNewest, LookupsAreFresh, history_length, RecallsAreLive, RefindsAreLive, WholeInTheList, log_item, PassesAreWhole}
use Rattle.cpu_words.proofs.laws.Waiting.{own_first, part_placed, fewer_acts, cut_at}
use Rattle.cpu_words.proofs.logs.Loads.{run_as_logged, is_whole, same_event, part_same, part_off, place}
use Rattle.cpu_words.proofs.logs.Runs.{part_append, Follows, after_append, follows_after, follows_holds, cut}

-- One event of a run

pub own_last : (seat : ℕ → ℕ) (n : ℕ) (a b : List (ℕ × LogItem)) → AreByOwn seat n (a ++ b) → AreByOwn seat n b
own_last seat n [] b own = own
own_last seat n (x ∷ rest) b own = own_last seat n rest b own.1

-- a run that begins with the CPU's Seek
record Begins (s : State) (c : ℕ) (key : Key) (more : List (ℕ × LogItem)) (es : List Event) (t : State) : Type 0 where
  since : List Event
  are : es ≡ seek_for c key ∷ since
  allowed : IsAllowed s (seek_for c key)
  run : Follows (after_event s (seek_for c key)) more since t

begins : (s : State) (i c : ℕ) (key : Key) (more : List (ℕ × LogItem)) (es : List Event) (t : State) → Follows s ((i, has_sought c key) ∷ more) es t → Begins s c key more es t
begins s i c key more [] t run = absurd run
begins s i c key more (e ∷ es) t run =
    let same : seek_for c key ≡ e = same_event s e (seek_for c key) (ap (λ (d : LogItem). d.event) run.2) refl in
    let made : step s (seek_for c key) ≡ Some run.0 = ap (step s) same ∙ run.1 in
    record {
      since = es;
      are = ap (λ (f : Event). f ∷ es) (sym same);
      allowed = subst (λ (o : Option Outcome). IsSome o) (sym made) refl;
      run = subst (λ (o : Option Outcome). Follows (state_after s o) more es t) (sym made) run.3;
    }

-- one that begins with the load that replied

abbrev pub is_record : Event → Bool
is_record (LoadRecord of) = true
is_record e = false

load_from : (s : State) (c : ℕ) (of : RecordOf) (d : Event) → d ≡ by_number s (LoadRecord of) → d ≡ LoadRecord (OfSearch c) → LoadRecord of ≡ LoadRecord (OfSearch c)
load_from s c (OfSearch b) d is load = sym is ∙ load
load_from s c of d is load = absurd (let q : by_number s (LoadRecord of) ≡ LoadRecord (OfSearch c) = sym is ∙ load in cc)

load_as : (s : State) (c : ℕ) (e d : Event) → d ≡ by_number s e → d ≡ LoadRecord (OfSearch c) → e ≡ LoadRecord (OfSearch c)
load_as s c (LoadRecord of) d is load = load_from s c of d is load
load_as s c e d is load = absurd (let q : ◌≡◌ {A = Bool} false true = ap is_record (sym is ∙ load) in cc)

replied_as : (r : Reply) (answer : Option Entry) → answer_of (reply_without_id r) ≡ Some answer → answer_of r ≡ Some answer
replied_as (Ref id) answer is = is
replied_as r answer is = is

record Replies (s : State) (c : ℕ) (answer : Option Entry) (es : List Event) : Type 0 where
  load : Event
  later : List Event
  outcome : Outcome
  are : es ≡ load ∷ later
  made : step s load ≡ Some outcome
  loads : IsLoadOf c load
  replied : answer_of outcome.reply ≡ Some answer

replies : (s : State) (i c : ℕ) (d : LogItem) (answer : Option Entry) (more : List (ℕ × LogItem)) (es : List Event) (t : State) → Follows s ((i, d) ∷ more) es t → IsLoadOf c d.event
    → answer_of d.reply ≡ Some answer → Replies s c answer es
replies s i c d answer more [] t run of is = absurd run
replies s i c d answer more (e ∷ es) t run of is =
    let event : d.event ≡ by_number s e = ap (λ (x : LogItem). x.event) run.2 in
    record {
      load = e;
      later = es;
      outcome = run.0;
      are = refl;
      made = run.1;
      loads = ⊎_elim
          (λ (link : d.event ≡ LoadLink c). inl (sym (same_event s e (LoadLink c) (sym link ∙ event) refl)))
          (λ (rec : d.event ≡ LoadRecord (OfSearch c)). inr (load_as s c e d.event event rec))
          of;
      replied = replied_as run.0.reply answer (ap answer_of (sym (ap (λ (x : LogItem). x.reply) run.2)) ∙ is);
    }

-- among the events between the CPU began no search: one of its own is in its log, and another seat's isn't its Seek
seeks_none : (seat : ℕ → ℕ) (n i c : ℕ) (s : State) (acts : List (ℕ × LogItem)) (es : List Event) (t : State) → Follows s acts es t → AreByOwn seat n acts → i ≡ seat c
    → AllByRecursion (λ (d : LogItem). IsNoSeek c d.event) (part i acts) → SeeksNone c es
seeks_none seat n i c s [] [] t run own here none = tt
seeks_none seat n i c s [] (e ∷ es) t run own here none = absurd run
seeks_none seat n i c s (a ∷ more) [] t run own here none = absurd run
seeks_none seat n i c s (a ∷ more) (e ∷ es) t run own here none = (
  λ key is.
      let event : a.1.event ≡ seek_for c key = ap (λ (x : LogItem). x.event) run.2 ∙ ap (by_number s) is in
      let mine : a.0 ≡ i = (subst (λ (f : Event). IsSeatOf seat n a.0 (maker f)) event own.0).0 ∙ sym here in
      (subst (AllByRecursion (λ (d : LogItem). IsNoSeek c d.event)) (part_same i a more mine) none).0 key event,
  seeks_none seat n i c run.0.state more es t run.3 own.1 here (⊎_elim
      (λ (same : a.0 ≡ i). (subst (AllByRecursion (λ (d : LogItem). IsNoSeek c d.event)) (part_same i a more same) none).1)
      (λ (off : a.0 ≢ i). subst (AllByRecursion (λ (d : LogItem). IsNoSeek c d.event)) (part_off i a more off) none)
      (cases_eq a.0 i)),
)

-- The law

one_after : (s : State) (e : Event) → after s (e ∷ []) ≡ after_event s e
one_after s e = after_more s e []

-- the state with the reply is the one after all these events
replied_after : (z : Settings) (first : List Event) (c : ℕ) (key : Key) (since : List Event) (load : Event) (m n : State) (o : Outcome) → m ≡ after (opening z) first
    → n ≡ after (after_event m (seek_for c key)) since → step n load ≡ Some o → o.state ≡ after (opening z) (with_reply first c key since load)
replied_after z first c key since load m n o start there made =
    let last : o.state ≡ after n (load ∷ []) = ap (λ (x : Option Outcome). state_after n x) (sym made) ∙ sym (one_after n load) in
    last ∙ ((ap (λ (x : State). after x (load ∷ [])) there ∙ sym (after_append (after_event m (seek_for c key)) since (load ∷ []))) ∙ (sym (after_more m (seek_for c key) (since ++ load ∷ []))
    ∙ (ap (λ (x : State). after x (seek_for c key ∷ (since ++ load ∷ []))) start ∙ sym (after_append (opening z) first (seek_for c key ∷ (since ++ load ∷ []))))))

pub lookups_are_fresh : LookupsAreFresh
lookups_are_fresh z s r i l x key answer at is a =
    let run = r.run in
    let c = x.id in
    let g = after (opening z) run.events in
    let begin = has_sought c key in
    let sits : i ≡ run.seat c = subst (Sits run.seat i) is (run.shows.fits i l.view (at_map (λ (k : Logged). k.view) s.views i l at)).0 in
    let mine : part i r.acts ≡ a.before ++ begin ∷ (a.between ++ a.load ∷ a.after) = sym (r.logs i l at (subst IsStanding (sym is) tt)) ∙ a.are in
    let p = place i r.acts a.before (a.between ++ a.load ∷ a.after) begin mine in
    let q = place i p.second a.between a.after a.load p.rest in
    let middle : List (ℕ × LogItem) = (i, begin) ∷ q.first in
    let end : List (ℕ × LogItem) = (i, a.load) ∷ q.second in
    let are : r.acts ≡ (p.first ++ middle) ++ end = p.are ∙ (ap (λ (d : List (ℕ × LogItem)). p.first ++ (i, begin) ∷ d) q.are ∙ sym (append_assoc p.first middle end)) in
    let k = cut (opening z) (p.first ++ middle) end run.events g (subst (λ (d : List (ℕ × LogItem)). Follows (opening z) d run.events g) are (run_as_logged z s r)) in
    let j = cut (opening z) p.first middle k.earlier k.between k.before in
    let b = begins j.between i c key q.first j.later k.between j.since in
    let e = replies k.between i c a.load answer q.second k.later g k.since a.loads a.replied in
    let on : Holds j.between = follows_holds (opening z) p.first j.earlier j.between j.before (opening_holds z (subst (λ (w : Settings). IsTrue (are_fit w)) run.settings run.good.holds.fit)) in
    let owners : AreByOwn run.seat g.seated q.first =
    own_first run.seat g.seated q.first end (subst (AreByOwn run.seat g.seated) q.are (own_last run.seat g.seated (p.first ++ (i, begin) ∷ []) p.second
    (subst (AreByOwn run.seat g.seated) (p.are ∙ sym (append_assoc p.first ((i, begin) ∷ []) p.second)) r.owners))) in
    let quiet : part i q.first ≡ a.between = part_placed i p.second a.between a.after a.load p.rest q in
    let none : SeeksNone c b.since = seeks_none run.seat g.seated i c (after_event j.between (seek_for c key)) q.first b.since k.between b.run owners sits
    (subst (AllByRecursion (λ (d : LogItem). IsNoSeek c d.event)) (sym quiet) a.none) in
    let there : k.between ≡ after (after_event j.between (seek_for c key)) b.since = follows_after (after_event j.between (seek_for c key)) q.first b.since k.between b.run in
    let start : j.between ≡ after (opening z) j.earlier = follows_after (opening z) p.first j.earlier j.between j.before in
    let fresh : IsFreshAnswer j.between.history e.outcome.state.history (seen_at e.outcome.state c) key answer =
    answers_freshly j.between on c key b.since e.load e.outcome answer b.allowed none e.loads (ap (λ (m : State). step m e.load) (sym there) ∙ e.made) e.replied in
    let finish = replied_after z j.earlier c key b.since e.load j.between k.between e.outcome start there e.made in
    let upto : k.earlier ≡ until_reply j.earlier c key b.since = j.are ∙ ap (λ (d : List Event). j.earlier ++ d) b.are in
    let sought : part i (take (length j.earlier) r.acts) ≡ a.before =
    ap (part i) (ap (take (length j.earlier)) (are ∙ append_assoc p.first middle end) ∙ take_at p.first (middle ++ end) (length j.earlier) (sym j.size))
    ∙ part_placed i r.acts a.before (a.between ++ a.load ∷ a.after) begin mine p in
    let parts : part i (p.first ++ middle) ≡ a.before ++ begin ∷ a.between =
    part_append i p.first middle ∙ ((λ n. part_placed i r.acts a.before (a.between ++ a.load ∷ a.after) begin mine p n ++ part_same i (i, begin) q.first refl n)
    ∙ ap (λ (d : List LogItem). a.before ++ begin ∷ d) quiet) in
    let replied : part i (take (length (until_reply j.earlier c key b.since)) r.acts) ≡ a.before ++ begin ∷ a.between =
    ap (λ (n : ℕ). part i (take n r.acts)) (ap (λ (d : List Event). length d) (sym upto))
    ∙ (ap (part i) (ap (take (length k.earlier)) are ∙ take_at (p.first ++ middle) end (length k.earlier) (sym k.size)) ∙ parts) in
    record {
      first = j.earlier;
      since = b.since;
      load = e.load;
      later = e.later;
      are = k.are ∙ ((λ n. upto n ++ e.are n) ∙ append_assoc j.earlier (seek_for c key ∷ b.since) (e.load ∷ e.later));
      sought = subst (λ (n : ℕ). part n (take (length j.earlier) r.acts) ≡ a.before) sits sought;
      replied = subst (λ (n : ℕ). part n (take (length (until_reply j.earlier c key b.since)) r.acts) ≡ a.before ++ begin ∷ a.between) sits replied;
      fresh = subst (λ (m : State). IsFreshAnswer m.history (after (opening z) (with_reply j.earlier c key b.since e.load)).history
          (seen_at (after (opening z) (with_reply j.earlier c key b.since e.load)) c) key answer) start
          (subst (λ (m : State). IsFreshAnswer j.between.history m.history (seen_at m c) key answer) finish fresh);
    }

-- What a CPU has seen

first_made : (s : State) (acts : List (ℕ × LogItem)) (e : Event) (es : List Event) (t : State) → Follows s acts (e ∷ es) t → IsAllowed s e
first_made s [] e es t run = absurd run
first_made s (a ∷ more) e es t run = subst (λ (o : Option Outcome). IsSome o) (sym run.1) refl

longer : (s : State) (es : List Event) → Holds s → length s.history ≤ length (after s es).history
longer s [] on = omega arith
longer s (e ∷ es) on =
    let grows = history_grows s e in
    let size : length (after_event s e).history ≡ length s.history + length grows.0 = ap (λ (h : List Change). length h) grows.1 ∙ length-append s.history grows.0 in
    subst (λ (n : State). length s.history ≤ length n.history) (sym (after_more s e es)) (omega (arith, size, longer (after_event s e) es (after_keeps s (step s e) on (step_keeps s e on))))

-- the state at a moment, and what goes on from it
record AtMoment (z : Settings) (first rest : List Event) : Type 0 where
  acts : List (ℕ × LogItem)
  t : State
  run : Follows (after (opening z) first) acts rest t
  on : Holds (after (opening z) first)

at_moment : (z : Settings) (s : Table ℕ Logged) (r : RunsAsLogged z s) (first rest : List Event) → r.run.events ≡ first ++ rest → AtMoment z first rest
at_moment z s r first rest are =
    let run = r.run in
    let g = after (opening z) run.events in
    let fit : IsTrue (are_fit z) = subst (λ (w : Settings). IsTrue (are_fit w)) run.settings run.good.holds.fit in
    let size : length r.acts ≡ length first + length rest = r.all ∙ (ap (λ (d : List Event). length d) are ∙ length-append first rest) in
    let k = cut_at z run.seat g.seated r.acts r.acts [] run.events first rest g fit r.owners (run_as_logged z s r) (sym (append-nil r.acts)) are (omega (arith, size)) in
    record { acts = k.since ++ k.later; t = g; run = k.run; on = k.on }

-- after an event that lets the CPU see all
passes_at : (z : Settings) (s : Table ℕ Logged) (r : RunsAsLogged z s) (c : ℕ) (e : Event) → ((n : State) → SeesAll n → IsAllowed n e → seen_at (after_event n e) c ≡ length n.history)
    → (first rest : List Event) → r.run.events ≡ first ++ e ∷ rest → seen_at (after (opening z) (first ++ e ∷ [])) c ≡ history_length z first
passes_at z s r c e law first rest are =
    let m = at_moment z s r first (e ∷ rest) are in
    let g = after (opening z) first in
    ap (λ (n : State). seen_at n c) (after_append (opening z) first (e ∷ []) ∙ one_after g e) ∙ law g (sees_all g m.on) (first_made g m.acts e rest m.t m.run)

passes_are_whole : (z : Settings) (s : Table ℕ Logged) (r : RunsAsLogged z s) → PassesAreWhole r
passes_are_whole z s r = record {
  entered = λ c. passes_at z s r c (Enter c) (λ n all. all.entered c);
  heard = λ c. passes_at z s r c (Hear (Some c)) (λ n all. all.heard c);
  recalled = λ c t. passes_at z s r c (Recall c t) (λ n all. all.recalled c t);
  headed = λ c. passes_at z s r c (RecallHead c) (λ n all. all.headed c);
  refound = λ c t k. passes_at z s r c (Refind c t k) (λ n all. all.refound c t k);
  confirmed = λ c. passes_at z s r c (Confirm c) (λ n all. all.confirmed c);
  told = λ c i h first rest earlier later are cut_is few.
      let item = has_heard_from (Some c) (Some h) in
      let come : h.events ≤ length (part (r.run.seat h.cpu) first) = (r.told i item first rest are).before.events in
      let lt = fewer_acts (r.run.seat h.cpu) h.events (length earlier) r.acts first ((i, item) ∷ rest) are come few in
      let n = length first - length earlier in
      let at : take (length first) r.run.events ≡ earlier ++ take n later =
      ap (λ (k : ℕ). take k r.run.events) (let q : length first ≡ length earlier + n = omega (arith, lt) in q) ∙ (ap (take (length earlier + n)) cut_is ∙ take-append-add earlier later n) in
      let m = at_moment z s r earlier later cut_is in
      subst (λ (d : List Event). history_length z earlier ≤ history_length z d) (sym at)
      (subst (λ (t : State). history_length z earlier ≤ length t.history) (sym (after_append (opening z) earlier (take n later))) (longer (after (opening z) earlier) (take n later) m.on));
}

pub whole_in_the_list : WholeInTheList
whole_in_the_list z s r = passes_are_whole z s r

-- What is recalled

-- a run that begins with the event e, a load that found n
record Loads (s : State) (e : Event) (n : ℕ) (es : List Event) : Type 0 where
  later : List Event
  are : es ≡ e ∷ later
  left : State
  made : step s e ≡ Some (record { state = left; reply = Word n })

replied_by : (r : Reply) (n : ℕ) → Word n ≡ reply_without_id r → r ≡ Word n
replied_by (Ref id) n is = absurd (let q : Word n ≡ Ref 0 = is in cc)
replied_by r n is = sym is

loads : (s : State) (i n : ℕ) (e : Event) (more : List (ℕ × LogItem)) (es : List Event) (u : State) → is_whole e ≡ true → Follows s ((i, log_item e (Word n)) ∷ more) es u → Loads s e n es
loads s i n e more [] u whole run = absurd run
loads s i n e more (d ∷ es) u whole run =
    let same : e ≡ d = same_event s d e (ap (λ (k : LogItem). k.event) run.2) whole in
    record {
      later = es;
      are = ap (λ (f : Event). f ∷ es) (sym same);
      left = run.0.state;
      made = ap (step s) same ∙ (run.1 ∙ ap (λ (r : Reply). Some (record { state = run.0.state; reply = r })) (replied_by run.0.reply n (ap (λ (k : LogItem). k.reply) run.2)));
    }

-- the load's place in the list of all events: the CPU c had done just so much before it
record Loaded {z : Settings} {s : Table ℕ Logged} (r : RunsAsLogged z s) (c : ℕ) (e : Event) (n : ℕ) (before : List LogItem) : Type 0 where
  first : List Event
  later : List Event
  are : r.run.events ≡ first ++ e ∷ later
  own : part (r.run.seat c) (take (length first) r.acts) ≡ before
  on : Holds (after (opening z) first)
  left : State
  made : step (after (opening z) first) e ≡ Some (record { state = left; reply = Word n })

loaded : (z : Settings) (s : Table ℕ Logged) (r : RunsAsLogged z s) (i : ℕ) (l : Logged) (x : CpuView) (e : Event) (n : ℕ) (before after_it : List LogItem) → get_elem? s.views i ≡ some l → l.view ≡ Cpu x
    → l.log ≡ before ++ log_item e (Word n) ∷ after_it → is_whole e ≡ true → Loaded r x.id e n before
loaded z s r i l x e n before after_it at is are whole =
    let run = r.run in
    let item = log_item e (Word n) in
    let g = after (opening z) run.events in
    let sits : i ≡ run.seat x.id = subst (Sits run.seat i) is (run.shows.fits i l.view (at_map (λ (k : Logged). k.view) s.views i l at)).0 in
    let mine : part i r.acts ≡ before ++ item ∷ after_it = sym (r.logs i l at (subst IsStanding (sym is) tt)) ∙ are in
    let p = place i r.acts before after_it item mine in
    let k = cut (opening z) p.first ((i, item) ∷ p.second) run.events g (subst (λ (d : List (ℕ × LogItem)). Follows (opening z) d run.events g) p.are (run_as_logged z s r)) in
    let b = loads k.between i n e p.second k.later g whole k.since in
    let there : k.between ≡ after (opening z) k.earlier = follows_after (opening z) p.first k.earlier k.between k.before in
    let own : part i (take (length k.earlier) r.acts) ≡ before =
    ap (part i) (ap (take (length k.earlier)) p.are ∙ take_at p.first ((i, item) ∷ p.second) (length k.earlier) (sym k.size)) ∙ part_placed i r.acts before after_it item mine p in
    record {
      first = k.earlier;
      later = b.later;
      are = k.are ∙ ap (λ (d : List Event). k.earlier ++ d) b.are;
      own = subst (λ (m : ℕ). part m (take (length k.earlier) r.acts) ≡ before) sits own;
      on = subst Holds there (follows_holds (opening z) p.first k.earlier k.between k.before (opening_holds z (subst (λ (w : Settings). IsTrue (are_fit w)) run.settings run.good.holds.fit)));
      left = b.left;
      made = subst (λ (m : State). step m e ≡ Some (record { state = b.left; reply = Word n })) there b.made;
    }

is_allowed : (s t : State) (e : Event) (r : Reply) → step s e ≡ Some (record { state = t; reply = r }) → IsAllowed s e
is_allowed s t e r made = subst (λ (o : Option Outcome). IsSome o) (sym made) refl

pub recalls_are_live : RecallsAreLive
recalls_are_live z s r i l x t n at is a =
    let b = loaded z s r i l x (Recall x.id t) n a.before a.after at is a.are refl in
    let g = after (opening z) b.first in
    let word : live_at g.lives t ≡ n = one_word (may_recall g x.id t) (after_seeing g x.id) b.left (live_at g.lives t) n b.made in record {
      first = b.first;
      later = b.later;
      are = b.are;
      own = b.own;
      live = λ e attached number. (recalls_live g b.on).recalled x.id t e (is_allowed g b.left (Recall x.id t) (Word n) b.made) attached (number ∙ sym word);
    }

pub refinds_are_live : RefindsAreLive
refinds_are_live z s r i l x t n at is a =
    let b = loaded z s r i l x (Refind x.id t n) n a.before a.after at is a.are refl in
    let g = after (opening z) b.first in record {
      first = b.first;
      later = b.later;
      are = b.are;
      own = b.own;
      live = λ e attached number.
          let live = (recalls_live g b.on).refound x.id t e (subst (λ (m : ℕ). IsAllowed g (Refind x.id t m)) (sym number) (is_allowed g b.left (Refind x.id t n) (Word n) b.made)) attached in
          (live.0, live.1);
    }

pub heads_are_newest : HeadsAreNewest
heads_are_newest z s r i l x w at is a =
    let b = loaded z s r i l x (RecallHead x.id) w a.before a.after at is a.are refl in
    record { first = b.first; later = b.later; are = b.are; own = b.own; newest = recalls_newest (after (opening z) b.first) b.on x.id w b.left b.made }
