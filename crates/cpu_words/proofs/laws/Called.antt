-- One list that only grows, and what calls promise of the moment at which they began.
use Rattle.std.proofs.Common.{◌≡◌, ⊎_elim, ℕ, suc, ◌+◌, ◌-◌, ◌<◌, ◌≤◌, List, ◌∷◌, ◌++◌, length, take, drop, refl, sym, ap, ◌∙◌, length-append, append_assoc, arith, ◌≢◌, IsTrue, Bool, true, false, [], Option, Some, None, subst}
use Rattle.std.proofs.lemmas.Bool.{cases_lt, cases_eq}
use Rattle.std.proofs.lemmas.List.{take_at, take-append-drop, take-append-le, append-nil, append_cancel_left}
use Rattle.std.proofs.Math.Seq.{take-append-add}
use mathlib.Core.List.{IsPrefix}
use Rattle.atomic_table.specs.Table.{State as Table}
use mathlib.Core.Option.{some, some-injective}
use lib.ListN.{get_elem?}
use Rattle.atomic_table.proofs.Lists.{at_map}
use Rattle.cpu_words.specs.Types.{Settings, Event, Exit}
use Rattle.registry_values.specs.Common.{are_fit}
use Rattle.protocol.specs.Common.{State, opening, begin_at, Outcome, state_after, after, after_event, HasExit, IsAllowed}
use Rattle.protocol.proofs.keeps.Keeping.{opening_holds}
use Rattle.cpu_words.specs.Common.{LogItem, Logged, part, TwoMoments, OrderedInTime, CpuView, HasNone, RunsAsLogged, Teller, View, Cpu, changes_in, has_heard_from, is_border, by_number, maker, AreByOwn, HasEndedSince, HasItsSections, IsSeatOf, IsStanding, Shown, Sits, cpu_of, without_logs, CpuHearsLater, EndsOpenSections, HasLeft, HasLeftSince, HasToldSince, KeeperHearsLater}
use Rattle.cpu_words.proofs.laws.Safety.{running_headline}
use Rattle.cpu_words.proofs.laws.Waiting.{part_placed, own_first, told_ended}
use Rattle.cpu_words.proofs.logs.Loads.{part_same, place, run_as_logged, inside_after, inside_by, inside_run, inside_still, is_open, part_off}
use Rattle.cpu_words.proofs.logs.Runs.{part_append, Follows, cut, follows_after, same_first, same_rest}
use Rattle.cpu_words.proofs.laws.Fresh.{own_last}
use Rattle.cpu_words.proofs.shown.Seeing.{seen_of, prefix_both}

-- One list that only grows: of two prefixes of it one begins the other, and what a seat hadn't done at a moment isn't in what another knew then.

-- a prefix that is no longer than another begins it
pub shorter : (p first rest all : List (ℕ × LogItem)) → IsPrefix p all → all ≡ first ++ rest → length p ≤ length first → IsPrefix p first
shorter p first rest all pre are le =
    let n = length p in
    let same : take n first ≡ p = sym (take-append-le n first rest le) ∙ (ap (take n) (sym are ∙ sym pre.1) ∙ take_at p pre.0 n refl) in
    (drop n first, ap (λ (l : List (ℕ × LogItem)). l ++ drop n first) (sym same) ∙ take-append-drop n first)

-- a longer one has the item past the other, too
pub longer_has : (j : ℕ) (d : LogItem) (p first rest all : List (ℕ × LogItem)) → IsPrefix p all → all ≡ first ++ (j, d) ∷ rest → length first < length p → length (part j first) < length (part j p)
longer_has j d p first rest all pre are lt =
    let n = length p in
    let k = n - suc (length first) in
    let end : List (ℕ × LogItem) = (j, d) ∷ rest in
    let is : p ≡ first ++ take (suc k) end =
    sym (take_at p pre.0 n refl) ∙ (ap (take n) (pre.1 ∙ are) ∙ (ap (λ (m : ℕ). take m (first ++ end)) (let q : n ≡ length first + suc k = omega (arith, lt) in q) ∙ take-append-add first end (suc k))) in
    let own : part j p ≡ part j first ++ d ∷ part j (take k rest) =
    ap (part j) is ∙ (part_append j first (take (suc k) end) ∙ ap (λ (l : List LogItem). part j first ++ l) (part_same j (j, d) (take k rest) refl)) in
    omega (arith, ap (λ (l : List LogItem). length l) own ∙ length-append (part j first) (d ∷ part j (take k rest)))

-- what the one knew has no more of the other's items than the other had done
pub few_known : {z : Settings} {s t : Table ℕ Logged} {i j : ℕ} (m : TwoMoments z s t i j) → length (part j m.knower.list) ≤ length m.doer.log
few_known {z} {s} {t} {i} {j} m =
    let r = running_headline z s m.earlier in
    let pre = r.lists i m.knower m.knew in
    let size : length m.doer.log ≡ length (part j m.knower.list) + length (part j pre.0) =
    ap (λ (l : List LogItem). length l) ((r.logs j m.doer m.did m.stood) ∙ (ap (part j) (sym pre.1) ∙ part_append j m.knower.list pre.0)) ∙ length-append (part j m.knower.list) (part j pre.0) in
    omega (arith, size)

pub ordered_in_time : OrderedInTime
ordered_in_time z s t i j m r before after d is =
    let known : IsPrefix m.knower.list r.acts = prefix_both m.knower.list m.knows.list r.acts m.grows (r.lists i m.knows m.now) in
    let mine : part j r.acts ≡ (m.doer.log ++ before) ++ d ∷ after =
    sym (r.logs j m.does m.done m.stands) ∙ (m.goes_on ∙ (ap (λ (l : List LogItem). m.doer.log ++ l) is ∙ sym (append_assoc m.doer.log before (d ∷ after)))) in
    let p = place j r.acts (m.doer.log ++ before) after d mine in
    let own : part j p.first ≡ m.doer.log ++ before = part_placed j r.acts (m.doer.log ++ before) after d mine p in
    record {
      first = p.first;
      rest = p.second;
      are = p.are;
      own = own;
      past = ⊎_elim
          (λ (lt : length p.first < length m.knower.list).
          absurd (omega (arith, longer_has j d m.knower.list p.first p.second r.acts known p.are lt, few_known m, ap (λ (l : List LogItem). length l) own ∙ length-append m.doer.log before)))
          (λ (le : length m.knower.list ≤ length p.first). shorter m.knower.list p.first ((j, d) ∷ p.second) r.acts known p.are le)
          (cases_lt (length p.first) (length m.knower.list));
    }

-- What calls promise of the moment at which they began: what was told and heard since stands past all that any seat knew then, and sections that were open then have ended.

-- What is known of the list later

known_later : {z : Settings} {s t : Table ℕ Logged} {i j : ℕ} (m : TwoMoments z s t i j) (r : RunsAsLogged z t) → IsPrefix m.knower.list r.acts
known_later {z} {s} {t} {i} {j} m r = prefix_both m.knower.list m.knows.list r.acts m.grows (r.lists i m.knows m.now)

part_prefix : (i : ℕ) (p l : List (ℕ × LogItem)) → IsPrefix p l → IsPrefix (part i p) (part i l)
part_prefix i p l pre = (part i pre.0, sym (part_append i p pre.0) ∙ ap (part i) pre.1)

more_than : (i : ℕ) (p l : List (ℕ × LogItem)) → IsPrefix p l → length (part i p) ≤ length (part i l)
more_than i p l pre =
    let q = part_prefix i p l pre in
    omega (arith, sym (length-append (part i p) q.0) ∙ ap (λ (d : List LogItem). length d) q.1)

-- the seat of the CPU that told
teller_seat : {z : Settings} {s t : Table ℕ Logged} {i j : ℕ} (m : TwoMoments z s t i j) (r : RunsAsLogged z t) (h : Teller) → HasToldSince m h → r.run.seat h.cpu ≡ j
teller_seat {z} {s} {t} {i} {j} m r h told =
    ap r.run.seat told.teller ∙ sym (subst (Sits r.run.seat j) told.is (r.run.shows.fits j m.does.view (at_map (λ (l : Logged). l.view) t.views j m.does m.done)).0)

-- The keeper heard

pub keeper_hears_later : KeeperHearsLater
keeper_hears_later z s t i j m r h before after told is =
    let item = has_heard_from None (Some h) in
    let p = place 0 r.acts before after item is in
    let did : part 0 p.first ≡ before = part_placed 0 r.acts before after item is p in
    let come : h.events ≤ length (part (r.run.seat h.cpu) p.first) = (r.told 0 item p.first p.second p.are).before.events in
    let here : length (part (r.run.seat h.cpu) p.first) ≡ length (part j p.first) = ap (λ (n : ℕ). length (part n p.first)) (teller_seat m r h told) in
    let pre = known_later m r in
    let past : IsPrefix m.knower.list p.first = ⊎_elim
    (λ (lt : length p.first < length m.knower.list).
    let back : IsPrefix p.first m.knower.list = shorter p.first m.knower.list pre.0 r.acts ((0, item) ∷ p.second, sym p.are) (sym pre.1) (omega (arith, lt)) in
    absurd (omega (arith, more_than j p.first m.knower.list back, few_known m, told.since, come, here)))
    (λ (le : length m.knower.list ≤ length p.first). shorter m.knower.list p.first ((0, item) ∷ p.second) r.acts pre p.are le)
    (cases_lt (length p.first) (length m.knower.list)) in
    record {
      first = p.first;
      rest = p.second;
      are = p.are;
      did = did;
      past = past;
      knew = subst (IsPrefix (part 0 m.knower.list)) did (part_prefix 0 m.knower.list p.first past);
    }

-- A CPU heard

pub cpu_hears_later : CpuHearsLater
cpu_hears_later z s t i j m r d before after is hears =
    let p = ordered_in_time z s t i j m r before after d is in
    prefix_both (part 0 m.knower.list) (part 0 p.first) m.does.known_log (part_prefix 0 m.knower.list p.first p.past) (r.heard j m.does m.done m.stands d p.first p.rest p.are hears)

-- Sections that were open

-- the cut of the later list at what i knew
record Known {z : Settings} {s t : Table ℕ Logged} {i j : ℕ} (m : TwoMoments z s t i j) (r : RunsAsLogged z t) : Type 0 where
  first : List Event
  rest : List Event
  more : List (ℕ × LogItem)
  acts : r.acts ≡ m.knower.list ++ more
  are : r.run.events ≡ first ++ rest
  size : length first ≡ length m.knower.list
  before : Follows (opening z) m.knower.list first (after (opening z) first)
  since : Follows (after (opening z) first) more rest (after (opening z) r.run.events)

known_at : {z : Settings} {s t : Table ℕ Logged} {i j : ℕ} (m : TwoMoments z s t i j) (r : RunsAsLogged z t) → Known m r
known_at {z} {s} {t} {i} {j} m r =
    let pre = known_later m r in
    let k = cut (opening z) m.knower.list pre.0 r.run.events (after (opening z) r.run.events)
    (subst (λ (l : List (ℕ × LogItem)). Follows (opening z) l r.run.events (after (opening z) r.run.events)) (sym pre.1) (run_as_logged z t r)) in
    let there : k.between ≡ after (opening z) k.earlier = follows_after (opening z) m.knower.list k.earlier k.between k.before in
    record {
      first = k.earlier;
      rest = k.later;
      more = pre.0;
      acts = sym pre.1;
      are = k.are;
      size = k.size;
      before = subst (λ (g : State). Follows (opening z) m.knower.list k.earlier g) there k.before;
      since = subst (λ (g : State). Follows g pre.0 k.later (after (opening z) r.run.events)) there k.since;
    }

-- Exits among events are in the CPU's own log

left_more : (c : ℕ) (d : LogItem) (ds : List LogItem) → HasLeft c ds → HasLeft c (d ∷ ds)
left_more c d ds has = record { before = d ∷ has.before; item = has.item; after = has.after; are = ap (λ (l : List LogItem). d ∷ l) has.are; exit = has.exit }

-- so it is in the part of its seat
left_by_seat : (seat : ℕ → ℕ) (n i c : ℕ) (s : State) (acts : List (ℕ × LogItem)) (es : List Event) (t : State) → Follows s acts es t → AreByOwn seat n acts → i ≡ seat c → HasExit s c es
    → HasLeft c (part i acts)
left_by_seat seat n i c s acts [] t run own at has = absurd has
left_by_seat seat n i c s [] (e ∷ es) t run own at has = absurd run
left_by_seat seat n i c s (a ∷ more) (e ∷ es) t run own at has = ⊎_elim
    (λ (here : (e ≡ Exit c) × IsAllowed s e).
    let event : a.1.event ≡ Exit c = ap (λ (x : LogItem). x.event) run.2 ∙ ap (by_number s) here.0 in
    let mine : a.0 ≡ i = (subst (λ (f : Event). IsSeatOf seat n a.0 (maker f)) event own.0).0 ∙ sym at in
    subst (HasLeft c) (sym (part_same i a more mine)) (record { before = []; item = a.1; after = part i more; are = refl; exit = event }))
    (λ (later : HasExit (after_event s e) c es).
    let rest = left_by_seat seat n i c run.0.state more es t run.3 own.1 at (subst (λ (p : Option Outcome). HasExit (state_after s p) c es) run.1 later) in
    ⊎_elim
    (λ (same : a.0 ≡ i). subst (HasLeft c) (sym (part_same i a more same)) (left_more c a.1 (part i more) rest))
    (λ (off : a.0 ≢ i). subst (HasLeft c) (sym (part_off i a more off)) rest)
    (cases_eq a.0 i))
    has

-- an exit isn't among items that are no borders

left_at : (c : ℕ) (d : LogItem) (ds : List LogItem) (item : LogItem) (before after : List LogItem) → is_border d.event ≡ false → item.event ≡ Exit c → d ∷ ds ≡ before ++ item ∷ after → HasLeft c ds
left_at c d ds item [] after none exit are = absurd (let q : true ≡ false = sym (ap is_border exit) ∙ (ap (λ (x : LogItem). is_border x.event) (sym (same_first d item ds after are)) ∙ none) in cc)
left_at c d ds item (x ∷ before) after none exit are = record { before = before; item = item; after = after; are = same_rest d x ds (before ++ item ∷ after) are; exit = exit }

left_past : (c : ℕ) (a b : List LogItem) → HasNone is_border a → HasLeft c (a ++ b) → HasLeft c b
left_past c [] b none has = has
left_past c (d ∷ a) b none has = left_past c a b none.1 (left_at c d (a ++ b) has.item has.before has.after none.0 has.exit has.are)

-- The seat's own section

some_of : (o : Option ℕ) → is_open o ≡ true → (b : ℕ) × (o ≡ Some b)
some_of None is = absurd (let q : false ≡ true = is in cc)
some_of (Some b) is = (b, refl)

inside_both : (b : Bool) (a ds : List LogItem) → inside_by b (a ++ ds) ≡ inside_by (inside_by b a) ds
inside_both b [] ds = refl
inside_both b (d ∷ a) ds = inside_both (inside_after d.event b) a ds

-- no two CPUs have one seat
one_cpu : (z : Settings) (t : Table ℕ Logged) (r : RunsAsLogged z t) (i : ℕ) (l : Logged) (y : CpuView) → get_elem? t.views i ≡ some l → l.view ≡ Cpu y → (d : ℕ)
    → d < (after (opening z) r.run.events).seated → i ≡ r.run.seat d → d ≡ y.id
one_cpu z t r i l y at is d lt same =
    let v = r.run.shows.each.cpus d lt in
    let here : get_elem? (without_logs t).views i ≡ some (Cpu v.0) = subst (λ (n : ℕ). get_elem? (without_logs t).views n ≡ some (Cpu v.0)) (sym same) v.1 in
    let views : Cpu v.0 ≡ Cpu y = some-injective _ _ (sym here ∙ at_map (λ (x : Logged). x.view) t.views i l at) ∙ is in
    sym v.2 ∙ ap (λ (x : View). (cpu_of x).id) views

-- how the list explains whether the seat i, which is the CPU y's, is inside after a part of it
inside_at : (z : Settings) (t : Table ℕ Logged) (r : RunsAsLogged z t) (i : ℕ) (l : Logged) (y : CpuView) → get_elem? t.views i ≡ some l → l.view ≡ Cpu y → (a b : List (ℕ × LogItem)) → r.acts ≡ a ++ b
    → (es : List Event) (g : State) → Follows (opening z) a es g → is_open (begin_at g y.id) ≡ inside_by (is_open (begin_at (opening z) y.id)) (part i a)
inside_at z t r i l y at is a b acts es g run =
    let n = (after (opening z) r.run.events).seated in
    let sits : i ≡ r.run.seat y.id = subst (Sits r.run.seat i) is (r.run.shows.fits i l.view (at_map (λ (x : Logged). x.view) t.views i l at)).0 in
    inside_run r.run.seat n i y.id (opening z) a es g run (opening_holds z (subst (λ (a : Settings). IsTrue (are_fit a)) r.run.settings r.run.good.holds.fit)) (own_first r.run.seat n a b (subst (AreByOwn r.run.seat n) acts r.owners)) sits
    (one_cpu z t r i l y at is)

-- at the first moment it was inside, by what its list has of it
was_inside : {z : Settings} {s t : Table ℕ Logged} {i j : ℕ} (m : TwoMoments z s t i j) (x : CpuView) (b : ℕ) → m.knower.view ≡ Cpu x → x.begin ≡ Some b → (own : HasItsSections i m.knower)
    → inside_by (is_open (begin_at (opening z) x.id)) (part i m.knower.list) ≡ true
was_inside {z} {s} {t} {i} {j} m x b is within own =
    let e = running_headline z s m.earlier in
    let g = after (opening z) e.run.events in
    let start = is_open (begin_at (opening z) x.id) in
    let begin : x.begin ≡ begin_at g x.id = (seen_of g x e.run.good (subst (Shown g) is (e.run.shows.fits i m.knower.view (at_map (λ (l : Logged). l.view) s.views i m.knower m.knew)).1)).begin in
    let pre = e.lists i m.knower m.knew in
    let log : part i m.knower.list ++ part i pre.0 ≡ part i m.knower.list ++ own.lacks =
    sym (part_append i m.knower.list pre.0) ∙ (ap (part i) pre.1 ∙ (sym (e.logs i m.knower m.knew (subst IsStanding (sym is) tt)) ∙ own.are)) in
    let lacks : part i pre.0 ≡ own.lacks = append_cancel_left (part i m.knower.list) (part i pre.0) own.lacks log in
    let both : inside_by start (part i e.acts) ≡ inside_by start (part i m.knower.list) =
    ap (inside_by start) (ap (part i) (sym pre.1) ∙ (part_append i m.knower.list pre.0 ∙ ap (λ (l : List LogItem). part i m.knower.list ++ l) lacks))
    ∙ (inside_both start (part i m.knower.list) own.lacks ∙ inside_still (inside_by start (part i m.knower.list)) own.lacks own.none) in
    sym both ∙ (sym (inside_at z s e i m.knower x m.knew is e.acts [] (sym (append-nil e.acts)) e.run.events g (run_as_logged z s e)) ∙ (ap is_open (sym begin) ∙ ap is_open within))

left_since : {z : Settings} {s t : Table ℕ Logged} {i j : ℕ} (m : TwoMoments z s t i j) (r : RunsAsLogged z t) (k : Known m r) (most : ℕ) → HasEndedSince z k.first k.rest most → HasLeftSince m
left_since {z} {s} {t} {i} {j} m r k most ended x y b more is is_now same within goes =
    let n = (after (opening z) r.run.events).seated in
    let g = after (opening z) k.first in
    let own = m.earlier.sections i m.knower m.knew (subst IsStanding (sym is) tt) in
    let owners : AreByOwn r.run.seat n (m.knower.list ++ k.more) = subst (AreByOwn r.run.seat n) k.acts r.owners in
    let inside : is_open (begin_at g x.id) ≡ true =
    subst (λ (c : ℕ). is_open (begin_at g c) ≡ inside_by (is_open (begin_at (opening z) c)) (part i m.knower.list)) same
    (inside_at z t r i m.knows y m.now is_now m.knower.list k.more k.acts k.first g k.before) ∙ was_inside m x b is within own in
    let now = some_of (begin_at g x.id) inside in
    let e = running_headline z s m.earlier in
    let old = after (opening z) e.run.events in
    let view = e.run.shows.fits i m.knower.view (at_map (λ (l : Logged). l.view) s.views i m.knower m.knew) in
    let lt : x.id < z.cpus = subst (λ (a : Settings). x.id < a.cpus) e.run.settings (seen_of old x e.run.good (subst (Shown old) is view.1)).lt in
    let sits : i ≡ r.run.seat x.id =
    subst (Sits r.run.seat i) is_now (r.run.shows.fits i m.knows.view (at_map (λ (l : Logged). l.view) t.views i m.knows m.now)).0 ∙ ap r.run.seat same in
    let has : HasLeft x.id (part i k.more) =
    left_by_seat r.run.seat n i x.id g k.more k.rest (after (opening z) r.run.events) k.since (own_last r.run.seat n m.knower.list k.more owners) sits (ended.exits x.id now.0 lt now.1) in
    let log : part i m.knower.list ++ part i k.more ≡ part i m.knower.list ++ (own.lacks ++ more) =
    sym (part_append i m.knower.list k.more) ∙ (ap (part i) (sym k.acts) ∙ (sym (r.logs i m.knows m.now (subst IsStanding (sym is_now) tt)) ∙ (goes ∙ (ap (λ (l : List LogItem). l ++ more) own.are
    ∙ append_assoc (part i m.knower.list) own.lacks more)))) in
    left_past x.id own.lacks more own.none (subst (HasLeft x.id) (append_cancel_left (part i m.knower.list) (part i k.more) (own.lacks ++ more) log) has)

pub ends_open_sections : EndsOpenSections
ends_open_sections z s t i j k m r l h before since told at are heard waited =
    let q = known_at m r in
    let taken : take (length q.first) r.acts ≡ m.knower.list =
    ap (λ (n : ℕ). take n r.acts) q.size ∙ (ap (take (length m.knower.list)) q.acts ∙ take_at m.knower.list q.more (length m.knower.list) refl) in
    let here : length (part (r.run.seat h.cpu) (take (length q.first) r.acts)) ≡ length (part j m.knower.list) =
    ap (λ (n : ℕ). length (part n (take (length q.first) r.acts))) (teller_seat m r h told) ∙ ap (λ (a : List (ℕ × LogItem)). length (part j a)) taken in
    let ended = told_ended z t k l before since r at are waited h q.first q.rest heard q.are (omega (arith, here, few_known m, told.since)) in
    record { left = left_since m r q (changes_in before) ended; first = q.first; rest = q.rest; are = q.are; size = q.size; ended = ended }
