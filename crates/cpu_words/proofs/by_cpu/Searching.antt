-- The loads of a search on the words.
use Rattle.std.proofs.Common.{◌++◌, ◌≡◌, ◌≢◌, ℕ, zero, suc, ◌≤◌, ◌<◌, ⊎_elim, List, [], length, take, drop, get_or, set, Option, Some, None, refl, sym, ap, ◌∙◌, subst, arith, get_or-set_same, get_or-set_other, set-set}
use Rattle.std.proofs.lemmas.List.{set-get_or, length-take-le, take-append-drop}
use Rattle.std.proofs.lemmas.Bool.{cases_lt}
use Rattle.std.proofs.lemmas.Option.{none-some, same_Some}
use Rattle.std.specs.Prelude.{slice_index}
use mathlib.Core.Option.{some}
use mathlib.Core.List.{IsPrefix}
use lib.ListN.{get_elem?}
use Rattle.atomic_table.specs.Table.{State as Table, keeps, stepped}
use Rattle.cpu_words.specs.Types.{Name, Kind, Entry, Change, Settings, Seek, LoadLink, LoadRecord, Compared, Reply, Done, Word, Key, SearchPlace, AtHead, AtNext, AtNumber, AtKind, AtHigh, AtLow, AtValue, RecordWords, Search, Loaded, On, Over, Live, Retired}
use Rattle.protocol.specs.declared.event.RecordOf.TheVariants.{Search as OfSearch}
use Rattle.protocol.specs.Common.{IsAttached, EndsAt, IsLiveAt, IsLawful, State, begin_at, seen_at, search_at, found_at, row_at, step, some_outcome, with_some, compared_slot, load_link, link_loaded, load_searched, outcome_of, word, words_of, loaded_at, loaded_of_name, entry_with, row_of_place, SlotWithin, StandsOn, Leads, To_end, To_entry, Holds, PlaceHolds, ended_by}
use Rattle.protocol.specs.History.{change_at, rank_at}
use Rattle.registry_values.specs.Common.{are_words_of, slot_at}
use Rattle.registry_values.proofs.Fit.{ranges}
use Rattle.protocol.proofs.counts.Bounds.{search_within}
use Rattle.protocol.proofs.History.{Stood, ended_within, at_prefix, rank_low, stood}
use Rattle.protocol.proofs.keeps.SearchKeeps.{IsAnswer, AnswersLookup, record_answers}
use Rattle.protocol.proofs.Cells.{one_in}
use Rattle.protocol.proofs.keeps.Searching.{Walks, stands_in, words_stand, search_walks, LinkTells, link_tells, head_ahead, at_next_ahead}
use Rattle.cpu_words.specs.Common.{CpuView, View, Cpu, Spot, section_of, passive_of, count_of, head_word, next_of, record_of, word_at, index, cpu_view, cpu_of, depth_of, CpuShown, Agrees, Good, Ruled, GoesOn, did, Makes, CpuMay, link_answer, MayStandOn, SkipsNone, IsAtWord, every_word, loaded_of, loaded_answer}
use Rattle.cpu_words.specs.Sections
use Rattle.cpu_words.proofs.shown.Showing.{goes_both, at_same}
use Rattle.cpu_words.proofs.shown.Placing.{agrees_same}
use Rattle.cpu_words.proofs.shown.Seeing.{attached_take, attached_prefix, taken_is_prefix, prefix_longer, take_whole, seen_of, idle_of}
use Rattle.cpu_words.proofs.by_cpu.CpuSteps.{keeps_view, with_lists, same_counts, shown_on, found_on, cpu_makes, CpuDoes}

-- a load leaves the words
pub loaded_words : (z : Settings) (words : List ℕ) (g : State) (l : State) (i m : ℕ) → slice_index words i ≡ m → Agrees z words g → l.section ≡ g.section → l.passive ≡ g.passive → l.counts ≡ g.counts
    → Agrees z (set words i m) (with_lists g l)
loaded_words z words g l i m found agrees section passive counts =
    subst (λ (ws : List ℕ). Agrees z ws (with_lists g l)) (sym (set-get_or words i 0) ∙ ap (set words i) found) (agrees_same z words g (with_lists g l) agrees refl (λ q there. same q))
  where
    same : (q : Spot) → word_at (with_lists g l) q ≡ word_at g q
    same (section_of d) = ap (λ (s : List ℕ). get_or s d 0) section
    same (passive_of d t) = ap (λ (p : List (List ℕ)). word_at (record g { passive = p }) (passive_of d t)) passive
    same (count_of d t) = ap (λ (p : List (List ℕ)). word_at (record g { counts = p }) (count_of d t)) counts
    same q = refl

-- Where a search is, by the pass and by the history

pub ends_prefix : (p h : List Change) (n k : ℕ) → IsPrefix p h → EndsAt p n k → EndsAt h n k
ends_prefix p h n k pre ends = ap (λ l. ended_by (change_at l k)) (sym pre.1) ∙ ap ended_by (at_prefix p pre.0 k (ended_within p n k ends).1) ∙ ends

ends_take : (h : List Change) (to n k : ℕ) → to ≤ length h → EndsAt h n k → k ≤ to → EndsAt (take to h) n k
ends_take h to n k within ends le =
    let size : length (take to h) ≡ to = length-take-le to h within in
    ap ended_by (sym (at_prefix (take to h) (drop to h) k (omega arith))) ∙ ap (λ l. ended_by (change_at l k)) (take-append-drop to h) ∙ ends

stands_by_pass : (h : List Change) (to t : ℕ) (q : Search) (e : Entry) → to ≤ length h → StandsOn h q.start to t e → MayStandOn (take to h) q t e
stands_by_pass h to t q e within stands =
    let size : length (take to h) ≡ to = length-take-le to h within in record {
      attached = attached_take h to e within stands.attached stands.begun;
      at = stands.at;
      begun = omega (arith, stands.begun);
      unended = λ p ends. stands.unended p (ends_prefix (take to h) h e.number p (taken_is_prefix to h) ends);
    }

stands_by_history : (h : List Change) (to t : ℕ) (q : Search) (e : Entry) → to ≤ length h → q.start ≤ to → MayStandOn (take to h) q t e → StandsOn h q.start to t e
stands_by_history h to t q e within from stands =
    let size : length (take to h) ≡ to = length-take-le to h within in record {
      attached = attached_prefix (take to h) h e (taken_is_prefix to h) stands.attached;
      at = stands.at;
      begun = omega (arith, stands.begun);
      unended = λ p ends. ⊎_elim
          (λ (lt : p < suc to). stands.unended p (ends_take h to e.number p within ends (omega arith)))
          (λ (ge : suc to ≤ p). omega arith)
          (cases_lt p (suc to));
    }

-- a search is at one entry of a slot
one_stands : (g : State) (c from to after t : ℕ) (e f : Entry) → Holds g → Walks g c from → StandsOn g.history from to t e → StandsOn g.history from after t f → f.number ≡ e.number
one_stands g c from to after t e f on walk here there =
    ap (λ (d : Entry). d.number) (one_in e f (slot_at g.slots t) (stands_in g c from to t e on walk here) (stands_in g c from after t f on walk there))

descends : (g : State) (c n m s : ℕ) (q : Search) (p r : List Change) → Holds g → Walks g c q.start → r ≡ g.history → LinkTells g q.start q.key n m
    → ((e : Entry) → MayStandOn p q s e → n ≤ rank_at r e.number) → Sections.Descends p q s m r
descends g c n zero s q p r on walk whole tells above = tt
descends g c n (suc t) s q p r on walk whole tells above = λ e f old new.
    let one : f.number ≡ tells.0.number = one_stands g c q.start (length g.history) (length g.history) t tells.0 f on walk tells.1 (subst (λ h. MayStandOn h q t f) whole new) in
    let rank : rank_at r f.number ≡ rank_at g.history tells.0.number = ap (rank_at r) one ∙ ap (λ (h : List Change). rank_at h tells.0.number) whole in
    omega (arith, rank, tells.3, above e old)

-- What a link leads past

-- the link x led, at some point from `from` on, to the greatest rank below n that was live then
pub record LeadsSince (h : List Change) (from n x : ℕ) : Type 0 where
  pub point : ℕ
  pub from_on : from ≤ point
  pub up_to : point ≤ length h
  pub leads : Leads h point n x

-- so does the link of the entry on which a walk stands, a live one or a retired one
next_leads : (g : State) (c from to t : ℕ) (e : Entry) → Holds g → Walks g c from → StandsOn g.history from to t e → LeadsSince g.history from (rank_at g.history e.number) (get_or g.next t 0)
next_leads g c from to t e on walk stands = ⊎_elim
    (λ (live : slot_at g.slots t ≡ Live e). record { point = length g.history; from_on = walk.by_now; up_to = omega arith; leads = on.list.links t e live })
    (λ (gone : slot_at g.slots t ≡ Retired e).
    let end : (p : ℕ) × EndsAt g.history e.number p = (on.slots.retired t e gone).2 in
    let past : from < end.0 = stands.unended end.0 end.1 in record {
      point = end.0;
      from_on = omega (arith, past);
      up_to = (ended_within g.history e.number end.0 end.1).1;
      leads = on.frozen_links t end.0 c walk.begin e gone end.1 walk.open_since (omega (arith, past, walk.since));
    })
    (stands_in g c from to t e on walk stands)

skips_none : (g : State) (c from n m : ℕ) → Holds g → Walks g c from → LeadsSince g.history from n m → SkipsNone g.history from n m
skips_none g c from n m on walk since = by_leads m since.leads
  where
    -- what stood in the place at the point where the link leads
    stood_then : (f : Entry) (kept : Sections.KeepsPlace g.history from f) → Stood g.history since.point kept.now
    stood_then f kept =
        stood g.history on.legal (length g.history) since.point kept.now kept.stays (omega (arith, kept.rank, rank_low g.history on.legal f.number, kept.live.begun, since.from_on)) since.up_to

    by_leads : (m : ℕ) → Leads g.history since.point n m → SkipsNone g.history from n m
    by_leads _ (To_end none) = λ f kept lt. let s = stood_then f kept in none s.entry s.live (omega (arith, s.rank, kept.rank, lt))
    by_leads _ (To_entry i live lt most) = λ e f stands kept below.
        let s = stood_then f kept in
        let there : StandsOn g.history from (length g.history) i.slot i =
        record { attached = live.attached; at = refl; begun = omega (arith, live.begun, since.up_to); unended = λ p ends. omega (arith, live.unended p ends, since.from_on) } in
        omega (
          arith,
          ap (rank_at g.history) (one_stands g c from (length g.history) (length g.history) i.slot i e on walk there stands),
          most s.entry s.live (omega (arith, s.rank, kept.rank, below)),
          s.rank,
          kept.rank,
        )

pass_tells : (g : State) (c from : ℕ) → Holds g → Walks g c from → Sections.PassTells (begin_at g c) from g.history
pass_tells g c from on walk = record {
  legal = on.legal;
  since = λ b is. omega (arith, same_Some b walk.begin (sym is ∙ walk.open_since), walk.since);
  one = λ t e f here there. one_in f e (slot_at g.slots t) (stands_in g c from (length g.history) t f on walk there) (stands_in g c from (length g.history) t e on walk here);
  named = λ t e stands. (on.rows t e (stands_in g c from (length g.history) t e on walk stands)).1;
}

-- What a link makes of a search and of the last found entry

abbrev pub next_search : Search → ℕ → Option Search
next_search q zero = None
next_search q (suc t) = Some (Sections.search_with_place q (AtNumber t))

abbrev pub next_found : Option Entry → ℕ → Option Entry
next_found e zero = None
next_found e (suc t) = e

abbrev pub found_lists : List (Option Entry) → ℕ → ℕ → List (Option Entry)
found_lists found c zero = set found c None
found_lists found c (suc t) = found

found_here : (found : List (Option Entry)) (c m : ℕ) → c < length found → get_or (found_lists found c m) c None ≡ next_found (get_or found c None) m
found_here found c zero lt = get_or-set_same found c None None lt
found_here found c (suc t) lt = refl

found_there : (found : List (Option Entry)) (c d m : ℕ) → d ≢ c → get_or (found_lists found c m) d None ≡ get_or found d None
found_there found c d zero ne = get_or-set_other found c d None None ne
found_there found c d (suc t) ne = refl

found_before : (old : Option Entry) (m : ℕ) (e : Entry) → next_found old m ≡ Some e → old ≡ Some e
found_before old zero e is = absurd (none-some e is)
found_before old (suc t) e is = is

abbrev pub link_lists : State → ℕ → Search → ℕ → State
link_lists g c q m = record g { seen = set g.seen c (length g.history); searches = set g.searches c (next_search q m); found = found_lists g.found c m }

link_made : (g : State) (c : ℕ) (q : Search) (m : ℕ) → link_loaded g c q m ≡ Some (record { state = with_lists g (link_lists g c q m); reply = link_answer m })
link_made g c q zero = refl
link_made g c q (suc t) = refl

followed_is : (x : CpuView) (q : Search) (m : ℕ) (p : List Change) → record x { pass = p; search = next_search q m; found = next_found x.found m } ≡ Sections.cpu_after_link x q m p
followed_is x q zero p = refl
followed_is x q (suc t) p = refl

link_holds : (g : State) (q : Search) (n m : ℕ) (p : List Change) → Good g → p ≡ g.history → LinkTells g q.start q.key n m → Sections.LinkHolds g.settings q m p
link_holds g q n zero p good is tells = subst (λ h. IsLawful h q.start (length h) q.key None) (sym is) tells
link_holds g q n (suc t) p good is tells = (omega (arith, tells.4, good.holds.shape.slots), omega (arith, tells.4, good.holds.shape.slots, ranges g.settings good.holds.fit))

-- the search q of x loads the link m, which is at its place
pub follows : (z : Settings) (s : Table ℕ View) (r : Ruled z s) (i : ℕ) (x : CpuView) (spot m n : ℕ) (q : Search) → get_elem? s.views i ≡ some (Cpu x) → x.search ≡ Some q
    → slice_index s.words spot ≡ m → load_link r.g x.id q q.place ≡ link_loaded r.g x.id q m → LinkTells r.g q.start q.key n m
    → LeadsSince r.g.history q.start n m → (q.place ≡ AtHead → n ≡ suc (length r.g.history)) → ((t : ℕ) (e : Entry) → q.place ≡ AtNext t → MayStandOn x.pass q t e → rank_at r.g.history e.number ≡ n)
    → (y : CpuView) × GoesOn z s r (did (LoadLink x.id) (link_answer m)) (stepped s spot m i [] (Cpu y) keeps) × Makes (LoadLink x.id) (link_answer m) (Cpu x) (Cpu y) × Sections.HasFollowed x q m y
follows z s r i x spot m n q at under found link tells leads at_head above =
    let g = r.g in
    let had : CpuShown g x = (r.shows.fits i (Cpu x) at).1 in
    let seen = seen_of g x r.good had in
    let size = length g.history in
    let l = link_lists g x.id q m in
    let y = cpu_view (with_lists g l) x.id x in
    let sees : get_or l.seen x.id 0 ≡ size = get_or-set_same g.seen x.id size 0 seen.in_seen in
    let passes : y.pass ≡ g.history = ap (λ k. take k g.history) sees ∙ take_whole g.history in
    let searches : y.search ≡ next_search q m = get_or-set_same g.searches x.id (next_search q m) None seen.in_searches in
    let finds : y.found ≡ next_found (found_at g x.id) m = found_here g.found x.id m seen.in_found in
    let made : step g (LoadLink x.id) ≡ Some (record { state = with_lists g l; reply = link_answer m }) =
    ap (λ (o : Option Search). with_some o (λ p. load_link g x.id p p.place)) (sym seen.search ∙ under) ∙ link ∙ link_made g x.id q m in
    let leaves = same_counts g x.id l refl refl refl refl (λ d ne. refl) (λ d ne. refl) (λ d ne. refl)
    (λ d ne. get_or-set_other g.seen x.id d _ 0 ne) (λ d ne. get_or-set_other g.searches x.id d _ None ne) (λ d ne. found_there g.found x.id d m ne) in
    let more : seen_at g x.id ≤ get_or l.seen x.id 0 = omega (arith, seen.within, sees) in
    let within : get_or l.seen x.id 0 ≤ size = omega (arith, sees) in
    let shown = shown_on g x l had refl refl refl (had.depth ∙ ap depth_of seen.begin) more within
    (λ e is. found_on g x (get_or l.seen x.id 0) had more within e (found_before (found_at g x.id) m e (sym finds ∙ is))) in
    let done = cpu_makes z s r i x spot m l (LoadLink x.id) (link_answer m) x at made leaves (λ k. refl) refl shown (loaded_words z _ _ l _ _ found r.words refl refl refl) in
    let change : y ≡ Sections.cpu_after_link x q m y.pass =
    (λ k. record y { search = searches k; found = finds k }) ∙ ap (λ (v : CpuView). record v { pass = y.pass; search = next_search q m; found = next_found v.found m }) (sym had.is)
    ∙ followed_is x q m y.pass in
    let longer : IsPrefix x.pass y.pass = subst (λ p. IsPrefix p y.pass) (sym seen.pass) (prefix_longer g.history (seen_at g x.id) (get_or l.seen x.id 0) more within) in
    let walk : Walks g x.id q.start = search_walks g x.id q r.good.holds (sym seen.search ∙ under) in
    let skips : SkipsNone y.pass q.start n m = subst (λ (p : List Change). SkipsNone p q.start n m) (sym passes) (skips_none g x.id q.start n m r.good.holds walk leads) in
    let told : Sections.PassTells x.begin q.start y.pass = subst (λ (p : List Change). Sections.PassTells x.begin q.start p) (sym passes)
    (subst (λ (b : Option ℕ). Sections.PassTells b q.start g.history) (sym seen.begin) (pass_tells g x.id q.start r.good.holds walk)) in
    let size : length y.pass ≡ length g.history = ap (λ (p : List Change). length p) passes in (
      y,
      done.0,
      done.1,
      record {
        pass = longer;
        is = change;
        holds = subst (λ (a : Settings). Sections.LinkHolds a q m y.pass) (sym seen.settings) (link_holds g q n m y.pass r.good passes tells);
        descends = λ t place. descends g x.id n m t q x.pass y.pass r.good.holds walk passes tells (λ e stands. omega (arith, above t e place stands, ap (λ (h : List Change). rank_at h e.number) passes));
        tells = told;
        first = λ place. subst (λ k. SkipsNone y.pass q.start k m) (at_head place ∙ ap suc (sym size)) skips;
        next = λ t e place stands. subst (λ k. SkipsNone y.pass q.start k m) (sym (above t e place stands) ∙ ap (λ (h : List Change). rank_at h e.number) (sym passes)) skips;
      },
    )

same_next : (s t : ℕ) → AtNext s ≡ AtNext t → s ≡ t
same_next s t e = cc

pub load_link_may : (z : Settings) (x : CpuView) (c t : ℕ) → x.id ≡ c → Sections.MayLoadLink x t → CpuDoes z x (next_of t) (λ n. n) (LoadLink c) link_answer Sections.HasLoadedLink
load_link_may z x c t id may = rw (← id)
    (λ s r i at fits.
    let g = r.g in
    let q = may.search in
    let had : CpuShown g x = (r.shows.fits i (Cpu x) at).1 in
    let seen = seen_of g x r.good had in
    let on = r.good.holds in
    let searching : search_at g x.id ≡ Some q = sym seen.search ∙ may.under_way in
    let walk : Walks g x.id q.start = search_walks g x.id q on searching in
    let stands = subst (PlaceHolds g.history q.start (seen_at g x.id) q.key) may.place (on.searches x.id q searching).stands in
    let rank : ℕ = rank_at g.history stands.0.number in
    let ahead = at_next_ahead g x.id q.start (seen_at g x.id) t q.key on walk (on.searches x.id q searching).started seen.within stands in
    let found : slice_index s.words (index z (next_of t)) ≡ get_or g.next t 0 = r.words.at (next_of t) (omega (arith, ahead.0, on.shape.links)) in
    let tells = link_tells g x.id q.start rank (get_or g.next t 0) q.key on walk ahead.1 in
    let link : load_link g x.id q q.place ≡ link_loaded g x.id q (slice_index s.words (index z (next_of t))) = ap (load_link g x.id q) may.place ∙ ap (link_loaded g x.id q) (sym found) in
    let leads = next_leads g x.id q.start (seen_at g x.id) t stands.0 on walk stands.1 in
    let at_head : q.place ≡ AtHead → rank ≡ suc (length g.history) = λ place. absurd (let wrong : AtHead ≡ AtNext t = sym place ∙ may.place in cc) in
    let above : (u : ℕ) (e : Entry) → q.place ≡ AtNext u → MayStandOn x.pass q u e → rank_at g.history e.number ≡ rank = λ u e place on_e.
    let by_pass : MayStandOn (take (seen_at g x.id) g.history) q t e =
    subst (λ (v : ℕ). MayStandOn (take (seen_at g x.id) g.history) q v e) (same_next u t (sym place ∙ may.place)) (subst (λ (p : List Change). MayStandOn p q u e) seen.pass on_e) in
    let by_history = stands_by_history g.history (seen_at g x.id) t q e seen.within (on.searches x.id q searching).started by_pass in
    ap (rank_at g.history) (one_stands g x.id q.start (seen_at g x.id) (seen_at g x.id) t stands.0 e on walk stands.1 by_history) in
    told z s r i x (index z (next_of t)) (slice_index s.words (index z (next_of t))) q may.under_way
    (follows z s r i x (index z (next_of t)) (slice_index s.words (index z (next_of t))) rank q at may.under_way (refl {a = slice_index s.words (index z (next_of t))}) link
    (subst (LinkTells g q.start q.key rank) (sym found) tells) (subst (LeadsSince g.history q.start rank) (sym found) leads) at_head above))
  where
    told : (z : Settings) (s : Table ℕ View) (r : Ruled z s) (i : ℕ) (x : CpuView) (spot m : ℕ) (q : Search) → x.search ≡ Some q
        → (y : CpuView) × GoesOn z s r (did (LoadLink x.id) (link_answer m)) (stepped s spot m i [] (Cpu y) keeps) × Makes (LoadLink x.id) (link_answer m) (Cpu x) (Cpu y) × Sections.HasFollowed x q m y
        → (w : View) × GoesOn z s r (did (LoadLink x.id) (link_answer m)) (stepped s spot m i [] w keeps)
        × ((w ≡ Cpu (cpu_of w)) × (Makes (LoadLink x.id) (link_answer m) (Cpu x) (Cpu (cpu_of w)) × Sections.HasLoadedLink x m (cpu_of w)))
    told z s r i x spot m q under done = (Cpu done.0, done.1, (refl, (done.2, λ p is. subst (λ (o : Search). Sections.HasFollowed x o m done.0) (same_Some q p (sym under ∙ is)) done.3)))

-- Seek touches no word: it is made with the load of the head

begins_search : (z : Settings) (s : Table ℕ View) (r : Ruled z s) (i : ℕ) (x : CpuView) (spot m : ℕ) (kind : Kind) (name : Name) → get_elem? s.views i ≡ some (Cpu x) → Sections.MaySeek x
    → slice_index s.words spot ≡ m
    → GoesOn z s r (did (Seek x.id kind name) Done) (stepped s spot m i [] (Cpu (Sections.cpu_after_seek (Sections.key_with kind name) x)) keeps)
    × Makes (Seek x.id kind name) Done (Cpu x) (Cpu (Sections.cpu_after_seek (Sections.key_with kind name) x))
begins_search z s r i x spot m kind name at may found =
    let g = r.g in
    let key = Sections.key_with kind name in
    let had : CpuShown g x = (r.shows.fits i (Cpu x) at).1 in
    let seen = seen_of g x r.good had in
    let q : Search = record { key = key; start = seen_at g x.id; place = AtHead } in
    let l : State = record g { searches = set g.searches x.id (Some q) } in
    let y = cpu_view (with_lists g l) x.id x in
    let made : step g (Seek x.id kind name) ≡ Some (record { state = with_lists g l; reply = Done }) = rw (idle_of g x seen had may.idle, sym seen.begin ∙ may.inside.1) refl in
    let leaves = same_counts g x.id l refl refl refl refl (λ d ne. refl) (λ d ne. refl) (λ d ne. refl) (λ d ne. refl) (λ d ne. get_or-set_other g.searches x.id d _ None ne) (λ d ne. refl) in
    let shown = shown_on g x l had refl refl refl (had.depth ∙ ap depth_of seen.begin) (omega arith) seen.within (found_on g x (seen_at g x.id) had (omega arith) seen.within) in
    let done = cpu_makes z s r i x spot m l (Seek x.id kind name) Done x at made leaves (λ k. refl) refl shown (loaded_words z _ _ l _ _ found r.words refl refl refl) in
    let size : length x.pass ≡ seen_at g x.id = ap (λ (p : List Change). length p) seen.pass ∙ length-take-le (seen_at g x.id) g.history seen.within in
    let start : q ≡ Sections.search_for key x = λ k. record { key = key; start = sym size k; place = AtHead } in
    let search : y.search ≡ Some (Sections.search_for key x) = get_or-set_same g.searches x.id (Some q) None seen.in_searches ∙ ap (λ (o : Search). Some o) start in
    let change : y ≡ Sections.cpu_after_seek key x = (λ k. record y { search = search k }) ∙ ap (λ (v : CpuView). record v { search = Some (Sections.search_for key x) }) (sym had.is) in
    subst (λ (v : CpuView). GoesOn z s r (did (Seek x.id kind name) Done) (stepped s spot m i [] (Cpu v) keeps) × Makes (Seek x.id kind name) Done (Cpu x) (Cpu v)) change done

seek_at : (z : Settings) (x : CpuView) (kind : Kind) (name : Name) → Sections.MaySeek x → CpuMay z x (index z head_word) (λ n. n) (Sections.sought (Seek x.id kind name)) (Sections.HasSought (Seek x.id kind name))
seek_at z x kind name may s r i at fits =
    let key = Sections.key_with kind name in
    let m = slice_index s.words (index z head_word) in
    let begun = begins_search z s r i x (index z head_word) m kind name at may refl in
    let v = Sections.cpu_after_seek key x in
    let t : Table ℕ View = stepped s (index z head_word) m i [] (Cpu v) keeps in
    let found : slice_index t.words (index z head_word) ≡ m = ap (λ (ws : List ℕ). slice_index ws (index z head_word)) (set-get_or s.words (index z head_word) 0) in
    let after = seek_link z t begun.0.ruled i v m (Sections.search_for key x) (at_same s.views i (Cpu x) (Cpu v) at) refl refl found in
    let same : stepped t (index z head_word) m i [] (Cpu after.0) keeps ≡ stepped s (index z head_word) m i [] (Cpu after.0) keeps =
    λ k. record { words = set-set s.words (index z head_word) m m k; homes = s.homes; views = set-set s.views i (Cpu v) (Cpu after.0) k } in (
      Cpu after.0,
      subst (GoesOn z s r (did (Seek x.id kind name) Done ++ did (LoadLink x.id) (link_answer m))) same
          (goes_both z s t _ r (did (Seek x.id kind name) Done) (did (LoadLink x.id) (link_answer m)) begun.0 after.1),
      (refl, (begun.1, after.2, after.3)),
    )
  where
    seek_link : (z : Settings) (t : Table ℕ View) (r : Ruled z t) (i : ℕ) (v : CpuView) (m : ℕ) (q : Search) → get_elem? t.views i ≡ some (Cpu v) → v.search ≡ Some q → q.place ≡ AtHead
        → slice_index t.words (index z head_word) ≡ m
        → (y : CpuView) × GoesOn z t r (did (LoadLink v.id) (link_answer m)) (stepped t (index z head_word) m i [] (Cpu y) keeps) × Makes (LoadLink v.id) (link_answer m) (Cpu v) (Cpu y)
        × Sections.HasFollowed v q m y
    seek_link z t r i v m q at under place is =
        let g = r.g in
        let had : CpuShown g v = (r.shows.fits i (Cpu v) at).1 in
        let on = r.good.holds in
        let walk : Walks g v.id q.start = search_walks g v.id q on (sym (seen_of g v r.good had).search ∙ under) in
        let head : g.head ≡ m = sym (r.words.at head_word tt) ∙ is in
        let tells = link_tells g v.id q.start (suc (length g.history)) g.head q.key on walk (head_ahead g q.start q.key on walk.by_now) in
        let link : load_link g v.id q q.place ≡ link_loaded g v.id q m = ap (load_link g v.id q) place ∙ ap (link_loaded g v.id q) head in
        follows z t r i v (index z head_word) m (suc (length g.history)) q at under is link (subst (LinkTells g q.start q.key (suc (length g.history))) head tells)
        (record { point = length g.history; from_on = walk.by_now; up_to = omega arith; leads = subst (Leads g.history (length g.history) (suc (length g.history))) head on.list.first })
        (λ at_head. refl)
        (λ u e next stands. absurd (let wrong : AtHead ≡ AtNext u = sym place ∙ next in cc))

pub seek_may : (z : Settings) (x : CpuView) (c : ℕ) (kind : Kind) (name : Name) → x.id ≡ c → Sections.MaySeek x
    → CpuMay z x (index z head_word) (λ n. n) (Sections.sought (Seek c kind name)) (Sections.HasSought (Seek c kind name))
seek_may z x c kind name id may = rw (← id) (seek_at z x kind name may)

-- Record words

-- an answer found that is lawful up to the end of a pass is lawful in the pass
pub found_in_pass : (h : List Change) (from to : ℕ) (key : Key) (e : Entry) → to ≤ length h → IsLawful h from to key (Some e)
    → IsLawful (take to h) from (length (take to h)) key (Some e) × IsAttached (take to h) e
found_in_pass h from to key e le lawful =
    let live : IsLiveAt h lawful.point e = lawful.answered.0 in
    let there : IsAttached (take to h) e = attached_take h to e le live.attached (omega (arith, live.begun, lawful.up_to)) in (
      record {
        point = lawful.point;
        from_on = lawful.from_on;
        up_to = omega (arith, lawful.up_to, length-take-le to h le);
        answered = (record { attached = there; begun = live.begun; unended = λ p ends. live.unended p (ends_prefix (take to h) h e.number p (taken_is_prefix to h) ends) }, lawful.answered.1);
      },
      there,
    )

-- the place is at a word of a slot in range
at_word_within : (p : SearchPlace) (t k size : ℕ) → IsAtWord p t k → SlotWithin p size → (t < size) × (k < 5)
at_word_within AtHead t k size at within = absurd at
at_word_within (AtNext s) t k size at within = absurd at
at_word_within p t k size at within = (omega (arith, at.0), omega (arith, at.1))

-- the word found at the place
word_there : (rows : List RecordWords) (s t k j n : ℕ) → (s ≡ t) × (k ≡ j) → n ≡ word (row_at rows t) k → word (row_at rows s) j ≡ n
word_there rows s t k j n at is = ap (λ u. word (row_at rows u) j) at.0 ∙ ap (word (row_at rows t)) (sym at.1) ∙ sym is

-- a place is at one word
one_spot : (p : SearchPlace) (u j t k : ℕ) → IsAtWord p u j → IsAtWord p t k → (u ≡ t) × (j ≡ k)
one_spot AtHead u j t k first second = absurd first
one_spot (AtNext s) u j t k first second = absurd first
one_spot p u j t k first second = (sym first.0 ∙ second.0, first.1 ∙ sym second.1)

-- of the record words a search takes only the one at its place
one_word : (q : Search) (p : SearchPlace) (rows : List RecordWords) (t k n : ℕ) → IsAtWord p t k → n ≡ word (row_at rows t) k → loaded_at q p (row_of_place rows p) ≡ loaded_at q p (every_word n)
one_word q AtHead rows t k n at is = absurd at
one_word q (AtNext s) rows t k n at is = absurd at
one_word q (AtNumber s) rows t k n at is = ap (λ v. loaded_at q (AtNumber s) (every_word v)) (word_there rows s t k 0 n at is)
one_word q (AtKind s m) rows t k n at is = ap (λ v. loaded_at q (AtKind s m) (every_word v)) (word_there rows s t k 1 n at is)
one_word q (AtHigh s m w) rows t k n at is = ap (λ v. loaded_at q (AtHigh s m w) (every_word v)) (word_there rows s t k 2 n at is)
one_word q (AtLow s m w h) rows t k n at is = ap (λ v. loaded_at q (AtLow s m w h) (every_word v)) (word_there rows s t k 3 n at is)
one_word q (AtValue s m) rows t k n at is = ap (λ v. loaded_at q (AtValue s m) (every_word v)) (word_there rows s t k 4 n at is)

-- a place at a word makes something of it
makes_some : (q : Search) (p : SearchPlace) (t k n : ℕ) → IsAtWord p t k → (o : Loaded) × (loaded_at q p (every_word n) ≡ Some o)
makes_some q AtHead t k n at = absurd at
makes_some q (AtNext s) t k n at = absurd at
makes_some q (AtNumber s) t k n at = (On (AtKind s n) n, refl)
makes_some q (AtKind s m) t k n at = (On (AtHigh s m n) n, refl)
makes_some q (AtHigh s m w) t k n at = (On (AtLow s m w n) n, refl)
makes_some q (AtLow s m w h) t k n at = (loaded_of_name s m n (are_words_of q.key w h n), refl)
makes_some q (AtValue s m) t k n at = (Over (entry_with q.key s m n), refl)

abbrev pub loaded_search : Search → Loaded → Option Search
loaded_search q (On p w) = Some (Sections.search_with_place q p)
loaded_search q (Over e) = None

abbrev pub loaded_found : Option Entry → Loaded → Option Entry
loaded_found old (On p w) = old
loaded_found old (Over e) = Some e

abbrev pub loaded_founds : List (Option Entry) → ℕ → Loaded → List (Option Entry)
loaded_founds found c (On p w) = found
loaded_founds found c (Over e) = set found c (Some e)

founds_here : (found : List (Option Entry)) (c : ℕ) (o : Loaded) → c < length found → get_or (loaded_founds found c o) c None ≡ loaded_found (get_or found c None) o
founds_here found c (On p w) lt = refl
founds_here found c (Over e) lt = get_or-set_same found c (Some e) None lt

founds_there : (found : List (Option Entry)) (c d : ℕ) (o : Loaded) → d ≢ c → get_or (loaded_founds found c o) d None ≡ get_or found d None
founds_there found c d (On p w) ne = refl
founds_there found c d (Over e) ne = get_or-set_other found c d (Some e) None ne

abbrev pub loaded_lists : State → ℕ → Search → Loaded → State
loaded_lists g c q o = record g { searches = set g.searches c (loaded_search q o); found = loaded_founds g.found c o }

loaded_made : (g : State) (c : ℕ) (q : Search) (o : Loaded) → outcome_of g c q (Some o) ≡ Some (record { state = with_lists g (loaded_lists g c q o); reply = loaded_answer (Some o) })
loaded_made g c q (On p w) = refl
loaded_made g c q (Over e) = refl

searched_is : (x : CpuView) (q : Search) (o : Loaded) → record x { search = loaded_search q o; found = loaded_found x.found o } ≡ Sections.cpu_after_record_word x q (Some o)
searched_is x q (On p w) = refl
searched_is x q (Over e) = refl

found_holds : (h : List Change) (n : ℕ) (q : Search) (o : Loaded) → n ≤ length h → IsAnswer h q.start n q.key (loaded_answer (Some o)) → Sections.FoundHolds q (Some o) (take n h)
found_holds h n q (On p w) le answer = tt
found_holds h n q (Over e) le answer = found_in_pass h q.start n q.key e le answer

found_shown : (p : List Change) (q : Search) (old : Option Entry) (o : Loaded) → ((e : Entry) → old ≡ Some e → IsAttached p e) → Sections.FoundHolds q (Some o) p → (e : Entry) → loaded_found old o ≡ Some e
    → IsAttached p e
found_shown p q old (On place w) before holds e is = before e is
found_shown p q old (Over f) before holds e is = subst (IsAttached p) (same_Some f e is) holds.1

searches_word : (z : Settings) (s : Table ℕ View) (r : Ruled z s) (i : ℕ) (x : CpuView) (spot m : ℕ) (q : Search) (o : Loaded) → get_elem? s.views i ≡ some (Cpu x) → x.search ≡ Some q
    → slice_index s.words spot ≡ m → loaded_of (Some q) m ≡ Some o → loaded_at q q.place (row_of_place r.g.rows q.place) ≡ Some o
    → ((t k : ℕ) → IsAtWord q.place t k → word (row_at r.g.rows t) k ≡ m)
    → (y : CpuView) × GoesOn z s r (did (LoadRecord (OfSearch x.id)) (loaded_answer (Some o))) (stepped s spot m i [] (Cpu y) keeps)
    × Makes (LoadRecord (OfSearch x.id)) (loaded_answer (Some o)) (Cpu x) (Cpu y) × Sections.HasSearched x q m y
searches_word z s r i x spot m q o at under found makes load worded =
    let g = r.g in
    let had : CpuShown g x = (r.shows.fits i (Cpu x) at).1 in
    let seen = seen_of g x r.good had in
    let sees = seen_at g x.id in
    let l = loaded_lists g x.id q o in
    let y = cpu_view (with_lists g l) x.id x in
    let searching : search_at g x.id ≡ Some q = sym seen.search ∙ under in
    let searches : y.search ≡ loaded_search q o = get_or-set_same g.searches x.id (loaded_search q o) None seen.in_searches in
    let finds : y.found ≡ loaded_found (found_at g x.id) o = founds_here g.found x.id o seen.in_found in
    let outcome : load_searched g x.id q q.place ≡ Some (record { state = with_lists g l; reply = loaded_answer (Some o) }) = ap (outcome_of g x.id q) load ∙ loaded_made g x.id q o in
    let made : step g (LoadRecord (OfSearch x.id)) ≡ Some (record { state = with_lists g l; reply = loaded_answer (Some o) }) =
    ap (λ (p : Option Search). with_some p (λ p. load_searched g x.id p p.place)) searching ∙ outcome in
    let answer : IsAnswer g.history q.start sees q.key (loaded_answer (Some o)) = subst (AnswersLookup x.id q) outcome (record_answers g x.id q r.good.holds searching) in
    let holds : Sections.FoundHolds q (Some o) (take sees g.history) = found_holds g.history sees q o seen.within answer in
    let leaves = same_counts g x.id l refl refl refl refl (λ d ne. refl) (λ d ne. refl) (λ d ne. refl) (λ d ne. refl)
    (λ d ne. get_or-set_other g.searches x.id d _ None ne) (λ d ne. founds_there g.found x.id d o ne) in
    let shown = shown_on g x l had refl refl refl (had.depth ∙ ap depth_of seen.begin) (omega arith) seen.within
    (λ e is. found_shown (take sees g.history) q (found_at g x.id) o (found_on g x sees had (omega arith) seen.within) holds e (sym finds ∙ is)) in
    let done = cpu_makes z s r i x spot m l (LoadRecord (OfSearch x.id)) (loaded_answer (Some o)) x at made leaves (λ k. refl) refl shown
    (loaded_words z _ _ l _ _ found r.words refl refl refl) in
    let change : y ≡ Sections.cpu_after_record_word x q (Some o) =
    (λ k. record y { search = searches k; found = finds k }) ∙ ap (λ (v : CpuView). record v { search = loaded_search q o; found = loaded_found v.found o }) (sym had.is) ∙ searched_is x q o in
    let on = r.good.holds in
    let walk : Walks g x.id q.start = search_walks g x.id q on searching in
    let number : (t : ℕ) → q.place ≡ AtNumber t → (e : Entry) × MayStandOn y.pass q t e × (e.number ≡ m) = λ t place.
    let stands = subst (PlaceHolds g.history q.start sees q.key) place (on.searches x.id q searching).stands in
    let row = words_stand g x.id q.start sees t stands.0 on walk stands.1 in (
      stands.0,
      stands_by_pass g.history sees t q stands.0 seen.within stands.1,
      sym (ap (λ (w : RecordWords). w.number) row) ∙ worded t 0 (subst (λ (p : SearchPlace). IsAtWord p t 0) (sym place) (refl, refl)),
    ) in
    let each_word : (t k : ℕ) (e : Entry) → IsAtWord q.place t k → MayStandOn y.pass q t e → word (words_of e) k ≡ m = λ t k e place stands.
    let by_history = stands_by_history g.history sees t q e seen.within (on.searches x.id q searching).started stands in
    ap (λ (w : RecordWords). word w k) (sym (words_stand g x.id q.start sees t e on walk by_history)) ∙ worded t k place in (
      y,
      done.0,
      done.1,
      record { is = change ∙ ap (Sections.cpu_after_record_word x q) (sym makes); holds = subst (λ (u : Option Loaded). Sections.FoundHolds q u y.pass) (sym makes) holds; number = number; words = each_word },
    )

pub load_searched_may : (z : Settings) (x : CpuView) (c t k : ℕ) → x.id ≡ c → Sections.MayLoadSearched x t k
    → CpuMay z x (index z (record_of t k)) (λ n. n) (λ n. did (LoadRecord (OfSearch c)) (loaded_answer (loaded_of x.search n)))
    (λ v n y. Makes (LoadRecord (OfSearch c)) (loaded_answer (loaded_of v.search n)) (Cpu v) (Cpu y) × Sections.HasLoadedWord v n y)
load_searched_may z x c t k id may = rw (← id)
    (λ s r i at fits.
    let g = r.g in
    let q = may.search in
    let place : ℕ = index z (record_of t k) in
    let m = slice_index s.words place in
    let had : CpuShown g x = (r.shows.fits i (Cpu x) at).1 in
    let on = r.good.holds in
    let within = at_word_within q.place t k (length g.slots) may.place (search_within g x.id q on (sym (seen_of g x r.good had).search ∙ may.under_way)) in
    let found : m ≡ word (row_at g.rows t) k = r.words.at (record_of t k) (omega (arith, within.0, on.shape.slots), within.1) in
    let some = makes_some q q.place t k m may.place in
    let worded : (u j : ℕ) → IsAtWord q.place u j → word (row_at g.rows u) j ≡ m = λ u j there.
    let same = one_spot q.place u j t k there may.place in
    ap (λ v. word (row_at g.rows v) j) same.0 ∙ ap (word (row_at g.rows t)) same.1 ∙ sym found in
    let done = searches_word z s r i x place m q some.0 at may.under_way refl some.1 (one_word q q.place g.rows t k m may.place found ∙ some.1) worded in
    let answer : loaded_answer (Some some.0) ≡ loaded_answer (loaded_of x.search m) = ap loaded_answer (sym some.1 ∙ ap (λ (p : Option Search). loaded_of p m) (sym may.under_way)) in (
      Cpu done.0,
      subst (λ (a : Reply). GoesOn z s r (did (LoadRecord (OfSearch x.id)) a) (stepped s place m i [] (Cpu done.0) keeps)) answer done.1,
      (
        refl,
        (
          subst (λ (a : Reply). Makes (LoadRecord (OfSearch x.id)) a (Cpu x) (Cpu done.0)) answer done.2,
          λ p is. subst (λ (u : Search). Sections.HasSearched x u m done.0) (same_Some q p (sym may.under_way ∙ is)) done.3,
        ),
      ),
    ))

-- The value of the entry that a search has compared: nothing changes

pub load_compared_may : (z : Settings) (x : CpuView) (c t : ℕ) → x.id ≡ c → Sections.MayLoadLink x t
    → CpuMay z x (index z (record_of t 4)) (λ n. n) (λ n. did (LoadRecord (Compared c)) (Word n)) (Sections.tells_compared (LoadRecord (Compared c)) (index z (record_of t 4)))
load_compared_may z x c t id may = rw (← id)
    (λ s r i at fits.
    let g = r.g in
    let q = may.search in
    let had : CpuShown g x = (r.shows.fits i (Cpu x) at).1 in
    let seen = seen_of g x r.good had in
    let on = r.good.holds in
    let sees = seen_at g x.id in
    let searching : search_at g x.id ≡ Some q = sym seen.search ∙ may.under_way in
    let walk : Walks g x.id q.start = search_walks g x.id q on searching in
    let lt : t < g.settings.slots = omega (arith, subst (λ (p : SearchPlace). SlotWithin p (length g.slots)) may.place (search_within g x.id q on searching), on.shape.slots) in
    let found = slice_index s.words (index z (record_of t 4)) in
    let stands : found ≡ (row_at g.rows t).value = r.words.at (record_of t 4) (lt, omega arith) in
    let made : step g (LoadRecord (Compared x.id)) ≡ Some (record { state = g; reply = Word found }) =
    ap (λ (o : Option Search). with_some o (λ p. with_some (compared_slot p.place) (λ u. some_outcome g (Word (row_at g.rows u).value)))) searching
    ∙ ap (λ (p : SearchPlace). with_some (compared_slot p) (λ u. some_outcome g (Word (row_at g.rows u).value))) may.place
    ∙ (λ j. Some (record { state = g; reply = Word (sym stands j) })) in
    let done = keeps_view z s r i (Cpu x) (record_of t 4) (LoadRecord (Compared x.id)) (Word found) at (lt, omega arith) made (refl, refl, refl) in (
      Cpu x,
      done.0,
      (
        refl,
        (
          done.1,
          refl,
          λ u place p e under stood.
              let one : p ≡ q = same_Some p q (sym under ∙ may.under_way) in
              let there : MayStandOn x.pass q t e = subst (λ (v : ℕ). MayStandOn x.pass q v e) (omega (arith, place)) (subst (λ (w : Search). MayStandOn x.pass w u e) one stood) in
              let by_history = stands_by_history g.history sees t q e seen.within (on.searches x.id q searching).started (subst (λ (l : List Change). MayStandOn l q t e) seen.pass there) in
              sym (stands ∙ ap (λ (w : RecordWords). w.value) (words_stand g x.id q.start sees t e on walk by_history)),
        ),
      ),
    ))
