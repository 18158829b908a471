-- An entry is recalled, on the words.
use Rattle.std.proofs.Common.{◌≡◌, ◌≢◌, inl, ⊎_elim, ℕ, zero, suc, ◌≤◌, ◌<◌, ◌&&◌, ◌==◌, nat_lt, if◌then◌else◌, List, [], length, take, get_or, set, Option, Some, None, is_none, is_some, Bool, true, refl, sym, ap, ◌∙◌, subst, arith, get_or-set_same, get_or-set_other}
use Rattle.std.proofs.lemmas.Bool.{and_from, lt-ltb, eq-eqb, ne_eqb, cases_eq}
use Rattle.std.proofs.lemmas.Option.{same_Some}
use Rattle.std.specs.Prelude.{slice_index}
use mathlib.Core.Option.{some}
use mathlib.Core.List.{IsPrefix}
use lib.ListN.{get_elem?}
use Rattle.atomic_table.specs.Table.{State as Table, keeps, stepped}
use Rattle.cpu_words.specs.Types.{Entry, Change, Settings, Event, Recall, RecallHead, Refind, Word}
use Rattle.protocol.specs.Common.{IsAttached, IsLiveAt, IsNewestAt, State, guard, some_outcome, after_refind, after_seeing, is_honest, is_inside, live_at, may_recall, may_recall_head, may_refind, refind, found_at, seen_at, search_at, step}
use Rattle.registry_values.specs.Common.{slot_at}
use Rattle.protocol.proofs.History.{one_entry, attached_within}
use Rattle.protocol.proofs.keeps.CountKeeps.{live_tells}
use Rattle.protocol.proofs.runs.Fresh.{head_newest, honest_tells, live_is}
use Rattle.protocol.proofs.Occupied.{in_within}
use Rattle.cpu_words.specs.Common.{CpuView, View, Keeper, Cpu, head_word, live_of, index, cpu_view, cpu_of, depth_of, CpuShown, Good, Ruled, GoesOn, by_number, did, Makes, CpuMay, LivesShow, HasRefound, HasWholePass, IsLiveNumber, IsRefound, MayRecall, MayRefind, RecalledTold, RefindTold, event_by}
use Rattle.cpu_words.proofs.shown.Seeing.{prefix_longer, take_whole, seen_of, known_attached}
use Rattle.cpu_words.proofs.by_cpu.CpuSteps.{with_lists, same_counts, shown_on, good_after, cpu_makes, CpuDoes}
use Rattle.cpu_words.proofs.by_cpu.Searching.{loaded_words}

-- what the keeper's view tells of the live words
pub honest_in : (z : Settings) (s : Table ℕ View) (r : Ruled z s) → LivesShow r.g.slots r.g.lives
honest_in z s r = let k = r.shows.each.keeper in (r.shows.fits 0 (Keeper k.0) k.1).1.honest

-- an honest number is 0, or of the slot's live entry
pub live_number : (g : State) (t n : ℕ) → Good g → is_honest n (slot_at g.slots t) ≡ true → IsLiveNumber g.history t n
live_number g t n good honest = record {
  only = λ e attached number.
      let some_one : 0 < n = let within = attached_within g.history e attached in omega (arith, within.0, number) in
      live_is g t n e good.holds (honest_tells n (slot_at g.slots t) some_one honest) attached number;
  one = λ some.
      let is = live_tells n (slot_at g.slots t) (honest_tells n (slot_at g.slots t) (omega (arith, some)) honest) in
      let shown = good.holds.slots.live t is.0 is.2 in
      (is.0, shown.0, shown.1, is.1);
}

-- A load after which the CPU x has seen all of the history, and has found f last. Nothing else
-- changes.

abbrev seeing_lists : State → ℕ → List (Option Entry) → State
seeing_lists g c found = record g { seen = set g.seen c (length g.history); found = found }

-- what such a load of m leaves and tells
record Sees {z : Settings} {s : Table ℕ View} (r : Ruled z s) (i : ℕ) (x : CpuView) (word m : ℕ) (e : Event) (f : Option Entry) : Type 0 where
  view : CpuView
  goes_on : GoesOn z s r (did e (Word m)) (stepped s word m i [] (Cpu view) keeps)
  makes : Makes e (Word m) (Cpu x) (Cpu view)
  longer : IsPrefix x.pass view.pass
  is : view ≡ record x { pass = view.pass; found = f }
  history : view.pass ≡ r.g.history
  whole : HasWholePass view

sees : (z : Settings) (s : Table ℕ View) (r : Ruled z s) (i : ℕ) (x : CpuView) (word m : ℕ) (e : Event) (found : List (Option Entry)) (f : Option Entry) → get_elem? s.views i ≡ some (Cpu x)
    → slice_index s.words word ≡ m → by_number r.g e ≡ e → step r.g e ≡ Some (record { state = with_lists r.g (seeing_lists r.g x.id found); reply = Word m })
    → ((d : ℕ) → d ≢ x.id → get_or found d None ≡ found_at r.g d) → get_or found x.id None ≡ f → ((a : Entry) → f ≡ Some a → IsAttached r.g.history a) → Sees r i x word m e f
sees z s r i x word m e found f at loaded own made others finds there =
    let g = r.g in
    let had : CpuShown g x = (r.shows.fits i (Cpu x) at).1 in
    let seen = seen_of g x r.good had in
    let n = length g.history in
    let l = seeing_lists g x.id found in
    let y = cpu_view (with_lists g l) x.id x in
    let all : get_or l.seen x.id 0 ≡ n = get_or-set_same g.seen x.id n 0 seen.in_seen in
    let more : seen_at g x.id ≤ get_or l.seen x.id 0 = omega (arith, seen.within, all) in
    let within : get_or l.seen x.id 0 ≤ n = omega (arith, all) in
    let passes : y.pass ≡ g.history = ap (λ k. take k g.history) all ∙ take_whole g.history in
    let leaves = same_counts g x.id l refl refl refl refl (λ d ne. refl) (λ d ne. refl) (λ d ne. refl) (λ d ne. get_or-set_other g.seen x.id d _ 0 ne) (λ d ne. refl) others in
    let shown : CpuShown (with_lists g l) y = shown_on g x l had refl refl refl (had.depth ∙ ap depth_of seen.begin) more within
    (λ a is. subst (λ (p : List Change). IsAttached p a) (sym passes) (there a (sym finds ∙ is))) in
    let done = cpu_makes z s r i x word m l e (Word m) x at made leaves (λ k. refl) refl shown (loaded_words z s.words g l word m loaded r.words refl refl refl) in
    record {
      view = y;
      goes_on = subst (λ (d : Event). GoesOn z s r (did d (Word m)) (stepped s word m i [] (Cpu y) keeps)) own done.0;
      makes = done.1;
      longer = subst (λ p. IsPrefix p y.pass) (sym seen.pass) (prefix_longer g.history (seen_at g x.id) (get_or l.seen x.id 0) more within);
      is = ap (λ (v : CpuView). record v { pass = y.pass; found = y.found }) (sym had.is) ∙ ap (λ (o : Option Entry). record x { pass = y.pass; found = o }) finds;
      history = passes;
      whole = (record { g = with_lists g l; good = good_after g l x.id e (Word m) r.good leaves had.seated made; shown = shown }, passes);
    }

-- what the CPU had found last is in the history
found_there : (g : State) (x : CpuView) → Good g → CpuShown g x → (a : Entry) → x.found ≡ Some a → IsAttached g.history a
found_there g x good had a is = known_attached g x a (seen_of g x good had) (had.found a is)

-- a live word

recall_at : (z : Settings) (x : CpuView) (t : ℕ) → MayRecall x t → CpuDoes z x (live_of t) (λ n. n) (Recall x.id t) Word (RecalledTold (Recall x.id t))
recall_at z x t may s r i at fits =
    let g = r.g in
    let m = slice_index s.words (index z (live_of t)) in
    let had : CpuShown g x = (r.shows.fits i (Cpu x) at).1 in
    let seen = seen_of g x r.good had in
    let lt : t < g.settings.slots = subst (λ (a : Settings). t < a.slots) seen.settings may.slot in
    let found : m ≡ live_at g.lives t = r.words.at (live_of t) lt in
    let honest : is_honest (live_at g.lives t) (slot_at g.slots t) ≡ true = honest_in z s r t in
    let test : may_recall g x.id t ≡ true =
    and_from (nat_lt x.id g.seated) (is_none (search_at g x.id) && (nat_lt t g.settings.slots && is_honest (live_at g.lives t) (slot_at g.slots t))) (lt-ltb x.id g.seated seen.seated)
    (and_from (is_none (search_at g x.id)) (nat_lt t g.settings.slots && is_honest (live_at g.lives t) (slot_at g.slots t)) (ap is_none (sym seen.search ∙ may.search))
    (and_from (nat_lt t g.settings.slots) (is_honest (live_at g.lives t) (slot_at g.slots t)) (lt-ltb t g.settings.slots lt) honest)) in
    let made : step g (Recall x.id t) ≡ Some (record { state = with_lists g (seeing_lists g x.id g.found); reply = Word m }) =
    ap (λ (b : Bool). guard b (some_outcome (after_seeing g x.id) (Word (live_at g.lives t)))) test ∙ (λ k. Some (record { state = with_lists g (seeing_lists g x.id g.found); reply = Word (sym found k) })) in
    let saw = sees z s r i x (index z (live_of t)) m (Recall x.id t) g.found x.found at refl refl made (λ d ne. refl) (sym seen.found) (found_there g x r.good had) in
    let live : IsLiveNumber saw.view.pass t m = subst (λ (p : List Change). IsLiveNumber p t m) (sym saw.history)
    (live_number g t m r.good (ap (λ (k : ℕ). is_honest k (slot_at g.slots t)) found ∙ honest)) in
    (Cpu saw.view, saw.goes_on, (refl, (saw.makes, (record { is = (saw.longer, saw.is); live = live }, saw.whole))))

pub recall_may : (z : Settings) (x : CpuView) (c t : ℕ) → x.id ≡ c → MayRecall x t → CpuDoes z x (live_of t) (λ n. n) (Recall c t) Word (RecalledTold (Recall c t))
recall_may z x c t id may = rw (← id) (recall_at z x t may)

-- The head

-- it is 0, or a slot of the table plus 1
newest_few : (g : State) (w : ℕ) → Good g → IsNewestAt g.history w → w ≤ g.settings.slots
newest_few g zero good is = omega arith
newest_few g (suc t) good is =
    let at = is.newest t refl in
    omega (arith, in_within g.slots at.0.slot at.0 (inl (good.holds.slots.placed at.0 at.1)), at.2, good.holds.shape.slots)

recall_head_at : (z : Settings) (x : CpuView) → x.search ≡ None → CpuDoes z x head_word (λ n. n) (RecallHead x.id) Word (RecalledTold (RecallHead x.id))
recall_head_at z x idle s r i at fits =
    let g = r.g in
    let m = slice_index s.words (index z head_word) in
    let had : CpuShown g x = (r.shows.fits i (Cpu x) at).1 in
    let seen = seen_of g x r.good had in
    let found : m ≡ g.head = r.words.at head_word tt in
    let test : may_recall_head g x.id ≡ true = and_from (nat_lt x.id g.seated) (is_none (search_at g x.id)) (lt-ltb x.id g.seated seen.seated) (ap is_none (sym seen.search ∙ idle)) in
    let made : step g (RecallHead x.id) ≡ Some (record { state = with_lists g (seeing_lists g x.id g.found); reply = Word m }) =
    ap (λ (b : Bool). guard b (some_outcome (after_seeing g x.id) (Word g.head))) test ∙ (λ k. Some (record { state = with_lists g (seeing_lists g x.id g.found); reply = Word (sym found k) })) in
    let saw = sees z s r i x (index z head_word) m (RecallHead x.id) g.found x.found at refl refl made (λ d ne. refl) (sym seen.found) (found_there g x r.good had) in
    let leads : IsNewestAt g.history m = subst (IsNewestAt g.history) (sym found) (head_newest g.history g.head r.good.holds.legal r.good.holds.list.first) in
    let few : m ≤ x.settings.slots = subst (λ (a : Settings). m ≤ a.slots) (sym seen.settings) (newest_few g m r.good leads) in
    (Cpu saw.view, saw.goes_on, (refl, (saw.makes, (record { is = (saw.longer, saw.is); newest = (subst (λ (p : List Change). IsNewestAt p m) (sym saw.history) leads); few = few }, saw.whole))))

pub recall_head_may : (z : Settings) (x : CpuView) (c : ℕ) → x.id ≡ c → x.search ≡ None → CpuDoes z x head_word (λ n. n) (RecallHead c) Word (RecalledTold (RecallHead c))
recall_head_may z x c id idle = rw (← id) (recall_head_at z x idle)

-- Found again

-- what the load must leave and tell, where it found m and made the event
abbrev Ends : (z : Settings) (s : Table ℕ View) → Ruled z s → ℕ → CpuView → ℕ → ℕ → ℕ → Event → Type 0
Ends z s r i x t n m event = (w : View) × GoesOn z s r (did event (Word m)) (stepped s (index z (live_of t)) m i [] w keeps)
    × ((w ≡ Cpu (cpu_of w)) × RefindTold n (Refind x.id t n) (Recall x.id t) x m (cpu_of w))

refinds : (z : Settings) (s : Table ℕ View) (r : Ruled z s) (i : ℕ) (x : CpuView) (e : Entry) → x.search ≡ None → (b : ℕ) × (x.begin ≡ Some b) → IsAttached x.pass e → e.slot < x.settings.slots
    → get_elem? s.views i ≡ some (Cpu x) → slice_index s.words (index z (live_of e.slot)) ≡ e.number
    → Ends z s r i x e.slot e.number (slice_index s.words (index z (live_of e.slot))) (Refind x.id e.slot e.number)
refinds z s r i x e idle inside attached low at same =
    let g = r.g in
    let t = e.slot in
    let m = slice_index s.words (index z (live_of t)) in
    let had : CpuShown g x = (r.shows.fits i (Cpu x) at).1 in
    let seen = seen_of g x r.good had in
    let stands : m ≡ live_at g.lives t = r.words.at (live_of t) (subst (λ (a : Settings). t < a.slots) seen.settings low) in
    let known : IsAttached g.history e = known_attached g x e seen attached in
    let word : live_at g.lives t ≡ e.number = sym stands ∙ same in
    let live : IsLiveAt g.history (length g.history) e = ((live_number g t e.number r.good (ap (λ (k : ℕ). is_honest k (slot_at g.slots t)) (sym word) ∙ honest_in z s r t)).only e known refl).0 in
    let test : may_refind g x.id t e.number e ≡ true =
    and_from (nat_lt x.id g.seated) _ (lt-ltb x.id g.seated seen.seated)
    (and_from (is_none (search_at g x.id)) _ (ap is_none (sym seen.search ∙ idle))
    (and_from (is_inside g x.id) _ (ap is_some (sym seen.begin ∙ inside.1))
    (and_from (e.number == e.number) (live_at g.lives t == e.number) (eq-eqb e.number e.number refl) (eq-eqb (live_at g.lives t) e.number word)))) in
    let found : List (Option Entry) = set g.found x.id (Some e) in
    let made : step g (Refind x.id t e.number) ≡ Some (record { state = with_lists g (seeing_lists g x.id found); reply = Word m }) =
    ap (refind g x.id t e.number) (r.good.holds.slots.placed e live) ∙ (ap (λ (b : Bool). guard b (some_outcome (after_refind g x.id e) (Word (live_at g.lives t)))) test
    ∙ (λ k. Some (record { state = with_lists g (seeing_lists g x.id found); reply = Word (sym stands k) }))) in
    let saw = sees z s r i x (index z (live_of t)) m (Refind x.id t e.number) found (Some e) at refl refl made (λ d ne. get_or-set_other g.found x.id d (Some e) None ne)
    (get_or-set_same g.found x.id (Some e) None seen.in_found) (λ a is. subst (IsAttached g.history) (same_Some e a is) known) in
    let refound : HasRefound x t e.number saw.view = λ f there number.
    subst (λ (a : Entry). IsRefound x t a saw.view) (one_entry x.pass e f attached there (sym number)) (record {
      longer = saw.longer;
      is = saw.is;
      live = subst (λ (p : List Change). IsLiveAt p (length p) e) (sym saw.history) live;
      slot = refl;
    }) in
    (Cpu saw.view, saw.goes_on, (refl, ((λ _. (saw.makes, refound)), (λ off. absurd (off same)), saw.whole)))

refinds_other : (z : Settings) (s : Table ℕ View) (r : Ruled z s) (i : ℕ) (x : CpuView) (t n : ℕ) → x.search ≡ None → t < x.settings.slots → get_elem? s.views i ≡ some (Cpu x)
    → slice_index s.words (index z (live_of t)) < 18446744073709551616 → (slice_index s.words (index z (live_of t)) ≡ n → ⊥)
    → Ends z s r i x t n (slice_index s.words (index z (live_of t))) (Recall x.id t)
refinds_other z s r i x t n idle low at fits off =
    let done = recall_at z x t (record { search = idle; slot = low }) s r i at fits in
    (done.0, done.1, (done.2.0, ((λ same. absurd (off same)), (λ _. (done.2.1.0, done.2.1.1.0)), done.2.1.1.1)))

refind_at : (z : Settings) (x : CpuView) (e : Entry) → x.search ≡ None → (b : ℕ) × (x.begin ≡ Some b) → IsAttached x.pass e → e.slot < x.settings.slots
    → CpuMay z x (index z (live_of e.slot)) (λ m. m) (λ m. did (event_by e.number (Refind x.id e.slot e.number) (Recall x.id e.slot) m) (Word m))
    (RefindTold e.number (Refind x.id e.slot e.number) (Recall x.id e.slot))
refind_at z x e idle inside attached low s r i at fits =
    let t = e.slot in
    let n = e.number in
    let m = slice_index s.words (index z (live_of t)) in ⊎_elim
    (λ (same : m ≡ n). subst (Ends z s r i x t n m) (sym (ap (λ (b : Bool). if b then Refind x.id t n else Recall x.id t) (eq-eqb m n same))) (refinds z s r i x e idle inside attached low at same))
    (λ (off : m ≡ n → ⊥). subst (Ends z s r i x t n m) (sym (ap (λ (b : Bool). if b then Refind x.id t n else Recall x.id t) (ne_eqb m n off))) (refinds_other z s r i x t n idle low at fits off))
    (cases_eq m n)

pub refind_may : (z : Settings) (x : CpuView) (c t n : ℕ) → x.id ≡ c → MayRefind x t n
    → CpuMay z x (index z (live_of t)) (λ m. m) (λ m. did (event_by n (Refind c t n) (Recall c t) m) (Word m)) (RefindTold n (Refind c t n) (Recall c t))
refind_may z x c t n id may = rw (← id, ← may.at.slot, ← may.at.number) (refind_at z x may.entry may.search may.inside may.attached (subst (λ (u : ℕ). u < x.settings.slots) (sym may.at.slot) may.slot))
