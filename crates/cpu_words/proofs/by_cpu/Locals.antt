-- CountAdd and CountDown on the words: a count word of a CPU and its net count change, and the other views stay.
use Rattle.std.proofs.Common.{◌≡◌, ◌≢◌, ⊎_elim, ℕ, zero, suc, ◌+◌, ◌*◌, ◌<◌, ◌≤◌, List, [], ◌∷◌, ◌++◌, length, replicate, get_or, set, sum_by, false, cond, refl, sym, ap, ◌∙◌, subst, arith, length-append, get_or-set_same, get_or-set_other, if◌then◌else◌, ◌-◌, ◌%◌, ◌^◌, ◌==◌, Some, true}
use Rattle.std.specs.List.{zip}
use Rattle.std.proofs.lemmas.List.{length-replicate}
use Rattle.std.proofs.lemmas.List.Sums.{sum_by-cons}
use Rattle.std.specs.Prelude.{slice_index}
use Rattle.std.proofs.lemmas.Bool.{lt-ltb, eq-eqb, ne_eqb, cases_eq}
use mathlib.Core.Logic.{dite}
use native.Mathlib.Decide.{ℕ_discrete}
use mathlib.Core.Option.{some}
use lib.ListN.{get_elem?}
use prog.Atomic.{either}
use Rattle.atomic_table.specs.Table.{State as Table, keeps, stepped}
use Rattle.cpu_words.specs.Types.{Settings, MOST_CPUS, Entry, Change, Vacant, Live, Retired, Mark, Hand, Empty, LocalPlace, MOST_COUNT, CountAdd, CountDown, Reply, Word, Collected, Taking, Giving, Back, Free, Lifted}
use Rattle.registry_values.specs.Common.{bias, no_mark, slot_at, slot_of}
use Rattle.registry_values.proofs.Fit.{ranges}
use Rattle.protocol.specs.Common.{IsAttached, State, with_cell, mark_at, count_at, total_at, IsIn, IsCounting, subtraction_due_at, addition_due_at, is_adding_at, found_at, hand_at, step}
use Rattle.protocol.proofs.Cells.{get_or_all, row_here, row_other, cell_here, cell_other, slot_number}
use Rattle.protocol.proofs.History.{one_entry, attached_within}
use Rattle.protocol.proofs.Occupied.{not_vacant, one_in, one_number, attached_in, in_within}
use Rattle.protocol.proofs.counts.Bounds.{giving_within}
use Rattle.protocol.proofs.counts.Counts.{counting_cases, is_counting}
use Rattle.protocol.proofs.keeps.CountKeeps.{held_counting}
use Rattle.protocol.proofs.keeps.References.{giving_holds}
use Rattle.protocol.proofs.counts.Sums.{local_changed}
use Rattle.cpu_words.specs.Common.{InHand, CpuView, count_of, index, number_at, with_number, one_more, cpu_view, SameHand, HandFits, depth_of, collected_net, collected_one, GivesUp, CpuShown, trying_in, Agrees, Good, View, Cpu, IsCollectedFor, cpu_of, Ruled, GoesOn, did, Makes, CpuMay}
use Rattle.cpu_words.specs.declared.view.InHand.TheVariants.{Empty as NoEntry, Taking as TakingEntry, Giving as GivingEntry, Back as BackEntry}
use Rattle.cpu_words.specs.Locals
use Rattle.cpu_words.proofs.shown.Placing.{agrees_set}
use Rattle.cpu_words.proofs.by_cpu.CpuSteps.{with_lists, LeavesOthers, cpu_makes, CpuDoes}
use Rattle.cpu_words.proofs.shown.Seeing.{seen_of, Seen, idle_of, idle_tries, its_slot}
use Rattle.cpu_words.proofs.by_cpu.Hands.{giving_hand, hand_lists, leaves_hands, same_words, shown_hand}
use Rattle.std.proofs.lemmas.Option.{same_Some}

-- A count word of a CPU and its net count change: why the other views stay, and what the CPU's own view shows.

-- Counts by number

past_end : (l : List ℕ) (k m : ℕ) → number_at (l ++ replicate k 0) m ≡ number_at l m
past_end [] k m = get_or_all k 0 m
past_end (x ∷ l) k zero = refl
past_end (x ∷ l) k (suc m) = past_end l k m

pub with_number_same : (l : List ℕ) (i v : ℕ) → number_at (with_number l i v) i ≡ v
with_number_same l i v =
    let size : length (l ++ replicate (suc i) 0) ≡ length l + suc i = length-append l (replicate (suc i) 0) ∙ ap (λ k. length l + k) (length-replicate (suc i) 0) in
    get_or-set_same (l ++ replicate (suc i) 0) i v 0 (omega arith)

pub with_number_other : (l : List ℕ) (i v m : ℕ) → m ≢ i → number_at (with_number l i v) m ≡ number_at l m
with_number_other l i v m ne = get_or-set_other (l ++ replicate (suc i) 0) i m v 0 ne ∙ past_end l (suc i) m

pub one_more_same : (l : List ℕ) (n : ℕ) → number_at (one_more l n) n ≡ suc (number_at l n)
one_more_same l n = with_number_same l n (suc (number_at l n))

pub one_more_other : (l : List ℕ) (n m : ℕ) → m ≢ n → number_at (one_more l n) m ≡ number_at l m
one_more_other l n m ne = with_number_other l n (suc (number_at l n)) m ne

-- The places

-- what a CPU's place of a slot says of the occupant is its net count for it
pub place_is : (g : State) (x : CpuView) (t : ℕ) (e : Entry) (w : ℕ) → CpuShown g x → IsIn e (slot_at g.slots t) → Locals.IsPlaceCount x t e.number w → Locals.IsNetCount x e.number w
place_is g x t e w had here place = dite (ℕ_discrete (number_at x.met t) e.number)
    (λ (same : number_at x.met t ≡ e.number). place.met same)
    (λ (off : number_at x.met t ≢ e.number).
    let none : number_at x.acquired e.number + number_at x.released e.number ≡ 0 = not_above _ (λ some_one. off (had.met t e here some_one)) in
    omega (arith, place.other off))
  where
    not_above : (n : ℕ) → (0 < n → ⊥) → n ≡ 0
    not_above zero none = refl
    not_above (suc n) none = absurd (none (omega arith))

-- Marks and net counts of one slot

-- a sum over marks and net counts, as one net count changes that the sum leaves out
uncollected_sum : (f : Mark × ℕ → ℕ) (ms : List Mark) (ns : List ℕ) (c v : ℕ) → ((n : ℕ) → f (get_or ms c no_mark, v) ≡ f (get_or ms c no_mark, n))
    → sum_by f (zip ms (set ns c v)) ≡ sum_by f (zip ms ns)
uncollected_sum f [] ns c v same = refl
uncollected_sum f (m ∷ ms) [] c v same = refl
uncollected_sum f (m ∷ ms) (n ∷ ns) zero v same = omega (arith, sum_by-cons f (m, v) (zip ms ns), sum_by-cons f (m, n) (zip ms ns), same n)
uncollected_sum f (m ∷ ms) (n ∷ ns) (suc c) v same = omega (arith, sum_by-cons f (m, n) (zip ms (set ns c v)), sum_by-cons f (m, n) (zip ms ns), uncollected_sum f ms ns c v same)

-- another count word and net count of the CPU c at the slot t, another hand of c, and other places of references
abbrev pub count_lists : State → ℕ → ℕ → ℕ → ℕ → Hand → List LocalPlace → State
count_lists g c t w v h locals = record g { hands = set g.hands c h; counts = with_cell g.counts t c w; nets = with_cell g.nets t c v; locals = locals }

gives_up_on : (g : State) (c t v : ℕ) (given_up : List ℕ) (u : ℕ) (e : Entry) → t < length g.nets → ((e : Entry) → slot_at g.slots t ≡ Retired e → (mark_at g.marks t c).collected ≡ false)
    → slot_at g.slots u ≡ Retired e
    → GivesUp g given_up u e.number → GivesUp (record g { nets = with_cell g.nets t c v }) given_up u e.number
gives_up_on g c t v given_up u e lt used gone p = dite (ℕ_discrete u t)
    (λ (same : u ≡ t).
    let ms = get_or g.marks u [] in
    let ns = get_or g.nets u [] in
    let row : get_or (with_cell g.nets t c v) u [] ≡ set ns c v = ap (λ k. get_or (with_cell g.nets t c v) k []) same ∙ row_here g.nets t c v lt ∙ ap (λ k. set (get_or g.nets k []) c v) (sym same) in
    let mark : (get_or ms c no_mark).collected ≡ false = ap (λ k. (mark_at g.marks k c).collected) same ∙ used e (ap (slot_at g.slots) (sym same) ∙ gone) in
    let a = uncollected_sum collected_net ms ns c v (λ n. ap (λ b. cond b v 0) mark ∙ sym (ap (λ b. cond b n 0) mark)) in
    let b = uncollected_sum collected_one ms ns c v (λ n. refl) in
    subst (λ r. total_at g.totals u + addition_due_at u g.due + number_at given_up e.number + bias * sum_by collected_one (zip ms r)
    ≡ bias * (1 + is_adding_at u g.due) + sum_by collected_net (zip ms r) + subtraction_due_at u g.due) (sym row)
    (ap (λ k. total_at g.totals u + addition_due_at u g.due + number_at given_up e.number + bias * k) b ∙ p ∙ ap (λ k. bias * (1 + is_adding_at u g.due) + k + subtraction_due_at u g.due) (sym a)))
    (λ (other : u ≢ t). subst (λ r. total_at g.totals u + addition_due_at u g.due + number_at given_up e.number + bias * sum_by collected_one (zip (get_or g.marks u []) r)
    ≡ bias * (1 + is_adding_at u g.due) + sum_by collected_net (zip (get_or g.marks u []) r) + subtraction_due_at u g.due)
    (sym (row_other g.nets t c v u other)) p)

-- the word of a retired slot that still counts has no collected mark
pub still_open : (g : State) (c t : ℕ) → IsCounting g.slots g.marks c t → (e : Entry) → slot_at g.slots t ≡ Retired e → (mark_at g.marks t c).collected ≡ false
still_open g c t counting e gone = ⊎_elim
    (λ (live : slot_at g.slots t ≡ Live counting.0). absurd (let q : Live counting.0 ≡ Retired e = sym live ∙ gone in cc))
    (λ (on : (slot_at g.slots t ≡ Retired counting.0) × ((mark_at g.marks t c).collected ≡ false)). on.1)
    counting.1

pub leaves_counts : (g : State) (c t w v : ℕ) (h : Hand) (locals : List LocalPlace) (e : Entry) → Good g → IsIn e (slot_at g.slots t) → t < g.settings.slots → IsCounting g.slots g.marks c t
    → LeavesOthers g c (count_lists g c t w v h locals)
leaves_counts g c t w v h locals e good here lt counting =
    let nets : length g.nets ≡ g.settings.slots = good.holds.shape.nets in
    let within : t < length g.nets = omega arith in assumption (
      λ (d : ℕ) (ne : d ≢ c). get_or-set_other g.hands c d h Empty ne,
      λ (d u : ℕ) (ne : d ≢ c). cell_other 0 g.nets t c v u d (λ _ same. ne same),
      λ (d u : ℕ) (vacant : slot_at g.slots u ≡ Vacant). cell_other 0 g.counts t c w u d (λ same _. not_vacant e (slot_at g.slots t) (ap (slot_at g.slots) (sym same) ∙ vacant) here),
      λ (given_up : List ℕ) (u : ℕ) (f : Entry) (gone : slot_at g.slots u ≡ Retired f) (p : GivesUp g given_up u f.number). gives_up_on g c t v given_up u f within (still_open g c t counting) gone p,
    )

-- the words after a step on a count word
pub count_words : (z : Settings) (words : List ℕ) (g : State) (c t w v : ℕ) (h : Hand) (locals : List LocalPlace) → Good g → Agrees z words g → c < g.settings.cpus → t < g.settings.slots
    → Agrees z (set words (index z (count_of c t)) w) (with_lists g (count_lists g c t w v h locals))
count_words z words g c t w v h locals good agrees lt there =
    let size : length g.counts ≡ g.settings.slots = good.holds.shape.counts in
    let in_rows : t < length g.counts = omega arith in
    let most : g.settings.cpus ≤ MOST_CPUS = (ranges g.settings good.holds.fit).cpus in
    let row : length (get_or g.counts t []) ≡ MOST_CPUS = good.holds.shape.count_rows t in_rows in
    agrees_set z words g (with_lists g (count_lists g c t w v h locals)) (count_of c t) w agrees refl (lt, there) (cell_here 0 g.counts t c w in_rows (omega arith))
    (elim [ count_of d u ↦ λ _ ne. cell_other 0 g.counts t c w u d (λ a b. ne (λ k. count_of (b k) (a k))) | _ ↦ λ _ _. refl ])

-- what the CPU holds and counted after the step
pub record Recount (x : CpuView) (e : Entry) (v : ℕ) (acquired released : List ℕ) : Type 0 where
  pub net : v + number_at released e.number ≡ bias + number_at acquired e.number
  pub same_acquired : (m : ℕ) → m ≢ e.number → number_at acquired m ≡ number_at x.acquired m
  pub same_released : (m : ℕ) → m ≢ e.number → number_at released m ≡ number_at x.released m

abbrev pub recounted : State → CpuView → ℕ → ℕ → State → InHand → List ℕ → List ℕ → CpuView
recounted g x t n l k acquired released = cpu_view (with_lists g l) x.id (record x { hand = k; acquired = acquired; released = released; met = with_number x.met t n })

-- after a count for e in the slot t, an occupant that was counted is the one met last in its slot
met_on : (g : State) (x : CpuView) (e : Entry) (t v : ℕ) (acquired released : List ℕ) → Good g → CpuShown g x → IsIn e (slot_at g.slots t) → Recount x e v acquired released
    → (u : ℕ) (f : Entry) → IsIn f (slot_at g.slots u) → 0 < number_at acquired f.number + number_at released f.number → number_at (with_number x.met t e.number) u ≡ f.number
met_on g x e t v acquired released good had here count u f there some_one = dite (ℕ_discrete u t)
    (λ (on : u ≡ t).
    let one : f ≡ e = one_in f e (slot_at g.slots t) here (subst (λ j. IsIn f (slot_at g.slots j)) on there) in
    ap (number_at (with_number x.met t e.number)) on ∙ with_number_same x.met t e.number ∙ ap (λ (j : Entry). j.number) (sym one))
    (λ (off : u ≢ t).
    let ne : f.number ≢ e.number = λ is. off (one_number g.history g.slots t u e f good.holds.slots here there is).0 in
    let a = count.same_acquired f.number ne in
    let b = count.same_released f.number ne in
    with_number_other x.met t e.number u off ∙ had.met u f there (omega arith))

-- after it, what was met in a slot was attached there
there_on : (g : State) (x : CpuView) (e : Entry) (t : ℕ) → Good g → CpuShown g x → IsIn e (slot_at g.slots t)
    → (u : ℕ) → number_at (with_number x.met t e.number) u ≢ 0 → (f : Entry) × IsAttached g.history f × (f.number ≡ number_at (with_number x.met t e.number) u) × (f.slot ≡ u)
there_on g x e t good had here u some_one = dite (ℕ_discrete u t)
    (λ (on : u ≡ t).
    let its = attached_in g.history g.slots t e good.holds.slots here in
    (e, its.0, sym (ap (number_at (with_number x.met t e.number)) on ∙ with_number_same x.met t e.number), its.1 ∙ sym on))
    (λ (off : u ≢ t).
    let same : number_at (with_number x.met t e.number) u ≡ number_at x.met u = with_number_other x.met t e.number u off in
    let f = had.there u (λ none. some_one (same ∙ none)) in
    (f.0, f.1, f.2 ∙ sym same, f.3))

-- the CPU has met an entry in its own slot alone
pub met_alone : (g : State) (x : CpuView) (e : Entry) → CpuShown g x → IsAttached g.history e → Locals.IsMetAlone x e.slot e.number
met_alone g x e had attached u same =
    let begun : 0 < e.number = (attached_within g.history e attached).0 in
    let f = had.there u (λ none. absurd (omega arith)) in
    sym f.3 ∙ ap (λ (o : Entry). o.slot) (one_entry g.history f.0 e f.1 attached (f.2 ∙ same))

pub shown_count : (g : State) (x : CpuView) (e : Entry) (t w v : ℕ) (h : Hand) (locals : List LocalPlace) (k : InHand) (acquired released : List ℕ) → Good g → CpuShown g x → IsIn e (slot_at g.slots t)
    → t < g.settings.slots
    → Recount x e v acquired released → SameHand h k → HandFits g.history g.slots g.marks x.id k → ((u : ℕ) → trying_in u k ≡ trying_in u x.hand)
    → CpuShown (with_lists g (count_lists g x.id t w v h locals)) (recounted g x t e.number (count_lists g x.id t w v h locals) k acquired released)
shown_count g x e t w v h locals k acquired released good had here lt count same fits tries =
    let seen = seen_of g x good had in
    let most : g.settings.cpus ≤ MOST_CPUS = seen.fit.cpus in
    let id : x.id < g.settings.cpus = seen.lt in
    let size : length g.nets ≡ g.settings.slots = good.holds.shape.nets in
    let in_rows : t < length g.nets = omega arith in
    let row : length (get_or g.nets t []) ≡ MOST_CPUS = good.holds.shape.net_rows t in_rows in
    let in_row : x.id < length (get_or g.nets t []) = omega arith in
    let number : e.number ≤ length g.history = (attached_within g.history e (attached_in g.history g.slots t e good.holds.slots here).0).1 in record {
      seated = had.seated;
      is = refl;
      hand = subst (λ j. SameHand j k) (sym (get_or-set_same g.hands x.id h Empty seen.in_hands)) same;
      in_hand = fits;
      depth = had.depth ∙ ap depth_of seen.begin;
      passive = λ u f there. let was = had.passive u f there in let stays = tries u in omega (arith, was, stays);
      gone = had.gone;
      nets = λ u f there. dite (ℕ_discrete u t)
          (λ (on : u ≡ t).
          let one : f ≡ e = one_in f e (slot_at g.slots t) here (subst (λ j. IsIn f (slot_at g.slots j)) on there) in
          ap (λ j. count_at (with_cell g.nets t x.id v) x.id j + number_at released f.number) on ∙ ap (λ (j : ℕ). j + number_at released f.number) (cell_here 0 g.nets t x.id v in_rows in_row)
          ∙ ap (λ (j : Entry). v + number_at released j.number) one ∙ count.net ∙ ap (λ (j : Entry). bias + number_at acquired j.number) (sym one))
          (λ (off : u ≢ t).
          let ne : f.number ≢ e.number = λ is. off (one_number g.history g.slots t u e f good.holds.slots here there is).0 in
          (λ i. (cell_other 0 g.nets t x.id v u x.id (λ is _. off is)) i + count.same_released f.number ne i) ∙ had.nets u f there ∙ ap (λ j. bias + j) (sym (count.same_acquired f.number ne)));
      later = λ n above.
          let ne : n ≢ e.number = λ is. absurd (omega arith) in
          let was = had.later n above in
          (count.same_acquired n ne ∙ was.0, count.same_released n ne ∙ was.1);
      met = met_on g x e t v acquired released good had here count;
      there = there_on g x e t good had here;
      found = λ f is. subst (λ (p : List Change). IsAttached p f) seen.pass (had.found f (seen.found ∙ is));
      references = λ f among. subst (λ (p : List Change). IsAttached p f) seen.pass (had.references f among);
      noted_pass = had.noted_pass;
    }

-- CountAdd and CountDown on the words.

-- the slot of the last found entry, and its word, which counts
found_counts : (g : State) (c : ℕ) (e : Entry) → Good g → found_at g c ≡ Some e → (slot_of g.slots e.number ≡ Some e.slot) × IsIn e (slot_at g.slots e.slot) × IsCounting g.slots g.marks c e.slot
found_counts g c e good found =
    let holds = good.holds in
    let held = holds.last_found c e found in
    let there : IsIn e (slot_at g.slots e.slot) = holds.held c held.0 e held.1 held.2 in
    let slot = slot_number g.history g.slots e e.slot holds.slots there in
    (slot, there, (held_counting g c e.slot e holds found slot).1)

count_add_at : (z : Settings) (x : CpuView) (e : Entry) → Locals.MayCount x e.slot e.number → x.found ≡ Some e → CpuDoes z x (count_of x.id e.slot) (λ m. (m + 1) % 2 ^ 64) (CountAdd x.id) Word Locals.CountTold
count_add_at z x e may is s r i at fits =
    let g = r.g in
    let c = x.id in
    let t = e.slot in
    let n = e.number in
    let had : CpuShown g x = (r.shows.fits i (Cpu x) at).1 in
    let seen = seen_of g x r.good had in
    let found : found_at g c ≡ Some e = sym seen.found ∙ is in
    let counts = found_counts g c e r.good found in
    let there : t < g.settings.slots = omega (arith, in_within g.slots t e counts.1, r.good.holds.shape.slots) in
    let word = slice_index s.words (index z (count_of c t)) in
    let has : word ≡ count_at g.counts c t = r.words.at (count_of c t) (seen.lt, there) in
    let same : count_at g.counts c t ≡ count_at g.nets c t = (r.good.holds.balance.counted c t seen.lt counts.2).0 in
    let net : count_at g.nets c t + number_at x.released n ≡ bias + number_at x.acquired n = had.nets t e counts.1 in
    let limit = ap (λ (a : Settings). a.count_limit) seen.settings in
    let is_net : may.count + number_at x.released n ≡ bias + number_at x.acquired n = place_is g x t e may.count had counts.1 may.place in
    let below : may.count < bias + x.settings.count_limit = may.room in
    let most : g.settings.count_limit ≤ MOST_COUNT = seen.fit.counts in
    let room : count_at g.nets c t < bias + g.settings.count_limit = omega arith in
    let next : (word + 1) % 2 ^ 64 ≡ count_at g.counts c t + 1 = omega arith in
    let l = count_lists g c t (count_at g.counts c t + 1) (count_at g.nets c t + 1) (Taking n) g.locals in
    let acquired = one_more x.acquired n in
    let after : Recount x e (count_at g.nets c t + 1) acquired x.released = record {
      net = let a = one_more_same x.acquired n in omega arith;
      same_acquired = λ m ne. one_more_other x.acquired n m ne;
      same_released = λ m ne. refl;
    } in
    let attached : IsAttached g.history e = (attached_in g.history g.slots t e r.good.holds.slots counts.1).0 in
    let shown = shown_count g x e t (count_at g.counts c t + 1) (count_at g.nets c t + 1) (Taking n) g.locals (TakingEntry e) acquired x.released r.good had counts.1 there after refl attached
    (λ u. sym (idle_tries x u may.idle)) in
    let made : step g (CountAdd c) ≡ Some (record { state = with_lists g l; reply = Word word }) =
    rw (found, counts.0, idle_of g x seen had may.idle, lt-ltb (count_at g.nets c t) (bias + g.settings.count_limit) room, has) refl in
    let words = subst (λ m. Agrees z (set s.words (index z (count_of c t)) m) (with_lists g l)) (sym next)
    (count_words z s.words g c t (count_at g.counts c t + 1) (count_at g.nets c t + 1) (Taking n) g.locals r.good r.words seen.lt there) in
    let done = cpu_makes z s r i x (index z (count_of c t)) ((word + 1) % 2 ^ 64) l (CountAdd c) (Word word)
    (record x { hand = TakingEntry e; acquired = acquired; met = with_number x.met t n }) at made
    (leaves_counts g c t (count_at g.counts c t + 1) (count_at g.nets c t + 1) (Taking n) g.locals e r.good counts.1 there counts.2) (λ k. refl) refl shown words in
    let y = recounted g x t n l (TakingEntry e) acquired x.released in
    let change : y ≡ record x { hand = TakingEntry e; acquired = acquired; met = with_number x.met t n } =
    ap (λ (v : CpuView). record v { hand = TakingEntry e; acquired = acquired; met = with_number x.met t n }) (sym had.is) in
    let told : Locals.CountTold x word y = λ u m other.
    let one : e ≡ other.entry = same_Some e other.entry (sym is ∙ other.found) in
    let slot : t ≡ u = ap (λ (f : Entry). f.slot) one ∙ other.slot in
    let number : n ≡ m = ap (λ (f : Entry). f.number) one ∙ other.number in
    let low : word < bias + x.settings.count_limit = omega arith in
    let word_net : word + number_at x.released n ≡ bias + number_at x.acquired n = omega (arith, has, same, net) in
    subst (λ (p : ℕ × ℕ). Locals.HasCounted x p.0 p.1 y × Locals.IsNetCount x p.1 word × (word < bias + x.settings.count_limit) × Locals.IsMetAlone x p.0 p.1) (λ k. (slot k, number k))
    ((e, is, refl, refl, change), word_net, low, met_alone g x e had attached) in
    (Cpu y, done.0, (refl, (done.1, told)))

-- the place of an entry's slot, where the slot and the number are the entry's
place_at : (x : CpuView) (e : Entry) (t n w : ℕ) → e.slot ≡ t → e.number ≡ n → Locals.IsPlaceCount x t n w → Locals.IsPlaceCount x e.slot e.number w
place_at x e t n w slot number place = subst (λ (p : ℕ × ℕ). Locals.IsPlaceCount x p.0 p.1 w) (λ k. (sym slot k, sym number k)) place

pub count_add_may : (z : Settings) (x : CpuView) (c t n : ℕ) → x.id ≡ c → Locals.MayCount x t n → CpuDoes z x (count_of c t) (λ m. (m + 1) % 2 ^ 64) (CountAdd c) Word Locals.CountTold
count_add_may z x c t n id may = rw (← id, ← may.slot) (count_add_at z x may.entry (record {
  idle = may.idle;
  entry = may.entry;
  found = may.found;
  slot = refl;
  number = refl;
  count = may.count;
  place = place_at x may.entry t n may.count may.slot may.number may.place;
  room = may.room;
}) may.found)

-- what a CPU with a reference to e to be given up sees of its word, where its place says `old`
record Giver (g : State) (x : CpuView) (e : Entry) (old : ℕ) : Type 0 where
  pub had : CpuShown g x
  pub seen : Seen g x
  pub attached : IsAttached g.history e
  pub id : ℕ
  pub hand : hand_at g x.id ≡ Giving e.number id
  pub here : IsIn e (slot_at g.slots e.slot)
  pub there : e.slot < g.settings.slots
  pub slot : slot_of g.slots e.number ≡ Some e.slot
  pub low : Locals.IsNetCount x e.number old
  pub net : count_at g.nets x.id e.slot ≡ old
  pub floor : 0 < old

giver : (g : State) (x : CpuView) (e : Entry) (old : ℕ) → Good g → CpuShown g x → x.hand ≡ GivingEntry e → Locals.IsPlaceCount x e.slot e.number old → Giver g x e old
giver g x e old good had is place =
    let seen = seen_of g x good had in
    let attached : IsAttached g.history e = subst (HandFits g.history g.slots g.marks x.id) is had.in_hand in
    let hand = giving_hand g x e had is in
    let here = its_slot g e good attached (giving_holds g.settings.cpus g.slots g.hands g.due g.locals x.id e.number hand.0 hand.1 good.holds.references).0 in
    let net : count_at g.nets x.id e.slot + number_at x.released e.number ≡ bias + number_at x.acquired e.number = had.nets e.slot e here in
    let low : old + number_at x.released e.number ≡ bias + number_at x.acquired e.number = place_is g x e.slot e old had here place in
    let same : count_at g.nets x.id e.slot ≡ old = omega arith in
    let some_one : 0 < count_at g.nets x.id e.slot = good.holds.balance.used x.id e.slot e seen.lt here in record {
      had = had;
      seen = seen;
      attached = attached;
      id = hand.0;
      hand = hand.1;
      here = here;
      there = omega (arith, in_within g.slots e.slot e here, good.holds.shape.slots);
      slot = slot_number g.history g.slots e e.slot good.holds.slots here;
      low = low;
      net = same;
      floor = omega arith;
    }

-- what the step from `old` must leave and tell, where it found w
abbrev Down : (z : Settings) (s : Table ℕ View) → Ruled z s → ℕ → CpuView → Entry → ℕ → ℕ → ℕ → Type 0
Down z s r i x e old w m = (y : CpuView) × GoesOn z s r (did (CountDown x.id) (Locals.down_reply old w)) (stepped s (index z (count_of x.id e.slot)) m i [] (Cpu y) keeps)
    × (w ≡ old → Makes (CountDown x.id) (Word w) (Cpu x) (Cpu y) × Locals.HasCountedDown x e.slot e.number y)
    × ((w ≡ old → ⊥) → Makes (CountDown x.id) Collected (Cpu x) (Cpu y) × Locals.HasFoundCollected x e.number y)

-- the word is the net count: one reference is released
down_counted : (z : Settings) (s : Table ℕ View) (r : Ruled z s) (i : ℕ) (x : CpuView) (e : Entry) (old : ℕ) → get_elem? s.views i ≡ some (Cpu x) → x.hand ≡ GivingEntry e → Giver r.g x e old
    → slice_index s.words (index z (count_of x.id e.slot)) ≡ old → Down z s r i x e old (slice_index s.words (index z (count_of x.id e.slot))) (old - 1)
down_counted z s r i x e old at is p found =
    let g = r.g in
    let c = x.id in
    let t = e.slot in
    let n = e.number in
    let word = slice_index s.words (index z (count_of c t)) in
    let has : word ≡ count_at g.counts c t = r.words.at (count_of c t) (p.seen.lt, p.there) in
    let same : count_at g.counts c t ≡ count_at g.nets c t = sym has ∙ found ∙ sym p.net in
    let floor : 0 < old = p.floor in
    let lifted = (giving_holds g.settings.cpus g.slots g.hands g.due g.locals c n p.id p.hand r.good.holds.references).1 in
    let within = (giving_within g c n p.id r.good.holds p.hand).1 in
    let locals = set g.locals p.id Free in
    let l = count_lists g c t (count_at g.counts c t - 1) (count_at g.nets c t - 1) Empty locals in
    let released = one_more x.released n in
    let was : count_at g.nets c t + number_at x.released n ≡ bias + number_at x.acquired n = p.had.nets t e p.here in
    let after : Recount x e (count_at g.nets c t - 1) x.acquired released = record {
      net = let a = one_more_same x.released n in omega arith;
      same_acquired = λ m ne. refl;
      same_released = λ m ne. one_more_other x.released n m ne;
    } in
    let shown = shown_count g x e t (count_at g.counts c t - 1) (count_at g.nets c t - 1) Empty locals NoEntry x.acquired released r.good p.had p.here p.there after tt tt
    (λ u. sym (ap (trying_in u) is)) in
    let made : step g (CountDown c) ≡ Some (record { state = with_lists g l; reply = Word word }) = rw (p.hand, p.slot, eq-eqb (count_at g.counts c t) (count_at g.nets c t) same, has) refl in
    let words = subst (λ m. Agrees z (set s.words (index z (count_of c t)) m) (with_lists g l)) (ap (λ k. k - 1) (same ∙ p.net))
    (count_words z s.words g c t (count_at g.counts c t - 1) (count_at g.nets c t - 1) Empty locals r.good r.words p.seen.lt p.there) in
    let done = cpu_makes z s r i x (index z (count_of c t)) (old - 1) l (CountDown c) (Word word) (record x { hand = NoEntry; released = released; met = with_number x.met t n }) at made
    (leaves_counts g c t (count_at g.counts c t - 1) (count_at g.nets c t - 1) Empty locals e r.good p.here p.there (is_counting r.good.holds.balance c t e p.seen.lt p.here same))
    (λ k. let a = local_changed k g.locals p.id (Lifted c) Free within lifted in omega arith) refl shown words in
    let y = recounted g x t n l NoEntry x.acquired released in
    let change : y ≡ record x { hand = NoEntry; released = released; met = with_number x.met t n } =
    ap (λ (v : CpuView). record v { hand = NoEntry; released = released; met = with_number x.met t n }) (sym p.had.is) in
    let replied : Word word ≡ Locals.down_reply old word = sym (ap (λ b. if b then Word word else Collected) (eq-eqb word old found)) in (
      y,
      subst (λ (a : Reply). GoesOn z s r (did (CountDown c) a) (stepped s (index z (count_of c t)) (old - 1) i [] (Cpu y) keeps)) replied done.0,
      (λ _. (done.1, (e, is, refl, refl, change))),
      (λ ne. absurd (ne found)),
    )

-- the word isn't the net count: it was collected, and the reference goes back
down_collected : (z : Settings) (s : Table ℕ View) (r : Ruled z s) (i : ℕ) (x : CpuView) (e : Entry) (old : ℕ) → get_elem? s.views i ≡ some (Cpu x) → x.hand ≡ GivingEntry e → Giver r.g x e old
    → slice_index s.words (index z (count_of x.id e.slot)) ≢ old → Down z s r i x e old (slice_index s.words (index z (count_of x.id e.slot))) (slice_index s.words (index z (count_of x.id e.slot)))
down_collected z s r i x e old at is p off =
    let g = r.g in
    let c = x.id in
    let t = e.slot in
    let n = e.number in
    let word = slice_index s.words (index z (count_of c t)) in
    let has : word ≡ count_at g.counts c t = r.words.at (count_of c t) (p.seen.lt, p.there) in
    let differs : count_at g.counts c t ≢ count_at g.nets c t = λ same. off (has ∙ same ∙ p.net) in
    let gone : IsCollectedFor g.slots g.marks e c = ⊎_elim
    (λ (counting : IsCounting g.slots g.marks c t). absurd (differs (r.good.holds.balance.counted c t p.seen.lt counting).0))
    (λ (gone : (slot_at g.slots t ≡ Retired e) × ((mark_at g.marks t c).collected ≡ true)). gone)
    (counting_cases g.slots g.marks c t e p.here) in
    let l = hand_lists g c (Back n p.id) g.locals in
    let view : Locals.with_hand x (BackEntry e) ≡ cpu_view (with_lists g l) c (record x { hand = BackEntry e }) = ap (λ (v : CpuView). Locals.with_hand v (BackEntry e)) p.had.is in
    let made : step g (CountDown c) ≡ Some (record { state = with_lists g l; reply = Collected }) = rw (p.hand, p.slot, ne_eqb (count_at g.counts c t) (count_at g.nets c t) differs) refl in
    let words = agrees_set z s.words g (with_lists g l) (count_of c t) word r.words refl (p.seen.lt, p.there) (sym has) (λ q there ne. same_words g c (Back n p.id) g.locals q) in
    let done = cpu_makes z s r i x (index z (count_of c t)) word l (CountDown c) Collected (record x { hand = BackEntry e }) at made (leaves_hands g c (Back n p.id) g.locals) (λ k. refl) refl
    (subst (CpuShown (with_lists g l)) view (shown_hand g x (Back n p.id) g.locals (BackEntry e) r.good p.had refl (p.attached, gone) (λ u. sym (ap (trying_in u) is)))) words in
    let replied : Collected ≡ Locals.down_reply old word = sym (ap (λ b. if b then Word word else Collected) (ne_eqb word old off)) in
    let y = cpu_view (with_lists g l) c (record x { hand = BackEntry e }) in (
      y,
      subst (λ (a : Reply). GoesOn z s r (did (CountDown c) a) (stepped s (index z (count_of c t)) word i [] (Cpu y) keeps)) replied done.0,
      (λ same. absurd (off same)),
      (λ _. (done.1, (e, is, refl, sym view))),
    )

count_down_at : (z : Settings) (x : CpuView) (e : Entry) (old new : ℕ) → x.hand ≡ GivingEntry e → Locals.IsPlaceCount x e.slot e.number old → old < 2 ^ 64 → new ≡ (old + (2 ^ 64 - 1)) % 2 ^ 64
    → CpuMay z x (index z (count_of x.id e.slot)) (λ m. either (m == old) new m) (λ m. did (CountDown x.id) (Locals.down_reply old m)) (Locals.DownTold (CountDown x.id) old)
count_down_at z x e old new is place fits is_new s r i at within =
    let p = giver r.g x e old r.good (r.shows.fits i (Cpu x) at).1 is place in
    let floor : 0 < old = p.floor in
    let less : old - 1 ≡ new = omega arith in
    let word = slice_index s.words (index z (count_of x.id e.slot)) in
    ⊎_elim
    (λ (same : word ≡ old). finish word _ (subst (Down z s r i x e old word) (less ∙ sym (ap (λ b. either b new word) (eq-eqb word old same))) (down_counted z s r i x e old at is p same)) p.floor
    p.low (met_alone r.g x e p.had p.attached))
    (λ (off : word ≢ old). finish word _ (subst (Down z s r i x e old word) (sym (ap (λ b. either b new word) (ne_eqb word old off))) (down_collected z s r i x e old at is p off)) p.floor p.low
    (met_alone r.g x e p.had p.attached))
    (cases_eq word old)
  where
    Goal : ℕ → ℕ → Type 0
    Goal w m = (v : View) × GoesOn z s r (did (CountDown x.id) (Locals.down_reply old w)) (stepped s (index z (count_of x.id e.slot)) m i [] v keeps)
        × ((v ≡ Cpu (cpu_of v)) × Locals.DownTold (CountDown x.id) old x w (cpu_of v))

    same_giving_entry : (a b : Entry) → GivingEntry a ≡ GivingEntry b → a ≡ b
    same_giving_entry a b eq = cc

    finish : (w m : ℕ) → Down z s r i x e old w m → 0 < old → Locals.IsNetCount x e.number old → Locals.IsMetAlone x e.slot e.number → Goal w m
    finish w m d floor low alone = (
      Cpu d.0,
      d.1,
      (
        refl,
        λ t n may.
            let one : e ≡ may.entry = same_giving_entry e may.entry (sym is ∙ may.giving) in
            let slot : e.slot ≡ t = ap (λ (f : Entry). f.slot) one ∙ may.slot in
            let number : e.number ≡ n = ap (λ (f : Entry). f.number) one ∙ may.number in (
              floor,
              subst (λ k. Locals.IsNetCount x k old) number low,
              subst (λ (p : ℕ × ℕ). Locals.IsMetAlone x p.0 p.1) (λ k. (slot k, number k)) alone,
              (λ same. let h = d.2 same in (h.0, subst (λ (p : ℕ × ℕ). Locals.HasCountedDown x p.0 p.1 d.0) (λ k. (slot k, number k)) h.1)),
              (λ off. let h = d.3 off in (h.0, subst (λ k. Locals.HasFoundCollected x k d.0) number h.1)),
            ),
      ),
    )

pub count_down_may : (z : Settings) (x : CpuView) (c t n old new : ℕ) → x.id ≡ c → Locals.MayCountDown x t n old → old < 2 ^ 64 → new ≡ (old + (2 ^ 64 - 1)) % 2 ^ 64
    → CpuMay z x (index z (count_of c t)) (λ m. either (m == old) new m) (λ m. did (CountDown c) (Locals.down_reply old m)) (Locals.DownTold (CountDown c) old)
count_down_may z x c t n old new id may fits is_new = rw (← id, ← may.slot) (count_down_at z x may.entry old new may.giving (place_at x may.entry t n old may.slot may.number may.place) fits is_new)
