-- Local references and their audit: the registry that the session shows answers and changes as the core does.
use Rattle.std.proofs.Common.{◌≡◌, ℕ, ◌+◌, ◌-◌, ◌<◌, ◌≤◌, ◌⊎◌, inl, inr, List, [], length, get_or, set, get_or-set_same, get_or-set_other, Option, Some, None, Bool, true, false, not, is_some, nat_lt, refl, sym, ap, subst, ◌∙◌, arith, sum_by, zero, suc, pos, ◌-ℤ◌, neg_ℤ, ◌∷◌, ◌++◌, map, take, add-one, ne_eqb}
use Rattle.std.specs.Prelude.{if◌then◌else◌, Result, Ok, Err}
use Rattle.std.proofs.lemmas.Bool.{cases_Bool, cases_eq, lt-ltb, le-ltb}
use Rattle.std.proofs.lemmas.Option.{none-some}
use Rattle.std.proofs.lemmas.Int.{ints}
use Rattle.std.proofs.lemmas.List.{map_more}
use Rattle.registry_report.specs.Types.{Entry, Refusal, NoMemory, NothingFound, LocalPlace, Free, Standing, Slot, Vacant, Live, Retired}
use Rattle.registry_values.specs.Common.{bias, slot_at, slot_of, Tally, less_bias, local_of}
use Rattle.registry_values.specs.Answers as answers
use Rattle.registry_values.proofs.Answers.{uncounted_alike}
use Rattle.registry_values.proofs.Fit.{ranges}
use Rattle.protocol.specs.Common.{State, count_at, found_at, local_at, total_at, with_cell, least_id, number_standing, with_local, Holds, IsIn, SlotsShow, standing_of, put, with_locals, addition_due_at, is_adding_at, number_in}
use Rattle.protocol.proofs.Cells.{by_cell, cell_here, cell_other, one_in, entry_attached}
use Rattle.protocol.proofs.keeps.CountKeeps.{held_counting}
use Rattle.protocol.proofs.History.{attached_within}
use Rattle.protocol.proofs.Occupied.{one_number, slot_has, at_rest_tells}
use Rattle.protocol.proofs.model.RefiningSections.{put_here, put_is, put_other}
use Rattle.protocol.proofs.keeps.References.{least_free, least_within, standing_tells, with_local_other, with_local_same}
use Rattle.protocol.proofs.counts.Sums.{local_added, local_changed, one_other, one_self, standing_within, words-at-zero}
use Rattle.protocol.proofs.Either.{either}
use Rattle.passive_core.specs.Common.{all_seated, IsCounted, after_acquire_local, after_counting, after_release_local, count_in, count_refusal, is_counting, local_slot, with_count_less, with_count_more, with_total_less, audit_of}
use Rattle.passive_core.specs.References as core
use Rattle.passive_core.proofs.Locals.{live_slot, slot_is}
use Rattle.passive_core.proofs.Passives.{found_slot}
use Rattle.passive_core.proofs.Audits.{rightly, row_long}
use Rattle.registry_report.specs.Common.{count_of_found, uncount_answer, unless, why_uncounted, with_label, Registry, IsSession, SessionState, Shows, ShowsTallies, number_at, with_one_counted, put_at, with_one_uncounted, audit_answer, held_count, list_below, net_count, tallies_below, tallies_in, tally_of}
use Rattle.registry_report.proofs.shows.Staged.{held_is}

-- In general

-- a function of two numbers with one value put
pub put_at_here : {X : Type 0} (f : ℕ → ℕ → X) (c n : ℕ) (x : X) → put_at f c n x c n ≡ x
put_at_here {X} f c n x = ap (λ (g : ℕ → X). g n) (put_here f c (put (f c) n x)) ∙ put_here (f c) n x

pub put_at_other : {X : Type 0} (f : ℕ → ℕ → X) (c n : ℕ) (x : X) (d m : ℕ) → (d ≡ c → m ≡ n → ⊥) → put_at f c n x d m ≡ f d m
put_at_other {X} f c n x d m off = either (cases_eq d c)
    (λ same. ap (λ (k : ℕ). put_at f c n x k m) same ∙ (ap (λ (g : ℕ → X). g m) (put_here f c (put (f c) n x)) ∙ (put_other (f c) n x m (off same) ∙ ap (λ (k : ℕ). f k m) (sym same))))
    (λ no. ap (λ (g : ℕ → X). g m) (put_other f c (put (f c) n x) d no))

-- The place of a count

-- the entry n is in the slot t, and c has its words for it
record HasWords (s : State) (c n t : ℕ) : Type 0 where
  entry : Entry
  there : IsIn entry (slot_at s.slots t)
  numbered : entry.number ≡ n
  old : n ≤ length s.history
  counts : t < length s.counts
  count_row : c < length (get_or s.counts t [])
  nets : t < length s.nets
  net_row : c < length (get_or s.nets t [])
  totals : t < length s.totals

has_words : (s : State) (c n t : ℕ) → Holds s → c < s.settings.cpus → slot_of s.slots n ≡ Some t → HasWords s c n t
has_words s c n t on low of =
    let at = slot_has s.slots n t of in
    let within = attached_within s.history at.1.0 (entry_attached s.history s.slots at.1.0 t on.slots at.1.1).0 in
    let few = (ranges s.settings on.fit).cpus in
    let counts : t < length s.counts = omega (arith, at.0, on.shape.slots, on.shape.counts) in
    let nets : t < length s.nets = omega (arith, at.0, on.shape.slots, on.shape.nets) in
    record {
      entry = at.1.0;
      there = at.1.1;
      numbered = at.1.2;
      old = omega (arith, within.1, at.1.2);
      counts = counts;
      count_row = omega (arith, low, few, on.shape.count_rows t counts);
      nets = nets;
      net_row = omega (arith, low, few, on.shape.net_rows t nets);
      totals = omega (arith, at.0, on.shape.slots, on.shape.totals);
    }

-- the entry in that slot has that number, and the one with the number is there
is_there : {s : State} {c n t : ℕ} → HasWords s c n t → (u : ℕ) (f : Entry) → IsIn f (slot_at s.slots u) → u ≡ t → f.number ≡ n
is_there {s} {c} {n} {t} has u f at same = ap (λ (g : Entry). g.number) (one_in has.entry f (slot_at s.slots t) has.there (subst (λ (k : ℕ). IsIn f (slot_at s.slots k)) same at)) ∙ has.numbered

stands_there : {s : State} {c n t : ℕ} → HasWords s c n t → SlotsShow s.history s.slots → (u : ℕ) (f : Entry) → IsIn f (slot_at s.slots u) → f.number ≡ n → u ≡ t
stands_there {s} {c} {n} {t} has show u f at same = (one_number s.history s.slots t u has.entry f show has.there at (same ∙ sym has.numbered)).0

-- The tallies of a session's core, before and after

abbrev Tallied : State → (ℕ → ℕ → ℕ) → (ℕ → ℕ → ℕ) → (ℕ → ℕ) → (ℕ → Bool) → Type 0
Tallied s acquired released given_up is_collected = ShowsTallies s.settings.cpus s.history s.slots s.counts s.nets s.totals acquired released given_up is_collected

net_is : (s : State) (c n t : ℕ) (acquired released : ℕ → ℕ → ℕ) (given_up : ℕ → ℕ) (is_collected : ℕ → Bool) → c < s.settings.cpus → HasWords s c n t
    → Tallied s acquired released given_up is_collected
    → count_at s.nets c t + released c n ≡ bias + acquired c n
net_is s c n t acquired released given_up is_collected low has on = subst (λ (m : ℕ). count_at s.nets c t + released c m ≡ bias + acquired c m) has.numbered (on.net t c has.entry has.there low)

-- c's own count for n changes, and else nothing does
record Recounts (acquired released acquired_now released_now : ℕ → ℕ → ℕ) (c n w : ℕ) : Type 0 where
  net : w + released_now c n ≡ bias + acquired_now c n
  acquired_else : (d m : ℕ) → (d ≡ c → m ≡ n → ⊥) → acquired_now d m ≡ acquired d m
  released_else : (d m : ℕ) → (d ≡ c → m ≡ n → ⊥) → released_now d m ≡ released d m

recounted : (s : State) (c n t v w : ℕ) (acquired released acquired_now released_now : ℕ → ℕ → ℕ) (given_up : ℕ → ℕ) (is_collected : ℕ → Bool)
    → SlotsShow s.history s.slots → HasWords s c n t → is_collected n ≡ false → v ≡ w → Recounts acquired released acquired_now released_now c n w → Tallied s acquired released given_up is_collected
    → Tallied (record s { counts = with_cell s.counts t c v; nets = with_cell s.nets t c w }) acquired_now released_now given_up is_collected
recounted s c n t v w acquired released acquired_now released_now given_up is_collected show has live same now on =
    let count_now : count_at (with_cell s.counts t c v) c t ≡ v = cell_here 0 s.counts t c v has.counts has.count_row in
    let net_now : count_at (with_cell s.nets t c w) c t ≡ w = cell_here 0 s.nets t c w has.nets has.net_row in
    record {
      net = λ u d f. by_cell (λ u d. IsIn f (slot_at s.slots u) → d < s.settings.cpus → count_at (with_cell s.nets t c w) d u + released_now d f.number ≡ bias + acquired_now d f.number) t c u d
          (λ at low. subst (λ (m : ℕ). count_at (with_cell s.nets t c w) c t + released_now c m ≡ bias + acquired_now c m) (sym (is_there has t f at refl)) (omega (arith, net_now, now.net)))
          (λ off at low.
          let away : d ≡ c → f.number ≡ n → ⊥ = λ here is. off (stands_there has show u f at is) here in
          omega (arith, cell_other 0 s.nets t c w u d off, now.acquired_else d f.number away, now.released_else d f.number away, on.net u d f at low));
      word = λ u d f. by_cell (λ u d. IsIn f (slot_at s.slots u) → d < s.settings.cpus → is_collected f.number ≡ false
          → count_at (with_cell s.counts t c v) d u ≡ count_at (with_cell s.nets t c w) d u) t c u d
          (λ at low dry. count_now ∙ (same ∙ sym net_now))
          (λ off at low dry. cell_other 0 s.counts t c v u d off ∙ (on.word u d f at low dry ∙ sym (cell_other 0 s.nets t c w u d off)));
      total = on.total;
      collected = λ u d f. by_cell (λ u d. IsIn f (slot_at s.slots u) → is_collected f.number ≡ true → count_at (with_cell s.counts t c v) d u ≡ 0) t c u d
          (λ at dry. absurd (let q : ◌≡◌ {A = Bool} true false = sym dry ∙ (ap is_collected (is_there has t f at refl) ∙ live) in cc))
          (λ off at dry. cell_other 0 s.counts t c v u d off ∙ on.collected u d f at dry);
      fresh = λ m new.
          let off : m ≡ n → ⊥ = λ is. absurd (omega (arith, is, new, has.old)) in
          record {
            unacquired = λ d. now.acquired_else d m (λ here is. off is) ∙ (on.fresh m new).unacquired d;
            unreleased = λ d. now.released_else d m (λ here is. off is) ∙ (on.fresh m new).unreleased d;
            kept = (on.fresh m new).kept;
            uncollected = (on.fresh m new).uncollected;
          };
    }

-- one local reference to n is given up under the interlock
given : (s : State) (c n t k : ℕ) (acquired released : ℕ → ℕ → ℕ) (given_up : ℕ → ℕ) (is_collected : ℕ → Bool)
    → SlotsShow s.history s.slots → HasWords s c n t → is_collected n ≡ true → Tallied s acquired released given_up is_collected
    → Tallied (record s { totals = set s.totals t k }) acquired released (put given_up n (given_up n + 1)) is_collected
given s c n t k acquired released given_up is_collected show has gone on = record {
  net = on.net;
  word = on.word;
  total = λ u f at dry.
      let off : f.number ≡ n → ⊥ = λ is. absurd (let q : ◌≡◌ {A = Bool} true false = sym gone ∙ (ap is_collected (sym is) ∙ dry) in cc) in
      omega (arith, get_or-set_other s.totals t u k 0 (λ same. off (is_there has u f at same)), put_other given_up n (given_up n + 1) f.number off, on.total u f at dry);
  collected = on.collected;
  fresh = λ m new. record {
    unacquired = (on.fresh m new).unacquired;
    unreleased = (on.fresh m new).unreleased;
    kept = put_other given_up n (given_up n + 1) m (λ is. absurd (omega (arith, is, new, has.old))) ∙ (on.fresh m new).kept;
    uncollected = (on.fresh m new).uncollected;
  };
}

-- Answers

-- the result of a count that isn't refused
abbrev pub found_number : Option Entry → Result ℕ Refusal
found_number None = Err NothingFound
found_number (Some e) = Ok e.number

uncounted_is : (s : SessionState) (r : Registry) (c n t : ℕ) → Holds s.core → Shows s r → c < s.core.settings.cpus → slot_of s.core.slots n ≡ Some t
    → answers.why_uncounted (count_in s.core.nets c (slot_of s.core.slots n)) (bias + s.core.settings.count_limit) ≡ why_uncounted r c n
uncounted_is s r c n t holds on low of =
    let net = net_is s.core c n t r.acquired r.released r.given_up r.is_collected low (has_words s.core c n t holds low of) on.tallies in
    let limit : r.settings.count_limit ≡ s.core.settings.count_limit = ap (λ (z : _). z.count_limit) on.settings in
    ap (λ (o : Option ℕ). answers.why_uncounted (count_in s.core.nets c o) (bias + s.core.settings.count_limit)) of
    ∙ uncounted_alike (count_at s.core.nets c t) (bias + s.core.settings.count_limit) (r.acquired c n) (r.released c n + r.settings.count_limit)
    (λ lt. omega (arith, net, limit, lt)) (λ ge. omega (arith, net, limit, ge))

counted_by : (s : SessionState) (r : Registry) (c : ℕ) (o : Option Entry) → Holds s.core → Shows s r → c < s.core.settings.cpus → found_at s.core c ≡ o
    → count_of_found r c o ≡ unless (count_refusal s.core c o) (found_number o)
counted_by s r c None holds on low found = refl
counted_by s r c (Some e) holds on low found =
    let at = found_slot s.core c e holds found in
    ap (λ (o : Option Refusal). unless o (Ok e.number)) (sym (uncounted_is s r c e.number at.0 holds on low at.1))

pub counted_is : (s : SessionState) (r : Registry) (c : ℕ) → Holds s.core → Shows s r → c < s.core.settings.cpus
    → count_of_found r c (r.model.found c) ≡ unless (count_refusal s.core c (found_at s.core c)) (found_number (found_at s.core c))
counted_is s r c holds on low = ap (count_of_found r c) (on.model.last_found c) ∙ counted_by s r c (found_at s.core c) holds on low refl

-- what was found where the count isn't refused
found_from : (s : State) (c : ℕ) (o : Option Entry) → count_refusal s c o ≡ None → (e : Entry) × (o ≡ Some e)
found_from s c None is = absurd (none-some NothingFound (sym is))
found_from s c (Some e) is = (e, refl)

-- a count that isn't refused is of the last found entry
pub counts_tell : (s : SessionState) (r : Registry) (c : ℕ) → Holds s.core → Shows s r → c < s.core.settings.cpus → count_refusal s.core c (found_at s.core c) ≡ None
    → (e : Entry) × (found_at s.core c ≡ Some e) × (count_of_found r c (r.model.found c) ≡ Ok e.number)
counts_tell s r c holds on low none =
    let found = found_from s.core c (found_at s.core c) none in
    (found.0, found.1, counted_is s r c holds on low ∙ (ap (λ (o : Option Refusal). unless o (found_number (found_at s.core c))) none ∙ ap found_number found.1))

pub refuses : (s : SessionState) (r : Registry) (c : ℕ) (f : Refusal) → Holds s.core → Shows s r → c < s.core.settings.cpus → count_refusal s.core c (found_at s.core c) ≡ Some f
    → count_of_found r c (r.model.found c) ≡ Err f
refuses s r c f holds on low is = counted_is s r c holds on low ∙ ap (λ (o : Option Refusal). unless o (found_number (found_at s.core c))) is

-- memory is refused, or the count is
pub count_error : (s : State) (refusal : Option Refusal) (f : Refusal) → IsCounted s refusal (Err f) → (f ≡ NoMemory) ⊎ (refusal ≡ Some f)
count_error s refusal NoMemory is = inl refl
count_error s refusal f is = inr is

-- a label's number is that of its live reference
pub label_is : (s : SessionState) (r : Registry) (x id n : ℕ) → Shows s r → get_or s.locals x None ≡ Some id → number_standing (local_at s.core.locals id) ≡ Some n → r.local_labels x ≡ Some n
label_is s r x id n on at live = on.labels.local x ∙ (ap (number_at s.core.locals) at ∙ live)

pub label_none : (s : SessionState) (r : Registry) (x : ℕ) → Shows s r → get_or s.locals x None ≡ None → r.local_labels x ≡ None
label_none s r x on at = on.labels.local x ∙ ap (number_at s.core.locals) at

pub uncount_answers : (s : SessionState) (r : Registry) (x id n : ℕ) → Shows s r → get_or s.locals x None ≡ Some id → number_standing (local_at s.core.locals id) ≡ Some n → uncount_answer r x ≡ Ok n
uncount_answers s r x id n on at live = ap (λ (o : Option ℕ). with_label o (λ m. Ok m)) (label_is s r x id n on at live)

-- Labels

-- each label names a live reference, and no two the same
abbrev AreLive : List LocalPlace → List (Option ℕ) → Type 0
AreLive places ids = (x id : ℕ) → get_or ids x None ≡ Some id → is_some (number_standing (local_at places id)) ≡ true

abbrev AreApart : List (Option ℕ) → Type 0
AreApart ids = (x y id : ℕ) → get_or ids x None ≡ Some id → get_or ids y None ≡ Some id → x ≡ y

-- the least free id isn't live
least_dead : (places : List LocalPlace) (id : ℕ) → is_some (number_standing (local_at places id)) ≡ true → id ≡ least_id places → ⊥
least_dead places id live is = let q : ◌≡◌ {A = Bool} false true = sym (ap (λ (p : LocalPlace). is_some (number_standing p)) (ap (local_at places) is ∙ least_free places)) ∙ live in cc

-- a live reference stays where another is added
stays_added : (places : List LocalPlace) (p : LocalPlace) (id : ℕ) → is_some (number_standing (local_at places id)) ≡ true → local_at (with_local places (least_id places) p) id ≡ local_at places id
stays_added places p id live = with_local_other places (least_id places) p id (least_within places) (least_dead places id live)

number_stays : (places places_now : List LocalPlace) (o : Option ℕ) → ((id : ℕ) → o ≡ Some id → local_at places_now id ≡ local_at places id) → number_at places o ≡ number_at places_now o
number_stays places places_now None same = refl
number_stays places places_now (Some id) same = ap number_standing (sym (same id refl))

labels_added : (places : List LocalPlace) (ids : List (Option ℕ)) (labels : ℕ → Option ℕ) (x n : ℕ) → x < length ids → AreLive places ids → ((y : ℕ) → labels y ≡ number_at places (get_or ids y None))
    → (y : ℕ) → put labels x (Some n) y ≡ number_at (with_local places (least_id places) (Standing n)) (get_or (set ids x (Some (least_id places))) y None)
labels_added places ids labels x n within live shows =
    let now = with_local places (least_id places) (Standing n) in
    put_is labels (λ y. number_at now (get_or (set ids x (Some (least_id places))) y None)) x (Some n)
    (sym (ap (number_at now) (get_or-set_same ids x (Some (least_id places)) None within) ∙ ap number_standing (with_local_same places (least_id places) (Standing n) (least_within places))))
    (λ y off. shows y ∙ (number_stays places now (get_or ids y None) (λ id at. stays_added places (Standing n) id (live y id at))
    ∙ ap (number_at now) (sym (get_or-set_other ids x y (Some (least_id places)) None off))))

-- another label's reference stays where this one's is given up
stays_removed : (places : List LocalPlace) (ids : List (Option ℕ)) (x id y k : ℕ) → get_or ids x None ≡ Some id → AreApart ids → (y ≡ x → ⊥) → get_or ids y None ≡ Some k
    → local_at (set places id Free) k ≡ local_at places k
stays_removed places ids x id y k here apart off at = get_or-set_other places id k Free Free (λ same. off (apart y x id (at ∙ ap (λ (j : ℕ). Some j) same) here))

labels_removed : (places : List LocalPlace) (ids : List (Option ℕ)) (labels : ℕ → Option ℕ) (x id : ℕ) → x < length ids → get_or ids x None ≡ Some id → AreApart ids
    → ((y : ℕ) → labels y ≡ number_at places (get_or ids y None))
    → (y : ℕ) → put labels x None y ≡ number_at (set places id Free) (get_or (set ids x None) y None)
labels_removed places ids labels x id within here apart shows = put_is labels (λ y. number_at (set places id Free) (get_or (set ids x None) y None)) x None
    (sym (ap (number_at (set places id Free)) (get_or-set_same ids x None None within)))
    (λ y off. shows y ∙ (number_stays places (set places id Free) (get_or ids y None) (λ k at. stays_removed places ids x id y k here apart off at)
    ∙ ap (number_at (set places id Free)) (sym (get_or-set_other ids x y None None off))))

-- What is left

-- counts, totals, live references and their labels change
changed : (s : SessionState) (r : Registry) (counts nets : List (List ℕ)) (totals : List ℕ) (places : List LocalPlace) (ids : List (Option ℕ)) (n k : ℕ) (acquired released : ℕ → ℕ → ℕ)
    (given_up : ℕ → ℕ) (labels : ℕ → Option ℕ)
    → Shows s r → ((m : ℕ) → put r.model.locals n k m ≡ sum_by (standing_of m) places)
    → Tallied (record s.core { counts = counts; nets = nets; totals = totals }) acquired released given_up r.is_collected
    → ((y : ℕ) → labels y ≡ number_at places (get_or ids y None))
    → Shows (record s { core = record (all_seated s.core) { counts = counts; nets = nets; totals = totals; locals = places }; locals = ids })
    (record r { model = with_locals r.model n k; acquired = acquired; released = released; given_up = given_up; local_labels = labels })
changed s r counts nets totals places ids n k acquired released given_up labels on number_standing tallies stand = assumption

-- what a CPU has found isn't collected: its word for it still counts
found_uncollected : (s : SessionState) (r : Registry) (c t : ℕ) (e : Entry) → Holds s.core → Shows s r → c < s.core.settings.cpus → found_at s.core c ≡ Some e → slot_of s.core.slots e.number ≡ Some t
    → r.is_collected e.number ≡ false
found_uncollected s r c t e holds on low found of =
    let is = held_counting s.core c t e holds found of in
    let some = (holds.balance.counted c t low is.1).1 in
    either (cases_Bool (r.is_collected e.number)) (λ dry. absurd (omega (arith, some, on.tallies.collected t c e is.0 dry))) (λ live. live)

-- the places with one more live reference, to n
abbrev with_standing : SessionState → ℕ → List LocalPlace
with_standing s n = with_local s.core.locals (least_id s.core.locals) (Standing n)

-- the sum of the live references with one more
more_standing : (s : SessionState) (r : Registry) (n : ℕ) → Shows s r → (m : ℕ)
    → put r.model.locals n (r.model.locals n + 1) m ≡ sum_by (standing_of m) (with_standing s n)
more_standing s r n on = put_is r.model.locals (λ m. sum_by (standing_of m) (with_standing s n)) n (r.model.locals n + 1)
    (omega (arith, on.model.counted n, local_added n s.core.locals (Standing n), one_self n n refl))
    (λ m off. omega (arith, on.model.counted m, local_added m s.core.locals (Standing n), one_other n m (λ same. off (sym same))))

less_standing : (s : SessionState) (r : Registry) (id n : ℕ) → Shows s r → local_at s.core.locals id ≡ Standing n → (m : ℕ)
    → put r.model.locals n (r.model.locals n - 1) m ≡ sum_by (standing_of m) (set s.core.locals id Free)
less_standing s r id n on at =
    let within = standing_within s.core.locals id n at in
    put_is r.model.locals (λ m. sum_by (standing_of m) (set s.core.locals id Free)) n (r.model.locals n - 1)
    (omega (arith, on.model.counted n, local_changed n s.core.locals id (Standing n) Free within at, one_self n n refl))
    (λ m off. omega (arith, on.model.counted m, local_changed m s.core.locals id (Standing n) Free within at, one_other n m (λ same. off (sym same))))

-- one more, counted by c
more_shows : (s : SessionState) (r : Registry) (c x n t : ℕ) → IsSession s → Shows s r → c < s.core.settings.cpus → x < length s.locals → slot_of s.core.slots n ≡ Some t → r.is_collected n ≡ false
    → Shows (record s { core = with_count_more s.core c n (Some t); locals = set s.locals x (Some (least_id s.core.locals)) }) (with_one_counted r c x n)
more_shows s r c x n t session on low within of live =
    let has = has_words s.core c n t session.holds low of in
    let net = net_is s.core c n t r.acquired r.released r.given_up r.is_collected low has on.tallies in
    let word : count_at s.core.counts c t ≡ count_at s.core.nets c t = on.tallies.word t c has.entry has.there low (ap r.is_collected has.numbered ∙ live) in
    changed s r (with_cell s.core.counts t c (count_at s.core.counts c t + 1)) (with_cell s.core.nets t c (count_at s.core.nets c t + 1)) s.core.totals
    (with_standing s n) (set s.locals x (Some (least_id s.core.locals))) n (r.model.locals n + 1)
    (put_at r.acquired c n (r.acquired c n + 1)) r.released r.given_up (put r.local_labels x (Some n)) on
    (more_standing s r n on)
    (recounted s.core c n t (count_at s.core.counts c t + 1) (count_at s.core.nets c t + 1) r.acquired r.released
    (put_at r.acquired c n (r.acquired c n + 1)) r.released r.given_up r.is_collected session.holds.slots has live
    (ap (λ (k : ℕ). k + 1) word)
    (record {
      net = omega (arith, net, put_at_here r.acquired c n (r.acquired c n + 1));
      acquired_else = put_at_other r.acquired c n (r.acquired c n + 1);
      released_else = λ d m off. refl;
    })
    on.tallies)
    (labels_added s.core.locals s.locals r.local_labels x n within session.live on.labels.local)

-- what an acquire leaves
pub counting_shows : (s : SessionState) (r : Registry) (c x : ℕ) (e : Entry) → IsSession s → Shows s r → c < s.core.settings.cpus → x < length s.locals → found_at s.core c ≡ Some e
    → Shows (record s { core = after_counting s.core c (found_at s.core c); locals = set s.locals x (Some (least_id s.core.locals)) }) (with_one_counted r c x e.number)
counting_shows s r c x e session on low within found =
    let at = found_slot s.core c e session.holds found in
    subst (λ (o : Option Entry). Shows (record s { core = after_counting s.core c o; locals = set s.locals x (Some (least_id s.core.locals)) }) (with_one_counted r c x e.number)) (sym found)
    (subst (λ (o : Option ℕ). Shows (record s { core = with_count_more s.core c e.number o; locals = set s.locals x (Some (least_id s.core.locals)) }) (with_one_counted r c x e.number)) (sym at.1)
    (more_shows s r c x e.number at.0 session on low within at.1 (found_uncollected s r c at.0 e session.holds on low found at.1)))

-- for an acquire that returns id: the entry, the registry's result, and the session for what that leaves
pub record Counts (s : SessionState) (r : Registry) (c x id : ℕ) : Type 0 where
  pub entry : Entry
  pub found : found_at s.core c ≡ Some entry
  pub answers : count_of_found r c (r.model.found c) ≡ Ok entry.number
  pub shows : Shows (record s { core = after_acquire_local s.core c (Ok id); locals = set s.locals x (Some id) }) (with_one_counted r c x entry.number)

pub acquire_local_shows : (s : SessionState) (r : Registry) (c x id : ℕ) → IsSession s → Shows s r → c < s.core.settings.cpus → x < length s.locals
    → IsCounted s.core (count_refusal s.core c (found_at s.core c)) (Ok id) → Counts s r c x id
acquire_local_shows s r c x id session on low within is =
    let told = counts_tell s r c session.holds on low is.0 in
    record {
      entry = told.0;
      found = told.1;
      answers = told.2;
      shows = subst (λ (k : ℕ). Shows (record s { core = after_counting s.core c (found_at s.core c); locals = set s.locals x (Some k) }) (with_one_counted r c x told.0.number)) (sym is.1)
          (counting_shows s r c x told.0 session on low within told.1);
    }

-- Releases

-- c's word counts a live reference's entry just until that is collected
counting_by : (s : SessionState) (r : Registry) (c n t : ℕ) (b : Bool) → Holds s.core → Shows s r → c < s.core.settings.cpus → HasWords s.core c n t → r.is_collected n ≡ b
    → nat_lt 0 (count_at s.core.counts c t) ≡ not b
counting_by s r c n t true holds on low has dry = le-ltb 0 (count_at s.core.counts c t) (omega (arith, on.tallies.collected t c has.entry has.there (ap r.is_collected has.numbered ∙ dry)))
counting_by s r c n t false holds on low has live = lt-ltb 0 (count_at s.core.counts c t)
    (omega (arith, on.tallies.word t c has.entry has.there low (ap r.is_collected has.numbered ∙ live), holds.balance.used c t has.entry low has.there))

pub counting_is : (s : SessionState) (r : Registry) (c id n : ℕ) → Holds s.core → Shows s r → c < s.core.settings.cpus → number_standing (local_at s.core.locals id) ≡ Some n
    → is_counting s.core c (local_slot s.core id) ≡ not (r.is_collected n)
counting_is s r c id n holds on low live =
    let at = live_slot s.core id n holds live in
    ap (is_counting s.core c) (slot_is s.core id n at.0 live at.1)
    ∙ counting_by s r c n at.0 (r.is_collected n) holds on low (has_words s.core c n at.0 holds low at.1) refl

-- one less: by c's own count, or under the interlock
abbrev uncounted_by : Bool → Registry → ℕ → ℕ → ℕ → Registry
uncounted_by b r c x n = record r {
  model = with_locals r.model n (r.model.locals n - 1);
  released = if b then r.released else put_at r.released c n (r.released c n + 1);
  given_up = if b then put r.given_up n (r.given_up n + 1) else r.given_up;
  local_labels = put r.local_labels x None;
}

own_shows : (s : SessionState) (r : Registry) (c x id n t : ℕ) → IsSession s → Shows s r → c < s.core.settings.cpus → x < length s.locals → get_or s.locals x None ≡ Some id
    → local_at s.core.locals id ≡ Standing n → slot_of s.core.slots n ≡ Some t
    → r.is_collected n ≡ false → Shows (record s { core = with_count_less (all_seated s.core) c id (Some t); locals = set s.locals x None }) (uncounted_by false r c x n)
own_shows s r c x id n t session on low within label at of live =
    let has = has_words s.core c n t session.holds low of in
    let net = net_is s.core c n t r.acquired r.released r.given_up r.is_collected low has on.tallies in
    let used = session.holds.balance.used c t has.entry low has.there in
    let word : count_at s.core.counts c t ≡ count_at s.core.nets c t = on.tallies.word t c has.entry has.there low (ap r.is_collected has.numbered ∙ live) in
    changed s r (with_cell s.core.counts t c (count_at s.core.counts c t - 1)) (with_cell s.core.nets t c (count_at s.core.nets c t - 1)) s.core.totals
    (set s.core.locals id Free) (set s.locals x None) n (r.model.locals n - 1)
    r.acquired (put_at r.released c n (r.released c n + 1)) r.given_up (put r.local_labels x None) on
    (less_standing s r id n on at)
    (recounted s.core c n t (count_at s.core.counts c t - 1) (count_at s.core.nets c t - 1) r.acquired r.released r.acquired
    (put_at r.released c n (r.released c n + 1)) r.given_up r.is_collected session.holds.slots has live
    (ap (λ (k : ℕ). k - 1) word)
    (record {
      net = omega (arith, net, used, put_at_here r.released c n (r.released c n + 1));
      acquired_else = λ d m off. refl;
      released_else = put_at_other r.released c n (r.released c n + 1);
    })
    on.tallies)
    (labels_removed s.core.locals s.locals r.local_labels x id within label session.apart on.labels.local)

-- the total of a collected entry is one less
interlock_shows : (s : SessionState) (r : Registry) (c x id n t : ℕ) → IsSession s → Shows s r → c < s.core.settings.cpus → x < length s.locals → get_or s.locals x None ≡ Some id
    → local_at s.core.locals id ≡ Standing n → slot_of s.core.slots n ≡ Some t
    → r.is_collected n ≡ true → Shows (record s { core = with_total_less (all_seated s.core) id (Some t); locals = set s.locals x None }) (uncounted_by true r c x n)
interlock_shows s r c x id n t session on low within label at of dry =
    let has = has_words s.core c n t session.holds low of in
    changed s r s.core.counts s.core.nets (set s.core.totals t (total_at s.core.totals t - 1))
    (set s.core.locals id Free) (set s.locals x None) n (r.model.locals n - 1)
    r.acquired r.released (put r.given_up n (r.given_up n + 1)) (put r.local_labels x None) on
    (less_standing s r id n on at)
    (given s.core c n t (total_at s.core.totals t - 1) r.acquired r.released r.given_up r.is_collected session.holds.slots has dry on.tallies)
    (labels_removed s.core.locals s.locals r.local_labels x id within label session.apart on.labels.local)

less_by : (s : SessionState) (r : Registry) (c x id n t : ℕ) (b : Bool) → IsSession s → Shows s r → c < s.core.settings.cpus → x < length s.locals → get_or s.locals x None ≡ Some id
    → local_at s.core.locals id ≡ Standing n → slot_of s.core.slots n ≡ Some t
    → r.is_collected n ≡ b
    → Shows (record s { core = if not b then with_count_less (all_seated s.core) c id (Some t) else with_total_less (all_seated s.core) id (Some t); locals = set s.locals x None })
    (uncounted_by b r c x n)
less_by s r c x id n t true session on low within label at of is = interlock_shows s r c x id n t session on low within label at of is
less_by s r c x id n t false session on low within label at of is = own_shows s r c x id n t session on low within label at of is

-- what a release leaves
pub release_local_shows : (s : SessionState) (r : Registry) (c x id n : ℕ) → IsSession s → Shows s r → c < s.core.settings.cpus → x < length s.locals → get_or s.locals x None ≡ Some id
    → number_standing (local_at s.core.locals id) ≡ Some n
    → Shows (record s { core = after_release_local s.core c id; locals = set s.locals x None }) (with_one_uncounted r c x n)
release_local_shows s r c x id n session on low within label live =
    let of = live_slot s.core id n session.holds live in
    let slot : local_slot s.core id ≡ Some of.0 = slot_is s.core id n of.0 live of.1 in
    let by : is_counting s.core c (local_slot s.core id) ≡ not (r.is_collected n) = counting_is s r c id n session.holds on low live in
    let after : (if not (r.is_collected n) then with_count_less (all_seated s.core) c id (Some of.0) else with_total_less (all_seated s.core) id (Some of.0)) ≡ after_release_local s.core c id =
    λ i. if sym by i then with_count_less (all_seated s.core) c id (sym slot i) else with_total_less (all_seated s.core) id (sym slot i) in
    subst (λ (core : State). Shows (record s { core = core; locals = set s.locals x None }) (with_one_uncounted r c x n)) after
    (less_by s r c x id n of.0 (r.is_collected n) session on low within label (standing_tells (local_at s.core.locals id) n live) of.1 refl)

-- Audit: the registry that the session shows returns what the core does.

-- a list of what is below a bound is what a row's first words say
row_below : {X : Type 0} (f : ℕ → X) (g : ℕ → X) (row : List ℕ) (n : ℕ) → n ≤ length row → ((c : ℕ) → c < n → f (get_or row c 0) ≡ g c) → map f (take n row) ≡ list_below g n
row_below f g row zero le same = refl
row_below {X} f g row (suc n) le same =
    ap (λ (k : ℕ). map f (take k row)) (sym (add-one n)) ∙ (map_more f row n 0 (omega arith)
    ∙ (ap (λ (x : X). map f (take n row) ++ x ∷ []) (same n (omega arith)) ∙ ap (λ (xs : List X). xs ++ g n ∷ []) (row_below f g row n (omega arith) (λ c lt. same c (omega arith)))))

-- A CPU's net count is what its count word says.

used_word : (w : ℕ) → 0 < w → local_of w ≡ less_bias w
used_word w some = ap (λ (b : Bool). if b then pos 0 else less_bias w) (ne_eqb w 0 (λ none. omega (arith, none, some)))

net_by : (s : SessionState) (r : Registry) (t c : ℕ) (e : Entry) (b : Bool) → IsSession s → Shows s r → IsIn e (slot_at s.core.slots t) → c < s.core.settings.cpus → r.is_collected e.number ≡ b
    → local_of (count_at s.core.counts c t) ≡ (if b then pos 0 else pos (r.acquired c e.number) -ℤ pos (r.released c e.number))
net_by s r t c e true is on in_ lt at = ap local_of (on.tallies.collected t c e in_ at)
net_by s r t c e false is on in_ lt at =
    let word = on.tallies.word t c e in_ lt at in
    let net = on.tallies.net t c e in_ lt in
    let some = is.holds.balance.used c t e lt in_ in
    used_word (count_at s.core.counts c t) (omega (arith, word, some)) ∙ omega (arith, ints, word, net)

pub locals_are : (s : SessionState) (r : Registry) (t : ℕ) (e : Entry) → IsSession s → Shows s r → IsIn e (slot_at s.core.slots t)
    → core.locals_at s.core t ≡ list_below (net_count r e.number) r.settings.cpus
locals_are s r t e is on in_ =
    row_below local_of (net_count r e.number) (get_or s.core.counts t []) s.core.settings.cpus (long s.core.settings.cpus refl) (λ c lt. net_by s r t c e (r.is_collected e.number) is on in_ lt refl)
    ∙ ap (λ z. list_below (net_count r e.number) z.cpus) (sym on.settings)
  where
    long : (n : ℕ) → n ≡ s.core.settings.cpus → n ≤ length (get_or s.core.counts t [])
    long zero at = omega arith
    long (suc n) at = omega (arith, row_long s.core n t e is.holds in_ (omega (arith, at)))

-- The total is what was given up, or what is held.

total_by : (s : SessionState) (r : Registry) (t : ℕ) (e : Entry) (b : Bool) → IsSession s → Shows s r → IsIn e (slot_at s.core.slots t) → r.is_collected e.number ≡ b
    → less_bias (total_at s.core.totals t) ≡ (if b then pos (held_count r e.number) else neg_ℤ (pos (r.given_up e.number)))
total_by s r t e true is on in_ at =
    let due = at_rest_tells s.core.due is.quiet.rest in
    let nothing : addition_due_at t s.core.due ≡ 0 = ap (addition_due_at t) due in
    let none : is_adding_at t s.core.due ≡ 0 = ap (is_adding_at t) due in
    let words = words-at-zero (get_or s.core.counts t []) (λ c. on.tallies.collected t c e in_ at) in
    omega (arith, ints, (is.holds.balance.balance t e in_).even, nothing, none, words, held_is s r e.number t is on)
total_by s r t e false is on in_ at = omega (arith, ints, on.tallies.total t e in_ at)

-- A tally is the registry's.
pub tally_is : (s : SessionState) (r : Registry) (t : ℕ) (e : Entry) → IsSession s → Shows s r → IsIn e (slot_at s.core.slots t) → core.tally_of s.core e.number t ≡ tally_of r e.number t
tally_is s r t e is on in_ =
    let held_count = rightly s.core t e is.holds is.quiet.rest in_ ∙ ap pos (held_is s r e.number t is on) in
    let locals = locals_are s r t e is on in_ in
    let total = total_by s r t e (r.is_collected e.number) is on in_ refl in
    λ i. record { number = e.number; slot = t; held = held_count i; locals = locals i; total = total i }

slot_tallies : (s : SessionState) (r : Registry) (t : ℕ) (x : Slot) → IsSession s → Shows s r → slot_at s.core.slots t ≡ x → core.tallies_at s.core t x ≡ tallies_in r t (number_in x)
slot_tallies s r t Vacant is on at = refl
slot_tallies s r t (Live e) is on at = ap (λ (y : Tally). y ∷ []) (tally_is s r t e is on (inl at))
slot_tallies s r t (Retired e) is on at = ap (λ (y : Tally). y ∷ []) (tally_is s r t e is on (inr at))

tallies_are : (s : SessionState) (r : Registry) (n : ℕ) → IsSession s → Shows s r → core.tallies_below s.core n ≡ tallies_below r n
tallies_are s r zero is on = refl
tallies_are s r (suc t) is on =
    let before = tallies_are s r t is on in
    let here : core.tallies_at s.core t (slot_at s.core.slots t) ≡ tallies_in r t (r.model.occupants t) =
    slot_tallies s r t (slot_at s.core.slots t) is on refl ∙ ap (tallies_in r t) (sym (on.model.occupants t)) in
    λ i. before i ++ here i

-- The results of an audit are the same.
pub audit_answers : (s : SessionState) (r : Registry) → IsSession s → Shows s r → audit_of s.core ≡ audit_answer r
audit_answers s r is on = tallies_are s r s.core.settings.slots is on ∙ ap (λ z. tallies_below r z.slots) (sym on.settings)
