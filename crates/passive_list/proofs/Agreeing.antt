-- A CPU's plain data agree with its view on: as it is made, over its sections, and over a lookup from outside.
use Rattle.std.proofs.Common.{◌≡◌, ◌≢◌, ◌⊎◌, inl, ℕ, ◌+◌, ◌*◌, ◌<◌, ◌≤◌, List, [], length, replicate, IsTrue, Option, Some, None, refl, sym, ap, ◌∙◌, subst, arith, ◌++◌, nat_lt}
use Rattle.std.specs.Prelude.{slice_index_or}
use Rattle.std.proofs.lemmas.List.{append-nil, get_or_default, length-replicate}
use Rattle.std.proofs.lemmas.Option.{none-some, same_Some}
use Rattle.std.specs.List.{Contains}
use Rattle.std.proofs.lemmas.Bool.{ltb-true}
use mathlib.Core.List.{IsPrefix}
use Rattle.atomic_table.specs.Seated.{TableId}
use Rattle.passive_list.specs.Types.{Entry, Change, Settings, Row, CpuView, Key, MOST_SLOTS, Search, Enter, Done, Cpu, Exit}
use Rattle.registry_values.specs.Common.{are_fit, bias}
use Rattle.registry_values.proofs.Fit.{ranges}
use Rattle.registry_values.proofs.Answers.{same_test}
use Rattle.protocol.specs.Common.{IsAttached}
use Rattle.protocol.proofs.Cells.{get_or_all}
use Rattle.protocol.proofs.Occupied.{in_within}
use Rattle.protocol.proofs.History.{attached_within}
use Rattle.cpu_words.specs.Common.{IsRowOf, IsShownCpu, number_at, references_to, depth_of, new_cpu, HasEntered, HasExited, did, SeatMakes, Seated, MaySeek, IsIdle, MayExit}
use Rattle.cpu_words.proofs.seats.Seating.{found_is_in, new_cpu_is_shown, entered_whole, step_is_shown}
use Rattle.cpu_words.proofs.shown.Seeing.{attached_prefix, seen_of}
use Rattle.cpu_words.proofs.by_cpu.Passives.{known_of}
use Rattle.passive_list.specs.Common.{Memory, Found, NumberedCount, HasLookedUp, no_place, no_found, no_memory, place_at, PassiveAgree, NetAgree, DepthAgrees, SectionAgrees, IsFoundLast, IsKept, HoldsFound, IsOurCpu, Remembers, OnCpu, HasEnteredOn, may_begin, HasFoundFromOutside, SearchesOnce}
use Rattle.passive_list.proofs.Memories.{none_remembered, stays}

-- each place of a new CPU is of no entry
blank_number : (z t : ℕ) → (place_at (replicate z no_place) t).number ≡ 0
blank_number z t = ap (λ (p : NumberedCount). p.number) (get_or_all z no_place t)

blank_count : (z t : ℕ) → (place_at (replicate z no_place) t).count ≡ 0
blank_count z t = ap (λ (p : NumberedCount). p.count) (get_or_all z no_place t)

new_passive : (a : Settings) (c : ℕ) → PassiveAgree (new_cpu a c) (replicate a.slots no_place)
new_passive a c = record { size = length-replicate a.slots no_place; counts = λ t. blank_count a.slots t; placed = λ t some. absurd (some (blank_number a.slots t)); each = λ e there. absurd (omega (arith, there.1)) }

new_net : (a : Settings) (c : ℕ) → NetAgree (new_cpu a c) (replicate a.slots no_place)
new_net a c = record { size = length-replicate a.slots no_place; met = λ t. blank_number a.slots t; counts = λ t some. absurd (some (blank_number a.slots t)); most = λ t. omega (arith, blank_count a.slots t) }

outside : DepthAgrees None 0
outside = record { outside = (λ _. refl, λ _. refl); most = omega arith }

inside : (b : ℕ) → DepthAgrees (Some b) 1
inside b = record { outside = (λ (q : Some b ≡ None). cc, λ (q : 1 ≡ 0). absurd (omega arith)); most = omega arith }

-- a new CPU
pub new_agrees : (z : TableId) (a : Settings) (t : TableId) (r : Row) → t ≡ z → IsTrue (are_fit a) → r.cpu < a.cpus → IsRowOf a.slots r
    → IsOurCpu z a t (new_cpu a r.cpu) r 0 0 no_found (replicate a.slots no_place) (replicate a.slots no_place) (no_memory a.slots)
new_agrees z a t r table fit lt row =
    let limit : 0 + 0 ≤ a.section_limit = omega arith in
    let memory = none_remembered a.slots [] (omega (arith, (ranges a fit).some_slot)) (ranges a fit).slots in
    assumption (limit, outside, new_passive a r.cpu, new_net a r.cpu, memory, new_cpu_is_shown a fit r.cpu lt)

-- what was read at a slot is its place
pub place_is : (ps : List NumberedCount) (t : ℕ) (p : NumberedCount) → p ≡ slice_index_or ps t p → t < length ps → p ≡ place_at ps t
place_is ps t p is few = is ∙ get_or_default ps t p no_place few

-- its references stay in a longer pass
pub passive_longer : (x y : CpuView) (l : List NumberedCount) → y.settings ≡ x.settings → y.references ≡ x.references → IsPrefix x.pass y.pass → PassiveAgree x l → PassiveAgree y l
passive_longer x y l settings same longer agree = record {
  size = agree.size ∙ ap (λ (s : Settings). s.slots) (sym settings);
  counts = λ t. agree.counts t ∙ ap (λ es. references_to (place_at l t).number es) (sym same);
  placed = λ t some. let old = agree.placed t some in record { entry = old.entry; attached = attached_prefix x.pass y.pass old.entry longer old.attached; slot = old.slot; number = old.number };
  each = λ e there.
      let old = agree.each e (subst (λ es. Contains es e) same there) in
      (subst (λ (s : Settings). e.slot < s.slots) (sym settings) old.0, attached_prefix x.pass y.pass e longer old.1, old.2, old.3);
}

-- its net counts are not of the pass
pub net_same : (x y : CpuView) (l : List NumberedCount) → y.settings ≡ x.settings → y.met ≡ x.met → y.acquired ≡ x.acquired → y.released ≡ x.released → NetAgree x l → NetAgree y l
net_same x y l settings met acquired released agree = record {
  size = agree.size ∙ ap (λ (s : Settings). s.slots) (sym settings);
  met = λ t. agree.met t ∙ ap (λ m. number_at m t) (sym met);
  counts = λ t some. ap (λ m. (place_at l t).count + number_at m (place_at l t).number) released ∙ agree.counts t some ∙ ap (λ m. bias + number_at m (place_at l t).number) (sym acquired);
  most = agree.most;
}

-- a section begins
pub entered_agrees : (z : TableId) (a : Settings) (t u : TableId) (x y : CpuView) (c : Row) (w d : ℕ) (e : Found) (ps ns : List NumberedCount) (ms : Memory)
    → IsOurCpu z a t x c w d e ps ns ms → IsShownCpu y → u ≡ t → d ≡ 0 → w < a.section_limit → HasEntered x y → IsOurCpu z a u y c w 1 e ps ns ms
entered_agrees z a t u x y c w d e ps ns ms our is_shown same shallow room had =
    let p = y.pass in
    let z0 : CpuView = record x { section = x.section + 1; begin = Some (length p); pass = p } in
    let none : depth_of x.begin ≡ 0 = ap depth_of (our.depth.outside.1 shallow) in
    let section : SectionAgrees a z0 w = record { word = omega (arith, our.section.word, none); limit = omega arith } in
    subst (λ (v : CpuView). IsOurCpu z a u v c w 1 e ps ns ms) (sym had.1) (assumption (
      same ∙ our.table,
      section,
      inside (length p),
      passive_longer x z0 ps refl refl had.0 our.passive,
      net_same x z0 ns refl refl refl refl our.net,
      stays x.settings.slots x.pass p ms had.0 our.memory,
      subst IsShownCpu had.1 is_shown,
      our,
    ))

-- an open section
opened : (b : Option ℕ) → b ≢ None → depth_of b ≡ 1
opened None some = absurd (some refl)
opened (Some b) some = refl

-- a section ends
pub exited_agrees : (z : TableId) (a : Settings) (t u : TableId) (x y : CpuView) (c : Row) (w d : ℕ) (e : Found) (ps ns : List NumberedCount) (ms : Memory)
    → IsOurCpu z a t x c w d e ps ns ms → IsShownCpu y → u ≡ t → d ≡ 1 → HasExited x y → IsOurCpu z a u y c (w + 1) 0 (record e { number = 0 }) ps ns ms
exited_agrees z a t u x y c w d e ps ns ms our is_shown same last had =
    let some : x.begin ≢ None = λ q. absurd (let none : d ≡ 0 = our.depth.outside.0 q in omega arith) in
    let z0 : CpuView = record x { section = x.section + 1; begin = None; found = None } in
    let one : depth_of x.begin ≡ 1 = opened x.begin some in
    let section : SectionAgrees a z0 (w + 1) = record { word = omega (arith, our.section.word, one); limit = omega (arith, our.section.limit, one) } in
    subst (λ (v : CpuView). IsOurCpu z a u v c (w + 1) 0 (record e { number = 0 }) ps ns ms) (sym had) (assumption (
      same ∙ our.table,
      section,
      outside,
      passive_longer x z0 ps refl refl (([], append-nil x.pass)) our.passive,
      net_same x z0 ns refl refl refl refl our.net,
      subst IsShownCpu had is_shown,
      our,
    ))

-- the pass grows, another entry may be the last found one, and another note may lie beside the view
pub seen_agrees : (z : TableId) (a : Settings) (t u : TableId) (x y : CpuView) (c : Row) (w d : ℕ) (e k : Found) (f : Option Entry) (ps ns : List NumberedCount) (ms : Memory) (h : List Change)
    → IsOurCpu z a t x c w d e ps ns ms → IsShownCpu y → u ≡ t → IsPrefix x.pass y.pass → y ≡ record x { pass = y.pass; found = f; noted_pass = h } → IsKept k f → IsOurCpu z a u y c w d k ps ns ms
seen_agrees z a t u x y c w d e k f ps ns ms h our is_shown same longer is kept =
    let z0 : CpuView = record x { pass = y.pass; found = f; noted_pass = h } in
    subst (λ (v : CpuView). IsOurCpu z a u v c w d k ps ns ms) (sym is) (assumption (
      same ∙ our.table,
      passive_longer x z0 ps refl refl longer our.passive,
      net_same x z0 ns refl refl refl refl our.net,
      stays x.settings.slots x.pass y.pass ms longer our.memory,
      subst IsShownCpu is is_shown,
      kept,
      our,
    ))

pub noted_agrees : (z : TableId) (a : Settings) (t u : TableId) (x y : CpuView) (c : Row) (w d : ℕ) (e : Found) (ps ns : List NumberedCount) (ms : Memory) (h : List Change)
    → IsOurCpu z a t x c w d e ps ns ms → IsShownCpu y → u ≡ t → IsPrefix x.pass y.pass → y ≡ record x { pass = y.pass; noted_pass = h } → IsOurCpu z a u y c w d e ps ns ms
noted_agrees z a t u x y c w d e ps ns ms h our is_shown same longer is = seen_agrees z a t u x y c w d e e x.found ps ns ms h our is_shown same longer is our.found

-- a lookup is over
pub looked_up_agrees : (z : TableId) (a : Settings) (t u : TableId) (x y : CpuView) (c : Row) (w d : ℕ) (e k : Found) (f : Option Entry) (ps ns : List NumberedCount) (ms : Memory) (key : Key)
    → IsOurCpu z a t x c w d e ps ns ms → IsShownCpu y → u ≡ t → IsKept k f → HasLookedUp key x y f → IsOurCpu z a u y c w d k ps ns ms
looked_up_agrees z a t u x y c w d e k f ps ns ms key our is_shown same kept had =
    let p = y.pass in
    let is : y ≡ record x { pass = p; found = f } = had.is ∙ ap (λ (s : Option Search). record x { pass = p; search = s; found = f }) (sym our.idle.search) in
    seen_agrees z a t u x y c w d e k f ps ns ms x.noted_pass our is_shown same had.pass is kept

-- the data of a CPU agree with its view by the table and the settings that its own seat has
pub own_agrees : (z : TableId) (a : Settings) (t : TableId) (x : CpuView) (c : Row) (w d : ℕ) (e : Found) (ps ns : List NumberedCount) (ms : Memory) → IsOurCpu z a t x c w d e ps ns ms
    → IsOurCpu t x.settings t x c w d e ps ns ms
own_agrees z a t x c w d e ps ns ms our = subst (λ (s : Settings). IsOurCpu t s t x c w d e ps ns ms) (sym our.settings) (assumption our)

-- other entries of the pass are remembered
pub memory_agrees : (z : TableId) (a : Settings) (t : TableId) (x : CpuView) (c : Row) (w d : ℕ) (e : Found) (ps ns : List NumberedCount) (ms m : Memory) → IsOurCpu z a t x c w d e ps ns ms
    → Remembers x.settings.slots x.pass m → IsOurCpu z a t x c w d e ps ns m
memory_agrees z a t x c w d e ps ns ms m our kept = assumption (kept, our)

-- an entry that it found last or refers to is in a slot of its table
pub slot_within : (x : CpuView) (e : Entry) → IsShownCpu x → (x.found ≡ Some e) ⊎ Contains x.references e → e.slot < x.settings.slots
slot_within x e shown has =
    let seen = seen_of shown.g x shown.good shown.shown in
    subst (λ (z : Settings). e.slot < z.slots) (sym seen.settings) (known_of shown.g x e shown.good shown.shown has).lt

-- The last found entry, by what is kept of it

pub record IsFoundAs (x : CpuView) (k : Found) : Type 0 where
  pub entry : Entry
  pub found : x.found ≡ Some entry
  pub number : k.number ≡ entry.number
  pub slot : k.slot ≡ entry.slot
  pub kind : k.kind ≡ entry.rec.kind
  pub few : k.slot < MOST_SLOTS
  pub within : k.slot < x.settings.slots
  pub attached : IsAttached x.pass entry

pub found_as : (x : CpuView) (k : Found) → IsShownCpu x → IsKept k x.found → k.number ≢ 0 → IsFoundAs x k
found_as x k shown kept some = by_cases x.found kept refl
  where
    by_cases : (f : Option Entry) → IsKept k f → x.found ≡ f → IsFoundAs x k
    by_cases None none is = absurd (some none)
    by_cases (Some e) kept is =
        let few : k.slot < MOST_SLOTS =
        omega (arith, kept.1, in_within shown.g.slots e.slot e (found_is_in x e shown is).1, (ranges shown.g.settings shown.good.holds.fit).slots, shown.good.holds.shape.slots) in
        record { entry = e; found = is; number = kept.0; slot = kept.1; kind = kept.2; few = few; within = omega (arith, kept.1, slot_within x e shown (inl is)); attached = shown.shown.found e is }

pub found_none : (x : CpuView) (k : Found) → IsShownCpu x → IsKept k x.found → k.number ≡ 0 → x.found ≡ None
found_none x k shown kept none = by_cases x.found kept refl
  where
    by_cases : (f : Option Entry) → IsKept k f → x.found ≡ f → x.found ≡ None
    by_cases None kept is = is
    by_cases (Some e) kept is = absurd (omega (arith, kept.0, (attached_within x.pass e (shown.shown.found e is)).0, none))

-- so it is the one with a number, or isn't

pub is_last : (x : CpuView) (k : Found) (n : ℕ) → IsFoundAs x k → k.number ≡ n → IsFoundLast x n
is_last x k n kept same = (kept.entry, kept.found, sym kept.number ∙ same)

pub not_last : (x : CpuView) (k : Found) (n : ℕ) → IsFoundAs x k → (k.number ≡ n → ⊥) → IsFoundLast x n → ⊥
not_last x k n kept off last =
    let one : kept.entry ≡ last.0 = same_Some kept.entry last.0 (sym kept.found ∙ last.1) in
    off (kept.number ∙ (ap (λ (e : Entry). e.number) one ∙ last.2))

pub none_last : (x : CpuView) (n : ℕ) → x.found ≡ None → IsFoundLast x n → ⊥
none_last x n none last = none-some last.0 (sym none ∙ last.1)

-- outside there is none
pub none_outside : (x : CpuView) → IsShownCpu x → x.begin ≡ None → x.found ≡ None
none_outside x shown outside = by_cases x.found refl
  where
    by_cases : (f : Option Entry) → x.found ≡ f → x.found ≡ None
    by_cases None is = is
    by_cases (Some e) is = let held = (found_is_in x e shown is).0 in absurd (none-some held.0 (sym outside ∙ held.1))

pub holds_found : (x : CpuView) → IsShownCpu x → HoldsFound x
holds_found x shown = record { is_shown = shown; held = λ e is. (found_is_in x e shown is).0; slot = λ e is. (found_is_in x e shown is).1 }

-- How a section begins: whether a CPU has begun as many as it may, by those that it has ended, and what its outermost enter leaves.

few : (b : Option ℕ) → depth_of b ≤ 1
few None = omega arith
few (Some b) = omega arith

-- the CPU may begin a section exactly where it has ended fewer than that
pub may_begin_is : (z : TableId) (a : Settings) (t : TableId) (x : CpuView) (c : Row) (w d : ℕ) (e : Found) (ps ns : List NumberedCount) (ms : Memory) (limit : ℕ) → IsOurCpu z a t x c w d e ps ns ms → limit ≡ a.section_limit
    → nat_lt w limit ≡ may_begin x
may_begin_is z a t x c w d e ps ns ms limit our is =
    let word = our.section.word in
    let most : x.settings.section_limit ≡ a.section_limit = ap (λ (s : Settings). s.section_limit) our.settings in
    same_test w limit x.section (2 * x.settings.section_limit) (λ lt. omega (arith, lt, word, is, most, few x.begin)) (λ ge. omega (arith, ge, word, is, most))

-- so it has then
pub unspent : (z : TableId) (a : Settings) (t : TableId) (x : CpuView) (c : Row) (w d : ℕ) (e : Found) (ps ns : List NumberedCount) (ms : Memory) → IsOurCpu z a t x c w d e ps ns ms → IsTrue (may_begin x)
    → w < a.section_limit
unspent z a t x c w d e ps ns ms our may = ltb-true w a.section_limit (may_begin_is z a t x c w d e ps ns ms a.section_limit our refl ∙ may)

-- a CPU that names its own table, to a contract, by its seat
abbrev pub cpu_at : Seated CpuView → ℕ → Memory → OnCpu
cpu_at s depth m = record { view = s.view; depth = depth; made = 0; memory = m; known_log = s.known_log; log = s.log }

-- a section begins by the step
pub entered_on : (a : OnCpu) (s t : Seated CpuView) (c d n : ℕ) (m : Memory) → cpu_at s d m ≡ a → s.view.id ≡ c → d ≡ 0 → n ≡ d + 1 → SeatMakes Cpu (Enter c) Done s t → HasEntered s.view t.view
    → HasEnteredOn a (cpu_at t n m)
entered_on a s t c d n m at id shallow one made entered = subst (λ (b : OnCpu). HasEnteredOn b (cpu_at t n m)) at record {
  begun = λ _. entered;
  whole = λ _. entered_whole c s.view t.view id made.event;
  inner = λ off. absurd (off shallow);
  inside = λ none. none-some (length t.view.pass) (sym none ∙ ap (λ (v : CpuView). v.begin) entered.1);
  depth = one;
  made = refl;
  memory = refl;
  known_log = made.known_log;
  event = λ _. made.log ∙ ap (λ (i : ℕ). s.log ++ did (Enter i) Done) (sym id);
  none = λ off. absurd (off shallow);
}

-- A lookup from outside: the steps that its section allows, how the data agree with the view as it is over, and what it is to a contract.

-- The steps

pub may_seek : (x y : CpuView) → IsIdle x → HasEntered x y → MaySeek y
may_seek x y idle had = record {
  idle = record { search = ap (λ (v : CpuView). v.search) had.1 ∙ idle.search; hand = ap (λ (v : CpuView). v.hand) had.1 ∙ idle.hand };
  inside = (length y.pass, ap (λ (v : CpuView). v.begin) had.1);
}

pub may_exit : (key : Key) (y v : CpuView) (f : Option Entry) → MaySeek y → HasLookedUp key y v f → MayExit v
may_exit key y v f may had = record {
  idle = record { search = ap (λ (i : CpuView). i.search) had.is; hand = ap (λ (i : CpuView). i.hand) had.is ∙ may.idle.hand };
  inside = (may.inside.0, ap (λ (i : CpuView). i.begin) had.is ∙ may.inside.1);
}

-- The data

-- what a find would keep of its answer
abbrev kept_of : Option Entry → Found
kept_of None = no_found
kept_of (Some e) = record { number = e.number; slot = e.slot; kind = e.rec.kind }

are_kept : (f : Option Entry) → IsKept (kept_of f) f
are_kept None = refl
are_kept (Some e) = (refl, refl, refl)

-- outside and with nothing found again, as before, and one section more is ended
pub from_outside_agrees : (z : TableId) (a : Settings) (t u : TableId) (x y : Seated CpuView) (v w : CpuView) (c : Row) (n m d : ℕ) (e : Found) (f : Option Entry) (ps ns : List NumberedCount) (ms : Memory) (key : Key) (b : OnCpu)
    → IsOurCpu z a t x.view c n d e ps ns ms → cpu_at x d ms ≡ b → b.depth ≡ 0 → IsTrue (may_begin b.view) → u ≡ t → SeatMakes Cpu (Enter c.cpu) Done x y → HasEntered x.view y.view
    → IsShownCpu v → HasLookedUp key y.view v f → IsShownCpu w → HasExited v w → m ≡ n + 1 → IsOurCpu u w.settings u w c m d e ps ns ms
from_outside_agrees z a t u x y v w c n m d e f ps ns ms key b our at outside unended same made entered looked_shown looked exited_shown exited one_more =
    let shallow : d ≡ 0 = ap (λ (o : OnCpu). o.depth) at ∙ outside in
    let room : n < a.section_limit = unspent z a t x.view c n d e ps ns ms our (subst (λ (o : OnCpu). IsTrue (may_begin o.view)) (sym at) unended) in
    let inside = entered_agrees z a t u x.view y.view c n d e ps ns ms our (step_is_shown made.event) same shallow room entered in
    let sought = looked_up_agrees z a u u y.view v c n 1 e (kept_of f) f ps ns ms key inside looked_shown refl (are_kept f) looked in
    let over = exited_agrees z a u u v w c n 1 (kept_of f) ps ns ms sought exited_shown refl refl exited in
    let was : IsKept e None = subst (λ (g : Option Entry). IsKept e g) (none_outside x.view our.is_shown (our.depth.outside.1 shallow)) our.found in
    let kept : IsKept e w.found = subst (λ (g : Option Entry). IsKept e g) (sym (ap (λ (i : CpuView). i.found) exited)) was in
    let there : IsOurCpu z a u w c (n + 1) d e ps ns ms = assumption (subst (λ (k : ℕ). DepthAgrees w.begin k) (sym shallow) over.depth, kept, over) in
    own_agrees z a u w c m d e ps ns ms (subst (λ (k : ℕ). IsOurCpu z a u w c k d e ps ns ms) (sym one_more) there)

-- To a contract

pub found_from_outside : (key : Key) (a : OnCpu) (x y v w : Seated CpuView) (c d : ℕ) (m : Memory) (f : Option Entry)
    → cpu_at x d m ≡ a → IsIdle x.view → x.view.id ≡ c → a.depth ≡ 0 → SeatMakes Cpu (Enter c) Done x y → HasEntered x.view y.view → HasLookedUp key y.view v.view f → v.known_log ≡ y.known_log
    → SearchesOnce c y.view.settings.slots key f y.log v.log
    → SeatMakes Cpu (Exit c) Done v w → HasExited v.view w.view → HasFoundFromOutside key a (cpu_at w d m) f
found_from_outside key a x y v w c d m f at idle id outside enters entered looked known log exits exited =
    let shallow : d ≡ 0 = ap (λ (o : OnCpu). o.depth) at ∙ outside in
    let one : d + 1 ≡ 1 = omega (arith, shallow) in
    let same : y.view.search ≡ None = ap (λ (i : CpuView). i.search) entered.1 ∙ idle.search in
    let is : v.view ≡ record y.view { pass = v.view.pass; found = f } = looked.is ∙ ap (λ (s : Option Search). record y.view { pass = v.view.pass; search = s; found = f }) (sym same) in
    let y_id : y.view.id ≡ c = ap (λ (i : CpuView). i.id) entered.1 ∙ id in
    let v_id : v.view.id ≡ c = ap (λ (i : CpuView). i.id) looked.is ∙ y_id in
    subst (λ (b : OnCpu). HasFoundFromOutside key b (cpu_at w d m) f) at record {
      first = cpu_at y (d + 1) m;
      last = cpu_at v (d + 1) m;
      enters = entered_on (cpu_at x d m) x y c d (d + 1) m refl id shallow refl enters entered;
      finds = record {
        pass = looked.pass;
        is = λ i. record { view = is i; depth = d + 1; made = 0; memory = m; known_log = known i; log = v.log };
        legal = looked.tells.legal;
        lawful = looked.lawful;
        seen = λ e is_e. (looked.seen e is_e).2;
        log = subst (λ (i : ℕ). SearchesOnce i y.view.settings.slots key f y.log v.log) (sym y_id) log;
      };
      exits = record {
        ended = λ _. exited;
        inner = λ off. absurd (off one);
        depth = refl;
        made = refl;
        memory = refl;
        known_log = exits.known_log;
        event = λ _. exits.log ∙ ap (λ (i : ℕ). v.log ++ did (Exit i) Done) (sym v_id);
        none = λ off. absurd (off one);
      };
    }
