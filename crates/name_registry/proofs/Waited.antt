-- What the caller's CPU knows once a perform is done: the keeper saw each CPU out of a section, after it had heard the caller, and what had been detached by then has passed.
use Rattle.cpu_words.proofs.laws.Called.{ends_open_sections}
use Rattle.std.proofs.Common.{◌≡◌, ◌⊎◌, inl, inr, ⊎_elim, ℕ, zero, suc, ◌<◌, ◌≤◌, Bool, true, false, not, ◌==◌, List, [], ◌∷◌, ◌++◌, length, Option, Some, None, Result, Ok, Err, IfOk, refl, sym, ap, ◌∙◌, subst, append_assoc, arith}
use Rattle.std.proofs.lemmas.Bool.{or_cases, not-true, false≢true, eqb-true, eqb-false, cases_lt, not-false}
use Rattle.std.proofs.lemmas.List.{append-nil}
use mathlib.Core.List.{IsPrefix}
use Rattle.name_registry.specs.Types.{Tell, Done, Refusal, Settings, MOST_CPUS, MOST_SLOTS, LogItem, Teller}
use Rattle.protocol.specs.Common.{HasMoved}
use Rattle.protocol.proofs.Cells.{get_or_all}
use Rattle.registry_values.specs.Common.{wait_answer, is_even, is_out}
use Rattle.registry_values.proofs.Slots.{least_none}
use Rattle.cpu_words.specs.Common.{changes_in, has_taken, has_found, has_heard_from, heard_from, HasHeardFrom, HasPassedOn, HasWaited, IsDetachedFrom, IsSeenOut, IsSnapped, KeepsSlot, did}
use Rattle.cpu_words.proofs.logs.Marks.{StandsIn, passed_on, snapped_on, stands_more, stands_past}
use Rattle.cpu_words.proofs.logs.Slots.{changes_last, kept_entry, kept_parts, standing_last}
use Rattle.cpu_words.proofs.shown.Seeing.{prefix_both}
use Rattle.passive_list.specs.Common.{OnCpu, as_teller, cpu_after_tell, OnKeeper, GoesOnBy}
use Rattle.name_registry.specs.Common.{HasLearned, IsNote, hears_cpu, keeper_after_hear, Finishes, GlancesBelow, GlancesOnce, HasPerformed, HasSeenAllOut, Hold, Looking, SnapshotsBelow, SomeBegan, SomeGlanced, SomePassed, TurnsWaiting, is_seen, none_seen, word_of, HaveAllEnded}
use Rattle.name_registry.proofs.Noted.{learned, by_meeting, by_meeting_again}
use Rattle.name_registry.proofs.Passed.{IsReady, Passing, onward_below, passed_end, ready}
use Rattle.passive_list.proofs.Rows.{goes_on, no_more}

-- What is in a log

-- the word of c was found out of the section of the word `old`
abbrev IsFound : ℕ → ℕ → List LogItem → Type 0
IsFound c old log = (new : ℕ) × StandsIn (has_found c new) log × (is_out old new ≡ true)

found_more : (c old : ℕ) (log more : List LogItem) → IsFound c old log → IsFound c old (log ++ more)
found_more c old log more is = (is.0, stands_more (has_found c is.0) log more is.1, is.2)

found_past : (c old : ℕ) (first log : List LogItem) → IsFound c old log → IsFound c old (first ++ log)
found_past c old first log is = (is.0, stands_past (has_found c is.0) first log is.1, is.2)

seen_more : (c : ℕ) (log more : List LogItem) → IsSeenOut c log → IsSeenOut c (log ++ more)
seen_more c log more is =
    let are = ap (λ (l : List LogItem). l ++ more) is.are ∙ (append_assoc is.before (has_taken c is.old ∷ (is.between ++ has_found c is.new ∷ is.after)) more
    ∙ ap (λ (l : List LogItem). is.before ++ has_taken c is.old ∷ l) (append_assoc is.between (has_found c is.new ∷ is.after) more)) in
    search (are, is.moved)

-- what the code compares says that the word moved
moved : (old new : ℕ) → is_out old new ≡ true → HasMoved old new
moved old new is = ⊎_elim
    (λ (even : is_even new ≡ true). inl (eqb-true _ 0 even))
    (λ (other : not (old == new) ≡ true). inr (λ same. eqb-false old new (not-true (old == new) other) (sym same)))
    (or_cases (is_even new) (not (old == new)) is)

seen_out : (c w : ℕ) (first second : List LogItem) → StandsIn (has_taken c w) first → IsFound c w second → IsSeenOut c (first ++ second)
seen_out c w first second taken is =
    let found = is.1 in record {
      old = w;
      new = is.0;
      before = taken.before;
      between = taken.after ++ found.before;
      after = found.after;
      are = (λ k. taken.are k ++ found.are k) ∙ (append_assoc taken.before (has_taken c w ∷ taken.after) (found.before ++ has_found c is.0 ∷ found.after)
          ∙ ap (λ (l : List LogItem). taken.before ++ has_taken c w ∷ l) (sym (append_assoc taken.after found.before (has_found c is.0 ∷ found.after))));
      moved = moved w is.0 is.2;
    }

-- What looks add to the log

record Snapped (words : List ℕ) (n : ℕ) (k l : Looking) : Type 0 where
  more : List LogItem
  are : l.log ≡ k.log ++ more
  taken : (c : ℕ) → c < n → StandsIn (has_taken c (word_of words c)) more

snapped : (words : List ℕ) (n : ℕ) (k l : Looking) → SnapshotsBelow words n k l → Snapped words n k l
snapped words zero k l is = record { more = []; are = ap (λ (x : Looking). x.log) is ∙ sym (append-nil k.log); taken = λ c lt. absurd (omega (arith, lt)) }
snapped words (suc n) k l is =
    let p = snapped words n k is.0 is.1 in
    let d : List LogItem = has_taken n (word_of words n) ∷ [] in record {
      more = p.more ++ d;
      are = ap (λ (x : Looking). x.log) is.2.change ∙ (ap (λ (x : List LogItem). x ++ d) p.are ∙ append_assoc k.log p.more d);
      taken = λ c lt. ⊎_elim
          (λ (below : c < n). stands_more _ p.more d (p.taken c below))
          (λ (le : n ≤ c). subst (λ (m : ℕ). StandsIn (has_taken m (word_of words m)) (p.more ++ d)) (omega (arith, lt, le)) (stands_past _ p.more d (record { before = []; after = []; are = refl })))
          (cases_lt c n);
    }

record Glanced (words : List ℕ) (seen after : List Bool) (n : ℕ) (k l : Looking) : Type 0 where
  more : List LogItem
  are : l.log ≡ k.log ++ more
  found : (c : ℕ) → c < n → is_seen after c ≡ true → (is_seen seen c ≡ true) ⊎ IsFound c (word_of words c) more

once : (old c : ℕ) (before after : Bool) (m l : Looking) → GlancesOnce old c before m after l → (d : List LogItem) × (l.log ≡ m.log ++ d) × (after ≡ true → (before ≡ true) ⊎ IsFound c old d)
once old c true after m l is = ([], ap (λ (x : Looking). x.log) is.1 ∙ sym (append-nil m.log), λ t. inl refl)
once old c false after m l is = (has_found c is.0 ∷ [], ap (λ (x : Looking). x.log) is.1.change, λ t. inr (is.0, record { before = []; after = []; are = refl }, sym is.2 ∙ t))

glanced : (words : List ℕ) (seen after : List Bool) (n : ℕ) (k l : Looking) → GlancesBelow words seen after n k l → Glanced words seen after n k l
glanced words seen after zero k l is = record { more = []; are = ap (λ (x : Looking). x.log) is ∙ sym (append-nil k.log); found = λ c lt t. absurd (omega (arith, lt)) }
glanced words seen after (suc n) k l is =
    let p = glanced words seen after n k is.0 is.1 in
    let o = once (word_of words n) n (is_seen seen n) (is_seen after n) is.0 l is.2 in record {
      more = p.more ++ o.0;
      are = o.1 ∙ (ap (λ (x : List LogItem). x ++ o.0) p.are ∙ append_assoc k.log p.more o.0);
      found = λ c lt t. ⊎_elim
          (λ (below : c < n). ⊎_elim (λ (was : is_seen seen c ≡ true). inl was) (λ (now : IsFound c (word_of words c) p.more). inr (found_more c (word_of words c) p.more o.0 now)) (p.found c below t))
          (λ (le : n ≤ c).
          let same : n ≡ c = omega (arith, lt, le) in
          subst (λ (m : ℕ). is_seen after m ≡ true → (is_seen seen m ≡ true) ⊎ IsFound m (word_of words m) (p.more ++ o.0)) same
          (λ u. ⊎_elim (λ (was : is_seen seen n ≡ true). inl was) (λ (now : IsFound n (word_of words n) o.0). inr (found_past n (word_of words n) p.more o.0 now)) (o.2 u)) t)
          (cases_lt c n);
    }

-- From hold to hold

-- so far: the keeper had done `before` as it heard the caller, and what was detached by then had passed or was retired, with these numbers; since then it took the words of all CPUs, and saw out of
-- their sections those that are seen
pub record IsSoFar (cpus : ℕ) (x : OnCpu) (words : List ℕ) (numbers : List ℕ) (seen : List Bool) (m : OnCpu) (before since : List LogItem) : Type 0 where
  pub are : m.known_log ≡ before ++ since
  pub heard : HasHeardFrom None (as_teller x) before
  pub known : IsPrefix x.known_log before
  pub pass : length x.view.pass ≤ changes_in before
  pub ready : (t n : ℕ) → IsDetachedFrom t n before → IsReady cpus numbers before t n
  pub taken : (c : ℕ) → c < cpus → StandsIn (has_taken c (word_of words c)) since
  pub out : (c : ℕ) → c < cpus → is_seen seen c ≡ true → IsSeenOut c since

abbrev pub SoFar : ℕ → OnCpu → List ℕ → List ℕ → List Bool → OnCpu → Type 0
SoFar cpus x words numbers seen m = (before : List LogItem) × (since : List LogItem) × IsSoFar cpus x words numbers seen m before since

-- it stays so of whoever knows more
pub so_far_on : (cpus : ℕ) (x : OnCpu) (words : List ℕ) (numbers : List ℕ) (seen : List Bool) (m y : OnCpu) → IsPrefix m.known_log y.known_log → SoFar cpus x words numbers seen m
    → SoFar cpus x words numbers seen y
so_far_on cpus x words numbers seen m y more had = (
  had.0,
  had.1 ++ more.0,
  assumption (
    sym more.1 ∙ (ap (λ (l : List LogItem). l ++ more.0) had.2.are ∙ append_assoc had.0 had.1 more.0),
    λ (c : ℕ) (lt : c < cpus). stands_more _ had.1 more.0 (had.2.taken c lt),
    λ (c : ℕ) (lt : c < cpus) (now : is_seen seen c ≡ true). seen_more c had.1 more.0 (had.2.out c lt now),
  ),
)

-- a hold's end: the log of the keeper as it had heard the CPU, and what came to be known beyond it
record After (log more : List LogItem) (y : OnCpu) : Type 0 where
  tail : List LogItem
  are : y.known_log ≡ log ++ (more ++ tail)

after_hold : (looks : Looking → Looking → Type 0) (a : OnKeeper) (x : OnCpu) (b : OnKeeper) (y : OnCpu) (hold : Hold looks a x b y) (more : List LogItem)
    → hold.end.log ≡ (a.log ++ hears_cpu x) ++ more → After (a.log ++ hears_cpu x) more y
after_hold looks a x b y hold more are =
    let t : List LogItem = did (Tell None) Done ++ hold.told.0 in record {
      tail = t;
      are = sym hold.told.1 ∙ (ap (λ (l : List LogItem). l ++ hold.told.0) hold.log ∙ (append_assoc hold.end.log (did (Tell None) Done) hold.told.0
          ∙ (ap (λ (l : List LogItem). l ++ t) are ∙ append_assoc (a.log ++ hears_cpu x) more t)));
    }

-- a note that the keeper hears makes no change, and no entry another
heard_changes : (log : List LogItem) (h : Option Teller) → changes_in (log ++ heard_from None h) ≡ changes_in log
heard_changes log h = changes_last log (has_heard_from None h)

heard_ready : (cpus : ℕ) (numbers : List ℕ) (log : List LogItem) (h : Option Teller) → ((t n : ℕ) → IsDetachedFrom t n log → IsReady cpus numbers log t n) → (t n : ℕ)
    → IsDetachedFrom t n (log ++ heard_from None h) → IsReady cpus numbers (log ++ heard_from None h) t n
heard_ready cpus numbers log h are t n gone = ⊎_elim
    (λ (passed : (c : ℕ) → c < cpus → HasPassedOn t c log). inl (λ c lt. passed_on t c log (heard_from None h) (refl, tt) (passed c lt)))
    (λ (retired : (word_of numbers t ≡ n) × ((j : ℕ) → j < cpus → (w : ℕ) × IsSnapped t j w log)). inr
    (retired.0, λ j lt. let w = retired.1 j lt in (w.0, snapped_on t j w.0 log (heard_from None h) (refl, tt) w.1)))
    (are t n (sym (standing_last t log (has_heard_from None h)) ∙ gone))

none_is_seen : (c : ℕ) → is_seen none_seen c ≡ true → ⊥
none_is_seen c is = false≢true (sym (get_or_all {X = Bool} MOST_CPUS false c) ∙ is)

pub so_far_begun : (z : Settings) (x : OnCpu) (words : List ℕ) (numbers : List ℕ) (y : OnCpu) → SomeBegan z x words numbers y → SoFar z.cpus x words numbers none_seen y
so_far_begun z x words numbers y is =
    let hold = is.2.hold in
    let p = snapped words z.cpus _ hold.end hold.made in
    let q = after_hold _ is.0 x is.1 y hold p.more p.are in
    let log = is.0.log in (
      log ++ hears_cpu x,
      p.more ++ q.tail,
      record {
        are = q.are;
        heard = record { before = log; after = []; are = refl };
        known = prefix_both x.known_log log (log ++ hears_cpu x) hold.known (hears_cpu x, refl);
        pass = let n = hold.seen in omega (arith, n, heard_changes log (Some (as_teller x)));
        ready = heard_ready z.cpus numbers log (Some (as_teller x)) (ready z is.0 numbers is.2.own is.2.numbers);
        taken = λ c lt. stands_more _ p.more q.tail (p.taken c lt);
        out = λ c lt seen. absurd (none_is_seen c seen);
      },
    )

pub so_far_turn : (z : Settings) (x : OnCpu) (words : List ℕ) (numbers : List ℕ) (seen : List Bool) (m : OnCpu) (told : Option ℕ) (after : List Bool) (y : OnCpu)
    → SoFar z.cpus x words numbers seen m → SomeGlanced z words m seen told after y → SoFar z.cpus x words numbers after y
so_far_turn z x words numbers seen m told after y had is =
    let hold = is.2.hold in
    let p = glanced words seen after z.cpus _ hold.end hold.made in
    let q = after_hold _ is.0 m is.1 y hold p.more p.are in
    let h : List LogItem = hears_cpu m in
    let rest : List LogItem = h ++ (p.more ++ q.tail) in
    let gap = hold.known.0 in
    let new : List LogItem = gap ++ rest in
    let are : y.known_log ≡ had.0 ++ (had.1 ++ new) =
    q.are ∙ (append_assoc is.0.log h (p.more ++ q.tail) ∙ ap (λ (l : List LogItem). l ++ rest) (sym hold.known.1 ∙ ap (λ (l : List LogItem). l ++ gap) had.2.are)
    ∙ (append_assoc (had.0 ++ had.1) gap rest ∙ append_assoc had.0 had.1 new)) in
    let out : (c : ℕ) → c < z.cpus → is_seen after c ≡ true → IsSeenOut c (had.1 ++ new) = λ c lt now. ⊎_elim
    (λ (was : is_seen seen c ≡ true). seen_more c had.1 new (had.2.out c lt was))
    (λ (found : IsFound c (word_of words c) p.more). seen_out c (word_of words c) had.1 new (had.2.taken c lt)
    (found_past c (word_of words c) gap rest (found_past c (word_of words c) h (p.more ++ q.tail) (found_more c (word_of words c) p.more q.tail found))))
    (p.found c lt now) in
    (had.0, had.1 ++ new, assumption (are, λ (c : ℕ) (lt : c < z.cpus). stands_more _ had.1 new (had.2.taken c lt), out))

so_far_turns : (z : Settings) (x : OnCpu) (words : List ℕ) (numbers : List ℕ) (n : ℕ) (m : OnCpu) (seen : List Bool) (y : OnCpu) (after : List Bool) → SoFar z.cpus x words numbers seen m
    → TurnsWaiting (SomeGlanced z words) n m seen y after → SoFar z.cpus x words numbers after y
so_far_turns z x words numbers zero m seen y after had is = subst (λ (p : OnCpu × List Bool). SoFar z.cpus x words numbers p.1 p.0) (λ k. (sym is.0 k, sym is.1 k)) had
so_far_turns z x words numbers (suc n) m seen y after had is = so_far_turn z x words numbers is.1 is.0 (Some is.2) after y (so_far_turns z x words numbers n m seen is.0 is.1 had is.3) is.4

-- where no CPU was told, all were seen out
pub all_seen : (z : Settings) (x : OnCpu) (words : List ℕ) (numbers : List ℕ) (m : OnCpu) (seen : List Bool) (told : Option ℕ) (after : List Bool) (y : OnCpu)
    → (had : SoFar z.cpus x words numbers after y) → SomeGlanced z words m seen told after y → told ≡ None → HasWaited had.1 z.cpus
all_seen z x words numbers m seen told after y had is none = λ c lt. had.2.out c lt (not-false (is_seen after c) (least_none (λ d. not (is_seen after d)) z.cpus (sym is.2.least ∙ none) c lt))

-- The end

kept_both : (t : ℕ) (a b : List LogItem) → KeepsSlot t a → KeepsSlot t b → KeepsSlot t (a ++ b)
kept_both t [] b first second = second
kept_both t (d ∷ ds) b first second = (first.0, kept_both t ds b first.1 second)

waited_on : (since more : List LogItem) (cpus : ℕ) → HasWaited since cpus → HasWaited (since ++ more) cpus
waited_on since more cpus waited c lt = seen_more c since more (waited c lt)

-- once all were seen out, the passes are made, and the CPU is told what the keeper did
pub passed_out : (z : Settings) (x : OnCpu) (words : List ℕ) (numbers : List ℕ) (seen : List Bool) (m : OnCpu) (y : OnCpu) → (had : SoFar z.cpus x words numbers seen m)
    → HasWaited had.1 z.cpus → SomePassed z m numbers y → HasSeenAllOut z.cpus x y
passed_out z x words numbers seen m y had waited is =
    let does = is.2 in
    let before = had.0 in
    let since = had.1 in
    let hear : List LogItem = hears_cpu m in
    let again : List LogItem = hears_cpu (cpu_after_tell m) in
    let tell : List LogItem = did (Tell None) Done in
    let h = keeper_after_hear is.0 m in
    let gap : List LogItem = does.known.0 ++ hear in
    let log : h.log ≡ (before ++ since) ++ gap =
    ap (λ (l : List LogItem). l ++ hear) (sym does.known.1 ∙ ap (λ (l : List LogItem). l ++ does.known.0) had.2.are) ∙ append_assoc (before ++ since) does.known.0 hear in
    let on = onward_below z numbers MOST_SLOTS h does.end does.passes in
    let looks : List LogItem = gap ++ on.log.0 in
    let whole : does.end.log ≡ before ++ (since ++ looks) =
    sym on.log.1 ∙ (ap (λ (l : List LogItem). l ++ on.log.0) log ∙ (append_assoc (before ++ since) gap on.log.0 ∙ append_assoc before since looks)) in
    let tail : List LogItem = again ++ (tell ++ does.told.0) in
    let to_tail : y.known_log ≡ does.end.log ++ tail =
    sym does.told.1 ∙ (ap (λ (k : OnKeeper). k.log ++ does.told.0) does.is ∙ (append_assoc (does.end.log ++ again) tell does.told.0 ∙ append_assoc does.end.log again (tell ++ does.told.0))) in
    let all : List LogItem = since ++ (looks ++ tail) in
    let are : y.known_log ≡ before ++ all =
    to_tail ∙ (ap (λ (l : List LogItem). l ++ tail) whole ∙ (append_assoc before (since ++ looks) tail ∙ ap (λ (l : List LogItem). before ++ l) (append_assoc since looks tail))) in
    let passing : Passing z numbers h does.end before since gap = record { passes = does.passes; own = does.own; log = log; waited = waited } in
    record {
      before = before;
      since = all;
      are = are;
      heard = had.2.heard;
      known = had.2.known;
      seen = had.2.pass;
      waited = waited_on since (looks ++ tail) z.cpus waited;
      passed = λ t n c low gone keeps. ⊎_elim
          (λ (then : (j : ℕ) → j < z.cpus → HasPassedOn t j before). subst (HasPassedOn t c) (sym are) (passed_on t c before all (kept_entry t all keeps) (then c low)))
          (λ (retired : (word_of numbers t ≡ n) × ((j : ℕ) → j < z.cpus → (w : ℕ) × IsSnapped t j w before)).
          let first = kept_parts t since (looks ++ tail) keeps in
          let second = kept_parts t looks tail first.1 in
          subst (HasPassedOn t c) (sym to_tail) (passed_on t c does.end.log tail (kept_entry t tail second.1)
          (passed_end z numbers h does.end before since gap (since ++ looks) t n c passing low gone retired.0 retired.1 whole (kept_both t since looks first.0 second.0))))
          (had.2.ready t n gone);
    }

-- the answer Ok
waited_none : (z : Settings) (turns : ℕ) (x : OnCpu) (told : Option ℕ) (y : OnCpu) → told ≡ None → HasPerformed z turns x told y → HasSeenAllOut z.cpus x y
waited_none z turns x told y none is =
    let last = is.waits.last in
    let near = so_far_turns z x is.snapshots is.numbers is.waits.earlier is.begun none_seen last.0 last.1 (so_far_begun z x is.snapshots is.numbers is.begun is.first) last.2 in
    let end = so_far_turn z x is.snapshots is.numbers last.1 last.0 told is.waits.after is.waited near last.3 in
    passed_out z x is.snapshots is.numbers is.waits.after is.waited y end (all_seen z x is.snapshots is.numbers last.0 last.1 told is.waits.after is.waited end last.3 none)
    (subst (λ (o : Option ℕ). Finishes (SomePassed z) is.numbers is.waited o y) none is.end)

pub waited_ok : (z : Settings) (turns : ℕ) (x : OnCpu) (told : Option ℕ) (y : OnCpu) (result : Result (Unit {0}) Refusal) → result ≡ wait_answer told → HasPerformed z turns x told y
    → IfOk result (λ _. HasSeenAllOut z.cpus x y)
waited_ok z turns x None y result is made = subst (λ (r : Result (Unit {0}) Refusal). IfOk r (λ _. HasSeenAllOut z.cpus x y)) (sym is) (waited_none z turns x None y refl made)
waited_ok z turns x (Some c) y result is made = subst (λ (r : Result (Unit {0}) Refusal). IfOk r (λ _. HasSeenAllOut z.cpus x y)) (sym is) tt

-- What else changed of the CPU

-- it learned, and none of its calls made a change
abbrev pub Learns : OnCpu → OnCpu → Type 0
Learns x y = HasLearned x y × (y.made ≡ x.made)

pub learns_none : (x : OnCpu) → Learns x x
learns_none x = (record { pass = ([], append-nil x.view.pass); known_log = ([], append-nil x.known_log); is = refl; log = no_more (IsNote x.view.id) x.log x.log refl }, refl)

pub learns_more : (x m y : OnCpu) → Learns x m → Learns m y → Learns x y
learns_more x m y first second = (
  record {
    pass = prefix_both _ _ _ first.0.pass second.0.pass;
    known_log = prefix_both _ _ _ first.0.known_log second.0.known_log;
    is = second.0.is ∙ ap (λ (o : OnCpu). record o { view = record o.view { pass = y.view.pass; noted_pass = y.view.noted_pass }; made = y.made; known_log = y.known_log; log = y.log }) first.0.is;
    log = goes_on (IsNote x.view.id) x.log m.log y.log first.0.log (subst (λ (c : ℕ). GoesOnBy (IsNote c) m.log y.log) (ap (λ (o : OnCpu). o.view.id) first.0.is) second.0.log);
  },
  second.1 ∙ first.1,
)

learns_hold : (looks : Looking → Looking → Type 0) (a : OnKeeper) (x : OnCpu) (b : OnKeeper) (y : OnCpu) → Hold looks a x b y → Learns x y
learns_hold looks a x b y hold = (learned b.view.history x y hold.hears (by_meeting x y hold.cpu_log), ap (λ (o : OnCpu). o.made) hold.hears.is)

learns_turns : (z : Settings) (words : List ℕ) (n : ℕ) (x : OnCpu) (seen : List Bool) (y : OnCpu) (after : List Bool) → TurnsWaiting (SomeGlanced z words) n x seen y after → Learns x y
learns_turns z words zero x seen y after is = subst (λ (o : OnCpu). Learns x o) (sym is.0) (learns_none x)
learns_turns z words (suc n) x seen y after is = learns_more x is.0 y (learns_turns z words n x seen is.0 is.1 is.3) (learns_hold _ is.4.0 is.0 is.4.1 y is.4.2.hold)

learns_end : (z : Settings) (numbers : List ℕ) (x : OnCpu) (told : Option ℕ) (y : OnCpu) → Finishes (SomePassed z) numbers x told y → Learns x y
learns_end z numbers x None y is = (learned is.1.view.history x y is.2.hears (by_meeting_again x y is.2.cpu_log), ap (λ (o : OnCpu). o.made) is.2.hears.is)
learns_end z numbers x (Some c) y is = subst (λ (o : OnCpu). Learns x o) (sym is) (learns_none x)

pub learns_performed : (z : Settings) (turns : ℕ) (x : OnCpu) (told : Option ℕ) (y : OnCpu) → HasPerformed z turns x told y → Learns x y
learns_performed z turns x told y is =
    let last = is.waits.last in
    learns_more x is.begun y (learns_hold _ is.first.0 x is.first.1 is.begun is.first.2.hold)
    (learns_more is.begun last.0 y (learns_turns z is.snapshots is.waits.earlier is.begun none_seen last.0 last.1 last.2)
    (learns_more last.0 is.waited y (learns_hold _ last.3.0 last.0 last.3.1 is.waited last.3.2.hold) (learns_end z is.numbers is.waited told y is.end)))

-- The promise itself

pub all_ended : (z : Settings) (x y : OnCpu) → HasSeenAllOut z.cpus x y → HaveAllEnded z x y
all_ended z x y seen s t i j k m r l v log is id at more = (
  seen.before,
  seen.known,
  ends_open_sections z s t i j k m r l (as_teller x) seen.before (seen.since ++ more.0)
      (record { cpu = v; is = is; teller = sym id; since = let same = ap (λ (d : List LogItem). length d) log in omega (arith, same) })
      at (sym more.1 ∙ (ap (λ (d : List LogItem). d ++ more.0) seen.are ∙ append_assoc seen.before seen.since more.0)) seen.heard (λ c lt. seen_more c seen.since more.0 (seen.waited c lt)),
)

pub promised : (z : Settings) (x y : OnCpu) (result : Result (Unit {0}) Refusal) → IfOk result (λ _. HasSeenAllOut z.cpus x y) → IfOk result (λ _. HaveAllEnded z x y)
promised z x y (Ok u) is = all_ended z x y is
promised z x y (Err f) is = tt
