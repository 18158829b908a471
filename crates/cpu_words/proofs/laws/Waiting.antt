-- Waiting: where the keeper took the section word of each CPU, and later found each even or another one, each section that was open before has ended.
use Rattle.std.proofs.Common.{None, ◌≡◌, ◌⊎◌, inl, inr, ⊎_elim, ℕ, ◌+◌, ◌-◌, ◌%◌, ◌<◌, ◌≤◌, IsTrue, List, [], ◌∷◌, ◌++◌, length, take, drop, Some, refl, sym, ap, ◌∙◌, subst, length-append, append_assoc, arith}
use Rattle.std.proofs.Math.Nat.{lt_of_not-le}
use Rattle.std.proofs.lemmas.List.{append_cancel_left, append_cancel_right, take_at, take-append-drop, take-append-le, length-take-le}
use Rattle.std.proofs.lemmas.Option.{none-some}
use Rattle.std.proofs.Math.Seq.{take-append-add}
use mathlib.Core.Option.{some}
use lib.ListN.{get_elem?}
use Rattle.atomic_table.specs.Table.{State as Table}
use Rattle.cpu_words.specs.Types.{Settings, Event, Exit}
use Rattle.registry_values.specs.Common.{are_fit}
use Rattle.protocol.specs.Common.{State, opening, section_at, begin_at, Holds, after, after_event, IsAllowed, HasExit, HasMoved}
use Rattle.protocol.proofs.keeps.Keeping.{opening_holds}
use Rattle.protocol.proofs.runs.Headline.{ends_by_exit, Same}
use Rattle.cpu_words.specs.Common.{LogItem, Logged, Teller, Cpu, changes_in, has_taken, has_found, has_heard_from, HasHeardFrom, IsSeenOut, HasWaited, part, AreByOwn, RunsAsLogged, HasEndedOn, HasEndedSince, HadHeard, IsBeforeTelling, HaveEnded, WaitingEnds}
use Rattle.cpu_words.proofs.shown.Seeing.{seen_of}
use Rattle.cpu_words.proofs.laws.Safety.{running_headline}
use Rattle.cpu_words.proofs.logs.Loads.{counted, run_as_logged, Late, late_on, run_since, Placed, place, part_same, halve, starts_taken, starts_found}
use Rattle.cpu_words.proofs.logs.Runs.{Follows, after_append, follows_after, follows_holds, cut, part_append}
use Rattle.cpu_words.proofs.logs.Slots.{changes_both}

-- Waiting for one CPU

exit_on : (s : State) (c : ℕ) (es more : List Event) → HasExit s c es → HasExit s c (es ++ more)
exit_on s c [] more has = absurd has
exit_on s c (e ∷ es) more has = ⊎_elim
    (λ (here : (e ≡ Exit c) × IsAllowed s e). inl here)
    (λ (later : HasExit (after_event s e) c es). inr (exit_on (after_event s e) c es more later))
    has

-- its section that was open in s has ended, and one that is open in t began since; so it is from where its word was taken, too
record WaitedFor (c : ℕ) (s : State) (acts : List (ℕ × LogItem)) (es : List Event) (t : State) (looks : List LogItem) : Type 0 where
  exits : (b : ℕ) → begin_at s c ≡ Some b → HasExit s c es
  begun : Late (length s.history) c t
  seen : IsSeenOut c looks
  earlier : List Event
  later : List Event
  between : State
  are : es ≡ earlier ++ later
  until : between ≡ after s earlier
  did : part 0 (take (length earlier) acts) ≡ seen.before
  taken : section_at between c ≡ seen.old
  own : (b : ℕ) → begin_at between c ≡ Some b → HasExit between c later
  late : Late (length between.history) c t

-- what a seat had done before an item of its own among the acts
pub part_placed : (i : ℕ) (acts : List (ℕ × LogItem)) (a b : List LogItem) (d : LogItem) → part i acts ≡ a ++ d ∷ b → (p : Placed i acts d b) → part i p.first ≡ a
part_placed i acts a b d is p = append_cancel_right (part i p.first) a (d ∷ b)
    (sym (part_append i p.first ((i, d) ∷ p.second) ∙ ap (λ (l : List LogItem). part i p.first ++ l) (part_same i (i, d) p.second refl ∙ ap (λ (l : List LogItem). d ∷ l) p.rest))
    ∙ (ap (part i) (sym p.are) ∙ is))

moved_late : (c old new : ℕ) (s m : State) → Holds m → section_at s c ≡ old → section_at m c ≡ new → HasMoved old new → Same c s m ⊎ Late (length s.history) c m → Late (length s.history) c m
moved_late c old new s m on first second moved since b is = ⊎_elim
    (λ (same : Same c s m).
    let odd = (on.sections.inside c b is).0 in
    absurd (⊎_elim
    (λ (even : new % 2 ≡ 0). omega (arith, even, odd, second))
    (λ (off : new ≡ old → ⊥). off (sym second ∙ (same.0 ∙ first)))
    moved))
    (λ (late : Late (length s.history) c m). late b is)
    since

moved_from : (a old new b : ℕ) → a ≤ old → old ≤ new → b ≡ new → HasMoved old new → HasMoved a b
moved_from a old new b le up is moved = ⊎_elim
    (λ (even : new % 2 ≡ 0). inl (ap (λ (n : ℕ). n % 2) is ∙ even))
    (λ (off : new ≡ old → ⊥). inr (λ (same : b ≡ a). off (omega (arith, le, up, is, same))))
    moved

waited_for : (c : ℕ) (s : State) (acts : List (ℕ × LogItem)) (es : List Event) (t : State) (since rest : List LogItem) → Follows s acts es t → Holds s → part 0 acts ≡ since ++ rest → IsSeenOut c since
    → WaitedFor c s acts es t since
waited_for c s acts es t since rest run on mine seen =
    let last : List LogItem = seen.after ++ rest in
    let flat : since ++ rest ≡ seen.before ++ has_taken c seen.old ∷ (seen.between ++ has_found c seen.new ∷ last) =
    ap (λ (l : List LogItem). l ++ rest) seen.are ∙ (append_assoc seen.before (has_taken c seen.old ∷ (seen.between ++ has_found c seen.new ∷ seen.after)) rest
    ∙ ap (λ (l : List LogItem). seen.before ++ has_taken c seen.old ∷ l) (append_assoc seen.between (has_found c seen.new ∷ seen.after) rest)) in
    let p = place 0 acts seen.before (seen.between ++ has_found c seen.new ∷ last) (has_taken c seen.old) (mine ∙ flat) in
    let q = place 0 p.second seen.between last (has_found c seen.new) p.rest in
    let middle : List (ℕ × LogItem) = (0, has_taken c seen.old) ∷ q.first in
    let end : List (ℕ × LogItem) = (0, has_found c seen.new) ∷ q.second in
    let are : acts ≡ (p.first ++ middle) ++ end = p.are ∙ (ap (λ (l : List (ℕ × LogItem)). p.first ++ (0, has_taken c seen.old) ∷ l) q.are ∙ sym (append_assoc p.first middle end)) in
    let k = cut s (p.first ++ middle) end es t (subst (λ (l : List (ℕ × LogItem)). Follows s l es t) are run) in
    let j = cut s p.first middle k.earlier k.between k.before in
    let m1 = j.between in
    let m2 = k.between in
    let on1 : Holds m1 = follows_holds s p.first j.earlier m1 j.before on in
    let on2 : Holds m2 = follows_holds s (p.first ++ middle) k.earlier m2 k.before on in
    let old : section_at m1 c ≡ seen.old = starts_taken m1 c seen.old q.first j.later m2 j.since in
    let new : section_at m2 c ≡ seen.new = starts_found m2 c seen.new q.second k.later t k.since in
    let a = run_since c s p.first j.earlier m1 j.before on in
    let b = run_since c m1 middle j.later m2 j.since on1 in
    let d = run_since c m2 end k.later t k.since on2 in
    let late1 : Late (length m1.history) c m2 = moved_late c seen.old seen.new m1 m2 on2 old new seen.moved b.0.1 in
    let late2 : Late (length s.history) c m2 = λ n is. let h = late1 n is in let le = a.1 in omega (arith, h, le) in
    let le : length s.history ≤ length m2.history = let x = a.1 in let y = b.1 in omega (arith, x, y) in
    let ends : section_at (after m1 j.later) c ≡ seen.new = ap (λ (g : State). section_at g c) (sym (follows_after m1 middle j.later m2 j.since)) ∙ new in
    record {
      seen = seen;
      earlier = j.earlier;
      later = j.later ++ k.later;
      between = m1;
      are = k.are ∙ (ap (λ (l : List Event). l ++ k.later) j.are ∙ append_assoc j.earlier j.later k.later);
      until = follows_after s p.first j.earlier m1 j.before;
      did = ap (part 0) (ap (take (length j.earlier)) (are ∙ append_assoc p.first middle end) ∙ take_at p.first (middle ++ end) (length j.earlier) (sym j.size))
          ∙ part_placed 0 acts seen.before (seen.between ++ has_found c seen.new ∷ last) (has_taken c seen.old) (mine ∙ flat) p;
      taken = old;
      own = λ n is. exit_on m1 c j.later k.later (ends_by_exit m1 on1 c n j.later is
          (moved_from (section_at m1 c) seen.old seen.new (section_at (after m1 j.later) c) (omega (arith, old)) (let x = b.0.0 in omega (arith, x, old, new)) ends seen.moved));
      late = late_on (length m1.history) c m2 t b.1 late1 d.0.1;
      exits = λ n is. subst (HasExit s c) (sym k.are) (exit_on s c k.earlier k.later (ends_by_exit s on c n k.earlier is
          (moved_from (section_at s c) seen.old seen.new (section_at (after s k.earlier) c) (let x = a.0.0 in omega (arith, x, old)) (let x = b.0.0 in omega (arith, x, old, new))
          (ap (λ (g : State). section_at g c) (sym (follows_after s (p.first ++ middle) k.earlier m2 k.before)) ∙ new) seen.moved)));
      begun = late_on (length s.history) c m2 t le late2 d.0.1;
    }

-- The law

pub own_first : (seat : ℕ → ℕ) (n : ℕ) (a b : List (ℕ × LogItem)) → AreByOwn seat n (a ++ b) → AreByOwn seat n a
own_first seat n [] b own = tt
own_first seat n (x ∷ rest) b own = (own.0, own_first seat n rest b own.1)

-- a CPU past the last has no section
within : (s : State) (c b : ℕ) (n : ℕ) → Holds s → s.settings.cpus ≡ n → begin_at s c ≡ Some b → c < n
within s c b n on same is = lt_of_not-le (λ (le : n ≤ c). none-some b (sym (on.seats.outside c (omega (arith, same, le, on.seats.within))) ∙ is))

-- of one CPU, over the whole run
ended_on : (z : Settings) (s : Table ℕ Logged) (r : RunsAsLogged z s) (before since rest : List LogItem) (first second : List (ℕ × LogItem)) → r.acts ≡ first ++ second → part 0 first ≡ before
    → (earlier later : List Event) (m : State) → r.run.events ≡ earlier ++ later → length earlier ≡ length first → m ≡ after (opening z) earlier
    → (c : ℕ) → WaitedFor c m second later (after (opening z) r.run.events) since → HasEndedOn z s r before since c
ended_on z s r before since rest first second acts mine earlier later m are size there c w =
    let start = opening z in
    let at : w.between ≡ after start (earlier ++ w.earlier) = w.until ∙ (ap (λ (q : State). after q w.earlier) there ∙ sym (after_append start earlier w.earlier)) in
    let cut_at : take (length (earlier ++ w.earlier)) r.acts ≡ first ++ take (length w.earlier) second =
    ap (λ (n : ℕ). take n r.acts) (length-append earlier w.earlier ∙ ap (λ (n : ℕ). n + length w.earlier) size)
    ∙ (ap (take (length first + length w.earlier)) acts ∙ take-append-add first second (length w.earlier)) in
    record {
      seen = w.seen;
      earlier = earlier ++ w.earlier;
      later = w.later;
      are = are ∙ (ap (λ (l : List Event). earlier ++ l) w.are ∙ sym (append_assoc earlier w.earlier w.later));
      did = ap (part 0) cut_at ∙ (part_append 0 first (take (length w.earlier) second) ∙ (λ k. mine k ++ w.did k));
      taken = ap (λ (q : State). section_at q c) (sym at) ∙ w.taken;
      exits = λ b is. subst (λ (q : State). HasExit q c w.later) at (w.own b (ap (λ (q : State). begin_at q c) at ∙ is));
      begun = λ b is. subst (λ (q : State). length q.history ≤ b) at (w.late b is);
    }

-- The moment of the cut: so many acts were made, and the seats' parts of these

pub record CutAt (z : Settings) (acts acts_then : List (ℕ × LogItem)) (first rest : List Event) (t : State) : Type 0 where
  -- the acts since, up to `acts_then`
  pub since : List (ℕ × LogItem)
  pub later : List (ℕ × LogItem)
  pub before : List (ℕ × LogItem)
  pub are : acts_then ≡ before ++ since
  pub all : acts ≡ before ++ (since ++ later)
  pub run : Follows (after (opening z) first) (since ++ later) rest t
  pub on : Holds (after (opening z) first)
  pub changes : length (after (opening z) first).history ≤ changes_in (part 0 acts_then)

-- fewer events were made than acts at `acts_then`
pub cut_at : (z : Settings) (seat : ℕ → ℕ) (n : ℕ) (acts acts_then later : List (ℕ × LogItem)) (events first rest : List Event) (t : State) → IsTrue (are_fit z) → AreByOwn seat n acts
    → Follows (opening z) acts events t
    → acts ≡ acts_then ++ later → events ≡ first ++ rest → length first ≤ length acts_then → CutAt z acts acts_then first rest t
cut_at z seat n acts acts_then later events first rest t fit owners run are cut_is le =
    let m = length first in
    let a = take m acts_then in
    let b = drop m acts_then in
    let both : acts_then ≡ a ++ b = sym (take-append-drop m acts_then) in
    let all : acts ≡ a ++ (b ++ later) = are ∙ (ap (λ (l : List (ℕ × LogItem)). l ++ later) both ∙ append_assoc a b later) in
    let k = cut (opening z) a (b ++ later) events t (subst (λ (l : List (ℕ × LogItem)). Follows (opening z) l events t) all run) in
    let same : first ≡ k.earlier = sym (take_at first rest m refl) ∙ (ap (take m) (sym cut_is ∙ k.are) ∙ take_at k.earlier k.later m (k.size ∙ length-take-le m acts_then le)) in
    let end : rest ≡ k.later = append_cancel_left first rest k.later (sym cut_is ∙ (k.are ∙ ap (λ (l : List Event). l ++ k.later) (sym same))) in
    let there : k.between ≡ after (opening z) first = follows_after (opening z) a k.earlier k.between k.before ∙ ap (after (opening z)) (sym same) in
    let own = own_first seat n a (b ++ later) (subst (AreByOwn seat n) all owners) in
    let long : length k.between.history ≡ changes_in (part 0 a) + 0 = counted seat n (opening z) a k.earlier k.between k.before (opening_holds z fit) own in
    let more : changes_in (part 0 acts_then) ≡ changes_in (part 0 a) + changes_in (part 0 b) =
    ap (λ (l : List (ℕ × LogItem)). changes_in (part 0 l)) both ∙ (ap changes_in (part_append 0 a b) ∙ changes_both (part 0 a) (part 0 b)) in
    record {
      since = b;
      later = later;
      before = a;
      are = both;
      all = all;
      run = subst (λ (s : State). Follows s (b ++ later) rest t) there (subst (λ (es : List Event). Follows k.between (b ++ later) es t) (sym end) k.since);
      on = subst Holds there (follows_holds (opening z) a k.earlier k.between k.before (opening_holds z fit));
      changes = let same_length : length k.between.history ≡ length (after (opening z) first).history = ap (λ (s : State). length s.history) there in omega (arith, long, more, same_length);
    }

-- a wait that was seen later is one that began earlier, too
seen_past : (c : ℕ) (first looks : List LogItem) → IsSeenOut c looks → IsSeenOut c (first ++ looks)
seen_past c first looks seen = record {
  old = seen.old;
  new = seen.new;
  before = first ++ seen.before;
  between = seen.between;
  after = seen.after;
  are = ap (λ (l : List LogItem). first ++ l) seen.are ∙ sym (append_assoc first seen.before (has_taken c seen.old ∷ (seen.between ++ has_found c seen.new ∷ seen.after)));
  moved = seen.moved;
}

-- A moment at which a CPU had made fewer events is before one at which it had made these.
pub fewer_acts : (i n m : ℕ) (acts acts_then later : List (ℕ × LogItem)) → acts ≡ acts_then ++ later → n ≤ length (part i acts_then) → length (part i (take m acts)) < n → m < length acts_then
fewer_acts i n m acts acts_then later are come few = lt_of_not-le (λ (le : length acts_then ≤ m).
    let j = m - length acts_then in
    let at : take m acts ≡ acts_then ++ take j later =
    ap (λ (n : ℕ). take n acts) (let q : m ≡ length acts_then + j = omega (arith, le) in q) ∙ (ap (take (length acts_then + j)) are ∙ take-append-add acts_then later j) in
    let size : length (part i (take m acts)) ≡ length (part i acts_then) + length (part i (take j later)) =
    ap (λ (l : List (ℕ × LogItem)). length (part i l)) at ∙ (ap (λ (l : List LogItem). length l) (part_append i acts_then (take j later)) ∙ length-append (part i acts_then) (part i (take j later))) in
    absurd (omega (arith, few, size, come)))

more_made : (i : ℕ) (first second : List (ℕ × LogItem)) → length (part i first) ≤ length (part i (first ++ second))
more_made i first second = let size = ap (λ (l : List LogItem). length l) (part_append i first second) ∙ length-append (part i first) (part i second) in omega (arith, size)

-- The CPU of h had made h's events when the keeper heard it: so a moment at which it had made fewer is before all that the keeper did since.
few_acts : (z : Settings) (s : Table ℕ Logged) (r : RunsAsLogged z s) (h : Teller) (log : List LogItem) (acts_then later : List (ℕ × LogItem)) (first : List Event)
    → r.acts ≡ acts_then ++ later → part 0 acts_then ≡ log → HasHeardFrom None h log → IsBeforeTelling r h first → length first ≤ length acts_then
few_acts z s r h log acts_then later first are mine heard few =
    let i = r.run.seat h.cpu in
    let item = has_heard_from None (Some h) in
    let p = place 0 acts_then heard.before heard.after item (mine ∙ heard.are) in
    let whole : r.acts ≡ p.first ++ (0, item) ∷ (p.second ++ later) = are ∙ (ap (λ (l : List (ℕ × LogItem)). l ++ later) p.are ∙ append_assoc p.first ((0, item) ∷ p.second) later) in
    let come : h.events ≤ length (part i p.first) = (r.told 0 item p.first (p.second ++ later) whole).before.events in
    let size : length (part i acts_then) ≡ length (part i (p.first ++ (0, item) ∷ p.second)) = ap (λ (l : List (ℕ × LogItem)). length (part i l)) p.are in
    omega (arith, fewer_acts i h.events (length first) r.acts acts_then later are (omega (arith, come, more_made i p.first ((0, item) ∷ p.second), size)) few)

-- A moment before a note was told is one before whoever heard it told on.
before_heard : (z : Settings) (s : Table ℕ Logged) (r : RunsAsLogged z s) (h k : Teller) (first : List Event) → HadHeard r h k → IsBeforeTelling r k first → IsBeforeTelling r h first
before_heard z s r h k first had few =
    let i = r.run.seat h.cpu in
    let item = has_heard_from (Some h.cpu) (Some k) in
    let n = length first in
    let flat : part i r.acts ≡ had.heard.before ++ item ∷ (had.heard.after ++ had.more) =
    had.own ∙ (ap (λ (l : List LogItem). l ++ had.more) had.heard.are ∙ append_assoc had.heard.before (item ∷ had.heard.after) had.more) in
    let p = place i r.acts had.heard.before (had.heard.after ++ had.more) item flat in
    let come : k.events ≤ length (part (r.run.seat k.cpu) p.first) = (r.told i item p.first p.second p.are).before.events in
    let le : n ≤ length p.first = omega (arith, fewer_acts (r.run.seat k.cpu) k.events n r.acts p.first ((i, item) ∷ p.second) p.are come few) in
    let at : take n r.acts ≡ take n p.first = ap (take n) p.are ∙ take-append-le n p.first ((i, item) ∷ p.second) le in
    let both : length (part i (take n p.first ++ drop n p.first)) ≡ length had.heard.before =
    ap (λ (l : List (ℕ × LogItem)). length (part i l)) (take-append-drop n p.first)
    ∙ ap (λ (l : List LogItem). length l) (part_placed i r.acts had.heard.before (had.heard.after ++ had.more) item flat p) in
    let size : length had.log ≡ length had.heard.before + length (item ∷ had.heard.after) =
    ap (λ (l : List LogItem). length l) had.heard.are ∙ length-append had.heard.before (item ∷ had.heard.after) in
    omega (arith, ap (λ (l : List (ℕ × LogItem)). length (part i l)) at, more_made i (take n p.first) (drop n p.first), both, size, had.few)

-- so each section that was open at that moment has ended
ended_since : (z : Settings) (s : Table ℕ Logged) (r : RunsAsLogged z s) (before since known : List LogItem) (acts_then later : List (ℕ × LogItem)) (h : Teller) (first rest : List Event)
    → IsTrue (are_fit z) → r.acts ≡ acts_then ++ later → part 0 acts_then ≡ before → part 0 later ≡ since ++ known → HasWaited since z.cpus → HasHeardFrom None h before → r.run.events ≡ first ++ rest
    → IsBeforeTelling r h first
    → HasEndedSince z first rest (changes_in before)
ended_since z s r before since known acts_then later h first rest fit are mine its waited heard cut_is few =
    let g = after (opening z) r.run.events in
    let k = cut_at z r.run.seat g.seated r.acts acts_then later r.run.events first rest g fit r.owners (run_as_logged z s r) are cut_is
    (few_acts z s r h before acts_then later first are mine heard few) in
    let looks : List LogItem = part 0 k.since ++ since in
    let later_is : k.later ≡ later =
    append_cancel_left (k.before ++ k.since) k.later later (append_assoc k.before k.since k.later ∙ (sym k.all ∙ (are ∙ ap (λ (l : List (ℕ × LogItem)). l ++ later) k.are))) in
    let own : part 0 (k.since ++ k.later) ≡ looks ++ known =
    part_append 0 k.since k.later ∙ (ap (λ (l : List (ℕ × LogItem)). part 0 k.since ++ part 0 l) later_is
    ∙ (ap (λ (l : List LogItem). part 0 k.since ++ l) its ∙ sym (append_assoc (part 0 k.since) since known))) in
    record {
      exits = λ c b lt is. (waited_for c (after (opening z) first) (k.since ++ k.later) rest g looks known k.run k.on own (seen_past c (part 0 k.since) since (waited c lt))).exits b is;
      changes = subst (λ (l : List LogItem). length (after (opening z) first).history ≤ changes_in l) mine k.changes;
    }

-- of any list that explains the table
pub told_ended : (z : Settings) (s : Table ℕ Logged) (i : ℕ) (l : Logged) (before since : List LogItem) (r : RunsAsLogged z s) → get_elem? s.views i ≡ some l → l.known_log ≡ before ++ since
    → HasWaited since z.cpus → (h : Teller) (first rest : List Event) → HasHeardFrom None h before → r.run.events ≡ first ++ rest → IsBeforeTelling r h first
    → HasEndedSince z first rest (changes_in before)
told_ended z s i l before since r at are waited h first rest heard cut_is few =
    let known = (r.known i l at).0 in
    let p = halve 0 r.acts before (since ++ known.0) (sym known.1 ∙ (ap (λ (d : List LogItem). d ++ known.0) are ∙ append_assoc before since known.0)) in
    let fit : IsTrue (are_fit z) = subst (λ (a : Settings). IsTrue (are_fit a)) r.run.settings r.run.good.holds.fit in
    ended_since z s r before since known.0 p.first p.second h first rest fit p.are p.mine p.rest waited heard cut_is few

have_ended : (z : Settings) (s : Table ℕ Logged) (i : ℕ) (l : Logged) (before since : List LogItem) → RunsAsLogged z s → get_elem? s.views i ≡ some l → l.known_log ≡ before ++ since
    → HasWaited since z.cpus → HaveEnded z s before since
have_ended z s i l before since r at are waited =
    let run = r.run in
    let g = after (opening z) run.events in
    let known = (r.known i l at).0 in
    let h = halve 0 r.acts before (since ++ known.0) (sym known.1 ∙ (ap (λ (d : List LogItem). d ++ known.0) are ∙ append_assoc before since known.0)) in
    let k = cut (opening z) h.first h.second run.events g (subst (λ (l : List (ℕ × LogItem)). Follows (opening z) l run.events g) h.are (run_as_logged z s r)) in
    let fit : IsTrue (are_fit z) = subst (λ (a : Settings). IsTrue (are_fit a)) run.settings run.good.holds.fit in
    let on : Holds k.between = follows_holds (opening z) h.first k.earlier k.between k.before (opening_holds z fit) in
    let there : k.between ≡ after (opening z) k.earlier = follows_after (opening z) h.first k.earlier k.between k.before in
    let w : (c : ℕ) → c < z.cpus → WaitedFor c k.between h.second k.later g since = λ c lt. waited_for c k.between h.second k.later g since known.0 k.since on h.rest (waited c lt) in
    let own = own_first run.seat g.seated h.first h.second (subst (AreByOwn run.seat g.seated) h.are r.owners) in
    let long : length k.between.history ≡ changes_in before =
    let n = counted run.seat g.seated (opening z) h.first k.earlier k.between k.before (opening_holds z fit) own in let same = ap changes_in h.mine in omega (arith, n, same) in
    let begun : (c b : ℕ) → begin_at g c ≡ Some b → changes_in before ≤ b = λ c b is.
    let late = (w c (within g c b z.cpus run.good.holds (ap (λ (a : Settings). a.cpus) run.settings) is)).begun b is in omega (arith, long, late) in
    record {
      run = r;
      earlier = k.earlier;
      since = k.later;
      are = k.are;
      did = ap (part 0) (ap (take (length k.earlier)) h.are ∙ take_at h.first h.second (length k.earlier) (sym k.size)) ∙ h.mine;
      changes = ap (λ (q : State). length q.history) (sym there) ∙ long;
      exits = λ c b lt is. subst (λ (q : State). HasExit q c k.later) there ((w c lt).exits b (ap (λ (q : State). begin_at q c) there ∙ is));
      each = λ c lt. ended_on z s r before since known.0 h.first h.second h.are h.mine k.earlier k.later k.between k.are k.size there c (w c lt);
      told = told_ended z s i l before since r at are waited;
      heard = λ m k first rest heard had cut_is few. told_ended z s i l before since r at are waited m first rest heard cut_is (before_heard z s r m k first had few);
      begun = begun;
      none = λ i j p k x e keeper cpu ends le may.
          let shown = (run.shows.fits j (Cpu x) cpu).1 in
          omega (arith, begun x.id may.0 (sym (seen_of g x run.good shown).begin ∙ may.1), may.2.unended p ends, le);
    }

pub waiting_ends : WaitingEnds
waiting_ends z s i l before since r at are waited = have_ended z s i l before since (running_headline z s r) at are waited
