-- A lookup by memory and a recall: what the load tells, and what the section does.
use Rattle.std.proofs.Common.{◌≡◌, ◌≢◌, ℕ, ◌<◌, ◌≤◌, ◌==◌, Bool, true, false, if◌then◌else◌, List, ◌++◌, Option, Some, None, IsTrue, refl, sym, ap, ◌∙◌, subst, arith, ⊎_elim, inl, inr, zero, suc, [], ◌+◌, IfSome, length}
use Rattle.std.proofs.lemmas.Bool.{eq-eqb, ne_eqb, cases_lt, eqb-true, false≢true}
use Rattle.std.proofs.lemmas.List.{append-nil}
use Rattle.std.specs.Prelude.{is_some}
use mathlib.Core.List.{IsPrefix}
use Rattle.passive_list.specs.Types.{Entry, Event, Key, Kind, MOST_SLOTS, Name, Recall, RecallHead, Refind, Settings, Word, CpuView, LogItem, Change}
use Rattle.registry_values.specs.Common.{are_fit, key_of, kind_word}
use Rattle.registry_values.proofs.Fit.{ranges}
use Rattle.protocol.specs.Common.{IsAttached, entry_with, EndsAt, IsLegal, IsLiveAt, IsLookup, brought_by}
use Rattle.protocol.specs.History.{change_at, rank_at}
use Rattle.protocol.proofs.History.{IsGone, Stood, live_down, one_live, attached_within, rank_low, stands_on, stood}
use Rattle.cpu_words.specs.Common.{did, event_by, HasRecalled, HasRecalledHead, HasRefound, HasWholePass, MayRefind, Named, key_with}
use Rattle.cpu_words.proofs.shown.Seeing.{attached_prefix}
use Rattle.passive_list.specs.Common.{ByWord, HasRecalledHeadOn, HasRecalledInVain, IsSome, RecallsWords, Remembers, RemembersSo, HasRecalledOn, HasRefoundAs, HasSeen, OnCpu, OnPlainCpu, Seen, Memory, Missed, HasFound, HasFoundFromOutside, HasFoundKept, FindsInside, Recalls, HasNumbered, HasRefoundOn, WasAbsent, entry_seen, may_begin, IsMiss, IsTrueMiss, Misses, miss_of, with_miss, FindsAndRemembers, FindsWhatIsKept, FindsWhatStays, HasFoundAnew, HasFoundInSection, HasFoundByMemory, HasRecalledAs, HasRecalledByMemory, RecallsBy, IsAbsentAt, FindsAfterHead, RecallsSeen, Refinds, RefindsSeen, RemembersAnswer}
use Rattle.passive_list.specs.declared.memory.Miss.{Miss}
use Rattle.passive_list.proofs.GoingOver.{one_kind}
use Rattle.passive_list.proofs.Memories.{entry_by_word, numbered_longer}
use Rattle.passive_list.proofs.Walking.{ends_later, live_before, live_longer, prefix_length, prefix_trans}

-- A recall, of an entry or of the head, and an entry found again, by the CPU that names its own table.

-- a is the CPU before; its view is y then, and its log l

pub recalled_on : (t n c m : ℕ) (a p : OnCpu) (y : CpuView) (k l : List LogItem) (found : Bool) → a ≡ p → HasRecalled a.view t m y → HasWholePass y → a.view.id ≡ c
    → l ≡ a.log ++ did (Recall c t) (Word m) → k ≡ a.known_log → found ≡ (m == n) → HasRecalledOn t n p (record a { view = y; known_log = k; log = l }) found
recalled_on t n c m a p y k l found same had whole id log known test = subst (λ (q : OnCpu). HasRecalledOn t n q (record a { view = y; known_log = k; log = l }) found) same record {
  pass = had.is.0;
  is = λ i. record a { view = had.is.1 i; known_log = known i; log = l };
  whole = whole;
  word = m;
  log = log ∙ ap (λ (d : ℕ). a.log ++ did (Recall d t) (Word m)) (sym id);
  found = test;
  live = had.live;
}

pub recalled_head_on : (c w : ℕ) (a p : OnCpu) (y : CpuView) (k l : List LogItem) → a ≡ p → HasRecalledHead a.view w y → HasWholePass y → a.view.id ≡ c → l ≡ a.log ++ did (RecallHead c) (Word w)
    → k ≡ a.known_log → HasRecalledHeadOn p (record a { view = y; known_log = k; log = l }) w
recalled_head_on c w a p y k l same had whole id log known = subst (λ (q : OnCpu). HasRecalledHeadOn q (record a { view = y; known_log = k; log = l }) w) same record {
  pass = had.is.0;
  is = λ i. record a { view = had.is.1 i; known_log = known i; log = l };
  whole = whole;
  log = log ∙ ap (λ (d : ℕ). a.log ++ did (RecallHead d) (Word w)) (sym id);
  newest = had.newest;
}

-- the head is no more than the slots
pub head_few : (w : ℕ) (a b : Settings) → IsTrue (are_fit a) → a ≡ b → w ≤ a.slots → (w ≤ MOST_SLOTS) × (w ≤ b.slots)
head_few w a b fit same few = let most = (ranges a fit).slots in (omega (arith, few, most), subst (λ (z : Settings). w ≤ z.slots) same few)

-- Found again

begun : (b : Option ℕ) → b ≢ None → (n : ℕ) × (b ≡ Some n)
begun None inside = absurd (inside refl)
begun (Some n) inside = (n, refl)

-- what the CPU has seen may be found again
pub may_refind : (key : Key) (s : Seen) (o p : OnPlainCpu) → o ≡ p → HasSeen p key s → p.cpu.view.begin ≢ None → o.cpu.view.search ≡ None → o.words.settings ≡ o.cpu.view.settings
    → MayRefind o.cpu.view s.slot s.number
may_refind key s o p same had inside idle settings = record {
  search = idle;
  inside = begun o.cpu.view.begin (subst (λ (q : OnPlainCpu). q.cpu.view.begin ≢ None) (sym same) inside);
  slot = subst (λ (z : Settings). s.slot < z.slots) settings (subst (λ (q : OnPlainCpu). s.slot < q.words.settings.slots) (sym same) had.slots);
  entry = entry_with key s.slot s.number s.value;
  at = record { slot = refl; number = refl };
  attached = subst (λ (q : OnPlainCpu). IsAttached q.cpu.view.pass (entry_with key s.slot s.number s.value)) (sym same) had.attached;
}

pub refound_on : (key : Key) (s : Seen) (c m : ℕ) (o p : OnPlainCpu) (y : CpuView) (k l : List LogItem) → o ≡ p → HasSeen p key s → m ≡ s.number → HasRefound o.cpu.view s.slot s.number y
    → HasWholePass y → o.cpu.view.id ≡ c → l ≡ o.cpu.log ++ did (event_by s.number (Refind c s.slot s.number) (Recall c s.slot) m) (Word m) → k ≡ o.cpu.known_log
    → HasRefoundAs key p.cpu (record (o.cpu) { view = y; known_log = k; log = l }) (entry_with key s.slot s.number s.value)
refound_on key s c m o p y k l same seen is had whole id log known =
    let a : OnCpu = o.cpu in
    let e : Entry = entry_with key s.slot s.number s.value in
    let refound = had e (subst (λ (q : OnPlainCpu). IsAttached q.cpu.view.pass e) (sym same) seen.attached) refl in
    let event : event_by s.number (Refind c s.slot s.number) (Recall c s.slot) m ≡ Refind c s.slot s.number =
    ap (λ (x : Bool). if x then Refind c s.slot s.number else Recall c s.slot) (eq-eqb m s.number is) in
    subst (λ (q : OnPlainCpu). HasRefoundAs key q.cpu (record a { view = y; known_log = k; log = l }) e) same record {
      pass = refound.longer;
      is = λ i. record a { view = refound.is i; known_log = known i; log = l };
      whole = whole;
      answered = (refound.live, refl);
      log = log ∙ (λ i. a.log ++ did (event i) (Word (is i))) ∙ ap (λ (d : ℕ). a.log ++ did (Refind d s.slot s.number) (Word s.number)) (sym id);
    }

pub not_refound_on : (s : Seen) (c m : ℕ) (a p : OnCpu) (y : CpuView) (k l : List LogItem) → a ≡ p → m ≢ s.number → HasRecalled a.view s.slot m y → HasWholePass y → a.view.id ≡ c
    → l ≡ a.log ++ did (event_by s.number (Refind c s.slot s.number) (Recall c s.slot) m) (Word m) → k ≡ a.known_log
    → HasRecalledOn s.slot s.number p (record a { view = y; known_log = k; log = l }) false
not_refound_on s c m a p y k l same off had whole id log known =
    let test : (m == s.number) ≡ false = ne_eqb m s.number off in
    let event : event_by s.number (Refind c s.slot s.number) (Recall c s.slot) m ≡ Recall c s.slot = ap (λ (x : Bool). if x then Refind c s.slot s.number else Recall c s.slot) test in
    recalled_on s.slot s.number c m a p y k l false same had whole id (log ∙ ap (λ (d : Event). a.log ++ did d (Word m)) event) known (sym test)

-- A lookup by memory: what its load tells, and what its section does.

-- what the load tells
pub recalls_seen : (o : OnPlainCpu) (key : Key) (s : Seen) (b : OnCpu) (found : Bool) → HasSeen o key s → HasRecalledOn s.slot s.number o.cpu b found → RecallsSeen key s o.cpu b found
recalls_seen o key s b true had recalled =
    let a = o.cpu in
    let e = entry_with key s.slot s.number s.value in
    let word : recalled.word ≡ s.number = eqb-true recalled.word s.number (sym recalled.found) in
    let attached : IsAttached b.view.pass e = attached_prefix a.view.pass b.view.pass e recalled.pass had.attached in record {
      pass = recalled.pass;
      is = recalled.is;
      whole = recalled.whole;
      answered = ((recalled.live.only e attached (sym word)).0, refl);
      log = recalled.log ∙ ap (λ (n : ℕ). a.log ++ did (Recall a.view.id s.slot) (Word n)) word;
    }
recalls_seen o key s b false had recalled =
    record { pass = recalled.pass; is = recalled.is; word = recalled.word; other = λ same. absurd (false≢true (recalled.found ∙ eq-eqb recalled.word s.number same)); log = recalled.log }

pub refinds_seen : (o : OnPlainCpu) (key : Key) (s : Seen) (b : OnCpu) (found : Bool) → HasSeen o key s → HasRefoundOn key s o.cpu b found → RefindsSeen key s o.cpu b found
refinds_seen o key s b true had refound = refound
refinds_seen o key s b false had recalled = recalls_seen o key s b false had recalled

-- A lookup in a section

left_pass : (key : Key) (a b : OnCpu) (answer : Option Entry) → (had : HasFoundFromOutside key a b answer) → a.depth ≡ 0 → b.view.pass ≡ had.last.view.pass
left_pass key a b answer had outside =
    let depth : had.last.depth ≡ a.depth + 1 = ap (λ (c : OnCpu). c.depth) had.finds.is ∙ had.enters.depth in
    let one : had.last.depth ≡ 1 = omega (arith, depth, outside) in
    ap (λ (v : CpuView). v.pass) (had.exits.ended one)

-- what is remembered is as it was
pub outside_memory : (key : Key) (a b : OnCpu) (answer : Option Entry) → HasFoundFromOutside key a b answer → b.memory ≡ a.memory
outside_memory key a b answer had = had.exits.memory ∙ ap (λ (c : OnCpu). c.memory) had.finds.is ∙ had.enters.memory

-- what was found is an entry of the pass
pub seen_by : (key : Key) (a b : OnPlainCpu) (answer : Option Seen) → ((e : Entry) → entry_seen key answer ≡ Some e → IsAttached b.cpu.view.pass e) → b.words ≡ a.words
    → IfSome answer (λ (s : Seen). (s.slot < MOST_SLOTS) × (s.slot < a.words.settings.slots)) → IfSome answer (λ (s : Seen). HasSeen b key s)
seen_by key a b None attached words slot = tt
seen_by key a b (Some s) attached words slot =
    record { few = slot.0; slots = subst (λ (w : Named). s.slot < w.settings.slots) (sym words) slot.1; attached = attached (entry_with key s.slot s.number s.value) refl }

pub found_seen : (key : Key) (a b : OnPlainCpu) (answer : Option Seen) → HasFoundFromOutside key a.cpu b.cpu (entry_seen key answer) → a.cpu.depth ≡ 0 → b.words ≡ a.words
    → IfSome answer (λ (s : Seen). (s.slot < MOST_SLOTS) × (s.slot < a.words.settings.slots)) → IfSome answer (λ (s : Seen). HasSeen b key s)
found_seen key a b answer had outside words slot =
    seen_by key a b answer (λ e is. subst (λ h. IsAttached h e) (sym (left_pass key a.cpu b.cpu (entry_seen key answer) had outside)) (had.finds.seen e is)) words slot

-- What stays is found

whole_legal : (x : CpuView) → HasWholePass x → IsLegal x.pass
whole_legal x had = subst IsLegal (sym had.1) had.0.good.holds.legal

-- an entry that was attached and isn't detached is live at the end
live_still : (g : List Change) (e : Entry) → IsAttached g e → ((p : ℕ) → EndsAt g e.number p → ⊥) → (k : ℕ) → e.number ≤ k → IsLiveAt g k e
live_still g e attached stays k begun = record { attached = attached; begun = begun; unended = λ p ends. absurd (stays p ends) }

same_answer : (g : List Change) (k : ℕ) (key : Key) (answer : Option Entry) (e : Entry) → IsLegal g → IsLookup g k key answer → IsLiveAt g k e → key_of e ≡ key → answer ≡ Some e
same_answer g k key None e legal none live same = absurd (none e live same)
same_answer g k key (Some f) e legal found live same = ap Some (one_live g legal k f e found.0 live (found.1 ∙ sym same))

-- by one load
pub recalled_stays : (key : Key) (a b : OnCpu) (e : Entry) → HasRecalledAs key a b e → FindsWhatStays key a.view.pass b.view.pass (Some e)
recalled_stays key a b e had f attached same unended =
    let g = b.view.pass in
    let here = attached_prefix a.view.pass g f had.pass attached in
    same_answer g (length g) key (Some e) f (whole_legal b.view had.whole) had.answered (live_still g f here unended (length g) (attached_within g f here).1) same

-- in a section
pub found_stays : (key : Key) (h : List Change) (a b : OnCpu) (answer : Option Entry) → HasFoundFromOutside key a b answer → a.depth ≡ 0 → IsPrefix h a.view.pass → FindsWhatStays key h b.view.pass answer
found_stays key h a b answer had outside longer f attached same unended =
    let g = had.last.view.pass in
    let left = left_pass key a b answer had outside in
    let entered = (had.enters.begun outside).0 in
    let p = had.finds.lawful in
    let to_first = prefix_trans h a.view.pass had.first.view.pass longer entered in
    let first : IsAttached had.first.view.pass f = attached_prefix h had.first.view.pass f to_first attached in
    let here : IsAttached g f = attached_prefix had.first.view.pass g f had.finds.pass first in
    let begun = (attached_within had.first.view.pass f first).1 in
    let live = live_still g f here (λ q ends. unended q (subst (λ (i : List Change). EndsAt i f.number q) (sym left) ends)) p.point (omega (arith, begun, p.from_on)) in
    same_answer g p.point key answer f had.finds.legal p.answered live same

-- in the open section
stays_inside : (key : Key) (a b : OnCpu) (answer : Option Entry) (h : List Change) → HasFound key a b answer → IsPrefix h a.view.pass → FindsWhatStays key h b.view.pass answer
stays_inside key a b answer h had longer f attached same unended =
    let g = b.view.pass in
    let p = had.lawful in
    let first : IsAttached a.view.pass f = attached_prefix h a.view.pass f longer attached in
    let here : IsAttached g f = attached_prefix a.view.pass g f had.pass first in
    let live = live_still g f here unended p.point (omega (arith, (attached_within a.view.pass f first).1, p.from_on)) in
    same_answer g p.point key answer f had.legal p.answered live same

refound_stays : (key : Key) (a b : OnCpu) (e : Entry) → HasRefoundAs key a b e → FindsWhatStays key a.view.pass b.view.pass (Some e)
refound_stays key a b e had f attached same unended =
    let g = b.view.pass in
    let here = attached_prefix a.view.pass g f had.pass attached in
    same_answer g (length g) key (Some e) f (whole_legal b.view had.whole) had.answered (live_still g f here unended (length g) (attached_within g f here).1) same

kept_stays : (key : Key) (a b : OnCpu) (answer : Option Seen) (h : List Change) → HasFoundKept key a b answer → IsPrefix h a.view.pass → FindsWhatStays key h b.view.pass (entry_seen key answer)
kept_stays key a b answer h had longer =
    subst (λ (x : OnCpu). FindsWhatStays key h x.view.pass (entry_seen key answer)) (sym had.is) (stays_inside key a had.left (entry_seen key answer) h had.finds longer)

pub inside_stays : (key : Key) (a b : OnCpu) (answer : Option Seen) → FindsInside key a b answer → FindsWhatStays key a.view.pass b.view.pass (entry_seen key answer)
inside_stays key a b answer (None, at, had) = kept_stays key a b answer a.view.pass had ([], append-nil a.view.pass)
inside_stays key a b answer (Some s, at, inl had) = subst (λ (o : Option Seen). FindsWhatStays key a.view.pass b.view.pass (entry_seen key o)) (sym had.0) (refound_stays key a b (entry_with key s.slot s.number s.value) had.1)
inside_stays key a b answer (Some s, at, inr (c, vain, had)) = kept_stays key c b answer a.view.pass had vain.pass

-- at the load of the head
absent_stays : (key : Key) (h g : List Change) (c : OnCpu) (answer : Option Seen) → IsAbsentAt key c answer → IsPrefix h c.view.pass → IsPrefix c.view.pass g → FindsWhatStays key h g (entry_seen key answer)
absent_stays key h g c answer had before after f attached same unended =
    let i = c.view.pass in
    let here = attached_prefix h i f before attached in
    absurd (had.answered f (live_still i f here (λ p ends. unended p (ends_later i g f.number p after ends)) (length i) (attached_within i f here).1) same)

head_stays : (w : ℕ) (key : Key) (h : List Change) (c b : OnCpu) (answer : Option Seen) → FindsAfterHead w key c b answer → c.depth ≡ 0 → IsPrefix h c.view.pass → FindsWhatStays key h b.view.pass (entry_seen key answer)
head_stays w key h c b answer (inl had) outside longer =
    absent_stays key h b.view.pass c answer had.1 longer (subst (λ (x : OnCpu). IsPrefix c.view.pass x.view.pass) (sym had.2) ([], append-nil c.view.pass))
head_stays w key h c b answer (inr (t, n, d, is, recalled, inl had)) outside longer =
    absent_stays key h b.view.pass c answer had.1 longer (subst (λ (x : OnCpu). IsPrefix c.view.pass x.view.pass) (sym had.2) recalled.pass)
head_stays w key h c b answer (inr (t, n, d, is, recalled, inr had)) outside longer =
    let f = had.1.finds in
    subst (λ (x : OnCpu). FindsWhatStays key h x.view.pass (entry_seen key answer)) (sym f.is)
    (found_stays key h d f.left (entry_seen key answer) f.finds (ap (λ (x : OnCpu). x.depth) recalled.is ∙ outside) (prefix_trans h c.view.pass d.view.pass longer recalled.pass))

pub anew_stays : (key : Key) (h : List Change) (a b : OnCpu) (answer : Option Seen) → HasFoundAnew key a b answer → a.depth ≡ 0 → IsPrefix h a.view.pass → FindsWhatStays key h b.view.pass (entry_seen key answer)
anew_stays key h a b answer had outside longer =
    let c = had.at_head in
    head_stays had.head key h c b answer had.finds (ap (λ (x : OnCpu). x.depth) had.heads.is ∙ outside) (prefix_trans h a.view.pass c.view.pass longer had.heads.pass)

-- What is kept is found

-- where the answer is that there is none, that is so at a point since the end of h
abbrev MissedSince : Key → List Change → List Change → Option Entry → Type 0
MissedSince key h g answer = answer ≡ None → (k : ℕ) × (length h ≤ k) × (k ≤ length g) × IsLookup g k key None

kept_from : (key : Key) (h g : List Change) (answer : Option Entry) → IsLegal g → IsPrefix h g → MissedSince key h g answer → FindsWhatIsKept key h g answer
kept_from key h g answer legal pre missed e live same kept none =
    let at = missed none in
    ⊎_elim
    (λ (on : Stood g at.0 e). at.3 on.entry on.live (on.key ∙ same))
    (λ (gone : IsGone g (length h) at.0 (key_of e)). kept gone.position gone.entry gone.later (omega (arith, gone.by_then, at.2)) gone.detach gone.attached (gone.same ∙ same))
    (stands_on g legal (length h) at.0 e (live_longer h g (length h) e pre (omega arith) live) at.1)

-- by one load
recalled_kept : (key : Key) (h g : List Change) (e : Entry) → FindsWhatIsKept key h g (Some e)
recalled_kept key h g e f live same kept none = let clash : ◌≡◌ {A = Option Entry} (Some e) None = none in cc

-- in a section
found_kept : (key : Key) (h : List Change) (a b : OnCpu) (answer : Option Entry) → HasFoundFromOutside key a b answer → a.depth ≡ 0 → IsPrefix h a.view.pass → FindsWhatIsKept key h b.view.pass answer
found_kept key h a b answer had outside longer =
    let g = had.last.view.pass in
    let p = had.finds.lawful in
    let to_first = prefix_trans h a.view.pass had.first.view.pass longer (had.enters.begun outside).0 in
    subst (λ (i : List Change). FindsWhatIsKept key h i answer) (sym (left_pass key a b answer had outside))
    (kept_from key h g answer had.finds.legal (prefix_trans h had.first.view.pass g to_first had.finds.pass)
    (λ none. (p.point, omega (arith, prefix_length h had.first.view.pass to_first, p.from_on), p.up_to, subst (IsLookup g p.point key) none p.answered)))

-- in the open section
pub kept_inside : (key : Key) (h : List Change) (a b : OnCpu) (answer : Option Entry) → HasFound key a b answer → IsPrefix h a.view.pass → FindsWhatIsKept key h b.view.pass answer
kept_inside key h a b answer had longer =
    let g = b.view.pass in
    let p = had.lawful in
    kept_from key h g answer had.legal (prefix_trans h a.view.pass g longer had.pass)
    (λ none. (p.point, omega (arith, prefix_length h a.view.pass longer, p.from_on), p.up_to, subst (IsLookup g p.point key) none p.answered))

kept_kept : (key : Key) (h : List Change) (a b : OnCpu) (answer : Option Seen) → HasFoundKept key a b answer → IsPrefix h a.view.pass → FindsWhatIsKept key h b.view.pass (entry_seen key answer)
kept_kept key h a b answer had longer =
    subst (λ (x : OnCpu). FindsWhatIsKept key h x.view.pass (entry_seen key answer)) (sym had.is) (kept_inside key h a had.left (entry_seen key answer) had.finds longer)

pub inside_kept_since : (key : Key) (h : List Change) (a b : OnCpu) (answer : Option Seen) → FindsInside key a b answer → IsPrefix h a.view.pass → FindsWhatIsKept key h b.view.pass (entry_seen key answer)
inside_kept_since key h a b answer (None, at, had) longer = kept_kept key h a b answer had longer
inside_kept_since key h a b answer (Some s, at, inl had) longer =
    subst (λ (o : Option Seen). FindsWhatIsKept key h b.view.pass (entry_seen key o)) (sym had.0) (recalled_kept key h b.view.pass (entry_with key s.slot s.number s.value))
inside_kept_since key h a b answer (Some s, at, inr (c, vain, had)) longer = kept_kept key h c b answer had (prefix_trans h a.view.pass c.view.pass longer vain.pass)

pub inside_kept : (key : Key) (a b : OnCpu) (answer : Option Seen) → FindsInside key a b answer → FindsWhatIsKept key a.view.pass b.view.pass (entry_seen key answer)
inside_kept key a b answer had = inside_kept_since key a.view.pass a b answer had ([], append-nil a.view.pass)

-- a search in the open section, after a load that told nothing
pub inside_after : (key : Key) (a c b : OnCpu) (answer : Option Seen) → HasRecalledByMemory key a c None → HasFoundKept key c b answer → FindsInside key a b answer
inside_after key a c b answer (None, at, had) found = (None, at, subst (λ (x : OnCpu). HasFoundKept key x b answer) had.1 found)
inside_after key a c b answer (Some s, at, inl had) found = let clash : ◌≡◌ {A = Option Seen} None (Some s) = had.0 in cc
inside_after key a c b answer (Some s, at, inr had) found = (Some s, at, inr (c, had.1, found))

-- at the load of the head
absent_kept : (key : Key) (h g : List Change) (c : OnCpu) (answer : Option Seen) → IsAbsentAt key c answer → IsLegal g → IsPrefix h c.view.pass → IsPrefix c.view.pass g
    → FindsWhatIsKept key h g (entry_seen key answer)
absent_kept key h g c answer had legal before after =
    let i = c.view.pass in
    kept_from key h g (entry_seen key answer) legal (prefix_trans h i g before after)
    (λ none. (length i, prefix_length h i before, prefix_length i g after, λ f live same. had.answered f (live_before i g (length i) (length i) f after live.begun (omega arith) (omega arith) live) same))

head_kept : (w : ℕ) (key : Key) (h : List Change) (c b : OnCpu) (answer : Option Seen) → FindsAfterHead w key c b answer → IsLegal c.view.pass → c.depth ≡ 0 → IsPrefix h c.view.pass
    → FindsWhatIsKept key h b.view.pass (entry_seen key answer)
head_kept w key h c b answer (inl had) legal outside longer =
    subst (λ (x : OnCpu). FindsWhatIsKept key h x.view.pass (entry_seen key answer)) (sym had.2) (absent_kept key h c.view.pass c answer had.1 legal longer ([], append-nil c.view.pass))
head_kept w key h c b answer (inr (t, n, d, is, recalled, inl had)) legal outside longer =
    subst (λ (x : OnCpu). FindsWhatIsKept key h x.view.pass (entry_seen key answer)) (sym had.2) (absent_kept key h d.view.pass c answer had.1 (whole_legal d.view recalled.whole) longer recalled.pass)
head_kept w key h c b answer (inr (t, n, d, is, recalled, inr had)) legal outside longer =
    let f = had.1.finds in
    subst (λ (x : OnCpu). FindsWhatIsKept key h x.view.pass (entry_seen key answer)) (sym f.is)
    (found_kept key h d f.left (entry_seen key answer) f.finds (ap (λ (x : OnCpu). x.depth) recalled.is ∙ outside) (prefix_trans h c.view.pass d.view.pass longer recalled.pass))

pub anew_kept : (key : Key) (h : List Change) (a b : OnCpu) (answer : Option Seen) → HasFoundAnew key a b answer → a.depth ≡ 0 → IsPrefix h a.view.pass → FindsWhatIsKept key h b.view.pass (entry_seen key answer)
anew_kept key h a b answer had outside longer =
    let c = had.at_head in
    head_kept had.head key h c b answer had.finds (whole_legal c.view had.heads.whole) (ap (λ (x : OnCpu). x.depth) had.heads.is ∙ outside) (prefix_trans h a.view.pass c.view.pass longer had.heads.pass)

-- what the CPU remembers is live, by the load
pub recalled_live : (key : Key) (o : OnPlainCpu) (b : OnCpu) (s : Seen) → HasSeen o key s → Recalls o.cpu.memory key (Some s) → HasRecalledOn s.slot s.number o.cpu b true → HasRecalledByMemory key o.cpu b (Some s)
recalled_live key o b s had at recalled = (Some s, at, inl (refl, recalls_seen o key s b true had recalled))

-- By the word of a kind

-- what the CPU remembers of it
pub remembers_by : (o : OnPlainCpu) (word : ℕ) (name : Name) (found : Option Seen) → Remembers o.words.settings.slots o.cpu.view.pass o.cpu.memory → o.words.settings.slots ≤ MOST_SLOTS → IsSome word name
    → RecallsWords o.cpu.memory word name found → ByWord word found (RemembersSo o name)
remembers_by o word name None had most some recalls = λ k is. (subst (λ (w : ℕ). RecallsWords o.cpu.memory w name None) is recalls, tt)
remembers_by o word name (Some s) had most some recalls =
    let e = entry_by_word o.words.settings.slots o.cpu.view.pass o.cpu.memory word name s had some recalls in
    (e.0, e.1, (subst (λ (w : ℕ). RecallsWords o.cpu.memory w name (Some s)) e.1 recalls, record { few = omega (arith, e.2, most); slots = e.2; attached = e.3 }))

-- nothing is remembered
pub recalls_none : (word : ℕ) (name : Name) (o : OnPlainCpu) → ByWord word None (RemembersSo o name) → ByWord word None (λ k s. HasRecalledByMemory (key_with k name) o.cpu o.cpu s)
recalls_none word name o had kind is = (None, (had kind is).0, (refl, refl))

-- what is remembered is live, by the load, or it isn't
pub recalled_by : (word : ℕ) (name : Name) (o : OnPlainCpu) (b : OnCpu) (s : Seen) → ByWord word (Some s) (RemembersSo o name) → HasRecalledOn s.slot s.number o.cpu b true
    → ByWord word (Some s) (λ k r. HasRecalledByMemory (key_with k name) o.cpu b r)
recalled_by word name o b s (k, is, (at, seen)) live = (k, is, recalled_live (key_with k name) o b s seen at live)

pub recalled_vainly : (word : ℕ) (name : Name) (a b : OnCpu) (s : Seen) (kind : Kind) → word ≡ kind_word kind → Recalls a.memory (key_with kind name) (Some s) → HasRecalledInVain s a b
    → ByWord word None (λ k r. HasRecalledByMemory (key_with k name) a b r)
recalled_vainly word name a b s kind is at vain other same =
    (Some s, subst (λ (k : Kind). Recalls a.memory (key_with k name) (Some s)) (one_kind kind other (sym is ∙ same)) at, inr (refl, vain))

pub not_recalled_by : (word : ℕ) (name : Name) (o : OnPlainCpu) (b : OnCpu) (s : Seen) → ByWord word (Some s) (RemembersSo o name) → HasRecalledOn s.slot s.number o.cpu b false
    → ByWord word None (λ k r. HasRecalledByMemory (key_with k name) o.cpu b r)
not_recalled_by word name o b s (k, is, (at, seen)) recalled = recalled_vainly word name o.cpu b s k is at (recalls_seen o (key_with k name) s b false seen recalled)

-- and in the open section
pub refinds_none : (word : ℕ) (name : Name) (o : OnPlainCpu) → ByWord word None (RemembersSo o name) → ByWord word None (λ k s. Refinds (key_with k name) o.cpu o.cpu s)
refinds_none word name o had kind is = (None, (had kind is).0, (refl, refl))

-- the kind of the word
pub seen_by_word : (word : ℕ) (name : Name) (o : OnPlainCpu) (s : Seen) (kind : Kind) → ((k : Kind) → word ≡ kind_word k → kind ≡ k) → ByWord word (Some s) (RemembersSo o name)
    → (word ≡ kind_word kind) × Recalls o.cpu.memory (key_with kind name) (Some s) × HasSeen o (key_with kind name) s
seen_by_word word name o s kind of (k, is, (at, seen)) =
    subst (λ (c : Kind). (word ≡ kind_word c) × Recalls o.cpu.memory (key_with c name) (Some s) × HasSeen o (key_with c name) s) (sym (of k is)) (is, at, seen)

pub refound_by : (word : ℕ) (name : Name) (o : OnPlainCpu) (b : OnCpu) (s : Seen) (kind : Kind) → ((k : Kind) → word ≡ kind_word k → kind ≡ k) → ByWord word (Some s) (RemembersSo o name)
    → HasRefoundAs (key_with kind name) o.cpu b (entry_with (key_with kind name) s.slot s.number s.value) → ByWord word (Some s) (λ k r. Refinds (key_with k name) o.cpu b r)
refound_by word name o b s kind of had found = let e = seen_by_word word name o s kind of had in (kind, e.0, (Some s, e.1, inl (refl, found)))

pub not_refound_by : (word : ℕ) (name : Name) (o : OnPlainCpu) (b : OnCpu) (s : Seen) (kind : Kind) → ((k : Kind) → word ≡ kind_word k → kind ≡ k) → ByWord word (Some s) (RemembersSo o name)
    → HasRecalledInVain s o.cpu b → ByWord word None (λ k r. Refinds (key_with k name) o.cpu b r)
not_refound_by word name o b s kind of had vain = let e = seen_by_word word name o s kind of had in recalled_vainly word name o.cpu b s kind e.0 e.1 vain

pub refinds_some : (key : Key) (a b : OnCpu) (o : Option Seen) → Refinds key a b o → IfSome o (λ s. FindsInside key a b (Some s)) × (o ≡ None → HasRecalledByMemory key a b None)
refinds_some key a b None had = (tt, λ none. had)
refinds_some key a b (Some s) had = (had, λ none. let clash : ◌≡◌ {A = Option Seen} (Some s) None = none in cc)

-- A lookup by memory

abbrev pub FoundAndStays : Key → OnCpu → OnCpu → Option Seen → Type 0
FoundAndStays key a b answer = HasFoundByMemory key a b answer × FindsWhatStays key a.view.pass b.view.pass (entry_seen key answer) × FindsWhatIsKept key a.view.pass b.view.pass (entry_seen key answer)

pub by_load : (key : Key) (a b : OnCpu) (s : Seen) → HasRecalledByMemory key a b (Some s) → FoundAndStays key a b (Some s)
by_load key a b s (None, at, had) = let clash : ◌≡◌ {A = Option Seen} (Some s) None = had.0 in cc
by_load key a b s (Some r, at, inl had) =
    let e = entry_with key r.slot r.number r.value in (
      (Some r, at, inl (had.0, had.1)),
      subst (λ (o : Option Seen). FindsWhatStays key a.view.pass b.view.pass (entry_seen key o)) (sym had.0) (recalled_stays key a b e had.1),
      recalled_kept key a.view.pass b.view.pass (entry_with key s.slot s.number s.value),
    )
by_load key a b s (Some r, at, inr had) = let clash : ◌≡◌ {A = Option Seen} (Some s) None = had.0 in cc

-- anew, after a load that told nothing
pub anew_after : (key : Key) (a c b : OnCpu) (answer : Option Seen) → HasRecalledByMemory key a c None → HasFoundAnew key c b answer → a.depth ≡ 0 → FoundAndStays key a b answer
anew_after key a c b answer (None, at, had) anew outside =
    let here = subst (λ (x : OnCpu). HasFoundAnew key x b answer) had.1 anew in
    let own : IsPrefix a.view.pass a.view.pass = ([], append-nil a.view.pass) in
    ((None, at, here), anew_stays key a.view.pass a b answer here outside own, anew_kept key a.view.pass a b answer here outside own)
anew_after key a c b answer (Some s, at, inl had) anew outside = let clash : ◌≡◌ {A = Option Seen} None (Some s) = had.0 in cc
anew_after key a c b answer (Some s, at, inr had) anew outside =
    let out : c.depth ≡ 0 = ap (λ (x : OnCpu). x.depth) had.1.is ∙ outside in
    ((Some s, at, inr (c, had.1, anew)), anew_stays key a.view.pass c b answer anew out had.1.pass, anew_kept key a.view.pass c b answer anew out had.1.pass)

-- after such a load the CPU is outside still, with a section left
pub still_outside : (key : Key) (a c : OnCpu) → HasRecalledByMemory key a c None → (c.depth ≡ a.depth) × (may_begin c.view ≡ may_begin a.view)
still_outside key a c had = by had.0 had.2
  where
    by : (kept : Option Seen) → RecallsBy kept key a c None → (c.depth ≡ a.depth) × (may_begin c.view ≡ may_begin a.view)
    by None had = (ap (λ (x : OnCpu). x.depth) had.1, ap (λ (x : OnCpu). may_begin x.view) had.1)
    by (Some s) (inl had) = let clash : ◌≡◌ {A = Option Seen} None (Some s) = had.0 in cc
    by (Some s) (inr had) = (ap (λ (x : OnCpu). x.depth) had.1.is, ap (λ (x : OnCpu). may_begin x.view) had.1.is)

-- What a miss tells

-- no later entry in the slot of a live one is live
later_there : (h : List Change) → IsLegal h → (k : ℕ) (e f : Entry) → IsLiveAt h k e → IsLiveAt h k f → e.slot ≡ f.slot → e.number < f.number → ⊥
later_there h legal k e f le lf same lt = go f.number refl
  where
    go : (n : ℕ) → f.number ≡ n → ⊥
    go zero is = omega (arith, lt, is)
    go (suc n) is = legal.new_slot n f e (ap (λ (m : ℕ). brought_by (change_at h m)) (sym is) ∙ lf.attached) (live_down h k n e le (omega (arith, lt, is)) (omega (arith, lf.begun, is))) same

-- The entry with the number n is live at the later load, so it was the newest one, by rank, at the head's load. What is live there has a rank at most its, so something stood in its place at the miss, and would have been found.
pub still_absent : (key : Key) (t n w : ℕ) (a c d : OnCpu) → WasAbsent a.view.pass key n → HasRecalledHeadOn a c w → w ≡ suc t → HasRecalledOn t n c d true → IsAbsentAt key c None
still_absent key t n w a c d was heads is recalled =
    let g = c.view.pass in
    let i = d.view.pass in
    let e = was.newest.entry in
    let here : IsAttached g e = attached_prefix a.view.pass g e heads.pass was.newest.attached in
    let there : IsLiveAt i (length i) e × (e.slot ≡ t) =
    recalled.live.only e (attached_prefix g i e recalled.pass here) (was.newest.number ∙ sym (eqb-true recalled.word n (sym recalled.found))) in
    let live : IsLiveAt g (length g) e = live_before g i (length g) (length i) e recalled.pass (attached_within g e here).1 (omega arith) (prefix_length g i recalled.pass) there.0 in
    record {
      none = refl;
      whole = heads.whole;
      answered = λ f other same.
          let legal = whole_legal c.view heads.whole in
          let top = heads.newest.newest t is in
          let slots : e.slot ≡ top.0.slot = there.1 ∙ sym top.2 in
          let most : top.0.number ≤ e.number = ⊎_elim
          (λ (lt : e.number < top.0.number). absurd (later_there g legal (length g) e top.0 live top.1 slots lt))
          (λ (le : top.0.number ≤ e.number). le)
          (cases_lt e.number top.0.number) in
          let least : e.number ≤ top.0.number = ⊎_elim
          (λ (lt : top.0.number < e.number). absurd (later_there g legal (length g) top.0 e top.1 live (sym slots) lt))
          (λ (le : e.number ≤ top.0.number). le)
          (cases_lt top.0.number e.number) in
          let same_number : top.0.number ≡ e.number = omega (arith, most, least) in
          let low : rank_at g f.number ≤ was.point =
          omega (arith, top.3 f other, ap (rank_at g) same_number, rank_low g legal e.number, was.newest.number, was.from_on) in
          let up : was.point ≤ length g = omega (arith, was.up_to, prefix_length a.view.pass g heads.pass) in
          let before = stood g legal (length g) was.point f other low up in
          was.answered before.entry (live_before a.view.pass g was.point was.point before.entry heads.pass before.live.begun was.up_to (omega arith) before.live) (before.key ∙ same);
    }

-- a miss in a section
pub section_absent : (key : Key) (n : ℕ) (a b : OnCpu) → HasFoundFromOutside key a b None → a.depth ≡ 0 → HasNumbered a.view.pass n → WasAbsent b.view.pass key n
section_absent key n a b had outside seen =
    let first = numbered_longer a.view.pass had.first.view.pass n (had.enters.begun outside).0 seen in
    let p = had.finds.lawful in
    subst (λ (g : List Change). WasAbsent g key n) (sym (left_pass key a b None had outside)) (record {
      newest = numbered_longer had.first.view.pass had.last.view.pass n had.finds.pass first;
      point = p.point;
      from_on = omega (arith, (attached_within had.first.view.pass first.entry first.attached).1, first.number, p.from_on);
      up_to = p.up_to;
      answered = p.answered;
    })

-- A lookup anew

pub nothing : (o : Option Seen) → is_some o ≡ false → o ≡ None
nothing None is = refl
nothing (Some s) is = absurd (false≢true (sym is))

pub something : (o : Option Seen) → is_some o ≡ true → o ≡ None → ⊥
something o is none = absurd (false≢true (sym (ap is_some none) ∙ is))

section_found : (key : Key) (a l r : OnCpu) (answer : Option Seen) → HasFoundFromOutside key a l (entry_seen key answer) → r ≡ record l { memory = r.memory } → RemembersAnswer key l.memory r.memory answer
    → FindsAndRemembers (HasFoundFromOutside key a) key a r answer
section_found key a l r answer had is remembers =
    record { left = l; finds = had; is = is; remembers = subst (λ (m : Memory). RemembersAnswer key m r.memory answer) (outside_memory key a l _ had) remembers }

-- what isn't remembered as a miss
pub section_unmissed : (key : Key) (n : ℕ) (a l r : OnCpu) (answer : Option Seen) → HasFoundFromOutside key a l (entry_seen key answer) → r ≡ record l { memory = r.memory }
    → RemembersAnswer key l.memory r.memory answer → r.memory.missed ≡ l.memory.missed → (answer ≡ None → n ≡ 0) → HasFoundInSection key n a r answer
section_unmissed key n a l r answer had is remembers same unknown =
    record { finds = section_found key a l r answer had is remembers; missed = inr (unknown, same ∙ ap (λ (m : Memory). m.missed) (outside_memory key a l _ had)) }

answer_stays : (key : Key) (m n : Memory) (l : Missed) (answer : Option Seen) → RemembersAnswer key m n answer → RemembersAnswer key m (record n { missed = l }) answer
answer_stays key m n l None had = had
answer_stays key m n l (Some s) had = had

-- a miss that is remembered
pub section_missed : (key : Key) (n : ℕ) (a l r b : OnCpu) (answer : Option Seen) → HasFoundFromOutside key a l (entry_seen key answer) → r ≡ record l { memory = r.memory }
    → RemembersAnswer key l.memory r.memory answer → r.memory.missed ≡ l.memory.missed → answer ≡ None → n ≢ 0 → b ≡ record r { memory = with_miss r.memory key n }
    → HasFoundInSection key n a b answer
section_missed key n a l r b answer had is remembers same none known missed =
    let m : b.memory ≡ with_miss r.memory key n = ap (λ (x : OnCpu). x.memory) missed in
    let left : b ≡ record l { memory = b.memory } = missed ∙ ap (λ (x : OnCpu). record x { memory = with_miss r.memory key n }) is ∙ ap (λ (k : Memory). record l { memory = k }) (sym m) in
    let kept = subst (λ (k : Memory). RemembersAnswer key l.memory k answer) (sym m) (answer_stays key l.memory r.memory (with_miss r.memory key n).missed answer remembers) in
    record {
      finds = section_found key a l b answer had left kept;
      missed = inl (none, known, ap (λ (k : Memory). k.missed) m ∙ ap (λ (k : Missed). (with_miss (record r.memory { missed = k }) key n).missed) (same ∙ ap (λ (k : Memory). k.missed) (outside_memory key a l _ had)));
    }

pub absent_anew : (key : Key) (t n w : ℕ) (a c d : OnCpu) (m : Miss) → HasRecalledHeadOn a c w → w ≡ suc t → HasRecalledOn t n c d true → m ≡ miss_of a.memory.missed key
    → IsTrueMiss a.view.pass m → IsMiss key n m → HasFoundAnew key a d None
absent_anew key t n w a c d m heads head recalled at so is =
    let misses : Misses c.memory key n = subst (IsMiss key n) (at ∙ ap (λ (x : OnCpu). miss_of x.memory.missed key) (sym heads.is)) is in
    let same : m ≡ record { number = n; kind = key.kind; name = key.name } = λ i. record { number = is.number i; kind = is.kind i; name = is.name i } in
    let was = subst (λ (x : Miss). WasAbsent a.view.pass (record { kind = x.kind; name = x.name }) x.number) same (so (λ zero. is.some (sym is.number ∙ zero))) in
    record { head = w; at_head = c; heads = heads; finds = inr (t, n, d, head, recalled, inl (misses, still_absent key t n w a c d was heads head recalled, refl)) }

pub section_anew : (key : Key) (t n w : ℕ) (a c d b : OnCpu) (m : Miss) (answer : Option Seen) → HasRecalledHeadOn a c w → w ≡ suc t → HasRecalledOn t n c d true
    → m ≡ miss_of a.memory.missed key → (IsMiss key n m → ⊥) → HasFoundInSection key n d b answer → HasFoundAnew key a b answer
section_anew key t n w a c d b m answer heads head recalled at not found =
    let none : Misses c.memory key n → ⊥ = λ misses. not (subst (IsMiss key n) (sym (at ∙ ap (λ (x : OnCpu). miss_of x.memory.missed key) (sym heads.is))) misses) in
    record { head = w; at_head = c; heads = heads; finds = inr (t, n, d, head, recalled, inr (none, found)) }
