-- A CPU that has a share of a ledger, and the CPU without it: what is told of an enter or a lookup of the one is told of the other.
use Rattle.std.proofs.Common.{◌≡◌, ℕ, true, Option, Some, None, inl, inr, ap, ◌∙◌, Result, Ok, Err}
use Rattle.passive_list.specs.Types.{Entry, Key, Refusal}
use Rattle.passive_list.specs.Common.{HasFoundAnew, HasFoundByMemory, HasFoundFromOutside, HasFoundInSection, HasFoundKept, HasRecalledInVain, HasRecalledOn, OnCpu, OnPlainCpu, FindsAfterHead, FindsAfterWord, FindsBy, FindsInside, Seen, AnswersEnter}

abbrev pub sharing : ℕ → OnCpu → OnCpu
sharing m x = record x { made = m }

-- what a box has, lent
pub shared : (m : ℕ) (p q : OnPlainCpu) (x : OnCpu) → p ≡ q → sharing m q.cpu ≡ x → sharing m p.cpu ≡ x
shared m p q x same is = ap (λ (o : OnPlainCpu). sharing m o.cpu) same ∙ is

pub entered : (m : ℕ) (a b : OnCpu) (r : Result (Unit {0}) Refusal) → AnswersEnter a b r → AnswersEnter (sharing m a) (sharing m b) r
entered m a b (Ok tt) had = record { answer = (had.answer.0, assumption had.answer.1); refused = tt }
entered m a b (Err f) had = record { answer = had.answer; refused = ap (sharing m) had.refused }

outside : (m : ℕ) (key : Key) (a b : OnCpu) (answer : Option Entry) → HasFoundFromOutside key a b answer → HasFoundFromOutside key (sharing m a) (sharing m b) answer
outside m key a b answer had =
    record { first = sharing m had.first; last = sharing m had.last; enters = assumption had.enters; finds = assumption (ap (sharing m) had.finds.is, had.finds); exits = assumption had.exits }

in_section : (m : ℕ) (key : Key) (n : ℕ) (a b : OnCpu) (answer : Option Seen) → HasFoundInSection key n a b answer → HasFoundInSection key n (sharing m a) (sharing m b) answer
in_section m key n a b answer had =
    let f = had.finds in
    record { finds = record { left = sharing m f.left; finds = outside m key a f.left _ f.finds; is = ap (sharing m) f.is; remembers = f.remembers }; missed = had.missed }

after_word : (m : ℕ) (key : Key) (n : ℕ) (c d b : OnCpu) (answer : Option Seen) → FindsAfterWord key n c d b answer → FindsAfterWord key n (sharing m c) (sharing m d) (sharing m b) answer
after_word m key n c d b answer (inl had) = inl (had.0, assumption had.1, ap (sharing m) had.2)
after_word m key n c d b answer (inr had) = inr (had.0, in_section m key n d b answer had.1)

after_head : (m w : ℕ) (key : Key) (c b : OnCpu) (answer : Option Seen) → FindsAfterHead w key c b answer → FindsAfterHead w key (sharing m c) (sharing m b) answer
after_head m w key c b answer (inl had) = inl (had.0, assumption had.1, ap (sharing m) had.2)
after_head m w key c b answer (inr had) =
    let r = had.4 in
    let recalled : HasRecalledOn had.0 had.1 (sharing m c) (sharing m had.2) true = record { pass = r.pass; is = ap (sharing m) r.is; whole = r.whole; word = r.word; log = r.log; found = r.found; live = r.live } in
    inr (had.0, had.1, sharing m had.2, had.3, recalled, after_word m key had.1 c had.2 b answer had.5)

anew : (m : ℕ) (key : Key) (a b : OnCpu) (answer : Option Seen) → HasFoundAnew key a b answer → HasFoundAnew key (sharing m a) (sharing m b) answer
anew m key a b answer had = record {
  head = had.head;
  at_head = sharing m had.at_head;
  heads = assumption (ap (sharing m) had.heads.is, had.heads);
  finds = after_head m had.head key had.at_head b answer had.finds;
}

kept : (m : ℕ) (key : Key) (a b : OnCpu) (answer : Option Seen) → HasFoundKept key a b answer → HasFoundKept key (sharing m a) (sharing m b) answer
kept m key a b answer had = record { left = sharing m had.left; finds = assumption (ap (sharing m) had.finds.is, had.finds); is = ap (sharing m) had.is; remembers = had.remembers }

vain : (m : ℕ) (s : Seen) (a b : OnCpu) → HasRecalledInVain s a b → HasRecalledInVain s (sharing m a) (sharing m b)
vain m s a b had = record { pass = had.pass; is = ap (sharing m) had.is; word = had.word; other = had.other; log = had.log }

finds_by : (m : ℕ) (o : Option Seen) (key : Key) (a b : OnCpu) (answer : Option Seen) → FindsBy o key a b answer → FindsBy o key (sharing m a) (sharing m b) answer
finds_by m None key a b answer had = anew m key a b answer had
finds_by m (Some s) key a b answer (inl had) = inl (had.0, assumption (ap (sharing m) had.1.is, had.1))
finds_by m (Some s) key a b answer (inr had) = inr (sharing m had.0, vain m s a had.0 had.1, anew m key had.0 b answer had.2)

pub found_by_memory : (m : ℕ) (key : Key) (a b : OnCpu) (answer : Option Seen) → HasFoundByMemory key a b answer → HasFoundByMemory key (sharing m a) (sharing m b) answer
found_by_memory m key a b answer had = (had.0, had.1, finds_by m had.0 key a b answer had.2)

pub found_inside : (m : ℕ) (key : Key) (a b : OnCpu) (answer : Option Seen) → FindsInside key a b answer → FindsInside key (sharing m a) (sharing m b) answer
found_inside m key a b answer (None, at, had) = (None, at, kept m key a b answer had)
found_inside m key a b answer (Some s, at, inl had) = (Some s, at, inl (had.0, assumption (ap (sharing m) had.1.is, had.1)))
found_inside m key a b answer (Some s, at, inr had) = (Some s, at, inr (sharing m had.0, vain m s a had.0 had.1, kept m key had.0 b answer had.2))
