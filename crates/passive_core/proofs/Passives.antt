-- What the commands on passive references rest on.
use Rattle.std.proofs.Common.{◌≡◌, ℕ, ◌+◌, ◌-◌, ◌<◌, Option, Some, None, IsSome, Bool, true, false, not, ◌&&◌, ◌||◌, nat_lt, refl, sym, ap, subst, ◌∙◌, arith}
use Rattle.std.proofs.lemmas.Bool.{or_cases, or_right, cases_lt, le-ltb}
use Rattle.passive_core.specs.Types.{Entry, PassiveAdd, PassiveSub, Reply, Word}
use Rattle.protocol.specs.Common.{State, found_at, passive_at, row_at, with_cell, IsAttached, Outcome, is_idle, is_number, after_add, after_sub, load_passive, state_after, narrow_step, some_outcome, word, words_of, Holds, passive_in, trying_at}
use Rattle.registry_values.specs.Common.{slot_of}
use Rattle.passive_core.specs.Common.{all_seated, may_act, IsOneLess, IsOneMore, passive_of, with_one_more, with_one_less}
use Rattle.protocol.proofs.Cells.{entry_attached, occupied_slot}
use Rattle.protocol.proofs.keeps.Marking.{found_number}
use Rattle.protocol.proofs.model.RefiningReferences.{passive_put}
use Rattle.protocol.proofs.Occupied.{slot_has}
use Rattle.passive_core.proofs.Entering.{acting_idle, idle_untried}
use Rattle.protocol.proofs.Either.{either}

-- A CPU that may act is idle once all have their seats.

pub both : (a b : Bool) → a ≡ true → b ≡ true → (a && b) ≡ true
both true b is too = too
both false b is too = is

-- and a CPU that might act before still may
pub may_still : (s : State) → Holds s → (d : ℕ) → may_act s d ≡ true → may_act (all_seated s) d ≡ true
may_still s on d may = either (cases_lt d s.settings.cpus)
    (λ lt. or_right (not (nat_lt d s.settings.cpus)) (is_idle (all_seated s) d) (acting_idle s d on lt may))
    (λ ge. let out : nat_lt d s.settings.cpus ≡ false = le-ltb d s.settings.cpus ge in rw out refl)

-- What a CPU has found, or holds a passive reference to, has its slot.

pub found_slot : (s : State) (c : ℕ) (e : Entry) → Holds s → found_at s c ≡ Some e → (t : ℕ) × (slot_of s.slots e.number ≡ Some t)
found_slot s c e on found =
    let open_ = on.last_found c e found in
    occupied_slot s.history s.slots e.number on.slots (e.slot, e, on.held c open_.0 e open_.1 open_.2, refl)

held_slot : (passive : _) (hands : _) (c : ℕ) (o : Option ℕ) → nat_lt 0 (passive_in passive hands c o) ≡ true → (t : ℕ) × (o ≡ Some t)
held_slot passive hands c None held = absurd (let q : ◌≡◌ {A = Bool} false true = held in cc)
held_slot passive hands c (Some t) held = (t, refl)

pub has_slot : (s : State) (c n : ℕ) → Holds s → (is_number n (found_at s c) || nat_lt 0 (passive_of s c n)) ≡ true → (t : ℕ) × (slot_of s.slots n ≡ Some t)
has_slot s c n on has = either (or_cases (is_number n (found_at s c)) (nat_lt 0 (passive_of s c n)) has)
    (λ is.
    let found = found_number n (found_at s c) is in
    let at = found_slot s c found.0 on found.1 in
    (at.0, ap (slot_of s.slots) (sym found.2) ∙ at.1))
    (λ held. held_slot s.passive s.hands c (slot_of s.slots n) held)

-- what the word of a CPU that is trying nothing counts are references
pub counted_is : (s : State) (c n t : ℕ) → slot_of s.slots n ≡ Some t → trying_at s.hands c t ≡ 0 → passive_of s c n ≡ passive_at s.passive c t
counted_is s c n t of untried =
    let word : passive_at s.passive c t - trying_at s.hands c t ≡ passive_at s.passive c t = omega (arith, untried) in
    ap (passive_in s.passive s.hands c) of ∙ word

-- The addition and the subtraction that a command makes, once all CPUs have their seats.

adds : (s : State) (c n t : ℕ) → slot_of s.slots n ≡ Some t → is_idle s c ≡ true → (is_number n (found_at s c) || nat_lt 0 (passive_of s c n)) ≡ true
    → nat_lt (passive_of s c n) s.settings.passive_limit ≡ true
    → narrow_step s (PassiveAdd c n) ≡ Some (record { state = after_add s c t; reply = Word (passive_at s.passive c t) })
adds s c n t of idle has room =
    let word = counted_is s c n t of (idle_untried s c t idle) in
    let has_at : (is_number n (found_at s c) || nat_lt 0 (passive_at s.passive c t)) ≡ true = subst (λ (k : ℕ). (is_number n (found_at s c) || nat_lt 0 k) ≡ true) word has in
    let room_at : nat_lt (passive_at s.passive c t) s.settings.passive_limit ≡ true = subst (λ (k : ℕ). nat_lt k s.settings.passive_limit ≡ true) word room in
    rw (of, idle, has_at, room_at) refl

subs : (s : State) (c n t : ℕ) → slot_of s.slots n ≡ Some t → is_idle s c ≡ true → nat_lt 0 (passive_of s c n) ≡ true
    → narrow_step s (PassiveSub c n) ≡ Some (record { state = after_sub s c t; reply = Word (passive_at s.passive c t) })
subs s c n t of idle held =
    let held_at : nat_lt 0 (passive_at s.passive c t) ≡ true = subst (λ (k : ℕ). nat_lt 0 k ≡ true) (counted_is s c n t of (idle_untried s c t idle)) held in
    rw (of, idle, held_at) refl

pub made : (s : State) (o p : Option Outcome) (v : State) (r : Reply) → o ≡ p → o ≡ Some (record { state = v; reply = r }) → v ≡ state_after s p
made s o p v r is was = ap (state_after s) (sym was ∙ is)

pub is_some : (o p : Option Outcome) → o ≡ p → IsSome p → IsSome o
is_some o p is some = subst IsSome (sym is) some

-- the CPU may add, and holds then one more
pub add_allowed : (s u : State) (c n : ℕ) → Holds s → u ≡ all_seated s → is_idle u c ≡ true → (is_number n (found_at s c) || nat_lt 0 (passive_of s c n)) ≡ true
    → nat_lt (passive_of s c n) s.settings.passive_limit ≡ true → IsSome (narrow_step u (PassiveAdd c n))
add_allowed s u c n on seated idle has room =
    let t = has_slot s c n on has in
    subst (λ (x : State). IsSome (narrow_step x (PassiveAdd c n))) (sym seated)
    (is_some (narrow_step (all_seated s) (PassiveAdd c n)) _ (adds (all_seated s) c n t.0 t.1 (subst (λ (x : State). is_idle x c ≡ true) seated idle) has room) refl)

pub added : (s u v : State) (c n : ℕ) (r : Reply) → Holds s → u ≡ all_seated s → is_idle u c ≡ true → (is_number n (found_at s c) || nat_lt 0 (passive_of s c n)) ≡ true
    → nat_lt (passive_of s c n) s.settings.passive_limit ≡ true
    → narrow_step u (PassiveAdd c n) ≡ Some (record { state = v; reply = r }) → v ≡ with_one_more s c (slot_of s.slots n)
added s u v c n r on seated idle has room was =
    let t = has_slot s c n on has in
    made s (narrow_step (all_seated s) (PassiveAdd c n)) _ v r (adds (all_seated s) c n t.0 t.1 (subst (λ (x : State). is_idle x c ≡ true) seated idle) has room)
    (subst (λ (x : State). narrow_step x (PassiveAdd c n) ≡ Some (record { state = v; reply = r })) seated was)
    ∙ ap (with_one_more s c) (sym t.1)

pub sub_allowed : (s u : State) (c n : ℕ) → u ≡ all_seated s → is_idle u c ≡ true → nat_lt 0 (passive_of s c n) ≡ true → IsSome (narrow_step u (PassiveSub c n))
sub_allowed s u c n seated idle held =
    let t = held_slot s.passive s.hands c (slot_of s.slots n) held in
    subst (λ (x : State). IsSome (narrow_step x (PassiveSub c n))) (sym seated)
    (is_some (narrow_step (all_seated s) (PassiveSub c n)) _ (subs (all_seated s) c n t.0 t.1 (subst (λ (x : State). is_idle x c ≡ true) seated idle) held) refl)

pub subbed : (s u v : State) (c n : ℕ) (r : Reply) → u ≡ all_seated s → is_idle u c ≡ true → nat_lt 0 (passive_of s c n) ≡ true
    → narrow_step u (PassiveSub c n) ≡ Some (record { state = v; reply = r }) → v ≡ with_one_less s c (slot_of s.slots n)
subbed s u v c n r seated idle held was =
    let t = held_slot s.passive s.hands c (slot_of s.slots n) held in
    made s (narrow_step (all_seated s) (PassiveSub c n)) _ v r (subs (all_seated s) c n t.0 t.1 (subst (λ (x : State). is_idle x c ≡ true) seated idle) held)
    (subst (λ (x : State). narrow_step x (PassiveSub c n) ≡ Some (record { state = v; reply = r })) seated was)
    ∙ ap (with_one_less s c) (sym t.1)

-- The multiset of the passive references after one more, or one less.
pub counted_more : (s : State) (c n : ℕ) → Holds s → c < s.settings.cpus → ((t : ℕ) → trying_at s.hands c t ≡ 0)
    → (is_number n (found_at s c) || nat_lt 0 (passive_of s c n)) ≡ true → IsOneMore s (with_one_more s c (slot_of s.slots n)) c n
counted_more s c n on low untried has d m =
    let t = has_slot s c n on has in
    let put_it = passive_put s c n t.0 (passive_of s c n + 1) on low t.1 (untried t.0) d m in
    ap (λ (o : Option ℕ). passive_of (with_one_more s c o) d m) t.1
    ∙ (ap (λ (k : ℕ). passive_in (with_cell s.passive t.0 c (k + 1)) s.hands d (slot_of s.slots m)) (sym (counted_is s c n t.0 t.1 (untried t.0))) ∙ sym put_it)

pub counted_less : (s : State) (c n : ℕ) → Holds s → c < s.settings.cpus → ((t : ℕ) → trying_at s.hands c t ≡ 0) → nat_lt 0 (passive_of s c n) ≡ true
    → IsOneLess s (with_one_less s c (slot_of s.slots n)) c n
counted_less s c n on low untried held d m =
    let t = held_slot s.passive s.hands c (slot_of s.slots n) held in
    let put_it = passive_put s c n t.0 (passive_of s c n - 1) on low t.1 (untried t.0) d m in
    ap (λ (o : Option ℕ). passive_of (with_one_less s c o) d m) t.1
    ∙ (ap (λ (k : ℕ). passive_in (with_cell s.passive t.0 c (k - 1)) s.hands d (slot_of s.slots m)) (sym (counted_is s c n t.0 t.1 (untried t.0))) ∙ sym put_it)

-- What the loads by a passive reference show: the words of the entry that has the number.

pub record ShowsRecord (s : State) (n : ℕ) (load : ℕ → Option Outcome) : Type 0 where
  pub entry : Entry
  pub attached : IsAttached s.history entry
  pub numbered : entry.number ≡ n
  pub loads : (k : ℕ) → nat_lt k 5 ≡ true → load k ≡ some_outcome s (Word (word (words_of entry) k))

loads_at : (s : State) (c n t k : ℕ) (e : Entry) → slot_of s.slots n ≡ Some t → is_idle s c ≡ true → nat_lt 0 (passive_at s.passive c t) ≡ true → nat_lt k 5 ≡ true → row_at s.rows t ≡ words_of e
    → load_passive s c n k ≡ some_outcome s (Word (word (words_of e) k))
loads_at s c n t k e of idle some few row = rw (of, idle, some, few, row) refl

pub passive_shows : (s : State) (c n : ℕ) → Holds s → is_idle s c ≡ true → nat_lt 0 (passive_of s c n) ≡ true → ShowsRecord s n (load_passive s c n)
passive_shows s c n on idle held =
    let t = held_slot s.passive s.hands c (slot_of s.slots n) held in
    let has = slot_has s.slots n t.0 t.1 in
    let e = has.1.0 in
    let row = on.rows t.0 e has.1.1 in
    let some : nat_lt 0 (passive_at s.passive c t.0) ≡ true = subst (λ (k : ℕ). nat_lt 0 k ≡ true) (counted_is s c n t.0 t.1 (idle_untried s c t.0 idle)) held in
    record {
      entry = e;
      attached = (entry_attached s.history s.slots e t.0 on.slots has.1.1).0;
      numbered = has.1.2;
      loads = λ k few. loads_at s c n t.0 k e t.1 idle some few row.0;
    }

abbrev word_in : Reply → ℕ
word_in (Word w) = w
word_in _ = 0

abbrev replied : Option Outcome → ℕ
replied None = 0
replied (Some o) = word_in o.reply

-- the word that a load replied is the word there
pub same_word : (s : State) (o : Option Outcome) (v w : ℕ) → o ≡ some_outcome s (Word v) → o ≡ some_outcome s (Word w) → v ≡ w
same_word s o v w is was = ap replied (sym is ∙ was)

-- a load in the same state is allowed, and replies the word of that entry
pub load_ok : (s u : State) (n k : ℕ) (load : State → ℕ → Option Outcome) → ShowsRecord s n (load s) → u ≡ s → nat_lt k 5 ≡ true → (w : ℕ) × (load u k ≡ some_outcome u (Word w))
load_ok s u n k load shows same few = subst (λ (x : State). (w : ℕ) × (load x k ≡ some_outcome x (Word w))) (sym same) (word (words_of shows.entry) k, shows.loads k few)

pub word_is : (s u : State) (n k v : ℕ) (load : State → ℕ → Option Outcome) (shows : ShowsRecord s n (load s)) → u ≡ s → nat_lt k 5 ≡ true → load u k ≡ some_outcome u (Word v)
    → v ≡ word (words_of shows.entry) k
word_is s u n k v load shows same few was = same_word s (load s k) v (word (words_of shows.entry) k) (subst (λ (x : State). load x k ≡ some_outcome x (Word v)) same was) (shows.loads k few)
