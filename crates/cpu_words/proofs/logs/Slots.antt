-- What the keeper's log says of slots: which entry each has, and that all CPUs have passed for the last one where it is gone.
use Rattle.std.proofs.Common.{◌≡◌, ◌==◌, ℕ, suc, ◌+◌, Bool, false, if◌then◌else◌, List, [], ◌∷◌, ◌++◌, refl, sym, ap, ◌∙◌, arith, inl, inr, ⊎_elim, ◌<◌, true, length, set, replicate, Option, None, eq-eqb, ne_eqb, ◌≢◌, ◌⊎◌, ◌||◌, length-set}
use Rattle.std.proofs.lemmas.Bool.{and_parts}
use Rattle.cpu_words.specs.Types.{Event, Publish, Unpublish, Republish, Entry, Slot, Vacant, Live, Retired, Settings, Reply, Done}
use Rattle.registry_values.specs.Common.{slot_at}
use Rattle.protocol.specs.Common.{State, opening, is_drained, Holds}
use Rattle.protocol.proofs.Made.{Made, Publishes, Unpublishes, Republishes, SubsKept, Vacates}
use Rattle.protocol.proofs.keeps.ListKeeps.{may_publish_tells}
use Rattle.protocol.proofs.keeps.MarkKeeps.{is_drained_tells}
use Rattle.protocol.proofs.keeps.Replacing.{may_republish_tells}
use Rattle.protocol.proofs.Either.{either}
use Rattle.protocol.proofs.keeps.Linking.{within_live}
use Rattle.protocol.proofs.Cells.{get_or_all, place_put}
use Rattle.protocol.proofs.Occupied.{live_one, not_vacant, retired_one, slot_cases}
use Rattle.cpu_words.specs.Common.{LogItem, changes_of, changes_in, is_detach_from, KeepsEntry, Standing, nothing, attached, detached, number_of, stands_after, stands_from, standing, IsDetachedFrom, is_change_at, KeepsSlot, Teller, HasPassedOn, AreMarksOf, AreSlotsOf}
use Rattle.cpu_words.proofs.logs.Loads.{moves_past}
use Rattle.cpu_words.proofs.logs.Marks.{passed_more}
use Rattle.cpu_words.proofs.logs.Runs.{item_as, item_of}

-- What slots have by a log, and how that goes on.

pushes : (e : Event) (a b : ℕ) → changes_of e (a + b) ≡ changes_of e a + b
pushes (Publish t) a b = omega arith
pushes (Unpublish t) a b = omega arith
pushes (Republish t u) a b = omega arith
pushes e a b = refl

pub changes_both : (a b : List LogItem) → changes_in (a ++ b) ≡ changes_in a + changes_in b
changes_both [] b = omega arith
changes_both (d ∷ ds) b = ap (changes_of d.event) (changes_both ds b) ∙ pushes d.event (changes_in ds) (changes_in b)

pub changes_last : (log : List LogItem) (d : LogItem) → changes_in (log ++ d ∷ []) ≡ changes_of d.event (changes_in log)
changes_last log d = changes_both log (d ∷ []) ∙ omega (arith, moves_past d.event (changes_in log) 0)

stands_both : (t n : ℕ) (x : Standing) (a b : List LogItem) → stands_from t n x (a ++ b) ≡ stands_from t (changes_in a + n) (stands_from t n x a) b
stands_both t n x [] b = let same : n ≡ 0 + n = omega arith in ap (λ (m : ℕ). stands_from t m x b) same
stands_both t n x (d ∷ ds) b =
    stands_both t (changes_of d.event n) (stands_after t n d.event x) ds b
    ∙ ap (λ (m : ℕ). stands_from t m (stands_from t (changes_of d.event n) (stands_after t n d.event x) ds) b) (sym (moves_past d.event (changes_in ds) n))

pub standing_both : (t : ℕ) (a b : List LogItem) → standing t (a ++ b) ≡ stands_from t (changes_in a) (standing t a) b
standing_both t a b = let same : changes_in a + 0 ≡ changes_in a = omega arith in stands_both t 0 nothing a b ∙ ap (λ (m : ℕ). stands_from t m (standing t a) b) same

pub standing_last : (t : ℕ) (log : List LogItem) (d : LogItem) → standing t (log ++ d ∷ []) ≡ stands_after t (changes_in log) d.event (standing t log)
standing_last t log d = standing_both t log (d ∷ [])

-- an event that is no change at the slot leaves what it has

or_false : (a b : Bool) → (a || b) ≡ false → (a ≡ false) × (b ≡ false)
or_false true b is = absurd (let q : true ≡ false = is in cc)
or_false false b is = (refl, is)

pub left_standing : (t n : ℕ) (e : Event) (x : Standing) → is_change_at t e ≡ false → stands_after t n e x ≡ x
left_standing t n (Publish u) x other = ap (λ (b : Bool). if b then attached (suc n) else x) other
left_standing t n (Unpublish u) x other = ap (λ (b : Bool). if b then detached (number_of x) else x) other
left_standing t n (Republish v u) x other =
    let p = or_false (v == t) (u == t) other in
    ap (λ (b : Bool). if b then attached (suc n) else (if u == t then detached (number_of x) else x)) p.0 ∙ ap (λ (b : Bool). if b then detached (number_of x) else x) p.1
left_standing t n e x other = refl

pub no_detach_from : (t : ℕ) (e : Event) → is_change_at t e ≡ false → is_detach_from t e ≡ false
no_detach_from t (Unpublish u) other = other
no_detach_from t (Republish v u) other = (or_false (v == t) (u == t) other).1
no_detach_from t e other = refl

-- a log that goes on without a change at the slot

pub kept_entry : (t : ℕ) (ds : List LogItem) → KeepsSlot t ds → KeepsEntry t ds
kept_entry t [] keeps = tt
kept_entry t (d ∷ ds) keeps = (no_detach_from t d.event keeps.0, kept_entry t ds keeps.1)

kept_from : (t n : ℕ) (x : Standing) (ds : List LogItem) → KeepsSlot t ds → stands_from t n x ds ≡ x
kept_from t n x [] keeps = refl
kept_from t n x (d ∷ ds) keeps = kept_from t (changes_of d.event n) (stands_after t n d.event x) ds keeps.1 ∙ left_standing t n d.event x keeps.0

pub kept_standing : (t : ℕ) (log ds : List LogItem) → KeepsSlot t ds → standing t (log ++ ds) ≡ standing t log
kept_standing t log ds keeps = standing_both t log ds ∙ kept_from t (changes_in log) (standing t log) ds keeps

pub kept_parts : (t : ℕ) (a b : List LogItem) → KeepsSlot t (a ++ b) → KeepsSlot t a × KeepsSlot t b
kept_parts t [] b keeps = (tt, keeps)
kept_parts t (d ∷ ds) b keeps = let p = kept_parts t ds b keeps.1 in ((keeps.0, p.0), p.1)

-- an entry has one number

pub one_detached : (t n m : ℕ) (log : List LogItem) → IsDetachedFrom t n log → IsDetachedFrom t m log → n ≡ m
one_detached t n m log first second = ap number_of (sym first ∙ second)

pub not_attached : (t n m : ℕ) (log : List LogItem) → IsDetachedFrom t n log → standing t log ≡ attached m → ⊥
not_attached t n m log gone here = let q : detached n ≡ attached m = sym gone ∙ here in cc

-- What the keeper's log says of slots: which entry each has, and that all CPUs have passed for the last one where a slot is vacant.

-- The events that are no attach and no detach

-- a slot that was drained becomes vacant
vacated_slots : (s : State) (t : ℕ) (log : List LogItem) → Holds s → is_drained s t ≡ true → AreMarksOf log s.marks → AreSlotsOf s.settings.cpus log s.slots
    → AreSlotsOf s.settings.cpus log (set s.slots t Vacant)
vacated_slots s t log on drained marks are =
    let told = is_drained_tells s t on drained in record {
      live = λ u e. place_put Vacant s.slots t Vacant (λ v x. x ≡ Live e → standing v log ≡ attached e.number) u (λ is. absurd (let q : Vacant ≡ Live e = is in cc)) (are.live u e);
      retired = λ u e. place_put Vacant s.slots t Vacant (λ v x. x ≡ Retired e → standing v log ≡ detached e.number) u (λ is. absurd (let q : Vacant ≡ Retired e = is in cc)) (are.retired u e);
      vacant = λ u n c. place_put Vacant s.slots t Vacant (λ v x. x ≡ Vacant → standing v log ≡ detached n → c < s.settings.cpus → HasPassedOn v c log) u
          (λ is gone low. marks.passed t c (told.2 c low)) (are.vacant u n c);
    }

-- the log goes on
more_slots : (cpus : ℕ) (log : List LogItem) (slots : List Slot) (d : LogItem) → ((t : ℕ) → is_change_at t d.event ≡ false) → AreSlotsOf cpus log slots → AreSlotsOf cpus (log ++ d ∷ []) slots
more_slots cpus log slots d other are =
    let same : (t : ℕ) → standing t (log ++ d ∷ []) ≡ standing t log = λ t. standing_last t log d ∙ left_standing t (changes_in log) d.event (standing t log) (other t) in record {
      live = λ t e is. same t ∙ are.live t e is;
      retired = λ t e is. same t ∙ are.retired t e is;
      vacant = λ t n c is gone low. passed_more t c log d (no_detach_from t d.event (other t)) (are.vacant t n c is (sym (same t) ∙ gone) low);
    }

-- Attach and detach

-- what the other slots have stays
elsewhere : (cpus : ℕ) (log : List LogItem) (slots : List Slot) (d : LogItem) (t : ℕ) (x : Slot) → t < length slots → ((u : ℕ) → (u ≡ t → ⊥) → is_change_at u d.event ≡ false)
    → AreSlotsOf cpus log slots
    → ((e : Entry) → x ≡ Live e → standing t (log ++ d ∷ []) ≡ attached e.number) → ((e : Entry) → x ≡ Retired e → standing t (log ++ d ∷ []) ≡ detached e.number) → (x ≡ Vacant → ⊥)
    → AreSlotsOf cpus (log ++ d ∷ []) (set slots t x)
elsewhere cpus log slots d t x lt other are live retired occupied =
    let new : List Slot = set slots t x in
    let l : List LogItem = log ++ d ∷ [] in
    let same : (u : ℕ) → (u ≡ t → ⊥) → standing u l ≡ standing u log = λ u off. standing_last u log d ∙ left_standing u (changes_in log) d.event (standing u log) (other u off) in record {
      live = λ u e is. ⊎_elim
          (λ (here : (u ≡ t) × (slot_at new u ≡ x)). ap (λ (k : ℕ). standing k l) here.0 ∙ live e (sym here.1 ∙ is))
          (λ (old : (u ≡ t → ⊥) × (slot_at new u ≡ slot_at slots u)). same u old.0 ∙ are.live u e (sym old.1 ∙ is))
          (slot_cases slots t x u lt);
      retired = λ u e is. ⊎_elim
          (λ (here : (u ≡ t) × (slot_at new u ≡ x)). ap (λ (k : ℕ). standing k l) here.0 ∙ retired e (sym here.1 ∙ is))
          (λ (old : (u ≡ t → ⊥) × (slot_at new u ≡ slot_at slots u)). same u old.0 ∙ are.retired u e (sym old.1 ∙ is))
          (slot_cases slots t x u lt);
      vacant = λ u n c is gone low. ⊎_elim
          (λ (here : (u ≡ t) × (slot_at new u ≡ x)). absurd (occupied (sym here.1 ∙ is)))
          (λ (old : (u ≡ t → ⊥) × (slot_at new u ≡ slot_at slots u)). passed_more u c log d (no_detach_from u d.event (other u old.0))
          (are.vacant u n c (sym old.1 ∙ is) (sym (same u old.0) ∙ gone) low))
          (slot_cases slots t x u lt);
    }

attached_slots : (cpus : ℕ) (log : List LogItem) (slots : List Slot) (t : ℕ) (r : Reply) (e : Entry) → t < length slots → e.number ≡ suc (changes_in log) → AreSlotsOf cpus log slots
    → AreSlotsOf cpus (log ++ item_as (Publish t) r None ∷ []) (set slots t (Live e))
attached_slots cpus log slots t r e lt number are =
    let d = item_as (Publish t) r None in
    elsewhere cpus log slots d t (Live e) lt (λ u off. ne_eqb t u (λ (same : t ≡ u). off (sym same))) are
    (λ f is.
    standing_last t log d ∙ (ap (λ (b : Bool). if b then attached (suc (changes_in log)) else standing t log) (eq-eqb t t refl)
    ∙ ap attached (sym number ∙ sym (ap (λ (g : Entry). g.number) (live_one f e (Live e) refl (inl is))))))
    (λ f is. absurd (let q : Live e ≡ Retired f = is in cc))
    (λ is. let q : Live e ≡ Vacant = is in cc)

detached_slots : (cpus : ℕ) (log : List LogItem) (slots : List Slot) (t : ℕ) (r : Reply) (e : Entry) → slot_at slots t ≡ Live e → AreSlotsOf cpus log slots
    → AreSlotsOf cpus (log ++ item_as (Unpublish t) r None ∷ []) (set slots t (Retired e))
detached_slots cpus log slots t r e at are =
    let d = item_as (Unpublish t) r None in
    elsewhere cpus log slots d t (Retired e) (within_live slots t e at) (λ u off. ne_eqb t u (λ (same : t ≡ u). off (sym same))) are
    (λ f is. absurd (let q : Retired e ≡ Live f = is in cc))
    (λ f is.
    standing_last t log d ∙ (ap (λ (b : Bool). if b then detached (number_of (standing t log)) else standing t log) (eq-eqb t t refl)
    ∙ (ap (λ (x : Standing). detached (number_of x)) (are.live t e at) ∙ ap detached (sym (ap (λ (g : Entry). g.number) (retired_one f e (Retired e) refl (inr is)))))))
    (λ is. let q : Retired e ≡ Vacant = is in cc)

-- one comes into the slot t as another goes from u
replaced_slots : (cpus : ℕ) (log : List LogItem) (slots : List Slot) (t u : ℕ) (r : Reply) (e f : Entry) → t < length slots → slot_at slots t ≡ Vacant → slot_at slots u ≡ Live f
    → e.number ≡ suc (changes_in log) → AreSlotsOf cpus log slots → AreSlotsOf cpus (log ++ item_as (Republish t u) r None ∷ []) (set (set slots t (Live e)) u (Retired f))
replaced_slots cpus log slots t u r e f lt vacant at number are =
    let d = item_as (Republish t u) r None in
    let l : List LogItem = log ++ d ∷ [] in
    let first : List Slot = set slots t (Live e) in
    let new : List Slot = set first u (Retired f) in
    let apart : t ≢ u = λ same. (let q : Vacant ≡ Live f = sym vacant ∙ (ap (slot_at slots) same ∙ at) in cc) in
    let lu : u < length first = omega (arith, within_live slots u f at, length-set slots t (Live e)) in
    let come : standing t l ≡ attached e.number = standing_last t log d
    ∙ (ap (λ (b : Bool). if b then attached (suc (changes_in log)) else (if u == t then detached (number_of (standing t log)) else standing t log)) (eq-eqb t t refl) ∙ ap attached (sym number)) in
    let gone : standing u l ≡ detached f.number = standing_last u log d
    ∙ (ap (λ (b : Bool). if b then attached (suc (changes_in log)) else (if u == u then detached (number_of (standing u log)) else standing u log)) (ne_eqb t u apart)
    ∙ (ap (λ (b : Bool). if b then detached (number_of (standing u log)) else standing u log) (eq-eqb u u refl) ∙ ap (λ (x : Standing). detached (number_of x)) (are.live u f at))) in
    let none : (v : ℕ) → (v ≡ u → ⊥) → (v ≡ t → ⊥) → is_change_at v d.event ≡ false = λ v off other. (λ k. ne_eqb t v (λ (same : t ≡ v). other (sym same)) k || ne_eqb u v (λ (same : u ≡ v). off (sym same)) k) in
    let same : (v : ℕ) → (v ≡ u → ⊥) → (v ≡ t → ⊥) → standing v l ≡ standing v log = λ v off other. standing_last v log d ∙ left_standing v (changes_in log) d.event (standing v log) (none v off other) in
    let is_at : (v : ℕ) (x : Slot) → slot_at new v ≡ x → ((v ≡ u) × (x ≡ Retired f)) ⊎ (((v ≡ t) × (x ≡ Live e)) ⊎ ((v ≡ u → ⊥) × (v ≡ t → ⊥) × (slot_at slots v ≡ x))) = λ v x is. ⊎_elim
    (λ (here : (v ≡ u) × (slot_at new v ≡ Retired f)). inl (here.0, sym is ∙ here.1))
    (λ (off : (v ≡ u → ⊥) × (slot_at new v ≡ slot_at first v)). ⊎_elim
    (λ (there : (v ≡ t) × (slot_at first v ≡ Live e)). inr (inl (there.0, sym is ∙ (off.1 ∙ there.1))))
    (λ (old : (v ≡ t → ⊥) × (slot_at first v ≡ slot_at slots v)). inr (inr (off.0, old.0, sym old.1 ∙ (sym off.1 ∙ is))))
    (slot_cases slots t (Live e) v lt))
    (slot_cases first u (Retired f) v lu) in record {
      live = λ v g is. either (is_at v (Live g) is)
          (λ here. absurd (let q : Live g ≡ Retired f = here.1 in cc))
          (λ rest. either rest
          (λ there. let q : Live g ≡ Live e = there.1 in let one : g ≡ e = cc in ap (λ (k : ℕ). standing k l) there.0 ∙ (come ∙ ap (λ (i : Entry). attached i.number) (sym one)))
          (λ old. same v old.0 old.1 ∙ are.live v g old.2));
      retired = λ v g is. either (is_at v (Retired g) is)
          (λ here. let q : Retired g ≡ Retired f = here.1 in let one : g ≡ f = cc in ap (λ (k : ℕ). standing k l) here.0 ∙ (gone ∙ ap (λ (i : Entry). detached i.number) (sym one)))
          (λ rest. either rest
          (λ there. absurd (let q : Retired g ≡ Live e = there.1 in cc))
          (λ old. same v old.0 old.1 ∙ are.retired v g old.2));
      vacant = λ v n c is is_gone low. either (is_at v Vacant is)
          (λ here. absurd (let q : Vacant ≡ Retired f = here.1 in cc))
          (λ rest. either rest
          (λ there. absurd (let q : Vacant ≡ Live e = there.1 in cc))
          (λ old. passed_more v c log d (no_detach_from v d.event (none v old.0 old.1)) (are.vacant v n c old.2 (sym (same v old.0 old.1) ∙ is_gone) low)));
    }

-- The keeper's next item

pub slots_own : (log : List LogItem) (s n : State) (e : Event) (r : Reply) (h : Option Teller) → Holds s → Made s e n r → length s.history ≡ changes_in log → AreMarksOf log s.marks
    → AreSlotsOf s.settings.cpus log s.slots
    → AreSlotsOf s.settings.cpus (log ++ item_of s e r h ∷ []) n.slots
slots_own log s _ _ _ h on (Publishes t e of may) changes marks are =
    let told = may_publish_tells s t e on.shape may in
    attached_slots s.settings.cpus log s.slots t Done e told.within (omega (arith, told.number, changes)) are
slots_own log s _ _ _ h on (Unpublishes t head next e at rest is) changes marks are = detached_slots s.settings.cpus log s.slots t Done e at are
slots_own log s _ _ _ h on (Republishes t u head next e f of at may is) changes marks are =
    let told = may_republish_tells s t u e f on of at may in
    let swap = told.2.swap in
    replaced_slots s.settings.cpus log s.slots t u Done e f (omega (arith, told.0, swap.within)) (ap (slot_at s.slots) (sym told.0) ∙ swap.vacant) at (omega (arith, swap.number, changes)) are
slots_own log s n e r h on (SubsKept t d u keeps of may) changes marks are =
    more_slots s.settings.cpus log n.slots (item_of s e r h) (λ v. refl) (vacated_slots s t log on (and_parts _ (is_drained s t) may).1 marks are)
slots_own log s n e r h on (Vacates t may) changes marks are =
    more_slots s.settings.cpus log n.slots (item_of s e r h) (λ v. refl) (vacated_slots s t log on (and_parts _ (is_drained s t) may).1 marks are)
slots_own log s n e r h on _ changes marks are = more_slots s.settings.cpus log s.slots (item_of s e r h) (λ t. refl) are

-- before all events each slot is vacant, and had no entry
pub no_slots : (z : Settings) → AreSlotsOf z.cpus [] (opening z).slots
no_slots z = record {
  live = λ t e is. absurd (not_vacant e (slot_at (replicate z.slots Vacant) t) (get_or_all z.slots Vacant t) (inl is));
  retired = λ t e is. absurd (not_vacant e (slot_at (replicate z.slots Vacant) t) (get_or_all z.slots Vacant t) (inr is));
  vacant = λ t n c is gone low. absurd (let q : nothing ≡ detached n = gone in cc);
}
