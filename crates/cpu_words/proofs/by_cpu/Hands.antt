-- What is in a CPU's hand changes, and the places of references: why the other views stay, and what a split or a join of the CPU's seat makes.
use Rattle.std.proofs.Common.{◌≡◌, ◌≢◌, inl, ℕ, ◌+◌, ◌==◌, Bool, false, List, set, sum_by, Option, Some, None, refl, sym, ap, ◌∙◌, subst, arith, get_or-set_same, get_or-set_other}
use Rattle.atomic_table.specs.Table.{Splits, Joins}
use Rattle.cpu_words.specs.Types.{Entry, Settings, Event, SplitRef, JoinRef, SplitBack, Reply, Done, Ref, Hand, Empty, Taking, Giving, Back, Trying, LocalPlace, Standing, Lifted}
use Rattle.registry_values.specs.Common.{slot_at}
use Rattle.protocol.specs.Common.{IsIn, IsAttached, State, hand_at, local_at, step, number_standing, least_id, with_local, split_ref, split_back, one_if, standing_of}
use Rattle.protocol.proofs.counts.Bounds.{back_within}
use Rattle.protocol.proofs.keeps.References.{back_holds}
use Rattle.protocol.proofs.counts.Sums.{local_changed, local_added, standing_within}
use Rattle.cpu_words.proofs.shown.Showing.{standing_in, shows_split, JoinsSo, joins_on, reference_place, goes_to}
use Rattle.cpu_words.proofs.logs.Logs.{tells_nothing, names_nobody, seat_cut, seat_join}
use Rattle.cpu_words.specs.Common.{InHand, CpuView, ReferenceView, Logged, View, Cpu, Reference, Spot, section_of, word_at, is_to, references_to, SameHand, HandFits, IsCollectedFor, CpuShown, ReferenceShown, cpu_of, reference_of, Good, number_or_none, by_number, did, SplitsBy, JoinsBy, SplitsOn, IsIdle, IsTrying, trying_in, HasNone, is_border, is_hear}
use Rattle.cpu_words.specs.declared.view.InHand.TheVariants.{Empty as NoEntry, Taking as TakingEntry, Giving as GivingEntry, Back as BackEntry, Trying as TryingEntry}
use Rattle.cpu_words.specs.Logs
use Rattle.cpu_words.specs.Locals
use Rattle.cpu_words.proofs.shown.Placing.{agrees_same}
use Rattle.cpu_words.proofs.by_cpu.CpuSteps.{with_lists, LeavesOthers, cpu_stays, good_after}
use Rattle.cpu_words.proofs.shown.Seeing.{seen_of, idle_of, idle_tries}
use Rattle.std.proofs.lemmas.Option.{same_Some}

-- another hand of the CPU c, and other places of references
abbrev pub hand_lists : State → ℕ → Hand → List LocalPlace → State
hand_lists g c h locals = record g { hands = set g.hands c h; locals = locals }

abbrev pub handed : State → ℕ → Hand → List LocalPlace → State
handed g c h locals = with_lists g (hand_lists g c h locals)

pub leaves_hands : (g : State) (c : ℕ) (h : Hand) (locals : List LocalPlace) → LeavesOthers g c (hand_lists g c h locals)
leaves_hands g c h locals = assumption (λ (d : ℕ) (ne : d ≢ c). get_or-set_other g.hands c d h Empty ne)

-- no word is a hand's
pub same_words : (g : State) (c : ℕ) (h : Hand) (locals : List LocalPlace) (q : Spot) → word_at (handed g c h locals) q ≡ word_at g q
same_words g c h locals (section_of d) = refl
same_words g c h locals q = refl

-- the hands that are of one kind and one number

pub same_taking : (h : Hand) (e : Entry) → SameHand h (TakingEntry e) → h ≡ Taking e.number
same_taking (Taking n) e same = ap Taking same
same_taking h e same = absurd same

pub same_giving : (h : Hand) (e : Entry) → SameHand h (GivingEntry e) → (id : ℕ) × (h ≡ Giving e.number id)
same_giving (Giving n id) e same = (id, ap (λ m. Giving m id) same)
same_giving h e same = absurd same

pub same_back : (h : Hand) (e : Entry) → SameHand h (BackEntry e) → (id : ℕ) × (h ≡ Back e.number id)
same_back (Back n id) e same = (id, ap (λ m. Back m id) same)
same_back h e same = absurd same

pub same_trying : (h : Hand) (e : Entry) → SameHand h (TryingEntry e) → h ≡ Trying e.slot e.number
same_trying (Trying t n) e same = λ k. Trying (same.0 k) (same.1 k)
same_trying h e same = absurd same

pub taking_hand : (g : State) (x : CpuView) (e : Entry) → CpuShown g x → Locals.IsTaking x e → hand_at g x.id ≡ Taking e.number
taking_hand g x e had is = same_taking (hand_at g x.id) e (subst (SameHand (hand_at g x.id)) is had.hand)

pub giving_hand : (g : State) (x : CpuView) (e : Entry) → CpuShown g x → x.hand ≡ GivingEntry e → (id : ℕ) × (hand_at g x.id ≡ Giving e.number id)
giving_hand g x e had is = same_giving (hand_at g x.id) e (subst (SameHand (hand_at g x.id)) is had.hand)

pub back_hand : (g : State) (x : CpuView) (e : Entry) → CpuShown g x → Locals.IsBack x e → (id : ℕ) × (hand_at g x.id ≡ Back e.number id)
back_hand g x e had is = same_back (hand_at g x.id) e (subst (SameHand (hand_at g x.id)) is had.hand)

pub trying_hand : (g : State) (x : CpuView) (e : Entry) → CpuShown g x → IsTrying x e → hand_at g x.id ≡ Trying e.slot e.number
trying_hand g x e had is = same_trying (hand_at g x.id) e (subst (SameHand (hand_at g x.id)) is had.hand)

pub shown_hand : (g : State) (x : CpuView) (h : Hand) (locals : List LocalPlace) (k : InHand) → Good g → CpuShown g x → SameHand h k → HandFits g.history g.slots g.marks x.id k
    → ((t : ℕ) → trying_in t k ≡ trying_in t x.hand) → CpuShown (handed g x.id h locals) (Locals.with_hand x k)
shown_hand g x h locals k good had same fits tries =
    let seen = seen_of g x good had in assumption (
      ap (λ (v : CpuView). Locals.with_hand v k) had.is,
      subst (λ j. SameHand j k) (sym (get_or-set_same g.hands x.id h Empty seen.in_hands)) same,
      fits,
      λ (t : ℕ) (e : Entry) (here : IsIn e (slot_at g.slots t)). had.passive t e here ∙ ap (λ n. references_to e.number x.references + n) (sym (tries t)),
      had,
    )

-- A reference leaves the hand

-- the event that takes the reference out of the CPU's hand, and what it leaves
pub record Leaving (e : Event) (x : CpuView) (g : State) : Type 0 where
  pub r : Reply
  pub h : Hand
  pub locals : List LocalPlace
  pub made : step g e ≡ Some (record { state = handed g x.id h locals; reply = r })
  pub same : SameHand h NoEntry
  pub tries : (t : ℕ) → trying_in t NoEntry ≡ trying_in t x.hand
  -- the reply is an id, which the seat isn't told
  pub told : did (by_number g e) r ≡ did e (Ref 0)
  pub right : ReferenceShown g (Locals.reference_in x.id x.hand)
  pub count : (n : ℕ) → one_if (is_to n (Locals.reference_in x.id x.hand).entry) + standing_in n g ≡ sum_by (standing_of n) locals

abbrev pub LeavesHand : Event → CpuView → Type 0
LeavesHand e x = (g : State) → Good g → CpuShown g x → Leaving e x g

splits_by : (x : CpuView) (e : Event) → LeavesHand e x → SplitsBy e (Cpu x) (Locals.with_empty_hand (Cpu x)) (Locals.reference_of_hand (Cpu x))
splits_by x e leaves g good had =
    let p = leaves g good had in record {
      after = handed g x.id p.h p.locals;
      reply = p.r;
      made = p.made;
      good_after = good_after g (hand_lists g x.id p.h p.locals) x.id e p.r good (leaves_hands g x.id p.h p.locals) had.seated p.made;
      shown = shown_hand g x p.h p.locals NoEntry good had p.same tt p.tries;
      shown_right = record { attached = p.right.attached; collected = p.right.collected };
      count = λ n. let h = p.count n in omega arith;
    }

splits : (z : Settings) (i : ℕ) (x : CpuView) (e : Event) → LeavesHand e x → SplitsOn z i (Cpu x) (Locals.with_empty_hand (Cpu x)) (Locals.reference_of_hand (Cpu x)) (did e (Ref 0))
splits z i x e leaves s r at =
    let g = r.g in
    let had = r.shows.fits i (Cpu x) at in
    let p = leaves g r.good had.1 in
    let l = hand_lists g x.id p.h p.locals in
    let after = leaves_hands g x.id p.h p.locals in
    goes_to z s r (with_lists g l) r.seat e p.r _ _ p.made p.told (good_after g l x.id e p.r r.good after had.1.seated p.made) refl (omega arith) (λ c lt. refl)
    (agrees_same z s.words g (with_lists g l) r.words refl (λ q there. same_words g x.id p.h p.locals q))
    (shows_split g (with_lists g l) r.seat s.views i (Cpu x) (Locals.with_empty_hand (Cpu x)) (Locals.reference_of_hand (Cpu x)) r.shows at (cpu_stays g l x.id r.seat i after had.0)
    (had.0, shown_hand g x p.h p.locals NoEntry r.good had.1 p.same tt p.tries) (tt, record { attached = p.right.attached; collected = p.right.collected }) (λ c lt. inl lt) refl
    (λ n. let h = p.count n in omega arith))

-- what a hand leaves is a SplitRef or a SplitBack
leaves_quietly : (of : Event → Bool) (c : ℕ) (h : InHand) → ((c : ℕ) → of (SplitRef c) ≡ false) → ((c : ℕ) → of (SplitBack c) ≡ false) → HasNone of (Logs.leaves_hand c h)
leaves_quietly of c (TakingEntry e) split back = (split c, tt)
leaves_quietly of c (BackEntry e) split back = (back c, tt)
leaves_quietly of c k split back = tt

-- the same of a seat, whose view is a CPU's

pub seat_splits : (z : Settings) (i : ℕ) (l : Logged) (x : CpuView) (e : Event) → l ≡ record l { view = Cpu (cpu_of l.view) } → l.ended ≡ false → cpu_of l.view ≡ x → Logs.maker e ≡ Logs.the_cpu x.id
    → Logs.leaves_hand x.id x.hand ≡ did e (Ref 0) → LeavesHand e x
    → Splits (Logs.LoggedRuled z) i l (Logs.logged_after_split Locals.with_empty_hand Logs.cuts_off l) (Logs.fresh Locals.reference_of_hand Logs.no_log Logs.no_teller l)
seat_splits z i l x e is going view own does leaves = seat_cut z i l (Cpu x) Locals.with_empty_hand Locals.reference_of_hand Logs.cuts_off Logs.no_log Logs.no_teller (did e (Ref 0))
    (is ∙ ap (λ (u : CpuView). record l { view = Cpu u }) view) going tt (own, tt)
    (subst (HasNone is_border) does (leaves_quietly is_border x.id x.hand (λ c. refl) (λ c. refl))) (subst (HasNone is_hear) does (leaves_quietly is_hear x.id x.hand (λ c. refl) (λ c. refl))) does
    (tells_nothing (record l { view = Cpu x }) (did e (Ref 0))) (names_nobody (record l { view = Cpu x }) (did e (Ref 0)))
    (splits z i x e leaves)

-- what is in the hand says which
pub does_split_ref : (x : CpuView) (c : ℕ) → x.id ≡ c → (e : Entry) × Locals.IsTaking x e → Logs.leaves_hand x.id x.hand ≡ did (SplitRef c) (Ref 0)
does_split_ref x c id may k = Logs.leaves_hand (id k) (may.1 k)

pub does_split_back : (x : CpuView) (c : ℕ) → x.id ≡ c → (e : Entry) × Locals.IsBack x e → Logs.leaves_hand x.id x.hand ≡ did (SplitBack c) (Ref 0)
does_split_back x c id may k = Logs.leaves_hand (id k) (may.1 k)

pub seat_splits_by : (v a b : View) (x : CpuView) (e : Event) → cpu_of v ≡ x → a ≡ Locals.with_empty_hand v → b ≡ Locals.reference_of_hand v → LeavesHand e x
    → SplitsBy e (Cpu x) (Cpu (cpu_of a)) (Reference (reference_of b))
seat_splits_by v a b x e view left right leaves =
    let p : cpu_of a ≡ Locals.with_hand x NoEntry = ap cpu_of left ∙ ap (λ (u : CpuView). Locals.with_hand u NoEntry) view in
    let q : reference_of b ≡ Locals.reference_in x.id x.hand = ap reference_of right ∙ ap (λ (u : CpuView). Locals.reference_in u.id u.hand) view in
    subst (λ (w : CpuView × ReferenceView). SplitsBy e (Cpu x) (Cpu w.0) (Reference w.1)) (λ k. (sym p k, sym q k)) (splits_by x e leaves)

pub split_ref_leaves : (x : CpuView) (c : ℕ) → x.id ≡ c → (e : Entry) × Locals.IsTaking x e → LeavesHand (SplitRef c) x
split_ref_leaves x c id may = subst (λ d. LeavesHand (SplitRef d) x) id (λ g good had.
    let e = may.0 in
    let n = e.number in
    let attached : IsAttached g.history e = subst (HandFits g.history g.slots g.marks x.id) may.1 had.in_hand in
    let there : Locals.reference_in x.id x.hand ≡ record { entry = e; collected = None } = ap (Locals.reference_in x.id) may.1 in record {
      r = Ref (least_id g.locals);
      told = refl;
      h = Empty;
      locals = with_local g.locals (least_id g.locals) (Standing n);
      made = ap (split_ref g x.id) (taking_hand g x e had may.1);
      same = tt;
      tries = λ t. sym (ap (trying_in t) may.1);
      right = subst (ReferenceShown g) (sym there) (record { attached = attached; collected = λ d no. absurd (let q : ◌≡◌ {A = Option ℕ} None (Some d) = no in cc) });
      count = λ k. let a = local_added k g.locals (Standing n) in
          let b : one_if (is_to k (Locals.reference_in x.id x.hand).entry) ≡ one_if (n == k) = ap (λ (v : ReferenceView). one_if (is_to k v.entry)) there in omega arith;
    })

pub split_back_leaves : (x : CpuView) (c : ℕ) → x.id ≡ c → (e : Entry) × Locals.IsBack x e → LeavesHand (SplitBack c) x
split_back_leaves x c id may = subst (λ d. LeavesHand (SplitBack d) x) id (λ g good had.
    let e = may.0 in
    let n = e.number in
    let was = back_hand g x e had may.1 in
    let place = was.0 in
    let lifted = (back_holds g.settings.cpus g.slots g.hands g.due g.locals x.id n place was.1 good.holds.references).1 in
    let within = (back_within g x.id n place good.holds was.1).1 in
    let fits : IsAttached g.history e × IsCollectedFor g.slots g.marks e x.id = subst (HandFits g.history g.slots g.marks x.id) may.1 had.in_hand in
    let there : Locals.reference_in x.id x.hand ≡ record { entry = e; collected = Some x.id } = ap (Locals.reference_in x.id) may.1 in record {
      r = Ref place;
      told = refl;
      h = Empty;
      locals = set g.locals place (Standing n);
      made = ap (split_back g x.id) was.1;
      same = tt;
      tries = λ t. sym (ap (trying_in t) may.1);
      right = subst (ReferenceShown g) (sym there) (record { attached = fits.0; collected = λ d is. subst (IsCollectedFor g.slots g.marks e) (same_Some x.id d is) fits.1 });
      count = λ k. omega (arith, local_changed k g.locals place (Lifted x.id) (Standing n) within lifted, ap (λ (v : ReferenceView). one_if (is_to k v.entry)) there);
    })

-- A reference goes into the hand

-- the event that puts a reference into the CPU's hand, and what it leaves
ref_joins : (x : CpuView) (c : ℕ) (v : ReferenceView) → x.id ≡ c → IsIdle x → JoinsSo (JoinRef c) (Cpu x) (Reference v) (Locals.with_reference_in_hand (Cpu x) (Reference v))
ref_joins x c v id idle = subst (λ d. JoinsSo (JoinRef d) (Cpu x) (Reference v) (Locals.with_reference_in_hand (Cpu x) (Reference v))) id (λ g good had shown backs.
    let n = v.entry.number in
    let place = reference_place g v backs in
    let p = place.0 in
    let h = Giving n p in
    let locals = set g.locals p (Lifted x.id) in
    let leaves = leaves_hands g x.id h locals in
    let stands : number_standing (local_at g.locals p) ≡ Some n = ap number_standing place.1 in
    let made : step g (JoinRef x.id p) ≡ Some (record { state = handed g x.id h locals; reply = Done }) = rw (stands, idle_of g x (seen_of g x good had) had idle) refl in record {
      named = refl;
      settings = refl;
      seated = refl;
      words = same_words g x.id h locals;
      stay = λ seat i sits. cpu_stays g (hand_lists g x.id h locals) x.id seat i leaves sits;
      makes = record {
        id = p;
        names = ap number_or_none stands;
        after = handed g x.id h locals;
        made = made;
        good_after = good_after g (hand_lists g x.id h locals) x.id (JoinRef x.id p) Done good leaves had.seated made;
        shown = shown_hand g x h locals (GivingEntry v.entry) good had refl shown.attached (λ t. sym (idle_tries x t idle));
        count = λ k. let a = local_changed k g.locals p (Standing n) (Lifted x.id) (standing_within g.locals p n place.1) place.1 in omega arith;
      };
    })

-- the same of two seats, whose views are a CPU's and a reference's

pub seat_joins : (z : Settings) (i o : ℕ) (l m : Logged) (x : CpuView) → l ≡ record l { view = Cpu (cpu_of l.view) } → l.ended ≡ false → cpu_of l.view ≡ x → m ≡ record m { view = Reference (reference_of m.view) }
    → m.ended ≡ false
    → IsIdle x
    → Joins (Logs.LoggedRuled z) i l o m (Logs.joined_seat Locals.with_reference_in_hand Logs.takes_in l m) Logs.spent_seat
seat_joins z i o l m x is going view that other idle = seat_join z i o l m (Cpu x) (Reference (reference_of m.view)) Locals.with_reference_in_hand Logs.takes_in (did (JoinRef x.id (reference_of m.view).entry.number) Done)
    (is ∙ ap (λ (u : CpuView). record l { view = Cpu u }) view) that going other tt (refl, tt) (refl, tt) (refl, tt) refl (joins_on z i (Cpu x) o (Reference (reference_of m.view))
    (Locals.with_reference_in_hand (Cpu x) (Reference (reference_of m.view))) (JoinRef x.id) (ref_joins x x.id (reference_of m.view) refl idle) (refl, refl) (λ seat sits. sits))

pub seat_joins_by : (v a : View) (x : CpuView) (c : ℕ) (u : View) (w : ReferenceView) → cpu_of v ≡ x → reference_of u ≡ w → a ≡ Locals.with_reference_in_hand v u → x.id ≡ c → IsIdle x
    → JoinsBy (JoinRef c) (Cpu x) (Reference w) (Cpu (cpu_of a))
seat_joins_by v a x c u w view that both id idle =
    let p : cpu_of a ≡ Locals.with_hand x (GivingEntry w.entry) = ap cpu_of both ∙ (λ k. Locals.with_hand (view k) (GivingEntry (that k).entry)) in
    subst (λ (y : CpuView). JoinsBy (JoinRef c) (Cpu x) (Reference w) (Cpu y)) (sym p) (λ g good had shown backs. (ref_joins x c w id idle g good had shown backs).makes)
