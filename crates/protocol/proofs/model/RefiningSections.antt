-- When two model states are the same; seats, sections, notes and lookups make steps of the model.
use Rattle.std.proofs.Common.{◌≡◌, ℕ, ◌<◌, List, length, get_or, set, cond, Bool, refl, sym, ap, subst, ◌∙◌, get_or-set_same, get_or-set_other, ◌*◌, Option, Some, None, true, ◌&&◌, nat_eq, nat_lt, arith, length-set}
use Rattle.std.proofs.lemmas.Bool.{cases_eq, eq-eqb, ne_eqb, and_parts}
use Rattle.protocol.specs.Types.{Entry, Key, Live}
use Rattle.registry_values.specs.Common.{key_of, slot_at}
use Rattle.protocol.specs.Common.{put, Model, IsModelStep, IsModelRun, Stays, Goes_on, Enters, Exits, Sees, Seeks, Answers, Attaches, Detaches, Replaces, Acquires, Copies, Releases, Takes, Counts, Uncounts, Vacates, Gives_up, SearchPlace, AtHead, AtNumber, Search, IsLawful, State, section_at, begin_at, depth_at, seen_at, search_at, Holds, lookup_of, picture, TakesNone}
use Rattle.protocol.specs.Events
use Rattle.protocol.specs.Model.{Keeps}
use Rattle.protocol.specs.Model
use Rattle.protocol.proofs.Occupied.{written_cases}
use Rattle.protocol.proofs.Either.{either}
use Rattle.protocol.proofs.keeps.Searching.{within_some}
use Rattle.protocol.proofs.keeps.SectionKeeps.{none_from, some_from, idle_parts, idle_tells, refind_tells}

-- When two model states are the same, what written lists show, and runs of few steps.

-- two model states that agree place by place
pub record Alike (a b : Model) : Type 0 where
  pub history : a.history ≡ b.history
  pub sections : (c : ℕ) → a.sections c ≡ b.sections c
  pub passes : (c : ℕ) → a.passes c ≡ b.passes c
  pub lookups : (c : ℕ) → a.lookups c ≡ b.lookups c
  pub found : (c : ℕ) → a.found c ≡ b.found c
  pub passive : (c n : ℕ) → a.passive c n ≡ b.passive c n
  pub locals : (n : ℕ) → a.locals n ≡ b.locals n
  pub occupants : (t : ℕ) → a.occupants t ≡ b.occupants t
  pub keeps : (t : ℕ) → a.keeps t ≡ b.keeps t

-- are equal, by function extensionality
pub same_model : (a b : Model) → Alike a b → a ≡ b
same_model a b alike = grind arith

-- the pictures are equal: no step
pub no_step : {MayTake : ℕ → ℕ → Type 0} (a b : Model) → Alike a b → IsModelRun MayTake a b
no_step {MayTake} a b alike = subst (IsModelRun MayTake a) (same_model a b alike) Stays

pub one_step : {MayTake : ℕ → ℕ → Type 0} (m a b : Model) → IsModelStep MayTake m a → Alike a b → IsModelRun MayTake m b
one_step {MayTake} m a b step alike = subst (IsModelRun MayTake m) (same_model a b alike) (Goes_on m a Stays step)

pub two_steps : {MayTake : ℕ → ℕ → Type 0} (m a n b : Model) → IsModelStep MayTake m a → IsModelStep MayTake a n → Alike n b → IsModelRun MayTake m b
two_steps {MayTake} m a n b first second alike = subst (IsModelRun MayTake m) (same_model n b alike) (Goes_on a n (Goes_on m a Stays first) second)

-- runs one after the other
pub join_runs : {MayTake : ℕ → ℕ → Type 0} (a b c : Model) → IsModelRun MayTake a b → IsModelRun MayTake b c → IsModelRun MayTake a c
join_runs a b _ first Stays = first
join_runs a b _ first (Goes_on d e rest step) = Goes_on d e (join_runs a b d first rest) step

-- where no less may be taken without a section, each step is one still
pub widen_step : {P Q : ℕ → ℕ → Type 0} → ((c n : ℕ) → P c n → Q c n) → (m n : Model) → IsModelStep P m n → IsModelStep Q m n
widen_step wide m _ (Enters c out) = Enters c out
widen_step wide m _ (Exits c b in_ none) = Exits c b in_ none
widen_step wide m _ (Sees c n from to) = Sees c n from to
widen_step wide m _ (Seeks c b key in_ none) = Seeks c b key in_ none
widen_step wide m _ (Answers c q answer is lawful) = Answers c q answer is lawful
widen_step wide m _ (Attaches e vacant legal number rightly) = Attaches e vacant legal number rightly
widen_step wide m _ (Detaches n legal) = Detaches n legal
widen_step wide m _ (Replaces n r e vacant legal number rightly) = Replaces n r e vacant legal number rightly
widen_step wide m _ (Keeps t d vacant none here some) = Keeps t d vacant none here some
widen_step wide m _ (Acquires c e found) = Acquires c e found
widen_step wide m _ (Copies c n some) = Copies c n some
widen_step wide m _ (Releases c n some) = Releases c n some
widen_step wide m _ (Takes c t e live there seen taking) = Takes c t e live there seen (wide c e.number taking)
widen_step wide m _ (Counts c e found) = Counts c e found
widen_step wide m _ (Uncounts n some) = Uncounts n some
widen_step wide m _ (Vacates t n p there ends unheld none) = Vacates t n p there ends unheld none
widen_step wide m _ (Gives_up t n p d there ends unheld kept) = Gives_up t n p d there ends unheld kept

pub widen_run : {P Q : ℕ → ℕ → Type 0} → ((c n : ℕ) → P c n → Q c n) → (m n : Model) → IsModelRun P m n → IsModelRun Q m n
widen_run wide m _ Stays = Stays
widen_run wide m _ (Goes_on a b run step) = Goes_on a b (widen_run wide m a run) (widen_step wide a b step)

-- a function with one value put
pub put_here : {X : Type 0} (f : ℕ → X) (i : ℕ) (x : X) → put f i x i ≡ x
put_here f i x = ap (λ (b : Bool). cond b x (f i)) (eq-eqb i i refl)

pub put_other : {X : Type 0} (f : ℕ → X) (i : ℕ) (x : X) (j : ℕ) → (j ≡ i → ⊥) → put f i x j ≡ f j
put_other f i x j off = ap (λ (b : Bool). cond b x (f j)) (ne_eqb j i off)

-- is g where g has that value and is f elsewhere
pub put_is : {X : Type 0} (f g : ℕ → X) (i : ℕ) (x : X) → x ≡ g i → ((j : ℕ) → (j ≡ i → ⊥) → f j ≡ g j) → (j : ℕ) → put f i x j ≡ g j
put_is f g i x here off j = either (cases_eq j i) (λ same. ap (put f i x) same ∙ (put_here f i x ∙ (here ∙ ap g (sym same)))) (λ no. put_other f i x j no ∙ off j no)

pub put_twice : {X : Type 0} (f g : ℕ → ℕ → X) (c n : ℕ) (x : X) → x ≡ g c n → ((m : ℕ) → (m ≡ n → ⊥) → f c m ≡ g c m) → ((j m : ℕ) → (j ≡ c → ⊥) → f j m ≡ g j m)
    → (j m : ℕ) → put f c (put (f c) n x) j m ≡ g j m
put_twice {X} f g c n x here beside off j m = grind (arith, put_here, put_is, put_other, cases_eq j c)

-- a list after a write shows the function with one value put
pub written : {X Y : Type 0} (f : X → Y) (d : X) (xs : List X) (c : ℕ) (x : X) → c < length xs → (j : ℕ) → put (λ k. f (get_or xs k d)) c (f x) j ≡ f (get_or (set xs c x) j d)
written f d xs c x lt j = grind (arith, put_is, get_or-set_same, get_or-set_other)

-- or the same function, where what it shows of that place stays
pub unwritten : {X Y : Type 0} (f : X → Y) (d : X) (xs : List X) (c : ℕ) (x : X) → f (get_or xs c d) ≡ f x → (j : ℕ) → f (get_or xs j d) ≡ f (get_or (set xs c x) j d)
unwritten f d xs c x stays j = grind (arith, written_cases)

-- Seats, sections, notes and lookups make steps of the model.

pub enter_refines : (s : State) (c : ℕ) → Holds s → Events.may_enter s c ≡ true → IsModelRun TakesNone (picture s) (picture (Events.after_enter s c))
enter_refines s c on ok =
    let p = and_parts (Events.is_idle s c) (Events.is_outside s c && nat_lt (section_at s c) (2 * s.settings.section_limit)) ok in
    let p1 = and_parts (Events.is_outside s c) (nat_lt (section_at s c) (2 * s.settings.section_limit)) p.1 in
    let lt : c < s.settings.cpus = (idle_tells s c on p.0).0 in
    one_step (picture s) _ (picture (Events.after_enter s c)) (Model.Enters c (none_from (begin_at s c) p1.0)) (assumption (
      written (λ (x : Option ℕ). x) None s.begins c (Some (length s.history)) (omega (arith, lt, on.shape.begins)),
      written (λ (x : ℕ). x) 0 s.seen c (length s.history) (omega (arith, lt, on.shape.seen)),
    ))

pub exit_refines : (s : State) (c : ℕ) → Holds s → Events.may_exit s c ≡ true → IsModelRun TakesNone (picture s) (picture (Events.after_exit s c))
exit_refines s c on ok =
    let p = and_parts (Events.is_idle s c) (Events.is_inside s c && nat_eq (depth_at s c) 1) ok in
    let p1 = and_parts (Events.is_inside s c) (nat_eq (depth_at s c) 1) p.1 in
    let idle = idle_parts s c p.0 in
    let in_ : (b : ℕ) × (begin_at s c ≡ Some b) = some_from (begin_at s c) p1.0 in
    let lt : c < s.settings.cpus = (idle_tells s c on p.0).0 in
    one_step (picture s) _ (picture (Events.after_exit s c)) (Model.Exits c in_.0 in_.1 (ap lookup_of idle.1)) (assumption (
      written (λ (x : Option ℕ). x) None s.begins c None (omega (arith, lt, on.shape.begins)),
      written (λ (x : Option Entry). x) None s.found c None (omega (arith, lt, on.shape.found)),
    ))

-- the pass of a CPU grows to the whole history
see_step : (s : State) (c : ℕ) → Holds s → c < s.settings.cpus → IsModelStep TakesNone (picture s) (picture (Events.after_seeing s c))
see_step s c on lt = subst (IsModelStep TakesNone (picture s))
    (same_model _ (picture (Events.after_seeing s c)) (assumption (written (λ (x : ℕ). x) 0 s.seen c (length s.history) (omega (arith, lt, on.shape.seen)))))
    (Model.Sees c (length s.history) (on.sections.prefix c) (omega arith))

pub seeing_refines : (s : State) (c : ℕ) → Holds s → c < s.settings.cpus → IsModelRun TakesNone (picture s) (picture (Events.after_seeing s c))
seeing_refines s c on lt = Goes_on _ _ Stays (see_step s c on lt)

pub seek_refines : (s : State) (c : ℕ) (key : Key) → Holds s → Events.may_seek s c ≡ true → IsModelRun TakesNone (picture s) (picture (Events.after_seek s c key))
seek_refines s c key on ok =
    let p = and_parts (Events.is_idle s c) (Events.is_inside s c) ok in
    let idle = idle_parts s c p.0 in
    let in_ : (b : ℕ) × (begin_at s c ≡ Some b) = some_from (begin_at s c) p.1 in
    let lt : c < s.settings.cpus = (idle_tells s c on p.0).0 in
    one_step (picture s) _ (picture (Events.after_seek s c key)) (Model.Seeks c in_.0 key in_.1 (ap lookup_of idle.1)) (assumption (
    written lookup_of None s.searches c (Some (record { key = key; start = seen_at s c; place = AtHead })) (omega (arith, lt, on.shape.searches))
    ))

-- a search that began and is over leaves the searches
unsought : (searches : List (Option Search)) (c : ℕ) (q : Search) → get_or searches c None ≡ None → c < length searches → (d : ℕ) → get_or (set (set searches c (Some q)) c None) d None ≡ get_or searches d None
unsought searches c q none few d = grind (arith, get_or-set_same, length-set, get_or-set_other, cases_eq d c)

-- a lookup is over, with a lawful answer
over_step : (s : State) (c : ℕ) (q : Search) (answer : Option Entry) → c < length s.found → search_at s c ≡ Some q
    → IsLawful s.history q.start (seen_at s c) q.key answer → IsModelStep TakesNone (picture s) (picture (Events.search_over s c answer))
over_step s c q answer lt is lawful = subst (IsModelStep TakesNone (picture s))
    (same_model _ (picture (Events.search_over s c answer)) (assumption (
      written lookup_of None s.searches c None (within_some s.searches c q is),
      written (λ (x : Option Entry). x) None s.found c answer lt,
    )))
    (Model.Answers c (record { key = q.key; start = q.start }) answer (ap lookup_of is) lawful)

pub over_refines : (s : State) (c : ℕ) (q : Search) (answer : Option Entry) → Holds s → search_at s c ≡ Some q
    → IsLawful s.history q.start (seen_at s c) q.key answer → IsModelRun TakesNone (picture s) (picture (Events.search_over s c answer))
over_refines s c q answer on is lawful = Goes_on _ _ Stays (over_step s c q answer (omega (arith, within_some s.searches c q is, on.shape.searches, on.shape.found)) is lawful)

-- an entry is found again: the pass grows to the whole history, and a lookup begins there and is answered there
pub refind_refines : (s : State) (c t n : ℕ) (e : Entry) → Holds s → slot_at s.slots t ≡ Live e → Events.may_refind s c t n e ≡ true → IsModelRun TakesNone (picture s) (picture (Events.after_refind s c e))
refind_refines s c t n e on at ok =
    let told = refind_tells s c t n e ok in
    let lt : c < s.settings.cpus = omega (arith, told.0, on.seats.within) in
    let a : State = Events.after_seeing s c in
    let key : Key = key_of e in
    let b : State = Events.after_seek a c key in
    let q : Search = record { key = key; start = seen_at a c; place = AtHead } in
    let few : c < length s.searches = omega (arith, lt, on.shape.searches) in
    let sees : seen_at a c ≡ length s.history = get_or-set_same s.seen c (length s.history) 0 (omega (arith, lt, on.shape.seen)) in
    let is : search_at b c ≡ Some q = get_or-set_same s.searches c (Some q) None few in
    let lawful : IsLawful s.history (seen_at a c) (seen_at a c) key (Some e) = record {
      point = length s.history;
      from_on = omega (arith, sees);
      up_to = omega (arith, sees);
      answered = ((on.slots.live t e at).0, refl);
    } in
    let seek : IsModelStep TakesNone (picture a) (picture b) = subst (IsModelStep TakesNone (picture a))
    (same_model _ (picture b) (assumption (written lookup_of None s.searches c (Some q) few)))
    (Model.Seeks c told.2.0 key told.2.1 (ap lookup_of told.1)) in
    let alike : Alike (picture (Events.search_over b c (Some e))) (picture (Events.after_refind s c e)) = assumption (λ (d : ℕ). ap lookup_of (unsought s.searches c q told.1 few d)) in
    subst (IsModelRun TakesNone (picture s)) (same_model _ _ alike)
    (Goes_on _ _ (Goes_on _ _ (seeing_refines s c on lt) seek) (over_step b c q (Some e) (omega (arith, lt, on.shape.found)) is lawful))

-- a search that goes on shows nothing
pub going_on_alike : (s : State) (c : ℕ) (q : Search) (place : SearchPlace) → search_at s c ≡ Some q → Alike (picture s) (picture (Events.with_search_at s c q place))
going_on_alike s c q place is = assumption (unwritten lookup_of None s.searches c (Some (record { key = q.key; start = q.start; place = place })) (ap lookup_of is))

-- The loads of a search.

pub missed_refines : (s : State) (c : ℕ) (q : Search) → Holds s → search_at s c ≡ Some q → IsLawful s.history q.start (seen_at (Events.after_seeing s c) c) q.key None
    → IsModelRun TakesNone (picture s) (picture (Events.search_over (Events.after_seeing s c) c None))
missed_refines s c q on is lawful =
    let within = within_some s.searches c q is in
    Goes_on _ _ (seeing_refines s c on (omega (arith, within, on.shape.searches))) (over_step (Events.after_seeing s c) c q None (omega (arith, within, on.shape.searches, on.shape.found)) is lawful)

pub followed_refines : (s : State) (c : ℕ) (q : Search) (t : ℕ) → Holds s → search_at s c ≡ Some q → IsModelRun TakesNone (picture s) (picture (Events.with_search_at (Events.after_seeing s c) c q (AtNumber t)))
followed_refines s c q t on is =
    one_step (picture s) (picture (Events.after_seeing s c)) (picture (Events.with_search_at (Events.after_seeing s c) c q (AtNumber t))) (see_step s c on (omega (arith, within_some s.searches c q is, on.shape.searches)))
    (going_on_alike (Events.after_seeing s c) c q (AtNumber t) is)
