-- Enter, exit and find are runs of lawful steps, and so are those of passive and local references.
use Rattle.std.proofs.Common.{◌≡◌, ℕ, ◌+◌, ◌<◌, ◌≤◌, length, Option, Some, None, Bool, true, false, not, refl, sym, ap, subst, ◌∙◌, arith, suc, ◌-◌, nat_lt, ltb-true}
use Rattle.std.specs.Prelude.{Ok, if◌then◌else◌, ◌==◌, Result}
use Rattle.std.proofs.lemmas.Option.{same_Some, none-some}
use Rattle.registry_report.specs.Types.{Entry, Settings, Key, CorePsref, Refusal, NothingFound, NotHeld, WrongCpu}
use Rattle.registry_values.specs.Common.{why_full}
use Rattle.registry_values.proofs.Slots.{none_is}
use Rattle.protocol.specs.Common.{IsLawful, MayHold, IsLiveAt, IsLookup, Lookup, Model, put, IsModelRun, Stays, TakesNone, Goes_on, Answers, Enters, Exits, Seeks, Sees, with_locals, with_passive, Acquires, Copies, Counts, Releases, Uncounts}
use Rattle.protocol.proofs.History.{attached_within}
use Rattle.protocol.proofs.model.RefiningSections.{Alike, put_here, put_is, put_other, same_model}
use Rattle.protocol.proofs.keeps.SectionKeeps.{some_from}
use Rattle.protocol.proofs.Either.{either}
use Rattle.registry_report.specs.Common.{Hitch, NotInside, Registry, IsSound, IsSoundModel, IsLawfulTurn, LabelTaken, NoLabel, HasSlot}
use Rattle.registry_report.specs.Turns
use Rattle.registry_report.proofs.Lookups.{lookup_is}
use Rattle.registry_report.proofs.sound.Turns.{put_capped, put_cases, put_none, same_ok, still_there, then_ok, added_counts, dropped_counts, hitched_ok, labelled_counts, not_ok}

-- Enter

-- a section that begins may hold just who is live
begin_keeps : (z : Settings) (m : Model) (labels : ℕ → Option ℕ) (c : ℕ) → IsSoundModel z m labels → c < z.cpus → m.sections c ≡ None
    → IsSoundModel z (record (Turns.with_all_seen m c) { sections = put m.sections c (Some (length m.history)) }) labels
begin_keeps z m labels c on lt out =
    let top = length m.history in
    let held : (d b : ℕ) (f : Entry) → put m.sections c (Some top) d ≡ Some b → MayHold m.history b f → m.occupants f.slot ≡ Some f.number =
    λ d b f in_ hold. either (put_cases m.sections c (Some top) d)
    (λ here.
    let now : b ≡ top = same_Some b top (sym in_ ∙ here.1) in
    on.live f (record { attached = hold.attached; begun = (attached_within m.history f hold.attached).1; unended = λ p x. omega (arith, hold.unended p x) }))
    (λ off. on.held d b f (sym off.1 ∙ in_) hold) in
    let begun : (d b : ℕ) → put m.sections c (Some top) d ≡ Some b → (d < z.cpus) × (b ≤ top) = λ d b in_. either (put_cases m.sections c (Some top) d)
    (λ here. (omega (arith, here.0), omega (arith, same_Some b top (sym in_ ∙ here.1))))
    (λ off. on.begun d b (sym off.1 ∙ in_)) in
    let last_found : (d : ℕ) (f : Entry) → m.found d ≡ Some f → (b : ℕ) × (put m.sections c (Some top) d ≡ Some b) × MayHold m.history b f =
    λ d f is. let was = on.last_found d f is in (was.0, still_there m.sections c d (Some top) was.0 out was.1, was.2) in
    assumption (put_capped m.passes c top top on.seen (omega arith))

pub entered_by : (r : Registry) (c : ℕ) (b : Bool) → IsSound r → c < r.settings.cpus → Turns.is_inside r c ≡ b
    → IsLawfulTurn r (if b then record r { depths = put r.depths c (r.depths c + 1) } else Turns.with_section_begun r c)
entered_by r c true on lt is = (on, Stays, refl)
entered_by r c false on lt is =
    let out : r.model.sections c ≡ None = none_is (r.model.sections c) is in
    (begin_keeps r.settings r.model r.local_labels c on lt out, Goes_on r.model _ Stays (Enters c out), refl)

-- Exit

end_keeps : (z : Settings) (m : Model) (labels : ℕ → Option ℕ) (c : ℕ) → IsSoundModel z m labels → IsSoundModel z (record m { sections = put m.sections c None; found = put m.found c None }) labels
end_keeps z m labels c on =
    let last_found : (d : ℕ) (f : Entry) → put m.found c None d ≡ Some f → (b : ℕ) × (put m.sections c None d ≡ Some b) × MayHold m.history b f = λ d f is.
    let off = put_none m.found c d f is in
    let was = on.last_found d f off.1 in
    (was.0, put_other m.sections c None d off.0 ∙ was.1, was.2) in
    assumption (
      λ (d b : ℕ) (f : Entry) (in_ : put m.sections c None d ≡ Some b) (hold : MayHold m.history b f). on.held d b f (put_none m.sections c d b in_).1 hold,
      λ (d b : ℕ) (in_ : put m.sections c None d ≡ Some b). on.begun d b (put_none m.sections c d b in_).1,
    )

pub exited_lawful : (r : Registry) (c : ℕ) (stays : Bool) → IsSound r → Turns.exit_answer r c ≡ Ok stays → IsLawfulTurn r (Turns.with_section_exited r c stays)
exited_lawful r c true on is = (on, Stays, refl)
exited_lawful r c false on is =
    let inside = some_from (r.model.sections c) (then_ok (Turns.is_inside r c) NotInside (Ok (not (r.depths c == 1))) false is).0 in
    (end_keeps r.settings r.model r.local_labels c on, Goes_on r.model _ Stays (Exits c inside.0 inside.1 (on.unsearching c)), refl)

-- Find

-- the open section may hold who is live now
find_keeps : (z : Settings) (m : Model) (labels : ℕ → Option ℕ) (c b : ℕ) (answer : Option Entry) → IsSoundModel z m labels → m.sections c ≡ Some b
    → ((e : Entry) → answer ≡ Some e → IsLiveAt m.history (length m.history) e)
    → IsSoundModel z (record (Turns.with_all_seen m c) { found = put m.found c answer }) labels
find_keeps z m labels c b answer on in_ live =
    let last_found : (d : ℕ) (f : Entry) → put m.found c answer d ≡ Some f → (b : ℕ) × (m.sections d ≡ Some b) × MayHold m.history b f = λ d f is. either (put_cases m.found c answer d)
    (λ here.
    let now = live f (sym here.1 ∙ is) in
    let low = (on.begun c b in_).1 in
    (b, ap m.sections here.0 ∙ in_, record { attached = now.attached; unended = λ p x. omega (arith, now.unended p x, low) }))
    (λ off. on.last_found d f (sym off.1 ∙ is)) in
    assumption (put_capped m.passes c (length m.history) (length m.history) on.seen (omega arith))

-- what a lookup gives now is live now
lookup_live : (r : Registry) (key : Key) (e : Entry) → IsSound r → Turns.lookup_now r key ≡ Some e → IsLiveAt r.model.history (length r.model.history) e
lookup_live r key e on is = (subst (IsLookup r.model.history (length r.model.history) key) is (lookup_is r.model.history on.legal key (length r.model.history))).0

-- the lookup begins, the CPU sees the whole history, and the answer is the one now
find_run : (r : Registry) (c b : ℕ) (key : Key) → IsSound r → r.model.sections c ≡ Some b → IsModelRun TakesNone r.model (Turns.with_found r c (Turns.lookup_now r key)).model
find_run r c b key on in_ =
    let m : Model = r.model in
    let q : Lookup = record { key = key; start = m.passes c } in
    let sought : Model = record m { lookups = put m.lookups c (Some q) } in
    let seen : Model = record sought { passes = put m.passes c (length m.history) } in
    let here : put m.passes c (length m.history) c ≡ length m.history = put_here m.passes c (length m.history) in
    let lawful : IsLawful m.history (m.passes c) (put m.passes c (length m.history) c) key (Turns.lookup_now r key) = record {
      point = length m.history;
      from_on = on.seen c;
      up_to = omega (arith, here);
      answered = lookup_is m.history on.legal key (length m.history);
    } in
    let alike : Alike (record seen { lookups = put seen.lookups c None; found = put m.found c (Turns.lookup_now r key) }) (Turns.with_found r c (Turns.lookup_now r key)).model = assumption (
    put_is (put m.lookups c (Some q)) m.lookups c None (sym (on.unsearching c)) (λ j off. put_other m.lookups c (Some q) j off)
    ) in
    subst (IsModelRun TakesNone m) (same_model (record seen { lookups = put seen.lookups c None; found = put m.found c (Turns.lookup_now r key) }) (Turns.with_found r c (Turns.lookup_now r key)).model alike)
    (Goes_on seen _ (Goes_on sought _ (Goes_on m _ Stays (Seeks c b key in_ (on.unsearching c))) (Sees c (length m.history) (on.seen c) (omega arith)))
    (Answers c q (Turns.lookup_now r key) (put_here m.lookups c (Some q)) lawful))

pub found_lawful : (r : Registry) (c : ℕ) (key : Key) (answer : Option Entry) → IsSound r → Turns.find_answer r c key ≡ Ok answer → IsLawfulTurn r (Turns.with_found r c answer)
found_lawful r c key answer on is =
    let parts = then_ok (Turns.is_inside r c) NotInside (Ok (Turns.lookup_now r key)) answer is in
    let inside = some_from (r.model.sections c) parts.0 in
    let now : Turns.lookup_now r key ≡ answer = same_ok {E = Hitch} (Turns.lookup_now r key) answer parts.1 in
    subst (λ (o : Option Entry). IsLawfulTurn r (Turns.with_found r c o)) now
    (find_keeps r.settings r.model r.local_labels c inside.0 (Turns.lookup_now r key) on inside.1 (λ e found. lookup_live r key e on found), find_run r c inside.0 key on inside.1, refl)

-- Passive and local references are taken, copied and released by lawful steps.

-- Results by labels

label_ok : {L X : Type 0} (o : Option L) (f : L → Result X Hitch) (x : X) → Turns.with_label o f ≡ Ok x → (l : L) × (o ≡ Some l) × (f l ≡ Ok x)
label_ok None f x is = absurd (not_ok NoLabel x is)
label_ok (Some l) f x is = (l, refl, is)

free_ok : {L X : Type 0} (o : Option L) (answer : Result X Hitch) (x : X) → Turns.if_free o answer ≡ Ok x → (o ≡ None) × (answer ≡ Ok x)
free_ok None answer x is = (refl, is)
free_ok (Some l) answer x is = absurd (not_ok LabelTaken x is)

unless_ok : {X E : Type 0} (o : Option E) (answer : Result X E) (x : X) → Turns.unless o answer ≡ Ok x → (o ≡ None) × (answer ≡ Ok x)
unless_ok None answer x is = (refl, is)
unless_ok (Some f) answer x is = absurd (not_ok f x is)

-- Passive references

-- a CPU has more or less of them
refer_keeps : (z : Settings) (m : Model) (labels : ℕ → Option ℕ) (c n k : ℕ) → IsSoundModel z m labels → c < z.cpus → IsSoundModel z (with_passive m c n k) labels
refer_keeps z m labels c n k on lt =
    let referring : (j i : ℕ) → 0 < put m.passive c (put (m.passive c) n k) j i → j < z.cpus = λ j i some. either (put_cases m.passive c (put (m.passive c) n k) j)
    (λ here. omega (arith, here.0))
    (λ off. on.referring j i (subst (λ (f : ℕ → ℕ). 0 < f i) off.1 some)) in
    assumption

one_more_is : (r : Registry) (c m n : ℕ) → Turns.one_more r c m ≡ Ok n → m ≡ n
one_more_is r c m n is = same_ok {E = Refusal} m n (unless_ok (why_full (r.model.passive c m) r.settings.passive_limit) (Ok m) n is).1

acquire_tells : (r : Registry) (c : ℕ) (o : Option Entry) (n : ℕ) → Turns.acquire_answer r c o ≡ Ok n → (e : Entry) × (o ≡ Some e) × (e.number ≡ n)
acquire_tells r c None n is = absurd (not_ok NothingFound n is)
acquire_tells r c (Some e) n is = (e, refl, one_more_is r c e.number n is)

pub reference_lawful : (r : Registry) (c a n : ℕ) → IsSound r → Turns.reference_answer r c a ≡ Ok n → IsLawfulTurn r (Turns.with_reference r c a n)
reference_lawful r c a n on is =
    let free = free_ok (r.passive_labels a) (Turns.command_answer (Turns.acquire_answer r c (r.model.found c))) n is in
    let found = acquire_tells r c (r.model.found c) n (hitched_ok (Turns.acquire_answer r c (r.model.found c)) n free.1) in
    let was = on.last_found c found.0 found.1 in
    subst (λ (k : ℕ). IsLawfulTurn r (Turns.with_reference r c a k)) found.2
    (refer_keeps r.settings r.model r.local_labels c found.0.number (r.model.passive c found.0.number + 1) on (on.begun c was.0 was.1).0, Goes_on r.model _ Stays (Acquires c found.0 found.1), refl)

-- a reference that c may use is held
misuse_tells : (own held : Bool) (f g : Refusal) → (if own then (if held then None else Some f) else Some g) ≡ None → held ≡ true
misuse_tells true true f g is = refl
misuse_tells true false f g is = absurd (none-some f (sym is))
misuse_tells false held f g is = absurd (none-some g (sym is))

is_held : (r : Registry) (c : ℕ) (p : CorePsref) → Turns.misuse r c p ≡ None → 0 < r.model.passive c p.number
is_held r c p is = ltb-true 0 (r.model.passive c p.number) (misuse_tells (p.cpu == c) (nat_lt 0 (r.model.passive c p.number)) NotHeld WrongCpu is)

pub copy_lawful : (r : Registry) (c a b n : ℕ) → IsSound r → Turns.copy_answer r c a b ≡ Ok n → IsLawfulTurn r (Turns.with_reference r c b n)
copy_lawful r c a b n on is =
    let label = label_ok (r.passive_labels a) (λ p. Turns.if_free (r.passive_labels b) (Turns.command_answer (Turns.unless (Turns.misuse r c p) (Turns.one_more r c p.number)))) n is in
    let p : CorePsref = label.0 in
    let free = free_ok (r.passive_labels b) (Turns.command_answer (Turns.unless (Turns.misuse r c p) (Turns.one_more r c p.number))) n label.2 in
    let used = unless_ok (Turns.misuse r c p) (Turns.one_more r c p.number) n (hitched_ok (Turns.unless (Turns.misuse r c p) (Turns.one_more r c p.number)) n free.1) in
    let some : 0 < r.model.passive c p.number = is_held r c p used.0 in
    subst (λ (k : ℕ). IsLawfulTurn r (Turns.with_reference r c b k)) (one_more_is r c p.number n used.1)
    (refer_keeps r.settings r.model r.local_labels c p.number (r.model.passive c p.number + 1) on (on.referring c p.number some), Goes_on r.model _ Stays (Copies c p.number some), refl)

pub release_lawful : (r : Registry) (c a n : ℕ) → IsSound r → Turns.release_answer r c a ≡ Ok n → IsLawfulTurn r (Turns.without_reference r c a n)
release_lawful r c a n on is =
    let label = label_ok (r.passive_labels a) (λ p. Turns.command_answer (Turns.unless (Turns.misuse r c p) (Ok p.number))) n is in
    let p : CorePsref = label.0 in
    let used = unless_ok (Turns.misuse r c p) (Ok p.number) n (hitched_ok (Turns.unless (Turns.misuse r c p) (Ok p.number)) n label.2) in
    let some : 0 < r.model.passive c p.number = is_held r c p used.0 in
    subst (λ (k : ℕ). IsLawfulTurn r (Turns.without_reference r c a k)) (same_ok {E = Refusal} p.number n used.1)
    (refer_keeps r.settings r.model r.local_labels c p.number (r.model.passive c p.number - 1) on (on.referring c p.number some), Goes_on r.model _ Stays (Releases c p.number some), refl)

-- Local references

count_keeps : (z : Settings) (m : Model) (labels : ℕ → Option ℕ) (x n : ℕ) → IsSoundModel z m labels → labels x ≡ None → HasSlot m.history m.occupants n
    → IsSoundModel z (with_locals m n (m.locals n + 1)) (put labels x (Some n))
count_keeps z m labels x n on free has =
    let labelled : (y k : ℕ) → put labels x (Some n) y ≡ Some k → HasSlot m.history m.occupants k = λ y k is. either (put_cases labels x (Some n) y)
    (λ here. subst (HasSlot m.history m.occupants) (same_Some n k (sym here.1 ∙ is)) has)
    (λ off. on.labelled y k (sym off.1 ∙ is)) in
    assumption (added_counts labels m.locals x n free on.counted)

counted_tells : (r : Registry) (c : ℕ) (o : Option Entry) (n : ℕ) → Turns.count_of_found r c o ≡ Ok n → (e : Entry) × (o ≡ Some e) × (e.number ≡ n)
counted_tells r c None n is = absurd (not_ok NothingFound n is)
counted_tells r c (Some e) n is = (e, refl, same_ok {E = Refusal} e.number n (unless_ok (Turns.why_uncounted r c e.number) (Ok e.number) n is).1)

pub count_lawful : (r : Registry) (c x n : ℕ) → IsSound r → Turns.count_answer r c x ≡ Ok n → IsLawfulTurn r (Turns.with_one_counted r c x n)
count_lawful r c x n on is =
    let free = free_ok (r.local_labels x) (Turns.command_answer (Turns.count_of_found r c (r.model.found c))) n is in
    let found = counted_tells r c (r.model.found c) n (hitched_ok (Turns.count_of_found r c (r.model.found c)) n free.1) in
    let e : Entry = found.0 in
    let was = on.last_found c e found.1 in
    let has : HasSlot r.model.history r.model.occupants e.number = record { entry = e; attached = was.2.attached; numbered = refl; occupant = on.held c was.0 e was.1 was.2 } in
    subst (λ (k : ℕ). IsLawfulTurn r (Turns.with_one_counted r c x k)) found.2
    (count_keeps r.settings r.model r.local_labels x e.number on free.0 has, Goes_on r.model _ Stays (Counts c e found.1), refl)

uncount_keeps : (z : Settings) (m : Model) (labels : ℕ → Option ℕ) (x n : ℕ) → IsSoundModel z m labels → labels x ≡ Some n → IsSoundModel z (with_locals m n (m.locals n - 1)) (put labels x None)
uncount_keeps z m labels x n on at = assumption (
  λ (y k : ℕ) (is : put labels x None y ≡ Some k). on.labelled y k (put_none labels x y k is).1,
  dropped_counts labels m.locals x n at on.counted,
)

pub uncount_lawful : (r : Registry) (c x n : ℕ) → IsSound r → Turns.uncount_answer r x ≡ Ok n → IsLawfulTurn r (Turns.with_one_uncounted r c x n)
uncount_lawful r c x n on is =
    let label = label_ok (r.local_labels x) (λ (k : ℕ). Ok k) n is in
    let at : r.local_labels x ≡ Some n = label.1 ∙ ap (λ (k : ℕ). Some k) (same_ok {E = Hitch} label.0 n label.2) in
    (uncount_keeps r.settings r.model r.local_labels x n on at, Goes_on r.model _ Stays (Uncounts n (omega (arith, labelled_counts r.local_labels x n at, on.counted n (suc x)))), refl)
