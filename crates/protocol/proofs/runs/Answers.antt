-- The result of each lookup is lawful, and a search has its start from its Seek on.
use Rattle.std.proofs.Common.{◌≡◌, ℕ, ◌≤◌, inl, List, [], ◌∷◌, ◌++◌, length, get_or, set, Option, Some, None, refl, sym, ◌∙◌, arith}
use Rattle.std.proofs.lemmas.Option.{none-some, same_Some}
use Rattle.protocol.specs.Types.{Entry, Change, Attach, Detach, Replace, Key}
use Rattle.protocol.specs.History.{rank_at}
use Rattle.protocol.specs.Common.{Event, Reply, Search, SearchPlace, AtNumber, IsLawful, State, opening, seen_at, search_at, Outcome, step, state_after, Holds, after, after_event, answer_of, IsAnswered, HasBegun, AnswersLawfully, LawfulAnswers}
use Rattle.protocol.proofs.Occupied.{written_cases}
use Rattle.protocol.proofs.keeps.SearchKeeps.{IsAnswer, link_answers, record_answers}
use Rattle.protocol.proofs.Made.{Made, Enters, Seeks, LoadsEnd, LoadsSlot, LoadsWord, LoadsLast, Publishes, Unpublishes, Republishes, Hears, Recalls, RecallsHead, Refinds, ConfirmsTry, made, each_event}
use Rattle.protocol.proofs.runs.Reuse.{every_run_keeps}
use Rattle.protocol.proofs.Either.{either}
use Rattle.std.proofs.lemmas.List.{append-nil}

-- Answers

lawful_of : (h : List Change) (from to : ℕ) (key : Key) (r : Reply) (answer : Option Entry) → IsAnswer h from to key r → answer_of r ≡ Some answer → IsLawful h from to key answer
lawful_of h from to key r answer is same = grind (arith, same_Some, none-some)

answered : (s n : State) (e : Event) (r : Reply) (answer : Option Entry) → Holds s → Made s e n r → answer_of r ≡ Some answer → IsAnswered s e (record { state = n; reply = r }) answer
answered s n _ r answer on (LoadsEnd c q at is) reply = grind (arith, lawful_of, link_answers)
answered s n _ r answer on (LoadsLast c q f at is) reply = grind (arith, lawful_of, record_answers)
answered s n _ _ answer on _ reply = absurd (none-some answer reply)

pub answers_lawful : (s : State) (e : Event) (o : Outcome) (answer : Option Entry) → Holds s → step s e ≡ Some o → answer_of o.reply ≡ Some answer → IsAnswered s e o answer
answers_lawful s e o answer on is reply = answered s o.state e o.reply answer on (made s e o is) reply

-- Starts

over_begun : (s : State) (e : Event) (c j : ℕ) (q : Search) → get_or (set s.searches j None) c None ≡ Some q → HasBegun s e c q
over_begun s e c j q is = either (written_cases None s.searches j None c) (λ here. absurd (none-some q (sym here.1 ∙ is))) (λ off. inl (q, sym off.1 ∙ is, refl, refl))

on_begun : (s : State) (e : Event) (c j : ℕ) (q old : Search) (p : SearchPlace) → search_at s j ≡ Some old
    → get_or (set s.searches j (Some (record { key = old.key; start = old.start; place = p }))) c None ≡ Some q → HasBegun s e c q
on_begun s e c j q old p under is = grind (arith, written_cases, same_Some)

begun : (s n : State) (e : Event) (r : Reply) (c : ℕ) (q : Search) → Made s e n r → search_at n c ≡ Some q → HasBegun s e c q
begun s _ _ _ c q (Seeks j kind name may) is = grind (arith, written_cases, same_Some)
begun s _ e _ c q (LoadsEnd j old at _) is = over_begun s e c j q is
begun s _ e _ c q (LoadsSlot j t old at _) is = on_begun s e c j q old (AtNumber t) at is
begun s _ e _ c q (LoadsWord j w old p at _) is = on_begun s e c j q old p at is
begun s _ e _ c q (LoadsLast j old f at _) is = over_begun s e c j q is
begun s _ _ _ c q _ is = inl (q, is, refl, refl)

pub search_begun : (s : State) (e : Event) (c : ℕ) (q : Search) → search_at (after_event s e) c ≡ Some q → HasBegun s e c q
search_begun s e c q = each_event (λ o. search_at (state_after s o) c ≡ Some q → HasBegun s e c q) s e (λ is. inl (q, is, refl, refl)) (λ n r made is. begun s n e r c q made is)

-- Passes and the history

pass_sees : (s : State) (c j : ℕ) → Holds s → seen_at s c ≤ get_or (set s.seen j (length s.history)) c 0
pass_sees s c j on = either (written_cases 0 s.seen j (length s.history) c) (λ here. omega (arith, here.1, on.sections.prefix c)) (λ off. omega (arith, off.1))

same_pass : (s : State) (c : ℕ) → seen_at s c ≤ seen_at s c
same_pass s c = omega arith

passes : (s n : State) (e : Event) (r : Reply) (c : ℕ) → Holds s → Made s e n r → seen_at s c ≤ seen_at n c
passes s _ _ _ c on (Enters j may) = pass_sees s c j on
passes s _ _ _ c on (LoadsEnd j q at is) = pass_sees s c j on
passes s _ _ _ c on (LoadsSlot j t q at is) = pass_sees s c j on
passes s _ _ _ c on (Hears j may) = pass_sees s c j on
passes s _ _ _ c on (Recalls j t may) = pass_sees s c j on
passes s _ _ _ c on (RecallsHead j may) = pass_sees s c j on
passes s _ _ _ c on (Refinds j t i e at may) = pass_sees s c j on
passes s _ _ _ c on (ConfirmsTry j t i at may) = pass_sees s c j on
passes s _ _ _ c on _ = same_pass s c

Grows : List Change → List Change → Type 0
Grows h k = (more : List Change) × (k ≡ h ++ more)

grown_none : (h : List Change) → Grows h h
unfolding Grows
grown_none h = ([], sym (append-nil h))

history : (s n : State) (e : Event) (r : Reply) → Made s e n r → Grows s.history n.history
unfolding Grows
history s _ _ _ (Publishes t e of may) = (Attach e ∷ [], refl)
history s _ _ _ (Unpublishes t head next e at rest is) = (Detach e.number ∷ [], refl)
history s _ _ _ (Republishes t u head next e f of at may is) = (Replace f.number (rank_at s.history f.number) e ∷ [], refl)
history s _ _ _ _ = grown_none s.history

pub history_grows : (s : State) (e : Event) → (more : List Change) × ((after_event s e).history ≡ s.history ++ more)
unfolding Grows
history_grows s e = each_event (λ o. Grows s.history (state_after s o).history) s e (grown_none s.history) (λ n r made. history s n e r made)

pub answers_lawfully : (s : State) → Holds s → AnswersLawfully s
answers_lawfully s on = record {
  answers = λ event o answer is reply. answers_lawful s event o answer on is reply;
  begun = λ event c q is. search_begun s event c q is;
  prefix = on.sections.prefix;
  passes = λ event c. each_event (λ o. seen_at s c ≤ seen_at (state_after s o) c) s event (same_pass s c) (λ n r made. passes s n event r c on made);
  history = λ event. history_grows s event;
}

pub lawful_answers : LawfulAnswers
lawful_answers z events fit = answers_lawfully (after (opening z) events) (every_run_keeps z events fit)
