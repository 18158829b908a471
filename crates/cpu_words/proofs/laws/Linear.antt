-- Linear lookups: between its Seek and its reply each search has a point in the list at which its result is the registry's.
use Rattle.std.proofs.Common.{◌≡◌, ℕ, ◌≤◌, IsTrue, List, [], ◌∷◌, ◌++◌, length, refl, sym, ap, ◌∙◌, subst, append_assoc, arith}
use Rattle.cpu_words.specs.Types.{Change, Settings, Event}
use Rattle.registry_values.specs.Common.{are_fit}
use Rattle.protocol.specs.Common.{State, opening, Holds, after, IsLookup, seek_for}
use Rattle.protocol.proofs.runs.Points.{all_grow, lookup_then, reached, seek_same}
use Rattle.protocol.proofs.runs.Reuse.{every_run_keeps}
use Rattle.protocol.proofs.runs.Steps.{after_more}
use Rattle.cpu_words.specs.Common.{LookupsAreLinear, with_reply}
use Rattle.cpu_words.proofs.laws.Fresh.{lookups_are_fresh}
use Rattle.cpu_words.proofs.logs.Runs.{after_append}

pub lookups_are_linear : LookupsAreLinear
lookups_are_linear z s r i l x key answer at is a =
    let c = x.id in
    let f = lookups_are_fresh z s r i l x key answer at is a in
    let sought : List Event = f.first ++ seek_for c key ∷ [] in
    let more : List Event = f.since ++ f.load ∷ [] in
    let end : List Event = with_reply f.first c key f.since f.load in
    let g : State = after (opening z) sought in
    let fit : IsTrue (are_fit z) = subst (λ (w : Settings). IsTrue (are_fit w)) r.run.settings r.run.good.holds.fit in
    let on : Holds (after (opening z) end) = every_run_keeps z end fit in
    let whole : sought ++ more ≡ end = append_assoc f.first (seek_for c key ∷ []) more in
    let goes : after (opening z) end ≡ after g more = ap (after (opening z)) (sym whole) ∙ after_append (opening z) sought more in
    let start : g.history ≡ (after (opening z) f.first).history =
    ap (λ (n : State). n.history) (after_append (opening z) f.first (seek_for c key ∷ []) ∙ after_more (after (opening z) f.first) (seek_for c key) []) ∙ seek_same (after (opening z) f.first) c key in
    let lawful = f.fresh.lawful in
    let low : length g.history ≤ lawful.point = subst (λ (h : List Change). length h ≤ lawful.point) (sym start) lawful.from_on in
    let up : lawful.point ≤ length (after g more).history =
    subst (λ (n : State). lawful.point ≤ length n.history) goes (omega (arith, lawful.up_to, on.sections.prefix c)) in
    let p = reached g more lawful.point low up in
    let point : List Event = sought ++ p.done in
    let reach : after (opening z) point ≡ after g p.done = after_append (opening z) sought p.done in
    let size : length (after (opening z) point).history ≡ lawful.point = ap (λ (n : State). length n.history) reach ∙ p.there in
    let joined : point ++ p.rest ≡ end = append_assoc sought p.done p.rest ∙ (ap (λ (d : List Event). sought ++ d) (sym p.are) ∙ whole) in
    let grown = all_grow (after (opening z) point) p.rest in
    let full : (after (opening z) end).history ≡ (after (opening z) point).history ++ grown.0 =
    ap (λ (n : State). n.history) (ap (after (opening z)) (sym joined) ∙ after_append (opening z) point p.rest) ∙ grown.1 in
    record {
      place = f;
      point = point;
      from = (p.done, refl);
      to = (p.rest, joined);
      answered = lookup_then (after (opening z) point).history grown.0 key answer
          (subst (λ (n : ℕ). IsLookup ((after (opening z) point).history ++ grown.0) n key answer) (sym size)
          (subst (λ (h : List Change). IsLookup h lawful.point key answer) full lawful.answered));
    }
