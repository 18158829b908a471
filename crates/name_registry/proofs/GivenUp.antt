-- A reference that the keeper gave up, for a caller that hears of it.
use Rattle.std.proofs.Common.{◌≡◌, ◌∙◌, ℕ, ◌+◌, ◌<◌, ◌≤◌, Bool, cond, inr, List, [], ◌∷◌, ◌++◌, eq-eqb, None, refl, sym, ap, subst, append-nil, append_assoc, arith}
use mathlib.Core.List.{IsPrefix}
use Rattle.name_registry.specs.Types.{Done, Entry, JoinKeeper, LogItem, ReferenceView, Tell, TotalSub}
use Rattle.cpu_words.specs.Common.{did, given_after, given_by, given_up, log_item}
use Rattle.cpu_words.proofs.shown.Seeing.{prefix_both}
use Rattle.local_count.specs.{HasComeBack}
use Rattle.local_count.specs.Draining.{HasGivenUp}
use Rattle.passive_list.specs.Common.{OnCpu, OnKeeper, HasHeardOn, cpu_after_tell, has_heard}
use Rattle.name_registry.specs.Common.{HasGivenUpFor, HasLearned, IsLetGoAndHeard, KnowsGivenUp, gives_up, hears_cpu, keeper_after_hear, keeper_after_tell, tells_and_hears}
use Rattle.name_registry.proofs.Noted.{by_meeting, heard_told, met, learned}

-- Counted in a log

given_on : (before : List LogItem) (n : ℕ) (a b : List LogItem) → given_after before n (a ++ b) ≡ given_after before n a + given_after (before ++ a) n b
given_on before n [] b = let same = ap (λ (l : List LogItem). given_after l n b) (append-nil before) in omega (arith, same)
given_on before n (d ∷ a) b =
    omega (arith, given_on (before ++ d ∷ []) n a b, ap (λ (l : List LogItem). given_after l n b) (append_assoc before (d ∷ []) a))

given_grows : (n : ℕ) (a b : List LogItem) → IsPrefix a b → given_up n a ≤ given_up n b
given_grows n a b pre = let both = given_on [] n a pre.0 in let whole = ap (given_up n) pre.1 in omega (arith, both, whole)

one_more_given : (e : Entry) (before after : List LogItem) → given_up e.number before < given_up e.number (before ++ (gives_up e ++ after))
one_more_given e before after =
    let n = e.number in
    let rest : ℕ = given_after (([] ++ before) ++ log_item (JoinKeeper n) Done ∷ []) n (did (TotalSub e.slot) Done ++ after) in
    let last : given_after ([] ++ before) n (gives_up e ++ after) ≡ given_by ([] ++ before) n (JoinKeeper n) + rest = refl in
    let one : given_by ([] ++ before) n (JoinKeeper n) ≡ 1 = ap (λ (b : Bool). cond b 1 0) (eq-eqb n n refl) in
    omega (arith, given_on [] n before (gives_up e ++ after), last, one)

-- The call

pub given_for : (a h end b : OnKeeper) (x same y : OnCpu) (v : ReferenceView) → IsPrefix x.known_log a.log → h ≡ keeper_after_hear a x → same ≡ cpu_after_tell x → HasGivenUp h v end
    → b ≡ keeper_after_tell end → HasHeardOn end.view.history same y → IsPrefix b.log y.known_log → y.log ≡ same.log ++ has_heard same None → HasGivenUpFor a x v b y
given_for a h end b x same y v known heard told given is hears all log =
    search (subst (λ (k : OnKeeper). HasGivenUp k v end) heard given, heard_told _ x y (subst (λ (o : OnCpu). HasHeardOn end.view.history o y) told hears), met x same y told log)

pub knows_given : (a : OnKeeper) (x : OnCpu) (v : ReferenceView) (b : OnKeeper) (y : OnCpu) → HasGivenUpFor a x v b y → KnowsGivenUp v.entry x y
knows_given a x v b y has =
    let first : List LogItem = a.log ++ hears_cpu x in
    let join : List LogItem = did (JoinKeeper v.entry.number) Done in
    let less : List LogItem = did (TotalSub v.entry.slot) Done in
    let tell : List LogItem = did (Tell None) Done in
    let more = has.told.0 in
    let log : b.log ≡ ((first ++ join) ++ less) ++ tell = ap (λ (k : OnKeeper). k.log) has.is ∙ ap (λ (l : List LogItem). l ++ tell) has.given.log in
    let known : IsPrefix x.known_log first = prefix_both _ _ _ has.known (hears_cpu x, refl) in
    let are : y.known_log ≡ first ++ (gives_up v.entry ++ (tell ++ more)) =
    sym has.told.1 ∙ (ap (λ (l : List LogItem). l ++ more) log ∙ (append_assoc ((first ++ join) ++ less) tell more
    ∙ (ap (λ (l : List LogItem). l ++ (tell ++ more)) (append_assoc first join less) ∙ append_assoc first (join ++ less) (tell ++ more)))) in
    record {
      before = first;
      after = tell ++ more;
      known = known;
      are = are;
      more =
          omega (arith, given_grows v.entry.number x.known_log first known, one_more_given v.entry first (tell ++ more), ap (given_up v.entry.number) are);
    }

pub learns_given : (a : OnKeeper) (x : OnCpu) (v : ReferenceView) (b : OnKeeper) (y : OnCpu) → HasGivenUpFor a x v b y → HasLearned x y
learns_given a x v b y has = learned has.end.view.history x y has.hears (by_meeting x y has.cpu_log)

-- the reference came back, and then the keeper gave it up
pub let_go_heard : (x m y : OnCpu) (v w : ReferenceView) → HasComeBack x v m w → HasLearned m y → y.made ≡ m.made → y.log ≡ m.log ++ tells_and_hears m → KnowsGivenUp w.entry m y
    → IsLetGoAndHeard x v y
let_go_heard x m y v w back learns made log knows =
    let known : m.known_log ≡ x.known_log = ap (λ (o : OnCpu). o.known_log) back.cpu in
    let before = subst (λ (l : List LogItem). IsPrefix l knows.before) known knows.known in
    let gone : KnowsGivenUp w.entry x y =
    search (before, knows.are, subst (λ (l : List LogItem). given_up w.entry.number l < given_up w.entry.number y.known_log) known knows.more) in
    inr (search (back, learns, log, made, subst (λ (e : Entry). KnowsGivenUp e x y) (ap (λ (u : ReferenceView). u.entry) back.is) gone))
