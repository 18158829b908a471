-- The end of a registry with its CPUs: the keeper's seat took over those of the CPUs, one after the other from the last, and what they made was put together.
use Rattle.std.proofs.Common.{◌≡◌, ℕ, zero, suc, ◌+◌, ◌<◌, List, [], ◌∷◌, ◌++◌, length, Option, Some, None, refl, sym, ap, ◌∙◌, subst, append_assoc, arith}
use Rattle.std.specs.Option.{MatchOption}
use mathlib.Core.Option.{some, some-injective, some-ne-none}
use lib.ListN.{get_elem?}
use Rattle.name_registry.specs.Types.{EndedSeat, KeeperView, LogItem, Settings}
use Rattle.cpu_words.specs.Common.{HaveClosed, Seated, cpu_end}
use Rattle.cpu_words.proofs.laws.Freed.{ended_runs_for_all}
use Rattle.passive_list.specs.Common.{OnCpu}
use Rattle.name_registry.specs.Common.{AreTaken, ClosesRunOf, made_by, weigh}
use Rattle.name_registry.proofs.Destroyed.{freed_more}

-- the end of a CPU's seat
abbrev end_on : OnCpu → EndedSeat
end_on x = cpu_end x.view x.log x.known_log

-- the keeper's seat with one more
abbrev pub took : Seated KeeperView → OnCpu → Seated KeeperView
took k x = record k { ends = cpu_end x.view x.log x.known_log ∷ k.ends }

-- of all CPUs these are left, and the others were taken over: the keeper's seat was `first`, and is `now`, and so many parts of the ledger are together, with so much on them
pub record AreDone (all left : List OnCpu) (first now : Seated KeeperView) (p a : ℕ) : Type 0 where
  pub done : List OnCpu
  pub are : all ≡ left ++ done
  pub taken : AreTaken done now.ends
  pub same : now ≡ record first { ends = now.ends }
  pub parts : p ≡ length done
  pub amount : a ≡ made_by done

none_taken : (ends : List EndedSeat) → AreTaken [] ends
none_taken ends c x is = absurd (some-ne-none x (sym is))

one_taken : (done : List OnCpu) (x : OnCpu) (ends : List EndedSeat) → AreTaken done ends → AreTaken (x ∷ done) (end_on x ∷ ends)
one_taken done x ends had zero y is = (0, ap (λ (z : OnCpu). some (end_on z)) (some-injective x y is))
one_taken done x ends had (suc c) y is = let t = had c y is in (suc t.0, t.1)

took_ends : (k n : Seated KeeperView) (x : OnCpu) → n ≡ took k x → n.ends ≡ end_on x ∷ k.ends
took_ends k n x is = ap (λ (s : Seated KeeperView). s.ends) is

pub first_done : (all left : List OnCpu) (x : OnCpu) (k n : Seated KeeperView) (p a : ℕ) → all ≡ left ++ x ∷ [] → n ≡ took k x → (p ≡ 1) × (a ≡ x.made) → AreDone all left k n p a
first_done all left x k n p a are is share = record {
  done = x ∷ [];
  are = are;
  taken = subst (AreTaken (x ∷ [])) (sym (took_ends k n x is)) (one_taken [] x k.ends (none_taken k.ends));
  same = is ∙ (λ j. record k { ends = sym (took_ends k n x is) j });
  parts = share.0;
  amount = omega (arith, share.1);
}

pub next_done : (all left rest : List OnCpu) (x : OnCpu) (k n m : Seated KeeperView) (p a q b r s : ℕ) → AreDone all left k n p a → left ≡ rest ++ x ∷ [] → m ≡ took n x → (q ≡ 1) × (b ≡ x.made)
    → r ≡ p + q → s ≡ a + b → AreDone all rest k m r s
next_done all left rest x k n m p a q b r s had are is share parts amount = record {
  done = x ∷ had.done;
  are = had.are ∙ (ap (λ (l : List OnCpu). l ++ had.done) are ∙ append_assoc rest (x ∷ []) had.done);
  taken = subst (AreTaken (x ∷ had.done)) (sym (took_ends n m x is)) (one_taken had.done x n.ends had.taken);
  same = is ∙ (ap (λ (o : Seated KeeperView). record o { ends = end_on x ∷ n.ends }) had.same ∙ (λ j. record k { ends = sym (took_ends n m x is) j }));
  parts = let so_far = had.parts in let one = share.0 in omega (arith, so_far, one, parts);
  amount = let so_far = had.amount in let its = share.1 in omega (arith, so_far, its, amount);
}

-- none is left

empty : (left : List OnCpu) → length left ≡ 0 → left ≡ []
empty [] none = refl
empty (x ∷ left) none = absurd (omega (arith, none))

pub all_done : (all left : List OnCpu) (k n : Seated KeeperView) (p a : ℕ) → (had : AreDone all left k n p a) → length left ≡ 0 → all ≡ had.done
all_done all left k n p a had none = had.are ∙ ap (λ (l : List OnCpu). l ++ had.done) (empty left none)

-- what a match says where there is no value
pub at_none : {X A : Type 0} (B : X → Type 0) (o : Option X) → MatchOption o A B → ((x : X) → o ≡ Some x → ⊥) → A
at_none B None told off = told
at_none B (Some x) told off = absurd (off x refl)

-- The theorem of the finished run

pub closes_run_of : (z : Settings) (p : ℕ) (k : KeeperView) (log : List LogItem) (ends : List EndedSeat) (xs : List OnCpu) (last : List ℕ) → AreTaken xs ends → HaveClosed z k log ends last
    → (0 < p → length xs ≡ p → weigh k.history ≡ made_by xs) → ClosesRunOf z p xs last
closes_run_of z p k log ends xs last taken closed made =
    let its = ended_runs_for_all z k log ends last closed in
    record {
      keeper = k;
      log = log;
      run = its.run;
      each = λ c x is.
          let t = taken c x is in
          let whole = its.each t.0 x.view x.log x.known_log t.1 in
          record { whole = whole; gone = λ u n freed. its.run.gone u n (freed_more u n x.known_log log whole.known freed); held = its.held x.view.id whole.shown.seated };
      locals = its.locals;
      exact = its.exact;
      made = made;
    }
