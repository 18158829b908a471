-- Handles by their bodies: each has one or none; and lists of them.
use Rattle.std.proofs.Common.{◌≡◌, Option, Some, None, sym, ◌∙◌, ◌≢◌, ℕ, zero, suc, ◌+◌, ◌-◌, ◌<◌, ◌≤◌, List, [], ◌∷◌, ◌++◌, length, get_or, set, take, drop, refl, ap, arith, length-append}
use Rattle.std.proofs.lemmas.List.{get_or-map, map-set, get_or-set_other, get_or-set_same, get_or_past, length-map, length-take-le, map-append, take-append-drop, take_at, take-take}
use Rattle.std.proofs.lemmas.Option.{none-some, same_Some}
use Rattle.std.proofs.Math.Seq.{map-set_same}
use mathlib.Core.Logic.{dite}
use mathlib.Core.Option.{some}
use native.Mathlib.Decide.{ℕ_discrete}
use lib.ListN.{get_elem?}
use Rattle.atomic_table.proofs.Lists.{at_last}
use Rattle.std_alloc.specs.declared.boxed.Box.{Box}
use Rattle.std_heap.specs.declared.Global.{Global}
use Rattle.passive_list.specs.Common.{OnPlainCpu}
use Rattle.c_handles.specs.declared.handle.CpuHandle.{CpuHandle}
use Rattle.c_calls.specs.Opening.{AreGiven, bodies_of, body_at, boxed}

-- A handle has one body, or none.

pub one_body : {A : Type 0} (o : Option A) (x y : A) → o ≡ Some x → o ≡ Some y → x ≡ y
one_body o x y is too = same_Some x y (sym is ∙ too)

pub no_body : {A : Type 0} (o : Option A) (x : A) → o ≡ Some x → o ≡ None → ⊥
no_body o x is none = none-some x (sym none ∙ is)

-- Lists of handles, by their bodies.

-- a handle was written whose body is as before
pub same_bodies : (hs : List CpuHandle) (c : ℕ) (h d : CpuHandle) → c < length hs → h.body ≡ (get_or hs c d).body → bodies_of (set hs c h) ≡ bodies_of hs
same_bodies hs c h d lt same = map-set_same (λ (x : CpuHandle). x.body) hs c h d same

-- what is behind the handle c
pub body_is : (hs : List CpuHandle) (c : ℕ) (d : CpuHandle) → c < length hs → body_at (bodies_of hs) c ≡ (get_or hs c d).body
body_is hs c d lt = get_or-map (λ (h : CpuHandle). h.body) hs c d None lt

pub count_bodies : (hs : List CpuHandle) → length (bodies_of hs) ≡ length hs
count_bodies hs = length-map hs (λ (h : CpuHandle). h.body)

pub none_past : (cs : List (Option OnPlainCpu)) (c : ℕ) → length cs ≤ c → body_at cs c ≡ None
none_past cs c past = get_or_past cs c None past

pub set_body : (hs : List CpuHandle) (c : ℕ) (h : CpuHandle) → bodies_of (set hs c h) ≡ set (bodies_of hs) c h.body
set_body hs c h = map-set (λ (x : CpuHandle). x.body) hs c h

pub body_set : (hs : List CpuHandle) (c : ℕ) (h : CpuHandle) → c < length hs → body_at (bodies_of (set hs c h)) c ≡ h.body
body_set hs c h lt = ap (λ (l : List (Option OnPlainCpu)). body_at l c) (set_body hs c h) ∙ get_or-set_same (bodies_of hs) c h.body None (omega (arith, lt, count_bodies hs))

-- a handle was written, and what is behind another is as before
pub others_stay : (hs : List CpuHandle) (c k : ℕ) (h : CpuHandle) → k ≢ c → body_at (bodies_of (set hs c h)) k ≡ body_at (bodies_of hs) k
others_stay hs c k h off = ap (λ (l : List (Option OnPlainCpu)). body_at l k) (set_body hs c h) ∙ get_or-set_other (bodies_of hs) c k h.body None off

-- Boxes, taken from the last

pub at_front : {A : Type 0} (xs ys : List A) (i : ℕ) → i < length xs → get_elem? (xs ++ ys) i ≡ get_elem? xs i
at_front [] ys i lt = absurd (omega (arith, lt))
at_front (x ∷ xs) ys zero lt = refl
at_front (x ∷ xs) ys (suc i) lt = at_front xs ys i (omega (arith, lt))

-- the last of the first m of them is taken
pub record IsTaken (all ys : List OnPlainCpu) (y : OnPlainCpu) (m : ℕ) : Type 0 where
  pub left : ℕ
  pub more : m ≡ suc left
  pub rest : ys ≡ take left all
  pub is : get_elem? all left ≡ some y

pub taken : (all ys : List OnPlainCpu) (y : OnPlainCpu) (m : ℕ) → ys ++ y ∷ [] ≡ take m all → m ≤ length all → IsTaken all ys y m
taken all ys y m is le =
    let j = length ys in
    let count : m ≡ suc j = sym (length-take-le m all le) ∙ (ap length (sym is) ∙ (length-append ys (y ∷ []) ∙ omega arith)) in
    record {
      left = j;
      more = count;
      rest = sym (take_at ys (y ∷ []) j refl) ∙ (ap (take j) is ∙ take-take j m all (omega (arith, count)));
      is = ap (λ (l : List OnPlainCpu). get_elem? l j) (sym (take-append-drop m all)) ∙ (at_front (take m all) (drop m all) j (omega (arith, count, length-take-le m all le))
          ∙ (ap (λ (l : List OnPlainCpu). get_elem? l j) (sym is) ∙ at_last ys y j refl));
    }

pub boxed_last : (boxes : List (Box OnPlainCpu Global)) (b : Box OnPlainCpu Global) → boxed (boxes ++ b ∷ []) ≡ boxed boxes ++ b.value ∷ []
boxed_last boxes b = map-append (λ (x : Box OnPlainCpu Global). x.value) boxes (b ∷ [])

-- one handle more is given
pub given_more : (all : List OnPlainCpu) (n c : ℕ) (hs : List CpuHandle) (h : CpuHandle) (b : OnPlainCpu) → c < length hs → h.body ≡ Some b → get_elem? all (n - suc c) ≡ some b
    → AreGiven all n (bodies_of hs) c → AreGiven all n (bodies_of (set hs c h)) (c + 1)
given_more all n c hs h b lt is at given = λ k less. dite (ℕ_discrete k c)
    (λ (same : k ≡ c).
    (b, ap (body_at (bodies_of (set hs c h))) same ∙ (body_set hs c h lt ∙ is), ap (λ j. get_elem? all (n - suc j)) same ∙ at))
    (λ (off : k ≢ c). let before = given k (omega (arith, less, off)) in (before.0, others_stay hs c k h off ∙ before.1, before.2))
