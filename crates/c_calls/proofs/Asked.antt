-- A call by a kind and a name of C's: what is so of the key that they ask for is so of the call.
use Rattle.std.proofs.Common.{◌≡◌, ◌≢◌, ◌==◌, if◌then◌else◌, ℕ, Bool, true, false, Option, Some, None, refl, sym, ap, subst, ◌∙◌}
use Rattle.std.proofs.lemmas.Bool.{eqb-true}
use Rattle.std.specs.Prelude.{Result, Ok, Err}
use Rattle.c_calls.specs.Types.{Key, Kind, Driver, Iface, Name}
use Rattle.registry_values.specs.Common.{key_of_words, kind_word}
use Rattle.cpu_words.specs.Common.{key_with}
use Rattle.passive_list.specs.declared.lookup.Seen.{Seen}
use Rattle.passive_list.specs.Common.{ByWord, IsOfNoKind, OnCpu, OnPlainCpu}
use Rattle.c_handles.specs.declared.values.answer.EntryAnswer.{EntryAnswer}
use Rattle.c_handles.specs.declared.values.answer.NamedAnswer.{NamedAnswer}
use Rattle.c_handles.specs.declared.values.given.GivenName.{GivenName}
use Rattle.c_handles.specs.declared.values.plain.CEntry.{CEntry}
use Rattle.c_handles.specs.declared.values.plain.CName.{CName}
use Rattle.c_calls.specs.Calls.{Asks, DoesAsked, FindsFor, FindsInsideFor, IsFastFor, MissesFor, Through, asked, entry_by, key_or_bad, outside_or, words_name}
use Rattle.c_handles.specs.values.Texts.{entry_out, kind_in, name_out}
use Rattle.c_handles.specs.declared.values.plain.TheConstants.{BAD_KIND, BAD_NAME}
use Rattle.protocol.specs.Common.{entry_with}
use Rattle.registry_values.specs.Names.{are_key_words}
use Rattle.c_calls.proofs.Passives.{through_some}

-- The word of a kind

kind_is : (k : Kind) → kind_in (kind_word k) ≡ Some k
kind_is Iface = refl
kind_is Driver = refl

kind_none : (word : ℕ) → kind_in word ≡ None → IsOfNoKind word
kind_none word none k is = let clash : ◌≡◌ {A = Option Kind} (Some k) None = sym (ap kind_in is ∙ kind_is k) ∙ none in cc

kind_some : (word : ℕ) (k : Kind) → kind_in word ≡ Some k → word ≡ kind_word k
kind_some word k is = by (word == 1) (word == 2) refl refl is
  where
    some_kind : {c : Kind} → ◌≡◌ {A = Option Kind} (Some c) (Some k) → c ≡ k
    some_kind had = cc

    by : (b c : Bool) → word == 1 ≡ b → word == 2 ≡ c → (if b then Some Iface else (if c then Some Driver else None)) ≡ Some k → word ≡ kind_word k
    by true c one two had = eqb-true word 1 one ∙ ap kind_word (some_kind had)
    by false true one two had = eqb-true word 2 two ∙ ap kind_word (some_kind had)
    by false false one two had = let clash : ◌≡◌ {A = Option Kind} None (Some k) = had in cc

-- they ask for that key
pub asks_good : (kind : ℕ) (name : Option CName) (key : Key) (n : ℕ) (Same : Type 0) (P : Key → Type 0) (r : Result Key ℕ) → r ≡ asked kind name → r ≡ Ok key → P key → Asks kind name n Same P
asks_good kind name key n Same P r from is had = record { does = subst (λ (q : Result Key ℕ). DoesAsked q n Same P) (sym is ∙ from) had }

-- something is wrong with them
pub asks_bad : (kind : ℕ) (name : Option CName) (e n : ℕ) (Same : Type 0) (P : Key → Type 0) (r : Result Key ℕ) → r ≡ asked kind name → r ≡ Err e → n ≡ e → Same → Asks kind name n Same P
asks_bad kind name e n Same P r from is number same = record { does = subst (λ (q : Result Key ℕ). DoesAsked q n Same P) (sym is ∙ from) (number, same) }

-- what the call beneath returned and wrote, of a CPU's body and of the key, is what the call through the handle did
pub tells : (old : Option OnPlainCpu) (a b : OnPlainCpu) (kind : ℕ) (name given : Option CName) (key : Key) (was : Option CEntry) (r : EntryAnswer) (g : GivenName) (told : NamedAnswer)
    (P : Key → OnPlainCpu → OnPlainCpu → ℕ → Option CEntry → Option CEntry → Type 0)
    → old ≡ Some a → given ≡ name → Ok key ≡ asked kind given → told ≡ record { number = r.number; place = r.place; name = g } → P key a b r.number was r.place.value
    → Through old (Some b) told.number (told.place.value ≡ was) (λ x y. Asks kind name told.number ((y ≡ x) × (told.place.value ≡ was)) (λ k. P k x y told.number was told.place.value))
tells old a b kind name given key was r g told P full is good same had =
    subst (λ (t : NamedAnswer). Through old (Some b) t.number (t.place.value ≡ was) (λ x y. Asks kind name t.number ((y ≡ x) × (t.place.value ≡ was)) (λ k. P k x y t.number was t.place.value))) (sym same)
    (through_some old a b r.number (r.place.value ≡ was) (λ x y. Asks kind name r.number ((y ≡ x) × (r.place.value ≡ was)) (λ k. P k x y r.number was r.place.value)) full
    (asks_good kind name key r.number ((b ≡ a) × (r.place.value ≡ was)) (λ k. P k a b r.number was r.place.value) (asked kind name) refl (ap (asked kind) (sym is) ∙ sym good) had))

-- the same where the call beneath judges them
pub tells_given : (old : Option OnPlainCpu) (a b : OnPlainCpu) (kind : ℕ) (name : Option CName) (given : CName) (was : Option CEntry) (r : EntryAnswer) (g : GivenName) (told : NamedAnswer)
    (P : Key → OnPlainCpu → OnPlainCpu → ℕ → Option CEntry → Option CEntry → Type 0)
    → old ≡ Some a → Some given ≡ name → told ≡ record { number = r.number; place = r.place; name = g }
    → Asks kind (Some given) r.number ((b ≡ a) × (r.place.value ≡ was)) (λ k. P k a b r.number was r.place.value)
    → Through old (Some b) told.number (told.place.value ≡ was) (λ x y. Asks kind name told.number ((y ≡ x) × (told.place.value ≡ was)) (λ k. P k x y told.number was told.place.value))
tells_given old a b kind name given was r g told P full is same had =
    subst (λ (t : NamedAnswer). Through old (Some b) t.number (t.place.value ≡ was) (λ x y. Asks kind name t.number ((y ≡ x) × (t.place.value ≡ was)) (λ k. P k x y t.number was t.place.value))) (sym same)
    (through_some old a b r.number (r.place.value ≡ was) (λ x y. Asks kind name r.number ((y ≡ x) × (r.place.value ≡ was)) (λ k. P k x y r.number was r.place.value)) full
    (subst (λ (m : Option CName). Asks kind m r.number ((b ≡ a) × (r.place.value ≡ was)) (λ k. P k a b r.number was r.place.value)) is had))

-- The fast path, by C's words

-- what it tells of the key that they ask for; where they ask for none, nothing has changed
pub missed_for : (Tells : Key → OnCpu → OnCpu → Option Seen → Type 0) (kind : ℕ) (given : CName) (key : Key) (a b : OnPlainCpu) (r : Result Key ℕ) → r ≡ asked kind (Some given) → r ≡ Ok key
    → IsFastFor Tells kind given a b None → Tells key a.cpu b.cpu None × (b.words ≡ a.words)
missed_for Tells kind given key a b r from is had = subst (λ (q : Result Key ℕ). MissesFor Tells q a b) (sym from ∙ is) had

pub same_for : (Tells : Key → OnCpu → OnCpu → Option Seen → Type 0) (kind : ℕ) (given : CName) (e : ℕ) (a b : OnPlainCpu) (r : Result Key ℕ) → r ≡ asked kind (Some given) → r ≡ Err e
    → IsFastFor Tells kind given a b None → b ≡ a
same_for Tells kind given e a b r from is had = subst (λ (q : Result Key ℕ). MissesFor Tells q a b) (sym from ∙ is) had

kind_cases : (Tells : Key → OnCpu → OnCpu → Option Seen → Type 0) (kind : ℕ) (name : Name) (a b : OnPlainCpu) (k : Option Kind) → kind_in kind ≡ k
    → ByWord kind None (λ c s. Tells (key_with c name) a.cpu b.cpu s) → (IsOfNoKind kind → b ≡ a) → b.words ≡ a.words → MissesFor Tells (key_or_bad k (Some name)) a b
kind_cases Tells kind name a b (Some k) is had none words = (had k (kind_some kind k is), words)
kind_cases Tells kind name a b None is had none words = none (kind_none kind is)

-- two words of 0 are no name's
pub unnamed : (Tells : Key → OnCpu → OnCpu → Option Seen → Type 0) (kind : ℕ) (given : CName) (a : OnPlainCpu) (name : Option Name) → name ≡ key_of_words given.high given.low → name ≡ None
    → IsFastFor Tells kind given a a None
unnamed Tells kind given a name from none = subst (λ (m : Option Name). MissesFor Tells (key_or_bad (kind_in kind) m) a a) (sym none ∙ from) (by (kind_in kind))
  where
    by : (k : Option Kind) → MissesFor Tells (key_or_bad k None) a a
    by None = refl
    by (Some k) = refl

pub fast_by : (Tells : Key → OnCpu → OnCpu → Option Seen → Type 0) (kind : ℕ) (given : CName) (name : Name) (a b : OnPlainCpu) (o : Option Seen) → Some name ≡ key_of_words given.high given.low
    → ByWord kind o (λ c s. Tells (key_with c name) a.cpu b.cpu s) → (IsOfNoKind kind → b ≡ a) → b.words ≡ a.words → IsFastFor Tells kind given a b o
fast_by Tells kind given name a b None from had none words =
    subst (λ (m : Option Name). MissesFor Tells (key_or_bad (kind_in kind) m) a b) from (kind_cases Tells kind name a b (kind_in kind) refl had none words)
fast_by Tells kind given name a b (Some s) from (k, is, had) none words = (
  key_with k name,
  sym (λ i. key_or_bad (kind_in kind) (from i)) ∙ ap (λ (c : Option Kind). key_or_bad c (Some name)) (ap kind_in is ∙ kind_is k),
  had,
  words,
)

-- the words of a name
name_of_given : (given : CName) (name : Name) → words_name given ≡ Some name → given ≡ name_out name
name_of_given given name is = by (are_key_words given.high given.low) is
  where
    by : (b : Bool) → (if b then Some (record { high = given.high; low = given.low }) else None) ≡ Some name → given ≡ name_out name
    by true had = ap name_out (same had)
      where
        same : ◌≡◌ {A = Option Name} (Some (record { high = given.high; low = given.low })) (Some name) → ◌≡◌ {A = Name} (record { high = given.high; low = given.low }) name
        same had = cc
    by false had = let clash : ◌≡◌ {A = Option Name} None (Some name) = had in cc

-- C's words of an entry are those that C asked by
pub written_by : (kind : ℕ) (given : CName) (key : Key) (s : Seen) → asked kind (Some given) ≡ Ok key → entry_by kind given s ≡ entry_out (entry_with key s.slot s.number s.value)
written_by kind given key s is = by (kind_in kind) (words_name given) refl refl is
  where
    by : (k : Option Kind) (m : Option Name) → kind_in kind ≡ k → words_name given ≡ m → key_or_bad k m ≡ Ok key → entry_by kind given s ≡ entry_out (entry_with key s.slot s.number s.value)
    by None m kind_is name_is had = let clash : ◌≡◌ {A = Result Key ℕ} (Err BAD_KIND) (Ok key) = had in cc
    by (Some k) None kind_is name_is had = let clash : ◌≡◌ {A = Result Key ℕ} (Err BAD_NAME) (Ok key) = had in cc
    by (Some k) (Some name) kind_is name_is had =
        let word : kind ≡ kind_word k = kind_some kind k kind_is in
        let words : given ≡ name_out name = name_of_given given name name_is in
        (λ i. entry_by (word i) (words i) s) ∙ ap (λ (c : Key). entry_out (entry_with c s.slot s.number s.value)) (one_key had)
      where
        one_key : ◌≡◌ {A = Result Key ℕ} (Ok (key_with k name)) (Ok key) → key_with k name ≡ key
        one_key had = cc

-- a find outside any section
pub finds_outside : (kind : ℕ) (given : CName) (a b : OnPlainCpu) (n : ℕ) (old new : Option CEntry) → n ≡ outside_or (asked kind (Some given)) → (a.cpu.view.begin ≢ None → ⊥) → b ≡ a → new ≡ old
    → Asks kind (Some given) n ((b ≡ a) × (new ≡ old)) (λ key. FindsFor key a b n old new)
finds_outside kind given a b n old new is not same kept = record { does = by (asked kind (Some given)) is }
  where
    by : (r : Result Key ℕ) → n ≡ outside_or r → DoesAsked r n ((b ≡ a) × (new ≡ old)) (λ key. FindsFor key a b n old new)
    by (Ok key) number = record { outside = λ none. (number, same, kept); inside = λ within. absurd (not within) }
    by (Err e) number = (number, (same, kept))

-- and inside, by what the rest did
pub finds_inside : (kind : ℕ) (given : CName) (a b : OnPlainCpu) (n : ℕ) (old new : Option CEntry) → a.cpu.view.begin ≢ None → Asks kind (Some given) n ((b ≡ a) × (new ≡ old)) (λ key. FindsInsideFor key a b n old new)
    → Asks kind (Some given) n ((b ≡ a) × (new ≡ old)) (λ key. FindsFor key a b n old new)
finds_inside kind given a b n old new within had = record { does = by (asked kind (Some given)) had.does }
  where
    by : (r : Result Key ℕ) → DoesAsked r n ((b ≡ a) × (new ≡ old)) (λ key. FindsInsideFor key a b n old new) → DoesAsked r n ((b ≡ a) × (new ≡ old)) (λ key. FindsFor key a b n old new)
    by (Ok key) found = record { outside = λ none. absurd (within none); inside = λ _. found }
    by (Err e) same = same
