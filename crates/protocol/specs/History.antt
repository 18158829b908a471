-- The history of changes: which entry is live when, what a lookup may answer, what a section may hold.
use Rattle.std.specs.Prelude.{◌≡◌, ℕ, zero, suc, ◌<◌, ◌≤◌, List, ◌∷◌, [], ◌++◌, length, Option, Some, None, slice_get}
use Rattle.protocol.specs.Types.{Entry, Change, Attach, Detach, Replace, Key}
use Rattle.registry_values.specs.Common.{key_of}

-- the change at a position; positions count from 1
unfoldable pub change_at : List Change → ℕ → Option Change
change_at h zero = None
change_at h (suc k) = slice_get h k

-- h with one more change
abbrev pub after_change : List Change → Change → List Change
after_change h c = h ++ c ∷ []

-- the entry that a change brings, and the number of the one that it ends
abbrev pub brought_by : Option Change → Option Entry
brought_by None = None
brought_by (Some (Attach e)) = Some e
brought_by (Some (Detach n)) = None
brought_by (Some (Replace n r e)) = Some e

abbrev pub ended_by : Option Change → Option ℕ
ended_by None = None
ended_by (Some (Attach e)) = None
ended_by (Some (Detach n)) = Some n
ended_by (Some (Replace n r e)) = Some n

-- the rank of the entry with the number n, by its change: its number, or, if it took another's place, what that change says
abbrev pub rank_by : ℕ → Option Change → ℕ
rank_by n None = n
rank_by n (Some (Attach e)) = n
rank_by n (Some (Detach m)) = n
rank_by n (Some (Replace m r e)) = r

-- where the entry with the number n is on the list: the links lead to ever lower ranks
unfoldable pub rank_at : List Change → ℕ → ℕ
rank_at h n = rank_by n (change_at h n)

-- the entry with this number was attached, as this entry
abbrev pub IsAttached : List Change → Entry → Type 0
IsAttached h e = brought_by (change_at h e.number) ≡ Some e

-- the entry with the number n ends at position p
abbrev pub EndsAt : List Change → ℕ → ℕ → Type 0
EndsAt h n p = ended_by (change_at h p) ≡ Some n

-- e is among the entries attached and not detached in the first k changes
pub record IsLiveAt (h : List Change) (k : ℕ) (e : Entry) : Type 0 where
  pub attached : IsAttached h e
  pub begun : e.number ≤ k
  pub unended : (p : ℕ) → EndsAt h e.number p → k < p

-- Each attach finds no live entry of its kind and name and none in its slot, each detach names a live entry. A replacement names a live entry of
-- its kind and name, with its rank, and finds none in its slot.
pub record IsLegal (h : List Change) : Type 0 where
  pub numbered : (k : ℕ) (e : Entry) → brought_by (change_at h k) ≡ Some e → e.number ≡ k
  pub new_key : (k : ℕ) (e f : Entry) → change_at h (suc k) ≡ Some (Attach e) → IsLiveAt h k f → key_of f ≡ key_of e → ⊥
  pub new_slot : (k : ℕ) (e f : Entry) → brought_by (change_at h (suc k)) ≡ Some e → IsLiveAt h k f → f.slot ≡ e.slot → ⊥
  pub ends_live : (k n : ℕ) → ended_by (change_at h (suc k)) ≡ Some n → (f : Entry) × IsLiveAt h k f × (f.number ≡ n)
  pub alike : (k n r : ℕ) (e f : Entry) → change_at h (suc k) ≡ Some (Replace n r e) → IsLiveAt h k f → f.number ≡ n → (key_of f ≡ key_of e) × (r ≡ rank_at h n)

-- a section that began at b may hold e (pserialize(9), read sections)
pub record MayHold (h : List Change) (b : ℕ) (e : Entry) : Type 0 where
  pub attached : IsAttached h e
  pub unended : (p : ℕ) → EndsAt h e.number p → b < p

-- the result of a lookup over the first k changes
abbrev pub IsLookup : List Change → ℕ → Key → Option Entry → Type 0
IsLookup h k key None = (e : Entry) → IsLiveAt h k e → key_of e ≡ key → ⊥
IsLookup h k key (Some e) = IsLiveAt h k e × (key_of e ≡ key)

-- w is 0, and no entry is live after all changes of h; or w is a slot plus 1, and of those live
-- there the newest by rank has that slot
pub record IsNewestAt (h : List Change) (w : ℕ) : Type 0 where
  pub none : w ≡ 0 → (e : Entry) → IsLiveAt h (length h) e → ⊥
  pub newest : (t : ℕ) → w ≡ suc t → (e : Entry) × IsLiveAt h (length h) e × (e.slot ≡ t) × ((f : Entry) → IsLiveAt h (length h) f → rank_at h f.number ≤ rank_at h e.number)

-- the answer is the registry's at some point from `from` up to `to`
pub record IsLawful (h : List Change) (from to : ℕ) (key : Key) (answer : Option Entry) : Type 0 where
  pub point : ℕ
  pub from_on : from ≤ point
  pub up_to : point ≤ to
  pub answered : IsLookup h point key answer
