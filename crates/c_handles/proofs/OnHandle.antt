-- What is behind a local reference's handle, by its block and its share of one.
use Rattle.std.proofs.Common.{◌≡◌, true, false, nat_eq, Option, Some, None, refl, sym, ap, ◌∙◌}
use Rattle.std.proofs.lemmas.Bool.{false≢true}
use Rattle.std.proofs.lemmas.Option.{none-some}
use Rattle.c_handles.specs.declared.taken.LocalTaken.{LocalTaken}
use Rattle.c_handles.specs.declared.taken.LocalTaken.TheVariants.{Nothing, Share, Reference}
use Rattle.c_handles.specs.declared.values.plain.CEntry.{CEntry}
use Rattle.c_handles.specs.Bodies.{IsBeside, OnLocal, OnLocalBody, local_of}
use Rattle.c_handles.specs.OnHandle.{OnHandle, held_by}
use Rattle.c_handles.specs.Taken.{IsTaken, IsTakenShare}

-- a reference in its own block
pub of_block : (h i : OnHandle) (v : OnLocalBody) → i ≡ h → i.1.body ≡ Some v → held_by h ≡ Some (record { held = v; copied = false })
of_block h i v same is = ap held_by (sym same) ∙ ap (λ (b : Option OnLocalBody). local_of b i.2.body) is

-- one that it has a share of
pub of_share : (h i : OnHandle) (v : OnLocalBody) → i ≡ h → i.1.body ≡ None → i.2.body ≡ Some (Some v) → held_by h ≡ Some (record { held = v; copied = true })
of_share h i v same none is = ap held_by (sym same) ∙ λ t. local_of (none t) (is t)

-- none
pub of_nothing : (h i : OnHandle) → i ≡ h → i.1.body ≡ None → i.2.body ≡ None → held_by h ≡ None
of_nothing h i same none empty = ap held_by (sym same) ∙ λ t. local_of (none t) (empty t)

full_by : (b : Option OnLocalBody) (s : Option (Option OnLocalBody)) (e : CEntry) → IsBeside b s e → nat_eq e.number 0 ≡ false → (x : OnLocal) × (local_of b s ≡ Some x)
full_by None None e is some = absurd (false≢true (sym some ∙ ap (λ (a : CEntry). nat_eq a.number 0) is))
full_by None (Some None) e is some = absurd is
full_by None (Some (Some v)) e is some = (_, refl)
full_by (Some v) s e is some = (_, refl)

-- by the number of its entry
pub is_full : (h : OnHandle) (b : Option OnLocalBody) (s : Option (Option OnLocalBody)) (e : CEntry) → local_of b s ≡ held_by h → IsBeside b s e → nat_eq e.number 0 ≡ false
    → (x : OnLocal) × (held_by h ≡ Some x)
is_full h b s e same is some = let had = full_by b s e is some in (had.0, sym same ∙ had.1)

shared_by : (b : Option OnLocalBody) (s : Option (Option OnLocalBody)) (e : CEntry) (o : Option OnLocalBody) → IsBeside b s e → s ≡ Some o → (x : OnLocal) × (local_of b s ≡ Some x)
shared_by None None e o is some = absurd (none-some o some)
shared_by None (Some None) e o is some = absurd is
shared_by None (Some (Some v)) e o is some = (_, refl)
shared_by (Some v) s e o is some = (_, refl)

-- by its share
pub is_shared : (h : OnHandle) (b : Option OnLocalBody) (s : Option (Option OnLocalBody)) (e : CEntry) (o : Option OnLocalBody) → local_of b s ≡ held_by h → IsBeside b s e → s ≡ Some o
    → (x : OnLocal) × (held_by h ≡ Some x)
is_shared h b s e o same is some = let had = shared_by b s e o is some in (had.0, sym same ∙ had.1)

-- beside a block of its own there is none
pub no_share : (b : Option OnLocalBody) (s : Option (Option OnLocalBody)) (e : CEntry) (v : OnLocalBody) → IsBeside b s e → b ≡ Some v → s ≡ None
no_share None s e v is some = absurd (none-some v some)
no_share (Some w) None e v is some = refl
no_share (Some w) (Some share) e v is some = absurd is

-- what giving a share up leaves is what was taken
pub taken_share : (l : Option OnLocal) (share : Option OnLocalBody) (r : LocalTaken) → ((v : OnLocalBody) → share ≡ Some v → l ≡ Some (record { held = v; copied = true })) → IsTakenShare share r
    → IsTaken l r
taken_share l share Nothing at is = absurd is
taken_share l share Share at is = (_, at is.0 is.1, refl)
taken_share l share (Reference b room) at is = (_, at b is, refl)
