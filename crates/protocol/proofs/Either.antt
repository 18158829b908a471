-- A case split that names first what it splits: the cases need no types.
use Rattle.std.proofs.Common.{◌⊎◌, inl, inr}

pub either : {A B C : Type 0} → A ⊎ B → (A → C) → (B → C) → C
either (inl a) first second = first a
either (inr b) first second = second b
