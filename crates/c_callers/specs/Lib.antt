-- What calls from C leave of the handles of one registry, and of a CPU.
use Rattle.std.specs.Prelude.{◌≡◌, Option, Some, ◌≢◌}
use mathlib.Core.List.{IsPrefix}
use Rattle.cpu_words.specs.Common.{Named}
use Rattle.passive_list.specs.Common.{OnCpu, OnPlainCpu}
use Rattle.name_registry.specs.Common.{is_inside}
use Rattle.c_handles.specs.Bodies.{IsReferenceOf, OnLocal}
use Rattle.c_handles.specs.declared.values.plain.CPassive.{CPassive}

-- What is behind handles of one registry.

-- the CPU behind the handle, if any, is of the registry with these words
abbrev pub IsCpuOf : Named → Option OnPlainCpu → Type 0
IsCpuOf w c = (x : OnPlainCpu) → c ≡ Some x → x.words ≡ w

-- the local reference behind it, if any, is of that registry
abbrev pub IsLocalOf : Named → Option OnLocal → Type 0
IsLocalOf w l = (v : OnLocal) → l ≡ Some v → IsReferenceOf w v.held

-- the reference isn't empty, and names another CPU than the one behind the handle
pub record IsAnothers (p : CPassive) (c : Option OnPlainCpu) : Type 0 where
  pub cpu : OnPlainCpu
  pub there : c ≡ Some cpu
  pub held : p.entry.number ≢ 0
  pub other : p.cpu ≢ cpu.cpu.view.id

-- What a CPU keeps over a call.

-- it knows all that it knew, has its number, and is inside a section if it was
pub record IsOn (x y : OnCpu) : Type 0 where
  pub knows : IsPrefix x.known_log y.known_log
  pub id : y.view.id ≡ x.view.id
  pub inside : is_inside y ≡ is_inside x
