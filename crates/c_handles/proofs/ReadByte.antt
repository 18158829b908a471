-- A struct of one pointer to bytes that are lent to be read: one of them is copied out, and all stay lent.
use Rattle.std.proofs.Common.{◌≡◌, ℕ, ◌<◌, ◌^◌, List, [], ◌∷◌, ◌++◌, length, get_or, refl, sym, ap, ◌∙◌, subst, Option, Some}
use seplogic.Ra.Ura.{Ura}
use mir.Syntax.{Fn, Callee, named, mut, local, value_local, ty_ptr, ty_ref, ty_int, place, deref, field, assign, rv_opd, op2, offset, copy, w8, w64, block, seq, return}
use mir.Val.{Val, vptr, vint, vstruct, of_list}
use base.Fraction.{full_share}
use base.Logic.{SProp, ent, sep, emp, guard}
use base.Fml.{Share, Fml, ftrue, flft, fobs, fbor}
use prog.Model.{Model}
use prog.Wp.{Closed}
use types.Logic.{Logic, sem}
use types.Kit.{‵, raw, given, ◌⊛◌, at_ret, ◌$◌, ◌∵◌, !, qed, by, move, keep, drop, learn, use0, use1, split, join, rewrite, fsplit, fsplit3, fjoin, fjoin3, fpick, fpack, feq_i, feq_l, flt_i}
use types.Run.{stop, fld, load, look, of_opd, bin, first, blocks, exec, returns, enter}
use types.ByLocal.{alloc_all, pass_all, free_all, look_at, get, is, through, sets, sets_last, env}
use types.Part.{sub, whole, look_in}
use types.SemTy.{Body}
use contract.Running.{Running, MachineTables, tables}
use denote.Exit.{yes}
use denote.Builtin.{RefMutOf, u8, usize}
use denote.Index.{elem_out, elem_back, place_byte}
use denote.Laws.{Is, shows}
use denote.Memory.{mem, cell_at}
use denote.Param.{layout}
use denote.Plain.{uint_vals, uint_Tells}
use denote.RattleType.{RattleType, owns}
use denote.RawPtr.{Ptr, block_ptr, ptr_val, Testable}
use denote.Ref.{MutRef, mut_vals, mut_Tells}
use denote.Signature.{plain}
use denote.Slice.{Room}
use denote.Steps.{nothing, opens, closes}
use denote.Struct.Owning.{Owning, row}
use denote.Triple.Clauses.{Ended, Clauses, closing, at_exit}
use denote.Triple.Spec.{Meets}
use denote.Triple.Walked.{Stays, stay_dropped, stay_ref, walk_of, Goes-dropped, Goes-ref}
use Rattle.core.proofs.alloc.Shapes.{after}
use Rattle.std.proofs.raw_atomic.Walks.{proved, leaves}
use Rattle.c_handles.specs.Heap.{IsWithin, number_at, lends_row}
use Rattle.c_handles.proofs.Lent.{by_name}
use Rattle.c_handles.proofs.LentRow.{either}
use Rattle.c_handles.proofs.Turned.{Said, Word, pointing, routine, said, word, word_of}

-- a struct of one pointer, by reference
module _ (P : Owning) (at : Word P.D) where
  abbrev A : RattleType
  A = row (word P at)

  -- the pointer is read and moved up, and what lies there is copied
  abbrev pub reads : Fn
  reads = routine 1 2
      (local (ty_int w8) value_local ∷ local (ty_ref (named 0) mut (by_name (layout A))) value_local ∷ local (ty_int w64) value_local ∷ local ty_ptr value_local ∷ local (ty_int w8) value_local
      ∷ local ty_ptr value_local ∷ [])
      (seq (assign (place 3 []) (rv_opd (copy (place 1 (deref (layout A) ∷ field 0 ∷ [])))))
      (seq (block (seq (assign (place 5 []) (op2 offset (copy (place 3 [])) (copy (place 2 [])))) (assign (place 4 []) (rv_opd (copy (place 5 (deref (ty_int w8) ∷ [])))))))
      (seq (assign (place 0 []) (rv_opd (copy (place 4 [])))) return)))

  abbrev pub Read : Ended
  Read = record {
    signature = record { lifetimes = 1; outlives = []; params = RefMutOf (0 ∷ []) tt (plain (λ _. A)) (λ _. tt) ∷ plain (λ _. usize) ∷ []; result = plain (λ κs. u8) };
    kept = (yes, (yes, tt));
  }

  abbrev stays : Stays Read.signature.params Read.kept
  stays = (stay_ref (0 ∷ []) tt (plain (λ _. A)), (stay_dropped (plain (λ _. usize)) yes, tt))

  module _ (share : P.D → Share) (bytes : P.D → Option (List ℕ)) (owned : (d : P.D) → P.heap d ≡ lends_row u8 (share d) (at d).0 (bytes d))
      {M : Type 1} {𝓤 : Ura M} (𝓛 : Logic 𝓤) (c : Clauses 𝓤 Read)
      (needs : (y : (walk_of 𝓛 Read stays c).Ghost) → ent 𝓤 ((c y.0.0 y.0.3).requires y.1) (guard 𝓤 (IsWithin (bytes y.0.3.0.now) y.0.3.1.0) (emp 𝓤)))
      (tells : (y : (walk_of 𝓛 Read stays c).Ghost) → Said 𝓤 ((c y.0.0 y.0.3).ensures y.1 (number_at (bytes y.0.3.0.now) y.0.3.1.0) (at_exit Read y.0.0 y.0.3 (y.0.3.0.now, (tt, tt))))) where
    module _ (𝓜 : Model 𝓤 𝓛.H) (𝓡 : Running 𝓤 𝓛.H 𝓜) where
      abbrev 𝓣 : MachineTables 𝓤 𝓛.H 𝓜
      𝓣 = tables 𝓤 𝓛.H 𝓜 𝓡 𝓡.env

      pub read : (k : Callee) → Closed 𝓤 𝓛.H 𝓣.C 𝓣.Λ k reads → Meets 𝓛 Read.signature (𝓣.C k) (closing 𝓛 Read c)
      read k closed = proved 𝓛 Read stays c 𝓜 𝓡 (Goes-ref 𝓛 1 0 tt (plain (λ _. A)), (Goes-dropped 𝓛 1 (plain (λ _. usize)) yes (λ κs x f. refl), tt)) k reads closed
          (λ κs. (mut_vals, (uint_vals w64, tt))) (λ κs. (mut_Tells (named 0) κs.0 A, (uint_Tells w64, tt))) (λ κs qs bounds a g are.
          let κ = κs.0 in let q = qs.0 in let r = a.0 in let i : ℕ = a.1.0 in let d : P.D = r.now in let rb = r.ref_ptr.0 in let ro = r.ref_ptr.1 in let γ = r.ghost_name in let vs = mut_vals r in
          let y : (walk_of 𝓛 Read stays c).Ghost =
          ((κs, qs, bounds, a, (vs, (vint w64 i ∷ [], tt))), g) in let Q : Val → SProp 𝓤 = (walk_of 𝓛 Read stays c).post y in let Cell : List Val → Fml = λ us. cell_at full_share A.mir us rb ro in
          let n : ℕ = number_at (bytes d) i in let low : i < 2 ^ 64 = are.1.0.1 in
          let Had : SProp 𝓤 = sep 𝓤 (sem 𝓛 (fobs γ (A.coded.code d))) (sep 𝓤 (sem 𝓛 (fbor κ (Body (mem A) rb ro γ))) (sem 𝓛 (flft κ q))) in
          let ends : n < 2 ^ 8 → ent 𝓤 Had (Q (vint w8 n)) = λ few.
          qed 𝓛 (‵ (fobs γ (A.coded.code d)) ∷ ‵ (fbor κ (Body (mem A) rb ro γ)) ∷ ‵ (flft κ q) ∷ []) ∵
          flt_i ! n (2 ^ 8) few $ feq_i ! (List Val) (vint w8 n ∷ []) (vint w8 n ∷ []) refl $ fjoin ! $ move ! (1 ∷ 2 ∷ 3 ∷ 0 ∷ []) $
          feq_i ! (List Val) (vptr rb ro ∷ []) (vptr rb ro ∷ []) refl $ fjoin3 ! $ nothing ! $ nothing ! $ fjoin ! $ move ! (1 ∷ 0 ∷ []) $ fjoin ! $ nothing ! $ move ! (2 ∷ 0 ∷ []) $ join ! $
          use0 𝓛 (raw ((c κs a).ensures g n (at_exit Read κs a (d, (tt, tt))))) (said 𝓤 (tells y)) $ move ! (1 ∷ 2 ∷ 3 ∷ 0 ∷ []) $ by ! (leaves 𝓛 Read stays c y (vint w8 n) n (d, (tt, tt)) (tt, (tt, tt))) in
          qed 𝓛 (((‵ (flft κ q) ⊛ ‵ ftrue) ⊛ ‵ (owns (MutRef (named 0) κ A ∷ usize ∷ []) a (vs, (vint w64 i ∷ [], tt)))) ∷ raw ((c κs a).requires g) ∷ []) ∵
          move ! (1 ∷ []) $ use1 𝓛 (given (IsWithin (bytes d) i) (raw (emp 𝓤))) (needs y) $ learn ! (λ within. drop ! $ split ! $ split ! $ move ! (2 ∷ []) $ fsplit ! $ keep ! (0 ∷ 2 ∷ []) $
          enter ! 𝓣.C 𝓣.Λ reads (vptr rb ro ∷ vint w64 i ∷ []) Q $ alloc_all ! (λ l. pass_all ! refl ((tt, tt), ((tt, record { fits = low }), tt)) $ let Ev = env reads.locals l in
          fsplit3 ! $ drop ! $ move ! (0 ∷ 1 ∷ 2 ∷ []) $ opens ! tt A rb ro (λ us. move ! (1 ∷ []) $ fsplit ! $ fpick ! (λ vss. fsplit ! $ feq_l ! (λ ev. fsplit ! $ feq_l ! (λ ep. drop ! $
          rewrite ! 0 (λ (F : Fml). ‵ F) (owned d) refl $ either u8 (share d) ! (at d).0 (bytes d)
          (λ is_none is. absurd (subst (λ (held : Option (List ℕ)). IsWithin held i) is_none within))
          (λ b o xs is_some e room test.
          let w : Val = word_of (block_ptr b o) in let ws : us ≡ w ∷ [] = subst (λ (ps : List Val). us ≡ vstruct (of_list (ps ++ [])) ∷ []) (ep ∙ ap (λ (p : Ptr). ptr_val p ∷ []) e) ev in
          let here : i < length xs = subst (λ (held : Option (List ℕ)). IsWithin held i) is_some within in
          let heap : lends_row u8 (share d) (block_ptr b o) (Some xs) ≡ P.heap d = ap (λ (p : Ptr). lends_row u8 (share d) p (Some xs)) (sym e)
          ∙ (ap (λ (held : Option (List ℕ)). lends_row u8 (share d) (at d).0 held) (sym is_some) ∙ sym (owned d)) in
          -- [the row; the struct's cell; the open borrow, in three entries]
          rewrite ! 1 (λ (xs : List Val). ‵ (Cell xs)) ws refl $ sets ! (of_opd ! (load ! (through ! refl (fld ! refl (stop !))) (look_in ! 1 (sub ! 0 refl (whole !))))) refl (tt, tt) $
          elem_out ! u8 (Is u8) (shows 𝓛 u8) (uint_vals w8) (uint_Tells w8) (share d) xs i 0 b o here (λ has.
          -- [the byte; what it owns; the others; the struct's cell; the open borrow]
          first ! $ blocks ! $ sets ! (is ! (bin ! (get ! refl) (get ! refl) tt) (ap (vptr b) (sym (place_byte o i)))) refl (tt, tt) $
          sets_last ! (of_opd ! (load ! (through ! refl (stop !)) (look ! 0 refl))) refl (tt, record { fits = has.1 }) $
          exec ! 𝓣.C 𝓣.Λ Ev (after 2 reads.body) (at_ret Ev Q) $ sets ! (of_opd ! (get ! refl)) refl (tt, record { fits = has.1 }) $
          elem_back ! u8 (share d) xs i 0 (vint w8 (get_or xs i 0) ∷ []) b o here $
          nothing ! $ fpack ! (Testable (block_ptr b o)) (λ _. ftrue) test $ nothing ! $ fpack ! (Room u8 (length xs)) (λ _. ftrue) room $ fjoin ! $ move ! (1 ∷ 0 ∷ []) $ fjoin ! $
          rewrite ! 0 (λ (F : Fml). ‵ F) heap refl $ pointing P at ! d (block_ptr b o) e $ fjoin ! $ move ! (1 ∷ []) $ closes ! tt A d (w ∷ []) rb ro $
          returns ! (look_at ! 0 refl) $ free_all ! refl $ keep ! (0 ∷ 1 ∷ 2 ∷ []) $
          by ! (subst (λ (held : Option (List ℕ)). ent 𝓤 Had (Q (vint w8 (number_at held i)))) is_some
          (ends (subst (λ (held : Option (List ℕ)). number_at held i < 2 ^ 8) (sym is_some) has.1))))))))))))
