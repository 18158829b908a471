-- What is lent to be read, by a pointer or null, is copied out, and stays lent.
use Rattle.std.proofs.Common.{◌≡◌, List, [], ◌∷◌, ◌++◌, refl, sym, ap, ◌∙◌, subst, lit<, Option, Some, None}
use lib.Dec.{T}
use seplogic.Ra.Ura.{Ura}
use mir.Syntax.{Fn, Callee, Ty, named, mut, local, value_local, ty_ptr, ty_ref, ty_bool, ty_enum, tcons, tnil, ttcons, ttnil, place, deref, field, assign, rv_opd, op2, ptr_eq, copy, int, w8, w64, aggregate, cond, skip, block, seq, return}
use mir.Val.{Val, vptr, vstruct, of_list, has_ty, WT}
use base.Fraction.{full_share}
use base.Logic.{SProp, ent, sep}
use base.Fml.{Share, Fml, ftrue, fat, flft, fobs, fbor}
use prog.Model.{Model}
use prog.Wp.{Closed}
use types.Logic.{Logic, sem}
use types.SemTy.{Body}
use types.Kit.{‵, raw, ◌⊛◌, some, at_ret, ◌$◌, ◌∵◌, !, qed, by, move, keep, drop, use0, use1, use2, split, join, pick, rewrite, fsplit, fsplit3, fjoin, fjoin3, fpick, fpack, feq_i, feq_l}
use types.Run.{stop, fld, load, look, lit, of_opd, bin, no_more, and_then, first, branches, skips, blocks, exec, returns, returns_within, enter}
use types.ByLocal.{alloc_all, pass_all, free_all, look_at, get, through, sets, sets_last, env}
use types.Part.{agg, sub, whole, look_in}
use types.Match.{live}
use contract.Running.{Running, MachineTables, tables}
use denote.Builtin.{RawPtr, RefMutOf}
use denote.Exit.{yes}
use denote.Laws.{Is, Typed, Copy, Lawful, shows}
use denote.Memory.{mem, cell_at, part_at, lone}
use denote.Param.{layout}
use denote.RattleType.{RattleType}
use denote.RawPtr.{Ptr, block_ptr, null_ptr, ptr_val, tests_null}
use denote.Ref.{MutRef, mut_vals, mut_Tells}
use denote.Signature.{plain}
use denote.Steps.{nothing, opens, closes, peeks}
use denote.Struct.Owning.{Owning, row}
use denote.Triple.Clauses.{Ended, Clauses, closing, at_exit}
use denote.Triple.Spec.{Meets}
use denote.Triple.Walked.{Stays, stay_ref, walk_of, Goes-ref}
use borrow.Table.OneValue.{part_out, part_in}
use Rattle.core.specs.contracts.option.Option as OP
use Rattle.core.proofs.alloc.Shapes.{after}
use Rattle.core.proofs.option.Made.{Some-of, none_of}
use Rattle.std.proofs.raw_atomic.Walks.{proved, leaves}
use Rattle.std_alloc.proofs.ResultValues.{and_tt}
use Rattle.c_handles.specs.Heap.{may_lie_at, is_null, is_testable}
use Rattle.c_handles.proofs.Lent.{lent_tests, either, by_name}
use Rattle.c_handles.proofs.Turned.{Said, Word, fits, pointing, routine, said, word, word_of}

module _ (P : Owning) (at : Word P.D) (R : RattleType) where
  abbrev A : RattleType
  A = row (word P at)

  abbrev τ : Ty
  τ = layout R

  abbrev Out : RattleType
  Out = OP.the_row R

  -- the pointer is read and compared with null; where it isn't null, what lies there is copied
  abbrev pub copies : Fn
  copies = routine 1 1
      (local (ty_enum (OP.the_type RawPtr).name (ttcons tnil (ttcons (tcons τ tnil) ttnil))) value_local ∷ local (ty_ref (named 0) mut (by_name (layout A))) value_local
      ∷ local ty_ptr value_local ∷ local τ value_local
      ∷ local ty_bool value_local ∷ local τ value_local ∷ local ty_ptr value_local ∷ [])
      (seq (assign (place 2 []) (rv_opd (copy (place 1 (deref (layout A) ∷ field 0 ∷ []))))) (seq (assign (place 4 []) (op2 ptr_eq (copy (place 2 [])) (int w64 0)))
      (seq (cond (copy (place 4 [])) (seq (assign (place 0 []) (aggregate (int w8 0 ∷ []))) return) skip)
      (seq (block (seq (assign (place 6 []) (rv_opd (copy (place 2 [])))) (assign (place 5 []) (rv_opd (copy (place 6 (deref τ ∷ [])))))))
      (seq (assign (place 3 []) (rv_opd (copy (place 5 [])))) (seq (assign (place 0 []) (aggregate (int w8 1 ∷ copy (place 3 []) ∷ []))) return))))))

  abbrev pub En : Ended
  En = record { signature = record { lifetimes = 1; outlives = []; params = RefMutOf (0 ∷ []) tt (plain (λ _. A)) (λ _. tt) ∷ []; result = plain (λ κs. Out) }; kept = (yes, tt) }

  abbrev hs : Stays En.signature.params En.kept
  hs = (stay_ref (0 ∷ []) tt (plain (λ _. A)), tt)

  module _ (share : P.D → Share) (body : P.D → Option R.Denot) (owns : (d : P.D) → P.heap d ≡ may_lie_at is_testable R (share d) (at d).0 (body d)) (one : R.mir ≡ lone R.mir ∷ [])
      {M : Type 1} {𝓤 : Ura M} (𝓛 : Logic 𝓤) (twin : Copy 𝓛 R) (lawful : Lawful 𝓛 R) (c : Clauses 𝓤 En)
      (says : (y : (walk_of 𝓛 En hs c).Ghost) → Said 𝓤 ((c y.0.0 y.0.3).ensures y.1 (body y.0.3.0.now) (at_exit En y.0.0 y.0.3 (y.0.3.0.now, tt)))) where
    module _ (𝓜 : Model 𝓤 𝓛.H) (𝓡 : Running 𝓤 𝓛.H 𝓜) where
      abbrev 𝓣 : MachineTables 𝓤 𝓛.H 𝓜
      𝓣 = tables 𝓤 𝓛.H 𝓜 𝓡 𝓡.env

      pub given : (k : Callee) → Closed 𝓤 𝓛.H 𝓣.C 𝓣.Λ k copies → Meets 𝓛 En.signature (𝓣.C k) (closing 𝓛 En c)
      given k closed = proved 𝓛 En hs c 𝓜 𝓡 (Goes-ref 𝓛 1 0 tt (plain (λ _. A)), tt) k copies closed (λ κs. (mut_vals, tt)) (λ κs. (mut_Tells (named 0) κs.0 A, tt)) (λ κs qs bounds a g are.
          let κ = κs.0 in let q = qs.0 in let r = a.0 in let d : P.D = r.now in let rb = r.ref_ptr.0 in let ro = r.ref_ptr.1 in let γ = r.ghost_name in let vs = mut_vals r in
          let y : (walk_of 𝓛 En hs c).Ghost =
          ((κs, qs, bounds, a, (vs, tt)), g) in let Q : Val → SProp 𝓤 = (walk_of 𝓛 En hs c).post y in let Cell : List Val → Fml = λ us. cell_at full_share A.mir us rb ro in
          let ends : (v : Val) → ent 𝓤 (sep 𝓤 (sem 𝓛 (fobs γ (A.coded.code d))) (sep 𝓤 (sem 𝓛 (fbor κ (Body (mem A) rb ro γ))) (sep 𝓤 (sem 𝓛 (flft κ q)) (sem 𝓛 (Out.own_val (body d) (v ∷ []))))))
          (Q v) = λ v.
          qed 𝓛 (‵ (fobs γ (A.coded.code d)) ∷ ‵ (fbor κ (Body (mem A) rb ro γ)) ∷ ‵ (flft κ q) ∷ ‵ (Out.own_val (body d) (v ∷ [])) ∷ []) ∵
          feq_i ! (List Val) (vptr rb ro ∷ []) (vptr rb ro ∷ []) refl $ fjoin3 ! $ nothing ! $ move ! (1 ∷ 0 ∷ []) $ fjoin ! $ nothing ! $ move ! (2 ∷ 0 ∷ []) $ join ! $
          use0 𝓛 (raw ((c κs a).ensures g (body d) (at_exit En κs a (d, tt)))) (said 𝓤 (says y)) $ move ! (1 ∷ 2 ∷ 3 ∷ 0 ∷ []) $ by ! (leaves 𝓛 En hs c y v (body d) (d, tt) (tt, tt)) in
          qed 𝓛 (((‵ (flft κ q) ⊛ ‵ ftrue) ⊛ ‵ ((MutRef (named 0) κ A).own_val r vs) ⊛ ‵ ftrue) ∷ raw ((c κs a).requires g) ∷ []) ∵
          split ! $ split ! $ move ! (2 ∷ []) $ split ! $ keep ! (0 ∷ 2 ∷ []) $
          enter ! 𝓣.C 𝓣.Λ copies vs Q $ alloc_all ! (λ l. pass_all ! refl ((tt, tt), tt) $ let Ev = env copies.locals l in
          fsplit3 ! $ drop ! $ move ! (0 ∷ 1 ∷ 2 ∷ []) $ opens ! tt A rb ro (λ us. move ! (1 ∷ []) $ fsplit ! $ fpick ! (λ vss. fsplit ! $ feq_l ! (λ ev. fsplit ! $ feq_l ! (λ ep. drop ! $
          rewrite ! 0 (λ (F : Fml). ‵ F) (owns d) refl $ either is_testable lent_tests R (share d) ! (at d).0 (body d)
          (λ is_none is.
          let w : Val = word_of null_ptr in let ws : us ≡ w ∷ [] = subst (λ (ps : List Val). us ≡ vstruct (of_list (ps ++ [])) ∷ []) (ep ∙ ap (λ (p : Ptr). ptr_val p ∷ []) is) ev in
          let heap : is_null (at d).0 ≡ P.heap d = ap (λ (held : Option R.Denot). may_lie_at is_testable R (share d) (at d).0 held) (sym is_none) ∙ sym (owns d) in
          rewrite ! 0 (λ (xs : List Val). ‵ (Cell xs)) ws refl $ sets ! (of_opd ! (load ! (through ! refl (fld ! refl (stop !))) (look_in ! 0 (sub ! 0 refl (whole !))))) refl (fits null_ptr) $
          sets ! (bin ! (get ! refl) (lit ! tt) tt) refl (tt, tt) $ first ! $ branches ! (get ! refl) (λ _.
          sets ! (agg ! (and_then ! (lit ! tt) (no_more !))) refl (tt, (record { fits = lit< tt }, tt)) $
          nothing ! $ fpack ! ((at d).0 ≡ null_ptr) (λ _. ftrue) is $ rewrite ! 0 (λ (F : Fml). ‵ F) heap refl $ pointing P at ! d null_ptr is $ fjoin ! $ move ! (1 ∷ []) $ closes ! tt A d (w ∷ []) rb ro $
          returns_within ! Q refl (look_at ! 0 refl) $ free_all ! refl $ keep ! (0 ∷ 1 ∷ 2 ∷ []) $ use0 𝓛 (‵ (Out.own_val None (live 0 (of_list []) ∷ []))) (none_of 𝓛 R) $
          rewrite ! 0 (λ (o : Option R.Denot). ‵ (Out.own_val o (live 0 (of_list []) ∷ []))) (sym is_none) refl $ move ! (1 ∷ 2 ∷ 3 ∷ 0 ∷ []) $ by ! (ends (live 0 (of_list []))))
          (λ wrong. absurd wrong))
          (λ b o x is_some e test.
          let w : Val = word_of (block_ptr b o) in let ws : us ≡ w ∷ [] = subst (λ (ps : List Val). us ≡ vstruct (of_list (ps ++ [])) ∷ []) (ep ∙ ap (λ (p : Ptr). ptr_val p ∷ []) e) ev in
          let heap : may_lie_at is_testable R (share d) (block_ptr b o) (Some x) ≡ P.heap d = ap (λ (p : Ptr). may_lie_at is_testable R (share d) p (Some x)) (sym e)
          ∙ (ap (λ (held : Option R.Denot). may_lie_at is_testable R (share d) (at d).0 held) (sym is_some) ∙ sym (owns d)) in
          fsplit ! $ use1 𝓛 (some (λ (v : Val). ‵ (fat (share d) (lone R.mir) b o v) ⊛ ‵ (R.own_val x (v ∷ [])))) (part_out 𝓛 R one (share d) x b o) $ pick ! (λ v. split ! $ move ! (1 ∷ []) $
          peeks ! R (Is R) (shows 𝓛 R) x (v ∷ []) (λ is. let good : T (has_ty (lone R.mir) v) × WT v = (subst (λ (τs : List Ty). Typed τs (v ∷ [])) one (lawful.typed x (v ∷ []) is)).0 in
          use1 𝓛 (‵ (R.own_val x (v ∷ [])) ⊛ ‵ (R.own_val x (v ∷ []))) (twin.twice x (v ∷ [])) $ split ! $
          -- [the value, twice; where it lies; that its place may be tested; the struct's cell; the open borrow, in three entries]
          rewrite ! 4 (λ (xs : List Val). ‵ (Cell xs)) ws refl $ sets ! (of_opd ! (load ! (through ! refl (fld ! refl (stop !))) (look_in ! 4 (sub ! 0 refl (whole !))))) refl (tt, tt) $
          sets ! (bin ! (get ! refl) (lit ! tt) (tests_null (block_ptr b o) test)) refl (tt, tt) $ first ! $ branches ! (get ! refl) (λ wrong. absurd wrong) (λ _.
          skips ! $ exec ! 𝓣.C 𝓣.Λ Ev (after 3 copies.body) (at_ret Ev Q) $
          first ! $ blocks ! $ sets ! (of_opd ! (get ! refl)) refl (tt, tt) $ sets_last ! (of_opd ! (load ! (through ! refl (stop !)) (look ! 2 refl))) refl good $
          exec ! 𝓣.C 𝓣.Λ Ev (after 4 copies.body) (at_ret Ev Q) $ sets ! (of_opd ! (get ! refl)) refl good $
          sets ! (agg ! (and_then ! (lit ! tt) (and_then ! (get ! refl) (no_more !)))) refl (and_tt _ good.0, (record { fits = lit< tt }, (good.1, tt))) $
          use1 𝓛 (‵ (Out.own_val (Some x) (live 1 (of_list (v ∷ [])) ∷ []))) (Some-of 𝓛 R x v) $ move ! (2 ∷ 1 ∷ []) $ use2 𝓛 (‵ (part_at R (share d) x b o)) (part_in 𝓛 R one (share d) x b o v) $
          move ! (0 ∷ 2 ∷ []) $ fjoin ! $ rewrite ! 0 (λ (F : Fml). ‵ F) heap refl $ pointing P at ! d (block_ptr b o) e $ fjoin ! $ move ! (2 ∷ 0 ∷ 3 ∷ 4 ∷ 5 ∷ []) $ closes ! tt A d (w ∷ []) rb ro $
          rewrite ! 3 (λ (o' : Option R.Denot). ‵ (Out.own_val o' (live 1 (of_list (v ∷ [])) ∷ []))) (sym is_some) refl $
          returns ! (look_at ! 0 refl) $ free_all ! refl $ keep ! (0 ∷ 1 ∷ 2 ∷ 3 ∷ []) $ by ! (ends (live 1 (of_list (v ∷ []))))))))))))))
