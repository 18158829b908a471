-- A struct of one pointer to a row, with its length beside it: whether it is null is told, and the row leaves as a `&mut [T]`, which the
-- struct follows.
use Rattle.std.proofs.Common.{◌≡◌, ℕ, ◌<◌, ◌^◌, List, [], ◌∷◌, ◌++◌, length, refl, sym, ap, ◌∙◌, subst, Bool, Option, Some, None, MutBor}
use seplogic.Ra.Ura.{Ura}
use mir.Syntax.{Fn, Callee, Ty, named, erased, mut, local, value_local, ty_ptr, ty_ref, ty_bool, ty_int, place, deref, field, assign, rv_opd, op2, ptr_eq, copy, int, w64, aggregate, block, seq, return}
use mir.Val.{Val, vptr, vint, vbool, vstruct, of_list}
use base.Fraction.{full_share}
use base.Logic.{SProp, ent, sep, never, fst∗}
use base.Fml.{Lft, GName, Share, Fml, ftrue, fsep, flft, fobs, fbor}
use prog.Model.{Model}
use prog.Wp.{Closed, WpFn}
use types.Logic.{Logic, sem}
use types.Kit.{Item, Goal, Seq, ‵, raw, given, ◌⊛◌, some, later, at_ret, ◌$◌, ◌∵◌, !, qed, by, move, keep, drop, learn, use0, use1, split, join, pick, await, group, rewrite, fsplit, fsplit3, fjoin, fjoin3, fpick, fpack, feq_i, feq_l, suffices, frame, done}
use types.Run.{stop, fld, load, lit, of_opd, bin, no_more, and_then, first, blocks, exec, returns, enter}
use types.ByLocal.{alloc_all, pass_all, free_all, look_at, get, through, sets, sets_last, env}
use types.Part.{agg, sub, whole, look_in}
use types.SemTy.{cells, Body}
use contract.Monad.{fact}
use contract.Running.{Running, MachineTables, tables}
use denote.Array.{Array}
use denote.Exit.{yes, no}
use denote.Builtin.{One, RefMutOf, SliceRefMutOf, bool, usize}
use denote.Follow.{follows}
use denote.FollowSlice.{Elements, lends_Elements}
use denote.Index.{row as row_of, whole_in, whole_out}
use denote.Memory.{mem, cell_at, part_of}
use denote.Param.{layout}
use denote.Plain.{uint_vals, uint_Tells}
use denote.RattleType.{RattleType, owns}
use denote.RawPtr.{Ptr, block_ptr, null_ptr, ptr_val, tests_null, Testable, in_a_block}
use denote.Ref.{MutRef, mut_vals, mut_Tells}
use denote.Signature.{plain, mut_ref_to}
use denote.Slice.{MutSlice, Room, slice_ty, slice_val}
use denote.Steps.{nothing, opens, closes}
use denote.Struct.Owning.{Owning, row}
use denote.Triple.Clauses.{Ended, Clauses, closing, at_exit}
use denote.Triple.Spec.{Meets}
use denote.Triple.Walked.{says, Stays, stay_dropped, stay_ref, walk_of, ends_at, Goes-dropped, Goes-ref, Goes-spent_ref}
use Rattle.core.proofs.alloc.Shapes.{after}
use Rattle.std.proofs.raw_atomic.Walks.{proved, leaves}
use Rattle.c_handles.specs.Heap.{is_null, is_testable, IsThere, is_nothing, lends_row, row_lies_at, is_roomy}
use Rattle.c_handles.proofs.Lent.{by_name}
use Rattle.c_handles.proofs.Turned.{Said, Word, fits, pointing, routine, said, word, word_of}

-- What may lie behind the pointer, taken apart: nothing, at null, or a row, whose pointer may be compared with null.
module _ (R : RattleType) (q : Share) where
  abbrev there : Ptr → List R.Denot → Fml
  there p xs = fsep (row_lies_at R q p xs) (fsep (is_roomy R xs) (is_testable p))

  module _ {M : Type 1} {𝓤 : Ura M} {𝓛 : Logic 𝓤} {K : Type 0} {Γ : List (Item 𝓤)} {G : Goal 𝓤 𝓛.H} where
    pub either : K → (p : Ptr) (o : Option (List R.Denot)) → (o ≡ None → p ≡ null_ptr → Seq K 𝓛 Γ G)
        → ((b k : ℕ) (xs : List R.Denot) → o ≡ Some xs → p ≡ block_ptr b k → Room R (length xs) → Testable (block_ptr b k) → Seq K 𝓛 (‵ (row_of R q xs b k) ∷ Γ) G)
        → Seq K 𝓛 (‵ (lends_row R q p o) ∷ Γ) G
    either t p None none full = fpick t (λ is. drop t $ none refl is)
    either t p (Some xs) none full =
        in_a_block t p (λ p'. there p' xs) (fst∗ 𝓤 (never 𝓤) (sem 𝓛 (fsep (is_roomy R xs) (is_testable null_ptr)))) (λ b k e.
        fsplit3 t $ move t (1 ∷ 2 ∷ []) $ fpick t (λ room. drop t $ fpick t (λ test. drop t $ full b k xs refl e room test)))

-- a struct of one pointer, by reference
module _ (P : Owning) (at : Word P.D) where
  abbrev A : RattleType
  A = row (word P at)

  -- the pointer is read and compared with null
  abbrev pub asks : Fn
  asks = routine 1 1
      (local ty_bool value_local ∷ local (ty_ref (named 0) mut (by_name (layout A))) value_local ∷ local ty_ptr value_local ∷ [])
      (seq (assign (place 2 []) (rv_opd (copy (place 1 (deref (layout A) ∷ field 0 ∷ []))))) (seq (assign (place 0 []) (op2 ptr_eq (copy (place 2 [])) (int w64 0))) return))

  abbrev pub Asked : Ended
  Asked = record { signature = record { lifetimes = 1; outlives = []; params = RefMutOf (0 ∷ []) tt (plain (λ _. A)) (λ _. tt) ∷ []; result = plain (λ κs. bool) }; kept = (yes, tt) }

  abbrev stays : Stays Asked.signature.params Asked.kept
  stays = (stay_ref (0 ∷ []) tt (plain (λ _. A)), tt)

  module _ (R : RattleType) (share : P.D → Share) (body : P.D → Option (List R.Denot)) (owned : (d : P.D) → P.heap d ≡ lends_row R (share d) (at d).0 (body d))
      {M : Type 1} {𝓤 : Ura M} (𝓛 : Logic 𝓤) (c : Clauses 𝓤 Asked)
      (tells : (y : (walk_of 𝓛 Asked stays c).Ghost) → Said 𝓤 ((c y.0.0 y.0.3).ensures y.1 (is_nothing (body y.0.3.0.now)) (at_exit Asked y.0.0 y.0.3 (y.0.3.0.now, tt)))) where
    module _ (𝓜 : Model 𝓤 𝓛.H) (𝓡 : Running 𝓤 𝓛.H 𝓜) where
      abbrev 𝓠 : MachineTables 𝓤 𝓛.H 𝓜
      𝓠 = tables 𝓤 𝓛.H 𝓜 𝓡 𝓡.env

      pub asked : (k : Callee) → Closed 𝓤 𝓛.H 𝓠.C 𝓠.Λ k asks → Meets 𝓛 Asked.signature (𝓠.C k) (closing 𝓛 Asked c)
      asked k closed = proved 𝓛 Asked stays c 𝓜 𝓡 (Goes-ref 𝓛 1 0 tt (plain (λ _. A)), tt) k asks closed (λ κs. (mut_vals, tt)) (λ κs. (mut_Tells (named 0) κs.0 A, tt)) (λ κs qs bounds a g are.
          let κ = κs.0 in let q = qs.0 in let r = a.0 in let d : P.D = r.now in let rb = r.ref_ptr.0 in let ro = r.ref_ptr.1 in let γ = r.ghost_name in let vs = mut_vals r in
          let y : (walk_of 𝓛 Asked stays c).Ghost =
          ((κs, qs, bounds, a, (vs, tt)), g) in let Q : Val → SProp 𝓤 = (walk_of 𝓛 Asked stays c).post y in let Cell : List Val → Fml = λ us. cell_at full_share A.mir us rb ro in
          let Had : SProp 𝓤 = sep 𝓤 (sem 𝓛 (fobs γ (A.coded.code d))) (sep 𝓤 (sem 𝓛 (fbor κ (Body (mem A) rb ro γ))) (sem 𝓛 (flft κ q))) in
          let ends : ent 𝓤 Had (Q (vbool (is_nothing (body d)))) =
          qed 𝓛 (‵ (fobs γ (A.coded.code d)) ∷ ‵ (fbor κ (Body (mem A) rb ro γ)) ∷ ‵ (flft κ q) ∷ []) ∵
          feq_i ! (List Val) (vbool (is_nothing (body d)) ∷ []) (vbool (is_nothing (body d)) ∷ []) refl $ move ! (1 ∷ 2 ∷ 3 ∷ 0 ∷ []) $
          feq_i ! (List Val) (vptr rb ro ∷ []) (vptr rb ro ∷ []) refl $ fjoin3 ! $ nothing ! $ move ! (1 ∷ 0 ∷ []) $ fjoin ! $ nothing ! $ move ! (2 ∷ 0 ∷ []) $ join ! $
          use0 𝓛 (raw ((c κs a).ensures g (is_nothing (body d)) (at_exit Asked κs a (d, tt)))) (said 𝓤 (tells y)) $ move ! (1 ∷ 2 ∷ 3 ∷ 0 ∷ []) $ by !
          (leaves 𝓛 Asked stays c y (vbool (is_nothing (body d))) (is_nothing (body d)) (d, tt) (tt, tt)) in
          qed 𝓛 (((‵ (flft κ q) ⊛ ‵ ftrue) ⊛ ‵ ((MutRef (named 0) κ A).own_val r vs) ⊛ ‵ ftrue) ∷ raw ((c κs a).requires g) ∷ []) ∵
          split ! $ split ! $ move ! (2 ∷ []) $ split ! $ keep ! (0 ∷ 2 ∷ []) $
          enter ! 𝓠.C 𝓠.Λ asks vs Q $ alloc_all ! (λ l. pass_all ! refl ((tt, tt), tt) $
          fsplit3 ! $ drop ! $ move ! (0 ∷ 1 ∷ 2 ∷ []) $ opens ! tt A rb ro (λ us. move ! (1 ∷ []) $ fsplit ! $ fpick ! (λ vss. fsplit ! $ feq_l ! (λ ev. fsplit ! $ feq_l ! (λ ep. drop ! $
          rewrite ! 0 (λ (F : Fml). ‵ F) (owned d) refl $ either R (share d) ! (at d).0 (body d)
          (λ is_none is.
          let w : Val = word_of null_ptr in let ws : us ≡ w ∷ [] = subst (λ (ps : List Val). us ≡ vstruct (of_list (ps ++ [])) ∷ []) (ep ∙ ap (λ (p : Ptr). ptr_val p ∷ []) is) ev in
          let heap : is_null (at d).0 ≡ P.heap d = ap (λ (held : Option (List R.Denot)). lends_row R (share d) (at d).0 held) (sym is_none) ∙ sym (owned d) in
          rewrite ! 0 (λ (xs : List Val). ‵ (Cell xs)) ws refl $ sets ! (of_opd ! (load ! (through ! refl (fld ! refl (stop !))) (look_in ! 0 (sub ! 0 refl (whole !))))) refl (fits null_ptr) $
          sets ! (bin ! (get ! refl) (lit ! tt) tt) refl (tt, tt) $
          nothing ! $ fpack ! ((at d).0 ≡ null_ptr) (λ _. ftrue) is $ rewrite ! 0 (λ (F : Fml). ‵ F) heap refl $ pointing P at ! d null_ptr is $ fjoin ! $ move ! (1 ∷ []) $ closes ! tt A d (w ∷ []) rb ro $
          returns ! (look_at ! 0 refl) $ free_all ! refl $ keep ! (0 ∷ 1 ∷ 2 ∷ []) $ by ! (subst (λ (t : Bool). ent 𝓤 Had (Q (vbool t))) (ap is_nothing is_none) ends))
          (λ b o xs is_some e room test.
          let w : Val = word_of (block_ptr b o) in let ws : us ≡ w ∷ [] = subst (λ (ps : List Val). us ≡ vstruct (of_list (ps ++ [])) ∷ []) (ep ∙ ap (λ (p : Ptr). ptr_val p ∷ []) e) ev in
          let heap : lends_row R (share d) (block_ptr b o) (Some xs) ≡ P.heap d = ap (λ (p : Ptr). lends_row R (share d) p (Some xs)) (sym e)
          ∙ (ap (λ (held : Option (List R.Denot)). lends_row R (share d) (at d).0 held) (sym is_some) ∙ sym (owned d)) in
          -- [the row; the struct's cell; the open borrow, in three entries]
          rewrite ! 1 (λ (xs : List Val). ‵ (Cell xs)) ws refl $ sets ! (of_opd ! (load ! (through ! refl (fld ! refl (stop !))) (look_in ! 1 (sub ! 0 refl (whole !))))) refl (tt, tt) $
          sets ! (bin ! (get ! refl) (lit ! tt) (tests_null (block_ptr b o) test)) refl (tt, tt) $
          nothing ! $ fpack ! (Testable (block_ptr b o)) (λ _. ftrue) test $ nothing ! $ fpack ! (Room R (length xs)) (λ _. ftrue) room $ fjoin ! $ move ! (1 ∷ 0 ∷ []) $ fjoin ! $
          rewrite ! 0 (λ (F : Fml). ‵ F) heap refl $ pointing P at ! d (block_ptr b o) e $ fjoin ! $ move ! (1 ∷ []) $ closes ! tt A d (w ∷ []) rb ro $
          returns ! (look_at ! 0 refl) $ free_all ! refl $ keep ! (0 ∷ 1 ∷ 2 ∷ []) $ by ! (subst (λ (t : Bool). ent 𝓤 Had (Q (vbool t))) (ap is_nothing is_some) ends))))))))

  module _ (R : RattleType) (one : One R.mir) where
    abbrev τ : Ty
    τ = by_name (layout R)

    -- the pointer is read, and turned into a `&mut [T]` with the length beside it
    abbrev pub lends : Fn
    lends = routine 1 2
        (local (slice_ty (ty_ref (named 0) mut τ)) value_local ∷ local (ty_ref (named 0) mut (by_name (layout A))) value_local ∷ local (ty_int w64) value_local ∷ local ty_ptr value_local
        ∷ local (slice_ty (ty_ref erased mut τ)) value_local ∷ local ty_ptr value_local ∷ [])
        (seq (assign (place 3 []) (rv_opd (copy (place 1 (deref (layout A) ∷ field 0 ∷ [])))))
        (seq (block (seq (assign (place 5 []) (rv_opd (copy (place 3 [])))) (assign (place 4 []) (aggregate (copy (place 5 []) ∷ copy (place 2 []) ∷ [])))))
        (seq (assign (place 0 []) (rv_opd (copy (place 4 [])))) return)))

    abbrev pub En : Ended
    En = record {
      signature = record {
        lifetimes = 1;
        outlives = [];
        params = RefMutOf (0 ∷ []) tt (plain (λ _. A)) (λ _. tt) ∷ plain (λ _. usize) ∷ [];
        result = SliceRefMutOf (0 ∷ []) tt (plain (λ _. R)) (λ _. one);
      };
      kept = (no, (yes, tt));
    }

    abbrev hs : Stays En.signature.params En.kept
    hs = (stay_dropped (mut_ref_to (0 ∷ []) tt (plain (λ _. A))) no, (stay_dropped (plain (λ _. usize)) yes, tt))

    module _ (body : P.D → Option (List R.Denot)) (filled : P.D → List R.Denot → P.D) where
      abbrev pub spec : {M : Type 1} {𝓤 : Ura M} (𝓛 : Logic 𝓤) → Clauses 𝓤 En
      spec {𝓤 = 𝓤} 𝓛 κs a = record {
        ghost = Unit {0};
        requires = λ _. fact 𝓤 (IsThere (body a.0.now) a.1.0);
        ensures = λ _ r _. sep 𝓤 (sem 𝓛 (follows A (Array R 0) a.0.ghost_name r.ghost_name (filled a.0.now))) (fact 𝓤 (body a.0.now ≡ Some r.now));
      }

      module _ (owned : (d : P.D) → P.heap d ≡ lends_row R full_share (at d).0 (body d)) (keeps : (d : P.D) (xs : List R.Denot) → at (filled d xs) ≡ at d)
          (fills : (d : P.D) (xs : List R.Denot) → P.heap (filled d xs) ≡ lends_row R full_share (at d).0 (Some xs)) {M : Type 1} {𝓤 : Ura M} (𝓛 : Logic 𝓤) where
        open 𝓛 use {H, A as 𝓐}

        module _ (κ : Lft) (q : Share) (rb ro : ℕ) (γ : GName) (d : P.D) (n : ℕ) where
          abbrev self : MutBor P.D
          self = record { ref_ptr = (rb, ro); ghost_name = γ; now = d }

          abbrev bound : (walk_of 𝓛 En hs (spec 𝓛)).Ghost
          bound = (((κ, tt), (q, tt), tt, (self, (n, tt)), (mut_vals self, (uint_vals w64 n, tt))), tt)

          abbrev Post : Val → SProp 𝓤
          Post = (walk_of 𝓛 En hs (spec 𝓛)).post bound

          abbrev Cell : List Val → Fml
          Cell us = cell_at full_share A.mir us rb ro

          back : (b o : ℕ) (xs : List R.Denot) → (at d).0 ≡ block_ptr b o → Testable (block_ptr b o) → Room R (length xs) → (ws : List R.Denot) → length ws ≡ length xs
              → ent 𝓤 (sep 𝓤 (sem 𝓛 (cells (mem R) ws b o)) (sem 𝓛 (Cell (word_of (block_ptr b o) ∷ [])))) (sem 𝓛 ((mem A).own_at (filled d ws) rb ro))
          unfolding part_of
          back b o xs e test room ws same =
              let w : Val = word_of (block_ptr b o) in
              let heap : lends_row R full_share (block_ptr b o) (Some ws) ≡ P.heap (filled d ws) = ap (λ (p : Ptr). lends_row R full_share p (Some ws)) (sym e) ∙ sym (fills d ws) in
              qed 𝓛 (‵ (cells (mem R) ws b o) ∷ ‵ (Cell (w ∷ [])) ∷ []) ∵ use1 𝓛 (‵ (row_of R full_share ws b o)) (whole_out 𝓛 R ws b o) $
              nothing ! $ fpack ! (Testable (block_ptr b o)) (λ _. ftrue) test $ nothing ! $ fpack ! (Room R (length ws)) (λ _. ftrue) (subst (Room R) (sym same) room) $ fjoin ! $ move !
              (1 ∷ 0 ∷ []) $ fjoin ! $
              rewrite ! 0 (λ (F : Fml). ‵ F) heap refl $ pointing P at ! (filled d ws) (block_ptr b o) ((λ i. (keeps d ws i).0) ∙ e) $ fjoin ! $ move ! (1 ∷ 0 ∷ []) $ fjoin ! $
              fpack ! (List Val) (λ us. fsep (Cell us) (A.own_val (filled d ws) us)) (w ∷ []) $ done !

          exits : (b o : ℕ) (xs : List R.Denot) → body d ≡ Some xs → (v : Val) (δ : GName)
              → ent 𝓤 (sep 𝓤 (sem 𝓛 ((MutSlice (named 0) κ R).own_val (record { ref_ptr = (b, o); ghost_name = δ; now = xs }) (v ∷ [])))
              (sep 𝓤 (𝓐.lft κ q) (sem 𝓛 (follows A (Array R 0) γ δ (filled d))))) (Post v)
          exits b o xs is v δ =
              let r : MutBor (List R.Denot) = record { ref_ptr = (b, o); ghost_name = δ; now = xs } in
              qed 𝓛 (‵ ((MutSlice (named 0) κ R).own_val r (v ∷ [])) ∷ ‵ (flft κ q) ∷ ‵ (follows A (Array R 0) γ δ (filled d)) ∷ []) ∵
              suffices ! _ (ends_at 𝓛 En hs (spec 𝓛) bound v r (tt, (tt, tt)) (tt, (tt, tt))) $
              nothing ! $ nothing ! $ fjoin ! $ nothing ! $ fjoin ! $ join ! $ nothing ! $ move ! (2 ∷ 0 ∷ []) $ join ! $ join ! $ frame ! $ says ! is $ done !

        module _ (𝓜 : Model 𝓤 H) (𝓡 : Running 𝓤 H 𝓜) where
          abbrev 𝓣 : MachineTables 𝓤 H 𝓜
          𝓣 = tables 𝓤 H 𝓜 𝓡 𝓡.env

          walk : (κ : Lft) (q : Share) (rb ro : ℕ) (γ : GName) (d : P.D) (n : ℕ) → IsThere (body d) n → n < 2 ^ 64
              → ent 𝓤 (sep 𝓤 (sem 𝓛 ((MutRef (named 0) κ A).own_val (self κ q rb ro γ d n) (vptr rb ro ∷ []))) (𝓐.lft κ q))
              (WpFn 𝓤 H 𝓣.C 𝓣.Λ lends (vptr rb ro ∷ vint w64 n ∷ []) (Post κ q rb ro γ d n))
          walk κ q rb ro γ d n long low =
              let vs = vptr rb ro ∷ vint w64 n ∷ [] in let Q : Val → SProp 𝓤 = Post κ q rb ro γ d n in let C : List Val → Fml = λ us. cell_at full_share A.mir us rb ro in
              qed 𝓛 (‵ ((MutRef (named 0) κ A).own_val (self κ q rb ro γ d n) (vptr rb ro ∷ [])) ∷ ‵ (flft κ q) ∷ []) ∵
              enter ! 𝓣.C 𝓣.Λ lends vs Q $ alloc_all ! (λ l. pass_all ! refl ((tt, tt), ((tt, record { fits = low }), tt)) $ let Ev = env lends.locals l in
              fsplit3 ! $ drop ! $ move ! (0 ∷ 1 ∷ 2 ∷ []) $ opens ! tt A rb ro (λ us. move ! (1 ∷ []) $ fsplit ! $ fpick ! (λ vss. fsplit ! $ feq_l ! (λ ev. fsplit ! $ feq_l ! (λ ep. drop ! $
              rewrite ! 0 (λ (F : Fml). ‵ F) (owned d) refl $ either R full_share ! (at d).0 (body d)
              (λ is_none is. absurd (subst (λ (held : Option (List R.Denot)). IsThere held n) is_none long))
              (λ b o xs is_some e room test.
              let w : Val = word_of (block_ptr b o) in let ws : us ≡ w ∷ [] = subst (λ (ps : List Val). us ≡ vstruct (of_list (ps ++ [])) ∷ []) (ep ∙ ap (λ (p : Ptr). ptr_val p ∷ []) e) ev in
              let count : length xs ≡ n = subst (λ (held : Option (List R.Denot)). IsThere held n) is_some long in
              let rest : SProp 𝓤 = sem 𝓛 (C (w ∷ [])) in let way = back κ q rb ro γ d n b o xs e test room in let code = A.coded.code d in
              -- [the row; the struct's cell; the open borrow, in three entries]
              rewrite ! 1 (λ (xs : List Val). ‵ (C xs)) ws refl $ sets ! (of_opd ! (load ! (through ! refl (fld ! refl (stop !))) (look_in ! 1 (sub ! 0 refl (whole !))))) refl (tt, tt) $
              first ! $ blocks ! $ sets ! (of_opd ! (get ! refl)) refl (tt, tt) $
              sets_last ! (agg ! (and_then ! (get ! refl) (and_then ! (get ! refl) (no_more !)))) refl (tt, (tt, (record { fits = low }, tt))) $
              exec ! 𝓣.C 𝓣.Λ Ev (after 2 lends.body) (at_ret Ev Q) $ sets ! (of_opd ! (get ! refl)) refl (tt, (tt, (record { fits = low }, tt))) $
              use1 𝓛 (‵ (cells (mem R) xs b o)) (whole_in 𝓛 R xs b o) $ move ! (2 ∷ 3 ∷ 4 ∷ 0 ∷ 1 ∷ []) $ group ! 5 $
              use1 𝓛 (later (some (λ (δ : GName). raw (Elements 𝓛 A R (filled d) (named 0) κ q rb ro b o γ xs room rest way δ))))
              (lends_Elements 𝓛 A R (filled d) (named 0) κ q rb ro b o γ xs room rest way code code) $ await ! tt $ pick ! (λ δ.
              returns ! (look_at ! 0 refl) $ free_all ! refl $ keep ! (0 ∷ []) $
              by ! (subst (λ (k : ℕ). ent 𝓤 (Elements 𝓛 A R (filled d) (named 0) κ q rb ro b o γ xs room rest way δ) (Q (slice_val (b, o) k))) count
              (exits κ q rb ro γ d n b o xs is_some (slice_val (b, o) (length xs)) δ)))))))))

          pub lent : (k : Callee) → Closed 𝓤 H 𝓣.C 𝓣.Λ k lends → Meets 𝓛 En.signature (𝓣.C k) (closing 𝓛 En (spec 𝓛))
          lent k closed = proved 𝓛 En hs (spec 𝓛) 𝓜 𝓡 (Goes-spent_ref 𝓛 1 (0 ∷ []) tt (plain (λ _. A)), (Goes-dropped 𝓛 1 (plain (λ _. usize)) yes (λ κs x f. refl), tt)) k lends closed
              (λ κs. (mut_vals, (uint_vals w64, tt))) (λ κs. (mut_Tells (named 0) κs.0 A, (uint_Tells w64, tt))) (λ κs qs bounds a _ are.
              let r = a.0 in let n = a.1.0 in let vs = mut_vals r in
              qed 𝓛 (((‵ (flft κs.0 qs.0) ⊛ ‵ ftrue) ⊛ ‵ (owns (MutRef (named 0) κs.0 A ∷ usize ∷ []) a (vs, (vint w64 n ∷ [], tt)))) ∷ given (IsThere (body r.now) n) (‵ ftrue) ∷ []) ∵
              move ! (1 ∷ []) $ learn ! (λ long. drop ! $ split ! $ split ! $ move ! (2 ∷ []) $ fsplit ! $ keep ! (0 ∷ 2 ∷ []) $
              by ! (walk κs.0 qs.0 r.ref_ptr.0 r.ref_ptr.1 r.ghost_name r.now n long are.1.0.1)))
