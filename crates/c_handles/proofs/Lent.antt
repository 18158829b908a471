-- What may lie behind a pointer, and a struct of one pointer that lends it: that leaves as a `&mut`, and the struct follows it.
use Rattle.std.proofs.Common.{◌≡◌, ℕ, List, ◌∷◌, refl, Option, Some, None, [], ◌++◌, sym, ap, ◌∙◌, subst, lit<, MutBor}
use Rattle.std.proofs.raw_atomic.Walks.{proved}
use seplogic.Ra.Ura.{Ura}
use mir.Raw.{raw as bare}
use base.Logic.{ent, guard, via, never, fst∗, snd∗, guard_i, ex_e, SProp, sep, emp}
use base.Fml.{Share, Fml, ftrue, fsep, Lft, GName, flft, fobs, fres}
use types.Logic.{Logic, sem}
use types.Kit.{Item, Goal, Seq, ‵, given, ◌$◌, drop, fpick, learn, use1, raw, ◌⊛◌, some, later, at_ret, ◌∵◌, !, qed, by, move, keep, use0, split, join, pick, await, group, rewrite, fsplit, fsplit3, fjoin, fpack, feq_l, suffices, frame, done}
use contract.Monad.{fact, fact_i, fact_use}
use denote.RattleType.{RattleType}
use denote.Memory.{lone, mem, cell_at, part_at, part_of}
use denote.RawPtr.{Ptr, block_ptr, null_ptr, lies_at, Testable, in_a_block, ptr_val, tests_null}
use Rattle.std_heap.proofs.GlobalToken.{dealloc_token-Testable}
use mir.Syntax.{Fn, Callee, Lifetime, Ty, named, erased, mut, local, value_local, ty_ptr, ty_ref, ty_bool, ty_enum, ty_named, ty_struct, tcons, tnil, ttcons, ttnil, place, deref, field, assign, rv_opd, op2, ptr_eq, copy, int, w8, w64, aggregate, addr_of, cond, skip, block, seq, return}
use mir.Val.{Val, vptr, vstruct, of_list}
use base.Fraction.{full_share}
use prog.Model.{Model}
use prog.Wp.{Closed}
use types.Run.{stop, fld, load, lit, of_opd, bin, addr, no_more, and_then, first, branches, skips, blocks, exec, returns, returns_within, enter}
use types.ByLocal.{alloc_all, pass_all, free_all, look_at, get, through, sets, sets_last, env}
use types.Part.{agg, sub, whole, look_in}
use types.Match.{live}
use contract.Running.{Running, MachineTables, tables}
use denote.Exit.{no}
use denote.Builtin.{RawPtr, RefMutOf}
use denote.Follow.{follows, follows_if, follows_by, Part, lends_Part}
use denote.Param.{layout}
use denote.Ref.{MutRef, mut_vals, mut_Tells}
use denote.Signature.{plain, mut_ref_to}
use denote.Steps.{nothing, opens, closes}
use denote.Struct.Owning.{Owning, row}
use denote.Triple.Clauses.{Ended, Clauses, closing}
use denote.Triple.Spec.{Meets}
use denote.Triple.Walked.{says, Stays, stay_dropped, walk_of, ends_at, Goes-spent_ref}
use Rattle.core.specs.contracts.option.Option as OP
use Rattle.core.specs.Option.{ghost_name_of}
use Rattle.core.proofs.alloc.Shapes.{after}
use Rattle.core.proofs.option.Made.{Some-of, none_of}
use Rattle.c_handles.specs.Heap.{may_lie_at, token, is_testable, is_null, IsLent}
use Rattle.c_handles.proofs.Turned.{Word, fits, pointing, routine, word, word_of}

-- What may lie behind a pointer, taken apart: nothing, at null, or a value, whose pointer may be compared with null.

-- what is had beside the value shows that its pointer may be compared with null
abbrev pub Tests : (Ptr → Fml) → Type 2
Tests more = (M : Type 1) (𝓤 : Ura M) (𝓛 : Logic 𝓤) (p : Ptr) → ent 𝓤 (sem 𝓛 (more p)) (fact 𝓤 (Testable p))

pub token_tests : (R : RattleType) → Tests (token (bare (lone R.mir)))
token_tests R M 𝓤 𝓛 p = dealloc_token-Testable 𝓛 (record { memory = record { seal = tt } }) (bare (lone R.mir)) p

pub lent_tests : Tests is_testable
lent_tests M 𝓤 𝓛 p = ex_e 𝓤 (λ (t : Testable p). sem 𝓛 ftrue) (λ t. fact_i 𝓤 (Testable p) (sem 𝓛 ftrue) t)

module _ (more : Ptr → Fml) (tests : Tests more) (R : RattleType) (q : Share) where
  abbrev there : Ptr → R.Denot → Fml
  there p x = fsep (lies_at R q p x) (more p)

  module _ {M : Type 1} {𝓤 : Ura M} where
    tested : (𝓛 : Logic 𝓤) (p : Ptr) (x : R.Denot) → ent 𝓤 (sem 𝓛 (there p x)) (guard 𝓤 (Testable p) (sem 𝓛 (there p x)))
    tested 𝓛 p x = fact_use 𝓤 (Testable p) (via 𝓤 _ (snd∗ 𝓤 (sem 𝓛 (lies_at R q p x)) (sem 𝓛 (more p))) (tests M 𝓤 𝓛 p)) (guard_i 𝓤 (Testable p) (sem 𝓛 (there p x)))

    module _ {𝓛 : Logic 𝓤} {K : Type 0} {Γ : List (Item 𝓤)} {G : Goal 𝓤 𝓛.H} where
      pub either : K → (p : Ptr) (o : Option R.Denot) → (o ≡ None → p ≡ null_ptr → Seq K 𝓛 Γ G)
          → ((b k : ℕ) (x : R.Denot) → o ≡ Some x → p ≡ block_ptr b k → Testable (block_ptr b k) → Seq K 𝓛 (‵ (there (block_ptr b k) x) ∷ Γ) G)
          → Seq K 𝓛 (‵ (may_lie_at more R q p o) ∷ Γ) G
      either t p None none full = fpick t (λ is. drop t $ none refl is)
      either t p (Some x) none full =
          in_a_block t p (λ p'. there p' x) (fst∗ 𝓤 (never 𝓤) (sem 𝓛 (more null_ptr))) (λ b k e.
          use1 𝓛 (given (Testable (block_ptr b k)) (‵ (there (block_ptr b k) x))) (tested 𝓛 (block_ptr b k) x) $ learn t (λ test. full b k x refl e test))

-- A struct of one pointer lends what lies behind it: that leaves as a `&mut`, and the struct follows it.

-- the type of what is lent, where the type behind it is written as τ
abbrev loan : Lifetime → Ty → Ty
loan ℓ τ = ty_enum (OP.the_type RawPtr).name (ttcons tnil (ttcons (tcons (ty_ref ℓ mut τ) tnil) ttnil))

-- a type as it is written behind a reference: a struct by its name
abbrev pub by_name : Ty → Ty
by_name (ty_struct ν fields) = ty_named (ν, []) tnil
by_name σ = σ

module _ (more : Ptr → Fml) (tests : Tests more) (P : Owning) (at : Word P.D) (R : RattleType) where
  abbrev A : RattleType
  A = row (word P at)

  abbrev σ : Ty
  σ = by_name (layout A)

  abbrev τ : Ty
  τ = by_name (layout R)

  -- the pointer is read and compared with null; where it isn't null, it is turned into a `&mut`
  abbrev pub lends : Fn
  lends = routine 1 1
      (local (loan (named 0) τ) value_local ∷ local (ty_ref (named 0) mut σ) value_local ∷ local ty_ptr value_local ∷ local ty_ptr value_local ∷ local ty_bool value_local
      ∷ local (ty_ref erased mut τ) value_local ∷ local (ty_ref erased mut τ) value_local ∷ local ty_ptr value_local ∷ local ty_ptr value_local ∷ [])
      (seq (assign (place 2 []) (rv_opd (copy (place 1 (deref (layout A) ∷ field 0 ∷ [])))))
      (seq (assign (place 3 []) (rv_opd (copy (place 2 [])))) (seq (assign (place 4 []) (op2 ptr_eq (copy (place 3 [])) (int w64 0)))
      (seq (cond (copy (place 4 [])) (seq (assign (place 0 []) (aggregate (int w8 0 ∷ []))) return) skip)
      (seq (block (seq (assign (place 7 []) (rv_opd (copy (place 2 [])))) (seq (assign (place 8 []) (rv_opd (copy (place 7 [])))) (assign (place 6 []) (addr_of (place 8 (deref (layout R) ∷ [])))))))
      (seq (assign (place 5 []) (rv_opd (copy (place 6 [])))) (seq (assign (place 0 []) (aggregate (int w8 1 ∷ copy (place 5 []) ∷ []))) return)))))))

  abbrev pub En : Ended
  En = record {
    signature = record { lifetimes = 1; outlives = []; params = RefMutOf (0 ∷ []) tt (plain (λ _. A)) (λ _. tt) ∷ []; result = plain (λ κs. OP.the_row (MutRef (named 0) κs.0 R)) };
    kept = (no, tt);
  }

  abbrev hs : Stays En.signature.params En.kept
  hs = (stay_dropped (mut_ref_to (0 ∷ []) tt (plain (λ _. A))) no, tt)

  module _ (body : P.D → Option R.Denot) (filled : P.D → R.Denot → P.D) where
    abbrev pub spec : {M : Type 1} {𝓤 : Ura M} (𝓛 : Logic 𝓤) → Clauses 𝓤 En
    spec {𝓤 = 𝓤} 𝓛 κs a = record {
      ghost = Unit {0};
      requires = λ _. emp 𝓤;
      ensures = λ _ r _. sep 𝓤 (sem 𝓛 (follows_if A R a.0.ghost_name (ghost_name_of r) (filled a.0.now) a.0.now)) (fact 𝓤 (IsLent (body a.0.now) r));
    }

    module _ (owns : (d : P.D) → P.heap d ≡ may_lie_at more R full_share (at d).0 (body d)) (keeps : (d : P.D) (x : R.Denot) → at (filled d x) ≡ at d)
        (fills : (d : P.D) (x : R.Denot) → P.heap (filled d x) ≡ may_lie_at more R full_share (at d).0 (Some x)) {M : Type 1} {𝓤 : Ura M} (𝓛 : Logic 𝓤) where
      open 𝓛 use {H, A as 𝓐}

      module _ (κ : Lft) (q : Share) (rb ro : ℕ) (γ : GName) (d : P.D) where
        abbrev self : MutBor P.D
        self = record { ref_ptr = (rb, ro); ghost_name = γ; now = d }

        abbrev bound : (walk_of 𝓛 En hs (spec 𝓛)).Ghost
        bound = (((κ, tt), (q, tt), tt, (self, tt), (mut_vals self, tt)), tt)

        abbrev Post : Val → SProp 𝓤
        Post = (walk_of 𝓛 En hs (spec 𝓛)).post bound

        module _ (b o : ℕ) where
          -- all of the handle but what is behind it
          abbrev Rest : Fml
          Rest = fsep (more (block_ptr b o)) (cell_at full_share A.mir (word_of (block_ptr b o) ∷ []) rb ro)

          back : (at d).0 ≡ block_ptr b o → (x : R.Denot) → ent 𝓤 (sep 𝓤 (sem 𝓛 ((mem R).own_at x b o)) (sem 𝓛 Rest)) (sem 𝓛 ((mem A).own_at (filled d x) rb ro))
          unfolding part_of
          back e x =
              let w : Val = word_of (block_ptr b o) in
              let heap : may_lie_at more R full_share (block_ptr b o) (Some x) ≡ P.heap (filled d x) = ap (λ (p : Ptr). may_lie_at more R full_share p (Some x)) (sym e) ∙ sym (fills d x) in
              qed 𝓛 (‵ (part_at R full_share x b o) ∷ ‵ Rest ∷ []) ∵ move ! (1 ∷ []) $ fsplit ! $ move ! (2 ∷ 0 ∷ []) $ fjoin ! $
              rewrite ! 0 (λ (F : Fml). ‵ F) heap refl $ pointing P at ! (filled d x) (block_ptr b o) ((λ i. (keeps d x i).0) ∙ e) $ fjoin ! $ move ! (1 ∷ 0 ∷ []) $ fjoin ! $
              fpack ! (List Val) (λ us. fsep (cell_at full_share A.mir us rb ro) (A.own_val (filled d x) us)) (w ∷ []) $ done !

          exits : (x : R.Denot) → body d ≡ Some x → (δ : GName)
              → ent 𝓤 (sep 𝓤 (sem 𝓛 ((MutRef (named 0) κ R).own_val (record { ref_ptr = (b, o); ghost_name = δ; now = x }) (vptr b o ∷ []))) (sep 𝓤 (𝓐.lft κ q) (sem 𝓛 (follows A R γ δ (filled d)))))
              (Post (live 1 (of_list (vptr b o ∷ []))))
          unfolding follows_by
          exits x is δ =
              let r : MutBor R.Denot = record { ref_ptr = (b, o); ghost_name = δ; now = x } in let L : RattleType = MutRef (named 0) κ R in let v : Val = vptr b o in
              qed 𝓛 (‵ (L.own_val r (v ∷ [])) ∷ ‵ (flft κ q) ∷ ‵ (follows A R γ δ (filled d)) ∷ []) ∵
              use1 𝓛 (‵ ((OP.the_row L).own_val (Some r) (live 1 (of_list (v ∷ [])) ∷ []))) (Some-of 𝓛 L r v) $
              suffices ! _ (ends_at 𝓛 En hs (spec 𝓛) bound (live 1 (of_list (v ∷ []))) (Some r) (tt, tt) (tt, tt)) $
              nothing ! $ nothing ! $ fjoin ! $ join ! $ nothing ! $ move ! (2 ∷ 0 ∷ []) $ join ! $ join ! $ frame ! $ says ! is $ done !

        leaves : body d ≡ None → ent 𝓤 (sep 𝓤 (𝓐.obs γ (A.coded.code d)) (𝓐.lft κ q)) (Post (live 0 (of_list [])))
        unfolding follows_by
        leaves is =
            let L : RattleType = MutRef (named 0) κ R in
            qed 𝓛 (‵ (fobs γ (A.coded.code d)) ∷ ‵ (flft κ q) ∷ []) ∵ use1 𝓛 (‵ (fres γ (A.coded.code d))) (𝓛.names.obs-res γ (A.coded.code d)) $ move ! (1 ∷ []) $
            use0 𝓛 (‵ ((OP.the_row L).own_val None (live 0 (of_list []) ∷ []))) (none_of 𝓛 L) $
            suffices ! _ (ends_at 𝓛 En hs (spec 𝓛) bound (live 0 (of_list [])) None (tt, tt) (tt, tt)) $
            nothing ! $ nothing ! $ fjoin ! $ join ! $ nothing ! $ move ! (2 ∷ 0 ∷ []) $ join ! $ join ! $ frame ! $ says ! is $ done !

      module _ (𝓜 : Model 𝓤 H) (𝓡 : Running 𝓤 H 𝓜) where
        abbrev 𝓣 : MachineTables 𝓤 H 𝓜
        𝓣 = tables 𝓤 H 𝓜 𝓡 𝓡.env

        pub lent : (k : Callee) → Closed 𝓤 H 𝓣.C 𝓣.Λ k lends → Meets 𝓛 En.signature (𝓣.C k) (closing 𝓛 En (spec 𝓛))
        lent k closed =
            proved 𝓛 En hs (spec 𝓛) 𝓜 𝓡 (Goes-spent_ref 𝓛 1 (0 ∷ []) tt (plain (λ _. A)), tt) k lends closed (λ κs. (mut_vals, tt)) (λ κs. (mut_Tells (named 0) κs.0 A, tt)) (λ κs qs bounds a _ are.
            let κ = κs.0 in let q = qs.0 in let r = a.0 in let d : P.D = r.now in let rb = r.ref_ptr.0 in let ro = r.ref_ptr.1 in let γ = r.ghost_name in let vs = mut_vals r in
            let Q : Val → SProp 𝓤 = Post κ q rb ro γ d in let Cell : List Val → Fml = λ us. cell_at full_share A.mir us rb ro in
            qed 𝓛 (((‵ (flft κ q) ⊛ ‵ ftrue) ⊛ ‵ ((MutRef (named 0) κ A).own_val r vs) ⊛ ‵ ftrue) ∷ ‵ ftrue ∷ []) ∵
            split ! $ split ! $ move ! (2 ∷ []) $ split ! $ keep ! (0 ∷ 2 ∷ []) $
            enter ! 𝓣.C 𝓣.Λ lends vs Q $ alloc_all ! (λ l. pass_all ! refl ((tt, tt), tt) $ let Ev = env lends.locals l in
            fsplit3 ! $ drop ! $ move ! (0 ∷ 1 ∷ 2 ∷ []) $ opens ! tt A rb ro (λ us. move ! (1 ∷ []) $ fsplit ! $ fpick ! (λ vss. fsplit ! $ feq_l ! (λ ev. fsplit ! $ feq_l ! (λ ep. drop ! $
            rewrite ! 0 (λ (F : Fml). ‵ F) (owns d) refl $ either more tests R full_share ! (at d).0 (body d)
            (λ is_none is.
            let w : Val = word_of null_ptr in let ws : us ≡ w ∷ [] = subst (λ (ps : List Val). us ≡ vstruct (of_list (ps ++ [])) ∷ []) (ep ∙ ap (λ (p : Ptr). ptr_val p ∷ []) is) ev in
            let heap : is_null (at d).0 ≡ P.heap d = ap (λ (held : Option R.Denot). may_lie_at more R full_share (at d).0 held) (sym is_none) ∙ sym (owns d) in
            rewrite ! 0 (λ (xs : List Val). ‵ (Cell xs)) ws refl $ sets ! (of_opd ! (load ! (through ! refl (fld ! refl (stop !))) (look_in ! 0 (sub ! 0 refl (whole !))))) refl (fits null_ptr) $
            sets ! (of_opd ! (get ! refl)) refl (fits null_ptr) $ sets ! (bin ! (get ! refl) (lit ! tt) tt) refl (tt, tt) $ first ! $ branches ! (get ! refl) (λ _.
            sets ! (agg ! (and_then ! (lit ! tt) (no_more !))) refl (tt, (record { fits = lit< tt }, tt)) $
            nothing ! $ fpack ! ((at d).0 ≡ null_ptr) (λ _. ftrue) is $ rewrite ! 0 (λ (F : Fml). ‵ F) heap refl $ pointing P at ! d null_ptr is $ fjoin ! $ move ! (1 ∷ []) $ closes ! tt A d
            (w ∷ []) rb ro $
            returns_within ! Q refl (look_at ! 0 refl) $ free_all ! refl $ keep ! (0 ∷ 2 ∷ []) $ by ! (leaves κ q rb ro γ d is_none)) (λ wrong. absurd wrong))
            (λ b o x is_some e test.
            let w : Val = word_of (block_ptr b o) in let ws : us ≡ w ∷ [] = subst (λ (ps : List Val). us ≡ vstruct (of_list (ps ++ [])) ∷ []) (ep ∙ ap (λ (p : Ptr). ptr_val p ∷ []) e) ev in
            let rest : SProp 𝓤 = sem 𝓛 (Rest κ q rb ro γ d b o) in let way = back κ q rb ro γ d b o e in let code = A.coded.code d in
            -- [the value; what is had beside it; the handle's cell; the open borrow, in three entries]
            fsplit ! $ rewrite ! 2 (λ (xs : List Val). ‵ (Cell xs)) ws refl $ sets ! (of_opd ! (load ! (through ! refl (fld ! refl (stop !))) (look_in ! 2 (sub ! 0 refl (whole !))))) refl (tt, tt) $
            sets ! (of_opd ! (get ! refl)) refl (tt, tt) $ sets ! (bin ! (get ! refl) (lit ! tt) (tests_null (block_ptr b o) test)) refl (tt, tt) $ first ! $ branches ! (get ! refl)
            (λ wrong. absurd wrong) (λ _.
            skips ! $ exec ! 𝓣.C 𝓣.Λ Ev (after 4 lends.body) (at_ret Ev Q) $
            first ! $ blocks ! $ sets ! (of_opd ! (get ! refl)) refl (tt, tt) $ sets ! (of_opd ! (get ! refl)) refl (tt, tt) $ sets_last ! (addr ! (through ! refl (stop !))) refl (tt, tt) $
            exec ! 𝓣.C 𝓣.Λ Ev (after 5 lends.body) (at_ret Ev Q) $ sets ! (of_opd ! (get ! refl)) refl (tt, tt) $
            sets ! (agg ! (and_then ! (lit ! tt) (and_then ! (get ! refl) (no_more !)))) refl (tt, (record { fits = lit< tt }, (tt, tt))) $
            move ! (1 ∷ 2 ∷ []) $ fjoin ! $ move ! (2 ∷ 3 ∷ 4 ∷ 1 ∷ 0 ∷ []) $ group ! 5 $
            use1 𝓛 (later (some (λ (δ : GName). raw (Part 𝓛 A R (filled d) (named 0) κ q rb ro b o γ rest way x δ))))
            (lends_Part 𝓛 A R (filled d) (named 0) κ q rb ro b o γ rest way code code x) $ await ! tt $ pick ! (λ δ.
            returns ! (look_at ! 0 refl) $ free_all ! refl $ keep ! (0 ∷ []) $ by ! (exits κ q rb ro γ d b o x is_some δ))))))))))
