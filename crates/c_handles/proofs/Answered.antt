-- A struct of one pointer is taken apart, and what it owned goes along with a number.
use Rattle.std.proofs.Common.{◌≡◌, ℕ, ◌<◌, ◌^◌, List, [], ◌∷◌, ◌++◌, refl, sym, subst}
use lib.Dec.{T}
use seplogic.Ra.Ura.{Ura}
use mir.Syntax.{Sym, Width, w8, w16, w64, w128, Fn, Callee, w32, local, value_local, ty_int, ty_struct, ty_ptr, tcons, tnil, place, field, assign, rv_opd, copy, aggregate, seq, return}
use mir.Val.{Val, bits, vint, vstruct, vcons, vnil, of_list, has_ty, WT}
use base.Logic.{SProp, ent, id⊢}
use base.Fml.{Fml, ftrue, fsep}
use prog.Model.{Model}
use prog.Wp.{WpFn, Closed}
use types.Logic.{Logic}
use types.Kit.{‵, raw, ◌⊛◌, ◌$◌, ◌∵◌, !, qed, by, move, keep, drop, split, fsplit, fjoin, fpick, fpack, suffices, use0, rewrite, feq_i, feq_l}
use types.Run.{stop, fld, of_opd, no_more, and_then, returns, enter}
use types.ByLocal.{alloc_all, pass_all, free_all, look_at, get, get_in, sets}
use types.Part.{agg, sub, whole}
use contract.Running.{Running, MachineTables, tables}
use denote.Exit.{yes, under, hidden}
use denote.RattleType.{RattleType, Valss, owns}
use denote.Signature.{types_at, plain}
use denote.Builtin.{u32}
use denote.Laws.{Is, shows}
use denote.Plain.{UInt, uint_Makes}
use denote.RawPtr.{Ptr}
use denote.Steps.{nothing, owned, peeks}
use denote.Struct.Field.{uint_field}
use denote.Struct.Struct.{Struct, within, exits_of}
use denote.Struct.Values.{intos}
use denote.Struct.Owning.{Owning, row, shape}
use denote.Triple.Clauses.{Ended, Clauses, closing, at_exit}
use denote.Triple.Spec.{Meets}
use denote.Triple.Walked.{Stays, stay_dropped, walk_of, Goes-dropped}
use Rattle.core.proofs.alloc.Calls.{Goes-blank}
use Rattle.std.proofs.raw_atomic.Walks.{proved_at, leaves}
use Rattle.std_alloc.proofs.ResultValues.{and_tt}
use Rattle.c_handles.proofs.Turned.{Said, Word, fits_in, routine, said, word, word_of}

-- a struct whose one field is a number of so many bits
abbrev pub counted : Width → (O : Owning) → (O.D → ℕ) → Owning
counted u O num =
    record O { args = []; parts = uint_field u ∷ []; as_values = λ d. (num d, tt); exit = λ k. hidden (under (λ d. intos (uint_field u ∷ []) (num d, tt)) (exits_of k (UInt u ∷ []))) }

abbrev pub count_val : Width → ℕ → Val
count_val u n = vstruct (vcons (vint u n) vnil)

-- a number is of its own width's type
fits_width : (u : Width) (n : ℕ) → T (has_ty (ty_int u) (vint u n))
fits_width w8 n = tt
fits_width w16 n = tt
fits_width w32 n = tt
fits_width w64 n = tt
fits_width w128 n = tt

pub counts_in : (u : Width) (n : ℕ) (ν : Sym) → n < 2 ^ bits u → T (has_ty (ty_struct ν (tcons (ty_int u) tnil)) (count_val u n)) × WT (count_val u n)
counts_in u n ν low = (and_tt (has_ty (ty_int u) (vint u n)) (fits_width u n), (record { fits = low }, tt))

-- the number is put into the new struct
abbrev pub answers : Width → Sym → Sym → Fn
answers u from into = routine 0 2
    (local (ty_struct into (tcons (ty_int u) tnil)) value_local ∷ local (ty_struct from (tcons ty_ptr tnil)) value_local ∷ local (ty_int u) value_local ∷ [])
    (seq (assign (place 0 []) (aggregate (copy (place 2 []) ∷ []))) return)

module _ (u : Width) (P Q : Owning) (at : Word P.D) (num : Q.D → ℕ) where
  abbrev A : RattleType
  A = row (word P at)

  abbrev B : RattleType
  B = row (counted u Q num)

  abbrev En : Ended
  En = record {
    signature = record { lifetimes = 0; outlives = []; params = plain (λ κs. A) ∷ plain (λ κs. UInt u) ∷ []; result = plain (λ κs. B) };
    kept = (yes, (yes, tt));
  }

  abbrev hs : Stays En.signature.params En.kept
  hs = (stay_dropped (plain (λ _. A)) yes, (stay_dropped (plain (λ _. UInt u)) yes, tt))

  module _ {M : Type 1} {𝓤 : Ura M} (𝓛 : Logic 𝓤) (𝓜 : Model 𝓤 𝓛.H) (𝓡 : Running 𝓤 𝓛.H 𝓜) where
    abbrev 𝓣 : MachineTables 𝓤 𝓛.H 𝓜
    𝓣 = tables 𝓤 𝓛.H 𝓜 𝓡 𝓡.env

    pub answered : (f : P.D → ℕ → Q.D) → ((d : P.D) (n : ℕ) → n ≡ num (f d n)) → ((d : P.D) (n : ℕ) → P.heap d ≡ Q.heap (f d n)) → (c : Clauses 𝓤 En)
        → ((y : (walk_of 𝓛 En hs c).Ghost) → Said 𝓤 ((c y.0.0 y.0.3).ensures y.1 (f y.0.3.0 y.0.3.1.0) (at_exit En y.0.0 y.0.3 (tt, (tt, tt)))))
        → (k : Callee) → Closed 𝓤 𝓛.H 𝓣.C 𝓣.Λ k (answers u P.name Q.name) → Meets 𝓛 En.signature (𝓣.C k) (closing 𝓛 En c)
    answered f nums heaps c says k closed =
        proved_at 𝓛 En hs c 𝓜 𝓡 (Goes-blank 𝓛 0 (plain (λ _. A)) yes (λ κs x w. tt), (Goes-dropped 𝓛 0 (plain (λ _. UInt u)) yes (λ κs x w. refl), tt)) k (answers u P.name Q.name) closed (λ z are.
        let d : P.D = z.0.3.0 in let n : ℕ = z.0.3.1.0 in
        let p : Ptr = (at d).0 in let fn = answers u P.name Q.name in let Post : Val → SProp 𝓤 = (walk_of 𝓛 En hs c).post z in let Run : List Val → SProp 𝓤 = λ us. WpFn 𝓤 𝓛.H 𝓣.C 𝓣.Λ fn us Post in
        let w : Val = word_of p in let v : Val = vint u n in let out : Val = count_val u n in let is : z.0.4.1.0 ≡ v ∷ [] = are.1.0.0 in let low : n < 2 ^ bits u = are.1.0.1 in
        qed 𝓛 ((‵ ftrue ⊛ ‵ (owns (types_at En.signature.params tt) z.0.3 z.0.4)) ∷ raw ((c tt z.0.3).requires z.1) ∷ []) ∵ split ! $ drop ! $ fsplit ! $ fsplit ! $ fpick !
        (λ vss. fsplit ! $ feq_l ! (λ ev. fsplit ! $ feq_l ! (λ ep. drop ! $
        -- [what it owns]
        keep ! (0 ∷ []) $ let ws : z.0.4.0 ≡ w ∷ [] = subst (λ (ps : List Val). z.0.4.0 ≡ vstruct (of_list (ps ++ [])) ∷ []) ep ev in
        suffices ! (Run (w ∷ v ∷ [])) (subst (λ (us : List Val). ent 𝓤 (Run (w ∷ v ∷ [])) (Run us)) (sym (λ i. ws i ++ (is i ++ []))) (id⊢ 𝓤 (Run (w ∷ v ∷ [])))) $
        enter ! 𝓣.C 𝓣.Λ fn (w ∷ v ∷ []) Post $ alloc_all ! (λ l. pass_all ! refl (fits_in p P.name, ((fits_width u n, record { fits = low }), tt)) $
        sets ! (agg ! (and_then ! (get ! refl) (no_more !))) refl (counts_in u n Q.name low) $
        nothing ! $ owned ! (UInt u) (Is (UInt u)) (uint_Makes 𝓛 u) n (v ∷ []) (refl, low) $ fjoin ! $ feq_i ! (List Val) (out ∷ []) (out ∷ []) refl $ fjoin ! $
        fpack ! (Valss (UInt u ∷ [])) (within (shape (counted u Q num)) (n, tt) (out ∷ [])) (v ∷ [], tt) $ fjoin ! $
        let same : fsep ((Struct (shape (counted u Q num))).own_val (n, tt) (out ∷ [])) (P.heap d) ≡ B.own_val (f d n) (out ∷ []) =
        λ i. fsep ((Struct (shape (counted u Q num))).own_val (nums d n i, tt) (out ∷ [])) (heaps d n i) in
        rewrite ! 0 (λ (F : Fml). ‵ F) same refl $ use0 𝓛 (raw ((c z.0.0 z.0.3).ensures z.1 (f d n) (at_exit En z.0.0 z.0.3 (tt, (tt, tt)))))
        (said 𝓤 (says z)) $ nothing ! $ nothing ! $ fjoin ! $ nothing ! $ fjoin ! $ nothing ! $
        returns ! (look_at ! 0 refl) $ free_all ! refl $ keep ! (0 ∷ 1 ∷ 3 ∷ 2 ∷ []) $ by ! (leaves 𝓛 En hs c z out (f d n) (tt, (tt, tt)) (tt, (tt, tt))))))))

-- the number goes on, and what another struct of one pointer owned goes along too
abbrev pub joins : Sym → Sym → Sym → Fn
joins from other into = routine 0 2
    (local (ty_struct into (tcons (ty_int w32) tnil)) value_local ∷ local (ty_struct from (tcons (ty_int w32) tnil)) value_local ∷ local (ty_struct other (tcons ty_ptr tnil)) value_local
    ∷ local (ty_int w32) value_local ∷ [])
    (seq (assign (place 3 []) (rv_opd (copy (place 1 (field 0 ∷ []))))) (seq (assign (place 0 []) (aggregate (copy (place 3 []) ∷ []))) return))

module _ (P N Q : Owning) (number : P.D → ℕ) (at : Word N.D) (num : Q.D → ℕ) where
  abbrev F₁ : RattleType
  F₁ = row (counted w32 P number)

  abbrev F₂ : RattleType
  F₂ = row (word N at)

  abbrev J : RattleType
  J = row (counted w32 Q num)

  abbrev JEn : Ended
  JEn = record {
    signature = record { lifetimes = 0; outlives = []; params = plain (λ κs. F₁) ∷ plain (λ κs. F₂) ∷ []; result = plain (λ κs. J) };
    kept = (yes, (yes, tt));
  }

  abbrev jhs : Stays JEn.signature.params JEn.kept
  jhs = (stay_dropped (plain (λ _. F₁)) yes, (stay_dropped (plain (λ _. F₂)) yes, tt))

  module _ {M : Type 1} {𝓤 : Ura M} (𝓛 : Logic 𝓤) (𝓜 : Model 𝓤 𝓛.H) (𝓡 : Running 𝓤 𝓛.H 𝓜) where
    abbrev 𝓙 : MachineTables 𝓤 𝓛.H 𝓜
    𝓙 = tables 𝓤 𝓛.H 𝓜 𝓡 𝓡.env

    pub joined : (f : P.D → N.D → Q.D) → ((d : P.D) (e : N.D) → number d ≡ num (f d e)) → ((d : P.D) (e : N.D) → fsep (P.heap d) (N.heap e) ≡ Q.heap (f d e)) → (c : Clauses 𝓤 JEn)
        → ((y : (walk_of 𝓛 JEn jhs c).Ghost) → Said 𝓤 ((c y.0.0 y.0.3).ensures y.1 (f y.0.3.0 y.0.3.1.0) (at_exit JEn y.0.0 y.0.3 (tt, (tt, tt)))))
        → (k : Callee) → Closed 𝓤 𝓛.H 𝓙.C 𝓙.Λ k (joins P.name N.name Q.name) → Meets 𝓛 JEn.signature (𝓙.C k) (closing 𝓛 JEn c)
    joined f nums heaps c says k closed =
        proved_at 𝓛 JEn jhs c 𝓜 𝓡 (Goes-blank 𝓛 0 (plain (λ _. F₁)) yes (λ κs x w. tt), (Goes-blank 𝓛 0 (plain (λ _. F₂)) yes (λ κs x w. tt), tt)) k (joins P.name N.name Q.name) closed (λ z are.
        let d : P.D = z.0.3.0 in let e : N.D = z.0.3.1.0 in let n : ℕ = number d in let p : Ptr =
        (at e).0 in let fn = joins P.name N.name Q.name in let Post : Val → SProp 𝓤 = (walk_of 𝓛 JEn jhs c).post z in let Run : List Val → SProp 𝓤 = λ us. WpFn 𝓤 𝓛.H 𝓙.C 𝓙.Λ fn us Post in
        let w : Val = count_val w32 n in let v : Val = word_of p in
        qed 𝓛 ((‵ ftrue ⊛ ‵ (owns (types_at JEn.signature.params tt) z.0.3 z.0.4)) ∷ raw ((c tt z.0.3).requires z.1) ∷ []) ∵ split ! $ drop ! $ fsplit ! $ fsplit ! $ fpick !
        (λ vss. fsplit ! $ feq_l ! (λ ev. fsplit ! $
        peeks ! u32 (Is u32) (shows 𝓛 u32) n vss.0 (λ is. drop ! $ drop ! $ let low : n < 2 ^ 32 = is.1 in
        -- [what the first owns; the other; what is required]
        move ! (1 ∷ []) $ fsplit ! $ fsplit ! $ fpick ! (λ uss. fsplit ! $ feq_l ! (λ eu. fsplit ! $ feq_l ! (λ ep. drop ! $ move ! (2 ∷ 0 ∷ []) $ fjoin ! $ keep ! (0 ∷ []) $
        let ws : z.0.4.0 ≡ w ∷ [] = subst (λ (ps : List Val). z.0.4.0 ≡ vstruct (of_list (ps ++ [])) ∷ []) is.0 ev in
        let vs : z.0.4.1.0 ≡ v ∷ [] = subst (λ (ps : List Val). z.0.4.1.0 ≡ vstruct (of_list (ps ++ [])) ∷ []) ep eu in
        suffices ! (Run (w ∷ v ∷ [])) (subst (λ (us : List Val). ent 𝓤 (Run (w ∷ v ∷ [])) (Run us)) (sym (λ i. ws i ++ (vs i ++ []))) (id⊢ 𝓤 (Run (w ∷ v ∷ [])))) $
        enter ! 𝓙.C 𝓙.Λ fn (w ∷ v ∷ []) Post $ alloc_all ! (λ l. pass_all ! refl (counts_in w32 n P.name low, (fits_in p N.name, tt)) $
        sets ! (of_opd ! (get_in ! (fld ! refl (stop !)) (sub ! 0 refl (whole !)))) refl (tt, record { fits = low }) $ sets ! (agg ! (and_then ! (get ! refl) (no_more !))) refl
        (counts_in w32 n Q.name low) $
        nothing ! $ owned ! u32 (Is u32) (uint_Makes 𝓛 w32) n (vint w32 n ∷ []) (refl, low) $ fjoin ! $ feq_i ! (List Val) (w ∷ []) (w ∷ []) refl $ fjoin ! $
        fpack ! (Valss (u32 ∷ [])) (within (shape (counted w32 Q num)) (n, tt) (w ∷ [])) (vint w32 n ∷ [], tt) $ fjoin ! $
        let same : fsep ((Struct (shape (counted w32 Q num))).own_val (n, tt) (w ∷ [])) (fsep (P.heap d) (N.heap e)) ≡ J.own_val (f d e) (w ∷ []) =
        λ i. fsep ((Struct (shape (counted w32 Q num))).own_val (nums d e i, tt) (w ∷ [])) (heaps d e i) in
        rewrite ! 0 (λ (F : Fml). ‵ F) same refl $ use0 𝓛 (raw ((c z.0.0 z.0.3).ensures z.1 (f d e) (at_exit JEn z.0.0 z.0.3 (tt, (tt, tt)))))
        (said 𝓤 (says z)) $ nothing ! $ nothing ! $ fjoin ! $ nothing ! $ fjoin ! $ nothing ! $
        returns ! (look_at ! 0 refl) $ free_all ! refl $ keep ! (0 ∷ 1 ∷ 3 ∷ 2 ∷ []) $ by ! (leaves 𝓛 JEn jhs c z w (f d e) (tt, (tt, tt)) (tt, (tt, tt)))))))))))
