-- A struct of one pointer is turned into another one, and what it owns goes along.
use Rattle.std.proofs.Common.{◌≡◌, ℕ, List, [], ◌∷◌, ◌++◌, refl, sym, ap, subst, lit<}
use lib.Dec.{T}
use seplogic.Ra.Ura.{Ura}
use mir.Syntax.{Sym, Fn, Local, Body, Callee, local, value_local, ty_struct, ty_ptr, tcons, tnil, place, field, assign, rv_opd, copy, aggregate, seq, return}
use mir.Val.{Val, vstruct, vcons, vnil, of_list, has_ty, WT}
use base.Logic.{SProp, ent, emp, id⊢}
use base.Fml.{Fml, ftrue, fsep}
use prog.Model.{Model}
use prog.Wp.{WpFn, Closed}
use types.Logic.{Logic}
use types.Kit.{Item, Goal, Step, step, ‵, raw, ◌⊛◌, ◌$◌, ◌∵◌, !, qed, by, keep, drop, split, fsplit, fjoin, fpick, fpack, suffices, use0, rewrite, feq_i, feq_l}
use types.Run.{stop, fld, of_opd, no_more, and_then, returns, enter}
use types.ByLocal.{alloc_all, pass_all, free_all, look_at, get, get_in, sets}
use types.Part.{agg, sub, whole}
use contract.Monad.{fact, fact_i}
use contract.Running.{Running, MachineTables, tables}
use denote.Exit.{yes, under, hidden}
use denote.RattleType.{RattleType, Valss, owns}
use denote.Signature.{types_at, plain}
use denote.Builtin.{RawPtr}
use denote.RawPtr.{Ptr, block_ptr, null_ptr, ptr_val}
use denote.Steps.{nothing}
use denote.Struct.Field.{RawPtr-field}
use denote.Struct.Struct.{Struct, within, exits_of}
use denote.Struct.Values.{Values, intos}
use denote.Struct.Owning.{Owning, row, shape}
use denote.Triple.Clauses.{Ended, Clauses, closing, at_exit}
use denote.Triple.Spec.{Meets}
use denote.Triple.Walked.{Stays, stay_dropped, walk_of}
use Rattle.core.proofs.alloc.Calls.{Goes-blank}
use Rattle.std.proofs.raw_atomic.Walks.{proved_at, leaves}

-- a routine with so many lifetimes and parameters
abbrev pub routine : ℕ → ℕ → List Local → Body → Fn
routine lifetimes params locals body = record { lifetimes = lifetimes; outlives = []; ty_params = []; givens = 0; params = params; locals = locals; body = body }

-- the pointer is read, cast and put into the new struct
abbrev pub turns : Sym → Sym → Fn
turns from into = routine 0 1
    (local (ty_struct into (tcons ty_ptr tnil)) value_local ∷ local (ty_struct from (tcons ty_ptr tnil)) value_local ∷ local ty_ptr value_local ∷ local ty_ptr value_local ∷ [])
    (seq (assign (place 2 []) (rv_opd (copy (place 1 (field 0 ∷ [])))))
    (seq (assign (place 3 []) (rv_opd (copy (place 2 [])))) (seq (assign (place 0 []) (aggregate (copy (place 3 []) ∷ []))) return)))

-- a struct whose one field is a pointer
abbrev pub Word : Type 0 → Type 0
Word D = D → Values (RawPtr-field ∷ [])

abbrev pub word : (O : Owning) → Word O.D → Owning
word O at = record O { args = []; parts = RawPtr-field ∷ []; as_values = at; exit = λ k. hidden (under (λ d. intos (RawPtr-field ∷ []) (at d)) (exits_of k (RawPtr ∷ []))) }

pub fits : (p : Ptr) → T (has_ty ty_ptr (ptr_val p)) × WT (ptr_val p)
fits (block_ptr b o) = (tt, tt)
fits null_ptr = (tt, record { fits = lit< tt })

pub fits_in : (p : Ptr) (ν : Sym) → T (has_ty (ty_struct ν (tcons ty_ptr tnil)) (vstruct (vcons (ptr_val p) vnil))) × WT (vstruct (vcons (ptr_val p) vnil))
fits_in (block_ptr b o) ν = (tt, (tt, tt))
fits_in null_ptr ν = (tt, (record { fits = lit< tt }, tt))

abbrev pub word_of : Ptr → Val
word_of p = vstruct (vcons (ptr_val p) vnil)

-- what the struct's own field owns, at the machine's word for it: nothing
module _ (P : Owning) (at : Word P.D) {M : Type 1} {𝓤 : Ura M} {𝓛 : Logic 𝓤} {K : Type 0} {Γ : List (Item 𝓤)} {G : Goal 𝓤 𝓛.H} where
  pub pointing : K → (d : P.D) (p : Ptr) → (at d).0 ≡ p → Step K 𝓛 (‵ ((Struct (shape (word P at))).own_val (intos (RawPtr-field ∷ []) (at d)) (word_of p ∷ [])) ∷ Γ) G Γ G
  pointing t d p e = step (λ s. nothing t $ feq_i t (List Val) (ptr_val p ∷ []) (ptr_val (at d).0 ∷ []) (ap (λ (x : Ptr). ptr_val x ∷ []) (sym e)) $ fjoin t $
      feq_i t (List Val) (word_of p ∷ []) (word_of p ∷ []) refl $ fjoin t $ fpack t (Valss (RawPtr ∷ [])) (within (shape (word P at)) ((at d).0, tt) (word_of p ∷ [])) (ptr_val p ∷ [], tt) $ s)

-- a clause that is a fact, and holds
abbrev pub Said : {M : Type 1} (𝓤 : Ura M) → SProp 𝓤 → Type 2
Said 𝓤 clause = (P : Type 0) × (fact 𝓤 P ≡ clause) × P

pub said : {M : Type 1} (𝓤 : Ura M) {clause : SProp 𝓤} → Said 𝓤 clause → ent 𝓤 (emp 𝓤) clause
said 𝓤 it = subst (ent 𝓤 (emp 𝓤)) it.1 (fact_i 𝓤 it.0 (emp 𝓤) it.2)

module _ (P Q : Owning) (at : Word P.D) (bt : Word Q.D) where
  abbrev A : RattleType
  A = row (word P at)

  abbrev B : RattleType
  B = row (word Q bt)

  abbrev En : Ended
  En = record {
    signature = record { lifetimes = 0; outlives = []; params = plain (λ κs. A) ∷ []; result = plain (λ κs. B) };
    kept = (yes, tt);
  }

  abbrev hs : Stays En.signature.params En.kept
  hs = (stay_dropped (plain (λ _. A)) yes, tt)

  module _ {M : Type 1} {𝓤 : Ura M} (𝓛 : Logic 𝓤) (𝓜 : Model 𝓤 𝓛.H) (𝓡 : Running 𝓤 𝓛.H 𝓜) where
    abbrev 𝓣 : MachineTables 𝓤 𝓛.H 𝓜
    𝓣 = tables 𝓤 𝓛.H 𝓜 𝓡 𝓡.env

    pub turned : (f : P.D → Q.D) → ((d : P.D) → at d ≡ bt (f d)) → ((d : P.D) → P.heap d ≡ Q.heap (f d)) → (c : Clauses 𝓤 En)
        → ((y : (walk_of 𝓛 En hs c).Ghost) → Said 𝓤 ((c y.0.0 y.0.3).ensures y.1 (f y.0.3.0) (at_exit En y.0.0 y.0.3 (tt, tt))))
        → (k : Callee) → Closed 𝓤 𝓛.H 𝓣.C 𝓣.Λ k (turns P.name Q.name) → Meets 𝓛 En.signature (𝓣.C k) (closing 𝓛 En c)
    turned f ats heaps c says k closed = proved_at 𝓛 En hs c 𝓜 𝓡 (Goes-blank 𝓛 0 (plain (λ _. A)) yes (λ κs x w. tt), tt) k (turns P.name Q.name) closed (λ z are.
        let d : P.D = z.0.3.0 in
        let p : Ptr = (at d).0 in let fn = turns P.name Q.name in let Post : Val → SProp 𝓤 = (walk_of 𝓛 En hs c).post z in let Run : List Val → SProp 𝓤 = λ us. WpFn 𝓤 𝓛.H 𝓣.C 𝓣.Λ fn us Post in
        let w : Val = word_of p in
        qed 𝓛 ((‵ ftrue ⊛ ‵ (owns (types_at En.signature.params tt) z.0.3 z.0.4)) ∷ raw ((c tt z.0.3).requires z.1) ∷ []) ∵ split ! $ drop ! $ fsplit ! $ fsplit ! $ fpick !
        (λ vss. fsplit ! $ feq_l ! (λ ev. fsplit ! $ feq_l ! (λ ep. drop ! $
        -- [what it owns]
        keep ! (0 ∷ []) $ let ws : z.0.4.0 ≡ w ∷ [] = subst (λ (ps : List Val). z.0.4.0 ≡ vstruct (of_list (ps ++ [])) ∷ []) ep ev in
        suffices ! (Run (w ∷ [])) (subst (λ (us : List Val). ent 𝓤 (Run (w ∷ [])) (Run us)) (sym (λ i. ws i ++ [])) (id⊢ 𝓤 (Run (w ∷ [])))) $
        enter ! 𝓣.C 𝓣.Λ fn (w ∷ []) Post $ alloc_all ! (λ l. pass_all ! refl (fits_in p P.name, tt) $
        sets ! (of_opd ! (get_in ! (fld ! refl (stop !)) (sub ! 0 refl (whole !)))) refl (fits p) $ sets ! (of_opd ! (get ! refl)) refl (fits p) $ sets !
        (agg ! (and_then ! (get ! refl) (no_more !))) refl (fits_in p Q.name) $
        nothing ! $ feq_i ! (List Val) (ptr_val p ∷ []) (ptr_val p ∷ []) refl $ fjoin ! $ feq_i ! (List Val) (w ∷ []) (w ∷ []) refl $ fjoin ! $
        fpack ! (Valss (RawPtr ∷ [])) (within (shape (word P at)) (p, tt) (w ∷ [])) (ptr_val p ∷ [], tt) $ fjoin ! $
        let same : A.own_val d (w ∷ []) ≡ B.own_val (f d) (w ∷ []) = λ i. fsep ((Struct (shape (word Q bt))).own_val (intos (RawPtr-field ∷ []) (ats d i)) (w ∷ [])) (heaps d i) in
        rewrite ! 0 (λ (F : Fml). ‵ F) same refl $ use0 𝓛 (raw ((c z.0.0 z.0.3).ensures z.1 (f d) (at_exit En z.0.0 z.0.3 (tt, tt)))) (said 𝓤 (says z)) $ nothing ! $ nothing ! $ fjoin ! $ nothing ! $
        returns ! (look_at ! 0 refl) $ free_all ! refl $ keep ! (0 ∷ 1 ∷ 3 ∷ 2 ∷ []) $ by ! (leaves 𝓛 En hs c z w (f d) (tt, tt) (tt, tt)))))))
