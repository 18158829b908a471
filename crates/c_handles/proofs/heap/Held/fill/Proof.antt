-- `fill` writes the value into the block.
use Rattle.std.proofs.Common.{◌≡◌, List, [], ◌∷◌, ◌++◌, refl, sym, subst}
use base.Fraction.{full_share}
use mir.Syntax.{a_type, dcons, dnil}
use mir.Val.{Val, vptr}
use mir.MapTy.{inst_fn}
use base.Logic.{SProp, ent, emp, id⊢}
use base.Fml.{ftrue, flft}
use prog.Wp.{WpFn}
use types.Kit.{‵, raw, ◌⊛◌, at_ret, ◌$◌, ◌∵◌, !, qed, by, move, keep, split, fsplit, fjoin, suffices, use0, use2}
use types.Run.{init, stop, fld, of_opd, no_more, and_then, assigns_last, first, blocks, exec, returns, enter}
use types.ByLocal.{alloc_all, pass_all, free_all, look_at, get, get_in, through, sets, env}
use types.Part.{agg, sub, whole}
use contract.Monad.{fact, fact_i}
use contract.Running.{tables}
use denote.Exit.{no}
use denote.RattleType.{RattleType, owns}
use denote.Signature.{types_at, plain}
use denote.Memory.{part_at}
use denote.RawPtr.{block_ptr}
use denote.Steps.{nothing}
use denote.Param.{param, bounded}
use denote.Param.Laws.{param_laws}
use denote.Triple.Walked.{Stays, stay_dropped, walk_of, Goes-dropped}
use Rattle.core.proofs.alloc.Calls.{Goes-blank}
use Rattle.core.proofs.alloc.Shapes.{after}
use Rattle.std_alloc.proofs.OfVacant.{Vacant, vacant_val, vacant_typed, Vacant-had}
use Rattle.std_alloc.proofs.RawLayout.{as_written}
use Rattle.std_alloc.proofs.BoxSteps.Form as box
use Rattle.std_alloc.proofs.BoxSteps.Steps.{el_in, el_tells}
use Rattle.std.proofs.raw_atomic.Walks.{proved_at, leaves}
use Rattle.c_handles.proofs.HeapValues.{both, held_good, held_in}
use Rattle.c_handles.specs.contracts.heap.Held.fill.{ended, clauses}
use Rattle.c_handles.specs.contracts.heap.Held.fill.Key.{name as #self}
use Rattle.c_handles.proofs.heap.Held.fill.Statement.{statement}
use Rattle.c_handles.proofs.heap.Held.fill.Code as code

pub fill_spec : {M : Type 1} → statement M
fill_spec 𝓤 𝓛 𝓜 𝓡 wired T A L LA g d dd allocator glued =
    let H = 𝓛.H in let 𝓣 = tables 𝓤 H 𝓜 𝓡 𝓡.env in
    let R : RattleType = param 0 T in let Z : RattleType = param 1 A in let LZ = param_laws 1 A LA in let En = ended T A g d dd in let c = clauses T A g d dd 𝓛 𝓜.mem 𝓡.returns in
    let E : box.Bx = record { row = T; laws = L; al = record { row = A; laws = LA; g = g; d = d; drops = dd } } in
    let inst = bounded (a_type ∷ a_type ∷ []) (T, (A, tt)) (dcons d (dcons dd dnil)) in let fn = inst_fn inst code.function in
    let V : RattleType = Vacant E.al R in
    let hs : Stays En.signature.params En.kept = (stay_dropped (plain (λ _. V)) no, (stay_dropped (plain (λ _. R)) no, tt)) in
    proved_at 𝓛 En hs c 𝓜 𝓡 (Goes-blank 𝓛 2 (plain (λ _. V)) no (λ κs x f. tt), (Goes-dropped 𝓛 2 (plain (λ _. R)) no (λ κs x f. refl), tt)) (#self inst) fn
    (code.unfolded 𝓤 H 𝓜 𝓡 wired (T, (A, tt)) d dd) (λ z are.
    let κs = z.0.0 in let qs =
    z.0.1 in let v = z.0.3.0 in let x = z.0.3.1.0 in let a = v.alloc in let Post : Val → SProp 𝓤 = (walk_of 𝓛 En hs c).post z in let Run : List Val → SProp 𝓤 = λ ws. WpFn 𝓤 H 𝓣.C 𝓣.Λ fn ws Post in
    let toks = ‵ (flft κs.0 qs.0) ⊛ ‵ (flft κs.1.0 qs.1.0) ⊛ ‵ ftrue in let asked = raw ((c κs z.0.3).requires z.1) in
    qed 𝓛 ((toks ⊛ ‵ (owns (types_at En.signature.params κs) z.0.3 z.0.4)) ∷ asked ∷ []) ∵ split ! $ move ! (1 ∷ []) $ fsplit ! $ Vacant-had E.al R ! v z.0.4.0 (λ b o h e us fa.
    move ! (3 ∷ []) $ fsplit ! $ el_tells E ! x z.0.4.1.0 (λ w ev t.
    -- [the room; the value; the right to free it; the allocator; the tokens]
    keep ! (2 ∷ 0 ∷ 3 ∷ 4 ∷ 5 ∷ []) $ as_written ! (box.τ E) b o $ let given : Val = vacant_val h b o in
    suffices ! (Run (given ∷ w ∷ [])) (subst (λ (ws : List Val). ent 𝓤 (Run (given ∷ w ∷ [])) (Run ws)) (sym (λ i. us i ++ (ev i ++ []))) (id⊢ 𝓤 (Run (given ∷ w ∷ [])))) $
    enter ! 𝓣.C 𝓣.Λ fn (given ∷ w ∷ []) Post $ alloc_all ! (λ l. pass_all ! refl (vacant_typed E.al R h b o fa, (t, tt)) $ let Ev = env fn.locals l in
    sets ! (of_opd ! (get_in ! (fld ! refl (stop !)) (sub ! 0 refl (whole !)))) refl (tt, tt) $ sets ! (of_opd ! (get_in ! (fld ! refl (stop !)) (sub ! 1 refl (whole !)))) refl fa $
    first ! $ blocks ! $ sets ! (of_opd ! (get ! refl)) refl t $ assigns_last ! (of_opd ! (get ! refl)) (through ! refl (stop !)) (init ! 0 refl t) $
    exec ! 𝓣.C 𝓣.Λ Ev (after 3 fn.body) (at_ret Ev Post) $ sets ! (of_opd ! (get ! refl)) refl fa $ sets ! (agg ! (and_then ! (get ! refl) (and_then ! (get ! refl) (no_more !)))) refl
    (held_good R Z LZ g b o h fa) $
    use2 𝓛 (‵ (part_at R full_share x b o)) (el_in E 𝓛 x b o w) $ fjoin ! $ held_in R Z LZ g ! b o h a x $
    use0 𝓛 (raw (fact 𝓤 (x ≡ x))) (fact_i 𝓤 (x ≡ x) (emp 𝓤) refl) $ nothing ! $ nothing ! $ fjoin ! $ nothing ! $ fjoin ! $
    returns ! (look_at ! 0 refl) $ free_all ! refl $ keep ! (3 ∷ 0 ∷ 2 ∷ 1 ∷ []) $ by !
    (leaves 𝓛 En hs c z (both (vptr b o) h) (record { at = block_ptr b o; alloc = a; value = x }) ((tt, (tt, tt)), (tt, tt)) (tt, (tt, tt)))))))
