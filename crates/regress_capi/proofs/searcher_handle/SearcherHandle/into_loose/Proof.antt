-- `into_loose` gives the pointer and what it owns.
use Rattle.std.proofs.Common.{◌≡◌, List, [], ◌∷◌, ◌++◌, refl, sym, subst}
use mir.Raw.{raw as bare}
use mir.Val.{Val, vptr}
use base.Logic.{SProp, ent, emp, never, fst∗, id⊢}
use base.Fml.{ftrue}
use prog.Wp.{WpFn}
use types.Logic.{sem}
use types.Kit.{‵, raw, ◌⊛◌, ◌$◌, ◌∵◌, !, qed, by, move, keep, split, fsplit, fjoin, fpick, rewrite, suffices, use0}
use types.Run.{stop, fld, of_opd, no_more, and_then, returns, enter}
use types.ByLocal.{alloc_all, pass_all, free_all, look_at, get, get_in, sets}
use types.Part.{agg, sub, whole}
use contract.Monad.{fact, fact_i}
use contract.Running.{tables}
use denote.Exit.{yes}
use denote.Memory.{lone}
use denote.RattleType.{RattleType, owns}
use denote.Signature.{types_at, plain}
use denote.RawPtr.{Ptr, block_ptr, null_ptr, in_a_block}
use denote.Steps.{nothing, heard}
use denote.Triple.Walked.{Stays, stay_dropped, walk_of, Goes-dropped}
use Rattle.core.proofs.alloc.Calls.{Goes-blank, handle_tells}
use Rattle.std.proofs.raw_atomic.Walks.{proved_at, leaves}
use Rattle.std.specs.Prelude.{Option, None, Some}
use Rattle.std.specs.contracts.alloc.Global as heap
use Rattle.std.proofs.alloc.Global.TheLaws as heap_laws
use Rattle.std.specs.contracts.impls.GlobalAllocator.TheImpl.{ghosts}
use Rattle.std_alloc.specs.Box.Ownership.{box_owns}
use Rattle.regress_capi.specs.Handles.{owned}
use Rattle.regress.specs.declared.searcher.Searcher.{Searcher}
use Rattle.regress.specs.contracts.searcher.Searcher as held
use Rattle.regress_capi.specs.contracts.searcher_handle.SearcherHandle as handle
use Rattle.regress_capi.proofs.LooseValues.{both, al, loose_good, loose_in}
use Rattle.regress_capi.proofs.PointerValues.{alone, alone_good, some_of}
use Rattle.regress_capi.proofs.SearcherHandleValues.{handle_out}
use Rattle.regress_capi.specs.contracts.searcher_handle.SearcherHandle.into_loose as f
use Rattle.regress_capi.proofs.searcher_handle.SearcherHandle.into_loose.Statement.{statement}
use Rattle.regress_capi.proofs.searcher_handle.SearcherHandle.into_loose.Code as code

pub into_loose_spec : {M : Type 1} → statement M
into_loose_spec 𝓤 𝓛 𝓜 𝓡 wired =
    let H = 𝓛.H in let 𝓣 = tables 𝓤 H 𝓜 𝓡 𝓡.env in let R : RattleType = held.the_row in let Z : RattleType = heap.the_row in let LZ = heap_laws.the_row_laws in
    let c = f.clauses 𝓛 𝓜.mem 𝓡.returns in let hs : Stays f.ended.signature.params f.ended.kept = (stay_dropped (plain (λ _. handle.the_row)) yes, (stay_dropped (plain (λ _. heap.the_row)) yes, tt)) in
    proved_at 𝓛 f.ended hs c 𝓜 𝓡 (Goes-blank 𝓛 0 (plain (λ _. handle.the_row)) yes (λ κs x w. tt), (Goes-dropped 𝓛 0 (plain (λ _. heap.the_row)) yes (λ κs x w. refl), tt)) f.Key.name code.function (code.unfolded 𝓤 H 𝓜 𝓡 wired) (λ z are.
    let κs = z.0.0 in let d = z.0.3.0 in let a = z.0.3.1.0 in let Post : Val → SProp 𝓤 = (walk_of 𝓛 f.ended hs c).post z in let Run : List Val → SProp 𝓤 = λ ws. WpFn 𝓤 H 𝓣.C 𝓣.Λ code.function ws Post in
    qed 𝓛 ((‵ ftrue ⊛ ‵ (owns (types_at f.ended.signature.params κs) z.0.3 z.0.4)) ∷ raw (fact 𝓤 (d.value ≡ None → ⊥)) ∷ []) ∵ split ! $ move ! (1 ∷ []) $ fsplit ! $ handle_out ! d z.0.4.0 (λ ev.
    -- [the box or nothing; the handle's allocator; the tokens; what is required]
    move ! (3 ∷ []) $ heard ! _ (λ asked. let found = some_of d.value asked in let x : Searcher = found.0 in
    rewrite ! 0 (λ (v : Option Searcher). ‵ (owned R d.at v)) found.1 refl $
    fpick ! (λ from.
    in_a_block ! d.at (λ p. box_owns (ghosts.dealloc_token from) R p x) (fst∗ 𝓤 (never 𝓤) (sem 𝓛 (ghosts.dealloc_token from (bare (lone R.mir)) null_ptr))) (λ b o e.
    let p : Ptr = block_ptr b o in
    move ! (1 ∷ []) $ fsplit ! $ handle_tells (al R Z LZ ghosts) ! a z.0.4.1.0 (λ h ea fits. move ! (2 ∷ []) $
    let w : Val = alone p in let es = subst (λ (q : Ptr). z.0.4.0 ≡ alone q ∷ []) e ev in
    suffices ! (Run (w ∷ h ∷ [])) (subst (λ (us : List Val). ent 𝓤 (Run (w ∷ h ∷ [])) (Run us)) (sym (λ i. es i ++ (ea i ++ []))) (id⊢ 𝓤 (Run (w ∷ h ∷ [])))) $
    enter ! 𝓣.C 𝓣.Λ code.function (w ∷ h ∷ []) Post $ alloc_all ! (λ l. pass_all ! refl (alone_good p, (fits, tt)) $
    sets ! (of_opd ! (get_in ! (fld ! refl (stop !)) (sub ! 0 refl (whole !)))) refl (tt, tt) $ sets ! (of_opd ! (get ! refl)) refl (tt, tt) $
    sets ! (agg ! (and_then ! (get ! refl) (and_then ! (get ! refl) (no_more !)))) refl (loose_good R Z LZ ghosts b o h fits) $
    returns ! (look_at ! 0 refl) $ free_all ! refl $ loose_in R Z LZ ghosts ! b o h a x $ use0 𝓛 (raw (fact 𝓤 (Some x ≡ d.value))) (fact_i 𝓤 (Some x ≡ d.value) (emp 𝓤) (sym found.1)) $
    nothing ! $ nothing ! $ fjoin ! $ nothing ! $ fjoin ! $ keep ! (4 ∷ 0 ∷ 2 ∷ 1 ∷ []) $ by ! (leaves 𝓛 f.ended hs c z (both (vptr b o) h) (record { at = p; alloc = a; value = x }) (tt, (tt, tt)) (tt, (tt, tt))))))))))
