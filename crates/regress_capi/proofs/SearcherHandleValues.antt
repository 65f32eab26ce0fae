-- The machine values of a `SearcherHandle`. Assumes `Logic`.
use Rattle.std.proofs.Common.{◌≡◌, List, [], ◌∷◌, ◌++◌, refl, subst}
use seplogic.Ra.Ura.{Ura}
use mir.Val.{Val, vstruct, of_list}
use types.Logic.{Logic}
use types.Kit.{Item, Goal, Seq, Step, step, ‵, ◌$◌, drop, fsplit, fjoin, fpick, fpack, feq_i, feq_l}
use denote.RattleType.{Valss}
use denote.Builtin.{RawPtr}
use denote.RawPtr.{Ptr, ptr_val}
use denote.Steps.{nothing}
use denote.Struct.Struct.{within}
use denote.Struct.Owning.{shape}
use Rattle.std.specs.Prelude.{Option}
use Rattle.regress_capi.specs.Handles.{owned}
use Rattle.regress.specs.declared.searcher.Searcher.{Searcher}
use Rattle.regress.specs.contracts.searcher.Searcher as held
use Rattle.regress_capi.specs.declared.searcher_handle.SearcherHandle.{SearcherHandle}
use Rattle.regress_capi.specs.contracts.searcher_handle.SearcherHandle as handle
use Rattle.regress_capi.proofs.PointerValues.{alone}

module _ {M : Type 1} {𝓤 : Ura M} {𝓛 : Logic 𝓤} {A : Type 0} {Γ : List (Item 𝓤)} {G : Goal 𝓤 𝓛.H} where
  pub handle_in : A → (p : Ptr) (x : Option Searcher) → Step A 𝓛 (‵ (handle.the_row.own_val (record { at = p; value = x }) (alone p ∷ [])) ∷ Γ) G (‵ (owned held.the_row p x) ∷ Γ) G
  handle_in t p x = step (λ s.
      nothing t $ feq_i t (List Val) (ptr_val p ∷ []) (ptr_val p ∷ []) refl $ fjoin t $ feq_i t (List Val) (alone p ∷ []) (alone p ∷ []) refl $ fjoin t $
      fpack t (Valss (RawPtr ∷ [])) (within (shape handle.the_type) (p, tt) (alone p ∷ [])) (ptr_val p ∷ [], tt) $ fjoin t $ s)

  pub handle_out : A → (d : SearcherHandle) (vs : List Val) → (vs ≡ alone d.at ∷ [] → Seq A 𝓛 (‵ (owned held.the_row d.at d.value) ∷ Γ) G) → Seq A 𝓛 (‵ (handle.the_row.own_val d vs) ∷ Γ) G
  handle_out t d vs k =
      fsplit t $ fpick t (λ vss. fsplit t $ feq_l t (λ ev. fsplit t $ feq_l t (λ ep. drop t $ k (subst (λ (ps : List Val). vs ≡ vstruct (of_list (ps ++ [])) ∷ []) ep ev))))
