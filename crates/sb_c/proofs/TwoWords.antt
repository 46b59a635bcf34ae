-- The machine value of a struct of a pointer and an allocator, and what its fields own. Assumes `Logic`.
--     word                        the machine value
--     pointer_good, word_good     a pointer and such a struct are of their types
--     two_out, two_in             what the fields own: the pointer's machine value is that of its denotation, and the allocator has one
use Rattle.std.proofs.Common.{◌≡◌, ◌∙◌, List, [], ◌∷◌, ◌++◌, refl}
use lib.Dec.{T}
use mathlib.Core.Bool.{Bool, true, false, ◌&&◌}
use mir.Syntax.{Sym, Lifetime, ty_ptr}
use seplogic.Ra.Ura.{Ura}
use mir.Val.{Val, vstruct, vcons, vnil, of_list, has_ty, WT}
use types.Logic.{Logic}
use types.Kit.{Item, Goal, Seq, Step, step, ‵, ◌$◌, move, drop, fsplit, fjoin, fpick, fpack, rewrite, feq_i, feq_l}
use denote.RattleType.{RattleType, Valss}
use denote.RawPtr.{Ptr, RawPtr, ptr_val, rawptr_Lawful}
use denote.Laws.{Is, shows}
use denote.Param.{layout, param}
use denote.Param.Laws.{Laws, param_laws}
use denote.Steps.{nothing, peeks}
use denote.Struct.Struct.{Shape, Struct, within}
use Rattle.core.proofs.cell.Inside.{Good, one}

abbrev pub word : Ptr → Val → Val
word p h = vstruct (vcons (ptr_val p) (vcons h vnil))

both_tt : (x y : Bool) → T x → T y → T (x && (y && true))
both_tt true true s t = tt
both_tt true false s t = absurd t
both_tt false y s t = absurd s

pub pointer_good : {M : Type 1} {𝓤 : Ura M} (𝓛 : Logic 𝓤) (p : Ptr) → Good ty_ptr (ptr_val p)
pointer_good 𝓛 p = ((rawptr_Lawful 𝓛).typed p (ptr_val p ∷ []) refl).0

module _ (Z : RattleType) (L : Laws Z) where
  -- a struct of a pointer and an allocator, of any name
  abbrev pub two : Sym → List Lifetime → List RattleType → Shape
  two name args types = record { name = name; args = args; types = types; fields = RawPtr ∷ Z ∷ [] }

  pub word_good : {M : Type 1} {𝓤 : Ura M} (𝓛 : Logic 𝓤) (p : Ptr) (h : Val) → Good (layout Z) h
      → T (has_ty ty_ptr (ptr_val p) && (has_ty (layout Z) h && true)) × WT (word p h)
  word_good 𝓛 p h fits =
      let at = pointer_good 𝓛 p in (both_tt (has_ty ty_ptr (ptr_val p)) (has_ty (layout Z) h) at.0 fits.0, (at.1, (fits.1, tt)))

  module _ (name : Sym) (args : List Lifetime) (types : List RattleType) {M : Type 1} {𝓤 : Ura M} {𝓛 : Logic 𝓤} {K : Type 0} {Γ : List (Item 𝓤)} {G : Goal 𝓤 𝓛.H} where
    pub two_out : K → (p : Ptr) (a : Z.Denot) (vs : List Val)
        → ((h : Val) → vs ≡ word p h ∷ [] → Good (layout Z) h → Seq K 𝓛 (‵ (Z.own_val a (h ∷ [])) ∷ Γ) G)
        → Seq K 𝓛 (‵ ((Struct (two name args types)).own_val (p, (a, tt)) vs) ∷ Γ) G
    two_out t p a vs k =
        fpick t (λ vss. fsplit t $ feq_l t (λ ev. fsplit t $ feq_l t (λ ep. fsplit t $
        peeks t (param 0 Z) (Is (param 0 Z)) (shows 𝓛 (param 0 Z)) a vss.1.0 (λ is.
        let got = one (layout Z) vss.1.0 (((param_laws 0 Z L).lawful 𝓛).typed a vss.1.0 is) in
        rewrite t 0 (λ (us : List Val). ‵ (Z.own_val a us)) got.1 refl $ move t (1 ∷ []) $ drop t $
        k got.0 (ev ∙ (λ i. vstruct (of_list (ep i ++ (got.1 i ++ []))) ∷ [])) got.2))))

    pub two_in : K → (p : Ptr) (a : Z.Denot) (h : Val)
        → Step K 𝓛 (‵ ((Struct (two name args types)).own_val (p, (a, tt)) (word p h ∷ [])) ∷ Γ) G (‵ (Z.own_val a (h ∷ [])) ∷ Γ) G
    two_in t p a h = step (λ s.
        nothing t $ move t (1 ∷ 0 ∷ []) $ fjoin t $ feq_i t (List Val) (ptr_val p ∷ []) (ptr_val p ∷ []) refl $ fjoin t $
        feq_i t (List Val) (word p h ∷ []) (word p h ∷ []) refl $ fjoin t $
        fpack t (Valss (RawPtr ∷ Z ∷ [])) (within (two name args types) (p, (a, tt)) (word p h ∷ [])) (ptr_val p ∷ [], (h ∷ [], tt)) $ s)
