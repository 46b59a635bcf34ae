-- `into_parcel` moves them back.
use Rattle.std.proofs.Common.{◌≡◌, List, [], ◌∷◌, ◌++◌, refl, sym, subst, true}
use Rattle.std.specs.Prelude.{Option, is_some}
use mir.Val.{Val}
use base.Logic.{SProp, ent, id⊢}
use prog.Wp.{WpFn}
use types.Kit.{‵, raw, ◌⊛◌, ◌$◌, ◌∵◌, !, qed, move, drop, split, join, fsplit, fjoin, suffices, rewrite, done}
use types.Run.{stop, fld, of_opd, no_more, and_then, returns, enter}
use types.ByLocal.{alloc_all, pass_all, free_all, look_at, get, get_in, sets}
use types.Part.{agg, sub, whole}
use contract.Running.{tables}
use denote.Exit.{yes}
use denote.RattleType.{RattleType, owns}
use denote.Signature.{types_at, plain}
use denote.Steps.{nothing, heard}
use denote.Triple.Entry.{alive}
use denote.Triple.Walked.{Stays, stay_dropped, walk_of, says, ends_at, Goes-dropped}
use Rattle.std.proofs.raw_atomic.Walks.{proved_at}
use Rattle.std_heap.specs.contracts.Global.{the_row as Z}
use Rattle.std_heap.specs.contracts.GlobalAllocator.TheImpl.{ghosts}
use Rattle.std_heap.proofs.Global.TheLaws.{the_row_laws as LZ}
use Rattle.sb_c.specs.Owning.{Content, place_owns}
use Rattle.sb_c.specs.contracts.helds.Held as held
use Rattle.sb_c.specs.contracts.parcels.Parcel as parcel
use Rattle.sb_c.specs.contracts.handles.Place as place
use Rattle.sb_c.specs.contracts.handles.Place.into_parcel as f
use Rattle.sb_c.specs.contracts.handles.Place.into_parcel.Key.{name as #self}
use Rattle.sb_c.proofs.handles.Place.into_parcel.Statement.{statement}
use Rattle.sb_c.proofs.handles.Place.into_parcel.Code as code
use Rattle.sb_c.proofs.Content.{held_in}
use Rattle.sb_c.proofs.TwoWords.{pointer_good, two_in, two_out, word, word_good}

pub into_parcel_spec : {M : Type 1} → statement M
into_parcel_spec 𝓤 𝓛 𝓜 𝓡 wired =
    let H = 𝓛.H in let 𝓣 = tables 𝓤 H 𝓜 𝓡 𝓡.env in let En = f.ended in let c = f.clauses 𝓛 𝓜.mem 𝓡.returns in
    let P : RattleType = place.the_row in let from = place.the_type in let to = parcel.the_type held.the_row Z ghosts in
    let hs : Stays En.signature.params En.kept = (stay_dropped (plain (λ _. P)) yes, tt) in
    proved_at 𝓛 En hs c 𝓜 𝓡 (Goes-dropped 𝓛 0 (plain (λ _. P)) yes (λ κs x w. refl), tt) #self code.function (code.unfolded 𝓤 H 𝓜 𝓡 wired) (λ z are.
    let κs = z.0.0 in let qs = z.0.1 in let d = z.0.3.0 in
    let Post : Val → SProp 𝓤 = (walk_of 𝓛 En hs c).post z in let Run : List Val → SProp 𝓤 = λ ws. WpFn 𝓤 H 𝓣.C 𝓣.Λ code.function ws Post in
    qed 𝓛 ((raw (alive 𝓛 En.signature κs qs) ⊛ ‵ (owns (types_at En.signature.params κs) z.0.3 z.0.4)) ∷ raw ((c κs z.0.3).requires z.1) ∷ []) ∵
    split ! $ drop ! $ fsplit ! $ fsplit ! $ two_out Z LZ from.name from.args from.types ! d.at d.alloc z.0.4.0 (λ h e fits.
    -- [the allocator; what is owned beside; nothing; the requires]
    move ! (3 ∷ []) $ heard ! (is_some d.held ≡ true) (λ full. let x = held_in d.held full in
    move ! (1 ∷ []) $ rewrite ! 0 (λ (o : Option Content). ‵ (place_owns d.alloc d.at o)) x.1 refl $ move ! (1 ∷ 0 ∷ []) $
    two_in Z LZ to.name to.args to.types ! d.at d.alloc h $ fjoin ! $ move ! (1 ∷ []) $ drop ! $
    let w : Val = word d.at h in
    suffices ! (Run (w ∷ [])) (subst (λ (us : List Val). ent 𝓤 (Run (w ∷ [])) (Run us)) (sym (λ i. e i ++ [])) (id⊢ 𝓤 (Run (w ∷ [])))) $
    enter ! 𝓣.C 𝓣.Λ code.function (w ∷ []) Post $ alloc_all ! (λ l. pass_all ! refl (word_good Z LZ 𝓛 d.at h fits, tt) $
    sets ! (of_opd ! (get_in ! (fld ! refl (stop !)) (sub ! 0 refl (whole !)))) refl (pointer_good 𝓛 d.at) $
    sets ! (of_opd ! (get_in ! (fld ! refl (stop !)) (sub ! 1 refl (whole !)))) refl fits $
    sets ! (of_opd ! (get ! refl)) refl (pointer_good 𝓛 d.at) $
    sets ! (agg ! (and_then ! (get ! refl) (and_then ! (get ! refl) (no_more !)))) refl (word_good Z LZ 𝓛 d.at h fits) $
    returns ! (look_at ! 0 refl) $ free_all ! refl $
    suffices ! _ (ends_at 𝓛 En hs c z w (record { at = d.at; alloc = d.alloc; value = x.0 }) (tt, tt) (tt, tt)) $ says ! (sym x.1) $
    nothing ! $ nothing ! $ fjoin ! $ join ! $ nothing ! $ join ! $ done !))))
