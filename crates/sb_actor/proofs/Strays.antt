-- A direct step keeps the rule: it stores into no clean channel.
use Rattle.std.proofs.Common.{◌≡◌, ℕ, Bool, true, List, length-set, set, get_or, sym, subst, refl, ap, ◌∙◌}
use Rattle.std.proofs.lemmas.List.{set-get_or}
use Rattle.sb_actor.specs.Moves.{is_clean, Deed, met, wrote, StrayMay, IsUnclean, stray_store, stray_exchange, stray_load, stray_wait}
use Rattle.sb_actor.specs.Rule.{Row, row, sees, ChannelInvariant}
use Rattle.sb_actor.specs.Laws.{StrayKeeps, words_after}
use Rattle.sb_actor.proofs.Rows.{row_at_else}
use Rattle.sb_actor.proofs.Parts.{off}

-- the word stays, or is no word of a clean channel
abbrev Harmless : List Bool → List ℕ → ℕ → Deed → Type 0
Harmless clean words w d = (c : ℕ) → is_clean clean c ≡ true → row (words_after words w d) c ≡ row words c

-- a word that stays
stays : (clean : List Bool) (words : List ℕ) (w : ℕ) (d : Deed) → wrote d (met d (get_or words w 0)) (get_or words w 0) ≡ get_or words w 0 → Harmless clean words w d
stays clean words w d e c cl = ap (λ x. row (set words w x) c) e ∙ ap (λ ws. row ws c) (set-get_or words w 0)

-- a word of a channel that is not clean
unclean : (clean : List Bool) (words : List ℕ) (w : ℕ) (d : Deed) → IsUnclean clean w → Harmless clean words w d
unclean clean words w d un c cl = row_at_else words w (wrote d (met d (get_or words w 0)) (get_or words w 0)) c (λ j e l. off (sym (un c j e l).1 ∙ cl))

harmless : (clean : List Bool) (words : List ℕ) (w : ℕ) (d : Deed) → StrayMay clean w d → Harmless clean words w d
harmless clean words w (stray_store x) may = unclean clean words w (stray_store x) may.1
harmless clean words w (stray_exchange from to) may = unclean clean words w (stray_exchange from to) may.1
harmless clean words w stray_load may = stays clean words w stray_load refl
harmless clean words w stray_wait may = stays clean words w stray_wait refl
harmless clean words w d may = absurd may

pub stray_keeps : StrayKeeps
stray_keeps clean words worker threads w d r may = record {
  owners = r.owners;
  sized = length-set words w (wrote d (met d (get_or words w 0)) (get_or words w 0)) ∙ r.sized;
  each_channel = λ c cl. subst (λ (f : Row). ChannelInvariant (r.owners c) (sees c worker) f) (sym (harmless clean words w d may c cl)) (r.each_channel c cl);
  lasts = r.lasts;
  fits_worker = r.fits_worker;
  fits = r.fits;
}
