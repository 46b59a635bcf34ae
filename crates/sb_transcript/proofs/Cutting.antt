-- A cut at a place of the bytes.
use Rattle.std.proofs.Common.{◌≡◌, ℕ, ◌+◌, ◌<◌, ◌≤◌, true, false, refl, sym, ◌∙◌, List, [], ◌∷◌, ◌++◌, length, take, drop, get_or, if◌then◌else◌}
use Rattle.std.proofs.lemmas.List.{at_drop_more, drop_all, take_more}
use Rattle.sb_transcript.specs.Cuts.{is_separator, place_after, cut, fields_after}
use Rattle.sb_transcript.specs.declared.cuts.Place.{Place}
use Rattle.sb_transcript.specs.declared.cuts.Place.TheVariants.{Plain}

cut_at : (k : ℕ) (p : Place) (w s : List ℕ) (n : ℕ) → n < length s → cut k p w (drop n s) ≡ (if is_separator k p (get_or s n 0) then w ∷ cut k Plain [] (drop (n + 1) s) else cut k (place_after p (get_or s n 0)) (w ++ get_or s n 0 ∷ []) (drop (n + 1) s))
cut_at k p w s n h = at_drop_more (cut k p w) s n 0 h

after_at : (k : ℕ) (s : List ℕ) (n : ℕ) → n < length s → fields_after k (drop n s) ≡ cut k Plain [] (drop (n + 1) s)
after_at k s n h = at_drop_more (fields_after k) s n 0 h

-- a field goes on, ends at a separator, or at the end
pub cut_more : (k : ℕ) (p : Place) (s : List ℕ) (n : ℕ) (z : List (List ℕ)) → cut k p (take n s) (drop n s) ≡ z → n < length s → is_separator k p (get_or s n 0) ≡ false
    → cut k (place_after p (get_or s n 0)) (take (n + 1) s) (drop (n + 1) s) ≡ z
cut_more k p s n z begun h e = rw (take_more s n 0 h) (sym (rw e at (cut_at k p (take n s) s n h)) ∙ begun)

pub cut_ends : (k : ℕ) (p : Place) (s : List ℕ) (n : ℕ) (z : List (List ℕ)) → cut k p (take n s) (drop n s) ≡ z → n < length s → is_separator k p (get_or s n 0) ≡ true
    → z ≡ take n s ∷ fields_after k (drop n s)
cut_ends k p s n z begun h e = sym begun ∙ rw e at (cut_at k p (take n s) s n h) ∙ sym (rw (after_at k s n h) refl)

pub cut_last : (k : ℕ) (p : Place) (s : List ℕ) (n : ℕ) (z : List (List ℕ)) → cut k p (take n s) (drop n s) ≡ z → length s ≤ n → z ≡ take n s ∷ fields_after k (drop n s)
cut_last k p s n z begun h = sym begun ∙ rw (drop_all n s h) refl
