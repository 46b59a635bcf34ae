-- The files at places, one after another.
use Rattle.std.proofs.Common.{◌≡◌, ◌∙◌, refl, sym, ap, ℕ, List, [], ◌∷◌, ◌++◌, Option, None, Some, map}
use Rattle.std.specs.Slice.{IsItemAt}
use Rattle.std.specs.Borrow.{Bor}
use Rattle.std.specs.Prelude.{option_map, slice_get}
use Rattle.std.proofs.lemmas.List.{append_assoc, append-nil}
use Rattle.std.proofs.lemmas.Option.{slice_get-get_or, slice_get-map, slice_get_past}
use Rattle.sb_commands.specs.Commands.{files_at, last_file, with_file, with_last_file, with_place}
use Rattle.sb_commands.specs.Forms.{File, Number, Place, Word, place_of}
use Rattle.sb_commands.specs.declared.forms.FormPlace.{FormPlace}

file_placed : (place : Place) (word : List ℕ) (files : List (List ℕ)) (places : List Place) (words : List (List ℕ))
    → with_file place word files ++ files_at places words ≡ files ++ files_at (place ∷ places) (word ∷ words)
file_placed (File name) word files places words = append_assoc files (word ∷ []) (files_at places words)
file_placed (Number number) word files places words = refl
file_placed (Word name) word files places words = refl

none_left : (places : List Place) → files_at places [] ≡ []
none_left [] = refl
none_left (place ∷ places) = refl

-- those at three places
pub placed_three : (places : List Place) (a b c : List ℕ)
    → with_place (slice_get places 2) c (with_place (slice_get places 1) b (with_place (slice_get places 0) a [])) ≡ files_at places (a ∷ b ∷ c ∷ [])
placed_three [] a b c = refl
placed_three (p ∷ []) a b c = sym (append-nil (with_file p a [])) ∙ file_placed p a [] [] (b ∷ c ∷ [])
placed_three (p ∷ s ∷ []) a b c =
    let one = with_file p a [] in
    sym (append-nil (with_file s b one)) ∙ (file_placed s b one [] (c ∷ []) ∙ file_placed p a [] (s ∷ []) (b ∷ c ∷ []))
placed_three (p ∷ s ∷ t ∷ places) a b c =
    let one = with_file p a [] in
    let two = with_file s b one in
    let three = with_file t c two in
    sym (append-nil three)
    ∙ (sym (ap (λ rest. three ++ rest) (none_left places))
    ∙ (file_placed t c two places [] ∙ (file_placed s b one (t ∷ places) (c ∷ []) ∙ file_placed p a [] (s ∷ t ∷ places) (b ∷ c ∷ []))))

-- and the one after them
pub last_placed : (last value : Option (List ℕ)) (files : List (List ℕ)) → with_last_file last value files ≡ files ++ last_file last value
last_placed None value files = sym (append-nil files)
last_placed (Some name) None files = sym (append-nil files)
last_placed (Some name) (Some value) files = refl

-- what is found at a place of the program's form
pub place_found : (places : List FormPlace) (i : ℕ) (found : Option (Bor FormPlace)) → IsItemAt places i found
    → option_map (λ p. place_of p.now) found ≡ slice_get (map place_of places) i
place_found places i None h = sym (slice_get-map place_of places i ∙ ap (option_map place_of) (slice_get_past places i h.3))
place_found places i (Some place) h =
    sym (slice_get-map place_of places i ∙ ap (option_map place_of) (slice_get-get_or places i place.now h.3.0 ∙ ap Some (sym h.1)))
