-- Well formed words have no fault.
use Rattle.std.proofs.Common.{◌≡◌, ◌∙◌, ℕ, suc, ◌+◌, ◌*◌, ◌≤◌, ◌<◌, List, [], ◌∷◌, Bool, true, false, length, drop, arith, refl, sym}
use Rattle.std.proofs.lemmas.List.{get_or-take, get_or-drop}
use Rattle.std.proofs.lemmas.Bool.Decides.{nat_tests}
use Rattle.std.specs.Prelude.{not, nat_lt, slice_index, slice_index_or, None}
use Rattle.std.specs.List.{list_all}
use Rattle.sb_call.specs.Arguments.{fits_kind, kind_at}
use Rattle.sb_call.specs.Tags.{shape_of}
use Rattle.sb_call.specs.declared.tags.CallTag.{CallTag}
use Rattle.sb_call.specs.declared.tags.ParamKind.{ParamKind}
use Rattle.sb_call.specs.declared.tags.ParamKind.TheVariants as kind
use Rattle.sb_block.specs.Blocks.{bytes_of}
use Rattle.sb_block.specs.Calls.{argument_in}
use Rattle.sb_block.specs.Copies.{is_end}
use Rattle.sb_block.specs.Faults.{first_bad_name, has_shape, has_bad_place, has_bad_size, has_bad_name, has_bad_type, type_number}
use Rattle.sb_block.specs.Layout.{count_in, first_offset, descriptor_at, descriptors}
use Rattle.sb_block.specs.Laws.{IsParameter, IsWellFormed, WellFormedWordsHaveNoFault}
use Rattle.sb_block.specs.Packing.{type_of, offset_of, size_of, words_for, string_in}
use Rattle.sb_block.proofs.ParameterLemmas.{part_len}
use Rattle.sb_block.proofs.ReadingLemmas.{even_size, nowhere, same_equal}
use Rattle.sb_block.proofs.WholeBlocks.{few_parameters}

-- what holds at each place holds of all
all_from : (p : ℕ → Bool) (xs : List ℕ) → ((i : ℕ) → i < length xs → p (slice_index xs i) ≡ true) → list_all p xs ≡ true
all_from p [] h = refl
all_from p (x ∷ xs) h = rw (h 0 (omega arith), all_from p xs (λ i l. h (suc i) (omega arith)))

-- types that are those of the kinds, each at its place
shaped_from : (kinds : List ParamKind) (infos : List ℕ) → length infos ≡ length kinds
    → ((i : ℕ) → i < length infos → type_of (slice_index infos i) ≡ type_number (slice_index_or kinds i kind.Handle))
    → has_shape kinds infos ≡ true
shaped_from [] [] l h = refl
shaped_from [] (x ∷ xs) l h = absurd (omega arith)
shaped_from (k ∷ ks) [] l h = absurd (omega arith)
shaped_from (k ∷ ks) (x ∷ xs) l h =
    rw (h 0 (omega arith), same_equal (type_number k), shaped_from ks xs (omega arith) (λ i m. h (suc i) (omega arith)))

-- names if they are due, each at its place
named_from : (kinds : List ParamKind) (infos words : List ℕ) → length infos ≡ length kinds
    → ((i : ℕ) → i < length infos → has_bad_name (slice_index_or kinds i kind.Handle) (slice_index infos i) words ≡ false)
    → first_bad_name kinds infos words ≡ None
named_from [] infos words l h = refl
named_from (k ∷ ks) [] words l h = refl
named_from (k ∷ ks) (x ∷ xs) words l h =
    rw (h 0 (omega arith), named_from ks xs words (omega arith) (λ i m. h (suc i) (omega arith)))

-- what one parameter has
typed_here : (k : ParamKind) (info : ℕ) → type_of info ≡ type_number k → not (has_bad_type info) ≡ true
typed_here kind.Text info t = rw t
typed_here kind.Name info t = rw t
typed_here kind.Num info t = rw t
typed_here kind.Handle info t = rw t

placed_here : (count end info : ℕ) → first_offset count ≤ offset_of info → offset_of info + words_for (size_of info) ≤ end
    → not (has_bad_place count end info) ≡ true
placed_here count end info low high = grind (arith, nat_tests)

string_sized : (info : ℕ) (us : List ℕ) → type_of info ≡ 1 → size_of info ≡ 2 * length us → not (has_bad_size info) ≡ true
string_sized info us t s = rw (t, s, even_size (length us))

sized_here : (k : ParamKind) (info : ℕ) (words : List ℕ) → type_of info ≡ type_number k
    → size_of info ≡ bytes_of k (argument_in words info) → not (has_bad_size info) ≡ true
sized_here kind.Text info words t s = string_sized info (string_in info words) t (rw t at s)
sized_here kind.Name info words t s = string_sized info (string_in info words) t (rw t at s)
sized_here kind.Num info words t s = let four : size_of info ≡ 4 = rw t at s in rw (t, four)
sized_here kind.Handle info words t s = let eight : size_of info ≡ 8 = rw t at s in rw (t, eight)

named_here : (k : ParamKind) (info : ℕ) (words : List ℕ) → type_of info ≡ type_number k
    → fits_kind k (argument_in words info) ≡ true → has_bad_name k info words ≡ false
named_here kind.Text info words t f = refl
named_here kind.Num info words t f = refl
named_here kind.Handle info words t f = refl
named_here kind.Name info words t f = let name = rw t at f in rw name

-- the descriptor of a place is that of the list
descriptor_is : (words : List ℕ) (i : ℕ) → i < count_in words → descriptor_at words i ≡ slice_index (descriptors words) i
descriptor_is words i l = sym (get_or-take (count_in words) (drop 15 words) i 0 l ∙ get_or-drop 15 words i 0)

descriptors_len : (words : List ℕ) → first_offset (count_in words) ≤ length words → length (descriptors words) ≡ count_in words
descriptors_len words h = part_len 15 (count_in words) words (omega arith)

few : (tag : CallTag) (words : List ℕ) → IsWellFormed words tag → nat_lt 9 (count_in words) ≡ false
few tag words w = grind (arith, nat_tests, few_parameters tag, w.many)

ends : (tag : CallTag) (words : List ℕ) → IsWellFormed words tag → is_end (count_in words) (length words) ≡ true
ends tag words w = grind (arith, nat_tests, w.behind, w.most)

-- what each descriptor of well formed words has, and so all
all_parameters : (p : ℕ → Bool) (words : List ℕ) (tag : CallTag) → IsWellFormed words tag
    → ((i : ℕ) → IsParameter words tag i → p (descriptor_at words i) ≡ true) → list_all p (descriptors words) ≡ true
all_parameters p words tag w h = all_from p (descriptors words) (λ i l.
    let inside : i < count_in words = omega (arith, descriptors_len words w.behind) in
    rw (descriptor_is words i inside) at (h i (w.each i inside)))

pub well_formed_words_have_no_fault : WellFormedWordsHaveNoFault
well_formed_words_have_no_fault words tag w =
    let count = count_in words in
    let len = descriptors_len words w.behind in
    let many : length (descriptors words) ≡ length (shape_of tag) = len ∙ w.many in
    let typed = nowhere has_bad_type (descriptors words)
    (all_parameters (λ x. not (has_bad_type x)) words tag w (λ i p. typed_here (kind_at tag i) (descriptor_at words i) p.typed)) in
    let placed = nowhere (has_bad_place count (length words)) (descriptors words)
    (all_parameters (λ x. not (has_bad_place count (length words) x)) words tag w
    (λ i p. placed_here count (length words) (descriptor_at words i) p.begins p.ends)) in
    let sized = nowhere has_bad_size (descriptors words)
    (all_parameters (λ x. not (has_bad_size x)) words tag w
    (λ i p. sized_here (kind_at tag i) (descriptor_at words i) words p.typed p.sized)) in
    let shaped = shaped_from (shape_of tag) (descriptors words) many (λ i l.
    let inside : i < count = omega (arith, len) in
    rw (descriptor_is words i inside) at (w.each i inside).typed) in
    let named = named_from (shape_of tag) (descriptors words) words many (λ i l.
    let inside : i < count = omega (arith, len) in
    let p = w.each i inside in
    rw (descriptor_is words i inside) at (named_here (kind_at tag i) (descriptor_at words i) words p.typed p.fitting)) in
    rw (few tag words w, ends tag words w, same_equal count, w.end, same_equal (length words), w.known, typed, placed, shaped, sized, named) refl
