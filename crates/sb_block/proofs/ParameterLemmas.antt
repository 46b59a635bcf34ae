-- What each parameter of a copy without a fault has.
use Rattle.std.proofs.Common.{◌≡◌, ◌∙◌, ℕ, zero, suc, ◌+◌, ◌*◌, ◌/◌, ◌%◌, ◌≤◌, ◌<◌, List, [], ◌∷◌, Bool, true, false, length, length-append, length-take, length-drop, drop, arith, refl, sym, ap, map}
use Rattle.std.proofs.lemmas.List.{get_or-take, get_or-drop, length-map}
use Rattle.std.proofs.lemmas.Bool.{and_parts, false≢true, eqb-true, not-false}
use Rattle.std.proofs.lemmas.Bool.Decides.{nat_tests}
use Rattle.std.specs.Prelude.{not, nat_eq, slice_index, slice_index_or, Option, None, Some, is_none, unwrap_or}
use Rattle.std.specs.List.{list_all, flat_map}
use Rattle.sb_call.specs.Arguments.{arg_at}
use Rattle.sb_call.specs.Tags.{shape_of, tag_of}
use Rattle.sb_call.specs.declared.tags.CallTag.{CallTag}
use Rattle.sb_call.specs.declared.tags.CallTag.TheVariants.{Ping}
use Rattle.sb_call.specs.declared.arguments.Arg.TheVariants as arg
use Rattle.sb_call.specs.declared.tags.ParamKind.{ParamKind}
use Rattle.sb_call.specs.declared.tags.ParamKind.TheVariants as kind
use Rattle.sb_block.specs.Blocks.{bytes_of}
use Rattle.sb_block.specs.Calls.{argument_in}
use Rattle.sb_block.specs.Copies.{Copied, is_copy, is_end}
use Rattle.sb_block.specs.Faults.{fault, has_shape, has_bad_place, has_bad_size, type_number, tag_in}
use Rattle.sb_block.specs.Layout.{tag_word, count_in, end_in, first_offset, descriptor_at, descriptors}
use Rattle.sb_block.specs.Laws.{TagsAreKnown, ParametersAreAsMany, ParametersHaveTheirSizes, ParametersHaveTheirTypes, ParametersLieInside}
use Rattle.sb_block.specs.Packing.{type_of, offset_of, size_of, words_for, part_of, word_units, string_in}
use Rattle.sb_block.proofs.FaultLemmas.{both_halves, counted, ended, faultless, fetched, has_length}
use Rattle.sb_block.proofs.UnreadLemmas.{fails_everywhere}

-- what holds of all holds at each place
all_at : (p : ℕ → Bool) (xs : List ℕ) (i : ℕ) → list_all p xs ≡ true → i < length xs → p (slice_index xs i) ≡ true
all_at p [] i h l = absurd (omega arith)
all_at p (x ∷ xs) zero h l = (and_parts (p x) (list_all p xs) h).0
all_at p (x ∷ xs) (suc i) h l = all_at p xs i (and_parts (p x) (list_all p xs) h).1 (omega arith)

-- four units a word
units_len : (words : List ℕ) → length (flat_map word_units words) ≡ 4 * length words
units_len [] = refl
units_len (w ∷ ws) = omega (arith, length-append (word_units w) (flat_map word_units ws), units_len ws)

-- a part that lies within the words is whole
pub part_len : (offset n : ℕ) (words : List ℕ) → offset + n ≤ length words → length (part_of offset n words) ≡ n
part_len offset n words h = omega (arith, length-take n (drop offset words), length-drop offset words)

-- a string that lies within the words, of an even size, has half as many units
string_len : (info : ℕ) (words : List ℕ) → size_of info % 2 ≡ 0 → offset_of info + words_for (size_of info) ≤ length words
    → size_of info ≡ 2 * length (string_in info words)
string_len info words even inside =
    let part = part_of (offset_of info) (words_for (size_of info)) words in
    omega (
      arith,
      length-take (size_of info / 2) (flat_map word_units part),
      units_len part,
      part_len (offset_of info) (words_for (size_of info)) words inside,
    )

-- what a size that its type allows is
even_size : (info : ℕ) → type_of info ≡ 1 → not (has_bad_size info) ≡ true → size_of info % 2 ≡ 0
even_size info t s = grind (arith, nat_tests)

four_bytes : (info : ℕ) → type_of info ≡ 2 → not (has_bad_size info) ≡ true → size_of info ≡ 4
four_bytes info t s = grind (arith, nat_tests)

eight_bytes : (info : ℕ) → type_of info ≡ 3 → not (has_bad_size info) ≡ true → size_of info ≡ 8
eight_bytes info t s = grind (arith, nat_tests)

sized_here : (k : ParamKind) (info : ℕ) (words : List ℕ) → type_of info ≡ type_number k → not (has_bad_size info) ≡ true
    → offset_of info + words_for (size_of info) ≤ length words → size_of info ≡ bytes_of k (argument_in words info)
sized_here kind.Text info words t s inside = rw t (string_len info words (even_size info t s) inside)
sized_here kind.Name info words t s inside = rw t (string_len info words (even_size info t s) inside)
sized_here kind.Num info words t s inside = rw t (four_bytes info t s)
sized_here kind.Handle info words t s inside = rw t (eight_bytes info t s)

-- if the types are those of the kinds, each is that of its kind
typed_at : (kinds : List ParamKind) (infos : List ℕ) (i : ℕ) → has_shape kinds infos ≡ true → i < length infos
    → type_of (slice_index infos i) ≡ type_number (slice_index_or kinds i kind.Handle)
typed_at kinds [] i s l = absurd (omega arith)
typed_at [] (x ∷ xs) i s l = absurd (false≢true s)
typed_at (k ∷ ks) (x ∷ xs) zero s l =
    eqb-true (type_of x) (type_number k) (and_parts (nat_eq (type_of x) (type_number k)) (has_shape ks xs) s).0
typed_at (k ∷ ks) (x ∷ xs) (suc i) s l =
    typed_at ks xs i (and_parts (nat_eq (type_of x) (type_number k)) (has_shape ks xs) s).1 (omega arith)

-- the argument of a descriptor is at its place
argument_at : (words infos : List ℕ) (i : ℕ) → i < length infos
    → arg_at (map (argument_in words) infos) i ≡ argument_in words (slice_index infos i)
argument_at words [] i l = absurd (omega arith)
argument_at words (x ∷ xs) zero l = refl
argument_at words (x ∷ xs) (suc i) l = argument_at words xs i (omega arith)

-- what is known of the descriptors of a copy without a fault
record Known (c : Copied) : Type 0 where
  many : length (descriptors c.words) ≡ c.count_seen
  same : (i : ℕ) → i < c.count_seen → slice_index (descriptors c.words) i ≡ descriptor_at c.words i
  end : end_in c.words ≡ length c.words
  count : count_in c.words ≡ c.count_seen

within : (count end : ℕ) → is_end count end ≡ true → first_offset count ≤ end
within count end h = grind (arith, nat_tests)

known : (c : Copied) → is_copy c ≡ true → fault c ≡ None → Known c
known c rule h =
    let f = fetched c (both_halves c h).0 in
    let len = has_length c rule f in
    let inside : first_offset c.count_seen ≤ c.end_seen = within c.count_seen c.end_seen (not-false _ f.ends) in
    let count : count_in c.words ≡ c.count_seen = sym (counted c f) in
    record {
      many = part_len 15 (count_in c.words) c.words (omega arith) ∙ count;
      same = λ i l. get_or-take (count_in c.words) (drop 15 c.words) i 0 (omega arith) ∙ get_or-drop 15 c.words i 0;
      end = sym (ended c f) ∙ len;
      count = count;
    }

known_tag : (found : Option CallTag) → is_none found ≡ false → found ≡ Some (unwrap_or found Ping)
known_tag (Some tag) h = refl
known_tag None h = absurd (false≢true (sym h))

pub tags_are_known : TagsAreKnown
tags_are_known c h = known_tag (tag_of (tag_word c.words)) (faultless c h).known

pub parameters_are_as_many : ParametersAreAsMany
parameters_are_as_many c rule h =
    length-map (descriptors c.words) (argument_in c.words) ∙ (known c rule h).many

placed_at : (count end info : ℕ) → not (has_bad_place count end info) ≡ true
    → (first_offset count ≤ offset_of info) × (offset_of info + words_for (size_of info) ≤ end)
placed_at count end info h = (grind (arith, nat_tests), grind (arith, nat_tests))

pub parameters_lie_inside : ParametersLieInside
parameters_lie_inside c rule h i l =
    let k = known c rule h in
    let all = fails_everywhere (has_bad_place (count_in c.words) (end_in c.words)) (descriptors c.words) (faultless c h).placed in
    let here : not (has_bad_place (count_in c.words) (end_in c.words) (slice_index (descriptors c.words) i)) ≡ true =
    all_at (λ x. not (has_bad_place (count_in c.words) (end_in c.words) x)) (descriptors c.words) i all (omega (arith, k.many)) in
    let places = placed_at (count_in c.words) (end_in c.words) (descriptor_at c.words i) (rw (k.same i l) at here) in
    (omega (arith, places.0, k.count), omega (arith, places.1, k.end))

pub parameters_have_their_types : ParametersHaveTheirTypes
parameters_have_their_types c rule h i l =
    let k = known c rule h in
    ap type_of (sym (k.same i l))
    ∙ typed_at (shape_of (tag_in c.words)) (descriptors c.words) i (not-false _ (faultless c h).shaped) (omega (arith, k.many))

pub parameters_have_their_sizes : ParametersHaveTheirSizes
parameters_have_their_sizes c rule h i l =
    let k = known c rule h in
    let inside : i < length (descriptors c.words) = omega (arith, k.many) in
    let all = fails_everywhere has_bad_size (descriptors c.words) (faultless c h).sized in
    let sized : not (has_bad_size (slice_index (descriptors c.words) i)) ≡ true =
    all_at (λ x. not (has_bad_size x)) (descriptors c.words) i all inside in
    let size = sized_here (slice_index_or (shape_of (tag_in c.words)) i kind.Handle) (descriptor_at c.words i) c.words
    (parameters_have_their_types c rule h i l) (rw (k.same i l) at sized) (parameters_lie_inside c rule h i l).1 in
    rw (argument_at c.words (descriptors c.words) i inside, k.same i l) size
