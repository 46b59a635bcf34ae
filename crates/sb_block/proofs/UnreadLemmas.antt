-- What is not read does not matter.
use Rattle.std.proofs.Common.{◌≡◌, ℕ, suc, ◌+◌, ◌-◌, ◌*◌, ◌≤◌, ◌<◌, ◌^◌, ◌%◌, List, [], ◌∷◌, ◌++◌, Bool, true, false, length, length-append, append_assoc, take, drop, arith, refl, sym, ap, map, ◌∙◌}
use Rattle.std.proofs.Math.Seq.{drop-append_seam, drop-append-add}
use Rattle.std.proofs.lemmas.List.{get_or-append_right}
use Rattle.std.proofs.lemmas.Bool.{and_parts, eqb-true}
use Rattle.std.proofs.lemmas.Bool.Decides.{nat_tests}
use Rattle.std.specs.Prelude.{not, ◌==◌, nat_lt, slice_index, Option, None, Some, is_none, option_map, unwrap_or, if◌then◌else◌}
use Rattle.std.specs.Option.{option_or}
use Rattle.std.specs.List.{list_all, position, prefix_len}
use Rattle.sb_call.specs.Tags.{shape_of, tag_of}
use Rattle.sb_call.specs.declared.tags.CallTag.TheVariants.{Ping}
use Rattle.sb_call.specs.declared.tags.ParamKind.{ParamKind}
use Rattle.sb_call.specs.declared.tags.ParamKind.TheVariants as kind
use Rattle.sb_call.specs.declared.arguments.Arg.TheVariants.{Num}
use Rattle.sb_block.specs.Copies.{Copied, copied, is_end}
use Rattle.sb_block.specs.Packing.{type_of, offset_of, string_in, number_in}
use Rattle.sb_block.specs.Layout.{most_parameters, descriptors, end_in}
use Rattle.sb_block.specs.Faults.{faults, first_there, has_shape, has_bad_type, has_bad_place, has_bad_size, has_bad_name, first_bad_name, where_holds}
use Rattle.sb_block.specs.Calls.{called, argument_in, arguments_in, call_of, call_unless, decoded}
use Rattle.sb_block.specs.Laws.{laid, UnreadWordsDoNotMatter, UpperHalvesDoNotMatter}
use Rattle.sb_block.specs.declared.calls.Call.{Call}
use Rattle.sb_block.specs.declared.faults.BlockFault.{BlockFault}
use Rattle.sb_block.specs.declared.faults.BlockFault.TheVariants.{TooManyParams, BadEnd, CountChanged, EndChanged, BadParamType, BadPlace, UnknownTag, WrongShape, BadSize, BadName}
use Rattle.sb_block.proofs.BlockLemmas.{taken_front, found_after}
use Rattle.sb_block.proofs.FaultLemmas.{not_taken}

-- the number in a word whose upper half is not looked at
low_half : (front rest : List ℕ) (info low high : ℕ) → type_of info ≡ 2 → offset_of info ≡ length front → low < 2 ^ 32
    → argument_in (front ++ ((low + high * 2 ^ 32) ∷ rest)) info ≡ Num low
low_half front rest info low high t o l =
    let there = found_after front rest (low + high * 2 ^ 32) (offset_of info) (sym o) in
    let half : (low + high * 2 ^ 32) % 2 ^ 32 ≡ low = omega arith in
    rw (t, there, half)

pub upper_halves_do_not_matter : UpperHalvesDoNotMatter
upper_halves_do_not_matter front rest info low high high' t o l =
    low_half front rest info low high t o l ∙ sym (low_half front rest info low high' t o l)

-- what is dropped, and what is read, past the front
dropped_front : (xs ys : List ℕ) (n : ℕ) → length xs ≡ n → drop n (xs ++ ys) ≡ ys
dropped_front xs ys n h = rw (sym h) (drop-append_seam xs ys)

dropped_past : (xs ys : List ℕ) (n at : ℕ) → length xs ≡ n → n ≤ at → drop at (xs ++ ys) ≡ drop (at - n) ys
dropped_past xs ys n at h l =
    let split : at ≡ length xs + (at - n) = omega arith in
    ap (λ (k : ℕ). drop k (xs ++ ys)) split ∙ drop-append-add xs ys (at - n)

-- two lists of words are the same from a place on
record Same (from : ℕ) (ws vs : List ℕ) : Type 0 where
  parts : (at : ℕ) → from ≤ at → drop at ws ≡ drop at vs
  words : (at : ℕ) → from ≤ at → slice_index ws at ≡ slice_index vs at

same_after : (xs xs' ys : List ℕ) (n : ℕ) → length xs ≡ n → length xs' ≡ n → Same n (xs ++ ys) (xs' ++ ys)
same_after xs xs' ys n h h' = record {
  parts = λ at l. dropped_past xs ys n at h l ∙ sym (dropped_past xs' ys n at h' l);
  words = λ at l. get_or-append_right xs ys n at 0 h l ∙ sym (get_or-append_right xs' ys n at 0 h' l);
}

-- the string and the argument of a descriptor that points past that place
same_string : (from : ℕ) (ws vs : List ℕ) (word : ℕ) → Same from ws vs → from ≤ offset_of word → string_in word ws ≡ string_in word vs
same_string from ws vs word same l = rw (same.parts (offset_of word) l)

same_number : (from : ℕ) (ws vs : List ℕ) (word : ℕ) → Same from ws vs → from ≤ offset_of word → number_in word ws ≡ number_in word vs
same_number from ws vs word same l = same.words (offset_of word) l

same_argument : (from : ℕ) (ws vs : List ℕ) (word : ℕ) → Same from ws vs → from ≤ offset_of word → argument_in ws word ≡ argument_in vs word
same_argument from ws vs word same l = rw (same_string from ws vs word same l, same_number from ws vs word same l)

placed_past : (count end word : ℕ) → not (has_bad_place count end word) ≡ true → 16 + count ≤ offset_of word
placed_past count end word h = grind (arith, nat_tests)

same_arguments : (count end : ℕ) (ws vs infos : List ℕ) → Same (16 + count) ws vs
    → list_all (λ x. not (has_bad_place count end x)) infos ≡ true → map (argument_in ws) infos ≡ map (argument_in vs) infos
same_arguments count end ws vs [] same h = refl
same_arguments count end ws vs (word ∷ more) same h =
    let placed = and_parts (not (has_bad_place count end word)) (list_all (λ x. not (has_bad_place count end x)) more) h in
    rw (
      same_argument (16 + count) ws vs word same (placed_past count end word placed.0),
      same_arguments count end ws vs more same placed.1,
    )

same_named : (count end : ℕ) (ws vs : List ℕ) (k : ParamKind) (word : ℕ) → Same (16 + count) ws vs
    → not (has_bad_place count end word) ≡ true → has_bad_name k word ws ≡ has_bad_name k word vs
same_named count end ws vs kind.Text word same h = refl
same_named count end ws vs kind.Num word same h = refl
same_named count end ws vs kind.Handle word same h = refl
same_named count end ws vs kind.Name word same h =
    rw (same_string (16 + count) ws vs word same (placed_past count end word h))

same_unnamed : (count end : ℕ) (ws vs : List ℕ) (kinds : List ParamKind) (infos : List ℕ) → Same (16 + count) ws vs
    → list_all (λ x. not (has_bad_place count end x)) infos ≡ true → first_bad_name kinds infos ws ≡ first_bad_name kinds infos vs
same_unnamed count end ws vs [] infos same h = refl
same_unnamed count end ws vs (k ∷ kinds) [] same h = refl
same_unnamed count end ws vs (k ∷ kinds) (word ∷ more) same h =
    let placed = and_parts (not (has_bad_place count end word)) (list_all (λ x. not (has_bad_place count end x)) more) h in
    rw (same_named count end ws vs k word same placed.0, same_unnamed count end ws vs kinds more same placed.1)

front_step : (b : Bool) (n m : ℕ) → nat_lt (if b then 1 + n else 0) (suc m) ≡ false → (b ≡ true) × (nat_lt n m ≡ false)
front_step true n m h = (refl, grind (arith, nat_tests))
front_step false n m h = absurd (grind (arith, nat_tests))

all_pass_from : (q : ℕ → Bool) (xs : List ℕ) → nat_lt (prefix_len q xs) (length xs) ≡ false → list_all q xs ≡ true
all_pass_from q [] h = refl
all_pass_from q (x ∷ xs) h =
    let step = front_step (q x) (prefix_len q xs) (length xs) h in
    rw (step.0, all_pass_from q xs step.1)

-- if a test passes nowhere, it fails everywhere
pub fails_everywhere : (p : ℕ → Bool) (xs : List ℕ) → position p xs ≡ None → list_all (λ x. not (p x)) xs ≡ true
fails_everywhere p xs h =
    all_pass_from (λ x. not (p x)) xs (not_taken (nat_lt (prefix_len (λ x. not (p x)) xs) (length xs)) _ None h).0

-- a fault that comes first leaves the rest unread
after : (found o o' : Option BlockFault) (k k' : Call) → call_unless o k ≡ call_unless o' k'
    → call_unless (option_or found o) k ≡ call_unless (option_or found o') k'
after None o o' k k' h = h
after (Some f) o o' k k' h = refl

-- and the rest may use that it is not there
after_place : (place : Option ℕ) (o o' : Option BlockFault) (k k' : Call) → (place ≡ None → call_unless o k ≡ call_unless o' k')
    → call_unless (option_or (option_map BadPlace place) o) k ≡ call_unless (option_or (option_map BadPlace place) o') k'
after_place None o o' k k' h = h refl
after_place (Some n) o o' k k' h = refl

-- the words before the parameters, and the parts that are found again
abbrev lead : ℕ → ℕ → ℕ → List ℕ → List ℕ → ℕ → List ℕ
lead tag mark count reply infos item = (tag ∷ mark ∷ count ∷ reply) ++ (infos ++ (item ∷ []))

lead_parts : (tag mark count : ℕ) (reply infos params : List ℕ) (item : ℕ)
    → laid tag mark count reply infos item params ≡ lead tag mark count reply infos item ++ params
lead_parts tag mark count reply infos params item =
    ap (λ (xs : List ℕ). (tag ∷ mark ∷ count ∷ reply) ++ xs) (sym (append_assoc infos (item ∷ []) params))
    ∙ sym (append_assoc (tag ∷ mark ∷ count ∷ reply) (infos ++ (item ∷ [])) params)

lead_len : (n tag mark count : ℕ) (reply infos : List ℕ) (item : ℕ) → length reply ≡ 12 → length infos ≡ n
    → length (lead tag mark count reply infos item) ≡ 16 + n
lead_len n tag mark count reply infos item r i =
    omega (arith, length-append (tag ∷ mark ∷ count ∷ reply) (infos ++ (item ∷ [])), length-append infos (item ∷ []))

infos_found : (tag mark count : ℕ) (reply infos params : List ℕ) (item : ℕ) → length reply ≡ 12 → length infos ≡ count
    → descriptors (laid tag mark count reply infos item params) ≡ infos
infos_found tag mark count reply infos params item r i =
    ap (λ (xs : List ℕ). take count xs) (dropped_front (tag ∷ mark ∷ count ∷ reply) (infos ++ (item ∷ params)) 15 (omega arith))
    ∙ taken_front infos (item ∷ params) count i

end_found : (tag mark count : ℕ) (reply infos params : List ℕ) (item : ℕ) → length reply ≡ 12 → length infos ≡ count
    → end_in (laid tag mark count reply infos item params) ≡ offset_of item
end_found tag mark count reply infos params item r i =
    let place : length ((tag ∷ mark ∷ count ∷ reply) ++ infos) ≡ 15 + count =
    omega (arith, length-append (tag ∷ mark ∷ count ∷ reply) infos) in
    ap (λ (ws : List ℕ). offset_of (slice_index ws (15 + count))) (sym (append_assoc (tag ∷ mark ∷ count ∷ reply) infos (item ∷ params)))
    ∙ ap offset_of (found_after ((tag ∷ mark ∷ count ∷ reply) ++ infos) params item (15 + count) place)

same_laid : (n tag mark count : ℕ) (reply reply' infos params : List ℕ) (item item' : ℕ) → length reply ≡ 12 → length reply' ≡ 12
    → length infos ≡ n → Same (16 + n) (laid tag mark count reply infos item params) (laid tag mark count reply' infos item' params)
same_laid n tag mark count reply reply' infos params item item' r r' i =
    rw (lead_parts tag mark count reply infos params item, lead_parts tag mark count reply' infos params item')
    (same_after (lead tag mark count reply infos item) (lead tag mark count reply' infos item') params (16 + n)
    (lead_len n tag mark count reply infos item r i) (lead_len n tag mark count reply' infos item' r' i))

-- if the count that was fetched is not the one in the words, that or a fault before it is the fault
other_count : (found found' : Option BlockFault) (x : BlockFault) (o o' : Option BlockFault) (k k' : Call)
    → call_unless (option_or found (option_or found' (option_or (Some x) o))) k
    ≡ call_unless (option_or found (option_or found' (option_or (Some x) o'))) k'
other_count None None x o o' k k' = refl
other_count None (Some f) x o o' k k' = refl
other_count (Some f) found' x o o' k k' = refl

-- the first four faults, and those of parameters that are read from the descriptors alone, are the same
same_count : (n end tag mark count : ℕ) (reply reply' infos params : List ℕ) (item item' : ℕ) → n ≡ count
    → length reply ≡ 12 → length reply' ≡ 12 → length infos ≡ n → offset_of item ≡ offset_of item'
    → decoded (copied n end (laid tag mark count reply infos item params)) ≡ decoded (copied n end (laid tag mark count reply' infos item' params))
same_count n end tag mark count reply reply' infos params item item' c r r' i e =
    let ws : List ℕ = laid tag mark count reply infos item params in
    let vs : List ℕ = laid tag mark count reply' infos item' params in
    let many : length infos ≡ count = i ∙ c in
    let same = same_laid count tag mark count reply reply' infos params item item' r r' many in
    let k : Call = called (unwrap_or (tag_of tag) Ping) mark (arguments_in infos ws) in
    let k' : Call = called (unwrap_or (tag_of tag) Ping) mark (arguments_in infos vs) in
    let kinds = shape_of (unwrap_or (tag_of tag) Ping) in
    let few = where_holds (nat_lt most_parameters n) (TooManyParams n) in
    let ends = where_holds (not (is_end n end)) (BadEnd end) in
    let counts = where_holds (not (n == count)) (CountChanged n count) in
    let at_end = where_holds (not (end == offset_of item')) (EndChanged end (offset_of item')) in
    let typed = option_map BadParamType (position has_bad_type infos) in
    let known = where_holds (is_none (tag_of tag)) (UnknownTag tag) in
    let shaped = where_holds (not (has_shape kinds infos)) WrongShape in
    let sized = option_map BadSize (position has_bad_size infos) in
    let named = λ (words : List ℕ). option_or (option_map BadName (first_bad_name kinds infos words)) None in
    let last : position (has_bad_place count (offset_of item')) infos ≡ None
    → call_unless (option_or known (option_or shaped (option_or sized (named ws)))) k
    ≡ call_unless (option_or known (option_or shaped (option_or sized (named vs)))) k'
    = λ p. let placed = fails_everywhere (has_bad_place count (offset_of item')) infos p in
    rw (same_unnamed count (offset_of item') ws vs kinds infos same placed, same_arguments count (offset_of item') ws vs infos same placed) refl in
    let after_types = after typed _ _ k k' (after_place (position (has_bad_place count (offset_of item')) infos) _ _ k k' last) in
    let all = after few _ _ k k' (after ends _ _ k k' (after counts _ _ k k' (after at_end _ _ k k' after_types))) in
    rw (
      infos_found tag mark count reply infos params item r many,
      infos_found tag mark count reply' infos params item' r' many,
      end_found tag mark count reply infos params item r many,
      end_found tag mark count reply' infos params item' r' many,
      e,
    )
    all

pub unread_words_do_not_matter : UnreadWordsDoNotMatter
unread_words_do_not_matter n end tag mark count reply reply' infos params item item' r r' i e = by (n == count) refl
  where
    by : (same : Bool) → (n == count) ≡ same
        → decoded (copied n end (laid tag mark count reply infos item params))
        ≡ decoded (copied n end (laid tag mark count reply' infos item' params))
    by true s = same_count n end tag mark count reply reply' infos params item item' (eqb-true n count s) r r' i e
    by false s =
        let c : Copied = copied n end (laid tag mark count reply infos item params) in
        let c' : Copied = copied n end (laid tag mark count reply' infos item' params) in
        rw s (other_count (where_holds (nat_lt most_parameters n) (TooManyParams n)) (where_holds (not (is_end n end)) (BadEnd end))
        (CountChanged n count) (first_there (drop 3 (faults c))) (first_there (drop 3 (faults c'))) (call_of c) (call_of c'))
