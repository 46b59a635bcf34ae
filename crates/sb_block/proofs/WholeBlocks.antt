-- The whole block of a call gives that call back.
use Rattle.std.proofs.Common.{◌≡◌, ℕ, ◌+◌, ◌*◌, ◌≤◌, ◌^◌, List, [], ◌∷◌, ◌++◌, true, false, length, length-append, arith, refl, sym, ap, ◌∙◌, append_assoc, ◌<◌, ◌&&◌}
use Rattle.std.proofs.lemmas.Bool.{and_parts, false≢true, and_right}
use Rattle.std.proofs.lemmas.Bool.Decides.{nat_tests}
use Rattle.std.specs.Prelude.{nat_lt, slice_index, None, Some, replicate, nat_le, Ok}
use Rattle.sb_call.specs.Arguments.{fit, fits, fits_kind}
use Rattle.sb_call.specs.Tags.{shape_of, number_of, tag_of}
use Rattle.sb_call.specs.declared.tags.CallTag.{CallTag}
use Rattle.sb_call.specs.declared.tags.CallTag.TheVariants.{Ping, FileCreate, FileOpen, FileQuery, FileRename, PipeCreate, KeyCreate, KeyOpen, EventCreate, EventOpen, HandleClose}
use Rattle.sb_call.specs.declared.tags.ParamKind.{ParamKind}
use Rattle.sb_call.specs.declared.arguments.Arg.{Arg}
use Rattle.sb_block.specs.Copies.{whole, is_copy, is_end}
use Rattle.sb_block.specs.Packing.{offset_of}
use Rattle.sb_block.specs.Blocks.{block, encodes, has_units, contents_of, descriptors_of, end_offset}
use Rattle.sb_block.specs.Layout.{end_in, first_offset, descriptors}
use Rattle.sb_block.specs.Faults.{fault, has_bad_type, has_bad_place, has_bad_size}
use Rattle.sb_block.specs.Calls.{decoded, call_of, called}
use Rattle.sb_block.specs.Laws.{BlocksComeBack}
use Rattle.std.specs.List.{list_all}
use Rattle.sb_block.proofs.BlockLemmas.{block_len, descriptors_len, taken_front, found_after}
use Rattle.sb_block.proofs.ReadingLemmas.{nowhere, all_typed, all_placed, all_shaped, all_sized, all_named, all_back, same_equal}

-- each tag is the tag of its number
tag_back : (tag : CallTag) → tag_of (number_of tag) ≡ Some tag
tag_back Ping = refl
tag_back _ = refl

-- no call has more than six parameters
pub few_parameters : (tag : CallTag) → length (shape_of tag) ≤ 6
few_parameters Ping = omega arith
few_parameters FileCreate = omega arith
few_parameters FileOpen = omega arith
few_parameters FileQuery = omega arith
few_parameters FileRename = omega arith
few_parameters PipeCreate = omega arith
few_parameters KeyCreate = omega arith
few_parameters KeyOpen = omega arith
few_parameters EventCreate = omega arith
few_parameters EventOpen = omega arith
few_parameters HandleClose = omega arith

fit_len : (kinds : List ParamKind) (args : List Arg) → fit kinds args ≡ true → length args ≡ length kinds
fit_len [] [] f = refl
fit_len [] (a ∷ args) f = absurd (false≢true f)
fit_len (k ∷ kinds) [] f = absurd (false≢true f)
fit_len (k ∷ kinds) (a ∷ args) f = omega (arith, fit_len kinds args (and_parts (fits_kind k a) (fit kinds args) f).1)

-- what the steps below use: a block that fits in 64 words
pub record Fitting (tag : CallTag) (args : List Arg) (mark : ℕ) : Type 0 where
  pub fitting : fits tag args ≡ true
  pub room : length (block tag args mark) ≤ 64

abbrev infos_in : CallTag → List Arg → List ℕ
infos_in tag args = descriptors_of (first_offset (length args)) (shape_of tag) args

abbrev opening : CallTag → List Arg → ℕ → List ℕ
opening tag args mark = number_of tag ∷ mark ∷ length args ∷ replicate 12 0

abbrev before : CallTag → List Arg → ℕ → List ℕ
before tag args mark = (opening tag args mark ++ infos_in tag args) ++ (end_offset args * 2 ^ 16 ∷ [])

abbrev front : CallTag → List Arg → ℕ → List ℕ
front tag args mark = opening tag args mark ++ infos_in tag args

end_parts : (tag : CallTag) (args : List Arg) (mark : ℕ)
    → block tag args mark ≡ front tag args mark ++ (end_offset args * 2 ^ 16 ∷ contents_of args)
end_parts tag args mark =
    sym (append_assoc (opening tag args mark) (infos_in tag args) (end_offset args * 2 ^ 16 ∷ contents_of args))

block_parts : (tag : CallTag) (args : List Arg) (mark : ℕ) → block tag args mark ≡ before tag args mark ++ contents_of args
block_parts tag args mark =
    end_parts tag args mark ∙ sym (append_assoc (front tag args mark) (end_offset args * 2 ^ 16 ∷ []) (contents_of args))

end_of_item : (e : ℕ) → e ≤ 64 → offset_of (e * 2 ^ 16) ≡ e
end_of_item e h = omega arith

before_len : (tag : CallTag) (args : List Arg) (mark : ℕ) → fits tag args ≡ true → length (before tag args mark) ≡ first_offset (length args)
before_len tag args mark f = omega (
  arith,
  length-append (opening tag args mark ++ infos_in tag args) (end_offset args * 2 ^ 16 ∷ []),
  length-append (opening tag args mark) (infos_in tag args),
  descriptors_len (first_offset (length args)) (shape_of tag) args f,
)

room_for : (tag : CallTag) (args : List Arg) (mark : ℕ) → Fitting tag args mark → end_offset args ≤ 64
room_for tag args mark p = omega (arith, block_len tag args mark p.fitting, p.room)

few_arguments : (tag : CallTag) (args : List Arg) (mark : ℕ) → Fitting tag args mark → length args ≤ 6
few_arguments tag args mark p = omega (arith, fit_len (shape_of tag) args p.fitting, few_parameters tag)

-- the descriptors are found again
infos_back : (tag : CallTag) (args : List Arg) (mark : ℕ) → Fitting tag args mark
    → descriptors (block tag args mark) ≡ infos_in tag args
infos_back tag args mark p =
    taken_front (infos_in tag args) (end_offset args * 2 ^ 16 ∷ contents_of args) (length args)
    (descriptors_len (first_offset (length args)) (shape_of tag) args p.fitting)

-- the end is found again
end_back : (tag : CallTag) (args : List Arg) (mark : ℕ) → Fitting tag args mark
    → end_in (block tag args mark) ≡ end_offset args
end_back tag args mark p =
    let place : length (front tag args mark) ≡ 15 + length args = omega (
      arith,
      length-append (opening tag args mark) (infos_in tag args),
      descriptors_len (first_offset (length args)) (shape_of tag) args p.fitting,
    ) in
    let item : slice_index (block tag args mark) (15 + length args) ≡ end_offset args * 2 ^ 16 =
    ap (λ (ws : List ℕ). slice_index ws (15 + length args)) (end_parts tag args mark)
    ∙ found_after (front tag args mark) (contents_of args) (end_offset args * 2 ^ 16) (15 + length args) place in
    ap offset_of item ∙ end_of_item (end_offset args) (room_for tag args mark p)

counted : (tag : CallTag) (args : List Arg) (mark : ℕ) → Fitting tag args mark → nat_lt 9 (length args) ≡ false
counted tag args mark p = grind (arith, nat_tests, few_arguments tag args mark p)

ended : (tag : CallTag) (args : List Arg) (mark : ℕ) → Fitting tag args mark → is_end (length args) (end_offset args) ≡ true
ended tag args mark p = grind (arith, nat_tests, room_for tag args mark p)

-- the copy has no fault
copy_fine : (tag : CallTag) (args : List Arg) (mark : ℕ) → Fitting tag args mark → list_all has_units args ≡ true
    → fault (whole (block tag args mark)) ≡ None
copy_fine tag args mark p units =
    let room = room_for tag args mark p in
    let typed = nowhere has_bad_type (infos_in tag args) (all_typed (first_offset (length args)) (shape_of tag) args room) in
    let placed = nowhere (has_bad_place (length args) (end_offset args)) (infos_in tag args)
    (all_placed (length args) (end_offset args) (first_offset (length args)) (shape_of tag) args room (omega arith) (omega arith)) in
    let shaped = all_shaped (first_offset (length args)) (shape_of tag) args room p.fitting in
    let sized = nowhere has_bad_size (infos_in tag args) (all_sized (first_offset (length args)) (shape_of tag) args room p.fitting) in
    let named = all_named (block tag args mark) (before tag args mark) (first_offset (length args)) (shape_of tag) args
    (block_parts tag args mark) (before_len tag args mark p.fitting) room p.fitting units in
    rw (
      block_len tag args mark p.fitting,
      infos_back tag args mark p,
      end_back tag args mark p,
      tag_back tag,
      counted tag args mark p,
      ended tag args mark p,
      same_equal (length args),
      same_equal (end_offset args),
      typed,
      placed,
      shaped,
      sized,
      named,
    )
    refl

-- the copy's call is the call
call_back : (tag : CallTag) (args : List Arg) (mark : ℕ) → Fitting tag args mark → list_all has_units args ≡ true
    → call_of (whole (block tag args mark)) ≡ called tag mark args
call_back tag args mark p units =
    let back = all_back (block tag args mark) (before tag args mark) (first_offset (length args)) (shape_of tag) args
    (block_parts tag args mark) (before_len tag args mark p.fitting) (room_for tag args mark p) p.fitting units in
    rw (tag_back tag, infos_back tag args mark p, back)

is_whole_copy : (tag : CallTag) (args : List Arg) (mark : ℕ) → Fitting tag args mark
    → is_copy (whole (block tag args mark)) ≡ true
is_whole_copy tag args mark p =
    rw (block_len tag args mark p.fitting, counted tag args mark p, ended tag args mark p) (same_equal (end_offset args))

-- a call that encodes has a block that fits
pub fitting_of : (tag : CallTag) (args : List Arg) (mark : ℕ) → encodes tag args ≡ true → Fitting tag args mark
fitting_of tag args mark h =
    let parts = and_parts (fits tag args) (nat_le (length (block tag args 0)) 64) h in
    record { fitting = parts.0; room = grind (arith, nat_tests, parts.1) }

pub encoded_len : (tag : CallTag) (args : List Arg) (mark : ℕ) → encodes tag args ≡ true → length (block tag args mark) ≤ 64
encoded_len tag args mark h = (fitting_of tag args mark h).room

-- and ends within it
pub encoded_small : (tag : CallTag) (args : List Arg) → encodes tag args ≡ true → end_offset args ≤ 64
encoded_small tag args h = room_for tag args 0 (fitting_of tag args 0 h)

pub block_back : (tag : CallTag) (args : List Arg) (mark : ℕ) → Fitting tag args mark → list_all has_units args ≡ true
    → (is_copy (whole (block tag args mark)) ≡ true) × (decoded (whole (block tag args mark)) ≡ Ok (called tag mark args))
block_back tag args mark p units = (is_whole_copy tag args mark p, rw (copy_fine tag args mark p units, call_back tag args mark p units))

pub blocks_come_back : BlocksComeBack
blocks_come_back tag args mark h units = block_back tag args mark (fitting_of tag args mark h) units

-- a call whose block fits encodes, and one whose block does not fit does not
pub fits_encoded : (tag : CallTag) (args : List Arg) (mark : ℕ) → Fitting tag args mark → encodes tag args ≡ true
fits_encoded tag args mark p =
    let most : nat_le (length (block tag args 0)) 64 ≡ true = grind (arith, nat_tests, p.room) in
    rw (p.fitting, most)

pub too_big_not_encoded : (tag : CallTag) (args : List Arg) (mark : ℕ) → 64 < length (block tag args mark) → encodes tag args ≡ false
too_big_not_encoded tag args mark h =
    and_right (fits tag args) (nat_le (length (block tag args 0)) 64) (grind (arith, nat_tests, h))
