-- What is read from the words that a call was laid out in.
use Rattle.std.proofs.Common.{◌≡◌, ℕ, suc, ◌+◌, ◌/◌, ◌*◌, ◌≤◌, ◌<◌, ◌^◌, ◌%◌, List, [], ◌∷◌, ◌++◌, Bool, true, false, length, length-append, take, arith, refl, sym, ap, map, ◌∙◌, append_assoc}
use Rattle.std.proofs.Math.Seq.{take-append_seam, drop-append_seam, get_or-append_seam}
use Rattle.std.proofs.lemmas.Bool.{and_parts, false≢true}
use Rattle.std.proofs.lemmas.Bool.Decides.{nat_tests}
use Rattle.std.specs.Prelude.{not, ◌==◌, nat_lt, None}
use Rattle.std.specs.List.{list_all, position, prefix_len, flat_map}
use Rattle.sb_call.specs.Arguments.{fit, fits_kind}
use Rattle.sb_call.specs.declared.tags.ParamKind.{ParamKind}
use Rattle.sb_call.specs.declared.tags.ParamKind.TheVariants as kind
use Rattle.sb_call.specs.declared.arguments.Arg.{Arg}
use Rattle.sb_call.specs.declared.arguments.Arg.TheVariants as arg
use Rattle.sb_block.specs.Packing.{descriptor, words_for, part_of, packed, unpacked, word_units, string_in, number_in}
use Rattle.sb_block.specs.Blocks.{bytes_of, content_of, contents_of, descriptors_of}
use Rattle.sb_block.specs.Faults.{type_number, has_bad_type, has_bad_place, has_bad_size, has_shape, has_bad_name, first_bad_name}
use Rattle.sb_block.specs.Calls.{argument_in}
use Rattle.sb_base.specs.Wide.{is_unit}
use Rattle.sb_block.specs.Blocks.{has_units}
use Rattle.sb_block.proofs.PackingLemmas.{packed_len}
use Rattle.sb_block.proofs.BlockLemmas.{type_back, offset_back, size_back, content_words, bytes_small, four_back}

-- a unit is below 2^16
unit_small : (u : ℕ) → is_unit u ≡ true → u < 2 ^ 16
unit_small u h = grind (arith, nat_tests)

-- packed units are unpacked again
pub unpacked_packed : (us : List ℕ) → list_all is_unit us ≡ true → unpacked (length us) (packed us) ≡ us
unpacked_packed [] h = refl
unpacked_packed (a ∷ []) h =
    let ha = unit_small a (and_parts (is_unit a) true h).0 in
    ap (λ (xs : List ℕ). take 1 xs) (four_back a 0 0 0 ha (omega arith) (omega arith) (omega arith))
unpacked_packed (a ∷ b ∷ []) h =
    let ha = and_parts (is_unit a) (list_all is_unit (b ∷ [])) h in
    let hb = and_parts (is_unit b) true ha.1 in
    ap (λ (xs : List ℕ). take 2 xs) (four_back a b 0 0 (unit_small a ha.0) (unit_small b hb.0) (omega arith) (omega arith))
unpacked_packed (a ∷ b ∷ c ∷ []) h =
    let ha = and_parts (is_unit a) (list_all is_unit (b ∷ c ∷ [])) h in
    let hb = and_parts (is_unit b) (list_all is_unit (c ∷ [])) ha.1 in
    let hc = and_parts (is_unit c) true hb.1 in
    ap (λ (xs : List ℕ). take 3 xs)
    (four_back a b c 0 (unit_small a ha.0) (unit_small b hb.0) (unit_small c hc.0) (omega arith))
unpacked_packed (a ∷ b ∷ c ∷ d ∷ more) h =
    let ha = and_parts (is_unit a) (list_all is_unit (b ∷ c ∷ d ∷ more)) h in
    let hb = and_parts (is_unit b) (list_all is_unit (c ∷ d ∷ more)) ha.1 in
    let hc = and_parts (is_unit c) (list_all is_unit (d ∷ more)) hb.1 in
    let hd = and_parts (is_unit d) (list_all is_unit more) hc.1 in
    let four = four_back a b c d (unit_small a ha.0) (unit_small b hb.0) (unit_small c hc.0) (unit_small d hd.0) in
    ap (λ (xs : List ℕ). take (suc (suc (suc (suc (length more))))) (xs ++ flat_map word_units (packed more))) four
    ∙ ap (λ (xs : List ℕ). a ∷ b ∷ c ∷ d ∷ xs) (unpacked_packed more hd.1)

-- the front that passes everywhere is all
all_pass : (q : ℕ → Bool) (xs : List ℕ) → list_all q xs ≡ true → prefix_len q xs ≡ length xs
all_pass q [] h = refl
all_pass q (x ∷ xs) h =
    let parts = and_parts (q x) (list_all q xs) h in
    rw (parts.0, all_pass q xs parts.1) (omega arith)

pub same_equal : (n : ℕ) → (n == n) ≡ true
same_equal n = grind (arith, nat_tests)

same_not_less : (n : ℕ) → nat_lt n n ≡ false
same_not_less n = grind (arith, nat_tests)

-- nothing passes a test that fails everywhere
pub nowhere : (p : ℕ → Bool) (xs : List ℕ) → list_all (λ x. not (p x)) xs ≡ true → position p xs ≡ None
nowhere p xs h = rw (all_pass (λ x. not (p x)) xs h, same_not_less (length xs))

-- what is between two lists is found again
pub part_back : (pre xs post : List ℕ) (at n : ℕ) → length pre ≡ at → length xs ≡ n → part_of at n (pre ++ (xs ++ post)) ≡ xs
part_back pre xs post at n e h = rw (sym e, sym h, drop-append_seam pre (xs ++ post), take-append_seam xs post)

-- the string of a descriptor that was made for it
pub string_back : (pre post us : List ℕ) (t at : ℕ) → length pre ≡ at → at < 2 ^ 16 → 2 * length us < 2 ^ 16
    → list_all is_unit us ≡ true
    → string_in (descriptor t at (2 * length us)) (pre ++ (packed us ++ post)) ≡ us
string_back pre post us t at e ha hs h =
    let o = offset_back t at (2 * length us) ha hs in
    let s = size_back t at (2 * length us) ha hs in
    let half : 2 * length us / 2 ≡ length us = omega arith in
    let words : length (packed us) ≡ words_for (2 * length us) = omega (arith, packed_len us) in
    rw (o, s, half, part_back pre (packed us) post at (words_for (2 * length us)) e words) (unpacked_packed us h)

-- the number of a descriptor that was made for it
pub number_back : (pre post : List ℕ) (t at s n : ℕ) → length pre ≡ at → at < 2 ^ 16 → s < 2 ^ 16
    → number_in (descriptor t at s) (pre ++ (n ∷ post)) ≡ n
number_back pre post t at s n e ha hs =
    rw (offset_back t at s ha hs, sym e, get_or-append_seam pre n post 0)

-- the argument of a descriptor that was made for it
pub argument_back : (pre post : List ℕ) (k : ParamKind) (a : Arg) (at : ℕ) → length pre ≡ at → at < 2 ^ 16
    → bytes_of k a < 2 ^ 16 → fits_kind k a ≡ true → has_units a ≡ true
    → argument_in (pre ++ (content_of a ++ post)) (descriptor (type_number k) at (bytes_of k a)) ≡ a
argument_back pre post kind.Text (arg.Str us) at e ha hs f h =
    rw (type_back 1 at (2 * length us) ha hs) (ap arg.Str (string_back pre post us 1 at e ha hs h))
argument_back pre post kind.Name (arg.Str us) at e ha hs f h =
    rw (type_back 1 at (2 * length us) ha hs) (ap arg.Str (string_back pre post us 1 at e ha hs h))
argument_back pre post kind.Num (arg.Str us) at e ha hs f h = absurd (false≢true f)
argument_back pre post kind.Handle (arg.Str us) at e ha hs f h = absurd (false≢true f)
argument_back pre post kind.Text (arg.Num n) at e ha hs f h = absurd (false≢true f)
argument_back pre post kind.Name (arg.Num n) at e ha hs f h = absurd (false≢true f)
argument_back pre post kind.Num (arg.Num n) at e ha hs f h =
    let low : n % 2 ^ 32 ≡ n = grind (arith, nat_tests) in
    rw (type_back 2 at 4 ha hs, number_back pre post 2 at 4 n e ha hs, low)
argument_back pre post kind.Handle (arg.Num n) at e ha hs f h =
    rw (type_back 3 at 8 ha hs, number_back pre post 3 at 8 n e ha hs)

-- a descriptor that was made has its parts
is_typed : (k : ParamKind) (at s : ℕ) → at < 2 ^ 16 → s < 2 ^ 16 → not (has_bad_type (descriptor (type_number k) at s)) ≡ true
is_typed kind.Text at s ha hs = rw (type_back 1 at s ha hs)
is_typed kind.Name at s ha hs = rw (type_back 1 at s ha hs)
is_typed kind.Num at s ha hs = rw (type_back 2 at s ha hs)
is_typed kind.Handle at s ha hs = rw (type_back 3 at s ha hs)

is_placed : (count end t at s : ℕ) → at < 2 ^ 16 → s < 2 ^ 16 → 16 + count ≤ at → at + words_for s ≤ end
    → not (has_bad_place count end (descriptor t at s)) ≡ true
is_placed count end t at s ha hs low high = rw (offset_back t at s ha hs, size_back t at s ha hs) (grind (arith, nat_tests))

pub even_size : (n : ℕ) → 2 * n % 2 ≡ 0
even_size n = omega arith

is_sized : (k : ParamKind) (a : Arg) (at : ℕ) → at < 2 ^ 16 → bytes_of k a < 2 ^ 16 → fits_kind k a ≡ true
    → not (has_bad_size (descriptor (type_number k) at (bytes_of k a))) ≡ true
is_sized kind.Text (arg.Str us) at ha hs f = rw (type_back 1 at (2 * length us) ha hs, size_back 1 at (2 * length us) ha hs, even_size (length us))
is_sized kind.Name (arg.Str us) at ha hs f = rw (type_back 1 at (2 * length us) ha hs, size_back 1 at (2 * length us) ha hs, even_size (length us))
is_sized kind.Num (arg.Str us) at ha hs f = absurd (false≢true f)
is_sized kind.Handle (arg.Str us) at ha hs f = absurd (false≢true f)
is_sized kind.Text (arg.Num n) at ha hs f = absurd (false≢true f)
is_sized kind.Name (arg.Num n) at ha hs f = absurd (false≢true f)
is_sized kind.Num (arg.Num n) at ha hs f = rw (type_back 2 at 4 ha hs, size_back 2 at 4 ha hs)
is_sized kind.Handle (arg.Num n) at ha hs f = rw (type_back 3 at 8 ha hs, size_back 3 at 8 ha hs)

is_named : (pre post : List ℕ) (k : ParamKind) (a : Arg) (at : ℕ) → length pre ≡ at → at < 2 ^ 16
    → bytes_of k a < 2 ^ 16 → fits_kind k a ≡ true → has_units a ≡ true
    → has_bad_name k (descriptor (type_number k) at (bytes_of k a)) (pre ++ (content_of a ++ post)) ≡ false
is_named pre post kind.Text a at e ha hs f h = refl
is_named pre post kind.Num a at e ha hs f h = refl
is_named pre post kind.Handle a at e ha hs f h = refl
is_named pre post kind.Name (arg.Num n) at e ha hs f h = absurd (false≢true f)
is_named pre post kind.Name (arg.Str us) at e ha hs f h = rw (string_back pre post us 1 at e ha hs h, f)

-- what room at an offset means for the first argument and for the others
record Room (at : ℕ) (k : ParamKind) (a : Arg) (args : List Arg) : Type 0 where
  low : at < 2 ^ 16
  few : bytes_of k a < 2 ^ 16
  rest : at + length (content_of a) + length (contents_of args) ≤ 64

room_of : (at : ℕ) (k : ParamKind) (a : Arg) (args : List Arg) → at + length (contents_of (a ∷ args)) ≤ 64 → Room at k a args
room_of at k a args h =
    let sum = length-append (content_of a) (contents_of args) in
    record {
      low = omega arith;
      few = bytes_small k a (omega arith);
      rest = omega arith;
    }

-- all types are known
pub all_typed : (at : ℕ) (kinds : List ParamKind) (args : List Arg) → at + length (contents_of args) ≤ 64
    → list_all (λ x. not (has_bad_type x)) (descriptors_of at kinds args) ≡ true
all_typed at [] args h = refl
all_typed at (k ∷ kinds) [] h = refl
all_typed at (k ∷ kinds) (a ∷ args) h =
    let room = room_of at k a args h in
    rw (is_typed k at (bytes_of k a) room.low room.few, all_typed (at + length (content_of a)) kinds args room.rest)

-- all parameters are in place
pub all_placed : (count end at : ℕ) (kinds : List ParamKind) (args : List Arg) → at + length (contents_of args) ≤ 64
    → 16 + count ≤ at → at + length (contents_of args) ≤ end
    → list_all (λ x. not (has_bad_place count end x)) (descriptors_of at kinds args) ≡ true
all_placed count end at [] args h low high = refl
all_placed count end at (k ∷ kinds) [] h low high = refl
all_placed count end at (k ∷ kinds) (a ∷ args) h low high =
    let room = room_of at k a args h in
    let sum = length-append (content_of a) (contents_of args) in
    let words = content_words k a in
    let here = is_placed count end (type_number k) at (bytes_of k a) room.low room.few low (omega arith) in
    rw (here, all_placed count end (at + length (content_of a)) kinds args room.rest (omega arith) (omega arith))

-- the types are those of the kinds
pub all_shaped : (at : ℕ) (kinds : List ParamKind) (args : List Arg) → at + length (contents_of args) ≤ 64
    → fit kinds args ≡ true → has_shape kinds (descriptors_of at kinds args) ≡ true
all_shaped at [] [] h f = refl
all_shaped at [] (a ∷ args) h f = absurd (false≢true f)
all_shaped at (k ∷ kinds) [] h f = absurd (false≢true f)
all_shaped at (k ∷ kinds) (a ∷ args) h f =
    let room = room_of at k a args h in
    let parts = and_parts (fits_kind k a) (fit kinds args) f in
    rw (
      type_back (type_number k) at (bytes_of k a) room.low room.few,
      same_equal (type_number k),
      all_shaped (at + length (content_of a)) kinds args room.rest parts.1,
    )

-- all sizes are right
pub all_sized : (at : ℕ) (kinds : List ParamKind) (args : List Arg) → at + length (contents_of args) ≤ 64
    → fit kinds args ≡ true → list_all (λ x. not (has_bad_size x)) (descriptors_of at kinds args) ≡ true
all_sized at [] args h f = refl
all_sized at (k ∷ kinds) [] h f = refl
all_sized at (k ∷ kinds) (a ∷ args) h f =
    let room = room_of at k a args h in
    let parts = and_parts (fits_kind k a) (fit kinds args) f in
    rw (is_sized k a at room.low room.few parts.0, all_sized (at + length (content_of a)) kinds args room.rest parts.1)

-- the words before the other arguments are those before the first and its own
moved : (ws pre : List ℕ) (a : Arg) (args : List Arg) → ws ≡ pre ++ contents_of (a ∷ args)
    → ws ≡ (pre ++ content_of a) ++ contents_of args
moved ws pre a args e = e ∙ sym (append_assoc pre (content_of a) (contents_of args))

further : (pre : List ℕ) (a : Arg) (at : ℕ) → length pre ≡ at → length (pre ++ content_of a) ≡ at + length (content_of a)
further pre a at e = omega (arith, length-append pre (content_of a))

-- what ought to be a name is one
pub all_named : (ws pre : List ℕ) (at : ℕ) (kinds : List ParamKind) (args : List Arg) → ws ≡ pre ++ contents_of args
    → length pre ≡ at → at + length (contents_of args) ≤ 64 → fit kinds args ≡ true → list_all has_units args ≡ true
    → first_bad_name kinds (descriptors_of at kinds args) ws ≡ None
all_named ws pre at [] args w e h f u = refl
all_named ws pre at (k ∷ kinds) [] w e h f u = refl
all_named ws pre at (k ∷ kinds) (a ∷ args) w e h f u =
    let room = room_of at k a args h in
    let fitting = and_parts (fits_kind k a) (fit kinds args) f in
    let units = and_parts (has_units a) (list_all has_units args) u in
    let here = is_named pre (contents_of args) k a at e room.low room.few fitting.0 units.0 in
    let here_too : has_bad_name k (descriptor (type_number k) at (bytes_of k a)) ws ≡ false = rw w here in
    rw (
      here_too,
      all_named ws (pre ++ content_of a) (at + length (content_of a)) kinds args (moved ws pre a args w)
          (further pre a at e) room.rest fitting.1 units.1,
    )

-- the arguments come back
pub all_back : (ws pre : List ℕ) (at : ℕ) (kinds : List ParamKind) (args : List Arg) → ws ≡ pre ++ contents_of args
    → length pre ≡ at → at + length (contents_of args) ≤ 64 → fit kinds args ≡ true → list_all has_units args ≡ true
    → map (argument_in ws) (descriptors_of at kinds args) ≡ args
all_back ws pre at [] [] w e h f u = refl
all_back ws pre at [] (a ∷ args) w e h f u = absurd (false≢true f)
all_back ws pre at (k ∷ kinds) [] w e h f u = absurd (false≢true f)
all_back ws pre at (k ∷ kinds) (a ∷ args) w e h f u =
    let room = room_of at k a args h in
    let fitting = and_parts (fits_kind k a) (fit kinds args) f in
    let units = and_parts (has_units a) (list_all has_units args) u in
    let here = argument_back pre (contents_of args) k a at e room.low room.few fitting.0 units.0 in
    let here_too : argument_in ws (descriptor (type_number k) at (bytes_of k a)) ≡ a = rw w here in
    let others = all_back ws (pre ++ content_of a) (at + length (content_of a)) kinds args (moved ws pre a args w)
    (further pre a at e) room.rest fitting.1 units.1 in
    rw (here_too, others)
