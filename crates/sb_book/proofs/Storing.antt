-- Entries that are stored: what a row reads stays when the buffers grow, and what was appended is a new row's.
use Rattle.std.proofs.Common.{◌≡◌, ◌∙◌, ℕ, ◌+◌, ◌<◌, ◌≤◌, Bool, true, List, [], ◌∷◌, ◌++◌, length, map, take, drop, refl, sym, ap, subst, zero, suc, arith, append_assoc, get_or}
use Rattle.std.proofs.lemmas.Bool.{and_from, and_parts}
use Rattle.std.proofs.lemmas.Bool.Decides.{nat_tests}
use Rattle.std.specs.Prelude.{⊤, ◌&&◌, nat_le, nat_lt, slice_get, option_map}
use Rattle.std.specs.List.{All, list_all}
use Rattle.std.proofs.lemmas.List.{append-nil, length-append, length-drop, drop-append-le, take-append-le, take_all, length-map, map-append, take-map}
use Rattle.std.proofs.lemmas.List.Elements.{All-take}
use Rattle.std.proofs.lemmas.Option.{slice_get-map}
use Rattle.std.proofs.Math.Seq.{drop-append_seam, take-append_seam, take-length}
use Rattle.sb_call.specs.declared.arguments.Arg.{Arg}
use Rattle.sb_call.specs.declared.arguments.Arg.TheVariants.{Num, Str}
use Rattle.sb_call.specs.declared.replies.Reply.{Reply}
use Rattle.sb_block.specs.Copies.{Copied, copied, is_copy}
use Rattle.sb_block.specs.Layout.{most_words}
use Rattle.sb_book.specs.Rulings.{args_of, decision_with, ruling_of}
use Rattle.sb_book.specs.StoredArgs.{arg_rows, arg_units, has_units, part, stored_arg}
use Rattle.sb_book.specs.Stores.{Buffers, IsCut, Room, arg_rows_in, buffers, copy_in, entry_with, is_room, stored_entry}
use Rattle.sb_book.specs.declared.decisions.Decision.{Decision}
use Rattle.sb_book.specs.declared.decisions.Decision.TheVariants.{Refused, Denied, Faked, Performed}
use Rattle.sb_book.specs.declared.stored_args.ArgRow.{ArgRow}
use Rattle.sb_book.specs.declared.stored_args.ArgRow.TheVariants as row
use Rattle.sb_book.specs.declared.stores.EntryRow.{EntryRow}

-- ---- parts of a buffer

-- a part stays when its buffer grows
part_stays : {X : Type 0} (xs ys : List X) (first count : ℕ) → first + count ≤ length xs → part (xs ++ ys) first count ≡ part xs first count
part_stays xs ys first count h =
    let len = length-drop first xs in
    ap (take count) (drop-append-le first xs ys (omega (arith, h))) ∙ take-append-le count (drop first xs) ys (omega (arith, h, len))

-- what was appended is the part at the end
part_new : {X : Type 0} (xs ys : List X) → part (xs ++ ys) (length xs) (length ys) ≡ ys
part_new xs ys = ap (take (length ys)) (drop-append_seam xs ys) ∙ take-length ys

-- and what is between two others is the part there
part_between : {X : Type 0} (xs ys zs : List X) → part (xs ++ (ys ++ zs)) (length xs) (length ys) ≡ ys
part_between xs ys zs = ap (take (length ys)) (drop-append_seam xs (ys ++ zs)) ∙ take-append_seam ys zs

-- ---- arguments

-- an argument stays when units are appended
arg_stays : (us vs : List ℕ) (r : ArgRow) → has_units us r ≡ true → stored_arg (us ++ vs) r ≡ stored_arg us r
arg_stays us vs (row.Num number) h = refl
arg_stays us vs (row.Str first len) h =
    let within : first + len ≤ length us = grind (arith, nat_tests, h) in
    ap Str (part_stays us vs first len within)

units_stay : (us vs : List ℕ) (r : ArgRow) → has_units us r ≡ true → has_units (us ++ vs) r ≡ true
units_stay us vs (row.Num number) h = refl
units_stay us vs (row.Str first len) h = let more = length-append us vs in grind (arith, nat_tests, h, more)

-- so do several
args_stay : (us vs : List ℕ) (rows : List ArgRow) → list_all (has_units us) rows ≡ true → map (stored_arg (us ++ vs)) rows ≡ map (stored_arg us) rows
args_stay us vs [] h = refl
args_stay us vs (r ∷ rows) h =
    let both = and_parts (has_units us r) (list_all (has_units us) rows) h in
    ap (λ a. a ∷ map (stored_arg (us ++ vs)) rows) (arg_stays us vs r both.0) ∙ ap (λ more. stored_arg us r ∷ more) (args_stay us vs rows both.1)

all_units_stay : (us vs : List ℕ) (rows : List ArgRow) → list_all (has_units us) rows ≡ true → list_all (has_units (us ++ vs)) rows ≡ true
all_units_stay us vs [] h = refl
all_units_stay us vs (r ∷ rows) h =
    let both = and_parts (has_units us r) (list_all (has_units us) rows) h in
    and_from (has_units (us ++ vs) r) (list_all (has_units (us ++ vs)) rows) (units_stay us vs r both.0) (all_units_stay us vs rows both.1)

-- units in the buffer before those of the later arguments
shifted : (us s more vs : List ℕ) → us ++ ((s ++ more) ++ vs) ≡ (us ++ s) ++ (more ++ vs)
shifted us s more vs = simp append_assoc

-- the rows of arguments whose units were appended are those arguments
args_back : (us : List ℕ) (args : List Arg) (vs : List ℕ) → map (stored_arg (us ++ (arg_units args ++ vs))) (arg_rows (length us) args) ≡ args
args_back us [] vs = refl
args_back us (Num number ∷ args) vs = ap (λ more. Num number ∷ more) (args_back us args vs)
args_back us (Str s ∷ args) vs =
    let all : List ℕ = us ++ ((s ++ arg_units args) ++ vs) in
    let own : part all (length us) (length s) ≡ s =
    ap (λ xs. part (us ++ xs) (length us) (length s)) (append_assoc s (arg_units args) vs) ∙ part_between us s (arg_units args ++ vs) in
    let later : map (stored_arg all) (arg_rows (length us + length s) args) ≡ args =
    ap (λ xs. map (stored_arg xs) (arg_rows (length us + length s) args)) (shifted us s (arg_units args) vs)
    ∙ ap (λ n. map (stored_arg ((us ++ s) ++ (arg_units args ++ vs))) (arg_rows n args)) (sym (length-append us s)) ∙ args_back (us ++ s) args vs in
    ap (λ a. Str a ∷ map (stored_arg all) (arg_rows (length us + length s) args)) own ∙ ap (λ more. Str s ∷ more) later

units_back : (us : List ℕ) (args : List Arg) (vs : List ℕ) → list_all (has_units (us ++ (arg_units args ++ vs))) (arg_rows (length us) args) ≡ true
units_back us [] vs = refl
units_back us (Num number ∷ args) vs = units_back us args vs
units_back us (Str s ∷ args) vs =
    let all : List ℕ = us ++ ((s ++ arg_units args) ++ vs) in
    let one = length-append us ((s ++ arg_units args) ++ vs) in
    let two = length-append (s ++ arg_units args) vs in
    let three = length-append s (arg_units args) in
    let own : nat_le (length us + length s) (length all) ≡ true = grind (arith, nat_tests, one, two, three) in
    let later : list_all (has_units all) (arg_rows (length us + length s) args) ≡ true =
    ap (λ xs. list_all (has_units xs) (arg_rows (length us + length s) args)) (shifted us s (arg_units args) vs)
    ∙ ap (λ n. list_all (has_units ((us ++ s) ++ (arg_units args ++ vs))) (arg_rows n args)) (sym (length-append us s)) ∙ units_back (us ++ s) args vs in
    and_from (nat_le (length us + length s) (length all)) (list_all (has_units all) (arg_rows (length us + length s) args)) own later

rows_length : (first : ℕ) (args : List Arg) → length (arg_rows first args) ≡ length args
rows_length first [] = refl
rows_length first (Num number ∷ args) = ap suc (rows_length first args)
rows_length first (Str s ∷ args) = ap suc (rows_length (first + length s) args)

-- the first argument of a list of rows, and the others
pub first_has_units : (us : List ℕ) (r : ArgRow) (rows : List ArgRow) → list_all (has_units us) (r ∷ rows) ≡ true → has_units us r ≡ true
first_has_units us r rows h = (and_parts (has_units us r) (list_all (has_units us) rows) h).0

pub rest_has_units : (us : List ℕ) (r : ArgRow) (rows : List ArgRow) → list_all (has_units us) (r ∷ rows) ≡ true → list_all (has_units us) rows ≡ true
rest_has_units us r rows h = (and_parts (has_units us r) (list_all (has_units us) rows) h).1

-- ---- buffers that grow

-- the buffers with more words, arguments and units
abbrev pub with_more : Buffers → List ℕ → List ArgRow → List ℕ → Buffers
with_more b words args units = buffers (b.words ++ words) (b.args ++ args) (b.units ++ units)

copy_stays : (b : Buffers) (ws : List ℕ) (more : List ArgRow) (us : List ℕ) (r : EntryRow) → IsCut b r → copy_in (with_more b ws more us) r ≡ copy_in b r
copy_stays b ws more us r h = ap (copied r.count r.end) (part_stays b.words ws r.first_word r.word_count h.words)

rows_stay : (b : Buffers) (ws : List ℕ) (more : List ArgRow) (us : List ℕ) (r : EntryRow) → IsCut b r → arg_rows_in (with_more b ws more us) r ≡ arg_rows_in b r
rows_stay b ws more us r h = part_stays b.args more r.first_arg r.arg_count h.args

entry_stays : (b : Buffers) (ws : List ℕ) (more : List ArgRow) (us : List ℕ) (r : EntryRow) → IsCut b r → stored_entry (with_more b ws more us) r ≡ stored_entry b r
entry_stays b ws more us r h =
    let args : map (stored_arg (b.units ++ us)) (arg_rows_in (with_more b ws more us) r) ≡ map (stored_arg b.units) (arg_rows_in b r) =
    ap (map (stored_arg (b.units ++ us))) (rows_stay b ws more us r h) ∙ args_stay b.units us (arg_rows_in b r) h.units in
    rw (copy_stays b ws more us r h, args) refl

cut_stays : (b : Buffers) (ws : List ℕ) (more : List ArgRow) (us : List ℕ) (r : EntryRow) → IsCut b r → IsCut (with_more b ws more us) r
cut_stays b ws more us r h =
    let words = h.words in
    let args = h.args in
    record {
      words = omega (arith, length-append b.words ws, words);
      args = omega (arith, length-append b.args more, args);
      units = ap (list_all (has_units (b.units ++ us))) (rows_stay b ws more us r h) ∙ all_units_stay b.units us (arg_rows_in b r) h.units;
      most = h.most;
      rule = ap is_copy (copy_stays b ws more us r h) ∙ h.rule;
    }

-- each of these rows is cut from the buffers
abbrev AreCut : Buffers → List EntryRow → Type 0
AreCut b [] = ⊤
AreCut b (r ∷ rows) = IsCut b r × AreCut b rows

by_rows : (b : Buffers) (rows : List EntryRow) → All (IsCut b) rows → AreCut b rows
by_rows b [] h = tt
by_rows b (r ∷ rows) h = (h 0 r (omega arith), by_rows b rows (λ k d i. h (suc k) d (omega (arith, i))))

at_place : (b : Buffers) (rows : List EntryRow) (r : EntryRow) → IsCut b r → All (IsCut b) rows → (k : ℕ) (d : EntryRow) → k < suc (length rows)
    → IsCut b (get_or (r ∷ rows) k d)
at_place b rows r own h zero d i = own
at_place b rows r own h (suc k) d i = h k d (omega (arith, i))

by_place : (b : Buffers) (rows : List EntryRow) → AreCut b rows → All (IsCut b) rows
by_place b [] h = λ k d i. absurd (omega (arith, i))
by_place b (r ∷ rows) h = at_place b rows r h.0 (by_place b rows h.1)

entries_stay : (b : Buffers) (ws : List ℕ) (more : List ArgRow) (us : List ℕ) (rows : List EntryRow) → AreCut b rows
    → map (stored_entry (with_more b ws more us)) rows ≡ map (stored_entry b) rows
entries_stay b ws more us [] h = refl
entries_stay b ws more us (r ∷ rows) h =
    ap (λ e. e ∷ map (stored_entry (with_more b ws more us)) rows) (entry_stays b ws more us r h.0)
    ∙ ap (λ es. stored_entry b r ∷ es) (entries_stay b ws more us rows h.1)

cuts_append : (b : Buffers) (ws : List ℕ) (more : List ArgRow) (us : List ℕ) (rows : List EntryRow) (r : EntryRow) → AreCut b rows
    → IsCut (with_more b ws more us) r → AreCut (with_more b ws more us) (rows ++ r ∷ [])
cuts_append b ws more us [] r h own = (own, tt)
cuts_append b ws more us (x ∷ rows) r h own = (cut_stays b ws more us x h.0, cuts_append b ws more us rows r h.1 own)

-- ---- the row of an entry that was appended

-- the buffers after an entry with these words and arguments
abbrev pub after_entry : Buffers → List ℕ → List Arg → Buffers
after_entry b words args = with_more b words (arg_rows (length b.units) args) (arg_units args)

-- a row that was made for an entry before its words and arguments were appended
pub record IsNewRow (b : Buffers) (r : EntryRow) (taken : Copied) (args : List Arg) : Type 0 where
  pub count : r.count ≡ taken.count_seen
  pub end : r.end ≡ taken.end_seen
  pub first_word : r.first_word ≡ length b.words
  pub word_count : r.word_count ≡ length taken.words
  pub first_arg : r.first_arg ≡ length b.args
  pub arg_count : r.arg_count ≡ length args

new_words : (b : Buffers) (r : EntryRow) (taken : Copied) (args : List Arg) → IsNewRow b r taken args
    → part (b.words ++ taken.words) r.first_word r.word_count ≡ taken.words
new_words b r taken args h = rw (h.first_word, h.word_count) (part_new b.words taken.words)

new_copy : (b : Buffers) (r : EntryRow) (taken : Copied) (args : List Arg) → IsNewRow b r taken args → copy_in (after_entry b taken.words args) r ≡ taken
new_copy b r taken args h = rw (h.count, h.end, new_words b r taken args h) refl

new_rows : (b : Buffers) (r : EntryRow) (taken : Copied) (args : List Arg) → IsNewRow b r taken args
    → arg_rows_in (after_entry b taken.words args) r ≡ arg_rows (length b.units) args
new_rows b r taken args h =
    rw (h.first_arg, h.arg_count) (ap (part (b.args ++ arg_rows (length b.units) args) (length b.args)) (sym (rows_length (length b.units) args))
    ∙ part_new b.args (arg_rows (length b.units) args))

new_args : (b : Buffers) (r : EntryRow) (taken : Copied) (args : List Arg) → IsNewRow b r taken args
    → map (stored_arg (b.units ++ arg_units args)) (arg_rows_in (after_entry b taken.words args) r) ≡ args
new_args b r taken args h =
    ap (map (stored_arg (b.units ++ arg_units args))) (new_rows b r taken args h)
    ∙ ap (λ us. map (stored_arg (b.units ++ us)) (arg_rows (length b.units) args)) (sym (append-nil (arg_units args))) ∙ args_back b.units args []

new_cut : (b : Buffers) (r : EntryRow) (taken : Copied) (args : List Arg) → IsNewRow b r taken args → length taken.words ≤ most_words → is_copy taken ≡ true
    → IsCut (after_entry b taken.words args) r
new_cut b r taken args h most rule =
    let first_word = h.first_word in
    let word_count = h.word_count in
    let first_arg = h.first_arg in
    let arg_count = h.arg_count in
    record {
      words = omega (arith, length-append b.words taken.words, first_word, word_count);
      args = omega (arith, length-append b.args (arg_rows (length b.units) args), rows_length (length b.units) args, first_arg, arg_count);
      units = ap (list_all (has_units (b.units ++ arg_units args))) (new_rows b r taken args h)
          ∙ ap (λ us. list_all (has_units (b.units ++ us)) (arg_rows (length b.units) args)) (sym (append-nil (arg_units args))) ∙ units_back b.units args [];
      most = omega (arith, word_count, most);
      rule = ap is_copy (new_copy b r taken args h) ∙ rule;
    }

-- a decision is its ruling with its arguments
pub whole_decision : (d : Decision) → decision_with (ruling_of d) (args_of d) ≡ d
whole_decision (Refused fault) = refl
whole_decision (Denied tag verdict) = refl
whole_decision (Faked tag line) = refl
whole_decision (Performed tag line action args) = refl

-- the entries with one more
pub stored_with : (b : Buffers) (rows : List EntryRow) (r : EntryRow) (target channel : ℕ) (taken : Copied) (decision : Decision) (reply : Reply)
    → All (IsCut b) rows → IsNewRow b r taken (args_of decision)
    → r.target ≡ target → r.channel ≡ channel → r.ruling ≡ ruling_of decision → r.reply ≡ reply
    → map (stored_entry (after_entry b taken.words (args_of decision))) (rows ++ r ∷ [])
    ≡ map (stored_entry b) rows ++ entry_with target channel taken decision reply ∷ []
stored_with b rows r target channel taken decision reply h new t ch d re =
    let args : List Arg = args_of decision in
    let own : stored_entry (after_entry b taken.words args) r ≡ entry_with target channel taken decision reply =
    rw (new_copy b r taken args new, new_args b r taken args new, t, ch, d, re, whole_decision decision) refl in
    map-append (stored_entry (after_entry b taken.words args)) rows (r ∷ [])
    ∙ ap (λ es. es ++ stored_entry (after_entry b taken.words args) r ∷ [])
    (entries_stay b taken.words (arg_rows (length b.units) args) (arg_units args) rows (by_rows b rows h))
    ∙ ap (λ e. map (stored_entry b) rows ++ e ∷ []) own

pub cut_more : (b : Buffers) (rows : List EntryRow) (r : EntryRow) (taken : Copied) (args : List Arg)
    → All (IsCut b) rows → IsNewRow b r taken args → length taken.words ≤ most_words → is_copy taken ≡ true
    → All (IsCut (after_entry b taken.words args)) (rows ++ r ∷ [])
cut_more b rows r taken args h new most rule =
    by_place (after_entry b taken.words args) (rows ++ r ∷ [])
    (cuts_append b taken.words (arg_rows (length b.units) args) (arg_units args) rows r (by_rows b rows h) (new_cut b r taken args new most rule))

-- ---- rows of a list

-- the first row and the others
pub first_is_cut : (b : Buffers) (rows later : List EntryRow) (r : EntryRow) → rows ≡ r ∷ later → All (IsCut b) rows → IsCut b r
first_is_cut b rows later r e h = (by_rows b (r ∷ later) (subst (All (IsCut b)) e h)).0

pub rest_is_cut : (b : Buffers) (rows later : List EntryRow) (r : EntryRow) → rows ≡ r ∷ later → All (IsCut b) rows → All (IsCut b) later
rest_is_cut b rows later r e h = by_place b later (by_rows b (r ∷ later) (subst (All (IsCut b)) e h)).1

-- the entry at a place
pub stored_at : (b : Buffers) (rows : List EntryRow) (n : ℕ) → slice_get (map (stored_entry b) rows) n ≡ option_map (stored_entry b) (slice_get rows n)
stored_at b rows n = slice_get-map (stored_entry b) rows n

-- there are as many entries as rows
pub as_many : (b : Buffers) (rows : List EntryRow) → length (map (stored_entry b) rows) ≡ length rows
as_many b rows = length-map rows (stored_entry b)

-- the rows before a place
pub front_is_cut : (b : Buffers) (n : ℕ) (rows : List EntryRow) → All (IsCut b) rows → All (IsCut b) (take n rows)
front_is_cut b n rows h = All-take (IsCut b) n rows h

pub front_stored : (b : Buffers) (n : ℕ) (rows : List EntryRow) → map (stored_entry b) (take n rows) ≡ take n (map (stored_entry b) rows)
front_stored b n rows = sym (take-map (stored_entry b) n rows)

pub front_is_all : (n : ℕ) (rows : List EntryRow) → length rows ≤ n → rows ≡ take n rows
front_is_all n rows h = sym (take_all n rows h)

-- ---- room

-- room that was made, and what it has room for
pub room_made : (args : List Arg) (room : Room) → room.rows < room.rows_capacity → room.words + most_words ≤ room.words_capacity
    → room.args + length args ≤ room.args_capacity → room.units + length (arg_units args) ≤ room.units_capacity → is_room args room ≡ true
room_made args room row words more strings = grind (arith, nat_tests, row, words, more, strings)

record IsRoom (granted : List Arg) (room : Room) : Type 0 where
  row : room.rows < room.rows_capacity
  words : room.words + most_words ≤ room.words_capacity
  args : room.args + length granted ≤ room.args_capacity
  units : room.units + length (arg_units granted) ≤ room.units_capacity

room_parts : (granted : List Arg) (room : Room) → is_room granted room ≡ true → IsRoom granted room
room_parts granted room h =
    let words : Bool = nat_le (room.words + most_words) room.words_capacity in
    let args : Bool = nat_le (room.args + length granted) room.args_capacity in
    let units : Bool = nat_le (room.units + length (arg_units granted)) room.units_capacity in
    let one = and_parts (nat_lt room.rows room.rows_capacity) (words && (args && units)) h in
    let two = and_parts words (args && units) one.1 in
    let three = and_parts args units two.1 in
    let a = one.0 in
    let b = two.0 in
    let c = three.0 in
    let d = three.1 in
    record {
      row = grind (arith, nat_tests, a);
      words = grind (arith, nat_tests, b);
      args = grind (arith, nat_tests, c);
      units = grind (arith, nat_tests, d);
    }

pub room_for_row : (args : List Arg) (room : Room) → is_room args room ≡ true → room.rows < room.rows_capacity
room_for_row args room h = (room_parts args room h).row

pub room_for_words : (args : List Arg) (room : Room) → is_room args room ≡ true → room.words + most_words ≤ room.words_capacity
room_for_words args room h = (room_parts args room h).words

pub room_for_args : (args : List Arg) (room : Room) → is_room args room ≡ true → room.args + length args ≤ room.args_capacity
room_for_args args room h = (room_parts args room h).args

pub room_for_units : (args : List Arg) (room : Room) → is_room args room ≡ true → room.units + length (arg_units args) ≤ room.units_capacity
room_for_units args room h = (room_parts args room h).units
