-- Entries as they are stored: a row for each, and three buffers, with the words of all copies, all arguments, and the units of their strings.
use Rattle.std.specs.Prelude.{◌≡◌, ℕ, ◌+◌, ◌≤◌, Bool, true, ◌&&◌, nat_lt, nat_le, List, length, map}
use Rattle.std.specs.List.{list_all}
use Rattle.sb_call.specs.declared.arguments.Arg.{Arg}
use Rattle.sb_call.specs.declared.replies.Reply.{Reply}
use Rattle.sb_block.specs.Copies.{Copied, copied, is_copy}
use Rattle.sb_block.specs.Layout.{most_words}
use Rattle.sb_book.specs.Rulings.{decision_with}
use Rattle.sb_book.specs.StoredArgs.{arg_units, has_units, part, stored_arg}
use Rattle.sb_book.specs.declared.decisions.Decision.{Decision}
use Rattle.sb_book.specs.declared.entries.Entry.{Entry}
use Rattle.sb_book.specs.declared.stored_args.ArgRow.{ArgRow}
use Rattle.sb_book.specs.declared.stores.EntryRow.{EntryRow}

-- an entry of its parts
abbrev pub entry_with : ℕ → ℕ → Copied → Decision → Reply → Entry
entry_with target channel taken decision reply = record { target = target; channel = channel; taken = taken; decision = decision; reply = reply }

-- the words of copies, the arguments, and the units of strings
pub record Buffers : Type 0 where
  pub words : List ℕ
  pub args : List ArgRow
  pub units : List ℕ

abbrev pub buffers : List ℕ → List ArgRow → List ℕ → Buffers
buffers words args units = record { words = words; args = args; units = units }

-- the copy of a row
abbrev pub copy_in : Buffers → EntryRow → Copied
copy_in b r = copied r.count r.end (part b.words r.first_word r.word_count)

-- the rows of its arguments
abbrev pub arg_rows_in : Buffers → EntryRow → List ArgRow
arg_rows_in b r = part b.args r.first_arg r.arg_count

-- the entry of a row
abbrev pub stored_entry : Buffers → EntryRow → Entry
stored_entry b r = entry_with r.target r.channel (copy_in b r) (decision_with r.ruling (map (stored_arg b.units) (arg_rows_in b r))) r.reply

-- what a row needs is in the buffers, and its copy keeps the rule of copies
pub record IsCut (b : Buffers) (r : EntryRow) : Type 0 where
  pub words : r.first_word + r.word_count ≤ length b.words
  pub args : r.first_arg + r.arg_count ≤ length b.args
  pub units : list_all (has_units b.units) (arg_rows_in b r) ≡ true
  pub most : r.word_count ≤ most_words
  pub rule : is_copy (copy_in b r) ≡ true

-- how many rows, words, arguments and units there are, and for how many there is room
pub record Room : Type 0 where
  pub rows : ℕ
  pub rows_capacity : ℕ
  pub words : ℕ
  pub words_capacity : ℕ
  pub args : ℕ
  pub args_capacity : ℕ
  pub units : ℕ
  pub units_capacity : ℕ

-- there is room for one entry more, with these arguments
abbrev pub is_room : List Arg → Room → Bool
is_room args room =
    nat_lt room.rows room.rows_capacity
    && (nat_le (room.words + most_words) room.words_capacity
    && (nat_le (room.args + length args) room.args_capacity && nat_le (room.units + length (arg_units args)) room.units_capacity))

-- stored entries, and the room beside them
pub record StoreAt : Type 0 where
  pub entries : List Entry
  pub room : Room
