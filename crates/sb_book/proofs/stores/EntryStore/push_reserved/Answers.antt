use Rattle.std.proofs.Common.{◌≡◌, ◌++◌, ◌∷◌, [], List, length, refl, rules}
use Rattle.sb_call.specs.declared.arguments.Arg.{Arg}
use Rattle.sb_book.specs.Rulings.{args_of}
use Rattle.sb_book.specs.StoredArgs.{arg_rows, arg_units}
use Rattle.sb_book.specs.Stores.{Buffers, buffers}
use Rattle.sb_book.specs.declared.stores.EntryRow.{EntryRow}
use Rattle.sb_book.proofs.Storing.{IsNewRow, cut_more, stored_with}
use Rattle.sb_book.proofs.stores.EntryStore.push_reserved.Goals as goal

-- the buffers before
abbrev before : goal.After-push_reserved → Buffers
before c = buffers c.self.inside.words.items c.self.inside.args.items c.self.inside.units.items

-- the arguments that are granted
abbrev granted : goal.After-push_reserved → List Arg
granted c = args_of c.args.decision.now

-- the row that is appended
abbrev row_of : goal.After-push_reserved → EntryRow
row_of c = record {
  target = c.args.target;
  channel = c.args.channel;
  ruling = c.ruling.result;
  reply = c.copy.result;
  count = c.count_seen.result;
  end = c.end_seen.result;
  first_word = c.len.result;
  word_count = length c.words-copy.result.now;
  first_arg = c.len-2.result;
  arg_count = length c.args-args.result.now;
}

new_row : (c : goal.After-push_reserved) → IsNewRow (before c) (row_of c) c.args.taken.now (granted c)
new_row c = record {
  count = search rules;
  end = search rules;
  first_word = search rules;
  word_count = search rules;
  first_arg = search rules;
  arg_count = search rules;
}

-- what was appended
words : (c : goal.After-push_reserved) → c.extend_from_slice-fits.new.self.items ≡ c.self.inside.words.items ++ c.args.taken.now.words
words c = search rules

rows : (c : goal.After-push_reserved) → c.put_args.new.rows.items ≡ c.self.inside.args.items ++ arg_rows (length c.self.inside.units.items) (granted c)
rows c = search rules

units : (c : goal.After-push_reserved) → c.put_args.new.units.items ≡ c.self.inside.units.items ++ arg_units (granted c)
units c = search rules

entries : (c : goal.After-push_reserved) → c.push_reserved.new.self.items ≡ c.self.inside.rows.items ++ row_of c ∷ []
entries c = search rules

pub invariant_of-self : goal.invariant_of-self
invariant_of-self c =
    rw (words c, rows c, units c, entries c)
    (cut_more (before c) c.self.inside.rows.items (row_of c) c.args.taken.now (granted c) c.self.invariant (new_row c) (search rules) (search rules))

pub returns : goal.returns
returns c =
    let more = stored_with (before c) c.self.inside.rows.items (row_of c) c.args.target c.args.channel c.args.taken.now c.args.decision.now c.args.reply.now
    c.self.invariant (new_row c) refl refl (search rules) (search rules) in
    record { entries = rw (words c, rows c, units c, entries c) (search (rules, more)) }
