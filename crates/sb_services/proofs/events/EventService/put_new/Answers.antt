use Rattle.std.proofs.Common.{rules, ◌≡◌, ◌+◌, ◌++◌, ◌∷◌, [], length}
use Rattle.std.specs.Prelude.{None}
use Rattle.sb_names.specs.Keys.{key_of}
use Rattle.sb_names.specs.Maps.{found}
use Rattle.sb_services.specs.declared.event_rows.EventRow.{EventRow}
use Rattle.sb_services.proofs.KeptEvents.{kept_more}
use Rattle.sb_services.proofs.events.EventService.put_new.Goals as goal

pub invariant_of-self-3 : goal.invariant_of-self-3
invariant_of-self-3 c =
    let rows = c.self.inside.rows in
    let names = c.self.inside.names.items in
    let name = c.args.name.now in
    let row : EventRow = record { number = c.made-number.result + 1; kind = c.args.kind; initial = c.args.initial } in
    let own : c.made-number.result + 1 ≡ length names + 1 = search rules in
    let free : found rows name ≡ None = search rules in
    let after : c.push_reserved.new.self.items ≡ names ++ key_of name ∷ [] = search rules in
    kept_more c.puts_are_found.ensures c.puts_keep_rows.ensures c.numbers_are_kept.ensures.puts c.names_fold.ensures rows c.add.new.self names
    c.push_reserved.new.self.items name row c.in_ok-add.ensures.ok after own free c.requires.name c.self.invariant
