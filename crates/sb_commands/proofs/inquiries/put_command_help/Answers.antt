use Rattle.std.proofs.Common.{◌≡◌, ◌++◌, codes, flat_map, string_bytes}
use Rattle.std.proofs.lemmas.Result.{IfOk-weaker}
use Rattle.sb_commands.specs.Forms.{form_of}
use Rattle.sb_commands.specs.Inquiries.{entry_text, last_faults, part_text, place_faults}
use Rattle.sb_commands.proofs.Appending.{appended}
use Rattle.sb_commands.proofs.inquiries.put_command_help.Goals as goal

pub returns : goal.returns
returns c =
    let before = string_bytes c.args.out.now in
    let form = form_of c.args.form in
    let first = string_bytes c.push_str.new.self in
    let second = string_bytes c.put_entry.new.out in
    let third = string_bytes c.put_part.new.out in
    let fourth = string_bytes c.put_places_faults.new.out in
    let fifth = string_bytes c.put_last_faults.new.out in
    let sixth = string_bytes c.put_parts.new.out in
    let entry = codes "usage:\n" ++ entry_text form in
    let about = entry ++ part_text form.help.about in
    let places = about ++ flat_map place_faults form.places in
    let last = places ++ last_faults form.last in
    let parts = flat_map part_text form.help.after in
    let to_entry = appended before first second (codes "usage:\n") (entry_text form) c.in_ok-push_str.ensures.bytes c.in_ok-put_entry.ensures in
    let to_about = appended before second third entry (part_text form.help.about) to_entry c.in_ok-put_part.ensures in
    let to_places = appended before third fourth about (flat_map place_faults form.places) to_about c.in_ok-put_places_faults.ensures in
    let to_last = appended before fourth fifth places (last_faults form.last) to_places c.in_ok-put_last_faults.ensures in
    IfOk-weaker c.put_parts.result (λ _. sixth ≡ fifth ++ parts) (λ _. sixth ≡ before ++ (last ++ parts)) (λ _ e. appended before fifth sixth last parts to_last e)
    c.put_parts.ensures
