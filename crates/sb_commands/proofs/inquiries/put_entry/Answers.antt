use Rattle.std.proofs.Common.{◌++◌, codes, string_bytes}
use Rattle.sb_commands.specs.Forms.{form_of}
use Rattle.sb_commands.specs.UsageMessages.{form_text}
use Rattle.sb_commands.proofs.Appending.{appended}
use Rattle.sb_commands.proofs.inquiries.put_entry.Goals as goal

pub returns : goal.returns
returns c =
    let before = string_bytes c.args.out.now in
    let form = form_of c.args.form in
    let first = string_bytes c.push_str.new.self in
    let second = string_bytes c.put_form.new.out in
    let third = string_bytes c.push_str-2.new.self in
    let fourth = string_bytes c.push_str-3.new.self in
    let fifth = string_bytes c.push_str-4.new.self in
    let named = codes "  sandbox " ++ form_text form in
    let line = named ++ codes "\n      " in
    let written = appended before first second (codes "  sandbox ") (form_text form) c.in_ok-push_str.ensures.bytes c.in_ok-put_form.ensures in
    let ended = appended before second third named (codes "\n      ") written c.in_ok-push_str-2.ensures.bytes in
    let said = appended before third fourth line form.does ended c.in_ok-push_str-3.ensures.bytes in
    appended before fourth fifth (line ++ form.does) (codes "\n") said c.in_ok-push_str-4.ensures.bytes
