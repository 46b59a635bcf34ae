use Rattle.std.proofs.Common.{◌≡◌, ◌∙◌, [], map, option_map}
use Rattle.std.specs.Prelude.{slice_get}
use Rattle.sb_commands.specs.Commands.{with_last_file, with_place}
use Rattle.sb_commands.specs.Forms.{place_of}
use Rattle.sb_commands.proofs.PlacedFiles.{last_placed, place_found, placed_three}
use Rattle.sb_commands.proofs.file_names.FileNames.of.Goals as goal

pub returns : goal.returns
returns c =
    let places = map place_of c.args.form.places.now in
    let values = c.args.values in
    let last = option_map (λ name. name.now) c.args.form.last in
    let value = option_map (λ name. name.now) values.last in
    let first : option_map (λ p. place_of p.now) c.first.result ≡ slice_get places 0 = place_found c.args.form.places.now 0 c.first.result c.first.ensures.item in
    let second : option_map (λ p. place_of p.now) c.get.result ≡ slice_get places 1 = place_found c.args.form.places.now 1 c.get.result c.get.ensures.lookup in
    let third : option_map (λ p. place_of p.now) c.get-2.result ≡ slice_get places 2 = place_found c.args.form.places.now 2 c.get-2.result c.get-2.ensures.lookup in
    let one : c.push_at.new.self ≡ with_place (slice_get places 0) values.first.now [] = c.push_at.ensures.names ∙ (λ i. with_place (first i) values.first.now (c.none-files.ensures i)) in
    let two : c.push_at-2.new.self ≡ with_place (slice_get places 1) values.second.now (with_place (slice_get places 0) values.first.now []) =
    c.push_at-2.ensures.names ∙ (λ i. with_place (second i) values.second.now (one i)) in
    let three = c.push_at-3.ensures.names ∙ (λ i. with_place (third i) values.third.now (two i)) ∙ placed_three places values.first.now values.second.now values.third.now in
    c.push_last.ensures ∙ (λ i. with_last_file last value (three i)) ∙ last_placed last value _
