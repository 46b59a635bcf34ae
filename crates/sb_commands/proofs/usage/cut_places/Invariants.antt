use Rattle.std.proofs.Common.{◌≡◌, drop, map}
use Rattle.sb_commands.specs.Forms.{form_of, place_of}
use Rattle.sb_commands.specs.Usage.{cut_places, texts}
use Rattle.sb_commands.proofs.usage.cut_places.Given as goal

abbrev pub invariant-loop-place : goal.invariant-loop-place
invariant-loop-place l =
    cut_places (form_of l.form).options l.given l.total (map place_of (drop l.place-index l.form.places.now)) (texts l.left)
    ≡ cut_places (form_of l.form).options l.given l.total (map place_of l.form.places.now) (texts l.words)
