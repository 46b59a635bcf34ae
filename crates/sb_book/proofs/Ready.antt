-- What a ready script gives.
use Rattle.std.proofs.Common.{◌≡◌, ◌&&◌, ap, true, false, Bool, List, [], ◌∷◌, length, refl, ℕ}
use Rattle.std.specs.Prelude.{is_ok, Result, Ok, Err}
use Rattle.std.specs.List.{list_all}
use Rattle.std.proofs.lemmas.Bool.{and_parts}
use Rattle.sb_statements.specs.Soundness.{is_start}
use Rattle.sb_statements.specs.declared.scripts.StartLine.{StartLine}
use Rattle.sb_statements.specs.declared.scripts.StartLine.TheVariants.{Dir, File, Key, Event}
use Rattle.sb_statements.specs.Soundness.{is_sound}
use Rattle.sb_statements.specs.declared.scripts.Script.{Script}
use Rattle.sb_rule.specs.WellMade.{are_well_made}
use Rattle.sb_rule.specs.declared.policies.Policy.{Policy}
use Rattle.sb_kernel.specs.Namespaces.{Space}
use Rattle.sb_kernel.specs.Openings.{is_named, opened}
use Rattle.sb_book.specs.Readiness.{is_judged, is_ready}

named_start : (line : StartLine) → is_start line ≡ true → is_named line ≡ true
named_start (Dir name) h = h
named_start (File name attributes) h = (and_parts _ _ h).0
named_start (Key name) h = h
named_start (Event name kind initial) h = (and_parts _ _ (and_parts _ _ h).0).0

-- what is there at the start of a sound script has names
pub named_starts : (lines : List StartLine) → list_all is_start lines ≡ true → list_all is_named lines ≡ true
named_starts [] h = refl
named_starts (line ∷ lines) h =
    let parts = and_parts (is_start line) (list_all is_start lines) h in
    rw (named_start line parts.0) (named_starts lines parts.1)

-- a script is ready if its opening lines can be placed
pub ready_by : (policies : List Policy) (script : Script) (space : Space) → is_sound script ≡ true → are_well_made policies ≡ true
    → list_all (is_judged (length policies)) script.targets ≡ true → opened script.start ≡ Ok space → is_ready policies script ≡ true
ready_by policies script space sound made judged placed = rw (sound, made, judged, ap is_ok placed) refl

none : (a : Bool) → (a && false) ≡ false
none true = refl
none false = refl

-- and it is not if they cannot, or a target names no policy
pub unready_by : (policies : List Policy) (script : Script) (at : ℕ) → opened script.start ≡ Err at → is_ready policies script ≡ false
unready_by policies script at refused =
    rw (ap is_ok refused) (none (is_sound script && are_well_made policies && list_all (is_judged (length policies)) script.targets))
