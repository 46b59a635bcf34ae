use Rattle.std.proofs.Common.{rules, ◌≡◌, ◌∙◌, ◌+◌, ◌-◌, ◌<◌, ◌==◌, false, ℕ, List, [], ◌∷◌, ap, drop, get_or, length, map, sym, if◌then◌else◌, Bool}
use Rattle.std.specs.Borrow.{Bor}
use Rattle.std.proofs.lemmas.List.{at_drop_more}
use Rattle.sb_commands.specs.Commands.{name_at}
use Rattle.sb_commands.proofs.file_names.FileNames.name.Goals as goal

-- one name further
further : (names : List (Bor (List ℕ))) (i place next : ℕ) (wanted : List ℕ) (none : Bor (List ℕ)) → i < length names → (place == 1) ≡ false → next ≡ place - 1
    → name_at place (map (λ name. name.now) (drop i names)) ≡ wanted → name_at next (map (λ name. name.now) (drop (i + 1) names)) ≡ wanted
further names i place next wanted none inside other less left =
    let rest : List (List ℕ) = map (λ name. name.now) (drop (i + 1) names) in
    ap (λ (n : ℕ). name_at n rest) less
    ∙ (sym (ap (λ (test : Bool). if test then (get_or names i none).now else name_at (place - 1) rest) other)
    ∙ (sym (at_drop_more (λ (some : List (Bor (List ℕ))). name_at place (map (λ name. name.now) some)) names i none inside) ∙ left))

pub loop-name-preserved : goal.loop-name-preserved
loop-name-preserved c =
    let other : (c.loop-name.place == 1) ≡ false = search rules in
    let less : c.saturating_sub-place.result ≡ c.loop-name.place - 1 = search rules in
    further c.as_slice-names.result.now c.loop-name.name-index c.loop-name.place c.saturating_sub-place.result (name_at c.args.which c.args.self.now)
    (record { ref_ptr = (0, 0); now = [] }) c.loop-name-test.true other less c.loop-name.invariant
