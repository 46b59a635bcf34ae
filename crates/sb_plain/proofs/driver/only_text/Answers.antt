use Rattle.std.proofs.Common.{◌≡◌, ◌∷◌, [], subst, sym, List, ℕ, map, rules}
use Rattle.std.specs.Borrow.{Bor}
use Rattle.sb_plain.specs.Contents.{FileContent, alone, file_in}
use Rattle.sb_plain.specs.Readings.{IsFound}
use Rattle.sb_plain.proofs.ScriptEnds.{not_one, one_is}
use Rattle.sb_plain.proofs.driver.only_text.Goals as goal

-- there is a file
pub returns-in_default-clause-files : goal.returns-in_default-clause-files
returns-in_default-clause-files g c = absurd (not_one (λ (name : Bor (List ℕ)). name.now) c.args.names.now c.in_default.ensures.cases c.requires)

pub returns-in_default-clause-found : goal.returns-in_default-clause-found
returns-in_default-clause-found g c = absurd (not_one (λ (name : Bor (List ℕ)). name.now) c.args.names.now c.in_default.ensures.cases c.requires)

-- and its text
pub returns-clause-found : goal.returns-clause-found
returns-clause-found g c =
    let held = g.F.Files.held c.args.files.now in
    let split : c.args.names.now ≡ c.in-Some.name.now ∷ c.in-Some.field-0-1.now = search rules in
    let one : c.args.names.now ≡ c.in-Some.name.now ∷ [] = one_is (λ (name : Bor (List ℕ)). name.now) c.args.names.now c.in-Some.name.now c.in-Some.field-0-1.now split c.requires in
    subst (λ (names : List (Bor (List ℕ))). IsFound (λ (text : FileContent). text) 1 (alone 1 (file_in 1)) (map (λ (name : Bor (List ℕ)). name.now) names) held c.read_text.result) (sym one) c.read_text.ensures.found
