use Rattle.std.proofs.Common.{◌≡◌, ◌∷◌, [], ap, sym, subst, List, ℕ, Option, map, rules, None, Some}
use Rattle.std.specs.Borrow.{Bor}
use Rattle.std.specs.Prelude.{Result, Ok, Err}
use Rattle.sb_plain.specs.Contents.{FileContent, ShownRefusal}
use Rattle.sb_plain.proofs.KeptFiles.{handed_on, made_of, stopped, untouched}
use Rattle.sb_plain.proofs.ScriptEnds.{LaterFound, empty, later_read, later_unread, no_later, single}
use Rattle.sb_plain.proofs.driver.read_later.Goals as goal

-- no file is named
pub returns-in_default-clause-found : goal.returns-in_default-clause-found
returns-in_default-clause-found g c =
    let held = g.F.Files.held c.args.files.now in
    let none : c.args.names.now ≡ [] = empty c.args.names.now c.in_default.ensures.cases in
    subst (λ (names : List (Bor (List ℕ))). LaterFound c.args.most held (map (λ (name : Bor (List ℕ)). name.now) names) (Ok None)) (sym none) (no_later c.args.most held)

pub returns-in_default-clause-files : goal.returns-in_default-clause-files
returns-in_default-clause-files g c = untouched (Ok None) tt

-- it was not read
pub returns-in_err-text-clause-files : goal.returns-in_err-text-clause-files
returns-in_err-text-clause-files g c = stopped c.from_residual.result c.in_err-text.field-0.0 c.from_residual.ensures.1 c.in_err-text.ensures.files

pub returns-in_err-text-clause-found : goal.returns-in_err-text-clause-found
returns-in_err-text-clause-found g c =
    let held = g.F.Files.held c.args.files.now in
    let refusal = c.in_err-text.field-0.0 in
    let one : c.args.names.now ≡ c.in-Some.name.now ∷ [] = single c.args.names.now c.in-Some.name.now c.in-Some.field-0-1.now (search rules) c.requires.few in
    let P : Result (Option FileContent) ShownRefusal → Type 0 = LaterFound c.args.most held (map (λ (name : Bor (List ℕ)). name.now) c.args.names.now) in
    handed_on P c.from_residual.result refusal c.from_residual.ensures.1
    (subst (λ (names : List (Bor (List ℕ))). LaterFound c.args.most held (map (λ (name : Bor (List ℕ)). name.now) names) (Err refusal)) (sym one)
    (later_unread c.args.most held c.in-Some.name.now.now refusal c.in_err-text.ensures.found))

-- its text
pub returns-clause-files : goal.returns-clause-files
returns-clause-files g c = made_of c.in_ok-text.text (Ok (Some c.in_ok-text.text)) c.in_ok-text.ensures.files tt

pub returns-clause-found : goal.returns-clause-found
returns-clause-found g c =
    let held = g.F.Files.held c.args.files.now in
    let text = c.in_ok-text.text in
    let one : c.args.names.now ≡ c.in-Some.name.now ∷ [] = single c.args.names.now c.in-Some.name.now c.in-Some.field-0-1.now (search rules) c.requires.few in
    subst (λ (names : List (Bor (List ℕ))). LaterFound c.args.most held (map (λ (name : Bor (List ℕ)). name.now) names) (Ok (Some text))) (sym one)
    (later_read c.args.most held c.in-Some.name.now.now text c.in_ok-text.ensures.found)
