-- Groups are written opcode by opcode.
use Rattle.std.specs.List.{flat_map, list_all, slice_split, onto_first}
use Rattle.std.proofs.Common.{◌≡◌, ◌≢◌, ◌∙◌, ℕ, ◌+◌, Bool, true, false, cond, List, [], ◌∷◌, ◌++◌, eqb, filter, length, map, refl, ap, sym, arith}
use Rattle.std.proofs.lemmas.Bool.{and_parts, false≢true}
use Rattle.std.proofs.lemmas.List.{append_assoc, length-append}
use Rattle.sb_call.specs.Tags.{number_of}
use Rattle.sb_call.specs.declared.tags.CallTag.{CallTag}
use Rattle.sb_rule.specs.WellMade.{is_sensible, is_well_formed}
use Rattle.sb_rule.specs.declared.conditions.Cond.{Cond}
use Rattle.sb_rule.specs.declared.policies.Rule.{Rule}
use Rattle.sb_rule.specs.Chunks.{is_any}
use Rattle.sb_rule.specs.declared.cells.Cell.{Cell}
use Rattle.sb_rule.specs.declared.cells.Cell.TheVariants.{Lit, One, Any}
use Rattle.sb_opcode.specs.Opcodes.{Opcode}
use Rattle.sb_opcode.specs.Opcodes as op
use Rattle.sb_opcode.specs.declared.opcodes.Seek.TheVariants.{Forward}
use Rattle.sb_opcode.specs.Options.{OR, FOLD}
use Rattle.sb_compile.specs.Compiling.{opcode, closed, cond_code, code_of, here, later_code, rule_code, or_true, runs_code}
use Rattle.sb_rule.specs.Verdicts.{is_for}
use Rattle.sb_compile.specs.Steps.{last_if, is_none}
use Rattle.sb_compile.proofs.Members.{both, is_placed_well}
use Rattle.sb_compile.proofs.Runs.{runs_of}

-- an opcode is the last if no others follow
pub closed_step : (negated : Bool) (op : Opcode) (ops : List Opcode) → closed negated (op ∷ ops) ≡ last_if (is_none ops) negated op ∷ closed negated ops
closed_step negated op [] = refl
closed_step negated op (next ∷ ops) = refl

pub choices_step : (negated : Bool) (param n : ℕ) (ns : List ℕ)
    → closed negated (map (λ k. opcode param OR (op.Num k)) (n ∷ ns))
    ≡ last_if (is_none ns) negated (opcode param OR (op.Num n)) ∷ closed negated (map (λ k. opcode param OR (op.Num k)) ns)
choices_step negated param n [] = refl
choices_step negated param n (m ∷ ns) = refl

onto_later : (param : ℕ) (c : Cell) (cells : List Cell) → is_none (later_code param (onto_first c (slice_split is_any cells))) ≡ false
onto_later param c cells = let r = runs_of cells in ap (λ runs. is_none (later_code param (onto_first c runs))) r.are ∙ by r.first r.others
  where
    by : (run : List Cell) (runs : List (List Cell)) → is_none (later_code param ((c ∷ run) ∷ runs)) ≡ false
    by run [] = refl
    by run (next ∷ runs) = refl

-- there are opcodes for what follows a `*` exactly if something follows
later_none : (param : ℕ) (cells : List Cell) → is_none (later_code param (slice_split is_any cells)) ≡ is_none cells
later_none param [] = refl
later_none param (Any ∷ cells) = let r = runs_of cells in ap (λ runs. is_none (later_code param ([] ∷ runs))) r.are
later_none param (One ∷ cells) = onto_later param One cells
later_none param (Lit u ∷ cells) = onto_later param (Lit u) cells

pub later_step : (negated : Bool) (param : ℕ) (run later : List Cell)
    → closed negated (later_code param (run ∷ slice_split is_any later))
    ≡ last_if (is_none later) negated (opcode param FOLD (op.Text run Forward)) ∷ closed negated (later_code param (slice_split is_any later))
later_step negated param run later =
    let r = runs_of later in
    let first = opcode param FOLD (op.Text run Forward) in
    ap (λ runs. closed negated (later_code param (run ∷ runs))) r.are
    ∙ ap (λ runs. closed negated (first ∷ later_code param runs)) (sym r.are)
    ∙ closed_step negated first (later_code param (slice_split is_any later))
    ∙ ap (λ b. last_if b negated first ∷ closed negated (later_code param (slice_split is_any later))) (later_none param later)

-- a fragment after a star is pushed, and what follows it is left
pub later_pushed : (negated is_last : Bool) (param : ℕ) (run later rest : List Cell) (before middle whole : List Opcode)
    → slice_split is_any rest ≡ run ∷ slice_split is_any later → is_last ≡ is_none later
    → middle ≡ before ++ last_if is_last negated (opcode param FOLD (op.Text run Forward)) ∷ []
    → before ++ closed negated (later_code param (slice_split is_any rest)) ≡ whole
    → middle ++ closed negated (later_code param (slice_split is_any later)) ≡ whole
later_pushed negated is_last param run later rest before middle whole cut last pushed e =
    let next = last_if (is_none later) negated (opcode param FOLD (op.Text run Forward)) in
    let left = closed negated (later_code param (slice_split is_any later)) in
    ap (λ l. l ++ left) pushed
    ∙ ap (λ b. (before ++ last_if b negated (opcode param FOLD (op.Text run Forward)) ∷ []) ++ left) last
    ∙ append_assoc before (next ∷ []) left
    ∙ ap (λ l. before ++ l) (sym (later_step negated param run later))
    ∙ ap (λ runs. before ++ closed negated (later_code param runs)) (sym cut)
    ∙ e

-- the cells before the first star are pushed, and what follows it is left
pub parts_pushed : (negated is_last : Bool) (param : ℕ) (run later : List Cell) (before middle after : List Opcode) → is_none run ≡ false
    → is_last ≡ is_none later → middle ≡ before ++ last_if is_last negated (here param FOLD run) ∷ []
    → after ≡ middle ++ closed negated (later_code param (slice_split is_any later))
    → after ≡ before ++ closed negated (runs_code param (run ∷ slice_split is_any later))
parts_pushed negated is_last param [] later before middle after some last pushed e = absurd (false≢true (sym some))
parts_pushed negated is_last param (c ∷ cells) later before middle after some last pushed e =
    let r = runs_of later in
    let first = here param FOLD (c ∷ cells) in
    let left = later_code param (slice_split is_any later) in
    e
    ∙ ap (λ l. l ++ closed negated left) pushed
    ∙ ap (λ b. (before ++ last_if b negated first ∷ []) ++ closed negated left) last
    ∙ append_assoc before (last_if (is_none later) negated first ∷ []) (closed negated left)
    ∙ ap (λ b. before ++ last_if b negated first ∷ closed negated left) (sym (later_none param later))
    ∙ ap (λ l. before ++ l) (sym (closed_step negated first left))
    ∙ ap (λ runs. before ++ closed negated (first ∷ later_code param runs)) r.are
    ∙ ap (λ runs. before ++ closed negated (runs_code param ((c ∷ cells) ∷ runs))) (sym r.are)

-- after a star at the front something follows
pub star_pushed : (negated : Bool) (param : ℕ) (later : List Cell) → is_none later ≡ false
    → closed negated (later_code param (slice_split is_any later)) ≡ closed negated (runs_code param ([] ∷ slice_split is_any later))
star_pushed negated param later some =
    let r = runs_of later in
    let left = later_code param (slice_split is_any later) in
    ap (closed negated) (sym (or_true_none left (later_none param later ∙ some)))
    ∙ ap (λ runs. closed negated (or_true (later_code param runs))) r.are
    ∙ ap (λ runs. closed negated (runs_code param ([] ∷ runs))) (sym r.are)
  where
    or_true_none : (ops : List Opcode) → is_none ops ≡ false → or_true ops ≡ ops
    or_true_none [] h = absurd (false≢true (sym h))
    or_true_none (op ∷ ops) h = refl

-- the code of a rule is pushed if it is for the call
pub rule_pushed : (tag : CallTag) (rule : Rule) (later : List Rule) (rest : List Rule) (before middle whole : List Opcode) → eqb (number_of rule.tag) (number_of tag) ≡ true
    → rest ≡ rule ∷ later → middle ≡ before ++ rule_code rule → before ++ code_of rest tag ≡ whole → middle ++ code_of later tag ≡ whole
rule_pushed tag rule later rest before middle whole mine cut pushed e =
    ap (λ l. l ++ code_of later tag) pushed
    ∙ append_assoc before (rule_code rule) (code_of later tag)
    ∙ ap (λ b. before ++ flat_map rule_code (cond b (rule ∷ filter (is_for tag) later) (filter (is_for tag) later))) (sym mine)
    ∙ ap (λ l. before ++ code_of l tag) (sym cut)
    ∙ e

-- and another is passed over
pub rule_skipped : (tag : CallTag) (rule : Rule) (later rest : List Rule) → eqb (number_of rule.tag) (number_of tag) ≡ false → rest ≡ rule ∷ later
    → code_of later tag ≡ code_of rest tag
rule_skipped tag rule later rest other cut =
    sym (ap (λ l. code_of l tag) cut
    ∙ ap (λ b. flat_map rule_code (cond b (rule ∷ filter (is_for tag) later) (filter (is_for tag) later))) other)

-- what is left of some code begins with a rule, so it is some
pub some_code : (tag : CallTag) (rule : Rule) (later rest : List Rule) (before whole : List Opcode) → eqb (number_of rule.tag) (number_of tag) ≡ true
    → rest ≡ rule ∷ later → before ++ code_of rest tag ≡ whole → whole ≢ []
some_code tag rule later rest before whole mine cut e none =
    let code : code_of rest tag ≡ rule_code rule ++ code_of later tag =
    ap (λ l. code_of l tag) cut ∙ ap (λ b. flat_map rule_code (cond b (rule ∷ filter (is_for tag) later) (filter (is_for tag) later))) mine
    in
    let size : length (before ++ (rule_code rule ++ code_of later tag)) ≡ 0 = ap length (ap (λ l. before ++ l) (sym code) ∙ e ∙ none) in
    absurd (omega (arith, size, length-append before (rule_code rule ++ code_of later tag), length-append (rule_code rule) (code_of later tag), length-append (flat_map cond_code rule.conds) (opcode 0 0 (op.Act rule.action rule.line) ∷ [])))

-- well-formed conditions have sensible tests
pub formed_sensible : (tag : CallTag) (cs : List Cond) → list_all (is_well_formed tag) cs ≡ true → list_all (λ c. is_sensible c.test) cs ≡ true
formed_sensible tag [] h = refl
formed_sensible tag (c ∷ cs) h =
    let p = and_parts (is_well_formed tag c) (list_all (is_well_formed tag) cs) h in
    both (is_placed_well tag c p.0).1 (formed_sensible tag cs p.1)

-- one opcode more
pub pushed_length : (before after : List Opcode) (op : Opcode) → after ≡ before ++ op ∷ [] → length after ≡ length before + 1
pushed_length before after op e = ap length e ∙ length-append before (op ∷ [])

-- what is left of a list that passes passes
pub left_passes : {X : Type 0} (test : X → Bool) (x : X) (xs rest : List X) → rest ≡ x ∷ xs → list_all test rest ≡ true → list_all test xs ≡ true
left_passes test x xs rest e h = (and_parts (test x) (list_all test xs) (ap (list_all test) (sym e) ∙ h)).1

-- the code of a part is pushed, and that of the others is left
pub part_pushed : {X : Type 0} (f : X → List Opcode) (x : X) (xs rest : List X) (before middle whole : List Opcode) → rest ≡ x ∷ xs
    → middle ≡ before ++ f x → before ++ flat_map f rest ≡ whole → middle ++ flat_map f xs ≡ whole
part_pushed f x xs rest before middle whole cut pushed e =
    ap (λ l. l ++ flat_map f xs) pushed ∙ append_assoc before (f x) (flat_map f xs) ∙ ap (λ l. before ++ flat_map f l) (sym cut) ∙ e
