-- Listings, line by line.
use Rattle.std.proofs.Common.{◌≡◌, ◌∙◌, ℕ, zero, suc, ◌+◌, ◌<◌, ◌≤◌, Bool, true, false, cond, List, [], ◌∷◌, ◌++◌, nat_lt, refl, ap, sym, arith, append_assoc}
use Rattle.std.proofs.lemmas.Bool.Decides.{nat_tests}
use Rattle.std.proofs.lemmas.List.{append-nil}
use Rattle.sb_explain.specs.Laws.{ListingsAreCapped}
use Rattle.sb_explain.specs.Listings.{Listed, capped, listed, more_line, most_lines, nothing_listed, text_of, with_line, with_lines}
use Rattle.sb_explain.specs.Why.{entry_lines, lines_of_entry}
use Rattle.sb_book.specs.declared.entries.Entry.{Entry}
use Rattle.sb_outside.specs.Outside.{joined}
use Rattle.sb_rule.specs.declared.policies.Policy.{Policy}
use Rattle.sb_statements.specs.declared.scripts.Script.{Script}

-- lines after others
pub listed_more : (most : ℕ) (l : Listed) (lines more : List (List ℕ)) → with_lines most l (lines ++ more) ≡ with_lines most (with_lines most l lines) more
listed_more most l [] more = refl
listed_more most l (line ∷ lines) more = listed_more most (with_line most l line) lines more

-- one entry more: what is listed with its lines, and those of the entries that are left, is all
pub entry_more : (policies : List Policy) (script : Script) (lines : List ℕ) (n : ℕ) (e : Entry) (es rest : List Entry) (old new all : Listed) → rest ≡ e ∷ es
    → new ≡ with_lines most_lines old (lines_of_entry policies script lines n e)
    → with_lines most_lines old (entry_lines policies script lines n rest) ≡ all
    → with_lines most_lines new (entry_lines policies script lines (n + 1) es) ≡ all
entry_more policies script lines n e es rest old new all r put h =
    ap (λ l. with_lines most_lines l (entry_lines policies script lines (n + 1) es)) put
    ∙ sym (listed_more most_lines old (lines_of_entry policies script lines n e) (entry_lines policies script lines (n + 1) es))
    ∙ ap (λ left. with_lines most_lines old (entry_lines policies script lines n left)) (sym r)
    ∙ h

is_below : (n most : ℕ) → n < most → nat_lt n most ≡ true
is_below n most h = grind (arith, nat_tests)

is_not_below : (n most : ℕ) → most ≤ n → nat_lt n most ≡ false
is_not_below n most h = grind (arith, nat_tests)

-- what is so far listed
abbrev so_far : List ℕ → ℕ → Bool → Listed
so_far text count more = record { text = text; count = count; more = more }

-- the choice that a line makes
abbrev chosen : Bool → List ℕ → ℕ → Bool → List ℕ → Listed
chosen room text count more line = cond room (so_far (text ++ line) (count + 1) more) (so_far text count true)

-- once it is known that lines were left out, all others are
full : (most : ℕ) (lines : List (List ℕ)) (text : List ℕ) (count : ℕ) → nat_lt count most ≡ false
    → with_lines most (so_far text count true) lines ≡ so_far text count true
full most [] text count h = refl
full most (line ∷ lines) text count h =
    ap (λ room. with_lines most (chosen room text count true line) lines) h ∙ full most lines text count h

-- the text after lines, if there is room for m of them
grown : (m : ℕ) (lines : List (List ℕ)) (most : ℕ) (text : List ℕ) (count : ℕ) → count + m ≡ most
    → text_of (with_lines most (so_far text count false) lines) ≡ text ++ joined (capped m lines)
grown m [] most text count e = sym (append-nil text)
grown zero (line ∷ lines) most text count e =
    let none : nat_lt count most ≡ false = is_not_below count most (omega (arith, e)) in
    ap (λ room. text_of (with_lines most (chosen room text count false line) lines)) none
    ∙ ap text_of (full most lines text count none)
    ∙ ap (λ last. text ++ last) (sym (append-nil more_line))
grown (suc m) (line ∷ lines) most text count e =
    ap (λ room. text_of (with_lines most (chosen room text count false line) lines)) (is_below count most (omega (arith, e)))
    ∙ grown m lines most (text ++ line) (count + 1) (omega (arith, e))
    ∙ append_assoc text line (joined (capped m lines))

pub listings_are_capped : ListingsAreCapped
listings_are_capped lines = grown most_lines lines most_lines [] 0 (omega arith)

-- the text of a listing of these lines
pub listed_text : (lines : List (List ℕ)) (empty whole : Listed) (text : List ℕ) → empty ≡ nothing_listed → whole ≡ with_lines most_lines empty lines
    → text ≡ text_of whole → text ≡ listed lines
listed_text lines empty whole text n e f =
    f ∙ ap text_of e ∙ ap (λ l. text_of (with_lines most_lines l lines)) n ∙ listings_are_capped lines
