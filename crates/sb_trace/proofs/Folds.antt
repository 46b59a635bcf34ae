-- The lines of a trace hold its steps.
use Rattle.std.proofs.Common.{◌≡◌, ◌∙◌, ℕ, Bool, true, false, cond, List, [], ◌∷◌, ◌++◌, ◌&&◌, map, Option, None, Some, eqb, refl, ap, sym, subst, append_assoc, append-nil}
use Rattle.std.proofs.lemmas.Bool.{and_parts}
use Rattle.std.proofs.lemmas.Bool.Decides.{Decides-eqb}
use Rattle.std.proofs.lemmas.Grind.{flat_map-append}
use Rattle.std.proofs.lemmas.List.{map-append}
use Rattle.std.proofs.lemmas.List.Sorted.{IsPermutation-refl, IsPermutation-trans, IsPermutation-append_comm, IsPermutation-append_left, IsPermutation-append_right}
use Rattle.std.specs.List.{flat_map}
use Rattle.std.specs.Prelude.{IsPermutation}
use Rattle.sb_trace.specs.Folding.{Told, TraceLine, Folded, LinesHoldSteps, all_lines, started, continued, extended, folded, folded_by, is_next_word, maker, nothing_folded, of_actor, of_others, open_lines, same_actor, steps_in, waited}
use Rattle.sb_trace.specs.Phases.{Phase, Waits}
use Rattle.sb_statements.specs.declared.schedules.Actor.{Actor}
use Rattle.sb_statements.specs.declared.schedules.Actor.TheVariants as actor

abbrev Pairs : Type 0
Pairs = List (ℕ × Actor)

-- the steps of lines
abbrev held : List TraceLine → Pairs
held lines = flat_map steps_in lines

-- actors that are the same are equal
same_is : (a b : Actor) → same_actor a b ≡ true → a ≡ b
same_is (actor.Worker t) (actor.Worker u) e = ap (λ n. actor.Worker n) ((Decides-eqb t u).0 e)
same_is (actor.Thread t k) (actor.Thread u j) e =
    let p = and_parts (eqb t u) (eqb k j) e in
    ap (λ n. actor.Thread n k) ((Decides-eqb t u).0 p.0) ∙ ap (λ n. actor.Thread u n) ((Decides-eqb k j).0 p.1)
same_is _ _ e = absurd (cc)

-- one more at the end of the first part of two is one more at the end of both
moved_back : (xs ys : Pairs) (m : ℕ × Actor) → IsPermutation ((xs ++ ys) ++ m ∷ []) ((xs ++ m ∷ []) ++ ys)
moved_back xs ys m =
    subst (λ l. IsPermutation l ((xs ++ m ∷ []) ++ ys)) (sym (append_assoc xs ys (m ∷ [])))
    (subst (λ l. IsPermutation (xs ++ (ys ++ m ∷ [])) l) (sym (append_assoc xs (m ∷ []) ys))
    (IsPermutation-append_right xs (ys ++ m ∷ []) (m ∷ ys) (IsPermutation-append_comm ys (m ∷ []))))

-- the steps of a line with one more step of its actor
extended_holds : (line : TraceLine) (t : Told) → line.actor ≡ t.actor → steps_in (extended line t) ≡ steps_in line ++ maker t ∷ []
extended_holds line t e =
    map-append (λ n. (n, line.actor)) line.numbers (t.number ∷ []) ∙ ap (λ a. steps_in line ++ (t.number, a) ∷ []) e

-- one more waiting step
waited_holds : (lines : List TraceLine) (t : Told) → IsPermutation (held lines ++ maker t ∷ []) (held (waited lines t))
waited_holds [] t = IsPermutation-refl (maker t ∷ [])
waited_holds (line ∷ lines) t = by_test (waited_holds lines t) (same_actor line.actor t.actor) refl
  where
    by_test : IsPermutation (held lines ++ maker t ∷ []) (held (waited lines t)) → (b : Bool) → same_actor line.actor t.actor ≡ b
        → IsPermutation ((steps_in line ++ held lines) ++ maker t ∷ []) (held (cond b (extended line t ∷ lines) (line ∷ waited lines t)))
    by_test later true e =
        subst (λ l. IsPermutation ((steps_in line ++ held lines) ++ maker t ∷ []) (l ++ held lines)) (sym (extended_holds line t (same_is line.actor t.actor e)))
        (moved_back (steps_in line) (held lines) (maker t))
    by_test later false e =
        subst (λ l. IsPermutation l (steps_in line ++ held (waited lines t))) (sym (append_assoc (steps_in line) (held lines) (maker t ∷ [])))
        (IsPermutation-append_right (steps_in line) (held lines ++ maker t ∷ []) (held (waited lines t)) later)

-- the waiting steps of one actor, and those of all others
parted : (a : Actor) (lines : List TraceLine) → IsPermutation (held lines) (held (of_actor a lines) ++ held (of_others a lines))
parted a [] = IsPermutation-refl []
parted a (line ∷ lines) =
    by_test (IsPermutation-append_right (steps_in line) (held lines) (held (of_actor a lines) ++ held (of_others a lines)) (parted a lines)) (same_actor line.actor a)
  where
    mine : Pairs
    mine = held (of_actor a lines)

    others : Pairs
    others = held (of_others a lines)

    by_test : IsPermutation (steps_in line ++ held lines) (steps_in line ++ (mine ++ others)) → (b : Bool) → IsPermutation (steps_in line ++ held lines)
        (held (cond b (line ∷ of_actor a lines) (of_actor a lines)) ++ held (cond b (of_others a lines) (line ∷ of_others a lines)))
    by_test later true = subst (IsPermutation (steps_in line ++ held lines)) (sym (append_assoc (steps_in line) mine others)) later
    by_test later false =
        IsPermutation-trans _ _ _ later
        (subst (λ l. IsPermutation l (mine ++ (steps_in line ++ others))) (append_assoc (steps_in line) mine others)
        (subst (IsPermutation ((steps_in line ++ mine) ++ others)) (append_assoc mine (steps_in line) others)
        (IsPermutation-append_left others (steps_in line ++ mine) (mine ++ steps_in line) (IsPermutation-append_comm (steps_in line) mine))))

-- all steps that are folded so far, in three parts
all_held : (f : Folded) → held (all_lines f) ≡ held f.lines ++ (held (open_lines f.going) ++ held f.waiting)
all_held f =
    flat_map-append steps_in f.lines (open_lines f.going ++ f.waiting) ∙ ap (λ l. held f.lines ++ l) (flat_map-append steps_in (open_lines f.going) f.waiting)

-- one more after three parts is one more after the third
third_more : (xs ys zs zs' : Pairs) (m : ℕ × Actor) → IsPermutation (zs ++ m ∷ []) zs' → IsPermutation ((xs ++ (ys ++ zs)) ++ m ∷ []) (xs ++ (ys ++ zs'))
third_more xs ys zs zs' m h =
    subst (λ l. IsPermutation l (xs ++ (ys ++ zs'))) (sym (append_assoc xs (ys ++ zs) (m ∷ []) ∙ ap (λ l. xs ++ l) (append_assoc ys zs (m ∷ []))))
    (IsPermutation-append_right xs (ys ++ (zs ++ m ∷ [])) (ys ++ zs') (IsPermutation-append_right ys (zs ++ m ∷ []) zs' h))

-- a line begins
started_holds : (f : Folded) (t : Told) → IsPermutation (held (all_lines f) ++ maker t ∷ []) (held (all_lines (started f t)))
started_holds f t =
    subst (λ l. IsPermutation (l ++ maker t ∷ []) (held (all_lines (started f t)))) (sym (all_held f))
    (subst (IsPermutation ((held f.lines ++ (opened ++ held f.waiting)) ++ maker t ∷ [])) (sym after) whole)
  where
    opened : Pairs
    opened = held (open_lines f.going)

    mine : Pairs
    mine = held (of_actor t.actor f.waiting)

    others : Pairs
    others = held (of_others t.actor f.waiting)

    after : held (all_lines (started f t)) ≡ (held f.lines ++ (opened ++ mine)) ++ (maker t ∷ others)
    after =
        all_held (started f t)
        ∙ ap (λ l. l ++ (maker t ∷ others))
        (flat_map-append steps_in f.lines (open_lines f.going ++ of_actor t.actor f.waiting)
        ∙ ap (λ l. held f.lines ++ l) (flat_map-append steps_in (open_lines f.going) (of_actor t.actor f.waiting)))

    regrouped : (held f.lines ++ (opened ++ mine)) ++ (maker t ∷ others) ≡ held f.lines ++ (opened ++ (mine ++ (maker t ∷ others)))
    regrouped = append_assoc (held f.lines) (opened ++ mine) (maker t ∷ others) ∙ ap (λ l. held f.lines ++ l) (append_assoc opened mine (maker t ∷ others))

    waits : IsPermutation (held f.waiting ++ maker t ∷ []) (mine ++ (maker t ∷ others))
    waits =
        IsPermutation-trans _ _ _ (IsPermutation-append_left (maker t ∷ []) (held f.waiting) (mine ++ others) (parted t.actor f.waiting))
        (subst (IsPermutation ((mine ++ others) ++ maker t ∷ [])) (append_assoc mine (maker t ∷ []) others) (moved_back mine others (maker t)))

    whole : IsPermutation ((held f.lines ++ (opened ++ held f.waiting)) ++ maker t ∷ []) ((held f.lines ++ (opened ++ mine)) ++ (maker t ∷ others))
    whole = subst (IsPermutation ((held f.lines ++ (opened ++ held f.waiting)) ++ maker t ∷ [])) (sym regrouped)
        (third_more (held f.lines) opened (held f.waiting) (mine ++ (maker t ∷ others)) (maker t) waits)

-- a line goes on
extended_open : (f : Folded) (t : Told) (line : TraceLine) → f.going ≡ Some line → line.actor ≡ t.actor
    → IsPermutation (held (all_lines f) ++ maker t ∷ []) (held (all_lines (record f { going = Some (extended line t) })))
extended_open f t line o e =
    subst (λ l. IsPermutation (l ++ maker t ∷ []) (held (all_lines (record f { going = Some (extended line t) })))) (sym before)
    (subst (IsPermutation ((held f.lines ++ (steps_in line ++ held f.waiting)) ++ maker t ∷ [])) (sym after) whole)
  where
    before : held (all_lines f) ≡ held f.lines ++ (steps_in line ++ held f.waiting)
    before = all_held f ∙ ap (λ going. held f.lines ++ (held (open_lines going) ++ held f.waiting)) o ∙ ap (λ l. held f.lines ++ (l ++ held f.waiting)) (append-nil (steps_in line))

    after : held (all_lines (record f { going = Some (extended line t) })) ≡ held f.lines ++ ((steps_in line ++ maker t ∷ []) ++ held f.waiting)
    after =
        all_held (record f { going = Some (extended line t) })
        ∙ ap (λ l. held f.lines ++ (l ++ held f.waiting)) (append-nil (steps_in (extended line t)) ∙ extended_holds line t e)

    whole : IsPermutation ((held f.lines ++ (steps_in line ++ held f.waiting)) ++ maker t ∷ []) (held f.lines ++ ((steps_in line ++ maker t ∷ []) ++ held f.waiting))
    whole =
        subst (λ l. IsPermutation l (held f.lines ++ ((steps_in line ++ maker t ∷ []) ++ held f.waiting))) (sym (append_assoc (held f.lines) (steps_in line ++ held f.waiting) (maker t ∷ [])))
        (IsPermutation-append_right (held f.lines) _ _ (moved_back (steps_in line) (held f.waiting) (maker t)))

-- a step that does not wait
continued_holds : (f : Folded) (t : Told) (going : Option TraceLine) → f.going ≡ going
    → IsPermutation (held (all_lines f) ++ maker t ∷ []) (held (all_lines (continued f t going)))
continued_holds f t None o = started_holds f t
continued_holds f t (Some line) o = by_test (same_actor line.actor t.actor) (is_next_word line.last t.phase) refl
  where
    by_test : (same next : Bool) → same_actor line.actor t.actor ≡ same
        → IsPermutation (held (all_lines f) ++ maker t ∷ []) (held (all_lines (cond (same && next) (record f { going = Some (extended line t) }) (started f t))))
    by_test true true e = extended_open f t line o (same_is line.actor t.actor e)
    by_test true false e = started_holds f t
    by_test false next e = started_holds f t

-- one more step
step_holds : (f : Folded) (t : Told) (phase : Phase) → IsPermutation (held (all_lines f) ++ maker t ∷ []) (held (all_lines (folded_by f t phase)))
step_holds f t Waits =
    subst (λ l. IsPermutation (l ++ maker t ∷ []) (held (all_lines (folded_by f t Waits)))) (sym (all_held f))
    (subst (IsPermutation ((held f.lines ++ (held (open_lines f.going) ++ held f.waiting)) ++ maker t ∷ [])) (sym (all_held (folded_by f t Waits)))
    (third_more (held f.lines) (held (open_lines f.going)) (held f.waiting) (held (waited f.waiting t)) (maker t) (waited_holds f.waiting t)))
step_holds f t _ = continued_holds f t f.going refl

-- and all
steps_hold : (f : Folded) (steps : List Told) → IsPermutation (held (all_lines f) ++ map maker steps) (held (all_lines (folded f steps)))
steps_hold f [] = subst (λ l. IsPermutation l (held (all_lines f))) (sym (append-nil (held (all_lines f)))) (IsPermutation-refl (held (all_lines f)))
steps_hold f (t ∷ more) =
    subst (λ l. IsPermutation l (held (all_lines (folded (folded_by f t t.phase) more)))) (append_assoc (held (all_lines f)) (maker t ∷ []) (map maker more))
    (IsPermutation-trans _ _ _
    (IsPermutation-append_left (map maker more) (held (all_lines f) ++ maker t ∷ []) (held (all_lines (folded_by f t t.phase))) (step_holds f t t.phase))
    (steps_hold (folded_by f t t.phase) more))

pub lines_hold_steps : LinesHoldSteps
lines_hold_steps steps = steps_hold nothing_folded steps
