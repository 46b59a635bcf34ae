-- Opening lines, and the namespace that they lead to.
use Rattle.std.proofs.Common.{◌≡◌, ◌∙◌, refl, sym, ap, subst, arith, ℕ, ◌+◌, ◌<◌, true, List, [], ◌∷◌, ◌++◌, length, Option, None, Some, Result, Ok, Err}
use Rattle.std.specs.Prelude.{is_ok, is_some, unwrap_or}
use Rattle.sb_statements.specs.declared.scripts.StartLine.{StartLine}
use Rattle.sb_kernel.specs.Kept.{MadeAtMost}
use Rattle.sb_kernel.specs.Namespaces.{Space, empty_space}
use Rattle.sb_kernel.specs.Openings.{placed, opened_from, opened, opening, space_or_empty, OpeningsMakeFew}
use Rattle.sb_scripttext.specs.Openings.{can_place}

-- the namespace that lines lead to
pub opening_is : (lines : List StartLine) (ns : Space) → opened lines ≡ Ok ns → opening lines ≡ ns
opening_is lines ns e = ap space_or_empty e

-- there is room for one object more if the lines are fewer than 4,096
pub room_made : OpeningsMakeFew → (lines : List StartLine) (ns : Space) → opened lines ≡ Ok ns → length lines < 4096 → MadeAtMost 4095 ns
room_made law lines ns e l =
    let made = law lines ns e in
    record {
      files = omega (arith, l, made.files);
      pipes = omega (arith, l, made.pipes);
      keys = omega (arith, l, made.keys);
      events = omega (arith, l, made.events);
    }

-- the namespace with a line placed, and what follows it; or the place of that line
abbrev went : ℕ → Option Space → (Space → Result Space ℕ) → Result Space ℕ
went at o follow = elim o [ None ↦ Err at | Some next ↦ follow next ]

same : (a b : Space) → ◌≡◌ {A = Result Space ℕ} (Ok a) (Ok b) → a ≡ b
same a b e = cc

-- after lines that lead to a namespace one more leads to that with the line placed
behind : (lines : List StartLine) (line : StartLine) (at : ℕ) (ns mid : Space) → opened_from at ns lines ≡ Ok mid → is_some (placed mid line) ≡ true
    → opened_from at ns (lines ++ line ∷ []) ≡ Ok (unwrap_or (placed mid line) mid)
behind [] line at ns mid e h = subst (λ ns. opened_from at ns (line ∷ []) ≡ Ok (unwrap_or (placed mid line) mid)) (sym (same ns mid e)) (by (placed mid line) h)
  where
    by : (o : Option Space) → is_some o ≡ true
        → ◌≡◌ {A = Result Space ℕ} (elim o [ None ↦ Err at | Some next ↦ opened_from (at + 1) next [] ]) (Ok (unwrap_or o mid))
    by None h = absurd cc
    by (Some next) h = refl
behind (x ∷ lines) line at ns mid e h = by (placed ns x) (λ next e. behind lines line (at + 1) next mid e h) e
  where
    by : (o : Option Space)
        → ((next : Space) → opened_from (at + 1) next lines ≡ Ok mid → opened_from (at + 1) next (lines ++ line ∷ []) ≡ Ok (unwrap_or (placed mid line) mid))
        → ◌≡◌ {A = Result Space ℕ} (went at o (λ next. opened_from (at + 1) next lines)) (Ok mid)
        → ◌≡◌ {A = Result Space ℕ} (elim o [ None ↦ Err at | Some next ↦ opened_from (at + 1) next (lines ++ line ∷ []) ]) (Ok (unwrap_or (placed mid line) mid))
    by None step e = absurd cc
    by (Some next) step e = step next e

-- a line that is placed in the namespace of the lines before it leads on
pub opened_placed : (lines : List StartLine) (line : StartLine) (ns next : Space) → opened lines ≡ Ok ns → is_some (placed ns line) ≡ true
    → next ≡ unwrap_or (placed ns line) ns → opened (lines ++ line ∷ []) ≡ Ok next
opened_placed lines line ns next e h n = behind lines line 0 empty_space ns e h ∙ ap Ok (sym n)

-- a line that can be placed leads on
pub opened_with : (lines : List StartLine) (line : StartLine) (ns next : Space) → opened lines ≡ Ok ns → can_place lines line ≡ true
    → next ≡ unwrap_or (placed ns line) ns → opened (lines ++ line ∷ []) ≡ Ok next
opened_with lines line ns next e h n = opened_placed lines line ns next e (ap (λ ns. is_some (placed ns line)) (sym (opening_is lines ns e)) ∙ h) n

-- lines that lead to a namespace, and one more that can be placed
pub opens_with : (lines : List StartLine) (line : StartLine) → is_ok (opened lines) ≡ true → can_place lines line ≡ true
    → is_ok (opened (lines ++ line ∷ [])) ≡ true
opens_with lines line h k = by (opened lines) refl h
  where
    by : (o : Result Space ℕ) → opened lines ≡ o → is_ok o ≡ true → is_ok (opened (lines ++ line ∷ [])) ≡ true
    by (Ok ns) e h = ap is_ok (opened_with lines line ns (unwrap_or (placed ns line) ns) e k refl)
    by (Err at) e h = absurd cc

-- each of the lines that lead to a namespace can be placed after those before it
places : (before : List StartLine) (line : StartLine) (more : List StartLine) (at : ℕ) (ns : Space)
    → is_ok (opened_from at ns (before ++ line ∷ more)) ≡ true → is_some (placed (space_or_empty (opened_from at ns before)) line) ≡ true
places [] line more at ns h = by (placed ns line) h
  where
    by : (o : Option Space) → is_ok (went at o (λ next. opened_from (at + 1) next more)) ≡ true → is_some o ≡ true
    by None h = h
    by (Some next) h = refl
places (x ∷ before) line more at ns h = by (placed ns x) (λ next h. places before line more (at + 1) next h) h
  where
    by : (o : Option Space)
        → ((next : Space) → is_ok (opened_from (at + 1) next (before ++ line ∷ more)) ≡ true
        → is_some (placed (space_or_empty (opened_from (at + 1) next before)) line) ≡ true)
        → is_ok (went at o (λ next. opened_from (at + 1) next (before ++ line ∷ more))) ≡ true
        → is_some (placed (space_or_empty (went at o (λ next. opened_from (at + 1) next before))) line) ≡ true
    by None step h = absurd cc
    by (Some next) step h = step next h

pub place_within : (before : List StartLine) (line : StartLine) (more : List StartLine) → is_ok (opened (before ++ line ∷ more)) ≡ true → can_place before line ≡ true
place_within before line more h = places before line more 0 empty_space h
