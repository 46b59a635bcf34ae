-- What is shown of a line round a place is in what is near the place.
use Rattle.std.proofs.Common.{◌≡◌, ◌⊎◌, ⊎_elim, inl, inr, ◌∙◌, ℕ, ◌+◌, ◌-◌, ◌≤◌, min, false, ◌||◌, nat_lt, List, [], ◌∷◌, ◌++◌, length, take, drop, sym, ap, ap₂, arith}
use Rattle.std.proofs.lemmas.Bool.{cases_lt}
use Rattle.std.proofs.lemmas.Bool.Decides.{nat_tests}
use Rattle.std.proofs.lemmas.List.{take-take, take_all, drop_all, drop-take, drop-drop, length-take, length-drop}
use Rattle.sb_glyphs.specs.declared.glyphs.Glyph.{Glyph}
use Rattle.sb_glyphs.specs.Excerpts.{window_start, dots, excerpt_from, excerpt_in, excerpt, caret_from, caret_in, caret, excerpt_lines_in, excerpt_lines, blanks_under}
use Rattle.sb_glyphs.specs.Glyphs.{shown}
use Rattle.sb_glyphs.specs.Tokens.{quoted_token}
use Rattle.sb_glyphs.proofs.Named.{named_front}

-- the place, if it is on the line, and else the line's end; what is left out before it; and the place in what is near
abbrev on_line : ℕ → List Glyph → ℕ
on_line place glyphs = min place (length glyphs)

abbrev left_out : ℕ → List Glyph → ℕ
left_out place glyphs = on_line place glyphs - 120

abbrev place_in : ℕ → List Glyph → ℕ
place_in place glyphs = on_line place glyphs - left_out place glyphs

abbrev near_of : ℕ → List Glyph → List Glyph
near_of place glyphs = take 240 (drop (left_out place glyphs) glyphs)

near_length : (place : ℕ) (glyphs : List Glyph) → length (near_of place glyphs) ≡ min 240 (length glyphs - left_out place glyphs)
near_length place glyphs = length-take 240 (drop (left_out place glyphs) glyphs) ∙ ap (min 240) (length-drop (left_out place glyphs) glyphs)

-- where what is shown begins, there and on the line
starts : (place : ℕ) (glyphs : List Glyph) → window_start place (length glyphs) ≡ left_out place glyphs + window_start (place_in place glyphs) (length (near_of place glyphs))
starts place glyphs = rw (near_length place glyphs) (numbers place (length glyphs))
  where
    numbers : (c n : ℕ) → min (c - 60) (n - 120) ≡ (min c n - 120) + min ((min c n - (min c n - 120)) - 60) (min 240 (n - (min c n - 120)) - 120)
    numbers c n = omega arith

start_small : (place : ℕ) (glyphs : List Glyph) → window_start (place_in place glyphs) (length (near_of place glyphs)) ≤ 60
start_small place glyphs = omega arith

-- a part of what is near
part : (k s f : ℕ) (glyphs : List Glyph) → s ≤ 60 → k ≤ 180 → take k (drop s (take 240 (drop f glyphs))) ≡ take k (drop (f + s) glyphs)
part k s f glyphs hs hk =
    let e : 240 ≡ s + (240 - s) = omega (arith, hs) in
    ap (λ m. take k (drop s (take m (drop f glyphs)))) e ∙ ap (take k) (drop-take s (240 - s) (drop f glyphs))
    ∙ take-take k (240 - s) (drop s (drop f glyphs)) (omega (arith, hs, hk)) ∙ ap (take k) (drop-drop s f glyphs)

same_take : (a b : ℕ) (glyphs : List Glyph) → (a ≡ b) ⊎ ((length glyphs ≤ a) × (length glyphs ≤ b)) → take a glyphs ≡ take b glyphs
same_take a b glyphs (inl e) = ap (λ k. take k glyphs) e
same_take a b glyphs (inr h) = take_all a glyphs h.0 ∙ sym (take_all b glyphs h.1)

excerpt_near : (place : ℕ) (glyphs : List Glyph)
    → excerpt_in (nat_lt 0 (left_out place glyphs)) (place_in place glyphs) (near_of place glyphs) ≡ excerpt place glyphs
excerpt_near place glyphs =
    let f = left_out place glyphs in
    let s = window_start (place_in place glyphs) (length (near_of place glyphs)) in
    let small : s ≤ 60 = start_small place glyphs in
    let at : window_start place (length glyphs) ≡ f + s = starts place glyphs in
    let front : (nat_lt 0 f || nat_lt 0 s) ≡ nat_lt 0 (f + s) = either f s in
    let back : nat_lt 120 (length (near_of place glyphs) - s) ≡ nat_lt 120 (length glyphs - (f + s)) = ap (λ l. nat_lt 120 (l - s)) (near_length place glyphs) ∙ longer (length glyphs) f s small in
    ap₂ (λ b g. dots b ++ shown g ++ dots (nat_lt 120 (length (near_of place glyphs) - s))) front (part 120 s f glyphs small (omega arith))
    ∙ ap (λ b. dots (nat_lt 0 (f + s)) ++ shown (take 120 (drop (f + s) glyphs)) ++ dots b) back
    ∙ ap (λ start. excerpt_from false start glyphs) (sym at)
  where
    either : (a b : ℕ) → (nat_lt 0 a || nat_lt 0 b) ≡ nat_lt 0 (a + b)
    either a b = grind (arith, nat_tests)

    longer : (n f s : ℕ) → s ≤ 60 → nat_lt 120 (min 240 (n - f) - s) ≡ nat_lt 120 (n - (f + s))
    longer n f s h = grind (arith, nat_tests)

-- the front of a line, round its first place
pub front_near : (glyphs : List Glyph) → excerpt_in false 0 (take 240 glyphs) ≡ excerpt 0 glyphs
front_near glyphs =
    let none : left_out 0 glyphs ≡ 0 = omega arith in
    let first : place_in 0 glyphs ≡ 0 = omega arith in
    sym (ap₂ (λ f p. excerpt_in (nat_lt 0 f) p (take 240 (drop f glyphs))) none first) ∙ excerpt_near 0 glyphs

caret_near : (place : ℕ) (glyphs : List Glyph)
    → caret_in (nat_lt 0 (left_out place glyphs)) (place_in place glyphs) (near_of place glyphs) ≡ caret place glyphs
caret_near place glyphs =
    let f = left_out place glyphs in
    let p = place_in place glyphs in
    let s = window_start (place_in place glyphs) (length (near_of place glyphs)) in
    let small : s ≤ 60 = start_small place glyphs in
    let at : window_start place (length glyphs) ≡ f + s = starts place glyphs in
    let front : (nat_lt 0 f || nat_lt 0 s) ≡ nat_lt 0 (f + s) = either f s in
    let before : take (p - s) (drop s (near_of place glyphs)) ≡ take (place - (f + s)) (drop (f + s) glyphs) =
    part (p - s) s f glyphs small (omega arith) ∙ same_take (p - s) (place - (f + s)) (drop (f + s) glyphs) (shown_all place glyphs s) in
    ap₂ (λ b g. blanks_under (dots b) g ++ 94 ∷ []) front before
    ∙ ap (λ start. caret_from false start place glyphs) (sym at)
  where
    either : (a b : ℕ) → (nat_lt 0 a || nat_lt 0 b) ≡ nat_lt 0 (a + b)
    either a b = grind (arith, nat_tests)

    shown_all : (place : ℕ) (glyphs : List Glyph) (s : ℕ) → (place_in place glyphs - s ≡ place - (left_out place glyphs + s))
        ⊎ ((length (drop (left_out place glyphs + s) glyphs) ≤ place_in place glyphs - s) × (length (drop (left_out place glyphs + s) glyphs) ≤ place - (left_out place glyphs + s)))
    shown_all place glyphs s = ⊎_elim
        (λ past. inr (rw (length-drop (left_out place glyphs + s) glyphs) (omega (arith, past)), rw (length-drop (left_out place glyphs + s) glyphs) (omega (arith, past))))
        (λ on. inl (omega (arith, on))) (cases_lt (length glyphs) place)

pub lines_near : (place : ℕ) (glyphs : List Glyph)
    → excerpt_lines_in (nat_lt 0 (left_out place glyphs)) (place_in place glyphs) (near_of place glyphs) ≡ excerpt_lines place glyphs
lines_near place glyphs = ap₂ (λ e c. e ++ 10 ∷ c ++ 10 ∷ []) (excerpt_near place glyphs) (caret_near place glyphs)

pub named_near : (place : ℕ) (glyphs : List Glyph)
    → quoted_token (drop (place_in place glyphs) (near_of place glyphs)) ≡ quoted_token (drop place glyphs)
named_near place glyphs =
    let f = left_out place glyphs in
    let p = place_in place glyphs in
    let e : 240 ≡ p + (240 - p) = omega arith in
    ap (λ m. quoted_token (drop p (take m (drop f glyphs)))) e
    ∙ ap quoted_token (drop-take p (240 - p) (drop f glyphs) ∙ ap (take (240 - p)) (drop-drop p f glyphs))
    ∙ named_front (240 - p) (drop (f + p) glyphs) (omega arith)
    ∙ ap quoted_token (⊎_elim
    (λ past. drop_all (f + p) glyphs (omega (arith, past)) ∙ sym (drop_all place glyphs (omega (arith, past))))
    (λ on. ap (λ k. drop k glyphs) (omega (arith, on))) (cases_lt (length glyphs) place))
