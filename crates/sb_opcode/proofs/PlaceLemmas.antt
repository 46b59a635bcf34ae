-- Each way of seeking a fragment finds the places where it fits.
use Rattle.std.specs.Prelude.{Option, None, Some, option_and_then, is_some, nat_le, slice_index_or}
use Rattle.std.specs.Option.{option_or}
use Rattle.std.proofs.Common.{◌≡◌, ◌∙◌, ◌≤◌, ◌<◌, ℕ, ◌+◌, ◌-◌, zero, suc, Bool, true, false, cond, List, [], ◌∷◌, ◌++◌, length, drop, refl, ap, sym, subst, arith}
use Rattle.std.proofs.Math.Seq.{drop-nil}
use Rattle.std.proofs.lemmas.Bool.{false≢true, le-leb, leb-true}
use Rattle.std.proofs.lemmas.Option.{same_Some}
use Rattle.std.proofs.lemmas.List.{drop-drop, drop_all, get_or-drop, length-append, length-drop}
use Rattle.sb_rule.specs.declared.cells.Cell.{Cell}
use Rattle.sb_rule.specs.declared.cells.Cell.TheVariants.{One, Any}
use Rattle.sb_opcode.specs.Options.{has, FOLD}
use Rattle.sb_opcode.specs.declared.opcodes.Seek.TheVariants.{Skip}
use Rattle.sb_opcode.specs.Fragments.{unit_fits, after_fragment, after_first, after_end, after_seek, at_end}
use Rattle.sb_opcode.specs.Meaning.{after_text}
use Rattle.sb_opcode.specs.Places.{FitsAt, FirstFitsAt, SkipLeavesWhatFollows, ForwardTakesTheFirstPlace, ForwardMissesNoPlace, EndIsTheLastPlace, ExactLeavesNothing, StarsFitNowhere}

none_is_not_some : {A : Type 0} {P : Type 0} (x : A) → None ≡ Some x → P
none_is_not_some x e = absurd (false≢true (ap is_some e))

-- a fragment fits the front of a string
abbrev Fits : Bool → List Cell → List ℕ → Type 0
Fits fold cells us = (length cells ≤ length us) × ((i : ℕ) → i < length cells → unit_fits fold (slice_index_or cells i One) (slice_index_or us i 0) ≡ true)

-- and leaves what follows it
front : (fold : Bool) (cells : List Cell) (us rest : List ℕ) → after_fragment fold cells us ≡ Some rest → Fits fold cells us × (drop (length cells) us ≡ rest)
front fold [] us rest e = ((omega arith, (λ i h. absurd (omega (arith, h)))), same_Some us rest e)
front fold (c ∷ cells) [] rest e = none_is_not_some rest e
front fold (c ∷ cells) (u ∷ us) rest e = by (unit_fits fold c u) refl e (front fold cells us rest)
  where
    by : (b : Bool) → unit_fits fold c u ≡ b → cond b (after_fragment fold cells us) None ≡ Some rest
        → (after_fragment fold cells us ≡ Some rest → Fits fold cells us × (drop (length cells) us ≡ rest))
        → Fits fold (c ∷ cells) (u ∷ us) × (drop (length (c ∷ cells)) (u ∷ us) ≡ rest)
    by false h e later = none_is_not_some rest e
    by true h e later =
        let q = later e in
        ((omega (arith, q.0.0), each q.0.1), q.1)
      where
        each : ((i : ℕ) → i < length cells → unit_fits fold (slice_index_or cells i One) (slice_index_or us i 0) ≡ true)
            → (i : ℕ) → i < length (c ∷ cells) → unit_fits fold (slice_index_or (c ∷ cells) i One) (slice_index_or (u ∷ us) i 0) ≡ true
        each later zero less = h
        each later (suc i) less = later i (omega (arith, less))

back : (fold : Bool) (cells : List Cell) (us : List ℕ) → Fits fold cells us → after_fragment fold cells us ≡ Some (drop (length cells) us)
back fold [] us f = refl
back fold (c ∷ cells) [] f = absurd (omega (arith, f.0))
back fold (c ∷ cells) (u ∷ us) f =
    let first : unit_fits fold c u ≡ true = f.1 0 (omega arith) in
    let later : Fits fold cells us = (omega (arith, f.0), (λ i less. f.1 (suc i) (omega (arith, less)))) in
    (λ i. cond (first i) (after_fragment fold cells us) None) ∙ back fold cells us later

-- at a place within the string, a fragment fits exactly if it fits the front of what is left
abbrev Left : Bool → List Cell → List ℕ → ℕ → Type 0
Left fold cells us n = (n ≤ length us) × Fits fold cells (drop n us)

to_left : (fold : Bool) (cells : List Cell) (us : List ℕ) (n : ℕ) → FitsAt fold cells us n → Left fold cells us n
to_left fold cells us n f =
    let less : length (drop n us) ≡ length us - n = length-drop n us in (
      omega (arith, f.0),
      (omega (arith, f.0, less), (λ i h. ap (unit_fits fold (slice_index_or cells i One)) (get_or-drop n us i 0) ∙ f.1 i h)),
    )

from_left : (fold : Bool) (cells : List Cell) (us : List ℕ) (n : ℕ) → Left fold cells us n → FitsAt fold cells us n
from_left fold cells us n l =
    let less : length (drop n us) ≡ length us - n = length-drop n us in (
      omega (arith, l.0, l.1.0, less),
      (λ i h. ap (unit_fits fold (slice_index_or cells i One)) (sym (get_or-drop n us i 0)) ∙ l.1.1 i h),
    )

-- what follows a fragment at a place
follows : (cells : List Cell) (us : List ℕ) (n : ℕ) → drop (length cells) (drop n us) ≡ drop (n + length cells) us
follows cells us n = drop-drop (length cells) n us

pub skip_leaves : SkipLeavesWhatFollows
skip_leaves fold cells us rest n = (to (nat_le n (length us)) refl, there)
  where
    to : (b : Bool) → nat_le n (length us) ≡ b → option_and_then (after_fragment fold cells) (cond b (Some (drop n us)) None) ≡ Some rest
        → FitsAt fold cells us n × (rest ≡ drop (n + length cells) us)
    to false h e = none_is_not_some rest e
    to true h e =
        let q = front fold cells (drop n us) rest e in
        let inside : n ≤ length us = leb-true n (length us) h in
        (from_left fold cells us n (inside, q.0), sym q.1 ∙ follows cells us n)

    there : FitsAt fold cells us n × (rest ≡ drop (n + length cells) us) → after_seek (Skip n) fold cells us ≡ Some rest
    there f =
        let l = to_left fold cells us n f.0 in
        let inside : nat_le n (length us) ≡ true = le-leb n (length us) l.0 in
        (λ i. option_and_then (after_fragment fold cells) (cond (inside i) (Some (drop n us)) None))
        ∙ back fold cells (drop n us) l.1 ∙ ap Some (follows cells us n ∙ sym f.1)

-- the first place
abbrev First : Bool → List Cell → List ℕ → ℕ → Type 0
First fold cells us n = (n ≤ length us) × Fits fold cells (drop n us) × ((m : ℕ) → m < n → Fits fold cells (drop m us) → ⊥)

taken : (fold : Bool) (cells : List Cell) (us rest : List ℕ) → after_first fold cells us ≡ Some rest
    → (n : ℕ) × First fold cells us n × (drop (length cells) (drop n us) ≡ rest)
taken fold cells [] rest e =
    let q = front fold cells [] rest e in
    (0, (omega arith, q.0, (λ m h f. omega (arith, h))), q.1)
taken fold cells (u ∷ us) rest e = by (after_fragment fold cells (u ∷ us)) refl e (taken fold cells us rest)
  where
    by : (o : Option (List ℕ)) → after_fragment fold cells (u ∷ us) ≡ o → option_or o (after_first fold cells us) ≡ Some rest
        → (after_first fold cells us ≡ Some rest → (n : ℕ) × First fold cells us n × (drop (length cells) (drop n us) ≡ rest))
        → (n : ℕ) × First fold cells (u ∷ us) n × (drop (length cells) (drop n (u ∷ us)) ≡ rest)
    by (Some left) h e later =
        let q = front fold cells (u ∷ us) left h in
        (0, (omega arith, q.0, (λ m less f. omega (arith, less))), q.1 ∙ same_Some left rest e)
    by None h e later =
        let p = later e in
        (suc p.0, (omega (arith, p.1.0), p.1.1, before p.0 p.1.2), p.2)
      where
        before : (n : ℕ) → ((m : ℕ) → m < n → Fits fold cells (drop m us) → ⊥) → (m : ℕ) → m < suc n → Fits fold cells (drop m (u ∷ us)) → ⊥
        before n none zero less f = false≢true (ap is_some (sym h ∙ back fold cells (u ∷ us) f))
        before n none (suc m) less f = none m (omega (arith, less)) f

found : (fold : Bool) (cells : List Cell) (us : List ℕ) (n : ℕ) → Fits fold cells (drop n us) → ((m : ℕ) → m < n → Fits fold cells (drop m us) → ⊥)
    → after_first fold cells us ≡ Some (drop (length cells) (drop n us))
found fold cells [] n f none =
    let here : Fits fold cells [] = subst (Fits fold cells) (drop-nil n) f in
    back fold cells [] here ∙ ap (λ l. Some (drop (length cells) l)) (sym (drop-nil n))
found fold cells (u ∷ us) zero f none = ap (λ o. option_or o (after_first fold cells us)) (back fold cells (u ∷ us) f)
found fold cells (u ∷ us) (suc n) f none =
    by (after_fragment fold cells (u ∷ us)) refl
    (found fold cells us n f (λ m less g. none (suc m) (omega (arith, less)) g))
  where
    by : (o : Option (List ℕ)) → after_fragment fold cells (u ∷ us) ≡ o → after_first fold cells us ≡ Some (drop (length cells) (drop n us))
        → option_or o (after_first fold cells us) ≡ Some (drop (length cells) (drop n us))
    by None h later = later
    by (Some left) h later = absurd (none 0 (omega arith) (front fold cells (u ∷ us) left h).0)

pub forward_takes : ForwardTakesTheFirstPlace
forward_takes fold cells us rest = (to, there)
  where
    to : after_first fold cells us ≡ Some rest → (place : ℕ) × FirstFitsAt fold cells us place × (rest ≡ drop (place + length cells) us)
    to e =
        let p = taken fold cells us rest e in (
          p.0,
          (from_left fold cells us p.0 (p.1.0, p.1.1), (λ m less f. p.1.2 m less (to_left fold cells us m f).1)),
          sym p.2 ∙ follows cells us p.0,
        )

    there : (place : ℕ) × FirstFitsAt fold cells us place × (rest ≡ drop (place + length cells) us) → after_first fold cells us ≡ Some rest
    there p =
        let l = to_left fold cells us p.0 p.1.0 in
        found fold cells us p.0 l.1 (λ m less f. p.1.1 m less (from_left fold cells us m (omega (arith, less, l.0), f)))
        ∙ ap Some (follows cells us p.0 ∙ sym p.2)

missed : (fold : Bool) (cells : List Cell) (us : List ℕ) → after_first fold cells us ≡ None → (n : ℕ) → Fits fold cells (drop n us) → ⊥
missed fold cells [] e n f =
    let here : Fits fold cells [] = subst (Fits fold cells) (drop-nil n) f in
    false≢true (ap is_some (sym e ∙ back fold cells [] here))
missed fold cells (u ∷ us) e n f = by (after_fragment fold cells (u ∷ us)) refl e (missed fold cells us) n f
  where
    by : (o : Option (List ℕ)) → after_fragment fold cells (u ∷ us) ≡ o → option_or o (after_first fold cells us) ≡ None
        → (after_first fold cells us ≡ None → (n : ℕ) → Fits fold cells (drop n us) → ⊥) → (n : ℕ) → Fits fold cells (drop n (u ∷ us)) → ⊥
    by (Some left) h e later n f = false≢true (sym (ap is_some e))
    by None h e later zero f = false≢true (ap is_some (sym h ∙ back fold cells (u ∷ us) f))
    by None h e later (suc n) f = later e n f

pub forward_misses : ForwardMissesNoPlace
forward_misses fold cells us = ((λ e n f. missed fold cells us e n (to_left fold cells us n f).1), (λ none. by (after_first fold cells us) refl none))
  where
    by : (o : Option (List ℕ)) → after_first fold cells us ≡ o → ((n : ℕ) → FitsAt fold cells us n → ⊥) → o ≡ None
    by None e none = refl
    by (Some rest) e none =
        let p = taken fold cells us rest e in
        absurd (none p.0 (from_left fold cells us p.0 (p.1.0, p.1.1)))

pub end_is_last : EndIsTheLastPlace
end_is_last fold cells us rest = (to (nat_le (length cells) (length us)) refl, there)
  where
    nothing : length cells ≤ length us → drop (length cells) (drop (length us - length cells) us) ≡ []
    nothing h = drop-drop (length cells) (length us - length cells) us ∙ drop_all (length us - length cells + length cells) us (omega (arith, h))

    to : (b : Bool) → nat_le (length cells) (length us) ≡ b → cond b (after_fragment fold cells (drop (length us - length cells) us)) None ≡ Some rest
        → FitsAt fold cells us (length us - length cells) × (rest ≡ [])
    to false h e = none_is_not_some rest e
    to true h e =
        let q = front fold cells (drop (length us - length cells) us) rest e in
        let inside : length cells ≤ length us = leb-true (length cells) (length us) h in
        (from_left fold cells us (length us - length cells) (omega arith, q.0), sym q.1 ∙ nothing inside)

    there : FitsAt fold cells us (length us - length cells) × (rest ≡ []) → after_end fold cells us ≡ Some rest
    there f =
        let l = to_left fold cells us (length us - length cells) f.0 in
        let inside : length cells ≤ length us = omega (arith, f.0.0) in
        let test : nat_le (length cells) (length us) ≡ true = le-leb (length cells) (length us) inside in
        (λ i. cond (test i) (after_fragment fold cells (drop (length us - length cells) us)) None)
        ∙ back fold cells (drop (length us - length cells) us) l.1 ∙ ap Some (nothing inside ∙ sym f.1)

ended : (o : Option (List ℕ)) (rest : List ℕ) → at_end o ≡ Some rest → (o ≡ Some []) × (rest ≡ [])
ended None rest e = none_is_not_some rest e
ended (Some []) rest e = (refl, sym (same_Some [] rest e))
ended (Some (u ∷ us)) rest e = none_is_not_some rest e

pub exact_leaves : ExactLeavesNothing
exact_leaves cells seek options us rest h =
    let left = after_seek seek (has options FOLD) cells us in
    let exact : after_text cells seek options us ≡ at_end left = (λ i. cond (h i) (at_end left) left) in (
      (λ e. ended left rest (sym exact ∙ e)),
      (λ p. exact ∙ ap at_end p.0 ∙ ap Some (sym p.1)),
    )

star_at : (before after : List Cell) → slice_index_or (before ++ Any ∷ after) (length before) One ≡ Any
star_at [] after = refl
star_at (c ∷ before) after = star_at before after

pub stars_fit : StarsFitNowhere
stars_fit fold before after us n f =
    let less : length before < length (before ++ Any ∷ after) = omega (arith, length-append before (Any ∷ after)) in
    let fits = f.1 (length before) less in
    false≢true (ap (λ c. unit_fits fold c (slice_index_or us (n + length before) 0)) (sym (star_at before after)) ∙ fits)
