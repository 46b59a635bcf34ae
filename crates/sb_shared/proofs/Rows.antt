-- The words of the table and those of the world, after a step on a word.
use Rattle.std.proofs.Common.{◌≡◌, ◌∙◌, ap, subst, sym, ℕ, ◌<◌, Bool, true, false, eqb, if◌then◌else◌, List, [], length, length-set, set, get_or, get_or-set_same, get_or-set_other, arith}
use Rattle.std.proofs.lemmas.List.{set-get_or}
use native.Mathlib.Decide.{ℕ_discrete}
use mathlib.Core.Option as raw
use prog.Atomic.{either}
use Rattle.sb_actor.specs.Moves.{at}
use Rattle.sb_core.specs.Shared.{SharedAt, Sets, changed}
use Rattle.sb_core.specs.Words.{IsWordThere, loaded, stored, words_of}
use Rattle.sb_statements.specs.declared.statements.Word.{Word}
use Rattle.sb_shared.specs.Rule.{Shows, Slot, spot, stop_word, turn_word, word_count}

pub spot_small : (t c j : ℕ) → t < 8 → c < 8 → j < 65 → spot t c j < turn_word
spot_small t c j ht hc hj = omega arith

same_target : (t c j u d i : ℕ) → c < 8 → j < 65 → d < 8 → i < 65 → spot u d i ≡ spot t c j → u ≡ t
same_target t c j u d i hc hj hd hi e = omega arith

same_place : (t c j d i : ℕ) → c < 8 → j < 65 → d < 8 → i < 65 → spot t d i ≡ spot t c j → at d i ≡ at c j
same_place t c j d i hc hj hd hi e =
    let a : d ≡ c = omega arith in
    let b : i ≡ j = omega arith in
    omega arith

same_spot : (t c j d i : ℕ) → j < 65 → i < 65 → at d i ≡ at c j → spot t d i ≡ spot t c j
same_spot t c j d i hj hi e =
    let a : d ≡ c = omega arith in
    let b : i ≡ j = omega arith in
    omega arith

abbrev pub Rows : List ℕ → List (List ℕ) → Type 0
Rows words lists = (t c j : ℕ) → t < 8 → c < 8 → j < 65 → get_or words (spot t c j) 0 ≡ get_or (words_of lists t) (at c j) 0

-- a word is stored
module _ (words : List ℕ) (lists : List (List ℕ)) (t c j x : ℕ) (ht : t < 8) (hc : c < 8) (hj : j < 65) (sized : length words ≡ word_count)
    (listed : t < length lists) (inside : at c j < length (words_of lists t)) (rows : Rows words lists) where
  abbrev row : List ℕ
  row = words_of lists t

  abbrev wide : List ℕ
  wide = set words (spot t c j) x

  in_target : (d i : ℕ) → d < 8 → i < 65 → Dec (at d i ≡ at c j) → get_or wide (spot t d i) 0 ≡ get_or (set row (at c j) x) (at d i) 0
  in_target d i hd hi (yes e) =
      let room : spot t c j < length words = let s = spot_small t c j ht hc hj in omega (arith, s, sized) in
      ap (λ z. get_or wide z 0) (same_spot t c j d i hj hi e) ∙ get_or-set_same words (spot t c j) x 0 room
      ∙ sym (ap (λ z. get_or (set row (at c j) x) z 0) e ∙ get_or-set_same row (at c j) x 0 inside)
  in_target d i hd hi (no n) =
      get_or-set_other words (spot t c j) (spot t d i) x 0 (λ e. n (same_place t c j d i hc hj hd hi e)) ∙ rows t d i ht hd hi
      ∙ sym (get_or-set_other row (at c j) (at d i) x 0 n)

  pub rows_set : Rows wide (set lists t (set row (at c j) x))
  rows_set u d i hu hd hi = by_target (ℕ_discrete u t)
    where
      by_target : Dec (u ≡ t) → get_or wide (spot u d i) 0 ≡ get_or (words_of (set lists t (set row (at c j) x)) u) (at d i) 0
      by_target (yes e) =
          subst (λ z. get_or wide (spot z d i) 0 ≡ get_or (words_of (set lists t (set row (at c j) x)) z) (at d i) 0) (sym e)
          (in_target d i hd hi (ℕ_discrete (at d i) (at c j))
          ∙ ap (λ (ws : List ℕ). get_or ws (at d i) 0) (sym (get_or-set_same lists t (set row (at c j) x) [] listed)))
      by_target (no n) =
          get_or-set_other words (spot t c j) (spot u d i) x 0 (λ e. n (same_target t c j u d i hc hj hd hi e)) ∙ rows u d i hu hd hi
          ∙ ap (λ (ws : List ℕ). get_or ws (at d i) 0) (sym (get_or-set_other lists t u (set row (at c j) x) [] n))

-- the stop word stays
pub stop_stays : (words : List ℕ) (t c j x : ℕ) → t < 8 → c < 8 → j < 65 → get_or (set words (spot t c j) x) stop_word 0 ≡ get_or words stop_word 0
stop_stays words t c j x ht hc hj =
    get_or-set_other words (spot t c j) stop_word x 0 (λ e. let l = spot_small t c j ht hc hj in absurd (omega (arith, e, l)))

-- what all share, and the table
module _ (s : SharedAt) (words : List ℕ) (homes : List (raw.Option Slot)) (h : Shows s words homes) (t : ℕ) (word : Word) (near : IsWordThere s.words t word) where
  abbrev here : ℕ
  here = spot t word.channel word.at

  abbrev found : ℕ
  found = get_or words here 0

  pub found_is : loaded (words_of s.words t) word ≡ found
  found_is = sym (h.rows t word.channel word.at near.target near.channel near.low)

  -- a load
  pub shows_load : Shows s (set words here found) homes
  shows_load = subst (λ z. Shows s z homes) (sym (set-get_or words here 0)) h

  -- a store
  pub shows_store : (x : ℕ) → Shows (changed s (Sets t word x)) (set words here x) homes
  shows_store x =
      record {
        sized = length-set words here x ∙ h.sized;
        rows = rows_set words s.words t word.channel word.at x near.target near.channel near.low h.sized near.listed near.inside h.rows;
        turn = get_or-set_other words here turn_word x 0 (λ e. let l = spot_small t word.channel word.at near.target near.channel near.low in absurd (omega (arith, e, l))) ∙ h.turn;
        slot = h.slot;
      }

  -- an exchange
  pub shows_exchange : (to : ℕ) (b : Bool) → Shows (changed s (Sets t word (if b then to else found))) (set words here (either b to found)) homes
  shows_exchange to true = shows_store to
  shows_exchange to false = shows_store found
