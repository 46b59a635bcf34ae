-- What the rows say of one entry more.
use Rattle.std.proofs.Common.{◌≡◌, refl, sym, subst, ap, ◌∙◌, ◌<◌, ◌≤◌, ℕ, zero, suc, ◌+◌, ◌/◌, List, [], ◌∷◌, ◌++◌, Bool, true, false, not, ◌&&◌, ◌||◌, ◌==◌, length, get_or, if◌then◌else◌, arith}
use Rattle.std.proofs.lemmas.Bool.{and_parts, false≢true}
use Rattle.std.proofs.lemmas.Bool.Decides.{nat_tests}
use Rattle.std.proofs.lemmas.List.Folds.{list_any-append, list_all-append}
use Rattle.std.specs.Prelude.{nat_le, nat_lt, Option, None, Some}
use Rattle.std.specs.List.{list_all, list_any}
use Rattle.sb_actor.specs.Places.{mark_at}
use Rattle.sb_statements.specs.Scripts.{is_clean}
use Rattle.sb_statements.specs.declared.scripts.Script.{Script}
use Rattle.sb_transcript.specs.declared.read_lines.EntryLine.{EntryLine}
use Rattle.sb_transcript.specs.declared.read_lines.ShownResult.{ShownResult}
use Rattle.sb_audit.specs.Before.{target_of}
use Rattle.sb_audit.specs.Clauses.{answers_call, fits_entries, has_entry, is_above, is_number, is_of_thread, is_on_clean, is_reply_of, place_of, thread_of}
use Rattle.sb_audit.specs.Kept.{RowsFollow}
use Rattle.sb_audit.specs.Rows.{IsPut, KeepsRows, fits_slot, has_slot, row_at, slot_at}
use Rattle.sb_audit.specs.declared.slots.OwnReply.{OwnReply}

and_true : (b : Bool) → (b && true) ≡ b
and_true true = refl
and_true false = refl

or_false : (b : Bool) → (b || false) ≡ b
or_false true = refl
or_false false = refl

-- one element more of a list
all_one : {X : Type 0} (p : X → Bool) (xs : List X) (x : X) → list_all p (xs ++ x ∷ []) ≡ (list_all p xs && p x)
all_one p xs x = subst (λ b. list_all p (xs ++ x ∷ []) ≡ (list_all p xs && b)) (and_true (p x)) (list_all-append p xs (x ∷ []))

any_one : {X : Type 0} (p : X → Bool) (xs : List X) (x : X) → list_any p (xs ++ x ∷ []) ≡ (list_any p xs || p x)
any_one p xs x = subst (λ b. list_any p (xs ++ x ∷ []) ≡ (list_any p xs || b)) (or_false (p x)) (list_any-append p xs (x ∷ []))

all_stays : {X : Type 0} (p : X → Bool) (xs : List X) (x : X) → p x ≡ true → list_all p (xs ++ x ∷ []) ≡ list_all p xs
all_stays p xs x h = all_one p xs x ∙ (ap (λ b. list_all p xs && b) h ∙ and_true (list_all p xs))

any_stays : {X : Type 0} (p : X → Bool) (xs : List X) (x : X) → p x ≡ false → list_any p (xs ++ x ∷ []) ≡ list_any p xs
any_stays p xs x h = any_one p xs x ∙ (ap (λ b. list_any p xs || b) h ∙ or_false (list_any p xs))

equal_test : (a b : ℕ) → a ≡ b → (a == b) ≡ true
equal_test a b e = grind (arith, nat_tests)

tested_equal : (a b : ℕ) → (a == b) ≡ true → a ≡ b
tested_equal a b e = grind (arith, nat_tests)

past_end : (xs : List (Option OwnReply)) (p : ℕ) → length xs ≤ p → get_or xs p None ≡ None
past_end [] p h = refl
past_end (x ∷ xs) zero h = absurd (omega arith)
past_end (x ∷ xs) (suc p) h = past_end xs p (omega arith)

-- the reply on a clean channel
abbrev own_of : EntryLine → OwnReply
own_of e = record { channel = e.channel; reply = e.reply }

module _ (script : Script) (es : List EntryLine) (e : EntryLine) (t0 : ℕ) (named : target_of script e.target ≡ Some t0) where
  -- the entry is one of its target
  is_its : (t : ℕ) → is_on_clean script t e ≡ (t0 == t && is_clean script t e.channel)
  is_its t = ap (λ o. is_number t o && is_clean script t e.channel) named

  -- on a channel that is not clean
  not_clean : is_clean script t0 e.channel ≡ false → (t : ℕ) → is_on_clean script t e ≡ false
  not_clean unclean t = is_its t ∙ by_test (t0 == t) refl
    where
      by_test : (b : Bool) → (t0 == t) ≡ b → (b && is_clean script t e.channel) ≡ false
      by_test false h = refl
      by_test true h = subst (λ u. is_clean script u e.channel ≡ false) (tested_equal t0 t h) unclean

  on_clean : is_clean script t0 e.channel ≡ true → (t : ℕ) → is_on_clean script t e ≡ (t0 == t)
  on_clean clean t = is_its t ∙ by_test (t0 == t) refl
    where
      by_test : (b : Bool) → (t0 == t) ≡ b → (b && is_clean script t e.channel) ≡ b
      by_test false h = refl
      by_test true h = subst (λ u. is_clean script u e.channel ≡ true) (tested_equal t0 t h) clean

  above_stays : (t k p : ℕ) → is_of_thread script t k e ≡ false → is_above script (es ++ e ∷ []) t k p ≡ is_above script es t k p
  above_stays t k p h = all_stays (λ x. not (is_of_thread script t k x) || nat_lt (place_of x.mark) p) es e (ap (λ b. not b || nat_lt (place_of e.mark) p) h)

  has_stays : (t m : ℕ) (r : ShownResult) → answers_call script t m e ≡ false → has_entry script (es ++ e ∷ []) t m r ≡ has_entry script es t m r
  has_stays t m r h = any_stays (λ x. answers_call script t m x && is_reply_of r x.channel x.reply) es e (ap (λ b. b && is_reply_of r e.channel e.reply) h)

  fits_stays : (t m : ℕ) (r : ShownResult) → answers_call script t m e ≡ false → fits_entries script (es ++ e ∷ []) t m r ≡ fits_entries script es t m r
  fits_stays t m r h = all_stays (λ x. not (answers_call script t m x) || is_reply_of r x.channel x.reply) es e (ap (λ b. not b || is_reply_of r e.channel e.reply) h)

  -- rows keep what they say if the entry is on a channel that is not clean
  unclean_keeps : is_clean script t0 e.channel ≡ false → (rows : List (List (Option OwnReply))) → KeepsRows script es rows → KeepsRows script (es ++ e ∷ []) rows
  unclean_keeps unclean rows keeps = record {
    above = λ t k p. above_stays t k p (ap (λ b. b && e.mark / 65536 == k + 1) (not_clean unclean t)) ∙ keeps.above t k p;
    has = λ t k p r small. has_stays t (mark_at k p) r (ap (λ b. b && e.mark == mark_at k p) (not_clean unclean t)) ∙ keeps.has t k p r small;
    fits = λ t k p r small. fits_stays t (mark_at k p) r (ap (λ b. b && e.mark == mark_at k p) (not_clean unclean t)) ∙ keeps.fits t k p r small;
  }

  module _ (clean : is_clean script t0 e.channel ≡ true) (marked : 65536 ≤ e.mark) where
    quotient : e.mark / 65536 ≡ thread_of e.mark + 1
    quotient = omega arith

    of_thread_is : (t k : ℕ) → is_of_thread script t k e ≡ (t0 == t && thread_of e.mark == k)
    of_thread_is t k = ap (λ b. b && e.mark / 65536 == k + 1) (on_clean clean t) ∙ ap (λ b. t0 == t && b) same
      where
        same : (e.mark / 65536 == k + 1) ≡ (thread_of e.mark == k)
        same = let q = quotient in shifted (e.mark / 65536) (thread_of e.mark) k q
          where
            shifted : (a b c : ℕ) → a ≡ b + 1 → (a == c + 1) ≡ (b == c)
            shifted a b c h = grind (arith, nat_tests)

    -- it answers the call of its own mark alone
    answers_is : (t k p : ℕ) → p < 65536 → answers_call script t (mark_at k p) e ≡ ((t0 == t && thread_of e.mark == k) && place_of e.mark == p)
    answers_is t k p small = ap (λ b. b && e.mark == mark_at k p) (on_clean clean t) ∙ parts (t0 == t) (e.mark == mark_at k p) (thread_of e.mark == k) (place_of e.mark == p) same
      where
        parts : (a b c d : Bool) → b ≡ (c && d) → (a && b) ≡ ((a && c) && d)
        parts true b c d h = h
        parts false b c d h = refl

        same : (e.mark == mark_at k p) ≡ (thread_of e.mark == k && place_of e.mark == p)
        same = by_cases (thread_of e.mark == k && place_of e.mark == p) refl
          where
            by_cases : (b : Bool) → (thread_of e.mark == k && place_of e.mark == p) ≡ b → (e.mark == mark_at k p) ≡ b
            by_cases true h =
                let both = and_parts (thread_of e.mark == k) (place_of e.mark == p) h in
                let k_is = tested_equal (thread_of e.mark) k both.0 in
                let p_is = tested_equal (place_of e.mark) p both.1 in
                equal_test e.mark (mark_at k p) (omega arith)
            by_cases false h = by_equal (e.mark == mark_at k p) refl
              where
                by_equal : (b : Bool) → (e.mark == mark_at k p) ≡ b → b ≡ false
                by_equal false g = refl
                by_equal true g =
                    let m = tested_equal e.mark (mark_at k p) g in
                    let k_is : thread_of e.mark ≡ k = omega arith in
                    let p_is : place_of e.mark ≡ p = omega arith in
                    absurd (false≢true (sym h ∙ subst (λ x. (x && place_of e.mark == p) ≡ true) (sym (equal_test (thread_of e.mark) k k_is)) (equal_test (place_of e.mark) p p_is)))

    module _ (old new : List (List (Option OwnReply))) (keeps : KeepsRows script es old) (above : length (row_at old t0 (thread_of e.mark)) ≤ place_of e.mark)
        (put : IsPut t0 (thread_of e.mark) (place_of e.mark) (own_of e) old new) where
      here_above : (p : ℕ) → is_above script (es ++ e ∷ []) t0 (thread_of e.mark) p ≡ nat_le (length (row_at new t0 (thread_of e.mark))) p
      here_above p =
          let k0 = thread_of e.mark in
          let its : is_of_thread script t0 k0 e ≡ true = of_thread_is t0 k0 ∙ both t0 k0 in
          all_one (λ x. not (is_of_thread script t0 k0 x) || nat_lt (place_of x.mark) p) es e
          ∙ (ap (λ b. is_above script es t0 k0 p && (not b || nat_lt (place_of e.mark) p)) its
          ∙ (ap (λ b. b && nat_lt (place_of e.mark) p) (keeps.above t0 k0 p)
          ∙ lengths (length (row_at old t0 k0)) (length (row_at new t0 k0)) (place_of e.mark) p above put.here.size))
        where
          both : (a b : ℕ) → (a == a && b == b) ≡ true
          both a b = subst (λ x. (x && b == b) ≡ true) (sym (equal_test a a refl)) (equal_test b b refl)

          lengths : (a b c p : ℕ) → a ≤ c → b ≡ c + 1 → (nat_le a p && nat_lt c p) ≡ nat_le b p
          lengths a b c p h s = grind (arith, nat_tests)

      other_above : (t k p : ℕ) → (t0 == t && thread_of e.mark == k) ≡ false → is_above script (es ++ e ∷ []) t k p ≡ nat_le (length (row_at new t k)) p
      other_above t k p h =
          above_stays t k p (of_thread_is t k ∙ h) ∙ (keeps.above t k p ∙ ap (λ row. nat_le (length row) p) (sym (put.others t k h)))

      keeps_above : (t k p : ℕ) → is_above script (es ++ e ∷ []) t k p ≡ nat_le (length (row_at new t k)) p
      keeps_above t k p = by_test (t0 == t && thread_of e.mark == k) refl
        where
          by_test : (b : Bool) → (t0 == t && thread_of e.mark == k) ≡ b → is_above script (es ++ e ∷ []) t k p ≡ nat_le (length (row_at new t k)) p
          by_test false h = other_above t k p h
          by_test true h =
              let parts = and_parts (t0 == t) (thread_of e.mark == k) h in
              let t_is = tested_equal t0 t parts.0 in
              let k_is = tested_equal (thread_of e.mark) k parts.1 in
              subst (λ u. is_above script (es ++ e ∷ []) u k p ≡ nat_le (length (row_at new u k)) p) t_is
              (subst (λ j. is_above script (es ++ e ∷ []) t0 j p ≡ nat_le (length (row_at new t0 j)) p) k_is (here_above p))

      -- the replies that are kept
      same_slot : (t k p : ℕ) → ((t0 == t && thread_of e.mark == k) && place_of e.mark == p) ≡ false → slot_at new t k p ≡ slot_at old t k p
      same_slot t k p h = by_test (t0 == t && thread_of e.mark == k) refl
        where
          by_test : (b : Bool) → (t0 == t && thread_of e.mark == k) ≡ b → slot_at new t k p ≡ slot_at old t k p
          by_test false g = ap (λ row. get_or row p None) (put.others t k g)
          by_test true g =
              let parts = and_parts (t0 == t) (thread_of e.mark == k) g in
              let t_is = tested_equal t0 t parts.0 in
              let k_is = tested_equal (thread_of e.mark) k parts.1 in
              let not_here : (place_of e.mark == p) ≡ false = sym (ap (λ b. b && place_of e.mark == p) g) ∙ h in
              subst (λ u. slot_at new u k p ≡ slot_at old u k p) t_is
              (subst (λ j. slot_at new t0 j p ≡ slot_at old t0 j p) k_is
              (subst (λ b. slot_at new t0 (thread_of e.mark) p ≡ (if b then Some (own_of e) else slot_at old t0 (thread_of e.mark) p)) not_here (put.here.slots p)))

      new_slot : slot_at new t0 (thread_of e.mark) (place_of e.mark) ≡ Some (own_of e)
      new_slot =
          subst (λ b. slot_at new t0 (thread_of e.mark) (place_of e.mark) ≡ (if b then Some (own_of e) else slot_at old t0 (thread_of e.mark) (place_of e.mark)))
          (equal_test (place_of e.mark) (place_of e.mark) refl) (put.here.slots (place_of e.mark))

      no_slot : slot_at old t0 (thread_of e.mark) (place_of e.mark) ≡ None
      no_slot = past_end (row_at old t0 (thread_of e.mark)) (place_of e.mark) above

      place_small : place_of e.mark < 65536
      place_small = omega arith

      keeps_has : (t k p : ℕ) (r : ShownResult) → p < 65536 → has_entry script (es ++ e ∷ []) t (mark_at k p) r ≡ has_slot r (slot_at new t k p)
      keeps_has t k p r small = by_test ((t0 == t && thread_of e.mark == k) && place_of e.mark == p) refl
        where
          here : answers_call script t0 (mark_at (thread_of e.mark) (place_of e.mark)) e ≡ true
              → has_entry script (es ++ e ∷ []) t0 (mark_at (thread_of e.mark) (place_of e.mark)) r ≡ has_slot r (slot_at new t0 (thread_of e.mark) (place_of e.mark))
          here a =
              any_one (λ x. answers_call script t0 (mark_at (thread_of e.mark) (place_of e.mark)) x && is_reply_of r x.channel x.reply) es e
              ∙ (ap (λ b. has_entry script es t0 (mark_at (thread_of e.mark) (place_of e.mark)) r || (b && is_reply_of r e.channel e.reply)) a
              ∙ (ap (λ b. b || is_reply_of r e.channel e.reply) (keeps.has t0 (thread_of e.mark) (place_of e.mark) r place_small ∙ ap (has_slot r) no_slot)
              ∙ sym (ap (has_slot r) new_slot)))

          by_test : (b : Bool) → ((t0 == t && thread_of e.mark == k) && place_of e.mark == p) ≡ b → has_entry script (es ++ e ∷ []) t (mark_at k p) r ≡ has_slot r (slot_at new t k p)
          by_test false h = has_stays t (mark_at k p) r (answers_is t k p small ∙ h) ∙ (keeps.has t k p r small ∙ ap (has_slot r) (sym (same_slot t k p h)))
          by_test true h =
              let outer = and_parts (t0 == t && thread_of e.mark == k) (place_of e.mark == p) h in
              let parts = and_parts (t0 == t) (thread_of e.mark == k) outer.0 in
              let t_is = tested_equal t0 t parts.0 in
              let k_is = tested_equal (thread_of e.mark) k parts.1 in
              let p_is = tested_equal (place_of e.mark) p outer.1 in
              let a : answers_call script t (mark_at k p) e ≡ true = answers_is t k p small ∙ h in
              let at_place : answers_call script t (mark_at k (place_of e.mark)) e ≡ true = subst (λ q. answers_call script t (mark_at k q) e ≡ true) (sym p_is) a in
              let at_thread : answers_call script t (mark_at (thread_of e.mark) (place_of e.mark)) e ≡ true = subst (λ j. answers_call script t (mark_at j (place_of e.mark)) e ≡ true) (sym k_is) at_place in
              let at_target : answers_call script t0 (mark_at (thread_of e.mark) (place_of e.mark)) e ≡ true = subst (λ u. answers_call script u (mark_at (thread_of e.mark) (place_of e.mark)) e ≡ true) (sym t_is) at_thread in
              subst (λ u. has_entry script (es ++ e ∷ []) u (mark_at k p) r ≡ has_slot r (slot_at new u k p)) t_is
              (subst (λ j. has_entry script (es ++ e ∷ []) t0 (mark_at j p) r ≡ has_slot r (slot_at new t0 j p)) k_is
              (subst (λ q. has_entry script (es ++ e ∷ []) t0 (mark_at (thread_of e.mark) q) r ≡ has_slot r (slot_at new t0 (thread_of e.mark) q)) p_is (here at_target)))

      keeps_fits : (t k p : ℕ) (r : ShownResult) → p < 65536 → fits_entries script (es ++ e ∷ []) t (mark_at k p) r ≡ fits_slot r (slot_at new t k p)
      keeps_fits t k p r small = by_test ((t0 == t && thread_of e.mark == k) && place_of e.mark == p) refl
        where
          here : answers_call script t0 (mark_at (thread_of e.mark) (place_of e.mark)) e ≡ true
              → fits_entries script (es ++ e ∷ []) t0 (mark_at (thread_of e.mark) (place_of e.mark)) r ≡ fits_slot r (slot_at new t0 (thread_of e.mark) (place_of e.mark))
          here a =
              all_one (λ x. not (answers_call script t0 (mark_at (thread_of e.mark) (place_of e.mark)) x) || is_reply_of r x.channel x.reply) es e
              ∙ (ap (λ b. fits_entries script es t0 (mark_at (thread_of e.mark) (place_of e.mark)) r && (not b || is_reply_of r e.channel e.reply)) a
              ∙ (ap (λ b. b && is_reply_of r e.channel e.reply) (keeps.fits t0 (thread_of e.mark) (place_of e.mark) r place_small ∙ ap (fits_slot r) no_slot)
              ∙ sym (ap (fits_slot r) new_slot)))

          by_test : (b : Bool) → ((t0 == t && thread_of e.mark == k) && place_of e.mark == p) ≡ b → fits_entries script (es ++ e ∷ []) t (mark_at k p) r ≡ fits_slot r (slot_at new t k p)
          by_test false h = fits_stays t (mark_at k p) r (answers_is t k p small ∙ h) ∙ (keeps.fits t k p r small ∙ ap (fits_slot r) (sym (same_slot t k p h)))
          by_test true h =
              let outer = and_parts (t0 == t && thread_of e.mark == k) (place_of e.mark == p) h in
              let parts = and_parts (t0 == t) (thread_of e.mark == k) outer.0 in
              let t_is = tested_equal t0 t parts.0 in
              let k_is = tested_equal (thread_of e.mark) k parts.1 in
              let p_is = tested_equal (place_of e.mark) p outer.1 in
              let a : answers_call script t (mark_at k p) e ≡ true = answers_is t k p small ∙ h in
              let at_place : answers_call script t (mark_at k (place_of e.mark)) e ≡ true = subst (λ q. answers_call script t (mark_at k q) e ≡ true) (sym p_is) a in
              let at_thread : answers_call script t (mark_at (thread_of e.mark) (place_of e.mark)) e ≡ true = subst (λ j. answers_call script t (mark_at j (place_of e.mark)) e ≡ true) (sym k_is) at_place in
              let at_target : answers_call script t0 (mark_at (thread_of e.mark) (place_of e.mark)) e ≡ true = subst (λ u. answers_call script u (mark_at (thread_of e.mark) (place_of e.mark)) e ≡ true) (sym t_is) at_thread in
              subst (λ u. fits_entries script (es ++ e ∷ []) u (mark_at k p) r ≡ fits_slot r (slot_at new u k p)) t_is
              (subst (λ j. fits_entries script (es ++ e ∷ []) t0 (mark_at j p) r ≡ fits_slot r (slot_at new t0 j p)) k_is
              (subst (λ q. fits_entries script (es ++ e ∷ []) t0 (mark_at (thread_of e.mark) q) r ≡ fits_slot r (slot_at new t0 (thread_of e.mark) q)) p_is (here at_target)))

      put_keeps : KeepsRows script (es ++ e ∷ []) new
      put_keeps = record { above = keeps_above; has = keeps_has; fits = keeps_fits }

  -- rows that follow an entry keep what they say
  pub rows_follow : (old new : List (List (Option OwnReply))) → KeepsRows script es old → RowsFollow (is_clean script t0 e.channel) t0 e old new → KeepsRows script (es ++ e ∷ []) new
  rows_follow old new keeps follow = by_clean (is_clean script t0 e.channel) refl follow
    where
      by_clean : (b : Bool) → is_clean script t0 e.channel ≡ b → RowsFollow b t0 e old new → KeepsRows script (es ++ e ∷ []) new
      by_clean false h f = subst (λ rows. KeepsRows script (es ++ e ∷ []) rows) (sym f) (unclean_keeps h old keeps)
      by_clean true h f = put_keeps h f.0 old new keeps f.2 f.3
