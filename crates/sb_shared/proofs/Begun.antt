-- The table as it is opened.
use Rattle.std.proofs.Common.{◌≡◌, ◌∙◌, refl, ap, subst, sym, ℕ, zero, suc, ◌/◌, ◌%◌, ◌<◌, ◌≤◌, Bool, true, false, ◌&&◌, eqb, cond, List, [], ◌∷◌, map, length, get_or, slice_get, Some, arith, nat_lt}
use Rattle.std.proofs.lemmas.Bool.Decides.{nat_tests}
use Rattle.std.proofs.lemmas.List.{get_or_past}
use mathlib.Core.Option as raw
use mathlib.Core.Option.{some-ne-none}
use Rattle.sb_actor.specs.Moves.{at}
use Rattle.sb_book.specs.Histories.{History, new_history, setting_of}
use Rattle.sb_book.specs.Readiness.{IsReady}
use Rattle.sb_rule.specs.declared.policies.Policy.{Policy}
use Rattle.sb_core.specs.Laws.{StartsKeep}
use Rattle.sb_statements.specs.Actors.{is_there}
use Rattle.sb_statements.specs.Soundness.{channels_of}
use Rattle.sb_statements.specs.declared.schedules.Actor.{Actor}
use Rattle.sb_statements.specs.declared.scripts.Script.{Script}
use Rattle.sb_statements.specs.declared.scripts.TargetScript.{TargetScript}
use Rattle.sb_core.specs.Kept.{IsWorld, IsRunning}
use Rattle.sb_core.specs.Words.{free_channels, words_of}
use Rattle.sb_core.specs.Worlds.{first_words, start_world}
use Rattle.sb_shared.specs.Opening.{AreFirst, all_actors, first_view}
use Rattle.sb_shared.specs.Origins.{start_of}
use Rattle.sb_shared.specs.Parts.{actor_in, part_of}
use Rattle.sb_shared.specs.Rule.{FitsView, Holds, Slot, spot, stop_word, turn_word, word_count}
use Rattle.sb_shared.specs.declared.views.Origin.{Origin}
use Rattle.sb_core.proofs.Opening.{opened}
use Rattle.sb_core.proofs.Starting.{free_length, words_at}
use Rattle.sb_shared.proofs.Advancing.{only_one}
use Rattle.sb_shared.proofs.Places.{actors_differ, actors_there, at_mapped}
use Rattle.sb_shared.proofs.Standing.{actor_of_part}

-- where a word is, by its place
target_of : (t c j : ℕ) → c < 8 → j < 65 → spot t c j / 640 ≡ t
target_of t c j hc hj = omega arith

channel_of : (t c j : ℕ) → c < 8 → j < 65 → spot t c j % 640 / 80 ≡ c
channel_of t c j hc hj = omega arith

word_of : (t c j : ℕ) → c < 8 → j < 65 → spot t c j % 80 ≡ j
word_of t c j hc hj = omega arith

-- each state is free, and all else is 0
abbrev is_first : ℕ → ℕ → ℕ → ℕ
is_first c n j = cond (nat_lt c n && eqb j 0) 1 0

free_at : (n c j : ℕ) → j < 65 → is_first c n j ≡ get_or (free_channels n) (at c j) 0
free_at n c j hj = by (nat_lt c n) refl
  where
    by : (b : Bool) → nat_lt c n ≡ b → is_first c n j ≡ get_or (free_channels n) (at c j) 0
    by true f =
        let below : c < n = grind (arith, nat_tests, f) in
        let word : at c j % 65 ≡ j = omega (arith, hj) in
        ap (λ (b : Bool). cond {A = ℕ} (b && eqb j 0) 1 0) f ∙ ap (λ z. cond {A = ℕ} (eqb z 0) 1 0) (sym word) ∙ sym (opened n (at c j) (omega (arith, below, hj)))
    by false f =
        let above : n ≤ c = grind (arith, nat_tests, f) in
        let size = free_length n in
        ap (λ (b : Bool). cond {A = ℕ} (b && eqb j 0) 1 0) f ∙ sym (get_or_past (free_channels n) (at c j) 0 (omega (arith, size, above)))

none_past : (targets : List TargetScript) (t : ℕ) → length targets ≤ t → channels_of (slice_get targets t) ≡ 0
none_past [] t h = refl
none_past (x ∷ xs) zero h = absurd (omega arith)
none_past (x ∷ xs) (suc t) h = none_past xs t (omega (arith, h))

none_below : (n : ℕ) → nat_lt n 0 ≡ false
none_below n = grind (arith, nat_tests)

module _ (targets : List TargetScript) (words : List ℕ) (few : length targets ≤ 8) (first : AreFirst targets word_count words) where
  pub rows_first : (t c j : ℕ) → t < 8 → c < 8 → j < 65 → get_or words (spot t c j) 0 ≡ get_or (words_of (first_words targets) t) (at c j) 0
  rows_first t c j ht hc hj =
      first.1 (spot t c j) (omega arith) ∙ (λ i. is_first (channel_of t c j hc hj i) (channels_of (slice_get targets (target_of t c j hc hj i))) (word_of t c j hc hj i))
      ∙ free_at (channels_of (slice_get targets t)) c j hj ∙ ap (λ (l : List ℕ). get_or l (at c j) 0) (sym (words_at targets t))

  -- a place after the words of targets
  pub behind_first : (place : ℕ) → place < word_count → place / 640 ≡ 8 → get_or words place 0 ≡ 0
  behind_first place below is =
      first.1 place below ∙ ap (λ (n : ℕ). is_first (place % 640 / 80) n (place % 80)) (ap (λ z. channels_of (slice_get targets z)) is ∙ none_past targets 8 few)
      ∙ ap (λ (b : Bool). cond {A = ℕ} (b && eqb (place % 80) 0) 1 0) (none_below (place % 640 / 80))

-- the rule holds of the table as it is opened
pub opens : (key : Origin) (words : List ℕ) (book : History) → IsWorld (start_of key) → IsRunning key.script.value (start_of key)
    → length key.script.value.targets ≤ 8 → AreFirst key.script.value.targets word_count words → book ≡ (start_of key).shared.book
    → Holds key (record { words = words; homes = raw.some (Some book) ∷ []; views = first_view key ∷ [] })
opens key words book world running few first_are is =
    let script = key.script.value in
    let start = start_of key in
    let actors = all_actors script.targets in
    let owner : Actor → ℕ = λ a. 0 in
    let first : FitsView key [] start owner 0 (first_view key) = record {
      parts = λ n p e.
          let a = at_mapped (part_of start) actors n p e in
          let who : actor_in p ≡ a.0 = ap actor_in a.2 ∙ actor_of_part start a.0 in
          record {
            key_is = refl;
            is = a.2 ∙ ap (part_of start) (sym who);
            there = ap (is_there script.targets) who ∙ actors_there script.targets n a.0 a.1;
            owned = refl;
            seen = refl;
          };
      apart = λ m n p q e f d.
          let a = at_mapped (part_of start) actors m p e in
          let b = at_mapped (part_of start) actors n q f in
          λ z. actors_differ script.targets m n a.0 b.0 a.1 b.1 d (sym (ap actor_in a.2 ∙ actor_of_part start a.0) ∙ z ∙ (ap actor_in b.2 ∙ actor_of_part start b.0));
      history = ([], refl);
      taken = λ n t e. absurd (some-ne-none t (sym e));
    } in (
      [],
      start,
      owner,
      record {
        reached = refl;
        there = refl;
        world = world;
        running = running;
        setting = refl;
        shows = record {
          sized = first_are.0;
          rows = rows_first script.targets words few first_are;
          turn = behind_first script.targets words few first_are turn_word (omega arith) refl;
          slot = ap (λ (b : History). raw.some (raw.some (Some b))) is;
        };
        stop = behind_first script.targets words few first_are stop_word (omega arith) refl;
        seats = λ i v e.
            let one = only_one (first_view key ∷ []) (first_view key) v i refl e in
            subst (λ k. FitsView key [] start owner k v) (sym one.0) (subst (FitsView key [] start owner 0) one.1 first);
      },
    )

-- the same for the policies and the script with which the table is made
pub begins : (key : Origin) (policies : List Policy) (script : Script) → key.policies.value.list ≡ policies → key.script.value ≡ script → StartsKeep
    → IsReady policies script → (words : List ℕ) (book : History) → AreFirst script.targets word_count words → book ≡ new_history (setting_of policies script)
    → (slots : List Slot) → slots ≡ Some book ∷ []
    → Holds key (record { words = words; homes = map (λ x. raw.some x) slots; views = first_view key ∷ [] })
begins key policies script e f starts ready words book first is slots slots_are =
    let back : (policies, script) ≡ (key.policies.value.list, key.script.value) = λ i. (sym e i, sym f i) in
    let kept = starts policies script ready in
    let lists = kept.0.lists in
    let workers = kept.0.few in
    let targets = kept.1.targets in
    let few : length script.targets ≤ 8 = omega (arith, lists, workers, targets) in
    subst (λ (l : List Slot). Holds key (record { words = words; homes = map (λ x. raw.some x) l; views = first_view key ∷ [] })) (sym slots_are)
    (opens key words book (subst (λ (z : List Policy × Script). IsWorld (start_world z.0 z.1)) back kept.0)
    (subst (λ (z : List Policy × Script). IsRunning z.1 (start_world z.0 z.1)) back kept.1)
    (subst (λ (z : Script). length z.targets ≤ 8) (sym f) few) (subst (λ (z : Script). AreFirst z.targets word_count words) (sym f) first)
    (is ∙ ap (λ (z : List Policy × Script). new_history (setting_of z.0 z.1)) back))
