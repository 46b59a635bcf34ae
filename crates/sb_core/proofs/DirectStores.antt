-- A statement that stores into a word or exchanges it names a channel that is not clean.
use Rattle.std.proofs.Common.{◌≡◌, ◌∙◌, refl, ap, subst, ℕ, ◌<◌, ◌≤◌, Bool, true, false, not, ◌&&◌, ◌||◌, ◌==◌, List, [], ◌∷◌, length, Option, Some, IfSome, slice_get, arith}
use Rattle.sb_actor.specs.Moves.{is_clean as is_marked}
use Rattle.sb_statements.specs.Scripts.{is_clean}
use Rattle.sb_statements.specs.declared.statements.Statement.TheVariants as statement
use Rattle.sb_core.proofs.ViewSteps.{names}
use Rattle.sb_core.proofs.Starting.{clean_length, clean_in_list}
use Rattle.sb_core.proofs.Numbers.{is_same, self_same, none_some}
use Rattle.std.proofs.lemmas.Option.{get_or_from_slice_get}
use Rattle.std.proofs.lemmas.List.Folds.{list_any_at}
use Rattle.sb_core.proofs.Names.{act_word, act_wrote, and_parts, at, channels_of, clean_channels, Deed, has_word, is_patience, is_statement, IsUnclean, IsWord, list_any, met, Script, slice_get_within, Statement, statement_at, stray_exchange, stray_load, stray_row, stray_store, stray_wait, StrayMay, TargetScript, ThreadAt, threads_write, writes_channel, wrote}
use Rattle.sb_core.proofs.Existence.{word_parts, at_statement}

-- one of a list
any_at : {X : Type 0} (p : X → Bool) (xs : List X) (i : ℕ) (x : X) → slice_get xs i ≡ Some x → p x ≡ true → list_any p xs ≡ true
any_at p xs i x e h = list_any_at p xs i x (slice_get_within xs i x e) (ap p (get_or_from_slice_get xs i x x e) ∙ h)

module _ (script : Script) where
  -- a channel that a statement writes
  written : (u k i t c : ℕ) (s : Statement) → statement_at script u k i ≡ Some s → writes_channel t c s ≡ true → is_clean script t c ≡ false
  written u k i t c s e h =
      at_statement (λ o. o ≡ Some s → is_clean script t c ≡ false) script u k i (λ q. absurd (none_some s q))
      (λ target statements z f g q same.
      let one = any_at (writes_channel t c) statements i s (q ∙ same) h in
      let two = any_at (λ (ss : List Statement). list_any (writes_channel t c) ss) target.threads k statements g one in
      ap not (any_at (λ (x : TargetScript). threads_write t c x.threads) script.targets u target f two))
      e

  -- such a word, by the clean channels of its target
  module _ (t c j : ℕ) (within : c < channels_of (slice_get script.targets t)) (low : j ≤ 64) where
    pub is_word_at : IsWord (clean_channels script t) (at c j)
    is_word_at = let n = clean_length script t (channels_of (slice_get script.targets t)) in omega (arith, n, within, low)

    pub unclean_at : is_clean script t c ≡ false → IsUnclean (clean_channels script t) (at c j)
    unclean_at e d i same l =
        let one : c ≡ d = omega (arith, same, low, l) in
        let n = clean_length script t (channels_of (slice_get script.targets t)) in
        subst (λ z. (z < length (clean_channels script t)) × (is_marked (clean_channels script t) z ≡ false)) one
        (omega (arith, n, within), clean_in_list script t c within ∙ e)

  both : (a b : Bool) → a ≡ true → b ≡ true → (a && b) ≡ true
  both a b e f = rw (e, f) refl

  -- a direct statement is a step that may be made directly in its target
  pub by_hand : (x : ThreadAt) (loads most : ℕ) (o : Option Statement) → statement_at script x.target x.thread x.place ≡ o → IfSome o (λ s. is_statement script.targets s ≡ true) → (u : ℕ)
      → names (stray_row script x loads most o).step u ≡ true
      → (d : Deed) × (StrayMay (clean_channels script u) (act_word (stray_row script x loads most o).step) d)
      × ((n : ℕ) → wrote d (met d n) n ≡ act_wrote (stray_row script x loads most o).step n)
  by_hand x loads most (Some (statement.Store t word value)) e h u f =
      let w = word_parts script t word h in
      let unclean = written x.target x.thread x.place t word.channel (statement.Store t word value) e (both (t == t) (word.channel == word.channel) (self_same t) (self_same word.channel)) in
      subst (λ z. (d : Deed) × StrayMay (clean_channels script z) (at word.channel word.at) d × ((n : ℕ) → wrote d (met d n) n ≡ value)) (is_same t u f) (
        stray_store value,
        (is_word_at t word.channel word.at w.0 w.1, unclean_at t word.channel word.at w.0 w.1 unclean),
        λ n. refl,
      )
  by_hand x loads most (Some (statement.Exchange t word from to)) e h u f =
      let w = word_parts script t word h in
      let unclean = written x.target x.thread x.place t word.channel (statement.Exchange t word from to) e (both (t == t) (word.channel == word.channel) (self_same t) (self_same word.channel)) in
      subst (λ z. (d : Deed) × StrayMay (clean_channels script z) (at word.channel word.at) d
      × ((n : ℕ) → wrote d (met d n) n ≡ act_wrote (stray_row script x loads most (Some (statement.Exchange t word from to))).step n)) (is_same t u f) (
        stray_exchange from to,
        (is_word_at t word.channel word.at w.0 w.1, unclean_at t word.channel word.at w.0 w.1 unclean),
        λ n. refl,
      )
  by_hand x loads most (Some (statement.Load t word)) e h u f =
      let w = word_parts script t word h in
      subst (λ z. (d : Deed) × StrayMay (clean_channels script z) (at word.channel word.at) d × ((n : ℕ) → wrote d (met d n) n ≡ n)) (is_same t u f)
      (stray_load, is_word_at t word.channel word.at w.0 w.1, λ n. refl)
  by_hand x loads most (Some (statement.Wait t word value limit)) e h u f =
      let w = word_parts script t word (and_parts (has_word script.targets t word) (is_patience limit) h).0 in
      subst (λ z. (d : Deed) × StrayMay (clean_channels script z) (at word.channel word.at) d × ((n : ℕ) → wrote d (met d n) n ≡ n)) (is_same t u f)
      (stray_wait, is_word_at t word.channel word.at w.0 w.1, λ n. refl)
  by_hand x loads most _ e h u f = absurd (cc)
