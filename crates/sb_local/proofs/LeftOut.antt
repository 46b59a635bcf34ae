-- The broker denies the calls that are left out.
use Rattle.std.proofs.Common.{◌≡◌, ◌∙◌, refl, sym, ap, subst, ℕ, zero, suc, ◌+◌, ◌<◌, ◌==◌, List, [], ◌∷◌, ◌++◌, Bool, true, false, cond, length, map, Option, Some, arith}
use Rattle.std.specs.List.{filter}
use Rattle.std.specs.Prelude.{slice_get, slice_index_or}
use Rattle.std.proofs.lemmas.Bool.{and_parts, eqb-true}
use Rattle.std.proofs.lemmas.Option.{none-some, same_Some}
use Rattle.sb_actor.specs.Moves.{is_clean}
use Rattle.sb_actor.specs.Places.{block_of, clean_channels, mark_at, statement_at}
use Rattle.sb_actor.specs.Rule.{is_of}
use Rattle.sb_block.specs.Blocks.{block}
use Rattle.sb_block.specs.Copies.{whole}
use Rattle.sb_book.specs.Decisions.{decision_of}
use Rattle.sb_book.specs.Histories.{IsLegalFrom, Setting, setting_of, space_after}
use Rattle.sb_book.specs.Readiness.{IsReady}
use Rattle.sb_book.specs.declared.decisions.Decision.TheVariants.{Denied}
use Rattle.sb_book.specs.declared.entries.Entry.{Entry}
use Rattle.sb_call.specs.declared.arguments.Arg.{Arg}
use Rattle.sb_call.specs.declared.replies.Reply.{Reply}
use Rattle.sb_call.specs.declared.tags.CallTag.{CallTag}
use Rattle.sb_core.specs.Fits.{Answered, Fits, RunsFit, by_entry, by_result, is_entry_of, results_at}
use Rattle.sb_core.specs.Laws.{RunsAreLegal}
use Rattle.sb_core.specs.Runs.{ran}
use Rattle.sb_core.specs.Views.{OwnCall, as_call, own_calls, own_from, own_if, own_of}
use Rattle.sb_kernel.specs.Namespaces.{Space}
use Rattle.sb_kernel.specs.Openings.{opening}
use Rattle.sb_rule.specs.Verdicts.{policy_at}
use Rattle.sb_rule.specs.declared.policies.Policy.{Policy}
use Rattle.sb_statements.specs.Actors.{thread_count}
use Rattle.sb_statements.specs.SoundScripts.{IsSoundScript}
use Rattle.sb_statements.specs.declared.results.CallResult.TheVariants as call
use Rattle.sb_statements.specs.declared.results.StmtResult.{StmtResult}
use Rattle.sb_statements.specs.declared.results.StmtResult.TheVariants as result
use Rattle.sb_statements.specs.declared.scripts.Script.{Script}
use Rattle.sb_statements.specs.declared.statements.Statement.{Statement}
use Rattle.sb_statements.specs.declared.statements.Statement.TheVariants.{Call}
use Rattle.sb_local.specs.Laws.{DenialsAreDecisions}
use Rattle.sb_local.specs.LeftOut.{CleanCallsAreDenied, IsLeftOut, WholeBlocksAreDenied}
use Rattle.sb_local.specs.declared.denials.LocalDenial.{LocalDenial}
use Rattle.sb_local.proofs.OneThread.{is_sound_of}

-- ---- the decision of an entry

decided_from : (s : Setting) (ns : Space) (entries : List Entry) (n : ℕ) (e : Entry) → IsLegalFrom s ns entries → slice_get entries n ≡ Some e
    → e.decision ≡ decision_of (policy_at s.policies e.target) e.taken
decided_from s ns [] n e legal there = absurd (none-some e there)
decided_from s ns (x ∷ entries) zero e legal there =
    subst (λ (z : Entry). z.decision ≡ decision_of (policy_at s.policies z.target) z.taken) (same_Some x e there) legal.0.decided
decided_from s ns (x ∷ entries) (suc n) e legal there = decided_from s (space_after ns x.target x.decision) entries n e legal.1 there

same_call : (tag : CallTag) (args others : List Arg) → ◌≡◌ {A = Option Statement} (Some (Call tag args)) (Some (Call tag others)) → args ≡ others
same_call tag args others e = cc

sound_of_ready : (policies : List Policy) (script : Script) → IsReady policies script → IsSoundScript script
sound_of_ready policies script ready = record { sound = is_sound_of policies script ready; units = ready.units; short = ready.short }

-- an entry of the whole block of a call that is left out
module _ (law : DenialsAreDecisions) (policies : List Policy) (script : Script) (sound : IsSoundScript script) (d : LocalDenial) where
  denied_here : (e : Entry) (args : List Arg) (mark : ℕ) → IsLeftOut policies script d → statement_at script d.target d.thread d.place ≡ Some (Call d.tag args)
      → e.decision ≡ decision_of (policy_at (setting_of policies script).policies e.target) e.taken → e.target ≡ d.target
      → e.taken ≡ whole (block d.tag args mark) → e.decision ≡ Denied d.tag d.verdict
  denied_here e args mark out at decided target taken =
      let judges = (setting_of policies script).policies in
      let found = law judges script out.0 d sound out.1 in
      let same : found.0 ≡ args = same_call d.tag found.0 args (sym found.1 ∙ at) in
      decided ∙ ap (λ t. decision_of (policy_at judges t) e.taken) target ∙ ap (decision_of (policy_at judges d.target)) taken
      ∙ ap (λ a. decision_of (policy_at judges d.target) (whole (block d.tag a mark))) (sym same) ∙ found.2 mark

pub whole_blocks_are_denied : RunsAreLegal → DenialsAreDecisions → WholeBlocksAreDenied
whole_blocks_are_denied legal law policies script schedule d args mark n e can out at there target taken =
    let s = setting_of policies script in
    let history = legal policies script schedule can in
    denied_here law policies script (sound_of_ready policies script can.ready) d e args mark out at
    (decided_from s (opening s.start) (ran policies script schedule).report.entries n e history.legal there) target taken

-- ---- elements of lists

in_mapped : {X Y : Type 0} (f : X → Y) (xs : List X) (n : ℕ) (y : Y) → slice_get (map f xs) n ≡ Some y → (x : X) × (slice_get xs n ≡ Some x) × (f x ≡ y)
in_mapped f [] n y h = absurd (none-some y h)
in_mapped f (x ∷ xs) zero y h = (x, refl, same_Some (f x) y h)
in_mapped f (x ∷ xs) (suc n) y h = in_mapped f xs n y h

mapped_at : {X Y : Type 0} (f : X → Y) (xs : List X) (n : ℕ) (x : X) → slice_get xs n ≡ Some x → slice_get (map f xs) n ≡ Some (f x)
mapped_at f [] n x h = absurd (none-some x h)
mapped_at f (y ∷ xs) zero x h = ap (λ z. Some (f z)) (same_Some y x h)
mapped_at f (y ∷ xs) (suc n) x h = mapped_at f xs n x h

-- an element that passes is one of all
record IsPassing {X : Type 0} (p : X → Bool) (xs : List X) (x : X) : Type 0 where
  at : ℕ
  there : slice_get xs at ≡ Some x
  passes : p x ≡ true

one_later : {X : Type 0} (p : X → Bool) (y : X) (xs : List X) (x : X) → IsPassing p xs x → IsPassing p (y ∷ xs) x
one_later p y xs x h = record { at = suc h.at; there = h.there; passes = h.passes }

in_filtered : {X : Type 0} (p : X → Bool) (xs : List X) (n : ℕ) (x : X) → slice_get (filter p xs) n ≡ Some x → IsPassing p xs x
in_filtered {X = X} p [] n x h = absurd (none-some x h)
in_filtered {X = X} p (y ∷ xs) n x h = by (p y) refl n h (in_filtered p xs)
  where
    by : (b : Bool) → p y ≡ b → (n : ℕ) → slice_get (cond b (y ∷ filter p xs) (filter p xs)) n ≡ Some x
        → ((n : ℕ) (x : X) → slice_get (filter p xs) n ≡ Some x → IsPassing p xs x) → IsPassing p (y ∷ xs) x
    by true e zero h less = let same = same_Some y x h in record { at = 0; there = h; passes = subst (λ z. p z ≡ true) same e }
    by true e (suc n) h less = one_later p y xs x (less n x h)
    by false e n h less = one_later p y xs x (less n x h)

on_right : {X : Type 0} (xs ys : List X) (n : ℕ) (x : X) → slice_get ys n ≡ Some x → (m : ℕ) × (slice_get (xs ++ ys) m ≡ Some x)
on_right [] ys n x h = (n, h)
on_right (y ∷ xs) ys n x h = let m = on_right xs ys n x h in (suc m.0, m.1)

within : {X : Type 0} (xs : List (List X)) (k i : ℕ) (x : X) → slice_get (slice_index_or xs k []) i ≡ Some x → k < length xs
within [] k i x h = absurd (none-some x h)
within (y ∷ xs) zero i x h = omega arith
within (y ∷ xs) (suc k) i x h = omega (arith, within xs k i x h)

-- ---- the reply of a call on a clean channel

module _ (script : Script) (t k : ℕ) (channel : ℕ) (reply : Reply) (clean : is_clean (clean_channels script t) channel ≡ true) where
  abbrev own : ℕ → OwnCall
  own i = record { channel = channel; block = block_of (mark_at k i) (statement_at script t k i); reply = reply }

  own_first : (i : ℕ) → own_of (clean_channels script t) (block_of (mark_at k i) (statement_at script t k i)) (result.Call (call.Reply channel reply)) ≡ own i ∷ []
  own_first i = ap (λ b. own_if b (own i)) clean

  own_at : (start : ℕ) (results : List StmtResult) (i : ℕ) → slice_get results i ≡ Some (result.Call (call.Reply channel reply))
      → (n : ℕ) × (slice_get (own_from script t k start results) n ≡ Some (own (start + i)))
  own_at start [] i h = absurd (none-some _ h)
  own_at start (r ∷ results) zero h =
      let same : r ≡ result.Call (call.Reply channel reply) = same_Some r _ h in
      let none : start + 0 ≡ start = omega arith in
      let its = own_of (clean_channels script t) (block_of (mark_at k start) (statement_at script t k start)) in (
        0,
        ap (λ o. slice_get (its o ++ own_from script t k (start + 1) results) 0) same
            ∙ ap (λ (xs : List OwnCall). slice_get (xs ++ own_from script t k (start + 1) results) 0) (own_first start) ∙ ap (λ i. Some (own i)) (sym none),
      )
  own_at start (r ∷ results) (suc i) h =
      let later : start + 1 + i ≡ start + suc i = omega arith in
      let found = own_at (start + 1) results i h in
      let its = own_of (clean_channels script t) (block_of (mark_at k start) (statement_at script t k start)) r in
      on_right its (own_from script t k (start + 1) results) found.0 (own (start + suc i)) (found.1 ∙ ap (λ i. Some (own i)) later)

  own_here : (results : List StmtResult) (i : ℕ) → slice_get results i ≡ Some (result.Call (call.Reply channel reply))
      → (n : ℕ) × (slice_get (own_calls script t k results) n ≡ Some (own i))
  own_here results i h =
      let none : 0 + i ≡ i = omega arith in
      let found = own_at 0 results i h in
      (found.0, found.1 ∙ ap (λ j. Some (own j)) none)

-- an entry that answered a call
same_parts : (e : Entry) (a : Answered) → by_entry e ≡ a → (e.channel ≡ a.channel) × (e.taken ≡ a.taken) × (e.reply ≡ a.reply)
same_parts e a h = (ap (λ (x : Answered). x.channel) h, ap (λ (x : Answered). x.taken) h, ap (λ (x : Answered). x.reply) h)

pub clean_calls_are_denied : RunsFit → DenialsAreDecisions → CleanCallsAreDenied
clean_calls_are_denied fit law policies script schedule d channel reply can finished out clean there =
    let s = setting_of policies script in
    let report = (ran policies script schedule).report in
    let sound = sound_of_ready policies script can.ready in
    let fits : Fits policies script report = fit policies script schedule can finished in
    let found = law s.policies script out.0 d sound out.1 in
    let results = results_at report.results d.target d.thread in
    let few : d.thread < length (slice_index_or report.results d.target []) = within (slice_index_or report.results d.target []) d.thread d.place _ there in
    let k_there : d.thread < thread_count (slice_get script.targets d.target) = subst (λ n. d.thread < n) (fits.whole_results.threads d.target) few in
    let mine = own_here script d.target d.thread channel reply clean results d.place there in
    let mapped = mapped_at by_result (own_calls script d.target d.thread results) mine.0 _ mine.1 in
    let entries = map by_entry (filter (is_entry_of script d.target d.thread) report.entries) in
    let among = ap (λ (xs : List Answered). slice_get xs mine.0) (fits.own_replies.own d.target d.thread k_there) ∙ mapped in
    let e = in_mapped by_entry (filter (is_entry_of script d.target d.thread) report.entries) mine.0 _ among in
    let its = in_filtered (is_entry_of script d.target d.thread) report.entries mine.0 e.0 e.1 in
    let parts = same_parts e.0 _ e.2 in
    let target = eqb-true e.0.target d.target (and_parts (e.0.target == d.target) (is_of (clean_channels script d.target) d.thread (as_call e.0)) its.passes).0 in
    let mark = mark_at d.thread d.place in
    let taken : e.0.taken ≡ whole (block d.tag found.0 mark) = parts.1 ∙ ap (λ o. whole (block_of mark o)) found.1 in
    let decided = decided_from s (opening s.start) report.entries its.at e.0 fits.history.legal its.there in (
      its.at,
      e.0,
      its.there,
      target,
      parts.0,
      parts.2,
      record {
        args = found.0;
        call = found.1;
        copy = taken;
        decision = denied_here law policies script sound d e.0 found.0 mark out found.1 decided target taken;
      },
    )
