-- The answers to the calls of a script that is ready are a legal history.
use Rattle.std.proofs.Common.{◌≡◌, ◌∙◌, ℕ, ◌+◌, ◌<◌, ◌≤◌, Bool, true, false, ◌&&◌, if◌then◌else◌, List, [], ◌∷◌, ◌++◌, length, Result, Ok, Err, refl, subst, ap, sym, arith}
use Rattle.std.proofs.lemmas.Bool.Decides.{nat_tests}
use Rattle.std.specs.Prelude.{⊤, is_ok, nat_le, nat_lt, slice_index}
use Rattle.std.specs.List.{list_all}
use Rattle.std.proofs.lemmas.Bool.{and_parts}
use Rattle.sb_actor.specs.Places.{mark_at}
use Rattle.sb_block.specs.Blocks.{block, encodes, has_units}
use Rattle.sb_block.specs.Calls.{call_of, called, decoded}
use Rattle.sb_block.specs.Copies.{Copied, is_copy, whole}
use Rattle.sb_block.specs.Laws.{BlocksComeBack}
use Rattle.sb_block.specs.Layout.{most_words}
use Rattle.sb_book.specs.Headline.{EntriesSayWhatWasDone}
use Rattle.sb_book.specs.Histories.{IsHistory, Setting, setting_of, target_decision}
use Rattle.sb_book.specs.Laws.{AnswersKeepHistories, IsAllowed}
use Rattle.sb_book.specs.Readiness.{IsReady, is_judged}
use Rattle.sb_call.specs.Arguments.{fits}
use Rattle.sb_call.specs.Tags.{shape_of}
use Rattle.sb_call.specs.declared.arguments.Arg.{Arg}
use Rattle.sb_call.specs.declared.tags.CallTag.{CallTag}
use Rattle.sb_kernel.specs.Openings.{opened}
use Rattle.sb_rule.specs.Verdicts.{policy_at}
use Rattle.sb_rule.specs.WellMade.{are_well_made}
use Rattle.sb_rule.specs.declared.policies.Policy.{Policy}
use Rattle.sb_statements.specs.Soundness.{is_sound}
use Rattle.sb_statements.specs.PlacedStatements.{Placed, PlacedStatementsAreSound, placed_statements}
use Rattle.sb_statements.specs.Units.{statement_has_units}
use Rattle.sb_statements.specs.declared.scripts.Script.{Script}
use Rattle.sb_statements.specs.declared.scripts.TargetScript.{TargetScript}
use Rattle.sb_statements.specs.declared.statements.Statement.{Statement}
use Rattle.sb_statements.specs.declared.statements.Statement.TheVariants.{Call, Store, Exchange, Load, Wait}
use Rattle.sb_text.specs.Steps.{◌>>=◌}
use Rattle.sb_link.specs.Answers.{AreResolved, IsResolvedCall, copy_of, linked, linked_by, linked_call, resolved_args, stop_of}
use Rattle.sb_link.specs.LinkedHistories.{Asked, IsLinkedHistory, LinkedHistory, all_answered, answered_by, answered_linked, new_linked}
use Rattle.sb_link.specs.LinkedLaws.{IsScriptHistory, ScriptAnswersAreHistories, ScriptCallsAreResolved, WereRead}
use Rattle.sb_link.specs.ScriptCalls.{asked_at, asked_by, asked_by_statements, asked_of, can_be_asked, have_channels, is_encoded, script_answered}
use Rattle.sb_link.specs.declared.links.Link.{Link}
use Rattle.sb_link.specs.declared.stops.Stop.{Stop}
use Rattle.sb_link.specs.declared.stops.Stop.TheVariants.{TooBig}
use Rattle.sb_link.specs.declared.stops.StoppedCall.{StoppedCall}
use Rattle.sb_link.proofs.Adding.{both}
use Rattle.sb_link.proofs.Asking.{all_can_be_asked, all_have_units, channel_there, setting_stays, sound_has_channels}
use Rattle.sb_link.proofs.Linking.{entry_is_linked, stop_is_linked}
use Rattle.sb_link.proofs.Logs.{links_stay}
use Rattle.sb_link.proofs.Performed.{performed_calls_are_resolved}
use Rattle.sb_link.proofs.Resolved.{names_resolved, resolved_fit}
use Rattle.sb_link.proofs.ResolvedUnits.{units_stay}

-- ---- what becomes of the whole block of a call

-- what is judged in its place is a copy that a worker can take, with names that are their own resolutions
abbrev IsFine : List Link → Result Copied StoppedCall → Type 0
IsFine links (Ok copy) = (is_copy copy ≡ true) × IsResolvedCall links (decoded copy)
IsFine links (Err stopped) = ⊤

module _ (back : BlocksComeBack) (links : List Link) (read : WereRead links) (tag : CallTag) (mark : ℕ) where
  encoded_then : (others : List Arg) → fits tag others ≡ true → (b : Bool) → nat_le (length (block tag others mark)) most_words ≡ b → b ≡ true
      → encodes tag others ≡ true
  encoded_then others h b is e = both (fits tag others) (nat_le (length (block tag others 0)) most_words) h (is ∙ e)

  block_is_fine : (args others : List Arg) → fits tag args ≡ true → list_all has_units args ≡ true → resolved_args links tag args ≡ Ok others
      → IsFine links (stop_of tag (copy_of tag mark others))
  block_is_fine args others h units is = by (nat_le (length (block tag others mark)) most_words) refl
    where
      by : (b : Bool) → nat_le (length (block tag others mark)) most_words ≡ b
          → IsFine links (stop_of tag (if b then Ok (whole (block tag others mark)) else Err TooBig))
      by true few =
          let found = back tag others mark (encoded_then others (resolved_fit links tag args others read.are h is) true few refl)
          (units_stay links 0 (shape_of tag) args others read.writable units is) in
          (found.0, subst (IsResolvedCall links) (sym found.1) (names_resolved links tag args others read.are h is))
      by false many = tt

  call_is_fine : (args : List Arg) → fits tag args ≡ true → list_all has_units args ≡ true → IsFine links (linked_call links (called tag mark args))
  call_is_fine args h units = by (resolved_args links tag args) refl
    where
      by : (r : Result (List Arg) Stop) → resolved_args links tag args ≡ r → IsFine links (stop_of tag (r >>= copy_of tag mark))
      by (Ok others) is = block_is_fine args others h units is
      by (Err stop) is = tt

  pub whole_is_fine : (args : List Arg) → encodes tag args ≡ true → list_all has_units args ≡ true → IsFine links (linked links (whole (block tag args mark)))
  whole_is_fine args h units =
      let its = whole (block tag args mark) in
      let fit = (and_parts (fits tag args) (nat_le (length (block tag args 0)) most_words) h).0 in
      subst (IsFine links) (sym (ap (linked_by links its) (back tag args mark h units).1)) (call_is_fine args fit units)

-- ---- what is asked

-- a copy that is asked is the whole block of a call that encodes, whose strings are made of units, and its target and channel are there
record IsSound (setting : Setting) (a : Asked) : Type 0 where
  tag : CallTag
  args : List Arg
  mark : ℕ
  is : a.taken ≡ whole (block tag args mark)
  encoded : encodes tag args ≡ true
  units : list_all has_units args ≡ true
  target_there : a.target < length setting.policies
  channel_there : a.channel < slice_index setting.channels a.target

abbrev AreSound : Setting → List Asked → Type 0
AreSound setting [] = ⊤
AreSound setting (a ∷ asked) = IsSound setting a × AreSound setting asked

sound_append : (setting : Setting) (xs ys : List Asked) → AreSound setting xs → AreSound setting ys → AreSound setting (xs ++ ys)
sound_append setting [] ys h k = k
sound_append setting (x ∷ xs) ys h k = (h.0, sound_append setting xs ys h.1 k)

module _ (setting : Setting) where
  module _ (target : ℕ) (there : target < length setting.policies) (channel : 0 < slice_index setting.channels target) where
    statement_sound : (mark : ℕ) (s : Statement) → is_encoded s ≡ true → statement_has_units s ≡ true → AreSound setting (asked_at target mark s)
    statement_sound mark (Call tag args) h u = (
      record {
        tag = tag;
        args = args;
        mark = mark;
        is = refl;
        encoded = h;
        units = u;
        target_there = there;
        channel_there = channel;
      },
      tt,
    )
    statement_sound mark (Store t w v) h u = tt
    statement_sound mark (Exchange t w from to) h u = tt
    statement_sound mark (Load t w) h u = tt
    statement_sound mark (Wait t w v most) h u = tt

  statements_sound : have_channels setting ≡ true → (ps : List Placed) → list_all (can_be_asked setting) ps ≡ true
      → list_all (λ (p : Placed). statement_has_units p.statement) ps ≡ true → AreSound setting (asked_by_statements ps)
  statements_sound channels [] h u = tt
  statements_sound channels (p ∷ ps) h u =
      let asked = and_parts (can_be_asked setting p) (list_all (can_be_asked setting) ps) h in
      let units = and_parts (statement_has_units p.statement) (list_all (λ (q : Placed). statement_has_units q.statement) ps) u in
      let parts = and_parts (nat_lt p.target (length setting.policies)) (is_encoded p.statement) asked.0 in
      let low = parts.0 in
      let there : p.target < length setting.policies = grind (arith, nat_tests, low) in
      sound_append setting (asked_of p) (asked_by_statements ps)
      (statement_sound p.target there (channel_there setting p.target channels there) (mark_at p.thread p.place) p.statement parts.1 units.0)
      (statements_sound channels ps asked.1 units.1)

ready_is_sound : (policies : List Policy) (script : Script) → IsReady policies script → is_sound script ≡ true
ready_is_sound policies script ready =
    let made = is_sound script && are_well_made policies in
    let judged = made && list_all (is_judged (length policies)) script.targets in
    let a = and_parts judged (is_ok (opened script.start)) ready.ready in
    let b = and_parts made (list_all (is_judged (length policies)) script.targets) a.0 in
    (and_parts (is_sound script) (are_well_made policies) b.0).0

script_sound : PlacedStatementsAreSound → (policies : List Policy) (script : Script) → IsReady policies script → AreSound (setting_of policies script) (asked_by script)
script_sound law policies script ready =
    let sound = ready_is_sound policies script ready in
    let placed = law script sound ready.units in
    statements_sound (setting_of policies script) (sound_has_channels policies script sound) (placed_statements script)
    (all_can_be_asked policies script (placed_statements script) placed) (all_have_units script (placed_statements script) placed)

-- ---- the answers

-- the history is a legal one, and the log is of it
abbrev IsKept : LinkedHistory → Type 0
IsKept s = IsHistory s.history × IsLinkedHistory s

module _ (placed : PlacedStatementsAreSound) (keep : AnswersKeepHistories) (back : BlocksComeBack) (links : List Link) (read : WereRead links) where
  one_kept : (s : LinkedHistory) (a : Asked) → s.links ≡ links → IsSound s.history.setting a → IsKept s → IsKept (answered_linked s a.target a.channel a.taken)
  one_kept s a same sound kept = by (linked s.links a.taken) refl fine
    where
      whole_fine : IsFine links (linked links a.taken)
      whole_fine = subst (λ t. IsFine links (linked links t)) (sym sound.is) (whole_is_fine back links read sound.tag sound.mark sound.args sound.encoded sound.units)

      fine : IsFine s.links (linked s.links a.taken)
      fine = subst (λ l. IsFine l (linked l a.taken)) (sym same) whole_fine

      by : (r : Result Copied StoppedCall) → linked s.links a.taken ≡ r → IsFine s.links r → IsKept (answered_by s a.target a.channel a.taken r)
      by (Ok copy) e f = (
        keep s.history a.target a.channel copy (target_decision s.history a.target copy) sound.target_there sound.channel_there f.0 refl kept.0,
        entry_is_linked s a.target a.channel a.taken copy kept.1 e f.1,
      )
      by (Err stopped) e f = (kept.0, stop_is_linked s a.target a.channel a.taken stopped kept.1 e)

  all_kept : (s : LinkedHistory) (asked : List Asked) → s.links ≡ links → AreSound s.history.setting asked → IsKept s
      → IsKept (all_answered s asked) × ((all_answered s asked).history.setting ≡ s.history.setting)
  all_kept s [] same sound kept = (kept, refl)
  all_kept s (a ∷ asked) same sound kept =
      let next = answered_linked s a.target a.channel a.taken in
      let stays : next.history.setting ≡ s.history.setting = setting_stays s a.target a.channel a.taken in
      let found = all_kept next asked (links_stay s (a ∷ []) ∙ same) (subst (λ x. AreSound x asked) (sym stays) sound.1) (one_kept s a same sound.0 kept) in
      (found.0, found.1 ∙ stays)

  pub script_kept : (policies : List Policy) (script : Script) → IsReady policies script → IsScriptHistory policies script links (script_answered policies script links)
  script_kept policies script ready =
      let s = new_linked links (setting_of policies script) in
      let found = all_kept s (asked_by script) refl (script_sound placed policies script ready)
      (record { legal = tt; led = refl }, record { logged = refl; resolved = tt }) in
      record { links_stay = links_stay s (asked_by script); setting_stays = found.1; history = found.0.0; linked = found.0.1 }

pub script_answers_are_histories : PlacedStatementsAreSound → AnswersKeepHistories → BlocksComeBack → ScriptAnswersAreHistories
script_answers_are_histories placed keep back policies script links ready read = script_kept placed keep back links read policies script ready

pub script_calls_are_resolved : PlacedStatementsAreSound → AnswersKeepHistories → BlocksComeBack → EntriesSayWhatWasDone → ScriptCallsAreResolved
script_calls_are_resolved placed keep back says policies script links ready read n e tag line action args there is =
    let s = script_answered policies script links in
    let kept = script_kept placed keep back links read policies script ready in
    let found = performed_calls_are_resolved says s n e tag line action args kept.history kept.linked there is in (
      subst (λ (x : Setting). IsAllowed (policy_at x.policies e.target) (call_of e.taken) tag line action args) kept.setting_stays found.0,
      subst (λ l. AreResolved l (shape_of tag) args) kept.links_stay found.1,
    )
