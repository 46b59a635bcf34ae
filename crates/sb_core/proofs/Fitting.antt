-- A run without an unfinished thread fits.
use Rattle.std.proofs.Common.{◌≡◌, ◌∙◌, refl, ap, subst, sym, ℕ, zero, suc, ◌+◌, ◌*◌, ◌/◌, ◌<◌, ◌≤◌, Bool, true, false, cond, not, ◌&&◌, ◌==◌, List, [], ◌∷◌, ◌++◌, length, map, get_or, Option, None, Some, slice_get, arith, lit≤}
use mathlib.Core.Option.{some, some-ne-none}
use lib.ListN.{get_elem?}
use Rattle.sb_core.proofs.Names.{has_reply, and_parts, AnswersAreShort, AnswersKeepHistories, append-nil, AreAllResults, AreViews, as_call, as_own, as_served, at, by_entry, by_result, calls_at, calls_of, CanRun, ChannelInvariant, channels_of, clean_channels, Decision, drained, DrainsSettle, Entry, filling, filter, first_unfinished, Fits, FitsThread, get_or-map, EndedCall, idle, in_work, is_entry_of, is_looking, is_of, is_of_target, is_settled, IsHistory, IsLegalFrom, list_all, Look, mark_at, mark_of, Owner, no_call, no_run, no_worker, opening, own_calls, OwnCall, owner_of, OwnReplies, Performed, place, played, Policy, read_reply, Refused, RepliesComeBack, reply_of, results_of, ResultsSuit, row, RuleLaws, run_at, RunAt, RunsFit, Schedule, Script, sees, Served, Setting, setting_of, slice_get-get_or, slice_index, some_ready, SoundStatements, SoundTargets, Space, space_after, statements_of, StmtResult, Suits, TargetViews, thread_count, thread_place_of, ThreadPlace, threads_at, waiting, words_of, worker_at, WorkerAt, WorkerStage, WorldAt}
use Rattle.sb_actor.specs.Moves.{is_clean}
use Rattle.sb_actor.specs.Rule.{sent}
use Rattle.sb_call.specs.declared.replies.Reply.{Reply as ReplyOf, Reply}
use Rattle.sb_core.specs.Fits.{Answered}
use Rattle.sb_core.specs.Fits.{results_at as results_in}
use Rattle.sb_core.specs.Runs.{ended}
use Rattle.sb_core.proofs.Beginning.{drained_threads}
use Rattle.sb_core.proofs.Judging.{none_behind, over_is}
use Rattle.sb_core.proofs.Belonging.{of_end, of_run, Keeps}
use Rattle.sb_core.proofs.RunLaws.{each_finished, finished_runs_are_whole, good_end, runs_are_legal, runs_keep_words, of_report}
use Rattle.sb_core.proofs.Ruling.{Ruled, ruled_of}
use Rattle.sb_core.proofs.Starting.{clean_length}
use Rattle.sb_core.proofs.Existence.{as_many, listed, some_target}
use Rattle.sb_core.proofs.Numbers.{self_same}
use Rattle.sb_core.proofs.Sets.{one_of_all}
use Rattle.sb_block.specs.declared.faults.BlockFault.{BlockFault}
use Rattle.sb_block.specs.declared.faults.BlockFault.TheVariants.{TooManyParams}
use Rattle.sb_book.specs.Replies.{fault_words}

-- each reply has at most seven extended words
abbrev pub AreShort : List Entry → Type 0
AreShort [] = Unit {0}
AreShort (e ∷ entries) = (length e.reply.ext ≤ 7) × AreShort entries

fault_short : (f : BlockFault) → length (fault_words f) ≤ 7
fault_short (TooManyParams n) = lit≤ tt
fault_short _ = lit≤ tt

module _ (answers : AnswersAreShort) where
  reply_short : (ns : Space) (target mark : ℕ) (d : Decision) → length (reply_of ns target mark d).ext ≤ 7
  reply_short ns target mark (Refused f) = fault_short f
  reply_short ns target mark (Performed tag line action args) = answers ns target tag args
  reply_short ns target mark _ = lit≤ tt

  pub legal_short : (s : Setting) (ns : Space) (entries : List Entry) → IsLegalFrom s ns entries → AreShort entries
  legal_short s ns [] h = tt
  legal_short s ns (e ∷ entries) h = (
    subst (λ (r : Reply). length r.ext ≤ 7) (sym h.0.replied) (reply_short ns e.target (mark_of e.taken) e.decision),
    legal_short s (space_after ns e.target e.decision) entries h.1,
  )

-- a served call, its reply read
abbrev pub read : Served → Answered
read x = record { channel = x.channel; taken = x.taken; reply = read_reply x.reply }

-- the served calls of a thread by the entries
pub served_entries : (come : RepliesComeBack) (script : Script) (t k : ℕ) (entries : List Entry) → AreShort entries
    → map read (calls_of (clean_channels script t) k (calls_at t entries)) ≡ map by_entry (filter (is_entry_of script t k) entries)
served_entries come script t k [] short = refl
served_entries come script t k (e ∷ entries) short = by_target (e.target == t) refl (served_entries come script t k entries short.1)
  where
    same : read (as_call e) ≡ by_entry e
    same = ap (λ (r : ReplyOf). record { channel = e.channel; taken = e.taken; reply = r }) (come e.reply short.0)

    by_mark : (b : Bool) → is_of (clean_channels script t) k (as_call e) ≡ b → (e.target == t) ≡ true
        → map read (calls_of (clean_channels script t) k (calls_at t entries)) ≡ map by_entry (filter (is_entry_of script t k) entries)
        → map read (cond b (as_call e ∷ calls_of (clean_channels script t) k (calls_at t entries)) (calls_of (clean_channels script t) k (calls_at t entries)))
        ≡ map by_entry (cond b (e ∷ filter (is_entry_of script t k) entries) (filter (is_entry_of script t k) entries))
    by_mark true f g rest = ap (λ (z : Answered × List Answered). z.0 ∷ z.1) (λ j. (same j, rest j))
    by_mark false f g rest = rest

    by_target : (b : Bool) → (e.target == t) ≡ b
        → map read (calls_of (clean_channels script t) k (calls_at t entries)) ≡ map by_entry (filter (is_entry_of script t k) entries)
        → map read (calls_of (clean_channels script t) k (calls_at t (e ∷ entries))) ≡ map by_entry (filter (is_entry_of script t k) (e ∷ entries))
    by_target true f rest =
        ap (λ b. map read (calls_of (clean_channels script t) k (map as_call (cond b (e ∷ filter (is_of_target t) entries) (filter (is_of_target t) entries))))) f
        ∙ (by_mark (is_of (clean_channels script t) k (as_call e)) refl f rest
        ∙ ap (λ b. map by_entry (cond (b && is_of (clean_channels script t) k (as_call e)) (e ∷ filter (is_entry_of script t k) entries) (filter (is_entry_of script t k) entries))) (sym f))
    by_target false f rest =
        ap (λ b. map read (calls_of (clean_channels script t) k (map as_call (cond b (e ∷ filter (is_of_target t) entries) (filter (is_of_target t) entries))))) f
        ∙ (rest
        ∙ ap (λ b. map by_entry (cond (b && is_of (clean_channels script t) k (as_call e)) (e ∷ filter (is_entry_of script t k) entries) (filter (is_entry_of script t k) entries))) (sym f))

-- and by what the thread had
pub had_results : (ended_calls : List EndedCall) → map read (map as_served ended_calls) ≡ map by_result (map as_own ended_calls)
had_results [] = refl
had_results (x ∷ ended_calls) = ap (λ (z : List Answered). by_result (as_own x) ∷ z) (had_results ended_calls)

-- an entry is among the calls of its target
pub entry_listed : (t : ℕ) (entries : List Entry) (i : ℕ) (e : Entry) → slice_get entries i ≡ Some e → (e.target == t) ≡ true → (n : ℕ) × (get_elem? (calls_at t entries) n ≡ some (as_call e))
entry_listed t [] i e q f = absurd (cc)
entry_listed t (x ∷ entries) zero e q f =
    let same : x ≡ e = cc in (
      0,
      subst (λ b. get_elem? (map as_call (cond b (x ∷ filter (is_of_target t) entries) (filter (is_of_target t) entries))) 0 ≡ some (as_call e)) (sym (ap (λ (z : Entry). z.target == t) same ∙ f))
          (ap (λ (z : Entry). some (as_call z)) same),
    )
entry_listed t (x ∷ entries) (suc i) e q f = by_test (x.target == t) refl (entry_listed t entries i e q f)
  where
    by_test : (b : Bool) → (x.target == t) ≡ b → (n : ℕ) × (get_elem? (calls_at t entries) n ≡ some (as_call e)) → (n : ℕ) × (get_elem? (calls_at t (x ∷ entries)) n ≡ some (as_call e))
    by_test true g rest =
        (suc rest.0, subst (λ b. get_elem? (map as_call (cond b (x ∷ filter (is_of_target t) entries) (filter (is_of_target t) entries))) (suc rest.0) ≡ some (as_call e)) (sym g) rest.1)
    by_test false g rest =
        (rest.0, subst (λ b. get_elem? (map as_call (cond b (x ∷ filter (is_of_target t) entries) (filter (is_of_target t) entries))) rest.0 ≡ some (as_call e)) (sym g) rest.1)

-- a worker that looks has no call in work
none_in_work : (c : ℕ) (stage : WorkerStage) → is_looking stage ≡ true → in_work c stage ≡ []
none_in_work c Look e = refl
none_in_work c _ e = absurd (cc)

-- what holds of each holds at each place
each_of : {X : Type 0} (p : X → Bool) (xs : List X) (d : X) → list_all p xs ≡ true → (i : ℕ) → i < length xs → p (get_or xs i d) ≡ true
each_of p xs d e i l = one_of_all p xs i (get_or xs i d) e (slice_get-get_or xs i d l)

-- a target whose worker looks and whose threads are outside calls
module _ (script : Script) (t : ℕ) (words : List ℕ) (entries : List Entry) (x : WorkerAt) (runs : List RunAt) (views : TargetViews)
    (h : AreViews script t words (calls_at t entries) x runs views) (come : RepliesComeBack) (short : AreShort entries) (looks : is_looking x.stage ≡ true)
    (numbers : (k : ℕ) → k < length runs → (get_or runs k no_run).thread.thread ≡ k)
    (outside : (k : ℕ) → k < length runs → thread_place_of (get_or runs k no_run).thread.block (get_or runs k no_run).thread.stage ≡ no_call) where
  abbrev clean : List Bool
  clean = clean_channels script t

  -- all entries of the target are served
  all_served : views.worker.served ≡ calls_at t entries
  all_served =
      sym (h.worker.serves ∙ (ap (λ (z : List Served). views.worker.served ++ z) (none_in_work x.channel x.stage looks) ∙ append-nil views.worker.served))

  -- the calls of a thread are its results
  pub own_results : (k : ℕ) → k < length runs → map by_entry (filter (is_entry_of script t k) entries) ≡ map by_result (own_calls script t k (get_or runs k no_run).results)
  own_results k l =
      let view = h.threads k l in
      let v = view.0 in
      let fits : FitsThread clean h.rule.owners views.worker.served k v = h.rule.fits k v view.1 in
      let away : v.place ≡ no_call = view.2.holds.place ∙ outside k l in
      let number : v.number ≡ k = view.2.holds.number ∙ numbers k l in
      let calls : calls_of clean k (calls_at t entries) ≡ map as_served v.ended_calls =
      ap (λ (z : ℕ × List Served). calls_of clean z.0 z.1) (λ j. (sym number j, sym all_served j))
      ∙ (fits.calls ∙ ap (λ (z : List EndedCall). map as_served z) (ap (λ (p : ThreadPlace). v.ended_calls ++ waiting clean h.rule.owners (place p)) away ∙ append-nil v.ended_calls)) in
      sym (served_entries come script t k entries short) ∙ (ap (λ (z : List Served). map read z) calls ∙ (had_results v.ended_calls ∙ ap (λ (z : List OwnCall). map by_result z) view.2.has))

  -- each entry on a clean channel is one of a thread
  pub one_of_thread : (i : ℕ) (e : Entry) → slice_get entries i ≡ Some e → (e.target == t) ≡ true → is_clean clean e.channel ≡ true
      → (k : ℕ) × (k < length runs) × (mark_of e.taken / 65536 ≡ k + 1)
  one_of_thread i e q f cl =
      let listed = entry_listed t entries i e q f in
      let of_threads = h.rule.fits_worker.of_threads listed.0 (as_call e) (subst (λ (z : List Served). get_elem? z listed.0 ≡ some (as_call e)) (sym all_served) listed.1) cl in
      (of_threads.0, subst (λ n. of_threads.0 < n) h.many of_threads.1, of_threads.2)

  -- each clean channel is free
  pub freed : (c : ℕ) → is_clean clean c ≡ true → slice_index words (at c 0) ≡ 1
  freed c cl = by_mid (h.rule.owners c) refl (h.rule.each_channel c cl)
    where
      nobody : (k : ℕ) → owner_of (h.rule.owners c) ≡ some k → ⊥
      nobody k e =
          let low : k < length runs = subst (λ n. k < n) h.many (h.rule.fits_worker.owners_there c k cl e) in
          let view = h.threads k low in
          let v = view.0 in
          let fits : FitsThread clean h.rule.owners views.worker.served k v = h.rule.fits k v view.1 in
          let number : v.number ≡ k = view.2.holds.number ∙ numbers k low in
          let there = fits.only c cl (e ∙ ap (λ z. some z) (sym number)) in
          some-ne-none c (sym there ∙ ap (λ (p : ThreadPlace). place p) (view.2.holds.place ∙ outside k low))

      by_mid : (m : Owner) → h.rule.owners c ≡ m → ChannelInvariant (h.rule.owners c) (sees c views.worker) (row words c) → slice_index words (at c 0) ≡ 1
      by_mid idle e q = (subst (λ z. ChannelInvariant z (sees c views.worker) (row words c)) e q).0
      by_mid (filling k ws) e q = absurd (nobody k (ap (λ z. owner_of z) e))
      by_mid (sent k block) e q = absurd (nobody k (ap (λ z. owner_of z) e))
      by_mid (has_reply k block reply) e q = absurd (nobody k (ap (λ z. owner_of z) e))

-- the world at the end of a run without an unfinished thread
module _ (laws : RuleLaws) (targets : SoundTargets) (statements : SoundStatements) (answers : AnswersKeepHistories) (settles : DrainsSettle) (come : RepliesComeBack) (answered : AnswersAreShort) (policies : List Policy) (script : Script)
    (schedule : Schedule) (can : CanRun policies script schedule) (finished : first_unfinished script (played policies script schedule).threads ≡ None) where
  abbrev before : WorldAt
  before = played policies script schedule

  abbrev w : WorldAt
  w = drained before

  was : Keeps script (Ruled script) before
  was = ruled_of laws targets statements script before (of_run policies script schedule can)

  is : Keeps script (Ruled script) w
  is = ruled_of laws targets statements script w (of_end targets statements policies script schedule can)

  same_threads : w.threads ≡ before.threads
  same_threads = drained_threads before

  each_over : (t k : ℕ) → k < length (threads_at w t) → thread_place_of (run_at w t k).thread.block (run_at w t k).thread.stage ≡ no_call
  each_over t k l =
      let over = each_finished script w.threads (ap (λ threads. first_unfinished script threads) same_threads ∙ finished) t k l in
      let x = (run_at w t k).thread in
      let last = (is.runs.stands t k l).over ∙ none_behind (statements_of script x.target x.thread) x.place over in
      ap (λ s. thread_place_of x.block s) (over_is x.stage last)

  short : AreShort w.shared.book.entries
  short =
      legal_short answered w.shared.book.setting (opening w.shared.book.setting.start) w.shared.book.entries
      (good_end targets statements answers policies script schedule can).has.history.legal

  settled : is_settled w ≡ true
  settled = settles before was.kept

  looking : (t : ℕ) → t < length w.workers → is_looking (worker_at w t).stage ≡ true
  looking t l =
      each_of (λ worker. is_looking worker.stage) w.workers no_worker
      (and_parts (list_all (λ worker. is_looking worker.stage) w.workers) (not (some_ready w.shared.words)) settled).0 t l

  there : (t : ℕ) → t < length script.targets → t < length w.workers
  there t l = subst (λ n. t < n) (sym (as_many script w is.kept is.runs)) l

  -- a thread of the script is one of a target that is there
  of_target : (t k : ℕ) → k < thread_count (slice_get script.targets t) → t < length script.targets
  of_target t k l = subst (λ n. t < n) is.runs.targets (listed w.threads t k (subst (λ n. k < n) (sym (is.runs.threads t)) l))

  -- and so is a clean channel
  of_channel : (t c : ℕ) → is_clean (clean_channels script t) c ≡ true → t < length script.targets
  of_channel t c e =
      some_target script.targets t 0 (subst (λ n. 0 < n) (clean_length script t (channels_of (slice_get script.targets t))) (positive (clean_channels script t) c e))
    where
      positive : (clean : List Bool) (c : ℕ) → is_clean clean c ≡ true → 0 < length clean
      positive [] c e = absurd (cc)
      positive (b ∷ clean) c e = omega arith

  results_same : (t k : ℕ) → (run_at w t k).results ≡ results_in (results_of before.threads) t k
  results_same t k =
      ap (λ (threads : List (List RunAt)). (get_or (get_or threads t []) k no_run).results) same_threads
      ∙ sym (ap (λ (rows : List (List StmtResult)). get_or rows k []) (get_or-map (λ (runs : List RunAt). map (λ (x : RunAt). x.results) runs) before.threads t [])
      ∙ get_or-map (λ (x : RunAt). x.results) (get_or before.threads t []) k no_run)

  own_replies : OwnReplies script w.shared.book.entries (results_of before.threads)
  own_replies = record {
    own = λ t k l.
        let low = there t (of_target t k l) in
        let v = is.has.rule t low in
        let m : k < length (threads_at w t) = subst (λ n. k < n) (sym (is.runs.threads t)) l in
        own_results script t (words_of w.shared.words t) w.shared.book.entries (worker_at w t) (threads_at w t) v.0 v.1 come short (looking t low)
        (λ j q. (is.kept.threads t j q).its_number) (λ j q. each_over t j q) k m
        ∙ ap (λ (z : List StmtResult). map by_result (own_calls script t k z)) (results_same t k);
    others = λ i e q cl.
        let low = there e.target (of_channel e.target e.channel cl) in
        let v = is.has.rule e.target low in
        let one = one_of_thread script e.target (words_of w.shared.words e.target) w.shared.book.entries (worker_at w e.target) (threads_at w e.target) v.0 v.1 come short (looking e.target low)
        (λ j q. (is.kept.threads e.target j q).its_number) (λ j q. each_over e.target j q) i e q (self_same e.target) cl in
        (one.0, subst (λ n. one.0 < n) (is.runs.threads e.target) one.1, one.2);
  }

  suit : ResultsSuit script (results_of before.threads)
  suit = of_report (λ t k i s r. Suits (clean_channels script t) (mark_at k i) s r) script before.threads was.has.suits

  freed_channels : (t c : ℕ) → t < length script.targets → is_clean (clean_channels script t) c ≡ true → slice_index (words_of w.shared.words t) (at c 0) ≡ 1
  freed_channels t c l cl =
      let low = there t l in
      let v = is.has.rule t low in
      freed script t (words_of w.shared.words t) w.shared.book.entries (worker_at w t) (threads_at w t) v.0 v.1 come short (looking t low)
      (λ j q. (is.kept.threads t j q).its_number) (λ j q. each_over t j q) c cl

pub runs_fit : RuleLaws → SoundTargets → SoundStatements → AnswersKeepHistories → DrainsSettle → RepliesComeBack → AnswersAreShort → RunsFit
runs_fit laws targets statements answers settles come answered policies script schedule can all_ended =
    by_finish (first_unfinished script (played policies script schedule).threads) refl all_ended
    (finished_runs_are_whole targets statements answers settles policies script schedule can all_ended) (runs_are_legal targets statements answers policies script schedule can)
    (runs_keep_words targets statements answers policies script schedule can)
  where
    by_finish : (o : Option (ℕ × ℕ)) → first_unfinished script (played policies script schedule).threads ≡ o → (ended (played policies script schedule) o).unfinished ≡ None
        → AreAllResults script (ended (played policies script schedule) o).report.results × (some_ready (ended (played policies script schedule) o).report.words ≡ false)
        → IsHistory (record { setting = setting_of policies script; space = (ended (played policies script schedule) o).report.kernel; entries = (ended (played policies script schedule) o).report.entries })
        → map (λ words. length words) (ended (played policies script schedule) o).report.words ≡ map (λ target. target.channels * 65) script.targets
        → Fits policies script (ended (played policies script schedule) o).report
    by_finish None e u whole legal sizes = record {
      history = legal;
      whole_results = whole.0;
      own_replies = own_replies laws targets statements answers settles come answered policies script schedule can e;
      suit = suit laws targets statements answers settles come answered policies script schedule can e;
      final_words = record {
        sizes = sizes;
        served = whole.1;
        freed = freed_channels laws targets statements answers settles come answered policies script schedule can e;
      };
    }
    by_finish (Some thread) e u whole legal sizes = absurd (cc)
