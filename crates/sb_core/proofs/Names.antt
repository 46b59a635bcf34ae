-- The names of definitions that the lemmas of this crate share.
pub use Rattle.sb_actor.specs.Acts.{abandoned, acknowledged, busy, turn_in, value_in}
pub use Rattle.sb_actor.specs.Findings.{IsCaused, ResultsHaveCauses, ValuesTell, after_values, results_of_values}
pub use Rattle.sb_actor.specs.Fitting.{IsUncleanAt, Suits, SuitsCall}
pub use Rattle.sb_actor.specs.Following.{Follows, Tells, act_word, act_wrote}
pub use Rattle.sb_actor.specs.Laws.{first_thread, opening_at, words_after}
pub use Rattle.sb_actor.specs.Moves.{Deed, IsBlock, IsUnclean, IsWord, StrayMay, abandon, acknowledge, answer, at, copy, fetch, fill, load_count, load_end, look, met, no_call, send, served_by, stray_exchange, stray_load, stray_store, stray_wait, take_it, thread_view, wait, worker_view, wrote}
pub use Rattle.sb_actor.specs.Observations.{Observation}
pub use Rattle.sb_actor.specs.Places.{block_of, clean_channels, clean_upto, first_stage, is_call, is_finished, mark_at, or_none, statement_at, statements_of, thread_start, threads_of}
pub use Rattle.sb_actor.specs.Ranges.{IsReplyTo, IsSoundStage, IsSoundThreadStage}
pub use Rattle.sb_actor.specs.Rule.{Agrees, AllAbandoned, ChannelInvariant, FitsThread, Owner, Row, Rule, has_reply, as_served, calls_of, filling, idle, is_of, owner_of, place, row, sees, served_at, waiting}
pub use Rattle.sb_actor.specs.ThreadFollowing.{GivesUp, ThreadGoes}
pub use Rattle.sb_actor.specs.ThreadStages.{Abandon, Free, Over, Send, Stray, ThreadAt, ThreadStage, Wait}
pub use Rattle.sb_actor.specs.ThreadTable.{ThreadNext, after_round, ends, goes_on, has_clean, is_clean_at, stays, stray_row, thread_after, thread_plan, thread_row}
pub use Rattle.sb_actor.specs.Ties.{thread_deed, thread_place_of, worker_deed, worker_place_of}
pub use Rattle.sb_actor.specs.Views.{EndedCall, Served, ThreadPlace, ThreadView, WorkerPlace, WorkerView}
pub use Rattle.sb_actor.specs.WorkerStages.{Ack, Answer, Copy, Count, End, Give, Look, Take, WorkerAt, WorkerStage}
pub use Rattle.sb_actor.specs.WorkerTable.{IsAnswer, after_copy, after_count, after_end, after_reply, is_looking, look_next, taken_in, worker_after, worker_plan, worker_row}
pub use Rattle.sb_actor.specs.declared.acts.Act.{Act}
pub use Rattle.sb_block.specs.Blocks.{block, has_units}
pub use Rattle.sb_block.specs.Copies.{Copied, copied, is_copy, is_end, mark_of, whole}
pub use Rattle.sb_block.specs.Layout.{mark_in}
pub use Rattle.sb_block.specs.Packing.{offset_of}
pub use Rattle.sb_block.specs.Replies.{RepliesComeBack, read_reply, reply_words}
pub use Rattle.sb_book.specs.Histories.{History, IsHistory, IsLegalFrom, Setting, answered, entry_of, new_history, reply_of, setting_of, space_after, target_decision}
pub use Rattle.sb_book.specs.Laws.{AnswersKeepHistories}
pub use Rattle.sb_book.specs.Readiness.{IsReady, is_judged}
pub use Rattle.sb_book.specs.Targets.{is_of_target}
pub use Rattle.sb_book.specs.declared.decisions.Decision.{Decision}
pub use Rattle.sb_book.specs.declared.decisions.Decision.TheVariants.{Performed, Refused}
pub use Rattle.sb_book.specs.declared.entries.Entry.{Entry}
pub use Rattle.sb_core.specs.Actors.{are_there, first_actors, first_threads, in_turn, round_actors, scheduled, target_actors, worker_actors}
pub use Rattle.sb_core.specs.Changes.{IsOneMore, is_load, moves_turn, writes}
pub use Rattle.sb_core.specs.Drains.{IsBeginning, after_passes, drained, drained_by, is_settled, most_passes, one_pass, pass_below}
pub use Rattle.sb_core.specs.EntryCounts.{RunsHaveFewEntries, StatementsAreFew, WorldsHaveFewEntries, statement_count, statements_in}
pub use Rattle.sb_core.specs.Findings.{AreCaused, RunsAreCaused, ThreadsFollowTheirValues, WorldsAreCaused, found_by, run_actors}
pub use Rattle.sb_core.specs.Fits.{Fits, IsOwnSoFar, IsPresent, OwnReplies, RepliesAreOwn, ResultsSuit, RunsFit, RunsReplyOwn, WorldsOfScriptsReplyOwn, by_entry, by_result, is_entry_of}
pub use Rattle.sb_core.specs.Kept.{IsAtStatement, IsRunOf, IsRunning, IsWorkerOf, IsWorld, RunsUnder, channel_in, channels_at, has_turn, is_calling, is_holder, is_over}
pub use Rattle.sb_core.specs.Laws.{AreRounds, BeginningsAreSteps, CopiesAreAnswered, CopiesAreJudged, DrainsAreSteps, DrainsKeep, DrainsSettle, EndsAreRuns, EndsCanFinish, FinishedRunsAreWhole, FinishedThreadsStay, HasTarget, OrdersAreSchedules, PlansAreThere, RoundsAreSteps, RunsAreLegal, RunsHaveResults, RunsKeepWords, StartsKeep, StepsAreFolds, StepsChangeLittle, StepsKeep, TurnsAreHeld, WorkersAreThere, copy_in}
pub use Rattle.sb_core.specs.OfScripts.{DrainsAreOfScripts, IsOfScript, StartsAreOfScripts, StepsAreOfScripts, WorldsOfScriptsRun}
pub use Rattle.sb_core.specs.Origins.{AreSourcedCopies, AreSourcedWords, HasBlockSource, HasSource, HasStateSource, IsSourced, IsSourcedCopy, IsSourcedReply, NoBlockIsInvented, Shows, ShowsCall, StoresThere, WorldsAreSourced}
pub use Rattle.sb_core.specs.Reports.{report_of, results_of}
pub use Rattle.sb_core.specs.Results.{AreAllResults, ResultsFit, is_result_of, result_at}
pub use Rattle.sb_core.specs.Rules.{AreInRule, RuleHolds, RuleLaws, RunsKeepRule, WorldsOfScriptsKeepRule}
pub use Rattle.sb_core.specs.Runs.{CanFinish, CanRun, most_results, played, ran, schedule_of, world_of}
pub use Rattle.sb_core.specs.Shared.{Effect, IsActThere, Sets, SharedAt, WorkerStep, changed, is_answer, on_answer, on_word, on_worker, worker_by, worker_step_of}
pub use Rattle.sb_core.specs.Tallies.{EntriesAreFew, WorldsAreFew, ends_call, ends_on, entries_on, has_sent, is_state, one_if, tally_all, tally_from, tally_of, tally_row, tally_so_far, tally_targets, tally_threads}
pub use Rattle.sb_core.specs.Threads.{HasRoom, RunAt, ThreadStep, are_over, first_unfinished, no_run, or_else, thread_step, unfinished_of}
pub use Rattle.sb_core.specs.Views.{AreViews, HasView, InRule, OwnCall, ShowsThread, TargetViews, as_call, as_own, calls_at, in_work, own_call, own_calls, own_from, own_if, own_of}
pub use Rattle.sb_core.specs.Words.{IsWordThere, exchanged, free_channel, free_channels, has_ready, is_ready_below, loaded, some_ready, stored, words_of}
pub use Rattle.sb_core.specs.Worlds.{WorldAt, all_finished, all_over, first_run, first_runs, first_words, first_worker, first_workers, no_worker, round, rounds, run_at, start_threads, start_world, step, steps, thread_goes, threads_at, worker_at, worker_goes, worker_step}
pub use Rattle.sb_kernel.specs.Laws.{AnswersAreShort}
pub use Rattle.sb_kernel.specs.Namespaces.{Space}
pub use Rattle.sb_kernel.specs.Openings.{opened, opening}
pub use Rattle.sb_rule.specs.Verdicts.{policy_at}
pub use Rattle.sb_rule.specs.declared.policies.Policy.{Policy}
pub use Rattle.sb_statements.specs.Actors.{is_step_there, is_there, thread_count}
pub use Rattle.sb_statements.specs.Scripts.{threads_write, writes_channel}
pub use Rattle.sb_statements.specs.Soundness.{SoundStatements, SoundTargets, are_targets, channels_of, has_word, is_patience, is_sound, is_start, is_statement, is_target, is_thread, names_differ}
pub use Rattle.sb_statements.specs.Units.{script_has_units, statement_has_units, target_has_units, thread_has_units}
pub use Rattle.sb_statements.specs.Words.{place_of}
pub use Rattle.sb_statements.specs.declared.results.CallResult.{CallResult}
pub use Rattle.sb_statements.specs.declared.results.StmtResult.{StmtResult}
pub use Rattle.sb_statements.specs.declared.schedules.Actor.{Actor}
pub use Rattle.sb_statements.specs.declared.schedules.Actor.TheVariants.{Thread, Worker}
pub use Rattle.sb_statements.specs.declared.schedules.Schedule.{Schedule}
pub use Rattle.sb_statements.specs.declared.scripts.Script.{Script}
pub use Rattle.sb_statements.specs.declared.scripts.TargetScript.{TargetScript}
pub use Rattle.sb_statements.specs.declared.statements.Statement.{Statement}
pub use Rattle.sb_statements.specs.declared.statements.Word.{Word}
pub use Rattle.std.proofs.Math.ListN.{get_or-append, get_or-map}
pub use Rattle.std.proofs.lemmas.Bool.{and_from, and_parts}
pub use Rattle.std.proofs.lemmas.Bool.Decides.{nat_tests}
pub use Rattle.std.proofs.lemmas.List.{append-nil, length-map, map-append, set-get_or, take_all}
pub use Rattle.std.proofs.lemmas.List.Sums.{sum_by-cons}
pub use Rattle.std.proofs.lemmas.Option.{slice_get-get_or, slice_get_within}
pub use Rattle.std.specs.List.{filter, list_all, list_any}
pub use Rattle.std.specs.Option.{option_to_list}
pub use Rattle.std.specs.Prelude.{nat_le, nat_lt, slice_index}
pub use native.Mathlib.Decide.{ℕ_discrete}
