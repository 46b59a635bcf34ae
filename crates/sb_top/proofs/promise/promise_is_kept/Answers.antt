use Rattle.sb_top.proofs.Promising.{promise_is_kept}
use Rattle.sb_top.proofs.promise.promise_is_kept.Goals as goal

pub returns : goal.returns
returns g c =
    promise_is_kept _ _ (record {
      sound = c.runs_are_sound.ensures;
      totals = c.totals_are_of_verdicts.ensures;
      made = c.read_policies_are_well_made.ensures;
      ready = c.read_scripts_are_ready.ensures;
      there = c.read_schedules_are_bounded.ensures.there;
      says = c.entries_say_what_was_done.ensures;
      only = c.only_performed_calls_count.ensures;
      deciding = c.first_rule_decides.ensures.deciding;
      none = c.no_rule_where_none_holds.ensures;
      tell = c.transcripts_tell_their_lines.ensures;
      first = c.entries_come_first.ensures;
      follow = c.results_follow.ensures;
      last = c.totals_end.ensures;
      thin_ready = c.thinned_scripts_are_sound.ensures.ready;
      actors = c.thinned_scripts_are_sound.ensures.actors;
      logs = c.logs_are_of_answers.ensures;
      resolved = c.script_calls_are_resolved.ensures.performed;
      links = c.read_links_are_links.ensures;
    })
