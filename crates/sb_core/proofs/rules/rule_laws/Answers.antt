use Rattle.sb_core.proofs.rules.rule_laws.Goals as goal

pub returns : goal.returns
returns c = record {
  starts = c.starts_in_rule.ensures;
  thread_keeps = c.thread_keeps_rule.ensures;
  worker_keeps = c.worker_keeps_rule.ensures;
  stray_keeps = c.stray_keeps_rule.ensures;
  worker_follows = c.worker_follows.ensures;
  thread_follows = c.thread_follows.ensures;
  gives_up = c.clean_channels_are_kept.ensures;
  blocks = c.blocks_are_whole.ensures;
}
