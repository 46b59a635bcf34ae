use Rattle.std.proofs.Common.{rules}
use Rattle.sb_local.proofs.Sound.{ready_again}
use Rattle.sb_local.proofs.thinning.make_ready.Goals as goal

pub of-requires : goal.of-requires
of-requires c =
    let ready = ready_again c.requires.thinned.0 c.args.ready.now.policies c.args.ready.now.script c.args.thinned c.requires.thinned.1
    c.establish_ready.ensures.ready in
    search rules
