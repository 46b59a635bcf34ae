use Rattle.std.specs.Option.{option_copied}
use Rattle.std.proofs.Common.{◌∙◌, ap, sym}
use Rattle.sb_compare.proofs.ComparedLemmas.{named_made}
use Rattle.sb_compare.proofs.comparing.put_new.Goals as goal

pub put_policy-requires-clause-old : goal.put_policy-requires-clause-old
put_policy-requires-clause-old c =
    named_made c.args.new.now.name c.args.olds.now c.in-Some.old.now (sym c.policy_named.ensures ∙ ap (λ o. option_copied o) c.in-Some.is) c.requires.olds
