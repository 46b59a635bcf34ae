-- Worked cases, by computation.
use Rattle.std.proofs.Common.{◌≡◌, refl, ap, ℕ, List, [], ◌∷◌, ◌++◌}
use Rattle.std.proofs.lemmas.List.{append-nil}
use Rattle.std.specs.Prelude.{codes}
use Rattle.std.specs.Fmt.{decimal}
use Rattle.sb_call.specs.declared.arguments.Arg.TheVariants.{Num, Str}
use Rattle.sb_call.specs.declared.tags.CallTag.{CallTag}
use Rattle.sb_call.specs.declared.tags.CallTag.TheVariants.{Ping, FileOpen, HandleClose}
use Rattle.sb_rule.specs.declared.actions.Action.{Action}
use Rattle.sb_rule.specs.declared.actions.Action.TheVariants.{Deny, Alarm}
use Rattle.sb_rule.specs.declared.policies.Policy.{Policy}
use Rattle.sb_rule.specs.declared.policies.Rule.{Rule}
use Rattle.sb_rule.specs.declared.verdicts.Verdict.TheVariants as verdict
use Rattle.sb_statements.specs.declared.scripts.Script.{Script}
use Rattle.sb_statements.specs.declared.statements.Statement.{Statement}
use Rattle.sb_statements.specs.declared.statements.Statement.TheVariants.{Call, Load}
use Rattle.sb_local.specs.Lines.{denial_line}
use Rattle.sb_local.specs.Thinning.{kept_from, thin, thin_thread}
use Rattle.sb_local.proofs.Denied.{denied_from}

-- a rule without conditions
abbrev rule : CallTag → Action → ℕ → Rule
rule tag action line = record { tag = tag; conds = []; action = action; line = line }

-- one policy: a rule that says alarm of each ping, on line 3, and one that says deny of each handle that is closed, on line 4
abbrev policy : Policy
policy = record { name = codes "web"; rules = rule Ping Alarm 3 ∷ rule HandleClose Deny 4 ∷ [] }

abbrev ping : Statement
ping = Call Ping (Num 7 ∷ Str [] ∷ [])

abbrev close : Statement
close = Call HandleClose (Num 1 ∷ [])

abbrev open_file : Statement
open_file = Call FileOpen (Str [] ∷ Num 1 ∷ Num 7 ∷ Num 0 ∷ [])

abbrev load : Statement
load = Load 0 (record { channel = 0; at = 0 })

-- a call that alarms is sent
alarm_is_sent : thin_thread policy (ping ∷ []) ≡ ping ∷ []
alarm_is_sent = refl

-- calls on which there is no rule, or one that says deny, are left out, and all else stays in its order
rest_stays : thin_thread policy (open_file ∷ ping ∷ close ∷ load ∷ ping ∷ []) ≡ ping ∷ load ∷ ping ∷ []
rest_stays = refl

places_stay : kept_from policy 0 (open_file ∷ ping ∷ close ∷ load ∷ ping ∷ []) ≡ 1 ∷ 3 ∷ 4 ∷ []
places_stay = refl

denials_come : denied_from policy 2 1 0 (open_file ∷ ping ∷ close ∷ load ∷ ping ∷ [])
    ≡ record { target = 2; thread = 1; place = 0; tag = FileOpen; verdict = verdict.NoRule }
    ∷ record { target = 2; thread = 1; place = 2; tag = HandleClose; verdict = verdict.Rule 4 Deny } ∷ []
denials_come = refl

-- a script with one target, of two threads, the second of which thins to nothing
abbrev script : Script
script = record {
  patience = 1;
  start = [];
  targets = record { name = codes "tab"; policy = 0; channels = 1; threads = (close ∷ ping ∷ []) ∷ (open_file ∷ close ∷ []) ∷ [] } ∷ [];
}

thread_thins_to_nothing : (thin (policy ∷ []) script).script
    ≡ record script { targets = record { name = codes "tab"; policy = 0; channels = 1; threads = (ping ∷ []) ∷ [] ∷ [] } ∷ [] }
thread_thins_to_nothing = refl

its_places : (thin (policy ∷ []) script).kept ≡ ((1 ∷ []) ∷ [] ∷ []) ∷ []
its_places = refl

no_rule_is_told : denial_line script (record { target = 0; thread = 1; place = 0; tag = FileOpen; verdict = verdict.NoRule })
    ≡ codes "local tab " ++ decimal 1 ++ codes " " ++ decimal 0 ++ codes " " ++ codes "file.open" ++ codes " norule" ++ codes "\n"
no_rule_is_told = refl

rule_is_told : denial_line script (record { target = 0; thread = 1; place = 1; tag = HandleClose; verdict = verdict.Rule 4 Deny })
    ≡ codes "local tab " ++ decimal 1 ++ codes " " ++ decimal 1 ++ codes " " ++ codes "handle.close" ++ (codes " rule " ++ decimal 4) ++ codes "\n"
rule_is_told =
    ap (λ (n : List ℕ). codes "local tab " ++ decimal 1 ++ codes " " ++ decimal 1 ++ codes " " ++ codes "handle.close" ++ (codes " rule " ++ n) ++ codes "\n")
    (append-nil (decimal 4))
