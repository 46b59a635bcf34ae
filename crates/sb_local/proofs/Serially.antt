-- The calls that are left out change nothing.
use Rattle.std.proofs.Common.{◌≡◌, ◌∙◌, refl, sym, ap, ℕ, ◌+◌, List, [], ◌∷◌, ◌++◌, true, ◌&&◌, length, map, Option, None, Some}
use Rattle.std.proofs.lemmas.Bool.{and_parts}
use Rattle.std.specs.Prelude.{nat_le}
use Rattle.std.specs.List.{list_all}
use Rattle.sb_block.specs.Laws.{BlocksComeBack}
use Rattle.sb_book.specs.Histories.{space_after}
use Rattle.sb_call.specs.declared.arguments.Arg.{Arg}
use Rattle.sb_call.specs.declared.tags.CallTag.{CallTag}
use Rattle.sb_kernel.specs.Namespaces.{Space}
use Rattle.sb_kernel.specs.Openings.{opening}
use Rattle.sb_rule.specs.Verdicts.{policy_at, verdict_of}
use Rattle.sb_rule.specs.declared.policies.Policy.{Policy}
use Rattle.sb_rule.specs.declared.verdicts.Verdict.{Verdict}
use Rattle.sb_statements.specs.Soundness.{is_sound, is_statement, is_target, is_thread, names_differ}
use Rattle.sb_statements.specs.Units.{statement_has_units, target_has_units, thread_has_units}
use Rattle.sb_statements.specs.declared.scripts.Script.{Script}
use Rattle.sb_statements.specs.declared.scripts.TargetScript.{TargetScript}
use Rattle.sb_statements.specs.declared.statements.Statement.{Statement}
use Rattle.sb_statements.specs.declared.statements.Statement.TheVariants.{Call, Store, Exchange, Load, Wait}
use Rattle.sb_local.specs.Denials.{denial_of, is_local_denial}
use Rattle.sb_local.specs.Laws.{DeniedCallsChangeNothing}
use Rattle.sb_local.specs.Serial.{serial_statement, serial_targets, serial_thread, serial_threads}
use Rattle.sb_local.specs.Thinning.{statement_if_kept, thin_targets, thin_thread}
use Rattle.sb_local.proofs.Denying.{block_is_denied, denied_call}
use Rattle.sb_local.proofs.Sound.{targets_of}

call_same : (tag : CallTag) (args : List Arg) (tag' : CallTag) (args' : List Arg) → Call tag args ≡ Call tag' args'
    → ◌≡◌ {A = CallTag × List Arg} (tag, args) (tag', args')
call_same tag args tag' args' e = cc

-- a statement that is left out changes nothing
denied_stays : BlocksComeBack → (policy : Policy) (targets : List TargetScript) (t : ℕ) (space : Space) (s : Statement) (d : CallTag × Verdict)
    → is_statement targets s ≡ true → statement_has_units s ≡ true → denial_of policy s ≡ Some d → serial_statement policy t space s ≡ space
denied_stays back policy targets t space (Call tag args) d sound units h =
    let c = denied_call policy (Call tag args) d h in
    let same = call_same tag args d.0 c.args c.call in
    let local : is_local_denial (verdict_of policy tag args) ≡ true =
    ap (λ x. is_local_denial (verdict_of policy x.0 x.1)) same ∙ ap is_local_denial c.says ∙ c.denies in
    ap (space_after space t) (block_is_denied back policy targets tag args 0 sound units local)
denied_stays back policy targets t space (Store target word value) d sound units h = refl
denied_stays back policy targets t space (Exchange target word from to) d sound units h = refl
denied_stays back policy targets t space (Load target word) d sound units h = refl
denied_stays back policy targets t space (Wait target word value most) d sound units h = refl

serial_if : (policy : Policy) (t : ℕ) (s : Statement) (o : Option (CallTag × Verdict)) (ys : List Statement) (space : Space)
    → ((d : CallTag × Verdict) → o ≡ Some d → serial_statement policy t space s ≡ space)
    → serial_thread policy t space (statement_if_kept s o ++ ys) ≡ serial_thread policy t (serial_statement policy t space s) ys
serial_if policy t s None ys space h = refl
serial_if policy t s (Some d) ys space h = ap (λ sp. serial_thread policy t sp ys) (sym (h d refl))

thread_serial : BlocksComeBack → (policy : Policy) (targets : List TargetScript) (t : ℕ) (ss : List Statement) (space : Space)
    → list_all (is_statement targets) ss ≡ true → list_all statement_has_units ss ≡ true
    → serial_thread policy t space (thin_thread policy ss) ≡ serial_thread policy t space ss
thread_serial back policy targets t [] space h u = refl
thread_serial back policy targets t (s ∷ ss) space h u =
    let sound = and_parts (is_statement targets s) (list_all (is_statement targets) ss) h in
    let units = and_parts (statement_has_units s) (list_all statement_has_units ss) u in
    serial_if policy t s (denial_of policy s) (thin_thread policy ss) space (λ d e. denied_stays back policy targets t space s d sound.0 units.0 e)
    ∙ thread_serial back policy targets t ss (serial_statement policy t space s) sound.1 units.1

statements_of_thread : (targets : List TargetScript) (ss : List Statement) → is_thread targets ss ≡ true → list_all (is_statement targets) ss ≡ true
statements_of_thread targets ss h = (and_parts (nat_le (length ss) 4096) (list_all (is_statement targets) ss) h).1

threads_of_target : (targets : List TargetScript) (x : TargetScript) → is_target targets x ≡ true → list_all (is_thread targets) x.threads ≡ true
threads_of_target targets x h =
    let few = nat_le 1 x.channels && nat_le x.channels 8 && nat_le (length x.threads) 4 in
    (and_parts few (list_all (is_thread targets) x.threads) h).1

threads_serial : BlocksComeBack → (policy : Policy) (targets : List TargetScript) (t : ℕ) (threads : List (List Statement)) (space : Space)
    → list_all (is_thread targets) threads ≡ true → list_all thread_has_units threads ≡ true
    → serial_threads policy t space (map (thin_thread policy) threads) ≡ serial_threads policy t space threads
threads_serial back policy targets t [] space h u = refl
threads_serial back policy targets t (ss ∷ more) space h u =
    let sound = and_parts (is_thread targets ss) (list_all (is_thread targets) more) h in
    let units = and_parts (thread_has_units ss) (list_all thread_has_units more) u in
    let same = thread_serial back policy targets t ss space (statements_of_thread targets ss sound.0) units.0 in
    ap (λ sp. serial_threads policy t sp (map (thin_thread policy) more)) same
    ∙ threads_serial back policy targets t more (serial_thread policy t space ss) sound.1 units.1

targets_serial : BlocksComeBack → (policies : List Policy) (targets : List TargetScript) (t : ℕ) (xs : List TargetScript) (space : Space)
    → list_all (is_target targets) xs ≡ true → list_all target_has_units xs ≡ true
    → serial_targets policies t space (thin_targets policies t xs) ≡ serial_targets policies t space xs
targets_serial back policies targets t [] space h u = refl
targets_serial back policies targets t (x ∷ xs) space h u =
    let sound = and_parts (is_target targets x) (list_all (is_target targets) xs) h in
    let units = and_parts (target_has_units x) (list_all target_has_units xs) u in
    let same = threads_serial back (policy_at policies t) targets t x.threads space (threads_of_target targets x sound.0) units.0 in
    ap (λ sp. serial_targets policies (t + 1) sp (thin_targets policies (t + 1) xs)) same
    ∙ targets_serial back policies targets (t + 1) xs (serial_threads (policy_at policies t) t space x.threads) sound.1 units.1

-- each target of a sound script is sound
pub each_target : (script : Script) → is_sound script ≡ true → list_all (is_target script.targets) script.targets ≡ true
each_target script h =
    (and_parts (nat_le (length script.targets) 8 && names_differ script.targets) (list_all (is_target script.targets) script.targets) (targets_of script h)).1

pub denied_change_nothing : BlocksComeBack → DeniedCallsChangeNothing
denied_change_nothing back policies script h =
    targets_serial back policies script.targets 0 script.targets (opening script.start) (each_target script h.sound) h.units
