use Rattle.std.proofs.Common.{◌≡◌, ◌⊎◌, ◌∙◌, refl, ◌≤◌, ◌∷◌, [], ap, sym, subst, ℕ, List, Option, map, rules}
use Rattle.std.specs.Borrow.{Bor}
use Rattle.std.proofs.lemmas.List.{length-map}
use Rattle.std.specs.Prelude.{Result, Ok, Err}
use Rattle.sb_book.specs.ReadyScripts.{Ready}
use Rattle.sb_message.specs.declared.statuses.Refusal.TheVariants.{NoMemory}
use Rattle.sb_outside.specs.Outside.{Held, Rose}
use Rattle.sb_statements.specs.declared.scripts.Script.{Script}
use Rattle.sb_plain.specs.Contents.{FileContent, most_bytes, policies_in, policies_of, refused, script_in, script_of}
use Rattle.sb_plain.specs.Readings.{IsFound}
use Rattle.sb_plain.specs.ScriptEnds.{IsWithScript, script_read}
use Rattle.sb_plain.proofs.KeptFiles.{kept_after, made_of, result_caused, stopped}
use Rattle.sb_plain.proofs.ReadFiles.{FoundAlone, opened}
use Rattle.sb_plain.proofs.ScriptEnds.{Known, LaterFound, all_read, few_later, is_named_so, no_policies, no_script, policies_known, read_if, read_named, read_refused, refused_later, refused_policies, refused_script, script_known, unread_later, unread_policies, unread_script}
use Rattle.sb_plain.proofs.driver.read_script.Goals as goal

pub returns-in_err-policy_text-clause-files : goal.returns-in_err-policy_text-clause-files
returns-in_err-policy_text-clause-files g c =
    stopped c.from_residual.result c.in_err-policy_text.field-0.0 c.from_residual.ensures.1 (c.in_err-policy_text.ensures.files)

pub returns-in_err-policy_text-clause-found : goal.returns-in_err-policy_text-clause-found
returns-in_err-policy_text-clause-found g c =
    let held = g.F.Files.held c.args.files.now in
    let most = g.L.LaterFile.most c.args.later.now in
    let reads = g.L.LaterFile.reads c.args.later.now in
    let policy = c.in-Some.policy.now.now in
    let script = c.in-Some-split_first.script.now.now in
    let last = map (λ (name : Bor (List ℕ)). name.now) c.in-Some-split_first.last.now in
    let split : c.args.names.now ≡ c.in-Some.policy.now ∷ c.in-Some-split_first.script.now ∷ c.in-Some-split_first.last.now = search rules in
    let named : map (λ (name : Bor (List ℕ)). name.now) c.args.names.now ≡ policy ∷ script ∷ last = ap (map (λ (name : Bor (List ℕ)). name.now)) split in
    let refusal = c.in_err-policy_text.field-0.0 in
    read_refused most reads held (map (λ (name : Bor (List ℕ)). name.now) c.args.names.now) (policy ∷ script ∷ last) c.from_residual.result refusal named c.from_residual.ensures.1
    (unread_policies most reads held policy script last refusal (opened most_bytes 1 held policy (Err refusal) c.in_err-policy_text.ensures.found))

pub returns-in_err-policies-clause-files : goal.returns-in_err-policies-clause-files
returns-in_err-policies-clause-files g c =
    let K1 = c.in_ok-policy_text.ensures.files in
    stopped {A = FileContent} c.from_residual-in_err-policies.result c.in_err-policies.field-0.0 c.from_residual-in_err-policies.ensures.1 (made_of {B = FileContent} c.in_ok-policy_text.policy_text (Err c.in_err-policies.field-0.0) K1 (result_caused {B = FileContent} (g.F.Files.held c.args.files.now) (Rose (g.F.Files.faults c.args.files.now) (g.F.Files.faults c.read_text.new.files)) (Err c.in_err-policies.field-0.0) c.in_err-policies.ensures.refused))

pub returns-in_err-policies-clause-found : goal.returns-in_err-policies-clause-found
returns-in_err-policies-clause-found g c =
    let held = g.F.Files.held c.args.files.now in
    let most = g.L.LaterFile.most c.args.later.now in
    let reads = g.L.LaterFile.reads c.args.later.now in
    let policy = c.in-Some.policy.now.now in
    let script = c.in-Some-split_first.script.now.now in
    let last = map (λ (name : Bor (List ℕ)). name.now) c.in-Some-split_first.last.now in
    let split : c.args.names.now ≡ c.in-Some.policy.now ∷ c.in-Some-split_first.script.now ∷ c.in-Some-split_first.last.now = search rules in
    let named : map (λ (name : Bor (List ℕ)). name.now) c.args.names.now ≡ policy ∷ script ∷ last = ap (map (λ (name : Bor (List ℕ)). name.now)) split in
    let text1 = c.in_ok-policy_text.policy_text in
    let K1 = c.in_ok-policy_text.ensures.files in
    let O1 = opened most_bytes 1 held policy (Ok text1) c.in_ok-policy_text.ensures.found in
    let refusal = c.in_err-policies.field-0.0 in
    read_refused most reads held (map (λ (name : Bor (List ℕ)). name.now) c.args.names.now) (policy ∷ script ∷ last) c.from_residual-in_err-policies.result refusal named c.from_residual-in_err-policies.ensures.1
    (refused_policies most reads held policy script last text1 refusal O1 c.in_err-policies.ensures.given)

pub returns-in_err-script_text-clause-files : goal.returns-in_err-script_text-clause-files
returns-in_err-script_text-clause-files g c =
    let K1 = c.in_ok-policy_text.ensures.files in
    stopped c.from_residual-in_err-script_text.result c.in_err-script_text.field-0.0 c.from_residual-in_err-script_text.ensures.1 (kept_after c.in_ok-policy_text.policy_text (Err c.in_err-script_text.field-0.0) K1 c.in_err-script_text.ensures.files)

pub returns-in_err-script_text-clause-found : goal.returns-in_err-script_text-clause-found
returns-in_err-script_text-clause-found g c =
    let held = g.F.Files.held c.args.files.now in
    let most = g.L.LaterFile.most c.args.later.now in
    let reads = g.L.LaterFile.reads c.args.later.now in
    let policy = c.in-Some.policy.now.now in
    let script = c.in-Some-split_first.script.now.now in
    let last = map (λ (name : Bor (List ℕ)). name.now) c.in-Some-split_first.last.now in
    let split : c.args.names.now ≡ c.in-Some.policy.now ∷ c.in-Some-split_first.script.now ∷ c.in-Some-split_first.last.now = search rules in
    let named : map (λ (name : Bor (List ℕ)). name.now) c.args.names.now ≡ policy ∷ script ∷ last = ap (map (λ (name : Bor (List ℕ)). name.now)) split in
    let text1 = c.in_ok-policy_text.policy_text in
    let K1 = c.in_ok-policy_text.ensures.files in
    let O1 = opened most_bytes 1 held policy (Ok text1) c.in_ok-policy_text.ensures.found in
    let policies = c.in_ok-policies.policies.list in
    let P1 : Known policies_in held policy policies = policies_known held policy text1 policies O1 c.in_ok-policies.ensures.given in
    let refusal = c.in_err-script_text.field-0.0 in
    read_refused most reads held (map (λ (name : Bor (List ℕ)). name.now) c.args.names.now) (policy ∷ script ∷ last) c.from_residual-in_err-script_text.result refusal named c.from_residual-in_err-script_text.ensures.1
    (unread_script most reads held policy script last policies P1 refusal (opened most_bytes 2 held script (Err refusal) (subst (λ (h : Option Held). FoundAlone most_bytes 2 h script (Err refusal)) K1.kept c.in_err-script_text.ensures.found)))

pub returns-in_err-opened-clause-files : goal.returns-in_err-opened-clause-files
returns-in_err-opened-clause-files g c =
    let K1 = c.in_ok-policy_text.ensures.files in
    let K2 = kept_after c.in_ok-policy_text.policy_text (Ok c.in_ok-script_text.script_text) K1 c.in_ok-script_text.ensures.files in
    stopped {A = FileContent} c.from_residual-in_err-opened.result c.in_err-opened.field-0.0 c.from_residual-in_err-opened.ensures.1 (made_of {B = FileContent} c.in_ok-script_text.script_text (Err c.in_err-opened.field-0.0) K2 (result_caused {B = FileContent} (g.F.Files.held c.args.files.now) (Rose (g.F.Files.faults c.args.files.now) (g.F.Files.faults c.read_text-2.new.files)) (Err c.in_err-opened.field-0.0) c.in_err-opened.ensures.refused))

pub returns-in_err-opened-clause-found : goal.returns-in_err-opened-clause-found
returns-in_err-opened-clause-found g c =
    let held = g.F.Files.held c.args.files.now in
    let most = g.L.LaterFile.most c.args.later.now in
    let reads = g.L.LaterFile.reads c.args.later.now in
    let policy = c.in-Some.policy.now.now in
    let script = c.in-Some-split_first.script.now.now in
    let last = map (λ (name : Bor (List ℕ)). name.now) c.in-Some-split_first.last.now in
    let split : c.args.names.now ≡ c.in-Some.policy.now ∷ c.in-Some-split_first.script.now ∷ c.in-Some-split_first.last.now = search rules in
    let named : map (λ (name : Bor (List ℕ)). name.now) c.args.names.now ≡ policy ∷ script ∷ last = ap (map (λ (name : Bor (List ℕ)). name.now)) split in
    let text1 = c.in_ok-policy_text.policy_text in
    let K1 = c.in_ok-policy_text.ensures.files in
    let O1 = opened most_bytes 1 held policy (Ok text1) c.in_ok-policy_text.ensures.found in
    let policies = c.in_ok-policies.policies.list in
    let P1 : Known policies_in held policy policies = policies_known held policy text1 policies O1 c.in_ok-policies.ensures.given in
    let text2 = c.in_ok-script_text.script_text in
    let K2 = kept_after text1 (Ok text2) K1 c.in_ok-script_text.ensures.files in
    let O2 = opened most_bytes 2 held script (Ok text2) (subst (λ (h : Option Held). FoundAlone most_bytes 2 h script (Ok text2)) K1.kept c.in_ok-script_text.ensures.found) in
    let refusal = c.in_err-opened.field-0.0 in
    read_refused most reads held (map (λ (name : Bor (List ℕ)). name.now) c.args.names.now) (policy ∷ script ∷ last) c.from_residual-in_err-opened.result refusal named c.from_residual-in_err-opened.ensures.1
    (refused_script most reads held policy script last policies P1 text2 refusal O2 c.in_err-opened.ensures.script)

pub returns-in_err-later_text-clause-files : goal.returns-in_err-later_text-clause-files
returns-in_err-later_text-clause-files g c =
    let K1 = c.in_ok-policy_text.ensures.files in
    let K2 = kept_after c.in_ok-policy_text.policy_text (Ok c.in_ok-script_text.script_text) K1 c.in_ok-script_text.ensures.files in
    stopped c.from_residual-in_err-later_text.result c.in_err-later_text.field-0.0 c.from_residual-in_err-later_text.ensures.1 (kept_after c.in_ok-script_text.script_text (Err c.in_err-later_text.field-0.0) K2 c.in_err-later_text.ensures.files)

pub returns-in_err-later_text-clause-found : goal.returns-in_err-later_text-clause-found
returns-in_err-later_text-clause-found g c =
    let held = g.F.Files.held c.args.files.now in
    let most = g.L.LaterFile.most c.args.later.now in
    let reads = g.L.LaterFile.reads c.args.later.now in
    let policy = c.in-Some.policy.now.now in
    let script = c.in-Some-split_first.script.now.now in
    let last = map (λ (name : Bor (List ℕ)). name.now) c.in-Some-split_first.last.now in
    let split : c.args.names.now ≡ c.in-Some.policy.now ∷ c.in-Some-split_first.script.now ∷ c.in-Some-split_first.last.now = search rules in
    let named : map (λ (name : Bor (List ℕ)). name.now) c.args.names.now ≡ policy ∷ script ∷ last = ap (map (λ (name : Bor (List ℕ)). name.now)) split in
    let text1 = c.in_ok-policy_text.policy_text in
    let K1 = c.in_ok-policy_text.ensures.files in
    let O1 = opened most_bytes 1 held policy (Ok text1) c.in_ok-policy_text.ensures.found in
    let policies = c.in_ok-policies.policies.list in
    let P1 : Known policies_in held policy policies = policies_known held policy text1 policies O1 c.in_ok-policies.ensures.given in
    let text2 = c.in_ok-script_text.script_text in
    let K2 = kept_after text1 (Ok text2) K1 c.in_ok-script_text.ensures.files in
    let O2 = opened most_bytes 2 held script (Ok text2) (subst (λ (h : Option Held). FoundAlone most_bytes 2 h script (Ok text2)) K1.kept c.in_ok-script_text.ensures.found) in
    let ready = c.in_ok-opened.opened in
    let S2 : Known (script_in policies) held script ready.script = script_known held script policies text2 ready.script O2 c.in_ok-opened.ensures.script in
    let refusal = c.in_err-later_text.field-0.0 in
    read_refused most reads held (map (λ (name : Bor (List ℕ)). name.now) c.args.names.now) (policy ∷ script ∷ last) c.from_residual-in_err-later_text.result refusal named c.from_residual-in_err-later_text.ensures.1
    (unread_later most reads held policy script last policies P1 ready.script S2 refusal (subst (λ (h : Option Held). LaterFound most h last (Err refusal)) K2.kept (subst (λ (m : ℕ). LaterFound m (g.F.Files.held c.read_text-2.new.files) last (Err refusal)) c.most_bytes.ensures.most c.in_err-later_text.ensures.found)))

pub returns-in_err-value-clause-files : goal.returns-in_err-value-clause-files
returns-in_err-value-clause-files g c =
    let K1 = c.in_ok-policy_text.ensures.files in
    let K2 = kept_after c.in_ok-policy_text.policy_text (Ok c.in_ok-script_text.script_text) K1 c.in_ok-script_text.ensures.files in
    let K3 = kept_after c.in_ok-script_text.script_text (Ok c.in_ok-later_text.later_text) K2 c.in_ok-later_text.ensures.files in
    stopped {A = FileContent} c.from_residual-in_err-value.result c.in_err-value.field-0.0 c.from_residual-in_err-value.ensures.1 (made_of {B = FileContent} c.in_ok-later_text.later_text (Err c.in_err-value.field-0.0) K3 (result_caused {B = FileContent} (g.F.Files.held c.args.files.now) (Rose (g.F.Files.faults c.args.files.now) (g.F.Files.faults c.read_later.new.files)) (Err c.in_err-value.field-0.0) c.in_err-value.ensures.refused))

pub returns-in_err-value-clause-found : goal.returns-in_err-value-clause-found
returns-in_err-value-clause-found g c =
    let held = g.F.Files.held c.args.files.now in
    let most = g.L.LaterFile.most c.args.later.now in
    let reads = g.L.LaterFile.reads c.args.later.now in
    let policy = c.in-Some.policy.now.now in
    let script = c.in-Some-split_first.script.now.now in
    let last = map (λ (name : Bor (List ℕ)). name.now) c.in-Some-split_first.last.now in
    let split : c.args.names.now ≡ c.in-Some.policy.now ∷ c.in-Some-split_first.script.now ∷ c.in-Some-split_first.last.now = search rules in
    let named : map (λ (name : Bor (List ℕ)). name.now) c.args.names.now ≡ policy ∷ script ∷ last = ap (map (λ (name : Bor (List ℕ)). name.now)) split in
    let text1 = c.in_ok-policy_text.policy_text in
    let K1 = c.in_ok-policy_text.ensures.files in
    let O1 = opened most_bytes 1 held policy (Ok text1) c.in_ok-policy_text.ensures.found in
    let policies = c.in_ok-policies.policies.list in
    let P1 : Known policies_in held policy policies = policies_known held policy text1 policies O1 c.in_ok-policies.ensures.given in
    let text2 = c.in_ok-script_text.script_text in
    let K2 = kept_after text1 (Ok text2) K1 c.in_ok-script_text.ensures.files in
    let O2 = opened most_bytes 2 held script (Ok text2) (subst (λ (h : Option Held). FoundAlone most_bytes 2 h script (Ok text2)) K1.kept c.in_ok-script_text.ensures.found) in
    let ready = c.in_ok-opened.opened in
    let S2 : Known (script_in policies) held script ready.script = script_known held script policies text2 ready.script O2 c.in_ok-opened.ensures.script in
    let text3 = c.in_ok-later_text.later_text in
    let K3 = kept_after text2 (Ok text3) K2 c.in_ok-later_text.ensures.files in
    let L3 : LaterFound most held last (Ok text3) = subst (λ (h : Option Held). LaterFound most h last (Ok text3)) K2.kept (subst (λ (m : ℕ). LaterFound m (g.F.Files.held c.read_text-2.new.files) last (Ok text3)) c.most_bytes.ensures.most c.in_ok-later_text.ensures.found) in
    let same : c.script.result.now ≡ ready.script = search rules in
    let given = subst (λ (s : Script). (reads s text3 ≡ Err c.in_err-value.field-0.0) ⊎ (c.in_err-value.field-0.0 ≡ refused NoMemory)) same c.in_err-value.ensures.given in
    let refusal = c.in_err-value.field-0.0 in
    read_refused most reads held (map (λ (name : Bor (List ℕ)). name.now) c.args.names.now) (policy ∷ script ∷ last) c.from_residual-in_err-value.result refusal named c.from_residual-in_err-value.ensures.1
    (refused_later most reads held policy script last policies P1 ready.script S2 text3 L3 refusal given)

pub returns-clause-files : goal.returns-clause-files
returns-clause-files g c =
    let K1 = c.in_ok-policy_text.ensures.files in
    let K2 = kept_after c.in_ok-policy_text.policy_text (Ok c.in_ok-script_text.script_text) K1 c.in_ok-script_text.ensures.files in
    let K3 = kept_after c.in_ok-script_text.script_text (Ok c.in_ok-later_text.later_text) K2 c.in_ok-later_text.ensures.files in
    made_of c.in_ok-later_text.later_text (Ok (c.in_ok-opened.opened, c.in_ok-value.value)) K3 tt

pub returns-clause-found : goal.returns-clause-found
returns-clause-found g c =
    let held = g.F.Files.held c.args.files.now in
    let most = g.L.LaterFile.most c.args.later.now in
    let reads = g.L.LaterFile.reads c.args.later.now in
    let policy = c.in-Some.policy.now.now in
    let script = c.in-Some-split_first.script.now.now in
    let last = map (λ (name : Bor (List ℕ)). name.now) c.in-Some-split_first.last.now in
    let split : c.args.names.now ≡ c.in-Some.policy.now ∷ c.in-Some-split_first.script.now ∷ c.in-Some-split_first.last.now = search rules in
    let named : map (λ (name : Bor (List ℕ)). name.now) c.args.names.now ≡ policy ∷ script ∷ last = ap (map (λ (name : Bor (List ℕ)). name.now)) split in
    let text1 = c.in_ok-policy_text.policy_text in
    let K1 = c.in_ok-policy_text.ensures.files in
    let O1 = opened most_bytes 1 held policy (Ok text1) c.in_ok-policy_text.ensures.found in
    let policies = c.in_ok-policies.policies.list in
    let P1 : Known policies_in held policy policies = policies_known held policy text1 policies O1 c.in_ok-policies.ensures.given in
    let text2 = c.in_ok-script_text.script_text in
    let K2 = kept_after text1 (Ok text2) K1 c.in_ok-script_text.ensures.files in
    let O2 = opened most_bytes 2 held script (Ok text2) (subst (λ (h : Option Held). FoundAlone most_bytes 2 h script (Ok text2)) K1.kept c.in_ok-script_text.ensures.found) in
    let ready = c.in_ok-opened.opened in
    let S2 : Known (script_in policies) held script ready.script = script_known held script policies text2 ready.script O2 c.in_ok-opened.ensures.script in
    let text3 = c.in_ok-later_text.later_text in
    let K3 = kept_after text2 (Ok text3) K2 c.in_ok-later_text.ensures.files in
    let L3 : LaterFound most held last (Ok text3) = subst (λ (h : Option Held). LaterFound most h last (Ok text3)) K2.kept (subst (λ (m : ℕ). LaterFound m (g.F.Files.held c.read_text-2.new.files) last (Ok text3)) c.most_bytes.ensures.most c.in_ok-later_text.ensures.found) in
    let value = c.in_ok-value.value in
    let same : c.script.result.now ≡ ready.script = search rules in
    let given : reads ready.script text3 ≡ Ok value = subst (λ (s : Script). reads s text3 ≡ Ok value) same c.in_ok-value.ensures.given in
    read_named most reads held (map (λ (name : Bor (List ℕ)). name.now) c.args.names.now) (policy ∷ script ∷ last) (Ok (ready, value)) named
    (all_read most reads held policy script last policies P1 ready.script S2 text3 L3 ready value c.in_ok-opened.ensures.policies refl given)

pub returns-clause-suits : goal.returns-clause-suits
returns-clause-suits g c =
    let same : c.script.result.now ≡ c.in_ok-opened.opened.script = search rules in
    subst (λ (s : Script). g.L.LaterFile.suits c.args.later.now s c.in_ok-value.value) same c.in_ok-value.ensures.suits

pub read_later-requires-clause-few : goal.read_later-requires-clause-few
read_later-requires-clause-few g c =
    let named = g.L.LaterFile.named c.args.later.now in
    let split : c.args.names.now ≡ c.in-Some.policy.now ∷ c.in-Some-split_first.script.now ∷ c.in-Some-split_first.last.now = search rules in
    let fits : IsWithScript named (map (λ (name : Bor (List ℕ)). name.now) (c.in-Some.policy.now ∷ c.in-Some-split_first.script.now ∷ c.in-Some-split_first.last.now)) =
    subst (λ (names : List (Bor (List ℕ))). IsWithScript named (map (λ (name : Bor (List ℕ)). name.now) names)) split c.requires in
    subst (λ (n : ℕ). n ≤ 1) (length-map c.in-Some-split_first.last.now (λ name. name.now))
    (few_later named c.in-Some.policy.now.now c.in-Some-split_first.script.now.now (map (λ (name : Bor (List ℕ)). name.now) c.in-Some-split_first.last.now) fits)

pub read-requires : goal.read-requires
read-requires g c =
    let named = g.L.LaterFile.named c.args.later.now in
    let split : c.args.names.now ≡ c.in-Some.policy.now ∷ c.in-Some-split_first.script.now ∷ c.in-Some-split_first.last.now = search rules in
    let fits : IsWithScript named (map (λ (name : Bor (List ℕ)). name.now) (c.in-Some.policy.now ∷ c.in-Some-split_first.script.now ∷ c.in-Some-split_first.last.now)) =
    subst (λ (names : List (Bor (List ℕ))). IsWithScript named (map (λ (name : Bor (List ℕ)). name.now) names)) split c.requires in
    record {
      named = is_named_so named c.in-Some.policy.now.now c.in-Some-split_first.script.now.now (map (λ (name : Bor (List ℕ)). name.now) c.in-Some-split_first.last.now) c.in_ok-later_text.later_text fits
          (read_if (λ (name : Bor (List ℕ)). name.now) c.in-Some-split_first.last.now c.in_ok-later_text.later_text c.in_ok-later_text.ensures.there);
    }

-- there are policies and a script
pub returns-in_default-clause-files : goal.returns-in_default-clause-files
returns-in_default-clause-files g c = absurd (no_policies (λ (name : Bor (List ℕ)). name.now) (g.L.LaterFile.named c.args.later.now) c.args.names.now c.in_default.ensures.cases c.requires)

pub returns-in_default-clause-found : goal.returns-in_default-clause-found
returns-in_default-clause-found g c = absurd (no_policies (λ (name : Bor (List ℕ)). name.now) (g.L.LaterFile.named c.args.later.now) c.args.names.now c.in_default.ensures.cases c.requires)

pub returns-in_default-split_first-clause-files : goal.returns-in_default-split_first-clause-files
returns-in_default-split_first-clause-files g c =
    let split : c.args.names.now ≡ c.in-Some.policy.now ∷ c.in-Some.others.now = search rules in
    absurd (no_script (λ (name : Bor (List ℕ)). name.now) (g.L.LaterFile.named c.args.later.now) c.args.names.now c.in-Some.policy.now c.in-Some.others.now split c.in_default-split_first.ensures.cases c.requires)

pub returns-in_default-split_first-clause-found : goal.returns-in_default-split_first-clause-found
returns-in_default-split_first-clause-found g c =
    let split : c.args.names.now ≡ c.in-Some.policy.now ∷ c.in-Some.others.now = search rules in
    absurd (no_script (λ (name : Bor (List ℕ)). name.now) (g.L.LaterFile.named c.args.later.now) c.args.names.now c.in-Some.policy.now c.in-Some.others.now split c.in_default-split_first.ensures.cases c.requires)
