-- What is read of files, and when a script that was read can be run.
use Rattle.std.proofs.Common.{◌≡◌, ◌⊎◌, ℕ, true, List, Option, None, Some, ap, inl, inr, refl, subst, sym}
use Rattle.std.specs.Prelude.{Result, Ok, Err, [], ◌∷◌}
use Rattle.std.specs.List.{list_all}
use Rattle.sb_book.specs.Readiness.{IsReady}
use Rattle.sb_core.specs.Runs.{CanRun}
use Rattle.sb_rule.specs.declared.policies.Policy.{Policy}
use Rattle.sb_ruletext.specs.Laws.{ReadPoliciesAreWellMade}
use Rattle.sb_ruletext.specs.PolicyTexts as policies
use Rattle.sb_scripttext.specs.ScheduleLaws.{ActorsAreThere}
use Rattle.sb_scripttext.specs.ScheduleTexts as schedules
use Rattle.sb_scripttext.specs.Readiness.{ReadScriptsAreReady}
use Rattle.sb_scripttext.specs.ScriptTexts as scripts
use Rattle.sb_statements.specs.Actors.{is_step_there}
use Rattle.sb_statements.specs.declared.schedules.Schedule.{Schedule}
use Rattle.sb_statements.specs.declared.scripts.Script.{Script}
use Rattle.sb_text.specs.Steps.{◌>>=◌}
use Rattle.sb_text.specs.declared.refusals.LineFault.{LineFault}
use Rattle.sb_message.specs.declared.text_faults.TextFault.{TextFault}
use Rattle.sb_message.specs.declared.text_faults.TextFault.TheVariants as fault
use Rattle.sb_base.specs.Refusals.{Gives, GivesAs}
use Rattle.sb_base.specs.declared.refusals.Refused.{Refused}
use Rattle.sb_base.specs.declared.refusals.Refused.TheVariants as given
use Rattle.sb_message.specs.declared.statuses.Refusal.TheVariants.{NoMemory}
use Rattle.sb_plain.specs.Contents.{Content, FileContent, ShownRefusal, fault_refusal, file_in, no_schedule, policies_in, policies_of, read_as, refused, schedule_if, schedule_in, script_in, script_of}
use Rattle.sb_plain.specs.Ends.{End}

-- ---- what a step gave

-- a step that gave a value, and what came of it
pub bound : {A B : Type 0} (r : Result A ShownRefusal) (f : A → Result B ShownRefusal) (y : B) → (r >>= f) ≡ Ok y → (x : A) × (r ≡ Ok x) × (f x ≡ Ok y)
bound (Ok x) f y e = (x, refl, e)
bound (Err k) f y e = cc

-- what was read of a text
pub text_read : {A K : Type 0} (told : LineFault K → TextFault) (text : FileContent) (r : Result A (LineFault K)) (x : A) → read_as told text r ≡ Ok x → r ≡ Ok x
text_read {A} {K} told text (Ok y) x e = by y e
  where
    by : (z : A) → ◌≡◌ {A = Result A ShownRefusal} (Ok z) (Ok x) → ◌≡◌ {A = Result A (LineFault K)} (Ok z) (Ok x)
    by z h = cc
text_read told text (Err fault) x e = cc

-- a text whose reading is refused
pub gives_refused : {A B K : Type 0} (seen : B → A) (told : LineFault K → TextFault) (text : FileContent) (found : Result A (LineFault K)) (why : Refused (LineFault K))
    (refusal : ShownRefusal) → GivesAs seen found (Err why) → refusal ≡ fault_refusal told text why → (read_as told text found ≡ Err refusal) ⊎ (refusal ≡ refused NoMemory)
gives_refused seen told text found (given.Fault fault) refusal g e =
    inl (subst (λ (x : ShownRefusal). read_as told text found ≡ Err x) (sym e) (ap (read_as told text) g))
gives_refused seen told text found given.NoMemory refusal g e = inr e

pub refused_as : {A K : Type 0} (found : Result A (LineFault K)) (why : Refused (LineFault K)) → Gives found (Err why) → GivesAs (λ (x : A). x) found (Err why)
refused_as found (given.Fault fault) g = g
refused_as found given.NoMemory g = tt

pub policies_read : (content : Content) (ps : List Policy) → policies_in content ≡ Ok ps → (text : List ℕ) × (policies.reading text ≡ Ok ps)
policies_read content ps e =
    let at = bound (file_in 1 content) policies_of ps e in
    (at.0.bytes, text_read fault.Policy at.0 (policies.reading at.0.bytes) ps at.2)

pub script_read : (ps : List Policy) (content : Content) (script : Script) → script_in ps content ≡ Ok script → (text : List ℕ) × (scripts.reading ps text ≡ Ok script)
script_read ps content script e =
    let at = bound (file_in 2 content) (script_of ps) script e in
    (at.0.bytes, text_read fault.Script at.0 (scripts.reading ps at.0.bytes) script at.2)

pub schedule_read : (script : Script) (text : FileContent) (schedule : Schedule) → schedule_in script text ≡ Ok schedule
    → schedules.reading script.targets text.bytes ≡ Ok schedule
schedule_read script text schedule e = text_read fault.Schedule text (schedules.reading script.targets text.bytes) schedule e

-- two ends of a meaning are one
pub same_end : (x y : End) → ◌≡◌ {A = Result End ShownRefusal} (Ok x) (Ok y) → x ≡ y
same_end x y e = cc

-- ---- runs of what was read

-- a script that was read is ready for its policies
pub script_known : ReadPoliciesAreWellMade → ReadScriptsAreReady → (p s : Content) (ps : List Policy) (script : Script) → policies_in p ≡ Ok ps
    → script_in ps s ≡ Ok script → IsReady ps script
script_known made ready p s ps script e f =
    let policies = policies_read p ps e in
    let read = script_read ps s script f in
    ready ps read.0 script (made policies.0 ps policies.1) read.1

-- a script that was read can be run by a schedule of its actors
pub can_run : ReadPoliciesAreWellMade → ReadScriptsAreReady → (p s : Content) (ps : List Policy) (script : Script) (schedule : Schedule) → policies_in p ≡ Ok ps → script_in ps s ≡ Ok script
    → list_all (is_step_there script.targets) schedule.steps ≡ true → CanRun ps script schedule
can_run made ready p s ps script schedule e f steps =
    record { ready = script_known made ready p s ps script e f; there = steps }

-- a schedule that was read is one of its actors
pub steps_there : ActorsAreThere → (script : Script) (text : Option FileContent) (schedule : Schedule) → schedule_if script text ≡ Ok schedule
    → list_all (is_step_there script.targets) schedule.steps ≡ true
steps_there there script None schedule e = subst (λ (s : Schedule). list_all (is_step_there script.targets) s.steps ≡ true) (is e) refl
  where
    is : ◌≡◌ {A = Result Schedule ShownRefusal} (Ok no_schedule) (Ok schedule) → no_schedule ≡ schedule
    is h = cc
steps_there there script (Some text) schedule e = there script.targets text.bytes schedule (schedule_read script text schedule e)
