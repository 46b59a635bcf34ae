-- The first lines of a text.
use Rattle.std.proofs.Common.{◌≡◌, refl, sym, ap, ◌∙◌, ℕ, List, [], ◌∷◌, ◌++◌, Bool, true, false, cond, length, Option, None, Some, Result, Ok, Err}
use Rattle.std.proofs.lemmas.Bool.{false≢true}
use Rattle.std.specs.Prelude.{nat_lt, slice_get}
use Rattle.sb_statements.specs.Soundness.{channels_of}
use Rattle.sb_statements.specs.declared.scripts.Script.{Script}
use Rattle.sb_statements.specs.declared.scripts.TargetScript.{TargetScript}
use Rattle.sb_rule.specs.declared.policies.Policy.{Policy}
use Rattle.sb_scripttext.specs.declared.drafts.Draft.{Draft}
use Rattle.sb_scripttext.specs.Laws.{is_looked_for_last, FirstFaultsStay}
use Rattle.sb_scripttext.specs.ScriptTexts.{Absence, ScriptFault, with_number, absence_fault, no_channel, no_target, grammar, first_absence, from_place, script_of, finished, reading}
use Rattle.sb_text.specs.MissingTexts.{line_or_empty}
use Rattle.sb_text.specs.Steps.{◌>>=◌}
use Rattle.sb_scripttext.specs.declared.drafts.Named.{Named}
use Rattle.sb_scripttext.specs.declared.faults.ScriptKind.{ScriptKind}
use Rattle.sb_scripttext.specs.declared.faults.ScriptKind.TheVariants.{NotUtf8, UnknownWord, UnknownCall, WrongArgs, BadNumber, OutOfRange, BadName, NoSuchPolicy, NoSuchTarget, NoSuchChannel, NoSuchWord, TooMany, TooBig, SameName, BadStart}
use Rattle.sb_text.specs.LineLaws.{ended}
use Rattle.sb_text.specs.Lines.{lines_of}
use Rattle.sb_text.specs.ReadingLaws as laws
use Rattle.sb_text.specs.Readings.{read_by, where_utf8}
use Rattle.sb_text.specs.Utf8.{not_utf8_place}
use Rattle.sb_text.specs.Tokens.{Lexemes, words_of}
use Rattle.sb_text.specs.declared.refusals.TokenFault.{TokenFault}

-- a text that is UTF-8 is read by its lines
pub read_by_lines : (policies : List Policy) (text : List ℕ) → not_utf8_place text ≡ None
    → reading policies text ≡ (read_by (grammar policies) (lines_of text) >>= λ sofar. finished text sofar)
read_by_lines policies text h =
    ap (λ place. where_utf8 NotUtf8 place (read_by (grammar policies) (lines_of text)) >>= λ sofar. finished text sofar) h

-- a fault that is looked for last
abbrev IsLast : Option Absence → Type 0
IsLast absent = (absence : Absence) → absent ≡ Some absence → is_looked_for_last absence.1.kind ≡ true

absent_last : (targets : List TargetScript) (named : List Named) → IsLast (first_absence targets named)
absent_last targets [] = λ absence h. absurd cc
absent_last targets (x ∷ xs) =
    by_tests (no_channel x (channels_of (slice_get targets x.target))) (no_target x (length targets)) refl refl (absent_last targets xs) (nat_lt x.target (length targets)) (nat_lt x.channel (channels_of (slice_get targets x.target)))
  where
    told : (fault : TokenFault ScriptKind) → is_looked_for_last fault.kind ≡ true → (absence : Absence) → ◌≡◌ {A = Option Absence} (Some (x.at.line, fault)) (Some absence)
        → is_looked_for_last absence.1.kind ≡ true
    told fault t absence h = ap (λ (absent : Option Absence). elim absent [ None ↦ true | Some absence ↦ is_looked_for_last absence.1.kind ]) (sym h) ∙ t

    by_tests : (c t : TokenFault ScriptKind) → is_looked_for_last c.kind ≡ true → is_looked_for_last t.kind ≡ true → IsLast (first_absence targets xs) → (a b : Bool)
        → IsLast (elim (cond a (cond b None (Some c)) (Some t)) [ None ↦ first_absence targets xs | Some fault ↦ Some (x.at.line, fault) ])
    by_tests c t p q others true true absence h = others absence h
    by_tests c t p q others true false absence h = told c p absence h
    by_tests c t p q others false b absence h = told t q absence h

-- a fault stays one that is looked for last, whatever number its line names
with_number_last : (words : Lexemes) (kind : ScriptKind) → is_looked_for_last kind ≡ true → is_looked_for_last (with_number words kind) ≡ true
with_number_last words (NoSuchTarget target targets) h = refl
with_number_last words (NoSuchChannel channel target channels) h = refl
with_number_last words NotUtf8 h = h
with_number_last words (UnknownWord why) h = h
with_number_last words UnknownCall h = h
with_number_last words (WrongArgs why) h = h
with_number_last words BadNumber h = h
with_number_last words (OutOfRange low high) h = h
with_number_last words BadName h = h
with_number_last words NoSuchPolicy h = h
with_number_last words NoSuchWord h = h
with_number_last words (TooMany limit) h = h
with_number_last words TooBig h = h
with_number_last words SameName h = h
with_number_last words (BadStart why) h = h

finished_last : (text : List ℕ) (sofar : Draft) (fault : ScriptFault) → finished text sofar ≡ Err fault → is_looked_for_last fault.kind ≡ true
finished_last text sofar fault h = by_absence (first_absence sofar.targets sofar.named) (absent_last sofar.targets sofar.named) h
  where
    same_last : (a b : ScriptFault) → ◌≡◌ {A = Result Script ScriptFault} (Err a) (Err b) → is_looked_for_last b.kind ≡ is_looked_for_last a.kind
    same_last a b h = ap (λ (read : Result Script ScriptFault). elim read [ Ok script ↦ true | Err fault ↦ is_looked_for_last fault.kind ]) (sym h)

    by_absence : (absent : Option Absence) → IsLast absent
        → ◌≡◌ {A = Result Script ScriptFault} (elim absent [ None ↦ Ok (script_of sofar) | Some absence ↦ Err (absence_fault text absence) ]) (Err fault)
        → is_looked_for_last fault.kind ≡ true
    by_absence None l h = absurd cc
    by_absence (Some absence) l h = same_last (absence_fault text absence) fault h ∙ with_number_last (words_of (from_place (line_or_empty absence.0 text) absence.1.place)) absence.1.kind (l absence refl)

abbrev fault_in : {A : Type 0} → Result A ScriptFault → Option ScriptFault
fault_in (Ok x) = None
fault_in (Err fault) = Some fault

abbrev refused : Option ScriptFault → Result Draft ScriptFault → Result Draft ScriptFault
refused None other = other
refused (Some fault) other = Err fault

-- a fault is one of the lines, or one that is looked for last
of_lines : (text : List ℕ) (read : Result Draft ScriptFault) (fault : ScriptFault) → is_looked_for_last fault.kind ≡ false → (read >>= λ sofar. finished text sofar) ≡ Err fault → read ≡ Err fault
of_lines text (Ok sofar) fault k e = absurd (false≢true (sym k ∙ finished_last text sofar fault e))
of_lines text (Err other) fault k e = ap (λ absent. refused absent (Err other)) (ap fault_in e)

pub first_faults_stay : laws.FirstFaultsStay Draft ScriptKind → FirstFaultsStay
first_faults_stay law policies front rest other fault u v s l k e =
    read_by_lines policies (ended front ++ other) v
    ∙ ap (λ (read : Result Draft ScriptFault). read >>= λ sofar. finished (ended front ++ other) sofar)
    (law (grammar policies) front rest other fault s l
    (of_lines (ended front ++ rest) (read_by (grammar policies) (lines_of (ended front ++ rest))) fault k (sym (read_by_lines policies (ended front ++ rest) u) ∙ e)))
