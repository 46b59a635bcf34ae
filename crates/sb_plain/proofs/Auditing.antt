-- The statuses and the runs of `audit`.
use Rattle.std.proofs.Common.{◌≡◌, refl, subst, ℕ, List, Option, None, Some, lit≤, arith}
use Rattle.std.specs.Prelude.{IfSome, Result, Ok, Err}
use Rattle.sb_audit.specs.Audited.{audited}
use Rattle.sb_audit.specs.declared.answers.AuditAnswer.{AuditAnswer}
use Rattle.sb_audit.specs.declared.answers.AuditAnswer.TheVariants.{Yes, No}
use Rattle.sb_rule.specs.declared.policies.Policy.{Policy}
use Rattle.sb_statements.specs.declared.scripts.Script.{Script}
use Rattle.sb_plain.specs.Audit.{answered_end, audit_end, audited_end, end_by, most_transcript_bytes, yes_line}
use Rattle.sb_plain.specs.Contents.{FileContent, ShownRefusal}
use Rattle.sb_plain.specs.Ends.{End, Plain}
use Rattle.sb_plain.specs.ScriptEnds.{needed}
use Rattle.sb_plain.specs.Sound.{AreEndsSound, IsSound}
use Rattle.sb_plain.proofs.Readings.{same_end}
use Rattle.sb_plain.proofs.ScriptEnds.{each_end}
use Rattle.sb_plain.proofs.Suiting.{IsSuited, IsThird, RefusesFor, of_needed, script_suited}

-- ---- its statuses, and its runs

-- the transcript is the third file
transcript_is_third : (given : Option FileContent) (text : FileContent) → IsThird 3 given → needed Ok given ≡ Ok text → text.which ≡ 3
transcript_is_third None text third e = cc
transcript_is_third (Some given) text third e = subst (λ (t : FileContent). t.which ≡ 3) (same given e) third.0
  where
    same : (x : FileContent) → ◌≡◌ {A = Result FileContent ShownRefusal} (Ok x) (Ok text) → x ≡ text
    same x h = cc

answer_refuses : (text : FileContent) (answer : AuditAnswer) → text.which ≡ 3 → RefusesFor 3 (end_by text answer)
answer_refuses text (Yes entries results) n = tt
answer_refuses text (No refuted) n = (text.which, refl, omega (arith, n), omega (arith, n))

pub audit_suited : IsSuited 3 audit_end
audit_suited =
    script_suited 3 most_transcript_bytes (λ script. needed Ok) audited_end (lit≤ tt) (λ script text third. of_needed Ok (λ given n. tt) text third)
    (λ policies script given text third e. answer_refuses text (audited policies script text.bytes) (transcript_is_third given text third e))

answer_sound : (text : FileContent) (answer : AuditAnswer) (reached : End) → end_by text answer ≡ Ok reached → IfSome reached.run IsSound
answer_sound text (Yes entries results) reached e = subst (λ (x : End). IfSome x.run IsSound) (same_end (answered_end (yes_line entries results)) reached e) tt
answer_sound text (No refuted) reached e = cc

-- it makes no run
pub audit_sound : AreEndsSound (Plain audit_end)
audit_sound =
    each_end most_transcript_bytes (λ script. needed Ok) audited_end (λ (x : End). IfSome x.run IsSound)
    (λ first second files r reached parts e. answer_sound r.1 (audited r.0.policies r.0.script r.1.bytes) reached e)
