-- Which statuses come: a refusal names a file of the command, and an end has a status that names none.
use Rattle.std.proofs.Common.{◌≡◌, ◌≢◌, ◌∙◌, refl, sym, ap, subst, ℕ, suc, ◌-◌, ◌≤◌, inl, inr, List, length, Option, None, Some, lit≤, arith, cond}
use Rattle.std.specs.Prelude.{⊤, IfSome, IsOkAnd, Result, Ok, Err, ◌∷◌, [], nat_le, true, false, Bool}
use Rattle.std.proofs.lemmas.List.{length-set}
use Rattle.std.proofs.lemmas.Option.{none-some}
use Rattle.sb_book.specs.ReadyScripts.{Ready}
use Rattle.sb_commands.specs.declared.usage_faults.UsageFault.{UsageFault}
use Rattle.sb_message.specs.Statuses.{status_of}
use Rattle.sb_message.specs.declared.statuses.EndStatus.{EndStatus}
use Rattle.sb_message.specs.declared.statuses.EndStatus.TheVariants as end
use Rattle.sb_message.specs.declared.statuses.FileRefusal.TheVariants.{Missing, ReadFault, TooLong}
use Rattle.sb_message.specs.declared.statuses.Refusal.{Refusal}
use Rattle.sb_message.specs.declared.statuses.Refusal.TheVariants.{File, Usage}
use Rattle.sb_message.specs.declared.statuses.Status.{Status}
use Rattle.sb_message.specs.declared.statuses.Status.TheVariants.{Refused}
use Rattle.sb_message.specs.declared.text_faults.TextFault.{TextFault}
use Rattle.sb_message.specs.declared.text_faults.TextFault.TheVariants as fault
use Rattle.sb_outside.specs.Outside.{Held}
use Rattle.sb_rule.specs.declared.policies.Policy.{Policy}
use Rattle.sb_ruletext.specs.PolicyTexts as policies
use Rattle.sb_scripttext.specs.ScheduleTexts as schedules
use Rattle.sb_scripttext.specs.ScriptTexts as scripts
use Rattle.sb_statements.specs.declared.schedules.Schedule.{Schedule}
use Rattle.sb_statements.specs.declared.scripts.Script.{Script}
use Rattle.sb_text.specs.Steps.{◌>>=◌}
use Rattle.sb_text.specs.declared.refusals.LineFault.{LineFault}
use Rattle.sb_plain.specs.Contents.{Content, Contents, FileContent, ShownRefusal, file_in, file_within, most_bytes, policies_in, policies_of, read_as, refused, schedule_if, script_in, script_of}
use Rattle.sb_plain.specs.Effects.{Effect}
use Rattle.sb_plain.specs.Endings.{IsDone, IsEndFor, IsEnding, IsMeant, IsUnwritten}
use Rattle.sb_plain.specs.Ends.{AreContents, End, Meaning, OnThreads, Plain, without}
use Rattle.sb_plain.specs.Outcomes.{file_of}
use Rattle.sb_plain.specs.ScriptEnds.{later_text, needed, script_end, script_read}
use Rattle.sb_plain.specs.declared.outcomes.Outcome.{Outcome}
use Rattle.sb_plain.proofs.ScriptEnds.{ReadParts, read_parts}

-- ---- refusals

-- the refusal names one of this many files
abbrev pub NamesFile : ℕ → Refusal → Type 0
NamesFile files why = (n : ℕ) × (file_of (Refused why) ≡ Some n) × (1 ≤ n) × (n ≤ files)

-- each refusal names one
abbrev pub RefusesFor : {A : Type 0} → ℕ → Result A ShownRefusal → Type 0
RefusesFor files (Ok x) = ⊤
RefusesFor files (Err refusal) = NamesFile files refusal.why

pub next : {A B : Type 0} (files : ℕ) (r : Result A ShownRefusal) (f : A → Result B ShownRefusal) → RefusesFor files r → ((x : A) → r ≡ Ok x → RefusesFor files (f x))
    → RefusesFor files (r >>= f)
next files (Ok x) f h k = k x refl
next files (Err r) f h k = h

of_file : (most files n : ℕ) (content : Content) → 1 ≤ n → n ≤ files → RefusesFor files (file_within most n content)
of_file most files n None l m = (n, refl, l, m)
of_file most files n (Some bytes) l m = by (nat_le (length bytes) most)
  where
    by : (b : Bool) → RefusesFor {A = FileContent} files (cond b (Ok (record { which = n; bytes = bytes })) (Err (refused (File n TooLong))))
    by true = tt
    by false = (n, refl, l, m)

-- the text of file n is that of file n
file_named : (most n : ℕ) (content : Content) (text : FileContent) → file_within most n content ≡ Ok text → n ≡ text.which
file_named most n None text e = cc
file_named most n (Some bytes) text e = by (nat_le (length bytes) most) e
  where
    by : (b : Bool) → ◌≡◌ {A = Result FileContent ShownRefusal} (cond b (Ok (record { which = n; bytes = bytes })) (Err (refused (File n TooLong)))) (Ok text) → n ≡ text.which
    by true h = cc
    by false h = cc

-- of a text of one of this many files
pub of_text : {A K : Type 0} (told : LineFault K → TextFault) (files : ℕ) (text : FileContent) (r : Result A (LineFault K)) → 1 ≤ text.which → text.which ≤ files
    → RefusesFor files (read_as told text r)
of_text told files text (Ok x) l m = tt
of_text told files text (Err fault) l m = (text.which, refl, l, m)

pub of_policies : (files : ℕ) (content : Content) → 1 ≤ files → RefusesFor files (policies_in content)
of_policies files content l =
    next files (file_in 1 content) policies_of (of_file most_bytes files 1 content (lit≤ tt) l)
    (λ text e.
    let n : 1 ≡ text.which = file_named most_bytes 1 content text e in
    of_text fault.Policy files text (policies.reading text.bytes) (omega (arith, n)) (omega (arith, n, l)))

pub of_script : (files : ℕ) (ps : List Policy) (content : Content) → 2 ≤ files → RefusesFor files (script_in ps content)
of_script files ps content l =
    next files (file_in 2 content) (script_of ps) (of_file most_bytes files 2 content (lit≤ tt) l)
    (λ text e.
    let n : 2 ≡ text.which = file_named most_bytes 2 content text e in
    of_text fault.Script files text (scripts.reading ps text.bytes) (omega (arith, n)) (omega (arith, n, l)))

-- the text of the third file, of this many
abbrev pub IsThird : ℕ → Option FileContent → Type 0
IsThird files None = ⊤
IsThird files (Some text) = (text.which ≡ 3) × (3 ≤ files)

later_refuses : (most files : ℕ) (contents : Contents) → suc (suc (length contents)) ≡ files → RefusesFor files (later_text most contents)
later_refuses most files [] e = tt
later_refuses most files (content ∷ []) e =
    let third : 3 ≤ files = omega (arith, e) in
    next files (file_within most 3 content) (λ text. Ok (Some text)) (of_file most files 3 content (lit≤ tt) third) (λ text h. tt)
later_refuses most files (content ∷ further ∷ contents) e = (3, refl, lit≤ tt, omega (arith, e))

abbrev OnLater : ℕ → Result (Option FileContent) ShownRefusal → Type 0
OnLater files (Ok text) = IsThird files text
OnLater files (Err refusal) = ⊤

later_is_third : (most files : ℕ) (contents : Contents) → suc (suc (length contents)) ≡ files → OnLater files (later_text most contents)
later_is_third most files [] e = tt
later_is_third most files (content ∷ []) e = by (file_within most 3 content) refl
  where
    by : (r : Result FileContent ShownRefusal) → file_within most 3 content ≡ r → OnLater files (r >>= λ text. Ok (Some text))
    by (Ok text) h = (sym (file_named most 3 content text h), omega (arith, e))
    by (Err refusal) h = tt
later_is_third most files (content ∷ further ∷ contents) e = tt

-- of the third file, which has to be there
pub of_needed : {A : Type 0} (step : FileContent → Result A ShownRefusal) → ((text : FileContent) → text.which ≡ 3 → RefusesFor 3 (step text)) → (text : Option FileContent)
    → IsThird 3 text → RefusesFor 3 (needed step text)
of_needed step h None third = (3, refl, lit≤ tt, lit≤ tt)
of_needed step h (Some text) third = h text third.0

pub third_text : {A K : Type 0} (told : LineFault K → TextFault) (files : ℕ) (text : FileContent) (r : Result A (LineFault K)) → text.which ≡ 3 → 3 ≤ files
    → RefusesFor files (read_as told text r)
third_text told files text r n l = of_text told files text r (omega (arith, n)) (omega (arith, n, l))

-- of a schedule that may be left out
pub of_schedule : (files : ℕ) (script : Script) (text : Option FileContent) → IsThird files text → RefusesFor files (schedule_if script text)
of_schedule files script None third = tt
of_schedule files script (Some text) third = third_text fault.Schedule files text (schedules.reading script.targets text.bytes) third.0 third.1

-- ---- commands

-- the refusals of a command of this many files
abbrev pub IsSuited : ℕ → (Contents → Result End ShownRefusal) → Type 0
IsSuited files meaning = (contents : Contents) → length contents ≡ files → RefusesFor files (meaning contents)

-- for each order of steps
abbrev pub AreSuited : ℕ → Meaning → Type 0
AreSuited files (Plain meaning) = IsSuited files meaning
AreSuited files (OnThreads meaning) = (order : Schedule) → IsSuited files (meaning order)

-- of a command that reads policies and a script first
module _ {A : Type 0} (files most : ℕ) (later : Script → Option FileContent → Result A ShownRefusal) (end : List Policy → Script → A → Result End ShownRefusal)
    (least : 2 ≤ files) (of_later : (script : Script) (text : Option FileContent) → IsThird files text → RefusesFor files (later script text))
    (of_end : (policies : List Policy) (script : Script) (text : Option FileContent) (x : A) → IsThird files text → later script text ≡ Ok x → RefusesFor files (end policies script x))
  where
    one : 1 ≤ files
    one = omega (arith, least)

    third : (contents : Contents) → suc (suc (length contents)) ≡ files → (text : Option FileContent) → later_text most contents ≡ Ok text → IsThird files text
    third contents e text h = subst (OnLater files) h (later_is_third most files contents e)

    of_read : (first second : Content) (contents : Contents) → suc (suc (length contents)) ≡ files → RefusesFor files (script_read most later (first ∷ second ∷ contents))
    of_read first second contents e =
        next files (policies_in first) _ (of_policies files first one) (λ policies k.
        next files (script_in policies second) _ (of_script files policies second least) (λ script m.
        next files (later_text most contents) _ (later_refuses most files contents e) (λ text h.
        next files (later script text) _ (of_later script text (third contents e text h)) (λ x n. tt))))

    pub script_suited : IsSuited files (script_end most later end)
    script_suited [] e = (1, refl, lit≤ tt, one)
    script_suited (first ∷ []) e = (1, refl, lit≤ tt, one)
    script_suited (first ∷ second ∷ contents) e =
        next files (script_read most later (first ∷ second ∷ contents)) (λ r. end r.0.policies r.0.script r.1) (of_read first second contents e) (λ r h.
        let parts = read_parts most later first second contents r h in
        of_end r.0.policies r.0.script parts.text r.1 (third contents e parts.text parts.is_text) parts.value)

-- ---- the status of a call

-- it is not Usage, and if it names a file it names one of this many
abbrev pub Suits : ℕ → Status → Type 0
Suits files s = ((fault : UsageFault) → s ≢ Refused (Usage fault)) × IfSome (file_of s) (λ n. (1 ≤ n) × (n ≤ files))

named_suits : (files : ℕ) (why : Refusal) → NamesFile files why → Suits files (Refused why)
named_suits files why h = (
  λ fault e. none-some h.0 (sym (ap file_of e) ∙ h.1),
  let P : Option ℕ → Type 0 = λ x. IfSome x (λ n. (1 ≤ n) × (n ≤ files)) in subst P (sym h.1) (h.2, h.3),
)

end_suits : (files : ℕ) (s : EndStatus) → Suits files (status_of s)
end_suits files end.Done = ((λ fault never. cc), tt)
end_suits files (end.Differs difference) = ((λ fault never. cc), tt)
end_suits files (end.Unfinished target thread) = ((λ fault never. cc), tt)

-- the number of contents
pub counted : (held : Option Held) (names : List (List ℕ)) (contents : Contents) → AreContents held names contents → length contents ≡ length names
counted held [] [] h = refl
counted held [] (c ∷ contents) h = absurd h
counted held (name ∷ names) [] h = absurd h
counted held (name ∷ names) (c ∷ contents) h = ap suc (counted held names contents h.1)

module _ {G S : Type 0} (e : Effect G S) (o : Outcome) (files : ℕ) where
  meant_suits : (r : Result End ShownRefusal) → RefusesFor files r → IsMeant r e o → Suits files o.status
  meant_suits (Ok end) refuses m = subst (Suits files) (sym m.status) (end_suits files end.status)
  meant_suits (Err refusal) refuses m = subst (Suits files) (sym m.status) (named_suits files refusal.why refuses)

  unwritten_suits : (r : Result End ShownRefusal) → IsOkAnd r (λ x. IsUnwritten x e o) → Suits files o.status
  unwritten_suits (Ok end) u = subst (Suits files) (sym u.status) ((λ fault never. cc), tt)
  unwritten_suits (Err refusal) u = absurd u

  suits : (meaning : Contents → Result End ShownRefusal) (contents : Contents) → IsSuited files meaning → length contents ≡ files → IsEndFor meaning contents e o
      → Suits files o.status
  suits meaning contents known size (inl m) = meant_suits (meaning contents) (known contents size) m
  suits meaning contents known size (inr (inl u)) =
      let missing : NamesFile files (File u.file Missing) =
      subst (RefusesFor files) u.reached (known (without u.file contents) (length-set contents (u.file - 1) None ∙ size)) in
      subst (Suits files) (sym u.is.status) (named_suits files (File u.file (ReadFault u.cause)) missing)
  suits meaning contents known size (inr (inr (inl u))) = unwritten_suits (meaning contents) u
  suits meaning contents known size (inr (inr (inr s))) = subst (Suits files) (sym s.status) ((λ fault never. cc), tt)

-- a command whose refusals are so
pub ending_suits : {G S : Type 0} (e : Effect G S) (o : Outcome) (meaning : Meaning) (names : List (List ℕ)) → AreSuited (length names) meaning → IsEnding meaning names e o
    → Suits (length names) o.status
ending_suits e o (Plain meaning) names known h = suits e o (length names) meaning h.contents known (counted e.held names h.contents h.held) h.ends
ending_suits e o (OnThreads meaning) names known h =
    suits e o (length names) (meaning h.order) h.contents (known h.order) (counted e.held names h.contents h.held) h.ends
