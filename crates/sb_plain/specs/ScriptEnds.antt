-- What commands mean that read policies, a script, and then at most one more file.
use Rattle.std.specs.Prelude.{◌≡◌, ℕ, List, [], ◌∷◌, Option, None, Some, IsSome, Result, Ok, Err, ⊤}
use Rattle.sb_book.specs.ReadyScripts.{Ready}
use Rattle.sb_rule.specs.declared.policies.Policy.{Policy}
use Rattle.sb_statements.specs.declared.scripts.Script.{Script}
use Rattle.sb_text.specs.Steps.{◌>>=◌}
use Rattle.sb_plain.specs.Contents.{Content, Contents, FileContent, ShownRefusal, file_within, missing, policies_in, script_in}
use Rattle.sb_plain.specs.Ends.{End}

-- the text of the file after the script, if there is one
abbrev pub later_text : ℕ → Contents → Result (Option FileContent) ShownRefusal
later_text most [] = Ok None
later_text most (content ∷ []) = file_within most 3 content >>= λ text. Ok (Some text)
later_text most _ = Err (missing 3)

-- what is read of this text, which has to be there
abbrev pub needed : {A : Type 0} → (FileContent → Result A ShownRefusal) → Option FileContent → Result A ShownRefusal
needed step None = Err (missing 3)
needed step (Some text) = step text

-- no text may be there
abbrev pub nothing : Option FileContent → Result ⊤ ShownRefusal
nothing None = Ok tt
nothing (Some text) = Err (missing 3)

-- whether a file after the script may be named: there may be one, or there has to be, or there is none
abbrev pub may_be_named : Option FileContent → Type 0
may_be_named text = ⊤

abbrev pub is_named : Option FileContent → Type 0
is_named text = IsSome text

abbrev pub is_not_named : Option FileContent → Type 0
is_not_named text = text ≡ None

-- a text is read exactly if a file is named
abbrev pub IsReadIf : {A : Type 0} → List A → Option FileContent → Type 0
IsReadIf [] text = text ≡ None
IsReadIf (file ∷ files) text = IsSome text

-- there is one file
abbrev pub IsOne : {A : Type 0} → List A → Type 0
IsOne (file ∷ []) = ⊤
IsOne files = ⊥

-- there are policies and a script, and after them a file or none, as it is to be
abbrev pub IsWithScript : {A : Type 0} → (Option FileContent → Type 0) → List A → Type 0
IsWithScript named (policy ∷ script ∷ []) = named None
IsWithScript named (policy ∷ script ∷ later ∷ []) = (text : FileContent) → named (Some text)
IsWithScript named files = ⊥

-- policies, a script for targets of these, and what is read of the text after them, of at most this many bytes
abbrev pub script_read : {A : Type 0} → ℕ → (Script → Option FileContent → Result A ShownRefusal) → Contents → Result (Ready × A) ShownRefusal
script_read most later (policy ∷ script ∷ files) =
    policies_in policy >>= λ policies.
    script_in policies script >>= λ script.
    later_text most files >>= λ text.
    later script text >>= λ x. Ok (record { policies = policies; script = script }, x)
script_read most later _ = Err (missing 1)

-- the end that these come to, which is a function of what was read
abbrev pub script_end : {A : Type 0} → ℕ → (Script → Option FileContent → Result A ShownRefusal) → (List Policy → Script → A → Result End ShownRefusal)
    → Contents → Result End ShownRefusal
script_end most later end contents = script_read most later contents >>= λ r. end r.0.policies r.0.script r.1

-- an end that is always reached
abbrev pub ends : {A : Type 0} → (List Policy → Script → A → End) → List Policy → Script → A → Result End ShownRefusal
ends end policies script x = Ok (end policies script x)
