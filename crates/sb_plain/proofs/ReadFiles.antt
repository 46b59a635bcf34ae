-- How the content of a file becomes its text.
use Rattle.std.proofs.Common.{◌≡◌, ◌⊎◌, ◌∙◌, refl, sym, ap, subst, ℕ, ◌+◌, ◌-◌, ◌<◌, ◌≤◌, inl, inr, true, false, Bool, cond, nat_le, List, length, replicate, Option, None, Some, arith}
use Rattle.std.specs.Prelude.{zero, suc, IsOkAnd, IsSomeAnd, Result, Ok, Err, ◌∷◌, [], map, slice_set}
use Rattle.std.proofs.lemmas.Bool.Decides.{nat_tests}
use Rattle.std.proofs.lemmas.List.{length-replicate}
use Rattle.sb_message.specs.declared.statuses.FileRefusal.{FileRefusal}
use Rattle.sb_message.specs.declared.statuses.FileRefusal.TheVariants.{Missing, ReadFault, TooLong}
use Rattle.sb_message.specs.declared.statuses.Refusal.TheVariants.{File, NoMemory}
use Rattle.sb_outside.specs.Outside.{Held, IsContent, IsMissing, IsTooLong}
use Rattle.sb_outside.specs.declared.files.FileFault.{FileFault}
use Rattle.sb_outside.specs.declared.files.FileFault.TheVariants as file
use Rattle.sb_outside.specs.declared.files.ReadCause.{ReadCause}
use Rattle.sb_plain.specs.Contents.{Content, Contents, FileContent, ShownRefusal, alone, file_within, missing, refusal_of, refused}
use Rattle.sb_plain.specs.Endings.{IsCaused}
use Rattle.sb_plain.specs.Ends.{AreContents, IsHeld}
use Rattle.sb_plain.specs.Readings.{IsFound, IsFoundFor}

-- ---- contents that are not looked at

-- what is held under a name, if that is known
abbrev pub content_of : Option Held → List ℕ → Content
content_of None name = None
content_of (Some held) name = held name

pub is_held : (held : Option Held) (name : List ℕ) → IsHeld held name (content_of held name)
is_held None name = tt
is_held (Some held) name = refl

abbrev pub rest_of : Option Held → List (List ℕ) → Contents
rest_of held names = map (content_of held) names

pub are_rest : (held : Option Held) (names : List (List ℕ)) → AreContents held names (rest_of held names)
are_rest held [] = tt
are_rest held (name ∷ names) = (is_held held name, are_rest held names)

-- ---- the text of a file

pub short_text : (most n : ℕ) (text : List ℕ) → length text ≤ most → file_within most n (Some text) ≡ Ok (record { which = n; bytes = text })
short_text most n text l = let e : nat_le (length text) most ≡ true = grind (arith, nat_tests, l) in rw e refl

long_text : (most n : ℕ) (text : List ℕ) → most < length text → file_within most n (Some text) ≡ Err (refused (File n TooLong))
long_text most n text l = let e : nat_le (length text) most ≡ false = grind (arith, nat_tests, l) in rw e refl

-- file n alone, of which this was found
abbrev pub FoundAlone : ℕ → ℕ → Option Held → List ℕ → Result FileContent ShownRefusal → Type 0
FoundAlone most n held name found = IsFound (λ (text : FileContent). text) n (alone n (file_within most n)) (name ∷ []) held found

-- a file that was read
text_is : (most n : ℕ) (text : List ℕ) → length text ≤ most → IsOkAnd (file_within most n (Some text)) (λ x. ◌≡◌ {A = FileContent} (record { which = n; bytes = text }) x)
text_is most n text l = subst (λ r. IsOkAnd r (λ x. ◌≡◌ {A = FileContent} (record { which = n; bytes = text }) x)) (sym (short_text most n text l)) refl

pub text_read : (most n : ℕ) (text : List ℕ) (held : Option Held) (name : List ℕ) → IsContent held name text → length text ≤ most
    → FoundAlone most n held name (Ok (record { which = n; bytes = text }))
text_read most n text None name e l = record { contents = Some text ∷ []; are = (tt, tt); is = text_is most n text l }
text_read most n text (Some held) name e l = record { contents = Some text ∷ []; are = (sym e, tt); is = text_is most n text l }

-- a file that is missing or too long
none_there : (most n : ℕ) (held : Option Held) (name : List ℕ) (rose : Type 0) → IsMissing held name rose
    → FoundAlone most n held name (Err (refused (refusal_of file.Missing n))) × IsCaused held rose (refusal_of file.Missing n)
none_there most n None name rose m = (record { contents = None ∷ []; are = (tt, tt); is = inl refl }, m)
none_there most n (Some held) name rose m = (record { contents = None ∷ []; are = (sym m, tt); is = inl refl }, tt)

long_content : (most : ℕ) (o : Content) (n : ℕ) → IsSomeAnd o (λ bytes. most < length bytes) → file_within most n o ≡ Err (refused (File n TooLong))
long_content most None n h = absurd h
long_content most (Some text) n h = long_text most n text h

-- a text of n bytes
zeros : ℕ → List ℕ
zeros n = replicate n 0

zeros_are : (n : ℕ) → length (zeros n) ≡ n
unfolding zeros
zeros_are n = length-replicate n 0

too_long : (most n : ℕ) (held : Option Held) (name : List ℕ) (rose : Type 0) → IsTooLong held name most rose
    → FoundAlone most n held name (Err (refused (refusal_of file.TooLong n))) × IsCaused held rose (refusal_of file.TooLong n)
too_long most n None name rose m =
    let size : length (zeros (most + 1)) ≡ most + 1 = zeros_are (most + 1) in
    (record { contents = Some (zeros (most + 1)) ∷ []; are = (tt, tt); is = inl (long_text most n (zeros (most + 1)) (omega (arith, size))) }, m)
too_long most n (Some held) name rose m =
    (record { contents = held name ∷ []; are = (refl, tt); is = inl (long_content most (held name) n m) }, tt)

itself : (n : ℕ) → n - n ≡ 0
itself n = omega arith

-- and any file that was not read
pub text_unread : (most n : ℕ) (held : Option Held) (name : List ℕ) (rose : Type 0) (fault : FileFault)
    → ((cause : ReadCause) → fault ≡ file.Failed cause → rose) → (fault ≡ file.Missing → IsMissing held name rose) → (fault ≡ file.TooLong → IsTooLong held name most rose)
    → FoundAlone most n held name (Err (refused (refusal_of fault n))) × IsCaused held rose (refusal_of fault n)
text_unread most n held name rose file.Missing f m t = none_there most n held name rose (m refl)
text_unread most n held name rose file.TooLong f m t = too_long most n held name rose (t refl)
text_unread most n held name rose (file.Failed cause) f m t =
    let c = content_of held name in (
      record {
        contents = c ∷ [];
        are = (is_held held name, tt);
        is = inr (inl (n, (cause, refl), ap (λ (k : ℕ). alone n (file_within most n) (slice_set (c ∷ []) k None)) (itself n)));
      },
      f cause refl,
    )
text_unread most n held name rose file.NoMemory f m t =
    (record { contents = content_of held name ∷ []; are = (is_held held name, tt); is = inr (inr refl) }, tt)

-- ---- what a file alone tells of its content

-- file n was not read, or there was no memory
abbrev pub IsFileFault : ℕ → ShownRefusal → Type 0
IsFileFault n refusal = ((cause : ReadCause) × (refusal ≡ refused (File n (ReadFault cause)))) ⊎ (refusal ≡ refused NoMemory)

-- file n has a content with this text, or that is refused for this; or it was not read
abbrev pub IsOpened : ℕ → ℕ → Option Held → List ℕ → Result FileContent ShownRefusal → Type 0
IsOpened most n held name (Ok text) = (content : Content) × IsHeld held name content × (file_within most n content ≡ Ok text)
IsOpened most n held name (Err refusal) =
    (content : Content) × IsHeld held name content × ((file_within most n content ≡ Err refusal) ⊎ IsFileFault n refusal)

-- the refusal for one file is that for no other
pub refusal_same : {A : Type 0} (a b : ShownRefusal) → ◌≡◌ {A = Result A ShownRefusal} (Err a) (Err b) → a ≡ b
refusal_same a b e = cc

pub file_same : (n m : ℕ) (why other : FileRefusal) → refused (File n why) ≡ refused (File m other) → n ≡ m
file_same n m why other e = by (ap (λ (r : ShownRefusal). r.why) e)
  where
    by : File n why ≡ File m other → n ≡ m
    by same = cc

-- what is missing by the content of file n is file n
pub misses : (most n m : ℕ) (content : Content) → file_within most n content ≡ Err (missing m) → n ≡ m
misses most n m None e = file_same n m Missing Missing (refusal_same (missing n) (missing m) e)
misses most n m (Some text) e = by (nat_le (length text) most) e
  where
    by : (test : Bool) → ◌≡◌ {A = Result FileContent ShownRefusal} (cond test (Ok (record { which = n; bytes = text })) (Err (refused (File n TooLong)))) (Err (missing m)) → n ≡ m
    by true h = cc
    by false h = file_same n m TooLong Missing (refusal_same (refused (File n TooLong)) (missing m) h)

set_misses : (most n m k : ℕ) (content : Content) → alone n (file_within most n) (slice_set (content ∷ []) k None) ≡ Err (missing m) → n ≡ m
set_misses most n m zero content e = file_same n m Missing Missing (refusal_same (missing n) (missing m) e)
set_misses most n m (suc k) content e = misses most n m content e

same_text : (r : Result FileContent ShownRefusal) (text : FileContent) → IsOkAnd r (λ x. text ≡ x) → r ≡ Ok text
same_text (Ok x) text e = ap Ok (sym e)
same_text (Err refusal) text e = absurd e

pub opened : (most n : ℕ) (held : Option Held) (name : List ℕ) (found : Result FileContent ShownRefusal) → FoundAlone most n held name found → IsOpened most n held name found
opened most n held name found h = by h.contents h.are found h.is
  where
    by : (contents : Contents) → AreContents held (name ∷ []) contents → (r : Result FileContent ShownRefusal)
        → IsFoundFor (λ (text : FileContent). text) n (alone n (file_within most n)) contents r → IsOpened most n held name r
    by [] are r is = absurd are
    by (content ∷ further ∷ contents) are r is = absurd are.1
    by (content ∷ []) are (Ok text) is = (content, are.0, same_text (file_within most n content) text is)
    by (content ∷ []) are (Err refusal) (inl e) = (content, are.0, inl e)
    by (content ∷ []) are (Err refusal) (inr (inl u)) =
        let n_is : n ≡ u.0 = set_misses most n u.0 (u.0 - n) content u.2 in
        (content, are.0, inr (inl (u.1.0, u.1.1 ∙ ap (λ (m : ℕ). refused (File m (ReadFault u.1.0))) (sym n_is))))
    by (content ∷ []) are (Err refusal) (inr (inr m)) = (content, are.0, inr (inr m))
