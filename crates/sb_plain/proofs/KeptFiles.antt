-- What calls do to files, one after another.
use Rattle.std.proofs.Common.{◌≡◌, ◌∙◌, ◌≤◌, ℕ, Option, refl, subst, sym, arith}
use Rattle.std.specs.Prelude.{⊤, IfErr, IsErrAnd, OnOk, Result, Ok, Err}
use Rattle.sb_message.specs.declared.statuses.Refusal.{Refusal}
use Rattle.sb_message.specs.declared.statuses.Refusal.TheVariants.{File, NoMemory, Text, TooComplex, Usage}
use Rattle.sb_outside.specs.Outside.{Held, Rose}
use Rattle.sb_plain.specs.Contents.{ShownRefusal, refused}
use Rattle.sb_plain.specs.Endings.{IsCaused}
use Rattle.sb_plain.specs.Readings.{IsCausedBy, IsOfText, KeepsFiles}

module _ {B : Type 0} where
  -- what holds of a refusal holds of the result that hands it on
  pub handed_on : (P : Result B ShownRefusal → Type 0) (r : Result B ShownRefusal) (refusal : ShownRefusal) → IsErrAnd r (λ e. e ≡ refusal) → P (Err refusal) → P r
  handed_on P (Ok x) refusal h p = absurd h
  handed_on P (Err e) refusal h p = subst (λ (x : ShownRefusal). P (Err x)) (sym h) p

  on_ok : {X : Type 0} (r : Result B ShownRefusal) → X → OnOk r X
  on_ok (Ok v) x = x
  on_ok (Err e) x = tt

-- ---- causes

-- a refusal of what was read has no cause in files
pub text_caused : (held : Option Held) (rose : Type 0) (why : Refusal) → IsOfText why → IsCaused held rose why
text_caused held rose (File n why) h = absurd h
text_caused held rose (Usage fault) h = tt
text_caused held rose (Text n fault) h = tt
text_caused held rose (TooComplex call) h = tt
text_caused held rose NoMemory h = tt

pub result_caused : {B : Type 0} (held : Option Held) (rose : Type 0) (r : Result B ShownRefusal) → IfErr r (λ refusal. IsOfText refusal.why) → IsCausedBy held rose r
result_caused held rose (Ok x) h = tt
result_caused held rose (Err refusal) h = text_caused held rose refusal.why h

-- ---- one call after another

module _ {G A B : Type 0} {held : G → Option Held} {faults : G → ℕ} {files files' : G} where
  -- a reading was refused
  pub stopped : (r : Result B ShownRefusal) (refusal : ShownRefusal) → IsErrAnd r (λ e. e ≡ refusal)
      → KeepsFiles {A = A} held faults files files' (Err refusal) → KeepsFiles {A = B} held faults files files' r
  stopped r refusal is h =
      handed_on (λ (x : Result B ShownRefusal). KeepsFiles {A = B} held faults files files' x) r refusal is
      (record { kept = h.kept; counted = h.counted; ok_count = tt; caused = h.caused })

  -- a value was read, and what was made of it has its cause
  pub made_of : (x : A) (r : Result B ShownRefusal) → KeepsFiles {A = A} held faults files files' (Ok x)
      → IsCausedBy (held files) (Rose (faults files) (faults files')) r → KeepsFiles {A = B} held faults files files' r
  made_of x r h c = record { kept = h.kept; counted = h.counted; ok_count = on_ok r h.ok_count; caused = c }

  -- a value was read, and then another call was made
  module _ {files'' : G} where
    pub kept_after : (x : A) (r : Result B ShownRefusal) → KeepsFiles {A = A} held faults files files' (Ok x) → KeepsFiles {A = B} held faults files' files'' r
        → KeepsFiles {A = B} held faults files files'' r
    kept_after x r h k = record {
      kept = k.kept ∙ h.kept;
      counted = subst (λ (n : ℕ). n ≤ faults files'') h.ok_count k.counted;
      ok_count = subst (λ (n : ℕ). OnOk r (faults files'' ≡ n)) h.ok_count k.ok_count;
      caused =
          subst (λ (n : ℕ). IsCausedBy (held files) (Rose n (faults files'')) r) h.ok_count
          (subst (λ (o : Option Held). IsCausedBy o (Rose (faults files') (faults files'')) r) h.kept k.caused);
    }

-- a command reads no file
module _ {G B : Type 0} {held : G → Option Held} {faults : G → ℕ} {files : G} where
  pub untouched : (r : Result B ShownRefusal) → IsCausedBy (held files) (Rose (faults files) (faults files)) r → KeepsFiles {A = B} held faults files files r
  untouched r c = record { kept = refl; counted = omega arith; ok_count = on_ok r refl; caused = c }

  -- and is refused since there is no memory
  pub unread : (refusal : ShownRefusal) → refusal ≡ refused NoMemory → KeepsFiles {A = B} held faults files files (Err refusal)
  unread refusal is =
      untouched (Err refusal) (subst (λ (x : ShownRefusal). IsCaused (held files) (Rose (faults files) (faults files)) x.why) (sym is) tt)
