-- What `check` comes to.
use Rattle.std.proofs.Common.{◌≡◌, ◌⊎◌, ◌∙◌, refl, sym, ap, subst, inl, inr, ℕ, List, length, Option, lit≤}
use Rattle.std.specs.Prelude.{IfSome, IsOkAnd, Result, Ok, Err, ◌∷◌, []}
use Rattle.sb_message.specs.declared.statuses.Refusal.TheVariants.{NoMemory}
use Rattle.sb_outside.specs.Outside.{Held}
use Rattle.sb_rule.specs.declared.policies.Policy.{Policy}
use Rattle.sb_text.specs.Steps.{◌>>=◌}
use Rattle.sb_plain.specs.Check.{check_end, check_text, printed_end}
use Rattle.sb_plain.specs.Contents.{Content, Contents, FileContent, ShownRefusal, alone, file_in, most_bytes, policies_of, refused}
use Rattle.sb_plain.specs.Ends.{End, Plain}
use Rattle.sb_plain.specs.Readings.{GivesEnd, IsFound, IsFoundFor, ReportedEnd, reported}
use Rattle.sb_plain.specs.ScriptEnds.{IsOne}
use Rattle.sb_plain.specs.Sound.{AreEndsSound, IsSound}
use Rattle.sb_plain.proofs.ReadFiles.{FoundAlone, IsFileFault, opened}
use Rattle.sb_plain.proofs.Readings.{bound, same_end}
use Rattle.sb_plain.proofs.Suiting.{IsSuited, RefusesFor, of_policies}

-- ---- its text

abbrev print : FileContent → List Policy → Result End ShownRefusal
print text policies = Ok (printed_end text.bytes policies)

-- the policies are refused
pub text_refused : (text : FileContent) (refusal : ShownRefusal) → (policies_of text ≡ Err refusal) ⊎ (refusal ≡ refused NoMemory) → GivesEnd (check_text text) (Err refusal)
text_refused text refusal (inl e) = inl (ap (λ r. r >>= print text) e)
text_refused text refusal (inr m) = inr m

-- or printed
pub text_printed : (text : FileContent) (policies : List Policy) (found : ReportedEnd) → policies_of text ≡ Ok policies → found ≡ reported (printed_end text.bytes policies)
    → GivesEnd (check_text text) (Ok found)
text_printed text policies found e h = subst (λ r. IsOkAnd (r >>= print text) (λ end. found ≡ reported end)) (sym e) h

-- ---- its file

module _ (held : Option Held) (policy : List ℕ) where
  -- the file is refused
  check_unread : (refusal : ShownRefusal) → FoundAlone most_bytes 1 held policy (Err refusal) → IsFound reported 1 check_end (policy ∷ []) held (Err refusal)
  check_unread refusal f = let h = opened most_bytes 1 held policy (Err refusal) f in record { contents = h.0 ∷ []; are = (h.1, tt); is = by h.0 h.2 }
    where
      by : (content : Content) → (file_in 1 content ≡ Err refusal) ⊎ IsFileFault 1 refusal → IsFoundFor reported 1 check_end (content ∷ []) (Err refusal)
      by content (inl e) = inl (ap (λ r. r >>= check_text) e)
      by content (inr (inl u)) = inr (inl (1, u, refl))
      by content (inr (inr m)) = inr (inr m)

  -- what was made of its text is what is meant
  check_made : (text : FileContent) (made : Result ReportedEnd ShownRefusal) → FoundAlone most_bytes 1 held policy (Ok text) → GivesEnd (check_text text) made
      → IsFound reported 1 check_end (policy ∷ []) held made
  check_made text made f g = let h = opened most_bytes 1 held policy (Ok text) f in record { contents = h.0 ∷ []; are = (h.1, tt); is = by h.0 h.2 made g }
    where
      by : (content : Content) → file_in 1 content ≡ Ok text → (m : Result ReportedEnd ShownRefusal) → GivesEnd (check_text text) m
          → IsFoundFor reported 1 check_end (content ∷ []) m
      by content e (Ok found) k = subst (λ r. IsOkAnd (r >>= check_text) (λ y. found ≡ reported y)) (sym e) k
      by content e (Err refusal) (inl k) = inl (ap (λ r. r >>= check_text) e ∙ k)
      by content e (Err refusal) (inr m) = inr (inr m)

-- the same over the names of its file
pub check_refused : (held : Option Held) (names : List (List ℕ)) (refusal : ShownRefusal) → IsOne names
    → IsFound (λ (text : FileContent). text) 1 (alone 1 (file_in 1)) names held (Err refusal) → IsFound reported 1 check_end names held (Err refusal)
check_refused held [] refusal h f = absurd h
check_refused held (name ∷ []) refusal h f = check_unread held name refusal f
check_refused held (name ∷ further ∷ names) refusal h f = absurd h

pub check_came : (held : Option Held) (names : List (List ℕ)) (text : FileContent) (made : Result ReportedEnd ShownRefusal) → IsOne names
    → IsFound (λ (t : FileContent). t) 1 (alone 1 (file_in 1)) names held (Ok text) → GivesEnd (check_text text) made → IsFound reported 1 check_end names held made
check_came held [] text made h f g = absurd h
check_came held (name ∷ []) text made h f g = check_made held name text made f g
check_came held (name ∷ further ∷ names) text made h f g = absurd h

-- ---- its statuses, and its runs

pub check_suited : IsSuited 1 check_end
check_suited [] e = (1, refl, lit≤ tt, lit≤ tt)
check_suited (content ∷ []) e = by (file_in 1 content) (of_policies 1 content (lit≤ tt))
  where
    told : (text : FileContent) (r : Result (List Policy) ShownRefusal) → RefusesFor 1 r → RefusesFor 1 (r >>= λ policies. Ok (printed_end text.bytes policies))
    told text (Ok policies) h = tt
    told text (Err refusal) h = h

    by : (r : Result FileContent ShownRefusal) → RefusesFor 1 (r >>= policies_of) → RefusesFor 1 (r >>= check_text)
    by (Ok text) h = told text (policies_of text) h
    by (Err refusal) h = h
check_suited (content ∷ further ∷ contents) e = (1, refl, lit≤ tt, lit≤ tt)

pub check_sound : AreEndsSound (Plain check_end)
check_sound [] end e = cc
check_sound (content ∷ []) end e =
    let text = bound (file_in 1 content) check_text end e in
    let ps = bound (policies_of text.0) (λ policies. Ok (printed_end text.0.bytes policies)) end text.2 in
    subst (λ (x : End). IfSome x.run IsSound) (same_end (printed_end text.0.bytes ps.0) end ps.2) tt
check_sound (content ∷ further ∷ contents) end e = cc
