-- What a writer is given of the bytes that are due, step by step.
use Rattle.std.proofs.KnownBytes.{Appends-trans, Appends-nil}
use Rattle.std.proofs.Common.{◌≡◌, ◌∙◌, ℕ, List, [], ◌++◌, Option, None, refl, sym, ap, subst, append-nil, append_assoc}
use Rattle.std.specs.Prelude.{Result, Ok, Err, OnOk}
use Rattle.std.specs.Io.KnownBytes.{Appends}
use Rattle.sb_outside.specs.Outside.{GrowsUpTo}
use Rattle.sb_outside.specs.Hosts.{Gives}

-- all bytes are held back
pub gives_none : (old : Option (List ℕ)) (due : List ℕ) → Gives old due old due
gives_none old due = ([], refl, Appends-nil old)

-- what was pending is given, and then other bytes
gives_both : (old mid new : Option (List ℕ)) (pending bytes left : List ℕ) → Appends old mid pending → Appends mid new bytes → left ≡ []
    → Gives old (pending ++ bytes) new left
gives_both old mid new pending bytes left h k none =
    (pending ++ bytes, sym (ap (λ z. (pending ++ bytes) ++ z) none ∙ append-nil (pending ++ bytes)), Appends-trans old mid new pending bytes h k)

pub gives_all : {T E : Type 0} (r : Result T E) (old mid new : Option (List ℕ)) (pending bytes left : List ℕ) → Appends old mid pending → OnOk r (Appends mid new bytes)
    → left ≡ [] → OnOk r (Gives old (pending ++ bytes) new left)
gives_all (Ok x) old mid new pending bytes left h k none = gives_both old mid new pending bytes left h k none
gives_all (Err e) old mid new pending bytes left h k none = tt

-- some bytes are given, and then all that are left
gives_last : (old mid new : Option (List ℕ)) (due left none : List ℕ) → Gives old due mid left → Appends mid new left → none ≡ [] → Gives old due new none
gives_last old mid new due left none (part, cut, h) k empty =
    (part ++ left, cut ∙ sym (ap (λ z. (part ++ left) ++ z) empty ∙ append-nil (part ++ left)), Appends-trans old mid new part left h k)

-- some bytes are given, and then of those that are left and of others
gives_on : (old mid new : Option (List ℕ)) (pending front rest left left' : List ℕ) → Gives old (pending ++ front) mid left → Gives mid (left ++ rest) new left'
    → Gives old (pending ++ (front ++ rest)) new left'
gives_on old mid new pending front rest left left' (part, cut, h) (part', cut', k) =
    let first : pending ++ (front ++ rest) ≡ (pending ++ front) ++ rest = sym (append_assoc pending front rest) in
    let second : (part ++ left) ++ rest ≡ part ++ (left ++ rest) = append_assoc part left rest in
    let last : part ++ (part' ++ left') ≡ (part ++ part') ++ left' = sym (append_assoc part part' left') in
    (part ++ part', first ∙ ap (λ z. z ++ rest) cut ∙ second ∙ ap (λ z. part ++ z) cut' ∙ last, Appends-trans old mid new part part' h k)

-- what is pending and the front of the bytes are given, and then of the rest
pub gives_across : {T E : Type 0} (r : Result T E) (old filled written new : Option (List ℕ)) (pending bytes front rest left none left' : List ℕ) → bytes ≡ front ++ rest
    → Gives old (pending ++ front) filled left → Appends filled written left → none ≡ [] → OnOk r (Gives written (none ++ rest) new left')
    → OnOk r (Gives old (pending ++ bytes) new left')
gives_across (Ok x) old filled written new pending bytes front rest left none left' cut first all empty last =
    subst (λ (z : List ℕ). Gives old (pending ++ z) new left') (sym cut)
    (gives_on old written new pending front rest none left' (gives_last old filled written (pending ++ front) left none first all empty) last)
gives_across (Err e) old filled written new pending bytes front rest left none left' cut first all empty last = tt

-- an output whose content is not known grows by what the writer was given
pub grows_unknown : (old new : Option (List ℕ)) (due left : List ℕ) → Gives old due new left → GrowsUpTo None due None left
grows_unknown old new due left (part, cut, h) = (part, cut, refl)
