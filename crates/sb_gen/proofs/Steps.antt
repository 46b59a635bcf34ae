-- One statement, and one target, of those that are left.
use Rattle.std.proofs.Common.{◌≡◌, ◌∙◌, ◌<◌, ◌+◌, ◌-◌, List, [], ◌∷◌, ◌++◌, append_assoc, refl, sym, ℕ, arith}
use Rattle.std.specs.Prelude.{zero, suc}
use Rattle.sb_gen.specs.Generator.{after, next}
use Rattle.sb_gen.specs.Calls.{directory, statement_of, statements_of}
use Rattle.sb_gen.specs.Scripts.{directories_of, target_of, targets_of}
use Rattle.sb_statements.specs.declared.scripts.StartLine.{StartLine}
use Rattle.sb_statements.specs.declared.scripts.StartLine.TheVariants.{Dir}
use Rattle.sb_statements.specs.declared.scripts.TargetScript.{TargetScript}
use Rattle.sb_statements.specs.declared.statements.Statement.{Statement}

pub statements_more : (t left x : ℕ) → 0 < left → statements_of t left x ≡ statement_of t (next x) ∷ statements_of t (left - 1) (next x)
statements_more t zero x h = absurd (omega arith)
statements_more t (suc n) x h = let e : suc n - 1 ≡ n = omega arith in rw e refl

pub after_more : (left x : ℕ) → 0 < left → after left x ≡ after (left - 1) (next x)
after_more zero x h = absurd (omega arith)
after_more (suc n) x h = let e : suc n - 1 ≡ n = omega arith in rw e refl

pub targets_left : (t count calls x : ℕ) → t < count
    → targets_of t (count - t) calls x ≡ target_of t calls x ∷ targets_of (t + 1) (count - (t + 1)) calls (after calls (after calls x))
targets_left t count calls x h =
    let e : count - t ≡ suc (count - (t + 1)) = omega arith in rw e refl

pub directories_left : (t count : ℕ) → t < count → directories_of t (count - t) ≡ Dir (directory t) ∷ directories_of (t + 1) (count - (t + 1))
directories_left t count h =
    let e : count - t ≡ suc (count - (t + 1)) = omega arith in rw e refl

-- ---- one more of them was pushed

pub statement_pushed : (t left x y : ℕ) (old new whole : List Statement) (made : Statement) → 0 < left → made ≡ statement_of t (next x) → y ≡ next x
    → new ≡ old ++ (made ∷ []) → old ++ statements_of t left x ≡ whole → new ++ statements_of t (left - 1) y ≡ whole
statement_pushed t left x y old new whole made some is_made is_next pushed h =
    rw (pushed, append_assoc, is_next, is_made) (rw (statements_more t left x some) at h)

pub after_stepped : (left x y whole : ℕ) → 0 < left → y ≡ next x → after left x ≡ whole → after (left - 1) y ≡ whole
after_stepped left x y whole some is_next h = rw is_next (sym (after_more left x some) ∙ h)

pub target_pushed : (t count calls x y : ℕ) (old new whole : List TargetScript) (made : TargetScript) → t < count → made ≡ target_of t calls x
    → y ≡ after calls (after calls x) → new ≡ old ++ (made ∷ []) → old ++ targets_of t (count - t) calls x ≡ whole
    → new ++ targets_of (t + 1) (count - (t + 1)) calls y ≡ whole
target_pushed t count calls x y old new whole made some is_made is_next pushed h =
    rw (pushed, append_assoc, is_next, is_made) (rw (targets_left t count calls x some) at h)

pub directory_pushed : (t count : ℕ) (old new whole : List StartLine) (made : StartLine) → t < count → made ≡ Dir (directory t)
    → new ≡ old ++ (made ∷ []) → old ++ directories_of t (count - t) ≡ whole
    → new ++ directories_of (t + 1) (count - (t + 1)) ≡ whole
directory_pushed t count old new whole made some is_made pushed h =
    rw (pushed, append_assoc, is_made) (rw (directories_left t count some) at h)
