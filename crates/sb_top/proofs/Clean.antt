-- Calls alone leave every channel clean.
use Rattle.std.proofs.Common.{◌≡◌, refl, ap, ℕ, Bool, true, false, not, ◌||◌, List, [], ◌∷◌}
use Rattle.std.proofs.lemmas.Bool.{and_parts, false≢true}
use Rattle.std.specs.List.{list_all, list_any}
use Rattle.sb_local.specs.Serial.{is_call}
use Rattle.sb_statements.specs.Scripts.{threads_write, writes_channel}
use Rattle.sb_statements.specs.declared.scripts.Script.{Script}
use Rattle.sb_statements.specs.declared.scripts.TargetScript.{TargetScript}
use Rattle.sb_statements.specs.declared.statements.Statement.{Statement}
use Rattle.sb_statements.specs.declared.statements.Statement.TheVariants.{Call, Store, Exchange, Load, Wait}
use Rattle.sb_top.specs.Totals.{AllClean, are_calls}

neither : (a b : Bool) → a ≡ false → b ≡ false → (a || b) ≡ false
neither a b h k = rw (h, k) refl

none_of : {X : Type 0} (p q : X → Bool) → ((x : X) → p x ≡ true → q x ≡ false) → (xs : List X) → list_all p xs ≡ true → list_any q xs ≡ false
none_of p q f [] h = refl
none_of p q f (x ∷ xs) h =
    let parts = and_parts (p x) (list_all p xs) h in
    neither (q x) (list_any q xs) (f x parts.0) (none_of p q f xs parts.1)

module _ (target channel : ℕ) where
  no_call_writes : (s : Statement) → is_call s ≡ true → writes_channel target channel s ≡ false
  no_call_writes (Call tag args) h = refl
  no_call_writes (Store t w v) h = absurd (false≢true h)
  no_call_writes (Exchange t w from to) h = absurd (false≢true h)
  no_call_writes (Load t w) h = refl
  no_call_writes (Wait t w v most) h = refl

  no_thread_writes : (statements : List Statement) → list_all is_call statements ≡ true → list_any (writes_channel target channel) statements ≡ false
  no_thread_writes statements h = none_of is_call (writes_channel target channel) no_call_writes statements h

  no_target_writes : (x : TargetScript) → list_all (λ statements. list_all is_call statements) x.threads ≡ true → threads_write target channel x.threads ≡ false
  no_target_writes x h =
      none_of (λ statements. list_all is_call statements) (λ statements. list_any (writes_channel target channel) statements) no_thread_writes x.threads h

pub calls_leave_clean : (script : Script) → are_calls script ≡ true → AllClean script
calls_leave_clean script h target channel =
    ap not (none_of (λ (x : TargetScript). list_all (λ statements. list_all is_call statements) x.threads) (λ (x : TargetScript). threads_write target channel x.threads)
    (no_target_writes target channel) script.targets h)
