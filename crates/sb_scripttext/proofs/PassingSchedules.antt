-- What a value tells of the steps and tests that led to it.
use Rattle.std.proofs.Common.{◌≡◌, refl, ap, Bool, true, false, cond, Option, None, Some, Result, Ok, Err}
use Rattle.sb_text.specs.Steps.{◌>>=◌, at_token, or_fails}
use Rattle.sb_text.specs.Tokens.{Lexemes}

-- a step that was made, and what followed it
pub made : {A B E : Type 0} (first : Result A E) (next : A → Result B E) (y : B) → (first >>= next) ≡ Ok y → (x : A) × (first ≡ Ok x) × (next x ≡ Ok y)
made (Ok x) next y h = (x, refl, h)
made (Err e) next y h = absurd cc

pub ok_same : {A E : Type 0} (x y : A) → ◌≡◌ {A = Result A E} (Ok x) (Ok y) → x ≡ y
ok_same x y h = cc

-- a test that was passed
pub passed : {A E : Type 0} (b : Bool) (x y : A) (e : E) → cond b (Ok x) (Err e) ≡ Ok y → (b ≡ true) × (x ≡ y)
passed true x y e h = (refl, ok_same x y h)
passed false x y e h = absurd cc

-- a value that was there
pub was_there : {A K : Type 0} (tokens : Lexemes) (kind : K) (o : Option A) (x : A) → or_fails tokens kind o ≡ Ok x → o ≡ Some x
was_there tokens kind (Some y) x h = ap Some (ok_same y x h)
was_there tokens kind None x h = absurd cc

-- a value that was placed
pub at_made : {A K : Type 0} (tokens : Lexemes) (read : Result A K) (x : A) → at_token tokens read ≡ Ok x → read ≡ Ok x
at_made tokens (Ok y) x h = ap Ok (ok_same y x h)
at_made tokens (Err kind) x h = absurd cc
