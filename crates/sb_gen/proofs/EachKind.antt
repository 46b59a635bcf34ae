-- What holds of the calls of each kind holds of every generated statement.
use Rattle.std.proofs.Common.{◌≡◌, ◌<◌, ◌==◌, refl, true, false, ℕ, Bool, List, arith}
use Rattle.std.specs.Prelude.{if◌then◌else◌}
use Rattle.sb_statements.specs.Scripts.{writes_channel}
use Rattle.sb_statements.specs.Soundness.{is_statement}
use Rattle.sb_statements.specs.declared.scripts.TargetScript.{TargetScript}
use Rattle.sb_statements.specs.declared.statements.Statement.{Statement}
use Rattle.sb_gen.specs.Generator.{kind_of, number_of}
use Rattle.sb_gen.specs.Calls.{file_create, file_query, file_open, event_create, event_open, key_open, ping, pipe_create, call_of, statement_of}
use Rattle.sb_statements.specs.Units.{statement_has_units}
use Rattle.sb_gen.proofs.KindUnits.{create_units, query_units, open_units, event_units, open_event_units, key_units, pipe_units}
use Rattle.sb_gen.proofs.Fitting.{create_fits, query_fits, open_fits, event_fits, open_event_fits, key_fits, ping_fits, pipe_fits}

module _ (p : Statement → Bool) (wanted : Bool) where
  chosen : (test : Bool) (x y : Statement) → p x ≡ wanted → p y ≡ wanted → p (if test then x else y) ≡ wanted
  chosen true x y hx hy = hx
  chosen false x y hx hy = hy

-- the calls of the kinds from 6 on, from 5 on, and so on
abbrev from_6 : ℕ → ℕ → Statement
from_6 kind k = if kind == 6 then ping k else pipe_create k

abbrev from_5 : ℕ → ℕ → Statement
from_5 kind k = if kind == 5 then key_open k else from_6 kind k

abbrev from_4 : ℕ → ℕ → Statement
from_4 kind k = if kind == 4 then event_open k else from_5 kind k

abbrev from_3 : ℕ → ℕ → Statement
from_3 kind k = if kind == 3 then event_create k else from_4 kind k

abbrev from_2 : ℕ → ℕ → Statement
from_2 kind k = if kind == 2 then file_open k else from_3 kind k

abbrev from_1 : ℕ → ℕ → ℕ → Statement
from_1 t kind k = if kind == 1 then file_query t k else from_2 kind k

each_kind : (p : Statement → Bool) (wanted : Bool) (t kind k : ℕ) → p (file_create t k) ≡ wanted → p (file_query t k) ≡ wanted → p (file_open k) ≡ wanted
    → p (event_create k) ≡ wanted → p (event_open k) ≡ wanted → p (key_open k) ≡ wanted → p (ping k) ≡ wanted → p (pipe_create k) ≡ wanted
    → p (call_of t kind k) ≡ wanted
each_kind p wanted t kind k h0 h1 h2 h3 h4 h5 h6 h7 =
    chosen p wanted (kind == 0) (file_create t k) (from_1 t kind k) h0
    (chosen p wanted (kind == 1) (file_query t k) (from_2 kind k) h1
    (chosen p wanted (kind == 2) (file_open k) (from_3 kind k) h2
    (chosen p wanted (kind == 3) (event_create k) (from_4 kind k) h3
    (chosen p wanted (kind == 4) (event_open k) (from_5 kind k) h4
    (chosen p wanted (kind == 5) (key_open k) (from_6 kind k) h5
    (chosen p wanted (kind == 6) (ping k) (pipe_create k) h6 h7))))))

number_is_small : (x : ℕ) → number_of x < 256
number_is_small x = omega arith

-- each statement fits a block
pub statement_fits : (targets : List TargetScript) (t x : ℕ) → t < 8 → is_statement targets (statement_of t x) ≡ true
statement_fits targets t x target =
    let small : number_of x < 256 = number_is_small x in
    each_kind (is_statement targets) true t (kind_of x) (number_of x)
    (create_fits t (number_of x) target small) (query_fits t (number_of x) target small) (open_fits (number_of x) small) (event_fits (number_of x) small)
    (open_event_fits (number_of x) small) (key_fits (number_of x) small) (ping_fits (number_of x) small) (pipe_fits (number_of x) small)

-- and none writes to a word
pub statement_is_call : (target channel t x : ℕ) → writes_channel target channel (statement_of t x) ≡ false
statement_is_call target channel t x =
    each_kind (writes_channel target channel) false t (kind_of x) (number_of x) refl refl refl refl refl refl refl refl

-- the strings of each are made of units
pub statement_units : (t x : ℕ) → t < 8 → statement_has_units (statement_of t x) ≡ true
statement_units t x target =
    let small : number_of x < 256 = number_is_small x in
    each_kind statement_has_units true t (kind_of x) (number_of x)
    (create_units t (number_of x) target small) (query_units t (number_of x) target small) (open_units (number_of x) small) (event_units (number_of x) small)
    (open_event_units (number_of x) small) (key_units (number_of x) small) refl (pipe_units (number_of x) small)
