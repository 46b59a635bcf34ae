-- The strings of each generated call are made of units.
use Rattle.std.proofs.Common.{◌≡◌, ◌<◌, refl, true, ℕ}
use Rattle.std.specs.Fmt.{digits}
use Rattle.sb_statements.specs.Units.{statement_has_units}
use Rattle.sb_gen.specs.Calls.{file_create, file_query, file_open, event_create, event_open, key_open, pipe_create}
use Rattle.sb_gen.proofs.Numbers.{holds_below, one_below}

creates : holds_below (λ t. holds_below (λ k. statement_has_units (file_create t k)) 256) 8 ≡ true
unfolding digits
creates = refl

queries : holds_below (λ t. holds_below (λ k. statement_has_units (file_query t k)) 256) 8 ≡ true
unfolding digits
queries = refl

opens : holds_below (λ k. statement_has_units (file_open k)) 256 ≡ true
unfolding digits
opens = refl

events : holds_below (λ k. statement_has_units (event_create k)) 256 ≡ true
unfolding digits
events = refl

open_events : holds_below (λ k. statement_has_units (event_open k)) 256 ≡ true
unfolding digits
open_events = refl

keys : holds_below (λ k. statement_has_units (key_open k)) 256 ≡ true
unfolding digits
keys = refl

pipes : holds_below (λ k. statement_has_units (pipe_create k)) 256 ≡ true
unfolding digits
pipes = refl

module _ (t k : ℕ) (target : t < 8) (number : k < 256) where
  pub create_units : statement_has_units (file_create t k) ≡ true
  create_units = one_below (λ k. statement_has_units (file_create t k)) 256 k
      (one_below (λ t. holds_below (λ k. statement_has_units (file_create t k)) 256) 8 t creates target) number

  pub query_units : statement_has_units (file_query t k) ≡ true
  query_units = one_below (λ k. statement_has_units (file_query t k)) 256 k
      (one_below (λ t. holds_below (λ k. statement_has_units (file_query t k)) 256) 8 t queries target) number

module _ (k : ℕ) (number : k < 256) where
  pub open_units : statement_has_units (file_open k) ≡ true
  open_units = one_below (λ k. statement_has_units (file_open k)) 256 k opens number

  pub event_units : statement_has_units (event_create k) ≡ true
  event_units = one_below (λ k. statement_has_units (event_create k)) 256 k events number

  pub open_event_units : statement_has_units (event_open k) ≡ true
  open_event_units = one_below (λ k. statement_has_units (event_open k)) 256 k open_events number

  pub key_units : statement_has_units (key_open k) ≡ true
  key_units = one_below (λ k. statement_has_units (key_open k)) 256 k keys number

  pub pipe_units : statement_has_units (pipe_create k) ≡ true
  pipe_units = one_below (λ k. statement_has_units (pipe_create k)) 256 k pipes number
