-- The block of each generated call fits.
use Rattle.std.proofs.Common.{◌≡◌, ◌<◌, refl, true, ℕ, []}
use Rattle.std.specs.Fmt.{digits}
use Rattle.sb_statements.specs.Soundness.{is_statement}
use Rattle.sb_gen.specs.Calls.{file_create, file_query, file_open, event_create, event_open, key_open, ping, pipe_create}
use Rattle.sb_gen.proofs.Numbers.{holds_below, one_below}

creates : holds_below (λ t. holds_below (λ k. is_statement [] (file_create t k)) 256) 8 ≡ true
unfolding digits
creates = refl

queries : holds_below (λ t. holds_below (λ k. is_statement [] (file_query t k)) 256) 8 ≡ true
unfolding digits
queries = refl

opens : holds_below (λ k. is_statement [] (file_open k)) 256 ≡ true
unfolding digits
opens = refl

events : holds_below (λ k. is_statement [] (event_create k)) 256 ≡ true
unfolding digits
events = refl

open_events : holds_below (λ k. is_statement [] (event_open k)) 256 ≡ true
unfolding digits
open_events = refl

keys : holds_below (λ k. is_statement [] (key_open k)) 256 ≡ true
unfolding digits
keys = refl

pings : holds_below (λ k. is_statement [] (ping k)) 256 ≡ true
unfolding digits
pings = refl

pipes : holds_below (λ k. is_statement [] (pipe_create k)) 256 ≡ true
unfolding digits
pipes = refl

module _ (t k : ℕ) (target : t < 8) (number : k < 256) where
  pub create_fits : is_statement [] (file_create t k) ≡ true
  create_fits = one_below (λ k. is_statement [] (file_create t k)) 256 k
      (one_below (λ t. holds_below (λ k. is_statement [] (file_create t k)) 256) 8 t creates target) number

  pub query_fits : is_statement [] (file_query t k) ≡ true
  query_fits = one_below (λ k. is_statement [] (file_query t k)) 256 k
      (one_below (λ t. holds_below (λ k. is_statement [] (file_query t k)) 256) 8 t queries target) number

module _ (k : ℕ) (number : k < 256) where
  pub open_fits : is_statement [] (file_open k) ≡ true
  open_fits = one_below (λ k. is_statement [] (file_open k)) 256 k opens number

  pub event_fits : is_statement [] (event_create k) ≡ true
  event_fits = one_below (λ k. is_statement [] (event_create k)) 256 k events number

  pub open_event_fits : is_statement [] (event_open k) ≡ true
  open_event_fits = one_below (λ k. is_statement [] (event_open k)) 256 k open_events number

  pub key_fits : is_statement [] (key_open k) ≡ true
  key_fits = one_below (λ k. is_statement [] (key_open k)) 256 k keys number

  pub ping_fits : is_statement [] (ping k) ≡ true
  ping_fits = one_below (λ k. is_statement [] (ping k)) 256 k pings number

  pub pipe_fits : is_statement [] (pipe_create k) ≡ true
  pipe_fits = one_below (λ k. is_statement [] (pipe_create k)) 256 k pipes number
