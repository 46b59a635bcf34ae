-- Before the first step each target keeps the rule.
use Rattle.std.proofs.Common.{◌≡◌, ◌∙◌, refl, ap, subst, sym, ℕ, zero, suc, ◌+◌, ◌-◌, ◌*◌, ◌%◌, ◌<◌, ◌≤◌, Bool, true, false, ltb, ◌==◌, if◌then◌else◌, List, [], ◌∷◌, ◌++◌, length, replicate, get_or, slice_get, arith}
use Rattle.std.proofs.Math.Seq.{get_or-append_right}
use mathlib.Core.Option.{some}
use lib.ListN.{get_elem?}
use Rattle.sb_actor.specs.Laws.{first_worker as first_view}
use Rattle.sb_statements.specs.declared.statements.Statement.TheVariants as statement
use Rattle.std.proofs.Common.{Option, Some}
use Rattle.sb_core.proofs.Names.{AreViews, block_of, channels_of, clean_channels, first_run, first_runs, first_stage, first_thread, first_worker, free_channel, free_channels, get_or-append, HasView, mark_at, nat_tests, no_call, no_run, opening_at, RuleLaws, RunAt, Script, slice_index, Statement, statement_at, TargetViews, thread_place_of, ThreadView, ℕ_discrete}
use Rattle.sb_core.proofs.Sets.{at_end, at_longer}
use Rattle.sb_core.proofs.Starting.{clean_length, each_is, free_length, so_many}

-- the opening words
zeros : (n j : ℕ) → ◌≡◌ {A = ℕ} (get_or (replicate n 0) j 0) 0
zeros zero j = refl
zeros (suc n) zero = refl
zeros (suc n) (suc j) = zeros n j

one_channel : (j : ℕ) → get_or free_channel j 0 ≡ (if j == 0 then 1 else 0)
one_channel zero = refl
one_channel (suc j) = zeros 64 j ∙ ap (λ b. if b then 1 else 0) (sym (apart j))
  where
    apart : (j : ℕ) → (suc j == 0) ≡ false
    apart j = grind (arith, nat_tests)

pub opened : (n : ℕ) (w : ℕ) → w < n * 65 → slice_index (free_channels n) w ≡ opening_at w
opened zero w l = absurd (omega (arith, l))
opened (suc n) w l = by_test (ltb w (n * 65)) refl (opened n w)
  where
    by_test : (b : Bool) → ltb w (n * 65) ≡ b → (w < n * 65 → slice_index (free_channels n) w ≡ opening_at w) → slice_index (free_channels (suc n)) w ≡ opening_at w
    by_test true e front =
        let low : w < n * 65 = grind (arith, nat_tests, e) in
        let many = free_length n in
        get_or-append (free_channels n) free_channel 0 w (omega (arith, low, many)) ∙ front low
    by_test false e front =
        let high : n * 65 ≤ w = grind (arith, nat_tests, e) in
        let many = free_length n in
        let within : w < n * 65 + 65 = omega (arith, l) in
        let rest : w % 65 ≡ w - length (free_channels n) = remains n w (length (free_channels n)) many high within in
        get_or-append_right (free_channels n) free_channel w 0 (omega (arith, high, many))
        ∙ (one_channel (w - length (free_channels n)) ∙ ap (λ z. if z == 0 then 1 else 0) (sym rest))
      where
        remains : (n w m : ℕ) → m ≡ n * 65 → n * 65 ≤ w → w < n * 65 + 65 → w % 65 ≡ w - m
        remains n w m e l h = omega (arith, e, l, h)

-- the views of the first threads
abbrev first_views : List Bool → ℕ → List ThreadView
first_views clean zero = []
first_views clean (suc n) = first_views clean n ++ first_thread clean n ∷ []

so_many_views : (clean : List Bool) (n : ℕ) → length (first_views clean n) ≡ n
so_many_views clean n = so_many (first_thread clean) (first_views clean) refl (λ m. refl) n

view_at : (clean : List Bool) (n k : ℕ) → k < n → get_elem? (first_views clean n) k ≡ some (first_thread clean k)
view_at clean zero k l = absurd (omega (arith, l))
view_at clean (suc n) k l = by_place (ℕ_discrete k n) (view_at clean n k)
  where
    by_place : Dec (k ≡ n) → (k < n → get_elem? (first_views clean n) k ≡ some (first_thread clean k)) → get_elem? (first_views clean (suc n)) k ≡ some (first_thread clean k)
    by_place (yes e) before =
        subst (λ z. get_elem? (first_views clean (suc n)) z ≡ some (first_thread clean z)) (sym e)
        (subst (λ z. get_elem? (first_views clean (suc n)) z ≡ some (first_thread clean n)) (so_many_views clean n) (at_end (first_views clean n) (first_thread clean n)))
    by_place (no ne) before = at_longer (first_views clean n) (first_thread clean n ∷ []) k (first_thread clean k) (before (omega (arith, l, ne)))

-- each statement begins outside a call
pub first_place : (mark : ℕ) (o : Option Statement) → thread_place_of (block_of mark o) (first_stage o) ≡ no_call
first_place mark (Some (statement.Call tag args)) = refl
first_place mark _ = refl

-- the views of a target at the start
pub opening_views : RuleLaws → (script : Script) (t n : ℕ)
    → (views : TargetViews) × AreViews script t (free_channels (channels_of (slice_get script.targets t))) [] (first_worker script.targets t) (first_runs script t n) views
opening_views laws script t n =
    let clean = clean_channels script t in
    let count = channels_of (slice_get script.targets t) in
    let words = free_channels count in
    let marks = clean_length script t count in
    let many = free_length count in
    let sized : length words ≡ length clean * 65 = many ∙ ap (λ z. z * 65) (sym marks) in
    let threads = first_views clean n in
    let views = so_many_views clean n in
    let runs = so_many (first_run script t) (first_runs script t) refl (λ m. refl) n in (
      record { worker = first_view clean; threads = threads },
      record {
        rule = laws.starts clean words threads sized (λ w l. opened count w (omega (arith, l, many))) (λ k l. view_at clean n k (subst (λ m. k < m) views l));
        worker = record { holds = record { channels = marks; channel = refl; place = refl }; serves = refl };
        many = views ∙ sym runs;
        threads = λ k l.
            let low : k < n = subst (λ m. k < m) runs l in
            subst (λ (x : RunAt). HasView script t threads k x) (sym (each_is (first_run script t) (first_runs script t) refl (λ m. refl) n k no_run low))
            (first_thread clean k, view_at clean n k low, record { holds = record { number = refl; clean = refl; place = sym (first_place (mark_at k 0) (statement_at script t k 0)) }; has = refl });
      },
    )
