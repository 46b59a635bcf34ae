-- Each name leads to a key that was made, and no two to one, after one more was made.
use Rattle.std.proofs.Common.{◌≡◌, ◌+◌, ℕ, refl, sym, subst, List, []}
use Rattle.sb_names.specs.Maps.{Rows, put}
use Rattle.sb_names.specs.Numbers.{AreNumbered, PutsKeepNumbers}
use Rattle.sb_services.specs.Registry.{Keys, AreMade}
use Rattle.sb_services.proofs.FileLemmas.{none_twice}

pub none_made : (names : Rows ℕ) → names ≡ [] → AreMade (record { names = names; made = 0 })
none_made names e = subst (λ rows. AreNumbered (λ n. n) 0 rows) (sym e) (record { given = refl; distinct = none_twice })

pub one_more : PutsKeepNumbers ℕ → (keys : Keys) (names : Rows ℕ) (name : List ℕ) (number : ℕ) → number ≡ keys.made + 1 → names ≡ put keys.names name number
    → AreMade keys → AreMade (record { names = names; made = number })
one_more keeps keys names name number next e are =
    subst (λ n. AreNumbered (λ n. n) n names) (sym next)
    (subst (λ rows. AreNumbered (λ n. n) (keys.made + 1) rows) (sym e) (keeps (λ n. n) keys.made keys.names name number are next))
