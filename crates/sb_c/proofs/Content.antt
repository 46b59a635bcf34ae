-- What a full place holds.
use Rattle.std.proofs.Common.{◌≡◌, true, None, Some, refl}
use Rattle.std.proofs.lemmas.Bool.{false≢true}
use Rattle.std.specs.Prelude.{Option, is_some}
use Rattle.sb_c.specs.Owning.{Content}

pub held_in : (o : Option Content) → is_some o ≡ true → (x : Content) × (o ≡ Some x)
held_in (Some x) h = (x, refl)
held_in None h = absurd (false≢true h)
