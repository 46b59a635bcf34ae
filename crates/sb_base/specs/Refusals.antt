-- What a call gives that may refuse its input or run out of memory.
use Rattle.std.specs.Prelude.{◌≡◌, Result, Ok, Err, ⊤}
use Rattle.sb_base.specs.declared.refusals.Refused.{Refused}
use Rattle.sb_base.specs.declared.refusals.Refused.TheVariants.{Fault, NoMemory}

-- what is wanted was given, or its fault, or there was no memory
abbrev pub Gives : {A K : Type 0} → Result A K → Result A (Refused K) → Type 0
Gives wanted (Ok x) = wanted ≡ Ok x
Gives wanted (Err (Fault kind)) = wanted ≡ Err kind
Gives wanted (Err NoMemory) = ⊤

-- the same of a value that is wanted as it is seen by this function
abbrev pub GivesAs : {A B K : Type 0} → (B → A) → Result A K → Result B (Refused K) → Type 0
GivesAs seen wanted (Ok x) = wanted ≡ Ok (seen x)
GivesAs seen wanted (Err (Fault kind)) = wanted ≡ Err kind
GivesAs seen wanted (Err NoMemory) = ⊤
