-- Words that are UTF-8, and words that are not.
use Rattle.std.proofs.Common.{◌≡◌, ℕ, true, false, List, sym}
use Rattle.std.specs.Str.{IsUtf8, is_utf8}
use Rattle.std.proofs.lemmas.Bool.{false_from_ne_true}
use Rattle.std.proofs.lemmas.Str.{IsUtf8-from_is_utf8, is_utf8-from_IsUtf8}

pub is_text : (word : List ℕ) → IsUtf8 word → true ≡ is_utf8 word
is_text word h = sym (is_utf8-from_IsUtf8 word h)

pub is_no_text : (word : List ℕ) → (IsUtf8 word → ⊥) → false ≡ is_utf8 word
is_no_text word h = sym (false_from_ne_true (is_utf8 word) (λ t. h (IsUtf8-from_is_utf8 word t)))
