-- What was appended in some steps.
use Rattle.std.proofs.Common.{◌≡◌, ◌∙◌, ℕ, List, ◌++◌, ap, append_assoc}

named_end_joined : (text a x b : List ℕ) → (text ++ (a ++ x)) ++ b ≡ text ++ (a ++ x ++ b)
named_end_joined text a x b = simp append_assoc

-- a name with a number, and more
pub named_end : (text a x b one two : List ℕ) → one ≡ text ++ (a ++ x) → two ≡ one ++ b → two ≡ text ++ (a ++ x ++ b)
named_end text a x b one two e f = f ∙ ap (λ l. l ++ b) e ∙ named_end_joined text a x b

three_joined : (text a b c : List ℕ) → ((text ++ a) ++ b) ++ c ≡ text ++ (a ++ b ++ c)
three_joined text a b c = simp append_assoc

-- three parts
pub three_parts : (text a b c one two three : List ℕ) → one ≡ text ++ a → two ≡ one ++ b → three ≡ two ++ c → three ≡ text ++ (a ++ b ++ c)
three_parts text a b c one two three e f g = g ∙ ap (λ l. l ++ c) (f ∙ ap (λ l. l ++ b) e) ∙ three_joined text a b c

two_named_joined : (text a x b y : List ℕ) → (text ++ (a ++ x)) ++ (b ++ y) ≡ text ++ (a ++ x ++ b ++ y)
two_named_joined text a x b y = simp append_assoc

-- two names with numbers
pub two_named : (text a x b y one two : List ℕ) → one ≡ text ++ (a ++ x) → two ≡ one ++ (b ++ y) → two ≡ text ++ (a ++ x ++ b ++ y)
two_named text a x b y one two e f = f ∙ ap (λ l. l ++ (b ++ y)) e ∙ two_named_joined text a x b y

total_joined : (text h a x b y n : List ℕ) → (((text ++ h) ++ (a ++ x)) ++ (b ++ y)) ++ n ≡ text ++ (h ++ a ++ x ++ b ++ y ++ n)
total_joined text h a x b y n = simp append_assoc

-- what is before two names with numbers, and what is after them
pub total_parts : (text h a x b y n one two three four : List ℕ) → one ≡ text ++ h → two ≡ one ++ (a ++ x) → three ≡ two ++ (b ++ y) → four ≡ three ++ n
    → four ≡ text ++ (h ++ a ++ x ++ b ++ y ++ n)
total_parts text h a x b y n one two three four e f g k =
    k ∙ ap (λ l. l ++ n) (g ∙ ap (λ l. l ++ (b ++ y)) (f ∙ ap (λ l. l ++ (a ++ x)) e)) ∙ total_joined text h a x b y n
