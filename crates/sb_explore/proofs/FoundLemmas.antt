-- What follows from the states that were found so far.
use Rattle.std.specs.Prelude.{Some, nat_eq}
use Rattle.std.specs.Cmp.Lexicographic.{pointwise, bytes_decides}
use Rattle.std.specs.List.{slice_get}
use Rattle.std.proofs.Common.{◌≡◌, ◌∙◌, ◌≢◌, ◌≤◌, ◌<◌, ◌+◌, ℕ, zero, suc, Bool, true, false, cond, not, List, [], ◌∷◌, ◌++◌, ◌||◌, eqb, take, length, get_or, refl, ap, sym, subst, arith, append_assoc, append-nil, length-append}
use Rattle.std.proofs.lemmas.Bool.{eqb-true, false≢true}
use Rattle.std.proofs.lemmas.Bool.Decides.{nat_tests, Decides-eqb}
use Rattle.std.proofs.lemmas.List.{get_or_append_left, get_or_push, take_all}
use Rattle.std.proofs.lemmas.List.Folds.{list_any_more}
use Rattle.std.proofs.lemmas.Option.{get_or_from_slice_get, slice_get_within}
use Rattle.sb_explore.specs.Exploring.{is_letter, list_at, IsLonger, AreFound, AreByLength, AreInOrder, Leads, AllLead, AreFollowed, IsReached, AllReached, HasMore}

pub longer_same : (states : List (List ℕ)) → IsLonger states states
longer_same states = ([], sym (append-nil states))

pub longer_longer : (a b c : List (List ℕ)) → IsLonger a b → IsLonger b c → IsLonger a c
longer_longer a b c h k = (h.0 ++ k.0, k.1 ∙ ap (λ l. l ++ k.0) h.1 ∙ append_assoc a h.0 k.0)

pub at_longer : (a b : List (List ℕ)) (k : ℕ) → IsLonger a b → k < length a → list_at b k ≡ list_at a k
at_longer a b k h low = ap (λ l. get_or l k []) h.1 ∙ get_or_append_left a h.0 [] k low

pub length_longer : (a b : List (List ℕ)) → IsLonger a b → length a ≤ length b
length_longer a b h = omega (arith, ap length h.1, length-append a h.0)

pub leads_longer : (stands : List ℕ → List ℕ → Type 0) (words more_words states more_states : List (List ℕ)) (units : ℕ) (state : List ℕ) (unit : ℕ)
    → length words ≡ length states → IsLonger words more_words → IsLonger states more_states
    → Leads stands words states units state unit → Leads stands more_words more_states units state unit
leads_longer stands words more_words states more_states units state unit many w s l =
    let within : l.0 < length more_states = omega (arith, length_longer states more_states s, l.1) in
    let low : l.0 < length words = omega (arith, many, l.1) in
    let near : length (list_at more_words l.0) ≤ units + 1 = omega (arith, ap length (at_longer words more_words l.0 w low), l.2) in
    (l.0, within, near, λ word h. subst (stands (word ++ unit ∷ [])) (sym (at_longer states more_states l.0 s l.1)) (l.3 word h))

-- what holds of each word with its state, and of one pair more
pub pushed : (P : List ℕ → List ℕ → Type 0) (words states : List (List ℕ)) (word state : List ℕ) → length words ≡ length states
    → ((k : ℕ) → k < length states → P (list_at words k) (list_at states k)) → P word state
    → (k : ℕ) → k < length (states ++ state ∷ []) → P (list_at (words ++ word ∷ []) k) (list_at (states ++ state ∷ []) k)
pushed P words states word state many each last k h = by (eqb k (length states)) refl
  where
    by : (b : Bool) → eqb k (length states) ≡ b → P (list_at (words ++ word ∷ []) k) (list_at (states ++ state ∷ []) k)
    by true e =
        let same : length states ≡ k = sym (eqb-true k (length states) e) in
        subst (λ w. P w (list_at (states ++ state ∷ []) k)) (sym (get_or_push words word [] k (many ∙ same)))
        (subst (P word) (sym (get_or_push states state [] k same)) last)
    by false e =
        let low : k < length states = grind (arith, nat_tests, length-append states (state ∷ [])) in
        let low_word : k < length words = omega (arith, low, many) in
        subst (λ w. P w (list_at (states ++ state ∷ []) k)) (sym (get_or_append_left words (word ∷ []) [] k low_word))
        (subst (P (list_at words k)) (sym (get_or_append_left states (state ∷ []) [] k low)) (each k low))

-- a state more, with its word
pub found_more : (after : List ℕ → List ℕ → Type 0) (words states : List (List ℕ)) (place letter : ℕ) (next : List ℕ)
    → place < length states → AreFound after words states → ((word : List ℕ) → after word (list_at states place) → after (word ++ letter ∷ []) next)
    → AreFound after (words ++ (list_at words place ++ letter ∷ []) ∷ []) (states ++ next ∷ [])
found_more after words states place letter next low found step = record {
  as_many = length-append words ((list_at words place ++ letter ∷ []) ∷ []) ∙ ap (λ n. n + 1) found.as_many ∙ sym (length-append states (next ∷ []));
  each = pushed after words states (list_at words place ++ letter ∷ []) next found.as_many found.each (step (list_at words place) (found.each place low));
}

-- a word that has one unit more than the given number is put after all others
order_more : (words : List (List ℕ)) (word : List ℕ) (units : ℕ) → length word ≡ units + 1 → AreInOrder words units → AreInOrder (words ++ word ∷ []) units
order_more words word units long order = record {
  by_length = λ i j h low. by i j h low (eqb j (length words)) refl;
  near = λ k low. all_near k low;
}
  where
    all_near : (k : ℕ) → k < length (words ++ word ∷ []) → length (list_at (words ++ word ∷ []) k) ≤ units + 1
    all_near k low = at_last (eqb k (length words)) refl
      where
        at_last : (b : Bool) → eqb k (length words) ≡ b → length (list_at (words ++ word ∷ []) k) ≤ units + 1
        at_last true e = omega (arith, ap length (get_or_push words word [] k (sym (eqb-true k (length words) e))), long)
        at_last false e =
            let less : k < length words = grind (arith, nat_tests, length-append words (word ∷ [])) in
            omega (arith, ap length (get_or_append_left words (word ∷ []) [] k less), order.near k less)

    by : (i j : ℕ) → i ≤ j → j < length (words ++ word ∷ []) → (b : Bool) → eqb j (length words) ≡ b
        → length (list_at (words ++ word ∷ []) i) ≤ length (list_at (words ++ word ∷ []) j)
    by i j h low true e =
        let last : length (list_at (words ++ word ∷ []) j) ≡ units + 1 = ap length (get_or_push words word [] j (sym (eqb-true j (length words) e))) ∙ long in
        let below : i < length (words ++ word ∷ []) = omega (arith, low, h) in
        omega (arith, last, all_near i below)
    by i j h low false e =
        let less : j < length words = grind (arith, nat_tests, length-append words (word ∷ [])) in
        let below : i < length words = omega (arith, less, h) in
        omega (arith, ap length (get_or_append_left words (word ∷ []) [] j less), ap length (get_or_append_left words (word ∷ []) [] i below), order.by_length i j h less)

pub new_last : (b is_new : Bool) (states new : List (List ℕ)) (next : List ℕ) → new ≡ cond b states (states ++ next ∷ []) → is_new ≡ not b → is_new ≡ true
    → new ≡ states ++ next ∷ []
new_last true is_new states new next e n t = absurd (false≢true (sym n ∙ t))
new_last false is_new states new next e n t = e

pub old_kept : (b is_new : Bool) (states new : List (List ℕ)) (next : List ℕ) → new ≡ cond b states (states ++ next ∷ []) → is_new ≡ not b → is_new ≡ false → new ≡ states
old_kept true is_new states new next e n f = e
old_kept false is_new states new next e n f = absurd (false≢true (sym f ∙ n))

-- a state that was not there was put, and its word
pub found_pushed : (after : List ℕ → List ℕ → Type 0) (words new_words states new_states : List (List ℕ)) (place letter : ℕ) (next word : List ℕ) (b is_new : Bool)
    → place < length states → AreFound after words states → ((word : List ℕ) → after word (list_at states place) → after (word ++ letter ∷ []) next)
    → new_words ≡ words ++ word ∷ [] → word ≡ list_at words place ++ letter ∷ []
    → new_states ≡ cond b states (states ++ next ∷ []) → is_new ≡ not b → is_new ≡ true → AreFound after new_words new_states
found_pushed after words new_words states new_states place letter next word b is_new low found step w e s n t =
    let words_are : words ++ (list_at words place ++ letter ∷ []) ∷ [] ≡ new_words = sym (w ∙ ap (λ l. words ++ l ∷ []) e) in
    let states_are : states ++ next ∷ [] ≡ new_states = sym (new_last b is_new states new_states next s n t) in
    subst (λ l. AreFound after l new_states) words_are
    (subst (AreFound after (words ++ (list_at words place ++ letter ∷ []) ∷ [])) states_are (found_more after words states place letter next low found step))

pub order_pushed : (words new_words : List (List ℕ)) (place letter : ℕ) (word : List ℕ) → new_words ≡ words ++ word ∷ [] → word ≡ list_at words place ++ letter ∷ []
    → AreInOrder words (length (list_at words place)) → AreInOrder new_words (length (list_at words place))
order_pushed words new_words place letter word w e order =
    let long : length word ≡ length (list_at words place) + 1 = ap length e ∙ length-append (list_at words place) (letter ∷ []) in
    subst (λ l. AreInOrder l (length (list_at words place))) (sym w) (order_more words word (length (list_at words place)) long order)

-- a letter leads to a state that is stored
pub leads_to_stored : (stands : List ℕ → List ℕ → Type 0) (words states : List (List ℕ)) (units : ℕ) (state next stored : List ℕ) (unit k : ℕ)
    → length words ≡ length states → AreInOrder words units
    → slice_get states k ≡ Some stored → pointwise nat_eq next stored ≡ true
    → ((word : List ℕ) → stands word state → stands (word ++ unit ∷ []) next) → Leads stands words states units state unit
leads_to_stored stands words states units state next stored unit k many order e same step =
    let here : next ≡ list_at states k = (bytes_decides next stored).0 same ∙ sym (get_or_from_slice_get states k stored [] e) in
    let within = slice_get_within states k stored e in
    let low : k < length words = omega (arith, many, within) in
    (k, within, order.near k low, λ word w. subst (stands (word ++ unit ∷ [])) here (step word w))

-- the units from one state more are followed
pub followed_more : (stands : List ℕ → List ℕ → Type 0) (words more_words states more_states : List (List ℕ)) (place : ℕ) → place < length states
    → length words ≡ length states → IsLonger words more_words → IsLonger states more_states
    → AreFollowed stands words states place → AllLead stands more_words more_states (length (list_at words place)) (list_at states place)
    → AreFollowed stands more_words more_states (place + 1)
followed_more stands words more_words states more_states place low many w s before here k h unit = by (eqb k place) refl
  where
    by : (t : Bool) → eqb k place ≡ t → Leads stands more_words more_states (length (list_at more_words k)) (list_at more_states k) unit
    by true e =
        let there : place ≡ k = sym (eqb-true k place e) in
        let low_word : place < length words = omega (arith, many, low) in
        subst (λ n. Leads stands more_words more_states (length (list_at more_words n)) (list_at more_states n) unit) there
        (subst (λ l. Leads stands more_words more_states (length l) (list_at more_states place) unit) (sym (at_longer words more_words place w low_word))
        (subst (λ l. Leads stands more_words more_states (length (list_at words place)) l unit) (sym (at_longer states more_states place s low)) (here unit)))
    by false e =
        let less : k < place = grind (arith, nat_tests) in
        let within : k < length states = omega arith in
        let within_word : k < length words = omega (arith, many) in
        subst (λ l. Leads stands more_words more_states (length l) (list_at more_states k) unit) (sym (at_longer words more_words k w within_word))
        (subst (λ l. Leads stands more_words more_states (length (list_at words k)) l unit) (sym (at_longer states more_states k s within))
        (leads_longer stands words more_words states more_states (length (list_at words k)) (list_at states k) unit many w s (before k less unit)))

-- the next state is that of a word that is not shorter
pub order_next : (words more_words : List (List ℕ)) (place : ℕ) → IsLonger words more_words → place < length words → AreInOrder more_words (length (list_at words place))
    → place + 1 < length more_words → AreInOrder more_words (length (list_at more_words (place + 1)))
order_next words more_words place w low order next = record {
  by_length = order.by_length;
  near = λ k h. omega (arith, order.near k h, order.by_length place (place + 1) (omega arith) next, ap length (at_longer words more_words place w low));
}

reached_from : (stands : List ℕ → List ℕ → Type 0) (words states : List (List ℕ)) → AreFollowed stands words states (length states)
    → (word begun : List ℕ) (k : ℕ) → k < length states → length (list_at words k) ≤ length begun → stands begun (list_at states k) → IsReached stands words states (begun ++ word)
reached_from stands words states followed [] begun k h short a =
    let long : length (list_at words k) ≤ length (begun ++ []) = omega (arith, short, length-append begun []) in
    (k, h, long, subst (λ l. stands l (list_at states k)) (sym (append-nil begun)) a)
reached_from stands words states followed (u ∷ us) begun k h short a =
    let led = followed k h u in
    let long : length (list_at words led.0) ≤ length (begun ++ u ∷ []) = omega (arith, led.2, short, length-append begun (u ∷ [])) in
    let rest = reached_from stands words states followed us (begun ++ u ∷ []) led.0 led.1 long (led.3 begun a) in
    subst (IsReached stands words states) (append_assoc begun (u ∷ []) us) rest

-- for each word some state stands, if the units from all states were followed
pub all_reached : (stands : List ℕ → List ℕ → Type 0) (words states : List (List ℕ)) (place : ℕ)
    → length states ≤ place → AreFollowed stands words states place → 0 < length states → length (list_at words 0) ≡ 0 → stands [] (list_at states 0)
    → AllReached stands words states
all_reached stands words states place past followed some short start word =
    let all : AreFollowed stands words states (length states) = λ k h. followed k (omega arith) in
    reached_from stands words states all word [] 0 some (omega (arith, short)) start

-- the first state
pub found_first : (after : List ℕ → List ℕ → Type 0) (start : List ℕ) → after [] start → AreFound after ([] ∷ []) (start ∷ [])
found_first after start a = record {
  as_many = refl;
  each = first;
}
  where
    first : (k : ℕ) → k < 1 → after (list_at ([] ∷ []) k) (list_at (start ∷ []) k)
    first k h = let e : 0 ≡ k = omega arith in subst (λ n. after (list_at ([] ∷ []) n) (list_at (start ∷ []) n)) e a

pub order_first : AreInOrder ([] ∷ []) 0
order_first = record {
  by_length = λ i j h low. let e : 0 ≡ i = omega arith in let f : 0 ≡ j = omega arith in
      subst (λ n. length (list_at ([] ∷ []) n) ≤ length (list_at ([] ∷ []) j)) e (subst (λ n. 0 ≤ length (list_at ([] ∷ []) n)) f (omega arith));
  near = λ k low. let e : 0 ≡ k = omega arith in subst (λ n. length (list_at ([] ∷ []) n) ≤ 1) e (omega arith);
}

or_true : (b : Bool) → (b || true) ≡ true
or_true true = refl
or_true false = refl

-- the letter at a place is one of the letters
pub letter_at : (letters : List ℕ) (i : ℕ) → i < length letters → is_letter letters (get_or letters i 0) ≡ true
letter_at [] i low = absurd (omega (arith, low))
letter_at (l ∷ ls) zero low = ap (λ b. b || is_letter ls l) ((Decides-eqb l l).1 refl)
letter_at (l ∷ ls) (suc i) low = ap (λ b. eqb l (get_or ls i 0) || b) (letter_at ls i (omega (arith, low))) ∙ or_true (eqb l (get_or ls i 0))

-- one letter more is followed
pub lead_more : (like : ℕ → ℕ → Type 0) (stands : List ℕ → List ℕ → Type 0) (letters : List ℕ) (words more_words states more_states : List (List ℕ)) (units : ℕ) (state : List ℕ) (i : ℕ)
    → i < length letters → length words ≡ length states → IsLonger words more_words → IsLonger states more_states
    → ((letter unit : ℕ) → is_letter (take i letters) letter ≡ true → like unit letter → Leads stands words states units state unit)
    → ((unit : ℕ) → like unit (get_or letters i 0) → Leads stands more_words more_states units state unit)
    → (letter unit : ℕ) → is_letter (take (i + 1) letters) letter ≡ true → like unit letter → Leads stands more_words more_states units state unit
lead_more like stands letters words more_words states more_states units state i low many w s before last letter unit is h = by (is_letter (take i letters) letter) refl
  where
    by : (t : Bool) → is_letter (take i letters) letter ≡ t → Leads stands more_words more_states units state unit
    by true e = leads_longer stands words more_words states more_states units state unit many w s (before letter unit e h)
    by false e =
        let here : eqb (get_or letters i 0) letter ≡ true =
        ap (λ t. t || eqb (get_or letters i 0) letter) (sym e) ∙ sym (list_any_more (λ v. eqb v letter) letters i 0 low) ∙ is in
        last unit (subst (like unit) (sym (eqb-true (get_or letters i 0) letter here)) h)

pub all_lead : (like : ℕ → ℕ → Type 0) (stands : List ℕ → List ℕ → Type 0) (letters : List ℕ) (words states : List (List ℕ)) (units : ℕ) (state : List ℕ) (i : ℕ) → length letters ≤ i
    → ((unit : ℕ) → (letter : ℕ) × (is_letter letters letter ≡ true) × like unit letter)
    → ((letter unit : ℕ) → is_letter (take i letters) letter ≡ true → like unit letter → Leads stands words states units state unit)
    → AllLead stands words states units state
all_lead like stands letters words states units state i past each before unit =
    let l = each unit in
    before l.0 unit (ap (λ x. is_letter x l.0) (take_all i letters past) ∙ l.1) l.2
