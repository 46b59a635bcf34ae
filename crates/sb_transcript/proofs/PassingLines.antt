-- Fields after separators are cut where they were put together.
use Rattle.std.proofs.Common.{◌≡◌, ◌∙◌, ℕ, ◌/◌, ◌%◌, ◌<◌, ◌==◌, Bool, true, false, cond, leb, refl, sym, ap, arith, List, [], ◌∷◌, ◌++◌, ◌&&◌, ◌||◌, not, append_assoc}
use Rattle.std.proofs.lemmas.Bool.{and_parts}
use Rattle.std.proofs.lemmas.List.{append-nil}
use Rattle.std.proofs.lemmas.Bool.Decides.{nat_tests}
use Rattle.std.specs.List.{list_all, flat_map}
use Rattle.std.specs.Prelude.{⊤}
use Rattle.sb_base.specs.Quoting.{hex_digit, quoted_unit, quoted}
use Rattle.sb_base.specs.Wide.{is_unit}
use Rattle.sb_transcript.specs.Cuts.{cut, place_after}
use Rattle.sb_transcript.specs.Fields.{all_after}
use Rattle.sb_transcript.specs.declared.cuts.Place.{Place}
use Rattle.sb_transcript.specs.declared.cuts.Place.TheVariants.{Plain, InQuotes, AfterBackslash}

-- bytes that lead from one place to another and hold no separator
abbrev pub Leads : ℕ → Place → Place → List ℕ → Type 0
Leads k p q f = (w r : List ℕ) → cut k p w (f ++ r) ≡ cut k q (w ++ f) r

leads_both : (k : ℕ) (p q s : Place) (f g : List ℕ) → Leads k p q f → Leads k q s g → Leads k p s (f ++ g)
leads_both k p q s f g a b w r =
    ap (cut k p w) (append_assoc f g r) ∙ a w (g ++ r) ∙ b (w ++ f) r ∙ ap (λ v. cut k s v r) (append_assoc w f g)

-- each field passes
abbrev pub AllPass : ℕ → List (List ℕ) → Type 0
AllPass k [] = ⊤
AllPass k (f ∷ fs) = Leads k Plain Plain f × AllPass k fs

pub all_both : (k : ℕ) (fs gs : List (List ℕ)) → AllPass k fs → AllPass k gs → AllPass k (fs ++ gs)
all_both k [] gs a b = b
all_both k (f ∷ fs) gs a b = (a.0, all_both k fs gs a.1 b)

pub cut_back : (k : ℕ) (w : List ℕ) (fs : List (List ℕ)) → (k == k) ≡ true → AllPass k fs → cut k Plain w (all_after k fs) ≡ w ∷ fs
cut_back k w [] e a = refl
cut_back k w (f ∷ fs) e a =
    ap (λ t. cond t (w ∷ cut k Plain [] (f ++ all_after k fs)) (cut k (place_after Plain k) (w ++ k ∷ []) (f ++ all_after k fs))) e
    ∙ ap (λ l. w ∷ l) (a.0 [] (all_after k fs) ∙ cut_back k f fs e a.1)

-- ---- plain words

-- neither the separator nor a quote
abbrev pub is_plain : ℕ → ℕ → Bool
is_plain k b = not (b == k) && not (b == 34)

not_false : (b : Bool) → not b ≡ true → b ≡ false
not_false true e = absurd (cc)
not_false false e = refl

pub plain_leads : (k : ℕ) (f : List ℕ) → list_all (is_plain k) f ≡ true → Leads k Plain Plain f
plain_leads k [] h w r = ap (λ v. cut k Plain v r) (sym (append-nil w))
plain_leads k (b ∷ bs) h w r =
    let p = and_parts (is_plain k b) (list_all (is_plain k) bs) h in
    let q = and_parts (not (b == k)) (not (b == 34)) p.0 in
    ap (λ t. cond t (w ∷ cut k Plain [] (bs ++ r)) (cut k (place_after Plain b) (w ++ b ∷ []) (bs ++ r))) (not_false (b == k) q.0)
    ∙ ap (λ t. cut k (cond t InQuotes Plain) (w ++ b ∷ []) (bs ++ r)) (not_false (b == 34) q.1)
    ∙ plain_leads k bs p.1 (w ++ b ∷ []) r ∙ ap (λ v. cut k Plain v r) (append_assoc w (b ∷ []) bs)

-- ---- strings

inner : (k b : ℕ) → (b == 34) ≡ false → (b == 92) ≡ false → Leads k InQuotes InQuotes (b ∷ [])
inner k b e f w r =
    ap (λ t. cut k (cond t Plain (cond (b == 92) AfterBackslash InQuotes)) (w ++ b ∷ []) r) e
    ∙ ap (λ t. cut k (cond t AfterBackslash InQuotes) (w ++ b ∷ []) r) f

backslash : (k : ℕ) → Leads k InQuotes AfterBackslash (92 ∷ [])
backslash k w r = refl

escaped : (k b : ℕ) → Leads k AfterBackslash InQuotes (b ∷ [])
escaped k b w r = refl

pair : (k b : ℕ) → Leads k InQuotes InQuotes (92 ∷ b ∷ [])
pair k b = leads_both k InQuotes AfterBackslash InQuotes (92 ∷ []) (b ∷ []) (backslash k) (escaped k b)

record IsInner (b : ℕ) : Type 0 where
  quote : (b == 34) ≡ false
  slash : (b == 92) ≡ false

digit_inner : (d : ℕ) → d < 16 → IsInner (hex_digit d)
digit_inner d h = record { quote = grind (arith, nat_tests); slash = grind (arith, nat_tests) }

digit_leads : (k d : ℕ) → d < 16 → Leads k InQuotes InQuotes (hex_digit d ∷ [])
digit_leads k d h = let i = digit_inner d h in inner k (hex_digit d) i.quote i.slash

four : (k a b c d : ℕ) → a < 16 → b < 16 → c < 16 → d < 16 → Leads k InQuotes InQuotes (92 ∷ 117 ∷ hex_digit a ∷ hex_digit b ∷ hex_digit c ∷ hex_digit d ∷ [])
four k a b c d ha hb hc hd =
    leads_both k InQuotes InQuotes InQuotes (92 ∷ 117 ∷ []) (hex_digit a ∷ hex_digit b ∷ hex_digit c ∷ hex_digit d ∷ []) (pair k 117)
    (leads_both k InQuotes InQuotes InQuotes (hex_digit a ∷ []) (hex_digit b ∷ hex_digit c ∷ hex_digit d ∷ []) (digit_leads k a ha)
    (leads_both k InQuotes InQuotes InQuotes (hex_digit b ∷ []) (hex_digit c ∷ hex_digit d ∷ []) (digit_leads k b hb)
    (leads_both k InQuotes InQuotes InQuotes (hex_digit c ∷ []) (hex_digit d ∷ []) (digit_leads k c hc) (digit_leads k d hd))))

abbrev unit_text : ℕ → Bool → Bool → List ℕ
unit_text u b1 b2 = cond b1 (92 ∷ u ∷ []) (cond b2 (u ∷ []) (92 ∷ 117 ∷ hex_digit (u / 4096) ∷ hex_digit (u / 256 % 16) ∷ hex_digit (u / 16 % 16) ∷ hex_digit (u % 16) ∷ []))

other : (u : ℕ) → (u == 34 || u == 92) ≡ false → IsInner u
other u h = record { quote = grind (arith, nat_tests); slash = grind (arith, nat_tests) }

unit_by : (k u : ℕ) (b1 b2 : Bool) → u < 65536 → (u == 34 || u == 92) ≡ b1 → Leads k InQuotes InQuotes (unit_text u b1 b2)
unit_by k u true b2 h e = pair k u
unit_by k u false true h e = let i = other u e in inner k u i.quote i.slash
unit_by k u false false h e = four k (u / 4096) (u / 256 % 16) (u / 16 % 16) (u % 16) (omega arith) (omega arith) (omega arith) (omega arith)

unit_leads : (k u : ℕ) → u < 65536 → Leads k InQuotes InQuotes (quoted_unit u)
unit_leads k u h = unit_by k u (u == 34 || u == 92) (leb 32 u && leb u 126) h refl

below : (u : ℕ) → is_unit u ≡ true → u < 65536
below u h = grind (arith, nat_tests)

units_lead : (k : ℕ) (us : List ℕ) → list_all is_unit us ≡ true → Leads k InQuotes InQuotes (flat_map quoted_unit us)
units_lead k [] h = λ w r. ap (λ v. cut k InQuotes v r) (sym (append-nil w))
units_lead k (u ∷ us) h =
    let p = and_parts (is_unit u) (list_all is_unit us) h in
    leads_both k InQuotes InQuotes InQuotes (quoted_unit u) (flat_map quoted_unit us) (unit_leads k u (below u p.0)) (units_lead k us p.1)

opens : Leads 32 Plain InQuotes (34 ∷ [])
opens w r = refl

closes : Leads 32 InQuotes Plain (34 ∷ [])
closes w r = refl

pub quoted_leads : (us : List ℕ) → list_all is_unit us ≡ true → Leads 32 Plain Plain (quoted us)
quoted_leads us h =
    leads_both 32 Plain InQuotes Plain (34 ∷ []) (flat_map quoted_unit us ++ 34 ∷ []) opens
    (leads_both 32 InQuotes InQuotes Plain (flat_map quoted_unit us) (34 ∷ []) (units_lead 32 us h) closes)
