-- Fields that are appended in parts.
use Rattle.std.proofs.Common.{◌≡◌, ◌∙◌, ℕ, refl, sym, ap, List, [], ◌∷◌, ◌++◌, map, codes, append_assoc}
use Rattle.std.proofs.lemmas.Grind.{flat_map-append}
use Rattle.std.specs.List.{flat_map}
use Rattle.sb_call.specs.declared.arguments.Arg.{Arg}
use Rattle.sb_transcript.specs.Fields.{after_separator, all_after, argument_field, argument_text}

-- arguments that are appended one by one
pub arguments_same : (args : List Arg) → flat_map argument_text args ≡ all_after 32 (map argument_field args)
arguments_same [] = refl
arguments_same (arg ∷ args) = ap (λ l. argument_text arg ++ l) (arguments_same args)

pub arguments_put : (old new : List ℕ) (args : List Arg) → new ≡ old ++ flat_map argument_text args → new ≡ old ++ all_after 32 (map argument_field args)
arguments_put old new args put = put ∙ ap (λ l. old ++ l) (arguments_same args)

-- fields that are appended in three parts
pub in_three : (old a b new : List ℕ) (fs gs hs : List (List ℕ)) → a ≡ old ++ all_after 32 fs → b ≡ a ++ all_after 32 gs → new ≡ b ++ all_after 32 hs
    → new ≡ old ++ all_after 32 (fs ++ (gs ++ hs))
in_three old a b new fs gs hs ha hb hn =
    hn ∙ ap (λ l. l ++ all_after 32 hs) (hb ∙ ap (λ l. l ++ all_after 32 gs) ha)
    ∙ append_assoc (old ++ all_after 32 fs) (all_after 32 gs) (all_after 32 hs)
    ∙ append_assoc old (all_after 32 fs) (all_after 32 gs ++ all_after 32 hs)
    ∙ ap (λ l. old ++ (all_after 32 fs ++ l)) (sym (flat_map-append (after_separator 32) gs hs))
    ∙ ap (λ l. old ++ l) (sym (flat_map-append (after_separator 32) fs (gs ++ hs)))

-- fields after others
pub fields_after : (old mid new : List ℕ) (fs gs : List (List ℕ)) → mid ≡ old ++ all_after 32 fs → new ≡ mid ++ all_after 32 gs → new ≡ old ++ all_after 32 (fs ++ gs)
fields_after old mid new fs gs hm hn =
    hn ∙ (ap (λ l. l ++ all_after 32 gs) hm ∙ (append_assoc old (all_after 32 fs) (all_after 32 gs) ∙ ap (λ l. old ++ l) (sym (flat_map-append (after_separator 32) fs gs))))

-- fields after a word
pub after_word : (old w mid new : List ℕ) (fs : List (List ℕ)) → mid ≡ old ++ w → new ≡ mid ++ all_after 32 fs → new ≡ old ++ (w ++ all_after 32 fs)
after_word old w mid new fs hm hn = hn ∙ (ap (λ l. l ++ all_after 32 fs) hm ∙ append_assoc old w (all_after 32 fs))
