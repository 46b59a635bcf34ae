-- The strings of resolved arguments are made of units.
use Rattle.std.proofs.Common.{◌≡◌, ◌∙◌, ℕ, zero, suc, ◌+◌, true, not, ◌&&◌, List, [], ◌∷◌, length, drop, eqb, Option, None, Some, Result, Ok, Err, inl, inr, refl, subst, ap, sym}
use Rattle.std.specs.List.{list_all}
use Rattle.std.specs.Prelude.{nat_le, option_map}
use Rattle.std.proofs.lemmas.Bool.{and_parts}
use Rattle.std.proofs.lemmas.List.Folds.{list_all-append}
use Rattle.sb_base.specs.Surrogates.{is_paired}
use Rattle.sb_base.specs.Wide.{is_text_unit, is_unit}
use Rattle.sb_block.specs.Blocks.{has_units}
use Rattle.sb_call.specs.declared.arguments.Arg.{Arg}
use Rattle.sb_call.specs.declared.arguments.Arg.TheVariants as arg
use Rattle.sb_call.specs.declared.tags.ParamKind.{ParamKind}
use Rattle.sb_call.specs.declared.tags.ParamKind.TheVariants.{Text, Name, Num, Handle}
use Rattle.sb_text.specs.Steps.{on_value}
use Rattle.sb_text.specs.Strings.{is_text}
use Rattle.sb_link.specs.Answers.{resolved_arg, resolved_from}
use Rattle.sb_link.specs.Resolution.{applying, replaced, resolve, resolve_within, most_steps}
use Rattle.sb_link.specs.ResolutionLaws.{IsAmong}
use Rattle.sb_link.specs.Writing.{is_writable}
use Rattle.sb_link.specs.declared.links.Link.{Link}
use Rattle.sb_link.specs.declared.stops.Stop.{Stop}
use Rattle.sb_link.specs.declared.stops.Stop.TheVariants.{Loop}
use Rattle.sb_link.proofs.Adding.{both}
use Rattle.sb_link.proofs.Longest.{longest_is}
use Rattle.sb_link.proofs.Resolved.{after_arg, err_is_err, of_ok}
use Rattle.sb_link.proofs.Steps.{first_step, last_step, no_step, none_is_none, of_some}

-- the name is made of units
abbrev HasUnits : List ℕ → Type 0
HasUnits name = list_all is_unit name ≡ true

-- ---- names

text_units : (units : List ℕ) → list_all is_text_unit units ≡ true → HasUnits units
text_units [] h = refl
text_units (u ∷ us) h =
    let parts = and_parts (is_text_unit u) (list_all is_text_unit us) h in
    let low = nat_le 32 u && is_unit u in
    let first = (and_parts (nat_le 32 u) (is_unit u) (and_parts low (not (eqb u 34)) parts.0).0).1 in
    both (is_unit u) (list_all is_unit us) first (text_units us parts.1)

later_units : (n : ℕ) (units : List ℕ) → HasUnits units → HasUnits (drop n units)
later_units zero units h = h
later_units (suc n) [] h = h
later_units (suc n) (u ∷ us) h = later_units n us (and_parts (is_unit u) (list_all is_unit us) h).1

-- each link that can be written leads to a name of units
leads : (links : List Link) (link : Link) → list_all is_writable links ≡ true → IsAmong link links → HasUnits link.to
leads [] link h m = absurd m
leads (first ∷ links) link h (inl e) =
    let whole = (and_parts (is_writable first) (list_all is_writable links) h).0 in
    let to = (and_parts (is_text first.from) (is_text first.to) whole).1 in
    subst (λ (l : Link). HasUnits l.to) (sym e) (text_units first.to (and_parts (list_all is_text_unit first.to) (is_paired first.to) to).0)
leads (first ∷ links) link h (inr m) = leads links link (and_parts (is_writable first) (list_all is_writable links) h).1 m

replaced_units : (name : List ℕ) (link : Link) → HasUnits link.to → HasUnits name → HasUnits (replaced name link)
replaced_units name link h k =
    let n = length link.from in
    list_all-append is_unit link.to (drop n name) ∙ both (list_all is_unit link.to) (list_all is_unit (drop n name)) h (later_units n name k)

resolves : (links : List Link) (steps : ℕ) (name other : List ℕ) → list_all is_writable links ≡ true → HasUnits name → resolve_within steps links name ≡ Some other
    → HasUnits other
resolves links zero name other h k e = by (applying links name) refl
  where
    by : (found : Option Link) → applying links name ≡ found → HasUnits other
    by None f = subst HasUnits (of_some name other (sym (last_step links name 0 f) ∙ e)) k
    by (Some link) f = absurd (none_is_none other (sym (no_step links name link f) ∙ e))
resolves links (suc n) name other h k e = by (resolves links n) (applying links name) refl
  where
    by : ((before after : List ℕ) → list_all is_writable links ≡ true → HasUnits before → resolve_within n links before ≡ Some after → HasUnits after)
        → (found : Option Link) → applying links name ≡ found → HasUnits other
    by less None f = subst HasUnits (of_some name other (sym (last_step links name (suc n) f) ∙ e)) k
    by less (Some link) f =
        let longest = longest_is links name link f in
        less (replaced name link) other h (replaced_units name link (leads links link h longest.there) k) (sym (first_step links name link n f) ∙ e)

-- ---- arguments

abbrev Passes : Arg → Type 0
Passes a = has_units a ≡ true

name_passes : (links : List Link) (a b : Arg) → list_all is_writable links ≡ true → Passes a → resolved_arg links Name a ≡ Some b → Passes b
name_passes links (arg.Num number) b h k e = subst Passes (of_some (arg.Num number) b e) refl
name_passes links (arg.Str name) b h k e = by (resolve links name) refl
  where
    by : (r : Option (List ℕ)) → resolve links name ≡ r → Passes b
    by None f = absurd (none_is_none b (sym (ap (option_map arg.Str) f) ∙ e))
    by (Some other) f =
        subst Passes (of_some (arg.Str other) b (sym (ap (option_map arg.Str) f) ∙ e)) (resolves links most_steps name other h k f)

arg_passes : (links : List Link) (kind : ParamKind) (a b : Arg) → list_all is_writable links ≡ true → Passes a → resolved_arg links kind a ≡ Some b → Passes b
arg_passes links Text a b h k e = subst Passes (of_some a b e) k
arg_passes links Num a b h k e = subst Passes (of_some a b e) k
arg_passes links Handle a b h k e = subst Passes (of_some a b e) k
arg_passes links Name a b h k e = name_passes links a b h k e

abbrev AllPass : List Arg → Type 0
AllPass args = list_all has_units args ≡ true

pub units_stay : (links : List Link) (i : ℕ) (kinds : List ParamKind) (args others : List Arg) → list_all is_writable links ≡ true → AllPass args
    → resolved_from links i kinds args ≡ Ok others → AllPass others
units_stay links i [] args others w h e = subst AllPass (of_ok [] others e) refl
units_stay links i (kind ∷ kinds) [] others w h e = subst AllPass (of_ok [] others e) refl
units_stay links i (kind ∷ kinds) (a ∷ args) others w h e = by (units_stay links (i + 1) kinds args) (resolved_arg links kind a) refl
  where
    parts : Passes a × AllPass args
    parts = and_parts (has_units a) (list_all has_units args) h

    then : (b : Arg) → Passes b → (rest : Result (List Arg) Stop) → resolved_from links (i + 1) kinds args ≡ rest
        → ((more : List Arg) → list_all is_writable links ≡ true → AllPass args → resolved_from links (i + 1) kinds args ≡ Ok more → AllPass more)
        → on_value (λ more. b ∷ more) rest ≡ Ok others → AllPass others
    then b p (Ok more) f less g =
        subst AllPass (of_ok (b ∷ more) others g) (both (has_units b) (list_all has_units more) p (less more w parts.1 f))
    then b p (Err stop) f less g = absurd (err_is_err others stop g)

    by : ((more : List Arg) → list_all is_writable links ≡ true → AllPass args → resolved_from links (i + 1) kinds args ≡ Ok more → AllPass more)
        → (found : Option Arg) → resolved_arg links kind a ≡ found → AllPass others
    by less None f = absurd (err_is_err others (Loop i) (sym (ap (after_arg links i kinds args) f) ∙ e))
    by less (Some b) f =
        then b (arg_passes links kind a b w parts.0 f) (resolved_from links (i + 1) kinds args) refl less (sym (ap (after_arg links i kinds args) f) ∙ e)
