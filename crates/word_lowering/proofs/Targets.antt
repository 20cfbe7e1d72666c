-- What gets something from a line: it has a home, unless the line makes it another name; and what that line is by its types.
use Rattle.std.proofs.Common.{◌≡◌, Bool, false, ◌⊎◌, inl, inr, ℕ, List, [], ◌∷◌, ◌++◌, length, map, Option, Some, None, true, refl, sym, ap, subst, ◌∙◌}
use Rattle.std.proofs.lemmas.Bool.{and_parts, cond-true, cond-false, eqb-true}
use Rattle.nim_types.specs.declared.types.TypeDef.{TypeDef}
use Rattle.nim_types.specs.Types.{Ty}
use Rattle.nim_types.specs.Forms.{hooked, form_of}
use Rattle.nim_types.specs.Table.{facts_in}
use Rattle.flat_code.specs.declared.block.BlockLine.{BlockLine}
use Rattle.flat_code.specs.declared.line.From.{From}
use Rattle.flat_code.specs.declared.line.From.TheVariants as F
use Rattle.flat_code.specs.Codes.{block_plain}
use Rattle.flat_code.specs.Fits.{is_value, is_location, is_declared, if_type_of, place_named, place_type}
use Rattle.flat_code.specs.Shapes.{shape_of}
use Rattle.word_lowering.specs.declared.homes.Alias.{Alias}
use Rattle.word_lowering.specs.declared.homes.Alias.TheVariants as alias
use Rattle.word_lowering.specs.declared.homes.Housed.{Housed}
use Rattle.word_lowering.specs.Aliases.{value_to, location_to, alias_by, own_where, standing, stands_by, texts_of}
use Rattle.word_lowering.specs.MayLower.{same_alias, has_code, homed_by, is_as, is_value_as, leads_right, line_may, lines_may, own_values}
use Rattle.flat_code.specs.Scene.{known_in}
use Rattle.flat_code.specs.declared.place.FlatPlace.{FlatPlace}
use Rattle.word_lowering.proofs.Lines.{Basis, IsGood, starts}
use Rattle.word_lowering.proofs.Options.{none_some}
use Rattle.word_lowering.proofs.Related.{Both, body_of}
use Rattle.word_lowering.proofs.Scenes.{IsLasting, IsNamed, IsThere, house, looked, of_location, of_value}
use Rattle.word_lowering.proofs.ShapeFacts.{never, of_numbers}
use Rattle.word_lowering.proofs.ValueFacts.{has_type, look_of, type_in, with_home, IsPlain}
use Rattle.word_lowering.specs.Layouts.{behind, found, nowhere, owns}
use Rattle.word_lowering.specs.Stored.{is_hooked}
use Rattle.word_lowering.proofs.Sites.{Among, There, has_hooks_by, lines_of}
use Rattle.flat_code.specs.declared.place.PlaceKind.{PlaceKind}
use Rattle.flat_code.specs.declared.place.PlaceKind.TheVariants as K
use Rattle.std.specs.Prelude.{◌&&◌, ◌||◌, nat_eq, not}
use Rattle.word_lowering.proofs.SitesApart.{houses}
use Rattle.word_lowering.proofs.StandingAliases.{stands_right}

-- ---- what is tested of each line

line_at : (table : List TypeDef) (hs : List Housed) (standing : List ℕ) (before : List BlockLine) (line : BlockLine) (rest : List BlockLine)
    → lines_may table hs standing (map block_plain (before ++ line ∷ rest)) ≡ true
    → line_may table hs standing (block_plain line) (length (texts_of (map block_plain rest))) ≡ true
line_at table hs standing [] line rest h = (and_parts (line_may table hs standing (block_plain line) (length (texts_of (map block_plain rest)))) _ h).0
line_at table hs standing (p ∷ before) line rest h =
    line_at table hs standing before line rest
    (and_parts (line_may table hs standing (block_plain p) (length (texts_of (map block_plain (before ++ line ∷ rest))))) _ h).1

pub own_alias : (a : Alias) → same_alias a alias.Own ≡ true → a ≡ alias.Own
own_alias alias.Own h = refl
own_alias (alias.Place p global) h = never h
own_alias (alias.Value t) h = never h
own_alias (alias.Node n) h = never h
own_alias (alias.Text behind size) h = never h

once : (b : Bool) → (b || b) ≡ true → b ≡ true
once true h = h
once false h = h

pub own_either : (a : Alias) → (same_alias a alias.Own || same_alias a alias.Own) ≡ true → a ≡ alias.Own
own_either a h = own_alias a (once (same_alias a alias.Own) h)

-- a value is among operands
abbrev pub AmongFrom : ℕ → List From → Type 0
AmongFrom t [] = ⊥
AmongFrom t (F.Value u ∷ from) = (u ≡ t) ⊎ AmongFrom t from
AmongFrom t (F.Place u ∷ from) = AmongFrom t from

-- a place is there, or stands nowhere
pub found_or : (is : PlaceKind → Bool) (n : ℕ) (hs : List Housed) → There hs is n ⊎ (found is n hs ≡ nowhere)
found_or is n [] = inr refl
found_or is n (h ∷ hs) = by (nat_eq h.number n && is h.kind) refl (found_or is n hs)
  where
    by : (b : Bool) → (nat_eq h.number n && is h.kind) ≡ b → There hs is n ⊎ (found is n hs ≡ nowhere)
        → There (h ∷ hs) is n ⊎ (found is n (h ∷ hs) ≡ nowhere)
    by true e other =
        let p = and_parts (nat_eq h.number n) (is h.kind) e in
        let same : found is n (h ∷ hs) ≡ h = cond-true (nat_eq h.number n && is h.kind) h (found is n hs) e in
        inl (record {
          among = inl (sym same);
          number = ap (λ k. k.number) same ∙ eqb-true h.number n p.0;
          kind = ap (λ k. is k.kind) same ∙ p.1;
        })
    by false e (inl there) =
        let same : found is n (h ∷ hs) ≡ found is n hs = cond-false (nat_eq h.number n && is h.kind) h (found is n hs) e in
        inl (record {
          among = inr (subst (λ k. Among k hs) (sym same) there.among);
          number = ap (λ k. k.number) same ∙ there.number;
          kind = ap (λ k. is k.kind) same ∙ there.kind;
        })
    by false e (inr none) = inr (cond-false (nat_eq h.number n && is h.kind) h (found is n hs) e ∙ none)

module _ (x : Basis) (g : Both) (line : BlockLine) (rest : List BlockLine) (y : IsGood x (starts g line rest)) where
  abbrev pub texts_behind : ℕ
  texts_behind = length (texts_of (map block_plain rest))

  abbrev pub stood : List ℕ
  stood = standing (lines_of (body_of g))

  pub may_here : line_may x.table (body_of g).own.all stood (block_plain line) texts_behind ≡ true
  may_here = line_at x.table (body_of g).own.all stood y.stands.before line rest
      (subst (λ l. lines_may x.table (body_of g).own.all stood (map block_plain l) ≡ true) y.stands.whole y.linked.0.may)

  pub value_alias : (to : ℕ) (a : Alias) → value_to (block_plain line) ≡ Some to → alias_by (block_plain line) texts_behind ≡ a
      → (same_alias (found is_value to (body_of g).own.all).alias alias.Own || same_alias (found is_value to (body_of g).own.all).alias a) ≡ true
  value_alias to a is named =
      let m = and_parts (is_value_as (body_of g).own.all (value_to (block_plain line)) (alias_by (block_plain line) texts_behind)) _ may_here in
      subst (λ b. (same_alias (found is_value to (body_of g).own.all).alias alias.Own || same_alias (found is_value to (body_of g).own.all).alias b)
      ≡ true) named
      (subst (λ o. is_value_as (body_of g).own.all o (alias_by (block_plain line) texts_behind) ≡ true) is m.0)

  pub location_alias : (to : ℕ) (a : Alias) → location_to (block_plain line) ≡ Some to → alias_by (block_plain line) texts_behind ≡ a
      → same_alias (found is_location to (body_of g).own.all).alias (own_where stood a) ≡ true
  location_alias to a is named =
      let m = and_parts (is_value_as (body_of g).own.all (value_to (block_plain line)) (alias_by (block_plain line) texts_behind)) _ may_here in
      let n = and_parts (is_as is_location (body_of g).own.all (location_to (block_plain line)) (own_where stood (alias_by (block_plain line) texts_behind))) _
      m.1 in
      subst (λ b. same_alias (found is_location to (body_of g).own.all).alias (own_where stood b) ≡ true) named
      (subst (λ o. is_as is_location (body_of g).own.all o (own_where stood (alias_by (block_plain line) texts_behind)) ≡ true) is n.0)

  tested : (has_code x.table (block_plain line)
      && (own_values (body_of g).own.all (homed_by (block_plain line)) && leads_right x.table (body_of g).own.all (block_plain line))) ≡ true
  tested =
      let m = and_parts (is_value_as (body_of g).own.all (value_to (block_plain line)) (alias_by (block_plain line) texts_behind)) _ may_here in
      (and_parts (is_as is_location (body_of g).own.all (location_to (block_plain line)) (own_where stood (alias_by (block_plain line) texts_behind))) _
      m.1).1

  pub code_here : has_code x.table (block_plain line) ≡ true
  code_here = (and_parts (has_code x.table (block_plain line)) _ tested).0

  -- values that a line takes from homes have homes
  pub homes_here : own_values (body_of g).own.all (homed_by (block_plain line)) ≡ true
  homes_here =
      (and_parts (own_values (body_of g).own.all (homed_by (block_plain line))) _ (and_parts (has_code x.table (block_plain line)) _ tested).1).0

  pub leads_here : leads_right x.table (body_of g).own.all (block_plain line) ≡ true
  leads_here =
      (and_parts (own_values (body_of g).own.all (homed_by (block_plain line))) _ (and_parts (has_code x.table (block_plain line)) _ tested).1).1

  -- a place to which it gives a location
  pub stands_here : (p : ℕ) → stands_by (block_plain line) ≡ Some p
      → ((found is_declared p (body_of g).own.all).lent ≡ true) × (owns (found is_declared p (body_of g).own.all) ≡ false)
  stands_here p is =
      let h : Housed = found is_declared p (body_of g).own.all in
      let q = and_parts h.lent (not (owns h)) (stands_right x.table (body_of g).own.all (block_plain line) p is leads_here) in
      (q.0, by (owns h) q.1)
    where
      by : (b : Bool) → not b ≡ true → b ≡ false
      by true e = never e
      by false e = refl

  pub among_values : (t : ℕ) (from : List From) → AmongFrom t from → own_values (body_of g).own.all from ≡ true → IsNamed g.call.site (of_value t)
      → IsThere g.call.site (of_value t)
  among_values t [] i own named = absurd i
  among_values t (F.Value u ∷ from) (inl e) own named =
      with_home x named (subst (λ k. (house g.call.site (of_value k)).alias ≡ alias.Own) e
      (own_alias (house g.call.site (of_value u)).alias
      (and_parts (same_alias (house g.call.site (of_value u)).alias alias.Own) (own_values (body_of g).own.all from) own).0)) tt
  among_values t (F.Value u ∷ from) (inr i) own named =
      among_values t from i
      (and_parts (same_alias (house g.call.site (of_value u)).alias alias.Own) (own_values (body_of g).own.all from) own).1 named
  among_values t (F.Place u ∷ from) i own named = among_values t from i own named

  pub home_of_value : (t : ℕ) → AmongFrom t (homed_by (block_plain line)) → IsNamed g.call.site (of_value t) → IsThere g.call.site (of_value t)
  home_of_value t i named = among_values t (homed_by (block_plain line)) i homes_here named

  -- with what a path begins that waits at no node
  pub lasting : (t : ℕ) → not (is_hooked x.table (found is_value t (body_of g).own.all).ty) ≡ true → IsLasting x.table g.call.site t
  lasting t h there =
      (houses x.table x.blocks g.call.site (of_value t) y.linked.0 there).numbers (unhooked (found is_value t (body_of g).own.all).kind)
    where
      not_true : (b : Bool) → not b ≡ true → b ≡ false
      not_true false e = refl
      not_true true e = never e

      unhooked : (k : PlaceKind) → has_hooks_by x.table k (found is_value t (body_of g).own.all).ty ≡ false
      unhooked K.Counter = refl
      unhooked k = not_true (is_hooked x.table (found is_value t (body_of g).own.all).ty) h

  -- ---- what gets a value

  pub record Given (to : ℕ) (ty : Ty) : Type 0 where
    pub there : IsThere g.call.site (of_value to)
    pub look : looked x.table g.call.site (of_value to) ≡ shape_of (facts_in x.table) ty

  pub given : (to : ℕ) (ty : Ty) → value_to (block_plain line) ≡ Some to → alias_by (block_plain line) texts_behind ≡ alias.Own
      → type_in x is_value (body_of g) to ≡ Some ty → Given to ty
  given to ty is own typed =
      let n = has_type x g.call.site (of_value to) ty y.linked.0 typed in
      record {
        there = with_home x n.named (own_either (house g.call.site (of_value to)).alias (value_alias to alias.Own is own)) tt;
        look = look_of x g.call.site (of_value to) ty n;
      }

  pub record Target (to : ℕ) (ty : Ty) : Type 0 where
    pub there : IsThere g.call.site (of_value to)
    pub here : of_numbers (looked x.table g.call.site (of_value to)) ≡ true
    pub look : looked x.table g.call.site (of_value to) ≡ shape_of (facts_in x.table) ty
    pub numbers : of_numbers (shape_of (facts_in x.table) ty) ≡ true
    pub unhooked : hooked (form_of (facts_in x.table) ty) ≡ false

  pub target : (to : ℕ) (ty : Ty) → value_to (block_plain line) ≡ Some to → alias_by (block_plain line) texts_behind ≡ alias.Own
      → type_in x is_value (body_of g) to ≡ Some ty → IsPlain x g.call.site (of_value to) → Target to ty
  target to ty is own typed plain =
      let n = has_type x g.call.site (of_value to) ty y.linked.0 typed in
      let got = given to ty is own typed in
      let there = got.there in
      let h = houses x.table x.blocks g.call.site (of_value to) y.linked.0 there in
      let look = got.look in
      record {
        there = there;
        here = h.numbers (plain there);
        look = look;
        numbers = sym (ap of_numbers look) ∙ h.numbers (plain there);
        unhooked = subst (λ t. hooked (form_of (facts_in x.table) t) ≡ false) n.typed (h.unhooked (plain there));
      }

  -- what gives nothing gives it to no place
  pub no_target : (to : ℕ) → type_in x is_value (body_of g) to ≡ None → IsNamed g.call.site (of_value to) → ⊥
  no_target to none named = y.linked.0.unnamed is_value to (no_place (place_named is_value (body_of g).proc.places to) none) named
    where
      no_place : (o : Option FlatPlace) → if_type_of (known_in x.table) o ≡ None → o ≡ None
      no_place None e = refl
      no_place (Some p) e = absurd (none_some (place_type (known_in x.table) p) (sym e))

  pub unnamed_value : (to : ℕ) → type_in x is_value (body_of g) to ≡ None → house g.call.site (of_value to) ≡ nowhere
  unnamed_value to none = by (found_or is_value to (body_of g).own.all)
    where
      by : There (body_of g).own.all is_value to ⊎ (found is_value to (body_of g).own.all ≡ nowhere) → house g.call.site (of_value to) ≡ nowhere
      by (inl there) = absurd (no_target to none there)
      by (inr e) = e

  -- ---- what gets a location

  pub record Pointed (to : ℕ) (ty : Ty) : Type 0 where
    pub named : IsNamed g.call.site (of_location to)
    pub look : looked x.table g.call.site (of_location to) ≡ shape_of (facts_in x.table) ty

  pub pointed : (to : ℕ) (ty : Ty) → type_in x is_location (body_of g) to ≡ Some ty → Pointed to ty
  pointed to ty typed =
      let n = has_type x g.call.site (of_location to) ty y.linked.0 typed in
      record { named = n.named; look = look_of x g.call.site (of_location to) ty n }
