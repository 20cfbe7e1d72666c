-- What has hooks of what a line names: by its type, by its shape, and where it is another name.
use Rattle.std.proofs.Common.{◌≡◌, ◌⊎◌, inl, inr, ℕ, List, [], ◌∷◌, map, Option, Some, None, Bool, true, false, refl, sym, ap, ◌∙◌}
use Rattle.std.specs.Prelude.{◌||◌, not}
use Rattle.std.proofs.lemmas.Bool.{and_parts, cases_Bool}
use Rattle.nim_types.specs.Forms.{form_of, hooked}
use Rattle.nim_types.specs.Table.{facts_in, type_at, types_in}
use Rattle.nim_types.specs.Types.{Ty}
use Rattle.nim_program.specs.Kinds.{same_value}
use Rattle.nim_program.specs.View.{if_type}
use Rattle.nim_meaning.specs.Here.{any_hooked, gives_hooked}
use Rattle.flat_code.specs.declared.line.From.{From}
use Rattle.flat_code.specs.declared.line.From.TheVariants as F
use Rattle.flat_code.specs.declared.place.FlatPlace.{FlatPlace}
use Rattle.flat_code.specs.declared.place.PlaceKind.{PlaceKind}
use Rattle.flat_code.specs.declared.place.PlaceKind.TheVariants as K
use Rattle.flat_code.specs.Fits as fit
use Rattle.flat_code.specs.Fits.{is_location, is_value, place_named, place_type, type_by_kind, if_type_of}
use Rattle.flat_code.specs.Shapes.{shape_of}
use Rattle.word_lowering.specs.declared.homes.Housed.{Housed}
use Rattle.word_lowering.specs.Stored.{is_hooked}
use Rattle.word_lowering.specs.WaitingCode as code
use Rattle.word_lowering.specs.declared.homes.Alias.TheVariants as alias
use Rattle.word_lowering.proofs.LineFits.{same_type}
use Rattle.word_lowering.proofs.Lines.{Basis, known}
use Rattle.word_lowering.proofs.NamesIn.{names_from}
use Rattle.word_lowering.proofs.Options.{none_some}
use Rattle.word_lowering.proofs.Scenes.{IsNamed, IsThere, Name, house, looked, kind_in, number_in, of_location, of_place, of_value, of_waiting, row_of}
use Rattle.word_lowering.proofs.ShapeFacts.{never, of_numbers}
use Rattle.word_lowering.proofs.SitesApart.{houses}
use Rattle.word_lowering.proofs.Sites.{IsBody, Site, globals_of, has_hooks, has_hooks_by, looks, sigs, type_of}
use Rattle.word_lowering.proofs.ValueFacts.{IsHomed, IsPlain, PlainNames, has_type, homed_plain, type_in}

module _ (x : Basis) where
  -- ---- by types

  by_kind : (kind : PlaceKind) (ty : ℕ)
      → has_hooks_by x.table kind ty ≡ hooked (form_of (facts_in x.table) (type_by_kind kind (type_at (types_in x.table) ty)))
  by_kind K.Counter ty = refl
  by_kind kind ty = x.hooks ty

  pub hooks_type : (h : Housed) → has_hooks x.table h ≡ hooked (form_of (facts_in x.table) (type_of x.table h))
  hooks_type h = by_kind h.kind h.ty

  -- what is made of numbers has none
  numbers_by : (kind : PlaceKind) (ty : ℕ) → of_numbers (shape_of (facts_in x.table) (type_by_kind kind (type_at (types_in x.table) ty))) ≡ true
      → has_hooks_by x.table kind ty ≡ false
  numbers_by K.Counter ty n = refl
  numbers_by kind ty n = by (cases_Bool (is_hooked x.table ty))
    where
      by : (is_hooked x.table ty ≡ true) ⊎ (is_hooked x.table ty ≡ false) → is_hooked x.table ty ≡ false
      by (inl h) = never (sym (x.shaped ty h) ∙ n)
      by (inr h) = h

  pub hooks_numbers : (h : Housed) → of_numbers (looks x.table h) ≡ true → has_hooks x.table h ≡ false
  hooks_numbers h n = numbers_by h.kind h.ty n

  -- a number in the table, or none
  pub gives_as : (ty : Option ℕ) → code.gives_hooked x.table ty ≡ gives_hooked (facts_in x.table) (if_type (known x).types ty)
  gives_as None = refl
  gives_as (Some ty) = x.hooks ty

  -- ---- of names

  module _ (s : Site) (b : IsBody x.table x.blocks s.body) where
    pub hooks_as : (name : Name) (ty : Ty) → type_in x (kind_in name) s.body (number_in name) ≡ Some ty
        → has_hooks x.table (row_of s name) ≡ hooked (form_of (facts_in x.table) ty)
    hooks_as name ty e = hooks_type (row_of s name) ∙ ap (λ t. hooked (form_of (facts_in x.table) t)) (has_type x s name ty b e).typed

    -- of a type without hooks
    pub plain_as : (name : Name) (ty : Ty) → type_in x (kind_in name) s.body (number_in name) ≡ Some ty
        → hooked (form_of (facts_in x.table) ty) ≡ false → IsPlain x s name
    plain_as (of_value t) ty e h = λ there. hooks_as (of_value t) ty e ∙ h
    plain_as (of_location t) ty e h = λ there. hooks_as (of_location t) ty e ∙ h
    plain_as (of_place n) ty e h = λ there. hooks_as (of_place n) ty e ∙ h
    plain_as (of_waiting node) ty e h = tt

    -- what has no type isn't there
    no_place : (o : Option FlatPlace) → if_type_of (known x) o ≡ None → o ≡ None
    no_place None e = refl
    no_place (Some p) e = absurd (none_some (place_type (known x) p) (sym e))

    untyped_value : (t : ℕ) → type_in x is_value s.body t ≡ None → IsPlain x s (of_value t)
    untyped_value t e = λ there. absurd (b.unnamed is_value t (no_place (place_named is_value s.body.proc.places t) e)
        (record { among = there.among; number = there.number; kind = there.kind }))

    untyped_location : (t : ℕ) → type_in x is_location s.body t ≡ None → IsPlain x s (of_location t)
    untyped_location t e = λ named. absurd (b.unnamed is_location t (no_place (place_named is_location s.body.proc.places t) e) named)

    pub plain_typed : (t : ℕ) (o : Option Ty) → type_in x is_value s.body t ≡ o → gives_hooked (facts_in x.table) o ≡ false → IsPlain x s (of_value t)
    plain_typed t None e h = untyped_value t e
    plain_typed t (Some ty) e h = plain_as (of_value t) ty e h

    pub plain_value : (t : ℕ) (o : Option Ty) → same_value (type_in x is_value s.body t) o ≡ true → gives_hooked (facts_in x.table) o ≡ false
        → IsPlain x s (of_value t)
    plain_value t o e h = plain_typed t o (same_type (type_in x is_value s.body t) o e) h

    pub plain_location : (t : ℕ) (o : Option Ty) → same_value (type_in x is_location s.body t) o ≡ true → gives_hooked (facts_in x.table) o ≡ false
        → IsPlain x s (of_location t)
    plain_location t None e h = untyped_location t (same_type (type_in x is_location s.body t) None e)
    plain_location t (Some ty) e h = plain_as (of_location t) ty (same_type (type_in x is_location s.body t) (Some ty) e) h

    neither : (a c : Bool) → (a || c) ≡ false → (a ≡ false) × (c ≡ false)
    neither true c h = never (sym h)
    neither false c h = (refl, h)

    -- operands of types without hooks
    pub plain_operands : (of : List (Option ℕ)) (from : List From)
        → fit.are_of (known x) (sigs x.table x.blocks) (globals_of x.table x.blocks) s.body.proc.places (map (if_type (known x).types) of) from ≡ true
        → any_hooked (facts_in x.table) (map (if_type (known x).types) of) ≡ false → PlainNames x s (names_from from)
    plain_operands [] [] e h = tt
    plain_operands [] (f ∷ from) e h = never e
    plain_operands (ty ∷ of) [] e h = never e
    plain_operands (ty ∷ of) (F.Value t ∷ from) e h =
        let p = and_parts (same_value (type_in x is_value s.body t) (if_type (known x).types ty)) _ e in
        let q = neither (gives_hooked (facts_in x.table) (if_type (known x).types ty)) (any_hooked (facts_in x.table) (map (if_type (known x).types) of)) h in
        (plain_value t (if_type (known x).types ty) p.0 q.0, plain_operands of from p.1 q.1)
    plain_operands (ty ∷ of) (F.Place t ∷ from) e h =
        let p = and_parts (same_value (type_in x is_location s.body t) (if_type (known x).types ty)) _ e in
        let q = neither (gives_hooked (facts_in x.table) (if_type (known x).types ty)) (any_hooked (facts_in x.table) (map (if_type (known x).types) of)) h in
        (plain_location t (if_type (known x).types ty) p.0 q.0, plain_operands of from p.1 q.1)

    -- ---- locations

    -- a location that is another name for a value has no hooks, and so the value has a home
    pub location_plain : (t u : ℕ) → IsNamed s (of_location t) → (house s (of_location t)).alias ≡ alias.Value u
        → has_hooks x.table (house s (of_location t)) ≡ false
    location_plain t u named is =
        hooks_type (house s (of_location t))
        ∙ sym (hooks_as (of_value u) (type_of x.table (house s (of_location t))) (b.valued t u named is).0)
        ∙ by (house s (of_value u)).kind (b.entered t u named is)
      where
        by : (kind : PlaceKind) → is_hooked x.table (house s (of_value u)).ty ≡ false → has_hooks_by x.table kind (house s (of_value u)).ty ≡ false
        by K.Counter e = refl
        by kind e = e

    pub homed : (t : ℕ) → IsNamed s (of_location t) → IsHomed x s t
    homed t named u is = homed_plain x s t b named (λ n. location_plain t u named is) u is

    -- a value without hooks is made of numbers
    pub unhooked_numbers : (t : ℕ) → IsThere s (of_value t) → not (gives_hooked (facts_in x.table) (type_in x is_value s.body t)) ≡ true
        → of_numbers (looked x.table s (of_value t)) ≡ true
    unhooked_numbers t there unhooked =
        (houses x.table x.blocks s (of_value t) b there).numbers
        (plain_typed t (type_in x is_value s.body t) refl (off (gives_hooked (facts_in x.table) (type_in x is_value s.body t)) unhooked) there)
      where
        off : (b : Bool) → not b ≡ true → b ≡ false
        off true e = never e
        off false e = refl
