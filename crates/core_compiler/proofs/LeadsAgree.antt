-- Lines of block code lead where they may: what flat code says of them is so among the homes that their places have in word code.
use Rattle.std.proofs.Common.{◌≡◌, ℕ, zero, suc, ◌<◌, Bool, true, false, List, [], ◌∷◌, length, Option, Some, None, refl, sym, ap, ◌∙◌, subst, arith}
use Rattle.std.specs.Prelude.{nat_eq, nat_lt, ◌&&◌, ◌||◌, not, if◌then◌else◌, slice_get}
use Rattle.std.proofs.lemmas.Bool.{both_ways, and_parts, and_from, eqb-true, eq-eqb, lt-ltb}
use Rattle.nim_types.specs.declared.types.TypeDef.{TypeDef}
use Rattle.nim_types.specs.declared.types.TypeDef.TheVariants as D
use Rattle.nim_types.specs.Types.{Ty, Facts, int, fact_of}
use Rattle.nim_types.specs.Forms as form
use Rattle.nim_types.specs.Forms.{HasForm, hooked, form_of, of_int}
use Rattle.nim_types.specs.Table.{type_at, types_in, facts_in, IsTable}
use Rattle.nim_types.specs.Entries.{meant_at, said_at}
use Rattle.nim_types.proofs.ForCallers.{the_form, count as counted, by_entry, said_by}
use Rattle.nim_meaning.specs.LeftOut.{is_exception_type}
use Rattle.nim_program.specs.Kinds.{is_of, kind_of, kind_if, declared_kind, field_at}
use Rattle.flat_code.specs.declared.line.From.{From}
use Rattle.flat_code.specs.declared.line.From.TheVariants as F
use Rattle.flat_code.specs.declared.line.Owning.{Owning}
use Rattle.flat_code.specs.declared.line.Owning.TheVariants as W
use Rattle.flat_code.specs.declared.line.Line.{Line}
use Rattle.flat_code.specs.declared.line.Line.TheVariants as L
use Rattle.flat_code.specs.declared.place.FlatPlace.{FlatPlace}
use Rattle.flat_code.specs.declared.place.PlaceKind.{PlaceKind}
use Rattle.flat_code.specs.declared.place.PlaceKind.TheVariants as K
use Rattle.flat_code.specs.Fits.{Signature, is_value, is_own, is_declared, place_named, if_type_of, location, fits}
use Rattle.flat_code.specs.Fits.{is_location, same_base, type_by_kind, all_fit}
use Rattle.flat_code.specs.Leads.{fills_kind, stands_kind, is_filled, is_stood, may_fill, may_stand, place_hooked, value_hooked}
use Rattle.flat_code.specs.Leads.{leads_right as right_in_flat, all_lead}
use Rattle.flat_code.specs.Scene.{known_in}
use Rattle.word_lowering.specs.declared.homes.Free.{Free}
use Rattle.word_lowering.specs.declared.homes.Housed.{Housed}
use Rattle.word_lowering.specs.Aliases.{standing, is_among}
use Rattle.word_lowering.specs.Layouts.{lent_by, housed, behind, all_housed}
use Rattle.word_lowering.specs.Lookups.{found, address_by}
use Rattle.word_lowering.specs.MayLower.{hook_type, has_hook, stands_lent, leads_right}
use Rattle.word_lowering.specs.Stored.{is_hooked, is_word, entry_at, base_or, base_within}

never : {A : Type 0} → false ≡ true → A
never e = absurd (both_ways false refl e)

nothing : {A : Type 0} {B : Type 0} {x : A} → None ≡ Some x → B
nothing e = cc

one : {A : Type 0} {x y : A} → Some x ≡ Some y → x ≡ y
one e = cc

untrue : (b : Bool) → not b ≡ true → b ≡ false
untrue true h = never h
untrue false h = refl

or_true : (a : Bool) {b : Bool} → b ≡ true → a || b ≡ true
or_true true h = refl
or_true false h = h

-- ---- what is to be shown

-- a line calls hooks of a type that has some
abbrev pub CallsHook : List TypeDef → Line → Type 0
CallsHook table (L.Own what from) = has_hook table (hook_type what) ≡ true
CallsHook table line = Unit {0}

abbrev pub AreLed : List TypeDef → List Housed → List Line → Type 0
AreLed table hs [] = Unit {0}
AreLed table hs (line ∷ lines) = (leads_right table hs line ≡ true) × CallsHook table line × AreLed table hs lines

-- ---- places by number

-- a place has the number by which it is named
named_number : (is_kind : PlaceKind → Bool) (ps : List FlatPlace) (n : ℕ) (p : FlatPlace) → place_named is_kind ps n ≡ Some p → p.number ≡ n
named_number is_kind [] n p e = nothing e
named_number is_kind (q ∷ ps) n p e = by (nat_eq q.number n) (is_kind q.kind) refl e (λ f. named_number is_kind ps n p f)
  where
    by : (a b : Bool) → nat_eq q.number n ≡ a → (if a && b then Some q else place_named is_kind ps n) ≡ Some p →
        (place_named is_kind ps n ≡ Some p → p.number ≡ n) → p.number ≡ n
    by true true same e rest = subst (λ (r : FlatPlace). r.number ≡ n) (one e) (eqb-true q.number n same)
    by true false same e rest = rest e
    by false b same e rest = rest e

-- what is of no type
of_none : {A : Type 0} (to : Option Ty) → is_of to None ≡ true → A
of_none None h = never h
of_none (Some ty) h = never h

module _ (table : List TypeDef) (is_table : IsTable table) where
  -- ---- types of the table

  abbrev facts : Facts
  facts = facts_in table

  int_unhooked : hooked (form_of facts int) ≡ false
  int_unhooked = let f : HasForm facts int form.plain = of_int in ap hooked (the_form f)

  -- what has hooks is a type of the table
  hooked_inside : (ts : List Ty) (n : ℕ) → hooked (form_of facts (type_at ts n)) ≡ true → n < length ts
  hooked_inside [] n h = never (sym int_unhooked ∙ h)
  hooked_inside (t ∷ ts) zero h = omega arith
  hooked_inside (t ∷ ts) (suc n) h = let l = hooked_inside ts n h in omega (arith, l)

  hooked_number : (ty : ℕ) → hooked (form_of facts (type_at (types_in table) ty)) ≡ true → is_hooked table ty ≡ true
  hooked_number ty h =
      let l = hooked_inside (types_in table) ty h in
      let c = counted table in
      and_from _ _ (lt-ltb ty (length table) (omega (arith, l, c))) h

  unhooked_number : (ty : ℕ) → hooked (form_of facts (type_at (types_in table) ty)) ≡ false → is_hooked table ty ≡ false
  unhooked_number ty h = by (nat_lt ty (length table)) h
    where
      by : (b : Bool) {c : Bool} → c ≡ false → b && c ≡ false
      by true h = h
      by false h = refl

  -- ---- what has parts is no word

  base_stays : (ty : ℕ) (d : TypeDef) (n : ℕ) → slice_get table ty ≡ Some d → ((go : ℕ → ℕ) → base_or go ty (Some d) ≡ ty) → base_within n table ty ≡ ty
  base_stays ty d zero e own = refl
  base_stays ty d (suc n) e own = ap (base_or (base_within n table) ty) e ∙ own (base_within n table)

  own_entry : (ty : ℕ) (d : TypeDef) → slice_get table ty ≡ Some d → ((go : ℕ → ℕ) → base_or go ty (Some d) ≡ ty) →
      is_word (entry_at table ty) ≡ is_word (Some d)
  own_entry ty d e own = ap is_word (ap (slice_get table) (base_stays ty d (length table) e own) ∙ e)

  has_parts : (ty field : ℕ) (to : Option Ty) → is_of to (field_at (kind_of facts (type_at (types_in table) ty)) field) ≡ true →
      not (is_exception_type (Some (type_at (types_in table) ty))) ≡ true → is_word (entry_at table ty) ≡ false
  has_parts ty field to h plain =
      let t = by_entry table is_table ty (slice_get table ty) refl in
      by (slice_get table ty) refl (subst (λ t. is_of to (field_at (kind_of facts t) field) ≡ true) t h)
      (subst (λ t. not (is_exception_type (Some t)) ≡ true) t plain) (said_by table is_table ty (slice_get table ty) refl)
    where
      by : (o : Option TypeDef) → slice_get table ty ≡ o → is_of to (field_at (kind_of facts (meant_at (types_in table) o)) field) ≡ true →
          not (is_exception_type (Some (meant_at (types_in table) o))) ≡ true →
          fact_of facts (meant_at (types_in table) o) ≡ said_at (types_in table) o → is_word (entry_at table ty) ≡ false
      by None e h plain said = of_none to h
      by (Some D.Int) e h plain said = of_none to h
      by (Some D.Bool) e h plain said = of_none to h
      by (Some D.Char) e h plain said = of_none to h
      by (Some D.Text) e h plain said = of_none to h
      by (Some (D.Seq i)) e h plain said = of_none to h
      by (Some (D.Param n)) e h plain said = of_none to h
      by (Some (D.Array n i)) e h plain said = of_none to h
      by (Some (D.Ref name i)) e h plain said = of_none to h
      by (Some (D.Enum name at all)) e h plain said = of_none to (subst (λ f. is_of to (field_at (declared_kind f) field) ≡ true) said h)
      by (Some (D.Distinct name at i)) e h plain said = of_none to (subst (λ f. is_of to (field_at (declared_kind f) field) ≡ true) said h)
      by (Some (D.Exception name at parent)) e h plain said = never plain
      by (Some (D.Tuple names is)) e h plain said = own_entry ty (D.Tuple names is) e (λ go. refl)
      by (Some (D.Object name at is all own_hooks parts)) e h plain said = own_entry ty (D.Object name at is all own_hooks parts) e (λ go. refl)

  module _ (start : Bool) (whole : List Line) where
    -- a place of flat code is found in its layout
    place_found : (is_kind : PlaceKind → Bool) (ps : List FlatPlace) (free : Free) (n : ℕ) (p : FlatPlace) → place_named is_kind ps n ≡ Some p →
        (at : Free) × (found is_kind n (all_housed table start whole free ps) ≡ housed table start whole at p)
    place_found is_kind [] free n p e = nothing e
    place_found is_kind (q ∷ ps) free n p e =
        by (nat_eq q.number n && is_kind q.kind) e (λ f. place_found is_kind ps (behind table start whole free q) n p f)
      where
        by : (b : Bool) → (if b then Some q else place_named is_kind ps n) ≡ Some p →
            (place_named is_kind ps n ≡ Some p →
            (at : Free) × (found is_kind n (all_housed table start whole (behind table start whole free q) ps) ≡ housed table start whole at p)) →
            (at : Free) × ((if b then housed table start whole free q else found is_kind n (all_housed table start whole (behind table start whole free q) ps))
            ≡ housed table start whole at p)
        by true e rest = (free, ap (housed table start whole free) (one e))
        by false e rest = rest e

    module _ (places : List FlatPlace) (free : Free) (stands : ℕ → Bool) where
      abbrev pub homes : List Housed
      homes = all_housed table start whole free places

      abbrev right : Line → Bool
      right line = right_in_flat (known_in table) places stands line

      -- ---- what is filled stands for nothing else

      stands_at : (place : ℕ) → may_stand (known_in table) places stands place ≡ true → stands place ≡ true
      stands_at place h = by (place_named is_declared places place) refl h
        where
          by : (o : Option FlatPlace) → place_named is_declared places place ≡ o → is_stood (known_in table) places stands o ≡ true → stands place ≡ true
          by None e h = never h
          by (Some p) e h =
              subst (λ n. stands n ≡ true) (named_number is_declared places place p e)
              (and_parts (place_hooked (known_in table) (Some p)) (stands p.number) (and_parts (stands_kind p.kind) _ h).1).1

      -- a place to which a line gives a location stands for others
      stood : (lines : List Line) → all_lead (known_in table) places stands lines ≡ true → (n : ℕ) →
          is_among n (standing lines) ≡ true → stands n ≡ true
      stood [] h n among = never among
      stood (L.Own (W.PlaceStands place) from ∷ lines) h n among =
          let q = and_parts (may_stand (known_in table) places stands place) _ h in
          by (nat_eq place n) refl among (stands_at place q.0) (λ a. stood lines q.1 n a)
        where
          by : (b : Bool) → nat_eq place n ≡ b → (b || is_among n (standing lines)) ≡ true → stands place ≡ true →
              (is_among n (standing lines) ≡ true → stands n ≡ true) → stands n ≡ true
          by true same among here rest = subst (λ m. stands m ≡ true) (eqb-true place n same) here
          by false same among here rest = rest among
      stood (line ∷ lines) h n among = stood lines (and_parts (right line) (all_lead (known_in table) places stands lines) h).1 n among

      none_lent : (kind : PlaceKind) (hooked among s : Bool) → fills_kind kind s ≡ true → (among ≡ true → s ≡ true) → lent_by kind hooked among ≡ false
      none_lent (K.Param mode) hooked among s f a = never f
      none_lent K.ForVar false among s f a = refl
      none_lent K.ForVar true false s f a = refl
      none_lent K.ForVar true true s f a = absurd (both_ways s (untrue s f) (a refl))
      none_lent kind hooked among s f a = refl

      filled : ((n : ℕ) → is_among n (standing whole) ≡ true → stands n ≡ true) → (place : ℕ) → may_fill (known_in table) places stands place ≡ true →
          not (found is_own place homes).lent ≡ true
      filled all place h = by (place_named is_own places place) refl h
        where
          by : (o : Option FlatPlace) → place_named is_own places place ≡ o → is_filled (known_in table) places stands o ≡ true →
              not (found is_own place homes).lent ≡ true
          by None e h = never h
          by (Some p) e h =
              let f = place_found is_own places free place p e in
              ap (λ (h : Housed). not h.lent) f.1
              ∙ ap not (none_lent p.kind (is_hooked table p.ty) (is_among p.number (standing whole)) (stands p.number) h (all p.number))

      stood_kind : (kind : PlaceKind) (hooked among : Bool) → stands_kind kind ≡ true → hooked ≡ true → among ≡ true →
          lent_by kind hooked among && not (is_own kind && not (address_by (lent_by kind hooked among) kind)) ≡ true
      stood_kind K.ForVar true true k h a = refl
      stood_kind K.ForVar false among k h a = never h
      stood_kind K.ForVar true false k h a = never a
      stood_kind kind hooked among k h a = never k

      stands_right : (place : ℕ) → is_among place (standing whole) ≡ true → may_stand (known_in table) places stands place ≡ true →
          stands_lent homes place ≡ true
      stands_right place among h = by (place_named is_declared places place) refl h
        where
          by : (o : Option FlatPlace) → place_named is_declared places place ≡ o → is_stood (known_in table) places stands o ≡ true →
              stands_lent homes place ≡ true
          by None e h = never h
          by (Some p) e h =
              let f = place_found is_declared places free place p e in
              let q = and_parts (stands_kind p.kind) _ h in
              ap (λ (h : Housed). h.lent && not (is_own h.kind && not (address_by h.lent h.kind))) f.1
              ∙ stood_kind p.kind (is_hooked table p.ty) (is_among p.number (standing whole)) q.0
              (hooked_number p.ty (and_parts (place_hooked (known_in table) (Some p)) (stands p.number) q.1).0)
              (ap (λ n. is_among n (standing whole)) (named_number is_declared places place p e) ∙ among)

      -- ---- values

      value_right : (t : ℕ) → value_hooked (known_in table) places stands t ≡ true → is_hooked table (found is_value t homes).ty ≡ true
      value_right t h = by (place_named is_value places t) refl h
        where
          by : (o : Option FlatPlace) → place_named is_value places t ≡ o → place_hooked (known_in table) o ≡ true →
              is_hooked table (found is_value t homes).ty ≡ true
          by None e h = never h
          by (Some p) e h = ap (λ (h : Housed). is_hooked table h.ty) (place_found is_value places free t p e).1 ∙ hooked_number p.ty h

      value_there : (t : ℕ) (p : FlatPlace) → place_named is_value places t ≡ Some p → place_hooked (known_in table) (Some p) ≡ false →
          is_hooked table (found is_value t homes).ty ≡ false
      value_there t p e h = ap (λ (h : Housed). is_hooked table h.ty) (place_found is_value places free t p e).1 ∙ unhooked_number p.ty h

      -- ---- hooks that lines call

      called : (what : Owning) (from : List From) → right (L.Own what from) ≡ true → has_hook table (hook_type what) ≡ true
      called (W.TakenUp node) from h = refl
      called (W.Waits node) from h = refl
      called (W.TemporaryEnds node ty) from h = hooked_number ty h
      called (W.PlaceEnds place ty) from h = hooked_number ty h
      called (W.PlaceCopies place ty) from h = hooked_number ty (and_parts _ (may_fill (known_in table) places stands place) h).0
      called (W.PlaceStands place) from h = refl
      called (W.ResultGets place ty) from h =
          hooked_number ty (and_parts _ (may_fill (known_in table) places stands place) h).0

      -- ---- a location that leads into a value that doesn't wait

      some_type : {A : Type 0} (o : Option FlatPlace) (to : Option Ty) → o ≡ None → is_of to (if_type_of (known_in table) o) ≡ true → A
      some_type o to e h = bare to (sym (ap (λ o. is_of to (if_type_of (known_in table) o)) e) ∙ h)
        where
          bare : {A : Type 0} (to : Option Ty) → is_of to None ≡ true → A
          bare None h = never h
          bare (Some ty) h = never h

      -- ---- a location of a part

      part_right : (procs : List Signature) (globals : List FlatPlace) (to from field : ℕ) →
          fits (known_in table) procs globals places (L.Part to from field) ≡ true → not (is_word (entry_at table (found is_location from homes).ty)) ≡ true
      part_right procs globals to from field f = by (place_named is_location places from) refl q.0 (and_parts _ _ q.1).1
        where
          of : Option Ty
          of = location (known_in table) procs globals places to

          q : (is_of of (field_at (kind_if facts (location (known_in table) procs globals places from)) field) ≡ true) ×
              (same_base (known_in table) procs globals places to from && not (is_exception_type (location (known_in table) procs globals places from)) ≡ true)
          q = and_parts _ _ f

          of_kind : (p : FlatPlace) (kind : PlaceKind) → place_named is_location places from ≡ Some p →
              is_of of (field_at (kind_of facts (type_by_kind kind (type_at (types_in table) p.ty))) field) ≡ true →
              not (is_exception_type (Some (type_by_kind kind (type_at (types_in table) p.ty)))) ≡ true →
              not (is_word (entry_at table (found is_location from homes).ty)) ≡ true
          of_kind p K.Counter e h plain = of_none of h
          of_kind p kind e h plain =
              ap (λ (h : Housed). not (is_word (entry_at table h.ty))) (place_found is_location places free from p e).1
              ∙ ap not (has_parts p.ty field of h plain)

          by : (o : Option FlatPlace) → place_named is_location places from ≡ o →
              is_of of (field_at (kind_if facts (if_type_of (known_in table) o)) field) ≡ true →
              not (is_exception_type (if_type_of (known_in table) o)) ≡ true → not (is_word (entry_at table (found is_location from homes).ty)) ≡ true
          by None e h plain = of_none of h
          by (Some p) e h plain = of_kind p p.kind e h plain

      -- it has no hooks
      fresh_bare : (procs : List Signature) (globals : List FlatPlace) (to from : ℕ) → right (L.Fresh to from None) ≡ true →
          fits (known_in table) procs globals places (L.Fresh to from None) ≡ true → not (is_hooked table (found is_value from homes).ty) ≡ true
      fresh_bare procs globals to from h f = by (place_named is_value places from) refl h
        where
          by : (o : Option FlatPlace) → place_named is_value places from ≡ o → not (place_hooked (known_in table) o) ≡ true →
              not (is_hooked table (found is_value from homes).ty) ≡ true
          by None e h = some_type (place_named is_value places from) (location (known_in table) procs globals places to) e (and_parts _ _ f).0
          by (Some p) e h = ap not (value_there from p e (untrue (place_hooked (known_in table) (Some p)) h))

      -- ---- lines

      module _ (procs : List Signature) (globals : List FlatPlace) (lead : all_lead (known_in table) places stands whole ≡ true) where
        abbrev all : (n : ℕ) → is_among n (standing whole) ≡ true → stands n ≡ true
        all = stood whole lead

        one_led : (line : Line) → right line ≡ true → fits (known_in table) procs globals places line ≡ true →
            ((n : ℕ) → is_among n (standing (line ∷ [])) ≡ true → is_among n (standing whole) ≡ true) → leads_right table homes line ≡ true
        one_led (L.Fresh to from None) h f member = fresh_bare procs globals to from h f
        one_led (L.Part to from field) h f member = part_right procs globals to from field f
        one_led (L.Fresh to from (Some node)) h f member = value_right from h
        one_led (L.Fill place from) h f member = filled all place h
        one_led (L.Blank place ty) h f member = filled all place h
        one_led (L.Give place from) h f member = filled all place h
        one_led (L.Own (W.PlaceCopies place ty) from) h f member =
            filled all place (and_parts _ (may_fill (known_in table) places stands place) h).1
        one_led (L.Own (W.ResultGets place ty) from) h f member =
            filled all place (and_parts _ (may_fill (known_in table) places stands place) h).1
        one_led (L.Own (W.PlaceStands place) from) h f member =
            stands_right place (member place (ap (λ b. b || false) (eq-eqb place place refl))) h
        one_led (L.Own (W.Waits node) (F.Value t ∷ [])) h f member = value_right t h
        one_led line h f member = refl

        calls : (line : Line) → right line ≡ true → CallsHook table line
        calls (L.Own what from) h = called what from h
        calls line h = tt

        standing_both : (n : ℕ) (line : Line) (lines : List Line) → is_among n (standing (line ∷ [])) ≡ true → is_among n (standing (line ∷ lines)) ≡ true
        standing_both n (L.Own (W.PlaceStands place) from) lines h = by (nat_eq place n) h
          where
            by : (b : Bool) → b || false ≡ true → b || is_among n (standing lines) ≡ true
            by true h = refl
            by false h = never h
        standing_both n line lines h = never h

        standing_later : (n : ℕ) (line : Line) (lines : List Line) → is_among n (standing lines) ≡ true → is_among n (standing (line ∷ lines)) ≡ true
        standing_later n (L.Own (W.PlaceStands place) from) lines h = or_true (nat_eq place n) h
        standing_later n line lines h = h

        all_led : (lines : List Line) → all_lead (known_in table) places stands lines ≡ true →
            all_fit (known_in table) procs globals places lines ≡ true → ((n : ℕ) → is_among n (standing lines) ≡ true → is_among n (standing whole) ≡ true) →
            AreLed table homes lines
        all_led [] h f member = tt
        all_led (line ∷ lines) h f member =
            let q = and_parts (right line) (all_lead (known_in table) places stands lines) h in
            let k = and_parts (fits (known_in table) procs globals places line) (all_fit (known_in table) procs globals places lines) f in (
              one_led line q.0 k.0 (λ n a. member n (standing_both n line lines a)),
              calls line q.0,
              all_led lines q.1 k.1 (λ n a. member n (standing_later n line lines a)),
            )

        pub led : all_fit (known_in table) procs globals places whole ≡ true → AreLed table homes whole
        led f = all_led whole lead f (λ n a. a)
