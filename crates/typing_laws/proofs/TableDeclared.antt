-- The types of a table are declared, where what is said of them is sound.
use Rattle.std.proofs.Common.{◌≡◌, ℕ, suc, ◌<◌, Bool, true, false, List, [], ◌∷◌, length, Option, Some, None, refl, sym, ap, subst}
use Rattle.std.proofs.Common.{◌∙◌, arith}
use Rattle.std.specs.Prelude.{◌||◌, slice_get}
use Rattle.nim_types.specs.declared.types.TypeDef.{TypeDef}
use Rattle.nim_types.specs.declared.types.TypeDef.TheVariants as D
use Rattle.nim_types.specs.Types as type
use Rattle.nim_types.specs.Types.{Ty, Fact, Facts, fact_of, same}
use Rattle.nim_types.specs.Forms as form
use Rattle.nim_types.specs.Forms.{Form, HasForm}
use Rattle.nim_types.specs.Table.{type_at, types_in, facts_in, meant, said_of, IsTable}
use Rattle.nim_types.specs.Entries.{meant_at, said_at}
use Rattle.nim_types.proofs.ForCallers.{same_refl, count, entry_type, entry_said}
use Rattle.nim_program.specs.Kinds.{is_among_types, is_declared_as, are_declared, kind_of, declared_kind}
use Rattle.nim_program.specs.Sizes.{HaveForms}
use Rattle.typing_laws.specs.Sound.{AreSound}
use Rattle.typing_laws.proofs.Tests.{both, never, the_same}

-- what is among types has a number there
pub among_number : (ts : List Ty) (ty : Ty) → is_among_types ts ty ≡ true → (i : ℕ) × (i < length ts) × (type_at ts i ≡ ty)
among_number [] ty h = never h
among_number (t ∷ ts) ty h = by_test (same ty t) refl h (λ h. among_number ts ty h)
  where
    by_test : (b : Bool) → same ty t ≡ b → (b || is_among_types ts ty) ≡ true
        → (is_among_types ts ty ≡ true → (i : ℕ) × (i < length ts) × (type_at ts i ≡ ty)) → (i : ℕ) × (i < suc (length ts)) × (type_at (t ∷ ts) i ≡ ty)
    by_test true e h go = (0, omega arith, sym (the_same {s = ty} {t = t} e))
    by_test false e h go = let r = go h in (suc r.0, omega (arith, r.1), r.2)

pub all_declared : (facts : Facts) (ts : List Ty) → ((ty : Ty) → is_among_types ts ty ≡ true → is_declared_as ty (kind_of facts ty) ≡ true)
    → are_declared facts ts ≡ true
all_declared facts [] each = refl
all_declared facts (t ∷ ts) each =
    both (each t (first (same t t) (same_refl t))) (all_declared facts ts (λ ty h. each ty (behind (same ty t) (is_among_types ts ty) h)))
  where
    first : (b : Bool) → b ≡ true → (b || is_among_types ts t) ≡ true
    first true e = refl
    first false e = never e

    behind : (b c : Bool) → c ≡ true → (b || c) ≡ true
    behind true c e = refl
    behind false c e = e

module _ (ds : List TypeDef) (table : IsTable ds) (forms : HaveForms ds) (sound : AreSound (facts_in ds)) where
  abbrev facts : Facts
  facts = facts_in ds

  abbrev Declared : Ty → Type 0
  Declared ty = is_declared_as ty (kind_of facts ty) ≡ true

  object_declared : (key : type.Key) (ts : type.Tys) (f : Form) → HasForm facts (type.object key ts) f → Declared (type.object key ts)
  object_declared key ts f (form.of_object e h) = ap (λ o. is_declared_as (type.object key ts) (declared_kind o)) e

  enum_declared : (key : type.Key) (all : List (List ℕ)) → fact_of facts (type.enum key) ≡ Some (type.members all) → Declared (type.enum key)
  enum_declared key [] e = never (sound.said (type.enum key) (type.members []) e)
  enum_declared key (first ∷ rest) e = ap (λ o. is_declared_as (type.enum key) (declared_kind o)) e

  entry_declared : (d : TypeDef) (f : Form) → HasForm facts (meant (types_in ds) d) f → fact_of facts (meant (types_in ds) d) ≡ said_of (types_in ds) d
      → Declared (meant (types_in ds) d)
  entry_declared D.Int f h e = refl
  entry_declared D.Bool f h e = refl
  entry_declared D.Char f h e = refl
  entry_declared D.Text f h e = refl
  entry_declared (D.Seq i) f h e = refl
  entry_declared (D.Param n) f h e = refl
  entry_declared (D.Enum name at all) f h e = enum_declared (record { name = name; at = at }) all e
  entry_declared (D.Array n i) f h e = refl
  entry_declared (D.Tuple names is) f h e = refl
  entry_declared (D.Object name at is all own_hooks parts) f h e = object_declared _ _ f h
  entry_declared (D.Distinct name at i) f h e = ap (λ o. is_declared_as (type.distinct (record { name = name; at = at })) (declared_kind o)) e
  entry_declared (D.Ref name i) f h e = refl
  entry_declared (D.Exception name at parent) f h e = never (sound.said (type.exception (record { name = name; at = at })) _ e)

  at_declared : (o : Option TypeDef) (f : Form) → HasForm facts (meant_at (types_in ds) o) f
      → fact_of facts (meant_at (types_in ds) o) ≡ said_at (types_in ds) o → Declared (meant_at (types_in ds) o)
  at_declared None f h e = refl
  at_declared (Some d) f h e = entry_declared d f h e

  pub table_declared : are_declared facts (types_in ds) ≡ true
  table_declared = all_declared facts (types_in ds) each
    where
      each : (ty : Ty) → is_among_types (types_in ds) ty ≡ true → is_declared_as ty (kind_of (facts_in ds) ty) ≡ true
      each ty h =
          let r = among_number (types_in ds) ty h in
          let f = forms r.0 (subst (λ n. r.0 < n) (count ds) r.1) in
          let t = entry_type ds table r.0 in
          subst (λ ty. is_declared_as ty (kind_of (facts_in ds) ty) ≡ true) (sym t ∙ r.2)
          (at_declared (slice_get ds r.0) f.0 (subst (λ ty. HasForm (facts_in ds) ty f.0) t f.1) (entry_said ds table r.0))

  pub table_forms : (ty : Ty) → is_among_types (types_in ds) ty ≡ true → (f : Form) × HasForm facts ty f
  table_forms ty h =
      let r = among_number (types_in ds) ty h in
      subst (λ ty. (f : Form) × HasForm (facts_in ds) ty f) r.2 (forms r.0 (subst (λ n. r.0 < n) (count ds) r.1))
