-- What the shape of a type is by the kind of the type, where it has a form.
use Rattle.std.proofs.Common.{◌≡◌, ℕ, zero, suc, true, length, Option, Some, None, refl, sym, ap, ◌∙◌, subst}
use Rattle.std.proofs.lemmas.Bool.{both_ways}
use Rattle.nim_types.specs.Types as type
use Rattle.nim_types.specs.Types.{Ty, Tys, no_types, types, Key, Fact, members, fields, base, below, Facts, fact_of, base_in}
use Rattle.nim_types.specs.Forms.{Form, Forms, HasForm, of_int, of_bool, of_char, of_text, of_sequence, of_any_sequence, of_array, of_tuple}
use Rattle.nim_types.specs.Forms.{of_parameter}
use Rattle.nim_types.specs.Forms.{of_enum, of_object, of_distinct, of_ref, of_exception, AreForms, none_of, more_of, object_form, wrapped}
use Rattle.nim_program.specs.Kinds as kind
use Rattle.nim_program.specs.Kinds.{TypeKind, kind_of, declared_kind, base_or, below_distinct, plain_kind}
use Rattle.flat_code.specs.Shapes.{Shape, number, reference, block, elements, row, parts, Shapes, shapes_in, object_shape, shape_by, shape_within, shape_of}
use Rattle.flat_code.proofs.ShapeDepths.{AreSorted, object_said, distinct_said, enum_said}

none_some : {A : Type 0} {x : A} {B : Type 0} → None ≡ Some x → B
none_some e = cc

some_same : {A : Type 0} {x y : A} → Some x ≡ Some y → x ≡ y
some_same e = cc

module _ (facts : Facts) where
  abbrev pub shapes_of : Tys → Shapes
  shapes_of ts = shapes_in (shape_within (length facts) facts) ts

  abbrev pub Matches : TypeKind → Shape → Type 0
  Matches kind.int s = s ≡ number None
  Matches kind.bool s = s ≡ number (Some 2)
  Matches kind.char s = s ≡ number (Some 256)
  Matches kind.text s = s ≡ block
  Matches (kind.enum n) s = s ≡ number (Some n)
  Matches (kind.sequence t) s = s ≡ elements (shape_of facts t)
  Matches (kind.array n t) s = s ≡ row n (shape_of facts t)
  Matches (kind.tuple ts) s = s ≡ parts (shapes_of ts)
  Matches (kind.object own_hooks ts) s = s ≡ object_shape own_hooks (shapes_of ts)
  Matches (kind.distinct t) s = s ≡ shape_of facts t
  Matches (kind.ref t) s = s ≡ reference
  Matches kind.exception s = s ≡ number None
  Matches kind.parameter s = s ≡ number None
  Matches kind.other s = Unit {0}

  -- its parts have forms too
  abbrev pub AllHave : Tys → Type 0
  AllHave no_types = Unit {0}
  AllHave (types t ts) = ((f : Form) × HasForm facts t f) × AllHave ts

  abbrev pub PartsHave : TypeKind → Type 0
  PartsHave (kind.sequence t) = (f : Form) × HasForm facts t f
  PartsHave (kind.array n t) = (f : Form) × HasForm facts t f
  PartsHave (kind.tuple ts) = AllHave ts
  PartsHave (kind.object own_hooks ts) = AllHave ts
  PartsHave (kind.distinct t) = (f : Form) × HasForm facts t f
  PartsHave k = Unit {0}

  pub record Shaped (k : TypeKind) (s : Shape) : Type 0 where
    pub matches : Matches k s
    pub parts_have : PartsHave k

  all_have : {ts : Tys} {fs : Forms} → AreForms true facts ts fs → AllHave ts
  all_have none_of = tt
  all_have (more_of {f = f} a s) = ((f, a), all_have s)

  module _ (sorted : AreSorted facts) where
    enum_shaped : (key : Key) (o : Option Fact) → fact_of facts (type.enum key) ≡ o → Shaped (declared_kind o) (shape_of facts (type.enum key))
    enum_shaped key None e = record { matches = tt; parts_have = tt }
    enum_shaped key (Some (members names)) e =
        record { matches = enum_said facts sorted key ∙ ap (shape_by (shape_within (length facts) facts)) e; parts_have = tt }
    enum_shaped key (Some (fields all own_hooks)) e = absurd (sorted (type.enum key) (fields all own_hooks) e)
    enum_shaped key (Some (base t)) e = absurd (sorted (type.enum key) (base t) e)
    enum_shaped key (Some (below parent)) e = absurd (sorted (type.enum key) (below parent) e)

    exception_shaped : (key : Key) (o : Option Fact) → fact_of facts (type.exception key) ≡ o → Shaped (declared_kind o) (number None)
    exception_shaped key None e = record { matches = tt; parts_have = tt }
    exception_shaped key (Some (members names)) e = absurd (sorted (type.exception key) (members names) e)
    exception_shaped key (Some (fields all own_hooks)) e = absurd (sorted (type.exception key) (fields all own_hooks) e)
    exception_shaped key (Some (base t)) e = absurd (sorted (type.exception key) (base t) e)
    exception_shaped key (Some (below parent)) e = record { matches = refl; parts_have = tt }

    pub shaped : {ty : Ty} {f : Form} → HasForm facts ty f → Shaped (kind_of facts ty) (shape_of facts ty)
    shaped of_int = record { matches = refl; parts_have = tt }
    shaped of_bool = record { matches = refl; parts_have = tt }
    shaped of_char = record { matches = refl; parts_have = tt }
    shaped of_text = record { matches = refl; parts_have = tt }
    shaped (of_sequence {f = f} d a) = record { matches = refl; parts_have = (f, a) }
    shaped (of_any_sequence d) = absurd (both_ways true d refl)
    shaped (of_array {f = f} a) = record { matches = refl; parts_have = (f, a) }
    shaped (of_tuple a) = record { matches = refl; parts_have = all_have a }
    shaped of_parameter = record { matches = refl; parts_have = tt }
    shaped (of_enum {key}) = enum_shaped key (fact_of facts (type.enum key)) refl
    shaped (of_object {key} {arguments} {all} {own_hooks} {fs} e a) =
        subst (λ o. Shaped (declared_kind o) (shape_of facts (type.object key arguments))) (sym e) (record {
          matches = object_said facts sorted key arguments (object_form own_hooks fs) (of_object e a)
              ∙ ap (shape_by (shape_within (length facts) facts)) e;
          parts_have = all_have a;
        })
    shaped (of_distinct {key} {t} {f} e a) =
        subst (λ o. Shaped (declared_kind o) (shape_of facts (type.distinct key))) (sym e) (record {
          matches = distinct_said facts sorted key (wrapped f) (of_distinct e a) ∙ ap (shape_by (shape_within (length facts) facts)) e;
          parts_have = (f, a);
        })
    shaped of_ref = record { matches = refl; parts_have = tt }
    shaped (of_exception {key}) = exception_shaped key (fact_of facts (type.exception key)) refl

    -- ---- distinct types looked through

    pub record IsBelow (u ty : Ty) : Type 0 where
      pub form : Form
      pub has : HasForm facts u form
      pub shape : shape_of facts u ≡ shape_of facts ty

    -- what a distinct type is of
    base_of : (ty t : Ty) (f : Form) → HasForm facts ty f → fact_of facts ty ≡ Some (base t) → IsBelow t ty
    base_of ty t f of_int e = absurd (sorted type.int (base t) e)
    base_of ty t f of_bool e = absurd (sorted type.bool (base t) e)
    base_of ty t f of_char e = absurd (sorted type.char (base t) e)
    base_of ty t f of_text e = absurd (sorted type.text (base t) e)
    base_of ty t f (of_sequence {t = u} d a) e = absurd (sorted (type.sequence u) (base t) e)
    base_of ty t f (of_any_sequence {t = u} d) e = absurd (sorted (type.sequence u) (base t) e)
    base_of ty t f (of_array {n} {t = u} a) e = absurd (sorted (type.array n u) (base t) e)
    base_of ty t f (of_tuple {names} {ts} a) e = absurd (sorted (type.tuple names ts) (base t) e)
    base_of ty t f (of_parameter {n}) e = absurd (sorted (type.parameter n) (base t) e)
    base_of ty t f (of_enum {key}) e = absurd (sorted (type.enum key) (base t) e)
    base_of ty t f (of_object {key} {arguments} d a) e = absurd (sorted (type.object key arguments) (base t) e)
    base_of ty t f (of_distinct {key} {t = u} {f = g} d a) e =
        let same : u ≡ t = base_same (some_same (sym d ∙ e)) in
        record {
          form = g;
          has = subst (λ (v : Ty). HasForm facts v g) same a;
          shape = sym (distinct_said facts sorted key (wrapped g) (of_distinct d a) ∙ ap (shape_by (shape_within (length facts) facts)) e);
        }
      where
        base_same : {u t : Ty} → base u ≡ base t → u ≡ t
        base_same e = cc
    base_of ty t f (of_ref {name} {t = u}) e = absurd (sorted (type.ref name u) (base t) e)
    base_of ty t f (of_exception {key}) e = absurd (sorted (type.exception key) (base t) e)

    below_it : (n : ℕ) (ty : Ty) (f : Form) → HasForm facts ty f → IsBelow (below_distinct n facts ty) ty
    below_it zero ty f h = record { form = f; has = h; shape = refl }
    below_it (suc n) ty f h = at (fact_of facts ty) refl (below_it n)
      where
        here : IsBelow ty ty
        here = record { form = f; has = h; shape = refl }

        at : (o : Option Fact) → fact_of facts ty ≡ o → ((t : Ty) (g : Form) → HasForm facts t g → IsBelow (below_distinct n facts t) t) →
            IsBelow (base_or (below_distinct n facts) ty (base_in o)) ty
        at None e rest = here
        at (Some (members names)) e rest = here
        at (Some (fields all own_hooks)) e rest = here
        at (Some (base t)) e rest =
            let b = base_of ty t f h e in
            let r = rest t b.form b.has in
            record { form = r.form; has = r.has; shape = r.shape ∙ b.shape }
        at (Some (below parent)) e rest = here

    pub plain_shaped : {ty : Ty} {f : Form} → HasForm facts ty f → Shaped (plain_kind facts ty) (shape_of facts ty)
    plain_shaped {ty} {f} h =
        let b = below_it (length facts) ty f h in subst (λ s. Shaped (plain_kind facts ty) s) b.shape (shaped b.has)
