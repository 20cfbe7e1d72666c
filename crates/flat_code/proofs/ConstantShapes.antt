-- A constant of a type is a value of its shape, and its pieces are those of that value.
use Rattle.std.proofs.Common.{◌≡◌, ℕ, zero, suc, ◌+◌, Bool, true, false, List, [], ◌∷◌, ◌++◌, length, Option, Some, None, refl, sym, ap, ap₂, ◌∙◌, subst}
use Rattle.std.proofs.Common.{arith}
use Rattle.std.specs.Prelude.{◌&&◌, ◌||◌, ℤ, pos}
use Rattle.std.specs.Ordering.{int_eq}
use Rattle.std.proofs.lemmas.Bool.{both_ways, and_parts, and_from, eqb-true, eq-eqb}
use Rattle.std.proofs.lemmas.Int.{ints}
use Rattle.std.proofs.lemmas.Cmp.{int_eq_equiv, nat_list_eq_equiv}
use Rattle.std.proofs.lemmas.Slice.Eq.{bytes_eq-Decides}
use Rattle.nim_types.specs.Types as type
use Rattle.nim_types.specs.Types.{Ty, Tys, no_types, types, Key, Fact, members, fields, base, below, Facts, fact_of}
use Rattle.nim_types.specs.Forms as form
use Rattle.nim_types.specs.Forms.{Form, Forms, HasForm, of_int, of_bool, of_char, of_text, of_sequence, of_any_sequence, of_array, of_tuple}
use Rattle.nim_types.specs.Forms.{of_parameter}
use Rattle.nim_types.specs.Forms.{of_enum, of_object, of_distinct, of_ref, of_exception, AreForms, none_of, more_of, object_form, wrapped, types_of}
use Rattle.nim_types.specs.Forms.{hooked, hooked_any, has_resource, has_resource_any}
use Rattle.nim_program.specs.Ints.{fits}
use Rattle.nim_program.specs.Kinds as kind
use Rattle.nim_program.specs.Kinds.{TypeKind, plain_kind, is_value, is_text, is_ref, is_sequence, part_at, nth_type, count_types}
use Rattle.nim_program.specs.Kinds.{has_parts, for_some}
use Rattle.nim_program.specs.Kinds.{count_literals, is_constant, are_constants}
use Rattle.nim_program.specs.Program.{Literal, Number as Ordinal, Characters, NoObject, PartsOf, ElementsOf, Literals, NoLiteral, ALiteral}
use Rattle.nim_meaning.specs.Values.{Number, Parts, Fixed, Ref, count, literal_value, literal_values}
use Rattle.flat_code.specs.declared.line.Piece.{Piece}
use Rattle.flat_code.specs.declared.line.Piece.TheVariants as P
use Rattle.flat_code.specs.Pieces.{value_of, count_of, pieces_of, pieces_of_all}
use Rattle.flat_code.specs.PieceShapes.{pieces_by, each_by, all_by, same_piece, same_pieces, has_pieces}
use Rattle.flat_code.specs.Shapes.{Shape, number, reference, block, elements, row, parts, resource, Shapes, no_shapes, shapes, object_shape, shape_by}
use Rattle.flat_code.specs.Shapes.{shape_within, shape_of, has_shape, are_all, are_rows}
use Rattle.flat_code.specs.Shapes.{have_shapes}
use Rattle.flat_code.proofs.ShapeDepths.{AreSorted, object_said, distinct_said, enum_said}
use Rattle.flat_code.proofs.ShapeKinds.{shapes_of, Matches, AllHave, PartsHave, plain_shaped}

pub never : {A : Type 0} → false ≡ true → A
never e = absurd (both_ways false refl e)

-- nothing in it is owned
abbrev mutual
  pub is_free : Shape → Bool
  is_free (number values) = true
  is_free reference = false
  is_free block = false
  is_free (elements s) = false
  is_free (row zero s) = true
  is_free (row (suc n) s) = is_free s
  is_free (parts ss) = are_free ss
  is_free (resource ss) = false

  pub are_free : Shapes → Bool
  are_free no_shapes = true
  are_free (shapes s ss) = is_free s && are_free ss

-- no object in it has hooks of its own
abbrev mutual
  pub is_simple : Shape → Bool
  is_simple (number values) = true
  is_simple reference = true
  is_simple block = true
  is_simple (elements s) = is_simple s
  is_simple (row zero s) = true
  is_simple (row (suc n) s) = is_simple s
  is_simple (parts ss) = are_simple ss
  is_simple (resource ss) = false

  pub are_simple : Shapes → Bool
  are_simple no_shapes = true
  are_simple (shapes s ss) = is_simple s && are_simple ss

-- ---- pieces

same_refl : (pieces : List Piece) → same_pieces pieces pieces ≡ true
same_refl [] = refl
same_refl (P.Ordinal z ∷ pieces) = and_from _ _ (int_eq_equiv.refl z) (same_refl pieces)
same_refl (P.Text text ∷ pieces) = and_from _ _ (nat_list_eq_equiv.refl text) (same_refl pieces)
same_refl (P.Nil ∷ pieces) = same_refl pieces
same_refl (P.Parts n ∷ pieces) = and_from _ _ (eq-eqb n n refl) (same_refl pieces)
same_refl (P.Elements n ∷ pieces) = and_from _ _ (eq-eqb n n refl) (same_refl pieces)

same_int : (z w : ℤ) → int_eq z w ≡ true → z ≡ w
same_int z w h = grind (arith, ints)

piece_is : (p q : Piece) → same_piece p q ≡ true → p ≡ q
piece_is (P.Ordinal z) (P.Ordinal w) h = ap P.Ordinal (same_int z w h)
piece_is (P.Text text) (P.Text other) h = ap P.Text ((bytes_eq-Decides text other).0 h)
piece_is P.Nil P.Nil h = refl
piece_is (P.Parts n) (P.Parts m) h = ap P.Parts (eqb-true n m h)
piece_is (P.Elements n) (P.Elements m) h = ap P.Elements (eqb-true n m h)
piece_is p q h = never h

pub pieces_are : (ps qs : List Piece) → same_pieces ps qs ≡ true → ps ≡ qs
pieces_are [] [] h = refl
pieces_are [] (q ∷ qs) h = never h
pieces_are (p ∷ ps) [] h = never h
pieces_are (p ∷ ps) (q ∷ qs) h =
    let a = and_parts (same_piece p q) (same_pieces ps qs) h in ap₂ (λ x xs. x ∷ xs) (piece_is p q a.0) (pieces_are ps qs a.1)

-- a value of a shape, and its pieces
abbrev pub IsOf : Literal → Shape → Type 0
IsOf l s = (has_shape (literal_value l) s ≡ true) × (pieces_of l ≡ pieces_by (literal_value l) s)

counted : (all : Literals) → count_of all ≡ count (literal_values all)
counted NoLiteral = refl
counted (ALiteral first rest) = ap suc (counted rest)

-- of each element or part
abbrev AreEach : Literals → Shape → Type 0
AreEach all s = (are_all (literal_values all) s ≡ true) × (pieces_of_all all ≡ each_by (literal_values all) s)

abbrev AreRows : Literals → ℕ → Shape → Type 0
AreRows all n s = (are_rows (literal_values all) n s ≡ true) × (pieces_of_all all ≡ each_by (literal_values all) s)

abbrev AreParts : Literals → Shapes → Type 0
AreParts all ss = (have_shapes (literal_values all) ss ≡ true) × (pieces_of_all all ≡ all_by (literal_values all) ss)

whole_of : (all : Literals) (s t : Shape) (each : List Piece) → s ≡ t → has_shape (Parts (literal_values all)) t ≡ true →
    pieces_by (Parts (literal_values all)) t ≡ each ++ P.Parts (count (literal_values all)) ∷ [] → pieces_of_all all ≡ each → IsOf (PartsOf all) s
whole_of all s t each m has by pieces = (
  ap (has_shape (Parts (literal_values all))) m ∙ has,
  ap₂ (λ ps n. ps ++ P.Parts n ∷ []) pieces (counted all) ∙ sym (ap (pieces_by (Parts (literal_values all))) m ∙ by),
)

-- so they are what a line's pieces have to be
pub pieces_fit : (l : Literal) (s : Shape) → value_of (pieces_of l) ≡ literal_value l → IsOf l s → has_pieces s (pieces_of l) ≡ true
pieces_fit l s value h =
    and_from _ _ (ap (λ v. has_shape v s) value ∙ h.0)
    (ap (same_pieces (pieces_of l)) (ap (λ v. pieces_by v s) value ∙ sym h.1) ∙ same_refl (pieces_of l))

module _ (facts : Facts) (sorted : AreSorted facts) where
  -- ---- types without hooks

  no_hook : (a b : Bool) → a || b ≡ false → (a ≡ false) × (b ≡ false)
  no_hook true b h = never (sym h)
  no_hook false b h = (refl, h)

  row_free : (n : ℕ) (s : Shape) (b : Bool) → form.of_some n b ≡ false → (b ≡ false → is_free s ≡ true) → is_free (row n s) ≡ true
  row_free zero s b h go = refl
  row_free (suc n) s b h go = go h

  enum_free : (key : Key) (o : Option Fact) → fact_of facts (type.enum key) ≡ o → is_free (shape_of facts (type.enum key)) ≡ true
  enum_free key None e = ap is_free (enum_said facts sorted key ∙ ap (shape_by (shape_within (length facts) facts)) e)
  enum_free key (Some (members names)) e = ap is_free (enum_said facts sorted key ∙ ap (shape_by (shape_within (length facts) facts)) e)
  enum_free key (Some (fields all own_hooks)) e = absurd (sorted (type.enum key) (fields all own_hooks) e)
  enum_free key (Some (base t)) e = absurd (sorted (type.enum key) (base t) e)
  enum_free key (Some (below parent)) e = absurd (sorted (type.enum key) (below parent) e)

  object_free : (own_hooks : Bool) (fs : Forms) (ss : Shapes) → hooked (object_form own_hooks fs) ≡ false → (hooked_any fs ≡ false → are_free ss ≡ true) →
      is_free (object_shape own_hooks ss) ≡ true
  object_free true fs ss h go = never (sym h)
  object_free false fs ss h go = go h

  mutual
    pub free_of : {ty : Ty} {f : Form} → HasForm facts ty f → hooked f ≡ false → is_free (shape_of facts ty) ≡ true
    free_of of_int h = refl
    free_of of_bool h = refl
    free_of of_char h = refl
    free_of of_text h = never (sym h)
    free_of (of_sequence d a) h = never (sym h)
    free_of (of_any_sequence d) h = never (sym h)
    free_of (of_array {n} {t} {f} a) h = row_free n (shape_of facts t) (hooked f) h (λ u. free_of a u)
    free_of (of_tuple a) h = all_free a h
    free_of of_parameter h = refl
    free_of (of_enum {key}) h = enum_free key (fact_of facts (type.enum key)) refl
    free_of (of_object {key} {arguments} {all} {own_hooks} {fs} e a) h =
        ap is_free (object_said facts sorted key arguments (object_form own_hooks fs) (of_object e a) ∙ ap (shape_by (shape_within (length facts) facts)) e)
        ∙ object_free own_hooks fs (shapes_of facts (types_of all)) h (λ u. all_free a u)
    free_of (of_distinct {key} {t} {f} e a) h =
        ap is_free (distinct_said facts sorted key (wrapped f) (of_distinct e a) ∙ ap (shape_by (shape_within (length facts) facts)) e) ∙ free_of a h
    free_of of_ref h = never (sym h)
    free_of of_exception h = refl

    all_free : {ts : Tys} {fs : Forms} → AreForms true facts ts fs → hooked_any fs ≡ false → are_free (shapes_of facts ts) ≡ true
    all_free none_of h = refl
    all_free (more_of {f = f} {fs = fs} a s) h = let q = no_hook (hooked f) (hooked_any fs) h in and_from _ _ (free_of a q.0) (all_free s q.1)

  -- ---- types without objects that have hooks of their own

  row_simple : (n : ℕ) (s : Shape) (b : Bool) → form.of_some n b ≡ false → (b ≡ false → is_simple s ≡ true) → is_simple (row n s) ≡ true
  row_simple zero s b h go = refl
  row_simple (suc n) s b h go = go h

  enum_simple : (key : Key) (o : Option Fact) → fact_of facts (type.enum key) ≡ o → is_simple (shape_of facts (type.enum key)) ≡ true
  enum_simple key None e = ap is_simple (enum_said facts sorted key ∙ ap (shape_by (shape_within (length facts) facts)) e)
  enum_simple key (Some (members names)) e = ap is_simple (enum_said facts sorted key ∙ ap (shape_by (shape_within (length facts) facts)) e)
  enum_simple key (Some (fields all own_hooks)) e = absurd (sorted (type.enum key) (fields all own_hooks) e)
  enum_simple key (Some (base t)) e = absurd (sorted (type.enum key) (base t) e)
  enum_simple key (Some (below parent)) e = absurd (sorted (type.enum key) (below parent) e)

  object_simple : (own_hooks : Bool) (fs : Forms) (ss : Shapes) → has_resource (object_form own_hooks fs) ≡ false →
      (has_resource_any fs ≡ false → are_simple ss ≡ true) → is_simple (object_shape own_hooks ss) ≡ true
  object_simple true fs ss h go = never (sym h)
  object_simple false fs ss h go = go h

  mutual
    pub simple_of : {ty : Ty} {f : Form} → HasForm facts ty f → has_resource f ≡ false → is_simple (shape_of facts ty) ≡ true
    simple_of of_int h = refl
    simple_of of_bool h = refl
    simple_of of_char h = refl
    simple_of of_text h = refl
    simple_of (of_sequence d a) h = simple_of a h
    simple_of (of_any_sequence d) h = absurd (both_ways true d refl)
    simple_of (of_array {n} {t} {f} a) h = row_simple n (shape_of facts t) (has_resource f) h (λ u. simple_of a u)
    simple_of (of_tuple a) h = all_simple a h
    simple_of of_parameter h = refl
    simple_of (of_enum {key}) h = enum_simple key (fact_of facts (type.enum key)) refl
    simple_of (of_object {key} {arguments} {all} {own_hooks} {fs} e a) h =
        ap is_simple (object_said facts sorted key arguments (object_form own_hooks fs) (of_object e a) ∙ ap (shape_by (shape_within (length facts) facts)) e)
        ∙ object_simple own_hooks fs (shapes_of facts (types_of all)) h (λ u. all_simple a u)
    simple_of (of_distinct {key} {t} {f} e a) h =
        ap is_simple (distinct_said facts sorted key (wrapped f) (of_distinct e a) ∙ ap (shape_by (shape_within (length facts) facts)) e) ∙ simple_of a h
    simple_of of_ref h = refl
    simple_of of_exception h = refl

    all_simple : {ts : Tys} {fs : Forms} → AreForms true facts ts fs → has_resource_any fs ≡ false → are_simple (shapes_of facts ts) ≡ true
    all_simple none_of h = refl
    all_simple (more_of {f = f} {fs = fs} a s) h =
        let q = no_hook (has_resource f) (has_resource_any fs) h in and_from _ _ (simple_of a q.0) (all_simple s q.1)

  -- ---- constants

  number_right : (k : TypeKind) (s : Shape) (z : ℤ) → Matches facts k s → is_value k z ≡ true → has_shape (Number z) s ≡ true
  number_right kind.int s z m h = ap (has_shape (Number z)) m ∙ (and_parts (fits z) true h).0
  number_right kind.bool s z m h = ap (has_shape (Number z)) m ∙ h
  number_right kind.char s z m h = ap (has_shape (Number z)) m ∙ h
  number_right (kind.enum n) s z m h = ap (has_shape (Number z)) m ∙ h
  number_right k s z m h = never (and_parts (fits z) false h).1

  text_right : (k : TypeKind) (s : Shape) (bytes : List ℕ) → Matches facts k s → is_text k ≡ true → has_shape (Fixed bytes) s ≡ true
  text_right kind.text s bytes m h = ap (has_shape (Fixed bytes)) m
  text_right k s bytes m h = never h

  nil_right : (k : TypeKind) (s : Shape) → Matches facts k s → is_ref k ≡ true → has_shape (Ref None) s ≡ true
  nil_right (kind.ref t) s m h = ap (has_shape (Ref None)) m
  nil_right k s m h = never h

  -- the elements of a sequence, however many
  elements_right : (all : Literals) →
      ((t : Ty) (f : Form) → HasForm facts t f → (i : ℕ) → is_simple (shape_of facts t) ≡ true → are_constants facts (kind.sequence t) i all ≡ true →
      AreEach all (shape_of facts t)) →
      (k : TypeKind) (s : Shape) → Matches facts k s → PartsHave facts k → is_simple s ≡ true → is_sequence k ≡ true → are_constants facts k 0 all ≡ true →
      IsOf (ElementsOf all) s
  elements_right all each (kind.sequence t) s m p simple is h =
      let e = each t p.0 p.1 0 (sym (ap is_simple m) ∙ simple) h in (
        ap (has_shape (Parts (literal_values all))) m ∙ e.0,
        ap₂ (λ ps n. ps ++ P.Elements n ∷ []) e.1 (counted all) ∙ sym (ap (pieces_by (Parts (literal_values all))) m),
      )
  elements_right all each k s m p simple is h = never is

  at_part : (o : Option Ty) (t : Ty) (l : Literal) → o ≡ Some t → for_some o (λ ty. is_constant facts ty l) ≡ true → is_constant facts t l ≡ true
  at_part None t l e h = never h
  at_part (Some u) t l e h = subst (λ t. is_constant facts t l ≡ true) (some_it e) h
    where
      some_it : Some u ≡ Some t → u ≡ t
      some_it e = cc

  zero_behind : (j : ℕ) → j + 0 ≡ j
  zero_behind j = omega arith

  -- parts, by what holds of rows and of fields
  parts_right : (all : Literals) →
      ((t : Ty) (f : Form) → HasForm facts t f → (i m n : ℕ) → n ≡ count_literals all → is_simple (row n (shape_of facts t)) ≡ true →
      are_constants facts (kind.array m t) i all ≡ true → AreRows all n (shape_of facts t)) →
      ((k : TypeKind) (i : ℕ) (ts : Tys) → ((j : ℕ) → part_at k (j + i) ≡ nth_type ts j) → AllHave facts ts → are_simple (shapes_of facts ts) ≡ true →
      count_types ts ≡ count_literals all → are_constants facts k i all ≡ true → AreParts all (shapes_of facts ts)) →
      (k : TypeKind) (s : Shape) → Matches facts k s → PartsHave facts k → is_simple s ≡ true → has_parts k (count_literals all) ≡ true →
      are_constants facts k 0 all ≡ true → IsOf (PartsOf all) s
  parts_right all rows parts_of (kind.array n t) s m p simple count h =
      let r = rows t p.0 p.1 0 n n (eqb-true n (count_literals all) count) (sym (ap is_simple m) ∙ simple) h in
      whole_of all s (row n (shape_of facts t)) (each_by (literal_values all) (shape_of facts t)) m r.0 refl r.1
  parts_right all rows parts_of (kind.tuple ts) s m p simple count h =
      let r = parts_of (kind.tuple ts) 0 ts (λ j. ap (nth_type ts) (zero_behind j)) p (sym (ap is_simple m) ∙ simple)
      (eqb-true (count_types ts) (count_literals all) count) h in
      whole_of all s (parts (shapes_of facts ts)) (all_by (literal_values all) (shapes_of facts ts)) m r.0 refl r.1
  parts_right all rows parts_of (kind.object true ts) s m p simple count h = never (sym (ap is_simple m) ∙ simple)
  parts_right all rows parts_of (kind.object false ts) s m p simple count h =
      let r = parts_of (kind.object false ts) 0 ts (λ j. ap (nth_type ts) (zero_behind j)) p (sym (ap is_simple m) ∙ simple)
      (eqb-true (count_types ts) (count_literals all) count) h in
      whole_of all s (parts (shapes_of facts ts)) (all_by (literal_values all) (shapes_of facts ts)) m r.0 refl r.1
  parts_right all rows parts_of k s m p simple count h = never count

  -- a row has one that is simple where it has any
  one_simple : (n : ℕ) (s : Shape) → is_simple (row (suc n) s) ≡ true → is_simple (row n s) ≡ true
  one_simple zero s h = refl
  one_simple (suc n) s h = h

  -- a text is one of a text's shape, whoever owns it
  pub text_shape : {ty : Ty} {f : Form} → HasForm facts ty f → (bytes : List ℕ) → is_constant facts ty (Characters bytes) ≡ true →
      IsOf (Characters bytes) (shape_of facts ty)
  text_shape {ty} has bytes h = (text_right (plain_kind facts ty) (shape_of facts ty) bytes (plain_shaped facts sorted has).matches h, refl)

  mutual
    pub constant_shape : {ty : Ty} {f : Form} → HasForm facts ty f → is_simple (shape_of facts ty) ≡ true → (l : Literal) → is_constant facts ty l ≡ true →
        IsOf l (shape_of facts ty)
    constant_shape {ty} has simple (Ordinal z) h =
        (number_right (plain_kind facts ty) (shape_of facts ty) z (plain_shaped facts sorted has).matches h, refl)
    constant_shape {ty} has simple (Characters bytes) h = text_shape has bytes h
    constant_shape {ty} has simple NoObject h = (nil_right (plain_kind facts ty) (shape_of facts ty) (plain_shaped facts sorted has).matches h, refl)
    constant_shape {ty} has simple (PartsOf all) h =
        let q = and_parts (has_parts (plain_kind facts ty) (count_literals all)) (are_constants facts (plain_kind facts ty) 0 all) h in
        let p = plain_shaped facts sorted has in
        parts_right all (λ t f is i m n count simple h. row_values is i m n all count simple h)
        (λ k i ts same have simple count h. part_values k i ts all same have simple count h)
        (plain_kind facts ty) (shape_of facts ty) p.matches p.parts_have simple q.0 q.1
    constant_shape {ty} has simple (ElementsOf all) h =
        let k = plain_kind facts ty in
        let q = and_parts (is_sequence k && fits (pos (count_literals all))) (are_constants facts k 0 all) h in
        let p = plain_shaped facts sorted has in
        elements_right all (λ t f is i simple h. element_values is i all simple h) k (shape_of facts ty) p.matches p.parts_have simple
        (and_parts (is_sequence k) (fits (pos (count_literals all))) q.0).0 q.1

    element_values : {t : Ty} {f : Form} → HasForm facts t f → (i : ℕ) (all : Literals) → is_simple (shape_of facts t) ≡ true →
        are_constants facts (kind.sequence t) i all ≡ true → AreEach all (shape_of facts t)
    element_values has i NoLiteral simple h = (refl, refl)
    element_values {t} has i (ALiteral first rest) simple h =
        let q = and_parts (is_constant facts t first) (are_constants facts (kind.sequence t) (suc i) rest) h in
        let one = constant_shape has simple first q.0 in
        let more = element_values has (suc i) rest simple q.1 in
        (and_from _ _ one.0 more.0, ap₂ (λ ps qs. ps ++ qs) one.1 more.1)

    row_values : {t : Ty} {f : Form} → HasForm facts t f → (i m n : ℕ) (all : Literals) → n ≡ count_literals all → is_simple (row n (shape_of facts t)) ≡ true →
        are_constants facts (kind.array m t) i all ≡ true → AreRows all n (shape_of facts t)
    row_values has i m zero NoLiteral count simple h = (refl, refl)
    row_values has i m (suc n) NoLiteral count simple h = absurd (omega (arith, count))
    row_values has i m zero (ALiteral first rest) count simple h = absurd (omega (arith, count))
    row_values {t} has i m (suc n) (ALiteral first rest) count simple h =
        let q = and_parts (is_constant facts t first) (are_constants facts (kind.array m t) (suc i) rest) h in
        let one = constant_shape has simple first q.0 in
        let more = row_values has (suc i) m n rest (omega (arith, count)) (one_simple n (shape_of facts t) simple) q.1 in
        (and_from _ _ one.0 more.0, ap₂ (λ ps qs. ps ++ qs) one.1 more.1)

    part_values : (k : TypeKind) (i : ℕ) (ts : Tys) (all : Literals) → ((j : ℕ) → part_at k (j + i) ≡ nth_type ts j) → AllHave facts ts →
        are_simple (shapes_of facts ts) ≡ true → count_types ts ≡ count_literals all → are_constants facts k i all ≡ true →
        AreParts all (shapes_of facts ts)
    part_values k i no_types NoLiteral same have simple count h = (refl, refl)
    part_values k i (types t ts) NoLiteral same have simple count h = absurd (omega (arith, count))
    part_values k i no_types (ALiteral first rest) same have simple count h = absurd (omega (arith, count))
    part_values k i (types t ts) (ALiteral first rest) same have simple count h =
        let q = and_parts (for_some (part_at k i) (λ ty. is_constant facts ty first)) (are_constants facts k (suc i) rest) h in
        let one = at_part (part_at k i) t first (ap (part_at k) (here_at i) ∙ same 0) q.0 in
        let u = and_parts (is_simple (shape_of facts t)) (are_simple (shapes_of facts ts)) simple in
        let first_is = constant_shape have.0.1 u.0 first one in
        let more = part_values k (suc i) ts rest (λ j. ap (part_at k) (next i j) ∙ same (suc j)) have.1 u.1 (omega (arith, count)) q.1 in
        (and_from _ _ first_is.0 more.0, ap₂ (λ ps qs. ps ++ qs) first_is.1 more.1)
      where
        here_at : (i : ℕ) → i ≡ 0 + i
        here_at i = omega arith

        next : (i j : ℕ) → j + suc i ≡ suc j + i
        next i j = omega arith
