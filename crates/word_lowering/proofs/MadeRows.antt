-- A tuple or an array that is made of values with hooks: its row, by what each operand is.
use Rattle.std.proofs.Common.{◌≡◌, ◌⊎◌, inl, inr, ℕ, zero, suc, ◌+◌, ◌<◌, List, [], ◌∷◌, length, map, Option, Some, true, false, refl, sym, ap, subst, ◌∙◌}
use Rattle.std.proofs.Common.{arith}
use Rattle.std.specs.Prelude.{◌&&◌, ◌||◌}
use Rattle.std.proofs.lemmas.Bool.{and_parts, and_from, cases_Bool, eqb-true}
use Rattle.nim_types.specs.Types as type
use Rattle.nim_types.specs.Types.{Facts, Ty, Tys, no_types, types}
use Rattle.nim_types.specs.Forms.{form_of, hooked}
use Rattle.nim_types.specs.Table.{facts_in}
use Rattle.nim_program.specs.declared.operation.Operation.TheVariants as O
use Rattle.nim_program.specs.declared.operation.Use.TheVariants as uses
use Rattle.nim_program.specs.Fitting.{are_parts}
use Rattle.nim_program.specs.Kinds as kind
use Rattle.nim_program.specs.Kinds.{TypeKind, count_types, has_parts, is_made, is_of, kind_if, kind_of, nth_type, same_value}
use Rattle.nim_program.specs.View.{if_type}
use Rattle.nim_meaning.specs.Here.{any_hooked, gives_hooked}
use Rattle.nim_meaning.specs.Values.{Operand, Parts, Values, Nil, More, value_of, values_in}
use Rattle.flat_code.specs.declared.block.BlockLine.{BlockLine}
use Rattle.flat_code.specs.declared.line.From.{From}
use Rattle.flat_code.specs.declared.line.From.TheVariants as F
use Rattle.flat_code.specs.declared.line.UseAt.{UseAt}
use Rattle.flat_code.specs.Fits as fit
use Rattle.flat_code.specs.Fits.{are_values, is_value}
use Rattle.flat_code.specs.Shapes.{Shape, Shapes, are_rows, has_shape, have_shapes, no_shapes, shape_of, shape_within, shapes, shapes_in}
use Rattle.word_lowering.specs.declared.homes.Alias.TheVariants as alias
use Rattle.word_lowering.specs.MayLower.{own_values, same_alias}
use Rattle.word_lowering.proofs.AddressFacts.{in_memory}
use Rattle.word_lowering.proofs.AllOperands.{Have, given_value}
use Rattle.word_lowering.proofs.ApplyFits.{apply_line}
use Rattle.word_lowering.proofs.ControlLines.{value_type}
use Rattle.word_lowering.proofs.HookedConstruct.{BitsOf, bits_shaped}
use Rattle.word_lowering.proofs.HookedMakes.{AllBits, Together, a_tuple, an_array, each, made_bits}
use Rattle.word_lowering.proofs.HouseHooks.{hooks_as, hooks_numbers}
use Rattle.word_lowering.proofs.LineFits.{some_kind}
use Rattle.word_lowering.proofs.Lines.{Basis, IsGood, known, starts}
use Rattle.word_lowering.proofs.MakeLines.{declared_no_made, first_typed}
use Rattle.word_lowering.proofs.OperandLines.{value_type_by}
use Rattle.word_lowering.proofs.OwnedFits.{OwnedRow, fits_row, values_placed}
use Rattle.word_lowering.proofs.Related.{Both, body_of}
use Rattle.word_lowering.proofs.Scenes.{IsThere, house, looked, of_value}
use Rattle.word_lowering.proofs.ShapeDepth.{depth, depths}
use Rattle.word_lowering.proofs.ShapeFacts.{never, of_numbers, shapes_bytes}
use Rattle.word_lowering.proofs.Sites.{InMemory, globals_of, is_one_word, sigs}
use Rattle.word_lowering.proofs.StoredLater.{shape_some}
use Rattle.word_lowering.proofs.Targets.{given, homes_here, own_alias}
use Rattle.word_lowering.proofs.ValueFacts.{has_type, look_of, type_in, value_plain, with_home}

module _ (x : Basis) (g : Both) (line : BlockLine) (rest : List BlockLine) (y : IsGood x (starts g line rest)) (to : ℕ)
    (there : IsThere g.call.site (of_value to)) (inside : InMemory (house g.call.site (of_value to)).home) where
  abbrev whole : Shape
  whole = looked x.table g.call.site (of_value to)

  abbrev Typed : List (Option Ty) → List From → Type 0
  Typed wants from = fit.are_of (known x) (sigs x.table x.blocks) (globals_of x.table x.blocks) (body_of g).proc.places wants from ≡ true

  abbrev Own : List From → Type 0
  Own from = own_values (body_of g).own.all from ≡ true

  abbrev Bits : List From → Values → Shapes → Type 0
  Bits from vs ss = AllBits x g line rest y to there inside from vs ss

  -- an operand that is a part
  bits_of : (t : ℕ) (z : Operand) (u : Ty) → value_type x g line rest y t ≡ Some u
      → same_alias (house g.call.site (of_value t)).alias alias.Own ≡ true → g.call.temps.values t ≡ Some (value_of z)
      → depth (shape_of (facts_in x.table) u) < depth whole → BitsOf x g line rest y to there inside t (value_of z) (shape_of (facts_in x.table) u)
  bits_of t z u is own has less =
      let typed = has_type x g.call.site (of_value t) u y.linked.0 is in
      let look_t = look_of x g.call.site (of_value t) u typed in
      record {
        has = has;
        is_there = with_home x typed.named (own_alias (house g.call.site (of_value t)).alias own) tt;
        look = look_t;
        other = λ same. let e : depth (shape_of (facts_in x.table) u) ≡ depth whole
            = ap depth (sym look_t) ∙ ap (λ i. depth (looked x.table g.call.site (of_value i))) same in
            absurd (omega (arith, e, less));
      }

  rows_bits : (e : Ty) (m n i : ℕ) (wants : List (Option Ty)) (from : List From) (xs : List Operand) → n ≡ length wants
      → are_parts (kind.array m e) i wants ≡ true → Typed wants from → are_values from ≡ true → Own from → Have g.call.temps from xs
      → depth (shape_of (facts_in x.table) e) < depth whole
      → Bits from (values_in xs) (each n (shape_of (facts_in x.table) e)) × (are_rows (values_in xs) n (shape_of (facts_in x.table) e) ≡ true)
  rows_bits e m zero i [] [] [] is are typed placed own has less = (tt, refl)
  rows_bits e m zero i [] [] (z ∷ xs) is are typed placed own has less = absurd has
  rows_bits e m zero i [] (f ∷ from) xs is are typed placed own has less = never typed
  rows_bits e m zero i (a ∷ wants) from xs is are typed placed own has less = absurd (omega (arith, is))
  rows_bits e m (suc n) i [] from xs is are typed placed own has less = absurd (omega (arith, is))
  rows_bits e m (suc n) i (a ∷ wants) [] xs is are typed placed own has less = never typed
  rows_bits e m (suc n) i (a ∷ wants) (F.Place t ∷ from) xs is are typed placed own has less = never placed
  rows_bits e m (suc n) i (a ∷ wants) (F.Value t ∷ from) [] is are typed placed own has less = absurd has
  rows_bits e m (suc n) i (a ∷ wants) (F.Value t ∷ from) (z ∷ xs) is are typed placed own has less =
      let p = and_parts (is_of a (Some e)) (are_parts (kind.array m e) (suc i) wants) are in
      let q = and_parts (same_value (value_type x g line rest y t) a) _ typed in
      let o = and_parts (same_alias (house g.call.site (of_value t)).alias alias.Own) (own_values (body_of g).own.all from) own in
      let part = bits_of t z e (first_typed x g line rest y to t a (Some e) e from wants typed p.0 refl) o.0
      (given_value (g.call.temps.values t) z has.0) less in
      let r = rows_bits e m n (suc i) wants from xs (omega (arith, is)) p.1 q.1 placed o.1 has.1 less in (
        (part, r.0),
        and_from (has_shape (value_of z) (shape_of (facts_in x.table) e)) _
            (bits_shaped x g line rest y to there inside t (value_of z) (shape_of (facts_in x.table) e) part) r.1,
      )

  abbrev shapes_of : Tys → Shapes
  shapes_of ts = shapes_in (shape_within (length (facts_in x.table)) (facts_in x.table)) ts

  fields_bits : (ts after : Tys) (i : ℕ) → ((j : ℕ) → nth_type ts (j + i) ≡ nth_type after j) → (wants : List (Option Ty)) (from : List From)
      (xs : List Operand) → count_types after ≡ length wants → are_parts (kind.tuple ts) i wants ≡ true
      → Typed wants from → are_values from ≡ true → Own from → Have g.call.temps from xs → depths (shapes_of after) < depth whole
      → Bits from (values_in xs) (shapes_of after) × (have_shapes (values_in xs) (shapes_of after) ≡ true)
  fields_bits ts no_types i nth [] [] [] is are typed placed own has less = (tt, refl)
  fields_bits ts no_types i nth [] [] (z ∷ xs) is are typed placed own has less = absurd has
  fields_bits ts no_types i nth [] (f ∷ from) xs is are typed placed own has less = never typed
  fields_bits ts no_types i nth (a ∷ wants) from xs is are typed placed own has less = absurd (omega (arith, is))
  fields_bits ts (types u us) i nth [] from xs is are typed placed own has less = absurd (omega (arith, is))
  fields_bits ts (types u us) i nth (a ∷ wants) [] xs is are typed placed own has less = never typed
  fields_bits ts (types u us) i nth (a ∷ wants) (F.Place t ∷ from) xs is are typed placed own has less = never placed
  fields_bits ts (types u us) i nth (a ∷ wants) (F.Value t ∷ from) [] is are typed placed own has less = absurd has
  fields_bits ts (types u us) i nth (a ∷ wants) (F.Value t ∷ from) (z ∷ xs) is are typed placed own has less =
      let p = and_parts (is_of a (nth_type ts i)) (are_parts (kind.tuple ts) (suc i) wants) are in
      let q = and_parts (same_value (value_type x g line rest y t) a) _ typed in
      let o = and_parts (same_alias (house g.call.site (of_value t)).alias alias.Own) (own_values (body_of g).own.all from) own in
      let part = bits_of t z u (first_typed x g line rest y to t a (nth_type ts i) u from wants typed p.0 (ap (nth_type ts) (omega arith) ∙ nth 0)) o.0
      (given_value (g.call.temps.values t) z has.0) (omega (arith, less)) in
      let r = fields_bits ts us (suc i) (λ j. ap (nth_type ts) (omega arith) ∙ nth (suc j)) wants from xs (omega (arith, is)) p.1 q.1 placed o.1 has.1
      (omega (arith, less)) in (
        (part, r.0),
        and_from (has_shape (value_of z) (shape_of (facts_in x.table) u)) _
            (bits_shaped x g line rest y to there inside t (value_of z) (shape_of (facts_in x.table) u) part) r.1,
      )

  -- all operands of a value that is made
  record MadeOf (look : Shape) (from : List From) (xs : List Operand) : Type 0 where
    shapes_are : Shapes
    together : Together x g line rest y to there inside shapes_are look
    bits : Bits from (values_in xs) shapes_are
    shaped : has_shape (Parts (values_in xs)) look ≡ true

  abbrev Comes_of : Ty → Type 0
  Comes_of ty = (wants : List (Option Ty)) (from : List From) (xs : List Operand) → is_made (kind_of (facts_in x.table) ty) ≡ true
      → has_parts (kind_of (facts_in x.table) ty) (length wants) ≡ true → are_parts (kind_of (facts_in x.table) ty) 0 wants ≡ true → Typed wants from
      → are_values from ≡ true → Own from → Have g.call.temps from xs → whole ≡ shape_of (facts_in x.table) ty
      → MadeOf (shape_of (facts_in x.table) ty) from xs

  all_bits : (ty : Ty) → Comes_of ty
  all_bits (type.array n e) wants from xs made long are typed placed own has look =
      let d : depth whole ≡ suc (depth (shape_of (facts_in x.table) e)) = ap depth look in
      let r = rows_bits e n n 0 wants from xs (eqb-true n (length wants) long) are typed placed own has (omega (arith, d)) in
      record {
        shapes_are = each n (shape_of (facts_in x.table) e);
        together = an_array n (shape_of (facts_in x.table) e) refl refl;
        bits = r.0;
        shaped = r.1;
      }
  all_bits (type.tuple names ts) wants from xs made long are typed placed own has look =
      let d : depth whole ≡ suc (depths (shapes_of ts)) = ap depth look in
      let r = fields_bits ts ts 0 (λ j. ap (nth_type ts) (omega arith)) wants from xs (eqb-true (count_types ts) (length wants) long) are typed placed own has
      (omega (arith, d)) in
      record { shapes_are = shapes_of ts; together = a_tuple refl; bits = r.0; shaped = r.1 }
  all_bits type.int wants from xs made long are typed placed own has look = never made
  all_bits type.bool wants from xs made long are typed placed own has look = never made
  all_bits type.char wants from xs made long are typed placed own has look = never made
  all_bits type.text wants from xs made long are typed placed own has look = never made
  all_bits (type.sequence t) wants from xs made long are typed placed own has look = never made
  all_bits (type.parameter n) wants from xs made long are typed placed own has look = never made
  all_bits (type.ref name t) wants from xs made long are typed placed own has look = never made
  all_bits (type.enum key) wants from xs made long are typed placed own has look = absurd (declared_no_made (facts_in x.table) (type.enum key) made)
  all_bits (type.object key arguments) wants from xs made long are typed placed own has look =
      absurd (declared_no_made (facts_in x.table) (type.object key arguments) made)
  all_bits (type.distinct key) wants from xs made long are typed placed own has look =
      absurd (declared_no_made (facts_in x.table) (type.distinct key) made)
  all_bits (type.exception key) wants from xs made long are typed placed own has look =
      absurd (declared_no_made (facts_in x.table) (type.exception key) made)

  -- parts that are together are as many bytes as there are operands, so something, or nothing of them has hooks
  some_bytes : (look : Shape) (from : List From) (vs : Values) (ss : Shapes) → Together x g line rest y to there inside ss look → Bits from vs ss
      → (from ≡ [] → of_numbers look ≡ false) → 0 < shapes_bytes ss
  some_bytes look [] Nil no_shapes (a_tuple is) come other = never (sym (other refl) ∙ ap of_numbers is)
  some_bytes look [] Nil no_shapes (an_array zero s are is) come other = never (sym (other refl) ∙ ap of_numbers is)
  some_bytes look [] Nil no_shapes (an_array (suc n) s are is) come other =
      let none : shapes_bytes no_shapes ≡ shapes_bytes (each (suc n) s) = ap shapes_bytes are in
      let some = shape_some s in absurd (omega (arith, none, some))
  some_bytes look [] Nil (shapes s ss) together come other = absurd come
  some_bytes look [] (More v vs) ss together come other = absurd come
  some_bytes look (F.Value t ∷ from) Nil ss together come other = absurd come
  some_bytes look (F.Value t ∷ from) (More v vs) no_shapes together come other = absurd come
  some_bytes look (F.Place t ∷ from) vs ss together come other = absurd come
  some_bytes look (F.Value t ∷ from) (More v vs) (shapes s ss) together come other = let some = shape_some s in omega (arith, some)

-- ---- the row

module _ (x : Basis) (g : Both) (rest : List BlockLine) (to : ℕ) (how : UseAt) (ty : Option ℕ) (of : List (Option ℕ)) (from : List From) where
  abbrev line : BlockLine
  line = apply_line x g rest to O.Make how ty of from

  abbrev facts : Facts
  facts = facts_in x.table

  -- what is made of parts is no word
  made_many : (t : Ty) → is_made (kind_of facts t) ≡ true → is_one_word (shape_of facts t) ≡ false
  made_many (type.array n e) made = refl
  made_many (type.tuple names ts) made = refl
  made_many type.int made = never made
  made_many type.bool made = never made
  made_many type.char made = never made
  made_many type.text made = never made
  made_many (type.sequence t) made = never made
  made_many (type.parameter n) made = never made
  made_many (type.ref name t) made = never made
  made_many (type.enum key) made = absurd (declared_no_made facts (type.enum key) made)
  made_many (type.object key arguments) made = absurd (declared_no_made facts (type.object key arguments) made)
  made_many (type.distinct key) made = absurd (declared_no_made facts (type.distinct key) made)
  made_many (type.exception key) made = absurd (declared_no_made facts (type.exception key) made)

  -- without operands the value has hooks itself
  alone : (wants : List (Option Ty)) (from : List From) (given : Option Ty)
      → fit.are_of (known x) (sigs x.table x.blocks) (globals_of x.table x.blocks) (body_of g).proc.places wants from ≡ true
      → (any_hooked facts wants || gives_hooked facts given) ≡ true → from ≡ [] → gives_hooked facts given ≡ true
  alone [] [] given typed hooks e = hooks
  alone [] (f ∷ from) given typed hooks e = never typed
  alone (a ∷ wants) [] given typed hooks e = never typed
  alone (a ∷ wants) (f ∷ from) given typed hooks e = let n : length (f ∷ from) ≡ 0 = ap length e in absurd (omega (arith, n))

  pub make_row : (any_hooked facts (map (if_type (known x).types) of) || gives_hooked facts (if_type (known x).types ty)) ≡ true
      → OwnedRow x g rest to how O.Make ty of from
  make_row hooks y xs has seen =
      let f = fits_row x g rest to O.Make how ty of from y in
      let wants : List (Option Ty) = map (if_type (known x).types) of in
      let k : TypeKind = kind_if facts (if_type (known x).types ty) in
      let p = and_parts (is_made k) (has_parts k (length wants) && are_parts k 0 wants) f.row in
      let s = some_kind facts (if_type (known x).types ty) is_made refl p.0 in
      let typed = value_type_by (value_type x g line rest y to) (if_type (known x).types ty) s.0 f.given s.1 in
      let t = given x g line rest y to s.0 refl refl typed in
      let q = and_parts (has_parts (kind_of facts s.0) (length wants)) (are_parts (kind_of facts s.0) 0 wants)
      (subst (λ o. (has_parts (kind_if facts o) (length wants) && are_parts (kind_if facts o) 0 wants) ≡ true) s.1 p.1) in
      let inside : InMemory (house g.call.site (of_value to)).home
      = in_memory x g line rest y (of_value to) t.there (value_plain (house g.call.site (of_value to)) t.there.kind)
      (ap is_one_word t.look ∙ made_many s.0 s.2) in
      let m = all_bits x g line rest y to t.there inside s.0 wants from xs s.2 q.0 q.1 f.typed
      (values_placed x g uses.Held refl wants from f.typed f.placed) (homes_here x g line rest y) has t.look in
      let other : (from ≡ []) → of_numbers (shape_of facts s.0) ≡ false
      = λ e. no_numbers y s.0 typed t.look (sym (ap (gives_hooked facts) s.1) ∙ alone wants from (if_type (known x).types ty) f.typed hooks e) in
      made_bits x g line rest y to t.there inside from (values_in xs) m.shapes_are (shape_of facts s.0) m.together m.bits t.look m.shaped
      (some_bytes x g line rest y to t.there inside (shape_of facts s.0) from (values_in xs) m.shapes_are m.together m.bits other) refl
    where
      -- what has hooks isn't made of numbers
      no_numbers : (y : IsGood x (starts g line rest)) (t : Ty) → type_in x is_value (body_of g) to ≡ Some t
          → looked x.table g.call.site (of_value to) ≡ shape_of facts t → hooked (form_of facts t) ≡ true → of_numbers (shape_of facts t) ≡ false
      no_numbers y t typed look hooks = by (cases_Bool (of_numbers (shape_of facts t)))
        where
          by : (of_numbers (shape_of facts t) ≡ true) ⊎ (of_numbers (shape_of facts t) ≡ false) → of_numbers (shape_of facts t) ≡ false
          by (inr n) = n
          by (inl n) =
              never (sym (hooks_numbers x (house g.call.site (of_value to)) (ap of_numbers look ∙ n))
              ∙ (hooks_as x g.call.site y.linked.0 (of_value to) t typed ∙ hooks))
