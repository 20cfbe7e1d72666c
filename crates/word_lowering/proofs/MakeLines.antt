-- A value that is made of parts: what the line does is followed.
use Rattle.std.proofs.Common.{◌≡◌, inl, ℕ, zero, suc, ◌+◌, ◌*◌, ◌<◌, ◌≤◌, List, [], ◌∷◌, length, map}
use Rattle.std.proofs.Common.{Option, Some, None, true, false, refl, sym}
use Rattle.std.proofs.Common.{ap, subst, ◌∙◌, arith}
use Rattle.std.specs.Prelude.{◌&&◌}
use Rattle.std.proofs.lemmas.Bool.{and_parts, and_from, eqb-true}
use Rattle.nim_types.specs.Types as type
use Rattle.nim_types.specs.Types.{Ty, Tys, no_types, types, Facts, fact_of}
use Rattle.nim_types.specs.Table.{facts_in}
use Rattle.nim_program.specs.declared.operation.Operation.TheVariants as O
use Rattle.flat_code.specs.declared.line.UseAt.{UseAt}
use Rattle.nim_program.specs.Fitting.{are_parts}
use Rattle.nim_program.specs.Kinds as kind
use Rattle.nim_program.specs.Kinds.{TypeKind, count_types, declared_kind, has_parts, is_made, is_of, kind_if, kind_of, nth_type, same_value}
use Rattle.nim_program.specs.View.{if_type}
use Rattle.nim_meaning.specs.Values.{Value, Parts, Values, Nil, More, bytes, bytes_all, Operand, value_of, values_in}
use Rattle.nim_meaning.specs.Deeds.{Answers, costs, give, ◌>>=◌}
use Rattle.nim_meaning.specs.Here.{gives_hooked}
use Rattle.nim_meaning.specs.Places.{kept_if}
use Rattle.flat_code.specs.declared.block.BlockLine.{BlockLine}
use Rattle.flat_code.specs.declared.line.From.{From}
use Rattle.flat_code.specs.declared.line.From.TheVariants as F
use Rattle.flat_code.specs.declared.line.Line.TheVariants as L
use Rattle.flat_code.specs.Fits.{are_values}
use Rattle.flat_code.specs.Fits as fit
use Rattle.flat_code.specs.Lines.{gives}
use Rattle.flat_code.specs.Running.{scene_of}
use Rattle.flat_code.specs.Scene.{Passes, with_value}
use Rattle.flat_code.specs.Shapes.{Shape, row, Shapes, shapes_in, shape_within, has_shape, are_rows, have_shapes, shape_of}
use Rattle.word_code.specs.declared.word.WordInstr.{WordInstr}
use Rattle.word_code.specs.declared.word.WordInstr.TheVariants.{Label}
use Rattle.word_code.proofs.ForCallers.{Changed, at, none as no_run, run_label}
use Rattle.word_lowering.specs.declared.homes.Housed.{Housed}
use Rattle.word_lowering.specs.Layouts.{holds_address}
use Rattle.word_lowering.specs.LineCode.{operands, parts_code}
use Rattle.word_lowering.proofs.HeapKept.{heap_same}
use Rattle.word_lowering.proofs.AddressFacts.{in_memory}
use Rattle.word_lowering.proofs.AllOperands.{Have, using_all_settles}
use Rattle.word_lowering.proofs.ApplyFits.{applies, RowHere}
use Rattle.word_lowering.proofs.ControlLines.{plain, value_type}
use Rattle.word_lowering.proofs.Gets.{Gets, gets_bytes, good_value, value_settles}
use Rattle.word_lowering.proofs.InMemory.{bytes_some, parts_bytes}
use Rattle.word_lowering.proofs.Keeping.{nowhere, to_memory}
use Rattle.word_lowering.proofs.LineFits.{declared_other, same_type, some_kind}
use Rattle.word_lowering.proofs.Lines.{Basis, IsGood, Settles, all_procs, all_sites, changed, known, lower, starts, stands_next, stays_on, bound_for}
use Rattle.word_lowering.proofs.Moves.{all_same}
use Rattle.word_lowering.proofs.OperandLines.{value_type_by}
use Rattle.word_lowering.proofs.PartRuns.{Come, Sofar, changed_same, parts_moved}
use Rattle.word_lowering.proofs.PartShapes.{part_comes}
use Rattle.word_lowering.proofs.ShapeDepth.{depth, depths}
use Rattle.word_lowering.proofs.Related.{Both, body_of, high, low, within}
use Rattle.word_lowering.proofs.Scenes.{IsThere, address_of, house, looked, of_value}
use Rattle.word_lowering.proofs.Settling.{LabelsLead, code_here, code_next}
use Rattle.word_lowering.proofs.ShapeFacts.{all_of_numbers, fewer_numbers, never, of_numbers, values_of_numbers}
use Rattle.word_lowering.proofs.Sites.{InMemory, around, globals_of, is_one_word, sigs}
use Rattle.word_lowering.proofs.Sources.{address_whole, size_is}
use Rattle.word_lowering.proofs.Targets.{target}
use Rattle.word_lowering.proofs.ValueFacts.{value_plain}

-- ---- operands that are parts

-- no declared type is made of parts
pub declared_no_made : (facts : Facts) (ty : Ty) → is_made (declared_kind (fact_of facts ty)) ≡ true → ⊥
declared_no_made facts ty h =
    never (sym (declared_other is_made (λ n. refl) (λ own ts. refl) (λ t. refl) refl refl (fact_of facts ty)) ∙ h)

module _ (x : Basis) (g : Both) (line : BlockLine) (rest : List BlockLine) (y : IsGood x (starts g line rest)) (to : ℕ) where
  abbrev whole : Shape
  whole = looked x.table g.call.site (of_value to)

  abbrev Typed : List (Option Ty) → List From → Type 0
  Typed wants from = fit.are_of (known x) (sigs x.table x.blocks) (globals_of x.table x.blocks) (body_of g).proc.places wants from ≡ true

  abbrev Has : List From → List Operand → Type 0
  Has from xs = Have g.call.temps from xs

  abbrev Parts_come : List From → List Operand → Type 0
  Parts_come from xs = Come x g line rest y to from (values_in xs)

  -- the first operand, by its type and that of the part
  pub first_typed : (t : ℕ) (a p : Option Ty) (u : Ty) (from : List From) (wants : List (Option Ty)) → Typed (a ∷ wants) (F.Value t ∷ from) → is_of a p ≡ true
      → p ≡ Some u → value_type x g line rest y t ≡ Some u
  first_typed t a p u from wants typed is there =
      same_type (value_type x g line rest y t) (Some u)
      (subst (λ o. same_value (value_type x g line rest y t) o ≡ true) (of_part a p u is there)
      (and_parts (same_value (value_type x g line rest y t) a) _ typed).0)
    where
      of_part : (a p : Option Ty) (u : Ty) → is_of a p ≡ true → p ≡ Some u → a ≡ Some u
      of_part None p u h e = never h
      of_part (Some s) None u h e = never h
      of_part (Some s) (Some t) u h e = same_type (Some s) (Some t) h ∙ e

  rows_come : (e : Ty) (m n i : ℕ) (wants : List (Option Ty)) (from : List From) (xs : List Operand) → n ≡ length wants
      → are_parts (kind.array m e) i wants ≡ true → Typed wants from → are_values from ≡ true → Has from xs
      → of_numbers (row n (shape_of (facts_in x.table) e)) ≡ true → depth (shape_of (facts_in x.table) e) < depth whole
      → Parts_come from xs × (are_rows (values_in xs) n (shape_of (facts_in x.table) e) ≡ true)
  rows_come e m zero i [] [] [] is are typed placed has numbers less = (tt, refl)
  rows_come e m zero i [] [] (z ∷ xs) is are typed placed has numbers less = absurd has
  rows_come e m zero i [] (f ∷ from) xs is are typed placed has numbers less = never typed
  rows_come e m zero i (a ∷ wants) from xs is are typed placed has numbers less = absurd (omega (arith, is))
  rows_come e m (suc n) i [] from xs is are typed placed has numbers less = absurd (omega (arith, is))
  rows_come e m (suc n) i (a ∷ wants) [] xs is are typed placed has numbers less = never typed
  rows_come e m (suc n) i (a ∷ wants) (F.Place t ∷ from) xs is are typed placed has numbers less = never placed
  rows_come e m (suc n) i (a ∷ wants) (F.Value t ∷ from) [] is are typed placed has numbers less = absurd has
  rows_come e m (suc n) i (a ∷ wants) (F.Value t ∷ from) (z ∷ xs) is are typed placed has numbers less =
      let p = and_parts (is_of a (Some e)) (are_parts (kind.array m e) (suc i) wants) are in
      let q = and_parts (same_value (value_type x g line rest y t) a) _ typed in
      let part = part_comes x g line rest y to t z e has.0 (first_typed t a (Some e) e from wants typed p.0 refl) numbers less in
      let r = rows_come e m n (suc i) wants from xs (omega (arith, is)) p.1 q.1 placed has.1 (fewer_numbers n (shape_of (facts_in x.table) e) numbers) less in (
        ((shape_of (facts_in x.table) e, part), r.0),
        and_from (has_shape (value_of z) (shape_of (facts_in x.table) e)) _ part.shaped r.1,
      )

  abbrev shapes_of : Tys → Shapes
  shapes_of ts = shapes_in (shape_within (length (facts_in x.table)) (facts_in x.table)) ts

  fields_come : (ts after : Tys) (i : ℕ) → ((j : ℕ) → nth_type ts (j + i) ≡ nth_type after j) → (wants : List (Option Ty)) (from : List From)
      (xs : List Operand) → count_types after ≡ length wants → are_parts (kind.tuple ts) i wants ≡ true
      → Typed wants from → are_values from ≡ true → Has from xs
      → all_of_numbers (shapes_of after) ≡ true → depths (shapes_of after) < depth whole
      → Parts_come from xs × (have_shapes (values_in xs) (shapes_of after) ≡ true)
  fields_come ts no_types i nth [] [] [] is are typed placed has numbers less = (tt, refl)
  fields_come ts no_types i nth [] [] (z ∷ xs) is are typed placed has numbers less = absurd has
  fields_come ts no_types i nth [] (f ∷ from) xs is are typed placed has numbers less = never typed
  fields_come ts no_types i nth (a ∷ wants) from xs is are typed placed has numbers less = absurd (omega (arith, is))
  fields_come ts (types u us) i nth [] from xs is are typed placed has numbers less = absurd (omega (arith, is))
  fields_come ts (types u us) i nth (a ∷ wants) [] xs is are typed placed has numbers less = never typed
  fields_come ts (types u us) i nth (a ∷ wants) (F.Place t ∷ from) xs is are typed placed has numbers less = never placed
  fields_come ts (types u us) i nth (a ∷ wants) (F.Value t ∷ from) [] is are typed placed has numbers less = absurd has
  fields_come ts (types u us) i nth (a ∷ wants) (F.Value t ∷ from) (z ∷ xs) is are typed placed has numbers less =
      let p = and_parts (is_of a (nth_type ts i)) (are_parts (kind.tuple ts) (suc i) wants) are in
      let q = and_parts (same_value (value_type x g line rest y t) a) _ typed in
      let n = and_parts (of_numbers (shape_of (facts_in x.table) u)) (all_of_numbers (shapes_of us)) numbers in
      let part = part_comes x g line rest y to t z u has.0
      (first_typed t a (nth_type ts i) u from wants typed p.0 (ap (nth_type ts) (omega arith) ∙ nth 0)) n.0 (omega (arith, less)) in
      let r = fields_come ts us (suc i) (λ j. ap (nth_type ts) (omega arith) ∙ nth (suc j)) wants from xs (omega (arith, is)) p.1 q.1 placed has.1 n.1
      (omega (arith, less)) in (
        ((shape_of (facts_in x.table) u, part), r.0),
        and_from (has_shape (value_of z) (shape_of (facts_in x.table) u)) _ part.shaped r.1,
      )

  -- all operands of a value that is made
  abbrev Made_of : Ty → List From → List Operand → Type 0
  Made_of ty from xs = Parts_come from xs × (has_shape (Parts (values_in xs)) (shape_of (facts_in x.table) ty) ≡ true)
      × (is_one_word (shape_of (facts_in x.table) ty) ≡ false)

  abbrev Comes_of : Ty → Type 0
  Comes_of ty = (wants : List (Option Ty)) (from : List From) (xs : List Operand) → is_made (kind_of (facts_in x.table) ty) ≡ true
      → has_parts (kind_of (facts_in x.table) ty) (length wants) ≡ true → are_parts (kind_of (facts_in x.table) ty) 0 wants ≡ true → Typed wants from
      → are_values from ≡ true → Has from xs → of_numbers (shape_of (facts_in x.table) ty) ≡ true → whole ≡ shape_of (facts_in x.table) ty
      → Made_of ty from xs

  all_come : (ty : Ty) → Comes_of ty
  all_come (type.array n e) wants from xs made long are typed placed has numbers look =
      let d : depth whole ≡ suc (depth (shape_of (facts_in x.table) e)) = ap depth look in
      let r = rows_come e n n 0 wants from xs (eqb-true n (length wants) long) are typed placed has numbers (omega (arith, d)) in (r.0, r.1, refl)
  all_come (type.tuple names ts) wants from xs made long are typed placed has numbers look =
      let d : depth whole ≡ suc (depths (shapes_of ts)) = ap depth look in
      let r = fields_come ts ts 0 (λ j. ap (nth_type ts) (omega arith)) wants from xs
      (eqb-true (count_types ts) (length wants) long) are typed placed has numbers
      (omega (arith, d)) in (r.0, r.1, refl)
  all_come type.int wants from xs made long are typed placed has numbers look = never made
  all_come type.bool wants from xs made long are typed placed has numbers look = never made
  all_come type.char wants from xs made long are typed placed has numbers look = never made
  all_come type.text wants from xs made long are typed placed has numbers look = never made
  all_come (type.sequence t) wants from xs made long are typed placed has numbers look = never made
  all_come (type.parameter n) wants from xs made long are typed placed has numbers look = never made
  all_come (type.ref name t) wants from xs made long are typed placed has numbers look = never made
  all_come (type.enum key) wants from xs made long are typed placed has numbers look = absurd (declared_no_made (facts_in x.table) (type.enum key) made)
  all_come (type.object key arguments) wants from xs made long are typed placed has numbers look =
      absurd (declared_no_made (facts_in x.table) (type.object key arguments) made)
  all_come (type.distinct key) wants from xs made long are typed placed has numbers look =
      absurd (declared_no_made (facts_in x.table) (type.distinct key) made)
  all_come (type.exception key) wants from xs made long are typed placed has numbers look =
      absurd (declared_no_made (facts_in x.table) (type.exception key) made)

-- ---- the line

module _ (x : Basis) (labels : LabelsLead x) (g : Both) (rest : List BlockLine) (to : ℕ) (how : UseAt) (ty : Option ℕ) (of : List (Option ℕ))
    (from : List From) where
  abbrev making : BlockLine
  making = plain (L.Apply to O.Make how ty of from)

  abbrev into : Housed
  into = house g.call.site (of_value to)

  abbrev Made : IsGood x (starts g making rest) → Values → Type 0
  Made y vs = Settles x (starts g making rest) rest
      (Passes (Answers [] (1 + (bytes (Parts vs) + 0)) (with_value to g.call.temps (Parts vs)) g.world))

  module _ (y : IsGood x (starts g making rest)) (there : IsThere g.call.site (of_value to)) (inside : InMemory into.home)
      (numbers : of_numbers (looked x.table g.call.site (of_value to)) ≡ true) where
    plain_is : holds_address into ≡ false
    plain_is = value_plain into there.kind

    abbrev next : List WordInstr
    next = code_next x g making rest y

    -- no code
    no_parts : code_here x g making rest y ≡ next → has_shape (Parts Nil) (looked x.table g.call.site (of_value to)) ≡ true → Made y Nil
    no_parts none shaped =
        let gets : Gets x g making rest y (Label 0 ∷ next) next (of_value to) (Parts Nil) 1 = record {
          vars = g.call.vars;
          memory = g.memory;
          words = g.words;
          awaits = g.awaits;
          good = y.memory;
          heap = heap_same g.memory;
          edit = nowhere refl;
          variables = λ h u i ne is. refl;
          left = refl;
          at_place = to_memory g.memory g.call.site.base g.call.vars into (Parts Nil) plain_is inside tt;
          steps = 1;
          some = omega arith;
          few = omega arith;
          runs = run_label x.live (all_procs x) (within x.table x.blocks g) g.memory next g.call.vars g.words 0;
        } in
        stays_on x (starts g making rest) (changed g rest (with_value to g.call.temps (Parts Nil)) g.call.vars g.memory g.words g.awaits g.world)
        rest (good_value x g making rest y rest (stands_next x.table x.blocks (body_of g) making rest y.stands) (Label 0 ∷ next) next to (Parts Nil) 1
        there numbers shaped gets)
        (1 + (bytes (Parts Nil) + 0)) (with_value to g.call.temps (Parts Nil)) g.world
        (ap (λ k. at (within x.table x.blocks g) g.memory k g.call.vars g.words) (sym none)) refl (omega arith)

    some_parts : (v : Value) (vs : Values) → has_shape (Parts (More v vs)) (looked x.table g.call.site (of_value to)) ≡ true
        → Come x g making rest y to from (More v vs) → Made y (More v vs)
    some_parts v vs shaped come =
        let here : List WordInstr = code_here x g making rest y in
        let all : ℕ = bytes_all (More v vs) in
        let start : ℕ = address_of g.call.site.base into.home in
        let size : into.bytes ≡ bytes (Parts (More v vs))
        = size_is x (all_sites x g making rest y) y.linked g.call (inl refl) (of_value to) there plain_is (Parts (More v vs)) numbers shaped in
        let are = values_of_numbers (Parts (More v vs)) (looked x.table g.call.site (of_value to)) numbers shaped in
        let is_all : bytes (Parts (More v vs)) ≡ all = parts_bytes v vs are.0 in
        let least : 4 ≤ bytes v = bytes_some v are.0 in
        let s0 : Sofar x g making rest y to there inside here here 0 = record {
          memory = g.memory;
          vars = g.call.vars;
          words = g.words;
          awaits = g.awaits;
          good = y.memory;
          changed = changed_same g.memory start into.bytes y.memory.sized;
          same = all_same g.call.vars;
          steps = 0;
          few = omega arith;
          runs = no_run (lower x) (low x.table x.blocks (starts g making rest));
        } in
        let done = parts_moved x g making rest y to there inside from (More v vs) come into.home inside start refl (omega arith)
        (omega (arith, size, is_all))
        (address_whole x (all_sites x g making rest y) y.linked g.call.site (of_value to) (inl refl) there inside) here next 0 s0 in
        value_settles x g making rest y to (Parts (More v vs)) (5 * all) (1 + (bytes (Parts (More v vs)) + 0)) there numbers shaped
        (gets_bytes x g making rest y (of_value to) there plain_is (Parts (More v vs)) numbers shaped here next (5 * all) inside (record {
          memory = done.sofar.memory;
          vars = done.sofar.vars;
          words = done.sofar.words;
          awaits = done.sofar.awaits;
          same = done.sofar.same;
          changed = subst (λ n. Changed g.memory done.sofar.memory start n) size done.sofar.changed;
          there = done.are_at;
          steps = done.sofar.steps;
          some = (let h = done.some (omega (arith, least)) in omega (arith, h));
          few = (let h = done.sofar.few in omega (arith, h));
          runs = done.sofar.runs;
        })) (omega (arith, is_all))

    made : (vs : Values) → has_shape (Parts vs) (looked x.table g.call.site (of_value to)) ≡ true → Come x g making rest y to from vs → Made y vs
    made Nil shaped come = no_parts (no_code from come) shaped
      where
        no_code : (from : List From) → Come x g making rest y to from Nil
            → parts_code (house g.call.site (of_value to)).home (operands (around x.table x.blocks (body_of g)) from) (code_next x g making rest y)
            ≡ code_next x g making rest y
        no_code [] come = refl
        no_code (F.Value t ∷ from) come = absurd come
        no_code (F.Place t ∷ from) come = absurd come
    made (More v vs) shaped come = some_parts v vs shaped come

  pub make_line : RowHere x g rest to O.Make how ty of from
  make_line names y =
      let f = applies x g rest to O.Make how ty of from names y in
      let wants : List (Option Ty) = map (if_type (known x).types) of in
      let k : TypeKind = kind_if (facts_in x.table) (if_type (known x).types ty) in
      let p = and_parts (is_made k) (has_parts k (length wants) && are_parts k 0 wants) f.row in
      let s = some_kind (facts_in x.table) (if_type (known x).types ty) is_made refl p.0 in
      let typed = value_type_by (value_type x g making rest y to) (if_type (known x).types ty) s.0 f.given s.1 in
      let t = target x g making rest y to s.0 refl refl typed names.0 in
      let q = and_parts (has_parts (kind_of (facts_in x.table) s.0) (length wants)) (are_parts (kind_of (facts_in x.table) s.0) 0 wants)
      (subst (λ o. (has_parts (kind_if (facts_in x.table) o) (length wants) && are_parts (kind_if (facts_in x.table) o) 0 wants) ≡ true) s.1 p.1) in
      using_all_settles x (starts g making rest) rest g.call.temps from
      (λ xs. gives (scene_of (high x.table x.blocks (starts g making rest))) to
      (costs 1 (costs (bytes (Parts (values_in xs))) (give (Parts (values_in xs))))
      >>= kept_if (gives_hooked (facts_in x.table) (if_type (known x).types ty)) (bound_for g how)))
      (λ xs has. let c = all_come x g making rest y to s.0 wants from xs s.2 q.0 q.1 f.typed f.placed has t.numbers t.look in
      let inside = in_memory x g making rest y (of_value to) t.there (value_plain into t.there.kind) (ap is_one_word t.look ∙ c.2) in
      subst (λ b. Settles x (starts g making rest) rest (gives (scene_of (high x.table x.blocks (starts g making rest))) to
      (costs 1 (costs (bytes (Parts (values_in xs))) (give (Parts (values_in xs)))) >>= kept_if b (bound_for g how))))
      (sym (ap (gives_hooked (facts_in x.table)) s.1 ∙ t.unhooked))
      (made y t.there inside t.here (values_in xs) (subst (λ u. has_shape (Parts (values_in xs)) u ≡ true) (sym t.look) c.1) c.0))
