-- An object that is constructed: zeros, and then each field that is given. What the line does is followed.
use Rattle.std.proofs.Common.{◌≡◌, inl, ℕ, zero, suc, ◌+◌, ◌*◌, ◌≤◌, List, [], ◌∷◌, map}
use Rattle.std.proofs.Common.{Option, Some, None, Bool, true, false, refl, sym}
use Rattle.std.proofs.Common.{ap, ap₂, subst, ◌∙◌, arith}
use Rattle.std.specs.Prelude.{nat_eq, not, ◌||◌, ◌&&◌, if◌then◌else◌}
use Rattle.std.proofs.lemmas.Bool.{and_parts, eq-eqb}
use Rattle.nim_types.specs.Types as type
use Rattle.nim_types.specs.Types.{Ty, Facts, Fact, members, fields, base, below, fact_of}
use Rattle.nim_types.specs.Table.{facts_in, type_at}
use Rattle.nim_types.specs.Forms.{form_of}
use Rattle.nim_program.specs.Fitting.{are_distinct, are_fields, built, is_built, is_in}
use Rattle.nim_program.specs.Kinds.{TypeKind, declared_kind, field_at, is_of, kind_of}
use Rattle.flat_code.specs.declared.line.UseAt.{UseAt}
use Rattle.nim_meaning.specs.Values.{Value, Values, Nil, More, bytes, default_of, part, put_part, Operand, values_in}
use Rattle.nim_meaning.specs.Table.{with_fields}
use Rattle.nim_meaning.specs.Deeds.{Answers, costs, give, ◌>>=◌}
use Rattle.nim_meaning.specs.Here.{gives_hooked}
use Rattle.nim_meaning.specs.Places.{kept_if}
use Rattle.flat_code.specs.declared.block.BlockLine.{BlockLine}
use Rattle.flat_code.specs.declared.line.From.{From}
use Rattle.flat_code.specs.declared.line.From.TheVariants as F
use Rattle.flat_code.specs.declared.line.Line.TheVariants as L
use Rattle.flat_code.specs.Fits.{are_values}
use Rattle.flat_code.specs.Fits as fit
use Rattle.flat_code.specs.Lines.{gives}
use Rattle.flat_code.specs.Running.{scene_of}
use Rattle.flat_code.specs.Scene.{Passes, with_value}
use Rattle.flat_code.specs.Shapes.{Shape, parts, Shapes, no_shapes, shapes, has_shape, shape_of}
use Rattle.word_code.specs.declared.word.WordInstr.{WordInstr}
use Rattle.word_code.specs.Memory.{Memory}
use Rattle.word_code.proofs.ForCallers.{Apart, Changed, Runs, at as run_at}
use Rattle.word_lowering.specs.declared.homes.Housed.{Housed}
use Rattle.word_lowering.specs.declared.spots.Spot.TheVariants.{Lies}
use Rattle.word_lowering.specs.Layouts.{holds_address}
use Rattle.word_lowering.specs.Spots.{spot_of, shifted, cleared, clears}
use Rattle.word_lowering.specs.Stored.{part_at}
use Rattle.word_lowering.specs.LineCode.{fields_code, operands}
use Rattle.word_lowering.proofs.AddressFacts.{in_memory}
use Rattle.word_lowering.proofs.AllOperands.{Have, using_all_settles}
use Rattle.word_lowering.proofs.Clears.{zeros_by}
use Rattle.word_lowering.proofs.ControlLines.{FollowedHere, plain, value_type}
use Rattle.word_lowering.proofs.Gets.{memory_kept, gets_bytes, value_settles}
use Rattle.word_lowering.proofs.InMemory.{IsAt, AllZero, blank_zero, bytes_some, of_numbers as are_numbers, or_word_least}
use Rattle.word_lowering.proofs.Keeping.{spot_memory}
use Rattle.word_lowering.proofs.LineFits.{are_of}
use Rattle.word_lowering.proofs.Lines.{Basis, IsGood, Settles, all_procs, all_sites, fits_here, known, starts, bound_for}
use Rattle.word_lowering.proofs.Moves.{is_single}
use Rattle.word_lowering.proofs.Options.{none_some, some_same}
use Rattle.word_lowering.proofs.PartRuns.{PartOf, Sofar, more_most, part_moved, shifted_address, shifted_inside}
use Rattle.word_lowering.proofs.PartShapes.{part_comes}
use Rattle.word_lowering.proofs.ShapeDepth.{nth_depth, depth}
use Rattle.word_lowering.proofs.PartsInMemory.{offset, part_within, offset_whole, put_at}
use Rattle.word_lowering.proofs.Related.{Both, body_of, within, high}
use Rattle.word_lowering.proofs.RoutineCalls.{awaiting}
use Rattle.word_lowering.proofs.Scenes.{IsThere, address_of, house, looked, of_value}
use Rattle.word_lowering.proofs.Settling.{LabelsLead, code_here, code_next}
use Rattle.word_lowering.proofs.ShapeFacts.{bytes_is, never, nth_shape, of_numbers, shape_bytes, shapes_bytes, values_of_numbers}
use Rattle.word_lowering.proofs.ShapePaths.{PathTo, path_in, path_numbers, path_put, shapes_before}
use Rattle.word_lowering.proofs.Sites.{InMemory, around, globals_of, is_one_word, sigs}
use Rattle.word_lowering.proofs.Sources.{address_whole, lying_all, size_is, word_is}
use Rattle.word_lowering.proofs.Targets.{target}
use Rattle.word_lowering.proofs.ValueFacts.{value_plain}

-- ---- fields, each of which is named once, have no more bytes than all

if_named : Bool → ℕ → ℕ
if_named named n = if named then n else 0

-- the bytes of those parts that are named, where the first one has a number
pub named_bytes : Shapes → List ℕ → (first : ℕ) → ℕ
named_bytes no_shapes names k = 0
named_bytes (shapes s ss) names k = if_named (is_in k names) (shape_bytes s) + named_bytes ss names (suc k)

some_named : (b : Bool) (n : ℕ) → if_named b n ≤ n
unfolding if_named
some_named true n = omega arith
some_named false n = omega arith

more_named : (b c : Bool) (n : ℕ) → if_named c n ≤ if_named (b || c) n
unfolding if_named
more_named true true n = omega arith
more_named true false n = omega arith
more_named false c n = omega arith

pub named_at_most : (ss : Shapes) (names : List ℕ) (k : ℕ) → named_bytes ss names k ≤ shapes_bytes ss
unfolding named_bytes
named_at_most no_shapes names k = omega arith
named_at_most (shapes s ss) names k =
    let a = some_named (is_in k names) (shape_bytes s) in let b = named_at_most ss names (suc k) in omega (arith, a, b)

named_more : (ss : Shapes) (field : ℕ) (names : List ℕ) (k : ℕ) → named_bytes ss names k ≤ named_bytes ss (field ∷ names) k
unfolding named_bytes
named_more no_shapes field names k = omega arith
named_more (shapes s ss) field names k =
    let a = more_named (nat_eq k field) (is_in k names) (shape_bytes s) in let b = named_more ss field names (suc k) in omega (arith, a, b)

first_named : (b c : Bool) (n : ℕ) → b ≡ true → c ≡ false → n + if_named c n ≤ if_named (b || c) n
unfolding if_named
first_named true false n e f = omega arith
first_named true true n e f = never (sym f)
first_named false c n e f = never e

pub named_first : (ss : Shapes) (field : ℕ) (names : List ℕ) (k i : ℕ) (t : Shape) → nth_shape ss i ≡ Some t → field ≡ k + i
    → is_in field names ≡ false → shape_bytes t + named_bytes ss names k ≤ named_bytes ss (field ∷ names) k
unfolding named_bytes
named_first no_shapes field names k i t e is other = absurd (none_some t e)
named_first (shapes s ss) field names k zero t e is other =
    let a = first_named (nat_eq k field) (is_in k names) (shape_bytes s) (eq-eqb k field (omega (arith, is)))
    (subst (λ n. is_in n names ≡ false) (omega (arith, is)) other) in
    let b = named_more ss field names (suc k) in
    let f : shape_bytes s ≡ shape_bytes t = ap shape_bytes (some_same s t e) in
    omega (arith, a, b, f)
named_first (shapes s ss) field names k (suc i) t e is other =
    let a = more_named (nat_eq k field) (is_in k names) (shape_bytes s) in
    let b = named_first ss field names (suc k) i t e (omega (arith, is)) other in
    omega (arith, a, b)

pub not_true : (b : Bool) → not b ≡ true → b ≡ false
not_true true h = never h
not_true false h = refl

-- ---- what is constructed is an object, unless it is a ref

pub declared_built : (facts : Facts) (o : Option Fact) → built facts (declared_kind o) ≡ declared_kind o
declared_built facts None = refl
declared_built facts (Some (members names)) = refl
declared_built facts (Some (fields all own)) = refl
declared_built facts (Some (base t)) = refl
declared_built facts (Some (below t)) = refl

built_is : (facts : Facts) (ty : Ty) → of_numbers (shape_of facts ty) ≡ true → built facts (kind_of facts ty) ≡ kind_of facts ty
built_is facts type.int o = refl
built_is facts type.bool o = refl
built_is facts type.char o = refl
built_is facts type.text o = refl
built_is facts (type.sequence t) o = refl
built_is facts (type.array n t) o = refl
built_is facts (type.tuple names ts) o = refl
built_is facts (type.parameter n) o = refl
built_is facts (type.ref name t) o = never o
built_is facts (type.enum key) o = declared_built facts (fact_of facts (type.enum key))
built_is facts (type.object key arguments) o = declared_built facts (fact_of facts (type.object key arguments))
built_is facts (type.distinct key) o = declared_built facts (fact_of facts (type.distinct key))
built_is facts (type.exception key) o = declared_built facts (fact_of facts (type.exception key))

-- ---- operands that are fields

abbrev pub spent : Values → ℕ
spent Nil = 0
spent (More v vs) = bytes v + spent vs

module _ (x : Basis) (g : Both) (line : BlockLine) (rest : List BlockLine) (y : IsGood x (starts g line rest)) (to : ℕ) (ss : Shapes)
    (look : looked x.table g.call.site (of_value to) ≡ parts ss) where
  -- each is of the shape of its field
  abbrev pub FieldsCome : List ℕ → List From → Values → Type 0
  FieldsCome [] [] Nil = Unit {0}
  FieldsCome (field ∷ names) (F.Value t ∷ from) (More v vs) =
      ((s : Shape) × (nth_shape ss field ≡ Some s) × PartOf x g line rest y to t v s) × FieldsCome names from vs
  FieldsCome names from vs = ⊥

  spent_named : (names : List ℕ) (from : List From) (vs : Values) → FieldsCome names from vs → are_distinct names ≡ true
      → spent vs ≤ named_bytes ss names 0
  spent_named [] [] Nil come once = omega arith
  spent_named [] [] (More v vs) come once = absurd come
  spent_named [] (f ∷ from) vs come once = absurd come
  spent_named (field ∷ names) [] vs come once = absurd come
  spent_named (field ∷ names) (F.Place t ∷ from) vs come once = absurd come
  spent_named (field ∷ names) (F.Value t ∷ from) Nil come once = absurd come
  spent_named (field ∷ names) (F.Value t ∷ from) (More v vs) come once =
      let o = and_parts (not (is_in field names)) (are_distinct names) once in
      let c = come.0 in
      let a = named_first ss field names 0 field c.0 c.1 (omega arith) (not_true (is_in field names) o.0) in
      let b = spent_named names from vs come.1 o.1 in
      let e : bytes v ≡ shape_bytes c.0 = bytes_is v c.0 c.2.numbers c.2.shaped in
      omega (arith, a, b, e)

  module _ (k : TypeKind) (nth : (field : ℕ) (of : Ty) → field_at k field ≡ Some of → nth_shape ss field ≡ Some (shape_of (facts_in x.table) of)) where
    abbrev taken : From → Option Ty
    taken f = fit.taken (known x) (sigs x.table x.blocks) (globals_of x.table x.blocks) (body_of g).proc.places f

    fields_come : of_numbers (parts ss) ≡ true → (names : List ℕ) (from : List From) (xs : List Operand)
        → are_fields k names (map taken from) ≡ true → are_values from ≡ true → Have g.call.temps from xs → FieldsCome names from (values_in xs)
    fields_come numbers [] [] [] are placed has = tt
    fields_come numbers [] [] (z ∷ xs) are placed has = absurd has
    fields_come numbers [] (f ∷ from) xs are placed has = never are
    fields_come numbers (field ∷ names) [] xs are placed has = never are
    fields_come numbers (field ∷ names) (F.Place t ∷ from) xs are placed has = never placed
    fields_come numbers (field ∷ names) (F.Value t ∷ from) [] are placed has = absurd has
    fields_come numbers (field ∷ names) (F.Value t ∷ from) (z ∷ xs) are placed has =
        let p = and_parts (is_of (value_type x g line rest y t) (field_at k field)) (are_fields k names (map taken from)) are in
        let v = are_of (value_type x g line rest y t) (field_at k field) p.0 in
        let is = nth field v.ty v.is_other in
        let way : PathTo (parts ss) (field ∷ []) (shapes_before ss field) (shape_of (facts_in x.table) v.ty)
        = (shape_of (facts_in x.table) v.ty, shapes_before ss field, 0, (is, refl), (refl, refl), omega arith) in
        let less = nth_depth ss field (shape_of (facts_in x.table) v.ty) is in
        let d : depth (looked x.table g.call.site (of_value to)) ≡ depth (parts ss) = ap depth look in (
          (
            shape_of (facts_in x.table) v.ty,
            is,
            part_comes x g line rest y to t z v.ty has.0 v.is
                (path_numbers (parts ss) (field ∷ []) (shapes_before ss field) (shape_of (facts_in x.table) v.ty) numbers way) (omega (arith, less, d)),
          ),
          fields_come numbers names from xs p.1 placed has.1,
        )

  module _ (ty : ℕ) (there : IsThere g.call.site (of_value to)) (inside : InMemory (house g.call.site (of_value to)).home)
      (numbers : of_numbers (parts ss) ≡ true) (size : (house g.call.site (of_value to)).bytes ≡ shape_bytes (parts ss))
      (stands : (i : ℕ) (s : Shape) → nth_shape ss i ≡ Some s → part_at x.table ty i ≡ shapes_before ss i) where
    abbrev place : Housed
    place = house g.call.site (of_value to)

    abbrev start : ℕ
    start = address_of g.call.site.base place.home

    abbrev So : (lines k : List WordInstr) → ℕ → Type 0
    So lines k most = Sofar x g line rest y to there inside lines k most

    abbrev code_of : List ℕ → List From → List WordInstr → List WordInstr
    code_of names from k = fields_code (around x.table x.blocks (body_of g)) place.home ty names (operands (around x.table x.blocks (body_of g)) from) k

    record FieldsAfter (before : ℕ) (lines k : List WordInstr) (u : Value) (most : ℕ) : Type 0 where
      pub sofar : So lines k most
      pub is_at : IsAt sofar.memory start u
      pub shaped : has_shape u (parts ss) ≡ true
      pub more : before ≤ sofar.steps

    -- one field
    field_moved : (field : ℕ) (names : List ℕ) (t : ℕ) (from : List From) (v : Value) (s : Shape) → nth_shape ss field ≡ Some s
        → PartOf x g line rest y to t v s → (u : Value) → has_shape u (parts ss) ≡ true
        → (lines k : List WordInstr) (most : ℕ) → (o : So lines (code_of (field ∷ names) (F.Value t ∷ from) k) most) → IsAt o.memory start u
        → FieldsAfter o.steps lines (code_of names from k) (put_part u (field ∷ []) v) (most + (10 + 2 * bytes v))
    field_moved field names t from v s nth part_is u shaped lines k most o is_at =
        let before : ℕ = shapes_before ss field in
        let path : List ℕ = field ∷ [] in
        let way : PathTo (parts ss) path before s = (s, before, 0, (nth, refl), (refl, refl), omega arith) in
        let w = path_in u (parts ss) path before s numbers shaped way in
        let same : bytes v ≡ bytes (part u path) = bytes_is v s part_is.numbers part_is.shaped ∙ sym (bytes_is (part u path) s part_is.numbers w.2) in
        let less = part_within u path (are_numbers o.memory start u is_at) w.0 in
        let all : bytes u ≡ shape_bytes (parts ss) = bytes_is u (parts ss) numbers shaped in
        let by_words = offset_whole u path in
        let first = address_whole x (all_sites x g line rest y) y.linked g.call.site (of_value to) (inl refl) there inside in
        let far : part_at x.table ty field ≡ before = stands field s nth in
        let off : offset u path ≡ before = w.1 in
        let address = shifted_address g.call.site.base (part_at x.table ty field) place.home inside in
        let a = part_moved x g line rest y to there inside t v s part_is (shifted (part_at x.table ty field) place.home)
        (shifted_inside (part_at x.table ty field) place.home inside) (start + before) (omega (arith, address, far)) (omega arith)
        (omega (arith, less, same, off, all, size)) (omega (arith, by_words, first, off)) lines (code_of names from k) most o in
        let m : Memory = a.sofar.memory in
        record {
          sofar = a.sofar;
          is_at = put_at o.memory m start u path v w.0 same is_at
              (λ i within whole apart. a.changed.outside (start + i)
              (subst (λ n. Apart (start + i) n (bytes v)) (omega (arith, off)) apart))
              (subst (λ n. IsAt m n v) (omega (arith, off)) a.is_at);
          shaped = path_put u (parts ss) path before s v numbers shaped way part_is.shaped;
          more = (let h = a.some in omega (arith, h));
        }

    fields_moved : (names : List ℕ) (from : List From) (vs : Values) → FieldsCome names from vs → (u : Value)
        → has_shape u (parts ss) ≡ true
        → (lines k : List WordInstr) (most : ℕ) → (o : So lines (code_of names from k) most) → IsAt o.memory start u
        → FieldsAfter o.steps lines k (with_fields u names vs) (most + 5 * spent vs)
    fields_moved [] [] Nil come u shaped lines k most o is_at = record {
      sofar = more_most x g line rest y to there inside lines k most (most + 5 * 0) (omega arith) o;
      is_at = is_at;
      shaped = shaped;
      more = omega arith;
    }
    fields_moved [] [] (More v vs) come u shaped lines k most o is_at = absurd come
    fields_moved [] (f ∷ from) vs come u shaped lines k most o is_at = absurd come
    fields_moved (field ∷ names) [] vs come u shaped lines k most o is_at = absurd come
    fields_moved (field ∷ names) (F.Place t ∷ from) vs come u shaped lines k most o is_at = absurd come
    fields_moved (field ∷ names) (F.Value t ∷ from) Nil come u shaped lines k most o is_at = absurd come
    fields_moved (field ∷ names) (F.Value t ∷ from) (More v vs) come u shaped lines k most o is_at =
        let c = come.0 in
        let a = field_moved field names t from v c.0 c.1 c.2 u shaped lines k most o is_at in
        let q = fields_moved names from vs come.1 (put_part u (field ∷ []) v) a.shaped lines k (most + (10 + 2 * bytes v)) a.sofar a.is_at in
        let some : 4 ≤ bytes v = bytes_some v (values_of_numbers v c.0 c.2.numbers c.2.shaped) in
        record {
          sofar = more_most x g line rest y to there inside lines k (most + (10 + 2 * bytes v) + 5 * spent vs) (most + 5 * (bytes v + spent vs))
              (omega (arith, some)) q.sofar;
          is_at = q.is_at;
          shaped = q.shaped;
          more = (let h = a.more in let j = q.more in omega (arith, h, j));
        }

    -- zeros, and then the fields
    pub constructed : (names : List ℕ) (from : List From) (vs : Values) → FieldsCome names from vs → are_distinct names ≡ true
        → (zero_value : Value) → AllZero zero_value → has_shape zero_value (parts ss) ≡ true
        → code_here x g line rest y ≡ clears place (code_of names from (code_next x g line rest y))
        → Settles x (starts g line rest) rest (Passes (Answers [] (1 + (bytes zero_value + 0))
        (with_value to g.call.temps (with_fields zero_value names vs)) g.world))
    constructed names from vs come once zero_value zeros shaped code =
        let next : List WordInstr = code_next x g line rest y in
        let here : List WordInstr = code_here x g line rest y in
        let k : List WordInstr = code_of names from next in
        let plain_is : holds_address place ≡ false = value_plain place there.kind in
        let n : ℕ = bytes zero_value in
        let all : bytes zero_value ≡ shape_bytes (parts ss) = bytes_is zero_value (parts ss) numbers shaped in
        let long : place.bytes ≡ bytes zero_value = size ∙ sym all in
        let single : place.is_word ≡ is_single zero_value
        = word_is x (all_sites x g line rest y) y.linked g.call (inl refl) (of_value to) there plain_is zero_value
        (ap of_numbers look ∙ numbers) (subst (λ s. has_shape zero_value s ≡ true) (sym look) shaped) in
        let lying = lying_all x (all_sites x g line rest y) y.linked g.call.site (of_value to) (bytes zero_value) (inl refl) there inside long in
        let r = zeros_by x g line rest y (of_value to) there inside zero_value zeros long k in
        let same_code : clears place k ≡ cleared (is_single zero_value) (bytes zero_value) (Lies place.home) k
        = ap₂ (λ a b. cleared a b (spot_of place) k) single long ∙ ap (λ p. cleared (is_single zero_value) (bytes zero_value) p k)
        (spot_memory place plain_is inside) in
        let s0 : So here k (9 + n) = record {
          memory = r.memory;
          vars = r.vars;
          words = r.words;
          awaits = r.awaits;
          good = memory_kept x (all_sites x g line rest y) y.linked g.memory r.memory start (bytes zero_value) y.memory r.changed lying;
          changed = subst (λ b. Changed g.memory r.memory start b) (sym long) r.changed;
          same = r.same;
          steps = r.steps;
          few = r.few;
          runs = subst (λ c. Runs x.live (all_procs x) r.steps (run_at (within x.table x.blocks g) g.memory c g.call.vars g.words)
              (run_at (awaiting (within x.table x.blocks g) r.awaits) r.memory k r.vars r.words)) (sym (code ∙ same_code)) r.runs;
        } in
        let d = fields_moved names from vs come zero_value shaped here next (9 + n) s0 r.there in
        let made : Value = with_fields zero_value names vs in
        let full : bytes made ≡ shape_bytes (parts ss) = bytes_is made (parts ss) numbers d.shaped in
        let look_made : has_shape made (looked x.table g.call.site (of_value to)) ≡ true = subst (λ s. has_shape made s ≡ true)
        (sym look) d.shaped in
        let cost : spent vs ≤ shapes_bytes ss = (let a = spent_named names from vs come once in let b = named_at_most ss names 0 in omega (arith, a, b)) in
        let least : shapes_bytes ss ≤ shape_bytes (parts ss) = or_word_least (shapes_bytes ss) in
        value_settles x g line rest y to made (9 + n + 5 * spent vs) (1 + (n + 0)) there (ap of_numbers look ∙ numbers) look_made
        (gets_bytes x g line rest y (of_value to) there plain_is made (ap of_numbers look ∙ numbers) look_made here next (9 + n + 5 * spent vs) inside (record {
          memory = d.sofar.memory;
          vars = d.sofar.vars;
          words = d.sofar.words;
          awaits = d.sofar.awaits;
          same = d.sofar.same;
          changed = subst (λ b. Changed g.memory d.sofar.memory start b) (size ∙ sym full) d.sofar.changed;
          there = d.is_at;
          steps = d.sofar.steps;
          some = (let h = d.more in let j = r.some in omega (arith, h, j));
          few = d.sofar.few;
          runs = d.sofar.runs;
        })) (omega (arith, cost, least, all))

-- ---- the line

module _ (x : Basis) (labels : LabelsLead x) (g : Both) (rest : List BlockLine) (to : ℕ) (how : UseAt) (ty : ℕ) (names : List ℕ) (from : List From) where
  abbrev building : BlockLine
  building = plain (L.Construct to how ty names from)

  abbrev to_type : Ty
  to_type = type_at (known x).types ty

  abbrev start_value : Value
  start_value = default_of (facts_in x.table) to_type

  abbrev to_kind : TypeKind
  to_kind = kind_of (facts_in x.table) to_type

  abbrev all_taken : List (Option Ty)
  all_taken = map (fit.taken (known x) (sigs x.table x.blocks) (globals_of x.table x.blocks) (body_of g).proc.places) from

  pub construct_line : FollowedHere x labels g rest (L.Construct to how ty names from)
  construct_line plain_names y =
      let whole_kind : TypeKind = built (facts_in x.table) to_kind in
      let named : Bool = are_distinct names && are_fields whole_kind names all_taken in
      let f = and_parts ((is_built whole_kind && named) && are_values from) (is_of (value_type x g building rest y to) (Some to_type))
      (fits_here x.table x.blocks (body_of g) building rest y.stands) in
      let p = and_parts (is_built whole_kind && named) (are_values from) f.0 in
      let q = and_parts (is_built whole_kind) named p.0 in
      let r = and_parts (are_distinct names) (are_fields whole_kind names all_taken) q.1 in
      let v = are_of (value_type x g building rest y to) (Some to_type) f.1 in
      let t = target x g building rest y to to_type refl refl (v.is ∙ sym v.is_other) plain_names.0 in
      let same = built_is (facts_in x.table) to_type t.numbers in
      let o = x.objects ty (subst (λ k. is_built k ≡ true) same q.0) t.numbers in
      let look : looked x.table g.call.site (of_value to) ≡ parts o.0 = t.look ∙ o.1 in
      let numbers : of_numbers (parts o.0) ≡ true = subst (λ s. of_numbers s ≡ true) o.1 t.numbers in
      let plain_is = value_plain (house g.call.site (of_value to)) t.there.kind in
      let inside = in_memory x g building rest y (of_value to) t.there plain_is (ap is_one_word look) in
      let shaped : has_shape start_value (parts o.0) ≡ true = subst (λ s. has_shape start_value s ≡ true) o.1 (x.defaults ty) in
      let size : (house g.call.site (of_value to)).bytes ≡ shape_bytes (parts o.0)
      = size_is x (all_sites x g building rest y) y.linked g.call (inl refl) (of_value to) t.there plain_is start_value
      t.here (subst (λ s. has_shape start_value s ≡ true) (sym look) shaped) ∙ bytes_is start_value (parts o.0) numbers shaped in
      using_all_settles x (starts g building rest) rest g.call.temps from
      (λ xs. gives (scene_of (high x.table x.blocks (starts g building rest))) to
      (costs 1 (costs (bytes start_value) (give (with_fields start_value names (values_in xs))))
      >>= kept_if (gives_hooked (facts_in x.table) (Some to_type)) (bound_for g how)))
      (λ xs has. subst (λ b. Settles x (starts g building rest) rest (gives (scene_of (high x.table x.blocks (starts g building rest))) to
      (costs 1 (costs (bytes start_value) (give (with_fields start_value names (values_in xs)))) >>= kept_if b (bound_for g how)))) (sym t.unhooked)
      (constructed x g building rest y to o.0 look ty t.there inside numbers size (λ i s e. x.parts_at ty o.0 i s o.1 e) names from
      (values_in xs)
      (fields_come x g building rest y to o.0 look to_kind o.2 numbers names from xs (subst (λ k. are_fields k names all_taken ≡ true) same r.1) p.1 has)
      r.0 start_value (blank_zero (form_of (facts_in x.table) to_type) t.unhooked) shaped refl))
