-- An object that is constructed of values whatever they have: zeros, and then each field, by its bits or as a number.
use Rattle.std.proofs.Common.{◌≡◌, ◌≢◌, ◌⊎◌, inl, inr, ℕ, zero, suc, ◌+◌, ◌*◌, ◌%◌, ◌<◌, ◌≤◌, List, [], ◌∷◌, map, Option, Some, Bool, true, false}
use Rattle.nim_meaning.specs.Shapes.{waits}
use Rattle.word_lowering.specs.declared.homes.Alias.TheVariants as alias
use Rattle.word_lowering.proofs.UsedValues.{used_there}
use Rattle.word_lowering.specs.MayLower.{own_values, same_alias}
use Rattle.word_lowering.specs.WaitingCode.{kept_if}
use Rattle.word_lowering.proofs.MadeValues.{made_completes}
use Rattle.std.proofs.Common.{refl, sym, ap, ap₂}
use Rattle.std.proofs.Common.{subst, ◌∙◌, arith}
use Rattle.std.specs.Prelude.{not, ◌&&◌}
use Rattle.std.proofs.lemmas.Bool.{and_from, and_parts, cases_Bool}
use Rattle.nim_types.specs.Table.{facts_in, type_at}
use Rattle.nim_types.specs.Types as type
use Rattle.nim_types.specs.Types.{Facts, Ty, fact_of}
use Rattle.nim_program.specs.Fitting.{are_distinct, are_fields, built, is_built, is_in}
use Rattle.nim_program.specs.Kinds.{TypeKind, field_at, is_of, kind_of}
use Rattle.nim_meaning.specs.Deeds as deeds
use Rattle.nim_meaning.specs.Deeds.{Answers, costs, ◌>>=◌}
use Rattle.nim_meaning.specs.Here.{gives_hooked}
use Rattle.nim_meaning.specs.Places as places
use Rattle.nim_meaning.specs.Table.{with_fields}
use Rattle.nim_meaning.specs.Values.{Value, Number, Parts, Handle, Fixed, Ref, Resource, Gone, Vacant, Values, Nil, More, bytes, default_of, put_part, with_nth}
use Rattle.nim_meaning.specs.Values.{Operand, values_in, with_part}
use Rattle.flat_code.specs.Fits as fit
use Rattle.flat_code.specs.Fits.{are_values, is_value}
use Rattle.flat_code.specs.Lines.{gives}
use Rattle.flat_code.specs.Running.{scene_of}
use Rattle.flat_code.specs.Scene.{Passes, with_value}
use Rattle.flat_code.specs.Shapes.{Shape, number, reference, block, elements, row, parts, resource, Shapes, no_shapes, shapes, has_shape, have_shapes, shape_of}
use Rattle.flat_code.specs.declared.block.BlockLine.{BlockLine}
use Rattle.flat_code.specs.declared.line.From.{From}
use Rattle.flat_code.specs.declared.line.From.TheVariants as F
use Rattle.flat_code.specs.declared.line.Line.TheVariants as L
use Rattle.flat_code.specs.declared.line.UseAt.{UseAt}
use Rattle.word_code.specs.Memory.{Memory}
use Rattle.word_code.specs.RoutineTable.{Separate, ZeroWords}
use Rattle.word_code.specs.Words.{no_words}
use Rattle.word_code.specs.declared.word.WordInstr.{WordInstr}
use Rattle.word_code.proofs.ForCallers.{Changed, Runs, at as run_at, then_runs}
use Rattle.word_lowering.specs.LineCode.{fields_code, operands, value}
use Rattle.word_lowering.specs.Spots.{clears, moved, shifted, spot_of}
use Rattle.word_lowering.specs.Stored.{part_at}
use Rattle.word_lowering.specs.declared.homes.Home.{Home}
use Rattle.word_lowering.specs.declared.homes.Housed.{Housed}
use Rattle.word_lowering.specs.declared.homes.TheConstants.{FIRST}
use Rattle.word_lowering.specs.declared.spots.Spot.TheVariants.{Lies}
use Rattle.word_lowering.proofs.AddressFacts.{high_in_memory, in_memory}
use Rattle.word_lowering.proofs.AllOperands.{Have, given_value, using_all_completes}
use Rattle.word_lowering.proofs.BitClears.{bits_cleared}
use Rattle.word_lowering.proofs.BitMoves.{bytes_moved, low_carried}
use Rattle.word_lowering.proofs.BlankShapes.{blank_in, of_handles, zeros_stored}
use Rattle.word_lowering.proofs.BlocksBorn.{later_same}
use Rattle.word_lowering.proofs.ConstructLines.{declared_built, named_at_most, named_bytes, named_first, not_true, spent}
use Rattle.word_lowering.proofs.ControlLines.{plain, value_type}
use Rattle.word_lowering.proofs.FullValues.{stored_bytes}
use Rattle.word_lowering.proofs.Gets.{heap_kept, high_variable, item_settles, memory_kept}
use Rattle.word_lowering.proofs.HookedReads.{bytes_of, value_lies}
use Rattle.word_lowering.proofs.InMemory.{or_word_least}
use Rattle.word_lowering.proofs.Keeping.{from_home, outside_still, points_there, somewhere, spot_memory, to_home}
use Rattle.word_lowering.proofs.LineFits.{are_of}
use Rattle.word_lowering.proofs.Lines.{Basis, IsGood, Settles, all_procs, all_sites, bound_for, fits_here, known, starts, Whole}
use Rattle.word_lowering.proofs.Moves.{high_behind, same_more}
use Rattle.word_lowering.proofs.NumbersStored.{at_numbers}
use Rattle.word_lowering.proofs.Options.{none_some, some_same}
use Rattle.word_lowering.proofs.PartRuns.{PartOf, Sofar, changed_both, item_there, more_most, part_moved, shifted_address, shifted_inside}
use Rattle.word_lowering.proofs.Related.{Both, body_of, high, store_with, within}
use Rattle.word_lowering.proofs.RoutineCalls.{awaiting}
use Rattle.word_lowering.proofs.Scenes.{IsThere, Points, StoredIn, address_of, house, is_fixed, looked, of_value}
use Rattle.word_lowering.proofs.Settling.{code_here, code_next}
use Rattle.word_lowering.proofs.ShapeDepth.{depth, nth_depth}
use Rattle.word_lowering.proofs.ShapeFacts.{bytes_is, never, nth_shape, of_numbers, shape_bytes, shapes_bytes}
use Rattle.word_lowering.proofs.ShapePaths.{PathTo, path_within, shapes_before}
use Rattle.word_lowering.proofs.Sites.{InMemory, around, globals_of, is_one_word, next_base, sigs}
use Rattle.word_lowering.proofs.SitesApart.{IsPlace, houses}
use Rattle.word_lowering.proofs.Sources.{Lying, address_whole, lying_all, lying_area, lying_near, lying_readable, separate_turned, whole_separate}
use Rattle.word_lowering.proofs.StoredLater.{shape_some, shape_whole, stored_small}
use Rattle.word_lowering.proofs.StoredParts.{path_put, path_whole}
use Rattle.word_lowering.proofs.Targets.{given, own_alias, homes_here}
use Rattle.word_lowering.proofs.ValueFacts.{has_type, look_of, value_plain, type_in, with_home}

-- ---- what is constructed is an object, unless it is a ref

built_handles : (facts : Facts) (ty : Ty) → of_handles (shape_of facts ty) ≡ true → built facts (kind_of facts ty) ≡ kind_of facts ty
built_handles facts type.int o = refl
built_handles facts type.bool o = refl
built_handles facts type.char o = refl
built_handles facts type.text o = refl
built_handles facts (type.sequence t) o = refl
built_handles facts (type.array n t) o = refl
built_handles facts (type.tuple names ts) o = refl
built_handles facts (type.parameter n) o = refl
built_handles facts (type.ref name t) o = never o
built_handles facts (type.enum key) o = declared_built facts (fact_of facts (type.enum key))
built_handles facts (type.object key arguments) o = declared_built facts (fact_of facts (type.object key arguments))
built_handles facts (type.distinct key) o = declared_built facts (fact_of facts (type.distinct key))
built_handles facts (type.exception key) o = declared_built facts (fact_of facts (type.exception key))

-- ---- shapes

many_numbers : (s : Shape) → of_numbers s ≡ false → is_one_word s ≡ false
many_numbers (number values) h = never (sym h)
many_numbers reference h = refl
many_numbers block h = refl
many_numbers (elements s) h = refl
many_numbers (row n s) h = refl
many_numbers (parts ss) h = refl
many_numbers (resource ss) h = refl

-- a field gets a value of its shape
nth_shaped : (vs : Values) (ss : Shapes) (i : ℕ) (t : Shape) (v : Value) → nth_shape ss i ≡ Some t → have_shapes vs ss ≡ true → has_shape v t ≡ true
    → have_shapes (with_nth vs i v) ss ≡ true
nth_shaped vs no_shapes i t v is h of_it = absurd (none_some t is)
nth_shaped Nil (shapes s ss) i t v is h of_it = never h
nth_shaped (More w vs) (shapes s ss) zero t v is h of_it =
    let p = and_parts (has_shape w s) (have_shapes vs ss) h in
    and_from (has_shape v s) (have_shapes vs ss) (subst (λ k. has_shape v k ≡ true) (sym (some_same s t is)) of_it) p.1
nth_shaped (More w vs) (shapes s ss) (suc i) t v is h of_it =
    let p = and_parts (has_shape w s) (have_shapes vs ss) h in
    and_from (has_shape w s) (have_shapes (with_nth vs i v) ss) p.0 (nth_shaped vs ss i t v is p.1 of_it)

part_shaped : (u : Value) (ss : Shapes) (i : ℕ) (t : Shape) (v : Value) → nth_shape ss i ≡ Some t → has_shape u (parts ss) ≡ true → has_shape v t ≡ true
    → has_shape (with_part u i v) (parts ss) ≡ true
part_shaped (Parts vs) ss i t v is h of_it = nth_shaped vs ss i t v is h of_it
part_shaped (Number z) ss i t v is h of_it = never h
part_shaped (Handle n k) ss i t v is h of_it = never h
part_shaped (Fixed text) ss i t v is h of_it = never h
part_shaped (Ref r) ss i t v is h of_it = never h
part_shaped (Resource vs j) ss i t v is h of_it = never h
part_shaped (Gone w f) ss i t v is h of_it = never h
part_shaped Vacant ss i t v is h of_it = never h

module _ (x : Basis) (g : Both) (line : BlockLine) (rest : List BlockLine) (y : IsGood x (starts g line rest)) (to : ℕ)
    (there : IsThere g.call.site (of_value to)) (inside : InMemory (house g.call.site (of_value to)).home) where
  abbrev place : Housed
  place = house g.call.site (of_value to)

  abbrev first : ℕ
  first = address_of g.call.site.base place.home

  abbrev So : (lines k : List WordInstr) → ℕ → Type 0
  So lines k most = Sofar x g line rest y to there inside lines k most

  -- another temporary has a value of a shape
  pub record BitsOf (t : ℕ) (v : Value) (s : Shape) : Type 0 where
    pub has : g.call.temps.values t ≡ Some v
    pub is_there : IsThere g.call.site (of_value t)
    pub look : looked x.table g.call.site (of_value t) ≡ s
    pub other : t ≢ to

  pub bits_shaped : (t : ℕ) (v : Value) (s : Shape) → BitsOf t v s → has_shape v s ≡ true
  bits_shaped t v s b = subst (λ k. has_shape v k ≡ true) b.look ((y.hold.0.items (of_value t) v b.is_there b.has).shaped refl)

  pub bits_long : (t : ℕ) (v : Value) (s : Shape) → BitsOf t v s → bytes v ≡ shape_bytes s
  bits_long t v s b = by (cases_Bool (of_numbers s))
    where
      by : (of_numbers s ≡ true) ⊎ (of_numbers s ≡ false) → bytes v ≡ shape_bytes s
      by (inl numbers) = bytes_is v s numbers (bits_shaped t v s b)
      by (inr other) =
          bytes_of x g line rest y (value_lies x g line rest y t v b.is_there (ap is_one_word b.look ∙ many_numbers s other) b.has)
          ∙ ap shape_bytes b.look

  -- ---- one of them is where it belongs

  pub record StoredAfter (m : Memory) (before : ℕ) (lines k : List WordInstr) (a : ℕ) (s : Shape) (v : Value) (most : ℕ) : Type 0 where
    pub sofar : So lines k most
    pub changed : Changed m sofar.memory a (shape_bytes s)
    pub stored : StoredIn (store_with g sofar.memory) a s v
    pub some : before < sofar.steps

  module _ (t : ℕ) (v : Value) (s : Shape) (b : BitsOf t v s) (home : Home) (in_place : InMemory home) (a : ℕ)
      (is : a ≡ address_of g.call.site.base home) (low : first ≤ a) (high : a + shape_bytes s ≤ first + place.bytes) (whole : a % 4 ≡ 0)
      (lines k : List WordInstr) (most : ℕ) where
    abbrev origin : Housed
    origin = house g.call.site (of_value t)

    abbrev one_code : List WordInstr
    one_code = moved origin.is_word origin.bytes (Lies home) (spot_of origin) k

    numbers_part : of_numbers s ≡ true → (o : So lines one_code most) → StoredAfter o.memory o.steps lines k a s v (most + (10 + 2 * shape_bytes s))
    numbers_part numbers o =
        let shaped = bits_shaped t v s b in
        let long = bits_long t v s b in
        let part : PartOf x g line rest y to t v s = record {
          has = b.has;
          there = b.is_there;
          here = ap of_numbers b.look ∙ numbers;
          shaped = shaped;
          numbers = numbers;
          other = b.other;
        } in
        let r = part_moved x g line rest y to there inside t v s part home in_place a is low (omega (arith, high, long)) whole lines k most o in
        record {
          sofar = more_most x g line rest y to there inside lines k (most + (10 + 2 * bytes v)) (most + (10 + 2 * shape_bytes s)) (omega (arith, long))
              r.sofar;
          changed = subst (λ n. Changed o.memory r.sofar.memory a n) long r.changed;
          stored = at_numbers (is_fixed g.ground) g.ground.blocks r.sofar.memory a s v numbers shaped r.is_at;
          some = r.some;
        }

    bits_part : is_one_word s ≡ false → (o : So lines one_code most) → StoredAfter o.memory o.steps lines k a s v (most + (10 + 2 * shape_bytes s))
    bits_part many o =
        let sites = all_sites x g line rest y in
        let n : ℕ = shape_bytes s in
        let item = item_there x g line rest y to there inside o.memory o.vars o.changed o.same t v b.has b.is_there b.other in
        let from_inside = in_memory x g line rest y (of_value t) b.is_there item.plain (ap is_one_word b.look ∙ many) in
        let h = houses x.table x.blocks g.call.site (of_value t) y.linked.0 b.is_there in
        let size : origin.bytes ≡ shape_bytes s = sym h.bytes ∙ ap shape_bytes b.look in
        let no_word : origin.is_word ≡ false = sym h.word ∙ (ap is_one_word b.look ∙ many) in
        let c : ℕ = address_of g.call.site.base origin.home in
        let lying_from : Lying x (all_sites x g line rest y) y.linked (address_of g.call.site.base origin.home) (shape_bytes s)
        = lying_all x (all_sites x g line rest y) y.linked g.call.site (of_value t) (shape_bytes s) (inl refl) b.is_there from_inside size in
        let lying_to : Lying x (all_sites x g line rest y) y.linked a (shape_bytes s) = record {
          site = g.call.site;
          name = of_value to;
          among = inl refl;
          there = there;
          home = inside;
          low = low;
          high = high;
          whole = whole;
        } in
        let apart : Separate a c (shape_bytes s) = separate_turned x sites y.linked c a n (whole_separate x sites y.linked c a n lying_from lying_to size) in
        let points : Points g.call.site.base o.vars home a
        = subst (Points g.call.site.base o.vars home) (sym is) (points_there g.call.site.base o.vars home in_place) in
        let r = bytes_moved x (all_sites x g line rest y) y.linked (awaiting (within x.table x.blocks g) o.awaits) refl o.words o.memory o.good k o.vars home
        origin.home a c (shape_bytes s) (high_behind origin.home (high_in_memory origin.home from_inside)) points
        (points_there g.call.site.base o.vars origin.home from_inside)
        (shape_whole s) (shape_some s) (lying_area x sites y.linked o.memory a n o.good lying_to) (lying_near x sites y.linked a n lying_to)
        (lying_readable x sites y.linked o.memory c n o.good lying_from) apart in
        let code : moved origin.is_word origin.bytes (Lies home) (spot_of origin) k ≡ moved false (shape_bytes s) (Lies home) (Lies origin.home) k
        = ap₂ (λ w i. moved w i (Lies home) (spot_of origin) k) no_word size
        ∙ ap (λ p. moved false (shape_bytes s) (Lies home) p k) (spot_memory origin item.plain from_inside) in
        let stored_was : StoredIn (store_with g o.memory) c s v
        = subst (λ z. StoredIn (store_with g o.memory) c z v) b.look
        (from_home (store_with g o.memory) g.call.site.base o.vars (looked x.table g.call.site (of_value t)) origin v item.plain from_inside item.at) in
        record {
          sofar = record {
            memory = r.memory;
            vars = r.vars_then;
            words = no_words;
            awaits = FIRST;
            good = memory_kept x sites y.linked o.memory r.memory a n o.good r.changed lying_to;
            changed = changed_both g.memory o.memory r.memory first place.bytes a n first place.bytes o.changed r.changed (omega arith) (omega arith) low high;
            same = same_more g.call.vars o.vars r.vars_then o.same r.kept;
            steps = o.steps + r.steps;
            few = (let p = o.few in let q = r.few in omega (arith, p, q));
            runs = then_runs x.live (all_procs x) o.runs
                (subst (λ l. Runs x.live (all_procs x) r.steps (run_at (awaiting (within x.table x.blocks g) o.awaits) o.memory l o.vars o.words)
                (run_at (awaiting (within x.table x.blocks g) FIRST) r.memory k r.vars_then no_words)) (sym code) r.runs);
          };
          changed = r.changed;
          stored = stored_small (is_fixed g.ground) g.ground.blocks g.ground.blocks (later_same g.ground.blocks) o.memory r.memory c a s v
              (low_carried o.memory r.memory c a n r.same) stored_was;
          some = (let h = r.some in omega (arith, h));
        }

    pub any_part : (o : So lines one_code most) → StoredAfter o.memory o.steps lines k a s v (most + (10 + 2 * shape_bytes s))
    any_part o = by (cases_Bool (of_numbers s))
      where
        by : (of_numbers s ≡ true) ⊎ (of_numbers s ≡ false) → StoredAfter o.memory o.steps lines k a s v (most + (10 + 2 * shape_bytes s))
        by (inl numbers) = numbers_part numbers o
        by (inr other) = bits_part (many_numbers s other) o

  -- ---- all fields

  module _ (ss : Shapes) (look_to : looked x.table g.call.site (of_value to) ≡ parts ss) (ty : ℕ)
      (stands : (i : ℕ) (s : Shape) → nth_shape ss i ≡ Some s → part_at x.table ty i ≡ shapes_before ss i) where
    abbrev pub FieldsBits : List ℕ → List From → Values → Type 0
    FieldsBits [] [] Nil = Unit {0}
    FieldsBits (field ∷ names) (F.Value t ∷ from) (More v vs) = ((s : Shape) × (nth_shape ss field ≡ Some s) × BitsOf t v s) × FieldsBits names from vs
    FieldsBits names from vs = ⊥

    spent_bits : (names : List ℕ) (from : List From) (vs : Values) → FieldsBits names from vs → are_distinct names ≡ true → spent vs ≤ named_bytes ss names 0
    spent_bits [] [] Nil come once = omega arith
    spent_bits [] [] (More v vs) come once = absurd come
    spent_bits [] (f ∷ from) vs come once = absurd come
    spent_bits (field ∷ names) [] vs come once = absurd come
    spent_bits (field ∷ names) (F.Place t ∷ from) vs come once = absurd come
    spent_bits (field ∷ names) (F.Value t ∷ from) Nil come once = absurd come
    spent_bits (field ∷ names) (F.Value t ∷ from) (More v vs) come once =
        let o = and_parts (not (is_in field names)) (are_distinct names) once in
        let c = come.0 in
        let a = named_first ss field names 0 field c.0 c.1 (omega arith) (not_true (is_in field names) o.0) in
        let b = spent_bits names from vs come.1 o.1 in
        let e : bytes v ≡ shape_bytes c.0 = bits_long t v c.0 c.2 in
        omega (arith, a, b, e)

    abbrev code_of : List ℕ → List From → List WordInstr → List WordInstr
    code_of names from k = fields_code (around x.table x.blocks (body_of g)) place.home ty names (operands (around x.table x.blocks (body_of g)) from) k

    size_to : place.bytes ≡ shape_bytes (parts ss)
    size_to = sym (houses x.table x.blocks g.call.site (of_value to) y.linked.0 there).bytes ∙ ap shape_bytes look_to

    pub record FieldsStored (before : ℕ) (lines k : List WordInstr) (u : Value) (most : ℕ) : Type 0 where
      pub sofar : So lines k most
      pub stored : StoredIn (store_with g sofar.memory) first (parts ss) u
      pub shaped : has_shape u (parts ss) ≡ true
      pub more : before ≤ sofar.steps

    field_stored : (field : ℕ) (names : List ℕ) (t : ℕ) (from : List From) (v : Value) (s : Shape) → nth_shape ss field ≡ Some s → BitsOf t v s → (u : Value)
        → has_shape u (parts ss) ≡ true → (lines k : List WordInstr) (most : ℕ) → (o : So lines (code_of (field ∷ names) (F.Value t ∷ from) k) most)
        → StoredIn (store_with g o.memory) first (parts ss) u
        → FieldsStored o.steps lines (code_of names from k) (put_part u (field ∷ []) v) (most + (10 + 2 * shape_bytes s))
    field_stored field names t from v s nth b u shaped lines k most o stored_u =
        let before : ℕ = shapes_before ss field in
        let path : List ℕ = field ∷ [] in
        let way : PathTo (parts ss) (field ∷ []) (shapes_before ss field) s = (s, shapes_before ss field, 0, (nth, refl), (refl, refl), omega arith) in
        let in_it = path_within (parts ss) path before s way in
        let by_words = path_whole (parts ss) path before s way in
        let first_whole = address_whole x (all_sites x g line rest y) y.linked g.call.site (of_value to) (inl refl) there inside in
        let far : part_at x.table ty field ≡ shapes_before ss field = stands field s nth in
        let address = shifted_address g.call.site.base (part_at x.table ty field) place.home inside in
        let size = size_to in
        let a = any_part t v s b (shifted (part_at x.table ty field) place.home) (shifted_inside (part_at x.table ty field) place.home inside)
        (first + shapes_before ss field) (omega (arith, address, far)) (omega arith) (omega (arith, in_it, size)) (omega (arith, by_words, first_whole)) lines
        (code_of names from k) most o in
        record {
          sofar = a.sofar;
          stored = path_put (is_fixed g.ground) g.ground.blocks g.ground.blocks (later_same g.ground.blocks) o.memory a.sofar.memory first (parts ss) u path
              before s v way stored_u (λ i w inner is apart read. a.changed.outside (first + i) apart ∙ read) a.stored;
          shaped = part_shaped u ss field s v nth shaped (bits_shaped t v s b);
          more = (let h = a.some in omega (arith, h));
        }

    fields_stored : (names : List ℕ) (from : List From) (vs : Values) → FieldsBits names from vs → (u : Value) → has_shape u (parts ss) ≡ true
        → (lines k : List WordInstr) (most : ℕ) → (o : So lines (code_of names from k) most) → StoredIn (store_with g o.memory) first (parts ss) u
        → FieldsStored o.steps lines k (with_fields u names vs) (most + 5 * spent vs)
    fields_stored [] [] Nil come u shaped lines k most o stored_u = record {
      sofar = more_most x g line rest y to there inside lines k most (most + 5 * 0) (omega arith) o;
      stored = stored_u;
      shaped = shaped;
      more = omega arith;
    }
    fields_stored [] [] (More v vs) come u shaped lines k most o stored_u = absurd come
    fields_stored [] (f ∷ from) vs come u shaped lines k most o stored_u = absurd come
    fields_stored (field ∷ names) [] vs come u shaped lines k most o stored_u = absurd come
    fields_stored (field ∷ names) (F.Place t ∷ from) vs come u shaped lines k most o stored_u = absurd come
    fields_stored (field ∷ names) (F.Value t ∷ from) Nil come u shaped lines k most o stored_u = absurd come
    fields_stored (field ∷ names) (F.Value t ∷ from) (More v vs) come u shaped lines k most o stored_u =
        let c = come.0 in
        let a = field_stored field names t from v c.0 c.1 c.2 u shaped lines k most o stored_u in
        let q = fields_stored names from vs come.1 (put_part u (field ∷ []) v) a.shaped lines k (most + (10 + 2 * shape_bytes c.0)) a.sofar a.stored in
        let some : 4 ≤ shape_bytes c.0 = shape_some c.0 in
        let long : bytes v ≡ shape_bytes c.0 = bits_long t v c.0 c.2 in
        record {
          sofar = more_most x g line rest y to there inside lines k (most + (10 + 2 * shape_bytes c.0) + 5 * spent vs) (most + 5 * (bytes v + spent vs))
              (omega (arith, some, long)) q.sofar;
          stored = q.stored;
          shaped = q.shaped;
          more = (let h = a.more in let j = q.more in omega (arith, h, j));
        }

    pub fields_shaped : (names : List ℕ) (from : List From) (vs : Values) → FieldsBits names from vs → (u : Value) → has_shape u (parts ss) ≡ true
        → has_shape (with_fields u names vs) (parts ss) ≡ true
    fields_shaped [] [] Nil come u h = h
    fields_shaped [] [] (More v vs) come u h = absurd come
    fields_shaped [] (f ∷ from) vs come u h = absurd come
    fields_shaped (field ∷ names) [] vs come u h = absurd come
    fields_shaped (field ∷ names) (F.Place t ∷ from) vs come u h = absurd come
    fields_shaped (field ∷ names) (F.Value t ∷ from) Nil come u h = absurd come
    fields_shaped (field ∷ names) (F.Value t ∷ from) (More v vs) come u h =
        let c = come.0 in
        fields_shaped names from vs come.1 (with_part u field v) (part_shaped u ss field c.0 v c.1 h (bits_shaped t v c.0 c.2))

    -- zeros, and then the fields
    pub constructed_bits : (names : List ℕ) (from : List From) (vs : Values) → FieldsBits names from vs → are_distinct names ≡ true
        → shape_of (facts_in x.table) (type_at (known x).types ty) ≡ parts ss → of_handles (parts ss) ≡ true
        → code_here x g line rest y ≡ clears place (code_of names from (code_next x g line rest y))
        → Settles x (starts g line rest) rest (Passes (Answers [] (1 + (bytes (default_of (facts_in x.table) (type_at (known x).types ty)) + 0))
        (with_value to g.call.temps (with_fields (default_of (facts_in x.table) (type_at (known x).types ty)) names vs)) g.world))
    constructed_bits names from vs come once shape handles code =
        let sites = all_sites x g line rest y in
        let next : List WordInstr = code_next x g line rest y in
        let here : List WordInstr = code_here x g line rest y in
        let k : List WordInstr = code_of names from next in
        let zero_value : Value = default_of (facts_in x.table) (type_at (known x).types ty) in
        let plain_is = value_plain place there.kind in
        let h = houses x.table x.blocks g.call.site (of_value to) y.linked.0 there in
        let size = size_to in
        let whole : place.bytes % 4 ≡ 0 = subst (λ n. n % 4 ≡ 0) (sym size) (shape_whole (parts ss)) in
        let some : 4 ≤ place.bytes = subst (λ n. 4 ≤ n) (sym size) (shape_some (parts ss)) in
        let no_word : place.is_word ≡ false = sym h.word ∙ ap is_one_word look_to in
        let z = bits_cleared x g line rest y (of_value to) there inside plain_is whole some no_word k in
        let zero_shaped : has_shape zero_value (parts ss) ≡ true = subst (λ s. has_shape zero_value s ≡ true) shape (x.defaults ty) in
        let zero_is : zero_value ≡ blank_in (parts ss) = x.blanks ty ∙ ap blank_in shape in
        let blank_shaped : has_shape (blank_in (parts ss)) (parts ss) ≡ true = subst (λ u. has_shape u (parts ss) ≡ true) zero_is zero_shaped in
        let zeros_at : ZeroWords z.changes.memory first (shape_bytes (parts ss)) = subst (ZeroWords z.changes.memory first) size z.zeros_there in
        let stored_zero : StoredIn (store_with g z.changes.memory) first (parts ss) zero_value
        = subst (λ u. StoredIn (store_with g z.changes.memory) first (parts ss) u) (sym zero_is)
        (zeros_stored (is_fixed g.ground) g.ground.blocks z.changes.memory first (parts ss) handles blank_shaped zeros_at) in
        let zero_long : bytes zero_value ≡ shape_bytes (parts ss)
        = stored_bytes (is_fixed g.ground) g.ground.blocks z.changes.memory first (parts ss) zero_value stored_zero zero_shaped in
        let s0 : So here k (9 + place.bytes) = record {
          memory = z.changes.memory;
          vars = z.changes.vars;
          words = z.changes.words;
          awaits = z.changes.awaits;
          good = z.changes.good;
          changed = z.changed;
          same = z.kept;
          steps = z.changes.steps;
          few = z.changes.few;
          runs = subst (λ c. Runs x.live (all_procs x) z.changes.steps (run_at (within x.table x.blocks g) g.memory c g.call.vars g.words)
              (run_at (awaiting (within x.table x.blocks g) z.changes.awaits) z.changes.memory k z.changes.vars z.changes.words)) (sym code) z.changes.runs;
        } in
        let d = fields_stored names from vs come zero_value zero_shaped here next (9 + place.bytes) s0 stored_zero in
        let f = d.sofar in
        let made : Value = with_fields zero_value names vs in
        let cost : spent vs ≤ shapes_bytes ss = (let a = spent_bits names from vs come once in let b = named_at_most ss names 0 in omega (arith, a, b)) in
        let least : shapes_bytes ss ≤ shape_bytes (parts ss) = or_word_least (shapes_bytes ss) in
        let lying : Lying x (all_sites x g line rest y) y.linked first place.bytes
        = lying_all x (all_sites x g line rest y) y.linked g.call.site (of_value to) place.bytes (inl refl) there inside refl in
        item_settles x g line rest y to made (9 + place.bytes + 5 * spent vs) (1 + (bytes zero_value + 0)) there (record {
          vars = f.vars;
          memory = f.memory;
          words = f.words;
          awaits = f.awaits;
          good = f.good;
          heap = heap_kept x sites y.linked g.memory f.memory first place.bytes y.memory f.changed lying;
          edit = somewhere first place.bytes
              (outside_still (IsPlace x.table x.blocks) (next_base (all_sites x g line rest y)) g.memory f.memory first place.bytes f.changed.outside)
              (inl refl)
              there inside (omega arith) (omega arith);
          variables = λ i u is_there ne at_home. f.same.others u (high_variable x g line rest y i u is_there at_home);
          left = f.same.left;
          steps = f.steps;
          some = (let p = d.more in let j = z.changes.some in omega (arith, p, j));
          few = f.few;
          runs = f.runs;
        }) (record {
          there = there;
          plain = plain_is;
          shaped = λ asked. subst (λ s. has_shape made s ≡ true) (sym look_to) d.shaped;
          at = to_home (store_with g f.memory) g.call.site.base f.vars (looked x.table g.call.site (of_value to)) place made plain_is inside
              (subst (λ s. StoredIn (store_with g f.memory) first s made) (sym look_to) d.stored);
        }) (omega (arith, cost, least, zero_long, size))

module _ (x : Basis) (g : Both) (line : BlockLine) (rest : List BlockLine) (y : IsGood x (starts g line rest)) (to : ℕ)
    (there : IsThere g.call.site (of_value to)) (inside : InMemory (house g.call.site (of_value to)).home) (ss : Shapes)
    (look : looked x.table g.call.site (of_value to) ≡ parts ss) (ty : ℕ)
    (stands : (i : ℕ) (s : Shape) → nth_shape ss i ≡ Some s → part_at x.table ty i ≡ shapes_before ss i) (k : TypeKind)
    (nth : (field : ℕ) (of : Ty) → field_at k field ≡ Some of → nth_shape ss field ≡ Some (shape_of (facts_in x.table) of)) where
  abbrev taken : From → Option Ty
  taken f = fit.taken (known x) (sigs x.table x.blocks) (globals_of x.table x.blocks) (body_of g).proc.places f

  pub fields_bits : (names : List ℕ) (from : List From) (xs : List Operand) → are_fields k names (map taken from) ≡ true → are_values from ≡ true
      → own_values (body_of g).own.all from ≡ true → Have g.call.temps from xs →
      FieldsBits x g line rest y to there inside ss look ty stands names from (values_in xs)
  fields_bits [] [] [] are placed own has = tt
  fields_bits [] [] (z ∷ xs) are placed own has = absurd has
  fields_bits [] (f ∷ from) xs are placed own has = never are
  fields_bits (field ∷ names) [] xs are placed own has = never are
  fields_bits (field ∷ names) (F.Place t ∷ from) xs are placed own has = never placed
  fields_bits (field ∷ names) (F.Value t ∷ from) [] are placed own has = absurd has
  fields_bits (field ∷ names) (F.Value t ∷ from) (z ∷ xs) are placed own has =
      let q = and_parts (same_alias (house g.call.site (of_value t)).alias alias.Own) (own_values (body_of g).own.all from) own in
      let p = and_parts (is_of (value_type x g line rest y t) (field_at k field)) (are_fields k names (map taken from)) are in
      let v = are_of (value_type x g line rest y t) (field_at k field) p.0 in
      let is = nth field v.ty v.is_other in
      let typed = has_type x g.call.site (of_value t) v.ty y.linked.0 v.is in
      let look_t = look_of x g.call.site (of_value t) v.ty typed in
      let less = nth_depth ss field (shape_of (facts_in x.table) v.ty) is in
      let d : depth (looked x.table g.call.site (of_value to)) ≡ depth (parts ss) = ap depth look in (
        (
          shape_of (facts_in x.table) v.ty,
          is,
          record {
            has = given_value (g.call.temps.values t) z has.0;
            is_there = with_home x typed.named (own_alias (house g.call.site (of_value t)).alias q.0) tt;
            look = look_t;
            other = λ same. let e : depth (shape_of (facts_in x.table) v.ty) ≡ depth (looked x.table g.call.site (of_value to))
                = ap depth (sym look_t) ∙ ap (λ i. depth (looked x.table g.call.site (of_value i))) same in
                absurd (omega (arith, d, e, less));
          },
        ),
        fields_bits names from xs p.1 placed q.1 has.1,
      )

-- ---- the line

module _ (x : Basis) (g : Both) (rest : List BlockLine) (to : ℕ) (how : UseAt) (ty : ℕ) (names : List ℕ) (from : List From) where
  abbrev building : BlockLine
  building = plain (L.Construct to how ty names from)

  abbrev to_type : Ty
  to_type = type_at (known x).types ty

  abbrev start_value : Value
  start_value = default_of (facts_in x.table) to_type

  abbrev to_kind : TypeKind
  to_kind = kind_of (facts_in x.table) to_type

  abbrev all_taken : List (Option Ty)
  all_taken = map (fit.taken (known x) (sigs x.table x.blocks) (globals_of x.table x.blocks) (body_of g).proc.places) from

  -- whatever its fields have, and wherever it is used
  pub construct_whole : Whole x g rest building
  construct_whole y =
      let whole_kind : TypeKind = built (facts_in x.table) to_kind in
      let named : Bool = are_distinct names && are_fields whole_kind names all_taken in
      let f = and_parts ((is_built whole_kind && named) && are_values from) (is_of (value_type x g building rest y to) (Some to_type))
      (fits_here x.table x.blocks (body_of g) building rest y.stands) in
      let p = and_parts (is_built whole_kind && named) (are_values from) f.0 in
      let q = and_parts (is_built whole_kind) named p.0 in
      let r = and_parts (are_distinct names) (are_fields whole_kind names all_taken) q.1 in
      let v = are_of (value_type x g building rest y to) (Some to_type) f.1 in
      let typed : type_in x is_value (body_of g) to ≡ Some to_type = v.is ∙ sym v.is_other in
      let t = given x g building rest y to to_type refl refl typed in
      let handles : of_handles (shape_of (facts_in x.table) to_type) ≡ true
      = sym (ap of_handles t.look) ∙ y.linked.0.handles (house g.call.site (of_value to)) t.there.among in
      let same = built_handles (facts_in x.table) to_type handles in
      let o = x.built_objects ty (subst (λ k. is_built k ≡ true) same q.0) handles in
      let look : looked x.table g.call.site (of_value to) ≡ parts o.0 = t.look ∙ o.1 in
      let plain_is = value_plain (house g.call.site (of_value to)) t.there.kind in
      let inside = in_memory x g building rest y (of_value to) t.there plain_is (ap is_one_word look) in
      let shaped : has_shape start_value (parts o.0) ≡ true = subst (λ s. has_shape start_value s ≡ true) o.1 (x.defaults ty) in
      let stands : (i : ℕ) (s : Shape) → nth_shape o.0 i ≡ Some s → part_at x.table ty i ≡ shapes_before o.0 i = λ i s e. x.parts_at ty o.0 i s o.1 e in
      using_all_completes x (starts g building rest) rest g.call.temps from
      (λ xs. gives (scene_of (high x.table x.blocks (starts g building rest))) to
      (costs 1 (costs (bytes start_value) (deeds.give (with_fields start_value names (values_in xs))))
      >>= places.kept_if (gives_hooked (facts_in x.table) (Some to_type)) (bound_for g how)))
      (λ xs has. let come = fields_bits x g building rest y to t.there inside o.0 look ty stands to_kind o.2 names from xs
      (subst (λ k. are_fields k names all_taken ≡ true) same r.1) p.1 (homes_here x g building rest y) has in
      let made : Value = with_fields start_value names (values_in xs) in
      let made_shaped = fields_shaped x g building rest y to t.there inside o.0 look ty stands names from (values_in xs) come start_value shaped in
      made_completes x g building rest y g.call.temps to how (gives_hooked (facts_in x.table) (Some to_type))
      (ap (λ b. b && waits how.how) (x.hooks ty))
      (λ b k. ap (λ c. kept_if x.table b.own.waiters (value (around x.table x.blocks b)) (c && waits how.how) how.node to k) (x.hooks ty))
      (λ h w. used_there x g building rest y (waits how.how) to how ty refl refl refl typed h w)
      (costs 1 (costs (bytes start_value) (deeds.give made)))
      (constructed_bits x g building rest y to t.there inside o.0 look ty stands names from (values_in xs) come r.0 o.1
      (sym (ap of_handles o.1) ∙ handles) refl))
