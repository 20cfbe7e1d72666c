-- The value of an element of an array, whatever it has: its address comes into a variable, and its bits from there.
use Rattle.std.proofs.Common.{◌≡◌, inl, ℕ, List, Some, true, false, refl, sym, ap, subst, ◌∙◌, arith, ◌+◌, ◌*◌, ◌<◌, ◌^◌, pos, negsuc, unsigned_abs, ℤ, []}
use Rattle.std.specs.Prelude.{◌&&◌, int_le, int_lt, not}
use Rattle.nim_meaning.specs.Here.{gives_hooked}
use Rattle.nim_meaning.specs.Acts.{branch}
use Rattle.nim_meaning.specs.Deeds.{Answers, costs, give, unless_gone}
use Rattle.word_lowering.proofs.AddressFacts.{AtAddress, at_homed, read_row}
use Rattle.word_lowering.proofs.Lines.{Basis, IsGood, Settles, all_procs, all_sites, branch_settles, changed, fits_here, goes_on, good_between, stands_next}
use Rattle.word_lowering.proofs.Lines.{starts, using_settles, where_there, with_vars}
use Rattle.word_lowering.proofs.HookedMoves.{BitsHere}
use Rattle.flat_code.specs.declared.block.BlockLine.{BlockLine}
use Rattle.word_lowering.proofs.Related.{Both, body_of, high}
use Rattle.word_lowering.specs.declared.homes.TheConstants.{FIFTH}
use Rattle.word_lowering.specs.declared.homes.Housed.{Housed}
use Rattle.word_lowering.proofs.ElementLines.{InFifth, element_found}
use Rattle.word_lowering.proofs.ValueFacts.{IsHomed, Operand, has_type, look_of, type_in, with_home}
use Rattle.word_lowering.proofs.Scenes.{IsNamed, IsThere, Leads, house, is_fixed, looked, of_location, of_value}
use Rattle.word_lowering.proofs.Settling.{code_here, code_next}
use Rattle.word_lowering.specs.declared.spots.Spot.TheVariants.{Lies}
use Rattle.flat_code.specs.Scene.{Fails, Within, Located, Passes, Where, location_at, with_value}
use Rattle.nim_meaning.specs.Values.{Value, bytes, deeper, item_of, length_of, number_of}
use Rattle.flat_code.specs.Shapes.{Shape, row, shape_of}
use Rattle.word_lowering.proofs.ShapePaths.{Step, step_within}
use Rattle.nim_program.specs.Kinds.{TypeKind, element_of, is_int, is_of, kind_if}
use Rattle.word_lowering.specs.declared.homes.Home.TheVariants.{Variable}
use Rattle.word_code.proofs.ForCallers.{then_runs}
use Rattle.word_code.specs.declared.word.WordInstr.{WordInstr}
use Rattle.std.proofs.lemmas.Bool.{and_parts}
use Rattle.word_lowering.proofs.LineFits.{are_of, elements_shape, no_handle, some_kind}
use Rattle.word_lowering.proofs.Sites.{around, is_one_word}
use Rattle.word_lowering.proofs.ValuesMoved.{awaits_behind}
use Rattle.word_lowering.specs.Stored.{count_in, element_bytes, entry_at}
use Rattle.word_lowering.proofs.PartLines.{deeper_in, leads_near, leads_on}
use Rattle.flat_code.specs.Lines.{element_at, gives, using_number}
use Rattle.word_lowering.specs.LineCode.{element_at as at_element, element_code}
use Rattle.word_lowering.specs.Operands.{location}
use Rattle.nim_types.specs.Table.{facts_in}
use Rattle.nim_meaning.specs.Places.{fetched}
use Rattle.word_lowering.proofs.Arithmetic.{fits_signed}
use Rattle.word_lowering.specs.OwnedCode.{has_handle}
use Rattle.word_lowering.proofs.HouseHooks.{homed, unhooked_numbers}
use Rattle.word_lowering.proofs.LocationHouses.{homed_house}
use Rattle.nim_program.specs.Ints.{fits as is_int_number, inside}
use Rattle.word_lowering.proofs.ControlLines.{int_read, kind_at, plain}
use Rattle.std.proofs.lemmas.Int.{ints}
use Rattle.nim_meaning.specs.State.{is_full_at, is_seen, load}
use Rattle.flat_code.specs.Fits.{is_location, is_value}
use Rattle.word_lowering.proofs.Located.{led_stored}
use Rattle.word_lowering.specs.Spots.{moved, spot_of}
use Rattle.word_lowering.proofs.ShapeFacts.{never, of_numbers, shape_bytes}
use Rattle.word_lowering.proofs.Targets.{own_either, pointed, value_alias}
use Rattle.flat_code.specs.Running.{scene_of}
use Rattle.word_lowering.proofs.StoredLater.{shape_some}
use Rattle.word_lowering.proofs.FullValues.{stored_bytes}
use Rattle.word_lowering.proofs.NumberLines.{variable}
use Rattle.word_lowering.specs.Operations.{word}
use Rattle.word_lowering.proofs.ValuesRead.{value_read, words_behind}
use Rattle.word_lowering.specs.declared.homes.Alias.TheVariants as alias
use Rattle.flat_code.specs.declared.line.Line.TheVariants as L

module _ (x : Basis) (g : Both) (rest : List BlockLine) (to from index : ℕ) where
  abbrev line : BlockLine
  line = plain (L.Element to from index)

  module _ (y : IsGood x (starts g line rest)) (there_to : IsThere g.call.site (of_value to))
      (numbers : of_numbers (looked x.table g.call.site (of_value to)) ≡ true) where
    abbrev into : Housed
    into = house g.call.site (of_value to)

    abbrev s : Shape
    s = looked x.table g.call.site (of_value to)

    abbrev next : List WordInstr
    next = code_next x g line rest y

    abbrev moving : List WordInstr
    moving = moved (house g.call.site (of_value to)).is_word (house g.call.site (of_value to)).bytes (spot_of (house g.call.site (of_value to)))
        (Lies (Variable FIFTH)) (code_next x g line rest y)

    -- from where its address is in the variable
    from_fifth : (a : ℕ) → InFifth x g (code_here x g line rest y) moving a → (l : Where)
        → Leads x.table x.blocks (all_sites x g line rest y) g.ground g.world g.call.site g.call.temps l a s
        → is_full_at g.world (location_at g.call.temps l) ≡ true
        → Settles x (starts g line rest) rest (Passes (Answers [] (1 + (bytes (load g.world (location_at g.call.temps l)) + 0))
        (with_value to g.call.temps (load g.world (location_at g.call.temps l))) g.world))
    from_fifth a f l leads_there full =
        let v : Value = load g.world (location_at g.call.temps l) in
        let led : Both = with_vars g f.vars in
        let good : IsGood x (starts (with_vars g f.vars) line rest) = good_between x g line rest y f.vars f.same in
        let r = led_stored x (starts led line rest) good led.call (inl refl) (inl refl) l a s (inl numbers) full leads_there in
        let z = value_read x led line rest good to there_to v (Variable FIFTH) (omega arith) a f.holds r.stored r.shaped r.readable rest
        (stands_next x.table x.blocks (body_of g) line rest y.stands) next in
        let long : bytes v ≡ shape_bytes s = stored_bytes (is_fixed g.ground) g.ground.blocks g.memory a s v r.stored r.shaped in
        let few = z.few in
        let front = f.few in
        let some = z.some in
        goes_on x (starts g line rest)
        (changed led rest (with_value to g.call.temps v) z.vars z.memory (words_behind (is_one_word s) g.words) (awaits_behind (is_one_word s) g.awaits)
        g.world)
        rest z.good (f.steps + z.steps) (1 + (bytes v + 0)) (with_value to g.call.temps v) g.world (then_runs x.live (all_procs x) f.runs z.runs)
        (omega (arith, some)) (omega (arith, few, long, front)) refl

    module _ (there : Where) (e : g.call.temps.places from ≡ Some there) (named_from : IsNamed g.call.site (of_location from)) (count : ℕ)
        (look : looked x.table g.call.site (of_location from) ≡ row count (looked x.table g.call.site (of_value to)))
        (w : Value) (o : Operand x g.call index w) where
      abbrev each : ℕ
      each = shape_bytes (looked x.table g.call.site (of_value to))

      abbrev held : ℕ
      held = variable x g line rest y index

      abbrev source : Housed
      source = location (around x.table x.blocks (body_of g)) from

      homed_from : IsHomed x g.call.site from
      homed_from = homed x g.call.site y.linked.0 from named_from

      at_is : AtAddress x g line rest y (location (around x.table x.blocks (body_of g)) from) there (looked x.table g.call.site (of_location from))
      at_is = at_homed x g line rest y from there named_from homed_from e (ap is_one_word look)

      near_all : at_is.address + shape_bytes (row count (looked x.table g.call.site (of_value to))) < 2 ^ 32
      near_all = subst (λ t. at_is.address + shape_bytes t < 2 ^ 32) look
          (leads_near x g line rest y there at_is.address (looked x.table g.call.site (of_location from)) at_is.leads_to)

      -- what the table says of it
      rows : (count_in (entry_at x.table (location (around x.table x.blocks (body_of g)) from).ty) ≡ count)
          × (0 < count → element_bytes x.table (entry_at x.table (location (around x.table x.blocks (body_of g)) from).ty) ≡ each)
          × (has_handle (entry_at x.table (location (around x.table x.blocks (body_of g)) from).ty) ≡ false)
      rows = let h = homed_house x g line rest y from there named_from homed_from e in
          h.housed.rows count (looked x.table g.call.site (of_value to)) (ap (shape_of (facts_in x.table)) h.typed ∙ look)

      found_at : (z : ℤ) → number_of w ≡ z → inside z count ≡ true → Settles x (starts g line rest) rest
          (gives (scene_of (high x.table x.blocks (starts g line rest))) to (costs 1 (fetched (deeper (location_at g.call.temps there) (unsigned_abs z)))))
      found_at (negsuc i) is h = never h
      found_at (pos i) is h =
          let fz : is_int_number (pos i) ≡ true = subst (λ z. is_int_number z ≡ true) is o.fits in
          let less : i < count = (let q = (and_parts (int_le (pos 0) (pos i)) (int_lt (pos i) (pos count)) h).1 in omega (arith, ints, q)) in
          let wi : word (pos i) ≡ i = (let q = fits_signed (pos i) fz in omega (arith, ints)) in
          let step : Step (looked x.table g.call.site (of_location from)) i (i * each) (looked x.table g.call.site (of_value to))
          = subst (λ t. Step t i (i * each) (looked x.table g.call.site (of_value to))) (sym look) (less, refl, refl) in
          let inner = step_within (row count (looked x.table g.call.site (of_value to))) i (i * each) (looked x.table g.call.site (of_value to))
          (less, refl, refl) in
          let some = shape_some (looked x.table g.call.site (of_value to)) in
          let small : at_is.address + i * each < 2 ^ 32 = (let n = near_all in omega (arith, n, inner, some)) in
          let each_small : each < 2 ^ 32 = (let n = near_all in omega (arith, n, inner)) in
          let f = element_found x g moving at_is.home at_is.address i each held o.high (o.word_is ∙ ap Some (ap word is ∙ wi))
          at_is.high_is at_is.points small each_small in
          let code : element_code FIFTH at_is.home held each moving ≡ code_here x g line rest y
          = sym (ap (λ b. at_element (around x.table x.blocks (body_of g)) b from index (house g.call.site (of_value to)) next) rows.2
          ∙ ap (λ u. element_code FIFTH u held (element_bytes x.table (entry_at x.table source.ty)) moving) at_is.home_is
          ∙ ap (λ n. element_code FIFTH at_is.home held n moving) (rows.1 (omega (arith, less)))) in
          subst (λ l. Settles x (starts g line rest) rest (gives (scene_of (high x.table x.blocks (starts g line rest))) to (costs 1 (fetched l))))
          (deeper_is there i)
          (let found : Value = load g.world (location_at g.call.temps (deeper_in g.call.temps there i)) in
          where_there x (starts g line rest) rest (is_full_at g.world (location_at g.call.temps (deeper_in g.call.temps there i)))
          (λ b. gives (scene_of (high x.table x.blocks (starts g line rest))) to (costs 1 (unless_gone b (costs (bytes found) (give found))))) (λ before. tt)
          (λ full. from_fifth (at_is.address + i * each) (subst (λ l. InFifth x g l moving (at_is.address + i * each)) code f)
          (deeper_in g.call.temps there i)
          (leads_on x (all_sites x g line rest y) g.call.site g.ground g.world g.call.temps g.call.temps (λ t v h. h) there at_is.address (i * each)
          (looked x.table g.call.site (of_location from)) (looked x.table g.call.site (of_value to)) i step at_is.leads_to) full))
        where
          deeper_is : (there : Where) (i : ℕ) → location_at g.call.temps (deeper_in g.call.temps there i) ≡ deeper (location_at g.call.temps there) i
          deeper_is (Located l) i = refl
          deeper_is (Within u path) i = refl

      array_found : inside (number_of w) (length_of (load g.world (location_at g.call.temps there))) ≡ true → Settles x (starts g line rest) rest
          (gives (scene_of (high x.table x.blocks (starts g line rest))) to (costs 1 (element_at (location_at g.call.temps there) (number_of w))))
      array_found h =
          let v : Value = load g.world (location_at g.call.temps there) in
          where_there x (starts g line rest) rest (is_seen g.world (location_at g.call.temps there))
          (λ b. gives (scene_of (high x.table x.blocks (starts g line rest))) to
          (costs 1 (unless_gone b (fetched (item_of v (location_at g.call.temps there) (unsigned_abs (number_of w))))))) (λ before. tt)
          (λ seen. let r = read_row x g line rest y from there named_from homed_from e count (looked x.table g.call.site (of_value to)) look seen in
          subst (λ l. Settles x (starts g line rest) rest (gives (scene_of (high x.table x.blocks (starts g line rest))) to (costs 1 (fetched l))))
          (sym (ap (λ u. item_of u (location_at g.call.temps there) (unsigned_abs (number_of w))) r.is))
          (found_at (number_of w) refl (subst (λ n. inside (number_of w) n ≡ true) (ap length_of r.is ∙ r.long) h)))

  pub array_element : (IsNamed g.call.site (of_location from) → no_handle (looked x.table g.call.site (of_location from)) ≡ true)
      → BitsHere x g rest line
  array_element row_like y =
      let from_kind : TypeKind = kind_if (facts_in x.table) (type_in x is_location (body_of g) from) in
      let f = and_parts (is_of (type_in x is_value (body_of g) to) (element_of from_kind))
      (is_int (kind_at x g line rest y index) && not (gives_hooked (facts_in x.table) (type_in x is_value (body_of g) to)))
      (fits_here x.table x.blocks (body_of g) line rest y.stands) in
      let i = and_parts (is_int (kind_at x g line rest y index)) (not (gives_hooked (facts_in x.table) (type_in x is_value (body_of g) to))) f.1 in
      let v = are_of (type_in x is_value (body_of g) to) (element_of from_kind) f.0 in
      let s = some_kind (facts_in x.table) (type_in x is_location (body_of g) from) (λ k. is_of (Some v.ty) (element_of k)) refl
      (subst (λ o. is_of o (element_of from_kind) ≡ true) v.is f.0) in
      let p = pointed x g line rest y from s.0 s.1 in
      let n = has_type x g.call.site (of_value to) v.ty y.linked.0 v.is in
      let there_to : IsThere g.call.site (of_value to)
      = with_home x n.named (own_either (house g.call.site (of_value to)).alias (value_alias x g line rest y to alias.Own refl refl)) tt in
      let shape = elements_shape (facts_in x.table) s.0 v.ty s.2 (sym (ap no_handle p.look) ∙ row_like p.named) in
      let look : looked x.table g.call.site (of_location from) ≡ row shape.0 (looked x.table g.call.site (of_value to))
      = p.look ∙ (shape.1 ∙ ap (row shape.0) (sym (look_of x g.call.site (of_value to) v.ty n))) in
      using_settles x (starts g line rest) rest (g.call.temps.places from)
      (λ there. using_number g.call.temps index (λ z. branch (inside z (length_of (load g.world (location_at g.call.temps there))))
      (gives (scene_of (high x.table x.blocks (starts g line rest))) to (costs 1 (element_at (location_at g.call.temps there) z))) Fails))
      (λ there e. using_settles x (starts g line rest) rest (g.call.temps.values index)
      (λ w. branch (inside (number_of w) (length_of (load g.world (location_at g.call.temps there))))
      (gives (scene_of (high x.table x.blocks (starts g line rest))) to (costs 1 (element_at (location_at g.call.temps there) (number_of w)))) Fails)
      (λ w h. branch_settles x (starts g line rest) rest (inside (number_of w) (length_of (load g.world (location_at g.call.temps there))))
      (gives (scene_of (high x.table x.blocks (starts g line rest))) to (costs 1 (element_at (location_at g.call.temps there) (number_of w)))) Fails
      (λ found. array_found y there_to (unhooked_numbers x g.call.site y.linked.0 to there_to i.1) there e p.named shape.0 look w
      (int_read x g line rest y index w i.0 h) found) (λ found before. tt)))
