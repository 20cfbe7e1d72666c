-- Lines that lead to an element of an array are followed.
use Rattle.std.proofs.Common.{◌≡◌, ℕ, zero, suc, ◌+◌, ◌*◌, ◌^◌, ◌<◌, ◌≤◌, List, [], ◌∷◌, Some, true, ℤ, refl, ◌∙◌, arith, mul-le-mul, le_refl, Bool, ap}
use Rattle.std.proofs.Common.{false, negsuc, pos, subst, sym, unsigned_abs}
use Rattle.nim_meaning.specs.Values.{Value, Parts, Number, Handle, Fixed, Ref, Resource, Gone, Vacant, Location, deeper, length_of, number_of}
use Rattle.nim_meaning.specs.Deeds as deeds
use Rattle.nim_meaning.specs.Places.{item_of, to_item, to_one}
use Rattle.nim_program.specs.Ints.{fits as is_int_number}
use Rattle.std.proofs.Common.{min, length, append-nil}
use Rattle.std.proofs.lemmas.Int.{ints}
use Rattle.std.proofs.lemmas.Bool.{lt-ltb}
use Rattle.flat_code.specs.declared.block.BlockLine.{BlockLine}
use Rattle.flat_code.specs.declared.line.Line.TheVariants as L
use Rattle.flat_code.specs.Shapes.{Shape, row, has_shape, shape_of}
use Rattle.word_code.specs.declared.word.WordOperation.TheVariants as operation
use Rattle.word_code.specs.declared.word.Test.TheVariants as test
use Rattle.word_code.specs.declared.word.WordInstr.{WordInstr}
use Rattle.word_code.specs.declared.word.WordInstr.TheVariants.{Compute, Branch, Constant}
use Rattle.word_code.specs.Words.{put, Vars, from_label}
use Rattle.word_lowering.specs.declared.homes.TheConstants.{FIRST, SECOND, OWN_FROM}
use Rattle.word_lowering.specs.declared.homes.Home.{Home}
use Rattle.word_lowering.specs.declared.homes.Home.TheVariants.{Variable, Placed, Static}
use Rattle.word_lowering.specs.declared.homes.Alias.TheVariants as alias
use Rattle.word_lowering.specs.Operations.{least, trap_label, word}
use Rattle.word_lowering.specs.Spots.{address}
use Rattle.word_lowering.specs.LineCode.{behind_code, item_at, item_code, location, variable_of}
use Rattle.word_lowering.specs.Lowered.{any_branches}
use Rattle.word_lowering.specs.OwnedCode.{has_handle}
use Rattle.nim_types.specs.Forms.{or_word}
use Rattle.word_lowering.proofs.ControlLines.{plain, FollowedHere, int_read, kind_at}
use Rattle.word_lowering.proofs.Lines.{Basis, IsGood, all_procs, starts, Settles, all_sites, fits_here, using_settles, where_there}
use Rattle.word_lowering.proofs.Moves.{IsHigh, address_runs, same_first, same_more, same_second}
use Rattle.word_lowering.proofs.OpRuns.{gives_computed, behind_branch, behind_computed, behind_constant, leads_constant, leads_off, same_but}
use Rattle.word_lowering.proofs.OrdinalRuns.{AllSame, Gives, put_low}
use Rattle.word_lowering.proofs.Related.{Both, within, body_of, high}
use Rattle.word_lowering.proofs.Scenes.{Points, IsNamed, IsThere, house, looked, of_location, reached_so}
use Rattle.word_lowering.proofs.Settling.{LabelsLead, TrapsStop, code_next, Comes, code_here, trap_settles}
use Rattle.word_lowering.proofs.ShapeFacts.{never, shape_bytes}
use Rattle.word_lowering.proofs.ShapePaths.{shape_some, Step, step_within}
use Rattle.arc_base.specs.Event.{writes}
use Rattle.arc_base.specs.declared.outside.Stream.TheVariants.{Err}
use Rattle.flat_code.specs.Fits.{if_kind, is_location, is_standing, place_named, same_bool}
use Rattle.flat_code.specs.Lines.{leads, using_number}
use Rattle.flat_code.specs.Running.{scene_of}
use Rattle.flat_code.specs.Scene.{Passes, Where, location_at, with_place}
use Rattle.nim_meaning.specs.Acts.{line_of}
use Rattle.nim_meaning.specs.Deeds.{Answers, Finishes, costs, give, stop, unless_gone}
use Rattle.nim_meaning.specs.State.{is_seen, load}
use Rattle.nim_program.specs.Ints.{inside}
use Rattle.nim_program.specs.Kinds.{TypeKind, element_of, is_int, is_of, kind_if}
use Rattle.nim_program.specs.Traps.{IndexOutOfBounds, trap_text}
use Rattle.nim_types.specs.Table.{facts_in}
use Rattle.rv32_isa.specs.Values.{low_product}
use Rattle.std.proofs.lemmas.Bool.{and_parts}
use Rattle.std.specs.Prelude.{int_le, int_lt, nat_lt, not, ◌&&◌}
use Rattle.word_code.proofs.ForCallers.{got, then_runs}
use Rattle.word_lowering.proofs.AddressFacts.{AtAddress, at_homed, read_row}
use Rattle.word_lowering.proofs.Arithmetic.{fits_signed}
use Rattle.word_lowering.proofs.LineFits.{are_of, elements_shape, no_handle, numbers_no_handle, some_kind}
use Rattle.word_lowering.proofs.LocationHouses.{homed_house}
use Rattle.word_lowering.proofs.NumberLines.{variable}
use Rattle.word_lowering.proofs.OperationRuns.{Given, Led}
use Rattle.word_lowering.proofs.OrdinalChecks.{inside_is}
use Rattle.word_lowering.proofs.PartLines.{deeper_in, leads_near, leads_on, leads_settles, led_home, led_variable, own_location, part_standing}
use Rattle.word_lowering.proofs.PartLines.{same_bool_true}
use Rattle.word_lowering.proofs.Sites.{around, is_one_word, word_of}
use Rattle.word_lowering.proofs.Targets.{location_alias, own_alias, pointed}
use Rattle.word_lowering.proofs.ValueFacts.{Operand, homed_plain, location_of_numbers, type_in, with_home, IsHomed}
use Rattle.word_lowering.specs.Stored.{count_in, element_bytes, entry_at}
use Rattle.word_lowering.proofs.HookedMoves.{BitsHere}

-- a value of an array leads on as any whole does
pub item_deeper : (v : Value) (n : ℕ) (s : Shape) (l : Location) (i : ℕ) → has_shape v (row n s) ≡ true → item_of v l i ≡ deeper l i
item_deeper (Parts vs) n s l i h = refl
item_deeper (Number z) n s l i h = never h
item_deeper (Handle m k) n s l i h = never h
item_deeper (Fixed t) n s l i h = never h
item_deeper (Ref r) n s l i h = never h
item_deeper (Resource vs j) n s l i h = never h
item_deeper (Gone v f) n s l i h = never h
item_deeper Vacant n s l i h = never h

-- of a row in memory there aren't too many elements
row_few : (a n : ℕ) (s : Shape) → a + shape_bytes (row n s) < 2 ^ 32 → (4 * n ≤ shape_bytes (row n s)) × (n * shape_bytes s ≤ shape_bytes (row n s))
row_few a n s near =
    let b = shape_some s in
    let h : n * 4 ≤ n * shape_bytes s = mul-le-mul (le_refl n) b in
    let w = more (n * shape_bytes s) in
    (omega (arith, h, w), w)
  where
    more : (m : ℕ) → m ≤ or_word m
    more zero = omega arith
    more (suc m) = omega arith

module _ (x : Basis) (traps : TrapsStop x) (labels : LabelsLead x) (g : Both) (rest : List BlockLine) (to from index : ℕ) where
  abbrev item_here : BlockLine
  item_here = plain (L.Item to from index)

  module _ (y : IsGood x (starts g item_here rest)) where
    abbrev k : List WordInstr
    k = code_next x g item_here rest y

    -- as many bytes as FIRST says behind a home
    abbrev Behind : (lines : List WordInstr) → Vars → (d n : ℕ) → Type 0
    Behind lines v d n = (steps : ℕ) × (0 < steps) × (steps ≤ 2)
        × Gives x.live (all_procs x) (within x.table x.blocks g) g.memory g.words lines v d n k steps

    pointed_given : (d : ℕ) (home : Home) (a o : ℕ) (v : Vars) → v FIRST ≡ Some o → OWN_FROM ≤ d
        → Points g.call.site.base v home a → a + o < 2 ^ 32 → Behind (address SECOND home ∷ Compute d operation.Add SECOND FIRST ∷ k) v d (a + o)
    pointed_given d home a o v first least points near =
        let r = gives_computed x.live (all_procs x) (within x.table x.blocks g) g.memory g.words k (put v SECOND a) d (a + o) least near operation.Add
        SECOND FIRST a o (got a (omega (arith, near))) first (omega (arith, near)) in (
          2,
          omega arith,
          omega arith,
          record {
            vars = r.vars;
            given = r.given;
            but = same_but v (put v SECOND a) r.vars d (same_second v a) r.but;
            runs = then_runs x.live (all_procs x)
                (address_runs x.law x.live (all_procs x) (within x.table x.blocks g) refl g.words g.memory (Compute d operation.Add SECOND FIRST ∷ k) v SECOND
                home a points) r.runs;
          },
        )

    behind_given : (d : ℕ) (home : Home) (a o : ℕ) (v : Vars) → AllSame g.call.vars v → v FIRST ≡ Some o → OWN_FROM ≤ d → IsHigh home
        → Points g.call.site.base g.call.vars home a → a + o < 2 ^ 32 → Behind (behind_code d home k) v d (a + o)
    behind_given d (Variable u) a o v same first least up points near = (
      1,
      omega arith,
      omega arith,
      gives_computed x.live (all_procs x) (within x.table x.blocks g) g.memory g.words k v d (a + o) least near operation.Add u FIRST a o
          (same.others u up ∙ points) first (omega (arith, near)),
    )
    behind_given d (Placed n) a o v same first least up points near = pointed_given d (Placed n) a o v first least points near
    behind_given d (Static n) a o v same first least up points near = pointed_given d (Static n) a o v first least points near

    module _ (there : Where) (e : g.call.temps.places from ≡ Some there) (named_from : IsNamed g.call.site (of_location from))
        (homed_from : IsHomed x g.call.site from)
        (there_to : IsThere g.call.site (of_location to)) (count : ℕ)
        (look : looked x.table g.call.site (of_location from) ≡ row count (looked x.table g.call.site (of_location to)))
        (as_base : is_standing (house g.call.site (of_location to)).kind ≡ true → is_standing (house g.call.site (of_location from)).kind ≡ true)
        (w : Value) (o : Operand x g.call index w) where
      abbrev each : ℕ
      each = shape_bytes (looked x.table g.call.site (of_location to))

      abbrev index_variable : ℕ
      index_variable = variable x g item_here rest y index

      at_is : AtAddress x g item_here rest y (location (around x.table x.blocks (body_of g)) from) there (looked x.table g.call.site (of_location from))
      at_is = at_homed x g item_here rest y from there named_from homed_from e (ap is_one_word look)

      near : at_is.address + shape_bytes (row count (looked x.table g.call.site (of_location to))) < 2 ^ 32
      near = subst (λ s. at_is.address + shape_bytes s < 2 ^ 32) look
          (leads_near x g item_here rest y there at_is.address (looked x.table g.call.site (of_location from)) at_is.leads_to)

      count_small : count < 2 ^ 30
      count_small = let f = row_few at_is.address count (looked x.table g.call.site (of_location to)) near in omega (arith, near, f.0)

      -- what the table says of it
      rows : (count_in (entry_at x.table (location (around x.table x.blocks (body_of g)) from).ty) ≡ count)
          × (0 < count → element_bytes x.table (entry_at x.table (location (around x.table x.blocks (body_of g)) from).ty) ≡ each)
          × (has_handle (entry_at x.table (location (around x.table x.blocks (body_of g)) from).ty) ≡ false)
      rows = let h = homed_house x g item_here rest y from there named_from homed_from e in
          h.housed.rows count (looked x.table g.call.site (of_location to)) (ap (shape_of (facts_in x.table)) h.typed ∙ look)

      abbrev to_variable : ℕ
      to_variable = led_variable x g item_here rest y to

      abbrev bytes_in_code : ℕ
      bytes_in_code = element_bytes x.table (entry_at x.table (location (around x.table x.blocks (body_of g)) from).ty)

      code_is : code_here x g item_here rest y ≡ item_code to_variable at_is.home index_variable count bytes_in_code k
      code_is =
          ap (λ b. item_at (around x.table x.blocks (body_of g)) b to from index k) rows.2
          ∙ ap (λ u. item_code (variable_of u) (location (around x.table x.blocks (body_of g)) from).home index_variable
          (count_in (entry_at x.table (location (around x.table x.blocks (body_of g)) from).ty)) bytes_in_code k)
          (own_location x g item_here rest y to there_to)
          ∙ (ap (λ u. item_code to_variable u index_variable (count_in (entry_at x.table (location (around x.table x.blocks (body_of g)) from).ty))
          bytes_in_code k) at_is.home_is
          ∙ ap (λ n. item_code to_variable at_is.home index_variable n bytes_in_code k) rows.0)

      index_reads : (n : ℕ) → put g.call.vars FIRST n index_variable ≡ Some (word (number_of w))
      index_reads n = put_low g.call.vars FIRST n index_variable (omega arith) o.high ∙ o.word_is

      inside_here : nat_lt (word (number_of w)) count ≡ inside (number_of w) count
      inside_here =
          let m : min count least ≡ count = (let c = count_small in omega (arith, c)) in
          ap (λ n. nat_lt (word (number_of w)) n) (sym m) ∙ inside_is (number_of w) count o.fits

      abbrev behind_count : List WordInstr
      behind_count = Constant FIRST bytes_in_code ∷ Compute FIRST operation.Multiply index_variable FIRST ∷ behind_code to_variable at_is.home k

      lost : inside (number_of w) count ≡ false → (target_code : List WordInstr)
          → from_label (trap_label IndexOutOfBounds) (word_of x.table x.blocks (body_of g)).lines ≡ Some target_code → Comes x g item_here rest y target_code
      lost h target_code stands = subst (λ l. Led x.live (all_procs x) (within x.table x.blocks g) g.memory g.words l g.call.vars target_code) (sym code_is)
          (record {
            steps = 1 + 1;
            some = omega arith;
            few = omega arith;
            leads = leads_constant x.live (all_procs x) (within x.table x.blocks g) g.memory g.words
                (Branch test.NotBelow index_variable FIRST (trap_label IndexOutOfBounds) ∷ behind_count) target_code g.call.vars 1 FIRST count
                (omega arith) (omega arith)
                (leads_off x.live (all_procs x) (within x.table x.blocks g) g.memory g.words behind_count target_code (put g.call.vars FIRST count)
                test.NotBelow index_variable FIRST (trap_label IndexOutOfBounds) (word (number_of w)) count (index_reads count)
                (got count (let c = count_small in omega (arith, c))) (ap not (inside_here ∙ h)) stands);
          })

      -- the address of an element
      run : (i : ℕ) → i < count → g.call.vars index_variable ≡ Some i → at_is.address + i * each < 2 ^ 32
          → Given x.live (all_procs x) (within x.table x.blocks g) g.memory g.words (code_here x g item_here rest y) g.call.vars to_variable
          (at_is.address + i * each) k
      run i less reads small =
          let w1 : Vars = put g.call.vars FIRST count in
          let w2 : Vars = put w1 FIRST each in
          let w3 : Vars = put w2 FIRST (low_product i each) in
          let i1 : w1 index_variable ≡ Some i = put_low g.call.vars FIRST count index_variable (omega arith) o.high ∙ reads in
          let i2 : w2 index_variable ≡ Some i = put_low w1 FIRST each index_variable (omega arith) o.high ∙ i1 in
          let some = shape_some (looked x.table g.call.site (of_location to)) in
          let inner = step_within (row count (looked x.table g.call.site (of_location to))) i (i * each) (looked x.table g.call.site (of_location to))
          (less, refl, refl) in
          let bytes_small : each < 2 ^ 32 = (let n = near in omega (arith, n, inner)) in
          let product : low_product i each ≡ i * each = omega (arith, small) in
          let same3 : AllSame g.call.vars w3 = same_more g.call.vars w1 w3 (same_first g.call.vars count)
          (same_more w1 w2 w3 (same_first w1 each) (same_first w2 (low_product i each))) in
          let b = led_home x g item_here rest y to there_to in
          let r = behind_given to_variable at_is.home at_is.address (i * each) w3 same3
          (got (low_product i each) (omega arith) ∙ ap Some product) b.high_is at_is.high_is at_is.points small in
          let count_word : count < 2 ^ 32 = (let c = count_small in omega (arith, c)) in
          let l2 : List WordInstr = Compute FIRST operation.Multiply index_variable FIRST ∷ behind_code to_variable at_is.home k in
          let l1 : List WordInstr = Constant FIRST each ∷ l2 in
          subst (λ l. Given x.live (all_procs x) (within x.table x.blocks g) g.memory g.words l g.call.vars to_variable (at_is.address + i * each) k)
          (sym (code_is ∙ ap (λ n. item_code to_variable at_is.home index_variable count n k) (rows.1 (omega (arith, less))))) (record {
            steps = 1 + (1 + (1 + (1 + r.0)));
            some = omega arith;
            few = (let f = r.2 in omega (arith, f));
            gives = behind_constant x.live (all_procs x) (within x.table x.blocks g) g.memory g.words
                (Branch test.NotBelow index_variable FIRST (trap_label IndexOutOfBounds) ∷ l1) k g.call.vars to_variable
                (at_is.address + i * each) (1 + (1 + (1 + r.0))) FIRST count (omega arith) (omega arith)
                (behind_branch x.live (all_procs x) (within x.table x.blocks g) g.memory g.words l1 k w1 to_variable
                (at_is.address + i * each) (1 + (1 + r.0)) test.NotBelow index_variable FIRST
                (trap_label IndexOutOfBounds) i count i1 (got count count_word) (ap not (lt-ltb i count less))
                (behind_constant x.live (all_procs x) (within x.table x.blocks g) g.memory g.words l2 k w1 to_variable
                (at_is.address + i * each) (1 + r.0) FIRST each (omega arith) (omega arith)
                (behind_computed x.live (all_procs x) (within x.table x.blocks g) g.memory g.words (behind_code to_variable at_is.home k) k w2 to_variable
                (at_is.address + i * each) r.0 FIRST operation.Multiply index_variable FIRST i each
                (omega arith) (omega arith) i2 (got each bytes_small) r.3)));
          })

      abbrev Leads_to : Bool → Type 0
      Leads_to b = Settles x (starts g item_here rest) rest (leads (scene_of (high x.table x.blocks (starts g item_here rest))) to there
          (costs 1 (deeds.branch b (give (deeper (location_at g.call.temps there) (unsigned_abs (number_of w)))) (stop IndexOutOfBounds))))

      found_at : (z : ℤ) → number_of w ≡ z → inside z count ≡ true
          → Settles x (starts g item_here rest) rest (Passes (Answers [] 1 (with_place to g.call.temps (deeper_in g.call.temps there (unsigned_abs z)))
          g.world))
      found_at (negsuc i) is h = never h
      found_at (pos i) is h =
          let fz : is_int_number (pos i) ≡ true = subst (λ z. is_int_number z ≡ true) is o.fits in
          let less : i < count = (let q = (and_parts (int_le (pos 0) (pos i)) (int_lt (pos i) (pos count)) h).1 in omega (arith, ints, q)) in
          let wi : word (pos i) ≡ i = (let q = fits_signed (pos i) fz in omega (arith, ints)) in
          let step : Step (looked x.table g.call.site (of_location from)) i (i * each) (looked x.table g.call.site (of_location to))
          = subst (λ s. Step s i (i * each) (looked x.table g.call.site (of_location to))) (sym look) (less, refl, refl) in
          let inner = step_within (row count (looked x.table g.call.site (of_location to))) i (i * each) (looked x.table g.call.site (of_location to))
          (less, refl, refl) in
          let some = shape_some (looked x.table g.call.site (of_location to)) in
          let small : at_is.address + i * each < 2 ^ 32 = (let n = near in omega (arith, n, inner, some)) in
          leads_settles x g item_here rest y to (deeper_in g.call.temps there i) (at_is.address + i * each) 1 (omega arith) there_to
          (part_standing x g item_here rest y to from i there named_from e as_base)
          (reached_so x.table x.blocks (all_sites x g item_here rest y) g.ground g.world g.call.site
          (with_place to g.call.temps (deeper_in g.call.temps there i)) (deeper_in g.call.temps there i) (at_is.address + i * each)
          (looked x.table g.call.site (of_location to))
          (leads_on x (all_sites x g item_here rest y) g.call.site g.ground g.world g.call.temps (with_place to g.call.temps (deeper_in g.call.temps there i))
          (λ t v h. h) there at_is.address (i * each)
          (looked x.table g.call.site (of_location from)) (looked x.table g.call.site (of_location to)) i step at_is.leads_to))
          (run i less (o.word_is ∙ ap Some (ap word is ∙ wi)) small)

      item_by : (b : Bool) → inside (number_of w) count ≡ b → Leads_to b
      item_by true h = found_at (number_of w) refl h
      item_by false h =
          subst (λ d. Settles x (starts g item_here rest) rest d)
          (ap (λ es. Passes (Finishes es (1 + length (line_of (trap_text IndexOutOfBounds))) 1 g.world))
          (sym (append-nil (writes Err (line_of (trap_text IndexOutOfBounds))))))
          (trap_settles x g item_here rest y traps IndexOutOfBounds 1 (omega arith)
          (λ l. subst (λ b. any_branches (trap_label IndexOutOfBounds) (item_at (around x.table x.blocks (body_of g)) b to from index l) ≡ true)
          (sym rows.2) refl) (lost h))

  -- of an array, whatever it has
  item_with : (IsNamed g.call.site (of_location from) → IsHomed x g.call.site from)
      → (IsNamed g.call.site (of_location from) → no_handle (looked x.table g.call.site (of_location from)) ≡ true) → BitsHere x g rest item_here
  item_with homed row_like y =
      let from_kind : TypeKind = kind_if (facts_in x.table) (type_in x is_location (body_of g) from) in
      let to_may : Bool = if_kind is_standing (place_named is_location (body_of g).proc.places to) in
      let from_may : Bool = if_kind is_standing (place_named is_location (body_of g).proc.places from) in
      let f = and_parts (is_of (type_in x is_location (body_of g) to) (element_of from_kind))
      (is_int (kind_at x g item_here rest y index) && same_bool to_may from_may)
      (fits_here x.table x.blocks (body_of g) item_here rest y.stands) in
      let r = and_parts (is_int (kind_at x g item_here rest y index)) (same_bool to_may from_may) f.1 in
      let v = are_of (type_in x is_location (body_of g) to) (element_of from_kind) f.0 in
      let s = some_kind (facts_in x.table) (type_in x is_location (body_of g) from) (λ k. is_of (Some v.ty) (element_of k)) refl
      (subst (λ o. is_of o (element_of from_kind) ≡ true) v.is f.0) in
      let p = pointed x g item_here rest y from s.0 s.1 in
      let q = pointed x g item_here rest y to v.ty v.is in
      let shape = elements_shape (facts_in x.table) s.0 v.ty s.2 (sym (ap no_handle p.look) ∙ row_like p.named) in
      let there_to : IsThere g.call.site (of_location to) = with_home x q.named
      (own_alias (house g.call.site (of_location to)).alias (location_alias x g item_here rest y to alias.Own refl refl)) tt in
      let look : looked x.table g.call.site (of_location from) ≡ row shape.0 (looked x.table g.call.site (of_location to))
      = p.look ∙ (shape.1 ∙ ap (row shape.0) (sym q.look)) in
      using_settles x (starts g item_here rest) rest (g.call.temps.places from)
      (λ there. using_number g.call.temps index (λ z. leads (scene_of (high x.table x.blocks (starts g item_here rest))) to there
      (to_item (location_at g.call.temps there) z)))
      (λ there e. using_settles x (starts g item_here rest) rest (g.call.temps.values index)
      (λ w. leads (scene_of (high x.table x.blocks (starts g item_here rest))) to there (to_item (location_at g.call.temps there) (number_of w)))
      (λ w h. by y there e p.named (homed p.named) there_to shape.0 look
      (λ st. y.linked.0.standing from (same_bool_true to_may from_may r.1 (y.linked.0.may_be_standing to st))) w
      (int_read x g item_here rest y index w r.0 h)))
    where
      by : (y : IsGood x (starts g item_here rest)) (there : Where) (e : g.call.temps.places from ≡ Some there)
          (named_from : IsNamed g.call.site (of_location from)) (homed_from : IsHomed x g.call.site from)
          (there_to : IsThere g.call.site (of_location to)) (count : ℕ)
          (look : looked x.table g.call.site (of_location from) ≡ row count (looked x.table g.call.site (of_location to)))
          (as_base : is_standing (house g.call.site (of_location to)).kind ≡ true → is_standing (house g.call.site (of_location from)).kind ≡ true)
          (w : Value) (o : Operand x g.call index w)
          → Settles x (starts g item_here rest) rest
          (leads (scene_of (high x.table x.blocks (starts g item_here rest))) to there (to_item (location_at g.call.temps there) (number_of w)))
      by y there e named_from homed_from there_to count look as_base w o =
          let v : Value = load g.world (location_at g.call.temps there) in
          where_there x (starts g item_here rest) rest (is_seen g.world (location_at g.call.temps there))
          (λ b. leads (scene_of (high x.table x.blocks (starts g item_here rest))) to there
          (costs 1 (unless_gone b (deeds.branch (inside (number_of w) (length_of v))
          (to_one v (location_at g.call.temps there) (unsigned_abs (number_of w))) (stop IndexOutOfBounds))))) (λ before. tt)
          (λ seen. let r = read_row x g item_here rest y from there named_from homed_from e count (looked x.table g.call.site (of_location to)) look seen in
          let long : length_of v ≡ count = ap length_of r.is ∙ r.long in
          let deep : to_one v (location_at g.call.temps there) (unsigned_abs (number_of w)) ≡ give (deeper (location_at g.call.temps there)
          (unsigned_abs (number_of w))) = ap (λ u. to_one u (location_at g.call.temps there) (unsigned_abs (number_of w))) r.is in
          subst (λ n. Settles x (starts g item_here rest) rest (leads (scene_of (high x.table x.blocks (starts g item_here rest))) to there
          (costs 1 (deeds.branch (inside (number_of w) n)
          (to_one v (location_at g.call.temps there) (unsigned_abs (number_of w))) (stop IndexOutOfBounds))))) (sym long)
          (subst (λ d. Settles x (starts g item_here rest) rest (leads (scene_of (high x.table x.blocks (starts g item_here rest))) to there
          (costs 1 (deeds.branch (inside (number_of w) count) d (stop IndexOutOfBounds))))) (sym deep)
          (item_by y there e named_from homed_from there_to count look as_base w o (inside (number_of w) count) refl)))

  pub item_line : FollowedHere x labels g rest (L.Item to from index)
  item_line names y =
      item_with (λ n. homed_plain x g.call.site from y.linked.0 n names.1.0)
      (λ n. numbers_no_handle (looked x.table g.call.site (of_location from)) (location_of_numbers x g.call.site from y.linked.0 n names.1.0)) y

  pub item_bits : IsHomed x g.call.site from → no_handle (looked x.table g.call.site (of_location from)) ≡ true →
      BitsHere x g rest item_here
  item_bits homed row_like y = item_with (λ n. homed) (λ n. row_like) y
