-- A call that begins: its result is at its default then, and both states belong together.
use Rattle.std.proofs.Common.{◌≡◌, ℕ, suc, ◌+◌, ◌-◌, ◌*◌, ◌<◌, ◌≤◌, List, [], ◌∷◌, length, Option, Some, None, true, false, Ok, not, ◌⊎◌, inl, inr}
use Rattle.std.proofs.lemmas.Bool.{and_parts}
use Rattle.std.proofs.Common.{refl, sym, ap, subst, ◌∙◌, arith, append-nil}
use Rattle.std.proofs.lemmas.Bool.{cases_Bool}
use Rattle.std.specs.Prelude.{slice_set}
use Rattle.nim_types.specs.Forms.{form_of, hooked}
use Rattle.nim_types.specs.Table.{type_at, types_in, facts_in}
use Rattle.nim_types.specs.Types.{Ty}
use Rattle.nim_meaning.specs.Meaning.{filled}
use Rattle.nim_meaning.specs.State.{Frame, World, with_frame, with_slot, with_slot_of}
use Rattle.nim_meaning.specs.Values.{Value, bytes, Slot, Holds, default_of}
use Rattle.flat_code.specs.declared.block.BlockLine.{BlockLine}
use Rattle.flat_code.specs.declared.place.PlaceKind.{PlaceKind}
use Rattle.flat_code.specs.declared.place.PlaceKind.TheVariants as K
use Rattle.flat_code.specs.Codes.{proc_of}
use Rattle.flat_code.specs.Fits.{Signature, is_own, type_by_kind}
use Rattle.flat_code.specs.Running.{frame_of, slot_bytes}
use Rattle.flat_code.specs.Scene.{no_temps}
use Rattle.flat_code.specs.Shapes.{Shape, has_shape, shape_of}
use Rattle.word_code.specs.declared.word.WordInstr.{WordInstr}
use Rattle.word_code.specs.Memory.{Memory, number_at}
use Rattle.word_code.specs.Words.{Vars, no_words}
use Rattle.word_code.proofs.ForCallers.{Runs, at, none as no_run}
use Rattle.word_lowering.specs.declared.homes.Housed.{Housed}
use Rattle.word_lowering.specs.Layouts.{params_in, result_in, holds_address, owns}
use Rattle.word_lowering.specs.Lowered.{result_cleared}
use Rattle.word_lowering.specs.Spots.{clears}
use Rattle.word_lowering.proofs.HeapKept.{SameHeap, heap_then}
use Rattle.word_lowering.proofs.Callees.{Callee}
use Rattle.word_lowering.proofs.CallersHold.{callers_hold, filled_more, with_slot_last}
use Rattle.word_lowering.proofs.Clears.{gets_cleared}
use Rattle.word_lowering.proofs.FirstPlaces.{FirstResult, Gave, ResultFirst, slots_of}
use Rattle.word_lowering.proofs.Gets.{Changes, changes_of, good_item_place, same_temps}
use Rattle.word_lowering.proofs.InMemory.{AllZero, blank_zero, bytes_some}
use Rattle.word_lowering.proofs.Keeping.{call, beyond, later_ground, from_home}
use Rattle.word_lowering.proofs.Lines.{Basis, IsGood, all_procs, changed, known, lower, stands_next, starts}
use Rattle.word_lowering.proofs.MovedLines.{own_plain}
use Rattle.word_lowering.proofs.NewCalls.{VarsThen, all_frames_then, frame_with, holding_then, level_is, level_last, levels_then, linked_then, params_long}
use Rattle.word_lowering.proofs.NewCalls.{sites_then}
use Rattle.word_lowering.proofs.NewCalls.{site_then, slots_few, world_first}
use Rattle.word_lowering.proofs.Related.{Answers, Both, StandAt, Waits, body_of, calls_of, sites_of, within, MemoryGood, store_of, store_with}
use Rattle.word_lowering.proofs.RoutineCalls.{awaiting}
use Rattle.word_lowering.proofs.Scenes.{is_fixed, AllHold, IsThere, house, looked, of_place, IsItem, address_of}
use Rattle.word_lowering.proofs.ShapeFacts.{never, values_of_numbers, shape_bytes}
use Rattle.word_lowering.proofs.Sites.{Site, looks, room, type_of, next_base, has_hooks, is_one_word}
use Rattle.word_lowering.proofs.SitesApart.{houses}
use Rattle.word_lowering.proofs.ValueFacts.{place_there, housed_inside}
use Rattle.rv32_isa.specs.declared.micro_op.Size.TheVariants.{Word}
use Rattle.word_lowering.proofs.BlankShapes.{of_handles}
use Rattle.word_lowering.proofs.FullValues.{stored_bytes}
use Rattle.word_lowering.proofs.HookedMoves.{blank_arrived}
use Rattle.word_lowering.proofs.Items.{item_of}
use Rattle.word_lowering.proofs.StoredLater.{shape_some}

-- a place with a value of its own has the type that stands there
own_type : (k : PlaceKind) (ty : Ty) → is_own k ≡ true → type_by_kind k ty ≡ ty
own_type K.Counter ty h = never h
own_type k ty h = refl

module _ (x : Basis) (g : Both) (line : BlockLine) (rest : List BlockLine) (y : IsGood x (starts g line rest)) {proc : ℕ} {s : Signature}
    (c : Callee x.table x.blocks proc s) (m : Memory) (slots : List Slot)
    (gave : Gave x.table x.blocks m (sites_of g) g.ground g.world g.words (g.call.site.base + room (body_of g)) slots (params_in c.body.own.all))
    (left : ℕ) (e : g.call.site.left ≡ suc left) (to : ℕ)
    (answers : Answers x.table x.blocks c.body (record { call = g.call; rest = rest; to = to; proc = proc }))
    (good_m : MemoryGood x.table x.blocks (sites_then x g line rest y c m slots gave left e) x.first m)
    (heap_m : SameHeap g.memory m) (still : (a w : ℕ) → a + 4 ≤ next_base (sites_of g) → number_at g.memory a Word ≡ Ok w → number_at m a Word ≡ Ok w) where
  abbrev here : Site
  here = site_then x g line rest y c m slots gave left e

  abbrev first_world : World
  first_world = world_first x g line rest y c m slots gave left e

  abbrev frame : List Slot → Frame
  frame result = frame_with x g line rest y c m slots gave left e result

  -- the caller then
  abbrev pub waits_then : Waits
  waits_then = record { call = g.call; rest = rest; to = to; proc = proc }

  -- behind the call, with these lines left
  abbrev pub begun : Vars → List BlockLine → Both
  begun vars lines = record {
    units = g.units;
    memory = m;
    input = g.input;
    world = first_world;
    call = call here no_temps vars;
    rest = lines;
    words = no_words;
    awaits = 0;
    waiting = waits_then ∷ g.waiting;
    ground = g.ground;
  }

  stand_then : (lines : List BlockLine) → c.body.proc.lines ≡ lines → StandAt x.table x.blocks c.body lines
  stand_then lines is = subst (StandAt x.table x.blocks c.body) is (record { before = []; whole = refl; fits = c.is.fits })

  callers_then : AllHold x.table x.blocks (store_with g m) first_world (calls_of g)
  callers_then = callers_hold x (calls_of g) y.linked g.world (frame []) y.levels here (level_is x g line rest y c m slots gave left e) (store_of g)
      (store_with g m) (beyond still) (later_ground g.ground) y.hold

  module _ (vars : Vars) (is : VarsThen x g line rest y c m slots gave left e vars) where
    pub good_begun : (lines : List BlockLine) → c.body.proc.lines ≡ lines → IsGood x (begun vars lines)
    good_begun lines same = record {
      linked = linked_then x g line rest y c m slots gave left e;
      memory = good_m;
      heap = heap_then (is_fixed g.ground) g.ground.blocks g.world.heap g.memory m y.memory.sized good_m.sized heap_m y.heap;
      input = y.input;
      hold = (holding_then x g line rest y c m slots gave left e vars is, callers_then);
      frames = all_frames_then x g line rest y c m slots gave left e;
      levels = levels_then x g line rest y c m slots gave left e;
      stands = stand_then lines same;
      waits = (stands_next x.table x.blocks (body_of g) line rest y.stands, y.waits);
      answers = (answers, y.answers);
      idle = y.idle;
      fixed = y.fixed;
    }

    -- ---- the result

    -- before its first line, in a world
    abbrev pub ended : World → Vars → Memory → Vars → ℕ → Both
    ended world v m words awaits = changed (begun vars []) c.body.proc.lines no_temps v m words awaits world

    abbrev pub world_then : World
    world_then = with_frame g.world (frame_of (proc_of (known x) c.body.proc) slots)

    -- what the first lines make of it
    pub record Ready (k : List WordInstr) : Type 0 where
      pub vars_then : Vars
      pub memory : Memory
      pub words : Vars
      pub awaits : ℕ
      pub good : IsGood x (ended world_then vars_then memory words awaits)
      pub steps : ℕ
      pub few : steps ≤ 8 + 2 * slot_bytes (slots_of x.table c.body)
      pub runs : Runs x.live (all_procs x) steps
          (at (within x.table x.blocks (begun vars [])) m (result_cleared (result_in c.body.own.all) k) vars no_words)
          (at (awaiting (within x.table x.blocks (begun vars [])) awaits) memory k vars_then words)

    no_result : (k : List WordInstr) → result_in c.body.own.all ≡ None → slots_of x.table c.body ≡ [] → Ready k
    no_result k none empty = record {
      vars_then = vars;
      memory = m;
      words = no_words;
      awaits = 0;
      good = subst (λ l. IsGood x (ended (with_frame g.world (frame l)) vars m no_words 0)) (sym empty)
          (good_begun c.body.proc.lines refl);
      steps = 0;
      few = omega arith;
      runs = subst (λ o. Runs x.live (all_procs x) 0
          (at (within x.table x.blocks (begun vars [])) m (result_cleared o k) vars no_words)
          (at (within x.table x.blocks (begun vars [])) m k vars no_words)) (sym none)
          (no_run (lower x) (at (within x.table x.blocks (begun vars [])) m k vars no_words));
    }

    abbrev number : ℕ
    number = c.body.proc.first + length (params_in c.body.own.all)

    -- the frame has one slot more
    world_more : (v : Value) → slots_of x.table c.body ≡ Holds v ∷ []
        → with_slot first_world (suc g.call.site.level) number (Some (Holds v)) ≡ world_then
    world_more v is_slots =
        let long = params_long x g line rest y c m slots gave left e in
        let few = slots_few x g line rest y c m slots gave left e in
        let some : length (slots_of x.table c.body) ≡ 1 = ap length is_slots in
        let index : number - c.body.proc.first ≡ length slots = omega (arith, long) in
        let room_left : length slots < c.body.proc.span = omega (arith, few, some) in
        with_slot_last g.world (frame []) (suc g.call.site.level) number (Some (Holds v)) (level_last x g line rest y c m slots gave left e)
        ∙ ap (with_frame g.world)
        (ap (λ l. with_slot_of (record (frame []) { slots = filled c.body.proc.span l }) number (Some (Holds v))) (append-nil slots)
        ∙ ap (λ i. record (frame []) { slots = slice_set (filled c.body.proc.span slots) i (Some (Holds v)) }) index
        ∙ ap (λ l. record (frame []) { slots = l }) (filled_more c.body.proc.span slots (Holds v) room_left)
        ∙ ap frame (sym is_slots))

    module _ (k : List WordInstr) (r : Housed) (is_result : result_in c.body.own.all ≡ Some r)
        (f : FirstResult x.table c.body.own.all number r (slots_of x.table c.body)) (l : BlockLine) (ls : List BlockLine)
        (same : c.body.proc.lines ≡ l ∷ ls) where
      abbrev place : Housed
      place = house here (of_place number)

      abbrev start_type : Ty
      start_type = type_at (types_in x.table) r.ty

      abbrev start_value : Value
      start_value = default_of (facts_in x.table) start_type

      there : IsThere here (of_place number)
      there = place_there x here number c.is f.there

      own_result : owns place ≡ true
      own_result = subst (λ h. owns h ≡ true) (sym f.same) f.own

      plain_result : holds_address place ≡ false
      plain_result = own_plain place own_result

      look_result : looked x.table here (of_place number) ≡ shape_of (facts_in x.table) start_type
      look_result = ap (looks x.table) f.same ∙ f.look

      shaped_result : has_shape start_value (looked x.table here (of_place number)) ≡ true
      shaped_result = subst (λ z. has_shape start_value z ≡ true) (sym look_result) (x.defaults r.ty)

      abbrev y_begun : IsGood x (starts (begun vars []) l ls)
      y_begun = good_begun (l ∷ ls) same

      -- the result is what its type starts at, where it is
      record Cleared : Type 0 where
        changes : Changes x (begun vars []) l ls y_begun (clears place k) k (of_place number) (9 + bytes start_value)
        item : IsItem x.table (store_with (begun vars []) changes.memory) (call here no_temps changes.vars) (of_place number) start_value
        some : 4 ≤ bytes start_value

      cleared_numbers : has_hooks x.table place ≡ false → Cleared
      cleared_numbers unhooked =
          let h = houses x.table x.blocks here (of_place number) c.is there in
          let numbers = h.numbers unhooked in
          let zero_result : AllZero start_value = blank_zero (form_of (facts_in x.table) start_type)
          (subst (λ t. hooked (form_of (facts_in x.table) t) ≡ false) (ap (type_of x.table) f.same
          ∙ own_type r.kind start_type (and_parts (is_own r.kind) (not (holds_address r)) f.own).0)
          (h.unhooked unhooked)) in
          let q = gets_cleared x (begun vars []) l ls y_begun (of_place number) there plain_result start_value numbers shaped_result zero_result k in
          record {
            changes = changes_of x (begun vars []) l ls y_begun q;
            item = item_of x.table (store_with (begun vars []) q.memory) (call here no_temps q.vars) (of_place number) start_value (record {
              there = there;
              numbers = numbers;
              plain = plain_result;
              shaped = shaped_result;
              at = q.at_place;
            });
            some = bytes_some start_value (values_of_numbers start_value (looked x.table here (of_place number)) numbers shaped_result);
          }

      -- whatever it has
      cleared_bits : has_hooks x.table place ≡ true → Cleared
      cleared_bits hooks =
          let s : Shape = shape_of (facts_in x.table) start_type in
          let built = c.is.built place there.among hooks in
          let handles : of_handles s ≡ true = sym (ap of_handles look_result) ∙ built.0 in
          let many : is_one_word s ≡ false = sym (ap is_one_word look_result) ∙ built.1 in
          let inside = housed_inside x c.body place (houses x.table x.blocks here (of_place number) c.is there) plain_result built.1 in
          let q = blank_arrived x (begun vars []) l ls y_begun (of_place number) r.ty
          (record { there = there; plain_is = plain_result; inside = inside; look = look_result }) handles many k in
          let some_bytes = shape_some s in
          let item = q.item no_temps in
          let stored = from_home (store_with (begun vars []) q.changes.memory) here.base q.changes.vars (looked x.table here (of_place number)) place
          start_value plain_result inside item.at in
          let size : bytes start_value ≡ shape_bytes s
          = stored_bytes (is_fixed g.ground) g.ground.blocks q.changes.memory (address_of here.base place.home) (looked x.table here (of_place number))
          start_value stored shaped_result ∙ ap shape_bytes look_result in
          record { changes = q.changes; item = item; some = omega (arith, some_bytes, size) }

      cleared : Cleared
      cleared = by (cases_Bool (has_hooks x.table place))
        where
          by : (has_hooks x.table (house (site_then x g line rest y c m slots gave left e) (of_place number)) ≡ true)
              ⊎ (has_hooks x.table (house (site_then x g line rest y c m slots gave left e) (of_place number)) ≡ false) → Cleared
          by (inl hooks) = cleared_bits hooks
          by (inr unhooked) = cleared_numbers unhooked

      with_result : Ready k
      with_result =
          let z = cleared in
          let q = z.changes in
          let good = good_item_place x (begun vars []) l ls y_begun number there own_result start_value c.body.proc.lines
          (stand_then c.body.proc.lines refl) no_temps (same_temps x (begun vars []) l ls y_begun) (clears place k) k (9 + bytes start_value) q z.item in
          record {
            vars_then = q.vars;
            memory = q.memory;
            words = q.words;
            awaits = q.awaits;
            good = subst (λ w. IsGood x (ended w q.vars q.memory q.words q.awaits)) (world_more start_value f.slots) good;
            steps = q.steps;
            few = (let h = q.few in let z = ap slot_bytes f.slots in let b = cleared.some in omega (arith, h, z, b));
            runs = subst (λ o. Runs x.live (all_procs x) q.steps
                (at (within x.table x.blocks (begun vars [])) m (result_cleared o k) vars no_words)
                (at (awaiting (within x.table x.blocks (begun vars [])) q.awaits) q.memory k q.vars q.words)) (sym is_result)
                (subst (λ h. Runs x.live (all_procs x) q.steps
                (at (within x.table x.blocks (begun vars [])) m (clears h k) vars no_words)
                (at (awaiting (within x.table x.blocks (begun vars [])) q.awaits) q.memory k q.vars q.words)) f.same q.runs);
          }

    -- a call is ready for its first line
    pub ready : (k : List WordInstr) (l : BlockLine) (ls : List BlockLine) → c.body.proc.lines ≡ l ∷ ls → Ready k
    ready k l ls same = by (result_in c.body.own.all) refl c.orderly.result
      where
        by : (o : Option Housed) → result_in c.body.own.all ≡ o
            → ResultFirst x.table c.body.own.all (c.body.proc.first + length (params_in c.body.own.all)) o (slots_of x.table c.body) → Ready k
        by None is empty = no_result k is empty
        by (Some r) is f = with_result k r is f l ls same
