-- A sequence at a location gets one more element, the value of a temporary: the line is followed.
use Rattle.nim_types.specs.Forms.{Form, size as form_size}
use Rattle.nim_meaning.specs.Values.{Value, Location, Nil, More, joined, length_of, nothing}
use Rattle.nim_meaning.specs.Deeds.{behind, costs, give, perform, ◌>>=◌, ◌>>◌}
use Rattle.word_lowering.specs.declared.homes.Home.{Home as Place}
use Rattle.word_lowering.specs.declared.homes.Home.TheVariants.{Variable}
use Rattle.word_lowering.proofs.SequenceRowRuns.{RoomMade, element_spare, add_runs}
use Rattle.word_lowering.proofs.ValuesMoved.{awaits_behind, size_is, size_small as value_small, value_comes}
use Rattle.word_lowering.proofs.SequencesThere.{SequenceThere, block_is, bytes_short, can_have, empty_or, handle_is, leads, length_short, mine, some_bytes}
use Rattle.word_lowering.proofs.BehindPuts.{good_then, value_carried}
use Rattle.word_lowering.proofs.HeapAreas.{heap_area}
use Rattle.word_lowering.proofs.NewSequenceLines.{row_spares}
use Rattle.word_lowering.proofs.RowsOn.{RunsOn, row_on}
use Rattle.nim_meaning.specs.Heap.{Elements}
use Rattle.word_lowering.proofs.OrdinalRuns.{AllSame}
use Rattle.word_lowering.proofs.Lines.{Basis, IsGood, Settles, all_procs, all_sites, starts}
use Rattle.word_code.specs.RoutineTable.{Beside, Separate}
use Rattle.flat_code.specs.declared.block.BlockLine.{BlockLine}
use Rattle.word_lowering.proofs.Related.{Both, MemoryGood, high, within}
use Rattle.word_lowering.specs.declared.homes.TheConstants.{FIFTH}
use Rattle.word_lowering.proofs.GoodHomes.{HomeOf, good_homes, homes_apart}
use Rattle.word_lowering.specs.declared.homes.Housed.{Housed}
use Rattle.word_lowering.proofs.Sites.{InMemory, is_one_word}
use Rattle.word_lowering.proofs.RowGood.{IsLeftHere, good_put}
use Rattle.word_lowering.proofs.DeedFrames.{IsPutSo, PutsOnce, frames_put, resized_puts}
use Rattle.word_lowering.proofs.Scenes.{IsThere, address_of, house, is_fixed, looked, of_value}
use Rattle.word_lowering.proofs.RowSettles.{LeavesGood, row_deed, row_settles}
use Rattle.word_lowering.specs.declared.spots.Spot.TheVariants.{Lies}
use Rattle.std.proofs.Common.{List, Option, Some, [], ap, arith, inl, inr, length, refl, subst, suc, sym, ℕ, ◌*◌, ◌+◌, ◌<◌, ◌^◌, ◌≡◌, ◌≤◌}
use Rattle.word_code.specs.Memory.{Memory}
use Rattle.flat_code.specs.Scene.{Passes, with_value}
use Rattle.word_lowering.proofs.RowRuns.{RowDoes}
use Rattle.word_lowering.proofs.Gets.{SameTemps}
use Rattle.flat_code.specs.Shapes.{Shape, elements}
use Rattle.word_code.specs.Words.{Vars, no_words}
use Rattle.word_code.proofs.ForCallers.{Within, at, changed_rewritten}
use Rattle.word_code.specs.declared.word.WordInstr.{WordInstr}
use Rattle.nim_meaning.specs.State.{World, elements_of, load}
use Rattle.word_lowering.specs.RoutineCode.{add_code}
use Rattle.nim_meaning.specs.OwnedRows.{added}
use Rattle.word_lowering.specs.OwnedCode.{added_code}
use Rattle.word_lowering.proofs.ResizedWorlds.{answered}
use Rattle.word_lowering.proofs.Settling.{code_here, code_next}
use Rattle.flat_code.specs.Lines.{gives}
use Rattle.rv32_isa.specs.Image.{heap_at}
use Rattle.word_lowering.proofs.HandleLines.{heap_kept}
use Rattle.word_lowering.proofs.GoodRows.{later_ground_of}
use Rattle.word_lowering.proofs.BlocksBorn.{later_more}
use Rattle.word_lowering.proofs.RoutinesCalled.{left_with}
use Rattle.word_lowering.proofs.Sources.{lying_all, lying_away}
use Rattle.word_lowering.specs.Spots.{moved, spot_of}
use Rattle.word_lowering.proofs.Moves.{same_more}
use Rattle.flat_code.specs.Running.{scene_of}
use Rattle.word_lowering.proofs.ShapeFacts.{shape_bytes}

module _ (x : Basis) (g : Both) (line : BlockLine) (rest : List BlockLine) (y : IsGood x (starts g line rest)) (l : Location) (n : ℕ) (k : Option ℕ)
    (home : Place) (t : ℕ) (v : Value) (there : IsThere g.call.site (of_value t)) (has : g.call.temps.values t ≡ Some v)
    (q : SequenceThere x g line rest y l n k (looked x.table g.call.site (of_value t)) home) (of : Form)
    (same_size : form_size of ≡ shape_bytes (looked x.table g.call.site (of_value t))) (to : ℕ)
    (same : SameTemps x g line rest y (with_value to g.call.temps nothing)) where
  abbrev here : Both
  here = starts g line rest

  abbrev s : Shape
  s = looked x.table g.call.site (of_value t)

  abbrev from : Housed
  from = house g.call.site (of_value t)

  abbrev c : Within
  c = within x.table x.blocks g

  abbrev next : List WordInstr
  next = code_next x g line rest y

  abbrev moving : List WordInstr
  moving = moved from.is_word from.bytes (Lies (Variable FIFTH)) (spot_of from) next

  -- behind the value that is moved in
  abbrev last_call : ℕ
  last_call = awaits_behind (is_one_word (looked x.table g.call.site (of_value t))) FIFTH

  -- an element is no more than a home or a variable holds
  size_small : shape_bytes (looked x.table g.call.site (of_value t)) < 2 ^ 31
  size_small = value_small x g line rest y t v there has

  few : suc n < 2 ^ 32
  few = let short = length_short x g line rest y l n k s home q in omega (arith, short)

  small : suc n * shape_bytes (looked x.table g.call.site (of_value t)) < 2 ^ 32
  small = let short = bytes_short x g line rest y l n k s home q in let each = size_small in omega (arith, short, each)

  -- where there is room for it
  abbrev Room : Unit {0} → World → Memory → Vars → Type 0
  Room a after other vars =
      RoomMade (is_fixed g.ground) (HomeOf x here) (homes_apart x here y) x.law x.live (all_procs x) (heap_kept x) c refl g.ground.blocks g.world (sym y.input)
      g.memory (good_homes x here y) y.memory.bytes moving g.call.vars g.words l q.address n k q.is s (leads x g line rest y l n k s home q)
      (handle_is x g line rest y l n k s home q) (empty_or x g line rest y l n k s home q) (block_is x g line rest y l n k s home q)
      (some_bytes x g line rest y l n k s home q) (mine x g line rest y l n k s home q q.owned) (can_have x g line rest y l n k s home q) home q.at_home of
      same_size few small v after other vars

  abbrev Left : Unit {0} → World → Memory → Vars → Type 0
  Left a after other vars = IsLeftHere x g line rest y after other q.address 8 × AllSame g.call.vars vars

  room_row : RowDoes x.live (all_procs x) c moving FIFTH (element_spare (shape_bytes s)) Room
      (at c g.memory (add_code FIFTH home (shape_bytes s) moving) g.call.vars g.words) (perform (added of v l) g.world)
  room_row =
      add_runs (is_fixed g.ground) (HomeOf x here) (homes_apart x here y) x.law x.live (all_procs x) (heap_kept x) c refl g.ground.blocks g.world (sym y.input)
      g.memory (good_homes x here y) y.memory.bytes moving g.call.vars g.words l q.address n k q.is s (leads x g line rest y l n k s home q)
      (handle_is x g line rest y l n k s home q) (empty_or x g line rest y l n k s home q) (block_is x g line rest y l n k s home q)
      (some_bytes x g line rest y l n k s home q) (mine x g line rest y l n k s home q q.owned) (can_have x g line rest y l n k s home q) home q.at_home of
      same_size few small v

  -- the element comes to its room
  moved_in : (a : Unit {0}) (w : World) (m : Memory) (vars : Vars) → Room a w m vars
      → RunsOn x.live (all_procs x) c moving FIFTH (10 + 2 * shape_bytes s) next last_call (λ other vars_then. Left a w other vars_then) w.input m vars
  moved_in a w m vars r =
      let good : MemoryGood x.table x.blocks (all_sites x g line rest y) x.first m
      = good_then x g line rest y l q.address (elements s) q.owned q.live m r.sized r.beside in
      let behind : Within = left_with c w.input FIFTH in
      let comes = value_comes x g line rest y t v there has behind refl refl m good
      (λ inside. value_carried x g line rest y l q.address (elements s) q.owned q.live t there inside m r.beside) vars r.stay (Variable FIFTH) r.address
      r.at_address (heap_area m r.sized r.address (shape_bytes s) r.whole r.low (reach r.beside.sizes.heap r.high)) (near r.high)
      (λ inside. away inside r.low r.high) next in
      let z = r.finish comes.memory comes.changed.sized (changed_rewritten m comes.memory r.address (shape_bytes s) comes.changed)
      (λ later ahead. comes.stored later (later_more g.ground.blocks r.here later r.ahead ahead)) in
      record {
        memory = comes.memory;
        vars = comes.vars_then;
        behind = (z, same_more g.call.vars vars comes.vars_then r.stay comes.stay);
        steps = comes.steps;
        few = comes.few;
        runs = comes.runs;
      }
    where
      reach : length m.heap ≡ length g.memory.heap → r.address + shape_bytes s ≤ heap_at + length g.memory.heap
          → r.address + shape_bytes s ≤ heap_at + length m.heap
      reach same high = omega (arith, same, high)

      near : r.address + shape_bytes s ≤ heap_at + length g.memory.heap → r.address + shape_bytes s < 2 ^ 32
      near high = let most = y.memory.sized.heap_most in omega (arith, high, most)

      -- the room is in the heap
      away : (inside : InMemory from.home) → heap_at ≤ r.address → r.address + shape_bytes s ≤ heap_at + length g.memory.heap
          → Separate r.address (address_of g.call.site.base from.home) from.bytes
      away inside low high =
          let lying = lying_all x (all_sites x g line rest y) y.linked g.call.site (of_value t) from.bytes (inl refl) there inside refl in
          by (lying_away x (all_sites x g line rest y) y.linked g.memory (address_of g.call.site.base from.home) from.bytes y.memory lying).1
        where
          size : shape_bytes s ≡ from.bytes
          size = size_is x g line rest y t v there has

          by : Beside heap_at (length g.memory.heap) (address_of g.call.site.base from.home) from.bytes
              → Separate r.address (address_of g.call.site.base from.home) from.bytes
          by (inl h) = let e = size in inr (inl (omega (arith, h, high, e)))
          by (inr h) = let e = size in inr (inr (omega (arith, h, low, e)))

  row : RowDoes x.live (all_procs x) c next last_call 30 Left (at c g.memory (added_code home (shape_bytes s) from next) g.call.vars g.words)
      (perform (added of v l) g.world)
  row =
      row_on x.live (all_procs x) c moving FIFTH (10 + 2 * shape_bytes s) 30 next last_call Room Left moved_in
      (at c g.memory (added_code home (shape_bytes s) from next) g.call.vars g.words) (perform (added of v l) g.world)
      (row_spares x.live (all_procs x) c moving FIFTH (30 + (10 + 2 * shape_bytes s)) (element_spare (shape_bytes s)) (omega arith) Room
      (at c g.memory (added_code home (shape_bytes s) from next) g.call.vars g.words) (perform (added of v l) g.world) room_row)

  deed_puts : PutsOnce l (added of v l)
  deed_puts = λ w. resized_puts (suc (length_of (load w l))) (suc (length_of (load w l)) * form_size of)
      (Elements (joined (elements_of w (load w l)) (More v Nil))) l

  leaves : LeavesGood x g line rest y last_call (λ (a : Unit {0}). with_value to g.call.temps nothing) Left (perform (added of v l) g.world)
  leaves es work a w e other vars b =
      let put_so : IsPutSo l g.world w = frames_put l (added of v l) deed_puts g.world w (ap answered e) in (
        later_ground_of x g line rest y b.0.later,
        good_put x g line rest y l q.address (elements s) refl q.live put_so.0 w other b.0 put_so.1 q.owned (with_value to g.call.temps nothing) same vars
            no_words last_call b.1,
      )

  pub add_settles : code_here x g line rest y ≡ added_code home (shape_bytes (looked x.table g.call.site (of_value t))) (house g.call.site (of_value t))
      (code_next x g line rest y)
      → Settles x (starts g line rest) rest
      (gives (scene_of (high x.table x.blocks (starts g line rest))) to (costs 1 (added of v l >> give nothing) >>= (λ u. give u)))
  add_settles code =
      subst (λ done. Settles x (starts g line rest) rest (Passes (behind [] 1 done)))
      (sym (row_deed (added of v l) (λ a. nothing) (λ u. with_value to g.call.temps u) g.world))
      (row_settles x g line rest y last_call 30 (λ (a : Unit {0}). with_value to g.call.temps nothing) Left (perform (added of v l) g.world) leaves
      (subst (λ lines. RowDoes x.live (all_procs x) c next last_call 30 Left (at c g.memory lines g.call.vars g.words) (perform (added of v l) g.world))
      (sym code) row))
