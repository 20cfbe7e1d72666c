-- A sequence at a location whose elements have no hooks gets another length: the line is followed.
use Rattle.nim_types.specs.Forms.{Form, hooked, size as form_size}
use Rattle.nim_program.specs.Ints.{fits as is_int_number}
use Rattle.nim_program.specs.Traps.{OutOfRange}
use Rattle.nim_meaning.specs.Values.{Value, Location, Handle, blank, block_of, joined, length_of, nothing, repeated}
use Rattle.nim_meaning.specs.Heap.{Elements}
use Rattle.nim_meaning.specs.Lifted.{resized, has_place}
use Rattle.nim_meaning.specs.OwnedRows.{counted, cut, grown, sequence_to}
use Rattle.nim_meaning.specs.Deeds.{Deed, Done, behind, branch, costs, give, looks, perform, stop, ◌>>=◌, ◌>>◌}
use Rattle.word_lowering.specs.declared.homes.Home.{Home as Place}
use Rattle.word_lowering.proofs.SequenceRowRuns.{element_spare, longer_runs}
use Rattle.word_lowering.proofs.ShorterRuns.{cut_done, cut_is, filled_by, shorter_runs}
use Rattle.word_lowering.proofs.TooLongRuns.{has_none, too_long_runs}
use Rattle.word_lowering.proofs.SequencesThere.{SequenceThere, block_is, can_have, elements_fit, empty_or, handle_is, leads, mine, some_bytes}
use Rattle.word_lowering.proofs.HandleLines.{heap_kept}
use Rattle.word_lowering.proofs.TextLengthLines.{row_mapped, traps_here}
use Rattle.word_lowering.proofs.NewSequenceLines.{fit_small, row_spares}
use Rattle.word_lowering.proofs.OrdinalRuns.{AllSame, put_low}
use Rattle.word_lowering.proofs.Lines.{Basis, IsGood, Settles, all_procs, starts}
use Rattle.flat_code.specs.declared.block.BlockLine.{BlockLine}
use Rattle.word_lowering.proofs.Blocks.{Blocks, Stored}
use Rattle.std.proofs.Common.{Bool, List, None, Option, Some, [], ap, ap₂, arith, div-lt_iff_lt-mul, false, mul-le-mul_right, pos, refl, subst, suc, sym}
use Rattle.std.proofs.Common.{true, unsigned_abs, ℕ, ℤ, ◌*◌, ◌+◌, ◌-◌, ◌/◌, ◌<◌, ◌^◌, ◌∙◌, ◌≡◌, ◌≤◌}
use Rattle.word_lowering.proofs.Related.{Both, high, within}
use Rattle.word_lowering.proofs.RowRuns.{Came, RowDoes}
use Rattle.word_lowering.specs.declared.homes.TheConstants.{FIRST, OWN_FROM}
use Rattle.word_lowering.proofs.GoodHomes.{HomeOf, good_homes, homes_apart}
use Rattle.word_lowering.proofs.TextRowRuns.{IsAt}
use Rattle.word_lowering.proofs.RowGood.{IsLeftHere, good_put}
use Rattle.word_lowering.proofs.DeedFrames.{IsPutSo, frames_put, resized_puts}
use Rattle.word_lowering.proofs.RowSettles.{LeavesGood, mapped_answered, perform_mapped, row_settles}
use Rattle.word_code.specs.Memory.{Memory}
use Rattle.flat_code.specs.Scene.{Passes, with_value}
use Rattle.word_lowering.proofs.Gets.{SameTemps}
use Rattle.flat_code.specs.Shapes.{Shape, elements}
use Rattle.word_lowering.proofs.Settling.{TrapStops, code_here, code_next}
use Rattle.word_code.specs.Words.{Vars, no_words, put}
use Rattle.word_code.proofs.ForCallers.{Within, at}
use Rattle.word_code.specs.declared.word.WordInstr.{WordInstr}
use Rattle.nim_meaning.specs.State.{World, elements_of, load, store}
use Rattle.word_code.specs.RoutineTable.{ZeroWords}
use Rattle.word_lowering.proofs.ResizedWorlds.{answered, stack_of}
use Rattle.heap_memory.specs.SequenceRoutines.{bytes_for, most_payload}
use Rattle.word_lowering.proofs.HeapWanted.{came_less, came_works, least_of, resized_came, room_in}
use Rattle.word_lowering.specs.OwnedCode.{counted_code}
use Rattle.word_lowering.proofs.CountedRuns.{counted_runs}
use Rattle.word_lowering.proofs.Arithmetic.{fits_signed}
use Rattle.flat_code.specs.Lines.{gives}
use Rattle.std.specs.Prelude.{if◌then◌else◌, int_lt, nat_le}
use Rattle.std.proofs.lemmas.Int.{ints}
use Rattle.word_lowering.proofs.Scenes.{is_fixed}
use Rattle.word_lowering.proofs.GoodRows.{later_ground_of}
use Rattle.std.proofs.lemmas.Bool.{leb-false, leb-true}
use Rattle.word_lowering.specs.RoutineCode.{length_code}
use Rattle.std.proofs.lemmas.Option.{none-some}
use Rattle.word_lowering.proofs.Moves.{same_first, same_more}
use Rattle.flat_code.specs.Running.{scene_of}
use Rattle.word_lowering.proofs.ShapeFacts.{shape_bytes}
use Rattle.word_lowering.proofs.TwoHandles.{still_at}
use Rattle.word_lowering.proofs.NewLines.{value_deed}
use Rattle.word_lowering.specs.Operations.{word, least}

-- what fits in a block is what its elements need
pub fits_block : (long size : ℕ) → 0 < size → long * size ≤ most_payload → bytes_for long size ≡ long * size
fits_block long size some fit = by (nat_le long (most_payload / size)) refl
  where
    clash : most_payload < long * size → ⊥
    clash more = absurd (omega (arith, more, fit))

    by : (b : Bool) → nat_le long (most_payload / size) ≡ b → (if b then long * size else suc most_payload) ≡ long * size
    by true e = refl
    by false e = absurd (clash ((div-lt_iff_lt-mul some).0 (leb-false long (most_payload / size) e)))

-- what a location has behind a cut
pub cut_puts : (of : Form) (unhooked : hooked of ≡ false) (w : World) (l : Location) (long : ℕ) (v : Value) (after : World)
    → answered (perform (cut of long l v) w) ≡ Some after → IsPutSo l w after
cut_puts of unhooked w l long v after e =
    let z = cut_done of unhooked w l long v after (ap answered (sym (cut_is of unhooked w l long v)) ∙ e) in
    (Handle long (block_of v), sym (ap (λ (u : World). stack_of u) z.is) ∙ same (block_of v))
  where
    same : (q : Option ℕ) → stack_of (filled_by of unhooked w l long v q) ≡ stack_of (store w l (Handle long (block_of v)))
    same None = refl
    same (Some k) = refl

pub grown_puts : (of : Form) (w : World) (l : Location) (long : ℕ) (after : World) → answered (perform (grown of long l w) w) ≡ Some after → IsPutSo l w after
grown_puts of w l long after e =
    frames_put l (grown of long l w)
    (resized_puts long (long * form_size of)
    (Elements (joined (elements_of w (load w l)) (repeated (long - length_of (load w l)) (blank of)))) l) w after e

module _ (x : Basis) (g : Both) (line : BlockLine) (rest : List BlockLine) (y : IsGood x (starts g line rest)) (l : Location) (n : ℕ) (k : Option ℕ)
    (s : Shape) (home : Place) (q : SequenceThere x g line rest y l n k s home) (size_small : shape_bytes s < 2 ^ 32) (of : Form)
    (same_size : form_size of ≡ shape_bytes s)
    (zeros_blank : (later : Blocks) (middle : Memory) (a : ℕ) → ZeroWords middle a (shape_bytes s) → Stored (is_fixed g.ground) later middle a s (blank of))
  where
    abbrev here : Both
    here = starts g line rest

    abbrev c : Within
    c = within x.table x.blocks g

    abbrev Left : Vars → Unit {0} → World → Memory → Vars → Type 0
    Left v a after other vars = IsLeftHere x g line rest y after other q.address 8 × AllSame v vars

    -- ---- the routine is called with a length that is in a variable

    module _ (lines : List WordInstr) (v : Vars) (same : AllSame g.call.vars v) (long : ℕ) (few : long < 2 ^ 32) (u : ℕ) (up : OWN_FROM ≤ u)
        (long_at : v u ≡ Some long) where
      abbrev at_home : IsAt g.call.site.base v home q.address
      at_home = still_at g.call.site.base g.call.vars v home q.address same q.at_home

      abbrev long_done : Done (Unit {0})
      long_done =
          behind [] ((long - n) * shape_bytes s) (perform (resized long (long * shape_bytes s)
          (Elements (joined (elements_of g.world (load g.world l)) (repeated (long - n) (blank of)))) l) g.world)

      grown_is : perform (grown of long l g.world) g.world ≡ long_done
      grown_is =
          ap₂ (λ i e. behind [] ((long - i) * e) (perform (resized long (long * e)
          (Elements (joined (elements_of g.world (load g.world l)) (repeated (long - i) (blank of)))) l) g.world)) (ap length_of q.is) same_size

      long_came : bytes_for long (shape_bytes s) ≡ suc most_payload
          → Came (long * shape_bytes s) (room_in g.world k (long * shape_bytes s)) g.world.input long_done
      long_came big =
          let some = some_bytes x g line rest y l n k s home q in
          let all_of_it : least_of (has_place g.world k (long * shape_bytes s)) (long * shape_bytes s) ≡ long * shape_bytes s
          = ap (λ b. least_of b (long * shape_bytes s)) (has_none (is_fixed g.ground) (HomeOf x here) (homes_apart x here y) x.law x.live (all_procs x)
          (heap_kept x) c refl g.ground.blocks g.world (sym y.input) g.memory (good_homes x here y) y.memory.bytes lines v g.words l q.address n k q.is s
          (leads x g line rest y l n k s home q) (handle_is x g line rest y l n k s home q) (empty_or x g line rest y l n k s home q)
          (block_is x g line rest y l n k s home q) (some_bytes x g line rest y l n k s home q) (mine x g line rest y l n k s home q q.owned)
          (can_have x g line rest y l n k s home q) home at_home long few big u long_at up size_small) in
          came_less (long * shape_bytes s)
          ((long - n) * shape_bytes s + least_of (has_place g.world k (long * shape_bytes s)) (long * shape_bytes s))
          (room_in g.world k (long * shape_bytes s)) g.world.input long_done (omega (arith, all_of_it))
          (came_works (least_of (has_place g.world k (long * shape_bytes s)) (long * shape_bytes s)) ((long - n) * shape_bytes s)
          (room_in g.world k (long * shape_bytes s)) g.world.input
          (perform (resized long (long * shape_bytes s)
          (Elements (joined (elements_of g.world (load g.world l)) (repeated (long - n) (blank of)))) l) g.world)
          (resized_came g.world long (long * shape_bytes s)
          (Elements (joined (elements_of g.world (load g.world l)) (repeated (long - n) (blank of)))) (λ e. ap (λ i. i * shape_bytes s) e ∙ omega arith) l k
          (ap block_of q.is)))

      pub longer_row : n ≤ long → RowDoes x.live (all_procs x) c lines FIRST (element_spare 0) (Left v)
          (at c g.memory (length_code home u (shape_bytes s) lines) v g.words) (perform (grown of long l g.world) g.world)
      longer_row longer =
          subst (RowDoes x.live (all_procs x) c lines FIRST (element_spare 0) (Left v) (at c g.memory (length_code home u (shape_bytes s) lines) v g.words))
          (sym grown_is) (by_size (nat_le long (most_payload / shape_bytes s)) refl)
        where
          by_size : (b : Bool) → nat_le long (most_payload / shape_bytes s) ≡ b
              → RowDoes x.live (all_procs x) c lines FIRST (element_spare 0) (Left v) (at c g.memory (length_code home u (shape_bytes s) lines) v g.words)
              long_done
          by_size true e =
              longer_runs (is_fixed g.ground) (HomeOf x here) (homes_apart x here y) x.law x.live (all_procs x) (heap_kept x) c refl g.ground.blocks g.world
              (sym y.input) g.memory (good_homes x here y) y.memory.bytes lines v g.words l q.address n k q.is s (leads x g line rest y l n k s home q)
              (handle_is x g line rest y l n k s home q) (empty_or x g line rest y l n k s home q) (block_is x g line rest y l n k s home q)
              (some_bytes x g line rest y l n k s home q) (mine x g line rest y l n k s home q q.owned) (can_have x g line rest y l n k s home q) home at_home
              long few (ap (λ b. if b then long * shape_bytes s else suc most_payload) e)
              (fit_small long (shape_bytes s) (some_bytes x g line rest y l n k s home q) e) longer (blank of) zeros_blank u long_at up size_small
          by_size false e =
              let big : bytes_for long (shape_bytes s) ≡ suc most_payload = ap (λ b. if b then long * shape_bytes s else suc most_payload) e in
              too_long_runs (is_fixed g.ground) (HomeOf x here) (homes_apart x here y) x.law x.live (all_procs x) (heap_kept x) c refl g.ground.blocks g.world
              (sym y.input) g.memory (good_homes x here y) y.memory.bytes lines v g.words l q.address n k q.is s (leads x g line rest y l n k s home q)
              (handle_is x g line rest y l n k s home q) (empty_or x g line rest y l n k s home q) (block_is x g line rest y l n k s home q)
              (some_bytes x g line rest y l n k s home q) (mine x g line rest y l n k s home q q.owned) (can_have x g line rest y l n k s home q) home at_home
              long few big u long_at up size_small
              (Elements (joined (elements_of g.world (load g.world l)) (repeated (long - n) (blank of)))) long_done (Left v) (long_came big)

      pub shorter_row : (unhooked : hooked of ≡ false) → long ≤ n → RowDoes x.live (all_procs x) c lines FIRST (element_spare 0) (Left v)
          (at c g.memory (length_code home u (shape_bytes s) lines) v g.words) (perform (cut of long l (load g.world l)) g.world)
      shorter_row unhooked no_longer =
          let some = some_bytes x g line rest y l n k s home q in
          let all = elements_fit x g line rest y l n k s home q in
          let le : long * shape_bytes s ≤ n * shape_bytes s = mul-le-mul_right (shape_bytes s) no_longer in
          shorter_runs (is_fixed g.ground) (HomeOf x here) (homes_apart x here y) x.law x.live (all_procs x) (heap_kept x) c refl g.ground.blocks g.world
          (sym y.input) g.memory (good_homes x here y) y.memory.bytes lines v g.words l q.address n k q.is s (leads x g line rest y l n k s home q)
          (handle_is x g line rest y l n k s home q) (empty_or x g line rest y l n k s home q) (block_is x g line rest y l n k s home q)
          (some_bytes x g line rest y l n k s home q) (mine x g line rest y l n k s home q q.owned) (can_have x g line rest y l n k s home q) home at_home
          long few (fits_block long (shape_bytes s) some (omega (arith, le, all))) (omega (arith, le, all)) no_longer u long_at up size_small of unhooked

    -- ---- the line

    module _ (unhooked : hooked of ≡ false) (traps : TrapStops x g OutOfRange) (z : ℤ) (fz : is_int_number z ≡ true) (u : ℕ) (up : OWN_FROM ≤ u)
        (is : g.call.vars u ≡ Some (word z)) (to : ℕ) (same : SameTemps x g line rest y (with_value to g.call.temps nothing)) where
      abbrev to_length : ℕ → Deed (Unit {0})
      to_length i = looks (λ world. sequence_to of i l world)

      abbrev act : ℕ → Deed Value
      act i = to_length i >> give nothing

      abbrev deed : Deed Value
      deed = counted z act

      abbrev next : List WordInstr
      next = code_next x g line rest y

      abbrev Ended : Value → World → Memory → Vars → Type 0
      Ended a after other vars = (a ≡ nothing) × IsLeftHere x g line rest y after other q.address 8 × AllSame g.call.vars vars

      abbrev checked : Vars
      checked = put g.call.vars FIRST least

      module _ (positive : int_lt z (pos 0) ≡ false) where
        abbrev long : ℕ
        long = unsigned_abs z

        few : long < 2 ^ 32
        few = let h = fits_signed z fz in omega (arith, ints, positive)

        long_at : checked u ≡ Some long
        long_at =
            let e : word z ≡ long = (let h = fits_signed z fz in omega (arith, ints, positive)) in
            put_low g.call.vars FIRST least u (omega arith) up ∙ is ∙ ap Some e

        abbrev Told : Done (Unit {0}) → Type 0
        Told done = RowDoes x.live (all_procs x) c next FIRST (element_spare 0) (Left checked)
            (at c g.memory (length_code home u (shape_bytes s) next) checked g.words) done

        by_length : (b : Bool) → nat_le long (length_of (load g.world l)) ≡ b
            → Told (perform (branch b (cut of long l (load g.world l)) (grown of long l g.world)) g.world)
        by_length true e =
            let le = leb-true long (length_of (load g.world l)) e in
            let i = ap length_of q.is in
            shorter_row next checked (same_first g.call.vars least) long few u up long_at unhooked (omega (arith, le, i))
        by_length false e =
            let less = leb-false long (length_of (load g.world l)) e in
            let i = ap length_of q.is in
            longer_row next checked (same_first g.call.vars least) long few u up long_at (omega (arith, less, i))

        row_then : RowDoes x.live (all_procs x) c next FIRST 30 Ended (at c g.memory (length_code home u (shape_bytes s) next) checked g.words)
            (perform (act long) g.world)
        row_then =
            subst (RowDoes x.live (all_procs x) c next FIRST 30 Ended (at c g.memory (length_code home u (shape_bytes s) next) checked g.words))
            (sym (perform_mapped (λ a. nothing) (to_length long) g.world))
            (row_mapped x.live (all_procs x) c next FIRST 30 (λ a. nothing) (Left checked) Ended
            (λ a after other vars b. (refl, b.0, same_more g.call.vars checked vars (same_first g.call.vars least) b.1))
            (at c g.memory (length_code home u (shape_bytes s) next) checked g.words) (perform (to_length long) g.world)
            (row_spares x.live (all_procs x) c next FIRST 30 (element_spare 0) (omega arith) (Left checked)
            (at c g.memory (length_code home u (shape_bytes s) next) checked g.words) (perform (to_length long) g.world)
            (by_length (nat_le long (length_of (load g.world l))) refl)))

        put_then : (after : World) (b : Bool)
            → answered (perform (branch b (cut of long l (load g.world l)) (grown of long l g.world)) g.world) ≡ Some after → IsPutSo l g.world after
        put_then after true e = cut_puts of unhooked g.world l long (load g.world l) after e
        put_then after false e = grown_puts of g.world l long after e

      put_so : (after : World) (b : Bool) → int_lt z (pos 0) ≡ b
          → answered (perform (branch b (stop OutOfRange) (act (unsigned_abs z))) g.world) ≡ Some after → IsPutSo l g.world after
      put_so after true e h = absurd (none-some after h)
      put_so after false e h =
          put_then e after (nat_le (unsigned_abs z) (length_of (load g.world l)))
          (sym (mapped_answered (λ a. nothing) (perform (to_length (unsigned_abs z)) g.world))
          ∙ ap answered (sym (perform_mapped (λ a. nothing) (to_length (unsigned_abs z)) g.world)) ∙ h)

      leaves : LeavesGood x g line rest y FIRST (λ a. with_value to g.call.temps a) Ended (perform deed g.world)
      leaves es work a w e other vars b =
          let put_it : IsPutSo l g.world w = put_so w (int_lt z (pos 0)) refl (ap answered e) in (
            later_ground_of x g line rest y b.1.later,
            good_put x g line rest y l q.address (elements s) refl q.live put_it.0 w other b.1 put_it.1 q.owned (with_value to g.call.temps a)
                (subst (λ v. SameTemps x g line rest y (with_value to g.call.temps v)) (sym b.0) same) vars no_words FIRST b.2,
          )

      pub sequence_length_settles : code_here x g line rest y ≡ counted_code u (length_code home u (shape_bytes s) (code_next x g line rest y))
          → Settles x (starts g line rest) rest (gives (scene_of (high x.table x.blocks (starts g line rest))) to
          (costs 1 (counted z (λ i. looks (λ world. sequence_to of i l world) >> give nothing)) >>= (λ v. give v)))
      sequence_length_settles code =
          subst (λ done. Settles x (starts g line rest) rest (Passes (behind [] 1 done))) (sym (value_deed deed (λ v. with_value to g.call.temps v) g.world))
          (row_settles x g line rest y FIRST 28 (λ a. with_value to g.call.temps a) Ended (perform deed g.world) leaves
          (subst (λ lines. RowDoes x.live (all_procs x) c next FIRST 28 Ended (at c g.memory lines g.call.vars g.words) (perform deed g.world)) (sym code)
          (counted_runs x.live (all_procs x) c g.memory next FIRST 28 (omega arith) g.world z fz g.call.vars g.words u (omega (arith, up)) is
          (traps_here x g traps) act Ended (length_code home u (shape_bytes s) next) row_then)))
