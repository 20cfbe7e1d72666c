-- A temporary gets the last element of a sequence at a location, which goes there: the line is followed.
use Rattle.rv32_isa.specs.declared.micro_op.Size.TheVariants.{Word as whole}
use Rattle.nim_types.specs.Forms.{Form, size as form_size}
use Rattle.nim_meaning.specs.Values.{Value, Location, Handle, first_of, item_of, length_of, block_of}
use Rattle.nim_meaning.specs.Heap.{Elements}
use Rattle.nim_meaning.specs.Deeds.{Deed, behind, costs, give, looks, perform, refills, sets, stop, ◌>>=◌, ◌>>◌, Errs}
use Rattle.word_lowering.specs.declared.homes.Home.{Home as Place}
use Rattle.word_lowering.specs.declared.homes.Home.TheVariants.{Variable}
use Rattle.word_lowering.proofs.PopRuns.{LastLeft, pop_runs}
use Rattle.word_lowering.proofs.PopRows.{Mine}
use Rattle.word_lowering.proofs.ValuesMoved.{awaits_behind}
use Rattle.word_lowering.proofs.ValuesRead.{IsRead, none_behind, value_read}
use Rattle.word_lowering.proofs.SequencesThere.{SequenceThere, block_is, can_have, handle_is, leads}
use Rattle.word_lowering.proofs.HandleLines.{heap_kept}
use Rattle.word_lowering.proofs.OrdinalRuns.{AllSame, put_here, put_other}
use Rattle.word_code.proofs.ForCallers.{AlwaysStops, Runs, Within, at, run_constant, run_load, run_off, run_past, stops_on, then_runs}
use Rattle.word_lowering.proofs.Lines.{Basis, IsGood, Settles, all_procs, all_sites, changed_later, lower, stands_next, starts}
use Rattle.flat_code.specs.declared.block.BlockLine.{BlockLine}
use Rattle.word_lowering.proofs.Related.{Both, body_of, high, low, within}
use Rattle.word_code.specs.declared.word.WordInstr.TheVariants.{Branch, Constant, Load}
use Rattle.arc_base.specs.declared.outside.Stream.TheVariants.{Err}
use Rattle.word_lowering.specs.declared.homes.TheConstants.{FIFTH, FIRST, SECOND}
use Rattle.word_lowering.proofs.Scenes.{FromOwned, Ground, IsThere, house, is_fixed, looked, of_value}
use Rattle.word_lowering.proofs.GoodHomes.{HomeOf, good_homes, homes_apart}
use Rattle.word_lowering.specs.declared.homes.Housed.{Housed}
use Rattle.nim_program.specs.Traps.{IndexOutOfBounds, trap_text}
use Rattle.word_lowering.proofs.TextRowRuns.{IsAt}
use Rattle.word_lowering.proofs.RoutinesCalled.{IsFirst}
use Rattle.word_lowering.proofs.Blocks.{IsHandle}
use Rattle.word_lowering.proofs.BaseValues.{IsOwn}
use Rattle.word_lowering.proofs.DeedFrames.{IsPutSo, PutsOnce, frames_put, puts_behind, puts_branch, puts_then, refills_keep, sets_puts}
use Rattle.word_lowering.specs.declared.spots.Spot.TheVariants.{Lies}
use Rattle.std.proofs.Common.{List, None, Ok, Option, Some, [], ap, arith, inl, inr, length, refl, subst, suc, sym, zero, ℕ, ◌*◌, ◌+◌, ◌<◌, ◌^◌, ◌∙◌, ◌∷◌}
use Rattle.std.proofs.Common.{◌≡◌, ◌≤◌}
use Rattle.word_code.specs.Memory.{Memory, as_state, number_at}
use Rattle.flat_code.specs.Scene.{Passes, with_value}
use Rattle.word_lowering.proofs.Sources.{Readable}
use Rattle.word_lowering.proofs.RowRuns.{RowDoes, in_front}
use Rattle.word_lowering.proofs.RowsOn.{RunsOn, row_on}
use Rattle.word_lowering.proofs.SequenceOperands.{SequenceBlock}
use Rattle.flat_code.specs.Shapes.{Shape, elements}
use Rattle.word_lowering.proofs.Settling.{TrapStops, code_here, code_next}
use Rattle.word_lowering.proofs.CountedRuns.{Traps}
use Rattle.word_code.specs.Words.{Vars, no_words, put, step}
use Rattle.word_code.specs.declared.word.WordInstr.{WordInstr}
use Rattle.nim_meaning.specs.State.{World, elements_of, is_full_at, load}
use Rattle.word_lowering.proofs.Moves.{address_runs, same_first, same_more, same_second}
use Rattle.word_lowering.proofs.SequenceRowRuns.{element_spare}
use Rattle.std.proofs.lemmas.Bool.{eq-eqb, ne_eqb}
use Rattle.word_lowering.specs.OwnedCode.{filled_code, popped_code}
use Rattle.word_lowering.proofs.FullValues.{full_shape}
use Rattle.flat_code.specs.Lines.{gives}
use Rattle.word_lowering.proofs.RowGood.{good_put_at}
use Rattle.rv32_isa.specs.Image.{heap_at}
use Rattle.word_lowering.proofs.HeapAreas.{heap_readable}
use Rattle.word_lowering.proofs.Sites.{is_one_word}
use Rattle.word_lowering.proofs.GoodRows.{later_ground_of}
use Rattle.nim_meaning.specs.Acts.{line_of}
use Rattle.word_lowering.specs.Spots.{moved, spot_of}
use Rattle.word_lowering.proofs.GoodLeads.{owned_to}
use Rattle.word_lowering.specs.RoutineCode.{pop_code}
use Rattle.word_lowering.proofs.RowSettles.{row_settles}
use Rattle.word_lowering.proofs.NewSequenceLines.{row_spares}
use Rattle.word_lowering.proofs.Gets.{same_temps}
use Rattle.flat_code.specs.Running.{scene_of}
use Rattle.word_lowering.proofs.ShapeFacts.{shape_bytes}
use Rattle.nim_meaning.specs.OwnedRows.{shortened}
use Rattle.word_lowering.proofs.TwoHandles.{still_at}
use Rattle.word_lowering.specs.Operations.{trap_label}
use Rattle.word_lowering.proofs.NewLines.{value_deed}
use Rattle.arc_base.specs.Event.{writes}
use Rattle.word_lowering.proofs.StoredLater.{shape_some}
use Rattle.word_code.specs.declared.word.Test.TheVariants as test

-- ---- a sequence isn't empty

module _ (x : Basis) (c : Within) (from_first : IsFirst c) (m : Memory) (k : List WordInstr) (awaits spare : ℕ) (few : spare ≤ 100) (w : World) (v g : Vars)
    (home : Place) (a n : ℕ) (where_is : IsAt c.base v home a) (long : number_at m a whole ≡ Ok n) (short : n < 2 ^ 32)
    (traps : Traps x.live (all_procs x) c m (trap_label IndexOutOfBounds) (line_of (trap_text IndexOutOfBounds))) (tail : List WordInstr) where
  abbrev v1 : Vars
  v1 = put v FIRST a

  abbrev v2 : Vars
  v2 = put v1 FIRST n

  abbrev pub filled : Vars
  filled = put (put (put v FIRST a) FIRST n) SECOND 0

  abbrev test_line : List WordInstr
  test_line = Branch test.Equal FIRST SECOND (trap_label IndexOutOfBounds) ∷ tail

  pub filled_same : AllSame v filled
  filled_same = same_more v v1 filled (same_first v a) (same_more v1 v2 filled (same_first v1 n) (same_second v2 0))

  length_is : filled FIRST ≡ Some n
  length_is = put_other v2 SECOND 0 FIRST (λ e. absurd (omega (arith, e))) ∙ put_here v1 FIRST n short

  zero_is : filled SECOND ≡ Some 0
  zero_is = put_here v2 SECOND 0 (omega arith)

  to_test : Runs x.live (all_procs x) 3 (at c m (filled_code home tail) v g) (at c m test_line filled g)
  to_test =
      then_runs x.live (all_procs x)
      (address_runs x.law x.live (all_procs x) c from_first g m (Load FIRST FIRST whole ∷ Constant SECOND 0 ∷ test_line) v FIRST home a where_is.points)
      (then_runs x.live (all_procs x)
      (run_load x.live (all_procs x) c m (Constant SECOND 0 ∷ test_line) v1 g FIRST FIRST whole (put_here v FIRST a where_is.small) long)
      (run_constant x.live (all_procs x) c m test_line v2 g SECOND 0))

  pub filled_runs : (0 < n) → Runs x.live (all_procs x) 4 (at c m (filled_code home tail) v g) (at c m tail filled g)
  filled_runs some =
      then_runs x.live (all_procs x) to_test
      (run_past x.live (all_procs x) c m tail filled g test.Equal FIRST SECOND (trap_label IndexOutOfBounds) length_is zero_is
      (ne_eqb n 0 (λ e. absurd (omega (arith, e, some)))))

  pub empty_ends : {A : Type 0} (Behind : A → World → Memory → Vars → Type 0) → n ≡ 0
      → RowDoes x.live (all_procs x) c k awaits spare Behind (at c m (filled_code home tail) v g) (perform (stop IndexOutOfBounds) w)
  empty_ends Behind none = record {
    memory = m;
    lines = 4 + 7;
    few = omega (arith, few);
    stops = stops_on (step x.live (all_procs x)) 4 4 7 1 (at c m (filled_code home tail) v g) (at c m traps.there filled g) []
        (writes Err (line_of (trap_text IndexOutOfBounds))) (x.live (as_state m))
        (then_runs x.live (all_procs x) to_test
        (run_off x.live (all_procs x) c m tail filled g test.Equal FIRST SECOND (trap_label IndexOutOfBounds) traps.there length_is zero_is
        (eq-eqb n 0 none) traps.stands)) (traps.stops filled g);
  }

-- ---- the line

module _ (x : Basis) (g : Both) (line : BlockLine) (rest : List BlockLine) (y : IsGood x (starts g line rest)) (l : Location) (home : Place) (to : ℕ)
    (there : IsThere g.call.site (of_value to)) (of : Form) (same_size : form_size of ≡ shape_bytes (looked x.table g.call.site (of_value to)))
    (size_few : shape_bytes (looked x.table g.call.site (of_value to)) < 2 ^ 32) (traps : TrapStops x g IndexOutOfBounds) where
  abbrev here : Both
  here = starts g line rest

  abbrev s : Shape
  s = looked x.table g.call.site (of_value to)

  abbrev into : Housed
  into = house g.call.site (of_value to)

  abbrev c : Within
  c = within x.table x.blocks g

  abbrev next : List WordInstr
  next = code_next x g line rest y

  abbrev reading : List WordInstr
  reading = moved into.is_word into.bytes (spot_of into) (Lies (Variable FIFTH)) next

  abbrev popping : List WordInstr
  popping = pop_code FIFTH home (shape_bytes s) reading

  abbrev last_call : ℕ
  last_call = awaits_behind (is_one_word (looked x.table g.call.site (of_value to))) FIFTH

  -- all is good then
  abbrev Then : Value → World → Memory → Vars → Type 0
  Then a after other vars =
      (ground : Ground) × IsGood x (changed_later g rest (with_value to g.call.temps a) vars other no_words last_call after ground after.input)

  traps_now : Traps x.live (all_procs x) c g.memory (trap_label IndexOutOfBounds) (line_of (trap_text IndexOutOfBounds))
  traps_now = record {
    there = traps.there;
    stands = traps.stands;
    stops = λ v w.
        subst (AlwaysStops (lower x) (at c g.memory traps.there v w) (writes Err (line_of (trap_text IndexOutOfBounds))) 7 1) (sym (x.none g.memory))
        (traps.stops v w);
  }

  -- ---- one that isn't empty

  module _ (n k : ℕ) (q : SequenceThere x g line rest y l (suc n) (Some k) (looked x.table g.call.site (of_value to)) home) where
    abbrev block : SequenceBlock (is_fixed g.ground) g.ground.blocks g.world g.memory s (suc n) k
    block = block_is x g line rest y l (suc n) (Some k) s home q

    abbrev handle : IsHandle g.ground.blocks g.memory q.address (elements s) (suc n) (Some k)
    handle = handle_is x g line rest y l (suc n) (Some k) s home q

    abbrev v3 : Vars
    v3 = filled x c refl g.memory next FIFTH 30 (omega arith) g.world g.call.vars g.words home q.address (suc n) q.at_home handle.long handle.few traps_now
        popping

    same3 : AllSame g.call.vars v3
    same3 = filled_same x c refl g.memory next FIFTH 30 (omega arith) g.world g.call.vars g.words home q.address (suc n) q.at_home handle.long handle.few
        traps_now popping

    abbrev IsMine : FromOwned x.table (all_sites x g line rest y) g.ground g.world l q.address (elements s) → Type 0
    IsMine f =
        Mine (is_fixed g.ground) (HomeOf x here) (homes_apart x here y) x.law g.ground.blocks g.world g.memory (good_homes x here y) y.memory.bytes l q.address
        n k q.is s (owned_to x here y l q.address (elements s) f) handle block

    mine : (f : FromOwned x.table (all_sites x g line rest y) g.ground g.world l q.address (elements s)) → IsMine f
    mine (inl f) = subst IsOwn (sym f.base) tt
    mine (inr (inl f)) = tt
    mine (inr (inr f)) = subst IsOwn (sym f.from.base) tt

    abbrev Last : Value → World → Memory → Vars → Type 0
    Last a after other vars =
        LastLeft (is_fixed g.ground) (HomeOf x here) (homes_apart x here y) x.law x.live (all_procs x) (heap_kept x) c refl g.ground.blocks g.world
        (sym y.input)
        g.memory (good_homes x here y) y.memory.bytes reading v3 g.words l q.address n k q.is s (leads x g line rest y l (suc n) (Some k) s home q) handle block
        (mine q.owned) (can_have x g line rest y l (suc n) (Some k) s home q) home
        (still_at g.call.site.base g.call.vars v3 home q.address same3 q.at_home) of same_size (omega (arith, size_few)) a after other vars

    last_row : RowDoes x.live (all_procs x) c reading FIFTH (element_spare (shape_bytes s)) Last (at c g.memory popping v3 g.words)
        (perform (shortened of (suc n) l g.world) g.world)
    last_row =
        pop_runs (is_fixed g.ground) (HomeOf x here) (homes_apart x here y) x.law x.live (all_procs x) (heap_kept x) c refl g.ground.blocks g.world
        (sym y.input)
        g.memory (good_homes x here y) y.memory.bytes reading v3 g.words l q.address n k q.is s (leads x g line rest y l (suc n) (Some k) s home q) handle block
        (mine q.owned) (can_have x g line rest y l (suc n) (Some k) s home q) home
        (still_at g.call.site.base g.call.vars v3 home q.address same3 q.at_home) of same_size (omega (arith, size_few))

    abbrev place : ℕ
    place = block.is.standing.place + n * shape_bytes s

    deed_puts : PutsOnce l (shortened of (suc n) l g.world)
    deed_puts w =
        puts_branch l (is_full_at w (item_of (load g.world l) l n)) (rest_of (load w (item_of (load g.world l) l n))) Errs
        (puts_behind l (refills (block_of (load w l)) (Elements (first_of n (elements_of w (load w l)))))
        (λ u. sets l (Handle n (block_of (load w l))) >> give (load w (item_of (load g.world l) l n)))
        (refills_keep (block_of (load w l)) (Elements (first_of n (elements_of w (load w l)))))
        (λ u. puts_then l (sets l (Handle n (block_of (load w l)))) (λ v. give (load w (item_of (load g.world l) l n)))
        (sets_puts l (Handle n (block_of (load w l)))) (λ v. tt))) tt
      where
        rest_of : Value → Deed Value
        rest_of last =
            refills (block_of (load w l)) (Elements (first_of n (elements_of w (load w l)))) >> (sets l (Handle n (block_of (load w l))) >> give last)

    -- the value comes to the temporary
    read_out : (a : Value) (w : World) (m : Memory) (vars : Vars) → Last a w m vars
        → RunsOn x.live (all_procs x) c reading FIFTH (10 + 2 * shape_bytes s) next last_call (λ other vars_then. Then a w other vars_then) w.input m vars
    read_out a w m vars r =
        let stay : AllSame g.call.vars vars = same_more g.call.vars v3 vars same3 r.stay in
        let put_so : IsPutSo l g.world w = frames_put l (shortened of (suc n) l g.world) deed_puts g.world w r.answers in
        let ground : Ground = later_ground_of x g line rest y r.left.later in
        let then : Both = changed_later g (line ∷ rest) g.call.temps vars m no_words FIFTH w (later_ground_of x g line rest y r.left.later) w.input in
        let good : IsGood x (starts (changed_later g (line ∷ rest) g.call.temps vars m no_words FIFTH w (later_ground_of x g line rest y r.left.later) w.input)
        line rest)
        = good_put_at x g line rest y l q.address (elements s) refl q.live put_so.0 w m r.left put_so.1 (line ∷ rest) y.stands q.owned g.call.temps
        (same_temps x g line rest y) vars no_words FIFTH stay in
        let size_same : length m.heap ≡ length g.memory.heap = r.left.rest.sizes.heap in
        let readable : Readable x (all_sites x then line rest good) good.linked m place (shape_bytes s)
        = heap_readable x (all_sites x then line rest good) good.linked m good.memory place (shape_bytes s) r.whole r.low (reach m size_same r.high) in
        let f = value_read x then line rest good to there a (Variable FIFTH) (omega arith) place r.at_address r.stored
        (full_shape (is_fixed g.ground) r.left.later m place s a r.stored r.full) readable rest
        (stands_next x.table x.blocks (body_of g) line rest y.stands) next in
        let z : IsRead x then line rest good to there a (Variable FIFTH) (omega arith) place r.at_address r.stored
        (full_shape (is_fixed g.ground) r.left.later m place s a r.stored r.full) readable rest
        (stands_next x.table x.blocks (body_of g) line rest y.stands) next last_call no_words
        = subst (IsRead x then line rest good to there a (Variable FIFTH) (omega arith) place r.at_address r.stored
        (full_shape (is_fixed g.ground) r.left.later m place s a r.stored r.full) readable rest
        (stands_next x.table x.blocks (body_of g) line rest y.stands) next last_call) (none_behind (is_one_word s)) f in
        record {
          memory = z.memory;
          vars = z.vars;
          behind = (ground, z.good);
          steps = z.steps;
          few = z.few;
          runs = z.runs;
        }
      where
        reach : (m : Memory) → length m.heap ≡ length g.memory.heap → place + shape_bytes s ≤ heap_at + length g.memory.heap
            → place + shape_bytes s ≤ heap_at + length m.heap
        reach m same high = omega (arith, same, high)

    some_row : RowDoes x.live (all_procs x) c next last_call 30 Then (at c g.memory (filled_code home popping) g.call.vars g.words)
        (perform (shortened of (suc n) l g.world) g.world)
    some_row =
        in_front x.live (all_procs x) c next last_call 30 4 Then (at c g.memory (filled_code home popping) g.call.vars g.words)
        (at c g.memory popping v3 g.words)
        (filled_runs x c refl g.memory next FIFTH 30 (omega arith) g.world g.call.vars g.words home q.address (suc n) q.at_home handle.long handle.few traps_now
        popping (omega arith)) (perform (shortened of (suc n) l g.world) g.world)
        (row_on x.live (all_procs x) c reading FIFTH (10 + 2 * shape_bytes s) 34 next last_call Last Then read_out (at c g.memory popping v3 g.words)
        (perform (shortened of (suc n) l g.world) g.world)
        (row_spares x.live (all_procs x) c reading FIFTH (34 + (10 + 2 * shape_bytes s)) (element_spare (shape_bytes s))
        (let e = shape_some s in omega (arith, e)) Last
        (at c g.memory popping v3 g.words) (perform (shortened of (suc n) l g.world) g.world) last_row))

  -- ---- whichever there are

  row : (n : ℕ) (k : Option ℕ) (q : SequenceThere x g line rest y l n k (looked x.table g.call.site (of_value to)) home)
      → RowDoes x.live (all_procs x) c next last_call 30 Then (at c g.memory (filled_code home popping) g.call.vars g.words)
      (perform (shortened of n l g.world) g.world)
  row zero k q =
      let handle = handle_is x g line rest y l 0 k s home q in
      empty_ends x c refl g.memory next last_call 30 (omega arith) g.world g.call.vars g.words home q.address 0 q.at_home handle.long handle.few
      traps_now popping
      Then refl
  row (suc n) None q = let handle = handle_is x g line rest y l (suc n) None s home q in let e = handle.empty in absurd (omega (arith, e))
  row (suc n) (Some k) q = some_row n k q

  abbrev deed : Deed Value
  deed = looks (λ world. shortened of (length_of (load world l)) l world)

  pub pop_settles : (n : ℕ) (k : Option ℕ) (q : SequenceThere x g line rest y l n k (looked x.table g.call.site (of_value to)) home)
      → code_here x g line rest y ≡ popped_code (house g.call.site (of_value to)) home (shape_bytes (looked x.table g.call.site (of_value to)))
      (code_next x g line rest y)
      → Settles x (starts g line rest) rest (gives (scene_of (high x.table x.blocks (starts g line rest))) to
      (costs 1 (looks (λ world. shortened of (length_of (load world l)) l world)) >>= (λ v. give v)))
  pop_settles n k q code =
      subst (λ done. Settles x (starts g line rest) rest (Passes (behind [] 1 done))) (sym (value_deed deed (λ v. with_value to g.call.temps v) g.world))
      (row_settles x g line rest y last_call 30 (λ a. with_value to g.call.temps a) Then (perform deed g.world) (λ es work a w e other vars b. b)
      (subst (λ i. RowDoes x.live (all_procs x) c next last_call 30 Then (low x.table x.blocks (starts g line rest))
      (perform (shortened of i l g.world) g.world))
      (sym (ap length_of q.is))
      (subst (λ lines. RowDoes x.live (all_procs x) c next last_call 30 Then (at c g.memory lines g.call.vars g.words)
      (perform (shortened of n l g.world) g.world)) (sym code) (row n k q))))
