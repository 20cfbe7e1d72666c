-- A temporary gets a sequence of the values of others: the line is followed.
use Rattle.nim_types.specs.Forms.{Form, size as form_size}
use Rattle.nim_meaning.specs.Lifted.{fresh_sequence, fresh}
use Rattle.heap_memory.proofs.ForCallers.{is_there as block_is_there}
use Rattle.word_lowering.proofs.BlockHomes.{Home}
use Rattle.word_lowering.proofs.TextRowRuns.{IsAt}
use Rattle.word_lowering.specs.declared.handed.Handed.TheVariants.{Where, Number}
use Rattle.word_lowering.proofs.NewLines.{at_home, away, can, elsewhere, to as new_at, NewHere, made_settles}
use Rattle.word_lowering.proofs.HandleLines.{heap_kept}
use Rattle.word_lowering.proofs.StoredLater.{shape_some, shape_whole, stored_kept}
use Rattle.nim_meaning.specs.Values.{Value, Values, More, Nil, count}
use Rattle.word_code.specs.RoutineTable.{Beside, IsRewritten, Separate}
use Rattle.word_lowering.specs.declared.homes.Home.{Home as Place}
use Rattle.word_lowering.specs.declared.homes.Home.TheVariants.{Variable}
use Rattle.word_lowering.proofs.SitesApart.{Beside as BesideOf, ranges_apart, houses}
use Rattle.word_lowering.proofs.ValuesMoved.{awaits_behind, size_is, value_comes}
use Rattle.word_lowering.proofs.OrdinalRuns.{AllSame, put_here}
use Rattle.word_lowering.proofs.Blocks.{AreLater, AreStored, Blocks, Stored, IsEmptyIf}
use Rattle.word_lowering.proofs.Lines.{Basis, IsGood, all_procs, all_sites, starts, Settles}
use Rattle.flat_code.specs.declared.block.BlockLine.{BlockLine}
use Rattle.std.proofs.Common.{Bool, List, Some, [], ap, arith, false, inl, inr, length, map, refl, subst, suc, sym, true, ℕ, ◌%◌, ◌*◌, ◌+◌, ◌<◌, ◌^◌, ◌∙◌}
use Rattle.std.proofs.Common.{◌∷◌, ◌≡◌, ◌≢◌, ◌≤◌, None, Option, le_refl, mul-le-mul, zero, ◌/◌}
use Rattle.word_lowering.proofs.Related.{Both, MemoryGood, high, within}
use Rattle.rv32_isa.specs.declared.micro_op.Size.TheVariants.{Word as whole}
use Rattle.word_lowering.proofs.InMemory.{Carries}
use Rattle.word_lowering.specs.declared.homes.TheConstants.{FIFTH, FIRST}
use Rattle.word_lowering.specs.declared.homes.Housed.{Housed}
use Rattle.word_lowering.proofs.Sites.{InMemory, Site, is_one_word}
use Rattle.word_lowering.proofs.Moves.{IsArea, same_more, address_runs}
use Rattle.word_lowering.proofs.RowsLeft.{IsBesidePut, IsNew, handle_beside}
use Rattle.word_lowering.proofs.Scenes.{IsThere, address_of, house, is_fixed, looked, of_value}
use Rattle.word_lowering.proofs.Sources.{Lying, lying_all, lying_away, lying_near}
use Rattle.word_code.specs.Memory.{Memory, as_state, own_data_at}
use Rattle.word_code.proofs.ForCallers.{none as none_run, Runs, Sized, Within, at, changed_rewritten, run_sum, sizes_more, sizes_same, then_runs, run_load}
use Rattle.flat_code.specs.Shapes.{Shape, elements, has_shape}
use Rattle.word_code.specs.declared.word.WordInstr.TheVariants.{Sum, Load}
use Rattle.word_code.specs.Words.{put, Vars, no_words, step}
use Rattle.word_code.specs.declared.word.WordInstr.{WordInstr}
use Rattle.word_lowering.proofs.RoutineCalls.{awaiting}
use Rattle.word_lowering.proofs.ShapeDepth.{depth}
use Rattle.word_lowering.specs.OwnedCode.{elements_code, sequence_code}
use Rattle.word_lowering.proofs.HeapAreas.{heap_area}
use Rattle.rv32_isa.specs.Image.{heap_at}
use Rattle.word_lowering.proofs.BlocksBorn.{later_same, later_more}
use Rattle.word_lowering.proofs.GoodRows.{left_good}
use Rattle.word_lowering.proofs.RoutinesCalled.{left_with}
use Rattle.word_lowering.proofs.CarriedBeside.{rewritten_carried}
use Rattle.word_lowering.proofs.SequenceRowRuns.{same_fifth, element_spare}
use Rattle.word_lowering.proofs.RoutineMemory.{same_word}
use Rattle.word_lowering.proofs.ShapeFacts.{shape_bytes}
use Rattle.nim_meaning.specs.Deeds.{Done, costs, give, perform, ◌>>=◌}
use Rattle.nim_meaning.specs.Heap.{Elements}
use Rattle.word_lowering.proofs.BlocksMade.{HasRoom, block_fresh, heap_fresh}
use Rattle.word_lowering.proofs.HandlesPut.{LeavesHandle}
use Rattle.word_lowering.proofs.NewHomes.{OtherHome, others_apart, others_hold}
use Rattle.word_lowering.proofs.RoomRuns.{RoomFor, room_runs}
use Rattle.word_lowering.proofs.RowRuns.{RowDoes}
use Rattle.word_lowering.proofs.RowsOn.{RunsOn, row_on}
use Rattle.heap_memory.specs.declared.numbers.TheConstants.{SEQ_NEW}
use Rattle.nim_meaning.specs.State.{World}
use Rattle.word_lowering.specs.Spots.{address}
use Rattle.heap_memory.specs.SequenceRoutines.{bytes_for, most_payload}
use Rattle.word_lowering.specs.RoutineCode.{called_code}
use Rattle.word_lowering.proofs.Settling.{code_here, code_next}
use Rattle.word_lowering.proofs.SequencesFilled.{filled_new}
use Rattle.word_lowering.proofs.NewSequenceLines.{fit_small, row_spares}
use Rattle.word_lowering.proofs.HeapWanted.{fresh_came}
use Rattle.word_lowering.proofs.DeedFrames.{fresh_keeps}
use Rattle.flat_code.specs.Lines.{gives}
use Rattle.std.specs.Prelude.{if◌then◌else◌, nat_le}
use Rattle.word_lowering.proofs.TooLongRuns.{new_too_long_runs}
use Rattle.flat_code.specs.Running.{scene_of}
use Rattle.word_lowering.proofs.TwoHandles.{still_at}

none_awaited : (one_word : Bool) → awaits_behind one_word FIRST ≡ FIRST
none_awaited true = refl
none_awaited false = refl

module _ (x : Basis) (g : Both) (line : BlockLine) (rest : List BlockLine) (y : IsGood x (starts g line rest)) (to : ℕ)
    (there : IsThere g.call.site (of_value to)) (inside : InMemory (house g.call.site (of_value to)).home) (s : Shape)
    (look : looked x.table g.call.site (of_value to) ≡ elements s) where
  abbrev sites : List Site
  sites = all_sites x g line rest y

  abbrev c : Within
  c = within x.table x.blocks g

  abbrev home : Place
  home = (house g.call.site (of_value to)).home

  abbrev place : ℕ
  place = new_at x g line rest y to there inside (elements s) tt look

  -- operands are the values of temporaries, which look like elements
  pub record HasElement (t : ℕ) (v : Value) : Type 0 where
    pub is_there : IsThere g.call.site (of_value t)
    pub has : g.call.temps.values t ≡ Some v
    pub looks_so : looked x.table g.call.site (of_value t) ≡ s

  abbrev pub HaveElements : List ℕ → Values → Type 0
  HaveElements [] Nil = Unit {0}
  HaveElements (t ∷ ts) (More v vs) = HasElement t v × HaveElements ts vs
  HaveElements ts vs = ⊥

  abbrev pub houses_of : List ℕ → List Housed
  houses_of ts = map (λ t. house g.call.site (of_value t)) ts

  pub counted_elements : (ts : List ℕ) (vs : Values) → HaveElements ts vs → length (houses_of ts) ≡ count vs
  counted_elements [] Nil h = refl
  counted_elements (t ∷ ts) (More v vs) h = ap suc (counted_elements ts vs h.1)
  counted_elements [] (More v vs) h = absurd h
  counted_elements (t ∷ ts) Nil h = absurd h

  -- ---- memory beside the new handle and the heap

  -- none of them is the new one
  other_name : (t : ℕ) → looked x.table g.call.site (of_value t) ≡ s → of_value t ≢ of_value to
  other_name t is e =
      let d : depth s ≡ depth (looked x.table g.call.site (of_value to)) = ap depth (sym is) ∙ ap (λ n. depth (looked x.table g.call.site n)) e in
      let f : depth (looked x.table g.call.site (of_value to)) ≡ depth (elements s) = ap depth look in
      absurd (omega (arith, d, f))

  module _ (t : ℕ) (v : Value) (h : HasElement t v) (in_places : InMemory (house g.call.site (of_value t)).home) where
    abbrev from : ℕ
    from = address_of g.call.site.base (house g.call.site (of_value t)).home

    abbrev long : ℕ
    long = (house g.call.site (of_value t)).bytes

    lying : Lying x sites y.linked from long
    lying = lying_all x sites y.linked g.call.site (of_value t) long (inl refl) h.is_there in_places refl

    beside_handle : Beside from long place 8
    beside_handle =
        by (ranges_apart x.table x.blocks x.small sites g.call.site g.call.site (of_value t) (of_value to) y.linked (inl refl) (inl refl) h.is_there there
        in_places inside (inr (other_name t h.looks_so)))
      where
        eight : shape_bytes (looked x.table g.call.site (of_value to)) ≡ (house g.call.site (of_value to)).bytes
        eight = (houses x.table x.blocks g.call.site (of_value to) y.linked.0 there).bytes

        by : BesideOf from long (address_of g.call.site.base (house g.call.site (of_value to)).home) (house g.call.site (of_value to)).bytes
            → Beside from long place 8
        by (inl e) = inl (omega (arith, e))
        by (inr e) = let i = eight in let l = ap shape_bytes look in inr (omega (arith, e, i, l))

    beside_heap : Beside from long heap_at (length g.memory.heap)
    beside_heap = by (lying_away x sites y.linked g.memory from long y.memory lying).1
      where
        by : Beside heap_at (length g.memory.heap) from long → Beside from long heap_at (length g.memory.heap)
        by (inl e) = inr (omega (arith, e))
        by (inr e) = inl (omega (arith, e))

    element_still : (m : Memory) → IsBesidePut g.memory m place 8 → Carries g.memory m from from long
    element_still m left o w within whole_word reads =
        let low = (lying_away x sites y.linked g.memory from long y.memory lying).0 in
        same_word g.memory m (from + o) (left.beside (from + o) 4 (inr (omega (arith, low))) (part heap_at (length g.memory.heap) beside_heap)
        (part place 8 beside_handle)) ∙ reads
      where
        part : (a n : ℕ) → Beside from long a n → Beside (from + o) 4 a n
        part a n (inl e) = inl (omega (arith, e, within))
        part a n (inr e) = inr (omega (arith, e))

  handle_lying : Lying x sites y.linked place 8
  handle_lying =
      lying_all x sites y.linked g.call.site (of_value to) 8 (inl refl) there inside
      (sym (houses x.table x.blocks g.call.site (of_value to) y.linked.0 there).bytes ∙ ap shape_bytes look)

  good_now : (m : Memory) → Sized m → IsBesidePut g.memory m place 8 → MemoryGood x.table x.blocks (all_sites x g line rest y) x.first m
  good_now m sized left =
      left_good x g line rest y m place 8 (record { sized = sized; sizes = left.sizes; beside = left.beside }) (inl handle_lying)

  -- their room is in the heap
  separate : (t : ℕ) (v : Value) (e : HasElement t v) (in_place : InMemory (house g.call.site (of_value t)).home) (a : ℕ) → heap_at ≤ a
      → a + shape_bytes s ≤ heap_at + length g.memory.heap
      → Separate a (address_of g.call.site.base (house g.call.site (of_value t)).home) (house g.call.site (of_value t)).bytes
  separate t v e in_place a low high = by (beside_heap t v e in_place)
    where
      same_size : shape_bytes s ≡ (house g.call.site (of_value t)).bytes
      same_size = ap shape_bytes (sym e.looks_so) ∙ size_is x g line rest y t v e.is_there e.has

      by : Beside (address_of g.call.site.base (house g.call.site (of_value t)).home) (house g.call.site (of_value t)).bytes heap_at
          (length g.memory.heap) → Separate a (address_of g.call.site.base (house g.call.site (of_value t)).home) (house g.call.site (of_value t)).bytes
      by (inl h) = let i = same_size in inr (inr (omega (arith, h, low, i)))
      by (inr h) = let i = same_size in inr (inl (omega (arith, h, high, i)))

  -- so many bytes of the heap
  pub record HasRoomAt (a n : ℕ) : Type 0 where
    pub even : a % 4 ≡ 0
    pub behind_start : heap_at ≤ a
    pub before_end : a + n ≤ heap_at + length g.memory.heap

  put_on : (m other : Memory) → IsBesidePut g.memory m place 8 → (a n : ℕ) → IsRewritten m other a n → heap_at ≤ a
      → a + n ≤ heap_at + length g.memory.heap → IsBesidePut g.memory other place 8
  put_on m other left a n written low high = record {
    sizes = sizes_more g.memory m other left.sizes written.sizes;
    beside = λ b i own heap aside. written.beside b i (narrow b i heap) ∙ left.beside b i own heap aside;
  }
    where
      narrow : (b i : ℕ) → Beside b i heap_at (length g.memory.heap) → Beside b i a n
      narrow b i (inl h) = inl (omega (arith, h, low))
      narrow b i (inr h) = inr (omega (arith, h, high))

  both : (m other last : Memory) (a n : ℕ) → IsRewritten m other a (shape_bytes s) → IsRewritten other last (a + shape_bytes s) n
      → IsRewritten m last a (shape_bytes s + n)
  both m other last a n p q = record {
    sizes = sizes_more m other last p.sizes q.sizes;
    beside = λ b i apart. q.beside b i (behind_it b i apart) ∙ p.beside b i (before_it b i apart);
  }
    where
      behind_it : (b i : ℕ) → Beside b i a (shape_bytes s + n) → Beside b i (a + shape_bytes s) n
      behind_it b i (inl h) = inl (omega (arith, h))
      behind_it b i (inr h) = inr (omega (arith, h))

      before_it : (b i : ℕ) → Beside b i a (shape_bytes s + n) → Beside b i a (shape_bytes s)
      before_it b i (inl h) = inl h
      before_it b i (inr h) = inr (omega (arith, h))

  -- ---- elements come to their room, one behind the other

  module _ (input : List ℕ) (next : List WordInstr) where
    abbrev behind : Within
    behind = left_with c input FIRST

    pub record AllCome (lines : List WordInstr) (m : Memory) (vars : Vars) (a : ℕ) (vs : Values) : Type 0 where
      pub memory : Memory
      pub sized : Sized memory
      pub vars_then : Vars
      pub stay : AllSame g.call.vars vars_then
      pub written : IsRewritten m memory a (count vs * shape_bytes s)
      pub same : count vs ≡ 0 → memory ≡ m
      pub stored : (later : Blocks) → AreLater g.ground.blocks later → AreStored (is_fixed g.ground) later memory a s vs
      pub steps : ℕ
      pub few : steps ≤ 11 * count vs + 2 * (count vs * shape_bytes s)
      pub runs : Runs x.live (all_procs x) steps (at behind m lines vars no_words) (at behind memory next vars_then no_words)

    elements_come : (ts : List ℕ) (vs : Values) → HaveElements ts vs → (m : Memory) → Sized m → IsBesidePut g.memory m place 8 → (vars : Vars)
        → AllSame g.call.vars vars → (a : ℕ) → vars FIFTH ≡ Some a → (0 < count vs → HasRoomAt a (count vs * shape_bytes s))
        → AllCome (elements_code (shape_bytes s) (houses_of ts) next) m vars a vs
    elements_come [] Nil h m sized left vars stay a at_a room = record {
      memory = m;
      sized = sized;
      vars_then = vars;
      stay = stay;
      written = record { sizes = sizes_same m; beside = λ b n apart. refl };
      same = λ e. refl;
      stored = λ later ahead. tt;
      steps = 0;
      few = omega arith;
      runs = none_run (step x.live (all_procs x)) (at behind m next vars no_words);
    }
    elements_come (t ∷ ts) (More v vs) h m sized left vars stay a at_a room =
        let k : List WordInstr = Sum FIFTH FIFTH (shape_bytes s) ∷ elements_code (shape_bytes s) (houses_of ts) next in
        let e = h.0 in
        let is : shape_bytes (looked x.table g.call.site (of_value t)) ≡ shape_bytes s = ap shape_bytes e.looks_so in
        let heap_same = left.sizes.heap in
        let now : HasRoomAt a (suc (count vs) * shape_bytes s) = room (omega arith) in
        let aligned = now.even in
        let low = now.behind_start in
        let high_end = now.before_end in
        let most = y.memory.sized.heap_most in
        let end : a + shape_bytes s ≤ heap_at + length m.heap = omega (arith, high_end, heap_same) in
        let near : a + shape_bytes s < 2 ^ 32 = omega (arith, high_end, most) in
        let come = value_comes x g line rest y t v e.is_there e.has behind refl refl m (good_now m sized left)
        (λ in_place. element_still t v e in_place m left) vars stay (Variable FIFTH) a at_a
        (subst (IsArea m a) (sym is) (heap_area m sized a (shape_bytes s) aligned low end))
        (subst (λ i. a + i < 2 ^ 32) (sym is) near) (λ in_place. separate t v e in_place a low (omega (arith, high_end))) k in
        let written : IsRewritten m come.memory a (shape_bytes s)
        = subst (IsRewritten m come.memory a) is
        (changed_rewritten m come.memory a (shape_bytes (looked x.table g.call.site (of_value t))) come.changed) in
        let sized_then : Sized come.memory = come.changed.sized in
        let stay_then : AllSame g.call.vars come.vars_then = same_more g.call.vars vars come.vars_then stay come.stay in
        let fifth : come.vars_then FIFTH ≡ Some a = come.fifth ∙ at_a in
        let vars_on : Vars = put come.vars_then FIFTH (a + shape_bytes s) in
        let on_run : Runs x.live (all_procs x) 1 (at behind come.memory k come.vars_then no_words)
        (at behind come.memory (elements_code (shape_bytes s) (houses_of ts) next) vars_on no_words)
        = run_sum x.live (all_procs x) behind come.memory (elements_code (shape_bytes s) (houses_of ts) next) come.vars_then no_words FIFTH FIFTH
        (shape_bytes s) fifth in
        let whole_size = shape_whole s in
        let z = elements_come ts vs h.1 come.memory sized_then (put_on m come.memory left a (shape_bytes s) written low (omega (arith, high_end))) vars_on
        (same_more g.call.vars come.vars_then vars_on stay_then (same_fifth come.vars_then (a + shape_bytes s))) (a + shape_bytes s)
        (put_here come.vars_then FIFTH (a + shape_bytes s) near)
        (λ some. record { even = omega (arith, aligned, whole_size); behind_start = omega (arith, low); before_end = omega (arith, high_end) }) in
        let sum : shape_bytes s + count vs * shape_bytes s ≡ suc (count vs) * shape_bytes s = omega arith in
        let steps_few = come.few in
        let more_few = z.few in
        let first_run : Runs x.live (all_procs x) come.steps (at behind m (elements_code (shape_bytes s) (houses_of (t ∷ ts)) next) vars no_words)
        (at behind come.memory k come.vars_then no_words)
        = subst (λ i. Runs x.live (all_procs x) come.steps (at behind m (elements_code (shape_bytes s) (houses_of (t ∷ ts)) next) vars no_words)
        (at (awaiting behind i) come.memory k come.vars_then no_words))
        (none_awaited (is_one_word (looked x.table g.call.site (of_value t)))) come.runs in
        record {
          memory = z.memory;
          sized = z.sized;
          vars_then = z.vars_then;
          stay = z.stay;
          written = subst (IsRewritten m z.memory a) sum (both m come.memory z.memory a (count vs * shape_bytes s) written z.written);
          same = λ none. absurd (omega (arith, none));
          stored = λ later ahead. (
            stored_kept (is_fixed g.ground) later later (later_same later) come.memory z.memory a a s v
                (rewritten_carried come.memory z.memory (a + shape_bytes s) (count vs * shape_bytes s) a (shape_bytes s) z.written (inl (omega arith)))
                (subst (λ u. Stored (is_fixed g.ground) later come.memory a u v) e.looks_so (come.stored later ahead)),
            z.stored later ahead,
          );
          steps = come.steps + (1 + z.steps);
          few = omega (arith, steps_few, more_few, is);
          runs = then_runs x.live (all_procs x) first_run (then_runs x.live (all_procs x) on_run z.runs);
        }
    elements_come [] (More v vs) h m sized left vars stay a at_a room = absurd h
    elements_come (t ∷ ts) Nil h m sized left vars stay a at_a room = absurd h

  -- ---- the row

  module _ (ts : List ℕ) (vs : Values) (h : HaveElements ts vs) (size_few : shape_bytes s < 2 ^ 32) (long_few : count vs < 2 ^ 32) (of : Form)
      (same_size : form_size of ≡ shape_bytes s) where
    abbrev next : List WordInstr
    next = code_next x g line rest y

    abbrev n : ℕ
    n = count vs

    abbrev bytes : ℕ
    bytes = count vs * shape_bytes s

    some : 0 < shape_bytes s
    some = let e = shape_some s in omega (arith, e)

    abbrev Has : Value → World → Memory → Vars → Type 0
    Has = NewHere x g line rest y to there inside (elements s) tt look

    abbrev filling : List WordInstr
    filling = address FIFTH home ∷ Sum FIFTH FIFTH 4 ∷ Load FIFTH FIFTH whole ∷ elements_code (shape_bytes s) (houses_of ts) next

    abbrev making : List WordInstr
    making = called_code FIRST SEQ_NEW (Where home ∷ Number (length (houses_of ts)) ∷ Number (shape_bytes s) ∷ []) filling

    abbrev Others : Home → Type 0
    Others = OtherHome x g line rest y to there inside

    abbrev done : Done Value
    done = perform (fresh (count vs) (count vs * shape_bytes s) (Elements vs)) g.world

    -- no more lines than are spared
    lines_few : 3 + (11 * count vs + 2 * (count vs * shape_bytes s)) ≤ 40 + 13 * (count vs * shape_bytes s)
    lines_few =
        let le : count vs * 1 ≤ count vs * shape_bytes s = mul-le-mul (le_refl (count vs)) (let e = some in omega (arith, e)) in omega (arith, le)

    module _ (fits : bytes_for (count vs) (shape_bytes s) ≡ count vs * shape_bytes s) (small : count vs * shape_bytes s < 2 ^ 32) where
      abbrev Room : Value → World → Memory → Vars → Type 0
      Room a after other vars =
          RoomFor (is_fixed g.ground) Others (others_apart x g line rest y to there inside) x.law x.live (all_procs x) (heap_kept x) c refl g.ground.blocks
          g.world (sym y.input) g.memory (others_hold x g line rest y to there inside) y.memory.bytes filling g.call.vars g.words place
          (can x g line rest y to there inside (elements s) tt look) home (at_home x g line rest y to there inside (elements s) tt look) s some size_few
          (count vs) long_few fits small vs a after other vars

      room_row : RowDoes x.live (all_procs x) c filling FIRST (element_spare (count vs * shape_bytes s)) Room (at c g.memory making g.call.vars g.words) done
      room_row =
          room_runs (is_fixed g.ground) Others (others_apart x g line rest y to there inside) x.law x.live (all_procs x) (heap_kept x) c refl g.ground.blocks
          g.world (sym y.input) g.memory (others_hold x g line rest y to there inside) y.memory.bytes filling g.call.vars g.words place
          (can x g line rest y to there inside (elements s) tt look) home (at_home x g line rest y to there inside (elements s) tt look) s some size_few
          (count vs) long_few fits small vs (Number (length (houses_of ts))) (counted_elements ts vs h)

      filled_in : (a : Value) (w : World) (m : Memory) (vars : Vars) → Room a w m vars
          → RunsOn x.live (all_procs x) c filling FIRST (40 + 13 * (count vs * shape_bytes s)) next FIRST (λ other vars_then. Has a w other vars_then) w.input
          m vars
      filled_in a w m vars r =
          let leaves = r.leaves in
          let left : IsBesidePut g.memory m place 8
          = handle_beside (is_fixed g.ground) g.ground.blocks (heap_fresh g.world.heap bytes (Elements Nil)) g.memory m place (elements s) n bytes
          (block_fresh g.world.heap bytes) leaves in
          let sized : Sized m = x.law.regions (as_state leaves.middle) (as_state m) leaves.regions leaves.put.sizes in
          let back : Within = left_with c w.input FIRST in
          let start : ℕ = leaves.handle.place in
          let at_now : IsAt g.call.site.base vars home place
          = still_at g.call.site.base g.call.vars vars home place r.stay (at_home x g line rest y to there inside (elements s) tt look) in
          let near : place + 4 < 2 ^ 32 = (let e = lying_near x sites y.linked place 8 handle_lying in omega (arith, e)) in
          let v1 : Vars = put vars FIFTH place in
          let v2 : Vars = put v1 FIFTH (place + 4) in
          let v3 : Vars = put v2 FIFTH start in
          let l3 : List WordInstr = elements_code (shape_bytes s) (houses_of ts) next in
          let l2 : List WordInstr = Load FIFTH FIFTH whole ∷ l3 in
          let l1 : List WordInstr = Sum FIFTH FIFTH 4 ∷ l2 in
          let r1 : Runs x.live (all_procs x) 1 (at back m filling vars no_words) (at back m l1 v1 no_words)
          = address_runs x.law x.live (all_procs x) back refl no_words m l1 vars FIFTH home place at_now.points in
          let r2 : Runs x.live (all_procs x) 1 (at back m l1 v1 no_words) (at back m l2 v2 no_words)
          = run_sum x.live (all_procs x) back m l2 v1 no_words FIFTH FIFTH 4 (put_here vars FIFTH place at_now.small) in
          let r3 : Runs x.live (all_procs x) 1 (at back m l2 v2 no_words) (at back m l3 v3 no_words)
          = run_load x.live (all_procs x) back m l3 v2 no_words FIFTH FIFTH whole (put_here v1 FIFTH (place + 4) near) leaves.handle.there in
          let stay3 : AllSame g.call.vars v3
          = same_more g.call.vars vars v3 r.stay (same_more vars v1 v3 (same_fifth vars place) (same_more v1 v2 v3 (same_fifth v1 (place + 4))
          (same_fifth v2 start))) in
          let z = elements_come w.input next ts vs h m sized left v3 stay3 start (put_here v2 FIFTH start leaves.handle.near) (room_at leaves) in
          let few = z.few in
          let enough = lines_few in
          let new = filled_new (is_fixed g.ground) Others (others_apart x g line rest y to there inside) x.law g.ground.blocks g.world g.memory
          (others_hold x g line rest y to there inside) s n bytes m place leaves (elsewhere x g line rest y to there inside (elements s) tt look)
          (away x g line rest y to there inside (elements s) tt look) w vs r.alike refl refl z.memory z.sized z.written
          (λ none. z.same (none_of none))
          (λ later ahead. z.stored later (later_more g.ground.blocks leaves.after later leaves.ahead ahead)) in
          record {
            memory = z.memory;
            vars = z.vars_then;
            behind = (
              subst (λ u. IsNew (is_fixed g.ground) Others (others_apart x g line rest y to there inside) g.ground.blocks g.memory u w z.memory place 8
                  (elements s)) (sym r.is) new,
              z.stay,
              subst (λ u. has_shape u (elements s) ≡ true) (sym r.is) refl,
            );
            steps = 3 + z.steps;
            few = omega (arith, few, enough);
            runs = then_runs x.live (all_procs x) (then_runs x.live (all_procs x) r1 (then_runs x.live (all_procs x) r2 r3)) z.runs;
          }
        where
          none_of : count vs * shape_bytes s ≡ 0 → count vs ≡ 0
          none_of = by (count vs)
            where
              by : (i : ℕ) → i * shape_bytes s ≡ 0 → i ≡ 0
              by zero e = refl
              by (suc i) e = let b = some in absurd (omega (arith, e, b))

          room_at : (leaves : LeavesHandle (is_fixed g.ground) g.ground.blocks (heap_fresh g.world.heap bytes (Elements Nil)) g.memory m place (elements s) n
              bytes (block_fresh g.world.heap bytes)) → 0 < count vs → HasRoomAt leaves.handle.place bytes
          room_at leaves is_some = by (block_fresh g.world.heap bytes) leaves.handle.empty leaves.room
            where
              by : (q : Option ℕ) → IsEmptyIf q (count vs) → HasRoom (is_fixed g.ground) leaves.after q leaves.handle.place bytes
                  → HasRoomAt leaves.handle.place bytes
              by None e room = absurd (omega (arith, e, is_some))
              by (Some j) e room =
                  let there = block_is_there own_data_at (heap_fresh g.world.heap bytes (Elements Nil)).classes leaves.after.stands leaves.middle
                  leaves.has.kept j room.0 room.1 leaves.regions in
                  let low = there.low in
                  let high = there.high in
                  let aligned = there.aligned in
                  let at = room.2 in
                  let long = room.3 in
                  let same = leaves.rest.sizes.heap in
                  record { even = omega (arith, aligned, at); behind_start = omega (arith, low, at); before_end = omega (arith, high, at, long, same) }

      fit_row : RowDoes x.live (all_procs x) c next FIRST 0 Has (at c g.memory making g.call.vars g.words) done
      fit_row =
          row_on x.live (all_procs x) c filling FIRST (40 + 13 * (count vs * shape_bytes s)) 0 next FIRST Room Has filled_in
          (at c g.memory making g.call.vars g.words) done
          (row_spares x.live (all_procs x) c filling FIRST (0 + (40 + 13 * (count vs * shape_bytes s))) (element_spare (count vs * shape_bytes s))
          (omega arith) Room (at c g.memory making g.call.vars g.words) done room_row)

    -- none that is too long
    long_row : bytes_for (count vs) (shape_bytes s) ≡ suc most_payload
        → RowDoes x.live (all_procs x) c next FIRST 0 Has (at c g.memory making g.call.vars g.words) done
    long_row big =
        row_on x.live (all_procs x) c filling FIRST (element_spare bytes) 0 next FIRST (λ a w m v. ⊥) Has (λ a w m v never. absurd never)
        (at c g.memory making g.call.vars g.words) done
        (row_spares x.live (all_procs x) c filling FIRST (0 + element_spare bytes) (element_spare bytes) (omega arith) (λ a w m v. ⊥)
        (at c g.memory making g.call.vars g.words) done
        (new_too_long_runs (is_fixed g.ground) Others (others_apart x g line rest y to there inside) x.law x.live (all_procs x) (heap_kept x) c refl
        g.ground.blocks g.world (sym y.input) g.memory (others_hold x g line rest y to there inside) y.memory.bytes filling g.call.vars g.words place
        (can x g line rest y to there inside (elements s) tt look) home (at_home x g line rest y to there inside (elements s) tt look) s some size_few
        (count vs) long_few big (Number (length (houses_of ts))) (counted_elements ts vs h) done (λ a w m v. ⊥)
        (fresh_came g.world (count vs) (count vs * shape_bytes s) (Elements vs) (λ i. ap (λ k. k * shape_bytes s) i ∙ omega arith) (none_long (count vs)))))
      where
        none_long : (i : ℕ) → i * shape_bytes s ≡ 0 → i ≡ 0
        none_long zero e = refl
        none_long (suc i) e = let b = some in absurd (omega (arith, e, b))

    row : (b : Bool) → nat_le (count vs) (most_payload / shape_bytes s) ≡ b
        → RowDoes x.live (all_procs x) c next FIRST 0 Has (at c g.memory making g.call.vars g.words) done
    row true e = fit_row (ap (λ b. if b then count vs * shape_bytes s else suc most_payload) e) (fit_small (count vs) (shape_bytes s) some e)
    row false e = long_row (ap (λ b. if b then count vs * shape_bytes s else suc most_payload) e)

    pub sequence_settles : code_here x g line rest y ≡ sequence_code home (shape_bytes s) (houses_of ts) (code_next x g line rest y)
        → Settles x (starts g line rest) rest
        (gives (scene_of (high x.table x.blocks (starts g line rest))) to (costs 1 (fresh_sequence of vs) >>= (λ v. give v)))
    sequence_settles code =
        made_settles x g line rest y to there inside (elements s) tt look (fresh_sequence of vs)
        (fresh_keeps (count vs) (count vs * form_size of) (Elements vs)) 0
        (subst (λ lines. RowDoes x.live (all_procs x) c next FIRST 0 Has (at c g.memory lines g.call.vars g.words)
        (perform (fresh_sequence of vs) g.world)) (sym code)
        (subst (λ i. RowDoes x.live (all_procs x) c next FIRST 0 Has (at c g.memory making g.call.vars g.words)
        (perform (fresh (count vs) (count vs * i) (Elements vs)) g.world)) (sym same_size) (row (nat_le (count vs) (most_payload / shape_bytes s)) refl)))
