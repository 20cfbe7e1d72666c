-- A temporary gets an element of a sequence, which is there; and a loop checks that a text or a sequence has as many as before: the lines are followed.
use Rattle.rv32_isa.specs.declared.micro_op.Size.TheVariants.{Word as whole}
use Rattle.nim_program.specs.Ints.{fits as is_int_number, inside}
use Rattle.nim_program.specs.Traps.{LengthChanged, trap_text}
use Rattle.nim_program.specs.declared.operation.Measure.TheVariants.{Len}
use Rattle.nim_meaning.specs.Values.{Value, Location, bytes, item_of, length_of, nothing}
use Rattle.nim_meaning.specs.Places.{fetched}
use Rattle.nim_meaning.specs.Deeds.{Answers, Finishes, costs, give, stop, unless_gone}
use Rattle.flat_code.specs.Lines.{acts, element_at, gives, still}
use Rattle.flat_code.specs.Scene.{Located, Passes, with_value}
use Rattle.word_lowering.specs.declared.homes.Home.{Home as Place}
use Rattle.word_lowering.specs.declared.homes.Home.TheVariants.{Variable}
use Rattle.word_lowering.proofs.SequenceItemLines.{HasElements}
use Rattle.word_lowering.proofs.ValuesRead.{value_read, words_behind}
use Rattle.word_lowering.proofs.HandleReads.{element_found}
use Rattle.word_lowering.proofs.OrdinalRuns.{AllSame, put_here}
use Rattle.word_lowering.proofs.TextRowRuns.{IsAt}
use Rattle.word_lowering.proofs.Lines.{Basis, IsGood, Settles, all_procs, changed, goes_on, stands_next, starts, where_there, with_vars, good_between}
use Rattle.flat_code.specs.declared.block.BlockLine.{BlockLine}
use Rattle.std.proofs.Common.{Bool, List, None, Ok, Option, Some, [], ap, append-nil, arith, false, inl, inr, length, negsuc, pos, refl, subst, sym, true, ℕ}
use Rattle.std.proofs.Common.{ℤ, ◌*◌, ◌+◌, ◌<◌, ◌^◌, ◌∙◌, ◌∷◌, ◌≡◌, ◌≤◌}
use Rattle.word_lowering.proofs.Related.{Both, body_of, high, within}
use Rattle.word_code.specs.declared.word.WordInstr.TheVariants.{Branch, Load}
use Rattle.word_lowering.proofs.Settling.{Comes, TrapsStop, code_here, code_next, code_of_line, passes_settles, trap_settles}
use Rattle.arc_base.specs.declared.outside.Stream.TheVariants.{Err}
use Rattle.word_lowering.specs.declared.homes.TheConstants.{FIFTH, FIRST, OWN_FROM}
use Rattle.word_lowering.proofs.Scenes.{IsThere, house, is_fixed, looked, of_value}
use Rattle.word_lowering.proofs.OperationRuns.{Led}
use Rattle.word_lowering.specs.declared.spots.Spot.TheVariants.{Lies}
use Rattle.word_code.proofs.ForCallers.{at as at_state, Runs, run_load, run_off, run_past, then_runs}
use Rattle.flat_code.specs.Shapes.{Shape}
use Rattle.word_code.specs.Words.{Vars, from_label, put}
use Rattle.word_code.specs.declared.word.WordInstr.{WordInstr}
use Rattle.word_lowering.proofs.Moves.{address_runs, same_first, same_more}
use Rattle.std.proofs.lemmas.Bool.{and_parts}
use Rattle.word_lowering.specs.Lowered.{any_branches}
use Rattle.word_lowering.proofs.ValuesMoved.{awaits_behind}
use Rattle.word_lowering.proofs.Arithmetic.{equal_is, fits_signed}
use Rattle.std.specs.Ordering.{int_eq}
use Rattle.std.specs.Prelude.{int_le, int_lt, not, ◌==◌}
use Rattle.std.proofs.lemmas.Int.{ints}
use Rattle.nim_meaning.specs.State.{is_full_at, is_seen, load}
use Rattle.word_lowering.proofs.Sites.{is_one_word, word_of}
use Rattle.word_lowering.proofs.Located.{led_stored}
use Rattle.nim_meaning.specs.Acts.{line_of}
use Rattle.word_lowering.specs.OwnedCode.{measured_code, owned_element_code}
use Rattle.word_lowering.specs.Spots.{moved, spot_of}
use Rattle.word_lowering.proofs.ShapeFacts.{never, of_numbers, shape_bytes}
use Rattle.word_code.specs.Memory.{number_at}
use Rattle.word_lowering.proofs.SequenceRowRuns.{same_fifth}
use Rattle.word_lowering.proofs.Gets.{same_temps}
use Rattle.flat_code.specs.Running.{scene_of}
use Rattle.word_lowering.proofs.FullValues.{stored_bytes}
use Rattle.word_lowering.specs.Operations.{trap_label, word}
use Rattle.word_lowering.proofs.MeasureLines.{turned}
use Rattle.arc_base.specs.Event.{writes}
use Rattle.nim_meaning.specs.Deeds as deeds
use Rattle.word_code.specs.declared.word.Test.TheVariants as test

-- ---- an element

module _ (x : Basis) (g : Both) (line : BlockLine) (rest : List BlockLine) (y : IsGood x (starts g line rest)) (l : Location) (a to : ℕ)
    (there : IsThere g.call.site (of_value to)) (numbers : of_numbers (looked x.table g.call.site (of_value to)) ≡ true)
    (e : HasElements x g line rest y l (looked x.table g.call.site (of_value to)) a) (near : a + 4 < 2 ^ 32)
    (home : Place) (at_home : IsAt g.call.site.base g.call.vars home a) (index : ℕ) (index_high : OWN_FROM ≤ index)
    (size_small : shape_bytes (looked x.table g.call.site (of_value to)) < 2 ^ 32)
    (code : code_here x g line rest y
    ≡ owned_element_code FIFTH home index (shape_bytes (looked x.table g.call.site (of_value to)))
    (moved (house g.call.site (of_value to)).is_word (house g.call.site (of_value to)).bytes (spot_of (house g.call.site (of_value to)))
    (Lies (Variable FIFTH)) (code_next x g line rest y))) where
  abbrev s : Shape
  s = looked x.table g.call.site (of_value to)

  abbrev next : List WordInstr
  next = code_next x g line rest y

  abbrev reading : List WordInstr
  reading = moved (house g.call.site (of_value to)).is_word (house g.call.site (of_value to)).bytes (spot_of (house g.call.site (of_value to)))
      (Lies (Variable FIFTH)) next

  abbrev item_at : ℕ → Location
  item_at i = item_of (load g.world l) l i

  -- where the elements are
  full_element : (i : ℕ) → i < e.long → g.call.vars index ≡ Some i → is_full_at g.world (item_of (load g.world l) l i) ≡ true
      → Settles x (starts g line rest) rest (Passes (Answers [] (1 + (bytes (load g.world (item_of (load g.world l) l i)) + 0))
      (with_value to g.call.temps (load g.world (item_of (load g.world l) l i))) g.world))
  full_element i less index_is full =
      let v : Value = load g.world (item_of (load g.world l) l i) in
      let end = e.ends i less in
      let few = e.few in
      let f = element_found x.law x.live (all_procs x) (within x.table x.blocks g) refl g.memory reading g.call.vars g.words home a at_home FIFTH index
      (shape_bytes s) i e.long e.start index_high index_is near size_small e.long_at (omega (arith, few)) e.start_at (omega (arith, end)) (omega (
        arith,
        end,
      )) in
      let at : ℕ = e.start + i * shape_bytes s in
      let vars : Vars = put f.vars FIFTH (e.start + i * shape_bytes s) in
      let same : AllSame g.call.vars vars = same_more g.call.vars f.vars vars f.same (same_fifth f.vars at) in
      let led : Both = with_vars g (put f.vars FIFTH (e.start + i * shape_bytes s)) in
      let good : IsGood x (starts (with_vars g (put f.vars FIFTH (e.start + i * shape_bytes s))) line rest) = good_between x g line rest y vars same in
      let r = led_stored x (starts led line rest) good led.call (inl refl) (inl refl) (Located (item_at i)) at s (inl numbers) full (e.leads i less) in
      let z = value_read x led line rest good to there v (Variable FIFTH) (omega arith) at (put_here f.vars FIFTH at (omega (arith, end))) r.stored r.shaped
      r.readable rest
      (stands_next x.table x.blocks (body_of g) line rest y.stands) next in
      let long : bytes v ≡ shape_bytes s
      = stored_bytes (is_fixed g.ground) g.ground.blocks g.memory at s v r.stored r.shaped in
      let few_steps = z.few in
      let runs : Runs x.live (all_procs x) 6 (at_state (within x.table x.blocks g) g.memory (code_here x g line rest y) g.call.vars g.words)
      (at_state (within x.table x.blocks g) g.memory reading vars g.words)
      = subst (λ lines. Runs x.live (all_procs x) 6 (at_state (within x.table x.blocks g) g.memory lines g.call.vars g.words)
      (at_state (within x.table x.blocks g) g.memory reading vars g.words)) (sym code) f.runs in
      goes_on x (starts g line rest)
      (changed led rest (with_value to g.call.temps v) z.vars z.memory (words_behind (is_one_word s) g.words) (awaits_behind (is_one_word s) g.awaits)
      g.world)
      rest z.good (6 + z.steps) (1 + (bytes v + 0)) (with_value to g.call.temps v) g.world (then_runs x.live (all_procs x) runs z.runs)
      (omega arith) (omega (arith, few_steps, long)) refl

  -- by a number that is below the length
  pub element_settles : (z : ℤ) → is_int_number z ≡ true → inside z e.long ≡ true → g.call.vars index ≡ Some (word z)
      → Settles x (starts g line rest) rest (gives (scene_of (high x.table x.blocks (starts g line rest))) to (costs 1 (element_at l z)))
  element_settles (negsuc i) fits h has = never h
  element_settles (pos i) fits h has =
      let less : i < e.long = (let q = (and_parts (int_le (pos 0) (pos i)) (int_lt (pos i) (pos e.long)) h).1 in omega (arith, ints, q)) in
      let w : word (pos i) ≡ i = (let q = fits_signed (pos i) fits in omega (arith, ints)) in
      where_there x (starts g line rest) rest (is_seen g.world l)
      (λ b. gives (scene_of (high x.table x.blocks (starts g line rest))) to (costs 1 (unless_gone b (fetched (item_at i)))))
      (λ before. tt)
      (λ seen. where_there x (starts g line rest) rest (is_full_at g.world (item_at i))
      (λ b. gives (scene_of (high x.table x.blocks (starts g line rest))) to (costs 1 (unless_gone b
      (costs (bytes (load g.world (item_at i))) (give (load g.world (item_at i))))))) (λ before. tt)
      (λ full. full_element i less (has ∙ ap Some w) full))

-- ---- a length that a loop checks

module _ (x : Basis) (g : Both) (line : BlockLine) (rest : List BlockLine) (y : IsGood x (starts g line rest)) (l : Location) (n : ℕ)
    (is : length_of (load g.world l) ≡ n) (a : ℕ) (stands_long : number_at g.memory a whole ≡ Ok n) (home : Place)
    (at_home : IsAt g.call.site.base g.call.vars home a) (fits : is_int_number (pos n) ≡ true) (traps : TrapsStop x) (u : ℕ) (high_u : OWN_FROM ≤ u) (z : ℤ)
    (fz : is_int_number z ≡ true) (has : g.call.vars u ≡ Some (word z)) where
  abbrev k_next : List WordInstr
  k_next = code_next x g line rest y

  abbrev pub still_code : List WordInstr → List WordInstr
  still_code next = measured_code Len FIRST home (Branch test.Unequal u FIRST (trap_label LengthChanged) ∷ next)

  abbrev behind_length : List WordInstr
  behind_length = Branch test.Unequal u FIRST (trap_label LengthChanged) ∷ k_next

  abbrev v2 : Vars
  v2 = put (put g.call.vars FIRST a) FIRST n

  small : n < 2 ^ 32
  small = let h = fits_signed (pos n) fits in omega (arith, ints)

  same2 : AllSame g.call.vars v2
  same2 = same_more g.call.vars (put g.call.vars FIRST a) v2 (same_first g.call.vars a) (same_first (put g.call.vars FIRST a) n)

  reads : v2 u ≡ Some (word z)
  reads = same2.others u high_u ∙ has

  to_length : Runs x.live (all_procs x) 2 (at_state (within x.table x.blocks g) g.memory (still_code k_next) g.call.vars g.words)
      (at_state (within x.table x.blocks g) g.memory behind_length v2 g.words)
  to_length =
      then_runs x.live (all_procs x)
      (address_runs x.law x.live (all_procs x) (within x.table x.blocks g) refl g.words g.memory (Load FIRST FIRST whole ∷ behind_length) g.call.vars FIRST
      home a at_home.points)
      (run_load x.live (all_procs x) (within x.table x.blocks g) g.memory behind_length (put g.call.vars FIRST a) g.words FIRST FIRST whole
      (put_here g.call.vars FIRST a at_home.small) stands_long)

  test_is : (word z == n) ≡ int_eq (pos n) z
  test_is =
      let c : n ≡ word (pos n) = (let h = fits_signed (pos n) fits in omega (arith, ints)) in
      ap (λ i. word z == i) c ∙ equal_is z (pos n) fz fits ∙ turned z (pos n)

  module _ (code : code_here x g line rest y ≡ still_code k_next) where
    passes : int_eq (pos n) z ≡ true → Comes x g line rest y k_next
    passes h = subst (λ lines. Led x.live (all_procs x) (within x.table x.blocks g) g.memory g.words lines g.call.vars k_next) (sym code) (record {
      steps = 3;
      some = omega arith;
      few = omega arith;
      leads = record {
        vars = v2;
        same = same2;
        runs = then_runs x.live (all_procs x) to_length
            (run_past x.live (all_procs x) (within x.table x.blocks g) g.memory k_next v2 g.words test.Unequal u FIRST (trap_label LengthChanged) reads
            (put_here (put g.call.vars FIRST a) FIRST n small) (ap not (test_is ∙ h)));
      };
    })

    leads_away : int_eq (pos n) z ≡ false → (there : List WordInstr)
        → from_label (trap_label LengthChanged) (word_of x.table x.blocks (body_of g)).lines ≡ Some there → Comes x g line rest y there
    leads_away h there stands =
        subst (λ lines. Led x.live (all_procs x) (within x.table x.blocks g) g.memory g.words lines g.call.vars there) (sym code) (record {
          steps = 3;
          some = omega arith;
          few = omega arith;
          leads = record {
            vars = v2;
            same = same2;
            runs = then_runs x.live (all_procs x) to_length
                (run_off x.live (all_procs x) (within x.table x.blocks g) g.memory k_next v2 g.words test.Unequal u FIRST (trap_label LengthChanged) there
                reads (put_here (put g.call.vars FIRST a) FIRST n small) (ap not (test_is ∙ h)) stands);
          };
        })

    abbrev Still_does : Bool → Type 0
    Still_does b = Settles x (starts g line rest) rest
        (acts (scene_of (high x.table x.blocks (starts g line rest))) (costs 1 (deeds.branch b (give nothing) (stop LengthChanged))))

    still_by : ((lines : List WordInstr) → any_branches (trap_label LengthChanged) (code_of_line x g line rest lines) ≡ true) → (b : Bool)
        → int_eq (pos n) z ≡ b → Still_does b
    still_by branches true h = passes_settles x g line rest y g.call.temps (same_temps x g line rest y) 1 (omega arith) (passes h)
    still_by branches false h =
        subst (λ d. Settles x (starts g line rest) rest d)
        (ap (λ es. Passes (Finishes es (1 + length (line_of (trap_text LengthChanged))) 1 g.world))
        (sym (append-nil (writes Err (line_of (trap_text LengthChanged))))))
        (trap_settles x g line rest y traps LengthChanged 1 (omega arith) branches (leads_away h))

    pub still_counted : ((lines : List WordInstr) → any_branches (trap_label LengthChanged) (code_of_line x g line rest lines) ≡ true)
        → Settles x (starts g line rest) rest (acts (scene_of (high x.table x.blocks (starts g line rest))) (costs 1 (still l z)))
    still_counted branches =
        where_there x (starts g line rest) rest (is_seen g.world l)
        (λ b. acts (scene_of (high x.table x.blocks (starts g line rest))) (costs 1 (unless_gone b
        (deeds.branch (int_eq (pos (length_of (load g.world l))) z) (give nothing) (stop LengthChanged))))) (λ before. tt)
        (λ seen. subst (λ i. Still_does (int_eq (pos i) z)) (sym is) (still_by branches (int_eq (pos n) z) refl))
