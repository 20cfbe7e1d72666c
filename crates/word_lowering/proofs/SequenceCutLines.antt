-- A sequence whose elements have something to do at their end gets another length, as a line: the hook of what is cut is called where it gets no longer.
use Rattle.std.proofs.Common.{◌≡◌, inl, ℕ, ℤ, List, [], ◌∷◌, length, Option, Some, Bool, true, false, not, refl, sym, ap, subst, ◌∙◌, arith, inr}
use Rattle.std.proofs.Common.{le_refl, mul-le-mul, pos, suc, unsigned_abs, ◌*◌, ◌+◌, ◌<◌, ◌^◌, ◌≤◌, ◌⊎◌}
use Rattle.std.specs.Prelude.{if◌then◌else◌, int_lt, nat_le, nat_lt, slice_get, ◌&&◌}
use Rattle.word_lowering.proofs.HookPaces.{pace_by}
use Rattle.word_lowering.proofs.RoutinesCalled.{AllHanded, all_over, left_with}
use Rattle.word_lowering.proofs.OrdinalRuns.{AllSame, put_here}
use Rattle.nim_meaning.specs.Deeds.{Answers, Deed, Done, Fails, Finishes, behind, branch, costs, give, looks, perform, sees, stop, unless_gone, ◌>>=◌, ◌>>◌}
use Rattle.word_lowering.proofs.Blocks.{AreLater, Blocks, IsHandle, Stored}
use Rattle.hook_code.specs.Kept.{AreShort, AreThere, CutsAreThere, chain_of, pace_at, rank_in}
use Rattle.word_lowering.proofs.Lines.{Basis, IsGood, Settles, all_procs, all_sites, changed_later, stands_next, starts}
use Rattle.word_code.specs.Routines.{goes_on}
use Rattle.flat_code.specs.declared.block.BlockLine.{BlockLine}
use Rattle.word_lowering.proofs.Related.{Both, body_of, high, low, within}
use Rattle.word_code.specs.declared.word.WordInstr.TheVariants.{Branch, Call, Jump, Label, Load}
use Rattle.word_lowering.specs.declared.homes.Home.{Home as Place}
use Rattle.word_lowering.specs.declared.handed.Handed.TheVariants.{Where}
use Rattle.rv32_isa.specs.declared.micro_op.Size.TheVariants.{Word as whole}
use Rattle.nim_types.specs.declared.types.TypeDef.TheVariants as D
use Rattle.nim_program.specs.Ints.{fits as is_int_number}
use Rattle.word_lowering.proofs.Scenes.{FromOwned, is_fixed}
use Rattle.hook_lifting.specs.declared.lifted.Hook.TheVariants.{Ends}
use Rattle.word_lowering.specs.declared.homes.TheConstants.{FIRST, OWN_FROM}
use Rattle.nim_types.specs.Forms.{Form, size as form_size}
use Rattle.word_lowering.specs.Stored.{HaveForms}
use Rattle.word_lowering.proofs.HooksGood.{HookedHome, good_behind_hooks}
use Rattle.word_lowering.proofs.HookCalls.{IsArgument, around, owned_argument, top}
use Rattle.word_lowering.proofs.HookHomes.{IsHere}
use Rattle.word_lowering.proofs.RowGood.{IsLeftHere, good_put}
use Rattle.word_lowering.proofs.HookReturns.{IsPaid, Lands, answering, answers_then, returns_settles}
use Rattle.word_lowering.proofs.DeedFrames.{IsPutSo}
use Rattle.nim_types.specs.Table.{IsTable}
use Rattle.nim_types.specs.declared.types.TheConstants.{LIST_BYTES}
use Rattle.word_lowering.proofs.RowSettles.{LeavesGood, mapped, mapped_answered, perform_mapped, row_settles}
use Rattle.nim_meaning.specs.Values.{Location, Value, blank, length_of, nothing}
use Rattle.word_code.specs.Memory.{Memory}
use Rattle.nim_program.specs.Traps.{OutOfRange}
use Rattle.flat_code.specs.Scene.{Passes, Temps, known_in, with_value}
use Rattle.word_lowering.specs.declared.homes.Home.TheVariants.{Placed, Static, Variable}
use Rattle.hook_code.specs.Promises.{Routines}
use Rattle.word_lowering.proofs.RowRuns.{RowDoes, in_front}
use Rattle.word_code.proofs.ForCallers.{Runs, at, Within, run_constant, run_jump, run_label, run_load, run_off, run_past, then_runs}
use Rattle.word_lowering.proofs.Gets.{SameTemps}
use Rattle.word_lowering.proofs.SequencesThere.{SequenceThere, handle_is}
use Rattle.flat_code.specs.Shapes.{Shape, elements}
use Rattle.word_lowering.proofs.Settling.{TrapStops, code_here, code_next}
use Rattle.word_code.specs.Words.{Vars, WordState, from_label, no_words, put}
use Rattle.word_code.specs.declared.word.WordInstr.{WordInstr}
use Rattle.nim_meaning.specs.State.{World, is_seen, is_whole, load}
use Rattle.word_code.specs.RoutineTable.{ZeroWords}
use Rattle.word_lowering.specs.Spots.{address}
use Rattle.word_lowering.proofs.Moves.{address_runs, same_first, same_more}
use Rattle.word_lowering.proofs.ResizedWorlds.{answered}
use Rattle.word_lowering.proofs.Sites.{word_of}
use Rattle.word_lowering.specs.RoutineCode.{called_code, length_code}
use Rattle.std.proofs.lemmas.Bool.{cases_lt, eq-eqb, false≢true, le-leb, le-ltb, lt-leb, lt-ltb, ne_eqb}
use Rattle.nim_meaning.specs.OwnedRows.{counted, cut, grown, sequence_to}
use Rattle.word_lowering.specs.OwnedCode.{counted_code}
use Rattle.word_lowering.proofs.CountedRuns.{counted_runs}
use Rattle.word_lowering.proofs.HookCuts.{cut_comes}
use Rattle.hook_code.specs.HookCode.{cut_number}
use Rattle.word_lowering.proofs.SequenceRowRuns.{element_spare}
use Rattle.word_lowering.proofs.Arithmetic.{fits_signed}
use Rattle.flat_code.specs.Lines.{form_in, gives}
use Rattle.word_lowering.proofs.SequenceLengthLines.{grown_puts, longer_row}
use Rattle.hook_lifting.specs.Lifted.{has_hooks}
use Rattle.word_lowering.proofs.HookLines.{hook_given, hook_words}
use Rattle.std.proofs.lemmas.Int.{ints}
use Rattle.hook_lifting.specs.Weights.{is_built}
use Rattle.word_lowering.proofs.GoodRows.{later_ground_of}
use Rattle.word_lowering.specs.Operations.{least, trap_label, word}
use Rattle.word_lowering.proofs.HookWorlds.{memory_more}
use Rattle.std.proofs.lemmas.Option.{none-some}
use Rattle.word_lowering.proofs.ShapeFacts.{of_numbers, shape_bytes}
use Rattle.word_lowering.proofs.TextLengthLines.{row_mapped, traps_here}
use Rattle.word_lowering.proofs.RowsOn.{row_on}
use Rattle.word_lowering.proofs.NewSequenceLines.{row_spares}
use Rattle.flat_code.specs.Running.{scene_of}
use Rattle.word_lowering.proofs.HookSurroundings.{shape, surroundings}
use Rattle.word_lowering.proofs.TwoHandles.{still_at}
use Rattle.word_lowering.proofs.NewLines.{value_deed}
use Rattle.word_code.specs.declared.word.Test.TheVariants as test

-- what a row gives is nothing
as_answering : {A : Type 0} (f : Value → A) (d : Done (Unit {0})) → mapped f (mapped (λ a. nothing) d) ≡ answering (f nothing) d
as_answering f (Answers es n u w) = refl
as_answering f (Finishes es n status w) = refl
as_answering f (Fails es n w) = refl

-- ---- the code, and where its labels stand

module _ (label number u size : ℕ) where
  abbrev pub cut_behind : Place → List WordInstr → List WordInstr
  cut_behind home k = Jump (label + 2) ∷ Label label ∷ length_code home u size (Label (label + 2) ∷ k)

  abbrev pub cut_tail : Place → List WordInstr → List WordInstr
  cut_tail home k =
      address FIRST home ∷ Load FIRST FIRST whole ∷ Branch test.Below FIRST u label
      ∷ called_code FIRST number (Where home ∷ Where (Variable u) ∷ []) (cut_behind home k)

  front : (name : ℕ) (home : Place) (k : List WordInstr)
      → from_label name (counted_code u (cut_tail home k)) ≡ from_label name (Label label ∷ length_code home u size (Label (label + 2) ∷ k))
  front name (Variable n) k = refl
  front name (Placed o) k = refl
  front name (Static o) k = refl

  past : (name : ℕ) (home : Place) (k : List WordInstr) →
      from_label name (length_code home u size (Label (label + 2) ∷ k)) ≡ from_label name (Label (label + 2) ∷ k)
  past name (Variable n) k = refl
  past name (Placed o) k = refl
  past name (Static o) k = refl

  here_is : (name : ℕ) (k : List WordInstr) → from_label name (Label name ∷ k) ≡ Some (Label name ∷ k)
  here_is name k = ap (λ b. if b then Some (Label name ∷ k) else from_label name k) (eq-eqb name name refl)

  pub first_label : (home : Place) (k : List WordInstr)
      → from_label label (counted_code u (cut_tail home k)) ≡ Some (Label label ∷ length_code home u size (Label (label + 2) ∷ k))
  first_label home k = front label home k ∙ here_is label (length_code home u size (Label (label + 2) ∷ k))

  pub second_label : (home : Place) (k : List WordInstr) → from_label (label + 2) (counted_code u (cut_tail home k)) ≡ Some (Label (label + 2) ∷ k)
  second_label home k =
      front (label + 2) home k
      ∙ ap (λ b. if b then Some (Label label ∷ length_code home u size (Label (label + 2) ∷ k))
      else from_label (label + 2) (length_code home u size (Label (label + 2) ∷ k))) (ne_eqb label (label + 2) (λ e. absurd (omega (arith, e))))
      ∙ past (label + 2) home k ∙ here_is (label + 2) k

-- ---- the line

module _ (x : Basis) (g : Both) (line : BlockLine) (rest : List BlockLine) (y : IsGood x (starts g line rest)) (is_table : IsTable x.table)
    (have : HaveForms x.table) (short : AreShort x.table) (first : ℕ)
    (routines : Routines x.table (surroundings (around x g line rest y is_table have)) x.live (all_procs x) x.fresh)
    (hooks_there : AreThere x.table first (all_procs x)) (cuts : CutsAreThere x.table first (all_procs x)) (ty of : ℕ)
    (typed : slice_get x.table ty ≡ Some (D.Seq of)) (hooks : has_hooks x.table of ≡ true) (built : is_built (form_in (known_in x.table) of) ≡ true)
    (room : top x g line rest y is_table have + LIST_BYTES * suc (chain_of Ends (rank_in x.table of)) ≤ (around x g line rest y is_table have).limit)
    (shallow : rank_in x.table ty ≤ 64) (parts : rank_in x.table of ≤ 64) (l : Location) (n : ℕ) (k : Option ℕ) (s : Shape) (home : Place)
    (q : SequenceThere x g line rest y l n k s home) (looks_so : shape (around x g line rest y is_table have) ty ≡ elements s)
    (size_small : shape_bytes s < 2 ^ 32) (same_size : form_size (form_in (known_in x.table) of) ≡ shape_bytes s)
    (zeros_blank : (later : Blocks) (middle : Memory) (a : ℕ) → ZeroWords middle a (shape_bytes s)
    → Stored (is_fixed g.ground) later middle a s (blank (form_in (known_in x.table) of)))
    (traps : TrapStops x g OutOfRange) (z : ℤ) (fz : is_int_number z ≡ true) (u : ℕ) (up : OWN_FROM ≤ u) (is : g.call.vars u ≡ Some (word z)) (to : ℕ)
    (same : SameTemps x g line rest y (with_value to g.call.temps nothing)) (label : ℕ)
    (labels : from_label label (word_of x.table x.blocks (body_of g)).lines ≡ from_label label (code_here x g line rest y))
    (labels_behind : from_label (label + 2) (word_of x.table x.blocks (body_of g)).lines ≡ from_label (label + 2) (code_here x g line rest y))
    (code : code_here x g line rest y
    ≡ counted_code u (cut_tail label (cut_number first ty) u (shape_bytes s) home (code_next x g line rest y))) where
  abbrev form : Form
  form = form_in (known_in x.table) of

  abbrev c : Within
  c = within x.table x.blocks g

  abbrev next : List WordInstr
  next = code_next x g line rest y

  abbrev number : ℕ
  number = cut_number first ty

  abbrev long : ℕ
  long = unsigned_abs z

  abbrev temps : Temps
  temps = with_value to g.call.temps nothing

  abbrev after_it : List WordInstr
  after_it = Label (label + 2) ∷ next

  abbrev growing : List WordInstr
  growing = Label label ∷ length_code home u (shape_bytes s) after_it

  abbrev behind_call : List WordInstr
  behind_call = cut_behind label number u (shape_bytes s) home next

  abbrev calls : List WordInstr
  calls = called_code FIRST number (Where home ∷ Where (Variable u) ∷ []) behind_call

  abbrev tail : List WordInstr
  tail = cut_tail label number u (shape_bytes s) home next

  abbrev to_length : ℕ → Deed (Unit {0})
  to_length i = looks (λ world. sequence_to form i l world)

  abbrev act : ℕ → Deed Value
  act i = to_length i >> give nothing

  abbrev deed : Deed Value
  deed = counted z act

  abbrev checked : Vars
  checked = put g.call.vars FIRST least

  abbrev v1 : Vars
  v1 = put checked FIRST q.address

  abbrev v2 : Vars
  v2 = put v1 FIRST n

  found_growing : from_label label (word_of x.table x.blocks (body_of g)).lines ≡ Some growing
  found_growing = labels ∙ ap (from_label label) code ∙ first_label label number u (shape_bytes s) home next

  found_after : from_label (label + 2) (word_of x.table x.blocks (body_of g)).lines ≡ Some after_it
  found_after = labels_behind ∙ ap (from_label (label + 2)) code ∙ second_label label number u (shape_bytes s) home next

  handle : IsHandle g.ground.blocks g.memory q.address (elements s) n k
  handle = handle_is x g line rest y l n k s home q

  length_is : length_of (load g.world l) ≡ n
  length_is = ap length_of q.is

  same2 : AllSame g.call.vars v2
  same2 = same_more g.call.vars checked v2 (same_first g.call.vars least) (same_more checked v1 v2 (same_first checked q.address) (same_first v1 n))

  module _ (positive : int_lt z (pos 0) ≡ false) where
    few : long < 2 ^ 32
    few = let h = fits_signed z fz in omega (arith, ints, positive)

    word_is : word z ≡ long
    word_is = let h = fits_signed z fz in omega (arith, ints, positive)

    long_at : v2 u ≡ Some long
    long_at = same2.others u up ∙ is ∙ ap Some word_is

    first_at : v2 FIRST ≡ Some n
    first_at = put_here v1 FIRST n handle.few

    -- its length is read
    to_test : Runs x.live (all_procs x) 2 (at c g.memory tail checked g.words) (at c g.memory (Branch test.Below FIRST u label ∷ calls) v2 g.words)
    to_test =
        let there = still_at g.call.site.base g.call.vars checked home q.address (same_first g.call.vars least) q.at_home in
        then_runs x.live (all_procs x)
        (address_runs x.law x.live (all_procs x) c refl g.words g.memory (Load FIRST FIRST whole ∷ Branch test.Below FIRST u label ∷ calls) checked FIRST home
        q.address there.points)
        (run_load x.live (all_procs x) c g.memory (Branch test.Below FIRST u label ∷ calls) v1 g.words FIRST FIRST whole
        (put_here checked FIRST q.address there.small) handle.long)

    -- ---- where it gets no longer the hook is called

    module _ (enough : long ≤ n) where
      to_calls : Runs x.live (all_procs x) 3 (at c g.memory tail checked g.words) (at c g.memory calls v2 g.words)
      to_calls =
          then_runs x.live (all_procs x) to_test
          (run_past x.live (all_procs x) c g.memory calls v2 g.words test.Below FIRST u label first_at long_at (le-ltb n long enough))

      handed : AllHanded x.law x.live (all_procs x) c refl g.memory (Call FIRST number ∷ behind_call) v2 g.words 0 (Where home ∷ Where (Variable u) ∷ [])
          (q.address ∷ long ∷ [])
      handed =
          let there = still_at g.call.site.base g.call.vars v2 home q.address same2 q.at_home in
          all_over x.law x.live (all_procs x) c refl g.memory (Call FIRST number ∷ behind_call) v2 g.words 0 (Where home ∷ Where (Variable u) ∷ [])
          (q.address ∷ long ∷ []) (omega arith) ((there.points, there.high), there.small, ((long_at, up), few, tt))

      abbrev calling : WordState
      calling = at c g.memory (Call FIRST number ∷ behind_call) handed.vars (hook_words g.words q.address long)

      to_calling : Runs x.live (all_procs x) (2 + (3 + handed.steps)) (low x.table x.blocks (starts g line rest)) calling
      to_calling =
          subst (λ lines. Runs x.live (all_procs x) (2 + (3 + handed.steps)) (at c g.memory lines g.call.vars g.words) calling) (sym code)
          (then_runs x.live (all_procs x)
          (then_runs x.live (all_procs x)
          (run_constant x.live (all_procs x) c g.memory (Branch test.NotBelow u FIRST (trap_label OutOfRange) ∷ tail) g.call.vars g.words FIRST least)
          (run_past x.live (all_procs x) c g.memory tail checked g.words test.NotBelow u FIRST (trap_label OutOfRange)
          ((same_first g.call.vars least).others u up ∙ is) (put_here g.call.vars FIRST least (omega arith)) (ap not below)))
          (then_runs x.live (all_procs x) to_calls handed.runs))
        where
          below : nat_lt (word z) least ≡ true
          below = let h = fits_signed z fz in lt-ltb (word z) least (omega (arith, ints, positive))

      argument : IsArgument x g line rest y is_table have true l q.address ty
      argument =
          owned_argument x g line rest y is_table have true l q.address ty
          (subst (FromOwned x.table (all_sites x g line rest y) g.ground g.world l q.address) (sym looks_so) q.owned) (ap of_numbers looks_so)

      abbrev cutting_deed : Deed (Unit {0})
      cutting_deed = sees l (λ world v. cut form long l v)

      same_then : AllSame g.call.vars handed.vars
      same_then = same_more g.call.vars v2 handed.vars same2 handed.same

      -- behind it all is good, and the line goes on past the other code
      lands : (w : World) (reply : ℕ) (m : Memory) (after : Blocks) → AreLater g.ground.blocks after
          → IsHere (around x g line rest y is_table have) (top x g line rest y is_table have) (top x g line rest y is_table have) [] after w m
          → (r : Lands x g line rest y (goes_on calling FIRST reply behind_call m calling.input) temps w) × (r.steps ≤ 2)
      lands w reply m after ahead here =
          let vars' : Vars = put handed.vars FIRST reply in
          let input : w.input ≡ g.input = here.like.input ∙ y.input in
          let long_places : length m.places ≡ length g.memory.places = (let e = here.ends in let f = y.memory.places in omega (arith, e, f)) in (
            record {
              later = after;
              vars = vars';
              memory = m;
              words = no_words;
              awaits = FIRST;
              good = subst (λ i. IsGood x (changed_later g rest temps vars' m no_words FIRST w (later_ground_of x g line rest y after) i)) input
                  (good_behind_hooks x g line rest y after ahead w m
                  (record { sized = here.here.holds.sized; heap = here.here.holds.heap; homes = λ h p. here.here.holds.homes h (inl p) })
                  here.like (λ h. ⊥) (λ h p. absurd p)
                  (memory_more (HookedHome x g line rest y) (λ h. HookedHome x g line rest y h ⊎ ⊥) (λ h p. inl p) (top x g line rest y is_table have)
                  g.memory m
                  here.same) long_places here.bytes
                  here.here.long rest (stands_next x.table x.blocks (body_of g) line rest y.stands) temps same vars' no_words FIRST
                  (same_more g.call.vars handed.vars vars' same_then (same_first handed.vars reply)));
              steps = 2;
              runs = then_runs x.live (all_procs x)
                  (run_jump x.live (all_procs x) (left_with c g.input FIRST) m growing vars' no_words (label + 2) after_it found_after)
                  (run_label x.live (all_procs x) (left_with c g.input FIRST) m next vars' no_words (label + 2));
            },
            omega arith,
          )

      cut_line : Settles x (starts g line rest) rest (Passes (behind [] 1 (answering temps (perform cutting_deed g.world))))
      cut_line =
          subst (λ d. Settles x (starts g line rest) rest (Passes (behind [] 1 d))) (answers_then temps (perform cutting_deed g.world))
          (returns_settles x g line rest y (around x g line rest y is_table have) (top x g line rest y is_table have) (top x g line rest y is_table have)
          g.ground.blocks calling behind_call (λ works. 15 + (pace_at Ends (rank_in x.table of) + 2) * works) (2 + (3 + handed.steps)) to_calling 2 1
          (λ w. Answers [] 0 temps w) (λ w reply m after ahead here. let r = lands w reply m after ahead here in let f = r.1 in (refl, (r.0, omega (arith, f))))
          (perform cutting_deed g.world) (paid (perform cutting_deed g.world))
          (cut_comes x g line rest y is_table have short first routines hooks_there cuts ty of typed hooks shallow parts built l q.address long argument few
          (subst (λ i. nat_le long i ≡ true) (sym length_is) (le-leb long n enough)) room behind_call handed.vars (hook_words g.words q.address long)
          (hook_given g.words q.address long q.at_home.small few)))
        where
          paid : (done : Done (Unit {0})) → IsPaid x g line rest y (around x g line rest y is_table have) (top x g line rest y is_table have)
              (top x g line rest y is_table have) g.ground.blocks calling behind_call (λ works. 15 + (pace_at Ends (rank_in x.table of) + 2) * works)
              (2 + (3 + handed.steps)) to_calling 2 1 done
          paid (Answers es i a w) =
              let e : (pace_at Ends (rank_in x.table of) + 2) * i ≤ 253 * i =
              mul-le-mul (let p = pace_by Ends (rank_in x.table of) parts in omega (arith, p)) (le_refl i) in
              let f = handed.few in
              omega (arith, e, f)
          paid (Finishes es i status w) =
              let e : (pace_at Ends (rank_in x.table of) + 2) * i ≤ 253 * i =
              mul-le-mul (let p = pace_by Ends (rank_in x.table of) parts in omega (arith, p)) (le_refl i) in
              let f = handed.few in
              omega (arith, e, f)
          paid (Fails es i w) = tt

      abbrev f : Value → Temps
      f v = with_value to g.call.temps v

      shorter_settles : Settles x (starts g line rest) rest (Passes (behind [] 1 (mapped f (perform deed g.world))))
      shorter_settles =
          subst (λ b. Settles x (starts g line rest) rest (Passes (behind [] 1 (mapped f (perform (branch b (stop OutOfRange) (act long)) g.world)))))
          (sym positive)
          (subst (λ d. Settles x (starts g line rest) rest (Passes (behind [] 1 (mapped f d)))) (sym (perform_mapped (λ a. nothing) (to_length long) g.world))
          (subst (λ b. Settles x (starts g line rest) rest (Passes (behind [] 1 (mapped f (mapped (λ a. nothing)
          (perform (branch b (cut form long l (load g.world l)) (grown form long l g.world)) g.world))))))
          (sym (subst (λ i. nat_le long i ≡ true) (sym length_is) (le-leb long n enough)))
          (subst (λ d. Settles x (starts g line rest) rest (Passes (behind [] 1 d)))
          (sym (as_answering f (perform (cut form long l (load g.world l)) g.world)))
          (subst (λ b. Settles x (starts g line rest) rest (Passes (behind [] 1 (answering temps
          (perform (unless_gone b (cut form long l (load g.world l))) g.world))))) seen cut_line))))
        where
          seen : is_seen g.world l ≡ true
          seen =
              ap (λ b. b && is_whole g.world (load g.world l)) q.live ∙ subst (λ v. is_whole g.world v ≡ true) (sym q.is) q.whole

    -- ---- where it gets longer the routine is called

    module _ (more : n < long) where
      to_growing : Runs x.live (all_procs x) 4 (at c g.memory tail checked g.words)
          (at c g.memory (length_code home u (shape_bytes s) after_it) v2 g.words)
      to_growing =
          then_runs x.live (all_procs x) to_test
          (then_runs x.live (all_procs x)
          (run_off x.live (all_procs x) c g.memory calls v2 g.words test.Below FIRST u label growing first_at long_at (lt-ltb n long more) found_growing)
          (run_label x.live (all_procs x) c g.memory (length_code home u (shape_bytes s) after_it) v2 g.words label))

      abbrev Left : Vars → Unit {0} → World → Memory → Vars → Type 0
      Left v a after other vars = IsLeftHere x g line rest y after other q.address 8 × AllSame v vars

      longer : RowDoes x.live (all_procs x) c next FIRST 30 (Left v2) (at c g.memory tail checked g.words) (perform (grown form long l g.world) g.world)
      longer =
          in_front x.live (all_procs x) c next FIRST 30 4 (Left v2) (at c g.memory tail checked g.words)
          (at c g.memory (length_code home u (shape_bytes s) after_it) v2 g.words) to_growing (perform (grown form long l g.world) g.world)
          (row_on x.live (all_procs x) c after_it FIRST 1 34 next FIRST (Left v2) (Left v2)
          (λ a w m vars b. record {
            memory = m;
            vars = vars;
            behind = b;
            steps = 1;
            few = omega arith;
            runs = run_label x.live (all_procs x) (left_with c w.input FIRST) m next vars no_words (label + 2);
          }) (at c g.memory (length_code home u (shape_bytes s) after_it) v2 g.words) (perform (grown form long l g.world) g.world)
          (row_spares x.live (all_procs x) c after_it FIRST 35 (element_spare 0) (omega arith) (Left v2)
          (at c g.memory (length_code home u (shape_bytes s) after_it) v2 g.words) (perform (grown form long l g.world) g.world)
          (longer_row x g line rest y l n k s home q size_small form same_size zeros_blank after_it v2 same2 long few u up long_at (omega (arith, more)))))

  -- ---- so it is a row where it isn't cut

  abbrev Ended : Value → World → Memory → Vars → Type 0
  Ended a after other vars = (a ≡ nothing) × IsLeftHere x g line rest y after other q.address 8 × AllSame g.call.vars vars

  module _ (only : int_lt z (pos 0) ≡ false → n < long) where
    not_cut : int_lt z (pos 0) ≡ false → nat_le long (length_of (load g.world l)) ≡ false
    not_cut positive = subst (λ i. nat_le long i ≡ false) (sym length_is) (lt-leb long n (only positive))

    row_then : int_lt z (pos 0) ≡ false → RowDoes x.live (all_procs x) c next FIRST 30 Ended (at c g.memory tail checked g.words)
        (perform (act long) g.world)
    row_then positive =
        subst (RowDoes x.live (all_procs x) c next FIRST 30 Ended (at c g.memory tail checked g.words))
        (sym (perform_mapped (λ a. nothing) (to_length long) g.world))
        (row_mapped x.live (all_procs x) c next FIRST 30 (λ a. nothing) (Left positive (only positive) v2) Ended
        (λ a after other vars b. (refl, b.0, same_more g.call.vars v2 vars same2 b.1))
        (at c g.memory tail checked g.words) (perform (to_length long) g.world)
        (subst (λ b. RowDoes x.live (all_procs x) c next FIRST 30 (Left positive (only positive) v2) (at c g.memory tail checked g.words)
        (perform (branch b (cut form long l (load g.world l)) (grown form long l g.world)) g.world)) (sym (not_cut positive))
        (longer positive (only positive))))

    put_so : (after : World) (b : Bool) → int_lt z (pos 0) ≡ b
        → answered (perform (branch b (stop OutOfRange) (act long)) g.world) ≡ Some after → IsPutSo l g.world after
    put_so after true e h = absurd (none-some after h)
    put_so after false e h =
        grown_puts form g.world l long after
        (subst (λ b. answered (perform (branch b (cut form long l (load g.world l)) (grown form long l g.world)) g.world) ≡ Some after) (not_cut e)
        (sym (mapped_answered (λ a. nothing) (perform (to_length long) g.world))
        ∙ ap answered (sym (perform_mapped (λ a. nothing) (to_length long) g.world)) ∙ h))

    leaves : LeavesGood x g line rest y FIRST (λ a. with_value to g.call.temps a) Ended (perform deed g.world)
    leaves es work a w e other vars b =
        let put_it : IsPutSo l g.world w = put_so w (int_lt z (pos 0)) refl (ap answered e) in (
          later_ground_of x g line rest y b.1.later,
          good_put x g line rest y l q.address (elements s) refl q.live put_it.0 w other b.1 put_it.1 q.owned (with_value to g.call.temps a)
              (subst (λ v. SameTemps x g line rest y (with_value to g.call.temps v)) (sym b.0) same) vars no_words FIRST b.2,
        )

    row_line : Settles x (starts g line rest) rest (Passes (behind [] 1 (mapped (λ v. with_value to g.call.temps v) (perform deed g.world))))
    row_line =
        row_settles x g line rest y FIRST 28 (λ a. with_value to g.call.temps a) Ended (perform deed g.world) leaves
        (subst (λ lines. RowDoes x.live (all_procs x) c next FIRST 28 Ended (at c g.memory lines g.call.vars g.words) (perform deed g.world)) (sym code)
        (counted_runs x.live (all_procs x) c g.memory next FIRST 28 (omega arith) g.world z fz g.call.vars g.words u (omega (arith, up)) is
        (traps_here x g traps) act Ended tail row_then))

  by_sign : (b : Bool) → int_lt z (pos 0) ≡ b
      → Settles x (starts g line rest) rest (Passes (behind [] 1 (mapped (λ v. with_value to g.call.temps v) (perform deed g.world))))
  by_sign true e = row_line (λ positive. absurd (false≢true (sym positive ∙ e)))
  by_sign false e = by (cases_lt n long)
    where
      by : (n < long) ⊎ (long ≤ n)
          → Settles x (starts g line rest) rest (Passes (behind [] 1 (mapped (λ v. with_value to g.call.temps v) (perform deed g.world))))
      by (inl more) = row_line (λ positive. more)
      by (inr enough) = shorter_settles e enough

  pub cut_settles : Settles x (starts g line rest) rest (gives (scene_of (high x.table x.blocks (starts g line rest))) to
      (costs 1 (counted z (λ i. looks (λ world. sequence_to form i l world) >> give nothing)) >>= (λ v. give v)))
  cut_settles =
      subst (λ done. Settles x (starts g line rest) rest (Passes (behind [] 1 done))) (sym (value_deed deed (λ v. with_value to g.call.temps v) g.world))
      (by_sign (int_lt z (pos 0)) refl)
