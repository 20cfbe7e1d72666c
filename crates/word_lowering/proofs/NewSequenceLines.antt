-- A temporary gets a sequence of so many elements that are blank: the line is followed.
use Rattle.std.proofs.Common.{◌≡◌, ℕ, zero, suc, ◌*◌, ◌/◌, ◌^◌, ◌<◌, ◌≤◌, List, Some, Bool, true, false, ℤ, pos, int_lt, unsigned_abs}
use Rattle.std.proofs.Common.{refl, sym, ap, subst, ◌∙◌, arith, div-lt_iff_lt-mul}
use Rattle.std.specs.Prelude.{nat_le, nat_lt, if◌then◌else◌}
use Rattle.std.proofs.lemmas.Bool.{leb-true, ltb-false, ltb-true}
use Rattle.std.proofs.lemmas.Int.{ints}
use Rattle.nim_program.specs.Ints.{fits as is_int_number}
use Rattle.nim_program.specs.Traps.{OutOfRange}
use Rattle.nim_meaning.specs.Values.{Value, repeated}
use Rattle.nim_meaning.specs.Heap.{Elements}
use Rattle.nim_meaning.specs.State.{World}
use Rattle.nim_meaning.specs.Deeds.{Deed, Answers, Done, Fails, Finishes, costs, give, perform, stop, ◌>>=◌}
use Rattle.nim_meaning.specs.Lifted.{fresh}
use Rattle.nim_meaning.specs.OwnedRows.{counted}
use Rattle.flat_code.specs.declared.block.BlockLine.{BlockLine}
use Rattle.flat_code.specs.Lines.{gives}
use Rattle.flat_code.specs.Running.{scene_of}
use Rattle.flat_code.specs.Shapes.{Shape, elements}
use Rattle.rv32_isa.specs.Machine.{Lives}
use Rattle.word_code.specs.declared.word.WordInstr.{WordInstr}
use Rattle.word_code.specs.declared.word.WordProc.{WordProc}
use Rattle.word_code.specs.Memory.{Memory}
use Rattle.word_code.specs.RoutineTable.{ZeroWords}
use Rattle.word_code.specs.Words.{Vars, WordState, put}
use Rattle.word_code.proofs.ForCallers.{Within, at}
use Rattle.heap_memory.specs.SequenceRoutines.{most_payload}
use Rattle.heap_memory.specs.TextRoutines.{AreBytes}
use Rattle.word_lowering.specs.declared.handed.Handed.TheVariants.{Where}
use Rattle.word_lowering.specs.declared.homes.TheConstants.{FIRST, OWN_FROM}
use Rattle.word_lowering.specs.declared.homes.Home.{Home as Place}
use Rattle.word_lowering.specs.declared.homes.Home.TheVariants.{Variable}
use Rattle.word_lowering.specs.Operations.{least, word}
use Rattle.word_lowering.specs.OwnedCode.{counted_code}
use Rattle.word_lowering.specs.RoutineCode.{new_code}
use Rattle.word_lowering.proofs.Arithmetic.{fits_signed}
use Rattle.word_lowering.proofs.Blocks.{Blocks, Stored}
use Rattle.word_lowering.proofs.CountedRuns.{counted_runs}
use Rattle.word_lowering.proofs.DeedFrames.{KeepsFrames, fresh_keeps, keeps_branch}
use Rattle.word_lowering.proofs.FreshRowRuns.{NewThere}
use Rattle.word_lowering.proofs.HandleLines.{heap_kept}
use Rattle.word_lowering.proofs.HeapWanted.{fresh_came}
use Rattle.word_lowering.proofs.Lines.{Basis, IsGood, Settles, all_procs, starts}
use Rattle.word_lowering.proofs.Moves.{same_first, same_more}
use Rattle.word_lowering.proofs.NewHomes.{OtherHome, others_apart, others_hold}
use Rattle.word_lowering.proofs.NewLines.{NewHere, at_home, away, can, elsewhere, made_settles, to}
use Rattle.word_lowering.proofs.NewSequenceRuns.{new_runs}
use Rattle.word_lowering.proofs.OrdinalRuns.{put_low}
use Rattle.word_lowering.proofs.Related.{Both, high, within}
use Rattle.word_lowering.proofs.RowRuns.{RowDoes, row_as}
use Rattle.word_lowering.proofs.Scenes.{IsThere, house, is_fixed, looked, of_value}
use Rattle.word_lowering.proofs.SequenceRowRuns.{element_spare}
use Rattle.word_lowering.proofs.Settling.{TrapStops, code_here, code_next}
use Rattle.word_lowering.proofs.ShapeFacts.{shape_bytes}
use Rattle.word_lowering.proofs.Sites.{InMemory}
use Rattle.word_lowering.proofs.TextLengthLines.{traps_here}
use Rattle.word_lowering.proofs.TooLongRuns.{new_too_long_runs}
use Rattle.word_lowering.proofs.TwoHandles.{still_at}

-- a row that spares work for more lines spares it for fewer
pub row_spares : {A : Type 0} (live : Lives) (procs : List WordProc) (c : Within) (k : List WordInstr) (awaits spare more : ℕ) → spare ≤ more
    → (Behind : A → World → Memory → Vars → Type 0) (s : WordState) (done : Done A) → RowDoes live procs c k awaits more Behind s done
    → RowDoes live procs c k awaits spare Behind s done
row_spares live procs c k awaits spare more le Behind s (Answers es n a w) r =
    let few = r.few in
    record { memory = r.memory; vars = r.vars; behind = r.behind; lines = r.lines; few = omega (arith, few, le); steps = r.steps }
row_spares live procs c k awaits spare more le Behind s (Finishes es n status w) r =
    let few = r.few in record { memory = r.memory; lines = r.lines; few = omega (arith, few, le); stops = r.stops }
row_spares live procs c k awaits spare more le Behind s (Fails es n w) r = tt

-- so many elements fit, where the routine finds it
pub fit_small : (n size : ℕ) → 0 < size → nat_le n (most_payload / size) ≡ true → n * size < 2 ^ 32
fit_small n size some h = by (nat_lt most_payload (n * size)) refl
  where
    clash : (q : ℕ) → q < n → n ≤ q → ⊥
    clash q less more = absurd (omega (arith, less, more))

    by : (b : Bool) → nat_lt most_payload (n * size) ≡ b → n * size < 2 ^ 32
    by true e =
        absurd (clash (most_payload / size) ((div-lt_iff_lt-mul some).1 (ltb-true most_payload (n * size) e)) (leb-true n (most_payload / size) h))
    by false e = let l = ltb-false most_payload (n * size) e in omega (arith, l)

module _ (x : Basis) (g : Both) (line : BlockLine) (rest : List BlockLine) (y : IsGood x (starts g line rest)) (are : AreBytes g.memory.heap) (t : ℕ)
    (there : IsThere g.call.site (of_value t)) (inside : InMemory (house g.call.site (of_value t)).home) (s : Shape)
    (look : looked x.table g.call.site (of_value t) ≡ elements s) (some : 0 < shape_bytes s) (size_small : shape_bytes s < 2 ^ 32)
    (traps : TrapStops x g OutOfRange) (z : ℤ) (fz : is_int_number z ≡ true) (u : ℕ) (up : OWN_FROM ≤ u) (is : g.call.vars u ≡ Some (word z))
    (blank_value : Value)
    (blank : (later : Blocks) (middle : Memory) (a : ℕ) → ZeroWords middle a (shape_bytes s) → Stored (is_fixed g.ground) later middle a s blank_value) where
  abbrev home : Place
  home = (house g.call.site (of_value t)).home

  abbrev act : ℕ → Deed Value
  act n = fresh n (n * shape_bytes s) (Elements (repeated n blank_value))

  abbrev deed : Deed Value
  deed = counted z act

  abbrev Has : Value → World → Memory → Vars → Type 0
  Has = NewHere x g line rest y t there inside (elements s) tt look

  abbrev checked : Vars
  checked = put g.call.vars FIRST least

  abbrev tail : List WordInstr
  tail = new_code home u (shape_bytes s) (code_next x g line rest y)

  abbrev place : ℕ
  place = to x g line rest y t there inside (elements s) tt look

  module _ (positive : int_lt z (pos 0) ≡ false) where
    abbrev long : ℕ
    long = unsigned_abs z

    word_is : word z ≡ long
    word_is = let h = fits_signed z fz in omega (arith, ints, positive)

    few : long < 2 ^ 32
    few = let h = fits_signed z fz in omega (arith, ints, positive)

    none_long : (i : ℕ) → i * shape_bytes s ≡ 0 → i ≡ 0
    none_long zero e = refl
    none_long (suc i) e = absurd (omega (arith, e, some))

    long_at : checked u ≡ Some long
    long_at = put_low g.call.vars FIRST least u (omega arith) up ∙ is ∙ ap Some word_is

    by_size : (b : Bool) → nat_le long (most_payload / shape_bytes s) ≡ b
        → RowDoes x.live (all_procs x) (within x.table x.blocks g) (code_next x g line rest y) FIRST 30 Has
        (at (within x.table x.blocks g) g.memory tail checked g.words) (perform (act long) g.world)
    by_size true e =
        row_spares x.live (all_procs x) (within x.table x.blocks g) (code_next x g line rest y) FIRST 30 (element_spare (long * shape_bytes s)) (omega arith)
        Has (at (within x.table x.blocks g) g.memory tail checked g.words) (perform (act long) g.world)
        (row_as x.live (all_procs x) (within x.table x.blocks g) (code_next x g line rest y) FIRST (element_spare (long * shape_bytes s))
        (NewThere (is_fixed g.ground) (OtherHome x g line rest y t there inside) (others_apart x g line rest y t there inside) x.law x.live (all_procs x)
        (within x.table x.blocks g) refl g.ground.blocks g.world (sym y.input) g.memory (others_hold x g line rest y t there inside)
        (code_next x g line rest y) checked g.words place (elsewhere x g line rest y t there inside (elements s) tt look)
        (away x g line rest y t there inside (elements s) tt look) (can x g line rest y t there inside (elements s) tt look) (elements s)) Has
        (at (within x.table x.blocks g) g.memory tail checked g.words) (perform (act long) g.world)
        (λ a after other vars b. (b.0, same_more g.call.vars checked vars (same_first g.call.vars least) b.1, b.2))
        (new_runs (is_fixed g.ground) (OtherHome x g line rest y t there inside) (others_apart x g line rest y t there inside) x.law x.live (all_procs x)
        (heap_kept x) (within x.table x.blocks g) refl g.ground.blocks g.world (sym y.input) g.memory (others_hold x g line rest y t there inside) are
        (code_next x g line rest y) checked g.words place (elsewhere x g line rest y t there inside (elements s) tt look)
        (away x g line rest y t there inside (elements s) tt look) (can x g line rest y t there inside (elements s) tt look) home
        (still_at g.call.site.base g.call.vars checked home place (same_first g.call.vars least)
        (at_home x g line rest y t there inside (elements s) tt look)) s
        some size_small long few (ap (λ b. if b then long * shape_bytes s else suc most_payload) e) (fit_small long (shape_bytes s) some e)
        (Where (Variable u)) (long_at, up) blank_value blank))
    by_size false e =
        row_spares x.live (all_procs x) (within x.table x.blocks g) (code_next x g line rest y) FIRST 30 (element_spare (long * shape_bytes s)) (omega arith)
        Has (at (within x.table x.blocks g) g.memory tail checked g.words) (perform (act long) g.world)
        (new_too_long_runs (is_fixed g.ground) (OtherHome x g line rest y t there inside) (others_apart x g line rest y t there inside) x.law x.live
        (all_procs x) (heap_kept x) (within x.table x.blocks g) refl g.ground.blocks g.world (sym y.input) g.memory
        (others_hold x g line rest y t there inside) are (code_next x g line rest y) checked g.words place
        (can x g line rest y t there inside (elements s) tt look) home
        (still_at g.call.site.base g.call.vars checked home place (same_first g.call.vars least)
        (at_home x g line rest y t there inside (elements s) tt look)) s
        some size_small long few (ap (λ b. if b then long * shape_bytes s else suc most_payload) e) (Where (Variable u)) (long_at, up)
        (perform (act long) g.world) Has
        (fresh_came g.world long (long * shape_bytes s) (Elements (repeated long blank_value)) (λ i. ap (λ n. n * shape_bytes s) i ∙ omega arith)
        (none_long long)))

    row_then : RowDoes x.live (all_procs x) (within x.table x.blocks g) (code_next x g line rest y) FIRST 30 Has
        (at (within x.table x.blocks g) g.memory tail checked g.words) (perform (act long) g.world)
    row_then = by_size (nat_le long (most_payload / shape_bytes s)) refl

  deed_keeps : KeepsFrames deed
  deed_keeps =
      keeps_branch (int_lt z (pos 0)) (stop OutOfRange) (act (unsigned_abs z)) tt
      (fresh_keeps (unsigned_abs z) (unsigned_abs z * shape_bytes s) (Elements (repeated (unsigned_abs z) blank_value)))

  pub new_sequence_settles : code_here x g line rest y ≡ counted_code u tail
      → Settles x (starts g line rest) rest (gives (scene_of (high x.table x.blocks (starts g line rest))) t (costs 1 deed >>= (λ v. give v)))
  new_sequence_settles code =
      made_settles x g line rest y t there inside (elements s) tt look deed deed_keeps 28
      (subst (λ lines. RowDoes x.live (all_procs x) (within x.table x.blocks g) (code_next x g line rest y) FIRST 28 Has
      (at (within x.table x.blocks g) g.memory lines g.call.vars g.words) (perform deed g.world)) (sym code)
      (counted_runs x.live (all_procs x) (within x.table x.blocks g) g.memory (code_next x g line rest y) FIRST 28 (omega arith) g.world z fz g.call.vars
      g.words u (omega (arith, up)) is (traps_here x g traps) act Has tail row_then))
