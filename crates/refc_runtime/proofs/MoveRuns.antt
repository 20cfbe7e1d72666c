-- What the routine that copies bytes does.
use Rattle.std.proofs.Common.{◌≡◌, ℕ, ◌+◌, ◌-◌, ◌*◌, ◌%◌, ◌^◌, ◌<◌, ◌≤◌, List, [], ◌∷◌, length, Some, true, false, refl, ap}
use Rattle.std.proofs.Common.{⊎_elim, arith, not}
use Rattle.std.specs.Prelude.{◌==◌}
use Rattle.std.proofs.lemmas.Bool.{eq-eqb, ne_eqb, lt-ltb, le-ltb, cases_eq}
use Rattle.rv32_isa.specs.declared.micro_op.Size.TheVariants.{Byte, Word}
use Rattle.rv32_isa.specs.Machine.{Lives}
use Rattle.word_code.specs.declared.word.WordOperation.TheVariants as operation
use Rattle.word_code.specs.declared.word.Test.TheVariants as test
use Rattle.word_code.specs.declared.word.WordInstr.{WordInstr}
use Rattle.word_code.specs.declared.word.WordInstr.TheVariants.{Label, Constant, Sum, Compute, Load, Store, Jump, Branch, Return}
use Rattle.word_code.specs.declared.word.WordProc.{WordProc}
use Rattle.word_code.specs.Memory.{Memory, with_number, bytes_at, may_fill}
use Rattle.word_code.specs.Words.{computed, holds, Vars, no_words, put, params_of, from_proc, WordState}
use Rattle.word_code.specs.RoutineTable.{Beside, IsRewritten}
use Rattle.word_code.specs.Routines.{goes_on}
use Rattle.word_code.proofs.ForCallers.{MemoryLaw, Sized, sizes_same, Runs, then_runs, Within, at as state_at, run_label, run_constant, run_sum, run_compute}
use Rattle.word_code.proofs.ForCallers.{run_load, run_store, run_past, run_off, run_jump, got, got_sum}
use Rattle.heap_memory.specs.declared.numbers.TheConstants.{MOVE}
use Rattle.heap_memory.specs.HeapRoutines.{IsKeptThere}
use Rattle.heap_memory.specs.TextRoutines.{AreBytes, Copying, MayCopy, moves_bytes}
use Rattle.refc_runtime.specs.TextCode.{byte_lines, whole_lines, move_lines}
use Rattle.refc_runtime.proofs.Calls.{later, inside, enters, returns, from_call}
use Rattle.refc_runtime.proofs.Pieces.{IsPiece, byte_piece, word_piece, piece_read, piece_may, piece_sized, rest_here, rest_may, rest_apart, ends_small}
use Rattle.refc_runtime.proofs.Pieces.{all_rewritten, all_there, range_small}

module _ (law : MemoryLaw) (live : Lives) (procs : List WordProc) (n : ℕ) (s : WordState) (to : ℕ) (rest : List WordInstr) where
  abbrev pub move_proc : WordProc
  move_proc = later n MOVE 3 7 move_lines

  abbrev c : Within
  c = inside s move_proc to rest

  -- these bytes are copied, from some lines of the routine on
  pub record Moved (m : Memory) (target : ℕ) (bytes : List ℕ) (lines : List WordInstr) (most : ℕ) (v : Vars) : Type 0 where
    pub other : Memory
    pub sized : Sized other
    pub rewritten : IsRewritten m other target (length bytes)
    pub there : bytes_at other target (length bytes) ≡ Some bytes
    pub word : ℕ
    pub count : ℕ
    pub few : count ≤ most
    pub runs : Runs live procs count (state_at c m lines v no_words) (goes_on s to word rest other s.input)

  byte_moves : (bytes : List ℕ) (m : Memory) (target source end : ℕ) (v : Vars) → Sized m → AreBytes bytes
      → bytes_at m source (length bytes) ≡ Some bytes → may_fill m target (length bytes) ≡ true
      → Beside target (length bytes) source (length bytes) → v 0 ≡ Some target → v 1 ≡ Some source → v 3 ≡ Some end → end ≡ source + length bytes
      → Moved m target bytes byte_lines (4 + 7 * length bytes) v
  byte_moves [] m target source end v sized are here may apart e0 e1 e3 far =
      let k2 : List WordInstr = Branch test.Equal 1 3 2 ∷ Load 4 1 Byte ∷ Store 0 4 Byte ∷ Sum 0 0 1 ∷ Sum 1 1 1 ∷ Jump 1 ∷ Label 2 ∷ Return 0 ∷ [] in
      let k3 : List WordInstr = Load 4 1 Byte ∷ Store 0 4 Byte ∷ Sum 0 0 1 ∷ Sum 1 1 1 ∷ Jump 1 ∷ Label 2 ∷ Return 0 ∷ [] in
      let l2 : List WordInstr = Label 2 ∷ Return 0 ∷ [] in
      let l3 : List WordInstr = Return 0 ∷ [] in
      let over : holds test.Equal source end ≡ true = eq-eqb source end (omega (arith, far)) in
      let r1 : Runs live procs 1 (state_at c m byte_lines v no_words) (state_at c m k2 v no_words) = run_label live procs c m k2 v no_words 1 in
      let r2 : Runs live procs 1 (state_at c m k2 v no_words) (state_at c m l2 v no_words)
      = run_off live procs c m k3 v no_words test.Equal 1 3 2 l2 e1 e3 over refl in
      let r3 : Runs live procs 1 (state_at c m l2 v no_words) (state_at c m l3 v no_words) = run_label live procs c m l3 v no_words 2 in
      let r4 : Runs live procs 1 (state_at c m l3 v no_words) (goes_on s to target rest m s.input) =
      returns live procs s to rest move_proc refl m v 0 target e0 in
      record {
        other = m;
        sized = sized;
        rewritten = record { sizes = sizes_same m; beside = λ b k apart. refl };
        there = refl;
        word = target;
        count = 4;
        few = omega arith;
        runs = then_runs live procs r1 (then_runs live procs r2 (then_runs live procs r3 r4));
      }
  byte_moves (a ∷ bytes) m target source end v sized are here may apart e0 e1 e3 far =
      let is : IsPiece Byte (a ∷ []) = byte_piece a are.0 in
      let tw : target % 1 ≡ 0 = omega arith in
      let sw : source % 1 ≡ 0 = omega arith in
      let small = ends_small law m sized Byte target source (a ∷ []) bytes is here may apart tw sw in
      let s0 = small.0 in
      let s1 = small.1 in
      let k2 : List WordInstr = Branch test.Equal 1 3 2 ∷ Load 4 1 Byte ∷ Store 0 4 Byte ∷ Sum 0 0 1 ∷ Sum 1 1 1 ∷ Jump 1 ∷ Label 2 ∷ Return 0 ∷ [] in
      let k3 : List WordInstr = Load 4 1 Byte ∷ Store 0 4 Byte ∷ Sum 0 0 1 ∷ Sum 1 1 1 ∷ Jump 1 ∷ Label 2 ∷ Return 0 ∷ [] in
      let k4 : List WordInstr = Store 0 4 Byte ∷ Sum 0 0 1 ∷ Sum 1 1 1 ∷ Jump 1 ∷ Label 2 ∷ Return 0 ∷ [] in
      let k5 : List WordInstr = Sum 0 0 1 ∷ Sum 1 1 1 ∷ Jump 1 ∷ Label 2 ∷ Return 0 ∷ [] in
      let k6 : List WordInstr = Sum 1 1 1 ∷ Jump 1 ∷ Label 2 ∷ Return 0 ∷ [] in
      let k7 : List WordInstr = Jump 1 ∷ Label 2 ∷ Return 0 ∷ [] in
      let w : ℕ = a + 256 * 0 in
      let m1 : Memory = with_number m target Byte w in
      let v1 : Vars = put v 4 w in
      let v2 : Vars = put v1 0 (target + 1) in
      let v3 : Vars = put v2 1 (source + 1) in
      let more : holds test.Equal source end ≡ ◌==◌ source end = refl in
      let no_end : holds test.Equal source end ≡ false = ne_eqb source end (λ e. absurd (omega (arith, e, far))) in
      let r1 : Runs live procs 1 (state_at c m byte_lines v no_words) (state_at c m k2 v no_words) = run_label live procs c m k2 v no_words 1 in
      let r2 : Runs live procs 1 (state_at c m k2 v no_words) (state_at c m k3 v no_words) =
      run_past live procs c m k3 v no_words test.Equal 1 3 2 e1 e3 no_end in
      let r3 : Runs live procs 1 (state_at c m k3 v no_words) (state_at c m k4 v1 no_words)
      = run_load live procs c m k4 v no_words 4 1 Byte e1 (piece_read law m sized Byte target source (a ∷ []) bytes is here may apart tw sw) in
      let r4 : Runs live procs 1 (state_at c m k4 v1 no_words) (state_at c m1 k5 v1 no_words)
      = run_store live procs c m k5 v1 no_words 0 4 Byte e0 (got w is.2) (piece_may law m sized Byte target source (a ∷ []) bytes is here may apart tw sw) in
      let r5 : Runs live procs 1 (state_at c m1 k5 v1 no_words) (state_at c m1 k6 v2 no_words) = run_sum live procs c m1 k6 v1 no_words 0 0 1 e0 in
      let r6 : Runs live procs 1 (state_at c m1 k6 v2 no_words) (state_at c m1 k7 v3 no_words) = run_sum live procs c m1 k7 v2 no_words 1 1 1 e1 in
      let r7 : Runs live procs 1 (state_at c m1 k7 v3 no_words) (state_at c m1 byte_lines v3 no_words)
      = run_jump live procs c m1 (Label 2 ∷ Return 0 ∷ []) v3 no_words 1 byte_lines refl in
      let x = byte_moves bytes m1 (target + 1) (source + 1) end v3 (piece_sized law m sized Byte target source (a ∷ []) bytes is here may apart tw sw) are.1
      (rest_here law m sized Byte target source (a ∷ []) bytes is here may apart tw sw)
      (rest_may law m sized Byte target source (a ∷ []) bytes is here may apart tw sw)
      (rest_apart law m sized Byte target source (a ∷ []) bytes is here may apart tw sw) (got (target + 1) (omega (arith, s0)))
      (got (source + 1) (omega (arith, s1))) e3 (omega (arith, far)) in
      let few = x.few in
      record {
        other = x.other;
        sized = x.sized;
        rewritten = all_rewritten law m sized Byte target source (a ∷ []) bytes is here may apart tw sw x.other x.rewritten x.there x.sized;
        there = all_there law m sized Byte target source (a ∷ []) bytes is here may apart tw sw x.other x.rewritten x.there x.sized;
        word = x.word;
        count = 7 + x.count;
        few = omega (arith, few);
        runs = then_runs live procs (then_runs live procs r1 (then_runs live procs r2 (then_runs live procs r3 (then_runs live procs r4
            (then_runs live procs r5 (then_runs live procs r6 r7)))))) x.runs;
      }

  -- fewer than four bytes are left
  last_bytes : (bytes : List ℕ) (m : Memory) (target source end : ℕ) (v : Vars) → length bytes < 4 → Sized m → AreBytes bytes
      → bytes_at m source (length bytes) ≡ Some bytes → may_fill m target (length bytes) ≡ true
      → Beside target (length bytes) source (length bytes) → v 0 ≡ Some target → v 1 ≡ Some source → v 3 ≡ Some end → v 5 ≡ Some 4
      → end ≡ source + length bytes → end < 2 ^ 32 → Moved m target bytes whole_lines (7 + 7 * length bytes) v
  last_bytes bytes m target source end v short sized are here may apart e0 e1 e3 e5 far small =
      let k2 : List WordInstr = Compute 4 operation.Subtract 3 1 ∷ Branch test.Below 4 5 1 ∷ Load 4 1 Word ∷ Store 0 4 Word ∷ Sum 0 0 4 ∷ Sum 1 1 4 ∷ Jump 0
      ∷ byte_lines in
      let k3 : List WordInstr = Branch test.Below 4 5 1 ∷ Load 4 1 Word ∷ Store 0 4 Word ∷ Sum 0 0 4 ∷ Sum 1 1 4 ∷ Jump 0 ∷ byte_lines in
      let k4 : List WordInstr = Load 4 1 Word ∷ Store 0 4 Word ∷ Sum 0 0 4 ∷ Sum 1 1 4 ∷ Jump 0 ∷ byte_lines in
      let v1 : Vars = put v 4 (computed operation.Subtract end source) in
      let left : v1 4 ≡ Some (length bytes) = ap Some (omega (arith, far, small)) in
      let r1 : Runs live procs 1 (state_at c m whole_lines v no_words) (state_at c m k2 v no_words) = run_label live procs c m k2 v no_words 0 in
      let r2 : Runs live procs 1 (state_at c m k2 v no_words) (state_at c m k3 v1 no_words)
      = run_compute live procs c m k3 v no_words 4 operation.Subtract 3 1 e3 e1 in
      let r3 : Runs live procs 1 (state_at c m k3 v1 no_words) (state_at c m byte_lines v1 no_words)
      = run_off live procs c m k4 v1 no_words test.Below 4 5 1 byte_lines left e5 (lt-ltb (length bytes) 4 short) refl in
      let x = byte_moves bytes m target source end v1 sized are here may apart e0 e1 e3 far in
      let few = x.few in
      record {
        other = x.other;
        sized = x.sized;
        rewritten = x.rewritten;
        there = x.there;
        word = x.word;
        count = 3 + x.count;
        few = omega (arith, few);
        runs = then_runs live procs (then_runs live procs r1 (then_runs live procs r2 r3)) x.runs;
      }

  whole_moves : (bytes : List ℕ) (m : Memory) (target source end : ℕ) (v : Vars) → Sized m → AreBytes bytes
      → bytes_at m source (length bytes) ≡ Some bytes → may_fill m target (length bytes) ≡ true
      → Beside target (length bytes) source (length bytes) → v 0 ≡ Some target → v 1 ≡ Some source → v 3 ≡ Some end → v 5 ≡ Some 4
      → end ≡ source + length bytes → end < 2 ^ 32 → target % 4 ≡ 0 → source % 4 ≡ 0 → Moved m target bytes whole_lines (7 + 7 * length bytes) v
  whole_moves [] m target source end v sized are here may apart e0 e1 e3 e5 far small tw sw =
      last_bytes [] m target source end v (omega arith) sized are here may apart e0 e1 e3 e5 far small
  whole_moves (a ∷ []) m target source end v sized are here may apart e0 e1 e3 e5 far small tw sw =
      last_bytes (a ∷ []) m target source end v (omega arith) sized are here may apart e0 e1 e3 e5 far small
  whole_moves (a ∷ b ∷ []) m target source end v sized are here may apart e0 e1 e3 e5 far small tw sw =
      last_bytes (a ∷ b ∷ []) m target source end v (omega arith) sized are here may apart e0 e1 e3 e5 far small
  whole_moves (a ∷ b ∷ d ∷ []) m target source end v sized are here may apart e0 e1 e3 e5 far small tw sw =
      last_bytes (a ∷ b ∷ d ∷ []) m target source end v (omega arith) sized are here may apart e0 e1 e3 e5 far small
  whole_moves (a ∷ b ∷ d ∷ e ∷ bytes) m target source end v sized are here may apart e0 e1 e3 e5 far small tw sw =
      let piece : List ℕ = a ∷ b ∷ d ∷ e ∷ [] in
      let is : IsPiece Word piece = word_piece a b d e are.0 are.1.0 are.1.1.0 are.1.1.1.0 in
      let ends = ends_small law m sized Word target source piece bytes is here may apart tw sw in
      let s0 = ends.0 in
      let s1 = ends.1 in
      let k2 : List WordInstr = Compute 4 operation.Subtract 3 1 ∷ Branch test.Below 4 5 1 ∷ Load 4 1 Word ∷ Store 0 4 Word ∷ Sum 0 0 4 ∷ Sum 1 1 4 ∷ Jump 0
      ∷ byte_lines in
      let k3 : List WordInstr = Branch test.Below 4 5 1 ∷ Load 4 1 Word ∷ Store 0 4 Word ∷ Sum 0 0 4 ∷ Sum 1 1 4 ∷ Jump 0 ∷ byte_lines in
      let k4 : List WordInstr = Load 4 1 Word ∷ Store 0 4 Word ∷ Sum 0 0 4 ∷ Sum 1 1 4 ∷ Jump 0 ∷ byte_lines in
      let k5 : List WordInstr = Store 0 4 Word ∷ Sum 0 0 4 ∷ Sum 1 1 4 ∷ Jump 0 ∷ byte_lines in
      let k6 : List WordInstr = Sum 0 0 4 ∷ Sum 1 1 4 ∷ Jump 0 ∷ byte_lines in
      let k7 : List WordInstr = Sum 1 1 4 ∷ Jump 0 ∷ byte_lines in
      let k8 : List WordInstr = Jump 0 ∷ byte_lines in
      let w : ℕ = a + 256 * (b + 256 * (d + 256 * (e + 256 * 0))) in
      let m1 : Memory = with_number m target Word w in
      let v1 : Vars = put v 4 (computed operation.Subtract end source) in
      let v2 : Vars = put v1 4 w in
      let v3 : Vars = put v2 0 (target + 4) in
      let v4 : Vars = put v3 1 (source + 4) in
      let left : v1 4 ≡ Some (end - source) = ap Some (omega (arith, far, small)) in
      let r1 : Runs live procs 1 (state_at c m whole_lines v no_words) (state_at c m k2 v no_words) = run_label live procs c m k2 v no_words 0 in
      let r2 : Runs live procs 1 (state_at c m k2 v no_words) (state_at c m k3 v1 no_words)
      = run_compute live procs c m k3 v no_words 4 operation.Subtract 3 1 e3 e1 in
      let r3 : Runs live procs 1 (state_at c m k3 v1 no_words) (state_at c m k4 v1 no_words)
      = run_past live procs c m k4 v1 no_words test.Below 4 5 1 left e5 (le-ltb (end - source) 4 (omega (arith, far))) in
      let r4 : Runs live procs 1 (state_at c m k4 v1 no_words) (state_at c m k5 v2 no_words)
      = run_load live procs c m k5 v1 no_words 4 1 Word e1 (piece_read law m sized Word target source piece bytes is here may apart tw sw) in
      let r5 : Runs live procs 1 (state_at c m k5 v2 no_words) (state_at c m1 k6 v2 no_words)
      = run_store live procs c m k6 v2 no_words 0 4 Word e0 (got w is.2) (piece_may law m sized Word target source piece bytes is here may apart tw sw) in
      let r6 : Runs live procs 1 (state_at c m1 k6 v2 no_words) (state_at c m1 k7 v3 no_words) = run_sum live procs c m1 k7 v2 no_words 0 0 4 e0 in
      let r7 : Runs live procs 1 (state_at c m1 k7 v3 no_words) (state_at c m1 k8 v4 no_words) = run_sum live procs c m1 k8 v3 no_words 1 1 4 e1 in
      let r8 : Runs live procs 1 (state_at c m1 k8 v4 no_words) (state_at c m1 whole_lines v4 no_words)
      = run_jump live procs c m1 byte_lines v4 no_words 0 whole_lines refl in
      let x = whole_moves bytes m1 (target + 4) (source + 4) end v4 (piece_sized law m sized Word target source piece bytes is here may apart tw sw)
      are.1.1.1.1 (rest_here law m sized Word target source piece bytes is here may apart tw sw)
      (rest_may law m sized Word target source piece bytes is here may apart tw sw)
      (rest_apart law m sized Word target source piece bytes is here may apart tw sw) (got (target + 4) (omega (arith, s0)))
      (got (source + 4) (omega (arith, s1))) e3 e5 (omega (arith, far)) small (omega (arith, tw)) (omega (arith, sw)) in
      let few = x.few in
      record {
        other = x.other;
        sized = x.sized;
        rewritten = all_rewritten law m sized Word target source piece bytes is here may apart tw sw x.other x.rewritten x.there x.sized;
        there = all_there law m sized Word target source piece bytes is here may apart tw sw x.other x.rewritten x.there x.sized;
        word = x.word;
        count = 8 + x.count;
        few = omega (arith, few);
        runs = then_runs live procs (then_runs live procs r1 (then_runs live procs r2 (then_runs live procs r3 (then_runs live procs r4
            (then_runs live procs r5 (then_runs live procs r6 (then_runs live procs r7 r8))))))) x.runs;
      }

  -- ---- all its lines

  -- behind some lines
  moved_behind : (m : Memory) (target : ℕ) (bytes : List ℕ) (lines behind : List WordInstr) (k most all : ℕ) (v w : Vars)
      → Runs live procs k (state_at c m lines v no_words) (state_at c m behind w no_words) → k + most ≤ all → Moved m target bytes behind most w
      → Moved m target bytes lines all v
  moved_behind m target bytes lines behind k most all v w front within x =
      let few = x.few in
      record {
        other = x.other;
        sized = x.sized;
        rewritten = x.rewritten;
        there = x.there;
        word = x.word;
        count = k + x.count;
        few = omega (arith, few, within);
        runs = then_runs live procs front x.runs;
      }

  module _ (m : Memory) (u : Copying) (v : Vars) (sized : Sized m) (may : MayCopy u m) (e0 : v 0 ≡ Some u.to) (e1 : v 1 ≡ Some u.from)
      (e2 : v 2 ≡ Some (length u.bytes)) where
    abbrev end : ℕ
    end = u.from + length u.bytes

    small : end < 2 ^ 32
    small = range_small m sized u.from u.bytes may.from_word may.here

    abbrev v1 : Vars
    v1 = put v 3 (computed operation.Add u.from (length u.bytes))

    abbrev v2 : Vars
    v2 = put v1 5 4

    abbrev v3 : Vars
    v3 = put v2 6 0

    abbrev v4 : Vars
    v4 = put v3 4 (computed operation.RemainderUnsigned u.to 4)

    abbrev v5 : Vars
    v5 = put v4 4 (computed operation.RemainderUnsigned u.from 4)

    e3 : v1 3 ≡ Some end
    e3 = got_sum u.from (length u.bytes) small

    abbrev k7 : List WordInstr
    k7 = Branch test.Unequal 4 6 1 ∷ whole_lines

    abbrev k6 : List WordInstr
    k6 = Compute 4 operation.RemainderUnsigned 1 5 ∷ k7

    abbrev k5 : List WordInstr
    k5 = Branch test.Unequal 4 6 1 ∷ k6

    to_test : Runs live procs 4 (state_at c m move_lines v no_words) (state_at c m k5 v4 no_words)
    to_test =
        let k2 : List WordInstr = Constant 5 4 ∷ Constant 6 0 ∷ Compute 4 operation.RemainderUnsigned 0 5 ∷ k5 in
        let k3 : List WordInstr = Constant 6 0 ∷ Compute 4 operation.RemainderUnsigned 0 5 ∷ k5 in
        let k4 : List WordInstr = Compute 4 operation.RemainderUnsigned 0 5 ∷ k5 in
        let r1 : Runs live procs 1 (state_at c m move_lines v no_words) (state_at c m k2 v1 no_words) =
        run_compute live procs c m k2 v no_words 3 operation.Add 1 2 e1 e2 in
        let r2 : Runs live procs 1 (state_at c m k2 v1 no_words) (state_at c m k3 v2 no_words) = run_constant live procs c m k3 v1 no_words 5 4 in
        let r3 : Runs live procs 1 (state_at c m k3 v2 no_words) (state_at c m k4 v3 no_words) = run_constant live procs c m k4 v2 no_words 6 0 in
        let r4 : Runs live procs 1 (state_at c m k4 v3 no_words) (state_at c m k5 v4 no_words)
        = run_compute live procs c m k5 v3 no_words 4 operation.RemainderUnsigned 0 5 e0 refl in
        then_runs live procs r1 (then_runs live procs r2 (then_runs live procs r3 r4))

    to_rest : v4 4 ≡ Some (u.to % 4)
    to_rest = ap Some (omega arith)

    from_rest : v5 4 ≡ Some (u.from % 4)
    from_rest = ap Some (omega arith)

    abbrev All : Type 0
    All = Moved m u.to u.bytes move_lines (14 + 7 * length u.bytes) v

    bytes_only : (u.to % 4 ≡ 0 → ⊥) → All
    bytes_only no_word =
        let far : holds test.Unequal (u.to % 4) 0 ≡ true = ap not (ne_eqb (u.to % 4) 0 no_word) in
        moved_behind m u.to u.bytes move_lines byte_lines 5 (4 + 7 * length u.bytes) (14 + 7 * length u.bytes) v v4
        (then_runs live procs to_test (run_off live procs c m k6 v4 no_words test.Unequal 4 6 1 byte_lines to_rest refl far refl)) (omega arith)
        (byte_moves u.bytes m u.to u.from end v4 sized may.are may.here may.may may.apart e0 e1 e3 refl)

    to_second : u.to % 4 ≡ 0 → Runs live procs 6 (state_at c m move_lines v no_words) (state_at c m k7 v5 no_words)
    to_second whole =
        let past : holds test.Unequal (u.to % 4) 0 ≡ false = ap not (eq-eqb (u.to % 4) 0 whole) in
        then_runs live procs to_test (then_runs live procs (run_past live procs c m k6 v4 no_words test.Unequal 4 6 1 to_rest refl past)
        (run_compute live procs c m k7 v4 no_words 4 operation.RemainderUnsigned 1 5 e1 refl))

    bytes_then : u.to % 4 ≡ 0 → (u.from % 4 ≡ 0 → ⊥) → All
    bytes_then whole no_word =
        let far : holds test.Unequal (u.from % 4) 0 ≡ true = ap not (ne_eqb (u.from % 4) 0 no_word) in
        moved_behind m u.to u.bytes move_lines byte_lines 7 (4 + 7 * length u.bytes) (14 + 7 * length u.bytes) v v5
        (then_runs live procs (to_second whole) (run_off live procs c m whole_lines v5 no_words test.Unequal 4 6 1 byte_lines from_rest refl far refl))
        (omega arith) (byte_moves u.bytes m u.to u.from end v5 sized may.are may.here may.may may.apart e0 e1 e3 refl)

    words_then : u.to % 4 ≡ 0 → u.from % 4 ≡ 0 → All
    words_then whole from_whole =
        let past : holds test.Unequal (u.from % 4) 0 ≡ false = ap not (eq-eqb (u.from % 4) 0 from_whole) in
        moved_behind m u.to u.bytes move_lines whole_lines 7 (7 + 7 * length u.bytes) (14 + 7 * length u.bytes) v v5
        (then_runs live procs (to_second whole) (run_past live procs c m whole_lines v5 no_words test.Unequal 4 6 1 from_rest refl past)) (omega arith)
        (whole_moves u.bytes m u.to u.from end v5 sized may.are may.here may.may may.apart e0 e1 e3 refl refl small whole from_whole)

    pub all_moved : All
    all_moved = ⊎_elim (λ whole. ⊎_elim (words_then whole) (bytes_then whole) (cases_eq (u.from % 4) 0)) bytes_only (cases_eq (u.to % 4) 0)

module _ (law : MemoryLaw) (live : Lives) (procs : List WordProc) (n : ℕ) (others : List WordProc) where
  pub move_kept : from_proc MOVE procs ≡ later n MOVE 3 7 move_lines ∷ others → IsKeptThere live procs moves_bytes
  move_kept stands u s to rest calling sized may =
      let v : Vars = params_of (move_proc law live procs n s to rest) s.frame.given in
      let called = enters live procs s to rest n MOVE 3 7 move_lines others stands in
      let x = all_moved law live procs n s to rest s.memory u v sized may calling.given.0 calling.given.1.0 calling.given.1.1.0 in
      let few = x.few in
      record {
        memory = x.other;
        word = x.word;
        leaves = record { rewritten = x.rewritten; there = x.there };
        gives = tt;
        lines = 1 + x.count;
        few = omega (arith, few);
        steps = (from_call live procs s to rest MOVE [] _ _ _ calling.next (then_runs live procs called x.runs)).by;
      }
