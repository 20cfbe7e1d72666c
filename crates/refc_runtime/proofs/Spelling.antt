-- How a number is spelled: its characters come to the end of 12 bytes, from the last one on.
use Rattle.std.proofs.Common.{◌≡◌, ℕ, suc, ◌+◌, ◌-◌, ◌*◌, ◌/◌, ◌%◌, ◌^◌, ◌<◌, ◌≤◌, inr, ℤ, pos, negsuc, FitsSigned, w32, List, []}
use Rattle.std.proofs.Common.{◌∷◌, ◌++◌, length, Some, true, false, not, refl, sym, ap, subst, ◌∙◌, arith}
use Rattle.std.proofs.Common.{append_assoc, length-append}
use Rattle.std.specs.Prelude.{Bool, ◌==◌, nat_lt, unsigned_abs}
use Rattle.std.specs.Int.{cast_unsigned}
use Rattle.std.specs.Fmt.{decimal, signed_decimal}
use Rattle.std.proofs.lemmas.Fmt.{decimal_by_steps, length-decimal-le}
use Rattle.std.proofs.lemmas.Bool.{and_from, eq-eqb, ne_eqb, lt-ltb, le-ltb, ltb-true, ltb-false}
use Rattle.std.proofs.lemmas.Int.{of_z-to_z}
use Rattle.rv32_isa.specs.Machine.{Lives}
use Rattle.rv32_isa.specs.Values.{signed, subtracted, quotient, remainder}
use Rattle.rv32_isa.specs.State.{writable}
use Rattle.rv32_isa.specs.declared.micro_op.Size.TheVariants.{Byte}
use Rattle.word_code.specs.declared.routine.TheConstants.{SCRATCH_BYTES}
use Rattle.word_code.specs.declared.word.WordOperation.TheVariants.{Subtract, DivideUnsigned, RemainderUnsigned}
use Rattle.word_code.specs.declared.word.Test.TheVariants as test
use Rattle.word_code.specs.declared.word.WordInstr.{WordInstr}
use Rattle.word_code.specs.declared.word.WordInstr.TheVariants.{Constant, Copy, Sum, Compute, Store, Jump, Branch}
use Rattle.word_code.specs.declared.word.WordProc.{WordProc}
use Rattle.word_code.specs.Memory.{Memory, as_state, bytes_at, may_put, may_fill, with_number}
use Rattle.word_code.specs.Words.{Vars, no_words, put, from_label, WordState}
use Rattle.word_code.specs.RoutineTable.{IsRewritten}
use Rattle.word_code.proofs.ForCallers.{MemoryLaw, Sized, sizes_same, sizes_more, store_rewritten, store_sized, store_here}
use Rattle.word_code.proofs.ForCallers.{Runs, then_runs, Within, at, run_label, run_constant, run_copy, run_sum, run_compute, run_store}
use Rattle.word_code.proofs.ForCallers.{run_past, run_off, run_jump, got}
use Rattle.refc_runtime.specs.declared.routines.TheConstants.{ONE_LESS}
use Rattle.heap_memory.proofs.ForCallers.{InRegion, written_in, part_written, byte_before}
use Rattle.refc_runtime.proofs.SignedWords.{negative_word, pos_sign, negative_sign, word_fits, magnitude}
use Rattle.refc_runtime.proofs.NumberLines.{last_lines, put_lines, sign_lines, again_lines, digit_lines, more_lines, long_lines, front_lines}
use Rattle.refc_runtime.proofs.NumberTexts.{signed_text, sign_steps, front_steps, number_text, itself, long_is, number_length}
use Rattle.refc_runtime.proofs.NumberTexts.{short_text, one_byte, narrow}

-- what comes behind the text, and the labels in front of it
module _ (law : MemoryLaw) (live : Lives) (procs : List WordProc) (c : Within) (ending : List WordInstr) (start : Memory) (sized : Sized start) (own : ℕ)
    (may : may_fill start own SCRATCH_BYTES ≡ true) (more_at : from_label 0 c.proc.lines ≡ Some (more_lines ending))
    (digits_at : from_label 1 c.proc.lines ≡ Some (digit_lines ending)) (last_at : from_label 2 c.proc.lines ≡ Some (last_lines ending))
  where
    abbrev here : Memory → List WordInstr → Vars → WordState
    here m lines v = at c m lines v no_words

    abbrev to_last : List WordInstr
    to_last = last_lines ending

    abbrev to_sign : List WordInstr
    to_sign = sign_lines ending

    abbrev to_again : List WordInstr
    to_again = again_lines ending

    abbrev to_digit : List WordInstr
    to_digit = digit_lines ending

    abbrev to_more : List WordInstr
    to_more = more_lines ending

    abbrev to_long : List WordInstr
    to_long = long_lines ending

    room : InRegion start sized own SCRATCH_BYTES
    room = written_in start sized own SCRATCH_BYTES (omega arith) may

    low : own + 12 < 2 ^ 32
    low = let ends = room.region.ends in let high = room.high in omega (arith, ends, high)

    -- what variables hold: the word of the number, what is left of it, and where the next character goes
    record Held (v : Vars) (x k i : ℕ) : Type 0 where
      zero_is : v 0 ≡ Some x
      one_is : v 1 ≡ Some k
      two_is : v 2 ≡ Some (own + i)
      four_is : v 4 ≡ Some 0
      five_is : v 5 ≡ Some 10

    -- a text that ends where the digits do; all else is as it was
    pub record Shown (i : ℕ) (text : List ℕ) (m : Memory) : Type 0 where
      pub regions : Sized m
      pub rewritten : IsRewritten start m own SCRATCH_BYTES
      pub ends : i + length text ≡ 12
      pub bytes : bytes_at m (own + i) (length text) ≡ Some text

    empty : Shown 12 [] start
    empty = record { regions = sized; rewritten = record { sizes = sizes_same start; beside = λ b k apart. refl }; ends = refl; bytes = refl }

    -- a part of the room may be written still
    room_still : (i k : ℕ) (m : Memory) → i + k ≤ 12 → IsRewritten start m own SCRATCH_BYTES → writable (as_state m) (own + i) k ≡ true
    room_still i k m within same =
        law.stores (as_state start) (as_state m) (own + i) k same.sizes ∙ part_written start sized own SCRATCH_BYTES room i k within

    -- ---- a byte in front

    -- a byte is put at the address in x2
    record Stored (lines : List WordInstr) (at b : ℕ) (text : List ℕ) (m : Memory) (v : Vars) : Type 0 where
      memory : Memory
      shown : Shown at (b ∷ text) memory
      runs : Runs live procs 1 (here m (Store 2 6 Byte ∷ lines) v) (here memory lines v)

    stores : (lines : List WordInstr) (j b : ℕ) (text : List ℕ) (m : Memory) (v : Vars) → v 2 ≡ Some (own + j) → v 6 ≡ Some b
        → b < 256 → Shown (suc j) text m → Stored lines j b text m v
    stores lines j b text m v there e6 small h =
        let ends = h.ends in
        let even : ((own + j) % 1 == 0) ≡ true = eq-eqb ((own + j) % 1) 0 (omega arith) in
        let open_byte : may_put m (own + j) Byte ≡ true = and_from ((own + j) % 1 == 0) (writable (as_state m) (own + j) 1) even
        (room_still j 1 m (omega (arith, ends)) h.rewritten) in
        let other : Memory = with_number m (own + j) Byte b in
        let stored : IsRewritten m other (own + j) 1 = store_rewritten law m (own + j) Byte b h.regions open_byte in
        let regions : Sized other = store_sized law m (own + j) Byte b h.regions open_byte in
        let same : IsRewritten start other own SCRATCH_BYTES = record {
          sizes = sizes_more start m other h.rewritten.sizes stored.sizes;
          beside = λ a k apart. stored.beside a k (narrow own a k j (omega (arith, ends)) apart) ∙ h.rewritten.beside a k apart;
        } in
        let one : bytes_at other (own + j) 1 ≡ Some (b ∷ [])
        = store_here law m (own + j) Byte b h.regions open_byte ∙ ap Some (one_byte b small) in
        let behind : own + j + 1 ≡ own + suc j = omega arith in
        let text_there : bytes_at other (own + j + 1) (length text) ≡ Some text
        = stored.beside (own + j + 1) (length text) (inr (omega arith)) ∙ ap (λ a. bytes_at m a (length text)) behind ∙ h.bytes in
        let in_room : InRegion other regions (own + j) (suc (length text))
        = written_in other regions (own + j) (suc (length text)) (omega arith) (room_still j (suc (length text)) other (omega (arith, ends)) same) in
        record {
          memory = other;
          shown = record {
            regions = regions;
            rewritten = same;
            ends = omega (arith, ends);
            bytes = byte_before other regions (own + j) (length text) b text in_room one text_there;
          };
          runs = run_store live procs c m lines v no_words 2 6 Byte there e6 open_byte;
        }

    -- a byte is put at the address in x2, which goes back by one
    record Put (lines : List WordInstr) (i b : ℕ) (text : List ℕ) (m : Memory) (v : Vars) : Type 0 where
      memory : Memory
      at : ℕ
      address : put v 2 (own + i + ONE_LESS) 2 ≡ Some (own + at)
      shown : Shown (suc at) (b ∷ text) memory
      runs : Runs live procs 2 (here m (put_lines lines) v) (here memory lines (put v 2 (own + i + ONE_LESS)))

    puts : (lines : List WordInstr) (i b : ℕ) (text : List ℕ) (m : Memory) (v : Vars) → 1 ≤ i → v 2 ≡ Some (own + i) → v 6 ≡ Some b
        → b < 256 → Shown (suc i) text m → Put lines i b text m v
    puts lines i b text m v some e2 e6 small h =
        let j : ℕ = i - 1 in
        let ends = h.ends in
        let limit = low in
        let next : i ≡ suc j = omega (arith, some) in
        let back : (own + i + ONE_LESS) % 2 ^ 32 ≡ own + j = omega (arith, ends, some, limit) in
        let t = stores (Sum 2 2 ONE_LESS ∷ lines) i b text m v e2 e6 small h in
        record {
          memory = t.memory;
          at = j;
          address = ap Some back;
          shown = subst (λ n. Shown n (b ∷ text) t.memory) next t.shown;
          runs = then_runs live procs t.runs (run_sum live procs c t.memory lines v no_words 2 2 ONE_LESS e2);
        }

    -- ---- the digits

    -- the last digit of what is left
    record Turned (x k i : ℕ) (m : Memory) (v : Vars) : Type 0 where
      vars : Vars
      held : Held vars x (k / 10) i
      char_is : vars 6 ≡ Some (48 + k % 10)
      runs : Runs live procs 4 (here m to_digit v) (here m to_again vars)

    turns : (x k i : ℕ) (m : Memory) (v : Vars) → k < 2 ^ 32 → Held v x k i → Turned x k i m v
    turns x k i m v small h =
        let v1 : Vars = put v 6 (remainder k 10) in
        let v2 : Vars = put v1 6 (k % 10 + 48) in
        let v3 : Vars = put v2 1 (quotient k 10) in
        let is : (k % 10 + 48) % 2 ^ 32 ≡ 48 + k % 10 = omega arith in
        let l3 : List WordInstr = Compute 1 DivideUnsigned 1 5 ∷ to_again in
        let l2 : List WordInstr = Sum 6 6 48 ∷ l3 in
        let l1 : List WordInstr = Compute 6 RemainderUnsigned 1 5 ∷ l2 in
        let r0 = run_label live procs c m l1 v no_words 1 in
        let r1 = run_compute live procs c m l2 v no_words 6 RemainderUnsigned 1 5 h.one_is h.five_is in
        let r2 = run_sum live procs c m l3 v1 no_words 6 6 48 (got (k % 10) (omega arith)) in
        let r3 = run_compute live procs c m to_again v2 no_words 1 DivideUnsigned 1 5 h.one_is h.five_is in
        record {
          vars = v3;
          held = record {
            zero_is = h.zero_is;
            one_is = got (k / 10) (omega arith);
            two_is = h.two_is;
            four_is = h.four_is;
            five_is = h.five_is;
          };
          char_is = ap Some is;
          runs = then_runs live procs (then_runs live procs r0 r1) (then_runs live procs r2 r3);
        }

    -- a text whose start character is in x6, and is to go to the address in x2
    record Begins (text : List ℕ) (m : Memory) (v : Vars) : Type 0 where
      at : ℕ
      char : ℕ
      behind : List ℕ
      whole : char ∷ behind ≡ text
      small : char < 256
      two_is : v 2 ≡ Some (own + at)
      char_is : v 6 ≡ Some char
      shown : Shown (suc at) behind m

    -- a text in front, and nothing left
    record Spelt (digits : ℕ) (x : ℕ) (text : List ℕ) (m : Memory) (v : Vars) : Type 0 where
      memory : Memory
      vars : Vars
      zero_is : vars 0 ≡ Some x
      four_is : vars 4 ≡ Some 0
      begins : Begins text memory vars
      lines : ℕ
      count : lines + 3 ≡ 8 * digits
      runs : Runs live procs lines (here m to_digit v) (here memory to_sign vars)

    module _ (x : ℕ) where
      abbrev Spelled : ℕ → List ℕ → Type 0
      Spelled k digits = (i : ℕ) (text : List ℕ) (m : Memory) (v : Vars) → k < 2 ^ 32 → length digits + length text < 12 → Held v x k i
          → Shown (suc i) text m → Spelt (length digits) x (digits ++ text) m v

      last : (k : ℕ) → k < 10 → Spelled k ((48 + k) ∷ [])
      last k less i text m v small short h sh =
          let t = turns x k i m v small h in
          let none : k / 10 ≡ 0 = omega arith in
          let same : 48 + k % 10 ≡ 48 + k = omega arith in
          let over_now : not (k / 10 == 0) ≡ false = ap not (eq-eqb (k / 10) 0 none) in
          let r = run_past live procs c m to_sign t.vars no_words test.Unequal 1 4 0 t.held.one_is t.held.four_is over_now in
          record {
            memory = m;
            vars = t.vars;
            zero_is = t.held.zero_is;
            four_is = t.held.four_is;
            begins = record {
              at = i;
              char = 48 + k;
              behind = text;
              whole = refl;
              small = omega (arith, less);
              two_is = t.held.two_is;
              char_is = t.char_is ∙ ap Some same;
              shown = sh;
            };
            lines = 5;
            count = refl;
            runs = then_runs live procs t.runs r;
          }

      more : (k : ℕ) (digits : List ℕ) → 10 ≤ k → Spelled (k / 10) digits → Spelled k (digits ++ (48 + k % 10) ∷ [])
      more k digits large spelled i text m v small short h sh =
          let d : ℕ = 48 + k % 10 in
          let ends = sh.ends in
          let count : length (digits ++ d ∷ []) ≡ length digits + 1 = length-append digits (d ∷ []) in
          let t = turns x k i m v small h in
          let again : not (k / 10 == 0) ≡ true = ap not (ne_eqb (k / 10) 0 (λ e. omega (arith, large, e))) in
          let r = run_off live procs c m to_sign t.vars no_words test.Unequal 1 4 0 to_more t.held.one_is t.held.four_is again more_at in
          let r0 = run_label live procs c m (put_lines to_digit) t.vars no_words 0 in
          let p = puts to_digit i d text m t.vars (omega (arith, ends, short, count)) t.held.two_is t.char_is (omega arith) sh in
          let held : Held (put t.vars 2 (own + i + ONE_LESS)) x (k / 10) p.at = record {
            zero_is = t.held.zero_is;
            one_is = t.held.one_is;
            two_is = p.address;
            four_is = t.held.four_is;
            five_is = t.held.five_is;
          } in
          let q = spelled p.at (d ∷ text) p.memory (put t.vars 2 (own + i + ONE_LESS)) (omega (arith, small)) (omega (arith, short, count)) held p.shown in
          let before = q.count in
          record {
            memory = q.memory;
            vars = q.vars;
            zero_is = q.zero_is;
            four_is = q.four_is;
            begins = subst (λ l. Begins l q.memory q.vars) (sym (append_assoc digits (d ∷ []) text)) q.begins;
            lines = 8 + q.lines;
            count = omega (arith, before, count);
            runs = then_runs live procs (then_runs live procs (then_runs live procs t.runs r) (then_runs live procs r0 p.runs)) q.runs;
          }

      spells : (k : ℕ) → k < 2 ^ 32 → Spelled k (decimal k)
      spells k small = decimal_by_steps Spelled last more k (omega (arith, small))

    -- ---- the sign

    record Signed (lines : ℕ) (text : List ℕ) (m : Memory) (v : Vars) : Type 0 where
      memory : Memory
      vars : Vars
      begins : Begins text memory vars
      runs : Runs live procs lines (here m to_sign v) (here memory to_last vars)

    signs : (x : ℕ) (z : ℤ) → signed x ≡ z → (text : List ℕ) (m : Memory) (v : Vars) → length text < 12 → v 0 ≡ Some x → v 4 ≡ Some 0
        → Begins text m v → Signed (sign_steps z) (signed_text z text) m v
    signs x (pos k) e text m v short e0 e4 b = record {
      memory = m;
      vars = v;
      begins = b;
      runs = run_off live procs c m (put_lines (Constant 6 45 ∷ to_last)) v no_words test.AtLeast 0 4 2 to_last e0 e4 (ap not (pos_sign k x e)) last_at;
    }
    signs x (negsuc k) e text m v short e0 e4 b =
        let ends = b.shown.ends in
        let long : suc (length b.behind) ≡ length text = ap length b.whole in
        let l : List WordInstr = Constant 6 45 ∷ to_last in
        let r = run_past live procs c m (put_lines l) v no_words test.AtLeast 0 4 2 e0 e4 (ap not (negative_sign k x e)) in
        let p = puts l b.at b.char b.behind m v (omega (arith, ends, long, short)) b.two_is b.char_is b.small b.shown in
        let v1 : Vars = put v 2 (own + b.at + ONE_LESS) in
        record {
          memory = p.memory;
          vars = put v1 6 45;
          begins = record {
            at = p.at;
            char = 45;
            behind = b.char ∷ b.behind;
            whole = ap (λ t. 45 ∷ t) b.whole;
            small = omega arith;
            two_is = p.address;
            char_is = refl;
            shown = p.shown;
          };
          runs = then_runs live procs r (then_runs live procs p.runs (run_constant live procs c p.memory to_last v1 no_words 6 45));
        }

    -- ---- the last character

    record Closed (text : List ℕ) (m : Memory) (v : Vars) : Type 0 where
      memory : Memory
      at : ℕ
      two_is : v 2 ≡ Some (own + at)
      shown : Shown at text memory
      runs : Runs live procs 2 (here m to_last v) (here memory ending v)

    closes : (text : List ℕ) (m : Memory) (v : Vars) → Begins text m v → Closed text m v
    closes text m v b =
        let t = stores ending b.at b.char b.behind m v b.two_is b.char_is b.small b.shown in
        record {
          memory = t.memory;
          at = b.at;
          two_is = b.two_is;
          shown = subst (λ l. Shown b.at l t.memory) b.whole t.shown;
          runs = then_runs live procs (run_label live procs c m (Store 2 6 Byte ∷ ending) v no_words 2) t.runs;
        }

    -- ---- the front

    -- what tells a number of one digit
    abbrev told : Vars → ℕ → Vars
    told v x = put (put (put (put v 5 10) 2 (own + 11)) 1 x) 6 (x + 48)

    module _ (second : WordInstr) (v : Vars)
        (sets : (l : List WordInstr) → Runs live procs 1 (here start (second ∷ l) (put v 5 10)) (here start l (put (put v 5 10) 2 (own + 11))))
      where
        abbrev all_lines : List WordInstr
        all_lines = front_lines second ending

        tells : (x : ℕ) → x < 2 ^ 32 → v 0 ≡ Some x → Runs live procs 4 (here start all_lines v) (here start (Branch test.Below 1 5 2 ∷ to_long) (told v x))
        tells x small e0 =
            let u1 : Vars = put v 5 10 in
            let u2 : Vars = put u1 2 (own + 11) in
            let u3 : Vars = put u2 1 x in
            let l4 : List WordInstr = Branch test.Below 1 5 2 ∷ to_long in
            let l3 : List WordInstr = Sum 6 1 48 ∷ l4 in
            let l2 : List WordInstr = Copy 1 0 ∷ l3 in
            let r1 = run_constant live procs c start (second ∷ l2) v no_words 5 10 in
            let r3 = run_copy live procs c start l3 u2 no_words 1 0 e0 in
            let r4 = run_sum live procs c start l4 u3 no_words 6 1 48 (got x small) in
            then_runs live procs (then_runs live procs r1 (sets l2)) (then_runs live procs r3 r4)

        record Begun (x : ℕ) (z : ℤ) : Type 0 where
          vars : Vars
          held : Held vars x (unsigned_abs z) 11
          runs : Runs live procs (front_steps z) (here start all_lines v) (here start to_digit vars)

        -- a number of several
        abbrev begun : Vars → ℕ → Vars
        begun v x = put (told v x) 4 0

        begins : (x : ℕ) (z : ℤ) → x < 2 ^ 32 → 10 ≤ x → signed x ≡ z → v 0 ≡ Some x → Begun x z
        begins x z small large is e0 = by z is
          where
            two_is : begun v x 2 ≡ Some (own + 11)
            two_is = let limit = low in got (own + 11) (omega (arith, limit))

            front : Runs live procs 6 (here start all_lines v)
                (here start (Branch test.AtLeast 1 4 1 ∷ Compute 1 Subtract 4 1 ∷ Jump 1 ∷ to_more) (begun v x))
            front =
                let l : List WordInstr = Branch test.AtLeast 1 4 1 ∷ Compute 1 Subtract 4 1 ∷ Jump 1 ∷ to_more in
                let r5 = run_past live procs c start to_long (told v x) no_words test.Below 1 5 2 (got x small) refl (le-ltb x 10 large) in
                let r6 = run_constant live procs c start l (told v x) no_words 4 0 in
                then_runs live procs (tells x small e0) (then_runs live procs r5 r6)

            by : (z : ℤ) → signed x ≡ z → Begun x z
            by (pos k) e = record {
              vars = begun v x;
              held = record { zero_is = e0; one_is = got x small ∙ ap Some (itself x k small e); two_is = two_is; four_is = refl; five_is = refl };
              runs = then_runs live procs front (run_off live procs c start (Compute 1 Subtract 4 1 ∷ Jump 1 ∷ to_more) (begun v x) no_words test.AtLeast 1 4 1
                  to_digit (got x small) refl (ap not (pos_sign k x e)) digits_at);
            }
            by (negsuc k) e =
                let v1 : Vars = put (begun v x) 1 (subtracted 0 x) in
                let f : FitsSigned w32 (negsuc k) = subst (FitsSigned w32) e (word_fits x small) in
                let most : unsigned_abs (negsuc k) ≤ 2 ^ 31 = magnitude (negsuc k) f in
                let back : subtracted 0 x ≡ suc k = ap (subtracted 0) (sym (of_z-to_z w32 x small) ∙ ap (cast_unsigned w32) e) ∙ negative_word k f in
                let e1 : v1 1 ≡ Some (suc k) = ap (λ a. Some (a % 2 ^ 32)) back ∙ got (suc k) (omega (arith, most)) in
                let r7 = run_past live procs c start (Compute 1 Subtract 4 1 ∷ Jump 1 ∷ to_more) (begun v x) no_words test.AtLeast 1 4 1 (got x small) refl
                (ap not (negative_sign k x e)) in
                let r8 = run_compute live procs c start (Jump 1 ∷ to_more) (begun v x) no_words 1 Subtract 4 1 refl (got x small) in
                let r9 = run_jump live procs c start to_more v1 no_words 1 to_digit digits_at in
                record {
                  vars = v1;
                  held = record { zero_is = e0; one_is = e1; two_is = two_is; four_is = refl; five_is = refl };
                  runs = then_runs live procs front (then_runs live procs r7 (then_runs live procs r8 r9));
                }

        -- ---- the whole

        pub record IsSpelled (x : ℕ) : Type 0 where
          pub memory : Memory
          pub vars : Vars
          pub at : ℕ
          pub two_is : vars 2 ≡ Some (own + at)
          pub shown : Shown at (signed_decimal (signed x)) memory
          pub lines : ℕ
          pub few : 5 + lines ≤ 13 + 16 * (length (signed_decimal (signed x)) - 1)
          pub runs : Runs live procs lines (here start all_lines v) (here memory ending vars)

        long_spelled : (x : ℕ) → x < 2 ^ 32 → 10 ≤ x → v 0 ≡ Some x → IsSpelled x
        long_spelled x small large e0 =
            let z : ℤ = signed x in
            let k : ℕ = unsigned_abs z in
            let most : k ≤ 2 ^ 31 = magnitude z (word_fits x small) in
            let few : length (decimal k) ≤ 10 = length-decimal-le 10 k (omega arith) (omega (arith, most)) (omega (arith, most)) in
            let long : length (decimal k ++ []) ≡ length (decimal k) + 0 = length-append (decimal k) [] in
            let b = begins x z small large refl e0 in
            let d = spells x k (omega (arith, most)) 11 [] start b.vars (omega (arith, most)) (omega (arith, few)) b.held empty in
            let g = signs x z refl (decimal k ++ []) d.memory d.vars (omega (arith, few, long)) d.zero_is d.four_is d.begins in
            let w = closes (signed_text z (decimal k ++ [])) g.memory g.vars g.begins in
            let count = number_length z d.lines (long_is x z small large refl) d.count in
            record {
              memory = w.memory;
              vars = g.vars;
              at = w.at;
              two_is = w.two_is;
              shown = subst (λ t. Shown w.at t w.memory) (number_text z) w.shown;
              lines = front_steps z + d.lines + sign_steps z + 2;
              few = omega (arith, count);
              runs = then_runs live procs (then_runs live procs (then_runs live procs b.runs d.runs) g.runs) w.runs;
            }

        short_spelled : (x : ℕ) → x < 10 → v 0 ≡ Some x → IsSpelled x
        short_spelled x less e0 =
            let limit = low in
            let small : x < 2 ^ 32 = omega (arith, less) in
            let is : (x + 48) % 2 ^ 32 ≡ 48 + x = omega (arith, less) in
            let r = run_off live procs c start to_long (told v x) no_words test.Below 1 5 2 to_last (got x small) refl (lt-ltb x 10 less) last_at in
            let w = closes ((48 + x) ∷ []) start (told v x) (record {
              at = 11;
              char = 48 + x;
              behind = [];
              whole = refl;
              small = omega (arith, less);
              two_is = got (own + 11) (omega (arith, limit));
              char_is = ap Some is;
              shown = empty;
            }) in
            record {
              memory = w.memory;
              vars = told v x;
              at = w.at;
              two_is = w.two_is;
              shown = subst (λ t. Shown w.at t w.memory) (sym (short_text x (signed x) less refl)) w.shown;
              lines = 7;
              few = omega arith;
              runs = then_runs live procs (then_runs live procs (tells x small e0) r) w.runs;
            }

        pub number_spelled : (x : ℕ) → x < 2 ^ 32 → v 0 ≡ Some x → IsSpelled x
        number_spelled x small e0 = by (nat_lt x 10) refl
          where
            by : (b : Bool) → nat_lt x 10 ≡ b → IsSpelled x
            by true e = short_spelled x (ltb-true x 10 e) e0
            by false e = long_spelled x small (ltb-false x 10 e) e0
