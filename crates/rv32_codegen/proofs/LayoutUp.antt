-- The machine with a code region and a program counter does what the machine without them does.
use Rattle.std.proofs.Common.{◌≡◌, ℕ, zero, suc, ◌+◌, ◌-◌, ◌%◌, ◌^◌, ◌<◌, ◌≤◌, min, List, [], length, take, drop, Bool}
use Rattle.std.proofs.Common.{true, false, Option, Some, None}
use Rattle.std.proofs.Common.{Result, Ok, Err, refl, sym, ap, subst, ◌∙◌, ◌⊎◌, inl, inr, arith}
use Rattle.std.specs.Prelude.{nat_le, ◌==◌, if◌then◌else◌}
use Rattle.std.proofs.lemmas.Bool.{lt-leb, leb-true, and_parts, and_left, and_right, true≢false, cases_Bool, cond-true, cond-false}
use Rattle.arc_base.specs.declared.outside.Stream.{Stream}
use Rattle.arc_base.specs.Stepping as steps
use Rattle.rv32_isa.specs.Regions.{as_bytes}
use Rattle.rv32_isa.specs.declared.instr.Instr.{Instr}
use Rattle.rv32_isa.specs.declared.instr.Instr.TheVariants.{Lui, Auipc, Jal, Jalr, Beq, Bne, Blt, Bge, Bltu, Bgeu, Lb, Lh, Lw, Lbu, Lhu, Sb, Sh, Sw}
use Rattle.rv32_isa.specs.declared.instr.Instr.TheVariants.{Addi, Slti, Sltiu, Xori, Ori, Andi, Slli, Srli, Srai, Add, Sub, Sll, Slt, Sltu, Xor, Srl}
use Rattle.rv32_isa.specs.declared.instr.Instr.TheVariants.{Sra, Or, And, Mul, Mulh, Mulhsu, Mulhu, Div, Divu, Rem, Remu, Fence, Ecall, Ebreak}
use Rattle.rv32_isa.specs.declared.label.LabelLine.{LabelLine}
use Rattle.rv32_isa.specs.declared.micro_op.Size.{Size}
use Rattle.rv32_isa.specs.declared.micro_op.MicroOp.{MicroOp}
use Rattle.rv32_isa.specs.declared.micro_op.MicroOp.TheVariants.{Write, Jump, Branch, Load, LoadSigned, Store, Pass, Ask, Stop}
use Rattle.rv32_isa.specs.declared.machine.FaultKind.{FaultKind}
use Rattle.rv32_isa.specs.declared.machine.FaultKind.TheVariants.{Misaligned}
use Rattle.rv32_isa.specs.Hooks.{code_at}
use Rattle.rv32_isa.specs.Image.{statics_at, heap_at, stack_at}
use Rattle.rv32_isa.specs.State.{State, reg, skip, lies_in, part, part_of, or_else, readable, writable, put_bytes, filled}
use Rattle.rv32_isa.specs.Values.{with_sign}
use Rattle.rv32_isa.specs.Steps.{Outcome, Goes, Calls, Faults, micro_op_of, size_of, half_of, written, number_of, found, loaded, loaded_signed, low_bytes}
use Rattle.rv32_isa.specs.Steps.{stored, act, obey}
use Rattle.rv32_isa.specs.Machine.{Lives, Reply, Answers, Exits, Fails, answered, stream_of, write_bytes, write_call, read_call, call}
use Rattle.rv32_isa.specs.Labels.{Addresses}
use Rattle.rv32_isa.specs.LabelsMeaning.{LabelRun, led, did}

module _ (code : List ℕ) (small : length code ≤ 524288) where
  -- with that code, at an address
  abbrev pub up : ℕ → State → State
  up pc s = record s { pc = pc; code = code }

  -- the state of the machine with code is that of the one without, behind the instruction
  abbrev pub Up : (pc : ℕ) → State → Outcome → Outcome → Type 0
  Up pc s low (Goes t) = (low ≡ Goes (up ((pc + 4) % 2 ^ 32) t)) × (t.code ≡ s.code)
  Up pc s low Calls = low ≡ Calls
  Up pc s low (Faults kind at word) = Unit {0}

  -- ---- reading

  -- what lies in data, heap or stack isn't code
  not_code : (at n : ℕ) → statics_at ≤ at → 0 < n → part_of code_at code at n ≡ None
  not_code at n le some = cond-false (lies_in code_at code at n)
      (Some (part code_at code at n)) None (and_right (nat_le code_at at) _ (lt-leb (at + n) (code_at + length code) (omega (arith, le, some, small))))

  no_some : {A : Type 0} (x : A) → None ≡ Some x → ⊥
  no_some x e = cc

  part_high : (base : ℕ) (region : List ℕ) (at n : ℕ) (bytes : List ℕ) → statics_at ≤ base → part_of base region at n ≡ Some bytes →
      statics_at ≤ at
  part_high base region at n bytes high e = elim (cases_Bool (lies_in base region at n)) [
    | inl t ↦ let p = and_parts (nat_le base at) _ t in let le = leb-true base at p.0 in omega (arith, high, le)
    | inr f ↦ absurd (no_some bytes (sym (cond-false (lies_in base region at n) (Some (part base region at n)) None f) ∙ e))
  ]

  parts_high : (s : State) (at n : ℕ) (a b c : Option (List ℕ)) (bytes : List ℕ) → a ≡ part_of statics_at s.statics at n →
      b ≡ part_of heap_at s.heap at n → c ≡ part_of stack_at s.stack at n → or_else a (or_else b c) ≡ Some bytes → statics_at ≤ at
  parts_high s at n (Some x) b c bytes p q r e = part_high statics_at s.statics at n x (omega arith) (sym p)
  parts_high s at n None (Some x) c bytes p q r e = part_high heap_at s.heap at n x (omega arith) (sym q)
  parts_high s at n None None c bytes p q r e = part_high stack_at s.stack at n bytes (omega arith) (sym r ∙ e)

  code_none : (s : State) (at n : ℕ) → s.code ≡ [] → 0 < n → part_of code_at s.code at n ≡ None
  code_none s at n e some = ap (λ l. part_of code_at l at n) e ∙ cond-false (lies_in code_at [] at n) (Some (part code_at [] at n)) None (at_end at n some)
    where
      at_end : (at n : ℕ) → 0 < n → lies_in code_at [] at n ≡ false
      at_end at n some = elim (cases_Bool (nat_le code_at at)) [
        | inl t ↦ let le = leb-true code_at at t in and_right (nat_le code_at at) _ (lt-leb (at + n) (code_at + 0) (omega (arith, le, some)))
        | inr f ↦ and_left (nat_le code_at at) _ f
      ]

  pub read_up : (pc : ℕ) (s : State) (at n : ℕ) (bytes : List ℕ) → s.code ≡ [] → readable s at n ≡ Some bytes →
      readable (up pc s) at n ≡ Some bytes
  read_up pc s at n bytes none h =
      let rest = or_else (part_of statics_at s.statics at n) (or_else (part_of heap_at s.heap at n) (part_of stack_at s.stack at n)) in
      elim (cases_Bool (n == 0)) [
        | inl e ↦ cond-true (n == 0) (Some []) (or_else (part_of code_at code at n) rest) e ∙
            sym (cond-true (n == 0) (Some []) (or_else (part_of code_at s.code at n) rest) e) ∙ h
        | inr e ↦
            let some : 0 < n = positive n e in
            let is : rest ≡ Some bytes = ap (λ o. or_else o rest) (sym (code_none s at n none some)) ∙
            sym (cond-false (n == 0) (Some []) (or_else (part_of code_at s.code at n) rest) e) ∙ h in
            let high = parts_high s at n _ _ _ bytes refl refl refl is in
            cond-false (n == 0) (Some []) (or_else (part_of code_at code at n) rest) e ∙ ap (λ o. or_else o rest) (not_code at n high some) ∙ is
      ]
    where
      positive : (n : ℕ) → (n == 0) ≡ false → 0 < n
      positive zero e = absurd (true≢false e)
      positive (suc n) e = omega arith

  -- ---- writing

  cond_up : (pc : ℕ) (b : Bool) (x y : State) → up pc (if b then x else y) ≡ (if b then up pc x else up pc y)
  cond_up pc true x y = refl
  cond_up pc false x y = refl

  pub filled_up : (pc : ℕ) (s : State) (at : ℕ) (bytes : List ℕ) → filled (up pc s) at bytes ≡ up pc (filled s at bytes)
  filled_up pc s at bytes =
      let n = length bytes in
      let a = record s { statics = put_bytes s.statics (at - statics_at) bytes } in
      let b = record s { heap = put_bytes s.heap (at - heap_at) bytes } in
      let c = record s { stack = put_bytes s.stack (at - stack_at) bytes } in
      sym (cond_up pc (n == 0) s (if lies_in statics_at s.statics at n then a else if lies_in heap_at s.heap at n then b else c)
      ∙ ap (λ u. if n == 0 then up pc s else u)
      (cond_up pc (lies_in statics_at s.statics at n) a (if lies_in heap_at s.heap at n then b else c) ∙
      ap (λ u. if lies_in statics_at s.statics at n then up pc a else u) (cond_up pc (lies_in heap_at s.heap at n) b c)))

  cond_code : (s : State) (b : Bool) (x y : State) → x.code ≡ s.code → y.code ≡ s.code → (if b then x else y).code ≡ s.code
  cond_code s true x y h g = h
  cond_code s false x y h g = g

  filled_code : (s : State) (at : ℕ) (bytes : List ℕ) → (filled s at bytes).code ≡ s.code
  filled_code s at bytes =
      let n = length bytes in
      cond_code s (n == 0) _ _ refl (cond_code s (lies_in statics_at s.statics at n) _ _ refl (cond_code s (lies_in heap_at s.heap at n) _ _ refl refl))

  -- ---- what is done

  written_up : (pc : ℕ) (s : State) (rd value : ℕ) → Up pc s (written (up pc s) rd value) (written s rd value)
  written_up pc s zero value = (refl, refl)
  written_up pc s (suc rd) value = (refl, refl)

  found_up : (pc : ℕ) (s : State) (at n : ℕ) (size : Size) → s.code ≡ [] → found s at size ≡ Ok n → found (up pc s) at size ≡ Ok n
  found_up pc s at n size none h = elim (cases_Bool (at % size_of size == 0)) [
    | inl e ↦
        let is = sym (cond-true (at % size_of size == 0) (number_of (readable s at (size_of size))) (Err Misaligned) e) ∙ h in
        cond-true (at % size_of size == 0) (number_of (readable (up pc s) at (size_of size))) (Err Misaligned) e ∙
        number_up (readable s at (size_of size)) n (λ bytes. read_up pc s at (size_of size) bytes none) is
    | inr e ↦ absurd (err_ok Misaligned n (sym (cond-false (at % size_of size == 0) (number_of (readable s at (size_of size))) (Err Misaligned) e) ∙ h))
  ]
    where
      err_ok : (kind : FaultKind) (w : ℕ) → Err kind ≡ Ok w → ⊥
      err_ok kind w x = cc

      number_up : (o : Option (List ℕ)) (n : ℕ) → ((bytes : List ℕ) → o ≡ Some bytes → readable (up pc s) at (size_of size) ≡ Some bytes) →
          number_of o ≡ Ok n → number_of (readable (up pc s) at (size_of size)) ≡ Ok n
      number_up None n go x = absurd (err_ok _ n x)
      number_up (Some bytes) n go x = ap number_of (go bytes refl) ∙ x

  loaded_up : (pc : ℕ) (s : State) (word rd : ℕ) (low high : Result ℕ FaultKind) → ((n : ℕ) → high ≡ Ok n → low ≡ Ok n) →
      Up pc s (loaded (up pc s) word rd low) (loaded s 0 rd high)
  loaded_up pc s word rd low (Ok n) h =
      subst (λ r. Up pc s (loaded (up pc s) word rd r) (written s rd (n % 2 ^ 32))) (sym (h n refl)) (written_up pc s rd (n % 2 ^ 32))
  loaded_up pc s word rd low (Err kind) h = tt

  loaded_signed_up : (pc : ℕ) (s : State) (word rd half : ℕ) (low high : Result ℕ FaultKind) → ((n : ℕ) → high ≡ Ok n → low ≡ Ok n) →
      Up pc s (loaded_signed (up pc s) word rd half low) (loaded_signed s 0 rd half high)
  loaded_signed_up pc s word rd half low (Ok n) h =
      subst (λ r. Up pc s (loaded_signed (up pc s) word rd half r) (written s rd (with_sign half n))) (sym (h n refl))
      (written_up pc s rd (with_sign half n))
  loaded_signed_up pc s word rd half low (Err kind) h = tt

  if_up : (pc : ℕ) (s : State) (b : Bool) (x y u v : Outcome) → (b ≡ true → Up pc s x u) → (b ≡ false → Up pc s y v) →
      Up pc s (if b then x else y) (if b then u else v)
  if_up pc s true x y u v h g = h refl
  if_up pc s false x y u v h g = g refl

  stored_up : (pc : ℕ) (s : State) (word at : ℕ) (size : Size) (value : ℕ) → Up pc s (stored (up pc s) word at size value) (stored s 0 at size value)
  stored_up pc s word at size value =
      if_up pc s (writable s at (size_of size)) _ _ _ _
      (λ may. (ap (λ t. Goes (skip t)) (filled_up pc s at (low_bytes size value)), filled_code s at (low_bytes size value))) (λ e. tt)

  -- what isn't a jump or a branch
  abbrev pub StaysOn : MicroOp → Type 0
  StaysOn (Write rd value) = Unit {0}
  StaysOn (Jump rd at) = ⊥
  StaysOn (Branch taken at) = ⊥
  StaysOn (Load rd at size) = Unit {0}
  StaysOn (LoadSigned rd at size) = Unit {0}
  StaysOn (Store at size value) = Unit {0}
  StaysOn Pass = Unit {0}
  StaysOn Ask = Unit {0}
  StaysOn Stop = Unit {0}

  pub act_up : (pc : ℕ) (s : State) (link word : ℕ) (op : MicroOp) → s.code ≡ [] → StaysOn op →
      Up pc s (act (up pc s) link word op) (act s 0 0 op)
  act_up pc s link word (Write rd value) none h = written_up pc s rd value
  act_up pc s link word (Jump rd at) none h = absurd h
  act_up pc s link word (Branch taken at) none h = absurd h
  act_up pc s link word (Load rd at size) none h = loaded_up pc s word rd (found (up pc s) at size) (found s at size) (λ n. found_up pc s at n size none)
  act_up pc s link word (LoadSigned rd at size) none h =
      loaded_signed_up pc s word rd (half_of size) (found (up pc s) at size) (found s at size) (λ n. found_up pc s at n size none)
  act_up pc s link word (Store at size value) none h = if_up pc s (at % size_of size == 0) _ _ _ _ (λ e. stored_up pc s word at size value) (λ e. tt)
  act_up pc s link word Pass none h = (refl, refl)
  act_up pc s link word Ask none h = refl
  act_up pc s link word Stop none h = tt

  -- ---- calls of the environment

  abbrev pub UpReply : (pc : ℕ) → State → Reply → Reply → Type 0
  UpReply pc s low (Answers next input shown) = (low ≡ Answers (up ((pc + 4) % 2 ^ 32) next) input shown) × (next.code ≡ s.code)
  UpReply pc s low (Exits status) = low ≡ Exits status
  UpReply pc s low (Fails kind) = Unit {0}

  reply_if : (pc : ℕ) (s : State) (b : Bool) (x y u v : Reply) → (b ≡ true → UpReply pc s x u) → (b ≡ false → UpReply pc s y v) →
      UpReply pc s (if b then x else y) (if b then u else v)
  reply_if pc s true x y u v h g = h refl
  reply_if pc s false x y u v h g = g refl

  bytes_up : (pc : ℕ) (s : State) (input : List ℕ) (stream : Stream) (low high : Option (List ℕ)) →
      ((bytes : List ℕ) → high ≡ Some bytes → low ≡ Some bytes) →
      UpReply pc s (write_bytes (up pc s) input stream low) (write_bytes s input stream high)
  bytes_up pc s input stream low None h = tt
  bytes_up pc s input stream low (Some bytes) h =
      subst (λ o. UpReply pc s (write_bytes (up pc s) input stream o) (write_bytes s input stream (Some bytes))) (sym (h bytes refl)) (refl, refl)

  write_up : (pc : ℕ) (s : State) (input : List ℕ) (stream : Option Stream) → s.code ≡ [] →
      UpReply pc s (write_call (up pc s) input stream) (write_call s input stream)
  write_up pc s input None none = tt
  write_up pc s input (Some stream) none =
      bytes_up pc s input stream (readable (up pc s) (reg s 11) (reg s 12)) (readable s (reg s 11) (reg s 12))
      (λ bytes. read_up pc s (reg s 11) (reg s 12) bytes none)

  input_up : (pc : ℕ) (s : State) (input : List ℕ) → UpReply pc s (read_call (up pc s) input) (read_call s input)
  input_up pc s input =
      let count = min (reg s 12) (length input) in
      reply_if pc s (writable s (reg s 11) (reg s 12)) _ _ _ _
      (λ may. (
        ap (λ t. Answers (answered t count) (drop count input) []) (filled_up pc s (reg s 11) (as_bytes (take count input))),
        filled_code s (reg s 11) (as_bytes (take count input)),
      ))
      (λ e. tt)

  pub call_up : (pc : ℕ) (s : State) (input : List ℕ) → s.code ≡ [] → UpReply pc s (call (up pc s) input) (call s input)
  call_up pc s input none =
      reply_if pc s (reg s 17 == 93) _ _ _ _ (λ e. refl)
      (λ e. reply_if pc s (reg s 17 == 64) _ _ _ _ (λ e. write_up pc s input (stream_of (reg s 10)) none)
      (λ e. reply_if pc s (reg s 17 == 63) _ _ _ _ (λ e. reply_if pc s (reg s 10 == 0) _ _ _ _ (λ e. input_up pc s input) (λ e. tt)) (λ e. tt)))

  -- ---- instructions

  -- One that does the same with and without code.
  abbrev pub IsPlain : Lives → List LabelLine → Addresses → (pc : ℕ) → LabelRun → List LabelLine → Instr → Type 0
  IsPlain live lines at pc r rest i =
      (micro_op_of (up pc r.state) i ≡ micro_op_of r.state i) × StaysOn (micro_op_of r.state i) ×
      (did live lines at r rest i ≡ led live lines at r rest (obey r.state 0 0 i))

  -- an instruction is one, or a jump to an address that a register holds, or a fault in label code
  abbrev pub Kinds : Lives → List LabelLine → Addresses → (pc : ℕ) → LabelRun → List LabelLine → Instr → Type 0
  Kinds live lines at pc r rest i =
      IsPlain live lines at pc r rest i ⊎ (((rd rs1 offset : ℕ) × (i ≡ Jalr rd rs1 offset)) ⊎ (did live lines at r rest i ≡ steps.Faults))

  pub kind_of : (live : Lives) (lines : List LabelLine) (at : Addresses) (pc : ℕ) (r : LabelRun) (rest : List LabelLine) (i : Instr) →
      Kinds live lines at pc r rest i
  kind_of live lines at pc r rest (Lui a b) = inl (refl, tt, refl)
  kind_of live lines at pc r rest (Auipc a b) = inr (inr refl)
  kind_of live lines at pc r rest (Jal a b) = inr (inr refl)
  kind_of live lines at pc r rest (Jalr a b c) = inr (inl (a, b, c, refl))
  kind_of live lines at pc r rest (Beq a b c) = inr (inr refl)
  kind_of live lines at pc r rest (Bne a b c) = inr (inr refl)
  kind_of live lines at pc r rest (Blt a b c) = inr (inr refl)
  kind_of live lines at pc r rest (Bge a b c) = inr (inr refl)
  kind_of live lines at pc r rest (Bltu a b c) = inr (inr refl)
  kind_of live lines at pc r rest (Bgeu a b c) = inr (inr refl)
  kind_of live lines at pc r rest (Lb a b c) = inl (refl, tt, refl)
  kind_of live lines at pc r rest (Lh a b c) = inl (refl, tt, refl)
  kind_of live lines at pc r rest (Lw a b c) = inl (refl, tt, refl)
  kind_of live lines at pc r rest (Lbu a b c) = inl (refl, tt, refl)
  kind_of live lines at pc r rest (Lhu a b c) = inl (refl, tt, refl)
  kind_of live lines at pc r rest (Sb a b c) = inl (refl, tt, refl)
  kind_of live lines at pc r rest (Sh a b c) = inl (refl, tt, refl)
  kind_of live lines at pc r rest (Sw a b c) = inl (refl, tt, refl)
  kind_of live lines at pc r rest (Addi a b c) = inl (refl, tt, refl)
  kind_of live lines at pc r rest (Slti a b c) = inl (refl, tt, refl)
  kind_of live lines at pc r rest (Sltiu a b c) = inl (refl, tt, refl)
  kind_of live lines at pc r rest (Xori a b c) = inl (refl, tt, refl)
  kind_of live lines at pc r rest (Ori a b c) = inl (refl, tt, refl)
  kind_of live lines at pc r rest (Andi a b c) = inl (refl, tt, refl)
  kind_of live lines at pc r rest (Slli a b c) = inl (refl, tt, refl)
  kind_of live lines at pc r rest (Srli a b c) = inl (refl, tt, refl)
  kind_of live lines at pc r rest (Srai a b c) = inl (refl, tt, refl)
  kind_of live lines at pc r rest (Add a b c) = inl (refl, tt, refl)
  kind_of live lines at pc r rest (Sub a b c) = inl (refl, tt, refl)
  kind_of live lines at pc r rest (Sll a b c) = inl (refl, tt, refl)
  kind_of live lines at pc r rest (Slt a b c) = inl (refl, tt, refl)
  kind_of live lines at pc r rest (Sltu a b c) = inl (refl, tt, refl)
  kind_of live lines at pc r rest (Xor a b c) = inl (refl, tt, refl)
  kind_of live lines at pc r rest (Srl a b c) = inl (refl, tt, refl)
  kind_of live lines at pc r rest (Sra a b c) = inl (refl, tt, refl)
  kind_of live lines at pc r rest (Or a b c) = inl (refl, tt, refl)
  kind_of live lines at pc r rest (And a b c) = inl (refl, tt, refl)
  kind_of live lines at pc r rest (Mul a b c) = inl (refl, tt, refl)
  kind_of live lines at pc r rest (Mulh a b c) = inl (refl, tt, refl)
  kind_of live lines at pc r rest (Mulhsu a b c) = inl (refl, tt, refl)
  kind_of live lines at pc r rest (Mulhu a b c) = inl (refl, tt, refl)
  kind_of live lines at pc r rest (Div a b c) = inl (refl, tt, refl)
  kind_of live lines at pc r rest (Divu a b c) = inl (refl, tt, refl)
  kind_of live lines at pc r rest (Rem a b c) = inl (refl, tt, refl)
  kind_of live lines at pc r rest (Remu a b c) = inl (refl, tt, refl)
  kind_of live lines at pc r rest (Fence a b c) = inl (refl, tt, refl)
  kind_of live lines at pc r rest Ecall = inl (refl, tt, refl)
  kind_of live lines at pc r rest Ebreak = inl (refl, tt, refl)

  -- a plain instruction does the same with and without code
  pub plain_up : (live : Lives) (lines : List LabelLine) (at : Addresses) (pc link word : ℕ) (r : LabelRun) (rest : List LabelLine) (i : Instr) →
      r.state.code ≡ [] → IsPlain live lines at pc r rest i → Up pc r.state (obey (up pc r.state) link word i) (obey r.state 0 0 i)
  plain_up live lines at pc link word r rest i none h =
      let s = r.state in
      subst (λ op. Up pc s (act (up pc s) link word op) (act s 0 0 (micro_op_of s i))) (sym h.0) (act_up pc s link word (micro_op_of s i) none h.1)
