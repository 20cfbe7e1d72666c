-- What an instruction comes to that is a call of the environment, and what the runner does of it.
use Rattle.std.proofs.Common.{◌≡◌, ◌≢◌, ℕ, ◌+◌, ◌-◌, ◌%◌, ◌<◌, ◌≤◌, List, [], ◌∷◌, ◌++◌, length, take, drop, Some, None, Bool, true, false, refl, sym, ap}
use Rattle.std.proofs.Common.{ap₂, subst, ◌∙◌, arith, append-nil, add-zero, length-append, ◌⊎◌, inl, inr}
use Rattle.std.specs.Prelude.{min, ◌==◌, if◌then◌else◌}
use Rattle.std.proofs.lemmas.Bool.{cond-true, cond-false, ne_eqb, eqb-true, eq-eqb, true≢false}
use Rattle.std.proofs.Math.Seq.{take-append_seam, drop-append-add}
use Rattle.arc_base.specs.declared.outside.Stream.{Stream}
use Rattle.arc_base.specs.declared.outside.Stream.TheVariants.{Out, Err}
use Rattle.arc_base.specs.Event.{writes}
use Rattle.rv32_isa.specs.Regions.{as_bytes}
use Rattle.rv32_isa.specs.declared.machine.FaultKind.{FaultKind}
use Rattle.rv32_isa.specs.declared.machine.FaultKind.TheVariants.{BadCall, OutOfRange}
use Rattle.rv32_isa.specs.State.{State, reg, readable, writable, filled}
use Rattle.rv32_isa.specs.Steps.{Calls, outcome}
use Rattle.rv32_isa.specs.Steps as leads
use Rattle.rv32_isa.specs.Machine.{Reply, Answers, Exits, Fails, On, answered, stream_of, write_bytes, write_call, read_bytes, read_call, call, called, led}
use Rattle.rv32_isa.specs.Machine.{advance}
use Rattle.rv32_runner.specs.declared.runner.RunEnd.{RunEnd}
use Rattle.rv32_runner.specs.declared.runner.RunEnd.TheVariants.{Exited, Spent, Fault, ReadFault, WriteFault}
use Rattle.rv32_runner.specs.Streams.{Feed, Tally, Streams, streams, MayGive, Got, bytes_on}
use Rattle.rv32_runner.specs.Calls.{Wrote, Read, NoMore}
use Rattle.rv32_runner.specs.Runs.{Carried, ReadFails, IsWrite, Ends, Ran, on}
use Rattle.rv32_runner.proofs.Carrying.{got_none, gave_none, carried_none, carried_then, carried_one, carried_on}

-- ---- one instruction

pub ran_on : (b c : Streams) (s t : State) → Carried 1 b s t c → Ran 1 b s Spent t c
ran_on b c s t h = record { done = 1; left = 0; all = refl; at = t; mid = c; carried = h; ends = (refl, (refl, refl)) }

-- the run ends here: the answer is not Spent
pub ran_end : (b : Streams) (s : State) (answer : RunEnd) (t : State) (c : Streams) → Ends 1 s b answer t c → Ran 1 b s answer t c
ran_end b s answer t c h = record { done = 0; left = 1; all = refl; at = s; mid = b; carried = carried_none b s; ends = h }

pub ran_goes : (b : Streams) (s t : State) → outcome s ≡ leads.Goes t → Ran 1 b s Spent t b
ran_goes b s t e = ran_on b b s t (carried_on b s t e)

pub ran_faults : (b : Streams) (s : State) (kind : FaultKind) (pc word : ℕ) → outcome s ≡ leads.Faults kind pc word → Ran 1 b s (Fault kind pc word) s b
ran_faults b s kind pc word e = ran_end b s (Fault kind pc word) s b (omega arith, ((refl, refl), λ input. ap (led (on s input)) e))

-- ---- calls, by their number and first argument

eq-or_by : (a b : ℕ) (t : Bool) → (a == b) ≡ t → (a ≡ b) ⊎ (a ≢ b)
eq-or_by a b true e = inl (eqb-true a b e)
eq-or_by a b false e = inr (λ same. true≢false (sym (eq-eqb a b same) ∙ e))

eq-or_ne : (a b : ℕ) → (a ≡ b) ⊎ (a ≢ b)
eq-or_ne a b = eq-or_by a b (a == b) refl

abbrev call_by : State → List ℕ → (number first : ℕ) → Reply
call_by s input number first =
    if number == 93 then Exits (first % 256) else
    if number == 64 then write_call s input (stream_of first) else
    if number == 63 then if first == 0 then read_call s input else Fails BadCall else
    Fails BadCall

call_is : (s : State) (input : List ℕ) (number first : ℕ) → reg s 17 ≡ number → reg s 10 ≡ first → call s input ≡ call_by s input number first
call_is s input number first p q = ap₂ (call_by s input) p q

module _ (s : State) (due : outcome s ≡ Calls) where
  advance_is : (input : List ℕ) (reply : Reply) → call s input ≡ reply → advance (on s input) ≡ called s reply
  advance_is input reply e = ap (led (on s input)) due ∙ ap (called s) e

  pub ran_exits : (b : Streams) → reg s 17 ≡ 93 → Ran 1 b s (Exited (reg s 10 % 256)) s b
  ran_exits b number = ran_end b s (Exited (reg s 10 % 256)) s b
      (omega arith, ((refl, refl), λ input. advance_is input (Exits (reg s 10 % 256)) (call_is s input 93 (reg s 10) number refl)))

  ran_refused : (b : Streams) (kind : FaultKind) → ((input : List ℕ) → call s input ≡ Fails kind) → Ran 1 b s (Fault kind s.pc 0x73) s b
  ran_refused b kind e = ran_end b s (Fault kind s.pc 0x73) s b (omega arith, ((refl, refl), λ input. advance_is input (Fails kind) (e input)))

  no_stream : (input : List ℕ) → reg s 17 ≡ 64 → reg s 10 ≢ 1 → reg s 10 ≢ 2 → call s input ≡ Fails BadCall
  no_stream input number p q =
      let none : stream_of (reg s 10) ≡ None =
      cond-false (reg s 10 == 1) (Some Out) (if reg s 10 == 2 then Some Err else None) (ne_eqb _ 1 p) ∙ cond-false (reg s 10 == 2) (Some Err) None
      (ne_eqb _ 2 q) in
      call_is s input 64 (reg s 10) number refl ∙ ap (write_call s input) none

  no_input : (input : List ℕ) → reg s 17 ≡ 63 → reg s 10 ≢ 0 → call s input ≡ Fails BadCall
  no_input input number p = call_is s input 63 (reg s 10) number refl ∙ cond-false (reg s 10 == 0) (read_call s input) (Fails BadCall) (ne_eqb _ 0 p)

  no_call : (input : List ℕ) → reg s 17 ≢ 93 → reg s 17 ≢ 64 → reg s 17 ≢ 63 → call s input ≡ Fails BadCall
  no_call input p q r =
      let n = reg s 17 in
      let reads = if reg s 10 == 0 then read_call s input else Fails BadCall in
      let moves = if n == 63 then reads else Fails BadCall in
      let writing = if n == 64 then write_call s input (stream_of (reg s 10)) else moves in
      cond-false (n == 93) (Exits (reg s 10 % 256)) writing (ne_eqb n 93 p) ∙ cond-false (n == 64) (write_call s input (stream_of (reg s 10))) moves
      (ne_eqb n 64 q) ∙ cond-false (n == 63) reads (Fails BadCall) (ne_eqb n 63 r)

  not_read : (input : List ℕ) → reg s 17 ≢ 93 → reg s 17 ≢ 64 → (reg s 17 ≡ 63 → reg s 10 ≢ 0) → call s input ≡ Fails BadCall
  not_read input p q r = elim (eq-or_ne (reg s 17) 63) [ inl e ↦ no_input input e (r e) | inr ne ↦ no_call input p q ne ]

  -- none of the calls that there are
  pub ran_unknown : (b : Streams) → reg s 17 ≢ 93 → (reg s 17 ≡ 64 → reg s 10 ≢ 1) → (reg s 17 ≡ 64 → reg s 10 ≢ 2) → (reg s 17 ≡ 63 → reg s 10 ≢ 0) →
      Ran 1 b s (Fault BadCall s.pc 0x73) s b
  ran_unknown b p q r z = ran_refused b BadCall
      (λ input. elim (eq-or_ne (reg s 17) 64) [ inl e ↦ no_stream input e (q e) (r e) | inr ne ↦ not_read input p ne z ])

  pub ran_other : (b : Streams) (number first : ℕ) → number ≡ reg s 17 → first ≡ reg s 10 → number ≢ 93 → (number ≡ 64 → first ≢ 1) →
      (number ≡ 64 → first ≢ 2) → (number ≡ 63 → first ≢ 0) → Ran 1 b s (Fault BadCall s.pc 0x73) s b
  ran_other b number first p q exit out err input =
      ran_unknown b (λ e. exit (p ∙ e)) (λ e f. out (p ∙ e) (q ∙ f)) (λ e f. err (p ∙ e) (q ∙ f)) (λ e f. input (p ∙ e) (q ∙ f))

  -- ---- a write

  write_is : (input : List ℕ) (stream : Stream) → reg s 17 ≡ 64 → stream_of (reg s 10) ≡ Some stream →
      call s input ≡ write_bytes s input stream (readable s (reg s 11) (reg s 12))
  write_is input stream number first = call_is s input 64 (reg s 10) number refl ∙ ap (write_call s input) first

  writes_on : (stream : Stream) (bytes : List ℕ) → reg s 17 ≡ 64 → stream_of (reg s 10) ≡ Some stream → readable s (reg s 11) (reg s 12) ≡ Some bytes →
      (input : List ℕ) → advance (on s input) ≡ On (on (answered s (reg s 12)) input) (writes stream bytes)
  writes_on stream bytes number first found input =
      advance_is input (Answers (answered s (reg s 12)) input (writes stream bytes))
      (write_is input stream number first ∙ ap (write_bytes s input stream) found)

  pub ran_unreadable : (b : Streams) (stream : Stream) → reg s 17 ≡ 64 → stream_of (reg s 10) ≡ Some stream → readable s (reg s 11) (reg s 12) ≡ None →
      Ran 1 b s (Fault OutOfRange s.pc 0x73) s b
  ran_unreadable b stream number first none = ran_refused b OutOfRange (λ input. write_is input stream number first ∙ ap (write_bytes s input stream) none)

  -- ---- a read

  read_is : (input : List ℕ) → reg s 17 ≡ 63 → reg s 10 ≡ 0 → call s input ≡ read_call s input
  read_is input number first = call_is s input 63 0 number first

  pub ran_unwritable : (b : Streams) → reg s 17 ≡ 63 → reg s 10 ≡ 0 → writable s (reg s 11) (reg s 12) ≡ false → Ran 1 b s (Fault OutOfRange s.pc 0x73) s b
  ran_unwritable b number first bad =
      ran_refused b OutOfRange (λ input. read_is input number first ∙ cond-false (writable s (reg s 11) (reg s 12))
      (read_bytes s input (min (reg s 12) (length input))) (Fails OutOfRange) bad)

  -- the bytes that are given come first in the input
  reads_on : (given rest : List ℕ) → reg s 17 ≡ 63 → reg s 10 ≡ 0 → writable s (reg s 11) (reg s 12) ≡ true →
      min (reg s 12) (length (given ++ rest)) ≡ length given →
      advance (on s (given ++ rest)) ≡ On (on (answered (filled s (reg s 11) (as_bytes given)) (length given)) rest) []
  reads_on given rest number first may count =
      let input = given ++ rest in
      let size = reg s 12 in
      let taken : take (length given) input ≡ given = take-append_seam given rest in
      let left : drop (length given) input ≡ rest = ap (λ k. drop k input) (sym (add-zero (length given))) ∙ drop-append-add given rest 0 in
      advance_is input (Answers (answered (filled s (reg s 11) (as_bytes given)) (length given)) rest [])
      (read_is input number first
      ∙ cond-true (writable s (reg s 11) size) (read_bytes s input (min size (length input))) (Fails OutOfRange) may
      ∙ ap (read_bytes s input) count
      ∙ ap₂ (λ bytes after. Answers (answered (filled s (reg s 11) (as_bytes bytes)) (length given)) after []) taken left)

-- a range is full, or no more comes
count_all : (size : ℕ) (given rest : List ℕ) → length given ≤ size → (length given ≡ size) ⊎ (rest ≡ []) → min size (length (given ++ rest)) ≡ length given
count_all size given rest le (inl full) = omega (arith, length-append given rest, full)
count_all size given rest le (inr none) =
    let e : length (given ++ rest) ≡ length given = ap (λ r. length (given ++ r)) none ∙ ap length (append-nil given) in
    omega (arith, e, le)

at_rest : {P : List ℕ → Type 0} {A : Type 0} (rest : List ℕ) → P rest → A ⊎ ((rest : List ℕ) → P rest → rest ≡ []) → A ⊎ (rest ≡ [])
at_rest rest h (inl a) = inl a
at_rest rest h (inr f) = inr (f rest h)

bytes_of_writes : (stream : Stream) (bytes : List ℕ) → bytes_on stream (writes stream bytes) ≡ bytes
bytes_of_writes Out [] = refl
bytes_of_writes Err [] = refl
bytes_of_writes Out (b ∷ bs) = ap (λ l. b ∷ l) (bytes_of_writes Out bs)
bytes_of_writes Err (b ∷ bs) = ap (λ l. b ∷ l) (bytes_of_writes Err bs)

none_out : (bytes : List ℕ) → bytes_on Out (writes Err bytes) ≡ []
none_out [] = refl
none_out (b ∷ bs) = none_out bs

none_err : (bytes : List ℕ) → bytes_on Err (writes Out bytes) ≡ []
none_err [] = refl
none_err (b ∷ bs) = none_err bs

is_write : (s : State) (stream : Stream) (bytes : List ℕ) → outcome s ≡ Calls → reg s 17 ≡ 64 → stream_of (reg s 10) ≡ Some stream →
    readable s (reg s 11) (reg s 12) ≡ Some bytes → IsWrite s stream bytes
is_write s stream bytes due number names from = record {
  due = due;
  number = number;
  names = names;
  from = from;
  next = answered s (reg s 12);
  comes = writes_on s due stream bytes number names from;
}

-- a write to standard output
pub ran_out : (s : State) (input : Feed) (out err new : Tally) (answer : RunEnd) (t : State) → outcome s ≡ Calls → reg s 17 ≡ 64 → reg s 10 ≡ 1 →
    Wrote s Out out answer t new → Ran 1 (streams input out err) s answer t (streams input new err)
ran_out s input out err new Spent t due number first (bytes, (found, (next, got))) =
    let e = writes_on s due Out bytes number (ap stream_of first) found in
    let next_run : (rest : List ℕ) → advance (on s rest) ≡ On (on t rest) (writes Out bytes) =
    λ rest. e rest ∙ ap (λ u. On (on u rest) (writes Out bytes)) (sym next) in
    let to_out : Got (streams input out err).out (streams input new err).out (bytes_on Out (writes Out bytes)) =
    subst (Got out new) (sym (bytes_of_writes Out bytes)) got in
    let to_err : Got (streams input out err).err (streams input new err).err (bytes_on Err (writes Out bytes)) =
    subst (Got err err) (sym (none_err bytes)) (got_none err) in
    ran_on (streams input out err) (streams input new err) s t
    (carried_one (streams input out err) (streams input new err) s t [] (writes Out bytes) (gave_none input) refl (λ rest h. next_run rest) to_out to_err)
ran_out s input out err new (WriteFault other) t due number first (bytes, (found, (same, (kept, lost)))) =
    subst (λ x. Ran 1 (streams input out err) s (WriteFault x) t (streams input new err)) (sym same)
    (ran_end (streams input out err) s (WriteFault Out) t (streams input new err)
    (omega arith, (bytes, (is_write s Out bytes due number (ap stream_of first) found, (lost, (kept, (refl, refl)))))))
ran_out s input out err new (Fault kind pc word) t due number first (none, (k, (p, (w, (same, kept))))) =
    subst (λ x. Ran 1 (streams input out err) s (Fault x pc word) t (streams input new err)) (sym k)
    (subst (λ x. Ran 1 (streams input out err) s (Fault OutOfRange x word) t (streams input new err)) (sym p)
    (subst (λ x. Ran 1 (streams input out err) s (Fault OutOfRange s.pc x) t (streams input new err)) (sym w)
    (subst (λ x. Ran 1 (streams input out err) s (Fault OutOfRange s.pc 0x73) x (streams input new err)) (sym same)
    (subst (λ new. Ran 1 (streams input out err) s (Fault OutOfRange s.pc 0x73) s (streams input new err)) (sym kept)
    (ran_unreadable s due (streams input out err) Out number (ap stream_of first) none)))))
ran_out s input out err new (Exited status) t due number first w = absurd w
ran_out s input out err new ReadFault t due number first w = absurd w

-- a write to standard error
pub ran_err : (s : State) (input : Feed) (out err new : Tally) (answer : RunEnd) (t : State) → outcome s ≡ Calls → reg s 17 ≡ 64 → reg s 10 ≡ 2 →
    Wrote s Err err answer t new → Ran 1 (streams input out err) s answer t (streams input out new)
ran_err s input out err new Spent t due number first (bytes, (found, (next, got))) =
    let e = writes_on s due Err bytes number (ap stream_of first) found in
    let next_run : (rest : List ℕ) → advance (on s rest) ≡ On (on t rest) (writes Err bytes) =
    λ rest. e rest ∙ ap (λ u. On (on u rest) (writes Err bytes)) (sym next) in
    let to_out : Got (streams input out err).out (streams input out new).out (bytes_on Out (writes Err bytes)) =
    subst (Got out out) (sym (none_out bytes)) (got_none out) in
    let to_err : Got (streams input out err).err (streams input out new).err (bytes_on Err (writes Err bytes)) =
    subst (Got err new) (sym (bytes_of_writes Err bytes)) got in
    ran_on (streams input out err) (streams input out new) s t
    (carried_one (streams input out err) (streams input out new) s t [] (writes Err bytes) (gave_none input) refl (λ rest h. next_run rest) to_out to_err)
ran_err s input out err new (WriteFault other) t due number first (bytes, (found, (same, (kept, lost)))) =
    subst (λ x. Ran 1 (streams input out err) s (WriteFault x) t (streams input out new)) (sym same)
    (ran_end (streams input out err) s (WriteFault Err) t (streams input out new)
    (omega arith, (bytes, (is_write s Err bytes due number (ap stream_of first) found, (lost, (kept, (refl, refl)))))))
ran_err s input out err new (Fault kind pc word) t due number first (none, (k, (p, (w, (same, kept))))) =
    subst (λ x. Ran 1 (streams input out err) s (Fault x pc word) t (streams input out new)) (sym k)
    (subst (λ x. Ran 1 (streams input out err) s (Fault OutOfRange x word) t (streams input out new)) (sym p)
    (subst (λ x. Ran 1 (streams input out err) s (Fault OutOfRange s.pc x) t (streams input out new)) (sym w)
    (subst (λ x. Ran 1 (streams input out err) s (Fault OutOfRange s.pc 0x73) x (streams input out new)) (sym same)
    (subst (λ new. Ran 1 (streams input out err) s (Fault OutOfRange s.pc 0x73) s (streams input out new)) (sym kept)
    (ran_unreadable s due (streams input out err) Err number (ap stream_of first) none)))))
ran_err s input out err new (Exited status) t due number first w = absurd w
ran_err s input out err new ReadFault t due number first w = absurd w

-- a read
pub ran_read : (s : State) (input new : Feed) (out err : Tally) (answer : RunEnd) (t : State) → outcome s ≡ Calls → reg s 17 ≡ 63 → reg s 10 ≡ 0 →
    Read s input answer t new → Ran 1 (streams input out err) s answer t (streams new out err)
ran_read s input new out err Spent t due number first (may, (count, (m, (h, next)))) =
    let p = h.part in
    let fits : length p.given ≤ reg s 12 = subst (λ k. k ≤ reg s 12) (sym p.counted) h.bound in
    let full : (length p.given ≡ reg s 12) ⊎ NoMore new = subst (λ k. (k ≡ reg s 12) ⊎ NoMore new) (sym p.counted) h.all in
    let is : answered (filled s (reg s 11) (as_bytes p.given)) (length p.given) ≡ t =
    ap (answered (filled s (reg s 11) (as_bytes p.given))) p.counted ∙ ap (λ u. answered u count) (sym p.state) ∙ sym next in
    let reads : (rest : List ℕ) → MayGive new.left new.ended rest → advance (on s (p.given ++ rest)) ≡ On (on t rest) [] =
    λ rest h. reads_on s due p.given rest number first may (count_all (reg s 12) p.given rest fits (at_rest {P = MayGive new.left new.ended} rest h full))
    ∙ ap (λ u. On (on u rest) []) is in
    ran_on (streams input out err) (streams new out err) s t
    (carried_one (streams input out err) (streams new out err) s t p.given [] p.gave h.faults reads (got_none out) (got_none err))
ran_read s input new out err ReadFault t due number first (may, f) =
    let p = f.part in
    let fails : ReadFails s (streams input out err) t (streams new out err) = record {
      asks = record { due = due; number = number; from_input = first; to = may };
      given = p.given;
      fewer = subst (λ k. k < reg s 12) (sym p.counted) f.fewer;
      gave = p.gave;
      state = p.state;
      rose = f.rose;
      out = refl;
      err = refl;
    } in
    ran_end (streams input out err) s ReadFault t (streams new out err) (omega arith, fails)
ran_read s input new out err (Fault kind pc word) t due number first (bad, (k, (p, (w, (same, kept))))) =
    subst (λ x. Ran 1 (streams input out err) s (Fault x pc word) t (streams new out err)) (sym k)
    (subst (λ x. Ran 1 (streams input out err) s (Fault OutOfRange x word) t (streams new out err)) (sym p)
    (subst (λ x. Ran 1 (streams input out err) s (Fault OutOfRange s.pc x) t (streams new out err)) (sym w)
    (subst (λ x. Ran 1 (streams input out err) s (Fault OutOfRange s.pc 0x73) x (streams new out err)) (sym same)
    (subst (λ new. Ran 1 (streams input out err) s (Fault OutOfRange s.pc 0x73) s (streams new out err)) (sym kept)
    (ran_unwritable s due (streams input out err) number first bad)))))
ran_read s input new out err (Exited status) t due number first w = absurd w
ran_read s input new out err (WriteFault stream) t due number first w = absurd w

-- ---- many instructions

-- an instruction that didn't end the run
pub ran_spent : (b : Streams) (s t : State) (c : Streams) → Ran 1 b s Spent t c → Carried 1 b s t c
ran_spent b s t c h =
    let all = h.all in
    let none : h.left ≡ 0 = h.ends.0 in
    let one : h.done ≡ 1 = omega arith in
    subst (λ k. Carried k b s t c) one
    (subst (λ x. Carried h.done b s x c) (sym h.ends.1.0) (subst (λ x. Carried h.done b s h.at x) (sym h.ends.1.1) h.carried))

-- more instructions could be left
ends_more : (answer : RunEnd) (l k : ℕ) (s : State) (b : Streams) (t : State) (c : Streams) → answer ≢ Spent → l ≤ k → Ends l s b answer t c →
    Ends k s b answer t c
ends_more Spent l k s b t c other le h = absurd (other refl)
ends_more (Exited status) l k s b t c other le h = let some = h.0 in (omega arith, h.1)
ends_more (Fault kind pc word) l k s b t c other le h = let some = h.0 in (omega arith, h.1)
ends_more ReadFault l k s b t c other le h = let some = h.0 in (omega arith, h.1)
ends_more (WriteFault stream) l k s b t c other le h = let some = h.0 in (omega arith, h.1)

-- behind some instructions one ended the run
pub ran_over : (n m : ℕ) (b c d : Streams) (s t u : State) (answer : RunEnd) → m < n → answer ≢ Spent → Carried m b s t c → Ran 1 c t answer u d →
    Ran n b s answer u d
ran_over n m b c d s t u answer lt other p h =
    let all = h.all in
    record {
      done = m + h.done;
      left = n - (m + h.done);
      all = omega arith;
      at = h.at;
      mid = h.mid;
      carried = carried_then m h.done b c h.mid s t h.at p h.carried;
      ends = ends_more answer h.left (n - (m + h.done)) h.at h.mid u d other (omega arith) h.ends;
    }

-- no instruction is left
pub ran_all : (n m : ℕ) (b : Streams) (s t : State) (c : Streams) → m ≡ n → Carried m b s t c → Ran n b s Spent t c
ran_all n m b s t c e h = record { done = m; left = 0; all = omega arith; at = t; mid = c; carried = h; ends = (refl, (refl, refl)) }

-- an instruction more
pub carried_more : (n left rest : ℕ) (b c d : Streams) (s t u : State) → left ≤ n → rest + 1 ≡ left → Carried (n - left) b s t c → Ran 1 c t Spent u d →
    Carried (n - rest) b s u d
carried_more n left rest b c d s t u le e p h =
    let count : n - left + 1 ≡ n - rest = omega arith in
    subst (λ k. Carried k b s u d) count (carried_then (n - left) 1 b c d s t u p (ran_spent c t u d h))

-- no instruction yet
pub carried_start : (n : ℕ) (b : Streams) (s : State) → Carried (n - n) b s s b
carried_start n b s = let none : 0 ≡ n - n = omega arith in subst (λ k. Carried k b s s b) none (carried_none b s)
