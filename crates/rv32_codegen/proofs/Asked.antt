-- What the machine is asked for by a call of the environment.
use Rattle.std.proofs.Common.{◌≡◌, ℕ, ◌%◌, ◌<◌, List}
use Rattle.std.proofs.Common.{[], length, take, drop, true}
use Rattle.std.proofs.Common.{Some, refl, ap, ◌∙◌, arith}
use Rattle.std.specs.Prelude.{◌==◌, min, if◌then◌else◌}
use Rattle.std.proofs.lemmas.Bool.{cond-true}
use Rattle.arc_base.specs.declared.outside.Stream.{Stream}
use Rattle.arc_base.specs.declared.outside.Stream.TheVariants.{Out, Err as ErrStream}
use Rattle.arc_base.specs.Event.{writes as write_events}
use Rattle.rv32_isa.specs.Regions.{as_bytes}
use Rattle.rv32_isa.specs.declared.machine.FaultKind.TheVariants.{OutOfRange, BadCall}
use Rattle.rv32_isa.specs.State.{State, reg, readable, writable, filled}
use Rattle.rv32_isa.specs.Machine.{Reply, Answers, Exits, Fails, answered, stream_of, write_bytes, write_call, read_call, call}
use Rattle.rv32_codegen.specs.Code.{stream_number}

-- a call, by its number
abbrev call_number : State → List ℕ → ℕ → Reply
call_number s input number =
    if number == 93 then Exits (reg s 10 % 256) else
    if number == 64 then write_call s input (stream_of (reg s 10)) else
    if number == 63 then if reg s 10 == 0 then read_call s input else Fails BadCall else
    Fails BadCall

pub write_is : (s : State) (input : List ℕ) (stream : Stream) (bytes : List ℕ) → reg s 17 ≡ 64 → stream_of (reg s 10) ≡ Some stream →
    readable s (reg s 11) (reg s 12) ≡ Some bytes → call s input ≡ Answers (answered s (reg s 12)) input (write_events stream bytes)
write_is s input stream bytes number stream_is bytes_are =
    let a : call s input ≡ write_call s input (stream_of (reg s 10)) = ap (call_number s input) number in
    a ∙ ap (write_call s input) stream_is ∙ ap (write_bytes s input stream) bytes_are

pub exit_is : (s : State) (input : List ℕ) (status : ℕ) → reg s 17 ≡ 93 → reg s 10 % 256 ≡ status → call s input ≡ Exits status
exit_is s input status number status_is =
    let a : call s input ≡ Exits (reg s 10 % 256) = ap (call_number s input) number in
    a ∙ ap Exits status_is

-- a read to a range
abbrev read_at : State → List ℕ → (at n : ℕ) → Reply
read_at s input at n =
    let count = min n (length input) in
    Answers (answered (filled s at (as_bytes (take count input))) count) (drop count input) []

pub read_is : (s : State) (input : List ℕ) (at n : ℕ) → reg s 17 ≡ 63 → reg s 10 ≡ 0 → reg s 11 ≡ at → reg s 12 ≡ n →
    writable s at n ≡ true →
    call s input ≡ read_at s input at n
read_is s input at n number stream at_is n_is may =
    let by : ℕ → ℕ → Reply = λ a k. if writable s a k then read_at s input a k else Fails OutOfRange in
    let a : call s input ≡ (if reg s 10 == 0 then read_call s input else Fails BadCall) = ap (call_number s input) number in
    a
    ∙ ap (λ x. if x == 0 then read_call s input else Fails BadCall) stream
    ∙ ap (λ x. by x (reg s 12)) at_is ∙ ap (by at) n_is
    ∙ cond-true (writable s at n) (read_at s input at n) (Fails OutOfRange) may

pub stream_is : (stream : Stream) → stream_of (stream_number stream) ≡ Some stream
stream_is Out = refl
stream_is ErrStream = refl

pub stream_small : (stream : Stream) → stream_number stream < 2048
stream_small Out = omega arith
stream_small ErrStream = omega arith
