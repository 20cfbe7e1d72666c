use Rattle.std.proofs.Common.{◌≡◌, ◌-◌, ◌/◌, length, Some, arith, refl, subst}
use Rattle.std.specs.Prelude.{IfSome}
use Rattle.std.specs.List.{slice_get}
use Rattle.std.proofs.lemmas.Option.{slice_get_read}
use Rattle.rv32_isa.specs.Next.{IsNext}
use Rattle.rv32_isa.proofs.Tabled.{next_is}
use Rattle.rv32_isa.proofs.machine.ready.Goals as goal

pub returns-in-Some : goal.returns-in-Some
returns-in-Some c =
    let low = c.if-m-lt-CODE_AT.false in
    let whole = c.if-offset-ne0.false in
    let m = c.m.inside in
    let found = c.in-Some.found.now in
    let i = (m.pc - 65536) / 4 in
    let table = c.as_slice.result.now in
    let lookup = c.in-Some.ensures.lookup in
    let has : slice_get m.table.items i ≡ Some found =
    subst (λ xs. slice_get xs i ≡ Some found) c.as_slice.ensures.value (slice_get_read table (length table) i found refl lookup.3.0 lookup.1) in
    subst (λ s. IfSome found (IsNext s)) c.m.view_is (next_is _ m.table.items i found c.m.invariant (omega arith) (omega arith) has)
