use Rattle.std.proofs.Common.{◌≡◌, ℕ, zero, suc, true, false, inr, List, [], length, Option, Some, None, refl, ap, subst, arith}
use Rattle.std.specs.Prelude.{slice_get}
use Rattle.nim_types.specs.Types.{int}
use Rattle.nim_program.specs.Program.{Body, Proc, Apply, Calling, Count}
use Rattle.flattening.specs.Examples.{node, place, read, number, one, equal, next, counting}
use Rattle.flattening.specs.Formed.{Ground, Scope, Formed, BodyFormed, InLoop, ground_of, named_in, AtFirst}
use Rattle.flattening.proofs.laws.counts_in_turn.Goals as goal

abbrev none_named : ℕ → List ℕ
none_named proc = []

abbrev proc_or : Option Proc → Proc
proc_or None = next
proc_or (Some proc) = proc

abbrev body_or : Body → Option Body → Body
body_or other None = other
body_or other (Some body) = body

abbrev IsBody : Proc → Body → Type 0
IsBody proc body =
    BodyFormed (ground_of counting (named_in none_named) false body) (AtFirst (length proc.params) (named_in none_named 0) body) proc.params body

is_next : (body : Body) → next.body ≡ Some body → IsBody next body
is_next body has = subst (λ b. IsBody next b) (ap (λ o. body_or body o) has)
    ((omega arith, refl), ((omega arith, refl), tt), (((refl, (refl, (refl, tt))), ((refl, omega arith), ((refl, tt), tt))), tt))

abbrev nowhere : Option Proc
nowhere = None

none_some : (proc : Proc) → (nowhere ≡ Some proc) → ⊥
none_some proc = λ e. cc

bodies : (n : ℕ) (proc : Proc) (body : Body) → slice_get counting.procs n ≡ Some proc → proc.body ≡ Some body →
    BodyFormed (ground_of counting (named_in none_named) false body) (AtFirst (length proc.params) (named_in none_named n) body) proc.params body
bodies zero proc body is has = subst (λ proc. proc.body ≡ Some body → IsBody proc body) (ap proc_or is) (is_next body) has
bodies (suc n) proc body is has = absurd (none_some proc is)

-- what stands around
abbrev around : Ground
around = ground_of counting (named_in none_named) true counting.start

abbrev Open : Scope
Open = AtFirst 0 (λ place. ⊥) counting.start

variable_is : Formed around (InLoop around Open (Count (place 0) true)) (read 0)
variable_is = (refl, inr (refl, tt))

called_is : Formed around (InLoop around Open (Count (place 0) true)) (Apply node (Some int) (Calling 0 []) (one (read 0)))
called_is = ((refl, refl, λ place is. absurd is), (variable_is, tt))

three_is : Formed around (InLoop around Open (Count (place 0) true)) (equal (read 0) (number 3))
three_is = ((refl, (refl, (refl, tt))), (variable_is, ((refl, tt), tt)))

two_is : Formed around (InLoop around Open (Count (place 0) true)) (equal (Apply node (Some int) (Calling 0 []) (one (read 0))) (number 2))
two_is = ((refl, (refl, (refl, tt))), (called_is, ((refl, tt), tt)))

pub returns-clause-formed : goal.returns-clause-formed
returns-clause-formed c =
    record {
      names = none_named;
      procs = bodies;
      start = (
        tt,
        tt,
        (
          (
            tt,
            ((refl, tt), ((refl, tt), tt)),
            (refl, omega arith),
            ((tt, tt, (three_is, tt), ((refl, tt), tt)), (((tt, (refl, tt)), (two_is, tt)), tt)),
          ),
          tt,
        ),
      );
      gives = refl;
    }

pub returns-clause-shown : goal.returns-clause-shown
returns-clause-shown c = λ plan heap input. refl
