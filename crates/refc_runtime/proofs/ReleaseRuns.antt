-- What the routine does that gives a block back where there is one.
use Rattle.std.proofs.Common.{◌≡◌, ℕ, ◌+◌, ◌^◌, ◌<◌, List, [], ◌∷◌, Option, Some, None, false, refl, sym, ap, subst, ◌∙◌, arith}
use Rattle.std.proofs.lemmas.Bool.{ne_eqb}
use Rattle.rv32_isa.specs.Machine.{Lives}
use Rattle.word_code.specs.declared.word.Test.TheVariants as test
use Rattle.word_code.specs.declared.word.WordInstr.{WordInstr}
use Rattle.word_code.specs.declared.word.WordInstr.TheVariants.{Label, Branch, Argument, Call, Return}
use Rattle.word_code.specs.declared.word.WordProc.{WordProc}
use Rattle.word_code.specs.Memory.{Memory, own_data_at}
use Rattle.word_code.specs.Words.{holds, Vars, no_words, put, params_of, from_proc, WordState}
use Rattle.word_code.specs.Routines.{ComesBack, Comes, IsCalling, goes_on}
use Rattle.word_code.proofs.ForCallers.{Sized, sizes_same, Runs, then_runs, Within, at as state_at, run_label, run_constant, run_argument}
use Rattle.word_code.proofs.ForCallers.{run_past, run_off, got}
use Rattle.heap_memory.specs.declared.numbers.TheConstants.{GIVE}
use Rattle.heap_memory.specs.declared.numbers.TheConstants.{RELEASE}
use Rattle.heap_memory.specs.HeapState.{IsHeap}
use Rattle.heap_memory.specs.HeapRoutines.{Giving, gives_back, IsKeptThere}
use Rattle.heap_memory.specs.GrowRoutine.{Owned, place_of, IsPresent, classes_then, stands_then}
use Rattle.heap_memory.specs.AppendRoutine.{Releasing, MayRelease, releases}
use Rattle.refc_runtime.specs.LineCode.{release_lines}
use Rattle.refc_runtime.proofs.Calls.{later, inside, enters, returns_awaiting}
use Rattle.refc_runtime.proofs.Coming.{calling_state, comes_back}
use Rattle.refc_runtime.proofs.GrowRuns.{call_runs}
use Rattle.heap_memory.proofs.ForCallers.{is_there}

module _ (live : Lives) (procs : List WordProc) (n : ℕ) (give_kept : IsKeptThere live procs (gives_back (own_data_at + n))) (u : Releasing)
    (s : WordState) (to : ℕ) (rest : List WordInstr) (others : List WordProc) (stands : from_proc RELEASE procs ≡ later n RELEASE 1 2 release_lines ∷ others)
    (calling : IsCalling RELEASE (place_of u.present ∷ []) to rest s) (sized : Sized s.memory) (may : MayRelease (own_data_at + n) u s.memory)
  where
    abbrev at : ℕ
    at = own_data_at + n

    abbrev p : WordProc
    p = later n RELEASE 1 2 release_lines

    abbrev c : ℕ → Within
    c awaits = record (inside s p to rest) { awaits = awaits }

    abbrev v1 : Vars
    v1 = put (params_of p s.frame.given) 1 0

    abbrev k2 : List WordInstr
    k2 = Branch test.Equal 0 1 0 ∷ Argument 0 0 ∷ Call 1 GIVE ∷ Label 0 ∷ Return 0 ∷ []

    abbrev k3 : List WordInstr
    k3 = Argument 0 0 ∷ Call 1 GIVE ∷ Label 0 ∷ Return 0 ∷ []

    abbrev k4 : List WordInstr
    k4 = Call 1 GIVE ∷ Label 0 ∷ Return 0 ∷ []

    abbrev k5 : List WordInstr
    k5 = Label 0 ∷ Return 0 ∷ []

    abbrev Outcome : Type 0
    Outcome = Comes live procs (releases at) u s to rest None

    to_test : Runs live procs 2 (calling_state live procs s to rest (releases at) u calling.next) (state_at (c 0) s.memory k2 v1 no_words)
    to_test =
        then_runs live procs (enters live procs s to rest n RELEASE 1 2 release_lines others stands)
        (run_constant live procs (c 0) s.memory k2 (params_of p s.frame.given) no_words 1 0)

    ends : (awaits : ℕ) (m : Memory) (v : Vars) (word : ℕ) → v 0 ≡ Some word
        → Runs live procs 2 (state_at (c awaits) m k5 v no_words) (goes_on s to word rest m s.input)
    ends awaits m v word e =
        then_runs live procs (run_label live procs (c awaits) m (Return 0 ∷ []) v no_words 0)
        (returns_awaiting live procs s to rest awaits [] p refl m v 0 word e)

    none : u.present ≡ None → Outcome
    none is =
        let zero_is : v1 0 ≡ Some 0 = calling.given.0 ∙ ap (λ q. Some (place_of q)) is in
        comes_back live procs s to rest (releases at) u calling.next refl refl 0 s.memory
        (record { sizes = sizes_same s.memory; beside = λ b k words heap. refl })
        (subst (λ q. IsHeap at (classes_then q u.classes) (stands_then q u.stands) s.memory) (sym is) may.heap) 5 (omega arith)
        (then_runs live procs to_test (then_runs live procs
        (run_off live procs (c 0) s.memory k3 v1 no_words test.Equal 0 1 0 k5 zero_is refl refl refl) (ends 0 s.memory v1 0 zero_is)))

    module _ (o : Owned) (is : u.present ≡ Some o) (has : IsPresent u.stands 0 (Some o)) where
      abbrev giving : Giving
      giving = record { identity = o.identity; block = o.block; classes = u.classes; stands = u.stands }

      small : o.block.place < 2 ^ 32
      small =
          let there = is_there at u.classes u.stands s.memory may.heap o.identity o.block has.0 sized in
          let high = there.high in
          let most = sized.heap_most in
          omega (arith, high, most)

      zero_is : v1 0 ≡ Some o.block.place
      zero_is = calling.given.0 ∙ ap (λ q. Some (place_of q)) is

      abbrev g : Vars
      g = put no_words 0 o.block.place

      given : ComesBack live procs (gives_back at) giving (state_at (c 0) s.memory k4 v1 g) 1 k5
      given =
          give_kept giving (state_at (c 0) s.memory k4 v1 g) 1 k5 (record { next = refl; given = (got o.block.place small, tt) }) sized
          (record { heap = may.heap; there = has.0; kind = has.1; word = has.2 })

      some : Outcome
      some =
          let low = (is_there at u.classes u.stands s.memory may.heap o.identity o.block has.0 sized).low in
          let past : holds test.Equal o.block.place 0 ≡ false = ne_eqb o.block.place 0 (λ e. absurd (omega (arith, e, low))) in
          let few = given.few in
          comes_back live procs s to rest (releases at) u calling.next refl refl o.block.place given.memory given.leaves
          (subst (λ q. IsHeap at (classes_then q u.classes) (stands_then q u.stands) given.memory) (sym is) given.gives) (2 + (2 + (given.lines + 2)))
          (omega (arith, few))
          (then_runs live procs to_test (then_runs live procs
          (then_runs live procs (run_past live procs (c 0) s.memory k3 v1 no_words test.Equal 0 1 0 zero_is refl past)
          (run_argument live procs (c 0) s.memory k4 v1 no_words 0 0 zero_is))
          (then_runs live procs (call_runs live procs (gives_back at) giving (c 0) s.memory v1 g 1 k5 refl refl given)
          (ends 1 given.memory (put v1 1 given.word) o.block.place zero_is))))

    pub release_comes : Outcome
    release_comes = by u.present refl may.present
      where
        by : (q : Option Owned) → u.present ≡ q → IsPresent u.stands 0 q → Outcome
        by None is has = none is
        by (Some o) is has = some o is has
