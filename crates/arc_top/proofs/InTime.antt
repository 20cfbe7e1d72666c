-- A run whose steps are spent was cut short.
use Rattle.std.proofs.Common.{◌≡◌, ℕ, ◌++◌, List, refl, sym, ap, subst, ◌∙◌, inl, inr}
use Rattle.std.specs.Prelude.{nat_le}
use Rattle.std.proofs.lemmas.Bool.{leb-true, leb-false, cases_Bool}
use Rattle.arc_base.specs.Event.{Event}
use Rattle.arc_base.specs.Behaviour.{Behaviour, Phase, Running, Ended as HasEnded, Live, IsOver, Steady}
use Rattle.nim_meaning.specs.Meaning.{meaning}
use Rattle.rv32_isa.specs.Image.{Image}
use Rattle.rv32_isa.specs.State.{first_state}
use Rattle.rv32_isa.specs.Machine.{Lives, machine}
use Rattle.rv32_runner.specs.declared.runner.RunEnd.{RunEnd}
use Rattle.rv32_runner.specs.declared.runner.RunEnd.TheVariants as end
use Rattle.rv32_runner.specs.Streams.{MayGive}
use Rattle.rv32_runner.specs.Runs.{Ran}
use Rattle.core_compiler.specs.Compile.{live_objects, time_for, EndsInTime}
use Rattle.arc_top.specs.declared.answer.Answer.{Answer}
use Rattle.arc_top.specs.declared.answer.Answer.TheVariants.{StepsSpent}
use Rattle.arc_top.specs.Runs.{answer_of}
use Rattle.arc_top.specs.Top.{World, RunsProgram}
use Rattle.arc_top.specs.Due.{IsCutShort}
use Rattle.arc_top.proofs.Meaning.{Sees}

abbrev pub SteadyLaw : Type 0
SteadyLaw = (live : Lives) (image : Image) (input : List ℕ) → Steady (machine live image input)

same_steps : (n steps : ℕ) → ◌≡◌ {A = Answer} (StepsSpent n) (StepsSpent steps) → n ≡ steps
same_steps n steps e = cc

spent_is : (n steps : ℕ) (e : RunEnd) → StepsSpent n ≡ answer_of steps e → (e ≡ end.Spent) × (n ≡ steps)
spent_is n steps (end.Exited status) is = absurd cc
spent_is n steps end.Spent is = (refl, same_steps n steps is)
spent_is n steps (end.Fault kind pc word) is = absurd cc
spent_is n steps end.ReadFault is = absurd cc
spent_is n steps (end.WriteFault stream) is = absurd cc

never_both : (phase : Phase) (status : ℕ) (live : Live) → phase ≡ Running → phase ≡ HasEnded status live → ⊥
never_both phase status live e f = cc

module _ (steady : SteadyLaw) (image : Image) (input : List ℕ) (high : Behaviour Event) (in_time : EndsInTime (machine live_objects image input) high) where
  cut_short : (steps : ℕ) → (machine live_objects image input steps).phase ≡ Running → IsCutShort steps high
  cut_short steps running = λ units status live ends.
      let time = time_for (high units).work in
      let ended = in_time units status live ends in
      elim (cases_Bool (nat_le time steps)) [
        | inl t ↦
            let over : IsOver (machine live_objects image input time).phase = subst IsOver (sym ended.1) tt in
            let same = (steady live_objects image input).stays time steps (leb-true time steps t) over in
            absurd (never_both _ status ended.0 running (ap (λ s. s.phase) same ∙ ended.1))
        | inr f ↦ leb-false time steps f
      ]

-- the law, of what was taken and this rest
pub spent_in_time : SteadyLaw → Sees → (main : List ℕ) (heap steps n : ℕ) (old new : World) (ran : RunsProgram main heap steps (StepsSpent n) old new)
    (rest : List ℕ) → MayGive new.streams.input.left new.streams.input.ended rest →
    (given : List ℕ) × (new.streams.input.gave ≡ old.streams.input.gave ++ given)
    × IsCutShort n (meaning ran.compiled.program ran.file.plan heap (given ++ rest))
spent_in_time steady sees main heap steps n old new ran rest may =
    let image = ran.file.image in
    let is = spent_is n steps ran.ran.end ran.ran.answers in
    let own : Ran steps old.streams (first_state image) end.Spent ran.ran.last new.streams =
    subst (λ e. Ran steps old.streams (first_state image) e ran.ran.last new.streams) is.0 ran.ran.ran in
    let saw = sees live_objects image steps old.streams end.Spent ran.ran.last new.streams own tt rest may in
    let high = meaning ran.compiled.program ran.file.plan heap (saw.given ++ rest) in (
      saw.given,
      saw.gave,
      subst (λ k. IsCutShort k high) (sym is.1)
          (cut_short steady image (saw.given ++ rest) high (ran.compiled.in_time (saw.given ++ rest)) steps saw.phase),
    )
