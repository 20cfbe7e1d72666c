-- From the answers of calls that may add types to those of their callers.
use Rattle.std.proofs.Common.{◌≡◌, ℕ, List}
use Rattle.std.specs.Prelude.{Result, Ok, Err}
use Rattle.arc_base.specs.declared.place.Stop.{Stop}
use Rattle.arc_base.specs.declared.place.Stop.TheVariants as stop
use Rattle.arc_base.specs.Refusal.{and_then}
use Rattle.nim_types.specs.declared.types.TypeDef.{TypeDef}
use Rattle.nim_types.specs.Types.{Ty, Facts}
use Rattle.expr_rules.specs.Answers.{Answer}
use Rattle.expr_parts.specs.View.{Under, Grown}
use Rattle.expr_steps.specs.ViewTyping.{Judges}
use Rattle.expr_parts.proofs.ForCallers.{forgets, stops, goes, answers_as}
use Rattle.expr_parts.proofs.ForCallers.{grown_on}

-- a stop for want of memory
pub forgotten : {A T : Type 0} (old new : List TypeDef) (of : List Ty → T → A) (said : List Ty → Facts → Answer A)
    (within : ℕ → T → Type 0) (s : Stop)
    → Grown old new → s ≡ stop.Memory → Judges old new of said within (Err s)
forgotten old new of said within s g is = record {
  grown = g;
  answers = λ ts facts u. forgets (of ts) (said ts facts) s is;
  fits = tt;
}

-- the same said in other words
pub said_so : {A T : Type 0} {old new : List TypeDef} {of : List Ty → T → A} {other : List Ty → Facts → Answer A}
    {within : ℕ → T → Type 0} {r : Result T Stop}
    (said : List Ty → Facts → Answer A) → ((ts : List Ty) (facts : Facts) → Under new ts facts → said ts facts ≡ other ts facts)
    → Judges old new of other within r → Judges old new of said within r
said_so {of = of} {other = other} {r = r} said e j = record {
  grown = j.grown;
  answers = λ ts facts u. answers_as (of ts) (said ts facts) (other ts facts) r (e ts facts u) (j.answers ts facts u);
  fits = j.fits;
}

-- a call that stops, stops the whole
pub stops_there : {A B S T : Type 0} {old new : List TypeDef} {part : List Ty → S → A} {told : List Ty → Facts → Answer A}
    {inside : ℕ → S → Type 0} {s : Stop}
    (of : List Ty → T → B) (go : List Ty → Facts → A → Answer B) (within : ℕ → T → Type 0) → Judges old new part told inside (Err s)
    → Judges old new of (λ ts facts. and_then (told ts facts) (go ts facts)) within (Err s)
stops_there {part = part} {told = told} {s = s} of go within j = record {
  grown = j.grown;
  answers = λ ts facts u. stops (of ts) (part ts) (told ts facts) (go ts facts) s (j.answers ts facts u);
  fits = tt;
}

-- behind a call that is answered
pub goes_on : {A B S T : Type 0} {old mid new : List TypeDef} {part : List Ty → S → A} {told : List Ty → Facts → Answer A}
    {inside : ℕ → S → Type 0} {x : S}
    {of : List Ty → T → B} {within : ℕ → T → Type 0} {r : Result T Stop} (go : List Ty → Facts → A → Answer B)
    → Judges old mid part told inside (Ok x)
    → Judges mid new of (λ ts facts. go ts facts (part ts x)) within r → Judges old new of (λ ts facts. and_then (told ts facts) (go ts facts)) within r
goes_on {part = part} {told = told} {x = x} {of = of} {r = r} go j k = record {
  grown = grown_on j.grown k.grown;
  answers = λ ts facts u.
      goes (of ts) (part ts) (told ts facts) (go ts facts) x r (j.answers ts facts (k.grown.under ts facts u)) (k.answers ts facts u);
  fits = k.fits;
}

-- behind a call that adds nothing
pub goes_behind : {B T : Type 0} {old mid new : List TypeDef} {of : List Ty → T → B} {said : List Ty → Facts → Answer B}
    {within : ℕ → T → Type 0}
    {r : Result T Stop} → Grown old mid → Judges mid new of said within r → Judges old new of said within r
goes_behind g j = record { grown = grown_on g j.grown; answers = j.answers; fits = j.fits }
