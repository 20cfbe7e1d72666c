-- From the answers of the calls of the cycle of typing to the answer of the whole.
use Rattle.std.proofs.Common.{◌≡◌, ℕ, List, length, sym, ap, ◌∙◌, subst}
use Rattle.std.specs.Prelude.{ℤ, Result, Ok, Err, IfOk, IfErr}
use Rattle.std.specs.Result.{IsErrAnd}
use Rattle.std.proofs.lemmas.Result.{err_from_is_err_and}
use Rattle.arc_base.specs.declared.place.Place.{Place}
use Rattle.arc_base.specs.declared.place.Code.{Code}
use Rattle.arc_base.specs.declared.place.Stop.{Stop}
use Rattle.arc_base.specs.declared.place.Stop.TheVariants as stop
use Rattle.arc_base.specs.Refusal.{and_then, refused, Answers}
use Rattle.nim_types.specs.declared.types.TypeDef.{TypeDef}
use Rattle.nim_types.specs.Types.{Ty, Facts}
use Rattle.expr_rules.specs.Answers.{Answer}
use Rattle.expr_parts.specs.View.{Under, Grown}
use Rattle.expr_parts.proofs.ForCallers.{grown_same, grown_on, makes, refuses}
use Rattle.expr_steps.specs.ViewTyping.{Judges}
use Rattle.expr_steps.proofs.ForCallers.{forgotten, said_so, stops_there, goes_on, goes_behind}

-- ---- exits by `?`

pub exits : {A T : Type 0} {old new : List TypeDef} {of : List Ty → T → A} {said : List Ty → Facts → Answer A} {within : ℕ → T → Type 0}
    (s : Stop)
    (r : Result T Stop) → IsErrAnd r (λ y. y ≡ s) → Judges old new of said within (Err s) → Judges old new of said within r
exits {old = old} {new = new} {of = of} {said = said} {within = within} s r h j =
    let p = err_from_is_err_and {Q = λ y. y ≡ s} r h in
    subst (λ z. Judges old new of said within z) (sym (p.1 ∙ ap Err p.2)) j

-- for want of memory
pub exits_without : {A T : Type 0} {old new : List TypeDef} (of : List Ty → T → A) (said : List Ty → Facts → Answer A) (within : ℕ → T → Type 0)
    (s : Stop)
    (r : Result T Stop) → IsErrAnd r (λ y. y ≡ s) → Grown old new → s ≡ stop.Memory → Judges old new of said within r
exits_without {old = old} {new = new} of said within s r h g is = exits s r h (forgotten old new of said within s g is)

-- ---- calls that add nothing

pub stays : {A T : Type 0} (ds : List TypeDef) (of : List Ty → T → A) (said : List Ty → Facts → Answer A) (within : ℕ → T → Type 0)
    (r : Result T Stop)
    → ((ts : List Ty) (facts : Facts) → Under ds ts facts → Answers (of ts) (said ts facts) r) → IfOk r (within (length ds))
    → Judges ds ds of said within r
stays ds of said within r a w = record { grown = grown_same ds; answers = a; fits = w }

-- what is made of what is said, but for want of memory
pub made_here : {A T : Type 0} (ds : List TypeDef) (of : List Ty → T → A) (x : List Ty → Facts → A) (within : ℕ → T → Type 0) (r : Result T Stop)
    → ((ts : List Ty) (facts : Facts) → Under ds ts facts → IfOk r (λ e. of ts e ≡ x ts facts)) → IfErr r (λ s. s ≡ stop.Memory)
    → IfOk r (within (length ds)) → Judges ds ds of (λ ts facts. Ok (x ts facts)) within r
made_here ds of x within r a m w = stays ds of (λ ts facts. Ok (x ts facts)) within r (λ ts facts u. makes (of ts) (x ts facts) r (a ts facts u) m) w

pub here : {A T : Type 0} (ds : List TypeDef) (of : List Ty → T → A) (said : List Ty → Facts → Answer A) (within : ℕ → T → Type 0) (x : T)
    → ((ts : List Ty) (facts : Facts) → Under ds ts facts → said ts facts ≡ Ok (of ts x)) → within (length ds) x
    → Judges ds ds of said within (Ok x)
here ds of said within x a w = record { grown = grown_same ds; answers = a; fits = w }

pub refused_here : {A T : Type 0} (ds : List TypeDef) (of : List Ty → T → A) (said : List Ty → Facts → Answer A) (within : ℕ → T → Type 0)
    (code : Code)
    (at : Place) (s : Stop) → s ≡ stop.Refused code at → ((ts : List Ty) (facts : Facts) → said ts facts ≡ refused code at)
    → Judges ds ds of said within (Err s)
refused_here ds of said within code at s is a = record {
  grown = grown_same ds;
  answers = λ ts facts u. refuses (of ts) (said ts facts) code at s is (a ts facts);
  fits = tt;
}

-- nothing is asked of what is answered
abbrev pub Always : ℕ → Unit {0} → Type 0
Always n x = Unit {0}

abbrev pub Any : {T : Type 0} → ℕ → T → Type 0
Any n x = Unit {0}

abbrev pub AnyLength : ℕ → ℤ → Type 0
AnyLength n z = Unit {0}

-- a test that refuses or lets pass
pub checked : (ds : List TypeDef) (told : List Ty → Facts → Answer (Unit {0})) (r : Result (Unit {0}) Stop)
    → ((ts : List Ty) (facts : Facts) → Answers (λ (_ : Unit {0}). tt) (told ts facts) r) → IfOk r (Always (length ds))
    → Judges ds ds (λ (ts : List Ty) (_ : Unit {0}). tt) told Always r
checked ds told r a w = record { grown = grown_same ds; answers = λ ts facts u. a ts facts; fits = w }

-- ---- one call behind another, said in other words

pub stop_as : {A B S T : Type 0} {old new : List TypeDef} {part : List Ty → S → A} {told : List Ty → Facts → Answer A}
    {inside : ℕ → S → Type 0} {s : Stop}
    (of : List Ty → T → B) (said : List Ty → Facts → Answer B) (within : ℕ → T → Type 0) (go : List Ty → Facts → A → Answer B)
    → ((ts : List Ty) (facts : Facts) → Under old ts facts → said ts facts ≡ and_then (told ts facts) (go ts facts))
    → Judges old new part told inside (Err s) → Judges old new of said within (Err s)
stop_as of said within go e j = said_so said (λ ts facts u. e ts facts (j.grown.under ts facts u)) (stops_there of go within j)

pub go_as : {A B S T : Type 0} {old mid new : List TypeDef} {part : List Ty → S → A} {told : List Ty → Facts → Answer A}
    {inside : ℕ → S → Type 0} {x : S}
    {of : List Ty → T → B} {within : ℕ → T → Type 0} {r : Result T Stop} (said : List Ty → Facts → Answer B)
    (go : List Ty → Facts → A → Answer B)
    → ((ts : List Ty) (facts : Facts) → Under old ts facts → said ts facts ≡ and_then (told ts facts) (go ts facts))
    → Judges old mid part told inside (Ok x) → Judges mid new of (λ ts facts. go ts facts (part ts x)) within r → Judges old new of said within r
go_as said go e j k = said_so said (λ ts facts u. e ts facts (j.grown.under ts facts (k.grown.under ts facts u))) (goes_on go j k)

-- the same said in other words, under the types of before
pub said_from : {A T : Type 0} {old new : List TypeDef} {of : List Ty → T → A} {other : List Ty → Facts → Answer A} {within : ℕ → T → Type 0}
    {r : Result T Stop} (said : List Ty → Facts → Answer A) → ((ts : List Ty) (facts : Facts) → Under old ts facts → said ts facts ≡ other ts facts)
    → Judges old new of other within r → Judges old new of said within r
said_from said e j = said_so said (λ ts facts u. e ts facts (j.grown.under ts facts u)) j

-- ---- loops: what is said of the whole is said of what is left, behind what is done

pub record Yet {A : Type 0} (old now : List TypeDef) (whole rest : List Ty → Facts → Answer A) : Type 0 where
  pub grown : Grown old now
  pub leads : (ts : List Ty) (facts : Facts) → Under now ts facts → whole ts facts ≡ rest ts facts

pub yet_first : {A : Type 0} (ds : List TypeDef) (whole rest : List Ty → Facts → Answer A)
    → ((ts : List Ty) (facts : Facts) → Under ds ts facts → whole ts facts ≡ rest ts facts) → Yet ds ds whole rest
yet_first ds whole rest e = record { grown = grown_same ds; leads = e }

-- a part that stops
pub yet_stops : {A B S T : Type 0} {old now new : List TypeDef} {whole rest : List Ty → Facts → Answer A} {part : List Ty → S → B}
    {told : List Ty → Facts → Answer B} {inside : ℕ → S → Type 0} {s : Stop} (of : List Ty → T → A) (within : ℕ → T → Type 0)
    (go : List Ty → Facts → B → Answer A) → Yet old now whole rest
    → ((ts : List Ty) (facts : Facts) → rest ts facts ≡ and_then (told ts facts) (go ts facts)) → Judges now new part told inside (Err s)
    → Judges old new of whole within (Err s)
yet_stops {whole = whole} of within go y e j =
    goes_behind y.grown (stop_as of whole within go (λ ts facts u. y.leads ts facts u ∙ e ts facts) j)

-- a part that is answered
pub yet_goes : {A B S : Type 0} {old now new : List TypeDef} {whole rest : List Ty → Facts → Answer A} {part : List Ty → S → B}
    {told : List Ty → Facts → Answer B} {inside : ℕ → S → Type 0} {x : S} (go : List Ty → Facts → B → Answer A)
    (other : List Ty → Facts → Answer A)
    → Yet old now whole rest → ((ts : List Ty) (facts : Facts) → rest ts facts ≡ and_then (told ts facts) (go ts facts))
    → Judges now new part told inside (Ok x) → ((ts : List Ty) (facts : Facts) → Under new ts facts → go ts facts (part ts x) ≡ other ts facts)
    → Yet old new whole other
yet_goes go other y e j f = record {
  grown = grown_on y.grown j.grown;
  leads = λ ts facts u.
      y.leads ts facts (j.grown.under ts facts u) ∙ e ts facts ∙ ap (λ z. and_then z (go ts facts)) (j.answers ts facts u) ∙ f ts facts u;
}

-- behind the last part
pub yet_ends : {A T : Type 0} {old now : List TypeDef} {whole rest : List Ty → Facts → Answer A} (of : List Ty → T → A) (within : ℕ → T → Type 0)
    (x : T)
    → Yet old now whole rest → ((ts : List Ty) (facts : Facts) → rest ts facts ≡ Ok (of ts x)) → within (length now) x
    → Judges old now of whole within (Ok x)
yet_ends of within x y e w = record {
  grown = y.grown;
  answers = λ ts facts u. y.leads ts facts u ∙ e ts facts;
  fits = w;
}
