-- From the answers of calls to those that put them together.
use Rattle.std.specs.Prelude.{Result, Ok, Err, IfOk}
use Rattle.arc_base.specs.declared.place.Stop.{Stop}
use Rattle.arc_base.specs.declared.place.Stop.TheVariants as stop
use Rattle.arc_base.specs.Refusal.{Answers}
use Rattle.expr_rules.specs.Answers.{Answer}

-- a stop says the same whatever is made of answers
pub stops_as : {A S T : Type 0} (of : T → A) (part : S → A) (said : Answer A) (s : Stop) → Answers part said (Err s) → Answers of said (Err s)
stops_as of part said (stop.Refused code at) h = h
stops_as of part said stop.Memory h = tt

-- what holds of an answer, by two facts
pub if_both : {A E : Type 0} {P Q R : A → Type 0} (r : Result A E) → IfOk r P → IfOk r Q → ((x : A) → P x → Q x → R x) → IfOk r R
if_both (Ok x) p q f = f x p q
if_both (Err e) p q f = tt
