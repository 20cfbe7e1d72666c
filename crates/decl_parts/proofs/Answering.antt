-- Answers that are read in another way.
use Rattle.std.proofs.Common.{ap}
use Rattle.std.specs.Prelude.{Result, Ok, Err}
use Rattle.arc_base.specs.declared.place.Stop.{Stop}
use Rattle.arc_base.specs.declared.place.Stop.TheVariants as stop
use Rattle.arc_base.specs.Refusal.{Refusal, and_then, Answers}

pub mapped : {A B C T : Type 0} (of : T → A) (f : A → B) (said : Result C Refusal) (k : C → A) (r : Result T Stop)
    → Answers of (and_then said (λ s. Ok (k s))) r → Answers (λ x. f (of x)) (and_then said (λ s. Ok (f (k s)))) r
mapped of f (Ok s) k (Ok x) h = ap (λ a. and_then a (λ z. Ok (f z))) h
mapped of f (Ok s) k (Err (stop.Refused code at)) h = ap (λ a. and_then a (λ z. Ok (f z))) h
mapped of f (Ok s) k (Err stop.Memory) h = tt
mapped of f (Err e) k (Ok x) h = ap (λ a. and_then a (λ z. Ok (f z))) h
mapped of f (Err e) k (Err (stop.Refused code at)) h = ap (λ a. and_then a (λ z. Ok (f z))) h
mapped of f (Err e) k (Err stop.Memory) h = tt
