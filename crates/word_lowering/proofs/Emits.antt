-- Code behind code.
use Rattle.std.proofs.Common.{◌≡◌, List, ◌++◌, Result, Ok, Err, OnOk, ap, ◌∙◌}
use Rattle.word_lowering.specs.Emission.{Puts}

pub then_puts : {A : Type 0} (f g : List A → List A) (old middle new : List A) → Puts old middle f → Puts middle new g → Puts old new (λ k. f (g k))
then_puts f g old middle new x y = λ k. y k ∙ x (g k)

-- what holds where a call answers Ok, in other words
pub ok_as : {T E P Q : Type 0} (r : Result T E) → (P → Q) → OnOk r P → OnOk r Q
ok_as (Ok x) f p = f p
ok_as (Err e) f p = tt

-- the same code in other words
pub put_as : {A : Type 0} (old new : List A) (f g : List A → List A) → Puts old new f → ((k : List A) → f k ≡ g k) → Puts old new g
put_as old new f g p e = λ k. p k ∙ ap (λ l. old ++ l) (e k)
