-- What is sure of deeds, one after another.
use Rattle.std.proofs.Common.{◌≡◌, refl, length}
use Rattle.holders.specs.Sure.{Sure}
use Rattle.nim_meaning.specs.State.{World}
use Rattle.nim_meaning.specs.Deeds.{Deed, Gives, Ends, Errs, Works, Says, Looks, Changes, Takes, changed, with_block, give, ◌>>=◌}

pub sure_then : {A B : Type 0} (deed : Deed A) (rest : A → Deed B) (P : A → World → Type 0) (Q : B → World → Type 0) (world : World) → Sure deed P world →
    ((x : A) (after : World) → P x after → Sure (rest x) Q after) → Sure (deed >>= rest) Q world
sure_then (Gives x) rest P Q world h g = g x world h
sure_then (Ends status) rest P Q world h g = tt
sure_then Errs rest P Q world h g = h
sure_then (Works n deed) rest P Q world h g = sure_then deed rest P Q world h g
sure_then (Says es deed) rest P Q world h g = sure_then deed rest P Q world h g
sure_then (Looks deed) rest P Q world h g = sure_then (deed world) rest P Q world h g
sure_then (Changes change deed) rest P Q world h g = sure_then deed rest P Q (changed change world) h g
sure_then (Takes class contents deed) rest P Q world h g =
    sure_then (deed (length world.heap.blocks)) rest P Q (with_block class contents world) h g

pub sure_weaker : {A : Type 0} (deed : Deed A) (P Q : A → World → Type 0) (world : World) → Sure deed P world →
    ((x : A) (after : World) → P x after → Q x after) → Sure deed Q world
sure_weaker (Gives x) P Q world h g = g x world h
sure_weaker (Ends status) P Q world h g = tt
sure_weaker Errs P Q world h g = absurd h
sure_weaker (Works n deed) P Q world h g = sure_weaker deed P Q world h g
sure_weaker (Says es deed) P Q world h g = sure_weaker deed P Q world h g
sure_weaker (Looks deed) P Q world h g = sure_weaker (deed world) P Q world h g
sure_weaker (Changes change deed) P Q world h g = sure_weaker deed P Q (changed change world) h g
sure_weaker (Takes class contents deed) P Q world h g =
    sure_weaker (deed (length world.heap.blocks)) P Q (with_block class contents world) h g

-- another answer behind a deed
pub sure_answer : {A B : Type 0} (deed : Deed A) (z y : B) (P : World → Type 0) (world : World) → Sure (deed >>= (λ u. give z)) (λ x after. P after) world →
    Sure (deed >>= (λ u. give y)) (λ x after. P after × (x ≡ y)) world
sure_answer (Gives x) z y P world h = (h, refl)
sure_answer (Ends status) z y P world h = tt
sure_answer Errs z y P world h = h
sure_answer (Works n deed) z y P world h = sure_answer deed z y P world h
sure_answer (Says es deed) z y P world h = sure_answer deed z y P world h
sure_answer (Looks deed) z y P world h = sure_answer (deed world) z y P world h
sure_answer (Changes change deed) z y P world h = sure_answer deed z y P (changed change world) h
sure_answer (Takes class contents deed) z y P world h = sure_answer (deed (length world.heap.blocks)) z y P (with_block class contents world) h
