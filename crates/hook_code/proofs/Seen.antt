-- What is looked at and seen is something.
use Rattle.std.proofs.Common.{◌≡◌, true}
use Rattle.std.proofs.lemmas.Bool.{false≢true, and_parts}
use Rattle.nim_meaning.specs.Values.{Value, Number, Parts, Handle, Fixed, Ref, Resource, Gone, Vacant, Location}
use Rattle.nim_meaning.specs.State.{World, load, is_seen, is_there, is_whole}
use Rattle.hook_code.specs.Surroundings.{IsFull}

pub seen_full : (w : World) (l : Location) → is_seen w l ≡ true → IsFull (load w l)
seen_full w l seen = by (load w l) (and_parts (is_there w l) (is_whole w (load w l)) seen).1
  where
    by : (v : Value) → is_whole w v ≡ true → IsFull v
    by (Number n) whole = tt
    by (Parts all) whole = tt
    by (Handle n k) whole = tt
    by (Fixed text) whole = tt
    by (Ref object) whole = tt
    by (Resource all identity) whole = tt
    by (Gone v final) whole = tt
    by Vacant whole = absurd (false≢true whole)
