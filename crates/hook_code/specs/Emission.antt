-- Lists that are put together item by item.
use Rattle.std.specs.Prelude.{◌≡◌, List, ◌++◌}

-- what was put behind the old items stands before whatever follows
abbrev pub Puts : {A : Type 0} → (old new : List A) → (List A → List A) → Type 0
Puts {A} old new before = (k : List A) → new ++ k ≡ old ++ before k
