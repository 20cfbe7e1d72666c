-- The order of branches in a text.
use Rattle.std.specs.Prelude.{List, [], ◌∷◌, ◌++◌}

-- Tests and blocks: each condition before its block, or the one selector before all blocks; the block for all else comes last.
abbrev pub in_turn : {A : Type 0} → (tests blocks : List A) → List A
in_turn [] blocks = blocks
in_turn (test ∷ tests) [] = test ∷ tests
in_turn (test ∷ tests) (block ∷ blocks) = test ∷ block ∷ in_turn tests blocks

-- lists one after another
abbrev pub joined : {A : Type 0} → List (List A) → List A
joined [] = []
joined (first ∷ rest) = first ++ joined rest
