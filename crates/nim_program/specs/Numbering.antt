-- Nodes and places are numbered in order of text.
use Rattle.std.specs.Prelude.{ℕ, suc, ◌+◌, nat_eq, nat_le, Bool, true, ◌&&◌, List, [], ◌∷◌, ◌++◌, map, Option, Some, None}
use Rattle.nim_program.specs.declared.nodes.TheConstants.{MOST_NODES}
use Rattle.nim_program.specs.Program.{Declared, Param, Body, Proc, Program}
use Rattle.nim_program.specs.Folds.{block_nodes, param_places, if_declared, body_places}

-- each is greater than the one before, from one number on and below another
abbrev pub rise_to : (from to : ℕ) → List ℕ → Bool
rise_to from to [] = nat_le from to
rise_to from to (n ∷ ns) = nat_le from n && rise_to (suc n) to ns

-- one after another
abbrev pub follow : (from : ℕ) → List ℕ → Bool
follow from [] = true
follow from (n ∷ ns) = nat_eq from n && follow (suc from) ns

abbrev pub numbers_of : List Declared → List ℕ
numbers_of places = map (λ d. d.number) places

-- Nodes are numbered from those before the body on, below a bound. So are places, among those of the body, the first ones its parameters
-- and its result.
abbrev pub is_numbered : List Param → Body → Bool
is_numbered params body =
    rise_to body.before MOST_NODES (block_nodes body.stmts)
    && (follow body.first (numbers_of (param_places params ++ if_declared body.result))
    && rise_to body.first (body.first + body.places) (numbers_of (body_places params body)))

abbrev pub is_numbered_if : List Param → Option Body → Bool
is_numbered_if params None = true
is_numbered_if params (Some body) = is_numbered params body

abbrev pub are_numbered : List Proc → Bool
are_numbered [] = true
are_numbered (p ∷ procs) = is_numbered_if p.params p.body && are_numbered procs

abbrev pub is_numbered_program : Program → Bool
is_numbered_program program = are_numbered program.procs && is_numbered [] program.start
