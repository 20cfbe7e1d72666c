-- The parts of a program that bound how much code it has: nodes, fresh values and dereferences in paths, the branches of a `case` and their labels,
-- bodies, and what isn't zero in constants that are built; and what ends at its exits. How often a text stands in its constants and labels, and how many
-- bytes constants with texts or sequences inside have.
use Rattle.std.specs.Prelude.{ℕ, suc, ◌+◌, pos, if◌then◌else◌, false, List, [], ◌∷◌, ◌++◌, length, Option, Some, None}
use Rattle.std.specs.Ordering.{int_eq}
use Rattle.nim_types.specs.Types.{Facts, same_text}
use Rattle.nim_program.specs.declared.operation.Use.TheVariants.{Owned}
use Rattle.nim_program.specs.declared.program.Mode.{Mode}
use Rattle.nim_program.specs.declared.stmt.Leaving.{Leaving}
use Rattle.nim_program.specs.declared.stmt.Leaving.TheVariants.{Break, Continue, Return}
use Rattle.nim_program.specs.Program.{Literal, Number, Characters, NoObject, PartsOf, ElementsOf, Literals, NoLiteral, ALiteral, Label, Ordinals, Exactly}
use Rattle.nim_program.specs.Program.{Giving}
use Rattle.nim_program.specs.Program.{Chooser, ByConditions, ByLabels, Args, Declared, While, Count, Each, Stmt, Do, Idle, Give, Leave, Select, Loop}
use Rattle.nim_program.specs.Program.{Raise, Try, Stmts, Empty, Then, Declare, Defer, Blocks, Otherwise, Block, Param, Body, Proc, Program}
use Rattle.nim_program.specs.Folds.{Standing, Part, Acting, Choosing, Leading, Looping, Handling, Seen, numbers, total_of, in_bodies}
use Rattle.nim_meaning.specs.Here.{is_hooked}
use Rattle.nim_meaning.specs.Waiting.{Wait, waiting_all, waiting_first}
use Rattle.flat_code.specs.declared.place.FlatPlace.{FlatPlace}
use Rattle.flat_code.specs.Codes.{waiting_in}
use Rattle.flat_code.specs.Pieces.{pieces_of}
use Rattle.flat_code.specs.Sizes.{pieces_texts, standing_texts, linked_bytes}

-- what isn't zero in a constant
abbrev mutual
  pub literal_parts : Literal → ℕ
  literal_parts (Number z) = if int_eq z (pos 0) then 0 else 1
  literal_parts (Characters text) = 1
  literal_parts NoObject = 0
  literal_parts (PartsOf all) = all_parts all
  literal_parts (ElementsOf all) = all_parts all

  pub all_parts : Literals → ℕ
  all_parts NoLiteral = 0
  all_parts (ALiteral first rest) = literal_parts first + all_parts rest

-- branches of a `case` and their labels
abbrev pub labels_parts : List (List Label) → ℕ
labels_parts [] = 0
labels_parts (labels ∷ rest) = suc (length labels + labels_parts rest)

abbrev pub chooser_parts : Chooser → ℕ
chooser_parts ByConditions = 0
chooser_parts (ByLabels labels) = labels_parts labels

-- of a part alone: what it is, and beside it a constant's parts, branches and labels. A loop without a head would have one more, and no source has one.
abbrev pub part_parts : Part → ℕ
part_parts (Acting (Giving literal)) = suc (literal_parts literal)
part_parts (Choosing chooser looked) = suc (chooser_parts chooser)
part_parts (Looping kind false) = 2
part_parts Handling = 0
part_parts part = 1

abbrev pub own_parts : Seen → ℕ
own_parts seen = part_parts seen.part

abbrev pub block_parts : Stmts → ℕ
block_parts = total_of numbers own_parts

abbrev pub body_parts : Body → ℕ
body_parts body = suc (block_parts body.stmts)

abbrev pub program_parts : Program → ℕ
program_parts = in_bodies numbers body_parts

-- values that may wait, of all procedures by their places
abbrev pub places_waiting : List (List FlatPlace) → ℕ
places_waiting [] = 0
places_waiting (places ∷ rest) = waiting_in places + places_waiting rest

-- ---- what ends where control leaves: pairs of an exit and what is around it, a place with hooks or a value that waits

-- how much is around a statement that control leaves, by each way
pub record Around : Type 0 where
  pub breaks : ℕ
  pub continues : ℕ
  pub returns : ℕ

abbrev pub left_by : Around → Leaving → ℕ
left_by around Break = around.breaks
left_by around Continue = around.continues
left_by around Return = around.returns

abbrev pub with_more : ℕ → Around → Around
with_more n around = record { breaks = n + around.breaks; continues = n + around.continues; returns = n + around.returns }

-- only a return leaves a loop from inside
abbrev pub in_turn : Around → Around
in_turn around = record { breaks = 0; continues = 0; returns = around.returns }

abbrev pub all_ends : (each : ℕ) → List Wait → ℕ
all_ends each [] = 0
all_ends each (w ∷ ws) = each + all_ends each ws

-- each pair counts so much
module _ (facts : Facts) (modes : (proc position : ℕ) → Mode) (each : ℕ) where
  abbrev pub place_counts : Declared → ℕ
  place_counts place = if is_hooked facts place.of then each else 0

  abbrev pub in_scope : Declared → Around → Around
  in_scope place around = with_more (place_counts place) around

  -- around the turns of a loop over what its place gets
  abbrev pub in_turns : Declared → Args → Around → Around
  in_turns place head around = in_scope place (in_turn (with_more (all_ends each (waiting_all facts modes head (λ i. Owned) 0)) around))

  abbrev mutual
    pub pairs_in : Stmt → Around → ℕ
    pairs_in (Do value) around = 0
    pairs_in (Idle node parts) around = 0
    pairs_in (Give node back value) around = if back then around.returns else 0
    pairs_in (Leave node leaving parts) around = left_by around leaving
    pairs_in (Select node ByConditions tests blocks) around = block_pairs blocks around
    pairs_in (Select node (ByLabels labels) tests blocks) around =
        block_pairs blocks (with_more (all_ends each (waiting_first facts modes tests)) around)
    pairs_in (Loop node While head body) around = pairs_of body (in_turn around)
    pairs_in (Loop node (Count place inclusive) head body) around = pairs_of body (in_turns place head around)
    pairs_in (Loop node (Each place) head body) around = pairs_of body (in_turns place head around)
    -- exceptions have no lines yet
    pairs_in (Raise node exception message) around = 0
    pairs_in (Try node body handlers last) around = 0

    pub pairs_of : Stmts → Around → ℕ
    pairs_of Empty around = 0
    pairs_of (Then first rest) around = pairs_in first around + pairs_of rest around
    pairs_of (Declare node place cursor value rest) around = pairs_of rest (in_scope place around)
    pairs_of (Defer node last rest) around = 0

    pub block_pairs : Blocks → Around → ℕ
    block_pairs (Otherwise block) around = pairs_of block around
    block_pairs (Block first rest) around = pairs_of first around + block_pairs rest around

  abbrev pub params_count : List Param → ℕ
  params_count [] = 0
  params_count (param ∷ params) = place_counts param.place + params_count params

  -- control leaves a body by its end too
  abbrev pub body_pairs : List Param → Body → ℕ
  body_pairs params body =
      params_count params + pairs_of body.stmts (record { breaks = 0; continues = 0; returns = params_count params })

  abbrev pub if_pairs : List Param → Option Body → ℕ
  if_pairs params None = 0
  if_pairs params (Some body) = body_pairs params body

  abbrev pub procs_pairs : List Proc → ℕ
  procs_pairs [] = 0
  procs_pairs (proc ∷ procs) = if_pairs proc.params proc.body + procs_pairs procs

  abbrev pub all_pairs : Program → ℕ
  all_pairs program = procs_pairs program.procs + body_pairs [] program.start

-- the modes are those of parameters to the callers
abbrev pub program_pairs : (modes : (proc position : ℕ) → Mode) → Program → ℕ
program_pairs modes program = all_pairs program.facts modes 1 program

-- ---- data

abbrev pub times : (text : List ℕ) → List (List ℕ) → ℕ
times text [] = 0
times text (other ∷ others) = (if same_text text other then 1 else 0) + times text others

-- the texts of a constant that is built, and of one that is read where it stands
abbrev pub built_texts : Literal → List (List ℕ)
built_texts literal = pieces_texts (pieces_of literal)

abbrev pub placed_texts : Literal → List (List ℕ)
placed_texts literal = standing_texts (pieces_of literal)

-- and of labels, which a selector is compared with
abbrev pub label_texts : Label → List (List ℕ)
label_texts (Ordinals low high) = []
label_texts (Exactly text) = text ∷ []

abbrev pub these_texts : List Label → List (List ℕ)
these_texts [] = []
these_texts (label ∷ labels) = label_texts label ++ these_texts labels

abbrev pub branch_texts : List (List Label) → List (List ℕ)
branch_texts [] = []
branch_texts (labels ∷ rest) = these_texts labels ++ branch_texts rest

abbrev pub chooser_texts : Chooser → List (List ℕ)
chooser_texts ByConditions = []
chooser_texts (ByLabels labels) = branch_texts labels

-- how often a text stands in a part, and in all
abbrev pub part_texts : Part → List (List ℕ)
part_texts (Acting (Giving literal)) = built_texts literal
part_texts (Choosing chooser looked) = chooser_texts chooser
part_texts (Leading read written (Standing literal)) = placed_texts literal
part_texts part = []

abbrev pub own_times : (text : List ℕ) → Seen → ℕ
own_times text seen = times text (part_texts seen.part)

abbrev pub body_times : (text : List ℕ) → Body → ℕ
body_times text body = total_of numbers (own_times text) body.stmts

abbrev pub program_times : (text : List ℕ) → Program → ℕ
program_times text = in_bodies numbers (body_times text)

-- a constant with texts or sequences inside, wherever it is built, and twice where it is read where it stands
abbrev pub part_constants : Part → ℕ
part_constants (Acting (Giving literal)) = linked_bytes (pieces_of literal)
part_constants (Leading read written (Standing literal)) = linked_bytes (pieces_of literal) + linked_bytes (pieces_of literal)
part_constants part = 0

abbrev pub own_constants : Seen → ℕ
own_constants seen = part_constants seen.part

abbrev pub body_constants : Body → ℕ
body_constants body = total_of numbers own_constants body.stmts

abbrev pub program_constants : Program → ℕ
program_constants = in_bodies numbers body_constants
