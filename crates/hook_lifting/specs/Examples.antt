-- A tuple of a text, a sequence of texts and an int, and a world in which one stands.
use Rattle.std.specs.Prelude.{ℕ, suc, pos, List, [], ◌∷◌, Option, Some, None, option_map}
use Rattle.nim_types.specs.declared.types.TypeDef.{TypeDef}
use Rattle.nim_types.specs.declared.types.TypeDef.TheVariants as D
use Rattle.nim_meaning.specs.Heap.{Block, Characters, Elements, heap_of}
use Rattle.nim_meaning.specs.Values.{Value, Number, Parts, Handle, Nil, More, Holds, vacant}
use Rattle.nim_meaning.specs.State.{World, world_of}
use Rattle.nim_meaning.specs.Deeds.{Done, Answers, Finishes, Fails, perform}
use Rattle.nim_meaning.specs.Places.{place_at}
use Rattle.flat_code.specs.declared.line.Line.TheVariants as L
use Rattle.flat_code.specs.Scene.{Known, known_in}
use Rattle.flat_code.specs.Lines.{form_in}
use Rattle.hook_lifting.specs.declared.lifted.Hook.{Hook}
use Rattle.hook_lifting.specs.declared.lifted.LiftedLine.{LiftedLine}
use Rattle.hook_lifting.specs.declared.lifted.LiftedLine.TheVariants as O
use Rattle.hook_lifting.specs.Lifted.{lines_of}
use Rattle.hook_lifting.specs.Lifting.{hook_deed, beginning, comes_to}

abbrev pub mixed : TypeDef
mixed = D.Tuple [] (0 ∷ 2 ∷ 1 ∷ [])

abbrev pub table : List TypeDef
table = D.Text ∷ D.Int ∷ D.Seq 0 ∷ mixed ∷ []

abbrev pub known : Known
known = known_in table

-- the lines of a hook of the tuple, and their first and their last part
abbrev pub lines : Hook → List LiftedLine
lines hook = lines_of table hook 3 mixed

abbrev pub a_part : Hook → (ty part : ℕ) → List LiftedLine → List LiftedLine
a_part hook ty i k = O.Plain (L.Part 2 0 i) ∷ O.Plain (L.Part 3 1 i) ∷ O.Hook hook ty 2 3 ∷ k

-- ---- a world: ("ab", @["x"], 7) stands at place 0, and nothing at place 1 yet

abbrev pub standing : Value
standing = Parts (More (Handle 2 (Some 0)) (More (Handle 1 (Some 1)) (More (Number (pos 7)) Nil)))

abbrev pub blocks : List (Option Block)
blocks =
    Some (record { class = 0; contents = Characters (97 ∷ 98 ∷ []) })
    ∷ Some (record { class = 0; contents = Elements (More (Handle 1 (Some 2)) Nil) })
    ∷ Some (record { class = 0; contents = Characters (120 ∷ []) })
    ∷ []

abbrev pub world : World
world = record (world_of (record {
  first = 0;
  slots = Some (Holds standing) ∷ Some (Holds (vacant (form_in known 3))) ∷ [];
  temporaries = [];
  handling = [];
} ∷ []) 10000 []) { heap = record (heap_of 10000) { blocks = blocks } }

abbrev live_in : List (Option Block) → ℕ
live_in [] = 0
live_in (None ∷ blocks) = live_in blocks
live_in (Some block ∷ blocks) = suc (live_in blocks)

abbrev live_of : Done (Unit {0}) → ℕ
live_of (Answers es n x world) = live_in world.heap.blocks
live_of (Finishes es n status world) = live_in world.heap.blocks
live_of (Fails es n world) = live_in world.heap.blocks

-- how many blocks are live behind a hook, by its lines and by its walk
abbrev pub live_after : Hook → (to from : ℕ) → Option ℕ
live_after hook to from = option_map live_of (comes_to known 100 (beginning (lines hook) 0 (place_at 0 to) (place_at 0 from) world))

abbrev pub live_by_walk : Hook → (to from : ℕ) → ℕ
live_by_walk hook to from = live_of (perform (hook_deed known hook 3 (place_at 0 to) (place_at 0 from)) world)
