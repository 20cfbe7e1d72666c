-- Values at their homes that are made of numbers: what is stored there is there word by word.
use Rattle.std.proofs.Common.{◌≡◌, ℕ, true, List, refl}
use Rattle.nim_types.specs.declared.types.TypeDef.{TypeDef}
use Rattle.nim_meaning.specs.Values.{Value}
use Rattle.flat_code.specs.Shapes.{Shape, has_shape}
use Rattle.word_code.specs.Words.{Vars}
use Rattle.word_lowering.specs.declared.spots.Spot.{Spot}
use Rattle.word_lowering.specs.declared.spots.Spot.TheVariants.{Held, Lies, Letter}
use Rattle.word_lowering.specs.Spots.{spot_of}
use Rattle.word_lowering.proofs.NumbersStored.{numbers_at, at_numbers}
use Rattle.word_lowering.proofs.Scenes.{Store, is_fixed, AtHome, At, Name, of_value, of_location, of_place, asks_shape, Call, IsItem, IsNumbers, looked, house}
use Rattle.word_lowering.proofs.ShapeFacts.{of_numbers}
use Rattle.word_lowering.proofs.Scenes.{of_waiting}

at_plain : (k : Store) (base : ℕ) (vars : Vars) (s : Shape) (spot : Spot) (x : Value) → of_numbers s ≡ true → has_shape x s ≡ true
    → AtHome k base vars s spot x → At k.memory base vars spot x
at_plain k base vars s (Held v) x o h at = at
at_plain k base vars s (Lies home) x o h at = (at.0, at.1, numbers_at (is_fixed k.ground) k.ground.blocks k.memory at.0 s x o h at.2)
at_plain k base vars s (Letter home) x o h at = at

at_home : (k : Store) (base : ℕ) (vars : Vars) (s : Shape) (spot : Spot) (x : Value) → of_numbers s ≡ true → has_shape x s ≡ true
    → At k.memory base vars spot x → AtHome k base vars s spot x
at_home k base vars s (Held v) x o h at = at
at_home k base vars s (Lies home) x o h at = (at.0, at.1, at_numbers (is_fixed k.ground) k.ground.blocks k.memory at.0 s x o h at.2)
at_home k base vars s (Letter home) x o h at = at

asked_numbers : (name : Name) (s : Shape) → of_numbers s ≡ true → asks_shape name s ≡ true
asked_numbers (of_value t) s o = refl
asked_numbers (of_location t) s o = o
asked_numbers (of_place n) s o = o
asked_numbers (of_waiting node) s o = o

pub numbers_of : (table : List TypeDef) (k : Store) (c : Call) (name : Name) (x : Value) → of_numbers (looked table c.site name) ≡ true
    → IsItem table k c name x → IsNumbers table k.memory c name x
numbers_of table k c name x o item =
    let shaped = item.shaped (asked_numbers name (looked table c.site name) o) in
    record {
      there = item.there;
      numbers = o;
      plain = item.plain;
      shaped = shaped;
      at = at_plain k c.site.base c.vars (looked table c.site name) (spot_of (house c.site name)) x o shaped item.at;
    }

pub item_of : (table : List TypeDef) (k : Store) (c : Call) (name : Name) (x : Value) → IsNumbers table k.memory c name x → IsItem table k c name x
item_of table k c name x item = record {
  there = item.there;
  plain = item.plain;
  shaped = λ n. item.shaped;
  at = at_home k c.site.base c.vars (looked table c.site name) (spot_of (house c.site name)) x item.numbers item.shaped item.at;
}
