-- The names in a line that have to be of types without hooks: what gets a value, a location or is filled, and what is read. A call, what leads to a place
-- or a value, what starts a place and what returns are followed whatever they have.
use Rattle.std.proofs.Common.{List, [], ◌∷◌}
use Rattle.flat_code.specs.declared.line.From.{From}
use Rattle.flat_code.specs.declared.line.From.TheVariants as F
use Rattle.flat_code.specs.declared.line.Line.{Line}
use Rattle.flat_code.specs.declared.line.Line.TheVariants as L
use Rattle.word_lowering.proofs.Scenes.{Name, of_value, of_location, of_place}

abbrev pub names_from : List From → List Name
names_from [] = []
names_from (F.Value t ∷ from) = of_value t ∷ names_from from
names_from (F.Place t ∷ from) = of_location t ∷ names_from from

abbrev pub names_in : Line → List Name
names_in (L.Apply to operation how ty of from) = of_value to ∷ names_from from
names_in (L.Construct to how ty fields from) = of_value to ∷ names_from from
names_in (L.Constant to how ty pieces) = of_value to ∷ []
names_in (L.Get to from how ty) = of_value to ∷ of_location from ∷ []
names_in (L.Look to from) = of_value to ∷ of_location from ∷ []
names_in (L.Standing to ty pieces) = of_location to ∷ []
names_in (L.Part to from field) = of_location to ∷ of_location from ∷ []
names_in (L.Item to from index) = of_location to ∷ of_location from ∷ []
names_in (L.Object to from) = of_location to ∷ of_location from ∷ []
names_in (L.Pass to from how ty) = of_value to ∷ of_value from ∷ []
names_in (L.Truth to holds) = of_value to ∷ []
names_in (L.Fill place from) = of_place place ∷ []
names_in (L.Give place from) = of_place place ∷ []
names_in (L.Zero to) = of_value to ∷ []
names_in (L.Length to from) = of_value to ∷ of_location from ∷ []
names_in (L.Still from length) = of_location from ∷ []
names_in (L.Element to from index) = of_value to ∷ of_location from ∷ []
names_in (L.Beyond counter last inclusive to) = of_value counter ∷ []
names_in (L.Next counter last) = of_value counter ∷ []
names_in (L.CountTurn counter last inclusive to) = of_value counter ∷ []
names_in line = []
