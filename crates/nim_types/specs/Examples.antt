-- Types and their forms, worked out by hand.
use Rattle.std.specs.Prelude.{[], ◌∷◌, Some, true, false, codes}
use Rattle.nim_types.specs.Types.{Ty, int, text, sequence, array, tuple, object, distinct, ref, no_types, types, fields, base, Facts}
use Rattle.nim_types.specs.Forms.{Form, reference, parts, resource, wrapped, no_forms, forms}

-- (int, string)
abbrev pub pair : Ty
pair = tuple [] (types int (types text no_types))

-- array[3, seq[int]]
abbrev pub three : Ty
three = array 3 (sequence int)

-- type N = ref object
--   other: N
abbrev pub node : Ty
node = object (record { name = codes "N"; at = record { «module» = 0; line = 1; column = 6 } }) no_types

-- an object H with hooks of its own and no field, and D = distinct H
abbrev pub handle : Ty
handle = object (record { name = codes "H"; at = record { «module» = 0; line = 3; column = 6 } }) no_types

abbrev pub renamed : Ty
renamed = distinct (record { name = codes "D"; at = record { «module» = 0; line = 4; column = 6 } })

abbrev pub declared : Facts
declared =
    record { of = node; fact = fields (record { name = codes "other"; shown = false; of = ref (Some (codes "N")) node } ∷ []) false }
    ∷ record { of = handle; fact = fields [] true }
    ∷ record { of = renamed; fact = base handle }
    ∷ []

abbrev pub node_form : Form
node_form = parts (forms reference no_forms)

abbrev pub renamed_form : Form
renamed_form = wrapped (resource no_forms)

-- type E = object
--   inner: array[2, E]
abbrev pub endless : Ty
endless = object (record { name = codes "E"; at = record { «module» = 0; line = 7; column = 6 } }) no_types

abbrev pub endless_fact : Facts
endless_fact = record { of = endless; fact = fields (record { name = codes "inner"; shown = false; of = array 2 endless } ∷ []) false } ∷ []
