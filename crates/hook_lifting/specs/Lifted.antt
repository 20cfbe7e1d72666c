-- The lines of lifted hooks: each part once and in order.
use Rattle.std.specs.Prelude.{◌≡◌, ℕ, suc, ◌<◌, nat_le, Bool, true, false, ◌&&◌, if◌then◌else◌, List, [], ◌∷◌, ◌++◌, length, slice_get, Option, Some, None}
use Rattle.nim_types.specs.Table.{types_in, type_at, facts_in}
use Rattle.nim_types.specs.Forms.{form_of, levels}
use Rattle.nim_types.specs.declared.types.TypeDef.{TypeDef}
use Rattle.nim_types.specs.declared.types.TypeDef.TheVariants as D
use Rattle.nim_meaning.specs.Here.{is_hooked}
use Rattle.flat_code.specs.declared.line.Line.TheVariants as L
use Rattle.hook_lifting.specs.declared.lifted.Hook.{Hook}
use Rattle.hook_lifting.specs.declared.lifted.Hook.TheVariants.{Copies, Assigns, Sinks, Ends}
use Rattle.hook_lifting.specs.declared.lifted.Cut.{Cut}
use Rattle.hook_lifting.specs.declared.lifted.Lifted.{Lifted}
use Rattle.hook_lifting.specs.declared.lifted.LiftedLine.{LiftedLine}
use Rattle.hook_lifting.specs.declared.lifted.LiftedLine.TheVariants as O
use Rattle.hook_lifting.specs.declared.procedures.TheConstants.{MOST_LEVELS}

-- the hooks, in their order
abbrev pub all_hooks : List Hook
all_hooks = Copies ∷ Assigns ∷ Sinks ∷ Ends ∷ []

-- whether a number is that of a type with hooks
abbrev pub has_hooks : List TypeDef → (ty : ℕ) → Bool
has_hooks table ty = is_hooked (facts_in table) (type_at (types_in table) ty)

-- A type has no more levels than each type of a program's places. Others may be in a table, where nothing is of them.
abbrev pub is_shallow : List TypeDef → (ty : ℕ) → Bool
is_shallow table ty = nat_le (levels (form_of (facts_in table) (type_at (types_in table) ty))) MOST_LEVELS

-- one whose hooks are lifted
abbrev pub is_lifted : List TypeDef → (ty : ℕ) → Bool
is_lifted table ty = has_hooks table ty && is_shallow table ty

-- marks of types by their numbers say which are shallow
abbrev pub mark_or : Option Bool → Bool
mark_or (Some mark) = mark
mark_or None = true

abbrev pub AreMarked : List TypeDef → List Bool → Type 0
AreMarked table marks = (ty : ℕ) → ty < length table → mark_or (slice_get marks ty) ≡ is_shallow table ty

-- what has no hooks needs no end
abbrev pub is_needed : Hook → (hooked : Bool) → Bool
is_needed Ends hooked = hooked
is_needed hook hooked = true

-- Locations: 0 is where the hook works, 1 from where; 2 and 3 lead to parts of both, or 2 to a value under way. Values: a loop's number is 4, and how many
-- elements there are 5; 6 is the value at 0, and 7 the one at 1.
abbrev pub to_part : Hook → (ty : ℕ) → (part : ℕ) → List LiftedLine → List LiftedLine
to_part hook ty i k = O.Plain (L.Part 2 0 i) ∷ O.Plain (L.Part 3 1 i) ∷ O.Hook hook ty 2 3 ∷ k

-- the same for each element to which two lines lead, behind those that say how many there are
abbrev pub turn_lines : Hook → (of : ℕ) → (one other : LiftedLine) → List LiftedLine → List LiftedLine
turn_lines hook of one other k =
    O.Plain (L.Label 1) ∷ one ∷ other ∷ O.Hook hook of 2 3 ∷ O.Plain (L.CountTurn 4 5 false 1) ∷ O.Plain (L.Label 0) ∷ k

abbrev pub loop_lines : Hook → (of : ℕ) → (one other : LiftedLine) → List LiftedLine → List LiftedLine
loop_lines hook of one other k = O.Plain (L.Zero 4) ∷ O.Plain (L.Beyond 4 5 false 0) ∷ turn_lines hook of one other k

abbrev pub array_lines : Hook → (count of : ℕ) → List LiftedLine → List LiftedLine
array_lines hook n of k = O.Number 5 n ∷ loop_lines hook of (O.Member 2 0 4 n) (O.Member 3 1 4 n) k

-- a text or a sequence gets a copy: it is made under way, put in the place, and then what stood there ends
abbrev pub assigning_lines : (ty : ℕ) → List LiftedLine → List LiftedLine
assigning_lines ty k =
    O.Begin ty 2 ∷ O.Hook Copies ty 2 1 ∷ O.Pop 7 2 ∷ O.Exchange 6 0 7 ∷ O.Push 2 6 ∷ O.Hook Ends ty 2 2 ∷ O.Pop 6 2 ∷ k

abbrev pub sinking_lines : (ty : ℕ) → List LiftedLine → List LiftedLine
sinking_lines ty k = O.Trade 0 1 ∷ O.Hook Ends ty 1 1 ∷ k

-- a sequence with such elements is copied
abbrev pub copying_lines : (ty of : ℕ) → List LiftedLine → List LiftedLine
copying_lines ty of k =
    O.Load 7 1 ∷ O.Take ty 6 0 7 ∷ O.Count 5 7 ∷ loop_lines Copies of (O.Element 2 6 0 4) (O.Element 3 7 1 4) k

-- a sequence keeps so many of its elements, and those behind end
abbrev pub cutting_lines : (of : ℕ) → List LiftedLine → List LiftedLine
cutting_lines of k =
    O.Load 6 0
    ∷ O.Shorten 0 6 8
    ∷ O.Count 5 6
    ∷ O.Copy 4 8
    ∷ O.Plain (L.Beyond 4 5 false 0)
    ∷ turn_lines Ends of (O.Element 2 6 0 4) (O.Element 3 6 0 4) (O.Forget 6 8 ∷ k)

abbrev pub cut_lines : (of : ℕ) → List LiftedLine
cut_lines of = cutting_lines of (O.Plain (L.Return None) ∷ [])

abbrev pub cut_if : Bool → (ty of : ℕ) → List Cut
cut_if true ty of = record { ty = ty; lines = cut_lines of } ∷ []
cut_if false ty of = []

-- copies and ends of texts are routines
abbrev pub text_lines : Hook → (ty : ℕ) → List LiftedLine → List LiftedLine
text_lines Assigns ty k = assigning_lines ty k
text_lines Sinks ty k = sinking_lines ty k
text_lines hook ty k = k

abbrev pub of_text : Hook → Bool
of_text Copies = true
of_text Ends = true
of_text hook = false

abbrev pub is_routine : TypeDef → Hook → Bool
is_routine D.Text hook = of_text hook
is_routine d hook = false

-- of each entry, by its number, from one on
abbrev pub each_from : {X : Type 0} → ((ty : ℕ) → TypeDef → List X) → List TypeDef → (ty : ℕ) → List X
each_from of [] ty = []
each_from of (d ∷ ds) ty = of ty d ++ each_from of ds (suc ty)

-- ---- by the table, whose types have forms

module _ (table : List TypeDef) where
  abbrev pub if_needed : Hook → (ty : ℕ) → (lines rest : List LiftedLine) → List LiftedLine
  if_needed hook ty lines rest = if is_needed hook (has_hooks table ty) then lines else rest

  abbrev pub one_part : Hook → (ty : ℕ) → (part : ℕ) → List LiftedLine → List LiftedLine
  one_part hook ty i k = if_needed hook ty (to_part hook ty i k) k

  abbrev pub part_lines : Hook → (parts : List ℕ) → (part : ℕ) → List LiftedLine → List LiftedLine
  part_lines hook [] i k = k
  part_lines hook (ty ∷ tys) i k = one_part hook ty i (part_lines hook tys (suc i) k)

  -- a sequence ends behind its elements
  abbrev pub elements_end : (of : ℕ) → List LiftedLine → List LiftedLine
  elements_end of k = if has_hooks table of then O.Count 5 6 ∷ loop_lines Ends of (O.Element 2 6 0 4) (O.Element 3 6 0 4) k else k

  abbrev pub ending_lines : (ty of : ℕ) → List LiftedLine → List LiftedLine
  ending_lines ty of k = O.Load 6 0 ∷ elements_end of (O.GiveBack ty 0 6 ∷ k)

  abbrev pub sequence_lines : Hook → (ty of : ℕ) → List LiftedLine → List LiftedLine
  sequence_lines Copies ty of k = copying_lines ty of k
  sequence_lines Assigns ty of k = assigning_lines ty k
  sequence_lines Sinks ty of k = sinking_lines ty k
  sequence_lines Ends ty of k = ending_lines ty of k

  -- A distinct type has the hook of its base. Refs, and objects with hooks of their own, come with these.
  abbrev pub entry_lines : Hook → (ty : ℕ) → TypeDef → List LiftedLine → List LiftedLine
  entry_lines hook ty D.Text k = text_lines hook ty k
  entry_lines hook ty (D.Seq of) k = sequence_lines hook ty of k
  entry_lines hook ty (D.Array n of) k = array_lines hook n of k
  entry_lines hook ty (D.Tuple names parts) k = part_lines hook parts 0 k
  entry_lines hook ty (D.Object name at of fields own_hooks parts) k = if own_hooks then k else part_lines hook parts 0 k
  entry_lines hook ty (D.Distinct name at base) k = O.Hook hook base 0 1 ∷ k
  entry_lines hook ty d k = k

  abbrev pub lines_of : Hook → (ty : ℕ) → TypeDef → List LiftedLine
  lines_of hook ty d = if is_routine d hook then [] else entry_lines hook ty d (O.Plain (L.Return None) ∷ [])

  -- ---- of all types of the table that are shallow

  abbrev pub hooks_of : (ty : ℕ) → TypeDef → List Hook → List Lifted
  hooks_of ty d [] = []
  hooks_of ty d (hook ∷ hooks) = record { ty = ty; hook = hook; lines = lines_of hook ty d } ∷ hooks_of ty d hooks

  abbrev pub of_entry : (ty : ℕ) → TypeDef → List Lifted
  of_entry ty d = if is_lifted table ty then hooks_of ty d all_hooks else []

  abbrev pub lifted : List Lifted
  lifted = each_from of_entry table 0

  -- of sequences whose elements have hooks
  abbrev pub cut_entry : (ty : ℕ) → TypeDef → List Cut
  cut_entry ty (D.Seq of) = cut_if (has_hooks table of && is_shallow table ty) ty of
  cut_entry ty d = []

  abbrev pub cuts : List Cut
  cuts = each_from cut_entry table 0
