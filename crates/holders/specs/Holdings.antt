-- What places hold, with the contents of their blocks; and what statements name. Strings and sequences are values: what a place holds changes only by a
-- statement that names it.
use Rattle.std.specs.Prelude.{◌≡◌, ℕ, Bool, true, false, List, [], ◌∷◌, map, suc, None}
use Rattle.nim_types.specs.Forms.{Form, plain, reference, block, elements, row, parts, resource, wrapped, Forms, no_forms, forms}
use Rattle.nim_program.specs.Program.{Stmt, Proc, Body, Program}
use Rattle.nim_program.specs.Folds.{Seen, Part, Named, Leading, lists, total_in, own_places, node_numbers}
use Rattle.nim_program.specs.Fitting.{is_in}
use Rattle.nim_program.specs.Kinds.{are_among_types}
use Rattle.nim_program.specs.Numbering.{numbers_of}
use Rattle.nim_program.specs.Scopes as scopes
use Rattle.nim_program.specs.Scopes.{Placed, placed}
use Rattle.nim_program.specs.Typed.{Around, is_typed_stmt, own_types, type_of_place}
use Rattle.nim_meaning.specs.Values.{Value, Fixed, Parts, Values, Nil, More, parts_of}
use Rattle.nim_meaning.specs.State.{World, State, load, text_of, elements_of}
use Rattle.nim_meaning.specs.Acts.{Does}
use Rattle.nim_meaning.specs.Here.{Here}
use Rattle.nim_meaning.specs.LeftOut.{left_out_in_stmt}
use Rattle.decl_rules.specs.Occurrences.{in_stmt}
use Rattle.decl_rules.specs.Whole.{names, is_named}
use Rattle.lending_laws.specs.Apart.{StmtLends, HandsUnnamed}
use Rattle.nim_meaning.specs.Meaning.{exec, calls, from_level}
use Rattle.nim_plan.specs.declared.plan.Plan.{Plan}
use Rattle.holders.specs.Sure.{Comes}
use Rattle.holders.specs.Territory.{Owner}
use Rattle.holders.specs.Asked.{Limits}
use Rattle.holders.specs.Evaluating.{seen_of}
use Rattle.holders.specs.BodyParts.{PartBegins, Sights}
use Rattle.holders.specs.Numbered.{Numbered}

-- ---- values with their contents

abbrev pub each_value : (Value → Value) → Values → Values
each_value go Nil = Nil
each_value go (More first rest) = More (go first) (each_value go rest)

-- A value of a form with what its blocks hold, and without their identities: of a text its characters, of a sequence its elements.
abbrev mutual
  pub looked_through : World → Form → Value → Value
  looked_through world plain v = v
  looked_through world reference v = v
  looked_through world block v = Fixed (text_of world v)
  looked_through world (elements f) v = Parts (each_value (looked_through world f) (elements_of world v))
  looked_through world (row n f) v = Parts (each_value (looked_through world f) (parts_of v))
  looked_through world (parts fs) v = Parts (all_looked_through world fs (parts_of v))
  looked_through world (resource fs) v = Parts (all_looked_through world fs (parts_of v))
  looked_through world (wrapped f) v = looked_through world f v

  pub all_looked_through : World → Forms → Values → Values
  all_looked_through world no_forms vs = Nil
  all_looked_through world (forms f fs) Nil = Nil
  all_looked_through world (forms f fs) (More first rest) = More (looked_through world f first) (all_looked_through world fs rest)

-- what a cell holds
abbrev pub held_in_cell : World → Owner → Value
held_in_cell world o = looked_through world o.form (load world o.at)

-- ---- what a statement names

-- the places of the body, read or written
abbrev pub named_by : Part → List ℕ
named_by (Leading read written (Named place false)) = place ∷ []
named_by part = []

abbrev pub own_named : Seen → List ℕ
own_named seen = named_by seen.part

abbrev pub only_named : Stmt → List Placed → List Placed
only_named stmt ps = seen_of (λ n. is_in n (total_in lists own_named stmt)) ps

-- and the globals, by itself or by procedures that it calls
abbrev pub names_place : List Proc → Stmt → (global : Bool) → ℕ → Bool
names_place procs stmt true n = is_named n (λ proc. names procs n proc) (in_stmt stmt)
names_place procs stmt _ n = true

abbrev pub naming : List Proc → (kept : ℕ → Bool) → Stmt → Limits
naming procs kept stmt = record { kept = kept; seen = names_place procs stmt }

-- ---- a statement of a program

abbrev pub scope_with : Program → (filled : ℕ) → List Placed → scopes.Here
scope_with program filled places = record {
  facts = program.facts;
  procs = program.procs;
  globals = map placed program.globals;
  filled = filled;
  places = places;
  dest = None;
}

-- where the code of a body runs, at a level from which so many further calls may be active
abbrev pub body_at : Program → Plan → (left level : ℕ) → Body → Here
body_at program plan left level body = from_level program plan level (calls program plan left (suc level)) body

-- It is typed where it stands in a body, built whole, lends no place twice, and its nodes and places have numbers of their own.
pub record StatementOf (program : Program) (here : Here) (body : Body) (filled : ℕ) (places : List Placed) (kept : ℕ → Bool) (around : Around) (stmt : Stmt) :
    Type 0 where
  pub gives : around.gives ≡ type_of_place body.result
  pub typed : is_typed_stmt (scope_with program filled places) around stmt ≡ true
  pub types : are_among_types program.types (total_in lists own_types stmt) ≡ true
  pub built : left_out_in_stmt program.facts stmt ≡ None
  pub lends : StmtLends kept stmt
  pub hands : HandsUnnamed program.procs (in_stmt stmt)
  pub numbered : Numbered here body.first body.places (scope_with program filled places) (naming program.procs kept stmt) (total_in lists own_places stmt)
      (total_in lists node_numbers stmt)

-- Another cell beside those of the places that are named, and of the body's result, holds behind a part of a body what it held before, by whichever way
-- the part is left.
abbrev pub KeepsOthers : {A : Type 0} → Here → (first places : ℕ) → scopes.Here → Limits → (ps ns : List ℕ) → Does A → Type 0
KeepsOthers here first places scope limits ps ns act =
    (o : Owner) (os : List Owner) (nodes : List ℕ) (s : State) → PartBegins here.level first places ps ns (o ∷ os) nodes s.world →
    Sights here scope limits os s.world →
    Comes (λ x after. held_in_cell after o ≡ held_in_cell s.world o) (λ way after. held_in_cell after o ≡ held_in_cell s.world o) (act s)

-- so it is of a statement
abbrev pub KeepsUnnamed : (program : Program) (here : Here) (body : Body) (filled : ℕ) (places : List Placed) (kept : ℕ → Bool) (stmt : Stmt) → Type 0
KeepsUnnamed program here body filled places kept stmt =
    KeepsOthers here body.first body.places (scope_with program filled (only_named stmt places)) (naming program.procs kept stmt)
    (numbers_of (total_in lists own_places stmt)) (total_in lists node_numbers stmt) (exec stmt here)
