-- What has to be known of the whole text: each procedure has a body, and no `var` argument is a global that its procedure names.
use Rattle.std.specs.Prelude.{ℕ, zero, suc, Bool, true, false, not, ◌&&◌, ◌||◌, if◌then◌else◌, nat_eq, List, [], ◌∷◌, length, Option, Some, None, Ok, slice_get}
use Rattle.arc_base.specs.declared.place.Place.{Place}
use Rattle.arc_base.specs.declared.place.Code.TheVariants.{VarOfGlobal, MissingBody}
use Rattle.arc_base.specs.Refusal.{and_then, refused}
use Rattle.nim_program.specs.Program.{Body, Proc, Stmts, Empty, Then, Declare, Defer}
use Rattle.expr_rules.specs.Answers.{Answer}
use Rattle.decl_rules.specs.State.{Item, announces, completes, code}
use Rattle.decl_rules.specs.Occurrences.{Occurrence, global, calls, hands, in_block}

-- ---- the globals that procedures name: in a body, or in that of a procedure that is called, and so on

abbrev pub in_body : Option Body → List Occurrence
in_body None = []
in_body (Some b) = in_block b.stmts

abbrev pub in_proc : Option Proc → List Occurrence
in_proc None = []
in_proc (Some p) = in_body p.body

-- what occurs in the body of a procedure
abbrev pub occurring : List Proc → ℕ → List Occurrence
occurring all p = in_proc (slice_get all p)

-- a global, or a call of what names it
abbrev pub is_named : (g : ℕ) → (names : ℕ → Bool) → List Occurrence → Bool
is_named g names [] = false
is_named g names (global place ∷ rest) = if nat_eq g place then true else is_named g names rest
is_named g names (calls p ∷ rest) = if names p then true else is_named g names rest
is_named g names (hands p at place ∷ rest) = is_named g names rest

-- through at most so many calls
abbrev pub names_within : ℕ → List Proc → (g p : ℕ) → Bool
names_within zero all g p = false
names_within (suc n) all g p = is_named g (names_within n all g) (occurring all p)

-- as many calls as there are procedures lead everywhere
abbrev pub names : List Proc → (g p : ℕ) → Bool
names all g p = names_within (length all) all g p

-- ---- in order of text

abbrev pub unless_named : Bool → Place → Answer (Unit {0})
unless_named true at = refused VarOfGlobal at
unless_named false at = Ok tt

abbrev pub occurrence_rule : List Proc → Occurrence → Answer (Unit {0})
occurrence_rule all (global place) = Ok tt
occurrence_rule all (calls p) = Ok tt
occurrence_rule all (hands p at g) = unless_named (names all g p) at

abbrev pub occurrences_rule : List Proc → List Occurrence → Answer (Unit {0})
occurrences_rule all [] = Ok tt
occurrences_rule all (o ∷ rest) = and_then (occurrence_rule all o) (λ _. occurrences_rule all rest)

-- whether statements at the outermost level declare a global
abbrev pub declares_any : Stmts → Bool
declares_any Empty = false
declares_any (Then s rest) = declares_any rest
declares_any (Declare node place cursor value rest) = true
declares_any (Defer node last rest) = declares_any rest

-- whether the body of the procedure comes before a further global
abbrev pub comes_in_time : ℕ → List Item → Bool
comes_in_time p [] = false
comes_in_time p (announces q at ∷ rest) = comes_in_time p rest
comes_in_time p (completes q stmts ∷ rest) = nat_eq p q || comes_in_time p rest
comes_in_time p (code stmts ∷ rest) = not (declares_any stmts) && comes_in_time p rest

abbrev pub if_in_time : Bool → Place → Answer (Unit {0})
if_in_time true at = Ok tt
if_in_time false at = refused MissingBody at

-- an item before others
abbrev pub item_rule : List Proc → Item → List Item → Answer (Unit {0})
item_rule all (announces p at) rest = if_in_time (comes_in_time p rest) at
item_rule all (completes p stmts) rest = occurrences_rule all (in_block stmts)
item_rule all (code stmts) rest = occurrences_rule all (in_block stmts)

abbrev pub text_rule : List Proc → List Item → Answer (Unit {0})
text_rule all [] = Ok tt
text_rule all (item ∷ rest) = and_then (item_rule all item rest) (λ _. text_rule all rest)
