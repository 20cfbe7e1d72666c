-- What statements and expressions are put together of: points, groups of temporaries, rows of the table, choices.
use Rattle.std.specs.Prelude.{ℕ, suc, ◌-◌, Bool, true, false, ◌&&◌, int_le, nat_eq}
use Rattle.std.specs.Prelude.{List, [], ◌∷◌, length, Option, Some, None}
use Rattle.arc_base.specs.BigStep.{whole}
use Rattle.nim_types.specs.Types.{Ty, Facts}
use Rattle.nim_plan.specs.declared.plan.Plan.{Plan}
use Rattle.nim_program.specs.declared.operation.Short.{Short}
use Rattle.nim_program.specs.declared.operation.Short.TheVariants.{And, Or}
use Rattle.nim_program.specs.Program.{Label, Ordinals, Exactly, Act, Doing, Building, Giving, Calling}
use Rattle.nim_program.specs.Program.{Expr, Path, Args}
use Rattle.nim_program.specs.Program.{type_of, node_of, node_at, types_in}
use Rattle.nim_program.specs.Uses.{use_of}
use Rattle.nim_program.specs.declared.operation.Use.{Use}
use Rattle.nim_program.specs.declared.operation.Use.TheVariants.{Owned, Held}
use Rattle.nim_program.specs.Ints.{truth}
use Rattle.nim_meaning.specs.Values.{Value, Number, Fixed, number_of, bytes}
use Rattle.nim_meaning.specs.Values.{Location, Operand, slots_for}
use Rattle.nim_meaning.specs.State.{text_of, is_whole}
use Rattle.nim_meaning.specs.ActTree as points
use Rattle.nim_meaning.specs.ActTree.{Begins, Does as Done_by, Leaves}
use Rattle.nim_meaning.specs.Ways.{At as Spot}
use Rattle.nim_meaning.specs.Acts.{Broke, Continued, Returned, Raised, Outcome, On, Out, Does, give, leave, wrong, as_before, ◌>>=◌, ◌>>◌, at_exit}
use Rattle.nim_meaning.specs.Acts.{left_as, branch, costs, looks, change, passing, leaving_scope}
use Rattle.nim_meaning.specs.Deeds as deeds
use Rattle.nim_meaning.specs.Deeds.{Deed, Leaves, changed, carry, ◌>>=◌ as then_deed}
use Rattle.nim_meaning.specs.Lifted.{temporary_ends}
use Rattle.nim_meaning.specs.Here.{Here, gives_hooked, form_for, act_at}
use Rattle.nim_meaning.specs.Waiting.{Wait, waiting, waiting_all}
use Rattle.nim_meaning.specs.Aims.{handed_over, handed_bytes}
use Rattle.nim_meaning.specs.Places.{Destination, taken_by, made_by, kept_if, put}
use Rattle.nim_meaning.specs.Table.{acts, moved, default_for}
use Rattle.nim_meaning.specs.Shapes.{has_node, is_read, is_given}

-- a part passes a node in a role
abbrev pub at_node : {A : Type 0} → (node : ℕ) → points.Role → Does A → Does A
at_node node role act = passing (Spot node role) act

-- a path that is read passes its node, where it has one
abbrev pub at_path : {A : Type 0} → Path → Does A → Does A
at_path path act = branch (has_node path) (at_node (node_at path).number Done_by act) act

-- ---- groups

-- temporaries end, the last one first
abbrev pub all_end : (level : ℕ) → points.Flow → List Wait → Does (Unit {0})
all_end level flow [] = give tt
all_end level flow (w ∷ ws) =
    all_end level flow ws >> leaving_scope true (points.Temporary w.node) flow (carry (temporary_ends w.form level w.node))

-- A part with the temporaries that end with it, also where control leaves it.
abbrev pub ended : {A : Type 0} → Here → List Wait → Does A → Does A
ended here [] part = part
ended here (w ∷ ws) part = at_exit part (λ flow. all_end here.level (left_as flow) (w ∷ ws) >> as_before flow)

-- a statement, with its temporaries
abbrev pub grouped : {A : Type 0} → Here → (node : ℕ) → List Wait → Does A → Does A
grouped here node waits part = at_node node Begins (ended here waits part)

-- those of a value, of a path, of the values of a head, and of a selector
abbrev pub waits_of : Here → Expr → Use → List Wait
waits_of here value how = waiting here.facts here.modes value how

abbrev pub waits_in : Here → Args → List Wait
waits_in here head = waiting_all here.facts here.modes head (λ i. Owned) 0

-- an expression, with its temporaries
abbrev pub ended_value : Here → Expr → Use → Does Value → Does Value
ended_value here value how act = ended here (waits_of here value how) act

-- ---- rows

abbrev pub destination : Here → Use → (node : ℕ) → Destination
destination here how node = record { how = how; level = here.level; node = node }

-- what becomes of the value that an act gives: one of a literal is copied where it is somebody's own
abbrev pub kept_by : Act → (hooked : Bool) → Destination → Value → Deed Value
kept_by (Giving literal) hooked to v = made_by hooked to v
kept_by (Doing operation) hooked to v = kept_if hooked to v
kept_by (Building fields) hooked to v = kept_if hooked to v
kept_by (Calling proc types) hooked to v = kept_if hooked to v

-- a row of the table, and what becomes of the value that it gives
abbrev pub row : Facts → Act → Destination → Option Ty → List (Option Ty) → List Operand → Deed Value
row facts act to ty of xs = then_deed (acts act facts ty of xs) (kept_by act (gives_hooked facts ty) to)

-- an operation takes what it holds: from where it waited, it goes on by value
abbrev pub taking_up : {A : Type 0} → Here → (nodes : List ℕ) → Does A → Does A
taking_up here [] act = act
taking_up here (node ∷ nodes) act = change (changed (Leaves here.level node)) >> taking_up here nodes act

-- an exception that passes a call leaves by the call's node
abbrev pub left_at : {A : Type 0} → (node : ℕ) → Outcome A → Does A
left_at node (On x) = give x
left_at node (Out (Broke by)) = leave (Broke by)
left_at node (Out (Continued by)) = leave (Continued by)
left_at node (Out (Returned by)) = leave (Returned by)
left_at node (Out (Raised exception by)) = leave (Raised exception node)

-- a procedure is called
abbrev pub invoked : Here → (node proc : ℕ) → Use → Option Ty → List Operand → Does Value
invoked here node proc how ty xs =
    costs (suc (handed_bytes xs)) (at_exit (here.calls proc (slots_for xs)) (left_at node))
    >>= (λ v. carry (kept_if (gives_hooked here.facts ty) (destination here how node) v))

-- it is carried out, or a procedure called
abbrev pub carried : Here → (node : ℕ) → Act → Use → Option Ty → Args → List Operand → Does Value
carried here node (Doing operation) how ty operands xs = carry (row here.facts (Doing operation) (destination here how node) ty (types_in operands) xs)
carried here node (Building fields) how ty operands xs = carry (row here.facts (Building fields) (destination here how node) ty (types_in operands) xs)
carried here node (Giving literal) how ty operands xs = carry (row here.facts (Giving literal) (destination here how node) ty (types_in operands) xs)
carried here node (Calling proc types) how ty operands xs =
    invoked here node proc how ty (handed_over here.facts operands (use_of here.modes (Calling proc types)) 0 xs)

-- the value at a path that is read, a site by the number of its last node
abbrev pub got_by : Facts → Plan → Destination → (site : ℕ) → Option Ty → Location → Deed Value
got_by facts plan to site ty location = taken_by (gives_hooked facts ty) (form_for facts ty) to (act_at plan site) location

abbrev pub got : Here → Use → (site : ℕ) → Option Ty → Location → Does Value
got here how site ty location = carry (got_by here.facts here.plan (destination here how site) site ty location)

-- Whether a place gets a copy of what stands at a path: then the path is looked up, and the place copies from there. Every act of a plan is a copy so far.
abbrev pub gets_copy : Here → Use → Expr → Bool
gets_copy here how value = gives_hooked here.facts (type_of value) && (is_given how && is_read value)

-- ---- choices

-- the left operand decides, or the right one
abbrev pub early : Short → Bool → Does Value → Does Value
early And holds right = branch holds right (give (Number (truth false)))
early Or holds right = branch holds (give (Number (truth true))) right

-- a text is that of a literal, or was read for its labels
abbrev pub is_same : (label read : List ℕ) → Bool
is_same [] [] = true
is_same (c ∷ cs) (d ∷ ds) = nat_eq c d && is_same cs ds
is_same _ _ = false

abbrev pub fits_text : List ℕ → Value → Bool
fits_text t (Fixed read) = is_same t read
fits_text t x = false

abbrev pub fits_label : Label → Value → Bool
fits_label (Ordinals low high) x = branch (int_le low (number_of x)) (int_le (number_of x) high) false
fits_label (Exactly t) x = fits_text t x

-- a label that is tried is a work, with the bytes that are compared
abbrev pub label_work : Label → ℕ
label_work (Ordinals low high) = 1
label_work (Exactly t) = suc (length t)

-- the labels of one branch are tried in order
abbrev pub picked : {A : Type 0} → List Label → Value → Does A → Does A → Does A
picked [] x holds fails = fails
picked (label ∷ labels) x holds fails = costs (label_work label) (branch (fits_label label x) holds (picked labels x holds fails))

-- what labels are compared with: a number, or the text that a selector is now
abbrev pub selecting : {A : Type 0} → Here → Option Ty → Value → (Value → Does A) → Does A
selecting here ty x go = branch (gives_hooked here.facts ty)
    (looks (λ world. branch (is_whole world x) (costs (length (text_of world x)) (go (Fixed (text_of world x)))) wrong)) (go x)

-- The value of a branch, with the temporaries of the branch. One with hooks waits at its node while they end, as what an operation takes does, and is
-- then taken up: so it has a holder all the time.
abbrev pub branch_by : (hooked : Bool) → Here → Expr → (Use → Does Value) → Does Value
branch_by false here value by = ended_value here value Owned (by Owned)
branch_by true here value by = ended_value here value Owned (by Held) >>= (λ v. taking_up here ((node_of value).number ∷ []) (give v))

abbrev pub branch_value : Here → Expr → (Use → Does Value) → Does Value
branch_value here value by = branch_by (gives_hooked here.facts (type_of value)) here value by

-- the value of a branch is handed on, and that of the whole used
abbrev pub handed_by : Facts → Destination → Option Ty → Value → Deed Value
handed_by facts to None v = deeds.give v
handed_by facts to (Some ty) v = then_deed (moved v) (kept_if (gives_hooked facts (Some ty)) to)

abbrev pub handed_on : Here → Use → (node : ℕ) → Option Ty → Value → Does Value
handed_on here how node ty v = carry (handed_by here.facts (destination here how node) ty v)

-- No branch is chosen. That doesn't happen where a value is given: the labels cover the selector's type then.
abbrev pub none_fits : Option Ty → Here → Does Value
none_fits ty here = give (default_for here.facts ty)
