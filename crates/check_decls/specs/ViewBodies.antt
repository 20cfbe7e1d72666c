-- What the rules say of procedures behind their parts, and states in which their parameters are declared. Contracts of the pass
-- alone speak of it.
use Rattle.std.specs.Prelude.{◌≡◌, ℕ, zero, suc, ◌+◌, ◌<◌, List, [], ◌∷◌, ◌++◌, length, slice_set, codes, Bool, true, false}
use Rattle.std.specs.Prelude.{Option, Some, None, option_map, Ok}
use Rattle.arc_base.specs.declared.place.Place.{Place}
use Rattle.arc_base.specs.Refusal.{and_then}
use Rattle.nim_tree.specs.declared.stmt.ProcHead.{ProcHead}
use Rattle.nim_tree.specs.Statements.{Statement, Statements, empty, then, Head, head_of}
use Rattle.nim_types.specs.Types.{Ty}
use Rattle.nim_types.specs.Table.{IsBelow}
use Rattle.nim_program.specs.declared.stmt.PlaceDecl.{PlaceDecl}
use Rattle.nim_program.specs.declared.program.Body.{Body as RustBody}
use Rattle.nim_program.specs.declared.program.Proc.{Proc as RustProc}
use Rattle.nim_program.specs.Program.{Body}
use Rattle.nim_program.specs.View as view
use Rattle.nim_program.specs.View.{declared_of}
use Rattle.expr_rules.specs.Answers.{Answer}
use Rattle.expr_parts.specs.declared.scope.What.TheVariants as what
use Rattle.expr_parts.specs.declared.scope.Decl.{Decl}
use Rattle.decl_rules.specs.State.{State, in_module, in_body, left, noting, completes, is_completed, Stated, stated_as}
use Rattle.decl_rules.specs.Stated.{stated, all_stated}
use Rattle.decl_rules.specs.Heads.{Headed, procedure_name}
use Rattle.decl_rules.specs.Bodies.{behind_head, before_body, body_of, proc_of, without_body, result_of}
use Rattle.decl_parts.specs.declared.state.ResultPlace.{ResultPlace as RustResultPlace}
use Rattle.decl_parts.specs.declared.state.State.{State as RustState}
use Rattle.decl_parts.specs.View.{Beside, Ready, Stands, state_of}
use Rattle.check_uses.specs.declared.text.Item.{Item as RustItem}
use Rattle.check_uses.specs.declared.text.Item.TheVariants as item
use Rattle.check_decls.specs.declared.draft.Draft.{Draft}
use Rattle.decl_heads.specs.declared.signature.Signature.{Signature as RustSignature}
use Rattle.decl_heads.specs.declared.heads.Headed.{Headed as RustHeaded}
use Rattle.decl_heads.specs.ViewHeads.{signature_of, headed_of}

-- ---- statements of module code

-- with the note of it
abbrev pub noted_rule : State → Statement → Answer Stated
noted_rule st s = and_then (stated in_module None st s) (λ one. Ok (stated_as one.steps (noting true one)))

-- a body, where there is one, and the state behind it
pub record Bodied : Type 0 where
  pub body : Option Body
  pub state : State

abbrev pub bodied : Option Body → State → Bodied
bodied body st = record { body = body; state = st }

-- behind the head
abbrev pub some_body_rule : State → Head → Headed → Statements → Answer Bodied
some_body_rule st h k body =
    and_then (all_stated (in_body (result_of st h k)) (result_of st h k) (before_body st h k) body) (λ s.
    Ok (bodied (Some (body_of st h k s)) (left st s.state)))

abbrev pub body_rule : State → Head → Headed → Statements → Answer Bodied
body_rule st h k empty = Ok (bodied None (without_body st k))
body_rule st h k (then first rest) = some_body_rule st h k (then first rest)

-- the next place, behind so many parameters of what is borrowed
abbrev pub place_behind : (borrowed : Bool) → ℕ → ℕ → ℕ
place_behind true n count = n + count
place_behind false n count = n

abbrev pub noting_body : State → Place → Head → Headed → State → Option Body → State
noting_body st at h k after None = after
noting_body st at h k after (Some body) =
    record after {
      procs = slice_set after.procs k.number (proc_of at h k st.place (Some body));
      text = after.text ++ completes k.number body.stmts ∷ [];
    }

-- a procedure, where what its head says is known
abbrev pub proclaim_rule : State → Place → Head → Headed → Statements → Answer Stated
proclaim_rule st at h k body =
    and_then (body_rule (behind_head st at h k) h k body) (λ x.
    Ok (stated_as [] (noting_body (behind_head st at h k) at h k x.state x.body)))

abbrev pub bodied_as : List Ty → Beside → RustState → Option RustBody → Bodied
bodied_as ts b st body = bodied (option_map (view.body_of ts) body) (state_of ts b st)

-- ---- what a head declares

abbrev pub beside_in : State → Beside
beside_in st = record { procs = st.procs; text = st.text }

-- the state behind a head
pub record HeadDeclared (old new : RustState) (s : RustSignature) (k : RustHeaded) : Type 0 where
  pub types : new.types ≡ old.types
  pub stands : Stands old new
  pub known : (ts : List Ty) (b : Beside) (at : Place) (h : Head) → k.name ≡ procedure_name h.name
      → state_of ts (beside_in (behind_head (state_of ts b old) at h (headed_of ts s k))) new
      ≡ behind_head (state_of ts b old) at h (headed_of ts s k)

-- a new procedure has the next number; another is completed by a body, which hasn't come
pub record NumberFits (st : State) (k : Headed) (has_body : Bool) : Type 0 where
  pub next : k.is_new ≡ true → k.number ≡ length st.procs
  pub waits : k.is_new ≡ false → is_completed k.number st.text ≡ false
  pub whole : k.is_new ≡ false → has_body ≡ true

-- the procedure that is completed is there
abbrev pub CompletesThere : Draft → RustHeaded → Type 0
CompletesThere d k = k.is_new ≡ false → (k.number < length d.procs.items) × (k.number < length d.completed.items)

-- ---- places of parameters and results

abbrev pub result_decl : PlaceDecl → Decl
result_decl p = record { name = codes "result"; what = what.Variable p.number p.ty true false }

abbrev pub with_result_in : RustState → Option PlaceDecl → RustState
with_result_in s None = s
with_result_in s (Some p) =
    record s { scope = record s.scope { decls = s.scope.decls ++ result_decl p ∷ [] }; place = suc s.place }

abbrev pub place_type : Option PlaceDecl → Option ℕ
place_type None = None
place_type (Some p) = Some p.ty

-- the state in which a body begins, with the place of its result
pub record BodyBegun (old new : RustState) (h : ProcHead) (s : RustSignature) (place : Option PlaceDecl) : Type 0 where
  pub types : new.types ≡ old.types
  pub begins : (more : List Decl) × (new.scope.decls ≡ old.scope.decls ++ more)
  pub ready : Ready new
  pub known : (ts : List Ty) (b : Beside) (k : Headed) → k.signature ≡ signature_of ts s
      → state_of ts b new ≡ before_body (state_of ts b old) (head_of h) k
  pub within : IsBelow (length new.types) (place_type place)
  pub result : (ts : List Ty) (b : Beside) (k : Headed) → k.signature ≡ signature_of ts s
      → option_map (declared_of ts) place ≡ result_of (state_of ts b old) (head_of h) k

-- as statements know it
abbrev pub place_given : Option PlaceDecl → Option RustResultPlace
place_given None = None
place_given (Some p) = Some (record { number = p.number; at = p.at; ty = p.ty })

-- the result that a statement has to give, behind which so many come
abbrev pub last_result : Option RustResultPlace → ℕ → Option RustResultPlace
last_result gives zero = gives
last_result gives (suc n) = None

-- ---- what is noted of a procedure

abbrev pub announced_by : (borrowed : Bool) → ℕ → Place → List RustItem
announced_by true n at = []
announced_by false n at = item.Announces n at ∷ []

abbrev pub is_there : Option RustBody → Bool
is_there None = false
is_there (Some body) = true

abbrev pub finished_by : (whole : Bool) → ℕ → List RustItem
finished_by true n = item.Completes n ∷ []
finished_by false n = []

-- new, with the next number
pub record Added (old new : Draft) (p : RustProc) (borrowed : Bool) : Type 0 where
  pub procs : new.procs.items ≡ old.procs.items ++ p ∷ []
  pub completed : new.completed.items ≡ old.completed.items ++ is_there p.body ∷ []
  pub text : new.text ≡ (old.text ++ announced_by borrowed (length old.procs.items) p.at) ++ finished_by (is_there p.body) (length old.procs.items)
  pub start : new.start ≡ old.start

-- with its body, declared before
pub record Completed (old new : Draft) (n : ℕ) (p : RustProc) : Type 0 where
  pub there : n < length old.procs.items
  pub noted : n < length old.completed.items
  pub procs : new.procs.items ≡ slice_set old.procs.items n p
  pub completed : new.completed.items ≡ slice_set old.completed.items n true
  pub text : new.text ≡ old.text ++ item.Completes n ∷ []
  pub start : new.start ≡ old.start

abbrev pub Noted : (is_new : Bool) → (old new : Draft) → ℕ → RustProc → (borrowed : Bool) → Type 0
Noted true old new n p borrowed = Added old new p borrowed
Noted false old new n p borrowed = Completed old new n p
