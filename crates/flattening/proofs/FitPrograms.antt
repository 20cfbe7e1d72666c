-- The flat code of a typed program fits.
use Rattle.std.proofs.Common.{◌≡◌, ℕ, zero, suc, ◌+◌, ◌⊎◌, inl, inr, Bool, true, false, List, [], ◌∷◌, ◌++◌, Option, Some, None, refl, sym, ap, ap₂, ◌∙◌}
use Rattle.std.proofs.Common.{subst, arith}
use Rattle.std.specs.Prelude.{nat_eq, ◌&&◌, ◌||◌, not, if◌then◌else◌, map, slice_get, option_map}
use Rattle.std.proofs.lemmas.Bool.{and_parts, and_from, not-true}
use Rattle.nim_types.specs.Types as type
use Rattle.nim_types.specs.Types.{Ty, Facts, same}
use Rattle.nim_types.specs.Forms as form
use Rattle.nim_types.specs.Forms.{Form, HasForm, of_int, has_resource}
use Rattle.nim_types.specs.Table.{type_at as type_by_number}
use Rattle.nim_types.proofs.ForCallers.{same_sound, same_refl, the_form}
use Rattle.nim_plan.specs.declared.plan.Plan.{Plan}
use Rattle.nim_program.specs.declared.expr.Node.{Node}
use Rattle.nim_program.specs.declared.program.HookOf.{HookOf}
use Rattle.nim_program.specs.declared.program.Mode.{Mode}
use Rattle.nim_program.specs.Program.{Literal, Number, Characters, NoObject, PartsOf, ElementsOf, Declared, Param, Body, Proc, Program}
use Rattle.nim_program.specs.Program.{Stmts, Empty, Then, Declare, Defer}
use Rattle.nim_program.specs.Folds.{lists, total_in, total_of, own_places, if_declared}
use Rattle.nim_program.specs.Kinds.{is_among_types, is_constant, is_there, same_value, are_among_types, are_declared}
use Rattle.nim_program.specs.Numbering.{is_numbered, is_numbered_if, are_numbered, is_numbered_program}
use Rattle.nim_program.specs.Scopes.{Placed, placed}
use Rattle.nim_program.specs.Typed.{own_types, param_declared, body_types, type_of_place, are_held, dest_of, before, is_typed_body, is_typed_if, hook_fits}
use Rattle.nim_program.specs.Typed.{is_typed_proc}
use Rattle.nim_program.specs.Typed.{are_typed_procs, is_typed_start, IsTyped, procedure, module_code, is_typed_stmt, is_typed_code, is_empty, are_typed}
use Rattle.nim_program.specs.Typed.{starts, is_next}
use Rattle.nim_meaning.specs.LeftOut.{left_out_in_block, left_out_in_head, left_out_in_body, left_out_in_proc, left_out_in_procs}
use Rattle.nim_meaning.specs.LeftOut.{first_of, IsBuilt}
use Rattle.nim_meaning.specs.Shapes.{mode_in, modes_in}
use Rattle.flat_code.specs.declared.code.CodeProc.{CodeProc}
use Rattle.flat_code.specs.declared.line.Line.{Line}
use Rattle.flat_code.specs.declared.line.Line.TheVariants as L
use Rattle.flat_code.specs.declared.place.FlatPlace.{FlatPlace}
use Rattle.flat_code.specs.Codes.{flat_plain}
use Rattle.flat_code.specs.Fits.{Signature, signature_of, is_global, is_own, is_declared, place_named, if_type_of, has_lines_for, start_places, signatures}
use Rattle.flat_code.specs.Fits.{proc_fits, each_fits, code_fits}
use Rattle.flat_code.specs.Fits.{are_none, params_at, results_at, all_fit}
use Rattle.flat_code.specs.Running.{before_last}
use Rattle.flat_code.specs.Scene.{Known}
use Rattle.flat_code.specs.Waits.{all_wait_right, AllWaitRight}
use Rattle.flat_code.specs.Leads.{may_fill, LeadsRight, AllLeadRight}
use Rattle.flat_code.specs.Shapes.{shape_of}
use Rattle.flat_code.proofs.ForCallers.{AreSorted, IsOf, simple_of, constant_shape, text_shape}
use Rattle.flattening.specs.Flattened.{known_of, modes_of}
use Rattle.flattening.specs.Formed.{IsListed}
use Rattle.flattening.specs.Given.{flat_body, flat_proc, flat_procs}
use Rattle.flattening.specs.Numbering.{type_number, width_in, width_of}
use Rattle.flattening.specs.Places.{block_places, body_places}
use Rattle.flattening.specs.StmtLines.{Exits, in_scope, number_of, outermost, returned, param_ends, lines_of, body_lines}
use Rattle.flattening.proofs.DeclaredGlobals.{BodyListed, body_listed, Found, globals_in}
use Rattle.flattening.proofs.Direct.{is_characters, has_own_hooks, is_direct_stmt, is_direct_block, direct_block}
use Rattle.flattening.proofs.Fit.{Fit, fit_none, fit_line, ◌>>◌}
use Rattle.flattening.proofs.FitBlocks as blocks
use Rattle.flattening.proofs.FitBodies as bodies
use Rattle.flattening.proofs.FitBodies.{look_each, each_placed}
use Rattle.flattening.proofs.FitParts.{never, value_same}
use Rattle.flattening.proofs.FitParts as parts
use Rattle.flattening.proofs.FitTests as standing
use Rattle.flattening.proofs.FitLoops as loops
use Rattle.flattening.proofs.FitStmts as stmts
use Rattle.flattening.proofs.Numbered.{Owns, owns_first, owns_second}
use Rattle.flattening.proofs.PlaceNumbers.{stmt_numbers, block_numbers}
use Rattle.flattening.proofs.Parts.{Each, apart}
use Rattle.flattening.proofs.StoodPlaces.{Mark, marks_in, marks_of, stood_by}
use Rattle.flattening.proofs.Plain.{neither, none_earlier}
use Rattle.flattening.proofs.Puts as puts
use Rattle.flattening.proofs.Weights.{plain_same}

pub none_mapped : (o : Option Node) → option_map (λ (node : Node). node.at) o ≡ None → o ≡ None
none_mapped None e = refl
none_mapped (Some node) e = cc

one : {A : Type 0} {x y : A} → Some x ≡ Some y → x ≡ y
one e = cc

nothing : {A : Type 0} {B : Type 0} {x : A} → None ≡ Some x → B
nothing e = cc

-- ---- lists

before_last_end : {A : Type 0} (xs : List A) (x : A) → before_last (xs ++ x ∷ []) ≡ xs
before_last_end [] x = refl
before_last_end (y ∷ []) x = refl
before_last_end (y ∷ z ∷ xs) x = ap (λ ys. y ∷ ys) (before_last_end (z ∷ xs) x)

pub start_end : (xs : List (CodeProc Line)) (x : CodeProc Line) → start_places (xs ++ x ∷ []) ≡ x.places
start_end [] x = refl
start_end (y ∷ []) x = refl
start_end (y ∷ z ∷ xs) x = start_end (z ∷ xs) x

map_twice : {A B C : Type 0} (g : B → C) (f : A → B) (xs : List A) → map g (map f xs) ≡ map (λ x. g (f x)) xs
map_twice g f [] = refl
map_twice g f (x ∷ xs) = ap (λ ys. g (f x) ∷ ys) (map_twice g f xs)

get_map : {A B : Type 0} (f : A → B) (xs : List A) (n : ℕ) (x : A) → slice_get xs n ≡ Some x → slice_get (map f xs) n ≡ Some (f x)
get_map f [] n x e = nothing e
get_map f (y ∷ xs) zero x e = ap (λ z. Some (f z)) (one e)
get_map f (y ∷ xs) (suc n) x e = get_map f xs n x e

some_for : (places : List FlatPlace) (lines : List Line) → puts.is_empty lines ≡ false → has_lines_for places lines ≡ true
some_for [] lines h = refl
some_for (p ∷ places) [] h = never (sym h)
some_for (p ∷ places) (l ∷ lines) h = refl

-- a type that has its own number is one of the table, or that of what has none
listed_among : (types : List Ty) (ty : Ty) → IsListed types ty → (is_among_types types ty ≡ true) ⊎ (ty ≡ type.int)
listed_among [] ty e = inr (sym e)
listed_among (t ∷ ts) ty e = at (same t ty) refl e (listed_among ts ty)
  where
    or_true : (b : Bool) {c : Bool} → c ≡ true → b || c ≡ true
    or_true true h = refl
    or_true false h = h

    at : (b : Bool) → same t ty ≡ b → type_by_number (t ∷ ts) (if b then zero else suc (type_number ts ty)) ≡ ty →
        (IsListed ts ty → (is_among_types ts ty ≡ true) ⊎ (ty ≡ type.int)) → (is_among_types (t ∷ ts) ty ≡ true) ⊎ (ty ≡ type.int)
    at true h e rest = inl (ap (λ b. b || is_among_types ts ty) (subst (λ u. same ty u ≡ true) (sym (same_sound t ty h)) (same_refl ty)))
    at false h e rest = more (rest e)
      where
        more : (is_among_types ts ty ≡ true) ⊎ (ty ≡ type.int) → (is_among_types (t ∷ ts) ty ≡ true) ⊎ (ty ≡ type.int)
        more (inl k) = inl (or_true (same ty t) k)
        more (inr k) = inr k

-- ---- a program

module _ (program : Program) (plan : Plan) where
  abbrev types : List Ty
  types = program.types

  abbrev facts : Facts
  facts = program.facts

  abbrev globals : List Placed
  globals = map placed program.globals

  abbrev known : Known
  known = known_of program

  abbrev modes : (proc position : ℕ) → Mode
  modes = modes_of program plan

  abbrev proc_of : Proc → CodeProc Line
  proc_of p = flat_proc program plan p.hook p.params p.body

  abbrev sig_of : Proc → Signature
  sig_of p = signature_of known (proc_of p).places

  abbrev sigs : List Signature
  sigs = map sig_of program.procs

  abbrev start : List FlatPlace
  start = body_places types facts modes plan.sinks program.globals [] program.start

  -- a procedure, and procedures, that fit and let values wait where they say
  abbrev ProcRight : CodeProc Line → Type 0
  ProcRight p = (proc_fits flat_plain known sigs start p ≡ true) × (all_wait_right flat_plain known p.places p.lines ≡ true) × LeadsRight known p

  abbrev EachRight : List (CodeProc Line) → Type 0
  EachRight procs = (each_fits flat_plain known sigs start procs ≡ true) × AllWaitRight flat_plain known procs × AllLeadRight known procs

  one_right : (p : CodeProc Line) (procs : List (CodeProc Line)) → ProcRight p → EachRight procs → EachRight (p ∷ procs)
  one_right p procs right rest = (and_from _ _ right.0 rest.0, (right.1, rest.1), (right.2, rest.2))

  -- ---- bodies

  body_direct : (params : List Param) (body : Body) → left_out_in_body facts params body ≡ None → is_direct_block facts body.stmts ≡ true
  body_direct params body p =
      direct_block facts body.stmts
      (neither (left_out_in_head facts (first_of body.stmts) (param_declared params ++ if_declared body.result)) (left_out_in_block facts body.stmts) p).1

  abbrev whole_of : List Param → Body → List FlatPlace
  whole_of params body = body_places types facts modes plan.sinks program.globals params body

  -- the places of a body that stand for others
  abbrev stood_of : Body → ℕ → Bool
  stood_of body = stood_by (marks_of facts body.stmts)

  abbrev begun : ℕ → Bool
  begun = stood_of program.start

  held_all : (whole : List FlatPlace) (stands_for : ℕ → Bool) (ds : List Declared) →
      Each (λ (d : Declared). (if_type_of known (place_named is_own whole d.number) ≡ Some d.of) ×
      (if_type_of known (place_named is_declared whole d.number) ≡ Some d.of)) ds →
      Each (blocks.Held types facts modes program.procs globals sigs start whole stands_for) ds
  held_all whole stands_for [] h = tt
  held_all whole stands_for (d ∷ ds) h = (record { own = h.0.0; named = h.0.1 }, held_all whole stands_for ds h.1)

  module _ (grounds : (whole : List FlatPlace) (stands_for : ℕ → Bool) → parts.Grounds types facts modes program.procs globals sigs start whole stands_for)
      (found : Each (Found program plan) globals) where
    module _ (params : List Param) (body : Body) (numbered : is_numbered params body ≡ true) (listed : BodyListed program plan params body) where
      abbrev whole : List FlatPlace
      whole = whole_of params body

      abbrev stands_for : ℕ → Bool
      stands_for = stood_of body

      abbrev head : List Placed
      head = map placed (param_declared params ++ if_declared body.result)

      sees : (filled : ℕ) → parts.Sees types facts modes program.procs globals sigs start whole stands_for filled head
      sees filled = record {
        local = λ n ty e. look_each (λ m. if_type_of known (place_named is_declared whole m)) head n ty
            (each_placed (λ m. if_type_of known (place_named is_declared whole m)) (param_declared params ++ if_declared body.result)
            (bodies.head_found types facts modes plan.sinks program.globals params body numbered listed.taken listed.given)) e;
        global = λ n ty e. look_each (λ m. if_type_of known (place_named is_global start m)) globals n ty found (blocks.look_taken filled globals n ty e);
      }

      held : Each (blocks.Held types facts modes program.procs globals sigs start whole stands_for) (total_of lists own_places body.stmts)
      held = held_all whole stands_for (total_of lists own_places body.stmts)
          (bodies.held types facts modes plan.sinks program.globals params body numbered listed.stmts)

      marks_all : (ms : List Mark) → Each (bodies.IsPlaced types facts modes plan.sinks program.globals params body) ms →
          Each (blocks.Marked types facts modes program.procs globals sigs start whole stands_for) ms
      marks_all [] h = tt
      marks_all (m ∷ ms) h = (record { fills = h.0.fills; stands = h.0.stands }, marks_all ms h.1)

      marks : Each (blocks.Marked types facts modes program.procs globals sigs start whole stands_for) (marks_of facts body.stmts)
      marks = marks_all (marks_of facts body.stmts) (bodies.marks_found types facts modes plan.sinks program.globals params body numbered)

      abbrev pub exits : Exits
      exits = outermost (λ k. param_ends types facts params (returned body.result k))

      abbrev Named : Declared → Type 0
      Named d = if_type_of known (place_named is_declared whole d.number) ≡ Some d.of

      ends_fit : (ps : List Param) → Each (λ (d : Declared). IsListed types d.of) (param_declared ps) → Each Named (param_declared ps) →
          Fit (parts.around types facts modes program.procs globals sigs start whole stands_for) (param_ends types facts ps)
      ends_fit [] l d = fit_none
      ends_fit (p ∷ ps) l d =
          ends_fit ps l.1 d.1
          >> standing.place_end_fits types facts modes program.procs globals sigs start whole stands_for body.result (grounds whole stands_for) p.place l.0 d.0

      params_end : Fit (parts.around types facts modes program.procs globals sigs start whole stands_for) (param_ends types facts params)
      params_end =
          ends_fit params listed.taken
          (apart Named (param_declared params) (if_declared body.result)
          (bodies.head_found types facts modes plan.sinks program.globals params body numbered listed.taken listed.given)).0

      exits_fit : standing.ExitsFit types facts modes program.procs globals sigs start whole stands_for body.result (grounds whole stands_for) exits
      exits_fit = record {
        breaks = fit_none;
        continues = fit_none;
        returns = params_end
            >> fit_line (L.Return (number_of body.result)) refl
            (bodies.returns types facts modes plan.sinks params body.result _ (bodies.others types facts modes plan.sinks program.globals params body));
      }

      -- a body whose lines fit, and let values wait where they say
      pub body_right : (hook : Option HookOf) → Fit (parts.around types facts modes program.procs globals sigs start whole stands_for)
          (lines_of types facts modes body.result body.stmts exits 0) → ProcRight (flat_body program plan hook params body)
      body_right hook fit =
          let last = returned body.result [] in
          let lines = body_lines types facts modes params body in (
            and_from _ _
                (some_for whole lines (fit.some (param_ends types facts params last) (params_end.some last refl)))
                (and_from _ _ (bodies.ordered types facts modes plan.sinks program.globals params body numbered)
                (ap (all_fit known sigs start whole) (plain_same lines) ∙ fit.all (param_ends types facts params last) (exits_fit.returns.all [] refl))),
            fit.waits (param_ends types facts params last) (exits_fit.returns.waits [] refl),
            record {
              stands = stands_for;
              all = fit.leads (param_ends types facts params last) (exits_fit.returns.leads [] refl);
            },
          )

  -- ---- procedures by number

  mode_found : (procs : List Proc) (n : ℕ) (p : Proc) → slice_get procs n ≡ Some p → (j : ℕ) → modes_in plan.sinks procs n j ≡ mode_in plan.sinks p.params j
  mode_found [] n p is j = nothing is
  mode_found (q ∷ procs) zero p is j = ap (λ (r : Proc). mode_in plan.sinks r.params j) (one is)
  mode_found (q ∷ procs) (suc n) p is j = mode_found procs n p is j

  module _ (typed : are_typed_procs program program.procs ≡ true) where
    at_proc : (procs : List Proc) (n : ℕ) (proc : Proc) → slice_get procs n ≡ Some proc → are_typed_procs program procs ≡ true →
        is_typed_proc program proc ≡ true
    at_proc [] n proc is h = nothing is
    at_proc (q ∷ procs) zero proc is h = subst (λ q. is_typed_proc program q ≡ true) (one is) (and_parts (is_typed_proc program q) _ h).0
    at_proc (q ∷ procs) (suc n) proc is h = at_proc procs n proc is (and_parts (is_typed_proc program q) _ h).1

    typed_body : (p : Proc) (body : Body) → p.body ≡ Some body → is_typed_proc program p ≡ true →
        is_typed_body program (dest_of p.hook p.params) p.params p.gives body ≡ true
    typed_body p body e h =
        subst (λ b. is_typed_if program (dest_of p.hook p.params) p.params p.gives b ≡ true) e
        (and_parts (hook_fits program p.hook p.params p.gives p.body) _ h).1

    -- what it takes and gives
    signed : (p : Proc) (body : Body) → p.body ≡ Some body → is_typed_proc program p ≡ true →
        sig_of p ≡ record { takes = bodies.takes_of types facts modes plan.sinks p.params; gives = p.gives }
    signed p body e h =
        let t = typed_body p body e h in
        let q = and_parts (are_among_types types (body_types p.params body) && _) _ t in
        let r = and_parts (are_among_types types (body_types p.params body)) _ q.0 in
        let s = (and_parts (are_held facts (param_declared p.params ++ if_declared body.result)) (same_value (type_of_place body.result) p.gives)
        (and_parts _ (nat_eq (before program body.first) (before program (body.first + body.places))) r.1).0).1 in
        let l = body_listed program plan p.params body r.0 in
        ap (λ b. signature_of known (flat_proc program plan p.hook p.params b).places) e
        ∙ ap₂ (λ takes gives. record { takes = takes; gives = gives })
        (bodies.takes types facts modes plan.sinks p.params body.result _ (bodies.others types facts modes plan.sinks program.globals p.params body) l.taken)
        (bodies.gives types facts modes plan.sinks p.params body.result _ (bodies.others types facts modes plan.sinks program.globals p.params body) l.given
        ∙ value_same (type_of_place body.result) p.gives s)

  -- a call
  called : are_typed_procs program program.procs ≡ true → (whole : List FlatPlace) (stands_for : ℕ → Bool) (n : ℕ) (p : Proc) (body : Body) →
      slice_get program.procs n ≡ Some p →
      p.body ≡ Some body → parts.Signed types facts modes program.procs globals sigs start whole stands_for n p
  called typed whole stands_for n p body is has = record {
    signature = record { takes = bodies.takes_of types facts modes plan.sinks p.params; gives = p.gives };
    is = get_map sig_of program.procs n p is ∙ ap Some (signed typed p body has (at_proc typed program.procs n p is typed));
    gives = refl;
    takes = bodies.are_taken types facts modes plan.sinks program.procs globals sigs start whole stands_for n 0 p.params
        (λ j. ap (modes n) (behind_none j) ∙ mode_found program.procs n p is j);
  }
    where
      behind_none : (j : ℕ) → j + 0 ≡ j
      behind_none j = omega arith

  -- the result of a body gets what it gives
  result_right : (whole : List FlatPlace) (stands_for : ℕ → Bool) (result : Option Declared) (gives : Option Ty) →
      same_value (type_of_place result) gives ≡ true →
      ((d : Declared) → result ≡ Some d → if_type_of known (place_named is_own whole d.number) ≡ Some d.of) →
      ((d : Declared) → result ≡ Some d → may_fill known whole stands_for d.number ≡ true) → Each (λ (d : Declared). IsListed types d.of) (if_declared result) →
      (grounds : parts.Grounds types facts modes program.procs globals sigs start whole stands_for) →
      standing.ResultFits types facts modes program.procs globals sigs start whole stands_for result grounds result gives
  result_right places stands_for None gives h own fills listed grounds = sym (value_same None gives h)
  result_right places stands_for (Some d) gives h own fills listed grounds = (own d refl, sym (value_same (Some d.of) gives h), listed.0, fills d refl)

  result_listed : (result : Option Declared) (d : Declared) → result ≡ Some d → Each (λ (d : Declared). IsListed types d.of) (if_declared result) →
      IsListed types d.of
  result_listed None d e h = nothing e
  result_listed (Some c) d e h = subst (λ (c : Declared). IsListed types c.of) (one e) h.0

  module _ (grounds : (whole : List FlatPlace) (stands_for : ℕ → Bool) → parts.Grounds types facts modes program.procs globals sigs start whole stands_for)
      (found : Each (Found program plan) globals) where
    -- a procedure
    body_fits : (hook : Option HookOf) (dest : Option ℕ) (params : List Param) (gives : Option Ty) (body : Body) →
        is_typed_body program dest params gives body ≡ true → is_numbered params body ≡ true → is_direct_block facts body.stmts ≡ true →
        ProcRight (flat_body program plan hook params body)
    body_fits hook dest params gives body h numbered p =
        let q = and_parts (are_among_types types (body_types params body) && _) _ h in
        let r = and_parts (are_among_types types (body_types params body)) _ q.0 in
        let s = (and_parts (are_held facts (param_declared params ++ if_declared body.result)) (same_value (type_of_place body.result) gives)
        (and_parts _ (nat_eq (before program body.first) (before program (body.first + body.places))) r.1).0).1 in
        let b = (and_parts (not (is_empty body.stmts)) _ q.1).1 in
        let l = body_listed program plan params body r.0 in
        let whole = whole_of params body in
        let stands_for = stood_of body in
        body_right grounds found params body numbered l hook
        (stmts.block_fits types facts modes program.procs globals sigs start whole stands_for body.result (grounds whole stands_for) (before program body.first)
        (map placed (param_declared params ++ if_declared body.result)) dest (procedure gives) body.stmts (exits grounds found params body numbered l) 0
        (sees grounds found params body numbered l (before program body.first))
        (result_right whole stands_for body.result gives s
        (λ d e. (bodies.result_found types facts modes plan.sinks program.globals params body numbered d e (result_listed body.result d e l.given)).0)
        (λ d e. bodies.result_filled types facts modes plan.sinks program.globals params body numbered stands_for d e) l.given
        (grounds whole stands_for))
        (exits_fit grounds found params body numbered l)
        (record {
          typed = b;
          direct = p;
          listed = l.stmts;
          held = held grounds found params body numbered l;
          marks = marks grounds found params body numbered l;
          owns = bodies.owned types facts modes plan.sinks program.globals params body (0 + width_of body.stmts);
        }))

    procs_fit : (procs : List Proc) → are_typed_procs program procs ≡ true → are_numbered procs ≡ true → left_out_in_procs facts procs ≡ None →
        (more : List (CodeProc Line)) → EachRight more → EachRight (map proc_of procs ++ more)
    procs_fit [] h k p more rest = rest
    procs_fit (q ∷ procs) h k p more rest =
        let t = and_parts (is_typed_proc program q) (are_typed_procs program procs) h in
        let n = and_parts (is_numbered_if q.params q.body) (are_numbered procs) k in
        let o = none_earlier (left_out_in_proc facts q.params q.body) (left_out_in_procs facts procs) p in
        one_right (proc_of q) (map proc_of procs ++ more) (of_body q.body (and_parts (hook_fits program q.hook q.params q.gives q.body) _ t.0).1 n.0 o.0)
        (procs_fit procs t.1 n.1 o.1 more rest)
      where
        of_body : (body : Option Body) → is_typed_if program (dest_of q.hook q.params) q.params q.gives body ≡ true → is_numbered_if q.params body ≡ true →
            left_out_in_proc facts q.params body ≡ None → ProcRight (flat_proc program plan q.hook q.params body)
        of_body None h k p = (refl, refl, record { stands = λ n. false; all = refl })
        of_body (Some body) h k p =
            body_fits q.hook (dest_of q.hook q.params) q.params q.gives body h k (body_direct q.params body p)

    -- ---- the code of modules

    module _ (numbered : is_numbered [] program.start ≡ true) (listed : BodyListed program plan [] program.start) where
      abbrev result : Option Declared
      result = program.start.result

      abbrev first_places : List Placed
      first_places = map placed (if_declared result)

      abbrev ExitsFit : Exits → Type 0
      ExitsFit = standing.ExitsFit types facts modes program.procs globals sigs start start begun result (grounds start begun)

      abbrev Held : Declared → Type 0
      Held = blocks.Held types facts modes program.procs globals sigs start start begun

      abbrev Marked : Mark → Type 0
      Marked = blocks.Marked types facts modes program.procs globals sigs start start begun

      code_lines : (filled : ℕ) (b : Stmts) (exits : Exits) (t : ℕ) →
          standing.ResultFits types facts modes program.procs globals sigs start start begun result (grounds start begun) result None → ExitsFit exits →
          is_typed_code (parts.seen types facts modes program.procs globals sigs start start begun filled first_places None) b ≡ true →
          is_direct_block facts b ≡ true → Each (IsListed types) (total_of lists own_types b) → Each Held (total_of lists own_places b) →
          Each Marked (marks_of facts b) → Owns start (block_places types facts modes b t) t t (t + width_of b) →
          Fit (parts.around types facts modes program.procs globals sigs start start begun) (lines_of types facts modes result b exits t)
      code_lines filled Empty exits t gives fit h p l d marks owns = fit_none
      code_lines filled (Then first rest) exits t gives fit h p l d marks owns =
          let seen = parts.seen types facts modes program.procs globals sigs start start begun filled first_places None in
          let q = and_parts (is_typed_stmt seen module_code first) (is_typed_code seen rest) h in
          let r = and_parts (is_direct_stmt facts first) (is_direct_block facts rest) p in
          let m = apart (IsListed types) (total_in lists own_types first) (total_of lists own_types rest) l in
          let e = apart Held (total_in lists own_places first) (total_of lists own_places rest) d in
          let n = apart Marked (marks_in facts first) (marks_of facts rest) marks in
          stmts.stmt_fits types facts modes program.procs globals sigs start start begun result (grounds start begun) filled first_places None module_code first
          exits t (sees grounds found [] program.start numbered listed filled) gives fit
          (record {
            typed = q.0;
            direct = r.0;
            listed = m.0;
            held = e.0;
            marks = n.0;
            owns = owns_first (t + width_in first) (t + width_in first + width_of rest) (omega arith)
                (block_numbers types facts modes rest (t + width_in first)) owns;
          })
          >> code_lines filled rest exits (t + width_in first) gives fit q.1 r.1 m.1 e.1 n.1
          (owns_second t (t + width_in first) (t + width_in first + width_of rest) (omega arith) (omega arith) (omega arith)
          (stmt_numbers types facts modes first t) owns)
      code_lines filled (Declare node place cursor value rest) exits t gives fit h p l d marks owns =
          let seen = parts.seen types facts modes program.procs globals sigs start start begun filled first_places None in
          let q = and_parts (is_next (slice_get globals filled) (placed place) && (starts facts place.of value && are_typed seen value)) _ h in
          let r = and_parts (is_next (slice_get globals filled) (placed place)) (starts facts place.of value && are_typed seen value) q.0 in
          let k = loops.declared_known types facts modes program.procs globals sigs start start begun result (grounds start begun) filled first_places None
          node place cursor value rest t (sees grounds found [] program.start numbered listed filled) r.1 p l d marks owns in
          loops.declared_fits types facts modes program.procs globals sigs start start begun result (grounds start begun) filled first_places None
          (sees grounds found [] program.start numbered listed filled) node place cursor value rest exits t k
          (λ u o. code_lines (suc filled) rest (in_scope types facts modes result place exits) u gives
          (standing.scope_fits types facts modes program.procs globals sigs start start begun result (grounds start begun) place exits k.place_listed
          k.place_held fit)
          q.1 k.rest_direct k.rest_listed k.rest_held k.rest_marks o)
      code_lines filled (Defer node last rest) exits t gives fit h p l d marks owns = never h

  -- ---- constants

  -- a type with a number has a form
  pub listed_form : IsTyped program → (ty : Ty) → IsListed types ty → (f : Form) × HasForm facts ty f
  listed_form typed ty e = by (listed_among types ty e)
    where
      by : (is_among_types types ty ≡ true) ⊎ (ty ≡ type.int) → (f : Form) × HasForm facts ty f
      by (inl h) = typed.forms ty h
      by (inr e) = (form.plain, subst (λ (t : Ty). HasForm facts t form.plain) (sym e) of_int)

  simple_constant : IsTyped program → AreSorted facts → (ty : Ty) (literal : Literal) → IsListed types ty → has_own_hooks facts (Some ty) ≡ false →
      is_constant facts ty literal ≡ true → IsOf literal (shape_of facts ty)
  simple_constant typed sorted ty literal e unowned h =
      let f = listed_form typed ty e in
      constant_shape facts sorted f.1 (simple_of facts sorted f.1 (sym (ap has_resource (the_form f.1)) ∙ unowned)) literal h

  constants : IsTyped program → AreSorted facts → (ty : Ty) (literal : Literal) → IsListed types ty →
      is_characters literal || not (has_own_hooks facts (Some ty)) ≡ true →
      is_constant facts ty literal ≡ true → IsOf literal (shape_of facts ty)
  constants typed sorted ty (Characters bytes) e d h = text_shape facts sorted (listed_form typed ty e).1 bytes h
  constants typed sorted ty (Number z) e d h = simple_constant typed sorted ty (Number z) e (not-true (has_own_hooks facts (Some ty)) d) h
  constants typed sorted ty NoObject e d h = simple_constant typed sorted ty NoObject e (not-true (has_own_hooks facts (Some ty)) d) h
  constants typed sorted ty (PartsOf all) e d h = simple_constant typed sorted ty (PartsOf all) e (not-true (has_own_hooks facts (Some ty)) d) h
  constants typed sorted ty (ElementsOf all) e d h = simple_constant typed sorted ty (ElementsOf all) e (not-true (has_own_hooks facts (Some ty)) d) h

  -- ---- the whole

  start_right : (result : Option Declared) → not (is_there (type_of_place result)) ≡ true → result ≡ None
  start_right None h = refl
  start_right (Some d) h = never h

  start_none : (result : Option Declared) → result ≡ None → (params_at start ++ results_at start ≡ map (λ (d : Declared). d.number) (if_declared result)) →
      are_none (params_at start ++ results_at start) ≡ true
  start_none None e h = ap are_none h
  start_none (Some d) e h = nothing (sym e)

  pub program_fits : IsTyped program → is_numbered_program program ≡ true → IsBuilt program →
      AreSorted facts → (code_fits flat_plain known (flat_procs program plan) ≡ true) × AllWaitRight flat_plain known (flat_procs program plan)
      × AllLeadRight known (flat_procs program plan)
  program_fits typed numbered plain sorted =
      let t = and_parts (are_typed_procs program program.procs) (is_typed_start program program.start)
      (and_parts (are_declared facts types) _ typed.typed).1 in
      let k = and_parts (are_numbered program.procs) (is_numbered [] program.start) numbered in
      let p = none_earlier (left_out_in_procs facts program.procs) (left_out_in_body facts [] program.start) (none_mapped _ plain) in
      let s = and_parts (are_among_types types (body_types [] program.start) && not (is_there (type_of_place program.start.result))) _ t.1 in
      let a = and_parts (are_among_types types (body_types [] program.start)) (not (is_there (type_of_place program.start.result))) s.0 in
      let l = body_listed program plan [] program.start a.0 in
      let none = start_right program.start.result a.1 in
      let grounds : (whole : List FlatPlace) (stands_for : ℕ → Bool) → parts.Grounds types facts modes program.procs globals sigs start whole stands_for =
      λ whole stands_for. record {
        calls = called t.0 whole stands_for;
        constants = constants typed sorted;
      } in
      let found = globals_in program plan typed numbered in
      let first = flat_body program plan None [] program.start in
      let begins = body_right grounds found [] program.start k.1 l None
      (code_lines grounds found k.1 l 0 program.start.stmts (exits grounds found [] program.start k.1 l) 0
      (result_right start begun program.start.result None (ap (λ o. same_value (type_of_place o) None) none)
      (λ d e. (bodies.result_found types facts modes plan.sinks program.globals [] program.start k.1 d e
      (result_listed program.start.result d e l.given)).0)
      (λ d e. bodies.result_filled types facts modes plan.sinks program.globals [] program.start k.1 begun d e) l.given
      (grounds start begun)) (exits_fit grounds found [] program.start k.1 l) s.1 (body_direct [] program.start p.1)
      l.stmts (held grounds found [] program.start k.1 l) (marks grounds found [] program.start k.1 l)
      (bodies.owned types facts modes plan.sinks program.globals [] program.start (0 + width_of program.start.stmts))) in
      let procs = procs_fit grounds found program.procs t.0 k.0 p.0 (first ∷ []) (one_right first [] begins (refl, tt, tt)) in
      let places : start_places (flat_procs program plan) ≡ start = start_end (map proc_of program.procs) first in
      let signed_all : signatures flat_plain known (before_last (flat_procs program plan)) ≡ sigs =
      ap (signatures flat_plain known) (before_last_end (map proc_of program.procs) first)
      ∙ map_twice (λ (q : CodeProc Line). signature_of known q.places) proc_of program.procs in (
        and_from _ _
            (ap (λ ps. are_none (params_at ps ++ results_at ps)) places
            ∙ start_none program.start.result none
            (bodies.head_numbers types facts modes plan.sinks [] program.start.result _
            (bodies.others types facts modes plan.sinks program.globals [] program.start)))
            (ap₂ (λ signed ps. each_fits flat_plain known signed ps (flat_procs program plan)) signed_all places ∙ procs.0),
        procs.1,
        procs.2,
      )
