-- Calls in expressions, where calls give what they should.
use Rattle.std.proofs.Common.{◌≡◌, refl, sym, ap, subst, ◌∙◌, arith, ℕ, zero, suc, ◌+◌, ◌<◌, ◌≤◌, inl, inr, ◌⊎◌, Bool, true, false, List, [], ◌∷◌, ◌++◌, length}
use Rattle.std.proofs.Common.{Option}
use Rattle.std.proofs.Common.{Some, None}
use Rattle.std.specs.Prelude.{◌&&◌, nat_eq, map, slice_get, if◌then◌else◌}
use Rattle.std.proofs.lemmas.Bool.{and_parts, leb-true, false≢true}
use Rattle.std.proofs.lemmas.Option.{none-some, same_Some}
use Rattle.nim_types.specs.Types.{Ty, Facts}
use Rattle.nim_types.specs.Forms.{Form, form_of}
use Rattle.nim_plan.specs.declared.plan.Plan.{Plan}
use Rattle.nim_program.specs.declared.expr.Node.{Node}
use Rattle.nim_program.specs.declared.operation.Use.{Use}
use Rattle.nim_program.specs.declared.operation.Use.TheVariants.{Owned, Given as ToPlace, Held, Lent, Looked}
use Rattle.nim_program.specs.declared.program.Mode.{Mode}
use Rattle.nim_program.specs.declared.program.Mode.TheVariants as M
use Rattle.nim_program.specs.Program.{Calling, Expr, Apply, Path, Args, Param, Body, Proc, Program}
use Rattle.nim_program.specs.Kinds.{same_value}
use Rattle.nim_program.specs.Uses.{use_for, use_of}
use Rattle.nim_program.specs.Scopes as scopes
use Rattle.nim_program.specs.Scopes.{Placed, placed, given_if, is_var, is_no_hook, is_ready, are_taken, call_fits}
use Rattle.nim_program.specs.Typed.{act_fits, is_typed, is_typed_path, are_typed, before}
use Rattle.nim_meaning.specs.Values.{Value, Waiting, Operand, Slot, slots_for}
use Rattle.nim_meaning.specs.Marks.{Member, Distinct}
use Rattle.nim_meaning.specs.State.{World, State}
use Rattle.nim_meaning.specs.Acts.{at_exit, costs, worked}
use Rattle.nim_meaning.specs.Deeds.{carry}
use Rattle.nim_meaning.specs.Here.{Here, Calls, gives_hooked, form_for}
use Rattle.nim_meaning.specs.Waiting.{waiting_all}
use Rattle.nim_meaning.specs.Aims.{handed_over, handed_bytes}
use Rattle.nim_meaning.specs.Places.{kept_if}
use Rattle.nim_meaning.specs.Shapes.{is_sink, mode_of, mode_in, modes_in}
use Rattle.nim_meaning.specs.Steps.{destination, left_at, invoked}
use Rattle.nim_meaning.specs.Meaning.{from_level}
use Rattle.holders.specs.Sure.{Comes}
use Rattle.holders.specs.Becoming.{Strange, taken_in, times}
use Rattle.holders.specs.Territory.{Owner, AllOwners, ClearOf, NoBaseOf}
use Rattle.holders.specs.Working.{Works}
use Rattle.holders.specs.Ways.{targets_of}
use Rattle.holders.specs.Running.{IsBelow, Region}
use Rattle.holders.specs.Staging.{Holding, StageWith}
use Rattle.holders.specs.Called.{CallGives, gives_nothing, gives_value}
use Rattle.holders.specs.Asked.{Limits, AllWrite, Asked, AskedAt, AllAsked, FactsOfTheirSort}
use Rattle.holders.specs.Evaluating.{value_nodes, path_nodes, operand_nodes, at_nodes, seen_of, Scene, Leaves}
use Rattle.holders.specs.Claimed.{NoExit, From, HasValue, ValueSo, AimSo, ReadySo}
use Rattle.holders.specs.Procedures.{AllPaths, SiteSo, Handing, Returns, form_given, globals_before, CallsGive}
use Rattle.holders.proofs.Copying.{either_block}
use Rattle.holders.proofs.PlainRows.{none_clear}
use Rattle.holders.proofs.Working.{clear_both}
use Rattle.holders.proofs.Finding.{chain_owns}
use Rattle.holders.proofs.Separating.{separated}
use Rattle.holders.proofs.Calling.{all_below}
use Rattle.holders.proofs.CameBack.{call_gives, stage_given, holding_given}
use Rattle.holders.proofs.CalledValues.{called_value, called_none}
use Rattle.holders.proofs.Coming.{comes_then, comes_at_exit, comes_weaker}
use Rattle.holders.proofs.Scenes.{numbers_in}
use Rattle.holders.proofs.Claims.{scene_passes}
use Rattle.holders.proofs.PartsInTurn.{in_is, operands_in}
use Rattle.holders.proofs.FormKinds.{same_values}
use Rattle.holders.proofs.OperandKinds.{AllRegular}
use Rattle.holders.proofs.Applying.{OwnWaits, node_off}
use Rattle.holders.proofs.WholeOperations.{apply_waits}
use Rattle.holders.proofs.AllOfExpressions.{Elsewhere, value_so, aim_so}
use Rattle.holders.proofs.WholeExpressions.{CallsSo, all_but_calls}
use Rattle.holders.proofs.WaitingTaken.{Taken, none_taken, bare_taken, held_taken, lent_taken, place_taken}
use Rattle.holders.proofs.TakenOperations.{own_distinct, taken_so}
use Rattle.holders.proofs.Targets.{Target, owner_at, chain_at, chains_part, targets_in, AllPlaced, all_placed_so, GlobalAt, global_targets, count_globals}
use Rattle.holders.proofs.CallRoots.{RootOf, roots_so, GlobalKnown, globals_known, globals_distinct, all_part}
use Rattle.holders.proofs.CallHands.{given_none, AllKept, KeptAt, arrive_so, globals_so}
use Rattle.holders.proofs.Staging.{out_as}

abbrev use_number : Use → ℕ
use_number Owned = 0
use_number ToPlace = 1
use_number Held = 2
use_number Lent = 3
use_number Looked = 4

-- ---- lists

behind_first : (n : ℕ) → 0 + n ≡ n
behind_first n = omega arith

owner_behind : {level own : ℕ} {os : List Owner} {world : World} (ts us : List (Target level own os world)) (i : ℕ) →
    owner_at (ts ++ us) (length ts + i) ≡ owner_at us i
owner_behind [] us i = let e : 0 + i ≡ i = omega arith in ap (λ n. owner_at us n) e
owner_behind (t ∷ ts) us i =
    let e : suc (length ts) + i ≡ suc (length ts + i) = omega arith in
    ap (λ n. owner_at (t ∷ ts ++ us) n) e ∙ owner_behind ts us i

count_both : {A : Type 0} (xs ys : List A) → length xs + length ys ≡ length (xs ++ ys)
count_both [] ys = omega arith
count_both (x ∷ xs) ys = omega (arith, count_both xs ys)

targets_all : (P : Owner → Type 0) (targets : ℕ → Owner) (n : ℕ) → ((j : ℕ) → j < n → P (targets j)) → AllOwners P (targets_of targets n)
targets_all P targets zero h = tt
targets_all P targets (suc n) h = (h n (omega arith), targets_all P targets n (λ j less. h j (omega (arith, less))))

-- ---- types of values

none_type : (facts : Facts) (ty : Option Ty) → None ≡ form_given facts ty → ty ≡ None
none_type facts None e = refl
none_type facts (Some t) e = absurd (none-some (form_of facts t) e)

some_form : (facts : Facts) (ty : Option Ty) (f : Form) → Some f ≡ form_given facts ty → f ≡ form_for facts ty
some_form facts None f e = absurd (none-some f (sym e))
some_form facts (Some t) f e = same_Some f (form_of facts t) e

none_given : (ty : Option Ty) → given_if [] ty ≡ ty
none_given None = refl
none_given (Some ty) = ap (λ (t : Ty). Some t) (given_none ty)

-- ---- modes

modes_found : (sinks : List ℕ) (procs : List Proc) (proc : ℕ) (p : Proc) (i : ℕ) → slice_get procs proc ≡ Some p →
    modes_in sinks procs proc i ≡ mode_in sinks p.params i
modes_found sinks [] proc p i e = absurd (none-some p e)
modes_found sinks (q ∷ procs) zero p i e = ap (λ (r : Proc). mode_in sinks r.params i) (same_Some q p e)
modes_found sinks (q ∷ procs) (suc proc) p i e = modes_found sinks procs proc p i e

plain_mode : (sinks : List ℕ) (param : Param) → is_var param.mode ≡ false → use_for (mode_of sinks param) ≡ Lent → param.mode ≡ M.Plain
plain_mode sinks param no_var purpose = by (is_sink sinks param.place.number) purpose
  where
    of_mode : (mode : Mode) → is_var mode ≡ false → use_for mode ≡ Lent → mode ≡ M.Plain
    of_mode M.Plain no_var e = refl
    of_mode M.Sink no_var e = absurd (omega (arith, ap use_number e))
    of_mode M.Var no_var e = absurd (false≢true (sym no_var))

    by : (b : Bool) → use_for (if b then M.Sink else param.mode) ≡ Lent → param.mode ≡ M.Plain
    by true e = absurd (omega (arith, ap use_number e))
    by false e = of_mode param.mode no_var e

kept_at : (sinks : List ℕ) (uses : (position : ℕ) → Use) (kept : ℕ → Bool) (i : ℕ) (params : List Param) → AllKept kept params →
    ((j : ℕ) → uses (i + j) ≡ use_for (mode_in sinks params j)) → KeptAt uses kept i params
kept_at sinks uses kept i [] all h = tt
kept_at sinks uses kept i (param ∷ params) all h = (
  λ no_var purpose. all.0 (plain_mode sinks param no_var (sym (first_use) ∙ purpose)),
  kept_at sinks uses kept (suc i) params all.1 (λ j. next j),
)
  where
    first_use : uses i ≡ use_for (mode_of sinks param)
    first_use = let e : i + 0 ≡ i = omega arith in subst (λ n. uses n ≡ use_for (mode_of sinks param)) e (h 0)

    next : (j : ℕ) → uses (suc i + j) ≡ use_for (mode_in sinks params j)
    next j = let e : i + suc j ≡ suc i + j = omega arith in subst (λ n. uses n ≡ use_for (mode_in sinks params j)) e (h (suc j))

lent_or_held : (mode : Mode) → (use_for mode ≡ Held) ⊎ (use_for mode ≡ Lent)
lent_or_held M.Plain = inr refl
lent_or_held M.Sink = inl refl
lent_or_held M.Var = inr refl

-- ---- values that were taken are nobody's

module _ {here : Here} {limits : Limits} {root : (global : Bool) → ℕ → ℕ} {uses : (position : ℕ) → Use} {ms os : List Owner} {blocks : List ℕ}
    {world : World} where
  strange_taken : {args : Args} {i : ℕ} {xs : List Operand} {given : List ℕ} → Taken here limits root uses ms os blocks world args i xs given →
      Strange given blocks
  strange_taken none_taken k m n = elim m [ ]
  strange_taken (bare_taken which b more) k m n = strange_taken more k m n
  strange_taken (held_taken {given = given} purpose u more apart) k m n =
      either_block k u.given given ⊥ m (λ q. u.strange k q n) (λ q. strange_taken more k q n)
  strange_taken (lent_taken purpose hooks own a more) k m n = strange_taken more k m n
  strange_taken (place_taken f e more) k m n = strange_taken more k m n

  clear_taken : {args : Args} {i : ℕ} {xs : List Operand} {given : List ℕ} → Taken here limits root uses ms os blocks world args i xs given →
      ClearOf given (ms ++ os)
  clear_taken none_taken = none_clear (ms ++ os)
  clear_taken (bare_taken which b more) = clear_taken more
  clear_taken (held_taken {given = given} purpose u more apart) = clear_both u.given given (ms ++ os) u.clear (clear_taken more)
  clear_taken (lent_taken purpose hooks own a more) = clear_taken more
  clear_taken (place_taken f e more) = clear_taken more

-- ---- a call that is typed

-- what is known of a program
pub record ProgramSo (program : Program) (kept : List Param → ℕ → Bool) : Type 0 where
  pub distinct : Distinct (numbers_in (map placed program.globals))
  pub kept_so : (params : List Param) → AllKept (kept params) params

abbrev pub scope_at : Program → (filled : ℕ) → List Placed → (dest : Option ℕ) → scopes.Here
scope_at program filled places dest = record {
  facts = program.facts;
  procs = program.procs;
  globals = map placed program.globals;
  filled = filled;
  places = places;
  dest = dest;
}

pub record CallFound (program : Program) (filled : ℕ) (proc : ℕ) (ty : Option Ty) (operands : Args) : Type 0 where
  pub p : Proc
  pub body : Body
  pub there : slice_get program.procs proc ≡ Some p
  pub has : p.body ≡ Some body
  pub ready : before program body.first ≤ filled
  pub gives : p.gives ≡ ty
  pub taken : are_taken [] p.params operands ≡ true

call_found : (program : Program) (filled : ℕ) (places : List Placed) (dest : Option ℕ) (proc : ℕ) (ty : Option Ty) (operands : Args) →
    act_fits (scope_at program filled places dest) ty (Calling proc []) operands ≡ true → CallFound program filled proc ty operands
call_found program filled places dest proc ty operands typed = by (slice_get program.procs proc) refl typed
  where
    scope : scopes.Here
    scope = scope_at program filled places dest

    of_body : (p : Proc) → slice_get program.procs proc ≡ Some p → (o : Option Body) → p.body ≡ o → is_ready scope o ≡ true → p.gives ≡ ty →
        are_taken [] p.params operands ≡ true → CallFound program filled proc ty operands
    of_body p e None f ready gives taken = absurd (false≢true ready)
    of_body p e (Some body) f ready gives taken =
        record { p = p; body = body; there = e; has = f; ready = leb-true (before program body.first) filled ready; gives = gives; taken = taken }

    by : (o : Option Proc) → slice_get program.procs proc ≡ o → call_fits scope o [] ty operands ≡ true → CallFound program filled proc ty operands
    by None e t = absurd (false≢true t)
    by (Some p) e t =
        let a = and_parts ((is_no_hook p.hook && is_ready scope p.body) && nat_eq (length {A = Ty} []) p.type_params)
        (same_value (given_if [] p.gives) ty && are_taken [] p.params operands) t in
        let b = and_parts (is_no_hook p.hook && is_ready scope p.body) (nat_eq (length {A = Ty} []) p.type_params) a.0 in
        let c = and_parts (same_value (given_if [] p.gives) ty) (are_taken [] p.params operands) a.1 in
        of_body p e p.body refl (and_parts (is_no_hook p.hook) (is_ready scope p.body) b.0).1 (sym (none_given p.gives) ∙ same_values c.0) c.1

-- ---- what it gives

module _ (program : Program) (named : (proc g : ℕ) → Bool) (kept : List Param → ℕ → Bool) (plan : Plan) (level : ℕ) (calls : Calls) (caller : Body)
    (filled : ℕ) (in_scope : List Placed) (dest : Option ℕ) (limits : Limits) (root : (global : Bool) → ℕ → ℕ) (first places : ℕ) (os : List Owner) where
  abbrev H : Here
  H = from_level program plan level calls caller

  abbrev S : scopes.Here
  S = scope_at program filled in_scope dest

  abbrev pub Site : ℕ → Args → Type 0
  Site proc operands = SiteSo named (limits.seen true) proc operands

  abbrev RootAt : Path → Type 0
  RootAt path = RootOf S limits root path

  module _ (known : ProgramSo program kept) (gives : CallsGive program named kept calls (suc level)) (node : Node) (ty : Option Ty) (proc : ℕ)
      (operands : Args) (how : Use) (found : CallFound program filled proc ty operands) (site : Site proc operands) (roots : AllPaths RootAt operands)
      (regular : AllRegular H.facts operands) (distinct : Distinct (node.number ∷ operand_nodes operands)) (nodes later given : List ℕ) (start : World)
      (b : From H S limits root first places os (node.number ∷ operand_nodes operands) nodes start) (own : List Owner) (xs : List Operand) (s : State)
      (st : StageWith (λ k. times k given) (at_nodes level (node.number ∷ operand_nodes operands)) own os first places later b.territory.blocks start s.world)
      (taken : Taken H limits root (use_of H.modes (Calling proc [])) own os st.runs.territory.blocks s.world operands 0 xs given)
      (came : (k : ℕ) → Member k given → Member k b.territory.blocks ⊎ (taken_in start ≤ k))
      (leaves : Leaves level nodes (waiting_all H.facts H.modes operands (use_of H.modes (Calling proc [])) 0) own later)
      (scene : Scene H S limits root os s.world) where
    abbrev e : Expr
    e = Apply node ty (Calling proc []) operands

    abbrev uses : (position : ℕ) → Use
    uses = use_of H.modes (Calling proc [])

    abbrev R : Region
    R = at_nodes level (node.number ∷ operand_nodes operands)

    abbrev its_globals : List Placed
    its_globals = seen_of (named proc) (globals_before program named kept found.body)

    globals_are : AllPlaced (GlobalKnown S limits (named proc)) its_globals
    globals_are = globals_known S limits (named proc) (before program found.body.first) found.ready known.distinct site.sees

    abbrev of_globals : AllPlaced (GlobalAt program.facts (root true) os s.world) its_globals
    of_globals =
        all_placed_so (GlobalKnown S limits (named proc)) (GlobalAt program.facts (root true) os s.world) its_globals
        (λ p k. scene.place true p.number p.of k.seen k.there) globals_are

    abbrev firsts : List (Target level (length own) (own ++ os) s.world)
    firsts = targets_in taken

    abbrev lasts : List (Target level (length own) (own ++ os) s.world)
    lasts = global_targets level program.facts (root true) own os s.world its_globals of_globals

    abbrev all_targets : List (Target level (length own) (own ++ os) s.world)
    all_targets = firsts ++ lasts

    abbrev gs : List Owner
    gs = targets_of (owner_at all_targets) (length all_targets)

    works : Works (own ++ os) gs st.runs.territory.blocks s.world
    works =
        separated (length all_targets) st.runs.territory (chain_at all_targets)
        (chains_part all_targets
        (all_part {here = H} scene (named proc) roots site.part site.unnamed (own_distinct H operands regular distinct.1) taken its_globals of_globals
        globals_are (globals_distinct (named proc) (before program found.body.first) (map placed program.globals) known.distinct)))

    frames_are : length s.world.frames ≡ suc level
    frames_are = st.runs.passes.count ∙ b.deepest

    below : AllOwners (λ g. IsBelow (suc level) g.at.base) gs
    below =
        targets_all (λ g. IsBelow (suc level) g.at.base) (owner_at all_targets) (length all_targets)
        (λ j less. all_below (suc level) frames_are (chain_owns st.runs.territory (chain_at all_targets j less)).cell.at.base)

    abbrev slots : List Slot
    slots = slots_for (handed_over H.facts operands uses 0 xs)

    handing : Handing program.facts (kept found.p.params) (named proc) (globals_before program named kept found.body) found.p.params gs (suc level) slots
        s.world
    handing = record {
      territory = works.territory;
      below = below;
      frames = frames_are;
      count = length lasts;
      top = length all_targets;
      given = given;
      arrives = arrive_so H limits root uses own os st.runs.territory.blocks s.world (kept found.p.params) all_targets works lasts found.p.params 0
          (λ j. lent_or_held (H.modes proc j))
          (kept_at plan.sinks uses (kept found.p.params) 0 found.p.params (known.kept_so found.p.params)
          (λ j. ap uses (behind_first j) ∙ ap use_for (modes_found plan.sinks program.procs proc found.p j found.there))) found.taken taken
          ((λ i. ap (λ n. owner_at all_targets n) (behind_first i)), behind_first (length all_targets));
      names = globals_so H limits root uses own os st.runs.territory.blocks s.world (kept found.p.params) all_targets works lasts (root true) (named proc)
          (globals_before program named kept found.body)
          of_globals (length firsts) ((λ i. owner_behind firsts lasts i), count_both firsts lasts)
          (count_globals level program.facts (root true) own os s.world its_globals of_globals);
    }

    abbrev P : Value → World → Type 0
    P v after = CallGives (own ++ os) given st.runs.territory.blocks s.world v after (form_given program.facts ty)

    abbrev work : ℕ
    work = suc (handed_bytes (handed_over H.facts operands uses 0 xs))

    comes_back : Comes P NoExit (calls proc slots (worked work s))
    unfolding handing
    comes_back =
        comes_weaker (Returns gs found.p.gives program.facts given works.territory.blocks s.world) NoExit P NoExit (calls proc slots (worked work s))
        (gives proc found.p found.body found.there found.has gs slots (worked work s) handing)
        (λ v after r. subst (λ t. CallGives (own ++ os) given st.runs.territory.blocks s.world v after (form_given program.facts t)) found.gives
        (call_gives st.runs.territory works given r.old (strange_taken taken) (clear_taken taken) r.into r.sum r.back))
        (λ way after x. x)

    own_waits : OwnWaits H e ty
    own_waits = apply_waits H node ty (Calling proc []) operands (λ how. refl)

    abbrev Q : Value → World → Type 0
    Q = HasValue H first places os e how nodes b.territory.blocks start

    mine : R.nodes node.number ≡ true
    mine = in_is node.number (node.number ∷ operand_nodes operands) (inl refl)

    off : NoBaseOf (Waiting level node.number) (own ++ os)
    off =
        node_off (waiting_all H.facts H.modes operands uses 0) own node.number b (inl refl)
        (λ m. distinct.0 (operands_in H.facts H.modes operands uses 0 node.number m)) leaves.cells

    valued : (v : Value) (now : State) (o : Option Form) → o ≡ form_given program.facts ty →
        CallGives (own ++ os) given st.runs.territory.blocks s.world v now.world o →
        Comes Q NoExit (carry (kept_if (gives_hooked H.facts ty) (destination H how node.number) v) now)
    valued v now None q (gives_nothing m same) =
        called_none H first places os e own_waits nodes later b.territory.blocks start own leaves how v (none_type program.facts ty q) same now
        (stage_given R os first places b.territory.blocks start st came m)
    valued v now (Some f) q (gives_value m u from is) =
        called_value H first places os e own_waits nodes later b.territory.blocks start own leaves how v mine off now
        (subst (λ g. Holding g v R own os first places later b.territory.blocks start now.world) (some_form program.facts ty f q)
        (holding_given R os first places b.territory.blocks start st came m u from is))

    pub call_row : Comes Q NoExit (invoked H node.number proc how ty (handed_over H.facts operands uses 0 xs) s)
    call_row =
        comes_then (costs work (at_exit (calls proc slots) (left_at node.number)))
        (λ v. carry (kept_if (gives_hooked H.facts ty) (destination H how node.number) v)) P Q NoExit s
        (comes_at_exit (calls proc slots) (left_at node.number) P NoExit P NoExit (worked work s) comes_back (λ v now p. p) (λ way now x. elim x [ ]))
        (λ v now p. valued v now (form_given program.facts ty) refl p)

  -- ---- as part of an expression

  simple_came : (old : List ℕ) (start : World) (k : ℕ) → Member k old ⊎ (Member k [] ⊎ (taken_in start ≤ k)) → Member k old ⊎ (taken_in start ≤ k)
  simple_came old start k (inl m) = inl m
  simple_came old start k (inr (inl m)) = elim m [ ]
  simple_came old start k (inr (inr le)) = inr le

  at_none : ProgramSo program kept → CallsGive program named kept calls (suc level) → (node : Node) (ty : Option Ty) (proc : ℕ) (operands : Args)
      (how : Use) → AllWrite limits operands → Site proc operands → AllAsked H.facts limits Site operands →
      AllRegular H.facts operands →
      act_fits S ty (Calling proc []) operands ≡ true → are_typed S operands ≡ true → Distinct (node.number ∷ operand_nodes operands) →
      ReadySo H S limits root first places os (use_of H.modes (Calling proc [])) operands 0 →
      ValueSo H S limits root first places os (Apply node ty (Calling proc []) operands) how
  at_none known gives node ty proc operands how write site asked regular fit typed d ready =
      let found = call_found program filled in_scope dest proc ty operands fit in
      let roots = roots_so S limits root H.facts Site operands typed asked write in
      taken_so H S limits root first places os node ty (Calling proc []) operands how (λ j. lent_or_held (H.modes proc j)) d regular write ready
      (λ nodes later start world xs ms s b scene leaves st t.
      call_row known gives node ty proc operands how found site roots regular d nodes t.later t.given start b t.own xs s
      (out_as (at_nodes level (node.number ∷ operand_nodes operands)) os first places b.territory.blocks start (λ k. omega (arith, t.out_is k)) t.stage)
      t.taken
      (λ k m. simple_came b.territory.blocks start k (st.runs.came k (t.were k m)))
      (t.leaves nodes (waiting_all H.facts H.modes operands (use_of H.modes (Calling proc [])) 0) leaves)
      (scene_passes (node.number ∷ operand_nodes operands) t.stage.runs.passes scene))

  pub calls_so : ProgramSo program kept → CallsGive program named kept calls (suc level) →
      CallsSo H S limits root first places os Site
  calls_so known gives node ty proc types operands how simple act asked regular fit typed d ready =
      subst (λ ts. act_fits S ty (Calling proc ts) operands ≡ true → ReadySo H S limits root first places os (use_of H.modes (Calling proc ts)) operands 0 →
      ValueSo H S limits root first places os (Apply node ty (Calling proc ts) operands) how) (sym act.0)
      (λ fit ready. at_none known gives node ty proc operands how act.1.0 act.1.1 asked regular fit typed d ready) fit ready

  -- ---- expressions with calls

  pub with_calls : FactsOfTheirSort program.facts → ProgramSo program kept → CallsGive program named kept calls (suc level) →
      Elsewhere H S limits root first places os Site
  with_calls sorted known gives = all_but_calls H S limits root first places os Site sorted (calls_so known gives)

  pub value_with_calls : FactsOfTheirSort program.facts → ProgramSo program kept → CallsGive program named kept calls (suc level) → (e : Expr) (how : Use) →
      is_typed S e ≡ true → Asked program.facts limits Site e → Distinct (value_nodes e) → ValueSo H S limits root first places os e how
  value_with_calls sorted known gives e how typed asked d =
      value_so H S limits root first places os Site (with_calls sorted known gives) e typed asked d how

  pub path_with_calls : FactsOfTheirSort program.facts → ProgramSo program kept → CallsGive program named kept calls (suc level) → (path : Path) →
      is_typed_path S path ≡ true → AskedAt program.facts limits Site path → Distinct (path_nodes path) → AimSo H S limits root first places os path
  path_with_calls sorted known gives path typed asked d =
      aim_so H S limits root first places os Site (with_calls sorted known gives) path typed asked d
