-- No typed program that is built whole is ever wrong.
use Rattle.std.proofs.Common.{◌≡◌, refl, sym, ap, subst, ◌∙◌, arith, ℕ, zero, suc, ◌+◌, ◌≤◌, Bool, true, false, List, [], ◌∷◌, ◌++◌, length}
use Rattle.std.specs.Prelude.{◌&&◌, not, nat_eq, map, slice_get, Option, Some, None, option_map}
use Rattle.std.proofs.lemmas.Bool.{false≢true, and_parts}
use Rattle.std.proofs.lemmas.Option.{none-some, same_Some}
use Rattle.arc_base.specs.BigStep.{Res, Got, Over, Going, Errs as Wrong, seen_of}
use Rattle.arc_base.specs.Behaviour.{Sound, Live, Phase, Running, Ended, Faulted, Wrong as IsWrong}
use Rattle.nim_types.specs.Types.{Ty, same, Fact, Facts, fact_of, members, fields, base, below, enum, exception}
use Rattle.nim_types.specs.Forms.{Form, HasForm, of_int, of_bool, of_char, of_text, of_sequence, of_any_sequence, of_array, of_tuple, of_parameter}
use Rattle.nim_types.specs.Forms.{of_enum, of_object, of_distinct, of_ref, of_exception}
use Rattle.nim_types.specs.Table.{type_at as type_by_number}
use Rattle.nim_types.proofs.ForCallers.{the_form, same_sound}
use Rattle.nim_plan.specs.declared.plan.Plan.{Plan}
use Rattle.nim_program.specs.declared.program.Mode.{Mode}
use Rattle.nim_program.specs.declared.program.Mode.TheVariants.{Plain, Var}
use Rattle.nim_program.specs.declared.program.HookOf.{HookOf}
use Rattle.nim_program.specs.declared.program.TheConstants.{ACTIVE_CALLS}
use Rattle.nim_program.specs.declared.expr.Node.{Node}
use Rattle.nim_program.specs.Program.{Args, Declared, Param, Body, Proc, Program}
use Rattle.nim_program.specs.Folds.{lists, total_of, if_declared, block_places, block_nodes}
use Rattle.nim_program.specs.Numbering.{is_numbered, is_numbered_if, are_numbered, is_numbered_program, numbers_of}
use Rattle.nim_program.specs.Kinds.{kind_of, declared_kind, is_resource, is_among_types, are_among_types, are_declared, is_declared_as, is_there}
use Rattle.nim_program.specs.Kinds.{same_value}
use Rattle.nim_program.specs.Scopes as scopes
use Rattle.nim_program.specs.Scopes.{Placed, placed, with_place, with_global}
use Rattle.nim_program.specs.Typed.{IsTyped, procedure, own_types, place_types, param_declared, body_types, are_held, type_of_place, dest_of}
use Rattle.nim_program.specs.Typed.{in_body, before, is_typed_body, is_typed_if, is_typed_proc, are_typed_procs, is_typed_start, is_typed_block, is_typed_code}
use Rattle.nim_program.specs.Typed.{hook_fits, params_fit, takes, same_mode, is_empty}
use Rattle.nim_program.specs.Sizes.{body_sum}
use Rattle.nim_meaning.specs.State.{World, State, world_of, live}
use Rattle.nim_meaning.specs.Acts.{Outcome, On, Out, worked}
use Rattle.nim_meaning.specs.Here.{Here, Calls}
use Rattle.nim_meaning.specs.Meaning.{exec_all, calls, from_level, at_top, at_first, reported, goes_through, meaning, result_slots}
use Rattle.nim_meaning.specs.LeftOut.{out_if, earlier, first_of, left_out_in_head, left_out_in_block, left_out_in_body, left_out_in_proc}
use Rattle.nim_meaning.specs.LeftOut.{left_out_in_procs, first_left_out}
use Rattle.nim_meaning.specs.Unbuilt.{is_unbuilt}
use Rattle.decl_rules.specs.Occurrences.{in_block}
use Rattle.decl_rules.specs.Naming.{NamesFound}
use Rattle.lending_laws.specs.Writing.{lent_params}
use Rattle.lending_laws.specs.Apart.{BlockLends, HandsUnnamed, IfBody, InProcs, AreLentApart}
use Rattle.holders.specs.Owned.{HasBlocksAlone}
use Rattle.holders.specs.Sure.{Comes}
use Rattle.holders.specs.Territory.{Owner, Cells, no_cells}
use Rattle.holders.specs.Becoming.{times, live_at}
use Rattle.holders.specs.Released.{IsReleased, LeavesNoBlock}
use Rattle.nim_meaning.specs.Heap.{Block, block_at}
use Rattle.nim_meaning.specs.Kept.{IsKept, IsAlways, IsOnce, one_if_there}
use Rattle.holders.specs.Called.{LeftBy}
use Rattle.holders.specs.Asked.{Limits, Simple, AskedBlock, FactsOfTheirSort}
use Rattle.holders.specs.BodyParts.{PartBegins, Sights, Over as PartOver, PartSo}
use Rattle.holders.specs.Procedures.{BodySo, here_at, scope_of, limits_of, CallsGive}
use Rattle.holders.proofs.FormKinds.{same_values}
use Rattle.holders.proofs.WholeExpressions.{CallsSo}
use Rattle.holders.proofs.SitesAsked.{names_of, occur_in_body, occur_at_start}
use Rattle.holders.proofs.AskedParts.{neither, stays_in, none_earlier, AllAmong, all_among, among_first, among_second, simple_type}
use Rattle.holders.proofs.AskedStmts.{Of, block_asked, code_asked}
use Rattle.holders.proofs.BodyNumbering.{firsts, follows_all, as_many, behind, no_global, numbered_body}
use Rattle.holders.proofs.BodyWhole.{body_comes}
use Rattle.holders.proofs.CallBegins.{IfAlone}
use Rattle.holders.proofs.CallStarts.{ProcSo, BodiesSo, calls_give}
use Rattle.holders.proofs.CallsSo.{ProgramSo, scope_at, calls_so}
use Rattle.holders.proofs.GlobalNumbers.{globals_distinct, all_kept, room_for}
use Rattle.holders.proofs.FrameOfCall.{begun as begun_world, active_there}
use Rattle.holders.proofs.Coming.{comes_at_exit, comes_weaker}
use Rattle.holders.proofs.BodyCode.{code_so}

-- ---- one of the procedures

each_at : (F : List Proc → Type 0) (P : Proc → Type 0) → ((p : Proc) (ps : List Proc) → F (p ∷ ps) → P p × F ps) → (procs : List Proc) (i : ℕ) (p : Proc) →
    slice_get procs i ≡ Some p → F procs → P p
each_at F P split [] i p e h = absurd (none-some p e)
each_at F P split (q ∷ procs) zero p e h = subst P (same_Some q p e) (split q procs h).0
each_at F P split (q ∷ procs) (suc i) p e h = each_at F P split procs i p e (split q procs h).1

-- ---- no hooks

-- of a type that has blocks alone
no_resource : {facts : Facts} {ty : Ty} {f : Form} → HasForm facts ty f → HasBlocksAlone f → is_declared_as ty (kind_of facts ty) ≡ true →
    is_resource (kind_of facts ty) ≡ true → ⊥
no_resource of_int b d r = false≢true r
no_resource of_bool b d r = false≢true r
no_resource of_char b d r = false≢true r
no_resource of_text b d r = false≢true r
no_resource (of_sequence q h) b d r = false≢true r
no_resource (of_any_sequence q) b d r = false≢true r
no_resource (of_array h) b d r = false≢true r
no_resource (of_tuple h) b d r = false≢true r
no_resource of_parameter b d r = false≢true r
no_resource {facts} (of_enum {key = key}) b d r = by (fact_of facts (enum key)) d r
  where
    by : (x : Option Fact) → is_declared_as (enum key) (declared_kind x) ≡ true → is_resource (declared_kind x) ≡ true → ⊥
    by None d r = false≢true r
    by (Some (members names)) d r = false≢true r
    by (Some (fields all own)) d r = false≢true d
    by (Some (base t)) d r = false≢true r
    by (Some (below parent)) d r = false≢true r
no_resource {facts} (of_object {key = key} {arguments = arguments} {all = all} {own_hooks = true} q h) b d r = elim b [ ]
no_resource {facts} (of_object {key = key} {arguments = arguments} {all = all} {own_hooks = false} q h) b d r =
    false≢true (sym (ap (λ (x : Option Fact). is_resource (declared_kind x)) q) ∙ r)
no_resource {facts} (of_distinct {key = key} q h) b d r = false≢true (sym (ap (λ (x : Option Fact). is_resource (declared_kind x)) q) ∙ r)
no_resource of_ref b d r = false≢true r
no_resource {facts} (of_exception {key = key}) b d r = by (fact_of facts (exception key)) d r
  where
    by : (x : Option Fact) → is_declared_as (exception key) (declared_kind x) ≡ true → is_resource (declared_kind x) ≡ true → ⊥
    by None d r = false≢true r
    by (Some (members names)) d r = false≢true r
    by (Some (fields all own)) d r = false≢true d
    by (Some (base t)) d r = false≢true r
    by (Some (below parent)) d r = false≢true r

-- ---- what is seen of a run that is wrong

abbrev IsBad : Phase → Type 0
IsBad Running = ⊥
IsBad (Ended status live) = ⊥
IsBad Faulted = Unit {0}
IsBad IsWrong = Unit {0}

no_end : {status : ℕ} {l : Live} (p : Phase) → IsBad p → Ended status l ≡ p → ⊥
no_end p bad e = subst (λ q. IsBad q) (sym e) bad

no_going : (p : Phase) → IsBad p → Running ≡ p → ⊥
no_going p bad e = subst (λ q. IsBad q) (sym e) bad

module _ (program : Program) (plan : Plan) (typed : IsTyped program) (numbered : is_numbered_program program ≡ true) (lends : AreLentApart program)
    (built : first_left_out program ≡ None) (sorted : FactsOfTheirSort program.facts) (found : NamesFound) where
  abbrev facts : Facts
  facts = program.facts

  abbrev types : List Ty
  types = program.types

  abbrev procs : List Proc
  procs = program.procs

  abbrev pub named : (proc g : ℕ) → Bool
  named = names_of procs

  abbrev pub kept : List Param → ℕ → Bool
  kept params = lent_params params

  -- ---- what typing says

  all_typed : (are_declared facts types ≡ true) × ((are_typed_procs program procs ≡ true) × (is_typed_start program program.start ≡ true))
  all_typed =
      let t = and_parts (are_declared facts types) (are_typed_procs program procs && is_typed_start program program.start) typed.typed in
      (t.0, and_parts (are_typed_procs program procs) (is_typed_start program program.start) t.1)

  pub declared : are_declared facts types ≡ true
  declared = all_typed.0

  simple : (ty : Ty) → is_among_types types ty ≡ true → is_unbuilt facts ty ≡ false → Simple facts ty
  simple ty among out = simple_type types facts typed.forms declared named ty among out

  nothing_out : (left_out_in_procs facts procs ≡ None) × (left_out_in_body facts [] program.start ≡ None)
  nothing_out = none_earlier (left_out_in_procs facts procs) (left_out_in_body facts [] program.start)
      (by (earlier (left_out_in_procs facts procs) (left_out_in_body facts [] program.start)) built)
    where
      by : (o : Option Node) → option_map (λ (node : Node). node.at) o ≡ None → o ≡ None
      by None e = refl
      by (Some node) e = absurd (none-some node.at (sym e))

  -- a place of the head of a body
  head_out : (n : ℕ) (ds es : List Declared) → left_out_in_head facts n (ds ++ es) ≡ None → left_out_in_head facts n es ≡ None
  head_out n [] es e = e
  head_out n (d ∷ ds) es e = head_out n ds es (neither (out_if (is_unbuilt facts d.of) _) (left_out_in_head facts n (ds ++ es)) e).1

  one_built : (n : ℕ) (d : Declared) (ds : List Declared) → left_out_in_head facts n (d ∷ ds) ≡ None → is_unbuilt facts d.of ≡ false
  one_built n d ds e =
      let node : Node = record { number = n; at = d.at } in
      stays_in (is_unbuilt facts d.of) node (neither (out_if (is_unbuilt facts d.of) node) (left_out_in_head facts n ds) e).0

  -- ---- hooks

  first_no : (x : Param) (ty : Ty) (mode : Mode) (n : ℕ) (ds : List Declared) → takes ty mode x ≡ true → left_out_in_head facts n (x.place ∷ ds) ≡ None →
      is_among_types types x.place.of ≡ true → is_resource (kind_of facts ty) ≡ true → ⊥
  first_no x ty mode n ds t out among r =
      let same_ty = same_sound x.place.of ty (and_parts (same x.place.of ty) (same_mode x.mode mode) t).0 in
      let s = simple x.place.of among (one_built n x.place ds out) in
      no_resource s.has s.blocks s.declared (subst (λ u. is_resource (kind_of facts u) ≡ true) (sym same_ty) r)

  no_fit : (kind : ℕ) (ty : Ty) (params : List Param) (n : ℕ) (ds : List Declared) → params_fit kind ty params ≡ true →
      left_out_in_head facts n (map (λ (p : Param). p.place) params ++ ds) ≡ None → AllAmong types (place_types (param_declared params)) →
      is_resource (kind_of facts ty) ≡ true → ⊥
  no_fit zero ty (x ∷ []) n ds t out among r = first_no x ty Plain n ds t out among.0 r
  no_fit (suc zero) ty (x ∷ []) n ds t out among r = first_no x ty Var n ds t out among.0 r
  no_fit (suc (suc zero)) ty (x ∷ y ∷ []) n ds t out among r =
      first_no x ty Var n (y.place ∷ ds) (and_parts (takes ty Var x) (takes ty Plain y) t).0 out among.0 r
  no_fit (suc (suc (suc zero))) ty (x ∷ y ∷ []) n ds t out among r =
      first_no x ty Var n (y.place ∷ ds) (and_parts (takes ty Var x) (takes ty Plain y) t).0 out among.0 r
  no_fit kind ty params n ds t out among r = false≢true t

  -- ---- a procedure

  record Known (p : Proc) (body : Body) : Type 0 where
    typed_body : is_typed_body program None p.params p.gives body ≡ true
    out : left_out_in_body facts p.params body ≡ None
    numbers : is_numbered p.params body ≡ true
    lent : BlockLends (lent_params p.params) body.stmts
    unnamed : HandsUnnamed procs (in_block body.stmts)

  known_at : (proc : ℕ) (p : Proc) (body : Body) → slice_get procs proc ≡ Some p → p.body ≡ Some body → Known p body
  known_at proc p body e f = record {
    typed_body = typed_one;
    out = out_one;
    numbers = subst (λ (o : Option Body). is_numbered_if p.params o ≡ true) f
        (each_at (λ ps. are_numbered ps ≡ true) (λ q. is_numbered_if q.params q.body ≡ true)
        (λ q ps h. and_parts (is_numbered_if q.params q.body) (are_numbered ps) h) procs proc p e
        (and_parts (are_numbered procs) (is_numbered [] program.start) numbered).0);
    lent = subst (λ (o : Option Body). IfBody (BlockLends (lent_params p.params)) o) f
        (each_at (λ ps. InProcs (λ params. BlockLends (lent_params params)) ps) (λ q. IfBody (BlockLends (lent_params q.params)) q.body) (λ q ps h. h)
        procs proc
        p e lends.acts.0);
    unnamed = subst (λ (o : Option Body). IfBody (λ stmts. HandsUnnamed procs (in_block stmts)) o) f
        (each_at (λ ps. InProcs (λ params stmts. HandsUnnamed procs (in_block stmts)) ps) (λ q. IfBody (λ stmts. HandsUnnamed procs (in_block stmts)) q.body)
        (λ q ps h. h) procs proc p e lends.unnamed.0);
  }
    where
      out_one : left_out_in_body facts p.params body ≡ None
      out_one = subst (λ (o : Option Body). left_out_in_proc facts p.params o ≡ None) f
          (each_at (λ ps. left_out_in_procs facts ps ≡ None) (λ q. left_out_in_proc facts q.params q.body ≡ None)
          (λ q ps h. none_earlier (left_out_in_proc facts q.params q.body) (left_out_in_procs facts ps) h) procs proc p e nothing_out.0)

      both : (hook_fits program p.hook p.params p.gives p.body ≡ true) × (is_typed_if program (dest_of p.hook p.params) p.params p.gives p.body ≡ true)
      both = and_parts (hook_fits program p.hook p.params p.gives p.body) (is_typed_if program (dest_of p.hook p.params) p.params p.gives p.body)
          (each_at (λ ps. are_typed_procs program ps ≡ true) (λ q. is_typed_proc program q ≡ true)
          (λ q ps h. and_parts (is_typed_proc program q) (are_typed_procs program ps) h) procs proc p e all_typed.1.0)

      typed_if : is_typed_body program (dest_of p.hook p.params) p.params p.gives body ≡ true
      typed_if = subst (λ (o : Option Body). is_typed_if program (dest_of p.hook p.params) p.params p.gives o ≡ true) f both.1

      typed_one : is_typed_body program None p.params p.gives body ≡ true
      typed_one = by p.hook (subst (λ (o : Option Body). hook_fits program p.hook p.params p.gives o ≡ true) f both.0) typed_if
        where
          by : (hook : Option HookOf) → hook_fits program hook p.params p.gives (Some body) ≡ true →
              is_typed_body program (dest_of hook p.params) p.params p.gives body ≡ true → is_typed_body program None p.params p.gives body ≡ true
          by None h t = t
          by (Some hook) h t =
              let ty = type_by_number types hook.of in
              let q = and_parts (is_resource (kind_of facts ty)) (not (is_there p.gives) && params_fit hook.kind ty p.params) h in
              let o = neither (left_out_in_head facts (first_of body.stmts) (map (λ (x : Param). x.place) p.params ++ if_declared body.result))
              (left_out_in_block facts body.stmts) out_one in
              absurd (no_fit hook.kind ty p.params (first_of body.stmts) (if_declared body.result)
              (and_parts (not (is_there p.gives)) (params_fit hook.kind ty p.params) q.1).1 o.0
              (among_first types (place_types (param_declared p.params)) _ (all_among types (body_types p.params body)
              (and_parts (are_among_types types (body_types p.params body)) _
              (and_parts (are_among_types types (body_types p.params body) && _) _ t).0).0)) q.0)

  -- what typing says of its body
  record TypedBody (p : Proc) (body : Body) : Type 0 where
    among : AllAmong types (body_types p.params body)
    gives : type_of_place body.result ≡ p.gives
    apart : nat_eq (before program body.first) (before program (body.first + body.places)) ≡ true
    block : is_typed_block (in_body program (before program body.first) None p.params body) (procedure p.gives) body.stmts ≡ true

  typed_body_of : (p : Proc) (body : Body) → is_typed_body program None p.params p.gives body ≡ true → TypedBody p body
  typed_body_of p body t =
      let a = are_among_types types (body_types p.params body) in
      let h = are_held facts (param_declared p.params ++ if_declared body.result) in
      let g = same_value (type_of_place body.result) p.gives in
      let n = nat_eq (before program body.first) (before program (body.first + body.places)) in
      let k = is_typed_block (in_body program (before program body.first) None p.params body) (procedure p.gives) body.stmts in
      let q = and_parts (a && (h && g && n)) (not (is_empty body.stmts) && k) t in
      let u = and_parts a (h && g && n) q.0 in
      let v = and_parts (h && g) n u.1 in
      record {
        among = all_among types (body_types p.params body) u.0;
        gives = same_values (and_parts h g v.0).1;
        apart = v.1;
        block = (and_parts (not (is_empty body.stmts)) k q.1).1;
      }

  alone_so : (p : Proc) (body : Body) → Known p body → IfAlone facts body.result
  alone_so p body k = by body.result refl
    where
      t : TypedBody p body
      t = typed_body_of p body k.typed_body

      by : (o : Option Declared) → body.result ≡ o → IfAlone facts o
      by None e = tt
      by (Some place) e =
          let heads = neither (left_out_in_head facts (first_of body.stmts) (map (λ (x : Param). x.place) p.params ++ if_declared body.result))
          (left_out_in_block facts body.stmts) k.out in
          let out = subst (λ (r : Option Declared). left_out_in_head facts (first_of body.stmts) (if_declared r) ≡ None) e
          (head_out (first_of body.stmts) (map (λ (x : Param). x.place) p.params) (if_declared body.result) heads.0) in
          let among = subst (λ (r : Option Declared). AllAmong types (place_types (if_declared r) ++ total_of lists own_types body.stmts)) e
          (among_second types (place_types (param_declared p.params)) (place_types (if_declared body.result) ++ total_of lists own_types body.stmts) t.among) in
          let s = simple place.of among.0 (one_built (first_of body.stmts) place [] out) in
          subst HasBlocksAlone (sym (the_form s.has)) s.blocks

  proc_so : (p : Proc) (body : Body) → Known p body → ProcSo program p body
  proc_so p body k = record {
    follows = follows_all p.params body k.numbers;
    room = subst (λ m. m ≤ body.places) (sym (as_many (firsts p.params body k.numbers))) (room_for p.params body k.numbers);
    alone = alone_so p body k;
    gives = (typed_body_of p body k.typed_body).gives;
  }

  -- ---- scopes

  abbrev pub InProgram : scopes.Here → Type 0
  InProgram scope = (filled : ℕ) × ((places : List Placed) × (scope ≡ scope_at program filled places None))

  pub more_places : (scope : scopes.Here) (place : Declared) → InProgram scope → InProgram (with_place scope place)
  more_places scope place k = (k.0, (k.1.0 ++ placed place ∷ [], ap (λ (s : scopes.Here). with_place s place) k.1.1))

  more_globals : (scope : scopes.Here) → InProgram scope → InProgram (with_global scope)
  more_globals scope k = (suc k.0, (k.1.0, ap (λ (s : scopes.Here). with_global s) k.1.1))

  abbrev pub Asks : Limits → ℕ → Args → Type 0
  Asks = Of types facts typed.forms declared named

  -- ---- bodies, where their calls give what they should

  program_so : ProgramSo program kept
  program_so =
      let start_numbers =
      numbered_body [] program.start (and_parts (are_numbered procs) (is_numbered [] program.start) numbered).1
      (from_level program plan zero (calls program plan zero zero) program.start) (in_body program zero None [] program.start)
      (record { kept = λ n. false; seen = λ g n. true }) refl (λ n ty e le less. none-some ty e) in
      record {
        distinct = globals_distinct (in_body program zero None [] program.start) program.start.stmts start_numbers.from_place
            (and_parts (are_among_types types (body_types [] program.start) && not (is_there (type_of_place program.start.result)))
            (is_typed_code (in_body program zero None [] program.start) program.start.stmts) all_typed.1.1).1 start_numbers.rises;
        kept_so = λ params. all_kept params;
      }

  pub calls_at : (level : ℕ) (act : Calls) (caller : Body) → CallsGive program named kept act (suc level) → (first places : ℕ) (scope : scopes.Here) →
      InProgram scope → (limits : Limits) (root : (global : Bool) → ℕ → ℕ) (os : List Owner) →
      CallsSo (from_level program plan level act caller) scope limits root first places os (Asks limits)
  calls_at level act caller gives first places scope k limits root os =
      subst (λ (s : scopes.Here). CallsSo (from_level program plan level act caller) s limits root first places os (Asks limits)) (sym k.1.1)
      (calls_so program named kept plan level act caller k.0 k.1.0 None limits root first places os program_so gives)

  body_so : (left level proc : ℕ) (p : Proc) (body : Body) → slice_get procs proc ≡ Some p → p.body ≡ Some body →
      CallsGive program named kept (calls program plan left (suc level)) (suc level) →
      BodySo (here_at program named kept plan left level body) (scope_of program named kept p.params body) (limits_of program named kept proc p.params) body
  body_so left level proc p body e f gives =
      body_comes here body sorted Asks InProgram more_places (calls_at level (calls program plan left (suc level)) body gives body.first body.places) scope
      (before program body.first, (map placed (param_declared p.params ++ if_declared body.result), refl)) limits (λ n. refl) (procedure p.gives) (sym t.gives)
      refl t.block asked
      (numbered_body p.params body k.numbers here scope limits refl
      (λ n ty q le less. no_global body.first (body.first + body.places) (before program body.first) (map placed program.globals) t.apart n ty q le less))
      (behind p.params body k.numbers)
    where
      here : Here
      here = here_at program named kept plan left level body

      scope : scopes.Here
      scope = scope_of program named kept p.params body

      limits : Limits
      limits = limits_of program named kept proc p.params

      k : Known p body
      k = known_at proc p body e f

      t : TypedBody p body
      t = typed_body_of p body k.typed_body

      asked : AskedBlock facts Asks limits body.stmts
      asked =
          block_asked types facts typed.forms declared named scope refl refl limits (λ n. refl) (procedure p.gives) body.stmts t.block
          (neither (left_out_in_head facts (first_of body.stmts) (map (λ (x : Param). x.place) p.params ++ if_declared body.result))
          (left_out_in_block facts body.stmts) k.out).1
          (among_second types (place_types (if_declared body.result)) (total_of lists own_types body.stmts)
          (among_second types (place_types (param_declared p.params)) (place_types (if_declared body.result) ++ total_of lists own_types body.stmts) t.among))
          k.lent (occur_in_body procs found proc p body e f k.unnamed)

  pub bodies_so : BodiesSo program named kept plan
  bodies_so = record {
    known = λ proc p body e f. proc_so p body (known_at proc p body e f);
    so = λ left level proc p body e f gives. body_so left level proc p body e f gives;
  }

  -- ---- the start code

  abbrev top : Here
  top = at_top program plan

  abbrev start_scope : scopes.Here
  start_scope = in_body program zero None [] program.start

  abbrev start_limits : Limits
  start_limits = record { kept = lent_params []; seen = λ g n. true }

  start_typed : (AllAmong types (body_types [] program.start) × (type_of_place program.start.result ≡ None))
      × (is_typed_code start_scope program.start.stmts ≡ true)
  start_typed =
      let a = are_among_types types (body_types [] program.start) in
      let r = not (is_there (type_of_place program.start.result)) in
      let q = and_parts (a && r) (is_typed_code start_scope program.start.stmts) all_typed.1.1 in
      let u = and_parts a r q.0 in
      ((all_among types (body_types [] program.start) u.0, none_there (type_of_place program.start.result) u.1), q.1)
    where
      none_there : (o : Option Ty) → not (is_there o) ≡ true → o ≡ None
      none_there None e = refl
      none_there (Some ty) e = absurd (false≢true e)

  no_result : program.start.result ≡ None
  no_result = by program.start.result start_typed.0.1
    where
      by : (o : Option Declared) → type_of_place o ≡ None → o ≡ None
      by None e = refl
      by (Some place) e = absurd (none-some place.of (sym e))

  start_asked : AskedBlock facts Asks start_limits program.start.stmts
  start_asked =
      code_asked types facts typed.forms declared named start_scope refl refl start_limits (λ n. refl) program.start.stmts start_typed.1
      (neither (left_out_in_head facts (first_of program.start.stmts) (map (λ (x : Param). x.place) [] ++ if_declared program.start.result))
      (left_out_in_block facts program.start.stmts) nothing_out.1).1
      (among_second types (place_types (if_declared program.start.result)) (total_of lists own_types program.start.stmts) start_typed.0.0)
      lends.acts.1 (occur_at_start procs found (in_block program.start.stmts) lends.unnamed.1)

  start_part : PartSo top program.start.first program.start.places start_scope start_limits (numbers_of (block_places program.start.stmts))
      (block_nodes program.start.stmts) (exec_all program.start.stmts top)
  start_part =
      code_so top program.start.first program.start.places sorted Asks InProgram more_places more_globals
      (calls_at zero (calls program plan ACTIVE_CALLS 1) program.start (calls_give program named kept plan bodies_so ACTIVE_CALLS 1)
      program.start.first program.start.places)
      start_limits (λ g n. refl) refl (sym start_typed.0.1) start_scope (zero, (map placed (if_declared program.start.result), refl)) program.start.stmts
      start_typed.1 start_asked
      (numbered_body [] program.start (and_parts (are_numbered procs) (is_numbered [] program.start) numbered).1 top start_scope start_limits refl
      (λ n ty e le less. none-some ty e))

  module _ (heap : ℕ) (input : List ℕ) where
    abbrev empty_world : World
    empty_world = world_of [] heap input

    abbrev first_world : World
    first_world = begun_world empty_world facts program.start [] zero refl

    begins : PartBegins zero program.start.first program.start.places (numbers_of (block_places program.start.stmts)) (block_nodes program.start.stmts) [] []
        first_world
    begins = record {
      territory = record { blocks = []; cells = no_cells; distinct = tt; others = tt; clear = tt };
      outside = tt;
      active = active_there empty_world facts program.start [] zero refl
          (subst (λ (o : Option Declared). length (result_slots facts o) ≤ program.start.places) (sym no_result) (omega arith));
      distinct = tt;
      free = λ n m q. elim m [ ];
      deepest = refl;
    }

    sights : Sights top start_scope start_limits [] first_world
    sights = record {
      root = λ g n. zero;
      scene = record {
        place = λ g n ty s e. absurd (none_named g n ty e);
        two = λ g h n m ty other a b c d x y e. absurd (none_named g n ty c);
      };
      result = λ place e. absurd (none-some place (sym no_result ∙ e));
    }
      where
        none_named : (g : Bool) (n : ℕ) (ty : Ty) → scopes.type_in start_scope g n ≡ Some ty → ⊥
        none_named true n ty e = none-some ty e
        none_named false n ty e =
            none-some ty (subst (λ (o : Option Declared). scopes.look (map placed (if_declared o)) n ≡ Some ty) no_result e)

    abbrev Any : {A : Type 0} → A → World → Type 0
    Any x after = Unit {0}

    abbrev O : World → Type 0
    O after = PartOver top program.start.first program.start.places start_scope start_limits (numbers_of (block_places program.start.stmts))
        (block_nodes program.start.stmts) [] [] [] first_world after

    start_over : (n : ℕ) → Comes (λ u after. O after) (LeftBy O) (goes_through program plan (at_first program heap input n))
    unfolding begins
    start_over n =
        comes_at_exit (exec_all program.start.stmts top) reported (λ u after. O after) (LeftBy O) (λ u after. O after) (LeftBy O)
        (worked (body_sum facts program.globals [] program.start) (at_first program heap input n))
        (start_part [] [] (worked (body_sum facts program.globals [] program.start) (at_first program heap input n)) begins sights)
        (λ u now e. e) (λ way now e. e)

    start_comes : (n : ℕ) → Comes Any Any (goes_through program plan (at_first program heap input n))
    start_comes n =
        comes_weaker (λ u after. O after) (LeftBy O) Any Any (goes_through program plan (at_first program heap input n)) (start_over n) (λ u now e. tt)
        (λ way now e. tt)

    -- whatever comes is an end, or goes on
    never : (r : Res State (Outcome (Unit {0}))) → Comes Any Any r → (p : Phase) → IsBad p →
        (seen_of (λ (s : State). s.meter) (λ (o : Outcome (Unit {0})). zero) (λ (s : State). live s.world) r).phase ≡ p → ⊥
    never (Got (On u) s) h p bad e = no_end p bad e
    never (Got (Out way) s) h p bad e = no_end p bad e
    never (Over status l s) h p bad e = no_end p bad e
    never (Going s) h p bad e = no_going p bad e
    never (Wrong s) h p bad e = elim h [ ]

    pub is_sound : Sound (meaning program plan heap input)
    is_sound = record {
      no_fault = λ n e. never (goes_through program plan (at_first program heap input n)) (start_comes n) Faulted tt e;
      right = λ n e. never (goes_through program plan (at_first program heap input n)) (start_comes n) IsWrong tt e;
    }

    -- ---- what is left at a normal end

    no_blocks : {now : World} (bs : List ℕ) → Cells now [] bs → (k : ℕ) → times k bs ≡ 0
    no_blocks _ no_cells k = refl

    none_live : (now : World) → O now → (k : ℕ) → live_at now k ≡ 0
    none_live now e k = omega (arith, e.stage.runs.loses k, no_blocks e.stage.runs.territory.blocks e.stage.runs.territory.cells k)

    none_there : (b : Option Block) → one_if_there b ≡ 0 → b ≡ None
    none_there None e = refl
    none_there (Some block) e = absurd (omega (arith, e))

    none_left : (now : World) → O now → IsOnce now → IsReleased now
    none_left now e once k = (none_there (block_at now.heap k) (none_live now e k), omega (arith, once.1 k, none_live now e k))

    released_at : (r : Res State (Outcome (Unit {0}))) → Comes (λ u after. O after) (LeftBy O) r → IsAlways IsOnce r → IsKept (λ flow. IsReleased) r
    released_at (Got (On u) s) h once = none_left s.world h once
    released_at (Got (Out way) s) h once = none_left s.world h.1 once
    released_at (Over status l s) h once = tt
    released_at (Going s) h once = tt
    released_at (Wrong s) h once = elim h [ ]

    pub is_released : ((n : ℕ) → IsAlways IsOnce (goes_through program plan (at_first program heap input n))) → LeavesNoBlock program plan heap input
    is_released once n = released_at (goes_through program plan (at_first program heap input n)) (start_over n) (once n)
