-- A temporary is met at the end of its group: what waits at its node ends by a hook, if anything does.
use Rattle.std.proofs.Common.{◌≡◌, ◌⊎◌, ℕ, ◌+◌, ◌*◌, ◌^◌, ◌<◌, ◌≤◌, List, [], ◌∷◌, length, map, Bool, true, false, Option, Some, None}
use Rattle.std.proofs.Common.{inl, refl, sym, ap, subst, ◌∙◌, arith, le_refl, mul-le-mul}
use Rattle.std.proofs.lemmas.Bool.{ne_eqb}
use Rattle.std.specs.Prelude.{slice_get}
use Rattle.nim_types.specs.Forms.{Form}
use Rattle.nim_types.specs.Table.{IsTable}
use Rattle.nim_types.specs.declared.types.TypeDef.{TypeDef}
use Rattle.nim_types.specs.declared.types.TheConstants.{LIST_BYTES}
use Rattle.nim_meaning.specs.Values.{Holds, Lends, Location, Slot, Stands, Value, Waiting, at_base}
use Rattle.nim_meaning.specs.State.{World, temporary_at, with_none_waiting}
use Rattle.nim_meaning.specs.Deeds.{Answers, Done, Fails, Finishes, Leaves, behind, costs, does, give, perform, ◌>>=◌, ◌>>◌}
use Rattle.nim_meaning.specs.Lifted.{ending, slot_ends, temporary_ends, walk}
use Rattle.flat_code.specs.declared.block.BlockLine.{BlockLine}
use Rattle.flat_code.specs.Codes.{block_plain}
use Rattle.flat_code.specs.Lines.{acts, form_in}
use Rattle.flat_code.specs.Running.{scene_of}
use Rattle.flat_code.specs.Scene.{known_in, Passes}
use Rattle.word_code.specs.declared.word.Test.TheVariants as test
use Rattle.word_code.specs.declared.word.WordInstr.{WordInstr}
use Rattle.word_code.specs.declared.word.WordInstr.TheVariants.{Branch, Constant, Label}
use Rattle.word_code.specs.Memory.{Memory}
use Rattle.word_code.specs.Routines.{goes_on}
use Rattle.word_code.specs.Words.{Vars, WordState, from_label, holds, no_words, put}
use Rattle.word_code.proofs.ForCallers.{Runs, at, run_constant, run_label, run_off, run_past, then_runs}
use Rattle.hook_lifting.specs.declared.lifted.Hook.TheVariants.{Ends}
use Rattle.hook_lifting.specs.Lifted.{has_hooks}
use Rattle.hook_lifting.specs.Weights.{is_built}
use Rattle.hook_lifting.proofs.ForCallers.{done_then, performs_then}
use Rattle.hook_code.specs.Kept.{AreShort, AreThere, chain_of, pace_at, rank_in}
use Rattle.hook_code.specs.Promises.{Routines}
use Rattle.word_lowering.specs.declared.homes.TheConstants.{FIRST, OWN_FROM}
use Rattle.word_lowering.specs.declared.homes.Home.TheVariants.{Placed}
use Rattle.word_lowering.specs.declared.homes.Waiter.{Waiter}
use Rattle.word_lowering.specs.HookCalled.{hook_called}
use Rattle.word_lowering.specs.LineCode.{label_before}
use Rattle.word_lowering.specs.Stored.{HaveForms}
use Rattle.word_lowering.specs.WaitingCode.{leaves_code, waiter_at, waiter_house}
use Rattle.word_lowering.proofs.HookPaces.{pace_by}
use Rattle.word_lowering.proofs.Blocks.{AreLater, Blocks}
use Rattle.word_lowering.proofs.Gets.{good_with_temps, same_temps}
use Rattle.word_lowering.proofs.GoodHomes.{home_at}
use Rattle.word_lowering.proofs.GoodRows.{later_ground_of}
use Rattle.word_lowering.proofs.HandCopies.{behind_behind, then_then}
use Rattle.word_lowering.proofs.HookCalls.{IsArgument, around, hook_comes, top}
use Rattle.word_lowering.proofs.HookHomes.{IsHere}
use Rattle.word_lowering.proofs.HookLines.{hook_given, hook_runs, hook_same, hook_state, hook_vars, hook_words}
use Rattle.word_lowering.proofs.HookReturns.{IsPaid, Lands, returns_settles}
use Rattle.word_lowering.proofs.HooksGood.{HookedHome, good_behind_hooks}
use Rattle.word_lowering.proofs.HookSurroundings.{shape, surroundings}
use Rattle.word_lowering.proofs.HookWorlds.{memory_more}
use Rattle.word_lowering.proofs.Keeping.{waiting_inside, waiting_there}
use Rattle.word_lowering.proofs.Lines.{Basis, IsGood, Settles, all_procs, all_sites, changed, changed_later, goes_on as line_goes_on, stands_next, starts}
use Rattle.word_lowering.proofs.Moves.{same_first, same_more}
use Rattle.word_lowering.proofs.OrdinalRuns.{AllSame, put_here, put_other}
use Rattle.word_lowering.proofs.Related.{Both, body_of, high, low, within}
use Rattle.word_lowering.proofs.Scenes.{SaysAt, address_of, house, looked, of_waiting}
use Rattle.word_lowering.proofs.Settling.{OwnLabels, code_here, code_next, code_of_line}
use Rattle.word_lowering.proofs.ShapeFacts.{of_numbers}
use Rattle.word_lowering.proofs.SitesApart.{site_at}
use Rattle.word_lowering.proofs.WaitingLines.{leaves}

-- what is done where something waits
ends_done : {B : Type 0} (f : Form) (l : Location) (level node : ℕ) (b : B) (w : World)
    → perform ((walk ending f l l >> does (Leaves level node)) >>= (λ u. give b)) w
    ≡ done_then (perform (walk ending f l l) w) (λ u after. Answers [] 0 b (with_none_waiting after level node))
ends_done f l level node b w =
    performs_then (walk ending f l l >> does (Leaves level node)) (λ u. give b) w
    ∙ (ap (λ d. done_then d (λ u after. perform (give b) after)) (performs_then (walk ending f l l) (λ u. does (Leaves level node)) w)
    ∙ then_then (perform (walk ending f l l) w) (λ u after. perform (does (Leaves level node)) after) (λ u after. perform (give b) after))

module _ (x : Basis) (g : Both) (line : BlockLine) (rest : List BlockLine) (y : IsGood x (starts g line rest)) (is_table : IsTable x.table)
    (have : HaveForms x.table) (short : AreShort x.table) (first : ℕ)
    (routines : Routines x.table (surroundings (around x g line rest y is_table have)) x.live (all_procs x) x.fresh)
    (are_there : AreThere x.table first (all_procs x)) (own_labels : OwnLabels x) (node ty : ℕ) (w : Waiter)
    (is : waiter_at node g.call.site.body.own.waiters ≡ Some w) (d : TypeDef) (entry : slice_get x.table ty ≡ Some d)
    (hooks : has_hooks x.table ty ≡ true) (built : is_built (form_in (known_in x.table) ty) ≡ true)
    (look : looked x.table g.call.site (of_waiting node) ≡ shape (around x g line rest y is_table have) ty)
    (hooked : of_numbers (looked x.table g.call.site (of_waiting node)) ≡ false)
    (near : g.call.site.base + w.at < 2 ^ 32)
    (room : top x g line rest y is_table have + LIST_BYTES * chain_of Ends (rank_in x.table ty) ≤ (around x g line rest y is_table have).limit)
    (shallow : rank_in x.table ty ≤ 64) where
  abbrev form : Form
  form = form_in (known_in x.table) ty

  abbrev level : ℕ
  level = g.call.site.level

  abbrev waited : Location
  waited = at_base (Waiting level node)

  abbrev next : List WordInstr
  next = code_next x g line rest y

  abbrev label : ℕ
  label = label_before (map block_plain rest)

  abbrev a : ℕ
  a = g.call.site.base + w.at

  -- behind the call
  abbrev left_code : List WordInstr
  left_code = Label label ∷ leaves_code (Some w) next

  abbrev call_code : List WordInstr
  call_code = hook_called first Ends ty (Placed w.at) (Placed w.at) left_code

  abbrev whole_code : List WordInstr
  whole_code = Constant FIRST 0 ∷ Branch test.Equal w.variable FIRST label ∷ call_code

  module _ (code : code_here x g line rest y ≡ whole_code) (code_is : (k : List WordInstr) → from_label label (code_of_line x g line rest k)
      ≡ Some (Label label ∷ leaves_code (Some w) k)) where
    low_variable : OWN_FROM ≤ w.variable
    low_variable = y.linked.0.waiting.variable node w is

    abbrev v1 : Vars
    v1 = put g.call.vars FIRST 0

    says : SaysAt (Some w) (temporary_at g.world level node) g.call.site.base g.call.vars
    says = subst (λ o. SaysAt o (temporary_at g.world g.call.site.level node) g.call.site.base g.call.vars) is (y.hold.0.waits node)

    variable_there : v1 w.variable ≡ g.call.vars w.variable
    variable_there = let l = low_variable in put_other g.call.vars FIRST 0 w.variable (λ e. absurd (omega (arith, e, l)))

    first_there : v1 FIRST ≡ Some 0
    first_there = put_here g.call.vars FIRST 0 (omega arith)

    -- nothing waits there any more, from a state in which all is good
    module _ (g' : Both) (good : IsGood x (starts g' line rest)) (is_there : waiter_at node g'.call.site.body.own.waiters ≡ Some w) where
      left_runs : Runs x.live (all_procs x) 2 (at (within x.table x.blocks g') g'.memory left_code g'.call.vars g'.words)
          (at (within x.table x.blocks g') g'.memory next (leaves x g' line rest good node w is_there next).vars g'.words)
      left_runs =
          then_runs x.live (all_procs x)
          (run_label x.live (all_procs x) (within x.table x.blocks g') g'.memory (leaves_code (Some w) next) g'.call.vars g'.words label)
          (leaves x g' line rest good node w is_there next).runs

    -- ---- nothing waits

    first_same : AllSame g.call.vars v1
    first_same = same_first g.call.vars 0

    abbrev without : Both
    without = changed g (line ∷ rest) g.call.temps v1 g.memory g.words g.awaits g.world

    without_good : IsGood x (starts without line rest)
    without_good = good_with_temps x g line rest y (line ∷ rest) g.call.temps (same_temps x g line rest y) v1 g.words g.awaits first_same y.stands

    none_settles : temporary_at g.world level node ≡ None
        → Settles x (starts g line rest) rest (Passes (Answers [] 2 g.call.temps (with_none_waiting g.world level node)))
    none_settles none =
        let zero : g.call.vars w.variable ≡ Some 0
        = subst (λ o. SaysAt (Some w) o g.call.site.base g.call.vars) none says in
        let l = leaves x without line rest without_good node w is next in
        line_goes_on x (starts g line rest)
        (changed g rest g.call.temps l.vars g.memory g.words g.awaits (with_none_waiting g.world g.call.site.level node)) rest
        (l.good rest (stands_next x.table x.blocks (body_of g) line rest y.stands)) 4 2 g.call.temps (with_none_waiting g.world g.call.site.level node)
        (subst (λ k. Runs x.live (all_procs x) 4 (at (within x.table x.blocks g) g.memory k g.call.vars g.words)
        (at (within x.table x.blocks g) g.memory next l.vars g.words)) (sym code)
        (then_runs x.live (all_procs x)
        (then_runs x.live (all_procs x)
        (run_constant x.live (all_procs x) (within x.table x.blocks g) g.memory (Branch test.Equal w.variable FIRST label ∷ call_code) g.call.vars g.words
        FIRST 0)
        (run_off x.live (all_procs x) (within x.table x.blocks g) g.memory call_code v1 g.words test.Equal w.variable FIRST label left_code
        (variable_there ∙ zero) first_there refl (own_labels g line rest y ∙ code_is next)))
        (left_runs without without_good is)))
        (omega arith) (omega arith) refl

    -- ---- something waits

    module _ (v : Value) (has : temporary_at g.world level node ≡ Some (Holds v)) where
      holds_it : g.call.vars w.variable ≡ Some a
      holds_it = subst (λ o. SaysAt (Some w) o g.call.site.base g.call.vars) has says

      not_zero : holds test.Equal a 0 ≡ false
      not_zero =
          let s = site_at x.table x.blocks (all_sites x g line rest y) g.call.site y.linked (inl refl) in
          let l = s.least in ne_eqb a 0 (λ e. absurd (omega (arith, e, l)))

      argument : (own : Bool) → IsArgument x g line rest y is_table have own waited a ty
      argument own = record {
        at = a;
        word = omega (arith, near);
        led = inl (record {
          home = home_at x (starts g line rest) g.call (of_waiting node) v;
          among = inl (record {
            home = record {
              call = g.call;
              among = inl refl;
              name = of_waiting node;
              there = waiting_there g.call.site node w is;
              inside = waiting_inside g.call.site node (waiting_there g.call.site node w is);
              value = v;
              has = has;
              is = refl;
            };
            hooked = hooked;
          });
          base = refl;
          offset = 0;
          way = (refl, look);
          address = (let e : a ≡ address_of g.call.site.base (house g.call.site (of_waiting node)).home + 0
              = address_there in e);
          owned = λ e. tt;
        });
      }
        where
          address_there : g.call.site.base + w.at ≡ address_of g.call.site.base (house g.call.site (of_waiting node)).home + 0
          address_there =
              let e : address_of g.call.site.base (house g.call.site (of_waiting node)).home ≡ g.call.site.base + w.at
              = ap (λ o. address_of g.call.site.base (waiter_house o).home) is in
              omega (arith, e)

      abbrev called : WordState
      called = hook_state x g v1 Ends first ty a a left_code

      abbrev vars : Vars
      vars = hook_vars v1 a a

      runs : Runs x.live (all_procs x) 6 (low x.table x.blocks (starts g line rest)) called
      runs =
          subst (λ k. Runs x.live (all_procs x) 6 (at (within x.table x.blocks g) g.memory k g.call.vars g.words) called) (sym code)
          (then_runs x.live (all_procs x)
          (then_runs x.live (all_procs x)
          (run_constant x.live (all_procs x) (within x.table x.blocks g) g.memory (Branch test.Equal w.variable FIRST label ∷ call_code) g.call.vars g.words
          FIRST 0)
          (run_past x.live (all_procs x) (within x.table x.blocks g) g.memory call_code v1 g.words test.Equal w.variable FIRST label
          (variable_there ∙ holds_it) first_there not_zero))
          (hook_runs x g v1 Ends first ty a a near near (Placed w.at) (Placed w.at) tt refl refl left_code))

      abbrev most : (work : ℕ) → ℕ
      most n = 1 + pace_at Ends (rank_in x.table ty) * n

      few : (n : ℕ) → 6 + most n + 2 ≤ 256 * (2 + n)
      few n = let e : pace_at Ends (rank_in x.table ty) * n ≤ 251 * n = mul-le-mul (pace_by Ends (rank_in x.table ty) shallow) (le_refl n) in omega (arith, e)

      paid : (done : Done (Unit {0}))
          → IsPaid x g line rest y (around x g line rest y is_table have) (top x g line rest y is_table have) (top x g line rest y is_table have)
          g.ground.blocks called left_code most 6 runs 2 2 done
      paid (Answers es n u after) = few n
      paid (Finishes es n status after) = let f = few n in omega (arith, f)
      paid (Fails es n after) = tt

      lands : (after : World) (word : ℕ) (m : Memory) (later : Blocks) → AreLater g.ground.blocks later
          → IsHere (around x g line rest y is_table have) (top x g line rest y is_table have) (top x g line rest y is_table have) [] later after m
          → (l : Lands x g line rest y (goes_on called FIRST word left_code m called.input) g.call.temps (with_none_waiting after level node)) × (l.steps ≤ 2)
      lands after word m later ahead here =
          let vars' : Vars = put vars FIRST word in
          let input : after.input ≡ g.input = here.like.input ∙ y.input in
          let long : length m.places ≡ length g.memory.places = (let e = here.ends in let f = y.memory.places in omega (arith, e, f)) in
          let then : Both
          = changed_later g (line ∷ rest) g.call.temps vars' m no_words FIRST after (later_ground_of x g line rest y later) g.input in
          let good : IsGood x (starts then line rest)
          = subst (λ i. IsGood x (changed_later g (line ∷ rest) g.call.temps vars' m no_words FIRST after (later_ground_of x g line rest y later) i)) input
          (good_behind_hooks x g line rest y later ahead after m
          (record { sized = here.here.holds.sized; heap = here.here.holds.heap; homes = λ h p. here.here.holds.homes h (inl p) })
          here.like (λ h. ⊥) (λ h p. absurd p)
          (memory_more (HookedHome x g line rest y) (λ h. HookedHome x g line rest y h ⊎ ⊥) (λ h p. inl p) (top x g line rest y is_table have) g.memory m
          here.same) long here.bytes here.here.long (line ∷ rest) y.stands g.call.temps (same_temps x g line rest y) vars' no_words FIRST
          (same_more g.call.vars vars vars' (same_more g.call.vars v1 vars first_same (hook_same v1 a a)) (same_first vars word))) in
          let l = leaves x then line rest good node w is next in (
            record {
              later = later;
              vars = l.vars;
              memory = m;
              words = no_words;
              awaits = FIRST;
              good = l.good rest (stands_next x.table x.blocks (body_of g) line rest y.stands);
              steps = 2;
              runs = left_runs then good is;
            },
            omega arith,
          )

      ends_settles : Settles x (starts g line rest) rest (Passes (behind [] 2 (done_then (perform (walk ending form waited waited) g.world)
          (λ u after. Answers [] 0 g.call.temps (with_none_waiting after level node)))))
      ends_settles =
          returns_settles x g line rest y (around x g line rest y is_table have) (top x g line rest y is_table have) (top x g line rest y is_table have)
          g.ground.blocks called left_code most 6 runs 2 2 (λ after. Answers [] 0 g.call.temps (with_none_waiting after g.call.site.level node))
          (λ after word m later ahead here. let l = lands after word m later ahead here in let f = l.1 in (refl, (l.0, omega (arith, f))))
          (perform (walk ending form waited waited) g.world) (paid (perform (walk ending form waited waited) g.world))
          (λ before. hook_comes x g line rest y is_table have short first routines are_there Ends ty d entry hooks shallow built waited waited a a
          (argument true)
          (argument true) room left_code vars (hook_words g.words a a) (hook_given g.words a a near near) before)

    -- ---- whichever it is

    -- what is done, by what the node has
    abbrev Ends_with : Option Slot → Type 0
    Ends_with o =
        Settles x (starts g line rest) rest (Passes (behind [] 1 (behind [] 1 (perform
        ((slot_ends form waited o >> does (Leaves level node)) >>= (λ u. give g.call.temps)) g.world))))

    pub temporary_ends_settles : Settles x (starts g line rest) rest
        (acts (scene_of (high x.table x.blocks (starts g line rest))) (costs 1 (temporary_ends form level node)))
    temporary_ends_settles = by (temporary_at g.world g.call.site.level node) refl
      where
        by : (o : Option Slot) → temporary_at g.world level node ≡ o → Ends_with (temporary_at g.world level node)
        by None e = subst Ends_with (sym e) (none_settles e)
        by (Some (Holds v)) e =
            subst Ends_with (sym e)
            (subst (λ done. Settles x (starts g line rest) rest (Passes (behind [] 1 (behind [] 1 done))))
            (sym (ends_done form waited g.call.site.level node g.call.temps g.world))
            (subst (λ done. Settles x (starts g line rest) rest (Passes done))
            (sym (behind_behind [] [] 1 1 (done_then (perform (walk ending form waited waited) g.world)
            (λ u after. Answers [] 0 g.call.temps (with_none_waiting after g.call.site.level node)))))
            (ends_settles v e)))
        by (Some (Stands other)) e = absurd (subst (λ o. SaysAt (Some w) o g.call.site.base g.call.vars) e says)
        by (Some (Lends v from seen)) e = absurd (subst (λ o. SaysAt (Some w) o g.call.site.base g.call.vars) e says)
