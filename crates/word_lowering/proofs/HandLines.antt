-- A line calls a hook while a value is under way at the home of a temporary, which has none itself: the temporary gets what becomes of it there, or it is
-- gone then.
use Rattle.std.proofs.Common.{◌≡◌, ◌≢◌, ◌⊎◌, inl, inr, ℕ, ◌+◌, ◌*◌, ◌^◌, ◌<◌, ◌≤◌, List, [], ◌∷◌, Bool, true, false, Some, None}
use Rattle.std.proofs.Common.{refl, sym, subst, ◌∙◌, arith, le_refl, mul-le-mul}
use Rattle.std.specs.Prelude.{slice_get}
use Rattle.nim_types.specs.Table.{IsTable}
use Rattle.nim_types.specs.declared.types.TypeDef.{TypeDef}
use Rattle.nim_types.specs.declared.types.TheConstants.{LIST_BYTES}
use Rattle.nim_meaning.specs.Values.{InHand, Location, Value, at_base, is_full}
use Rattle.nim_meaning.specs.State.{World, load, popped, pushed}
use Rattle.nim_meaning.specs.Deeds.{Answers, Done, Fails, Finishes, behind, perform}
use Rattle.flat_code.specs.declared.block.BlockLine.{BlockLine}
use Rattle.flat_code.specs.Lines.{form_in}
use Rattle.flat_code.specs.Scene.{known_in, Passes, Temps, with_value}
use Rattle.word_code.specs.Memory.{Memory}
use Rattle.word_code.specs.Routines.{goes_on}
use Rattle.word_code.specs.Words.{Vars, WordState, no_words, put}
use Rattle.word_code.proofs.ForCallers.{Runs, at, none as no_run}
use Rattle.hook_lifting.specs.declared.lifted.Hook.{Hook}
use Rattle.hook_lifting.specs.Lifted.{has_hooks}
use Rattle.hook_lifting.specs.Lifting.{hook_deed}
use Rattle.hook_lifting.specs.Weights.{is_built}
use Rattle.hook_lifting.proofs.ForCallers.{LeastDone, done_then}
use Rattle.hook_code.specs.Kept.{AreShort, AreThere, chain_of, pace_at, rank_in}
use Rattle.hook_code.specs.Promises.{AnyWord, Comes, Routines, from_own}
use Rattle.hook_code.proofs.ForCallers.{hooks_kept}
use Rattle.word_lowering.specs.declared.homes.TheConstants.{FIRST}
use Rattle.word_lowering.specs.declared.homes.Home.{Home}
use Rattle.word_lowering.specs.HookCalled.{hook_called}
use Rattle.word_lowering.specs.Stored.{HaveForms}
use Rattle.word_lowering.proofs.HookPaces.{pace_by}
use Rattle.word_lowering.proofs.Blocks.{Blocks, AreLater, Stored}
use Rattle.word_lowering.proofs.BlockHomes.{Home as BlockHome}
use Rattle.word_lowering.proofs.FullValues.{full_shape}
use Rattle.word_lowering.proofs.Gets.{SameTemps, same_temps}
use Rattle.word_lowering.proofs.GoodRows.{later_ground_of}
use Rattle.word_lowering.proofs.HandGood.{HandedHome, around_hand, at_hand, good_behind_hand, hand_there, here_hand, now_there}
use Rattle.word_lowering.proofs.HandedTemps.{given_good}
use Rattle.word_lowering.proofs.HookCalls.{IsArgument}
use Rattle.word_lowering.proofs.HookHomes.{HookHomes, IsHere}
use Rattle.word_lowering.proofs.HookLeads.{IsLed as IsLedTo, Leads, leads_small}
use Rattle.word_lowering.proofs.HookLines.{hook_given, hook_runs, hook_same, hook_state, hook_vars}
use Rattle.word_lowering.proofs.HookReturns.{GoesOn, IsPaid, Lands, returns_settles}
use Rattle.word_lowering.proofs.HooksGood.{HookedHome}
use Rattle.word_lowering.proofs.HookSurroundings.{shape, surroundings}
use Rattle.word_lowering.proofs.Keeping.{call, to_home}
use Rattle.word_lowering.proofs.Lines.{Basis, IsGood, Settles, all_procs, changed_later, lower, stands_next, starts}
use Rattle.word_lowering.proofs.Moves.{IsHigh, same_first, same_more}
use Rattle.word_lowering.proofs.OrdinalRuns.{AllSame}
use Rattle.word_lowering.proofs.Related.{Both, StandAt, body_of, low, sites_of, store_of, within}
use Rattle.word_lowering.proofs.Scenes.{IsItem, IsThere, Points, address_of, house, is_fixed, looked, of_value}
use Rattle.word_lowering.proofs.Settling.{code_here, code_next}
use Rattle.word_lowering.proofs.ShapeFacts.{of_numbers}
use Rattle.word_lowering.proofs.Sites.{InMemory, next_base}
use Rattle.word_lowering.proofs.ValueFacts.{value_plain}

module _ (x : Basis) (g : Both) (line : BlockLine) (rest : List BlockLine) (y : IsGood x (starts g line rest)) (t : ℕ)
    (there : IsThere g.call.site (of_value t)) (inside : InMemory (house g.call.site (of_value t)).home) (none : g.call.temps.values t ≡ None)
    (hooked : of_numbers (looked x.table g.call.site (of_value t)) ≡ false) (is_table : IsTable x.table) (have : HaveForms x.table) (v : Value) where
  abbrev pub hand_around : HookHomes
  hand_around = around_hand x g line rest y t there inside none hooked is_table have v

  abbrev pub hand_top : ℕ
  hand_top = next_base (sites_of (starts g line rest))

  abbrev pub IsLed : (own : Bool) → Location → (a ty : ℕ) → Type 0
  IsLed own l a ty = Leads hand_around.StandsFixed hand_around.Homes hand_around.first own [] g.ground.blocks l a (shape hand_around ty)

  -- ---- where locations lead

  -- as they do without it
  pub still_led : (own : Bool) (l : Location) (a ty : ℕ) → IsArgument x g line rest y is_table have own l a ty → IsLed own l a ty
  still_led own l a ty f = record { at = f.at; word = f.word; led = by f.led }
    where
      by : IsLedTo (is_fixed g.ground) (HookedHome x g line rest y) 0 own [] g.ground.blocks l f.at (shape hand_around ty)
          → IsLedTo (is_fixed g.ground) (HandedHome x g line rest y t there inside none hooked) 1 own [] g.ground.blocks l f.at (shape hand_around ty)
      by (inl h) =
          inl (record { home = h.home; among = among h.home h.among; base = h.base; offset = h.offset; way = h.way; address = h.address; owned = h.owned })
        where
          among : (k : BlockHome) → HookedHome x g line rest y k ⊎ ⊥ → HandedHome x g line rest y t there inside none hooked k ⊎ ⊥
          among k (inl p) = inl (inl p)
          among k (inr i) = absurd i
      by (inr (inl b)) = inr (inl (record { block = b.block; base = b.base; leads = b.leads }))
      by (inr (inr c)) = inr (inr (record { root = c.root; base = c.base; fixed = c.fixed; lent = c.lent }))

  -- the value itself
  pub hand_led : (own : Bool) (ty : ℕ) → looked x.table g.call.site (of_value t) ≡ shape hand_around ty
      → address_of g.call.site.base (house g.call.site (of_value t)).home < 2 ^ 32
      → IsLed own (at_base (InHand 0)) (address_of g.call.site.base (house g.call.site (of_value t)).home) ty
  hand_led own ty look small = record {
    at = address_of g.call.site.base (house g.call.site (of_value t)).home;
    word = omega (arith, small);
    led = inl (record {
      home = hand_there x g line rest y t there inside none hooked;
      among = inl (inr refl);
      base = refl;
      offset = 0;
      way = (refl, look);
      address = omega arith;
      owned = λ e. tt;
    });
  }

  -- ---- the call

  -- which hook is called, where its locations lead, and the code
  pub record HandCall : Type 0 where
    pub stored : Stored (is_fixed g.ground) g.ground.blocks g.memory (address_of g.call.site.base (house g.call.site (of_value t)).home)
        (looked x.table g.call.site (of_value t)) v
    pub short : AreShort x.table
    pub first : ℕ
    pub routines : Routines x.table (surroundings hand_around) x.live (all_procs x) x.fresh
    pub are_there : AreThere x.table first (all_procs x)
    pub hook : Hook
    pub ty : ℕ
    pub def : TypeDef
    pub entry : slice_get x.table ty ≡ Some def
    pub hooks : has_hooks x.table ty ≡ true
    pub built : is_built (form_in (known_in x.table) ty) ≡ true
    pub to : Location
    pub from : Location
    pub a : ℕ
    pub b : ℕ
    pub to_led : IsLed true to a ty
    pub from_led : IsLed (from_own hook) from b ty
    pub room : hand_top + LIST_BYTES * chain_of hook (rank_in x.table ty) ≤ hand_around.limit
    pub shallow : rank_in x.table ty ≤ 64
    pub to_home : Home
    pub from_home : Home
    pub high_from : IsHigh from_home
    pub points : Points g.call.site.base g.call.vars to_home a
    pub points_from : Points g.call.site.base g.call.vars from_home b
    pub code : code_here x g line rest y ≡ hook_called first hook ty to_home from_home (code_next x g line rest y)

  module _ (c : HandCall) where
    abbrev pub hand_called : WordState
    hand_called = hook_state x g g.call.vars c.hook c.first c.ty c.a c.b (code_next x g line rest y)

    small_a : c.a < 2 ^ 32
    small_a = leads_small hand_around.StandsFixed hand_around.Homes 1 true [] g.ground.blocks c.to c.a (shape hand_around c.ty) c.to_led

    small_b : c.b < 2 ^ 32
    small_b = leads_small hand_around.StandsFixed hand_around.Homes 1 (from_own c.hook) [] g.ground.blocks c.from c.b (shape hand_around c.ty) c.from_led

    pub hand_runs : Runs x.live (all_procs x) 4 (low x.table x.blocks (starts g line rest)) hand_called
    hand_runs =
        subst (λ k. Runs x.live (all_procs x) 4 (at (within x.table x.blocks g) g.memory k g.call.vars g.words) hand_called) (sym c.code)
        (hook_runs x g g.call.vars c.hook c.first c.ty c.a c.b small_a small_b c.to_home c.from_home c.high_from c.points c.points_from
        (code_next x g line rest y))

    abbrev pub hand_done : Done (Unit {0})
    hand_done = perform (hook_deed (known_in x.table) c.hook c.ty c.to c.from) (pushed g.world v)

    abbrev pub hand_most : (work : ℕ) → ℕ
    hand_most n = 1 + pace_at c.hook (rank_in x.table c.ty) * n

    -- what a line's own work, or that of the hook, pays
    pub hand_paid : (work least : ℕ) → 5 ≤ 256 * work + 5 * least → (done : Done (Unit {0})) → LeastDone least done
        → IsPaid x g line rest y hand_around hand_top hand_top g.ground.blocks hand_called (code_next x g line rest y) hand_most 4 hand_runs 0 work done
    hand_paid work least own (Answers es n u w) some = few
      where
        few : 4 + (1 + pace_at c.hook (rank_in x.table c.ty) * n) + 0 ≤ 256 * (work + n)
        few = let s = pace_by c.hook (rank_in x.table c.ty) c.shallow in let e = own in let k =
            some in let f : pace_at c.hook (rank_in x.table c.ty) * n ≤ 251 * n =
            mul-le-mul s (le_refl n) in omega (arith, e, f, k)
    hand_paid work least own (Finishes es n status w) some = few
      where
        few : 4 + (1 + pace_at c.hook (rank_in x.table c.ty) * n) ≤ 256 * (work + n)
        few = let s = pace_by c.hook (rank_in x.table c.ty) c.shallow in let e = own in let k =
            some in let f : pace_at c.hook (rank_in x.table c.ty) * n ≤ 251 * n =
            mul-le-mul s (le_refl n) in omega (arith, e, f, k)
    hand_paid work least own (Fails es n w) some = tt

    -- it comes back with memory as the meaning's deed leaves the world
    pub hand_comes : (before : ℕ) → Comes x.table (surroundings hand_around) x.live (all_procs x) x.fresh hand_top hand_top [] g.ground.blocks
        (AnyWord x.table (surroundings hand_around) x.live (all_procs x) x.fresh) (before, hand_called) FIRST (code_next x g line rest y) hand_most hand_done
    hand_comes before =
        hooks_kept x.table is_table have c.short (surroundings hand_around) x.live (all_procs x) x.fresh c.first c.routines c.are_there c.hook c.ty c.def
        c.entry c.hooks c.shallow c.built hand_top hand_top [] g.ground.blocks (pushed g.world v) (before, hand_called) FIRST (code_next x g line rest y) c.to
        c.from c.a c.b
        (record {
          calling = record { next = refl; given = hook_given g.words c.a c.b small_a small_b };
          top_is = refl;
          here = here_hand x g line rest y t there inside none hooked is_table have v c.stored;
        }) c.to_led c.from_led c.room

    pub hand_settles : (work : ℕ)
        → IsPaid x g line rest y hand_around hand_top hand_top g.ground.blocks hand_called (code_next x g line rest y) hand_most 4 hand_runs 0 work hand_done
        → (finish : World → Done Temps)
        → ((w : World) (word : ℕ) (m : Memory) (after : Blocks) → AreLater g.ground.blocks after → IsHere hand_around hand_top hand_top [] after w m
        → GoesOn x g line rest y hand_around hand_top hand_top g.ground.blocks hand_called (code_next x g line rest y) hand_most 4 hand_runs 0 work
        (goes_on hand_called FIRST word (code_next x g line rest y) m hand_called.input) (finish w))
        → Settles x (starts g line rest) rest (Passes (behind [] work (done_then hand_done (λ u w. finish w))))
    hand_settles work paid finish then =
        returns_settles x g line rest y hand_around hand_top hand_top g.ground.blocks hand_called (code_next x g line rest y) hand_most 4 hand_runs 0 work
        finish then hand_done paid hand_comes

    -- ---- behind it

    module _ (w : World) (word : ℕ) (m : Memory) (after : Blocks) (ahead : AreLater g.ground.blocks after)
        (here : IsHere hand_around hand_top hand_top [] after w m) where
      abbrev vars_then : Vars
      vars_then = put (hook_vars g.call.vars c.a c.b) FIRST word

      kept : AllSame g.call.vars vars_then
      kept = same_more g.call.vars (hook_vars g.call.vars c.a c.b) vars_then (hook_same g.call.vars c.a c.b) (same_first (hook_vars g.call.vars c.a c.b) word)

      good_then : (lines : List BlockLine) → StandAt x.table x.blocks (body_of g) lines → (temps : Temps) → SameTemps x g line rest y temps
          → IsGood x (changed_later g lines temps vars_then m no_words FIRST (popped w) (later_ground_of x g line rest y after) g.input)
      good_then lines stands temps same =
          let input : w.input ≡ g.input = here.like.input ∙ y.input in
          subst (λ i. IsGood x (changed_later g lines temps vars_then m no_words FIRST (popped w) (later_ground_of x g line rest y after) i)) input
          (good_behind_hand x g line rest y t there inside none hooked is_table have v after ahead w m here lines stands temps same vars_then no_words FIRST
          kept)

      -- the temporary has nothing
      pub hand_lands : (temps : Temps) → SameTemps x g line rest y temps
          → (l : Lands x g line rest y (goes_on hand_called FIRST word (code_next x g line rest y) m hand_called.input) temps (popped w)) × (l.steps ≤ 0)
      hand_lands temps same = (
        record {
          later = after;
          vars = vars_then;
          memory = m;
          words = no_words;
          awaits = FIRST;
          good = good_then rest (stands_next x.table x.blocks (body_of g) line rest y.stands) temps same;
          steps = 0;
          runs = no_run (lower x) (goes_on hand_called FIRST word (code_next x g line rest y) m hand_called.input);
        },
        le_refl 0,
      )

      -- it has what stands at its home, all of which is there
      module _ (temps : Temps) (values : (u : ℕ) → u ≢ t → g.call.temps.values u ≡ temps.values u)
          (places : (u : ℕ) → g.call.temps.places u ≡ temps.places u) (full : is_full (load w (at_base (InHand 0))) ≡ true) where
        abbrev new : Value
        new = load w (at_base (InHand 0))

        abbrev behind_call : Both
        behind_call =
            changed_later g (line ∷ rest) g.call.temps vars_then m no_words FIRST (popped w) (later_ground_of x g line rest y after) g.input

        good_here : IsGood x (starts behind_call line rest)
        good_here = good_then (line ∷ rest) y.stands g.call.temps (same_temps x g line rest y)

        stored_then : Stored (is_fixed g.ground) after m (address_of g.call.site.base (house g.call.site (of_value t)).home)
            (looked x.table g.call.site (of_value t)) new
        stored_then =
            subst (λ u. Stored (is_fixed g.ground) after m (address_of g.call.site.base (house g.call.site (of_value t)).home)
            (looked x.table g.call.site (of_value t)) u)
            (sym (now_there x g line rest y t there inside none hooked is_table have v after ahead w m here))
            (at_hand x g line rest y t there inside none hooked is_table have v after ahead w m here).stored

        item_then : IsItem x.table (store_of behind_call) (call g.call.site (with_value t temps new) vars_then) (of_value t) new
        item_then = record {
          there = there;
          plain = value_plain (house g.call.site (of_value t)) there.kind;
          shaped = λ asks. full_shape (is_fixed g.ground) after m (address_of g.call.site.base (house g.call.site (of_value t)).home)
              (looked x.table g.call.site (of_value t)) new stored_then full;
          at = to_home (store_of behind_call) g.call.site.base vars_then (looked x.table g.call.site (of_value t)) (house g.call.site (of_value t)) new
              (value_plain (house g.call.site (of_value t)) there.kind) inside stored_then;
        }

        pub hand_gives : (l : Lands x g line rest y (goes_on hand_called FIRST word (code_next x g line rest y) m hand_called.input)
            (with_value t temps new) (popped w)) × (l.steps ≤ 0)
        hand_gives = (
          record {
            later = after;
            vars = vars_then;
            memory = m;
            words = no_words;
            awaits = FIRST;
            good = given_good x behind_call line rest good_here t there temps values places new item_then rest
                (stands_next x.table x.blocks (body_of g) line rest y.stands);
            steps = 0;
            runs = no_run (lower x) (goes_on hand_called FIRST word (code_next x g line rest y) m hand_called.input);
          },
          le_refl 0,
        )
