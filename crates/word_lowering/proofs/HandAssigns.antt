-- A place gets a value that a temporary hands over: the value is under way at the temporary's home, which has what the place had behind the hook, and that
-- has ended.
use Rattle.std.proofs.Common.{◌≡◌, ℕ, ◌+◌, ◌*◌, ◌^◌, ◌<◌, ◌≤◌, List, [], length, Bool, true, false, Some, None}
use Rattle.std.proofs.Common.{refl, sym, ap, subst, ◌∙◌, arith}
use Rattle.std.specs.Prelude.{slice_get}
use Rattle.nim_types.specs.Table.{IsTable}
use Rattle.nim_types.specs.Forms.{Form}
use Rattle.nim_types.specs.declared.types.TypeDef.{TypeDef}
use Rattle.nim_types.specs.declared.types.TheConstants.{LIST_BYTES}
use Rattle.nim_meaning.specs.Values.{Given, InHand, Location, Operand, Value, at_base, nothing}
use Rattle.nim_meaning.specs.State.{World, popped, pushed}
use Rattle.nim_meaning.specs.Deeds.{Answers, Done, Fails, Finishes, Pops, behind, costs, does, give, looks, perform, unless_gone, ◌>>=◌}
use Rattle.nim_meaning.specs.Lifted.{assigned, assigns, sinking, walk}
use Rattle.nim_meaning.specs.Places.{Destination, kept_if}
use Rattle.nim_meaning.specs.Texts.{are_seen}
use Rattle.flat_code.specs.declared.block.BlockLine.{BlockLine}
use Rattle.flat_code.specs.Lines.{form_in, gives}
use Rattle.flat_code.specs.Running.{scene_of}
use Rattle.flat_code.specs.Scene.{known_in, Passes, Temps, with_value}
use Rattle.hook_lifting.specs.declared.lifted.Hook.TheVariants.{Sinks}
use Rattle.hook_lifting.specs.Lifted.{has_hooks}
use Rattle.hook_lifting.specs.Lifting.{hook_deed}
use Rattle.hook_lifting.specs.Weights.{is_built}
use Rattle.hook_lifting.proofs.ForCallers.{LeastDone, done_then, performs_then}
use Rattle.hook_code.specs.Kept.{AreShort, AreThere, chain_of, rank_in}
use Rattle.hook_code.specs.Promises.{Routines}
use Rattle.word_lowering.specs.declared.homes.Home.{Home}
use Rattle.word_lowering.specs.HookCalled.{hook_called}
use Rattle.word_lowering.specs.Stored.{HaveForms}
use Rattle.word_lowering.proofs.Blocks.{Stored}
use Rattle.word_lowering.proofs.Gets.{SameTemps}
use Rattle.word_lowering.proofs.HandLines.{HandCall, hand_around, hand_lands, hand_led, hand_paid, hand_settles, hand_top, still_led}
use Rattle.word_lowering.proofs.HandedTemps.{forgotten, forgotten_good, from_forgotten, without_here, without_temps}
use Rattle.word_lowering.proofs.HookAssigns.{nothing_given}
use Rattle.word_lowering.proofs.HookCalls.{IsArgument}
use Rattle.word_lowering.proofs.HookHomes.{HookHomes}
use Rattle.word_lowering.proofs.HookReturns.{answering}
use Rattle.word_lowering.proofs.HookSurroundings.{shape, surroundings}
use Rattle.word_lowering.proofs.Keeping.{from_home, points_there}
use Rattle.word_lowering.proofs.Lines.{Basis, IsGood, Settles, all_procs, starts}
use Rattle.word_lowering.proofs.OutPlaces.{high_in_memory}
use Rattle.word_lowering.proofs.Related.{Both, high, store_of}
use Rattle.word_lowering.proofs.Scenes.{IsItem, IsThere, Points, address_of, house, is_fixed, looked, of_value}
use Rattle.word_lowering.proofs.Settling.{code_here, code_next}
use Rattle.word_lowering.proofs.ShapeFacts.{of_numbers}
use Rattle.word_lowering.proofs.Sites.{InMemory}

-- what becomes of a value that is handed over
given_done : (f : Form) (l : Location) (v : Value) (w : World) → length w.hand ≡ 0 → perform (assigned f l (Given v)) w
    ≡ done_then (perform (walk sinking f l (at_base (InHand 0))) (pushed w v)) (λ u after. Answers [] 0 tt (popped after))
given_done f l v w idle =
    performs_then (walk sinking f l (at_base (InHand (length w.hand)))) (λ u. does Pops) (pushed w v)
    ∙ ap (λ n. done_then (perform (walk sinking f l (at_base (InHand n))) (pushed w v)) (λ u after. Answers [] 0 tt (popped after))) idle

answering_then : {A B : Type 0} (b : B) (to : World → World) (done : Done A) → answering b (done_then done (λ u w. Answers [] 0 (tt {0}) (to w)))
    ≡ done_then done (λ u w. Answers [] 0 b (to w))
answering_then b to (Answers es n u w) = refl
answering_then b to (Finishes es n status w) = refl
answering_then b to (Fails es n w) = refl

module _ (x : Basis) (g : Both) (line : BlockLine) (rest : List BlockLine) (y : IsGood x (starts g line rest)) (is_table : IsTable x.table)
    (have : HaveForms x.table) (t : ℕ) (v : Value) (has : g.call.temps.values t ≡ Some v) (there : IsThere g.call.site (of_value t))
    (inside : InMemory (house g.call.site (of_value t)).home) (hooked : of_numbers (looked x.table g.call.site (of_value t)) ≡ false) where
  -- before the call the temporary has nothing
  abbrev pub before : Both
  before = forgotten x g line rest y t there

  pub before_good : IsGood x (starts before line rest)
  before_good = forgotten_good x g line rest y t there hooked

  pub none_before : before.call.temps.values t ≡ None
  none_before = without_here x g line rest y t there

  stored_before : Stored (is_fixed g.ground) g.ground.blocks g.memory (address_of g.call.site.base (house g.call.site (of_value t)).home)
      (looked x.table g.call.site (of_value t)) v
  stored_before =
      let item : IsItem x.table (store_of g) g.call (of_value t) v = y.hold.0.items (of_value t) v there has in
      from_home (store_of g) g.call.site.base g.call.vars (looked x.table g.call.site (of_value t)) (house g.call.site (of_value t)) v item.plain inside
      item.at

  abbrev pub given_around : HookHomes
  given_around = hand_around x before line rest before_good t there inside none_before hooked is_table have v

  module _ (short : AreShort x.table) (first : ℕ) (routines : Routines x.table (surroundings given_around) x.live (all_procs x) x.fresh)
      (are_there : AreThere x.table first (all_procs x)) (ty : ℕ) (d : TypeDef) (entry : slice_get x.table ty ≡ Some d)
      (hooks : has_hooks x.table ty ≡ true) (built : is_built (form_in (known_in x.table) ty) ≡ true)
      (look : looked x.table g.call.site (of_value t) ≡ shape given_around ty)
      (small : address_of g.call.site.base (house g.call.site (of_value t)).home < 2 ^ 32) (l : Location) (a : ℕ)
      (leads : IsArgument x before line rest before_good is_table have true l a ty)
      (room : hand_top x before line rest before_good t there inside none_before hooked is_table have v + LIST_BYTES * chain_of Sinks (rank_in x.table ty)
      ≤ given_around.limit) (shallow : rank_in x.table ty ≤ 64) (to_home : Home) (points : Points g.call.site.base g.call.vars to_home a)
      (code : code_here x g line rest y ≡ hook_called first Sinks ty to_home (house g.call.site (of_value t)).home (code_next x g line rest y)) where
    abbrev form : Form
    form = form_in (known_in x.table) ty

    abbrev own_home : Home
    own_home = (house g.call.site (of_value t)).home

    given_call : HandCall x before line rest before_good t there inside none_before hooked is_table have v
    given_call = record {
      stored = stored_before;
      short = short;
      first = first;
      routines = routines;
      are_there = are_there;
      hook = Sinks;
      ty = ty;
      def = d;
      entry = entry;
      hooks = hooks;
      built = built;
      to = l;
      from = at_base (InHand 0);
      a = a;
      b = address_of g.call.site.base own_home;
      to_led = still_led x before line rest before_good t there inside none_before hooked is_table have v true l a ty leads;
      from_led = hand_led x before line rest before_good t there inside none_before hooked is_table have v true ty look small;
      room = room;
      shallow = shallow;
      to_home = to_home;
      from_home = own_home;
      high_from = high_in_memory own_home inside;
      points = points;
      points_from = points_there g.call.site.base g.call.vars own_home inside;
      code = code;
    }

    -- with these temporaries behind it
    pub sinks_settles : (temps : Temps) → SameTemps x before line rest before_good temps
        → Settles x (starts g line rest) rest (Passes (behind [] 1 (answering temps (perform (assigned form l (Given v)) g.world))))
    unfolding given_call
    sinks_settles temps same =
        let done : Done (Unit {0}) = perform (hook_deed (known_in x.table) Sinks ty l (at_base (InHand 0))) (pushed g.world v) in
        subst (λ d. Settles x (starts g line rest) rest (Passes (behind [] 1 d)))
        (sym (ap (answering temps) (given_done form l v g.world y.idle) ∙ answering_then temps popped done))
        (from_forgotten x g line rest y t there hooked (behind [] 1 (done_then done (λ u w. Answers [] 0 temps (popped w))))
        (hand_settles x before line rest before_good t there inside none_before hooked is_table have v given_call 1
        (hand_paid x before line rest before_good t there inside none_before hooked is_table have v given_call 1 0 (omega arith) done (least_none done))
        (λ w. Answers [] 0 temps (popped w))
        (λ w word m after ahead here.
        (refl, hand_lands x before line rest before_good t there inside none_before hooked is_table have v given_call w word m after ahead here temps same))))
      where
        least_none : (d : Done (Unit {0})) → LeastDone 0 d
        least_none (Answers es n u w) = omega arith
        least_none (Finishes es n status w) = omega arith
        least_none (Fails es n w) = tt

    -- ---- the row of assignment, where its operands are seen

    pub assign_given_settles : (to : ℕ) (dest : Destination) (xs : List Operand)
        → SameTemps x before line rest before_good (with_value to before.call.temps nothing)
        → Settles x (starts g line rest) rest (gives (record (scene_of (high x.table x.blocks (starts g line rest))) { temps = before.call.temps }) to
        (costs 1 (looks (λ world. unless_gone (are_seen world xs) (assigns form l (Given v)))) >>= kept_if false dest))
    assign_given_settles to dest xs same = by (are_seen g.world xs)
      where
        by : (seen : Bool) → Settles x (starts g line rest) rest (Passes (behind [] 1 (perform
            (unless_gone seen (assigns form l (Given v)) >>= kept_if false dest
            >>= (λ u. give (with_value to (without_temps x g line rest y t there) u))) g.world)))
        by true =
            subst (λ done. Settles x (starts g line rest) rest (Passes (behind [] 1 done)))
            (sym (nothing_given (assigned form l (Given v)) to (without_temps x g line rest y t there) dest g.world))
            (sinks_settles (with_value to (without_temps x g line rest y t there) nothing) same)
        by false = λ before. tt
