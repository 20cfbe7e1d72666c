-- A temporary gets a copy of what stands at a location: what its type starts at is under way at its home, and becomes the copy by a hook.
use Rattle.std.proofs.Common.{◌≡◌, ℕ, ◌+◌, ◌*◌, ◌<◌, ◌^◌, ◌≤◌, List, [], ◌++◌, length, Bool, true, false, Some, None}
use Rattle.std.proofs.Common.{refl, sym, ap, ap₂, subst, ◌∙◌, arith, append-nil, append_assoc}
use Rattle.std.proofs.lemmas.Bool.{and_parts}
use Rattle.std.specs.Prelude.{slice_get}
use Rattle.arc_base.specs.Event.{Event}
use Rattle.nim_types.specs.Forms.{Form, HasForm, hooked}
use Rattle.nim_types.specs.Table.{IsTable, facts_in, type_at, types_in}
use Rattle.nim_types.specs.declared.types.TypeDef.{TypeDef}
use Rattle.nim_types.specs.declared.types.TheConstants.{LIST_BYTES}
use Rattle.nim_types.proofs.ForCallers.{the_form}
use Rattle.nim_meaning.specs.Values.{InHand, Location, Value, at_base, is_full, vacant}
use Rattle.nim_meaning.specs.State.{World, is_full_at, is_seen, load, pushed}
use Rattle.nim_meaning.specs.Deeds.{Answers, Deed, Done, Fails, Finishes, Pops, behind, does, give, perform, takes, unless_gone, ◌>>=◌, ◌>>◌}
use Rattle.nim_meaning.specs.Lifted.{copied, copying, walk}
use Rattle.flat_code.specs.declared.block.BlockLine.{BlockLine}
use Rattle.flat_code.specs.Lines.{form_in, gives}
use Rattle.flat_code.specs.Running.{scene_of}
use Rattle.flat_code.specs.Scene.{known_in, Passes, Temps, with_value}
use Rattle.flat_code.specs.Shapes.{shape_of}
use Rattle.hook_lifting.specs.declared.lifted.Hook.TheVariants.{Copies}
use Rattle.hook_lifting.specs.Lifted.{has_hooks}
use Rattle.hook_lifting.specs.Lifting.{hook_deed}
use Rattle.hook_lifting.specs.Weights.{is_built}
use Rattle.hook_lifting.proofs.ForCallers.{done_then, least_walk, performs_then}
use Rattle.hook_code.specs.Kept.{AreShort, AreThere, chain_of, rank_in}
use Rattle.hook_code.specs.Promises.{AnyWord, Comes, Routines}
use Rattle.word_code.specs.Memory.{Memory}
use Rattle.word_code.specs.Routines.{goes_on}
use Rattle.word_lowering.specs.declared.homes.TheConstants.{FIRST}
use Rattle.word_lowering.specs.declared.homes.Home.{Home}
use Rattle.word_lowering.specs.HookCalled.{hook_called}
use Rattle.word_lowering.specs.Stored.{HaveForms}
use Rattle.word_lowering.proofs.Blocks.{AreLater, Blocks, Stored}
use Rattle.word_lowering.proofs.HandGood.{at_hand, now_there}
use Rattle.word_lowering.proofs.HandLines.{HandCall, hand_around, hand_called, hand_comes, hand_gives, hand_led, hand_most, hand_paid, hand_runs}
use Rattle.word_lowering.proofs.HandLines.{hand_settles, hand_top, still_led}
use Rattle.word_lowering.proofs.HandedTemps.{forgotten, forgotten_good, from_forgotten, without_away, without_here}
use Rattle.word_lowering.proofs.HookCalls.{IsArgument}
use Rattle.word_lowering.proofs.HookHomes.{HookHomes, IsHere}
use Rattle.word_lowering.proofs.HookReturns.{GoesOn}
use Rattle.word_lowering.proofs.HookSurroundings.{surroundings}
use Rattle.word_lowering.proofs.Keeping.{points_there}
use Rattle.word_lowering.proofs.Lines.{Basis, IsGood, Settles, all_procs, starts}
use Rattle.word_lowering.proofs.Moves.{IsHigh}
use Rattle.word_lowering.proofs.Related.{Both, high}
use Rattle.word_lowering.proofs.Scenes.{IsThere, Points, address_of, house, is_fixed, looked, of_value}
use Rattle.word_lowering.proofs.Settling.{code_here, code_next}
use Rattle.word_lowering.proofs.ShapeFacts.{of_numbers}
use Rattle.word_lowering.proofs.Sites.{InMemory}
use Rattle.word_lowering.proofs.TypeShapes.{has_form}
use Rattle.word_lowering.proofs.VacantShapes.{vacant_there}

-- ---- what becomes of a copy

pub behind_behind : {A : Type 0} (es fs : List Event) (n m : ℕ) (d : Done A) → behind es n (behind fs m d) ≡ behind (es ++ fs) (n + m) d
behind_behind es fs n m (Answers gs k x w) = let e : n + (m + k) ≡ n + m + k = omega arith in ap₂ (λ o j. Answers o j x w) (sym (append_assoc es fs gs)) e
behind_behind es fs n m (Finishes gs k s w) = let e : n + (m + k) ≡ n + m + k = omega arith in ap₂ (λ o j. Finishes o j s w) (sym (append_assoc es fs gs)) e
behind_behind es fs n m (Fails gs k w) = let e : n + (m + k) ≡ n + m + k = omega arith in ap₂ (λ o j. Fails o j w) (sym (append_assoc es fs gs)) e

then_behind : {A B : Type 0} (es : List Event) (n : ℕ) (d : Done A) (go : A → World → Done B) → done_then (behind es n d) go ≡ behind es n (done_then d go)
then_behind es n (Answers fs m x w) go = sym (behind_behind es fs n m (go x w))
then_behind es n (Finishes fs m s w) go = refl
then_behind es n (Fails fs m w) go = refl

pub then_then : {A B C : Type 0} (d : Done A) (go : A → World → Done B) (on : B → World → Done C)
    → done_then (done_then d go) on ≡ done_then d (λ x w. done_then (go x w) on)
then_then (Answers es n x w) go on = then_behind es n (go x w) on
then_then (Finishes es n s w) go on = refl
then_then (Fails es n w) go on = refl

answered_same : {A : Type 0} {es fs : List Event} {n m : ℕ} {a b : A} {w v : World} → Answers es n a w ≡ Answers fs m b v → a ≡ b
answered_same e = cc

failed_answers : {A : Type 0} {es fs : List Event} {n m : ℕ} {a : A} {w v : World} → Fails es n w ≡ Answers fs m a v → ⊥
failed_answers e = cc

finished_answers : {A : Type 0} {es fs : List Event} {n m s : ℕ} {a : A} {w v : World} → Finishes es n s w ≡ Answers fs m a v → ⊥
finished_answers e = cc

-- nothing is done with it
perform_given : {A : Type 0} (d : Deed A) (w : World) → perform (d >>= (λ a. give a)) w ≡ perform d w
perform_given {A = A} d w = performs_then d (λ a. give a) w ∙ by (perform d w)
  where
    by : (done : Done A) → done_then done (λ a after. perform (give a) after) ≡ done
    by (Answers es n a after) = let e : n + 0 ≡ n = omega arith in ap₂ (λ fs k. Answers fs k a after) (append-nil es) e
    by (Finishes es n s after) = refl
    by (Fails es n after) = refl

-- what was under way is taken
abbrev taken_deed : ℕ → Deed Value
taken_deed n = takes (at_base (InHand n)) (λ after new. does Pops >> give new)

abbrev copy_taken : {B : Type 0} → (Value → Deed B) → World → Done B
copy_taken then w = done_then (perform (taken_deed 0) w) (λ new after. perform (then new) after)

copied_done : {B : Type 0} (f : Form) (from : Location) (then : Value → Deed B) (w : World) → length w.hand ≡ 0 → perform (copied f from >>= then) w
    ≡ done_then (perform (walk copying f (at_base (InHand 0)) from) (pushed w (vacant f))) (λ u after. copy_taken then after)
copied_done f from then w idle =
    performs_then (walk copying f (at_base (InHand (length w.hand))) from >> taken_deed (length w.hand)) then (pushed w (vacant f))
    ∙ (ap (λ d. done_then d (λ new after. perform (then new) after))
    (performs_then (walk copying f (at_base (InHand (length w.hand))) from) (λ u. taken_deed (length w.hand)) (pushed w (vacant f)))
    ∙ (then_then (perform (walk copying f (at_base (InHand (length w.hand))) from) (pushed w (vacant f)))
    (λ u after. perform (taken_deed (length w.hand)) after) (λ new after. perform (then new) after)
    ∙ ap (λ n. done_then (perform (walk copying f (at_base (InHand n)) from) (pushed w (vacant f)))
    (λ u after. done_then (perform (taken_deed n) after) (λ new later. perform (then new) later))) idle))

module _ (x : Basis) (g : Both) (line : BlockLine) (rest : List BlockLine) (y : IsGood x (starts g line rest)) (is_table : IsTable x.table)
    (have : HaveForms x.table) (t ty : ℕ) (there : IsThere g.call.site (of_value t)) (inside : InMemory (house g.call.site (of_value t)).home)
    (hooked_look : of_numbers (looked x.table g.call.site (of_value t)) ≡ false)
    (look : looked x.table g.call.site (of_value t) ≡ shape_of (facts_in x.table) (type_at (types_in x.table) ty)) where
  abbrev form : Form
  form = form_in (known_in x.table) ty

  abbrev pub ready : Both
  ready = forgotten x g line rest y t there

  pub ready_good : IsGood x (starts ready line rest)
  ready_good = forgotten_good x g line rest y t there hooked_look

  pub none_ready : ready.call.temps.values t ≡ None
  none_ready = without_here x g line rest y t there

  formed : HasForm (facts_in x.table) (type_at (types_in x.table) ty) form
  formed =
      let f = has_form x.table is_table have ty in
      subst (λ e. HasForm (facts_in x.table) (type_at (types_in x.table) ty) e) (sym (the_form f.1)) f.1

  blank_stored : Stored (is_fixed g.ground) g.ground.blocks g.memory (address_of g.call.site.base (house g.call.site (of_value t)).home)
      (looked x.table g.call.site (of_value t)) (vacant form)
  blank_stored =
      subst (λ s. Stored (is_fixed g.ground) g.ground.blocks g.memory (address_of g.call.site.base (house g.call.site (of_value t)).home) s (vacant form))
      (sym look)
      (vacant_there x.table (is_fixed g.ground) g.ground.blocks g.memory formed (address_of g.call.site.base (house g.call.site (of_value t)).home))

  abbrev pub copy_around : HookHomes
  copy_around = hand_around x ready line rest ready_good t there inside none_ready hooked_look is_table have (vacant form)

  module _ (short : AreShort x.table) (first : ℕ) (routines : Routines x.table (surroundings copy_around) x.live (all_procs x) x.fresh)
      (are_there : AreThere x.table first (all_procs x)) (d : TypeDef) (entry : slice_get x.table ty ≡ Some d)
      (hooks : has_hooks x.table ty ≡ true) (built : is_built form ≡ true) (formed_hooked : hooked form ≡ true)
      (small : address_of g.call.site.base (house g.call.site (of_value t)).home < 2 ^ 32) (from : Location) (b : ℕ)
      (leads : IsArgument x ready line rest ready_good is_table have false from b ty)
      (room : hand_top x ready line rest ready_good t there inside none_ready hooked_look is_table have (vacant form)
      + LIST_BYTES * chain_of Copies (rank_in x.table ty) ≤ copy_around.limit) (shallow : rank_in x.table ty ≤ 64) (from_home : Home)
      (high_from : IsHigh from_home) (points : Points g.call.site.base g.call.vars from_home b)
      (code : code_here x g line rest y ≡ hook_called first Copies ty (house g.call.site (of_value t)).home from_home (code_next x g line rest y)) where
    abbrev own_home : Home
    own_home = (house g.call.site (of_value t)).home

    copy_call : HandCall x ready line rest ready_good t there inside none_ready hooked_look is_table have (vacant form)
    copy_call = record {
      stored = blank_stored;
      short = short;
      first = first;
      routines = routines;
      are_there = are_there;
      hook = Copies;
      ty = ty;
      def = d;
      entry = entry;
      hooks = hooks;
      built = built;
      to = at_base (InHand 0);
      from = from;
      a = address_of g.call.site.base own_home;
      b = b;
      to_led = hand_led x ready line rest ready_good t there inside none_ready hooked_look is_table have (vacant form) true ty look small;
      from_led = still_led x ready line rest ready_good t there inside none_ready hooked_look is_table have (vacant form) false from b ty leads;
      room = room;
      shallow = shallow;
      to_home = own_home;
      from_home = from_home;
      high_from = high_from;
      points = points_there g.call.site.base g.call.vars own_home inside;
      points_from = points;
      code = code;
    }

    abbrev then_given : Value → Deed Temps
    then_given new = give (with_value t g.call.temps new)

    -- it takes what became of it
    goes_then : (work : ℕ) (w : World) (word : ℕ) (m : Memory) (after : Blocks) → AreLater g.ground.blocks after
        → IsHere copy_around (hand_top x ready line rest ready_good t there inside none_ready hooked_look is_table have (vacant form))
        (hand_top x ready line rest ready_good t there inside none_ready hooked_look is_table have (vacant form)) [] after w m
        → GoesOn x ready line rest ready_good copy_around
        (hand_top x ready line rest ready_good t there inside none_ready hooked_look is_table have (vacant form))
        (hand_top x ready line rest ready_good t there inside none_ready hooked_look is_table have (vacant form)) g.ground.blocks
        (hand_called x ready line rest ready_good t there inside none_ready hooked_look is_table have (vacant form) copy_call) (code_next x g line rest y)
        (hand_most x ready line rest ready_good t there inside none_ready hooked_look is_table have (vacant form) copy_call) 4
        (hand_runs x ready line rest ready_good t there inside none_ready hooked_look is_table have (vacant form) copy_call) 0 work
        (goes_on (hand_called x ready line rest ready_good t there inside none_ready hooked_look is_table have (vacant form) copy_call) FIRST word
        (code_next x g line rest y) m g.input) (copy_taken then_given w)
    goes_then work w word m after ahead here = by (is_full_at w (at_base (InHand 0))) refl
      where
        by : (full : Bool) → is_full_at w (at_base (InHand 0)) ≡ full
            → GoesOn x ready line rest ready_good copy_around
            (hand_top x ready line rest ready_good t there inside none_ready hooked_look is_table have (vacant form))
            (hand_top x ready line rest ready_good t there inside none_ready hooked_look is_table have (vacant form)) g.ground.blocks
            (hand_called x ready line rest ready_good t there inside none_ready hooked_look is_table have (vacant form) copy_call) (code_next x g line rest y)
            (hand_most x ready line rest ready_good t there inside none_ready hooked_look is_table have (vacant form) copy_call) 4
            (hand_runs x ready line rest ready_good t there inside none_ready hooked_look is_table have (vacant form) copy_call) 0 work
            (goes_on (hand_called x ready line rest ready_good t there inside none_ready hooked_look is_table have (vacant form) copy_call) FIRST word
            (code_next x g line rest y) m g.input)
            (done_then (perform (unless_gone full (does Pops >> give (load w (at_base (InHand 0))))) w) (λ new later. perform (then_given new) later))
        by false e = tt
        by true e =
            let is_full_there : is_full (load w (at_base (InHand 0))) ≡ true
            = (and_parts (is_seen w (at_base (InHand 0))) (is_full (load w (at_base (InHand 0)))) e).1 in (
              refl,
              hand_gives x ready line rest ready_good t there inside none_ready hooked_look is_table have (vacant form) copy_call w word m after ahead
                  here g.call.temps (λ u ne. without_away x g line rest y t there u ne) (λ u. refl) is_full_there,
            )

    -- behind a line's own work
    pub copy_settles : (work : ℕ)
        → Settles x (starts g line rest) rest (Passes (behind [] work (perform (copied form from >>= then_given) g.world)))
    unfolding copy_call
    copy_settles work =
        let done : Done (Unit {0}) = perform (hook_deed (known_in x.table) Copies ty (at_base (InHand 0)) from) (pushed g.world (vacant form)) in
        subst (λ d. Settles x (starts g line rest) rest (Passes (behind [] work d))) (sym (copied_done form from then_given g.world y.idle))
        (from_forgotten x g line rest y t there hooked_look (behind [] work (done_then done (λ u w. copy_taken then_given w)))
        (hand_settles x ready line rest ready_good t there inside none_ready hooked_look is_table have (vacant form) copy_call work
        (hand_paid x ready line rest ready_good t there inside none_ready hooked_look is_table have (vacant form) copy_call work 8 (omega arith) done
        (least_walk Copies form built formed_hooked (at_base (InHand 0)) from (pushed g.world (vacant form)))) (copy_taken then_given) (goes_then work)))

    pub gets_copy_settles : Settles x (starts g line rest) rest (gives (scene_of (high x.table x.blocks (starts g line rest))) t (copied form from))
    gets_copy_settles = none_behind (perform (copied form from >>= then_given) g.world) (copy_settles 0)
      where
        none_behind : (d : Done Temps) → Settles x (starts g line rest) rest (Passes (behind [] 0 d)) → Settles x (starts g line rest) rest (Passes d)
        none_behind (Answers es n temps w) s =
            let same : 0 + n ≡ n = omega arith in subst (λ k. Settles x (starts g line rest) rest (Passes (Answers es k temps w))) same s
        none_behind (Finishes es n status w) s =
            let same : 0 + n ≡ n = omega arith in subst (λ k. Settles x (starts g line rest) rest (Passes (Finishes es k status w))) same s
        none_behind (Fails es n w) s =
            let same : 0 + n ≡ n = omega arith in subst (λ k. Settles x (starts g line rest) rest (Passes (Fails es k w))) same s

    -- what it gets is stored by the temporary's look
    pub record IsCopied (v : Value) : Type 0 where
      pub after : Blocks
      pub memory : Memory
      pub stored : Stored (is_fixed g.ground) after memory (address_of g.call.site.base own_home) (looked x.table g.call.site (of_value t)) v

    pub copy_stored : (es : List Event) (n : ℕ) (v : Value) (w : World) → perform (copied form from) g.world ≡ Answers es n v w → IsCopied v
    unfolding copy_call
    copy_stored es n v w e =
        by (perform (hook_deed (known_in x.table) Copies ty (at_base (InHand 0)) from) (pushed g.world (vacant form)))
        (hand_comes x ready line rest ready_good t there inside none_ready hooked_look is_table have (vacant form) copy_call 0)
        (sym (copied_done form from (λ u. give u) g.world y.idle) ∙ (perform_given (copied form from) g.world ∙ e))
      where
        top : ℕ
        top = hand_top x ready line rest ready_good t there inside none_ready hooked_look is_table have (vacant form)

        taken : (fs : List Event) (k : ℕ) (now : World) (full : Bool)
            → behind fs k (done_then (perform (unless_gone full (does Pops >> give (load now (at_base (InHand 0))))) now)
            (λ new later. perform (give new) later)) ≡ Answers es n v w → load now (at_base (InHand 0)) ≡ v
        taken fs k now false e = absurd (failed_answers e)
        taken fs k now true e = answered_same e

        by : (d : Done (Unit {0}))
            → Comes x.table (surroundings copy_around) x.live (all_procs x) x.fresh top top [] g.ground.blocks
            (AnyWord x.table (surroundings copy_around) x.live (all_procs x) x.fresh)
            (0, hand_called x ready line rest ready_good t there inside none_ready hooked_look is_table have (vacant form) copy_call) FIRST
            (code_next x g line rest y)
            (hand_most x ready line rest ready_good t there inside none_ready hooked_look is_table have (vacant form) copy_call) d
            → done_then d (λ u after. copy_taken (λ new. give new) after) ≡ Answers es n v w → IsCopied v
        by (Answers fs k u now) c e =
            let b = c.1 in
            let at = at_hand x ready line rest ready_good t there inside none_ready hooked_look is_table have (vacant form) b.after b.ahead now b.memory
            b.here in
            record {
              after = b.after;
              memory = b.memory;
              stored =
                  subst (λ q. Stored (is_fixed g.ground) b.after b.memory (address_of g.call.site.base own_home) (looked x.table g.call.site (of_value t)) q)
                  (sym (now_there x ready line rest ready_good t there inside none_ready hooked_look is_table have (vacant form) b.after b.ahead now b.memory
                  b.here) ∙ taken fs k now (is_full_at now (at_base (InHand 0))) e) at.stored;
            }
        by (Finishes fs k status now) c e = absurd (finished_answers e)
        by (Fails fs k now) c e = absurd (failed_answers e)
