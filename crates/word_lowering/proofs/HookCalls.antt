-- A hook is called by a line: where the meaning's walk comes back, block code and word code go on together, and where it ends the program both do.
use Rattle.std.proofs.Common.{◌≡◌, ◌⊎◌, inl, inr, ℕ, ◌+◌, ◌*◌, ◌≤◌, List, [], ◌∷◌, length, Bool, true, false, Some}
use Rattle.std.proofs.Common.{refl, sym, subst, ◌∙◌, arith, le_refl}
use Rattle.std.specs.Prelude.{slice_get}
use Rattle.nim_types.specs.Table.{IsTable}
use Rattle.nim_types.specs.declared.types.TypeDef.{TypeDef}
use Rattle.nim_types.specs.declared.types.TheConstants.{LIST_BYTES}
use Rattle.nim_meaning.specs.Values.{Location}
use Rattle.nim_meaning.specs.Deeds.{Done, Answers, Finishes, Fails, behind, perform}
use Rattle.nim_meaning.specs.State.{World}
use Rattle.flat_code.specs.declared.block.BlockLine.{BlockLine}
use Rattle.flat_code.specs.Lines.{form_in}
use Rattle.flat_code.specs.Scene.{known_in, Passes, Temps}
use Rattle.flat_code.specs.Shapes.{Shape}
use Rattle.word_code.specs.declared.word.WordInstr.{WordInstr}
use Rattle.word_code.specs.declared.word.WordInstr.TheVariants.{Call}
use Rattle.word_code.specs.Memory.{Memory}
use Rattle.word_code.specs.Routines.{AreGiven, goes_on}
use Rattle.word_code.specs.Words.{Vars, no_words, put, WordState}
use Rattle.word_code.proofs.ForCallers.{Runs, at, none as no_run}
use Rattle.hook_lifting.specs.declared.lifted.Hook.{Hook}
use Rattle.hook_lifting.specs.Lifted.{has_hooks}
use Rattle.hook_lifting.specs.Lifting.{hook_deed}
use Rattle.hook_lifting.specs.Weights.{is_built}
use Rattle.hook_code.specs.HookCode.{hook_number}
use Rattle.hook_code.specs.Kept.{AreShort, AreThere, chain_of, pace_at, rank_in}
use Rattle.hook_code.specs.Promises.{Routines, Comes, AnyWord, from_own}
use Rattle.hook_code.proofs.ForCallers.{hooks_kept}
use Rattle.word_lowering.specs.declared.homes.TheConstants.{FIRST}
use Rattle.word_lowering.specs.Stored.{HaveForms}
use Rattle.word_lowering.proofs.BlockHomes.{FromHome}
use Rattle.word_lowering.proofs.Blocks.{Blocks, AreLater}
use Rattle.word_lowering.proofs.GoodHomes.{HomeOf, homes_apart}
use Rattle.word_lowering.proofs.GoodLeads.{place_home, waits_home}
use Rattle.word_lowering.proofs.GoodRows.{later_ground_of}
use Rattle.word_lowering.proofs.HookHomes.{HookHomes, IsHere}
use Rattle.word_lowering.proofs.HookLeads.{Leads}
use Rattle.word_lowering.proofs.BaseValues.{IsOwn}
use Rattle.word_lowering.proofs.RoutinesCalled.{left_with}
use Rattle.word_lowering.proofs.HookReturns.{Lands, IsPaid, answering, answers_then, returns_settles}
use Rattle.word_lowering.proofs.HookSurroundings.{shape, surroundings}
use Rattle.word_lowering.proofs.HooksGood.{HookedHome, around_hooks, here_now, good_behind_hooks}
use Rattle.word_lowering.proofs.HookWorlds.{memory_more}
use Rattle.word_lowering.proofs.Gets.{SameTemps}
use Rattle.word_lowering.proofs.Lines.{Basis, IsGood, Settles, all_procs, changed_later, lower, stands_next, starts}
use Rattle.word_lowering.proofs.OrdinalRuns.{AllSame}
use Rattle.word_lowering.proofs.Moves.{same_more, same_first}
use Rattle.word_lowering.proofs.Related.{Both, body_of, low, within, sites_of}
use Rattle.word_lowering.proofs.Scenes.{is_fixed, FromBlock, FromOwned, FromPlace, FromWaits}
use Rattle.word_lowering.proofs.Settling.{code_next}
use Rattle.word_lowering.proofs.ShapeFacts.{never, of_numbers}
use Rattle.word_lowering.proofs.ShapePaths.{PathTo, path_numbers, path_within}
use Rattle.word_lowering.proofs.Sites.{next_base}

module _ (x : Basis) (g : Both) (line : BlockLine) (rest : List BlockLine) (y : IsGood x (starts g line rest)) (is_table : IsTable x.table)
    (have : HaveForms x.table) where
  abbrev pub around : HookHomes
  around = around_hooks x g line rest y is_table have

  abbrev pub top : ℕ
  top = next_base (sites_of (starts g line rest))

  -- a location has an address, where something of a type stands
  abbrev pub IsArgument : (own : Bool) → Location → (a ty : ℕ) → Type 0
  IsArgument own l a ty = Leads around.StandsFixed around.Homes around.first own [] g.ground.blocks l a (shape around ty)

  -- ---- in a home

  home_argument : (own : Bool) (l : Location) (a ty : ℕ)
      → FromHome (is_fixed g.ground) (HomeOf x (starts g line rest)) (homes_apart x (starts g line rest) y) l a (shape around ty)
      → IsOwn l.base → of_numbers (shape around ty) ≡ false → IsArgument own l a ty
  home_argument own l a ty h mine hooked =
      let is_hooked : of_numbers h.home.shape ≡ false = by h.home.shape l.path h.offset (of_numbers h.home.shape) refl h.way in
      let under = around.under h.home (record { home = h.among; hooked = is_hooked }) in
      let inside = path_within h.home.shape l.path h.offset (shape around ty) h.way in
      let address = h.address in let most = y.memory.sized.stack_most in let places = y.memory.places in
      record {
        at = a;
        word = omega (arith, under, inside, address, most, places);
        led = inl (record {
          home = h.home;
          among = inl (record { home = h.among; hooked = is_hooked });
          base = h.base;
          offset = h.offset;
          way = h.way;
          address = h.address;
          owned = λ e. mine;
        });
      }
    where
      by : (s : Shape) (path : List ℕ) (o : ℕ) (b : Bool) → of_numbers s ≡ b → PathTo s path o (shape around ty) → of_numbers s ≡ false
      by s path o false e way = e
      by s path o true e way = never (sym hooked ∙ path_numbers s path o (shape around ty) e way)

  pub place_argument : (own : Bool) (l : Location) (a ty : ℕ) → FromPlace x.table (sites_of (starts g line rest)) g.world l a (shape around ty)
      → of_numbers (shape around ty) ≡ false → IsArgument own l a ty
  place_argument own l a ty f hooked =
      home_argument own l a ty (place_home x (starts g line rest) y l a (shape around ty) f) (subst IsOwn (sym f.base) tt) hooked

  pub waits_argument : (own : Bool) (l : Location) (a ty : ℕ) → FromWaits x.table (sites_of (starts g line rest)) g.world l a (shape around ty)
      → of_numbers (shape around ty) ≡ false → IsArgument own l a ty
  waits_argument own l a ty f hooked =
      home_argument own l a ty (waits_home x (starts g line rest) y l a (shape around ty) f) (subst IsOwn (sym f.from.base) tt) hooked

  -- ---- in a block, or in either

  pub block_argument : (own : Bool) (l : Location) (a ty : ℕ) → FromBlock g.ground l a (shape around ty) → IsArgument own l a ty
  block_argument own l a ty f = record {
    at = a;
    word = (let n = f.near in omega (arith, n));
    led = inr (inl (record { block = f.block; base = f.base; leads = f.leads }));
  }

  pub owned_argument : (own : Bool) (l : Location) (a ty : ℕ) → FromOwned x.table (sites_of (starts g line rest)) g.ground g.world l a (shape around ty)
      → of_numbers (shape around ty) ≡ false → IsArgument own l a ty
  owned_argument own l a ty (inl f) hooked = place_argument own l a ty f hooked
  owned_argument own l a ty (inr (inl f)) hooked = block_argument own l a ty f
  owned_argument own l a ty (inr (inr f)) hooked = waits_argument own l a ty f hooked

  -- ---- the call

  module _ (short : AreShort x.table) (first : ℕ) (routines : Routines x.table (surroundings around) x.live (all_procs x) x.fresh)
      (there : AreThere x.table first (all_procs x)) where
    module _ (hook : Hook) (ty : ℕ) (d : TypeDef) (entry : slice_get x.table ty ≡ Some d) (hooks : has_hooks x.table ty ≡ true)
        (shallow : rank_in x.table ty ≤ 64) (built : is_built (form_in (known_in x.table) ty) ≡ true) (l from : Location) (a b : ℕ)
        (to_l : IsArgument true l a ty)
        (from_l : IsArgument (from_own hook) from b ty) (room : top + LIST_BYTES * chain_of hook (rank_in x.table ty) ≤ around.limit)
        (k : List WordInstr) (vars words : Vars) (given : AreGiven words 0 (a ∷ b ∷ [])) where
      abbrev pub calling : WordState
      calling = at (within x.table x.blocks g) g.memory (Call FIRST (hook_number first hook ty) ∷ k) vars words

      abbrev pub HookComes : (before : ℕ) → Done (Unit {0}) → Type 0
      HookComes before done =
          Comes x.table (surroundings around) x.live (all_procs x) x.fresh top top [] g.ground.blocks
          (AnyWord x.table (surroundings around) x.live (all_procs x) x.fresh) (before, calling) FIRST k (λ n. 1 + pace_at hook (rank_in x.table ty) * n) done

      pub hook_comes : (before : ℕ) → HookComes before (perform (hook_deed (known_in x.table) hook ty l from) g.world)
      hook_comes before =
          hooks_kept x.table is_table have short (surroundings around) x.live (all_procs x) x.fresh first routines there hook ty d entry hooks shallow built
          top top []
          g.ground.blocks g.world (before, calling) FIRST k l from a b
          (record {
            calling = record { next = refl; given = given };
            top_is = refl;
            here = here_now x g line rest y is_table have;
          }) to_l from_l room

  -- ---- behind it

  module _ (temps : Temps) (same_temps : SameTemps x g line rest y temps) (most : ℕ → ℕ) (called : WordState) (vars : Vars) (kept : AllSame g.call.vars vars)
      (steps : ℕ) (runs : Runs x.live (all_procs x) steps (low x.table x.blocks (starts g line rest)) called)
      (is : (word : ℕ) (m : Memory) → goes_on called FIRST word (code_next x g line rest y) m called.input
      ≡ at (left_with (within x.table x.blocks g) g.input FIRST) m (code_next x g line rest y) (put vars FIRST word) no_words)
      (few : (n : ℕ) → steps + most n ≤ 256 * (1 + n)) where
    abbrev CameSo : (before : ℕ) → Done (Unit {0}) → Type 0
    CameSo before done =
        Comes x.table (surroundings around) x.live (all_procs x) x.fresh top top [] g.ground.blocks
        (AnyWord x.table (surroundings around) x.live (all_procs x) x.fresh) (before, called) FIRST (code_next x g line rest y) most done

    hook_lands : (w : World) (word : ℕ) (m : Memory) (after : Blocks) → AreLater g.ground.blocks after → IsHere around top top [] after w m
        → (l : Lands x g line rest y (goes_on called FIRST word (code_next x g line rest y) m called.input) temps w) × (l.steps ≤ 0)
    hook_lands w word m after ahead here =
        let vars' : Vars = put vars FIRST word in
        let input : w.input ≡ g.input = here.like.input ∙ y.input in
        let long : length m.places ≡ length g.memory.places = (let e = here.ends in let f = y.memory.places in omega (arith, e, f)) in (
          record {
            later = after;
            vars = vars';
            memory = m;
            words = no_words;
            awaits = FIRST;
            good = subst (λ i. IsGood x (changed_later g rest temps vars' m no_words FIRST w (later_ground_of x g line rest y after) i)) input
                (good_behind_hooks x g line rest y after ahead w m
                (record { sized = here.here.holds.sized; heap = here.here.holds.heap; homes = λ h p. here.here.holds.homes h (inl p) })
                here.like (λ h. ⊥) (λ h p. absurd p)
                (memory_more (HookedHome x g line rest y) (λ h. HookedHome x g line rest y h ⊎ ⊥) (λ h p. inl p) top g.memory m here.same) long here.bytes
                here.here.long rest (stands_next x.table x.blocks (body_of g) line rest y.stands) temps same_temps vars' no_words FIRST
                (same_more g.call.vars vars vars' kept (same_first vars word)));
            steps = 0;
            runs = subst (λ s. Runs x.live (all_procs x) 0 (goes_on called FIRST word (code_next x g line rest y) m called.input) s) (is word m)
                (no_run (lower x) (goes_on called FIRST word (code_next x g line rest y) m called.input));
          },
          le_refl 0,
        )

    pub hook_settles : (done : Done (Unit {0})) → ((before : ℕ) → CameSo before done)
        → Settles x (starts g line rest) rest (Passes (behind [] 1 (answering temps done)))
    hook_settles done came =
        subst (λ d. Settles x (starts g line rest) rest (Passes (behind [] 1 d))) (answers_then temps done)
        (returns_settles x g line rest y around top top g.ground.blocks called (code_next x g line rest y) most steps runs 0 1
        (λ w. Answers [] 0 temps w) (λ w word m after ahead here. (refl, hook_lands w word m after ahead here)) done (paid done) came)
      where
        paid : (done : Done (Unit {0})) → IsPaid x g line rest y around top top g.ground.blocks called (code_next x g line rest y) most steps runs 0 1 done
        paid (Answers es n u w) = let f = few n in omega (arith, f)
        paid (Finishes es n status w) = few n
        paid (Fails es n w) = tt
