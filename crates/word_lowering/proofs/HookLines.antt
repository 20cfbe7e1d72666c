-- The word code of a hook's call: two addresses are handed over, and the hook of a type is called by its number.
use Rattle.std.proofs.Common.{◌≡◌, ℕ, ◌+◌, ◌*◌, ◌^◌, ◌<◌, ◌≤◌, List, [], ◌∷◌, Bool, true, Some}
use Rattle.std.proofs.Common.{refl, sym, subst, ◌∙◌, arith, le_refl, mul-le-mul}
use Rattle.std.specs.Prelude.{slice_get}
use Rattle.nim_types.specs.Table.{IsTable}
use Rattle.nim_types.specs.declared.types.TypeDef.{TypeDef}
use Rattle.nim_types.specs.declared.types.TheConstants.{LIST_BYTES}
use Rattle.nim_meaning.specs.Values.{Location}
use Rattle.nim_meaning.specs.Deeds.{behind, perform}
use Rattle.flat_code.specs.declared.block.BlockLine.{BlockLine}
use Rattle.flat_code.specs.Lines.{form_in}
use Rattle.flat_code.specs.Scene.{known_in, Passes, Temps}
use Rattle.word_code.specs.declared.word.WordInstr.{WordInstr}
use Rattle.word_code.specs.declared.word.WordInstr.TheVariants.{Argument, Call}
use Rattle.word_code.specs.Words.{Vars, put, WordState}
use Rattle.word_code.proofs.ForCallers.{Runs, at, got, then_runs, run_argument}
use Rattle.hook_lifting.specs.declared.lifted.Hook.{Hook}
use Rattle.hook_lifting.specs.Lifted.{has_hooks}
use Rattle.hook_lifting.specs.Lifting.{hook_deed}
use Rattle.hook_lifting.specs.Weights.{is_built}
use Rattle.hook_code.specs.HookCode.{hook_number}
use Rattle.hook_code.specs.Kept.{AreShort, AreThere, chain_of, pace_at, rank_in}
use Rattle.hook_code.specs.Promises.{Routines, from_own}
use Rattle.word_lowering.specs.declared.homes.TheConstants.{FIRST, SECOND}
use Rattle.word_lowering.specs.declared.homes.Home.{Home}
use Rattle.word_lowering.specs.HookCalled.{hook_called}
use Rattle.word_lowering.specs.Spots.{address}
use Rattle.word_lowering.specs.Stored.{HaveForms}
use Rattle.word_lowering.proofs.HookPaces.{pace_by}
use Rattle.word_lowering.proofs.HookCalls.{around, top, IsArgument, hook_comes, hook_settles}
use Rattle.word_lowering.proofs.HookLeads.{leads_small}
use Rattle.word_lowering.proofs.HookReturns.{answering}
use Rattle.word_lowering.proofs.HookSurroundings.{shape, surroundings}
use Rattle.word_lowering.proofs.Gets.{SameTemps}
use Rattle.word_lowering.proofs.Lines.{Basis, IsGood, Settles, all_procs, starts}
use Rattle.word_lowering.proofs.Moves.{IsHigh, address_runs, points_same, same_first, same_more, same_second}
use Rattle.word_lowering.proofs.OrdinalRuns.{AllSame, put_here as put_same, put_other}
use Rattle.word_lowering.proofs.Related.{Both, within}
use Rattle.word_lowering.proofs.Scenes.{Points}
use Rattle.word_lowering.proofs.Settling.{code_here, code_next}

-- ---- the lines in front of the call

abbrev pub hook_vars : Vars → (a b : ℕ) → Vars
hook_vars v a b = put (put v FIRST a) SECOND b

abbrev pub hook_words : Vars → (a b : ℕ) → Vars
hook_words w a b = put (put w 0 a) 1 b

pub hook_same : (v : Vars) (a b : ℕ) → AllSame v (hook_vars v a b)
hook_same v a b = same_more v (put v FIRST a) (hook_vars v a b) (same_first v a) (same_second (put v FIRST a) b)

pub hook_given : (w : Vars) (a b : ℕ) → a < 2 ^ 32 → b < 2 ^ 32 → (hook_words w a b 0 ≡ Some a) × ((hook_words w a b 1 ≡ Some b) × Unit {0})
hook_given w a b small_a small_b =
    (put_other (put w 0 a) 1 b 0 (λ e. omega (arith, e)) ∙ put_same w 0 a small_a, (put_same (put w 0 a) 1 b small_b, tt))

module _ (x : Basis) (g : Both) (v : Vars) (hook : Hook) (first ty a b : ℕ) where
  -- where the hook is called
  abbrev pub hook_state : List WordInstr → WordState
  hook_state k =
      at (within x.table x.blocks g) g.memory (Call FIRST (hook_number first hook ty) ∷ k) (hook_vars v a b) (hook_words g.words a b)

  -- from where the code of the call begins
  pub hook_runs : a < 2 ^ 32 → b < 2 ^ 32 → (to_home from_home : Home) → IsHigh from_home → Points g.call.site.base v to_home a
      → Points g.call.site.base v from_home b → (k : List WordInstr) → Runs x.live (all_procs x) 4
      (at (within x.table x.blocks g) g.memory (hook_called first hook ty to_home from_home k) v g.words) (hook_state k)
  hook_runs small_a small_b to_home from_home high_from points points_from k =
      let call : List WordInstr = Call FIRST (hook_number first hook ty) ∷ k in
      let hands : List WordInstr = Argument 0 FIRST ∷ Argument 1 SECOND ∷ call in
      let v1 : Vars = put v FIRST a in
      let v2 : Vars = hook_vars v a b in
      then_runs x.live (all_procs x)
      (then_runs x.live (all_procs x)
      (address_runs x.law x.live (all_procs x) (within x.table x.blocks g) refl g.words g.memory (address SECOND from_home ∷ hands) v FIRST to_home
      a points)
      (address_runs x.law x.live (all_procs x) (within x.table x.blocks g) refl g.words g.memory hands v1 SECOND from_home b
      (points_same x.law x.live (all_procs x) (within x.table x.blocks g) refl g.words v v1 from_home b high_from (same_first v a)
      points_from)))
      (then_runs x.live (all_procs x)
      (run_argument x.live (all_procs x) (within x.table x.blocks g) g.memory (Argument 1 SECOND ∷ call) v2 g.words 0 FIRST
      (put_other v1 SECOND b FIRST (λ e. omega (arith, e)) ∙ got a small_a))
      (run_argument x.live (all_procs x) (within x.table x.blocks g) g.memory call v2 (put g.words 0 a) 1 SECOND (got b small_b)))

module _ (x : Basis) (g : Both) (line : BlockLine) (rest : List BlockLine) (y : IsGood x (starts g line rest)) (is_table : IsTable x.table)
    (have : HaveForms x.table) (short : AreShort x.table) (first : ℕ)
    (routines : Routines x.table (surroundings (around x g line rest y is_table have)) x.live (all_procs x) x.fresh)
    (there : AreThere x.table first (all_procs x)) where
  abbrev Leading : Bool → Location → (a ty : ℕ) → Type 0
  Leading own l a ty = IsArgument x g line rest y is_table have own l a ty

  -- a line whose code is that, where each work of the hook is worth enough lines
  pub hook_line : (temps : Temps) → SameTemps x g line rest y temps → (hook : Hook) (ty : ℕ) (d : TypeDef) → slice_get x.table ty ≡ Some d
      → has_hooks x.table ty ≡ true → is_built (form_in (known_in x.table) ty) ≡ true → (l from : Location) (a b : ℕ)
      → Leading true l a ty → Leading (from_own hook) from b ty
      → top x g line rest y is_table have + LIST_BYTES * chain_of hook (rank_in x.table ty)
      ≤ (around x g line rest y is_table have).limit → rank_in x.table ty ≤ 64 → (to_home from_home : Home)
      → IsHigh to_home → IsHigh from_home → Points g.call.site.base g.call.vars to_home a → Points g.call.site.base g.call.vars from_home b
      → code_here x g line rest y ≡ hook_called first hook ty to_home from_home (code_next x g line rest y)
      → Settles x (starts g line rest) rest (Passes (behind [] 1 (answering temps (perform (hook_deed (known_in x.table) hook ty l from) g.world))))
  hook_line temps same_temps hook ty d entry hooks built l from a b to_l from_l room shallow to_home from_home high high_from points points_from code =
      hook_settles x g line rest y is_table have temps same_temps (λ n. 1 + pace_at hook (rank_in x.table ty) * n)
      (hook_state x g g.call.vars hook first ty a b next) (hook_vars g.call.vars a b) (hook_same g.call.vars a b) 4
      (subst (λ k. Runs x.live (all_procs x) 4 (at (within x.table x.blocks g) g.memory k g.call.vars g.words)
      (hook_state x g g.call.vars hook first ty a b next))
      (sym code) (hook_runs x g g.call.vars hook first ty a b small_a small_b to_home from_home high_from points points_from next))
      (λ w m. refl) few (perform (hook_deed (known_in x.table) hook ty l from) g.world)
      (λ before. hook_comes x g line rest y is_table have short first routines there hook ty d entry hooks shallow built l from a b to_l from_l room
      next (hook_vars g.call.vars a b) (hook_words g.words a b) (hook_given g.words a b small_a small_b) before)
    where
      next : List WordInstr
      next = code_next x g line rest y

      small_a : a < 2 ^ 32
      small_a = leads_small (around x g line rest y is_table have).StandsFixed
          (around x g line rest y is_table have).Homes 0 true [] g.ground.blocks l a
          (shape (around x g line rest y is_table have) ty) to_l

      small_b : b < 2 ^ 32
      small_b = leads_small (around x g line rest y is_table have).StandsFixed
          (around x g line rest y is_table have).Homes 0 (from_own hook) [] g.ground.blocks from b
          (shape (around x g line rest y is_table have) ty) from_l

      few : (n : ℕ) → 4 + (1 + pace_at hook (rank_in x.table ty) * n) ≤ 256 * (1 + n)
      few n = let e : pace_at hook (rank_in x.table ty) * n ≤ 251 * n = mul-le-mul (pace_by hook (rank_in x.table ty) shallow) (le_refl n) in omega (arith, e)
