-- What has hooks gets a copy of what stands at another location, in place of what it holds.
use Rattle.std.proofs.Common.{◌≡◌, ℕ, ◌+◌, ◌*◌, ◌≤◌, List, [], ◌++◌, Bool, true, false, Some}
use Rattle.std.proofs.Common.{refl, sym, ap, ap₂, subst, ◌∙◌, arith, append-nil}
use Rattle.std.specs.Prelude.{slice_get}
use Rattle.nim_types.specs.Table.{IsTable}
use Rattle.nim_types.specs.declared.types.TypeDef.{TypeDef}
use Rattle.nim_types.specs.declared.types.TheConstants.{LIST_BYTES}
use Rattle.nim_meaning.specs.Values.{At, Location, Operand, nothing}
use Rattle.nim_meaning.specs.State.{World}
use Rattle.nim_meaning.specs.Deeds.{Deed, Done, Answers, Finishes, Fails, behind, costs, give, looks, perform, unless_gone, ◌>>=◌, ◌>>◌}
use Rattle.nim_meaning.specs.Lifted.{assigns}
use Rattle.nim_meaning.specs.Places.{Destination, kept_if}
use Rattle.nim_meaning.specs.Texts.{are_seen}
use Rattle.flat_code.specs.declared.block.BlockLine.{BlockLine}
use Rattle.flat_code.specs.Lines.{form_in, gives}
use Rattle.flat_code.specs.Running.{scene_of}
use Rattle.flat_code.specs.Scene.{known_in, Passes, Temps, with_value}
use Rattle.hook_lifting.specs.declared.lifted.Hook.TheVariants.{Assigns}
use Rattle.hook_lifting.specs.Lifted.{has_hooks}
use Rattle.hook_lifting.specs.Lifting.{hook_deed}
use Rattle.hook_lifting.specs.Weights.{is_built}
use Rattle.hook_lifting.proofs.ForCallers.{done_then, performs_then}
use Rattle.hook_code.specs.Kept.{AreShort, AreThere, chain_of, rank_in}
use Rattle.hook_code.specs.Promises.{Routines}
use Rattle.word_lowering.specs.declared.homes.Home.{Home}
use Rattle.word_lowering.specs.HookCalled.{hook_called}
use Rattle.word_lowering.specs.Stored.{HaveForms}
use Rattle.word_lowering.proofs.Gets.{SameTemps}
use Rattle.word_lowering.proofs.HookCalls.{IsArgument, around, top}
use Rattle.word_lowering.proofs.HookReturns.{answering, perform_answers}
use Rattle.word_lowering.proofs.HookLines.{hook_line}
use Rattle.word_lowering.proofs.HookSurroundings.{surroundings}
use Rattle.word_lowering.proofs.Lines.{Basis, IsGood, Settles, all_procs, starts}
use Rattle.word_lowering.proofs.Moves.{IsHigh}
use Rattle.word_lowering.proofs.Related.{Both, high}
use Rattle.word_lowering.proofs.Scenes.{Points}
use Rattle.word_lowering.proofs.Settling.{code_here, code_next}

-- a temporary gets nothing behind a deed
pub nothing_given : (deed : Deed (Unit {0})) (to : ℕ) (temps : Temps) (dest : Destination) (w : World)
    → perform (((deed >> give nothing) >>= kept_if false dest) >>= (λ v. give (with_value to temps v))) w
    ≡ answering (with_value to temps nothing) (perform deed w)
nothing_given deed to temps dest w =
    performs_then ((deed >> give nothing) >>= kept_if false dest) (λ v. give (with_value to temps v)) w
    ∙ ap (λ done. done_then done (λ v world. perform (give (with_value to temps v)) world))
    (performs_then (deed >> give nothing) (kept_if false dest) w
    ∙ ap (λ done. done_then done (λ v world. perform (kept_if false dest v) world)) (perform_answers deed nothing w))
    ∙ by (perform deed w)
  where
    by : (done : Done (Unit {0})) → done_then (done_then (answering nothing done) (λ v world. perform (kept_if false dest v) world))
        (λ v world. perform (give (with_value to temps v)) world) ≡ answering (with_value to temps nothing) done
    by (Answers es n u world) =
        let e : n + 0 + 0 ≡ n = omega arith in
        ap₂ (λ fs m. Answers fs m (with_value to temps nothing) world) (append-nil (es ++ []) ∙ append-nil es) e
    by (Finishes es n status world) = refl
    by (Fails es n world) = refl

module _ (x : Basis) (g : Both) (line : BlockLine) (rest : List BlockLine) (y : IsGood x (starts g line rest)) (is_table : IsTable x.table)
    (have : HaveForms x.table) (short : AreShort x.table) (first : ℕ)
    (routines : Routines x.table (surroundings (around x g line rest y is_table have)) x.live (all_procs x) x.fresh)
    (there : AreThere x.table first (all_procs x)) where
  module _ (ty : ℕ) (d : TypeDef) (entry : slice_get x.table ty ≡ Some d) (hooks : has_hooks x.table ty ≡ true)
      (built : is_built (form_in (known_in x.table) ty) ≡ true) (l from : Location) (a b : ℕ) (to_home from_home : Home)
      (leads : IsArgument x g line rest y is_table have true l a ty)
      (leads_from : IsArgument x g line rest y is_table have false from b ty) (high_to : IsHigh to_home) (high_from : IsHigh from_home)
      (points : Points g.call.site.base g.call.vars to_home a) (points_from : Points g.call.site.base g.call.vars from_home b)
      (room : top x g line rest y is_table have + LIST_BYTES * chain_of Assigns (rank_in x.table ty)
      ≤ (around x g line rest y is_table have).limit) (shallow : rank_in x.table ty ≤ 64)
      (code : code_here x g line rest y ≡ hook_called first Assigns ty to_home from_home (code_next x g line rest y)) (to : ℕ)
      (same : SameTemps x g line rest y (with_value to g.call.temps nothing)) (dest : Destination) where
    assigned_settles : Settles x (starts g line rest) rest (gives (scene_of (high x.table x.blocks (starts g line rest))) to
        (costs 1 (assigns (form_in (known_in x.table) ty) l (At from)) >>= kept_if false dest))
    assigned_settles =
        subst (λ done. Settles x (starts g line rest) rest (Passes (behind [] 1 done)))
        (sym (nothing_given (hook_deed (known_in x.table) Assigns ty l from) to g.call.temps dest g.world))
        (hook_line x g line rest y is_table have short first routines there (with_value to g.call.temps nothing) same Assigns ty d entry
        hooks built l from a b leads leads_from room shallow to_home from_home high_to high_from points points_from code)

    -- the row, where its operands are seen
    pub assign_settles : (xs : List Operand) → Settles x (starts g line rest) rest (gives (scene_of (high x.table x.blocks (starts g line rest))) to
        (costs 1 (looks (λ world. unless_gone (are_seen world xs) (assigns (form_in (known_in x.table) ty) l (At from)))) >>= kept_if false dest))
    assign_settles xs = by (are_seen g.world xs)
      where
        by : (seen : Bool) → Settles x (starts g line rest) rest (Passes (behind [] 1 (perform
            (unless_gone seen (assigns (form_in (known_in x.table) ty) l (At from)) >>= kept_if false dest >>= (λ v. give (with_value to g.call.temps v)))
            g.world)))
        by true = assigned_settles
        by false = λ before. tt
