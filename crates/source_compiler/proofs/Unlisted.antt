-- A program means the same without its list of types by number, has the same plan, and code of it is code of the other.
use Rattle.std.proofs.Common.{◌≡◌, ℕ, zero, suc, List, [], ap, subst, refl}
use Rattle.std.specs.Prelude.{slice_get}
use Rattle.arc_base.specs.Behaviour.{Behaviour, Agrees, Sound}
use Rattle.arc_base.specs.BigStep.{whole}
use Rattle.arc_base.specs.Event.{Event}
use Rattle.arc_base.specs.Pace.{PacedFrom}
use Rattle.nim_plan.specs.declared.plan.Plan.{Plan}
use Rattle.nim_program.specs.declared.program.TheConstants.{ACTIVE_CALLS}
use Rattle.nim_program.specs.Program.{Program}
use Rattle.nim_program.specs.Sizes.{body_sum}
use Rattle.nim_meaning.specs.State.{live}
use Rattle.nim_meaning.specs.Acts.{costs, spending, elsewhere, at_exit}
use Rattle.nim_meaning.specs.Here.{Calls}
use Rattle.nim_meaning.specs.Meaning.{called, from_level, calls, exec_all, at_first, reported, meaning}
use Rattle.plain_plan.specs.Plain.{plain_plan, IsPlainPlan}
use Rattle.rv32_isa.specs.Image.{Image}
use Rattle.rv32_isa.specs.Machine.{machine}
use Rattle.word_code.specs.Words.{word_meaning}
use Rattle.core_compiler.specs.declared.program.TheConstants.{IMAGE_PACE, IMAGE_LATE}
use Rattle.core_compiler.specs.Compile.{live_objects, EndsInTime, HasCode, HasCodeWhereWithin, DoesProgram, HasImageWhereBuilt}
use Rattle.source_compiler.specs.Source.{unlisted}
use Rattle.holders.specs.Released.{IsReleased, LeavesNoBlock}
use Rattle.nim_meaning.specs.Kept.{IsKept}

plain_same : (program : Program) (plan : Plan) → IsPlainPlan program plan → IsPlainPlan (unlisted program) plan
plain_same program plan is = record { ordered = is.ordered; acts = is.acts; sinks = is.sinks; skips = is.skips }

pub plan_same : ((program : Program) → IsPlainPlan program (plain_plan program)) →
    ((program : Program) (p q : Plan) → IsPlainPlan program p → IsPlainPlan program q → p ≡ q) →
    (program : Program) → plain_plan program ≡ plain_plan (unlisted program)
plan_same is only program = only (unlisted program) (plain_plan program) (plain_plan (unlisted program))
    (plain_same program (plain_plan program) (is program)) (is (unlisted program))

module _ (p : Program) (plan : Plan) where
  deeper : (left level : ℕ) → calls p plan left level ≡ calls (unlisted p) plan left level
  deeper zero level = refl
  deeper (suc left) level =
      ap (λ (more : Calls). λ proc slots. spending (elsewhere (called p.globals (slice_get p.procs proc) slots (from_level p plan level more))))
      (deeper left (suc level))

  pub meaning_same : (heap : ℕ) (input : List ℕ) → meaning p plan heap input ≡ meaning (unlisted p) plan heap input
  meaning_same heap input =
      ap (λ (more : Calls). whole (λ s. s.meter) (λ _. 0) (λ s. live s.world) (λ n.
      costs (body_sum p.facts p.globals [] p.start) (at_exit (exec_all p.start.stmts (from_level p plan 0 more p.start)) reported)
      (at_first p heap input n))) (deeper ACTIVE_CALLS 1)

  pub sound_same : (heap : ℕ) (input : List ℕ) → Sound (meaning p plan heap input) → Sound (meaning (unlisted p) plan heap input)
  sound_same heap input = subst (λ (means : Behaviour Event). Sound means) (meaning_same heap input)

  pub released_same : (heap : ℕ) (input : List ℕ) → LeavesNoBlock p plan heap input → LeavesNoBlock (unlisted p) plan heap input
  released_same heap input =
      subst (λ (more : Calls). (units : ℕ) → IsKept (λ flow. IsReleased) (costs (body_sum p.facts p.globals [] p.start)
      (at_exit (exec_all p.start.stmts (from_level p plan 0 more p.start)) reported) (at_first p heap input units))) (deeper ACTIVE_CALLS 1)

  abbrev code_same : {bytes : ℕ} → HasCode p plan bytes → HasCode (unlisted p) plan bytes
  code_same has = record {
    words = has.words;
    homes = has.homes;
    lines = has.lines;
    code = has.code;
    agrees = λ fresh heap stack input can. subst (Agrees (word_meaning live_objects has.words fresh heap stack input)) (meaning_same heap input)
        (has.agrees fresh heap stack input can);
    size = has.size;
    types = has.types;
    own = λ some. absurd (some refl);
    typed = has.typed;
    bound = has.bound;
    data_most = has.data_most;
  }

  pub within_same : {bytes : ℕ} → HasCodeWhereWithin p plan bytes → HasCodeWhereWithin (unlisted p) plan bytes
  within_same has = λ small. code_same (has small)

  pub does_same : {heap : ℕ} {image : Image} → DoesProgram p plan heap image → DoesProgram (unlisted p) plan heap image
  does_same {heap} {image} does = record {
    agrees = λ input. subst (Agrees (machine live_objects image input)) (meaning_same heap input) (does.agrees input);
    paced = λ input. subst (PacedFrom IMAGE_PACE IMAGE_LATE (machine live_objects image input)) (meaning_same heap input) (does.paced input);
    in_time = λ input. subst (EndsInTime (machine live_objects image input)) (meaning_same heap input) (does.in_time input);
    code = code_same does.code;
    made = does.made;
    heap_is = does.heap_is;
    hooks = does.hooks;
  }

  pub image_same : {bytes : ℕ} → HasImageWhereBuilt p plan bytes → HasImageWhereBuilt (unlisted p) plan bytes
  image_same has = λ none. let is = has none in record { heap = is.heap; image = is.image; does = does_same is.does; bytes = is.bytes }
