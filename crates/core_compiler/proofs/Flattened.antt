-- Flat code that is that of a program does what the program means.
use Rattle.std.proofs.Common.{◌≡◌, ◌≤◌, ◌<◌, ℕ, ◌+◌, ◌*◌, List, [], ◌∷◌, ◌++◌, length, refl, sym, ap, subst, ◌∙◌, arith, true}
use Rattle.arc_base.specs.Event.{Event}
use Rattle.arc_base.specs.Behaviour.{Agrees, Seen, Sound}
use Rattle.arc_base.specs.Pace.{Paced}
use Rattle.nim_plan.specs.declared.plan.Plan.{Plan}
use Rattle.nim_program.specs.declared.program.Program.{Program as RustProgram}
use Rattle.nim_program.specs.Sizes.{HaveForms, globals_size}
use Rattle.nim_program.specs.Program.{Program}
use Rattle.nim_meaning.specs.Meaning.{meaning}
use Rattle.flat_code.specs.declared.code.Code.{Code}
use Rattle.flat_code.specs.declared.code.CodeProc.{CodeProc}
use Rattle.flat_code.specs.declared.line.Line.{Line}
use Rattle.flat_code.specs.Codes.{flat_plain, flat_within, procs_of, hooks_of, AreNone, places_of}
use Rattle.flat_code.specs.Fits.{code_fits, start_places}
use Rattle.flat_code.specs.Lines.{does}
use Rattle.flat_code.specs.Running.{Proc, ShowsAlike, at_first, runs, run_by}
use Rattle.flat_code.specs.Scene.{Known, known_in}
use Rattle.flat_code.specs.Sizes.{code_weight, code_texts, constants_bytes, data_bytes, globals_bytes}
use Rattle.flat_code.specs.Whole.{label_in}
use Rattle.program_limits.specs.Data.{data_counted, program_texts, texts_size}
use Rattle.program_limits.specs.Limits.{program_in}
use Rattle.flattening.specs.Counted.{program_parts, program_pairs, times, program_times, program_constants, places_waiting}
use Rattle.flattening.specs.Flattened.{known_of, code_of, modes_of, flat_meaning, IsExact}
use Rattle.flattening.specs.Given.{flat_procs, flat_of}
use Rattle.flat_code.specs.Alike.{AllAlike}
use Rattle.flat_code.specs.BuiltCode.{AreBuiltProcs}
use Rattle.flat_code.specs.Leads.{AllLeadRight}
use Rattle.flat_code.specs.Waits.{AllWaitRight, AllWaitOnce}
use Rattle.core_compiler.specs.Stages.{ShowsSame, IsFlatOf}
use Rattle.core_compiler.proofs.ProgramConstants.{constants_are}
use Rattle.core_compiler.proofs.ProgramTexts.{distinct_most}
use Rattle.core_compiler.proofs.TableNames.{names_count}

last_there : {A : Type 0} (xs : List A) (x : A) → 0 < length (xs ++ x ∷ [])
last_there [] x = omega arith
last_there (y ∷ xs) x = omega arith

module _ (p : RustProgram) (plan : Plan) (flat : Code Line) (procs : flat.procs ≡ flat_procs (program_in p) plan)
    (code : procs_of (known_in p.types) flat ≡ code_of (program_in p) plan)
    (sound : (heap : ℕ) (input : List ℕ) → Sound (meaning (program_in p) plan heap input))
    (agrees : (heap : ℕ) (input : List ℕ) → Agrees (flat_meaning (program_in p) plan heap input) (meaning (program_in p) plan heap input))
    (paced : (heap : ℕ) (input : List ℕ) → Paced 12 (flat_meaning (program_in p) plan heap input) (meaning (program_in p) plan heap input))
    (exact : (heap : ℕ) (input : List ℕ) (units : ℕ) → IsExact (program_in p) plan heap input units)
    (same : (units heap : ℕ) (input : List ℕ) (n : ℕ) → ShowsAlike (flat_within p.types flat plan units heap input n)
    (run_by label_in (does (known_in p.types) plan) (procs_of (known_in p.types) flat) n
    (at_first label_in (does (known_in p.types) plan) (procs_of (known_in p.types) flat) heap input) units [] 0))
    (work : (units heap : ℕ) (input : List ℕ) (n k : ℕ) → n ≤ k → (flat_within p.types flat plan units heap input n).work
    ≤ (run_by label_in (does (known_in p.types) plan) (procs_of (known_in p.types) flat) k
    (at_first label_in (does (known_in p.types) plan) (procs_of (known_in p.types) flat) heap input) units [] 0).work + 1)
    (fits : code_fits flat_plain (known_of (program_in p)) (flat_procs (program_in p) plan) ≡ true)
    (hooks : AreNone (hooks_of (flat_of (program_in p) plan)))
    (weight : code_weight flat_plain (flat_procs (program_in p) plan) ≤ 44 * program_parts (program_in p)
    + 9 * program_pairs (modes_of (program_in p) plan) (program_in p))
    (waiting : places_waiting (places_of (flat_of (program_in p) plan)) ≤ program_parts (program_in p))
    (globals : globals_bytes (known_of (program_in p)) (start_places (flat_procs (program_in p) plan))
    ≤ globals_size (program_in p).facts (program_in p).globals)
    (texts : (text : List ℕ) → times text (code_texts flat_plain (flat_procs (program_in p) plan)) ≤ 2 * program_times text (program_in p))
    (constants : constants_bytes flat_plain (flat_procs (program_in p) plan) ≤ program_constants (program_in p))
    (forms : HaveForms p.types)
    (alike : AllAlike (flat_procs (program_in p) plan)) (built : AreBuiltProcs (known_of (program_in p)) 16384 (flat_procs (program_in p) plan))
    (waits : AllWaitRight flat_plain (known_of (program_in p)) (flat_procs (program_in p) plan))
    (once : AllWaitOnce (places_of (flat_of (program_in p) plan)))
    (leads : AllLeadRight (known_of (program_in p)) (flat_procs (program_in p) plan))
    (few : data_counted (program_in p) ≤ 1040384)
  where
    abbrev program : Program
    program = program_in p

    abbrev known : Known
    known = known_in p.types

    abbrev sees : List (Proc Line) → (heap : ℕ) (input : List ℕ) (units n : ℕ) → Seen Event
    sees ps heap input units n = run_by label_in (does known plan) ps n (at_first label_in (does known plan) ps heap input) units [] 0

    shown : (heap : ℕ) (input : List ℕ) (units : ℕ) → (lines : ℕ) × ((more : ℕ) →
        ((sees (procs_of known flat) heap input units (lines + more)).events ≡ (meaning program plan heap input units).events)
        × ((sees (procs_of known flat) heap input units (lines + more)).phase ≡ (meaning program plan heap input units).phase)
        × ((sees (procs_of known flat) heap input units (lines + more)).work ≤ 12 * ((meaning program plan heap input units).work + 1)))
    shown heap input units =
        subst (λ (ps : List (Proc Line)). (lines : ℕ) × ((more : ℕ) →
        ((sees ps heap input units (lines + more)).events ≡ (meaning program plan heap input units).events)
        × ((sees ps heap input units (lines + more)).phase ≡ (meaning program plan heap input units).phase)
        × ((sees ps heap input units (lines + more)).work ≤ 12 * ((meaning program plan heap input units).work + 1)))) (sym code) (exact heap input units)

    exactly : (heap : ℕ) (input : List ℕ) (units : ℕ) → (lines : ℕ)
        × ((more : ℕ) → ShowsSame (flat_within p.types flat plan units heap input (lines + more)) (meaning program plan heap input units))
    exactly heap input units =
        let e = shown heap input units in (
          e.0,
          λ more.
              let s = same units heap input (e.0 + more) in
              let t = e.1 more in
              record { events = s.0 ∙ t.0; phase = s.1 ∙ t.1 },
        )

    bounded : (heap : ℕ) (input : List ℕ) (units n : ℕ) →
        (flat_within p.types flat plan units heap input n).work ≤ 12 * ((meaning program plan heap input units).work + 1) + 1
    bounded heap input units n =
        let e = shown heap input units in
        let w = work units heap input n (e.0 + n) (omega arith) in
        let most = (e.1 n).2 in
        omega (arith, w, most)

    fit : code_fits flat_plain known flat.procs ≡ true
    fit = ap (code_fits flat_plain known) procs ∙ fits

    wait : AllWaitRight flat_plain known flat.procs
    wait = subst (λ ps. AllWaitRight flat_plain known ps) (sym procs) waits

    one : AllWaitOnce (places_of flat)
    one = subst (λ ps. AllWaitOnce (places_of (record { procs = ps }))) (sym procs) once

    none : AreNone (hooks_of flat)
    none = subst (λ ps. AreNone (hooks_of (record { procs = ps }))) (sym procs) hooks

    data_most : data_bytes flat_plain p.types flat.procs ≤ data_counted program + 2048
    data_most =
        let names = names_count p.types in
        let own : globals_bytes known (start_places (flat_procs program plan)) ≤ globals_size program.facts program.globals = globals in
        let distinct : texts_size (code_texts flat_plain (flat_procs program plan)) ≤ texts_size (program_texts program) =
        distinct_most program plan texts in
        let linked = constants_are program in
        subst (λ ps. data_bytes flat_plain p.types ps ≤ data_counted program + 2048) (sym procs) (omega (arith, own, names, distinct, constants, linked))

    pub is_flat_of : IsFlatOf p.types program plan flat
    is_flat_of = record {
      sound = sound;
      agrees = λ heap input. subst (λ (ps : List (Proc Line)). Agrees (runs label_in (does known plan) ps heap input) (meaning program plan heap input))
          (sym code) (agrees heap input);
      paced = λ heap input. subst (λ (ps : List (Proc Line)). Paced 12 (runs label_in (does known plan) ps heap input) (meaning program plan heap input))
          (sym code) (paced heap input);
      exact = exactly;
      within = bounded;
      fits = record {
        fits = fit;
        waits = wait;
        once = one;
      };
      waiting = subst (λ ps. places_waiting (places_of (record { procs = ps })) ≤ program_parts program) (sym procs) waiting;
      weight = subst (λ ps. code_weight flat_plain ps ≤ 44 * program_parts program + 9 * program_pairs (modes_of program plan) program) (sym procs) weight;
      data_size = data_most;
      hooks = none;
      may = record {
        some = subst (λ (ps : List (CodeProc Line)). 0 < length ps) (sym procs) (last_there _ _);
        alike = subst (λ ps. AllAlike ps) (sym procs) alike;
        built = subst (λ ps. AreBuiltProcs known 16384 ps) (sym procs) built;
        fits = fit;
        waits = wait;
        leads = subst (λ ps. AllLeadRight known ps) (sym procs) leads;
        once = one;
        hooks = none;
        data_few = let most = data_most in omega (arith, most, few);
      };
      forms = forms;
      types = refl;
      facts = refl;
    }
