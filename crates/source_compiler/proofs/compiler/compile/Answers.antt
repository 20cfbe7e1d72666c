use Rattle.std.proofs.Common.{◌≡◌, refl, sym, ap, subst, ◌∙◌, arith, Ok}
use Rattle.std.proofs.lemmas.Result.{err_from_is_err_and}
use Rattle.rv32_isa.specs.declared.image.Image.{Image as RustImage}
use Rattle.elf32.specs.declared.file.ElfFile.{ElfFile}
use Rattle.elf32.specs.Elf.{file_of}
use Rattle.check_decls.specs.Modules.{program_in}
use Rattle.nim_plan.specs.declared.plan.Plan.{Plan}
use Rattle.plain_plan.specs.Plain.{plain_plan}
use Rattle.core_compiler.specs.Compile.{HasCodeWhereWithin}
use Rattle.core_compiler.specs.Limits as core
use Rattle.source_compiler.specs.Limits.{build_limits}
use Rattle.source_compiler.specs.Source.{alone, read_program}
use Rattle.source_compiler.proofs.PlainFiles.{plain_file, built_note, all_built, image_is}
use Rattle.source_compiler.proofs.Taking.{never_refused, down_by_limits, no_long, for_limits, code_read, unread_code, stopped_code}
use Rattle.source_compiler.proofs.Stages.{limits_down, under_plan}
use Rattle.source_compiler.proofs.Unlisted.{within_same, does_same, sound_same, released_same}
use Rattle.source_compiler.proofs.compiler.compile.Goals as goal

-- ---- no typed program

pub returns-in_err-program-clause-decided : goal.returns-in_err-program-clause-decided
returns-in_err-program-clause-decided c =
    let source = c.args.source.now in
    let p = err_from_is_err_and c.from_residual.result c.from_residual.ensures.1 in
    let said = for_limits (build_limits 0) source _ c.in_err-program.ensures.refused in
    let code = unread_code ElfFile c.one_answer.ensures.not_both source _ c.in_err-program.ensures.refused 0 in (
      0,
      record {
        refused = rw (p.1, p.2) said;
        complete = λ name is. never_refused c.from_residual.result (build_limits 0) name source c.one_answer.ensures.not_both
            (rw (p.1, p.2) c.in_err-program.ensures.too_long) (rw (p.1, p.2) said) is;
        code = rw (p.1, p.2) code;
      },
      rw p.1 tt,
    )

-- ---- no memory for its plan

pub returns-in_err-plan-clause-too_long : goal.returns-in_err-plan-clause-too_long
returns-in_err-plan-clause-too_long c =
    let p = err_from_is_err_and c.from_residual-in_err-plan.result c.from_residual-in_err-plan.ensures.1 in
    rw (p.1, p.2) tt

pub returns-in_err-plan-clause-decided : goal.returns-in_err-plan-clause-decided
returns-in_err-plan-clause-decided c =
    let p = err_from_is_err_and c.from_residual-in_err-plan.result c.from_residual-in_err-plan.ensures.1 in
    rw (p.1, p.2) (0, record { refused = tt; complete = λ name is. tt; code = tt }, tt)

-- ---- none that can be compiled

pub returns-in_err-image-clause-too_long : goal.returns-in_err-image-clause-too_long
returns-in_err-image-clause-too_long c =
    let p = err_from_is_err_and c.from_residual-in_err-image.result c.from_residual-in_err-image.ensures.1 in
    rw p.1 (no_long c.args.source.now p.0 _ p.2)

pub returns-in_err-image-clause-decided : goal.returns-in_err-image-clause-decided
returns-in_err-image-clause-decided c =
    let source = c.args.source.now in
    let p = err_from_is_err_and c.from_residual-in_err-image.result c.from_residual-in_err-image.ensures.1 in
    let answer = c.in_err-image.ensures.answers in
    let limits = build_limits answer.0 in
    let program = c.in_ok-program.program in
    let plan = c.in_ok-plan.ensures.plain in
    let answered = under_plan RustImage (λ (p : Plan). core.build_limits p answer.0 (read_program program)) c.in_ok-plan.plan
    (plain_plan (read_program program)) _ _ plan answer.1 in
    let down = limits_down RustImage limits (read_program program) source c.in_ok-program.ensures.reads _ _ answered in
    let said = down_by_limits limits source p.0 _ c.in_ok-program.ensures.within p.2 down in
    let code = stopped_code ElfFile RustImage c.one_answer.ensures.program source (program_in program) c.in_ok-plan.plan answer.0 plan
    c.in_ok-program.ensures.reads p.0 _ p.2 answer.2 in (
      answer.0,
      record {
        refused = rw p.1 said;
        complete = λ name is. never_refused c.from_residual-in_err-image.result limits name source c.one_answer.ensures.not_both
            (rw p.1 (no_long source p.0 _ p.2)) (rw p.1 said) is;
        code = rw p.1 code;
      },
      rw p.1 tt,
    )

-- ---- the file

pub returns-clause-decided : goal.returns-clause-decided
returns-clause-decided c =
    let source = c.args.source.now in
    let answer = c.in_ok-image.ensures.answers in
    let program = c.in_ok-program.program in
    let plan = c.in_ok-plan.ensures.plain in
    let has = subst (λ (plan : Plan). HasCodeWhereWithin (program_in program) plan answer.0) plan answer.2 in (
      answer.0,
      record {
        refused = tt;
        complete = λ name is. tt;
        code = λ name. code_read c.one_answer.ensures.program name source (read_program program) answer.0
            (c.in_ok-program.ensures.reads name) (within_same (program_in program) (plain_plan (read_program program)) has);
      },
      answer.3,
    )

pub returns-clause-compiled : goal.returns-clause-compiled
returns-clause-compiled c =
    let source = c.args.source.now in
    let image = c.in_ok-image.image in
    let typed = program_in c.in_ok-program.program in
    let does = does_same typed c.in_ok-plan.plan c.in_ok-image.ensures.does in
    let answer = c.in_ok-image.ensures.answers in
    let program = read_program c.in_ok-program.program in
    let reads = c.in_ok-program.ensures.reads in
    let file = file_of (record { image = image; version = 1; plan = c.in_ok-plan.plan }) in
    let plan = c.in_ok-plan.ensures.plain in
    let is = c.plain_plans.ensures.is program in
    let built = subst (λ (p : Plan). core.build_limits p answer.0 program ≡ Ok tt) plan answer.1 in
    λ name. record {
      program = program;
      reads = reads name;
      reads_only = λ other r. c.one_answer.ensures.program (alone name source) other program r (reads name);
      built = subst (λ n. build_limits n program ≡ Ok tt) (sym answer.3) built;
      allowed = plain_file file (record {
        version = refl;
        image = image_is image;
        heap_least = omega (arith, does.heap_is, c.requires.heap_least);
        hooks = does.hooks;
        ordered = c.in_ok-plan.ensures.ordered.sites;
        fit = c.in_ok-plan.ensures.words;
        sinks = ap (λ (p : Plan). p.sinks) plan ∙ is.sinks;
        skips = ap (λ (p : Plan). p.skips) plan ∙ is.skips;
        few = built_note c.in_ok-plan.plan answer.0 program answer.1;
      });
      agrees = λ input. does.agrees input;
      paced = λ input. does.paced input;
      in_time = λ input. does.in_time input;
      sound = λ other bytes input. sound_same typed other bytes input
          (c.in_ok-program.ensures.sound other (all_built c.in_ok-plan.plan answer.0 typed answer.1) bytes input);
      released = λ other bytes input. released_same typed other bytes input
          (c.in_ok-program.ensures.released other (all_built c.in_ok-plan.plan answer.0 typed answer.1) bytes input);
      code = does.code;
      made = does.made;
      plan = plan;
      heap_is = does.heap_is;
      hooks = does.hooks;
    }
