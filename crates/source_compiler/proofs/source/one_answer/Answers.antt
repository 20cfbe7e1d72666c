use Rattle.parse_stmts.proofs.ForCallers.{module_decided}
use Rattle.source_compiler.specs.Source.{main_module, Module}
use Rattle.source_compiler.proofs.Reading.{rules_are, reads_only, refuses_once, read_not_refused}
use Rattle.source_compiler.proofs.Taking.{taken_or_refused, taken_not_refused, no_program_once}
use Rattle.source_compiler.proofs.Deciding.{decided, lone_decided}
use Rattle.source_compiler.proofs.source.one_answer.Goals as goal

pub returns-clause-some : goal.returns-clause-some
returns-clause-some c = λ main. lone_decided main
    (decided c.one_program.ensures.each main.source (c.one_reading.ensures.some main.source 0) (module_decided (main_module main.source)))

pub returns-clause-program : goal.returns-clause-program
returns-clause-program c =
    let rules = rules_are c.one_program.ensures.program c.one_program.ensures.refusal c.one_program.ensures.apart in
    λ modules p q r s. reads_only rules modules q p s r

pub returns-clause-refusal : goal.returns-clause-refusal
returns-clause-refusal c =
    let rules = rules_are c.one_program.ensures.program c.one_program.ensures.refusal c.one_program.ensures.apart in
    λ modules k d p q r s. refuses_once rules modules k d p q r s

pub returns-clause-either : goal.returns-clause-either
returns-clause-either c =
    let rules = rules_are c.one_program.ensures.program c.one_program.ensures.refusal c.one_program.ensures.apart in
    λ modules program code at r s. read_not_refused rules modules program code at r s

pub returns-clause-taken : goal.returns-clause-taken
returns-clause-taken c = λ limits name source within.
    let main : Module = record { name = name; source = source } in
    taken_or_refused limits name source within (lone_decided main
    (decided c.one_program.ensures.each source (c.one_reading.ensures.some source 0) (module_decided (main_module source))))

pub returns-clause-not_both : goal.returns-clause-not_both
returns-clause-not_both c =
    let rules = rules_are c.one_program.ensures.program c.one_program.ensures.refusal c.one_program.ensures.apart in
    λ limits name source code at is no. taken_not_refused rules limits name source code at is no

pub returns-clause-one : goal.returns-clause-one
returns-clause-one c =
    let rules = rules_are c.one_program.ensures.program c.one_program.ensures.refusal c.one_program.ensures.apart in
    λ limits name source k d p q r s. no_program_once rules limits name source k d p q r s
