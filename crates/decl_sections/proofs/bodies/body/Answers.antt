use Rattle.std.proofs.Common.{sym, ap, ap₂, ◌∙◌}
use Rattle.std.specs.Prelude.{Ok}
use Rattle.std.proofs.lemmas.Result.{err_from_is_err_and}
use Rattle.nim_tree.specs.Types as body
use Rattle.nim_tree.specs.Types.{body_of, fields_of}
use Rattle.expr_parts.specs.View.{env_of}
use Rattle.expr_parts.proofs.ForCallers.{grown_same}
use Rattle.decl_rules.specs.Meanings.{an_enum}
use Rattle.decl_rules.specs.Sections.{texts_of}
use Rattle.decl_rules.specs.Written.{later}
use Rattle.decl_types.specs.ViewNodes.{names_env_of}
use Rattle.decl_types.specs.ViewKnown.{MeaningWithin}
use Rattle.decl_sections.specs.ViewBodies.{meant_in, said_with, said_by}
use Rattle.decl_sections.proofs.Noding.{further_same, formed_none, spells_as, spells_forgets}
use Rattle.decl_sections.proofs.bodies.body.Goals as goal

pub returns-in-Object : goal.returns-in-Object
returns-in-Object c =
    spells_as (λ sizing env. said_by sizing env (body_of c.args.body.now)) c.plain_object.ensures (λ ts facts before keys u.
    ap (said_by (later (env_of ts facts c.args.scope.now)) (names_env_of ts before keys c.args.names.now c.args.scope.now)) (ap body_of c.in-Object.is
    ∙ ap (λ fs. body.object c.in-Object.at c.in-Object.is_ref c.in-Object.parent (fields_of fs)) (sym c.as_slice.ensures.value)))

pub returns-in_err-texts_of-in-Enum : goal.returns-in_err-texts_of-in-Enum
returns-in_err-texts_of-in-Enum c =
    let p = err_from_is_err_and c.from_residual.result c.from_residual.ensures.1 in
    rw (p.1, p.2) (spells_forgets meant_in (λ sizing env. said_by sizing env (body_of c.args.body.now)) MeaningWithin _ (grown_same c.args.types.now)
    c.in_err-texts_of-in-Enum.ensures.memory)

pub returns-in_ok-texts_of-in-Enum : goal.returns-in_ok-texts_of-in-Enum
returns-in_ok-texts_of-in-Enum c = record {
  grown = grown_same c.args.types.now;
  further = further_same c.args.out.now.items;
  answers = λ ts facts before keys u.
      ap (said_by (later (env_of ts facts c.args.scope.now)) (names_env_of ts before keys c.args.names.now c.args.scope.now)) (ap body_of c.in-Enum.is)
      ∙ ap₂ (λ texts fs. Ok (said_with (an_enum texts) fs)) (sym (c.in_ok-texts_of-in-Enum.ensures.texts
      ∙ ap texts_of c.as_slice-in-Enum.ensures.value)) (sym (formed_none ts keys c.args.out.now.items));
  within = tt;
  sound = λ n m o h. h;
}

pub returns-in-Distinct : goal.returns-in-Distinct
returns-in-Distinct c =
    spells_as (λ sizing env. said_by sizing env (body_of c.args.body.now)) c.distinct.ensures (λ ts facts before keys u.
    ap (said_by (later (env_of ts facts c.args.scope.now)) (names_env_of ts before keys c.args.names.now c.args.scope.now)) (ap body_of c.in-Distinct.is))

pub returns-in-Alias : goal.returns-in-Alias
returns-in-Alias c =
    spells_as (λ sizing env. said_by sizing env (body_of c.args.body.now)) c.alias.ensures (λ ts facts before keys u.
    ap (said_by (later (env_of ts facts c.args.scope.now)) (names_env_of ts before keys c.args.names.now c.args.scope.now)) (ap body_of c.in-Alias.is))
