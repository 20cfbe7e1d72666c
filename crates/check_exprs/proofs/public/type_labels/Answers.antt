use Rattle.std.proofs.Common.{length}
use Rattle.nim_tree.specs.Terms.{parts_of}
use Rattle.nim_types.specs.Table.{type_at}
use Rattle.expr_rules.specs.Typed.{labels}
use Rattle.expr_parts.specs.View.{env_of}
use Rattle.check_exprs.proofs.Handing.{labels_own, labels_all}
use Rattle.check_exprs.proofs.public.type_labels.Goals as goal

pub returns : goal.returns
returns c =
    let before = c.args.before in
    record {
      grown = c.labels.ensures.grown;
      answers = λ ts facts u.
          labels_own before (labels (env_of ts facts c.args.scope.now) (type_at ts c.args.ty) before (parts_of c.args.tests.now)) c.labels.result
          (c.labels.ensures.answers ts facts u);
      all = labels_all (length c.labels.new.types) before c.labels.result c.labels.ensures.fits;
    }
