use Rattle.std.proofs.Common.{ap, ◌∙◌, Bool}
use Rattle.std.specs.Prelude.{map}
use Rattle.nim_program.specs.View.{if_type}
use Rattle.expr_parts.specs.View.{env_of, parameter_of}
use Rattle.decl_rules.specs.Heads.{borrow_fits}
use Rattle.decl_heads.proofs.Borrowers.{borrow_not, borrow_by}
use Rattle.decl_heads.proofs.borrowing.borrow_fits.Goals as goal

pub returns-then-not-borrowed : goal.returns-then-not-borrowed
returns-then-not-borrowed c = λ ts facts quoted has_body u e.
    ap (λ (b : Bool). borrow_fits (env_of ts facts c.args.scope.now) b quoted has_body c.args.name.now (map (parameter_of ts) c.args.params.now)
    (if_type ts c.args.gives)) c.if-not-borrowed.true

pub returns-then-not-alone : goal.returns-then-not-alone
returns-then-not-alone c = λ ts facts quoted has_body u e.
    ap (λ (b : Bool). borrow_fits (env_of ts facts c.args.scope.now) b quoted has_body c.args.name.now (map (parameter_of ts) c.args.params.now)
    (if_type ts c.args.gives)) c.if-not-borrowed.false
    ∙ borrow_not (env_of ts facts c.args.scope.now) quoted has_body c.args.name.now (map (parameter_of ts) c.args.params.now) (if_type ts c.args.gives)
    (e ∙ c.if-not-alone.true)

pub returns : goal.returns
returns c = λ ts facts quoted has_body u e.
    ap (λ (b : Bool). borrow_fits (env_of ts facts c.args.scope.now) b quoted has_body c.args.name.now (map (parameter_of ts) c.args.params.now)
    (if_type ts c.args.gives)) c.if-not-borrowed.false
    ∙ borrow_by (env_of ts facts c.args.scope.now) quoted has_body c.args.name.now (map (parameter_of ts) c.args.params.now) (if_type ts c.args.gives)
    (e ∙ c.if-not-alone.false)
    ∙ c.is_borrowing.ensures ts facts u
