use Rattle.std.proofs.Common.{refl, length}
use Rattle.decl_heads.proofs.Opening.{one_declared}
use Rattle.decl_heads.proofs.given.declare_one.Goals as goal

pub returns-clause-behind : goal.returns-clause-behind
returns-clause-behind c =
    one_declared c.args.state.now _ c.in_ok-decl.decl c.args.param.now c.in_ok-next.next c.declare.new.self refl c.in_ok-declare.ensures.ok
    c.declare.ensures.kinds
    c.declare.ensures.home c.in_ok-next.ensures.next c.in_ok-decl.ensures.entry (c.in_ok-decl.ensures.within (length c.args.state.now.types) c.requires.ty)
