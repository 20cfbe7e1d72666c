use Rattle.std.proofs.Common.{ap, ap₂, ◌∙◌, sym, Bool, List, ℕ}
use Rattle.std.specs.Prelude.{map, ◌&&◌, not}
use Rattle.nim_tree.specs.declared.name.Pragma.{Pragma}
use Rattle.nim_tree.specs.Statements.{head_of}
use Rattle.nim_program.specs.View.{if_type}
use Rattle.expr_parts.specs.View.{env_of, parameter_of}
use Rattle.decl_rules.specs.Heads.{head_fits, name_fits, borrow_fits, has_pragma, is_borrow, is_error}
use Rattle.decl_heads.proofs.borrowing.head_fits.Goals as goal

pub returns : goal.returns
returns c = λ ts facts u n.
    let env = env_of ts facts c.args.scope.now in
    let h = head_of c.args.head.now in
    let ps = map (parameter_of ts) c.args.params.now in
    let gs = if_type ts c.args.gives in
    let q = c.args.head.now.name.quoted in
    let borrows = c.has_borrow-borrowed.result in
    ap (λ (b : Bool). head_fits env h b c.args.has_body ps gs)
    (ap (λ (l : List Pragma). has_pragma is_borrow l) (sym c.deref.ensures.value) ∙ c.has_borrow-borrowed.ensures)
    ∙ ap₂ (λ (e r : Bool). not e && r) (ap (λ (l : List Pragma). has_pragma is_error l) (sym c.deref-2.ensures.value) ∙ c.has_error.ensures)
    (ap₂ (λ (a b : Bool). a && b)
    (ap (λ (x : List ℕ). name_fits q x borrows ps gs) (sym n)
    ∙ c.name_fits-named.ensures c.args.name.now ps gs c.is_dollar.ensures (c.is_shower-shower.ensures ts facts u))
    (ap (λ (x : List ℕ). borrow_fits env borrows q c.args.has_body x ps gs) (sym n)
    ∙ c.borrow_fits-may_borrow.ensures ts facts q c.args.has_body u c.stands_alone-alone.ensures))
    ∙ c.no_error.ensures
