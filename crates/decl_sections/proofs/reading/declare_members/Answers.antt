use Rattle.std.proofs.Common.{◌≡◌, ℕ, suc, ◌+◌, List, [], ◌++◌, drop, refl, sym, ap, ap₂, ◌∙◌, append_assoc, append-nil, arith}
use Rattle.std.specs.Prelude.{map}
use Rattle.nim_types.specs.Table.{type_at}
use Rattle.expr_parts.specs.View.{entry_of}
use Rattle.expr_parts.proofs.ForCallers.{next_item, none_left}
use Rattle.decl_rules.specs.Sections.{seen_members}
use Rattle.decl_sections.specs.ViewBodies.{member_entries}
use Rattle.decl_sections.proofs.Membering.{one_member, member_within, member_next}
use Rattle.decl_sections.proofs.reading.declare_members.Goals as goal

pub loop-member-init : goal.loop-member-init
loop-member-init c = record {
  kinds = refl;
  home = refl;
  number = refl;
  left = ([], sym (append-nil c.args.scope.now.decls), λ n lt. tt, λ ts types h. refl);
}

pub loop-member-preserved : goal.loop-member-preserved
loop-member-preserved c =
    let at = c.loop-member in
    let x = c.member-item.result in
    let i = at.member-index in
    let members = c.args.members.now in
    let all = c.args.all.now in
    let ty = c.args.ty in
    let w = at.invariant.left in
    let rest = drop (i + 1) members in
    let e = next_item members i x c.member-item.is c.loop-member-test.true in
    let one = one_member all ty i x in
    let next : suc i ≡ i + 1 = omega arith in
    let is : c.declare_member.new.scope.decls ≡ at.scope.decls ++ one =
    c.in_ok-declare_member.ensures.decls
    ∙ ap₂ (λ (k : ℕ) (y : List ℕ). at.scope.decls ++ one_member all ty k y) at.invariant.number c.as_slice.ensures in
    record {
      kinds = c.declare_member.ensures.kinds ∙ at.invariant.kinds;
      home = c.declare_member.ensures.home ∙ at.invariant.home;
      number = let n = c.in_ok-number.ensures.next in let k = at.invariant.number in omega (arith, n, k);
      left = (
        w.0 ++ one,
        is ∙ ap (λ l. l ++ one) w.1 ∙ append_assoc c.args.scope.now.decls w.0 one,
        λ n lt. member_within all n ty i x w.0 lt (w.2 n lt),
        λ ts types h.
            w.3 ts types h ∙ ap (λ l. map (entry_of ts) w.0 ++ seen_members types (member_entries (type_at ts ty) i l)) e
            ∙ member_next all ts types ty i x rest w.0 h
            ∙ ap (λ (k : ℕ). map (entry_of ts) (w.0 ++ one) ++ seen_members types (member_entries (type_at ts ty) k rest)) next,
      );
    }

pub returns-clause-decls : goal.returns-clause-decls
returns-clause-decls c =
    let at = c.loop-member in
    let w = at.invariant.left in
    let none = none_left c.args.members.now at.member-index (omega (arith, c.loop-member-test.false)) in (
      w.0,
      w.1,
      w.2,
      λ ts types h.
          sym (w.3 ts types h
          ∙ ap (λ l. map (entry_of ts) w.0 ++ seen_members types (member_entries (type_at ts c.args.ty) at.member-index l)) none
          ∙ append-nil (map (entry_of ts) w.0)),
    )
