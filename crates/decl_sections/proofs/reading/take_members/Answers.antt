use Rattle.std.proofs.Common.{◌≡◌, ◌-◌, [], ◌∷◌, length, append-nil, sym, ap, subst, ◌∙◌, length-append, arith, Some}
use Rattle.std.specs.Prelude.{map, slice_get}
use Rattle.nim_types.specs.Table.{type_at}
use Rattle.decl_rules.specs.Sections.{seen_members}
use Rattle.decl_types.specs.declared.known.Definition.{Definition}
use Rattle.decl_sections.specs.ViewBodies.{member_entries}
use Rattle.decl_types.specs.ViewKnown.{HasType}
use Rattle.decl_types.specs.ViewMarks.{Stuck, is_enum}
use Rattle.decl_types.specs.ViewMarks.{is_unknown}
use Rattle.decl_types.proofs.ForCallers.{enum_known, last_is, on_one}
use Rattle.decl_sections.proofs.Membering.{none_seen, not_enum}
use Rattle.decl_sections.proofs.reading.take_members.Goals as goal

pub definition_at-requires : goal.definition_at-requires
definition_at-requires c =
    let l = ap length c.as_slice-read.ensures.value in
    omega (arith, l, c.requires.read)

pub known_type-ty-requires : goal.known_type-ty-requires
known_type-ty-requires c =
    let read = c.as_slice-read.result.now in
    let d = c.definition_at.result.now in
    let known = c.as_slice.result.now in
    let l = ap length c.as_slice-read.ensures.value in
    let k = ap length c.as_slice.ensures.value in
    let stuck = subst (λ ks. Stuck (map is_unknown ks) read) (sym c.as_slice.ensures.value)
    (subst (Stuck (map is_unknown c.args.reading.now.known.items)) (sym c.as_slice-read.ensures.value) c.requires.stuck) in
    enum_known known read (length read - 1) d stuck c.definition_at.ensures (ap is_enum c.in-Enum.is)
    (omega (arith, l, k, c.requires.read, c.requires.room))

pub returns-in-Enum-clause-decls : goal.returns-in-Enum-clause-decls
returns-in-Enum-clause-decls c =
    let read = c.as_slice-read.result.now in
    let last = length read - 1 in
    let known = c.args.reading.now.known.items in
    let definition = c.definition_at.result.now in
    let id = c.known_type-ty.result in
    let there : slice_get known last ≡ Some (Some id) =
    subst (λ ks. slice_get ks last ≡ Some (Some id)) c.as_slice.ensures.value c.known_type-ty.ensures in
    on_one c.declare_members.result c.declare_members.ensures.decls (λ s. (
      s.0,
      s.1,
      λ n below. s.2 n (below last id there),
      λ ts section before d h e own plain.
          let all = c.as_slice-read.ensures.value ∙ e in
          let same = last_is read before d definition (sym c.definition_at.ensures) all in
          let at : last ≡ length before = let l = ap length all in omega (arith, l, length-append before (d ∷ [])) in
          let meaning = ap (λ (z : Definition). z.meaning) (sym same) ∙ c.in-Enum.is in
          let typed = subst (λ m. HasType d m (type_at ts id)) meaning (own id (subst (λ k. slice_get known k ≡ Some (Some id)) at there)) in
          s.3 ts section h ∙ ap (λ t. seen_members section (member_entries t 0 c.args.members.now)) typed,
    ))

pub returns-in-Object-clause-decls : goal.returns-in-Object-clause-decls
returns-in-Object-clause-decls c = (
  [],
  sym (append-nil c.args.scope.now.decls),
  λ n below. tt,
  λ ts section before d h e own plain.
      none_seen section c.args.members.now c.as_slice-read.result.now before d c.definition_at.result.now c.definition_at.ensures
      (c.as_slice-read.ensures.value ∙ e) (not_enum c.definition_at.result.now.meaning c.in-Object.is) plain,
)

pub returns-in-Object-2-clause-decls : goal.returns-in-Object-2-clause-decls
returns-in-Object-2-clause-decls c = (
  [],
  sym (append-nil c.args.scope.now.decls),
  λ n below. tt,
  λ ts section before d h e own plain.
      none_seen section c.args.members.now c.as_slice-read.result.now before d c.definition_at.result.now c.definition_at.ensures
      (c.as_slice-read.ensures.value ∙ e) (not_enum c.definition_at.result.now.meaning c.in-Object.is) plain,
)

pub returns-in-Object-3-clause-decls : goal.returns-in-Object-3-clause-decls
returns-in-Object-3-clause-decls c = (
  [],
  sym (append-nil c.args.scope.now.decls),
  λ n below. tt,
  λ ts section before d h e own plain.
      none_seen section c.args.members.now c.as_slice-read.result.now before d c.definition_at.result.now c.definition_at.ensures
      (c.as_slice-read.ensures.value ∙ e) (not_enum c.definition_at.result.now.meaning c.in-Object.is) plain,
)
