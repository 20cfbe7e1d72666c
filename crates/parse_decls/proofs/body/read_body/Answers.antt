use Rattle.std.proofs.Common.{suc, ◌+◌, sym, ap, ◌∙◌, arith, add-one}
use Rattle.nim_tree.specs.Types.{body_of}
use Rattle.parse_exprs.specs.declared.layout.Layout.TheVariants.{Lines}
use Rattle.parse_exprs.specs.Input.{origin_of, from_at}
use Rattle.parse_decls.specs.declared.look.BodyLead.TheVariants as B
use Rattle.parse_decls.proofs.Coming.{comes_leads}
use Rattle.parse_decls.proofs.BodySteps.{body_empty, body_leads, object_comes, ref_object_comes, enum_comes, distinct_comes, ref_object_within}
use Rattle.parse_decls.proofs.body.read_body.Goals as goal

pub returns-in_default : goal.returns-in_default
returns-in_default c = body_empty (origin_of c.args.input.now) c.args.spaces (from_at c.args.input.now c.args.at) c.in_default.ensures.none _ c.stuck.ensures

pub read_object-requires-in-RefObject-clause-within : goal.read_object-requires-in-RefObject-clause-within
read_object-requires-in-RefObject-clause-within c =
    let w = ref_object_within (Lines c.args.spaces) c.args.at c.args.input.now.tokens.now (from_at c.args.input.now (suc c.args.at)) c.in-Some.token
    c.in-Some.ensures.some (ap (from_at c.args.input.now) (sym (add-one c.args.at))) (sym c.body_lead.ensures ∙ c.in-RefObject.is) in
    omega (arith, w)

pub returns-in-Object : goal.returns-in-Object
returns-in-Object c =
    let l = body_leads (origin_of c.args.input.now) c.args.spaces (from_at c.args.input.now c.args.at) (from_at c.args.input.now (suc c.args.at))
    c.in-Some.token B.Object _ c.in-Some.ensures.some (sym c.body_lead.ensures ∙ c.in-Object.is) c.place_at-place.ensures in
    comes_leads body_of _ _ c.args.input.now (suc c.args.at) l (c.args.at + 1) (omega arith) c.read_object.result
    (object_comes c.args.input.now c.args.spaces c.args.at _ c.read_object.result c.read_object.ensures)

pub returns-in-RefObject : goal.returns-in-RefObject
returns-in-RefObject c =
    let l = body_leads (origin_of c.args.input.now) c.args.spaces (from_at c.args.input.now c.args.at) (from_at c.args.input.now (suc c.args.at))
    c.in-Some.token B.RefObject _ c.in-Some.ensures.some (sym c.body_lead.ensures ∙ c.in-RefObject.is) c.place_at-place.ensures in
    comes_leads body_of _ _ c.args.input.now (suc c.args.at) l (c.args.at + 1 + 1) (omega arith) c.read_object-in-RefObject.result
    (ref_object_comes c.args.input.now c.args.spaces c.args.at _ c.read_object-in-RefObject.result c.read_object-in-RefObject.ensures)

pub returns-in-Enum : goal.returns-in-Enum
returns-in-Enum c =
    let l = body_leads (origin_of c.args.input.now) c.args.spaces (from_at c.args.input.now c.args.at) (from_at c.args.input.now (suc c.args.at))
    c.in-Some.token B.Enum _ c.in-Some.ensures.some (sym c.body_lead.ensures ∙ c.in-Enum.is) c.place_at-place.ensures in
    comes_leads body_of _ _ c.args.input.now (suc c.args.at) l (suc (c.args.at + 1)) (omega arith) c.read_enum.result
    (enum_comes c.args.input.now c.args.spaces c.args.at _ c.read_enum.result c.read_enum.ensures)

pub returns-in-Distinct : goal.returns-in-Distinct
returns-in-Distinct c =
    let l = body_leads (origin_of c.args.input.now) c.args.spaces (from_at c.args.input.now c.args.at) (from_at c.args.input.now (suc c.args.at))
    c.in-Some.token B.Distinct _ c.in-Some.ensures.some (sym c.body_lead.ensures ∙ c.in-Distinct.is) c.place_at-place.ensures in
    comes_leads body_of _ _ c.args.input.now (suc c.args.at) l (suc (c.args.at + 1)) (omega arith) c.read_distinct.result
    (distinct_comes c.args.input.now c.args.spaces c.args.at _ c.read_distinct.result c.read_distinct.ensures)

pub returns-in-Alias : goal.returns-in-Alias
returns-in-Alias c =
    let l = body_leads (origin_of c.args.input.now) c.args.spaces (from_at c.args.input.now c.args.at) (from_at c.args.input.now (suc c.args.at))
    c.in-Some.token B.Alias _ c.in-Some.ensures.some (sym c.body_lead.ensures ∙ c.in-Alias.is) c.place_at-place.ensures in
    comes_leads body_of _ _ c.args.input.now (suc c.args.at) l (suc c.args.at) (omega arith) c.read_alias.result c.read_alias.ensures
