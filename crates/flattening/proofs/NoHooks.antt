-- Where nothing is left out, no code is a hook: the first place of a hook has a type with hooks of its own.
use Rattle.std.proofs.Common.{◌≡◌, ℕ, zero, suc, true, false, List, [], ◌∷◌, ◌++◌, Option, Some, None, refl, sym, ap, ◌∙◌, subst}
use Rattle.std.specs.Prelude.{◌&&◌, not, map}
use Rattle.std.proofs.lemmas.Bool.{and_parts}
use Rattle.nim_types.specs.Types.{Ty, Facts, same}
use Rattle.nim_types.specs.Forms.{form_of, has_resource}
use Rattle.nim_types.specs.Table.{type_at as type_by_number}
use Rattle.nim_types.proofs.ForCallers.{same_sound, the_form}
use Rattle.nim_plan.specs.declared.plan.Plan.{Plan}
use Rattle.nim_program.specs.declared.expr.Node.{Node}
use Rattle.nim_program.specs.declared.program.HookOf.{HookOf}
use Rattle.nim_program.specs.declared.program.Mode.{Mode}
use Rattle.nim_program.specs.declared.program.Mode.TheVariants.{Plain, Var}
use Rattle.nim_program.specs.Program.{Declared, Param, Body, Proc, Program}
use Rattle.nim_program.specs.Folds.{if_declared}
use Rattle.nim_program.specs.Kinds as kind
use Rattle.nim_program.specs.Kinds.{TypeKind, kind_of, is_resource, is_there, are_declared, are_among_types}
use Rattle.nim_program.specs.Typed.{param_declared, body_types, dest_of, is_typed_if, same_mode, takes, params_fit, hook_fits, is_typed_proc, are_typed_procs}
use Rattle.nim_program.specs.Typed.{is_typed_start, IsTyped}
use Rattle.nim_meaning.specs.LeftOut.{out_if, left_out_in_head, left_out_in_block, left_out_in_proc, left_out_in_procs, left_out_in_body, first_of, IsBuilt}
use Rattle.nim_meaning.specs.Unbuilt.{is_unbuilt}
use Rattle.flat_code.specs.declared.code.CodeProc.{CodeProc}
use Rattle.flat_code.specs.declared.line.Line.{Line}
use Rattle.flat_code.specs.Codes.{hooks_of, AreNone}
use Rattle.flat_code.specs.Shapes.{Shape, shape_of}
use Rattle.flat_code.proofs.ForCallers.{AreSorted, Matches, shaped, is_simple, simple_of}
use Rattle.flattening.specs.Formed.{IsListed}
use Rattle.flattening.specs.Given.{flat_body, flat_proc, flat_of}
use Rattle.flattening.proofs.DeclaredGlobals.{body_listed}
use Rattle.flattening.proofs.Direct.{built_simple}
use Rattle.flattening.proofs.FitParts.{never}
use Rattle.flattening.proofs.FitPrograms.{none_mapped, listed_form}
use Rattle.flattening.proofs.Parts.{Each}
use Rattle.flattening.proofs.Plain.{kept, neither, none_earlier}

module _ (program : Program) (plan : Plan) (typed : IsTyped program) (sorted : AreSorted program.facts) where
  abbrev types : List Ty
  types = program.types

  abbrev facts : Facts
  facts = program.facts

  resource_owned : {A : Type 0} (k : TypeKind) (s : Shape) → Matches facts k s → is_resource k ≡ true → is_simple s ≡ true → A
  resource_owned (kind.object true ts) s m r simple = never (sym (ap is_simple m) ∙ simple)
  resource_owned k s m r simple = never r

  no_resource : {A : Type 0} (ty : Ty) → IsListed types ty → is_unbuilt facts ty ≡ false → is_resource (kind_of facts ty) ≡ true → A
  no_resource ty listed built r =
      let f = listed_form program plan typed ty listed in
      resource_owned (kind_of facts ty) (shape_of facts ty) (shaped facts sorted f.1).matches r
      (simple_of facts sorted f.1 (sym (ap has_resource (the_form f.1)) ∙ built_simple (form_of facts ty) built))

  first_out : {A : Type 0} (x : Param) (ty : Ty) (mode : Mode) (rest : List Declared) (n : ℕ) → takes ty mode x ≡ true →
      left_out_in_head facts n (x.place ∷ rest) ≡ None → IsListed types x.place.of → is_resource (kind_of facts ty) ≡ true → A
  first_out x ty mode rest n t out listed r =
      let e = same_sound x.place.of ty (and_parts (same x.place.of ty) (same_mode x.mode mode) t).0 in
      let node : Node = record { number = n; at = x.place.at } in
      let q = neither (out_if (is_unbuilt facts x.place.of) node) (left_out_in_head facts n rest) out in
      no_resource x.place.of listed (kept (is_unbuilt facts x.place.of) node q.0) (subst (λ (t : Ty). is_resource (kind_of facts t) ≡ true) (sym e) r)

  -- a hook's first place has its type
  hook_out : {A : Type 0} (kind : ℕ) (ty : Ty) (params : List Param) (rest : List Declared) (n : ℕ) → params_fit kind ty params ≡ true →
      left_out_in_head facts n (map (λ (p : Param). p.place) params ++ rest) ≡ None → Each (λ (d : Declared). IsListed types d.of) (param_declared params) →
      is_resource (kind_of facts ty) ≡ true → A
  hook_out zero ty (x ∷ []) rest n t out listed r = first_out x ty Plain rest n t out listed.0 r
  hook_out (suc zero) ty (x ∷ []) rest n t out listed r = first_out x ty Var rest n t out listed.0 r
  hook_out (suc (suc zero)) ty (x ∷ y ∷ []) rest n t out listed r =
      first_out x ty Var (y.place ∷ rest) n (and_parts (takes ty Var x) (takes ty Plain y) t).0 out listed.0 r
  hook_out (suc (suc (suc zero))) ty (x ∷ y ∷ []) rest n t out listed r =
      first_out x ty Var (y.place ∷ rest) n (and_parts (takes ty Var x) (takes ty Plain y) t).0 out listed.0 r
  hook_out kind ty params rest n t out listed r = never t

  of_proc : (params : List Param) (gives : Option Ty) (hook : Option HookOf) (body : Option Body) → hook_fits program hook params gives body ≡ true →
      is_typed_if program (dest_of hook params) params gives body ≡ true → left_out_in_proc facts params body ≡ None →
      hook ≡ None
  of_proc params gives None body h t out = refl
  of_proc params gives (Some hook) None h t out = never h
  of_proc params gives (Some hook) (Some body) h t out =
      let ty = type_by_number types hook.of in
      let q = and_parts (is_resource (kind_of facts ty)) (not (is_there gives) && params_fit hook.kind ty params) h in
      let k = and_parts (not (is_there gives)) (params_fit hook.kind ty params) q.1 in
      let s = and_parts (are_among_types types (body_types params body) && _) _ t in
      let l = body_listed program plan params body (and_parts (are_among_types types (body_types params body)) _ s.0).0 in
      let o = neither (left_out_in_head facts (first_of body.stmts) (map (λ (p : Param). p.place) params ++ if_declared body.result))
      (left_out_in_block facts body.stmts) out in
      hook_out hook.kind ty params (if_declared body.result) (first_of body.stmts) k.1 o.0 l.taken q.0

  hook_kept : (hook : Option HookOf) (params : List Param) (body : Option Body) → (flat_proc program plan hook params body).hook ≡ hook
  hook_kept hook params None = refl
  hook_kept hook params (Some body) = refl

  procs_none : (procs : List Proc) (more : List (CodeProc Line)) → are_typed_procs program procs ≡ true → left_out_in_procs facts procs ≡ None →
      AreNone (hooks_of (record { procs = more })) →
      AreNone (hooks_of (record { procs = map (λ (p : Proc). flat_proc program plan p.hook p.params p.body) procs ++ more }))
  procs_none [] more t out none = none
  procs_none (p ∷ procs) more t out none =
      let h = and_parts (is_typed_proc program p) (are_typed_procs program procs) t in
      let k = and_parts (hook_fits program p.hook p.params p.gives p.body) (is_typed_if program (dest_of p.hook p.params) p.params p.gives p.body) h.0 in
      let o = none_earlier (left_out_in_proc facts p.params p.body) (left_out_in_procs facts procs) out in
      (hook_kept p.hook p.params p.body ∙ of_proc p.params p.gives p.hook p.body k.0 k.1 o.0, procs_none procs more h.1 o.1 none)

  pub none_hooks : IsBuilt program → AreNone (hooks_of (flat_of program plan))
  none_hooks built =
      let t = and_parts (are_typed_procs program program.procs) (is_typed_start program program.start)
      (and_parts (are_declared facts types) _ typed.typed).1 in
      let p = none_earlier (left_out_in_procs facts program.procs) (left_out_in_body facts [] program.start) (none_mapped _ built) in
      procs_none program.procs (flat_body program plan None [] program.start ∷ []) t.0 p.0 (refl, tt)
