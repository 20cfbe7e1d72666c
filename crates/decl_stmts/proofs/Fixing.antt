-- Constants that are declared.
use Rattle.std.proofs.Common.{◌≡◌, ℕ, ◌<◌, List, ◌++◌, length, refl, ap, sym, ◌∙◌, subst, arith, length-append}
use Rattle.std.specs.Prelude.{map, Result, Ok, Err, OnOk, IfErr}
use Rattle.arc_base.specs.declared.place.Stop.{Stop}
use Rattle.arc_base.specs.declared.place.Stop.TheVariants as stop
use Rattle.nim_tree.specs.declared.name.Declared.{Declared}
use Rattle.nim_types.specs.Types.{Ty}
use Rattle.nim_types.specs.Table.{type_at}
use Rattle.nim_program.specs.View.{literal_of}
use Rattle.expr_rules.specs.Env.{Entry}
use Rattle.expr_parts.specs.declared.scope.Decl.{Decl}
use Rattle.expr_parts.specs.declared.scope.Scope.{Scope}
use Rattle.expr_parts.specs.View.{entry_of, DeclsWithin}
use Rattle.decl_rules.specs.State.{declaring, with_entries}
use Rattle.decl_rules.specs.Definitions.{constant_entries}
use Rattle.decl_parts.specs.declared.state.State.{State as RustState}
use Rattle.decl_parts.specs.View.{state_of, Ready, Stating}
use Rattle.decl_parts.proofs.ForCallers.{scope_by, further_to, further_same, stated_forgets}
use Rattle.decl_stmts.specs.declared.constants.Fixed.{Fixed as RustFixed}
use Rattle.decl_stmts.specs.ViewDefinitions.{fixed_of}

constants_made : (old new : RustState) (f : RustFixed) (names : List Declared) (more : List Decl) → Ready old → f.ty < length old.types
    → ((ts : List Ty) → map (entry_of ts) new.scope.decls ≡ map (entry_of ts) old.scope.decls ++ constant_entries (type_at ts f.ty)
    (literal_of f.literal) names)
    → new.scope.decls ≡ old.scope.decls ++ more
    → ((n : ℕ) → f.ty < n → DeclsWithin n old.scope.decls → DeclsWithin n new.scope.decls)
    → new.scope.kinds ≡ old.scope.kinds → new.scope.home ≡ old.scope.home → new ≡ record old { scope = new.scope }
    → Stating old new (λ ts b (_ : Unit {0}). state_of ts b new)
    (λ ts b. Ok (declaring (state_of ts b old) (constant_entries (fixed_of ts f).of (fixed_of ts f).literal names))) (Ok tt)
constants_made old new f names more h lt v d w k o e =
    let scope : new.scope ≡ record old.scope { decls = new.scope.decls } = scope_by old.scope new.scope refl k o in
    let all : new ≡ record old { scope = record old.scope { decls = new.scope.decls } } = e ∙ ap (λ (z : Scope). record old { scope = z }) scope in
    record {
      further = further_to (ap (λ (z : RustState). z.types) e) (further_same old);
      stands = record {
        ready = subst Ready (sym all) (record {
          all = record { formed = h.all.formed; kinds = h.all.kinds; decls = w (length old.types) lt h.all.decls };
          outside = let l = h.outside in let m = ap (λ (z : List Decl). length z) d in omega (arith, l, m, length-append old.scope.decls more);
        });
        begins = (more, d);
        outside = ap (λ (z : RustState). z.outside) e;
      };
      answers = λ ts b u.
          let st = state_of ts b old in
          ap (λ (es : List Entry). Ok (with_entries st es)) (sym (v ts)) ∙ ap (λ (z : RustState). Ok (state_of ts b z)) (sym all);
    }

pub constants_so : (old new : RustState) (f : RustFixed) (names : List Declared) (r : Result (Unit {0}) Stop) → Ready old → f.ty < length old.types
    → OnOk r ((ts : List Ty) → map (entry_of ts) new.scope.decls
    ≡ map (entry_of ts) old.scope.decls ++ constant_entries (type_at ts f.ty) (literal_of f.literal) names)
    → OnOk r ((more : List Decl) × (new.scope.decls ≡ old.scope.decls ++ more))
    → OnOk r ((n : ℕ) → f.ty < n → DeclsWithin n old.scope.decls → DeclsWithin n new.scope.decls)
    → new.scope.kinds ≡ old.scope.kinds → new.scope.home ≡ old.scope.home → new ≡ record old { scope = new.scope } → IfErr r
    (λ s. s ≡ stop.Memory)
    → Stating old new (λ ts b (_ : Unit {0}). state_of ts b new)
    (λ ts b. Ok (declaring (state_of ts b old) (constant_entries (fixed_of ts f).of (fixed_of ts f).literal names))) r
constants_so old new f names (Ok x) h lt v d w k o e m = constants_made old new f names d.0 h lt v d.1 w k o e
constants_so old new f names (Err s) h lt v d w k o e m =
    stated_forgets (λ ts b (_ : Unit {0}). state_of ts b new)
    (λ ts b. Ok (declaring (state_of ts b old) (constant_entries (fixed_of ts f).of (fixed_of ts f).literal names))) s
    (further_to (ap (λ (z : RustState). z.types) e) (further_same old)) m
