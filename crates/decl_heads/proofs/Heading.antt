-- The procedure that a head is of.
use Rattle.std.proofs.Common.{◌≡◌, ℕ, ◌+◌, ◌<◌, List, [], ◌∷◌, ◌++◌, length, map}
use Rattle.std.proofs.Common.{take, get_or, refl, sym, ap, ap₂, ◌∙◌, subst, Bool, true, false, Some, None}
use Rattle.std.proofs.lemmas.List.{map-append}
use Rattle.std.specs.Prelude.{Result, Ok, Err, IfOk}
use Rattle.arc_base.specs.declared.place.Stop.{Stop}
use Rattle.nim_types.specs.Types.{Ty}
use Rattle.nim_tree.specs.declared.name.Declared.{Declared}
use Rattle.nim_tree.specs.Statements.{Head}
use Rattle.nim_program.specs.declared.program.Mode.{Mode}
use Rattle.nim_program.specs.declared.program.Param.{Param}
use Rattle.expr_rules.specs.Env.{Parameter}
use Rattle.expr_parts.specs.declared.scope.Parameter.{Parameter as RustParameter}
use Rattle.expr_parts.specs.View.{parameter_of, ParametersWithin}
use Rattle.decl_rules.specs.State.{State}
use Rattle.decl_rules.specs.Heads.{Given, parameters_of, Signature, Headed, headed, has_pragma, is_borrow, procedure_name}
use Rattle.decl_heads.specs.declared.heads.Headed.{Headed as RustHeaded}
use Rattle.decl_heads.specs.ViewHeads.{given_of, GivenWithin}
use Rattle.decl_heads.proofs.Opening.{take_one, within_at}

abbrev passed_as : Given → Parameter
passed_as g = record { mode = g.mode; of = g.of }

params_last : (xs : List Given) (g : Given) → parameters_of (xs ++ g ∷ []) ≡ parameters_of xs ++ passed_as g ∷ []
params_last [] g = refl
params_last (x ∷ xs) g = ap (λ (l : List Parameter). passed_as x ∷ l) (params_last xs g)

-- the first of them, as callers see them
pub record Passed (i : ℕ) (done : List RustParameter) (all : List Param) : Type 0 where
  pub same : (ts : List Ty) → map (parameter_of ts) done ≡ parameters_of (map (given_of ts) (take i all))
  pub within : (n : ℕ) → GivenWithin n all → ParametersWithin n done

pub passed_none : (done : List RustParameter) (all : List Param) → done ≡ [] → Passed 0 done all
passed_none done all e = subst (λ (d : List RustParameter). Passed 0 d all) (sym e) (record { same = λ ts. refl; within = λ n h. tt })

within_last : (n : ℕ) (ps : List RustParameter) (p : RustParameter) → ParametersWithin n ps → p.ty < n → ParametersWithin n (ps ++ p ∷ [])
within_last n [] p h l = (l, tt)
within_last n (x ∷ ps) p h l = (h.0, within_last n ps p h.1 l)

pub passed_more : (i : ℕ) (done more : List RustParameter) (all : List Param) (item : Param) (p : RustParameter) → more ≡ done ++ p ∷ []
    → p.mode ≡ item.mode → p.ty ≡ item.place.ty → item ≡ get_or all i item → i < length all → Passed i done all → Passed (i + 1) more all
passed_more i done more all item p me mode ty is lt l =
    subst (λ (d : List RustParameter). Passed (i + 1) d all) (sym me) (record {
      same = λ ts.
          map-append (parameter_of ts) done (p ∷ [])
          ∙ ap₂ (λ (xs : List Parameter) (y : Parameter). xs ++ y ∷ []) (l.same ts) (one ts)
          ∙ sym (params_last (map (given_of ts) (take i all)) (given_of ts item))
          ∙ ap parameters_of (sym (ap (map (given_of ts)) (take_one all i item is lt) ∙ map-append (given_of ts) (take i all) (item ∷ [])));
      within = λ n h. within_last n done p (l.within n h) (subst (λ k. k < n) (sym ty) (within_at n all i item is lt h));
    })
  where
    one : (ts : List Ty) → parameter_of ts p ≡ passed_as (given_of ts item)
    one ts = ap₂ (λ (m : Mode) (k : ℕ). parameter_of ts (record { mode = m; ty = k })) mode ty

-- ---- what is known at the word `proc`

abbrev pub headed_as : Signature → ℕ → Bool → Bool → Headed
headed_as s number is_new borrowed = record { signature = s; number = number; is_new = is_new; borrowed = borrowed }

pub headed_new : (st : State) (h : Head) (s : Signature) (number : ℕ) (borrowed : Bool) → number ≡ length st.procs
    → has_pragma is_borrow h.pragmas ≡ borrowed
    → headed st h s None ≡ headed_as s number true borrowed
headed_new st h s number borrowed n e = ap₂ (λ (k : ℕ) (b : Bool). headed_as s k true b) (sym n) e

pub headed_old : (st : State) (h : Head) (s : Signature) (number : ℕ) (borrowed : Bool) → has_pragma is_borrow h.pragmas ≡ borrowed
    → headed st h s (Some number) ≡ headed_as s number false borrowed
headed_old st h s number borrowed e = ap (headed_as s number false) e

pub if_named : (d : Declared) (x : List ℕ) (r : Result RustHeaded Stop) → x ≡ procedure_name d → IfOk r (λ k. k.name ≡ x)
    → IfOk r (λ k. k.name ≡ procedure_name d)
if_named d x (Ok k) e h = h ∙ e
if_named d x (Err s) e h = tt
