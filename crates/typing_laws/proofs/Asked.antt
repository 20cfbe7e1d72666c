-- What places of expressions ask for, and what is accepted there.
use Rattle.std.proofs.Common.{◌≡◌, ℕ, Bool, true, false, List, [], ◌∷◌, length, Option, Some, None, refl, sym, subst}
use Rattle.std.specs.Prelude.{nat_eq, if◌then◌else◌, Ok}
use Rattle.std.proofs.lemmas.Bool.{and_parts}
use Rattle.arc_base.specs.Refusal.{and_then}
use Rattle.nim_tree.specs.Terms.{Term, Parts, no_parts, part}
use Rattle.nim_tree.specs.Terms as term
use Rattle.nim_types.specs.Types as type
use Rattle.nim_types.specs.Types.{Ty, Tys, no_types, types}
use Rattle.nim_program.specs.Program as P
use Rattle.nim_program.specs.Program.{Expr, Path, type_of}
use Rattle.nim_program.specs.Scopes.{Here}
use Rattle.nim_program.specs.Program.{is_written}
use Rattle.expr_rules.specs.Env.{Env}
use Rattle.expr_rules.specs.Answers.{Valued, valued, valued_by, Want, nothing, whole, inner, wanted, inner_by, within}
use Rattle.expr_rules.specs.Paths.{path_of, root_of, is_some, has_writable_root, can_be_written}
use Rattle.expr_rules.specs.Demands.{Asks, anything, exactly, selector, parts, fields, elements, want_in, asks_behind, accepts}
use Rattle.expr_rules.specs.Constructions.{tuple_wants, inner_wants, array_want, sequence_want, types_in, part_names, Found}
use Rattle.expr_rules.specs.FieldsGiven.{AreFields, no_part, a_field}
use Rattle.expr_rules.specs.Choices.{Branching, undecided, decided, branch_want, branching_behind}
use Rattle.expr_rules.specs.Typed.{accepted, accepted_by}
use Rattle.expr_rules.specs.Rules.{IsValue, v_value, AreValues, v_none, v_more}
use Rattle.typing_laws.specs.Sound.{Sound, AllSound, no_more, and_more, of_sequence, of_array, of_tuple}
use Rattle.typing_laws.specs.Knows.{IfSound}
use Rattle.typing_laws.proofs.Tests.{never, ok_one, the_same}
use Rattle.typing_laws.proofs.Right.{Right, RightValue}
use Rattle.typing_laws.proofs.Built.{AllOf, AllFielded, OfFields}

-- ---- types that are wanted are sound

module _ (here : Here) where
  abbrev pub WantSound : Want → Type 0
  WantSound want = IfSound here.facts (wanted want)

  abbrev WantsSound : List Want → Type 0
  WantsSound [] = Unit {0}
  WantsSound (w ∷ ws) = WantSound w × WantsSound ws

  abbrev TypesSound : List Ty → Type 0
  TypesSound [] = Unit {0}
  TypesSound (t ∷ ts) = Sound here.facts t × TypesSound ts

  abbrev pub AsksSound : Asks → Type 0
  AsksSound anything = Unit {0}
  AsksSound (exactly ty) = Sound here.facts ty
  AsksSound selector = Unit {0}
  AsksSound (parts wants) = WantsSound wants
  AsksSound (fields all) = TypesSound all
  AsksSound (elements want ty) = WantSound want × IfSound here.facts ty

  inner_sound : (ty : Option Ty) → IfSound here.facts ty → WantSound (inner_by ty)
  inner_sound None h = tt
  inner_sound (Some ty) h = h

  pub within_sound : (want : Want) → WantSound want → WantSound (within want)
  within_sound want h = inner_sound (wanted want) h

  pub wanted_in : (g : Asks) → AsksSound g → WantSound (want_in g)
  wanted_in anything h = tt
  wanted_in (exactly ty) h = h
  wanted_in selector h = tt
  wanted_in (parts []) h = tt
  wanted_in (parts (w ∷ ws)) h = h.0
  wanted_in (fields []) h = tt
  wanted_in (fields (t ∷ ts)) h = h.0
  wanted_in (elements want None) h = h.0
  wanted_in (elements nothing (Some ty)) h = h.1
  wanted_in (elements (whole t) (Some ty)) h = h.0
  wanted_in (elements (inner t) (Some ty)) h = h.0

  pub asked_behind : (g : Asks) (t : Ty) → AsksSound g → Sound here.facts t → AsksSound (asks_behind g t)
  asked_behind anything t h s = tt
  asked_behind (exactly ty) t h s = h
  asked_behind selector t h s = tt
  asked_behind (parts []) t h s = tt
  asked_behind (parts (w ∷ ws)) t h s = h.1
  asked_behind (fields []) t h s = tt
  asked_behind (fields (u ∷ us)) t h s = h.1
  asked_behind (elements want None) t h s = (h.0, s)
  asked_behind (elements want (Some ty)) t h s = h

  inner_all : (ts : Tys) → AllSound here.facts ts → WantsSound (inner_wants ts)
  inner_all no_types no_more = tt
  inner_all (types t ts) (and_more s more) = (s, inner_all ts more)

  parts_of : {names : List (List ℕ)} {ts : Tys} → Sound here.facts (type.tuple names ts) → AllSound here.facts ts
  parts_of (of_tuple h) = h

  pub tuple_asks : (ty : Option Ty) (count : ℕ) → IfSound here.facts ty → WantsSound (tuple_wants ty count)
  tuple_asks (Some (type.tuple names ts)) count h = by_test (nat_eq (length (inner_wants ts)) count)
    where
      by_test : (b : Bool) → WantsSound (if b then inner_wants ts else [])
      by_test true = inner_all ts (parts_of h)
      by_test false = tt
  tuple_asks ty count h = tt

  element_of : {n : ℕ} {t : Ty} → Sound here.facts (type.array n t) → Sound here.facts t
  element_of (of_array l h) = h

  element_in : {t : Ty} → Sound here.facts (type.sequence t) → Sound here.facts t
  element_in (of_sequence h) = h

  pub array_asks : (ty : Option Ty) → IfSound here.facts ty → WantSound (array_want ty)
  array_asks (Some (type.array n t)) h = element_of h
  array_asks ty h = tt

  pub sequence_asks : (ty : Option Ty) → IfSound here.facts ty → WantSound (sequence_want ty)
  sequence_asks (Some (type.sequence t)) h = element_in h
  sequence_asks ty h = tt

  pub fields_sound : (ty : Ty) (all : List Found) → AllFielded here ty all → TypesSound (types_in all)
  fields_sound ty [] h = tt
  fields_sound ty (f ∷ fs) h = (h.0.1, fields_sound ty fs h.1)

  -- ---- branches

  abbrev pub BranchSound : Branching → Type 0
  BranchSound (undecided want) = WantSound want
  BranchSound (decided want ty) = WantSound want × IfSound here.facts ty

  pub branch_sound : (b : Branching) → BranchSound b → WantSound (branch_want b)
  branch_sound (undecided want) h = h
  branch_sound (decided nothing ty) h = inner_sound ty h.1
  branch_sound (decided (whole t) ty) h = h.0
  branch_sound (decided (inner t) ty) h = h.0

  pub branch_behind : (b : Branching) (ty : Option Ty) → BranchSound b → IfSound here.facts ty → BranchSound (branching_behind b ty)
  branch_behind (undecided want) ty h s = (h, s)
  branch_behind (decided want t) ty h s = h

-- ---- what is accepted

written_root : (path : Path) → is_some (root_of path) ≡ true → is_written path ≡ true
written_root (P.Variable node ty place global) h = refl
written_root (P.Fresh value) h = never h
written_root (P.Field node ty base field) h = written_root base h
written_root (P.Element node ty base index constant) h = written_root base h
written_root (P.Deref ty base) h = refl

pub can_write : (env : Env) (t : Term) (e : Expr) → can_be_written env t e ≡ true → is_written (path_of e) ≡ true
can_write env t e h = written_root (path_of e) (and_parts (is_some (root_of (path_of e))) (has_writable_root env t) h).0

pub record IsAccepted (g : Asks) (writable : Bool) (e : Expr) (v : Valued) : Type 0 where
  pub of : Ty
  pub gives : type_of e ≡ Some of
  pub is : record (valued e of) { writable = writable } ≡ v
  pub accepts : accepts g of ≡ true

pub is_accepted : (g : Asks) (writable : Bool) (e : Expr) (v : Valued) → accepted g writable e ≡ Ok v → IsAccepted g writable e v
is_accepted g writable e v h = by_type (type_of e) refl h
  where
    by_test : (ty : Ty) (b : Bool) → type_of e ≡ Some ty → accepts g ty ≡ b → accepted_by b (record (valued e ty) { writable = writable }) ≡ Ok v
        → IsAccepted g writable e v
    by_test ty true f a h = record { of = ty; gives = f; is = ok_one h; accepts = a }
    by_test ty false f a h = cc

    by_type : (o : Option Ty) → type_of e ≡ o
        → and_then (valued_by e o) (λ w. accepted_by (accepts g w.of) (record w { writable = writable })) ≡ Ok v → IsAccepted g writable e v
    by_type None f h = cc
    by_type (Some ty) f h = by_test ty (accepts g ty) f refl h

pub accepted_right : (here : Here) (env : Env) (g : Asks) (t : Term) (e : Expr) (v : Valued) → Right here e
    → accepted g (can_be_written env t e) e ≡ Ok v → RightValue here v
accepted_right here env g t e v h a =
    let is = is_accepted g (can_be_written env t e) e v a in
    subst (RightValue here) is.is
    (record { typed = h.typed; sound = subst (IfSound here.facts) is.gives h.sound; gives = is.gives; written = λ w. can_write env t e w })

pub value_accepts : {env : Env} {g : Asks} {n m : ℕ} {t : Term} {v : Valued} → IsValue env g n t v m → accepts g v.of ≡ true
value_accepts {env} {g} {t = t} {v = v} (v_value {e = e} h a) =
    let is = is_accepted g (can_be_written env t e) e v a in subst (λ w. accepts g w.of ≡ true) is.is is.accepts

-- ---- values one after another

pub all_of : (here : Here) {env : Env} {want : Want} {t : Ty} {n m : ℕ} {inside : Parts} {vs : List Valued}
    → AreValues env (elements want (Some t)) n inside vs m → AllOf here t vs
all_of here v_none = tt
all_of here (v_more h rest) = (sym (the_same (value_accepts h)), all_of here rest)

-- all of the type of the first
pub all_alike : (here : Here) {env : Env} {want : Want} {n m : ℕ} {inside : Parts} {vs : List Valued} → AreValues env (elements want None) n inside vs m
    → (t : Ty) × AllOf here t vs
all_alike here v_none = (type.int, tt)
all_alike here (v_more {v = v} h rest) = (v.of, (refl, all_of here rest))

names_behind : (a : Term) (tail : Parts) (x : List ℕ) (rest : List (List ℕ)) → part_names (part a tail) ≡ x ∷ rest → part_names tail ≡ rest
names_behind (term.named at y a) tail x rest e = tail_of e
  where
    tail_of : {x y : List ℕ} {xs ys : List (List ℕ)} → x ∷ xs ≡ y ∷ ys → xs ≡ ys
    tail_of e = cc
names_behind a tail x rest e = cc

pub of_fields : (here : Here) {env : Env} {ty : Ty} {n m : ℕ} (inside : Parts) {xs : List (List ℕ)} {all : List Found} {vs : List Valued}
    → part_names inside ≡ xs
    → AreFields env ty xs all → AreValues env (fields (types_in all)) n inside vs m → OfFields here all vs
of_fields here no_parts e no_part v_none = tt
of_fields here (part a rest) e no_part (v_more h more) = never (value_accepts h)
of_fields here no_parts e (a_field f fs other) v_none = cc
of_fields here (part a rest) e (a_field {x = x} {rest = names} f fs other) (v_more h more) =
    (sym (the_same (value_accepts h)), of_fields here rest (names_behind a rest x names e) fs more)
