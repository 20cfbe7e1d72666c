-- Productions of types that are written in a section, by what is added for them.
use Rattle.std.proofs.Common.{◌≡◌, ℕ, List, [], ◌∷◌, ◌++◌, Vec, Global, refl, sym, ap, ap₂, subst, ◌∙◌, append-nil}
use Rattle.std.specs.Prelude.{ℤ, map, codes, Result, Ok, Err}
use Rattle.arc_base.specs.declared.place.Place.{Place}
use Rattle.arc_base.specs.declared.place.Stop.{Stop}
use Rattle.arc_base.specs.declared.place.Stop.TheVariants as stop
use Rattle.arc_base.specs.Refusal.{Refusal, and_then, Answers}
use Rattle.nim_tree.specs.Types as written
use Rattle.nim_tree.specs.Types.{Written, Arguments, Fields}
use Rattle.nim_types.specs.Types as type
use Rattle.nim_types.specs.Types.{Ty, Tys}
use Rattle.nim_types.specs.Table.{type_at, types_at}
use Rattle.expr_rules.specs.Answers.{Answer}
use Rattle.expr_rules.specs.Env.{Env}
use Rattle.expr_rules.specs.Names.{array_by}
use Rattle.expr_rules.specs.Demands.{former_of}
use Rattle.expr_parts.proofs.ForCallers.{stops}
use Rattle.decl_rules.specs.Written.{Spelled, spelled_as, Formed, later, spelled, all_spelled, named_by, array_rule, Part, Parted, parts_spelled}
use Rattle.decl_rules.specs.Written.{formed_rule, tuple_of, types_of, names_of, types_in, formed_in}
use Rattle.decl_written.specs.declared.parts.Parts.{Parts}
use Rattle.decl_sections.specs.ViewSpelled.{one_in, Given, given_as, given_in, all_given, named_with, PartsMeant, parts_meant, meant_parts, parts_in}
use Rattle.decl_sections.specs.ViewSpelled.{all_parted}
use Rattle.decl_sections.proofs.Noding.{Follows}
use Rattle.decl_sections.proofs.Listing.{front_given, front_parts}

-- the same answer, which is none
pub passes : {A S T : Type 0} (of : T → A) (part : S → A) (said : Result A Refusal) (s : Stop) → Answers part said (Err s) → Answers of said (Err s)
passes of part said (stop.Refused code at) h = h
passes of part said stop.Memory h = tt

-- ---- names

abbrev pub named_whole : Env → Place → List ℕ → Given → Answer Spelled
named_whole env at x a = and_then (named_with env at x a.of) (λ ty. Ok (spelled_as ty a.formed))

by_types : (env : Env) (at : Place) (x : List ℕ) (all : List Spelled)
    → named_by env at x all ≡ named_whole env at x (given_as (types_in all) (formed_in all))
by_types env at x [] = refl
by_types env at x (s ∷ rest) = refl

pub named_stops : (env : Env) (at : Place) (x : List ℕ) (said : Answer (List Spelled))
    → and_then said (named_by env at x) ≡ and_then (all_given said) (named_whole env at x)
named_stops env at x (Ok all) = by_types env at x all
named_stops env at x (Err r) = refl

pub named_follows : (at : Place) (x : List ℕ) (given : Arguments) (v : Vec ℕ Global) (is : List ℕ) → is ≡ v.items
    → Follows given_in (λ sizing env. all_given (all_spelled sizing env given)) v (λ env done. named_with env at x (map (type_at done) is)) (λ _. [])
    (λ sizing env. and_then (all_spelled sizing env given) (named_by env at x))
named_follows at x given v is e = λ known env done fs h.
    named_stops env at x (all_spelled (later known) env given) ∙ ap (λ z. and_then z (named_whole env at x)) h
    ∙ ap₂ (λ js gs. and_then (named_with env at x (map (type_at done) js)) (λ ty. Ok (spelled_as ty gs))) (sym e) (sym (append-nil fs))

-- ---- arrays

array_follows : (at : Place) (k : ℤ) (element : Written) (i : ℕ)
    → Follows one_in (λ sizing env. spelled sizing env element) i (λ env done. array_by at (former_of env (codes "array")) k (type_at done i))
    (λ ty. record { at = at; of = ty } ∷ []) (λ sizing env. and_then (spelled sizing env element) (array_rule sizing env at k))
array_follows at k element i = λ known env done fs h. ap (λ z. and_then z (array_rule (later known) env at k)) h

-- whose length goes through a call
pub array_again : (at : Place) (k again : ℤ) (element : Written) (i : ℕ) → again ≡ k
    → Follows one_in (λ sizing env. spelled sizing env element) i (λ env done. array_by at (former_of env (codes "array")) again (type_at done i))
    (λ ty. record { at = at; of = ty } ∷ []) (λ sizing env. and_then (spelled sizing env element) (array_rule sizing env at k))
array_again at k again element i e =
    subst (λ (z : ℤ). Follows one_in (λ sizing env. spelled sizing env element) i (λ env done. array_by at (former_of env (codes "array")) z
    (type_at done i))
    (λ ty. record { at = at; of = ty } ∷ []) (λ sizing env. and_then (spelled sizing env element) (array_rule sizing env at k))) (sym e)
    (array_follows at k element i)

-- ---- tuples

abbrev pub listed : List Ty → Tys
listed [] = type.no_types
listed (t ∷ ts) = type.types t (listed ts)

listed_parts : (all : List Part) → types_of all ≡ listed (map (λ p. p.of) all)
listed_parts [] = refl
listed_parts (p ∷ all) = ap (type.types p.of) (listed_parts all)

listed_at : (done : List Ty) (is : List ℕ) → listed (map (type_at done) is) ≡ types_at done is
listed_at done [] = refl
listed_at done (i ∷ is) = ap (type.types (type_at done i)) (listed_at done is)

abbrev pub with_tuple : Place → Ty → List Formed → Answer Spelled
with_tuple at ty fs = Ok (spelled_as ty (fs ++ record { at = at; of = ty } ∷ []))

abbrev pub tuple_whole : Place → PartsMeant → Answer Spelled
tuple_whole at a = with_tuple at (type.tuple a.names (listed a.of)) a.formed

pub tuple_stops : (known env : Env) (at : Place) (said : Answer Parted)
    → and_then said (λ all. formed_rule (later known) env.facts at (tuple_of all.parts) all.formed) ≡ and_then (all_parted said) (tuple_whole at)
tuple_stops known env at (Ok all) = ap (λ ts. with_tuple at (type.tuple (names_of all.parts) ts) all.formed) (listed_parts all.parts)
tuple_stops known env at (Err r) = refl

pub tuple_follows : (at : Place) (inside : Fields) (parts : Parts)
    → Follows parts_in (λ sizing env. all_parted (parts_spelled sizing env [] inside)) parts
    (λ _ done. Ok (type.tuple parts.names (types_at done parts.types)))
    (λ ty. record { at = at; of = ty } ∷ []) (λ sizing env. spelled sizing env (written.tuple_of at inside))
tuple_follows at inside parts = λ known env done fs h.
    tuple_stops known env at (parts_spelled (later known) env [] inside) ∙ ap (λ z. and_then z (tuple_whole at)) h
    ∙ ap (λ ts. with_tuple at (type.tuple parts.names ts) fs) (listed_at done parts.types)

-- ---- what stops in a list

pub given_stops : (to : Vec ℕ Global → Given) (a : Given) (said : Answer Spelled) (go : Spelled → Answer (List Spelled)) (part : ℕ → Spelled)
    (s : Stop)
    → Answers part said (Err s) → Answers to (front_given a (all_given (and_then said go))) (Err s)
given_stops to a said go part s h =
    stops to (λ (b : Given). b) (all_given (and_then said go)) (λ b. Ok (given_as (a.of ++ b.of) (a.formed ++ b.formed))) s
    (stops (λ (b : Given). b) (λ (all : List Spelled). all) (and_then said go) (λ all. Ok (given_as (types_in all) (formed_in all))) s
    (stops (λ (all : List Spelled). all) part said go s h))

pub parts_stops : (to : Parts → PartsMeant) (a : PartsMeant) (said : Answer Parted) (s : Stop) → Answers (λ (all : Parted). all) said (Err s)
    → Answers to (front_parts a (all_parted said)) (Err s)
parts_stops to a said s h =
    stops to (λ (b : PartsMeant). b) (all_parted said) (λ b. Ok (parts_meant (a.names ++ b.names) (a.of ++ b.of) (a.formed ++ b.formed))) s
    (stops (λ (b : PartsMeant). b) (λ (all : Parted). all) said (λ all. Ok (meant_parts all)) s h)
