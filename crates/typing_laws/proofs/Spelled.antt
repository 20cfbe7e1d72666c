-- Types that are spelled are sound, where those that have names are.
use Rattle.std.proofs.Common.{◌≡◌, ℕ, Bool, true, false, List, [], ◌∷◌, ◌++◌, codes, refl}
use Rattle.arc_base.specs.declared.place.Place.{Place}
use Rattle.indent_scanner.specs.Words.{normal}
use Rattle.nim_tree.specs.declared.name.Declared.{Declared}
use Rattle.nim_tree.specs.Types.{Written, Arguments, Fields}
use Rattle.nim_types.specs.Types.{Ty}
use Rattle.nim_program.specs.Scopes.{Here}
use Rattle.expr_rules.specs.Env as env_of
use Rattle.expr_rules.specs.Env.{Env, Known, known}
use Rattle.expr_rules.specs.Builtins.{is_built_in}
use Rattle.expr_rules.specs.Demands.{former_of}
use Rattle.expr_rules.specs.Names.{type_rule}
use Rattle.expr_rules.specs.Sizes.{is_sized}
use Rattle.decl_rules.specs.Written.{Formed, Spelled, Sizing, at_once, later, formed_rule, types_in, named_by, Part, Parted}
use Rattle.decl_rules.specs.Written.{parts_as}
use Rattle.decl_rules.specs.Written.{types_of, tuple_of}
use Rattle.decl_rules.specs.TypeRules as R
use Rattle.decl_rules.specs.TypeRules.{IsSpelled, AreSpelled, AreParts}
use Rattle.typing_laws.specs.Sound.{Sound, AllSound, no_more, and_more, of_tuple}
use Rattle.typing_laws.proofs.Sure.{Sure, s_ok, s_err, sure_ok, sure_then, sure_if}
use Rattle.typing_laws.proofs.Induction.{AllSoundIn, formed_sound, array_made}

module _ (here : Here) (sizing : Sizing) (env : Env) (types : (x : List ℕ) (ty : Ty) → known env x ≡ env_of.a_type ty → Sound here.facts ty) where
  abbrev Right : Spelled → Type 0
  Right s = Sound here.facts s.of

  abbrev AllRight : List Spelled → Type 0
  AllRight [] = Unit {0}
  AllRight (s ∷ rest) = Right s × AllRight rest

  all_types : (all : List Spelled) → AllRight all → AllSoundIn here (types_in all)
  all_types [] h = tt
  all_types (s ∷ rest) h = (h.0, all_types rest h.1)

  by_known : (at : Place) (b : Bool) (k : Known) → ((ty : Ty) → k ≡ env_of.a_type ty → Sound here.facts ty) → Sure (Sound here.facts) (type_rule at b k)
  by_known at b (env_of.a_type ty) h = s_ok (h ty refl)
  by_known at true env_of.unknown h = s_err
  by_known at false env_of.unknown h = s_err
  by_known at b (env_of.a_variable place of writable global) h = s_err
  by_known at b (env_of.a_constant of l) h = s_err
  by_known at b env_of.a_pending_type h = s_err
  by_known at b (env_of.procedures all) h = s_err
  by_known at b env_of.the_input h = s_err

  named : (at : Place) (x : List ℕ) (all : List Spelled) → AllRight all → Sure Right (named_by env at x all)
  named at x [] h = sure_then (by_known at (is_built_in (normal x)) (known env x) (types x)) (λ ty s. s_ok s)
  named at x (s ∷ rest) h =
      sure_then (formed_sound here at (former_of env (normal x)) (types_in (s ∷ rest)) (all_types (s ∷ rest) h)) (λ ty s. s_ok s)

  sized : (at : Place) (ty : Ty) (inside : List Formed) → Sound here.facts ty → Sure Right (formed_rule sizing env.facts at ty inside)
  sized at ty inside h = by_sizing sizing
    where
      by_sizing : (s : Sizing) → Sure Right (formed_rule s env.facts at ty inside)
      by_sizing at_once = sure_then {P = λ u. Unit {0}} (sure_if (is_sized env.facts ty) (λ c. s_ok tt) (λ c. s_err)) (λ u c. s_ok h)
      by_sizing (later known) = s_ok h

  more_parts : (names : List Declared) (ty : Ty) (rest : List Part) → Sound here.facts ty → AllSound here.facts (types_of rest)
      → AllSound here.facts (types_of (parts_as names ty ++ rest))
  more_parts [] ty rest s h = h
  more_parts (d ∷ names) ty rest s h = and_more s (more_parts names ty rest s h)

  mutual
    pub spelled_right : {t : Written} {s : Spelled} → IsSpelled sizing env t s → Right s
    spelled_right (R.w_named {at = at} {x = x} {all = all} c h e) = sure_ok (named at x all (all_right h)) e
    spelled_right (R.w_array {at = at} {k = k} {e = element} l h e) =
        sure_ok (sure_then (array_made here at (former_of env (codes "array")) k element.of (spelled_right h)) (λ ty s. sized at ty element.formed s)) e
    spelled_right (R.w_tuple {at = at} {all = all} h e) = sure_ok (sized at (tuple_of all.parts) all.formed (of_tuple (parts_right h))) e

    all_right : {given : Arguments} {all : List Spelled} → AreSpelled sizing env given all → AllRight all
    all_right R.w_none = tt
    all_right (R.w_more h rest) = (spelled_right h, all_right rest)

    pub parts_right : {before : List (List ℕ)} {inside : Fields} {all : Parted} → AreParts sizing env before inside all →
        AllSound here.facts (types_of all.parts)
    parts_right R.w_no_parts = no_more
    parts_right (R.w_parts {all = names} {s = s} {more = more} e h rest) = more_parts names s.of more.parts (spelled_right h) (parts_right rest)
