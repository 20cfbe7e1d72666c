-- The arguments of a call, one behind another.
use Rattle.std.proofs.Common.{◌≡◌, List, [], ◌∷◌, ◌++◌, refl, sym, ap, ap₂, ◌∙◌, subst, Some, None, append-nil, append_assoc, length, arith}
use Rattle.std.specs.Prelude.{map, Option, Ok, Err}
use Rattle.std.proofs.lemmas.Option.{none-some, same_Some}
use Rattle.arc_base.specs.declared.place.Stop.{Stop}
use Rattle.arc_base.specs.Refusal.{and_then, Answers}
use Rattle.nim_types.specs.Types.{Ty}
use Rattle.nim_program.specs.declared.expr.Operand.{Operand as RustArgument}
use Rattle.nim_program.specs.declared.expr.Operand.TheVariants as argument
use Rattle.nim_program.specs.Program.{Args, NoArg}
use Rattle.nim_program.specs.View.{operands_of, operand_before, path_of as path_in}
use Rattle.expr_parts.specs.declared.scope.Parameter.{Parameter as RustParameter}
use Rattle.expr_parts.specs.declared.value.Operand.{Operand as RustOperand}
use Rattle.expr_rules.specs.Answers.{Answer, Valued, settled}
use Rattle.expr_rules.specs.Env.{Parameter}
use Rattle.expr_rules.specs.Calls.{Argument, argument_before, argument_by, arguments_by, arguments_for, onto, paths_with}
use Rattle.expr_parts.specs.View.{argument_of, operand_of, parameter_of, paths_of, paths_in}
use Rattle.arc_base.proofs.ForCallers.{stops}
use Rattle.expr_parts.proofs.Choosing.{map_last}

-- arguments before others
abbrev pub args_front : List Argument → Args → Args
args_front [] rest = rest
args_front (a ∷ all) rest = argument_before a (args_front all rest)

abbrev pub args_behind : List Argument → Answer Args → Answer Args
args_behind all rest = and_then rest (λ r. Ok (args_front all r))

-- the parameters and operands behind those that are arguments already: with what is said of them, all is said
pub record ArgumentsLeft (ts : List Ty) (params : List RustParameter) (operands : List RustOperand) (done : List RustArgument)
    (said : Answer Args) : Type 0 where
  pub rest : List (Parameter × Valued)
  pub fits : arguments_for (map (parameter_of ts) params) (map (operand_of ts) operands) ≡ Some rest
  pub all : said ≡ args_behind (map (argument_of ts) done) (arguments_by (map (path_in ts) (paths_in done)) rest)

-- ---- operands that fit

pub record Onto (p : Parameter) (a : Option Valued) (b : Option (List (Parameter × Valued))) (given : List (Parameter × Valued)) : Type 0 where
  pub first : Valued
  pub more : List (Parameter × Valued)
  pub is : a ≡ Some first
  pub are : b ≡ Some more
  pub all : (p, first) ∷ more ≡ given

onto_some : (p : Parameter) (a : Option Valued) (b : Option (List (Parameter × Valued))) (given : List (Parameter × Valued)) → onto p a b ≡ Some given
    → Onto p a b given
onto_some p (Some v) (Some more) given h = record { first = v; more = more; is = refl; are = refl; all = same_Some ((p, v) ∷ more) given h }
onto_some p (Some v) None given h = absurd (none-some given h)
onto_some p None (Some more) given h = absurd (none-some given h)
onto_some p None None given h = absurd (none-some given h)

-- ---- paths of arguments

paths_last : (done : List RustArgument) (a : RustArgument) → paths_in (done ++ a ∷ []) ≡ paths_in done ++ paths_of a
paths_last [] a = append-nil (paths_of a)
paths_last (x ∷ done) a = ap (λ z. paths_of x ++ z) (paths_last done a) ∙ sym (append_assoc (paths_of x) (paths_in done) (paths_of a))

paths_next : (ts : List Ty) (done : List RustArgument) (a : RustArgument)
    → map (path_in ts) (paths_in (done ++ a ∷ [])) ≡ paths_with (map (path_in ts) (paths_in done)) (argument_of ts a)
paths_next ts done (argument.Value e) = ap (map (path_in ts)) (paths_last done (argument.Value e) ∙ append-nil (paths_in done))
paths_next ts done (argument.At p) = ap (map (path_in ts)) (paths_last done (argument.At p)) ∙ map_last (path_in ts) (paths_in done) p

-- ---- arguments before others

front_last : (all : List Argument) (a : Argument) (r : Args) → args_front all (argument_before a r) ≡ args_front (all ++ a ∷ []) r
front_last [] a r = refl
front_last (b ∷ all) a r = ap (argument_before b) (front_last all a r)

behind_last : (all : List Argument) (a : Argument) (rest : Answer Args)
    → args_behind all (and_then rest (λ more. Ok (argument_before a more))) ≡ args_behind (all ++ a ∷ []) rest
behind_last all a (Ok r) = ap Ok (front_last all a r)
behind_last all a (Err e) = refl

one_is : (ts : List Ty) (a : RustArgument) (r : Args) → argument_before (argument_of ts a) r ≡ operand_before ts a r
one_is ts (argument.Value e) r = refl
one_is ts (argument.At p) r = refl

all_are : (ts : List Ty) (done : List RustArgument) → args_front (map (argument_of ts) done) NoArg ≡ operands_of ts done
all_are ts [] = refl
all_are ts (a ∷ done) = ap (argument_before (argument_of ts a)) (all_are ts done) ∙ one_is ts a (operands_of ts done)

-- ---- steps

-- what is left of a first parameter and operand
pub opened : (ts : List Ty) (p : RustParameter) (ps : List RustParameter) (o : RustOperand) (os : List RustOperand) (given : List (Parameter × Valued))
    → arguments_for (map (parameter_of ts) (p ∷ ps)) (map (operand_of ts) (o ∷ os)) ≡ Some given
    → Onto (parameter_of ts p) (settled (parameter_of ts p).of (operand_of ts o)) (arguments_for (map (parameter_of ts) ps) (map (operand_of ts) os)) given
opened ts p ps o os given h =
    onto_some (parameter_of ts p) (settled (parameter_of ts p).of (operand_of ts o)) (arguments_for (map (parameter_of ts) ps) (map (operand_of ts) os)) given h

-- one argument more
pub one_argument : (ts : List Ty) (p : RustParameter) (ps : List RustParameter) (o : RustOperand) (os : List RustOperand) (done : List RustArgument)
    (said : Answer Args) (a : RustArgument) (l : ArgumentsLeft ts (p ∷ ps) (o ∷ os) done said)
    → ((v : Valued) → settled (parameter_of ts p).of (operand_of ts o) ≡ Some v
    → argument_by (map (path_in ts) (paths_in done)) p.mode v ≡ Ok (argument_of ts a))
    → ArgumentsLeft ts ps os (done ++ a ∷ []) said
one_argument ts p ps o os done said a l h =
    let f = opened ts p ps o os l.rest l.fits in
    let before = map (path_in ts) (paths_in done) in
    let all = map (argument_of ts) done in
    record {
      rest = f.more;
      fits = f.are;
      all = l.all ∙ ap (λ z. args_behind all (arguments_by before z)) (sym f.all)
          ∙ ap
          (λ z. args_behind all (and_then z (λ first. and_then (arguments_by (paths_with before first) f.more) (λ more. Ok (argument_before first more)))))
          (h f.first f.is)
          ∙ behind_last all (argument_of ts a) (arguments_by (paths_with before (argument_of ts a)) f.more)
          ∙ ap₂ (λ x y. args_behind x (arguments_by y f.more)) (sym (map_last (argument_of ts) done a)) (sym (paths_next ts done a));
    }

-- an argument that is refused
pub no_argument : {T : Type 0} (of : T → Args) (ts : List Ty) (p : RustParameter) (ps : List RustParameter) (o : RustOperand) (os : List RustOperand)
    (done : List RustArgument) (said : Answer Args) (s : Stop) (l : ArgumentsLeft ts (p ∷ ps) (o ∷ os) done said)
    → ((v : Valued) → settled (parameter_of ts p).of (operand_of ts o) ≡ Some v
    → Answers (argument_of ts) (argument_by (map (path_in ts) (paths_in done)) p.mode v) (Err s))
    → Answers of said (Err s)
no_argument of ts p ps o os done said s l h =
    let f = opened ts p ps o os l.rest l.fits in
    let before = map (path_in ts) (paths_in done) in
    let all = map (argument_of ts) done in
    let go = λ (first : Argument). and_then (arguments_by (paths_with before first) f.more) (λ more. Ok (argument_before first more)) in
    subst (λ z. Answers of z (Err s)) (sym (l.all ∙ ap (λ z. args_behind all (arguments_by before z)) (sym f.all)))
    (stops of (λ (r : Args). r) (and_then (argument_by before p.mode f.first) go) (λ r. Ok (args_front all r)) s
    (stops (λ (r : Args). r) (argument_of ts) (argument_by before p.mode f.first) go s (h f.first f.is)))

-- all arguments
pub no_more : (ts : List Ty) (ps : List RustParameter) (done : List RustArgument) (said : Answer Args) → ArgumentsLeft ts ps [] done said
    → said ≡ Ok (operands_of ts done)
no_more ts [] done said l =
    l.all ∙ ap (λ z. args_behind (map (argument_of ts) done) (arguments_by (map (path_in ts) (paths_in done)) z)) (sym (same_Some [] l.rest l.fits))
    ∙ ap Ok (all_are ts done)
no_more ts (p ∷ ps) done said l = absurd (none-some l.rest l.fits)

same_behind : (r : Answer Args) → r ≡ args_behind [] r
same_behind (Ok r) = refl
same_behind (Err e) = refl

-- before the first
pub none_yet : (ts : List Ty) (ps : List RustParameter) (os : List RustOperand) (given : List (Parameter × Valued))
    → arguments_for (map (parameter_of ts) ps) (map (operand_of ts) os) ≡ Some given → ArgumentsLeft ts ps os [] (arguments_by [] given)
none_yet ts ps os given h = record { rest = given; fits = h; all = same_behind (arguments_by [] given) }

pub nothing_left : {X : Type 0} (xs : List X) → length xs ≡ 0 → xs ≡ []
nothing_left [] h = refl
nothing_left (x ∷ xs) h = absurd (omega (arith, h))
