-- The command that is found is the one that the words are.
use Rattle.std.proofs.Common.{◌≡◌, ℕ, ◌≤◌, Bool, true, false, cond, List, [], ◌∷◌, length, Option, Some, None, refl, sym, ap, ◌∙◌}
use Rattle.std.proofs.Common.{subst, inl, inr, ◌⊎◌, arith, codes, bytes_eq, option_and_then, option_map, IfSome, IfNone}
use Rattle.std.proofs.lemmas.Option.{same_Some, option_and_then_some}
use Rattle.std.proofs.lemmas.Slice.Eq.{bytes_eq-Decides}
use Rattle.command_words.specs.Command.{Command, Arguments, AreArguments, IsCommand, is_check, is_build, is_run, is_mean, is_exec}
use Rattle.command_words.specs.Command.{IsNoCommand, command_of, IsInRange}
use Rattle.command_words.specs.Walk.{arguments, as_check_at, as_check, as_build_at, as_build, as_run_at, as_run, as_mean_at, as_mean, as_exec_at, as_exec}
use Rattle.command_words.specs.Walk.{chosen, command_at}
use Rattle.command_words.specs.declared.command.Command.{Command as RustCommand}
use Rattle.command_words.proofs.Ranges.{in_range}
use Rattle.command_words.proofs.Reading.{arguments_are, arguments_read}

-- the words behind a name give these arguments, which are the command's
abbrev Are : List (List ℕ) → List (List ℕ) → Option ℕ → Option ℕ → Type 0
Are words places heap steps = AreArguments words (record { places = places; heap = heap; steps = steps })

check_is_so : (words places : List (List ℕ)) (heap steps : Option ℕ) (command : Command) → Are words places heap steps →
    as_check_at places heap steps ≡ Some command → IsCommand (codes "check" ∷ words) command
check_is_so words (main ∷ []) None None command h e = subst (IsCommand (codes "check" ∷ words)) (same_Some _ _ e) (is_check refl h)
check_is_so words [] heap steps command h e = absurd (let clash : None ≡ Some command = e in cc)
check_is_so words (main ∷ out ∷ places) heap steps command h e = absurd (let clash : None ≡ Some command = e in cc)
check_is_so words (main ∷ []) (Some n) steps command h e = absurd (let clash : None ≡ Some command = e in cc)
check_is_so words (main ∷ []) None (Some n) command h e = absurd (let clash : None ≡ Some command = e in cc)

build_is_so : (words places : List (List ℕ)) (heap steps : Option ℕ) (command : Command) → Are words places heap steps →
    as_build_at places heap steps ≡ Some command → IsCommand (codes "build" ∷ words) command
build_is_so words (main ∷ out ∷ []) heap None command h e = subst (IsCommand (codes "build" ∷ words)) (same_Some _ _ e) (is_build heap refl h)
build_is_so words [] heap steps command h e = absurd (let clash : None ≡ Some command = e in cc)
build_is_so words (main ∷ []) heap steps command h e = absurd (let clash : None ≡ Some command = e in cc)
build_is_so words (main ∷ out ∷ other ∷ places) heap steps command h e = absurd (let clash : None ≡ Some command = e in cc)
build_is_so words (main ∷ out ∷ []) heap (Some n) command h e = absurd (let clash : None ≡ Some command = e in cc)

run_is_so : (words places : List (List ℕ)) (heap steps : Option ℕ) (command : Command) → Are words places heap steps →
    as_run_at places heap steps ≡ Some command → IsCommand (codes "run" ∷ words) command
run_is_so words (main ∷ []) heap steps command h e = subst (IsCommand (codes "run" ∷ words)) (same_Some _ _ e) (is_run heap steps refl h)
run_is_so words [] heap steps command h e = absurd (let clash : None ≡ Some command = e in cc)
run_is_so words (main ∷ out ∷ places) heap steps command h e = absurd (let clash : None ≡ Some command = e in cc)

mean_is_so : (words places : List (List ℕ)) (heap steps : Option ℕ) (command : Command) → Are words places heap steps →
    as_mean_at places heap steps ≡ Some command → IsCommand (codes "mean" ∷ words) command
mean_is_so words (main ∷ []) heap steps command h e = subst (IsCommand (codes "mean" ∷ words)) (same_Some _ _ e) (is_mean heap steps refl h)
mean_is_so words [] heap steps command h e = absurd (let clash : None ≡ Some command = e in cc)
mean_is_so words (main ∷ out ∷ places) heap steps command h e = absurd (let clash : None ≡ Some command = e in cc)

exec_is_so : (words places : List (List ℕ)) (heap steps : Option ℕ) (command : Command) → Are words places heap steps →
    as_exec_at places heap steps ≡ Some command → IsCommand (codes "exec" ∷ words) command
exec_is_so words (file ∷ []) None steps command h e = subst (IsCommand (codes "exec" ∷ words)) (same_Some _ _ e) (is_exec steps refl h)
exec_is_so words [] heap steps command h e = absurd (let clash : None ≡ Some command = e in cc)
exec_is_so words (file ∷ out ∷ places) heap steps command h e = absurd (let clash : None ≡ Some command = e in cc)
exec_is_so words (file ∷ []) (Some n) steps command h e = absurd (let clash : None ≡ Some command = e in cc)

name_is : (name text : List ℕ) (words : List (List ℕ)) (command : Command) → bytes_eq name text ≡ true → IsCommand (text ∷ words) command →
    IsCommand (name ∷ words) command
name_is name text words command e h = subst (λ (n : List ℕ). IsCommand (n ∷ words) command) (sym ((bytes_eq-Decides name text).0 e)) h

chosen_at : (name : List ℕ) (words : List (List ℕ)) (given : Arguments) (command : Command) → AreArguments words given → (a b c d x : Bool) →
    bytes_eq name (codes "check") ≡ a → bytes_eq name (codes "build") ≡ b → bytes_eq name (codes "run") ≡ c →
    bytes_eq name (codes "mean") ≡ d → bytes_eq name (codes "exec") ≡ x →
    cond a (as_check given) (cond b (as_build given) (cond c (as_run given) (cond d (as_mean given) (cond x (as_exec given) None)))) ≡ Some command →
    IsCommand (name ∷ words) command
chosen_at name words given command h true b c d x e f g i j s =
    name_is name _ words command e (check_is_so words given.places given.heap given.steps command h s)
chosen_at name words given command h false true c d x e f g i j s =
    name_is name _ words command f (build_is_so words given.places given.heap given.steps command h s)
chosen_at name words given command h false false true d x e f g i j s =
    name_is name _ words command g (run_is_so words given.places given.heap given.steps command h s)
chosen_at name words given command h false false false true x e f g i j s =
    name_is name _ words command i (mean_is_so words given.places given.heap given.steps command h s)
chosen_at name words given command h false false false false true e f g i j s =
    name_is name _ words command j (exec_is_so words given.places given.heap given.steps command h s)
chosen_at name words given command h false false false false false e f g i j s = absurd (let clash : None ≡ Some command = s in cc)

-- what is found is the command
pub command_is : (words : List (List ℕ)) (command : Command) → command_at words ≡ Some command → IsCommand words command
command_is [] command e = absurd (let clash : None ≡ Some command = e in cc)
command_is (name ∷ words) command e =
    option_and_then_some (chosen name) (arguments words) command e (λ given a s.
    chosen_at name words given command (arguments_are words given a) _ _ _ _ _ refl refl refl refl refl s)

-- the words of a command, and what they give
read_so : (words behind : List (List ℕ)) (name : List ℕ) (given : Arguments) → words ≡ name ∷ behind → AreArguments behind given →
    length given.places ≤ 2 → command_at words ≡ chosen name given
read_so words behind name given e h few = ap command_at e ∙ ap (option_and_then (chosen name)) (arguments_read behind given h few)

-- the command is found
pub command_found : (words : List (List ℕ)) (command : Command) → IsCommand words command → command_at words ≡ Some command
command_found words command (is_check e h) = read_so words _ _ _ e h (omega arith)
command_found words command (is_build heap e h) = read_so words _ _ _ e h (omega arith)
command_found words command (is_run heap steps e h) = read_so words _ _ _ e h (omega arith)
command_found words command (is_mean heap steps e h) = read_so words _ _ _ e h (omega arith)
command_found words command (is_exec steps e h) = read_so words _ _ _ e h (omega arith)

pub one_at_most : (words : List (List ℕ)) (one other : Command) → IsCommand words one → IsCommand words other → one ≡ other
one_at_most words one other h g = same_Some _ _ (sym (command_found words one h) ∙ command_found words other g)

pub none_found : (words : List (List ℕ)) → command_at words ≡ None → IsNoCommand words
none_found words e command h = let clash : None ≡ Some command = sym e ∙ command_found words command h in absurd cc

found_or_none : (words : List (List ℕ)) (o : Option Command) → command_at words ≡ o
    → ((command : Command) × IsCommand words command) ⊎ IsNoCommand words
found_or_none words None e = inr (none_found words e)
found_or_none words (Some command) e = inl (command, command_is words command e)

pub one_or_none : (words : List (List ℕ)) → ((command : Command) × IsCommand words command) ⊎ IsNoCommand words
one_or_none words = found_or_none words _ refl

-- ---- what the code answers

pub some_said : (words : List (List ℕ)) (result : Option RustCommand) → option_map command_of result ≡ command_at words →
    IfSome result (λ command. IsCommand words (command_of command))
some_said words None e = tt
some_said words (Some command) e = command_is words (command_of command) (sym e)

pub none_said : (words : List (List ℕ)) (result : Option RustCommand) → option_map command_of result ≡ command_at words
    → IfNone result (IsNoCommand words)
none_said words None e = none_found words (sym e)
none_said words (Some command) e = tt

pub ranges_said : (words : List (List ℕ)) (result : Option RustCommand) → IfSome result (λ command. IsCommand words (command_of command)) →
    IfSome result (λ command. IsInRange (command_of command))
ranges_said words None h = tt
ranges_said words (Some command) h = in_range words (command_of command) h
