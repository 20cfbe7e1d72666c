-- The command of arguments, by the cases of the code.
use Rattle.std.proofs.Common.{◌≡◌, ℕ, List, [], ◌∷◌, Option, Some, None, sym, ap, ap₂, ◌∙◌, unwrap_or, Bor}
use Rattle.command_words.specs.Command.{check, build, run, mean, exec}
use Rattle.command_words.specs.Walk.{as_check_at, as_build_at, as_run_at, as_mean_at, as_exec_at, places_of}
use Rattle.command_words.specs.declared.arguments.TheConstants.{HEAP_MOST}
use Rattle.command_words.specs.declared.command.TheConstants.{STEPS_DEFAULT}
use Rattle.command_words.specs.declared.arguments.Places.{Places}
use Rattle.command_words.specs.declared.arguments.Places.TheVariants.{One, Two}

pub check_so : (places : Places) (heap steps : Option ℕ) (main : Bor (List ℕ)) → places ≡ One main → heap ≡ None → steps ≡ None →
    Some (check main.now) ≡ as_check_at (places_of places) heap steps
check_so places heap steps main e f g =
    sym (ap (λ p. as_check_at (places_of p) heap steps) e ∙ ap₂ (λ a b. as_check_at (main.now ∷ []) a b) f g)

pub build_so : (places : Places) (heap steps : Option ℕ) (main out : Bor (List ℕ)) (size : ℕ) → places ≡ Two main out → steps ≡ None →
    size ≡ unwrap_or heap HEAP_MOST →
    Some (build main.now out.now size) ≡ as_build_at (places_of places) heap steps
build_so places heap steps main out size e f g =
    ap (λ n. Some (build main.now out.now n)) g
    ∙ sym (ap (λ p. as_build_at (places_of p) heap steps) e ∙ ap (λ b. as_build_at (main.now ∷ out.now ∷ []) heap b) f)

pub run_so : (places : Places) (heap steps : Option ℕ) (main : Bor (List ℕ)) (size most : ℕ) → places ≡ One main →
    size ≡ unwrap_or heap HEAP_MOST → most ≡ unwrap_or steps STEPS_DEFAULT →
    Some (run main.now size most) ≡ as_run_at (places_of places) heap steps
run_so places heap steps main size most e f g =
    ap₂ (λ m n. Some (run main.now m n)) f g ∙ sym (ap (λ p. as_run_at (places_of p) heap steps) e)

pub mean_so : (places : Places) (heap steps : Option ℕ) (main : Bor (List ℕ)) (size most : ℕ) → places ≡ One main →
    size ≡ unwrap_or heap HEAP_MOST → most ≡ unwrap_or steps STEPS_DEFAULT →
    Some (mean main.now size most) ≡ as_mean_at (places_of places) heap steps
mean_so places heap steps main size most e f g =
    ap₂ (λ m n. Some (mean main.now m n)) f g ∙ sym (ap (λ p. as_mean_at (places_of p) heap steps) e)

pub exec_so : (places : Places) (heap steps : Option ℕ) (file : Bor (List ℕ)) (most : ℕ) → places ≡ One file → heap ≡ None →
    most ≡ unwrap_or steps STEPS_DEFAULT →
    Some (exec file.now most) ≡ as_exec_at (places_of places) heap steps
exec_so places heap steps file most e f g =
    ap (λ n. Some (exec file.now n)) g ∙ sym (ap (λ p. as_exec_at (places_of p) heap steps) e ∙ ap (λ a. as_exec_at (file.now ∷ []) a steps) f)
