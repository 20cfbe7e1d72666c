-- The numbers of a command are in their ranges.
use Rattle.std.proofs.Common.{ℕ, ◌≤◌, List, Option, Some, None, IfSome, unwrap_or, arith}
use Rattle.command_words.specs.Command.{Command, IsCommand, is_check, is_build, is_run, is_mean, is_exec, Arguments, AreArguments, none, behind}
use Rattle.command_words.specs.Command.{place, joined, apart, Sets, sets_heap, sets_steps, IsInRange}
use Rattle.command_words.specs.declared.arguments.TheConstants.{HEAP_LEAST, HEAP_MOST, STEPS_LEAST, STEPS_MOST}
use Rattle.command_words.specs.declared.command.TheConstants.{STEPS_DEFAULT}

abbrev Within : ℕ → ℕ → Option ℕ → Type 0
Within least most number = IfSome number (λ n. (least ≤ n) × (n ≤ most))

record AreWithin (given : Arguments) : Type 0 where
  heap : Within HEAP_LEAST HEAP_MOST given.heap
  steps : Within STEPS_LEAST STEPS_MOST given.steps

sets_within : (name value : List ℕ) (others all : Arguments) → Sets name value others all → AreWithin others → AreWithin all
sets_within name value others all (sets_heap others' n e) h = record { heap = (n.from, n.to); steps = h.steps }
sets_within name value others all (sets_steps others' n e) h = record { heap = h.heap; steps = (n.from, n.to) }

within : (words : List (List ℕ)) (given : Arguments) → AreArguments words given → AreWithin given
within words given none = record { heap = tt; steps = tt }
within words given (behind places) = record { heap = tt; steps = tt }
within words given (place {words = rest} others e h) = let i = within rest others h in record { heap = i.heap; steps = i.steps }
within words given (joined {name = name} {value = value} {words = rest} {others = others} s h) = sets_within name value others given s (within rest others h)
within words given (apart {name = name} {value = value} {words = rest} {others = others} s h) = sets_within name value others given s (within rest others h)

heap_within : (heap : Option ℕ) → Within HEAP_LEAST HEAP_MOST heap → (HEAP_LEAST ≤ unwrap_or heap HEAP_MOST) × (unwrap_or heap HEAP_MOST ≤ HEAP_MOST)
heap_within None h = (omega arith, omega arith)
heap_within (Some n) h = h

steps_within : (steps : Option ℕ) → Within STEPS_LEAST STEPS_MOST steps →
    (STEPS_LEAST ≤ unwrap_or steps STEPS_DEFAULT) × (unwrap_or steps STEPS_DEFAULT ≤ STEPS_MOST)
steps_within None h = (omega arith, omega arith)
steps_within (Some n) h = h

pub in_range : (words : List (List ℕ)) (command : Command) → IsCommand words command → IsInRange command
in_range words command (is_check e h) = tt
in_range words command (is_build heap e h) = heap_within heap (within _ _ h).heap
in_range words command (is_run heap steps e h) =
    let i = within _ _ h in
    let a = heap_within heap i.heap in
    let b = steps_within steps i.steps in
    (a.0, a.1, b.0, b.1)
in_range words command (is_mean heap steps e h) =
    let i = within _ _ h in
    let a = heap_within heap i.heap in
    let b = steps_within steps i.steps in
    (a.0, a.1, b.0, b.1)
in_range words command (is_exec steps e h) = steps_within steps (within _ _ h).steps
