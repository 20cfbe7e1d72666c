-- The words after the program's name, and the command that they are. A word is the list of its bytes.
--
--     COMMAND [--OPTION=VALUE | --OPTION VALUE | PLACE].. [-- PLACE..]
--
-- A further command is a case of Command and of IsCommand, a further option a field of Arguments and a case of Sets.
use Rattle.std.specs.Prelude.{◌≡◌, ℕ, ◌<◌, ◌≤◌, List, [], ◌∷◌, ◌++◌, length, Bool, true, false, ◌==◌, codes}
use Rattle.std.specs.Prelude.{Option, Some, None, unwrap_or}
use Rattle.std.specs.Str.{all_ascii_digits}
use Rattle.std.specs.Str.Parse.{digits_value}
use Rattle.command_words.specs.declared.number.TheConstants.{MOST_DIGITS}
use Rattle.command_words.specs.declared.arguments.TheConstants.{HEAP_LEAST, HEAP_MOST, STEPS_LEAST, STEPS_MOST}
use Rattle.command_words.specs.declared.command.TheConstants.{STEPS_DEFAULT}
use Rattle.command_words.specs.declared.command.Command.{Command as RustCommand}
use Rattle.command_words.specs.declared.command.Command.TheVariants as rust

-- what is to be done; `heap` is in bytes, `steps` in instructions of the machine or units of a meaning
pub data Command : Type 0 where
  -- the module of the file `main` is to be read
  check : (main : List ℕ) → Command
  -- it is to be compiled into the file `out`
  build : (main out : List ℕ) (heap : ℕ) → Command
  -- it is to be compiled, and to run
  run : (main : List ℕ) (heap steps : ℕ) → Command
  -- its meaning is to run
  mean : (main : List ℕ) (heap steps : ℕ) → Command
  -- the ELF file is to run
  exec : (file : List ℕ) (steps : ℕ) → Command

-- ---- numbers

-- the text spells the number in decimal, in one to ten digits, and it is in the range
pub record IsNumber (least most : ℕ) (text : List ℕ) (number : ℕ) : Type 0 where
  pub digits : all_ascii_digits text ≡ true
  pub some : 0 < length text
  pub short : length text ≤ MOST_DIGITS
  pub value : number ≡ digits_value 10 text
  pub from : least ≤ number
  pub to : number ≤ most

-- ---- what stands behind the command's word

-- what is given: the positional words in order, and the options, where they are given
pub record Arguments : Type 0 where
  pub places : List (List ℕ)
  pub heap : Option ℕ
  pub steps : Option ℕ

-- positional words alone
abbrev pub only_places : List (List ℕ) → Arguments
only_places places = record { places = places; heap = None; steps = None }

abbrev pub no_arguments : Arguments
no_arguments = only_places []

-- Sets name value others all: the option of this name with this value, added to others, which don't have it, makes all
pub data Sets : (name value : List ℕ) → (others all : Arguments) → Type 0 where
  sets_heap : {value : List ℕ} {number : ℕ} (others : Arguments) → IsNumber HEAP_LEAST HEAP_MOST value number → others.heap ≡ None →
      Sets (codes "--heap") value others (record others { heap = Some number })
  sets_steps : {value : List ℕ} {number : ℕ} (others : Arguments) → IsNumber STEPS_LEAST STEPS_MOST value number → others.steps ≡ None →
      Sets (codes "--steps") value others (record others { steps = Some number })

-- an option is a dash and more
abbrev pub is_option : List ℕ → Bool
is_option [] = false
is_option (byte ∷ []) = false
is_option (byte ∷ other ∷ bytes) = byte == 45

-- the words give these arguments
pub data AreArguments : List (List ℕ) → Arguments → Type 0 where
  none : AreArguments [] no_arguments
  -- `--` ends the options: each word behind it is positional
  behind : (places : List (List ℕ)) → AreArguments (codes "--" ∷ places) (only_places places)
  place : {word : List ℕ} {words : List (List ℕ)} (others : Arguments) → is_option word ≡ false → AreArguments words others →
      AreArguments (word ∷ words) (record others { places = word ∷ others.places })
  joined : {name value : List ℕ} {words : List (List ℕ)} {others all : Arguments} → Sets name value others all →
      AreArguments words others → AreArguments ((name ++ codes "=" ++ value) ∷ words) all
  apart : {name value : List ℕ} {words : List (List ℕ)} {others all : Arguments} → Sets name value others all →
      AreArguments words others → AreArguments (name ∷ value ∷ words) all

-- ---- commands

-- the words are the command; an option for which None stands isn't the command's
pub data IsCommand (words : List (List ℕ)) : Command → Type 0 where
  is_check : {arguments : List (List ℕ)} {main : List ℕ} → words ≡ codes "check" ∷ arguments →
      AreArguments arguments (record { places = main ∷ []; heap = None; steps = None }) →
      IsCommand words (check main)
  is_build : {arguments : List (List ℕ)} {main out : List ℕ} (heap : Option ℕ) → words ≡ codes "build" ∷ arguments →
      AreArguments arguments (record { places = main ∷ out ∷ []; heap = heap; steps = None }) →
      IsCommand words (build main out (unwrap_or heap HEAP_MOST))
  is_run : {arguments : List (List ℕ)} {main : List ℕ} (heap steps : Option ℕ) → words ≡ codes "run" ∷ arguments →
      AreArguments arguments (record { places = main ∷ []; heap = heap; steps = steps }) →
      IsCommand words (run main (unwrap_or heap HEAP_MOST) (unwrap_or steps STEPS_DEFAULT))
  is_mean : {arguments : List (List ℕ)} {main : List ℕ} (heap steps : Option ℕ) → words ≡ codes "mean" ∷ arguments →
      AreArguments arguments (record { places = main ∷ []; heap = heap; steps = steps }) →
      IsCommand words (mean main (unwrap_or heap HEAP_MOST) (unwrap_or steps STEPS_DEFAULT))
  is_exec : {arguments : List (List ℕ)} {file : List ℕ} (steps : Option ℕ) → words ≡ codes "exec" ∷ arguments →
      AreArguments arguments (record { places = file ∷ []; heap = None; steps = steps }) →
      IsCommand words (exec file (unwrap_or steps STEPS_DEFAULT))

-- the words are no command
abbrev pub IsNoCommand : List (List ℕ) → Type 0
IsNoCommand words = (command : Command) → IsCommand words command → ⊥

-- the sizes and steps that a command can have
abbrev pub IsInRange : Command → Type 0
IsInRange (check main) = Unit {0}
IsInRange (build main out heap) = (HEAP_LEAST ≤ heap) × (heap ≤ HEAP_MOST)
IsInRange (run main heap steps) = (HEAP_LEAST ≤ heap) × (heap ≤ HEAP_MOST) × (STEPS_LEAST ≤ steps) × (steps ≤ STEPS_MOST)
IsInRange (mean main heap steps) = (HEAP_LEAST ≤ heap) × (heap ≤ HEAP_MOST) × (STEPS_LEAST ≤ steps) × (steps ≤ STEPS_MOST)
IsInRange (exec file steps) = (STEPS_LEAST ≤ steps) × (steps ≤ STEPS_MOST)

-- the file that is read
abbrev pub file_of : Command → List ℕ
file_of (check main) = main
file_of (build main out heap) = main
file_of (run main heap steps) = main
file_of (mean main heap steps) = main
file_of (exec file steps) = file

-- ---- the commands of the code

abbrev pub command_of : RustCommand → Command
command_of (rust.Check main) = check main.now
command_of (rust.Build main out heap) = build main.now out.now heap
command_of (rust.Run main heap steps) = run main.now heap steps
command_of (rust.Mean main heap steps) = mean main.now heap steps
command_of (rust.Exec file steps) = exec file.now steps
