-- Reading the words one after another, as the code does. No public contract speaks of it.
use Rattle.std.specs.Prelude.{ℕ, List, [], ◌∷◌, length, Bool, ◌==◌, ◌&&◌, nat_le, nat_lt, cond}
use Rattle.std.specs.Prelude.{codes, Option, Some, None, unwrap_or, option_and_then, bytes_eq}
use Rattle.std.specs.Str.{all_ascii_digits}
use Rattle.std.specs.Str.Parse.{digits_value}
use Rattle.command_words.specs.Command.{Command, check, build, run, mean, exec, Arguments, no_arguments, is_option}
use Rattle.command_words.specs.declared.number.TheConstants.{MOST_DIGITS}
use Rattle.command_words.specs.declared.arguments.TheConstants.{HEAP_LEAST, HEAP_MOST, STEPS_LEAST, STEPS_MOST}
use Rattle.command_words.specs.declared.command.TheConstants.{STEPS_DEFAULT}
use Rattle.command_words.specs.declared.word.Key.{Key}
use Rattle.command_words.specs.declared.word.Key.TheVariants.{Heap, Steps}
use Rattle.command_words.specs.declared.word.Kind.{Kind as RustKind}
use Rattle.command_words.specs.declared.word.Kind.TheVariants as kind
use Rattle.command_words.specs.declared.arguments.Places.{Places}
use Rattle.command_words.specs.declared.arguments.Places.TheVariants.{Zero, One, Two}
use Rattle.command_words.specs.declared.arguments.Arguments.{Arguments as RustArguments}
use Rattle.command_words.specs.declared.arguments.Next.{Next}
use Rattle.command_words.specs.declared.arguments.Next.TheVariants.{Any, Value, Place}
use Rattle.command_words.specs.declared.arguments.Line.{Line as RustLine}

-- ---- words

abbrev pub is_number : ℕ → ℕ → List ℕ → Bool
is_number least most text =
    all_ascii_digits text && (nat_lt 0 (length text) && (nat_le (length text) MOST_DIGITS &&
    (nat_le least (digits_value 10 text) && nat_le (digits_value 10 text) most)))

abbrev pub number : ℕ → ℕ → List ℕ → Option ℕ
number least most text = cond (is_number least most text) (Some (digits_value 10 text)) None

abbrev pub name_of : Key → List ℕ
name_of Heap = codes "--heap"
name_of Steps = codes "--steps"

abbrev pub key_of : List ℕ → Option Key
key_of name = cond (bytes_eq name (codes "--heap")) (Some Heap) (cond (bytes_eq name (codes "--steps")) (Some Steps) None)

-- with a byte before it
abbrev pub longer : ℕ → List ℕ × Option (List ℕ) → List ℕ × Option (List ℕ)
longer byte (name, value) = (byte ∷ name, value)

-- what stands before the first `=`, and what stands behind it
abbrev pub cut : List ℕ → List ℕ × Option (List ℕ)
cut [] = ([], None)
cut (byte ∷ bytes) = cond (byte == 61) ([], Some bytes) (longer byte (cut bytes))

pub data Kind : Type 0 where
  end : Kind
  positional : Kind
  named : Key → Kind
  valued : Key → List ℕ → Kind
  unknown : Kind

abbrev pub kind_seen : RustKind → Kind
kind_seen kind.End = end
kind_seen kind.Place = positional
kind_seen (kind.Named key) = named key
kind_seen (kind.Valued key value) = valued key value.now
kind_seen kind.Unknown = unknown

abbrev pub option_kind : Option Key → Option (List ℕ) → Kind
option_kind None value = unknown
option_kind (Some key) None = named key
option_kind (Some key) (Some value) = valued key value

abbrev pub kind_of : List ℕ → Kind
kind_of word = cond (bytes_eq word (codes "--")) end (cond (is_option word) (option_kind (key_of (cut word).0) (cut word).1) positional)

-- ---- arguments

abbrev pub places_of : Places → List (List ℕ)
places_of Zero = []
places_of (One first) = first.now ∷ []
places_of (Two first second) = first.now ∷ second.now ∷ []

abbrev pub arguments_of : RustArguments → Arguments
arguments_of given = record { places = places_of given.places; heap = given.heap; steps = given.steps }

-- one more place, unless there are two
abbrev pub one_more : List ℕ → List (List ℕ) → Option (List (List ℕ))
one_more word [] = Some (word ∷ [])
one_more word (first ∷ []) = Some (first ∷ word ∷ [])
one_more word (first ∷ second ∷ places) = None

abbrev pub with_places : Arguments → Option (List (List ℕ)) → Option Arguments
with_places given None = None
with_places given (Some places) = Some (record given { places = places })

abbrev pub with_place : List ℕ → Arguments → Option Arguments
with_place word given = with_places given (one_more word given.places)

-- where it isn't given yet
abbrev pub with_heap : Arguments → Option ℕ → Option ℕ → Option Arguments
with_heap given (Some before) number = None
with_heap given None None = None
with_heap given None (Some number) = Some (record given { heap = Some number })

abbrev pub with_steps : Arguments → Option ℕ → Option ℕ → Option Arguments
with_steps given (Some before) number = None
with_steps given None None = None
with_steps given None (Some number) = Some (record given { steps = Some number })

abbrev pub with_value : Key → List ℕ → Arguments → Option Arguments
with_value Heap text given = with_heap given given.heap (number HEAP_LEAST HEAP_MOST text)
with_value Steps text given = with_steps given given.steps (number STEPS_LEAST STEPS_MOST text)

-- ---- word by word

pub record Line : Type 0 where
  pub next : Next
  pub given : Arguments

abbrev pub line_of : RustLine → Line
line_of line = record { next = line.next; given = arguments_of line.given }

abbrev pub begin : Line
begin = record { next = Any; given = no_arguments }

abbrev pub leads : Next → Option Arguments → Option Line
leads next None = None
leads next (Some given) = Some (record { next = next; given = given })

abbrev pub read_kind : Kind → List ℕ → Arguments → Option Line
read_kind end word given = Some (record { next = Place; given = given })
read_kind positional word given = leads Any (with_place word given)
read_kind (named key) word given = Some (record { next = Value key; given = given })
read_kind (valued key value) word given = leads Any (with_value key value given)
read_kind unknown word given = None

abbrev pub step_at : Next → List ℕ → Arguments → Option Line
step_at Any word given = read_kind (kind_of word) word given
step_at (Value key) word given = leads Any (with_value key word given)
step_at Place word given = leads Place (with_place word given)

abbrev pub step : List ℕ → Line → Option Line
step word line = step_at line.next word line.given

abbrev pub walk : List (List ℕ) → Line → Option Line
walk [] line = Some line
walk (word ∷ words) line = option_and_then (walk words) (step word line)

abbrev pub ended_at : Next → Arguments → Option Arguments
ended_at Any given = Some given
ended_at (Value key) given = None
ended_at Place given = Some given

abbrev pub ended : Line → Option Arguments
ended line = ended_at line.next line.given

abbrev pub arguments : List (List ℕ) → Option Arguments
arguments words = option_and_then ended (walk words begin)

-- ---- commands

abbrev pub as_check_at : List (List ℕ) → Option ℕ → Option ℕ → Option Command
as_check_at (main ∷ []) None None = Some (check main)
as_check_at _ _ _ = None

abbrev pub as_check : Arguments → Option Command
as_check given = as_check_at given.places given.heap given.steps

abbrev pub as_build_at : List (List ℕ) → Option ℕ → Option ℕ → Option Command
as_build_at (main ∷ out ∷ []) heap None = Some (build main out (unwrap_or heap HEAP_MOST))
as_build_at _ _ _ = None

abbrev pub as_build : Arguments → Option Command
as_build given = as_build_at given.places given.heap given.steps

abbrev pub as_run_at : List (List ℕ) → Option ℕ → Option ℕ → Option Command
as_run_at (main ∷ []) heap steps = Some (run main (unwrap_or heap HEAP_MOST) (unwrap_or steps STEPS_DEFAULT))
as_run_at _ _ _ = None

abbrev pub as_run : Arguments → Option Command
as_run given = as_run_at given.places given.heap given.steps

abbrev pub as_mean_at : List (List ℕ) → Option ℕ → Option ℕ → Option Command
as_mean_at (main ∷ []) heap steps = Some (mean main (unwrap_or heap HEAP_MOST) (unwrap_or steps STEPS_DEFAULT))
as_mean_at _ _ _ = None

abbrev pub as_mean : Arguments → Option Command
as_mean given = as_mean_at given.places given.heap given.steps

abbrev pub as_exec_at : List (List ℕ) → Option ℕ → Option ℕ → Option Command
as_exec_at (file ∷ []) None steps = Some (exec file (unwrap_or steps STEPS_DEFAULT))
as_exec_at _ _ _ = None

abbrev pub as_exec : Arguments → Option Command
as_exec given = as_exec_at given.places given.heap given.steps

abbrev pub chosen : List ℕ → Arguments → Option Command
chosen name given =
    cond (bytes_eq name (codes "check")) (as_check given) (cond (bytes_eq name (codes "build")) (as_build given)
    (cond (bytes_eq name (codes "run")) (as_run given) (cond (bytes_eq name (codes "mean")) (as_mean given)
    (cond (bytes_eq name (codes "exec")) (as_exec given) None))))

abbrev pub command_at : List (List ℕ) → Option Command
command_at [] = None
command_at (name ∷ words) = option_and_then (chosen name) (arguments words)
