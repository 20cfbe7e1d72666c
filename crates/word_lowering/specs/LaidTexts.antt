-- Texts as they are laid out, and where the code finds each. No public contract speaks of it.
use Rattle.std.specs.Prelude.{◌≡◌, ℕ, false, List, [], ◌∷◌, ◌++◌, length}
use Rattle.std.specs.HashMap.{HashMap, get}
use Rattle.std.specs.Set.{unique_keys}
use Rattle.nim_types.specs.Types.{same_text}
use Rattle.flat_code.specs.declared.block.BlockLine.{BlockLine}
use Rattle.flat_code.specs.declared.code.CodeProc.{CodeProc}
use Rattle.word_lowering.specs.declared.laid_texts.Laying.{Laying}
use Rattle.word_lowering.specs.declared.linked.Stack.{Stack}
use Rattle.word_lowering.specs.Linked.{laid_out}
use Rattle.word_lowering.specs.Texts.{laid, place_among, texts_in}

-- where the handle of each of these stands
abbrev pub FindsPlaces : {S : Type 0} → HashMap (List ℕ) ℕ S → List (List ℕ) → Type 0
FindsPlaces places texts = (text : List ℕ) → get same_text places text ≡ place_among texts text

-- unless one was lost, the distinct ones of some texts are laid out from an address on
pub record AreLaid (from : ℕ) (laying : Laying) (texts : List (List ℕ)) : Type 0 where
  pub bytes : laying.lost ≡ false → laying.bytes ≡ laid from (unique_keys same_text texts)
  pub places : laying.lost ≡ false → FindsPlaces laying.places (unique_keys same_text texts)

-- ---- the words of values, the last one of which comes first

-- all of them, from the first one on, and where each begins
abbrev pub stacked : List (List ℕ) → List ℕ
stacked [] = []
stacked (words ∷ values) = stacked values ++ words

abbrev pub begins : List (List ℕ) → List ℕ
begins [] = []
begins (words ∷ values) = begins values ++ length (stacked values) ∷ []

pub record AreStacked (stack : Stack) (values : List (List ℕ)) : Type 0 where
  pub words : stack.words.items ≡ stacked values
  pub begins : stack.begins.items ≡ begins values

-- ---- all

-- code whose texts are laid out from an address on
pub record LaidCode : Type 0 where
  pub from : ℕ
  pub procs : List (CodeProc BlockLine)

-- its literals as they stand there, and where each text is found
pub record ArePut {S : Type 0} (code : LaidCode) (all : List ℕ) (places : HashMap (List ℕ) ℕ S) : Type 0 where
  pub literals : all ≡ texts_in code.procs
  pub finds : FindsPlaces places (laid_out code.from code.procs)
