-- Constants by their words, as they stand in the data: a text or a sequence in one is a handle, whose bytes or words stand at another place of the data.
-- Nothing is said of memory, so nothing changes it.
use Rattle.std.specs.Prelude.{◌≡◌, ◌<◌, ℕ, ◌+◌, ◌*◌, ◌^◌, ◌%◌, true, List, [], ◌∷◌, ◌++◌, length}
use Rattle.nim_meaning.specs.Values.{Value, Number, Parts, Fixed, Values, Nil, More, count}
use Rattle.flat_code.specs.Pieces.{words_bytes}
use Rattle.flat_code.specs.Shapes.{Shape, number, block, elements, row, parts, Shapes, no_shapes, shapes, is_ordinal}
use Rattle.word_lowering.specs.Operations.{word}

-- a whole has a word at least
abbrev pub filled : List ℕ → List ℕ
filled [] = 0 ∷ []
filled (w ∷ ws) = w ∷ ws

module _ (StandsFixed : (place : ℕ) → List ℕ → Type 0) where
  -- a handle of so many characters or elements, which stand there as these bytes
  pub record IsLink (ws : List ℕ) (long place : ℕ) (bytes : List ℕ) : Type 0 where
    pub is : ws ≡ long ∷ place ∷ []
    pub few : long < 2 ^ 32
    pub near : place < 2 ^ 32
    pub stands : StandsFixed place bytes

  abbrev mutual
    pub AreWords : List ℕ → Shape → Value → Type 0
    AreWords ws (number values) (Number z) = (ws ≡ word z ∷ []) × (is_ordinal values (Number z) ≡ true)
    AreWords ws block (Fixed text) = (place : ℕ) × IsLink ws (length text) place text
    AreWords ws (elements s) (Parts vs) =
        (place : ℕ) × (all : List ℕ) × IsLink ws (count vs) place (words_bytes all) × (place % 4 ≡ 0) × AllAreWords all s vs
    AreWords ws (row n s) (Parts vs) = (count vs ≡ n) × (all : List ℕ) × (ws ≡ filled all) × AllAreWords all s vs
    AreWords ws (parts ss) (Parts vs) = (all : List ℕ) × (ws ≡ filled all) × PartsAreWords all ss vs
    AreWords ws s v = ⊥

    -- of one shape, one behind the other
    pub AllAreWords : List ℕ → Shape → Values → Type 0
    AllAreWords ws s Nil = ws ≡ []
    AllAreWords ws s (More v vs) = (first rest : List ℕ) × (ws ≡ first ++ rest) × AreWords first s v × AllAreWords rest s vs

    pub PartsAreWords : List ℕ → Shapes → Values → Type 0
    PartsAreWords ws no_shapes Nil = ws ≡ []
    PartsAreWords ws (shapes s ss) (More v vs) = (first rest : List ℕ) × (ws ≡ first ++ rest) × AreWords first s v × PartsAreWords rest ss vs
    PartsAreWords ws ss vs = ⊥

  -- a value stands at an address in the data, among other words
  pub record FixedAt (a : ℕ) (s : Shape) (v : Value) : Type 0 where
    pub place : ℕ
    pub before : List ℕ
    pub words : List ℕ
    pub behind : List ℕ
    pub stands : StandsFixed place (words_bytes (before ++ (words ++ behind)))
    pub whole : place % 4 ≡ 0
    pub address : a ≡ place + 4 * length before
    pub are : AreWords words s v

-- all bytes among which it stands
abbrev pub data_bytes : {StandsFixed : (place : ℕ) → List ℕ → Type 0} {a : ℕ} {s : Shape} {v : Value} → FixedAt StandsFixed a s v → List ℕ
data_bytes f = words_bytes (f.before ++ (f.words ++ f.behind))
