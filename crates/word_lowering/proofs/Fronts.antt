-- Code that stands before what follows, whatever that is: it has the labels of one line alone, and branches to no trap that isn't built.
use Rattle.std.proofs.Common.{◌≡◌, ◌⊎◌, inl, inr, ℕ, ◌+◌, ◌*◌, ◌<◌, ◌≤◌, ℤ, List, [], ◌∷◌, ◌++◌, Bool, true, false}
use Rattle.std.proofs.Common.{refl, sym, ap, subst, ◌∙◌, arith, append_assoc}
use Rattle.std.specs.Prelude.{int_lt, if◌then◌else◌, unsigned_abs, ◌-ℤ◌}
use Rattle.std.specs.Ordering.{int_eq}
use Rattle.nim_program.specs.declared.operation.UnaryOperator.{UnaryOperator}
use Rattle.nim_program.specs.declared.operation.UnaryOperator.TheVariants as unary
use Rattle.nim_program.specs.declared.operation.Operator.{Operator}
use Rattle.nim_program.specs.declared.operation.Operator.TheVariants as binary
use Rattle.nim_program.specs.declared.operation.Comparison.{Comparison}
use Rattle.nim_program.specs.declared.operation.Comparison.TheVariants as comparison
use Rattle.word_code.specs.declared.word.Test.TheVariants as test
use Rattle.word_code.specs.declared.word.WordOperation.TheVariants as operation
use Rattle.word_code.specs.declared.word.WordInstr.{WordInstr}
use Rattle.word_code.specs.declared.word.WordInstr.TheVariants.{Label, Constant, Compute, Load, Store, Branch}
use Rattle.rv32_isa.specs.declared.micro_op.Size.{Size}
use Rattle.rv32_isa.specs.declared.micro_op.Size.TheVariants.{Byte, Word as whole}
use Rattle.word_lowering.specs.declared.homes.TheConstants.{FIRST, SECOND, THIRD, FOURTH, FIFTH}
use Rattle.word_lowering.specs.declared.homes.Home.{Home}
use Rattle.word_lowering.specs.declared.homes.Home.TheVariants.{Variable, Placed, Static}
use Rattle.word_lowering.specs.declared.spots.Spot.{Spot}
use Rattle.word_lowering.specs.declared.spots.Spot.TheVariants.{Held, Lies, Letter}
use Rattle.word_lowering.specs.LineCode.{letter_swap}
use Rattle.word_lowering.specs.Spots as code
use Rattle.word_lowering.specs.Operations as operations

abbrev pub Coding : Type 0
Coding = List WordInstr → List WordInstr

-- what a line of word code says of labels
pub data Note : Type 0 where
  stands : (name : ℕ) → Note
  leads : (to : ℕ) → Note
  neither : Note

abbrev pub note : WordInstr → Note
note (Label name) = stands name
note (Branch test left right to) = leads to
note line = neither

-- A label is one of those from a line's own on, every second number. Those of traps that aren't built are 6 and 7.
abbrev pub IsFine : (own many : ℕ) → Note → (rest : Type 0) → Type 0
IsFine own many (stands name) rest = ((i : ℕ) × (i ≤ many) × (name ≡ own + 2 * i)) × rest
IsFine own many (leads to) rest = ((to < 6) ⊎ (7 < to)) × rest
IsFine own many neither rest = rest

abbrev pub AllFine : (own many : ℕ) → List WordInstr → Type 0
AllFine own many [] = Unit {0}
AllFine own many (line ∷ lines) = IsFine own many (note line) (AllFine own many lines)

pub record IsFront (own many : ℕ) (f : Coding) : Type 0 where
  pub is : (k : List WordInstr) → f k ≡ f [] ++ k
  pub fine : AllFine own many (f [])

module _ (own many : ℕ) where
  fine_on : (k l : List WordInstr) → AllFine own many k → AllFine own many l → AllFine own many (k ++ l)
  fine_on [] l x y = y
  fine_on (line ∷ k) l x y = by (note line) (λ z. fine_on k l z y) x
    where
      by : (n : Note) → (AllFine own many k → AllFine own many (k ++ l)) → IsFine own many n (AllFine own many k)
          → IsFine own many n (AllFine own many (k ++ l))
      by (stands name) go z = (z.0, go z.1)
      by (leads to) go z = (z.0, go z.1)
      by neither go z = go z

  -- one piece of code before another
  pub front_on : (f g : Coding) → IsFront own many f → IsFront own many g → IsFront own many (λ k. f (g k))
  front_on f g x y = record {
    is = λ k. x.is (g k) ∙ ap (λ l. f [] ++ l) (y.is k) ∙ sym (append_assoc (f []) (g []) k) ∙ ap (λ l. l ++ k) (sym (x.is (g [])));
    fine = subst (AllFine own many) (sym (x.is (g []))) (fine_on (f []) (g []) x.fine y.fine);
  }

  pub front_none : IsFront own many (λ k. k)
  front_none = record { is = λ k. refl; fine = tt }

  pub front_more : (line : WordInstr) (f : Coding) → note line ≡ neither → IsFront own many f → IsFront own many (λ k. line ∷ f k)
  front_more line f e y = record {
    is = λ k. ap (λ l. line ∷ l) (y.is k);
    fine = subst (λ n. IsFine own many n (AllFine own many (f []))) (sym e) y.fine;
  }

  pub front_if : (b : Bool) (f g : Coding) → IsFront own many f → IsFront own many g → IsFront own many (λ k. if b then f k else g k)
  front_if true f g x y = record { is = x.is; fine = x.fine }
  front_if false f g x y = record { is = y.is; fine = y.fine }

  -- ---- moves

  pub note_address : (to : ℕ) (home : Home) → note (code.address to home) ≡ neither
  note_address to (Variable v) = refl
  note_address to (Placed at) = refl
  note_address to (Static at) = refl

  -- an address, and then code that is fixed
  pub front_address : (to : ℕ) (home : Home) (f : Coding) → IsFront own many f → IsFront own many (λ k. code.address to home ∷ f k)
  front_address to home f y = front_more (code.address to home) f (note_address to home) y

  copied_front : (word : Bool) (bytes : ℕ) → IsFront own many (code.copied word bytes)
  copied_front true bytes = record { is = λ k. refl; fine = tt }
  copied_front false bytes = record { is = λ k. refl; fine = tt }

  -- by two addresses
  carried_front : (to from : Home) (put got : Size)
      → IsFront own many (λ k. code.address FIRST to ∷ code.address SECOND from ∷ Load THIRD SECOND got ∷ Store FIRST THIRD put ∷ k)
  carried_front to from put got =
      front_address FIRST to (λ k. code.address SECOND from ∷ Load THIRD SECOND got ∷ Store FIRST THIRD put ∷ k)
      (front_address SECOND from (λ k. Load THIRD SECOND got ∷ Store FIRST THIRD put ∷ k) (record { is = λ k. refl; fine = tt }))

  pub moved_front : (word : Bool) (bytes : ℕ) (to from : Spot) → IsFront own many (code.moved word bytes to from)
  moved_front word bytes (Held v) (Held u) = record { is = λ k. refl; fine = tt }
  moved_front word bytes (Held v) (Lies from) =
      front_address SECOND from (λ k. Load v SECOND whole ∷ k) (record { is = λ k. refl; fine = tt })
  moved_front word bytes (Held v) (Letter from) =
      front_address SECOND from (λ k. Load v SECOND Byte ∷ k) (record { is = λ k. refl; fine = tt })
  moved_front word bytes (Lies to) (Held u) = front_address FIRST to (λ k. Store FIRST u whole ∷ k) (record { is = λ k. refl; fine = tt })
  moved_front word bytes (Letter to) (Held u) = front_address FIRST to (λ k. Store FIRST u Byte ∷ k) (record { is = λ k. refl; fine = tt })
  moved_front word bytes (Lies to) (Lies from) =
      front_address FIRST to (λ k. code.address SECOND from ∷ code.copied word bytes k)
      (front_address SECOND from (code.copied word bytes) (copied_front word bytes))
  moved_front word bytes (Lies to) (Letter from) = carried_front to from whole Byte
  moved_front word bytes (Letter to) (Lies from) = carried_front to from Byte whole
  moved_front word bytes (Letter to) (Letter from) = carried_front to from Byte Byte

  zeros_front : (word : Bool) (bytes : ℕ) → IsFront own many (code.zeros word bytes)
  zeros_front true bytes = record { is = λ k. refl; fine = tt }
  zeros_front false bytes = record { is = λ k. refl; fine = tt }

  pub cleared_front : (word : Bool) (bytes : ℕ) (to : Spot) → IsFront own many (code.cleared word bytes to)
  cleared_front word bytes (Held v) = record { is = λ k. refl; fine = tt }
  cleared_front word bytes (Lies to) = front_address FIRST to (code.zeros word bytes) (zeros_front word bytes)
  cleared_front word bytes (Letter to) =
      front_address FIRST to (λ k. Constant SECOND 0 ∷ Store FIRST SECOND Byte ∷ k) (record { is = λ k. refl; fine = tt })

  -- two characters trade places
  pub letter_swap_front : (left right : Home) → IsFront own many (letter_swap left right)
  letter_swap_front left right =
      front_address FIRST left (λ k. code.address SECOND right ∷ trades k) (front_address SECOND right trades (record { is = λ k. refl; fine = tt }))
    where
      trades : Coding
      trades k = Load THIRD FIRST Byte ∷ Load FOURTH SECOND Byte ∷ Store SECOND THIRD Byte ∷ Store FIRST FOURTH Byte ∷ k

  module _ (high : 7 < own) where
    pub handed_front : (i bytes : ℕ) (from : Spot) → i ≤ many → IsFront own many (code.handed (own + 2 * i) bytes from)
    handed_front i bytes (Held u) few = record { is = λ k. refl; fine = tt }
    handed_front i bytes (Letter from) few =
        front_address SECOND from (λ k. Load THIRD SECOND Byte ∷ Store FIRST THIRD whole ∷ k) (record { is = λ k. refl; fine = tt })
    handed_front i bytes (Lies from) few = front_address SECOND from words (record {
      is = λ k. refl;
      fine = ((i, few, refl), (inr (omega (arith, high)), tt));
    })
      where
        words : Coding
        words k =
            Constant THIRD bytes ∷ Compute THIRD operation.Add SECOND THIRD ∷ Constant FOURTH 4
            ∷ Label (own + 2 * i)
            ∷ Load FIFTH SECOND whole ∷ Store FIRST FIFTH whole
            ∷ Compute FIRST operation.Add FIRST FOURTH ∷ Compute SECOND operation.Add SECOND FOURTH
            ∷ Branch test.Unequal SECOND THIRD (own + 2 * i)
            ∷ k

    -- ---- operations

    first_label : (i : ℕ) × (i ≤ many) × (own ≡ own + 2 * i)
    first_label = (0, omega arith, omega arith)

    pub binary_front : (operator : Operator) (to left right : ℕ) → IsFront own many (operations.binary_code own operator to left right)
    binary_front binary.Add to left right = record { is = λ k. refl; fine = (inl (omega arith), tt) }
    binary_front binary.Subtract to left right = record { is = λ k. refl; fine = (inl (omega arith), tt) }
    binary_front binary.Multiply to left right = record { is = λ k. refl; fine = (inl (omega arith), tt) }
    binary_front binary.Divide to left right = record {
      is = λ k. refl;
      fine = (inl (omega arith), (inr high, (inl (omega arith), (first_label, tt))));
    }
    binary_front binary.Modulo to left right = record { is = λ k. refl; fine = (inl (omega arith), tt) }
    binary_front binary.ShiftLeft to left right = record { is = λ k. refl; fine = tt }
    binary_front binary.ShiftRight to left right = record { is = λ k. refl; fine = tt }
    binary_front binary.BitAnd to left right = record { is = λ k. refl; fine = tt }
    binary_front binary.BitOr to left right = record { is = λ k. refl; fine = tt }
    binary_front binary.BitXor to left right = record { is = λ k. refl; fine = tt }

    -- the number at an address becomes another one
    pub put_back_front : (operator : Operator) (home : Home) (size : Size) (by : ℕ)
        → IsFront own many (λ k. code.address SECOND home ∷ Load FOURTH SECOND size
        ∷ operations.binary_code own operator FOURTH FOURTH by (code.address FIRST home ∷ Store FIRST FOURTH size ∷ k))
    put_back_front operator home size by =
        front_on loads (λ k. operations.binary_code own operator FOURTH FOURTH by (stores k))
        (front_address SECOND home (λ k. Load FOURTH SECOND size ∷ k) (record { is = λ k. refl; fine = tt }))
        (front_on (operations.binary_code own operator FOURTH FOURTH by) stores (binary_front operator FOURTH FOURTH by)
        (front_address FIRST home (λ k. Store FIRST FOURTH size ∷ k) (record { is = λ k. refl; fine = tt })))
      where
        loads : Coding
        loads k = code.address SECOND home ∷ Load FOURTH SECOND size ∷ k

        stores : Coding
        stores k = code.address FIRST home ∷ Store FIRST FOURTH size ∷ k

    pub turn_front : (counter last : ℕ) (inclusive : Bool) (label : ℕ)
        → IsFront own many (operations.turn_code own counter last inclusive label)
    turn_front counter last true label = record { is = λ k. refl; fine = (inr high, (first_label, tt)) }
    turn_front counter last false label = record { is = λ k. refl; fine = (inr high, (first_label, tt)) }

  pub turn_if_front : (from label : ℕ) → 7 < label → IsFront own many (operations.turn_if_code from label)
  turn_if_front from label far = record { is = λ k. refl; fine = (inr far, tt) }

  pub unary_front : (operator : UnaryOperator) (to from : ℕ) → IsFront own many (operations.unary_code operator to from)
  unary_front unary.Plus to from = record { is = λ k. refl; fine = tt }
  unary_front unary.Negate to from = record { is = λ k. refl; fine = (inl (omega arith), tt) }
  unary_front unary.Complement to from = record { is = λ k. refl; fine = tt }
  unary_front unary.Not to from = record { is = λ k. refl; fine = tt }

  pub compare_front : (c : Comparison) (to left right : ℕ) → IsFront own many (operations.compare_code c to left right)
  compare_front comparison.Equal to left right = record { is = λ k. refl; fine = tt }
  compare_front comparison.Unequal to left right = record { is = λ k. refl; fine = tt }
  compare_front comparison.Less to left right = record { is = λ k. refl; fine = tt }
  compare_front comparison.AtMost to left right = record { is = λ k. refl; fine = tt }
  compare_front comparison.Greater to left right = record { is = λ k. refl; fine = tt }
  compare_front comparison.AtLeast to left right = record { is = λ k. refl; fine = tt }

  pub narrow_front : (to from values : ℕ) → IsFront own many (operations.narrow_code to from values)
  narrow_front to from values = record { is = λ k. refl; fine = (inl (omega arith), tt) }

  pub unless_front : (from label : ℕ) → 7 < label → IsFront own many (operations.unless_code from label)
  unless_front from label far = record { is = λ k. refl; fine = (inr far, tt) }

  pub beyond_front : (inclusive : Bool) (counter last label : ℕ) → 7 < label → IsFront own many (operations.beyond_code inclusive counter last label)
  beyond_front true counter last label far = record { is = λ k. refl; fine = (inr far, tt) }
  beyond_front false counter last label far = record { is = λ k. refl; fine = (inr far, tt) }

  pub fits_front : (from label : ℕ) (low high : ℤ) → 7 < label → IsFront own many (operations.fits_code from label low high)
  fits_front from label low high far = front_if (int_lt high low) (λ k. k) otherwise front_none (front_if (int_eq low high) same range one several)
    where
      same : Coding
      same k = Constant FIRST (operations.word low) ∷ Branch test.Equal from FIRST label ∷ k

      range : Coding
      range k = Constant FIRST (operations.word low) ∷ Compute FIRST operation.Subtract from FIRST ∷ Constant SECOND (unsigned_abs (high -ℤ low))
          ∷ Branch test.NotBelow SECOND FIRST label
          ∷ k

      otherwise : Coding
      otherwise k = if int_eq low high then same k else range k

      one : IsFront own many same
      one = record { is = λ k. refl; fine = (inr far, tt) }

      several : IsFront own many range
      several = record { is = λ k. refl; fine = (inr far, tt) }
