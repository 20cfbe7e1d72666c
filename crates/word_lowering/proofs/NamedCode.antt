-- Word code names variables of its procedure alone, and doesn't read the input.
use Rattle.std.proofs.Common.{◌≡◌, ℕ, ◌≤◌, ◌<◌, ℤ, List, [], ◌∷◌, ◌++◌, Bool, true, false}
use Rattle.std.proofs.Common.{refl, ap, if◌then◌else◌, arith}
use Rattle.std.proofs.Common.{int_lt, ◌-ℤ◌, unsigned_abs}
use Rattle.std.specs.Ordering.{int_eq}
use Rattle.std.proofs.lemmas.Bool.{and_from, lt-ltb}
use Rattle.arc_base.specs.declared.outside.Stream.{Stream}
use Rattle.rv32_isa.specs.declared.micro_op.Size.{Size}
use Rattle.nim_program.specs.declared.operation.UnaryOperator.{UnaryOperator}
use Rattle.nim_program.specs.declared.operation.UnaryOperator.TheVariants as unary
use Rattle.nim_program.specs.declared.operation.Operator.{Operator}
use Rattle.nim_program.specs.declared.operation.Operator.TheVariants as binary
use Rattle.nim_program.specs.declared.operation.Comparison.{Comparison}
use Rattle.nim_program.specs.declared.operation.Comparison.TheVariants as comparison
use Rattle.word_code.specs.declared.word.TheConstants.{MOST_ARGUMENTS}
use Rattle.word_code.specs.declared.word.Test.{Test}
use Rattle.word_code.specs.declared.word.Test.TheVariants as test
use Rattle.word_code.specs.declared.word.WordOperation.{WordOperation}
use Rattle.word_code.specs.declared.word.WordOperation.TheVariants as operation
use Rattle.word_code.specs.declared.word.WordInstr.{WordInstr}
use Rattle.word_code.specs.declared.word.WordInstr.TheVariants.{Label, Spend, SpendIf, Constant, Copy, Compute, Sum, Place, Datum, Load, Store, Jump}
use Rattle.word_code.specs.declared.word.WordInstr.TheVariants.{Branch}
use Rattle.word_code.specs.declared.word.WordInstr.TheVariants.{Argument, Call, Return, Write, Exit}
use Rattle.word_code.specs.Words.{are_named, all_named}
use Rattle.word_lowering.specs.declared.homes.TheConstants.{LEFT, FIRST, SECOND, THIRD, FOURTH, FIFTH, OWN_FROM}
use Rattle.word_lowering.specs.declared.homes.Home.{Home}
use Rattle.word_lowering.specs.declared.homes.Home.TheVariants.{Variable, Placed, Static}
use Rattle.word_lowering.specs.declared.homes.Housed.{Housed}
use Rattle.word_lowering.specs.declared.spots.Spot.{Spot}
use Rattle.word_lowering.specs.declared.spots.Spot.TheVariants.{Held, Lies, Letter}
use Rattle.word_lowering.specs.Layouts.{holds_address}
use Rattle.word_lowering.specs.Reads.{is_read, reads_in}
use Rattle.word_lowering.specs.LineCode.{letter_swap}
use Rattle.word_lowering.specs.Spots as code
use Rattle.word_lowering.specs.Operations as operations
use Rattle.word_lowering.proofs.LayoutBounds.{IsBelow}

pub data AllNamed (vars : ℕ) : List WordInstr → Type 0 where
  none_named : AllNamed vars []
  more_named : {line : WordInstr} {k : List WordInstr} → are_named vars line ≡ true → is_read line ≡ false → AllNamed vars k → AllNamed vars (line ∷ k)

pub named_true : {vars : ℕ} {k : List WordInstr} → AllNamed vars k → all_named vars k ≡ true
named_true none_named = refl
named_true (more_named e quiet rest) = and_from _ _ e (named_true rest)

abbrev one_if : Bool → ℕ
one_if b = if b then 1 else 0

pub none_read : {vars : ℕ} {k : List WordInstr} → AllNamed vars k → reads_in k ≡ 0
none_read none_named = refl
none_read (more_named e quiet rest) = let none = ap one_if quiet in omega (arith, none, none_read rest)

-- a home as a spot is below the bound
abbrev pub IsSpotBelow : ℕ → Spot → Type 0
IsSpotBelow n (Held v) = v < n
IsSpotBelow n (Lies home) = IsBelow n home
IsSpotBelow n (Letter home) = IsBelow n home

spot_by_below : (n : ℕ) (address letter : Bool) (home : Home) → IsBelow n home → IsSpotBelow n (code.spot_by address letter home)
spot_by_below n false letter (Variable v) h = h
spot_by_below n false letter (Placed at) h = tt
spot_by_below n false letter (Static at) h = tt
spot_by_below n true false home h = h
spot_by_below n true true home h = h

pub spot_below : (n : ℕ) (h : Housed) → IsBelow n h.home → IsSpotBelow n (code.spot_of h)
spot_below n h i = spot_by_below n (holds_address h) h.is_letter h.home i

pub shifted_below : (n bytes : ℕ) (home : Home) → IsBelow n home → IsBelow n (code.shifted bytes home)
shifted_below n bytes (Variable v) h = h
shifted_below n bytes (Placed at) h = tt
shifted_below n bytes (Static at) h = tt

module _ (vars : ℕ) (many : OWN_FROM ≤ vars) where
  -- ---- the variables that each procedure has
  pub left_is : LEFT < vars
  left_is = omega (arith, many)

  pub first_is : FIRST < vars
  first_is = omega (arith, many)

  pub second_is : SECOND < vars
  second_is = omega (arith, many)

  pub third_is : THIRD < vars
  third_is = omega (arith, many)

  pub fourth_is : FOURTH < vars
  fourth_is = omega (arith, many)

  pub fifth_is : FIFTH < vars
  fifth_is = omega (arith, many)

  -- ---- one line before others
  pub label : {name : ℕ} {k : List WordInstr} → AllNamed vars k → AllNamed vars (Label name ∷ k)
  label rest = more_named refl refl rest

  pub constant : {to value : ℕ} {k : List WordInstr} → to < vars → AllNamed vars k → AllNamed vars (Constant to value ∷ k)
  constant t rest = more_named (lt-ltb _ vars t) refl rest

  pub copy : {to from : ℕ} {k : List WordInstr} → to < vars → from < vars → AllNamed vars k → AllNamed vars (Copy to from ∷ k)
  copy t f rest = more_named (and_from _ _ (lt-ltb _ vars t) (lt-ltb _ vars f)) refl rest

  pub compute : {to left right : ℕ} {operation : WordOperation} {k : List WordInstr} → to < vars → left < vars → right < vars → AllNamed vars k
      → AllNamed vars (Compute to operation left right ∷ k)
  compute t l r rest = more_named (and_from _ _ (lt-ltb _ vars t) (and_from _ _ (lt-ltb _ vars l) (lt-ltb _ vars r))) refl rest

  pub sum : {to from value : ℕ} {k : List WordInstr} → to < vars → from < vars → AllNamed vars k → AllNamed vars (Sum to from value ∷ k)
  sum t f rest = more_named (and_from _ _ (lt-ltb _ vars t) (lt-ltb _ vars f)) refl rest

  pub place : {to at : ℕ} {k : List WordInstr} → to < vars → AllNamed vars k → AllNamed vars (Place to at ∷ k)
  place t rest = more_named (lt-ltb _ vars t) refl rest

  pub datum : {to at : ℕ} {k : List WordInstr} → to < vars → AllNamed vars k → AllNamed vars (Datum to at ∷ k)
  datum t rest = more_named (lt-ltb _ vars t) refl rest

  pub load : {to address : ℕ} {size : Size} {k : List WordInstr} → to < vars → address < vars → AllNamed vars k
      → AllNamed vars (Load to address size ∷ k)
  load t a rest = more_named (and_from _ _ (lt-ltb _ vars t) (lt-ltb _ vars a)) refl rest

  pub store : {address from : ℕ} {size : Size} {k : List WordInstr} → address < vars → from < vars → AllNamed vars k
      → AllNamed vars (Store address from size ∷ k)
  store a f rest = more_named (and_from _ _ (lt-ltb _ vars a) (lt-ltb _ vars f)) refl rest

  pub spend : {k : List WordInstr} → AllNamed vars k → AllNamed vars (Spend ∷ k)
  spend rest = more_named refl refl rest

  pub jump : {to : ℕ} {k : List WordInstr} → AllNamed vars k → AllNamed vars (Jump to ∷ k)
  jump rest = more_named refl refl rest

  pub spend_if : {test : Test} {left right : ℕ} {k : List WordInstr} → left < vars → right < vars → AllNamed vars k
      → AllNamed vars (SpendIf test left right ∷ k)
  spend_if l r rest = more_named (and_from _ _ (lt-ltb _ vars l) (lt-ltb _ vars r)) refl rest

  pub branch : {test : Test} {left right to : ℕ} {k : List WordInstr} → left < vars → right < vars → AllNamed vars k
      → AllNamed vars (Branch test left right to ∷ k)
  branch l r rest = more_named (and_from _ _ (lt-ltb _ vars l) (lt-ltb _ vars r)) refl rest

  pub argument : {index from : ℕ} {k : List WordInstr} → index < MOST_ARGUMENTS → from < vars → AllNamed vars k
      → AllNamed vars (Argument index from ∷ k)
  argument i f rest = more_named (and_from _ _ (lt-ltb _ MOST_ARGUMENTS i) (lt-ltb _ vars f)) refl rest

  pub call : {to callee : ℕ} {k : List WordInstr} → to < vars → AllNamed vars k → AllNamed vars (Call to callee ∷ k)
  call t rest = more_named (lt-ltb _ vars t) refl rest

  pub return : {from : ℕ} {k : List WordInstr} → from < vars → AllNamed vars k → AllNamed vars (Return from ∷ k)
  return f rest = more_named (lt-ltb _ vars f) refl rest

  pub write : {stream : Stream} {address len : ℕ} {k : List WordInstr} → address < vars → len < vars → AllNamed vars k
      → AllNamed vars (Write stream address len ∷ k)
  write a l rest = more_named (and_from _ _ (lt-ltb _ vars a) (lt-ltb _ vars l)) refl rest

  pub exit : {status : ℕ} {k : List WordInstr} → status < vars → AllNamed vars k → AllNamed vars (Exit status ∷ k)
  exit s rest = more_named (lt-ltb _ vars s) refl rest

  -- ---- moves
  pub address : (to : ℕ) (home : Home) {k : List WordInstr} → to < vars → IsBelow vars home → AllNamed vars k
      → AllNamed vars (code.address to home ∷ k)
  address to (Variable v) t h rest = copy t h rest
  address to (Placed at) t h rest = place t rest
  address to (Static at) t h rest = datum t rest

  copied : (word : Bool) (bytes : ℕ) {k : List WordInstr} → AllNamed vars k → AllNamed vars (code.copied word bytes k)
  copied true bytes rest = load third_is second_is (store first_is third_is rest)
  copied false bytes rest =
      constant third_is (argument (omega arith) first_is (argument (omega arith) second_is (argument (omega arith) third_is (call first_is rest))))

  carried : (to from : Home) {put got : Size} {k : List WordInstr} → IsBelow vars to → IsBelow vars from → AllNamed vars k
      → AllNamed vars (code.address FIRST to ∷ code.address SECOND from ∷ Load THIRD SECOND got ∷ Store FIRST THIRD put ∷ k)
  carried to from t f rest =
      address FIRST to first_is t (address SECOND from second_is f (load third_is second_is (store first_is third_is rest)))

  pub moved : (word : Bool) (bytes : ℕ) (to from : Spot) {k : List WordInstr} → IsSpotBelow vars to → IsSpotBelow vars from → AllNamed vars k
      → AllNamed vars (code.moved word bytes to from k)
  moved word bytes (Held v) (Held u) t f rest = copy t f rest
  moved word bytes (Held v) (Lies from) t f rest = address SECOND from second_is f (load t second_is rest)
  moved word bytes (Held v) (Letter from) t f rest = address SECOND from second_is f (load t second_is rest)
  moved word bytes (Lies to) (Held u) t f rest = address FIRST to first_is t (store first_is f rest)
  moved word bytes (Letter to) (Held u) t f rest = address FIRST to first_is t (store first_is f rest)
  moved word bytes (Lies to) (Lies from) t f rest = address FIRST to first_is t (address SECOND from second_is f (copied word bytes rest))
  moved word bytes (Lies to) (Letter from) t f rest = carried to from t f rest
  moved word bytes (Letter to) (Lies from) t f rest = carried to from t f rest
  moved word bytes (Letter to) (Letter from) t f rest = carried to from t f rest

  zeros : (word : Bool) (bytes : ℕ) {k : List WordInstr} → AllNamed vars k → AllNamed vars (code.zeros word bytes k)
  zeros true bytes rest = constant second_is (store first_is second_is rest)
  zeros false bytes rest = constant second_is (argument (omega arith) first_is (argument (omega arith) second_is (call first_is rest)))

  pub cleared : (word : Bool) (bytes : ℕ) (to : Spot) {k : List WordInstr} → IsSpotBelow vars to → AllNamed vars k
      → AllNamed vars (code.cleared word bytes to k)
  cleared word bytes (Held v) t rest = constant t rest
  cleared word bytes (Lies to) t rest = address FIRST to first_is t (zeros word bytes rest)
  cleared word bytes (Letter to) t rest = address FIRST to first_is t (constant second_is (store first_is second_is rest))

  pub handed : (label_here bytes : ℕ) (from : Spot) {k : List WordInstr} → IsSpotBelow vars from → AllNamed vars k
      → AllNamed vars (code.handed label_here bytes from k)
  handed label_here bytes (Held u) f rest = store first_is f rest
  handed label_here bytes (Letter from) f rest = address SECOND from second_is f (load third_is second_is (store first_is third_is rest))
  handed label_here bytes (Lies from) f rest =
      address SECOND from second_is f
      (constant third_is (compute third_is second_is third_is (constant fourth_is
      (label (load fifth_is second_is (store first_is fifth_is
      (compute first_is first_is fourth_is (compute second_is second_is fourth_is
      (branch second_is third_is rest)))))))))

  -- ---- operations
  differ : (to : ℕ) {k : List WordInstr} → to < vars → AllNamed vars k → AllNamed vars (operations.unless_differ to k)
  differ to t rest = branch second_is third_is (copy t first_is rest)

  divisor : (right : ℕ) {k : List WordInstr} → right < vars → AllNamed vars k → AllNamed vars (operations.divisor_code right k)
  divisor right r rest = constant first_is (branch r first_is rest)

  pub binary_named : (label_here : ℕ) (operator : Operator) (to left right : ℕ) {k : List WordInstr} → to < vars → left < vars → right < vars
      → AllNamed vars k → AllNamed vars (operations.binary_code label_here operator to left right k)
  binary_named n binary.Add to left right t l r rest =
      compute first_is l r (compute second_is first_is l (constant third_is (compute third_is r third_is (differ to t rest))))
  binary_named n binary.Subtract to left right t l r rest =
      compute first_is l r (compute second_is l first_is (constant third_is (compute third_is r third_is (differ to t rest))))
  binary_named n binary.Multiply to left right t l r rest =
      compute first_is l r (compute second_is l r (constant third_is (compute third_is first_is third_is (differ to t rest))))
  binary_named n binary.Divide to left right t l r rest =
      divisor right r (constant first_is (branch r first_is (constant first_is (branch l first_is (label (compute t l r rest))))))
  binary_named n binary.Modulo to left right t l r rest = divisor right r (compute t l r rest)
  binary_named n binary.ShiftLeft to left right t l r rest = compute t l r rest
  binary_named n binary.ShiftRight to left right t l r rest = compute t l r rest
  binary_named n binary.BitAnd to left right t l r rest = compute t l r rest
  binary_named n binary.BitOr to left right t l r rest = compute t l r rest
  binary_named n binary.BitXor to left right t l r rest = compute t l r rest

  -- a word at an address is handed back, or becomes another one, and characters trade places
  pub word_back_named : (home : Home) {size : Size} {k : List WordInstr} → IsBelow vars home → AllNamed vars k
      → AllNamed vars (code.address FIRST home ∷ Load FIRST FIRST size ∷ Return FIRST ∷ k)
  word_back_named home h rest = address FIRST home first_is h (load first_is first_is (return first_is rest))

  pub put_back_named : (label_here : ℕ) (operator : Operator) (home : Home) (by : ℕ) {size : Size} {k : List WordInstr} → IsBelow vars home → by < vars
      → AllNamed vars k → AllNamed vars (code.address SECOND home ∷ Load FOURTH SECOND size
      ∷ operations.binary_code label_here operator FOURTH FOURTH by (code.address FIRST home ∷ Store FIRST FOURTH size ∷ k))
  put_back_named label_here operator home by h b rest =
      address SECOND home second_is h (load fourth_is second_is
      (binary_named label_here operator FOURTH FOURTH by fourth_is fourth_is b (address FIRST home first_is h (store first_is fourth_is rest))))

  pub letter_swap_named : (left right : Home) {k : List WordInstr} → IsBelow vars left → IsBelow vars right → AllNamed vars k
      → AllNamed vars (letter_swap left right k)
  letter_swap_named left right l r rest =
      address FIRST left first_is l (address SECOND right second_is r
      (load third_is first_is (load fourth_is second_is (store second_is third_is (store first_is fourth_is rest)))))

  pub unary_named : (operator : UnaryOperator) (to from : ℕ) {k : List WordInstr} → to < vars → from < vars → AllNamed vars k
      → AllNamed vars (operations.unary_code operator to from k)
  unary_named unary.Plus to from t f rest = copy t f rest
  unary_named unary.Negate to from t f rest = constant first_is (branch f first_is (constant first_is (compute t first_is f rest)))
  unary_named unary.Complement to from t f rest = constant first_is (compute t first_is f rest)
  unary_named unary.Not to from t f rest = constant first_is (compute t f first_is rest)

  opposite : (to left right : ℕ) {k : List WordInstr} → to < vars → left < vars → right < vars → AllNamed vars k
      → AllNamed vars (operations.opposite_code to left right k)
  opposite to left right t l r rest = compute first_is l r (constant second_is (compute t second_is first_is rest))

  pub compare_named : (c : Comparison) (to left right : ℕ) {k : List WordInstr} → to < vars → left < vars → right < vars → AllNamed vars k
      → AllNamed vars (operations.compare_code c to left right k)
  compare_named comparison.Equal to left right t l r rest = compute first_is l r (constant second_is (compute t first_is second_is rest))
  compare_named comparison.Unequal to left right t l r rest = compute first_is l r (constant second_is (compute t second_is first_is rest))
  compare_named comparison.Less to left right t l r rest = compute t l r rest
  compare_named comparison.AtMost to left right t l r rest = opposite to right left t r l rest
  compare_named comparison.Greater to left right t l r rest = compute t r l rest
  compare_named comparison.AtLeast to left right t l r rest = opposite to left right t l r rest

  pub narrow_named : (to from values : ℕ) {k : List WordInstr} → to < vars → from < vars → AllNamed vars k
      → AllNamed vars (operations.narrow_code to from values k)
  narrow_named to from values t f rest = constant first_is (branch f first_is (copy t f rest))

  pub unless_named : (from to : ℕ) {k : List WordInstr} → from < vars → AllNamed vars k → AllNamed vars (operations.unless_code from to k)
  unless_named from to f rest = constant first_is (branch f first_is rest)

  pub fits_named : (from to : ℕ) (low high : ℤ) {k : List WordInstr} → from < vars → AllNamed vars k
      → AllNamed vars (operations.fits_code from to low high k)
  fits_named from to low high {k} f rest = by (int_lt high low) (int_eq low high)
    where
      by : (b c : Bool) → AllNamed vars (if b then k else
          if c then Constant FIRST (operations.word low) ∷ Branch test.Equal from FIRST to ∷ k else
          Constant FIRST (operations.word low) ∷ Compute FIRST operation.Subtract from FIRST ∷ Constant SECOND (unsigned_abs (high -ℤ low))
          ∷ Branch test.NotBelow SECOND FIRST to ∷ k)
      by true c = rest
      by false true = constant first_is (branch f first_is rest)
      by false false = constant first_is (compute first_is f first_is (constant second_is (branch second_is first_is rest)))

  pub turn_if_named : (from to : ℕ) {k : List WordInstr} → from < vars → AllNamed vars k → AllNamed vars (operations.turn_if_code from to k)
  turn_if_named from to f rest = constant first_is (spend_if f first_is (branch f first_is rest))

  pub beyond_named : (inclusive : Bool) (counter last to : ℕ) {k : List WordInstr} → counter < vars → last < vars → AllNamed vars k
      → AllNamed vars (operations.beyond_code inclusive counter last to k)
  beyond_named true counter last to c l rest = branch l c rest
  beyond_named false counter last to c l rest = branch c l rest

  less_named : (inclusive : Bool) (counter last to : ℕ) {k : List WordInstr} → counter < vars → last < vars → AllNamed vars k
      → AllNamed vars (operations.unless_less inclusive counter last to k)
  less_named true counter last to c l rest = branch c l rest
  less_named false counter last to c l rest = compute first_is c l (compute second_is l first_is (branch c second_is rest))

  pub turn_named : (own counter last : ℕ) (inclusive : Bool) (to : ℕ) {k : List WordInstr} → counter < vars → last < vars → AllNamed vars k
      → AllNamed vars (operations.turn_code own counter last inclusive to k)
  turn_named own counter last inclusive to c l rest = less_named inclusive counter last own c l (spend (sum c c (jump (label rest))))

-- lines behind lines
pub named_on : {vars : ℕ} {k l : List WordInstr} → AllNamed vars k → AllNamed vars l → AllNamed vars (k ++ l)
named_on none_named m = m
named_on (more_named e quiet rest) m = more_named e quiet (named_on rest m)
