-- The label code of word code has its fields in range.
use Rattle.std.proofs.Common.{ℕ, ◌+◌, ◌%◌, ◌^◌, ◌<◌, List, [], ◌∷◌, length, zero, suc, arith}
use Rattle.std.specs.Prelude.{Bool, true, false, ◌==◌, slice_get}
use Rattle.std.proofs.lemmas.Bool.{cond_both}
use Rattle.arc_base.specs.declared.outside.Stream.{Stream}
use Rattle.arc_base.specs.declared.outside.Stream.TheVariants.{Out, Err}
use Rattle.rv32_isa.specs.declared.instr.Instr.{Instr}
use Rattle.rv32_isa.specs.declared.micro_op.Size.{Size}
use Rattle.rv32_isa.specs.declared.micro_op.Size.TheVariants as size
use Rattle.rv32_isa.specs.declared.label.LabelLine.{LabelLine}
use Rattle.rv32_isa.specs.Image.{statics_at}
use Rattle.rv32_isa.specs.Row.{IsInRange}
use Rattle.rv32_isa.specs.Labels.{AreLines}
use Rattle.word_code.specs.declared.word.WordOperation.{WordOperation}
use Rattle.word_code.specs.declared.word.WordOperation.TheVariants as operation
use Rattle.word_code.specs.declared.word.WordInstr.{WordInstr}
use Rattle.word_code.specs.declared.word.WordInstr.TheVariants as word
use Rattle.word_code.specs.declared.word.WordProc.{WordProc}
use Rattle.reg_scan.specs.declared.homes.Home.{Home}
use Rattle.reg_scan.specs.declared.homes.Home.TheVariants.{Reg, Frame}
use Rattle.reg_scan.specs.declared.homes.Homes.{Homes}
use Rattle.reg_scan.specs.Homes.{or_none, home_of, IsPlace, IsHomes}
use Rattle.rv32_codegen.specs.Code.{does, is_near, lower, upper, negative, constant, datum, sum, shift, load, save, operate, fetch, store, stream_number}
use Rattle.rv32_codegen.specs.Code.{seat, bring, move, settle, give, target, left_of, right_of, argument_at, place_at, datum_at, bring_both, move_range}
use Rattle.rv32_codegen.specs.Code.{is_leaf, restore, keep, line_code, lines_code, homes_code, code_of}
use Rattle.rv32_codegen.specs.Lowering.{AllHomes}
use Rattle.rv32_codegen.proofs.Frees.{free_small}

-- ---- pieces

abbrev AllIn : List Instr → Type 0
AllIn [] = Unit {0}
AllIn (i ∷ is) = IsInRange i × AllIn is

fields_does : (is : List Instr) (k : List LabelLine) → AllIn is → AreLines k → AreLines (does is k)
fields_does [] k h g = g
fields_does (i ∷ is) k h g = (h.0, fields_does is k h.1 g)

fields_two : (a b : List Instr) (k : List LabelLine) → AllIn a → AllIn b → AreLines k → AreLines (does a (does b k))
fields_two a b k h g f = fields_does a (does b k) h (fields_does b k g f)

lower_small : (value : ℕ) → lower value < 2 ^ 12
lower_small value = omega arith

upper_small : (value : ℕ) → upper value < 2 ^ 20
upper_small value = omega arith

in_constant : (rd value : ℕ) → rd < 32 → AllIn (constant rd value)
in_constant rd value lt =
    let low = lower_small value in
    let high = upper_small value in
    cond_both (is_near value) _ _ AllIn (λ e. ((lt, omega arith, low), tt)) (λ e. ((lt, high), ((lt, lt, low), tt)))

in_datum : (rd address : ℕ) → rd < 32 → AllIn (datum rd address)
in_datum rd address lt =
    let offset = (address + negative statics_at) % 2 ^ 32 in
    let low = lower_small offset in
    cond_both (is_near offset) _ _ AllIn (λ e. ((lt, omega arith, low), tt)) (λ e. in_constant rd address lt)

in_sum : (rd from value : ℕ) → rd < 32 → from < 32 → AllIn (sum rd from value)
in_sum rd from value lt less =
    let low = lower_small value in
    let high = upper_small value in
    cond_both (is_near value) _ _ AllIn (λ e. ((lt, less, low), tt))
    (λ e. ((omega arith, high), ((omega arith, omega arith, low), ((lt, less, omega arith), tt))))

in_shift : (rd amount : ℕ) → rd < 32 → AllIn (shift rd amount)
in_shift rd amount lt = cond_both (amount == 0) _ _ AllIn (λ e. tt) (λ e. in_sum rd rd amount lt lt)

in_load : (rd offset : ℕ) → rd < 32 → AllIn (load rd offset)
in_load rd offset lt =
    let low = lower_small offset in
    let high = upper_small offset in
    cond_both (is_near offset) _ _ AllIn (λ e. ((lt, omega arith, low), tt)) (λ e. ((lt, high), ((lt, lt, omega arith), ((lt, lt, low), tt))))

in_save : (rs offset : ℕ) → rs < 32 → AllIn (save rs offset)
in_save rs offset lt =
    let low = lower_small offset in
    let high = upper_small offset in
    cond_both (is_near offset) _ _ AllIn (λ e. ((omega arith, lt, low), tt))
    (λ e. ((omega arith, high), ((omega arith, omega arith, omega arith), ((omega arith, lt, low), tt))))

in_operate : (o : WordOperation) (rd left right : ℕ) → rd < 32 → left < 32 → right < 32 → IsInRange (operate o rd left right)
in_operate operation.Add rd left right a b c = (a, b, c)
in_operate operation.Subtract rd left right a b c = (a, b, c)
in_operate operation.Multiply rd left right a b c = (a, b, c)
in_operate operation.MultiplyHigh rd left right a b c = (a, b, c)
in_operate operation.Divide rd left right a b c = (a, b, c)
in_operate operation.Remainder rd left right a b c = (a, b, c)
in_operate operation.DivideUnsigned rd left right a b c = (a, b, c)
in_operate operation.RemainderUnsigned rd left right a b c = (a, b, c)
in_operate operation.And rd left right a b c = (a, b, c)
in_operate operation.Or rd left right a b c = (a, b, c)
in_operate operation.Xor rd left right a b c = (a, b, c)
in_operate operation.ShiftLeft rd left right a b c = (a, b, c)
in_operate operation.ShiftRight rd left right a b c = (a, b, c)
in_operate operation.ShiftRightSigned rd left right a b c = (a, b, c)
in_operate operation.Less rd left right a b c = (a, b, c)
in_operate operation.Below rd left right a b c = (a, b, c)

in_fetch : (s : Size) (rd address : ℕ) → rd < 32 → address < 32 → IsInRange (fetch s rd address)
in_fetch size.Byte rd address a h = (a, h, omega arith)
in_fetch size.Half rd address a h = (a, h, omega arith)
in_fetch size.Word rd address a h = (a, h, omega arith)

in_store : (s : Size) (address rs : ℕ) → address < 32 → rs < 32 → IsInRange (store s address rs)
in_store size.Byte address rs a b = (a, b, omega arith)
in_store size.Half address rs a b = (a, b, omega arith)
in_store size.Word address rs a b = (a, b, omega arith)

stream_small : (stream : Stream) → stream_number stream < 2 ^ 12
stream_small Out = omega arith
stream_small Err = omega arith

-- ---- homes

abbrev IsSmall : Home → Type 0
IsSmall (Reg number) = number < 32
IsSmall (Frame at) = Unit {0}

seat_small : (other : ℕ) (home : Home) → other < 32 → IsSmall home → seat other home < 32
seat_small other (Reg number) lt h = h
seat_small other (Frame at) lt h = lt

in_bring : (other : ℕ) (home : Home) → other < 32 → AllIn (bring other home)
in_bring other (Reg number) lt = tt
in_bring other (Frame at) lt = in_load other at lt

in_move : (rd : ℕ) (home : Home) → rd < 32 → IsSmall home → AllIn (move rd home)
in_move rd (Reg number) lt h = ((lt, h, omega arith), tt)
in_move rd (Frame at) lt h = in_load rd at lt

in_settle : (home : Home) → AllIn (settle home)
in_settle (Reg number) = tt
in_settle (Frame at) = in_save 5 at (omega arith)

in_give : (rs : ℕ) (home : Home) → rs < 32 → IsSmall home → AllIn (give rs home)
in_give rs (Reg number) lt h = ((h, lt, omega arith), tt)
in_give rs (Frame at) lt h = in_save rs at lt

in_restore : (leaf : Bool) → AllIn (restore leaf)
in_restore true = tt
in_restore false = ((omega arith, omega arith, omega arith), tt)

-- ---- lines

module _ (h : Homes) (good : (v : ℕ) → IsSmall (home_of h v)) where
  small_target : (to : ℕ) → target h to < 32
  small_target to = seat_small 5 (home_of h to) (omega arith) (good to)

  small_left : (v : ℕ) → left_of h v < 32
  small_left v = seat_small 5 (home_of h v) (omega arith) (good v)

  small_right : (v : ℕ) → right_of h v < 32
  small_right v = seat_small 6 (home_of h v) (omega arith) (good v)

  fields_keep : (to : ℕ) (k : List LabelLine) → AreLines k → AreLines (keep h to k)
  fields_keep to k g = fields_does (settle (home_of h to)) k (in_settle (home_of h to)) g

  fields_both : (left right : ℕ) (k : List LabelLine) → AreLines k → AreLines (bring_both h left right k)
  fields_both left right k g =
      fields_two (bring 5 (home_of h left)) (bring 6 (home_of h right)) k (in_bring 5 (home_of h left) (omega arith))
      (in_bring 6 (home_of h right) (omega arith)) g

  fields_range : (a len : ℕ) (k : List LabelLine) → AreLines k → AreLines (move_range h a len k)
  fields_range a len k g =
      fields_two (move 11 (home_of h a)) (move 12 (home_of h len)) k (in_move 11 (home_of h a) (omega arith) (good a))
      (in_move 12 (home_of h len) (omega arith) (good len)) g

  fields_give : (rs to : ℕ) (k : List LabelLine) → rs < 32 → AreLines k → AreLines (does (give rs (home_of h to)) k)
  fields_give rs to k lt g = fields_does (give rs (home_of h to)) k (in_give rs (home_of h to) lt (good to)) g

  fields_line : (p : WordProc) (l : WordInstr) (k : List LabelLine) → AreLines k → AreLines (line_code h p l k)
  fields_line p (word.Label name) k g = (tt, g)
  fields_line p word.Spend k g = g
  fields_line p (word.SpendIf test left right) k g = g
  fields_line p (word.Constant to value) k g =
      fields_does (constant (target h to) value) _ (in_constant (target h to) value (small_target to)) (fields_keep to k g)
  fields_line p (word.Copy to from) k g =
      fields_does (move (target h to) (home_of h from)) _ (in_move (target h to) (home_of h from) (small_target to) (good from)) (fields_keep to k g)
  fields_line p (word.Compute to o left right) k g =
      fields_both left right _ (in_operate o _ _ _ (small_target to) (small_left left) (small_right right), fields_keep to k g)
  fields_line p (word.Sum to from value) k g =
      fields_two (bring 6 (home_of h from)) (sum (target h to) (right_of h from) value) _ (in_bring 6 (home_of h from) (omega arith))
      (in_sum (target h to) (right_of h from) value (small_target to) (small_right from)) (fields_keep to k g)
  fields_line p (word.Place to a) k g =
      fields_does (sum (target h to) 3 (place_at p a)) _ (in_sum (target h to) 3 (place_at p a) (small_target to) (omega arith)) (fields_keep to k g)
  fields_line p (word.Datum to a) k g =
      fields_does (datum (target h to) (datum_at p a)) _ (in_datum (target h to) (datum_at p a) (small_target to)) (fields_keep to k g)
  fields_line p (word.Load to a size) k g =
      fields_does (bring 5 (home_of h a)) _ (in_bring 5 (home_of h a) (omega arith))
      (in_fetch size _ _ (small_target to) (small_left a), fields_keep to k g)
  fields_line p (word.Store a from size) k g = fields_both a from _ (in_store size _ _ (small_left a) (small_right from), g)
  fields_line p (word.Jump to) k g = (omega arith, g)
  fields_line p (word.Branch test left right to) k g = fields_both left right _ ((small_left left, small_right right), g)
  fields_line p (word.Argument index from) k g =
      fields_two (bring 5 (home_of h from)) (save (left_of h from) (argument_at index)) k (in_bring 5 (home_of h from) (omega arith))
      (in_save (left_of h from) (argument_at index) (small_left from)) g
  fields_line p (word.Call to callee) k g = (omega arith, fields_give 10 to k (omega arith) g)
  fields_line p (word.Return from) k g =
      fields_two (move 10 (home_of h from)) (restore (is_leaf p.lines)) _ (in_move 10 (home_of h from) (omega arith) (good from))
      (in_restore (is_leaf p.lines))
      (fields_two (sum 2 2 h.frame) (shift 3 (negative p.room)) _ (in_sum 2 2 h.frame (omega arith) (omega arith))
      (in_shift 3 (negative p.room) (omega arith)) ((omega arith, omega arith, omega arith), g))
  fields_line p (word.Read to a len) k g =
      fields_range a len _ ((omega arith, omega arith, omega arith), ((omega arith, omega arith, omega arith), (tt, fields_give 10 to k (omega arith) g)))
  fields_line p (word.Write stream a len) k g =
      fields_range a len _ ((omega arith, omega arith, stream_small stream), ((omega arith, omega arith, omega arith), (tt, g)))
  fields_line p (word.Exit status) k g =
      fields_does (move 10 (home_of h status)) _ (in_move 10 (home_of h status) (omega arith) (good status))
      ((omega arith, omega arith, omega arith), (tt, g))

  fields_lines : (p : WordProc) (lines : List WordInstr) (k : List LabelLine) → AreLines k → AreLines (lines_code h p lines k)
  fields_lines p [] k g = g
  fields_lines p (l ∷ lines) k g = fields_line p l (lines_code h p lines k) (fields_lines p lines k g)

-- ---- all code

small_place : (frame : ℕ) (home : Home) → IsPlace frame home → IsSmall home
small_place frame (Reg number) h = free_small number h
small_place frame (Frame at) h = tt

small_list : (homes : List Home) → ((v : ℕ) → v < length homes → IsSmall (or_none (slice_get homes v))) → (v : ℕ) →
    IsSmall (or_none (slice_get homes v))
small_list [] h v = tt
small_list (home ∷ homes) h zero = h 0 (omega arith)
small_list (home ∷ homes) h (suc v) = small_list homes (λ w lt. h (suc w) (omega (arith, lt))) v

small_homes : (p : WordProc) (h : Homes) → IsHomes p h → (v : ℕ) → IsSmall (home_of h v)
small_homes p h is = small_list h.of (λ v lt. small_place h.frame (home_of h v) (is.there v (omega (arith, lt, is.long))))

homes_fields : (procs : List WordProc) (homes : List Homes) → AllHomes procs homes → AreLines (homes_code procs homes)
homes_fields [] homes all = tt
homes_fields (p ∷ procs) [] all = tt
homes_fields (p ∷ procs) (h ∷ homes) all =
    let good = small_homes p h all.0 in
    let rest = homes_fields procs homes all.1 in (
      tt,
      fields_two (sum 2 2 (negative h.frame)) (shift 3 p.room) _ (in_sum 2 2 (negative h.frame) (omega arith) (omega arith))
          (in_shift 3 p.room (omega arith)) ((omega arith, omega arith, omega arith), fields_lines h good p p.lines _ (tt, rest)),
    )

pub code_fields : (procs : List WordProc) (homes : List Homes) → AllHomes procs homes → AreLines (code_of procs homes)
code_fields procs homes all = (
  (omega arith, omega arith),
  (
    (omega arith, omega arith, omega arith),
    ((omega arith, omega arith), ((omega arith, omega arith, omega arith), (omega arith, homes_fields procs homes all))),
  ),
)
