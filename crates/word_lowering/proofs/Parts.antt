-- Parts of a value, one after another, and the ends of procedures.
use Rattle.std.proofs.Common.{◌≡◌, ℕ, ◌+◌, ◌<◌, ◌≤◌, Bool, List, [], ◌++◌, length, drop, get_or, Option, sym, ap, ◌∙◌, append-nil}
use Rattle.std.proofs.lemmas.List.{drop_more, drop_all}
use Rattle.flat_code.specs.declared.line.From.{From}
use Rattle.flat_code.specs.declared.line.Line.{Line}
use Rattle.word_code.specs.declared.word.WordInstr.{WordInstr}
use Rattle.word_lowering.specs.declared.homes.Home.{Home}
use Rattle.word_lowering.specs.declared.homes.Housed.{Housed}
use Rattle.word_lowering.specs.declared.homes.Waiter.{Waiter}
use Rattle.word_lowering.specs.declared.spots.Spot.{Spot}
use Rattle.word_lowering.specs.declared.spots.Spot.TheVariants.{Lies}
use Rattle.word_lowering.specs.Emission.{Puts}
use Rattle.word_lowering.specs.Layouts.{result_in}
use Rattle.word_lowering.specs.LineCode.{Around, operand, operands, parts_code, lines_code}
use Rattle.word_lowering.specs.Lowered.{any_branches, trap_code, and_last, result_cleared, code_of}
use Rattle.word_lowering.specs.Spots.{spot_of, shifted, moved}
use Rattle.word_lowering.specs.WaitingCode.{none_code}

module _ (x : Around) (parts : List From) (i : ℕ) where
  pub parts_next : (d : From) (to next : Home) (h : Housed) (spot : Spot) (old new : List WordInstr) (all : List WordInstr → List WordInstr)
      → i < length parts → h ≡ operand x (get_or parts i d) → spot ≡ spot_of h → Puts old new (moved h.is_word h.bytes (Lies to) spot)
      → next ≡ shifted h.bytes to → ((k : List WordInstr) → old ++ parts_code to (operands x (drop i parts)) k ≡ all k)
      → (k : List WordInstr) → new ++ parts_code next (operands x (drop (i + 1) parts)) k ≡ all k
  parts_next d to next h spot old new all lt e s puts n before = λ k.
      let rest : List Housed = operands x (drop (i + 1) parts) in
      puts (parts_code next rest k)
      ∙ ap (λ (t : Home). old ++ moved h.is_word h.bytes (Lies to) spot (parts_code t rest k)) n
      ∙ ap (λ (t : Spot). old ++ moved h.is_word h.bytes (Lies to) t (parts_code (shifted h.bytes to) rest k)) s
      ∙ ap (λ (v : Housed). old ++ moved v.is_word v.bytes (Lies to) (spot_of v) (parts_code (shifted v.bytes to) rest k)) e
      ∙ ap (λ (fs : List From). old ++ parts_code to (operands x fs) k) (sym (drop_more parts i d lt))
      ∙ before k

  pub parts_end : (to : Home) (old : List WordInstr) (all : List WordInstr → List WordInstr) → length parts ≤ i
      → ((k : List WordInstr) → old ++ parts_code to (operands x (drop i parts)) k ≡ all k) → (k : List WordInstr) → old ++ k ≡ all k
  parts_end to old all le before = λ k.
      ap (λ (fs : List From). old ++ parts_code to (operands x fs) k) (sym (drop_all i parts le)) ∙ before k

-- with the labels of traps to which lines branch
pub ends_are : (old new : List WordInstr) (a b c d e f : Bool)
    → new ++ [] ≡ old ++ trap_code a 0 5 (trap_code b 1 6 (trap_code c 2 7 (trap_code d 3 8 (trap_code e 4 9 (trap_code f 5 10 [])))))
    → a ≡ any_branches 0 old → b ≡ any_branches 1 old → c ≡ any_branches 2 old → d ≡ any_branches 3 old → e ≡ any_branches 4 old
    → f ≡ any_branches 5 old → new ≡ and_last old
ends_are old new a b c d e f h is_a is_b is_c is_d is_e is_f =
    sym (append-nil new) ∙ h
    ∙ ap (λ x. old ++ trap_code x 0 5 (trap_code b 1 6 (trap_code c 2 7 (trap_code d 3 8 (trap_code e 4 9 (trap_code f 5 10 [])))))) is_a
    ∙ ap (λ x. old ++ trap_code (any_branches 0 old) 0 5 (trap_code x 1 6 (trap_code c 2 7 (trap_code d 3 8 (trap_code e 4 9 (trap_code f 5 10 [])))))) is_b
    ∙ ap (λ x. old ++ trap_code (any_branches 0 old) 0 5 (trap_code (any_branches 1 old) 1 6 (trap_code x 2 7 (trap_code d 3 8 (trap_code e 4 9
    (trap_code f 5 10 [])))))) is_c
    ∙ ap (λ x. old ++ trap_code (any_branches 0 old) 0 5 (trap_code (any_branches 1 old) 1 6 (trap_code (any_branches 2 old) 2 7 (trap_code x 3 8
    (trap_code e 4 9 (trap_code f 5 10 [])))))) is_d
    ∙ ap (λ x. old ++ trap_code (any_branches 0 old) 0 5 (trap_code (any_branches 1 old) 1 6 (trap_code (any_branches 2 old) 2 7
    (trap_code (any_branches 3 old) 3 8 (trap_code x 4 9 (trap_code f 5 10 [])))))) is_e
    ∙ ap (λ x. old ++ trap_code (any_branches 0 old) 0 5 (trap_code (any_branches 1 old) 1 6 (trap_code (any_branches 2 old) 2 7
    (trap_code (any_branches 3 old) 3 8 (trap_code (any_branches 4 old) 4 9 (trap_code x 5 10 [])))))) is_f

-- the code of a procedure as it is put together
pub code_is : (x : Around) (lines : List Line) (result : Option Housed) (ws : List Waiter) (a b m c d : List WordInstr) → a ≡ []
    → result ≡ result_in x.own.all → ws ≡ x.own.waiters → Puts a b (none_code ws) → Puts b m (result_cleared result) → Puts m c (lines_code x lines)
    → d ≡ and_last c → d ≡ code_of x lines
code_is x lines result ws a b m c d none r w p n q e =
    let body : List WordInstr = lines_code x lines [] in
    e ∙ ap and_last (sym (append-nil c) ∙ q [] ∙ n body ∙ p (result_cleared result body)
    ∙ ap (λ (l : List WordInstr). l ++ none_code ws (result_cleared result body)) none
    ∙ ap (λ (o : Option Housed). none_code ws (result_cleared o body)) r
    ∙ ap (λ (us : List Waiter). none_code us (result_cleared (result_in x.own.all) body)) w)
