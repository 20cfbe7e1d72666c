-- The code of a call, but in the start code, branches to the trap that too many calls are.
use Rattle.std.proofs.Common.{◌≡◌, ℕ, suc, ◌+◌, ◌*◌, List, [], ◌∷◌, length, Option, Bool, true, false, refl, sym, ap, subst, ◌∙◌}
use Rattle.std.specs.Prelude.{nat_eq, ◌||◌}
use Rattle.nim_program.specs.Traps.{CallDepth}
use Rattle.word_code.specs.declared.word.WordInstr.{WordInstr}
use Rattle.word_lowering.specs.declared.homes.Home.{Home}
use Rattle.word_lowering.specs.declared.homes.Home.TheVariants.{Variable, Placed, Static}
use Rattle.word_lowering.specs.declared.homes.Housed.{Housed}
use Rattle.word_lowering.specs.declared.spots.Spot.{Spot}
use Rattle.word_lowering.specs.declared.spots.Spot.TheVariants.{Held, Lies, Letter}
use Rattle.word_lowering.specs.Layouts.{params_in}
use Rattle.word_lowering.specs.LineCode.{Around, argument_code, arguments_code, called_code, checked_code, word_argument, layout_at}
use Rattle.word_lowering.specs.Lowered.{any_branches}
use Rattle.word_lowering.specs.Operations.{trap_label}
use Rattle.word_lowering.specs.Spots.{handed, spot_of}

or_true : (b : Bool) → (b || true) ≡ true
or_true true = refl
or_true false = refl

behind_word : (n index : ℕ) (from : Home) (k : List WordInstr) → any_branches n k ≡ true → any_branches n (word_argument index from k) ≡ true
behind_word n index (Variable v) k h = h
behind_word n index (Placed a) k h = h
behind_word n index (Static a) k h = h

behind_handed : (n label bytes : ℕ) (from : Spot) (k : List WordInstr) → any_branches n k ≡ true → any_branches n (handed label bytes from k) ≡ true
behind_handed n label bytes (Held u) k h = h
behind_handed n label bytes (Lies (Variable v)) k h = ap (λ b. nat_eq n label || b) h ∙ or_true (nat_eq n label)
behind_handed n label bytes (Lies (Placed a)) k h = ap (λ b. nat_eq n label || b) h ∙ or_true (nat_eq n label)
behind_handed n label bytes (Lies (Static a)) k h = ap (λ b. nat_eq n label || b) h ∙ or_true (nat_eq n label)
behind_handed n label bytes (Letter (Variable v)) k h = h
behind_handed n label bytes (Letter (Placed a)) k h = h
behind_handed n label bytes (Letter (Static a)) k h = h

module _ (x : Around) where
  behind_argument : (n label : ℕ) (param : Home) (from : Housed) (k : List WordInstr) → any_branches n k ≡ true
      → any_branches n (argument_code x label param from k) ≡ true
  behind_argument n label (Variable v) from k h = behind_word n v from.home k h
  behind_argument n label (Placed a) from k h = behind_handed n label from.bytes (spot_of from) k h
  behind_argument n label (Static a) from k h = h

  behind_arguments : (n label : ℕ) (params hs : List Housed) (k : List WordInstr) → any_branches n k ≡ true
      → any_branches n (arguments_code x label params hs k) ≡ true
  behind_arguments n label [] hs k h = h
  behind_arguments n label (p ∷ params) [] k h = h
  behind_arguments n label (p ∷ params) (from ∷ hs) k h =
      behind_argument n (label + 2 * suc (length hs)) p.home from (arguments_code x label params hs k) (behind_arguments n label params hs k h)

  checked_branches : (start : Bool) (k : List WordInstr) → start ≡ false → any_branches (trap_label CallDepth) (checked_code start k) ≡ true
  checked_branches start k h = subst (λ b. any_branches (trap_label CallDepth) (checked_code b k) ≡ true) (sym h) refl

  pub called_branches : (runs : Bool) (label proc : ℕ) (ty : Option ℕ) (to : ℕ) (hs : List Housed) (k : List WordInstr) → x.setting.start ≡ false
      → any_branches (trap_label CallDepth) (called_code x runs label proc ty to hs k) ≡ true
  called_branches true label proc ty to hs k h =
      behind_arguments (trap_label CallDepth) label (params_in (layout_at x proc).all) hs _ (checked_branches x.setting.start _ h)
  called_branches false label proc ty to hs k h = checked_branches x.setting.start _ h
