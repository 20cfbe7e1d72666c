-- Owned code line by line is block code of it.
use Rattle.std.proofs.Common.{◌≡◌, refl, sym, subst, ℕ, List, map}
use Rattle.arc_base.specs.Event.{Event}
use Rattle.arc_base.specs.Behaviour.{Behaviour, Steady, Sound, Agrees}
use Rattle.nim_types.specs.declared.types.TypeDef.{TypeDef}
use Rattle.flat_code.specs.declared.code.Code.{Code}
use Rattle.flat_code.specs.declared.code.CodeProc.{CodeProc}
use Rattle.flat_code.specs.declared.owned.OwnedLine.{OwnedLine}
use Rattle.flat_code.specs.declared.block.BlockLine.{BlockLine}
use Rattle.flat_code.specs.declared.block.BlockLine.TheVariants.{Plain}
use Rattle.flat_code.specs.Scene.{known_in}
use Rattle.flat_code.specs.Codes.{each_line, by_lines, owned_plain, owned_label, owned_does, owned_meaning, block_plain, block_label, block_does, block_meaning}
use Rattle.flat_code.specs.Codes.{owned_within, block_within}
use Rattle.flat_code.proofs.ForCallers.{same_agrees, same_pace, runs_by_lines, within_by_lines, form_by_lines}
use Rattle.goto_exceptions.specs.Branches.{IsBranched}

pub same : (table : List TypeDef) (owned : Code OwnedLine) (heap : ℕ) (input : List ℕ) (n : ℕ) →
    block_meaning table (by_lines Plain owned) heap input n ≡ owned_meaning table owned heap input n
same table owned heap input n =
    let known = known_in table in
    runs_by_lines Plain owned_label block_label (λ line. refl) (owned_does known) (block_does known) (λ x line. refl) known owned heap input n

pub same_within : (table : List TypeDef) (owned : Code OwnedLine) (units heap : ℕ) (input : List ℕ) (n : ℕ) →
    block_within table (by_lines Plain owned) units heap input n ≡ owned_within table owned units heap input n
same_within table owned units heap input n =
    let known = known_in table in
    within_by_lines Plain owned_label block_label (λ line. refl) (owned_does known) (block_does known) (λ x line. refl) known owned units heap input n

abbrev blocks_with : List (CodeProc BlockLine) → Code BlockLine
blocks_with procs = record { procs = procs }

pub branched : (owned : Code OwnedLine) (procs : List (CodeProc BlockLine)) → procs ≡ map (each_line Plain) owned.procs →
    ((b : Behaviour Event) → Steady b → Sound b → Agrees b b) →
    ((table : List TypeDef) (owned : Code OwnedLine) (heap : ℕ) (input : List ℕ) → Steady (owned_meaning table owned heap input)) →
    IsBranched owned (blocks_with procs)
branched owned procs e itself steady = subst (λ ps. IsBranched owned (blocks_with ps)) (sym e) (record {
  agrees = λ table heap input sound. same_agrees (block_meaning table (by_lines Plain owned) heap input) (owned_meaning table owned heap input)
      (same table owned heap input) (itself (owned_meaning table owned heap input) (steady table owned heap input) sound);
  paced = λ table heap input sound.
      same_pace (block_meaning table (by_lines Plain owned) heap input) (owned_meaning table owned heap input) (same table owned heap input);
  form = form_by_lines Plain owned_plain block_plain (λ line. refl) owned;
  each = refl;
})
