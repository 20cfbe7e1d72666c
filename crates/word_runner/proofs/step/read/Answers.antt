use Rattle.std.proofs.Common.{◌≡◌, ◌<◌, ℕ, ◌+◌, ◌-◌, true, false, List, [], ◌++◌, length, take, drop, refl, sym, ap, ap₂, subst, ◌∙◌, arith, length-drop}
use Rattle.std.proofs.lemmas.List.{length-take-le}
use Rattle.std.specs.Prelude.{min}
use Rattle.rv32_isa.specs.Regions.{as_bytes}
use Rattle.word_code.specs.Memory.{may_fill, with_bytes}
use Rattle.word_code.specs.Words.{Vars, reads, scene_of, settled}
use Rattle.word_runner.specs.View.{proc_in, space_is, state_is}
use Rattle.word_runner.proofs.CallRows.{same_state}
use Rattle.word_runner.proofs.ReadRows.{behind, counted, fewer, given}
use Rattle.word_runner.proofs.StepRows.{kept_same, refused, silent_by}
use Rattle.word_runner.proofs.step.read.Goals as goal

pub fill-requires : goal.fill-requires
fill-requires c =
    let i = c.args.run.now.input in
    let count = c.min-count.result in
    let is = c.min-count.ensures in
    let all = c.as_slice.ensures.value in
    let left = length-drop i.read i.taken.items in
    let one : i.read + count - i.read ≡ count = omega arith in
    let long : length (take (i.read + count - i.read) (drop i.read c.as_slice.result.now)) ≡ count =
    ap₂ (λ (n : ℕ) (l : List ℕ). length (take n (drop i.read l))) one all
    ∙ length-take-le count (drop i.read i.taken.items) (omega (arith, is, left, c.len.ensures, i.taken.ok.0)) in
    subst (λ (n : ℕ). may_fill (space_is c.args.run.now.space) c.args.address n ≡ true) (sym long)
    (fewer (space_is c.args.run.now.space) c.args.address c.args.len count c.requires.may (omega (arith, is)))

pub returns-then-wants : goal.returns-then-wants
returns-then-wants c =
    λ procs. record { follows = λ live rest ends. refl; wants = c.wants.ensures.more c.if-wants.true; kept = kept_same _ }

pub returns-in-Err : goal.returns-in-Err
returns-in-Err c = λ procs. refused procs _ _ _ _ (kept_same _)

pub returns-in-Ok : goal.returns-in-Ok
returns-in-Ok c =
    λ procs.
    let run = c.args.run.now in
    let i = run.input in
    let count = c.min-count.result in
    let there = i.taken.len - i.read in
    let left : there ≡ length i.taken.items - i.read = omega (arith, i.taken.ok.0) in
    let is : count ≡ min there c.args.len = omega (arith, c.min-count.ensures, c.len.ensures) in
    let from = length-drop i.read i.taken.items in
    record {
      follows = λ live rest ends.
          let s = state_is procs run rest in
          let lines = drop c.args.next (proc_in procs run.frame.proc).lines in
          let all : count < c.args.len → rest ≡ [] = λ lt. ends (c.wants.ensures.enough c.if-wants.false lt) in
          let one : i.read + count - i.read ≡ count = omega arith in
          let bytes : take (i.read + count - i.read) (drop i.read c.as_slice.result.now) ≡ as_bytes (take count (drop i.read i.taken.items ++ rest)) =
          sym c.are_bytes.ensures.read
          ∙ ap as_bytes (ap₂ (λ (n : ℕ) (l : List ℕ). take n (drop i.read l)) one c.as_slice.ensures.value
          ∙ sym (given i.taken.items rest i.read c.args.len count there is left all)) in
          silent_by s (settled live procs [] s lines (reads (scene_of s) c.args.to c.args.address (min c.args.len (length s.input)))) _ _
          (ap (λ (n : ℕ). settled live procs [] s lines (reads (scene_of s) c.args.to c.args.address n))
          (counted i.taken.items rest i.read c.args.len count there is left all))
          (same_state _ _ refl
          (sym (c.fill.ensures ∙ ap (with_bytes (space_is run.space) c.args.address) bytes))
          (behind i.taken.items rest i.read c.args.len count there is left all)
          (ap (λ (v : Vars). record s.frame { left = lines; vars = v }) (sym c.in-Ok.ensures)) refl);
      wants = tt;
      kept = record { taken = refl; ended = refl; within = λ h. omega (arith, is, left, i.taken.ok.0, h) };
    }
