-- The stack of word code whose procedures and chains of calls take little is one that a machine may have.
use Rattle.std.proofs.Common.{◌≡◌, ◌≤◌, ℕ, true, suc, ◌+◌, ◌*◌, ◌%◌, ◌==◌, List, [], ◌∷◌, sym, ap, subst, ◌∙◌, arith, inl, inr}
use Rattle.std.proofs.lemmas.Bool.{cases_Bool, cond-true, cond-false}
use Rattle.rv32_isa.specs.declared.label.LabelLine.{LabelLine}
use Rattle.rv32_isa.specs.Labels.{AreLines}
use Rattle.word_code.specs.declared.word.WordProc.{WordProc}
use Rattle.word_code.specs.declared.word.WordCode.{WordCode}
use Rattle.word_code.specs.Words.{from_proc, is_word_code}
use Rattle.word_code.specs.Sizes.{longest_chain}
use Rattle.word_code.proofs.ForCallers.{longest_times}
use Rattle.reg_scan.specs.declared.homes.Homes.{Homes}
use Rattle.rv32_codegen.specs.Stack.{frame_for, stack_need, most_size, call_size, counted_size}
use Rattle.rv32_codegen.specs.Layout.{code_size}
use Rattle.rv32_codegen.specs.Lowering.{AllHomes, CanRun, AlwaysDoes, MakeFrames}
use Rattle.rv32_codegen.specs.LineBytes.{most_bytes}
use Rattle.nim_types.specs.declared.types.TheConstants.{LIST_BYTES}
use Rattle.hook_code.specs.declared.numbers.TheConstants.{HOOK_VARIABLES}
use Rattle.word_lowering.specs.declared.lowering.TheConstants.{MOST_CHAIN}
use Rattle.word_lowering.specs.declared.may_lower.TheConstants.{MOST_FRAME}
use Rattle.word_lowering.specs.Lowers.{AreSmall}
use Rattle.word_lowering.proofs.ForCallers.{small_found}
use Rattle.core_compiler.specs.Stages.{CanLayOut, HasLines}

-- ---- frames

frame_found : (procs : List WordProc) (homes : List Homes) → AllHomes procs homes → (p : WordProc) (tail : List WordProc) →
    from_proc p.number procs ≡ p ∷ tail → frame_for procs homes p.number ≤ 4 * suc p.vars
frame_found [] homes all p tail e = absurd cc
frame_found (q ∷ procs) [] all p tail e = absurd all
frame_found (q ∷ procs) (own ∷ homes) all p tail e = elim (cases_Bool (q.number == p.number)) [
  | inl t ↦
      let is : q ∷ procs ≡ p ∷ tail = sym (cond-true (q.number == p.number) (q ∷ procs) (from_proc p.number procs) t) ∙ e in
      let first : q ≡ p = cc in
      let most : own.frame ≤ 4 * suc q.vars = all.0.most in
      omega (arith, cond-true (q.number == p.number) own.frame (frame_for procs homes p.number) t, most, ap (λ x. x.vars) first)
  | inr f ↦
      subst (λ n. n ≤ 4 * suc p.vars) (sym (cond-false (q.number == p.number) own.frame (frame_for procs homes p.number) f))
      (frame_found procs homes all.1 p tail (sym (cond-false (q.number == p.number) (q ∷ procs) (from_proc p.number procs) f) ∙ e))
]

-- what a call takes, its frame and its places
calls : (procs : List WordProc) (homes : List Homes) → AllHomes procs homes → AreSmall procs → most_size procs homes ≤ 4 + MOST_FRAME
calls [] [] all small = omega arith
calls [] (own ∷ homes) all small = absurd all
calls (p ∷ procs) [] all small = absurd all
calls (p ∷ procs) (own ∷ homes) all small =
    let few = small.0.together in
    let most : own.frame ≤ 4 * suc p.vars = all.0.most in
    omega (arith, few, most, calls procs homes all.1 small.1)

-- ---- the stack

module _ (procs : List WordProc) (homes : List Homes) (all : AllHomes procs homes) (small : AreSmall procs)
    (chain : longest_chain procs ≤ MOST_CHAIN) where
  -- of one that counts, with the chain of calls that it may make
  call_most : counted_size procs homes ≤ 4 + MOST_FRAME + (4 * suc HOOK_VARIABLES + LIST_BYTES) * MOST_CHAIN
  call_most =
      let own = calls procs homes all small in
      let behind = longest_times procs (call_size procs homes) (4 * suc HOOK_VARIABLES + LIST_BYTES) (λ p tail e f.
      let few = ((small_found p.number procs p tail e small).uncounted f).variables in
      let room = ((small_found p.number procs p tail e small).uncounted f).room in
      omega (arith, frame_found procs homes all p tail e, few, room)) in
      omega (arith, own, behind, chain)

  pub stack_most : stack_need procs homes ≤ 268435456
  stack_most = omega (arith, call_most)

stack_whole : (procs : List WordProc) (homes : List Homes) → stack_need procs homes % 16 ≡ 0
stack_whole procs homes = omega arith

pub can_run : (words : WordCode) (homes : List Homes) → AllHomes words.procs homes → CanLayOut words → (heap : ℕ) → heap ≤ 16777216 →
    CanRun words homes heap (stack_need words.procs homes)
can_run words homes all can heap few = record {
  no_circle = can.no_circle;
  statics_most = can.statics_most;
  heap_most = few;
  stack_whole = stack_whole words.procs homes;
  stack_least = omega arith;
  stack_most = stack_most words.procs homes all can.small can.chain;
}

-- label code of word code, as `code` gives it
abbrev pub has_lines : (words : WordCode) (homes : List Homes) (lines : List LabelLine) (bytes : ℕ) → AllHomes words.procs homes → CanLayOut words →
    AreLines lines → AlwaysDoes lines words homes → (is_word_code words ≡ true → MakeFrames lines words.procs homes) → code_size lines ≡ bytes →
    bytes ≤ most_bytes words.procs → HasLines words bytes
has_lines words homes lines bytes all can fits does frames size bound = record {
  homes = homes;
  lines = lines;
  code = record { right = all; fits = fits; does = does; frames = frames can.formed; can = can_run words homes all can };
  size = size;
  bound = bound;
}
