-- Pruned code does what the code does, from its start on.
use Rattle.std.proofs.Common.{◌≡◌, ℕ, ◌+◌, List, [], ◌∷◌, Bool, true, false, Some, None, refl, sym, ap, ap₂, ◌∙◌, replicate}
use Rattle.std.specs.Prelude.{◌&&◌}
use Rattle.arc_base.specs.Stepping.{behaviour, run}
use Rattle.rv32_isa.specs.Machine.{Lives}
use Rattle.word_code.specs.declared.word.WordCode.{WordCode}
use Rattle.word_code.specs.declared.word.WordProc.{WordProc}
use Rattle.rv32_isa.specs.Image.{stack_at}
use Rattle.word_code.specs.declared.word.TheConstants.{SPARE_ROOM}
use Rattle.word_code.specs.Memory.{data_of}
use Rattle.word_code.specs.Words.{Fresh, WordState, from_proc, first_of, is_word_code, are_procs, may_start, if_formed, start, step_of, no_words}
use Rattle.word_code.specs.Words.{word_meaning, word_by_units}
use Rattle.reachable_procs.specs.Reachable.{IsPruned, kept, lines_from, the_start}
use Rattle.reachable_procs.proofs.Following.{IsReaching, MayCall, kept_first, same_first, callee_may, run_same}
use Rattle.reachable_procs.proofs.Shapes.{kept_formed}

both : (a b : Bool) → (a && b) ≡ true → (a ≡ true) × (b ≡ true)
both true b e = (refl, e)
both false b e = cc

both_so : (a b : Bool) → a ≡ true → b ≡ true → (a && b) ≡ true
both_so a b e f = ap (λ x. x && b) e ∙ f

module _ (code pruned : WordCode) (h : IsPruned code pruned) where
  first_is : first_of (from_proc 0 pruned.procs) ≡ first_of (from_proc 0 code.procs)
  first_is =
      ap (λ (ps : List WordProc). first_of (from_proc 0 ps)) h.procs
      ∙ same_first (from_proc 0 (kept h.numbers code.procs)) (from_proc 0 code.procs) (kept_first h.numbers code.procs 0 (h.reached.all 0 the_start))

  pub pruned_formed : is_word_code code ≡ true → is_word_code pruned ≡ true
  pruned_formed e =
      let is = both (are_procs code.procs) (may_start (first_of (from_proc 0 code.procs)).kind) e in
      both_so (are_procs pruned.procs) (may_start (first_of (from_proc 0 pruned.procs)).kind)
      (ap are_procs h.procs ∙ kept_formed h.numbers code.procs is.0) (ap (λ (p : WordProc). may_start p.kind) first_is ∙ is.1)

  same_start : (heap stack : ℕ) (input : List ℕ) → start pruned heap stack input ≡ start code heap stack input
  unfolding start
  same_start heap stack input =
      ap₂ (λ (p : WordProc) (own : List ℕ). started p own) first_is h.statics
    where
      started : WordProc → List ℕ → WordState
      started p own = record {
        units = None;
        memory = record { statics = data_of heap stack own; heap = replicate heap 0; places = replicate (p.room + SPARE_ROOM) 0 };
        input = input;
        frame = record { proc = p; left = p.lines; vars = no_words; given = no_words; base = stack_at; awaits = 0 };
        callers = [];
      }

  module _ (live : Lives) where
    first_may : (ps : List WordProc) → MayCall live code.procs h.numbers h.reached (lines_from ps)
        → MayCall live code.procs h.numbers h.reached (first_of ps).lines
    first_may [] may = may
    first_may (p ∷ ps) may = may

    may_all : MayCall live code.procs h.numbers h.reached (first_of (from_proc 0 code.procs)).lines
    may_all = first_may (from_proc 0 code.procs) (callee_may live code.procs h.numbers h.reached 0 (h.reached.all 0 the_start))

    start_reaches : (heap stack : ℕ) (input : List ℕ) → IsReaching live code.procs h.numbers h.reached (start code heap stack input)
    unfolding start
    start_reaches heap stack input = ((may_all, may_all), tt)

    module _ (formed : is_word_code code ≡ true) (fresh : Fresh) where
      -- from states that are the same
      pub run_pruned : (n : ℕ) (s t : WordState) → s ≡ t → IsReaching live code.procs h.numbers h.reached t
          → if_formed (is_word_code pruned) (behaviour (step_of live pruned.procs fresh) (0, s)) n
          ≡ if_formed (is_word_code code) (behaviour (step_of live code.procs fresh) (0, t)) n
      run_pruned n s t e reaches =
          ap (λ b. if_formed b (behaviour (step_of live pruned.procs fresh) (0, s)) n) (pruned_formed formed)
          ∙ ap₂ (λ (ps : List WordProc) (u : WordState). run (step_of live ps fresh) n (0, u) [] 0) h.procs e
          ∙ run_same live code.procs h.numbers h.reached fresh n 0 t [] 0 reaches
          ∙ sym (ap (λ b. if_formed b (behaviour (step_of live code.procs fresh) (0, t)) n) formed)

  pub same_meaning : is_word_code code ≡ true → (live : Lives) (fresh : Fresh) (heap stack : ℕ) (input : List ℕ) (n : ℕ)
      → word_meaning live pruned fresh heap stack input n ≡ word_meaning live code fresh heap stack input n
  same_meaning formed live fresh heap stack input n =
      run_pruned live formed fresh n _ _ (same_start heap stack input) (start_reaches live heap stack input)

  pub same_by_units : is_word_code code ≡ true → (live : Lives) (fresh : Fresh) (heap stack : ℕ) (input : List ℕ) (units n : ℕ)
      → word_by_units live pruned fresh heap stack input units n ≡ word_by_units live code fresh heap stack input units n
  same_by_units formed live fresh heap stack input units n =
      run_pruned live formed fresh n _ _ (ap (λ (s : WordState). record s { units = Some units }) (same_start heap stack input))
      (start_reaches live heap stack input)
