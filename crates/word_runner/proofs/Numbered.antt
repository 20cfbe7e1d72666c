-- Word code by units where nobody has written, line by line.
use Rattle.std.proofs.Common.{◌≡◌, ℕ, zero, suc, ◌+◌, Bool, true, List, [], ◌++◌, refl, ap, ◌∙◌, Some}
use Rattle.arc_base.specs.Event.{Event}
use Rattle.arc_base.specs.Stepping.{Next, Goes, Ends, Faults, Errs, next_map, after, run, behaviour}
use Rattle.rv32_isa.specs.Machine.{Lives}
use Rattle.word_code.specs.declared.word.WordProc.{WordProc}
use Rattle.word_code.specs.declared.word.WordCode.{WordCode}
use Rattle.word_code.specs.Words.{WordState, if_formed, is_word_code, start, step, step_of}
use Rattle.word_runner.specs.Mean.{no_fresh, shown_by}

module _ (live : Lives) (procs : List WordProc) where
  one_more : (n k : ℕ) → ((k : ℕ) (s : WordState) (out : List Event) (done : ℕ)
      → run (step_of live procs no_fresh) n (k, s) out done ≡ run (step live procs []) n s out done)
      → (r : Next Event WordState) (out : List Event) (done : ℕ)
      → after (next_map (λ t. (suc k, t)) r) (run (step_of live procs no_fresh) n) out done ≡ after r (run (step live procs []) n) out done
  one_more n k more (Goes es w t) out done = more (suc k) t (out ++ es) (done + w)
  one_more n k more (Ends es w status live) out done = refl
  one_more n k more Faults out done = refl
  one_more n k more Errs out done = refl

  numbered : (n k : ℕ) (s : WordState) (out : List Event) (done : ℕ)
      → run (step_of live procs no_fresh) n (k, s) out done ≡ run (step live procs []) n s out done
  numbered zero k s out done = refl
  numbered (suc n) k s out done = one_more n k (numbered n) (step live procs [] s) out done

-- what is seen of it
pub shown_is : (live : Lives) (code : WordCode) (heap units : ℕ) (input : List ℕ) (n : ℕ) → is_word_code code ≡ true
    → shown_by live code heap units input n ≡ run (step live code.procs []) n (record (start code heap 0 input) { units = Some units }) [] 0
shown_is live code heap units input n e =
    let first : WordState = record (start code heap 0 input) { units = Some units } in
    ap (λ (b : Bool). if_formed b (behaviour (step_of live code.procs no_fresh) (0, first)) n) e ∙ numbered live code.procs n 0 first [] 0
