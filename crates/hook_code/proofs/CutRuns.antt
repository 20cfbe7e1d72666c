-- What makes a sequence shorter keeps its promise.
use Rattle.std.proofs.Common.{◌≡◌, ℕ, zero, suc, ◌+◌, ◌*◌, ◌^◌, ◌<◌, ◌≤◌, Bool, true, List, [], ◌∷◌, Option, Some, None}
use Rattle.std.proofs.Common.{refl, sym, subst, ◌∙◌, arith, le_refl, inr}
use Rattle.std.specs.Prelude.{slice_get, nat_le, option_map}
use Rattle.std.proofs.lemmas.Bool.{false≢true}
use Rattle.nim_types.specs.declared.types.TypeDef.{TypeDef}
use Rattle.nim_types.specs.declared.types.TypeDef.TheVariants as D
use Rattle.nim_types.specs.declared.types.TheConstants.{LIST_BYTES}
use Rattle.nim_meaning.specs.Values.{Location, length_of}
use Rattle.nim_meaning.specs.State.{World, load}
use Rattle.nim_meaning.specs.Deeds.{Done, Answers, Finishes, Fails, perform, behind as later_by, sees}
use Rattle.nim_meaning.specs.OwnedRows.{cut}
use Rattle.flat_code.specs.Scene.{Known, known_in, Temps}
use Rattle.flat_code.specs.Lines.{form_in}
use Rattle.rv32_isa.specs.Machine.{Lives}
use Rattle.word_code.specs.declared.word.WordInstr.{WordInstr}
use Rattle.word_code.specs.declared.word.WordInstr.TheVariants as W
use Rattle.word_code.specs.declared.word.WordProc.{WordProc}
use Rattle.word_code.specs.Memory.{Memory, with_places}
use Rattle.word_code.specs.Words.{Vars, put, no_words, params_of, WordState, Fresh, from_proc}
use Rattle.word_code.proofs.ForCallers.{Runs, Within, at, run_copy}
use Rattle.word_code.specs.Joined.{moved}
use Rattle.hook_lifting.specs.declared.lifted.Hook.{Hook}
use Rattle.hook_lifting.specs.declared.lifted.Hook.TheVariants.{Ends}
use Rattle.hook_lifting.specs.declared.lifted.LiftedLine.{LiftedLine}
use Rattle.hook_lifting.specs.Lifted.{cut_lines}
use Rattle.hook_lifting.specs.Lifting.{comes_to, begun_with, place_and_count}
use Rattle.hook_lifting.specs.Weights.{price, least_pace, Weighs, is_built}
use Rattle.hook_lifting.specs.Doing.{Does_cut}
use Rattle.nim_types.specs.Forms.{hooked}
use Rattle.flat_code.specs.Running.{Machine}
use Rattle.hook_code.specs.declared.numbers.TheConstants.{COUNT}
use Rattle.hook_code.specs.HookCode.{lines_code, cut_number, proc_with}
use Rattle.hook_code.specs.Surroundings.{Hand, Surroundings}
use Rattle.hook_code.specs.Promises.{IsCalled, Comes, AnyWord, Routines}
use Rattle.hook_code.proofs.Env.{Env}
use Rattle.hook_code.proofs.Known.{put_word, put_there, Knows, AtPlace, HasCount, none_some, same_some}
use Rattle.hook_code.proofs.Lines.{Before, state}
use Rattle.hook_code.proofs.CallRuns.{MayDo}
use Rattle.hook_code.proofs.Follow.{Ends_in, ends_later, follows}
use Rattle.hook_code.proofs.HookRuns.{inner, top_small, own_small, left, To_come, together}
use Rattle.hook_code.proofs.Fitting.{at_labels_of, cut_at, cut_count, cut_counted, cut_env, ended_pair, cutting_fits, cut_distinct}

module _ (table : List TypeDef) (z : Surroundings table) (live : Lives) (procs : List WordProc) (fresh : Fresh) (first ty chain pace : ℕ)
    (steep : least_pace ≤ pace) (routines : Routines table z live procs fresh) (el : ℕ) (typed : slice_get table ty ≡ Some (D.Seq el)) (shift : ℕ)
    (others : List WordProc) where
  abbrev known : Known
  known = known_in table

  abbrev number : ℕ
  number = cut_number first ty

  abbrev lines : List LiftedLine
  lines = cut_lines el

  abbrev body : List WordInstr
  body = lines_code table first ty lines []

  abbrev code : List WordInstr
  code = W.Copy COUNT 1 ∷ body

  abbrev labels : ℕ → Env
  labels name = at_labels_of (cut_at ty) cut_count (ended_pair ty) name

  module _ (there : from_proc number procs ≡ moved shift (proc_with number code) ∷ others) (law : Does_cut known el lines)
      (built : is_built (form_in known el) ≡ true)
      (hooks : hooked (form_in known el) ≡ true) (low top : ℕ) (h : Hand) (d : z.Blocks)
      (w : World) (s : ℕ × WordState) (to : ℕ) (rest : List WordInstr) (l : Location) (a n : ℕ)
      (called : IsCalled table z live procs fresh number (a ∷ n ∷ []) low top h d w s to rest) (leads_to : z.Leads true h d l a ty) (few : n < 2 ^ 32)
      (enough : nat_le n (length_of (load w l)) ≡ true)
      (fits : top + LIST_BYTES * suc chain ≤ z.limit) where
    abbrev c : Within
    c = inner table z live procs fresh first ty chain 0 pace steep routines Ends number code shift others there low top h d w s to rest (a ∷ n ∷ []) called fits

    abbrev small : top < 2 ^ 32
    small = own_small table z live procs fresh first ty chain 0 pace steep routines Ends number code shift others there low top h d w s to rest (a ∷ n ∷ [])
        called fits

    abbrev left_here : top + LIST_BYTES + LIST_BYTES * chain ≤ z.limit
    left_here = left table z live procs fresh first ty chain 0 pace steep routines Ends number code shift others there low top h d w s to rest (a ∷ n ∷ [])
        called fits

    abbrev pub May_here : Hook → ℕ → Type 0
    May_here = MayDo table z live procs fresh h top c d labels first ty 0 refl small refl chain pace steep left_here routines

    abbrev vars : Vars
    vars = params_of (proc_with number code) s.1.frame.given

    abbrev memory : Memory
    memory = with_places s.1.memory LIST_BYTES (fresh s.0)

    abbrev begun : Temps
    begun = place_and_count l n

    -- the second argument comes to the variable with how many are kept
    copied : Runs live procs 1 (at (record c { awaits = 0 }) memory code vars no_words) (at (record c { awaits = 0 }) memory body (put vars COUNT n) no_words)
    copied = run_copy live procs (record c { awaits = 0 }) memory body vars no_words COUNT 1 called.calling.given.1.0

    abbrev Entered : Type 0
    Entered = Before table z live procs fresh h top c d labels (cut_env ty) begun w

    knows_first : Knows table z h top d (cut_env ty) begun (put vars COUNT n)
    knows_first = record {
      at = by_place;
      counts = λ t is. subst (λ i. HasCount table z h top begun (put vars COUNT n) i) (sym (cut_counted t is)) (record {
        is = inr (inr refl);
        number = n;
        small = few;
        value = refl;
        variable = put_word vars COUNT n few;
      });
      has = λ t x is. absurd (none_some is);
      small = λ is. absurd (false≢true is);
      begun = λ t is. absurd (none_some is);
    }
      where
        by_place : (j : ℕ) (t : Bool × ℕ) → cut_at ty j ≡ Some t → AtPlace table z h top d begun (put vars COUNT n) j t
        by_place zero t is = record {
          few = omega arith;
          location = l;
          address = a;
          place = refl;
          variable = put_there vars COUNT n 0 (λ e. omega (arith, e)) ∙ called.calling.given.0;
          leads = subst (λ (i : Bool × ℕ). z.Leads i.0 h d l a i.1) (same_some (true, ty) t is) leads_to;
        }
        by_place (suc j) t is = absurd (none_some is)

    abbrev entered : Entered
    entered = record {
      done = (copied.by fresh (suc s.0)).0;
      memory = memory;
      vars = put vars COUNT n;
      given = no_words;
      awaits = 0;
      blocks = d;
      ahead = z.same d;
      here = z.enters low top h d w s.1.memory called.here
          (top_small table z live procs fresh first ty chain 0 pace steep routines Ends number code shift others there low top h d w s to rest (a ∷ n ∷ [])
          called fits) (fresh s.0);
      knows = knows_first;
    }

    module _ (can : May_here Ends el) where
      abbrev begins : Machine LiftedLine
      begins = begun_with begun lines 0 w

      abbrev came : Option (Done (Unit {0}))
      came = comes_to known (law pace steep 0 l n w enough).0 begins

      abbrev cost : ℕ
      cost = price known pace (law pace steep 0 l n w enough).0 begins

      abbrev Come : Option (Done (Unit {0})) → (most : ℕ) → Type 0
      Come o most =
          To_come table z live procs fresh first ty chain 0 pace steep routines Ends number code shift others there low top h d w s to rest (a ∷ n ∷ [])
          called fits
          labels o most

      behind_copy : Ends_in table z live procs fresh h top c d labels first ty 0 refl small refl chain pace steep left_here routines came
          (state table z live procs fresh h top c d labels entered body) cost
      behind_copy =
          let fit = cutting_fits table ty labels May_here el typed refl refl can in
          follows table z live procs fresh h top c d labels first ty 0 refl small refl chain pace steep left_here routines lines (cut_env ty) fit
          (cut_distinct el)
          (λ name t e. e) (law pace steep 0 l n w enough).0 lines fit (cut_distinct el) (λ name t e. e) entered

      -- nothing was shown and worked before
      same : (o : Option (Done (Unit {0}))) (most : ℕ) → Come (option_map (later_by [] 0) o) most → Come o most
      same None most x = x
      same (Some (Answers es m u v)) most x = x
      same (Some (Finishes es m status v)) most x = x
      same (Some (Fails es m v)) most x = x

      abbrev does_cut : Done (Unit {0})
      does_cut = perform (sees l (λ world v. cut (form_in known el) n l v)) w

      -- with the line in front of the others
      one_more : (done : Done (Unit {0})) (p : ℕ) → Weighs (pace + 2) 13 done p → Weighs (pace + 2) 14 done (1 + p)
      one_more (Answers es m u v) p h = omega (arith, h)
      one_more (Finishes es m status v) p h = omega (arith, h)
      one_more (Fails es m v) p h = tt

      pub cut_comes : Comes table z live procs fresh low top h d (AnyWord table z live procs fresh) s to rest (λ n. 15 + (pace + 2) * n) does_cut
      cut_comes =
          together table z live procs fresh first ty chain 0 pace steep routines Ends number code shift others there low top h d w s to rest (a ∷ n ∷ []) called
          fits labels (pace + 2) 14 does_cut came (1 + cost) (law pace steep 0 l n w enough).1
          (one_more does_cut cost ((law pace steep 0 l n w enough).2 built hooks))
          (λ n. 15 + (pace + 2) * n) (λ n. omega arith)
          (same came (1 + cost) (ends_later table z live procs fresh h top c d labels first ty 0 refl small refl chain pace steep left_here routines 1 1 0 cost
          (le_refl 1) _ _ (copied.by fresh (suc s.0)).1 [] refl came behind_copy))
